-- What is noted stays an id.
use Rattle.std.proofs.Common.{ℕ, ◌<◌, Bool, true, false, cond, nat_le, [], ◌∷◌, Option, None, Some}
use Rattle.std.proofs.lemmas.List.Elements.{All-nil, All-cons, All-append, All-push}
use Rattle.core_refcounts.specs.Names.{Counted, noted_by, lowered, noting, HasIds}
use Rattle.std.specs.FinMap as map

abbrev IsId : ℕ → Type 0
IsId k = k < 4294967296

ids_by : (k : ℕ) (o : Option ℕ) → IsId k → HasIds (noted_by k o)
ids_by k None fits = All-nil IsId
ids_by k (Some n) fits = by (nat_le n 1)
  where
    by : (b : Bool) → HasIds (cond b (k ∷ []) [])
    by true = All-cons IsId k [] fits (All-nil IsId)
    by false = All-nil IsId

pub ids_lowered : (c : Counted) (k : ℕ) → IsId k → HasIds c.noted → HasIds (lowered c k).noted
ids_lowered c k fits h = All-append IsId c.noted (noted_by k (map.get c.counts k)) h (ids_by k (map.get c.counts k) fits)

pub ids_noting : (c : Counted) (k : ℕ) → IsId k → HasIds c.noted → HasIds (noting c k).noted
ids_noting c k fits h = All-push IsId c.noted k h fits
