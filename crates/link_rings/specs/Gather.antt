-- Two ends of one link that were put side by side, and the one order of their logs.
use Rattle.std.specs.Prelude.{◌≡◌, ℕ, Option, List, [], ◌∷◌, length, map}
use Rattle.laws_merge.specs.Machine.{Input}
use Rattle.laws_merge.specs.Logs.{number_of, Fit}
use Rattle.laws_merge.specs.Merge.{merge, view_by}
use Rattle.laws_merge.specs.Laws.{merged, MergeInterleaves}
use Rattle.laws_merge.specs.declared.merge.OneOf.{OneOf}
use Rattle.link_rings.specs.declared.entry.Entry.{Entry}
use Rattle.link_rings.specs.Logs.{cause_by, party, entry_of, log_of}
use Rattle.link_rings.specs.Entries.{Place}
use Rattle.link_rings.specs.Kept.{Runs}

-- Each side as it was handed in, the side as it is, and its log.
pub record Both (P N : Type 0) : Type 0 where
  pub start_a : P
  pub side_a : P
  pub log_a : List (Entry N)
  pub start_b : P
  pub side_b : P
  pub log_b : List (Entry N)

-- The number of the frame that an entry received.
abbrev pub waits : {C M N : Type 0} → (N → Input C M) → Entry N → Option ℕ
waits input e = number_of (cause_by e.seq e.ack (input e.note))

-- How many frames it made.
abbrev pub makes : {M N : Type 0} → (N → List M) → Entry N → ℕ
makes sends e = length (sends e.note)

-- The entries of both logs in the one order.
abbrev pub order : {C M N : Type 0} → (N → Input C M) → (N → List M) → List (Entry N) → List (Entry N) → List (OneOf (Entry N) (Entry N))
order input sends xs ys = merge (waits input) (makes sends) 0 xs ys

-- What reads entries one after another read all these.
abbrev pub ReadsAll : {V E : Type 0} → (V → E → V → Type 0) → V → List E → V → Type 0
ReadsAll reads old [] new = new ≡ old
ReadsAll reads old (e ∷ es) new = (mid : _) × reads old e mid × ReadsAll reads mid es new

module _ {S C M N : Type 0} (input : N → Input C M) (sends : N → List M) (step : S → N → S → Type 0) where
  -- Both logs are lawful, their acks were looked at, and they fit.
  pub record IsGathered (start_a start_b : S) (a b : Place S M N) : Type 0 where
    pub runs_a : Runs input sends step start_a a
    pub runs_b : Runs input sends step start_b b
    pub fit : Fit {A = party input sends step} {B = party input sends step} (log_of input sends step a.log) (log_of input sends step b.log)

  -- The one order has each entry of both logs, in order, and is a run of the pair machine from where the sides were
  -- handed in, with nothing on its way, to where they are, with what was made and not received on its way.
  pub record IsExplained (start_a start_b now_a now_b : S) (xs ys : List (Entry N)) : Type 0 where
    pub fit : Fit {A = party input sends step} {B = party input sends step} (log_of input sends step xs) (log_of input sends step ys)
    pub order_is : map (view_by (entry_of input sends step) (entry_of input sends step)) (order input sends xs ys) ≡ merged {A = party input sends step} {B = party input sends step} (log_of input sends step xs) (log_of input sends step ys)
    pub explains : MergeInterleaves (party input sends step) (party input sends step) start_a start_b (log_of input sends step xs) (log_of input sends step ys) now_a now_b fit.to_a.0 fit.to_b.0
