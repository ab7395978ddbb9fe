-- What is held agrees with the tail calls, over a change at one answer; and what a Finish takes off.
use Rattle.std.proofs.Common.{◌≡◌, ◌≢◌, ℕ, ◌+◌, true, false, List, [], Some, None, refl, sym, subst, ap, ◌∙◌}
use Rattle.std.specs.Prelude.{Option, Bool, IsSome, if◌then◌else◌, is_some, unwrap_or}
use Rattle.std.specs.FinMap as finite
use Rattle.finite_maps.specs.Tally.{Map, worth}
use Rattle.finite_maps.proofs.Gets.{at_each, get-insert_other, get-insert_same, get-remove_other, get-remove_same}
use Rattle.finite_maps.proofs.Tallies.{tally-new, tally-remove}
use Rattle.rpc_msg.specs.declared.ids.ExportId.{ExportId}
use Rattle.rpc_msg.specs.declared.ids.QuestionId.{QuestionId}
use Rattle.rpc_codec.specs.Carried.{times}
use Rattle.peer_tail_calls.specs.declared.tails.Tail.{Tail}
use Rattle.peer_tail_calls.specs.Held.{AgreesAt, Held, held_of, under}

pub at_key : {o p : Option (List ℕ)} {t u : Option Tail} → o ≡ p → t ≡ u → AgreesAt p u → AgreesAt o t
at_key {o} {p} {t} {u} e f a = subst (λ (x : Option (List ℕ)). AgreesAt x t) (sym e) (subst (λ (y : Option Tail). AgreesAt p y) (sym f) a)

-- Where two maps agree, so do two others that differ at one answer and agree there.
pub both : (a : ℕ) (h k : Held) (m n : Map Tail) → ((q : ℕ) → AgreesAt (finite.get h q) (finite.get m q))
    → ((q : ℕ) → q ≢ a → finite.get k q ≡ finite.get h q) → ((q : ℕ) → q ≢ a → finite.get n q ≡ finite.get m q)
    → AgreesAt (finite.get k a) (finite.get n a) → (q : ℕ) → AgreesAt (finite.get k q) (finite.get n q)
both a h k m n agrees held tails here =
    at_each (λ q. AgreesAt (finite.get k q) (finite.get n q)) a here (λ q apart. at_key (held q apart) (tails q apart) (agrees q))

module _ (h : Held) (m : Map Tail) (agrees : (q : ℕ) → AgreesAt (finite.get h q) (finite.get m q)) (a : ℕ) where
  pub says_here : (t : Option Tail) → finite.get m a ≡ t → AgreesAt (finite.get h a) t
  says_here t is = subst (λ (y : Option Tail). AgreesAt (finite.get h a) y) is (agrees a)

  -- A tail call changes; what is held stays.
  pub tail_put : (t : Tail) → AgreesAt (finite.get h a) (Some t) → (q : ℕ) → AgreesAt (finite.get h q) (finite.get (finite.insert m a t) q)
  tail_put t here = both a h h m (finite.insert m a t) agrees (λ q apart. refl) (get-insert_other m a t) (at_key refl (get-insert_same m a t) here)

  -- A tail call is over, of which nothing is held.
  pub tail_gone : finite.get h a ≡ None → (q : ℕ) → AgreesAt (finite.get h q) (finite.get (finite.remove m a) q)
  tail_gone none = both a h h m (finite.remove m a) agrees (λ q apart. refl) (get-remove_other m a) (at_key refl (get-remove_same m a) none)

  -- A tail call is over, and nothing is held of it.
  pub both_gone : (q : ℕ) → AgreesAt (finite.get (finite.remove h a) q) (finite.get (finite.remove m a) q)
  both_gone = both a h (finite.remove h a) m (finite.remove m a) agrees (get-remove_other h a) (get-remove_other m a) (at_key (get-remove_same h a) (get-remove_same m a) refl)

  -- Nothing more is held of an answer of which nothing has to be.
  pub held_gone : AgreesAt None (finite.get m a) → (q : ℕ) → AgreesAt (finite.get (finite.remove h a) q) (finite.get m q)
  held_gone here = both a h (finite.remove h a) m m agrees (get-remove_other h a) (λ q apart. refl) (at_key (get-remove_same h a) refl here)

  -- A tail call changes, and with it what is held.
  pub both_put : (ns : List ℕ) (t : Tail) → AgreesAt (Some ns) (Some t) → (q : ℕ) → AgreesAt (finite.get (finite.insert h a ns) q) (finite.get (finite.insert m a t) q)
  both_put ns t here = both a h (finite.insert h a ns) m (finite.insert m a t) agrees (get-insert_other h a ns) (get-insert_other m a t) (at_key (get-insert_same h a ns) (get-insert_same m a t) here)

-- ---- what a Finish takes off

worth_under : (e : ExportId) (o : Option (List ℕ)) → worth (times e) o ≡ times e (unwrap_or o [])
worth_under e None = refl
worth_under e (Some ns) = refl

-- What is held is what is held of an answer and of the others.
pub apart : (e : ExportId) (h : Held) (a : QuestionId) → held_of e h ≡ times e (under h a) + held_of e (finite.remove h a.0)
apart e h a = tally-remove (times e) h a.0 ∙ ap (λ n. n + held_of e (finite.remove h a.0)) (worth_under e (finite.get h a.0))

pub none_under : (e : ExportId) (h : Held) (a : QuestionId) → finite.get h a.0 ≡ None → times e (under h a) ≡ 0
none_under e h a none = ap (λ (o : Option (List ℕ)). times e (unwrap_or o [])) none

pub some_under : (e : ExportId) (h : Held) (a : QuestionId) (ns : List ℕ) → times e (under (finite.insert h a.0 ns) a) ≡ times e ns
some_under e h a ns = ap (λ (o : Option (List ℕ)). times e (unwrap_or o [])) (get-insert_same h a.0 ns)

pub one_more : (e : ExportId) (h : Held) (a : QuestionId) (ns : List ℕ) → finite.get h a.0 ≡ None → held_of e (finite.insert h a.0 ns) ≡ times e ns + held_of e h
one_more e h a ns none = tally-new (times e) h a.0 ns none

pub if_none : (b : Bool) (n : ℕ) → n ≡ 0 → (if b then n else 0) ≡ 0
if_none true n none = none
if_none false n none = refl

pub not_some : (o : Option (List ℕ)) → o ≡ None → IsSome o → ⊥
not_some o none some = let e : false ≡ true = sym (ap (λ (x : Option (List ℕ)). is_some x) none) ∙ some in cc
