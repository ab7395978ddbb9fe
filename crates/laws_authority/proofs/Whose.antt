-- Each delivery of a step is of a call of the peer's, or of one of the application's.
use Rattle.std.proofs.Common.{◌≡◌, ◌⊎◌, inl, inr, ℕ, true, false, Option, None, Some, IsSome, refl, sym, ap, subst, arith}
use Rattle.std.specs.FinMap as map
use Rattle.finite_maps.proofs.Tallies.{tally-within}
use Rattle.finite_maps.proofs.Tested.{itself}
use Rattle.rpc_machine.specs.rpc_journal.specs.declared.report.Delivery.{Delivery}
use Rattle.rpc_machine.specs.declared.calls.Caller.{Caller}
use Rattle.rpc_machine.specs.declared.calls.Caller.TheVariants as caller
use Rattle.rpc_machine.specs.declared.calls.KeptOutcome.{KeptOutcome}
use Rattle.rpc_machine.specs.State.{State, start}
use Rattle.rpc_machine.specs.Down.{fallen}
use Rattle.laws_steps.specs.NodesThere.{ComesTo, Stays, IsReached}
use Rattle.laws_steps.specs.NodesThere as comes
use Rattle.laws_nodes.specs.Ones.{one_if}
use Rattle.laws_nodes.specs.Sources.{is_key, sources, HasOneSource}
use Rattle.laws_nodes.proofs.Sourced.{has_one}
use Rattle.laws_authority.specs.Reach.{IsPeer, IsForPeer}
use Rattle.laws_authority.specs.Authority.{IsOfPeer, IsApplication, IsForApplication, IsOwn, EachIsOfPeerOrOwn}
use Rattle.laws_authority.proofs.Waiting.{no_source}
use Rattle.laws_authority.proofs.Running.{of_command, of_message, whole}

further : (last t s : State) → ComesTo last s → ComesTo t last → ComesTo t s
further last t s Stays k = k
further last t s (comes.Commanded {mid = mid} c a x o more) k = comes.Commanded c a x o (further last t mid more k)
further last t s (comes.Received {mid = mid} m x o more) k = comes.Received m x o (further last t mid more k)
further last t s (comes.Fell n more) k = comes.Fell n (further last t (fallen s n) more k)

reached_by : (s t : State) → IsReached s → ComesTo t s → IsReached t
reached_by s t i k = (i.0, i.1, i.2, further s t (start i.0 i.1 i.2) i.3 k)

-- A task's outcome is there.
its_outcome : (t : State) → HasOneSource t → (k o : ℕ) → map.get t.tasks k ≡ Some o → map.get t.outcomes o ≡ None → ⊥
its_outcome t one k o e f =
    let a : sources o t ≡ 0 = no_source t one o f in
    let b = tally-within (is_key o) t.tasks k o e in
    let c : is_key o o ≡ 1 = ap one_if (itself o) in
    absurd (omega arith)

of_one : (t : State) → HasOneSource t → (y : Delivery) → IsSome (map.get t.tasks y.task.0) → IsOfPeer t y ⊎ IsOwn t y
of_one t one y some = by (map.get t.tasks y.task.0) refl some
  where
    who : (o : ℕ) (x : KeptOutcome) (w : Caller) → map.get t.tasks y.task.0 ≡ Some o → map.get t.outcomes o ≡ Some x → x.caller ≡ w → IsOfPeer t y ⊎ IsOwn t y
    who o x (caller.Application c) e f g = inr (o, e, subst IsForApplication (sym f) (subst IsApplication (sym g) tt))
    who o x (caller.Peer q) e f g = inl (o, e, subst IsForPeer (sym f) (subst IsPeer (sym g) tt))

    at : (o : ℕ) (x : Option KeptOutcome) → map.get t.tasks y.task.0 ≡ Some o → map.get t.outcomes o ≡ x → IsOfPeer t y ⊎ IsOwn t y
    at o None e f = absurd (its_outcome t one y.task.0 o e f)
    at o (Some x) e f = who o x x.caller e f refl

    by : (k : Option ℕ) → map.get t.tasks y.task.0 ≡ k → IsSome k → IsOfPeer t y ⊎ IsOwn t y
    by None e i = absurd (let f : false ≡ true = i in cc)
    by (Some o) e i = at o (map.get t.outcomes o) e refl

pub each : EachIsOfPeerOrOwn
each = record {
  commands = λ s c a x t r h y i. of_one t (has_one t (reached_by s t r (comes.Commanded c a x h Stays))) y ((of_command s c a x t h).tasks y i);
  messages = λ s m x t r h y i. of_one t (has_one t (reached_by s t r (comes.Received m x h Stays))) y ((of_message s m x t (whole s r) h).tasks y i);
}
