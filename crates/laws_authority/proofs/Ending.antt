-- A peer that gave all back reaches nothing.
use Rattle.std.proofs.Common.{◌≡◌, ℕ, Option, None, Some, refl, sym, ap, subst, ◌∙◌}
use Rattle.std.specs.FinMap as map
use Rattle.rpc_msg.specs.declared.message.Message.{Message}
use Rattle.rpc_machine.specs.rpc_journal.specs.declared.report.Delivery.{Delivery}
use Rattle.rpc_machine.specs.declared.node.Node.{Node}
use Rattle.rpc_machine.specs.declared.node.Node.TheVariants as node
use Rattle.rpc_machine.specs.declared.calls.WaitingCall.{WaitingCall}
use Rattle.rpc_machine.specs.declared.command.Effects.{Effects}
use Rattle.rpc_machine.specs.declared.calls.Value.{Value}
use Rattle.rpc_machine.specs.declared.calls.Caller.{Caller}
use Rattle.rpc_machine.specs.declared.calls.Caller.TheVariants as caller
use Rattle.rpc_machine.specs.declared.calls.KeptOutcome.{KeptOutcome}
use Rattle.rpc_machine.specs.State.{State}
use Rattle.rpc_machine.specs.Steps.{Receives}
use Rattle.laws_steps.specs.NodesThere.{IsReached}
use Rattle.laws_steps.specs.Callers.{IsOpenFor, AnswersWith}
use Rattle.laws_steps.proofs.Reached.{are_there}
use Rattle.laws_nodes.specs.Sources.{unknown, waits_for}
use Rattle.laws_nodes.proofs.Sourced.{has_one}
use Rattle.laws_authority.specs.Reach.{IsIn, IsPeer, IsForPeer, WaitsAt, Reaches, Exported, Answered, Awaited, CallsAt, Further}
use Rattle.laws_authority.specs.Authority.{IsOfPeer, HoldsNothing, AuthorityEnds}
use Rattle.laws_authority.proofs.Waiting.{none_waits}
use Rattle.laws_authority.proofs.Running.{of_message, whole}

module _ (s : State) (r : IsReached s) (h : HoldsNothing s) where
  no_answer : (o q : ℕ) → AnswersWith o (map.get s.answers q) → ⊥
  no_answer o q a = subst (AnswersWith o) (h.answers q) a

  open_for : (o : ℕ) (x : KeptOutcome) (w : Caller) → map.get s.outcomes o ≡ Some x → x.caller ≡ w → IsPeer w → x.value ≡ None → ⊥
  open_for o x (caller.Application c) e f p v = absurd p
  open_for o x (caller.Peer q) e f p v = no_answer o q.0 ((are_there s r).callers.outcomes o q.0 (subst (IsOpenFor q.0) (sym e) (v, f)))

  -- A call that waits is for an outcome that is not known.
  not_known : (c : WaitingCall) (n : Node) → WaitsAt s c n → (x : KeptOutcome) → map.get s.outcomes c.outcome ≡ Some x → x.value ≡ None
  not_known c n w x e = by x.value refl
    where
      by : (v : Option Value) → x.value ≡ v → v ≡ None
      by None f = refl
      by (Some v) f = absurd (none_waits s (has_one s r) c n w (ap waits_for e ∙ ap unknown f))

  waiting : (c : WaitingCall) (n : Node) → WaitsAt s c n → IsForPeer (map.get s.outcomes c.outcome) → ⊥
  waiting c n w a = by (map.get s.outcomes c.outcome) refl a
    where
      by : (x : Option KeptOutcome) → map.get s.outcomes c.outcome ≡ x → IsForPeer x → ⊥
      by None e i = absurd i
      by (Some x) e i = open_for c.outcome x x.caller e refl i (not_known c n w x e)

  pub reaches_nothing : (n : Node) → Reaches s n → ⊥
  reaches_nothing _ (Exported e x f) = let g : None ≡ Some x = sym (h.exports e) ∙ f in cc
  reaches_nothing _ (Answered q a path f) = let g : None ≡ Some a = sym (h.answers q) ∙ f in cc
  reaches_nothing _ (Awaited o x path e p v) = open_for o x x.caller e refl p v
  reaches_nothing n (CallsAt c _ w a) = waiting c n w a
  reaches_nothing m (Further n _ k e) = reaches_nothing n k

no_more : (s : State) (m : Message) (x : Effects) (t : State) → IsReached s → HoldsNothing s → Receives s m x t → (y : Delivery) → IsIn y x.deliveries → IsOfPeer t y → ⊥
no_more s m x t r h k y i p = reaches_nothing s r h (node.Object y.object) ((of_message s m x t (whole s r) k).deliveries y i p)

pub over : AuthorityEnds
over = record { nothing = λ s r h n k. reaches_nothing s r h n k; messages = no_more }
