-- A call goes on whose outcome is kept.
use Rattle.std.proofs.Common.{◌≡◌, ℕ, Option, None, Some, ap, subst}
use Rattle.std.specs.FinMap as map
use Rattle.rpc_machine.specs.declared.calls.Request.{Request}
use Rattle.rpc_machine.specs.declared.calls.WaitingCall.{WaitingCall}
use Rattle.rpc_machine.specs.declared.entries.Embargo.{Embargo}
use Rattle.rpc_machine.specs.declared.node.Node.{Node}
use Rattle.rpc_machine.specs.Progress.{Progress}
use Rattle.rpc_machine.specs.Routing.{Routes}
use Rattle.rpc_machine.specs.Commands.{kept, CallsHere, WaitsForEmbargo}
use Rattle.core_step_routes.proofs.Behind.{SamePeer}
use Rattle.core_step_commands.specs.Ways.{CallsUnder}

pub same_under : (d : Progress) (w : WaitingCall) (e : ℕ) (b : Option Embargo) (new : Progress) → WaitsForEmbargo d w e b new → SamePeer d.state new.state
same_under d w e None new h = absurd h
same_under d w e (Some b) new h = (ap (λ (n : Progress). n.state.questions) h, ap (λ (n : Progress). n.state.imports) h)

pub under_kept : (d p : Progress) (r : Request) (c o e : ℕ) (new : Progress) → map.get d.state.outcomes o ≡ None → p ≡ kept d c o
    → WaitsForEmbargo p (record { request = r; outcome = o }) e (map.get p.state.embargoes e) new → CallsUnder d c r e new
under_kept d p r c o e new free is h = (o, free, subst (λ (q : Progress). WaitsForEmbargo q (record { request = r; outcome = o }) e (map.get q.state.embargoes e) new) is h)

pub here_kept : (d p : Progress) (r : Request) (c o : ℕ) (n : Node) (new : Progress) → map.get d.state.outcomes o ≡ None → p ≡ kept d c o
    → Routes p (record { request = r; outcome = o }) n new → CallsHere d c r n new
here_kept d p r c o n new free is h = (o, free, subst (λ (q : Progress). Routes q (record { request = r; outcome = o }) n new) is h)
