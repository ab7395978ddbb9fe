-- A call through a reference under an embargo waits there.
use Rattle.std.proofs.Common.{◌≡◌, ℕ, [], ◌∷◌, ◌++◌, Option, Some, ap, subst, ◌∙◌}
use Rattle.std.specs.FinMap as map
use Rattle.rpc_msg.specs.declared.ids.EmbargoId.{EmbargoId}
use Rattle.rpc_machine.specs.declared.command.Command.TheVariants as command
use Rattle.rpc_machine.specs.declared.command.CallCommand.{CallCommand}
use Rattle.rpc_machine.specs.declared.command.Granted.{Granted}
use Rattle.rpc_machine.specs.declared.command.Effects.{Effects}
use Rattle.rpc_machine.specs.declared.calls.WaitingCall.{WaitingCall}
use Rattle.rpc_machine.specs.declared.entries.Reference.{Reference}
use Rattle.rpc_machine.specs.declared.entries.Embargo.{Embargo}
use Rattle.rpc_machine.specs.State.{State}
use Rattle.rpc_machine.specs.Progress.{Progress, begin, with_state}
use Rattle.rpc_machine.specs.Commands.{counted, request, kept, WaitsForEmbargo, CallsThrough, MakesCall}
use Rattle.rpc_machine.specs.Steps.{Does}
use Rattle.rpc_machine_examples.specs.SteadyPaths.{called}
use Rattle.rpc_machine_examples.proofs.EndOfStep.{ends_quietly}
use Rattle.rpc_machine_examples.proofs.StoppingAtWires.{no_calls}
use Rattle.rpc_machine_examples.proofs.TurningBack.{get_put_same}

pub call_waits : (s : State) (c : CallCommand) (g : Granted) (fx : Effects) (new : State) (x : Reference) (e : EmbargoId) (b : Embargo) → Does s (command.Call c) g fx new → map.get s.refs c.reference.0 ≡ Some x → x.embargo ≡ Some e → map.get s.embargoes e.0 ≡ Some b → (called fx.sends ≡ []) × (fx.deliveries ≡ []) × ((o : ℕ) × (map.get new.embargoes e.0 ≡ Some (record b { waiting = b.waiting ++ record { request = request s c x; outcome = o } ∷ [] })))
call_waits s c g fx new x e b h there under stands =
    let a : MakesCall (begin s) c (Some x) g h.acted = subst (λ (o : Option Reference). MakesCall (begin s) c o g h.acted) there h.acts in
    let d : Progress = with_state (begin s) (counted s c.reference.0 x) in
    let k : CallsThrough d s.next_call (request s c x) x.head (Some e) h.acted = subst (λ (o : Option EmbargoId). CallsThrough d s.next_call (request s c x) x.head o h.acted) under a.1 in
    let w : WaitingCall = record { request = request s c x; outcome = k.0 } in
    let from : Progress = kept d s.next_call k.0 in
    let held : Embargo = record b { waiting = b.waiting ++ w ∷ [] } in
    let f : h.acted ≡ with_state from (record (from.state) { embargoes = map.insert s.embargoes e.0 held }) = subst (λ (o : Option Embargo). WaitsForEmbargo from w e.0 o h.acted) stands k.2 in
    let ends = ends_quietly h.acted fx new h.ends (ap (λ (p : Progress). p.arisen) f) in
    let rest = ends.0 in
    let more = ends.3 in (
      ap called (more.2 ∙ ap (λ (p : Progress). p.effects.sends ++ more.0) f) ∙ no_calls more.0 more.1,
      ends.1 ∙ ap (λ (p : Progress). p.effects.deliveries) f,
      (k.0, ap (λ j. map.get j e.0) (rest.0 ∙ ap (λ (p : Progress). p.state.embargoes) f) ∙ get_put_same s.embargoes e.0 held),
    )
