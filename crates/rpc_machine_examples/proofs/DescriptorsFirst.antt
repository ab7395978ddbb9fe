-- A received Return takes its descriptors, and then obeys its flag.
use Rattle.std.proofs.Common.{◌≡◌, Bool, true, false, [], ◌∷◌, Option, None, Some, refl, ap, subst, ◌∙◌}
use Rattle.std.specs.FinMap as map
use Rattle.rpc_msg.specs.Payloads.{Contents as Payload}
use Rattle.rpc_msg.specs.declared.ids.CallId.{CallId}
use Rattle.rpc_msg.specs.declared.ids.ExportId.{ExportId}
use Rattle.rpc_msg.specs.declared.ids.QuestionId.{QuestionId}
use Rattle.rpc_msg.specs.declared.parts.Descriptor.TheVariants as descriptor
use Rattle.rpc_msg.specs.declared.message.Return.{Return}
use Rattle.rpc_msg.specs.declared.message.ReturnBody.TheVariants as body
use Rattle.rpc_msg.specs.declared.message.PlainMessage.TheVariants as plain
use Rattle.rpc_msg.specs.declared.message.Message.TheVariants as message
use Rattle.rpc_machine.specs.declared.node.Node.{Node}
use Rattle.rpc_machine.specs.declared.command.Level.{Level}
use Rattle.rpc_machine.specs.declared.command.Level.TheVariants.{Zero, One}
use Rattle.rpc_machine.specs.declared.command.Effects.{Effects}
use Rattle.rpc_machine.specs.declared.calls.OwnCall.{OwnCall}
use Rattle.rpc_machine.specs.declared.calls.Value.{Value}
use Rattle.rpc_machine.specs.declared.calls.Value.TheVariants as value
use Rattle.rpc_machine.specs.declared.entries.Role.{Role}
use Rattle.rpc_machine.specs.declared.entries.Role.TheVariants as role
use Rattle.rpc_machine.specs.declared.entries.Finishing.{Finishing}
use Rattle.rpc_machine.specs.declared.entries.Finishing.TheVariants as finishing
use Rattle.rpc_machine.specs.declared.entries.Returned.{Returned}
use Rattle.rpc_machine.specs.declared.entries.Question.{Question}
use Rattle.rpc_machine.specs.declared.entries.Export.{Export}
use Rattle.rpc_machine.specs.State.{State}
use Rattle.rpc_machine.specs.Progress.{Progress, begin, with_state, numbers}
use Rattle.rpc_machine.specs.Descriptors.{export_node, read, read_at, take_at}
use Rattle.rpc_machine.specs.Flags.{obey, lower_each}
use Rattle.rpc_machine.specs.Settling.{report, TellsCall}
use Rattle.rpc_machine.specs.Messages.{results_of, kept_returned, ComesFor, ComesBack, TakesReturn, TakesUnless}
use Rattle.rpc_machine.specs.Faults.{is_foreign}
use Rattle.rpc_machine.specs.Steps.{Handles}
use Rattle.rpc_machine_examples.proofs.EndOfStep.{ends_quietly}
use Rattle.rpc_machine_examples.proofs.TurningBack.{get_put_same}

pub understood : (l : Level) (r : Return) → is_foreign l (plain.Return r) ≡ false
understood Zero r = refl
understood One r = refl

nothing_taken : (l : Level) (s : State) (e : ExportId) → take_at l s (descriptor.ReceiverHosted e ∷ []) ≡ s
nothing_taken Zero s e = refl
nothing_taken One s e = refl

pub descriptors_first : (s : State) (q : QuestionId) (payload : Payload) (e : ExportId) (x : Question) (y : Export) (c : CallId) (from : OwnCall) (fx : Effects) (new : State) → s.level ≡ One → map.get s.questions q.0 ≡ Some x → x.role ≡ role.Direct c → x.finish ≡ finishing.Owed → map.get s.calls c.0 ≡ Some from → map.get s.exports e.0 ≡ Some y → Handles s (message.Plain (plain.Return (record { answer = q; release_param_caps = true; body = body.Results payload (descriptor.ReceiverHosted e ∷ []) }))) fx new → (new.exports ≡ lower_each s.exports (numbers x.given)) × (map.get new.refs s.next_ref ≡ Some (record { head = y.node; embargo = None; made = 0 }))
descriptors_first s q payload e x y c from fx new l asked direct owed told exported h =
    let r : Return = record { answer = q; release_param_caps = true; body = body.Results payload (descriptor.ReceiverHosted e ∷ []) } in
    let ids = numbers x.given in
    let said : Returned = results_of s r.body in
    let n : Node = read s (descriptor.ReceiverHosted e) in
    let v : Value = value.Results payload (n ∷ []) in
    let low : State = obey s true ids in
    let d : Progress = with_state (begin s) low in
    let a : TakesReturn (begin s) r (map.get s.questions q.0) h.taken = subst (λ (b : Bool). TakesUnless b (begin s) (plain.Return r) h.taken) (understood s.level r) h.takes in
    let b : TakesReturn (begin s) r (Some x) h.taken = subst (λ (o : Option Question). TakesReturn (begin s) r o h.taken) asked a in
    let f : ComesBack d q.0 x said x.finish h.taken = subst (λ (t : State). ComesBack (with_state (begin s) (obey t true ids)) q.0 x said x.finish h.taken) (nothing_taken s.level s e) b in
    let g : ComesFor (kept_returned d q.0 x said) x.role v h.taken = subst (λ (o : Finishing). ComesBack d q.0 x said o h.taken) owed f in
    let i : TellsCall (kept_returned d q.0 x said) c.0 v (map.get s.calls c.0) h.taken = subst (λ (o : Role). ComesFor (kept_returned d q.0 x said) o v h.taken) direct g in
    let k : h.taken ≡ report (kept_returned d q.0 x said) c.0 v = subst (λ (o : Option OwnCall). TellsCall (kept_returned d q.0 x said) c.0 v o h.taken) told i in
    let ends = ends_quietly h.taken fx new h.ends (ap (λ (p : Progress). p.arisen) k) in
    let rest = ends.0 in
    let leads : n ≡ y.node = ap (λ (v : Level). read_at v s (descriptor.ReceiverHosted e)) l ∙ ap export_node exported in (
      rest.2 ∙ ap (λ (p : Progress). p.state.exports) k,
      ap (λ j. map.get j s.next_ref) (rest.1 ∙ ap (λ (p : Progress). p.state.refs) k)
          ∙ get_put_same s.refs s.next_ref (record { head = n; embargo = None; made = 0 })
          ∙ ap (λ (z : Node). Some (record { head = z; embargo = None; made = 0 })) leads,
    )
