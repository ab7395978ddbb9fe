-- The step in which a result that leads to itself is replaced.
use Rattle.std.proofs.Common.{false, [], ◌∷◌, Some, inr, refl}
use Rattle.std.specs.FinMap as map
use Rattle.rpc_msg.specs.declared.parts.Descriptor.TheVariants as descriptor
use Rattle.rpc_msg.specs.declared.message.ReturnBody.TheVariants as body
use Rattle.rpc_machine.specs.Payloads.{bootstrap_payload}
use Rattle.rpc_machine.specs.declared.node.Node.TheVariants as node
use Rattle.rpc_machine.specs.declared.entries.Question.{Question}
use Rattle.rpc_machine.specs.declared.entries.Returned.TheVariants as back
use Rattle.rpc_machine.specs.declared.calls.Promise.TheVariants as promise
use Rattle.rpc_machine.specs.declared.calls.Value.{Value}
use Rattle.rpc_machine.specs.declared.calls.Value.TheVariants as value
use Rattle.rpc_machine.specs.State.{State}
use Rattle.rpc_machine.specs.Progress.{Progress}
use Rattle.rpc_machine.specs.Settling.{OneMore, NoneLeft}
use Rattle.rpc_machine.specs.Sweeping.{closed}
use Rattle.rpc_machine_examples.specs.Given.{m, question_id, export_id, for_peer, finish_message, sending}
use Rattle.rpc_machine_examples.specs.Circles.{relay, answer, relays, own_field, instead, untangled, as_promise, IsUntangled}
use Rattle.rpc_machine_examples.proofs.GivenMaps.{progress}
use Rattle.rpc_machine_examples.proofs.StepTools.{maps, sweeps_finishing_one, withers_quietly, collects_quietly}
use Rattle.rpc_machine_examples.proofs.OneCall.{root_leads}

pub is_untangled : IsUntangled
is_untangled =
    let x = sending (as_promise ∷ []) in
    let y = sending (as_promise ∷ finish_message 0 false ∷ []) in
    let d = descriptor.SenderPromise (export_id 0) in
    let k : Question = relay (Some (back.Results bootstrap_payload ((descriptor.ReceiverAnswer (question_id 0) [], own_field) ∷ []))) in
    let said : Value = value.Results bootstrap_payload (own_field ∷ []) in
    let s0 : State = record relays { questions = map.insert relays.questions 0 k } in
    let s1 : State = record s0 { promises = m ((0, promise.Open []) ∷ []) } in
    let s2 : State = record s1 { outcomes = map.insert s1.outcomes 0 (for_peer 0 (Some instead)) } in
    let s3 : State = record s2 { exports = m ((0, record { node = node.Promise 0; count = 1 }) ∷ []) } in
    let s4 : State = record s3 { answers = map.insert s3.answers 0 (answer (Some (export_id 0 ∷ []))) } in
    let s5 : State = record s4 { outcomes = map.insert s4.outcomes 0 (for_peer 0 (Some instead)) } in
    let acted : Progress = record { state = s0; effects = sending []; arisen = (0, said) ∷ []; released = map.empty } in
    let then : Progress = progress s3 (sending []) in
    let done : Progress = progress (record s5 { questions = map.remove s5.questions 0 }) y in
    record {
      taken = acted;
      takes = simp maps;
      ends = record {
        drained = progress s5 x;
        swept = progress untangled y;
        drains =
            OneMore {d = acted} {mid = progress s5 x} 0 said [] refl
            (simp maps (
              instead,
              s1,
              (node.Promise 0 ∷ [], refl, ([], s0, (refl, refl), inr ((0, [], refl, root_leads), (0, simp maps, refl, refl)))),
              (
                progress s4 x,
                simp maps (body.Results bootstrap_payload (d ∷ []), d ∷ [], s3, (refl, (s3, simp maps (0, refl, ((λ e. tt), refl)), refl)), (then, collects_quietly then (simp maps), refl)),
                (progress s5 x, refl, simp maps),
              ),
            ))
            (NoneLeft refl);
        sweeps =
            sweeps_finishing_one s5 untangled x y 0 k done (simp maps) (tt, refl) (simp maps) (withers_quietly (progress (closed s5 0 k) x) (simp maps)) refl (simp maps) (simp maps) (simp maps);
        effects_are = refl;
        new_is = refl;
      };
    }
