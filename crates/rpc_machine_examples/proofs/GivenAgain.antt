-- The run of an object that is released and given again, event by event.
use Rattle.std.proofs.Common.{[], ◌∷◌, Some, refl}
use Rattle.std.specs.FinMap as map
use Rattle.rpc_msg.specs.declared.ids.Vat.TheVariants.{A, B}
use Rattle.rpc_machine.specs.State.{State}
use Rattle.rpc_machine.specs.World.{World, Happens}
use Rattle.rpc_machine_examples.specs.Given.{release_message, sending, delivering, telling, between, took}
use Rattle.rpc_machine_examples.specs.OneCall.{root_return}
use Rattle.rpc_machine_examples.specs.Relayed.{giving_message, object, asked_giving, a_gave}
use Rattle.rpc_machine_examples.specs.GivenBack.{end_told, returned_kept, b_returned, sent, asked_first, received, kept, released}
use Rattle.rpc_machine_examples.specs.GivenTwice.{giving_again, delivery_again, a_root, end_said, a_one_left}
use Rattle.rpc_machine_examples.specs.GivenAgain.{a_told, b_again, crossing, release_taken, received_again, IsGivenAgain}
use Rattle.rpc_machine_examples.proofs.GivenMaps.{progress}
use Rattle.rpc_machine_examples.proofs.StepTools.{maps, ends_quietly, message_comes}
use Rattle.rpc_machine_examples.proofs.OneCall.{root_leads, root_asked, w1, w2, asks, names_field}
use Rattle.rpc_machine_examples.proofs.Relayed.{r3, hosts, calls_giving, giving_comes}
use Rattle.rpc_machine_examples.proofs.GivenBack.{answers_keeping, releases_later}
use Rattle.rpc_machine_examples.proofs.GivenTwice.{calls_again, root_is_told}

abbrev root_come : World
root_come = between a_root (returned_kept ∷ release_message 0 1 ∷ []) b_returned (giving_again ∷ [])

abbrev end_come : World
end_come = between a_told (release_message 0 1 ∷ []) b_returned (giving_again ∷ [])

end_is_told : Happens root_come (took A (telling (end_told ∷ []))) end_come
end_is_told =
    let x = telling (end_told ∷ []) in
    let s : State = record a_told { questions = map.insert a_root.questions 1 (asked_giving (Some end_said)) } in
    message_comes A root_come end_come returned_kept (release_message 0 1 ∷ []) x (progress s x) a_told refl refl (simp maps) (simp maps) (ends_quietly s a_told x (simp maps) (simp maps)) (simp maps) refl

release_comes : Happens end_come (took A (sending [])) release_taken
release_comes =
    let x = sending [] in
    let s : State = record a_told { exports = map.insert a_told.exports 0 (record { node = object; count = 1 }) } in
    message_comes A end_come release_taken (release_message 0 1) [] x (progress s x) a_one_left refl refl (simp maps) (simp maps) (ends_quietly s a_one_left x (simp maps) (simp maps)) (simp maps) refl

again_comes : Happens release_taken (took B (delivering (delivery_again ∷ []))) received_again
again_comes =
    let x = delivering (delivery_again ∷ []) in
    message_comes B release_taken received_again giving_again [] x (progress b_again x) b_again refl refl (simp (maps, root_leads)) (2, simp maps, simp (maps, root_leads)) (ends_quietly b_again b_again x (simp maps) refl) (simp maps) refl

pub is_given_again : IsGivenAgain
is_given_again = record {
  releases = (w1, asks, (w2, names_field, (r3, hosts, (sent, calls_giving, (asked_first, root_asked a_gave (giving_message ∷ []), (received, giving_comes a_gave [], (kept, answers_keeping, (released, releases_later, refl))))))));
  gives_again = (crossing, calls_again (root_return ∷ returned_kept ∷ release_message 0 1 ∷ []) b_returned [], (root_come, root_is_told (returned_kept ∷ release_message 0 1 ∷ []) b_returned (giving_again ∷ []), (end_come, end_is_told, (release_taken, release_comes, (received_again, again_comes, refl)))));
  counts_sent = record { exported_is = simp maps; imported_is = simp maps; way_is = refl };
  counts_received = record { exported_is = simp maps; imported_is = simp maps; way_is = refl };
  counts_released = record { exported_is = simp maps; imported_is = simp maps; way_is = refl };
  counts_crossing = record { exported_is = simp maps; imported_is = simp maps; way_is = refl };
  counts_release_taken = record { exported_is = simp maps; imported_is = simp maps; way_is = refl };
  counts_received_again = record { exported_is = simp maps; imported_is = simp maps; way_is = refl };
}
