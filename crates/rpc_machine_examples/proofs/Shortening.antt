-- The steps of a reference that takes a shorter path.
use Rattle.std.proofs.Common.{◌≡◌, true, false, None, Some, [], ◌∷◌, inr, refl, ap}
use Rattle.std.specs.FinMap as map
use Rattle.rpc_machine.specs.declared.node.Node.TheVariants as node
use Rattle.rpc_machine.specs.declared.node.Reason.TheVariants.{BrokenPromise}
use Rattle.rpc_machine.specs.declared.calls.Promise.TheVariants as promise
use Rattle.rpc_machine.specs.declared.calls.Value.TheVariants as value
use Rattle.rpc_machine.specs.Settling.{OneMore, NoneLeft}
use Rattle.rpc_machine.specs.State.{State}
use Rattle.rpc_machine.specs.Nodes.{is_import}
use Rattle.rpc_machine.specs.Collecting.{ImportGoes, without_import}
use Rattle.rpc_machine_examples.specs.Given.{m, telling, headed_by, release_message, sending}
use Rattle.rpc_machine_examples.specs.Shortening.{why, own_outcome, end_told, after_call, wire, waits, promised, before_switch, after_switch, to_nothing, peer_promised, peer_rejected, rejection, unheard, broken, own_field, before_turn, turned, embargo, disembargo, after_turn, held_call, call_held, to_import, relay, gone_on, IsShortened}
use Rattle.rpc_machine_examples.proofs.GivenMaps.{progress}
use Rattle.rpc_machine_examples.proofs.StepTools.{maps, ends_quietly, ends_drained, ends_losing_one}
use Rattle.rpc_machine_examples.proofs.OneCall.{root_leads}

pub is_shortened : IsShortened
is_shortened =
    let x = sending [] in
    let y = sending (release_message 1 1 ∷ []) in
    let u = sending (disembargo ∷ []) in
    let v = sending (disembargo ∷ release_message 1 1 ∷ []) in
    let s : State = record before_switch { refs = map.insert before_switch.refs 0 (headed_by (wire 2) 0) } in
    let b : State = record (waits to_nothing) { refs = map.insert (waits to_nothing).refs 0 (headed_by (node.Broken BrokenPromise) 0) } in
    let t : State = record before_turn { refs = map.insert before_turn.refs 0 turned; embargoes = m ((0, embargo) ∷ []) } in
    let ends = value.Exception why in
    let told = telling (end_told ∷ []) in
    let s0 : State = record after_call { refs = map.insert broken.refs 0 (headed_by (node.Broken BrokenPromise) 1); outcomes = m ((0, own_outcome None) ∷ []) } in
    let s1 : State = record s0 { outcomes = map.insert s0.outcomes 0 (own_outcome (Some ends)) } in
    let s2 : State = record s0 { outcomes = map.insert s1.outcomes 0 (own_outcome (Some ends)) } in
    let r : State = record peer_promised { unsettled = map.remove peer_promised.unsettled 0; promises = map.insert peer_promised.promises 0 (promise.Fixed (node.Broken BrokenPromise)) } in
    let rejecting = sending (rejection ∷ []) in
    let heard : State = record unheard { imports = map.insert unheard.imports 1 (promised (Some to_nothing)) } in
    let held : State = record call_held { refs = map.insert after_turn.refs 0 (record turned { made = 1 }); embargoes = map.insert after_turn.embargoes 0 (record embargo { waiting = held_call ∷ [] }) } in
    let going = sending (to_import ∷ []) in
    let lifted : State = record call_held { refs = map.insert call_held.refs 0 (headed_by own_field 1); embargoes = map.remove call_held.embargoes 0 } in
    let gone : State = record lifted { questions = m ((0, relay) ∷ []) } in
    record {
      rejected = record {
        acted = progress r rejecting;
        acts = simp maps (refl, (progress r x, refl, simp maps (progress r rejecting, refl, refl)));
        ends = ends_quietly r peer_rejected rejecting (simp maps) (simp maps);
      };
      is_heard = record { taken = progress heard x; takes = simp maps; ends = ends_quietly heard (waits to_nothing) x (simp maps) (simp maps) };
      call_waits = record { acted = progress held x; acts = simp maps (refl, (1, refl, refl)); ends = ends_quietly held call_held x (simp maps) (simp maps) };
      call_goes_on = record {
        taken = progress gone going;
        takes = simp (maps, root_leads) (progress gone going, (0, (refl, ([], lifted, refl, refl))), refl);
        ends = ends_quietly gone gone_on going (simp maps) (simp maps);
      };
      switched = record {
        acted = progress s x;
        acts = simp maps (inr ((λ e. let f : true ≡ false = ap (is_import 2) e in cc), (refl, refl)));
        ends = ends_losing_one s after_switch x y (without_import (progress s x) 1) (ImportGoes 1 (simp maps) refl) (simp maps) (simp maps) (simp maps);
      };
      broke = record {
        acted = progress b x;
        acts = simp maps (refl, refl);
        ends = ends_losing_one b broken x y (without_import (progress b x) 1) (ImportGoes 1 (simp maps) refl) (simp maps) (simp maps) (simp maps);
      };
      call_ends = record {
        acted = record (progress s0 x) { arisen = (0, ends) ∷ [] };
        acts = simp maps (refl, (0, refl, refl));
        ends = ends_drained (record (progress s0 x) { arisen = (0, ends) ∷ [] }) s2 after_call told
            (OneMore {d = record (progress s0 x) { arisen = (0, ends) ∷ [] }} {mid = progress s2 told} 0 ends [] refl (simp maps (ends, s0, (refl, refl), (progress s1 told, simp maps, (progress s2 told, refl, simp maps)))) (NoneLeft refl))
            (simp maps) (simp maps);
      };
      turned_to_answer = record {
        acted = progress t u;
        acts = simp (maps, root_leads) (inr ((λ e. let f : true ≡ false = ap (is_import 3) e in cc), (refl, (0, refl, refl))));
        ends = ends_losing_one t after_turn u v (without_import (progress t u) 1) (ImportGoes 1 (simp maps) refl) (simp maps) (simp maps) (simp maps);
      };
    }
