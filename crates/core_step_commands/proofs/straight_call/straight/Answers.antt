use Rattle.std.proofs.Common.{Option, refl, subst}
use Rattle.std.specs.FinMap as map
use Rattle.rpc_machine.specs.declared.entries.Reference.{Reference}
use Rattle.core_store.specs.Holding.{state_of}
use Rattle.core_step_commands.specs.Straight.{LeadsStraight}
use Rattle.core_step_commands.specs.declared.straight_call.StraightCall.{StraightCall}
use Rattle.core_step_commands.proofs.Directly.{none_long, straight_allowed}
use Rattle.core_step_commands.proofs.straight_call.straight.Goals as goal

pub returns : goal.returns
returns c =
    let s = state_of c.args.store.now in
    let call = c.args.call.now in
    let x : StraightCall = record { id = c.in-Some-import_of.id; made = c.in-Some.reference.now.made } in
    let none = c.if-not-passes_nothing.ensures refl in
    let head = c.in-Some-import_of.ensures in
    let room = c.if-not-has_room.ensures refl in
    let alone = none_long call.refs none.0 in
    let leads : LeadsStraight (map.get s.refs call.reference.0) x = subst (λ (o : Option Reference). LeadsStraight o x) c.in-Some.ensures (head.0, head.1, refl) in
    record {
      alone = alone;
      leads = leads;
      number = room.0;
      made = room.1;
      room = room.2;
      allowed = straight_allowed s call x alone c.in-None.is none.1 leads room.0 room.1 room.2;
    }
