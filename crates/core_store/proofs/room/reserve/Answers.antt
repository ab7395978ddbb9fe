use Rattle.std.proofs.Common.{arith}
use Rattle.core_store.proofs.Beginning.{no_room}
use Rattle.core_store.proofs.Rooming.{sound_over}
use Rattle.core_store.proofs.room.reserve.Goals as goal

pub returns-in_err-make_room-clause-sound : goal.returns-in_err-make_room-clause-sound
returns-in_err-make_room-clause-sound c =
    let x = c.args.store.now in
    let y = c.make_room.new.store in
    let same = c.make_room.ensures.same in
    sound_over x y (record { state = same.state; taken = same.taken; held = same.held; names = same.names; added = same.added; links = same.links })
    (omega (arith, c.make_room.ensures.slack, same.added, c.requires.bounded.added)) (no_room y c.make_room.ensures.slack) c.requires

pub returns-clause-sound : goal.returns-clause-sound
returns-clause-sound c =
    let x = c.args.store.now in
    let same = c.make_room.ensures.same in
    let rooms = c.in_ok-make_room.ensures.ok in
    sound_over x _ (record { state = same.state; taken = same.taken; held = same.held; names = same.names; added = same.added; links = same.links })
    (omega (arith, same.added, c.in-Some-checked_add.ensures))
    (record { questions = rooms.questions; answers = rooms.answers; imports = rooms.imports; exports = rooms.exports; refs = rooms.refs; calls = rooms.calls; tasks = rooms.tasks; unsettled = rooms.unsettled; waits = rooms.waits; names = rooms.names; notes = rooms.notes })
    c.requires
