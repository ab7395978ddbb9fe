use Rattle.std.proofs.Common.{◌≡◌, true, false, arith}
use Rattle.rpc_machine.specs.declared.node.Node.TheVariants as node
use Rattle.core_store_waits.proofs.Beside.{room_for}
use Rattle.core_store_waits.proofs.Promising.{sound_opened}
use Rattle.core_store_waits.proofs.promises.open_promise.Goals as goal

pub unreachable-requires-in_default-add : goal.unreachable-requires-in_default-add
unreachable-requires-in_default-add c =
    let some = c.requires.slack in
    let bound = c.requires.sound.bounded.added in
    let few = c.requires.sound.bounded.names (node.Promise c.in-Ok.key) in
    let no : false ≡ true = c.in_default-add.ensures.had_room (room_for c.args.store.now 1 c.requires.sound (omega (arith, some))) (omega (arith, some, bound, few)) in
    cc

pub returns-clause-sound : goal.returns-clause-sound
returns-clause-sound c =
    sound_opened c.args.store.now c.in-Ok.key c.open_promise.new.self c.add.new.self c.requires.sound c.requires.slack c.in-Ok.ensures.free c.in-Ok.ensures.ok c.in-Ok-add.ensures.ok
