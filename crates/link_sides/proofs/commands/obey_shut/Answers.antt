use Rattle.std.proofs.Common.{refl}
use Rattle.link_sides.specs.Rooms.{held_of}
use Rattle.link_sides.proofs.Stepping.{shut_command_at}
use Rattle.rpc_machine.specs.declared.command.Command.TheVariants as command
use Rattle.rpc_machine.specs.declared.command.Granted.TheVariants as granted
use Rattle.link_sides.proofs.Answering.{done_so}
use Rattle.link_sides.proofs.commands.obey_shut.Goals as goal

pub returns-clause-obeys : goal.returns-clause-obeys
returns-clause-obeys c =
    shut_command_at (held_of c.args.kept.now) c.vat-vat.result c.tell_fall.new.kept.journal.0 c.len.result c.len-start.result _ c.of.result c.shut-effects.result _ _
    (record { value = c.of.ensures; vat_is = c.vat-vat.ensures; entries = refl; len = c.len.ensures; start = c.len-start.ensures; queued = c.tell_fall.ensures.queued })
    c.shut-effects.new.self c.tell_fall.new.kept.core c.args.number c.args.room c.of-asked.result c.of-said.result refl c.of-asked.ensures c.of-said.ensures c.requires.up c.shut-effects.ensures c.tell_fall.ensures.core c.tell_fall.ensures.journal

pub returns-clause-answers : goal.returns-clause-answers
returns-clause-answers c = done_so (command.Shut c.args.number) granted.Done c.shut-effects.result _ c.of-asked.result c.of-said.result c.of.result c.of-said.ensures c.of.ensures tt c.tell_fall.ensures.given
