-- What a line does when its turn comes (docs/script.md, "Lines").
use Rattle.std.specs.Prelude.{Option, None, Some, Result, Ok}
use Rattle.rpc_msg.specs.declared.ids.RefId.{RefId}
use Rattle.rpc_machine.specs.declared.command.Command.{Command}
use Rattle.rpc_machine.specs.declared.event.Event.TheVariants as event
use Rattle.script_language.specs.declared.act.Act.{Act}
use Rattle.script_language.specs.declared.act.Act.TheVariants as act
use Rattle.script_language.specs.declared.line.Line.{Line}
use Rattle.script_language.specs.declared.line.Line.TheVariants as line
use Rattle.script_language.specs.declared.line.LineCommand.{LineCommand}
use Rattle.script_language.specs.declared.names.Names.{Names}
use Rattle.script_language.specs.declared.fault.NameFault.{NameFault}
use Rattle.script_language.specs.Bindings.{of_one, names_of, command_for, taken, got}

-- what a line asks of its vat
abbrev pub command_in : Line → Option LineCommand
command_in line.Skip = None
command_in (line.Deliver v) = None
command_in (line.Turn v) = None
command_in line.Tables = None
command_in (line.Take v l) = None
command_in (line.Got v l) = None
command_in (line.Command v said) = Some said

-- What a line does, or the first thing that it names and that is not there.
abbrev pub act_for : Names → Line → Result Act NameFault
act_for names line.Skip = Ok act.Nothing
act_for names (line.Deliver v) = Ok (act.Happens (event.Deliver v))
act_for names (line.Turn v) = Ok (act.Turn v)
act_for names line.Tables = Ok act.Tables
act_for names (line.Take v l) = of_one (λ (r : RefId). act.Name v l.name r) (taken (names_of v names) l)
act_for names (line.Got v l) = of_one (λ (r : RefId). act.Name v l.name r) (got (names_of v names) l)
act_for names (line.Command v said) = of_one (λ (c : Command). act.Happens (event.Command v c)) (command_for (names_of v names) said)
