-- What an application is told of calls.
use Rattle.std.specs.Prelude.{List, [], ◌∷◌, ◌++◌, map}
use Rattle.rpc_machine.specs.declared.command.Effects.{Effects}
use Rattle.vat_host.specs.declared.event.Event.{Event}
use Rattle.vat_host.specs.declared.event.Event.TheVariants as event

-- What an event tells of calls: a call to serve, or an own call that ended.
abbrev pub of_calls : Event → List Event
of_calls (event.Served d) = event.Served d ∷ []
of_calls (event.Ended x) = event.Ended x ∷ []
of_calls e = []

-- What is told of calls after a step: the calls to serve, and then the own calls that ended.
abbrev pub calls_told : Effects → List Event
calls_told effects = map event.Served effects.deliveries ++ map event.Ended effects.answers
