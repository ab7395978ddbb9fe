-- What can be told of a message of the peer before the core has it.
use Rattle.std.specs.Prelude.{Bool, true, false, is_some, Option, None, Some}
use Rattle.rpc_machine.specs.declared.entries.Question.{Question}
use Rattle.rpc_machine.specs.declared.entries.Finishing.{Finishing}
use Rattle.rpc_machine.specs.declared.entries.Finishing.TheVariants as finishing
use Rattle.rpc_machine.specs.declared.entries.Import.{Import}
use Rattle.rpc_machine.specs.declared.entries.SenderKind.{SenderKind}
use Rattle.rpc_machine.specs.declared.entries.Resolution.{Resolution}
use Rattle.rpc_machine.specs.declared.entries.Resolution.TheVariants as resolution

abbrev pub is_exception : Option Resolution → Bool
is_exception None = false
is_exception (Some (resolution.To d n)) = false
is_exception (Some (resolution.Exception e)) = true

-- The peer gave it as a promise, and a Resolve said that it is broken.
abbrev pub is_broken : Option Import → Bool
is_broken None = false
is_broken (Some x) = is_exception x.resolution

-- The kind in which the peer named it first, and whether a Resolve of it came.
abbrev pub named_as : Option Import → Option (SenderKind × Bool)
named_as None = None
named_as (Some x) = Some (x.kind, is_some x.resolution)

abbrev pub is_sent : Finishing → Bool
is_sent finishing.Owed = false
is_sent finishing.Sent = true
is_sent finishing.Waived = false

-- It is there, and its Finish was sent.
abbrev pub is_finished : Option Question → Bool
is_finished None = false
is_finished (Some x) = is_sent x.finish
