-- A Return is canceled only where its question was given up before (rpc.capnp, Return; docs/protocol.md, "Sessions of ids").
use Rattle.std.specs.FinMap as map
use Rattle.rpc_msg.specs.declared.message.PlainMessage.{PlainMessage}
use Rattle.rpc_msg.specs.declared.message.PlainMessage.TheVariants as plain
use Rattle.rpc_machine.specs.declared.entries.Question.{Question}
use Rattle.rpc_machine.specs.State.{State}
use Rattle.rpc_machine.specs.Sweeping.{IsNotSent}
use Rattle.laws_runs.specs.SceneSessions.{InScenes}
use Rattle.laws_routes.specs.SayingLaws.{IsNotCanceled}
use Rattle.laws_scenes.specs.Meeting.{IfThere, OfOldest}

-- Of a question whose Finish was not sent no Return is canceled.
abbrev pub CancelsOnlyGivenUp : State → PlainMessage → Type 0
CancelsOnlyGivenUp s (plain.Abort exception) = Unit {0}
CancelsOnlyGivenUp s (plain.Bootstrap q) = Unit {0}
CancelsOnlyGivenUp s (plain.Call c) = Unit {0}
CancelsOnlyGivenUp s (plain.Return r) = IfThere (λ (x : Question). IsNotSent x.finish → IsNotCanceled r.body) (map.get s.questions r.answer.0)
CancelsOnlyGivenUp s (plain.Finish f) = Unit {0}
CancelsOnlyGivenUp s (plain.Resolve r) = Unit {0}
CancelsOnlyGivenUp s (plain.Release r) = Unit {0}
CancelsOnlyGivenUp s (plain.Disembargo d) = Unit {0}
CancelsOnlyGivenUp s (plain.Other n) = Unit {0}

abbrev pub CanceledWereGivenUp : Type 0
CanceledWereGivenUp = InScenes (OfOldest (λ s other out rest x. CancelsOnlyGivenUp s x))
