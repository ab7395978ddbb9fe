-- How long the id of a question is taken (docs/protocol.md, "What a vat holds"; rpc.capnp, the question table).
use Rattle.std.specs.Prelude.{◌≡◌, ℕ, Bool, false, nat_eq, Some}
use Rattle.std.specs.FinMap as map
use Rattle.rpc_msg.specs.declared.ids.CallId.{CallId}
use Rattle.rpc_msg.specs.declared.message.Return.{Return}
use Rattle.rpc_msg.specs.declared.message.PlainMessage.TheVariants as plain
use Rattle.rpc_msg.specs.declared.message.Message.{Message}
use Rattle.rpc_msg.specs.declared.message.Message.TheVariants as message
use Rattle.rpc_machine.specs.declared.command.Command.{Command}
use Rattle.rpc_machine.specs.declared.command.Granted.{Granted}
use Rattle.rpc_machine.specs.declared.command.Effects.{Effects}
use Rattle.rpc_machine.specs.declared.calls.OwnCall.{OwnCall}
use Rattle.rpc_machine.specs.declared.entries.Role.TheVariants as role
use Rattle.rpc_machine.specs.declared.entries.Finishing.TheVariants as finishing
use Rattle.rpc_machine.specs.declared.entries.Question.{Question}
use Rattle.rpc_machine.specs.State.{State}
use Rattle.rpc_machine.specs.Lists.{how_many}
use Rattle.rpc_machine.specs.Messages.{results_of}
use Rattle.rpc_machine.specs.Steps.{Does, Handles}

-- The message is a question with that id.
abbrev pub asks : ℕ → Message → Bool
asks q (message.Plain (plain.Bootstrap k)) = nat_eq q k.0
asks q (message.Plain (plain.Call c)) = nat_eq q c.question.0
asks q m = false

-- While a question stands in the table, no step asks another one with its id.
pub record QuestionsStayTaken : Type 0 where
  pub commands : (s : State) (c : Command) (answer : Granted) (effects : Effects) (new : State) → Does s c answer effects new → (q : ℕ) (x : Question) → map.get s.questions q ≡ Some x → how_many (asks q) effects.sends ≡ 0
  pub messages : (s : State) (m : Message) (effects : Effects) (new : State) → Handles s m effects new → (q : ℕ) (x : Question) → map.get s.questions q ≡ Some x → how_many (asks q) effects.sends ≡ 0

-- A Return whose call the application has not finished leaves its question in the table, with what was said: the id is
-- free only when its Finish was sent too.
abbrev pub ReturnedStay : Type 0
ReturnedStay = (s : State) (r : Return) (effects : Effects) (new : State) (x : Question) (c : CallId) (from : OwnCall) → Handles s (message.Plain (plain.Return r)) effects new → map.get s.questions r.answer.0 ≡ Some x → x.role ≡ role.Direct c → x.finish ≡ finishing.Owed → map.get s.calls c.0 ≡ Some from → map.get new.questions r.answer.0 ≡ Some (record x { returned = Some (results_of s r.body) })
