-- What is under way for an export: the descriptors on their way out, and what messages on their way in will take off its
-- count (docs/protocol.md, "Counts").
use Rattle.std.specs.Prelude.{ℕ, ◌+◌, Bool, true, false, cond, nat_eq, Option, None, Some, List, [], ◌∷◌}
use Rattle.std.specs.FinMap as map
use Rattle.rpc_journal.specs.rpc_msg.specs.declared.ids.Vat.{Vat}
use Rattle.rpc_journal.specs.rpc_msg.specs.declared.message.PlainMessage.{PlainMessage}
use Rattle.rpc_journal.specs.rpc_msg.specs.declared.message.PlainMessage.TheVariants as plain
use Rattle.rpc_journal.specs.rpc_msg.specs.declared.message.Message.{Message}
use Rattle.rpc_journal.specs.rpc_msg.specs.declared.message.Message.TheVariants as message
use Rattle.rpc_journal.specs.rpc_msg.specs.Vats.{other_vat}
use Rattle.rpc_machine.specs.declared.entries.Question.{Question}
use Rattle.rpc_machine.specs.declared.entries.AnswerEntry.{AnswerEntry}
use Rattle.rpc_machine.specs.Lists.{how_many}
use Rattle.rpc_machine.specs.State.{State}
use Rattle.rpc_machine.specs.Progress.{numbers}
use Rattle.rpc_machine.specs.Descriptors.{giving}
use Rattle.rpc_machine.specs.Faults.{gave}
use Rattle.rpc_machine.specs.World.{World, core, inbox}

-- The sender descriptors of the Call that a question asked.
abbrev pub call_gave : Option Question → List ℕ
call_gave None = []
call_gave (Some x) = numbers x.given

-- The sender descriptors of the Return that an answer gave.
abbrev pub return_gave : Option AnswerEntry → List ℕ
return_gave None = []
return_gave (Some x) = gave x.returned

abbrev pub if_true : Bool → List ℕ → List ℕ
if_true true ids = ids
if_true false ids = []

-- What a message on its way to the exporter s takes off the count of its export e: a Release its count; a true flag of a
-- Return what the Call of that question gave, and of a Finish what the Return of that answer gave.
abbrev pub plain_takes : State → ℕ → PlainMessage → ℕ
plain_takes s e (plain.Abort exception) = 0
plain_takes s e (plain.Bootstrap q) = 0
plain_takes s e (plain.Call c) = 0
plain_takes s e (plain.Return r) = how_many (nat_eq e) (if_true r.release_param_caps (call_gave (map.get s.questions r.answer.0)))
plain_takes s e (plain.Finish f) = how_many (nat_eq e) (if_true f.release_result_caps (return_gave (map.get s.answers f.question.0)))
plain_takes s e (plain.Resolve r) = 0
plain_takes s e (plain.Release r) = cond (nat_eq e r.export.0) r.count 0
plain_takes s e (plain.Disembargo d) = 0
plain_takes s e (plain.Other n) = 0

abbrev pub takes_off : State → ℕ → Message → ℕ
takes_off s e (message.Plain m) = plain_takes s e m
takes_off s e (message.Unimplemented m) = 0

abbrev pub taking_off : State → ℕ → List Message → ℕ
taking_off s e [] = 0
taking_off s e (m ∷ ms) = takes_off s e m + taking_off s e ms

-- Of the export e of the vat v.
abbrev pub under_way : World → Vat → ℕ → ℕ
under_way w v e = giving e (inbox w (other_vat v)) + taking_off (core w v) e (inbox w v)
