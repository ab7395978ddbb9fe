-- The payload of an entry, and the entry with another: no entry has more than one.
use Rattle.std.specs.Prelude.{Option, Some, None}
use Rattle.rpc_msg.specs.Payloads.{Contents as Payload}
use Rattle.rpc_msg.specs.declared.message.ReturnBody.{ReturnBody}
use Rattle.rpc_msg.specs.declared.message.ReturnBody.TheVariants as body
use Rattle.rpc_msg.specs.declared.message.PlainMessage.{PlainMessage}
use Rattle.rpc_msg.specs.declared.message.PlainMessage.TheVariants as plain
use Rattle.rpc_msg.specs.declared.message.Message.{Message}
use Rattle.rpc_msg.specs.declared.message.Message.TheVariants as message
use Rattle.rpc_journal.specs.declared.entry.JournalEntry.{JournalEntry}
use Rattle.rpc_journal.specs.declared.entry.JournalEntry.TheVariants as entry
use Rattle.rpc_journal.specs.declared.report.Outcome.{Outcome}
use Rattle.rpc_journal.specs.declared.report.Outcome.TheVariants as outcome

abbrev pub payload_of_outcome : Outcome → Option Payload
payload_of_outcome (outcome.Results p) = Some p
payload_of_outcome (outcome.Exception e) = None

abbrev pub filled_outcome : Payload → Outcome → Outcome
filled_outcome p (outcome.Results q) = outcome.Results p
filled_outcome p (outcome.Exception e) = outcome.Exception e

abbrev pub payload_of_body : ReturnBody → Option Payload
payload_of_body (body.Results p descriptors) = Some p
payload_of_body (body.Exception e) = None
payload_of_body body.Canceled = None

abbrev pub filled_body : Payload → ReturnBody → ReturnBody
filled_body p (body.Results q descriptors) = body.Results p descriptors
filled_body p (body.Exception e) = body.Exception e
filled_body p body.Canceled = body.Canceled

abbrev pub payload_of_plain : PlainMessage → Option Payload
payload_of_plain (plain.Abort e) = None
payload_of_plain (plain.Bootstrap q) = None
payload_of_plain (plain.Call c) = Some c.payload
payload_of_plain (plain.Return r) = payload_of_body r.body
payload_of_plain (plain.Finish f) = None
payload_of_plain (plain.Resolve r) = None
payload_of_plain (plain.Release r) = None
payload_of_plain (plain.Disembargo d) = None
payload_of_plain (plain.Other n) = None

abbrev pub filled_plain : Payload → PlainMessage → PlainMessage
filled_plain p (plain.Abort e) = plain.Abort e
filled_plain p (plain.Bootstrap q) = plain.Bootstrap q
filled_plain p (plain.Call c) = plain.Call (record c { payload = p })
filled_plain p (plain.Return r) = plain.Return (record r { body = filled_body p r.body })
filled_plain p (plain.Finish f) = plain.Finish f
filled_plain p (plain.Resolve r) = plain.Resolve r
filled_plain p (plain.Release r) = plain.Release r
filled_plain p (plain.Disembargo d) = plain.Disembargo d
filled_plain p (plain.Other n) = plain.Other n

abbrev pub payload_of_message : Message → Option Payload
payload_of_message (message.Plain m) = payload_of_plain m
payload_of_message (message.Unimplemented m) = payload_of_plain m

abbrev pub filled_message : Payload → Message → Message
filled_message p (message.Plain m) = message.Plain (filled_plain p m)
filled_message p (message.Unimplemented m) = message.Unimplemented (filled_plain p m)

abbrev pub payload_in : JournalEntry → Option Payload
payload_in entry.Head = None
payload_in (entry.Born v r o) = None
payload_in (entry.Asked v call) = None
payload_in (entry.Made v m) = Some m.payload
payload_in (entry.Delivered v d) = Some d.payload
payload_in (entry.Answered v task o refs) = payload_of_outcome o
payload_in (entry.Ended v e) = payload_of_outcome e.outcome
payload_in (entry.Resolved v p r) = None
payload_in (entry.Rejected v p e) = None
payload_in (entry.Dropped v r) = None
payload_in (entry.Finished v call) = None
payload_in (entry.Advanced v r a) = None
payload_in (entry.Refused v code) = None
payload_in (entry.Sent v m) = payload_of_message m
payload_in (entry.Got v) = None
payload_in (entry.Down v fault) = None
payload_in (entry.Tables a b) = None

abbrev pub filled : Payload → JournalEntry → JournalEntry
filled p entry.Head = entry.Head
filled p (entry.Born v r o) = entry.Born v r o
filled p (entry.Asked v call) = entry.Asked v call
filled p (entry.Made v m) = entry.Made v (record m { payload = p })
filled p (entry.Delivered v d) = entry.Delivered v (record d { payload = p })
filled p (entry.Answered v task o refs) = entry.Answered v task (filled_outcome p o) refs
filled p (entry.Ended v e) = entry.Ended v (record e { outcome = filled_outcome p e.outcome })
filled p (entry.Resolved v q r) = entry.Resolved v q r
filled p (entry.Rejected v q e) = entry.Rejected v q e
filled p (entry.Dropped v r) = entry.Dropped v r
filled p (entry.Finished v call) = entry.Finished v call
filled p (entry.Advanced v r a) = entry.Advanced v r a
filled p (entry.Refused v code) = entry.Refused v code
filled p (entry.Sent v m) = entry.Sent v (filled_message p m)
filled p (entry.Got v) = entry.Got v
filled p (entry.Down v fault) = entry.Down v fault
filled p (entry.Tables a b) = entry.Tables a b
