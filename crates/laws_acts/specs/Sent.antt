-- What each act sends, with what true flags let go.
use Rattle.std.specs.Prelude.{ℕ, List, [], ◌∷◌, ◌++◌, Option, None, Some}
use Rattle.std.specs.FinMap as map
use Rattle.rpc_machine.specs.rpc_msg.specs.declared.ids.QuestionId.{QuestionId}
use Rattle.rpc_machine.specs.rpc_msg.specs.declared.parts.Descriptor.{Descriptor}
use Rattle.rpc_machine.specs.rpc_msg.specs.declared.parts.Target.{Target}
use Rattle.rpc_machine.specs.rpc_msg.specs.declared.exception.Exception.{Exception}
use Rattle.rpc_machine.specs.rpc_msg.specs.declared.message.ResolvedTo.{ResolvedTo}
use Rattle.rpc_machine.specs.rpc_msg.specs.declared.message.ResolvedTo.TheVariants as resolved
use Rattle.rpc_machine.specs.rpc_msg.specs.declared.message.DisembargoContext.TheVariants.{SenderLoopback, ReceiverLoopback}
use Rattle.rpc_machine.specs.rpc_msg.specs.declared.message.PlainMessage.{PlainMessage}
use Rattle.rpc_machine.specs.rpc_msg.specs.declared.message.PlainMessage.TheVariants as plain
use Rattle.rpc_machine.specs.rpc_msg.specs.declared.message.Message.{Message}
use Rattle.rpc_machine.specs.rpc_msg.specs.declared.message.Message.TheVariants as message
use Rattle.rpc_machine.specs.declared.node.Node.{Node}
use Rattle.rpc_machine.specs.declared.node.Node.TheVariants as node
use Rattle.rpc_machine.specs.declared.calls.Request.{Request}
use Rattle.rpc_machine.specs.declared.calls.Value.{Value}
use Rattle.rpc_machine.specs.declared.calls.Caller.{Caller}
use Rattle.rpc_machine.specs.declared.calls.Caller.TheVariants as caller
use Rattle.rpc_machine.specs.declared.command.Granted.{Granted}
use Rattle.rpc_machine.specs.declared.entries.Role.{Role}
use Rattle.rpc_machine.specs.declared.entries.Finishing.{Finishing}
use Rattle.rpc_machine.specs.declared.entries.Finishing.TheVariants as finishing
use Rattle.rpc_machine.specs.declared.entries.Question.{Question}
use Rattle.rpc_machine.specs.declared.entries.AnswerEntry.{AnswerEntry}
use Rattle.rpc_machine.specs.declared.entries.Reference.{Reference}
use Rattle.rpc_machine.specs.Nodes.{settle}
use Rattle.rpc_machine.specs.Progress.{Progress, export_id, numbers}
use Rattle.rpc_machine.specs.Flags.{flag_for}
use Rattle.rpc_machine.specs.Commands.{AsksBootstrap}
use Rattle.rpc_machine.specs.declared.entries.Role.TheVariants as role
use Rattle.rpc_machine.specs.Routing.{Asks}
use Rattle.rpc_machine.specs.Settling.{TellsPeer, Returns, Tells, or_failed, ResolvesBy}
use Rattle.rpc_machine.specs.Sweeping.{got_of}
use Rattle.rpc_machine.specs.Advancing.{Embargoes}
use Rattle.laws_acts.specs.Acts.{Act, Makes, Drops, AsksRoot, CallsOut, Keeps, Joins, Promises, Unsettles, Answers, Finishes, Heads, Turns, Delivers, Waits, Holds, Relays, Fails, Fixes, Settles, Reports, Resolves, NextArisen, Gone, Ends, Releases, Acts, NoMore, Then}
use Rattle.rpc_machine.specs.rpc_msg.specs.declared.message.DisembargoContext.{DisembargoContext}
use Rattle.rpc_machine.specs.rpc_msg.specs.declared.ids.EmbargoId.{EmbargoId}
use Rattle.laws_acts.specs.Acts.{Bounces, TurnsBy, Consumes}

-- Export ids.
abbrev pub Ids : Type 0
Ids = List ℕ

-- A message, with the export ids that its flag lets go of if it is true. The message doesn't say them: its receiver reads
-- them in its own tables.
pub record Noted : Type 0 where
  pub message : PlainMessage
  pub lets : Ids

abbrev pub messages : List Noted → List Message
messages [] = []
messages (n ∷ ns) = message.Plain n.message ∷ messages ns

abbrev pub note : PlainMessage → Ids → Noted
note m ids = record { message = m; lets = ids }

abbrev pub call_of : ℕ → Target → Request → List Descriptor → PlainMessage
call_of k t r ds = plain.Call (record { question = record { 0 = k }; target = t; interface = r.interface; method = r.method; payload = r.payload; descriptors = ds; stamp = r.stamp })

abbrev pub asks_sent : (d new : Progress) (k : ℕ) (role : Role) (t : Target) (r : Request) → Asks d k role t r new → List Noted
asks_sent d new k role t r h = let g = h.1 in note (call_of k t r g.0) [] ∷ []

abbrev pub root_sent : (d new : Progress) (g : Granted) → AsksBootstrap d g new → List Noted
root_sent d new g h = note (plain.Bootstrap (record { 0 = h.0 })) [] ∷ []

abbrev pub turn_sent : (d new : Progress) (r : ℕ) (x : Reference) (t : Option Target) (n : Node) (g : Granted) → Embargoes d r x t n g new → List Noted
turn_sent d new r x None n g h = []
turn_sent d new r x (Some t) n g h = let k = h.1 in note (plain.Disembargo (record { target = t; context = SenderLoopback (record { 0 = k.0 }) })) [] ∷ []

abbrev pub resolved_to : (d new : Progress) (e : ℕ) (x : Option Exception) (n : Node) → ResolvesBy d e x n new → ResolvedTo
resolved_to d new e x (node.Object o) h = resolved.Cap h.0
resolved_to d new e x (node.Promise p) h = resolved.Cap h.0
resolved_to d new e x (node.Field o path) h = resolved.Cap h.0
resolved_to d new e x (node.Import k) h = resolved.Cap h.0
resolved_to d new e x (node.Pipe q path) h = resolved.Cap h.0
resolved_to d new e x (node.Broken reason) h = resolved.Exception (or_failed x reason)

abbrev pub resolve_sent : (d new : Progress) (e : ℕ) (x : Option Exception) (n : Node) → ResolvesBy d e x n new → List Noted
resolve_sent d new e x n h = note (plain.Resolve (record { promise = export_id e; to = resolved_to d new e x n h })) [] ∷ []

abbrev pub end_sent : Progress → ℕ → Question → Finishing → List Noted
end_sent d k x finishing.Owed = note (plain.Finish (record { question = record { 0 = k }; release_result_caps = flag_for d.state (got_of x.returned) })) (got_of x.returned) ∷ []
end_sent d k x finishing.Sent = []
end_sent d k x finishing.Waived = []

abbrev pub return_sent : (d new : Progress) (q : QuestionId) (a : AnswerEntry) (v : Value) → Returns d q a v new → List Noted
return_sent d new q a v h = let g = h.4 in let then_on = g.0 in note (plain.Return (record { answer = q; release_param_caps = flag_for then_on.state (numbers a.taken); body = h.0 })) (numbers a.taken) ∷ []

abbrev pub peer_sent : (d new : Progress) (q : QuestionId) (v : Value) (o : Option AnswerEntry) → TellsPeer d q v o new → List Noted
peer_sent d new q v None h = []
peer_sent d new q v (Some a) h = return_sent d new q a v h

abbrev pub told_sent : (d new : Progress) (who : Caller) (v : Value) → Tells d who v new → List Noted
told_sent d new (caller.Application c) v h = []
told_sent d new (caller.Peer q) v h = peer_sent d new q v (map.get d.state.answers q.0) h

abbrev pub releases_sent : List (ℕ × ℕ) → List Noted
releases_sent [] = []
releases_sent (x ∷ xs) = note (plain.Release (record { export = export_id x.0; count = x.1 })) [] ∷ releases_sent xs

abbrev pub sent_by : {d new : Progress} → Act d new → List Noted
sent_by {d} {new} (Makes n h) = []
sent_by {d} {new} (Drops r x there h) = []
sent_by {d} {new} (AsksRoot g h) = root_sent d new g h
sent_by {d} {new} (CallsOut r x c q t there h) = asks_sent _ new h.0 (role.Direct (record { 0 = c })) t q h.1
sent_by {d} {new} (Keeps r x c o there free h) = []
sent_by {d} {new} (Joins w e b there h) = []
sent_by {d} {new} (Promises p free h) = []
sent_by {d} {new} (Unsettles p h) = []
sent_by {d} {new} (Answers t h) = []
sent_by {d} {new} (Finishes c h) = []
sent_by {d} {new} (Heads r x n there free h) = []
sent_by {d} {new} (Turns r x t n g there free h) = turn_sent d new r x t n g h
sent_by {d} {new} (Delivers c o h) = []
sent_by {d} {new} (Waits p calls c there h) = []
sent_by {d} {new} (Holds o x w there h) = []
sent_by {d} {new} (Relays q o t r h) = asks_sent d new q (role.Relay o) t r h
sent_by {d} {new} (Fails o v h) = []
sent_by {d} {new} (Fixes p calls to there h) = []
sent_by {d} {new} (Settles o x v fit mid told there unknown f t e) = told_sent _ told x.caller fit t
sent_by {d} {new} (Reports c v from there h) = []
sent_by {d} {new} (Resolves e told n h) = resolve_sent d new e told (settle d.state n) h
sent_by {d} {new} (NextArisen o v rest e h) = []
sent_by {d} {new} (Gone h) = []
sent_by {d} {new} (Ends q x there due h) = end_sent d q x x.finish
sent_by {d} {new} (Releases h) = releases_sent (map.entries d.released)

abbrev pub all_sent : {end d : Progress} → Acts end d → List Noted
all_sent NoMore = []
all_sent (Then a rest) = sent_by a ++ all_sent rest

abbrev pub bounce_sent : (d new : Progress) (x : EmbargoId) → Bounces d x new → List Noted
bounce_sent d new x h = note (plain.Disembargo (record { target = h.0; context = ReceiverLoopback x })) [] ∷ []

abbrev pub turned_sent : (d new : Progress) (c : DisembargoContext) → TurnsBy d c new → List Noted
turned_sent d new (SenderLoopback x) h = bounce_sent d new x h
turned_sent d new (ReceiverLoopback x) h = []

abbrev pub sent_at_once : (d new : Progress) (m : PlainMessage) → Consumes m d new → List Noted
sent_at_once d new (plain.Abort x) h = []
sent_at_once d new (plain.Bootstrap q) h = []
sent_at_once d new (plain.Call c) h = []
sent_at_once d new (plain.Return r) h = []
sent_at_once d new (plain.Finish f) h = []
sent_at_once d new (plain.Resolve r) h = []
sent_at_once d new (plain.Release r) h = []
sent_at_once d new (plain.Disembargo x) h = turned_sent d new x.context h
sent_at_once d new (plain.Other n) h = []
