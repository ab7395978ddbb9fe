-- Two hosts whose messages are handed over, in any way that keeps the order of each vat's messages.
use Rattle.std.specs.Prelude.{◌≡◌, cond, Option, Some, Result, Ok, Err, List, [], ◌∷◌, ◌++◌, flat_map}
use Rattle.rpc_msg.specs.Vats.{other_vat}
use Rattle.rpc_msg.specs.declared.ids.ObjectId.{ObjectId}
use Rattle.rpc_msg.specs.declared.ids.Vat.{Vat}
use Rattle.rpc_msg.specs.declared.ids.Vat.TheVariants.{A, B}
use Rattle.rpc_msg.specs.declared.message.Message.{Message}
use Rattle.rpc_journal.specs.History.{same_vat}
use Rattle.rpc_machine.specs.declared.command.Command.{Command}
use Rattle.rpc_machine.specs.declared.command.Granted.{Granted}
use Rattle.rpc_machine.specs.declared.command.Refusal.{Refusal}
use Rattle.rpc_machine.specs.declared.command.Level.TheVariants.{One}
use Rattle.rpc_machine.specs.State.{start}
use Rattle.vat_host.specs.declared.event.Event.{Event}
use Rattle.vat_host.specs.Hosting.{Hosted, Does, Hears, Refuses, Tells, idle}
use Rattle.vat_hosts.specs.Calls.{of_calls}

-- A host, and the messages that were taken from the other and are still to be handed to it, the oldest first.
pub record Party : Type 0 where
  pub host : Hosted
  pub in_hand : List Message

pub record Hosts : Type 0 where
  pub a : Party
  pub b : Party

abbrev pub party : Hosts → Vat → Party
party p A = p.a
party p B = p.b

abbrev pub put_party : Hosts → Vat → Party → Hosts
put_party p A x = record p { a = x }
put_party p B x = record p { b = x }

abbrev pub host : Hosts → Vat → Hosted
host p v = (party p v).host

abbrev pub in_hand : Hosts → Vat → List Message
in_hand p v = (party p v).in_hand

abbrev pub put_host : Hosts → Vat → Hosted → Hosts
put_host p v h = put_party p v (record (party p v) { host = h })

abbrev pub put_in_hand : Hosts → Vat → List Message → Hosts
put_in_hand p v ms = put_party p v (record (party p v) { in_hand = ms })

-- Two new hosts of level 1 with these bootstrap objects, and no message in hand.
abbrev pub new_hosts : Option ObjectId → Option ObjectId → Hosts
new_hosts root_a root_b = record { a = record { host = idle (start A One root_a); in_hand = [] }; b = record { host = idle (start B One root_b); in_hand = [] } }

-- ---- what may be done

-- A command, with what it answers; the oldest message that a vat has to say is taken; the oldest that is in hand for a vat is handed
-- to it; a vat is asked for what it has to tell.
pub data Act : Type 0 where
  Commands : Vat → Command → Result Granted Refusal → Act
  Takes : Vat → Act
  Hands : Vat → Act
  Asks : Vat → Option Event → Act

abbrev pub CommandsHost : Hosts → Vat → Command → Result Granted Refusal → Hosts → Type 0
CommandsHost p v c (Ok granted) q = (h : Hosted) × Does (host p v) c granted h × (q ≡ put_host p v h)
CommandsHost p v c (Err refusal) q = (h : Hosted) × Refuses (host p v) c refusal h × (q ≡ put_host p v h)

abbrev pub without : Hosted → List Message → Hosted
without h ms = record h { messages = ms }

abbrev pub TakesFrom : Hosts → Vat → Hosts → Type 0
TakesFrom p v q =
    (m : Message) × (ms : List Message) × ((host p v).messages ≡ m ∷ ms)
    × (q ≡ put_in_hand (put_host p v (without (host p v) ms)) (other_vat v) (in_hand p (other_vat v) ++ m ∷ []))

abbrev pub HandsTo : Hosts → Vat → Hosts → Type 0
HandsTo p v q =
    (m : Message) × (ms : List Message) × (in_hand p v ≡ m ∷ ms)
    × ((h : Hosted) × Hears (host p v) m h × (q ≡ put_host (put_in_hand p v ms) v h))

abbrev pub AsksHost : Hosts → Vat → Option Event → Hosts → Type 0
AsksHost p v event q = (h : Hosted) × Tells (host p v) event h × (q ≡ put_host p v h)

abbrev pub Acts : Hosts → Act → Hosts → Type 0
Acts p (Commands v c answer) q = CommandsHost p v c answer q
Acts p (Takes v) q = TakesFrom p v q
Acts p (Hands v) q = HandsTo p v q
Acts p (Asks v event) q = AsksHost p v event q

-- What is done, in order.
abbrev pub ActsAll : Hosts → List Act → Hosts → Type 0
ActsAll p [] q = q ≡ p
ActsAll p (x ∷ xs) q = (mid : Hosts) × Acts p x mid × ActsAll mid xs q

-- ---- what the applications did and were told

-- A command that was done, and what it answered.
pub record Done : Type 0 where
  pub vat : Vat
  pub command : Command
  pub granted : Granted

abbrev pub done_by : Act → List Done
done_by (Commands v c (Ok granted)) = record { vat = v; command = c; granted = granted } ∷ []
done_by x = []

abbrev pub told_by : Vat → Act → List Event
told_by v (Asks u (Some e)) = cond (same_vat v u) (of_calls e) []
told_by v x = []

-- what the application of a vat was told of calls, and what it is still to be told of them
abbrev pub told_to : Hosts → List Act → Vat → List Event
told_to p xs v = flat_map (told_by v) xs ++ flat_map of_calls (host p v).events
