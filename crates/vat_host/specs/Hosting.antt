-- A core with what its steps left to do, and what each call does to both.
use Rattle.std.specs.Prelude.{◌≡◌, ℕ, ◌<◌, Bool, ◌&&◌, ◌==◌, length, not, is_some, is_none, IsSome, IsTrue, ◌≢◌, List, [], ◌∷◌, ◌++◌, Option, Some, None, Ok, Err, Result, ◌⊎◌, true, false, refl}
use Rattle.std.specs.FinMap as map
use Rattle.std.specs.Coded.{Coded, code_by, coded×, coded_list}
use Rattle.rpc_msg.specs.contracts.message.Message as message_row
use Rattle.rpc_msg.specs.declared.ids.ObjectId.{ObjectId}
use Rattle.rpc_msg.specs.declared.ids.TaskId.{TaskId}
use Rattle.rpc_msg.specs.declared.message.Message.{Message}
use Rattle.rpc_msg.specs.declared.message.Message.TheVariants as message
use Rattle.rpc_msg.specs.declared.message.PlainMessage.TheVariants as plain
use Rattle.rpc_machine.specs.declared.command.Command.{Command}
use Rattle.rpc_machine.specs.declared.command.Command.TheVariants as command
use Rattle.rpc_machine.specs.declared.command.Effects.{Effects}
use Rattle.rpc_machine.specs.declared.command.Granted.{Granted}
use Rattle.rpc_machine.specs.declared.command.Refusal.{Refusal}
use Rattle.rpc_machine.specs.declared.command.Refusal.TheVariants as refusal
use Rattle.rpc_machine.specs.Progress.{quiet}
use Rattle.rpc_machine.specs.Refusals.{is_shut}
use Rattle.rpc_machine.specs.State.{State, state_code}
use Rattle.rpc_machine.specs.Steps.{Obeys, Receives}
use Rattle.rpc_uses.specs.Objects.{names_object}
use Rattle.laws_released.specs.Known.{least_known}
use Rattle.vat_core.specs.declared.refused.Refused.{Refused}
use Rattle.vat_host.specs.contracts.event.Event as event_row
use Rattle.vat_host.specs.contracts.event.DownNotice as notice_row
use Rattle.vat_host.specs.declared.event.DownNotice.{DownNotice}
use Rattle.vat_host.specs.declared.event.Event.{Event}
use Rattle.vat_host.specs.declared.event.Event.TheVariants as event
use Rattle.vat_host.specs.Objects.{Objects, no_objects, objects_code, with_object}
use Rattle.vat_host.specs.Queues.{told}
use Rattle.vat_host.specs.Unanswered.{IsCancelledAt, NoneIsCancelledOf, Unanswered, followed, heard_at, none_unanswered, told_of, unanswered_code}
use Rattle.vat_host.specs.Watching.{known_by}

-- The state of the core, and what is to be done, the oldest first: messages to send to the peer, and what its steps left to tell; the
-- objects that the application hosted and was not told that they are released, and the bootstrap object; the calls of the peer that
-- are not answered; and whether the application was told that the vat is down, with the reason that is to be told with it.
pub record Hosted : Type 0 where
  pub core : State
  pub messages : List Message
  pub events : List Event
  pub objects : Objects
  pub unanswered : Unanswered
  pub down_notice : DownNotice

abbrev pub hosted_code : Coded Hosted
hosted_code =
    code_by ((State × List Message) × (List Event × (Objects × (Unanswered × DownNotice))))
    (coded× (coded× state_code (coded_list message_row.the_row.coded)) (coded× (coded_list event_row.the_row.coded) (coded× objects_code (coded× unanswered_code notice_row.the_row.coded))))
    (λ h. ((h.core, h.messages), (h.events, (h.objects, (h.unanswered, h.down_notice)))))
    (λ p. record { core = p.0.0; messages = p.0.1; events = p.1.0; objects = p.1.1.0; unanswered = p.1.1.1.0; down_notice = p.1.1.1.1 })
    (λ _. refl)

-- What a host keeps room for: one message more, while its vat is up, which is its Abort.
abbrev pub HasPlaceForAbort : State → ℕ → Type 0
HasPlaceForAbort s room = s.down ≡ None → 0 < room

-- Nothing is to be done, and nothing was hosted.
abbrev pub idle : State → Hosted
idle s = record { core = s; messages = []; events = []; objects = with_object s.bootstrap no_objects; unanswered = none_unanswered; down_notice = record { told = false; reason = [] } }

-- All that the steps left was told; that the vat is down was not, and it is.
abbrev pub has_only_down : Hosted → Bool
has_only_down h = (length h.events == 0) && is_some h.core.down && not h.down_notice.told

-- An object of a vat that is up is released, and that was not told.
abbrev pub has_released : Hosted → Bool
has_released h = is_none h.core.down && not (map.len h.objects == least_known h.core)

-- A call of the peer to a vat that is up is cancelled, and that was not told.
abbrev pub HasCancelled : Hosted → Type 0
HasCancelled h = (h.core.down ≡ None) × ((q : ℕ) × ((t : TaskId) × IsCancelledAt h.core h.unanswered q t))

-- No message is to be sent, and nothing is to be told.
pub record IsIdle (h : Hosted) : Type 0 where
  pub messages : h.messages ≡ []
  pub events : h.events ≡ []
  pub down : has_only_down h ≡ false
  pub released : has_released h ≡ false
  pub cancelled : ¬ (HasCancelled h)

-- The core took a step: what follows of it stands behind what was to be done, and behind that what its message made known.
abbrev pub stepped_so : Hosted → Effects → Option Event → State → Hosted
stepped_so old effects known s = record {
  core = s;
  messages = old.messages ++ effects.sends;
  events = old.events ++ told effects known;
  objects = old.objects;
  unanswered = followed effects s old.unanswered;
  down_notice = old.down_notice;
}

abbrev pub stepped : Hosted → Effects → State → Hosted
stepped old effects s = stepped_so old effects None s

-- the object that a command hosts
abbrev pub hosted_by : Command → Option ObjectId
hosted_by (command.Host o) = Some o
hosted_by c = None

-- A command is done, as the core does it. What it hosts is one of the objects from then on.
abbrev pub Does : Hosted → Command → Granted → Hosted → Type 0
Does old c granted new =
    (effects : Effects) × Obeys old.core c (Ok granted) effects new.core
    × (new ≡ record (stepped old effects new.core) { objects = with_object (hosted_by c) old.objects })

-- A command is refused and nothing is changed: by the core, or for want of memory for what would follow. A shut needs none.
abbrev pub Refuses : Hosted → Command → Refusal → Hosted → Type 0
Refuses old c r new = (Obeys old.core c (Err r) quiet old.core ⊎ ((r ≡ refusal.Memory) × (is_shut c ≡ false))) × (new ≡ old)

-- What comes of a command of any kind: one that is refused is handed back.
abbrev pub Commands : Hosted → Command → Result Granted (Refused Command) → Hosted → Type 0
Commands old c (Ok granted) new = Does old c granted new
Commands old c (Err e) new = Refuses old c e.refusal new × (e.back ≡ c)

abbrev pub is_abort : Message → Bool
is_abort (message.Plain (plain.Abort exception)) = true
is_abort m = false

-- the reason of an Abort
abbrev pub reason_of : Message → Option (List ℕ)
reason_of (message.Plain (plain.Abort exception)) = Some exception.reason
reason_of m = None

-- the reason that is to be told, once a message comes: that of an Abort, of a vat that is up; or none, if memory is wanting for it
abbrev pub IsReason : Option ℕ → Option (List ℕ) → List ℕ → List ℕ → Type 0
IsReason (Some n) given old new = new ≡ old
IsReason None None old new = new ≡ old
IsReason None (Some reason) old new = (new ≡ reason) ⊎ (new ≡ [])

abbrev pub with_reason : Hosted → List ℕ → Hosted
with_reason h reason = record h { down_notice = record (h.down_notice) { reason = reason } }

abbrev pub NotesReason : Hosted → Message → Hosted → Type 0
NotesReason old m new = (reason : List ℕ) × IsReason old.core.down (reason_of m) old.down_notice.reason reason × (new ≡ with_reason old reason)

-- What the message says of calls of the peer is noted; or it is not, and the vat is down then.
abbrev pub IsNoted : State → Message → State → Unanswered → Unanswered → Type 0
IsNoted s m t old new = (new ≡ heard_at s m old) ⊎ (IsSome t.down × (new ≡ old))

abbrev pub with_notes : Hosted → List ℕ → Unanswered → Hosted
with_notes h reason calls = record h { unanswered = calls; down_notice = record (h.down_notice) { reason = reason } }

-- What is to be known of a message that takes the vat to that state is noted before: the reason of an Abort, and what it says of calls.
abbrev pub Notes : Hosted → Message → State → Hosted → Type 0
Notes old m t new =
    (kept : List ℕ × Unanswered)
    × (IsReason old.core.down (reason_of m) old.down_notice.reason kept.0 × IsNoted old.core m t old.unanswered kept.1)
    × (new ≡ with_notes old kept.0 kept.1)

abbrev pub HearsSilently : Hosted → Message → Hosted → Type 0
HearsSilently old m new = (effects : Effects) × Receives old.core m effects new.core × (new ≡ stepped_so old effects (known_by m old.core new.core) new.core)

-- A message comes, as the core receives it.
abbrev pub Hears : Hosted → Message → Hosted → Type 0
Hears old m new = (mid : Hosted) × Notes old m new.core mid × HearsSilently mid m new

-- ---- what is told

-- The oldest event is told.
abbrev pub TellsOldest : Hosted → Event → Hosted → Type 0
TellsOldest old e new = old ≡ record new { events = e ∷ new.events }

-- All else was told, and now that the vat is down with that number, and the reason that was kept.
abbrev pub TellsDown : Hosted → Event → Hosted → Type 0
TellsDown old (event.Down number reason) new =
    (old.events ≡ []) × (old.down_notice.told ≡ false) × (old.core.down ≡ Some number) × (reason ≡ old.down_notice.reason) × (new ≡ record old { down_notice = record { told = true; reason = [] } })
TellsDown old e new = ⊥

-- One of them but the root that no place of a vat names; and that there is none.
pub record IsUnnamedAmong (s : State) (objects : Objects) (root : Option ObjectId) (o : ObjectId) : Type 0 where
  pub there : IsSome (map.get objects o.0)
  pub unnamed : names_object s o ≡ false
  pub other : root ≢ Some o

abbrev pub AreNamedBut : State → Objects → Option ObjectId → Type 0
AreNamedBut s objects root = (o : ObjectId) → IsSome (map.get objects o.0) → root ≢ Some o → IsTrue (names_object s o)

-- The object was hosted, no place of the vat names it any more, and it is not the bootstrap object.
abbrev pub IsReleased : Hosted → ObjectId → Type 0
IsReleased h o = IsUnnamedAmong h.core h.objects h.core.bootstrap o

-- All that the steps left was told, the vat is up, and it is told that an object is released, or that a task is cancelled.
abbrev pub TellsFreed : Hosted → Event → Hosted → Type 0
TellsFreed old (event.Released o) new = (old.events ≡ []) × (old.core.down ≡ None) × IsReleased old o × (new ≡ record old { objects = map.remove old.objects o.0 })
TellsFreed old (event.Cancelled t) new =
    (old.events ≡ []) × (old.core.down ≡ None) × ((q : ℕ) × IsCancelledAt old.core old.unanswered q t × (new ≡ record old { unanswered = told_of q old.unanswered }))
TellsFreed old e new = ⊥

-- A place of the vat names each object that was hosted and not told as released, but for the bootstrap object.
abbrev pub AllAreNamed : Hosted → Type 0
AllAreNamed h = AreNamedBut h.core h.objects h.core.bootstrap

-- A vat that is down was told to be; of one that is up no object is released, and no task is cancelled.
abbrev pub NoneIsFreed : Option ℕ → Hosted → Type 0
NoneIsFreed (Some n) h = h.down_notice.told ≡ true
NoneIsFreed None h = AllAreNamed h × NoneIsCancelledOf h.core h.unanswered

-- Nothing is to be told.
abbrev pub TellsNothing : Hosted → Hosted → Type 0
TellsNothing old new = (old.events ≡ []) × NoneIsFreed old.core.down old × (new ≡ old)

-- What is told: the oldest event that a step left. Behind them, of a vat that is up, each task that is cancelled, and each object that
-- is released; once it is down, that.
abbrev pub Tells : Hosted → Option Event → Hosted → Type 0
Tells old (Some e) new = TellsOldest old e new ⊎ (TellsFreed old e new ⊎ TellsDown old e new)
Tells old None new = TellsNothing old new
