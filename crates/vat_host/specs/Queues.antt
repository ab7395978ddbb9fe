-- Lists and events that wait, what is told of a step, and the room that its effects need.
use Rattle.std.specs.Prelude.{ℕ, List, [], ◌∷◌, ◌++◌, map, flat_map, length, ◌<◌, Option, None, Some}
use Rattle.rpc_journal.specs.declared.report.Delivery.{Delivery}
use Rattle.rpc_journal.specs.declared.report.Ended.{Ended}
use Rattle.rpc_machine.specs.declared.command.Effects.{Effects}
use Rattle.vat_host.specs.declared.event.Event.{Event}
use Rattle.vat_host.specs.declared.event.Event.TheVariants as event
use Rattle.vat_host.specs.declared.event_queue.StepEvents.{StepEvents}

abbrev pub NoneIsEmpty : {T : Type 0} → List (List T) → Type 0
NoneIsEmpty [] = Unit {0}
NoneIsEmpty ([] ∷ lists) = ⊥
NoneIsEmpty ((x ∷ xs) ∷ lists) = NoneIsEmpty lists

-- A list that is not empty has a place.
abbrev pub HasPlace : {T : Type 0} → List T → ℕ → Type 0
HasPlace list room = 0 < length list → 0 < room

-- ---- what is told of a step

abbrev pub listed : {T : Type 0} → Option T → List T
listed None = []
listed (Some x) = x ∷ []

-- the calls to serve, then the own calls that ended, and then what its message made known
abbrev pub told_of : List Delivery → List Ended → Option Event → List Event
told_of deliveries ended known = map event.Served deliveries ++ (map event.Ended ended ++ listed known)

abbrev pub told : Effects → Option Event → List Event
told effects known = told_of effects.deliveries effects.answers known

abbrev pub told_by : StepEvents → List Event
told_by step = told_of step.deliveries step.ended step.known

abbrev pub told_by_all : List StepEvents → List Event
told_by_all = flat_map told_by

-- Each step has something to tell.
abbrev pub EachTells : List StepEvents → Type 0
EachTells steps = NoneIsEmpty (map told_by steps)
