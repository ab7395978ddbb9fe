-- How a crate that runs beside the machine uses the invariant.
use Rattle.laws_order.specs.Machine.{State}
use Rattle.laws_order.specs.Events.{Event, happens, Allowed}
use Rattle.laws_order.specs.Order.{InOrder}
use Rattle.laws_order.specs.Invariant.{Invariant}
use Rattle.laws_order.specs.declared.places.Reference.{Reference}
use Rattle.laws_order.specs.Places.{places}

-- What is carried from step to step, and what it gives of each reference after each step.
abbrev pub CarriedOverAStep : Type 0
CarriedOverAStep = (s : State places) (e : Event places) → Invariant s → Allowed s e → Invariant (happens s e) × ((r : Reference) → InOrder (happens s e) r)
