-- Runs of the machine of routes, worked out. The vats are ours, true, and theirs, false.
use Rattle.std.specs.Prelude.{◌≡◌, ℕ, zero, suc, true, false, List, [], ◌∷◌}
use Rattle.laws_order.specs.Machine.{Call, Disembargo, Message, State, start}
use Rattle.laws_order.specs.Events.{Event, Begin, Make, Settle, Receive, Shorten, Turn_back, Fate, Leaves, Breaks, run, AllAllowed}
use Rattle.laws_order.specs.Order.{indexes}
use Rattle.laws_order.specs.declared.places.Node.{Node}
use Rattle.laws_order.specs.declared.places.Node.TheVariants.{Object, Promise, Field}
use Rattle.laws_order.specs.declared.places.Group.TheVariants.{Alone, Outcome}
use Rattle.laws_order.specs.declared.places.Reference.{Reference}
use Rattle.laws_order.specs.Places.{places, at_start}

-- the one reference of each run, of our vat
abbrev ours : Reference
ours = record { vat = true; number = 0 }

-- where each run begins
abbrev first : State places
first = start at_start (λ r. Object true 0)

-- these events are allowed from s on
abbrev May : State places → List (Event places) → Type 0
May s events = AllAllowed s events

-- the calls of our reference that were delivered
abbrev Delivered : State places → List ℕ → Type 0
Delivered s is = indexes (s.refs ours).delivered ≡ is

-- Two calls are pipelined on a field of an answer of theirs. It returns: the field is our own object, and another
-- field of it breaks. We turn back under an embargo, and a third call is kept.
abbrev pub returned : Node → Fate places
returned (Object v k) = Breaks
returned (Promise v k) = Breaks
returned (Field v o zero) = Leaves (Object true 0)
returned (Field v o (suc p)) = Breaks

abbrev pipelined : List (Event places)
pipelined =
    Begin ours (Field false 7 0) ∷ Make ours ∷ Make ours ∷ Receive false ∷ Receive false ∷ Settle (Outcome false 7) returned
    ∷ Turn_back ours (Object true 0) ∷ Make ours ∷ []

-- Both calls come back, and the disembargo is echoed.
abbrev came_back : List (Event places)
came_back = Receive true ∷ Receive true ∷ Receive false ∷ []

-- The echo comes, and the fourth call is made.
abbrev lifted : List (Event places)
lifted = Receive true ∷ Make ours ∷ []

-- The third call waits for the echo though the first two are delivered; then all four are, in order.
pub record EmbargoRun : Type 0 where
  pub pipelined_may : May first pipelined
  pub came_back_may : May (run first pipelined) came_back
  pub lifted_may : May (run (run first pipelined) came_back) lifted
  pub two : Delivered (run (run first pipelined) came_back) (0 ∷ 1 ∷ [])
  pub four : Delivered (run (run (run first pipelined) came_back) lifted) (0 ∷ 1 ∷ 2 ∷ 3 ∷ [])

-- A promise of theirs is resolved to a promise of ours, while ours is resolved to an object of theirs: the Tribble
-- case. A call that was sent before passes the link to their vat twice. A second one is kept by the embargo, and the
-- third is made once the path is short.
abbrev crossed : List (Event places)
crossed =
    Begin ours (Promise false 1) ∷ Make ours ∷ Settle (Alone (Promise true 2)) (λ e. Leaves (Object false 0))
    ∷ Settle (Alone (Promise false 1)) (λ e. Leaves (Promise true 2)) ∷ Turn_back ours (Promise true 2) ∷ Make ours ∷ []

-- Their vat sends the call and the echo back, ours sends the call and the kept one on, and the third goes at once.
abbrev sent_twice : List (Event places)
sent_twice = Receive false ∷ Receive false ∷ Receive true ∷ Receive true ∷ Shorten ours (Object false 0) ∷ Make ours ∷ []

abbrev arrived : List (Event places)
arrived = Receive false ∷ Receive false ∷ Receive false ∷ []

pub record LinkTwiceRun : Type 0 where
  pub crossed_may : May first crossed
  -- under the embargo the head stays, though its stop is an exit
  pub stays : May (run first crossed) (Shorten ours (Object false 0) ∷ []) → ⊥
  pub sent_twice_may : May (run first crossed) sent_twice
  pub arrived_may : May (run (run first crossed) sent_twice) arrived
  pub none : Delivered (run (run first crossed) sent_twice) []
  pub three : Delivered (run (run (run first crossed) sent_twice) arrived) (0 ∷ 1 ∷ 2 ∷ [])

-- the call i, on the way to the promise of theirs
abbrev call_to_theirs : ℕ → Message places
call_to_theirs i = record { target = Promise false 1; ref = ours; what = Call i }

-- Two promises are resolved to one another: a route that goes round.
abbrev round : List (Event places)
round = Settle (Alone (Promise true 2)) (λ e. Leaves (Promise false 1)) ∷ Settle (Alone (Promise false 1)) (λ e. Leaves (Promise true 2)) ∷ []

-- The first call through an own head comes back to it, a second one is made, and the first goes round again.
abbrev from_own_head : List (Event places)
from_own_head = Begin ours (Promise true 2) ∷ Make ours ∷ Receive false ∷ Make ours ∷ Receive true ∷ []

-- Now the second call is before the first. So on such a route the link to an own head is not clear.
pub record OvertakenOnARound : Type 0 where
  pub round_may : May first round
  pub rest_may : May (run first round) from_own_head
  pub overtaken : (run (run first round) from_own_head).net.links false ≡ call_to_theirs 1 ∷ call_to_theirs 0 ∷ []

-- A call comes round behind the disembargo that was sent after it.
abbrev embargoed : List (Event places)
embargoed = Begin ours (Promise false 1) ∷ Make ours ∷ Receive false ∷ Turn_back ours (Promise true 2) ∷ Receive true ∷ []

-- So on such a route a disembargo is not behind all calls that were made before it.
pub record BehindTheDisembargoOnARound : Type 0 where
  pub round_may : May first round
  pub rest_may : May (run first round) embargoed
  pub behind : (run (run first round) embargoed).net.links false ≡ record { target = Promise false 1; ref = ours; what = Disembargo } ∷ call_to_theirs 0 ∷ []
