-- What may happen, when it may, and what it leaves.
use Rattle.std.specs.Prelude.{◌≡◌, ℕ, suc, Bool, true, false, List, [], ◌∷◌, ◌++◌, Option, None, Some}
use Rattle.laws_order.specs.Machine.{Names, Kind, Object, Open, Exit, Broken, Message, Content, Call, Disembargo, Echo, Net, Embargo, Reference, State, choose, changed, same_vat, put_ref, new_reference}
use Rattle.laws_order.specs.Routing.{onto_link, route, route_all, calls_to}
use Rattle.laws_order.specs.Routes.{Path}

-- What becomes of an open stop: it becomes an exit to a node, it merges into a node of its vat, and then all
-- that stopped there stops at that node, or it breaks.
pub data Fate (W : Names) : Type 0 where
  Leaves : (to : W.Node) → Fate W
  Merges : (into : W.Node) → Fate W
  Breaks : Fate W

-- That a vat goes down is no event: from then on there is none at that vat.
pub data Event (W : Names) : Type 0 where
  -- a reference is made
  Begin : (r : W.Ref) (head : W.Node) → Event W
  -- a call is made
  Make : (r : W.Ref) → Event W
  -- the open stops of a group settle, each to its own fate, and the calls that waited go on
  Settle : (g : W.Group) (fate : W.Node → Fate W) → Event W
  -- a vat receives the oldest message that was sent to it
  Receive : (at : Bool) → Event W
  -- a head becomes another node of its vat with the same stop
  Rename : (r : W.Ref) (to : W.Node) → Event W
  -- path shortening with no embargo: an own head whose stop is an exit becomes the node to which that leads
  Shorten : (r : W.Ref) (to : W.Node) → Event W
  -- path shortening that turns back: a head at the other vat whose stop is an exit becomes the node to which
  -- that leads, and an embargo begins
  Turn_back : (r : W.Ref) (to : W.Node) → Event W
  -- the route of a head is found to lead to a broken stop
  Break : (r : W.Ref) (broken : W.Node) (steps : ℕ) → Event W

-- The reference with one more call made.
abbrev pub one_more : {W : Names} → Reference W → Reference W
one_more x = record x { made = suc x.made }

-- A call leaves its reference: it is routed at once if its target is of the own vat, else sent.
abbrev pub send : {W : Names} → State W → (m : Message W) → Dec (W.home m.target ≡ W.vat m.ref) → State W
send s m (yes _) = route s m
send s m (no _) = record s { net = onto_link s.net m }

-- A call is made: an embargo keeps it, through a dead reference it ends, and else it goes to the head.
abbrev pub make : {W : Names} → State W → W.Ref → Reference W → Option (Embargo W) → Bool → State W
make s r x (Some b) dead = put_ref s r (record (one_more x) { embargo = Some (record b { calls = b.calls ++ x.made ∷ [] }) })
make s r x None true = put_ref s r (one_more x)
make {W} s r x None false =
    send (put_ref s r (one_more x)) (record { target = x.head; ref = r; what = Call x.made }) (same_vat (W.home x.head) (W.vat r))

-- The embargo of r is lifted, and the calls that it kept are routed to the head.
abbrev pub lift : {W : Names} → State W → W.Ref → Reference W → Option (Embargo W) → State W
lift s r x None = s
lift s r x (Some b) = route_all (put_ref s r (record x { embargo = None })) (calls_to x.head r b.calls)

-- A disembargo at a stop of this kind. It meets an exit, whatever happened before.
abbrev pub echo_back : {W : Names} → Net W → W.Ref → Kind W → Net W
echo_back n r Object = n
echo_back n r Open = n
echo_back n r (Exit to) = onto_link n (record { target = to; ref = r; what = Echo })
echo_back n r Broken = n

-- A message that was received.
abbrev pub receive_as : {W : Names} → State W → Message W → Content → State W
receive_as s m (Call i) = route s m
receive_as s m Disembargo = record s { net = echo_back s.net m.ref (s.net.kind (s.net.stop m.target)) }
receive_as s m Echo = lift s m.ref (s.refs m.ref) (s.refs m.ref).embargo

-- The oldest message of the link to a vat is received there. There may be none.
abbrev pub receive : {W : Names} → State W → Bool → List (Message W) → State W
receive s at [] = s
receive s at (m ∷ ms) = receive_as (record s { net = record (s.net) { links = changed same_vat s.net.links at ms } }) m m.what

-- Where a stop with this fate is from then on.
abbrev pub place_of : {W : Names} → W.Node → Fate W → W.Node
place_of e (Leaves to) = e
place_of e (Merges into) = into
place_of e Breaks = e

-- What it does from then on. A node that merged is no stop any more: what merges into such a node, or into itself, breaks.
abbrev pub kind_of : {W : Names} → Fate W → Kind W
kind_of (Leaves to) = Exit to
kind_of (Merges into) = Broken
kind_of Breaks = Broken

-- Where a stop of this kind is once the group g settled: all but the open stops of g stay.
abbrev pub new_stop : {W : Names} → W.Group → (W.Node → Fate W) → W.Node → Kind W → W.Node
new_stop g fate e Object = e
new_stop {W} g fate e Open = choose (W.same_group (W.group e) g) (place_of e (fate e)) e
new_stop g fate e (Exit to) = e
new_stop g fate e Broken = e

-- What it does then.
abbrev pub new_kind : {W : Names} → W.Group → (W.Node → Fate W) → W.Node → Kind W → Kind W
new_kind g fate e Object = Object
new_kind {W} g fate e Open = choose (W.same_group (W.group e) g) (kind_of (fate e)) Open
new_kind g fate e (Exit to) = Exit to
new_kind g fate e Broken = Broken

-- The group g has settled, and its waiting calls are out of its list.
abbrev pub settled : {W : Names} → Net W → W.Group → (W.Node → Fate W) → Net W
settled {W} n g fate = record {
  stop = λ m. new_stop g fate (n.stop m) (n.kind (n.stop m));
  kind = λ e. new_kind g fate e (n.kind e);
  waiting = changed W.same_group n.waiting g [];
  links = n.links;
}

-- What an event leaves.
abbrev pub happens : {W : Names} → State W → Event W → State W
happens s (Begin r head) = put_ref s r (new_reference true head)
happens s (Make r) = make s r (s.refs r) (s.refs r).embargo (s.refs r).dead
happens s (Settle g fate) = route_all (record s { net = settled s.net g fate }) (s.net.waiting g)
happens s (Receive at) = receive s at (s.net.links at)
happens s (Rename r to) = put_ref s r (record (s.refs r) { head = to })
happens s (Shorten r to) = put_ref s r (record (s.refs r) { head = to })
happens s (Turn_back r to) =
    put_ref (record s { net = onto_link s.net (record { target = (s.refs r).head; ref = r; what = Disembargo }) })
    r
    (record (s.refs r) { head = to; embargo = Some (record { old_head = (s.refs r).head; calls = [] }) })
happens s (Break r broken steps) = put_ref s r (record (s.refs r) { dead = true })

-- A reference that was made and has no embargo.
abbrev pub IsFree : {W : Names} → Reference W → Type 0
IsFree x = (x.known ≡ true) × (x.embargo ≡ None)

-- When an event may happen. Moving a head asks only for what is so now: a stop that is not open stays as it is,
-- so it does not matter when the news of it came.
abbrev pub Allowed : {W : Names} → State W → Event W → Type 0
Allowed s (Begin r head) = (s.refs r).known ≡ false
Allowed s (Make r) = (s.refs r).known ≡ true
Allowed {W} s (Settle g fate) =
    (e into : W.Node) → s.net.kind e ≡ Open → W.group e ≡ g → fate e ≡ Merges into → W.home into ≡ W.home e
Allowed s (Receive at) = Unit {0}
Allowed {W} s (Rename r to) =
    (s.net.stop to ≡ s.net.stop (s.refs r).head) × (W.home to ≡ W.home (s.refs r).head)
Allowed {W} s (Shorten r to) =
    IsFree (s.refs r) × (W.home (s.refs r).head ≡ W.vat r) × (W.home to ≡ W.vat r → ⊥) × (s.net.kind (s.net.stop (s.refs r).head) ≡ Exit to)
Allowed {W} s (Turn_back r to) =
    IsFree (s.refs r) × (W.home (s.refs r).head ≡ W.vat r → ⊥) × (s.net.kind (s.net.stop (s.refs r).head) ≡ Exit to)
Allowed s (Break r broken steps) = IsFree (s.refs r) × Path s.net steps (s.net.stop (s.refs r).head) broken × (s.net.kind broken ≡ Broken)

-- What a list of events leaves, the first one first.
abbrev pub run : {W : Names} → State W → List (Event W) → State W
run s [] = s
run s (e ∷ es) = run (happens s e) es

-- Each of these events may happen when it does.
abbrev pub AllAllowed : {W : Names} → State W → List (Event W) → Type 0
AllAllowed s [] = Unit {0}
AllAllowed s (e ∷ es) = Allowed s e × AllAllowed (happens s e) es
