-- How a call that stands at a node of its own vat goes on.
use Rattle.std.specs.Prelude.{ℕ, List, [], ◌∷◌, ◌++◌}
use Rattle.laws_order.specs.Machine.{Names, Kind, Object, Open, Exit, Broken, Message, Content, Call, Disembargo, Echo, Net, State, changed, same_vat, put_ref}

-- The message goes to the end of the link to the vat of its target.
abbrev pub onto_link : {W : Names} → Net W → Message W → Net W
onto_link {W} n m = record n { links = changed same_vat n.links (W.home m.target) (n.links (W.home m.target) ++ m ∷ []) }

-- The call waits, behind all others, in the group of its target's stop.
abbrev pub onto_list : {W : Names} → Net W → Message W → Net W
onto_list {W} n m = record n { waiting = changed W.same_group n.waiting (W.group (n.stop m.target)) (n.waiting (W.group (n.stop m.target)) ++ m ∷ []) }

-- The call i of r is delivered at the object o.
abbrev pub deliver : {W : Names} → State W → W.Ref → ℕ → W.Node → State W
deliver s r i o = put_ref s r (record (s.refs r) { delivered = (s.refs r).delivered ++ record { index = i; object = o } ∷ [] })

-- The call i goes on by the kind of the stop at which it stands.
abbrev pub route_by : {W : Names} → State W → Message W → ℕ → Kind W → State W
route_by s m i Object = deliver s m.ref i (s.net.stop m.target)
route_by s m i Open = record s { net = onto_list s.net m }
route_by s m i (Exit to) = record s { net = onto_link s.net (record { target = to; ref = m.ref; what = Call i }) }
route_by s m i Broken = s

-- Only calls are routed.
abbrev pub route_as : {W : Names} → State W → Message W → Content → State W
route_as s m (Call i) = route_by s m i (s.net.kind (s.net.stop m.target))
route_as s m Disembargo = s
route_as s m Echo = s

-- One call is routed.
abbrev pub route : {W : Names} → State W → Message W → State W
route s m = route_as s m m.what

-- These calls are routed, the first one first.
abbrev pub route_all : {W : Names} → State W → List (Message W) → State W
route_all s [] = s
route_all s (m ∷ ms) = route_all (route s m) ms

-- The calls of r with these numbers, to be routed to a node.
abbrev pub calls_to : {W : Names} → W.Node → W.Ref → List ℕ → List (Message W)
calls_to n r [] = []
calls_to n r (i ∷ is) = record { target = n; ref = r; what = Call i } ∷ calls_to n r is
