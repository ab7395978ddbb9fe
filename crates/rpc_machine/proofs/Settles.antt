-- A node that stops anywhere stops within the number of links that `settle` follows.
use Rattle.std.proofs.Common.{◌≡◌, ◌⊎◌, inl, inr, ℕ, zero, suc, ◌+◌, ◌≤◌, ◌<◌, true, false, cond, List, [], ◌∷◌, ◌++◌, length, Option, None, Some, slice_get, unwrap_or, refl, sym, ap, subst, ◌∙◌, arith}
use Rattle.std.specs.Ordering.{nat_cmp, eq_by_cmp}
use Rattle.std.specs.FinMap as map
use Rattle.std.specs.FinMap.Entries as entries
use Rattle.rpc_journal.specs.rpc_msg.specs.Op.{Op}
use Rattle.rpc_journal.specs.rpc_msg.specs.CapAt.{CapAt}
use Rattle.rpc_journal.specs.rpc_msg.specs.CapAt.TheVariants.{Cap, Null, NotCap}
use Rattle.rpc_machine.specs.Payloads.{cap_at}
use Rattle.rpc_machine.specs.declared.node.Node.{Node}
use Rattle.rpc_machine.specs.declared.node.Node.TheVariants as node
use Rattle.rpc_machine.specs.declared.node.Reason.{Reason}
use Rattle.rpc_machine.specs.declared.calls.Promise.{Promise}
use Rattle.rpc_machine.specs.declared.calls.Promise.TheVariants as promise
use Rattle.rpc_machine.specs.declared.calls.Value.{Value}
use Rattle.rpc_machine.specs.declared.calls.Value.TheVariants as value
use Rattle.rpc_machine.specs.declared.calls.KeptOutcome.{KeptOutcome}
use Rattle.rpc_machine.specs.State.{State}
use Rattle.rpc_machine.specs.Laws.{Stops}
use Rattle.rpc_machine.specs.Nodes.{node_of_cap, field_of, promise_link, value_of, field_link, link, follow, links_of, all_links, links, settle}

abbrev In : Node → List Node → Type 0
In n [] = ⊥
In n (m ∷ ms) = (n ≡ m) ⊎ In n ms

stops_once : (s : State) (d e : ℕ) (n : Node) → Stops s d n → Stops s e n → d ≡ e
stops_once s zero zero n h k = refl
stops_once s zero (suc e) n h k = let f : Some k.0 ≡ None = sym k.1 ∙ h in cc
stops_once s (suc d) zero n h k = let f : Some h.0 ≡ None = sym h.1 ∙ k in cc
stops_once s (suc d) (suc e) n h k =
    let f : Some k.0 ≡ Some h.0 = sym k.1 ∙ h.1 in
    let g : k.0 ≡ h.0 = cc in
    ap suc (stops_once s d e h.0 h.2 (subst (Stops s e) g k.2))

-- ---- Nodes at different distances stand at different places of a list

abbrev Falling : ℕ → List ℕ → Type 0
Falling b [] = Unit {0}
Falling b (d ∷ ds) = (d < b) × Falling d ds

abbrev AllIn : State → List Node → List ℕ → Type 0
AllIn s xs [] = Unit {0}
AllIn s xs (d ∷ ds) = ((x : Node) × In x xs × Stops s d x) × AllIn s xs ds

falling_up : (b c : ℕ) (ds : List ℕ) → b ≤ c → Falling b ds → Falling c ds
falling_up b c [] l h = tt
falling_up b c (d ∷ ds) l h = (let f = h.0 in omega arith, h.1)

-- The rest of the distances, without the one at the head.
record Left (s : State) (xs : List Node) (b : ℕ) (ds : List ℕ) : Type 0 where
  rest : List ℕ
  falling : Falling b rest
  there : AllIn s xs rest
  longer : length ds ≤ suc (length rest)

-- None of the distances is d, so none stands at the head.
past : (s : State) (x : Node) (xs : List Node) (d : ℕ) → Stops s d x → (ds : List ℕ) → Falling d ds → AllIn s (x ∷ xs) ds → AllIn s xs ds
past s x xs d h [] f k = tt
past s x xs d h (e ∷ es) f k = (at k.0.1, past s x xs d h es (falling_up e d es (let g = f.0 in omega arith) f.1) k.1)
  where
    at : (k.0.0 ≡ x) ⊎ In k.0.0 xs → (y : Node) × In y xs × Stops s e y
    at (inl p) = let q : d ≡ e = stops_once s d e x h (subst (Stops s e) p k.0.2) in let g = f.0 in absurd (omega arith)
    at (inr i) = (k.0.0, i, k.0.2)

without : (s : State) (x : Node) (xs : List Node) (b : ℕ) (ds : List ℕ) → Falling b ds → AllIn s (x ∷ xs) ds → Left s xs b ds
without s x xs b [] f k = record { rest = []; falling = tt; there = tt; longer = omega arith }
without s x xs b (d ∷ ds) f k = by (without s x xs d ds f.1 k.1) k.0.1
  where
    by : Left s xs d ds → (k.0.0 ≡ x) ⊎ In k.0.0 xs → Left s xs b (d ∷ ds)
    by r (inl p) = record { rest = ds; falling = falling_up d b ds (let g = f.0 in omega arith) f.1; there = past s x xs d (subst (Stops s d) p k.0.2) ds f.1 k.1; longer = omega arith }
    by r (inr i) =
        record { rest = d ∷ r.rest; falling = (f.0, r.falling); there = ((k.0.0, i, k.0.2), r.there); longer = let g = r.longer in omega arith }

at_most : (s : State) (xs : List Node) (b : ℕ) (ds : List ℕ) → Falling b ds → AllIn s xs ds → length ds ≤ length xs
at_most s [] b [] f k = omega arith
at_most s [] b (d ∷ ds) f k = absurd k.0.1
at_most s (x ∷ xs) b ds f k =
    let r = without s x xs b ds f k in
    let h = at_most s xs b r.rest r.falling r.there in
    let g = r.longer in
    omega arith

-- ---- Where links lead

abbrev target : Promise → List Node
target (promise.Open calls) = []
target (promise.Fixed to) = to ∷ []

abbrev targets : List (ℕ × Promise) → List Node
targets [] = []
targets (e ∷ es) = target e.1 ++ targets es

abbrev caps : Option Value → List Node
caps None = []
caps (Some (value.Results payload cs)) = cs
caps (Some (value.Exception exception)) = []

abbrev all_caps : List (ℕ × KeptOutcome) → List Node
all_caps [] = []
all_caps (e ∷ es) = caps e.1.value ++ all_caps es

-- All nodes to which a link leads, but for those that are broken.
abbrev all : State → List Node
all s = targets (map.entries s.promises) ++ all_caps (map.entries s.outcomes)

in_left : (n : Node) (xs ys : List Node) → In n xs → In n (xs ++ ys)
in_left n [] ys h = absurd h
in_left n (x ∷ xs) ys (inl e) = inl e
in_left n (x ∷ xs) ys (inr h) = inr (in_left n xs ys h)

in_right : (n : Node) (xs ys : List Node) → In n ys → In n (xs ++ ys)
in_right n [] ys h = h
in_right n (x ∷ xs) ys h = inr (in_right n xs ys h)

length-append : (xs ys : List Node) → length (xs ++ ys) ≡ length xs + length ys
length-append [] ys = omega arith
length-append (x ∷ xs) ys = let h = length-append xs ys in omega arith

few_targets : (es : List (ℕ × Promise)) → length (targets es) ≤ length es
few_targets [] = omega arith
few_targets (e ∷ es) = one (few_targets es) e.1
  where
    one : length (targets es) ≤ length es → (p : Promise) → length (target p ++ targets es) ≤ suc (length es)
    one h (promise.Open calls) = omega arith
    one h (promise.Fixed to) = omega arith

few_caps : (es : List (ℕ × KeptOutcome)) → length (all_caps es) ≡ all_links es
few_caps [] = refl
few_caps (e ∷ es) = one (few_caps es) e.1.value
  where
    one : length (all_caps es) ≡ all_links es → (v : Option Value) → length (caps v ++ all_caps es) ≡ links_of v + all_links es
    one h None = omega arith
    one h (Some (value.Results payload cs)) = let g = length-append cs (all_caps es) in omega arith
    one h (Some (value.Exception exception)) = omega arith

few : (s : State) → suc (length (all s)) ≤ links s
few s =
    let a = few_targets (map.entries s.promises) in
    let b = few_caps (map.entries s.outcomes) in
    let c = length-append (targets (map.entries s.promises)) (all_caps (map.entries s.outcomes)) in
    let d = map.len-entries s.promises in
    omega arith

found_target : (k : ℕ) (m : Node) (es : List (ℕ × Promise)) → promise_link (entries.find nat_cmp k es) ≡ Some m → In m (targets es)
found_target k m [] h = cc
found_target k m (e ∷ es) h =
    elim (eq_by_cmp nat_cmp k e.0) as (λ b. promise_link (cond b (Some e.1) (entries.find nat_cmp k es)) ≡ Some m → In m (target e.1 ++ targets es)) [
      | true ↦ λ g. one e.1 g
      | false ↦ λ g. in_right m (target e.1) (targets es) (found_target k m es g)
    ] h
  where
    one : (p : Promise) → promise_link (Some p) ≡ Some m → In m (target p ++ targets es)
    one (promise.Open calls) g = cc
    one (promise.Fixed to) g = let f : m ≡ to = cc in inl f

in_list : (m : Node) (cs : List Node) (i : ℕ) → slice_get cs i ≡ Some m → In m cs
in_list m [] i h = cc
in_list m (c ∷ cs) zero h = let f : m ≡ c = cc in inl f
in_list m (c ∷ cs) (suc i) h = inr (in_list m cs i h)

-- The capability of a field is among the capabilities, or broken.
cap_there : (m : Node) (cs : List Node) (a : CapAt) → node_of_cap cs a ≡ m → In m cs ⊎ ((r : Reason) × (m ≡ node.Broken r))
cap_there m cs Null h = inr (_, sym h)
cap_there m cs NotCap h = inr (_, sym h)
cap_there m cs (Cap i) h = one (slice_get cs i) refl h
  where
    one : (o : Option Node) → slice_get cs i ≡ o → unwrap_or o (node_of_cap [] NotCap) ≡ m → In m cs ⊎ ((r : Reason) × (m ≡ node.Broken r))
    one None e g = inr (_, sym g)
    one (Some x) e g = inl (in_list m cs i (e ∙ ap Some g))

there_or_broken : (m : Node) (path : List Op) (v : Option Value) → field_link path v ≡ Some m → In m (caps v) ⊎ ((r : Reason) × (m ≡ node.Broken r))
there_or_broken m path None h = cc
there_or_broken m path (Some (value.Exception exception)) h = let f : m ≡ field_of (value.Exception exception) path = cc in inr (_, f)
there_or_broken m path (Some (value.Results payload cs)) h = let f : field_of (value.Results payload cs) path ≡ m = cc in cap_there m cs (cap_at payload path) f

found_cap : (k : ℕ) (path : List Op) (m : Node) (es : List (ℕ × KeptOutcome)) → field_link path (value_of (entries.find nat_cmp k es)) ≡ Some m → In m (all_caps es) ⊎ ((r : Reason) × (m ≡ node.Broken r))
found_cap k path m [] h = cc
found_cap k path m (e ∷ es) h =
    elim (eq_by_cmp nat_cmp k e.0) as (λ b. field_link path (value_of (cond b (Some e.1) (entries.find nat_cmp k es))) ≡ Some m → In m (caps e.1.value ++ all_caps es) ⊎ ((r : Reason) × (m ≡ node.Broken r))) [
      | true ↦ λ g. left (there_or_broken m path e.1.value g)
      | false ↦ λ g. right (found_cap k path m es g)
    ] h
  where
    left : In m (caps e.1.value) ⊎ ((r : Reason) × (m ≡ node.Broken r)) → In m (caps e.1.value ++ all_caps es) ⊎ ((r : Reason) × (m ≡ node.Broken r))
    left (inl i) = inl (in_left m (caps e.1.value) (all_caps es) i)
    left (inr b) = inr b

    right : In m (all_caps es) ⊎ ((r : Reason) × (m ≡ node.Broken r)) → In m (caps e.1.value ++ all_caps es) ⊎ ((r : Reason) × (m ≡ node.Broken r))
    right (inl i) = inl (in_right m (caps e.1.value) (all_caps es) i)
    right (inr b) = inr b

no_more : (s : State) (d : ℕ) (m : Node) (r : Reason) → m ≡ node.Broken r → Stops s (suc d) m → ⊥
no_more s d m r e h = let k = subst (Stops s (suc d)) e h in let f : None ≡ Some k.0 = k.1 in cc

-- A link that leads on to a link leads to one of these nodes.
linked : (s : State) (d : ℕ) (n m : Node) → link s n ≡ Some m → Stops s (suc d) m → In m (all s)
linked s d (node.Object o) m h k = cc
linked s d (node.Promise p) m h k = in_left m (targets (map.entries s.promises)) (all_caps (map.entries s.outcomes)) (found_target p m (map.entries s.promises) (ap promise_link (sym (map.get-entries s.promises p)) ∙ h))
linked s d (node.Field o path) m h k = by (found_cap o path m (map.entries s.outcomes) (ap (λ x. field_link path (value_of x)) (sym (map.get-entries s.outcomes o)) ∙ h))
  where
    by : In m (all_caps (map.entries s.outcomes)) ⊎ ((r : Reason) × (m ≡ node.Broken r)) → In m (all s)
    by (inl i) = in_right m (targets (map.entries s.promises)) (all_caps (map.entries s.outcomes)) i
    by (inr b) = absurd (no_more s d m b.0 b.1 k)
linked s d (node.Import e) m h k = cc
linked s d (node.Pipe q path) m h k = cc
linked s d (node.Broken reason) m h k = cc

abbrev down : ℕ → List ℕ
down zero = []
down (suc d) = suc d ∷ down d

falls : (d : ℕ) → Falling (suc d) (down d)
falls zero = tt
falls (suc d) = (omega arith, falls d)

length-down : (d : ℕ) → length (down d) ≡ d
length-down zero = refl
length-down (suc d) = let h = length-down d in omega arith

passes : (s : State) (d : ℕ) (n : Node) → Stops s (suc d) n → AllIn s (all s) (down d)
passes s zero n h = tt
passes s (suc d) n h = ((h.0, linked s d n h.0 h.1 h.2, h.2), passes s d h.0 h.2)

-- No node leads further than the number of links.
pub few_links : (s : State) (d : ℕ) (n : Node) → Stops s d n → d ≤ links s
few_links s zero n h = omega arith
few_links s (suc d) n h =
    let a = at_most s (all s) (suc d) (down d) (falls d) (passes s d n h) in
    let b = length-down d in
    let c = few s in
    omega arith

pub stays : (s : State) (k : ℕ) (n : Node) → link s n ≡ None → follow s k n ≡ n
stays s zero n h = refl
stays s (suc k) n h = ap (λ o. follow s k (unwrap_or o n)) h ∙ stays s k n h

-- A node with no link settles where it is.
pub settles_here : (s : State) (n : Node) → link s n ≡ None → settle s n ≡ n
settles_here s n h = stays s (links s) n h

follows : (s : State) (k d : ℕ) (n : Node) → d ≤ k → Stops s d n → link s (follow s k n) ≡ None
follows s k zero n l h = ap (link s) (stays s k n h) ∙ h
follows s zero (suc d) n l h = absurd (omega arith)
follows s (suc k) (suc d) n l h = ap (λ o. link s (follow s k (unwrap_or o n))) h.1 ∙ follows s k d h.0 (omega arith) h.2

-- Where a node settles, it stops.
pub settle_stops : (s : State) (d : ℕ) (n : Node) → Stops s d n → link s (settle s n) ≡ None
settle_stops s d n h = follows s (links s) d n (few_links s d n h) h

same_end : (s : State) (k j d : ℕ) (n : Node) → d ≤ k → d ≤ j → Stops s d n → follow s k n ≡ follow s j n
same_end s k j zero n l m h = stays s k n h ∙ sym (stays s j n h)
same_end s zero j (suc d) n l m h = absurd (omega arith)
same_end s (suc k) zero (suc d) n l m h = absurd (omega arith)
same_end s (suc k) (suc j) (suc d) n l m h =
    ap (λ o. follow s k (unwrap_or o n)) h.1 ∙ same_end s k j d h.0 (omega arith) (omega arith) h.2 ∙ ap (λ o. follow s j (unwrap_or o n)) (sym h.1)

-- A node settles where its link leads.
pub settle_link : (s : State) (d : ℕ) (n m : Node) → link s n ≡ Some m → Stops s d m → settle s n ≡ settle s m
settle_link s d n m e h =
    let b : suc d ≤ links s = few_links s (suc d) n (m, e, h) in
    let one : follow s (links s) n ≡ follow s (suc (links s)) n = same_end s (links s) (suc (links s)) (suc d) n b (omega arith) (m, e, h) in
    one ∙ ap (λ o. follow s (links s) (unwrap_or o n)) e
