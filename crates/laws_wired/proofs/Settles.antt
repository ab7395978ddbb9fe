-- Where nodes lead is alike in both.
use Rattle.std.proofs.Common.{◌≡◌, ℕ, zero, suc, ◌+◌, Bool, true, false, cond, List, [], ◌∷◌, ◌++◌, map, length, Option, None, Some, unwrap_or, slice_get, refl, sym, ap, ◌∙◌}
use Rattle.std.specs.FinMap as finite
use Rattle.finite_maps.specs.Tally.{Map, map_values, option_changed, changed_each}
use Rattle.finite_maps.proofs.Values.{entries-map_values, get-map_values, len-map_values}
use Rattle.rpc_msg.specs.Op.{Op}
use Rattle.rpc_msg.specs.CapAt.{CapAt}
use Rattle.rpc_machine.specs.declared.node.Node.{Node}
use Rattle.rpc_machine.specs.declared.node.Node.TheVariants as node
use Rattle.rpc_machine.specs.declared.node.Reason.{Reason}
use Rattle.rpc_machine.specs.declared.node.Reason.TheVariants.{NullCapability, NotACapability, BrokenPromise}
use Rattle.rpc_machine.specs.declared.calls.KeptOutcome.{KeptOutcome}
use Rattle.rpc_machine.specs.Nodes.{node_of_cap, field_of, promise_link, value_of, field_link, link, follow, links_of, all_links, links, settle}
use Rattle.rpc_machine.specs.State.{State}
use Rattle.laws_wired.specs.Contents.{HoldsAt, EachLost}
use Rattle.laws_wired.specs.Pairs.{TwoNodes, OneNode, BothBroken, node_at, IsBroken, TwoValues, Results, Failure, TwoKept, TwoPromises, Open, Fixed, TwoStates, value_at, kept_at, promise_at, state_at}
use Rattle.laws_wired.proofs.Contents.{CapsAlike, Kept, Lost, Nulls, Others, Past, caps_alike}

pub map-append : {X Y : Type 0} (f : X → Y) (xs ys : List X) → map f (xs ++ ys) ≡ map f xs ++ map f ys
map-append f [] ys = refl
map-append f (x ∷ xs) ys = ap (λ zs. f x ∷ zs) (map-append f xs ys)

-- What an entry answers that is the same in both.
pub asked : {X Y A : Type 0} (g : Option Y → A) (f h : X → Y) → ((o : Option X) → g (option_changed f o) ≡ g (option_changed h o)) → (m : Map X) (k : ℕ)
    → g (finite.get (map_values f m) k) ≡ g (finite.get (map_values h m) k)
asked g f h same m k = ap g (get-map_values f m k) ∙ same (finite.get m k) ∙ sym (ap g (get-map_values h m k))

pub same_len : {X Y : Type 0} (f h : X → Y) (m : Map X) → finite.len (map_values f m) ≡ finite.len (map_values h m)
same_len f h m = len-map_values f m ∙ sym (len-map_values h m)

-- ---- what stands at a path

abbrev pub at2 : List TwoNodes → ℕ → TwoNodes
at2 [] i = OneNode (node.Broken NotACapability)
at2 (m ∷ ms) zero = m
at2 (m ∷ ms) (suc i) = at2 ms i

at_so : (b : Bool) (ms : List TwoNodes) (i : ℕ) → node_at b (at2 ms i) ≡ unwrap_or (slice_get (map (node_at b) ms) i) (node.Broken NotACapability)
at_so b [] i = refl
at_so b (m ∷ ms) zero = refl
at_so b (m ∷ ms) (suc i) = at_so b ms i

pub broken_at : (ms : List TwoNodes) (i : ℕ) → HoldsAt IsBroken ms i → IsBroken (at2 ms i)
broken_at [] i h = absurd h
broken_at (m ∷ ms) zero h = h
broken_at (m ∷ ms) (suc i) h = broken_at ms i h

module _ (lost : ℕ → Bool) (caps : List TwoNodes) (gone : EachLost IsBroken caps lost) where
  abbrev pub found2 : {x y : CapAt} → CapsAlike lost x y → TwoNodes
  found2 (Kept i e) = at2 caps i
  found2 (Lost i e) = BothBroken (λ b. cond b (broken_at caps i (gone i e)).0 NullCapability)
  found2 Nulls = OneNode (node.Broken NullCapability)
  found2 Others = OneNode (node.Broken NotACapability)
  found2 Past = BothBroken (λ b. cond b NotACapability NullCapability)

  found_over : {x y : CapAt} (k : CapsAlike lost x y) → node_at false (found2 k) ≡ node_of_cap (map (node_at false) caps) x
  found_over (Kept i e) = at_so false caps i
  found_over (Lost i e) = refl
  found_over Nulls = refl
  found_over Others = refl
  found_over Past = refl

  found_within : {x y : CapAt} (k : CapsAlike lost x y) → node_at true (found2 k) ≡ node_of_cap (map (node_at true) caps) y
  found_within (Kept i e) = at_so true caps i
  found_within (Lost i e) = sym (broken_at caps i (gone i e)).1 ∙ at_so true caps i
  found_within Nulls = refl
  found_within Others = refl
  found_within Past = refl

abbrev pub field2 : TwoValues → List Op → TwoNodes
field2 (Results x caps gone) path = found2 x.lost caps gone (caps_alike x path)
field2 (Failure e) path = OneNode (node.Broken BrokenPromise)

pub fields : (b : Bool) (w : TwoValues) (path : List Op) → node_at b (field2 w path) ≡ field_of (value_at b w) path
fields true (Results x caps gone) path = found_within x.lost caps gone (caps_alike x path)
fields false (Results x caps gone) path = found_over x.lost caps gone (caps_alike x path)
fields b (Failure e) path = refl

-- ---- links

abbrev pub promise_link2 : Option TwoPromises → Option TwoNodes
promise_link2 None = None
promise_link2 (Some (Open calls)) = None
promise_link2 (Some (Fixed to)) = Some to

abbrev pub field_link2 : List Op → Option TwoValues → Option TwoNodes
field_link2 path None = None
field_link2 path (Some w) = Some (field2 w path)

abbrev pub value_of2 : Option TwoKept → Option TwoValues
value_of2 None = None
value_of2 (Some x) = x.value

abbrev pub link2 : TwoStates → TwoNodes → Option TwoNodes
link2 z (OneNode (node.Object o)) = None
link2 z (OneNode (node.Promise p)) = promise_link2 (finite.get z.promises p)
link2 z (OneNode (node.Field o path)) = field_link2 path (value_of2 (finite.get z.outcomes o))
link2 z (OneNode (node.Import e)) = None
link2 z (OneNode (node.Pipe q path)) = None
link2 z (OneNode (node.Broken reason)) = None
link2 z (BothBroken why) = None

module _ (b : Bool) where
  promise_links : (o : Option TwoPromises) → option_changed (node_at b) (promise_link2 o) ≡ promise_link (option_changed (promise_at b) o)
  promise_links None = refl
  promise_links (Some (Open calls)) = refl
  promise_links (Some (Fixed to)) = refl

  value_links : (path : List Op) (w : Option TwoValues) → option_changed (node_at b) (field_link2 path w) ≡ field_link path (option_changed (value_at b) w)
  value_links path None = refl
  value_links path (Some w) = ap Some (fields b w path)

  kept_links : (path : List Op) (o : Option TwoKept) → option_changed (node_at b) (field_link2 path (value_of2 o)) ≡ field_link path (value_of (option_changed (kept_at b) o))
  kept_links path None = refl
  kept_links path (Some x) = value_links path x.value

  links_so : (z : TwoStates) (m : TwoNodes) → option_changed (node_at b) (link2 z m) ≡ link (state_at b z) (node_at b m)
  links_so z (OneNode (node.Object o)) = refl
  links_so z (OneNode (node.Promise p)) = promise_links (finite.get z.promises p) ∙ sym (ap promise_link (get-map_values (promise_at b) z.promises p))
  links_so z (OneNode (node.Field o path)) =
      kept_links path (finite.get z.outcomes o) ∙ sym (ap (λ (x : Option KeptOutcome). field_link path (value_of x)) (get-map_values (kept_at b) z.outcomes o))
  links_so z (OneNode (node.Import e)) = refl
  links_so z (OneNode (node.Pipe q path)) = refl
  links_so z (OneNode (node.Broken reason)) = refl
  links_so z (BothBroken why) = refl

abbrev pub next2 : TwoStates → TwoNodes → TwoNodes
next2 z m = unwrap_or (link2 z m) m

abbrev pub follow2 : TwoStates → ℕ → TwoNodes → TwoNodes
follow2 z zero m = m
follow2 z (suc k) m = follow2 z k (next2 z m)

unwrapped : (b : Bool) (o : Option TwoNodes) (m : TwoNodes) → node_at b (unwrap_or o m) ≡ unwrap_or (option_changed (node_at b) o) (node_at b m)
unwrapped b None m = refl
unwrapped b (Some n) m = refl

pub follows : (b : Bool) (z : TwoStates) (k : ℕ) (m : TwoNodes) → node_at b (follow2 z k m) ≡ follow (state_at b z) k (node_at b m)
follows b z zero m = refl
follows b z (suc k) m =
    follows b z k (next2 z m)
    ∙ ap (follow (state_at b z) k) (unwrapped b (link2 z m) m ∙ ap (λ (o : Option Node). unwrap_or o (node_at b m)) (links_so b z m))

pub length-map : {X Y : Type 0} (f : X → Y) (xs : List X) → length (map f xs) ≡ length xs
length-map f [] = refl
length-map f (x ∷ xs) = ap suc (length-map f xs)

count_links : (w : Option TwoValues) → links_of (option_changed (value_at true) w) ≡ links_of (option_changed (value_at false) w)
count_links None = refl
count_links (Some (Results x caps gone)) = length-map (node_at true) caps ∙ sym (length-map (node_at false) caps)
count_links (Some (Failure e)) = refl

all_same : (es : List (ℕ × TwoKept)) → all_links (changed_each (kept_at true) es) ≡ all_links (changed_each (kept_at false) es)
all_same [] = refl
all_same (e ∷ es) =
    let a = count_links e.1.value in
    let b = all_same es in
    λ i. a i + b i

same_links : (z : TwoStates) → links (state_at true z) ≡ links (state_at false z)
same_links z =
    let a = same_len (promise_at true) (promise_at false) z.promises in
    let b : all_links (finite.entries (map_values (kept_at true) z.outcomes)) ≡ all_links (finite.entries (map_values (kept_at false) z.outcomes)) =
    ap all_links (entries-map_values (kept_at true) z.outcomes) ∙ all_same (finite.entries z.outcomes) ∙ sym (ap all_links (entries-map_values (kept_at false) z.outcomes)) in
    λ i. 1 + (a i + b i)

abbrev pub settle2 : TwoStates → TwoNodes → TwoNodes
settle2 z m = follow2 z (links (state_at false z)) m

pub settles : (b : Bool) (z : TwoStates) (m : TwoNodes) → node_at b (settle2 z m) ≡ settle (state_at b z) (node_at b m)
settles false z m = follows false z (links (state_at false z)) m
settles true z m = follows true z (links (state_at false z)) m ∙ ap (λ k. follow (state_at true z) k (node_at true m)) (sym (same_links z))

-- A broken node leads nowhere.
pub stays_broken : (s : State) (k : ℕ) (reason : Reason) → follow s k (node.Broken reason) ≡ node.Broken reason
stays_broken s zero reason = refl
stays_broken s (suc k) reason = stays_broken s k reason

-- What is not broken in one is the same in the other.
pub is_one : (m : TwoNodes) (n : Node) → ((reason : Reason) → ¬ (node.Broken reason ≡ n)) → (b c : Bool) → node_at b m ≡ n → node_at c m ≡ n
is_one (OneNode m) n solid b c e = e
is_one (BothBroken why) n solid b c e = absurd (solid (why b) e)

-- What is said of where a node settles is the same in both, if the reason of a broken node is not read.
pub same_settled : {A : Type 0} (f : Node → A) → ((r s : Reason) → f (node.Broken r) ≡ f (node.Broken s)) → (z : TwoStates) (m : TwoNodes)
    → f (settle (state_at true z) (node_at true m)) ≡ f (settle (state_at false z) (node_at false m))
same_settled f blind z m = ap f (sym (settles true z m)) ∙ by (settle2 z m) ∙ ap f (settles false z m)
  where
    by : (n : TwoNodes) → f (node_at true n) ≡ f (node_at false n)
    by (OneNode n) = refl
    by (BothBroken why) = blind (why true) (why false)
