-- Nodes that go out, counted.
use Rattle.std.proofs.Common.{◌≡◌, ◌≢◌, ◌⊎◌, inl, inr, ℕ, suc, ◌+◌, ◌≤◌, Bool, true, false, nat_eq, List, [], ◌∷◌, length, Option, None, Some, refl, sym, ap, subst, ◌∙◌, arith}
use Rattle.std.specs.FinMap as map
use Rattle.finite_maps.specs.Tally.{Map}
use Rattle.rpc_msg.specs.declared.parts.Descriptor.{Descriptor}
use Rattle.rpc_machine.specs.declared.node.Node.{Node}
use Rattle.rpc_machine.specs.declared.entries.Export.{Export}
use Rattle.rpc_machine.specs.State.{State}
use Rattle.rpc_machine.specs.Nodes.{settle}
use Rattle.rpc_machine.specs.Descriptors.{IsOther}
use Rattle.rpc_machine.specs.Lists.{of_map}
use Rattle.rpc_machine.specs.Places.{named_by_export}
use Rattle.laws_acts.specs.GoingOut.{is_own, GoesOut, Again, AsNew, AsOther, GoOut}
use Rattle.laws_steps.specs.Settled.{IsAmong}
use Rattle.laws_steps.proofs.Among.{named, by_entry}
use Rattle.finite_maps.proofs.Gets.{get-insert_same}
use Rattle.finite_maps.proofs.Lens.{len_new, len_same}
use Rattle.finite_maps.proofs.Tested.{equal, get_other}

-- An export stands for the node.
abbrev pub IsOut : Map Export → Node → Type 0
IsOut es n = IsAmong n (of_map named_by_export es)

-- ---- One entry is put in

-- Where it takes the place of one of the same node, or of none.
put_keeps : (es : Map Export) (e : ℕ) (v : Export) → ((y : Export) → map.get es e ≡ Some y → y.node ≡ v.node) → (n : Node) → IsOut es n → IsOut (map.insert es e v) n
put_keeps es e v f n i =
    let r = by_entry named_by_export n es i in
    let found = r.2 in
    by r.0 r.1 found r.3 (nat_eq r.0 e) refl
  where
    by : (k : ℕ) (y : Export) → map.get es k ≡ Some y → (n ≡ y.node) ⊎ ⊥ → (b : Bool) → nat_eq k e ≡ b → IsOut (map.insert es e v) n
    by k y g j false b = named named_by_export k y n (map.insert es e v) (get_other es e v k b ∙ g) j
    by k y g (inr j) true b = absurd j
    by k y g (inl j) true b =
        let there : map.get es e ≡ Some y = ap (map.get es) (sym (equal k e b)) ∙ g in
        named named_by_export e v n (map.insert es e v) (get-insert_same es e v) (inl (j ∙ f y there))

put_back : (es : Map Export) (e : ℕ) (v : Export) (n : Node) → IsOut (map.insert es e v) n → IsOut es n ⊎ (n ≡ v.node)
put_back es e v n i =
    let r = by_entry named_by_export n (map.insert es e v) i in
    let found = r.2 in
    by r.0 r.1 found r.3 (nat_eq r.0 e) refl
  where
    by : (k : ℕ) (y : Export) → map.get (map.insert es e v) k ≡ Some y → (n ≡ y.node) ⊎ ⊥ → (b : Bool) → nat_eq k e ≡ b → IsOut es n ⊎ (n ≡ v.node)
    by k y g j false b = inl (named named_by_export k y n es (sym (get_other es e v k b) ∙ g) j)
    by k y g (inr j) true b = absurd j
    by k y g (inl j) true b =
        let there : Some v ≡ Some y = sym (get-insert_same es e v) ∙ ap (map.get (map.insert es e v)) (sym (equal k e b)) ∙ g in
        let same : y ≡ v = cc in
        inr (j ∙ ap (λ (x : Export). x.node) same)

-- ---- A node goes out

none_there : (x : Export) → ◌≡◌ {A = Option Export} None (Some x) → ⊥
none_there x e = cc

pub keeps : (es : Map Export) (n : Node) (d : Descriptor) (m : Map Export) → GoesOut es n d m → (k : Node) → IsOut es k → IsOut m k
keeps es n d m (Again e x own f there same h) k i =
    subst (λ (o : Map Export). IsOut o k) (sym h) (put_keeps es e (record { node = n; count = x.count + 1 }) (λ y g. let is : Some x ≡ Some y = sym there ∙ g in let one : y ≡ x = cc in ap (λ (z : Export). z.node) one ∙ same) k i)
keeps es n d m (AsNew e own f free other h) k i =
    subst (λ (o : Map Export). IsOut o k) (sym h) (put_keeps es e (record { node = n; count = 1 }) (λ y g. absurd (none_there y (sym free ∙ g))) k i)
keeps es n d m (AsOther own f h) k i = subst (λ (o : Map Export). IsOut o k) (sym h) i

pub adds : (es : Map Export) (n : Node) (d : Descriptor) (m : Map Export) → GoesOut es n d m → (k : Node) → IsOut m k → IsOut es k ⊎ (k ≡ n)
adds es n d m (Again e x own f there same h) k i = put_back es e (record { node = n; count = x.count + 1 }) k (subst (λ (o : Map Export). IsOut o k) h i)
adds es n d m (AsNew e own f free other h) k i = put_back es e (record { node = n; count = 1 }) k (subst (λ (o : Map Export). IsOut o k) h i)
adds es n d m (AsOther own f h) k i = inl (subst (λ (o : Map Export). IsOut o k) h i)

not_out : (es : Map Export) (n : Node) → ((k : ℕ) → (x : Export) → map.get es k ≡ Some x → x.node ≢ n) → IsOut es n → ⊥
not_out es n f i =
    let r = by_entry named_by_export n es i in
    let found = r.2 in
    by r.0 r.1 found r.3
  where
    by : (k : ℕ) (y : Export) → map.get es k ≡ Some y → (n ≡ y.node) ⊎ ⊥ → ⊥
    by k y g (inl j) = f k y g (sym j)
    by k y g (inr j) = j

-- ---- How many of some nodes are not out

-- At most k of them.
abbrev pub Lacks : Map Export → List Node → ℕ → Type 0
Lacks es [] k = Unit {0}
Lacks es (n ∷ ns) k = (IsOut es n × Lacks es ns k) ⊎ ((j : ℕ) × (k ≡ suc j) × Lacks es ns j)

pub all_lack : (es : Map Export) (ns : List Node) → Lacks es ns (length ns)
all_lack es [] = tt
all_lack es (n ∷ ns) = inr (length ns, refl, all_lack es ns)

still_lack : (es m : Map Export) → ((n : Node) → IsOut es n → IsOut m n) → (ns : List Node) (k : ℕ) → Lacks es ns k → Lacks m ns k
still_lack es m f [] k h = tt
still_lack es m f (n ∷ ns) k (inl h) = inl (f n h.0, still_lack es m f ns k h.1)
still_lack es m f (n ∷ ns) k (inr h) = inr (h.0, h.1, still_lack es m f ns h.0 h.2)

-- One of them that was not out is.
one_less : (es m : Map Export) (x : Node) → ((n : Node) → IsOut es n → IsOut m n) → (IsOut es x → ⊥) → IsOut m x → (ns : List Node) (k : ℕ) → IsAmong x ns → Lacks es ns k → (j : ℕ) × (k ≡ suc j) × Lacks m ns j
one_less es m x f out there [] k i h = absurd i
one_less es m x f out there (n ∷ ns) k (inl i) (inl h) = absurd (out (subst (IsOut es) (sym i) h.0))
one_less es m x f out there (n ∷ ns) k (inl i) (inr h) = (h.0, h.1, inl (subst (IsOut m) i there, still_lack es m f ns h.0 h.2))
one_less es m x f out there (n ∷ ns) k (inr i) (inl h) =
    let r = one_less es m x f out there ns k i h.1 in
    (r.0, r.1, inl (f n h.0, r.2))
one_less es m x f out there (n ∷ ns) k (inr i) (inr h) =
    let r = one_less es m x f out there ns h.0 i h.2 in
    (h.0, h.1, inr (r.0, r.1, r.2))

-- The exports, and those of the nodes that are not out, are no more than b.
abbrev pub Within : Map Export → List Node → ℕ → Type 0
Within es ns b = (k : ℕ) × Lacks es ns k × (map.len es + k ≤ b)

pub within_len : (es : Map Export) (ns : List Node) (b : ℕ) → Within es ns b → map.len es ≤ b
within_len es ns b h = let l = h.2 in omega arith

-- To begin with, each of them may be one that is not out.
pub within_first : (es : Map Export) (ns : List Node) (n k : ℕ) → map.len es ≡ n → length ns ≡ k → Within es ns (n + k)
within_first es ns n k e f = (length ns, all_lack es ns, omega arith)

pub no_more : (es : Map Export) (ns : List Node) (b c : ℕ) → b ≤ c → Within es ns b → Within es ns c
no_more es ns b c l h = let g = h.2 in (h.0, h.1, omega arith)

out_now : (es : Map Export) (e : ℕ) (v : Export) → IsOut (map.insert es e v) v.node
out_now es e v = named named_by_export e v v.node (map.insert es e v) (get-insert_same es e v) (inl refl)

-- One of these nodes goes out.
pub goes_in : (es : Map Export) (n : Node) (d : Descriptor) (m : Map Export) (ns : List Node) (b : ℕ) → GoesOut es n d m → IsAmong n ns → Within es ns b → Within m ns b
goes_in es n d m ns b (Again e x own f there same h) i w =
    let g : GoesOut es n d m = Again e x own f there same h in
    let l : map.len m ≡ map.len es = ap map.len h ∙ len_same es e x (record { node = n; count = x.count + 1 }) there in
    let c = w.2 in
    (w.0, still_lack es m (keeps es n d m g) ns w.0 w.1, omega arith)
goes_in es n d m ns b (AsNew e own f free other h) i w =
    let g : GoesOut es n d m = AsNew e own f free other h in
    let v : Export = record { node = n; count = 1 } in
    let l : map.len m ≡ map.len es + 1 = ap map.len h ∙ len_new es e v free in
    let never : IsOut es n → ⊥ = not_out es n (λ k x found. subst (λ (o : Option Export). IsOther n o) found (other k)) in
    let there : IsOut m n = subst (λ (o : Map Export). IsOut o n) (sym h) (out_now es e v) in
    let r = one_less es m n (keeps es n d m g) never there ns w.0 i w.1 in
    let one = r.1 in
    let c = w.2 in
    (r.0, r.2, omega arith)
goes_in es n d m ns b (AsOther own f h) i w = subst (λ (o : Map Export). Within o ns b) (sym h) w

-- Any node goes out.
pub goes_any : (es : Map Export) (n : Node) (d : Descriptor) (m : Map Export) (ns : List Node) (b : ℕ) → GoesOut es n d m → Within es ns b → Within m ns (b + 1)
goes_any es n d m ns b g w = (w.0, still_lack es m (keeps es n d m g) ns w.0 w.1, let l = longer g in let c = w.2 in omega arith)
  where
    longer : GoesOut es n d m → map.len m ≤ map.len es + 1
    longer (Again e x own f there same h) = let l : map.len m ≡ map.len es = ap map.len h ∙ len_same es e x (record { node = n; count = x.count + 1 }) there in omega arith
    longer (AsNew e own f free other h) = let l : map.len m ≡ map.len es + 1 = ap map.len h ∙ len_new es e (record { node = n; count = 1 }) free in omega arith
    longer (AsOther own f h) = let l : map.len m ≡ map.len es = ap map.len h in omega arith

-- One that is no own one.
pub goes_nowhere : (es : Map Export) (n : Node) (d : Descriptor) (m : Map Export) → is_own n ≡ false → GoesOut es n d m → m ≡ es
goes_nowhere es n d m other (Again e x own f there same h) = absurd (let bad : true ≡ false = sym own ∙ other in cc)
goes_nowhere es n d m other (AsNew e own f free none h) = absurd (let bad : true ≡ false = sym own ∙ other in cc)
goes_nowhere es n d m other (AsOther own f h) = h

-- ---- Nodes go out one after the other

pub all_in : (s : State) (ns : List Node) (b : ℕ) (es : Map Export) (xs : List Node) (ds : List Descriptor) (m : Map Export) → ((n : Node) → IsAmong n xs → IsAmong (settle s n) ns) → GoOut s es xs ds m → Within es ns b → Within m ns b
all_in s ns b es [] [] m f h w = subst (λ (o : Map Export). Within o ns b) (sym h) w
all_in s ns b es [] (d ∷ ds) m f h w = absurd h
all_in s ns b es (x ∷ xs) [] m f h w = absurd h
all_in s ns b es (x ∷ xs) (d ∷ ds) m f h w = all_in s ns b h.0 xs ds m (λ n i. f n (inr i)) h.2 (goes_in es (settle s x) d h.0 ns b h.1 (f x (inl refl)) w)

pub all_any : (s : State) (ns : List Node) (b : ℕ) (es : Map Export) (xs : List Node) (ds : List Descriptor) (m : Map Export) → GoOut s es xs ds m → Within es ns b → Within m ns (b + length xs)
all_any s ns b es [] [] m h w = no_more m ns b (b + 0) (omega arith) (subst (λ (o : Map Export). Within o ns b) (sym h) w)
all_any s ns b es [] (d ∷ ds) m h w = absurd h
all_any s ns b es (x ∷ xs) [] m h w = absurd h
all_any s ns b es (x ∷ xs) (d ∷ ds) m h w =
    no_more m ns (b + 1 + length xs) (b + suc (length xs)) (omega arith) (all_any s ns (b + 1) h.0 xs ds m h.2 (goes_any es (settle s x) d h.0 ns b h.1 w))

-- What is out was out, or is where one of them settles.
pub all_add : (s : State) (P : Node → Type 0) → ((n : Node) → P (settle s n)) → (es : Map Export) (xs : List Node) (ds : List Descriptor) (m : Map Export) → GoOut s es xs ds m → (k : Node) → IsOut m k → IsOut es k ⊎ P k
all_add s P f es [] [] m h k i = inl (subst (λ (o : Map Export). IsOut o k) h i)
all_add s P f es [] (d ∷ ds) m h k i = absurd h
all_add s P f es (x ∷ xs) [] m h k i = absurd h
all_add s P f es (x ∷ xs) (d ∷ ds) m h k i = then (all_add s P f h.0 xs ds m h.2 k i)
  where
    first : IsOut es k ⊎ (k ≡ settle s x) → IsOut es k ⊎ P k
    first (inl j) = inl j
    first (inr e) = inr (subst P (sym e) (f x))

    then : IsOut h.0 k ⊎ P k → IsOut es k ⊎ P k
    then (inl j) = first (adds es (settle s x) d h.0 h.1 k j)
    then (inr p) = inr p
