-- Descriptors that are taken, and ids that are given back, one after the other.
use Rattle.std.proofs.Common.{◌≡◌, ℕ, suc, ◌-◌, ◌<◌, Bool, true, false, not, cond, ◌||◌, nat_eq, nat_lt, Option, None, Some, is_some, List, [], ◌∷◌, refl, sym, ap, subst, ◌∙◌, arith}
use Rattle.std.specs.List.{list_any}
use Rattle.std.specs.FinMap as map
use Rattle.finite_maps.specs.Tally.{Map}
use Rattle.finite_maps.proofs.Tested.{equal, itself, get_put, get_other}
use Rattle.rpc_msg.specs.declared.ids.ExportId.{ExportId}
use Rattle.rpc_msg.specs.declared.parts.Descriptor.{Descriptor}
use Rattle.rpc_msg.specs.declared.parts.Descriptor.TheVariants as descriptor
use Rattle.rpc_journal.specs.History.{or_rest, if_so}
use Rattle.rpc_machine.specs.declared.entries.SenderKind.{SenderKind}
use Rattle.rpc_machine.specs.declared.entries.SenderKind.TheVariants as kind
use Rattle.rpc_machine.specs.declared.entries.Import.{Import}
use Rattle.rpc_machine.specs.declared.entries.Export.{Export}
use Rattle.rpc_machine.specs.State.{State}
use Rattle.rpc_machine.specs.Numbers.{kind_mismatch, unknown_export, unknown_answer, over_release}
use Rattle.rpc_machine.specs.Lists.{how_many}
use Rattle.rpc_machine.specs.Limits.{export_count}
use Rattle.rpc_machine.specs.Flags.{lower_by}
use Rattle.rpc_machine.specs.Descriptors.{received, take_one}
use Rattle.rpc_machine.specs.Faults.{same_kind, differs, kind_clashes, each_fault, flag_fault}
use Rattle.rpc_machine.proofs.Lowering.{lower_by_count}
use Rattle.core_step_checks.specs.Parts.{fault_in_turn, flag_in_turn}

-- ---- Descriptors

-- A clash with those before it is one with the imports where they were taken.
abbrev Stands : Map Import → List Descriptor → Map Import → Type 0
Stands m before i = (k : SenderKind) (e : ℕ) → kind_clashes k e before (map.get m e) ≡ kind_clashes k e [] (map.get i e)

abbrev of_kind : SenderKind → ExportId → Descriptor
of_kind kind.Hosted e = descriptor.SenderHosted e
of_kind kind.Promise e = descriptor.SenderPromise e

-- Which kinds clash once one did not.
kinds : (k j i : SenderKind) (r : Bool) → (not (same_kind j i) || r) ≡ false → (not (same_kind k i) || r) ≡ not (same_kind k j)
kinds kind.Hosted kind.Hosted kind.Hosted r h = h
kinds kind.Promise kind.Hosted kind.Hosted r h = refl
kinds k kind.Hosted kind.Promise r h = cc
kinds k kind.Promise kind.Hosted r h = cc
kinds kind.Hosted kind.Promise kind.Promise r h = refl
kinds kind.Promise kind.Promise kind.Promise r h = h

or_none : (b : Bool) → (b || false) ≡ b
or_none true = refl
or_none false = refl

-- The kind that was just taken is the only one that does not clash.
clash_behind : (k j : SenderKind) (e : ExportId) (before : List Descriptor) (x : Option Import) → kind_clashes j e.0 before x ≡ false → kind_clashes k e.0 (of_kind j e ∷ before) x ≡ not (same_kind k j)
clash_behind kind.Hosted kind.Hosted e before None h = rw (itself e.0, h) refl
clash_behind kind.Hosted kind.Promise e before None h = rw (itself e.0) refl
clash_behind kind.Promise kind.Hosted e before None h = rw (itself e.0) refl
clash_behind kind.Promise kind.Promise e before None h = rw (itself e.0, h) refl
clash_behind k j e before (Some x) h = kinds k j x.kind (is_some x.resolution) h

received_clash : (k j : SenderKind) (e : ℕ) (x : Option Import) → kind_clashes j e [] x ≡ false → kind_clashes k e [] (Some (received j x)) ≡ not (same_kind k j)
received_clash k j e None h = or_none (not (same_kind k j))
received_clash k j e (Some x) h = kinds k j x.kind (is_some x.resolution) h

not_before : (k j : SenderKind) (e : ExportId) (q : ℕ) (before : List Descriptor) → nat_eq q e.0 ≡ false → (x : Option Import) → kind_clashes k q (of_kind j e ∷ before) x ≡ kind_clashes k q before x
not_before k kind.Hosted e q before f None = rw (f) refl
not_before k kind.Promise e q before f None = rw (f) refl
not_before k j e q before f (Some x) = refl

taken : (m : Map Import) (before : List Descriptor) (i : Map Import) (j : SenderKind) (e : ExportId) → Stands m before i → kind_clashes j e.0 before (map.get m e.0) ≡ false → Stands m (of_kind j e ∷ before) (map.insert i e.0 (received j (map.get i e.0)))
taken m before i j e st free k q = by (nat_eq q e.0) refl
  where
    x : Import
    x = received j (map.get i e.0)

    here : kind_clashes k e.0 (of_kind j e ∷ before) (map.get m e.0) ≡ kind_clashes k e.0 [] (map.get (map.insert i e.0 x) e.0)
    here =
        clash_behind k j e before (map.get m e.0) free
        ∙ sym (received_clash k j e.0 (map.get i e.0) (sym (st j e.0) ∙ free))
        ∙ sym (ap (λ o. kind_clashes k e.0 [] o) (get_put i e.0 x e.0 ∙ ap (λ b. cond b (Some x) (map.get i e.0)) (itself e.0)))

    by : (b : Bool) → nat_eq q e.0 ≡ b → kind_clashes k q (of_kind j e ∷ before) (map.get m q) ≡ kind_clashes k q [] (map.get (map.insert i e.0 x) q)
    by true t = subst (λ (n : ℕ). kind_clashes k n (of_kind j e ∷ before) (map.get m n) ≡ kind_clashes k n [] (map.get (map.insert i e.0 x) n)) (sym (equal q e.0 t)) here
    by false f = not_before k j e q before f (map.get m q) ∙ st k q ∙ sym (ap (λ o. kind_clashes k q [] o) (get_other i e.0 x q f))

-- One that is no sender's changes nothing.
no_sender : (d : Descriptor) (m : Map Import) (before : List Descriptor) (i : Map Import) → ((k : SenderKind) (e : ℕ) → differs k e d ≡ false) → Stands m before i → Stands m (d ∷ before) i
no_sender d m before i apart st k e = by (map.get m e) ∙ st k e
  where
    by : (x : Option Import) → kind_clashes k e (d ∷ before) x ≡ kind_clashes k e before x
    by None = rw (apart k e) refl
    by (Some x) = refl

alike : (b c : Bool) (n : ℕ) (f g : Option ℕ) → b ≡ c → (b ≡ false → f ≡ g) → or_rest (if_so b n) f ≡ or_rest (if_so c n) g
alike true true n f g h k = refl
alike false false n f g h k = k refl
alike true false n f g h k = cc
alike false true n f g h k = cc

in_turn : (s : State) (before : List Descriptor) (i : Map Import) → Stands s.imports before i → (ds : List Descriptor) → each_fault s before ds ≡ fault_in_turn (record s { imports = i }) ds
in_turn s before i st [] = refl
in_turn s before i st (descriptor.None ∷ ds) = in_turn s (descriptor.None ∷ before) i (no_sender descriptor.None s.imports before i (λ k e. refl) st) ds
in_turn s before i st (descriptor.SenderHosted e ∷ ds) =
    alike
    (kind_clashes kind.Hosted e.0 before (map.get s.imports e.0)) (kind_clashes kind.Hosted e.0 [] (map.get i e.0)) kind_mismatch
    (each_fault s (descriptor.SenderHosted e ∷ before) ds) (fault_in_turn (take_one (record s { imports = i }) (descriptor.SenderHosted e)) ds)
    (st kind.Hosted e.0)
    (λ free. in_turn s (descriptor.SenderHosted e ∷ before) (map.insert i e.0 (received kind.Hosted (map.get i e.0))) (taken s.imports before i kind.Hosted e st free) ds)
in_turn s before i st (descriptor.SenderPromise e ∷ ds) =
    alike
    (kind_clashes kind.Promise e.0 before (map.get s.imports e.0)) (kind_clashes kind.Promise e.0 [] (map.get i e.0)) kind_mismatch
    (each_fault s (descriptor.SenderPromise e ∷ before) ds) (fault_in_turn (take_one (record s { imports = i }) (descriptor.SenderPromise e)) ds)
    (st kind.Promise e.0)
    (λ free. in_turn s (descriptor.SenderPromise e ∷ before) (map.insert i e.0 (received kind.Promise (map.get i e.0))) (taken s.imports before i kind.Promise e st free) ds)
in_turn s before i st (descriptor.ReceiverHosted e ∷ ds) =
    ap (λ f. or_rest (if_so (not (map.contains_key s.exports e.0)) unknown_export) f)
    (in_turn s (descriptor.ReceiverHosted e ∷ before) i (no_sender (descriptor.ReceiverHosted e) s.imports before i (λ k q. refl) st) ds)
in_turn s before i st (descriptor.ReceiverAnswer q path ∷ ds) =
    ap (λ f. or_rest (if_so (not (map.contains_key s.answers q.0)) unknown_answer) f)
    (in_turn s (descriptor.ReceiverAnswer q path ∷ before) i (no_sender (descriptor.ReceiverAnswer q path) s.imports before i (λ k e. refl) st) ds)

pub descriptors_in_turn : (s : State) (ds : List Descriptor) → each_fault s [] ds ≡ fault_in_turn s ds
descriptors_in_turn s ds = in_turn s [] s.imports (λ k e. refl) ds

-- ---- Flags

-- There are fewer than these ids take off.
abbrev lacks : Map Export → List ℕ → ℕ → Bool
lacks m ids e = nat_lt (export_count (map.get m e)) (how_many (nat_eq e) ids)

any_same : (f g : ℕ → Bool) → ((x : ℕ) → f x ≡ g x) → (xs : List ℕ) → list_any f xs ≡ list_any g xs
any_same f g h [] = refl
any_same f g h (x ∷ xs) = rw (h x, any_same f g h xs) refl

or_left : (a b : Bool) → a ≡ true → (a || b) ≡ true
or_left true b h = refl
or_left false b h = cc

or_right : (a b : Bool) → b ≡ true → (a || b) ≡ true
or_right true b h = refl
or_right false b h = h

any_here : (f : ℕ → Bool) (e : ℕ) (es : List ℕ) → 0 < how_many (nat_eq e) es → f e ≡ true → list_any f es ≡ true
any_here f e [] h t = absurd (omega (arith, h))
any_here f e (x ∷ xs) h t = by (nat_eq e x) refl (λ some. any_here f e xs some t)
  where
    by : (b : Bool) → nat_eq e x ≡ b → (0 < how_many (nat_eq e) xs → list_any f xs ≡ true) → (f x || list_any f xs) ≡ true
    by true q rest = or_left (f x) (list_any f xs) (subst (λ (n : ℕ). f n ≡ true) (equal e x q) t)
    by false q rest = or_right (f x) (list_any f xs) (rest (subst (λ b. 0 < cond b (suc (how_many (nat_eq e) xs)) (how_many (nat_eq e) xs)) q h))

one_less : (c h : ℕ) (b : Bool) → (b ≡ true → 0 < c) → nat_lt (c - cond b 1 0) h ≡ nat_lt c (cond b (suc h) h)
one_less c h true pos = let p : 0 < c = pos refl in grind (arith)
one_less c h false pos = grind (arith)

lacks_less : (m : Map Export) (e : ℕ) (es : List ℕ) → 0 < export_count (map.get m e) → (x : ℕ) → lacks (lower_by m e 1) es x ≡ lacks m (e ∷ es) x
lacks_less m e es pos x =
    ap (λ c. nat_lt c (how_many (nat_eq x) es)) (lower_by_count m e 1 x)
    ∙ one_less (export_count (map.get m x)) (how_many (nat_eq x) es) (nat_eq x e) (λ q. subst (λ (n : ℕ). 0 < export_count (map.get m n)) (sym (equal x e q)) pos)

absorbed : (a l k : Bool) → l ≡ k → (a ≡ true → k ≡ true) → (a || l) ≡ k
absorbed true l k h t = sym (t refl)
absorbed false l k h t = h

some_of : (c h : ℕ) → nat_lt c h ≡ true → 0 < h
some_of c h t = grind (arith)

none_left : (c h : ℕ) (b : Bool) → nat_eq c 0 ≡ true → b ≡ true → nat_lt c (cond b (suc h) h) ≡ true
none_left c h true z t = grind (arith)
none_left c h false z t = cc

some_left : (c : ℕ) → nat_eq c 0 ≡ false → 0 < c
some_left c z = grind (arith)

flags : (m : Map Export) (ids : List ℕ) → if_so (list_any (lacks m ids) ids) over_release ≡ flag_in_turn m ids
flags m [] = refl
flags m (e ∷ es) = by (nat_eq (export_count (map.get m e)) 0) refl (flags (lower_by m e 1) es)
  where
    by : (b : Bool) → nat_eq (export_count (map.get m e)) 0 ≡ b → if_so (list_any (lacks (lower_by m e 1) es) es) over_release ≡ flag_in_turn (lower_by m e 1) es → if_so (lacks m (e ∷ es) e || list_any (lacks m (e ∷ es)) es) over_release ≡ or_rest (if_so b over_release) (flag_in_turn (lower_by m e 1) es)
    by true z rest = ap (λ b. if_so b over_release) (or_left (lacks m (e ∷ es) e) (list_any (lacks m (e ∷ es)) es) (none_left (export_count (map.get m e)) (how_many (nat_eq e) es) (nat_eq e e) z (itself e)))
    by false z rest =
        let less = lacks_less m e es (some_left (export_count (map.get m e)) z) in
        ap (λ b. if_so b over_release)
        (absorbed (lacks m (e ∷ es) e) (list_any (lacks m (e ∷ es)) es) (list_any (lacks (lower_by m e 1) es) es)
        (any_same (lacks m (e ∷ es)) (lacks (lower_by m e 1) es) (λ x. sym (less x)) es)
        (λ t. let u = less e ∙ t in any_here (lacks (lower_by m e 1) es) e es (some_of (export_count (map.get (lower_by m e 1) e)) (how_many (nat_eq e) es) u) u))
        ∙ rest

pub flags_in_turn : (s : State) (ids : List ℕ) → flag_fault s true ids ≡ flag_in_turn s.exports ids
flags_in_turn s ids = flags s.exports ids
