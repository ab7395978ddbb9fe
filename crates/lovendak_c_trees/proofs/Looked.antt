-- What is told of what stands at a path.
use Rattle.std.proofs.Common.{◌≡◌, ℕ, List, true, Option, Some, None, Result, Ok, Err, refl, sym, ap, subst, ◌∙◌, inr}
use Rattle.std.specs.Prelude.{MatchOption, MatchResult}
use Rattle.std.specs.Option.{option_and_then, unwrap_or}
use Rattle.capn_trees.specs.Trees.{Tree, null, struct, list, capability}
use Rattle.capn_reading.specs.declared.place.Kind.{Kind}
use Rattle.capn_reading.specs.declared.place.Kind.TheVariants as kind
use Rattle.capn_reading.specs.Looking.{kind_of, length_of}
use Rattle.capn_wire.specs.Payloads.{Contents, tree_of}
use Rattle.lovendak_c_trees.specs.Looks.{CapabilityIn, NumberIn, Told, number_in, standing, standing_at, walk}
use Rattle.lovendak_c_trees.specs.Numbers.{is_width}
use Rattle.lovendak_c_trees.specs.declared.fault.TreeFault.{TreeFault}
use Rattle.lovendak_c_trees.specs.declared.fault.TreeFault.TheVariants.{Nothing}
use Rattle.lovendak_c_trees.specs.declared.read.Standing.{Standing}

pub found : (p : Option Contents) (q : Contents) (root t : Tree) (path : List ℕ) → Some q ≡ p → root ≡ tree_of q → walk root path ≡ Some t → standing_at p path ≡ Some t
found p q root t path is_q is_root stands =
    ap (λ (o : Option Contents). option_and_then (λ r. walk (tree_of r) path) o) (sym is_q) ∙ ap (λ (r : Tree). walk r path) (sym is_root) ∙ stands

pub told : {A : Type 0} (o : Option Tree) (t : Tree) (answer : Result A TreeFault) (Tells : Tree → Type 0) → o ≡ Some t → Tells t → Told o answer Tells
told o t answer Tells is holds = subst (λ (x : Option Tree). Told x answer Tells) (sym is) holds

pub matched : (o : Option Tree) (t : Tree) (N : Type 0) (S : Tree → Type 0) → o ≡ Some t → S t → MatchOption o N S
matched o t N S is holds = subst (λ (x : Option Tree). MatchOption x N S) (sym is) holds

pub is_capability : (t : Tree) (i : ℕ) → kind.Capability i ≡ kind_of t → CapabilityIn t (Ok i)
is_capability null i e = cc
is_capability (struct words ts) i e = cc
is_capability (list elements) i e = cc
is_capability (capability j) i e = cc

pub is_none : (t : Tree) (k : Kind) → k ≡ kind_of t → ((i : ℕ) → k ≡ kind.Capability i → ⊥) → CapabilityIn t (Err Nothing)
is_none null k e none = refl
is_none (struct words ts) k e none = refl
is_none (list elements) k e none = refl
is_none (capability j) k e none = absurd (none j e)

abbrev tells : ℕ → ℕ → Standing
tells k n = record { kind = k; number = n }

pub null_stands : (t : Tree) → kind.Null ≡ kind_of t → tells 0 0 ≡ standing t
null_stands null e = refl
null_stands (struct words ts) e = cc
null_stands (list elements) e = cc
null_stands (capability j) e = cc

pub struct_stands : (t : Tree) → kind.Struct ≡ kind_of t → tells 1 0 ≡ standing t
struct_stands null e = cc
struct_stands (struct words ts) e = refl
struct_stands (list elements) e = cc
struct_stands (capability j) e = cc

pub list_stands : (t : Tree) (n : ℕ) (len : Option ℕ) → kind.List ≡ kind_of t → n ≡ unwrap_or len 0 → len ≡ length_of t → tells 2 n ≡ standing t
list_stands null n len e is long = cc
list_stands (struct words ts) n len e is long = cc
list_stands (list elements) n len e is long = ap (tells 2) (is ∙ ap (λ (o : Option ℕ). unwrap_or o 0) long)
list_stands (capability j) n len e is long = cc

pub capability_stands : (t : Tree) (i : ℕ) → kind.Capability i ≡ kind_of t → tells 3 i ≡ standing t
capability_stands null i e = cc
capability_stands (struct words ts) i e = cc
capability_stands (list elements) i e = cc
capability_stands (capability j) i e = let same : i ≡ j = cc in ap (tells 3) same

pub number_is : (bits width index : ℕ) (t : Tree) (r : Result ℕ TreeFault) → bits ≡ width → is_width width ≡ true
    → MatchResult r (λ n. number_in width t index ≡ Some n) (λ e. (e ≡ Nothing) × (number_in width t index ≡ None)) → NumberIn t bits index r
number_is bits width index t (Ok n) is wide m = (ap is_width is ∙ wide, ap (λ (b : ℕ). number_in b t index) is ∙ m)
number_is bits width index t (Err e) is wide m = inr (m.0, ap (λ (b : ℕ). number_in b t index) is ∙ m.1)
