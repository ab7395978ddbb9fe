-- What is found at the end of a path, by the kind of what stands there.
use Rattle.std.proofs.Common.{◌≡◌, ℕ, ◌+◌, ◌<◌, ◌≤◌, List, [], ◌∷◌, Option, Some, drop, get_or, length, refl, sym, ap, ◌∙◌}
use Rattle.std.specs.Option.{option_and_then}
use Rattle.std.proofs.lemmas.List.{drop_all, drop_more}
use Rattle.capn_trees.specs.Trees as tree
use Rattle.capn_trees.specs.Trees.{Tree}
use Rattle.capn_reading.specs.declared.place.Kind.{Kind}
use Rattle.capn_reading.specs.declared.place.Kind.TheVariants as kind
use Rattle.capn_reading.specs.Looking.{field, kind_of}
use Rattle.capn_wire.specs.declared.path.Op.{Op}
use Rattle.capn_wire.specs.declared.path.Op.TheVariants as op
use Rattle.capn_wire.specs.declared.path.CapAt.{CapAt}
use Rattle.capn_wire.specs.declared.path.CapAt.TheVariants as cap_at
use Rattle.capn_wire.specs.Walking.{walk, found_at, capability_at}

abbrev pub by_kind : Kind → CapAt
by_kind kind.Null = cap_at.Null
by_kind (kind.Capability index) = cap_at.Cap index
by_kind kind.Struct = cap_at.NotCap
by_kind kind.List = cap_at.NotCap

found : (t : Tree) → by_kind (kind_of t) ≡ capability_at t []
found tree.null = refl
found (tree.capability index) = refl
found (tree.struct words ts) = refl
found (tree.list es) = refl

pub found_last : (t : Tree) (k : Kind) (path : List Op) (i : ℕ) (whole : CapAt) → k ≡ kind_of t → length path ≤ i → capability_at t (drop i path) ≡ whole → by_kind k ≡ whole
found_last t k path i whole is past so_far = ap by_kind is ∙ found t ∙ ap (capability_at t) (sym (drop_all i path past)) ∙ so_far

not_field : (o : Op) → ((n : ℕ) → o ≡ op.Field n → ⊥) → o ≡ op.Noop
not_field op.Noop other = refl
not_field (op.Field n) other = absurd (other n refl)

path_on : (t : Tree) (path : List Op) (i : ℕ) (o d : Op) (whole : CapAt) → i < length path → get_or path i d ≡ o → capability_at t (drop i path) ≡ whole → capability_at t (o ∷ drop (i + 1) path) ≡ whole
path_on t path i o d whole lt is so_far = sym (ap (capability_at t) (drop_more path i d lt ∙ ap (λ (x : Op). x ∷ drop (i + 1) path) is)) ∙ so_far

-- a step that stays, and one that goes to a field
pub stays : (t : Tree) (path : List Op) (i : ℕ) (d : Op) (whole : CapAt) → i < length path → ((n : ℕ) → get_or path i d ≡ op.Field n → ⊥) → capability_at t (drop i path) ≡ whole → capability_at t (drop (i + 1) path) ≡ whole
stays t path i d whole lt other so_far = path_on t path i op.Noop d whole lt (not_field (get_or path i d) other) so_far

pub goes : (t u : Tree) (path : List Op) (i n : ℕ) (d : Op) (whole : CapAt) → i < length path → get_or path i d ≡ op.Field n → field t n ≡ Some u → capability_at t (drop i path) ≡ whole → capability_at u (drop (i + 1) path) ≡ whole
goes t u path i n d whole lt is there so_far =
    sym (ap (λ (found : Option Tree). found_at (option_and_then (λ v. walk v (drop (i + 1) path)) found)) there) ∙ path_on t path i (op.Field n) d whole lt is so_far
