-- Lists that are read or made one item after the other, as a loop does.
use Rattle.std.proofs.Common.{◌≡◌, ℕ, zero, suc, true, false, ltb, Err, refl, arith, ◌+◌, ◌<◌, ◌≤◌, List, [], ◌∷◌, ◌++◌, length, map, take, get_or, Ok, sym, ap, ◌∙◌}
use Rattle.std.proofs.lemmas.Bool.{lt-ltb, le-ltb}
use Rattle.std.proofs.lemmas.List.{map_push, take_all, take_more}
use Rattle.rpc_msg.specs.Op.{Op}
use Rattle.rpc_msg.specs.declared.parts.Descriptor.{Descriptor}
use Rattle.capn_trees.proofs.Counts.{structs_counted}
use Rattle.capn_trees.specs.declared.tree.Fields.{Fields}
use Rattle.capn_trees.specs.declared.tree.Tree as program
use Rattle.capn_trees.specs.Trees.{null, pointer_at, structs_count}
use Rattle.capn_trees.specs.Views.{view, trees_view, structs_view}
use Rattle.rpc_codec_parts.specs.declared.faults.EnvelopeFault.TheVariants.{TooManyDescriptors}
use Rattle.rpc_codec_parts.specs.Reading.{Read, ◌>>=◌, unknown, fault}
use Rattle.rpc_codec_parts.specs.Targets.{ops_at, path_of}
use Rattle.rpc_codec_parts.specs.Descriptors.{descriptors_of, few_of}

-- what was read before, and what is still read
abbrev pub with_front : {A : Type 0} → List A → Read (List A) → Read (List A)
with_front front r = r >>= λ xs. Ok (front ++ xs)

-- what structs give
abbrev pub descriptors_left : List Fields → Read (List Descriptor)
descriptors_left fs = descriptors_of (structs_view fs)

abbrev pub ops_left : List Fields → Read (List Op)
ops_left fs = ops_at (structs_view fs)

-- one item more was made of one more
pub made_more : {X Y Z : Type 0} (f : X → Z) (g : Y → Z) (more done : List Y) (xs : List X) (i : ℕ) (d : X) (y : Y) → more ≡ done ++ y ∷ [] → i < length xs → g y ≡ f (get_or xs i d)
    → map g done ≡ map f (take i xs) → map g more ≡ map f (take (i + 1) xs)
made_more f g more done xs i d y is_more lt same so_far =
    ap (map g) is_more ∙ map_push g done y ∙ ap (λ l. l ++ g y ∷ []) so_far ∙ ap (λ z. map f (take i xs) ++ z ∷ []) same
    ∙ sym (ap (map f) (take_more xs i d lt) ∙ map_push f (take i xs) (get_or xs i d))

pub made_all : {X Y Z : Type 0} (f : X → Z) (g : Y → Z) (done : List Y) (xs : List X) (i : ℕ) → length xs ≤ i → map g done ≡ map f (take i xs) → map g done ≡ map f xs
made_all f g done xs i le so_far = so_far ∙ ap (map f) (take_all i xs le)

-- what pointers lead to
pub pointer_there : (ts : List program.Tree) (n : ℕ) (d : program.Tree) → n < length ts → view (get_or ts n d) ≡ pointer_at (trees_view ts) n
pointer_there [] n d lt = absurd (omega arith)
pointer_there (u ∷ ts) zero d lt = refl
pointer_there (u ∷ ts) (suc n) d lt = pointer_there ts n d (omega arith)

pub pointer_past : (ts : List program.Tree) (n : ℕ) → length ts ≤ n → pointer_at (trees_view ts) n ≡ null
pointer_past [] n le = refl
pointer_past (t ∷ ts) zero le = absurd (omega arith)
pointer_past (t ∷ ts) (suc n) le = pointer_past ts n (omega arith)

-- ---- paths

pub long_path : (fs : List Fields) → 16 < length fs → path_of (structs_view fs) ≡ Err unknown
long_path fs more =
    let long : ltb 16 (structs_count (structs_view fs)) ≡ true = lt-ltb 16 _ (rw (structs_counted fs) more) in
    rw long refl

pub short_path : (fs : List Fields) → length fs ≤ 16 → path_of (structs_view fs) ≡ ops_at (structs_view fs)
short_path fs few =
    let short : ltb 16 (structs_count (structs_view fs)) ≡ false = le-ltb 16 _ (rw (structs_counted fs) few) in
    rw short refl

-- ---- tables

pub long_table : (fs : List Fields) → 4096 < length fs → few_of (structs_view fs) ≡ Err (fault TooManyDescriptors)
long_table fs more =
    let long : ltb 4096 (structs_count (structs_view fs)) ≡ true = lt-ltb 4096 _ (rw (structs_counted fs) more) in
    rw long refl

pub short_table : (fs : List Fields) → length fs ≤ 4096 → few_of (structs_view fs) ≡ Ok (structs_view fs)
short_table fs few =
    let short : ltb 4096 (structs_count (structs_view fs)) ≡ false = le-ltb 4096 _ (rw (structs_counted fs) few) in
    rw short refl
