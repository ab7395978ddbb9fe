-- Contents as they were made; over one more wire; and what a path finds in them.
use Rattle.std.proofs.Common.{◌≡◌, ℕ, zero, suc, Bool, true, false, cond, if◌then◌else◌, ◌||◌, ◌⊎◌, inl, inr, List, [], ◌∷◌, refl, sym, ap, subst, ◌∙◌}
use Rattle.capn_trees.specs.Trees.{Tree, null, struct, list, capability, Trees, no_trees, tree, Elements, packed, pointers, structs, Structs, no_structs, struct_of, pointer_at}
use Rattle.rpc_msg.specs.Op.{Op}
use Rattle.rpc_msg.specs.Op.TheVariants as op
use Rattle.rpc_msg.specs.CapAt.{CapAt}
use Rattle.rpc_msg.specs.CapAt.TheVariants.{Cap, Null, NotCap}
use Rattle.rpc_msg.specs.Walking.{capability_at}
use Rattle.rpc_msg.specs.Payloads.{Contents, tree_of}
use Rattle.rpc_machine.specs.Payloads.{cap_at}
use Rattle.laws_wired.specs.Contents.{without, without_each, without_elements, without_structs, SayWithout, HoldsAt, EachLost}
use Rattle.laws_wired.specs.Pairs.{TwoContents}

-- ---- as they were made

abbrev pub none_lost : ℕ → Bool
none_lost i = false

mutual
  whole : (t : Tree) → without none_lost t ≡ t
  whole null = refl
  whole (struct words ts) = ap (struct words) (whole_each ts)
  whole (list elements) = ap list (whole_elements elements)
  whole (capability i) = refl

  whole_each : (ts : Trees) → without_each none_lost ts ≡ ts
  whole_each no_trees = refl
  whole_each (tree t ts) =
      let a = whole t in
      let b = whole_each ts in
      λ i. tree (a i) (b i)

  whole_elements : (es : Elements) → without_elements none_lost es ≡ es
  whole_elements (packed bits ns) = refl
  whole_elements (pointers ts) = ap pointers (whole_each ts)
  whole_elements (structs d p ss) = ap (structs d p) (whole_structs ss)

  whole_structs : (ss : Structs) → without_structs none_lost ss ≡ ss
  whole_structs no_structs = refl
  whole_structs (struct_of words ts ss) =
      let a = whole_each ts in
      let b = whole_structs ss in
      λ i. struct_of words (a i) (b i)

pub says_itself : (p : Contents) → SayWithout none_lost p p
says_itself p = record { caps = refl; tree = sym (whole (tree_of p)) }

abbrev pub whole_contents : Contents → TwoContents
whole_contents p = record { at = λ b. p; lost = none_lost; like = says_itself p }

-- None of them is lost.
pub none_is_lost : {X : Type 0} (P : X → Type 0) (xs : List X) → EachLost P xs none_lost
none_is_lost P xs i e = cc

-- ---- over two wires

abbrev pub both_lost : (ℕ → Bool) → (ℕ → Bool) → ℕ → Bool
both_lost f g i = g i || f i

twice_one : (f g : ℕ → Bool) (i : ℕ) (a b : Bool) → g i ≡ a → f i ≡ b → without f (if a then null else capability i) ≡ (if a || b then null else capability i)
twice_one f g i true b e h = refl
twice_one f g i false true e h = ap (λ (c : Bool). if c then null else capability i) h
twice_one f g i false false e h = ap (λ (c : Bool). if c then null else capability i) h

mutual
  twice : (f g : ℕ → Bool) (t : Tree) → without f (without g t) ≡ without (both_lost f g) t
  twice f g null = refl
  twice f g (struct words ts) = ap (struct words) (twice_each f g ts)
  twice f g (list elements) = ap list (twice_elements f g elements)
  twice f g (capability i) = twice_one f g i (g i) (f i) refl refl

  twice_each : (f g : ℕ → Bool) (ts : Trees) → without_each f (without_each g ts) ≡ without_each (both_lost f g) ts
  twice_each f g no_trees = refl
  twice_each f g (tree t ts) =
      let a = twice f g t in
      let b = twice_each f g ts in
      λ i. tree (a i) (b i)

  twice_elements : (f g : ℕ → Bool) (es : Elements) → without_elements f (without_elements g es) ≡ without_elements (both_lost f g) es
  twice_elements f g (packed bits ns) = refl
  twice_elements f g (pointers ts) = ap pointers (twice_each f g ts)
  twice_elements f g (structs d p ss) = ap (structs d p) (twice_structs f g ss)

  twice_structs : (f g : ℕ → Bool) (ss : Structs) → without_structs f (without_structs g ss) ≡ without_structs (both_lost f g) ss
  twice_structs f g no_structs = refl
  twice_structs f g (struct_of words ts ss) =
      let a = twice_each f g ts in
      let b = twice_structs f g ss in
      λ i. struct_of words (a i) (b i)

pub said_again : (f g : ℕ → Bool) (p q r : Contents) → SayWithout f p q → SayWithout g q r → SayWithout (both_lost f g) p r
said_again f g p q r a b = record { caps = a.caps ∙ b.caps; tree = a.tree ∙ ap (without f) b.tree ∙ twice f g (tree_of r) }

either : (a b : Bool) → (a || b) ≡ true → (a ≡ true) ⊎ (b ≡ true)
either true b e = inl refl
either false b e = inr e

pub lost_again : {X : Type 0} (P : X → Type 0) (xs : List X) (f g : ℕ → Bool) → EachLost P xs f → EachLost P xs g → EachLost P xs (both_lost f g)
lost_again P xs f g a b i e = by (either (g i) (f i) e)
  where
    by : (g i ≡ true) ⊎ (f i ≡ true) → HoldsAt P xs i
    by (inl h) = b i h
    by (inr h) = a i h

-- Contents that went over one more wire.
abbrev pub heard_contents : (x : TwoContents) (f : ℕ → Bool) (p : Contents) → SayWithout f p (x.at false) → TwoContents
heard_contents x f p like = record { at = λ b. cond b (x.at true) p; lost = both_lost f x.lost; like = said_again f x.lost p (x.at false) (x.at true) like x.like }

-- ---- what stands at a path

-- What a path finds over the wire, and in one world.
pub data CapsAlike (lost : ℕ → Bool) : CapAt → CapAt → Type 0 where
  Kept : (i : ℕ) → lost i ≡ false → CapsAlike lost (Cap i) (Cap i)
  Lost : (i : ℕ) → lost i ≡ true → CapsAlike lost Null (Cap i)
  Nulls : CapsAlike lost Null Null
  Others : CapsAlike lost NotCap NotCap
  Past : CapsAlike lost Null NotCap

null_walk : (path : List Op) → capability_at null path ≡ Null
null_walk [] = refl
null_walk (op.Noop ∷ ops) = null_walk ops
null_walk (op.Field n ∷ ops) = null_walk ops

without_at : (lost : ℕ → Bool) (ts : Trees) (n : ℕ) → pointer_at (without_each lost ts) n ≡ without lost (pointer_at ts n)
without_at lost no_trees n = refl
without_at lost (tree t ts) zero = refl
without_at lost (tree t ts) (suc n) = without_at lost ts n

found_cap : (lost : ℕ → Bool) (i : ℕ) (b : Bool) → lost i ≡ b → CapsAlike lost (capability_at (if b then null else capability i) []) (Cap i)
found_cap lost i true e = Lost i e
found_cap lost i false e = Kept i e

past_cap : (lost : ℕ → Bool) (i n : ℕ) (ops : List Op) (b : Bool) → CapsAlike lost (capability_at (if b then null else capability i) (op.Field n ∷ ops)) NotCap
past_cap lost i n ops true = subst (λ (x : CapAt). CapsAlike lost x NotCap) (sym (null_walk ops)) Past
past_cap lost i n ops false = Others

walks : (lost : ℕ → Bool) (t : Tree) (path : List Op) → CapsAlike lost (capability_at (without lost t) path) (capability_at t path)
walks lost null [] = Nulls
walks lost (struct words ts) [] = Others
walks lost (list elements) [] = Others
walks lost (capability i) [] = found_cap lost i (lost i) refl
walks lost t (op.Noop ∷ ops) = walks lost t ops
walks lost null (op.Field n ∷ ops) = walks lost null ops
walks lost (struct words ts) (op.Field n ∷ ops) =
    subst (λ (u : Tree). CapsAlike lost (capability_at u ops) (capability_at (pointer_at ts n) ops)) (sym (without_at lost ts n)) (walks lost (pointer_at ts n) ops)
walks lost (list elements) (op.Field n ∷ ops) = Others
walks lost (capability i) (op.Field n ∷ ops) = past_cap lost i n ops (lost i)

pub caps_alike : (x : TwoContents) (path : List Op) → CapsAlike x.lost (cap_at (x.at false) path) (cap_at (x.at true) path)
caps_alike x path = subst (λ (t : Tree). CapsAlike x.lost (capability_at t path) (cap_at (x.at true) path)) (sym x.like.tree) (walks x.lost (tree_of (x.at true)) path)
