-- Where every capability is there, no pointer becomes null.
use Rattle.std.proofs.Common.{◌≡◌, ℕ, zero, suc, Bool, true, false, if◌then◌else◌, List, [], ◌∷◌, Result, Ok, Err, IfOk, refl, sym, ap, ◌∙◌}
use Rattle.std.proofs.lemmas.Bool.{or_parts}
use Rattle.std.specs.List.{list_any}
use Rattle.capn_trees.specs.Trees.{Tree, null, struct, list, capability, Trees, no_trees, tree, Elements, packed, pointers, structs, Structs, no_structs, struct_of}
use Rattle.capn_writing.specs.Placing.{written}
use Rattle.rpc_msg.specs.Payloads.{Contents, tree_of}
use Rattle.rpc_msg.specs.declared.parts.Descriptor.{Descriptor}
use Rattle.peer_tail_calls.specs.Nulling.{IsPayloadLaidOut, is_absent, lacks, nulled, nulled_each, nulled_elements, nulled_structs}

lacks_none : (ds : List Descriptor) (i : ℕ) → list_any is_absent ds ≡ false → lacks ds i ≡ false
lacks_none [] i none = refl
lacks_none (d ∷ ds) zero none = (or_parts (is_absent d) (list_any is_absent ds) none).0
lacks_none (d ∷ ds) (suc i) none = lacks_none ds i (or_parts (is_absent d) (list_any is_absent ds) none).1

module _ (ds : List Descriptor) (none : list_any is_absent ds ≡ false) where
  mutual
    pub same : (t : Tree) → nulled ds t ≡ t
    same null = refl
    same (struct ws ts) = ap (struct ws) (same_each ts)
    same (list es) = ap list (same_elements es)
    same (capability i) = ap (λ (b : Bool). if b then null else capability i) (lacks_none ds i none)

    same_each : (ts : Trees) → nulled_each ds ts ≡ ts
    same_each no_trees = refl
    same_each (tree t ts) =
        let a = same t in
        let b = same_each ts in
        λ i. tree (a i) (b i)

    same_elements : (es : Elements) → nulled_elements ds es ≡ es
    same_elements (packed bits ns) = refl
    same_elements (pointers ts) = ap pointers (same_each ts)
    same_elements (structs d p ss) = ap (structs d p) (same_structs ss)

    same_structs : (ss : Structs) → nulled_structs ds ss ≡ ss
    same_structs no_structs = refl
    same_structs (struct_of ws ts ss) =
        let a = same_each ts in
        let b = same_structs ss in
        λ i. struct_of ws (a i) (b i)

-- the payload as it is laid out anew
abbrev pub anew : List Descriptor → Contents → Contents
anew ds p = record { bytes = written (nulled ds (tree_of p)); caps = p.caps }

-- A payload of which all is there says what it said.
pub nothing_laid : (ds : List Descriptor) (p : Contents) → list_any is_absent ds ≡ false → IsPayloadLaidOut ds p
nothing_laid ds p none = ap (λ (b : Bool). tree_of (if b then anew ds p else p)) none ∙ sym (same ds none (tree_of p))

-- One that is laid out anew says that.
pub anew_laid : {E : Type 0} (ds : List Descriptor) (p : Contents) (r : Result Contents E) → list_any is_absent ds ≡ true → IfOk r (λ made. made ≡ anew ds p) → IfOk r (λ made. tree_of made ≡ nulled ds (tree_of p))
    → IfOk r (λ made. IsPayloadLaidOut ds p)
anew_laid ds p (Ok q) some is says = ap (λ (b : Bool). tree_of (if b then anew ds p else p)) some ∙ ap tree_of (sym is) ∙ says
anew_laid ds p (Err e) some is says = tt
