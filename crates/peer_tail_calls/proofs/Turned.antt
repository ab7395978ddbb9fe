-- The capabilities of results are turned one after the other.
use Rattle.std.proofs.Common.{◌≡◌, ℕ, ◌+◌, ◌<◌, ◌≤◌, List, [], ◌∷◌, ◌++◌, length, drop, get_or, Some, None, refl, sym, ap, ◌∙◌, append_assoc, arith}
use Rattle.std.specs.Prelude.{Option}
use Rattle.std.proofs.lemmas.List.{drop_more, drop_all, get_or_default, append-nil}
use Rattle.capn_trees.specs.Trees.{Tree}
use Rattle.rpc_msg.specs.Op.{Op}
use Rattle.rpc_msg.specs.declared.ids.QuestionId.{QuestionId}
use Rattle.rpc_msg.specs.declared.parts.Descriptor.{Descriptor}
use Rattle.peer_tail_calls.specs.Paths.{AreShortest}
use Rattle.peer_tail_calls.specs.Turning.{put_first, turned_one, turned_all}

-- those that were turned, and what becomes of the others
abbrev pub behind : List Descriptor → Option (List Descriptor) → Option (List Descriptor)
behind made None = None
behind made (Some ds) = Some (made ++ ds)

behind_first : (made : List Descriptor) (d : Descriptor) (rest : Option (List Descriptor)) → behind made (put_first (Some d) rest) ≡ behind (made ++ d ∷ []) rest
behind_first made d None = refl
behind_first made d (Some ds) = ap Some (sym (append_assoc made (d ∷ []) ds))

module _ (a : QuestionId) (t : Tree) (found : List (Option (List Op))) (ds : List Descriptor) (i : ℕ) (o : Option (List Op)) (d₀ : Descriptor) where
  -- what becomes of one
  abbrev one : Option Descriptor
  one = turned_one a o d₀

  from_here : AreShortest t found → length found ≡ length ds → i < length ds → o ≡ get_or found i o → d₀ ≡ get_or ds i d₀ → turned_all a t i (drop i ds) ≡ put_first one (turned_all a t (i + 1) (drop (i + 1) ds))
  from_here shortest same lt is_o is_d₀ =
      let here : i < length found = omega (arith, same, lt) in
      ap (turned_all a t i) (drop_more ds i d₀ lt ∙ ap (λ (y : Descriptor). y ∷ drop (i + 1) ds) (sym is_d₀))
      ∙ ap (λ (p : Option (List Op)). put_first (turned_one a p d₀) (turned_all a t (i + 1) (drop (i + 1) ds))) (sym (is_o ∙ get_or_default found i o None here ∙ shortest i here))

  pub turned_more : (made more : List Descriptor) (d : Descriptor) (total : Option (List Descriptor)) → AreShortest t found → length found ≡ length ds → i < length ds → o ≡ get_or found i o → d₀ ≡ get_or ds i d₀
      → one ≡ Some d → more ≡ made ++ d ∷ [] → total ≡ behind made (turned_all a t i (drop i ds)) → total ≡ behind more (turned_all a t (i + 1) (drop (i + 1) ds))
  turned_more made more d total shortest same lt is_o is_d₀ is_d is_more so_far =
      so_far
      ∙ ap (behind made) (from_here shortest same lt is_o is_d₀ ∙ ap (λ (x : Option Descriptor). put_first x (turned_all a t (i + 1) (drop (i + 1) ds))) is_d)
      ∙ behind_first made d (turned_all a t (i + 1) (drop (i + 1) ds))
      ∙ ap (λ ms. behind ms (turned_all a t (i + 1) (drop (i + 1) ds))) (sym is_more)

  pub turned_stops : (made : List Descriptor) (total : Option (List Descriptor)) → AreShortest t found → length found ≡ length ds → i < length ds → o ≡ get_or found i o → d₀ ≡ get_or ds i d₀
      → one ≡ None → total ≡ behind made (turned_all a t i (drop i ds)) → None ≡ total
  turned_stops made total shortest same lt is_o is_d₀ is_none so_far =
      sym (so_far ∙ ap (behind made) (from_here shortest same lt is_o is_d₀ ∙ ap (λ (x : Option Descriptor). put_first x (turned_all a t (i + 1) (drop (i + 1) ds))) is_none))

pub turned_whole : (a : QuestionId) (t : Tree) (ds : List Descriptor) (i : ℕ) (made : List Descriptor) (total : Option (List Descriptor)) → length ds ≤ i → total ≡ behind made (turned_all a t i (drop i ds)) → Some made ≡ total
turned_whole a t ds i made total le so_far =
    sym (so_far ∙ ap (λ l. behind made (turned_all a t i l)) (drop_all i ds le) ∙ ap Some (append-nil made))
