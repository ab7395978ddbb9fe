-- Descriptors are parted one after the other.
use Rattle.std.proofs.Common.{◌≡◌, ℕ, ◌+◌, ◌<◌, true, false, List, [], ◌∷◌, ◌++◌, length, map, take, drop, get_or, Some, None, refl, sym, ap, ◌∙◌}
use Rattle.std.specs.Prelude.{Option, Bool, is_some, option_to_list}
use Rattle.std.specs.List.{cons_option, filter_map}
use Rattle.std.proofs.lemmas.List.{drop_more, map_push, take_more}
use Rattle.rpc_msg.specs.declared.ids.ExportId.{ExportId}
use Rattle.rpc_msg.specs.declared.parts.Descriptor.{Descriptor}
use Rattle.peer_broken.specs.Naming.{broken_name, has_some, heard_by, heard_descriptor}

names_push : (broken : ExportId → Bool) (ds : List Descriptor) (d : Descriptor) → filter_map (broken_name broken) (ds ++ d ∷ []) ≡ filter_map (broken_name broken) ds ++ option_to_list (broken_name broken d)
names_push broken [] d = last_one (broken_name broken d)
  where
    last_one : (o : Option ExportId) → cons_option o [] ≡ option_to_list o
    last_one None = refl
    last_one (Some e) = refl
names_push broken (c ∷ ds) d = first_one (broken_name broken c) (filter_map (broken_name broken) ds) (option_to_list (broken_name broken d)) (names_push broken ds d)
  where
    first_one : (o : Option ExportId) (xs ys : List ExportId) {zs : List ExportId} → zs ≡ xs ++ ys → cons_option o zs ≡ cons_option o xs ++ ys
    first_one None xs ys same = same
    first_one (Some e) xs ys same = ap (λ zs. e ∷ zs) same

none_first : (o : Option ExportId) (es : List ExportId) → is_some o ≡ false → cons_option o es ≡ es
none_first None es none = refl
none_first (Some e) es none = absurd cc

some_first : (o : Option ExportId) (es : List ExportId) → is_some o ≡ true → has_some (cons_option o es) ≡ true
some_first None es some = absurd cc
some_first (Some e) es some = refl

module _ (broken : ExportId → Bool) (ds : List Descriptor) (i : ℕ) (d : Descriptor) (o : Option ExportId) (lt : i < length ds) (is_d : d ≡ get_or ds i d) (is_o : o ≡ broken_name broken d) where
  from_here : filter_map (broken_name broken) (drop i ds) ≡ cons_option o (filter_map (broken_name broken) (drop (i + 1) ds))
  from_here =
      ap (filter_map (broken_name broken)) (drop_more ds i d lt ∙ ap (λ (x : Descriptor). x ∷ drop (i + 1) ds) (sym is_d))
      ∙ ap (λ (p : Option ExportId). cons_option p (filter_map (broken_name broken) (drop (i + 1) ds))) (sym is_o)

  pub no_name : is_some o ≡ false → filter_map (broken_name broken) (drop i ds) ≡ filter_map (broken_name broken) (drop (i + 1) ds)
  no_name none = from_here ∙ none_first o _ none

  pub some_name : is_some o ≡ true → has_some (filter_map (broken_name broken) (drop i ds)) ≡ true
  some_name some = ap has_some from_here ∙ some_first o _ some

  pub heard_more : (done more : List Descriptor) → more ≡ done ++ heard_by o d ∷ [] → done ≡ map (heard_descriptor broken) (take i ds) → more ≡ map (heard_descriptor broken) (take (i + 1) ds)
  heard_more done more is_more so_far =
      is_more
      ∙ ap (λ (xs : List Descriptor). xs ++ heard_by o d ∷ []) so_far
      ∙ ap (λ (x : Descriptor). map (heard_descriptor broken) (take i ds) ++ x ∷ []) (ap (λ (p : Option ExportId). heard_by p d) is_o ∙ ap (heard_descriptor broken) is_d)
      ∙ sym (ap (map (heard_descriptor broken)) (take_more ds i d lt) ∙ map_push (heard_descriptor broken) (take i ds) (get_or ds i d))

  pub names_more : (done more : List ExportId) → more ≡ done ++ option_to_list o → done ≡ filter_map (broken_name broken) (take i ds) → more ≡ filter_map (broken_name broken) (take (i + 1) ds)
  names_more done more is_more so_far =
      is_more
      ∙ ap (λ (xs : List ExportId). xs ++ option_to_list o) so_far
      ∙ ap (λ (p : Option ExportId). filter_map (broken_name broken) (take i ds) ++ option_to_list p) (is_o ∙ ap (broken_name broken) is_d)
      ∙ sym (ap (filter_map (broken_name broken)) (take_more ds i d lt) ∙ names_push broken (take i ds) (get_or ds i d))
