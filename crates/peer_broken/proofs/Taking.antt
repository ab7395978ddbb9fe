-- What a message comes to: where it names no broken promise, and where it does.
use Rattle.std.proofs.Common.{◌≡◌, false, List, [], ◌∷◌, map, refl, sym, ap, ◌∙◌}
use Rattle.std.specs.Prelude.{Bool}
use Rattle.std.specs.List.{filter_map}
use Rattle.rpc_msg.specs.declared.ids.ExportId.{ExportId}
use Rattle.rpc_msg.specs.declared.ids.QuestionId.{QuestionId}
use Rattle.rpc_msg.specs.declared.parts.Descriptor.{Descriptor}
use Rattle.rpc_codec.specs.Envelopes.{What}
use Rattle.rpc_codec.specs.Carried.{descriptors_in}
use Rattle.peer_descriptors.specs.Replacing.{what_with}
use Rattle.peer_broken.specs.declared.due.Due.{Due}
use Rattle.peer_broken.specs.Naming.{Naming, broken_name, comes, coming, due_by, has_some, heard, heard_descriptor, names_of, owing, unless_finished}
use Rattle.peer_broken.proofs.HeardAs.{heard_same}

module _ (broken : ExportId → Bool) (finished : QuestionId → Bool) (s : Naming) (w : What) where
  pub handed_on : names_of broken w ≡ [] → comes broken finished s w ≡ record { state = s; came = w; given_back = [] }
  handed_on none =
      ap (λ (es : List ExportId). coming (heard broken w) (owing s (unless_finished finished (due_by w)) es)) none
      ∙ ap (λ (v : What). coming v (s, [])) (heard_same broken w none)

  none_there : (es : List ExportId) → has_some es ≡ false → es ≡ []
  none_there [] none = refl
  none_there (e ∷ es) none = absurd cc

  pub none_found : (ds : List Descriptor) (b : Bool) → ds ≡ descriptors_in w → b ≡ has_some (filter_map (broken_name broken) ds) → b ≡ false → comes broken finished s w ≡ record { state = s; came = w; given_back = [] }
  none_found ds b is_ds is_b none =
      handed_on (ap (filter_map (broken_name broken)) (sym is_ds) ∙ none_there (filter_map (broken_name broken) ds) (sym is_b ∙ none))

  pub taken : (ds hs : List Descriptor) (names given : List ExportId) (before due : Due) (new : Naming) (v : What)
      → ds ≡ descriptors_in w → hs ≡ map (heard_descriptor broken) ds → names ≡ filter_map (broken_name broken) ds
      → before ≡ due_by w → due ≡ unless_finished finished before → (new, given) ≡ owing s due names → v ≡ what_with w hs
      → comes broken finished s w ≡ record { state = new; came = v; given_back = given }
  taken ds hs names given before due new v is_ds is_hs is_names is_before is_due owes is_v =
      sym (ap (coming v) owes
      ∙ ap (λ (u : What). coming u (owing s due names)) is_v
      ∙ ap (λ (xs : List Descriptor). coming (what_with w xs) (owing s due names)) is_hs
      ∙ ap (λ (ns : List ExportId). coming (what_with w (map (heard_descriptor broken) ds)) (owing s due ns)) is_names
      ∙ ap (λ (xs : List Descriptor). coming (what_with w (map (heard_descriptor broken) xs)) (owing s due (filter_map (broken_name broken) xs))) is_ds
      ∙ ap (λ (d : Due). coming (heard broken w) (owing s d (names_of broken w))) (is_due ∙ ap (unless_finished finished) is_before))
