-- What the vat hears of messages: those without names, and what is handed on.
use Rattle.std.proofs.Common.{◌≡◌, true, false, List, [], ◌∷◌, map, Some, None, refl, ap, ◌∙◌}
use Rattle.std.specs.Prelude.{Option, Bool, if◌then◌else◌}
use Rattle.std.specs.List.{cons_option, filter_map}
use Rattle.rpc_msg.specs.declared.ids.ExportId.{ExportId}
use Rattle.rpc_msg.specs.declared.parts.Descriptor.{Descriptor}
use Rattle.rpc_msg.specs.declared.parts.Descriptor.TheVariants as descriptor
use Rattle.rpc_codec.specs.Envelopes.{What}
use Rattle.rpc_codec.specs.Carried.{descriptors_in}
use Rattle.peer_descriptors.specs.Replacing.{what_with}
use Rattle.peer_descriptors.proofs.Replaced.{what_changed, what_same}
use Rattle.peer_broken.specs.Naming.{broken_name, heard, heard_by, heard_descriptor, names_of}

module _ (broken : ExportId → Bool) where
  one_heard : (o : Option ExportId) (d : Descriptor) (es : List ExportId) → cons_option o es ≡ [] → (heard_by o d ≡ d) × (es ≡ [])
  one_heard None d es none = (refl, none)
  one_heard (Some e) d es none = absurd cc

  -- Where there is no name the descriptors are heard as they are.
  all_heard : (ds : List Descriptor) → filter_map (broken_name broken) ds ≡ [] → map (heard_descriptor broken) ds ≡ ds
  all_heard [] none = refl
  all_heard (d ∷ ds) none =
      let this = one_heard (broken_name broken d) d (filter_map (broken_name broken) ds) none in
      ap (λ (x : Descriptor). x ∷ map (heard_descriptor broken) ds) this.0 ∙ ap (λ (xs : List Descriptor). d ∷ xs) (all_heard ds this.1)

  promise_heard : (e : ExportId) (b : Bool) → broken e ≡ b → broken_name broken (heard_by (if b then Some e else None) (descriptor.SenderPromise e)) ≡ None
  promise_heard e true is = refl
  promise_heard e false is = ap (λ (b : Bool). if b then Some e else None) is

  one_named : (d : Descriptor) → broken_name broken (heard_descriptor broken d) ≡ None
  one_named descriptor.None = refl
  one_named (descriptor.SenderHosted e) = refl
  one_named (descriptor.SenderPromise e) = promise_heard e (broken e) refl
  one_named (descriptor.ReceiverHosted e) = refl
  one_named (descriptor.ReceiverAnswer q path) = refl

  none_named : (ds : List Descriptor) → filter_map (broken_name broken) (map (heard_descriptor broken) ds) ≡ []
  none_named [] = refl
  none_named (d ∷ ds) = ap (λ (o : Option ExportId). cons_option o (filter_map (broken_name broken) (map (heard_descriptor broken) ds))) (one_named d) ∙ none_named ds

pub heard_same : (broken : ExportId → Bool) (w : What) → names_of broken w ≡ [] → heard broken w ≡ w
heard_same broken w none = ap (what_with w) (all_heard broken (descriptors_in w) none) ∙ what_same w

pub heard_none : (broken : ExportId → Bool) (w : What) → names_of broken (heard broken w) ≡ []
heard_none broken w = ap (filter_map (broken_name broken)) (what_changed (heard_descriptor broken) w) ∙ none_named broken (descriptors_in w)
