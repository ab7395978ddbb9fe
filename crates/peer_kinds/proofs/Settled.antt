-- What is heard names each export in one kind, and resolves no object.
use Rattle.std.proofs.Common.{◌≡◌, true, false, List, [], ◌∷◌, map, Some, None, refl, sym, ap, subst, ◌∙◌}
use Rattle.std.proofs.lemmas.Bool.{eqb-true}
use Rattle.std.specs.Prelude.{Option, Bool, ◌==◌, cond, if◌then◌else◌, unwrap_or}
use Rattle.std.specs.Option.{option_map}
use Rattle.rpc_msg.specs.declared.ids.ExportId.{ExportId}
use Rattle.rpc_msg.specs.declared.parts.Descriptor.{Descriptor}
use Rattle.rpc_msg.specs.declared.parts.Descriptor.TheVariants as descriptor
use Rattle.rpc_msg.specs.declared.message.Resolve.{Resolve}
use Rattle.rpc_msg.specs.declared.message.PlainMessage.{PlainMessage}
use Rattle.rpc_msg.specs.declared.message.PlainMessage.TheVariants as plain
use Rattle.rpc_msg.specs.declared.message.Message.TheVariants as message
use Rattle.rpc_codec.specs.Envelopes.{What, profile, tail_call, sent_elsewhere, taken_from_other, strange}
use Rattle.rpc_codec.specs.Carried.{descriptors_in}
use Rattle.rpc_machine.specs.declared.entries.SenderKind.{SenderKind}
use Rattle.rpc_machine.specs.declared.entries.SenderKind.TheVariants as kind
use Rattle.peer_descriptors.proofs.Replaced.{what_changed}
use Rattle.peer_kinds.specs.declared.standing.Standing.{Standing}
use Rattle.peer_kinds.specs.declared.standing.Standing.TheVariants as standing
use Rattle.peer_kinds.specs.Kinds.{Standings, comes, first_kind, given_to, heard_descriptor, heard_descriptors, hears, in_first_kinds, in_kind, is_hosted, kind_heard, set_aside}
use Rattle.peer_kinds.specs.Laws.{IfHeard, NamesAlike, ResolvesPromises}
use Rattle.peer_kinds.proofs.Following.{by_name, heard_name, own_name}

module _ (stands : Standings) (all : List Descriptor) where
  abbrev hear : Descriptor → Descriptor
  hear = heard_descriptor stands all

  -- Of an export that the vat does not have, what is heard is named first in the kind of its first name among all.
  module _ (e : ExportId) (new : stands e ≡ None) where
    abbrev settled : SenderKind → SenderKind
    settled own = unwrap_or (first_kind e all) own

    abbrev after : List Descriptor → Option SenderKind
    after ds = first_kind e (map hear ds)

    name_first : (own : SenderKind) (x : ExportId) (ds : List Descriptor) (b : Bool) → (x.0 == e.0) ≡ b → after ds ≡ option_map settled (first_kind e ds)
        → first_kind e (in_kind (kind_heard (stands x) (first_kind x all) own) x ∷ map hear ds) ≡ option_map settled (if b then Some own else first_kind e ds)
    name_first own x ds true is same =
        let s : x ≡ e = ap (λ n. record { 0 = n }) (eqb-true x.0 e.0 is) in
        subst (λ (y : ExportId). first_kind e (in_kind (kind_heard (stands y) (first_kind y all) own) y ∷ map hear ds) ≡ Some (settled own)) (sym s)
        (ap (λ (o : Option Standing). first_kind e (in_kind (kind_heard o (first_kind e all) own) e ∷ map hear ds)) new
        ∙ own_name e (settled own) (map hear ds))
    name_first own x ds false is same =
        by_name e (kind_heard (stands x) (first_kind x all) own) x (map hear ds)
        ∙ ap (λ b. if b then Some (kind_heard (stands x) (first_kind x all) own) else after ds) is
        ∙ same

    first_after : (ds : List Descriptor) → after ds ≡ option_map settled (first_kind e ds)
    first_after [] = refl
    first_after (descriptor.None ∷ ds) = first_after ds
    first_after (descriptor.SenderHosted x ∷ ds) = name_first kind.Hosted x ds (x.0 == e.0) refl (first_after ds)
    first_after (descriptor.SenderPromise x ∷ ds) = name_first kind.Promise x ds (x.0 == e.0) refl (first_after ds)
    first_after (descriptor.ReceiverHosted x ∷ ds) = first_after ds
    first_after (descriptor.ReceiverAnswer q path ∷ ds) = first_after ds

    by_first : (o : Option SenderKind) → option_map (λ own. unwrap_or o own) o ≡ o
    by_first None = refl
    by_first (Some k) = refl

    pub first_stays : after all ≡ first_kind e all
    first_stays = first_after all ∙ by_first (first_kind e all)

  abbrev again : Descriptor → Descriptor
  again = heard_descriptor stands (map hear all)

  kind_stays : (e : ExportId) (own : SenderKind) (o : Option Standing) → stands e ≡ o
      → kind_heard o (first_kind e (map hear all)) (kind_heard o (first_kind e all) own) ≡ kind_heard o (first_kind e all) own
  kind_stays e own None is = ap (λ (f : Option SenderKind). unwrap_or f (unwrap_or (first_kind e all) own)) (first_stays e is) ∙ twice (first_kind e all)
    where
      twice : (o : Option SenderKind) → unwrap_or o (unwrap_or o own) ≡ unwrap_or o own
      twice None = refl
      twice (Some k) = refl
  kind_stays e own (Some standing.Hosted) is = refl
  kind_stays e own (Some standing.Promise) is = refl
  kind_stays e own (Some standing.Resolved) is = refl

  name_stays : (e : ExportId) (own : SenderKind) → again (in_kind (kind_heard (stands e) (first_kind e all) own) e) ≡ in_kind (kind_heard (stands e) (first_kind e all) own) e
  name_stays e own =
      heard_name stands (map hear all) (kind_heard (stands e) (first_kind e all) own) e
      ∙ ap (λ (k : SenderKind). in_kind k e) (kind_stays e own (stands e) refl)

  each_stays : (ds : List Descriptor) → map again (map hear ds) ≡ map hear ds
  each_stays [] = refl
  each_stays (descriptor.None ∷ ds) = ap (λ (xs : List Descriptor). descriptor.None ∷ xs) (each_stays ds)
  each_stays (descriptor.SenderHosted e ∷ ds) =
      ap (λ (d : Descriptor). d ∷ map again (map hear ds)) (name_stays e kind.Hosted)
      ∙ ap (λ (xs : List Descriptor). hear (descriptor.SenderHosted e) ∷ xs) (each_stays ds)
  each_stays (descriptor.SenderPromise e ∷ ds) =
      ap (λ (d : Descriptor). d ∷ map again (map hear ds)) (name_stays e kind.Promise)
      ∙ ap (λ (xs : List Descriptor). hear (descriptor.SenderPromise e) ∷ xs) (each_stays ds)
  each_stays (descriptor.ReceiverHosted e ∷ ds) = ap (λ (xs : List Descriptor). descriptor.ReceiverHosted e ∷ xs) (each_stays ds)
  each_stays (descriptor.ReceiverAnswer q path ∷ ds) = ap (λ (xs : List Descriptor). descriptor.ReceiverAnswer q path ∷ xs) (each_stays ds)

module _ (stands : Standings) where
  names_stay : (w : What) → heard_descriptors stands (descriptors_in (in_first_kinds stands w)) ≡ descriptors_in (in_first_kinds stands w)
  names_stay w =
      let changed = what_changed (heard_descriptor stands (descriptors_in w)) w in
      subst (λ (ds : List Descriptor). heard_descriptors stands ds ≡ ds) (sym changed) (each_stays stands (descriptors_in w) (descriptors_in w))

  abbrev IsSettled : What → Type 0
  IsSettled w = IfHeard (comes stands w) (NamesAlike stands)

  settled_as : (w : What) → ResolvesPromises stands (in_first_kinds stands w) → NamesAlike stands (in_first_kinds stands w)
  settled_as w resolves = record { names = names_stay w; resolves = resolves }

  resolve_settled : (r : Resolve) (b : Bool) → is_hosted (stands r.promise) ≡ b
      → IfHeard (cond b (set_aside (given_to r.to)) (hears stands (profile (message.Plain (plain.Resolve r))))) (NamesAlike stands)
  resolve_settled r true is = tt
  resolve_settled r false is = settled_as (profile (message.Plain (plain.Resolve r))) is

  plain_settled : (m : PlainMessage) → IsSettled (profile (message.Plain m))
  plain_settled (plain.Resolve r) = resolve_settled r (is_hosted (stands r.promise)) refl
  plain_settled (plain.Abort x) = settled_as (profile (message.Plain (plain.Abort x))) tt
  plain_settled (plain.Bootstrap q) = settled_as (profile (message.Plain (plain.Bootstrap q))) tt
  plain_settled (plain.Call c) = settled_as (profile (message.Plain (plain.Call c))) tt
  plain_settled (plain.Return r) = settled_as (profile (message.Plain (plain.Return r))) tt
  plain_settled (plain.Finish f) = settled_as (profile (message.Plain (plain.Finish f))) tt
  plain_settled (plain.Release r) = settled_as (profile (message.Plain (plain.Release r))) tt
  plain_settled (plain.Disembargo d) = settled_as (profile (message.Plain (plain.Disembargo d))) tt
  plain_settled (plain.Other n) = settled_as (profile (message.Plain (plain.Other n))) tt

  pub all_settled : (w : What) → IsSettled w
  all_settled (profile (message.Plain m)) = plain_settled m
  all_settled (profile (message.Unimplemented m)) = settled_as (profile (message.Unimplemented m)) tt
  all_settled (tail_call c) = settled_as (tail_call c) tt
  all_settled (sent_elsewhere x) = settled_as (sent_elsewhere x) tt
  all_settled (taken_from_other x) = settled_as (taken_from_other x) tt
  all_settled (strange n original) = settled_as (strange n original) tt
