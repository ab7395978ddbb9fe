-- Names that are each heard as they are clash with no import of which no Resolve came.
use Rattle.std.proofs.Common.{◌≡◌, true, false, List, [], ◌∷◌, map, Some, None, refl, sym, ap, subst, ◌∙◌}
use Rattle.std.specs.Prelude.{Option, Bool, ◌==◌, nat_eq, not, ◌&&◌, ◌||◌, is_some, if◌then◌else◌, unwrap_or}
use Rattle.std.specs.List.{list_any}
use Rattle.std.specs.FinMap as finite
use Rattle.std.proofs.lemmas.Bool.{eqb-true}
use Rattle.rpc_msg.specs.Messages.{descriptors_of_plain}
use Rattle.rpc_msg.specs.declared.ids.ExportId.{ExportId}
use Rattle.rpc_msg.specs.declared.parts.Descriptor.{Descriptor}
use Rattle.rpc_msg.specs.declared.parts.Descriptor.TheVariants as descriptor
use Rattle.rpc_msg.specs.declared.message.PlainMessage.{PlainMessage}
use Rattle.rpc_msg.specs.declared.message.PlainMessage.TheVariants as plain
use Rattle.rpc_msg.specs.declared.message.Message.TheVariants as message
use Rattle.rpc_codec.specs.Envelopes.{What, profile, tail_call, sent_elsewhere, taken_from_other, strange}
use Rattle.rpc_machine.specs.declared.entries.Import.{Import}
use Rattle.rpc_machine.specs.declared.entries.SenderKind.{SenderKind}
use Rattle.rpc_machine.specs.declared.entries.SenderKind.TheVariants as kind
use Rattle.rpc_machine.specs.State.{State}
use Rattle.rpc_machine.specs.Faults.{differs, kind_clashes, same_kind, is_hosted, is_resolved}
use Rattle.laws_messages.specs.Oldest.{NoneClashes}
use Rattle.peer_kinds.specs.Kinds.{Outcome, comes, first_kind, heard, heard_descriptor, in_kind, kind_heard, set_aside}
use Rattle.peer_kinds.specs.Kinds as kinds
use Rattle.peer_kinds.specs.Laws.{IfHeard, NamesAlike, ResolvesPromises}
use Rattle.peer_kinds.specs.Standings.{standing_of, standings_in, stands_as}
use Rattle.laws_peers.specs.Fits.{AreOpen, FitsAs, ResolvesPromise}
use Rattle.laws_peers.proofs.Alike.{behind, own_first}

own_kind : (j own : SenderKind) (e : ExportId) → in_kind j e ≡ in_kind own e → j ≡ own
own_kind kind.Hosted kind.Hosted e is = refl
own_kind kind.Promise kind.Promise e is = refl
own_kind kind.Hosted kind.Promise e is = absurd (let s : descriptor.SenderHosted e ≡ descriptor.SenderPromise e = is in cc)
own_kind kind.Promise kind.Hosted e is = absurd (let s : descriptor.SenderPromise e ≡ descriptor.SenderHosted e = is in cc)

heads : (a b : Descriptor) (xs ys : List Descriptor) → (a ∷ xs) ≡ (b ∷ ys) → (a ≡ b) × (xs ≡ ys)
heads a b xs ys is = (cc, cc)

both_heard : (f : Descriptor → Descriptor) (d : Descriptor) (ds : List Descriptor) → f d ≡ d → map f ds ≡ ds → map f (d ∷ ds) ≡ d ∷ ds
both_heard f d ds is same = ap (λ (x : Descriptor). x ∷ map f ds) is ∙ ap (λ (xs : List Descriptor). d ∷ xs) same

same_none : (k : SenderKind) → not (same_kind k k) ≡ false
same_none kind.Hosted = refl
same_none kind.Promise = refl

or_false : (a b : Bool) → a ≡ false → b ≡ false → (a || b) ≡ false
or_false a b is_a is_b = ap (λ (x : Bool). x || b) is_a ∙ is_b

-- A name of an export is still among them where more stand in front.
module _ (e : ExportId) where
  some_if : (b : Bool) (k : SenderKind) (o : Option SenderKind) → is_some o ≡ true → is_some (if b then Some k else o) ≡ true
  some_if true k o is = refl
  some_if false k o is = is

  still_named : (d : Descriptor) (ds : List Descriptor) → is_some (first_kind e ds) ≡ true → is_some (first_kind e (d ∷ ds)) ≡ true
  still_named descriptor.None ds is = is
  still_named (descriptor.SenderHosted x) ds is = some_if (x.0 == e.0) kind.Hosted (first_kind e ds) is
  still_named (descriptor.SenderPromise x) ds is = some_if (x.0 == e.0) kind.Promise (first_kind e ds) is
  still_named (descriptor.ReceiverHosted x) ds is = is
  still_named (descriptor.ReceiverAnswer q path) ds is = is

  all_named : (before ds : List Descriptor) → is_some (first_kind e ds) ≡ true → is_some (first_kind e (behind before ds)) ≡ true
  all_named [] ds is = is
  all_named (d ∷ before) ds is = all_named before (d ∷ ds) (still_named d ds is)

first_of : (o : Option SenderKind) (own : SenderKind) → is_some o ≡ true → unwrap_or o own ≡ own → o ≡ Some own
first_of None own is same = absurd (let s : false ≡ true = is in cc)
first_of (Some k) own is same = ap (λ (k : SenderKind). Some k) same

module _ (s : State) (all : List Descriptor) where
  abbrev hear : Descriptor → Descriptor
  hear = heard_descriptor (standings_in s) all

  module _ (e : ExportId) (new : finite.get s.imports e.0 ≡ None) (own : SenderKind) (first : first_kind e all ≡ Some own) where
    one_kind : (k : SenderKind) → in_kind (kind_heard (standing_of (finite.get s.imports e.0)) (first_kind e all) k) e ≡ in_kind k e → not (same_kind own k) ≡ false
    one_kind k is =
        let heard_own : kind_heard (standing_of (finite.get s.imports e.0)) (first_kind e all) k ≡ own =
        ap (λ (o : Option Import). kind_heard (standing_of o) (first_kind e all) k) new ∙ ap (λ (f : Option SenderKind). unwrap_or f k) first in
        let same : own ≡ k = sym heard_own ∙ own_kind (kind_heard (standing_of (finite.get s.imports e.0)) (first_kind e all) k) k e is in
        ap (λ (j : SenderKind). not (same_kind own j)) (sym same) ∙ same_none own

    by_name : (k : SenderKind) (x : ExportId) (b : Bool) → nat_eq e.0 x.0 ≡ b → in_kind (kind_heard (standing_of (finite.get s.imports x.0)) (first_kind x all) k) x ≡ in_kind k x
        → (b && not (same_kind own k)) ≡ false
    by_name k x true is alike =
        let same : x ≡ e = ap (λ n. record { 0 = n }) (sym (eqb-true e.0 x.0 is)) in
        one_kind k (subst (λ (y : ExportId). in_kind (kind_heard (standing_of (finite.get s.imports y.0)) (first_kind y all) k) y ≡ in_kind k y) same alike)
    by_name k x false is alike = refl

    one_differs : (d : Descriptor) → hear d ≡ d → differs own e.0 d ≡ false
    one_differs descriptor.None is = refl
    one_differs (descriptor.SenderHosted x) is = by_name kind.Hosted x (nat_eq e.0 x.0) refl is
    one_differs (descriptor.SenderPromise x) is = by_name kind.Promise x (nat_eq e.0 x.0) refl is
    one_differs (descriptor.ReceiverHosted x) is = refl
    one_differs (descriptor.ReceiverAnswer q path) is = refl

    none_differs : (before : List Descriptor) → map hear before ≡ before → list_any (differs own e.0) before ≡ false
    none_differs [] is = refl
    none_differs (d ∷ before) is =
        let both = heads (hear d) d (map hear before) before is in
        or_false (differs own e.0 d) (list_any (differs own e.0) before) (one_differs d both.0) (none_differs before both.1)

module _ (s : State) where
  there_fits : (own : SenderKind) (k : SenderKind) (said : Bool) (first : Option SenderKind) → said ≡ false → kind_heard (Some (stands_as k said)) first own ≡ own
      → (not (same_kind own k) || said) ≡ false
  there_fits kind.Hosted kind.Hosted false first free is = refl
  there_fits kind.Promise kind.Promise false first free is = refl
  there_fits kind.Hosted kind.Promise false first free is = absurd (let e : kind.Promise ≡ kind.Hosted = is in cc)
  there_fits kind.Promise kind.Hosted false first free is = absurd (let e : kind.Hosted ≡ kind.Promise = is in cc)
  there_fits own k true first free is = absurd (let e : true ≡ false = free in cc)

  name_fits : (own : SenderKind) (e : ExportId) (before all : List Descriptor) (o : Option Import) → finite.get s.imports e.0 ≡ o → is_some (first_kind e all) ≡ true
      → map (hear s all) before ≡ before → is_resolved o ≡ false → kind_heard (standing_of o) (first_kind e all) own ≡ own → kind_clashes own e.0 before o ≡ false
  name_fits own e before all None is named alike free same = none_differs s all e is own (first_of (first_kind e all) own named same) before alike
  name_fits own e before all (Some x) is named alike free same = there_fits own x.kind (is_some x.resolution) (first_kind e all) free same

  named : (own : SenderKind) (e : ExportId) (ds : List Descriptor) → is_some (first_kind e (in_kind own e ∷ ds)) ≡ true
  named own e ds = ap (λ (o : Option SenderKind). is_some o) (own_first e own ds)

  -- A name that is heard as it is, behind others that are heard as they are.
  one_fits : (own : SenderKind) (e : ExportId) (before ds : List Descriptor) → map (hear s (behind before (in_kind own e ∷ ds))) before ≡ before
      → is_resolved (finite.get s.imports e.0) ≡ false
      → in_kind (kind_heard (standing_of (finite.get s.imports e.0)) (first_kind e (behind before (in_kind own e ∷ ds))) own) e ≡ in_kind own e
      → kind_clashes own e.0 before (finite.get s.imports e.0) ≡ false
  one_fits own e before ds passed free same =
      name_fits own e before (behind before (in_kind own e ∷ ds)) (finite.get s.imports e.0) refl (all_named e before (in_kind own e ∷ ds) (named own e ds)) passed free
      (own_kind (kind_heard (standing_of (finite.get s.imports e.0)) (first_kind e (behind before (in_kind own e ∷ ds))) own) own e same)

  all_fit : (before ds : List Descriptor) → map (hear s (behind before ds)) before ≡ before → map (hear s (behind before ds)) ds ≡ ds → AreOpen s ds → NoneClashes s before ds
  all_fit before [] passed alike free = tt
  all_fit before (descriptor.None ∷ ds) passed alike free =
      all_fit (descriptor.None ∷ before) ds (ap (λ (xs : List Descriptor). descriptor.None ∷ xs) passed)
      (heads descriptor.None descriptor.None (map (hear s (behind before (descriptor.None ∷ ds))) ds) ds alike).1 free
  all_fit before (descriptor.SenderHosted e ∷ ds) passed alike free =
      let both = heads (hear s (behind before (descriptor.SenderHosted e ∷ ds)) (descriptor.SenderHosted e)) (descriptor.SenderHosted e) (map (hear s (behind before (descriptor.SenderHosted e ∷ ds))) ds) ds alike in
      (one_fits kind.Hosted e before ds passed free.0 both.0, all_fit (descriptor.SenderHosted e ∷ before) ds (both_heard (hear s (behind before (descriptor.SenderHosted e ∷ ds))) (descriptor.SenderHosted e) before both.0 passed) both.1 free.1)
  all_fit before (descriptor.SenderPromise e ∷ ds) passed alike free =
      let both = heads (hear s (behind before (descriptor.SenderPromise e ∷ ds)) (descriptor.SenderPromise e)) (descriptor.SenderPromise e) (map (hear s (behind before (descriptor.SenderPromise e ∷ ds))) ds) ds alike in
      (one_fits kind.Promise e before ds passed free.0 both.0, all_fit (descriptor.SenderPromise e ∷ before) ds (both_heard (hear s (behind before (descriptor.SenderPromise e ∷ ds))) (descriptor.SenderPromise e) before both.0 passed) both.1 free.1)
  all_fit before (descriptor.ReceiverHosted e ∷ ds) passed alike free =
      all_fit (descriptor.ReceiverHosted e ∷ before) ds (ap (λ (xs : List Descriptor). descriptor.ReceiverHosted e ∷ xs) passed)
      (heads (descriptor.ReceiverHosted e) (descriptor.ReceiverHosted e) (map (hear s (behind before (descriptor.ReceiverHosted e ∷ ds))) ds) ds alike).1 free
  all_fit before (descriptor.ReceiverAnswer q path ∷ ds) passed alike free =
      all_fit (descriptor.ReceiverAnswer q path ∷ before) ds (ap (λ (xs : List Descriptor). descriptor.ReceiverAnswer q path ∷ xs) passed)
      (heads (descriptor.ReceiverAnswer q path) (descriptor.ReceiverAnswer q path) (map (hear s (behind before (descriptor.ReceiverAnswer q path ∷ ds))) ds) ds alike).1 free

  no_object : (o : Option Import) → kinds.is_hosted (standing_of o) ≡ false → is_resolved o ≡ false → is_hosted o ≡ false
  no_object None is free = refl
  no_object (Some x) is free = by_kind x.kind (is_some x.resolution) is free
    where
      by_kind : (k : SenderKind) (said : Bool) → kinds.is_hosted (Some (stands_as k said)) ≡ false → said ≡ false → same_kind k kind.Hosted ≡ false
      by_kind kind.Promise said is free = refl
      by_kind kind.Hosted false is free = absurd (let e : true ≡ false = is in cc)
      by_kind kind.Hosted true is free = absurd (let e : true ≡ false = free in cc)

  resolves : (p : PlainMessage) → ResolvesPromises (standings_in s) (profile (message.Plain p)) → ResolvesPromise s p
  resolves (plain.Resolve r) is = no_object (finite.get s.imports r.promise.0) is
  resolves (plain.Abort x) is = tt
  resolves (plain.Bootstrap q) is = tt
  resolves (plain.Call c) is = tt
  resolves (plain.Return r) is = tt
  resolves (plain.Finish f) is = tt
  resolves (plain.Release r) is = tt
  resolves (plain.Disembargo d) is = tt
  resolves (plain.Other n) is = tt

  fits : (w : What) → NamesAlike (standings_in s) w → FitsAs s w
  fits (profile (message.Plain p)) alike = record { names = all_fit [] (descriptors_of_plain p) refl alike.names; resolves = resolves p alike.resolves }
  fits (profile (message.Unimplemented m)) alike = tt
  fits (tail_call c) alike = tt
  fits (sent_elsewhere x) alike = tt
  fits (taken_from_other x) alike = tt
  fits (strange n original) alike = tt

  pub heard_fits : (o : Outcome) → IfHeard o (NamesAlike (standings_in s)) → IfHeard o (FitsAs s)
  heard_fits (heard w) alike = fits w alike
  heard_fits (set_aside given) alike = tt
