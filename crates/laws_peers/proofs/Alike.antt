-- What clashes with no import is named in one kind, that of the import.
use Rattle.std.proofs.Common.{◌≡◌, true, false, List, [], ◌∷◌, map, Some, None, refl, sym, ap, ◌∙◌}
use Rattle.std.specs.Prelude.{Option, Bool, ◌==◌, nat_eq, not, ◌&&◌, ◌||◌, is_some, if◌then◌else◌, unwrap_or}
use Rattle.std.specs.List.{list_any}
use Rattle.std.specs.FinMap as finite
use Rattle.std.proofs.lemmas.Bool.{eq-eqb, eqb-true}
use Rattle.rpc_msg.specs.Messages.{descriptors_of_plain}
use Rattle.rpc_msg.specs.declared.ids.ExportId.{ExportId}
use Rattle.rpc_msg.specs.declared.parts.Descriptor.{Descriptor}
use Rattle.rpc_msg.specs.declared.parts.Descriptor.TheVariants as descriptor
use Rattle.rpc_msg.specs.declared.message.PlainMessage.{PlainMessage}
use Rattle.rpc_msg.specs.declared.message.PlainMessage.TheVariants as plain
use Rattle.rpc_msg.specs.declared.message.Message.TheVariants as message
use Rattle.rpc_codec.specs.Envelopes.{profile}
use Rattle.rpc_machine.specs.declared.entries.Import.{Import}
use Rattle.rpc_machine.specs.declared.entries.SenderKind.{SenderKind}
use Rattle.rpc_machine.specs.declared.entries.SenderKind.TheVariants as kind
use Rattle.rpc_machine.specs.State.{State}
use Rattle.rpc_machine.specs.Faults.{differs, kind_clashes, same_kind, is_hosted}
use Rattle.laws_messages.specs.Oldest.{IsFirstResolve, NoneClashes}
use Rattle.peer_kinds.specs.Kinds.{first_kind, heard_descriptor, in_kind, kind_heard}
use Rattle.peer_kinds.specs.Kinds as kinds
use Rattle.peer_kinds.specs.Laws.{NamesAlike, ResolvesPromises}
use Rattle.peer_kinds.specs.Standings.{standing_of, standings_in, stands_as}

both_false : (a b : Bool) → (a || b) ≡ false → (a ≡ false) × (b ≡ false)
both_false true b is = absurd (let e : true ≡ false = is in cc)
both_false false b is = (refl, is)

-- The first descriptors stand in front of the others, the last of them first.
abbrev pub behind : List Descriptor → List Descriptor → List Descriptor
behind [] ds = ds
behind (d ∷ before) ds = behind before (d ∷ ds)

module _ (e : ExportId) where
  hosted_first : (k : SenderKind) (x : ExportId) (b : Bool) (o : Option SenderKind) → (x.0 == e.0) ≡ b → (nat_eq e.0 x.0 && not (same_kind k kind.Hosted)) ≡ false → o ≡ Some k
      → (if b then Some kind.Hosted else o) ≡ Some k
  hosted_first kind.Hosted x true o is none same = refl
  hosted_first kind.Promise x true o is none same = absurd (let t : nat_eq e.0 x.0 ≡ true = eq-eqb e.0 x.0 (sym (eqb-true x.0 e.0 is)) in let u : (nat_eq e.0 x.0 && true) ≡ true = ap (λ b. b && true) t in cc)
  hosted_first k x false o is none same = same

  promise_first : (k : SenderKind) (x : ExportId) (b : Bool) (o : Option SenderKind) → (x.0 == e.0) ≡ b → (nat_eq e.0 x.0 && not (same_kind k kind.Promise)) ≡ false → o ≡ Some k
      → (if b then Some kind.Promise else o) ≡ Some k
  promise_first kind.Promise x true o is none same = refl
  promise_first kind.Hosted x true o is none same = absurd (let t : nat_eq e.0 x.0 ≡ true = eq-eqb e.0 x.0 (sym (eqb-true x.0 e.0 is)) in let u : (nat_eq e.0 x.0 && true) ≡ true = ap (λ b. b && true) t in cc)
  promise_first k x false o is none same = same

  still_first : (k : SenderKind) (d : Descriptor) (ds : List Descriptor) → differs k e.0 d ≡ false → first_kind e ds ≡ Some k → first_kind e (d ∷ ds) ≡ Some k
  still_first k descriptor.None ds none same = same
  still_first k (descriptor.SenderHosted x) ds none same = hosted_first k x (x.0 == e.0) (first_kind e ds) refl none same
  still_first k (descriptor.SenderPromise x) ds none same = promise_first k x (x.0 == e.0) (first_kind e ds) refl none same
  still_first k (descriptor.ReceiverHosted x) ds none same = same
  still_first k (descriptor.ReceiverAnswer q path) ds none same = same

  all_first : (k : SenderKind) (before ds : List Descriptor) → list_any (differs k e.0) before ≡ false → first_kind e ds ≡ Some k → first_kind e (behind before ds) ≡ Some k
  all_first k [] ds none same = same
  all_first k (d ∷ before) ds none same =
      let both = both_false (differs k e.0 d) (list_any (differs k e.0) before) none in
      all_first k before (d ∷ ds) both.1 (still_first k d ds both.0 same)

  pub own_first : (k : SenderKind) (ds : List Descriptor) → first_kind e (in_kind k e ∷ ds) ≡ Some k
  own_first kind.Hosted ds = ap (λ b. if b then Some kind.Hosted else first_kind e ds) (eq-eqb e.0 e.0 refl)
  own_first kind.Promise ds = ap (λ b. if b then Some kind.Promise else first_kind e ds) (eq-eqb e.0 e.0 refl)

  there_heard : (k own : SenderKind) (said : Bool) (first : Option SenderKind) → (not (same_kind own k) || said) ≡ false → kind_heard (Some (stands_as k said)) first own ≡ own
  there_heard kind.Hosted kind.Hosted false first none = refl
  there_heard kind.Promise kind.Promise false first none = refl
  there_heard kind.Hosted kind.Hosted true first none = absurd (let e : true ≡ false = none in cc)
  there_heard kind.Promise kind.Promise true first none = absurd (let e : true ≡ false = none in cc)
  there_heard kind.Hosted kind.Promise said first none = absurd (let e : true ≡ false = none in cc)
  there_heard kind.Promise kind.Hosted said first none = absurd (let e : true ≡ false = none in cc)

  -- A name that clashes with none is heard in its kind.
  same_heard : (own : SenderKind) (o : Option Import) (before ds : List Descriptor) → kind_clashes own e.0 before o ≡ false
      → kind_heard (standing_of o) (first_kind e (behind before (in_kind own e ∷ ds))) own ≡ own
  same_heard own None before ds none = ap (λ (f : Option SenderKind). unwrap_or f own) (all_first own before (in_kind own e ∷ ds) none (own_first own ds))
  same_heard own (Some x) before ds none = there_heard x.kind own (is_some x.resolution) (first_kind e (behind before (in_kind own e ∷ ds))) none

module _ (s : State) where
  all_same : (before ds : List Descriptor) → NoneClashes s before ds → map (heard_descriptor (standings_in s) (behind before ds)) ds ≡ ds
  all_same before [] none = refl
  all_same before (descriptor.None ∷ ds) none = ap (λ (xs : List Descriptor). descriptor.None ∷ xs) (all_same (descriptor.None ∷ before) ds none)
  all_same before (descriptor.SenderHosted e ∷ ds) none =
      ap (λ (k : SenderKind). in_kind k e ∷ map (heard_descriptor (standings_in s) (behind before (descriptor.SenderHosted e ∷ ds))) ds) (same_heard e kind.Hosted (finite.get s.imports e.0) before ds none.0)
      ∙ ap (λ (xs : List Descriptor). descriptor.SenderHosted e ∷ xs) (all_same (descriptor.SenderHosted e ∷ before) ds none.1)
  all_same before (descriptor.SenderPromise e ∷ ds) none =
      ap (λ (k : SenderKind). in_kind k e ∷ map (heard_descriptor (standings_in s) (behind before (descriptor.SenderPromise e ∷ ds))) ds) (same_heard e kind.Promise (finite.get s.imports e.0) before ds none.0)
      ∙ ap (λ (xs : List Descriptor). descriptor.SenderPromise e ∷ xs) (all_same (descriptor.SenderPromise e ∷ before) ds none.1)
  all_same before (descriptor.ReceiverHosted e ∷ ds) none = ap (λ (xs : List Descriptor). descriptor.ReceiverHosted e ∷ xs) (all_same (descriptor.ReceiverHosted e ∷ before) ds none)
  all_same before (descriptor.ReceiverAnswer q path ∷ ds) none = ap (λ (xs : List Descriptor). descriptor.ReceiverAnswer q path ∷ xs) (all_same (descriptor.ReceiverAnswer q path ∷ before) ds none)

  no_object : (o : Option Import) → is_hosted o ≡ false → kinds.is_hosted (standing_of o) ≡ false
  no_object None is = refl
  no_object (Some x) is = by_kind x.kind (is_some x.resolution) is
    where
      by_kind : (k : SenderKind) (said : Bool) → same_kind k kind.Hosted ≡ false → kinds.is_hosted (Some (stands_as k said)) ≡ false
      by_kind kind.Hosted said is = absurd (let e : true ≡ false = is in cc)
      by_kind kind.Promise false is = refl
      by_kind kind.Promise true is = refl

  resolves_promises : (p : PlainMessage) → IsFirstResolve s p → ResolvesPromises (standings_in s) (profile (message.Plain p))
  resolves_promises (plain.Resolve r) first = no_object (finite.get s.imports r.promise.0) first.0
  resolves_promises (plain.Abort x) first = tt
  resolves_promises (plain.Bootstrap q) first = tt
  resolves_promises (plain.Call c) first = tt
  resolves_promises (plain.Return r) first = tt
  resolves_promises (plain.Finish f) first = tt
  resolves_promises (plain.Release r) first = tt
  resolves_promises (plain.Disembargo d) first = tt
  resolves_promises (plain.Other n) first = tt

  pub alike : (p : PlainMessage) → IsFirstResolve s p → NoneClashes s [] (descriptors_of_plain p) → NamesAlike (standings_in s) (profile (message.Plain p))
  alike p first none = record { names = all_same [] (descriptors_of_plain p) none; resolves = resolves_promises p first }
