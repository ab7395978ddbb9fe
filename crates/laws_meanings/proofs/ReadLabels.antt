-- The nodes that a receiver makes of descriptors, and of a target, have the labels by which a message is read on its way.
use Rattle.std.proofs.Common.{◌≡◌, inl, ℕ, zero, suc, nat_eq, length, false, true, not, Option, None, Some, is_some, List, [], ◌∷◌, refl, sym, IsSome, subst}
use Rattle.std.specs.FinMap as map
use Rattle.std.specs.List.{slice_get}
use Rattle.rpc_msg.specs.declared.parts.Descriptor.{Descriptor}
use Rattle.rpc_msg.specs.declared.parts.Descriptor.TheVariants as descriptor
use Rattle.rpc_msg.specs.declared.parts.Target.{Target}
use Rattle.rpc_msg.specs.declared.parts.Target.TheVariants.{ImportedCap, PromisedAnswer}
use Rattle.rpc_msg.specs.declared.message.PlainMessage.TheVariants as plain
use Rattle.rpc_msg.specs.declared.message.ResolvedTo.{ResolvedTo}
use Rattle.rpc_msg.specs.declared.message.ResolvedTo.TheVariants as resolved
use Rattle.rpc_machine.specs.declared.entries.Import.{Import}
use Rattle.rpc_msg.specs.Op.{Op}
use Rattle.rpc_journal.specs.History.{or_rest, if_so, caller}
use Rattle.rpc_journal.specs.Meaning.{History}
use Rattle.rpc_machine.specs.declared.node.Node.{Node}
use Rattle.rpc_machine.specs.Payloads.{caps_in}
use Rattle.rpc_machine.specs.Numbers.{question_in_use, bad_payload, resolved_twice, not_a_promise}
use Rattle.rpc_machine.specs.declared.command.Level.{Level}
use Rattle.rpc_machine.specs.declared.entries.AnswerEntry.{AnswerEntry}
use Rattle.rpc_machine.specs.declared.entries.Export.{Export}
use Rattle.rpc_machine.specs.State.{State}
use Rattle.rpc_machine.specs.Places.{named_by_export}
use Rattle.rpc_machine.specs.Descriptors.{export_node, answer_node, read_one, read_at, read, read_all}
use Rattle.rpc_machine.specs.Faults.{target_node, target_fault, descriptor_fault, each_fault, faults_at, descriptors_fault, held_fault, plain_fault, resolve_fault, is_resolved, is_hosted, is_foreign, unless_foreign}
use Rattle.laws_acts.proofs.Checks.{first, rest}
use Rattle.laws_steps.specs.NodesThere.{IsWhole}
use Rattle.laws_steps.proofs.Among.{named, in_exports}
use Rattle.laws_meanings.specs.NodeMeanings.{Meant, OfRef}
use Rattle.laws_meanings.specs.NodeLabels.{Labels, LeadsTo, label, Means}
use Rattle.laws_meanings.specs.MessageMeanings.{SaidOf, ResolveHeard, ResolveRead, ResolvesAreHeard, with_imports, ImportsKept, answer_label, wire_label, wire_target_label, DescriptorsAreRead, TargetsAreRead, CallsAreHeard}
use Rattle.laws_meanings.proofs.HeardMeans.{imported}

no_fault : {X : Type 0} (a b : Option X) → or_rest a b ≡ None → a ≡ None
no_fault None b e = refl
no_fault (Some x) b e = cc

no_more : {X : Type 0} (a b : Option X) → or_rest a b ≡ None → b ≡ None
no_more None b e = e
no_more (Some x) b e = cc

is_there : {X : Type 0} (o : Option X) (n : ℕ) → if_so (not (is_some o)) n ≡ None → IsSome o
is_there None n e = cc
is_there (Some x) n e = refl

module _ (h : History) (l : Labels) (s : State) (is : ℕ → Option Meant) (kept : ImportsKept l s is) (whole : IsWhole s) where
  abbrev m : Labels
  m = with_imports l is

  export_same : (e : ℕ) (o : Option Export) → map.get s.exports e ≡ o → label h s.vat m (export_node o) ≡ label h s.vat l (export_node o)
  export_same e None f = refl
  export_same e (Some x) f = (imported h l s is whole kept).named x.node (in_exports s x.node (named named_by_export e x x.node s.exports f (inl refl)))

  answer_same : (path : List Op) (o : Option AnswerEntry) → IsSome o → label h s.vat m (answer_node path o) ≡ answer_label h s.vat l s o path
  answer_same path None i = absurd (let bad : false ≡ true = i in cc)
  answer_same path (Some a) i = refl

  one_same : (before : List Descriptor) (d : Descriptor) → descriptor_fault s before d ≡ None → label h s.vat m (read_one s d) ≡ wire_label h s.vat l s is d
  one_same before descriptor.None f = refl
  one_same before (descriptor.SenderHosted e) f = refl
  one_same before (descriptor.SenderPromise e) f = refl
  one_same before (descriptor.ReceiverHosted e) f = export_same e.0 (map.get s.exports e.0) refl
  one_same before (descriptor.ReceiverAnswer q path) f = answer_same path (map.get s.answers q.0) (is_there (map.get s.answers q.0) _ f)

  each_same : (before ds : List Descriptor) → each_fault s before ds ≡ None → (i : ℕ) (d : Descriptor) → slice_get ds i ≡ Some d → label h s.vat m (read_one s d) ≡ wire_label h s.vat l s is d
  each_same before [] f i d e = let bad : ◌≡◌ {A = Option Descriptor} None (Some d) = e in cc
  each_same before (c ∷ cs) f zero d e =
      let g : c ≡ d = (let k : Some c ≡ Some d = e in cc) in
      subst (λ (x : Descriptor). label h s.vat m (read_one s x) ≡ wire_label h s.vat l s is x) g (one_same before c (no_fault (descriptor_fault s before c) (each_fault s (c ∷ before) cs) f))
  each_same before (c ∷ cs) f (suc i) d e = each_same (c ∷ before) cs (no_more (descriptor_fault s before c) (each_fault s (c ∷ before) cs) f) i d e

  target_same : (t : Target) → target_fault s t ≡ None → label h s.vat m (target_node s t) ≡ wire_target_label h s.vat l s t
  target_same (ImportedCap e) f = export_same e.0 (map.get s.exports e.0) refl
  target_same (PromisedAnswer q path) f = answer_same path (map.get s.answers q.0) (is_there (map.get s.answers q.0) _ f)

pub descriptors_read : DescriptorsAreRead
descriptors_read h l s is ds kept whole level f i d e =
    let z = each_same h l s is kept whole [] ds (subst (λ (k : Level). faults_at k s ds ≡ None) level f) i d e in
    subst (λ (k : Level). label h s.vat (with_imports l is) (read_at k s d) ≡ wire_label h s.vat l s is d) (sym level) z

pub targets_read : TargetsAreRead
targets_read h l s is t kept whole f = target_same h l s is kept whole t f

-- ---- A Call

read_at_place : (s : State) (ds : List Descriptor) (i : ℕ) (n : Node) → slice_get (read_all s ds) i ≡ Some n → (d : Descriptor) × (slice_get ds i ≡ Some d) × (read s d ≡ n)
read_at_place s [] i n e = let bad : ◌≡◌ {A = Option Node} None (Some n) = e in cc
read_at_place s (d ∷ ds) zero n e = (d, refl, (let k : Some (read s d) ≡ Some n = e in cc))
read_at_place s (d ∷ ds) (suc i) n e = read_at_place s ds i n e

pub calls_heard : CallsAreHeard
calls_heard h l s is c kept whole level f target caps =
    let m = with_imports l is in
    let g : plain_fault s (plain.Call c) ≡ None = subst (λ (k : Level). unless_foreign (is_foreign k (plain.Call c)) (plain_fault s (plain.Call c)) ≡ None) level f in
    let five = held_fault s c.target ∷ [] in
    let four = descriptors_fault s c.descriptors ∷ five in
    let three = if_so (not (nat_eq (caps_in c.payload) (length c.descriptors))) bad_payload ∷ four in
    let two = target_fault s c.target ∷ three in
    let a = rest (if_so (map.contains_key s.answers c.question.0) question_in_use) two g in
    let t = first (target_fault s c.target) three a in
    let b = rest (if_so (not (nat_eq (caps_in c.payload) (length c.descriptors))) bad_payload) four (rest (target_fault s c.target) three a) in
    let ds = first (descriptors_fault s c.descriptors) five b in (
      λ i n e.
          let r = read_at_place s c.descriptors i n e in
          let y = caps i r.0 r.1 in
          (y.0, y.1, subst (Means h s.vat m y.0) r.2 (subst (LeadsTo h y.0) (sym (descriptors_read h l s is c.descriptors kept whole level ds i r.0 r.1)) y.2)),
      subst (LeadsTo h (OfRef (caller c.stamp))) (sym (targets_read h l s is c.target kept whole t)) target,
    )

-- ---- A Resolve

pub resolves_heard : ResolvesAreHeard
resolves_heard h l s is r kept whole level f says = by (map.get s.imports r.promise.0) refl
  where
    free : resolve_fault s r.to ≡ None
    free =
        let g : plain_fault s (plain.Resolve r) ≡ None = subst (λ (k : Level). unless_foreign (is_foreign k (plain.Resolve r)) (plain_fault s (plain.Resolve r)) ≡ None) level f in
        let three = resolve_fault s r.to ∷ [] in
        let two = if_so (is_resolved (map.get s.imports r.promise.0)) resolved_twice ∷ three in
        first (resolve_fault s r.to) [] (rest (if_so (is_resolved (map.get s.imports r.promise.0)) resolved_twice) three (rest (if_so (is_hosted (map.get s.imports r.promise.0)) not_a_promise) two g))

    said : (to : ResolvedTo) (y : Meant) → resolve_fault s to ≡ None → ResolveRead h (wire_label h s.vat l s is) y to → SaidOf h s.vat (with_imports l is) s (Some y) to
    said (resolved.Cap d) y k i = subst (LeadsTo h y) (sym (descriptors_read h l s is (d ∷ []) kept whole level k 0 d refl)) i
    said (resolved.Exception exception) y k i = i

    by : (o : Option Import) → map.get s.imports r.promise.0 ≡ o → ResolveHeard h s.vat (with_imports l is) s r.promise.0 r.to o
    by None e = tt
    by (Some x) e = let z = says x e in subst (λ (y : Option Meant). SaidOf h s.vat (with_imports l is) s y r.to) (sym z.1) (said r.to z.0 free z.2)
