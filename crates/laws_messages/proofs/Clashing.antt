-- What the oldest message says of the receiver's imports fits what is kept of them.
use Rattle.std.proofs.Common.{◌≡◌, ℕ, Bool, true, false, not, cond, ◌&&◌, ◌||◌, nat_eq, List, [], ◌∷◌, ◌++◌, Option, None, Some, is_some, refl, sym, ap, subst, ◌∙◌, append_assoc}
use Rattle.std.specs.List.{list_any}
use Rattle.std.specs.FinMap as map
use Rattle.finite_maps.proofs.Tested.{equal, itself}
use Rattle.rpc_msg.specs.declared.parts.Descriptor.{Descriptor}
use Rattle.rpc_msg.specs.declared.parts.Descriptor.TheVariants as descriptor
use Rattle.rpc_msg.specs.declared.message.PlainMessage.{PlainMessage}
use Rattle.rpc_msg.specs.declared.message.PlainMessage.TheVariants as plain
use Rattle.rpc_msg.specs.Messages.{descriptors_of_plain}
use Rattle.rpc_machine.specs.declared.entries.SenderKind.{SenderKind}
use Rattle.rpc_machine.specs.declared.entries.SenderKind.TheVariants as kind
use Rattle.rpc_machine.specs.declared.entries.Resolution.{Resolution}
use Rattle.rpc_machine.specs.declared.entries.Import.{Import}
use Rattle.rpc_machine.specs.State.{State}
use Rattle.rpc_machine.specs.Faults.{same_kind, differs, kind_clashes, is_hosted, is_resolved}
use Rattle.laws_runs.specs.Exports as export
use Rattle.laws_runs.specs.Exports.{Kind, Out, Seen, seen, seen_by, Learns, LearnsAll}
use Rattle.laws_runs.specs.Views.{only}
use Rattle.laws_messages.specs.Views.{kind_of, said_of, importer_of, gives_in, resolves_in}
use Rattle.laws_messages.specs.Oldest.{IsFirstResolve, NoneClashes}
use Rattle.laws_messages.proofs.Learning.{known_then, nothing_over, learns_first}

-- ---- A Resolve

not_hosted : (k : SenderKind) (b : Seen) → Learns (export.Known (kind_of k)) export.Resolve b → same_kind k kind.Hosted ≡ false
not_hosted kind.Hosted b l = elim l [ ]
not_hosted kind.Promise b l = refl

resolves_right : (o : Option Import) (b : Seen) → Learns (seen (importer_of o)) export.Resolve b → (is_hosted o ≡ false) × (is_resolved o ≡ false)
resolves_right None b l = (refl, refl)
resolves_right (Some x) b l = by x.resolution l
  where
    by : (r : Option Resolution) → Learns (seen_by (kind_of x.kind) (said_of r)) export.Resolve b → (same_kind x.kind kind.Hosted ≡ false) × (is_some r ≡ false)
    by None m = (not_hosted x.kind b m, refl)
    by (Some r) m = nothing_over export.Resolve b m

pub first_resolve : (s : State) (m : PlainMessage) (last : ℕ → Seen) (ys : ℕ → List Out) → ((e : ℕ) → LearnsAll (seen (importer_of (map.get s.imports e))) (resolves_in e m ++ ys e) (last e)) → IsFirstResolve s m
first_resolve s (plain.Abort x) last ys h = tt
first_resolve s (plain.Bootstrap q) last ys h = tt
first_resolve s (plain.Call c) last ys h = tt
first_resolve s (plain.Return r) last ys h = tt
first_resolve s (plain.Finish f) last ys h = tt
first_resolve s (plain.Resolve r) last ys h =
    let i = r.promise.0 in
    let k = subst (λ (b : Bool). LearnsAll (seen (importer_of (map.get s.imports i))) (only b export.Resolve ++ ys i) (last i)) (itself i) (h i) in
    resolves_right (map.get s.imports i) k.0 k.1
first_resolve s (plain.Release r) last ys h = tt
first_resolve s (plain.Disembargo d) last ys h = tt
first_resolve s (plain.Other n) last ys h = tt

-- ---- Descriptors

-- What is known of an import behind the descriptors before: another one of it, of a kind that may still come, does not
-- clash.
abbrev Keeps : ℕ → List Descriptor → Option Import → Seen → Type 0
Keeps e before o c = (k : SenderKind) (b : Seen) → Learns c (export.Give (kind_of k)) b → kind_clashes k e before o ≡ false

same_as : (k j : SenderKind) (b : Seen) → Learns (export.Known (kind_of j)) (export.Give (kind_of k)) b → same_kind k j ≡ true
same_as kind.Hosted kind.Hosted b l = refl
same_as kind.Hosted kind.Promise b l = elim l [ ]
same_as kind.Promise kind.Hosted b l = elim l [ ]
same_as kind.Promise kind.Promise b l = refl

keeps_first : (e : ℕ) (o : Option Import) → Keeps e [] o (seen (importer_of o))
keeps_first e None k b l = refl
keeps_first e (Some x) k b l = by x.resolution l
  where
    by : (r : Option Resolution) → Learns (seen_by (kind_of x.kind) (said_of r)) (export.Give (kind_of k)) b → (not (same_kind k x.kind) || is_some r) ≡ false
    by None m = ap (λ (w : Bool). not w || false) (same_as k x.kind b m)
    by (Some r) m = nothing_over (export.Give (kind_of k)) b m

-- Behind a Resolve.
keeps_resolve : (e : ℕ) (before : List Descriptor) (o : Option Import) (c d : Seen) → Learns c export.Resolve d → Keeps e before o c → Keeps e before o d
keeps_resolve e before o c d export.Late h = h
keeps_resolve e before o c d export.Last h = λ k b l. nothing_over (export.Give (kind_of k)) b l

keeps_resolves : (e : ℕ) (m : PlainMessage) (before : List Descriptor) (o : Option Import) (c d : Seen) → LearnsAll c (resolves_in e m) d → Keeps e before o c → Keeps e before o d
keeps_resolves e m before o c d l h = by m l
  where
    none : c ≡ d → Keeps e before o d
    none f = subst (λ (x : Seen). Keeps e before o x) f h

    one : (w : Bool) → LearnsAll c (only w export.Resolve) d → Keeps e before o d
    one false f = none f
    one true f = subst (λ (x : Seen). Keeps e before o x) f.2 (keeps_resolve e before o c f.0 f.1 h)

    by : (m : PlainMessage) → LearnsAll c (resolves_in e m) d → Keeps e before o d
    by (plain.Abort x) f = none f
    by (plain.Bootstrap q) f = none f
    by (plain.Call y) f = none f
    by (plain.Return r) f = none f
    by (plain.Finish y) f = none f
    by (plain.Resolve r) f = one (nat_eq e r.promise.0) f
    by (plain.Release r) f = none f
    by (plain.Disembargo y) f = none f
    by (plain.Other n) f = none f

-- One more before, which says nothing else of it.
more_before : (k : SenderKind) (e : ℕ) (d : Descriptor) (before : List Descriptor) (o : Option Import) → differs k e d ≡ false → kind_clashes k e before o ≡ false → kind_clashes k e (d ∷ before) o ≡ false
more_before k e d before None f h = ap (λ (w : Bool). w || list_any (differs k e) before) f ∙ h
more_before k e d before (Some x) f h = h

keeps_other : (e : ℕ) (d : Descriptor) (before : List Descriptor) (o : Option Import) (c : Seen) → ((k : SenderKind) → differs k e d ≡ false) → Keeps e before o c → Keeps e (d ∷ before) o c
keeps_other e d before o c f h = λ k b l. more_before k e d before o (f k) (h k b l)

-- One more of its kind: then it is known.
keeps_kind : (j : SenderKind) (e : ℕ) (d : Descriptor) (before : List Descriptor) (o : Option Import) (c b : Seen) → Learns c (export.Give (kind_of j)) b → differs j e d ≡ false → Keeps e before o c → Keeps e (d ∷ before) o b
keeps_kind j e d before o c b l f h =
    λ k g m. by k (subst (λ (x : Seen). Learns x (export.Give (kind_of k)) g) (known_then c (kind_of j) b l) m)
  where
    by : (k : SenderKind) {g : Seen} → Learns (export.Known (kind_of j)) (export.Give (kind_of k)) g → kind_clashes k e (d ∷ before) o ≡ false
    by k {g} m = subst (λ (i : SenderKind). kind_clashes i e (d ∷ before) o ≡ false) (alike k j (same_as k j g m)) (more_before j e d before o f (h j b l))
      where
        alike : (k j : SenderKind) → same_kind k j ≡ true → j ≡ k
        alike kind.Hosted kind.Hosted w = refl
        alike kind.Hosted kind.Promise w = cc
        alike kind.Promise kind.Hosted w = cc
        alike kind.Promise kind.Promise w = refl

-- All of a message.
abbrev AllKeep : State → List Descriptor → (ℕ → Seen) → Type 0
AllKeep s before c = (e : ℕ) → Keeps e before (map.get s.imports e) (c e)

abbrev AllLearn : (ℕ → Seen) → (ℕ → List Out) → (ℕ → Seen) → Type 0
AllLearn c ms last = (e : ℕ) → LearnsAll (c e) (ms e) (last e)

-- A sender descriptor of the import i comes: what is known then.
abbrev then_known : SenderKind → ℕ → (ℕ → Seen) → ℕ → Seen
then_known j i c e = cond (nat_eq e i) (export.Known (kind_of j)) (c e)

module _ (s : State) where
  head : (j : SenderKind) (i : ℕ) (before : List Descriptor) (c : ℕ → Seen) (ys : ℕ → List Out) (last : ℕ → Seen) → AllKeep s before c → AllLearn c (λ e. only (nat_eq e i) (export.Give (kind_of j)) ++ ys e) last → kind_clashes j i before (map.get s.imports i) ≡ false
  head j i before c ys last h l = let k = subst (λ (b : Bool). LearnsAll (c i) (only b (export.Give (kind_of j)) ++ ys i) (last i)) (itself i) (l i) in h i j k.0 k.1

  tail_learns : (j : SenderKind) (i : ℕ) (c : ℕ → Seen) (ys : ℕ → List Out) (last : ℕ → Seen) → AllLearn c (λ e. only (nat_eq e i) (export.Give (kind_of j)) ++ ys e) last → AllLearn (then_known j i c) ys last
  tail_learns j i c ys last l e = by (nat_eq e i) (l e)
    where
      by : (b : Bool) → LearnsAll (c e) (only b (export.Give (kind_of j)) ++ ys e) (last e) → LearnsAll (cond b (export.Known (kind_of j)) (c e)) (ys e) (last e)
      by false k = k
      by true k = subst (λ (x : Seen). LearnsAll x (ys e) (last e)) (known_then (c e) (kind_of j) k.0 k.1) k.2

  tail_keeps : (j : SenderKind) (i : ℕ) (d : Descriptor) (before : List Descriptor) (c : ℕ → Seen) (ys : ℕ → List Out) (last : ℕ → Seen) → (differs j i d ≡ false) → ((e : ℕ) (k : SenderKind) → nat_eq e i ≡ false → differs k e d ≡ false) → AllKeep s before c → AllLearn c (λ e. only (nat_eq e i) (export.Give (kind_of j)) ++ ys e) last → AllKeep s (d ∷ before) (then_known j i c)
  tail_keeps j i d before c ys last f g h l e = by (nat_eq e i) refl (l e)
    where
      by : (b : Bool) → nat_eq e i ≡ b → LearnsAll (c e) (only b (export.Give (kind_of j)) ++ ys e) (last e) → Keeps e (d ∷ before) (map.get s.imports e) (cond b (export.Known (kind_of j)) (c e))
      by false w k = keeps_other e d before (map.get s.imports e) (c e) (λ q. g e q w) (h e)
      by true w k =
          let here : differs j e d ≡ false = subst (λ (n : ℕ). differs j n d ≡ false) (sym (equal e i w)) f in
          subst (λ (x : Seen). Keeps e (d ∷ before) (map.get s.imports e) x) (known_then (c e) (kind_of j) k.0 k.1) (keeps_kind j e d before (map.get s.imports e) (c e) k.0 k.1 here (h e))

  apart_false : (e i : ℕ) (b : Bool) → nat_eq e i ≡ false → (nat_eq e i && b) ≡ false
  apart_false e i b w = ap (λ (x : Bool). x && b) w

  same_false : (w : Bool) → (w && false) ≡ false
  same_false true = refl
  same_false false = refl

  none_clash : (ds before : List Descriptor) (c : ℕ → Seen) (ys : ℕ → List Out) (last : ℕ → Seen) → AllKeep s before c → AllLearn c (λ e. gives_in e ds ++ ys e) last → NoneClashes s before ds
  none_clash [] before c ys last h l = tt
  none_clash (descriptor.None ∷ ds) before c ys last h l = none_clash ds (descriptor.None ∷ before) c ys last (λ e. keeps_other e descriptor.None before (map.get s.imports e) (c e) (λ k. refl) (h e)) l
  none_clash (descriptor.SenderHosted i ∷ ds) before c ys last h l =
      let zs : ℕ → List Out = λ e. gives_in e ds ++ ys e in
      let m : AllLearn c (λ e. only (nat_eq e i.0) (export.Give export.Hosted) ++ zs e) last = λ e. subst (λ (xs : List Out). LearnsAll (c e) xs (last e)) (append_assoc (only (nat_eq e i.0) (export.Give export.Hosted)) (gives_in e ds) (ys e)) (l e) in
      (head kind.Hosted i.0 before c zs last h m, none_clash ds (descriptor.SenderHosted i ∷ before) (then_known kind.Hosted i.0 c) ys last (tail_keeps kind.Hosted i.0 (descriptor.SenderHosted i) before c zs last (same_false (nat_eq i.0 i.0)) (λ e k w. apart_false e i.0 (not (same_kind k kind.Hosted)) w) h m) (tail_learns kind.Hosted i.0 c zs last m))
  none_clash (descriptor.SenderPromise i ∷ ds) before c ys last h l =
      let zs : ℕ → List Out = λ e. gives_in e ds ++ ys e in
      let m : AllLearn c (λ e. only (nat_eq e i.0) (export.Give export.Promised) ++ zs e) last = λ e. subst (λ (xs : List Out). LearnsAll (c e) xs (last e)) (append_assoc (only (nat_eq e i.0) (export.Give export.Promised)) (gives_in e ds) (ys e)) (l e) in
      (head kind.Promise i.0 before c zs last h m, none_clash ds (descriptor.SenderPromise i ∷ before) (then_known kind.Promise i.0 c) ys last (tail_keeps kind.Promise i.0 (descriptor.SenderPromise i) before c zs last (same_false (nat_eq i.0 i.0)) (λ e k w. apart_false e i.0 (not (same_kind k kind.Promise)) w) h m) (tail_learns kind.Promise i.0 c zs last m))
  none_clash (descriptor.ReceiverHosted i ∷ ds) before c ys last h l = none_clash ds (descriptor.ReceiverHosted i ∷ before) c ys last (λ e. keeps_other e (descriptor.ReceiverHosted i) before (map.get s.imports e) (c e) (λ k. refl) (h e)) l
  none_clash (descriptor.ReceiverAnswer q path ∷ ds) before c ys last h l = none_clash ds (descriptor.ReceiverAnswer q path ∷ before) c ys last (λ e. keeps_other e (descriptor.ReceiverAnswer q path) before (map.get s.imports e) (c e) (λ k. refl) (h e)) l

  -- Behind the Resolve, if it is one.
  pub no_clash : (m : PlainMessage) (last : ℕ → Seen) (ys : ℕ → List Out) → ((e : ℕ) → LearnsAll (seen (importer_of (map.get s.imports e))) (resolves_in e m ++ (gives_in e (descriptors_of_plain m) ++ ys e)) (last e)) → NoneClashes s [] (descriptors_of_plain m)
  no_clash m last ys h =
      let mid : (e : ℕ) → (b : Seen) × LearnsAll (seen (importer_of (map.get s.imports e))) (resolves_in e m) b × LearnsAll b (gives_in e (descriptors_of_plain m) ++ ys e) (last e) =
      λ e. learns_first (seen (importer_of (map.get s.imports e))) (resolves_in e m) (gives_in e (descriptors_of_plain m) ++ ys e) (last e) (h e) in
      none_clash (descriptors_of_plain m) [] (λ e. (mid e).0) ys last (λ e. keeps_resolves e m [] (map.get s.imports e) (seen (importer_of (map.get s.imports e))) (mid e).0 (mid e).1 (keeps_first e (map.get s.imports e))) (λ e. (mid e).2)
