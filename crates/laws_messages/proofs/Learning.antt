-- What an importer knows of an export once it took a message.
use Rattle.std.proofs.Common.{◌≡◌, ℕ, Bool, true, false, cond, nat_eq, IsSome, List, [], ◌∷◌, ◌++◌, Option, None, Some, refl, sym, ap, subst, ◌∙◌, append_assoc}
use Rattle.std.specs.FinMap as map
use Rattle.finite_maps.specs.Tally.{Map}
use Rattle.finite_maps.proofs.Tested.{equal, get_put}
use Rattle.rpc_msg.specs.declared.parts.Descriptor.{Descriptor}
use Rattle.rpc_msg.specs.declared.parts.Descriptor.TheVariants as descriptor
use Rattle.rpc_msg.specs.declared.message.ResolvedTo.{ResolvedTo}
use Rattle.rpc_msg.specs.declared.message.ResolvedTo.TheVariants as resolved
use Rattle.rpc_msg.specs.declared.message.PlainMessage.{PlainMessage}
use Rattle.rpc_msg.specs.declared.message.PlainMessage.TheVariants as plain
use Rattle.rpc_msg.specs.Messages.{descriptors_of_plain, descriptors_of_body, descriptors_of_resolved}
use Rattle.rpc_machine.specs.declared.command.Level.{Level}
use Rattle.rpc_machine.specs.declared.command.Level.TheVariants.{One}
use Rattle.rpc_machine.specs.declared.entries.SenderKind.{SenderKind}
use Rattle.rpc_machine.specs.declared.entries.SenderKind.TheVariants as kind
use Rattle.rpc_machine.specs.declared.entries.Resolution.{Resolution}
use Rattle.rpc_machine.specs.declared.entries.Import.{Import}
use Rattle.rpc_machine.specs.State.{State}
use Rattle.rpc_machine.specs.Lists.{update, updated}
use Rattle.rpc_machine.specs.Descriptors.{received, import_one, take_each, take_at, take_all}
use Rattle.rpc_machine.specs.Messages.{set_resolution, resolve_import, take_resolve}
use Rattle.rpc_machine.specs.Faults.{gave}
use Rattle.rpc_machine.specs.Progress.{Progress, numbers}
use Rattle.laws_acts.specs.Acts.{Consumes}
use Rattle.laws_runs.specs.Exports as export
use Rattle.laws_runs.specs.Exports.{Kind, Said, Exporter, Out, Seen, seen, seen_by, Learns, LearnsAll, Fits}
use Rattle.laws_runs.specs.Views.{only}
use Rattle.laws_runs.proofs.ExportsHold.{forgets, fits_less}
use Rattle.laws_messages.specs.Views.{kind_of, said_of, importer_of, gives_in, resolves_in}
use Rattle.laws_messages.specs.Imports.{KeepsImport}
use Rattle.laws_messages.proofs.OneKind.{obeyed, comes, turned}

-- ---- One thing learned

pub same_kind_again : (k j : Kind) (b : Seen) → Learns (export.Known k) (export.Give j) b → k ≡ j
same_kind_again k j b (export.Again i) = refl

pub known_then : (a : Seen) (k : Kind) (b : Seen) → Learns a (export.Give k) b → b ≡ export.Known k
known_then a k b (export.First j) = refl
known_then a k b (export.Again j) = refl

pub nothing_over : {A : Type 0} (m : Out) (b : Seen) → Learns export.Over m b → A
nothing_over m b l = elim l [ ]

over_alone : (xs ms : List Out) (b : Seen) → LearnsAll export.Over (xs ++ ms) b → LearnsAll export.Over ms b
over_alone [] ms b h = h
over_alone (x ∷ xs) ms b h = nothing_over x h.0 h.1

late_only : (b : Seen) → Learns export.Unknown export.Resolve b → b ≡ export.Unknown
late_only b export.Late = refl

last_over : (k : Kind) (s : Said) (b : Seen) → Learns (seen_by k s) export.Resolve b → b ≡ export.Over
last_over k export.Nothing b l = by k b l
  where
    by : (k : Kind) (b : Seen) → Learns (export.Known k) export.Resolve b → b ≡ export.Over
    by k b export.Last = refl
last_over k export.Resolved b l = nothing_over export.Resolve b l

pub learns_then : (a : Seen) (xs : List Out) (b : Seen) (ys : List Out) (c : Seen) → LearnsAll a xs b → LearnsAll b ys c → LearnsAll a (xs ++ ys) c
learns_then a [] b ys c h k = subst (λ (x : Seen). LearnsAll x ys c) (sym h) k
learns_then a (x ∷ xs) b ys c h k = (h.0, h.1, learns_then h.0 xs b ys c h.2 k)

pub learns_first : (a : Seen) (xs ys : List Out) (c : Seen) → LearnsAll a (xs ++ ys) c → (b : Seen) × LearnsAll a xs b × LearnsAll b ys c
learns_first a [] ys c h = (a, refl, h)
learns_first a (x ∷ xs) ys c h = let k = learns_first h.0 xs ys c h.2 in (k.0, (h.0, h.1, k.1), k.2)

-- ---- Descriptors

received_seen : (k : SenderKind) (o : Option Import) (b : Seen) → Learns (seen (importer_of o)) (export.Give (kind_of k)) b → seen (importer_of (Some (received k o))) ≡ b
received_seen k None b h = sym (known_then export.Unknown (kind_of k) b h)
received_seen k (Some x) b h = by x.resolution h
  where
    by : (r : Option Resolution) → Learns (seen_by (kind_of x.kind) (said_of r)) (export.Give (kind_of k)) b → seen_by (kind_of x.kind) (said_of r) ≡ b
    by None l = ap (λ (j : Kind). export.Known j) (same_kind_again (kind_of x.kind) (kind_of k) b l) ∙ sym (known_then (export.Known (kind_of x.kind)) (kind_of k) b l)
    by (Some r) l = nothing_over (export.Give (kind_of k)) b l

module _ (e : ℕ) where
  abbrev pub sees : State → Seen
  sees s = seen (importer_of (map.get s.imports e))

  takes_one : (s : State) (i : ℕ) (k : SenderKind) (ms : List Out) (b : Seen) → LearnsAll (sees s) (only (nat_eq e i) (export.Give (kind_of k)) ++ ms) b → LearnsAll (sees (import_one s k i)) ms b
  takes_one s i k ms b h = subst (λ (o : Option Import). LearnsAll (seen (importer_of o)) ms b) (sym (get_put s.imports i (received k (map.get s.imports i)) e)) (by (nat_eq e i) refl h)
    where
      by : (w : Bool) → nat_eq e i ≡ w → LearnsAll (sees s) (only w (export.Give (kind_of k)) ++ ms) b → LearnsAll (seen (importer_of (cond w (Some (received k (map.get s.imports i))) (map.get s.imports e)))) ms b
      by false c g = g
      by true c g =
          let here : map.get s.imports e ≡ map.get s.imports i = ap (map.get s.imports) (equal e i c) in
          let l = subst (λ (o : Option Import). Learns (seen (importer_of o)) (export.Give (kind_of k)) g.0) here g.1 in
          subst (λ (x : Seen). LearnsAll x ms b) (sym (received_seen k (map.get s.imports i) g.0 l)) g.2

  takes_each : (s : State) (ds : List Descriptor) (ms : List Out) (b : Seen) → LearnsAll (sees s) (gives_in e ds ++ ms) b → LearnsAll (sees (take_each s ds)) ms b
  takes_each s [] ms b h = h
  takes_each s (descriptor.None ∷ ds) ms b h = takes_each s ds ms b h
  takes_each s (descriptor.SenderHosted i ∷ ds) ms b h = takes_each (import_one s kind.Hosted i.0) ds ms b (takes_one s i.0 kind.Hosted (gives_in e ds ++ ms) b (subst (λ (xs : List Out). LearnsAll (sees s) xs b) (append_assoc (only (nat_eq e i.0) (export.Give export.Hosted)) (gives_in e ds) ms) h))
  takes_each s (descriptor.SenderPromise i ∷ ds) ms b h = takes_each (import_one s kind.Promise i.0) ds ms b (takes_one s i.0 kind.Promise (gives_in e ds ++ ms) b (subst (λ (xs : List Out). LearnsAll (sees s) xs b) (append_assoc (only (nat_eq e i.0) (export.Give export.Promised)) (gives_in e ds) ms) h))
  takes_each s (descriptor.ReceiverHosted i ∷ ds) ms b h = takes_each s ds ms b h
  takes_each s (descriptor.ReceiverAnswer q path ∷ ds) ms b h = takes_each s ds ms b h

  takes_all : (s : State) → s.level ≡ One → (ds : List Descriptor) (ms : List Out) (b : Seen) → LearnsAll (sees s) (gives_in e ds ++ ms) b → LearnsAll (sees (take_all s ds)) ms b
  takes_all s l ds ms b h = subst (λ (k : Level). LearnsAll (sees (take_at k s ds)) ms b) (sym l) (takes_each s ds ms b h)

  -- An import that is there stays.
  one_there : (s : State) (i : ℕ) (k : SenderKind) → IsSome (map.get s.imports e) → IsSome (map.get (import_one s k i).imports e)
  one_there s i k h = subst (λ (o : Option Import). IsSome o) (sym (get_put s.imports i (received k (map.get s.imports i)) e)) (by (nat_eq e i))
    where
      by : (w : Bool) → IsSome (cond w (Some (received k (map.get s.imports i))) (map.get s.imports e))
      by false = h
      by true = refl

  each_there : (s : State) (ds : List Descriptor) → IsSome (map.get s.imports e) → IsSome (map.get (take_each s ds).imports e)
  each_there s [] h = h
  each_there s (descriptor.None ∷ ds) h = each_there s ds h
  each_there s (descriptor.SenderHosted i ∷ ds) h = each_there (import_one s kind.Hosted i.0) ds (one_there s i.0 kind.Hosted h)
  each_there s (descriptor.SenderPromise i ∷ ds) h = each_there (import_one s kind.Promise i.0) ds (one_there s i.0 kind.Promise h)
  each_there s (descriptor.ReceiverHosted i ∷ ds) h = each_there s ds h
  each_there s (descriptor.ReceiverAnswer q path ∷ ds) h = each_there s ds h

  all_there : (s : State) → s.level ≡ One → (ds : List Descriptor) → IsSome (map.get s.imports e) → IsSome (map.get (take_all s ds).imports e)
  all_there s l ds h = subst (λ (k : Level). IsSome (map.get (take_at k s ds).imports e)) (sym l) (each_there s ds h)

  -- ---- Resolves

  -- That of another import; that of this one, which is there.
  other_resolved : (m : Map Import) (i : ℕ) (r : Resolution) → nat_eq e i ≡ false → map.get (update m i (set_resolution r)) e ≡ map.get m e
  other_resolved m i r c = by (map.get m i)
    where
      by : (o : Option Import) → map.get (updated m i (set_resolution r) o) e ≡ map.get m e
      by None = refl
      by (Some x) = get_put m i (set_resolution r x) e ∙ ap (λ w. cond w (Some (set_resolution r x)) (map.get m e)) c

  now_resolved : (m : Map Import) (i : ℕ) (r : Resolution) → nat_eq e i ≡ true → IsSome (map.get m e) → seen (importer_of (map.get (update m i (set_resolution r)) e)) ≡ export.Over
  now_resolved m i r c h = by (map.get m i) (subst (λ (o : Option Import). IsSome o) (ap (map.get m) (equal e i c)) h)
    where
      by : (o : Option Import) → IsSome o → seen (importer_of (map.get (updated m i (set_resolution r) o) e)) ≡ export.Over
      by None g = absurd (let bad : false ≡ true = g in cc)
      by (Some x) g = ap (λ (o : Option Import). seen (importer_of o)) (get_put m i (set_resolution r x) e ∙ ap (λ w. cond w (Some (set_resolution r x)) (map.get m e)) c)

  -- The descriptors in it have come to u; the import of it was looked up before.
  resolves_one : (s u : State) (i : ℕ) (r : Resolution) (xs ms : List Out) (b : Seen) → (IsSome (map.get s.imports e) → IsSome (map.get u.imports e)) → (LearnsAll (sees s) (xs ++ ms) b → LearnsAll (sees u) ms b) → LearnsAll (sees s) (only (nat_eq e i) export.Resolve ++ (xs ++ ms)) b → LearnsAll (sees (resolve_import u i r (map.get s.imports i))) ms b
  resolves_one s u i r xs ms b there come h = by (nat_eq e i) refl (map.get s.imports i) refl h
    where
      by : (w : Bool) → nat_eq e i ≡ w → (o : Option Import) → map.get s.imports i ≡ o → LearnsAll (sees s) (only w export.Resolve ++ (xs ++ ms)) b → LearnsAll (sees (resolve_import u i r o)) ms b
      by false c None f g = come g
      by false c (Some x) f g = subst (λ (o : Option Import). LearnsAll (seen (importer_of o)) ms b) (sym (other_resolved u.imports i r c)) (come g)
      by true c None f g =
          let here : map.get s.imports e ≡ None = ap (map.get s.imports) (equal e i c) ∙ f in
          let unknown : sees s ≡ export.Unknown = ap (λ (o : Option Import). seen (importer_of o)) here in
          let mid = late_only g.0 (subst (λ (a : Seen). Learns a export.Resolve g.0) unknown g.1) in
          come (subst (λ (a : Seen). LearnsAll a (xs ++ ms) b) (mid ∙ sym unknown) g.2)
      by true c (Some x) f g =
          let here : map.get s.imports e ≡ Some x = ap (map.get s.imports) (equal e i c) ∙ f in
          let mid = last_over (kind_of x.kind) (said_of x.resolution) g.0 (subst (λ (o : Option Import). Learns (seen (importer_of o)) export.Resolve g.0) here g.1) in
          let over = over_alone xs ms b (subst (λ (a : Seen). LearnsAll a (xs ++ ms) b) mid g.2) in
          subst (λ (a : Seen). LearnsAll a ms b) (sym (now_resolved u.imports i r c (there (subst (λ (o : Option Import). IsSome o) (sym here) refl)))) over

  takes_resolve : (s : State) → s.level ≡ One → (i : ℕ) (to : ResolvedTo) (ms : List Out) (b : Seen) → LearnsAll (sees s) (only (nat_eq e i) export.Resolve ++ (gives_in e (descriptors_of_resolved to) ++ ms)) b → LearnsAll (sees (take_resolve s i to)) ms b
  takes_resolve s l i (resolved.Exception x) ms b h = resolves_one s s i _ [] ms b (λ g. g) (λ g. g) h
  takes_resolve s l i (resolved.Cap d) ms b h = resolves_one s (take_all s (d ∷ [])) i _ (gives_in e (d ∷ [])) ms b (all_there s l (d ∷ [])) (takes_all s l (d ∷ []) ms b) h

  -- ---- Messages

  still : (s t : State) (ms : List Out) (b : Seen) → t.imports ≡ s.imports → LearnsAll (sees s) ms b → LearnsAll (sees t) ms b
  still s t ms b f h = subst (λ (m : Map Import). LearnsAll (seen (importer_of (map.get m e))) ms b) (sym f) h

  -- What a message does at once.
  pub taken : (d first : Progress) (m : PlainMessage) (ms : List Out) (b : Seen) → d.state.level ≡ One → Consumes m d first → LearnsAll (sees d.state) (resolves_in e m ++ (gives_in e (descriptors_of_plain m) ++ ms)) b → LearnsAll (sees first.state) ms b
  taken d first (plain.Abort x) ms b l h k = absurd h
  taken d first (plain.Bootstrap q) ms b l h k = still d.state first.state ms b (rw h.3 refl) k
  taken d first (plain.Call c) ms b l h k = still (take_all d.state c.descriptors) first.state ms b (rw h.3 refl) (takes_all d.state l c.descriptors ms b k)
  taken d first (plain.Return r) ms b l h k =
      let x = h.0 in
      let u = take_all d.state (descriptors_of_body r.body) in
      still u first.state ms b (comes d first r x x.finish h.3 ∙ obeyed u r.release_param_caps (numbers x.given)) (takes_all d.state l (descriptors_of_body r.body) ms b k)
  taken d first (plain.Finish f) ms b l h k = let y = h.0 in still d.state first.state ms b (ap (λ (p : Progress). p.state.imports) h.3 ∙ obeyed d.state f.release_result_caps (gave y.returned)) k
  taken d first (plain.Resolve r) ms b l h k = still (take_resolve d.state r.promise.0 r.to) first.state ms b (ap (λ (p : Progress). p.state.imports) h) (takes_resolve d.state l r.promise.0 r.to ms b k)
  taken d first (plain.Release r) ms b l h k = still d.state first.state ms b (ap (λ (p : Progress). p.state.imports) h) k
  taken d first (plain.Disembargo x) ms b l h k = still d.state first.state ms b (turned d first x.context h) k
  taken d first (plain.Other n) ms b l h k = still d.state first.state ms b (ap (λ (p : Progress). p.state.imports) h) k

-- ---- By itself

-- An import that stays knows what it knew; one that goes, nothing.
pub kept_seen : (y z : Option Import) (ms : List Out) (last : Seen) (x : Exporter) → KeepsImport y z → LearnsAll (seen (importer_of y)) ms last → Fits last x → (l : Seen) × LearnsAll (seen (importer_of z)) ms l × Fits l x
kept_seen y None ms last x k h f = let g = forgets (seen (importer_of y)) ms last h in (g.0, g.1, fits_less g.0 last x f g.2)
kept_seen None (Some z) ms last x k h f = absurd k
kept_seen (Some y) (Some z) ms last x k h f =
    let same : seen (importer_of (Some y)) ≡ seen (importer_of (Some z)) = ap (λ (j : SenderKind). seen_by (kind_of j) (said_of y.resolution)) (sym k.0) ∙ ap (λ (r : Option Resolution). seen_by (kind_of z.kind) (said_of r)) (sym k.1) in
    (last, subst (λ (a : Seen). LearnsAll a ms last) same h, f)
