-- Between two vats an export is of one kind: it keeps its node, and where it is gone nothing of it is on the way or held.
use Rattle.std.proofs.Common.{◌≡◌, ℕ, suc, ◌+◌, nat_eq, Bool, true, false, cond, List, [], ◌∷◌, ◌++◌, Option, None, Some, refl, sym, ap, subst, ◌∙◌, append_assoc, append-nil, arith}
use Rattle.std.specs.FinMap as map
use Rattle.std.specs.Ordering.{nat_cmp}
use Rattle.finite_maps.specs.Tally.{Map}
use Rattle.finite_maps.proofs.Tested.{equal, get_put}
use Rattle.rpc_msg.specs.declared.ids.Vat.{Vat}
use Rattle.rpc_msg.specs.declared.ids.Vat.TheVariants.{A, B}
use Rattle.rpc_msg.specs.declared.ids.ObjectId.{ObjectId}
use Rattle.rpc_msg.specs.declared.parts.Descriptor.{Descriptor}
use Rattle.rpc_msg.specs.declared.parts.Descriptor.TheVariants as descriptor
use Rattle.rpc_msg.specs.declared.message.Return.{Return}
use Rattle.rpc_msg.specs.declared.message.ResolvedTo.{ResolvedTo}
use Rattle.rpc_msg.specs.declared.message.ResolvedTo.TheVariants as resolved
use Rattle.rpc_msg.specs.declared.message.DisembargoContext.{DisembargoContext}
use Rattle.rpc_msg.specs.declared.message.DisembargoContext.TheVariants.{SenderLoopback, ReceiverLoopback}
use Rattle.rpc_msg.specs.declared.message.PlainMessage.{PlainMessage}
use Rattle.rpc_msg.specs.declared.message.PlainMessage.TheVariants as plain
use Rattle.rpc_msg.specs.declared.message.Message.{Message}
use Rattle.rpc_msg.specs.declared.message.Message.TheVariants as message
use Rattle.rpc_msg.specs.Messages.{given, descriptors_of_plain, descriptors_of_body, descriptors_of_resolved}
use Rattle.rpc_machine.specs.declared.node.Node.{Node}
use Rattle.rpc_machine.specs.declared.command.Command.{Command}
use Rattle.rpc_machine.specs.declared.command.Granted.{Granted}
use Rattle.rpc_machine.specs.declared.command.Effects.{Effects}
use Rattle.rpc_machine.specs.declared.command.Level.{Level}
use Rattle.rpc_machine.specs.declared.command.Level.TheVariants.{Zero, One}
use Rattle.rpc_machine.specs.declared.entries.SenderKind.{SenderKind}
use Rattle.rpc_machine.specs.declared.entries.SenderKind.TheVariants as kind
use Rattle.rpc_machine.specs.declared.entries.Resolution.{Resolution}
use Rattle.rpc_machine.specs.declared.entries.Finishing.{Finishing}
use Rattle.rpc_machine.specs.declared.entries.Finishing.TheVariants as finishing
use Rattle.rpc_machine.specs.declared.entries.Question.{Question}
use Rattle.rpc_machine.specs.declared.entries.Import.{Import}
use Rattle.rpc_machine.specs.declared.entries.Export.{Export}
use Rattle.rpc_machine.specs.State.{State, start}
use Rattle.rpc_machine.specs.Lists.{how_many, update, updated}
use Rattle.rpc_machine.specs.Limits.{import_count, export_count}
use Rattle.rpc_machine.specs.Laws.{given_out, SendsRaiseCounts}
use Rattle.rpc_machine.specs.Descriptors.{giving, received, import_one, take_each, take_at, take_all}
use Rattle.rpc_machine.specs.Flags.{obey}
use Rattle.rpc_machine.specs.Refusals.{refused}
use Rattle.rpc_machine.specs.Faults.{gave, is_foreign, fault_of}
use Rattle.rpc_machine.specs.Messages.{set_resolution, resolve_import, take_resolve}
use Rattle.rpc_machine.specs.Progress.{Progress, begin, numbers}
use Rattle.rpc_machine.specs.Steps.{Does, Handles}
use Rattle.rpc_machine.specs.World.{World, new_world}
use Rattle.laws_acts.specs.Acts.{came, ComesTo, TurnsBy, Consumes}
use Rattle.laws_acts.specs.Sent.{Noted, messages, all_sent, sent_at_once}
use Rattle.laws_acts.proofs.Alone.{obey_alone}
use Rattle.laws_runs.specs.Exports as export
use Rattle.laws_runs.specs.Exports.{Kind, Out, Leaves, gives}
use Rattle.laws_runs.specs.Views.{only}
use Rattle.laws_runs.specs.Between.{Steady, HoldsIn, StillHolds, IsKept}
use Rattle.laws_runs.proofs.ExportsHold.{gives-append, leaves_none}
use Rattle.laws_runs.proofs.Kept.{in_steady_worlds}
use Rattle.laws_runs.specs.Imports.{count}
use Rattle.laws_runs.specs.Entries.{ImportCounts, AreCounted}
use Rattle.laws_runs.proofs.Flags.{reads, takes_first}
use Rattle.laws_messages.specs.Views.{kind_of, gives_in, resolves_in, outs_for, backs_for}
use Rattle.laws_messages.specs.Kinds.{kind_given, IsOf, one_more, Grows, Stays}
use Rattle.laws_messages.specs.Imports.{KeepsImport}
use Rattle.laws_messages.specs.OfAKind.{AllOf, ImportOf, FitsExport, AreOfKind, BothOfKind}
use Rattle.laws_messages.proofs.Grown as grown
use Rattle.laws_messages.proofs.Grown.{outs-append}
use Rattle.laws_messages.proofs.Keeping as keeping
use Rattle.laws_messages.proofs.NamingSteps.{does_whole, handles_whole}
use Rattle.laws_messages.proofs.Finding as finding
use Rattle.laws_messages.proofs.Finding.{Found, turned_about, rest_stands, by_command, by_message}

-- ---- Lists

all_then : (k : Option Kind) (xs ys : List Out) → AllOf k xs → AllOf k ys → AllOf k (xs ++ ys)
all_then k [] ys h g = g
all_then k (export.Give j ∷ xs) ys h g = (h.0, all_then k xs ys h.1 g)
all_then k (export.Resolve ∷ xs) ys h g = all_then k xs ys h g

all_left : (k : Option Kind) (xs ys : List Out) → AllOf k (xs ++ ys) → AllOf k xs
all_left k [] ys h = tt
all_left k (export.Give j ∷ xs) ys h = (h.0, all_left k xs ys h.1)
all_left k (export.Resolve ∷ xs) ys h = all_left k xs ys h

all_right : (k : Option Kind) (xs ys : List Out) → AllOf k (xs ++ ys) → AllOf k ys
all_right k [] ys h = h
all_right k (export.Give j ∷ xs) ys h = all_right k xs ys h.1
all_right k (export.Resolve ∷ xs) ys h = all_right k xs ys h

none_given : (k : Option Kind) (ms : List Out) → gives ms ≡ 0 → AllOf k ms
none_given k [] h = tt
none_given k (export.Give j ∷ ms) h = absurd (omega (arith, h))
none_given k (export.Resolve ∷ ms) h = none_given k ms h

one_id : (b : Bool) (k : Kind) (ms : List Out) (n : ℕ) → gives ms ≡ n → gives (only b (export.Give k) ++ ms) ≡ cond b (suc n) n
one_id true k ms n h = omega (arith, h)
one_id false k ms n h = h

given_ids : (e : ℕ) (ds : List Descriptor) → gives (gives_in e ds) ≡ how_many (nat_eq e) (given ds)
given_ids e [] = refl
given_ids e (descriptor.None ∷ ds) = given_ids e ds
given_ids e (descriptor.SenderHosted i ∷ ds) = one_id (nat_eq e i.0) export.Hosted (gives_in e ds) (how_many (nat_eq e) (given ds)) (given_ids e ds)
given_ids e (descriptor.SenderPromise i ∷ ds) = one_id (nat_eq e i.0) export.Promised (gives_in e ds) (how_many (nat_eq e) (given ds)) (given_ids e ds)
given_ids e (descriptor.ReceiverHosted i ∷ ds) = given_ids e ds
given_ids e (descriptor.ReceiverAnswer q path ∷ ds) = given_ids e ds

no_gives : (e : ℕ) (m : PlainMessage) → gives (resolves_in e m) ≡ 0
no_gives e (plain.Abort x) = refl
no_gives e (plain.Bootstrap q) = refl
no_gives e (plain.Call c) = refl
no_gives e (plain.Return r) = refl
no_gives e (plain.Finish f) = refl
no_gives e (plain.Resolve r) = by (nat_eq e r.promise.0)
  where
    by : (b : Bool) → gives (only b export.Resolve) ≡ 0
    by true = refl
    by false = refl
no_gives e (plain.Release r) = refl
no_gives e (plain.Disembargo d) = refl
no_gives e (plain.Other n) = refl

pub gives_of : (e : ℕ) (ns : List Noted) → gives (outs_for e ns) ≡ giving e (messages ns)
gives_of e [] = refl
gives_of e (n ∷ ns) =
    let a = resolves_in e n.message in
    let b = gives_in e (descriptors_of_plain n.message) in
    let f = gives-append a (b ++ outs_for e ns) in
    let g = gives-append b (outs_for e ns) in
    let h = no_gives e n.message in
    let i = given_ids e (descriptors_of_plain n.message) in
    let r = gives_of e ns in
    omega (arith, f, g, h, i, r)

more_count : (n : Node) (o : Option Export) → export_count (Some (one_more n o)) ≡ export_count o + 1
more_count n None = refl
more_count n (Some x) = refl

grown_count : (o last : Option Export) (ms : List Out) → Grows o ms last → export_count last ≡ export_count o + gives ms
grown_count o last [] h = let e : export_count o ≡ export_count last = ap export_count h in omega (arith, e)
grown_count o last (export.Give j ∷ ms) h = let r = grown_count (Some (one_more h.0 o)) last ms h.3 in let c = more_count h.0 o in omega (arith, r, c)
grown_count o last (export.Resolve ∷ ms) h = grown_count o last ms h

-- ---- The exporter gives

-- Where the export is not there, nothing of it is on the way or held.
abbrev pub IsFree : Option Export → List Out → Option Import → Type 0
IsFree o old y = o ≡ None → (gives old ≡ 0) × (y ≡ None)

one_fits : (n : Node) (j : Kind) (o : Option Export) (old : List Out) (y : Option Import) → kind_given n ≡ Some j → IsOf n o → FitsExport o old y → IsFree o old y → FitsExport (Some (one_more n o)) (old ++ export.Give j ∷ []) y
one_fits n j None old y k i h f =
    let g = f refl in
    (all_then (kind_given n) old (export.Give j ∷ []) (none_given (kind_given n) old g.0) (k, tt), subst (λ (z : Option Import). ImportOf (kind_given n) z) (sym g.1) tt)
one_fits n j (Some x) old y k i h f =
    let of_old = subst (λ (m : Node). AllOf (kind_given m) old) i h.0 in
    (all_then (kind_given n) old (export.Give j ∷ []) of_old (k, tt), subst (λ (m : Node). ImportOf (kind_given m) y) i h.1)

fits_more : (o last : Option Export) (old ms : List Out) (y : Option Import) → FitsExport o old y → IsFree o old y → Grows o ms last → FitsExport last (old ++ ms) y
fits_more o last old [] y h f g = subst (λ (l : List Out). FitsExport last l y) (sym (append-nil old)) (subst (λ (x : Option Export). FitsExport x old y) g h)
fits_more o last old (export.Give j ∷ ms) y h f g =
    subst (λ (l : List Out). FitsExport last l y) (append_assoc old (export.Give j ∷ []) ms)
    (fits_more (Some (one_more g.0 o)) last (old ++ export.Give j ∷ []) ms y (one_fits g.0 j o old y g.1 g.2 h f) (λ e. absurd (let bad : Some (one_more g.0 o) ≡ None = e in cc)) g.3)
fits_more o last old (export.Resolve ∷ ms) y h f g =
    subst (λ (l : List Out). FitsExport last l y) (append_assoc old (export.Resolve ∷ []) ms)
    (fits_more o last (old ++ export.Resolve ∷ []) ms y (told o h) free g)
  where
    told : (o : Option Export) → FitsExport o old y → FitsExport o (old ++ export.Resolve ∷ []) y
    told None h = tt
    told (Some x) h = (all_then (kind_given x.node) old (export.Resolve ∷ []) h.0 tt, h.1)

    free : IsFree o (old ++ export.Resolve ∷ []) y
    free e = let k = f e in let a = gives-append old (export.Resolve ∷ []) in let b = k.0 in (omega (arith, a, b), k.1)

lower_fits : (o p : Option Export) (ms : List Out) (y : Option Import) → Stays o p → FitsExport o ms y → FitsExport p ms y
lower_fits None p ms y s h = subst (λ (x : Option Export). FitsExport x ms y) (sym s) tt
lower_fits (Some x) None ms y s h = tt
lower_fits (Some x) (Some z) ms y s h = let k = ap kind_given (sym s) in (subst (λ (j : Option Kind). AllOf j ms) k h.0, subst (λ (j : Option Kind). ImportOf j y) k h.1)

-- ---- The importer takes

kept_of : (k : Option Kind) (y z : Option Import) → KeepsImport y z → ImportOf k y → ImportOf k z
kept_of k y None h i = tt
kept_of k None (Some z) h i = absurd h
kept_of k (Some y) (Some z) h i = i ∙ ap (λ s. Some (kind_of s)) (sym h.0)

first_of_only : (k : Option Kind) (b : Bool) (j : Kind) (ms : List Out) → AllOf k (only b (export.Give j) ++ ms) → (b ≡ true → k ≡ Some j) × AllOf k ms
first_of_only k true j ms h = (λ e. h.0, h.1)
first_of_only k false j ms h = ((λ e. absurd (let bad : false ≡ true = e in cc)), h)

received_of : (k : Option Kind) (s : SenderKind) (o : Option Import) → k ≡ Some (kind_of s) → ImportOf k o → ImportOf k (Some (received s o))
received_of k s None h i = h
received_of k s (Some x) h i = i

-- What leaves imports as they are.
pub obeyed : (s : State) (b : Bool) (ids : List ℕ) → (obey s b ids).imports ≡ s.imports
obeyed s b ids = ap (λ (u : State). u.imports) (obey_alone s b ids)

pub comes : (d new : Progress) (r : Return) (x : Question) (f : Finishing) → ComesTo d r x f new → new.state.imports ≡ (came d.state r x).imports
comes d new r x finishing.Sent h = rw h refl
comes d new r x finishing.Owed h = rw h refl
comes d new r x finishing.Waived h = rw h refl

pub turned : (d new : Progress) (c : DisembargoContext) → TurnsBy d c new → new.state.imports ≡ d.state.imports
turned d new (SenderLoopback x) h = rw h.1 refl
turned d new (ReceiverLoopback x) h = rw h.2 refl

module _ (e : ℕ) (k : Option Kind) where
  abbrev Of : State → Type 0
  Of s = ImportOf k (map.get s.imports e)

  taken_one : (s : State) (i : ℕ) (sk : SenderKind) → (nat_eq e i ≡ true → k ≡ Some (kind_of sk)) → Of s → Of (import_one s sk i)
  taken_one s i sk f h = subst (λ (o : Option Import). ImportOf k o) (sym (get_put s.imports i (received sk (map.get s.imports i)) e)) (by (nat_eq e i) refl)
    where
      by : (b : Bool) → nat_eq e i ≡ b → ImportOf k (cond b (Some (received sk (map.get s.imports i))) (map.get s.imports e))
      by false c = h
      by true c = received_of k sk (map.get s.imports i) (f c) (subst (λ (j : ℕ). ImportOf k (map.get s.imports j)) (equal e i c) h)

  taken_each : (s : State) (ds : List Descriptor) → AllOf k (gives_in e ds) → Of s → Of (take_each s ds)
  taken_each s [] a h = h
  taken_each s (descriptor.None ∷ ds) a h = taken_each s ds a h
  taken_each s (descriptor.SenderHosted i ∷ ds) a h = let b = first_of_only k (nat_eq e i.0) export.Hosted (gives_in e ds) a in taken_each (import_one s kind.Hosted i.0) ds b.1 (taken_one s i.0 kind.Hosted b.0 h)
  taken_each s (descriptor.SenderPromise i ∷ ds) a h = let b = first_of_only k (nat_eq e i.0) export.Promised (gives_in e ds) a in taken_each (import_one s kind.Promise i.0) ds b.1 (taken_one s i.0 kind.Promise b.0 h)
  taken_each s (descriptor.ReceiverHosted i ∷ ds) a h = taken_each s ds a h
  taken_each s (descriptor.ReceiverAnswer q path ∷ ds) a h = taken_each s ds a h

  taken_all : (s : State) (ds : List Descriptor) → AllOf k (gives_in e ds) → Of s → Of (take_all s ds)
  taken_all s ds a h = by s.level
    where
      by : (l : Level) → Of (take_at l s ds)
      by Zero = h
      by One = taken_each s ds a h

  said_of_it : (m : Map Import) (i : ℕ) (r : Resolution) → ImportOf k (map.get m e) → ImportOf k (map.get (update m i (set_resolution r)) e)
  said_of_it m i r h = by (map.get m i) refl
    where
      at : (x : Import) → map.get m i ≡ Some x → (b : Bool) → nat_eq e i ≡ b → ImportOf k (cond b (Some (set_resolution r x)) (map.get m e))
      at x f false c = h
      at x f true c = subst (λ (o : Option Import). ImportOf k o) (ap (map.get m) (equal e i c) ∙ f) h

      by : (o : Option Import) → map.get m i ≡ o → ImportOf k (map.get (updated m i (set_resolution r) o) e)
      by None f = h
      by (Some x) f = subst (λ (o : Option Import). ImportOf k o) (sym (get_put m i (set_resolution r x) e)) (at x f (nat_eq e i) refl)

  resolved_one : (s : State) (i : ℕ) (r : Resolution) (o : Option Import) → Of s → Of (resolve_import s i r o)
  resolved_one s i r None h = h
  resolved_one s i r (Some x) h = said_of_it s.imports i r h

  takes_resolve : (s : State) (i : ℕ) (to : ResolvedTo) → AllOf k (gives_in e (descriptors_of_resolved to)) → Of s → Of (take_resolve s i to)
  takes_resolve s i (resolved.Exception x) a h = resolved_one s i _ (map.get s.imports i) h
  takes_resolve s i (resolved.Cap d) a h = resolved_one (take_all s (d ∷ [])) i _ (map.get s.imports i) (taken_all s (d ∷ []) a h)

  still : (s t : State) → t.imports ≡ s.imports → Of s → Of t
  still s t f h = subst (λ (m : Map Import). ImportOf k (map.get m e)) (sym f) h

  -- What a message does at once.
  taken : (d first : Progress) (m : PlainMessage) → Consumes m d first → AllOf k (gives_in e (descriptors_of_plain m)) → Of d.state → Of first.state
  taken d first (plain.Abort x) h a i = absurd h
  taken d first (plain.Bootstrap q) h a i = still d.state first.state (rw h.3 refl) i
  taken d first (plain.Call c) h a i = still (take_all d.state c.descriptors) first.state (rw h.3 refl) (taken_all d.state c.descriptors a i)
  taken d first (plain.Return r) h a i =
      let x = h.0 in
      let u = take_all d.state (descriptors_of_body r.body) in
      still u first.state (comes d first r x x.finish h.3 ∙ obeyed u r.release_param_caps (numbers x.given)) (taken_all d.state (descriptors_of_body r.body) a i)
  taken d first (plain.Finish f) h a i = let y = h.0 in still d.state first.state (ap (λ (p : Progress). p.state.imports) h.3 ∙ obeyed d.state f.release_result_caps (gave y.returned)) i
  taken d first (plain.Resolve r) h a i = still (take_resolve d.state r.promise.0 r.to) first.state (ap (λ (p : Progress). p.state.imports) h) (takes_resolve d.state r.promise.0 r.to a i)
  taken d first (plain.Release r) h a i = still d.state first.state (ap (λ (p : Progress). p.state.imports) h) i
  taken d first (plain.Disembargo x) h a i = still d.state first.state (turned d first x.context h) i
  taken d first (plain.Other n) h a i = still d.state first.state (ap (λ (p : Progress). p.state.imports) h) i

-- ---- Two vats

no_import : (o : Option Import) → ImportCounts o → import_count o ≡ 0 → o ≡ None
no_import None c h = refl
no_import (Some x) c h = absurd (let a : x.count ≡ 0 = h in omega (arith, a, c))

-- Where so much of an export is left by what is on the way to it.
pub free_at : (t : State) (to_t : List Noted) (e : ℕ) (left : ℕ) (bs : List export.Back) (o : Option Export) → AreCounted t → Leaves left bs (count e t + giving e (messages to_t)) → (o ≡ None → left ≡ 0) → IsFree o (outs_for e to_t) (map.get t.imports e)
free_at t to_t e left bs o c h f g =
    let z = leaves_none left bs (count e t + giving e (messages to_t)) (f g) h in
    let a = gives_of e to_t in
    (omega (arith, z, a), no_import (map.get t.imports e) (c.imports e) (omega (arith, z)))

pub record OneKind (s : State) (to_s : List Noted) (t : State) (to_t : List Noted) : Type 0 where
  pub found : Found s to_s t to_t
  pub kinds : BothOfKind s to_s t to_t

turned_over : (s t : State) (to_s to_t : List Noted) → OneKind s to_s t to_t → OneKind t to_t s to_s
turned_over s t to_s to_t k = let b = k.kinds in record { found = turned_about s t to_s to_t k.found; kinds = (b.1, b.0) }

none_yet : (v u : Vat) (a b : Option ObjectId) → AreOfKind (start v One a) (start u One b) []
none_yet v u a b e = subst (λ (o : Option Export). FitsExport o [] (let m : Map Import = map.empty in map.get m e)) (sym (map.get-empty nat_cmp e)) tt

starts : (a b : Option ObjectId) → OneKind (start A One a) [] (start B One b) []
starts a b = record { found = finding.starts a b; kinds = (none_yet A B a b, none_yet B A b a) }

-- What s gives is behind what is on the way.
gives_behind : (t : State) (to_t sent : List Noted) (e : ℕ) (o last : Option Export) → FitsExport o (outs_for e to_t) (map.get t.imports e) → IsFree o (outs_for e to_t) (map.get t.imports e) → Grows o (outs_for e sent) last → FitsExport last (outs_for e (to_t ++ sent)) (map.get t.imports e)
gives_behind t to_t sent e o last h f g = subst (λ (l : List Out). FitsExport last l (map.get t.imports e)) (sym (outs-append e to_t sent)) (fits_more o last (outs_for e to_t) (outs_for e sent) (map.get t.imports e) h f g)

import_fits : (o : Option Export) (ms : List Out) (y z : Option Import) → KeepsImport y z → FitsExport o ms y → FitsExport o ms z
import_fits None ms y z k h = tt
import_fits (Some x) ms y z k h = (h.0, kept_of (kind_given x.node) y z k h.1)

-- The import takes the oldest message.
takes_first_of : (d first : Progress) (n : Noted) (ns : List Noted) (e : ℕ) (o : Option Export) → Consumes n.message d first → FitsExport o (outs_for e (n ∷ ns)) (map.get d.state.imports e) → FitsExport o (outs_for e ns) (map.get first.state.imports e)
takes_first_of d first n ns e None c h = tt
takes_first_of d first n ns e (Some x) c h =
    let k = kind_given x.node in
    let b = gives_in e (descriptors_of_plain n.message) in
    let rest = all_right k (resolves_in e n.message) (b ++ outs_for e ns) h.0 in
    (all_right k b (outs_for e ns) rest, taken e k d first n.message c (all_left k b (outs_for e ns) rest) h.1)

module _ (rise : SendsRaiseCounts) where
  commands : (s t new : State) (to_s to_t : List Noted) (c : Command) (g : Granted) (x : Effects) → OneKind s to_s t to_t → refused s c ≡ None → Does s c g x new → StillHolds OneKind new to_s t to_t x
  commands s t new to_s to_t c g x k free h =
      let f = k.found in
      let b = k.kinds in
      let a = does_whole s c g x new f.whole_s h in
      let last : Progress = a.0 in
      let sent = all_sent a.1 in
      let r = by_command rise s t new to_s to_t c g x f h a in
      let out : AreOfKind last.state t (to_t ++ sent) = λ e. gives_behind t to_t sent e (map.get s.exports e) (map.get last.state.exports e) (b.0 e) (free_at t to_t e (given_out e s) (backs_for e to_s) (map.get s.exports e) f.agree.counted_t (f.met_s e) (λ n. ap export_count n)) (grown.acts a.0 (begin s) a.1 e) in
      let own : AreOfKind t last.state to_s = λ e. import_fits (map.get t.exports e) (outs_for e to_s) (map.get s.imports e) (map.get last.state.imports e) (keeping.acts a.0 (begin s) a.1 e) (b.1 e) in
      (sent, r.0, record { found = r.1; kinds = subst (λ (u : State). BothOfKind u to_s t (to_t ++ sent)) (sym a.4) (out, own) })

  receives : (s t new : State) (n : Noted) (to_s to_t : List Noted) (x : Effects) → OneKind s (n ∷ to_s) t to_t → fault_of s (message.Plain n.message) ≡ None → Handles s (message.Plain n.message) x new → StillHolds OneKind new to_s t to_t x
  receives s t new n to_s to_t x k free h =
      let f = k.found in
      let b = k.kinds in
      let z = f.agree.stand in
      let a = handles_whole s n.message x new f.whole_s z.ready_s.level free h in
      let first : Progress = a.0 in
      let p = a.3 in
      let last : Progress = p.0 in
      let now = sent_at_once (begin s) a.0 n.message a.1 in
      let sent = now ++ all_sent p.1 in
      let r = by_message rise s t new n to_s to_t x f free h a.0 a.1 a.2 p in
      let out : AreOfKind last.state t (to_t ++ sent) = λ e.
      let c = grown.consumes (begin s) first n.message a.1 e in
      let silent : outs_for e sent ≡ outs_for e (all_sent p.1) = outs-append e now (all_sent p.1) ∙ ap (λ (l : List Out). l ++ outs_for e (all_sent p.1)) c.1 in
      let g = grown.acts p.0 first p.1 e in
      let g_all = subst (λ (l : List Out). Grows (map.get first.state.exports e) l (map.get last.state.exports e)) (sym silent) g in
      let left = rest_stands e n to_s (given_out e s) (count e t + giving e (messages to_t)) (f.met_s e) in
      let lets = left.1 in
      let y = rise.messages e s n.message x new (ap (λ (l : Level). is_foreign l n.message) z.ready_s.level) free h ∙ ap (λ (ms : List Message). given_out e s + giving e ms) r.0 in
      let w = takes_first s e n.message n.lets to_s (reads s t (n ∷ to_s) to_t z.of_s z.of_t) in
      let q = grown_count (map.get first.state.exports e) (map.get last.state.exports e) (outs_for e sent) g_all in
      let i = gives_of e sent in
      let at : given_out e new ≡ given_out e last.state = ap (given_out e) p.4 in
      gives_behind t to_t sent e (map.get first.state.exports e) (map.get last.state.exports e) (lower_fits (map.get s.exports e) (map.get first.state.exports e) (outs_for e to_t) (map.get t.imports e) c.0 (b.0 e))
      (free_at t to_t e left.0 (backs_for e to_s) (map.get first.state.exports e) f.agree.counted_t left.2 (λ none. let j : export_count (map.get first.state.exports e) ≡ 0 = ap export_count none in omega (arith, lets, y, w, q, i, at, j))) g_all in
      let own : AreOfKind t last.state to_s = λ e. import_fits (map.get t.exports e) (outs_for e to_s) (map.get first.state.imports e) (map.get last.state.imports e) (keeping.acts p.0 first p.1 e) (takes_first_of (begin s) first n to_s e (map.get t.exports e) a.1 (b.1 e)) in
      (sent, r.0, record { found = r.1; kinds = subst (λ (u : State). BothOfKind u to_s t (to_t ++ sent)) (sym p.4) (out, own) })

  pub are_kept : IsKept OneKind
  are_kept = record { turned = turned_over; starts = starts; commands = commands; receives = receives }

  pub in_worlds : (a b : Option ObjectId) (w : World) → Steady w (new_world a b) → HoldsIn BothOfKind w
  in_worlds a b w h = let k = in_steady_worlds are_kept a b w h in let o = k.holds in record { to_a = k.to_a; to_b = k.to_b; is_a = k.is_a; is_b = k.is_b; holds = o.kinds }
