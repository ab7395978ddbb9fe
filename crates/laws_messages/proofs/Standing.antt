-- The sessions of exports stand between two vats: what the importer will know fits how far the exporter is.
use Rattle.std.proofs.Common.{◌≡◌, ℕ, ◌+◌, false, List, [], ◌∷◌, ◌++◌, Option, None, Some, refl, sym, ap, subst, ◌∙◌, arith}
use Rattle.std.specs.FinMap as map
use Rattle.std.specs.Ordering.{nat_cmp}
use Rattle.finite_maps.specs.Tally.{Map}
use Rattle.rpc_msg.specs.declared.ids.Vat.{Vat}
use Rattle.rpc_msg.specs.declared.ids.Vat.TheVariants.{A, B}
use Rattle.rpc_msg.specs.declared.ids.ObjectId.{ObjectId}
use Rattle.rpc_msg.specs.declared.message.PlainMessage.{PlainMessage}
use Rattle.rpc_msg.specs.declared.message.Message.{Message}
use Rattle.rpc_msg.specs.declared.message.Message.TheVariants as message
use Rattle.rpc_msg.specs.Messages.{descriptors_of_plain}
use Rattle.rpc_machine.specs.declared.node.Node.{Node}
use Rattle.rpc_machine.specs.declared.command.Command.{Command}
use Rattle.rpc_machine.specs.declared.command.Granted.{Granted}
use Rattle.rpc_machine.specs.declared.command.Effects.{Effects}
use Rattle.rpc_machine.specs.declared.command.Level.{Level}
use Rattle.rpc_machine.specs.declared.command.Level.TheVariants.{One}
use Rattle.rpc_machine.specs.declared.entries.Import.{Import}
use Rattle.rpc_machine.specs.declared.entries.Export.{Export}
use Rattle.rpc_machine.specs.State.{State, start}
use Rattle.rpc_machine.specs.Nodes.{link, is_object}
use Rattle.rpc_machine.specs.Limits.{export_count}
use Rattle.rpc_machine.specs.Laws.{given_out, SendsRaiseCounts}
use Rattle.rpc_machine.specs.Descriptors.{giving}
use Rattle.rpc_machine.specs.Refusals.{refused}
use Rattle.rpc_machine.specs.Faults.{is_foreign, fault_of}
use Rattle.rpc_machine.specs.Progress.{Progress, begin}
use Rattle.rpc_machine.specs.Steps.{Does, Handles}
use Rattle.rpc_machine.specs.World.{World, core, inbox}
use Rattle.laws_acts.specs.Sent.{Noted, messages}
use Rattle.laws_nodes.specs.Settling.{AllStop}
use Rattle.laws_nodes.proofs.Acyclic.{empty_stops}
use Rattle.laws_runs.specs.Exports as export
use Rattle.laws_runs.specs.Exports.{Out, Seen, LearnsAll, Fits, Leaves, gives, seen}
use Rattle.laws_runs.specs.Between.{HoldsIn, StillHolds, IsKept}
use Rattle.laws_runs.proofs.ExportsHold.{fits_lower, learns_none}
use Rattle.laws_runs.specs.Imports.{count}
use Rattle.laws_runs.proofs.Flags.{reads, takes_first}
use Rattle.laws_messages.specs.Kinds.{Stays}
use Rattle.laws_messages.specs.Imports.{KeepsImport}
use Rattle.laws_messages.specs.Views.{importer_of, gives_in, resolves_in, outs_for, backs_for}
use Rattle.laws_messages.proofs.Grown.{outs-append}
use Rattle.laws_messages.proofs.Keeping as keeping
use Rattle.laws_messages.proofs.NamingSteps.{does_whole, handles_whole}
use Rattle.laws_messages.proofs.Finding.{rest_stands}
use Rattle.laws_messages.proofs.OneKind as kinds
use Rattle.laws_messages.proofs.OneKind.{OneKind, gives_of, free_at}
use Rattle.laws_messages.specs.ExportViews.{stage_by, exporter_of, outs_in}
use Rattle.laws_messages.specs.Steps.{Tells}
use Rattle.laws_messages.specs.Oldest.{IsFirstResolve, NoneClashes}
use Rattle.laws_messages.proofs.Told.{told}
use Rattle.laws_messages.proofs.Learning.{learns_then, taken, kept_seen}
use Rattle.laws_messages.proofs.Clashing.{first_resolve, no_clash}

-- The exports of s and the imports of t, with what is on the way to t.
abbrev pub Knows : State → State → List Noted → ℕ → Type 0
Knows s t to_t e = (last : Seen) × LearnsAll (seen (importer_of (map.get t.imports e))) (outs_for e to_t) last × Fits last (exporter_of s (map.get s.exports e))

pub record Resolved (s : State) (to_s : List Noted) (t : State) (to_t : List Noted) : Type 0 where
  pub kind : OneKind s to_s t to_t
  pub stops_s : AllStop s
  pub stops_t : AllStop t
  pub of_s : (e : ℕ) → Knows s t to_t e
  pub of_t : (e : ℕ) → Knows t s to_s e

-- ---- Two new vats

none_known : (v u : Vat) (a b : Option ObjectId) (e : ℕ) → Knows (start v One a) (start u One b) [] e
none_known v u a b e =
    subst (λ (o : Option Import). (last : Seen) × LearnsAll (seen (importer_of o)) [] last × Fits last (exporter_of (start v One a) (let m : Map Export = map.empty in map.get m e))) (sym (map.get-empty nat_cmp e))
    (export.Unknown, refl, export.Free _)

-- ---- What is sent

sent_is : (e : ℕ) (ns : List Noted) → outs_in e (messages ns) ≡ outs_for e ns
sent_is e [] = refl
sent_is e (n ∷ ns) = ap (λ (l : List Out). resolves_in e n.message ++ (gives_in e (descriptors_of_plain n.message) ++ l)) (sent_is e ns)

-- Behind what is on the way.
sends_more : (s new t : State) (left : Map Export) (to_t sent : List Noted) (x : Effects) (e : ℕ) → x.sends ≡ messages sent → Tells s left x new
    → (last : Seen) × LearnsAll (seen (importer_of (map.get t.imports e))) (outs_for e to_t) last × Fits last (exporter_of s (map.get left e)) → Knows new t (to_t ++ sent) e
sends_more s new t left to_t sent x e f y k =
    let z = y.fits e k.0 k.2 in
    let same : outs_in e x.sends ≡ outs_for e sent = ap (outs_in e) f ∙ sent_is e sent in
    let behind : LearnsAll k.0 (outs_for e sent) z.0 = subst (λ (ms : List Out). LearnsAll k.0 ms z.0) same z.1 in
    (z.0, subst (λ (ms : List Out). LearnsAll (seen (importer_of (map.get t.imports e))) ms z.0) (sym (outs-append e to_t sent)) (learns_then (seen (importer_of (map.get t.imports e))) (outs_for e to_t) k.0 (outs_for e sent) z.0 k.1 behind), z.2)

-- ---- What a message leaves

lowered : (s : State) (o p : Option Export) (last : Seen) → Stays o p → (p ≡ None → last ≡ export.Unknown) → Fits last (exporter_of s o) → Fits last (exporter_of s p)
lowered s None p last h f k = subst (λ (y : Option Export). Fits last (exporter_of s y)) (sym h) k
lowered s (Some x) None last h f k = subst (λ (a : Seen). Fits a export.Gone) (sym (f refl)) (export.Free export.Gone)
lowered s (Some x) (Some z) last h f k =
    subst (λ (n : Node). Fits last (export.Has z.count (stage_by (is_object n) false (link s n)))) (sym h) (fits_lower last x.count z.count (stage_by (is_object x.node) false (link s x.node)) k)

unknown_then : (t : State) (to_t : List Noted) (e : ℕ) (last : Seen) → LearnsAll (seen (importer_of (map.get t.imports e))) (outs_for e to_t) last → (gives (outs_for e to_t) ≡ 0) × (map.get t.imports e ≡ None) → last ≡ export.Unknown
unknown_then t to_t e last h g = learns_none (seen (importer_of (map.get t.imports e))) (outs_for e to_t) last (ap (λ (o : Option Import). seen (importer_of o)) g.1) g.0 h

-- ---- Steps

turned : (s t : State) (to_s to_t : List Noted) → (OneKind s to_s t to_t → OneKind t to_t s to_s) → Resolved s to_s t to_t → Resolved t to_t s to_s
turned s t to_s to_t f k = record { kind = f k.kind; stops_s = k.stops_t; stops_t = k.stops_s; of_s = k.of_t; of_t = k.of_s }

module _ (rise : SendsRaiseCounts) where
  below : IsKept OneKind
  below = kinds.are_kept rise

  commands : (s t new : State) (to_s to_t : List Noted) (c : Command) (g : Granted) (x : Effects) → Resolved s to_s t to_t → refused s c ≡ None → Does s c g x new → StillHolds Resolved new to_s t to_t x
  commands s t new to_s to_t c g x k free h =
      let y = below.commands s t new to_s to_t c g x k.kind free h in
      let sent : List Noted = y.0 in
      let law = told in
      let z = law.commands s c g x new k.stops_s free h in
      let one = k.kind in
      let found = one.found in
      let a = does_whole s c g x new found.whole_s h in
      let last : Progress = a.0 in
      let own : (e : ℕ) → KeepsImport (map.get s.imports e) (map.get new.imports e) = λ e. subst (λ (u : State). KeepsImport (map.get s.imports e) (map.get u.imports e)) (sym a.4) (keeping.acts last (begin s) a.1 e) in (
        sent,
        y.1,
        record {
          kind = y.2;
          stops_s = z.stops;
          stops_t = k.stops_t;
          of_s = λ e. sends_more s new t s.exports to_t sent x e y.1 z (k.of_s e);
          of_t = λ e. let o = k.of_t e in kept_seen (map.get s.imports e) (map.get new.imports e) (outs_for e to_s) o.0 (exporter_of t (map.get t.exports e)) (own e) o.1 o.2;
        },
      )

  receives : (s t new : State) (n : Noted) (to_s to_t : List Noted) (x : Effects) → Resolved s (n ∷ to_s) t to_t → fault_of s (message.Plain n.message) ≡ None → Handles s (message.Plain n.message) x new → StillHolds Resolved new to_s t to_t x
  receives s t new n to_s to_t x k free h =
      let y = below.receives s t new n to_s to_t x k.kind free h in
      let sent : List Noted = y.0 in
      let law = told in
      let q = law.messages s (message.Plain n.message) x new k.stops_s free h in
      let left : Map Export = q.0 in
      let z = q.1 in
      let one = k.kind in
      let found = one.found in
      let stand = found.agree.stand in
      let a = handles_whole s n.message x new found.whole_s stand.ready_s.level free h in
      let first : Progress = a.0 in
      let p = a.3 in
      let last : Progress = p.0 in
      let own : (e : ℕ) → KeepsImport (map.get first.state.imports e) (map.get new.imports e) = λ e. subst (λ (u : State). KeepsImport (map.get first.state.imports e) (map.get u.imports e)) (sym p.4) (keeping.acts last first p.1 e) in
      let gone : (e : ℕ) → map.get left e ≡ None → (gives (outs_for e to_t) ≡ 0) × (map.get t.imports e ≡ None) = λ e none.
      let rest = rest_stands e n to_s (given_out e s) (count e t + giving e (messages to_t)) (found.met_s e) in
      let lets = rest.1 in
      let i = rise.messages e s n.message x new (ap (λ (l : Level). is_foreign l n.message) stand.ready_s.level) free h in
      let w = takes_first s e n.message n.lets to_s (reads s t (n ∷ to_s) to_t stand.of_s stand.of_t) in
      let c = z.counts e in
      let j : export_count (map.get left e) ≡ 0 = ap export_count none in
      let v : gives (outs_in e x.sends) ≡ giving e x.sends = ap (λ (ms : List Message). gives (outs_in e ms)) y.1 ∙ ap gives (sent_is e sent) ∙ gives_of e sent ∙ ap (giving e) (sym y.1) in
      free_at t to_t e rest.0 (backs_for e to_s) (map.get left e) found.agree.counted_t rest.2 (λ m. omega (arith, lets, i, w, c, j, v)) none in (
        sent,
        y.1,
        record {
          kind = y.2;
          stops_s = z.stops;
          stops_t = k.stops_t;
          of_s = λ e.
              let o = k.of_s e in
              sends_more s new t left to_t sent x e y.1 z (o.0, o.1, lowered s (map.get s.exports e) (map.get left e) o.0 (z.stays e) (λ none. unknown_then t to_t e o.0 o.1 (gone e none)) o.2);
          of_t = λ e.
              let o = k.of_t e in
              kept_seen (map.get first.state.imports e) (map.get new.imports e) (outs_for e to_s) o.0 (exporter_of t (map.get t.exports e)) (own e) (taken e (begin s) first n.message (outs_for e to_s) o.0 stand.ready_s.level a.1 o.1) o.2;
        },
      )

  pub are_kept : IsKept Resolved
  are_kept = record {
    turned = λ s t to_s to_t. turned s t to_s to_t (below.turned s t to_s to_t);
    starts = λ a b. record {
      kind = below.starts a b;
      stops_s = empty_stops (start A One a) refl refl;
      stops_t = empty_stops (start B One b) refl refl;
      of_s = none_known A B a b;
      of_t = none_known B A b a;
    };
    commands = commands;
    receives = receives;
  }

-- ---- The oldest message

abbrev FitsOldest : State → Message → Type 0
FitsOldest s m = (p : PlainMessage) × (m ≡ message.Plain p) × IsFirstResolve s p × NoneClashes s [] (descriptors_of_plain p)

fits_by : (s t : State) (to_s : List Noted) (m : Message) (ms : List Message) → ((e : ℕ) → Knows t s to_s e) → m ∷ ms ≡ messages to_s → FitsOldest s m
fits_by s t [] m ms k e = absurd (let bad : m ∷ ms ≡ [] = e in cc)
fits_by s t (n ∷ ns) m ms k e =
    let first : m ≡ message.Plain n.message = cc in
    (n.message, first, first_resolve s n.message (λ i. (k i).0) (λ i. gives_in i (descriptors_of_plain n.message) ++ outs_for i ns) (λ i. (k i).1), no_clash s n.message (λ i. (k i).0) (λ i. outs_for i ns) (λ i. (k i).1))

pub in_world : (w : World) (v : Vat) (m : Message) (ms : List Message) → HoldsIn Resolved w → inbox w v ≡ m ∷ ms → FitsOldest (core w v) m
in_world w A m ms k e = let h = k.holds in fits_by w.a.core w.b.core k.to_a m ms h.of_t (sym e ∙ k.is_a)
in_world w B m ms k e = let h = k.holds in fits_by w.b.core w.a.core k.to_b m ms h.of_s (sym e ∙ k.is_b)
