-- The whole session of an export, from what is known of its counts, its kind and its Resolve.
use Rattle.std.proofs.Common.{◌≡◌, ℕ, ◌+◌, Bool, true, List, [], ◌∷◌, Option, None, Some, refl, sym, ap, subst, ◌∙◌}
use Rattle.std.specs.FinMap as map
use Rattle.rpc_machine.specs.declared.node.Node.{Node}
use Rattle.rpc_machine.specs.declared.node.Node.TheVariants as node
use Rattle.rpc_machine.specs.declared.entries.SenderKind.{SenderKind}
use Rattle.rpc_machine.specs.declared.entries.SenderKind.TheVariants as kind
use Rattle.rpc_machine.specs.declared.entries.Resolution.{Resolution}
use Rattle.rpc_machine.specs.declared.entries.Import.{Import}
use Rattle.rpc_machine.specs.declared.entries.Export.{Export}
use Rattle.rpc_machine.specs.State.{State}
use Rattle.rpc_machine.specs.Nodes.{link, is_object}
use Rattle.rpc_machine.specs.Limits.{import_count}
use Rattle.rpc_machine.specs.Laws.{given_out, SendsRaiseCounts}
use Rattle.rpc_machine.specs.Descriptors.{giving}
use Rattle.rpc_machine.specs.World.{World, new_world}
use Rattle.rpc_msg.specs.declared.ids.ObjectId.{ObjectId}
use Rattle.laws_acts.specs.Sent.{Noted, messages}
use Rattle.laws_runs.specs.Exports as export
use Rattle.laws_runs.specs.Exports.{Kind, Exporter, Out, Back, Seen, seen_by, LearnsAll, Fits, Leaves, gives, held, IsEntry, IsHeld, IsRight}
use Rattle.laws_runs.specs.Between.{Steady, HoldsIn}
use Rattle.laws_runs.proofs.Kept.{in_steady_worlds}
use Rattle.laws_runs.specs.Imports.{count}
use Rattle.laws_runs.specs.Entries.{ImportCounts, ExportCounts, AreCounted}
use Rattle.laws_messages.specs.Views.{kind_of, said_of, importer_of, outs_for, backs_for}
use Rattle.laws_messages.specs.Kinds.{kind_given}
use Rattle.laws_messages.specs.OfAKind.{FitsExport, AreOfKind}
use Rattle.laws_messages.proofs.OneKind.{gives_of}
use Rattle.laws_messages.specs.ExportViews.{stage_by, exporter_of, nothing_owed}
use Rattle.laws_messages.specs.Between.{AreStanding, BothStand}
use Rattle.laws_messages.proofs.Fitting.{count_of}
use Rattle.laws_messages.proofs.Learning.{nothing_over}
use Rattle.laws_messages.proofs.Standing.{Knows, Resolved, are_kept}

entry_of : (s : State) (o : Option Export) → ExportCounts o → IsEntry (exporter_of s o)
entry_of s None h = tt
entry_of s (Some x) h = h

held_of : (o : Option Import) → ImportCounts o → IsHeld (importer_of o)
held_of None h = tt
held_of (Some x) h = h

held_count : (o : Option Import) → held (importer_of o) ≡ import_count o
held_count None = refl
held_count (Some x) = refl

-- ---- What was resolved is a promise's

over_last : (ms : List Out) (last : Seen) → LearnsAll export.Over ms last → last ≡ export.Over
over_last [] last h = sym h
over_last (m ∷ ms) last h = nothing_over m h.0 h.1

object_of : (n : Node) → kind_given n ≡ Some export.Hosted → is_object n ≡ true
object_of (node.Object o) h = refl
object_of (node.Promise p) h = let bad : Some export.Promised ≡ Some export.Hosted = h in cc
object_of (node.Field o path) h = let bad : Some export.Promised ≡ Some export.Hosted = h in cc
object_of (node.Import e) h = let bad : None ≡ Some export.Hosted = h in cc
object_of (node.Pipe q path) h = let bad : None ≡ Some export.Hosted = h in cc
object_of (node.Broken reason) h = let bad : None ≡ Some export.Hosted = h in cc

not_object : (n : ℕ) → ¬ (Fits export.Over (export.Has n export.IsObject))
not_object n h = elim h [ ]

never_over : (s : State) (o : Option Export) (ms : List Out) (y : Import) → y.kind ≡ kind.Hosted → FitsExport o ms (Some y) → ¬ (Fits export.Over (exporter_of s o))
never_over s None ms y e h f = elim f [ ]
never_over s (Some x) ms y e h f =
    let k : kind_given x.node ≡ Some export.Hosted = h.1 ∙ ap (λ (j : SenderKind). Some (kind_of j)) e in
    not_object x.count (subst (λ (b : Bool). Fits export.Over (export.Has x.count (stage_by b (nothing_owed x.node) (link s x.node)))) (object_of x.node k) f)

right : (s : State) (o : Option Export) (ms : List Out) (y : Option Import) (last : Seen) → FitsExport o ms y → LearnsAll (export.seen (importer_of y)) ms last → Fits last (exporter_of s o) → IsRight (importer_of y)
right s o ms None last h l f = tt
right s o ms (Some y) last h l f = by y.kind refl y.resolution l
  where
    by : (k : SenderKind) → y.kind ≡ k → (r : Option Resolution) → LearnsAll (seen_by (kind_of y.kind) (said_of r)) ms last → IsRight (export.Holds y.count (kind_of k) (said_of r))
    by k e None g = tt
    by kind.Promise e (Some r) g = tt
    by kind.Hosted e (Some r) g = absurd (never_over s o ms y e h (subst (λ (a : Seen). Fits a (exporter_of s o)) (over_last ms last g) f))

-- ---- The session

standing : (s t : State) (to_s to_t : List Noted) → AreCounted s → AreCounted t → ((e : ℕ) → Leaves (given_out e s) (backs_for e to_s) (count e t + giving e (messages to_t))) → AreOfKind s t to_t → ((e : ℕ) → Knows s t to_t e) → AreStanding s to_s t to_t
standing s t to_s to_t c d m k h e =
    let y = h e in
    let o = map.get t.imports e in
    let x = map.get s.exports e in
    let rest : count e t + giving e (messages to_t) ≡ held (importer_of o) + gives (outs_for e to_t) = ap (λ (n : ℕ). n + giving e (messages to_t)) (sym (held_count o)) ∙ ap (λ (n : ℕ). held (importer_of o) + n) (sym (gives_of e to_t)) in
    record {
      entry = entry_of s x (c.exports e);
      import = held_of o (d.imports e);
      right = right s x (outs_for e to_t) o y.0 (k e) y.1 y.2;
      counts = subst (λ (n : ℕ). Leaves n (backs_for e to_s) (held (importer_of o) + gives (outs_for e to_t))) (sym (count_of s nothing_owed x)) (subst (λ (n : ℕ). Leaves (given_out e s) (backs_for e to_s) n) rest (m e));
      last = y.0;
      learns = y.1;
      fits = y.2;
    }

both : (s t : State) (to_s to_t : List Noted) → Resolved s to_s t to_t → BothStand s to_s t to_t
both s t to_s to_t k =
    let one = k.kind in
    let f = one.found in
    let a = f.agree in
    let b = one.kinds in
    (standing s t to_s to_t a.counted_s a.counted_t f.met_s b.0 k.of_s, standing t s to_t to_s a.counted_t a.counted_s f.met_t b.1 k.of_t)

pub in_worlds : SendsRaiseCounts → (a b : Option ObjectId) (w : World) → Steady w (new_world a b) → HoldsIn BothStand w
in_worlds rise a b w h = let k = in_steady_worlds (are_kept rise) a b w h in record { to_a = k.to_a; to_b = k.to_b; is_a = k.is_a; is_b = k.is_b; holds = both w.a.core w.b.core k.to_a k.to_b k.holds }
