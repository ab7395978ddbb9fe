-- The wires behind a step.
use mathlib.Core.Path.{fun_ext}
use Rattle.std.specs.FinMap as map
use Rattle.std.proofs.Common.{◌≡◌, ◌⊎◌, inl, inr, ℕ, nat_eq, true, false, cond, List, [], ◌∷◌, ◌++◌, Option, None, Some, IsSome, refl, sym, subst, ap, ◌∙◌}
use Rattle.finite_maps.specs.Tally.{Map}
use Rattle.rpc_msg.specs.declared.ids.Vat.{Vat}
use Rattle.rpc_msg.specs.declared.message.PlainMessage.TheVariants as plain
use Rattle.rpc_msg.specs.declared.message.Message.{Message}
use Rattle.rpc_msg.specs.declared.message.Message.TheVariants as message
use Rattle.rpc_journal.specs.declared.entry.JournalEntry.{JournalEntry}
use Rattle.rpc_journal.specs.Sources.{OfBootstrap, OfCall}
use Rattle.rpc_journal.specs.Meaning.{History}
use Rattle.rpc_machine.specs.declared.node.Node.{Node}
use Rattle.rpc_machine.specs.declared.node.Node.TheVariants as node
use Rattle.rpc_machine.specs.declared.entries.Export.{Export}
use Rattle.rpc_machine.specs.declared.entries.Import.{Import}
use Rattle.rpc_machine.specs.declared.entries.Question.{Question}
use Rattle.rpc_machine.specs.declared.entries.Role.{Role}
use Rattle.rpc_machine.specs.declared.entries.Role.TheVariants as role
use Rattle.rpc_machine.specs.State.{State}
use Rattle.rpc_machine.specs.Descriptors.{export_node}
use Rattle.laws_runs.specs.Meanings.{with_more}
use Rattle.laws_routes.specs.Premises.{EachOpen, OpenOf}
use Rattle.laws_routes.specs.QuietLaws.{IsAsked, IsFinished, MayClose, NoneAims, NoneNames}
use Rattle.laws_routes.specs.Sayings.{has_of}
use Rattle.laws_meanings.specs.NodeMeanings.{Meant}
use Rattle.laws_meanings.specs.NodeLabels.{Labels, asked_label, label}
use Rattle.laws_routes.proofs.AlikeSessions.{flipped}
use Rattle.laws_routes.proofs.SayingsCarried.{each_return}
use Rattle.laws_wires.specs.Wires.{Session, Reader, LinkMeans, WiresMean, ImportAgrees, QuestionAgrees, IsSession, asked_at, export_label, past, past_one, reader, sessions_at}
use Rattle.laws_wires.specs.WireLaws.{IsAlike}
use Rattle.laws_wires.specs.StepWires.{Around, OnTheWay, NamedAreKept, BackIsMet, BackMeans, BackIsLeft, OutIsLeft, ImportStays, QuestionStays, WasAsked, WiresLive, left, then}
use Rattle.laws_wires.proofs.LinksKept.{all_past, asked_past, label_on, links_are_closed, links_are_fewer, links_are_joined, links_are_met, links_live}

-- ---- A longer history

module _ (h : History) (more : List JournalEntry) where
  node_on : (v : Vat) (l : Labels) (n : Node) → label (with_more h more) v l n ≡ label h v l n
  node_on v l (node.Object o) = refl
  node_on v l (node.Promise p) = refl
  node_on v l (node.Field o path) = label_on h more (l.outcome o) path
  node_on v l (node.Import e) = refl
  node_on v l (node.Pipe q path) = label_on h more (l.question q.0) path
  node_on v l (node.Broken reason) = refl

  exports_on : (v : Vat) (l : Labels) (E : Map Export) → export_label (with_more h more) v l E ≡ export_label h v l E
  exports_on v l E = fun_ext (λ e. node_on v l (export_node (map.get E e)))

  import_on : (v : Vat) (l : Labels) (E : Map Export) (x : Option Meant) (e : ℕ) (o : Option Import) → ImportAgrees x (export_label h v l E e) o → ImportAgrees x (export_label (with_more h more) v l E e) o
  import_on v l E x e None a = tt
  import_on v l E x e (Some i) a = a ∙ sym (node_on v l (export_node (map.get E e)))

  reader_on : (v : Vat) (s : State) (l : Labels) (u : Vat) (t : State) (k : Labels) → reader h v s l u t k ≡ reader (with_more h more) v s l u t k
  reader_on v s l u t k =
      ap (λ (f : ℕ → Option Meant). record { sender = f; receiver = export_label h u k t.exports; question = λ q. asked_at k q (map.get t.questions q) }) (sym (exports_on v l s.exports))
      ∙ ap (λ (f : ℕ → Option Meant). record { sender = export_label (with_more h more) v l s.exports; receiver = f; question = λ q. asked_at k q (map.get t.questions q) }) (sym (exports_on u k t.exports))

pub wires_live : WiresLive
wires_live h more v s l u t k ms w = record {
  imports = λ e. import_on h more u k t.exports (l.import e) e (map.get s.imports e) (w.imports e);
  questions = w.questions;
  link = subst (λ (x : Reader). LinkMeans (with_more h more) v x (has_of [] t.imports t.questions) (sessions_at k t.answers) ms) (reader_on h more v s l u t k)
      (links_live h more v (reader h v s l u t k) (has_of [] t.imports t.questions) (sessions_at k t.answers) ms w.link);
}

-- ---- Exports that are kept

module _ (h : History) (w : Around) (x : OnTheWay) (kept : Map Export) (n : NamedAreKept h w x kept) where
  kept_label : (e : ℕ) → IsSome (map.get kept e) → export_label h w.v w.m w.t.exports e ≡ export_label h w.v w.l w.s.exports e
  kept_label e some = by (map.get kept e) refl some
    where
      by : (o : Option Export) → map.get kept e ≡ o → IsSome o → export_label h w.v w.m w.t.exports e ≡ export_label h w.v w.l w.s.exports e
      by None f some = let e : false ≡ true = some in cc
      by (Some y) f some =
          let a = n.was e y f in
          let b = n.is e y f in
          ap (λ (z : Option Export). label h w.v w.m (export_node z)) b.1 ∙ ap (λ (z : Node). label h w.v w.m z) b.2 ∙ n.means e y f
          ∙ sym (ap (λ (z : Option Export). label h w.v w.l (export_node z)) a.1 ∙ ap (λ (z : Node). label h w.v w.l z) a.2)

  -- ---- What is on its way to u

  out_alike : IsAlike kept w.z.exports (reader h w.v w.s w.l w.u w.z w.k) (reader h w.v w.t w.m w.u w.z w.k)
  out_alike = record { sender = kept_label; receiver = λ e some. refl }

  pub out_link : LinkMeans h w.v (reader h w.v w.s w.l w.u w.z w.k) (has_of [] w.z.imports w.z.questions) (sessions_at w.k w.z.answers) x.out
      → LinkMeans h w.v (reader h w.v w.t w.m w.u w.z w.k) (has_of [] w.z.imports w.z.questions) (sessions_at w.k w.z.answers) x.out
  out_link l =
      links_are_met h w.v kept w.z.exports (reader h w.v w.s w.l w.u w.z w.k) (reader h w.v w.t w.m w.u w.z w.k) (has_of [] w.z.imports w.z.questions) (sessions_at w.k w.z.answers) x.out out_alike n.named n.aimed
      (each_return _ x.out (λ q e. refl)) l

  -- ---- What is on its way to v

  back_alike : IsAlike w.z.exports kept (reader h w.u w.z w.k w.v w.s w.l) (reader h w.u w.z w.k w.v w.t w.m)
  back_alike = record { sender = λ e some. refl; receiver = kept_label }

  may_differ : BackIsMet w x → (q : ℕ) → (then w q ≡ x.now q) ⊎ (NoneAims q x.back × NoneNames q x.back)
  may_differ b q = go (b.sessions q)
    where
      go : (then w q ≡ x.now q) ⊎ MayClose w.z x.back q → (then w q ≡ x.now q) ⊎ (NoneAims q x.back × NoneNames q x.back)
      go (inl e) = inl e
      go (inr c) = inr (c.aims, c.names)

  back_link : BackIsMet w x → LinkMeans h w.u (reader h w.u w.z w.k w.v w.s w.l) x.has x.now x.back → LinkMeans h w.u (reader h w.u w.z w.k w.v w.t w.m) (left w) (then w) x.back
  back_link b l =
      let met = links_are_met h w.u w.z.exports kept (reader h w.u w.z w.k w.v w.s w.l) (reader h w.u w.z w.k w.v w.t w.m) x.has x.now x.back back_alike n.named_back n.aimed_back b.asked l in
      let fewer = links_are_fewer h w.u (reader h w.u w.z w.k w.v w.t w.m) x.has (left w) x.now x.back b.imports b.questions met in
      links_are_closed h w.u (reader h w.u w.z w.k w.v w.t w.m) (left w) x.now (then w) x.back (may_differ b) fewer

  back_import : (e : ℕ) (o : Option Import) → (IsSome o → IsSome (map.get kept e)) → ImportAgrees (w.k.import e) (export_label h w.v w.l w.s.exports e) o → ImportAgrees (w.k.import e) (export_label h w.v w.m w.t.exports e) o
  back_import e None f a = tt
  back_import e (Some y) f a = a ∙ sym (kept_label e (f refl))

  back_question : (q : ℕ) (o : Option Question) → (past w.u (then w) x.back q ≡ past w.u x.now x.back q) ⊎ IsFinished o → QuestionAgrees w.k q (past w.u x.now x.back q) o → QuestionAgrees w.k q (past w.u (then w) x.back q) o
  back_question q None f a = tt
  back_question q (Some y) (inl e) a = λ unsent. subst (λ (z : Session). IsSession w.k q z y.role) (sym e) (a unsent)
  back_question q (Some y) (inr f) a = λ unsent. absurd (f unsent)

  same_or_over : BackIsMet w x → (q : ℕ) → (past w.u (then w) x.back q ≡ past w.u x.now x.back q) ⊎ IsFinished (map.get w.z.questions q)
  same_or_over b q = go (b.sessions q)
    where
      ends : IsAsked q x.back ⊎ IsFinished (map.get w.z.questions q) → (past w.u (then w) x.back q ≡ past w.u x.now x.back q) ⊎ IsFinished (map.get w.z.questions q)
      ends (inl k) = inl (asked_past w.u q x.now (then w) x.back k)
      ends (inr f) = inr f

      go : (then w q ≡ x.now q) ⊎ MayClose w.z x.back q → (past w.u (then w) x.back q ≡ past w.u x.now x.back q) ⊎ IsFinished (map.get w.z.questions q)
      go (inl e) = inl (all_past w.u q x.now (then w) x.back e)
      go (inr c) = ends c.over

  pub back_left : BackIsMet w x → BackMeans h w x → WiresMean h w.u w.z w.k w.v w.t w.m x.back
  back_left b m = record {
    imports = λ e. back_import e (map.get w.z.imports e) (n.imported e) (m.imports e);
    questions = λ q. back_question q (map.get w.z.questions q) (same_or_over b q) (m.questions q);
    link = back_link b m.link;
  }

pub back_is_left : BackIsLeft
back_is_left h w x kept n b m = back_left h w x kept n b m

-- ---- What v knows of u

off_one : (v : Vat) (q : ℕ) (now : ℕ → Session) (m : Message) → OpenOf (λ k. nat_eq k q ≡ false) m → past_one v now m q ≡ now q
off_one v q now (message.Plain (plain.Abort exception)) h = refl
off_one v q now (message.Plain (plain.Bootstrap k)) h = ap (λ b. cond b (Some (v, OfBootstrap)) (now q)) (flipped k.0 q h)
off_one v q now (message.Plain (plain.Call c)) h = ap (λ b. cond b (Some (v, OfCall c.stamp)) (now q)) (flipped c.question.0 q h)
off_one v q now (message.Plain (plain.Return r)) h = refl
off_one v q now (message.Plain (plain.Finish x)) h = refl
off_one v q now (message.Plain (plain.Resolve r)) h = refl
off_one v q now (message.Plain (plain.Release r)) h = refl
off_one v q now (message.Plain (plain.Disembargo x)) h = refl
off_one v q now (message.Plain (plain.Other n)) h = refl
off_one v q now (message.Unimplemented m) h = refl

pub past_off : (v : Vat) (q : ℕ) (now : ℕ → Session) (ms : List Message) → EachOpen (λ k. nat_eq k q ≡ false) ms → past v now ms q ≡ now q
past_off v q now [] h = refl
past_off v q now (m ∷ ms) h = past_off v q (past_one v now m) ms h.1 ∙ off_one v q now m h.0

pub past_joined : (v : Vat) (now : ℕ → Session) (ms more : List Message) → past v now (ms ++ more) ≡ past v (past v now ms) more
past_joined v now [] more = refl
past_joined v now (m ∷ ms) more = past_joined v (past_one v now m) ms more

module _ (h : History) (w : Around) where
  import_left : (e : ℕ) (o : Option Import) (p : Option Import) → ImportStays h w e p → (IsSome (map.get w.s.imports e) → IsSome o) → ImportAgrees (w.l.import e) (export_label h w.u w.k w.z.exports e) o
      → ImportAgrees (w.m.import e) (export_label h w.u w.k w.z.exports e) p
  import_left e o None f there a = tt
  import_left e (Some y) (Some z) (inl k) there a = k.1 ∙ a
  import_left e None (Some z) (inl k) there a = let e : false ≡ true = there k.0 in cc
  import_left e o (Some z) (inr k) there a = k

  relabelled : (q : ℕ) (now : Session) (r : Role) → asked_label w.m q r ≡ asked_label w.l q r → IsSession w.l q now r → IsSession w.m q now r
  relabelled q now (role.Direct c) e a = a ∙ sym e
  relabelled q now (role.Relay o) e a = (a.0, a.1, a.2, e ∙ a.3, a.4)

  question_left : (out sends : List Message) (q : ℕ) (p : Option Question) → QuestionStays w out sends q p → QuestionAgrees w.l q (past w.v (sessions_at w.k w.z.answers) out q) (map.get w.s.questions q)
      → QuestionAgrees w.m q (past w.v (past w.v (sessions_at w.k w.z.answers) out) sends q) p
  question_left out sends q None f a = tt
  question_left out sends q (Some x) f a = λ unsent. go (f unsent)
    where
      was : (y : Question) → map.get w.s.questions q ≡ Some y → QuestionAgrees w.l q (past w.v (sessions_at w.k w.z.answers) out q) (Some y)
      was y e = subst (QuestionAgrees w.l q (past w.v (sessions_at w.k w.z.answers) out q)) e a

      go : WasAsked w sends q x ⊎ IsSession w.m q (past w.v (past w.v (sessions_at w.k w.z.answers) out) sends q) x.role → IsSession w.m q (past w.v (past w.v (sessions_at w.k w.z.answers) out) sends q) x.role
      go (inl k) =
          let y = k.1.0 in
          let before = was y k.1.1 k.1.2 in
          let same = subst (λ (r : Role). IsSession w.l q (past w.v (sessions_at w.k w.z.answers) out q) r) k.1.3 before in
          let moved = relabelled q (past w.v (sessions_at w.k w.z.answers) out q) x.role k.1.4 same in
          subst (λ (i : Session). IsSession w.m q i x.role) (sym (past_off w.v q (past w.v (sessions_at w.k w.z.answers) out) sends k.0)) moved
      go (inr k) = k

pub out_is_left : OutIsLeft
out_is_left h w x sends kept n o m = record {
  imports = λ e. import_left h w e (map.get w.s.imports e) (map.get w.t.imports e) (o.imports e) (λ some. some) (m.imports e);
  questions = λ q. subst (λ (f : ℕ → Session). QuestionAgrees w.m q (f q) (map.get w.t.questions q)) (sym (past_joined w.v (sessions_at w.k w.z.answers) x.out sends))
      (question_left h w x.out sends q (map.get w.t.questions q) (o.questions q) (m.questions q));
  link = links_are_joined h w.v (reader h w.v w.t w.m w.u w.z w.k) (has_of [] w.z.imports w.z.questions) (sessions_at w.k w.z.answers) x.out sends (out_link h w x kept n m.link) o.sent;
}
