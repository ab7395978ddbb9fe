-- What is read on its way as it should is heard so by its receiver.
use Rattle.std.proofs.Common.{◌≡◌, ℕ, zero, suc, Option, None, Some, is_some, List, [], ◌∷◌, refl, sym, subst}
use Rattle.std.specs.FinMap as map
use Rattle.rpc_msg.specs.Op.{Op}
use Rattle.rpc_msg.specs.CapAt.{CapAt}
use Rattle.rpc_msg.specs.CapAt.TheVariants.{Cap, Null, NotCap}
use Rattle.rpc_msg.specs.declared.ids.ObjectId.{ObjectId}
use Rattle.rpc_msg.specs.declared.ids.Vat.{Vat}
use Rattle.rpc_msg.specs.declared.ids.Vat.TheVariants.{A, B}
use Rattle.rpc_msg.specs.declared.parts.Descriptor.{Descriptor}
use Rattle.rpc_msg.specs.declared.parts.Descriptor.TheVariants as descriptor
use Rattle.rpc_msg.specs.declared.parts.Target.{Target}
use Rattle.rpc_msg.specs.declared.parts.Target.TheVariants.{ImportedCap, PromisedAnswer}
use Rattle.rpc_msg.specs.declared.message.ReturnBody.{ReturnBody}
use Rattle.rpc_msg.specs.declared.message.ReturnBody.TheVariants as body
use Rattle.rpc_msg.specs.declared.message.ResolvedTo.{ResolvedTo}
use Rattle.rpc_msg.specs.declared.message.ResolvedTo.TheVariants as resolved
use Rattle.rpc_msg.specs.declared.message.PlainMessage.{PlainMessage}
use Rattle.rpc_msg.specs.declared.message.PlainMessage.TheVariants as plain
use Rattle.rpc_msg.specs.declared.message.Message.{Message}
use Rattle.rpc_msg.specs.declared.message.Message.TheVariants as message
use Rattle.rpc_msg.specs.Paths.{fields}
use Rattle.rpc_msg.specs.Vats.{other_vat}
use Rattle.rpc_journal.specs.Sources.{Asking}
use Rattle.rpc_journal.specs.Meaning.{History, root}
use Rattle.rpc_machine.specs.Claims.{history, object_number}
use Rattle.rpc_machine.specs.Payloads.{cap_at}
use Rattle.rpc_machine.specs.declared.command.Level.TheVariants.{One}
use Rattle.rpc_machine.specs.declared.entries.AnswerEntry.{AnswerEntry}
use Rattle.rpc_machine.specs.declared.entries.Finishing.{Finishing}
use Rattle.rpc_machine.specs.declared.entries.Finishing.TheVariants as finishing
use Rattle.rpc_machine.specs.declared.entries.Import.{Import}
use Rattle.rpc_machine.specs.declared.entries.Question.{Question}
use Rattle.rpc_machine.specs.State.{State}
use Rattle.rpc_machine.specs.Faults.{fault_of}
use Rattle.rpc_machine.specs.Sweeping.{IsNotSent}
use Rattle.rpc_machine.specs.World.{core, inbox}
use Rattle.laws_steps.specs.NodesThere.{IsWhole}
use Rattle.laws_runs.specs.SceneSessions.{CountsOfScenes}
use Rattle.laws_messages.proofs.About.{levels}
use Rattle.laws_runs.specs.Scenes.{Scene, IsScene}
use Rattle.laws_routes.specs.SayingLaws.{IsNotCanceled}
use Rattle.laws_routes.specs.Sayings.{SaidIfThere, has_of, is_waiting, not_sent}
use Rattle.laws_scenes.specs.Meeting.{IfThere}
use Rattle.laws_scenes.specs.Canceled.{CanceledWereGivenUp, CancelsOnlyGivenUp}
use Rattle.laws_meanings.specs.FitCores.{CoresAreFit}
use Rattle.laws_meanings.specs.NodeMeanings.{Meant, field_meant}
use Rattle.laws_meanings.specs.NodeLabels.{Labels, LeadsTo, asked_label, field_label}
use Rattle.laws_meanings.specs.MessageMeanings.{ImportsKept, IsHeard, ResolveRead, answer_label, wire_label, wire_target_label, with_imports}
use Rattle.laws_meanings.specs.ReadMessages.{MessagesAreHeard, PlainRead, ReturnRead, cap_read, place_read}
use Rattle.laws_wires.specs.Wires.{ImportAgrees, LinkMeans, MessageMeans, Reader, ResolveMeans, ReturnMeans, Session, asked_at, export_label, read_label, reader, resolved_label, session_of, sessions_at, target_label}
use Rattle.laws_sound.specs.OldestHeard.{OldestAreHeard, RootsAreHosted}

-- What is known of a vat that receives.
record Receives (h : History) (t : State) : Type 0 where
  whole : IsWhole t
  level : t.level ≡ One
  root : root h t.vat ≡ object_number t.bootstrap

-- From the vat u in the state s to one in the state t.
module _ (laws : MessagesAreHeard) (h : History) (u : Vat) (s : State) (l : Labels) (t : State) (k : Labels) (known : Receives h t) where
  abbrev is : ℕ → Option Meant
  is e = export_label h u l s.exports e

  abbrev m : Labels
  m = with_imports k is

  abbrev by : Reader
  by = reader h u s l t.vat t k

  abbrev now : ℕ → Session
  now = sessions_at k t.answers

  answer_same : (o : Option AnswerEntry) (path : List Op) → field_label h (session_of k.outcome o) (fields path) ≡ answer_label h t.vat k t o path
  answer_same None path = refl
  answer_same (Some a) path = refl

  read_same : (d : Descriptor) → read_label h by now d ≡ wire_label h t.vat k t is d
  read_same descriptor.None = refl
  read_same (descriptor.SenderHosted e) = refl
  read_same (descriptor.SenderPromise e) = refl
  read_same (descriptor.ReceiverHosted e) = refl
  read_same (descriptor.ReceiverAnswer q path) = answer_same (map.get t.answers q.0) path

  target_same : (x : Target) → target_label h by now x ≡ wire_target_label h t.vat k t x
  target_same (ImportedCap e) = refl
  target_same (PromisedAnswer q path) = answer_same (map.get t.answers q.0) path

  -- ---- A Return

  index_same : (ds : List Descriptor) (i : ℕ) → place_read (read_label h by now) ds i ≡ place_read (wire_label h t.vat k t is) ds i
  index_same [] i = refl
  index_same (d ∷ ds) zero = read_same d
  index_same (d ∷ ds) (suc i) = index_same ds i

  cap_same : (ds : List Descriptor) (c : CapAt) → cap_read (read_label h by now) ds c ≡ cap_read (wire_label h t.vat k t is) ds c
  cap_same ds (Cap i) = index_same ds i
  cap_same ds Null = refl
  cap_same ds NotCap = refl

  return_reads : (x : ReturnBody) (a : Vat × Asking) → IsNotCanceled x → ReturnMeans h (read_label h by now) a x → ReturnRead h (wire_label h t.vat k t is) a x
  return_reads (body.Results payload ds) a c i = (
    λ path. subst (LeadsTo h (field_meant h a.0 a.1 path)) (cap_same ds (cap_at payload path)) (i.0 path),
    λ j d e. let y = i.1 j d e in (y.0, y.1, subst (LeadsTo h y.0) (read_same d) y.2),
    i.2,
  )
  return_reads (body.Exception exception) a c i = i
  return_reads body.Canceled a c i = absurd c

  waiting : (P : Type 0) (f : Finishing) → IsNotSent f → SaidIfThere (not_sent f) P → P
  waiting P finishing.Owed n i = i
  waiting P finishing.Sent n i = absurd n
  waiting P finishing.Waived n i = i

  return_heard : (q : ℕ) (x : ReturnBody) (o : Option Question) → IfThere (λ (y : Question). IsNotSent y.finish → IsNotCanceled x) o
      → SaidIfThere (is_waiting o) ((a : Vat × Asking) × (asked_at k q o ≡ Some a) × ReturnMeans h (read_label h by now) a x)
      → (y : Question) → o ≡ Some y → IsNotSent y.finish → (a : Vat × Asking) × (asked_label k q y.role ≡ Some a) × ReturnRead h (wire_label h t.vat k t is) a x
  return_heard q x None c i y f n = let bad : ◌≡◌ {A = Option Question} None (Some y) = f in cc
  return_heard q x (Some z) c i y f n =
      let g : z ≡ y = (let g : Some z ≡ Some y = f in cc) in
      let canceled = subst (λ (w : Question). IsNotSent w.finish → IsNotCanceled x) g c in
      let said = subst (λ (w : Question). SaidIfThere (not_sent w.finish) ((a : Vat × Asking) × (asked_label k q w.role ≡ Some a) × ReturnMeans h (read_label h by now) a x)) g i in
      let r = waiting ((a : Vat × Asking) × (asked_label k q y.role ≡ Some a) × ReturnMeans h (read_label h by now) a x) y.finish n said in
      (r.0, r.1, return_reads x r.0 (canceled n) r.2)

  -- ---- A Resolve

  resolve_reads : (to : ResolvedTo) (y : Meant) → LeadsTo h y (resolved_label (read_label h by now) to) → ResolveRead h (wire_label h t.vat k t is) y to
  resolve_reads (resolved.Cap d) y i = subst (LeadsTo h y) (read_same d) i
  resolve_reads (resolved.Exception exception) y i = i

  resolve_heard : (e : ℕ) (to : ResolvedTo) (o : Option Import) → SaidIfThere (is_some o) (ResolveMeans h (read_label h by now) (is e) to) → (x : Import) → o ≡ Some x → (y : Meant) × (is e ≡ Some y) × ResolveRead h (wire_label h t.vat k t is) y to
  resolve_heard e to None i x f = let bad : ◌≡◌ {A = Option Import} None (Some x) = f in cc
  resolve_heard e to (Some z) i x f = (i.0, i.1, resolve_reads to i.0 i.2)

  -- ---- A message

  said : (x : PlainMessage) → CancelsOnlyGivenUp t x → MessageMeans h u by (has_of [] t.imports t.questions) now x → PlainRead h k t is x
  said (plain.Abort exception) c i = tt
  said (plain.Bootstrap q) c i = known.root
  said (plain.Call x) c i = (
    subst (LeadsTo h _) (target_same x.target) i.0,
    λ j d e. let y = i.1 j d e in (y.0, y.1, subst (LeadsTo h y.0) (read_same d) y.2),
  )
  said (plain.Return r) c i = return_heard r.answer.0 r.body (map.get t.questions r.answer.0) c i
  said (plain.Finish x) c i = tt
  said (plain.Resolve r) c i = resolve_heard r.promise.0 r.to (map.get t.imports r.promise.0) i
  said (plain.Release r) c i = tt
  said (plain.Disembargo d) c i = tt
  said (plain.Other n) c i = tt

  heard : (x : PlainMessage) → ImportsKept k t is → fault_of t (message.Plain x) ≡ None → CancelsOnlyGivenUp t x → MessageMeans h u by (has_of [] t.imports t.questions) now x → IsHeard h t.vat m t (message.Plain x)
  heard x kept f c i = laws h k t is (message.Plain x) kept known.whole known.level f (said x c i)

-- ---- In scenes

module _ (h : History) (u v : Vat) (s t : State) (l k : Labels) where
  kept_imports : ((e : ℕ) → ImportAgrees (k.import e) (export_label h u l s.exports e) (map.get t.imports e)) → ImportsKept k t (λ e. export_label h u l s.exports e)
  kept_imports i e y f = sym (subst (λ (o : Option Import). ImportAgrees (k.import e) (export_label h u l s.exports e) o) f (i e))

module _ (hosted : RootsAreHosted) (laws : MessagesAreHeard) (fit : CoresAreFit) (canceled : CanceledWereGivenUp) (counts : CountsOfScenes) where
  at_vat : (a b : Option ObjectId) (x : Scene) (v : Vat) (k l : Labels) (m : Message) (ms : List Message) → IsScene a b x → inbox x.world v ≡ m ∷ ms → fault_of (core x.world v) m ≡ None
      → ((e : ℕ) → ImportAgrees (k.import e) (export_label (history a b x.journal) (other_vat v) l (core x.world (other_vat v)).exports e) (map.get (core x.world v).imports e))
      → LinkMeans (history a b x.journal) (other_vat v) (reader (history a b x.journal) (other_vat v) (core x.world (other_vat v)) l v (core x.world v) k) (has_of [] (core x.world v).imports (core x.world v).questions) (sessions_at k (core x.world v).answers) (inbox x.world v)
      → ImportsKept k (core x.world v) (λ e. export_label (history a b x.journal) (other_vat v) l (core x.world (other_vat v)).exports e)
      × IsHeard (history a b x.journal) v (with_imports k (λ e. export_label (history a b x.journal) (other_vat v) l (core x.world (other_vat v)).exports e)) (core x.world v) m
  at_vat a b x v k l m ms scene e f imports link =
      let h = history a b x.journal in
      let u = other_vat v in
      let s = core x.world u in
      let t = core x.world v in
      let is : ℕ → Option Meant = (λ i. export_label h u l s.exports i) in
      let ready = fit a b x scene v in
      let kept = kept_imports h u v s t l k imports in
      let known : Receives h t = (record { whole = ready.whole; level = levels x.world (counts.sessions a b x scene) v; root = subst (λ (z : Vat). root h z ≡ object_number t.bootstrap) (sym ready.vat) (hosted a b x v scene) }) in
      let p = counts.oldest a b x scene v m ms e in
      let e_plain : inbox x.world v ≡ message.Plain p.0 ∷ ms = subst (λ (y : Message). inbox x.world v ≡ y ∷ ms) p.1 e in
      let head = subst (λ (ns : List Message). LinkMeans h u (reader h u s l v t k) (has_of [] t.imports t.questions) (sessions_at k t.answers) ns) e_plain link in
      let there = subst (λ (z : Vat). MessageMeans h u (reader h u s l z t k) (has_of [] t.imports t.questions) (sessions_at k t.answers) p.0) (sym ready.vat) head.0 in
      let here = heard laws h u s l t k known p.0 kept (subst (λ (y : Message). fault_of t y ≡ None) p.1 f) (canceled a b x scene v p.0 ms e_plain) there in
      (kept, subst (λ (y : Message). IsHeard h v (with_imports k is) t y) (sym p.1) (subst (λ (z : Vat). IsHeard h z (with_imports k is) t (message.Plain p.0)) ready.vat here))

  pub oldest_heard : OldestAreHeard
  oldest_heard a b x l A m ms scene e f i = at_vat a b x A (l A) (l B) m ms scene e f (i.wires A).imports (i.wires B).link
  oldest_heard a b x l B m ms scene e f i = at_vat a b x B (l B) (l A) m ms scene e f (i.wires B).imports (i.wires A).link
