-- What a received message does first keeps what nodes mean, where what it says means what it should; so does its step.
use Rattle.std.proofs.Common.{◌≡◌, ◌⊎◌, inl, inr, ℕ, zero, suc, true, false, Option, None, Some, unwrap_or, List, [], ◌∷◌, refl, sym, ap, ◌∙◌, IsSome, subst}
use Rattle.std.specs.FinMap as map
use Rattle.std.specs.List.{slice_get}
use Rattle.finite_maps.specs.Tally.{Map}
use Rattle.finite_maps.proofs.Tested.{at_put, at_cut, get_put}
use Rattle.rpc_msg.specs.declared.ids.Vat.{Vat}
use Rattle.rpc_msg.specs.declared.parts.Descriptor.{Descriptor}
use Rattle.rpc_msg.specs.declared.parts.Descriptor.TheVariants as descriptor
use Rattle.rpc_msg.specs.declared.parts.Target.{Target}
use Rattle.rpc_msg.specs.declared.parts.Target.TheVariants.{ImportedCap, PromisedAnswer}
use Rattle.rpc_msg.specs.declared.message.Call.{Call}
use Rattle.rpc_msg.specs.declared.message.ReturnBody.{ReturnBody}
use Rattle.rpc_msg.specs.declared.message.ReturnBody.TheVariants as body
use Rattle.rpc_msg.specs.declared.message.Message.{Message}
use Rattle.rpc_msg.specs.declared.message.Message.TheVariants as message
use Rattle.rpc_msg.specs.declared.message.PlainMessage.{PlainMessage}
use Rattle.rpc_msg.specs.declared.message.PlainMessage.TheVariants as plain
use Rattle.rpc_msg.specs.declared.message.ResolvedTo.{ResolvedTo}
use Rattle.rpc_msg.specs.declared.message.ResolvedTo.TheVariants as resolved
use Rattle.rpc_msg.specs.Paths.{fields}
use Rattle.rpc_msg.specs.Vats.{other_vat}
use Rattle.rpc_msg.specs.Op.{Op}
use Rattle.rpc_msg.specs.CapAt.{CapAt}
use Rattle.rpc_msg.specs.CapAt.TheVariants.{Cap, Null, NotCap}
use Rattle.rpc_journal.specs.History as history
use Rattle.rpc_journal.specs.Sources.{Asking, OfBootstrap, OfCall}
use Rattle.rpc_journal.specs.Meaning.{History, Broken}
use Rattle.rpc_machine.specs.Payloads.{cap_at}
use Rattle.rpc_machine.specs.Lists.{updated}
use Rattle.rpc_machine.specs.declared.command.Level.{Level}
use Rattle.rpc_machine.specs.declared.command.Level.TheVariants.{Zero, One}
use Rattle.rpc_machine.specs.declared.node.Node.{Node}
use Rattle.rpc_machine.specs.declared.node.Node.TheVariants as node
use Rattle.rpc_machine.specs.declared.node.Reason.TheVariants.{NotACapability}
use Rattle.rpc_machine.specs.declared.calls.Caller.TheVariants as caller
use Rattle.rpc_machine.specs.declared.calls.KeptOutcome.{KeptOutcome}
use Rattle.rpc_machine.specs.declared.calls.OwnCall.{OwnCall}
use Rattle.rpc_machine.specs.declared.calls.OwnCall.TheVariants as own
use Rattle.rpc_machine.specs.declared.calls.Value.{Value}
use Rattle.rpc_machine.specs.declared.entries.AnswerEntry.{AnswerEntry}
use Rattle.rpc_machine.specs.declared.entries.Export.{Export}
use Rattle.rpc_machine.specs.declared.entries.Finishing.{Finishing}
use Rattle.rpc_machine.specs.declared.entries.Finishing.TheVariants as finishing
use Rattle.rpc_machine.specs.declared.entries.Import.{Import}
use Rattle.rpc_machine.specs.declared.entries.Question.{Question}
use Rattle.rpc_machine.specs.declared.entries.Reference.{Reference}
use Rattle.rpc_machine.specs.declared.entries.Resolution.{Resolution}
use Rattle.rpc_machine.specs.declared.entries.Resolution.TheVariants as resolution
use Rattle.rpc_machine.specs.declared.entries.Returned.{Returned}
use Rattle.rpc_machine.specs.declared.entries.Role.{Role}
use Rattle.rpc_machine.specs.declared.entries.Role.TheVariants as role
use Rattle.rpc_machine.specs.declared.entries.SenderKind.{SenderKind}
use Rattle.rpc_machine.specs.State.{State}
use Rattle.rpc_machine.specs.Nodes.{node_of_cap}
use Rattle.rpc_machine.specs.Places.{nodes, named_by_export}
use Rattle.rpc_machine.specs.Progress.{quiet}
use Rattle.rpc_machine.specs.Advancing.{known_by, known_at, known_cap, known_by_return}
use Rattle.rpc_machine.specs.Descriptors.{export_node, answer_node, read_at, read, read_all, read_beside, received, take_one, take_each, take_at, take_all}
use Rattle.rpc_machine.specs.Faults.{target_node, is_foreign}
use Rattle.rpc_machine.specs.Messages.{bootstrap_value, results_of, value_of_results, set_resolution, resolve_import, take_resolve, unembargoed}
use Rattle.laws_acts.specs.Moments.{Moment, beginning}
use Rattle.laws_acts.specs.MessageActs.{Back, Brings, ByReturn, ByEchoedRoot, ByEchoedCall, returning, answered, Consumes}
use Rattle.laws_acts.specs.MessageActs as heard
use Rattle.laws_acts.proofs.EachStep.{at_end}
use Rattle.laws_acts.proofs.Received.{handles}
use Rattle.laws_steps.specs.NodesThere.{Stands, IsWhole}
use Rattle.laws_steps.specs.Callers.{HasOutcome, IsFor, peer}
use Rattle.laws_steps.proofs.Among.{named, in_exports}
use Rattle.laws_nodes.specs.Questions.{QuestionsEnd}
use Rattle.laws_nodes.specs.Sources.{HasOneSource}
use Rattle.laws_meanings.specs.NodeMeanings.{Meant, Itself, OfRef, field_meant, ByEnd, Leads}
use Rattle.laws_meanings.specs.NodeLabels.{Labels, field_label, LeadsTo, label, Means, MeansKnown, ValueMeans, RefMeans, OutcomeMeans, EmbargoMeans, OwnCallMeans, BackMeans, QuestionMeans, ResolvedMeans, ImportMeans, asked_label, Places, IsToldOf, AreLed, EndsAreLed, MomentMeans}
use Rattle.laws_meanings.specs.MessageMeanings.{CallHeard, IfAwaited, ReturnHeard, SaidOf, ResolveHeard, IsHeard, with_imports, ImportsKept, OutcomesKept, AnswersOf, ConsumingMeans, MessagesKeepMeanings}
use Rattle.laws_meanings.proofs.ActsMean.{acts_mean}
use Rattle.laws_meanings.proofs.CommandsMean.{up, routed}
use Rattle.laws_meanings.proofs.Relabelled.{Relabels, relabelled}
use Rattle.laws_meanings.proofs.OpensMean.{os, outcome_relabels, with_outcome, this_one}

-- ---- Imports come

-- Nothing is said of a new import.
nothing_said : (h : History) (v : Vat) (l : Labels) (o : Option Meant) → ResolvedMeans h v l o None
nothing_said h v l None = refl
nothing_said h v l (Some x) = tt

module _ (h : History) (v : Vat) (l : Labels) where
  abbrev AllImports : Map Import → Type 0
  AllImports m = (e : ℕ) → ImportMeans h v l e (map.get m e)

  came : (k : SenderKind) (e : ℕ) (o : Option Import) → ImportMeans h v l e o → ImportMeans h v l e (Some (received k o))
  came k e None i = nothing_said h v l (l.import e)
  came k e (Some x) i = i

  takes_one : (s : State) (d : Descriptor) → AllImports s.imports → AllImports (take_one s d).imports
  takes_one s descriptor.None i = i
  takes_one s (descriptor.SenderHosted e) i = at_put (λ k o. ImportMeans h v l k o) s.imports e.0 _ (came _ e.0 (map.get s.imports e.0) (i e.0)) (λ k n. i k)
  takes_one s (descriptor.SenderPromise e) i = at_put (λ k o. ImportMeans h v l k o) s.imports e.0 _ (came _ e.0 (map.get s.imports e.0) (i e.0)) (λ k n. i k)
  takes_one s (descriptor.ReceiverHosted e) i = i
  takes_one s (descriptor.ReceiverAnswer q path) i = i

  takes_each : (s : State) (ds : List Descriptor) → AllImports s.imports → AllImports (take_each s ds).imports
  takes_each s [] i = i
  takes_each s (d ∷ ds) i = takes_each (take_one s d) ds (takes_one s d i)

  takes_at : (k : Level) (s : State) (ds : List Descriptor) → AllImports s.imports → AllImports (take_at k s ds).imports
  takes_at Zero s ds i = i
  takes_at One s ds i = takes_each s ds i

  pub takes_all : (s : State) (ds : List Descriptor) → AllImports s.imports → AllImports (take_all s ds).imports
  takes_all s ds i = takes_at s.level s ds i

  -- ---- What is read

  module _ (s : State) where
    none_read : (k : Level) (x : Meant) → Means h v l x (read_at k s descriptor.None) → Leads h (Itself Broken) x
    none_read Zero x m = m
    none_read One x m = m

    known_read : (x : Meant) (d : Descriptor) → Means h v l x (read s d) → MeansKnown h v l x (known_by d (read s d))
    known_read x descriptor.None m = none_read s.level x m
    known_read x (descriptor.SenderHosted e) m = m
    known_read x (descriptor.SenderPromise e) m = m
    known_read x (descriptor.ReceiverHosted e) m = m
    known_read x (descriptor.ReceiverAnswer q path) m = m

    known_place : (x : Meant) (ds : List Descriptor) (i : ℕ) → Means h v l x (unwrap_or (slice_get (nodes (read_beside s ds)) i) (node.Broken NotACapability)) → MeansKnown h v l x (known_at (read_beside s ds) i)
    known_place x [] i m = m
    known_place x (d ∷ ds) zero m = known_read x d m
    known_place x (d ∷ ds) (suc i) m = known_place x ds i m

    known_field : (x : Meant) (ds : List Descriptor) (c : CapAt) → Means h v l x (node_of_cap (nodes (read_beside s ds)) c) → MeansKnown h v l x (known_cap (read_beside s ds) c)
    known_field x ds (Cap i) m = known_place x ds i m
    known_field x ds Null m = m
    known_field x ds NotCap m = m

    known_said : (a : Vat × Asking) (b : ReturnBody) → ValueMeans h v l a (value_of_results (results_of s b)) → (path : List Op) → MeansKnown h v l (field_meant h a.0 a.1 path) (known_by_return path (Some (results_of s b)))
    known_said a (body.Results payload ds) i path = known_field (field_meant h a.0 a.1 path) ds (cap_at payload path) (i.0 path)
    known_said a (body.Exception exception) i path = i.0 path
    known_said a body.Canceled i path = i.0 path

    -- ---- A Resolve

    resolved_so : (x : Option Meant) (d : Descriptor) → SaidOf h v l s x (resolved.Cap d) → ResolvedMeans h v l x (Some (resolution.To d (read s d)))
    resolved_so None d i = absurd i
    resolved_so (Some x) d i = known_read x d i

    broken_so : (x : Option Meant) (exception : _) → SaidOf h v l s x (resolved.Exception exception) → ResolvedMeans h v l x (Some (resolution.Exception exception))
    broken_so None exception i = absurd i
    broken_so (Some x) exception i = i

    put : (m : Map Import) (e : ℕ) (said : Resolution) (o : Option Import) → ResolvedMeans h v l (l.import e) (Some said) → AllImports m → AllImports (updated m e (set_resolution said) o)
    put m e said None r i = i
    put m e said (Some x) r i = at_put (λ k o. ImportMeans h v l k o) m e (set_resolution said x) r (λ k n. i k)

    resolves_cap : (e : ℕ) (d : Descriptor) (o : Option Import) → ResolveHeard h v l s e (resolved.Cap d) o → (u : State) → AllImports u.imports → AllImports (resolve_import u e (resolution.To d (read s d)) o).imports
    resolves_cap e d None r u i = i
    resolves_cap e d (Some x) r u i = put u.imports e (resolution.To d (read s d)) (map.get u.imports e) (resolved_so (l.import e) d r) i

    resolves_broken : (e : ℕ) (exception : _) (o : Option Import) → ResolveHeard h v l s e (resolved.Exception exception) o → (u : State) → AllImports u.imports → AllImports (resolve_import u e (resolution.Exception exception) o).imports
    resolves_broken e exception None r u i = i
    resolves_broken e exception (Some x) r u i = put u.imports e (resolution.Exception exception) (map.get u.imports e) (broken_so (l.import e) exception r) i

    resolves : (e : ℕ) (to : ResolvedTo) → ResolveHeard h v l s e to (map.get s.imports e) → AllImports s.imports → AllImports (take_resolve s e to).imports
    resolves e (resolved.Cap d) r i = resolves_cap e d (map.get s.imports e) r (take_all s (d ∷ [])) (takes_all s (d ∷ []) i)
    resolves e (resolved.Exception exception) r i = resolves_broken e exception (map.get s.imports e) r s i

-- ---- Labels of imports that come

module _ (h : History) (l : Labels) (s : State) (is : ℕ → Option Meant) (whole : IsWhole s) (kept : ImportsKept l s is) where
  pub imported : Relabels h s.vat l s l.promise is l.outcome l.question
  imported = record {
    named = λ n a. by n (whole.there n a);
    promises = λ p y e. refl;
    outcomes = λ o y e. refl;
    questions = λ q y e. refl;
    imports = kept;
    awaited = λ o e. refl;
    calls = λ c y e i. at c y i;
  }
    where
      some : (e : ℕ) (o : Option Import) → map.get s.imports e ≡ o → IsSome o → is e ≡ l.import e
      some e None f i = absurd (let bad : false ≡ true = i in cc)
      some e (Some y) f i = kept e y f

      by : (n : Node) → Stands s n → label h s.vat (with_imports l is) n ≡ label h s.vat l n
      by (node.Object o) i = refl
      by (node.Promise p) i = refl
      by (node.Field o path) i = refl
      by (node.Import e) i = some e.0 (map.get s.imports e.0) refl i
      by (node.Pipe q path) i = refl
      by (node.Broken reason) i = refl

      at : (c : ℕ) (y : OwnCall) → OwnCallMeans h s.vat l c (Some y) → OwnCallMeans h s.vat (with_imports l is) c (Some y)
      at c (own.Direct q) i = i
      at c (own.Kept o) i = i

-- What a received descriptor, and a target, stands for keeps its label.
module _ (h : History) (l : Labels) (s : State) (qs : ℕ → Option (Vat × Asking)) (whole : IsWhole s) (r : Relabels h s.vat l s l.promise l.import qs l.question) where
  abbrev now : Labels
  now = record l { outcome = qs }

  export_again : (e : ℕ) (o : Option Export) → map.get s.exports e ≡ o → label h s.vat now (export_node o) ≡ label h s.vat l (export_node o)
  export_again e None f = refl
  export_again e (Some x) f = r.named x.node (in_exports s x.node (named named_by_export e x x.node s.exports f (inl refl)))

  outcome_again : (q o : ℕ) (y : Option KeptOutcome) → map.get s.outcomes o ≡ y → IsFor (peer q) y → qs o ≡ l.outcome o
  outcome_again q o None e i = absurd i
  outcome_again q o (Some y) e i = r.outcomes o y e

  answer_again : (q : ℕ) (path : List Op) (o : Option AnswerEntry) → HasOutcome s.outcomes q o → label h s.vat now (answer_node path o) ≡ label h s.vat l (answer_node path o)
  answer_again q path None i = refl
  answer_again q path (Some a) i = ap (λ (z : Option (Vat × Asking)). field_label h z (fields path)) (outcome_again q a.outcome (map.get s.outcomes a.outcome) refl i)

  read_again : (k : Level) (d : Descriptor) → label h s.vat now (read_at k s d) ≡ label h s.vat l (read_at k s d)
  read_again Zero d = refl
  read_again One descriptor.None = refl
  read_again One (descriptor.SenderHosted e) = refl
  read_again One (descriptor.SenderPromise e) = refl
  read_again One (descriptor.ReceiverHosted e) = export_again e.0 (map.get s.exports e.0) refl
  read_again One (descriptor.ReceiverAnswer q path) = answer_again q.0 path (map.get s.answers q.0) (whole.callers.answers q.0)

  pub target_again : (t : Target) → label h s.vat now (target_node s t) ≡ label h s.vat l (target_node s t)
  target_again (ImportedCap e) = export_again e.0 (map.get s.exports e.0) refl
  target_again (PromisedAnswer q path) = answer_again q.0 path (map.get s.answers q.0) (whole.callers.answers q.0)

  all_again : (ds : List Descriptor) (i : ℕ) (n : Node) → slice_get (read_all s ds) i ≡ Some n → label h s.vat now n ≡ label h s.vat l n
  all_again [] i n e = let bad : ◌≡◌ {A = Option Node} None (Some n) = e in cc
  all_again (d ∷ ds) zero n e = let f : read s d ≡ n = (let g : Some (read s d) ≡ Some n = e in cc) in subst (λ (k : Node). label h s.vat now k ≡ label h s.vat l k) f (read_again s.level d)
  all_again (d ∷ ds) (suc i) n e = all_again ds i n e

  pub heard_again : (c : Call) → CallHeard h s.vat l s c → CallHeard h s.vat now s c
  heard_again c i = (
    λ j n e. let z = i.0 j n e in (z.0, z.1, subst (LeadsTo h z.0) (sym (all_again c.descriptors j n e)) z.2),
    subst (LeadsTo h (OfRef (history.caller c.stamp))) (sym (target_again c.target)) i.1,
  )

-- ---- The first act

awaited : {P : Type 0} (y : Finishing) → (y ≡ finishing.Owed) ⊎ (y ≡ finishing.Waived) → IfAwaited y P → P
awaited finishing.Owed w p = p
awaited finishing.Sent (inl e) p = let bad : finishing.Sent ≡ finishing.Owed = e in cc
awaited finishing.Sent (inr e) p = let bad : finishing.Sent ≡ finishing.Waived = e in cc
awaited finishing.Waived w p = p

module _ (h : History) (v : Vat) (l : Labels) (s : State) where
  -- What a question says that comes back.
  abbrev IsSaid : Back → Question → Type 0
  IsSaid b x =
      (a : Vat × Asking) × (asked_label l b.question x.role ≡ Some a) × ValueMeans h v l a (value_of_results b.said)
      × ((path : List Op) → MeansKnown h v l (field_meant h a.0 a.1 path) (known_by_return path (Some b.said)))

  said : (m : Message) (b : Back) (x : Question) → Brings s m b → IsHeard h v l s m → map.get s.questions b.question ≡ Some x → (x.finish ≡ finishing.Owed) ⊎ (x.finish ≡ finishing.Waived) → IsSaid b x
  said m b x (ByReturn r e f) i g k = subst (λ (z : Back). map.get s.questions z.question ≡ Some x → IsSaid z x) (sym f) by g
    where
      by : map.get s.questions r.answer.0 ≡ Some x → IsSaid (returning s r) x
      by n =
          let j = subst (IsHeard h v l s) e i in
          let z = awaited x.finish k (subst (ReturnHeard h v l s r.answer.0 (value_of_results (results_of s r.body))) n j) in
          (z.0, z.1, z.2, known_said h v l s z.0 r.body z.2)
  said m b x (ByEchoedRoot q e f) i g k = absurd (subst (IsHeard h v l s) e i)
  said m b x (ByEchoedCall c e f) i g k = absurd (subst (IsHeard h v l s) e i)

  same_asking : (q : ℕ) (b : Asking) (a : Vat × Asking) → l.question q ≡ Some (v, b) → l.question q ≡ Some a → a ≡ (v, b)
  same_asking q b a e f = let g : Some a ≡ Some (v, b) = sym f ∙ e in cc

  back_said : (q : ℕ) (k : Role) (o : Option Returned) (r : Returned) (a : Vat × Asking) → BackMeans h v l q k o → asked_label l q k ≡ Some a → ((path : List Op) → MeansKnown h v l (field_meant h a.0 a.1 path) (known_by_return path (Some r))) → BackMeans h v l q k (Some r)
  back_said q (role.Direct c) o r a i e f = (i.0, i.1, i.2, λ path. subst (λ (y : Vat × Asking). MeansKnown h v l (field_meant h y.0 y.1 path) (known_by_return path (Some r))) (same_asking q i.0 a i.2 e) (f path))
  back_said q (role.Relay u) o r a i e f = i

  told_said : (q : ℕ) (k : Role) (c : _) (o : Option Returned) (x : Value) (a : Vat × Asking) → k ≡ role.Direct c → BackMeans h v l q k o → asked_label l q k ≡ Some a → ValueMeans h v l a x → IsToldOf h v l (caller.Application c) x
  told_said q k c o x a e i f j =
      let b = subst (λ (z : Role). BackMeans h v l q z o) e i in
      let g : l.question q ≡ Some a = ap (asked_label l q) (sym e) ∙ f in
      (b.0, b.1, subst (λ (y : Vat × Asking). ValueMeans h v l y x) (same_asking q b.0 a b.2 g) j)

  -- An embargo is lifted.
  unembargoes : (r : ℕ) (o : Option Reference) → map.get s.refs r ≡ o → ((k : ℕ) → RefMeans h v l quiet k (map.get s.refs k)) → (k : ℕ) → RefMeans h v l quiet k (map.get (updated s.refs r unembargoed o) k)
  unembargoes r None e i = i
  unembargoes r (Some y) e i = at_put (λ k o. RefMeans h v l quiet k o) s.refs r (unembargoed y) (subst (RefMeans h v l quiet r) e (i r)) (λ k n. i k)

  -- The bootstrap object.
  root_again : (qs : ℕ → Option (Vat × Asking)) (a : Vat × Asking) (o : Option _) → ValueMeans h v l a (bootstrap_value o) → ValueMeans h v (record l { outcome = qs }) a (bootstrap_value o)
  root_again qs a None i = (i.0, (λ j n e. let bad : ◌≡◌ {A = Option Node} None (Some n) = e in cc), i.2)
  root_again qs a (Some o) i = ((λ path. at (cap_at _ path) (field_meant h a.0 a.1 path) (i.0 path)), caps, i.2)
    where
      at : (c : CapAt) (x : Meant) → Means h v l x (node_of_cap (node.Object o ∷ []) c) → Means h v (record l { outcome = qs }) x (node_of_cap (node.Object o ∷ []) c)
      at (Cap zero) x m = m
      at (Cap (suc j)) x m = m
      at Null x m = m
      at NotCap x m = m

      caps : (j : ℕ) (n : Node) → slice_get (node.Object o ∷ []) j ≡ Some n → (y : Meant) × ByEnd h a.0 j a.1 y × Means h v (record l { outcome = qs }) y n
      caps zero n e =
          let f : node.Object o ≡ n = (let g : Some (node.Object o) ≡ Some n = e in cc) in
          let z = i.1 zero (node.Object o) refl in
          (z.0, z.1, subst (Means h v (record l { outcome = qs }) z.0) f z.2)
      caps (suc j) n e = let bad : ◌≡◌ {A = Option Node} None (Some n) = e in cc

module _ (h : History) (l : Labels) (s : State) (is : ℕ → Option Meant) (kept : ImportsKept l s is) (whole : IsWhole s) (one : HasOneSource s) (ends : QuestionsEnd s) (before : Places h s.vat l quiet s) where
  abbrev m : Labels
  m = with_imports l is

  w : Places h s.vat m quiet s
  w = relabelled h s.vat l s l.promise is l.outcome l.question (imported h l s is whole kept) ends before

  abbrev Begun : Message → Moment → Type 0
  Begun x new = (qs : ℕ → Option (Vat × Asking)) × OutcomesKept l s qs × AnswersOf qs (other_vat s.vat) new.state x × MomentMeans h s.vat (record l { import = is; outcome = qs }) new

  -- One that asks nothing.
  quietly : (x : Message) (new : Moment) → AnswersOf l.outcome (other_vat s.vat) new.state x → MomentMeans h s.vat m new → Begun x new
  quietly x new a i = (l.outcome, (λ o y e. refl), a, i)

  consumed : (x : Message) (new : Moment) → IsHeard h s.vat m s x → Consumes (beginning s) x new → Begun x new
  consumed x new i (heard.OpensCall c o e f j u) =
      let y : Vat × Asking = (other_vat s.vat, OfCall c.stamp) in
      let qs = os h m s whole one ends w o y j in
      let n : Labels = record l { import = is; outcome = qs } in
      let b = with_outcome h m s whole one ends w o y j in
      let r = outcome_relabels h m s whole one ends w o y j in
      let it : KeptOutcome = record { caller = caller.Peer c.question; value = None; waiting = [] } in
      let is_of : qs o ≡ Some y = this_one o (Some y) (l.outcome o) in
      let k = heard_again h m s qs whole r c (subst (IsHeard h s.vat m s) e i) in (
        qs,
        r.outcomes,
        rw (u, e) (_, get_put s.answers c.question.0 _ c.question.0 ∙ this_one c.question.0 _ _, is_of),
        rw u (
          (b.0, b.1, b.2, at_put (λ k o. OutcomeMeans h s.vat n k o) s.outcomes o it (tt, tt, tt) (λ k g. b.3 k), b.4, b.5, b.6, b.7, takes_all h s.vat n s c.descriptors b.8),
          (((other_vat s.vat, is_of), k.0, k.1), tt),
          tt,
          tt,
          tt,
          tt,
          tt,
          tt,
        ),
      )
  consumed x new i (heard.OpensRoot q o e f j u) =
      let y : Vat × Asking = (other_vat s.vat, OfBootstrap) in
      let qs = os h m s whole one ends w o y j in
      let n : Labels = record l { import = is; outcome = qs } in
      let b = with_outcome h m s whole one ends w o y j in
      let r = outcome_relabels h m s whole one ends w o y j in
      let it : KeptOutcome = record { caller = caller.Peer q; value = None; waiting = [] } in
      let is_of : qs o ≡ Some y = this_one o (Some y) (l.outcome o) in
      let k = root_again h s.vat m s qs y s.bootstrap (subst (IsHeard h s.vat m s) e i) in (
        qs,
        r.outcomes,
        rw (u, e) (_, get_put s.answers q.0 _ q.0 ∙ this_one q.0 _ _, is_of),
        rw u (
          (b.0, b.1, b.2, at_put (λ k o. OutcomeMeans h s.vat n k o) s.outcomes o it (tt, tt, tt) (λ k g. b.3 k), b.4, b.5, b.6, b.7, b.8),
          tt,
          tt,
          ((y, is_of, k), tt),
          tt,
          tt,
          tt,
          tt,
        ),
      )
  consumed x new i (heard.Loses b y e f j k u) =
      quietly x new (no_answers e)
      (rw u ((w.0, w.1, w.2, w.3, w.4, w.5, w.6, at_cut (λ q o. QuestionMeans h s.vat m q o) s.questions b.question tt (λ q n. w.7 q), takes_all h s.vat m s b.descriptors w.8), tt, tt, tt, tt, tt, tt, tt))
    where
      no_answers : Brings s x b → AnswersOf l.outcome (other_vat s.vat) new.state x
      no_answers (ByReturn r e f) = rw e tt
      no_answers (ByEchoedRoot q e f) = rw e tt
      no_answers (ByEchoedCall c e f) = rw e tt
  consumed x new i (heard.ComesToCall b y c e f j k n u) =
      let z = said h s.vat m s x b y e i f k in
      let was : QuestionMeans h s.vat m b.question (Some y) = subst (QuestionMeans h s.vat m b.question) f (w.7 b.question) in
      let now = back_said h s.vat m s b.question y.role y.returned b.said z.0 was z.1 z.3 in
      quietly x new (no_answers e)
      (rw u ((w.0, w.1, w.2, w.3, w.4, w.5, w.6, at_put (λ q o. QuestionMeans h s.vat m q o) s.questions b.question (answered y b.waives b.said) now (λ q g. w.7 q), takes_all h s.vat m s b.descriptors w.8), tt, tt, tt, (told_said h s.vat m s b.question y.role c y.returned (value_of_results b.said) z.0 n was z.1 z.2, tt), tt, tt, tt))
    where
      no_answers : Brings s x b → AnswersOf l.outcome (other_vat s.vat) new.state x
      no_answers (ByReturn r e f) = rw e tt
      no_answers (ByEchoedRoot q e f) = rw e tt
      no_answers (ByEchoedCall c e f) = rw e tt
  consumed x new i (heard.ComesToRelay b y o e f j k n u) =
      let z = said h s.vat m s x b y e i f k in
      let was : QuestionMeans h s.vat m b.question (Some y) = subst (QuestionMeans h s.vat m b.question) f (w.7 b.question) in
      let now = back_said h s.vat m s b.question y.role y.returned b.said z.0 was z.1 z.3 in
      let is_of : l.outcome o ≡ Some z.0 = ap (asked_label m b.question) (sym n) ∙ z.1 in
      quietly x new (no_answers e)
      (rw u ((w.0, w.1, w.2, w.3, w.4, w.5, w.6, at_put (λ q o. QuestionMeans h s.vat m q o) s.questions b.question (answered y b.waives b.said) now (λ q g. w.7 q), takes_all h s.vat m s b.descriptors w.8), tt, ((z.0, is_of, z.2), tt), tt, tt, tt, tt, tt))
    where
      no_answers : Brings s x b → AnswersOf l.outcome (other_vat s.vat) new.state x
      no_answers (ByReturn r e f) = rw e tt
      no_answers (ByEchoedRoot q e f) = rw e tt
      no_answers (ByEchoedCall c e f) = rw e tt
  consumed x new i (heard.IsFinished f a e j k u) = quietly x new (rw e tt) (rw u (w, tt, tt, tt, tt, tt, tt, tt))
  consumed x new i (heard.IsResolved r e u) =
      let j = subst (IsHeard h s.vat m s) e i in
      quietly x new (rw e tt) (rw u ((w.0, w.1, w.2, w.3, w.4, w.5, w.6, w.7, resolves h s.vat m s r.promise.0 r.to j w.8), tt, tt, tt, tt, tt, tt, tt))
  consumed x new i (heard.IsReleased r e u) = quietly x new (rw e tt) (rw u (w, tt, tt, tt, tt, tt, tt, tt))
  consumed x new i (heard.SendsBack t to b e f u) = quietly x new (rw e tt) (rw u (w, tt, tt, tt, tt, tt, tt, tt))
  consumed x new i (heard.Lifts t q b e f u) =
      let was : EmbargoMeans h s.vat m (Some b) = subst (EmbargoMeans h s.vat m) f (w.4 q.0) in
      quietly x new (rw e tt)
      (rw u ((unembargoes h s.vat m s b.reference.0 (map.get s.refs b.reference.0) refl w.0, w.1, w.2, w.3, at_cut (λ k o. EmbargoMeans h s.vat m o) s.embargoes q.0 tt (λ k n. w.4 k), w.5, w.6, w.7, w.8), routed h s.vat m s ends w b.node b.waiting was.0, tt, tt, tt, tt, tt, tt))
  consumed x new i (heard.SendsForeign p e f u) = quietly x new (rw e (by s.level p f)) (rw u (w, tt, tt, tt, tt, tt, tt, tt))
    where
      by : (k : Level) (p : PlainMessage) → is_foreign k p ≡ true → AnswersOf l.outcome (other_vat s.vat) new.state (message.Plain p)
      by One p g = absurd (let bad : false ≡ true = g in cc)
      by Zero (plain.Abort exception) g = tt
      by Zero (plain.Bootstrap q) g = absurd (let bad : false ≡ true = g in cc)
      by Zero (plain.Call c) g = absurd (let bad : false ≡ true = g in cc)
      by Zero (plain.Return r) g = tt
      by Zero (plain.Finish f) g = tt
      by Zero (plain.Resolve r) g = tt
      by Zero (plain.Release r) g = tt
      by Zero (plain.Disembargo d) g = tt
      by Zero (plain.Other n) g = tt
  consumed x new i (heard.SendsOther n e u) = quietly x new (rw e tt) (rw u (w, tt, tt, tt, tt, tt, tt, tt))
  consumed x new i (heard.TakesBack r e u) = quietly x new (rw e tt) (rw u (w, tt, tt, tt, tt, tt, tt, tt))
  consumed x new i (heard.Ignores r e u) = quietly x new (rw e tt) (rw u (w, tt, tt, tt, tt, tt, tt, tt))

-- ---- The laws

pub consuming_means : ConsumingMeans
consuming_means h l s is x new kept i whole one ends w c = consumed h l s is kept whole one ends w x new i c

pub messages_mean : MessagesKeepMeanings
messages_mean h l s is m x t kept i whole one ends w free k =
    let a = handles s m x t free k in
    let b = consumed h l s is kept whole one ends w m a.consumed i a.consumes in
    let z = acts_mean h s.vat (record l { import = is; outcome = b.0 }) a.consumed a.last a.acts b.3 in
    let n : Labels = record { promise = z.0; import = is; outcome = b.0; question = l.question } in
    let q = z.1 in
    let e = at_end (λ u y. Places h s.vat n y u × AreLed h s.vat y.deliveries × EndsAreLed h s.vat y.answers) a.last x t a.ends (up h s.vat n a.last.effects a.last.state q.0, q.5, q.7) in
    (z.0, b.0, b.1, e.0, e.1, e.2)
