-- A label at a key that nothing names may change.
use Rattle.std.proofs.Common.{◌≡◌, inl, inr, ℕ, zero, suc, ◌≤◌, Option, None, Some, unwrap_or, List, [], ◌∷◌, refl, sym, ap, ◌∙◌, subst, arith}
use Rattle.std.specs.FinMap as map
use Rattle.std.specs.List.{slice_get}
use Rattle.finite_maps.proofs.Tallies.{tally-within}
use Rattle.finite_maps.proofs.Tested.{itself}
use Rattle.rpc_msg.specs.declared.ids.Vat.{Vat}
use Rattle.rpc_msg.specs.declared.parts.Descriptor.{Descriptor}
use Rattle.rpc_msg.specs.declared.parts.Descriptor.TheVariants as descriptor
use Rattle.rpc_msg.specs.Op.{Op}
use Rattle.rpc_msg.specs.CapAt.{CapAt}
use Rattle.rpc_msg.specs.CapAt.TheVariants.{Cap, Null, NotCap}
use Rattle.rpc_journal.specs.History as history
use Rattle.rpc_journal.specs.Sources.{Asking}
use Rattle.rpc_journal.specs.Meaning.{History}
use Rattle.rpc_machine.specs.Payloads.{cap_at}
use Rattle.rpc_machine.specs.declared.node.Node.{Node}
use Rattle.rpc_machine.specs.declared.node.Node.TheVariants as node
use Rattle.rpc_machine.specs.declared.node.Reason.TheVariants.{NotACapability}
use Rattle.rpc_machine.specs.declared.calls.Caller.{Caller}
use Rattle.rpc_machine.specs.declared.calls.Caller.TheVariants as caller
use Rattle.rpc_machine.specs.declared.calls.HeldCall.{HeldCall}
use Rattle.rpc_machine.specs.declared.calls.KeptOutcome.{KeptOutcome}
use Rattle.rpc_machine.specs.declared.calls.OwnCall.{OwnCall}
use Rattle.rpc_machine.specs.declared.calls.Promise.{Promise}
use Rattle.rpc_machine.specs.declared.calls.Promise.TheVariants as promise
use Rattle.rpc_machine.specs.declared.calls.Value.{Value}
use Rattle.rpc_machine.specs.declared.calls.Value.TheVariants as value
use Rattle.rpc_machine.specs.declared.calls.WaitingCall.{WaitingCall}
use Rattle.rpc_machine.specs.declared.entries.Embargo.{Embargo}
use Rattle.rpc_machine.specs.declared.entries.Import.{Import}
use Rattle.rpc_machine.specs.declared.entries.Question.{Question}
use Rattle.rpc_machine.specs.declared.entries.Reference.{Reference}
use Rattle.rpc_machine.specs.declared.entries.Resolution.{Resolution}
use Rattle.rpc_machine.specs.declared.entries.Resolution.TheVariants as resolution
use Rattle.rpc_machine.specs.declared.entries.Returned.{Returned}
use Rattle.rpc_machine.specs.declared.entries.Returned.TheVariants as back
use Rattle.rpc_machine.specs.declared.entries.Role.{Role}
use Rattle.rpc_machine.specs.declared.entries.Role.TheVariants as role
use Rattle.rpc_machine.specs.State.{State}
use Rattle.rpc_machine.specs.Nodes.{node_of_cap}
use Rattle.rpc_machine.specs.Places.{named_by_calls, named_by_held, named_by_value, nodes, named_by_returned, named_by_resolution, named_by_reference, named_by_embargo, named_by_promise, named_by_outcome, named_by_question, named_by_import, places}
use Rattle.rpc_machine.specs.Progress.{quiet}
use Rattle.rpc_machine.specs.Advancing.{known_by, known_by_resolve, known_at, known_cap, known_by_return}
use Rattle.laws_steps.specs.Settled.{IsAmong}
use Rattle.laws_steps.proofs.Among.{among_left, among_right, named, in_refs, in_embargoes, in_promises, in_outcomes, in_questions, in_imports}
use Rattle.laws_nodes.specs.Sources.{sources, calls_for, held_for}
use Rattle.laws_nodes.specs.Sources as source
use Rattle.laws_nodes.specs.Ones.{one_if}
use Rattle.laws_nodes.specs.Questions.{QuestionsEnd, IsRelayOpen, IsOpen}
use Rattle.laws_meanings.specs.NodeMeanings.{Meant, OfRef, field_meant}
use Rattle.laws_meanings.specs.NodeLabels.{Labels, field_label, LeadsTo, label, Means, MeansKnown, CallAt, CallsAt, HeldAt, ValueMeans, RefMeans, PromiseMeans, IsUnsettled, CallerIs, ValueIs, OutcomeMeans, EmbargoMeans, TaskMeans, OwnCallMeans, BackMeans, QuestionMeans, ResolvedMeans, ImportMeans, Places}

among_at : (ns : List Node) (i : ℕ) (n : Node) → slice_get ns i ≡ Some n → IsAmong n ns
among_at [] i n e = let bad : ◌≡◌ {A = Option Node} None (Some n) = e in cc
among_at (m ∷ ms) zero n e = inl (let f : Some m ≡ Some n = e in cc)
among_at (m ∷ ms) (suc i) n e = inr (among_at ms i n e)

-- At a vat between steps.
module _ (h : History) (v : Vat) (l : Labels) (s : State) (ps is : ℕ → Option Meant) (os qs : ℕ → Option (Vat × Asking)) where
  abbrev pub m : Labels
  m = record { promise = ps; import = is; outcome = os; question = qs }

  -- What is named, and what is there, keeps its label; so does an outcome that something waits to make known.
  pub record Relabels : Type 0 where
    pub named : (n : Node) → IsAmong n (places s) → label h v m n ≡ label h v l n
    pub promises : (p : ℕ) (y : Promise) → map.get s.promises p ≡ Some y → ps p ≡ l.promise p
    pub outcomes : (o : ℕ) (y : KeptOutcome) → map.get s.outcomes o ≡ Some y → os o ≡ l.outcome o
    pub questions : (q : ℕ) (y : Question) → map.get s.questions q ≡ Some y → qs q ≡ l.question q
    pub imports : (e : ℕ) (y : Import) → map.get s.imports e ≡ Some y → is e ≡ l.import e
    pub awaited : (o : ℕ) → 1 ≤ sources o s → os o ≡ l.outcome o
    pub calls : (c : ℕ) (y : OwnCall) → map.get s.calls c ≡ Some y → OwnCallMeans h v l c (Some y) → OwnCallMeans h v m c (Some y)

  module _ (r : Relabels) (ends : QuestionsEnd s) where
    again : (x : Meant) (n : Node) → label h v m n ≡ label h v l n → Means h v l x n → Means h v m x n
    again x n e i = subst (LeadsTo h x) (sym e) i

    at_named : (x : Meant) (n : Node) → IsAmong n (places s) → Means h v l x n → Means h v m x n
    at_named x n a i = again x n (r.named n a) i

    call_again : (n : Node) (c : WaitingCall) → os c.outcome ≡ l.outcome c.outcome → label h v m n ≡ label h v l n → ((k : Node) → IsAmong k c.request.caps → IsAmong k (places s)) → CallAt h v l n c → CallAt h v m n c
    call_again n c e f g i = ((i.0.0, e ∙ i.0.1), (λ j k a. let z = i.1 j k a in (z.0, z.1, at_named z.0 k (g k (among_at c.request.caps j k a)) z.2)), again (OfRef (history.caller c.request.stamp)) n f i.2)

    calls_again : (n : Node) (cs : List WaitingCall) → ((o : ℕ) → 1 ≤ calls_for o cs → os o ≡ l.outcome o) → label h v m n ≡ label h v l n → ((k : Node) → IsAmong k (named_by_calls cs) → IsAmong k (places s)) → CallsAt h v l n cs → CallsAt h v m n cs
    calls_again n [] e f g i = tt
    calls_again n (c ∷ cs) e f g i = (
      call_again n c (e c.outcome (let a = itself c.outcome in let b = ap one_if a in omega arith)) f (λ k a. g k (among_left k c.request.caps (named_by_calls cs) a)) i.0,
      calls_again n cs (λ o a. e o (omega arith)) f (λ k a. g k (among_right k c.request.caps (named_by_calls cs) a)) i.1,
    )

    held_again : (u : ℕ) (xs : List HeldCall) → ((o : ℕ) → 1 ≤ held_for o xs → os o ≡ l.outcome o) → os u ≡ l.outcome u → ((k : Node) → IsAmong k (named_by_held xs) → IsAmong k (places s)) → HeldAt h v l u xs → HeldAt h v m u xs
    held_again u [] e f g i = tt
    held_again u (x ∷ xs) e f g i = (
      call_again (node.Field u x.path) x.call (e x.call.outcome (let a = itself x.call.outcome in let b = ap one_if a in omega arith)) (ap (λ (z : Option (Vat × Asking)). field_label h z x.path) f) (λ k a. g k (among_left k x.call.request.caps (named_by_held xs) a)) i.0,
      held_again u xs (λ o a. e o (omega arith)) f (λ k a. g k (among_right k x.call.request.caps (named_by_held xs) a)) i.1,
    )

    cap_again : (x : Meant) (caps : List Node) (o : Option Node) → ((k : Node) → o ≡ Some k → IsAmong k (places s)) → Means h v l x (unwrap_or o (node.Broken NotACapability)) → Means h v m x (unwrap_or o (node.Broken NotACapability))
    cap_again x caps None g i = i
    cap_again x caps (Some n) g i = at_named x n (g n refl) i

    field_again : (x : Meant) (caps : List Node) (c : CapAt) → ((k : Node) → IsAmong k caps → IsAmong k (places s)) → Means h v l x (node_of_cap caps c) → Means h v m x (node_of_cap caps c)
    field_again x caps (Cap j) g i = cap_again x caps (slice_get caps j) (λ k e. g k (among_at caps j k e)) i
    field_again x caps Null g i = i
    field_again x caps NotCap g i = i

    value_again : (a : Vat × Asking) (y : Value) → ((k : Node) → IsAmong k (named_by_value (Some y)) → IsAmong k (places s)) → ValueMeans h v l a y → ValueMeans h v m a y
    value_again a (value.Results payload caps) g i = (
      λ path. field_again (field_meant h a.0 a.1 path) caps (cap_at payload path) g (i.0 path),
      λ j n e. let z = i.1 j n e in (z.0, z.1, at_named z.0 n (g n (among_at caps j n e)) z.2),
      i.2,
    )
    value_again a (value.Exception exception) g i = (i.0, (λ j n e. let bad : ◌≡◌ {A = Option Node} None (Some n) = e in cc), i.2)

    -- ---- The parts

    ref_again : (k : ℕ) (o : Option Reference) → map.get s.refs k ≡ o → RefMeans h v l quiet k o → RefMeans h v m quiet k o
    ref_again k None e i = tt
    ref_again k (Some y) e i = (i.0, i.1, at_named i.0 y.head (in_refs s y.head (named named_by_reference k y y.head s.refs e (inl refl))) i.2)

    promise_again : (p : ℕ) (o : Option Promise) → map.get s.promises p ≡ o → PromiseMeans h v l p o → PromiseMeans h v m p o
    promise_again p None e i = tt
    promise_again p (Some (promise.Open calls)) e i =
        calls_again (node.Promise p) calls (λ o a. r.awaited o (let z = tally-within (source.at_promise o) s.promises p (promise.Open calls) e in omega arith)) (r.promises p (promise.Open calls) e)
        (λ k a. in_promises s k (named named_by_promise p (promise.Open calls) k s.promises e (inr a))) i
    promise_again p (Some (promise.Fixed to)) e i =
        (i.0, r.promises p (promise.Fixed to) e ∙ i.1, at_named i.0 to (in_promises s to (named named_by_promise p (promise.Fixed to) to s.promises e (inl refl))) i.2)

    unsettled_again : (k : ℕ) (o : Option ℕ) → IsUnsettled h v l (map.get s.promises) k o → IsUnsettled h v m (map.get s.promises) k o
    unsettled_again k None i = tt
    unsettled_again k (Some p) i = (r.promises p (promise.Open i.1) i.2 ∙ i.0, i.1, i.2)

    caller_again : (o : ℕ) (c : Caller) → os o ≡ l.outcome o → CallerIs h v l o c → CallerIs h v m o c
    caller_again o (caller.Application c) e i = (i.0, i.1, e ∙ i.2)
    caller_again o (caller.Peer q) e i = tt

    known_again : (o : ℕ) (y : Option Value) → os o ≡ l.outcome o → ((k : Node) → IsAmong k (named_by_value y) → IsAmong k (places s)) → ValueIs h v l o y → ValueIs h v m o y
    known_again o None e g i = tt
    known_again o (Some y) e g i = (i.0, e ∙ i.1, value_again i.0 y g i.2)

    outcome_again : (o : ℕ) (y : Option KeptOutcome) → map.get s.outcomes o ≡ y → OutcomeMeans h v l o y → OutcomeMeans h v m o y
    outcome_again o None e i = tt
    outcome_again o (Some y) e i =
        let f = r.outcomes o y e in
        let among : (k : Node) → IsAmong k (named_by_outcome o y) → IsAmong k (places s) = λ k a. in_outcomes s k (named named_by_outcome o y k s.outcomes e a) in (
          caller_again o y.caller f i.0,
          known_again o y.value f (λ k a. among k (among_left k (named_by_value y.value) (named_by_held y.waiting) a)) i.1,
          held_again o y.waiting (λ u a. r.awaited u (let z = tally-within (source.at_outcome u) s.outcomes o y e in omega arith)) f (λ k a. among k (among_right k (named_by_value y.value) (named_by_held y.waiting) a)) i.2,
        )

    embargo_again : (e : ℕ) (o : Option Embargo) → map.get s.embargoes e ≡ o → EmbargoMeans h v l o → EmbargoMeans h v m o
    embargo_again e None f i = tt
    embargo_again e (Some b) f i =
        let among : (k : Node) → IsAmong k (named_by_embargo e b) → IsAmong k (places s) = λ k a. in_embargoes s k (named named_by_embargo e b k s.embargoes f a) in
        let at = among b.node (inl refl) in
        (calls_again b.node b.waiting (λ o a. r.awaited o (let z = tally-within (source.at_embargo o) s.embargoes e b f in omega arith)) (r.named b.node at) (λ k a. among k (inr a)) i.0, at_named (OfRef (record { vat = v; number = b.reference.0 })) b.node at i.1)

    task_again : (t : ℕ) (o : Option ℕ) → map.get s.tasks t ≡ o → TaskMeans h v l quiet t o → TaskMeans h v m quiet t o
    task_again t None e i = tt
    task_again t (Some o) e i = (i.0, i.1, (i.2.0, r.awaited o (let z = tally-within (source.is_key o) s.tasks t o e in let a = itself o in let b = ap one_if a in omega arith) ∙ i.2.1))

    own_again : (c : ℕ) (o : Option OwnCall) → map.get s.calls c ≡ o → OwnCallMeans h v l c o → OwnCallMeans h v m c o
    own_again c None e i = tt
    own_again c (Some y) e i = r.calls c y e i

    said_again : (x : Meant) (d : Descriptor) (n : Node) → IsAmong n (places s) → MeansKnown h v l x (known_by d n) → MeansKnown h v m x (known_by d n)
    said_again x descriptor.None n a i = i
    said_again x (descriptor.SenderHosted e) n a i = at_named x n a i
    said_again x (descriptor.SenderPromise e) n a i = at_named x n a i
    said_again x (descriptor.ReceiverHosted e) n a i = at_named x n a i
    said_again x (descriptor.ReceiverAnswer q path) n a i = at_named x n a i

    place_again : (x : Meant) (caps : List (Descriptor × Node)) (j : ℕ) → ((k : Node) → IsAmong k (nodes caps) → IsAmong k (places s)) → MeansKnown h v l x (known_at caps j) → MeansKnown h v m x (known_at caps j)
    place_again x [] j g i = i
    place_again x (c ∷ cs) zero g i = said_again x c.0 c.1 (g c.1 (inl refl)) i
    place_again x (c ∷ cs) (suc j) g i = place_again x cs j (λ k a. g k (inr a)) i

    at_again : (x : Meant) (caps : List (Descriptor × Node)) (c : CapAt) → ((k : Node) → IsAmong k (nodes caps) → IsAmong k (places s)) → MeansKnown h v l x (known_cap caps c) → MeansKnown h v m x (known_cap caps c)
    at_again x caps (Cap j) g i = place_again x caps j g i
    at_again x caps Null g i = i
    at_again x caps NotCap g i = i

    return_again : (x : Meant) (path : List Op) (o : Option Returned) → ((k : Node) → IsAmong k (named_by_returned o) → IsAmong k (places s)) → MeansKnown h v l x (known_by_return path o) → MeansKnown h v m x (known_by_return path o)
    return_again x path None g i = i
    return_again x path (Some (back.Results payload caps)) g i = at_again x caps (cap_at payload path) g i
    return_again x path (Some (back.Exception exception)) g i = i

    back_again : (q : ℕ) (y : Question) (k : Role) → y.role ≡ k → map.get s.questions q ≡ Some y → IsRelayOpen k y.returned → BackMeans h v l q k y.returned → BackMeans h v m q k y.returned
    back_again q y (role.Direct c) f e w i =
        (i.0, i.1, r.questions q y e ∙ i.2, λ path. return_again (field_meant h v i.0 path) path y.returned (λ k a. in_questions s k (named named_by_question q y k s.questions e a)) (i.3 path))
    back_again q y (role.Relay o) f e w i =
        let a = itself o in
        let b = ap one_if a in
        let z = tally-within (source.at_question o) s.questions q y e in
        let g : source.at_question o y ≡ source.relay_for o (role.Relay o) None = ap (λ (k : Role). source.relay_for o k y.returned) f ∙ ap (source.relay_for o (role.Relay o)) w in
        (i.0, (i.1.0, r.awaited o (omega arith) ∙ i.1.1))

    question_again : (q : ℕ) (o : Option Question) → map.get s.questions q ≡ o → IsOpen o → QuestionMeans h v l q o → QuestionMeans h v m q o
    question_again q None e w i = tt
    question_again q (Some y) e w i = back_again q y y.role refl e w i

    resolved_again : (x : Meant) (o : Option Resolution) → ((k : Node) → IsAmong k (named_by_resolution o) → IsAmong k (places s)) → MeansKnown h v l x (known_by_resolve o) → MeansKnown h v m x (known_by_resolve o)
    resolved_again x None g i = i
    resolved_again x (Some (resolution.To d n)) g i = said_again x d n (g n (inl refl)) i
    resolved_again x (Some (resolution.Exception exception)) g i = i

    means_again : (x : Option Meant) (o : Option Resolution) → ((k : Node) → IsAmong k (named_by_resolution o) → IsAmong k (places s)) → ResolvedMeans h v l x o → ResolvedMeans h v m x o
    means_again None o g i = i
    means_again (Some y) o g i = resolved_again y o g i

    import_again : (e : ℕ) (o : Option Import) → map.get s.imports e ≡ o → ImportMeans h v l e o → ImportMeans h v m e o
    import_again e None f i = tt
    import_again e (Some y) f i = subst (λ (o : Option Meant). ResolvedMeans h v m o y.resolution) (sym (r.imports e y f)) (means_again (l.import e) y.resolution (λ k a. in_imports s k (named named_by_import e y k s.imports f a)) i)

    pub relabelled : Places h v l quiet s → Places h v m quiet s
    relabelled w = (
      λ k. ref_again k (map.get s.refs k) refl (w.0 k),
      λ k. promise_again k (map.get s.promises k) refl (w.1 k),
      λ k. unsettled_again k (map.get s.unsettled k) (w.2 k),
      λ k. outcome_again k (map.get s.outcomes k) refl (w.3 k),
      λ k. embargo_again k (map.get s.embargoes k) refl (w.4 k),
      λ k. task_again k (map.get s.tasks k) refl (w.5 k),
      λ k. own_again k (map.get s.calls k) refl (w.6 k),
      λ k. question_again k (map.get s.questions k) refl (ends.relays k) (w.7 k),
      λ k. import_again k (map.get s.imports k) refl (w.8 k),
    )
