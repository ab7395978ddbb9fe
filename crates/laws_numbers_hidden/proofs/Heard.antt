-- The first act of a message is the same with other numbers.
use Rattle.std.proofs.Common.{◌≡◌, ℕ, Bool, true, false, cond, List, [], ◌∷◌, map, Option, None, Some, refl, sym, ap, subst, ◌∙◌}
use Rattle.finite_maps.proofs.Values.{get-map_values, map_values-insert, map_values-remove}
use Rattle.std.specs.FinMap as finite
use Rattle.finite_maps.specs.Tally.{Map, map_values, option_changed}
use Rattle.rpc_msg.specs.Op.{Op}
use Rattle.rpc_msg.specs.declared.ids.ObjectId.{ObjectId}
use Rattle.rpc_msg.specs.declared.ids.EmbargoId.{EmbargoId}
use Rattle.rpc_msg.specs.declared.parts.Descriptor.{Descriptor}
use Rattle.rpc_msg.specs.declared.parts.Descriptor.TheVariants as descriptor
use Rattle.rpc_msg.specs.declared.parts.Target.{Target}
use Rattle.rpc_msg.specs.declared.parts.Target.TheVariants.{ImportedCap, PromisedAnswer}
use Rattle.rpc_msg.specs.declared.message.Call.{Call}
use Rattle.rpc_msg.specs.declared.message.Return.{Return}
use Rattle.rpc_msg.specs.declared.message.ReturnBody.{ReturnBody}
use Rattle.rpc_msg.specs.declared.message.ReturnBody.TheVariants as body
use Rattle.rpc_msg.specs.declared.message.ResolvedTo.{ResolvedTo}
use Rattle.rpc_msg.specs.declared.message.ResolvedTo.TheVariants as resolved
use Rattle.rpc_msg.specs.declared.message.DisembargoContext.{DisembargoContext}
use Rattle.rpc_msg.specs.declared.message.DisembargoContext.TheVariants.{SenderLoopback, ReceiverLoopback}
use Rattle.rpc_msg.specs.declared.message.PlainMessage.{PlainMessage}
use Rattle.rpc_msg.specs.declared.message.PlainMessage.TheVariants as plain
use Rattle.rpc_msg.specs.declared.message.Message.{Message}
use Rattle.rpc_msg.specs.declared.message.Message.TheVariants as message
use Rattle.rpc_machine.specs.declared.node.Node.{Node}
use Rattle.rpc_machine.specs.declared.calls.Caller.TheVariants as caller
use Rattle.rpc_machine.specs.declared.calls.Value.{Value}
use Rattle.rpc_machine.specs.declared.calls.Value.TheVariants as value
use Rattle.rpc_machine.specs.declared.entries.Role.{Role}
use Rattle.rpc_machine.specs.declared.entries.Role.TheVariants as role
use Rattle.rpc_machine.specs.declared.entries.Finishing.{Finishing}
use Rattle.rpc_machine.specs.declared.entries.Finishing.TheVariants as finishing
use Rattle.rpc_machine.specs.declared.entries.Returned.{Returned}
use Rattle.rpc_machine.specs.declared.entries.Returned.TheVariants as back
use Rattle.rpc_machine.specs.declared.entries.Question.{Question}
use Rattle.rpc_machine.specs.declared.entries.AnswerEntry.{AnswerEntry}
use Rattle.rpc_machine.specs.declared.entries.Embargo.{Embargo}
use Rattle.rpc_machine.specs.declared.entries.SenderKind.{SenderKind}
use Rattle.rpc_machine.specs.declared.entries.SenderKind.TheVariants as kind
use Rattle.rpc_machine.specs.declared.entries.Resolution.{Resolution}
use Rattle.rpc_machine.specs.declared.entries.Resolution.TheVariants as resolution
use Rattle.rpc_machine.specs.declared.entries.Import.{Import}
use Rattle.rpc_machine.specs.declared.entries.Export.{Export}
use Rattle.rpc_machine.specs.declared.command.Level.{Level}
use Rattle.rpc_machine.specs.declared.command.Level.TheVariants.{Zero, One}
use Rattle.rpc_machine.specs.State.{State}
use Rattle.laws_numbers_hidden.specs.Renamed.{root_by, node_by, waiting_by, value_by, kept_by, embargo_by, beside_by, returned_by, question_by, reference_by, resolution_by, import_by, export_by, state_by}
use Rattle.laws_numbers_hidden.specs.Steps.{KeepsApart}
use Rattle.rpc_msg.specs.Messages.{descriptors_of_body}
use Rattle.std.specs.Prelude.{nat_le, ◌-◌}
use Rattle.rpc_machine.specs.Lists.{update, updated}
use Rattle.rpc_machine.specs.Nodes.{settle}
use Rattle.rpc_machine.specs.Progress.{Progress, with_state, numbers}
use Rattle.rpc_machine.specs.Flags.{lowered, lower_by, lower_each, obey}
use Rattle.rpc_machine.specs.Descriptors.{export_node, answer_node, read_one, read_at, read, read_all, read_beside, received, import_one, take_one, take_each, take_at, take_all, taken_of}
use Rattle.rpc_machine.specs.Advancing.{wire_target}
use Rattle.rpc_machine.specs.Routing.{Routes, RoutesAll}
use Rattle.rpc_machine.specs.Settling.{SettlesOutcome}
use Rattle.rpc_machine.specs.Faults.{target_node, gave, given_by, is_foreign}
use Rattle.rpc_machine.specs.Messages.{opened, bootstrap_value, TakesBootstrap, received_request, TakesCall, results_of, value_of_results, ComesFor, kept_returned, ComesBack, TakesReturn, waived, not_understood, TakesEchoed, finished_map, TakesFinish, set_resolution, resolve_import, take_resolve, Bounces, unembargoed, Lifts, TakesDisembargo, TakesPlain, TakesUnimplemented, TakesUnless, Takes}
use Rattle.laws_numbers_hidden.proofs.Settles.{free_in, same_settled}
use Rattle.laws_numbers_hidden.proofs.Named.{by_nodes}
use Rattle.laws_numbers_hidden.proofs.Going.{progress_by, put_question, cut_question, put_import}
use Rattle.laws_numbers_hidden.proofs.Routed.{routes, routes_all, arises_so}
use Rattle.laws_numbers_hidden.proofs.Settled.{tells_call, settles_outcome}
use Rattle.laws_numbers_hidden.proofs.Commanded.{opens}

module _ (f : ObjectId → ObjectId) where
  abbrev N : Node → Node
  N = node_by f

  abbrev S : State → State
  S = state_by f

  -- ---- descriptors that are read

  export_at : (o : Option Export) → N (export_node o) ≡ export_node (option_changed (export_by f) o)
  export_at None = refl
  export_at (Some x) = refl

  answer_at : (path : List Op) (o : Option AnswerEntry) → N (answer_node path o) ≡ answer_node path o
  answer_at path None = refl
  answer_at path (Some a) = refl

  exports_so : (s : State) (e : ℕ) → N (export_node (finite.get s.exports e)) ≡ export_node (finite.get (S s).exports e)
  exports_so s e = export_at (finite.get s.exports e) ∙ sym (ap export_node (get-map_values (export_by f) s.exports e))

  read_one_so : (s : State) (d : Descriptor) → N (read_one s d) ≡ read_one (S s) d
  read_one_so s descriptor.None = refl
  read_one_so s (descriptor.SenderHosted e) = refl
  read_one_so s (descriptor.SenderPromise e) = refl
  read_one_so s (descriptor.ReceiverHosted e) = exports_so s e.0
  read_one_so s (descriptor.ReceiverAnswer q path) = answer_at path (finite.get s.answers q.0)

  read_at_so : (l : Level) (s : State) (d : Descriptor) → N (read_at l s d) ≡ read_at l (S s) d
  read_at_so Zero s d = refl
  read_at_so One s d = read_one_so s d

  reads : (s : State) (d : Descriptor) → N (read s d) ≡ read (S s) d
  reads s d = read_at_so s.level s d

  reads_all : (s : State) (ds : List Descriptor) → map N (read_all s ds) ≡ read_all (S s) ds
  reads_all s [] = refl
  reads_all s (d ∷ ds) =
      let a = reads s d in
      let b = reads_all s ds in
      λ i. a i ∷ b i

  reads_beside : (s : State) (ds : List Descriptor) → map (beside_by f) (read_beside s ds) ≡ read_beside (S s) ds
  reads_beside s [] = refl
  reads_beside s (d ∷ ds) =
      let a = reads s d in
      let b = reads_beside s ds in
      λ i. (d, a i) ∷ b i

  pub target_so : (s : State) (t : Target) → node_by f (target_node s t) ≡ target_node (state_by f s) t
  target_so s (ImportedCap e) = exports_so s e.0
  target_so s (PromisedAnswer q path) = answer_at path (finite.get s.answers q.0)

  -- ---- descriptors that are taken

  received_so : (k : SenderKind) (o : Option Import) → import_by f (received k o) ≡ received k (option_changed (import_by f) o)
  received_so k None = refl
  received_so k (Some x) = refl

  import_so : (s : State) (k : SenderKind) (e : ℕ) → S (import_one s k e) ≡ import_one (S s) k e
  import_so s k e =
      put_import f s e (received k (finite.get s.imports e))
      ∙ ap (λ (x : Import). record (S s) { imports = finite.insert (S s).imports e x }) (received_so k (finite.get s.imports e) ∙ sym (ap (received k) (get-map_values (import_by f) s.imports e)))

  take_one_so : (s : State) (d : Descriptor) → S (take_one s d) ≡ take_one (S s) d
  take_one_so s descriptor.None = refl
  take_one_so s (descriptor.SenderHosted e) = import_so s kind.Hosted e.0
  take_one_so s (descriptor.SenderPromise e) = import_so s kind.Promise e.0
  take_one_so s (descriptor.ReceiverHosted e) = refl
  take_one_so s (descriptor.ReceiverAnswer q path) = refl

  take_each_so : (s : State) (ds : List Descriptor) → S (take_each s ds) ≡ take_each (S s) ds
  take_each_so s [] = refl
  take_each_so s (d ∷ ds) = take_each_so (take_one s d) ds ∙ ap (λ (t : State). take_each t ds) (take_one_so s d)

  take_at_so : (l : Level) (s : State) (ds : List Descriptor) → S (take_at l s ds) ≡ take_at l (S s) ds
  take_at_so Zero s ds = refl
  take_at_so One s ds = take_each_so s ds

  takes_all : (s : State) (ds : List Descriptor) → S (take_all s ds) ≡ take_all (S s) ds
  takes_all s ds = take_at_so s.level s ds

  -- ---- exports that are let go

  lessened : (m : Map Export) (e n : ℕ) (x : Export) (last : Bool)
      → map_values (export_by f) (cond last (finite.remove m e) (finite.insert m e (record x { count = x.count - n })))
      ≡ cond last (finite.remove (map_values (export_by f) m) e) (finite.insert (map_values (export_by f) m) e (record (export_by f x) { count = x.count - n }))
  lessened m e n x true = map_values-remove (export_by f) m e
  lessened m e n x false = map_values-insert (export_by f) m e (record x { count = x.count - n })

  lowered_so : (m : Map Export) (e n : ℕ) (o : Option Export) → map_values (export_by f) (lowered m e n o) ≡ lowered (map_values (export_by f) m) e n (option_changed (export_by f) o)
  lowered_so m e n None = refl
  lowered_so m e n (Some x) = lessened m e n x (nat_le x.count n)

  lowers : (m : Map Export) (e n : ℕ) → map_values (export_by f) (lower_by m e n) ≡ lower_by (map_values (export_by f) m) e n
  lowers m e n = lowered_so m e n (finite.get m e) ∙ sym (ap (lowered (map_values (export_by f) m) e n) (get-map_values (export_by f) m e))

  lowers_each : (m : Map Export) (es : List ℕ) → map_values (export_by f) (lower_each m es) ≡ lower_each (map_values (export_by f) m) es
  lowers_each m [] = refl
  lowers_each m (e ∷ es) = lowers_each (lower_by m e 1) es ∙ ap (λ (n : Map Export). lower_each n es) (lowers m e 1)

  obeys : (s : State) (flag : Bool) (ids : List ℕ) → S (obey s flag ids) ≡ obey (S s) flag ids
  obeys s false ids = refl
  obeys s true ids = ap (λ (m : Map Export). record (S s) { exports = m }) (lowers_each s.exports ids)

  -- ---- an entry that is changed

  updated_so : {X : Type 0} (g h : X → X) → ((x : X) → g (h x) ≡ h (g x)) → (m : Map X) (k : ℕ) (o : Option X) → map_values g (updated m k h o) ≡ updated (map_values g m) k h (option_changed g o)
  updated_so g h same m k None = refl
  updated_so g h same m k (Some x) = map_values-insert g m k (h x) ∙ ap (finite.insert (map_values g m) k) (same x)

  opened_so : (s : State) (q o : ℕ) (taken : List ℕ) → S (opened s q o taken) ≡ opened (S s) q o taken
  opened_so s q o taken = ap (λ (t : State). record t { answers = (opened s q o taken).answers }) (opens f s o (caller.Peer (record { 0 = q })))

module _ (f : ObjectId → ObjectId) (one : KeepsApart f) where
  abbrev T : State → State
  T = state_by f

  abbrev P : Progress → Progress
  P = progress_by f

  root_so : (o : Option ObjectId) → value_by f (bootstrap_value o) ≡ bootstrap_value (root_by f o)
  root_so None = refl
  root_so (Some o) = refl

  takes_bootstrap : (d : Progress) (q : ℕ) (new : Progress) → TakesBootstrap d q new → TakesBootstrap (P d) q (P new)
  takes_bootstrap d q new h = (
    h.0,
    free_in (kept_by f) d.state.outcomes h.0 h.1,
    subst (λ (s : State). SettlesOutcome (with_state (P d) s) h.0 (bootstrap_value (root_by f d.state.bootstrap)) (P new)) (opened_so f d.state q h.0 [])
        (subst (λ (v : Value). SettlesOutcome (P (with_state d (opened d.state q h.0 []))) h.0 v (P new)) (root_so d.state.bootstrap)
        (settles_outcome f one (with_state d (opened d.state q h.0 [])) h.0 (bootstrap_value d.state.bootstrap) new h.2)),
  )

  takes_call : (d : Progress) (c : Call) (new : Progress) → TakesCall d c new → TakesCall (P d) c (P new)
  takes_call d c new h =
      let s = d.state in
      let taken = taken_of s c.descriptors in
      let mid = opened (take_all s c.descriptors) c.question.0 h.0 taken in
      let a = opened_so f (take_all s c.descriptors) c.question.0 h.0 taken ∙ ap (λ (t : State). opened t c.question.0 h.0 taken) (takes_all f s c.descriptors) in
      let b = reads_all f s c.descriptors in
      let t = target_so f s c.target in
      let k = routes f one (with_state d mid) (record { request = received_request s c; outcome = h.0 }) (target_node s c.target) new h.2 in (
        h.0,
        free_in (kept_by f) s.outcomes h.0 h.1,
        subst (λ (n : Node). Routes (with_state (P d) (opened (take_all (T s) c.descriptors) c.question.0 h.0 taken)) (record { request = received_request (T s) c; outcome = h.0 }) n (P new)) t
            (subst (λ (ns : List Node). Routes (with_state (P d) (opened (take_all (T s) c.descriptors) c.question.0 h.0 taken)) (record { request = record (received_request s c) { caps = ns }; outcome = h.0 }) (node_by f (target_node s c.target)) (P new)) b
            (subst (λ (x : State). Routes (with_state (P d) x) (waiting_by f (record { request = received_request s c; outcome = h.0 })) (node_by f (target_node s c.target)) (P new)) a k)),
      )

  -- ---- what comes back

  results_so : (s : State) (x : ReturnBody) → returned_by f (results_of s x) ≡ results_of (T s) x
  results_so s (body.Results payload ds) = ap (back.Results payload) (reads_beside f s ds)
  results_so s (body.Exception e) = refl
  results_so s body.Canceled = refl

  values_so : (x : Returned) → value_by f (value_of_results x) ≡ value_of_results (returned_by f x)
  values_so (back.Results payload caps) = ap (value.Results payload) (sym (by_nodes f caps))
  values_so (back.Exception e) = refl

  comes_for : (d : Progress) (r : Role) (v : Value) (new : Progress) → ComesFor d r v new → ComesFor (P d) r (value_by f v) (P new)
  comes_for d (role.Relay o) v new h = ap P h ∙ arises_so f one d o v
  comes_for d (role.Direct c) v new h = tells_call f one d c.0 v (finite.get d.state.calls c.0) new h

  kept_so : (d : Progress) (q : ℕ) (x : Question) (said : Returned) → P (kept_returned d q x said) ≡ kept_returned (P d) q (question_by f x) (returned_by f said)
  kept_so d q x said = ap (with_state (P d)) (put_question f d.state q (record x { returned = Some said }))

  comes_on : (d : Progress) (q : ℕ) (x : Question) (said : Returned) (new : Progress) → ComesFor (kept_returned d q x said) x.role (value_of_results said) new
      → ComesFor (kept_returned (P d) q (question_by f x) (returned_by f said)) x.role (value_of_results (returned_by f said)) (P new)
  comes_on d q x said new h =
      subst (λ (v : Value). ComesFor (kept_returned (P d) q (question_by f x) (returned_by f said)) x.role v (P new)) (values_so said)
      (subst (λ (e : Progress). ComesFor e x.role (value_by f (value_of_results said)) (P new)) (kept_so d q x said) (comes_for (kept_returned d q x said) x.role (value_of_results said) new h))

  comes_back : (d : Progress) (q : ℕ) (x : Question) (said : Returned) (k : Finishing) (new : Progress) → ComesBack d q x said k new → ComesBack (P d) q (question_by f x) (returned_by f said) k (P new)
  comes_back d q x said finishing.Sent new h = ap P h ∙ ap (with_state (P d)) (cut_question f d.state q)
  comes_back d q x said finishing.Owed new h = comes_on d q x said new h
  comes_back d q x said finishing.Waived new h = comes_on d q x said new h

  takes_return : (d : Progress) (r : Return) (o : Option Question) (new : Progress) → TakesReturn d r o new → TakesReturn (P d) r (option_changed (question_by f) o) (P new)
  takes_return d r None new h = absurd h
  takes_return d r (Some x) new h =
      let ds = descriptors_of_body r.body in
      let ids = numbers x.given in
      let mid = obey (take_all d.state ds) r.release_param_caps ids in
      let a = obeys f (take_all d.state ds) r.release_param_caps ids ∙ ap (λ (s : State). obey s r.release_param_caps ids) (takes_all f d.state ds) in
      subst (λ (said : Returned). ComesBack (with_state (P d) (obey (take_all (T d.state) ds) r.release_param_caps ids)) r.answer.0 (question_by f x) said x.finish (P new)) (results_so d.state r.body)
      (subst (λ (s : State). ComesBack (with_state (P d) s) r.answer.0 (question_by f x) (returned_by f (results_of d.state r.body)) x.finish (P new)) a
      (comes_back (with_state d mid) r.answer.0 x (results_of d.state r.body) x.finish new h))

  takes_echoed : (d : Progress) (q : ℕ) (o : Option Question) (new : Progress) → TakesEchoed d q o new → TakesEchoed (P d) q (option_changed (question_by f) o) (P new)
  takes_echoed d q None new h = absurd h
  takes_echoed d q (Some x) new h =
      subst (λ (s : State). ComesBack (with_state (P d) s) q (record (question_by f x) { finish = waived x.finish }) not_understood (waived x.finish) (P new)) (obeys f d.state true (numbers x.given))
      (comes_back (with_state d (obey d.state true (numbers x.given))) q (record x { finish = waived x.finish }) not_understood (waived x.finish) new h)

  takes_finish : (d : Progress) (q : ℕ) (flag : Bool) (o : Option AnswerEntry) (new : Progress) → TakesFinish d q flag o new → TakesFinish (P d) q flag o (P new)
  takes_finish d q flag None new h = absurd h
  takes_finish d q flag (Some a) new h =
      ap P h ∙ ap (λ (s : State). with_state (P d) (record s { answers = finished_map d.state.answers q a a.returned })) (obeys f d.state flag (gave a.returned))

  -- ---- Resolve

  resolves : (s : State) (e : ℕ) (said : Resolution) (o : Option Import) → T (resolve_import s e said o) ≡ resolve_import (T s) e (resolution_by f said) (option_changed (import_by f) o)
  resolves s e said None = refl
  resolves s e said (Some x) =
      ap (λ (m : Map Import). record (T s) { imports = m })
      (set (finite.get s.imports e) ∙ sym (ap (updated (map_values (import_by f) s.imports) e (set_resolution (resolution_by f said))) (get-map_values (import_by f) s.imports e)))
    where
      set : (o : Option Import) → map_values (import_by f) (updated s.imports e (set_resolution said) o) ≡ updated (map_values (import_by f) s.imports) e (set_resolution (resolution_by f said)) (option_changed (import_by f) o)
      set None = refl
      set (Some y) = map_values-insert (import_by f) s.imports e (set_resolution said y)

  takes_resolve : (s : State) (e : ℕ) (to : ResolvedTo) → T (take_resolve s e to) ≡ take_resolve (T s) e to
  takes_resolve s e (resolved.Cap d) =
      let a = takes_all f s (d ∷ []) in
      let b = reads f s d in
      let c = sym (get-map_values (import_by f) s.imports e) in
      resolves (take_all s (d ∷ [])) e (resolution.To d (read s d)) (finite.get s.imports e) ∙ (λ i. resolve_import (a i) e (resolution.To d (b i)) (c i))
  takes_resolve s e (resolved.Exception x) =
      resolves s e (resolution.Exception x) (finite.get s.imports e) ∙ ap (resolve_import (T s) e (resolution.Exception x)) (sym (get-map_values (import_by f) s.imports e))

  -- ---- Disembargo

  bounces : (d : Progress) (x : EmbargoId) (t : Option Target) (new : Progress) → Bounces d x t new → Bounces (P d) x t (P new)
  bounces d x None new h = absurd h
  bounces d x (Some t) new h = ap P h

  lifts : (d : Progress) (e : ℕ) (o : Option Embargo) (new : Progress) → Lifts d e o new → Lifts (P d) e (option_changed (embargo_by f) o) (P new)
  lifts d e None new h = absurd h
  lifts d e (Some b) new h =
      let r = b.reference.0 in
      let a = updated_so f (reference_by f) unembargoed (λ x. refl) d.state.refs r (finite.get d.state.refs r) ∙ sym (ap (updated (map_values (reference_by f) d.state.refs) r unembargoed) (get-map_values (reference_by f) d.state.refs r)) in
      let c = map_values-remove (embargo_by f) d.state.embargoes e in
      let so : T (record (d.state) { refs = update d.state.refs r unembargoed; embargoes = finite.remove d.state.embargoes e }) ≡ record (T d.state) { refs = update (T d.state).refs r unembargoed; embargoes = finite.remove (T d.state).embargoes e } =
      λ i. record (T d.state) { refs = a i; embargoes = c i } in
      subst (λ (s : State). RoutesAll (with_state (P d) s) (map (waiting_by f) b.waiting) (node_by f b.node) (P new)) so
      (routes_all f one (with_state d (record (d.state) { refs = update d.state.refs r unembargoed; embargoes = finite.remove d.state.embargoes e })) b.waiting b.node new h)

  takes_disembargo : (d : Progress) (t : Target) (c : DisembargoContext) (new : Progress) → TakesDisembargo d t c new → TakesDisembargo (P d) t c (P new)
  takes_disembargo d t (SenderLoopback x) new h =
      let a = sym (same_settled f wire_target (λ o y. refl) d.state (target_node d.state t)) ∙ ap (λ (n : Node). wire_target (settle (T d.state) n)) (target_so f d.state t) in
      subst (λ (o : Option Target). Bounces (P d) x o (P new)) a (bounces d x (wire_target (settle d.state (target_node d.state t))) new h)
  takes_disembargo d t (ReceiverLoopback x) new h =
      subst (λ (o : Option Embargo). Lifts (P d) x.0 o (P new)) (sym (get-map_values (embargo_by f) d.state.embargoes x.0)) (lifts d x.0 (finite.get d.state.embargoes x.0) new h)

  -- ---- all

  -- By the question with that id.
  at_question : (d : Progress) (q : ℕ) (A : Option Question → Type 0) → A (option_changed (question_by f) (finite.get d.state.questions q)) → A (finite.get (T d.state).questions q)
  at_question d q A h = subst A (sym (get-map_values (question_by f) d.state.questions q)) h

  takes_plain : (d : Progress) (m : PlainMessage) (new : Progress) → TakesPlain d m new → TakesPlain (P d) m (P new)
  takes_plain d (plain.Abort e) new h = absurd h
  takes_plain d (plain.Bootstrap q) new h = takes_bootstrap d q.0 new h
  takes_plain d (plain.Call c) new h = takes_call d c new h
  takes_plain d (plain.Return r) new h = at_question d r.answer.0 (λ o. TakesReturn (P d) r o (P new)) (takes_return d r (finite.get d.state.questions r.answer.0) new h)
  takes_plain d (plain.Finish x) new h = takes_finish d x.question.0 x.release_result_caps (finite.get d.state.answers x.question.0) new h
  takes_plain d (plain.Resolve r) new h = ap P h ∙ ap (with_state (P d)) (takes_resolve d.state r.promise.0 r.to)
  takes_plain d (plain.Release r) new h = ap P h ∙ ap (λ (m : Map Export). with_state (P d) (record (T d.state) { exports = m })) (lowers f d.state.exports r.export.0 r.count)
  takes_plain d (plain.Disembargo x) new h = takes_disembargo d x.target x.context new h
  takes_plain d (plain.Other n) new h = ap P h

  takes_unimplemented : (d : Progress) (m : PlainMessage) (new : Progress) → TakesUnimplemented d m new → TakesUnimplemented (P d) m (P new)
  takes_unimplemented d (plain.Abort e) new h = absurd h
  takes_unimplemented d (plain.Bootstrap q) new h = at_question d q.0 (λ o. TakesEchoed (P d) q.0 o (P new)) (takes_echoed d q.0 (finite.get d.state.questions q.0) new h)
  takes_unimplemented d (plain.Call c) new h = at_question d c.question.0 (λ o. TakesEchoed (P d) c.question.0 o (P new)) (takes_echoed d c.question.0 (finite.get d.state.questions c.question.0) new h)
  takes_unimplemented d (plain.Return r) new h = absurd h
  takes_unimplemented d (plain.Finish x) new h = absurd h
  takes_unimplemented d (plain.Resolve r) new h = ap P h ∙ ap (with_state (P d)) (obeys f d.state true (given_by r.to))
  takes_unimplemented d (plain.Release r) new h = ap P h
  takes_unimplemented d (plain.Disembargo x) new h = absurd h
  takes_unimplemented d (plain.Other n) new h = absurd h

  takes_unless : (b : Bool) (d : Progress) (m : PlainMessage) (new : Progress) → TakesUnless b d m new → TakesUnless b (P d) m (P new)
  takes_unless true d m new h = ap P h
  takes_unless false d m new h = takes_plain d m new h

  pub takes : (d : Progress) (m : Message) (new : Progress) → Takes d m new → Takes (progress_by f d) m (progress_by f new)
  takes d (message.Plain m) new h = takes_unless (is_foreign d.state.level m) d m new h
  takes d (message.Unimplemented m) new h = takes_unimplemented d m new h
