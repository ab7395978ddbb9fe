-- The fault of a message is the same with other numbers.
use Rattle.std.proofs.Common.{◌≡◌, ℕ, ◌+◌, ◌||◌, ◌&&◌, not, Bool, true, false, List, [], ◌∷◌, length, Option, None, Some, is_some, refl, sym, ap, ◌∙◌}
use Rattle.finite_maps.proofs.Values.{get-map_values}
use Rattle.std.specs.FinMap as finite
use Rattle.finite_maps.specs.Tally.{Map, map_values, option_changed}
use Rattle.rpc_msg.specs.declared.ids.ObjectId.{ObjectId}
use Rattle.rpc_msg.specs.declared.parts.Descriptor.{Descriptor}
use Rattle.rpc_msg.specs.declared.parts.Descriptor.TheVariants as descriptor
use Rattle.rpc_msg.specs.declared.parts.Target.{Target}
use Rattle.rpc_msg.specs.declared.parts.Target.TheVariants.{ImportedCap, PromisedAnswer}
use Rattle.rpc_msg.specs.declared.message.Call.{Call}
use Rattle.rpc_msg.specs.declared.message.ReturnBody.{ReturnBody}
use Rattle.rpc_msg.specs.declared.message.ReturnBody.TheVariants as body
use Rattle.rpc_msg.specs.declared.message.ResolvedTo.{ResolvedTo}
use Rattle.rpc_msg.specs.declared.message.ResolvedTo.TheVariants as resolved
use Rattle.rpc_msg.specs.declared.message.DisembargoContext.{DisembargoContext}
use Rattle.rpc_msg.specs.declared.message.DisembargoContext.TheVariants.{SenderLoopback, ReceiverLoopback}
use Rattle.rpc_msg.specs.declared.message.PlainMessage.{PlainMessage}
use Rattle.rpc_msg.specs.declared.message.PlainMessage.TheVariants as plain
use Rattle.rpc_msg.specs.declared.message.Message.{Message}
use Rattle.rpc_msg.specs.declared.message.Message.TheVariants as message
use Rattle.rpc_machine.specs.declared.node.Node.{Node}
use Rattle.rpc_machine.specs.declared.calls.Promise.{Promise}
use Rattle.rpc_machine.specs.declared.calls.Promise.TheVariants as promise
use Rattle.rpc_machine.specs.declared.entries.Question.{Question}
use Rattle.rpc_machine.specs.declared.entries.AnswerEntry.{AnswerEntry}
use Rattle.rpc_machine.specs.declared.entries.SenderKind.{SenderKind}
use Rattle.rpc_machine.specs.declared.entries.SenderKind.TheVariants as kind
use Rattle.rpc_machine.specs.declared.entries.Import.{Import}
use Rattle.rpc_machine.specs.declared.entries.Export.{Export}
use Rattle.rpc_machine.specs.declared.command.Level.{Level}
use Rattle.rpc_machine.specs.declared.command.Level.TheVariants.{Zero, One}
use Rattle.rpc_machine.specs.State.{State}
use Rattle.laws_numbers_hidden.specs.Renamed.{waiting_by, held_by, kept_by, promise_by, embargo_by, returned_by, question_by, resolution_by, import_by, export_by, state_by}
use Rattle.std.specs.Prelude.{nat_eq, nat_le, nat_lt}
use Rattle.std.specs.List.{list_any}
use Rattle.finite_maps.specs.Tally.{tally}
use Rattle.finite_maps.proofs.Values.{tally-map_values}
use Rattle.rpc_journal.specs.History.{if_so, or_rest}
use Rattle.rpc_machine.specs.Numbers.{question_in_use, unknown_question, unknown_export, unknown_answer, over_release, disembargo_not_loopback, unknown_embargo, bad_payload, held_past_limit, not_a_promise, resolved_twice, kind_mismatch}
use Rattle.rpc_machine.specs.Payloads.{caps_in}
use Rattle.rpc_machine.specs.Lists.{how_many, earliest}
use Rattle.rpc_machine.specs.Nodes.{settle, is_open, is_wire}
use Rattle.rpc_machine.specs.Progress.{numbers}
use Rattle.rpc_machine.specs.Limits.{held_for_promise, held_for_outcome, held_under, held, held_limit, export_count}
use Rattle.rpc_machine.specs.Faults.{same_kind, kind_clashes, target_fault, target_node, descriptor_fault, each_fault, faults_at, descriptors_fault, is_short, flag_fault, body_fault, return_fault, gave, finish_fault, is_hosted, is_resolved, resolve_fault, release_fault, disembargo_fault, echoed_fault, is_missing, given_by, echoed_resolve_fault, held_fault, plain_fault, unimplemented_fault, is_foreign, unless_foreign, fault_of}
use Rattle.laws_numbers_hidden.proofs.Settles.{length-map, asked, same_settled}
use Rattle.laws_numbers_hidden.proofs.Heard.{target_so}

pub some_same : {X : Type 0} (g : X → X) (o : Option X) → is_some (option_changed g o) ≡ is_some o
some_same g None = refl
some_same g (Some x) = refl

-- The same keys are there.
pub has : {X : Type 0} (g : X → X) (m : Map X) (k : ℕ) → finite.contains_key (map_values g m) k ≡ finite.contains_key m k
has g m k = asked is_some g (some_same g) m k

module _ (f : ObjectId → ObjectId) where
  promise_held : (x : Promise) → held_for_promise (promise_by f x) ≡ held_for_promise x
  promise_held (promise.Open calls) = length-map (waiting_by f) calls
  promise_held (promise.Fixed to) = refl

  tallied : {X : Type 0} (g : X → X) (t : X → ℕ) → ((x : X) → t (g x) ≡ t x) → (m : Map X) → tally t (map_values g m) ≡ tally t m
  tallied g t same m = tally-map_values g t m ∙ (λ i. tally (λ x. same x i) m)

  export_counted : (o : Option Export) → export_count (option_changed (export_by f) o) ≡ export_count o
  export_counted None = refl
  export_counted (Some x) = refl

  module _ (s : State) where
    abbrev S : State
    S = state_by f s

    pub same_held : held (state_by f s) ≡ held s
    same_held =
        let p = tallied (promise_by f) held_for_promise promise_held s.promises in
        let o = tallied (kept_by f) held_for_outcome (λ x. length-map (held_by f) x.waiting) s.outcomes in
        let e = tallied (embargo_by f) held_under (λ x. length-map (waiting_by f) x.waiting) s.embargoes in
        λ i. p i + o i + e i

    target_faults : (t : Target) → target_fault S t ≡ target_fault s t
    target_faults (ImportedCap e) = ap (λ (b : Bool). if_so (not b) unknown_export) (has (export_by f) s.exports e.0)
    target_faults (PromisedAnswer q path) = refl

    clash_same : (k : SenderKind) (e : ℕ) (before : List Descriptor) (o : Option Import) → kind_clashes k e before (option_changed (import_by f) o) ≡ kind_clashes k e before o
    clash_same k e before None = refl
    clash_same k e before (Some x) = ap (λ (b : Bool). not (same_kind k x.kind) || b) (some_same (resolution_by f) x.resolution)

    clash_at : (k : SenderKind) (e : ℕ) (before : List Descriptor) → kind_clashes k e before (finite.get S.imports e) ≡ kind_clashes k e before (finite.get s.imports e)
    clash_at k e before = asked (kind_clashes k e before) (import_by f) (clash_same k e before) s.imports e

    descriptor_faults : (before : List Descriptor) (d : Descriptor) → descriptor_fault S before d ≡ descriptor_fault s before d
    descriptor_faults before descriptor.None = refl
    descriptor_faults before (descriptor.SenderHosted e) = ap (λ (b : Bool). if_so b kind_mismatch) (clash_at kind.Hosted e.0 before)
    descriptor_faults before (descriptor.SenderPromise e) = ap (λ (b : Bool). if_so b kind_mismatch) (clash_at kind.Promise e.0 before)
    descriptor_faults before (descriptor.ReceiverHosted e) = ap (λ (b : Bool). if_so (not b) unknown_export) (has (export_by f) s.exports e.0)
    descriptor_faults before (descriptor.ReceiverAnswer q path) = refl

    each_same : (before ds : List Descriptor) → each_fault S before ds ≡ each_fault s before ds
    each_same before [] = refl
    each_same before (d ∷ ds) =
        let a = descriptor_faults before d in
        let b = each_same (d ∷ before) ds in
        λ i. or_rest (a i) (b i)

    faults_at_same : (l : Level) (ds : List Descriptor) → faults_at l S ds ≡ faults_at l s ds
    faults_at_same Zero ds = refl
    faults_at_same One ds = each_same [] ds

    descriptors_same : (ds : List Descriptor) → descriptors_fault S ds ≡ descriptors_fault s ds
    descriptors_same ds = faults_at_same s.level ds

    short_same : (ids : List ℕ) (e : ℕ) → is_short S ids e ≡ is_short s ids e
    short_same ids e = ap (λ (k : ℕ). nat_lt k (how_many (nat_eq e) ids)) (asked export_count (export_by f) export_counted s.exports e)

    any_same : (t u : ℕ → Bool) → ((e : ℕ) → t e ≡ u e) → (es : List ℕ) → list_any t es ≡ list_any u es
    any_same t u h [] = refl
    any_same t u h (e ∷ es) =
        let a = h e in
        let b = any_same t u h es in
        λ i. a i || b i

    flag_faults : (flag : Bool) (ids : List ℕ) → flag_fault S flag ids ≡ flag_fault s flag ids
    flag_faults false ids = refl
    flag_faults true ids = ap (λ (b : Bool). if_so b over_release) (any_same (is_short S ids) (is_short s ids) (short_same ids) ids)

    resolve_faults : (to : ResolvedTo) → resolve_fault S to ≡ resolve_fault s to
    resolve_faults (resolved.Cap d) = descriptors_same (d ∷ [])
    resolve_faults (resolved.Exception e) = refl

    echoed_faults : (o : Option Question) → echoed_fault S (option_changed (question_by f) o) ≡ echoed_fault s o
    echoed_faults None = refl
    echoed_faults (Some x) =
        let a = some_same (returned_by f) x.returned in
        let b = flag_faults true (numbers x.given) in
        λ i. earliest (if_so (a i) unknown_question ∷ b i ∷ [])

    echoed_at : (q : ℕ) → echoed_fault S (finite.get S.questions q) ≡ echoed_fault s (finite.get s.questions q)
    echoed_at q = ap (echoed_fault S) (get-map_values (question_by f) s.questions q) ∙ echoed_faults (finite.get s.questions q)

    held_faults : (t : Target) → held_fault S t ≡ held_fault s t
    held_faults t =
        let a = ap (λ (n : Node). is_open (settle S n)) (sym (target_so f s t)) ∙ same_settled f is_open (λ o x. refl) s (target_node s t) in
        let b = same_held in
        λ i. if_so (a i && nat_le held_limit (b i)) held_past_limit

    disembargo_faults : (t : Target) (c : DisembargoContext) → disembargo_fault S t c ≡ disembargo_fault s t c
    disembargo_faults t (SenderLoopback x) =
        let a = ap (λ (n : Node). is_wire (settle S n)) (sym (target_so f s t)) ∙ same_settled f is_wire (λ o y. refl) s (target_node s t) in
        let b = target_faults t in
        λ i. earliest (b i ∷ if_so (not (a i)) disembargo_not_loopback ∷ [])
    disembargo_faults t (ReceiverLoopback x) = ap (λ (b : Bool). if_so (not b) unknown_embargo) (has (embargo_by f) s.embargoes x.0)

    finish_faults : (flag : Bool) (o : Option AnswerEntry) → finish_fault S flag o ≡ finish_fault s flag o
    finish_faults flag None = refl
    finish_faults flag (Some a) = ap (λ (x : Option ℕ). earliest (if_so a.finished unknown_answer ∷ x ∷ [])) (flag_faults flag (gave a.returned))

    body_same : (c : ReturnBody) → body_fault S c ≡ body_fault s c
    body_same (body.Results p ds) = ap (λ (x : Option ℕ). earliest (if_so (not (nat_eq (caps_in p) (length ds))) bad_payload ∷ x ∷ [])) (descriptors_same ds)
    body_same (body.Exception e) = refl
    body_same body.Canceled = refl

    return_faults : (flag : Bool) (c : ReturnBody) (o : Option Question) → return_fault S flag c (option_changed (question_by f) o) ≡ return_fault s flag c o
    return_faults flag c None = refl
    return_faults flag c (Some x) =
        let a = some_same (returned_by f) x.returned in
        let b = body_same c in
        let g = flag_faults flag (numbers x.given) in
        λ i. earliest (if_so (a i) unknown_question ∷ b i ∷ g i ∷ [])

    return_at : (flag : Bool) (c : ReturnBody) (q : ℕ) → return_fault S flag c (finite.get S.questions q) ≡ return_fault s flag c (finite.get s.questions q)
    return_at flag c q = ap (return_fault S flag c) (get-map_values (question_by f) s.questions q) ∙ return_faults flag c (finite.get s.questions q)

    call_same : (c : Call) → plain_fault S (plain.Call c) ≡ plain_fault s (plain.Call c)
    call_same c =
        let t = target_faults c.target in
        let d = descriptors_same c.descriptors in
        let h = held_faults c.target in
        λ i. earliest
        (if_so (finite.contains_key s.answers c.question.0) question_in_use
        ∷ t i
        ∷ if_so (not (nat_eq (caps_in c.payload) (length c.descriptors))) bad_payload
        ∷ d i
        ∷ h i
        ∷ [])

    hosted_same : (o : Option Import) → is_hosted (option_changed (import_by f) o) ≡ is_hosted o
    hosted_same None = refl
    hosted_same (Some x) = refl

    resolved_same : (o : Option Import) → is_resolved (option_changed (import_by f) o) ≡ is_resolved o
    resolved_same None = refl
    resolved_same (Some x) = some_same (resolution_by f) x.resolution

    resolve_same : (e : ℕ) (to : ResolvedTo)
        → earliest (if_so (is_hosted (finite.get S.imports e)) not_a_promise ∷ if_so (is_resolved (finite.get S.imports e)) resolved_twice ∷ resolve_fault S to ∷ [])
        ≡ earliest (if_so (is_hosted (finite.get s.imports e)) not_a_promise ∷ if_so (is_resolved (finite.get s.imports e)) resolved_twice ∷ resolve_fault s to ∷ [])
    resolve_same e to =
        let a = asked is_hosted (import_by f) hosted_same s.imports e in
        let b = asked is_resolved (import_by f) resolved_same s.imports e in
        let c = resolve_faults to in
        λ i. earliest (if_so (a i) not_a_promise ∷ if_so (b i) resolved_twice ∷ c i ∷ [])

    release_same : (n : ℕ) (o : Option Export) → release_fault n (option_changed (export_by f) o) ≡ release_fault n o
    release_same n None = refl
    release_same n (Some x) = refl

    plain_same : (m : PlainMessage) → plain_fault S m ≡ plain_fault s m
    plain_same (plain.Abort e) = refl
    plain_same (plain.Bootstrap q) = refl
    plain_same (plain.Call c) = call_same c
    plain_same (plain.Return r) = return_at r.release_param_caps r.body r.answer.0
    plain_same (plain.Finish x) = finish_faults x.release_result_caps (finite.get s.answers x.question.0)
    plain_same (plain.Resolve r) = resolve_same r.promise.0 r.to
    plain_same (plain.Release r) = asked (release_fault r.count) (export_by f) (release_same r.count) s.exports r.export.0
    plain_same (plain.Disembargo d) = disembargo_faults d.target d.context
    plain_same (plain.Other k) = refl

    missing_same : (e : ℕ) → is_missing S e ≡ is_missing s e
    missing_same e = ap not (has (export_by f) s.exports e)

    echoed_resolves : (ids : List ℕ) → echoed_resolve_fault S ids ≡ echoed_resolve_fault s ids
    echoed_resolves ids =
        let a = any_same (is_missing S) (is_missing s) missing_same ids in
        let b = flag_faults true ids in
        λ i. earliest (if_so (a i) unknown_export ∷ b i ∷ [])

    unimplemented_same : (m : PlainMessage) → unimplemented_fault S m ≡ unimplemented_fault s m
    unimplemented_same (plain.Abort e) = refl
    unimplemented_same (plain.Bootstrap q) = echoed_at q.0
    unimplemented_same (plain.Call c) = echoed_at c.question.0
    unimplemented_same (plain.Return r) = refl
    unimplemented_same (plain.Finish x) = refl
    unimplemented_same (plain.Resolve r) = echoed_resolves (given_by r.to)
    unimplemented_same (plain.Release r) = refl
    unimplemented_same (plain.Disembargo d) = refl
    unimplemented_same (plain.Other k) = refl

    pub same_fault : (m : Message) → fault_of (state_by f s) m ≡ fault_of s m
    same_fault (message.Plain m) = ap (unless_foreign (is_foreign s.level m)) (plain_same m)
    same_fault (message.Unimplemented m) = unimplemented_same m
