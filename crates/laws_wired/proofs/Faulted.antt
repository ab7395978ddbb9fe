-- The fault of a message is the same in both.
use Rattle.std.proofs.Common.{◌≡◌, ℕ, ◌+◌, Bool, true, false, not, ◌&&◌, ◌||◌, nat_eq, nat_le, List, [], ◌∷◌, map, length, Option, None, Some, is_some, refl, sym, ap, ◌∙◌}
use Rattle.std.specs.FinMap as finite
use Rattle.finite_maps.specs.Tally.{Map, map_values, option_changed, tally}
use Rattle.finite_maps.proofs.Values.{get-map_values, tally-map_values}
use Rattle.rpc_msg.specs.Payloads.{Contents}
use Rattle.rpc_msg.specs.declared.ids.Stamp.{Stamp}
use Rattle.rpc_msg.specs.declared.ids.QuestionId.{QuestionId}
use Rattle.rpc_msg.specs.declared.parts.Descriptor.{Descriptor}
use Rattle.rpc_msg.specs.declared.parts.Descriptor.TheVariants as descriptor
use Rattle.rpc_msg.specs.declared.parts.Target.{Target}
use Rattle.rpc_msg.specs.declared.parts.Target.TheVariants.{ImportedCap, PromisedAnswer}
use Rattle.rpc_msg.specs.declared.message.Call.{Call}
use Rattle.rpc_msg.specs.declared.message.ReturnBody.{ReturnBody}
use Rattle.rpc_msg.specs.declared.message.ReturnBody.TheVariants as body
use Rattle.rpc_msg.specs.declared.message.ResolvedTo.{ResolvedTo}
use Rattle.rpc_msg.specs.declared.message.ResolvedTo.TheVariants as resolved
use Rattle.rpc_msg.specs.declared.message.DisembargoContext.{DisembargoContext}
use Rattle.rpc_msg.specs.declared.message.DisembargoContext.TheVariants.{SenderLoopback, ReceiverLoopback}
use Rattle.rpc_msg.specs.declared.message.PlainMessage.{PlainMessage}
use Rattle.rpc_msg.specs.declared.message.PlainMessage.TheVariants as plain
use Rattle.rpc_msg.specs.declared.message.Message.TheVariants as message
use Rattle.rpc_journal.specs.History.{or_rest, if_so}
use Rattle.rpc_machine.specs.declared.command.Level.{Level}
use Rattle.rpc_machine.specs.declared.command.Level.TheVariants.{Zero, One}
use Rattle.rpc_machine.specs.declared.node.Node.{Node}
use Rattle.rpc_machine.specs.declared.entries.AnswerEntry.{AnswerEntry}
use Rattle.rpc_machine.specs.declared.entries.SenderKind.{SenderKind}
use Rattle.rpc_machine.specs.declared.entries.SenderKind.TheVariants as kind
use Rattle.rpc_machine.specs.Nodes.{settle, is_open, is_wire}
use Rattle.rpc_machine.specs.Lists.{earliest}
use Rattle.rpc_machine.specs.Limits.{held_for_promise, held_for_outcome, held_under, held, held_limit}
use Rattle.rpc_machine.specs.Numbers.{question_in_use, unknown_question, unknown_answer, disembargo_not_loopback, unknown_embargo, bad_payload, held_past_limit, not_a_promise, resolved_twice, kind_mismatch}
use Rattle.rpc_machine.specs.Routing.{reason_text, failed}
use Rattle.rpc_machine.specs.Progress.{numbers}
use Rattle.rpc_machine.specs.Faults.{same_kind, kind_clashes, target_fault, target_node, descriptor_fault, each_fault, faults_at, descriptors_fault, flag_fault, body_fault, return_fault, gave, finish_fault, is_hosted, is_resolved, resolve_fault, disembargo_fault, echoed_fault, held_fault, plain_fault, unimplemented_fault, is_foreign, unless_foreign, fault_of}
use Rattle.laws_wired.specs.Pairs.{OneNode, TwoImports, resolution_at, import_at, return_saying, resolve_saying, ReturnsWhy, ResolvesWhy, SendsBack, TwoPromises, Open, Fixed, TwoQuestions, TwoStates, TwoMessages, Same, Calls, Returns, waiting_at, held_at, kept_at, promise_at, embargo_at, returned_at, question_at, state_at, message_at}
use Rattle.laws_wired.proofs.Settles.{asked, length-map, same_settled}

same_length : {X Y : Type 0} (f h : X → Y) (xs : List X) → length (map f xs) ≡ length (map h xs)
same_length f h xs = length-map f xs ∙ sym (length-map h xs)

pub some_same : {X Y : Type 0} (f h : X → Y) (o : Option X) → is_some (option_changed f o) ≡ is_some (option_changed h o)
some_same f h None = refl
some_same f h (Some x) = refl

promise_held : (x : TwoPromises) → held_for_promise (promise_at true x) ≡ held_for_promise (promise_at false x)
promise_held (Open calls) = same_length (waiting_at true) (waiting_at false) calls
promise_held (Fixed to) = refl

tallied : {X Y : Type 0} (f h : X → Y) (g : Y → ℕ) → ((x : X) → g (f x) ≡ g (h x)) → (m : Map X) → tally g (map_values f m) ≡ tally g (map_values h m)
tallied f h g same m = tally-map_values f g m ∙ (λ i. tally (λ x. same x i) m) ∙ sym (tally-map_values h g m)

module _ (z : TwoStates) where
  pub same_held : held (state_at true z) ≡ held (state_at false z)
  same_held =
      let p = tallied (promise_at true) (promise_at false) held_for_promise promise_held z.promises in
      let o = tallied (kept_at true) (kept_at false) held_for_outcome (λ x. same_length (held_at true) (held_at false) x.waiting) z.outcomes in
      let e = tallied (embargo_at true) (embargo_at false) held_under (λ x. same_length (waiting_at true) (waiting_at false) x.waiting) z.embargoes in
      λ i. p i + o i + e i

  pub same_target : (t : Target) → target_node (state_at true z) t ≡ target_node (state_at false z) t
  same_target (ImportedCap e) = refl
  same_target (PromisedAnswer q path) = refl

  target_faults : (t : Target) → target_fault (state_at true z) t ≡ target_fault (state_at false z) t
  target_faults (ImportedCap e) = refl
  target_faults (PromisedAnswer q path) = refl

  clash_same : (k : SenderKind) (e : ℕ) (before : List Descriptor) (o : Option TwoImports)
      → kind_clashes k e before (option_changed (import_at true) o) ≡ kind_clashes k e before (option_changed (import_at false) o)
  clash_same k e before None = refl
  clash_same k e before (Some x) = ap (λ (b : Bool). not (same_kind k x.kind) || b) (some_same (resolution_at true) (resolution_at false) x.resolution)

  clash_at : (k : SenderKind) (e : ℕ) (before : List Descriptor) → kind_clashes k e before (finite.get (state_at true z).imports e) ≡ kind_clashes k e before (finite.get (state_at false z).imports e)
  clash_at k e before = asked (kind_clashes k e before) (import_at true) (import_at false) (clash_same k e before) z.imports e

  descriptor_faults : (before : List Descriptor) (d : Descriptor) → descriptor_fault (state_at true z) before d ≡ descriptor_fault (state_at false z) before d
  descriptor_faults before descriptor.None = refl
  descriptor_faults before (descriptor.SenderHosted e) = ap (λ (b : Bool). if_so b kind_mismatch) (clash_at kind.Hosted e.0 before)
  descriptor_faults before (descriptor.SenderPromise e) = ap (λ (b : Bool). if_so b kind_mismatch) (clash_at kind.Promise e.0 before)
  descriptor_faults before (descriptor.ReceiverHosted e) = refl
  descriptor_faults before (descriptor.ReceiverAnswer q path) = refl

  each_same : (before ds : List Descriptor) → each_fault (state_at true z) before ds ≡ each_fault (state_at false z) before ds
  each_same before [] = refl
  each_same before (d ∷ ds) =
      let a = descriptor_faults before d in
      let b = each_same (d ∷ before) ds in
      λ i. or_rest (a i) (b i)

  faults_at_same : (l : Level) (ds : List Descriptor) → faults_at l (state_at true z) ds ≡ faults_at l (state_at false z) ds
  faults_at_same Zero ds = refl
  faults_at_same One ds = each_same [] ds

  descriptors_same : (ds : List Descriptor) → descriptors_fault (state_at true z) ds ≡ descriptors_fault (state_at false z) ds
  descriptors_same ds = faults_at_same z.rest.level ds

  flag_faults : (flag : Bool) (ids : List ℕ) → flag_fault (state_at true z) flag ids ≡ flag_fault (state_at false z) flag ids
  flag_faults false ids = refl
  flag_faults true ids = refl

  resolve_faults : (to : ResolvedTo) → resolve_fault (state_at true z) to ≡ resolve_fault (state_at false z) to
  resolve_faults (resolved.Cap d) = descriptors_same (d ∷ [])
  resolve_faults (resolved.Exception e) = refl

  echoed_faults : (o : Option TwoQuestions) → echoed_fault (state_at true z) (option_changed (question_at true) o) ≡ echoed_fault (state_at false z) (option_changed (question_at false) o)
  echoed_faults None = refl
  echoed_faults (Some x) = ap (λ (b : Bool). earliest (if_so b unknown_question ∷ flag_fault (state_at false z) true (numbers x.given) ∷ [])) (some_same (returned_at true) (returned_at false) x.returned)

  echoed_at : (q : ℕ) → echoed_fault (state_at true z) (finite.get (state_at true z).questions q) ≡ echoed_fault (state_at false z) (finite.get (state_at false z).questions q)
  echoed_at q =
      ap (echoed_fault (state_at true z)) (get-map_values (question_at true) z.questions q)
      ∙ echoed_faults (finite.get z.questions q)
      ∙ sym (ap (echoed_fault (state_at false z)) (get-map_values (question_at false) z.questions q))

  held_faults : (t : Target) → held_fault (state_at true z) t ≡ held_fault (state_at false z) t
  held_faults t =
      let a = same_settled is_open (λ r s. refl) z (OneNode (target_node (state_at false z) t)) in
      let b = same_held in
      let c = ap (λ (m : Node). is_open (settle (state_at true z) m)) (same_target t) in
      (λ i. if_so (c i && nat_le held_limit (held (state_at true z))) held_past_limit) ∙ (λ i. if_so (a i && nat_le held_limit (b i)) held_past_limit)

  disembargo_faults : (t : Target) (c : DisembargoContext) → disembargo_fault (state_at true z) t c ≡ disembargo_fault (state_at false z) t c
  disembargo_faults t (SenderLoopback x) =
      let a = ap (λ (m : Node). is_wire (settle (state_at true z) m)) (same_target t) ∙ same_settled is_wire (λ r s. refl) z (OneNode (target_node (state_at false z) t)) in
      let b = target_faults t in
      λ i. earliest (b i ∷ if_so (not (a i)) disembargo_not_loopback ∷ [])
  disembargo_faults t (ReceiverLoopback x) =
      ap (λ (b : Bool). if_so (not b) unknown_embargo) (asked is_some (embargo_at true) (embargo_at false) (some_same (embargo_at true) (embargo_at false)) z.embargoes x.0)

  finish_faults : (flag : Bool) (o : Option AnswerEntry) → finish_fault (state_at true z) flag o ≡ finish_fault (state_at false z) flag o
  finish_faults flag None = refl
  finish_faults flag (Some a) = ap (λ (x : Option ℕ). earliest (if_so a.finished unknown_answer ∷ x ∷ [])) (flag_faults flag (gave a.returned))

  -- ---- a Return, of contents that say the same

  return_faults : (flag : Bool) (c d : ReturnBody) (o : Option TwoQuestions) → body_fault (state_at true z) d ≡ body_fault (state_at false z) c
      → return_fault (state_at true z) flag d (option_changed (question_at true) o) ≡ return_fault (state_at false z) flag c (option_changed (question_at false) o)
  return_faults flag c d None e = refl
  return_faults flag c d (Some x) e =
      let a = some_same (returned_at true) (returned_at false) x.returned in
      let f = flag_faults flag (numbers x.given) in
      λ i. earliest (if_so (a i) unknown_question ∷ e i ∷ f i ∷ [])

  return_at : (flag : Bool) (c d : ReturnBody) (q : ℕ) → body_fault (state_at true z) d ≡ body_fault (state_at false z) c
      → return_fault (state_at true z) flag d (finite.get (state_at true z).questions q) ≡ return_fault (state_at false z) flag c (finite.get (state_at false z).questions q)
  return_at flag c d q e =
      ap (return_fault (state_at true z) flag d) (get-map_values (question_at true) z.questions q)
      ∙ return_faults flag c d (finite.get z.questions q) e
      ∙ sym (ap (return_fault (state_at false z) flag c) (get-map_values (question_at false) z.questions q))

  body_like : (p q : Contents) (ds : List Descriptor) → p.caps ≡ q.caps → body_fault (state_at true z) (body.Results q ds) ≡ body_fault (state_at false z) (body.Results p ds)
  body_like p q ds e =
      let a = sym e in
      let b = descriptors_same ds in
      λ i. earliest (if_so (not (nat_eq (a i) (length ds))) bad_payload ∷ b i ∷ [])

  body_same : (c : ReturnBody) → body_fault (state_at true z) c ≡ body_fault (state_at false z) c
  body_same (body.Results p ds) = body_like p p ds refl
  body_same (body.Exception e) = refl
  body_same body.Canceled = refl

  -- ---- a message

  call_same : (c : Call) (s t : Stamp) (p q : Contents) → p.caps ≡ q.caps
      → plain_fault (state_at true z) (plain.Call (record c { stamp = t; payload = q })) ≡ plain_fault (state_at false z) (plain.Call (record c { stamp = s; payload = p }))
  call_same c s t p q e =
      let f = target_faults c.target in
      let a = sym e in
      let d = descriptors_same c.descriptors in
      let h = held_faults c.target in
      λ i. earliest
      (if_so (finite.contains_key z.rest.answers c.question.0) question_in_use
      ∷ f i
      ∷ if_so (not (nat_eq (a i) (length c.descriptors))) bad_payload
      ∷ d i
      ∷ h i
      ∷ [])

  hosted_same : (o : Option TwoImports) → is_hosted (option_changed (import_at true) o) ≡ is_hosted (option_changed (import_at false) o)
  hosted_same None = refl
  hosted_same (Some x) = refl

  resolved_same : (o : Option TwoImports) → is_resolved (option_changed (import_at true) o) ≡ is_resolved (option_changed (import_at false) o)
  resolved_same None = refl
  resolved_same (Some x) = some_same (resolution_at true) (resolution_at false) x.resolution

  resolve_same : (e : ℕ) (to other : ResolvedTo) → resolve_fault (state_at true z) to ≡ resolve_fault (state_at false z) other
      → plain_fault (state_at true z) (plain.Resolve (record { promise = record { 0 = e }; to = to })) ≡ plain_fault (state_at false z) (plain.Resolve (record { promise = record { 0 = e }; to = other }))
  resolve_same e to other f =
      let a = asked is_hosted (import_at true) (import_at false) hosted_same z.imports e in
      let b = asked is_resolved (import_at true) (import_at false) resolved_same z.imports e in
      λ i. earliest (if_so (a i) not_a_promise ∷ if_so (b i) resolved_twice ∷ f i ∷ [])

  plain_same : (m : PlainMessage) → plain_fault (state_at true z) m ≡ plain_fault (state_at false z) m
  plain_same (plain.Abort e) = refl
  plain_same (plain.Bootstrap q) = refl
  plain_same (plain.Call c) = call_same c c.stamp c.stamp c.payload c.payload refl
  plain_same (plain.Return r) = return_at r.release_param_caps r.body r.body r.answer.0 (body_same r.body)
  plain_same (plain.Finish f) = finish_faults f.release_result_caps (finite.get z.rest.answers f.question.0)
  plain_same (plain.Resolve r) = resolve_same r.promise.0 r.to r.to (resolve_faults r.to)
  plain_same (plain.Release r) = refl
  plain_same (plain.Disembargo d) = disembargo_faults d.target d.context
  plain_same (plain.Other k) = refl

  unimplemented_same : (m : PlainMessage) → unimplemented_fault (state_at true z) m ≡ unimplemented_fault (state_at false z) m
  unimplemented_same (plain.Abort e) = refl
  unimplemented_same (plain.Bootstrap q) = echoed_at q.0
  unimplemented_same (plain.Call c) = echoed_at c.question.0
  unimplemented_same (plain.Return r) = refl
  unimplemented_same (plain.Finish f) = refl
  unimplemented_same (plain.Resolve r) = refl
  unimplemented_same (plain.Release r) = refl
  unimplemented_same (plain.Disembargo d) = refl
  unimplemented_same (plain.Other k) = refl

  return_known : (a : QuestionId) (flag : Bool) (c d : ReturnBody) → body_fault (state_at true z) d ≡ body_fault (state_at false z) c
      → fault_of (state_at true z) (return_saying a flag d) ≡ fault_of (state_at false z) (return_saying a flag c)
  return_known a flag c d e = by z.rest.level (return_at flag c d a.0 e)
    where
      by : (l : Level)
          → return_fault (state_at true z) flag d (finite.get (state_at true z).questions a.0) ≡ return_fault (state_at false z) flag c (finite.get (state_at false z).questions a.0)
          → unless_foreign (is_foreign l (plain.Return (record { answer = a; release_param_caps = flag; body = d }))) (return_fault (state_at true z) flag d (finite.get (state_at true z).questions a.0))
          ≡ unless_foreign (is_foreign l (plain.Return (record { answer = a; release_param_caps = flag; body = c }))) (return_fault (state_at false z) flag c (finite.get (state_at false z).questions a.0))
      by Zero e = e
      by One e = e

  pub same_fault : (m : TwoMessages) → fault_of (state_at true z) (message_at true m) ≡ fault_of (state_at false z) (message_at false m)
  same_fault (Same (message.Plain m)) = ap (unless_foreign (is_foreign z.rest.level m)) (plain_same m)
  same_fault (Same (message.Unimplemented m)) = unimplemented_same m
  same_fault (Calls c stamp x gone) = by z.rest.level (call_same c (stamp false) (stamp true) (x.at false) (x.at true) x.like.caps)
    where
      by : (l : Level)
          → plain_fault (state_at true z) (plain.Call (record c { stamp = stamp true; payload = x.at true })) ≡ plain_fault (state_at false z) (plain.Call (record c { stamp = stamp false; payload = x.at false }))
          → unless_foreign (is_foreign l (plain.Call (record c { stamp = stamp true; payload = x.at true }))) (plain_fault (state_at true z) (plain.Call (record c { stamp = stamp true; payload = x.at true })))
          ≡ unless_foreign (is_foreign l (plain.Call (record c { stamp = stamp false; payload = x.at false }))) (plain_fault (state_at false z) (plain.Call (record c { stamp = stamp false; payload = x.at false })))
      by Zero e = e
      by One e = e
  same_fault (Returns a flag x ds gone) = return_known a flag (body.Results (x.at false) ds) (body.Results (x.at true) ds) (body_like (x.at false) (x.at true) ds x.like.caps)
  same_fault (ReturnsWhy a flag why) = return_known a flag (body.Exception (failed (reason_text (why false)))) (body.Exception (failed (reason_text (why true)))) refl
  same_fault (ResolvesWhy p why) = by z.rest.level (resolve_same p.0 (resolved.Exception (failed (reason_text (why true)))) (resolved.Exception (failed (reason_text (why false)))) refl)
    where
      by : (l : Level)
          → plain_fault (state_at true z) (resolve_saying p (why true)) ≡ plain_fault (state_at false z) (resolve_saying p (why false))
          → unless_foreign (is_foreign l (resolve_saying p (why true))) (plain_fault (state_at true z) (resolve_saying p (why true)))
          ≡ unless_foreign (is_foreign l (resolve_saying p (why false))) (plain_fault (state_at false z) (resolve_saying p (why false)))
      by Zero e = refl
      by One e = e
  same_fault (SendsBack p why) = refl
