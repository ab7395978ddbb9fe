-- In a run over wires each message on its way is understood; and the oldest one on its way to a vat that is up names each export in one
-- kind, and no promise that is known to be broken.
use Rattle.std.proofs.Common.{◌≡◌, ◌⊎◌, inl, inr, ℕ, Bool, true, false, not, ◌||◌, is_some, if◌then◌else◌, List, [], ◌∷◌, map, Option, None, Some, refl, sym, ap, subst, ◌∙◌, arith}
use Rattle.std.specs.FinMap as finite
use Rattle.std.specs.List.{filter_map, cons_option}
use Rattle.std.proofs.lemmas.List.Elements.{All-head, All-tail}
use Rattle.finite_maps.specs.Tally.{option_changed}
use Rattle.finite_maps.proofs.Values.{get-map_values}
use Rattle.rpc_msg.specs.Messages.{descriptors_of_body, descriptors_of_plain, descriptors_of_resolved}
use Rattle.rpc_msg.specs.declared.exception.Exception.{Exception}
use Rattle.rpc_msg.specs.declared.ids.ExportId.{ExportId}
use Rattle.rpc_msg.specs.declared.ids.ObjectId.{ObjectId}
use Rattle.rpc_msg.specs.declared.ids.Vat.{Vat}
use Rattle.rpc_msg.specs.declared.ids.Vat.TheVariants.{A, B}
use Rattle.rpc_msg.specs.declared.parts.Descriptor.{Descriptor}
use Rattle.rpc_msg.specs.declared.parts.Descriptor.TheVariants as descriptor
use Rattle.rpc_msg.specs.declared.parts.Target.{Target}
use Rattle.rpc_msg.specs.declared.parts.Target.TheVariants.{ImportedCap, PromisedAnswer}
use Rattle.rpc_msg.specs.declared.message.ReturnBody.{ReturnBody}
use Rattle.rpc_msg.specs.declared.message.ReturnBody.TheVariants as body
use Rattle.rpc_msg.specs.declared.message.ResolvedTo.{ResolvedTo}
use Rattle.rpc_msg.specs.declared.message.ResolvedTo.TheVariants as resolved
use Rattle.rpc_msg.specs.declared.message.PlainMessage.{PlainMessage}
use Rattle.rpc_msg.specs.declared.message.PlainMessage.TheVariants as plain
use Rattle.rpc_msg.specs.declared.message.Message.{Message}
use Rattle.rpc_msg.specs.declared.message.Message.TheVariants as message
use Rattle.rpc_journal.specs.History.{or_rest, if_so}
use Rattle.rpc_machine.specs.declared.command.Level.{Level}
use Rattle.rpc_machine.specs.declared.command.Level.TheVariants.{Zero, One}
use Rattle.rpc_machine.specs.declared.entries.AnswerEntry.{AnswerEntry}
use Rattle.rpc_machine.specs.declared.entries.Import.{Import}
use Rattle.rpc_machine.specs.declared.entries.Question.{Question}
use Rattle.rpc_machine.specs.declared.entries.Resolution.{Resolution}
use Rattle.rpc_machine.specs.declared.entries.Resolution.TheVariants as resolution
use Rattle.rpc_machine.specs.declared.entries.SenderKind.{SenderKind}
use Rattle.rpc_machine.specs.declared.entries.SenderKind.TheVariants as kind
use Rattle.rpc_machine.specs.Faults.{body_fault, descriptor_fault, descriptors_fault, each_fault, fault_of, faults_at, is_foreign, is_hosted, is_resolved, kind_clashes, plain_fault, resolve_fault, return_fault, same_kind, target_fault, unless_foreign}
use Rattle.rpc_machine.specs.Numbers.{bad_payload, held_past_limit, kind_mismatch, not_a_promise, question_in_use, resolved_twice, unknown_answer, unknown_export, unknown_question}
use Rattle.rpc_machine.specs.Routing.{failed, reason_text}
use Rattle.rpc_machine.specs.State.{State}
use Rattle.rpc_machine.specs.World.{World, core, inbox}
use Rattle.rpc_codec.specs.Envelopes.{profile}
use Rattle.peer_broken.specs.Naming.{broken_name, names_of}
use Rattle.vat_core.specs.Foreseen.{is_broken, is_exception}
use Rattle.vat_connection.specs.Speaking.{tables_of}
use Rattle.laws_messages.specs.Left.{IsLastWord}
use Rattle.laws_messages.specs.Oldest.{IsFirstResolve, NoneClashes}
use Rattle.laws_runs.specs.SoundScenes.{MayFault}
use Rattle.laws_scenes.specs.Refused.{RunsRefuseNothing}
use Rattle.laws_understood.specs.Understood.{IsUnderstood, AllUnderstood, EveryRunIsUnderstood}
use Rattle.laws_wired.specs.Pairs.{TwoStates, TwoMessages, TwoImports, TwoResolutions, Same, Calls, Returns, ReturnsWhy, ResolvesWhy, SendsBack, import_at, resolution_at, resolve_saying, message_at, state_at}
use Rattle.laws_in_bytes.proofs.Viewing.{Reached}
use Rattle.laws_wired.specs.Wires.{IsHeard, AsSaid, OfCall, OfResults, TwoSides, TwoWorlds, happening_at, world_at, WiredRunsAreRuns}

-- ---- what a message names that is no fault

-- No answer is open under the id of a question that it asks.
abbrev pub IsNewQuestion : State → PlainMessage → Type 0
IsNewQuestion s (plain.Abort e) = Unit {0}
IsNewQuestion s (plain.Bootstrap q) = finite.get s.answers q.0 ≡ None
IsNewQuestion s (plain.Call c) = finite.get s.answers c.question.0 ≡ None
IsNewQuestion s (plain.Return r) = Unit {0}
IsNewQuestion s (plain.Finish f) = Unit {0}
IsNewQuestion s (plain.Resolve r) = Unit {0}
IsNewQuestion s (plain.Release r) = Unit {0}
IsNewQuestion s (plain.Disembargo d) = Unit {0}
IsNewQuestion s (plain.Other n) = Unit {0}

-- It names each export in one kind, it resolves a promise that was not resolved, and what it asks is a new question.
pub record NamesWell (s : State) (p : PlainMessage) : Type 0 where
  pub first : IsFirstResolve s p
  pub none : NoneClashes s [] (descriptors_of_plain p)
  pub asks : IsNewQuestion s p

first_none : (a b : Option ℕ) → or_rest a b ≡ None → a ≡ None
first_none None b e = refl
first_none (Some x) b e = cc

rest_none : (a b : Option ℕ) → or_rest a b ≡ None → b ≡ None
rest_none None b e = e
rest_none (Some x) b e = cc

not_so : (b : Bool) (k : ℕ) → if_so b k ≡ None → b ≡ false
not_so false k e = refl
not_so true k e = cc

-- what is not among the keys
not_there : (o : Option AnswerEntry) → is_some o ≡ false → o ≡ None
not_there None e = refl
not_there (Some x) e = absurd (let bad : true ≡ false = e in cc)

clashes : (s : State) (before ds : List Descriptor) → each_fault s before ds ≡ None → NoneClashes s before ds
clashes s before [] h = tt
clashes s before (descriptor.None ∷ ds) h = clashes s (descriptor.None ∷ before) ds h
clashes s before (descriptor.SenderHosted e ∷ ds) h = (
  not_so (kind_clashes kind.Hosted e.0 before (finite.get s.imports e.0)) kind_mismatch
      (first_none (descriptor_fault s before (descriptor.SenderHosted e)) (each_fault s (descriptor.SenderHosted e ∷ before) ds) h),
  clashes s (descriptor.SenderHosted e ∷ before) ds (rest_none (descriptor_fault s before (descriptor.SenderHosted e)) (each_fault s (descriptor.SenderHosted e ∷ before) ds) h),
)
clashes s before (descriptor.SenderPromise e ∷ ds) h = (
  not_so (kind_clashes kind.Promise e.0 before (finite.get s.imports e.0)) kind_mismatch
      (first_none (descriptor_fault s before (descriptor.SenderPromise e)) (each_fault s (descriptor.SenderPromise e ∷ before) ds) h),
  clashes s (descriptor.SenderPromise e ∷ before) ds (rest_none (descriptor_fault s before (descriptor.SenderPromise e)) (each_fault s (descriptor.SenderPromise e ∷ before) ds) h),
)
clashes s before (descriptor.ReceiverHosted e ∷ ds) h =
    clashes s (descriptor.ReceiverHosted e ∷ before) ds (rest_none (descriptor_fault s before (descriptor.ReceiverHosted e)) (each_fault s (descriptor.ReceiverHosted e ∷ before) ds) h)
clashes s before (descriptor.ReceiverAnswer q path ∷ ds) h =
    clashes s (descriptor.ReceiverAnswer q path ∷ before) ds (rest_none (descriptor_fault s before (descriptor.ReceiverAnswer q path)) (each_fault s (descriptor.ReceiverAnswer q path ∷ before) ds) h)

-- ---- a call that may not wait is the last check of a message

abbrev IsOther : Option ℕ → Type 0
IsOther o = o ≡ Some held_past_limit → ⊥

none_other : IsOther None
none_other e = cc

so_other : (b : Bool) (k : ℕ) → (k ≡ held_past_limit → ⊥) → IsOther (if_so b k)
so_other true k other e = other cc
so_other false k other e = none_other e

or_other : (a b : Option ℕ) → IsOther a → IsOther b → IsOther (or_rest a b)
or_other None b x y e = y e
or_other (Some n) b x y e = x e

abbrev Differs : ℕ → Type 0
Differs k = k ≡ held_past_limit → ⊥

kind_differs : Differs kind_mismatch
kind_differs e = absurd (omega arith)

export_differs : Differs unknown_export
export_differs e = absurd (omega arith)

answer_differs : Differs unknown_answer
answer_differs e = absurd (omega arith)

payload_differs : Differs bad_payload
payload_differs e = absurd (omega arith)

question_differs : Differs unknown_question
question_differs e = absurd (omega arith)

use_differs : Differs question_in_use
use_differs e = absurd (omega arith)

promise_differs : Differs not_a_promise
promise_differs e = absurd (omega arith)

twice_differs : Differs resolved_twice
twice_differs e = absurd (omega arith)

one_other : (s : State) (before : List Descriptor) (d : Descriptor) → IsOther (descriptor_fault s before d)
one_other s before descriptor.None = none_other
one_other s before (descriptor.SenderHosted e) = so_other (kind_clashes kind.Hosted e.0 before (finite.get s.imports e.0)) kind_mismatch kind_differs
one_other s before (descriptor.SenderPromise e) = so_other (kind_clashes kind.Promise e.0 before (finite.get s.imports e.0)) kind_mismatch kind_differs
one_other s before (descriptor.ReceiverHosted e) = so_other (not (finite.contains_key s.exports e.0)) unknown_export export_differs
one_other s before (descriptor.ReceiverAnswer q path) = so_other (not (finite.contains_key s.answers q.0)) unknown_answer answer_differs

each_other : (s : State) (before ds : List Descriptor) → IsOther (each_fault s before ds)
each_other s before [] = none_other
each_other s before (d ∷ ds) = or_other (descriptor_fault s before d) (each_fault s (d ∷ before) ds) (one_other s before d) (each_other s (d ∷ before) ds)

all_other : (s : State) (ds : List Descriptor) → IsOther (descriptors_fault s ds)
all_other s ds = by s.level
  where
    by : (l : Level) → IsOther (faults_at l s ds)
    by Zero = none_other
    by One = each_other s [] ds

target_other : (s : State) (t : Target) → IsOther (target_fault s t)
target_other s (ImportedCap e) = so_other (not (finite.contains_key s.exports e.0)) unknown_export export_differs
target_other s (PromisedAnswer q path) = so_other (not (finite.contains_key s.answers q.0)) unknown_answer answer_differs

body_other : (s : State) (b : ReturnBody) → IsOther (body_fault s b)
body_other s (body.Results p ds) = or_other _ _ (so_other _ bad_payload payload_differs) (or_other _ _ (all_other s ds) none_other)
body_other s (body.Exception e) = none_other
body_other s body.Canceled = none_other

skip : (a rest : Option ℕ) → IsOther a → MayFault (or_rest a rest) → (a ≡ None) × MayFault rest
skip None rest other h = (refl, h)
skip (Some n) rest other h = absurd (other (ap Some h))

-- ---- so a message that is not refused names well

module _ (s : State) (one : s.level ≡ One) where
  looked_at : (ds : List Descriptor) → descriptors_fault s ds ≡ None → NoneClashes s [] ds
  looked_at ds h = clashes s [] ds (sym (ap (λ (l : Level). faults_at l s ds) one) ∙ h)

  body_well : (b : ReturnBody) → body_fault s b ≡ None → NoneClashes s [] (descriptors_of_body b)
  body_well (body.Results p ds) h = looked_at ds (first_none (descriptors_fault s ds) None (rest_none _ _ h))
  body_well (body.Exception e) h = tt
  body_well body.Canceled h = tt

  return_well : (flag : Bool) (b : ReturnBody) (o : Option Question) → MayFault (return_fault s flag b o) → NoneClashes s [] (descriptors_of_body b)
  return_well flag b None h = absurd (question_differs h)
  return_well flag b (Some x) h =
      let returned = skip (if_so (is_some x.returned) unknown_question) _ (so_other (is_some x.returned) unknown_question question_differs) h in
      body_well b (skip (body_fault s b) _ (body_other s b) returned.1).0

  call_well : (a b c d : Option ℕ) (rest : Option ℕ) → IsOther a → IsOther b → IsOther c → IsOther d → MayFault (or_rest a (or_rest b (or_rest c (or_rest d rest)))) → (a ≡ None) × (d ≡ None)
  call_well a b c d rest x y z u h =
      let one = skip a _ x h in
      (one.0, (skip d rest u (skip c _ z (skip b _ y one.1).1).1).0)

  new_by : (q : ℕ) → if_so (finite.contains_key s.answers q) question_in_use ≡ None → finite.get s.answers q ≡ None
  new_by q h = not_there (finite.get s.answers q) (not_so (finite.contains_key s.answers q) question_in_use h)

  root_well : (o : Option ℕ) → IsOther o → MayFault o → o ≡ None
  root_well None other h = refl
  root_well (Some n) other h = absurd (other (ap Some h))

  resolved_well : (to : ResolvedTo) → MayFault (or_rest (resolve_fault s to) None) → NoneClashes s [] (descriptors_of_resolved to)
  resolved_well (resolved.Cap d) h = looked_at (d ∷ []) (skip (descriptors_fault s (d ∷ [])) None (all_other s (d ∷ [])) h).0
  resolved_well (resolved.Exception e) h = tt

  well : (p : PlainMessage) → MayFault (plain_fault s p) → NamesWell s p
  well (plain.Abort e) h = record { first = tt; none = tt; asks = tt }
  well (plain.Bootstrap q) h = record {
    first = tt;
    none = tt;
    asks = new_by q.0 (root_well (if_so (finite.contains_key s.answers q.0) question_in_use) (so_other _ question_in_use use_differs) h);
  }
  well (plain.Call c) h =
      let k = call_well (if_so (finite.contains_key s.answers c.question.0) question_in_use) _ _ (descriptors_fault s c.descriptors) _ (so_other _ question_in_use use_differs) (target_other s c.target) (so_other _ bad_payload payload_differs) (all_other s c.descriptors) h in
      record { first = tt; none = looked_at c.descriptors k.1; asks = new_by c.question.0 k.0 }
  well (plain.Return r) h = record { first = tt; none = return_well r.release_param_caps r.body (finite.get s.questions r.answer.0) h; asks = tt }
  well (plain.Finish f) h = record { first = tt; none = tt; asks = tt }
  well (plain.Resolve r) h =
      let hosted = skip (if_so (is_hosted (finite.get s.imports r.promise.0)) not_a_promise) _ (so_other _ not_a_promise promise_differs) h in
      let twice = skip (if_so (is_resolved (finite.get s.imports r.promise.0)) resolved_twice) _ (so_other _ resolved_twice twice_differs) hosted.1 in
      record {
        first = (not_so _ not_a_promise hosted.0, not_so _ resolved_twice twice.0);
        none = resolved_well r.to twice.1;
        asks = tt;
      }
  well (plain.Release r) h = record { first = tt; none = tt; asks = tt }
  well (plain.Disembargo d) h = record { first = tt; none = tt; asks = tt }
  well (plain.Other n) h = record { first = tt; none = tt; asks = tt }

  pub not_refused : (p : PlainMessage) → MayFault (fault_of s (message.Plain p)) → NamesWell s p
  not_refused p h = well p (subst (λ (l : Level). MayFault (unless_foreign (is_foreign l p) (plain_fault s p))) one h)

-- ---- what is heard of it names as well

plain_in : (p q : PlainMessage) → message.Plain p ≡ message.Plain q → p ≡ q
plain_in p q e = cc

-- It is plain, and names well.
abbrev pub Plainly : State → Message → Type 0
Plainly s m = (p : PlainMessage) × (m ≡ message.Plain p) × NamesWell s p

pub heard_well : (s : State) (m x : Message) → IsHeard m x → Plainly s m → Plainly s x
heard_well s m x (AsSaid is) (p, e, w) = (p, is ∙ e, w)
heard_well s m x (OfCall c stamp q heard said_is heard_is) (p, e, w) =
    let v = subst (NamesWell s) (sym (plain_in (plain.Call (record c { stamp = c.stamp; payload = c.payload })) p (sym said_is ∙ e))) w in
    (plain.Call (record c { stamp = stamp; payload = q }), heard_is, record { first = tt; none = v.none; asks = v.asks })
heard_well s m x (OfResults a flag ds said q heard said_is heard_is) (p, e, w) =
    let v = subst (NamesWell s) (sym (plain_in (plain.Return (record { answer = a; release_param_caps = flag; body = body.Results said ds })) p (sym said_is ∙ e))) w in
    (plain.Return (record { answer = a; release_param_caps = flag; body = body.Results q ds }), heard_is, record { first = tt; none = v.none; asks = tt })

-- ---- it names no promise that is known to be broken

neither : (a b : Bool) → (a || b) ≡ false → b ≡ false
neither false b e = e
neither true b e = cc

unresolved : (o : Option Resolution) → is_some o ≡ false → is_exception o ≡ false
unresolved None e = refl
unresolved (Some (resolution.To d n)) e = refl
unresolved (Some (resolution.Exception x)) e = cc

not_broken : (e : ℕ) (before : List Descriptor) (o : Option Import) → kind_clashes kind.Promise e before o ≡ false → is_broken o ≡ false
not_broken e before None h = refl
not_broken e before (Some x) h = unresolved x.resolution (neither (not (same_kind kind.Promise x.kind)) (is_some x.resolution) h)

skipped : (o : Option ExportId) (xs : List ExportId) → o ≡ None → cons_option o xs ≡ xs
skipped None xs e = refl
skipped (Some x) xs e = cc

none_named : (s : State) (before ds : List Descriptor) → NoneClashes s before ds → filter_map (broken_name (tables_of s).broken) ds ≡ []
none_named s before [] h = refl
none_named s before (descriptor.None ∷ ds) h = none_named s (descriptor.None ∷ before) ds h
none_named s before (descriptor.SenderHosted e ∷ ds) h = none_named s (descriptor.SenderHosted e ∷ before) ds h.1
none_named s before (descriptor.SenderPromise e ∷ ds) h =
    skipped (broken_name (tables_of s).broken (descriptor.SenderPromise e)) (filter_map (broken_name (tables_of s).broken) ds)
    (ap (λ (b : Bool). if b then Some e else None) (not_broken e.0 before (finite.get s.imports e.0) h.0))
    ∙ none_named s (descriptor.SenderPromise e ∷ before) ds h.1
none_named s before (descriptor.ReceiverHosted e ∷ ds) h = none_named s (descriptor.ReceiverHosted e ∷ before) ds h
none_named s before (descriptor.ReceiverAnswer q path ∷ ds) h = none_named s (descriptor.ReceiverAnswer q path ∷ before) ds h

pub names_none : (s : State) (p : PlainMessage) → NamesWell s p → names_of (tables_of s).broken (profile (message.Plain p)) ≡ []
names_none s p w = none_named s [] (descriptors_of_plain p) w.none

-- ---- over a wire it names as well as in one world

module _ (z : TwoStates) where
  same_import : (e : ℕ) (P : Option Import → Type 0) → ((o : Option TwoImports) → P (option_changed (import_at true) o) → P (option_changed (import_at false) o))
      → P (finite.get (state_at true z).imports e) → P (finite.get (state_at false z).imports e)
  same_import e P by h =
      subst P (sym (get-map_values (import_at false) z.imports e)) (by (finite.get z.imports e) (subst P (get-map_values (import_at true) z.imports e) h))

  clash_too : (k : SenderKind) (e : ℕ) (before : List Descriptor) (o : Option TwoImports) → kind_clashes k e before (option_changed (import_at true) o) ≡ false
      → kind_clashes k e before (option_changed (import_at false) o) ≡ false
  clash_too k e before None h = h
  clash_too k e before (Some x) h = by x.resolution h
    where
      by : (r : Option TwoResolutions) → (not (same_kind k x.kind) || is_some (option_changed (resolution_at true) r)) ≡ false
          → (not (same_kind k x.kind) || is_some (option_changed (resolution_at false) r)) ≡ false
      by None h = h
      by (Some r) h = h

  none_too : (before ds : List Descriptor) → NoneClashes (state_at true z) before ds → NoneClashes (state_at false z) before ds
  none_too before [] h = tt
  none_too before (descriptor.None ∷ ds) h = none_too (descriptor.None ∷ before) ds h
  none_too before (descriptor.SenderHosted e ∷ ds) h =
      (same_import e.0 (λ o. kind_clashes kind.Hosted e.0 before o ≡ false) (clash_too kind.Hosted e.0 before) h.0, none_too (descriptor.SenderHosted e ∷ before) ds h.1)
  none_too before (descriptor.SenderPromise e ∷ ds) h =
      (same_import e.0 (λ o. kind_clashes kind.Promise e.0 before o ≡ false) (clash_too kind.Promise e.0 before) h.0, none_too (descriptor.SenderPromise e ∷ before) ds h.1)
  none_too before (descriptor.ReceiverHosted e ∷ ds) h = none_too (descriptor.ReceiverHosted e ∷ before) ds h
  none_too before (descriptor.ReceiverAnswer q path ∷ ds) h = none_too (descriptor.ReceiverAnswer q path ∷ before) ds h

  hosted_too : (o : Option TwoImports) → is_hosted (option_changed (import_at true) o) ≡ false → is_hosted (option_changed (import_at false) o) ≡ false
  hosted_too None h = h
  hosted_too (Some x) h = h

  resolved_too : (o : Option TwoImports) → is_resolved (option_changed (import_at true) o) ≡ false → is_resolved (option_changed (import_at false) o) ≡ false
  resolved_too None h = h
  resolved_too (Some x) h = by x.resolution h
    where
      by : (r : Option TwoResolutions) → is_some (option_changed (resolution_at true) r) ≡ false → is_some (option_changed (resolution_at false) r) ≡ false
      by None h = h
      by (Some r) h = h

  first_too : (p : PlainMessage) → IsFirstResolve (state_at true z) p → IsFirstResolve (state_at false z) p
  first_too (plain.Abort e) h = tt
  first_too (plain.Bootstrap q) h = tt
  first_too (plain.Call c) h = tt
  first_too (plain.Return r) h = tt
  first_too (plain.Finish f) h = tt
  first_too (plain.Resolve r) h =
      (same_import r.promise.0 (λ o. is_hosted o ≡ false) hosted_too h.0, same_import r.promise.0 (λ o. is_resolved o ≡ false) resolved_too h.1)
  first_too (plain.Release r) h = tt
  first_too (plain.Disembargo d) h = tt
  first_too (plain.Other n) h = tt

  -- both have the same answers
  asks_too : (p : PlainMessage) → IsNewQuestion (state_at true z) p → IsNewQuestion (state_at false z) p
  asks_too (plain.Abort e) h = h
  asks_too (plain.Bootstrap q) h = h
  asks_too (plain.Call c) h = h
  asks_too (plain.Return r) h = h
  asks_too (plain.Finish f) h = h
  asks_too (plain.Resolve r) h = h
  asks_too (plain.Release r) h = h
  asks_too (plain.Disembargo d) h = h
  asks_too (plain.Other n) h = h

  plain_too : (p : PlainMessage) → NamesWell (state_at true z) p → NamesWell (state_at false z) p
  plain_too p w = record { first = first_too p w.first; none = none_too [] (descriptors_of_plain p) w.none; asks = asks_too p w.asks }

  message_too : (y : TwoMessages) → Plainly (state_at true z) (message_at true y) → Plainly (state_at false z) (message_at false y)
  message_too (Same m) (p, is, w) = (p, is, plain_too p w)
  message_too (Calls c stamp x gone) (p, is, w) =
      let v = subst (NamesWell (state_at true z)) (sym (plain_in (plain.Call (record c { stamp = stamp true; payload = x.at true })) p is)) w in
      (plain.Call (record c { stamp = stamp false; payload = x.at false }), refl, record { first = tt; none = none_too [] c.descriptors v.none; asks = v.asks })
  message_too (Returns a flag x ds gone) (p, is, w) =
      let v = subst (NamesWell (state_at true z)) (sym (plain_in (plain.Return (record { answer = a; release_param_caps = flag; body = body.Results (x.at true) ds })) p is)) w in
      (plain.Return (record { answer = a; release_param_caps = flag; body = body.Results (x.at false) ds }), refl, record { first = tt; none = none_too [] ds v.none; asks = tt })
  message_too (ReturnsWhy a flag why) (p, is, w) =
      (plain.Return (record { answer = a; release_param_caps = flag; body = body.Exception (failed (reason_text (why false))) }), refl, record { first = tt; none = tt; asks = tt })
  message_too (ResolvesWhy e why) (p, is, w) =
      let v = subst (NamesWell (state_at true z)) (sym (plain_in (resolve_saying e (why true)) p is)) w in
      (resolve_saying e (why false), refl, record { first = first_too (resolve_saying e (why false)) v.first; none = tt; asks = tt })
  message_too (SendsBack e why) (p, is, w) = absurd cc

-- ---- on the way

-- Each of these messages is understood.
abbrev pub AreUnderstood : List Message → Type 0
AreUnderstood [] = Unit {0}
AreUnderstood (m ∷ ms) = IsUnderstood m × AreUnderstood ms

understood_too : (y : TwoMessages) → IsUnderstood (message_at true y) → IsUnderstood (message_at false y)
understood_too (Same m) u = u
understood_too (Calls c stamp x gone) u = u
understood_too (Returns a flag x ds gone) u = u
understood_too (ReturnsWhy a flag why) u = u
understood_too (ResolvesWhy e why) u = u
understood_too (SendsBack e why) u = u

all_too : (ys : List TwoMessages) → AllUnderstood (map (message_at true) ys) → AreUnderstood (map (message_at false) ys)
all_too [] h = tt
all_too (y ∷ ys) h = (
  understood_too y (All-head IsUnderstood (message_at true y) (map (message_at true) ys) h),
  all_too ys (All-tail IsUnderstood (message_at true y) (map (message_at true) ys) h),
)

oldest : (ys : List TwoMessages) (m : Message) (ms : List Message) → map (message_at false) ys ≡ m ∷ ms → (y : TwoMessages) × (rest : List TwoMessages) × (ys ≡ y ∷ rest) × (message_at false y ≡ m)
oldest [] m ms e = absurd cc
oldest (y ∷ ys) m ms e = (y, ys, refl, cc)

plainly : (m : Message) → IsUnderstood m → (p : PlainMessage) × (m ≡ message.Plain p)
plainly (message.Plain p) u = (p, refl)
plainly (message.Unimplemented p) u = absurd u

-- the oldest message on its way to one of two vats, which it does not refuse
side_well : (y : TwoSides) (m : Message) (ms : List Message) → y.core.rest.level ≡ One → AllUnderstood (map (message_at true) y.inbox)
    → ((n : Message) (ns : List Message) → map (message_at true) y.inbox ≡ n ∷ ns → ((x : Exception) × (n ≡ message.Plain (plain.Abort x))) ⊎ MayFault (fault_of (state_at true y.core) n))
    → map (message_at false) y.inbox ≡ m ∷ ms → Plainly (state_at false y.core) m
side_well y m ms one understood passes is =
    let o = oldest y.inbox m ms is in
    let there : map (message_at true) y.inbox ≡ message_at true o.0 ∷ map (message_at true) o.1 = ap (map (message_at true)) o.2 in
    let plain_is = plainly (message_at true o.0) (All-head IsUnderstood (message_at true o.0) (map (message_at true) o.1) (subst AllUnderstood there understood)) in
    subst (Plainly (state_at false y.core)) o.3 (message_too y.core o.0 (by o.0 plain_is.0 plain_is.1 (passes (message_at true o.0) (map (message_at true) o.1) there)))
  where
    by : (x : TwoMessages) (p : PlainMessage) → message_at true x ≡ message.Plain p → ((e : Exception) × (message_at true x ≡ message.Plain (plain.Abort e))) ⊎ MayFault (fault_of (state_at true y.core) (message_at true x))
        → Plainly (state_at true y.core) (message_at true x)
    by x p e (inl (a, b)) = (plain.Abort a, b, record { first = tt; none = tt; asks = tt })
    by x p e (inr h) = (p, e, not_refused (state_at true y.core) one p (subst (λ (n : Message). MayFault (fault_of (state_at true y.core) n)) e h))

module _ (runs : WiredRunsAreRuns) (refuse : RunsRefuseNothing) (understood : EveryRunIsUnderstood) (letters : Vat → Vat) (root_a root_b : Option ObjectId) where
  pub on_way : (w : World) (v : Vat) → Reached letters root_a root_b w → AreUnderstood (inbox w v)
  on_way w v (xs, ran) =
      let i = runs letters root_a root_b xs w ran in
      subst (λ (x : World). AreUnderstood (inbox x v)) (sym i.leads) (by v i.worlds ((understood root_a root_b (map (happening_at true) i.happened) (world_at true i.worlds) i.ran).on_way v))
    where
      by : (v : Vat) (z : TwoWorlds) → AllUnderstood (inbox (world_at true z) v) → AreUnderstood (inbox (world_at false z) v)
      by A z h = all_too z.a.inbox h
      by B z h = all_too z.b.inbox h

  last_or : (w : World) (v : Vat) (n : Message) → IsLastWord w v n ⊎ MayFault (fault_of (core w v) n) → ((x : Exception) × (n ≡ message.Plain (plain.Abort x))) ⊎ MayFault (fault_of (core w v) n)
  last_or w v n (inl (x, is, down)) = inl (x, is)
  last_or w v n (inr h) = inr h

  pub oldest_well : (w : World) (v : Vat) (m : Message) (ms : List Message) → Reached letters root_a root_b w → (core w v).down ≡ None → (core w v).level ≡ One → inbox w v ≡ m ∷ ms → Plainly (core w v) m
  oldest_well w v m ms (xs, ran) up one is =
      let i = runs letters root_a root_b xs w ran in
      let hs = map (happening_at true) i.happened in
      let z = i.worlds in
      let e = i.leads in
      subst (λ (x : World). Plainly (core x v) m) (sym e)
      (by v z (subst (λ (x : World). (core x v).down ≡ None) e up) (subst (λ (x : World). (core x v).level ≡ One) e one) (subst (λ (x : World). inbox x v ≡ m ∷ ms) e is)
      ((understood root_a root_b hs (world_at true z) i.ran).on_way v)
      (λ n ns up there. last_or (world_at true z) v n (refuse root_a root_b hs (world_at true z) i.ran v n ns up there)))
    where
      by : (v : Vat) (z : TwoWorlds) → (core (world_at false z) v).down ≡ None → (core (world_at false z) v).level ≡ One → inbox (world_at false z) v ≡ m ∷ ms → AllUnderstood (inbox (world_at true z) v)
          → ((n : Message) (ns : List Message) → (core (world_at true z) v).down ≡ None → inbox (world_at true z) v ≡ n ∷ ns
          → ((x : Exception) × (n ≡ message.Plain (plain.Abort x))) ⊎ MayFault (fault_of (core (world_at true z) v) n)) → Plainly (core (world_at false z) v) m
      by A z up one is u passes = side_well z.a m ms one u (λ n ns there. passes n ns up there) is
      by B z up one is u passes = side_well z.b m ms one u (λ n ns there. passes n ns up there) is
