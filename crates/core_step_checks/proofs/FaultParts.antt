-- The fault of a message in its parts, and what of it stays where the descriptors were taken.
use Rattle.std.proofs.Common.{◌≡◌, ℕ, Bool, true, false, not, nat_eq, Option, None, Some, is_some, List, [], ◌∷◌, length, refl, sym, ap, subst}
use Rattle.std.specs.FinMap as map
use Rattle.finite_maps.specs.Tally.{Map}
use Rattle.rpc_msg.specs.declared.parts.Descriptor.{Descriptor}
use Rattle.rpc_msg.specs.declared.parts.Descriptor.TheVariants as descriptor
use Rattle.rpc_msg.specs.declared.parts.Target.{Target}
use Rattle.rpc_msg.specs.declared.parts.Target.TheVariants.{ImportedCap, PromisedAnswer}
use Rattle.rpc_msg.specs.declared.message.ReturnBody.{ReturnBody}
use Rattle.rpc_msg.specs.declared.message.ReturnBody.TheVariants as body
use Rattle.rpc_msg.specs.declared.message.ResolvedTo.{ResolvedTo}
use Rattle.rpc_msg.specs.declared.message.ResolvedTo.TheVariants as resolved
use Rattle.rpc_msg.specs.declared.message.Resolve.{Resolve}
use Rattle.rpc_msg.specs.declared.message.PlainMessage.{PlainMessage}
use Rattle.rpc_msg.specs.declared.message.PlainMessage.TheVariants as plain
use Rattle.rpc_msg.specs.declared.message.Message.{Message}
use Rattle.rpc_msg.specs.declared.message.Message.TheVariants as message
use Rattle.rpc_msg.specs.Messages.{descriptors_of, descriptors_of_body, descriptors_of_resolved}
use Rattle.rpc_journal.specs.History.{or_rest, if_so}
use Rattle.rpc_machine.specs.declared.command.Level.{Level}
use Rattle.rpc_machine.specs.declared.command.Level.TheVariants.{Zero, One}
use Rattle.rpc_machine.specs.declared.node.Node.{Node}
use Rattle.rpc_machine.specs.declared.node.Node.TheVariants as node
use Rattle.rpc_machine.specs.declared.entries.Question.{Question}
use Rattle.rpc_machine.specs.declared.entries.AnswerEntry.{AnswerEntry}
use Rattle.rpc_machine.specs.declared.entries.Import.{Import}
use Rattle.rpc_machine.specs.declared.entries.SenderKind.TheVariants as kind
use Rattle.rpc_machine.specs.State.{State}
use Rattle.rpc_machine.specs.Numbers.{question_in_use, bad_payload}
use Rattle.rpc_machine.specs.Payloads.{caps_in}
use Rattle.rpc_machine.specs.Lists.{earliest}
use Rattle.rpc_machine.specs.Nodes.{link, settle}
use Rattle.rpc_machine.proofs.Following.{settles_alike}
use Rattle.rpc_machine.specs.Progress.{numbers}
use Rattle.rpc_machine.specs.Descriptors.{take_each, take_at, take_all, import_one}
use Rattle.rpc_machine.specs.Faults.{target_fault, target_node, faults_at, descriptors_fault, flag_fault, return_fault, finish_fault, echoed_fault, resolve_fault, held_fault, plain_fault, unimplemented_fault, is_foreign, unless_foreign, fault_of}
use Rattle.core_step_checks.specs.Parts.{before_body, before_return, before_finish, before_echoed, before_unimplemented, fault_before, behind_plain, fault_behind, if_flagged, given_with, given_in, flagged_by_plain, flagged_by_echo, flagged}

-- ---- Lists of checks

-- What comes behind the first part of a message that has but this.
abbrev rest_of : Option ℕ → Option ℕ → Option ℕ → Option ℕ
rest_of d h f = or_rest d (or_rest h (or_rest f None))

no_rest : (f d : Option ℕ) → d ≡ None → f ≡ or_rest f (rest_of d None None)
no_rest (Some n) d h = refl
no_rest None d h = rw (h) refl

-- The fault of a flag behind one other part.
with_flag : (a d f g : Option ℕ) → d ≡ None → f ≡ g → or_rest a (or_rest f None) ≡ or_rest a (rest_of d None g)
with_flag a d f g h e = rw (h, e) refl

call_parts : (a b p d h : Option ℕ) → or_rest a (or_rest b (or_rest p (or_rest d (or_rest h None)))) ≡ or_rest (or_rest a (or_rest b (or_rest p None))) (rest_of d h None)
call_parts (Some n) b p d h = refl
call_parts None (Some n) p d h = refl
call_parts None None (Some n) d h = refl
call_parts None None None d h = ap (λ x. or_rest d x) (once h)
  where
    once : (x : Option ℕ) → or_rest x None ≡ or_rest x (or_rest None None)
    once None = refl
    once (Some n) = refl

results_parts : (r p d f g : Option ℕ) → f ≡ g → or_rest r (or_rest (or_rest p (or_rest d None)) (or_rest f None)) ≡ or_rest (or_rest r (or_rest p None)) (rest_of d None g)
results_parts (Some n) p d f g e = refl
results_parts None (Some n) d f g e = refl
results_parts None None (Some n) f g e = refl
results_parts None None None f g e = rw (e) refl

other_parts : (r d f g : Option ℕ) → d ≡ None → f ≡ g → or_rest r (or_rest None (or_rest f None)) ≡ or_rest (or_rest r (or_rest None None)) (rest_of d None g)
other_parts (Some n) d f g h e = refl
other_parts None d f g h e = rw (h, e) refl

-- A part that was looked at before says nothing more.
said_before : (a b d : Option ℕ) → or_rest (or_rest a (or_rest b (or_rest d None))) (rest_of d None None) ≡ or_rest a (or_rest b (or_rest d None))
said_before (Some n) b d = refl
said_before None (Some n) d = refl
said_before None None (Some n) = refl
said_before None None None = refl

-- ---- Messages

understood : (b : Bool) (f g rest : Option ℕ) → b ≡ false → f ≡ or_rest g rest → unless_foreign b f ≡ or_rest (unless_foreign b g) rest
understood true f g rest h e = cc
understood false f g rest h e = e

foreign : (b : Bool) (f rest : Option ℕ) → (b ≡ true → rest ≡ None) → or_rest f rest ≡ f → unless_foreign b f ≡ or_rest (unless_foreign b f) rest
foreign true f rest h e = sym (h refl)
foreign false f rest h e = sym e

no_descriptors : (s : State) → descriptors_fault s [] ≡ None
no_descriptors s = by s.level
  where
    by : (l : Level) → faults_at l s [] ≡ None
    by Zero = refl
    by One = refl

flag_of : (s : State) (flag : Bool) (ids : List ℕ) → flag_fault s flag ids ≡ flag_fault s true (if_flagged flag ids)
flag_of s true ids = refl
flag_of s false ids = refl

return_parts : (s : State) (flag : Bool) (said : ReturnBody) (o : Option Question) →
    return_fault s flag said o ≡ or_rest (before_return said o) (rest_of (descriptors_fault s (descriptors_of_body said)) None (flag_fault s true (if_flagged flag (given_with o))))
return_parts s flag said None = refl
return_parts s flag (body.Results payload ds) (Some x) =
    results_parts (if_so (is_some x.returned) _) (before_body (body.Results payload ds)) (descriptors_fault s ds) (flag_fault s flag (numbers x.given)) (flag_fault s true (if_flagged flag (numbers x.given))) (flag_of s flag (numbers x.given))
return_parts s flag (body.Exception exception) (Some x) =
    other_parts (if_so (is_some x.returned) _) (descriptors_fault s []) (flag_fault s flag (numbers x.given)) (flag_fault s true (if_flagged flag (numbers x.given))) (no_descriptors s) (flag_of s flag (numbers x.given))
return_parts s flag body.Canceled (Some x) =
    other_parts (if_so (is_some x.returned) _) (descriptors_fault s []) (flag_fault s flag (numbers x.given)) (flag_fault s true (if_flagged flag (numbers x.given))) (no_descriptors s) (flag_of s flag (numbers x.given))

finish_parts : (s : State) (flag : Bool) (o : Option AnswerEntry) → finish_fault s flag o ≡ or_rest (before_finish o) (rest_of (descriptors_fault s []) None (flag_fault s true (if_flagged flag (given_in o))))
finish_parts s flag None = refl
finish_parts s flag (Some a) = with_flag (before_finish (Some a)) (descriptors_fault s []) (flag_fault s flag (given_in (Some a))) (flag_fault s true (if_flagged flag (given_in (Some a)))) (no_descriptors s) (flag_of s flag (given_in (Some a)))

echoed_parts : (s : State) (o : Option Question) → echoed_fault s o ≡ or_rest (before_echoed o) (rest_of (descriptors_fault s []) None (flag_fault s true (given_with o)))
echoed_parts s None = refl
echoed_parts s (Some x) = with_flag (before_echoed (Some x)) (descriptors_fault s []) (flag_fault s true (numbers x.given)) (flag_fault s true (numbers x.given)) (no_descriptors s) refl

-- A vat of level 0 looks at no descriptors.
foreign_resolve : (l : Level) (s : State) (r : Resolve) (ds : List Descriptor) → is_foreign l (plain.Resolve r) ≡ true → rest_of (faults_at l s ds) None None ≡ None
foreign_resolve Zero s r ds h = refl
foreign_resolve One s r ds h = cc

resolve_parts : (s : State) (r : Resolve) (to : ResolvedTo) (a b : Option ℕ) →
    or_rest (or_rest a (or_rest b (or_rest (resolve_fault s to) None))) (rest_of (descriptors_fault s (descriptors_of_resolved to)) None None) ≡ or_rest a (or_rest b (or_rest (resolve_fault s to) None))
resolve_parts s r (resolved.Cap d) a b = said_before a b (descriptors_fault s (d ∷ []))
resolve_parts s r (resolved.Exception exception) a b = sym (no_rest (or_rest a (or_rest b (or_rest None None))) (descriptors_fault s []) (no_descriptors s))

level_of : {X : Type 0} (l : Level) (f : Level → X) (x : X) → f Zero ≡ x → f One ≡ x → f l ≡ x
level_of Zero f x h k = h
level_of One f x h k = k

plain_parts : (s : State) (m : PlainMessage) → fault_of s (message.Plain m) ≡ or_rest (fault_before s (message.Plain m)) (rest_of (descriptors_fault s (descriptors_of (message.Plain m))) (behind_plain s m) (flag_fault s true (flagged_by_plain s m)))
plain_parts s (plain.Abort exception) = understood (is_foreign s.level (plain.Abort exception)) _ _ _ (level_of s.level (λ l. is_foreign l (plain.Abort exception)) false refl refl) refl
plain_parts s (plain.Bootstrap q) =
    understood (is_foreign s.level (plain.Bootstrap q)) _ _ _ (level_of s.level (λ l. is_foreign l (plain.Bootstrap q)) false refl refl)
    (no_rest (plain_fault s (plain.Bootstrap q)) (descriptors_fault s []) (no_descriptors s))
plain_parts s (plain.Call c) =
    understood (is_foreign s.level (plain.Call c)) _ _ _ (level_of s.level (λ l. is_foreign l (plain.Call c)) false refl refl)
    (call_parts
    (if_so (map.contains_key s.answers c.question.0) question_in_use)
    (target_fault s c.target)
    (if_so (not (nat_eq (caps_in c.payload) (length c.descriptors))) bad_payload)
    (descriptors_fault s c.descriptors)
    (held_fault s c.target))
plain_parts s (plain.Return r) =
    understood (is_foreign s.level (plain.Return r)) _ _ _ (level_of s.level (λ l. is_foreign l (plain.Return r)) false refl refl)
    (return_parts s r.release_param_caps r.body (map.get s.questions r.answer.0))
plain_parts s (plain.Finish f) =
    understood (is_foreign s.level (plain.Finish f)) _ _ _ (level_of s.level (λ l. is_foreign l (plain.Finish f)) false refl refl)
    (finish_parts s f.release_result_caps (map.get s.answers f.question.0))
plain_parts s (plain.Resolve r) =
    foreign (is_foreign s.level (plain.Resolve r)) (plain_fault s (plain.Resolve r)) _ (foreign_resolve s.level s r (descriptors_of_resolved r.to))
    (resolve_parts s r r.to _ _)
plain_parts s (plain.Release r) =
    foreign (is_foreign s.level (plain.Release r)) (plain_fault s (plain.Release r)) (rest_of (descriptors_fault s []) None None) (λ h. ap (λ d. rest_of d None None) (no_descriptors s))
    (sym (no_rest (plain_fault s (plain.Release r)) (descriptors_fault s []) (no_descriptors s)))
plain_parts s (plain.Disembargo d) =
    foreign (is_foreign s.level (plain.Disembargo d)) (plain_fault s (plain.Disembargo d)) (rest_of (descriptors_fault s []) None None) (λ h. ap (λ x. rest_of x None None) (no_descriptors s))
    (sym (no_rest (plain_fault s (plain.Disembargo d)) (descriptors_fault s []) (no_descriptors s)))
plain_parts s (plain.Other n) =
    understood (is_foreign s.level (plain.Other n)) _ _ _ (level_of s.level (λ l. is_foreign l (plain.Other n)) false refl refl)
    (no_rest None (descriptors_fault s []) (no_descriptors s))

echo_parts : (s : State) (m : PlainMessage) → unimplemented_fault s m ≡ or_rest (before_unimplemented s m) (rest_of (descriptors_fault s []) None (flag_fault s true (flagged_by_echo s m)))
echo_parts s (plain.Abort exception) = refl
echo_parts s (plain.Bootstrap q) = echoed_parts s (map.get s.questions q.0)
echo_parts s (plain.Call c) = echoed_parts s (map.get s.questions c.question.0)
echo_parts s (plain.Return r) = refl
echo_parts s (plain.Finish f) = refl
echo_parts s (plain.Resolve r) = with_flag (before_unimplemented s (plain.Resolve r)) (descriptors_fault s []) (flag_fault s true (flagged_by_echo s (plain.Resolve r))) (flag_fault s true (flagged_by_echo s (plain.Resolve r))) (no_descriptors s) refl
echo_parts s (plain.Release r) = no_rest None (descriptors_fault s []) (no_descriptors s)
echo_parts s (plain.Disembargo d) = refl
echo_parts s (plain.Other n) = refl

pub faults_in_parts : (s : State) (m : Message) → fault_of s m ≡ earliest (fault_before s m ∷ descriptors_fault s (descriptors_of m) ∷ fault_behind s m ∷ flag_fault s true (flagged s m) ∷ [])
faults_in_parts s (message.Plain m) = plain_parts s m
faults_in_parts s (message.Unimplemented m) = echo_parts s m

-- ---- Other imports

abbrev with : State → Map Import → State
with s i = record s { imports = i }

same_link : (s : State) (i : Map Import) (n : Node) → link (with s i) n ≡ link s n
same_link s i (node.Object o) = refl
same_link s i (node.Promise p) = refl
same_link s i (node.Field o path) = refl
same_link s i (node.Import e) = refl
same_link s i (node.Pipe q path) = refl
same_link s i (node.Broken reason) = refl

same_settle : (s : State) (i : Map Import) (n : Node) → settle (with s i) n ≡ settle s n
same_settle s i = settles_alike s (with s i) (same_link s i) refl

same_held : (s : State) (i : Map Import) (target : Target) → held_fault (with s i) target ≡ held_fault s target
same_held s i (ImportedCap e) = rw (same_settle s i (target_node s (ImportedCap e))) refl
same_held s i (PromisedAnswer q path) = rw (same_settle s i (target_node s (PromisedAnswer q path))) refl

abbrev Same : State → State → Message → Type 0
Same new s m = (fault_behind new m ≡ fault_behind s m) × (flagged new m ≡ flagged s m) × (new.exports ≡ s.exports)

same_plain : (s : State) (i : Map Import) (m : PlainMessage) → Same (with s i) s (message.Plain m)
same_plain s i (plain.Abort exception) = (refl, refl, refl)
same_plain s i (plain.Bootstrap q) = (refl, refl, refl)
same_plain s i (plain.Call c) = (same_held s i c.target, refl, refl)
same_plain s i (plain.Return r) = (refl, refl, refl)
same_plain s i (plain.Finish f) = (refl, refl, refl)
same_plain s i (plain.Resolve r) = (refl, refl, refl)
same_plain s i (plain.Release r) = (refl, refl, refl)
same_plain s i (plain.Disembargo d) = (refl, refl, refl)
same_plain s i (plain.Other n) = (refl, refl, refl)

same_echo : (s : State) (i : Map Import) (m : PlainMessage) → Same (with s i) s (message.Unimplemented m)
same_echo s i (plain.Abort exception) = (refl, refl, refl)
same_echo s i (plain.Bootstrap q) = (refl, refl, refl)
same_echo s i (plain.Call c) = (refl, refl, refl)
same_echo s i (plain.Return r) = (refl, refl, refl)
same_echo s i (plain.Finish f) = (refl, refl, refl)
same_echo s i (plain.Resolve r) = (refl, refl, refl)
same_echo s i (plain.Release r) = (refl, refl, refl)
same_echo s i (plain.Disembargo d) = (refl, refl, refl)
same_echo s i (plain.Other n) = (refl, refl, refl)

same_parts : (s : State) (i : Map Import) (m : Message) → Same (with s i) s m
same_parts s i (message.Plain m) = same_plain s i m
same_parts s i (message.Unimplemented m) = same_echo s i m

taken_each : (s : State) (ds : List Descriptor) → (i : Map Import) × (take_each s ds ≡ with s i)
taken_each s [] = (s.imports, refl)
taken_each s (descriptor.None ∷ ds) = taken_each s ds
taken_each s (descriptor.SenderHosted e ∷ ds) = let k = taken_each (import_one s kind.Hosted e.0) ds in (k.0, k.1)
taken_each s (descriptor.SenderPromise e ∷ ds) = let k = taken_each (import_one s kind.Promise e.0) ds in (k.0, k.1)
taken_each s (descriptor.ReceiverHosted e ∷ ds) = taken_each s ds
taken_each s (descriptor.ReceiverAnswer q path ∷ ds) = taken_each s ds

taken_at : (l : Level) (s : State) (ds : List Descriptor) → (i : Map Import) × (take_at l s ds ≡ with s i)
taken_at Zero s ds = (s.imports, refl)
taken_at One s ds = taken_each s ds

pub taking_changes_none : (s : State) (ds : List Descriptor) (m : Message) → (fault_behind (take_all s ds) m ≡ fault_behind s m) × (flagged (take_all s ds) m ≡ flagged s m) × ((take_all s ds).exports ≡ s.exports)
taking_changes_none s ds m =
    let k = taken_at s.level s ds in
    subst (λ (new : State). Same new s m) (sym k.1) (same_parts s k.0 m)
