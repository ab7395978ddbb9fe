-- What the checks of each kind of message find, where what it speaks of is there.
use Rattle.std.proofs.Common.{◌≡◌, ℕ, nat_eq, not, is_some, length, [], ◌∷◌, Option, None, Some, refl, sym, ap, ◌∙◌}
use Rattle.std.specs.FinMap as map
use Rattle.finite_maps.proofs.Tested.{itself}
use Rattle.rpc_msg.specs.declared.parts.Target.{Target}
use Rattle.rpc_msg.specs.declared.parts.Target.TheVariants.{ImportedCap, PromisedAnswer}
use Rattle.rpc_msg.specs.declared.message.Call.{Call}
use Rattle.rpc_msg.specs.declared.message.Return.{Return}
use Rattle.rpc_msg.specs.declared.message.ReturnBody.{ReturnBody}
use Rattle.rpc_msg.specs.declared.message.ReturnBody.TheVariants as body
use Rattle.rpc_msg.specs.declared.message.Resolve.{Resolve}
use Rattle.rpc_msg.specs.declared.message.ResolvedTo.{ResolvedTo}
use Rattle.rpc_msg.specs.declared.message.ResolvedTo.TheVariants as resolved
use Rattle.rpc_msg.specs.declared.message.DisembargoContext.{DisembargoContext}
use Rattle.rpc_msg.specs.declared.message.DisembargoContext.TheVariants.{SenderLoopback, ReceiverLoopback}
use Rattle.rpc_msg.specs.declared.message.PlainMessage.{PlainMessage}
use Rattle.rpc_msg.specs.declared.message.PlainMessage.TheVariants as plain
use Rattle.rpc_msg.specs.declared.message.Message.TheVariants as message
use Rattle.rpc_msg.specs.Messages.{descriptors_of_body, descriptors_of_resolved, descriptors_of_plain}
use Rattle.rpc_journal.specs.History.{if_so, or_rest}
use Rattle.rpc_machine.specs.declared.command.Level.{Level}
use Rattle.rpc_machine.specs.declared.command.Level.TheVariants.{One}
use Rattle.rpc_machine.specs.declared.entries.AnswerEntry.{AnswerEntry}
use Rattle.rpc_machine.specs.declared.entries.Question.{Question}
use Rattle.rpc_machine.specs.State.{State}
use Rattle.rpc_machine.specs.Payloads.{caps_in}
use Rattle.rpc_machine.specs.Lists.{earliest}
use Rattle.rpc_machine.specs.Nodes.{settle, is_wire}
use Rattle.rpc_machine.specs.Progress.{numbers}
use Rattle.rpc_machine.specs.Numbers.{question_in_use, unknown_question, unknown_export, unknown_answer, bad_payload, not_a_promise, resolved_twice, disembargo_not_loopback}
use Rattle.rpc_machine.specs.Faults.{target_fault, target_node, descriptors_fault, flag_fault, body_fault, return_fault, is_resolved, resolve_fault, disembargo_fault, held_fault, plain_fault, is_foreign, unless_foreign, fault_of}
use Rattle.laws_runs.specs.Agreed.{IsMet}
use Rattle.laws_messages.specs.Found as exports
use Rattle.laws_messages.specs.Found.{FindsExports}
use Rattle.laws_messages.specs.Named as answers
use Rattle.laws_messages.specs.Named.{FindsTargets}
use Rattle.laws_messages.specs.PayloadCaps.{BodyFits, PlainFits}
use Rattle.laws_runs.specs.Views.{IsUseful}
use Rattle.laws_messages.specs.Oldest.{IsFirstResolve, NoneClashes}
use Rattle.laws_messages.specs.Left.{turning_fault, left_of}
use Rattle.laws_messages.proofs.Descriptors.{there, none_found}
use Rattle.laws_runs.proofs.FallsInRuns.{or_none}

-- ---- Checks in their order

fits : (m n : ℕ) → m ≡ n → if_so (not (nat_eq m n)) bad_payload ≡ None
fits m n e = ap (λ k. if_so (not (nat_eq m k)) bad_payload) (sym e) ∙ ap (λ b. if_so (not b) bad_payload) (itself m)

finds_target : (s : State) (t : Target) → exports.FindsTarget s t → answers.FindsTarget s t → target_fault s t ≡ None
finds_target s (ImportedCap e) f g = there (map.get s.exports e.0) unknown_export f
finds_target s (PromisedAnswer q path) f g = there (map.get s.answers q.0) unknown_answer g

-- ---- Calls

one_left : (a b c d last : Option ℕ) → a ≡ None → b ≡ None → c ≡ None → d ≡ None → earliest (a ∷ b ∷ c ∷ d ∷ last ∷ []) ≡ last
one_left a b c d last f g h i =
    ap (λ (o : Option ℕ). earliest (o ∷ b ∷ c ∷ d ∷ last ∷ [])) f
    ∙ ap (λ (o : Option ℕ). earliest (o ∷ c ∷ d ∷ last ∷ [])) g
    ∙ ap (λ (o : Option ℕ). earliest (o ∷ d ∷ last ∷ [])) h
    ∙ ap (λ (o : Option ℕ). earliest (o ∷ last ∷ [])) i
    ∙ or_none last

call_fault : (s : State) (c : Call) → map.get s.answers c.question.0 ≡ None → target_fault s c.target ≡ None → caps_in c.payload ≡ length c.descriptors → descriptors_fault s c.descriptors ≡ None → plain_fault s (plain.Call c) ≡ left_of s (plain.Call c)
call_fault s c free target caps ds =
    one_left (if_so (is_some (map.get s.answers c.question.0)) question_in_use) (target_fault s c.target) _ (descriptors_fault s c.descriptors) (held_fault s c.target)
    (ap (λ (o : Option AnswerEntry). if_so (is_some o) question_in_use) free) target (fits (caps_in c.payload) (length c.descriptors) caps) ds

-- ---- Returns

said_fault : (s : State) (b : ReturnBody) → BodyFits b → descriptors_fault s (descriptors_of_body b) ≡ None → body_fault s b ≡ None
said_fault s (body.Results payload ds) f g = ap (λ (o : Option ℕ). earliest (o ∷ descriptors_fault s ds ∷ [])) (fits (caps_in payload) (length ds) f) ∙ ap (λ (o : Option ℕ). earliest (o ∷ [])) g
said_fault s (body.Exception x) f g = refl
said_fault s body.Canceled f g = refl

back_fault : (s : State) (r : Return) → IsMet s (plain.Return r) → body_fault s r.body ≡ None → plain_fault s (plain.Return r) ≡ None
back_fault s r h f =
    let x : Question = h.0 in
    let flag = flag_fault s r.release_param_caps (numbers x.given) in
    ap (return_fault s r.release_param_caps r.body) h.1
    ∙ ap (λ o. earliest (if_so (is_some o) unknown_question ∷ body_fault s r.body ∷ flag ∷ [])) h.2
    ∙ ap (λ (o : Option ℕ). earliest (o ∷ flag ∷ [])) f
    ∙ ap (λ (o : Option ℕ). earliest (o ∷ [])) h.3

-- ---- Resolves

settled_fault : (s : State) (to : ResolvedTo) → descriptors_fault s (descriptors_of_resolved to) ≡ None → resolve_fault s to ≡ None
settled_fault s (resolved.Cap d) f = f
settled_fault s (resolved.Exception x) f = refl

resolves_fault : (s : State) (r : Resolve) → IsFirstResolve s (plain.Resolve r) → resolve_fault s r.to ≡ None → plain_fault s (plain.Resolve r) ≡ None
resolves_fault s r f g =
    let last = resolve_fault s r.to in
    ap (λ b. earliest (if_so b not_a_promise ∷ if_so (is_resolved (map.get s.imports r.promise.0)) resolved_twice ∷ last ∷ [])) f.0
    ∙ ap (λ b. earliest (if_so b resolved_twice ∷ last ∷ [])) f.1
    ∙ ap (λ (o : Option ℕ). earliest (o ∷ [])) g

-- ---- Disembargos

-- One that comes back meets no fault.
abbrev ComesBackBy : State → Target → DisembargoContext → Type 0
ComesBackBy s t (SenderLoopback x) = Unit {0}
ComesBackBy s t (ReceiverLoopback x) = fault_of s (message.Plain (plain.Disembargo (record { target = t; context = ReceiverLoopback x }))) ≡ None

at_one : (s : State) (m : PlainMessage) → s.level ≡ One → fault_of s (message.Plain m) ≡ plain_fault s m
at_one s m one = ap (λ (l : Level). unless_foreign (is_foreign l m) (plain_fault s m)) one

turns_fault : (s : State) (t : Target) (x : DisembargoContext) → s.level ≡ One → target_fault s t ≡ None → ComesBackBy s t x → disembargo_fault s t x ≡ turning_fault s t x
turns_fault s t (SenderLoopback x) one f g =
    let turn = if_so (not (is_wire (settle s (target_node s t)))) disembargo_not_loopback in
    ap (λ (o : Option ℕ). earliest (o ∷ turn ∷ [])) f ∙ or_none turn
turns_fault s t (ReceiverLoopback x) one f g = sym (at_one s (plain.Disembargo (record { target = t; context = ReceiverLoopback x })) one) ∙ g

-- ---- Each kind

abbrev pub ComesBack : State → PlainMessage → Type 0
ComesBack s (plain.Abort exception) = Unit {0}
ComesBack s (plain.Bootstrap q) = Unit {0}
ComesBack s (plain.Call c) = Unit {0}
ComesBack s (plain.Return r) = Unit {0}
ComesBack s (plain.Finish f) = Unit {0}
ComesBack s (plain.Resolve r) = Unit {0}
ComesBack s (plain.Release r) = Unit {0}
ComesBack s (plain.Disembargo d) = ComesBackBy s d.target d.context
ComesBack s (plain.Other n) = Unit {0}

-- What is known of the oldest message on its way to a vat.
pub record Known (s : State) (m : PlainMessage) : Type 0 where
  pub one : s.level ≡ One
  pub met : IsMet s m
  pub finds : FindsExports s m
  pub targets : FindsTargets s m
  pub answers : answers.FindsEach s (descriptors_of_plain m)
  pub fits : PlainFits m
  pub first : IsFirstResolve s m
  pub kinds : NoneClashes s [] (descriptors_of_plain m)
  pub back : ComesBack s m

-- Its fault is that of the checks that are left.
pub left : (s : State) (m : PlainMessage) → Known s m → fault_of s (message.Plain m) ≡ left_of s m
left s (plain.Abort x) k = absurd k.met
left s (plain.Bootstrap q) k = k.met
left s (plain.Call c) k = let f = k.finds in at_one s (plain.Call c) k.one ∙ call_fault s c k.met (finds_target s c.target f.0 k.targets) k.fits (none_found s c.descriptors k.one k.kinds f.1 k.answers)
left s (plain.Return r) k = let ds = descriptors_of_body r.body in at_one s (plain.Return r) k.one ∙ back_fault s r k.met (said_fault s r.body k.fits (none_found s ds k.one k.kinds k.finds k.answers))
left s (plain.Finish f) k = k.met
left s (plain.Resolve r) k = let ds = descriptors_of_resolved r.to in at_one s (plain.Resolve r) k.one ∙ resolves_fault s r k.first (settled_fault s r.to (none_found s ds k.one k.kinds k.finds k.answers))
left s (plain.Release r) k = k.met
left s (plain.Disembargo d) k = at_one s (plain.Disembargo d) k.one ∙ turns_fault s d.target d.context k.one (finds_target s d.target k.finds k.targets) k.back
left s (plain.Other n) k = absurd k.met

pub is_useful : (s : State) (m : PlainMessage) → IsMet s m → IsUseful m
is_useful s (plain.Abort x) h = absurd h
is_useful s (plain.Bootstrap q) h = tt
is_useful s (plain.Call c) h = tt
is_useful s (plain.Return r) h = tt
is_useful s (plain.Finish f) h = tt
is_useful s (plain.Resolve r) h = tt
is_useful s (plain.Release r) h = tt
is_useful s (plain.Disembargo d) h = tt
is_useful s (plain.Other n) h = absurd h
