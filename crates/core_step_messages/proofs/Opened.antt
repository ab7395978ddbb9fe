-- A Call is taken: what its checks find, and what opens for it.
use Rattle.std.proofs.Common.{◌≡◌, inl, inr, ℕ, List, not, nat_eq, length, Option, None, Some, is_some, refl, sym, ap, subst, ◌∙◌}
use Rattle.std.specs.FinMap as map
use Rattle.rpc_msg.specs.declared.ids.ExportId.{ExportId}
use Rattle.rpc_msg.specs.declared.parts.Descriptor.{Descriptor}
use Rattle.rpc_msg.specs.declared.message.Call.{Call}
use Rattle.rpc_msg.specs.declared.message.PlainMessage.TheVariants as plain
use Rattle.rpc_msg.specs.declared.message.Message.TheVariants as message
use Rattle.rpc_journal.specs.History.{or_rest, if_so}
use Rattle.rpc_machine.specs.declared.command.Level.{Level}
use Rattle.rpc_machine.specs.declared.command.Level.TheVariants.{Zero, One}
use Rattle.rpc_machine.specs.declared.node.Node.{Node}
use Rattle.rpc_machine.specs.State.{State}
use Rattle.rpc_machine.specs.declared.fault.Fault.{Fault}
use Rattle.rpc_machine.specs.Numbers.{fault_number, question_in_use, bad_payload}
use Rattle.rpc_machine.specs.Payloads.{caps_in}
use Rattle.rpc_machine.specs.Progress.{Progress, with_state, export_ids}
use Rattle.rpc_machine.specs.Descriptors.{read_all, take_at, take_all, taken_of}
use Rattle.rpc_machine.specs.Faults.{target_fault, descriptors_fault, held_fault, plain_fault, target_node}
use Rattle.rpc_machine.specs.Messages.{received_request, TakesCall}
use Rattle.core_step_checks.specs.Parts.{before_call}
use Rattle.core_step_checks.specs.Laws.{TakingChangesNone}
use Rattle.core_step_messages.specs.Parts.{OpensFor, with_caps}
use Rattle.core_step_messages.specs.Stopping.{Stops}
use Rattle.laws_acts.proofs.Alone.{each_alone, all_alone}

-- ---- Descriptors that are taken change imports alone

at_only : (l : Level) (s : State) (ds : List Descriptor) → take_at l s ds ≡ record s { imports = (take_at l s ds).imports }
at_only Zero s ds = refl
at_only One s ds = each_alone s ds

-- ---- The checks

pub first_none : (a r : Option ℕ) → or_rest a r ≡ None → a ≡ None
first_none None r h = refl
first_none (Some n) r h = h

pub is_free : {X : Type 0} (o : Option X) (n : ℕ) → if_so (is_some o) n ≡ None → o ≡ None
is_free None n h = refl
is_free (Some x) n h = absurd (let e : ◌≡◌ {A = Option ℕ} (Some n) None = h in cc)

pub alone : (r : Option ℕ) → or_rest r None ≡ r
alone None = refl
alone (Some n) = refl

behind_three : (a b p r : Option ℕ) → or_rest a (or_rest b (or_rest p None)) ≡ None → or_rest a (or_rest b (or_rest p r)) ≡ r
behind_three None None None r h = refl
behind_three None None (Some n) r h = absurd (let e : ◌≡◌ {A = Option ℕ} (Some n) None = h in cc)
behind_three None (Some n) p r h = absurd (let e : ◌≡◌ {A = Option ℕ} (Some n) None = h in cc)
behind_three (Some n) b p r h = absurd (let e : ◌≡◌ {A = Option ℕ} (Some n) None = h in cc)

-- Where nothing was found before, and by the descriptors, it is what is found behind them.
pub call_fault : (s t : State) (c : Call) (o : Option ℕ) → TakingChangesNone → before_call s c ≡ None → descriptors_fault s c.descriptors ≡ None → t ≡ take_all s c.descriptors
    → held_fault t c.target ≡ o → plain_fault s (plain.Call c) ≡ o
call_fault s t c o law before none is held =
    behind_three (if_so (map.contains_key s.answers c.question.0) question_in_use) (target_fault s c.target) (if_so (not (nat_eq (caps_in c.payload) (length c.descriptors))) bad_payload) _ before
    ∙ ap (λ d. or_rest d (or_rest (held_fault s c.target) None)) none
    ∙ alone (held_fault s c.target)
    ∙ sym ((law s c.descriptors (message.Plain (plain.Call c))).0)
    ∙ ap (λ (u : State). held_fault u c.target) (sym is)
    ∙ held

pub is_new : (s t : State) (c : Call) → before_call s c ≡ None → t ≡ take_all s c.descriptors → map.get t.answers c.question.0 ≡ None
is_new s t c before is =
    ap (λ (u : State). map.get u.answers c.question.0) (is ∙ all_alone s c.descriptors)
    ∙ is_free (map.get s.answers c.question.0) _ (first_none _ _ before)

-- What one part finds is what all find.
pub stops_moved : (a b : Option ℕ) (f : Fault) → ((g : Option ℕ) → a ≡ g → b ≡ g) → Stops a f → Stops b f
stops_moved a b f same (inl e) = inl (same (Some (fault_number f)) e)
stops_moved a b f same (inr w) = inr w

-- ---- What opens

pub opens_call : (p m : Progress) (c : Call) (taken : List ExportId) (caps : List Node) (n : Node) (new : Progress)
    → m ≡ with_state p (take_all p.state c.descriptors) → taken ≡ export_ids (taken_of p.state c.descriptors) → caps ≡ read_all p.state c.descriptors → n ≡ target_node p.state c.target
    → OpensFor m c.question.0 taken (with_caps c caps) n new → TakesCall p c new
opens_call p m c taken caps n new is ids heads at h =
    let d : Progress = with_state p (take_all p.state c.descriptors) in
    let said : List ExportId = export_ids (taken_of p.state c.descriptors) in
    let one = subst (λ (x : Progress). OpensFor x c.question.0 taken (with_caps c caps) n new) is h in
    let two = subst (λ (l : List ExportId). OpensFor d c.question.0 l (with_caps c caps) n new) ids one in
    let three = subst (λ (l : List Node). OpensFor d c.question.0 said (with_caps c l) n new) heads two in
    let four = subst (λ (x : Node). OpensFor d c.question.0 said (received_request p.state c) x new) at three in
    (four.0, sym (ap (λ (u : State). map.get u.outcomes four.0) (all_alone p.state c.descriptors)) ∙ four.1, four.2)
