-- What was said comes back for a question.
use Rattle.std.proofs.Common.{◌≡◌, ℕ, Bool, true, false, is_some, IsSome, List, [], ◌∷◌, ◌++◌, Option, None, Some, refl, sym, ap, subst, ◌∙◌}
use Rattle.std.specs.FinMap as map
use Rattle.finite_maps.specs.Tally.{Map}
use Rattle.finite_maps.proofs.Gets.{get-insert_same, insert_again}
use Rattle.vat_tables.proofs.Keys.{remove-insert}
use Rattle.rpc_msg.specs.declared.parts.Descriptor.{Descriptor}
use Rattle.rpc_msg.specs.declared.message.Return.{Return}
use Rattle.rpc_msg.specs.declared.message.ReturnBody.{ReturnBody}
use Rattle.rpc_msg.specs.declared.message.ReturnBody.TheVariants as body
use Rattle.rpc_msg.specs.Messages.{descriptors_of_body}
use Rattle.rpc_journal.specs.History.{or_rest, if_so}
use Rattle.rpc_machine.specs.Numbers.{unknown_question}
use Rattle.rpc_machine.specs.declared.node.Node.{Node}
use Rattle.rpc_machine.specs.declared.entries.Role.{Role}
use Rattle.rpc_machine.specs.declared.entries.Finishing.{Finishing}
use Rattle.rpc_machine.specs.declared.entries.Finishing.TheVariants as finishing
use Rattle.rpc_machine.specs.declared.entries.Question.{Question}
use Rattle.rpc_machine.specs.declared.entries.Returned.{Returned}
use Rattle.rpc_machine.specs.State.{State}
use Rattle.rpc_machine.specs.Lists.{updated, update}
use Rattle.rpc_machine.specs.Places.{nodes}
use Rattle.rpc_machine.specs.Flags.{obey}
use Rattle.rpc_machine.specs.Progress.{Progress, with_state, numbers}
use Rattle.rpc_machine.specs.Descriptors.{take_all}
use Rattle.rpc_machine.specs.Faults.{descriptors_fault, flag_fault, body_fault, return_fault}
use Rattle.rpc_machine.specs.Messages.{ComesFor, ComesBack, kept_returned, value_of_results, results_of, waived, not_understood, TakesReturn, TakesEchoed}
use Rattle.core_store_tables.specs.Peer.{question_said, question_waived}
use Rattle.core_step_checks.specs.Parts.{before_body, before_return, given_with}
use Rattle.core_step_messages.specs.Parts.{ComesBackFor, KeepsFor}
use Rattle.core_step_messages.proofs.Opened.{first_none, alone}
use Rattle.laws_acts.proofs.Alone.{all_alone}

pub nodes_more : (cs : List (Descriptor × Node)) (c : Descriptor × Node) → nodes (cs ++ c ∷ []) ≡ nodes cs ++ c.1 ∷ []
nodes_more [] c = refl
nodes_more (x ∷ xs) c = ap (λ ns. x.1 ∷ ns) (nodes_more xs c)

-- ---- The question keeps it

pub keeps : (d m : Progress) (q : ℕ) (said : Returned) (role : Role) (new : Progress) → m ≡ with_state d (record (d.state) { questions = update d.state.questions q (question_said said) })
    → IsSome (map.get d.state.questions q) → ((x : Question) → map.get d.state.questions q ≡ Some x → x.role ≡ role) → ComesFor m role (value_of_results said) new
    → KeepsFor d q said (map.get d.state.questions q) new
keeps d m q said role new is there for h = by (map.get d.state.questions q) refl there
  where
    by : (o : Option Question) → map.get d.state.questions q ≡ o → IsSome o → KeepsFor d q said o new
    by None at h = absurd (let e : false ≡ true = h in cc)
    by (Some x) at some =
        let kept : m ≡ kept_returned d q x said = is ∙ ap (λ (o : Option Question). with_state d (record (d.state) { questions = updated d.state.questions q (question_said said) o })) at in
        let one = subst (λ (p : Progress). ComesFor p role (value_of_results said) new) kept h in
        subst (λ (r : Role). ComesFor (kept_returned d q x said) r (value_of_results said) new) (sym (for x at)) one

-- ---- A Return

second_none : (a b : Option ℕ) → or_rest a (or_rest b None) ≡ None → b ≡ None
second_none None None h = refl
second_none None (Some n) h = h
second_none (Some n) b h = absurd (let e : ◌≡◌ {A = Option ℕ} (Some n) None = h in cc)

body_none : (s : State) (b : ReturnBody) → before_body b ≡ None → descriptors_fault s (descriptors_of_body b) ≡ None → body_fault s b ≡ None
body_none s (body.Results payload ds) before none = ap (λ o. or_rest o (or_rest (descriptors_fault s ds) None)) before ∙ ap (λ o. or_rest o None) none
body_none s (body.Exception exception) before none = refl
body_none s body.Canceled before none = refl

three_left : (a b g : Option ℕ) → a ≡ None → b ≡ None → or_rest a (or_rest b (or_rest g None)) ≡ g
three_left a b g p q = ap (λ o. or_rest o (or_rest b (or_rest g None))) p ∙ ap (λ o. or_rest o (or_rest g None)) q ∙ alone g

return_found : (s : State) (flag : Bool) (b : ReturnBody) (o : Option Question) (g : Option ℕ) → before_return b o ≡ None → descriptors_fault s (descriptors_of_body b) ≡ None
    → flag_fault s flag (given_with o) ≡ g → return_fault s flag b o ≡ g
return_found s flag b None g before none is = absurd (let e : ◌≡◌ {A = Option ℕ} (Some unknown_question) None = before in cc)
return_found s flag b (Some x) g before none is =
    three_left (if_so (is_some x.returned) unknown_question) (body_fault s b) (flag_fault s flag (numbers x.given)) (first_none _ _ before)
    (body_none s b (second_none (if_so (is_some x.returned) unknown_question) (before_body b) before) none)
    ∙ is

same_flag : (s : State) (ds : List Descriptor) (flag : Bool) (ids : List ℕ) → flag_fault (take_all s ds) flag ids ≡ flag_fault s flag ids
same_flag s ds false ids = refl
same_flag s ds true ids = ap (λ (u : State). flag_fault u true ids) (all_alone s ds)

-- Where nothing was found before, and by the descriptors, it is what its flag takes off.
pub return_fault_is : (s t : State) (r : Return) (g : Option ℕ) → before_return r.body (map.get s.questions r.answer.0) ≡ None → descriptors_fault s (descriptors_of_body r.body) ≡ None
    → t ≡ take_all s (descriptors_of_body r.body) → flag_fault t r.release_param_caps (given_with (map.get t.questions r.answer.0)) ≡ g
    → return_fault s r.release_param_caps r.body (map.get s.questions r.answer.0) ≡ g
return_fault_is s t r g before none is found =
    let ds = descriptors_of_body r.body in
    return_found s r.release_param_caps r.body (map.get s.questions r.answer.0) g before none
    (sym (same_flag s ds r.release_param_caps (given_with (map.get s.questions r.answer.0)))
    ∙ ap (λ (u : State). flag_fault (take_all s ds) r.release_param_caps (given_with (map.get u.questions r.answer.0))) (sym (all_alone s ds))
    ∙ ap (λ (u : State). flag_fault u r.release_param_caps (given_with (map.get u.questions r.answer.0))) (sym is)
    ∙ found)

same_questions : (s : State) (flag : Bool) (ids : List ℕ) → (obey s flag ids).questions ≡ s.questions
same_questions s false ids = refl
same_questions s true ids = refl

-- What a Return leaves before it is told.
abbrev behind : Progress → Return → Option Question → Progress
behind p r o = with_state p (obey (take_all p.state (descriptors_of_body r.body)) r.release_param_caps (given_with o))

comes_back : (p : Progress) (r : Return) (o : Option Question) (new : Progress) → ComesBackFor (behind p r o) r.answer.0 (results_of p.state r.body) o new → TakesReturn p r o new
comes_back p r None new h = h
comes_back p r (Some x) new h = h

pub takes_return : (p t m : Progress) (r : Return) (said : Returned) (new : Progress) → t ≡ with_state p (take_all p.state (descriptors_of_body r.body))
    → m ≡ with_state t (obey t.state r.release_param_caps (given_with (map.get t.state.questions r.answer.0))) → said ≡ results_of p.state r.body
    → ComesBackFor m r.answer.0 said (map.get m.state.questions r.answer.0) new → TakesReturn p r (map.get p.state.questions r.answer.0) new
takes_return p t m r said new taken obeyed is h =
    let ds = descriptors_of_body r.body in
    let o : Option Question = map.get p.state.questions r.answer.0 in
    let q = r.answer.0 in
    let at : m ≡ behind p r o =
    obeyed
    ∙ ap (λ (d : Progress). with_state d (obey d.state r.release_param_caps (given_with (map.get d.state.questions q)))) taken
    ∙ ap (λ (u : State). with_state p (obey (take_all p.state ds) r.release_param_caps (given_with (map.get u.questions q)))) (all_alone p.state ds) in
    let same : map.get (behind p r o).state.questions q ≡ o =
    ap (λ (m : Map Question). map.get m q) (same_questions (take_all p.state ds) r.release_param_caps (given_with o))
    ∙ ap (λ (u : State). map.get u.questions q) (all_alone p.state ds) in
    let one = subst (λ (d : Progress). ComesBackFor d q said (map.get d.state.questions q) new) at h in
    let two = subst (λ (x : Option Question). ComesBackFor (behind p r o) q said x new) same one in
    comes_back p r o new (subst (λ (x : Returned). ComesBackFor (behind p r o) q x o new) is two)

-- ---- A question that came back

abbrev with_questions : Progress → Map Question → Progress
with_questions d m = with_state d (record (d.state) { questions = m })

-- What was under the question's id before makes no difference.
back_over : (d : Progress) (q : ℕ) (before x : Question) (said : Returned) (f : Finishing) (new : Progress) → ComesBack (with_questions d (map.insert d.state.questions q before)) q x said f new → ComesBack d q x said f new
back_over d q before x said finishing.Sent new h = h ∙ ap (λ (m : Map Question). with_questions d m) (remove-insert d.state.questions q before)
back_over d q before x said finishing.Owed new h =
    subst (λ (m : Map Question). ComesFor (with_questions d m) x.role (value_of_results said) new) (insert_again d.state.questions q before (question_said said x)) h
back_over d q before x said finishing.Waived new h =
    subst (λ (m : Map Question). ComesFor (with_questions d m) x.role (value_of_results said) new) (insert_again d.state.questions q before (question_said said x)) h

abbrev given_back : Progress → Option Question → Progress
given_back p o = with_state p (obey p.state true (given_with o))

echoed_by : (p : Progress) (q : ℕ) (o : Option Question) (new : Progress) → map.get p.state.questions q ≡ o
    → ComesBackFor (with_questions (given_back p o) (updated p.state.questions q question_waived o)) q not_understood (map.get (updated p.state.questions q question_waived o) q) new
    → TakesEchoed p q o new
echoed_by p q None new at h = subst (λ (o : Option Question). ComesBackFor (with_questions (given_back p None) p.state.questions) q not_understood o new) at h
echoed_by p q (Some x) new at h =
    let e : Progress = given_back p (Some x) in
    let y : Question = question_waived x in
    back_over e q y y not_understood (waived x.finish) new
    (subst (λ (o : Option Question). ComesBackFor (with_questions e (map.insert e.state.questions q y)) q not_understood o new) (get-insert_same p.state.questions q y) h)

pub takes_echoed : (p m w : Progress) (q : ℕ) (said : Returned) (new : Progress) → m ≡ with_state p (obey p.state true (given_with (map.get p.state.questions q)))
    → w ≡ with_state m (record (m.state) { questions = update m.state.questions q question_waived }) → said ≡ not_understood
    → ComesBackFor w q said (map.get w.state.questions q) new → TakesEchoed p q (map.get p.state.questions q) new
takes_echoed p m w q said new obeyed waives is h =
    let o : Option Question = map.get p.state.questions q in
    let at : w ≡ with_questions (given_back p o) (updated p.state.questions q question_waived o) =
    waives ∙ ap (λ (d : Progress). with_questions d (update d.state.questions q question_waived)) obeyed in
    let one = subst (λ (d : Progress). ComesBackFor d q said (map.get d.state.questions q) new) at h in
    let two = subst (λ (r : Returned). ComesBackFor (with_questions (given_back p o) (updated p.state.questions q question_waived o)) q r (map.get (updated p.state.questions q question_waived o) q) new) is one in
    echoed_by p q o new refl two
