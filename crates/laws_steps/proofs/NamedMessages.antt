-- What places name stays there in every received message, and to the end of each step.
use Rattle.std.proofs.Common.{◌≡◌, ◌⊎◌, inl, inr, ℕ, ◌-◌, Bool, true, false, cond, nat_eq, nat_le, is_some, List, [], ◌∷◌, ◌++◌, Option, None, Some, refl, sym, ap, subst, ◌∙◌, arith}
use Rattle.std.specs.FinMap as map
use Rattle.laws_acts.specs.rpc_msg.specs.declared.ids.EmbargoId.{EmbargoId}
use Rattle.laws_acts.specs.rpc_msg.specs.declared.ids.ExportId.{ExportId}
use Rattle.laws_acts.specs.rpc_msg.specs.declared.ids.ObjectId.{ObjectId}
use Rattle.laws_acts.specs.rpc_msg.specs.declared.parts.Target.{Target}
use Rattle.laws_acts.specs.rpc_msg.specs.declared.message.DisembargoContext.{DisembargoContext}
use Rattle.laws_acts.specs.rpc_msg.specs.declared.message.DisembargoContext.TheVariants.{SenderLoopback, ReceiverLoopback}
use Rattle.laws_acts.specs.rpc_msg.specs.declared.message.ResolvedTo.{ResolvedTo}
use Rattle.laws_acts.specs.rpc_msg.specs.declared.message.ResolvedTo.TheVariants as resolved
use Rattle.laws_acts.specs.rpc_msg.specs.declared.message.ReturnBody.{ReturnBody}
use Rattle.laws_acts.specs.rpc_msg.specs.declared.message.ReturnBody.TheVariants as body
use Rattle.laws_acts.specs.rpc_msg.specs.declared.message.Call.{Call}
use Rattle.laws_acts.specs.rpc_msg.specs.declared.exception.Exception.{Exception}
use Rattle.laws_acts.specs.rpc_msg.specs.declared.message.Return.{Return}
use Rattle.laws_acts.specs.rpc_msg.specs.declared.message.PlainMessage.{PlainMessage}
use Rattle.laws_acts.specs.rpc_msg.specs.declared.message.PlainMessage.TheVariants as plain
use Rattle.laws_acts.specs.rpc_msg.specs.declared.message.Message.{Message}
use Rattle.laws_acts.specs.rpc_msg.specs.declared.message.Message.TheVariants as message
use Rattle.laws_acts.specs.rpc_msg.specs.Messages.{descriptors_of_body}
use Rattle.finite_maps.specs.Tally.{Map}
use Rattle.laws_acts.specs.rpc_journal.specs.History.{if_so, or_rest}
use Rattle.laws_acts.specs.rpc_machine.specs.declared.node.Node.{Node}
use Rattle.laws_acts.specs.rpc_machine.specs.declared.node.Node.TheVariants as node
use Rattle.laws_acts.specs.rpc_machine.specs.declared.command.Level.{Level}
use Rattle.laws_acts.specs.rpc_machine.specs.declared.command.Level.TheVariants.{Zero, One}
use Rattle.laws_acts.specs.rpc_machine.specs.declared.command.Command.{Command}
use Rattle.laws_acts.specs.rpc_machine.specs.declared.command.Granted.{Granted}
use Rattle.laws_acts.specs.rpc_machine.specs.declared.command.Effects.{Effects}
use Rattle.laws_acts.specs.rpc_machine.specs.declared.calls.KeptOutcome.{KeptOutcome}
use Rattle.laws_acts.specs.rpc_machine.specs.declared.calls.Value.{Value}
use Rattle.laws_acts.specs.rpc_machine.specs.declared.calls.Value.TheVariants as value
use Rattle.laws_acts.specs.rpc_machine.specs.declared.calls.Caller.{Caller}
use Rattle.laws_acts.specs.rpc_machine.specs.declared.calls.Caller.TheVariants as caller
use Rattle.laws_acts.specs.rpc_machine.specs.declared.entries.Role.{Role}
use Rattle.laws_acts.specs.rpc_machine.specs.declared.entries.Role.TheVariants as role
use Rattle.laws_acts.specs.rpc_machine.specs.declared.entries.Finishing.{Finishing}
use Rattle.laws_acts.specs.rpc_machine.specs.declared.entries.Finishing.TheVariants as finishing
use Rattle.laws_acts.specs.rpc_machine.specs.declared.entries.Returned.{Returned}
use Rattle.laws_acts.specs.rpc_machine.specs.declared.entries.Returned.TheVariants as back
use Rattle.laws_acts.specs.rpc_machine.specs.declared.entries.Resolution.{Resolution}
use Rattle.laws_acts.specs.rpc_machine.specs.declared.entries.Resolution.TheVariants as resolution
use Rattle.laws_acts.specs.rpc_machine.specs.declared.entries.Question.{Question}
use Rattle.laws_acts.specs.rpc_machine.specs.declared.entries.AnswerEntry.{AnswerEntry}
use Rattle.laws_acts.specs.rpc_machine.specs.declared.entries.Import.{Import}
use Rattle.laws_acts.specs.rpc_machine.specs.declared.entries.Export.{Export}
use Rattle.laws_acts.specs.rpc_machine.specs.declared.entries.Reference.{Reference}
use Rattle.laws_acts.specs.rpc_machine.specs.declared.entries.Embargo.{Embargo}
use Rattle.laws_acts.specs.rpc_machine.specs.State.{State}
use Rattle.laws_acts.specs.rpc_machine.specs.Lists.{update, updated}
use Rattle.laws_acts.specs.rpc_machine.specs.Places.{named_by_calls, imports_of, named_by_reference, named_by_embargo, named_by_outcome, named_by_returned, named_by_question, named_by_resolution, named_by_import, named_by_export, named_by_answer}
use Rattle.laws_acts.specs.rpc_machine.specs.Progress.{Progress, begin, with_state, numbers, caps_of, export_ids}
use Rattle.laws_acts.specs.rpc_machine.specs.Descriptors.{read, read_all, take_all, taken_of}
use Rattle.laws_acts.specs.rpc_machine.specs.Flags.{lowered, lower_by, lower_each, obey}
use Rattle.laws_acts.specs.rpc_machine.specs.Settling.{Drains, NoneLeft, OneMore}
use Rattle.laws_acts.specs.rpc_machine.specs.Messages.{opened, bootstrap_value, received_request, results_of, value_of_results, waived, not_understood, ComesFor, ComesBack, TakesCall, TakesReturn, TakesEchoed, finished_map, TakesFinish, set_resolution, resolve_import, take_resolve, unembargoed, Bounces, Lifts, TakesDisembargo, TakesPlain, TakesUnimplemented, TakesUnless, Takes}
use Rattle.laws_acts.specs.rpc_machine.specs.Faults.{gave, given_by, target_node, is_foreign, plain_fault, fault_of, unless_foreign}
use Rattle.laws_acts.specs.rpc_machine.specs.Steps.{Ends, Does, Handles}
use Rattle.finite_maps.proofs.Gets.{get-insert_same}
use Rattle.finite_maps.proofs.Tested.{equal, get_other}
use Rattle.laws_steps.proofs.Exceptions.{IsException, AllExceptions, act_arises, call_arises, first_arises, disembargo_arises, told_arises}
use Rattle.laws_steps.specs.Callers.{IsFor, peer, IsOpenFor, AnswersWith, HasOutcome}
use Rattle.laws_steps.proofs.NamedNodes.{Grows, Asked, asker, asker_by, Here, AllIn, EachIn, all_none, all_one, at_put, at_cut, each_put, each_cut, each_at, Brought, Counted, positive_put, has_outcome, has_kept, renamed, HereIn, Fine, set_refs, set_embargoes, set_questions, set_imports, set_exports, set_answers, grows_outcome, grows_import}
use Rattle.laws_steps.proofs.HeldQuestions.{tied_put, brought_put}
use Rattle.laws_steps.proofs.NamedPieces.{Same, same_parts, grows_same, all_grow, routes, routes_all, tells_call}
use Rattle.laws_steps.proofs.Swept.{Whole, without_question, swept}
use Rattle.laws_steps.proofs.Taken.{taken_grows, took, taken, taken_here, all_read, beside_read, brought_results}
use Rattle.laws_steps.proofs.NamedSteps.{settles, acts}

-- ---- An answer opens

abbrev number : Caller → ℕ
number (caller.Application c) = c.0
number (caller.Peer q) = q.0

module _ (w : Asked) (s : State) (q o : ℕ) (ids : List ℕ) (h : Fine w s) (named : AllIn (HereIn w s) (imports_of (export_ids ids))) (free : map.get s.outcomes o ≡ None) (fresh : map.get s.answers q ≡ None) where
  abbrev outcome : KeptOutcome
  outcome = record { caller = peer q; value = None; waiting = [] }

  abbrev answer : AnswerEntry
  answer = record { outcome = o; taken = export_ids ids; returned = None; finished = false }

  abbrev outcomes : Map KeptOutcome
  outcomes = map.insert s.outcomes o outcome

  still : (who : Caller) (k : ℕ) → IsFor who (map.get s.outcomes k) → IsFor who (map.get outcomes k)
  still who k = at_put (λ j x. IsFor who (map.get s.outcomes j) → IsFor who x) s.outcomes o outcome (λ i. absurd (subst (IsFor who) free i)) (λ j i. i) k

  old_answer : (k p : ℕ) → AnswersWith k (map.get s.answers p) → AnswersWith k (map.get (map.insert s.answers q answer) p)
  old_answer k p i = by (nat_eq p q) refl
    where
      by : (b : Bool) → nat_eq p q ≡ b → AnswersWith k (map.get (map.insert s.answers q answer) p)
      by false e = subst (AnswersWith k) (sym (get_other s.answers q answer p e)) i
      by true e = absurd (subst (AnswersWith k) (ap (map.get s.answers) (equal p q e) ∙ fresh) i)

  new_answer : (p : ℕ) → peer q ≡ peer p → AnswersWith o (map.get (map.insert s.answers q answer) p)
  new_answer p e =
      let f : q ≡ p = ap number e in
      subst (λ (j : ℕ). AnswersWith o (map.get (map.insert s.answers q answer) j)) f (subst (AnswersWith o) (sym (get-insert_same s.answers q answer)) (refl, refl))

  pub opens_answer : Fine w (opened s q o ids)
  opens_answer =
      let P = Here w s.promises outcomes s.imports in
      let n = renamed (HereIn w s) P s (grows_outcome w s o outcome) h.names in
      record {
        names = (n.0, n.1, n.2, each_put P named_by_outcome s.outcomes o outcome (all_none P) n.3, n.4, n.5, n.6, each_put P named_by_answer s.answers q answer (all_grow w s (record s { outcomes = outcomes }) (imports_of (export_ids ids)) (grows_outcome w s o outcome) named) n.7);
        pending = λ k p. at_put (λ j x. IsOpenFor p x → AnswersWith j (map.get (map.insert s.answers q answer) p)) s.outcomes o outcome (λ i. new_answer p i.1) (λ j i. old_answer j p (h.pending j p i)) k;
        answers = at_put (λ j a. HasOutcome outcomes j a) s.answers q answer (subst (IsFor (peer q)) (sym (get-insert_same s.outcomes o outcome)) refl) (λ j. has_outcome s.outcomes outcomes j (map.get s.answers j) still (h.answers j));
        calls = λ c. has_kept w s.outcomes outcomes c (map.get s.calls c) still (h.calls c);
        level = h.level;
        brought = h.brought;
        counted = h.counted;
        asked = h.asked;
      }

none_there : {X : Type 0} (o : Option X) (n : ℕ) (rest : Option ℕ) → or_rest (if_so (is_some o) n) rest ≡ None → o ≡ None
none_there None n rest e = refl
none_there (Some x) n rest e = cc

pub free_answer : {X : Type 0} (o : Option X) (n : ℕ) → if_so (is_some o) n ≡ None → o ≡ None
free_answer None n e = refl
free_answer (Some x) n e = cc

-- ---- Exports let go

lowered_sound : (P : Node → Type 0) (m : Map Export) (e n : ℕ) (o : Option Export) → map.get m e ≡ o → EachIn P named_by_export m → EachIn P named_by_export (lowered m e n o)
lowered_sound P m e n None f h = h
lowered_sound P m e n (Some x) f h = by (nat_le x.count n)
  where
    by : (b : Bool) → EachIn P named_by_export (cond b (map.remove m e) (map.insert m e (record x { count = x.count - n })))
    by true = each_cut P named_by_export m e h
    by false = each_put P named_by_export m e (record x { count = x.count - n }) (each_at P named_by_export m e x h f) h

lower_all : (P : Node → Type 0) (m : Map Export) (es : List ℕ) → EachIn P named_by_export m → EachIn P named_by_export (lower_each m es)
lower_all P m [] h = h
lower_all P m (e ∷ es) h = lower_all P (lower_by m e 1) es (lowered_sound P m e 1 (map.get m e) refl h)

obeyed_still : (s : State) (b : Bool) (ids : List ℕ) → ((obey s b ids).questions ≡ s.questions) × ((obey s b ids).level ≡ s.level)
obeyed_still s true ids = (refl, refl)
obeyed_still s false ids = (refl, refl)

-- ---- What was said

-- What was said names nodes that are there.
abbrev SaidHere : Asked → State → Returned → Type 0
SaidHere w s said = AllIn (HereIn w s) (named_by_returned (Some said))

value_here : (P : Node → Type 0) (said : Returned) → AllIn P (named_by_returned (Some said)) → AllIn P (caps_of (value_of_results said))
value_here P (back.Results payload caps) h = h
value_here P (back.Exception exception) h = h

waived_asks : (f : Finishing) (r : Role) → asker_by (waived f) r ≡ asker_by f r
waived_asks finishing.Owed (role.Direct c) = refl
waived_asks finishing.Owed (role.Relay o) = refl
waived_asks finishing.Sent (role.Direct c) = refl
waived_asks finishing.Sent (role.Relay o) = refl
waived_asks finishing.Waived (role.Direct c) = refl
waived_asks finishing.Waived (role.Relay o) = refl

brought_exception : (l : Level) (x : Question) (e : Exception) → Brought l (Some (record x { returned = Some (back.Exception e) }))
brought_exception Zero x e = tt
brought_exception One x e = λ i. omega arith

results_brought : (s : State) (x : Question) (b : ReturnBody) → Brought s.level (Some (record x { returned = Some (results_of s b) }))
results_brought s x (body.Results payload ds) = brought_results s x payload ds
results_brought s x (body.Exception exception) = brought_exception s.level x exception
results_brought s x body.Canceled = brought_exception s.level x _

-- It is settled first what arose, if that is no exception, and its capabilities are there.
abbrev pub Begun : Asked → Progress → Type 0
Begun w new = Fine w new.state × (AllExceptions new.arisen ⊎ ((o : ℕ) × (v : Value) × (new.arisen ≡ (o, v) ∷ []) × AllIn (HereIn w new.state) (caps_of v)))

pub no_caps : (P : Node → Type 0) (v : Value) → IsException v → AllIn P (caps_of v)
no_caps P (value.Results payload caps) i = absurd i
no_caps P (value.Exception exception) i = all_none P

abbrev pub first_value : Value → List (ℕ × Value) → Value
first_value v [] = v
first_value v (x ∷ xs) = x.1

lifted_refs : (P : Node → Type 0) (m : Map Reference) (r : ℕ) (o : Option Reference) → map.get m r ≡ o → EachIn P named_by_reference m → EachIn P named_by_reference (updated m r unembargoed o)
lifted_refs P m r None e h = h
lifted_refs P m r (Some x) e h = each_put P named_by_reference m r (unembargoed x) (each_at P named_by_reference m r x h e) h

module _ {w : Asked} where
  obeyed : (s : State) (b : Bool) (ids : List ℕ) → Fine w s → Fine w (obey s b ids) × Same s (obey s b ids)
  obeyed s true ids h = (let n = h.names in set_exports s (lower_each s.exports ids) h (lower_all (HereIn w s) s.exports ids n.6), same_parts s)
  obeyed s false ids h = (h, same_parts s)

  -- ---- Received messages

  quietly : (d new : Progress) {x : Progress} → new ≡ x → d.arisen ≡ [] → x.arisen ≡ d.arisen → Fine w x.state → Begun w new
  quietly d new {x} h e f k = subst (λ (p : Progress). Begun w p) (sym h) (k, inl (subst (λ (xs : List (ℕ × Value)). AllExceptions xs) (sym (f ∙ e)) tt))

  begun : (d new : Progress) → d.arisen ≡ [] → Fine w new.state → (AllExceptions d.arisen → AllExceptions new.arisen) → Begun w new
  begun d new e h k = (h, inl (k (subst (λ (xs : List (ℕ × Value)). AllExceptions xs) (sym e) tt)))

  takes_bootstrap : (d : Progress) (q : ℕ) (new : Progress) → d.arisen ≡ [] → Fine w d.state → map.get d.state.answers q ≡ None → TakesPlain d (plain.Bootstrap (record { 0 = q })) new → Begun w new
  takes_bootstrap d q new e i f h =
      let s = opened d.state q h.0 [] in
      begun (with_state d s) new e (settles (with_state d s) h.0 (bootstrap_value d.state.bootstrap) new (opens_answer w d.state q h.0 [] i (all_none (HereIn w d.state)) h.1 f) (by d.state.bootstrap) h.2) (first_arises (with_state d s) h.0 _ new h.2)
    where
      by : (b : Option ObjectId) → AllIn (HereIn w (opened d.state q h.0 [])) (caps_of (bootstrap_value b))
      by None = all_none (HereIn w (opened d.state q h.0 []))
      by (Some o) = all_one (HereIn w (opened d.state q h.0 [])) (node.Object o) tt

  -- A Call opens its answer, and its capabilities are there.
  pub opens_call : (s : State) (c : Call) (o : ℕ) → map.get s.outcomes o ≡ None → map.get s.answers c.question.0 ≡ None → Fine w s → (let t = opened (take_all s c.descriptors) c.question.0 o (taken_of s c.descriptors) in Fine w t × AllIn (HereIn w t) (read_all s c.descriptors) × Grows w s t)
  opens_call s c o free fresh i =
      let ds = c.descriptors in
      let u = take_all s ds in
      let same = took s ds in
      let g = grows_outcome w u o (record { caller = peer c.question.0; value = None; waiting = [] }) in
      let one = opens_answer w u c.question.0 o (taken_of s ds) (taken s ds i) (taken_here w s ds) (ap (λ (m : Map KeptOutcome). map.get m o) same.0 ∙ free) (ap (λ (m : Map AnswerEntry). map.get m c.question.0) same.1 ∙ fresh) in
      (one, λ n j. g n (all_read s ds i n j), λ n j. g n (taken_grows w s ds n j))

  takes_call : (d : Progress) (c : Call) (new : Progress) → d.arisen ≡ [] → Fine w d.state → map.get d.state.answers c.question.0 ≡ None → TakesCall d c new → Begun w new
  takes_call d c new e i f h =
      let t = opened (take_all d.state c.descriptors) c.question.0 h.0 (taken_of d.state c.descriptors) in
      let a = opens_call d.state c h.0 h.1 f i in
      let r = routes (with_state d t) (record { request = received_request d.state c; outcome = h.0 }) (target_node d.state c.target) new a.0 a.1 h.2 in
      begun d new e r.0 (call_arises d c new h)

  comes_for : (d : Progress) (r : Role) (v : Value) (new : Progress) → d.arisen ≡ [] → Fine w d.state → AllIn (HereIn w d.state) (caps_of v) → ComesFor d r v new → Begun w new
  comes_for d (role.Relay o) v new e i k h = rw h (i, inr (o, v, ap (λ (xs : List (ℕ × Value)). xs ++ (o, v) ∷ []) e, k))
  comes_for d (role.Direct c) v new e i k h =
      let a = tells_call d c.0 v (map.get d.state.calls c.0) new i k h in
      begun d new e a.0 (told_arises d c.0 v (map.get d.state.calls c.0) new h)

  -- What it said is kept.
  keeps_said : (s : State) (q : ℕ) (x : Question) (said : Returned) → Fine w s → SaidHere w s said → Brought s.level (Some (record x { returned = Some said })) → ((c : ℕ) → asker (map.get s.questions q) ≡ Some c → asker_by x.finish x.role ≡ Some c) → Fine w (record s { questions = map.insert s.questions q (record x { returned = Some said }) })
  keeps_said s q x said i k b f =
      let n = i.names in
      let y : Question = record x { returned = Some said } in
      set_questions s (map.insert s.questions q y) i (each_put (HereIn w s) named_by_question s.questions q y k n.4) (brought_put s.level s.questions q y b i.brought) (tied_put w s.questions q y i.asked f)

  comes_back : (d : Progress) (q : ℕ) (x : Question) (said : Returned) (f : Finishing) (new : Progress) → x.finish ≡ f → ((c : ℕ) → asker (map.get d.state.questions q) ≡ Some c → asker_by x.finish x.role ≡ Some c) → d.arisen ≡ [] → Fine w d.state → SaidHere w d.state said → Brought d.state.level (Some (record x { returned = Some said })) → ComesBack d q x said f new → Begun w new
  comes_back d q x said finishing.Sent new g j e i k b h = rw h (without_question d.state q i (at_cut (λ n o. (c : ℕ) → w n ≡ Some c → asker o ≡ Some c) d.state.questions q (λ c a. absurd (sent x.role (j c (i.asked q c a)))) i.asked), inl (subst (λ (xs : List (ℕ × Value)). AllExceptions xs) (sym e) tt))
    where
      sent : (r : Role) {c : ℕ} → asker_by x.finish r ≡ Some c → ⊥
      sent (role.Direct m) {c} a = let z : None ≡ Some c = subst (λ (y : Finishing). asker_by y (role.Direct m) ≡ Some c) g a in cc
      sent (role.Relay m) {c} a = let z : None ≡ Some c = subst (λ (y : Finishing). asker_by y (role.Relay m) ≡ Some c) g a in cc
  comes_back d q x said finishing.Owed new g j e i k b h = comes_for _ x.role _ new e (keeps_said d.state q x said i k b j) (value_here (HereIn w d.state) said k) h
  comes_back d q x said finishing.Waived new g j e i k b h = comes_for _ x.role _ new e (keeps_said d.state q x said i k b j) (value_here (HereIn w d.state) said k) h

  results_here : (s : State) (b : ReturnBody) → Fine w s → SaidHere w (take_all s (descriptors_of_body b)) (results_of s b)
  results_here s (body.Results payload ds) h = beside_read s ds h
  results_here s (body.Exception exception) h = all_none (HereIn w (take_all s []))
  results_here s body.Canceled h = all_none (HereIn w (take_all s []))

  takes_return : (d : Progress) (r : Return) (o : Option Question) (new : Progress) → map.get d.state.questions r.answer.0 ≡ o → d.arisen ≡ [] → Fine w d.state → TakesReturn d r o new → Begun w new
  takes_return d r None new f e i h = absurd h
  takes_return d r (Some x) new f e i h =
      let ds = descriptors_of_body r.body in
      let s = take_all d.state ds in
      let u = obey s r.release_param_caps (numbers x.given) in
      let a = taken d.state ds i in
      let b = obeyed s r.release_param_caps (numbers x.given) a in
      let said = results_of d.state r.body in
      let same = took d.state ds in
      let still = obeyed_still s r.release_param_caps (numbers x.given) in
      let questions : u.questions ≡ d.state.questions = still.0 ∙ same.2 in
      let level : u.level ≡ d.state.level = still.1 ∙ same.3 in
      comes_back (with_state d u) r.answer.0 x said x.finish new refl (λ c g. ap asker (sym f) ∙ ap (λ (m : Map Question). asker (map.get m r.answer.0)) (sym questions) ∙ g) e b.0
      (λ n j. grows_same w s u b.1 n (results_here d.state r.body i n j)) (subst (λ (l : Level). Brought l (Some (record x { returned = Some said }))) (sym level) (results_brought d.state x r.body)) h

  takes_echoed : (d : Progress) (q : ℕ) (o : Option Question) (new : Progress) → map.get d.state.questions q ≡ o → d.arisen ≡ [] → Fine w d.state → TakesEchoed d q o new → Begun w new
  takes_echoed d q None new f e i h = absurd h
  takes_echoed d q (Some x) new f e i h =
      let u = obey d.state true (numbers x.given) in
      let a = obeyed d.state true (numbers x.given) i in
      let y : Question = record x { finish = waived x.finish } in
      comes_back (with_state d u) q y not_understood (waived x.finish) new refl (λ c g. waived_asks x.finish x.role ∙ ap asker (sym f) ∙ g) e a.0 (all_none (HereIn w u)) (brought_exception d.state.level y _) h

  -- The answer keeps its outcome; one that is cleared was returned.
  finish_kept : (s : State) (q : ℕ) (a : AnswerEntry) (o : Option (List ExportId)) → map.get s.answers q ≡ Some a → a.returned ≡ o → Fine w s → Fine w (record s { answers = finished_map s.answers q a o })
  finish_kept s q a None e f h =
      let y : AnswerEntry = record a { finished = true } in
      let n = h.names in
      set_answers s (map.insert s.answers q y) h (each_put (HereIn w s) named_by_answer s.answers q y (each_at (HereIn w s) named_by_answer s.answers q a n.7 e) n.7)
      (λ k p i. at_put (λ j x. AnswersWith k (map.get s.answers j) → AnswersWith k x) s.answers q y (λ l. subst (AnswersWith k) e l) (λ j l. l) p (h.pending k p i))
      (at_put (λ j x. HasOutcome s.outcomes j x) s.answers q y (subst (HasOutcome s.outcomes q) e (h.answers q)) h.answers)
  finish_kept s q a (Some ids) e f h =
      let n = h.names in
      set_answers s (map.remove s.answers q) h (each_cut (HereIn w s) named_by_answer s.answers q n.7)
      (λ k p i. at_cut (λ j x. AnswersWith k (map.get s.answers j) → AnswersWith k x) s.answers q (λ l. waits k (subst (AnswersWith k) e l)) (λ j l. l) p (h.pending k p i))
      (at_cut (λ j x. HasOutcome s.outcomes j x) s.answers q tt h.answers)
    where
      waits : (k : ℕ) → AnswersWith k (Some a) → ⊥
      waits k l = let g : Some ids ≡ None = sym f ∙ l.1 in cc

  takes_finish : (d : Progress) (q : ℕ) (b : Bool) (o : Option AnswerEntry) (new : Progress) → map.get d.state.answers q ≡ o → d.arisen ≡ [] → Fine w d.state → TakesFinish d q b o new → Begun w new
  takes_finish d q b None new f e i h = absurd h
  takes_finish d q b (Some a) new f e i h = rw h (by b (gave a.returned), inl (subst (λ (xs : List (ℕ × Value)). AllExceptions xs) (sym e) tt))
    where
      by : (c : Bool) (ids : List ℕ) → Fine w (record (obey d.state c ids) { answers = finished_map d.state.answers q a a.returned })
      by true ids = let k = obeyed d.state true ids i in finish_kept (obey d.state true ids) q a a.returned f refl k.0
      by false ids = finish_kept d.state q a a.returned f refl i

  -- What a Resolve said is kept.
  resolution_kept : (s : State) (e : ℕ) (said : Resolution) (o : Option Import) → map.get s.imports e ≡ o → Fine w s → AllIn (HereIn w s) (named_by_resolution (Some said)) → Fine w (record s { imports = updated s.imports e (set_resolution said) o })
  resolution_kept s e said None f h k = h
  resolution_kept s e said (Some x) f h k =
      let y = set_resolution said x in
      let t : State = record s { imports = map.insert s.imports e y } in
      let g = grows_import w s e y in
      let n = h.names in
      set_imports s (map.insert s.imports e y) h g (each_put (HereIn w t) named_by_import s.imports e y (λ m j. g m (k m j)) (λ c m j. g m (n.5 c m j))) (λ z. absurd (let bad : None ≡ Some x = sym (h.level z e) ∙ f in cc)) (positive_put s.imports e y (subst Counted f (h.counted e)) h.counted)

  resolved_import : (s : State) (e : ℕ) (said : Resolution) (o : Option Import) → Fine w s → AllIn (HereIn w s) (named_by_resolution (Some said)) → Fine w (resolve_import s e said o)
  resolved_import s e said None h k = h
  resolved_import s e said (Some x) h k = resolution_kept s e said (map.get s.imports e) refl h k

  takes_resolve : (s : State) (e : ℕ) (to : ResolvedTo) → Fine w s → Fine w (take_resolve s e to)
  takes_resolve s e (resolved.Exception x) h = resolved_import s e (resolution.Exception x) (map.get s.imports e) h (all_none (HereIn w s))
  takes_resolve s e (resolved.Cap d) h =
      resolved_import (take_all s (d ∷ [])) e (resolution.To d (read s d)) (map.get s.imports e) (taken s (d ∷ []) h) (all_read s (d ∷ []) h)

  -- An embargo is lifted: its node is there, and so are the capabilities of its calls.
  pub lift : (s : State) (e : ℕ) (b : Embargo) → map.get s.embargoes e ≡ Some b → Fine w s → Fine w (record s { refs = update s.refs b.reference.0 unembargoed; embargoes = map.remove s.embargoes e }) × HereIn w s b.node × AllIn (HereIn w s) (named_by_calls b.waiting)
  lift s e b f i =
      let n = i.names in
      let m = update s.refs b.reference.0 unembargoed in
      let t : State = record s { refs = m } in
      let one : Fine w t = set_refs s m i (lifted_refs (HereIn w s) s.refs b.reference.0 (map.get s.refs b.reference.0) refl n.0) in
      let k = one.names in
      let old = each_at (HereIn w s) named_by_embargo s.embargoes e b n.1 f in
      (set_embargoes t (map.remove s.embargoes e) one (each_cut (HereIn w t) named_by_embargo t.embargoes e k.1), old b.node (inl refl), λ x j. old x (inr j))

  lifts : (d : Progress) (e : ℕ) (o : Option Embargo) (new : Progress) → map.get d.state.embargoes e ≡ o → Fine w d.state → Lifts d e o new → Fine w new.state
  lifts d e None new f i h = absurd h
  lifts d e (Some b) new f i h =
      let u : State = record (d.state) { refs = update d.state.refs b.reference.0 unembargoed; embargoes = map.remove d.state.embargoes e } in
      let a = lift d.state e b f i in
      let r = routes_all (with_state d u) b.waiting b.node new a.0 a.2 h in
      r.0

  bounces : (d : Progress) (x : EmbargoId) (o : Option Target) (new : Progress) → Fine w d.state → Bounces d x o new → Fine w new.state
  bounces d x None new i h = absurd h
  bounces d x (Some to) new i h = rw h i

  disembargo : (d : Progress) (to : Target) (c : DisembargoContext) (new : Progress) → Fine w d.state → TakesDisembargo d to c new → Fine w new.state
  disembargo d to (SenderLoopback x) new i h = bounces d x _ new i h
  disembargo d to (ReceiverLoopback x) new i h = lifts d x.0 _ new refl i h

  takes_plain : (d : Progress) (m : PlainMessage) (new : Progress) → d.arisen ≡ [] → Fine w d.state → plain_fault d.state m ≡ None → TakesPlain d m new → Begun w new
  takes_plain d (plain.Abort x) new e i f h = absurd h
  takes_plain d (plain.Bootstrap q) new e i f h = takes_bootstrap d q.0 new e i (free_answer (map.get d.state.answers q.0) 20 f) h
  takes_plain d (plain.Call c) new e i f h = takes_call d c new e i (none_there (map.get d.state.answers c.question.0) 20 _ f) h
  takes_plain d (plain.Return r) new e i f h = takes_return d r _ new refl e i h
  takes_plain d (plain.Finish x) new e i f h = takes_finish d x.question.0 x.release_result_caps _ new refl e i h
  takes_plain d (plain.Resolve r) new e i f h = quietly d new h e refl (takes_resolve d.state r.promise.0 r.to i)
  takes_plain d (plain.Release r) new e i f h =
      let n = i.names in
      quietly d new h e refl (set_exports d.state (lower_by d.state.exports r.export.0 r.count) i (lowered_sound (HereIn w d.state) d.state.exports r.export.0 r.count (map.get d.state.exports r.export.0) refl n.6))
  takes_plain d (plain.Disembargo x) new e i f h = begun d new e (disembargo d x.target x.context new i h) (disembargo_arises d x.target x.context new h)
  takes_plain d (plain.Other n) new e i f h = quietly d new h e refl i

  takes_unimplemented : (d : Progress) (m : PlainMessage) (new : Progress) → d.arisen ≡ [] → Fine w d.state → TakesUnimplemented d m new → Begun w new
  takes_unimplemented d (plain.Abort x) new e i h = absurd h
  takes_unimplemented d (plain.Bootstrap q) new e i h = takes_echoed d q.0 _ new refl e i h
  takes_unimplemented d (plain.Call c) new e i h = takes_echoed d c.question.0 _ new refl e i h
  takes_unimplemented d (plain.Return r) new e i h = absurd h
  takes_unimplemented d (plain.Finish x) new e i h = absurd h
  takes_unimplemented d (plain.Resolve r) new e i h = let a = obeyed d.state true (given_by r.to) i in quietly d new h e refl a.0
  takes_unimplemented d (plain.Release r) new e i h = quietly d new h e refl i
  takes_unimplemented d (plain.Disembargo x) new e i h = absurd h
  takes_unimplemented d (plain.Other n) new e i h = absurd h

  unless : (b : Bool) (d : Progress) (m : PlainMessage) (new : Progress) → d.arisen ≡ [] → Fine w d.state → unless_foreign b (plain_fault d.state m) ≡ None → TakesUnless b d m new → Begun w new
  unless true d m new e i f h = quietly d new h e refl i
  unless false d m new e i f h = takes_plain d m new e i f h

  pub takes : (d : Progress) (m : Message) (new : Progress) → d.arisen ≡ [] → Fine w d.state → fault_of d.state m ≡ None → Takes d m new → Begun w new
  takes d (message.Plain m) new e i f h = unless (is_foreign d.state.level m) d m new e i f h
  takes d (message.Unimplemented m) new e i f h = takes_unimplemented d m new e i h

  -- ---- Steps

  drained : (new d : Progress) → AllExceptions d.arisen → Fine w d.state → Drains new d → Fine w new.state
  drained new d a i (NoneLeft h) = i
  drained new d a i (OneMore {mid = mid} o v rest e h more) =
      let b = subst (λ (xs : List (ℕ × Value)). AllExceptions xs) e a in
      let left : Progress = record d { arisen = rest } in
      drained new mid (first_arises left o v mid h b.1) (settles left o v mid i (no_caps (HereIn w d.state) v b.0) h) more

  -- The only outcome that arose.
  drained_first : (new d : Progress) (o : ℕ) (v : Value) → d.arisen ≡ (o, v) ∷ [] → Fine w d.state → AllIn (HereIn w d.state) (caps_of v) → Drains new d → Fine w new.state
  drained_first new d o v e i k (NoneLeft h) = i
  drained_first new d o v e i k (OneMore {mid = mid} p u rest f h more) =
      let g : (o, v) ∷ [] ≡ (p, u) ∷ rest = sym e ∙ f in
      let j : rest ≡ [] = cc in
      let same : v ≡ u = ap (first_value v) g in
      let left : Progress = record d { arisen = rest } in
      let a : AllExceptions mid.arisen = first_arises left p u mid h (subst (λ (xs : List (ℕ × Value)). AllExceptions xs) (sym j) tt) in
      drained new mid a (settles left p u mid i (subst (λ (n : Value). AllIn (HereIn w d.state) (caps_of n)) same k) h) more

  ends : (acted : Progress) (x : Effects) (new : State) → Begun w acted → Ends acted x new → Whole new
  ends acted x new k h = rw h.new_is (swept h.drained h.swept (by k.1) h.sweeps)
    where
      by : AllExceptions acted.arisen ⊎ ((o : ℕ) × (v : Value) × (acted.arisen ≡ (o, v) ∷ []) × AllIn (HereIn w acted.state) (caps_of v)) → Fine w h.drained.state
      by (inl a) = drained h.drained acted a k.0 h.drains
      by (inr a) = drained_first h.drained acted a.0 a.1 a.2 k.0 a.3 h.drains

pub does : (s : State) (c : Command) (g : Granted) (x : Effects) (new : State) → Whole s → Does s c g x new → Whole new
does s c g x new i h = ends h.acted x new (begun (begin s) h.acted refl (acts (begin s) c g h.acted i.fine h.acts) (λ i. act_arises s c g h.acted h.acts)) h.ends

pub handles : (s : State) (m : Message) (x : Effects) (new : State) → Whole s → fault_of s m ≡ None → Handles s m x new → Whole new
handles s m x new i f h = ends h.taken x new (takes (begin s) m h.taken refl i.fine f h.takes) h.ends
