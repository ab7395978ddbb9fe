-- The first act of each command and message says of which call each outcome is.
use Rattle.std.proofs.Common.{◌≡◌, ◌⊎◌, inl, inr, ℕ, Bool, true, false, nat_eq, Option, None, Some, List, [], ◌∷◌, ◌++◌, length, refl, sym, subst, ◌∙◌, arith}
use Rattle.std.specs.FinMap as map
use Rattle.finite_maps.specs.Tally.{Map, tally}
use Rattle.finite_maps.proofs.Tallies.{tally-within}
use Rattle.finite_maps.proofs.Tested.{at_put, at_cut, get_other}
use Rattle.finite_maps.proofs.Gets.{get-insert_same}
use Rattle.rpc_msg.specs.Payloads.{Contents as Payload}
use Rattle.rpc_msg.specs.declared.ids.RefId.{RefId}
use Rattle.rpc_msg.specs.declared.ids.TaskId.{TaskId}
use Rattle.rpc_msg.specs.declared.ids.ExportId.{ExportId}
use Rattle.rpc_msg.specs.declared.ids.QuestionId.{QuestionId}
use Rattle.rpc_msg.specs.declared.ids.Stamp.{Stamp}
use Rattle.rpc_msg.specs.declared.exception.Exception.{Exception}
use Rattle.rpc_msg.specs.declared.message.Call.{Call}
use Rattle.rpc_msg.specs.declared.message.Finish.{Finish}
use Rattle.rpc_msg.specs.declared.message.Message.{Message}
use Rattle.rpc_msg.specs.declared.message.Message.TheVariants as message
use Rattle.rpc_msg.specs.declared.message.PlainMessage.TheVariants as plain
use Rattle.rpc_journal.specs.declared.report.Outcome.{Outcome}
use Rattle.rpc_journal.specs.declared.report.Outcome.TheVariants as outcome
use Rattle.rpc_journal.specs.Sources.{Asking, OfBootstrap, OfCall}
use Rattle.rpc_machine.specs.declared.node.Node.{Node}
use Rattle.rpc_machine.specs.declared.node.Reason.{Reason}
use Rattle.rpc_machine.specs.declared.calls.WaitingCall.{WaitingCall}
use Rattle.rpc_machine.specs.declared.calls.HeldCall.{HeldCall}
use Rattle.rpc_machine.specs.declared.calls.Promise.{Promise}
use Rattle.rpc_machine.specs.declared.calls.Promise.TheVariants as promise
use Rattle.rpc_machine.specs.declared.calls.KeptOutcome.{KeptOutcome}
use Rattle.rpc_machine.specs.declared.calls.Caller.{Caller}
use Rattle.rpc_machine.specs.declared.calls.Caller.TheVariants as caller
use Rattle.rpc_machine.specs.declared.command.CallCommand.{CallCommand}
use Rattle.rpc_machine.specs.declared.command.Command.{Command}
use Rattle.rpc_machine.specs.declared.command.Command.TheVariants as command
use Rattle.rpc_machine.specs.declared.command.Granted.{Granted}
use Rattle.rpc_machine.specs.declared.command.Effects.{Effects}
use Rattle.rpc_machine.specs.declared.entries.AnswerEntry.{AnswerEntry}
use Rattle.rpc_machine.specs.declared.entries.Question.{Question}
use Rattle.rpc_machine.specs.declared.entries.Reference.{Reference}
use Rattle.rpc_machine.specs.declared.entries.Returned.{Returned}
use Rattle.rpc_machine.specs.declared.entries.Role.{Role}
use Rattle.rpc_machine.specs.declared.entries.Role.TheVariants as role
use Rattle.rpc_machine.specs.declared.entries.Finishing.TheVariants as finishing
use Rattle.rpc_machine.specs.declared.entries.Embargo.{Embargo}
use Rattle.rpc_machine.specs.State.{State}
use Rattle.rpc_machine.specs.Commands.{request, heads}
use Rattle.rpc_machine.specs.Messages.{bootstrap_value, value_of_results, finished_map}
use Rattle.rpc_machine.specs.Routing.{failed, reason_text}
use Rattle.rpc_machine.specs.Sweeping.{IsNotSent}
use Rattle.laws_acts.specs.Moments.{Moment, beginning, each_to}
use Rattle.laws_acts.specs.FirstActs.{Starts}
use Rattle.laws_acts.specs.FirstActs as first
use Rattle.laws_acts.specs.MessageActs.{Back, Brings, Consumes}
use Rattle.laws_acts.specs.MessageActs as heard
use Rattle.laws_acts.specs.SmallActs.{DoesActs, HandlesActs}
use Rattle.laws_acts.proofs.EachStep.{at_end}
use Rattle.laws_nodes.specs.Ones.{one_if}
use Rattle.laws_nodes.specs.Sources as source
use Rattle.laws_nodes.specs.Sources.{is_key, sources}
use Rattle.laws_meanings.specs.Identities.{IfNone, IsOf, Is, CallsAre, HeldAre, PromiseIs, KeptIs, EmbargoIs, TaskIs, RoleIs, QuestionIs}
use Rattle.laws_meanings.proofs.Identified.{calls-append, Promises}
use Rattle.laws_meanings.proofs.Whose as whose

pub still_unsent : (x : Question) → (x.finish ≡ finishing.Owed) ⊎ (x.finish ≡ finishing.Waived) → IsNotSent x.finish
still_unsent x (inl e) = subst IsNotSent (sym e) tt
still_unsent x (inr e) = subst IsNotSent (sym e) tt

module _ (C : Caller → Option Asking) (os : Map KeptOutcome) (u : ℕ) (y : KeptOutcome) where
  abbrev ns : Map KeptOutcome
  ns = map.insert os u y

  -- An outcome with another key.
  other : (o : ℕ) (a : Asking) → is_key u o ≡ 0 → Is C os o a → Is C ns o a
  other o a e i = subst (IsOf C a) (sym (get_other os u y o (by (nat_eq u o) refl e))) i
    where
      by : (b : Bool) → nat_eq u o ≡ b → one_if b ≡ 0 → nat_eq o u ≡ false
      by true f g = absurd (omega arith)
      by false f g = grind arith

  other_calls : (cs : List WaitingCall) → source.calls_for u cs ≡ 0 → CallsAre C os cs → CallsAre C ns cs
  other_calls [] e i = tt
  other_calls (c ∷ cs) e i = (other c.outcome (OfCall c.request.stamp) (omega arith) i.0, other_calls cs (omega arith) i.1)

  other_held : (xs : List HeldCall) → source.held_for u xs ≡ 0 → HeldAre C os xs → HeldAre C ns xs
  other_held [] e i = tt
  other_held (x ∷ xs) e i = (other x.call.outcome (OfCall x.call.request.stamp) (omega arith) i.0, other_held xs (omega arith) i.1)

  other_promises : (m : Map Promise) → tally (source.at_promise u) m ≡ 0 → Promises C os m → Promises C ns m
  other_promises m e i p = by (map.get m p) refl (i p)
    where
      by : (o : Option Promise) → map.get m p ≡ o → PromiseIs C os o → PromiseIs C ns o
      by None f j = tt
      by (Some (promise.Open calls)) f j = let z = tally-within (source.at_promise u) m p (promise.Open calls) f in other_calls calls (omega arith) j
      by (Some (promise.Fixed to)) f j = tt

  other_kepts : (m : Map KeptOutcome) → tally (source.at_outcome u) m ≡ 0 → ((o : ℕ) → KeptIs C os (map.get m o)) → (o : ℕ) → KeptIs C ns (map.get m o)
  other_kepts m e i o = by (map.get m o) refl (i o)
    where
      by : (x : Option KeptOutcome) → map.get m o ≡ x → KeptIs C os x → KeptIs C ns x
      by None f j = tt
      by (Some x) f j = let z = tally-within (source.at_outcome u) m o x f in other_held x.waiting (omega arith) j

  other_embargoes : (m : Map Embargo) → tally (source.at_embargo u) m ≡ 0 → ((e : ℕ) → EmbargoIs C os (map.get m e)) → (e : ℕ) → EmbargoIs C ns (map.get m e)
  other_embargoes m e i k = by (map.get m k) refl (i k)
    where
      by : (x : Option Embargo) → map.get m k ≡ x → EmbargoIs C os x → EmbargoIs C ns x
      by None f j = tt
      by (Some b) f j = let z = tally-within (source.at_embargo u) m k b f in other_calls b.waiting (omega arith) j

  other_tasks : (T : ℕ → Stamp → Type 0) (m : Map ℕ) → tally (is_key u) m ≡ 0 → ((k : ℕ) → TaskIs C os T k (map.get m k)) → (k : ℕ) → TaskIs C ns T k (map.get m k)
  other_tasks T m e i k = by (map.get m k) refl (i k)
    where
      by : (x : Option ℕ) → map.get m k ≡ x → TaskIs C os T k x → TaskIs C ns T k x
      by None f j = tt
      by (Some o) f j = let z = tally-within (is_key u) m k o f in (j.0, j.1, other o (OfCall j.0) (omega arith) j.2)

  other_questions : (L : ℕ → Option Asking) (m : Map Question) → tally (source.at_question u) m ≡ 0 → ((q : ℕ) → QuestionIs C os (L q) (map.get m q)) → (q : ℕ) → QuestionIs C ns (L q) (map.get m q)
  other_questions L m e i q = by (map.get m q) refl (i q)
    where
      at : (r : Role) (o : Option Returned) → source.relay_for u r o ≡ 0 → IfNone o (RoleIs C os (L q) r) → IfNone o (RoleIs C ns (L q) r)
      at (role.Direct c) None f j = j
      at (role.Direct c) (Some x) f j = tt
      at (role.Relay o) None f j = (j.0, j.1, other o (OfCall j.0) f j.2)
      at (role.Relay o) (Some x) f j = tt

      by : (x : Option Question) → map.get m q ≡ x → QuestionIs C os (L q) x → QuestionIs C ns (L q) x
      by None f j = tt
      by (Some x) f j = let z = tally-within (source.at_question u) m q x f in at x.role x.returned (omega arith) j

  this_one : (a : Asking) → y.value ≡ None → C y.caller ≡ Some a → Is C ns u a
  this_one a e f = subst (IsOf C a) (sym (get-insert_same os u y)) (subst (λ (o : Option _). IfNone o (C y.caller ≡ Some a)) (sym e) f)

module _ (C : Caller → Option Asking) (L : ℕ → Option Asking) (T : ℕ → Stamp → Type 0) (W : Asking → Outcome → ℕ → Type 0) (U : ℕ → Type 0) (E : Stamp → Type 0) (broken : (s : Stamp) (why : Reason) → E s → W (OfCall s) (outcome.Exception (failed (reason_text why))) 0) where
  abbrev Fine : Moment → Type 0
  Fine d = whose.Fine C L T W U E broken d

  abbrev Places : State → Type 0
  Places s = whose.Places C L T W U E broken s [] []

  -- Between steps. An outcome that is not there has no source.
  abbrev pub Begins : State → Type 0
  Begins s = Places s × whose.Answers C L T W U E broken s.answers × ((u : ℕ) → map.get s.outcomes u ≡ None → sources u s ≡ 0)

  opens : (s : State) (u : ℕ) (y : KeptOutcome) → y.waiting ≡ [] → map.get s.outcomes u ≡ None → Begins s → Places (record s { outcomes = map.insert s.outcomes u y })
  opens s u y w f i =
      let e = i.2 u f in
      let os = s.outcomes in
      let z = i.0 in (
        other_tasks C os u y (whose.Given C L T W U E broken []) s.tasks (omega arith) z.0,
        other_questions C os u y L s.questions (omega arith) z.1,
        other_promises C os u y s.promises (omega arith) z.2,
        at_put (λ l o. KeptIs C (map.insert os u y) o) os u y (subst (HeldAre C (map.insert os u y)) (sym w) tt) (λ l m. other_kepts C os u y os (omega arith) z.3 l),
        other_embargoes C os u y s.embargoes (omega arith) z.4,
      )

  yet_each : (os : Map KeptOutcome) (n : Node) (cs : List WaitingCall) → CallsAre C os cs → whose.Yet C L T W U E broken os (each_to n cs)
  yet_each os n [] i = tt
  yet_each os n (c ∷ cs) i = (i.0, yet_each os n cs i.1)

  -- ---- Commands

  -- What the command asks and answers.
  pub record Commanded (s : State) (c : Command) (g : Granted) : Type 0 where
    pub root : c ≡ command.Bootstrap → g ≡ first.next_call_of s → C (caller.Application (record { 0 = s.next_call })) ≡ Some OfBootstrap
    pub call : (k : CallCommand) (x : Reference) → c ≡ command.Call k → map.get s.refs k.reference.0 ≡ Some x → g ≡ first.next_call_of s → C (caller.Application (record { 0 = s.next_call })) ≡ Some (OfCall (request s k x).stamp)
    pub answers : (t : TaskId) (payload : Payload) (refs : List RefId) (z : Stamp) (o : ℕ) → c ≡ command.Answer t payload refs → map.get s.tasks t.0 ≡ Some o → T t.0 z → W (OfCall z) (outcome.Results payload) (length (heads s refs))
    pub fails : (t : TaskId) (why : Exception) (z : Stamp) (o : ℕ) → c ≡ command.Fail t why → map.get s.tasks t.0 ≡ Some o → T t.0 z → W (OfCall z) (outcome.Exception why) 0

  started : (s : State) (c : Command) (g : Granted) (new : Moment) → Commanded s c g → Begins s → Starts (beginning s) c g new → Fine new
  started s c g new n i (first.AsksRoot q e f a u) =
      let m = message.Plain (plain.Bootstrap (record { 0 = q })) in
      let x = first.asked (role.Direct (record { 0 = s.next_call })) [] in
      let qs = whose.asks C L T W U E broken s.outcomes [] s.questions q x OfBootstrap m (λ k. refl) (λ z. (OfBootstrap, n.root e a, z)) i.0.1 in
      rw u ((i.0.0, qs, i.0.2, i.0.3, i.0.4), tt, tt, tt, tt, i.1, tt, (tt, tt), tt)
  started s c g new n i (first.CallsOut k x q t ds es e f j w l o a u) =
      let stamp = (request s k x).stamp in
      let m = message.Plain (first.asking q t (request s k x) ds) in
      let y = first.asked (role.Direct (record { 0 = s.next_call })) ds in
      let qs = whose.asks C L T W U E broken s.outcomes [] s.questions q y (OfCall stamp) m (λ k. refl) (λ z. (OfCall stamp, n.call k x e f a, z)) i.0.1 in
      rw u ((i.0.0, qs, i.0.2, i.0.3, i.0.4), tt, tt, tt, tt, i.1, tt, (tt, tt), tt)
  started s c g new n i (first.CallsHere k x o e f j w l a u) =
      let y : KeptOutcome = record { caller = caller.Application (record { 0 = s.next_call }); value = None; waiting = [] } in
      let z = opens s o y refl l i in
      rw u (z, (this_one C s.outcomes o y (OfCall (request s k x).stamp) refl (n.call k x e f a), tt), tt, tt, tt, i.1, tt, tt, tt)
  started s c g new n i (first.CallsLater k x o z b e f j l m a u) =
      let y : KeptOutcome = record { caller = caller.Application (record { 0 = s.next_call }); value = None; waiting = [] } in
      let os = s.outcomes in
      let p = opens s o y refl m i in
      let call = first.waiting_call s k x o in
      let was : CallsAre C (map.insert os o y) b.waiting = subst (EmbargoIs C (map.insert os o y)) l (p.4 z.0) in
      let all = calls-append C (map.insert os o y) b.waiting (call ∷ []) was (this_one C os o y (OfCall (request s k x).stamp) refl (n.call k x e f a), tt) in
      rw u ((p.0, p.1, p.2, p.3, at_put (λ h r. EmbargoIs C (map.insert os o y) r) s.embargoes z.0 (record b { waiting = b.waiting ++ call ∷ [] }) all (λ h r. p.4 h)), tt, tt, tt, tt, i.1, tt, tt, tt)
  started s c g new n i (first.Fixes p r x key calls e f j k a u) =
      let was : CallsAre C s.outcomes calls = subst (PromiseIs C s.outcomes) k (i.0.2 key) in
      rw u ((i.0.0, i.0.1, at_put (λ h o. PromiseIs C s.outcomes o) s.promises key _ tt (λ h o. i.0.2 h), i.0.3, i.0.4), yet_each s.outcomes _ calls was, tt, tt, tt, i.1, tt, tt, tt)
  started s c g new n i (first.Rejects p why key calls e f j a u) =
      let was : CallsAre C s.outcomes calls = subst (PromiseIs C s.outcomes) j (i.0.2 key) in
      rw u ((i.0.0, i.0.1, at_put (λ h o. PromiseIs C s.outcomes o) s.promises key _ tt (λ h o. i.0.2 h), i.0.3, i.0.4), yet_each s.outcomes _ calls was, tt, tt, tt, i.1, tt, tt, tt)
  started s c g new n i (first.Answers t payload refs o e f a u) =
      let was : TaskIs C s.outcomes (whose.Given C L T W U E broken []) t.0 (Some o) = subst (TaskIs C s.outcomes (whose.Given C L T W U E broken []) t.0) f (i.0.0 t.0) in
      rw u ((at_cut (λ h o. TaskIs C s.outcomes (whose.Given C L T W U E broken []) h o) s.tasks t.0 tt (λ h l. i.0.0 h), i.0.1, i.0.2, i.0.3, i.0.4), tt, tt, ((OfCall was.0, was.2, by was.0 was.1), tt), tt, i.1, tt, tt, tt)
    where
      by : (z : Stamp) → whose.Given C L T W U E broken [] t.0 z → W (OfCall z) (outcome.Results payload) (length (heads s refs))
      by z (inl h) = n.answers t payload refs z o e f h
      by z (inr h) = absurd h
  started s c g new n i (first.Fails t why o e f a u) =
      let was : TaskIs C s.outcomes (whose.Given C L T W U E broken []) t.0 (Some o) = subst (TaskIs C s.outcomes (whose.Given C L T W U E broken []) t.0) f (i.0.0 t.0) in
      rw u ((at_cut (λ h o. TaskIs C s.outcomes (whose.Given C L T W U E broken []) h o) s.tasks t.0 tt (λ h l. i.0.0 h), i.0.1, i.0.2, i.0.3, i.0.4), tt, tt, ((OfCall was.0, was.2, by was.0 was.1), tt), tt, i.1, tt, tt, tt)
    where
      by : (z : Stamp) → whose.Given C L T W U E broken [] t.0 z → W (OfCall z) (outcome.Exception why) 0
      by z (inl h) = n.fails t why z o e f h
      by z (inr h) = absurd h
  started s c g new n i (first.Hosts o e a u) = rw u (i.0, tt, tt, tt, tt, i.1, tt, tt, tt)
  started s c g new n i (first.Clones y x e f a u) = rw u (i.0, tt, tt, tt, tt, i.1, tt, tt, tt)
  started s c g new n i (first.NamesField y path from e f a u) = rw u (i.0, tt, tt, tt, tt, i.1, tt, tt, tt)
  started s c g new n i (first.Promises p e f a u) =
      rw u ((i.0.0, i.0.1, at_put (λ h o. PromiseIs C s.outcomes o) s.promises p (promise.Open []) tt (λ h o. i.0.2 h), i.0.3, i.0.4), tt, tt, tt, tt, i.1, tt, tt, tt)
  started s c g new n i (first.Drops y x e f a u) = rw u (i.0, tt, tt, tt, tt, i.1, tt, tt, tt)
  started s c g new n i (first.Finishes y from e f a u) = rw u (i.0, tt, tt, tt, tt, i.1, tt, tt, tt)
  started s c g new n i (first.StaysPut y x e f a u) = rw u (i.0, tt, tt, tt, tt, i.1, tt, tt, tt)
  started s c g new n i (first.Breaks y x reason e f j l a u) = rw u (i.0, tt, tt, tt, tt, i.1, tt, tt, tt)
  started s c g new n i (first.Switches y x by n0 e f j l m o a u) = rw u (i.0, tt, tt, tt, tt, i.1, tt, tt, tt)
  started s c g new n i (first.Turns y x by n0 t z e f j l m o w p a u) =
      rw u ((i.0.0, i.0.1, i.0.2, i.0.3, at_put (λ h r. EmbargoIs C s.outcomes r) s.embargoes z _ tt (λ h r. i.0.4 h)), tt, tt, tt, tt, i.1, tt, (tt, tt), tt)

  -- ---- Messages

  -- What the message asks, says and finishes.
  pub record Hears (s : State) (m : Message) : Type 0 where
    pub root : (q : QuestionId) → m ≡ message.Plain (plain.Bootstrap q) → C (caller.Peer q) ≡ Some OfBootstrap
    pub roots : whose.IsFor C L T W U E broken OfBootstrap (bootstrap_value s.bootstrap)
    pub call : (c : Call) → m ≡ message.Plain (plain.Call c) → C (caller.Peer c.question) ≡ Some (OfCall c.stamp)
    pub says : (b : Back) (x : Question) (a : Asking) → Brings s m b → map.get s.questions b.question ≡ Some x → x.returned ≡ None → IsNotSent x.finish → L b.question ≡ Some a → whose.IsFor C L T W U E broken a (value_of_results b.said)
    pub finish : (f : Finish) (a : AnswerEntry) → m ≡ message.Plain (plain.Finish f) → map.get s.answers f.question.0 ≡ Some a → a.returned ≡ None → U f.question.0

  -- A question that has returned.
  came : (s : State) (b : Back) (x : Question) → Places s → (q : ℕ) → QuestionIs C s.outcomes (L q) (map.get (map.insert s.questions b.question (heard.answered x b.waives b.said)) q)
  came s b x i = at_put (λ k o. QuestionIs C s.outcomes (L k) o) s.questions b.question (heard.answered x b.waives b.said) tt (λ k n. i.1 k)

  role_of : (s : State) (b : Back) (x : Question) (r : Role) → Places s → map.get s.questions b.question ≡ Some x → x.returned ≡ None → x.role ≡ r → RoleIs C s.outcomes (L b.question) r
  role_of s b x r i f j l =
      let k : QuestionIs C s.outcomes (L b.question) (Some x) = subst (QuestionIs C s.outcomes (L b.question)) f (i.1 b.question) in
      subst (RoleIs C s.outcomes (L b.question)) l (subst (λ (o : Option Returned). IfNone o (RoleIs C s.outcomes (L b.question) x.role)) j k)

  opened_answers : (s : State) (q : ℕ) (a : AnswerEntry) → a.finished ≡ false → Begins s → whose.Answers C L T W U E broken (map.insert s.answers q a)
  opened_answers s q a e i = at_put (whose.AnswerIs C L T W U E broken) s.answers q a (λ g. absurd (let bad : true ≡ false = sym g ∙ e in cc)) (λ k n. i.1 k)

  consumed : (s : State) (m : Message) (new : Moment) → Hears s m → Begins s → Consumes (beginning s) m new → Fine new
  consumed s m new n i (heard.OpensRoot q o e f j u) =
      let y : KeptOutcome = record { caller = caller.Peer q; value = None; waiting = [] } in
      rw u (opens s o y refl j i, tt, tt, ((OfBootstrap, this_one C s.outcomes o y OfBootstrap refl (n.root q e), n.roots), tt), tt, opened_answers s q.0 _ refl i, tt, tt, tt)
  consumed s m new n i (heard.OpensCall c o e f j u) =
      let y : KeptOutcome = record { caller = caller.Peer c.question; value = None; waiting = [] } in
      rw u (opens s o y refl j i, (this_one C s.outcomes o y (OfCall c.stamp) refl (n.call c e), tt), tt, tt, tt, opened_answers s c.question.0 _ refl i, tt, tt, tt)
  consumed s m new n i (heard.Loses b x e f j k u) =
      rw u ((i.0.0, at_cut (λ h o. QuestionIs C s.outcomes (L h) o) s.questions b.question tt (λ h o. i.0.1 h), i.0.2, i.0.3, i.0.4), tt, tt, tt, tt, i.1, tt, tt, tt)
  consumed s m new n i (heard.ComesToCall b x c e f j k l u) =
      let r = role_of s b x (role.Direct c) i.0 f j l in
      rw u ((i.0.0, came s b x i.0, i.0.2, i.0.3, i.0.4), tt, tt, tt, ((r.0, r.1, n.says b x r.0 e f j (still_unsent x k) r.2), tt), i.1, tt, tt, tt)
  consumed s m new n i (heard.ComesToRelay b x o e f j k l u) =
      let r = role_of s b x (role.Relay o) i.0 f j l in
      rw u ((i.0.0, came s b x i.0, i.0.2, i.0.3, i.0.4), tt, ((OfCall r.0, r.2, n.says b x (OfCall r.0) e f j (still_unsent x k) r.1), tt), tt, tt, i.1, tt, tt, tt)
  consumed s m new n i (heard.IsFinished x z e f j u) = rw u (i.0, tt, tt, tt, tt, by z.returned refl, tt, tt, tt)
    where
      by : (r : Option (List ExportId)) → z.returned ≡ r → whose.Answers C L T W U E broken (finished_map s.answers x.question.0 z r)
      by None g = at_put (whose.AnswerIs C L T W U E broken) s.answers x.question.0 _ (λ h. n.finish x z e f g) (λ k o. i.1 k)
      by (Some ids) g = at_cut (whose.AnswerIs C L T W U E broken) s.answers x.question.0 tt (λ k o. i.1 k)
  consumed s m new n i (heard.IsResolved x e u) = rw u (i.0, tt, tt, tt, tt, i.1, tt, tt, tt)
  consumed s m new n i (heard.IsReleased x e u) = rw u (i.0, tt, tt, tt, tt, i.1, tt, tt, tt)
  consumed s m new n i (heard.SendsBack t to x e f u) = rw u (i.0, tt, tt, tt, tt, i.1, tt, (tt, tt), tt)
  consumed s m new n i (heard.Lifts t x b e f u) =
      let was : CallsAre C s.outcomes b.waiting = subst (EmbargoIs C s.outcomes) f (i.0.4 x.0) in
      rw u ((i.0.0, i.0.1, i.0.2, i.0.3, at_cut (λ h r. EmbargoIs C s.outcomes r) s.embargoes x.0 tt (λ h r. i.0.4 h)), yet_each s.outcomes b.node b.waiting was, tt, tt, tt, i.1, tt, tt, tt)
  consumed s m new n i (heard.SendsForeign p e f u) = rw u (i.0, tt, tt, tt, tt, i.1, tt, (tt, tt), tt)
  consumed s m new n i (heard.SendsOther k e u) = rw u (i.0, tt, tt, tt, tt, i.1, tt, (tt, tt), tt)
  consumed s m new n i (heard.TakesBack x e u) = rw u (i.0, tt, tt, tt, tt, i.1, tt, tt, tt)
  consumed s m new n i (heard.Ignores x e u) = rw u (i.0, tt, tt, tt, tt, i.1, tt, tt, tt)

  -- ---- Steps

  abbrev pub Leaves : State → Effects → Type 0
  Leaves t x = whose.Places C L T W U E broken t x.deliveries x.sends × whose.AllSay C L T W U E broken x.sends × whose.EndsAre C L T W U E broken x.answers

  left : (d : Moment) → Fine d → whose.Places C L T W U E broken d.state d.effects.deliveries d.effects.sends × whose.AllSay C L T W U E broken d.effects.sends × whose.EndsAre C L T W U E broken d.effects.answers
  left d i = (i.0, i.7, i.8)

  pub commands : (s : State) (c : Command) (g : Granted) (x : Effects) (t : State) → Commanded s c g → Begins s → (k : DoesActs s c g x t) → whose.AllBreak C L T W U E broken k.acts → Leaves t x
  commands s c g x t n i k f = at_end Leaves k.last x t k.ends (left k.last (whose.all_acted C L T W U E broken k.last k.started k.acts f (started s c g k.started n i k.starts)))

  pub messages : (s : State) (m : Message) (x : Effects) (t : State) → Hears s m → Begins s → (k : HandlesActs s m x t) → whose.AllBreak C L T W U E broken k.acts → Leaves t x
  messages s m x t n i k f = at_end Leaves k.last x t k.ends (left k.last (whose.all_acted C L T W U E broken k.last k.consumed k.acts f (consumed s m k.consumed n i k.consumes)))
