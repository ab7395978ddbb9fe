-- What each act does to the questions and answers, and what it sends of them.
use Rattle.std.proofs.Common.{◌≡◌, ℕ, ◌+◌, Bool, true, false, cond, nat_eq, List, [], ◌∷◌, ◌++◌, Option, None, Some, refl, sym, ap, subst, ◌∙◌, append_assoc}
use Rattle.std.proofs.lemmas.List.{append-nil}
use Rattle.std.specs.FinMap as map
use Rattle.rpc_msg.specs.declared.ids.QuestionId.{QuestionId}
use Rattle.rpc_msg.specs.declared.ids.ExportId.{ExportId}
use Rattle.rpc_msg.specs.declared.parts.Descriptor.{Descriptor}
use Rattle.rpc_msg.specs.declared.parts.Target.{Target}
use Rattle.rpc_msg.specs.declared.exception.Exception.{Exception}
use Rattle.rpc_msg.specs.declared.message.ReturnBody.{ReturnBody}
use Rattle.rpc_msg.specs.declared.message.PlainMessage.{PlainMessage}
use Rattle.rpc_msg.specs.declared.message.PlainMessage.TheVariants as plain
use Rattle.rpc_msg.specs.declared.message.Message.{Message}
use Rattle.rpc_msg.specs.declared.message.Message.TheVariants as message
use Rattle.rpc_msg.specs.Messages.{given, descriptors_of_body}
use Rattle.finite_maps.specs.Tally.{Map}
use Rattle.finite_maps.proofs.Tested.{equal, itself, get_put, get_cut, at_changed}
use Rattle.rpc_machine.specs.declared.node.Node.{Node}
use Rattle.rpc_machine.specs.declared.calls.Request.{Request}
use Rattle.rpc_machine.specs.declared.calls.Value.{Value}
use Rattle.rpc_machine.specs.declared.calls.Value.TheVariants as value
use Rattle.rpc_machine.specs.declared.calls.Caller.{Caller}
use Rattle.rpc_machine.specs.declared.calls.Caller.TheVariants as caller
use Rattle.rpc_machine.specs.declared.calls.KeptOutcome.{KeptOutcome}
use Rattle.rpc_machine.specs.declared.command.Granted.{Granted}
use Rattle.rpc_machine.specs.declared.command.Level.{Level}
use Rattle.rpc_machine.specs.declared.command.Level.TheVariants.{One}
use Rattle.rpc_machine.specs.declared.entries.Role.{Role}
use Rattle.rpc_machine.specs.declared.entries.Finishing.{Finishing}
use Rattle.rpc_machine.specs.declared.entries.Finishing.TheVariants as finishing
use Rattle.rpc_machine.specs.declared.entries.Returned.{Returned}
use Rattle.rpc_machine.specs.declared.entries.Question.{Question}
use Rattle.rpc_machine.specs.declared.entries.AnswerEntry.{AnswerEntry}
use Rattle.rpc_machine.specs.State.{State}
use Rattle.rpc_machine.specs.Progress.{Progress, with_state, send, export_id, export_ids, numbers}
use Rattle.rpc_machine.specs.Flags.{flag_at, flag_for, give_back}
use Rattle.rpc_machine.specs.Commands.{AsksBootstrap}
use Rattle.rpc_machine.specs.declared.entries.Role.TheVariants as role
use Rattle.rpc_machine.specs.declared.calls.OwnCall.TheVariants as own
use Rattle.rpc_machine.specs.Routing.{Asks}
use Rattle.rpc_machine.specs.Settling.{known, Fits, SaysBack, TellsPeer, Returns, Tells, returned_map, returned, ResolvesBy}
use Rattle.rpc_machine.specs.Sweeping.{IsNotSent, closed_map, got_of, finished_by, release_each, releases}
use Rattle.laws_steps.specs.Callers.{IsOpenFor, AnswersWith}
use Rattle.laws_acts.specs.Acts.{Act, Acts, NoMore, Then}
use Rattle.laws_acts.specs.Sent.{Ids, Noted, messages, note, call_of, asks_sent, root_sent, resolved_to, resolve_sent, end_sent, return_sent, peer_sent, told_sent, releases_sent, sent_by, all_sent}
use Rattle.laws_runs.specs.Questions as session
use Rattle.laws_runs.specs.Questions.{Asker, Answerer, Out, Ret, IsJust}
use Rattle.laws_runs.specs.Views.{asked_by, asker_of, answered_by, answerer_of, if_flag, only, out_of, ret_of, outs, rets, IsUseful, AreUseful, SendsAll, ReturnsAll, IsNotWaived, IsUsual, IsReady, Did}
use Rattle.laws_runs.proofs.Same.{SameTables, same_tables, then_tables, then_counts, describes_all, gives, says, fits, goes, collects, goes_sends, collects_sends, resolves, resolve_said, known_opens, known_same, tells_call}
use Rattle.laws_runs.proofs.Kept.{messages-append}
use Rattle.laws_runs.proofs.EachAct.{OfActs, by_act}

-- ---- One after the other

pub outs-append : (q : ℕ) (xs ys : List Noted) → outs q (xs ++ ys) ≡ outs q xs ++ outs q ys
outs-append q [] ys = refl
outs-append q (x ∷ xs) ys = ap (λ ms. out_of q x.message x.lets ++ ms) (outs-append q xs ys) ∙ sym (append_assoc (out_of q x.message x.lets) (outs q xs) (outs q ys))

pub rets-append : (q : ℕ) (xs ys : List Noted) → rets q (xs ++ ys) ≡ rets q xs ++ rets q ys
rets-append q [] ys = refl
rets-append q (x ∷ xs) ys = ap (λ ms. ret_of q x.message x.lets ++ ms) (rets-append q xs ys) ∙ sym (append_assoc (ret_of q x.message x.lets) (rets q xs) (rets q ys))

pub useful-append : (xs ys : List Noted) → AreUseful xs → AreUseful ys → AreUseful (xs ++ ys)
useful-append [] ys h k = k
useful-append (x ∷ xs) ys h k = (h.0, useful-append xs ys h.1 k)

sends_then : (v u w : Asker Ids Ids) (xs ys : List (Out Ids Ids)) → SendsAll v xs u → SendsAll u ys w → SendsAll v (xs ++ ys) w
sends_then v u w [] ys h k = subst (λ (z : Asker Ids Ids). SendsAll z ys w) (sym h) k
sends_then v u w (x ∷ xs) ys h k = (h.0, h.1, sends_then h.0 u w xs ys h.2 k)

returns_then : (v u w : Answerer Ids Ids) (xs ys : List (Ret Ids Ids)) → ReturnsAll v xs u → ReturnsAll u ys w → ReturnsAll v (xs ++ ys) w
returns_then v u w [] ys h k = subst (λ (z : Answerer Ids Ids). ReturnsAll z ys w) (sym h) k
returns_then v u w (x ∷ xs) ys h k = (h.0, h.1, returns_then h.0 u w xs ys h.2 k)

pub then : (d mid new : Progress) (xs ys : List Noted) → Did d xs mid → Did mid ys new → Did d (xs ++ ys) new
then d mid new xs ys h k = record {
  said = k.said ∙ ap (λ ms. ms ++ messages ys) h.said ∙ append_assoc d.effects.sends (messages xs) (messages ys) ∙ ap (λ ms. d.effects.sends ++ ms) (sym (messages-append xs ys));
  moves = record {
    useful = useful-append xs ys h.moves.useful k.moves.useful;
    ready = k.moves.ready;
    asks = λ q. subst (λ (ms : List (Out Ids Ids)). SendsAll (asker_of (map.get d.state.questions q)) ms (asker_of (map.get new.state.questions q))) (sym (outs-append q xs ys)) (sends_then _ _ _ (outs q xs) (outs q ys) (h.moves.asks q) (k.moves.asks q));
    returns = λ q. subst (λ (ms : List (Ret Ids Ids)). ReturnsAll (answerer_of (map.get d.state.answers q)) ms (answerer_of (map.get new.state.answers q))) (sym (rets-append q xs ys)) (returns_then _ _ _ (rets q xs) (rets q ys) (h.moves.returns q) (k.moves.returns q));
  };
}

-- ---- Acts that are of no session

pub ready_still : (s t : State) → SameTables s t → IsReady s → IsReady t
ready_still s t h i = record {
  level = h.level ∙ i.level;
  usual = λ q. subst (λ (m : Map Question). IsUsual (map.get m q)) (sym h.questions) (i.usual q);
  opens = λ o q k. subst (λ (m : Map AnswerEntry). AnswersWith o (map.get m q)) (sym h.answers) (i.opens o q (h.opens o q k));
}

pub quiet : (d new : Progress) → IsReady d.state → SameTables d.state new.state → new.effects.sends ≡ d.effects.sends → Did d [] new
quiet d new i h e = record {
  said = e ∙ sym (append-nil d.effects.sends);
  moves = record {
    useful = tt;
    ready = ready_still d.state new.state h i;
    asks = λ q. ap (λ (m : Map Question). asker_of (map.get m q)) (sym h.questions);
    returns = λ q. ap (λ (m : Map AnswerEntry). answerer_of (map.get m q)) (sym h.answers);
  };
}

-- One message is sent that no session speaks of.
pub other : (d new : Progress) (m : PlainMessage) → ((q : ℕ) → out_of q m [] ≡ []) → ((q : ℕ) → ret_of q m [] ≡ []) → IsUseful m → IsReady d.state → SameTables d.state new.state → new.effects.sends ≡ d.effects.sends ++ message.Plain m ∷ [] → Did d (note m [] ∷ []) new
other d new m a b c i h e = record {
  said = e;
  moves = record {
    useful = (c, tt);
    ready = ready_still d.state new.state h i;
    asks = λ q. subst (λ (ms : List (Out Ids Ids)). SendsAll (asker_of (map.get d.state.questions q)) (ms ++ []) (asker_of (map.get new.state.questions q))) (sym (a q)) (ap (λ (w : Map Question). asker_of (map.get w q)) (sym h.questions));
    returns = λ q. subst (λ (ms : List (Ret Ids Ids)). ReturnsAll (answerer_of (map.get d.state.answers q)) (ms ++ []) (answerer_of (map.get new.state.answers q))) (sym (b q)) (ap (λ (w : Map AnswerEntry). answerer_of (map.get w q)) (sym h.answers));
  };
}

-- ---- Asking

pub same_numbers : (es : List ℕ) → numbers (export_ids es) ≡ es
same_numbers [] = refl
same_numbers (e ∷ es) = ap (λ (xs : List ℕ). e ∷ xs) (same_numbers es)

abbrev pub fresh : Role → List ℕ → Question
fresh role ids = record { role = role; given = export_ids ids; returned = None; finish = finishing.Owed }

put_asker : (m : Map Question) (k : ℕ) (y : Question) (ids : Ids) → map.get m k ≡ None → asker_of (Some y) ≡ session.Asked ids → (q : ℕ) → SendsAll (asker_of (map.get m q)) (only (nat_eq q k) (session.Open ids) ++ []) (asker_of (map.get (map.insert m k y) q))
put_asker m k y ids free e q =
    subst (λ (o : Option Question). SendsAll (asker_of (map.get m q)) (only (nat_eq q k) (session.Open ids) ++ []) (asker_of o)) (sym (get_put m k y q)) (by (nat_eq q k) refl)
  where
    by : (b : Bool) → nat_eq q k ≡ b → SendsAll (asker_of (map.get m q)) (only b (session.Open ids) ++ []) (asker_of (cond b (Some y) (map.get m q)))
    by false f = refl
    by true f = subst (λ (v : Asker Ids Ids). SendsAll v (session.Open ids ∷ []) (asker_of (Some y))) (sym (ap (λ (j : ℕ). asker_of (map.get m j)) (equal q k f) ∙ ap asker_of free)) (session.Asked ids, session.Asks ids, sym e)

-- A question goes out under a free id, with one message. The tables are else the same.
asked : (d new : Progress) (k : ℕ) (y : Question) (ids : Ids) (m : PlainMessage) (u : State) → IsUsual (Some y) → map.get d.state.questions k ≡ None → asker_of (Some y) ≡ session.Asked ids → ((q : ℕ) → out_of q m [] ≡ only (nat_eq q k) (session.Open ids)) → ((q : ℕ) → ret_of q m [] ≡ []) → IsUseful m → IsReady d.state → SameTables d.state u → new.state ≡ record u { questions = map.insert u.questions k y } → new.effects.sends ≡ d.effects.sends ++ message.Plain m ∷ [] → Did d (note m [] ∷ []) new
asked d new k y ids m u w free e a b c i h t f = record {
  said = f;
  moves = record {
    useful = (c, tt);
    ready = subst IsReady (sym t) (let r = ready_still d.state u h i in record { level = r.level; usual = at_changed (λ o. IsUsual o) u.questions k (Some y) (map.insert u.questions k y) (get_put u.questions k y) w r.usual; opens = r.opens });
    asks = λ q.
        subst (λ (ms : List (Out Ids Ids)). SendsAll (asker_of (map.get d.state.questions q)) (ms ++ []) (asker_of (map.get new.state.questions q))) (sym (a q))
        (subst (λ (w : Map Question). SendsAll (asker_of (map.get d.state.questions q)) (only (nat_eq q k) (session.Open ids) ++ []) (asker_of (map.get w q))) (sym (ap (λ (s : State). s.questions) t ∙ ap (λ (w : Map Question). map.insert w k y) h.questions))
        (put_asker d.state.questions k y ids free e q));
    returns = λ q. subst (λ (ms : List (Ret Ids Ids)). ReturnsAll (answerer_of (map.get d.state.answers q)) (ms ++ []) (answerer_of (map.get new.state.answers q))) (sym (b q)) (ap (λ (w : Map AnswerEntry). answerer_of (map.get w q)) (sym (ap (λ (s : State). s.answers) t ∙ h.answers)));
  };
}

-- By a Call, from a state that has the same tables.
asks : (d e : Progress) (k : ℕ) (role : Role) (t : Target) (r : Request) (new : Progress) → IsReady d.state → SameTables d.state e.state → e.effects.sends ≡ d.effects.sends → (h : Asks e k role t r new) → Did d (asks_sent e new k role t r h) new
asks d e k role t r new i h f a =
    let g = a.1 in
    let ids = given g.0 in
    let m = call_of k t r g.0 in
    asked d new k (fresh role ids) ids m g.1 tt (ap (λ (m : Map Question). map.get m k) (sym h.questions) ∙ a.0) (ap session.Asked (same_numbers ids)) (λ q. refl) (λ q. refl) tt i
    (then_tables d.state e.state g.1 h (describes_all e.state r.caps g.0 g.1 g.2).tables)
    (ap (λ (p : Progress). p.state) g.3)
    (ap (λ (p : Progress). p.effects.sends) g.3 ∙ ap (λ (ms : List Message). ms ++ message.Plain m ∷ []) f)

asks_root : (d : Progress) (g : Granted) (new : Progress) → IsReady d.state → (h : AsksBootstrap d g new) → Did d (root_sent d new g h) new
asks_root d g new i h =
    let m = plain.Bootstrap (record { 0 = h.0 }) in
    let u : State = record (d.state) { calls = map.insert d.state.calls d.state.next_call (own.Direct (record { 0 = h.0 })); next_call = d.state.next_call + 1 } in
    asked d new h.0 (fresh (role.Direct (record { 0 = d.state.next_call })) []) [] m u tt h.1 refl (λ q. refl) (λ q. refl) tt i
    (record { questions = refl; answers = refl; level = refl; opens = λ o q k. k })
    (ap (λ (p : Progress). p.state) h.3)
    (ap (λ (p : Progress). p.effects.sends) h.3)

-- ---- Finishing

-- A flag is true only where something is let go.
pub no_flag : (s : State) → s.level ≡ One → flag_for s [] ≡ false
no_flag s e = subst (λ (l : Level). flag_at l s [] ≡ false) (sym e) refl

put_done : (m : Map Question) (k : ℕ) (o : Option Question) (v : Asker Ids Ids) (l : Option Ids) → session.Sends (asker_of (map.get m k)) (session.Fin l) (asker_of o) → (n : Map Question) → ((q : ℕ) → map.get n q ≡ cond (nat_eq q k) o (map.get m q)) → (q : ℕ) → SendsAll (asker_of (map.get m q)) (only (nat_eq q k) (session.Fin l) ++ []) (asker_of (map.get n q))
put_done m k o v l h n g q =
    subst (λ (z : Option Question). SendsAll (asker_of (map.get m q)) (only (nat_eq q k) (session.Fin l) ++ []) (asker_of z)) (sym (g q)) (by (nat_eq q k) refl)
  where
    by : (b : Bool) → nat_eq q k ≡ b → SendsAll (asker_of (map.get m q)) (only b (session.Fin l) ++ []) (asker_of (cond b o (map.get m q)))
    by false f = refl
    by true f = subst (λ (j : ℕ). SendsAll (asker_of (map.get m j)) (session.Fin l ∷ []) (asker_of o)) (sym (equal q k f)) (asker_of o, h, refl)

abbrev pub closed_one : Question → Option Returned → Option Question
closed_one x None = Some (record x { finish = finishing.Sent })
closed_one x (Some said) = None

pub closed_get : (m : Map Question) (k : ℕ) (x : Question) (o : Option Returned) (q : ℕ) → map.get (closed_map m k x o) q ≡ cond (nat_eq q k) (closed_one x o) (map.get m q)
closed_get m k x None q = get_put m k (record x { finish = finishing.Sent }) q
closed_get m k x (Some said) q = get_cut m k q

closed_usual : (x : Question) (o : Option Returned) → IsUsual (closed_one x o)
closed_usual x None = tt
closed_usual x (Some said) = tt

just : (b : Bool) (ids : Ids) → IsJust (if_flag b ids) ids
just true ids = refl
just false ids = tt

-- Of an entry whose Finish is owed.
finishes : (ids : Ids) (x : Question) (o : Option Returned) (b : Bool) → x.finish ≡ finishing.Owed → x.returned ≡ o → (o ≡ None → b ≡ false) → session.Sends (asked_by (numbers x.given) finishing.Owed o) (session.Fin (if_flag b (got_of o))) (asker_of (closed_one x o))
finishes ids x None b f e n =
    let gave = numbers x.given in
    subst (λ (r : Option Returned). session.Sends (session.Asked gave) (session.Fin (if_flag b [])) (asked_by gave finishing.Sent r)) (sym e)
    (subst (λ (c : Bool). session.Sends (session.Asked gave) (session.Fin (if_flag c [])) (session.Early gave)) (sym (n refl)) (session.GivesUp gave))
finishes ids x (Some said) b f e n = session.IsDone (got_of (Some said)) (if_flag b (got_of (Some said))) (just b (got_of (Some said)))

ends_owed : (d : Progress) (k : ℕ) (x : Question) → IsReady d.state → map.get d.state.questions k ≡ Some x → x.finish ≡ finishing.Owed → Did d (end_sent d k x finishing.Owed) (finished_by d k x finishing.Owed)
ends_owed d k x i there f = record {
  said = refl;
  moves = record {
    useful = (tt, tt);
    ready = let r = ready_still d.state s g i in record { level = r.level; usual = at_changed (λ o. IsUsual o) s.questions k (closed_one x x.returned) (closed_map s.questions k x x.returned) (closed_get s.questions k x x.returned) (closed_usual x x.returned) r.usual; opens = r.opens };
    asks = λ q. put_done d.state.questions k (closed_one x x.returned) session.Odd (if_flag b ids) here (closed_map s.questions k x x.returned) (λ j. ap (λ (m : Map Question). map.get (closed_map m k x x.returned) j) g.questions ∙ closed_get d.state.questions k x x.returned j) q;
    returns = λ q. ap (λ (m : Map AnswerEntry). answerer_of (map.get m q)) (sym g.answers);
  };
}
  where
    ids : Ids
    ids = got_of x.returned

    b : Bool
    b = flag_for d.state (got_of x.returned)

    s : State
    s = give_back d.state (got_of x.returned)

    g : SameTables d.state (give_back d.state (got_of x.returned))
    g = gives d.state (got_of x.returned)

    none : x.returned ≡ None → flag_for d.state (got_of x.returned) ≡ false
    none e = ap (λ (o : Option Returned). flag_for d.state (got_of o)) e ∙ no_flag d.state i.level

    here : session.Sends (asker_of (map.get d.state.questions k)) (session.Fin (if_flag (flag_for d.state (got_of x.returned)) (got_of x.returned))) (asker_of (closed_one x x.returned))
    here =
        subst (λ (v : Asker Ids Ids). session.Sends v (session.Fin (if_flag (flag_for d.state (got_of x.returned)) (got_of x.returned))) (asker_of (closed_one x x.returned)))
        (sym (ap asker_of there ∙ ap (λ (h : Finishing). asked_by (numbers x.given) h x.returned) f))
        (finishes [] x x.returned (flag_for d.state (got_of x.returned)) f refl none)

ends : (d new : Progress) (k : ℕ) (x : Question) → IsReady d.state → map.get d.state.questions k ≡ Some x → IsNotSent x.finish → new ≡ finished_by d k x x.finish → Did d (end_sent d k x x.finish) new
ends d new k x i there due h = subst (λ (p : Progress). Did d (end_sent d k x x.finish) p) (sym h) (by x.finish refl due (subst (λ (o : Option Question). IsUsual o) there (i.usual k)))
  where
    by : (f : Finishing) → x.finish ≡ f → IsNotSent f → IsNotWaived f → Did d (end_sent d k x f) (finished_by d k x f)
    by finishing.Owed e due u = ends_owed d k x i there e
    by finishing.Sent e due u = absurd due
    by finishing.Waived e due u = absurd u

-- ---- Returning

pub said_of : (s : State) (b : Bool) (v : Value) (said : ReturnBody) (ds : List Descriptor) (new : State) → SaysBack s b v said ds new → descriptors_of_body said ≡ ds
said_of s true v said ds new h = ap descriptors_of_body h.0 ∙ sym h.1
said_of s false (value.Exception x) said ds new h = ap descriptors_of_body h.0 ∙ sym h.1
said_of s false (value.Results payload caps) said ds new h = ap descriptors_of_body h.0

abbrev pub answered_one : AnswerEntry → Bool → Ids → Option AnswerEntry
answered_one a true ids = None
answered_one a false ids = Some (record a { returned = Some (export_ids ids) })

pub answered_get : (m : Map AnswerEntry) (k : ℕ) (a : AnswerEntry) (b : Bool) (ids : Ids) (q : ℕ) → map.get (returned_map m k a b ids) q ≡ cond (nat_eq q k) (answered_one a b ids) (map.get m q)
answered_get m k a true ids q = get_cut m k q
answered_get m k a false ids q = get_put m k (record a { returned = Some (export_ids ids) }) q

answers : (a : AnswerEntry) (b : Bool) (ids : Ids) (l : Option Ids) → IsJust l (numbers a.taken) → a.finished ≡ b → session.Returns (answered_by (numbers a.taken) None b) (session.Return ids l) (answerer_of (answered_one a b ids))
answers a true ids l j e = session.Cancels (numbers a.taken) ids l j
answers a false ids l j e =
    subst (λ (g : Bool). session.Returns (session.Working (numbers a.taken)) (session.Return ids l) (answered_by (numbers a.taken) (Some (export_ids ids)) g)) (sym e)
    (subst (λ (g : Ids). session.Returns (session.Working (numbers a.taken)) (session.Return ids l) (session.Answered g)) (sym (same_numbers ids)) (session.Answers (numbers a.taken) ids l j))

put_answer : (m : Map AnswerEntry) (k : ℕ) (o : Option AnswerEntry) (r : Ret Ids Ids) → session.Returns (answerer_of (map.get m k)) r (answerer_of o) → (n : Map AnswerEntry) → ((q : ℕ) → map.get n q ≡ cond (nat_eq q k) o (map.get m q)) → (q : ℕ) → ReturnsAll (answerer_of (map.get m q)) (only (nat_eq q k) r ++ []) (answerer_of (map.get n q))
put_answer m k o r h n g q =
    subst (λ (z : Option AnswerEntry). ReturnsAll (answerer_of (map.get m q)) (only (nat_eq q k) r ++ []) (answerer_of z)) (sym (g q)) (by (nat_eq q k) refl)
  where
    by : (b : Bool) → nat_eq q k ≡ b → ReturnsAll (answerer_of (map.get m q)) (only b r ++ []) (answerer_of (cond b o (map.get m q)))
    by false f = refl
    by true f = subst (λ (j : ℕ). ReturnsAll (answerer_of (map.get m j)) (r ∷ []) (answerer_of o)) (sym (equal q k f)) (answerer_of o, h, refl)

module _ (d new told : Progress) (o : ℕ) (x : KeptOutcome) (v fit : Value) (mid : State) (i : IsReady d.state) (there : map.get d.state.outcomes o ≡ Some x) (unknown : x.value ≡ None) (f : Fits d.state o x.caller x.waiting v fit mid) (e : new ≡ with_state told (known told.state o x.caller [] fit)) where
  abbrev before : Progress
  before = with_state d (known mid o x.caller x.waiting fit)

  to_before : SameTables d.state before.state
  to_before = (then_counts d.state mid before.state (fits d.state o x.caller x.waiting v fit mid f) (known_same mid o x.caller x.waiting fit)).ids.tables

  quietly : SameTables before.state told.state → told.effects.sends ≡ d.effects.sends → Did d [] new
  quietly h g =
      let t = known told.state o x.caller [] fit in
      subst (λ (p : Progress). Did d [] p) (sym e) (quiet d (with_state told t) i (then_tables d.state told.state t (then_tables d.state before.state told.state to_before h) (known_same told.state o x.caller [] fit).ids.tables) g)

  module _ (q : QuestionId) (a : AnswerEntry) (is : map.get d.state.answers q.0 ≡ Some a) (its : (a.outcome ≡ o) × (a.returned ≡ None)) (r : Returns before q a fit told) where
    abbrev ids : Ids
    ids = numbers a.taken

    abbrev said : ReturnBody
    said = r.0

    abbrev ds : List Descriptor
    ds = r.1

    abbrev then_on : Progress
    then_on = let g = r.4 in g.0

    abbrev given_on : State
    given_on = give_back then_on.state ids

    abbrev flag : Bool
    flag = flag_for then_on.state ids

    to_given : SameTables d.state given_on
    to_given =
        let g = r.4 in
        let one = then_tables d.state before.state r.2 to_before (says before.state a.finished fit r.0 r.1 r.2 r.3).tables in
        let two = then_tables d.state r.2 then_on.state one (collects then_on (with_state before r.2) g.1) in
        then_tables d.state then_on.state given_on two (gives then_on.state ids)

    abbrev last : State
    last = known (returned given_on q.0 a (given ds)) o x.caller [] fit

    abbrev return_of : PlainMessage
    return_of = plain.Return (record { answer = q; release_param_caps = flag; body = said })

    told_is : told ≡ send (with_state then_on (returned given_on q.0 a (given ds))) return_of
    told_is = let g = r.4 in g.2

    new_is : new ≡ with_state (send then_on return_of) last
    new_is = e ∙ ap (λ (p : Progress). with_state p (known p.state o x.caller [] fit)) told_is

    sends_is : then_on.effects.sends ≡ d.effects.sends
    sends_is = let g = r.4 in ap (λ y. y.sends) (collects_sends then_on (with_state before r.2) g.1)

    answers_get : (k : ℕ) → map.get (returned_map given_on.answers q.0 a a.finished (given ds)) k ≡ cond (nat_eq k q.0) (answered_one a a.finished (given ds)) (map.get d.state.answers k)
    answers_get k = ap (λ (m : Map AnswerEntry). map.get (returned_map m q.0 a a.finished (given ds)) k) to_given.answers ∙ answered_get d.state.answers q.0 a a.finished (given ds) k

    returns_one : session.Returns (answerer_of (map.get d.state.answers q.0)) (session.Return (given (descriptors_of_body said)) (if_flag flag ids)) (answerer_of (answered_one a a.finished (given ds)))
    returns_one =
        subst (λ (y : Answerer Ids Ids). session.Returns y (session.Return (given (descriptors_of_body said)) (if_flag flag ids)) (answerer_of (answered_one a a.finished (given ds)))) (sym (ap answerer_of is ∙ ap (λ (y : Option (List ExportId)). answered_by ids y a.finished) its.1))
        (subst (λ (y : List Descriptor). session.Returns (answered_by ids None a.finished) (session.Return (given y) (if_flag flag ids)) (answerer_of (answered_one a a.finished (given ds)))) (sym (said_of before.state a.finished fit r.0 r.1 r.2 r.3))
        (answers a a.finished (given ds) (if_flag flag ids) (just flag ids) refl))

    opens_on : (k p : ℕ) → IsOpenFor p (map.get last.outcomes k) → AnswersWith k (map.get last.answers p)
    opens_on k p h =
        let g = known_opens (returned given_on q.0 a (given ds)) o x.caller [] fit k p h in
        subst (λ (y : Option AnswerEntry). AnswersWith k y) (sym (answers_get p)) (by g.0 (i.opens k p (to_given.opens k p g.1)) (nat_eq p q.0) refl)
      where
        by : nat_eq k o ≡ false → AnswersWith k (map.get d.state.answers p) → (b : Bool) → nat_eq p q.0 ≡ b → AnswersWith k (cond b (answered_one a a.finished (given ds)) (map.get d.state.answers p))
        by apart h false f = h
        by apart h true f =
            let g = subst (λ (y : Option AnswerEntry). AnswersWith k y) (ap (λ (j : ℕ). map.get d.state.answers j) (equal p q.0 f) ∙ is) h in
            let z : k ≡ o = sym g.0 ∙ its.0 in
            absurd (let t : nat_eq k o ≡ true = ap (λ (j : ℕ). nat_eq j o) z ∙ itself o in cc)

    by_return : Did d (return_sent before told q a fit r) new
    by_return = subst (λ (p : Progress). Did d (return_sent before told q a fit r) p) (sym new_is) (record {
      said = ap (λ ms. ms ++ message.Plain return_of ∷ []) sends_is;
      moves = record {
        useful = (tt, tt);
        ready = let g = ready_still d.state given_on to_given i in record { level = g.level; usual = g.usual; opens = opens_on };
        asks = λ k. ap (λ (m : Map Question). asker_of (map.get m k)) (sym to_given.questions);
        returns = put_answer d.state.answers q.0 (answered_one a a.finished (given ds)) (session.Return (given (descriptors_of_body said)) (if_flag flag ids)) returns_one (returned_map given_on.answers q.0 a a.finished (given ds)) answers_get;
      };
    })

  peers : (q : QuestionId) (y : Option AnswerEntry) → x.caller ≡ caller.Peer q → map.get d.state.answers q.0 ≡ y → (h : TellsPeer before q fit y told) → Did d (peer_sent before told q fit y h) new
  peers q None c g h = absurd h
  peers q (Some a) c g h = by_return q a g (subst (λ (y : Option AnswerEntry). AnswersWith o y) g (i.opens o q.0 (subst (λ (y : Option KeptOutcome). IsOpenFor q.0 y) (sym there) (unknown, c)))) h

  settles : (who : Caller) → x.caller ≡ who → (h : Tells before who fit told) → Did d (told_sent before told who fit h) new
  settles (caller.Application c) w h = let g = tells_call before c.0 fit (map.get before.state.calls c.0) told h in quietly g.0.ids.tables g.2
  settles (caller.Peer q) w h = peers q (map.get before.state.answers q.0) w (ap (λ (m : Map AnswerEntry). map.get m q.0) (sym to_before.answers)) h

-- ---- All acts

releases_each : (d : Progress) (xs : List (ℕ × ℕ)) → IsReady d.state → Did d (releases_sent xs) (release_each d xs)
releases_each d [] i = quiet d d i (same_tables d.state) refl
releases_each d (x ∷ xs) i =
    let m = plain.Release (record { export = export_id x.0; count = x.1 }) in
    then d (send d m) (release_each d (x ∷ xs)) (note m [] ∷ []) (releases_sent xs) (other d (send d m) m (λ q. refl) (λ q. refl) tt i (same_tables d.state) refl) (releases_each (send d m) xs i)

released : (d new : Progress) → new ≡ releases d → IsReady d.state → Did d (releases_sent (map.entries d.released)) new
released d new h i = subst (λ (p : Progress). Did d (releases_sent (map.entries d.released)) p) (sym h) (let g = releases_each d (map.entries d.released) i in record { said = g.said; moves = g.moves })

resolves_one : (d : Progress) (e : ℕ) (x : Option Exception) (n : Node) (new : Progress) → IsReady d.state → (h : ResolvesBy d e x n new) → Did d (resolve_sent d new e x n h) new
resolves_one d e x n new i h = other d new (plain.Resolve (record { promise = export_id e; to = resolved_to d new e x n h })) (λ q. refl) (λ q. refl) tt i (resolves d e x n new h).tables (resolve_said d e x n new h).0

of_acts : OfActs (λ d new sent. IsReady d.state → Did d sent new)
of_acts = record {
  quiet = λ d new h r e i. quiet d new i h.ids.tables e;
  asks = λ d e new k role t r h p f a i. asks d e k role t r new i h.ids.tables f a;
  asks_root = λ d new g h i. asks_root d g new i h;
  turns = λ d new x h p f i. other d new (plain.Disembargo x) (λ q. refl) (λ q. refl) tt i h.ids.tables f;
  settles = λ d new told o x v fit mid there unknown f t e i. settles d new told o x v fit mid i there unknown f e x.caller refl t;
  resolves = λ d new e x n h i. resolves_one d e x n new i h;
  goes = λ d new h i. quiet d new i (goes d new h) (ap (λ y. y.sends) (goes_sends d new h));
  ends = λ d new q x there due h i. ends d new q x i there due h;
  releases = λ d new h i. released d new h i;
}

pub act : (d new : Progress) → IsReady d.state → (a : Act d new) → Did d (sent_by a) new
act d new i a = by_act of_acts d new a i

pub acts : (end d : Progress) → IsReady d.state → (list : Acts end d) → Did d (all_sent list) end
acts end d i NoMore = quiet d d i (same_tables d.state) refl
acts end d i (Then {mid = mid} a rest) = let h = act d mid i a in then d mid end (sent_by a) (all_sent rest) h (acts end mid h.moves.ready rest)
