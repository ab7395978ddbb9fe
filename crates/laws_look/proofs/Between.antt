-- What holds between two vats and a point on their links, whose books keep what passed: the point stands between the sessions as
-- another vat would. To each vat it is what its messages said so far, and to the other what will be said to that.
use Rattle.std.proofs.Common.{◌≡◌, ◌≤◌, ◌⊎◌, inl, inr, ℕ, suc, ◌+◌, nat_eq, Bool, true, false, cond, List, [], ◌∷◌, ◌++◌, Option, None, Some, refl, sym, ap, subst, ◌∙◌, append-nil, append_assoc, arith}
use Rattle.std.specs.FinMap as map
use Rattle.rpc_msg.specs.declared.parts.Descriptor.{Descriptor}
use Rattle.rpc_msg.specs.declared.parts.Descriptor.TheVariants as descriptor
use Rattle.rpc_msg.specs.declared.parts.Target.{Target}
use Rattle.rpc_msg.specs.declared.parts.Target.TheVariants.{ImportedCap, PromisedAnswer}
use Rattle.rpc_msg.specs.declared.message.PlainMessage.{PlainMessage}
use Rattle.rpc_msg.specs.declared.message.PlainMessage.TheVariants as plain
use Rattle.rpc_msg.specs.declared.message.Message.TheVariants as message
use Rattle.rpc_msg.specs.Messages.{given, descriptors_of_plain, descriptors_of_body}
use Rattle.rpc_msg.specs.declared.ids.ExportId.{ExportId}
use Rattle.finite_maps.proofs.Tested.{itself}
use Rattle.rpc_machine.specs.declared.command.Effects.{Effects}
use Rattle.rpc_machine.specs.declared.entries.Finishing.{Finishing}
use Rattle.rpc_machine.specs.declared.entries.Finishing.TheVariants as finishing
use Rattle.rpc_machine.specs.declared.entries.Returned.{Returned}
use Rattle.rpc_machine.specs.declared.entries.Question.{Question}
use Rattle.rpc_machine.specs.declared.entries.AnswerEntry.{AnswerEntry}
use Rattle.rpc_machine.specs.State.{State}
use Rattle.rpc_machine.specs.Lists.{how_many}
use Rattle.rpc_machine.specs.Progress.{numbers}
use Rattle.rpc_machine.specs.Faults.{gave}
use Rattle.rpc_machine.specs.Laws.{given_out}
use Rattle.rpc_machine.specs.Descriptors.{giving}
use Rattle.rpc_machine.specs.UnderWay.{call_gave, return_gave, if_true, plain_takes}
use Rattle.look_books.specs.Ends.{Kept}
use Rattle.look_books.specs.After.{Ends, held_of}
use Rattle.laws_acts.specs.Sent.{Ids, Noted, messages}
use Rattle.laws_nodes.specs.Ones.{one_if}
use Rattle.laws_nodes.specs.Embargoes.{here, out, back, goes_out, comes_back}
use Rattle.laws_runs.specs.Exports as export
use Rattle.laws_runs.specs.Exports.{Back, Leaves}
use Rattle.laws_runs.specs.Questions as session
use Rattle.laws_runs.specs.Questions.{Asker, Answerer, Out, Ret, Row, Returns}
use Rattle.laws_runs.specs.Names as mark
use Rattle.laws_runs.specs.Names.{Mark, Met}
use Rattle.laws_runs.specs.Views.{only, if_flag, asked_by, asker_of, answered_by, answerer_of, out_of, ret_of, outs, rets, SendsAll, ReturnsAll, AreUseful}
use Rattle.laws_runs.specs.Imports.{count, lets_of, letting}
use Rattle.laws_runs.proofs.Acted.{outs-append, rets-append, useful-append}
use Rattle.laws_runs.proofs.Agreeing.{given_behind}
use Rattle.laws_runs.proofs.ExportsHold.{more}
use Rattle.laws_runs.proofs.Kept.{messages-append}
use Rattle.laws_runs.proofs.Paid.{letting-append}
use Rattle.rpc_machine.proofs.ExportCounts.{how_many-append}
use Rattle.laws_messages.specs.Views.{named_in, target_in, targets_in, backs_for, gives_in, resolves_in, outs_for}
use Rattle.laws_messages.specs.ExportViews.{exporter_of}
use Rattle.laws_messages.proofs.Grown.{outs-append as tellings-append}
use Rattle.laws_messages.specs.Named.{targets_marks, each_marks, marks}
use Rattle.laws_messages.proofs.Answering.{AreHeld, leaves_then, backs-append}
use Rattle.laws_messages.proofs.Asking.{marks-append}
use Rattle.laws_messages.proofs.Finding.{rest_stands}
use Rattle.laws_look.proofs.Looks.{asker, answerer}
use Rattle.laws_look.proofs.Found.{OutFound, RetFound, OutsFound, RetsFound, outs_found, rets_found}
use Rattle.laws_look.proofs.Counts.{cap, held}
use Rattle.laws_look.proofs.Passing.{Fine, Passes, first_out, first_ret}
use Rattle.laws_look.proofs.Judged.{Named}
use Rattle.laws_look.proofs.Owed.{MayCome, owe_one, owe_all, AllCome, owe-append, come_then, come_behind}
use Rattle.look_books.specs.declared.question.Question.{Question as Entry}
use Rattle.look_books.specs.After.{leads}
use Rattle.laws_look.proofs.Passing.{said_of}
use Rattle.laws_look.proofs.Told.{Told, told_of, IsTold, Waited, resolved_of, Says}
use Rattle.laws_look.proofs.Leading.{AllTold, AllLed, AllTurn, Block, was_told, told_row, told_no_return, asked_row, asked_works, none_told, told_then, tells_return, tell_asked, working_asked, waiting_leads, led_then, led_more, turn_more, turn_then, block_rest, block_waiting, block_quiet, no_import, sent_turns, sent_answers}
use Rattle.laws_look.proofs.OneVat.{Alone, Resolvable, Commanded, Received}
use Rattle.laws_look.proofs.Sessions.{sends_all, returns_all, tell_all, hear_all, outs_marks, joined, returned, strip, ahead, rest_met, targets_only, each_only}

-- A vat; what is on its way to it, behind the point and before it; and what the books keep of it.
pub record End : Type 0 where
  pub core : State
  pub near : List Noted
  pub far : List Noted
  pub kept : Kept

-- The questions of s: between it and the point, and between the point and t. What it names is there at the point.
pub record Asks (s t : End) : Type 0 where
  pub near : (q : ℕ) → Row (asker_of (map.get s.core.questions q)) (outs q t.far) (answerer (s.kept.questions q)) (rets q s.near)
  pub far : (q : ℕ) → Row (asker (s.kept.questions q)) (outs q t.near) (answerer_of (map.get t.core.answers q)) (rets q s.far)
  pub met : (q : ℕ) → Met (answerer (s.kept.questions q)) (marks q t.far)

-- The exports of s. No count passes the limit.
pub record Gives (s t : End) : Type 0 where
  pub near : (e : ℕ) → given_out e s.core ≡ held e (held_of s.kept) + (giving e (messages t.far) + letting e s.near)
  pub far : (e : ℕ) → Leaves (held e (held_of s.kept)) (backs_for e s.far) (count e t.core + giving e (messages t.near))
  pub few : (e : ℕ) → given_out e s.core ≤ cap

-- The embargoes of s.
pub record Turns (s t : End) : Type 0 where
  pub near : (e : ℕ) → here (map.get s.core.embargoes e) ≡ out e (messages t.far) + (here (s.kept.embargoes e) + back e (messages s.near))
  pub far : (e : ℕ) → here (s.kept.embargoes e) ≡ out e (messages t.near) + back e (messages s.far)

-- The promises of s: each Resolve on its way to the point may come, and one that is open may be resolved.
abbrev pub Promises : End → End → Type 0
Promises s t = (e : ℕ) → AllCome (s.kept.owed e) (outs_for e t.far) × MayCome (owe_all (s.kept.owed e) (outs_for e t.far)) (exporter_of s.core (map.get s.core.exports e))

-- What s was told of its questions and imports, and will be told, passed the point; and what it turns leads by that.
pub record Leading (s t : End) : Type 0 where
  pub told : (q : ℕ) (z : Told) → told_of (map.get s.core.questions q) ≡ Some z → said_of (s.kept.questions q) ≡ Some z
  pub told_soon : (q : ℕ) (ids : Ids) → asker_of (map.get s.core.questions q) ≡ session.Asked ids → AllTold q (s.kept.questions q) s.near
  pub led : (e : ℕ) (z : Descriptor) → resolved_of (map.get s.core.imports e) ≡ Some z → leads z ≡ true → t.kept.led e ≡ true
  pub led_soon : AllLed t.kept s.near
  pub turns : AllTurn t.kept t.far
  pub answers : (q : ℕ) → Block q (s.kept.questions q) t.far

pub record One (s t : End) : Type 0 where
  pub alone : Alone s.core
  pub useful_near : AreUseful s.near
  pub useful_far : AreUseful s.far
  pub asks : Asks s t
  pub gives : Gives s t
  pub turns : Turns s t
  pub promises : Promises s t
  pub leading : Leading s t

pub record Both (s t : End) : Type 0 where
  pub here : One s t
  pub there : One t s

pub turned : (s t : End) → Both s t → Both t s
turned s t k = record { here = k.there; there = k.here }

-- ---- Words

as_marks : (v : Asker Ids Ids) (q : ℕ) (to : List Noted) (u : Answerer Ids Ids) (back : List (Ret Ids Ids)) → Row v (outs q to) u back → Row v (mark.outs (marks q to)) u back
as_marks v q to u back r = subst (λ (os : List (Out Ids Ids)). Row v os u back) (sym (outs_marks q to)) r

out_behind : (e : ℕ) (xs ys : List Noted) → out e (messages (xs ++ ys)) ≡ out e (messages xs) + out e (messages ys)
out_behind e xs ys = ap (out e) (messages-append xs ys) ∙ how_many-append (goes_out e) (messages xs) (messages ys)

back_behind : (e : ℕ) (xs ys : List Noted) → back e (messages (xs ++ ys)) ≡ back e (messages xs) + back e (messages ys)
back_behind e xs ys = ap (back e) (messages-append xs ys) ∙ how_many-append (comes_back e) (messages xs) (messages ys)

-- the first, and the rest
out_first : (e : ℕ) (n : Noted) (ns : List Noted) → out e (messages (n ∷ ns)) ≡ one_if (goes_out e (message.Plain n.message)) + out e (messages ns)
out_first e n ns = by (goes_out e (message.Plain n.message))
  where
    by : (b : Bool) → cond b (suc (out e (messages ns))) (out e (messages ns)) ≡ one_if b + out e (messages ns)
    by true = omega arith
    by false = omega arith

back_first : (e : ℕ) (n : Noted) (ns : List Noted) → back e (messages (n ∷ ns)) ≡ one_if (comes_back e (message.Plain n.message)) + back e (messages ns)
back_first e n ns = by (comes_back e (message.Plain n.message))
  where
    by : (b : Bool) → cond b (suc (back e (messages ns))) (back e (messages ns)) ≡ one_if b + back e (messages ns)
    by true = omega arith
    by false = omega arith

lets_more : (t : ℕ) (to sent : List Noted) (e had k now : ℕ) → Leaves t (backs_for e to) (had + k) → Leaves had (backs_for e sent) now → Leaves t (backs_for e (to ++ sent)) (now + k)
lets_more t to sent e had k now h g =
    subst (λ (bs : List Back). Leaves t bs (now + k)) (sym (backs-append e to sent))
    (leaves_then t (had + k) (now + k) (backs_for e to) (backs_for e sent) h (more had k (backs_for e sent) now g))

-- Behind what is on the way.
comes_too : (s t new : End) (sent : List Noted) → Promises s t → Resolvable s.core sent new.core → (e : ℕ) → AllCome (s.kept.owed e) (outs_for e (t.far ++ sent)) × MayCome (owe_all (s.kept.owed e) (outs_for e (t.far ++ sent))) (exporter_of new.core (map.get new.core.exports e))
comes_too s t new sent p r e =
    let b = s.kept.owed e in
    let xs = outs_for e t.far in
    let ys = outs_for e sent in
    let h = p e in
    let g = r e (owe_all b xs) h.1 in
    subst (λ (l : List export.Out). AllCome b l × MayCome (owe_all b l) (exporter_of new.core (map.get new.core.exports e))) (sym (tellings-append e t.far sent))
    (come_then b xs ys h.0 g.0, subst (λ (c : Bool). MayCome c (exporter_of new.core (map.get new.core.exports e))) (sym (owe-append b xs ys)) g.1)

right_none : {A : Type 0} (xs ys : List A) → xs ++ ys ≡ [] → ys ≡ []
right_none [] ys e = e
right_none (x ∷ xs) ys e = absurd (let bad : x ∷ (xs ++ ys) ≡ [] = e in cc)

left_none : {A : Type 0} (xs ys : List A) → xs ++ ys ≡ [] → xs ≡ []
left_none [] ys e = refl
left_none (x ∷ xs) ys e = absurd (let bad : x ∷ (xs ++ ys) ≡ [] = e in cc)

-- A question that waits now waited before, if nothing of it was sent; else nothing of it is on the way back.
still_waits : (q : ℕ) (o : Option Entry) (mid new : State) (far sent near : List Noted) (u : Answerer Ids Ids) (ids : Ids) → Row (asker_of (map.get new.questions q)) (outs q (far ++ sent)) u (rets q near) → SendsAll (asker_of (map.get mid.questions q)) (outs q sent) (asker_of (map.get new.questions q)) → asker_of (map.get new.questions q) ≡ session.Asked ids
    → (asker_of (map.get mid.questions q) ≡ session.Asked ids → AllTold q o near) → AllTold q o near
still_waits q o mid new far sent near u ids r moves e f = by (asked_row ids (outs q (far ++ sent)) u (rets q near) (subst (λ (v : Asker Ids Ids). Row v (outs q (far ++ sent)) u (rets q near)) e r))
  where
    by : (outs q (far ++ sent) ≡ []) ⊎ (rets q near ≡ []) → AllTold q o near
    by (inl g) =
        let none = right_none (outs q far) (outs q sent) (sym (outs-append q far sent) ∙ g) in
        f (subst (λ (ms : List (Out Ids Ids)). SendsAll (asker_of (map.get mid.questions q)) ms (asker_of (map.get new.questions q))) none moves ∙ e)
    by (inr g) = none_told q o near g

-- ---- A command

module _ (s t : End) (x : Effects) (new : State) (k : Both s t) (c : Commanded s.core x new) (few : (e : ℕ) → given_out e new ≤ cap) where
  abbrev pub s_commanded : End
  s_commanded = record s { core = new }

  abbrev pub t_commanded : End
  t_commanded = record t { far = t.far ++ c.sent }

  near_commanded : (q : ℕ) → Row (asker_of (map.get new.questions q)) (outs q (t.far ++ c.sent)) (answerer (s.kept.questions q)) (rets q s.near)
  near_commanded q =
      subst (λ (o : List (Out Ids Ids)). Row (asker_of (map.get new.questions q)) o (answerer (s.kept.questions q)) (rets q s.near)) (sym (outs-append q t.far c.sent))
      (sends_all (asker_of (map.get s.core.questions q)) (asker_of (map.get new.questions q)) (outs q c.sent) (outs q t.far) (answerer (s.kept.questions q)) (rets q s.near) (k.here.asks.near q) (c.moved.asks q))

  leading_commanded : Leading s_commanded t_commanded
  leading_commanded =
      let l = k.here.leading in record {
        told = λ q z h. l.told q z (c.told q z h);
        told_soon = λ q ids h. still_waits q (s.kept.questions q) s.core new t.far c.sent s.near (answerer (s.kept.questions q)) ids (near_commanded q) (c.moved.asks q) h (λ f. l.told_soon q ids f);
        led = λ e z h i. l.led e z (c.led e z h) i;
        led_soon = l.led_soon;
        turns = turn_then t.kept t.far c.sent l.turns (sent_turns s.core t.kept c.sent l.led c.turned);
        answers = λ q.
            sent_answers s.core q (s.kept.questions q) t.far c.sent (l.answers q)
            (λ z h. (l.told q z h, told_row (asker_of (map.get s.core.questions q)) (outs q t.far) (answerer (s.kept.questions q)) (rets q s.near) (k.here.asks.near q) (was_told (map.get s.core.questions q) z h)))
            c.turned;
      }

  still_leading : Leading t_commanded s_commanded
  still_leading = let l = k.there.leading in record { told = l.told; told_soon = l.told_soon; led = l.led; led_soon = l.led_soon; turns = l.turns; answers = l.answers }

  pub commanded : Both s_commanded t_commanded
  commanded = record {
    here = record {
      alone = c.moved.alone;
      useful_near = k.here.useful_near;
      useful_far = k.here.useful_far;
      asks = record {
        near = near_commanded;
        far = k.here.asks.far;
        met = λ q.
            subst (λ (ms : List (Mark Ids Ids)). Met (answerer (s.kept.questions q)) ms) (sym (marks-append q t.far c.sent))
            (joined (answerer (s.kept.questions q)) (rets q s.near) (asker_of (map.get s.core.questions q)) (asker_of (map.get new.questions q)) (marks q t.far) (marks q c.sent) (as_marks _ q t.far _ (rets q s.near) (k.here.asks.near q)) (k.here.asks.met q) (c.moved.names q));
      };
      gives = record {
        near = λ e. let a = c.gives e in let b = k.here.gives.near e in let d = given_behind e t.far c.sent in omega (arith, a, b, d);
        far = k.here.gives.far;
        few = few;
      };
      turns = record {
        near = λ e. let a = c.begins e in let b = k.here.turns.near e in let d = out_behind e t.far c.sent in omega (arith, a, b, d);
        far = k.here.turns.far;
      };
      promises = comes_too s t s_commanded c.sent k.here.promises c.owes;
      leading = leading_commanded;
    };
    there = record {
      alone = k.there.alone;
      useful_near = k.there.useful_near;
      useful_far = useful-append t.far c.sent k.there.useful_far c.moved.useful;
      asks = record {
        near = k.there.asks.near;
        far = λ q.
            subst (λ (o : List (Ret Ids Ids)). Row (asker (t.kept.questions q)) (outs q s.near) (answerer_of (map.get new.answers q)) o) (sym (rets-append q t.far c.sent))
            (returns_all (asker (t.kept.questions q)) (outs q s.near) (answerer_of (map.get s.core.answers q)) (answerer_of (map.get new.answers q)) (rets q c.sent) (rets q t.far) (k.there.asks.far q) (c.moved.returns q));
        met = k.there.asks.met;
      };
      gives = record {
        near = k.there.gives.near;
        far = λ e. lets_more (held e (held_of t.kept)) t.far c.sent e (count e s.core) (giving e (messages s.near)) (count e new) (k.there.gives.far e) (c.moved.backs e);
        few = k.there.gives.few;
      };
      turns = record {
        near = k.there.turns.near;
        far = λ e. let a = c.turns e in let b = k.there.turns.far e in let d = back_behind e t.far c.sent in omega (arith, a, b, d);
      };
      promises = k.there.promises;
      leading = still_leading;
    };
  }

-- ---- What a flag lets go is what its receiver reads

read_ret : (o : Option Question) (b : Bool) (y l : Ids) → RetFound (asker_of o) (session.Return y (if_flag b l)) → if_true b (call_gave o) ≡ if_true b l
read_ret None b y l h = absurd h
read_ret (Some x) b y l h = by x.finish x.returned b h
  where
    by : (f : Finishing) (r : Option Returned) (b : Bool) → RetFound (asked_by (numbers x.given) f r) (session.Return y (if_flag b l)) → if_true b (numbers x.given) ≡ if_true b l
    by f r false h = refl
    by finishing.Owed None true h = sym h
    by finishing.Owed (Some z) true h = absurd h
    by finishing.Sent None true h = sym h
    by finishing.Sent (Some z) true h = absurd h
    by finishing.Waived r true h = absurd h

read_out : (o : Option AnswerEntry) (b : Bool) (l : Ids) → OutFound (answerer_of o) (session.Fin (if_flag b l)) → if_true b (return_gave o) ≡ if_true b l
read_out None b l h = absurd h
read_out (Some a) b l h = by a.returned a.finished b h
  where
    by : (r : Option (List ExportId)) (f b : Bool) → OutFound (answered_by (numbers a.taken) r f) (session.Fin (if_flag b l)) → if_true b (gave r) ≡ if_true b l
    by r f false h = refl
    by None false true h = absurd (let bad : Some l ≡ None = h in cc)
    by None true true h = absurd h
    by (Some ids) false true h = sym h
    by (Some ids) true true h = absurd h

takes_so : (s : State) (e : ℕ) (m : PlainMessage) (l : Ids) → ((q : ℕ) → RetsFound (asker_of (map.get s.questions q)) (ret_of q m l)) → ((q : ℕ) → OutsFound (answerer_of (map.get s.answers q)) (out_of q m l)) → plain_takes s e m ≡ lets_of e m l
takes_so s e (plain.Abort x) l r o = refl
takes_so s e (plain.Bootstrap q) l r o = refl
takes_so s e (plain.Call c) l r o = refl
takes_so s e (plain.Return x) l r o =
    let q = x.answer.0 in
    let y = given (descriptors_of_body x.body) in
    ap (how_many (nat_eq e)) (read_ret (map.get s.questions q) x.release_param_caps y l (first_ret _ (nat_eq q q) (session.Return y (if_flag x.release_param_caps l)) (itself q) (r q)))
takes_so s e (plain.Finish f) l r o =
    let q = f.question.0 in
    ap (how_many (nat_eq e)) (read_out (map.get s.answers q) f.release_result_caps l (first_out _ (nat_eq q q) (session.Fin (if_flag f.release_result_caps l)) (itself q) (o q)))
takes_so s e (plain.Resolve x) l r o = refl
takes_so s e (plain.Release x) l r o = refl
takes_so s e (plain.Disembargo x) l r o = refl
takes_so s e (plain.Other n) l r o = refl

-- ---- A message is received

module _ (s t : End) (n : Noted) (rest : List Noted) (x : Effects) (new : State) (k : Both (record s { near = n ∷ rest }) t) (c : Received s.core n.message x new) (few : (e : ℕ) → given_out e new ≤ cap) where
  abbrev pub s_received : End
  s_received = record s { core = new; near = rest }

  abbrev pub t_received : End
  t_received = record t { far = t.far ++ c.sent }

  asker_mid : (q : ℕ) → Asker Ids Ids
  asker_mid q = asker_of (map.get c.mid.questions q)

  -- of the questions of s, once it took the message
  near_mid : (q : ℕ) → Row (asker_of (map.get c.mid.questions q)) (outs q t.far) (answerer (s.kept.questions q)) (rets q rest)
  near_mid q =
      subst (λ (v : Asker Ids Ids). Row v (outs q t.far) (answerer (s.kept.questions q)) (rets q rest)) (sym (c.gets.tells q n.lets))
      (tell_all (asker_of (map.get s.core.questions q)) (outs q t.far) (answerer (s.kept.questions q)) (ret_of q n.message n.lets) (rets q rest) (k.here.asks.near q))

  far_mid : (q : ℕ) → Row (asker (t.kept.questions q)) (outs q rest) (answerer_of (map.get c.mid.answers q)) (rets q t.far)
  far_mid q =
      subst (λ (u : Answerer Ids Ids). Row (asker (t.kept.questions q)) (outs q rest) u (rets q t.far)) (sym (c.gets.hears q n.lets))
      (hear_all (asker (t.kept.questions q)) (out_of q n.message n.lets) (outs q rest) (answerer_of (map.get s.core.answers q)) (rets q t.far) (k.there.asks.far q))

  takes : (e : ℕ) → plain_takes s.core e n.message ≡ lets_of e n.message n.lets
  takes e = takes_so s.core e n.message n.lets
      (λ q. rets_found (asker_of (map.get s.core.questions q)) (outs q t.far) (answerer (s.kept.questions q)) (ret_of q n.message n.lets) (rets q rest) (k.here.asks.near q))
      (λ q. outs_found (asker (t.kept.questions q)) (out_of q n.message n.lets) (outs q rest) (answerer_of (map.get s.core.answers q)) (rets q t.far) (k.there.asks.far q))

  had_so : (e : ℕ) → Leaves (held e (held_of t.kept)) (backs_for e t.far) ((count e s.core + how_many (nat_eq e) (given (descriptors_of_plain n.message))) + giving e (messages rest))
  had_so e = subst (λ (m : ℕ). Leaves (held e (held_of t.kept)) (backs_for e t.far) m) (omega arith) (k.there.gives.far e)

  near_received : (q : ℕ) → Row (asker_of (map.get new.questions q)) (outs q (t.far ++ c.sent)) (answerer (s.kept.questions q)) (rets q rest)
  near_received q =
      subst (λ (o : List (Out Ids Ids)). Row (asker_of (map.get new.questions q)) o (answerer (s.kept.questions q)) (rets q rest)) (sym (outs-append q t.far c.sent))
      (sends_all (asker_of (map.get c.mid.questions q)) (asker_of (map.get new.questions q)) (outs q c.sent) (outs q t.far) (answerer (s.kept.questions q)) (rets q rest) (near_mid q) (c.moved.asks q))

  leading_received : Leading s_received t_received
  leading_received =
      let l = k.here.leading in record {
        told = λ q z h. told_now q z (c.told q z h);
        told_soon = λ q ids h.
            still_waits q (s.kept.questions q) c.mid new t.far c.sent rest (answerer (s.kept.questions q)) ids (near_received q) (c.moved.asks q) h
            (λ f. (l.told_soon q ids (tell_asked ids (asker_of (map.get s.core.questions q)) (ret_of q n.message n.lets) (sym (c.gets.tells q n.lets) ∙ f))).1);
        led = λ e z h i. led_now e z i (c.led e z h);
        led_soon = (let soon = l.led_soon in soon.1);
        turns = turn_then t.kept t.far c.sent l.turns (no_import t.kept c.sent c.turned);
        answers = λ q. block_quiet q (s.kept.questions q) t.far c.sent (l.answers q) c.turned;
      }
    where
      told_now : (q : ℕ) (z : Told) → (told_of (map.get s.core.questions q) ≡ Some z) ⊎ (IsTold n.message q z × Waited (map.get s.core.questions q)) → said_of (s.kept.questions q) ≡ Some z
      told_now q z (inl h) = let l = k.here.leading in l.told q z h
      told_now q z (inr h) = let l = k.here.leading in let w = h.1 in (l.told_soon q w.0 w.1).0 z h.0

      led_now : (e : ℕ) (z : Descriptor) → leads z ≡ true → (resolved_of (map.get s.core.imports e) ≡ Some z) ⊎ Says n.message e z → t.kept.led e ≡ true
      led_now e z i (inl h) = let l = k.here.leading in l.led e z h i
      led_now e z i (inr h) = let l = k.here.leading in let soon = l.led_soon in soon.0 e z h i

  leading_still : Leading t_received s_received
  leading_still = let l = k.there.leading in record { told = l.told; told_soon = l.told_soon; led = l.led; led_soon = l.led_soon; turns = l.turns; answers = l.answers }

  pub received : Both s_received t_received
  received = record {
    here = record {
      alone = c.moved.alone;
      useful_near = k.here.useful_near.1;
      useful_far = k.here.useful_far;
      asks = record {
        near = near_received;
        far = k.here.asks.far;
        met = λ q.
            subst (λ (ms : List (Mark Ids Ids)). Met (answerer (s.kept.questions q)) ms) (sym (marks-append q t.far c.sent))
            (joined (answerer (s.kept.questions q)) (rets q rest) (asker_of (map.get c.mid.questions q)) (asker_of (map.get new.questions q)) (marks q t.far) (marks q c.sent) (as_marks _ q t.far _ (rets q rest) (near_mid q)) (k.here.asks.met q) (c.moved.names q));
      };
      gives = record {
        near = λ e. let a = c.gives e in let b = k.here.gives.near e in let d = given_behind e t.far c.sent in let f = takes e in omega (arith, a, b, d, f);
        far = k.here.gives.far;
        few = few;
      };
      turns = record {
        near = λ e. let a = c.ends e in let b = k.here.turns.near e in let d = out_behind e t.far c.sent in let f = c.begins e in let g = back_first e n rest in omega (arith, a, b, d, f, g);
        far = k.here.turns.far;
      };
      promises = comes_too s t s_received c.sent k.here.promises c.owes;
      leading = leading_received;
    };
    there = record {
      alone = k.there.alone;
      useful_near = k.there.useful_near;
      useful_far = useful-append t.far c.sent k.there.useful_far c.moved.useful;
      asks = record {
        near = k.there.asks.near;
        far = λ q.
            subst (λ (o : List (Ret Ids Ids)). Row (asker (t.kept.questions q)) (outs q rest) (answerer_of (map.get new.answers q)) o) (sym (rets-append q t.far c.sent))
            (returns_all (asker (t.kept.questions q)) (outs q rest) (answerer_of (map.get c.mid.answers q)) (answerer_of (map.get new.answers q)) (rets q c.sent) (rets q t.far) (far_mid q) (c.moved.returns q));
        met = k.there.asks.met;
      };
      gives = record {
        near = k.there.gives.near;
        far = λ e. lets_more (held e (held_of t.kept)) t.far c.sent e (count e s.core + how_many (nat_eq e) (given (descriptors_of_plain n.message))) (giving e (messages rest)) (count e new) (had_so e) (c.moved.backs e);
        few = k.there.gives.few;
      };
      turns = record {
        near = k.there.turns.near;
        far = λ e. let a = c.turns e in let b = k.there.turns.far e in let d = back_behind e t.far c.sent in let f = out_first e n rest in omega (arith, a, b, d, f);
      };
      promises = k.there.promises;
      leading = leading_still;
    };
  }

-- ---- A message passes

abbrev OnlyMentions : List Back → Type 0
OnlyMentions [] = Unit {0}
OnlyMentions (export.Mention ∷ ms) = OnlyMentions ms
OnlyMentions (export.Take k ∷ ms) = ⊥

past : (n m : ℕ) (xs ys : List Back) → OnlyMentions xs → Leaves n (xs ++ ys) m → Leaves n ys m
past n m [] ys o h = h
past n m (export.Mention ∷ xs) ys o h = past n m xs ys o h.1
past n m (export.Take k ∷ xs) ys o h = absurd o

mentioned : (n m : ℕ) (xs ys : List Back) → OnlyMentions xs → Leaves n (xs ++ ys) m → AreHeld n xs
mentioned n m [] ys o h = tt
mentioned n m (export.Mention ∷ xs) ys o h = (h.0, mentioned n m xs ys o h.1)
mentioned n m (export.Take k ∷ xs) ys o h = absurd o

one_mention : (b : Bool) → OnlyMentions (only b export.Mention)
one_mention true = tt
one_mention false = tt

mention_first : (b : Bool) (xs : List Back) → OnlyMentions xs → OnlyMentions (only b export.Mention ++ xs)
mention_first true xs h = h
mention_first false xs h = h

target_mentions : (e : ℕ) (t : Target) → OnlyMentions (target_in e t)
target_mentions e (ImportedCap i) = one_mention (nat_eq e i.0)
target_mentions e (PromisedAnswer q path) = tt

targets_mention : (e : ℕ) (m : PlainMessage) → OnlyMentions (targets_in e m)
targets_mention e (plain.Abort x) = tt
targets_mention e (plain.Bootstrap q) = tt
targets_mention e (plain.Call c) = target_mentions e c.target
targets_mention e (plain.Return r) = tt
targets_mention e (plain.Finish f) = tt
targets_mention e (plain.Resolve r) = tt
targets_mention e (plain.Release r) = tt
targets_mention e (plain.Disembargo d) = target_mentions e d.target
targets_mention e (plain.Other n) = tt

each_mentions : (e : ℕ) (ds : List Descriptor) → OnlyMentions (named_in e ds)
each_mentions e [] = tt
each_mentions e (descriptor.None ∷ ds) = each_mentions e ds
each_mentions e (descriptor.SenderHosted i ∷ ds) = each_mentions e ds
each_mentions e (descriptor.SenderPromise i ∷ ds) = each_mentions e ds
each_mentions e (descriptor.ReceiverHosted i ∷ ds) = mention_first (nat_eq e i.0) (named_in e ds) (each_mentions e ds)
each_mentions e (descriptor.ReceiverAnswer q path ∷ ds) = each_mentions e ds

first_comes : (b : Bool) (xs ys : List export.Out) → AllCome b (xs ++ ys) → AllCome b xs
first_comes b [] ys h = tt
first_comes b (x ∷ xs) ys h = (h.0, first_comes (owe_one b x) xs ys h.1)

-- Once it passed, the rest may come.
rest_comes : (b : Bool) (xs ys zs : List export.Out) (now : Bool) (x : export.Exporter) → now ≡ owe_all b (xs ++ ys) → AllCome b (xs ++ (ys ++ zs)) × MayCome (owe_all b (xs ++ (ys ++ zs))) x → AllCome now zs × MayCome (owe_all now zs) x
rest_comes b xs ys zs now x e h =
    let g = subst (λ (l : List export.Out). AllCome b l × MayCome (owe_all b l) x) (sym (append_assoc xs ys zs)) h in
    subst (λ (c : Bool). AllCome c zs × MayCome (owe_all c zs) x) (sym e) (come_behind b (xs ++ ys) zs g.0, subst (λ (c : Bool). MayCome c x) (owe-append b (xs ++ ys) zs) g.1)

at_most : {X : Type 0} (o : Option X) → here o ≤ 1
at_most None = omega arith
at_most (Some x) = omega arith

module _ (s t : End) (n : Noted) (rest : List Noted) (k : Both s (record t { far = n ∷ rest })) where
  abbrev m : PlainMessage
  m = n.message

  abbrev ds : List Descriptor
  ds = descriptors_of_plain m

  pub fine : Fine m n.lets s.kept t.kept
  fine = record {
    useful = k.there.useful_far.0;
    asks = λ q. outs_found (asker_of (map.get s.core.questions q)) (out_of q m n.lets) (outs q rest) (answerer (s.kept.questions q)) (rets q s.near) (k.here.asks.near q);
    answers = λ q. rets_found (asker (t.kept.questions q)) (outs q s.near) (answerer_of (map.get s.core.answers q)) (ret_of q m n.lets) (rets q rest) (k.there.asks.far q);
    room = λ e. let a = k.here.gives.near e in let b = k.here.gives.few e in omega (arith, a, b);
    enough = λ e. let a = (rest_stands e n rest (held e (held_of t.kept)) (count e s.core + giving e (messages s.near)) (k.there.gives.far e)).1 in omega (arith, a);
    free = λ e h.
        let a = k.here.turns.near e in
        let b = out_first e n rest in
        let c : one_if (goes_out e (message.Plain m)) ≡ 1 = ap one_if h in
        let d = at_most (map.get s.core.embargoes e) in
        omega (arith, a, b, c, d);
    begun = λ e h.
        let a = k.there.turns.far e in
        let b = back_first e n rest in
        let c : one_if (comes_back e (message.Plain m)) ≡ 1 = ap one_if h in
        let d = at_most (t.kept.embargoes e) in
        omega (arith, a, b, c, d);
    due = λ e. first_comes (s.kept.owed e) (resolves_in e m) (gives_in e ds ++ outs_for e rest) (let h = k.here.promises e in h.0);
  }

  pub named : Named m s.kept t.kept
  named = record {
    target_asked = λ q. ahead (answerer (s.kept.questions q)) (targets_marks q m) _ (targets_only q m) (k.here.asks.met q);
    each_asked = λ q. ahead (answerer (s.kept.questions q)) (each_marks q ds) _ (each_only q ds) (strip (answerer (s.kept.questions q)) (targets_marks q m) _ (targets_only q m) (k.here.asks.met q));
    target_held = λ e. mentioned (held e (held_of t.kept)) _ (targets_in e m) _ (targets_mention e m) (k.there.gives.far e);
    turns_import = (let l = k.here.leading in let h = l.turns in h.0);
    turns_answer = λ q. (let l = k.here.leading in let h = l.answers q in h.0);
    each_held = λ e. mentioned (held e (held_of t.kept)) _ (named_in e ds) _ (each_mentions e ds) (past (held e (held_of t.kept)) _ (targets_in e m) _ (targets_mention e m) (k.there.gives.far e));
  }

  module _ (new : Ends) (p : Passes m n.lets s.kept t.kept new) where
    abbrev pub s_passed : End
    s_passed = record s { kept = new.0 }

    abbrev pub t_passed : End
    t_passed = record t { near = t.near ++ n ∷ []; far = rest; kept = new.1 }

    outs_last : (q : ℕ) → outs q (t.near ++ n ∷ []) ≡ outs q t.near ++ out_of q m n.lets
    outs_last q = outs-append q t.near (n ∷ []) ∙ ap (λ (o : List (Out Ids Ids)). outs q t.near ++ o) (append-nil (out_of q m n.lets))

    rets_last : (q : ℕ) → rets q (t.near ++ n ∷ []) ≡ rets q t.near ++ ret_of q m n.lets
    rets_last q = rets-append q t.near (n ∷ []) ∙ ap (λ (o : List (Ret Ids Ids)). rets q t.near ++ o) (append-nil (ret_of q m n.lets))

    left_there : (e : ℕ) → Leaves (held e (held_of new.1)) (backs_for e rest) (count e s.core + giving e (messages s.near))
    left_there e =
        let r = rest_stands e n rest (held e (held_of t.kept)) (count e s.core + giving e (messages s.near)) (k.there.gives.far e) in
        let a = r.1 in
        let b = p.counted.takes e in
        let same : r.0 ≡ held e (held_of new.1) = omega (arith, a, b) in
        subst (λ (j : ℕ). Leaves j (backs_for e rest) (count e s.core + giving e (messages s.near))) same r.2

    more_here : (e : ℕ) → Leaves (held e (held_of new.0)) (backs_for e s.far) (count e t.core + giving e (messages (t.near ++ n ∷ [])))
    more_here e =
        let g = how_many (nat_eq e) (given ds) in
        let a = given_behind e t.near (n ∷ []) in
        subst (λ (j : ℕ). Leaves j (backs_for e s.far) (count e t.core + giving e (messages (t.near ++ n ∷ [])))) (sym (p.counted.gives e))
        (subst (λ (j : ℕ). Leaves (held e (held_of s.kept) + g) (backs_for e s.far) j) (omega (arith, a))
        (more (held e (held_of s.kept)) g (backs_for e s.far) (count e t.core + giving e (messages t.near)) (k.here.gives.far e)))

    -- of the questions of s, which sent the message
    out_same : (q : ℕ) → out_of q m n.lets ≡ [] → new.0.questions q ≡ s.kept.questions q
    out_same q e = p.asked.still_own q e

    leading_here : Leading s_passed t_passed
    leading_here =
        let l = k.here.leading in record {
          told = λ q z h.
              let none = told_row (asker_of (map.get s.core.questions q)) (outs q (n ∷ rest)) (answerer (s.kept.questions q)) (rets q s.near) (k.here.asks.near q) (was_told (map.get s.core.questions q) z h) in
              ap said_of (out_same q (left_none (out_of q m n.lets) (outs q rest) none)) ∙ l.told q z h;
          told_soon = λ q ids h. soon q ids h (asked_row ids (outs q (n ∷ rest)) (answerer (s.kept.questions q)) (rets q s.near) (subst (λ (v : Asker Ids Ids). Row v (outs q (n ∷ rest)) (answerer (s.kept.questions q)) (rets q s.near)) h (k.here.asks.near q)));
          led = λ e z h i. p.counted.same_led e ∙ l.led e z h i;
          led_soon = led_more t.kept new.1 s.near (λ e h. p.counted.same_led e ∙ h) l.led_soon;
          turns = turn_more t.kept new.1 rest (λ e h. p.counted.same_led e ∙ h) (let h = l.turns in h.1);
          answers = λ q. block_rest q (s.kept.questions q) (new.0.questions q) n rest (out_same q) (l.answers q);
        }
      where
        soon : (q : ℕ) (ids : Ids) → asker_of (map.get s.core.questions q) ≡ session.Asked ids → (outs q (n ∷ rest) ≡ []) ⊎ (rets q s.near ≡ []) → AllTold q (new.0.questions q) s.near
        soon q ids h (inl e) = let l = k.here.leading in subst (λ (o : Option Entry). AllTold q o s.near) (sym (out_same q (left_none (out_of q m n.lets) (outs q rest) e))) (l.told_soon q ids h)
        soon q ids h (inr e) = none_told q (new.0.questions q) s.near e

    -- of those of t, which may be answered by it
    returns_one : (q : ℕ) (r : Ret Ids Ids) (rs : List (Ret Ids Ids)) → ret_of q m n.lets ≡ r ∷ rs → (w : Answerer Ids Ids) × Returns (answerer (t.kept.questions q)) r w
    returns_one q r rs e = let h = subst (λ (ms : List (Ret Ids Ids)). ReturnsAll (answerer (t.kept.questions q)) ms (answerer (new.1.questions q))) e (p.asked.returns q) in (h.0, h.1)

    told_there : (q : ℕ) (z : Told) → told_of (map.get t.core.questions q) ≡ Some z → (ms : List (Ret Ids Ids)) → ret_of q m n.lets ≡ ms → said_of (new.1.questions q) ≡ Some z
    told_there q z h [] e = let l = k.there.leading in ap said_of (p.asked.still_heard q e) ∙ l.told q z h
    told_there q z h (r ∷ rs) e =
        let w = returns_one q r rs e in
        absurd (told_no_return (asker_of (map.get t.core.questions q)) (outs q s.far) (answerer (t.kept.questions q)) w.0 (rets q t.near) r (k.there.asks.near q) (was_told (map.get t.core.questions q) z h) w.1)

    soon_there : (q : ℕ) (ids : Ids) → asker_of (map.get t.core.questions q) ≡ session.Asked ids → (ms : List (Ret Ids Ids)) → ret_of q m n.lets ≡ ms → AllTold q (new.1.questions q) (t.near ++ n ∷ [])
    soon_there q ids h [] e =
        let l = k.there.leading in
        told_then q (new.1.questions q) t.near (n ∷ []) (subst (λ (o : Option Entry). AllTold q o t.near) (sym (p.asked.still_heard q e)) (l.told_soon q ids h)) ((λ z i. absurd (tells_return q m n.lets z i e)), tt)
    soon_there q ids h (r ∷ rs) e =
        let w = returns_one q r rs e in
        let row = subst (λ (v : Asker Ids Ids). Row v (outs q s.far) (answerer (t.kept.questions q)) (rets q t.near)) h (k.there.asks.near q) in
        let g = asked_works ids (outs q s.far) (answerer (t.kept.questions q)) w.0 (rets q t.near) r row w.1 in
        told_then q (new.1.questions q) t.near (n ∷ []) (none_told q (new.1.questions q) t.near g.0) ((λ z i. p.asked.told q z i ids (working_asked (t.kept.questions q) ids g.1)), tt)

    block_there : (q : ℕ) (ms : List (Ret Ids Ids)) → ret_of q m n.lets ≡ ms → Block q (new.1.questions q) s.far
    block_there q [] e = let l = k.there.leading in subst (λ (o : Option Entry). Block q o s.far) (sym (p.asked.still_heard q e)) (l.answers q)
    block_there q (r ∷ rs) e =
        let l = k.there.leading in
        let f = subst (λ (ms : List (Ret Ids Ids)). RetsFound (asker (t.kept.questions q)) ms) e (fine.answers q) in
        block_waiting q (t.kept.questions q) (new.1.questions q) s.far (λ path. waiting_leads (t.kept.questions q) r path f) (l.answers q)

    leading_there : Leading t_passed s_passed
    leading_there =
        let l = k.there.leading in record {
          told = λ q z h. told_there q z h (ret_of q m n.lets) refl;
          told_soon = λ q ids h. soon_there q ids h (ret_of q m n.lets) refl;
          led = λ e z h i. p.counted.leads_still e (l.led e z h i);
          led_soon = led_then new.0 t.near (n ∷ []) (led_more s.kept new.0 t.near p.counted.leads_still l.led_soon) ((λ e z h i. p.counted.leads_now e z h i), tt);
          turns = turn_more s.kept new.0 s.far p.counted.leads_still l.turns;
          answers = λ q. block_there q (ret_of q m n.lets) refl;
        }

    pub passed : Both s_passed t_passed
    passed = record {
      here = record {
        alone = k.here.alone;
        useful_near = k.here.useful_near;
        useful_far = k.here.useful_far;
        asks = record {
          near = λ q.
              subst (λ (u : Answerer Ids Ids). Row (asker_of (map.get s.core.questions q)) (outs q rest) u (rets q s.near)) (sym (p.asked.hears q))
              (hear_all (asker_of (map.get s.core.questions q)) (out_of q m n.lets) (outs q rest) (answerer (s.kept.questions q)) (rets q s.near) (k.here.asks.near q));
          far = λ q.
              subst (λ (o : List (Out Ids Ids)). Row (asker (new.0.questions q)) o (answerer_of (map.get t.core.answers q)) (rets q s.far)) (sym (outs_last q))
              (sends_all (asker (s.kept.questions q)) (asker (new.0.questions q)) (out_of q m n.lets) (outs q t.near) (answerer_of (map.get t.core.answers q)) (rets q s.far) (k.here.asks.far q) (p.asked.sends q));
          met = λ q. subst (λ (u : Answerer Ids Ids). Met u (marks q rest)) (sym (p.asked.hears q)) (rest_met q (answerer (s.kept.questions q)) n rest (k.here.asks.met q));
        };
        gives = record {
          near = λ e. let a = k.here.gives.near e in let b = p.counted.gives e in omega (arith, a, b);
          far = more_here;
          few = k.here.gives.few;
        };
        turns = record {
          near = λ e. let a = k.here.turns.near e in let b = p.counted.begins e in let d = out_first e n rest in omega (arith, a, b, d);
          far = λ e. let a = k.here.turns.far e in let b = p.counted.begins e in let c = out_behind e t.near (n ∷ []) in let d = out_first e n [] in omega (arith, a, b, c, d);
        };
        promises = λ e. rest_comes (s.kept.owed e) (resolves_in e m) (gives_in e ds) (outs_for e rest) (new.0.owed e) (exporter_of s.core (map.get s.core.exports e)) (p.counted.owes e) (k.here.promises e);
        leading = leading_here;
      };
      there = record {
        alone = k.there.alone;
        useful_near = useful-append t.near (n ∷ []) k.there.useful_near (k.there.useful_far.0, tt);
        useful_far = k.there.useful_far.1;
        asks = record {
          near = λ q.
              subst (λ (o : List (Ret Ids Ids)). Row (asker_of (map.get t.core.questions q)) (outs q s.far) (answerer (new.1.questions q)) o) (sym (rets_last q))
              (returns_all (asker_of (map.get t.core.questions q)) (outs q s.far) (answerer (t.kept.questions q)) (answerer (new.1.questions q)) (ret_of q m n.lets) (rets q t.near) (k.there.asks.near q) (p.asked.returns q));
          far = λ q.
              subst (λ (v : Asker Ids Ids). Row v (outs q s.near) (answerer_of (map.get s.core.answers q)) (rets q rest)) (sym (p.asked.tells q))
              (tell_all (asker (t.kept.questions q)) (outs q s.near) (answerer_of (map.get s.core.answers q)) (ret_of q m n.lets) (rets q rest) (k.there.asks.far q));
          met = λ q. returned (asker_of (map.get t.core.questions q)) (marks q s.far) (answerer (t.kept.questions q)) (answerer (new.1.questions q)) (ret_of q m n.lets) (rets q t.near) (as_marks _ q s.far _ (rets q t.near) (k.there.asks.near q)) (k.there.asks.met q) (p.asked.returns q);
        };
        gives = record {
          near = λ e. let a = k.there.gives.near e in let b = p.counted.takes e in let d = letting-append e t.near (n ∷ []) in omega (arith, a, b, d);
          far = left_there;
          few = k.there.gives.few;
        };
        turns = record {
          near = λ e. let a = k.there.turns.near e in let b = p.counted.ends e in let c = back_behind e t.near (n ∷ []) in let d = back_first e n [] in omega (arith, a, b, c, d);
          far = λ e. let a = k.there.turns.far e in let b = p.counted.ends e in let d = back_first e n rest in omega (arith, a, b, d);
        };
        promises = λ e. subst (λ (b : Bool). AllCome b (outs_for e s.far) × MayCome (owe_all b (outs_for e s.far)) (exporter_of t.core (map.get t.core.exports e))) (sym (p.counted.keeps e)) (k.there.promises e);
        leading = leading_there;
      };
    }

-- What the books keep of an Abort, and of kinds of messages, is of no session.
pub aborted : (s t : End) (d : Option ℕ) (f : ℕ → ℕ) → Both s t → Both (record s { kept = record (s.kept) { down = d; said = f } }) t
aborted s t d f k = record {
  here = record {
    alone = k.here.alone;
    useful_near = k.here.useful_near;
    useful_far = k.here.useful_far;
    asks = record { near = k.here.asks.near; far = k.here.asks.far; met = k.here.asks.met };
    gives = record { near = k.here.gives.near; far = k.here.gives.far; few = k.here.gives.few };
    turns = record { near = k.here.turns.near; far = k.here.turns.far };
    promises = k.here.promises;
    leading = (let l = k.here.leading in record { told = l.told; told_soon = l.told_soon; led = l.led; led_soon = l.led_soon; turns = l.turns; answers = l.answers });
  };
  there = record {
    alone = k.there.alone;
    useful_near = k.there.useful_near;
    useful_far = k.there.useful_far;
    asks = record { near = k.there.asks.near; far = k.there.asks.far; met = k.there.asks.met };
    gives = record { near = k.there.gives.near; far = k.there.gives.far; few = k.there.gives.few };
    turns = record { near = k.there.turns.near; far = k.there.turns.far };
    promises = k.there.promises;
    leading = (let l = k.there.leading in record { told = l.told; told_soon = l.told_soon; led = l.led; led_soon = led_more s.kept (record (s.kept) { down = d; said = f }) t.near (λ e h. h) l.led_soon; turns = turn_more s.kept (record (s.kept) { down = d; said = f }) s.far (λ e h. h) l.turns; answers = l.answers });
  };
}
