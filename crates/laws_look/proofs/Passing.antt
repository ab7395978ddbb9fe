-- What a message that passes does to what the books keep of both ends, if it is as the sessions say.
use Rattle.std.proofs.Common.{◌≡◌, ◌≤◌, ℕ, ◌+◌, ◌-◌, nat_lt, if◌then◌else◌, Bool, true, false, cond, nat_eq, List, [], ◌∷◌, ◌++◌, Option, None, Some, refl, sym, ap, subst, ◌∙◌, arith}
use Rattle.rpc_msg.specs.declared.ids.QuestionId.{QuestionId}
use Rattle.rpc_msg.specs.declared.ids.ExportId.{ExportId}
use Rattle.rpc_msg.specs.declared.ids.EmbargoId.{EmbargoId}
use Rattle.rpc_msg.specs.declared.parts.Descriptor.{Descriptor}
use Rattle.rpc_msg.specs.declared.parts.Descriptor.TheVariants as descriptor
use Rattle.rpc_msg.specs.declared.parts.Target.{Target}
use Rattle.rpc_msg.specs.declared.message.ReturnBody.{ReturnBody}
use Rattle.rpc_msg.specs.declared.message.ReturnBody.TheVariants as body
use Rattle.rpc_msg.specs.declared.message.ResolvedTo.{ResolvedTo}
use Rattle.rpc_msg.specs.declared.message.ResolvedTo.TheVariants as resolved
use Rattle.rpc_msg.specs.declared.message.DisembargoContext.{DisembargoContext}
use Rattle.rpc_msg.specs.declared.message.DisembargoContext.TheVariants as context
use Rattle.rpc_msg.specs.declared.message.PlainMessage.{PlainMessage}
use Rattle.rpc_msg.specs.declared.message.PlainMessage.TheVariants as plain
use Rattle.rpc_msg.specs.declared.message.Message.TheVariants as message
use Rattle.rpc_msg.specs.Messages.{given, descriptors_of_body, descriptors_of_resolved, descriptors_of_plain}
use Rattle.finite_maps.proofs.Tested.{equal, itself}
use Rattle.rpc_machine.specs.Lists.{how_many}
use Rattle.rpc_machine.specs.Progress.{numbers}
use Rattle.rpc_machine.specs.UnderWay.{if_true}
use Rattle.look_books.specs.declared.books.Moment.{Moment}
use Rattle.look_books.specs.declared.act.Kind.{Kind}
use Rattle.look_books.specs.declared.export.Export.{Export}
use Rattle.look_books.specs.declared.export.Given.{Given}
use Rattle.look_books.specs.declared.export.Origin.{Origin}
use Rattle.look_books.specs.declared.export.Origin.TheVariants as origin
use Rattle.look_books.specs.declared.question.Question.{Question}
use Rattle.look_books.specs.declared.question.Returned.{Returned}
use Rattle.look_books.specs.declared.question.Finished.{Finished}
use Rattle.look_books.specs.declared.question.Results.{Results}
use Rattle.look_books.specs.declared.question.Results.TheVariants as results
use Rattle.look_books.specs.declared.act.Kind.TheVariants as kind
use Rattle.look_books.specs.declared.act.Asked.TheVariants as asked_kind
use Rattle.look_books.specs.Acts.{Asks, Answers, plain_does, resolution, bare_question, call_asks, return_answers}
use Rattle.look_books.specs.Ends.{Kept, count_of}
use Rattle.look_books.specs.Checks.{all_given}
use Rattle.look_books.specs.After.{Held, put, held_of, doing, Ends, is_unused, question_of, ask_if, ask, give_one, give_from, lose, with_export, give_back_by, give_back, give_back_if, give_back_all, with_question, returned, unanswered_of, unfinished_of, answer_to, finish_by, descriptors_in, body_results, plain_results, said_in, asked_of, resolved_by, note_resolve, leads, lead_if, resolve, begin_embargo_by, begin_embargo, more, after}
use Rattle.laws_acts.specs.Sent.{Ids}
use Rattle.laws_nodes.specs.Ones.{one_if}
use Rattle.laws_nodes.specs.Embargoes.{here, goes_out, comes_back}
use Rattle.laws_runs.specs.Questions as session
use Rattle.laws_runs.specs.Questions.{Asker, Answerer, Out, Ret, Sends, Returns, IsJust, hear_one, tell_one}
use Rattle.laws_runs.specs.Views.{only, if_flag, out_of, ret_of, SendsAll, ReturnsAll, tell, hear, IsUseful}
use Rattle.laws_runs.specs.Imports.{lets_of}
use Rattle.laws_runs.specs.Exports as export
use Rattle.laws_runs.specs.Exports.{Out as Telling}
use Rattle.laws_messages.specs.Views.{gives_in, resolves_in}
use Rattle.laws_look.specs.Accused.{plain_heading}
use Rattle.laws_look.proofs.Looks.{asker, answerer, asks_in, answers_in, unwanted_in, answered_in, early_in, back_in, put_at, put_hears, put_sends, put_tells, put_returns}
use Rattle.laws_look.proofs.Owed.{owe_all, AllCome}
use Rattle.laws_look.proofs.Told.{Told, told_in, IsTold, resolves_to, Says}
use Rattle.laws_look.proofs.Found.{OutFound, RetFound, OutsFound, RetsFound}
use Rattle.laws_look.proofs.Counts.{cap, held, same_given, given_one, given_all, back_one, back_all}

-- A message is as the sessions say: it is of questions that are there for it, gives back no more than is there, and is of embargoes
-- that are so.
pub record Fine (m : PlainMessage) (lets : Ids) (own heard : Kept) : Type 0 where
  pub useful : IsUseful m
  pub asks : (q : ℕ) → OutsFound (answerer (own.questions q)) (out_of q m lets)
  pub answers : (q : ℕ) → RetsFound (asker (heard.questions q)) (ret_of q m lets)
  pub room : (e : ℕ) → held e (held_of own) + how_many (nat_eq e) (given (descriptors_of_plain m)) ≤ cap
  pub enough : (e : ℕ) → lets_of e m lets ≤ held e (held_of heard)
  pub free : (e : ℕ) → goes_out e (message.Plain m) ≡ true → here (own.embargoes e) ≡ 0
  pub begun : (e : ℕ) → comes_back e (message.Plain m) ≡ true → here (heard.embargoes e) ≡ 1
  pub due : (e : ℕ) → AllCome (own.owed e) (resolves_in e m)

abbrev pub results_said : Results → Option Told
results_said results.None = None
results_said results.Taken = None
results_said (results.Own p ds) = Some (p, ds)

abbrev pub said_by : Option Returned → Option Told
said_by None = None
said_by (Some r) = results_said r.results

-- what the books keep of the results of a question
abbrev pub said_of : Option Question → Option Told
said_of None = None
said_of (Some x) = said_by x.returned

-- The questions of both ends: as the sessions of the point say.
pub record Asked (m : PlainMessage) (lets : Ids) (own heard : Kept) (new : Ends) : Type 0 where
  pub hears : (q : ℕ) → answerer (new.0.questions q) ≡ hear (answerer (own.questions q)) (out_of q m lets)
  pub sends : (q : ℕ) → SendsAll (asker (own.questions q)) (out_of q m lets) (asker (new.0.questions q))
  pub tells : (q : ℕ) → asker (new.1.questions q) ≡ tell (asker (heard.questions q)) (ret_of q m lets)
  pub returns : (q : ℕ) → ReturnsAll (answerer (heard.questions q)) (ret_of q m lets) (answerer (new.1.questions q))
  pub still_own : (q : ℕ) → out_of q m lets ≡ [] → new.0.questions q ≡ own.questions q
  pub still_heard : (q : ℕ) → ret_of q m lets ≡ [] → new.1.questions q ≡ heard.questions q
  pub told : (q : ℕ) (z : Told) → IsTold m q z → (ids : Ids) → asker (heard.questions q) ≡ session.Asked ids → said_of (new.1.questions q) ≡ Some z

-- Their counts and embargoes.
pub record Counted (m : PlainMessage) (lets : Ids) (own heard : Kept) (new : Ends) : Type 0 where
  pub gives : (e : ℕ) → held e (held_of new.0) ≡ held e (held_of own) + how_many (nat_eq e) (given (descriptors_of_plain m))
  pub takes : (e : ℕ) → held e (held_of new.1) + lets_of e m lets ≡ held e (held_of heard)
  pub begins : (e : ℕ) → here (new.0.embargoes e) ≡ here (own.embargoes e) + one_if (goes_out e (message.Plain m))
  pub ends : (e : ℕ) → here (new.1.embargoes e) + one_if (comes_back e (message.Plain m)) ≡ here (heard.embargoes e)
  pub up : (new.0.down ≡ own.down) × (new.1.down ≡ heard.down)
  pub owes : (e : ℕ) → new.0.owed e ≡ owe_all (own.owed e) (resolves_in e m ++ gives_in e (descriptors_of_plain m))
  pub keeps : (e : ℕ) → new.1.owed e ≡ heard.owed e
  pub leads_now : (e : ℕ) (z : Descriptor) → Says m e z → leads z ≡ true → new.0.led e ≡ true
  pub leads_still : (e : ℕ) → own.led e ≡ true → new.0.led e ≡ true
  pub same_led : (e : ℕ) → new.1.led e ≡ heard.led e

pub record Passes (m : PlainMessage) (lets : Ids) (own heard : Kept) (new : Ends) : Type 0 where
  pub asked : Asked m lets own heard new
  pub counted : Counted m lets own heard new

-- ---- Entries that stay

none_only : {A : Type 0} (b : Bool) (m : A) → only b m ≡ [] → b ≡ false
none_only true m e = absurd (let bad : m ∷ [] ≡ [] = e in cc)
none_only false m e = refl

put_still : {X : Type 0} (k : ℕ) (v : X) (f : ℕ → X) (q : ℕ) → nat_eq q k ≡ false → put k v f q ≡ f q
put_still k v f q e = put_at k v f q ∙ ap (λ (b : Bool). cond b v (f q)) e

put_there : {X : Type 0} (k : ℕ) (v : X) (f : ℕ → X) → put k v f k ≡ v
put_there k v f = put_at k v f k ∙ ap (λ (b : Bool). cond b v (f k)) (itself k)

-- ---- What is owed

only_hosted : (b c : Bool) (l : List Telling) → owe_all b l ≡ owe_all b (only c (export.Give export.Hosted) ++ l)
only_hosted b true l = refl
only_hosted b false l = refl

only_promised : (b c : Bool) (l : List Telling) → owe_all (cond c true b) l ≡ owe_all b (only c (export.Give export.Promised) ++ l)
only_promised b true l = refl
only_promised b false l = refl

only_resolve : (b c : Bool) (l : List Telling) → owe_all (cond c false b) l ≡ owe_all b (only c export.Resolve ++ l)
only_resolve b true l = refl
only_resolve b false l = refl

given_owed : (n : ℕ) (o : Origin) (i : ℕ) (ds : List Descriptor) (h : Held) (e : ℕ) → (give_from n o i ds h).owed e ≡ owe_all (h.owed e) (gives_in e ds)
given_owed n o i [] h e = refl
given_owed n o i (descriptor.None ∷ ds) h e = given_owed n o (i + 1) ds h e
given_owed n o i (descriptor.SenderHosted x ∷ ds) h e = given_owed n o (i + 1) ds (give_one (descriptor.SenderHosted x) (record { number = n; index = i; origin = o }) h) e ∙ only_hosted (h.owed e) (nat_eq e x.0) (gives_in e ds)
given_owed n o i (descriptor.SenderPromise x ∷ ds) h e =
    given_owed n o (i + 1) ds (give_one (descriptor.SenderPromise x) (record { number = n; index = i; origin = o }) h) e
    ∙ ap (λ (b : Bool). owe_all b (gives_in e ds)) (put_at x.0 true h.owed e) ∙ only_promised (h.owed e) (nat_eq e x.0) (gives_in e ds)
given_owed n o i (descriptor.ReceiverHosted x ∷ ds) h e = given_owed n o (i + 1) ds h e
given_owed n o i (descriptor.ReceiverAnswer q p ∷ ds) h e = given_owed n o (i + 1) ds h e

back_owed : (x : ExportId) (c n : ℕ) (h : Held) → (give_back x c n h).owed ≡ h.owed
back_owed x c n h = of (h.exports x.0)
  where
    some : (y : Export) (b : Bool) → (if b then with_export x (Some (record y { count = y.count - c })) h else lose x n h).owed ≡ h.owed
    some y true = refl
    some y false = refl

    of : (o : Option Export) → (give_back_by o x c n h).owed ≡ h.owed
    of None = refl
    of (Some y) = some y (nat_lt c y.count)

all_owed : (n : ℕ) (xs : List ExportId) (h : Held) → (give_back_all n xs h).owed ≡ h.owed
all_owed n [] h = refl
all_owed n (x ∷ xs) h = all_owed n xs (give_back x 1 n h) ∙ back_owed x 1 n h

flag_owed : (flag : Bool) (n : ℕ) (xs : List ExportId) (h : Held) → (give_back_if flag n xs h).owed ≡ h.owed
flag_owed true n xs h = all_owed n xs h
flag_owed false n xs h = refl

-- ---- A question is asked

pub none_there : (o : Option Question) (x : Ids) → OutFound (answerer o) (session.Open x) → o ≡ None
none_there None x h = refl
none_there (Some y) x h = absurd (by y.returned y.finished y.waived h)
  where
    unwanted : (b w : Bool) → OutFound (unwanted_in (numbers y.gives) b w) (session.Open x) → ⊥
    unwanted false false h = h
    unwanted false true h = h
    unwanted true w h = h

    answered : (g : Ids) (b : Bool) → OutFound (answered_in g b) (session.Open x) → ⊥
    answered g false h = h
    answered g true h = h

    by : (r : Option Returned) (f : Option Finished) (w : Bool) → OutFound (answers_in (numbers y.gives) r f w) (session.Open x) → ⊥
    by None None false h = h
    by None None true h = h
    by None (Some f) w h = unwanted f.flag w h
    by (Some r) None w h = answered (numbers r.gives) r.waived h
    by (Some r) (Some f) w h = h

module _ (t : Moment) (a : Asks) (k : Kept) (no_waiver : a.waived ≡ false) (free : k.questions a.question.0 ≡ None) where
  abbrev given_to : Kept
  given_to = doing (give_from t.number (origin.Params a.asked) 0 a.descriptors) k

  asked_so : ask t a k ≡ with_question a.question (Some (question_of t a)) given_to
  asked_so = ap (λ (o : Option Question). ask_if (is_unused o) t a given_to) free

  asker_is : asker (Some (question_of t a)) ≡ session.Asked (given a.descriptors)
  asker_is = ap (asks_in (numbers (all_given a.descriptors)) None None) no_waiver ∙ ap session.Asked (same_given a.descriptors)

  answerer_is : answerer (Some (question_of t a)) ≡ session.Working (given a.descriptors)
  answerer_is = ap (answers_in (numbers (all_given a.descriptors)) None None) no_waiver ∙ ap session.Working (same_given a.descriptors)

  pub ask_hears : (q : ℕ) → answerer ((ask t a k).questions q) ≡ hear (answerer (k.questions q)) (only (nat_eq q a.question.0) (session.Open (given a.descriptors)))
  ask_hears q =
      ap (λ (z : Kept). answerer (z.questions q)) asked_so
      ∙ put_hears k.questions a.question.0 (Some (question_of t a)) q (session.Open (given a.descriptors)) (answerer_is ∙ sym (ap (λ (o : Option Question). hear_one (answerer o) (session.Open (given a.descriptors))) free))

  pub ask_sends : (q : ℕ) → SendsAll (asker (k.questions q)) (only (nat_eq q a.question.0) (session.Open (given a.descriptors))) (asker ((ask t a k).questions q))
  ask_sends q =
      subst (λ (z : Kept). SendsAll (asker (k.questions q)) (only (nat_eq q a.question.0) (session.Open (given a.descriptors))) (asker (z.questions q))) (sym asked_so)
      (put_sends k.questions a.question.0 (Some (question_of t a)) q (session.Open (given a.descriptors))
      (subst (λ (o : Option Question). Sends (asker o) (session.Open (given a.descriptors)) (asker (Some (question_of t a)))) (sym free)
      (subst (λ (v : Asker Ids Ids). Sends session.NotAsked (session.Open (given a.descriptors)) v) (sym asker_is) (session.Asks (given a.descriptors)))))

  pub ask_gives : (e : ℕ) → ((i : ℕ) → held i (held_of k) + how_many (nat_eq i) (given a.descriptors) ≤ cap) → held e (held_of (ask t a k)) ≡ held e (held_of k) + how_many (nat_eq e) (given a.descriptors)
  ask_gives e room = ap (λ (z : Kept). held e (held_of z)) asked_so ∙ given_all t.number (origin.Params a.asked) 0 a.descriptors (held_of k) e room

  pub ask_embargoes : (ask t a k).embargoes ≡ k.embargoes
  ask_embargoes = ap (λ (z : Kept). z.embargoes) asked_so

  pub ask_owes : (e : ℕ) → (ask t a k).owed e ≡ owe_all (k.owed e) (gives_in e a.descriptors)
  ask_owes e = ap (λ (z : Kept). z.owed e) asked_so ∙ given_owed t.number (origin.Params a.asked) 0 a.descriptors (held_of k) e

  pub ask_still : (q : ℕ) → nat_eq q a.question.0 ≡ false → (ask t a k).questions q ≡ k.questions q
  ask_still q e = ap (λ (z : Kept). z.questions q) asked_so ∙ put_still a.question.0 (Some (question_of t a)) k.questions q e

  pub ask_led : (ask t a k).led ≡ k.led
  ask_led = ap (λ (z : Kept). z.led) asked_so

  pub ask_down : (ask t a k).down ≡ k.down
  ask_down = ap (λ (z : Kept). z.down) asked_so

-- ---- What a flag gives back

flag_takes : (flag : Bool) (lets : Ids) (xs : List ExportId) (n : ℕ) (h : Held) → IsJust (if_flag flag lets) (numbers xs) → ((e : ℕ) → how_many (nat_eq e) (if_true flag lets) ≤ held e h)
    → (e : ℕ) → held e (give_back_if flag n xs h) + how_many (nat_eq e) (if_true flag lets) ≡ held e h
flag_takes true lets xs n h j enough e =
    ap (λ (l : Ids). held e (give_back_all n xs h) + how_many (nat_eq e) l) j
    ∙ back_all n xs h e (λ i. subst (λ (l : Ids). how_many (nat_eq i) l ≤ held i h) j (enough i))
flag_takes false lets xs n h j enough e = omega arith

pub no_flag : (flag : Bool) (lets : Ids) → if_flag flag lets ≡ None → flag ≡ false
no_flag true lets e = absurd (let bad : Some lets ≡ None = e in cc)
no_flag false lets e = refl

-- ---- A Return

-- What it does: to what its sender gives, and to the question.
record Replies (a : Answers) (res : Results) (y lets : Ids) (given_to heard : Kept) (new : Ends) : Type 0 where
  same : new.0 ≡ given_to
  tells : (q : ℕ) → asker (new.1.questions q) ≡ tell (asker (heard.questions q)) (only (nat_eq q a.question.0) (session.Return y (if_flag a.flag lets)))
  returns : (q : ℕ) → ReturnsAll (answerer (heard.questions q)) (only (nat_eq q a.question.0) (session.Return y (if_flag a.flag lets))) (answerer (new.1.questions q))
  takes : (e : ℕ) → held e (held_of new.1) + how_many (nat_eq e) (if_true a.flag lets) ≡ held e (held_of heard)
  embargoes : new.1.embargoes ≡ heard.embargoes
  down : new.1.down ≡ heard.down
  keeps : new.1.owed ≡ heard.owed
  still : (q : ℕ) → nat_eq q a.question.0 ≡ false → new.1.questions q ≡ heard.questions q
  said : (ids : Ids) → asker (heard.questions a.question.0) ≡ session.Asked ids → said_of (new.1.questions a.question.0) ≡ results_said res
  led : new.1.led ≡ heard.led

module _ (t : Moment) (a : Answers) (res : Results) (y lets : Ids) (given_to heard : Kept) (no_waiver : a.waived ≡ false) (is : numbers (all_given (descriptors_in res)) ≡ y) (enough : (e : ℕ) → how_many (nat_eq e) (if_true a.flag lets) ≤ held e (held_of heard)) where
  abbrev m : Ret Ids Ids
  m = session.Return y (if_flag a.flag lets)

  abbrev back : Returned
  back = record { number = t.number; waived = a.waived; gives = all_given (descriptors_in res); results = res }

  -- It waits for its Return.
  waits : (x : Question) → heard.questions a.question.0 ≡ Some (record x { returned = None; finished = None; waived = false }) → IsJust (if_flag a.flag lets) (numbers x.gives)
      → Replies a res y lets given_to heard (answer_to (Some (record x { returned = None; finished = None; waived = false })) t (said_in a) res given_to heard)
  waits x e j =
      let old : Question = record x { returned = None; finished = None; waived = false } in
      let new : Option Question = Some (returned old back) in
      let asker_is : asker new ≡ session.Back y = ap (back_in (numbers (all_given (descriptors_in res)))) no_waiver ∙ ap session.Back is in
      let answerer_is : answerer new ≡ session.Answered y = ap (answered_in (numbers (all_given (descriptors_in res)))) no_waiver ∙ ap session.Answered is in record {
        same = refl;
        tells = λ q. put_tells heard.questions a.question.0 new q m (asker_is ∙ sym (ap (λ (o : Option Question). tell_one (asker o) m) e));
        returns = λ q.
            put_returns heard.questions a.question.0 new q m
            (subst (λ (o : Option Question). Returns (answerer o) m (answerer new)) (sym e) (subst (λ (u : Answerer Ids Ids). Returns (session.Working (numbers x.gives)) m u) (sym answerer_is) (session.Answers (numbers x.gives) y (if_flag a.flag lets) j)));
        takes = flag_takes a.flag lets x.gives t.number (held_of heard) j enough;
        embargoes = refl;
        down = refl;
        keeps = flag_owed a.flag t.number x.gives (held_of heard);
        still = λ q f. put_still a.question.0 new heard.questions q f;
        said = λ ids f. ap said_of (put_there a.question.0 new heard.questions);
        led = refl;
      }

  -- It was finished before.
  crossed : (x : Question) (f : Finished) → heard.questions a.question.0 ≡ Some (record x { returned = None; finished = Some (record f { flag = false }); waived = false }) → IsJust (if_flag a.flag lets) (numbers x.gives)
      → Replies a res y lets given_to heard (answer_to (Some (record x { returned = None; finished = Some (record f { flag = false }); waived = false })) t (said_in a) res given_to heard)
  crossed x f e j = record {
    same = refl;
    tells = λ q. put_tells heard.questions a.question.0 None q m (sym (ap (λ (o : Option Question). tell_one (asker o) m) e));
    returns = λ q.
        put_returns heard.questions a.question.0 None q m
        (subst (λ (o : Option Question). Returns (answerer o) m session.NotOpen) (sym e) (session.Cancels (numbers x.gives) y (if_flag a.flag lets) j));
    takes = flag_takes a.flag lets x.gives t.number (held_of heard) j enough;
    embargoes = refl;
    down = refl;
    keeps = flag_owed a.flag t.number x.gives (held_of heard);
    still = λ q g. put_still a.question.0 None heard.questions q g;
    said = λ ids g. absurd (let bad : session.Early (numbers x.gives) ≡ session.Asked ids = sym (ap asker e) ∙ g in cc);
    led = refl;
  }

  answers_early : (x : Question) (f : Finished) (b w : Bool) → heard.questions a.question.0 ≡ Some (record x { returned = None; finished = Some (record f { flag = b }); waived = w }) → RetFound (early_in (numbers x.gives) b w) m
      → Replies a res y lets given_to heard (answer_to (Some (record x { returned = None; finished = Some (record f { flag = b }); waived = w })) t (said_in a) res given_to heard)
  answers_early x f false false e h = crossed x f e h
  answers_early x f false true e h = absurd h
  answers_early x f true w e h = absurd h

  not_back : (g : Ids) (b : Bool) → RetFound (back_in g b) m → ⊥
  not_back g false h = h
  not_back g true h = h

  answers_some : (x : Question) (r : Option Returned) (f : Option Finished) (w : Bool) → heard.questions a.question.0 ≡ Some (record x { returned = r; finished = f; waived = w }) → RetFound (asks_in (numbers x.gives) r f w) m
      → Replies a res y lets given_to heard (answer_to (unanswered_of (Some (record x { returned = r; finished = f; waived = w }))) t (said_in a) res given_to heard)
  answers_some x None None false e h = waits x e h
  answers_some x None None true e h = absurd h
  answers_some x None (Some f) w e h = answers_early x f f.flag w e h
  answers_some x (Some r) None w e h = absurd (not_back (numbers r.gives) r.waived h)
  answers_some x (Some r) (Some f) w e h = absurd h

  answers_at : (o : Option Question) → heard.questions a.question.0 ≡ o → RetFound (asker o) m → Replies a res y lets given_to heard (answer_to (unanswered_of o) t (said_in a) res given_to heard)
  answers_at None e h = absurd h
  answers_at (Some x) e h = answers_some x x.returned x.finished x.waived e h

-- ---- A Finish

record Finishes (q : QuestionId) (flag : Bool) (lets : Ids) (own heard : Kept) (new : Ends) : Type 0 where
  hears : (k : ℕ) → answerer (new.0.questions k) ≡ hear (answerer (own.questions k)) (only (nat_eq k q.0) (session.Fin (if_flag flag lets)))
  sends : (k : ℕ) → SendsAll (asker (own.questions k)) (only (nat_eq k q.0) (session.Fin (if_flag flag lets))) (asker (new.0.questions k))
  counts : (e : ℕ) → held e (held_of new.0) ≡ held e (held_of own)
  asked : new.1.questions ≡ heard.questions
  takes : (e : ℕ) → held e (held_of new.1) + how_many (nat_eq e) (if_true flag lets) ≡ held e (held_of heard)
  embargoes : (new.0.embargoes ≡ own.embargoes) × (new.1.embargoes ≡ heard.embargoes)
  down : (new.0.down ≡ own.down) × (new.1.down ≡ heard.down)
  keeps : (new.0.owed ≡ own.owed) × (new.1.owed ≡ heard.owed)
  still : (k : ℕ) → nat_eq k q.0 ≡ false → new.0.questions k ≡ own.questions k
  led : (new.0.led ≡ own.led) × (new.1.led ≡ heard.led)

module _ (t : Moment) (q : QuestionId) (lets : Ids) (own heard : Kept) where
  -- before its Return
  early : (x : Question) → own.questions q.0 ≡ Some (record x { returned = None; finished = None; waived = false }) → Finishes q false lets own heard (finish_by (Some (record x { returned = None; finished = None; waived = false })) t q false own heard)
  early x e =
      let new : Option Question = Some (record x { returned = None; finished = Some (record { number = t.number; flag = false }); waived = false }) in record {
        hears = λ k. put_hears own.questions q.0 new k (session.Fin None) (sym (ap (λ (o : Option Question). hear_one (answerer o) (session.Fin None)) e));
        sends = λ k. put_sends own.questions q.0 new k (session.Fin None) (subst (λ (o : Option Question). Sends (asker o) (session.Fin None) (asker new)) (sym e) (session.GivesUp (numbers x.gives)));
        counts = λ i. refl;
        asked = refl;
        takes = λ i. omega arith;
        embargoes = (refl, refl);
        down = (refl, refl);
        keeps = (refl, refl);
        still = λ k f. put_still q.0 new own.questions k f;
        led = (refl, refl);
      }

  early_by : (x : Question) (flag : Bool) → flag ≡ false → own.questions q.0 ≡ Some (record x { returned = None; finished = None; waived = false }) → Finishes q flag lets own heard (finish_by (Some (record x { returned = None; finished = None; waived = false })) t q flag own heard)
  early_by x flag f e = subst (λ (b : Bool). Finishes q b lets own heard (finish_by (Some (record x { returned = None; finished = None; waived = false })) t q b own heard)) (sym f) (early x e)

  -- behind it
  done : (x : Question) (r : Returned) (w flag : Bool) → own.questions q.0 ≡ Some (record x { returned = Some (record r { waived = false }); finished = None; waived = w }) → IsJust (if_flag flag lets) (numbers r.gives) → ((e : ℕ) → how_many (nat_eq e) (if_true flag lets) ≤ held e (held_of heard))
      → Finishes q flag lets own heard (finish_by (Some (record x { returned = Some (record r { waived = false }); finished = None; waived = w })) t q flag own heard)
  done x r w flag e j enough =
      let l = if_flag flag lets in record {
        hears = λ k. put_hears own.questions q.0 None k (session.Fin l) (sym (ap (λ (o : Option Question). hear_one (answerer o) (session.Fin l)) e));
        sends = λ k. put_sends own.questions q.0 None k (session.Fin l) (subst (λ (o : Option Question). Sends (asker o) (session.Fin l) session.NotAsked) (sym e) (session.IsDone (numbers r.gives) l j));
        counts = λ i. refl;
        asked = refl;
        takes = flag_takes flag lets r.gives t.number (held_of heard) j enough;
        embargoes = (refl, refl);
        down = (refl, refl);
        keeps = (refl, flag_owed flag t.number r.gives (held_of heard));
        still = λ k f. put_still q.0 None own.questions k f;
        led = (refl, refl);
      }

  done_by : (x : Question) (r : Returned) (b w flag : Bool) → own.questions q.0 ≡ Some (record x { returned = Some (record r { waived = b }); finished = None; waived = w }) → OutFound (answered_in (numbers r.gives) b) (session.Fin (if_flag flag lets)) → ((e : ℕ) → how_many (nat_eq e) (if_true flag lets) ≤ held e (held_of heard))
      → Finishes q flag lets own heard (finish_by (Some (record x { returned = Some (record r { waived = b }); finished = None; waived = w })) t q flag own heard)
  done_by x r false w flag e h enough = done x r w flag e h enough
  done_by x r true w flag e h enough = absurd h

  unwanted : (g l : Ids) (b w flag : Bool) → OutFound (unwanted_in g b w) (session.Fin (if_flag flag l)) → ⊥
  unwanted g l false false flag h = h
  unwanted g l false true flag h = h
  unwanted g l true w flag h = h

  finishes_some : (x : Question) (r : Option Returned) (f : Option Finished) (w flag : Bool) → own.questions q.0 ≡ Some (record x { returned = r; finished = f; waived = w }) → OutFound (answers_in (numbers x.gives) r f w) (session.Fin (if_flag flag lets)) → ((e : ℕ) → how_many (nat_eq e) (if_true flag lets) ≤ held e (held_of heard))
      → Finishes q flag lets own heard (finish_by (unfinished_of (Some (record x { returned = r; finished = f; waived = w }))) t q flag own heard)
  finishes_some x None None false flag e h enough = early_by x flag (no_flag flag lets h) e
  finishes_some x None None true flag e h enough = absurd h
  finishes_some x None (Some f) w flag e h enough = absurd (unwanted (numbers x.gives) lets f.flag w flag h)
  finishes_some x (Some r) None w flag e h enough = done_by x r r.waived w flag e h enough
  finishes_some x (Some r) (Some f) w flag e h enough = absurd h

  finishes_at : (o : Option Question) (flag : Bool) → own.questions q.0 ≡ o → OutFound (answerer o) (session.Fin (if_flag flag lets)) → ((e : ℕ) → how_many (nat_eq e) (if_true flag lets) ≤ held e (held_of heard)) → Finishes q flag lets own heard (finish_by (unfinished_of o) t q flag own heard)
  finishes_at None flag e h enough = absurd h
  finishes_at (Some x) flag e h enough = finishes_some x x.returned x.finished x.waived flag e h enough

-- ---- A Resolve

same_count : (p : ExportId) (n : ℕ) (b : ℕ → Bool) (h : Held) (o : Option Export) → h.exports p.0 ≡ o → (e : ℕ) → held e (resolved_by o p n (record h { owed = b })) ≡ held e h
same_count p n b h None f e = refl
same_count p n b h (Some x) f e = ap count_of (put_at p.0 (Some (record x { resolved = Some n })) h.exports e) ∙ by (nat_eq e p.0) refl
  where
    by : (c : Bool) → nat_eq e p.0 ≡ c → count_of (cond c (Some (record x { resolved = Some n })) (h.exports e)) ≡ held e h
    by true i = ap count_of (sym f) ∙ ap (λ (j : ℕ). held j h) (sym (equal e p.0 i))
    by false i = refl

same_owed : (p : ExportId) (n : ℕ) (h : Held) (o : Option Export) → (resolved_by o p n h).owed ≡ h.owed
same_owed p n h None = refl
same_owed p n h (Some x) = refl

noted_owed : (p : ExportId) (n : ℕ) (h : Held) (e : ℕ) → (note_resolve p n h).owed e ≡ cond (nat_eq e p.0) false (h.owed e)
noted_owed p n h e = ap (λ (f : ℕ → Bool). f e) (same_owed p n (record h { owed = put p.0 false h.owed }) (h.exports p.0)) ∙ put_at p.0 false h.owed e

same_noted : (p : ExportId) (n : ℕ) (h : Held) (e : ℕ) → held e (note_resolve p n h) ≡ held e h
same_noted p n h e = same_count p n (put p.0 false h.owed) h (h.exports p.0) refl e

-- What leads a promise changes nothing else.
record Led (k new : Kept) : Type 0 where
  held : held_of new ≡ held_of k
  questions : new.questions ≡ k.questions
  embargoes : new.embargoes ≡ k.embargoes
  down : new.down ≡ k.down

led : (b : Bool) (p : ExportId) (k : Kept) → Led k (lead_if b p k)
led true p k = record { held = refl; questions = refl; embargoes = refl; down = refl }
led false p k = record { held = refl; questions = refl; embargoes = refl; down = refl }

led_now : (b : Bool) (p : ExportId) (k : Kept) (e : ℕ) → b ≡ true → nat_eq e p.0 ≡ true → (lead_if b p k).led e ≡ true
led_now true p k e f g = put_at p.0 true k.led e ∙ ap (λ (b : Bool). cond b true (k.led e)) g
led_now false p k e f g = absurd (let bad : false ≡ true = f in cc)

led_still : (b : Bool) (p : ExportId) (k : Kept) (e : ℕ) → k.led e ≡ true → (lead_if b p k).led e ≡ true
led_still true p k e h = put_at p.0 true k.led e ∙ by (nat_eq e p.0)
  where
    by : (b : Bool) → cond b true (k.led e) ≡ true
    by true = refl
    by false = h
led_still false p k e h = h

record Resolves (p : ExportId) (to : ResolvedTo) (ds : List Descriptor) (k new : Kept) : Type 0 where
  questions : new.questions ≡ k.questions
  embargoes : new.embargoes ≡ k.embargoes
  down : new.down ≡ k.down
  gives : (e : ℕ) → held e (held_of new) ≡ held e (held_of k) + how_many (nat_eq e) (given ds)
  owes : (e : ℕ) → new.owed e ≡ owe_all (cond (nat_eq e p.0) false (k.owed e)) (gives_in e ds)
  leads_now : (e : ℕ) (z : Descriptor) → nat_eq e p.0 ≡ true → resolves_to to ≡ Some z → leads z ≡ true → new.led e ≡ true
  leads_still : (e : ℕ) → k.led e ≡ true → new.led e ≡ true

resolves : (t : Moment) (p : ExportId) (to : ResolvedTo) (k : Kept) → ((i : ℕ) → held i (held_of k) + how_many (nat_eq i) (given (descriptors_of_resolved to)) ≤ cap)
    → Resolves p to (descriptors_of_resolved to) k (resolve t p (resolution to) k)
resolves t p (resolved.Exception x) k room = record { questions = refl; embargoes = refl; down = refl; gives = λ e. let a = same_noted p t.number (held_of k) e in omega (arith, a); owes = λ e. noted_owed p t.number (held_of k) e; leads_now = λ e z f g h. absurd (let bad : None ≡ Some z = g in cc); leads_still = λ e l. l }
resolves t p (resolved.Cap d) k room =
    let mid = doing (note_resolve p t.number) k in
    let l = led (leads d) p mid in
    let g : Given = record { number = t.number; index = 0; origin = origin.Resolution p } in
    let same = λ (e : ℕ). ap (held e) l.held ∙ same_noted p t.number (held_of k) e in record {
      questions = l.questions;
      embargoes = l.embargoes;
      down = l.down;
      gives = λ e.
          let a = same e in
          let b = given_one d g (held_of (lead_if (leads d) p mid)) e (λ i. let c = same i in let r = room i in omega (arith, c, r)) in
          omega (arith, a, b);
      owes = λ e.
          given_owed t.number (origin.Resolution p) 0 (d ∷ []) (held_of (lead_if (leads d) p mid)) e
          ∙ ap (λ (b : Bool). owe_all b (gives_in e (d ∷ []))) (ap (λ (h : Held). h.owed e) l.held ∙ noted_owed p t.number (held_of k) e);
      leads_now = λ e z f g h. let is : d ≡ z = cc in led_now (leads d) p mid e (ap leads is ∙ h) f;
      leads_still = λ e h. led_still (leads d) p mid e h;
    }

-- ---- Embargoes

pub none_here : {X : Type 0} (o : Option X) → here o ≡ 0 → o ≡ None
none_here None h = refl
none_here (Some x) h = absurd (omega (arith, h))

module _ (i : EmbargoId) (n : ℕ) (k : Kept) where
  begun_so : k.embargoes i.0 ≡ None → begin_embargo i n k ≡ record k { embargoes = put i.0 (Some n) k.embargoes }
  begun_so free = ap (λ (o : Option ℕ). begin_embargo_by o i n k) free

  counts_one : k.embargoes i.0 ≡ None → (e : ℕ) → here (put i.0 (Some n) k.embargoes e) ≡ here (k.embargoes e) + one_if (nat_eq e i.0)
  counts_one free e = ap here (put_at i.0 (Some n) k.embargoes e) ∙ by (nat_eq e i.0) refl
    where
      by : (b : Bool) → nat_eq e i.0 ≡ b → here (cond b (Some n) (k.embargoes e)) ≡ here (k.embargoes e) + one_if b
      by true f = sym (ap (λ (o : Option ℕ). here o + 1) (ap k.embargoes (equal e i.0 f) ∙ free))
      by false f = omega arith

  counts_none : here (k.embargoes i.0) ≡ 1 → (e : ℕ) → here (put i.0 None k.embargoes e) + one_if (nat_eq e i.0) ≡ here (k.embargoes e)
  counts_none begun e = ap (λ (o : Option ℕ). here o + one_if (nat_eq e i.0)) (put_at i.0 None k.embargoes e) ∙ by (nat_eq e i.0) refl
    where
      by : (b : Bool) → nat_eq e i.0 ≡ b → here (cond b None (k.embargoes e)) + one_if b ≡ here (k.embargoes e)
      by true f = sym (ap (λ (j : ℕ). here (k.embargoes j)) (equal e i.0 f) ∙ begun)
      by false f = omega arith

-- ---- Each message

same_body : (b : ReturnBody) → numbers (all_given (descriptors_in (body_results b))) ≡ given (descriptors_of_body b)
same_body (body.Results p ds) = same_given ds
same_body (body.Exception x) = refl
same_body body.Canceled = refl

all_in : (t : Moment) (o : Origin) (b : ReturnBody) (k : Kept) (e : ℕ) → ((i : ℕ) → held i (held_of k) + how_many (nat_eq i) (given (descriptors_of_body b)) ≤ cap)
    → held e (give_from t.number o 0 (descriptors_in (body_results b)) (held_of k)) ≡ held e (held_of k) + how_many (nat_eq e) (given (descriptors_of_body b))
all_in t o (body.Results p ds) k e room = given_all t.number o 0 ds (held_of k) e room
all_in t o (body.Exception x) k e room = omega arith
all_in t o body.Canceled k e room = omega arith

same_said : (b : ReturnBody) → results_said (body_results b) ≡ told_in b
same_said (body.Results p ds) = refl
same_said (body.Exception x) = refl
same_said body.Canceled = refl

owes_in : (t : Moment) (o : Origin) (b : ReturnBody) (k : Kept) (e : ℕ) → (give_from t.number o 0 (descriptors_in (body_results b)) (held_of k)).owed e ≡ owe_all (k.owed e) (gives_in e (descriptors_of_body b))
owes_in t o (body.Results p ds) k e = given_owed t.number o 0 ds (held_of k) e
owes_in t o (body.Exception x) k e = refl
owes_in t o body.Canceled k e = refl

pub first_out : (u : Answerer Ids Ids) (b : Bool) (m : Out Ids Ids) → b ≡ true → OutsFound u (only b m) → OutFound u m
first_out u true m e h = h
first_out u false m e h = absurd (let bad : false ≡ true = e in cc)

pub first_ret : (v : Asker Ids Ids) (b : Bool) (m : Ret Ids Ids) → b ≡ true → RetsFound v (only b m) → RetFound v m
first_ret v true m e h = h
first_ret v false m e h = absurd (let bad : false ≡ true = e in cc)

abbrev New : Moment → PlainMessage → Kept → Kept → Ends
New t m own heard = after t (plain_does m (plain_heading m)) (plain_results m) own heard

-- one that asks
module _ (t : Moment) (m : PlainMessage) (a : Asks) (lets : Ids) (own heard : Kept) (f : Fine m lets own heard) (kind : Kind) where
  asked : a.waived ≡ false → ((q : ℕ) → out_of q m lets ≡ only (nat_eq q a.question.0) (session.Open (given a.descriptors))) → ((q : ℕ) → ret_of q m lets ≡ []) → descriptors_of_plain m ≡ a.descriptors
      → ((e : ℕ) → lets_of e m lets ≡ 0) → ((e : ℕ) → goes_out e (message.Plain m) ≡ false) → ((e : ℕ) → comes_back e (message.Plain m) ≡ false) → ((e : ℕ) → resolves_in e m ≡ []) → ((q : ℕ) (z : Told) → IsTold m q z → ⊥) → ((e : ℕ) (z : Descriptor) → Says m e z → ⊥) → Passes m lets own heard (ask t a (more kind own), heard)
  asked w out ret ds lost no_out no_back no_resolve no_told no_says =
      let k = more kind own in
      let key = a.question.0 in
      let g = given a.descriptors in
      let open_found = first_out (answerer (own.questions key)) (nat_eq key key) (session.Open g) (itself key) (subst (OutsFound (answerer (own.questions key))) (out key) (f.asks key)) in
      let free = none_there (own.questions key) g open_found in
      let room : (e : ℕ) → held e (held_of k) + how_many (nat_eq e) (given a.descriptors) ≤ cap = λ e. subst (λ (l : List Descriptor). held e (held_of own) + how_many (nat_eq e) (given l) ≤ cap) ds (f.room e) in record {
        asked = record {
          hears = λ q. subst (λ (ms : List (Out Ids Ids)). answerer ((ask t a k).questions q) ≡ hear (answerer (own.questions q)) ms) (sym (out q)) (ask_hears t a k w free q);
          sends = λ q. subst (λ (ms : List (Out Ids Ids)). SendsAll (asker (own.questions q)) ms (asker ((ask t a k).questions q))) (sym (out q)) (ask_sends t a k w free q);
          tells = λ q. subst (λ (ms : List (Ret Ids Ids)). asker (heard.questions q) ≡ tell (asker (heard.questions q)) ms) (sym (ret q)) refl;
          returns = λ q. subst (λ (ms : List (Ret Ids Ids)). ReturnsAll (answerer (heard.questions q)) ms (answerer (heard.questions q))) (sym (ret q)) refl;
          still_own = λ q e. ask_still t a k w free q (none_only (nat_eq q key) (session.Open g) (sym (out q) ∙ e));
          still_heard = λ q e. refl;
          told = λ q z h ids f. absurd (no_told q z h);
        };
        counted = record {
          gives = λ e. ask_gives t a k w free e room ∙ ap (λ (l : List Descriptor). held e (held_of own) + how_many (nat_eq e) (given l)) (sym ds);
          takes = λ e. let z = lost e in omega (arith, z);
          begins = λ e. ap (λ (x : ℕ → Option ℕ). here (x e)) (ask_embargoes t a k w free) ∙ (let z : one_if (goes_out e (message.Plain m)) ≡ 0 = ap one_if (no_out e) in omega (arith, z));
          ends = λ e. let z : one_if (comes_back e (message.Plain m)) ≡ 0 = ap one_if (no_back e) in omega (arith, z);
          up = (ask_down t a k w free, refl);
          owes = λ e. ask_owes t a k w free e ∙ ap (λ (l : List Descriptor). owe_all (own.owed e) (gives_in e l)) (sym ds) ∙ ap (λ (l : List Telling). owe_all (own.owed e) (l ++ gives_in e (descriptors_of_plain m))) (sym (no_resolve e));
          keeps = λ e. refl;
          leads_now = λ e z h l. absurd (no_says e z h);
          leads_still = λ e l. ap (λ (g : ℕ → Bool). g e) (ask_led t a k w free) ∙ l;
          same_led = λ e. refl;
        };
      }

module _ (t : Moment) (lets : Ids) (own heard : Kept) where
  pub passes : (m : PlainMessage) → Fine m lets own heard → Passes m lets own heard (New t m own heard)
  passes (plain.Abort x) f = absurd f.useful
  passes (plain.Bootstrap p) f = asked t (plain.Bootstrap p) (bare_question p asked_kind.Bootstrap false) lets own heard f kind.Bootstrap refl (λ q. refl) (λ q. refl) refl (λ e. refl) (λ e. refl) (λ e. refl) (λ e. refl) (λ q z h. h) (λ e z h. h)
  passes (plain.Call c) f = asked t (plain.Call c) (call_asks c false (plain_heading (plain.Call c))) lets own heard f kind.Call refl (λ q. refl) (λ q. refl) refl (λ e. refl) (λ e. refl) (λ e. refl) (λ e. refl) (λ q z h. h) (λ e z h. h)
  passes (plain.Return r) f =
      let a = return_answers r (plain_heading (plain.Return r)) in
      let k = more kind.Return own in
      let res = body_results r.body in
      let key = r.answer.0 in
      let y = given (descriptors_of_body r.body) in
      let to = doing (give_from t.number (origin.Results (asked_of (unanswered_of (heard.questions key)))) 0 (descriptors_in res)) k in
      let one = session.Return y (if_flag r.release_param_caps lets) in
      let h = first_ret (asker (heard.questions key)) (nat_eq key key) one (itself key) (f.answers key) in
      let w = answers_at t a res y lets to heard refl (same_body r.body) f.enough (heard.questions key) refl h in record {
        asked = record {
          hears = λ q. ap (λ (z : Kept). answerer (z.questions q)) w.same;
          sends = λ q. ap (λ (z : Kept). asker (z.questions q)) (sym w.same);
          tells = w.tells;
          returns = w.returns;
          still_own = λ q e. ap (λ (z : Kept). z.questions q) w.same;
          still_heard = λ q e. w.still q (none_only (nat_eq q key) one e);
          told = λ q z h ids f.
              let is = equal q key h.0 in
              ap (λ (j : ℕ). said_of ((New t (plain.Return r) own heard).1.questions j)) is ∙ w.said ids (ap (λ (j : ℕ). asker (heard.questions j)) (sym is) ∙ f) ∙ (same_said r.body ∙ h.1);
        };
        counted = record {
          gives = λ e. ap (λ (z : Kept). held e (held_of z)) w.same ∙ all_in t (origin.Results (asked_of (unanswered_of (heard.questions key)))) r.body k e f.room;
          takes = w.takes;
          begins = λ e. ap (λ (z : Kept). here (z.embargoes e)) w.same ∙ (omega arith);
          ends = λ e. ap (λ (x : ℕ → Option ℕ). here (x e) + 0) w.embargoes ∙ (omega arith);
          up = (ap (λ (z : Kept). z.down) w.same, w.down);
          owes = λ e. ap (λ (z : Kept). z.owed e) w.same ∙ owes_in t (origin.Results (asked_of (unanswered_of (heard.questions key)))) r.body k e;
          keeps = λ e. ap (λ (g : ℕ → Bool). g e) w.keeps;
          leads_now = λ e z h l. absurd h;
          leads_still = λ e l. ap (λ (z : Kept). z.led e) w.same ∙ l;
          same_led = λ e. ap (λ (g : ℕ → Bool). g e) w.led;
        };
      }
  passes (plain.Finish x) f =
      let key = x.question.0 in
      let k = more kind.Finish own in
      let one = session.Fin (if_flag x.release_result_caps lets) in
      let h = first_out (answerer (own.questions key)) (nat_eq key key) one (itself key) (f.asks key) in
      let w = finishes_at t x.question lets k heard (own.questions key) x.release_result_caps refl h f.enough in record {
        asked = record {
          hears = w.hears;
          sends = w.sends;
          tells = λ q. ap (λ (g : ℕ → Option Question). asker (g q)) w.asked;
          returns = λ q. ap (λ (g : ℕ → Option Question). answerer (g q)) (sym w.asked);
          still_own = λ q e. w.still q (none_only (nat_eq q key) one e);
          still_heard = λ q e. ap (λ (g : ℕ → Option Question). g q) w.asked;
          told = λ q z h ids f. absurd h;
        };
        counted = record {
          gives = λ e. let z = w.counts e in omega (arith, z);
          takes = w.takes;
          begins = λ e. ap (λ (g : ℕ → Option ℕ). here (g e)) w.embargoes.0 ∙ (omega arith);
          ends = λ e. ap (λ (g : ℕ → Option ℕ). here (g e) + 0) w.embargoes.1 ∙ (omega arith);
          up = w.down;
          owes = λ e. ap (λ (g : ℕ → Bool). g e) w.keeps.0;
          keeps = λ e. ap (λ (g : ℕ → Bool). g e) w.keeps.1;
          leads_now = λ e z h l. absurd h;
          leads_still = λ e l. ap (λ (g : ℕ → Bool). g e) w.led.0 ∙ l;
          same_led = λ e. ap (λ (g : ℕ → Bool). g e) w.led.1;
        };
      }
  passes (plain.Resolve r) f =
      let w = resolves t r.promise r.to (more kind.Resolve own) f.room in record {
        asked = record {
          hears = λ q. ap (λ (g : ℕ → Option Question). answerer (g q)) w.questions;
          sends = λ q. ap (λ (g : ℕ → Option Question). asker (g q)) (sym w.questions);
          tells = λ q. refl;
          returns = λ q. refl;
          still_own = λ q e. ap (λ (g : ℕ → Option Question). g q) w.questions;
          still_heard = λ q e. refl;
          told = λ q z h ids f. absurd h;
        };
        counted = record {
          gives = w.gives;
          takes = λ e. omega arith;
          begins = λ e. ap (λ (g : ℕ → Option ℕ). here (g e)) w.embargoes ∙ (omega arith);
          ends = λ e. omega arith;
          up = (w.down, refl);
          owes = λ e. w.owes e ∙ only_resolve (own.owed e) (nat_eq e r.promise.0) (gives_in e (descriptors_of_resolved r.to));
          keeps = λ e. refl;
          leads_now = λ e z h l. w.leads_now e z h.0 h.1 l;
          leads_still = w.leads_still;
          same_led = λ e. refl;
        };
      }
  passes (plain.Release r) f =
      let here_all : r.count ≤ held r.export.0 (held_of heard) = subst (λ (b : Bool). cond b r.count 0 ≤ held r.export.0 (held_of heard)) (itself r.export.0) (f.enough r.export.0) in record {
        asked = record { hears = λ q. refl; sends = λ q. refl; tells = λ q. refl; returns = λ q. refl; still_own = λ q e. refl; still_heard = λ q e. refl; told = λ q z h ids f. absurd h };
        counted = record {
          gives = λ e. omega arith;
          takes = λ e. back_one r.export r.count t.number (held_of heard) e here_all;
          begins = λ e. omega arith;
          ends = λ e. omega arith;
          up = (refl, refl);
          owes = λ e. refl;
          keeps = λ e. ap (λ (g : ℕ → Bool). g e) (back_owed r.export r.count t.number (held_of heard));
          leads_now = λ e z h l. absurd h;
          leads_still = λ e l. l;
          same_led = λ e. refl;
        };
      }
  passes (plain.Disembargo d) f = embargoed d.target d.context (record { useful = tt; asks = f.asks; answers = f.answers; room = f.room; enough = f.enough; free = f.free; begun = f.begun; due = f.due })
    where
      embargoed : (g : Target) (c : DisembargoContext) → Fine (plain.Disembargo (record { target = g; context = c })) lets own heard → Passes (plain.Disembargo (record { target = g; context = c })) lets own heard (New t (plain.Disembargo (record { target = g; context = c })) own heard)
      embargoed g (context.SenderLoopback i) f =
          let k = more kind.Disembargo own in
          let free = none_here (own.embargoes i.0) (f.free i.0 (itself i.0)) in
          let so = begun_so i t.number k free in record {
            asked = record { hears = λ q. ap (λ (z : Kept). answerer (z.questions q)) so; sends = λ q. ap (λ (z : Kept). asker (z.questions q)) (sym so); tells = λ q. refl; returns = λ q. refl; still_own = λ q e. ap (λ (z : Kept). z.questions q) so; still_heard = λ q e. refl; told = λ q z h ids f. absurd h };
            counted = record {
              gives = λ e. ap (λ (z : Kept). held e (held_of z)) so ∙ (omega arith);
              takes = λ e. omega arith;
              begins = λ e. ap (λ (z : Kept). here (z.embargoes e)) so ∙ counts_one i t.number k free e;
              ends = λ e. omega arith;
              up = (ap (λ (z : Kept). z.down) so, refl);
              owes = λ e. ap (λ (z : Kept). z.owed e) so;
              keeps = λ e. refl;
              leads_now = λ e z h l. absurd h;
              leads_still = λ e l. ap (λ (z : Kept). z.led e) so ∙ l;
              same_led = λ e. refl;
            };
          }
      embargoed g (context.ReceiverLoopback i) f = record {
        asked = record { hears = λ q. refl; sends = λ q. refl; tells = λ q. refl; returns = λ q. refl; still_own = λ q e. refl; still_heard = λ q e. refl; told = λ q z h ids f. absurd h };
        counted = record {
          gives = λ e. omega arith;
          takes = λ e. omega arith;
          begins = λ e. omega arith;
          ends = λ e. counts_none i t.number heard (f.begun i.0 (itself i.0)) e;
          up = (refl, refl);
          owes = λ e. refl;
          keeps = λ e. refl;
          leads_now = λ e z h l. absurd h;
          leads_still = λ e l. l;
          same_led = λ e. refl;
        };
      }
  passes (plain.Other n) f = absurd f.useful
