-- What is written of what a vat sends and delivers; and that a question which is about to be asked, or is, has no other
-- Call with its id on the way.
use Rattle.std.proofs.Common.{◌≡◌, inl, inr, ℕ, ◌+◌, ◌≤◌, Bool, true, false, nat_eq, Option, None, Some, List, [], ◌∷◌, ◌++◌, map, refl, ap, subst, ◌∙◌, arith}
use Rattle.rpc_msg.specs.declared.ids.Vat.{Vat}
use Rattle.rpc_msg.specs.declared.ids.RefId.{RefId}
use Rattle.rpc_msg.specs.declared.ids.ExportId.{ExportId}
use Rattle.rpc_msg.specs.declared.ids.Stamp.{Stamp}
use Rattle.rpc_msg.specs.declared.message.Message.{Message}
use Rattle.rpc_msg.specs.declared.message.PlainMessage.{PlainMessage}
use Rattle.rpc_msg.specs.declared.message.PlainMessage.TheVariants as plain
use Rattle.rpc_msg.specs.Messages.{given}
use Rattle.rpc_journal.specs.declared.report.Delivery.{Delivery}
use Rattle.rpc_journal.specs.declared.report.Ended.{Ended}
use Rattle.rpc_journal.specs.declared.entry.Origin.{Origin}
use Rattle.rpc_journal.specs.declared.entry.Origin.TheVariants as origin
use Rattle.rpc_journal.specs.declared.entry.JournalEntry.{JournalEntry}
use Rattle.rpc_journal.specs.declared.entry.JournalEntry.TheVariants as entry
use Rattle.rpc_journal.specs.History.{same_vat, or_rest, if_so}
use Rattle.rpc_journal.specs.Sources.{Asking, OfBootstrap, OfCall, at_vat}
use Rattle.rpc_machine.specs.declared.command.CallCommand.{CallCommand}
use Rattle.rpc_machine.specs.declared.command.Command.{Command}
use Rattle.rpc_machine.specs.declared.command.Command.TheVariants as command
use Rattle.rpc_machine.specs.declared.command.Granted.{Granted}
use Rattle.rpc_machine.specs.declared.command.Granted.TheVariants as granted
use Rattle.rpc_machine.specs.declared.command.Effects.{Effects}
use Rattle.rpc_machine.specs.declared.entries.AnswerEntry.{AnswerEntry}
use Rattle.rpc_machine.specs.Journal.{went_down, effect_entries, born, born_promise, asked_entries, made_entries, advanced_entries, granted_entries}
use Rattle.laws_steps.specs.Callers.{AnswersWith}
use Rattle.rpc_machine.specs.Progress.{numbers}
use Rattle.laws_acts.specs.Sent.{Ids, Noted, messages}
use Rattle.laws_runs.specs.Questions as session
use Rattle.laws_runs.specs.Questions.{Asker, Answerer, Out, Ret, Row}
use Rattle.laws_runs.specs.Views.{answered_by, answerer_of, if_flag, only, out_of, outs}
use Rattle.laws_runs.proofs.Reading as reading
use Rattle.laws_meanings.specs.Identities.{asked_by, asked_in, asked_last, asked_one, last_asked, DeliveredIn}
use Rattle.laws_meanings.specs.NodeLabels.{IsIn}

-- ---- What was asked last

pub asked-append : (h es : List JournalEntry) (v : Vat) (q : ℕ) → last_asked (h ++ es) v q ≡ or_rest (last_asked es v q) (last_asked h v q)
asked-append [] es v q = by (last_asked es v q)
  where
    by : (o : Option Asking) → o ≡ or_rest o None
    by None = refl
    by (Some a) = refl
asked-append (x ∷ xs) es v q = ap (λ (o : Option Asking). or_rest o (asked_one v q x)) (asked-append xs es v q) ∙ by (last_asked es v q)
  where
    by : (o : Option Asking) → or_rest (or_rest o (last_asked xs v q)) (asked_one v q x) ≡ or_rest o (or_rest (last_asked xs v q) (asked_one v q x))
    by None = refl
    by (Some a) = refl

module _ (v : Vat) (q : ℕ) where
  pub none_more : (h es : List JournalEntry) → last_asked es v q ≡ None → last_asked (h ++ es) v q ≡ last_asked h v q
  none_more h es e = asked-append h es v q ∙ ap (λ (o : Option Asking). or_rest o (last_asked h v q)) e

  of_deliveries : (u : Vat) (ds : List Delivery) → last_asked (map (entry.Delivered u) ds) v q ≡ None
  of_deliveries u [] = refl
  of_deliveries u (d ∷ ds) = ap (λ (o : Option Asking). or_rest o None) (of_deliveries u ds)

  of_ends : (u : Vat) (xs : List Ended) → last_asked (map (entry.Ended u) xs) v q ≡ None
  of_ends u [] = refl
  of_ends u (x ∷ xs) = ap (λ (o : Option Asking). or_rest o None) (of_ends u xs)

  of_down : (u : Vat) (o : Option ℕ) → last_asked (went_down u o) v q ≡ None
  of_down u None = refl
  of_down u (Some n) = refl

  of_sends : (ms : List Message) → last_asked (map (entry.Sent v) ms) v q ≡ asked_last q ms
  of_sends [] = refl
  of_sends (m ∷ ms) = by (same_vat v v) (reading.itself v) (of_sends ms)
    where
      by : (b : Bool) → b ≡ true → last_asked (map (entry.Sent v) ms) v q ≡ asked_last q ms → or_rest (last_asked (map (entry.Sent v) ms) v q) (at_vat b (asked_in q m)) ≡ or_rest (asked_last q ms) (asked_in q m)
      by b e f = rw e (ap (λ (o : Option Asking). or_rest o (asked_in q m)) f)

  of_others : (u : Vat) → same_vat v u ≡ false → (ms : List Message) → last_asked (map (entry.Sent u) ms) v q ≡ None
  of_others u f [] = refl
  of_others u f (m ∷ ms) = ap (λ (o : Option Asking). or_rest o (at_vat (same_vat v u) (asked_in q m))) (of_others u f ms) ∙ ap (λ (b : Bool). at_vat b (asked_in q m)) f

  only_sends : (u : Vat) (x : Effects) → last_asked (effect_entries u x) v q ≡ last_asked (map (entry.Sent u) x.sends) v q
  only_sends u x =
      let ms = map (entry.Sent u) x.sends in
      let ds = map (entry.Delivered u) x.deliveries in
      let es = map (entry.Ended u) x.answers in
      none_more (ms ++ ds ++ es) (went_down u x.down) (of_down u x.down) ∙ none_more (ms ++ ds) es (of_ends u x.answers) ∙ none_more ms ds (of_deliveries u x.deliveries)

  pub of_effects : (x : Effects) → last_asked (effect_entries v x) v q ≡ asked_last q x.sends
  of_effects x = only_sends v x ∙ of_sends x.sends

  pub of_other_effects : (u : Vat) → same_vat v u ≡ false → (x : Effects) → last_asked (effect_entries u x) v q ≡ None
  of_other_effects u f x = only_sends u x ∙ of_others u f x.sends

  of_born : (u : Vat) (o : Origin) (g : Granted) → last_asked (born u o g) v q ≡ None
  of_born u o (granted.Reference r) = refl
  of_born u o g = refl

  of_promise : (u : Vat) (g : Granted) → last_asked (born_promise u g) v q ≡ None
  of_promise u (granted.Promise p r) = refl
  of_promise u g = refl

  of_asked : (u : Vat) (g : Granted) → last_asked (asked_entries u g) v q ≡ None
  of_asked u (granted.Call c) = refl
  of_asked u g = refl

  of_made : (u : Vat) (h : List JournalEntry) (c : CallCommand) (g : Granted) → last_asked (made_entries h u c g) v q ≡ None
  of_made u h c (granted.Call id) = refl
  of_made u h c g = refl

  of_advanced : (u : Vat) (r : RefId) (g : Granted) → last_asked (advanced_entries u r g) v q ≡ None
  of_advanced u r (granted.Advanced a) = refl
  of_advanced u r g = refl

  pub of_own : (u : Vat) (h : List JournalEntry) (c : Command) (g : Granted) → last_asked (granted_entries h u c g) v q ≡ None
  of_own u h (command.Host o) g = of_born u (origin.Object o) g
  of_own u h (command.CloneRef r) g = of_born u (origin.Clone r) g
  of_own u h (command.DropRef r) g = refl
  of_own u h command.Bootstrap g = of_asked u g
  of_own u h (command.Call c) g = of_made u h c g
  of_own u h (command.Field c path) g = of_born u (origin.Field c path) g
  of_own u h command.Promise g = of_promise u g
  of_own u h (command.Resolve p r) g = refl
  of_own u h (command.Reject p why) g = refl
  of_own u h (command.Answer t payload refs) g = refl
  of_own u h (command.Fail t why) g = refl
  of_own u h (command.Finish c) g = refl
  of_own u h (command.Advance r) g = of_advanced u r g
  of_own u h (command.Shut n) g = refl

-- ---- Deliveries

module _ (v : Vat) (k : ℕ) (s : Stamp) where
  pub ahead : (h es : List JournalEntry) → DeliveredIn h v k s → DeliveredIn (h ++ es) v k s
  ahead [] es i = absurd i
  ahead (x ∷ xs) es (inl i) = inl i
  ahead (x ∷ xs) es (inr i) = inr (ahead xs es i)

  pub behind : (h es : List JournalEntry) → DeliveredIn es v k s → DeliveredIn (h ++ es) v k s
  behind [] es i = i
  behind (x ∷ xs) es i = inr (behind xs es i)

  told : (ds : List Delivery) → IsIn k s ds → DeliveredIn (map (entry.Delivered v) ds) v k s
  told [] i = absurd i
  told (d ∷ ds) (inl i) = inl (d, refl, i.0, i.1)
  told (d ∷ ds) (inr i) = inr (told ds i)

  pub in_effects : (x : Effects) → IsIn k s x.deliveries → DeliveredIn (effect_entries v x) v k s
  in_effects x i =
      let ms = map (entry.Sent v) x.sends in
      let ds = map (entry.Delivered v) x.deliveries in
      let es = map (entry.Ended v) x.answers in
      ahead (ms ++ ds ++ es) (went_down v x.down) (ahead (ms ++ ds) es (behind ms ds (told x.deliveries i)))

-- ---- Rows

abbrev opens : List (Out Ids Ids) → ℕ
opens [] = 0
opens (session.Open x ∷ ms) = 1 + opens ms
opens (session.Fin l ∷ ms) = opens ms

opens-append : (xs ys : List (Out Ids Ids)) → opens (xs ++ ys) ≡ opens xs + opens ys
opens-append [] ys = omega arith
opens-append (session.Open x ∷ xs) ys = let e = opens-append xs ys in omega arith
opens-append (session.Fin l ∷ xs) ys = opens-append xs ys

abbrev IsWorking : Answerer Ids Ids → Type 0
IsWorking session.NotOpen = ⊥
IsWorking (session.Working x) = Unit {0}
IsWorking (session.Unwanted x) = Unit {0}
IsWorking (session.Answered y) = ⊥
IsWorking session.Strange = ⊥

abbrev IsSome : List (Ret Ids Ids) → Type 0
IsSome [] = ⊥
IsSome (r ∷ rs) = Unit {0}

-- At most one opens the session; and none while it is worked on or returning.
abbrev OneOpens : List (Out Ids Ids) → Answerer Ids Ids → List (Ret Ids Ids) → Type 0
OneOpens out u back = (opens out ≤ 1) × (IsWorking u → opens out ≡ 0) × (IsSome back → opens out ≡ 0)

one_opens : (v : Asker Ids Ids) (out : List (Out Ids Ids)) (u : Answerer Ids Ids) (back : List (Ret Ids Ids)) → Row v out u back → OneOpens out u back
one_opens v out u back session.Idle = (omega arith, λ i. refl, λ i. refl)
one_opens v out u back (session.Closing y l j) = (omega arith, λ i. refl, λ i. refl)
one_opens v out u back (session.Sent x) = (omega arith, λ i. absurd i, λ i. absurd i)
one_opens v out u back (session.SentBehind y l x j) = (omega arith, λ i. absurd i, λ i. absurd i)
one_opens v out u back (session.Held x) = (omega arith, λ i. refl, λ i. refl)
one_opens v out u back (session.Returning x y l j) = (omega arith, λ i. refl, λ i. refl)
one_opens v out u back (session.Returned y) = (omega arith, λ i. refl, λ i. refl)
one_opens v out u back (session.EarlySent x) = (omega arith, λ i. absurd i, λ i. absurd i)
one_opens v out u back (session.EarlyBehind y l x j) = (omega arith, λ i. absurd i, λ i. absurd i)
one_opens v out u back (session.EarlyHeld x) = (omega arith, λ i. refl, λ i. refl)
one_opens v out u back (session.EarlyCrossed x y l j) = (omega arith, λ i. refl, λ i. refl)
one_opens v out u back (session.EarlyWaits x) = (omega arith, λ i. refl, λ i. refl)
one_opens v out u back (session.EarlyReturning x y l j) = (omega arith, λ i. refl, λ i. refl)

module _ (q : ℕ) where
  abbrev asks_so : Option Asking → ℕ → Type 0
  asks_so None n = n ≡ 0
  asks_so (Some a) n = n ≡ 1

  one_asks : (m : PlainMessage) (l : Ids) → asks_so (asked_by q m) (opens (out_of q m l))
  one_asks (plain.Abort x) l = refl
  one_asks (plain.Bootstrap p) l = by (nat_eq q p.0)
    where
      by : (b : Bool) → asks_so (if_so b OfBootstrap) (opens (only b (session.Open [])))
      by true = refl
      by false = refl
  one_asks (plain.Call c) l = by (nat_eq q c.question.0)
    where
      by : (b : Bool) → asks_so (if_so b (OfCall c.stamp)) (opens (only b (session.Open (given c.descriptors))))
      by true = refl
      by false = refl
  one_asks (plain.Return r) l = refl
  one_asks (plain.Finish f) l = by (nat_eq q f.question.0)
    where
      by : (b : Bool) → opens (only b (session.Fin (if_flag f.release_result_caps l))) ≡ 0
      by true = refl
      by false = refl
  one_asks (plain.Resolve r) l = refl
  one_asks (plain.Release r) l = refl
  one_asks (plain.Disembargo d) l = refl
  one_asks (plain.Other n) l = refl

  none_asks : (ns : List Noted) → opens (outs q ns) ≡ 0 → asked_last q (messages ns) ≡ None
  none_asks [] e = refl
  none_asks (n ∷ ns) e =
      let a = opens-append (out_of q n.message n.lets) (outs q ns) in
      ap (λ (o : Option Asking). or_rest o (asked_by q n.message)) (none_asks ns (omega arith)) ∙ by (asked_by q n.message) (one_asks n.message n.lets) (omega arith)
    where
      by : (o : Option Asking) → asks_so o (opens (out_of q n.message n.lets)) → opens (out_of q n.message n.lets) ≡ 0 → o ≡ None
      by None f g = refl
      by (Some a) f g = absurd (omega arith)

  -- Behind the one that asks none asks.
  pub first_asks : (n : Noted) (ns : List Noted) (v : Asker Ids Ids) (u : Answerer Ids Ids) (back : List (Ret Ids Ids)) (a : Asking) → Row v (outs q (n ∷ ns)) u back → asked_by q n.message ≡ Some a → asked_last q (messages ns) ≡ None
  first_asks n ns v u back a row e =
      let o = (one_opens v (outs q (n ∷ ns)) u back row).0 in
      let b = opens-append (out_of q n.message n.lets) (outs q ns) in
      let c : opens (out_of q n.message n.lets) ≡ 1 = subst (λ (z : Option Asking). asks_so z (opens (out_of q n.message n.lets))) e (one_asks n.message n.lets) in
      none_asks ns (omega arith)

  answers_with : (o : ℕ) (a : Option AnswerEntry) → AnswersWith o a → IsWorking (answerer_of a)
  answers_with o None i = absurd i
  answers_with o (Some a) i = by a.returned a.finished i.1
    where
      by : (r : Option (List ExportId)) (f : Bool) → r ≡ None → IsWorking (answered_by (numbers a.taken) r f)
      by None false e = tt
      by None true e = tt
      by (Some x) f e = absurd (let bad : Some x ≡ None = e in cc)

  pub while_working : (ns : List Noted) (v : Asker Ids Ids) (o : ℕ) (a : Option AnswerEntry) (back : List (Ret Ids Ids)) → Row v (outs q ns) (answerer_of a) back → AnswersWith o a → asked_last q (messages ns) ≡ None
  while_working ns v o a back row i = none_asks ns ((one_opens v (outs q ns) (answerer_of a) back row).1 (answers_with o a i))

  pub while_returning : (ns : List Noted) (v : Asker Ids Ids) (u : Answerer Ids Ids) (r : Ret Ids Ids) (rs : List (Ret Ids Ids)) → Row v (outs q ns) u (r ∷ rs) → asked_last q (messages ns) ≡ None
  while_returning ns v u r rs row = none_asks ns ((one_opens v (outs q ns) u (r ∷ rs) row).2 tt)
