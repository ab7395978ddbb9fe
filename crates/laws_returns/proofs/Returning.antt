-- What is open and what was returned, at each moment of a step. An answer whose Return is owed or being made was not returned, and no
-- other outcome waits for it: so each Return that is sent closes one.
use Rattle.std.proofs.Common.{◌≡◌, ℕ, ◌+◌, Bool, true, false, cond, nat_eq, List, [], ◌∷◌, ◌++◌, Option, None, Some, refl, sym, ap, subst, ◌∙◌, arith}
use Rattle.std.specs.FinMap as map
use Rattle.finite_maps.specs.Tally.{Map}
use Rattle.finite_maps.proofs.Tested.{itself, at_put, at_cut, get_put}
use Rattle.rpc_msg.specs.declared.ids.ExportId.{ExportId}
use Rattle.rpc_msg.specs.declared.ids.QuestionId.{QuestionId}
use Rattle.rpc_msg.specs.declared.message.PlainMessage.{PlainMessage}
use Rattle.rpc_msg.specs.declared.message.PlainMessage.TheVariants as plain
use Rattle.rpc_msg.specs.Messages.{given}
use Rattle.rpc_msg.specs.declared.message.DisembargoContext.TheVariants.{SenderLoopback, ReceiverLoopback}
use Rattle.rpc_msg.specs.declared.message.ResolvedTo.TheVariants as resolved
use Rattle.rpc_msg.specs.declared.message.Message.{Message}
use Rattle.rpc_msg.specs.declared.message.Message.TheVariants as message
use Rattle.rpc_machine.specs.declared.command.Level.{Level}
use Rattle.rpc_machine.specs.declared.command.Level.TheVariants.{Zero, One}
use Rattle.rpc_machine.specs.declared.command.Command.{Command}
use Rattle.rpc_machine.specs.declared.command.Granted.{Granted}
use Rattle.rpc_machine.specs.declared.command.Effects.{Effects}
use Rattle.rpc_machine.specs.declared.calls.Caller.{Caller}
use Rattle.rpc_machine.specs.declared.calls.Caller.TheVariants as caller
use Rattle.rpc_machine.specs.declared.calls.KeptOutcome.{KeptOutcome}
use Rattle.rpc_machine.specs.declared.calls.Value.{Value}
use Rattle.rpc_machine.specs.declared.entries.AnswerEntry.{AnswerEntry}
use Rattle.rpc_machine.specs.State.{State}
use Rattle.rpc_machine.specs.Commands.{request}
use Rattle.rpc_machine.specs.Descriptors.{taken_of}
use Rattle.rpc_machine.specs.Flags.{flag_for}
use Rattle.rpc_machine.specs.Progress.{export_ids, numbers}
use Rattle.rpc_machine.specs.Settling.{or_failed, resolve_message, returned_map}
use Rattle.rpc_machine.specs.Sweeping.{got_of}
use Rattle.rpc_machine.specs.Messages.{finished_map}
use Rattle.rpc_machine.specs.Faults.{fault_of, is_foreign}
use Rattle.rpc_machine.specs.Steps.{Does, Handles}
use Rattle.laws_steps.specs.Callers.{peer, IsOpenFor, AnswersWith}
use Rattle.laws_acts.specs.Moments.{Saying, Moment, beginning}
use Rattle.laws_acts.specs.FirstActs.{Starts}
use Rattle.laws_acts.specs.FirstActs as first
use Rattle.laws_acts.specs.MessageActs.{Consumes, Brings, ByReturn, ByEchoedRoot, ByEchoedCall, Back}
use Rattle.laws_acts.specs.MessageActs as consume
use Rattle.laws_acts.specs.SmallActs.{Act, kept_known, release_messages}
use Rattle.laws_acts.specs.SmallActs as act
use Rattle.laws_acts.proofs.EachStep.{done, handled, at_end}
use Rattle.laws_nodes.specs.Ones.{one_if}
use Rattle.laws_returns.specs.Counts.{asks, asks_plain, returns, returns_in}
use Rattle.laws_returns.specs.Steps.{unreturned, is_open, open_in}

-- ---- Lists of messages

pub returns-append : (q : ℕ) (xs ys : List Message) → returns_in q (xs ++ ys) ≡ returns_in q xs + returns_in q ys
returns-append q [] ys = omega arith
returns-append q (m ∷ xs) ys = let e = returns-append q xs ys in omega arith

-- ---- What is carried

-- Each outcome of which the peer is to be told has its answer, which was not returned.
abbrev Opens : Map KeptOutcome → Map AnswerEntry → Type 0
Opens os m = (o q : ℕ) → IsOpenFor q (map.get os o) → AnswersWith o (map.get m q)

-- The answer was not returned, and no outcome waits to be told by it.
abbrev IsDue : Map KeptOutcome → Map AnswerEntry → ℕ → Type 0
IsDue os m q = (is_open (map.get m q) ≡ 1) × ((o : ℕ) → IsOpenFor q (map.get os o) → ⊥)

abbrev AreTold : List (Caller × Value) → Map KeptOutcome → Map AnswerEntry → Type 0
AreTold telling os m = (q : QuestionId) (v : Value) → telling ≡ (caller.Peer q, v) ∷ [] → IsDue os m q.0

abbrev AreSaid : Option Saying → List (Caller × Value) → Map KeptOutcome → Map AnswerEntry → Type 0
AreSaid saying telling os m = (x : Saying) → saying ≡ Some x → IsDue os m x.answer.0 × (telling ≡ [])

pub record Fine (telling : List (Caller × Value)) (saying : Option Saying) (os : Map KeptOutcome) (m : Map AnswerEntry) : Type 0 where
  pub opens : Opens os m
  pub told : AreTold telling os m
  pub said : AreSaid saying telling os m

abbrev FineAt : Moment → Type 0
FineAt d = Fine d.telling d.saying d.state.outcomes d.state.answers

-- Of what came, so much was returned and is open.
abbrev Counts : (ℕ → ℕ) → List Message → Map AnswerEntry → Type 0
Counts came sends m = (q : ℕ) → came q ≡ returns_in q sends + is_open (map.get m q)

abbrev IsCounted : (ℕ → ℕ) → Moment → Type 0
IsCounted came d = Counts came d.effects.sends d.state.answers

abbrev Stands : (ℕ → ℕ) → Moment → Type 0
Stands came d = FineAt d × IsCounted came d

-- ---- Nothing is owed

nobody_told : (os : Map KeptOutcome) (m : Map AnswerEntry) → AreTold [] os m
nobody_told os m q v e = absurd (let bad : [] ≡ (caller.Peer q, v) ∷ [] = e in cc)

nothing_said : (telling : List (Caller × Value)) (os : Map KeptOutcome) (m : Map AnswerEntry) → AreSaid None telling os m
nothing_said telling os m x e = absurd (let bad : None ≡ Some x = e in cc)

at_rest : (os : Map KeptOutcome) (m : Map AnswerEntry) → Opens os m → Fine [] None os m
at_rest os m h = record { opens = h; told = nobody_told os m; said = nothing_said [] os m }

-- ---- Outcomes

-- No more outcomes wait than before.
fewer : (t : List (Caller × Value)) (y : Option Saying) (os new : Map KeptOutcome) (m : Map AnswerEntry) → ((o q : ℕ) → IsOpenFor q (map.get new o) → IsOpenFor q (map.get os o)) → Fine t y os m → Fine t y new m
fewer t y os new m f h = record {
  opens = λ o q k. h.opens o q (f o q k);
  told = λ q v e. let g = h.told q v e in (g.0, λ o k. g.1 o (f o q.0 k));
  said = λ x e. let g = h.said x e in ((g.0.0, λ o k. g.0.1 o (f o x.answer.0 k)), g.1);
}

put_fewer : (os : Map KeptOutcome) (o : ℕ) (y : KeptOutcome) → ((q : ℕ) → IsOpenFor q (Some y) → IsOpenFor q (map.get os o)) → (k q : ℕ) → IsOpenFor q (map.get (map.insert os o y) k) → IsOpenFor q (map.get os k)
put_fewer os o y f k q = at_put (λ j z. IsOpenFor q z → IsOpenFor q (map.get os j)) os o y (f q) (λ j e i. i) k

cut_fewer : (os : Map KeptOutcome) (o : ℕ) (k q : ℕ) → IsOpenFor q (map.get (map.remove os o) k) → IsOpenFor q (map.get os k)
cut_fewer os o k q = at_cut (λ j z. IsOpenFor q z → IsOpenFor q (map.get os j)) os o (λ i. absurd i) (λ j e i. i) k

abbrev new_outcome : Caller → KeptOutcome
new_outcome who = record { caller = who; value = None; waiting = [] }

own_outcome : (os : Map KeptOutcome) (o c : ℕ) (m : Map AnswerEntry) → Fine [] None os m → Fine [] None (map.insert os o (new_outcome (caller.Application (record { 0 = c })))) m
own_outcome os o c m h = fewer [] None os _ m (put_fewer os o (new_outcome (caller.Application (record { 0 = c }))) (λ q i. absurd (let e : caller.Application (record { 0 = c }) ≡ peer q = i.1 in cc))) h

known_none : (c : Caller) (v : Value) (w : List _) (q : ℕ) → IsOpenFor q (Some (kept_known c v w)) → ⊥
known_none c v w q i = let e : Some v ≡ None = i.0 in cc

-- ---- Answers

unanswered : (o : ℕ) (z : Option AnswerEntry) → AnswersWith o z → is_open z ≡ 1
unanswered o None h = absurd h
unanswered o (Some a) h = ap unreturned h.1

same_outcome : (o k : ℕ) (z : Option AnswerEntry) → AnswersWith o z → AnswersWith k z → k ≡ o
same_outcome o k None h i = absurd h
same_outcome o k (Some a) h i = sym i.0 ∙ h.0

-- The outcome becomes known, and its caller is to be told.
knows : (os : Map KeptOutcome) (m : Map AnswerEntry) (o : ℕ) (x : KeptOutcome) (fit : Value) → map.get os o ≡ Some x → x.value ≡ None → Opens os m → Fine ((x.caller, fit) ∷ []) None (map.insert os o (kept_known x.caller fit x.waiting)) m
knows os m o x fit there unknown h = record {
  opens = λ k q i. h k q (less k q i);
  told = λ q v e. let a = mine q v e in (unanswered o (map.get m q.0) a, λ k i. none q a k i);
  said = nothing_said _ _ m;
}
  where
    less : (k q : ℕ) → IsOpenFor q (map.get (map.insert os o (kept_known x.caller fit x.waiting)) k) → IsOpenFor q (map.get os k)
    less = put_fewer os o (kept_known x.caller fit x.waiting) (λ q i. absurd (known_none x.caller fit x.waiting q i))

    mine : (q : QuestionId) (v : Value) → ◌≡◌ {A = List (Caller × Value)} ((x.caller, fit) ∷ []) ((caller.Peer q, v) ∷ []) → AnswersWith o (map.get m q.0)
    mine q v e =
        let one : ◌≡◌ {A = Caller × Value} (x.caller, fit) (caller.Peer q, v) = cc in
        let who : x.caller ≡ caller.Peer q = ap (λ (p : Caller × Value). p.0) one in
        h o q.0 (subst (IsOpenFor q.0) (sym there) (unknown, who))

    none : (q : QuestionId) → AnswersWith o (map.get m q.0) → (k : ℕ) → IsOpenFor q.0 (map.get (map.insert os o (kept_known x.caller fit x.waiting)) k) → ⊥
    none q a = at_put (λ k z. IsOpenFor q.0 z → ⊥) os o (kept_known x.caller fit x.waiting) (known_none x.caller fit x.waiting q.0)
        (λ k e i. let same = same_outcome o k (map.get m q.0) a (h k q.0 i) in let bad : nat_eq k o ≡ true = ap (λ j. nat_eq j o) same ∙ itself o in cc)

abbrev entry : ℕ → List ExportId → AnswerEntry
entry o ids = record { outcome = o; taken = ids; returned = None; finished = false }

-- An answer opens, with its outcome.
answer_opens : (os : Map KeptOutcome) (m : Map AnswerEntry) (o k : ℕ) (ids : List ExportId) → map.get m k ≡ None → map.get os o ≡ None → Opens os m → Opens (map.insert os o (new_outcome (peer k))) (map.insert m k (entry o ids))
answer_opens os m o k ids none free h p q =
    at_put (λ j z. IsOpenFor q z → AnswersWith j (map.get (map.insert m k (entry o ids)) q)) os o (new_outcome (peer k)) here (λ j e i. others j (h j q i)) p
  where
    here : IsOpenFor q (Some (new_outcome (peer k))) → AnswersWith o (map.get (map.insert m k (entry o ids)) q)
    here i =
        let who : peer k ≡ peer q = i.1 in
        let id : ◌≡◌ {A = QuestionId} (record { 0 = k }) (record { 0 = q }) = cc in
        let same : k ≡ q = ap (λ (j : QuestionId). j.0) id in
        subst (λ j. AnswersWith o (map.get (map.insert m k (entry o ids)) j)) same
        (subst (AnswersWith o) (sym (get_put m k (entry o ids) k ∙ ap (λ b. cond b (Some (entry o ids)) (map.get m k)) (itself k))) (refl, refl))

    others : (j : ℕ) → AnswersWith j (map.get m q) → AnswersWith j (map.get (map.insert m k (entry o ids)) q)
    others j = at_put (λ i z. AnswersWith j (map.get m i) → AnswersWith j z) m k (entry o ids) (λ a. absurd (subst (AnswersWith j) none a)) (λ i e a. a) q

opened_more : (q : ℕ) (m : Map AnswerEntry) (o k : ℕ) (ids : List ExportId) → map.get m k ≡ None → one_if (nat_eq q k) + is_open (map.get m q) ≡ is_open (map.get (map.insert m k (entry o ids)) q)
opened_more q m o k ids none = at_put (λ j z. one_if (nat_eq j k) + is_open (map.get m j) ≡ is_open z) m k (entry o ids) here others q
  where
    here : one_if (nat_eq k k) + is_open (map.get m k) ≡ 1
    here = let a = ap one_if (itself k) in let b = ap is_open none in omega (arith, a, b)

    others : (j : ℕ) → nat_eq j k ≡ false → one_if (nat_eq j k) + is_open (map.get m j) ≡ is_open (map.get m j)
    others j e = let a = ap one_if e in omega (arith, a)

-- Its Finish comes.
finish_opens : (os : Map KeptOutcome) (m : Map AnswerEntry) (k : ℕ) (a : AnswerEntry) (r : Option (List ExportId)) → a.returned ≡ r → map.get m k ≡ Some a → Opens os m → Opens os (finished_map m k a r)
finish_opens os m k a None e there h p q = at_put (λ j z. IsOpenFor j (map.get os p) → AnswersWith p z) m k (record a { finished = true }) (λ i. subst (AnswersWith p) there (h p k i)) (λ j f i. h p j i) q
finish_opens os m k a (Some ids) e there h p q =
    at_cut (λ j z. IsOpenFor j (map.get os p) → AnswersWith p z) m k
    (λ i. absurd (let b = subst (AnswersWith p) there (h p k i) in let bad : Some ids ≡ None = sym e ∙ b.1 in cc)) (λ j f i. h p j i) q

finished_same : (q : ℕ) (m : Map AnswerEntry) (k : ℕ) (a : AnswerEntry) (r : Option (List ExportId)) → a.returned ≡ r → map.get m k ≡ Some a → is_open (map.get m q) ≡ is_open (map.get (finished_map m k a r) q)
finished_same q m k a None e there = at_put (λ j z. is_open (map.get m j) ≡ is_open z) m k (record a { finished = true }) (ap is_open there) (λ j f. refl) q
finished_same q m k a (Some ids) e there = at_cut (λ j z. is_open (map.get m j) ≡ is_open z) m k (ap is_open there ∙ ap unreturned e) (λ j f. refl) q

-- Its Return is sent.
return_opens : (os : Map KeptOutcome) (m : Map AnswerEntry) (k : ℕ) (a : AnswerEntry) (b : Bool) (ids : List ℕ) → ((o : ℕ) → IsOpenFor k (map.get os o) → ⊥) → Opens os m → Opens os (returned_map m k a b ids)
return_opens os m k a true ids none h p q = at_cut (λ j z. IsOpenFor j (map.get os p) → AnswersWith p z) m k (λ i. absurd (none p i)) (λ j f i. h p j i) q
return_opens os m k a false ids none h p q = at_put (λ j z. IsOpenFor j (map.get os p) → AnswersWith p z) m k (record a { returned = _ }) (λ i. absurd (none p i)) (λ j f i. h p j i) q

returned_less : (q : ℕ) (m : Map AnswerEntry) (k : ℕ) (a : AnswerEntry) (b : Bool) (ids : List ℕ) → is_open (map.get m k) ≡ 1 → is_open (map.get m q) ≡ one_if (nat_eq q k) + is_open (map.get (returned_map m k a b ids) q)
returned_less q m k a b ids due = by b
  where
    here : is_open (map.get m k) ≡ one_if (nat_eq k k) + 0
    here = let i = ap one_if (itself k) in omega (arith, i, due)

    others : (j : ℕ) → nat_eq j k ≡ false → is_open (map.get m j) ≡ one_if (nat_eq j k) + is_open (map.get m j)
    others j e = let i = ap one_if e in omega (arith, i)

    by : (b : Bool) → is_open (map.get m q) ≡ one_if (nat_eq q k) + is_open (map.get (returned_map m k a b ids) q)
    by true = at_cut (λ j z. is_open (map.get m j) ≡ one_if (nat_eq j k) + is_open z) m k here others q
    by false = at_put (λ j z. is_open (map.get m j) ≡ one_if (nat_eq j k) + is_open z) m k (record a { returned = _ }) here others q

-- ---- Acts that return nothing

-- One more message, which is no Return.
module _ (came : ℕ → ℕ) (m : Map AnswerEntry) where
  says : (sends : List Message) (said : Message) → ((q : ℕ) → returns q said ≡ 0) → Counts came sends m → Counts came (sends ++ said ∷ []) m
  says sends said none h q = let e = returns-append q sends (said ∷ []) in let n = none q in let i = h q in omega (arith, e, n, i)

  says_all : (sends more : List Message) → ((q : ℕ) → returns_in q more ≡ 0) → Counts came sends m → Counts came (sends ++ more) m
  says_all sends more none h q = let e = returns-append q sends more in let n = none q in let i = h q in omega (arith, e, n, i)

releases_none : (xs : List (ℕ × ℕ)) (q : ℕ) → returns_in q (release_messages xs) ≡ 0
releases_none [] q = refl
releases_none (x ∷ xs) q = let e = releases_none xs q in omega (arith, e)

-- ---- The first act

-- Nobody is told but the application.
own_told : (c v : _) (os : Map KeptOutcome) (m : Map AnswerEntry) → AreTold ((caller.Application c, v) ∷ []) os m
own_told c v os m q w e =
    absurd (let one : ◌≡◌ {A = Caller × Value} (caller.Application c, v) (caller.Peer q, w) = cc in let two : caller.Application c ≡ caller.Peer q = ap (λ (p : Caller × Value). p.0) one in cc)

module _ (s : State) (came : ℕ → ℕ) (i : Stands came (beginning s)) where
  started : (c : Command) (g : Granted) (new : Moment) → Starts (beginning s) c g new → Stands came new
  started c g new (first.Hosts o e a h) = rw h i
  started c g new (first.Clones r x e f a h) = rw h i
  started c g new (first.Drops r x e f a h) = rw h i
  started c g new (first.AsksRoot q e f a h) = rw h (i.0, says came s.answers [] (message.Plain (plain.Bootstrap (record { 0 = q }))) (λ p. refl) i.1)
  started c g new (first.CallsOut k x q t ds es e f j l m n a h) = rw h (i.0, says came s.answers [] (message.Plain (first.asking q t (request s k x) ds)) (λ p. refl) i.1)
  started c g new (first.CallsHere k x o e f j l m a h) = rw h (own_outcome s.outcomes o s.next_call s.answers i.0, i.1)
  started c g new (first.CallsLater k x o y b e f j l m a h) = rw h (own_outcome s.outcomes o s.next_call s.answers i.0, i.1)
  started c g new (first.NamesField k path from e f a h) = rw h i
  started c g new (first.Promises p e f a h) = rw h i
  started c g new (first.Fixes p r x key calls e f j k a h) = rw h i
  started c g new (first.Rejects p why key calls e f j a h) = rw h i
  started c g new (first.Answers t payload refs o e f a h) = rw h i
  started c g new (first.Fails t why o e f a h) = rw h i
  started c g new (first.Finishes k from e f a h) = rw h i
  started c g new (first.StaysPut r x e f a h) = rw h i
  started c g new (first.Breaks r x reason e f j k a h) = rw h i
  started c g new (first.Switches r x by n e f j k l m a h) = rw h i
  started c g new (first.Turns r x by n t k e f j l m o w u a h) =
      rw h (i.0, says came s.answers [] (message.Plain (plain.Disembargo (record { target = t; context = SenderLoopback (record { 0 = k }) }))) (λ p. refl) i.1)

foreign_asks : (q : ℕ) (l : Level) (p : PlainMessage) → is_foreign l p ≡ true → asks_plain q p ≡ 0
foreign_asks q One p e = absurd (let bad : false ≡ true = e in cc)
foreign_asks q Zero (plain.Abort x) e = refl
foreign_asks q Zero (plain.Bootstrap p) e = absurd (let bad : false ≡ true = e in cc)
foreign_asks q Zero (plain.Call c) e = absurd (let bad : false ≡ true = e in cc)
foreign_asks q Zero (plain.Return r) e = refl
foreign_asks q Zero (plain.Finish f) e = refl
foreign_asks q Zero (plain.Resolve r) e = refl
foreign_asks q Zero (plain.Release r) e = refl
foreign_asks q Zero (plain.Disembargo d) e = refl
foreign_asks q Zero (plain.Other n) e = refl

back_asks : (q : ℕ) (s : State) (m : Message) (b : Back) → Brings s m b → asks q m ≡ 0
back_asks q s m b (ByReturn r e f) = ap (asks q) e
back_asks q s m b (ByEchoedRoot p e f) = ap (asks q) e
back_asks q s m b (ByEchoedCall c e f) = ap (asks q) e

-- What came before, with what the message asks.
abbrev with_message : Message → State → ℕ → ℕ
with_message m s q = asks q m + open_in q s

module _ (s : State) (m : Message) (i : Fine [] None s.outcomes s.answers) where
  none_asked : ((q : ℕ) → asks q m ≡ 0) → Counts (with_message m s) [] s.answers
  none_asked none q = let e = none q in omega (arith, e)

  consumed : (new : Moment) → Consumes (beginning s) m new → Stands (with_message m s) new
  consumed new (consume.OpensRoot q o e f j h) =
      rw h (at_rest _ _ (answer_opens s.outcomes s.answers o q.0 (export_ids []) f j i.opens), λ p. let a = ap (asks p) e in let b = opened_more p s.answers o q.0 (export_ids []) f in omega (arith, a, b))
  consumed new (consume.OpensCall c o e f j h) =
      rw h (
        at_rest _ _ (answer_opens s.outcomes s.answers o c.question.0 (export_ids (taken_of s c.descriptors)) f j i.opens),
        λ p. let a = ap (asks p) e in let b = opened_more p s.answers o c.question.0 (export_ids (taken_of s c.descriptors)) f in omega (arith, a, b),
      )
  consumed new (consume.Loses b x e f j k h) = rw h (i, none_asked (λ q. back_asks q s m b e))
  consumed new (consume.ComesToCall b x c e f j k l h) =
      rw h (record { opens = i.opens; told = own_told c _ s.outcomes s.answers; said = nothing_said _ s.outcomes s.answers }, none_asked (λ q. back_asks q s m b e))
  consumed new (consume.ComesToRelay b x u e f j k l h) = rw h (i, none_asked (λ q. back_asks q s m b e))
  consumed new (consume.IsFinished x y e f j h) =
      rw h (at_rest _ _ (finish_opens s.outcomes s.answers x.question.0 y y.returned refl f i.opens), λ p. let a = ap (asks p) e in let b = finished_same p s.answers x.question.0 y y.returned refl f in omega (arith, a, b))
  consumed new (consume.IsResolved r e h) = rw h (i, none_asked (λ q. ap (asks q) e))
  consumed new (consume.IsReleased r e h) = rw h (i, none_asked (λ q. ap (asks q) e))
  consumed new (consume.SendsBack t to x e f h) =
      rw h (i, says (with_message m s) s.answers [] (message.Plain (plain.Disembargo (record { target = to; context = ReceiverLoopback x }))) (λ q. refl) (none_asked (λ q. ap (asks q) e)))
  consumed new (consume.Lifts t x b e f h) = rw h (i, none_asked (λ q. ap (asks q) e))
  consumed new (consume.SendsForeign p e f h) =
      rw h (i, says (with_message m s) s.answers [] (message.Unimplemented p) (λ q. refl) (none_asked (λ q. ap (asks q) e ∙ foreign_asks q s.level p f)))
  consumed new (consume.SendsOther n e h) = rw h (i, says (with_message m s) s.answers [] (message.Unimplemented (plain.Other n)) (λ q. refl) (none_asked (λ q. ap (asks q) e)))
  consumed new (consume.TakesBack r e h) = rw h (i, none_asked (λ q. ap (asks q) e))
  consumed new (consume.Ignores r e h) = rw h (i, none_asked (λ q. ap (asks q) e))

-- ---- The others

told_now : (t : List (Caller × Value)) (y : Option Saying) (os : Map KeptOutcome) (m : Map AnswerEntry) → Fine t y os m → Fine [] y os m
told_now t y os m h = record { opens = h.opens; told = nobody_told os m; said = λ x e. ((h.said x e).0, refl) }

-- Its Return is being made.
makes : (t : List (Caller × Value)) (y : Option Saying) (os : Map KeptOutcome) (m : Map AnswerEntry) (q : QuestionId) (v : Value) (x : Saying) → t ≡ (caller.Peer q, v) ∷ [] → x.answer ≡ q → Fine t y os m → Fine [] (Some x) os m
makes t y os m q v x e is h = record {
  opens = h.opens;
  told = nobody_told os m;
  said = λ z f. let same : x ≡ z = cc in (subst (λ (w : Saying). IsDue os m w.answer.0) same (subst (λ (p : QuestionId). IsDue os m p.0) (sym is) (h.told q v e)), refl);
}

-- It is sent.
sent : (t : List (Caller × Value)) (y : Option Saying) (os : Map KeptOutcome) (m : Map AnswerEntry) (x : Saying) (a : AnswerEntry) (ids : List ℕ) → y ≡ Some x → Fine t y os m → Fine t None os (returned_map m x.answer.0 a a.finished ids)
sent t y os m x a ids e h = record {
  opens = return_opens os m x.answer.0 a a.finished ids (h.said x e).0.1 h.opens;
  told = λ q v f. absurd (let bad : [] ≡ (caller.Peer q, v) ∷ [] = sym (h.said x e).1 ∙ f in cc);
  said = nothing_said t os _;
}

module _ (came : ℕ → ℕ) where
  acted : (d new : Moment) → Stands came d → Act d new → Stands came new
  acted d new i (act.Delivers c n rest u e f h) = rw h i
  acted d new i (act.Waits c n rest p calls e f j h) = rw h i
  acted d new i (act.Holds c n rest u path x e f j h) =
      rw h (fewer d.telling d.saying d.state.outcomes _ d.state.answers (put_fewer d.state.outcomes u (record x { waiting = x.waiting ++ record { path = path; call = c } ∷ [] }) (λ q k. subst (IsOpenFor q) (sym j) k)) i.0, i.1)
  acted d new i (act.Relays c n rest q t ds es e f j k h) = rw h (i.0, says came d.state.answers d.effects.sends (message.Plain (first.asking q t c.request ds)) (λ p. refl) i.1)
  acted d new i (act.Breaks c n rest reason e f h) = rw h i
  acted d new i (act.NextArisen u v rest e f h) = rw h i
  acted d new i (act.Knows u v fit x ps e f j k h) =
      rw h (subst (λ (z : Option Saying). Fine ((x.caller, fit) ∷ []) z (map.insert d.state.outcomes u (kept_known x.caller fit x.waiting)) d.state.answers) (sym (ap (λ (n : Moment). n.saying) e)) (knows d.state.outcomes d.state.answers u x fit f j i.0.opens), i.1)
  acted d new i (act.Reports c v from e f h) = rw h (told_now d.telling d.saying d.state.outcomes d.state.answers i.0, i.1)
  acted d new i (act.TellsNobody c v e f h) = rw h (told_now d.telling d.saying d.state.outcomes d.state.answers i.0, i.1)
  acted d new i (act.MakesReturn q v x b ds es e f j k h) = rw h (makes d.telling d.saying d.state.outcomes d.state.answers q v _ e refl i.0, i.1)
  acted d new i (act.SendsReturn x y e f j h) =
      rw h (
        sent d.telling d.saying d.state.outcomes d.state.answers x y _ e i.0,
        λ p.
            let a = returned_less p d.state.answers x.answer.0 y y.finished (given x.descriptors) (i.0.said x e).0.0 in
            let b = returns-append p d.effects.sends (message.Plain (plain.Return (record { answer = x.answer; release_param_caps = flag_for d.state (numbers y.taken); body = x.body })) ∷ []) in
            let c = i.1 p in
            omega (arith, a, b, c),
      )
  acted d new i (act.Clears x e f h) =
      rw h (fewer d.telling d.saying d.state.outcomes _ d.state.answers (put_fewer d.state.outcomes x.outcome (kept_known x.caller x.value []) (λ q k. absurd (known_none x.caller x.value [] q k))) i.0, i.1)
  acted d new i (act.Lists x e h) = rw h i
  acted d new i (act.SendsResolve x rest k es e w f h) = rw h (i.0, says came d.state.answers d.effects.sends (message.Plain (resolve_message x.export (resolved.Cap k))) (λ p. refl) i.1)
  acted d new i (act.SendsBroken x rest reason e f h) =
      rw h (i.0, says came d.state.answers d.effects.sends (message.Plain (resolve_message x.export (resolved.Exception (or_failed x.why reason)))) (λ p. refl) i.1)
  acted d new i (act.PromiseGoes p to w e f h) = rw h i
  acted d new i (act.OutcomeGoes u x v w e f j k l h) = rw h (fewer d.telling d.saying d.state.outcomes _ d.state.answers (cut_fewer d.state.outcomes u) i.0, i.1)
  acted d new i (act.ImportGoes k x w e f h) = rw h i
  acted d new i (act.Sweeps over e f j h) = rw h i
  acted d new i (act.SendsFinish q x rest e f j k l h) =
      rw h (i.0, says came d.state.answers d.effects.sends (message.Plain (plain.Finish (record { question = record { 0 = q }; release_result_caps = flag_for d.state (got_of x.returned) }))) (λ p. refl) i.1)
  acted d new i (act.Closes q x rest e f j k l h) = rw h i
  acted d new i (act.Releases w e f h) = rw h (i.0, says_all came d.state.answers d.effects.sends (release_messages (map.entries d.released)) (releases_none (map.entries d.released)) i.1)

-- ---- Whole steps

module _ (s : State) (opens : Opens s.outcomes s.answers) where
  fine : Fine [] None s.outcomes s.answers
  fine = at_rest s.outcomes s.answers opens

  pub by_command : (c : Command) (g : Granted) (x : Effects) (t : State) → Does s c g x t → (q : ℕ) → open_in q s ≡ returns_in q x.sends + open_in q t
  by_command c g x t h =
      let came : ℕ → ℕ = λ q. open_in q s in
      let k = done (Stands came) s c g x t (started s came (fine, λ q. omega arith) c g) (acted came) h in
      at_end (λ (w : State) (y : Effects). (q : ℕ) → came q ≡ returns_in q y.sends + open_in q w) k.last x t k.ends k.holds.1

  pub by_message : (m : Message) (x : Effects) (t : State) → fault_of s m ≡ None → Handles s m x t → (q : ℕ) → asks q m + open_in q s ≡ returns_in q x.sends + open_in q t
  by_message m x t free h =
      let came : ℕ → ℕ = with_message m s in
      let k = handled (Stands came) s m x t free (consumed s m fine) (acted came) h in
      at_end (λ (w : State) (y : Effects). (q : ℕ) → came q ≡ returns_in q y.sends + open_in q w) k.last x t k.ends k.holds.1
