-- An answer that has not returned waits for an outcome that is not known; but for the time between the two, in which its
-- Return is being made.
use Rattle.std.proofs.Common.{◌≡◌, ◌⊎◌, inl, inr, ℕ, Bool, true, false, cond, nat_eq, List, [], ◌∷◌, Option, None, Some, refl, sym, ap, subst, ◌∙◌}
use Rattle.std.specs.Ordering.{nat_cmp}
use Rattle.std.specs.FinMap as map
use Rattle.finite_maps.specs.Tally.{Map}
use Rattle.finite_maps.proofs.Tested.{itself, at_put, at_cut, get_put, get_cut, equal}
use Rattle.rpc_msg.specs.declared.ids.ExportId.{ExportId}
use Rattle.rpc_msg.specs.declared.ids.QuestionId.{QuestionId}
use Rattle.rpc_msg.specs.declared.message.Message.{Message}
use Rattle.rpc_machine.specs.declared.command.Command.{Command}
use Rattle.rpc_machine.specs.declared.command.Granted.{Granted}
use Rattle.rpc_machine.specs.declared.command.Effects.{Effects}
use Rattle.rpc_machine.specs.declared.calls.Caller.{Caller}
use Rattle.rpc_machine.specs.declared.calls.Caller.TheVariants as caller
use Rattle.rpc_machine.specs.declared.calls.HeldCall.{HeldCall}
use Rattle.rpc_machine.specs.declared.calls.KeptOutcome.{KeptOutcome}
use Rattle.rpc_machine.specs.declared.calls.Value.{Value}
use Rattle.rpc_machine.specs.declared.entries.AnswerEntry.{AnswerEntry}
use Rattle.rpc_machine.specs.State.{State, start}
use Rattle.rpc_machine.specs.Settling.{returned_map}
use Rattle.rpc_machine.specs.Collecting.{CallerIsDone, AnswerIsOther}
use Rattle.rpc_machine.specs.Messages.{finished_map}
use Rattle.rpc_machine.specs.Down.{fallen}
use Rattle.laws_steps.specs.Callers.{IsFor, peer, HasOutcome, IsOpenFor, AnswersWith, CallersAreServed}
use Rattle.laws_steps.specs.NodesThere.{IsReached, NodesAreThere}
use Rattle.laws_steps.proofs.Kept.{in_each}
use Rattle.laws_acts.specs.Moments.{Saying, Clearing, Moment, beginning}
use Rattle.laws_acts.specs.FirstActs.{Starts}
use Rattle.laws_acts.specs.FirstActs as first
use Rattle.laws_acts.specs.MessageActs.{Consumes}
use Rattle.laws_acts.specs.MessageActs as message
use Rattle.laws_acts.specs.SmallActs.{Act, IsEnd, IsStill, kept_known}
use Rattle.laws_acts.specs.SmallActs as act
use Rattle.laws_acts.proofs.EachStep.{IsLaw, of_each_step}
use Rattle.laws_messages.specs.Returned.{IsToldOnceKnown, IsInStep}

-- ---- What is carried

-- The Return of that answer is owed, or being made.
abbrev IsOwed : List (Caller × Value) → Option Saying → ℕ → Type 0
IsOwed telling saying q = ((v : Value) × (telling ≡ (peer q, v) ∷ [])) ⊎ ((x : Saying) × (saying ≡ Some x) × (x.answer.0 ≡ q))

abbrev Waits : Type 0 → ℕ → Option KeptOutcome → Type 0
Waits Owed q None = ⊥
Waits Owed q (Some x) = (x.caller ≡ peer q) × ((x.value ≡ None) ⊎ Owed)

abbrev Waiting : Type 0 → Map KeptOutcome → ℕ → Option AnswerEntry → Type 0
Waiting Owed os q None = Unit {0}
Waiting Owed os q (Some a) = a.returned ≡ None → Waits Owed q (map.get os a.outcome)

abbrev AllWait : (ℕ → Type 0) → Map KeptOutcome → Map AnswerEntry → Type 0
AllWait Owed os m = (q : ℕ) → Waiting (Owed q) os q (map.get m q)

abbrev Fine : Moment → Type 0
Fine d = AllWait (IsOwed d.telling d.saying) d.state.outcomes d.state.answers

-- Nothing is owed.
abbrev Nothing : ℕ → Type 0
Nothing q = ⊥

abbrev Rests : State → Type 0
Rests s = AllWait Nothing s.outcomes s.answers

-- ---- One entry

-- What each outcome that is waited for becomes.
others : (O P : Type 0) (os new : Map KeptOutcome) (q : ℕ) (o : Option AnswerEntry) → ((k : ℕ) → Waits O q (map.get os k) → Waits P q (map.get new k)) → Waiting O os q o → Waiting P new q o
others O P os new q None f h = tt
others O P os new q (Some a) f h = λ e. f a.outcome (h e)

now_owed : (O P : Type 0) (q : ℕ) (o : Option KeptOutcome) → (O → P) → Waits O q o → Waits P q o
now_owed O P q None f h = h
now_owed O P q (Some x) f (c, inl e) = (c, inl e)
now_owed O P q (Some x) f (c, inr k) = (c, inr (f k))

owes : (O P : ℕ → Type 0) (os : Map KeptOutcome) (m : Map AnswerEntry) → ((q : ℕ) → O q → P q) → AllWait O os m → AllWait P os m
owes O P os m f h q = others (O q) (P q) os os q (map.get m q) (λ k. now_owed (O q) (P q) q (map.get os k) (f q)) (h q)

-- ---- Tables

-- An outcome is put in place.
puts : (O P : ℕ → Type 0) (os : Map KeptOutcome) (o : ℕ) (y : KeptOutcome) (m : Map AnswerEntry) → ((q : ℕ) → O q → P q) → ((q : ℕ) → Waits (O q) q (map.get os o) → Waits (P q) q (Some y)) → AllWait O os m → AllWait P (map.insert os o y) m
puts O P os o y m f g h q =
    others (O q) (P q) os (map.insert os o y) q (map.get m q)
    (at_put (λ k z. Waits (O q) q (map.get os k) → Waits (P q) q z) os o y (g q) (λ k e. now_owed (O q) (P q) q (map.get os k) (f q)))
    (h q)

fresh : (O : ℕ → Type 0) (os : Map KeptOutcome) (o : ℕ) (y : KeptOutcome) (m : Map AnswerEntry) → map.get os o ≡ None → AllWait O os m → AllWait O (map.insert os o y) m
fresh O os o y m free h = puts O O os o y m (λ q k. k) (λ q k. absurd (subst (Waits (O q) q) free k)) h

abbrev new_outcome : Caller → KeptOutcome
new_outcome who = record { caller = who; value = None; waiting = [] }

-- An answer opens, with its outcome.
opens : (O : ℕ → Type 0) (os : Map KeptOutcome) (o k : ℕ) (y : KeptOutcome) (ids : List ExportId) (m : Map AnswerEntry) → y.caller ≡ peer k → y.value ≡ None → map.get os o ≡ None → AllWait O os m
    → AllWait O (map.insert os o y) (map.insert m k (record { outcome = o; taken = ids; returned = None; finished = false }))
opens O os o k y ids m c e free h =
    at_put (λ q z. Waiting (O q) (map.insert os o y) q z) m k (record { outcome = o; taken = ids; returned = None; finished = false })
    (λ f. subst (Waits (O k) k) (sym (get_put os o y o ∙ ap (λ b. cond b (Some y) (map.get os o)) (itself o))) (c, inl e))
    (λ q f. fresh O os o y m free h q)

finished : (O : ℕ → Type 0) (os : Map KeptOutcome) (m : Map AnswerEntry) (k : ℕ) (a : AnswerEntry) (r : Option (List ExportId)) → a.returned ≡ r → map.get m k ≡ Some a → AllWait O os m → AllWait O os (finished_map m k a r)
finished O os m k a None e there h = at_put (λ q z. Waiting (O q) os q z) m k (record a { finished = true }) (subst (Waiting (O k) os k) there (h k)) (λ q f. h q)
finished O os m k a (Some ids) e there h = at_cut (λ q z. Waiting (O q) os q z) m k tt (λ q f. h q)

-- Its Return was sent.
returned : (O P : ℕ → Type 0) (os : Map KeptOutcome) (m : Map AnswerEntry) (k : ℕ) (a : AnswerEntry) (b : Bool) (ids : List ℕ) → ((q : ℕ) → nat_eq q k ≡ false → O q → P q) → AllWait O os m → AllWait P os (returned_map m k a b ids)
returned O P os m k a true ids f h = at_cut (λ q z. Waiting (P q) os q z) m k tt (λ q e. others (O q) (P q) os os q (map.get m q) (λ j. now_owed (O q) (P q) q (map.get os j) (f q e)) (h q))
returned O P os m k a false ids f h = at_put (λ q z. Waiting (P q) os q z) m k (record a { returned = _ }) (λ e. absurd (let bad : Some _ ≡ None = e in cc)) (λ q e. others (O q) (P q) os os q (map.get m q) (λ j. now_owed (O q) (P q) q (map.get os j) (f q e)) (h q))

-- An outcome of which all who asked were told goes.
goes : (O : ℕ → Type 0) (os : Map KeptOutcome) (m : Map AnswerEntry) (o : ℕ) (x : KeptOutcome) → map.get os o ≡ Some x → ((q : ℕ) → x.caller ≡ peer q → AnswerIsOther o (map.get m q)) → AllWait O os m → AllWait O (map.remove os o) m
goes O os m o x there done h q = by (map.get m q) refl (h q)
  where
    by : (z : Option AnswerEntry) → map.get m q ≡ z → Waiting (O q) os q z → Waiting (O q) (map.remove os o) q z
    by None e k = tt
    by (Some a) e k = λ f. subst (Waits (O q) q) (sym (get_cut os o a.outcome)) (here (nat_eq a.outcome o) refl (k f))
      where
        here : (b : Bool) → nat_eq a.outcome o ≡ b → Waits (O q) q (map.get os a.outcome) → Waits (O q) q (cond b None (map.get os a.outcome))
        here false g w = w
        here true g w =
            let same = equal a.outcome o g in
            let c = subst (Waits (O q) q) (ap (map.get os) same ∙ there) w in
            absurd (subst (AnswerIsOther o) e (done q c.0) same)

done_peer : (s : State) (o : ℕ) (who : Caller) → CallerIsDone s o who → (q : ℕ) → who ≡ peer q → AnswerIsOther o (map.get s.answers q)
done_peer s o (caller.Application c) h q e = absurd (let bad : caller.Application c ≡ peer q = e in cc)
done_peer s o (caller.Peer p) h q e = let same : p ≡ record { 0 = q } = cc in subst (λ (j : QuestionId). AnswerIsOther o (map.get s.answers j.0)) same h

-- ---- The first act

started : (s : State) (c : Command) (g : Granted) (new : Moment) → Starts (beginning s) c g new → Fine (beginning s) → Fine new
started s c g new (first.Hosts o e a h) i = rw h i
started s c g new (first.Clones r x e f a h) i = rw h i
started s c g new (first.Drops r x e f a h) i = rw h i
started s c g new (first.AsksRoot q e f a h) i = rw h i
started s c g new (first.CallsOut k x q t ds es e f j l m n a h) i = rw h i
started s c g new (first.CallsHere k x o e f j l m a h) i = rw h (fresh (IsOwed [] None) s.outcomes o (new_outcome _) s.answers m i)
started s c g new (first.CallsLater k x o y b e f j l m a h) i = rw h (fresh (IsOwed [] None) s.outcomes o (new_outcome _) s.answers m i)
started s c g new (first.NamesField k path from e f a h) i = rw h i
started s c g new (first.Promises p e f a h) i = rw h i
started s c g new (first.Fixes p r x key calls e f j k a h) i = rw h i
started s c g new (first.Rejects p why key calls e f j a h) i = rw h i
started s c g new (first.Answers t payload refs o e f a h) i = rw h i
started s c g new (first.Fails t why o e f a h) i = rw h i
started s c g new (first.Finishes k from e f a h) i = rw h i
started s c g new (first.StaysPut r x e f a h) i = rw h i
started s c g new (first.Breaks r x reason e f j k a h) i = rw h i
started s c g new (first.Switches r x by n e f j k l m a h) i = rw h i
started s c g new (first.Turns r x by n t k e f j l m o w u a h) i = rw h i

-- Where nothing is owed, and a caller is told.
to_telling : (telling : List (Caller × Value)) (saying : Option Saying) (q : ℕ) → IsOwed [] None q → IsOwed telling saying q
to_telling telling saying q (inl k) = absurd (let bad : [] ≡ (peer q, k.0) ∷ [] = k.1 in cc)
to_telling telling saying q (inr k) = absurd (let bad : None ≡ Some k.0 = k.1 in cc)

consumed : (s : State) (m : Message) (new : Moment) → Consumes (beginning s) m new → Fine (beginning s) → Fine new
consumed s m new (message.OpensRoot q o e f j h) i = rw h (opens (IsOwed [] None) s.outcomes o q.0 (new_outcome (peer q.0)) _ s.answers refl refl j i)
consumed s m new (message.OpensCall c o e f j h) i = rw h (opens (IsOwed [] None) s.outcomes o c.question.0 (new_outcome (peer c.question.0)) _ s.answers refl refl j i)
consumed s m new (message.Loses b x e f j k h) i = rw h i
consumed s m new (message.ComesToCall b x c e f j k l h) i = rw h (owes (IsOwed [] None) (IsOwed _ None) s.outcomes s.answers (to_telling _ None) i)
consumed s m new (message.ComesToRelay b x u e f j k l h) i = rw h i
consumed s m new (message.IsFinished x y e f j h) i = rw h (finished (IsOwed [] None) s.outcomes s.answers x.question.0 y y.returned refl f i)
consumed s m new (message.IsResolved r e h) i = rw h i
consumed s m new (message.IsReleased r e h) i = rw h i
consumed s m new (message.SendsBack t to x e f h) i = rw h i
consumed s m new (message.Lifts t x b e f h) i = rw h i
consumed s m new (message.SendsForeign p e f h) i = rw h i
consumed s m new (message.SendsOther n e h) i = rw h i
consumed s m new (message.TakesBack r e h) i = rw h i
consumed s m new (message.Ignores r e h) i = rw h i

-- ---- The others

holds : (O : ℕ → Type 0) (os : Map KeptOutcome) (o : ℕ) (x : KeptOutcome) (w : List HeldCall) (m : Map AnswerEntry) → map.get os o ≡ Some x → AllWait O os m → AllWait O (map.insert os o (record x { waiting = w })) m
holds O os o x w m there h = puts O O os o (record x { waiting = w }) m (λ q k. k) (λ q k. subst (Waits (O q) q) there k) h

-- The application was told.
told : (telling : List (Caller × Value)) (c : Caller) (v : Value) (saying : Option Saying) (q : ℕ) → telling ≡ (c, v) ∷ [] → (c ≡ peer q → ⊥) → IsOwed telling saying q → IsOwed [] saying q
told telling c v saying q e f (inl k) = absurd (f (let same : (c, v) ∷ [] ≡ (peer q, k.0) ∷ [] = sym e ∙ k.1 in let one : (c, v) ≡ (peer q, k.0) = cc in ap (λ (p : Caller × Value). p.0) one))
told telling c v saying q e f (inr k) = inr k

not_peer : (c : ℕ) (q : ℕ) → caller.Application (record { 0 = c }) ≡ peer q → ⊥
not_peer c q e = cc

-- Its Return is being made.
makes : (telling : List (Caller × Value)) (p : QuestionId) (v : Value) (saying : Option Saying) (x : Saying) (q : ℕ) → telling ≡ (caller.Peer p, v) ∷ [] → saying ≡ None → x.answer ≡ p → IsOwed telling saying q → IsOwed [] (Some x) q
makes telling p v saying x q e n is (inl k) =
    let same : (caller.Peer p, v) ∷ [] ≡ (peer q, k.0) ∷ [] = sym e ∙ k.1 in
    let one : (caller.Peer p, v) ≡ (peer q, k.0) = cc in
    let who : caller.Peer p ≡ caller.Peer (record { 0 = q }) = ap (λ (p : Caller × Value). p.0) one in
    let id : p ≡ record { 0 = q } = cc in
    inr (x, refl, ap (λ (j : QuestionId). j.0) (is ∙ id))
makes telling p v saying x q e n is (inr k) = absurd (let bad : None ≡ Some k.0 = sym n ∙ k.1 in cc)

sends : (telling : List (Caller × Value)) (saying : Option Saying) (x : Saying) (q : ℕ) → saying ≡ Some x → nat_eq q x.answer.0 ≡ false → IsOwed telling saying q → IsOwed telling None q
sends telling saying x q e f (inl k) = inl k
sends telling saying x q e f (inr k) =
    let same : Some x ≡ Some k.0 = sym e ∙ k.1 in
    let one : x ≡ k.0 = cc in
    let id : q ≡ x.answer.0 = sym k.2 ∙ ap (λ (y : Saying). y.answer.0) (sym one) in
    absurd (let g : nat_eq q x.answer.0 ≡ true = ap (λ j. nat_eq j x.answer.0) id ∙ itself x.answer.0 in cc)

-- The outcome becomes known, and its caller is to be told.
knows : (os : Map KeptOutcome) (m : Map AnswerEntry) (o : ℕ) (x : KeptOutcome) (fit : Value) → map.get os o ≡ Some x → AllWait (IsOwed [] None) os m → AllWait (IsOwed ((x.caller, fit) ∷ []) None) (map.insert os o (kept_known x.caller fit x.waiting)) m
knows os m o x fit there h = puts (IsOwed [] None) (IsOwed ((x.caller, fit) ∷ []) None) os o (kept_known x.caller fit x.waiting) m (to_telling _ None) (λ q w. let c = (subst (Waits (IsOwed [] None q) q) there w).0 in (c, inr (inl (fit, ap (λ (y : Caller). (y, fit) ∷ []) c)))) h

said_more : (saying : Option Saying) (telling : List (Caller × Value)) (q : ℕ) → IsOwed telling None q → IsOwed telling saying q
said_more saying telling q (inl k) = inl k
said_more saying telling q (inr k) = absurd (let bad : None ≡ Some k.0 = k.1 in cc)

-- Its caller was told, so nothing waits for it.
clears : (os : Map KeptOutcome) (m : Map AnswerEntry) (x : Clearing) → (map.get os x.outcome ≡ Some (kept_known x.caller x.value x.waiting)) ⊎ ((map.get os x.outcome ≡ None) × (x.waiting ≡ [])) → AllWait (IsOwed [] None) os m → AllWait (IsOwed [] None) (map.insert os x.outcome (kept_known x.caller x.value [])) m
clears os m x still h = puts (IsOwed [] None) (IsOwed [] None) os x.outcome (kept_known x.caller x.value []) m (λ q k. k) (λ q w. absurd (by q still w)) h
  where
    none : (q : ℕ) → IsOwed [] None q → ⊥
    none q (inl k) = let bad : [] ≡ (peer q, k.0) ∷ [] = k.1 in cc
    none q (inr k) = let bad : None ≡ Some k.0 = k.1 in cc

    open_or : (q : ℕ) → (Some x.value ≡ None) ⊎ IsOwed [] None q → ⊥
    open_or q (inl e) = cc
    open_or q (inr k) = none q k

    by : (q : ℕ) → (map.get os x.outcome ≡ Some (kept_known x.caller x.value x.waiting)) ⊎ ((map.get os x.outcome ≡ None) × (x.waiting ≡ [])) → Waits (IsOwed [] None q) q (map.get os x.outcome) → ⊥
    by q (inl e) w = open_or q (subst (Waits (IsOwed [] None q) q) e w).1
    by q (inr e) w = subst (Waits (IsOwed [] None q) q) e.0 w

acted : (d new : Moment) → Fine d → Act d new → Fine new
acted d new i (act.Delivers c n rest u e f h) = rw h i
acted d new i (act.Waits c n rest p calls e f j h) = rw h i
acted d new i (act.Holds c n rest u path x e f j h) = rw h (holds (IsOwed d.telling d.saying) d.state.outcomes u x _ d.state.answers j i)
acted d new i (act.Relays c n rest q t ds es e f j k h) = rw h i
acted d new i (act.Breaks c n rest reason e f h) = rw h i
acted d new i (act.NextArisen u v rest e f h) = rw h i
acted d new i (act.Knows u v fit x ps e f j k h) =
    rw h (owes (IsOwed ((x.caller, fit) ∷ []) None) (IsOwed ((x.caller, fit) ∷ []) d.saying) _ d.state.answers (λ q k. said_more d.saying _ q k)
    (knows d.state.outcomes d.state.answers u x fit f (owes (IsOwed d.telling d.saying) (IsOwed [] None) d.state.outcomes d.state.answers (λ q k. subst (λ (m : Moment). IsOwed m.telling m.saying q) e k) i)))
acted d new i (act.Reports c v from e f h) = rw h (owes (IsOwed d.telling d.saying) (IsOwed [] d.saying) d.state.outcomes d.state.answers (λ q k. told d.telling (caller.Application (record { 0 = c })) v d.saying q e (not_peer c q) k) i)
acted d new i (act.TellsNobody c v e f h) = rw h (owes (IsOwed d.telling d.saying) (IsOwed [] d.saying) d.state.outcomes d.state.answers (λ q k. told d.telling (caller.Application (record { 0 = c })) v d.saying q e (not_peer c q) k) i)
acted d new i (act.MakesReturn q v x b ds es e f j k h) = rw h (owes (IsOwed d.telling d.saying) (IsOwed [] (Some _)) d.state.outcomes d.state.answers (λ p k. makes d.telling q v d.saying _ p e f refl k) i)
acted d new i (act.SendsReturn x y e f j h) = rw h (returned (IsOwed d.telling d.saying) (IsOwed d.telling None) d.state.outcomes d.state.answers x.answer.0 y y.finished _ (λ q g k. sends d.telling d.saying x q e g k) i)
acted d new i (act.Clears x e f h) =
    rw h (owes (IsOwed [] None) (IsOwed d.telling d.saying) _ d.state.answers (λ q k. to_telling d.telling d.saying q k)
    (clears d.state.outcomes d.state.answers x f (owes (IsOwed d.telling d.saying) (IsOwed [] None) d.state.outcomes d.state.answers (λ q k. subst (λ (m : Moment). IsOwed m.telling m.saying q) e k) i)))
acted d new i (act.Lists x e h) = rw h i
acted d new i (act.SendsResolve x rest k es e w f h) = rw h i
acted d new i (act.SendsBroken x rest reason e f h) = rw h i
acted d new i (act.PromiseGoes p to w e f h) = rw h i
acted d new i (act.OutcomeGoes u x v w e f j k l h) = rw h (goes (IsOwed d.telling d.saying) d.state.outcomes d.state.answers u x e (done_peer d.state u x.caller k) i)
acted d new i (act.ImportGoes k x w e f h) = rw h i
acted d new i (act.Sweeps over e f j h) = rw h i
acted d new i (act.SendsFinish q x rest e f j k l h) = rw h i
acted d new i (act.Closes q x rest e f j k l h) = rw h i
acted d new i (act.Releases w e f h) = rw h i

-- ---- Reached states

no_more : (q : ℕ) → IsOwed [] None q → ⊥
no_more q (inl k) = let bad : [] ≡ (peer q, k.0) ∷ [] = k.1 in cc
no_more q (inr k) = let bad : None ≡ Some k.0 = k.1 in cc

at_last : (last : Moment) (x : Effects) (t : State) → Fine last → IsEnd last x t → Rests last.state
at_last last x t i h = owes (IsOwed last.telling last.saying) Nothing last.state.outcomes last.state.answers (λ q k. no_more q (subst (λ (m : Moment). IsOwed m.telling m.saying q) h.rest k)) i

none : (s : State) → s.answers ≡ map.empty → Rests s
none s e q = subst (Waiting ⊥ s.outcomes q) (sym (ap (λ (m : Map AnswerEntry). map.get m q) e ∙ map.get-empty nat_cmp q)) tt

law : IsLaw (λ s d. Rests s → Fine d) (λ s x t. Rests s → Rests t)
law = record {
  starts = λ s c g new f h i. started s c g new h (owes Nothing (IsOwed [] None) s.outcomes s.answers (λ q k. absurd k) i);
  consumes = λ s m new f h i. consumed s m new h (owes Nothing (IsOwed [] None) s.outcomes s.answers (λ q k. absurd k) i);
  act = λ s d new k h i. acted d new (k i) h;
  ends = λ s last x t k h i. rw h.state (at_last last x t (k i) h);
  stays = λ s i. i;
  falls = λ s n x i. none (fallen s n) refl;
}

rests : (s : State) → IsReached s → Rests s
rests = in_each (record { starts = λ v l b. none (start v l b) refl; steps = of_each_step law; falls = λ s n. none (fallen s n) refl })

-- ---- And back

pub in_step : NodesAreThere → (s : State) → IsReached s → (q : ℕ) → IsInStep s q (map.get s.answers q)
in_step there s r q = by (map.get s.answers q) refl (rests s r q) (served.answers q)
  where
    served : CallersAreServed s
    served = (there s r).callers

    by : (o : Option AnswerEntry) → map.get s.answers q ≡ o → Waiting ⊥ s.outcomes q o → HasOutcome s.outcomes q o → IsInStep s q o
    by None e w h = tt
    by (Some a) e w h = of_outcome (map.get s.outcomes a.outcome) refl w h
      where
        value_none : (v : Option Value) → (v ≡ None) ⊎ ⊥ → v ≡ None
        value_none v (inl f) = f
        value_none v (inr k) = absurd k

        of_outcome : (x : Option KeptOutcome) → map.get s.outcomes a.outcome ≡ x → (a.returned ≡ None → Waits ⊥ q x) → IsFor (peer q) x → IsToldOnceKnown q a x
        of_outcome None f w h = absurd h
        of_outcome (Some x) f w h =
            (h, ((λ r. value_none x.value (w r).1), λ v. (subst (λ (z : Option AnswerEntry). AnswersWith a.outcome z) e (served.outcomes a.outcome q (subst (λ (z : Option KeptOutcome). IsOpenFor q z) (sym f) (v, h)))).1))
