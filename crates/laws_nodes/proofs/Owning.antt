-- Each act keeps that each outcome and each question for a call of the application is that call's own, if the call is not
-- finished; within a step also the known outcome whose calls are still in its list, since it may go and come back.
use Rattle.std.proofs.Common.{◌≡◌, ℕ, ◌+◌, ◌<◌, List, [], Option, None, Some, refl, sym, ap, subst, ◌∙◌, arith}
use Rattle.std.specs.Ordering.{nat_cmp}
use Rattle.std.specs.FinMap as map
use Rattle.finite_maps.specs.Tally.{Map}
use Rattle.finite_maps.proofs.Gets.{get-insert_same, get-insert_other}
use Rattle.finite_maps.proofs.Tested.{at_put, at_cut}
use Rattle.rpc_msg.specs.declared.parts.Descriptor.{Descriptor}
use Rattle.rpc_msg.specs.declared.message.Message.{Message}
use Rattle.rpc_machine.specs.declared.command.Command.{Command}
use Rattle.rpc_machine.specs.declared.command.Granted.{Granted}
use Rattle.rpc_machine.specs.declared.calls.Caller.{Caller}
use Rattle.rpc_machine.specs.declared.calls.Caller.TheVariants as caller
use Rattle.rpc_machine.specs.declared.calls.KeptOutcome.{KeptOutcome}
use Rattle.rpc_machine.specs.declared.calls.OwnCall.{OwnCall}
use Rattle.rpc_machine.specs.declared.calls.OwnCall.TheVariants as own
use Rattle.rpc_machine.specs.declared.entries.Role.{Role}
use Rattle.rpc_machine.specs.declared.entries.Role.TheVariants as role
use Rattle.rpc_machine.specs.declared.entries.Returned.{Returned}
use Rattle.rpc_machine.specs.declared.entries.Finishing.TheVariants as finishing
use Rattle.rpc_machine.specs.declared.entries.Question.{Question}
use Rattle.rpc_machine.specs.State.{State, start}
use Rattle.rpc_machine.specs.Sweeping.{closed_map}
use Rattle.rpc_machine.specs.Down.{fallen}
use Rattle.laws_steps.specs.NodesThere.{IsReached}
use Rattle.laws_steps.proofs.Kept.{in_each}
use Rattle.laws_acts.specs.Moments.{Clearing, Moment, beginning}
use Rattle.laws_acts.specs.FirstActs.{asked, Starts}
use Rattle.laws_acts.specs.FirstActs as first
use Rattle.laws_acts.specs.MessageActs.{answered, Consumes}
use Rattle.laws_acts.specs.MessageActs as message
use Rattle.laws_acts.specs.SmallActs.{Act}
use Rattle.laws_acts.specs.SmallActs as act
use Rattle.laws_acts.proofs.EachStep.{IsLaw, of_each_step}
use Rattle.rpc_machine.specs.OwnCalls.{IsOutcomeFor, IsQuestionFor, HasItsOwnAlone, CallsHaveTheirOwn}

-- ---- What is of a call is its own

abbrev IsFrom : OwnCall → Option OwnCall → Type 0
IsFrom from None = Unit {0}
IsFrom from (Some x) = x ≡ from

abbrev OfCall : Map OwnCall → ℕ → OwnCall → ℕ → Type 0
OfCall calls next from c = (c < next) × IsFrom from (map.get calls c)

abbrev OfCaller : Map OwnCall → ℕ → ℕ → Caller → Type 0
OfCaller calls next o (caller.Application c) = OfCall calls next (own.Kept o) c.0
OfCaller calls next o (caller.Peer q) = Unit {0}

abbrev OfRole : Map OwnCall → ℕ → ℕ → Role → Type 0
OfRole calls next q (role.Direct c) = OfCall calls next (own.Direct (record { 0 = q })) c.0
OfRole calls next q (role.Relay o) = Unit {0}

abbrev AtOutcome : Map OwnCall → ℕ → ℕ → Option KeptOutcome → Type 0
AtOutcome calls next o None = Unit {0}
AtOutcome calls next o (Some x) = OfCaller calls next o x.caller

abbrev AtQuestion : Map OwnCall → ℕ → ℕ → Option Question → Type 0
AtQuestion calls next q None = Unit {0}
AtQuestion calls next q (Some x) = OfRole calls next q x.role

abbrev AtClearing : Map OwnCall → ℕ → Option Clearing → Type 0
AtClearing calls next None = Unit {0}
AtClearing calls next (Some x) = OfCaller calls next x.outcome x.caller

abbrev Outcomes : Map OwnCall → ℕ → Map KeptOutcome → Type 0
Outcomes calls next m = (o : ℕ) → AtOutcome calls next o (map.get m o)

abbrev Questions : Map OwnCall → ℕ → Map Question → Type 0
Questions calls next m = (q : ℕ) → AtQuestion calls next q (map.get m q)

abbrev Own : State → Type 0
Own s = Outcomes s.calls s.next_call s.outcomes × Questions s.calls s.next_call s.questions

abbrev Fine : Moment → Type 0
Fine d = Outcomes d.state.calls d.state.next_call d.state.outcomes × Questions d.state.calls d.state.next_call d.state.questions × AtClearing d.state.calls d.state.next_call d.clearing

-- ---- Tables

module _ (c : Map OwnCall) (n : ℕ) where
  put_outcome : (m : Map KeptOutcome) (o : ℕ) (x : KeptOutcome) → OfCaller c n o x.caller → Outcomes c n m → Outcomes c n (map.insert m o x)
  put_outcome m o x a h = at_put (AtOutcome c n) m o x a (λ j e. h j)

  cut_outcome : (m : Map KeptOutcome) (o : ℕ) → Outcomes c n m → Outcomes c n (map.remove m o)
  cut_outcome m o h = at_cut (AtOutcome c n) m o tt (λ j e. h j)

  put_question : (m : Map Question) (q : ℕ) (x : Question) → OfRole c n q x.role → Questions c n m → Questions c n (map.insert m q x)
  put_question m q x a h = at_put (AtQuestion c n) m q x a (λ j e. h j)

  cut_question : (m : Map Question) (q : ℕ) → Questions c n m → Questions c n (map.remove m q)
  cut_question m q h = at_cut (AtQuestion c n) m q tt (λ j e. h j)

  caller_of : (m : Map KeptOutcome) (o : ℕ) (x : KeptOutcome) → map.get m o ≡ Some x → Outcomes c n m → OfCaller c n o x.caller
  caller_of m o x e h = subst (AtOutcome c n o) e (h o)

  role_of : (m : Map Question) (q : ℕ) (x : Question) → map.get m q ≡ Some x → Questions c n m → OfRole c n q x.role
  role_of m q x e h = subst (AtQuestion c n q) e (h q)

  closes : (m : Map Question) (q : ℕ) (x : Question) (b : Option Returned) → map.get m q ≡ Some x → Questions c n m → Questions c n (closed_map m q x b)
  closes m q x None e h = put_question m q (record x { finish = finishing.Sent }) (role_of m q x e h) h
  closes m q x (Some said) e h = cut_question m q h

-- Where the calls change.
module _ (c d : Map OwnCall) (n k : ℕ) (f : (from : OwnCall) (j : ℕ) → OfCall c n from j → OfCall d k from j) where
  other_outcomes : (m : Map KeptOutcome) → Outcomes c n m → Outcomes d k m
  other_outcomes m h o = by (map.get m o) (h o)
    where
      of_caller : (who : Caller) → OfCaller c n o who → OfCaller d k o who
      of_caller (caller.Application j) i = f (own.Kept o) j.0 i
      of_caller (caller.Peer q) i = tt

      by : (x : Option KeptOutcome) → AtOutcome c n o x → AtOutcome d k o x
      by None i = tt
      by (Some x) i = of_caller x.caller i

  other_questions : (m : Map Question) → Questions c n m → Questions d k m
  other_questions m h q = by (map.get m q) (h q)
    where
      of_role : (r : Role) → OfRole c n q r → OfRole d k q r
      of_role (role.Direct j) i = f (own.Direct (record { 0 = q })) j.0 i
      of_role (role.Relay o) i = tt

      by : (x : Option Question) → AtQuestion c n q x → AtQuestion d k q x
      by None i = tt
      by (Some x) i = of_role x.role i

-- A finished call's number is used no more, and the next call's was never used.
finished : (c : Map OwnCall) (n k : ℕ) (from : OwnCall) (j : ℕ) → OfCall c n from j → OfCall (map.remove c k) n from j
finished c n k from j i = (i.0, at_cut (λ b o. b ≡ j → IsFrom from o) c k (λ e. tt) (λ b e f. subst (λ (a : ℕ). IsFrom from (map.get c a)) (sym f) i.1) j refl)

older : (c : Map OwnCall) (n : ℕ) (y from : OwnCall) (j : ℕ) → OfCall c n from j → OfCall (map.insert c n y) (n + 1) from j
older c n y from j i = let a = i.0 in (omega arith, subst (IsFrom from) (sym (get-insert_other c n y j (λ f. absurd (omega arith)))) i.1)

its_own : (c : Map OwnCall) (n : ℕ) (y : OwnCall) → OfCall (map.insert c n y) (n + 1) y n
its_own c n y = (omega arith, subst (IsFrom y) (sym (get-insert_same c n y)) refl)

-- A call that is made: with a question, or with an outcome that is kept here.
asks : (s : State) (q : ℕ) (ds : List Descriptor) → Own s → Own (record s {
  calls = map.insert s.calls s.next_call (own.Direct (record { 0 = q }));
  next_call = s.next_call + 1;
  questions = map.insert s.questions q (asked (role.Direct (record { 0 = s.next_call })) ds);
})
asks s q ds h =
    let y : OwnCall = own.Direct (record { 0 = q }) in
    let c = map.insert s.calls s.next_call y in
    let n = s.next_call + 1 in
    let f = older s.calls s.next_call y in (
      other_outcomes s.calls c s.next_call n f s.outcomes h.0,
      put_question c n s.questions q (asked (role.Direct (record { 0 = s.next_call })) ds) (its_own s.calls s.next_call y) (other_questions s.calls c s.next_call n f s.questions h.1),
    )

keeps : (s : State) (o : ℕ) (x : KeptOutcome) → x.caller ≡ caller.Application (record { 0 = s.next_call }) → Own s → Own (record s {
  calls = map.insert s.calls s.next_call (own.Kept o);
  next_call = s.next_call + 1;
  outcomes = map.insert s.outcomes o x;
})
keeps s o x e h =
    let c = map.insert s.calls s.next_call (own.Kept o) in
    let n = s.next_call + 1 in
    let f = older s.calls s.next_call (own.Kept o) in (
      put_outcome c n s.outcomes o x (subst (OfCaller c n o) (sym e) (its_own s.calls s.next_call (own.Kept o))) (other_outcomes s.calls c s.next_call n f s.outcomes h.0),
      other_questions s.calls c s.next_call n f s.questions h.1,
    )

-- ---- The acts

started : (s : State) (c : Command) (g : Granted) (new : Moment) → Starts (beginning s) c g new → Own s → Fine new
started s c g new (first.Hosts o e a h) i = rw h (i.0, i.1, tt)
started s c g new (first.Clones r x e f a h) i = rw h (i.0, i.1, tt)
started s c g new (first.Drops r x e f a h) i = rw h (i.0, i.1, tt)
started s c g new (first.AsksRoot q e f a h) i = rw h (let b = asks s q [] i in (b.0, b.1, tt))
started s c g new (first.CallsOut k x q t ds es e f j w l m a h) i = rw h (let b = asks s q ds i in (b.0, b.1, tt))
started s c g new (first.CallsHere k x u e f j w l a h) i = rw h (let b = keeps s u _ refl i in (b.0, b.1, tt))
started s c g new (first.CallsLater k x u z b e f j l m a h) i = rw h (let b = keeps s u _ refl i in (b.0, b.1, tt))
started s c g new (first.NamesField k path from e f a h) i = rw h (i.0, i.1, tt)
started s c g new (first.Promises p e f a h) i = rw h (i.0, i.1, tt)
started s c g new (first.Fixes p r x key calls e f j k a h) i = rw h (i.0, i.1, tt)
started s c g new (first.Rejects p why key calls e f j a h) i = rw h (i.0, i.1, tt)
started s c g new (first.Answers t payload refs u e f a h) i = rw h (i.0, i.1, tt)
started s c g new (first.Fails t why u e f a h) i = rw h (i.0, i.1, tt)
started s c g new (first.Finishes k from e f a h) i =
    rw h (
      other_outcomes s.calls (map.remove s.calls k.0) s.next_call s.next_call (finished s.calls s.next_call k.0) s.outcomes i.0,
      other_questions s.calls (map.remove s.calls k.0) s.next_call s.next_call (finished s.calls s.next_call k.0) s.questions i.1,
      tt,
    )
started s c g new (first.StaysPut r x e f a h) i = rw h (i.0, i.1, tt)
started s c g new (first.Breaks r x reason e f j k a h) i = rw h (i.0, i.1, tt)
started s c g new (first.Switches r x by n e f j k l m a h) i = rw h (i.0, i.1, tt)
started s c g new (first.Turns r x by n t k e f j l m w u v a h) i = rw h (i.0, i.1, tt)

consumed : (s : State) (m : Message) (new : Moment) → Consumes (beginning s) m new → Own s → Fine new
consumed s m new (message.OpensRoot q u e f j h) i = rw h (put_outcome s.calls s.next_call s.outcomes u _ tt i.0, i.1, tt)
consumed s m new (message.OpensCall c u e f j h) i = rw h (put_outcome s.calls s.next_call s.outcomes u _ tt i.0, i.1, tt)
consumed s m new (message.Loses b x e f j k h) i = rw h (i.0, cut_question s.calls s.next_call s.questions b.question i.1, tt)
consumed s m new (message.ComesToCall b x c e f j k l h) i =
    rw h (i.0, put_question s.calls s.next_call s.questions b.question (answered x b.waives b.said) (role_of s.calls s.next_call s.questions b.question x f i.1) i.1, tt)
consumed s m new (message.ComesToRelay b x u e f j k l h) i =
    rw h (i.0, put_question s.calls s.next_call s.questions b.question (answered x b.waives b.said) (role_of s.calls s.next_call s.questions b.question x f i.1) i.1, tt)
consumed s m new (message.IsFinished x y e f j h) i = rw h (i.0, i.1, tt)
consumed s m new (message.IsResolved r e h) i = rw h (i.0, i.1, tt)
consumed s m new (message.IsReleased r e h) i = rw h (i.0, i.1, tt)
consumed s m new (message.SendsBack t to x e f h) i = rw h (i.0, i.1, tt)
consumed s m new (message.Lifts t x b e f h) i = rw h (i.0, i.1, tt)
consumed s m new (message.SendsForeign p e f h) i = rw h (i.0, i.1, tt)
consumed s m new (message.SendsOther n e h) i = rw h (i.0, i.1, tt)
consumed s m new (message.TakesBack r e h) i = rw h (i.0, i.1, tt)
consumed s m new (message.Ignores r e h) i = rw h (i.0, i.1, tt)

acted : (d new : Moment) → Fine d → Act d new → Fine new
acted d new i (act.Delivers c n rest u e f h) = rw h i
acted d new i (act.Waits c n rest p calls e f j h) = rw h i
acted d new i (act.Holds c n rest u path x e f j h) =
    rw h (put_outcome d.state.calls d.state.next_call d.state.outcomes u _ (caller_of d.state.calls d.state.next_call d.state.outcomes u x j i.0) i.0, i.1, i.2)
acted d new i (act.Relays c n rest q t ds es e f j k h) =
    rw h (i.0, put_question d.state.calls d.state.next_call d.state.questions q (asked (role.Relay c.outcome) ds) tt i.1, i.2)
acted d new i (act.Breaks c n rest reason e f h) = rw h i
acted d new i (act.NextArisen u v rest e f h) = rw h i
acted d new i (act.Knows u v fit x ps e f j k h) =
    rw h (
      put_outcome d.state.calls d.state.next_call d.state.outcomes u _ (caller_of d.state.calls d.state.next_call d.state.outcomes u x f i.0) i.0,
      i.1,
      caller_of d.state.calls d.state.next_call d.state.outcomes u x f i.0,
    )
acted d new i (act.Reports c v from e f h) = rw h i
acted d new i (act.TellsNobody c v e f h) = rw h i
acted d new i (act.MakesReturn q v x b ds es e f j k h) = rw h i
acted d new i (act.SendsReturn x y e f j h) = rw h i
acted d new i (act.Clears x e f h) =
    let a : AtClearing d.state.calls d.state.next_call (Some x) = subst (AtClearing d.state.calls d.state.next_call) (ap (λ (m : Moment). m.clearing) e) i.2 in
    rw h (put_outcome d.state.calls d.state.next_call d.state.outcomes x.outcome _ a i.0, i.1, tt)
acted d new i (act.Lists x e h) = rw h i
acted d new i (act.SendsResolve x rest k es e w f h) = rw h i
acted d new i (act.SendsBroken x rest reason e f h) = rw h i
acted d new i (act.PromiseGoes p to w e f h) = rw h i
acted d new i (act.OutcomeGoes u x v w e f j k l h) = rw h (cut_outcome d.state.calls d.state.next_call d.state.outcomes u i.0, i.1, i.2)
acted d new i (act.ImportGoes k x w e f h) = rw h i
acted d new i (act.Sweeps over e f j h) = rw h i
acted d new i (act.SendsFinish q x rest e f j k l h) = rw h (i.0, closes d.state.calls d.state.next_call d.state.questions q x x.returned f i.1, i.2)
acted d new i (act.Closes q x rest e f j k l h) = rw h (i.0, closes d.state.calls d.state.next_call d.state.questions q x x.returned f i.1, i.2)
acted d new i (act.Releases w e f h) = rw h i

-- ---- Reached states

none : (s : State) → s.outcomes ≡ map.empty → s.questions ≡ map.empty → Own s
none s e f = (
  λ o. subst (AtOutcome s.calls s.next_call o) (sym (ap (λ (m : Map KeptOutcome). map.get m o) e ∙ map.get-empty nat_cmp o)) tt,
  λ q. subst (AtQuestion s.calls s.next_call q) (sym (ap (λ (m : Map Question). map.get m q) f ∙ map.get-empty nat_cmp q)) tt,
)

law : IsLaw (λ s d. Own s → Fine d) (λ s x t. Own s → Own t)
law = record {
  starts = λ s c g new f h i. started s c g new h i;
  consumes = λ s m new f h i. consumed s m new h i;
  act = λ s d new k h i. acted d new (k i) h;
  ends = λ s last x t k h i. rw h.state (let b = k i in (b.0, b.1));
  stays = λ s i. i;
  falls = λ s n x i. none (fallen s n) refl refl;
}

each_own : (s : State) → IsReached s → Own s
each_own = in_each (record { starts = λ v l b. none (start v l b) refl refl; steps = of_each_step law; falls = λ s n. none (fallen s n) refl refl })

-- ---- So of each call

outcome_for : (calls : Map OwnCall) (next c o : ℕ) (x : Option KeptOutcome) → AtOutcome calls next o x → IsOutcomeFor c x → OfCall calls next (own.Kept o) c
outcome_for calls next c o None a h = absurd h
outcome_for calls next c o (Some x) a h = subst (OfCaller calls next o) h a

question_for : (calls : Map OwnCall) (next c q : ℕ) (x : Option Question) → AtQuestion calls next q x → IsQuestionFor c x → OfCall calls next (own.Direct (record { 0 = q })) c
question_for calls next c q None a h = absurd h
question_for calls next c q (Some x) a h = subst (OfRole calls next q) h a

pub have_their_own : (s : State) → IsReached s → CallsHaveTheirOwn s
have_their_own s r = record {
  each = λ c. by c (map.get s.calls c) refl;
  outcomes = λ c o h. (outcome c o h).0;
  questions = λ c q h. (question c q h).0;
}
  where
    outcome : (c o : ℕ) → IsOutcomeFor c (map.get s.outcomes o) → OfCall s.calls s.next_call (own.Kept o) c
    outcome c o h = outcome_for s.calls s.next_call c o (map.get s.outcomes o) ((each_own s r).0 o) h

    question : (c q : ℕ) → IsQuestionFor c (map.get s.questions q) → OfCall s.calls s.next_call (own.Direct (record { 0 = q })) c
    question c q h = question_for s.calls s.next_call c q (map.get s.questions q) ((each_own s r).1 q) h

    by : (c : ℕ) (x : Option OwnCall) → map.get s.calls c ≡ x → HasItsOwnAlone s c x
    by c None e = tt
    by c (Some from) e = (
      λ o h. subst (IsFrom (own.Kept o)) e (outcome c o h).1,
      λ q h. subst (IsFrom (own.Direct (record { 0 = q }))) e (question c q h).1,
    )
