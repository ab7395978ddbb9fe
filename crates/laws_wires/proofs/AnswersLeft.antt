-- The answers behind a step: one that was there stays, of the same outcome, or it closes.
use Rattle.std.specs.FinMap as map
use Rattle.std.specs.Ordering.{nat_cmp}
use Rattle.std.proofs.Common.{◌≡◌, ℕ, Bool, true, false, List, Option, None, Some, refl, sym, subst, ap, ◌∙◌}
use Rattle.finite_maps.specs.Tally.{Map}
use Rattle.finite_maps.proofs.Tested.{at_cut, at_put}
use Rattle.rpc_msg.specs.declared.ids.ExportId.{ExportId}
use Rattle.rpc_msg.specs.declared.message.Message.{Message}
use Rattle.rpc_machine.specs.declared.command.Command.{Command}
use Rattle.rpc_machine.specs.declared.command.Granted.{Granted}
use Rattle.rpc_machine.specs.declared.entries.AnswerEntry.{AnswerEntry}
use Rattle.rpc_machine.specs.Down.{fallen}
use Rattle.rpc_machine.specs.Messages.{finished_map}
use Rattle.rpc_machine.specs.Progress.{export_ids}
use Rattle.rpc_machine.specs.Settling.{returned_map}
use Rattle.rpc_machine.specs.State.{State, start}
use Rattle.laws_acts.specs.Moments.{Moment, beginning}
use Rattle.laws_acts.specs.FirstActs.{Starts}
use Rattle.laws_acts.specs.FirstActs as first
use Rattle.laws_acts.specs.MessageActs.{Consumes}
use Rattle.laws_acts.specs.MessageActs as taken
use Rattle.laws_acts.specs.SmallActs.{Act, Acts, NoMore, Then}
use Rattle.laws_acts.specs.SmallActs as act
use Rattle.laws_acts.proofs.EachStep.{IsLaw, of_each_step}
use Rattle.laws_steps.proofs.Kept.{in_each}
use Rattle.laws_wires.specs.SceneSessions.{ActsLeaveAnswers, AnswerStays, FinishedAnswersWaitWhenReached}

-- ---- One entry

stays_same : (o : Option AnswerEntry) → AnswerStays o o
stays_same None = refl
stays_same (Some x) = (refl, refl)

stays_then : (x y z : Option AnswerEntry) → AnswerStays x y → AnswerStays y z → AnswerStays x z
stays_then None y z h k = by y h k
  where
    by : (y : Option AnswerEntry) → y ≡ None → AnswerStays y z → z ≡ None
    by None e k = k
    by (Some y) e k = absurd (let bad : Some y ≡ None = e in cc)
stays_then (Some x) None z h k = subst (AnswerStays (Some x)) (sym k) h
stays_then (Some x) (Some y) None h k = sym h.1 ∙ k
stays_then (Some x) (Some y) (Some z) h k = (k.0 ∙ h.0, k.1 ∙ h.1)

abbrev AllStay : Map AnswerEntry → Map AnswerEntry → Type 0
AllStay m n = (q : ℕ) → AnswerStays (map.get m q) (map.get n q)

all_same : (m : Map AnswerEntry) → AllStay m m
all_same m q = stays_same (map.get m q)

-- A Return closes an answer that was finished.
returned : (m : Map AnswerEntry) (k : ℕ) (a : AnswerEntry) (b : Bool) (ids : List ℕ) → map.get m k ≡ Some a → a.finished ≡ b → AllStay m (returned_map m k a b ids)
returned m k a true ids there e = at_cut (λ j o. AnswerStays (map.get m j) o) m k (subst (λ (o : Option AnswerEntry). AnswerStays o None) (sym there) e) (λ j n. stays_same (map.get m j))
returned m k a false ids there e =
    let b : AnswerEntry = record a { returned = Some (export_ids ids) } in
    at_put (λ j o. AnswerStays (map.get m j) o) m k b (subst (λ (o : Option AnswerEntry). AnswerStays o (Some b)) (sym there) (refl, refl)) (λ j n. stays_same (map.get m j))

-- ---- Acts

abbrev Leave : Moment → Moment → Type 0
Leave d new = AllStay d.state.answers new.state.answers

acted : (d new : Moment) → Act d new → Leave d new
acted d new (act.Delivers c n rest u e f h) = rw h (all_same d.state.answers)
acted d new (act.Waits c n rest p calls e f j h) = rw h (all_same d.state.answers)
acted d new (act.Holds c n rest u path x e f j h) = rw h (all_same d.state.answers)
acted d new (act.Relays c n rest q t ds es e f j k h) = rw h (all_same d.state.answers)
acted d new (act.Breaks c n rest reason e f h) = rw h (all_same d.state.answers)
acted d new (act.NextArisen u v rest e f h) = rw h (all_same d.state.answers)
acted d new (act.Knows u v fit x ps e f j k h) = rw h (all_same d.state.answers)
acted d new (act.Reports c v from e f h) = rw h (all_same d.state.answers)
acted d new (act.TellsNobody c v e f h) = rw h (all_same d.state.answers)
acted d new (act.MakesReturn q v x b ds es e f j k h) = rw h (all_same d.state.answers)
acted d new (act.SendsReturn x a e f j h) = rw h (returned d.state.answers x.answer.0 a a.finished _ f refl)
acted d new (act.Clears x e f h) = rw h (all_same d.state.answers)
acted d new (act.Lists x e h) = rw h (all_same d.state.answers)
acted d new (act.SendsResolve x rest k es e w f h) = rw h (all_same d.state.answers)
acted d new (act.SendsBroken x rest reason e f h) = rw h (all_same d.state.answers)
acted d new (act.PromiseGoes p to w e f h) = rw h (all_same d.state.answers)
acted d new (act.OutcomeGoes u x v w e f j k l h) = rw h (all_same d.state.answers)
acted d new (act.ImportGoes k x w e f h) = rw h (all_same d.state.answers)
acted d new (act.Sweeps over e f j h) = rw h (all_same d.state.answers)
acted d new (act.SendsFinish q x rest e f j k l h) = rw h (all_same d.state.answers)
acted d new (act.Closes q x rest e f j k l h) = rw h (all_same d.state.answers)
acted d new (act.Releases w e f h) = rw h (all_same d.state.answers)

pub acts_leave_answers : ActsLeaveAnswers
acts_leave_answers last d NoMore = all_same d.state.answers
acts_leave_answers last d (Then {mid = mid} one rest) = λ q. stays_then (map.get d.state.answers q) (map.get mid.state.answers q) (map.get last.state.answers q) (acted d mid one q) (acts_leave_answers last mid rest q)

-- ---- What is finished waits

abbrev Waits : Option AnswerEntry → Type 0
Waits o = (a : AnswerEntry) → o ≡ Some a → a.finished ≡ true → a.returned ≡ None

abbrev AllWait : Map AnswerEntry → Type 0
AllWait m = (q : ℕ) → Waits (map.get m q)

one_waits : (a : AnswerEntry) → (a.finished ≡ true → a.returned ≡ None) → Waits (Some a)
one_waits a h b e = subst (λ (c : AnswerEntry). c.finished ≡ true → c.returned ≡ None) (let is : a ≡ b = cc in is) h

none_waits : Waits None
none_waits a e = absurd (let bad : ◌≡◌ {A = Option AnswerEntry} None (Some a) = e in cc)

opened : (m : Map AnswerEntry) (k : ℕ) (a : AnswerEntry) → a.finished ≡ false → AllWait m → AllWait (map.insert m k a)
opened m k a e h = at_put (λ j o. Waits o) m k a (one_waits a (λ f. absurd (let bad : true ≡ false = sym f ∙ e in cc))) (λ j n. h j)

finished : (m : Map AnswerEntry) (k : ℕ) (a : AnswerEntry) (r : Option (List ExportId)) → a.returned ≡ r → AllWait m → AllWait (finished_map m k a r)
finished m k a None e h = at_put (λ j o. Waits o) m k (record a { finished = true }) (one_waits (record a { finished = true }) (λ f. e)) (λ j n. h j)
finished m k a (Some ids) e h = at_cut (λ j o. Waits o) m k none_waits (λ j n. h j)

returned_waits : (m : Map AnswerEntry) (k : ℕ) (a : AnswerEntry) (b : Bool) (ids : List ℕ) → a.finished ≡ b → AllWait m → AllWait (returned_map m k a b ids)
returned_waits m k a true ids e h = at_cut (λ j o. Waits o) m k none_waits (λ j n. h j)
returned_waits m k a false ids e h =
    let b : AnswerEntry = record a { returned = Some (export_ids ids) } in
    at_put (λ j o. Waits o) m k b (one_waits b (λ f. absurd (let bad : true ≡ false = sym f ∙ e in cc))) (λ j n. h j)

pub started_same : (s : State) (c : Command) (g : Granted) (new : Moment) → Starts (beginning s) c g new → new.state.answers ≡ s.answers
started_same s c g new (first.Hosts o e a h) = rw h refl
started_same s c g new (first.Clones r x e f a h) = rw h refl
started_same s c g new (first.Drops r x e f a h) = rw h refl
started_same s c g new (first.AsksRoot q e f a h) = rw h refl
started_same s c g new (first.CallsOut k x q t ds es e f j l m n a h) = rw h refl
started_same s c g new (first.CallsHere k x o e f j l m a h) = rw h refl
started_same s c g new (first.CallsLater k x o y b e f j l m a h) = rw h refl
started_same s c g new (first.NamesField k path from e f a h) = rw h refl
started_same s c g new (first.Promises p e f a h) = rw h refl
started_same s c g new (first.Fixes p r x key calls e f j k a h) = rw h refl
started_same s c g new (first.Rejects p why key calls e f j a h) = rw h refl
started_same s c g new (first.Answers t payload refs o e f a h) = rw h refl
started_same s c g new (first.Fails t why o e f a h) = rw h refl
started_same s c g new (first.Finishes k from e f a h) = rw h refl
started_same s c g new (first.StaysPut r x e f a h) = rw h refl
started_same s c g new (first.Breaks r x reason e f j k a h) = rw h refl
started_same s c g new (first.Switches r x by n e f j k l m a h) = rw h refl
started_same s c g new (first.Turns r x by n t k e f j l m o w u a h) = rw h refl

consumed_waits : (s : State) (m : Message) (new : Moment) → Consumes (beginning s) m new → AllWait s.answers → AllWait new.state.answers
consumed_waits s m new (taken.OpensRoot q o e f j h) i = rw h (opened s.answers q.0 _ refl i)
consumed_waits s m new (taken.OpensCall c o e f j h) i = rw h (opened s.answers c.question.0 _ refl i)
consumed_waits s m new (taken.Loses b x e f j k h) i = rw h i
consumed_waits s m new (taken.ComesToCall b x c e f j k l h) i = rw h i
consumed_waits s m new (taken.ComesToRelay b x u e f j k l h) i = rw h i
consumed_waits s m new (taken.IsFinished x y e f j h) i = rw h (finished s.answers x.question.0 y y.returned refl i)
consumed_waits s m new (taken.IsResolved r e h) i = rw h i
consumed_waits s m new (taken.IsReleased r e h) i = rw h i
consumed_waits s m new (taken.SendsBack t to x e f h) i = rw h i
consumed_waits s m new (taken.Lifts t x b e f h) i = rw h i
consumed_waits s m new (taken.SendsForeign p e f h) i = rw h i
consumed_waits s m new (taken.SendsOther n e h) i = rw h i
consumed_waits s m new (taken.TakesBack r e h) i = rw h i
consumed_waits s m new (taken.Ignores r e h) i = rw h i

acted_waits : (d new : Moment) → AllWait d.state.answers → Act d new → AllWait new.state.answers
acted_waits d new i (act.Delivers c n rest u e f h) = rw h i
acted_waits d new i (act.Waits c n rest p calls e f j h) = rw h i
acted_waits d new i (act.Holds c n rest u path x e f j h) = rw h i
acted_waits d new i (act.Relays c n rest q t ds es e f j k h) = rw h i
acted_waits d new i (act.Breaks c n rest reason e f h) = rw h i
acted_waits d new i (act.NextArisen u v rest e f h) = rw h i
acted_waits d new i (act.Knows u v fit x ps e f j k h) = rw h i
acted_waits d new i (act.Reports c v from e f h) = rw h i
acted_waits d new i (act.TellsNobody c v e f h) = rw h i
acted_waits d new i (act.MakesReturn q v x b ds es e f j k h) = rw h i
acted_waits d new i (act.SendsReturn x a e f j h) = rw h (returned_waits d.state.answers x.answer.0 a a.finished _ refl i)
acted_waits d new i (act.Clears x e f h) = rw h i
acted_waits d new i (act.Lists x e h) = rw h i
acted_waits d new i (act.SendsResolve x rest k es e w f h) = rw h i
acted_waits d new i (act.SendsBroken x rest reason e f h) = rw h i
acted_waits d new i (act.PromiseGoes p to w e f h) = rw h i
acted_waits d new i (act.OutcomeGoes u x v w e f j k l h) = rw h i
acted_waits d new i (act.ImportGoes k x w e f h) = rw h i
acted_waits d new i (act.Sweeps over e f j h) = rw h i
acted_waits d new i (act.SendsFinish q x rest e f j k l h) = rw h i
acted_waits d new i (act.Closes q x rest e f j k l h) = rw h i
acted_waits d new i (act.Releases w e f h) = rw h i

none_there : (s : State) → s.answers ≡ map.empty → AllWait s.answers
none_there s e q = subst Waits (sym (ap (λ (m : Map AnswerEntry). map.get m q) e ∙ map.get-empty nat_cmp q)) none_waits

waiting : IsLaw (λ s d. AllWait s.answers → AllWait d.state.answers) (λ s x t. AllWait s.answers → AllWait t.answers)
waiting = record {
  starts = λ s c g new f h i. subst AllWait (sym (started_same s c g new h)) i;
  consumes = λ s m new f h i. consumed_waits s m new h i;
  act = λ s d new k h i. acted_waits d new (k i) h;
  ends = λ s last x t k h i. rw h.state (k i);
  stays = λ s i. i;
  falls = λ s n x i. none_there (fallen s n) refl;
}

pub finished_answers_wait : FinishedAnswersWaitWhenReached
finished_answers_wait s r = in_each (record { starts = λ v l b. none_there (start v l b) refl; steps = of_each_step waiting; falls = λ s n. none_there (fallen s n) refl }) s r
