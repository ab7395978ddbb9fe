-- A task is answered once at most: how often it was answered, and one if it is still there, is at most how often it was
-- delivered.
use Rattle.std.proofs.Common.{◌≡◌, ℕ, ◌+◌, ◌≤◌, Bool, true, false, not, cond, nat_eq, List, [], ◌∷◌, Option, None, Some, is_some, Result, Ok, Err, refl, sym, ap, subst, ◌∙◌, arith}
use Rattle.std.specs.Ordering.{nat_cmp}
use Rattle.std.specs.FinMap as map
use Rattle.finite_maps.specs.Tally.{Map}
use Rattle.finite_maps.proofs.Tested.{equal, get_put, get_cut}
use Rattle.rpc_msg.specs.declared.message.Message.{Message}
use Rattle.rpc_machine.specs.rpc_journal.specs.History.{if_so}
use Rattle.rpc_machine.specs.declared.command.Command.{Command}
use Rattle.rpc_machine.specs.declared.command.Command.TheVariants as command
use Rattle.rpc_machine.specs.declared.command.Granted.{Granted}
use Rattle.rpc_machine.specs.declared.command.Refusal.{Refusal}
use Rattle.rpc_machine.specs.declared.command.Refusal.TheVariants as refusal
use Rattle.rpc_machine.specs.declared.command.Effects.{Effects}
use Rattle.rpc_machine.specs.State.{State}
use Rattle.rpc_machine.specs.Lists.{is_empty}
use Rattle.rpc_machine.specs.Refusals.{while_down, wrong_level, unknown_ref, unknown_task, wrong_caps, without_room, refused}
use Rattle.rpc_machine.specs.Down.{IsUnchanged, Falls, ShutsFrom, fallen}
use Rattle.rpc_machine.specs.Steps.{Obeys, Refuses, LacksMemory, GoesDown, Shuts, IsDone, Receives, WasDown, FaultsBy, LacksRoom, IsHandled}
use Rattle.laws_acts.specs.Moments.{Moment, beginning}
use Rattle.laws_acts.specs.FirstActs.{Starts}
use Rattle.laws_acts.specs.FirstActs as first
use Rattle.laws_acts.specs.MessageActs.{Consumes}
use Rattle.laws_acts.specs.MessageActs as consume
use Rattle.laws_acts.specs.SmallActs.{Act, delivery}
use Rattle.laws_acts.specs.SmallActs as act
use Rattle.laws_acts.proofs.Checks as checks
use Rattle.laws_acts.proofs.EachStep.{done, handled, at_end}
use Rattle.laws_nodes.specs.Embargoes.{here}
use Rattle.laws_nodes.specs.Ones.{one_if}
use Rattle.laws_authority.specs.Runs.{Event, GotMessage, logged, RunsTo, New, Commanded, Received, Fell}
use Rattle.laws_authority.specs.Once.{tasks_in, answers_of, times_delivered, times_answered, AllAtMostOnce}
use Rattle.laws_authority.proofs.Once.{tasks-append, no_deliveries, refused_same, ends_once, delivered_once}

-- ---- Tasks that are there

-- A new task is there, if it is that one.
one_more : (m : Map ℕ) (next o k : ℕ) → here (map.get (map.insert m next o) k) ≤ here (map.get m k) + one_if (nat_eq k next)
one_more m next o k = subst (λ (x : Option ℕ). here x ≤ here (map.get m k) + one_if (nat_eq k next)) (sym (get_put m next o k)) (by (nat_eq k next))
  where
    by : (b : Bool) → here (cond b (Some o) (map.get m k)) ≤ here (map.get m k) + one_if b
    by true = omega arith
    by false = omega arith

one_less : (m : Map ℕ) (t o k : ℕ) → map.get m t ≡ Some o → one_if (nat_eq k t) + here (map.get (map.remove m t) k) ≤ here (map.get m k)
one_less m t o k e = subst (λ (x : Option ℕ). one_if (nat_eq k t) + here x ≤ here (map.get m k)) (sym (get_cut m t k)) (by (nat_eq k t) refl)
  where
    by : (b : Bool) → nat_eq k t ≡ b → one_if b + here (cond b None (map.get m k)) ≤ here (map.get m k)
    by true f = let g : here (map.get m k) ≡ 1 = ap here (ap (map.get m) (equal k t f) ∙ e) in omega arith
    by false f = omega arith

-- What a command that is not refused answers is there.
its_task : (s : State) (t k : ℕ) → unknown_task s t ≡ None → one_if (nat_eq k t) ≤ here (map.get s.tasks k)
its_task s t k h = by (nat_eq k t) refl
  where
    there : (o : Option ℕ) → if_so (not (is_some o)) refusal.UnknownTask ≡ None → here o ≡ 1
    there None f = absurd (let g : Some refusal.UnknownTask ≡ None = f in cc)
    there (Some o) f = refl

    by : (b : Bool) → nat_eq k t ≡ b → one_if b ≤ here (map.get s.tasks k)
    by true f = let g : here (map.get s.tasks k) ≡ 1 = ap (λ (i : ℕ). here (map.get s.tasks i)) (equal k t f) ∙ there (map.get s.tasks t) h in omega arith
    by false f = omega arith

had_task : (s : State) (c : Command) (k : ℕ) → refused s c ≡ None → answers_of k c ≤ here (map.get s.tasks k)
had_task s (command.Answer t payload refs) k h =
    let last = wrong_caps payload refs ∷ without_room s (command.Answer t payload refs) ∷ [] in
    let three = unknown_task s t.0 ∷ last in
    let two = unknown_ref s refs ∷ three in
    let one = wrong_level s (not (is_empty refs)) ∷ two in
    its_task s t.0 k (checks.first (unknown_task s t.0) last (checks.rest (unknown_ref s refs) three (checks.rest (wrong_level s (not (is_empty refs))) two (checks.rest (while_down s (command.Answer t payload refs)) one h))))
had_task s (command.Fail t why) k h =
    let last = without_room s (command.Fail t why) ∷ [] in
    its_task s t.0 k (checks.first (unknown_task s t.0) last (checks.rest (while_down s (command.Fail t why)) (unknown_task s t.0 ∷ last) h))
had_task s (command.Host o) k h = omega arith
had_task s (command.CloneRef r) k h = omega arith
had_task s (command.DropRef r) k h = omega arith
had_task s command.Bootstrap k h = omega arith
had_task s (command.Call c) k h = omega arith
had_task s (command.Field c path) k h = omega arith
had_task s command.Promise k h = omega arith
had_task s (command.Resolve p r) k h = omega arith
had_task s (command.Reject p why) k h = omega arith
had_task s (command.Finish c) k h = omega arith
had_task s (command.Advance r) k h = omega arith
had_task s (command.Shut n) k h = omega arith

-- ---- Each act

-- It was answered `own` times, this step's command among them, and delivered `given` times before the step.
module _ (own given k : ℕ) where
  abbrev Fits : Moment → Type 0
  Fits d = own + here (map.get d.state.tasks k) ≤ given + tasks_in k d.effects.deliveries

  acted : (d new : Moment) → Fits d → Act d new → Fits new
  acted d new i (act.Delivers c n rest u e f h) =
      rw h (let a = tasks-append k d.effects.deliveries (delivery d.state c u ∷ []) in let b = one_more d.state.tasks d.state.next_task c.outcome k in omega arith)
  acted d new i (act.Waits c n rest p calls e f j h) = rw h i
  acted d new i (act.Holds c n rest u path x e f j h) = rw h i
  acted d new i (act.Relays c n rest q t ds es e f j z h) = rw h i
  acted d new i (act.Breaks c n rest reason e f h) = rw h i
  acted d new i (act.NextArisen u v rest e f h) = rw h i
  acted d new i (act.Knows u v fit x ps e f j z h) = rw h i
  acted d new i (act.Reports c v from e f h) = rw h i
  acted d new i (act.TellsNobody c v e f h) = rw h i
  acted d new i (act.MakesReturn q v x b ds es e f j z h) = rw h i
  acted d new i (act.SendsReturn x y e f j h) = rw h i
  acted d new i (act.Clears x e f h) = rw h i
  acted d new i (act.Lists x e h) = rw h i
  acted d new i (act.SendsResolve x rest z es e w f h) = rw h i
  acted d new i (act.SendsBroken x rest reason e f h) = rw h i
  acted d new i (act.PromiseGoes p to w e f h) = rw h i
  acted d new i (act.OutcomeGoes u x v w e f j z l h) = rw h i
  acted d new i (act.ImportGoes z x w e f h) = rw h i
  acted d new i (act.Sweeps over e f j h) = rw h i
  acted d new i (act.SendsFinish q x rest e f j z l h) = rw h i
  acted d new i (act.Closes q x rest e f j z l h) = rw h i
  acted d new i (act.Releases w e f h) = rw h i

  consumed : (s : State) (m : Message) (new : Moment) → Fits (beginning s) → Consumes (beginning s) m new → Fits new
  consumed s m new i (consume.OpensRoot q o e f j u) = rw u i
  consumed s m new i (consume.OpensCall c o e f j u) = rw u i
  consumed s m new i (consume.Loses b x e f j l u) = rw u i
  consumed s m new i (consume.ComesToCall b x c e f j y l u) = rw u i
  consumed s m new i (consume.ComesToRelay b x o e f j y l u) = rw u i
  consumed s m new i (consume.IsFinished x z e f j u) = rw u i
  consumed s m new i (consume.IsResolved r e u) = rw u i
  consumed s m new i (consume.IsReleased r e u) = rw u i
  consumed s m new i (consume.SendsBack t to x e f u) = rw u i
  consumed s m new i (consume.Lifts t x b e f u) = rw u i
  consumed s m new i (consume.SendsForeign p e f u) = rw u i
  consumed s m new i (consume.SendsOther n e u) = rw u i
  consumed s m new i (consume.TakesBack r e u) = rw u i
  consumed s m new i (consume.Ignores r e u) = rw u i

module _ (s : State) (c : Command) (own given k : ℕ) (before : own + here (map.get s.tasks k) ≤ given) where
  still : answers_of k c ≡ 0 → Fits (answers_of k c + own) given k (beginning s)
  still e = omega (arith, e, before)

  started : (g : Granted) (new : Moment) → Starts (beginning s) c g new → Fits (answers_of k c + own) given k new
  started g new (first.Answers t payload refs o e f a u) =
      rw u (let z : answers_of k c ≡ one_if (nat_eq k t.0) = ap (answers_of k) e in let l = one_less s.tasks t.0 o k f in omega (arith, z, l, before))
  started g new (first.Fails t why o e f a u) =
      rw u (let z : answers_of k c ≡ one_if (nat_eq k t.0) = ap (answers_of k) e in let l = one_less s.tasks t.0 o k f in omega (arith, z, l, before))
  started g new (first.AsksRoot q e f a u) = rw u (still (ap (answers_of k) e))
  started g new (first.CallsOut y x q t ds es e f j l m n a u) = rw u (still (ap (answers_of k) e))
  started g new (first.CallsHere y x o e f j l m a u) = rw u (still (ap (answers_of k) e))
  started g new (first.CallsLater y x o z b e f j l m a u) = rw u (still (ap (answers_of k) e))
  started g new (first.Hosts o e a u) = rw u (still (ap (answers_of k) e))
  started g new (first.Clones y x e f a u) = rw u (still (ap (answers_of k) e))
  started g new (first.NamesField y path from e f a u) = rw u (still (ap (answers_of k) e))
  started g new (first.Promises p e f a u) = rw u (still (ap (answers_of k) e))
  started g new (first.Drops y x e f a u) = rw u (still (ap (answers_of k) e))
  started g new (first.Fixes p y x key calls e f j l a u) = rw u (still (ap (answers_of k) e))
  started g new (first.Rejects p why key calls e f j a u) = rw u (still (ap (answers_of k) e))
  started g new (first.Finishes y from e f a u) = rw u (still (ap (answers_of k) e))
  started g new (first.StaysPut y x e f a u) = rw u (still (ap (answers_of k) e))
  started g new (first.Breaks y x reason e f j l a u) = rw u (still (ap (answers_of k) e))
  started g new (first.Switches y x by n e f j l m o a u) = rw u (still (ap (answers_of k) e))
  started g new (first.Turns y x by n t z e f j l m o w q a u) = rw u (still (ap (answers_of k) e))

-- ---- Each step

-- The task was answered `more` times in the step.
abbrev Keeps : (ℕ → ℕ) → State → Effects → State → Type 0
Keeps more s x t = (k own given : ℕ) → own + here (map.get s.tasks k) ≤ given → (more k + own) + here (map.get t.tasks k) ≤ tasks_in k x.deliveries + given

abbrev none_more : ℕ → ℕ
none_more k = 0

fell : (more : ℕ → ℕ) (s : State) (n : ℕ) (x : Effects) (t : State) → ((k : ℕ) → more k ≤ here (map.get s.tasks k)) → x.deliveries ≡ [] → t ≡ fallen s n → Keeps more s x t
fell more s n x t f e h k own given i =
    let a = f k in
    let b : here (map.get (fallen s n).tasks k) ≡ 0 = ap here (map.get-empty nat_cmp k) in
    rw (e, h) (omega (arith, a, b, i))

falls : (more : ℕ → ℕ) (s : State) (n : ℕ) (x : Effects) (t : State) → ((k : ℕ) → more k ≤ here (map.get s.tasks k)) → Falls s n x t → Keeps more s x t
falls more s n x t f h = fell more s n x t f (ap (λ (y : Effects). y.deliveries) h.effects_are) h.new_is

same : (more : ℕ → ℕ) (s : State) (x : Effects) (t : State) → ((k : ℕ) → more k ≡ 0) → IsUnchanged s x t → Keeps more s x t
same more s x t f h k own given i = let a = f k in rw (h.effects_are, h.new_is) (omega (arith, a, i))

shut : (more : ℕ → ℕ) (s : State) (n : ℕ) (d : Option ℕ) (x : Effects) (t : State) → ((k : ℕ) → more k ≡ 0) → ShutsFrom s n d x t → Keeps more s x t
shut more s n None x t f h = falls more s n x t (λ k. let a = f k in omega (arith, a)) h
shut more s n (Some d) x t f h = same more s x t f h

of_command : (s : State) (c : Command) (g : Granted) (x : Effects) (t : State) → Obeys s c (Ok g) x t → Keeps (λ k. answers_of k c) s x t
of_command s c g x t (Refuses r f e u) = absurd (let a : Ok g ≡ Err r = e in cc)
of_command s c g x t (LacksMemory f m e u) = absurd (let a : Ok g ≡ Err refusal.Memory = e in cc)
of_command s c g x t (GoesDown f m e u) = falls (λ k. answers_of k c) s _ x t (λ k. had_task s c k f) u
of_command s c g x t (Shuts n e f h) = shut (λ k. answers_of k c) s n s.down x t (λ k. ap (answers_of k) e) h
of_command s c g x t (IsDone given f e h w) = λ k own times i.
    let d = done (Fits (answers_of k c + own) times k) s c given x t (started s c own times k i given) (acted (answers_of k c + own) times k) h in
    let a = at_end (λ (u : State) (y : Effects). (answers_of k c + own) + here (map.get u.tasks k) ≤ times + tasks_in k y.deliveries) d.last x t d.ends d.holds in
    omega (arith, a)

of_message : (s : State) (m : Message) (x : Effects) (t : State) → Receives s m x t → Keeps none_more s x t
of_message s m x t (WasDown d u) = same none_more s x t (λ k. refl) u
of_message s m x t (FaultsBy n d f g h) = fell none_more s n x t (λ k. omega arith) (ap (λ (y : Effects). y.deliveries) g ∙ no_deliveries m n) h
of_message s m x t (LacksRoom d f u) = falls none_more s _ x t (λ k. omega arith) u
of_message s m x t (IsHandled d f h w) = λ k own times i.
    let d = handled (Fits own times k) s m x t f (λ new j. consumed own times k s m new (omega (arith, i)) j) (acted own times k) h in
    let a = at_end (λ (u : State) (y : Effects). own + here (map.get u.tasks k) ≤ times + tasks_in k y.deliveries) d.last x t d.ends d.holds in
    omega (arith, a)

-- ---- Each run

abbrev Kept : State → List Event → Type 0
Kept s log = (k : ℕ) → times_answered k log + here (map.get s.tasks k) ≤ times_delivered k log

after_command : (s t : State) (log : List Event) (c : Command) (a : Result Granted Refusal) (x : Effects) → Obeys s c a x t → Kept s log → Kept t (logged s c a x log)
after_command s t log c (Err r) x o f k = let u = refused_same s c r x t o in rw u.new_is (f k)
after_command s t log c (Ok g) x o f k = of_command s c g x t o k (times_answered k log) (times_delivered k log) (f k)

after_message : (s t : State) (log : List Event) (m : Message) (x : Effects) → Receives s m x t → Kept s log → Kept t (GotMessage s m x ∷ log)
after_message s t log m x o f k = let a = of_message s m x t o k (times_answered k log) (times_delivered k log) (f k) in omega (arith, a)

in_runs : (s : State) (log : List Event) → RunsTo s log → Kept s log
in_runs _ _ (New v l b) k = let a = ap (here {X = ℕ}) (map.get-empty nat_cmp k) in omega (arith, a)
in_runs t _ (Commanded {s = s} {log = log} c a x run o) k = after_command s t log c a x o (in_runs s log run) k
in_runs t _ (Received {s = s} {log = log} m x run o) k = after_message s t log m x o (in_runs s log run) k
in_runs _ _ (Fell {s = s} {log = log} n run) k = let a = in_runs s log run k in let b : here (map.get (fallen s n).tasks k) ≡ 0 = ap here (map.get-empty nat_cmp k) in omega (arith, a, b)

pub at_most_once : AllAtMostOnce
at_most_once = record {
  ends = ends_once;
  deliveries = delivered_once;
  answers = λ s log run k. let a = in_runs s log run k in omega (arith, a);
}
