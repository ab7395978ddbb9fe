-- Each act keeps that a task which is there was delivered and not answered; so it is in each scene.
use Rattle.std.proofs.Common.{◌≡◌, ℕ, ◌+◌, ◌≤◌, Bool, true, false, cond, not, is_some, ◌&&◌, nat_eq, Option, None, Some, List, [], ◌∷◌, ◌++◌, map, refl, sym, ap, subst, ◌∙◌, arith}
use Rattle.std.specs.Ordering.{nat_cmp}
use Rattle.std.specs.FinMap as map
use Rattle.finite_maps.specs.Tally.{Map}
use Rattle.finite_maps.proofs.Tested.{get_put, get_cut}
use Rattle.rpc_msg.specs.declared.ids.Vat.{Vat}
use Rattle.rpc_msg.specs.declared.ids.Vat.TheVariants.{A, B}
use Rattle.rpc_msg.specs.declared.ids.RefId.{RefId}
use Rattle.rpc_msg.specs.declared.ids.ObjectId.{ObjectId}
use Rattle.rpc_msg.specs.declared.message.Message.{Message}
use Rattle.rpc_msg.specs.Vats.{other_vat}
use Rattle.rpc_journal.specs.History.{same_vat}
use Rattle.rpc_journal.specs.declared.report.Delivery.{Delivery}
use Rattle.rpc_journal.specs.declared.report.Ended.{Ended}
use Rattle.rpc_journal.specs.declared.entry.Origin.{Origin}
use Rattle.rpc_journal.specs.declared.entry.Origin.TheVariants as origin
use Rattle.rpc_journal.specs.declared.entry.JournalEntry.{JournalEntry}
use Rattle.rpc_journal.specs.declared.entry.JournalEntry.TheVariants as entry
use Rattle.rpc_machine.specs.declared.command.CallCommand.{CallCommand}
use Rattle.rpc_machine.specs.declared.command.Command.{Command}
use Rattle.rpc_machine.specs.declared.command.Command.TheVariants as command
use Rattle.rpc_machine.specs.declared.command.Granted.{Granted}
use Rattle.rpc_machine.specs.declared.command.Granted.TheVariants as granted
use Rattle.rpc_machine.specs.declared.command.Effects.{Effects}
use Rattle.rpc_machine.specs.State.{State, start}
use Rattle.rpc_machine.specs.declared.command.Level.TheVariants.{One}
use Rattle.rpc_machine.specs.declared.command.Refusal.{Refusal}
use Rattle.rpc_machine.specs.declared.command.Refusal.TheVariants as refusal
use Rattle.rpc_machine.specs.Lists.{earliest, is_empty}
use Rattle.rpc_machine.specs.Refusals.{while_down, wrong_level, wrong_caps, unknown_ref, unknown_task, without_room, refused}
use Rattle.laws_acts.proofs.Checks.{not_so}
use Rattle.laws_acts.proofs.Checks as checks
use Rattle.rpc_machine.specs.Faults.{fault_of}
use Rattle.rpc_machine.specs.Steps.{Does, Handles}
use Rattle.rpc_machine.specs.World.{core, put_inbox, after}
use Rattle.rpc_machine.specs.Journal.{journal, went_down, effect_entries, born, born_promise, asked_entries, made_entries, advanced_entries, granted_entries}
use Rattle.laws_acts.specs.Moments.{Moment, beginning}
use Rattle.laws_acts.specs.FirstActs.{Starts}
use Rattle.laws_acts.specs.FirstActs as first
use Rattle.laws_acts.specs.MessageActs.{Consumes}
use Rattle.laws_acts.specs.MessageActs as heard
use Rattle.laws_acts.specs.SmallActs.{Act, delivery}
use Rattle.laws_acts.specs.SmallActs as act
use Rattle.laws_acts.proofs.EachStep.{done, handled, at_end}
use Rattle.laws_runs.specs.Scenes as scenes
use Rattle.laws_runs.specs.Scenes.{Scene, IsScene, begins, is_over}
use Rattle.laws_runs.specs.Telling.{tells, telling}
use Rattle.laws_runs.proofs.Reading as reading
use Rattle.laws_runs.proofs.Showing.{every_run}
use Rattle.laws_meanings.specs.OnePlace.{counted}
use Rattle.laws_meanings.specs.Tasks.{task_in, times_delivered, reply_in, times_answered, TasksAreOpen, TasksAreAnsweredOnce}
use Rattle.laws_meanings.proofs.Walked.{in_each}

abbrev present : Option ℕ → ℕ
present None = 0
present (Some o) = 1

abbrev in_tasks : ℕ → List Delivery → ℕ
in_tasks k [] = 0
in_tasks k (d ∷ ds) = counted (nat_eq k d.task.0) + in_tasks k ds

tasks-append : (k : ℕ) (xs ys : List Delivery) → in_tasks k (xs ++ ys) ≡ in_tasks k xs + in_tasks k ys
tasks-append k [] ys = omega arith
tasks-append k (x ∷ xs) ys = let e = tasks-append k xs ys in omega arith

-- ---- One step

-- How often a task was answered and delivered before; one that is there was delivered and not answered, and no later number
-- was delivered.
module _ (answered delivered : ℕ → ℕ) where
  abbrev Holds : Map ℕ → ℕ → List Delivery → ℕ → Type 0
  Holds tasks next ds k =
      (answered k + present (map.get tasks k) ≤ delivered k + in_tasks k ds) × (delivered k + in_tasks k ds ≤ 1) × (next ≤ k → delivered k + in_tasks k ds ≡ 0)

  abbrev Fine : Moment → Type 0
  Fine d = (k : ℕ) → Holds d.state.tasks d.state.next_task d.effects.deliveries k

  gives : (tasks : Map ℕ) (next o : ℕ) (ds : List Delivery) (x : Delivery) → x.task.0 ≡ next → ((k : ℕ) → Holds tasks next ds k) → (k : ℕ) → Holds (map.insert tasks next o) (next + 1) (ds ++ x ∷ []) k
  gives tasks next o ds x e i k = by (nat_eq k next) refl
    where
      by : (b : Bool) → nat_eq k next ≡ b → Holds (map.insert tasks next o) (next + 1) (ds ++ x ∷ []) k
      by true f =
          let same : k ≡ next = grind arith in
          let a = i k in
          let one : counted (nat_eq k x.task.0) ≡ 1 = ap (λ (n : ℕ). counted (nat_eq k n)) e ∙ ap counted f in
          let c = tasks-append k ds (x ∷ []) in
          let none = a.2 (omega arith) in
          let p : present (map.get (map.insert tasks next o) k) ≡ 1 = ap present (get_put tasks next o k ∙ ap (λ (y : Bool). cond y (Some o) (map.get tasks k)) f) in
          (let z = a.0 in omega arith, omega arith, λ l. absurd (omega arith))
      by false f =
          let apart : ¬ (k ≡ next) = λ g. let bad : ⊥ = grind (arith, f, g) in bad in
          let a = i k in
          let one : counted (nat_eq k x.task.0) ≡ 0 = ap (λ (n : ℕ). counted (nat_eq k n)) e ∙ ap counted f in
          let c = tasks-append k ds (x ∷ []) in
          let p : present (map.get (map.insert tasks next o) k) ≡ present (map.get tasks k) = ap present (get_put tasks next o k ∙ ap (λ (y : Bool). cond y (Some o) (map.get tasks k)) f) in
          (let z = a.0 in omega arith, let z = a.1 in omega arith, λ l. let z = a.2 (omega arith) in omega arith)

  acted : (d new : Moment) → Fine d → Act d new → Fine new
  acted d new i (act.Delivers c n rest u e f k) = rw k (gives d.state.tasks d.state.next_task c.outcome d.effects.deliveries (delivery d.state c u) refl i)
  acted d new i (act.Relays c n rest p t ds es e f j k u) = rw u i
  acted d new i (act.SendsReturn x y e f j u) = rw u i
  acted d new i (act.SendsResolve x rest k es e w f u) = rw u i
  acted d new i (act.SendsBroken x rest reason e f u) = rw u i
  acted d new i (act.SendsFinish p x rest e f j k l u) = rw u i
  acted d new i (act.Closes p x rest e f j k l u) = rw u i
  acted d new i (act.Releases w e f u) = rw u i
  acted d new i (act.Waits c n rest p calls e f j k) = rw k i
  acted d new i (act.Holds c n rest u path x e f j k) = rw k i
  acted d new i (act.Breaks c n rest reason e f u) = rw u i
  acted d new i (act.NextArisen o w rest e f u) = rw u i
  acted d new i (act.Knows u w fit x ps e f j k z) = rw z i
  acted d new i (act.Reports c w from e f u) = rw u i
  acted d new i (act.TellsNobody c w e f u) = rw u i
  acted d new i (act.MakesReturn p w x y ds es e f j k u) = rw u i
  acted d new i (act.Clears x e f u) = rw u i
  acted d new i (act.Lists x e u) = rw u i
  acted d new i (act.PromiseGoes p to w e f u) = rw u i
  acted d new i (act.OutcomeGoes o x w z e f j k l u) = rw u i
  acted d new i (act.ImportGoes k x w e f u) = rw u i
  acted d new i (act.Sweeps over e f j u) = rw u i

  consumed : (s : State) (m : Message) (new : Moment) → Fine (beginning s) → Consumes (beginning s) m new → Fine new
  consumed s m new i (heard.OpensRoot p o e f j u) = rw u i
  consumed s m new i (heard.OpensCall c o e f j u) = rw u i
  consumed s m new i (heard.Loses y x e f j k u) = rw u i
  consumed s m new i (heard.ComesToCall y x c e f j k l u) = rw u i
  consumed s m new i (heard.ComesToRelay y x o e f j k l u) = rw u i
  consumed s m new i (heard.IsFinished x z e f j u) = rw u i
  consumed s m new i (heard.IsResolved x e u) = rw u i
  consumed s m new i (heard.IsReleased x e u) = rw u i
  consumed s m new i (heard.SendsBack t to x e f u) = rw u i
  consumed s m new i (heard.Lifts t x y e f u) = rw u i
  consumed s m new i (heard.SendsForeign p e f u) = rw u i
  consumed s m new i (heard.SendsOther k e u) = rw u i
  consumed s m new i (heard.TakesBack x e u) = rw u i
  consumed s m new i (heard.Ignores x e u) = rw u i

-- Which task it answers.
abbrev answers : Command → Option ℕ
answers (command.Answer t payload refs) = Some t.0
answers (command.Fail t why) = Some t.0
answers c = None

abbrev is_task : ℕ → Option ℕ → ℕ
is_task k None = 0
is_task k (Some t) = counted (nat_eq k t)

module _ (before own delivered : ℕ → ℕ) where
  abbrev Began : State → Type 0
  Began s = Fine before delivered (beginning s)

  abbrev Now : Moment → Type 0
  Now d = Fine (λ k. before k + own k) delivered d

  abbrev IsOwn : Command → Type 0
  IsOwn c = (k : ℕ) → own k ≡ is_task k (answers c)

  says : (c : Command) → IsOwn c → {d : Command} → c ≡ d → (k : ℕ) → own k ≡ is_task k (answers d)
  says c o {d} e k = o k ∙ ap (λ (y : Command). is_task k (answers y)) e

  module _ (s : State) (i : Began s) where
    quiet : ((k : ℕ) → own k ≡ 0) → (k : ℕ) → Holds (λ j. before j + own j) delivered s.tasks s.next_task [] k
    quiet n k = let a = i k in let b = n k in (let z = a.0 in omega arith, let z = a.1 in omega arith, a.2)

    takes : (t o : ℕ) → map.get s.tasks t ≡ Some o → ((k : ℕ) → own k ≡ counted (nat_eq k t)) → (k : ℕ) → Holds (λ j. before j + own j) delivered (map.remove s.tasks t) s.next_task [] k
    takes t o f n k = by (nat_eq k t) refl
      where
        by : (b : Bool) → nat_eq k t ≡ b → Holds (λ j. before j + own j) delivered (map.remove s.tasks t) s.next_task [] k
        by true e =
            let same : k ≡ t = grind arith in
            let a = i k in
            let b = n k in
            let one : counted (nat_eq k t) ≡ 1 = ap counted e in
            let was : present (map.get s.tasks k) ≡ 1 = ap present (ap (λ (j : ℕ). map.get s.tasks j) same ∙ f) in
            let p : present (map.get (map.remove s.tasks t) k) ≡ 0 = ap present (get_cut s.tasks t k ∙ ap (λ (y : Bool). cond y None (map.get s.tasks k)) e) in
            (let z = a.0 in omega arith, let z = a.1 in omega arith, a.2)
        by false e =
            let a = i k in
            let b = n k in
            let one : counted (nat_eq k t) ≡ 0 = ap counted e in
            let p : present (map.get (map.remove s.tasks t) k) ≡ present (map.get s.tasks k) = ap present (get_cut s.tasks t k ∙ ap (λ (y : Bool). cond y None (map.get s.tasks k)) e) in
            (let z = a.0 in omega arith, let z = a.1 in omega arith, a.2)

    started : (c : Command) (g : Granted) (new : Moment) → IsOwn c → Starts (beginning s) c g new → Now new
    started c g new ow (first.AsksRoot p e f a u) = rw u (quiet (says c ow e))
    started c g new ow (first.CallsOut y x p t ds es e f j l m o a u) = rw u (quiet (says c ow e))
    started c g new ow (first.CallsHere y x o e f j l m a u) = rw u (quiet (says c ow e))
    started c g new ow (first.CallsLater y x o z w e f j l m a u) = rw u (quiet (says c ow e))
    started c g new ow (first.Hosts o e a u) = rw u (quiet (says c ow e))
    started c g new ow (first.Clones y x e f a u) = rw u (quiet (says c ow e))
    started c g new ow (first.NamesField y path from e f a u) = rw u (quiet (says c ow e))
    started c g new ow (first.Promises p e f a u) = rw u (quiet (says c ow e))
    started c g new ow (first.Drops y x e f a u) = rw u (quiet (says c ow e))
    started c g new ow (first.Fixes p y x key calls e f j l a u) = rw u (quiet (says c ow e))
    started c g new ow (first.Rejects p why key calls e f j a u) = rw u (quiet (says c ow e))
    started c g new ow (first.Answers t payload refs u e f a h) = rw h (takes t.0 u f (says c ow e))
    started c g new ow (first.Fails t why u e f a h) = rw h (takes t.0 u f (says c ow e))
    started c g new ow (first.Finishes y from e f a u) = rw u (quiet (says c ow e))
    started c g new ow (first.StaysPut y x e f a u) = rw u (quiet (says c ow e))
    started c g new ow (first.Breaks y x reason e f j l a u) = rw u (quiet (says c ow e))
    started c g new ow (first.Switches y x by n0 e f j l m o a u) = rw u (quiet (says c ow e))
    started c g new ow (first.Turns y x by n0 t z e f j l m o w p a u) = rw u (quiet (says c ow e))

  abbrev Left : State → Effects → Type 0
  Left t x = (k : ℕ) → Holds (λ j. before j + own j) delivered t.tasks t.next_task x.deliveries k

  commands : (s : State) (c : Command) (g : Granted) (x : Effects) (t : State) → Began s → IsOwn c → Does s c g x t → Left t x
  commands s c g x t i o d =
      let k = done Now s c g x t (λ new j. started s i c g new o j) (acted (λ j. before j + own j) delivered) d in
      at_end Left k.last x t k.ends k.holds

  messages : (s : State) (m : Message) (x : Effects) (t : State) → fault_of s m ≡ None → Began s → ((k : ℕ) → own k ≡ 0) → Handles s m x t → Left t x
  messages s m x t f i n d =
      let now : Now (beginning s) = quiet s i n in
      let k = handled Now s m x t f (λ new j. consumed (λ z. before z + own z) delivered s m new now j) (acted (λ j. before j + own j) delivered) d in
      at_end Left k.last x t k.ends k.holds

-- ---- What is written

module _ (v : Vat) (k : ℕ) where
  delivered-append : (xs ys : List JournalEntry) → times_delivered v k (xs ++ ys) ≡ times_delivered v k xs + times_delivered v k ys
  delivered-append [] ys = omega arith
  delivered-append (x ∷ xs) ys = let e = delivered-append xs ys in omega arith

  answered-append : (xs ys : List JournalEntry) → times_answered v k (xs ++ ys) ≡ times_answered v k xs + times_answered v k ys
  answered-append [] ys = omega arith
  answered-append (x ∷ xs) ys = let e = answered-append xs ys in omega arith

  abbrev both : List JournalEntry → ℕ
  both h = times_delivered v k h + times_answered v k h

  of_sends : (u : Vat) (ms : List Message) → both (map (entry.Sent u) ms) ≡ 0
  of_sends u [] = refl
  of_sends u (m ∷ ms) = let e = of_sends u ms in omega arith

  of_ends : (u : Vat) (xs : List Ended) → both (map (entry.Ended u) xs) ≡ 0
  of_ends u [] = refl
  of_ends u (x ∷ xs) = let e = of_ends u xs in omega arith

  of_down : (u : Vat) (o : Option ℕ) → both (went_down u o) ≡ 0
  of_down u None = refl
  of_down u (Some n) = refl

  of_deliveries : (u : Vat) (ds : List Delivery) → (times_delivered v k (map (entry.Delivered u) ds) ≡ cond (same_vat v u) (in_tasks k ds) 0) × (times_answered v k (map (entry.Delivered u) ds) ≡ 0)
  of_deliveries u [] = (by (same_vat v u), refl)
    where
      by : (b : Bool) → ◌≡◌ {A = ℕ} 0 (cond b 0 0)
      by true = refl
      by false = refl
  of_deliveries u (d ∷ ds) = let e = of_deliveries u ds in (by (same_vat v u) (times_delivered v k (map (entry.Delivered u) ds)) e.0, let f = e.1 in omega arith)
    where
      by : (b : Bool) (n : ℕ) → n ≡ cond b (in_tasks k ds) 0 → counted (b && nat_eq k d.task.0) + n ≡ cond b (in_tasks k (d ∷ ds)) 0
      by true n e = omega arith
      by false n e = omega arith

  of_effects : (u : Vat) (x : Effects) → (times_delivered v k (effect_entries u x) ≡ cond (same_vat v u) (in_tasks k x.deliveries) 0) × (times_answered v k (effect_entries u x) ≡ 0)
  of_effects u x =
      let ms = map (entry.Sent u) x.sends in
      let ds = map (entry.Delivered u) x.deliveries in
      let es = map (entry.Ended u) x.answers in
      let a = delivered-append (ms ++ ds ++ es) (went_down u x.down) in
      let b = delivered-append (ms ++ ds) es in
      let c = delivered-append ms ds in
      let p = answered-append (ms ++ ds ++ es) (went_down u x.down) in
      let q = answered-append (ms ++ ds) es in
      let r = answered-append ms ds in
      let d = of_down u x.down in
      let e = of_sends u x.sends in
      let f = of_ends u x.answers in
      let g = of_deliveries u x.deliveries in
      let i = g.0 in
      let j = g.1 in
      (omega arith, omega arith)

  -- A command's own entries deliver nothing, and answer what it answers.
  abbrev Own : Vat → Command → List JournalEntry → Type 0
  Own u c es = (times_delivered v k es ≡ 0) × (times_answered v k es ≡ cond (same_vat v u) (is_task k (answers c)) 0)

  nil : (b : Bool) → ◌≡◌ {A = ℕ} 0 (cond b 0 0)
  nil true = refl
  nil false = refl

  one : (b : Bool) (t : ℕ) → counted (b && nat_eq k t) + 0 ≡ cond b (counted (nat_eq k t)) 0
  one true t = omega arith
  one false t = refl

  of_born : (u : Vat) (o : Origin) (g : Granted) → both (born u o g) ≡ 0
  of_born u o (granted.Reference r) = refl
  of_born u o g = refl

  of_promise : (u : Vat) (g : Granted) → both (born_promise u g) ≡ 0
  of_promise u (granted.Promise p r) = refl
  of_promise u g = refl

  of_asked : (u : Vat) (g : Granted) → both (asked_entries u g) ≡ 0
  of_asked u (granted.Call c) = refl
  of_asked u g = refl

  of_made : (u : Vat) (h : List JournalEntry) (c : CallCommand) (g : Granted) → both (made_entries h u c g) ≡ 0
  of_made u h c (granted.Call id) = refl
  of_made u h c g = refl

  of_advanced : (u : Vat) (r : RefId) (g : Granted) → both (advanced_entries u r g) ≡ 0
  of_advanced u r (granted.Advanced a) = refl
  of_advanced u r g = refl

  none_of : (u : Vat) (es : List JournalEntry) → both es ≡ 0 → (times_delivered v k es ≡ 0) × (times_answered v k es ≡ cond (same_vat v u) 0 0)
  none_of u es e = (omega arith, let z : times_answered v k es ≡ 0 = omega arith in z ∙ nil (same_vat v u))

  of_own : (u : Vat) (h : List JournalEntry) (c : Command) (g : Granted) → Own u c (granted_entries h u c g)
  of_own u h (command.Host o) g = none_of u (born u (origin.Object o) g) (of_born u (origin.Object o) g)
  of_own u h (command.CloneRef r) g = none_of u (born u (origin.Clone r) g) (of_born u (origin.Clone r) g)
  of_own u h (command.DropRef r) g = (refl, nil (same_vat v u))
  of_own u h command.Bootstrap g = none_of u (asked_entries u g) (of_asked u g)
  of_own u h (command.Call c) g = none_of u (made_entries h u c g) (of_made u h c g)
  of_own u h (command.Field c path) g = none_of u (born u (origin.Field c path) g) (of_born u (origin.Field c path) g)
  of_own u h command.Promise g = none_of u (born_promise u g) (of_promise u g)
  of_own u h (command.Resolve p r) g = (refl, nil (same_vat v u))
  of_own u h (command.Reject p why) g = (refl, nil (same_vat v u))
  of_own u h (command.Answer t payload refs) g = (refl, one (same_vat v u) t.0)
  of_own u h (command.Fail t why) g = (refl, one (same_vat v u) t.0)
  of_own u h (command.Finish c) g = (refl, nil (same_vat v u))
  of_own u h (command.Advance r) g = none_of u (advanced_entries u r g) (of_advanced u r g)
  of_own u h (command.Shut n) g = (refl, nil (same_vat v u))

  -- Another vat writes nothing of these.
  none_apart : (u : Vat) → same_vat v u ≡ false → (h : List JournalEntry) (c : Command) (g : Granted) (x : Effects) → both (granted_entries h u c g ++ effect_entries u x) ≡ 0
  none_apart u f h c g x =
      let a = of_own u h c g in
      let b = of_effects u x in
      let i = a.0 in
      let j : times_answered v k (granted_entries h u c g) ≡ 0 = a.1 ∙ ap (λ (y : Bool). cond y (is_task k (answers c)) 0) f in
      let m : times_delivered v k (effect_entries u x) ≡ 0 = b.0 ∙ ap (λ (y : Bool). cond y (in_tasks k x.deliveries) 0) f in
      let n = b.1 in
      let p = delivered-append (granted_entries h u c g) (effect_entries u x) in
      let q = answered-append (granted_entries h u c g) (effect_entries u x) in
      omega arith

  none_there : (u : Vat) → same_vat v u ≡ false → (x : Effects) → both (effect_entries u x) ≡ 0
  none_there u f x =
      let b = of_effects u x in
      let m : times_delivered v k (effect_entries u x) ≡ 0 = b.0 ∙ ap (λ (y : Bool). cond y (in_tasks k x.deliveries) 0) f in
      let n = b.1 in
      omega arith

  none_own : (u : Vat) → same_vat v u ≡ false → (h : List JournalEntry) (c : Command) (g : Granted) → both (granted_entries h u c g) ≡ 0
  none_own u f h c g =
      let a = of_own u h c g in
      let i = a.0 in
      let j : times_answered v k (granted_entries h u c g) ≡ 0 = a.1 ∙ ap (λ (y : Bool). cond y (is_task k (answers c)) 0) f in
      omega arith

-- ---- Scenes

abbrev Kept : Vat → List JournalEntry → Bool → State → Type 0
Kept v h over s =
    (k : ℕ) → (times_answered v k h + cond over 0 (present (map.get s.tasks k)) ≤ times_delivered v k h) × (times_delivered v k h ≤ 1) × (s.next_task ≤ k → times_delivered v k h ≡ 0)

abbrev Good : Scene → Type 0
Good x = Kept A x.journal x.over_a x.world.a.core × Kept B x.journal x.over_b x.world.b.core

kept_at : (v : Vat) (x : Scene) → Good x → Kept v x.journal (is_over x v) (core x.world v)
kept_at A x g = g.0
kept_at B x g = g.1

-- What says nothing of it is written.
longer : (v : Vat) (h es : List JournalEntry) (over : Bool) (s : State) → ((k : ℕ) → both v k es ≡ 0) → Kept v h over s → Kept v (h ++ es) over s
longer v h es over s n g k =
    let a = g k in
    let b = n k in
    let c = delivered-append v k h es in
    let d = answered-append v k h es in
    (let z = a.0 in omega arith, let z = a.1 in omega arith, λ l. let z = a.2 l in omega arith)

began : (v : Vat) (h : List JournalEntry) (over : Bool) (s : State) → over ≡ false → Kept v h over s → (k : ℕ) → Holds (λ j. times_answered v j h) (λ j. times_delivered v j h) s.tasks s.next_task [] k
began v h over s f g k =
    let a = g k in
    let b : times_answered v k h + cond false 0 (present (map.get s.tasks k)) ≤ times_delivered v k h = subst (λ (y : Bool). times_answered v k h + cond y 0 (present (map.get s.tasks k)) ≤ times_delivered v k h) f a.0 in
    (omega arith, let z = a.1 in omega arith, λ l. let z = a.2 l in omega arith)

-- With its own entries, and what its effects write.
stays : (v : Vat) (h own : List JournalEntry) (t : State) (x : Effects) → ((k : ℕ) → times_delivered v k own ≡ 0)
    → Left (λ j. times_answered v j h) (λ j. times_answered v j own) (λ j. times_delivered v j h) t x → Kept v (h ++ (own ++ effect_entries v x)) false t
stays v h own t x n l k =
    let es = effect_entries v x in
    let e = of_effects v k v x in
    let a = l k in
    let b = n k in
    let c = delivered-append v k h (own ++ es) in
    let d = delivered-append v k own es in
    let f = answered-append v k h (own ++ es) in
    let g = answered-append v k own es in
    let i : times_delivered v k es ≡ in_tasks k x.deliveries = e.0 ∙ ap (λ (z : Bool). cond z (in_tasks k x.deliveries) 0) (reading.itself v) in
    let q = e.1 in
    (let p = a.0 in omega arith, let z = a.1 in omega arith, λ y. let z = a.2 y in omega arith)

with_flag : (v : Vat) (h : List JournalEntry) (over : Bool) (s : State) → over ≡ false → Kept v h false s → Kept v h over s
with_flag v h over s e = subst (λ (b : Bool). Kept v h b s) (sym e)

went_on : (v : Vat) (x : Scene) (told : Effects) (t : State) (es : List JournalEntry) → is_over x v ≡ false → Kept v (x.journal ++ es) false t → ((k : ℕ) → both (other_vat v) k es ≡ 0) → Good x → Good (scenes.goes_on x (after x.world v told t) es)
went_on A x told t es o f n g = (with_flag A (x.journal ++ es) x.over_a t o f, longer B x.journal es x.over_b x.world.b.core n g.1)
went_on B x told t es o f n g = (longer A x.journal es x.over_a x.world.a.core n g.0, with_flag B (x.journal ++ es) x.over_b t o f)

took : (v : Vat) (x : Scene) (ms : List Message) (told : Effects) (t : State) (es : List JournalEntry) → is_over x v ≡ false → Kept v (x.journal ++ es) false t → ((k : ℕ) → both (other_vat v) k es ≡ 0) → Good x
    → Good (scenes.goes_on x (after (put_inbox x.world v ms) v told t) es)
took A x ms told t es o f n g = (with_flag A (x.journal ++ es) x.over_a t o f, longer B x.journal es x.over_b x.world.b.core n g.1)
took B x ms told t es o f n g = (longer A x.journal es x.over_a x.world.a.core n g.0, with_flag B (x.journal ++ es) x.over_b t o f)

-- The last words of a vat answer one task at most, that was there.
last_words : (v : Vat) (h own : List JournalEntry) (s : State) → ((k : ℕ) → times_delivered v k own ≡ 0) → ((k : ℕ) → times_answered v k own ≤ present (map.get s.tasks k)) → Kept v h false s → Kept v (h ++ own) true s
last_words v h own s n m g k =
    let a = g k in
    let b = n k in
    let c = m k in
    let d = delivered-append v k h own in
    let e = answered-append v k h own in
    (let z = a.0 in omega arith, let z = a.1 in omega arith, λ l. let z = a.2 l in omega arith)

stopped : (v : Vat) (x : Scene) (own : List JournalEntry) → is_over x v ≡ false → ((k : ℕ) → times_delivered v k own ≡ 0) → ((k : ℕ) → times_answered v k own ≤ present (map.get (core x.world v).tasks k)) → ((k : ℕ) → both (other_vat v) k own ≡ 0) → Good x
    → Good (scenes.stopped x v own)
stopped A x own o n m f g = (last_words A x.journal own x.world.a.core n m (subst (λ (b : Bool). Kept A x.journal b x.world.a.core) o g.0), longer B x.journal own x.over_b x.world.b.core f g.1)
stopped B x own o n m f g = (longer A x.journal own x.over_a x.world.a.core f g.0, last_words B x.journal own x.world.b.core n m (subst (λ (b : Bool). Kept B x.journal b x.world.b.core) o g.1))

-- What a vat answers that takes no more steps.
has : (m : Map ℕ) (k : ℕ) (o : Option ℕ) → map.get m k ≡ o → map.contains_key m k ≡ is_some o
has m k o e = ap is_some e

unknown_there : (s : State) (t : ℕ) (rest : List (Option Refusal)) → map.get s.tasks t ≡ None → ¬ (earliest (unknown_task s t ∷ rest) ≡ None)
unknown_there s t rest f e =
    let a : not (map.contains_key s.tasks t) ≡ false = not_so (not (map.contains_key s.tasks t)) refusal.UnknownTask (checks.first (unknown_task s t) rest e) in
    let b : map.contains_key s.tasks t ≡ false = has s.tasks t None f in
    let bad : true ≡ false = ap not (sym b) ∙ a in
    cc

-- A task that is answered is there.
is_there : (s : State) (t k : ℕ) (rest : List (Option Refusal)) → earliest (unknown_task s t ∷ rest) ≡ None → counted (nat_eq k t) ≤ present (map.get s.tasks k)
is_there s t k rest e = by (map.get s.tasks t) refl (nat_eq k t) refl
  where
    by : (o : Option ℕ) → map.get s.tasks t ≡ o → (b : Bool) → nat_eq k t ≡ b → counted b ≤ present (map.get s.tasks k)
    by (Some u) f true g = let same : k ≡ t = grind arith in let p : present (map.get s.tasks k) ≡ 1 = ap present (ap (λ (j : ℕ). map.get s.tasks j) same ∙ f) in omega arith
    by (Some u) f false g = omega arith
    by None f b g = absurd (unknown_there s t rest f e)

last_answer : (v : Vat) (h : List JournalEntry) (s : State) (c : Command) (k : ℕ) → refused s c ≡ None → times_answered v k (granted_entries h v c granted.Done) ≤ present (map.get s.tasks k)
last_answer v h s c k r =
    let e = (of_own v k v h c granted.Done).1 ∙ ap (λ (y : Bool). cond y (is_task k (answers c)) 0) (reading.itself v) in
    let l = by c r in
    omega arith
  where
    by : (d : Command) → refused s d ≡ None → is_task k (answers d) ≤ present (map.get s.tasks k)
    by (command.Answer t payload refs) f =
        let last = wrong_caps payload refs ∷ without_room s (command.Answer t payload refs) ∷ [] in
        let three = unknown_task s t.0 ∷ last in
        let two = unknown_ref s refs ∷ three in
        let one = wrong_level s (not (is_empty refs)) ∷ two in
        is_there s t.0 k last (checks.rest (unknown_ref s refs) three (checks.rest (wrong_level s (not (is_empty refs))) two (checks.rest (while_down s (command.Answer t payload refs)) one f)))
    by (command.Fail t why) f =
        let last = without_room s (command.Fail t why) ∷ [] in
        is_there s t.0 k last (checks.rest (while_down s (command.Fail t why)) (unknown_task s t.0 ∷ last) f)
    by (command.Host o) f = omega arith
    by (command.CloneRef q) f = omega arith
    by (command.DropRef q) f = omega arith
    by command.Bootstrap f = omega arith
    by (command.Call q) f = omega arith
    by (command.Field q path) f = omega arith
    by command.Promise f = omega arith
    by (command.Resolve p q) f = omega arith
    by (command.Reject p why) f = omega arith
    by (command.Finish q) f = omega arith
    by (command.Advance q) f = omega arith
    by (command.Shut n) f = omega arith

stepped : (x mid : Scene) → scenes.Steps x mid → Good x → Good mid
stepped x mid (scenes.Commanded v c g told s o up r d w e) i =
    let own = granted_entries x.journal v c g in
    let h = x.journal in
    let t = core x.world v in
    let n : (k : ℕ) → times_delivered v k own ≡ 0 = λ k. (of_own v k v h c g).0 in
    let is_own : IsOwn (λ j. times_answered v j h) (λ j. times_answered v j own) (λ j. times_delivered v j h) c =
    λ k. (of_own v k v h c g).1 ∙ ap (λ (y : Bool). cond y (is_task k (answers c)) 0) (reading.itself v) in
    let begun = began v h (is_over x v) t o (kept_at v x i) in
    let left = commands (λ j. times_answered v j h) (λ j. times_answered v j own) (λ j. times_delivered v j h) t c g told s begun is_own d in
    rw e (went_on v x told s (own ++ effect_entries v told) o (stays v h own s told n left) (λ k. none_apart (other_vat v) k v (reading.other v) h c g told) i)
stepped x mid (scenes.Received v m ms told s o up j f d w e) i =
    let own = entry.Got v ∷ [] in
    let h = x.journal in
    let t = core x.world v in
    let begun = began v h (is_over x v) t o (kept_at v x i) in
    let left = messages (λ k. times_answered v k h) (λ k. 0) (λ k. times_delivered v k h) t m told s f begun (λ k. refl) d in
    rw e (took v x ms told s (own ++ effect_entries v told) o (stays v h own s told (λ k. refl) left) (λ k. let z = none_there (other_vat v) k v (reading.other v) told in omega arith) i)
stepped x mid (scenes.GivesUp v c o r f e) i =
    let own = granted_entries x.journal v c granted.Done in
    rw e (stopped v x own o (λ k. (of_own v k v x.journal c granted.Done).0) (λ k. last_answer v x.journal (core x.world v) c k r) (λ k. none_own (other_vat v) k v (reading.other v) x.journal c granted.Done) i)
stepped x mid (scenes.Stops v o e) i = rw e (stopped v x [] o (λ k. refl) (λ k. omega arith) (λ k. refl) i)

none : (v : Vat) (o : Option ObjectId) → Kept v [] false (start v One o)
none v o k = let p : present (map.get map.empty k) ≡ 0 = ap present (map.get-empty nat_cmp k) in (omega arith, omega arith, λ l. refl)

good : (a b : Option ObjectId) (x : Scene) → IsScene a b x → Good x
good a b x k = in_each a b Good (λ y mid i t p. stepped y mid t p) (none A a, none B b) x k

pub tasks_open : TasksAreOpen
tasks_open a b x i v o k u e =
    let g = kept_at v x (good a b x i) k in
    let f : times_answered v k x.journal + cond false 0 (present (map.get (core x.world v).tasks k)) ≤ times_delivered v k x.journal =
    subst (λ (y : Bool). times_answered v k x.journal + cond y 0 (present (map.get (core x.world v).tasks k)) ≤ times_delivered v k x.journal) o g.0
    in
    let p : present (map.get (core x.world v).tasks k) ≡ 1 = ap present e in
    let z = g.1 in
    (omega arith, omega arith)

-- ---- Runs

-- Deliveries and answers are told.
module _ (v : Vat) (k : ℕ) where
  delivered_told : (h : List JournalEntry) → times_delivered v k (telling h) ≡ times_delivered v k h
  delivered_told [] = refl
  delivered_told (entry.Delivered u d ∷ es) = let a = delivered_told es in omega arith
  delivered_told (e ∷ es) = by (tells e) (delivered_told es)
    where
      by : (b : Bool) → times_delivered v k (telling es) ≡ times_delivered v k es → times_delivered v k (cond b (e ∷ telling es) (telling es)) ≡ task_in v k e + times_delivered v k es
      by true a = omega arith
      by false a = omega arith

  answered_told : (h : List JournalEntry) → times_answered v k (telling h) ≡ times_answered v k h
  answered_told [] = refl
  answered_told (entry.Answered u t o refs ∷ es) = let a = answered_told es in omega arith
  answered_told (e ∷ es) = by (tells e) (answered_told es)
    where
      by : (b : Bool) → times_answered v k (telling es) ≡ times_answered v k es → times_answered v k (cond b (e ∷ telling es) (telling es)) ≡ reply_in v k e + times_answered v k es
      by true a = omega arith
      by false a = omega arith

pub tasks_once : TasksAreAnsweredOnce
tasks_once a b xs w r v k =
    let x = every_run a b xs w r in
    let g = kept_at v x.0 (good a b x.0 x.1) k in
    let c = delivered_told v k (journal xs) in
    let d = delivered_told v k x.0.journal in
    let e = ap (times_delivered v k) x.2.history in
    let f = answered_told v k (journal xs) in
    let i = answered_told v k x.0.journal in
    let j = ap (times_answered v k) x.2.history in
    (let z = g.1 in omega arith, let z = g.0 in omega arith)
