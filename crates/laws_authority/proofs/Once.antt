-- A call of the application ends once at most, and a task is delivered once at most. The proof counts how often a call ended
-- and what may still end it: open outcomes of which it is told, and questions for it that have not returned. The sum is at
-- most one, and zero for a number that is still to come. So is the number of times that a task was delivered.
use Rattle.std.proofs.Common.{◌≡◌, ◌⊎◌, inl, inr, ℕ, ◌+◌, ◌≤◌, Bool, true, false, nat_eq, nat_lt, List, [], ◌∷◌, ◌++◌, Option, None, Some, IsSome, Result, Ok, Err, refl, sym, ap, subst, ◌∙◌, arith}
use Rattle.std.specs.FinMap as map
use Rattle.finite_maps.specs.Tally.{Map, tally}
use Rattle.finite_maps.proofs.Tallies.{tally-empty, tally-new, tally-same, tally-split, tally-insert, tally-remove}
use Rattle.rpc_msg.specs.declared.message.PlainMessage.TheVariants as plain
use Rattle.rpc_msg.specs.declared.message.Message.{Message}
use Rattle.rpc_msg.specs.declared.message.Message.TheVariants as message
use Rattle.rpc_machine.specs.rpc_journal.specs.declared.report.Delivery.{Delivery}
use Rattle.rpc_machine.specs.rpc_journal.specs.declared.report.Ended.{Ended}
use Rattle.rpc_machine.specs.declared.calls.Caller.{Caller}
use Rattle.rpc_machine.specs.declared.calls.Caller.TheVariants as caller
use Rattle.rpc_machine.specs.declared.calls.KeptOutcome.{KeptOutcome}
use Rattle.rpc_machine.specs.declared.calls.Value.{Value}
use Rattle.rpc_machine.specs.declared.command.Command.{Command}
use Rattle.rpc_machine.specs.declared.command.Granted.{Granted}
use Rattle.rpc_machine.specs.declared.command.Refusal.{Refusal}
use Rattle.rpc_machine.specs.declared.command.Effects.{Effects}
use Rattle.rpc_machine.specs.declared.entries.Role.{Role}
use Rattle.rpc_machine.specs.declared.entries.Role.TheVariants as role
use Rattle.rpc_machine.specs.declared.entries.Question.{Question}
use Rattle.rpc_machine.specs.declared.entries.Returned.{Returned}
use Rattle.rpc_machine.specs.declared.entries.Finishing.TheVariants as finishing
use Rattle.rpc_machine.specs.State.{State}
use Rattle.rpc_machine.specs.Progress.{new_refs, outcome_of, caps_of}
use Rattle.rpc_machine.specs.Sweeping.{closed_map}
use Rattle.rpc_machine.specs.Numbers.{want_of_room}
use Rattle.rpc_machine.specs.Faults.{fault_of}
use Rattle.rpc_machine.specs.Down.{IsUnchanged, Falls, ShutsFrom, fallen, falling_by}
use Rattle.rpc_machine.specs.Steps.{Does, Handles, Obeys, Refuses, LacksMemory, GoesDown, Shuts, IsDone, Receives, WasDown, FaultsBy, LacksRoom, IsHandled}
use Rattle.rpc_machine.proofs.StaysDown.{command_down, receive_down}
use Rattle.laws_acts.specs.Moments.{Moment, beginning}
use Rattle.laws_acts.specs.FirstActs.{Starts}
use Rattle.laws_acts.specs.FirstActs as first
use Rattle.laws_acts.specs.MessageActs.{Consumes}
use Rattle.laws_acts.specs.MessageActs as consume
use Rattle.laws_acts.specs.SmallActs.{Act, delivery, kept_known}
use Rattle.laws_acts.specs.SmallActs as act
use Rattle.laws_acts.proofs.EachStep.{done, handled, at_end}
use Rattle.laws_nodes.specs.Ones.{one_if}
use Rattle.laws_authority.specs.Runs.{Event, GotMessage, logged, RunsTo, New, Commanded, Received, Fell}
use Rattle.laws_authority.specs.Once.{ends_in, tasks_in, times_ended, times_delivered}

-- ---- Room for numbers that were given

-- One for a number that was given, zero for one to come.
abbrev room : ℕ → ℕ → ℕ
room next k = one_if (nat_lt k next)

grows : (next k : ℕ) → room (next + 1) k ≡ room next k + one_if (nat_eq k next)
grows next k = by (nat_lt k next) refl (nat_eq k next) refl (nat_lt k (next + 1)) refl
  where
    by : (a : Bool) → nat_lt k next ≡ a → (b : Bool) → nat_eq k next ≡ b → (c : Bool) → nat_lt k (next + 1) ≡ c → one_if c ≡ one_if a + one_if b
    by true e true f c g = absurd (grind (arith))
    by true e false f true g = refl
    by true e false f false g = absurd (grind (arith))
    by false e true f true g = refl
    by false e true f false g = absurd (grind (arith))
    by false e false f true g = absurd (grind (arith))
    by false e false f false g = refl

at_most : (next k : ℕ) → room next k ≤ 1
at_most next k = by (nat_lt k next)
  where
    by : (b : Bool) → one_if b ≤ 1
    by true = omega arith
    by false = omega arith

-- ---- Lists

ends-append : (k : ℕ) (xs ys : List Ended) → ends_in k (xs ++ ys) ≡ ends_in k xs + ends_in k ys
ends-append k [] ys = omega arith
ends-append k (x ∷ xs) ys = let e = ends-append k xs ys in omega arith

pub tasks-append : (k : ℕ) (xs ys : List Delivery) → tasks_in k (xs ++ ys) ≡ tasks_in k xs + tasks_in k ys
tasks-append k [] ys = omega arith
tasks-append k (x ∷ xs) ys = let e = tasks-append k xs ys in omega arith

-- ---- What may still end a call

abbrev tells_call : ℕ → Caller → ℕ
tells_call k (caller.Application c) = one_if (nat_eq k c.0)
tells_call k (caller.Peer q) = 0

abbrev if_open : {X : Type 0} → Option X → ℕ → ℕ
if_open None n = n
if_open (Some x) n = 0

abbrev asked_by : ℕ → Role → ℕ
asked_by k (role.Direct c) = one_if (nat_eq k c.0)
asked_by k (role.Relay o) = 0

abbrev of_outcome : ℕ → KeptOutcome → ℕ
of_outcome k x = if_open x.value (tells_call k x.caller)

abbrev of_question : ℕ → Question → ℕ
of_question k x = if_open x.returned (asked_by k x.role)

abbrev told : ℕ → List (Caller × Value) → ℕ
told k [] = 0
told k (x ∷ xs) = tells_call k x.0 + told k xs

abbrev may_end : ℕ → State → ℕ
may_end k s = tally (of_outcome k) s.outcomes + tally (of_question k) s.questions

cut_less : {X : Type 0} (f : X → ℕ) (m : Map X) (k : ℕ) → tally f (map.remove m k) ≤ tally f m
cut_less f m k = let e = tally-remove f m k in omega arith

closed_less : (k : ℕ) (m : Map Question) (q : ℕ) (x : Question) (r : Option Returned) → map.get m q ≡ Some x → tally (of_question k) (closed_map m q x r) ≤ tally (of_question k) m
closed_less k m q x None g = let e = tally-same (of_question k) m q x (record x { finish = finishing.Sent }) g refl in omega arith
closed_less k m q x (Some said) g = cut_less (of_question k) m q

-- ---- Each act

-- What ended the call before, what may still end it, and what ended it in this step.
abbrev total : ℕ → ℕ → Moment → ℕ
total own k d = own + (may_end k d.state + (told k d.telling + ends_in k d.effects.answers))

abbrev all_told : ℕ → ℕ → Moment → ℕ
all_told own k d = own + tasks_in k d.effects.deliveries

module _ (own k : ℕ) where
  abbrev Ends : Moment → Type 0
  Ends d = total own k d ≤ room d.state.next_call k

  less : (d new : Moment) → Ends d → new.state.next_call ≡ d.state.next_call → total own k new ≤ total own k d → Ends new
  less d new i e l = subst (λ (n : ℕ). total own k new ≤ room n k) (sym e) (omega arith)

  acted : (d new : Moment) → Ends d → Act d new → Ends new
  acted d new i (act.Holds c n rest u path x e f j h) =
      less d new i (ap (λ (m : Moment). m.state.next_call) h) (rw h (let a = tally-same (of_outcome k) d.state.outcomes u x (record x { waiting = x.waiting ++ record { path = path; call = c } ∷ [] }) j refl in omega arith))
  acted d new i (act.Relays c n rest q t ds es e f j z h) =
      less d new i (ap (λ (m : Moment). m.state.next_call) h) (rw h (let a = tally-new (of_question k) d.state.questions q (first.asked (role.Relay c.outcome) ds) j in omega arith))
  acted d new i (act.Knows u v fit x ps e f j z h) =
      less d new i (ap (λ (m : Moment). m.state.next_call) h)
      (rw h
      (let a = tally-split (of_outcome k) d.state.outcomes u x f in
      let b = tally-insert (of_outcome k) d.state.outcomes u (kept_known x.caller fit x.waiting) in
      let t : of_outcome k x ≡ tells_call k x.caller = ap (λ (o : Option Value). if_open o (tells_call k x.caller)) j in
      omega arith))
  acted d new i (act.Reports c v from e f h) =
      less d new i (ap (λ (m : Moment). m.state.next_call) h)
      (rw h
      (let a = ends-append k d.effects.answers (record { call = record { 0 = c }; outcome = outcome_of v; refs = new_refs d.state.next_ref (caps_of v) } ∷ []) in
      let t : told k d.telling ≡ one_if (nat_eq k c) + 0 = ap (told k) e in
      omega arith))
  acted d new i (act.TellsNobody c v e f h) = less d new i (ap (λ (m : Moment). m.state.next_call) h) (rw h (omega arith))
  acted d new i (act.MakesReturn q v x b ds es e f j z h) = less d new i (ap (λ (m : Moment). m.state.next_call) h) (rw h (omega arith))
  acted d new i (act.Clears x e f h) =
      less d new i (ap (λ (m : Moment). m.state.next_call) h)
      (rw h
      (let a = tally-insert (of_outcome k) d.state.outcomes x.outcome (kept_known x.caller x.value []) in
      let b = cut_less (of_outcome k) d.state.outcomes x.outcome in
      omega arith))
  acted d new i (act.OutcomeGoes u x v w e f j z l h) =
      less d new i (ap (λ (m : Moment). m.state.next_call) h) (rw h (let b = cut_less (of_outcome k) d.state.outcomes u in omega arith))
  acted d new i (act.SendsFinish q x rest e f j z l h) =
      less d new i (ap (λ (m : Moment). m.state.next_call) h) (rw h (let b = closed_less k d.state.questions q x x.returned f in omega arith))
  acted d new i (act.Closes q x rest e f j z l h) =
      less d new i (ap (λ (m : Moment). m.state.next_call) h) (rw h (let b = closed_less k d.state.questions q x x.returned f in omega arith))
  acted d new i (act.Delivers c n rest u e f h) = rw h i
  acted d new i (act.Waits c n rest p calls e f j h) = rw h i
  acted d new i (act.Breaks c n rest reason e f h) = rw h i
  acted d new i (act.NextArisen u v rest e f h) = rw h i
  acted d new i (act.SendsReturn x y e f j h) = rw h i
  acted d new i (act.Lists x e h) = rw h i
  acted d new i (act.SendsResolve x rest z es e w f h) = rw h i
  acted d new i (act.SendsBroken x rest reason e f h) = rw h i
  acted d new i (act.PromiseGoes p to w e f h) = rw h i
  acted d new i (act.ImportGoes z x w e f h) = rw h i
  acted d new i (act.Sweeps over e f j h) = rw h i
  acted d new i (act.Releases w e f h) = rw h i

  -- One more number, and one thing that may end that call.
  opens : (s : State) (new : Moment) → Ends (beginning s) → new.state.next_call ≡ s.next_call + 1 → total own k new ≡ total own k (beginning s) + one_if (nat_eq k s.next_call) → Ends new
  opens s new i e f = subst (λ (n : ℕ). total own k new ≤ room n k) (sym e) (let g = grows s.next_call k in omega arith)

  started : (s : State) (c : Command) (g : Granted) (new : Moment) → Ends (beginning s) → Starts (beginning s) c g new → Ends new
  started s c g new i (first.AsksRoot q e f a u) =
      opens s new i (ap (λ (m : Moment). m.state.next_call) u) (rw u (let b = tally-new (of_question k) s.questions q (first.asked (role.Direct (record { 0 = s.next_call })) []) f in omega arith))
  started s c g new i (first.CallsOut y x q t ds es e f j l m n a u) =
      opens s new i (ap (λ (m : Moment). m.state.next_call) u) (rw u (let b = tally-new (of_question k) s.questions q (first.asked (role.Direct (record { 0 = s.next_call })) ds) m in omega arith))
  started s c g new i (first.CallsHere y x o e f j l m a u) =
      opens s new i (ap (λ (m : Moment). m.state.next_call) u) (rw u (let b = tally-new (of_outcome k) s.outcomes o (record { caller = caller.Application (record { 0 = s.next_call }); value = None; waiting = [] }) m in omega arith))
  started s c g new i (first.CallsLater y x o z b e f j l m a u) =
      opens s new i (ap (λ (m : Moment). m.state.next_call) u) (rw u (let b = tally-new (of_outcome k) s.outcomes o (record { caller = caller.Application (record { 0 = s.next_call }); value = None; waiting = [] }) m in omega arith))
  started s c g new i (first.Hosts o e a u) = rw u i
  started s c g new i (first.Clones y x e f a u) = rw u i
  started s c g new i (first.NamesField y path from e f a u) = rw u i
  started s c g new i (first.Promises p e f a u) = rw u i
  started s c g new i (first.Drops y x e f a u) = rw u i
  started s c g new i (first.Fixes p y x key calls e f j l a u) = rw u i
  started s c g new i (first.Rejects p why key calls e f j a u) = rw u i
  started s c g new i (first.Answers t payload refs o e f a u) = rw u i
  started s c g new i (first.Fails t why o e f a u) = rw u i
  started s c g new i (first.Finishes y from e f a u) = rw u i
  started s c g new i (first.StaysPut y x e f a u) = rw u i
  started s c g new i (first.Breaks y x reason e f j l a u) = rw u i
  started s c g new i (first.Switches y x by n e f j l m o a u) = rw u i
  started s c g new i (first.Turns y x by n t z e f j l m o w q a u) = rw u i

  consumed : (s : State) (m : Message) (new : Moment) → Ends (beginning s) → Consumes (beginning s) m new → Ends new
  consumed s m new i (consume.OpensRoot q o e f j u) =
      less (beginning s) new i (ap (λ (m : Moment). m.state.next_call) u) (rw u (let b = tally-new (of_outcome k) s.outcomes o (record { caller = caller.Peer (record { 0 = q.0 }); value = None; waiting = [] }) j in omega arith))
  consumed s m new i (consume.OpensCall c o e f j u) =
      less (beginning s) new i (ap (λ (m : Moment). m.state.next_call) u) (rw u (let b = tally-new (of_outcome k) s.outcomes o (record { caller = caller.Peer (record { 0 = c.question.0 }); value = None; waiting = [] }) j in omega arith))
  consumed s m new i (consume.Loses b x e f j l u) =
      less (beginning s) new i (ap (λ (m : Moment). m.state.next_call) u) (rw u (let y = cut_less (of_question k) s.questions b.question in omega arith))
  consumed s m new i (consume.ComesToCall b x c e f j y l u) =
      less (beginning s) new i (ap (λ (m : Moment). m.state.next_call) u)
      (rw u
      (let p = tally-split (of_question k) s.questions b.question x f in
      let q = tally-insert (of_question k) s.questions b.question (consume.answered x b.waives b.said) in
      let t : of_question k x ≡ one_if (nat_eq k c.0) = ap (λ (o : Option Returned). if_open o (asked_by k x.role)) j ∙ ap (asked_by k) l in
      omega arith))
  consumed s m new i (consume.ComesToRelay b x o e f j y l u) =
      less (beginning s) new i (ap (λ (m : Moment). m.state.next_call) u)
      (rw u
      (let q = tally-insert (of_question k) s.questions b.question (consume.answered x b.waives b.said) in
      let z = cut_less (of_question k) s.questions b.question in
      omega arith))
  consumed s m new i (consume.IsFinished x z e f j u) = rw u i
  consumed s m new i (consume.IsResolved r e u) = rw u i
  consumed s m new i (consume.IsReleased r e u) = rw u i
  consumed s m new i (consume.SendsBack t to x e f u) = rw u i
  consumed s m new i (consume.Lifts t x b e f u) = rw u i
  consumed s m new i (consume.SendsForeign p e f u) = rw u i
  consumed s m new i (consume.SendsOther n e u) = rw u i
  consumed s m new i (consume.TakesBack r e u) = rw u i
  consumed s m new i (consume.Ignores r e u) = rw u i

  -- ---- Deliveries

  abbrev Tasks : Moment → Type 0
  Tasks d = all_told own k d ≤ room d.state.next_task k

  task_acted : (d new : Moment) → Tasks d → Act d new → Tasks new
  task_acted d new i (act.Delivers c n rest u e f h) =
      rw h (let a = tasks-append k d.effects.deliveries (delivery d.state c u ∷ []) in let g = grows d.state.next_task k in omega arith)
  task_acted d new i (act.Waits c n rest p calls e f j h) = rw h i
  task_acted d new i (act.Holds c n rest u path x e f j h) = rw h i
  task_acted d new i (act.Relays c n rest q t ds es e f j z h) = rw h i
  task_acted d new i (act.Breaks c n rest reason e f h) = rw h i
  task_acted d new i (act.NextArisen u v rest e f h) = rw h i
  task_acted d new i (act.Knows u v fit x ps e f j z h) = rw h i
  task_acted d new i (act.Reports c v from e f h) = rw h i
  task_acted d new i (act.TellsNobody c v e f h) = rw h i
  task_acted d new i (act.MakesReturn q v x b ds es e f j z h) = rw h i
  task_acted d new i (act.SendsReturn x y e f j h) = rw h i
  task_acted d new i (act.Clears x e f h) = rw h i
  task_acted d new i (act.Lists x e h) = rw h i
  task_acted d new i (act.SendsResolve x rest z es e w f h) = rw h i
  task_acted d new i (act.SendsBroken x rest reason e f h) = rw h i
  task_acted d new i (act.PromiseGoes p to w e f h) = rw h i
  task_acted d new i (act.OutcomeGoes u x v w e f j z l h) = rw h i
  task_acted d new i (act.ImportGoes z x w e f h) = rw h i
  task_acted d new i (act.Sweeps over e f j h) = rw h i
  task_acted d new i (act.SendsFinish q x rest e f j z l h) = rw h i
  task_acted d new i (act.Closes q x rest e f j z l h) = rw h i
  task_acted d new i (act.Releases w e f h) = rw h i

  task_started : (s : State) (c : Command) (g : Granted) (new : Moment) → Tasks (beginning s) → Starts (beginning s) c g new → Tasks new
  task_started s c g new i (first.AsksRoot q e f a u) = rw u i
  task_started s c g new i (first.CallsOut y x q t ds es e f j l m n a u) = rw u i
  task_started s c g new i (first.CallsHere y x o e f j l m a u) = rw u i
  task_started s c g new i (first.CallsLater y x o z b e f j l m a u) = rw u i
  task_started s c g new i (first.Hosts o e a u) = rw u i
  task_started s c g new i (first.Clones y x e f a u) = rw u i
  task_started s c g new i (first.NamesField y path from e f a u) = rw u i
  task_started s c g new i (first.Promises p e f a u) = rw u i
  task_started s c g new i (first.Drops y x e f a u) = rw u i
  task_started s c g new i (first.Fixes p y x key calls e f j l a u) = rw u i
  task_started s c g new i (first.Rejects p why key calls e f j a u) = rw u i
  task_started s c g new i (first.Answers t payload refs o e f a u) = rw u i
  task_started s c g new i (first.Fails t why o e f a u) = rw u i
  task_started s c g new i (first.Finishes y from e f a u) = rw u i
  task_started s c g new i (first.StaysPut y x e f a u) = rw u i
  task_started s c g new i (first.Breaks y x reason e f j l a u) = rw u i
  task_started s c g new i (first.Switches y x by n e f j l m o a u) = rw u i
  task_started s c g new i (first.Turns y x by n t z e f j l m o w q a u) = rw u i

  task_consumed : (s : State) (m : Message) (new : Moment) → Tasks (beginning s) → Consumes (beginning s) m new → Tasks new
  task_consumed s m new i (consume.OpensRoot q o e f j u) = rw u i
  task_consumed s m new i (consume.OpensCall c o e f j u) = rw u i
  task_consumed s m new i (consume.Loses b x e f j l u) = rw u i
  task_consumed s m new i (consume.ComesToCall b x c e f j y l u) = rw u i
  task_consumed s m new i (consume.ComesToRelay b x o e f j y l u) = rw u i
  task_consumed s m new i (consume.IsFinished x z e f j u) = rw u i
  task_consumed s m new i (consume.IsResolved r e u) = rw u i
  task_consumed s m new i (consume.IsReleased r e u) = rw u i
  task_consumed s m new i (consume.SendsBack t to x e f u) = rw u i
  task_consumed s m new i (consume.Lifts t x b e f u) = rw u i
  task_consumed s m new i (consume.SendsForeign p e f u) = rw u i
  task_consumed s m new i (consume.SendsOther n e u) = rw u i
  task_consumed s m new i (consume.TakesBack r e u) = rw u i
  task_consumed s m new i (consume.Ignores r e u) = rw u i

-- ---- Each step

-- How often that was before, and what may still end the call: by the numbers, or the vat is down.
abbrev Fits : ℕ → ℕ → ℕ → State → Type 0
Fits k ended given s = (ended + may_end k s ≤ room s.next_call k) × (given ≤ room s.next_task k)

abbrev Fitting : ℕ → ℕ → ℕ → State → Type 0
Fitting k ended given s = Fits k ended given s ⊎ (IsSome s.down × (ended ≤ 1) × (given ≤ 1))

-- If it fits before the step, it fits after it.
abbrev Keeps : State → Effects → State → Type 0
Keeps s x t = (k ended given : ℕ) → Fits k ended given s → Fitting k (ends_in k x.answers + ended) (tasks_in k x.deliveries + given) t

same : (s : State) (x : Effects) (t : State) → IsUnchanged s x t → Keeps s x t
same s x t h k e g f = rw (h.effects_are, h.new_is) (inl (omega arith, omega arith))

fell : (s : State) (n : ℕ) (x : Effects) (t : State) → x.answers ≡ [] → x.deliveries ≡ [] → t ≡ fallen s n → Keeps s x t
fell s n x t a d h k e g f =
    let p = at_most s.next_call k in
    let q = at_most s.next_task k in
    let u = f.0 in
    let v = f.1 in
    rw (a, d, h) (inr (refl, omega arith, omega arith))

commands : (s : State) (c : Command) (g : Granted) (x : Effects) (t : State) → Does s c g x t → Keeps s x t
commands s c g x t h k e n f =
    let u = f.0 in
    let v = f.1 in
    let a = done (Ends e k) s c g x t (λ new j. started e k s c g new (omega arith) j) (acted e k) h in
    let b = done (Tasks n k) s c g x t (λ new j. task_started n k s c g new (omega arith) j) (task_acted n k) h in
    let p = at_end (λ (w : State) (y : Effects). e + (may_end k w + ends_in k y.answers) ≤ room w.next_call k) a.last x t a.ends (let z = a.holds in omega arith) in
    let q = at_end (λ (w : State) (y : Effects). n + tasks_in k y.deliveries ≤ room w.next_task k) b.last x t b.ends b.holds in
    inl (omega arith, omega arith)

messages : (s : State) (m : Message) (x : Effects) (t : State) → fault_of s m ≡ None → Handles s m x t → Keeps s x t
messages s m x t free h k e n f =
    let u = f.0 in
    let v = f.1 in
    let a = handled (Ends e k) s m x t free (λ new j. consumed e k s m new (omega arith) j) (acted e k) h in
    let b = handled (Tasks n k) s m x t free (λ new j. task_consumed n k s m new (omega arith) j) (task_acted n k) h in
    let p = at_end (λ (w : State) (y : Effects). e + (may_end k w + ends_in k y.answers) ≤ room w.next_call k) a.last x t a.ends (let z = a.holds in omega arith) in
    let q = at_end (λ (w : State) (y : Effects). n + tasks_in k y.deliveries ≤ room w.next_task k) b.last x t b.ends b.holds in
    inl (omega arith, omega arith)

falls : (s : State) (n : ℕ) (x : Effects) (t : State) → Falls s n x t → Keeps s x t
falls s n x t h = fell s n x t (ap (λ (y : Effects). y.answers) h.effects_are) (ap (λ (y : Effects). y.deliveries) h.effects_are) h.new_is

shut : (s : State) (n : ℕ) (d : Option ℕ) (x : Effects) (t : State) → ShutsFrom s n d x t → Keeps s x t
shut s n None x t h = falls s n x t h
shut s n (Some k) x t h = same s x t h

of_command : (s : State) (c : Command) (a : Result Granted Refusal) (x : Effects) (t : State) → Obeys s c a x t → Keeps s x t
of_command s c a x t (Refuses r f g u) = same s x t u
of_command s c a x t (LacksMemory f g k u) = same s x t u
of_command s c a x t (GoesDown f g k u) = falls s want_of_room x t u
of_command s c a x t (Shuts n f g h) = shut s n s.down x t h
of_command s c a x t (IsDone given f g h w) = commands s c given x t h

no_answers : (m : Message) (n : ℕ) → (falling_by m n).answers ≡ []
no_answers (message.Plain (plain.Abort exception)) n = refl
no_answers (message.Plain (plain.Bootstrap q)) n = refl
no_answers (message.Plain (plain.Call c)) n = refl
no_answers (message.Plain (plain.Return r)) n = refl
no_answers (message.Plain (plain.Finish f)) n = refl
no_answers (message.Plain (plain.Resolve r)) n = refl
no_answers (message.Plain (plain.Release r)) n = refl
no_answers (message.Plain (plain.Disembargo d)) n = refl
no_answers (message.Plain (plain.Other k)) n = refl
no_answers (message.Unimplemented p) n = refl

pub no_deliveries : (m : Message) (n : ℕ) → (falling_by m n).deliveries ≡ []
no_deliveries (message.Plain (plain.Abort exception)) n = refl
no_deliveries (message.Plain (plain.Bootstrap q)) n = refl
no_deliveries (message.Plain (plain.Call c)) n = refl
no_deliveries (message.Plain (plain.Return r)) n = refl
no_deliveries (message.Plain (plain.Finish f)) n = refl
no_deliveries (message.Plain (plain.Resolve r)) n = refl
no_deliveries (message.Plain (plain.Release r)) n = refl
no_deliveries (message.Plain (plain.Disembargo d)) n = refl
no_deliveries (message.Plain (plain.Other k)) n = refl
no_deliveries (message.Unimplemented p) n = refl

of_message : (s : State) (m : Message) (x : Effects) (t : State) → Receives s m x t → Keeps s x t
of_message s m x t (WasDown d u) = same s x t u
of_message s m x t (FaultsBy n d f g h) = fell s n x t (ap (λ (y : Effects). y.answers) g ∙ no_answers m n) (ap (λ (y : Effects). y.deliveries) g ∙ no_deliveries m n) h
of_message s m x t (LacksRoom d f u) = falls s want_of_room x t u
of_message s m x t (IsHandled d f h w) = messages s m x t f h

-- ---- Each run

pub refused_same : (s : State) (c : Command) (r : Refusal) (x : Effects) (t : State) → Obeys s c (Err r) x t → IsUnchanged s x t
refused_same s c r x t (Refuses k f g u) = u
refused_same s c r x t (LacksMemory f g k u) = u
refused_same s c r x t (GoesDown f g k u) = absurd (let e : Err r ≡ Ok _ = k in cc)
refused_same s c r x t (Shuts n f g h) = absurd (let e : Err r ≡ Ok _ = g in cc)
refused_same s c r x t (IsDone given f g h w) = absurd (let e : Err r ≡ Ok given = g in cc)

abbrev Kept : State → List Event → Type 0
Kept s log = (k : ℕ) → Fitting k (times_ended k log) (times_delivered k log) s

zero_more : (k e g : ℕ) (s : State) → Fitting k e g s → Fitting k (0 + e) (0 + g) s
zero_more k e g s (inl f) = let u = f.0 in let v = f.1 in inl (omega arith, omega arith)
zero_more k e g s (inr f) = let u = f.1 in let v = f.2 in inr (f.0, omega arith, omega arith)

-- What changes nothing leaves it.
unchanged : (s t : State) (x : Effects) (log : List Event) (k : ℕ) → IsUnchanged s x t → Fitting k (times_ended k log) (times_delivered k log) s → Fitting k (ends_in k x.answers + times_ended k log) (tasks_in k x.deliveries + times_delivered k log) t
unchanged s t x log k h f = rw (h.effects_are, h.new_is) (zero_more k (times_ended k log) (times_delivered k log) s f)

after_command : (s t : State) (log : List Event) (c : Command) (a : Result Granted Refusal) (x : Effects) → Obeys s c a x t → Kept s log → Kept t (logged s c a x log)
after_command s t log c (Err r) x o f k = let u = refused_same s c r x t o in rw u.new_is (f k)
after_command s t log c (Ok g) x o f k = by (f k)
  where
    by : Fitting k (times_ended k log) (times_delivered k log) s → Fitting k (ends_in k x.answers + times_ended k log) (tasks_in k x.deliveries + times_delivered k log) t
    by (inl i) = of_command s c (Ok g) x t o k (times_ended k log) (times_delivered k log) i
    by (inr i) = unchanged s t x log k (command_down s c (Ok g) x t i.0 o) (inr i)

after_message : (s t : State) (log : List Event) (m : Message) (x : Effects) → Receives s m x t → Kept s log → Kept t (GotMessage s m x ∷ log)
after_message s t log m x o f k = by (f k)
  where
    by : Fitting k (times_ended k log) (times_delivered k log) s → Fitting k (ends_in k x.answers + times_ended k log) (tasks_in k x.deliveries + times_delivered k log) t
    by (inl i) = of_message s m x t o k (times_ended k log) (times_delivered k log) i
    by (inr i) = unchanged s t x log k (receive_down s m x t i.0 o) (inr i)

once : (k ended given : ℕ) (s : State) → Fitting k ended given s → (ended ≤ 1) × (given ≤ 1)
once k e g s (inl f) = let p = at_most s.next_call k in let q = at_most s.next_task k in let u = f.0 in let v = f.1 in (omega arith, omega arith)
once k e g s (inr f) = (f.1, f.2)

in_runs : (s : State) (log : List Event) → RunsTo s log → Kept s log
in_runs _ _ (New v l b) k = let a = tally-empty (of_outcome k) in let c = tally-empty (of_question k) in inl (omega arith, omega arith)
in_runs t _ (Commanded {s = s} {log = log} c a x run o) k = after_command s t log c a x o (in_runs s log run) k
in_runs t _ (Received {s = s} {log = log} m x run o) k = after_message s t log m x o (in_runs s log run) k
in_runs _ _ (Fell {s = s} {log = log} n run) k = let f = once k (times_ended k log) (times_delivered k log) s (in_runs s log run k) in inr (refl, f.0, f.1)

pub ends_once : (s : State) (log : List Event) → RunsTo s log → (k : ℕ) → times_ended k log ≤ 1
ends_once s log run k = (once k (times_ended k log) (times_delivered k log) s (in_runs s log run k)).0

pub delivered_once : (s : State) (log : List Event) → RunsTo s log → (k : ℕ) → times_delivered k log ≤ 1
delivered_once s log run k = (once k (times_ended k log) (times_delivered k log) s (in_runs s log run k)).1
