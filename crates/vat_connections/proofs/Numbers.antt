-- The numbers of a run's calls: each is the next one when its call is made, and none has ended that is still to come. The walk is that of
-- `laws_authority`, proofs/Once, with the number of the next call beside the count.
use Rattle.std.proofs.Common.{◌≡◌, ℕ, ◌+◌, ◌≤◌, ◌<◌, Bool, true, false, nat_eq, nat_lt, List, [], ◌∷◌, ◌++◌, Option, None, Some, IsSome, Result, Ok, Err, refl, sym, ap, subst, ◌∙◌, arith}
use Rattle.std.specs.FinMap as map
use Rattle.finite_maps.specs.Tally.{Map, tally}
use Rattle.finite_maps.proofs.Tallies.{tally-empty, tally-new, tally-same, tally-split, tally-insert, tally-remove}
use Rattle.rpc_msg.specs.declared.ids.CallId.{CallId}
use Rattle.rpc_msg.specs.declared.message.Message.{Message}
use Rattle.rpc_journal.specs.declared.report.Ended.{Ended}
use Rattle.rpc_machine.specs.declared.calls.Caller.{Caller}
use Rattle.rpc_machine.specs.declared.calls.Caller.TheVariants as caller
use Rattle.rpc_machine.specs.declared.calls.KeptOutcome.{KeptOutcome}
use Rattle.rpc_machine.specs.declared.calls.Value.{Value}
use Rattle.rpc_machine.specs.declared.command.Command.{Command}
use Rattle.rpc_machine.specs.declared.command.Granted.{Granted}
use Rattle.rpc_machine.specs.declared.command.Granted.TheVariants as granted
use Rattle.rpc_machine.specs.declared.command.Refusal.{Refusal}
use Rattle.rpc_machine.specs.declared.command.Effects.{Effects}
use Rattle.rpc_machine.specs.declared.entries.Role.{Role}
use Rattle.rpc_machine.specs.declared.entries.Role.TheVariants as role
use Rattle.rpc_machine.specs.declared.entries.Question.{Question}
use Rattle.rpc_machine.specs.declared.entries.Returned.{Returned}
use Rattle.rpc_machine.specs.declared.entries.Finishing.TheVariants as finishing
use Rattle.rpc_machine.specs.State.{State}
use Rattle.rpc_machine.specs.Progress.{new_refs, outcome_of, caps_of}
use Rattle.rpc_machine.specs.Sweeping.{closed_map}
use Rattle.rpc_machine.specs.Faults.{fault_of}
use Rattle.rpc_machine.specs.Down.{ShutsFrom, fallen}
use Rattle.rpc_machine.specs.Steps.{Does, Handles, Obeys, Refuses, LacksMemory, GoesDown, Shuts, IsDone, Receives, Receives as CoreReceives, WasDown, FaultsBy, LacksRoom, IsHandled}
use Rattle.rpc_machine.proofs.StaysDown.{command_down, receive_down}
use Rattle.laws_acts.specs.Moments.{Moment, beginning}
use Rattle.laws_acts.specs.FirstActs.{Starts}
use Rattle.laws_acts.specs.FirstActs as first
use Rattle.laws_acts.specs.MessageActs.{Consumes}
use Rattle.laws_acts.specs.MessageActs as consume
use Rattle.laws_acts.specs.SmallActs.{Act, kept_known}
use Rattle.laws_acts.specs.SmallActs as act
use Rattle.laws_acts.proofs.EachStep.{done, handled, at_end}
use Rattle.laws_nodes.specs.Ones.{one_if}
use Rattle.laws_authority.specs.Runs.{Event as Logged, GotMessage, logged, RunsTo, New, Commanded, Received, Fell}
use Rattle.laws_authority.specs.Once.{ends_in, times_ended}
use Rattle.laws_authority.proofs.Once.{refused_same}
use Rattle.vat_host.specs.Hosting.{Hosted}
use Rattle.vat_hosts.specs.OneHost.{Act as HostAct, Acts as HostActs, ActsAll as HostActsAll}
use Rattle.vat_hosts.specs.OneHost.Act.{Commands as HostCommands, Takes as HostTakes, Receives as HostReceives, Asks as HostAsks}
use Rattle.vat_hosts.proofs.OneHost.{So as HostSo, one_act}
use Rattle.vat_connections.proofs.Downs.{is_down_behind, no_call_down, none_is_some, tells_same}

-- ---- numbers that were given

-- One for a number that was given, zero for one to come.
abbrev pub room : ℕ → ℕ → ℕ
room next k = one_if (nat_lt k next)

pub room_rises : (n m k : ℕ) → n ≤ m → room n k ≤ room m k
room_rises n m k le = by (nat_lt k n) refl (nat_lt k m) refl
  where
    by : (a : Bool) → nat_lt k n ≡ a → (b : Bool) → nat_lt k m ≡ b → one_if a ≤ one_if b
    by true e true f = omega arith
    by true e false f = absurd (grind (arith))
    by false e b f = omega arith

-- none of the next one
pub none_next : (next : ℕ) → room next next ≡ 0
none_next next = by (nat_lt next next) refl
  where
    by : (b : Bool) → nat_lt next next ≡ b → one_if b ≡ 0
    by true e = absurd (grind (arith))
    by false e = refl

pub room_given : (next k : ℕ) → k < next → room next k ≡ 1
room_given next k lt = by (nat_lt k next) refl
  where
    by : (b : Bool) → nat_lt k next ≡ b → one_if b ≡ 1
    by true e = refl
    by false e = absurd (grind (arith))

grows : (next k : ℕ) → room (next + 1) k ≡ room next k + one_if (nat_eq k next)
grows next k = by (nat_lt k next) refl (nat_eq k next) refl (nat_lt k (next + 1)) refl
  where
    by : (a : Bool) → nat_lt k next ≡ a → (b : Bool) → nat_eq k next ≡ b → (c : Bool) → nat_lt k (next + 1) ≡ c → one_if c ≡ one_if a + one_if b
    by true e true f c g = absurd (grind (arith))
    by true e false f true g = refl
    by true e false f false g = absurd (grind (arith))
    by false e true f true g = refl
    by false e true f false g = absurd (grind (arith))
    by false e false f true g = absurd (grind (arith))
    by false e false f false g = refl

-- the next number, once that was granted
abbrev pub next_after : Granted → ℕ → ℕ
next_after (granted.Call id) next = next + 1
next_after g next = next

-- A call that is granted has the next number.
abbrev pub IsNext : Granted → ℕ → Type 0
IsNext (granted.Call id) next = id.0 ≡ next
IsNext g next = Unit {0}

-- ---- what may still end a call

ends-append : (k : ℕ) (xs ys : List Ended) → ends_in k (xs ++ ys) ≡ ends_in k xs + ends_in k ys
ends-append k [] ys = omega arith
ends-append k (x ∷ xs) ys = let e = ends-append k xs ys in omega arith

abbrev tells_call : ℕ → Caller → ℕ
tells_call k (caller.Application c) = one_if (nat_eq k c.0)
tells_call k (caller.Peer q) = 0

abbrev if_open : {X : Type 0} → Option X → ℕ → ℕ
if_open None n = n
if_open (Some x) n = 0

abbrev asked_by : ℕ → Role → ℕ
asked_by k (role.Direct c) = one_if (nat_eq k c.0)
asked_by k (role.Relay o) = 0

abbrev of_outcome : ℕ → KeptOutcome → ℕ
of_outcome k x = if_open x.value (tells_call k x.caller)

abbrev of_question : ℕ → Question → ℕ
of_question k x = if_open x.returned (asked_by k x.role)

abbrev told : ℕ → List (Caller × Value) → ℕ
told k [] = 0
told k (x ∷ xs) = tells_call k x.0 + told k xs

abbrev may_end : ℕ → State → ℕ
may_end k s = tally (of_outcome k) s.outcomes + tally (of_question k) s.questions

cut_less : {X : Type 0} (f : X → ℕ) (m : Map X) (k : ℕ) → tally f (map.remove m k) ≤ tally f m
cut_less f m k = let e = tally-remove f m k in omega arith

closed_less : (k : ℕ) (m : Map Question) (q : ℕ) (x : Question) (r : Option Returned) → map.get m q ≡ Some x → tally (of_question k) (closed_map m q x r) ≤ tally (of_question k) m
closed_less k m q x None g = let e = tally-same (of_question k) m q x (record x { finish = finishing.Sent }) g refl in omega arith
closed_less k m q x (Some said) g = cut_less (of_question k) m q

-- ---- acts

-- What ended the call before, what may still end it, and what ended it in this step.
abbrev total : ℕ → ℕ → Moment → ℕ
total own k d = own + (may_end k d.state + (told k d.telling + ends_in k d.effects.answers))

module _ (own k n most : ℕ) where
  abbrev Ends : Moment → Type 0
  Ends d = (d.state.next_call ≡ n) × (total own k d ≤ most)

  less : (d new : Moment) → Ends d → new.state.next_call ≡ d.state.next_call → total own k new ≤ total own k d → Ends new
  less d new i e l = (e ∙ i.0, let a = i.1 in omega arith)

  acted : (d new : Moment) → Ends d → Act d new → Ends new
  acted d new i (act.Holds c n rest u path x e f j h) =
      less d new i (ap (λ (m : Moment). m.state.next_call) h) (rw h (let a = tally-same (of_outcome k) d.state.outcomes u x (record x { waiting = x.waiting ++ record { path = path; call = c } ∷ [] }) j refl in omega arith))
  acted d new i (act.Relays c n rest q t ds es e f j z h) =
      less d new i (ap (λ (m : Moment). m.state.next_call) h) (rw h (let a = tally-new (of_question k) d.state.questions q (first.asked (role.Relay c.outcome) ds) j in omega arith))
  acted d new i (act.Knows u v fit x ps e f j z h) =
      less d new i (ap (λ (m : Moment). m.state.next_call) h)
      (rw h
      (let a = tally-split (of_outcome k) d.state.outcomes u x f in
      let b = tally-insert (of_outcome k) d.state.outcomes u (kept_known x.caller fit x.waiting) in
      let t : of_outcome k x ≡ tells_call k x.caller = ap (λ (o : Option Value). if_open o (tells_call k x.caller)) j in
      omega arith))
  acted d new i (act.Reports c v from e f h) =
      less d new i (ap (λ (m : Moment). m.state.next_call) h)
      (rw h
      (let a = ends-append k d.effects.answers (record { call = record { 0 = c }; outcome = outcome_of v; refs = new_refs d.state.next_ref (caps_of v) } ∷ []) in
      let t : told k d.telling ≡ one_if (nat_eq k c) + 0 = ap (told k) e in
      omega arith))
  acted d new i (act.TellsNobody c v e f h) = less d new i (ap (λ (m : Moment). m.state.next_call) h) (rw h (omega arith))
  acted d new i (act.MakesReturn q v x b ds es e f j z h) = less d new i (ap (λ (m : Moment). m.state.next_call) h) (rw h (omega arith))
  acted d new i (act.Clears x e f h) =
      less d new i (ap (λ (m : Moment). m.state.next_call) h)
      (rw h
      (let a = tally-insert (of_outcome k) d.state.outcomes x.outcome (kept_known x.caller x.value []) in
      let b = cut_less (of_outcome k) d.state.outcomes x.outcome in
      omega arith))
  acted d new i (act.OutcomeGoes u x v w e f j z l h) =
      less d new i (ap (λ (m : Moment). m.state.next_call) h) (rw h (let b = cut_less (of_outcome k) d.state.outcomes u in omega arith))
  acted d new i (act.SendsFinish q x rest e f j z l h) =
      less d new i (ap (λ (m : Moment). m.state.next_call) h) (rw h (let b = closed_less k d.state.questions q x x.returned f in omega arith))
  acted d new i (act.Closes q x rest e f j z l h) =
      less d new i (ap (λ (m : Moment). m.state.next_call) h) (rw h (let b = closed_less k d.state.questions q x x.returned f in omega arith))
  acted d new i (act.Delivers c n rest u e f h) = rw h i
  acted d new i (act.Waits c n rest p calls e f j h) = rw h i
  acted d new i (act.Breaks c n rest reason e f h) = rw h i
  acted d new i (act.NextArisen u v rest e f h) = rw h i
  acted d new i (act.SendsReturn x y e f j h) = rw h i
  acted d new i (act.Lists x e h) = rw h i
  acted d new i (act.SendsResolve x rest z es e w f h) = rw h i
  acted d new i (act.SendsBroken x rest reason e f h) = rw h i
  acted d new i (act.PromiseGoes p to w e f h) = rw h i
  acted d new i (act.ImportGoes z x w e f h) = rw h i
  acted d new i (act.Sweeps over e f j h) = rw h i
  acted d new i (act.Releases w e f h) = rw h i

  consumed : (s : State) (m : Message) (new : Moment) → Ends (beginning s) → Consumes (beginning s) m new → Ends new
  consumed s m new i (consume.OpensRoot q o e f j u) =
      less (beginning s) new i (ap (λ (m : Moment). m.state.next_call) u) (rw u (let b = tally-new (of_outcome k) s.outcomes o (record { caller = caller.Peer (record { 0 = q.0 }); value = None; waiting = [] }) j in omega arith))
  consumed s m new i (consume.OpensCall c o e f j u) =
      less (beginning s) new i (ap (λ (m : Moment). m.state.next_call) u) (rw u (let b = tally-new (of_outcome k) s.outcomes o (record { caller = caller.Peer (record { 0 = c.question.0 }); value = None; waiting = [] }) j in omega arith))
  consumed s m new i (consume.Loses b x e f j l u) =
      less (beginning s) new i (ap (λ (m : Moment). m.state.next_call) u) (rw u (let y = cut_less (of_question k) s.questions b.question in omega arith))
  consumed s m new i (consume.ComesToCall b x c e f j y l u) =
      less (beginning s) new i (ap (λ (m : Moment). m.state.next_call) u)
      (rw u
      (let p = tally-split (of_question k) s.questions b.question x f in
      let q = tally-insert (of_question k) s.questions b.question (consume.answered x b.waives b.said) in
      let t : of_question k x ≡ one_if (nat_eq k c.0) = ap (λ (o : Option Returned). if_open o (asked_by k x.role)) j ∙ ap (asked_by k) l in
      omega arith))
  consumed s m new i (consume.ComesToRelay b x o e f j y l u) =
      less (beginning s) new i (ap (λ (m : Moment). m.state.next_call) u)
      (rw u
      (let q = tally-insert (of_question k) s.questions b.question (consume.answered x b.waives b.said) in
      let z = cut_less (of_question k) s.questions b.question in
      omega arith))
  consumed s m new i (consume.IsFinished x z e f j u) = rw u i
  consumed s m new i (consume.IsResolved r e u) = rw u i
  consumed s m new i (consume.IsReleased r e u) = rw u i
  consumed s m new i (consume.SendsBack t to x e f u) = rw u i
  consumed s m new i (consume.Lifts t x b e f u) = rw u i
  consumed s m new i (consume.SendsForeign p e f u) = rw u i
  consumed s m new i (consume.SendsOther n e u) = rw u i
  consumed s m new i (consume.TakesBack r e u) = rw u i
  consumed s m new i (consume.Ignores r e u) = rw u i

module _ (own k : ℕ) where
  -- The first act of a command: one more number, if it makes a call, and one thing that may end that call.
  started : (s : State) (c : Command) (g : Granted) (new : Moment) → total own k (beginning s) ≤ room s.next_call k → Starts (beginning s) c g new
      → IsNext g s.next_call × Ends own k (next_after g s.next_call) (room (next_after g s.next_call) k) new
  started s c g new i (first.AsksRoot q e f a u) =
      rw (a, u) (refl, (refl, let b = tally-new (of_question k) s.questions q (first.asked (role.Direct (record { 0 = s.next_call })) []) f in let g = grows s.next_call k in omega arith))
  started s c g new i (first.CallsOut y x q t ds es e f j l m n a u) =
      rw (a, u) (refl, (refl, let b = tally-new (of_question k) s.questions q (first.asked (role.Direct (record { 0 = s.next_call })) ds) m in let g = grows s.next_call k in omega arith))
  started s c g new i (first.CallsHere y x o e f j l m a u) =
      rw (a, u) (refl, (refl, let b = tally-new (of_outcome k) s.outcomes o (record { caller = caller.Application (record { 0 = s.next_call }); value = None; waiting = [] }) m in let g = grows s.next_call k in omega arith))
  started s c g new i (first.CallsLater y x o z b e f j l m a u) =
      rw (a, u) (refl, (refl, let b = tally-new (of_outcome k) s.outcomes o (record { caller = caller.Application (record { 0 = s.next_call }); value = None; waiting = [] }) m in let g = grows s.next_call k in omega arith))
  started s c g new i (first.Hosts o e a u) = rw (a, u) (tt, (refl, i))
  started s c g new i (first.Clones y x e f a u) = rw (a, u) (tt, (refl, i))
  started s c g new i (first.NamesField y path from e f a u) = rw (a, u) (tt, (refl, i))
  started s c g new i (first.Promises p e f a u) = rw (a, u) (tt, (refl, i))
  started s c g new i (first.Drops y x e f a u) = rw (a, u) (tt, (refl, i))
  started s c g new i (first.Fixes p y x key calls e f j l a u) = rw (a, u) (tt, (refl, i))
  started s c g new i (first.Rejects p why key calls e f j a u) = rw (a, u) (tt, (refl, i))
  started s c g new i (first.Answers t payload refs o e f a u) = rw (a, u) (tt, (refl, i))
  started s c g new i (first.Fails t why o e f a u) = rw (a, u) (tt, (refl, i))
  started s c g new i (first.Finishes y from e f a u) = rw (a, u) (tt, (refl, i))
  started s c g new i (first.StaysPut y x e f a u) = rw (a, u) (tt, (refl, i))
  started s c g new i (first.Breaks y x reason e f j l a u) = rw (a, u) (tt, (refl, i))
  started s c g new i (first.Switches y x by n e f j l m o a u) = rw (a, u) (tt, (refl, i))
  started s c g new i (first.Turns y x by n t z e f j l m o w q a u) = rw (a, u) (tt, (refl, i))

-- ---- steps

-- What a step is for the number of the next call, and for one call.
pub record Counted (s : State) (g : Granted) (x : Effects) (t : State) (own k : ℕ) : Type 0 where
  pub next : t.next_call ≡ next_after g s.next_call
  pub is_next : IsNext g s.next_call
  pub fits : own + (may_end k t + ends_in k x.answers) ≤ room (next_after g s.next_call) k

module _ (own k : ℕ) where
  commands : (s : State) (c : Command) (g : Granted) (x : Effects) (t : State) → own + may_end k s ≤ room s.next_call k → Does s c g x t → Counted s g x t own k
  commands s c g x t fits h =
      let n = next_after g s.next_call in
      let a = done (λ d. IsNext g s.next_call × Ends own k n (room n k) d) s c g x t (λ new j. started own k s c g new (omega arith) j) (λ d new i j. (i.0, acted own k n (room n k) d new i.1 j)) h in
      let z = a.holds.1.1 in
      let e = at_end (λ (w : State) (y : Effects). (w.next_call ≡ n) × (own + (may_end k w + ends_in k y.answers) ≤ room n k)) a.last x t a.ends (a.holds.1.0, omega arith) in
      record { next = e.0; is_next = a.holds.0; fits = e.1 }

  messages : (s : State) (m : Message) (x : Effects) (t : State) → own + may_end k s ≤ room s.next_call k → fault_of s m ≡ None → Handles s m x t → Counted s granted.Done x t own k
  messages s m x t fits free h =
      let a = handled (Ends own k s.next_call (room s.next_call k)) s m x t free (λ new j. consumed own k s.next_call (room s.next_call k) s m new (refl, omega arith) j) (acted own k s.next_call (room s.next_call k)) h in
      let z = a.holds.1 in
      let e = at_end (λ (w : State) (y : Effects). (w.next_call ≡ s.next_call) × (own + (may_end k w + ends_in k y.answers) ≤ room s.next_call k)) a.last x t a.ends (a.holds.0, omega arith) in
      record { next = e.0; is_next = tt; fits = e.1 }

is_up : (n : ℕ) → Some n ≡ None → ⊥
is_up n e = absurd (let f : Some n ≡ None = e in cc)

-- A step that leaves the vat up.
module _ (s t : State) (x : Effects) (up : t.down ≡ None) where
  no_fall : (n : ℕ) → t ≡ fallen s n → ⊥
  no_fall n is = is_up n (sym (ap (λ (u : State). u.down) is) ∙ up)

  no_shut : (n : ℕ) (d : Option ℕ) → s.down ≡ d → ShutsFrom s n d x t → ⊥
  no_shut n None e fell = no_fall n fell.new_is
  no_shut n (Some k) e same = is_up k (sym e ∙ sym (ap (λ (u : State). u.down) same.new_is) ∙ up)

  module _ (own k : ℕ) (fits : own + may_end k s ≤ room s.next_call k) where
    pub of_command : (c : Command) (g : Granted) → Obeys s c (Ok g) x t → Counted s g x t own k
    of_command c g (Refuses r f e u) = absurd (let is : Ok g ≡ Err r = e in cc)
    of_command c g (LacksMemory f m e u) = absurd (let is : Ok g ≡ Err _ = e in cc)
    of_command c g (GoesDown f m e u) = absurd (no_fall _ u.new_is)
    of_command c g (Shuts n f e h) = absurd (no_shut n s.down refl h)
    of_command c g (IsDone given f e h w) = let is : given ≡ g = let both : Ok g ≡ Ok given = e in cc in subst (λ (j : Granted). Counted s j x t own k) is (commands own k s c given x t fits h)

    same_number : t ≡ s → x.answers ≡ [] → Counted s granted.Done x t own k
    same_number is none = rw (is, none) (record { next = refl; is_next = tt; fits = omega arith })

    pub of_message : (m : Message) → Receives s m x t → Counted s granted.Done x t own k
    of_message m (WasDown d u) = same_number u.new_is (ap (λ (y : Effects). y.answers) u.effects_are)
    of_message m (FaultsBy n d f e h) = absurd (no_fall n h)
    of_message m (LacksRoom d f u) = absurd (no_fall _ u.new_is)
    of_message m (IsHandled d f h w) = messages own k s m x t fits f h

-- A vat that is up was up before.
pub up_before_command : (s t : State) (c : Command) (a : Result Granted Refusal) (x : Effects) → t.down ≡ None → Obeys s c a x t → s.down ≡ None
up_before_command s t c a x up o = by s.down refl
  where
    by : (d : Option ℕ) → s.down ≡ d → s.down ≡ None
    by None e = e
    by (Some n) e = absurd (is_up n (sym e ∙ sym (ap (λ (u : State). u.down) (command_down s c a x t (subst (λ (d : Option ℕ). IsSome d) (sym e) refl) o).new_is) ∙ up))

pub up_before_message : (s t : State) (m : Message) (x : Effects) → t.down ≡ None → Receives s m x t → s.down ≡ None
up_before_message s t m x up o = by s.down refl
  where
    by : (d : Option ℕ) → s.down ≡ d → s.down ≡ None
    by None e = e
    by (Some n) e = absurd (is_up n (sym e ∙ sym (ap (λ (u : State). u.down) (receive_down s m x t (subst (λ (d : Option ℕ). IsSome d) (sym e) refl) o).new_is) ∙ up))

-- ---- runs

after_command : (s t : State) (log : List Logged) (c : Command) (a : Result Granted Refusal) (x : Effects) (k : ℕ) → t.down ≡ None → Obeys s c a x t → times_ended k log + may_end k s ≤ room s.next_call k
    → times_ended k (logged s c a x log) + may_end k t ≤ room t.next_call k
after_command s t log c (Err r) x k up o f = let u = refused_same s c r x t o in rw u.new_is f
after_command s t log c (Ok g) x k up o f = let e = of_command s t x up (times_ended k log) k f c g o in let z = e.fits in rw e.next (omega arith)

after_message : (s t : State) (log : List Logged) (m : Message) (x : Effects) (k : ℕ) → t.down ≡ None → Receives s m x t → times_ended k log + may_end k s ≤ room s.next_call k
    → times_ended k (GotMessage s m x ∷ log) + may_end k t ≤ room t.next_call k
after_message s t log m x k up o f = let e = of_message s t x up (times_ended k log) k f m o in let z = e.fits in rw e.next (omega arith)

in_runs : (s : State) (log : List Logged) → RunsTo s log → s.down ≡ None → (k : ℕ) → times_ended k log + may_end k s ≤ room s.next_call k
in_runs _ _ (New v l b) up k = let a = tally-empty (of_outcome k) in let c = tally-empty (of_question k) in omega arith
in_runs t _ (Commanded {s = s} {log = log} c a x run o) up k = after_command s t log c a x k up o (in_runs s log run (up_before_command s t c a x up o) k)
in_runs t _ (Received {s = s} {log = log} m x run o) up k = after_message s t log m x k up o (in_runs s log run (up_before_message s t m x up o) k)
in_runs _ _ (Fell {s = s} {log = log} n run) up k = absurd (is_up n up)

-- A call that is still to come has not ended.
pub ended_in_room : (s : State) (log : List Logged) → RunsTo s log → s.down ≡ None → (k : ℕ) → times_ended k log ≤ room s.next_call k
ended_in_room s log run up k = let a = in_runs s log run up k in omega arith

module _ (s t : State) (log : List Logged) (run : RunsTo s log) (up : t.down ≡ None) (x : Effects) where
  -- The numbers of calls rise by steps.
  pub by_command : (c : Command) (g : Granted) → Obeys s c (Ok g) x t → (t.next_call ≡ next_after g s.next_call) × IsNext g s.next_call
  by_command c g o = let e = of_command s t x up (times_ended 0 log) 0 (in_runs s log run (up_before_command s t c (Ok g) x up o) 0) c g o in (e.next, e.is_next)

  pub by_message : (m : Message) → Receives s m x t → t.next_call ≡ s.next_call
  by_message m o = (of_message s t x up (times_ended 0 log) 0 (in_runs s log run (up_before_message s t m x up o) 0) m o).next

-- A call that is made has the next number.
pub by_call : (s t : State) (log : List Logged) → RunsTo s log → (x : Effects) (c : Command) (id : CallId) → Obeys s c (Ok (granted.Call id)) x t
    → (s.down ≡ None) × (t.next_call ≡ s.next_call + 1) × (id.0 ≡ s.next_call)
by_call s t log run x c id (Refuses r f e u) = absurd (let is : Ok (granted.Call id) ≡ Err r = e in cc)
by_call s t log run x c id (LacksMemory f m e u) = absurd (let is : Ok (granted.Call id) ≡ Err _ = e in cc)
by_call s t log run x c id (GoesDown f m e u) = absurd (let is : Ok (granted.Call id) ≡ Ok granted.Done = e in cc)
by_call s t log run x c id (Shuts n f e h) = absurd (let is : Ok (granted.Call id) ≡ Ok granted.Done = e in cc)
by_call s t log run x c id (IsDone given f e h w) = (up, counted.next, counted.is_next)
  where
    obeys : Obeys s c (Ok (granted.Call id)) x t
    obeys = IsDone given f e h w

    is : given ≡ granted.Call id
    is = let both : Ok (granted.Call id) ≡ Ok given = e in cc

    up : s.down ≡ None
    up = by s.down refl
      where
        by : (d : Option ℕ) → s.down ≡ d → s.down ≡ None
        by None e = e
        by (Some n) e = absurd (no_call_down s c id x t (subst (λ (d : Option ℕ). IsSome d) (sym e) refl) obeys)

    counted : Counted s (granted.Call id) x t (times_ended 0 log) 0
    counted = subst (λ (g : Granted). Counted s g x t (times_ended 0 log) 0) is (commands (times_ended 0 log) 0 s c given x t (in_runs s log run up 0) h)

-- ---- hosts

-- The next number only rises while the vat is up.
rises_by : (xs : List HostAct) (h k : Hosted) (x : HostAct) → HostSo xs h → HostActs h x k → k.core.down ≡ None → h.core.next_call ≤ k.core.next_call
rises_by xs h k (HostCommands c (Ok g)) so (e, obeys, is) up = by g (by_command h.core k.core so.log so.ran up e c g obeys).0
  where
    by : (g : Granted) → k.core.next_call ≡ next_after g h.core.next_call → h.core.next_call ≤ k.core.next_call
    by granted.Done is = omega arith
    by (granted.Reference r) is = omega arith
    by (granted.Call id) is = omega arith
    by (granted.Promise p r) is = omega arith
    by (granted.Advanced a) is = omega arith
rises_by xs h k (HostCommands c (Err r)) so (why, is) up = let e : k.core.next_call ≡ h.core.next_call = ap (λ (j : Hosted). j.core.next_call) is in omega arith
rises_by xs h k (HostTakes ms) so (left, taken, is) up = let e : k.core.next_call ≡ h.core.next_call = ap (λ (j : Hosted). j.core.next_call) is in omega arith
rises_by xs h k (HostReceives m) so (mid, (reason, noted, mid_is), (e, receives, is)) up =
    let n = by_message h.core k.core so.log so.ran up e m (subst (λ (j : Hosted). CoreReceives j.core m e k.core) mid_is receives) in omega arith
rises_by xs h k (HostAsks e) so tells up = let n : k.core.next_call ≡ h.core.next_call = ap (λ (s : State). s.next_call) (tells_same h k e tells) in omega arith

pub rises : (before xs : List HostAct) (h k : Hosted) → HostSo before h → HostActsAll h xs k → k.core.down ≡ None → h.core.next_call ≤ k.core.next_call
rises before [] h k so same up = let e : k.core.next_call ≡ h.core.next_call = ap (λ (j : Hosted). j.core.next_call) same in omega arith
rises before (x ∷ xs) h k so (mid, first, more) up =
    let a = rises_by before h mid x so first (was_up mid.core.down refl) in
    let b = rises (before ++ x ∷ []) xs mid k (one_act before h mid x so first) more up in
    omega arith
  where
    was_up : (d : Option ℕ) → mid.core.down ≡ d → mid.core.down ≡ None
    was_up None e = e
    was_up (Some n) e = absurd (none_is_some k.core.down up (is_down_behind mid k xs more (subst (λ (d : Option ℕ). IsSome d) (sym e) refl)))
