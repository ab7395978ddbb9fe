-- What each step does to tasks, outcomes and answers: read off its end.
use Rattle.std.proofs.Common.{◌≡◌, ◌⊎◌, inl, inr, ℕ, ◌<◌, ◌≤◌, Bool, true, false, nat_lt, Option, None, Some, IsSome, [], refl, sym, ap, subst, ◌∙◌, arith}
use Rattle.std.specs.FinMap as map
use Rattle.rpc_msg.specs.declared.message.Message.{Message}
use Rattle.rpc_msg.specs.declared.message.Message.TheVariants as msg
use Rattle.rpc_msg.specs.declared.message.PlainMessage.TheVariants as plain
use Rattle.rpc_machine.specs.declared.calls.KeptOutcome.{KeptOutcome}
use Rattle.rpc_machine.specs.declared.command.Command.{Command}
use Rattle.rpc_machine.specs.declared.command.Effects.{Effects}
use Rattle.rpc_machine.specs.declared.command.Granted.{Granted}
use Rattle.rpc_machine.specs.declared.entries.AnswerEntry.{AnswerEntry}
use Rattle.rpc_machine.specs.Faults.{fault_of}
use Rattle.rpc_machine.specs.State.{State}
use Rattle.rpc_machine.specs.Steps.{Does, Handles}
use Rattle.laws_acts.specs.Moments.{Moment}
use Rattle.laws_acts.specs.SmallActs.{IsEnd}
use Rattle.laws_acts.proofs.EachStep.{done, handled, at_end}
use Rattle.laws_nodes.specs.Sources.{EachHasOneSource}
use Rattle.laws_steps.specs.NodesThere.{IsReached}
use Rattle.laws_tasks.specs.TaskSteps.{IsOpen, IsFinished, IsCallOf, IsFinishOf, KeepsTasks, StepsKeepTasks}
use Rattle.laws_tasks.proofs.Coming.{Finds, found}
use Rattle.laws_tasks.proofs.Holding as holding
use Rattle.laws_tasks.proofs.Holding.{Held, IsInHand, IsShut, WasOpen}
use Rattle.laws_tasks.proofs.Owing as owing
use Rattle.laws_tasks.proofs.Owing.{Owes}

shut_open : (x : Option KeptOutcome) → IsShut x → IsOpen x → ⊥
shut_open None shut none = none
shut_open (Some x) shut unknown = by x.value shut unknown
  where
    by : {V : Type 0} (v : Option V) → IsSome v → v ≡ None → ⊥
    by None i e = let bad : false ≡ true = i in cc
    by (Some y) i e = let bad : Some y ≡ None = e in cc

module _ (s : State) (came : Option Message) (fresh : (k : ℕ) → s.next_task ≤ k → map.get s.tasks k ≡ None) where
  below : (k o : ℕ) → map.get s.tasks k ≡ Some o → k < s.next_task
  below k o e = by (nat_lt k s.next_task) refl
    where
      by : (b : Bool) → nat_lt k s.next_task ≡ b → k < s.next_task
      by true f = grind (arith)
      by false f = absurd (let none = fresh k (grind (arith)) in let bad : Some o ≡ None = sym e ∙ none in cc)

  -- The end of a step, with nothing in hand.
  of_end : (last : Moment) (x : Effects) (t : State) → IsEnd last x t → Held s came last → Owes s came last
      → ((q : ℕ) → IsCallOf q came → map.get s.answers q ≡ None) → ((q : ℕ) → IsFinishOf q came → (a : AnswerEntry) × (map.get s.answers q ≡ Some a) × (IsFinished (map.get s.answers q) → ⊥))
      → KeepsTasks s came x t
  of_end last x t ends held owes asks over = at_end (λ u y. KeepsTasks s came y u) last x t ends (record {
    delivered = held.1;
    stays = λ k o e unknown. in_hand k o unknown (held.0 k o e (below k o e)).1;
    opens = λ o q unknown. opened o q (held.2 o q unknown);
    rises = held.3;
    callers = λ o x y e f. subst (λ (z : Option KeptOutcome). holding.Had s came z y.caller) e (holding.had s came last.state.outcomes o y f held.4);
    finishes = owes.0;
    finished = owes.1;
    returned = owes.2;
    asks = asks;
    over = over;
  })
    where
      none_coming : last.coming ≡ []
      none_coming = ap (λ (m : Moment). m.coming) ends.rest

      in_hand : (k o : ℕ) → IsOpen (map.get last.state.outcomes o) → IsInHand k o last → map.get last.state.tasks k ≡ Some o
      in_hand k o unknown (inl there) = there
      in_hand k o unknown (inr (inl is)) = absurd (holding.no_key s came o last.coming none_coming is)
      in_hand k o unknown (inr (inr (inl is))) = absurd (holding.no_key s came o last.arisen ends.arisen is)
      in_hand k o unknown (inr (inr (inr shut))) = absurd (shut_open (map.get last.state.outcomes o) shut unknown)

      opened : (o q : ℕ) → WasOpen s came o q ⊎ holding.IsKeyOf o last.coming → WasOpen s came o q
      opened o q (inl is) = is
      opened o q (inr is) = absurd (holding.no_key s came o last.coming none_coming is)

-- ---- Commands

no_call : (q : ℕ) → IsCallOf q None → ⊥
no_call q is = let bad : None ≡ Some (msg.Plain (plain.Call is.0)) = is.1 in cc

no_finish : (q : ℕ) → IsFinishOf q None → ⊥
no_finish q is = let bad : None ≡ Some (msg.Plain (plain.Finish is.0)) = is.1 in cc

commands : EachHasOneSource → (s : State) (c : Command) (g : Granted) (x : Effects) (t : State) → IsReached s → Does s c g x t → KeepsTasks s None x t
commands sources s c g x t reached does =
    let k = done (λ d. Held s None d × Owes s None d) s c g x t (λ new j. (holding.started s None c g new j, owing.started s None c g new j)) (λ d new i j. (holding.acted s None d new i.0 j, owing.acted s None d new i.1 j)) does in
    let both = k.holds in
    of_end s None (sources s reached).tasks k.last x t k.ends both.0 both.1 (λ q is. absurd (no_call q is)) (λ q is. absurd (no_finish q is))

-- ---- Messages

finds : (s : State) (m : Message) (x : Effects) (t : State) → fault_of s m ≡ None → Handles s m x t → Finds s m
finds s m x t free h = (handled (λ d. Finds s m) s m x t free (λ new j. found s m new j) (λ d new i j. i) h).holds

call_finds : (s : State) (m : Message) → Finds s m → (q : ℕ) → IsCallOf q (Some m) → map.get s.answers q ≡ None
call_finds s m f q (c, is, same) = subst (λ (k : ℕ). map.get s.answers k ≡ None) same (subst (Finds s) (let e : Some m ≡ Some (msg.Plain (plain.Call c)) = is in let g : m ≡ msg.Plain (plain.Call c) = cc in g) f)

finish_finds : (s : State) (m : Message) → Finds s m → (q : ℕ) → IsFinishOf q (Some m) → (a : AnswerEntry) × (map.get s.answers q ≡ Some a) × (IsFinished (map.get s.answers q) → ⊥)
finish_finds s m f q (c, is, same) = by (subst (Finds s) (let e : Some m ≡ Some (msg.Plain (plain.Finish c)) = is in let g : m ≡ msg.Plain (plain.Finish c) = cc in g) f)
  where
    by : (a : AnswerEntry) × (map.get s.answers c.question.0 ≡ Some a) × (a.finished ≡ false) → (a : AnswerEntry) × (map.get s.answers q ≡ Some a) × (IsFinished (map.get s.answers q) → ⊥)
    by (a, there, not) =
        let here : map.get s.answers q ≡ Some a = subst (λ (k : ℕ). map.get s.answers k ≡ Some a) same there in
        (a, here, λ over. let now : a.finished ≡ true = subst IsFinished here over in let bad : true ≡ false = sym now ∙ not in cc)

messages : EachHasOneSource → (s : State) (m : Message) (x : Effects) (t : State) → IsReached s → fault_of s m ≡ None → Handles s m x t → KeepsTasks s (Some m) x t
messages sources s m x t reached free handles =
    let k = handled (λ d. Held s (Some m) d × Owes s (Some m) d) s m x t free (λ new j. (holding.consumed s m new j, owing.consumed s m new j)) (λ d new i j. (holding.acted s (Some m) d new i.0 j, owing.acted s (Some m) d new i.1 j)) handles in
    let both = k.holds in
    let f = finds s m x t free handles in
    of_end s (Some m) (sources s reached).tasks k.last x t k.ends both.0 both.1 (call_finds s m f) (finish_finds s m f)

pub kept : EachHasOneSource → StepsKeepTasks
kept sources = record { commands = commands sources; messages = messages sources }
