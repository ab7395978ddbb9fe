-- What a vat asked and finished, at each moment of a step.
use Rattle.std.proofs.Common.{◌≡◌, ℕ, Bool, true, false, cond, nat_eq, List, [], ◌∷◌, ◌++◌, Option, None, Some, refl, sym, ap, subst, ◌∙◌}
use Rattle.std.specs.FinMap as map
use Rattle.finite_maps.specs.Tally.{Map}
use Rattle.finite_maps.proofs.Tested.{at_put, at_cut, get_put, get_cut, equal}
use Rattle.rpc_msg.specs.declared.message.DisembargoContext.TheVariants.{SenderLoopback, ReceiverLoopback}
use Rattle.rpc_msg.specs.declared.message.ResolvedTo.TheVariants as resolved
use Rattle.rpc_msg.specs.declared.message.PlainMessage.TheVariants as plain
use Rattle.rpc_msg.specs.declared.message.Message.{Message}
use Rattle.rpc_msg.specs.declared.message.Message.TheVariants as message
use Rattle.rpc_machine.specs.declared.command.Command.{Command}
use Rattle.rpc_machine.specs.declared.command.Granted.{Granted}
use Rattle.rpc_machine.specs.declared.command.Effects.{Effects}
use Rattle.rpc_machine.specs.declared.entries.Finishing.TheVariants as finishing
use Rattle.rpc_machine.specs.declared.entries.Returned.{Returned}
use Rattle.rpc_machine.specs.declared.entries.Question.{Question}
use Rattle.rpc_machine.specs.State.{State}
use Rattle.rpc_machine.specs.Commands.{request}
use Rattle.rpc_machine.specs.Flags.{flag_for}
use Rattle.rpc_machine.specs.Progress.{numbers}
use Rattle.rpc_machine.specs.Settling.{or_failed, resolve_message}
use Rattle.rpc_machine.specs.Sweeping.{closed_map, got_of}
use Rattle.rpc_machine.specs.Messages.{waived}
use Rattle.rpc_machine.specs.Faults.{fault_of}
use Rattle.rpc_machine.specs.Steps.{Does, Handles}
use Rattle.laws_acts.specs.Moments.{Moment, beginning}
use Rattle.laws_acts.specs.FirstActs.{Starts}
use Rattle.laws_acts.specs.FirstActs as first
use Rattle.laws_acts.specs.MessageActs.{Back, Brings, ByReturn, ByEchoedRoot, ByEchoedCall, Consumes}
use Rattle.laws_acts.specs.MessageActs as consume
use Rattle.laws_acts.specs.SmallActs.{Act, release_messages}
use Rattle.laws_acts.specs.SmallActs as act
use Rattle.laws_acts.proofs.EachStep.{done, handled, at_end}
use Rattle.laws_asking.specs.Turns.{Asks, Ends, Turns, TurnsAll, BringsNoneBack, is_unfinished, owes_finish, unfinished}

-- ---- Lists

pub turns-append : (q : ℕ) (b c d : Bool) (xs ys : List Message) → TurnsAll q b xs c → TurnsAll q c ys d → TurnsAll q b (xs ++ ys) d
turns-append q b c d [] ys h k = subst (λ (a : Bool). TurnsAll q a ys d) h k
turns-append q b c d (m ∷ xs) ys h k = (h.0, h.1, turns-append q h.0 c d xs ys h.2 k)

one : (q : ℕ) (b c d : Bool) (xs : List Message) (m : Message) → TurnsAll q b xs c → Turns q c m d → TurnsAll q b (xs ++ m ∷ []) d
one q b c d xs m h k = turns-append q b c d xs (m ∷ []) h (d, k, refl)

abbrev pub AllTurn : (ℕ → Bool) → List Message → Map Question → Type 0
AllTurn b sends m = (q : ℕ) → TurnsAll q (b q) sends (is_unfinished (map.get m q))

abbrev pub Stands : (ℕ → Bool) → Moment → Type 0
Stands b d = AllTurn b d.effects.sends d.state.questions

-- ---- Questions

module _ (m : Map Question) (k : ℕ) where
  -- One is asked, by a free id.
  pub asked : (x : Question) → map.get m k ≡ None → x.finish ≡ finishing.Owed → (q : ℕ) → Asks (nat_eq q k) (is_unfinished (map.get m q)) (is_unfinished (map.get (map.insert m k x) q))
  asked x free owed q = subst (λ (o : Option Question). Asks (nat_eq q k) (is_unfinished (map.get m q)) (is_unfinished o)) (sym (get_put m k x q)) (by (nat_eq q k) refl)
    where
      by : (b : Bool) → nat_eq q k ≡ b → Asks b (is_unfinished (map.get m q)) (is_unfinished (cond b (Some x) (map.get m q)))
      by true e = (ap is_unfinished (ap (map.get m) (equal q k e) ∙ free), ap owes_finish owed)
      by false e = refl

  -- Its Finish is sent.
  pub ended : (x : Question) (r : Option Returned) → map.get m k ≡ Some x → x.finish ≡ finishing.Owed → (q : ℕ) → Ends (nat_eq q k) (is_unfinished (map.get m q)) (is_unfinished (map.get (closed_map m k x r) q))
  ended x r there owed q = by r
    where
      before : nat_eq q k ≡ true → is_unfinished (map.get m q) ≡ true
      before e = ap is_unfinished (ap (map.get m) (equal q k e) ∙ there) ∙ ap owes_finish owed

      put : (b : Bool) → nat_eq q k ≡ b → Ends b (is_unfinished (map.get m q)) (is_unfinished (cond b (Some (record x { finish = finishing.Sent })) (map.get m q)))
      put true e = (before e, refl)
      put false e = refl

      cut : (b : Bool) → nat_eq q k ≡ b → Ends b (is_unfinished (map.get m q)) (is_unfinished (cond b None (map.get m q)))
      cut true e = (before e, refl)
      cut false e = refl

      by : (r : Option Returned) → Ends (nat_eq q k) (is_unfinished (map.get m q)) (is_unfinished (map.get (closed_map m k x r) q))
      by None = subst (λ (o : Option Question). Ends (nat_eq q k) (is_unfinished (map.get m q)) (is_unfinished o)) (sym (get_put m k (record x { finish = finishing.Sent }) q)) (put (nat_eq q k) refl)
      by (Some said) = subst (λ (o : Option Question). Ends (nat_eq q k) (is_unfinished (map.get m q)) (is_unfinished o)) (sym (get_cut m k q)) (cut (nat_eq q k) refl)

  -- What is not to be finished goes, or what is said of it is kept.
  put_same : (x y : Question) → map.get m k ≡ Some x → owes_finish y.finish ≡ owes_finish x.finish → (q : ℕ) → is_unfinished (map.get m q) ≡ is_unfinished (map.get (map.insert m k y) q)
  put_same x y there same = at_put (λ j o. is_unfinished (map.get m j) ≡ is_unfinished o) m k y (ap is_unfinished there ∙ sym same) (λ j e. refl)

  cut_same : (x : Question) → map.get m k ≡ Some x → owes_finish x.finish ≡ false → (q : ℕ) → is_unfinished (map.get m q) ≡ is_unfinished (map.get (map.remove m k) q)
  cut_same x there none = at_cut (λ j o. is_unfinished (map.get m j) ≡ is_unfinished o) m k (ap is_unfinished there ∙ none) (λ j e. refl)

  closed_same : (x : Question) (r : Option Returned) → map.get m k ≡ Some x → owes_finish x.finish ≡ false → (q : ℕ) → is_unfinished (map.get m q) ≡ is_unfinished (map.get (closed_map m k x r) q)
  closed_same x None there none = put_same x (record x { finish = finishing.Sent }) there (sym none)
  closed_same x (Some said) there none = cut_same x there none

same_turn : (b : ℕ → Bool) (sends : List Message) (m n : Map Question) → ((q : ℕ) → is_unfinished (map.get m q) ≡ is_unfinished (map.get n q)) → AllTurn b sends m → AllTurn b sends n
same_turn b sends m n same h q = subst (λ (c : Bool). TurnsAll q (b q) sends c) (same q) (h q)

module _ (b : ℕ → Bool) (m : Map Question) where
  -- A message that is about no question.
  says : (sends : List Message) (said : Message) → ((q : ℕ) (c : Bool) → Turns q c said c) → AllTurn b sends m → AllTurn b (sends ++ said ∷ []) m
  says sends said other h q = one q (b q) _ _ sends said (h q) (other q (is_unfinished (map.get m q)))

releases : (q : ℕ) (c : Bool) (xs : List (ℕ × ℕ)) → TurnsAll q c (release_messages xs) c
releases q c [] = refl
releases q c (x ∷ xs) = (c, refl, releases q c xs)

-- ---- The first act

module _ (s : State) where
  abbrev pub own : ℕ → Bool
  own q = unfinished q s

  pub rests : AllTurn own [] s.questions
  rests q = refl

  pub started : (c : Command) (g : Granted) (new : Moment) → Starts (beginning s) c g new → Stands own new
  started c g new (first.Hosts o e a h) = rw h rests
  started c g new (first.Clones r x e f a h) = rw h rests
  started c g new (first.Drops r x e f a h) = rw h rests
  started c g new (first.AsksRoot k e f a h) = rw h (λ q. one q (own q) (own q) _ [] (message.Plain (plain.Bootstrap (record { 0 = k }))) refl (asked s.questions k _ f refl q))
  started c g new (first.CallsOut y x k t ds es e f j l n o a h) = rw h (λ q. one q (own q) (own q) _ [] (message.Plain (first.asking k t (request s y x) ds)) refl (asked s.questions k _ n refl q))
  started c g new (first.CallsHere k x o e f j l m a h) = rw h rests
  started c g new (first.CallsLater k x o y b e f j l m a h) = rw h rests
  started c g new (first.NamesField k path from e f a h) = rw h rests
  started c g new (first.Promises p e f a h) = rw h rests
  started c g new (first.Fixes p r x key calls e f j k a h) = rw h rests
  started c g new (first.Rejects p why key calls e f j a h) = rw h rests
  started c g new (first.Answers t payload refs o e f a h) = rw h rests
  started c g new (first.Fails t why o e f a h) = rw h rests
  started c g new (first.Finishes k from e f a h) = rw h rests
  started c g new (first.StaysPut r x e f a h) = rw h rests
  started c g new (first.Breaks r x reason e f j k a h) = rw h rests
  started c g new (first.Switches r x by n e f j k l m a h) = rw h rests
  started c g new (first.Turns r x by n t k e f j l m o w u a h) =
      rw h (says own s.questions [] (message.Plain (plain.Disembargo (record { target = t; context = SenderLoopback (record { 0 = k }) }))) (λ q c. refl) rests)

  -- It is a Return.
  no_waiver : (m : Message) (b : Back) → BringsNoneBack m → Brings s m b → b.waives ≡ false
  no_waiver m b none (ByReturn r e f) = ap (λ (x : Back). x.waives) f
  no_waiver m b none (ByEchoedRoot q e f) = absurd (subst BringsNoneBack e none)
  no_waiver m b none (ByEchoedCall c e f) = absurd (subst BringsNoneBack e none)

  kept_finish : (x : Question) (b : Back) → b.waives ≡ false → owes_finish (consume.answered x b.waives b.said).finish ≡ owes_finish x.finish
  kept_finish x b e = ap (λ (w : Bool). owes_finish (cond w (waived x.finish) x.finish)) e

  pub consumed : (m : Message) → BringsNoneBack m → (new : Moment) → Consumes (beginning s) m new → Stands own new
  consumed m none new (consume.OpensRoot q o e f j h) = rw h rests
  consumed m none new (consume.OpensCall c o e f j h) = rw h rests
  consumed m none new (consume.Loses b x e f j k h) = rw h (same_turn own [] s.questions _ (cut_same s.questions b.question x f (ap owes_finish k)) rests)
  consumed m none new (consume.ComesToCall b x c e f j k l h) = rw h (same_turn own [] s.questions _ (put_same s.questions b.question x (consume.answered x b.waives b.said) f (kept_finish x b (no_waiver m b none e))) rests)
  consumed m none new (consume.ComesToRelay b x u e f j k l h) = rw h (same_turn own [] s.questions _ (put_same s.questions b.question x (consume.answered x b.waives b.said) f (kept_finish x b (no_waiver m b none e))) rests)
  consumed m none new (consume.IsFinished x y e f j h) = rw h rests
  consumed m none new (consume.IsResolved r e h) = rw h rests
  consumed m none new (consume.IsReleased r e h) = rw h rests
  consumed m none new (consume.SendsBack t to x e f h) = rw h (says own s.questions [] (message.Plain (plain.Disembargo (record { target = to; context = ReceiverLoopback x }))) (λ q c. refl) rests)
  consumed m none new (consume.Lifts t x b e f h) = rw h rests
  consumed m none new (consume.SendsForeign p e f h) = rw h (says own s.questions [] (message.Unimplemented p) (λ q c. refl) rests)
  consumed m none new (consume.SendsOther n e h) = rw h (says own s.questions [] (message.Unimplemented (plain.Other n)) (λ q c. refl) rests)
  consumed m none new (consume.TakesBack r e h) = rw h rests
  consumed m none new (consume.Ignores r e h) = rw h rests

-- ---- The others

module _ (b : ℕ → Bool) where
  pub acted : (d new : Moment) → Stands b d → Act d new → Stands b new
  acted d new i (act.Delivers c n rest u e f h) = rw h i
  acted d new i (act.Waits c n rest p calls e f j h) = rw h i
  acted d new i (act.Holds c n rest u path x e f j h) = rw h i
  acted d new i (act.Relays c n rest k t ds es e f j z h) =
      rw h (λ q. one q (b q) _ _ d.effects.sends (message.Plain (first.asking k t c.request ds)) (i q) (asked d.state.questions k _ j refl q))
  acted d new i (act.Breaks c n rest reason e f h) = rw h i
  acted d new i (act.NextArisen u v rest e f h) = rw h i
  acted d new i (act.Knows u v fit x ps e f j k h) = rw h i
  acted d new i (act.Reports c v from e f h) = rw h i
  acted d new i (act.TellsNobody c v e f h) = rw h i
  acted d new i (act.MakesReturn q v x y ds es e f j k h) = rw h i
  acted d new i (act.SendsReturn x y e f j h) =
      rw h (says b d.state.questions d.effects.sends (message.Plain (plain.Return (record { answer = x.answer; release_param_caps = flag_for d.state (numbers y.taken); body = x.body }))) (λ q c. refl) i)
  acted d new i (act.Clears x e f h) = rw h i
  acted d new i (act.Lists x e h) = rw h i
  acted d new i (act.SendsResolve x rest k es e w f h) = rw h (says b d.state.questions d.effects.sends (message.Plain (resolve_message x.export (resolved.Cap k))) (λ q c. refl) i)
  acted d new i (act.SendsBroken x rest reason e f h) = rw h (says b d.state.questions d.effects.sends (message.Plain (resolve_message x.export (resolved.Exception (or_failed x.why reason)))) (λ q c. refl) i)
  acted d new i (act.PromiseGoes p to w e f h) = rw h i
  acted d new i (act.OutcomeGoes u x v w e f j k l h) = rw h i
  acted d new i (act.ImportGoes k x w e f h) = rw h i
  acted d new i (act.Sweeps over e f j h) = rw h i
  acted d new i (act.SendsFinish k x rest e f j z l h) =
      rw h (λ q. one q (b q) _ _ d.effects.sends (message.Plain (plain.Finish (record { question = record { 0 = k }; release_result_caps = flag_for d.state (got_of x.returned) }))) (i q) (ended d.state.questions k x x.returned f j q))
  acted d new i (act.Closes k x rest e f j z l h) = rw h (same_turn b d.effects.sends d.state.questions _ (closed_same d.state.questions k x x.returned f (ap owes_finish j)) i)
  acted d new i (act.Releases w e f h) = rw h (λ q. turns-append q (b q) _ _ d.effects.sends (release_messages (map.entries d.released)) (i q) (releases q _ (map.entries d.released)))

-- ---- Whole steps

module _ (s : State) where
  pub by_command : (c : Command) (g : Granted) (x : Effects) (t : State) → Does s c g x t → (q : ℕ) → TurnsAll q (unfinished q s) x.sends (unfinished q t)
  by_command c g x t h =
      let k = done (Stands (own s)) s c g x t (started s c g) (acted (own s)) h in
      at_end (λ (w : State) (y : Effects). (q : ℕ) → TurnsAll q (unfinished q s) y.sends (unfinished q w)) k.last x t k.ends k.holds

  pub by_message : (m : Message) (x : Effects) (t : State) → BringsNoneBack m → fault_of s m ≡ None → Handles s m x t → (q : ℕ) → TurnsAll q (unfinished q s) x.sends (unfinished q t)
  by_message m x t none free h =
      let k = handled (Stands (own s)) s m x t free (consumed s m none) (acted (own s)) h in
      at_end (λ (w : State) (y : Effects). (q : ℕ) → TurnsAll q (unfinished q s) y.sends (unfinished q w)) k.last x t k.ends k.holds
