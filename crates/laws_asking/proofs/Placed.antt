-- At each moment of a step: what was unfinished at some place among the messages so far has an entry, or had one before the step.
use Rattle.std.proofs.Common.{◌≡◌, inl, ℕ, Bool, true, List, [], ◌∷◌, ◌++◌, None, Some, IsSome, refl, sym, subst, ◌∙◌}
use Rattle.std.specs.FinMap as map
use Rattle.finite_maps.specs.Tally.{Map}
use Rattle.finite_maps.proofs.Tested.{at_cut}
use Rattle.rpc_msg.specs.declared.message.DisembargoContext.TheVariants.{SenderLoopback, ReceiverLoopback}
use Rattle.rpc_msg.specs.declared.message.ResolvedTo.TheVariants as resolved
use Rattle.rpc_msg.specs.declared.message.PlainMessage.TheVariants as plain
use Rattle.rpc_msg.specs.declared.message.Message.{Message}
use Rattle.rpc_msg.specs.declared.message.Message.TheVariants as message
use Rattle.rpc_machine.specs.declared.command.Command.{Command}
use Rattle.rpc_machine.specs.declared.command.Granted.{Granted}
use Rattle.rpc_machine.specs.declared.command.Effects.{Effects}
use Rattle.rpc_machine.specs.declared.entries.Role.TheVariants as role
use Rattle.rpc_machine.specs.declared.entries.Question.{Question}
use Rattle.rpc_machine.specs.State.{State}
use Rattle.rpc_machine.specs.Commands.{request}
use Rattle.rpc_machine.specs.Flags.{flag_for}
use Rattle.rpc_machine.specs.Progress.{numbers}
use Rattle.rpc_machine.specs.Settling.{or_failed, resolve_message}
use Rattle.rpc_machine.specs.Sweeping.{got_of}
use Rattle.rpc_machine.specs.Faults.{fault_of}
use Rattle.rpc_machine.specs.Steps.{Does, Handles}
use Rattle.laws_acts.specs.Moments.{Moment, beginning}
use Rattle.laws_acts.specs.FirstActs.{Starts}
use Rattle.laws_acts.specs.FirstActs as first
use Rattle.laws_acts.specs.MessageActs.{Consumes}
use Rattle.laws_acts.specs.MessageActs as consume
use Rattle.laws_acts.specs.SmallActs.{Act, release_messages}
use Rattle.laws_acts.specs.SmallActs as act
use Rattle.laws_acts.proofs.EachStep.{done, handled, at_end}
use Rattle.laws_asking.specs.Turns.{BringsNoneBack, Turns, is_unfinished}
use Rattle.laws_asking.proofs.Along.{AllAlong, AllNew, Along, IsNew, along_one, along_others, along_same, closed_new, closed_stays, cut_stays, is_there, put_new, put_stays}
use Rattle.laws_asking.proofs.Asking.{Stands, acted, asked, consumed, ended, own, rests, started}

releases : (xs : List (ℕ × ℕ)) (W : Type 0) (q : ℕ) (c : Bool) → (c ≡ true → W) → Along W q c (release_messages xs)
releases [] W q c f = f
releases (x ∷ xs) W q c f = (f, λ d e. releases xs W q d (λ g. f (sym e ∙ g)))

module _ (s : State) where
  abbrev before : Map Question
  before = s.questions

  abbrev Rest : Moment → Type 0
  Rest d = AllNew before d.state.questions × AllAlong before (own s) d.effects.sends d.state.questions

  -- ---- The first act

  all_new : AllNew before before
  all_new q e = subst IsNew (sym e) tt

  all_along : AllAlong before (own s) [] before
  all_along q e = inl (is_there (map.get before q) e)

  at_first : Rest (beginning s)
  at_first = (all_new, all_along)

  -- A message that is about no question.
  says : (said : Message) → ((q : ℕ) (c : Bool) → Turns q c said c) → Rest (beginning s) → AllNew before before × AllAlong before (own s) (said ∷ []) before
  says said other r = (r.0, along_one before (own s) [] before before (rests s) (λ q z. z) said (λ q. other q (is_unfinished (map.get before q))) r.1)

  begun : (c : Command) (g : Granted) (new : Moment) → Starts (beginning s) c g new → Rest new
  begun c g new (first.Hosts o e a h) = rw h at_first
  begun c g new (first.Clones r x e f a h) = rw h at_first
  begun c g new (first.Drops r x e f a h) = rw h at_first
  begun c g new (first.AsksRoot k e f a h) =
      rw h (
        put_new before before k (first.asked (role.Direct (record { 0 = s.next_call })) []) (λ i. refl) all_new,
        along_one before (own s) [] before _ (rests s) (put_stays before before k (first.asked (role.Direct (record { 0 = s.next_call })) [])) (message.Plain (plain.Bootstrap (record { 0 = k }))) (λ q. asked before k _ f refl q) all_along,
      )
  begun c g new (first.CallsOut y x k t ds es e f j l n o a h) =
      rw h (
        put_new before before k (first.asked (role.Direct (record { 0 = s.next_call })) ds) (λ i. refl) all_new,
        along_one before (own s) [] before _ (rests s) (put_stays before before k (first.asked (role.Direct (record { 0 = s.next_call })) ds)) (message.Plain (first.asking k t (request s y x) ds)) (λ q. asked before k _ n refl q) all_along,
      )
  begun c g new (first.CallsHere k x o e f j l m a h) = rw h at_first
  begun c g new (first.CallsLater k x o y b e f j l m a h) = rw h at_first
  begun c g new (first.NamesField k path from e f a h) = rw h at_first
  begun c g new (first.Promises p e f a h) = rw h at_first
  begun c g new (first.Fixes p r x key calls e f j k a h) = rw h at_first
  begun c g new (first.Rejects p why key calls e f j a h) = rw h at_first
  begun c g new (first.Answers t payload refs o e f a h) = rw h at_first
  begun c g new (first.Fails t why o e f a h) = rw h at_first
  begun c g new (first.Finishes k from e f a h) = rw h at_first
  begun c g new (first.StaysPut r x e f a h) = rw h at_first
  begun c g new (first.Breaks r x reason e f j k a h) = rw h at_first
  begun c g new (first.Switches r x by n e f j k l m a h) = rw h at_first
  begun c g new (first.Turns r x by n t k e f j l m o w u a h) =
      rw h (says (message.Plain (plain.Disembargo (record { target = t; context = SenderLoopback (record { 0 = k }) }))) (λ q c. refl) at_first)

  -- What came back was there.
  comes_back : (k : ℕ) (x y : Question) → map.get before k ≡ Some x → AllNew before (map.insert before k y) × AllAlong before (own s) [] (map.insert before k y)
  comes_back k x y there =
      (put_new before before k y (λ i. absurd (let bad : Some x ≡ None = sym there ∙ i in cc)) all_new, along_same before (own s) [] before _ (rests s) (put_stays before before k y) all_along)

  goes : (k : ℕ) (x : Question) → map.get before k ≡ Some x → AllNew before (map.remove before k) × AllAlong before (own s) [] (map.remove before k)
  goes k x there =
      (at_cut (λ j o. map.get before j ≡ None → IsNew o) before k (λ i. tt) (λ j f. all_new j), along_same before (own s) [] before _ (rests s) (cut_stays before before k (subst IsSome (sym there) refl)) all_along)

  taken : (m : Message) (new : Moment) → Consumes (beginning s) m new → Rest new
  taken m new (consume.OpensRoot q o e f j h) = rw h at_first
  taken m new (consume.OpensCall c o e f j h) = rw h at_first
  taken m new (consume.Loses b x e f j k h) = rw h (goes b.question x f)
  taken m new (consume.ComesToCall b x c e f j k l h) = rw h (comes_back b.question x (consume.answered x b.waives b.said) f)
  taken m new (consume.ComesToRelay b x u e f j k l h) = rw h (comes_back b.question x (consume.answered x b.waives b.said) f)
  taken m new (consume.IsFinished x y e f j h) = rw h at_first
  taken m new (consume.IsResolved r e h) = rw h at_first
  taken m new (consume.IsReleased r e h) = rw h at_first
  taken m new (consume.SendsBack t to x e f h) = rw h (says (message.Plain (plain.Disembargo (record { target = to; context = ReceiverLoopback x }))) (λ q c. refl) at_first)
  taken m new (consume.Lifts t x b e f h) = rw h at_first
  taken m new (consume.SendsForeign p e f h) = rw h (says (message.Unimplemented p) (λ q c. refl) at_first)
  taken m new (consume.SendsOther n e h) = rw h (says (message.Unimplemented (plain.Other n)) (λ q c. refl) at_first)
  taken m new (consume.TakesBack r e h) = rw h at_first
  taken m new (consume.Ignores r e h) = rw h at_first

  -- ---- The others

  module _ (d : Moment) (i : Stands (own s) d) (r : Rest d) where
    abbrev now : Map Question
    now = d.state.questions

    tells : (said : Message) → ((q : ℕ) (c : Bool) → Turns q c said c) → AllNew before now × AllAlong before (own s) (d.effects.sends ++ said ∷ []) now
    tells said other = (r.0, along_one before (own s) d.effects.sends now now i (λ q z. z) said (λ q. other q (is_unfinished (map.get now q))) r.1)

    goes_on : (new : Moment) → Act d new → Rest new
    goes_on new (act.Delivers c n rest u e f h) = rw h r
    goes_on new (act.Waits c n rest p calls e f j h) = rw h r
    goes_on new (act.Holds c n rest u path x e f j h) = rw h r
    goes_on new (act.Relays c n rest k t ds es e f j z h) =
        rw h (
          put_new before now k (first.asked (role.Relay c.outcome) ds) (λ y. refl) r.0,
          along_one before (own s) d.effects.sends now _ i (put_stays before now k (first.asked (role.Relay c.outcome) ds)) (message.Plain (first.asking k t c.request ds)) (λ q. asked now k _ j refl q) r.1,
        )
    goes_on new (act.Breaks c n rest reason e f h) = rw h r
    goes_on new (act.NextArisen u v rest e f h) = rw h r
    goes_on new (act.Knows u v fit x ps e f j k h) = rw h r
    goes_on new (act.Reports c v from e f h) = rw h r
    goes_on new (act.TellsNobody c v e f h) = rw h r
    goes_on new (act.MakesReturn q v x y ds es e f j k h) = rw h r
    goes_on new (act.SendsReturn x y e f j h) = rw h (tells (message.Plain (plain.Return (record { answer = x.answer; release_param_caps = flag_for d.state (numbers y.taken); body = x.body }))) (λ q c. refl))
    goes_on new (act.Clears x e f h) = rw h r
    goes_on new (act.Lists x e h) = rw h r
    goes_on new (act.SendsResolve x rest k es e w f h) = rw h (tells (message.Plain (resolve_message x.export (resolved.Cap k))) (λ q c. refl))
    goes_on new (act.SendsBroken x rest reason e f h) = rw h (tells (message.Plain (resolve_message x.export (resolved.Exception (or_failed x.why reason)))) (λ q c. refl))
    goes_on new (act.PromiseGoes p to w e f h) = rw h r
    goes_on new (act.OutcomeGoes u x v w e f j k l h) = rw h r
    goes_on new (act.ImportGoes k x w e f h) = rw h r
    goes_on new (act.Sweeps over e f j h) = rw h r
    goes_on new (act.SendsFinish k x rest e f j z l h) =
        rw h (
          closed_new before now k x x.returned refl r.0,
          along_one before (own s) d.effects.sends now _ i (closed_stays before now k x x.returned refl f r.0) (message.Plain (plain.Finish (record { question = record { 0 = k }; release_result_caps = flag_for d.state (got_of x.returned) }))) (λ q. ended now k x x.returned f j q) r.1,
        )
    goes_on new (act.Closes k x rest e f j z l h) =
        rw h (closed_new before now k x x.returned refl r.0, along_same before (own s) d.effects.sends now _ i (closed_stays before now k x x.returned refl f r.0) r.1)
    goes_on new (act.Releases w e f h) = rw h (r.0, along_others before (own s) d.effects.sends now now i (λ q z. z) (release_messages (map.entries d.released)) (releases (map.entries d.released)) r.1)

  abbrev Placed : Moment → Type 0
  Placed d = Stands (own s) d × Rest d

  placed : (d new : Moment) → Placed d → Act d new → Placed new
  placed d new i a = (acted (own s) d new i.0 a, goes_on d i.0 i.1 new a)

  abbrev IsPlaced : Effects → State → Type 0
  IsPlaced x t = AllAlong before (own s) x.sends t.questions

  pub command_placed : (c : Command) (g : Granted) (x : Effects) (t : State) → Does s c g x t → IsPlaced x t
  command_placed c g x t h =
      let k = done Placed s c g x t (λ new j. (started s c g new j, begun c g new j)) placed h in
      at_end (λ (w : State) (y : Effects). IsPlaced y w) k.last x t k.ends k.holds.1.1

  pub message_placed : (m : Message) (x : Effects) (t : State) → BringsNoneBack m → fault_of s m ≡ None → Handles s m x t → IsPlaced x t
  message_placed m x t none free h =
      let k = handled Placed s m x t free (λ new j. (consumed s m none new j, taken m new j)) placed h in
      at_end (λ (w : State) (y : Effects). IsPlaced y w) k.last x t k.ends k.holds.1.1
