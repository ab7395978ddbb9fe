-- Answers and Returns: each act keeps that an answer is finished by its Finish alone, and that none is owed of which a Return was sent.
use Rattle.std.proofs.Common.{◌≡◌, ◌⊎◌, inl, inr, ℕ, Bool, true, false, nat_eq, Option, None, Some, List, [], ◌∷◌, ◌++◌, refl, sym, ap, subst, ◌∙◌}
use Rattle.std.specs.FinMap as map
use Rattle.finite_maps.specs.Tally.{Map}
use Rattle.finite_maps.proofs.Tested.{at_put, at_cut, itself}
use Rattle.rpc_msg.specs.declared.ids.ExportId.{ExportId}
use Rattle.rpc_msg.specs.declared.ids.QuestionId.{QuestionId}
use Rattle.rpc_msg.specs.declared.message.Message.{Message}
use Rattle.rpc_msg.specs.declared.message.ReturnBody.{ReturnBody}
use Rattle.rpc_msg.specs.declared.message.Message.TheVariants as msg
use Rattle.rpc_msg.specs.declared.message.PlainMessage.TheVariants as plain
use Rattle.rpc_machine.specs.declared.command.Command.{Command}
use Rattle.rpc_machine.specs.declared.command.Granted.{Granted}
use Rattle.rpc_machine.specs.declared.entries.AnswerEntry.{AnswerEntry}
use Rattle.rpc_machine.specs.Flags.{flag_for}
use Rattle.rpc_machine.specs.Progress.{numbers}
use Rattle.rpc_machine.specs.Messages.{finished_map}
use Rattle.rpc_machine.specs.Settling.{returned_map}
use Rattle.rpc_machine.specs.State.{State}
use Rattle.laws_acts.specs.Moments.{Moment, beginning}
use Rattle.laws_acts.specs.FirstActs.{Starts}
use Rattle.laws_acts.specs.FirstActs as first
use Rattle.laws_acts.specs.MessageActs.{Consumes}
use Rattle.laws_acts.specs.MessageActs as message
use Rattle.laws_acts.specs.SmallActs.{Act, release_messages}
use Rattle.laws_acts.specs.SmallActs as act
use Rattle.laws_tasks.specs.TaskSteps.{IsFinished, IsOwed, ReturnsOf, IsReturned, IsFinishOf}

-- ---- Lists of messages

pub returned-append : (q : ℕ) (ms ns : List Message) → IsReturned q (ms ++ ns) → IsReturned q ms ⊎ IsReturned q ns
returned-append q [] ns is = inr is
returned-append q (m ∷ ms) ns (inl is) = inl (inl is)
returned-append q (m ∷ ms) ns (inr is) = by (returned-append q ms ns is)
  where
    by : IsReturned q ms ⊎ IsReturned q ns → IsReturned q (m ∷ ms) ⊎ IsReturned q ns
    by (inl z) = inl (inr z)
    by (inr z) = inr z

no_release : (q : ℕ) (xs : List (ℕ × ℕ)) → IsReturned q (release_messages xs) → ⊥
no_release q [] none = none
no_release q (x ∷ xs) (inl none) = none
no_release q (x ∷ xs) (inr is) = no_release q xs is

module _ (s : State) (came : Option Message) where
  abbrev Finishes : Map AnswerEntry → Type 0
  Finishes m = (q : ℕ) → IsFinished (map.get m q) → IsFinished (map.get s.answers q) ⊎ IsFinishOf q came

  abbrev StayFinished : Map AnswerEntry → Type 0
  StayFinished m = (q : ℕ) → IsFinished (map.get s.answers q) → (map.get m q ≡ None) ⊎ IsFinished (map.get m q)

  abbrev NoneOwed : List Message → Map AnswerEntry → Type 0
  NoneOwed ms m = (q : ℕ) → IsReturned q ms → IsOwed (map.get m q) → ⊥

  abbrev pub Owes : Moment → Type 0
  Owes d = Finishes d.state.answers × StayFinished d.state.answers × NoneOwed d.effects.sends d.state.answers

  -- More is sent that is no Return.
  also : (ms ns : List Message) (m : Map AnswerEntry) → ((q : ℕ) → IsReturned q ns → ⊥) → NoneOwed ms m → NoneOwed (ms ++ ns) m
  also ms ns m none all q is = by (returned-append q ms ns is)
    where
      by : IsReturned q ms ⊎ IsReturned q ns → IsOwed (map.get m q) → ⊥
      by (inl z) = all q z
      by (inr z) = absurd (none q z)

  -- That it is no Return.
  no_one : (q : ℕ) → ⊥ ⊎ ⊥ → ⊥
  no_one q (inl none) = none
  no_one q (inr none) = none

  module _ (m : Map AnswerEntry) (k : QuestionId) (a : AnswerEntry) (f : map.get m k.0 ≡ Some a) where
    finishes_on : (ids : List ℕ) (b : Bool) → a.finished ≡ b → Finishes m → Finishes (returned_map m k.0 a b ids)
    finishes_on ids true g all q = at_cut (λ j y. IsFinished y → IsFinished (map.get s.answers j) ⊎ IsFinishOf j came) m k.0 (λ none. absurd none) (λ j n is. all j is) q
    finishes_on ids false g all q =
        at_put (λ j y. IsFinished y → IsFinished (map.get s.answers j) ⊎ IsFinishOf j came) m k.0 _ (λ is. absurd (let bad : true ≡ false = sym is ∙ g in cc)) (λ j n is. all j is) q

    stays_on : (ids : List ℕ) (b : Bool) → a.finished ≡ b → StayFinished m → StayFinished (returned_map m k.0 a b ids)
    stays_on ids true g all q = at_cut (λ j y. IsFinished (map.get s.answers j) → (y ≡ None) ⊎ IsFinished y) m k.0 (λ is. inl refl) (λ j n is. all j is) q
    stays_on ids false g all q = at_put (λ j y. IsFinished (map.get s.answers j) → (y ≡ None) ⊎ IsFinished y) m k.0 _ (λ is. inr (subst (λ (o : Option AnswerEntry). IsFinished o) f (there is))) (λ j n is. all j is) q
      where
        there : IsFinished (map.get s.answers k.0) → IsFinished (map.get m k.0)
        there is = by (all k.0 is)
          where
            by : (map.get m k.0 ≡ None) ⊎ IsFinished (map.get m k.0) → IsFinished (map.get m k.0)
            by (inl none) = absurd (let bad : Some a ≡ None = sym f ∙ none in cc)
            by (inr z) = z

  module _ (ms : List Message) (m : Map AnswerEntry) (k : QuestionId) (a : AnswerEntry) (flag : Bool) (body : ReturnBody) where
    abbrev x : Message
    x = msg.Plain (plain.Return (record { answer = k; release_param_caps = flag; body = body }))

    other_returned : (j : ℕ) → nat_eq j k.0 ≡ false → IsReturned j (ms ++ x ∷ []) → IsReturned j ms
    other_returned j n is = by (returned-append j ms (x ∷ []) is)
      where
        by : IsReturned j ms ⊎ (ReturnsOf j x ⊎ ⊥) → IsReturned j ms
        by (inl z) = z
        by (inr (inl z)) = absurd (let e : nat_eq j k.0 ≡ true = subst (λ (i : ℕ). nat_eq i k.0 ≡ true) z (itself k.0) in let bad : true ≡ false = sym e ∙ n in cc)
        by (inr (inr none)) = absurd none

    none_owed_on : (ids : List ℕ) (b : Bool) → NoneOwed ms m → NoneOwed (ms ++ x ∷ []) (returned_map m k.0 a b ids)
    none_owed_on ids true all q = at_cut (λ j y. IsReturned j (ms ++ x ∷ []) → IsOwed y → ⊥) m k.0 (λ is none. none) (λ j n is. all j (other_returned j n is)) q
    none_owed_on ids false all q = at_put (λ j y. IsReturned j (ms ++ x ∷ []) → IsOwed y → ⊥) m k.0 _ (λ is owed. let bad : Some _ ≡ None = owed in cc) (λ j n is. all j (other_returned j n is)) q

  -- ---- Each act

  pub acted : (d new : Moment) → Owes d → Act d new → Owes new
  acted d new i (act.SendsReturn x a e f j h) =
      rw h (
        finishes_on d.state.answers x.answer a f _ a.finished refl i.0,
        stays_on d.state.answers x.answer a f _ a.finished refl i.1,
        none_owed_on d.effects.sends d.state.answers x.answer a (flag_for d.state (numbers a.taken)) x.body _ a.finished i.2,
      )
  acted d new i (act.Relays c n rest q t ds es e f j z h) = rw h (i.0, i.1, also d.effects.sends _ d.state.answers no_one i.2)
  acted d new i (act.SendsResolve x rest z es e w f h) = rw h (i.0, i.1, also d.effects.sends _ d.state.answers no_one i.2)
  acted d new i (act.SendsBroken x rest reason e f h) = rw h (i.0, i.1, also d.effects.sends _ d.state.answers no_one i.2)
  acted d new i (act.SendsFinish q x rest e f j z l h) = rw h (i.0, i.1, also d.effects.sends _ d.state.answers no_one i.2)
  acted d new i (act.Releases w e f h) = rw h (i.0, i.1, also d.effects.sends _ d.state.answers (λ q is. no_release q _ is) i.2)
  acted d new i (act.Delivers c n rest u e f h) = rw h i
  acted d new i (act.Waits c n rest p calls e f j h) = rw h i
  acted d new i (act.Holds c n rest u path x e f j h) = rw h i
  acted d new i (act.Breaks c n rest reason e f h) = rw h i
  acted d new i (act.NextArisen u v rest e f h) = rw h i
  acted d new i (act.Knows u v fit x ps e f j z h) = rw h i
  acted d new i (act.Reports c v from e f h) = rw h i
  acted d new i (act.TellsNobody c v e f h) = rw h i
  acted d new i (act.MakesReturn q v x b ds es e f j z h) = rw h i
  acted d new i (act.Clears x e f h) = rw h i
  acted d new i (act.Lists x e h) = rw h i
  acted d new i (act.PromiseGoes p to w e f h) = rw h i
  acted d new i (act.OutcomeGoes u x v w e f j z l h) = rw h i
  acted d new i (act.ImportGoes z x w e f h) = rw h i
  acted d new i (act.Sweeps over e f j h) = rw h i
  acted d new i (act.Closes q x rest e f j z l h) = rw h i

  -- ---- The first act

  still : Owes (beginning s)
  still = (λ q is. inl is, λ q is. inr is, λ q none. absurd none)

  pub started : (c : Command) (g : Granted) (new : Moment) → Starts (beginning s) c g new → Owes new
  started c g new (first.AsksRoot q e f a u) = rw u (still.0, still.1, λ q is. absurd (no_one q is))
  started c g new (first.CallsOut y x q t ds es e f j l m n a u) = rw u (still.0, still.1, λ q is. absurd (no_one q is))
  started c g new (first.Turns y x by n t z e f j l m o w q a u) = rw u (still.0, still.1, λ q is. absurd (no_one q is))
  started c g new (first.CallsHere y x o e f j l m a u) = rw u still
  started c g new (first.CallsLater y x o z b e f j l m a u) = rw u still
  started c g new (first.Hosts o e a u) = rw u still
  started c g new (first.Clones y x e f a u) = rw u still
  started c g new (first.NamesField y path from e f a u) = rw u still
  started c g new (first.Promises p e f a u) = rw u still
  started c g new (first.Drops y x e f a u) = rw u still
  started c g new (first.Fixes p y x key calls e f j l a u) = rw u still
  started c g new (first.Rejects p why key calls e f j a u) = rw u still
  started c g new (first.Answers t payload refs o e f a u) = rw u still
  started c g new (first.Fails t why o e f a u) = rw u still
  started c g new (first.Finishes y from e f a u) = rw u still
  started c g new (first.StaysPut y x e f a u) = rw u still
  started c g new (first.Breaks y x reason e f j l a u) = rw u still
  started c g new (first.Switches y x by n e f j l m o a u) = rw u still

  -- ---- Answers that open, and that are finished

  module _ (k : ℕ) where
    opens_finishes : (a : AnswerEntry) → a.finished ≡ false → Finishes (map.insert s.answers k a)
    opens_finishes a f q = at_put (λ j y. IsFinished y → IsFinished (map.get s.answers j) ⊎ IsFinishOf j came) s.answers k a (λ is. absurd (let bad : true ≡ false = sym is ∙ f in cc)) (λ j n is. inl is) q

    opens_stays : (a : AnswerEntry) → map.get s.answers k ≡ None → StayFinished (map.insert s.answers k a)
    opens_stays a f q = at_put (λ j y. IsFinished (map.get s.answers j) → (y ≡ None) ⊎ IsFinished y) s.answers k a (λ is. absurd (subst IsFinished f is)) (λ j n is. inr is) q

    over_finishes : (a : AnswerEntry) (r : Option (List ExportId)) → IsFinishOf k came → Finishes (finished_map s.answers k a r)
    over_finishes a None c q = at_put (λ j y. IsFinished y → IsFinished (map.get s.answers j) ⊎ IsFinishOf j came) s.answers k _ (λ is. inr c) (λ j n is. inl is) q
    over_finishes a (Some ids) c q = at_cut (λ j y. IsFinished y → IsFinished (map.get s.answers j) ⊎ IsFinishOf j came) s.answers k (λ none. absurd none) (λ j n is. inl is) q

    over_stays : (a : AnswerEntry) (r : Option (List ExportId)) → StayFinished (finished_map s.answers k a r)
    over_stays a None q = at_put (λ j y. IsFinished (map.get s.answers j) → (y ≡ None) ⊎ IsFinished y) s.answers k _ (λ is. inr refl) (λ j n is. inr is) q
    over_stays a (Some ids) q = at_cut (λ j y. IsFinished (map.get s.answers j) → (y ≡ None) ⊎ IsFinished y) s.answers k (λ is. inl refl) (λ j n is. inr is) q

-- A message comes.
module _ (s : State) (m : Message) where
  calm : Owes s (Some m) (beginning s)
  calm = still s (Some m)

  pub consumed : (new : Moment) → Consumes (beginning s) m new → Owes s (Some m) new
  consumed new (message.OpensRoot p o e f j u) = rw u (opens_finishes s (Some m) p.0 _ refl, opens_stays s (Some m) p.0 _ f, λ q none. absurd none)
  consumed new (message.OpensCall c o e f j u) = rw u (opens_finishes s (Some m) c.question.0 _ refl, opens_stays s (Some m) c.question.0 _ f, λ q none. absurd none)
  consumed new (message.IsFinished x z e f j u) = rw u (over_finishes s (Some m) x.question.0 z z.returned (x, ap Some e, refl), over_stays s (Some m) x.question.0 z z.returned, λ q none. absurd none)
  consumed new (message.SendsBack t to x e f u) = rw u (calm.0, calm.1, λ q is. absurd (no_one s (Some m) q is))
  consumed new (message.SendsForeign p e f u) = rw u (calm.0, calm.1, λ q is. absurd (no_one s (Some m) q is))
  consumed new (message.SendsOther n e u) = rw u (calm.0, calm.1, λ q is. absurd (no_one s (Some m) q is))
  consumed new (message.Loses b x e f j k u) = rw u calm
  consumed new (message.ComesToCall b x c e f j k l u) = rw u calm
  consumed new (message.ComesToRelay b x o e f j k l u) = rw u calm
  consumed new (message.IsResolved r e u) = rw u calm
  consumed new (message.IsReleased r e u) = rw u calm
  consumed new (message.Lifts t x b e f u) = rw u calm
  consumed new (message.TakesBack r e u) = rw u calm
  consumed new (message.Ignores r e u) = rw u calm
