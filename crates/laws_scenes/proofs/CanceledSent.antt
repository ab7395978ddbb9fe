-- A step sends a canceled Return only as it closes the answer, and opens none that was closed before.
use Rattle.std.specs.FinMap as map
use Rattle.std.proofs.Common.{◌≡◌, ℕ, Bool, true, false, List, [], ◌∷◌, ◌++◌, Option, None, Some, refl, cond, sym, ap, subst, ◌∙◌}
use Rattle.finite_maps.specs.Tally.{Map}
use Rattle.finite_maps.proofs.Tested.{at_put, at_cut, get_cut, itself}
use Rattle.rpc_msg.specs.declared.message.Message.{Message}
use Rattle.rpc_msg.specs.declared.message.Message.TheVariants as message
use Rattle.rpc_msg.specs.declared.message.PlainMessage.{PlainMessage}
use Rattle.rpc_msg.specs.declared.message.PlainMessage.TheVariants as plain
use Rattle.rpc_msg.specs.declared.message.ReturnBody.{ReturnBody}
use Rattle.rpc_msg.specs.declared.message.ReturnBody.TheVariants as body
use Rattle.rpc_msg.specs.declared.parts.Descriptor.{Descriptor}
use Rattle.rpc_machine.specs.declared.calls.Value.{Value}
use Rattle.rpc_machine.specs.declared.calls.Value.TheVariants as value
use Rattle.rpc_machine.specs.declared.command.Command.{Command}
use Rattle.rpc_machine.specs.declared.command.Granted.{Granted}
use Rattle.rpc_machine.specs.declared.command.Effects.{Effects}
use Rattle.rpc_machine.specs.declared.entries.AnswerEntry.{AnswerEntry}
use Rattle.rpc_machine.specs.declared.entries.Export.{Export}
use Rattle.rpc_machine.specs.State.{State}
use Rattle.rpc_machine.specs.Settling.{returned_map}
use Rattle.rpc_machine.specs.Faults.{fault_of}
use Rattle.rpc_machine.specs.Steps.{Does, Handles}
use Rattle.laws_acts.specs.Moments.{Moment, Saying, beginning}
use Rattle.laws_acts.specs.GoingOut.{Says}
use Rattle.laws_acts.specs.FirstActs.{Starts}
use Rattle.laws_acts.specs.FirstActs as first
use Rattle.laws_acts.specs.MessageActs.{Consumes}
use Rattle.laws_acts.specs.MessageActs as message_act
use Rattle.laws_acts.specs.SmallActs.{Act, release_messages}
use Rattle.laws_acts.specs.SmallActs as act
use Rattle.laws_acts.proofs.EachStep.{at_end, done, handled}

-- ---- Closed answers

abbrev pub IfCanceled : Type 0 → ReturnBody → Type 0
IfCanceled P (body.Results payload ds) = Unit {0}
IfCanceled P (body.Exception exception) = Unit {0}
IfCanceled P body.Canceled = P

-- The answer of a canceled Return is not there.
abbrev pub IsClosed : Map AnswerEntry → PlainMessage → Type 0
IsClosed answers (plain.Abort exception) = Unit {0}
IsClosed answers (plain.Bootstrap q) = Unit {0}
IsClosed answers (plain.Call c) = Unit {0}
IsClosed answers (plain.Return r) = IfCanceled (map.get answers r.answer.0 ≡ None) r.body
IsClosed answers (plain.Finish f) = Unit {0}
IsClosed answers (plain.Resolve r) = Unit {0}
IsClosed answers (plain.Release r) = Unit {0}
IsClosed answers (plain.Disembargo d) = Unit {0}
IsClosed answers (plain.Other n) = Unit {0}

abbrev pub AreClosed : Map AnswerEntry → List Message → Type 0
AreClosed answers [] = Unit {0}
AreClosed answers (message.Plain m ∷ ms) = IsClosed answers m × AreClosed answers ms
AreClosed answers (message.Unimplemented m ∷ ms) = AreClosed answers ms

pub if_canceled : (P Q : Type 0) (b : ReturnBody) → (P → Q) → IfCanceled P b → IfCanceled Q b
if_canceled P Q (body.Results payload ds) f h = tt
if_canceled P Q (body.Exception exception) f h = tt
if_canceled P Q body.Canceled f h = f h

module _ (answers later : Map AnswerEntry) (f : (q : ℕ) → map.get answers q ≡ None → map.get later q ≡ None) where
  one_left : (m : PlainMessage) → IsClosed answers m → IsClosed later m
  one_left (plain.Abort exception) h = tt
  one_left (plain.Bootstrap q) h = tt
  one_left (plain.Call c) h = tt
  one_left (plain.Return r) h = if_canceled _ _ r.body (f r.answer.0) h
  one_left (plain.Finish x) h = tt
  one_left (plain.Resolve r) h = tt
  one_left (plain.Release r) h = tt
  one_left (plain.Disembargo d) h = tt
  one_left (plain.Other n) h = tt

  all_left : (ms : List Message) → AreClosed answers ms → AreClosed later ms
  all_left [] h = tt
  all_left (message.Plain m ∷ ms) h = (one_left m h.0, all_left ms h.1)
  all_left (message.Unimplemented m ∷ ms) h = all_left ms h

module _ (answers : Map AnswerEntry) where
  pub joined : (xs ys : List Message) → AreClosed answers xs → AreClosed answers ys → AreClosed answers (xs ++ ys)
  joined [] ys h k = k
  joined (message.Plain m ∷ xs) ys h k = (h.0, joined xs ys h.1 k)
  joined (message.Unimplemented m ∷ xs) ys h k = joined xs ys h k

  releases : (xs : List (ℕ × ℕ)) → AreClosed answers (release_messages xs)
  releases [] = tt
  releases (x ∷ xs) = (tt, releases xs)

-- ---- A moment

abbrev IsFinished : Option AnswerEntry → Type 0
IsFinished None = Unit {0}
IsFinished (Some a) = a.finished ≡ true

abbrev SaysSo : Map AnswerEntry → Option Saying → Type 0
SaysSo answers None = Unit {0}
SaysSo answers (Some x) = IfCanceled (IsFinished (map.get answers x.answer.0)) x.body

abbrev IsSo : Moment → Type 0
IsSo d = AreClosed d.state.answers d.effects.sends × SaysSo d.state.answers d.saying

-- What is said is canceled only where the Finish has come.
said_so : (s : State) (o : Option AnswerEntry) (a : AnswerEntry) (finished : Bool) (v : Value) (b : ReturnBody) (ds : List Descriptor) (es : Map Export) → o ≡ Some a → a.finished ≡ finished → Says s finished v b ds es → IfCanceled (IsFinished o) b
said_so s o a true v b ds es e f h = subst (λ (x : ReturnBody). IfCanceled (IsFinished o) x) (sym h.0) (subst IsFinished (sym e) f)
said_so s o a false (value.Exception exception) b ds es e f h = subst (λ (x : ReturnBody). IfCanceled (IsFinished o) x) (sym h.0) tt
said_so s o a false (value.Results payload caps) b ds es e f h = subst (λ (x : ReturnBody). IfCanceled (IsFinished o) x) (sym h.0) tt

-- A Return was sent of that answer.
module _ (answers : Map AnswerEntry) (k : ℕ) (a : AnswerEntry) (there : map.get answers k ≡ Some a) (ids : List ℕ) where
  none_opens : (b : Bool) (q : ℕ) → map.get answers q ≡ None → map.get (returned_map answers k a b ids) q ≡ None
  none_opens true q = at_cut (λ j o. map.get answers j ≡ None → o ≡ None) answers k (λ g. refl) (λ j g i. i) q
  none_opens false q = at_put (λ j o. map.get answers j ≡ None → o ≡ None) answers k _ (λ g. absurd (let bad : Some a ≡ None = sym there ∙ g in cc)) (λ j g i. i) q

  closes : (b : Bool) → b ≡ true → map.get (returned_map answers k a b ids) k ≡ None
  closes true e = get_cut answers k k ∙ ap (λ (c : Bool). cond c None (map.get answers k)) (itself k)
  closes false e = cc

-- ---- The acts

returned_so : (answers : Map AnswerEntry) (x : Saying) (a : AnswerEntry) (ids : List ℕ) (flag : Bool) (sends : List Message) → map.get answers x.answer.0 ≡ Some a → AreClosed answers sends → SaysSo answers (Some x)
    → AreClosed (returned_map answers x.answer.0 a a.finished ids) (sends ++ message.Plain (plain.Return (record { answer = x.answer; release_param_caps = flag; body = x.body })) ∷ [])
returned_so answers x a ids flag sends e c y =
    let new : Map AnswerEntry = returned_map answers x.answer.0 a a.finished ids in
    joined new sends _ (all_left answers new (none_opens answers x.answer.0 a e ids a.finished) sends c)
    (if_canceled _ _ x.body (λ (i : IsFinished (map.get answers x.answer.0)). closes answers x.answer.0 a e ids a.finished (subst IsFinished e i)) y, tt)

started : (s : State) (c : Command) (g : Granted) (new : Moment) → Starts (beginning s) c g new → IsSo new
started s c g new (first.Hosts o e a h) = rw h (tt, tt)
started s c g new (first.Clones r x e f a h) = rw h (tt, tt)
started s c g new (first.Drops r x e f a h) = rw h (tt, tt)
started s c g new (first.AsksRoot q e f a h) = rw h ((tt, tt), tt)
started s c g new (first.CallsOut k x q t ds es e f j w l m a h) = rw h ((tt, tt), tt)
started s c g new (first.CallsHere k x u e f j w l a h) = rw h (tt, tt)
started s c g new (first.CallsLater k x u z b e f j l m a h) = rw h (tt, tt)
started s c g new (first.NamesField k path from e f a h) = rw h (tt, tt)
started s c g new (first.Promises p e f a h) = rw h (tt, tt)
started s c g new (first.Fixes p r x key calls e f j k a h) = rw h (tt, tt)
started s c g new (first.Rejects p why key calls e f j a h) = rw h (tt, tt)
started s c g new (first.Answers t payload refs u e f a h) = rw h (tt, tt)
started s c g new (first.Fails t why u e f a h) = rw h (tt, tt)
started s c g new (first.Finishes k from e f a h) = rw h (tt, tt)
started s c g new (first.StaysPut r x e f a h) = rw h (tt, tt)
started s c g new (first.Breaks r x reason e f j k a h) = rw h (tt, tt)
started s c g new (first.Switches r x by n e f j k l m a h) = rw h (tt, tt)
started s c g new (first.Turns r x by n t k e f j l m w u v a h) = rw h ((tt, tt), tt)

consumed : (s : State) (m : Message) (new : Moment) → Consumes (beginning s) m new → IsSo new
consumed s m new (message_act.OpensRoot q u e f j h) = rw h (tt, tt)
consumed s m new (message_act.OpensCall c u e f j h) = rw h (tt, tt)
consumed s m new (message_act.Loses b x e f j k h) = rw h (tt, tt)
consumed s m new (message_act.ComesToCall b x c e f j k l h) = rw h (tt, tt)
consumed s m new (message_act.ComesToRelay b x u e f j k l h) = rw h (tt, tt)
consumed s m new (message_act.IsFinished x y e f j h) = rw h (tt, tt)
consumed s m new (message_act.IsResolved r e h) = rw h (tt, tt)
consumed s m new (message_act.IsReleased r e h) = rw h (tt, tt)
consumed s m new (message_act.SendsBack t to x e f h) = rw h ((tt, tt), tt)
consumed s m new (message_act.Lifts t x b e f h) = rw h (tt, tt)
consumed s m new (message_act.SendsForeign p e f h) = rw h (tt, tt)
consumed s m new (message_act.SendsOther n e h) = rw h (tt, tt)
consumed s m new (message_act.TakesBack r e h) = rw h (tt, tt)
consumed s m new (message_act.Ignores r e h) = rw h (tt, tt)

acted : (d new : Moment) → IsSo d → Act d new → IsSo new
acted d new i (act.Delivers c n rest u e f h) = rw h i
acted d new i (act.Waits c n rest p calls e f j h) = rw h i
acted d new i (act.Holds c n rest u path x e f j h) = rw h i
acted d new i (act.Relays c n rest q t ds es e f j k h) = rw h (joined d.state.answers d.effects.sends _ i.0 (tt, tt), i.1)
acted d new i (act.Breaks c n rest reason e f h) = rw h i
acted d new i (act.NextArisen u v rest e f h) = rw h i
acted d new i (act.Knows u v fit x ps e f j k h) = rw h i
acted d new i (act.Reports c v from e f h) = rw h i
acted d new i (act.TellsNobody c v e f h) = rw h i
acted d new i (act.MakesReturn q v a b ds es e f g j h) = rw h (i.0, said_so d.state (map.get d.state.answers q.0) a a.finished v b ds es g refl j)
acted d new i (act.SendsReturn x a e f j h) = rw h (returned_so d.state.answers x a _ _ d.effects.sends f i.0 (subst (λ (o : Option Saying). SaysSo d.state.answers o) e i.1), tt)
acted d new i (act.Clears x e f h) = rw h i
acted d new i (act.Lists x e h) = rw h i
acted d new i (act.SendsResolve x rest k es e w f h) = rw h (joined d.state.answers d.effects.sends _ i.0 (tt, tt), i.1)
acted d new i (act.SendsBroken x rest reason e f h) = rw h (joined d.state.answers d.effects.sends _ i.0 (tt, tt), i.1)
acted d new i (act.PromiseGoes p to w e f h) = rw h i
acted d new i (act.OutcomeGoes u x v w e f j k l h) = rw h i
acted d new i (act.ImportGoes k x w e f h) = rw h i
acted d new i (act.Sweeps over e f j h) = rw h i
acted d new i (act.SendsFinish q x rest e f j k l h) = rw h (joined d.state.answers d.effects.sends _ i.0 (tt, tt), i.1)
acted d new i (act.Closes q x rest e f j k l h) = rw h i
acted d new i (act.Releases w e f h) = rw h (joined d.state.answers d.effects.sends _ i.0 (releases d.state.answers (map.entries d.released)), i.1)

-- ---- A step

pub does : (s : State) (c : Command) (g : Granted) (x : Effects) (t : State) → Does s c g x t → AreClosed t.answers x.sends
does s c g x t h = let k = done IsSo s c g x t (λ new i. started s c g new i) acted h in at_end (λ u y. AreClosed u.answers y.sends) k.last x t k.ends (let a = k.holds in a.0)

pub handles : (s : State) (m : Message) (x : Effects) (t : State) → fault_of s m ≡ None → Handles s m x t → AreClosed t.answers x.sends
handles s m x t free h = let k = handled IsSo s m x t free (λ new i. consumed s m new i) acted h in at_end (λ u y. AreClosed u.answers y.sends) k.last x t k.ends (let a = k.holds in a.0)
