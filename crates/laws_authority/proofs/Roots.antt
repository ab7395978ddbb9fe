-- In the step of a Bootstrap nothing is delivered: nobody waits for its outcome.
use Rattle.std.proofs.Common.{◌≡◌, ℕ, List, [], ◌∷◌, Option, None, Some, refl, sym, ap, subst, ◌∙◌}
use Rattle.std.specs.FinMap as map
use Rattle.finite_maps.specs.Tally.{Map}
use Rattle.finite_maps.proofs.Gets.{get-insert_same}
use Rattle.finite_maps.proofs.Tested.{at_put, at_cut}
use Rattle.rpc_msg.specs.declared.ids.ObjectId.{ObjectId}
use Rattle.rpc_msg.specs.declared.ids.QuestionId.{QuestionId}
use Rattle.rpc_msg.specs.declared.message.PlainMessage.TheVariants as plain
use Rattle.rpc_msg.specs.declared.message.Message.{Message}
use Rattle.rpc_msg.specs.declared.message.Message.TheVariants as message
use Rattle.rpc_machine.specs.declared.node.Node.{Node}
use Rattle.rpc_machine.specs.declared.calls.WaitingCall.{WaitingCall}
use Rattle.rpc_machine.specs.declared.calls.HeldCall.{HeldCall}
use Rattle.rpc_machine.specs.declared.calls.Value.{Value}
use Rattle.rpc_machine.specs.declared.calls.Caller.TheVariants as caller
use Rattle.rpc_machine.specs.declared.calls.KeptOutcome.{KeptOutcome}
use Rattle.rpc_machine.specs.declared.command.Effects.{Effects}
use Rattle.rpc_machine.specs.State.{State}
use Rattle.rpc_machine.specs.Faults.{fault_of}
use Rattle.rpc_machine.specs.Steps.{Handles}
use Rattle.laws_acts.specs.Moments.{Clearing, Moment, beginning, held_to}
use Rattle.laws_acts.specs.MessageActs.{Back, Brings, Consumes, ByReturn, ByEchoedRoot, ByEchoedCall}
use Rattle.laws_acts.specs.MessageActs as consume
use Rattle.laws_acts.specs.SmallActs.{Act, kept_known}
use Rattle.laws_acts.specs.SmallActs as act
use Rattle.laws_acts.proofs.EachStep.{handled, at_end}
use Rattle.laws_authority.specs.Grants.{Opens}

-- Nothing waits for it.
abbrev IsAlone : Option KeptOutcome → Type 0
IsAlone None = Unit {0}
IsAlone (Some x) = x.waiting ≡ []

abbrev AllAlone : Map KeptOutcome → List (ℕ × Value) → Type 0
AllAlone m [] = Unit {0}
AllAlone m (x ∷ xs) = IsAlone (map.get m x.0) × AllAlone m xs

abbrev IsClear : Option Clearing → Type 0
IsClear None = Unit {0}
IsClear (Some x) = x.waiting ≡ []

abbrev Quiet : Moment → Type 0
Quiet d = (d.yet ≡ []) × (d.arisen ≡ []) × (d.effects.deliveries ≡ []) × AllAlone d.state.outcomes d.coming × IsClear d.clearing

put_alone : (m : Map KeptOutcome) (k : ℕ) (x : KeptOutcome) (o : ℕ) → x.waiting ≡ [] → IsAlone (map.get m o) → IsAlone (map.get (map.insert m k x) o)
put_alone m k x o e a = at_put (λ j y. IsAlone (map.get m j) → IsAlone y) m k x (λ b. e) (λ j f b. b) o a

cut_alone : (m : Map KeptOutcome) (k o : ℕ) → IsAlone (map.get m o) → IsAlone (map.get (map.remove m k) o)
cut_alone m k o a = at_cut (λ j y. IsAlone (map.get m j) → IsAlone y) m k (λ b. tt) (λ j f b. b) o a

puts_alone : (m : Map KeptOutcome) (k : ℕ) (x : KeptOutcome) (xs : List (ℕ × Value)) → x.waiting ≡ [] → AllAlone m xs → AllAlone (map.insert m k x) xs
puts_alone m k x [] e a = tt
puts_alone m k x (y ∷ ys) e a = (put_alone m k x y.0 e a.0, puts_alone m k x ys e a.1)

cuts_alone : (m : Map KeptOutcome) (k : ℕ) (xs : List (ℕ × Value)) → AllAlone m xs → AllAlone (map.remove m k) xs
cuts_alone m k [] a = tt
cuts_alone m k (y ∷ ys) a = (cut_alone m k y.0 a.0, cuts_alone m k ys a.1)

none_yet : (x : WaitingCall × Node) (xs ys : List (WaitingCall × Node)) → ys ≡ [] → ys ≡ x ∷ xs → ⊥
none_yet x xs ys e f = let g : [] ≡ x ∷ xs = sym e ∙ f in cc

none_arisen : (x : ℕ × Value) (xs ys : List (ℕ × Value)) → ys ≡ [] → ys ≡ x ∷ xs → ⊥
none_arisen x xs ys e f = let g : [] ≡ x ∷ xs = sym e ∙ f in cc

none_held : (o : ℕ) (xs : List HeldCall) → xs ≡ [] → held_to o xs ≡ []
none_held o xs e = ap (held_to o) e

acted : (d new : Moment) → Quiet d → Act d new → Quiet new
acted d new i (act.Delivers c n rest u e f h) = absurd (none_yet (c, n) rest d.yet i.0 e)
acted d new i (act.Waits c n rest p calls e f j h) = absurd (none_yet (c, n) rest d.yet i.0 e)
acted d new i (act.Holds c n rest u path x e f j h) = absurd (none_yet (c, n) rest d.yet i.0 e)
acted d new i (act.Relays c n rest q t ds es e f j z h) = absurd (none_yet (c, n) rest d.yet i.0 e)
acted d new i (act.Breaks c n rest reason e f h) = absurd (none_yet (c, n) rest d.yet i.0 e)
acted d new i (act.NextArisen u v rest e f h) = absurd (none_arisen (u, v) rest d.arisen i.1 f)
acted d new i (act.Knows u v fit x ps e f j z h) =
    let coming : AllAlone d.state.outcomes ((u, v) ∷ []) = subst (λ (m : Moment). AllAlone d.state.outcomes m.coming) e i.3 in
    let alone : x.waiting ≡ [] = subst IsAlone f coming.0 in
    rw h (i.0, i.1, i.2, tt, alone)
acted d new i (act.Reports c v from e f h) = rw h i
acted d new i (act.TellsNobody c v e f h) = rw h i
acted d new i (act.MakesReturn q v x b ds es e f j z h) = rw h i
acted d new i (act.SendsReturn x y e f j h) = rw h i
acted d new i (act.Clears x e f h) =
    let clear : x.waiting ≡ [] = subst (λ (m : Moment). IsClear m.clearing) e i.4 in
    rw h (none_held x.outcome x.waiting clear, i.1, i.2, puts_alone d.state.outcomes x.outcome (kept_known x.caller x.value []) d.coming refl i.3, tt)
acted d new i (act.Lists x e h) = rw h i
acted d new i (act.SendsResolve x rest z es e w f h) = rw h i
acted d new i (act.SendsBroken x rest reason e f h) = rw h i
acted d new i (act.PromiseGoes p to w e f h) = rw h i
acted d new i (act.OutcomeGoes u x v w e f j z l h) = rw h (i.0, i.1, i.2, cuts_alone d.state.outcomes u d.coming i.3, i.4)
acted d new i (act.ImportGoes z x w e f h) = rw h i
acted d new i (act.Sweeps over e f j h) = rw h i
acted d new i (act.SendsFinish q x rest e f j z l h) = rw h i
acted d new i (act.Closes q x rest e f j z l h) = rw h i
acted d new i (act.Releases w e f h) = rw h i

module _ (s : State) (q : QuestionId) where
  abbrev Asks : Message
  Asks = message.Plain (plain.Bootstrap q)

  none_back : (b : Back) → Brings s Asks b → ⊥
  none_back b (ByReturn r e f) = cc
  none_back b (ByEchoedRoot k e f) = cc
  none_back b (ByEchoedCall c e f) = cc

  quiet_still : Quiet (beginning s)
  quiet_still = (refl, refl, refl, tt, tt)

  consumed : (new : Moment) → Consumes (beginning s) Asks new → Quiet new
  consumed new (consume.OpensRoot p o e f j h) =
      let y : KeptOutcome = record { caller = caller.Peer p; value = None; waiting = [] } in
      let a : IsAlone (map.get (map.insert s.outcomes o y) o) = subst IsAlone (sym (get-insert_same s.outcomes o y)) refl in
      rw h (refl, refl, refl, (a, tt), tt)
  consumed new (consume.OpensCall c o e f j h) = absurd cc
  consumed new (consume.Loses b x e f j k h) = absurd (none_back b e)
  consumed new (consume.ComesToCall b x c e f j k l h) = absurd (none_back b e)
  consumed new (consume.ComesToRelay b x o e f j k l h) = absurd (none_back b e)
  consumed new (consume.IsFinished f a e g j h) = absurd cc
  consumed new (consume.IsResolved r e h) = absurd cc
  consumed new (consume.IsReleased r e h) = absurd cc
  consumed new (consume.SendsBack t to x e f h) = absurd cc
  consumed new (consume.Lifts t x b e f h) = absurd cc
  consumed new (consume.SendsForeign p e f h) = rw h quiet_still
  consumed new (consume.SendsOther k e h) = rw h quiet_still
  consumed new (consume.TakesBack r e h) = absurd cc
  consumed new (consume.Ignores r e h) = absurd cc

  none_delivered : (x : Effects) (t : State) → fault_of s Asks ≡ None → Handles s Asks x t → x.deliveries ≡ []
  none_delivered x t f h =
      let k = handled Quiet s Asks x t f consumed acted h in
      at_end (λ (w : State) (y : Effects). y.deliveries ≡ []) k.last x t k.ends (let z = k.holds in z.2)

-- So what a message opens is delivered nothing in its step.
pub opens_quietly : (s : State) (m : Message) (o : ObjectId) (x : Effects) (t : State) → Opens s m o → fault_of s m ≡ None → Handles s m x t → x.deliveries ≡ []
opens_quietly s (message.Plain (plain.Bootstrap q)) o x t a f h = none_delivered s q x t f h
opens_quietly s (message.Plain (plain.Abort exception)) o x t a f h = absurd a
opens_quietly s (message.Plain (plain.Call c)) o x t a f h = absurd a
opens_quietly s (message.Plain (plain.Return r)) o x t a f h = absurd a
opens_quietly s (message.Plain (plain.Finish k)) o x t a f h = absurd a
opens_quietly s (message.Plain (plain.Resolve r)) o x t a f h = absurd a
opens_quietly s (message.Plain (plain.Release r)) o x t a f h = absurd a
opens_quietly s (message.Plain (plain.Disembargo d)) o x t a f h = absurd a
opens_quietly s (message.Plain (plain.Other k)) o x t a f h = absurd a
opens_quietly s (message.Unimplemented p) o x t a f h = absurd a
