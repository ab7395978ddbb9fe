-- What a step sends is understood.
use Rattle.std.proofs.Common.{◌≡◌, ℕ, Option, None, Some, Result, List, [], ◌∷◌, ◌++◌, true, false, subst}
use Rattle.std.proofs.lemmas.List.Elements.{All-nil, All-cons, All-append, All-push}
use Rattle.std.specs.FinMap as map
use Rattle.rpc_msg.specs.declared.message.PlainMessage.{PlainMessage}
use Rattle.rpc_msg.specs.declared.message.PlainMessage.TheVariants as plain
use Rattle.rpc_msg.specs.declared.message.Message.{Message}
use Rattle.rpc_msg.specs.declared.message.Message.TheVariants as message
use Rattle.rpc_machine.specs.declared.command.Command.{Command}
use Rattle.rpc_machine.specs.declared.command.Granted.{Granted}
use Rattle.rpc_machine.specs.declared.command.Refusal.{Refusal}
use Rattle.rpc_machine.specs.declared.command.Effects.{Effects}
use Rattle.rpc_machine.specs.declared.command.Level.{Level}
use Rattle.rpc_machine.specs.declared.command.Level.TheVariants.{One}
use Rattle.rpc_machine.specs.State.{State}
use Rattle.rpc_machine.specs.Numbers.{want_of_room}
use Rattle.rpc_machine.specs.Down.{IsUnchanged, Falls, ShutsFrom, falling, falling_by}
use Rattle.rpc_machine.specs.Faults.{is_foreign}
use Rattle.rpc_machine.specs.Steps.{Obeys, Refuses, LacksMemory, GoesDown, Shuts, IsDone, Receives, WasDown, FaultsBy, LacksRoom, IsHandled}
use Rattle.laws_acts.specs.Moments.{Moment, beginning}
use Rattle.laws_acts.specs.FirstActs.{Starts}
use Rattle.laws_acts.specs.FirstActs as first
use Rattle.laws_acts.specs.MessageActs.{Consumes}
use Rattle.laws_acts.specs.MessageActs as heard
use Rattle.laws_acts.specs.SmallActs.{Act, release_messages}
use Rattle.laws_acts.specs.SmallActs as act
use Rattle.laws_acts.proofs.EachStep.{done, handled, at_end}
use Rattle.laws_understood.specs.Understood.{IsUnderstood, AllUnderstood, StepsSendUnderstood}

abbrev Fine : Moment → Type 0
Fine d = AllUnderstood d.effects.sends

none : AllUnderstood []
none = All-nil IsUnderstood

and_one : (ms : List Message) (m : Message) → AllUnderstood ms → IsUnderstood m → AllUnderstood (ms ++ m ∷ [])
and_one ms m h i = All-push IsUnderstood ms m h i

one : (m : Message) → IsUnderstood m → AllUnderstood (m ∷ [])
one m i = All-cons IsUnderstood m [] i none

released : (xs : List (ℕ × ℕ)) → AllUnderstood (release_messages xs)
released [] = none
released (x ∷ xs) = All-cons IsUnderstood _ (release_messages xs) tt (released xs)

acted : (d new : Moment) → Fine d → Act d new → Fine new
acted d new i (act.Relays c n rest p t ds es e f j k u) = rw u (and_one d.effects.sends _ i tt)
acted d new i (act.SendsReturn x y e f j u) = rw u (and_one d.effects.sends _ i tt)
acted d new i (act.SendsResolve x rest k es e w f u) = rw u (and_one d.effects.sends _ i tt)
acted d new i (act.SendsBroken x rest reason e f u) = rw u (and_one d.effects.sends _ i tt)
acted d new i (act.SendsFinish p x rest e f j k l u) = rw u (and_one d.effects.sends _ i tt)
acted d new i (act.Releases w e f u) = rw u (All-append IsUnderstood d.effects.sends _ i (released (map.entries d.released)))
acted d new i (act.Closes p x rest e f j k l u) = rw u i
acted d new i (act.Delivers c n rest u e f k) = rw k i
acted d new i (act.Waits c n rest p calls e f j k) = rw k i
acted d new i (act.Holds c n rest u path x e f j k) = rw k i
acted d new i (act.Breaks c n rest reason e f u) = rw u i
acted d new i (act.NextArisen o w rest e f u) = rw u i
acted d new i (act.Knows u w fit x ps e f j k z) = rw z i
acted d new i (act.Reports c w from e f u) = rw u i
acted d new i (act.TellsNobody c w e f u) = rw u i
acted d new i (act.MakesReturn p w x y ds es e f j k u) = rw u i
acted d new i (act.Clears x e f u) = rw u i
acted d new i (act.Lists x e u) = rw u i
acted d new i (act.PromiseGoes p to w e f u) = rw u i
acted d new i (act.OutcomeGoes o x w z e f j k l u) = rw u i
acted d new i (act.ImportGoes k x w e f u) = rw u i
acted d new i (act.Sweeps over e f j u) = rw u i

started : (s : State) (c : Command) (g : Granted) (new : Moment) → Starts (beginning s) c g new → Fine new
started s c g new (first.AsksRoot p e f a u) = rw u (one _ tt)
started s c g new (first.CallsOut y x p t ds es e f j l m o a u) = rw u (one _ tt)
started s c g new (first.Turns y x by n0 t z e f j l m o w p a u) = rw u (one _ tt)
started s c g new (first.CallsHere y x o e f j l m a u) = rw u none
started s c g new (first.CallsLater y x o z w e f j l m a u) = rw u none
started s c g new (first.Hosts o e a u) = rw u none
started s c g new (first.Clones y x e f a u) = rw u none
started s c g new (first.NamesField y path from e f a u) = rw u none
started s c g new (first.Promises p e f a u) = rw u none
started s c g new (first.Drops y x e f a u) = rw u none
started s c g new (first.Fixes p y x key calls e f j l a u) = rw u none
started s c g new (first.Rejects p why key calls e f j a u) = rw u none
started s c g new (first.Answers t payload refs o e f a u) = rw u none
started s c g new (first.Fails t why o e f a u) = rw u none
started s c g new (first.Finishes y from e f a u) = rw u none
started s c g new (first.StaysPut y x e f a u) = rw u none
started s c g new (first.Breaks y x reason e f j l a u) = rw u none
started s c g new (first.Switches y x by n0 e f j l m o a u) = rw u none

-- At level 1 nothing is foreign.
none_foreign : (l : Level) (p : PlainMessage) → l ≡ One → is_foreign l p ≡ true → ⊥
none_foreign l p e f = let k : false ≡ true = subst (λ (n : Level). is_foreign n p ≡ true) e f in cc

consumed : (s : State) (m : Message) (new : Moment) → s.level ≡ One → IsUnderstood m → Consumes (beginning s) m new → Fine new
consumed s m new l i (heard.SendsForeign p e f u) = absurd (none_foreign s.level p l f)
consumed s m new l i (heard.SendsOther k e u) = absurd (subst IsUnderstood e i)
consumed s m new l i (heard.SendsBack t to x e f u) = rw u (one _ tt)
consumed s m new l i (heard.OpensRoot p o e f j u) = rw u none
consumed s m new l i (heard.OpensCall c o e f j u) = rw u none
consumed s m new l i (heard.Loses y x e f j k u) = rw u none
consumed s m new l i (heard.ComesToCall y x c e f j k h u) = rw u none
consumed s m new l i (heard.ComesToRelay y x o e f j k h u) = rw u none
consumed s m new l i (heard.IsFinished x z e f j u) = rw u none
consumed s m new l i (heard.IsResolved x e u) = rw u none
consumed s m new l i (heard.IsReleased x e u) = rw u none
consumed s m new l i (heard.Lifts t x y e f u) = rw u none
consumed s m new l i (heard.TakesBack x e u) = rw u none
consumed s m new l i (heard.Ignores x e u) = rw u none

-- ---- Steps

unchanged : (s : State) (x : Effects) (t : State) → IsUnchanged s x t → AllUnderstood x.sends
unchanged s x t h = rw h.effects_are none

pub aborts : (n : ℕ) → AllUnderstood (falling n).sends
aborts n = one _ tt

aborts_by : (m : Message) (n : ℕ) → AllUnderstood (falling_by m n).sends
aborts_by (message.Plain (plain.Abort why)) n = none
aborts_by m n = aborts n

fell : (s : State) (n : ℕ) (x : Effects) (t : State) → Falls s n x t → AllUnderstood x.sends
fell s n x t h = rw h.effects_are (aborts n)

shut : (s : State) (n : ℕ) (o : Option ℕ) (x : Effects) (t : State) → ShutsFrom s n o x t → AllUnderstood x.sends
shut s n None x t h = fell s n x t h
shut s n (Some k) x t h = unchanged s x t h

abbrev Sends : State → Effects → Type 0
Sends t x = AllUnderstood x.sends

of_command : (s : State) (c : Command) (a : Result Granted Refusal) (x : Effects) (t : State) → Obeys s c a x t → AllUnderstood x.sends
of_command s c a x t (Refuses r f g u) = unchanged s x t u
of_command s c a x t (LacksMemory f g k u) = unchanged s x t u
of_command s c a x t (GoesDown f g k u) = fell s want_of_room x t u
of_command s c a x t (Shuts n f g h) = shut s n s.down x t h
of_command s c a x t (IsDone given f g h w) = let k = done Fine s c given x t (started s c given) acted h in at_end Sends k.last x t k.ends k.holds

of_message : (s : State) (m : Message) (x : Effects) (t : State) → s.level ≡ One → IsUnderstood m → Receives s m x t → AllUnderstood x.sends
of_message s m x t l i (WasDown d u) = unchanged s x t u
of_message s m x t l i (FaultsBy n d f g h) = rw g (aborts_by m n)
of_message s m x t l i (LacksRoom d f u) = fell s want_of_room x t u
of_message s m x t l i (IsHandled d f h w) = let k = handled Fine s m x t f (λ new j. consumed s m new l i j) acted h in at_end Sends k.last x t k.ends k.holds

pub send : StepsSendUnderstood
send = record { commands = of_command; messages = of_message }
