-- The next number of a call through a step: a command raises it only if it asks, and asks with that number. No message does.
use Rattle.std.proofs.Common.{◌≡◌, ◌⊎◌, inl, inr, ℕ, ◌+◌, Bool, true, ◌&&◌, nat_eq, None, Some, List, refl, sym, subst}
use Rattle.finite_maps.proofs.Tested.{itself}
use Rattle.rpc_msg.specs.declared.ids.Vat.{Vat}
use Rattle.rpc_msg.specs.declared.message.Message.{Message}
use Rattle.rpc_journal.specs.History.{same_vat, or_rest, if_so}
use Rattle.rpc_journal.specs.Sources.{Asking, OfBootstrap}
use Rattle.rpc_journal.specs.declared.entry.JournalEntry.{JournalEntry}
use Rattle.rpc_machine.specs.declared.command.Command.{Command}
use Rattle.rpc_machine.specs.declared.command.Granted.{Granted}
use Rattle.rpc_machine.specs.declared.command.Effects.{Effects}
use Rattle.rpc_machine.specs.State.{State}
use Rattle.rpc_machine.specs.Faults.{fault_of}
use Rattle.rpc_machine.specs.Steps.{Does, Handles}
use Rattle.rpc_machine.specs.Journal.{granted_entries}
use Rattle.laws_acts.specs.Moments.{Moment, beginning}
use Rattle.laws_acts.specs.FirstActs.{Starts}
use Rattle.laws_acts.specs.FirstActs as first
use Rattle.laws_acts.specs.MessageActs.{Consumes}
use Rattle.laws_acts.specs.MessageActs as message
use Rattle.laws_acts.specs.SmallActs.{Act}
use Rattle.laws_acts.specs.SmallActs as act
use Rattle.laws_acts.proofs.EachStep.{done, handled, at_end}
use Rattle.laws_runs.proofs.Reading as reading
use Rattle.laws_meanings.specs.Bootstraps.{WasAsked}

pub same_next : (n : ℕ) (d new : Moment) → d.state.next_call ≡ n → Act d new → new.state.next_call ≡ n
same_next n d new i (act.Delivers c m rest u e f h) = rw h i
same_next n d new i (act.Waits c m rest p calls e f j h) = rw h i
same_next n d new i (act.Holds c m rest u path x e f j h) = rw h i
same_next n d new i (act.Relays c m rest q t ds es e f j k h) = rw h i
same_next n d new i (act.Breaks c m rest reason e f h) = rw h i
same_next n d new i (act.NextArisen u v rest e f h) = rw h i
same_next n d new i (act.Knows u v fit x ps e f j k h) = rw h i
same_next n d new i (act.Reports c v from e f h) = rw h i
same_next n d new i (act.TellsNobody c v e f h) = rw h i
same_next n d new i (act.MakesReturn q v x b ds es e f j k h) = rw h i
same_next n d new i (act.SendsReturn x y e f j h) = rw h i
same_next n d new i (act.Clears x e f h) = rw h i
same_next n d new i (act.Lists x e h) = rw h i
same_next n d new i (act.SendsResolve x rest k es e w f h) = rw h i
same_next n d new i (act.SendsBroken x rest reason e f h) = rw h i
same_next n d new i (act.PromiseGoes p to w e f h) = rw h i
same_next n d new i (act.OutcomeGoes u x v w e f j k l h) = rw h i
same_next n d new i (act.ImportGoes k x w e f h) = rw h i
same_next n d new i (act.Sweeps over e f j h) = rw h i
same_next n d new i (act.SendsFinish q x rest e f j k l h) = rw h i
same_next n d new i (act.Closes q x rest e f j k l h) = rw h i
same_next n d new i (act.Releases w e f h) = rw h i

-- The command raises it where it asks.
abbrev Raises : List JournalEntry → Vat → State → Command → Granted → ℕ → Type 0
Raises h v s c g n = (n ≡ s.next_call) ⊎ ((n ≡ s.next_call + 1) × WasAsked v (granted_entries h v c g) s.next_call)

this : (v : Vat) (n : ℕ) (a : Asking) → (y : Asking) × (or_rest (if_so (same_vat v v && nat_eq n n) a) None ≡ Some y)
this v n a = (a, by (same_vat v v) (nat_eq n n) (reading.itself v) (itself n))
  where
    by : (y z : Bool) → y ≡ true → z ≡ true → or_rest (if_so (y && z) a) None ≡ Some a
    by y z e f = rw (e, f) refl

raises : (h : List JournalEntry) (v : Vat) (s : State) (c : Command) (g : Granted) (new : Moment) → Starts (beginning s) c g new → Raises h v s c g new.state.next_call
raises h v s c g new (first.AsksRoot q e f a u) = rw (e, a, u) (inr (refl, this v s.next_call OfBootstrap))
raises h v s c g new (first.CallsOut y x q t ds es e f j l m n a u) = rw (e, a, u) (inr (refl, this v s.next_call _))
raises h v s c g new (first.CallsHere y x o e f j l m a u) = rw (e, a, u) (inr (refl, this v s.next_call _))
raises h v s c g new (first.CallsLater y x o z b e f j l m a u) = rw (e, a, u) (inr (refl, this v s.next_call _))
raises h v s c g new (first.Hosts o e a u) = rw u (inl refl)
raises h v s c g new (first.Clones y x e f a u) = rw u (inl refl)
raises h v s c g new (first.NamesField y path from e f a u) = rw u (inl refl)
raises h v s c g new (first.Promises p e f a u) = rw u (inl refl)
raises h v s c g new (first.Drops y x e f a u) = rw u (inl refl)
raises h v s c g new (first.Fixes p y x key calls e f j l a u) = rw u (inl refl)
raises h v s c g new (first.Rejects p why key calls e f j a u) = rw u (inl refl)
raises h v s c g new (first.Answers t payload refs o e f a u) = rw u (inl refl)
raises h v s c g new (first.Fails t why o e f a u) = rw u (inl refl)
raises h v s c g new (first.Finishes y from e f a u) = rw u (inl refl)
raises h v s c g new (first.StaysPut y x e f a u) = rw u (inl refl)
raises h v s c g new (first.Breaks y x reason e f j l a u) = rw u (inl refl)
raises h v s c g new (first.Switches y x by n e f j l m o a u) = rw u (inl refl)
raises h v s c g new (first.Turns y x by n t z e f j l m o w q a u) = rw u (inl refl)

keeps_next : (s : State) (m : Message) (new : Moment) → Consumes (beginning s) m new → new.state.next_call ≡ s.next_call
keeps_next s m new (message.OpensRoot q o e f j u) = rw u refl
keeps_next s m new (message.OpensCall c o e f j u) = rw u refl
keeps_next s m new (message.Loses b x e f j k u) = rw u refl
keeps_next s m new (message.ComesToCall b x c e f j k l u) = rw u refl
keeps_next s m new (message.ComesToRelay b x o e f j k l u) = rw u refl
keeps_next s m new (message.IsFinished x z e f j u) = rw u refl
keeps_next s m new (message.IsResolved r e u) = rw u refl
keeps_next s m new (message.IsReleased r e u) = rw u refl
keeps_next s m new (message.SendsBack t to x e f u) = rw u refl
keeps_next s m new (message.Lifts t x b e f u) = rw u refl
keeps_next s m new (message.SendsForeign p e f u) = rw u refl
keeps_next s m new (message.SendsOther n e u) = rw u refl
keeps_next s m new (message.TakesBack r e u) = rw u refl
keeps_next s m new (message.Ignores r e u) = rw u refl

-- ---- Steps

pub commands : (h : List JournalEntry) (v : Vat) (s : State) (c : Command) (g : Granted) (x : Effects) (t : State) → Does s c g x t → Raises h v s c g t.next_call
commands h v s c g x t d =
    let k = done (λ m. Raises h v s c g m.state.next_call) s c g x t (λ new j. raises h v s c g new j) (λ m new i a. subst (Raises h v s c g) (sym (same_next m.state.next_call m new refl a)) i) d in
    at_end (λ u y. Raises h v s c g u.next_call) k.last x t k.ends k.holds

pub messages : (s : State) (m : Message) (x : Effects) (t : State) → fault_of s m ≡ None → Handles s m x t → t.next_call ≡ s.next_call
messages s m x t f d =
    let k = handled (λ m. m.state.next_call ≡ s.next_call) s m x t f (λ new j. keeps_next s m new j) (λ m new i a. same_next s.next_call m new i a) d in
    at_end (λ u y. u.next_call ≡ s.next_call) k.last x t k.ends k.holds
