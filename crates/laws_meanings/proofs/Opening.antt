-- A question of an own call that has not returned was there before the step, or its id was free; and where it is no call's,
-- no Call with its id is sent in the step.
use Rattle.std.proofs.Common.{◌≡◌, ◌⊎◌, inl, inr, ℕ, false, nat_eq, Option, None, Some, List, [], ◌∷◌, ◌++◌, refl, sym, subst, ◌∙◌, arith}
use Rattle.std.specs.FinMap as map
use Rattle.finite_maps.specs.Tally.{Map}
use Rattle.finite_maps.proofs.Tested.{at_put, at_cut}
use Rattle.rpc_msg.specs.declared.ids.CallId.{CallId}
use Rattle.rpc_msg.specs.declared.message.Message.{Message}
use Rattle.rpc_msg.specs.declared.message.Message.TheVariants as message
use Rattle.rpc_msg.specs.declared.message.PlainMessage.TheVariants as plain
use Rattle.rpc_machine.specs.Commands.{request}
use Rattle.rpc_machine.specs.declared.command.CallCommand.{CallCommand}
use Rattle.rpc_machine.specs.declared.command.Command.{Command}
use Rattle.rpc_machine.specs.declared.command.Command.TheVariants as command
use Rattle.rpc_machine.specs.declared.command.Granted.{Granted}
use Rattle.rpc_machine.specs.declared.command.Effects.{Effects}
use Rattle.rpc_machine.specs.declared.entries.Role.TheVariants as role
use Rattle.rpc_machine.specs.declared.entries.Question.{Question}
use Rattle.rpc_machine.specs.declared.entries.Returned.{Returned}
use Rattle.rpc_machine.specs.State.{State}
use Rattle.rpc_machine.specs.Sweeping.{closed_map}
use Rattle.rpc_machine.specs.Faults.{fault_of}
use Rattle.rpc_machine.specs.Steps.{Does, Handles}
use Rattle.laws_acts.specs.Moments.{Moment, beginning}
use Rattle.laws_acts.specs.FirstActs.{Starts}
use Rattle.laws_acts.specs.FirstActs as first
use Rattle.laws_acts.specs.MessageActs.{Consumes}
use Rattle.laws_acts.specs.MessageActs as heard
use Rattle.laws_acts.specs.SmallActs.{Act, release_messages}
use Rattle.laws_acts.specs.SmallActs as act
use Rattle.laws_acts.proofs.EachStep.{done, handled, at_end}
use Rattle.laws_meanings.proofs.Rooting.{IsOther}

-- The question is open for that call.
abbrev pub IsOpenAt : CallId → Option Question → Type 0
IsOpenAt c None = ⊥
IsOpenAt c (Some x) = (x.role ≡ role.Direct c) × (x.returned ≡ None)

module _ (q : ℕ) where
  abbrev pub AreOther : List Message → Type 0
  AreOther [] = Unit {0}
  AreOther (m ∷ ms) = IsOther q m × AreOther ms

  pub other-append : (ms ns : List Message) → AreOther ms → AreOther ns → AreOther (ms ++ ns)
  other-append [] ns h k = k
  other-append (m ∷ ms) ns h k = (h.0, other-append ms ns h.1 k)

  no_releases : (xs : List (ℕ × ℕ)) → AreOther (release_messages xs)
  no_releases [] = tt
  no_releases (x ∷ xs) = (tt, no_releases xs)

  module _ (K : ℕ → Type 0) (before : Map Question) where
    abbrev pub WasThere : CallId → Type 0
    WasThere c = IsOpenAt c (map.get before q) ⊎ (map.get before q ≡ None)

    abbrev pub Asks : Map Question → List Message → Type 0
    Asks m ms = (c : CallId) → IsOpenAt c (map.get m q) → K c.0 ⊎ (WasThere c × AreOther ms)

    abbrev Fine : Moment → Type 0
    Fine d = Asks d.state.questions d.effects.sends

    sends : (m : Map Question) (ms ns : List Message) → AreOther ns → Asks m ms → Asks m (ms ++ ns)
    sends m ms ns o i c f = by (i c f)
      where
        by : K c.0 ⊎ (WasThere c × AreOther ms) → K c.0 ⊎ (WasThere c × AreOther (ms ++ ns))
        by (inl k) = inl k
        by (inr k) = inr (k.0, other-append ms ns k.1 o)

    -- What is not open for it after a change was not before.
    fewer : (m n : Map Question) (ms : List Message) → ((c : CallId) (j : ℕ) → IsOpenAt c (map.get n j) → IsOpenAt c (map.get m j)) → Asks m ms → Asks n ms
    fewer m n ms f i c o = i c (f c q o)

    closes : (m : Map Question) (k : ℕ) (x : Question) (r : Option Returned) → map.get m k ≡ Some x → (c : CallId) (j : ℕ) → IsOpenAt c (map.get (closed_map m k x r) j) → IsOpenAt c (map.get m j)
    closes m k x None e c = at_put (λ j o. IsOpenAt c o → IsOpenAt c (map.get m j)) m k _ (λ o. subst (IsOpenAt c) (sym e) o) (λ j n o. o)
    closes m k x (Some r) e c = at_cut (λ j o. IsOpenAt c o → IsOpenAt c (map.get m j)) m k (λ o. absurd o) (λ j n o. o)

    cuts : (m : Map Question) (k : ℕ) (c : CallId) (j : ℕ) → IsOpenAt c (map.get (map.remove m k) j) → IsOpenAt c (map.get m j)
    cuts m k c = at_cut (λ j o. IsOpenAt c o → IsOpenAt c (map.get m j)) m k (λ o. absurd o) (λ j n o. o)

    -- A question that is open for no own call.
    puts : (m : Map Question) (k : ℕ) (x : Question) → ((c : CallId) → ¬ (IsOpenAt c (Some x))) → (c : CallId) (j : ℕ) → IsOpenAt c (map.get (map.insert m k x) j) → IsOpenAt c (map.get m j)
    puts m k x f c = at_put (λ j o. IsOpenAt c o → IsOpenAt c (map.get m j)) m k x (λ o. absurd (f c o)) (λ j n o. o)

    -- A question that is asked with a Call.
    asks : (m : Map Question) (p : ℕ) (x : Question) (ms ns : List Message) → (¬ (p ≡ q) → AreOther ns) → ((c : CallId) → IsOpenAt c (Some x) → K c.0) → Asks m ms → Asks (map.insert m p x) (ms ++ ns)
    asks m p x ms ns o f i c = at_put (λ j y. j ≡ q → IsOpenAt c y → K c.0 ⊎ (WasThere c × AreOther (ms ++ ns))) m p x (λ e g. inl (f c g)) others q refl
      where
        others : (j : ℕ) → nat_eq j p ≡ false → j ≡ q → IsOpenAt c (map.get m j) → K c.0 ⊎ (WasThere c × AreOther (ms ++ ns))
        others j n e g =
            let apart : ¬ (p ≡ q) = λ same. let bad : ⊥ = grind (arith, n, e, same) in bad in
            sends m ms ns (o apart) i c (subst (λ (k : ℕ). IsOpenAt c (map.get m k)) e g)

    acted : (d new : Moment) → Fine d → Act d new → Fine new
    acted d new i (act.Relays c n rest p t ds es e f j k u) = rw u (asks d.state.questions p _ d.effects.sends _ (λ g. (g, tt)) (λ y g. absurd (let bad : role.Relay c.outcome ≡ role.Direct y = g.0 in cc)) i)
    acted d new i (act.SendsReturn x y e f j u) = rw u (sends d.state.questions d.effects.sends _ (tt, tt) i)
    acted d new i (act.SendsResolve x rest k es e w f u) = rw u (sends d.state.questions d.effects.sends _ (tt, tt) i)
    acted d new i (act.SendsBroken x rest reason e f u) = rw u (sends d.state.questions d.effects.sends _ (tt, tt) i)
    acted d new i (act.SendsFinish p x rest e f j k l u) =
        let n = closed_map d.state.questions p x x.returned in
        rw u (sends n d.effects.sends _ (tt, tt) (fewer d.state.questions n d.effects.sends (closes d.state.questions p x x.returned f) i))
    acted d new i (act.Closes p x rest e f j k l u) = rw u (fewer d.state.questions (closed_map d.state.questions p x x.returned) d.effects.sends (closes d.state.questions p x x.returned f) i)
    acted d new i (act.Releases w e f u) = rw u (sends d.state.questions d.effects.sends _ (no_releases (map.entries d.released)) i)
    acted d new i (act.Delivers c n rest u e f k) = rw k i
    acted d new i (act.Waits c n rest p calls e f j k) = rw k i
    acted d new i (act.Holds c n rest u path x e f j k) = rw k i
    acted d new i (act.Breaks c n rest reason e f u) = rw u i
    acted d new i (act.NextArisen o w rest e f u) = rw u i
    acted d new i (act.Knows u w fit x ps e f j k z) = rw z i
    acted d new i (act.Reports c w from e f u) = rw u i
    acted d new i (act.TellsNobody c w e f u) = rw u i
    acted d new i (act.MakesReturn p w x y ds es e f j k u) = rw u i
    acted d new i (act.Clears x e f u) = rw u i
    acted d new i (act.Lists x e u) = rw u i
    acted d new i (act.PromiseGoes p to w e f u) = rw u i
    acted d new i (act.OutcomeGoes o x w z e f j k l u) = rw u i
    acted d new i (act.ImportGoes k x w e f u) = rw u i
    acted d new i (act.Sweeps over e f j u) = rw u i

  -- ---- The first act

  module _ (K : ℕ → Type 0) (s : State) where
    abbrev Good : Moment → Type 0
    Good d = Asks K s.questions d.state.questions d.effects.sends

    same : Asks K s.questions s.questions []
    same c o = inr (inl o, tt)

    abbrev IsOfCall : Command → Granted → Type 0
    IsOfCall c g = (k : CallCommand) → c ≡ command.Call k → g ≡ first.next_call_of s → K s.next_call

    asks_root : (p : ℕ) (x : Question) (m : Message) → map.get s.questions p ≡ None → IsOther q m → Asks K s.questions (map.insert s.questions p x) (m ∷ [])
    asks_root p x m f n c = at_put (λ j y. j ≡ q → IsOpenAt c y → K c.0 ⊎ (WasThere K s.questions c × AreOther (m ∷ []))) s.questions p x
        (λ e g. inr (inr (subst (λ (k : ℕ). map.get s.questions k ≡ None) e f), (n, tt)))
        (λ j y e g. inr (inl (subst (λ (k : ℕ). IsOpenAt c (map.get s.questions k)) e g), (n, tt))) q refl

    for_call : (n : ℕ) → K n → (c : CallId) → role.Direct (record { 0 = n }) ≡ role.Direct c → K c.0
    for_call n k c e = let z : n ≡ c.0 = cc in subst K z k

    started : (c : Command) (g : Granted) (new : Moment) → IsOfCall c g → Starts (beginning s) c g new → Good new
    started c g new n (first.AsksRoot p e f a u) = rw u (asks_root p (first.asked (role.Direct (record { 0 = s.next_call })) []) (message.Plain (plain.Bootstrap (record { 0 = p }))) f tt)
    started c g new n (first.CallsOut y x p t ds es e f j l m o a u) = rw u (asks K s.questions s.questions p (first.asked (role.Direct (record { 0 = s.next_call })) ds) [] (message.Plain (first.asking p t (request s y x) ds) ∷ []) (λ z. (z, tt)) (λ z w. for_call s.next_call (n y e a) z w.0) same)
    started c g new n (first.CallsHere y x o e f j l m a u) = rw u same
    started c g new n (first.CallsLater y x o z w e f j l m a u) = rw u same
    started c g new n (first.Hosts o e a u) = rw u same
    started c g new n (first.Clones y x e f a u) = rw u same
    started c g new n (first.NamesField y path from e f a u) = rw u same
    started c g new n (first.Promises p e f a u) = rw u same
    started c g new n (first.Drops y x e f a u) = rw u same
    started c g new n (first.Fixes p y x key calls e f j l a u) = rw u same
    started c g new n (first.Rejects p why key calls e f j a u) = rw u same
    started c g new n (first.Answers t payload refs o e f a u) = rw u same
    started c g new n (first.Fails t why o e f a u) = rw u same
    started c g new n (first.Finishes y from e f a u) = rw u same
    started c g new n (first.StaysPut y x e f a u) = rw u same
    started c g new n (first.Breaks y x reason e f j l a u) = rw u same
    started c g new n (first.Switches y x by n0 e f j l m o a u) = rw u same
    started c g new n (first.Turns y x by n0 t z e f j l m o w p a u) = rw u (λ z w. inr (inl w, (tt, tt)))

    returned_now : (c : CallId) (x : Question) (r : Returned) → x.returned ≡ Some r → ¬ (IsOpenAt c (Some x))
    returned_now c x r e o = absurd (let bad : Some r ≡ None = sym e ∙ o.1 in cc)

    consumed : (m : Message) (new : Moment) → Consumes (beginning s) m new → Good new
    consumed m new (heard.OpensRoot p o e f j u) = rw u same
    consumed m new (heard.OpensCall c o e f j u) = rw u same
    consumed m new (heard.Loses y x e f j k u) = rw u (fewer K s.questions s.questions (map.remove s.questions y.question) [] (cuts K s.questions s.questions y.question) same)
    consumed m new (heard.ComesToCall y x c e f j k l u) = rw u (fewer K s.questions s.questions (map.insert s.questions y.question (heard.answered x y.waives y.said)) [] (puts K s.questions s.questions y.question (heard.answered x y.waives y.said) (λ z. returned_now z (heard.answered x y.waives y.said) y.said refl)) same)
    consumed m new (heard.ComesToRelay y x o e f j k l u) = rw u (fewer K s.questions s.questions (map.insert s.questions y.question (heard.answered x y.waives y.said)) [] (puts K s.questions s.questions y.question (heard.answered x y.waives y.said) (λ z. returned_now z (heard.answered x y.waives y.said) y.said refl)) same)
    consumed m new (heard.IsFinished x z e f j u) = rw u same
    consumed m new (heard.IsResolved x e u) = rw u same
    consumed m new (heard.IsReleased x e u) = rw u same
    consumed m new (heard.SendsBack t to x e f u) = rw u (λ z w. inr (inl w, (tt, tt)))
    consumed m new (heard.Lifts t x y e f u) = rw u same
    consumed m new (heard.SendsForeign p e f u) = rw u (λ z w. inr (inl w, (tt, tt)))
    consumed m new (heard.SendsOther k e u) = rw u (λ z w. inr (inl w, (tt, tt)))
    consumed m new (heard.TakesBack x e u) = rw u same
    consumed m new (heard.Ignores x e u) = rw u same

    -- ---- Steps

    abbrev pub Leaves : State → Effects → Type 0
    Leaves t x = Asks K s.questions t.questions x.sends

    pub commands : (c : Command) (g : Granted) (x : Effects) (t : State) → IsOfCall c g → Does s c g x t → Leaves t x
    commands c g x t n d =
        let k = done Good s c g x t (λ new j. started c g new n j) (acted K s.questions) d in
        at_end Leaves k.last x t k.ends k.holds

    pub messages : (m : Message) (x : Effects) (t : State) → fault_of s m ≡ None → Handles s m x t → Leaves t x
    messages m x t f d =
        let k = handled Good s m x t f (λ new j. consumed m new j) (acted K s.questions) d in
        at_end Leaves k.last x t k.ends k.holds
