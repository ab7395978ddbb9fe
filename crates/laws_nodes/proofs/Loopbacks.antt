-- An embargo is new in a step where its Disembargo is sent, and goes where that comes back.
use Rattle.std.proofs.Common.{◌≡◌, ℕ, suc, ◌+◌, Bool, true, false, cond, nat_eq, List, [], ◌∷◌, ◌++◌, None, Some, refl, sym, ap, subst, ◌∙◌, arith}
use Rattle.std.specs.FinMap as map
use Rattle.finite_maps.specs.Tally.{Map}
use Rattle.rpc_msg.specs.declared.message.PlainMessage.{PlainMessage}
use Rattle.rpc_msg.specs.declared.message.Message.{Message}
use Rattle.rpc_machine.specs.declared.command.Command.{Command}
use Rattle.rpc_machine.specs.declared.command.Granted.{Granted}
use Rattle.rpc_machine.specs.declared.command.Effects.{Effects}
use Rattle.rpc_machine.specs.declared.command.Level.{Level}
use Rattle.rpc_machine.specs.declared.command.Level.TheVariants.{One}
use Rattle.rpc_machine.specs.State.{State}
use Rattle.rpc_machine.specs.Lists.{how_many}
use Rattle.rpc_machine.specs.Faults.{fault_of, is_foreign}
use Rattle.rpc_machine.specs.Steps.{Does, Handles}
use Rattle.laws_acts.specs.Moments.{Moment, beginning}
use Rattle.laws_acts.specs.FirstActs.{Starts}
use Rattle.laws_acts.specs.FirstActs as first
use Rattle.laws_acts.specs.MessageActs.{Brings, ByReturn, ByEchoedRoot, ByEchoedCall, Consumes}
use Rattle.laws_acts.specs.MessageActs as message
use Rattle.laws_acts.specs.SmallActs.{Act, release_messages}
use Rattle.laws_acts.specs.SmallActs as act
use Rattle.laws_acts.proofs.EachStep.{done, handled, at_end}
use Rattle.laws_nodes.specs.Ones.{one_if}
use Rattle.laws_nodes.specs.Embargoes.{here, goes_out, comes_back, out, back, Loopbacks}
use Rattle.finite_maps.proofs.Tested.{itself, at_put, at_cut}

-- ---- Messages that do not count

one_more : (test : Message → Bool) (ms : List Message) (m : Message) (n : ℕ) → test m ≡ false → how_many test ms ≡ n → how_many test (ms ++ m ∷ []) ≡ n
one_more test ms m n e h = go ms ∙ h
  where
    go : (ms : List Message) → how_many test (ms ++ m ∷ []) ≡ how_many test ms
    go [] = ap (λ b. cond b (suc 0) 0) e
    go (x ∷ xs) = ap (λ k. cond (test x) (suc k) k) (go xs)

more : (test : Message → Bool) (ms rest : List Message) (n : ℕ) → how_many test rest ≡ 0 → how_many test ms ≡ n → how_many test (ms ++ rest) ≡ n
more test ms rest n e h = go ms ∙ h
  where
    go : (ms : List Message) → how_many test (ms ++ rest) ≡ how_many test ms
    go [] = e
    go (x ∷ xs) = ap (λ k. cond (test x) (suc k) k) (go xs)

none_out : (e : ℕ) (xs : List (ℕ × ℕ)) → out e (release_messages xs) ≡ 0
none_out e [] = refl
none_out e (x ∷ xs) = none_out e xs

none_back : (e : ℕ) (xs : List (ℕ × ℕ)) → back e (release_messages xs) ≡ 0
none_back e [] = refl
none_back e (x ∷ xs) = none_back e xs

-- ---- What all acts but the first keep

module _ (e : ℕ) (a u z : ℕ) where
  abbrev Stands : Moment → Type 0
  Stands d = (here (map.get d.state.embargoes e) ≡ a) × (out e d.effects.sends ≡ u) × (back e d.effects.sends ≡ z)

  sent : (d : Moment) (m : Message) → goes_out e m ≡ false → comes_back e m ≡ false → Stands d → (here (map.get d.state.embargoes e) ≡ a) × (out e (d.effects.sends ++ m ∷ []) ≡ u) × (back e (d.effects.sends ++ m ∷ []) ≡ z)
  sent d m f g i = (i.0, one_more (goes_out e) d.effects.sends m u f i.1, one_more (comes_back e) d.effects.sends m z g i.2)

  acted : (d new : Moment) → Stands d → Act d new → Stands new
  acted d new i (act.Delivers c n rest o f g h) = rw h i
  acted d new i (act.Waits c n rest p calls f g j h) = rw h i
  acted d new i (act.Holds c n rest o path x f g j h) = rw h i
  acted d new i (act.Relays c n rest q t ds es f g j k h) = rw h (sent d _ refl refl i)
  acted d new i (act.Breaks c n rest reason f g h) = rw h i
  acted d new i (act.NextArisen o v rest f g h) = rw h i
  acted d new i (act.Knows o v fit x ps f g j k h) = rw h i
  acted d new i (act.Reports c v from f g h) = rw h i
  acted d new i (act.TellsNobody c v f g h) = rw h i
  acted d new i (act.MakesReturn q v x b ds es f g j k h) = rw h i
  acted d new i (act.SendsReturn x y f g j h) = rw h (sent d _ refl refl i)
  acted d new i (act.Clears x f g h) = rw h i
  acted d new i (act.Lists x f h) = rw h i
  acted d new i (act.SendsResolve x rest k es f w g h) = rw h (sent d _ refl refl i)
  acted d new i (act.SendsBroken x rest reason f g h) = rw h (sent d _ refl refl i)
  acted d new i (act.PromiseGoes p to w f g h) = rw h i
  acted d new i (act.OutcomeGoes o x v w f g j k l h) = rw h i
  acted d new i (act.ImportGoes k x w f g h) = rw h i
  acted d new i (act.Sweeps over f g j h) = rw h i
  acted d new i (act.SendsFinish q x rest f g j k l h) = rw h (sent d _ refl refl i)
  acted d new i (act.Closes q x rest f g j k l h) = rw h i
  acted d new i (act.Releases w f g h) =
      let ms = release_messages (map.entries d.released) in
      rw h (i.0, more (goes_out e) d.effects.sends ms u (none_out e (map.entries d.released)) i.1, more (comes_back e) d.effects.sends ms z (none_back e (map.entries d.released)) i.2)

-- ---- Commands

nothing : (n : ℕ) → n ≡ n + 0
nothing n = omega arith

-- Another entry under a key that is there.
kept : {X : Type 0} (m : Map X) (k e : ℕ) (x y : X) → map.get m k ≡ Some x → here (map.get (map.insert m k y) e) ≡ here (map.get m e)
kept m k e x y f = at_put (λ j o. here o ≡ here (map.get m j)) m k y (sym (ap here f)) (λ j g. refl) e

added : {X : Type 0} (m : Map X) (k e : ℕ) (y : X) → map.get m k ≡ None → here (map.get (map.insert m k y) e) ≡ here (map.get m e) + cond (nat_eq e k) (suc 0) 0
added m k e y f =
    at_put (λ j o. here o ≡ here (map.get m j) + cond (nat_eq j k) (suc 0) 0) m k y
    (sym (ap (λ b. here (map.get m k) + cond b (suc 0) 0) (itself k) ∙ ap (λ o. here o + 1) f))
    (λ j g. nothing (here (map.get m j)) ∙ sym (ap (λ b. here (map.get m j) + cond b (suc 0) 0) g))
    e

taken : {X : Type 0} (m : Map X) (k e : ℕ) (x : X) → map.get m k ≡ Some x → here (map.get (map.remove m k) e) + one_if (nat_eq e k) ≡ here (map.get m e)
taken m k e x f =
    at_cut (λ j o. here o + one_if (nat_eq j k) ≡ here (map.get m j)) m k
    (ap (λ b. 0 + one_if b) (itself k) ∙ sym (ap here f))
    (λ j g. ap (λ b. here (map.get m j) + one_if b) g ∙ sym (nothing (here (map.get m j))))
    e

abbrev First : ℕ → State → Moment → Type 0
First e s d = (here (map.get d.state.embargoes e) ≡ here (map.get s.embargoes e) + out e d.effects.sends) × (back e d.effects.sends ≡ 0)

started : (e : ℕ) (s : State) (c : Command) (g : Granted) (new : Moment) → Starts (beginning s) c g new → First e s new
started e s c g new (first.Hosts o f a h) = rw h (nothing _, refl)
started e s c g new (first.Clones r x f i a h) = rw h (nothing _, refl)
started e s c g new (first.Drops r x f i a h) = rw h (nothing _, refl)
started e s c g new (first.AsksRoot q f i a h) = rw h (nothing _, refl)
started e s c g new (first.CallsOut k x q t ds es f i j w l o a h) = rw h (nothing _, refl)
started e s c g new (first.CallsHere k x o f i j w l a h) = rw h (nothing _, refl)
started e s c g new (first.CallsLater k x o y b f j l m n a h) = rw h (kept s.embargoes y.0 e b _ m ∙ nothing _, refl)
started e s c g new (first.NamesField k path from f i a h) = rw h (nothing _, refl)
started e s c g new (first.Promises p f i a h) = rw h (nothing _, refl)
started e s c g new (first.Fixes p r x key calls f i j k a h) = rw h (nothing _, refl)
started e s c g new (first.Rejects p why key calls f i j a h) = rw h (nothing _, refl)
started e s c g new (first.Answers t payload refs o f i a h) = rw h (nothing _, refl)
started e s c g new (first.Fails t why o f i a h) = rw h (nothing _, refl)
started e s c g new (first.Finishes k from f i a h) = rw h (nothing _, refl)
started e s c g new (first.StaysPut r x f i a h) = rw h (nothing _, refl)
started e s c g new (first.Breaks r x reason f i j k a h) = rw h (nothing _, refl)
started e s c g new (first.Switches r x by n f i j k l m a h) = rw h (nothing _, refl)
started e s c g new (first.Turns r x by n t k f i j l m o w u a h) = rw h (added s.embargoes k e _ u, refl)

of_command : (e : ℕ) (s : State) (c : Command) (g : Granted) (x : Effects) (t : State) → Does s c g x t → (here (map.get t.embargoes e) ≡ here (map.get s.embargoes e) + out e x.sends) × (back e x.sends ≡ 0)
of_command e s c g x t h =
    let k = done (First e s) s c g x t (λ new i. started e s c g new i) (λ d new i j. keeps d new i j) h in
    at_end (λ u y. (here (map.get u.embargoes e) ≡ here (map.get s.embargoes e) + out e y.sends) × (back e y.sends ≡ 0)) k.last x t k.ends k.holds
  where
    keeps : (d new : Moment) → First e s d → Act d new → First e s new
    keeps d new i j =
        let r = acted e (here (map.get d.state.embargoes e)) (out e d.effects.sends) 0 d new (refl, refl, i.1) j in
        (r.0 ∙ i.0 ∙ ap (λ n. here (map.get s.embargoes e) + n) (sym r.1), r.2)

-- ---- Messages

abbrev Comes : ℕ → State → Message → Moment → Type 0
Comes e s m d = (here (map.get d.state.embargoes e) + one_if (comes_back e m) ≡ here (map.get s.embargoes e)) × (out e d.effects.sends ≡ 0) × (back e d.effects.sends ≡ one_if (goes_out e m))

brings_none : (e : ℕ) (s : State) (m : Message) (b : message.Back) → Brings s m b → (comes_back e m ≡ false) × (goes_out e m ≡ false)
brings_none e s m b (ByReturn r f g) = rw f (refl, refl)
brings_none e s m b (ByEchoedRoot q f g) = rw f (refl, refl)
brings_none e s m b (ByEchoedCall c f g) = rw f (refl, refl)

brought : (e : ℕ) (s : State) (m : Message) (b : message.Back) → Brings s m b → Comes e s m (beginning s)
brought e s m b w = let k = brings_none e s m b w in (ap (λ c. here (map.get s.embargoes e) + one_if c) k.0 ∙ sym (nothing _), refl, ap one_if (sym k.1))

not_foreign : (l : Level) (p : PlainMessage) → l ≡ One → is_foreign l p ≡ true → ⊥
not_foreign l p e f = let g : is_foreign One p ≡ true = subst (λ (k : Level). is_foreign k p ≡ true) e f in let h : false ≡ true = g in cc

consumed : (e : ℕ) (s : State) (m : Message) (new : Moment) → s.level ≡ One → Consumes (beginning s) m new → Comes e s m new
consumed e s m new l (message.OpensRoot q o f i j h) = rw (f, h) (sym (nothing _), refl, refl)
consumed e s m new l (message.OpensCall c o f i j h) = rw (f, h) (sym (nothing _), refl, refl)
consumed e s m new l (message.Loses b x f i j k h) = rw h (brought e s m b f)
consumed e s m new l (message.ComesToCall b x c f i j k w h) = rw h (brought e s m b f)
consumed e s m new l (message.ComesToRelay b x o f i j k w h) = rw h (brought e s m b f)
consumed e s m new l (message.IsFinished x y f i j h) = rw (f, h) (sym (nothing _), refl, refl)
consumed e s m new l (message.IsResolved r f h) = rw (f, h) (sym (nothing _), refl, refl)
consumed e s m new l (message.IsReleased r f h) = rw (f, h) (sym (nothing _), refl, refl)
consumed e s m new l (message.SendsBack t to x f i h) = rw (f, h) (sym (nothing _), refl, by (nat_eq e x.0))
  where
    by : (b : Bool) → cond b (suc 0) 0 ≡ one_if b
    by true = refl
    by false = refl
consumed e s m new l (message.Lifts t x b f i h) = rw (f, h) (taken s.embargoes x.0 e b i, refl, refl)
consumed e s m new l (message.SendsForeign p f i h) = absurd (not_foreign s.level p l i)
consumed e s m new l (message.SendsOther n f h) = rw (f, h) (sym (nothing _), refl, refl)
consumed e s m new l (message.TakesBack r f h) = rw (f, h) (sym (nothing _), refl, refl)
consumed e s m new l (message.Ignores r f h) = rw (f, h) (sym (nothing _), refl, refl)

of_message : (e : ℕ) (s : State) (m : Message) (x : Effects) (t : State) → s.level ≡ One → fault_of s m ≡ None → Handles s m x t
    → (here (map.get t.embargoes e) + one_if (comes_back e m) ≡ here (map.get s.embargoes e)) × (out e x.sends ≡ 0) × (back e x.sends ≡ one_if (goes_out e m))
of_message e s m x t l f h =
    let k = handled (Comes e s m) s m x t f (λ new i. consumed e s m new l i) (λ d new i j. keeps d new i j) h in
    at_end (λ u y. (here (map.get u.embargoes e) + one_if (comes_back e m) ≡ here (map.get s.embargoes e)) × (out e y.sends ≡ 0) × (back e y.sends ≡ one_if (goes_out e m))) k.last x t k.ends k.holds
  where
    keeps : (d new : Moment) → Comes e s m d → Act d new → Comes e s m new
    keeps d new i j =
        let r = acted e (here (map.get d.state.embargoes e)) 0 (one_if (goes_out e m)) d new (refl, i.1, i.2) j in
        (ap (λ n. n + one_if (comes_back e m)) r.0 ∙ i.0, r.1, r.2)

pub loopbacks : Loopbacks
loopbacks = record { commands = of_command; messages = of_message }
