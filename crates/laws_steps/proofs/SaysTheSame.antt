-- What a settled promise and a known outcome says stays so in each act, while it stands. Keys are taken only before
-- anything goes: by the first act of a step, and where the first outcome of it becomes known. All later ones are
-- exceptions, which take none.
use Rattle.std.proofs.Common.{◌≡◌, ◌⊎◌, inl, inr, ℕ, ◌+◌, Bool, true, false, List, [], ◌∷◌, ◌++◌, ◌||◌, Option, None, Some, is_some, refl, sym, ap, subst, ◌∙◌}
use Rattle.std.specs.Ordering.{nat_cmp}
use Rattle.std.specs.FinMap as map
use Rattle.laws_acts.specs.rpc_msg.specs.Payloads.{Contents as Payload}
use Rattle.laws_acts.specs.rpc_msg.specs.declared.exception.Exception.{Exception}
use Rattle.laws_acts.specs.rpc_msg.specs.declared.message.Message.{Message}
use Rattle.finite_maps.specs.Tally.{Map}
use Rattle.finite_maps.proofs.Tested.{at_put, at_cut}
use Rattle.laws_acts.specs.rpc_machine.specs.declared.node.Node.{Node}
use Rattle.laws_acts.specs.rpc_machine.specs.declared.node.Node.TheVariants as node
use Rattle.laws_acts.specs.rpc_machine.specs.declared.node.Reason.TheVariants.{BrokenPromise}
use Rattle.laws_acts.specs.rpc_machine.specs.declared.calls.WaitingCall.{WaitingCall}
use Rattle.laws_acts.specs.rpc_machine.specs.declared.calls.HeldCall.{HeldCall}
use Rattle.laws_acts.specs.rpc_machine.specs.declared.calls.Caller.{Caller}
use Rattle.laws_acts.specs.rpc_machine.specs.declared.calls.Caller.TheVariants as caller
use Rattle.laws_acts.specs.rpc_machine.specs.declared.calls.Promise.{Promise}
use Rattle.laws_acts.specs.rpc_machine.specs.declared.calls.Promise.TheVariants as promise
use Rattle.laws_acts.specs.rpc_machine.specs.declared.calls.Value.{Value}
use Rattle.laws_acts.specs.rpc_machine.specs.declared.calls.Value.TheVariants as value
use Rattle.laws_acts.specs.rpc_machine.specs.declared.calls.KeptOutcome.{KeptOutcome}
use Rattle.laws_acts.specs.rpc_machine.specs.declared.command.Command.{Command}
use Rattle.laws_acts.specs.rpc_machine.specs.declared.command.Granted.{Granted}
use Rattle.laws_acts.specs.rpc_machine.specs.State.{State}
use Rattle.laws_acts.specs.rpc_machine.specs.Nodes.{value_of}
use Rattle.laws_acts.specs.rpc_machine.specs.Settling.{PutsIn, Untangles, Fits}
use Rattle.laws_acts.specs.rpc_machine.specs.Laws.{OfEachStep}
use Rattle.laws_acts.specs.Moments.{Clearing, Moment, beginning, is_collecting}
use Rattle.laws_acts.specs.FirstActs.{Starts}
use Rattle.laws_acts.specs.FirstActs as first
use Rattle.laws_acts.specs.MessageActs.{Consumes}
use Rattle.laws_acts.specs.MessageActs as message
use Rattle.laws_acts.specs.SmallActs.{Act}
use Rattle.laws_acts.specs.SmallActs as act
use Rattle.laws_acts.proofs.EachStep.{IsLaw, of_each_step}
use Rattle.laws_acts.proofs.Viewed.{AreOurs}
use Rattle.laws_steps.specs.Settled as laws
use Rattle.laws_steps.proofs.Exceptions.{AllExceptions, one_more}

-- ---- What is said

abbrev Fixed : Node → Option Promise → Type 0
Fixed to p = p ≡ Some (promise.Fixed to)

abbrev Known : Value → Option KeptOutcome → Type 0
Known v x = value_of x ≡ Some v

abbrev FixedOrGone : Node → Option Promise → Type 0
FixedOrGone to p = (p ≡ None) ⊎ Fixed to p

abbrev KnownOrGone : Value → Option KeptOutcome → Type 0
KnownOrGone v x = (x ≡ None) ⊎ Known v x

never_open : {A : Type 0} (to : Node) (calls : List WaitingCall) → FixedOrGone to (Some (promise.Open calls)) → A
never_open to calls (inl h) = cc
never_open to calls (inr h) = cc

never_unknown : {A : Type 0} (v : Value) (x : KeptOutcome) → x.value ≡ None → KnownOrGone v (Some x) → A
never_unknown v x e (inl h) = cc
never_unknown v x e (inr h) = let f : None ≡ Some v = sym e ∙ h in cc

still_known : (v : Value) (x : KeptOutcome) (w : List HeldCall) → KnownOrGone v (Some x) → KnownOrGone v (Some (record x { waiting = w }))
still_known v x w (inl h) = cc
still_known v x w (inr h) = inr h

-- ---- What arises

-- At most the first that is to become known is no exception.
abbrev OneMay : List (ℕ × Value) → List (ℕ × Value) → Type 0
OneMay [] [] = Unit {0}
OneMay [] (x ∷ xs) = AllExceptions xs
OneMay (y ∷ ys) xs = AllExceptions xs

one_may_more : (ys xs : List (ℕ × Value)) (o : ℕ) (e : Exception) → OneMay ys xs → OneMay ys (xs ++ (o, value.Exception e) ∷ [])
one_may_more [] [] o e h = tt
one_may_more [] (x ∷ xs) o e h = one_more xs o e h
one_may_more (y ∷ ys) xs o e h = one_more xs o e h

-- ---- Of the moments of a step

module _ (s : State) where
  abbrev AtPromise : ℕ → Option Promise → Type 0
  AtPromise p x = (to : Node) → Fixed to (map.get s.promises p) → FixedOrGone to x

  abbrev AtOutcome : ℕ → Option KeptOutcome → Type 0
  AtOutcome o x = (v : Value) → Known v (map.get s.outcomes o) → KnownOrGone v x

  abbrev Stands : ℕ → Option Promise → Type 0
  Stands p x = (to : Node) → Fixed to (map.get s.promises p) → Fixed to x

  abbrev Promises : Map Promise → Type 0
  Promises m = (p : ℕ) → AtPromise p (map.get m p)

  abbrev Outcomes : Map KeptOutcome → Type 0
  Outcomes m = (o : ℕ) → AtOutcome o (map.get m o)

  -- No promise has gone.
  abbrev AllStand : Map Promise → Type 0
  AllStand m = (p : ℕ) → Stands p (map.get m p)

  abbrev IsNew : Option Clearing → Type 0
  IsNew None = Unit {0}
  IsNew (Some x) = value_of (map.get s.outcomes x.outcome) ≡ None

  -- Nothing has gone yet; or all that is to become known is exceptions.
  abbrev Phase : Map Promise → Moment → Type 0
  Phase m d = (AllStand m × OneMay d.coming d.arisen × AreOurs d.telling × (is_collecting d ≡ false)) ⊎ (AllExceptions d.coming × AllExceptions d.arisen)

  abbrev Fine : Moment → Type 0
  Fine d = Promises d.state.promises × Outcomes d.state.outcomes × IsNew d.clearing × Phase d.state.promises d

  -- ---- Tables

  stand_says : (m : Map Promise) → AllStand m → Promises m
  stand_says m h p to e = inr (h p to e)

  put_open : (m : Map Promise) (p : ℕ) (calls : List WaitingCall) (y : Promise) → map.get m p ≡ Some (promise.Open calls) → Promises m → Promises (map.insert m p y)
  put_open m p calls y e h = at_put AtPromise m p y (λ to f. never_open to calls (subst (FixedOrGone to) e (h p to f))) (λ j g. h j)

  stand_open : (m : Map Promise) (p : ℕ) (calls : List WaitingCall) (y : Promise) → map.get m p ≡ Some (promise.Open calls) → AllStand m → AllStand (map.insert m p y)
  stand_open m p calls y e h = at_put Stands m p y (λ to f. never_open to calls (inr (subst (Fixed to) e (h p to f)))) (λ j g. h j)

  stand_new : (m : Map Promise) (p : ℕ) (y : Promise) → map.get m p ≡ None → AllStand m → AllStand (map.insert m p y)
  stand_new m p y e h = at_put Stands m p y (λ to f. (let g : None ≡ Some (promise.Fixed to) = sym e ∙ h p to f in cc)) (λ j g. h j)

  put_unknown : (m : Map KeptOutcome) (o : ℕ) (x y : KeptOutcome) → map.get m o ≡ Some x → x.value ≡ None → Outcomes m → Outcomes (map.insert m o y)
  put_unknown m o x y e f h = at_put AtOutcome m o y (λ v g. never_unknown v x f (subst (KnownOrGone v) e (h o v g))) (λ j g. h j)

  put_held : (m : Map KeptOutcome) (o : ℕ) (x : KeptOutcome) (w : List HeldCall) → map.get m o ≡ Some x → Outcomes m → Outcomes (map.insert m o (record x { waiting = w }))
  put_held m o x w e h = at_put AtOutcome m o (record x { waiting = w }) (λ v g. still_known v x w (subst (KnownOrGone v) e (h o v g))) (λ j g. h j)

  put_new : (m : Map KeptOutcome) (o : ℕ) (y : KeptOutcome) → value_of (map.get s.outcomes o) ≡ None → Outcomes m → Outcomes (map.insert m o y)
  put_new m o y e h = at_put AtOutcome m o y (λ v g. (let f : None ≡ Some v = sym e ∙ g in cc)) (λ j g. h j)

  -- An outcome that is not known now was not known.
  was_unknown : (m : Map KeptOutcome) (o : ℕ) (x : KeptOutcome) → map.get m o ≡ Some x → x.value ≡ None → Outcomes m → value_of (map.get s.outcomes o) ≡ None
  was_unknown m o x e f h = by (value_of (map.get s.outcomes o)) refl
    where
      by : (v : Option Value) → value_of (map.get s.outcomes o) ≡ v → v ≡ None
      by None g = refl
      by (Some v) g = never_unknown v x f (subst (KnownOrGone v) e (h o v g))

  -- ---- A value that fits

  placed : (t new : State) (o : ℕ) (who : Caller) (w : List HeldCall) (payload : Payload) (i : ℕ) (n : Node) (rest out : List Node) → PutsIn t o who w payload i n rest out new → AllStand t.promises → AllStand new.promises
  placed t new o who w payload i n rest out (inl h) k = rw h.2 k
  placed t new o who w payload i n rest out (inr h) k = let g = h.1 in rw g.3 (stand_new t.promises g.0 (promise.Open []) g.1 k)

  untangled : (t new : State) (o : ℕ) (who : Caller) (w : List HeldCall) (payload : Payload) (i : ℕ) (caps out : List Node) → Untangles t o who w payload i caps out new → AllStand t.promises → AllStand new.promises
  untangled t new o who w payload i [] out h k = rw h.1 k
  untangled t new o who w payload i (n ∷ ns) out h k = placed h.1 new o who w payload i n h.0 out h.3 (untangled t h.1 o who w payload (i + 1) ns h.0 h.2 k)

  fitted : (t new : State) (o : ℕ) (who : Caller) (w : List HeldCall) (v fit : Value) → Fits t o who w v fit new → AllStand t.promises → AllStand new.promises
  fitted t new o who w (value.Exception e) fit h k = rw h.1 k
  fitted t new o who w (value.Results payload caps) fit h k = untangled t new o who w payload 0 caps h.0 h.2 k

  fitted_later : (t new : State) (o : ℕ) (who : Caller) (w : List HeldCall) (v fit : Value) → AllExceptions ((o, v) ∷ []) → Fits t o who w v fit new → Promises t.promises → Promises new.promises
  fitted_later t new o who w (value.Exception e) fit i h k = rw h.1 k
  fitted_later t new o who w (value.Results payload caps) fit i h k = absurd i.0

-- ---- The first act

module _ (s : State) where
  begun : AllStand s s.promises
  begun p to e = e

  says : Promises s s.promises
  says = stand_says s s.promises begun

  old : Outcomes s s.outcomes
  old o v e = inr e

  opened : (o : ℕ) (y : KeptOutcome) → map.get s.outcomes o ≡ None → Outcomes s (map.insert s.outcomes o y)
  opened o y e = put_new s s.outcomes o y (ap value_of e) old

  fixes : (key : ℕ) (calls : List WaitingCall) (to : Node) → map.get s.promises key ≡ Some (promise.Open calls) → (let m = map.insert s.promises key (promise.Fixed to) in Promises s m × Outcomes s s.outcomes × Unit {0} × ((AllStand s m × Unit {0} × Unit {0} × (false ≡ false)) ⊎ (Unit {0} × Unit {0})))
  fixes key calls to e = let k = stand_open s s.promises key calls (promise.Fixed to) e begun in (stand_says s (map.insert s.promises key (promise.Fixed to)) k, old, tt, inl (k, tt, tt, refl))

  started : (c : Command) (g : Granted) (new : Moment) → Starts (beginning s) c g new → Fine s new
  started c g new (first.Hosts o e a h) = rw h (says, old, tt, inl (begun, tt, tt, refl))
  started c g new (first.Clones r x e f a h) = rw h (says, old, tt, inl (begun, tt, tt, refl))
  started c g new (first.Drops r x e f a h) = rw h (says, old, tt, inl (begun, tt, tt, refl))
  started c g new (first.AsksRoot q e f a h) = rw h (says, old, tt, inl (begun, tt, tt, refl))
  started c g new (first.CallsOut k x q t ds es e f j w l m a h) = rw h (says, old, tt, inl (begun, tt, tt, refl))
  started c g new (first.CallsHere k x u e f j w l a h) = rw h (says, opened u _ l, tt, inl (begun, tt, tt, refl))
  started c g new (first.CallsLater k x u z b e f j l m a h) = rw h (says, opened u _ m, tt, inl (begun, tt, tt, refl))
  started c g new (first.NamesField k path from e f a h) = rw h (says, old, tt, inl (begun, tt, tt, refl))
  started c g new (first.Promises p e f a h) = rw h (let k = stand_new s s.promises p (promise.Open []) f begun in (stand_says s (map.insert s.promises p (promise.Open [])) k, old, tt, inl (k, tt, tt, refl)))
  started c g new (first.Fixes p r x key calls e f j k a h) = rw h (fixes key calls x.head k)
  started c g new (first.Rejects p why key calls e f j a h) = rw h (fixes key calls (node.Broken BrokenPromise) j)
  started c g new (first.Answers t payload refs u e f a h) = rw h (says, old, tt, inl (begun, tt, tt, refl))
  started c g new (first.Fails t why u e f a h) = rw h (says, old, tt, inl (begun, tt, tt, refl))
  started c g new (first.Finishes k from e f a h) = rw h (says, old, tt, inl (begun, tt, tt, refl))
  started c g new (first.StaysPut r x e f a h) = rw h (says, old, tt, inl (begun, tt, tt, refl))
  started c g new (first.Breaks r x reason e f j k a h) = rw h (says, old, tt, inl (begun, tt, tt, refl))
  started c g new (first.Switches r x by n e f j k l m a h) = rw h (says, old, tt, inl (begun, tt, tt, refl))
  started c g new (first.Turns r x by n t k e f j l m w u v a h) = rw h (says, old, tt, inl (begun, tt, tt, refl))

  consumed : (m : Message) (new : Moment) → Consumes (beginning s) m new → Fine s new
  consumed m new (message.OpensRoot q u e f j h) = rw h (says, opened u _ j, tt, inl (begun, tt, tt, refl))
  consumed m new (message.OpensCall c u e f j h) = rw h (says, opened u _ j, tt, inl (begun, tt, tt, refl))
  consumed m new (message.Loses b x e f j k h) = rw h (says, old, tt, inl (begun, tt, tt, refl))
  consumed m new (message.ComesToCall b x c e f j k l h) = rw h (says, old, tt, inl (begun, tt, tt, refl))
  consumed m new (message.ComesToRelay b x u e f j k l h) = rw h (says, old, tt, inl (begun, tt, tt, refl))
  consumed m new (message.IsFinished x y e f j h) = rw h (says, old, tt, inl (begun, tt, tt, refl))
  consumed m new (message.IsResolved r e h) = rw h (says, old, tt, inl (begun, tt, tt, refl))
  consumed m new (message.IsReleased r e h) = rw h (says, old, tt, inl (begun, tt, tt, refl))
  consumed m new (message.SendsBack t to x e f h) = rw h (says, old, tt, inl (begun, tt, tt, refl))
  consumed m new (message.Lifts t x b e f h) = rw h (says, old, tt, inl (begun, tt, tt, refl))
  consumed m new (message.SendsForeign p e f h) = rw h (says, old, tt, inl (begun, tt, tt, refl))
  consumed m new (message.SendsOther n e h) = rw h (says, old, tt, inl (begun, tt, tt, refl))
  consumed m new (message.TakesBack r e h) = rw h (says, old, tt, inl (begun, tt, tt, refl))
  consumed m new (message.Ignores r e h) = rw h (says, old, tt, inl (begun, tt, tt, refl))

-- ---- The acts

nothing_goes : {A : Type 0} (d : Moment) → is_collecting d ≡ true → is_collecting d ≡ false → A
nothing_goes d e f = absurd (let bad : true ≡ false = sym e ∙ f in cc)

module _ (s : State) (d : Moment) where
  waits : (p : ℕ) (calls after : List WaitingCall) → map.get d.state.promises p ≡ Some (promise.Open calls) → Phase s d.state.promises d → Phase s (map.insert d.state.promises p (promise.Open after)) d
  waits p calls after e (inl h) = inl (stand_open s d.state.promises p calls (promise.Open after) e h.0, h.1, h.2, h.3)
  waits p calls after e (inr h) = inr h

  breaks : (o : ℕ) (e : Exception) → Phase s d.state.promises d → Phase s d.state.promises (record d { arisen = d.arisen ++ (o, value.Exception e) ∷ [] })
  breaks o e (inl h) = inl (h.0, one_may_more d.coming d.arisen o e h.1, h.2, h.3)
  breaks o e (inr h) = inr (h.0, one_more d.arisen o e h.1)

  next_arisen : (o : ℕ) (v : Value) (rest : List (ℕ × Value)) → d.coming ≡ [] → d.arisen ≡ (o, v) ∷ rest → Phase s d.state.promises d → Phase s d.state.promises (record d { arisen = rest; coming = (o, v) ∷ [] })
  next_arisen o v rest c e (inl h) = inl (h.0, first_too d.coming d.arisen c e h.1, h.2, h.3)
    where
      first_too : (ys xs : List (ℕ × Value)) → ys ≡ [] → xs ≡ (o, v) ∷ rest → OneMay ys xs → AllExceptions rest
      first_too [] [] c e h = cc
      first_too [] (x ∷ xs) c e h = let f : xs ≡ rest = cc in subst AllExceptions f h
      first_too (y ∷ ys) xs c e h = cc
  next_arisen o v rest c e (inr h) = let k = subst AllExceptions e h.1 in inr ((k.0, tt), k.1)

  knows : (o : ℕ) (v fit : Value) (x : KeptOutcome) (ps : Map Promise) → d.coming ≡ (o, v) ∷ [] → Fits d.state o x.caller x.waiting v fit (record (d.state) { promises = ps }) → Promises s d.state.promises → Phase s d.state.promises d → Promises s ps × AllExceptions d.arisen
  knows o v fit x ps c h i (inl k) =
      let a = fitted s d.state (record (d.state) { promises = ps }) o x.caller x.waiting v fit h k.0 in
      (stand_says s ps a, subst (λ (ys : List (ℕ × Value)). OneMay ys d.arisen) c k.1)
  knows o v fit x ps c h i (inr k) = (fitted_later s d.state (record (d.state) { promises = ps }) o x.caller x.waiting v fit (subst AllExceptions c k.0) h i, k.1)

  goes : (m : Map Promise) → is_collecting d ≡ true → Phase s d.state.promises d → Phase s m d
  goes m e (inl h) = nothing_goes d e h.3
  goes m e (inr h) = inr h

  tells_no_more : Phase s d.state.promises d → Phase s d.state.promises (record d { telling = [] })
  tells_no_more (inl h) = inl (h.0, h.1, tt, h.3)
  tells_no_more (inr h) = inr h

  tells_peer : (q : _) (v : Value) → d.telling ≡ (caller.Peer q, v) ∷ [] → Phase s d.state.promises d → AllExceptions d.coming × AllExceptions d.arisen
  tells_peer q v e (inl h) = absurd (subst AreOurs e h.2)
  tells_peer q v e (inr h) = h

  sends : Phase s d.state.promises d → Phase s d.state.promises (record d { saying = None })
  sends (inl h) = inl (h.0, h.1, h.2, swept_not d.saying d.swept h.3)
    where
      swept_not : {X : Type 0} (o : Option X) (b : Bool) → (is_some o || b) ≡ false → b ≡ false
      swept_not None b e = e
      swept_not (Some x) b e = let f : true ≡ false = e in cc
  sends (inr h) = inr h

acted : (s : State) (d new : Moment) → Fine s d → Act d new → Fine s new
acted s d new i (act.Delivers c n rest u e f h) = rw h i
acted s d new i (act.Waits c n rest p calls e f j h) = let m = d.state.promises in rw h (put_open s m p calls _ j i.0, i.1, i.2, waits s d p calls _ j i.3)
acted s d new i (act.Holds c n rest u path x e f j h) = rw h (i.0, put_held s d.state.outcomes u x _ j i.1, i.2, i.3)
acted s d new i (act.Relays c n rest q t ds es e f j k h) = rw h i
acted s d new i (act.Breaks c n rest reason e f h) = rw h (i.0, i.1, i.2, breaks s d c.outcome _ i.3)
acted s d new i (act.NextArisen u v rest e f h) = rw h (i.0, i.1, i.2, next_arisen s d u v rest (ap (λ (m : Moment). m.coming) e) f i.3)
acted s d new i (act.Knows u v fit x ps e f j k h) =
    let a = knows s d u v fit x ps (ap (λ (m : Moment). m.coming) e) k i.0 i.3 in
    rw h (a.0, put_unknown s d.state.outcomes u x _ f j i.1, was_unknown s d.state.outcomes u x f j i.1, inr (tt, a.1))
acted s d new i (act.Reports c v from e f h) = rw h (i.0, i.1, i.2, tells_no_more s d i.3)
acted s d new i (act.TellsNobody c v e f h) = rw h (i.0, i.1, i.2, tells_no_more s d i.3)
acted s d new i (act.MakesReturn q v x b ds es e f j k h) = rw h (i.0, i.1, i.2, inr (tells_peer s d q v e i.3))
acted s d new i (act.SendsReturn x y e f j h) = rw h (i.0, i.1, i.2, sends s d i.3)
acted s d new i (act.Clears x e f h) =
    let a = subst (IsNew s) (ap (λ (m : Moment). m.clearing) e) i.2 in
    rw h (i.0, put_new s d.state.outcomes x.outcome _ a i.1, tt, i.3)
acted s d new i (act.Lists x e h) = rw h i
acted s d new i (act.SendsResolve x rest k es e w f h) = rw h i
acted s d new i (act.SendsBroken x rest reason e f h) = rw h i
acted s d new i (act.PromiseGoes p to w e f h) = rw h (at_cut (AtPromise s) d.state.promises p (λ n g. inl refl) (λ j g. i.0 j), i.1, i.2, goes s d (map.remove d.state.promises p) w i.3)
acted s d new i (act.OutcomeGoes u x v w e f j k l h) = rw h (i.0, at_cut (AtOutcome s) d.state.outcomes u (λ n g. inl refl) (λ j g. i.1 j), i.2, i.3)
acted s d new i (act.ImportGoes k x w e f h) = rw h i
acted s d new i (act.Sweeps over e f j h) = rw h (i.0, i.1, i.2, inr (subst AllExceptions (sym (ap (λ (m : Moment). m.coming) e)) tt, subst AllExceptions (sym f) tt))
acted s d new i (act.SendsFinish q x rest e f j k l h) = rw h i
acted s d new i (act.Closes q x rest e f j k l h) = rw h i
acted s d new i (act.Releases w e f h) = rw h i

-- ---- The law

law : IsLaw Fine laws.SaysTheSame
law = record {
  starts = λ s c g new f h. started s c g new h;
  consumes = λ s m new f h. consumed s m new h;
  act = λ s d new i h. acted s d new i h;
  ends = λ s last x t i h. rw h.state (record { promises = λ p to e. i.0 p to e; outcomes = λ o v e. i.1 o v e });
  stays = λ s. record { promises = λ p to e. inr e; outcomes = λ o v e. inr e };
  falls = λ s n x. record { promises = λ p to e. inl (map.get-empty nat_cmp p); outcomes = λ o v e. inl (map.get-empty nat_cmp o) };
}

pub say_the_same : OfEachStep laws.SaysTheSame
say_the_same = of_each_step law
