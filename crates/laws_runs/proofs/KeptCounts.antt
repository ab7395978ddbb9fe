-- What references count through a step: one that is left has the count that it had, and a new one has none. Only a call
-- adds to the count of its reference. And the vat stays the one that it is.
use Rattle.std.proofs.Common.{◌≡◌, ◌⊎◌, inl, inr, ℕ, ◌+◌, ◌≤◌, ◌<◌, Bool, true, false, cond, nat_eq, List, [], ◌∷◌, Option, None, Some, refl, sym, ap, subst, ◌∙◌, arith}
use Rattle.std.specs.FinMap as map
use Rattle.rpc_msg.specs.declared.message.Message.{Message}
use Rattle.finite_maps.proofs.Tested.{equal, get_put, at_put, at_cut}
use Rattle.rpc_machine.specs.declared.node.Node.{Node}
use Rattle.rpc_machine.specs.declared.command.CallCommand.{CallCommand}
use Rattle.rpc_machine.specs.declared.command.Command.{Command}
use Rattle.rpc_machine.specs.declared.command.Command.TheVariants as command
use Rattle.rpc_machine.specs.declared.command.Granted.{Granted}
use Rattle.rpc_machine.specs.declared.command.Granted.TheVariants as granted
use Rattle.rpc_machine.specs.declared.command.Effects.{Effects}
use Rattle.rpc_machine.specs.declared.entries.Reference.{Reference}
use Rattle.rpc_machine.specs.State.{State}
use Rattle.rpc_machine.specs.Lists.{update, updated}
use Rattle.rpc_machine.specs.Progress.{with_refs, caps_of}
use Rattle.rpc_machine.specs.Messages.{unembargoed}
use Rattle.rpc_machine.specs.Faults.{fault_of}
use Rattle.rpc_machine.specs.Steps.{Does, Handles}
use Rattle.laws_acts.specs.Moments.{Moment, beginning}
use Rattle.laws_acts.specs.FirstActs.{Starts}
use Rattle.laws_acts.specs.FirstActs as first
use Rattle.laws_acts.specs.MessageActs.{Consumes}
use Rattle.laws_acts.specs.MessageActs as message
use Rattle.laws_acts.specs.SmallActs.{Act}
use Rattle.laws_acts.specs.SmallActs as act
use Rattle.laws_acts.proofs.EachStep.{done, handled}

-- The reference counts one call more.
abbrev pub counting : State → ℕ → Reference → State
counting s r x = record s { refs = map.insert s.refs r (record x { made = x.made + 1 }) }

-- Any command but a call.
abbrev pub IsNoCall : Command → Type 0
IsNoCall (command.Call c) = ⊥
IsNoCall c = Unit {0}

-- It was there, with the same count; or it is new.
abbrev pub KeptOrNew : State → State → ℕ → Reference → Type 0
KeptOrNew s t r y = ((x : Reference) × (map.get s.refs r ≡ Some x) × (y.made ≡ x.made)) ⊎ ((s.next_ref ≤ r) × (r < t.next_ref) × (y.made ≡ 0))

abbrev pub KeepsCounts : State → State → Type 0
KeepsCounts s t = (s.next_ref ≤ t.next_ref) × ((r : ℕ) (y : Reference) → map.get t.refs r ≡ Some y → KeptOrNew s t r y) × (t.vat ≡ s.vat)

pub same : (s : State) → KeepsCounts s s
same s = (omega arith, λ r y e. inl (y, e, refl), refl)

then : (s t u : State) → KeepsCounts s t → KeepsCounts t u → KeepsCounts s u
then s t u h k = (let a = h.0 in let b = k.0 in omega arith, λ r y e. second r y (k.1 r y e), k.2 ∙ h.2)
  where
    first : (r : ℕ) (y x : Reference) → y.made ≡ x.made → KeptOrNew s t r x → KeptOrNew s u r y
    first r y x e (inl f) = inl (f.0, f.1, e ∙ f.2)
    first r y x e (inr f) = let a = k.0 in let b = f.1 in inr (f.0, omega arith, e ∙ f.2)

    second : (r : ℕ) (y : Reference) → KeptOrNew t u r y → KeptOrNew s u r y
    second r y (inl f) = first r y f.0 f.2 (h.1 r f.0 f.1)
    second r y (inr f) = let a = h.0 in let b = f.0 in inr (omega arith, f.1, f.2)

one_new : (s : State) (n : Node) → KeepsCounts s (with_refs s (n ∷ []))
one_new s n = (omega arith, λ r y e. by r y (nat_eq r s.next_ref) refl (sym (get_put s.refs s.next_ref x r) ∙ e), refl)
  where
    x : Reference
    x = record { head = n; embargo = None; made = 0 }

    by : (r : ℕ) (y : Reference) (b : Bool) → nat_eq r s.next_ref ≡ b → cond b (Some x) (map.get s.refs r) ≡ Some y → KeptOrNew s (with_refs s (n ∷ [])) r y
    by r y true e f =
        let i = equal r s.next_ref e in
        let j : x ≡ y = cc in
        inr (omega arith, omega arith, ap (λ (z : Reference). z.made) (sym j))
    by r y false e f = inl (y, f, refl)

-- ---- Tables

more_refs : (s t : State) (ns : List Node) → KeepsCounts s t → KeepsCounts s (record t { refs = (with_refs t ns).refs; next_ref = (with_refs t ns).next_ref })
more_refs s t [] h = h
more_refs s t (n ∷ ns) h = more_refs s (with_refs t (n ∷ [])) ns (then s t (with_refs t (n ∷ [])) h (one_new t n))

replaced : (s t : State) (k : ℕ) (x y : Reference) → map.get t.refs k ≡ Some x → y.made ≡ x.made → KeepsCounts s t → KeepsCounts s (record t { refs = map.insert t.refs k y })
replaced s t k x y e f h = then s t (record t { refs = map.insert t.refs k y }) h (omega arith, each, refl)
  where
    each : (r : ℕ) (z : Reference) → map.get (map.insert t.refs k y) r ≡ Some z → KeptOrNew t (record t { refs = map.insert t.refs k y }) r z
    each r z = at_put (λ j o. o ≡ Some z → KeptOrNew t (record t { refs = map.insert t.refs k y }) j z) t.refs k y (λ g. (let i : y ≡ z = cc in inl (x, e, ap (λ (a : Reference). a.made) (sym i) ∙ f))) (λ j g i. inl (z, i, refl)) r

dropped : (s t : State) (k : ℕ) → KeepsCounts s t → KeepsCounts s (record t { refs = map.remove t.refs k })
dropped s t k h = then s t (record t { refs = map.remove t.refs k }) h (omega arith, each, refl)
  where
    each : (r : ℕ) (z : Reference) → map.get (map.remove t.refs k) r ≡ Some z → KeptOrNew t (record t { refs = map.remove t.refs k }) r z
    each r z = at_cut (λ j o. o ≡ Some z → KeptOrNew t (record t { refs = map.remove t.refs k }) j z) t.refs k (λ g. cc) (λ j g i. inl (z, i, refl)) r

lifted : (s : State) (k : ℕ) → KeepsCounts s (record s { refs = update s.refs k unembargoed })
lifted s k = by (map.get s.refs k) refl
  where
    by : (o : Option Reference) → map.get s.refs k ≡ o → KeepsCounts s (record s { refs = updated s.refs k unembargoed o })
    by None e = same s
    by (Some x) e = replaced s s k x (unembargoed x) e refl (same s)

-- ---- The acts

-- From where counts are kept: a call adds one to its reference first.
abbrev BeganAt : State → Command → Granted → State → Type 0
BeganAt s (command.Call k) g b = (y : Reference) × (map.get s.refs k.reference.0 ≡ Some y) × (g ≡ granted.Call (record { 0 = s.next_call })) × (b ≡ counting s k.reference.0 y)
BeganAt s c g b = b ≡ s

abbrev Began : State → Command → Granted → State → Type 0
Began s c g t = (b : State) × BeganAt s c g b × KeepsCounts b t

started : (s : State) (c : Command) (g : Granted) (new : Moment) → Starts (beginning s) c g new → Began s c g new.state
started s c g new (first.Hosts o e a h) = rw (e, h) (s, refl, one_new s _)
started s c g new (first.Clones r x e f a h) = rw (e, h) (s, refl, one_new s _)
started s c g new (first.Drops r x e f a h) = rw (e, h) (s, refl, dropped s s r.0 (same s))
started s c g new (first.AsksRoot q e f a h) = rw (e, h) (s, refl, same s)
started s c g new (first.CallsOut k x q t ds es e f j w l m a h) = rw (e, h) (counting s k.reference.0 x, (x, f, a, refl), same (counting s k.reference.0 x))
started s c g new (first.CallsHere k x u e f j w l a h) = rw (e, h) (counting s k.reference.0 x, (x, f, a, refl), same (counting s k.reference.0 x))
started s c g new (first.CallsLater k x u z b e f j l m a h) = rw (e, h) (counting s k.reference.0 x, (x, f, a, refl), same (counting s k.reference.0 x))
started s c g new (first.NamesField k path from e f a h) = rw (e, h) (s, refl, one_new s _)
started s c g new (first.Promises p e f a h) = rw (e, h) (s, refl, one_new s _)
started s c g new (first.Fixes p r x key calls e f j k a h) = rw (e, h) (s, refl, same s)
started s c g new (first.Rejects p why key calls e f j a h) = rw (e, h) (s, refl, same s)
started s c g new (first.Answers t payload refs u e f a h) = rw (e, h) (s, refl, same s)
started s c g new (first.Fails t why u e f a h) = rw (e, h) (s, refl, same s)
started s c g new (first.Finishes k from e f a h) = rw (e, h) (s, refl, same s)
started s c g new (first.StaysPut r x e f a h) = rw (e, h) (s, refl, same s)
started s c g new (first.Breaks r x reason e f j k a h) = rw (e, h) (s, refl, replaced s s r.0 x _ f refl (same s))
started s c g new (first.Switches r x by n e f j k l m a h) = rw (e, h) (s, refl, replaced s s r.0 x _ f refl (same s))
started s c g new (first.Turns r x by n t k e f j l m w u v a h) = rw (e, h) (s, refl, replaced s s r.0 x _ f refl (same s))

consumed : (s : State) (m : Message) (new : Moment) → Consumes (beginning s) m new → KeepsCounts s new.state
consumed s m new (message.OpensRoot q u e f j h) = rw h (same s)
consumed s m new (message.OpensCall c u e f j h) = rw h (same s)
consumed s m new (message.Loses b x e f j k h) = rw h (same s)
consumed s m new (message.ComesToCall b x c e f j k l h) = rw h (same s)
consumed s m new (message.ComesToRelay b x u e f j k l h) = rw h (same s)
consumed s m new (message.IsFinished x y e f j h) = rw h (same s)
consumed s m new (message.IsResolved r e h) = rw h (same s)
consumed s m new (message.IsReleased r e h) = rw h (same s)
consumed s m new (message.SendsBack t to x e f h) = rw h (same s)
consumed s m new (message.Lifts t x b e f h) = rw h (lifted s b.reference.0)
consumed s m new (message.SendsForeign p e f h) = rw h (same s)
consumed s m new (message.SendsOther n e h) = rw h (same s)
consumed s m new (message.TakesBack r e h) = rw h (same s)
consumed s m new (message.Ignores r e h) = rw h (same s)

acted : (s : State) (d new : Moment) → KeepsCounts s d.state → Act d new → KeepsCounts s new.state
acted s d new i (act.Delivers c n rest u e f h) = rw h (more_refs s d.state c.request.caps i)
acted s d new i (act.Waits c n rest p calls e f j h) = rw h i
acted s d new i (act.Holds c n rest u path x e f j h) = rw h i
acted s d new i (act.Relays c n rest q t ds es e f j k h) = rw h i
acted s d new i (act.Breaks c n rest reason e f h) = rw h i
acted s d new i (act.NextArisen u v rest e f h) = rw h i
acted s d new i (act.Knows u v fit x ps e f j k h) = rw h i
acted s d new i (act.Reports c v from e f h) = rw h (more_refs s d.state (caps_of v) i)
acted s d new i (act.TellsNobody c v e f h) = rw h i
acted s d new i (act.MakesReturn q v x b ds es e f j k h) = rw h i
acted s d new i (act.SendsReturn x y e f j h) = rw h i
acted s d new i (act.Clears x e f h) = rw h i
acted s d new i (act.Lists x e h) = rw h i
acted s d new i (act.SendsResolve x rest k es e w f h) = rw h i
acted s d new i (act.SendsBroken x rest reason e f h) = rw h i
acted s d new i (act.PromiseGoes p to w e f h) = rw h i
acted s d new i (act.OutcomeGoes u x v w e f j k l h) = rw h i
acted s d new i (act.ImportGoes k x w e f h) = rw h i
acted s d new i (act.Sweeps over e f j h) = rw h i
acted s d new i (act.SendsFinish q x rest e f j k l h) = rw h i
acted s d new i (act.Closes q x rest e f j k l h) = rw h i
acted s d new i (act.Releases w e f h) = rw h i

-- ---- Steps

began : (s : State) (c : Command) (g : Granted) (x : Effects) (new : State) → Does s c g x new → Began s c g new
began s c g x new h =
    let k = done (λ d. Began s c g d.state) s c g x new (λ d i. started s c g d i) (λ d e i j. (i.0, i.1, acted i.0 d e i.2 j)) h in
    rw k.ends.state k.holds

pub does : (s : State) (c : Command) (a : Granted) (x : Effects) (new : State) → IsNoCall c → Does s c a x new → KeepsCounts s new
does s c a x new i h = let k = began s c a x new h in subst (λ (b : State). KeepsCounts b new) (by c i k.0 k.1) k.2
  where
    by : (c : Command) → IsNoCall c → (b : State) → BeganAt s c a b → b ≡ s
    by (command.Call k) i b e = absurd i
    by c i b e = e

pub does_call : (s : State) (c : CallCommand) (a : Granted) (x : Effects) (new : State) → Does s (command.Call c) a x new → (y : Reference) × (map.get s.refs c.reference.0 ≡ Some y) × (a ≡ granted.Call (record { 0 = s.next_call })) × KeepsCounts (counting s c.reference.0 y) new
does_call s c a x new h =
    let k = began s (command.Call c) a x new h in
    let e = k.1 in
    (e.0, e.1, e.2, subst (λ (b : State). KeepsCounts b new) e.3 k.2)

pub handles : (s : State) (m : Message) (x : Effects) (new : State) → fault_of s m ≡ None → Handles s m x new → KeepsCounts s new
handles s m x new free h =
    let k = handled (λ d. KeepsCounts s d.state) s m x new free (λ d i. consumed s m d i) (λ d e i j. acted s d e i j) h in
    rw k.ends.state k.holds
