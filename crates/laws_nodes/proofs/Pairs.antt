-- A reference and its embargo name one another: each act keeps that.
use Rattle.std.proofs.Common.{◌≡◌, ℕ, ◌+◌, ◌≤◌, ◌<◌, Bool, true, false, nat_eq, nat_le, List, [], ◌∷◌, ◌++◌, Option, None, Some, refl, sym, ap, subst, ◌∙◌, arith}
use Rattle.std.specs.Ordering.{nat_cmp}
use Rattle.std.specs.FinMap as map
use Rattle.finite_maps.specs.Tally.{Map}
use Rattle.rpc_msg.specs.declared.ids.EmbargoId.{EmbargoId}
use Rattle.rpc_msg.specs.declared.message.Message.{Message}
use Rattle.rpc_machine.specs.declared.node.Node.{Node}
use Rattle.rpc_machine.specs.declared.command.Command.{Command}
use Rattle.rpc_machine.specs.declared.command.Granted.{Granted}
use Rattle.rpc_machine.specs.declared.command.Effects.{Effects}
use Rattle.rpc_machine.specs.declared.entries.Reference.{Reference}
use Rattle.rpc_machine.specs.declared.entries.Embargo.{Embargo}
use Rattle.rpc_machine.specs.State.{State, start}
use Rattle.rpc_machine.specs.Lists.{updated}
use Rattle.rpc_machine.specs.Progress.{with_refs, caps_of}
use Rattle.rpc_machine.specs.Messages.{unembargoed}
use Rattle.rpc_machine.specs.Down.{fallen}
use Rattle.laws_steps.specs.NodesThere.{IsReached}
use Rattle.laws_steps.proofs.Kept.{in_each}
use Rattle.laws_acts.specs.Moments.{Moment, beginning}
use Rattle.laws_acts.specs.FirstActs.{Starts}
use Rattle.laws_acts.specs.FirstActs as first
use Rattle.laws_acts.specs.MessageActs.{Consumes}
use Rattle.laws_acts.specs.MessageActs as message
use Rattle.laws_acts.specs.SmallActs.{Act}
use Rattle.laws_acts.specs.SmallActs as act
use Rattle.laws_acts.proofs.EachStep.{IsLaw, of_each_step}
use Rattle.laws_nodes.specs.Embargoes.{embargo_of, IsOf, HasIts, NamesIt, IsNamed, IsOld, Paired, ArePaired}
use Rattle.finite_maps.proofs.Tested.{itself, at_put, at_cut}

abbrev id_of : Option EmbargoId → ℕ
id_of None = 0
id_of (Some k) = k.0

-- ---- The references and embargoes of a vat

module _ {rs : Map Reference} {es : Map Embargo} {nx : ℕ} (i : Paired rs es nx) where
  -- What holds of the embargoes still holds where the references say the same.
  still_named : (rs' : Map Reference) → ((e r : ℕ) → NamesIt e (map.get rs r) → NamesIt e (map.get rs' r)) → (e : ℕ) (o : Option Embargo) → IsNamed rs e o → IsNamed rs' e o
  still_named rs' f e None h = tt
  still_named rs' f e (Some b) h = f e b.reference.0 h

  put_ref : (r : ℕ) (x y : Reference) → map.get rs r ≡ Some x → y.embargo ≡ x.embargo → Paired (map.insert rs r y) es nx
  put_ref r x y there f = record {
    theirs = at_put (λ q o. HasIts es q (embargo_of o)) rs r y (subst (HasIts es r) (sym f) (subst (λ o. HasIts es r (embargo_of o)) there (i.theirs r))) (λ q n. i.theirs q);
    named = λ e. still_named (map.insert rs r y) (λ d q h. at_put (λ j o. NamesIt d (map.get rs j) → NamesIt d o) rs r y (λ h. f ∙ subst (NamesIt d) there h) (λ j n h. h) q h) e (map.get es e) (i.named e);
    old = i.old;
    fresh = λ k g. at_put (λ j o. nx ≤ j → o ≡ None) rs r y (λ g. absurd (let bad : Some x ≡ None = sym there ∙ i.fresh r g in cc)) (λ j n g. i.fresh j g) k g;
  }

  cut_ref : (r : ℕ) → Paired (map.remove rs r) es nx
  cut_ref r = record {
    theirs = at_cut (λ q o. HasIts es q (embargo_of o)) rs r tt (λ q n. i.theirs q);
    named = λ e. still_named (map.remove rs r) (λ d q h. at_cut (λ j o. NamesIt d (map.get rs j) → NamesIt d o) rs r (λ h. tt) (λ j n h. h) q h) e (map.get es e) (i.named e);
    old = i.old;
    fresh = λ k g. at_cut (λ j o. nx ≤ j → o ≡ None) rs r (λ g. refl) (λ j n g. i.fresh j g) k g;
  }

  new_ref : (n : Node) → Paired (map.insert rs nx (record { head = n; embargo = None; made = 0 })) es (nx + 1)
  new_ref n = record {
    theirs = at_put (λ q o. HasIts es q (embargo_of o)) rs nx (record { head = n; embargo = None; made = 0 }) tt (λ q m. i.theirs q);
    named = λ e. by e (map.get es e) (i.old e) (i.named e);
    old = λ e. older (map.get es e) (i.old e);
    fresh = λ k g. at_put (λ j o. nx + 1 ≤ j → o ≡ None) rs nx (record { head = n; embargo = None; made = 0 }) (λ g. absurd (omega (arith, g))) (λ j m g. i.fresh j (omega (arith, g))) k g;
  }
    where
      older : (o : Option Embargo) → IsOld nx o → IsOld (nx + 1) o
      older None h = tt
      older (Some b) h = omega (arith, h)

      by : (e : ℕ) (o : Option Embargo) → IsOld nx o → IsNamed rs e o → IsNamed (map.insert rs nx (record { head = n; embargo = None; made = 0 })) e o
      by e None g h = tt
      by e (Some b) g h = at_put (λ j o. j < nx → NamesIt e (map.get rs j) → NamesIt e o) rs nx (record { head = n; embargo = None; made = 0 }) (λ g h. absurd (omega (arith, g))) (λ j m g h. h) b.reference.0 g h

  -- An embargo has other calls.
  put_embargo : (e : ℕ) (b c : Embargo) → map.get es e ≡ Some b → c.reference.0 ≡ b.reference.0 → Paired rs (map.insert es e c) nx
  put_embargo e b c there f = record {
    theirs = λ r. its r (embargo_of (map.get rs r)) (i.theirs r);
    named = at_put (λ j o. IsNamed rs j o) es e c (subst (λ (r : ℕ). NamesIt e (map.get rs r)) (sym f) (subst (IsNamed rs e) there (i.named e))) (λ j n. i.named j);
    old = at_put (λ j o. IsOld nx o) es e c (subst (λ (r : ℕ). r < nx) (sym f) (subst (IsOld nx) there (i.old e))) (λ j n. i.old j);
    fresh = i.fresh;
  }
    where
      its : (r : ℕ) (o : Option EmbargoId) → HasIts es r o → HasIts (map.insert es e c) r o
      its r None h = tt
      its r (Some k) h = at_put (λ j o. IsOf r (map.get es j) → IsOf r o) es e c (λ h. f ∙ subst (IsOf r) there h) (λ j n h. h) k.0 h

  known_old : (r : ℕ) (x : Reference) → map.get rs r ≡ Some x → r < nx
  known_old r x there = by (nat_le nx r) refl
    where
      by : (b : Bool) → nat_le nx r ≡ b → r < nx
      by false e = grind (arith)
      by true e = let g : nx ≤ r = grind (arith) in absurd (let bad : Some x ≡ None = sym there ∙ i.fresh r g in cc)

  -- A reference turns back, under a new embargo.
  turn : (r e : ℕ) (x : Reference) (n : Node) → map.get rs r ≡ Some x → x.embargo ≡ None → map.get es e ≡ None → Paired (map.insert rs r (record { head = n; embargo = Some (record { 0 = e }); made = x.made })) (map.insert es e (record { reference = record { 0 = r }; node = n; waiting = [] })) nx
  turn r e x n there free unused =
      let y : Reference = record { head = n; embargo = Some (record { 0 = e }); made = x.made } in
      let b : Embargo = record { reference = record { 0 = r }; node = n; waiting = [] } in
      let z : Map Reference = map.insert rs r y in
      record {
        theirs = at_put (λ q o. HasIts (map.insert es e b) q (embargo_of o)) rs r y (at_put (λ j o. nat_eq j e ≡ true → IsOf r o) es e b (λ t. refl) (λ j f t. cc) e (itself e)) (λ q m. its q (embargo_of (map.get rs q)) (i.theirs q));
        named = at_put (λ j o. IsNamed z j o) es e b (at_put (λ j o. nat_eq j r ≡ true → NamesIt e o) rs r y (λ t. refl) (λ j f t. cc) r (itself r)) (λ j m. others j (map.get es j) (i.named j));
        old = at_put (λ j o. IsOld nx o) es e b (known_old r x there) (λ j m. i.old j);
        fresh = λ k g. at_put (λ j o. nx ≤ j → o ≡ None) rs r y (λ g. absurd (let bad : Some x ≡ None = sym there ∙ i.fresh r g in cc)) (λ j m g. i.fresh j g) k g;
      }
    where
      -- the id was free
      its : (q : ℕ) (o : Option EmbargoId) → HasIts es q o → HasIts (map.insert es e (record { reference = record { 0 = r }; node = n; waiting = [] })) q o
      its q None h = tt
      its q (Some k) h = at_put (λ j o. IsOf q (map.get es j) → IsOf q o) es e (record { reference = record { 0 = r }; node = n; waiting = [] }) (λ h. absurd (subst (IsOf q) unused h)) (λ j m h. h) k.0 h

      -- the reference had no other
      others : (j : ℕ) (o : Option Embargo) → IsNamed rs j o → IsNamed (map.insert rs r (record { head = n; embargo = Some (record { 0 = e }); made = x.made })) j o
      others j None h = tt
      others j (Some c) h = at_put (λ q o. NamesIt j (map.get rs q) → NamesIt j o) rs r (record { head = n; embargo = Some (record { 0 = e }); made = x.made }) (λ h. absurd (let bad : None ≡ Some _ = sym free ∙ subst (NamesIt j) there h in cc)) (λ q m h. h) c.reference.0 h

  -- An embargo is lifted.
  lift : (e : ℕ) (b : Embargo) → map.get es e ≡ Some b → Paired (updated rs b.reference.0 unembargoed (map.get rs b.reference.0)) (map.remove es e) nx
  lift e b there = by (map.get rs b.reference.0) refl
    where
      -- without the reference of the embargo no other one is at it
      its : (q : ℕ) (o : Option EmbargoId) → (b.reference.0 ≡ q → ⊥) → HasIts es q o → HasIts (map.remove es e) q o
      its q None m h = tt
      its q (Some k) m h = at_cut (λ j o. IsOf q (map.get es j) → IsOf q o) es e (λ h. absurd (m (subst (IsOf q) there h))) (λ j f h. h) k.0 h

      differ : (q : ℕ) → nat_eq q b.reference.0 ≡ false → b.reference.0 ≡ q → ⊥
      differ q f g = let t : nat_eq q b.reference.0 ≡ true = ap (λ (j : ℕ). nat_eq q j) g ∙ itself q in cc

      by : (o : Option Reference) → map.get rs b.reference.0 ≡ o → Paired (updated rs b.reference.0 unembargoed o) (map.remove es e) nx
      by None f = record {
        theirs = λ q. none q (map.get rs q) refl (i.theirs q);
        named = at_cut (λ j o. IsNamed rs j o) es e tt (λ j m. i.named j);
        old = at_cut (λ j o. IsOld nx o) es e tt (λ j m. i.old j);
        fresh = i.fresh;
      }
        where
          none : (q : ℕ) (o : Option Reference) → map.get rs q ≡ o → HasIts es q (embargo_of o) → HasIts (map.remove es e) q (embargo_of o)
          none q None g h = tt
          none q (Some x) g h = its q x.embargo (λ k. let bad : None ≡ Some x = sym f ∙ ap (map.get rs) k ∙ g in cc) h
      by (Some x) f = record {
        theirs = at_put (λ q o. HasIts (map.remove es e) q (embargo_of o)) rs b.reference.0 (unembargoed x) tt (λ q m. its q (embargo_of (map.get rs q)) (differ q m) (i.theirs q));
        named = at_cut (λ j o. IsNamed (map.insert rs b.reference.0 (unembargoed x)) j o) es e tt (λ j m. other j m (map.get es j) (i.named j));
        old = at_cut (λ j o. IsOld nx o) es e tt (λ j m. i.old j);
        fresh = λ k g. at_put (λ j o. nx ≤ j → o ≡ None) rs b.reference.0 (unembargoed x) (λ g. absurd (let bad : Some x ≡ None = sym f ∙ i.fresh b.reference.0 g in cc)) (λ j m g. i.fresh j g) k g;
      }
        where
          its_own : x.embargo ≡ Some (record { 0 = e })
          its_own = let h = subst (IsNamed rs e) there (i.named e) in subst (NamesIt e) f h

          other : (j : ℕ) → nat_eq j e ≡ false → (o : Option Embargo) → IsNamed rs j o → IsNamed (map.insert rs b.reference.0 (unembargoed x)) j o
          other j m None h = tt
          other j m (Some c) h = at_put (λ q o. NamesIt j (map.get rs q) → NamesIt j o) rs b.reference.0 (unembargoed x) (λ h. absurd (let g : x.embargo ≡ Some (record { 0 = j }) = subst (NamesIt j) f h in let w : ◌≡◌ {A = Option EmbargoId} (Some (record { 0 = e })) (Some (record { 0 = j })) = sym its_own ∙ g in let v : e ≡ j = ap id_of w in let k : j ≡ e = sym v in let t : nat_eq j e ≡ true = ap (λ (n : ℕ). nat_eq n e) k ∙ itself e in cc)) (λ q n h. h) c.reference.0 h

-- ---- Acts

all_refs : (s : State) (ns : List Node) → ArePaired s → Paired (with_refs s ns).refs s.embargoes (with_refs s ns).next_ref
all_refs s [] i = i
all_refs s (n ∷ ns) i = all_refs (record s { refs = map.insert s.refs s.next_ref (record { head = n; embargo = None; made = 0 }); next_ref = s.next_ref + 1 }) ns (new_ref i n)

started : (s : State) (c : Command) (g : Granted) (new : Moment) → Starts (beginning s) c g new → ArePaired s → ArePaired new.state
started s c g new (first.Hosts o e a h) i = rw h (new_ref i _)
started s c g new (first.Clones r x e f a h) i = rw h (new_ref i _)
started s c g new (first.Drops r x e f a h) i = rw h (cut_ref i r.0)
started s c g new (first.AsksRoot q e f a h) i = rw h i
started s c g new (first.CallsOut k x q t ds es e f j w l o a h) i = rw h (put_ref i k.reference.0 x (record x { made = x.made + 1 }) f refl)
started s c g new (first.CallsHere k x o e f j w l a h) i = rw h (put_ref i k.reference.0 x (record x { made = x.made + 1 }) f refl)
started s c g new (first.CallsLater k x o e b f j l m n a h) i = rw h (put_embargo (put_ref i k.reference.0 x (record x { made = x.made + 1 }) j refl) e.0 b (record b { waiting = b.waiting ++ first.waiting_call s k x o ∷ [] }) m refl)
started s c g new (first.NamesField k path from e f a h) i = rw h (new_ref i _)
started s c g new (first.Promises p e f a h) i = rw h (new_ref i _)
started s c g new (first.Fixes p r x key calls e f j k a h) i = rw h i
started s c g new (first.Rejects p why key calls e f j a h) i = rw h i
started s c g new (first.Answers t payload refs o e f a h) i = rw h i
started s c g new (first.Fails t why o e f a h) i = rw h i
started s c g new (first.Finishes k from e f a h) i = rw h i
started s c g new (first.StaysPut r x e f a h) i = rw h i
started s c g new (first.Breaks r x reason e f j k a h) i = rw h (put_ref i r.0 x (record x { head = _ }) f refl)
started s c g new (first.Switches r x by n e f j k l m a h) i = rw h (put_ref i r.0 x (record x { head = n }) f refl)
started s c g new (first.Turns r x by n t k e f j l m o w u a h) i = rw h (turn i r.0 k x n f j u)

consumed : (s : State) (m : Message) (new : Moment) → Consumes (beginning s) m new → ArePaired s → ArePaired new.state
consumed s m new (message.OpensRoot q o e f j h) i = rw h i
consumed s m new (message.OpensCall c o e f j h) i = rw h i
consumed s m new (message.Loses b x e f j k h) i = rw h i
consumed s m new (message.ComesToCall b x c e f j k l h) i = rw h i
consumed s m new (message.ComesToRelay b x o e f j k l h) i = rw h i
consumed s m new (message.IsFinished x y e f j h) i = rw h i
consumed s m new (message.IsResolved r e h) i = rw h i
consumed s m new (message.IsReleased r e h) i = rw h i
consumed s m new (message.SendsBack t to x e f h) i = rw h i
consumed s m new (message.Lifts t x b e f h) i = rw h (lift i x.0 b f)
consumed s m new (message.SendsForeign p e f h) i = rw h i
consumed s m new (message.SendsOther n e h) i = rw h i
consumed s m new (message.TakesBack r e h) i = rw h i
consumed s m new (message.Ignores r e h) i = rw h i

acted : (d new : Moment) → ArePaired d.state → Act d new → ArePaired new.state
acted d new i (act.Delivers c n rest o e f h) = rw h (all_refs d.state c.request.caps i)
acted d new i (act.Waits c n rest p calls e f j h) = rw h i
acted d new i (act.Holds c n rest o path x e f j h) = rw h i
acted d new i (act.Relays c n rest q t ds es e f j k h) = rw h i
acted d new i (act.Breaks c n rest reason e f h) = rw h i
acted d new i (act.NextArisen o v rest e f h) = rw h i
acted d new i (act.Knows o v fit x ps e f j k h) = rw h i
acted d new i (act.Reports c v from e f h) = rw h (all_refs d.state (caps_of v) i)
acted d new i (act.TellsNobody c v e f h) = rw h i
acted d new i (act.MakesReturn q v x b ds es e f j k h) = rw h i
acted d new i (act.SendsReturn x y e f j h) = rw h i
acted d new i (act.Clears x e f h) = rw h i
acted d new i (act.Lists x e h) = rw h i
acted d new i (act.SendsResolve x rest k es e w f h) = rw h i
acted d new i (act.SendsBroken x rest reason e f h) = rw h i
acted d new i (act.PromiseGoes p to w e f h) = rw h i
acted d new i (act.OutcomeGoes o x v w e f j k l h) = rw h i
acted d new i (act.ImportGoes k x w e f h) = rw h i
acted d new i (act.Sweeps over e f j h) = rw h i
acted d new i (act.SendsFinish q x rest e f j k l h) = rw h i
acted d new i (act.Closes q x rest e f j k l h) = rw h i
acted d new i (act.Releases w e f h) = rw h i

-- ---- Reached states

none : (s : State) → s.refs ≡ map.empty → s.embargoes ≡ map.empty → ArePaired s
none s e f = rw (e, f) (record {
  theirs = λ r. subst (λ (o : Option Reference). HasIts map.empty r (embargo_of o)) (sym (map.get-empty nat_cmp r)) tt;
  named = λ k. subst (λ (o : Option Embargo). IsNamed map.empty k o) (sym (map.get-empty nat_cmp k)) tt;
  old = λ k. subst (λ (o : Option Embargo). IsOld s.next_ref o) (sym (map.get-empty nat_cmp k)) tt;
  fresh = λ k g. map.get-empty nat_cmp k;
})

abbrev Keeps : State → Effects → State → Type 0
Keeps s x t = ArePaired s → ArePaired t

law : IsLaw (λ s d. ArePaired s → ArePaired d.state) Keeps
law = record {
  starts = λ s c g new f h i. started s c g new h i;
  consumes = λ s m new f h i. consumed s m new h i;
  act = λ s d new k h i. acted d new (k i) h;
  ends = λ s last x t k h i. rw h.state (k i);
  stays = λ s i. i;
  falls = λ s n x i. none (fallen s n) refl refl;
}

pub are_paired : (s : State) → IsReached s → ArePaired s
are_paired = in_each (record { starts = λ v l b. none (start v l b) refl refl; steps = of_each_step law; falls = λ s n. none (fallen s n) refl refl })
