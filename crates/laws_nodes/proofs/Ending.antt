-- Each act keeps that questions end in time; the sweep finds each relay's question that has returned.
use Rattle.std.proofs.Common.{◌≡◌, ◌⊎◌, inl, inr, ℕ, ◌+◌, Bool, true, false, cond, nat_eq, IsSome, List, [], ◌∷◌, Option, None, Some, refl, sym, ap, subst, ◌∙◌, arith}
use Rattle.std.specs.Ordering.{nat_cmp}
use Rattle.std.specs.FinMap as map
use Rattle.std.specs.FinMap.Entries as entries
use Rattle.finite_maps.specs.Tally.{Map}
use Rattle.finite_maps.proofs.Gets.{get-insert_same, get-insert_other, get-remove_other}
use Rattle.rpc_msg.specs.declared.parts.Descriptor.{Descriptor}
use Rattle.rpc_msg.specs.declared.message.Message.{Message}
use Rattle.rpc_machine.specs.declared.command.Command.{Command}
use Rattle.rpc_machine.specs.declared.command.Granted.{Granted}
use Rattle.rpc_machine.specs.declared.command.Effects.{Effects}
use Rattle.rpc_machine.specs.declared.calls.OwnCall.{OwnCall}
use Rattle.rpc_machine.specs.declared.calls.OwnCall.TheVariants as own
use Rattle.rpc_machine.specs.declared.entries.Role.{Role}
use Rattle.rpc_machine.specs.declared.entries.Role.TheVariants as role
use Rattle.rpc_machine.specs.declared.entries.Returned.{Returned}
use Rattle.rpc_machine.specs.declared.entries.Finishing.{Finishing}
use Rattle.rpc_machine.specs.declared.entries.Finishing.TheVariants as finishing
use Rattle.rpc_machine.specs.declared.entries.Question.{Question}
use Rattle.rpc_machine.specs.State.{State, start}
use Rattle.rpc_machine.specs.Progress.{Progress, with_state}
use Rattle.rpc_machine.specs.Sweeping.{IsOver, IsNotSent, IsToFinish, closed_map, closed, Withers, Over, Thing, Asked}
use Rattle.rpc_machine.specs.Messages.{waived}
use Rattle.rpc_machine.specs.Collecting.{Goes, PromiseGoes as LoosePromise, OutcomeGoes as LooseOutcome, ImportGoes as LooseImport}
use Rattle.rpc_machine.specs.Down.{fallen}
use Rattle.laws_steps.specs.NodesThere.{IsReached}
use Rattle.laws_steps.proofs.Kept.{in_each}
use Rattle.laws_acts.specs.Moments.{Moment, beginning, progress}
use Rattle.laws_acts.specs.FirstActs.{asked, Starts}
use Rattle.laws_acts.specs.FirstActs as first
use Rattle.laws_acts.specs.MessageActs.{Back, answered, Consumes}
use Rattle.laws_acts.specs.MessageActs as message
use Rattle.laws_acts.specs.SmallActs.{IsDue, Act, IsEnd}
use Rattle.laws_acts.specs.SmallActs as act
use Rattle.laws_acts.proofs.Pieces.{goes_by}
use Rattle.laws_acts.proofs.EachStep.{IsLaw, of_each_step}
use Rattle.laws_nodes.specs.Questions.{IsEnded, IsOld, IsInTime, IsRelayOpen, IsOpen, QuestionsEnd}
use Rattle.finite_maps.proofs.Tested.{ties, equal, apart, at_put, at_cut}

-- ---- Finishes that were sent

abbrev InTime : Map OwnCall → ℕ → Map Question → Type 0
InTime calls next m = (q : ℕ) → IsInTime calls next (map.get m q)

not_sent : {A : Type 0} (f : Finishing) → IsNotSent f → f ≡ finishing.Sent → A
not_sent f h e = absurd (subst IsNotSent e h)

-- Where the calls change.
other_calls : (c d : Map OwnCall) (n k : ℕ) (m : Map Question) → ((r : Role) → IsOld n r → IsEnded c r → IsEnded d r) → ((r : Role) → IsOld n r → IsOld k r) → InTime c n m → InTime d k m
other_calls c d n k m f g h q = by (map.get m q) (h q)
  where
    by : (o : Option Question) → IsInTime c n o → IsInTime d k o
    by None i = tt
    by (Some x) i = (λ e. let a = i.0 e in (a.0, f x.role i.1 a.1), g x.role i.1)

call_cut : (c : Map OwnCall) (n k : ℕ) (m : Map Question) → InTime c n m → InTime (map.remove c k) n m
call_cut c n k m h = other_calls c (map.remove c k) n n m by (λ r i. i) h
  where
    by : (r : Role) → IsOld n r → IsEnded c r → IsEnded (map.remove c k) r
    by (role.Direct j) o e = at_cut (λ i b. i ≡ j.0 → b ≡ None) c k (λ f. refl) (λ i g f. ap (map.get c) f ∙ e) j.0 refl
    by (role.Relay j) o e = e

call_new : (c : Map OwnCall) (n : ℕ) (y : OwnCall) (m : Map Question) → InTime c n m → InTime (map.insert c n y) (n + 1) m
call_new c n y m h = other_calls c (map.insert c n y) n (n + 1) m by older h
  where
    by : (r : Role) → IsOld n r → IsEnded c r → IsEnded (map.insert c n y) r
    by (role.Direct j) o e = get-insert_other c n y j.0 (λ f. absurd (omega arith)) ∙ e
    by (role.Relay j) o e = e

    older : (r : Role) → IsOld n r → IsOld (n + 1) r
    older (role.Direct j) o = omega arith
    older (role.Relay j) o = tt

put : (c : Map OwnCall) (n : ℕ) (m : Map Question) (q : ℕ) (x : Question) → IsInTime c n (Some x) → InTime c n m → InTime c n (map.insert m q x)
put c n m q x a h = at_put (λ j o. IsInTime c n o) m q x a (λ j e. h j)

cut : (c : Map OwnCall) (n : ℕ) (m : Map Question) (q : ℕ) → InTime c n m → InTime c n (map.remove m q)
cut c n m q h = at_cut (λ j o. IsInTime c n o) m q tt (λ j e. h j)

new_direct : (c : Map OwnCall) (n : ℕ) (y : OwnCall) (m : Map Question) (q : ℕ) (ds : List Descriptor) → InTime c n m → InTime (map.insert c n y) (n + 1) (map.insert m q (asked (role.Direct (record { 0 = n })) ds))
new_direct c n y m q ds h = put (map.insert c n y) (n + 1) m q (asked (role.Direct (record { 0 = n })) ds) (λ e. not_sent finishing.Owed tt e, omega arith) (call_new c n y m h)

due_ended : (s : State) (r : Role) → IsDue s r None → IsEnded s.calls r
due_ended s (role.Direct c) h = h
due_ended s (role.Relay o) h = absurd (let f : false ≡ true = h in cc)

closes : (s : State) (n : ℕ) (m : Map Question) (q : ℕ) (x : Question) (b : Option Returned) → x.returned ≡ b → map.get m q ≡ Some x → IsDue s x.role x.returned → InTime s.calls n m → InTime s.calls n (closed_map m q x b)
closes s n m q x None e f d h =
    let a : IsInTime s.calls n (Some x) = subst (IsInTime s.calls n) f (h q) in
    put s.calls n m q (record x { finish = finishing.Sent }) (λ g. (e, due_ended s x.role (subst (IsDue s x.role) e d)), a.1) h
closes s n m q x (Some said) e f d h = cut s.calls n m q h

came : (c : Map OwnCall) (n : ℕ) (m : Map Question) (q : ℕ) (x : Question) (b : Back) → map.get m q ≡ Some x → (x.finish ≡ finishing.Owed) ⊎ (x.finish ≡ finishing.Waived) → InTime c n m → InTime c n (map.insert m q (answered x b.waives b.said))
came c n m q x b f k h =
    let a : IsInTime c n (Some x) = subst (IsInTime c n) f (h q) in
    put c n m q (answered x b.waives b.said) (λ e. not_sent (cond b.waives (waived x.finish) x.finish) (by b.waives x.finish k) e, a.1) h
  where
    by : (w : Bool) (f : Finishing) → (f ≡ finishing.Owed) ⊎ (f ≡ finishing.Waived) → IsNotSent (cond w (waived f) f)
    by w finishing.Sent (inl e) = cc
    by w finishing.Sent (inr e) = cc
    by true finishing.Owed e = tt
    by true finishing.Waived e = tt
    by false finishing.Owed e = tt
    by false finishing.Waived e = tt

goes_next : (d new : Progress) → Goes d new → new.state.next_call ≡ d.state.next_call
goes_next d new (LoosePromise p l h) = rw h refl
goes_next d new (LooseOutcome o l h) = rw h refl
goes_next d new (LooseImport e l h) = rw h refl

-- ---- Relays that have returned

abbrev IsFound : {X : Type 0} → Option X → Type 0
IsFound None = ⊥
IsFound (Some x) = Unit {0}

-- Its question is among those that are to be finished.
abbrev RelayFound : List (ℕ × Question) → ℕ → Role → Option Returned → Type 0
RelayFound over q (role.Direct c) r = Unit {0}
RelayFound over q (role.Relay o) None = Unit {0}
RelayFound over q (role.Relay o) (Some said) = IsFound (entries.find nat_cmp q over)

abbrev Found : List (ℕ × Question) → ℕ → Option Question → Type 0
Found over q None = Unit {0}
Found over q (Some x) = RelayFound over q x.role x.returned

abbrev AllFound : List (ℕ × Question) → Map Question → Type 0
AllFound over m = (q : ℕ) → Found over q (map.get m q)

unreturned : (over : List (ℕ × Question)) (q : ℕ) (r : Role) → RelayFound over q r None
unreturned over q (role.Direct c) = tt
unreturned over q (role.Relay o) = tt

-- The sweep finds them.
sweeps : (d : Progress) (over : Map Question) → Withers d over → InTime d.state.calls d.state.next_call d.state.questions → (q : ℕ) (x : Question) (o : ℕ) (said : Returned) → map.get d.state.questions q ≡ Some x → x.role ≡ role.Relay o → x.returned ≡ Some said → IsFound (map.get over q)
sweeps d over (Over tight free) h q x o said e f g = absurd (free q (subst (IsToFinish d.state q) (sym e) (sent x.finish refl, subst (λ (r : Role). IsOver d.state q x r) (sym f) (subst IsSome (sym g) refl))))
  where
    a : IsInTime d.state.calls d.state.next_call (Some x)
    a = subst (IsInTime d.state.calls d.state.next_call) e (h q)

    sent : (k : Finishing) → x.finish ≡ k → IsNotSent x.finish
    sent finishing.Owed i = subst IsNotSent (sym i) tt
    sent finishing.Waived i = subst IsNotSent (sym i) tt
    sent finishing.Sent i = let b = a.0 i in absurd (subst (IsEnded d.state.calls) f b.1)
sweeps d over (Thing {mid = mid} g rest) h q x o said e f k =
    let u = goes_by d mid g in
    let n : mid.state.next_call ≡ d.state.next_call = goes_next d mid g in
    sweeps mid over rest (rw (u.calls, u.questions, n) h) q x o said (ap (λ (m : Map Question). map.get m q) u.questions ∙ e) f k
sweeps d over (Asked {over = others} k y there due rest) h q x o said e f g = by (λ i j. sweeps (with_state d (closed d.state k y)) others rest i q x o said j f g) (nat_eq q k) refl
  where
    due_of : IsDue d.state y.role y.returned
    due_of = of_role y.role due.1
      where
        of_role : (r : Role) → IsOver d.state k y r → IsDue d.state r y.returned
        of_role (role.Direct c) i = i.0
        of_role (role.Relay j) i = i

    other : (b : Option Returned) → nat_eq q k ≡ false → map.get (closed_map d.state.questions k y b) q ≡ map.get d.state.questions q
    other None i = get-insert_other d.state.questions k (record y { finish = finishing.Sent }) q (apart q k i)
    other (Some z) i = get-remove_other d.state.questions k q (apart q k i)

    by : (InTime d.state.calls d.state.next_call (closed d.state k y).questions → map.get (closed d.state k y).questions q ≡ Some x → IsFound (map.get others q)) → (b : Bool) → nat_eq q k ≡ b → IsFound (map.get (map.insert others k y) q)
    by further true i = subst (λ (j : ℕ). IsFound (map.get (map.insert others k y) j)) (sym (equal q k i)) (subst IsFound (sym (get-insert_same others k y)) tt)
    by further false i =
        subst IsFound (sym (get-insert_other others k y q (apart q k i)))
        (further (closes d.state d.state.next_call d.state.questions k y y.returned refl there due_of h) (other y.returned i ∙ e))

swept : (d : Progress) (over : Map Question) → Withers d over → InTime d.state.calls d.state.next_call d.state.questions → AllFound (map.entries over) d.state.questions
swept d over w h q = by (map.get d.state.questions q) refl
  where
    of_role : (x : Question) → map.get d.state.questions q ≡ Some x → (r : Role) → x.role ≡ r → (b : Option Returned) → x.returned ≡ b → RelayFound (map.entries over) q r b
    of_role x e (role.Direct c) f b g = tt
    of_role x e (role.Relay o) f None g = tt
    of_role x e (role.Relay o) f (Some said) g = subst IsFound (map.get-entries over q) (sweeps d over w h q x o said e f g)

    by : (o : Option Question) → map.get d.state.questions q ≡ o → Found (map.entries over) q o
    by None e = tt
    by (Some x) e = of_role x e x.role refl x.returned refl

-- One of them is finished.
ends : (m : Map Question) (q : ℕ) (x : Question) (rest : List (ℕ × Question)) (b : Option Returned) → x.returned ≡ b → AllFound ((q, x) ∷ rest) m → AllFound rest (closed_map m q x b)
ends m q x rest b e h = by b e
  where
    fewer : (j : ℕ) → nat_eq j q ≡ false → (o : Option Question) → Found ((q, x) ∷ rest) j o → Found rest j o
    fewer j f None i = tt
    fewer j f (Some y) i = of_role y.role y.returned i
      where
        of_role : (r : Role) (s : Option Returned) → RelayFound ((q, x) ∷ rest) j r s → RelayFound rest j r s
        of_role (role.Direct c) s i = tt
        of_role (role.Relay o) None i = tt
        of_role (role.Relay o) (Some said) i = subst IsFound (ap (λ c. cond c (Some x) (entries.find nat_cmp j rest)) (ties j q ∙ f)) i

    by : (b : Option Returned) → x.returned ≡ b → AllFound rest (closed_map m q x b)
    by None f = at_put (λ j o. Found rest j o) m q (record x { finish = finishing.Sent }) (subst (RelayFound rest q x.role) (sym f) (unreturned rest q x.role)) (λ j g. fewer j g (map.get m j) (h j))
    by (Some said) f = at_cut (λ j o. Found rest j o) m q tt (λ j g. fewer j g (map.get m j) (h j))

-- ---- The acts

abbrev Fine : Moment → Type 0
Fine d = InTime d.state.calls d.state.next_call d.state.questions × ((d.swept ≡ false) ⊎ AllFound d.over d.state.questions)

started : (s : State) (c : Command) (g : Granted) (new : Moment) → Starts (beginning s) c g new → InTime s.calls s.next_call s.questions → Fine new
started s c g new (first.Hosts o e a h) i = rw h (i, inl refl)
started s c g new (first.Clones r x e f a h) i = rw h (i, inl refl)
started s c g new (first.Drops r x e f a h) i = rw h (i, inl refl)
started s c g new (first.AsksRoot q e f a h) i = rw h (new_direct s.calls s.next_call (own.Direct (record { 0 = q })) s.questions q [] i, inl refl)
started s c g new (first.CallsOut k x q t ds es e f j w l m a h) i = rw h (new_direct s.calls s.next_call (own.Direct (record { 0 = q })) s.questions q ds i, inl refl)
started s c g new (first.CallsHere k x u e f j w l a h) i = rw h (call_new s.calls s.next_call (own.Kept u) s.questions i, inl refl)
started s c g new (first.CallsLater k x u z b e f j l m a h) i = rw h (call_new s.calls s.next_call (own.Kept u) s.questions i, inl refl)
started s c g new (first.NamesField k path from e f a h) i = rw h (i, inl refl)
started s c g new (first.Promises p e f a h) i = rw h (i, inl refl)
started s c g new (first.Fixes p r x key calls e f j k a h) i = rw h (i, inl refl)
started s c g new (first.Rejects p why key calls e f j a h) i = rw h (i, inl refl)
started s c g new (first.Answers t payload refs u e f a h) i = rw h (i, inl refl)
started s c g new (first.Fails t why u e f a h) i = rw h (i, inl refl)
started s c g new (first.Finishes k from e f a h) i = rw h (call_cut s.calls s.next_call k.0 s.questions i, inl refl)
started s c g new (first.StaysPut r x e f a h) i = rw h (i, inl refl)
started s c g new (first.Breaks r x reason e f j k a h) i = rw h (i, inl refl)
started s c g new (first.Switches r x by n e f j k l m a h) i = rw h (i, inl refl)
started s c g new (first.Turns r x by n t k e f j l m w u v a h) i = rw h (i, inl refl)

consumed : (s : State) (m : Message) (new : Moment) → Consumes (beginning s) m new → InTime s.calls s.next_call s.questions → Fine new
consumed s m new (message.OpensRoot q u e f j h) i = rw h (i, inl refl)
consumed s m new (message.OpensCall c u e f j h) i = rw h (i, inl refl)
consumed s m new (message.Loses b x e f j k h) i = rw h (cut s.calls s.next_call s.questions b.question i, inl refl)
consumed s m new (message.ComesToCall b x c e f j k l h) i = rw h (came s.calls s.next_call s.questions b.question x b f k i, inl refl)
consumed s m new (message.ComesToRelay b x u e f j k l h) i = rw h (came s.calls s.next_call s.questions b.question x b f k i, inl refl)
consumed s m new (message.IsFinished x y e f j h) i = rw h (i, inl refl)
consumed s m new (message.IsResolved r e h) i = rw h (i, inl refl)
consumed s m new (message.IsReleased r e h) i = rw h (i, inl refl)
consumed s m new (message.SendsBack t to x e f h) i = rw h (i, inl refl)
consumed s m new (message.Lifts t x b e f h) i = rw h (i, inl refl)
consumed s m new (message.SendsForeign p e f h) i = rw h (i, inl refl)
consumed s m new (message.SendsOther n e h) i = rw h (i, inl refl)
consumed s m new (message.TakesBack r e h) i = rw h (i, inl refl)
consumed s m new (message.Ignores r e h) i = rw h (i, inl refl)

asked_found : (w : Bool) (over : List (ℕ × Question)) (m : Map Question) (q o : ℕ) (ds : List Descriptor) → (w ≡ false) ⊎ AllFound over m → (w ≡ false) ⊎ AllFound over (map.insert m q (asked (role.Relay o) ds))
asked_found w over m q o ds (inl e) = inl e
asked_found w over m q o ds (inr h) = inr (at_put (λ j b. Found over j b) m q (asked (role.Relay o) ds) tt (λ j e. h j))

ended_found : (w : Bool) (over : List (ℕ × Question)) (m : Map Question) (q : ℕ) (x : Question) (rest : List (ℕ × Question)) → over ≡ (q, x) ∷ rest → (w ≡ false) ⊎ AllFound over m → (w ≡ false) ⊎ AllFound rest (closed_map m q x x.returned)
ended_found w over m q x rest e (inl f) = inl f
ended_found w over m q x rest e (inr h) = inr (ends m q x rest x.returned refl (subst (λ (xs : List (ℕ × Question)). AllFound xs m) e h))

acted : (d new : Moment) → Fine d → Act d new → Fine new
acted d new i (act.Delivers c n rest u e f h) = rw h i
acted d new i (act.Waits c n rest p calls e f j h) = rw h i
acted d new i (act.Holds c n rest u path x e f j h) = rw h i
acted d new i (act.Relays c n rest q t ds es e f j k h) =
    rw h (
      put d.state.calls d.state.next_call d.state.questions q (asked (role.Relay c.outcome) ds) (λ g. not_sent finishing.Owed tt g, tt) i.0,
      asked_found d.swept d.over d.state.questions q c.outcome ds i.1,
    )
acted d new i (act.Breaks c n rest reason e f h) = rw h i
acted d new i (act.NextArisen u v rest e f h) = rw h i
acted d new i (act.Knows u v fit x ps e f j k h) = rw h i
acted d new i (act.Reports c v from e f h) = rw h i
acted d new i (act.TellsNobody c v e f h) = rw h i
acted d new i (act.MakesReturn q v x b ds es e f j k h) = rw h i
acted d new i (act.SendsReturn x y e f j h) = rw h i
acted d new i (act.Clears x e f h) = rw h i
acted d new i (act.Lists x e h) = rw h i
acted d new i (act.SendsResolve x rest k es e w f h) = rw h i
acted d new i (act.SendsBroken x rest reason e f h) = rw h i
acted d new i (act.PromiseGoes p to w e f h) = rw h i
acted d new i (act.OutcomeGoes u x v w e f j k l h) = rw h i
acted d new i (act.ImportGoes k x w e f h) = rw h i
acted d new i (act.Sweeps over e f j h) = rw h (i.0, inr (swept (progress d) over j i.0))
acted d new i (act.SendsFinish q x rest e f j k l h) =
    rw h (closes d.state d.state.next_call d.state.questions q x x.returned refl f k i.0, ended_found d.swept d.over d.state.questions q x rest e i.1)
acted d new i (act.Closes q x rest e f j k l h) =
    rw h (closes d.state d.state.next_call d.state.questions q x x.returned refl f k i.0, ended_found d.swept d.over d.state.questions q x rest e i.1)
acted d new i (act.Releases w e f h) = rw h i

-- ---- Reached states

at_last : (last : Moment) (x : Effects) (t : State) → Fine last → IsEnd last x t → QuestionsEnd last.state
at_last last x t i h = record { each = i.0; relays = by i.1 }
  where
    none_found : (q : ℕ) (o : Option Question) → Found [] q o → IsOpen o
    none_found q None k = tt
    none_found q (Some y) k = of_role y.role y.returned k
      where
        of_role : (r : Role) (b : Option Returned) → RelayFound [] q r b → IsRelayOpen r b
        of_role (role.Direct c) b k = tt
        of_role (role.Relay o) None k = refl
        of_role (role.Relay o) (Some said) k = absurd k

    by : (last.swept ≡ false) ⊎ AllFound last.over last.state.questions → (q : ℕ) → IsOpen (map.get last.state.questions q)
    by (inl e) q = absurd (let f : last.swept ≡ true = ap (λ (m : Moment). m.swept) h.rest in let g : false ≡ true = sym e ∙ f in cc)
    by (inr k) q = none_found q (map.get last.state.questions q) (subst (λ (xs : List (ℕ × Question)). Found xs q (map.get last.state.questions q)) (ap (λ (m : Moment). m.over) h.rest) (k q))

none : (s : State) → s.questions ≡ map.empty → QuestionsEnd s
none s e = record {
  each = λ q. subst (IsInTime s.calls s.next_call) (sym (ap (λ (m : Map Question). map.get m q) e ∙ map.get-empty nat_cmp q)) tt;
  relays = λ q. subst IsOpen (sym (ap (λ (m : Map Question). map.get m q) e ∙ map.get-empty nat_cmp q)) tt;
}

abbrev Keeps : State → Effects → State → Type 0
Keeps s x t = QuestionsEnd s → QuestionsEnd t

law : IsLaw (λ s d. QuestionsEnd s → Fine d) Keeps
law = record {
  starts = λ s c g new f h i. started s c g new h i.each;
  consumes = λ s m new f h i. consumed s m new h i.each;
  act = λ s d new k h i. acted d new (k i) h;
  ends = λ s last x t k h i. rw h.state (at_last last x t (k i) h);
  stays = λ s i. i;
  falls = λ s n x i. none (fallen s n) refl;
}

pub each_ends : (s : State) → IsReached s → QuestionsEnd s
each_ends = in_each (record { starts = λ v l b. none (start v l b) refl; steps = of_each_step law; falls = λ s n. none (fallen s n) refl })
