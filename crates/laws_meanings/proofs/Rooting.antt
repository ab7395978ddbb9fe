-- A vat that takes no Call with a question's id answers that question with its bootstrap object alone: no outcome of it is
-- unknown between steps, and each Return to it says the root.
use Rattle.std.proofs.Common.{◌≡◌, inl, inr, ℕ, ◌+◌, Bool, true, false, nat_eq, Option, None, Some, List, [], ◌∷◌, ◌++◌, length, suc, refl, sym, ap, subst, ◌∙◌, arith}
use Rattle.std.specs.FinMap as map
use Rattle.finite_maps.specs.Tally.{Map}
use Rattle.finite_maps.proofs.Tested.{at_put, at_cut}
use Rattle.finite_maps.proofs.Gets.{get-insert_same}
use Rattle.rpc_msg.specs.declared.ids.ObjectId.{ObjectId}
use Rattle.rpc_msg.specs.declared.ids.QuestionId.{QuestionId}
use Rattle.rpc_msg.specs.declared.message.Message.{Message}
use Rattle.rpc_msg.specs.declared.message.Message.TheVariants as message
use Rattle.rpc_msg.specs.declared.message.PlainMessage.{PlainMessage}
use Rattle.rpc_msg.specs.declared.message.PlainMessage.TheVariants as plain
use Rattle.rpc_msg.specs.declared.parts.Descriptor.{Descriptor}
use Rattle.rpc_msg.specs.declared.message.ReturnBody.{ReturnBody}
use Rattle.rpc_msg.specs.Payloads.{Contents as Payload}
use Rattle.rpc_machine.specs.declared.node.Node.{Node}
use Rattle.rpc_machine.specs.declared.calls.HeldCall.{HeldCall}
use Rattle.rpc_machine.specs.declared.calls.Caller.{Caller}
use Rattle.rpc_machine.specs.declared.calls.Caller.TheVariants as caller
use Rattle.rpc_machine.specs.declared.calls.KeptOutcome.{KeptOutcome}
use Rattle.rpc_machine.specs.declared.calls.Value.{Value}
use Rattle.rpc_machine.specs.declared.calls.Value.TheVariants as value
use Rattle.rpc_machine.specs.declared.command.Command.{Command}
use Rattle.rpc_machine.specs.declared.command.Granted.{Granted}
use Rattle.rpc_machine.specs.declared.command.Effects.{Effects}
use Rattle.rpc_machine.specs.declared.entries.AnswerEntry.{AnswerEntry}
use Rattle.rpc_machine.specs.declared.entries.Export.{Export}
use Rattle.rpc_machine.specs.State.{State}
use Rattle.rpc_machine.specs.Places.{nodes}
use Rattle.rpc_machine.specs.Descriptors.{read_beside}
use Rattle.rpc_machine.specs.Progress.{outcome_of, caps_of}
use Rattle.rpc_machine.specs.Messages.{bootstrap_value, results_of, value_of_results}
use Rattle.rpc_machine.specs.Settling.{Fits, PutsIn, Untangles, returned_map}
use Rattle.rpc_machine.specs.Faults.{fault_of}
use Rattle.rpc_machine.specs.Steps.{Does, Handles}
use Rattle.rpc_machine.specs.Claims.{object_number}
use Rattle.laws_steps.specs.Callers.{IsOpenFor, peer}
use Rattle.laws_acts.specs.GoingOut.{Says}
use Rattle.laws_acts.specs.Moments.{Moment, Saying, beginning}
use Rattle.laws_acts.specs.FirstActs.{Starts}
use Rattle.laws_acts.specs.FirstActs as first
use Rattle.laws_acts.specs.MessageActs.{Consumes}
use Rattle.laws_acts.specs.MessageActs as heard
use Rattle.laws_acts.specs.SmallActs.{Act, release_messages}
use Rattle.laws_acts.specs.SmallActs as act
use Rattle.laws_acts.proofs.EachStep.{done, handled, at_end}
use Rattle.laws_messages.proofs.Filled.{beside_length, out_length}
use Rattle.laws_meanings.specs.Bootstraps.{SaysRoot}

-- ---- Values

-- It depends on the outcome and on the number of capabilities alone.
says_alike : (r : Option ℕ) (x y : Value) → outcome_of y ≡ outcome_of x → length (caps_of y) ≡ length (caps_of x) → SaysRoot r x → SaysRoot r y
says_alike (Some o) x y e f h = (e ∙ h.0, f ∙ h.1)
says_alike None x y e f h = (e ∙ h.0, none (caps_of y) (f ∙ ap length h.1))
  where
    none : (ns : List Node) → length ns ≡ 0 → ns ≡ []
    none [] g = refl
    none (n ∷ ns) g = absurd (let bad : suc (length ns) ≡ 0 = g in cc)

root_says : (b : Option ObjectId) → SaysRoot (object_number b) (bootstrap_value b)
root_says None = (refl, refl)
root_says (Some o) = (refl, refl)

module _ (s : State) (o : ℕ) (who : Caller) (w : List HeldCall) (payload : Payload) where
  put_in : (i : ℕ) (n : Node) (ns rest out : List Node) (mid new : State) → length rest ≡ length ns → PutsIn mid o who w payload i n rest out new → length out ≡ suc (length ns)
  put_in i n ns rest out mid new h (inl k) = rw (k.1) (ap suc h)
  put_in i n ns rest out mid new h (inr k) = let g = k.1 in rw (g.2) (ap suc h)

  pub untangled : (i : ℕ) (ns out : List Node) (new : State) → Untangles s o who w payload i ns out new → length out ≡ length ns
  untangled i [] out new h = rw (h.0) refl
  untangled i (n ∷ ns) out new h = put_in i n ns h.0 out h.1 new (untangled (i + 1) ns h.0 h.1 h.2) h.3

fits_root : (r : Option ℕ) (s : State) (o : ℕ) (who : Caller) (w : List HeldCall) (v fit : Value) (new : State) → Fits s o who w v fit new → SaysRoot r v → SaysRoot r fit
fits_root r s o who w (value.Exception exception) fit new h k = subst (SaysRoot r) (sym h.0) k
fits_root r s o who w (value.Results payload caps) fit new h k =
    subst (SaysRoot r) (sym h.1) (says_alike r (value.Results payload caps) (value.Results payload h.0) refl (untangled s o who w payload 0 caps h.0 new h.2) k)

-- A body says it, whoever reads it.
abbrev pub BodyRoot : Option ℕ → ReturnBody → Type 0
BodyRoot r y = (s : State) → SaysRoot r (value_of_results (results_of s y))

said_root : (r : Option ℕ) (s : State) (b : Bool) (v : Value) (y : ReturnBody) (ds : List Descriptor) (es : Map Export) → b ≡ false → Says s b v y ds es → SaysRoot r v → BodyRoot r y
said_root r s true v y ds es e h k = absurd (let bad : true ≡ false = e in cc)
said_root r s false (value.Exception exception) y ds es e h k = subst (BodyRoot r) (sym h.0) (λ t. k)
said_root r s false (value.Results payload caps) y ds es e h k =
    subst (BodyRoot r) (sym h.0) (λ t. says_alike r (value.Results payload caps) (value.Results payload (nodes (read_beside t ds))) refl (beside_length t ds ∙ sym (out_length s s.exports caps ds es h.1)) k)

-- ---- One question

module _ (q : ℕ) where
  -- No outcome of which it is told is unknown.
  abbrev pub Quiet : State → Type 0
  Quiet s = (o : ℕ) → ¬ (IsOpenFor q (map.get s.outcomes o))

  abbrev pub PlainOther : PlainMessage → Type 0
  PlainOther (plain.Abort x) = Unit {0}
  PlainOther (plain.Bootstrap p) = Unit {0}
  PlainOther (plain.Call c) = ¬ (c.question.0 ≡ q)
  PlainOther (plain.Return x) = Unit {0}
  PlainOther (plain.Finish f) = Unit {0}
  PlainOther (plain.Resolve x) = Unit {0}
  PlainOther (plain.Release x) = Unit {0}
  PlainOther (plain.Disembargo x) = Unit {0}
  PlainOther (plain.Other n) = Unit {0}

  -- The message is no Call with this id.
  abbrev pub IsOther : Message → Type 0
  IsOther (message.Plain m) = PlainOther m
  IsOther (message.Unimplemented m) = Unit {0}

  module _ (b : Option ObjectId) where
    abbrev Root : Value → Type 0
    Root x = SaysRoot (object_number b) x

    abbrev pub PlainRoot : PlainMessage → Type 0
    PlainRoot (plain.Abort x) = Unit {0}
    PlainRoot (plain.Bootstrap p) = Unit {0}
    PlainRoot (plain.Call c) = Unit {0}
    PlainRoot (plain.Return x) = x.answer.0 ≡ q → BodyRoot (object_number b) x.body
    PlainRoot (plain.Finish f) = Unit {0}
    PlainRoot (plain.Resolve x) = Unit {0}
    PlainRoot (plain.Release x) = Unit {0}
    PlainRoot (plain.Disembargo x) = Unit {0}
    PlainRoot (plain.Other n) = Unit {0}

    -- A Return to it says the root.
    abbrev pub IsRoot : Message → Type 0
    IsRoot (message.Plain m) = PlainRoot m
    IsRoot (message.Unimplemented m) = Unit {0}

    abbrev pub AreRoots : List Message → Type 0
    AreRoots [] = Unit {0}
    AreRoots (m ∷ ms) = IsRoot m × AreRoots ms

    pub roots-append : (ms ns : List Message) → AreRoots ms → AreRoots ns → AreRoots (ms ++ ns)
    roots-append [] ns h k = k
    roots-append (m ∷ ms) ns h k = (h.0, roots-append ms ns h.1 k)

    no_releases : (xs : List (ℕ × ℕ)) → AreRoots (release_messages xs)
    no_releases [] = tt
    no_releases (x ∷ xs) = (tt, no_releases xs)

    abbrev Unfinished : Option AnswerEntry → Type 0
    Unfinished None = Unit {0}
    Unfinished (Some a) = a.finished ≡ false

    -- What is unknown becomes known next, with the root; and its answer is not finished.
    abbrev AtOutcome : List (ℕ × Value) → Option AnswerEntry → ℕ → Option KeptOutcome → Type 0
    AtOutcome coming a o x = IsOpenFor q x → (v : Value) × (coming ≡ (o, v) ∷ []) × Root v × Unfinished a

    abbrev Opened : List (ℕ × Value) → Option AnswerEntry → Map KeptOutcome → Type 0
    Opened coming a m = (o : ℕ) → AtOutcome coming a o (map.get m o)

    abbrev Told : Option AnswerEntry → List (Caller × Value) → Type 0
    Told a [] = Unit {0}
    Told a (x ∷ xs) = (x.0 ≡ peer q → Root x.1 × Unfinished a) × Told a xs

    abbrev Said : Option Saying → Type 0
    Said None = Unit {0}
    Said (Some x) = x.answer.0 ≡ q → BodyRoot (object_number b) x.body

    abbrev Fine : Moment → Type 0
    Fine d =
        (d.state.bootstrap ≡ b) × Opened d.coming (map.get d.state.answers q) d.state.outcomes × Told (map.get d.state.answers q) d.telling × Said d.saying × AreRoots d.effects.sends

    puts : (coming : List (ℕ × Value)) (a : Option AnswerEntry) (m : Map KeptOutcome) (o : ℕ) (x : KeptOutcome) → AtOutcome coming a o (Some x) → Opened coming a m → Opened coming a (map.insert m o x)
    puts coming a m o x f i = at_put (AtOutcome coming a) m o x f (λ j e. i j)

    cuts : (coming : List (ℕ × Value)) (a : Option AnswerEntry) (m : Map KeptOutcome) (o : ℕ) → Opened coming a m → Opened coming a (map.remove m o)
    cuts coming a m o i = at_cut (AtOutcome coming a) m o (λ f. absurd f) (λ j e. i j)

    still : (m : Map AnswerEntry) (k : ℕ) (a : AnswerEntry) (ids : List ℕ) → Unfinished (map.get m q) → Unfinished (map.get (returned_map m k a a.finished ids) q)
    still m k a ids u = by a.finished refl
      where
        by : (f : Bool) → a.finished ≡ f → Unfinished (map.get (returned_map m k a f ids) q)
        by true e = at_cut (λ j o. Unfinished (map.get m j) → Unfinished o) m k (λ w. tt) (λ j n w. w) q u
        by false e = at_put (λ j o. Unfinished (map.get m j) → Unfinished o) m k _ (λ w. e) (λ j n w. w) q u

    still_told : (x y : Option AnswerEntry) (ts : List (Caller × Value)) → (Unfinished x → Unfinished y) → Told x ts → Told y ts
    still_told x y [] f i = tt
    still_told x y (t ∷ ts) f i = (λ e. let z = i.0 e in (z.0, f z.1), still_told x y ts f i.1)

    nothing_comes : (d : Moment) → d.coming ≡ [] → Opened d.coming (map.get d.state.answers q) d.state.outcomes → Quiet d.state
    nothing_comes d e i o f = let z = i o f in absurd (let bad : (o, z.0) ∷ [] ≡ [] = sym z.1 ∙ e in cc)

    quiet_opened : (s : State) (coming : List (ℕ × Value)) (a : Option AnswerEntry) → Quiet s → Opened coming a s.outcomes
    quiet_opened s coming a i o f = absurd (i o f)

    abbrev first_key : List (ℕ × Value) → ℕ
    first_key [] = 0
    first_key (x ∷ xs) = x.0

    abbrev first_value : Value → List (ℕ × Value) → Value
    first_value v [] = v
    first_value v (x ∷ xs) = x.1

    known_one : (o u : ℕ) (x : Value) (v : Value) (xs : List (ℕ × Value)) → xs ≡ (u, v) ∷ [] → xs ≡ (o, x) ∷ [] → (o ≡ u) × (x ≡ v)
    known_one o u x v xs e f = (ap first_key (sym f ∙ e), ap (first_value v) (sym f ∙ e))

    acted : (d new : Moment) → Fine d → Act d new → Fine new
    acted d new i (act.Holds c n rest u path x e f j k) = rw k (i.0, puts d.coming (map.get d.state.answers q) d.state.outcomes u _ (subst (AtOutcome d.coming (map.get d.state.answers q) u) j (i.1 u)) i.1, i.2, i.3, i.4)
    acted d new i (act.Relays c n rest p t ds es e f j k u) = rw u (i.0, i.1, i.2, i.3, roots-append d.effects.sends _ i.4 (tt, tt))
    acted d new i (act.NextArisen o w rest e f u) =
        let none : d.coming ≡ [] = ap (λ (m : Moment). m.coming) e in
        rw u (i.0, quiet_opened d.state _ _ (nothing_comes d none i.1), i.2, i.3, i.4)
    acted d new i (act.Knows u w fit x ps e f j k z) =
        let now : d.coming ≡ (u, w) ∷ [] = ap (λ (m : Moment). m.coming) e in
        let a = map.get d.state.answers q in
        let others : (o : ℕ) → nat_eq o u ≡ false → AtOutcome [] a o (map.get d.state.outcomes o) = λ o n g. let y = i.1 o g in let same = (known_one o u y.0 w d.coming now y.1).0 in absurd (grind (arith, n, same)) in
        let told : x.caller ≡ peer q → Root fit × Unfinished a =
        λ g.
        let y = i.1 u (subst (λ (o : Option KeptOutcome). IsOpenFor q o) (sym f) (j, g)) in
        let same = (known_one u u y.0 w d.coming now y.1).1 in
        (fits_root (object_number b) d.state u x.caller x.waiting w fit (record (d.state) { promises = ps }) k (subst (λ (v : Value). Root v) same y.2), y.3)
        in
        rw z (i.0, at_put (AtOutcome [] a) d.state.outcomes u _ (λ g. absurd (let bad : Some fit ≡ None = g.0 in cc)) others, (told, tt), i.3, i.4)
    acted d new i (act.Reports c w from e f u) = rw u (i.0, i.1, tt, i.3, i.4)
    acted d new i (act.TellsNobody c w e f u) = rw u (i.0, i.1, tt, i.3, i.4)
    acted d new i (act.MakesReturn p w x y ds es e f j k u) =
        let a = map.get d.state.answers q in
        let told : Told a ((caller.Peer p, w) ∷ []) = subst (Told a) e i.2 in
        let says : p.0 ≡ q → BodyRoot (object_number b) y =
        λ g.
        let z = told.0 (ap (λ (n : ℕ). caller.Peer (record { 0 = n })) g) in
        let wanted : x.finished ≡ false = subst Unfinished j (subst (λ (n : ℕ). Unfinished (map.get d.state.answers n)) (sym g) z.1) in
        said_root (object_number b) d.state x.finished w y ds es wanted k z.0
        in
        rw u (i.0, i.1, tt, says, i.4)
    acted d new i (act.SendsReturn x y e f j u) =
        let a = map.get d.state.answers q in
        rw u (
          i.0,
          λ o g. let z = i.1 o g in (z.0, z.1, z.2, still d.state.answers x.answer.0 y _ z.3),
          still_told a _ d.telling (λ w. still d.state.answers x.answer.0 y _ w) i.2,
          tt,
          roots-append d.effects.sends _ i.4 (subst Said e i.3, tt),
        )
    acted d new i (act.Clears x e f u) = rw u (i.0, puts d.coming (map.get d.state.answers q) d.state.outcomes x.outcome _ (λ g. absurd (let bad : Some x.value ≡ None = g.0 in cc)) i.1, i.2, i.3, i.4)
    acted d new i (act.OutcomeGoes o x w z e f j k l u) = rw u (i.0, cuts d.coming (map.get d.state.answers q) d.state.outcomes o i.1, i.2, i.3, i.4)
    acted d new i (act.SendsFinish p x rest e f j k l u) = rw u (i.0, i.1, i.2, i.3, roots-append d.effects.sends _ i.4 (tt, tt))
    acted d new i (act.Closes p x rest e f j k l u) = rw u i
    acted d new i (act.Delivers c n rest u e f k) = rw k i
    acted d new i (act.Waits c n rest p calls e f j k) = rw k i
    acted d new i (act.Breaks c n rest reason e f u) = rw u i
    acted d new i (act.Lists x e u) = rw u i
    acted d new i (act.SendsResolve x rest k es e w f u) = rw u (i.0, i.1, i.2, i.3, roots-append d.effects.sends _ i.4 (tt, tt))
    acted d new i (act.SendsBroken x rest reason e f u) = rw u (i.0, i.1, i.2, i.3, roots-append d.effects.sends _ i.4 (tt, tt))
    acted d new i (act.PromiseGoes p to w e f u) = rw u i
    acted d new i (act.ImportGoes k x w e f u) = rw u i
    acted d new i (act.Sweeps over e f j u) = rw u i
    acted d new i (act.Releases w e f u) = rw u (i.0, i.1, i.2, i.3, roots-append d.effects.sends _ i.4 (no_releases (map.entries d.released)))

    -- ---- The first act

    abbrev pub Begins : State → Type 0
    Begins s = (s.bootstrap ≡ b) × Quiet s

    own : (coming : List (ℕ × Value)) (a : Option AnswerEntry) (s : State) (o : ℕ) (n : ℕ) → Quiet s → Opened coming a (map.insert s.outcomes o (record { caller = caller.Application (record { 0 = n }); value = None; waiting = [] }))
    own coming a s o n i = puts coming a s.outcomes o _ (λ g. absurd (let bad : caller.Application (record { 0 = n }) ≡ peer q = g.1 in cc)) (quiet_opened s coming a i)

    started : (s : State) (c : Command) (g : Granted) (new : Moment) → Begins s → Starts (beginning s) c g new → Fine new
    started s c g new i (first.AsksRoot p e f a u) = rw u (i.0, quiet_opened s _ _ i.1, tt, tt, (tt, tt))
    started s c g new i (first.CallsOut y x p t ds es e f j l m o a u) = rw u (i.0, quiet_opened s _ _ i.1, tt, tt, (tt, tt))
    started s c g new i (first.CallsHere y x o e f j l m a u) = rw u (i.0, own _ _ s o s.next_call i.1, tt, tt, tt)
    started s c g new i (first.CallsLater y x o z w e f j l m a u) = rw u (i.0, own _ _ s o s.next_call i.1, tt, tt, tt)
    started s c g new i (first.Hosts o e a u) = rw u (i.0, quiet_opened s _ _ i.1, tt, tt, tt)
    started s c g new i (first.Clones y x e f a u) = rw u (i.0, quiet_opened s _ _ i.1, tt, tt, tt)
    started s c g new i (first.NamesField y path from e f a u) = rw u (i.0, quiet_opened s _ _ i.1, tt, tt, tt)
    started s c g new i (first.Promises p e f a u) = rw u (i.0, quiet_opened s _ _ i.1, tt, tt, tt)
    started s c g new i (first.Drops y x e f a u) = rw u (i.0, quiet_opened s _ _ i.1, tt, tt, tt)
    started s c g new i (first.Fixes p y x key calls e f j l a u) = rw u (i.0, quiet_opened s _ _ i.1, tt, tt, tt)
    started s c g new i (first.Rejects p why key calls e f j a u) = rw u (i.0, quiet_opened s _ _ i.1, tt, tt, tt)
    started s c g new i (first.Answers t payload refs o e f a u) = rw u (i.0, quiet_opened s _ _ i.1, tt, tt, tt)
    started s c g new i (first.Fails t why o e f a u) = rw u (i.0, quiet_opened s _ _ i.1, tt, tt, tt)
    started s c g new i (first.Finishes y from e f a u) = rw u (i.0, quiet_opened s _ _ i.1, tt, tt, tt)
    started s c g new i (first.StaysPut y x e f a u) = rw u (i.0, quiet_opened s _ _ i.1, tt, tt, tt)
    started s c g new i (first.Breaks y x reason e f j l a u) = rw u (i.0, quiet_opened s _ _ i.1, tt, tt, tt)
    started s c g new i (first.Switches y x by n0 e f j l m o a u) = rw u (i.0, quiet_opened s _ _ i.1, tt, tt, tt)
    started s c g new i (first.Turns y x by n0 t z e f j l m o w p a u) = rw u (i.0, quiet_opened s _ _ i.1, tt, tt, (tt, tt))

    opens_root : (s : State) (p : QuestionId) (o : ℕ) (e : AnswerEntry) → e.finished ≡ false → Begins s
        → Opened ((o, bootstrap_value s.bootstrap) ∷ []) (map.get (map.insert s.answers p.0 e) q) (map.insert s.outcomes o (record { caller = caller.Peer p; value = None; waiting = [] }))
    opens_root s p o e z i = puts _ _ s.outcomes o _ here (quiet_opened s _ _ i.1)
      where
        here : AtOutcome ((o, bootstrap_value s.bootstrap) ∷ []) (map.get (map.insert s.answers p.0 e) q) o (Some (record { caller = caller.Peer p; value = None; waiting = [] }))
        here g =
            let k : caller.Peer p ≡ peer q = g.1 in
            let same : p.0 ≡ q = cc in (
              bootstrap_value s.bootstrap,
              refl,
              subst (λ (y : Option ObjectId). SaysRoot (object_number b) (bootstrap_value y)) (sym i.0) (root_says b),
              subst (λ (n : ℕ). Unfinished (map.get (map.insert s.answers p.0 e) n)) same (subst Unfinished (sym (get-insert_same s.answers p.0 e)) z),
            )

    opens_call : (s : State) (m : Message) (p : QuestionId) (o : ℕ) (a : Option AnswerEntry) → ¬ (p.0 ≡ q) → Begins s → Opened [] a (map.insert s.outcomes o (record { caller = caller.Peer p; value = None; waiting = [] }))
    opens_call s m p o a n i = puts [] a s.outcomes o _ (λ g. let k : caller.Peer p ≡ peer q = g.1 in let same : p.0 ≡ q = cc in absurd (n same)) (quiet_opened s [] a i.1)

    consumed : (s : State) (m : Message) (new : Moment) → IsOther m → Begins s → Consumes (beginning s) m new → Fine new
    consumed s m new n i (heard.OpensRoot p o e f j u) = rw u (i.0, opens_root s p o _ refl i, tt, tt, tt)
    consumed s m new n i (heard.OpensCall c o e f j u) = rw u (i.0, opens_call s m c.question o _ (subst IsOther e n) i, tt, tt, tt)
    consumed s m new n i (heard.Loses y x e f j k u) = rw u (i.0, quiet_opened s _ _ i.1, tt, tt, tt)
    consumed s m new n i (heard.ComesToCall y x c e f j k l u) = rw u (i.0, quiet_opened s _ _ i.1, (λ g. absurd (let bad : caller.Application c ≡ peer q = g in cc), tt), tt, tt)
    consumed s m new n i (heard.ComesToRelay y x o e f j k l u) = rw u (i.0, quiet_opened s _ _ i.1, tt, tt, tt)
    consumed s m new n i (heard.IsFinished x z e f j u) = rw u (i.0, quiet_opened s _ _ i.1, tt, tt, tt)
    consumed s m new n i (heard.IsResolved x e u) = rw u (i.0, quiet_opened s _ _ i.1, tt, tt, tt)
    consumed s m new n i (heard.IsReleased x e u) = rw u (i.0, quiet_opened s _ _ i.1, tt, tt, tt)
    consumed s m new n i (heard.SendsBack t to x e f u) = rw u (i.0, quiet_opened s _ _ i.1, tt, tt, (tt, tt))
    consumed s m new n i (heard.Lifts t x y e f u) = rw u (i.0, quiet_opened s _ _ i.1, tt, tt, tt)
    consumed s m new n i (heard.SendsForeign p e f u) = rw u (i.0, quiet_opened s _ _ i.1, tt, tt, (tt, tt))
    consumed s m new n i (heard.SendsOther k e u) = rw u (i.0, quiet_opened s _ _ i.1, tt, tt, (tt, tt))
    consumed s m new n i (heard.TakesBack x e u) = rw u (i.0, quiet_opened s _ _ i.1, tt, tt, tt)
    consumed s m new n i (heard.Ignores x e u) = rw u (i.0, quiet_opened s _ _ i.1, tt, tt, tt)

    -- ---- Steps

    abbrev pub Leaves : State → Effects → Type 0
    Leaves t x = Begins t × AreRoots x.sends

    pub commands : (s : State) (c : Command) (g : Granted) (x : Effects) (t : State) → Begins s → Does s c g x t → Leaves t x
    commands s c g x t i d =
        let k = done Fine s c g x t (λ new j. started s c g new i j) acted d in
        let z = k.holds in
        at_end Leaves k.last x t k.ends ((z.0, nothing_comes k.last (ap (λ (m : Moment). m.coming) k.ends.rest) z.1), z.4)

    pub messages : (s : State) (m : Message) (x : Effects) (t : State) → fault_of s m ≡ None → IsOther m → Begins s → Handles s m x t → Leaves t x
    messages s m x t f n i d =
        let k = handled Fine s m x t f (λ new j. consumed s m new n i j) acted d in
        let z = k.holds in
        at_end Leaves k.last x t k.ends ((z.0, nothing_comes k.last (ap (λ (m : Moment). m.coming) k.ends.rest) z.1), z.4)
