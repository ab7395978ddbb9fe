-- The other vat is told by a Return: it may be, and it is still so in the middle of the step.
use Rattle.std.specs.FinMap as map
use Rattle.std.proofs.Common.{◌≡◌, ℕ, ◌+◌, ◌≤◌, Bool, nat_eq, true, false, List, [], ◌∷◌, ◌++◌, append_assoc, Option, None, Some, IsSome, refl, sym, ap, subst, ◌∙◌, arith}
use Rattle.finite_maps.specs.Tally.{Map}
use Rattle.finite_maps.proofs.Tested.{at_cut, at_put, equal, get_left, get_other}
use Rattle.rpc_msg.specs.declared.ids.EmbargoId.{EmbargoId}
use Rattle.rpc_msg.specs.declared.ids.ExportId.{ExportId}
use Rattle.rpc_msg.specs.declared.ids.QuestionId.{QuestionId}
use Rattle.rpc_msg.specs.declared.message.Message.{Message}
use Rattle.rpc_msg.specs.declared.message.Message.TheVariants as message
use Rattle.rpc_msg.specs.declared.message.PlainMessage.{PlainMessage}
use Rattle.rpc_msg.specs.declared.message.PlainMessage.TheVariants as plain
use Rattle.rpc_msg.specs.declared.message.ReturnBody.{ReturnBody}
use Rattle.rpc_msg.specs.declared.parts.Descriptor.{Descriptor}
use Rattle.rpc_msg.specs.Messages.{descriptors_of, given}
use Rattle.rpc_machine.specs.declared.calls.Caller.{Caller}
use Rattle.rpc_machine.specs.declared.calls.Caller.TheVariants as who
use Rattle.rpc_machine.specs.declared.calls.KeptOutcome.{KeptOutcome}
use Rattle.rpc_machine.specs.declared.calls.OwnCall.{OwnCall}
use Rattle.rpc_machine.specs.declared.calls.Value.{Value}
use Rattle.rpc_machine.specs.declared.calls.Value.TheVariants as value
use Rattle.rpc_machine.specs.declared.command.Level.TheVariants.{Zero, One}
use Rattle.rpc_machine.specs.declared.entries.AnswerEntry.{AnswerEntry}
use Rattle.rpc_machine.specs.declared.entries.Export.{Export}
use Rattle.rpc_machine.specs.declared.entries.Import.{Import}
use Rattle.rpc_machine.specs.declared.node.Node.{Node}
use Rattle.rpc_machine.specs.declared.node.Node.TheVariants as node
use Rattle.rpc_machine.specs.State.{State}
use Rattle.rpc_machine.specs.Lists.{how_many}
use Rattle.rpc_machine.specs.Nodes.{is_import, link, settle}
use Rattle.rpc_machine.specs.Collecting.{Collects, Goes, ImportGoes, Loose, OutcomeGoes, PromiseGoes, Tight}
use Rattle.rpc_machine.specs.Descriptors.{DescribesAll}
use Rattle.rpc_machine.specs.Flags.{flag_for, give_if}
use Rattle.rpc_machine.specs.Places.{imports_of, named_by_answer, named_by_taken, names, places}
use Rattle.rpc_machine.specs.Progress.{Progress, caps_of, export_ids, numbers, send, with_state}
use Rattle.rpc_machine.specs.Settling.{Returns, SaysBack, Tells, TellsCall, TellsPeer, returned, returned_map}
use Rattle.laws_steps.specs.Callers.{AnswersWith, IsOpenFor, peer}
use Rattle.laws_steps.specs.Settled.{IsAmong, IsThere}
use Rattle.laws_steps.proofs.Below.{gives_below, places_below}
use Rattle.laws_steps.proofs.GivenBack.{of_returned, of_taken, still_here}
use Rattle.laws_steps.proofs.NamedNodes.{Asked, NoneAtZero, Present}
use Rattle.laws_steps.proofs.NamedPieces.{Standing, stays_collected}
use Rattle.laws_routes.specs.Named.{EachMet}
use Rattle.laws_routes.specs.MakingLaws.{EmbargoIsThere}
use Rattle.laws_routes.specs.OutcomeLaws.{PeerIsTold, ReturnGoesAs, ReturnMayGo}
use Rattle.laws_routes.specs.Premises.{IsAnswerOf}
use Rattle.laws_routes.specs.QuietLaws.{MayClose}
use Rattle.laws_routes.specs.SayingLaws.{AllMaySay, MaySayAs, MaySayBack}
use Rattle.laws_routes.specs.Ties.{Around}
use Rattle.laws_routes.specs.Midway.{AllAreHeld, IsAwaited, IsHeld, IsOutcomeOf, Midway, MidwayAt}
use Rattle.laws_nodes.proofs.Stopping.{same}
use Rattle.laws_routes.proofs.ApplicationTold.{call_alone}
use Rattle.laws_routes.proofs.ExportsGrown.{described}
use Rattle.laws_routes.proofs.FromMidway.{at_end, links_rest, may_say}
use Rattle.laws_routes.proofs.MidwayBelow.{below_still}
use Rattle.laws_routes.proofs.MidwayGone.{collected}
use Rattle.laws_routes.proofs.MidwayKept.{calls_still, held_still}
use Rattle.laws_routes.proofs.MidwayRouted.{all_described, described_still, held_behind, refs_still}
use Rattle.laws_routes.proofs.MidwaySaid.{goes_out}
use Rattle.laws_routes.proofs.ReturnSent.{collected_links, says_exports}

-- ---- What it says may be said

module _ (w : Around) (out : List Message) where
  all_may_say : (ns : List Node) (s : State) (ds : List Descriptor) (new : State) → Midway s w.other out w.back → AllAreHeld s ns → (h : DescribesAll s ns ds new) → AllMaySay w s ns ds new h
  all_may_say [] s [] new m i h = links_rest s w.other out w.back m
  all_may_say [] s (c ∷ ds) new m i h = tt
  all_may_say (n ∷ ns) s [] new m i h = tt
  all_may_say (n ∷ ns) s (c ∷ ds) new m i h =
      let mid = h.0 in
      let k = at_end s w.other out w.back m n i.0 in
      let one = described_still s w.other out w.back m (settle s n) c mid k.0 h.1 in (
        links_rest s w.other out w.back m,
        may_say w s out m n i.0,
        all_may_say ns mid ds new one.0 (held_behind s mid ns (described s (settle s n) c mid h.1) i.1) h.2,
      )

  may_say_as : (s : State) (closes : Bool) (v : Value) (said : ReturnBody) (ds : List Descriptor) (new : State) → Midway s w.other out w.back → AllAreHeld s (caps_of v) → (h : SaysBack s closes v said ds new) → MaySayAs w s closes v said ds new h
  may_say_as s true v said ds new m i h = tt
  may_say_as s false (value.Exception exception) said ds new m i h = links_rest s w.other out w.back m
  may_say_as s false (value.Results payload caps) said ds new m i h = all_may_say caps s ds new m i h.1

-- The Return's descriptors name exports that are there.
abbrev BodyMet : Map Export → Map Export → ReturnBody → Type 0
BodyMet E F said = (q : QuestionId) (flag : Bool) → EachMet E F (descriptors_of (message.Plain (plain.Return (record { answer = q; release_param_caps = flag; body = said }))))

says_still : (s other : State) (out back : List Message) (closes : Bool) (v : Value) (said : ReturnBody) (ds : List Descriptor) (new : State) → Midway s other out back → AllAreHeld s (caps_of v) → SaysBack s closes v said ds new
    → Midway new other out back × BodyMet new.exports other.exports said
says_still s other out back true v said ds new m i h = (subst (λ (z : State). Midway z other out back) (sym h.2) m, subst (BodyMet new.exports other.exports) (sym h.0) (λ q flag. tt))
says_still s other out back false (value.Exception exception) said ds new m i h = (subst (λ (z : State). Midway z other out back) (sym h.2) m, subst (BodyMet new.exports other.exports) (sym h.0) (λ q flag. tt))
says_still s other out back false (value.Results payload caps) said ds new m i h =
    let a = all_described caps s other out back ds new m i h.1 in
    (a.0, subst (BodyMet new.exports other.exports) (sym h.0) (λ q flag. a.1))

-- ---- The answer's Return was sent

module _ (s other : State) (out back : List Message) (h : Midway s other out back) (q o : ℕ) (a : AnswerEntry) (x : KeptOutcome) (v : Value) (st : Standing o q x a s) (own : a.outcome ≡ o) (is_known : x.value ≡ Some v) (waits : a.returned ≡ None) where
  no_other : (k p : ℕ) → IsOpenFor p (map.get s.outcomes k) → nat_eq p q ≡ false
  no_other k p i = by (nat_eq p q) refl
    where
      by : (b : Bool) → nat_eq p q ≡ b → nat_eq p q ≡ false
      by false g = g
      by true g =
          let j : AnswersWith k (Some a) = subst (AnswersWith k) st.1 (subst (λ (m : ℕ). AnswersWith k (map.get s.answers m)) (equal p q g) (h.pending k p i)) in
          let same : k ≡ o = sym j.0 ∙ own in
          let l : IsOpenFor p (Some x) = subst (IsOpenFor p) st.0 (subst (λ (m : ℕ). IsOpenFor p (map.get s.outcomes m)) same i) in
          let bad : Some v ≡ None = sym is_known ∙ l.0 in
          cc

  module _ (ids : List ℕ) where
    abbrev b : AnswerEntry
    b = record a { returned = Some (export_ids ids) }

    abbrev A : Bool → Map AnswerEntry
    A f = returned_map s.answers q a f ids

    answers_now : (f : Bool) (k : ℕ) (y : AnswerEntry) → map.get (A f) k ≡ Some y → IsOutcomeOf k (map.get s.outcomes y.outcome)
    answers_now true = at_cut (λ k z. (y : AnswerEntry) → z ≡ Some y → IsOutcomeOf k (map.get s.outcomes y.outcome)) s.answers q (λ y e. cc) (λ k n y e. h.answers k y e)
    answers_now false =
        at_put (λ k z. (y : AnswerEntry) → z ≡ Some y → IsOutcomeOf k (map.get s.outcomes y.outcome)) s.answers q b
        (λ y e. (let c : b ≡ y = cc in subst (λ (y : AnswerEntry). IsOutcomeOf q (map.get s.outcomes y.outcome)) c (h.answers q a st.1))) (λ k n y e. h.answers k y e)

    pending_now : (f : Bool) (k p : ℕ) → IsOpenFor p (map.get s.outcomes k) → AnswersWith k (map.get (A f) p)
    pending_now true k p i = subst (AnswersWith k) (sym (get_left s.answers q p (no_other k p i))) (h.pending k p i)
    pending_now false k p i = subst (AnswersWith k) (sym (get_other s.answers q b p (no_other k p i))) (h.pending k p i)

    awaited_now : (f : Bool) (k : ℕ) (y : AnswerEntry) → map.get (A f) k ≡ Some y → y.returned ≡ None → IsAwaited other back k y.finished
    awaited_now true = at_cut (λ k z. (y : AnswerEntry) → z ≡ Some y → y.returned ≡ None → IsAwaited other back k y.finished) s.answers q (λ y e. cc) (λ k n y e. h.awaited k y e)
    awaited_now false = at_put (λ k z. (y : AnswerEntry) → z ≡ Some y → y.returned ≡ None → IsAwaited other back k y.finished) s.answers q b (λ y e r. absurd (never y (let c : b ≡ y = cc in c) r)) (λ k n y e. h.awaited k y e)
      where
        never : (y : AnswerEntry) → b ≡ y → y.returned ≡ None → ⊥
        never y e r = let c : Some (export_ids ids) ≡ None = ap (λ (y : AnswerEntry). y.returned) e ∙ r in cc

    abbrev t : Bool → State
    t f = record s { answers = A f }

    module _ (f : Bool) where
      held_now : (n : Node) → IsHeld s n → IsHeld (t f) n
      held_now (node.Object k) i = i
      held_now (node.Promise p) i = i
      held_now (node.Field k path) i = i
      held_now (node.Import e) i = i
      held_now (node.Pipe k path) i = i
      held_now (node.Broken reason) i = i

      there_before : (n : Node) → IsThere (t f) n → IsThere s n
      there_before (node.Object k) i = i
      there_before (node.Promise p) i = i
      there_before (node.Field k path) i = i
      there_before (node.Import e) i = i
      there_before (node.Pipe k path) i = i
      there_before (node.Broken reason) i = i

      same_link : (n : Node) → link (t f) n ≡ link s n
      same_link (node.Object k) = refl
      same_link (node.Promise p) = refl
      same_link (node.Field k path) = refl
      same_link (node.Import e) = refl
      same_link (node.Pipe k path) = refl
      same_link (node.Broken reason) = refl

      embargo_now : (r : ℕ) (e : Option EmbargoId) → EmbargoIsThere s r e → EmbargoIsThere (t f) r e
      embargo_now r None i = tt
      embargo_now r (Some e) i = i

      answered_still : Midway (t f) other out back
      answered_still = record {
        stop = (let k = same s (t f) same_link h.stop in k.0);
        links = λ m k i e. held_now k (h.links m k (there_before m i) (sym (same_link m) ∙ e));
        heads = λ r z e. held_now z.head (h.heads r z e);
        embargoes = λ e z i. held_now z.node (h.embargoes e z i);
        resolved = λ e said to k. held_now to (h.resolved e said to k);
        returned = λ k path said to e. held_now to (h.returned k path said to e);
        waits = λ p cs e. calls_still s (t f) held_now cs (h.waits p cs e);
        holds = λ k z e. held_still s (t f) held_now z.waiting (h.holds k z e);
        keeps = λ e z i. calls_still s (t f) held_now z.waiting (h.keeps e z i);
        paired = λ r z e. embargo_now r z.embargo (h.paired r z e);
        exports = λ e z g. (let k = h.exports e z g in (k.0, held_now z.node k.1));
        theirs = h.theirs;
        imported = h.imported;
        answers = answers_now f;
        pending = pending_now f;
        awaited = awaited_now f;
        opens = h.opens;
        returns = h.returns;
        answered = h.answered;
        met = h.met;
        named = h.named;
        sent = h.sent;
        echoed = h.echoed;
      }

      -- ---- What its Call gave is given back

      abbrev gave : List ℕ
      gave = numbers a.taken

      fewer : (e : ℕ) → how_many (nat_eq e) gave + names (t f) (is_import e) ≤ names s (is_import e)
      fewer e =
          let one = of_returned (is_import e) s q a f ids st.1 in
          let two = of_taken e a.taken in
          let three : how_many (is_import e) (named_by_answer q a) ≡ how_many (is_import e) (imports_of a.taken) = ap (λ (z : Option (List ExportId)). how_many (is_import e) (named_by_taken a.taken z)) waits in
          omega (arith, one, two, three)

      module _ (level : s.level ≡ One) (given : flag_for s gave ≡ true) where
        -- Pipes are of no account here.
        abbrev every : Asked
        every = λ k. Some 0

        none : NoneAtZero s.level s.imports
        none z e = let bad : One ≡ Zero = sym level ∙ z in cc

        abbrev u : State
        u = give_if (t f) true gave

        import_still : (e : ℕ) → IsAmong (node.Import (record { 0 = e })) (places u) → IsSome (map.get s.imports e) → IsSome (map.get u.imports e)
        import_still e i k = by (map.get u.imports e) (still_here every s (t f) gave none (λ l. fewer) true given (node.Import (record { 0 = e })) (places_below (t f) u (gives_below (t f) true gave) (node.Import (record { 0 = e })) i) (before (map.get s.imports e) k))
          where
            before : (z : Option Import) → IsSome z → Present z
            before None k = cc
            before (Some z) k = tt

            by : (z : Option Import) → Present z → IsSome z
            by None k = absurd k
            by (Some z) k = refl

        named_held : (n : Node) → IsAmong n (places u) → IsHeld (t f) n → IsHeld u n
        named_held (node.Object k) i j = j
        named_held (node.Promise p) i j = j
        named_held (node.Field k path) i j = j
        named_held (node.Import e) i j = (tt, import_still e.0 i j.1)
        named_held (node.Pipe k path) i j = j
        named_held (node.Broken reason) i j = j

        flagged : Midway u other out back
        flagged = below_still (t f) u other out back answered_still (gives_below (t f) true gave) named_held (answers_now f) h.opens h.returns

      given_still : s.level ≡ One → (z : Bool) → flag_for s gave ≡ z → Midway (record (give_if s z gave) { answers = returned_map (give_if s z gave).answers q a f ids }) other out back × ((give_if s z gave).exports ≡ s.exports) × ((give_if s z gave).outcomes ≡ s.outcomes)
      given_still level true e = (flagged level e, refl, refl)
      given_still level false e = (answered_still, refl, refl)

-- ---- The whole

-- The application is told, of any value.
tells_call : (w : Around) (d : Progress) (c : ℕ) (v : Value) (z : Option OwnCall) (told : Progress) → MidwayAt w d → AllAreHeld d.state (caps_of v) → TellsCall d c v z told → MidwayAt w told
tells_call w d c v None told h k a = subst (MidwayAt w) (sym a) h
tells_call w d c v (Some from) told h k a = subst (MidwayAt w) (sym a) (refs_still (caps_of v) d.state w.other (w.out ++ d.effects.sends) w.back h k)

goes_level : (d new : Progress) → Goes d new → new.state.level ≡ d.state.level
goes_level d new (PromiseGoes p h e) = ap (λ (z : Progress). z.state.level) e
goes_level d new (OutcomeGoes o h e) = ap (λ (z : Progress). z.state.level) e
goes_level d new (ImportGoes i h e) = ap (λ (z : Progress). z.state.level) e

collected_level : (new d : Progress) → Collects new d → new.state.level ≡ d.state.level
collected_level new d (Tight h) = refl
collected_level new d (Loose {mid = k} h more) = collected_level new k more ∙ goes_level d k h

module _ (w : Around) (d : Progress) (q : QuestionId) (o : ℕ) (a : AnswerEntry) (x : KeptOutcome) (v : Value) (told : Progress) (m : MidwayAt w d) (level : d.state.level ≡ One) (caps : AllAreHeld d.state (caps_of v))
    (st : Standing o q.0 x a d.state) (own : a.outcome ≡ o) (its : x.caller ≡ peer q.0) (is_known : x.value ≡ Some v) (waits : a.returned ≡ None) where
  returns_still : Returns d q a v told → MidwayAt w told × (map.get told.state.outcomes o ≡ Some x)
  returns_still h =
      let said = h.0 in
      let ds = h.1 in
      let mid = h.2 in
      let then = h.4.0 in
      let ids = given ds in
      let gave = numbers a.taken in
      let out = w.out ++ d.effects.sends in
      let exports = says_exports d.state a.finished v said ds mid h.3 in
      let one = says_still d.state w.other out w.back a.finished v said ds mid m caps h.3 in
      let two : MidwayAt w then = collected w then (with_state d mid) one.0 h.4.1 in
      let at_mid : Standing o q.0 x a mid = subst (Standing o q.0 x a) (sym exports.1) st in
      let at_then = stays_collected o q.0 x a own its then (with_state d mid) at_mid h.4.1 in
      let level_then : then.state.level ≡ One = collected_level then (with_state d mid) h.4.1 ∙ (ap (λ (z : State). z.level) exports.1 ∙ level) in
      let links = collected_links then (with_state d mid) h.4.1 in
      let flag = flag_for then.state gave in
      let left = give_if then.state flag gave in
      let three = given_still then.state w.other (w.out ++ then.effects.sends) w.back two q.0 o a x v at_then own is_known waits ids a.finished level_then flag refl in
      let s = returned left q.0 a ids in
      let y : PlainMessage = plain.Return (record { answer = q; release_param_caps = flag; body = said }) in
      let same : s.exports ≡ mid.exports = three.1 ∙ links.0 in
      let met : EachMet s.exports (w.other).exports (descriptors_of (message.Plain y)) = subst (λ (E : Map Export). EachMet E (w.other).exports (descriptors_of (message.Plain y))) (sym same) (one.1 q flag) in
      let more = goes_out s w.other (w.out ++ then.effects.sends) w.back (message.Plain y) three.0 (λ P. tt) (λ has. (met, tt, tt)) tt in
      let sent : MidwayAt w (send (with_state then s) y) = subst (λ (ms : List Message). Midway s w.other ms w.back) (append_assoc w.out then.effects.sends (message.Plain y ∷ [])) more in
      let there : map.get s.outcomes o ≡ Some x = ap (λ z. map.get z o) three.2 ∙ at_then.0 in
      subst (λ (z : Progress). MidwayAt w z × (map.get z.state.outcomes o ≡ Some x)) (sym h.4.2) (sent, there)

  may_return : (h : Returns d q a v told) → ReturnGoesAs w q.0 a.finished × MaySayBack w d q a v told h
  may_return h =
      let k = m.awaited q.0 a st.1 waits in
      (closes a.finished refl k.1, record { met = m.met; links = m.named; not_open = k.0; says = may_say_as w (w.out ++ d.effects.sends) d.state a.finished v h.0 h.1 h.2 m caps h.3 })
    where
      closes : (b : Bool) → a.finished ≡ b → (a.finished ≡ true → MayClose w.other w.back q.0) → ReturnGoesAs w q.0 b
      closes true e k = k e
      closes false e k = tt

peer_told : (w : Around) (d : Progress) (q : QuestionId) (o : ℕ) (x : KeptOutcome) (v : Value) (z : Option AnswerEntry) (told : Progress) → map.get d.state.answers q.0 ≡ z → MidwayAt w d → d.state.level ≡ One → AllAreHeld d.state (caps_of v)
    → map.get d.state.outcomes o ≡ Some x → x.caller ≡ peer q.0 → x.value ≡ Some v → AnswersWith o z → (h : TellsPeer d q v z told) → (ReturnMayGo w d q v z told h × IsAnswerOf o z) × MidwayAt w told × (map.get told.state.outcomes o ≡ Some x)
peer_told w d q o x v None told e m level caps at its is_known i h = absurd h
peer_told w d q o x v (Some a) told e m level caps at its is_known i h =
    let k = returns_still w d q o a x v told m level caps (at, e) i.0 its is_known i.1 h in
    let may = may_return w d q o a x v told m level caps (at, e) i.0 its is_known i.1 h in
    ((may, i.0), k.0, k.1)

pub told_still : (w : Around) (d : Progress) (o : ℕ) (from : Caller) (v : Value) (x : KeptOutcome) (told : Progress) → MidwayAt w d → d.state.level ≡ One → AllAreHeld d.state (caps_of v) → map.get d.state.outcomes o ≡ Some x → x.caller ≡ from
    → x.value ≡ Some v → ((q : ℕ) → from ≡ peer q → AnswersWith o (map.get d.state.answers q)) → (h : Tells d from v told) → PeerIsTold w d o from v told h × MidwayAt w told × (map.get told.state.outcomes o ≡ Some x)
told_still w d o (who.Application c) v x told m level caps at its is_known waits h =
    (tt, tells_call w d c.0 v (map.get d.state.calls c.0) told m caps h, ap (λ z. map.get z o) (call_alone d c.0 v (map.get d.state.calls c.0) told h) ∙ at)
told_still w d o (who.Peer q) v x told m level caps at its is_known waits h = peer_told w d q o x v (map.get d.state.answers q.0) told refl m level caps at its is_known (waits q.0 refl) h
