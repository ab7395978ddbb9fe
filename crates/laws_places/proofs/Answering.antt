-- An outcome becomes known with results: what goes out for them, for the calls that waited, and for the exports of its fields.
use Rattle.std.proofs.Common.{◌≡◌, ◌⊎◌, inl, inr, ℕ, zero, suc, ◌+◌, ◌≤◌, Bool, true, false, List, [], ◌∷◌, length, Option, None, Some, refl, sym, ap, subst, ◌∙◌, arith}
use Rattle.std.specs.FinMap as map
use Rattle.finite_maps.specs.Tally.{Map}
use Rattle.finite_maps.proofs.Gets.{get-insert_same}
use Rattle.finite_maps.proofs.Tested.{at_put, get_left}
use Rattle.rpc_msg.specs.Op.{Op}
use Rattle.rpc_msg.specs.CapAt.{CapAt}
use Rattle.rpc_msg.specs.CapAt.TheVariants.{Cap, Null, NotCap}
use Rattle.rpc_msg.specs.Payloads.{Contents as Payload}
use Rattle.rpc_msg.specs.declared.ids.QuestionId.{QuestionId}
use Rattle.rpc_msg.specs.declared.message.ReturnBody.{ReturnBody}
use Rattle.rpc_msg.specs.declared.parts.Descriptor.{Descriptor}
use Rattle.rpc_msg.specs.Messages.{given}
use Rattle.rpc_machine.specs.Payloads.{cap_at}
use Rattle.rpc_machine.specs.declared.node.Node.{Node}
use Rattle.rpc_machine.specs.declared.node.Node.TheVariants as node
use Rattle.rpc_machine.specs.declared.node.Reason.{Reason}
use Rattle.rpc_machine.specs.declared.calls.Caller.{Caller}
use Rattle.rpc_machine.specs.declared.calls.Caller.TheVariants as caller
use Rattle.rpc_machine.specs.declared.calls.HeldCall.{HeldCall}
use Rattle.rpc_machine.specs.declared.calls.KeptOutcome.{KeptOutcome}
use Rattle.rpc_machine.specs.declared.calls.OwnCall.{OwnCall}
use Rattle.rpc_machine.specs.declared.calls.Promise.{Promise}
use Rattle.rpc_machine.specs.declared.calls.Value.{Value}
use Rattle.rpc_machine.specs.declared.calls.Value.TheVariants as value
use Rattle.rpc_machine.specs.declared.entries.AnswerEntry.{AnswerEntry}
use Rattle.rpc_machine.specs.declared.entries.Export.{Export}
use Rattle.rpc_machine.specs.declared.entries.Import.{Import}
use Rattle.rpc_machine.specs.State.{State}
use Rattle.rpc_machine.specs.Nodes.{node_of_cap, field_of, promise_link, value_of, link, settle, is_field}
use Rattle.rpc_machine.specs.Places.{places, names}
use Rattle.rpc_machine.specs.Progress.{Progress, with_state, numbers, caps_of}
use Rattle.rpc_machine.specs.Routing.{RoutesHeld}
use Rattle.rpc_machine.specs.Collecting.{IsLooseValue, IsLooseOutcome, Goes, PromiseGoes, OutcomeGoes, ImportGoes, Collects, Tight, Loose}
use Rattle.rpc_machine.specs.Flags.{give_back}
use Rattle.rpc_machine.specs.Settling.{known, PutsIn, Untangles, Fits, TellsCall, SaysBack, Returns, TellsPeer, Tells, returned, ResolvesEach, exports_where, SettlesOpen, SettlesFrom, SettlesOutcome}
use Rattle.rpc_machine.proofs.Settles.{settles_here}
use Rattle.laws_acts.specs.GoingOut.{Says}
use Rattle.laws_acts.proofs.Alone.{says, refs_alone, back_alone, fits_alone}
use Rattle.laws_steps.specs.Settled.{IsAmong}
use Rattle.laws_steps.proofs.Among.{none_among, in_exports}
use Rattle.laws_steps.proofs.Below.{Left, goes_below, collects_below, places_below}
use Rattle.laws_nodes.specs.Settling.{AllStop}
use Rattle.laws_nodes.proofs.Stopping.{again, on, same, begins}
use Rattle.laws_nodes.proofs.Knowing.{field_link_is, is_a_field, known_stops}
use Rattle.laws_nodes.proofs.Collected.{FewerPromises, FewerValues, fewer, collected}
use Rattle.laws_places.specs.Wanted.{caps_of_held, caps_at_outcome}
use Rattle.laws_places.proofs.Covers.{IsOut, Within, within_first, within_len, all_in}
use Rattle.laws_places.proofs.Broken.{Each, listed, refs_exports}
use Rattle.laws_places.proofs.Carrying.{plain_links, Carried, held_carried}
use Rattle.laws_places.proofs.Saying.{GoesTo, resolves_in}

-- ---- Where nodes settle

abbrev pub ends_of : State → List Node → List Node
ends_of s [] = []
ends_of s (n ∷ ns) = settle s n ∷ ends_of s ns

pub among_ends : (s : State) (ns : List Node) (n : Node) → IsAmong n ns → IsAmong (settle s n) (ends_of s ns)
among_ends s [] n i = absurd i
among_ends s (x ∷ xs) n (inl e) = inl (ap (settle s) e)
among_ends s (x ∷ xs) n (inr i) = inr (among_ends s xs n i)

length-ends : (s : State) (ns : List Node) → length (ends_of s ns) ≡ length ns
length-ends s [] = refl
length-ends s (n ∷ ns) = ap suc (length-ends s ns)

-- Among these, or broken.
abbrev pub IsOneOf : List Node → Node → Type 0
IsOneOf ns n = IsAmong n ns ⊎ ((r : Reason) × (n ≡ node.Broken r))

cap_one : (cs : List Node) (c : CapAt) → IsOneOf cs (node_of_cap cs c)
cap_one cs Null = inr (_, refl)
cap_one cs NotCap = inr (_, refl)
cap_one cs (Cap i) = at cs i
  where
    more : (x m : Node) (xs : List Node) → IsOneOf xs m → IsOneOf (x ∷ xs) m
    more x m xs (inl h) = inl (inr h)
    more x m xs (inr h) = inr h

    at : (cs : List Node) (i : ℕ) → IsOneOf cs (node_of_cap cs (Cap i))
    at [] i = inr (_, refl)
    at (x ∷ xs) zero = inl (inl refl)
    at (x ∷ xs) (suc i) = more x (node_of_cap xs (Cap i)) xs (at xs i)

-- ---- What no place names goes, and what an export names stays

loose_names : (s : State) (o : ℕ) (x : Option KeptOutcome) → IsLooseOutcome s o x → names s (is_field o) ≡ 0
loose_names s o None l = absurd l
loose_names s o (Some x) l = by x.value l
  where
    by : (v : Option Value) → IsLooseValue s o x v → names s (is_field o) ≡ 0
    by None g = absurd g
    by (Some v) g = g.2

goes_beside : (d new : Progress) (o : ℕ) (path : List Op) → Goes d new → IsAmong (node.Field o path) (places d.state) → map.get new.state.outcomes o ≡ map.get d.state.outcomes o
goes_beside d new o path (PromiseGoes p l h) i = ap (λ (u : Progress). map.get u.state.outcomes o) h
goes_beside d new o path (ImportGoes e l h) i = ap (λ (u : Progress). map.get u.state.outcomes o) h
goes_beside d new o path (OutcomeGoes k l h) i =
    let other = none_among (is_field k) (places d.state) (loose_names d.state k (map.get d.state.outcomes k) l) (node.Field o path) i in
    ap (λ (u : Progress). map.get u.state.outcomes o) h ∙ get_left d.state.outcomes k o other

stays_there : (new d : Progress) (o : ℕ) (path : List Op) → Collects new d → IsAmong (node.Field o path) (places new.state) → map.get new.state.outcomes o ≡ map.get d.state.outcomes o
stays_there new d o path (Tight h) i = refl
stays_there new d o path (Loose {mid = mid} g rest) i =
    let j = places_below mid.state new.state (collects_below new mid rest) (node.Field o path) i in
    let k = places_below d.state mid.state (goes_below d mid g) (node.Field o path) j in
    stays_there new mid o path rest i ∙ goes_beside d mid o path g k

left_or_none : {X : Type 0} (m n : Map X) → Left m n → (j : ℕ) → (map.get n j ≡ map.get m j) ⊎ (map.get n j ≡ None)
left_or_none {X} m n l j = by (map.get n j) refl
  where
    by : (o : Option X) → map.get n j ≡ o → (map.get n j ≡ map.get m j) ⊎ (map.get n j ≡ None)
    by None e = inr e
    by (Some x) e = inl (e ∙ sym (l j x e))

fewer_promises : (m n : Map Promise) → Left m n → FewerPromises m n
fewer_promises m n l j = by (left_or_none m n l j)
  where
    by : (map.get n j ≡ map.get m j) ⊎ (map.get n j ≡ None) → (promise_link (map.get n j) ≡ promise_link (map.get m j)) ⊎ (promise_link (map.get n j) ≡ None)
    by (inl e) = inl (ap promise_link e)
    by (inr e) = inr (ap promise_link e)

fewer_values : (m n : Map KeptOutcome) → Left m n → FewerValues m n
fewer_values m n l j = by (left_or_none m n l j)
  where
    by : (map.get n j ≡ map.get m j) ⊎ (map.get n j ≡ None) → (value_of (map.get n j) ≡ value_of (map.get m j)) ⊎ (value_of (map.get n j) ≡ None)
    by (inl e) = inl (ap value_of e)
    by (inr e) = inr (ap value_of e)

-- ---- One outcome

module _ (mid : State) (o : ℕ) (who : Caller) (w : List HeldCall) (payload : Payload) (out : List Node) where
  -- Its value, the state in which it is known, and where its capabilities settle.
  abbrev v : Value
  v = value.Results payload out

  abbrev t : State
  t = known mid o who w v

  abbrev ns : List Node
  ns = ends_of t out

  kept : map.get t.outcomes o ≡ Some (record { caller = who; value = Some v; waiting = w })
  kept = get-insert_same mid.outcomes o (record { caller = who; value = Some v; waiting = w })

  -- What its caller was told left this: links are lost at most, and a field that is exported leads where it did.
  abbrev Told : ℕ → State → Type 0
  Told b u =
      AllStop u × (FewerPromises t.promises u.promises × FewerValues t.outcomes u.outcomes)
      × ((path : List Op) → IsOut u.exports (node.Field o path) → (map.get u.outcomes o ≡ map.get t.outcomes o) × (settle u (node.Field o path) ≡ settle t (node.Field o path)))
      × Within u.exports ns b

  module _ (a : AllStop t) where
    field_ends : (path : List Op) → IsOneOf ns (settle t (node.Field o path))
    field_ends path = subst (IsOneOf ns) (sym (on t a (node.Field o path) (field_of v path) (field_link_is o who w mid v path))) (by (cap_one out (cap_at payload path)))
      where
        by : IsOneOf out (field_of v path) → IsOneOf ns (settle t (field_of v path))
        by (inl i) = inl (among_ends t out (field_of v path) i)
        by (inr q) = inr (q.0, ap (settle t) q.1 ∙ settles_here t (node.Broken q.0) refl)

    -- ---- Its caller is told

    -- Where the outcomes and promises are the same.
    told_plainly : (b : ℕ) (u : State) → u.promises ≡ t.promises → u.outcomes ≡ t.outcomes → Within u.exports ns b → Told b u
    told_plainly b u e f k =
        let l = same t u (plain_links t u e f) a in
        (l.0, ((λ j. inl (ap (λ (m : Map Promise). promise_link (map.get m j)) e)), λ j. inl (ap (λ (m : Map KeptOutcome). value_of (map.get m j)) f)), (λ path i. (ap (λ (m : Map KeptOutcome). map.get m o) f, l.1 (node.Field o path))), k)

    -- Where things went.
    told_less : (b : ℕ) (d u : Progress) → d.state.promises ≡ t.promises → d.state.outcomes ≡ t.outcomes → Collects u d → Within u.state.exports ns b → Told b u.state
    told_less b d u e f c k =
        let l = same t d.state (plain_links t d.state e f) a in
        let g = collected u d c l.0 in
        let below = collects_below u d c in
        let p : Left t.promises u.state.promises = subst (λ (m : Map Promise). Left m u.state.promises) e below.promises in
        let q : Left t.outcomes u.state.outcomes = subst (λ (m : Map KeptOutcome). Left m u.state.outcomes) f below.outcomes in (
          g.0,
          (fewer_promises t.promises u.state.promises p, fewer_values t.outcomes u.state.outcomes q),
          (λ path i.
              let place = in_exports u.state (node.Field o path) i in
              (stays_there u d o path c place ∙ ap (λ (m : Map KeptOutcome). map.get m o) f, g.1 (node.Field o path) place ∙ l.1 (node.Field o path))),
          k,
        )

    says_in : (fin : Bool) (said : ReturnBody) (ds : List Descriptor) (m : Map Export) (b : ℕ) → Says t fin v said ds m → Within t.exports ns b → Within m ns b
    says_in true said ds m b h k = let e = h.2 in subst (λ (x : Map Export). Within x ns b) (sym e) k
    says_in false said ds m b h k = all_in t ns b t.exports out ds m (λ n i. among_ends t out n i) h.1 k

    tells_returned : (b : ℕ) (d : Progress) (q : QuestionId) (x : AnswerEntry) (new : Progress) → d.state ≡ t → Returns d q x v new → Within t.exports ns b → Told b new.state
    tells_returned b d q x new e h k =
        let g = h.4 in
        let then = g.0 in
        let m = says t x.finished v h.0 h.1 h.2 (subst (λ (s : State). SaysBack s x.finished v h.0 h.1 h.2) e h.3) in
        let below = collects_below then (with_state d h.2) g.1 in
        let es : then.state.exports ≡ m.0 = below.exports ∙ ap (λ (s : State). s.exports) m.2 in
        let in_it : Within then.state.exports ns b = subst (λ (y : Map Export). Within y ns b) (sym es) (says_in x.finished h.0 h.1 m.0 b m.1 k) in
        let less : Told b then.state = told_less b (with_state d h.2) then (ap (λ (s : State). s.promises) m.2) (ap (λ (s : State). s.outcomes) m.2) g.1 in_it in
        let ids = numbers x.taken in
        let back : Map Import = (give_back then.state ids).imports in
        let last : new.state ≡ returned (record (then.state) { imports = back }) q.0 x (given h.1) =
        ap (λ (p : Progress). p.state) g.2 ∙ ap (λ (s : State). returned s q.0 x (given h.1)) (back_alone then.state ids) in
        subst (Told b) (sym last) (told_again b then.state (returned (record (then.state) { imports = back }) q.0 x (given h.1)) refl refl refl less)
      where
        -- The same promises, outcomes and exports.
        told_again : (b : ℕ) (s u : State) → u.promises ≡ s.promises → u.outcomes ≡ s.outcomes → u.exports ≡ s.exports → Told b s → Told b u
        told_again b s u e f g h =
            let l = same s u (plain_links s u e f) h.0 in
            let less = h.1 in
            let there = h.2 in (
              l.0,
              (subst (FewerPromises t.promises) (sym e) less.0, subst (FewerValues t.outcomes) (sym f) less.1),
              (λ path i.
                  let k = there path (subst (λ (m : Map Export). IsOut m (node.Field o path)) g i) in
                  (ap (λ (m : Map KeptOutcome). map.get m o) f ∙ k.0, l.1 (node.Field o path) ∙ k.1)),
              subst (λ (m : Map Export). Within m ns b) (sym g) h.3,
            )

    tells_told : (b : ℕ) (d : Progress) (from : Caller) (new : Progress) → d.state ≡ t → Tells d from v new → Within t.exports ns b → Told b new.state
    tells_told b d (caller.Application c) new e h k = call (map.get d.state.calls c.0) h
      where
        plainly : (u : State) → u ≡ d.state → Told b u
        plainly u f = let g = f ∙ e in told_plainly b u (ap (λ (s : State). s.promises) g) (ap (λ (s : State). s.outcomes) g) (subst (λ (s : State). Within s.exports ns b) (sym g) k)

        call : (x : Option OwnCall) → TellsCall d c.0 v x new → Told b new.state
        call None g = plainly new.state (ap (λ (p : Progress). p.state) g)
        call (Some from) g =
            let r = refs_alone d.state (caps_of v) in
            told_plainly b new.state
            (ap (λ (p : Progress). p.state.promises) g ∙ ap (λ (s : State). s.promises) r ∙ ap (λ (s : State). s.promises) e)
            (ap (λ (p : Progress). p.state.outcomes) g ∙ ap (λ (s : State). s.outcomes) r ∙ ap (λ (s : State). s.outcomes) e)
            (subst (λ (m : Map Export). Within m ns b) (sym (ap (λ (p : Progress). p.state.exports) g ∙ refs_exports d.state (caps_of v) ∙ ap (λ (s : State). s.exports) e)) k)
    tells_told b d (caller.Peer q) new e h k = peer (map.get d.state.answers q.0) h
      where
        peer : (x : Option AnswerEntry) → TellsPeer d q v x new → Told b new.state
        peer None g = absurd g
        peer (Some x) g = tells_returned b d q x new e g k

    -- ---- The rest: calls that waited, and Resolves

    later_stops : (b : ℕ) (u : State) → Told b u → AllStop (known u o who [] v)
    later_stops b u h =
        let less = h.1 in
        fewer t (known u o who [] v) less.0 (at_put (λ j y. (value_of y ≡ value_of (map.get t.outcomes j)) ⊎ (value_of y ≡ None)) u.outcomes o (record { caller = who; value = Some v; waiting = [] }) (inl (sym (ap value_of kept))) (λ j e. less.1 j)) a

    module _ (b : ℕ) (told routed new : Progress) (h : Told b told.state) (r : Carried (known told.state o who [] v) (with_state told (known told.state o who [] v)) routed ns (b + caps_of_held w)) where
      abbrev later : State
      later = known told.state o who [] v

      -- A field that is exported then leads where it led when the outcome became known.
      leads : (path : List Op) → IsOut routed.state.exports (node.Field o path) → settle routed.state (node.Field o path) ≡ settle t (node.Field o path)
      leads path i = by (r.adds (node.Field o path) i)
        where
          by : IsOut told.state.exports (node.Field o path) ⊎ (link later (node.Field o path) ≡ None) → settle routed.state (node.Field o path) ≡ settle t (node.Field o path)
          by (inr e) = absurd (let bad : Some (field_of v path) ≡ None = sym (field_link_is o who [] told.state v path) ∙ e in cc)
          by (inl j) =
              let there = h.2 in
              let k = there path j in
              let one = same told.state later (begins told.state o (record { caller = who; value = Some v; waiting = [] }) (ap value_of (k.0 ∙ kept))) h.0 in
              let two = same later routed.state r.links (later_stops b told.state h) in
              two.1 (node.Field o path) ∙ one.1 (node.Field o path) ∙ k.1

      routed_stops : AllStop routed.state
      routed_stops = (same later routed.state r.links (later_stops b told.state h)).0

      goes_of : (n : Node) → IsOneOf ns (settle routed.state n) → GoesTo routed.state ns n
      goes_of n (inl i) = inl (subst (λ (m : Node). IsAmong m ns) (sym (again routed.state routed_stops n)) i)
      goes_of n (inr q) = inr q

      all_go : Each (GoesTo routed.state ns) (exports_where (is_field o) (map.entries routed.state.exports))
      all_go = listed (GoesTo routed.state ns) (is_field o) (map.entries routed.state.exports) (λ n f i. at n (is_a_field o who w n f) i)
        where
          at : (n : Node) → ((path : List Op) × (n ≡ node.Field o path)) → IsOut routed.state.exports n → GoesTo routed.state ns n
          at n k i = goes_of n (subst (λ (m : Node). IsOneOf ns (settle routed.state m)) (sym k.1) (subst (IsOneOf ns) (sym (leads k.0 (subst (IsOut routed.state.exports) k.1 i))) (field_ends k.0)))

      resolved : ResolvesEach routed None (exports_where (is_field o) (map.entries routed.state.exports)) new → Within new.state.exports ns (b + caps_of_held w)
      resolved g = resolves_in routed.state ns (b + caps_of_held w) None routed routed.state.exports (exports_where (is_field o) (map.entries routed.state.exports)) new refl all_go g r.within

-- ---- The whole

regroup : (x a b c : ℕ) → x ≤ a + b + c → x ≤ a + (b + c)
regroup x a b c h = omega arith

puts_length : (s : State) (o : ℕ) (who : Caller) (w : List HeldCall) (payload : Payload) (i : ℕ) (n : Node) (rest out : List Node) (new : State) → PutsIn s o who w payload i n rest out new → length out ≡ suc (length rest)
puts_length s o who w payload i n rest out new (inl h) = ap (λ (xs : List Node). length xs) h.1
puts_length s o who w payload i n rest out new (inr h) = let g = h.1 in ap (λ (xs : List Node). length xs) g.2

untangles_length : (s : State) (o : ℕ) (who : Caller) (w : List HeldCall) (payload : Payload) (i : ℕ) (ns out : List Node) (new : State) → Untangles s o who w payload i ns out new → length out ≡ length ns
untangles_length s o who w payload i [] out new h = ap (λ (xs : List Node). length xs) h.0
untangles_length s o who w payload i (n ∷ ns) out new h =
    puts_length h.1 o who w payload i n h.0 out new h.3 ∙ ap suc (untangles_length s o who w payload (i + 1) ns h.0 h.1 h.2)

-- The exports are no more than with one for each capability, and one for each of the calls that waited.
pub results_settle : (d : Progress) (o : ℕ) (payload : Payload) (caps : List Node) (new : Progress) → AllStop d.state → SettlesOutcome d o (value.Results payload caps) new → map.len new.state.exports ≤ map.len d.state.exports + (length caps + caps_at_outcome (map.get d.state.outcomes o))
results_settle d o payload caps new a h = from (map.get d.state.outcomes o) h
  where
    settled : (x : KeptOutcome) (out : List Node) (fit : Value) (mid : State) → fit ≡ value.Results payload out → Fits d.state o x.caller x.waiting (value.Results payload caps) fit mid → length out ≡ length caps
        → ((told : Progress) × Tells (with_state d (known mid o x.caller x.waiting fit)) x.caller fit told
        × ((routed : Progress) × RoutesHeld (with_state told (known told.state o x.caller [] fit)) o x.waiting routed
        × ResolvesEach routed None (exports_where (is_field o) (map.entries routed.state.exports)) new))
        → map.len new.state.exports ≤ map.len d.state.exports + (length caps + caps_of_held x.waiting)
    settled x out fit mid f fit_is l g =
        let told = g.0 in
        let r = g.2 in
        let routed = r.0 in
        let stops : AllStop (known mid o x.caller x.waiting (value.Results payload out)) = subst (λ (z : Value). AllStop (known mid o x.caller x.waiting z)) f (known_stops o x.caller x.waiting d.state (value.Results payload caps) fit mid fit_is a) in
        let alone = fits_alone d.state o x.caller x.waiting (value.Results payload caps) fit mid fit_is in
        let first = within_first (known mid o x.caller x.waiting (value.Results payload out)).exports (ends_of (known mid o x.caller x.waiting (value.Results payload out)) out) (map.len d.state.exports) (length caps) (ap (λ (s : State). map.len s.exports) alone) (length-ends (known mid o x.caller x.waiting (value.Results payload out)) out ∙ l) in
        let one = tells_told mid o x.caller x.waiting payload out stops (map.len d.state.exports + length caps) (with_state d (known mid o x.caller x.waiting (value.Results payload out))) x.caller told refl (subst (λ (z : Value). Tells (with_state d (known mid o x.caller x.waiting z)) x.caller z told) f g.1) first in
        let carried = held_carried (known told.state o x.caller [] (value.Results payload out)) (with_state told (known told.state o x.caller [] (value.Results payload out))) o x.waiting routed (ends_of (known mid o x.caller x.waiting (value.Results payload out)) out) (map.len d.state.exports + length caps) (later_stops mid o x.caller x.waiting payload out stops (map.len d.state.exports + length caps) told.state one) (λ n. refl) (subst (λ (z : Value). RoutesHeld (with_state told (known told.state o x.caller [] z)) o x.waiting routed) f r.1) one.3 in
        let last = resolved mid o x.caller x.waiting payload out stops (map.len d.state.exports + length caps) told routed new one carried r.2 in
        regroup (map.len new.state.exports) (map.len d.state.exports) (length caps) (caps_of_held x.waiting) (within_len new.state.exports (ends_of (known mid o x.caller x.waiting (value.Results payload out)) out) (map.len d.state.exports + length caps + caps_of_held x.waiting) last)

    once : (x : KeptOutcome) (y : Option Value) → SettlesOpen d o (value.Results payload caps) x y new → map.len new.state.exports ≤ map.len d.state.exports + (length caps + caps_of_held x.waiting)
    once x (Some before) g = absurd g
    once x None g =
        let k = g.2 in
        settled x k.0 g.0 g.1 k.1 k (untangles_length d.state o x.caller x.waiting payload 0 caps k.0 g.1 k.2) g.3

    from : (x : Option KeptOutcome) → SettlesFrom d o (value.Results payload caps) x new → map.len new.state.exports ≤ map.len d.state.exports + (length caps + caps_at_outcome x)
    from None g = absurd g
    from (Some x) g = once x x.value g
