-- What changes of references and embargoes let come and go among the places of a vat.
use Rattle.std.proofs.Common.{◌≡◌, ℕ, ◌+◌, ◌≤◌, List, [], ◌∷◌, ◌++◌, Option, None, Some, refl, ap, ◌∙◌, arith}
use Rattle.std.specs.FinMap as map
use Rattle.finite_maps.specs.Tally.{Map}
use Rattle.finite_maps.proofs.Gets.{get-insert_other}
use Rattle.rpc_machine.specs.rpc_msg.specs.declared.ids.RefId.{RefId}
use Rattle.rpc_machine.specs.declared.node.Node.{Node}
use Rattle.rpc_machine.specs.declared.calls.WaitingCall.{WaitingCall}
use Rattle.rpc_machine.specs.declared.entries.Reference.{Reference}
use Rattle.rpc_machine.specs.declared.entries.Embargo.{Embargo}
use Rattle.rpc_machine.specs.State.{State}
use Rattle.rpc_machine.specs.Lists.{how_many, updated, update}
use Rattle.rpc_machine.specs.Places.{places, named_by_calls, named_by_embargo}
use Rattle.rpc_machine.specs.Progress.{Progress, with_refs}
use Rattle.rpc_machine.specs.Commands.{counted}
use Rattle.rpc_machine.specs.Advancing.{headed}
use Rattle.rpc_machine.specs.Messages.{unembargoed}
use Rattle.laws_acts.specs.Alike.{Alike}
use Rattle.laws_acts.proofs.Parts.{how_many_append}
use Rattle.laws_acts.proofs.Tables.{tables}
use Rattle.laws_acts.proofs.Likeness.{changes_by, stays, one_more_call}

-- ---- References

pub ref_comes : (s : State) (next r : ℕ) (x : Reference) → map.get s.refs r ≡ None → Alike (x.head ∷ places s) (places (record s { refs = map.insert s.refs r x; next_ref = next }))
ref_comes s next r x free = tables.refs.comes s r x free

pub ref_goes : (s : State) (r : ℕ) (x : Reference) → map.get s.refs r ≡ Some x → Alike (places s) (x.head ∷ places (record s { refs = map.remove s.refs r }))
ref_goes s r x there = tables.refs.goes s r x there

pub ref_changes : (s : State) (r : ℕ) (x y : Reference) → map.get s.refs r ≡ Some x → Alike (y.head ∷ places s) (x.head ∷ places (record s { refs = map.insert s.refs r y }))
ref_changes s r x y there = tables.refs.changes s r x y there

-- Its head stays.
pub ref_stays : (s : State) (r : ℕ) (x y : Reference) → map.get s.refs r ≡ Some x → x.head ≡ y.head → Alike (places s) (places (record s { refs = map.insert s.refs r y }))
ref_stays s r x y there same = stays tables.refs s r x y there (λ test. ap (λ n. how_many test (n ∷ [])) same)

pub ref_headed : (d : Progress) (r : ℕ) (x : Reference) (n : Node) → map.get d.state.refs r ≡ Some x → Alike (n ∷ places d.state) (x.head ∷ places (headed d r x n).state)
ref_headed d r x n there = ref_changes d.state r x (record x { head = n }) there

pub ref_counted : (s : State) (r : ℕ) (x : Reference) → map.get s.refs r ≡ Some x → Alike (places s) (places (counted s r x))
ref_counted s r x there = ref_stays s r x (record x { made = x.made + 1 }) there refl

unembargoed_by : (s : State) (r : ℕ) (o : Option Reference) → map.get s.refs r ≡ o → Alike (places s) (places (record s { refs = updated s.refs r unembargoed o }))
unembargoed_by s r None is = λ test. refl
unembargoed_by s r (Some x) is = ref_stays s r x (unembargoed x) is refl

pub ref_unembargoed : (s : State) (r : ℕ) → Alike (places s) (places (record s { refs = update s.refs r unembargoed }))
ref_unembargoed s r = unembargoed_by s r (map.get s.refs r) refl

-- No reference has the next number, or a greater one.
abbrev pub IsNextRef : Map Reference → ℕ → Type 0
IsNextRef refs next = (r : ℕ) → next ≤ r → map.get refs r ≡ None

next_after : (refs : Map Reference) (next : ℕ) (x : Reference) → IsNextRef refs next → IsNextRef (map.insert refs next x) (next + 1)
next_after refs next x free = λ r below. get-insert_other refs next x r (λ e. absurd (omega (arith, e, below))) ∙ free r (omega (arith, below))

-- One new reference for each of these nodes.
pub refs_come : (s : State) (ns : List Node) → IsNextRef s.refs s.next_ref → Alike (ns ++ places s) (places (with_refs s ns))
refs_come s [] free = λ test. refl
refs_come s (n ∷ ns) free = λ test.
    let x : Reference = record { head = n; embargo = None; made = 0 } in
    let t : State = record s { refs = map.insert s.refs s.next_ref x; next_ref = s.next_ref + 1 } in
    let a = ref_comes s (s.next_ref + 1) s.next_ref x (free s.next_ref (omega arith)) test in
    let b = refs_come t ns (next_after s.refs s.next_ref x free) test in
    let c = how_many_append test (n ∷ []) (places s) in
    let d = how_many_append test (n ∷ []) (ns ++ places s) in
    let e = how_many_append test ns (places s) in
    let f = how_many_append test ns (places t) in
    omega (arith, a, b, c, d, e, f)

-- ---- Embargoes

pub embargo_opens : (s : State) (e : ℕ) (r : RefId) (n : Node) → map.get s.embargoes e ≡ None → Alike (n ∷ places s) (places (record s { embargoes = map.insert s.embargoes e (record { reference = r; node = n; waiting = [] }) }))
embargo_opens s e r n free = tables.embargoes.comes s e (record { reference = r; node = n; waiting = [] }) free

-- A call more waits under it.
pub embargo_holds : (s : State) (e : ℕ) (b : Embargo) (w : WaitingCall) → map.get s.embargoes e ≡ Some b → Alike (w.request.caps ++ places s) (places (record s { embargoes = map.insert s.embargoes e (record b { waiting = b.waiting ++ w ∷ [] }) }))
embargo_holds s e b w there =
    changes_by tables.embargoes s e b (record b { waiting = b.waiting ++ w ∷ [] }) w.request.caps [] there (λ test.
    let a = one_more_call b.waiting w test in
    let c = how_many_append test w.request.caps (named_by_embargo e b) in
    let d = how_many_append test (b.node ∷ []) (named_by_calls b.waiting) in
    let f = how_many_append test (b.node ∷ []) (named_by_calls (b.waiting ++ w ∷ [])) in
    let g = how_many_append test w.request.caps (named_by_calls b.waiting) in
    omega (arith, a, c, d, f, g))

pub embargo_goes : (s : State) (e : ℕ) (b : Embargo) → map.get s.embargoes e ≡ Some b → Alike (places s) (named_by_embargo e b ++ places (record s { embargoes = map.remove s.embargoes e }))
embargo_goes s e b there = tables.embargoes.goes s e b there

-- It is lifted: the reference has none any more.
pub embargo_lifts : (s : State) (e : ℕ) (b : Embargo) → map.get s.embargoes e ≡ Some b
    → Alike (places s) (named_by_embargo e b ++ places (record s { refs = update s.refs b.reference.0 unembargoed; embargoes = map.remove s.embargoes e }))
embargo_lifts s e b there = λ test.
    let t : State = record s { refs = update s.refs b.reference.0 unembargoed } in
    ref_unembargoed s b.reference.0 test ∙ embargo_goes t e b there test

-- A reference turns back, under an embargo.
pub ref_turns_back : (s : State) (r : ℕ) (x : Reference) (e : ℕ) (n : Node) (y : Reference) → map.get s.refs r ≡ Some x → map.get s.embargoes e ≡ None → y.head ≡ n
    → Alike (n ∷ n ∷ places s) (x.head ∷ places (record s { refs = map.insert s.refs r y; embargoes = map.insert s.embargoes e (record { reference = record { 0 = r }; node = n; waiting = [] }) }))
ref_turns_back s r x e n y there free same = λ test.
    let t : State = record s { refs = map.insert s.refs r y } in
    let u : State = record t { embargoes = map.insert s.embargoes e (record { reference = record { 0 = r }; node = n; waiting = [] }) } in
    let a = ref_changes s r x y there test in
    let b = embargo_opens t e (record { 0 = r }) n free test in
    let c = how_many_append test (y.head ∷ []) (places s) in
    let d = how_many_append test (x.head ∷ []) (places t) in
    let f = how_many_append test (n ∷ []) (places t) in
    let g = how_many_append test (n ∷ n ∷ []) (places s) in
    let h = how_many_append test (n ∷ []) (n ∷ []) in
    let i = how_many_append test (x.head ∷ []) (places u) in
    let j = ap (λ n. how_many test (n ∷ [])) same in
    omega (arith, a, b, c, d, f, g, h, i, j)
