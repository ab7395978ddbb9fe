-- What holds stays so where references, tasks and promises by number come, change and go.
use Rattle.std.proofs.Common.{◌≡◌, ℕ, ◌+◌, ◌-◌, ◌≤◌, ◌<◌, [], ◌∷◌, ◌++◌, Option, None, Some, List, length, refl, sym, ap, subst, ◌∙◌, arith}
use Rattle.std.specs.FinMap as map
use Rattle.finite_maps.specs.Tally.{Map}
use Rattle.finite_maps.proofs.Gets.{each_inserted, each_removed, remove_absent}
use Rattle.rpc_machine.specs.declared.node.Node.{Node}
use Rattle.rpc_machine.specs.declared.entries.Reference.{Reference}
use Rattle.rpc_machine.specs.State.{State}
use Rattle.rpc_machine.specs.Places.{places}
use Rattle.rpc_machine.specs.Limits.{made_through, number_limit}
use Rattle.laws_acts.specs.Alike.{Alike}
use Rattle.laws_acts.proofs.References.{ref_comes, ref_goes, ref_changes, ref_stays}
use Rattle.vat_tables.specs.Table.{Table, with_entry}
use Rattle.core_refcounts.specs.Names.{Names, named, unnamed}
use Rattle.core_store.specs.declared.store.Store.{Store}
use Rattle.core_store.specs.Holding.{state_of, IsFresh, IsSound}
use Rattle.core_store.proofs.Covering.{covered_beside}
use Rattle.core_store.proofs.Keeping.{renamed, kept_refs}
use Rattle.core_store_handles.proofs.Beside.{fresh_after, fresh_given, fresh_still, fresh_without, call_numbers, task_numbers, promise_numbers, numbers_still, numbers_after, numbers_without, same_names, kept_numbers}

abbrev pub new_ref : Node → Reference
new_ref n = record { head = n; embargo = None; made = 0 }

pub sound_added : (x : Store) (n : Node) (m : Table Reference) (c : Names) → IsSound x → 0 < x.slack → x.next_ref + 1 < number_limit
    → m.entries ≡ map.insert x.refs.entries x.next_ref (new_ref n) → x.refs.room ≤ m.room + 1 → c ≡ named x.names n
    → IsSound (record x { refs = m; names = c; next_ref = x.next_ref + 1; added = x.added + 1; slack = x.slack - 1 })
sound_added x n m c h some fits is room names =
    let s : State = state_of x in
    let next : ℕ = x.next_ref + 1 in
    let free : map.get s.refs x.next_ref ≡ None = h.numbered.refs x.next_ref (omega arith) in
    let alike : Alike (n ∷ places s) (places (record s { refs = m.entries; next_ref = next })) =
    subst (λ (r : Map Reference). Alike (n ∷ places s) (places (record s { refs = r; next_ref = next }))) (sym is) (ref_comes s next x.next_ref (new_ref n) free) in
    let fresh : IsFresh m.entries next = subst (λ (r : Map Reference). IsFresh r next) (sym is) (fresh_after s.refs x.next_ref h.numbered.refs (new_ref n)) in
    let made : (r : ℕ) → made_through (map.get m.entries r) < number_limit =
    subst (λ (e : Map Reference). (r : ℕ) → made_through (map.get e r) < number_limit) (sym is)
    (each_inserted (λ r o. made_through o < number_limit) s.refs x.next_ref (new_ref n) (omega arith) (λ r apart. h.within.made r)) in
    let a = h.room.refs in
    let b = h.bounded.added in
    subst (λ (c : Names). IsSound (record x { refs = m; names = c; next_ref = next; added = x.added + 1; slack = x.slack - 1 })) (sym names)
    (kept_refs x m next (n ∷ []) [] (x.slack - 1) (x.added + 1) h alike fresh fits made (omega (arith, some)) (omega arith) (omega (arith, b, some)) (omega (arith, a, room, some)))

-- A reference that was taken out is there again.
pub sound_again : (x : Store) (m : Table Reference) (r : ℕ) (y : Reference) (c : Names) → IsSound x → 0 < x.slack → r < x.next_ref → map.get x.refs.entries r ≡ None → y.made < number_limit
    → m.entries ≡ map.insert x.refs.entries r y → x.refs.room ≤ m.room + 1 → c ≡ named x.names y.head
    → IsSound (record x { refs = m; names = c; added = x.added + 1; slack = x.slack - 1 })
sound_again x m r y c h some given free below is room names =
    let s : State = state_of x in
    let alike : Alike (y.head ∷ places s) (places (record s { refs = m.entries; next_ref = x.next_ref })) =
    subst (λ (e : Map Reference). Alike (y.head ∷ places s) (places (record s { refs = e; next_ref = x.next_ref }))) (sym is) (ref_comes s x.next_ref r y free) in
    let fresh : IsFresh m.entries x.next_ref = subst (λ (e : Map Reference). IsFresh e x.next_ref) (sym is) (fresh_given s.refs x.next_ref h.numbered.refs r y given) in
    let made : (k : ℕ) → made_through (map.get m.entries k) < number_limit =
    subst (λ (e : Map Reference). (k : ℕ) → made_through (map.get e k) < number_limit) (sym is)
    (each_inserted (λ k o. made_through o < number_limit) s.refs r y below (λ k apart. h.within.made k)) in
    let a = h.room.refs in
    let b = h.bounded.added in
    subst (λ (c : Names). IsSound (record x { refs = m; names = c; added = x.added + 1; slack = x.slack - 1 })) (sym names)
    (kept_refs x m x.next_ref (y.head ∷ []) [] (x.slack - 1) (x.added + 1) h alike fresh h.within.refs made (omega (arith, some)) (omega arith) (omega (arith, b, some)) (omega (arith, a, room, some)))

sound_without : (x : Store) (m : Table Reference) (r : ℕ) (gone : List Node) → IsSound x → m.entries ≡ map.remove x.refs.entries r → x.refs.room ≤ m.room
    → Alike (places (state_of x)) (gone ++ places (record (state_of x) { refs = map.remove x.refs.entries r }))
    → (c : Names) → c ≡ renamed x.names [] gone → IsSound (record x { refs = m; names = c })
sound_without x m r gone h is room alike c names =
    let s : State = state_of x in
    let same : Alike (places s) (gone ++ places (record s { refs = m.entries; next_ref = x.next_ref })) =
    subst (λ (e : Map Reference). Alike (places s) (gone ++ places (record s { refs = e; next_ref = x.next_ref }))) (sym is) alike in
    let fresh : IsFresh m.entries x.next_ref =
    subst (λ (e : Map Reference). IsFresh e x.next_ref) (sym is) (fresh_without s.refs x.next_ref h.numbered.refs r) in
    let made : (k : ℕ) → made_through (map.get m.entries k) < number_limit =
    subst (λ (e : Map Reference). (k : ℕ) → made_through (map.get e k) < number_limit) (sym is)
    (each_removed (λ k o. made_through o < number_limit) s.refs r (omega arith) (λ k apart. h.within.made k)) in
    let a = h.room.refs in
    subst (λ (c : Names). IsSound (record x { refs = m; names = c })) (sym names)
    (kept_refs x m x.next_ref [] gone x.slack x.added h same fresh h.within.refs made (omega arith) (omega arith) h.bounded.added (omega (arith, a, room)))

-- There is none.
pub sound_absent : (x : Store) (m : Table Reference) (r : ℕ) → IsSound x → m.entries ≡ map.remove x.refs.entries r → x.refs.room ≤ m.room → map.get x.refs.entries r ≡ None → IsSound (record x { refs = m })
sound_absent x m r h is room none =
    sound_without x m r [] h is room
    (subst (λ (e : Map Reference). Alike (places (state_of x)) (places (record (state_of x) { refs = e }))) (sym (remove_absent x.refs.entries r none)) (λ test. refl)) x.names refl

pub sound_forgotten : (x : Store) (m : Table Reference) (r : ℕ) (found : Reference) (c : Names) → IsSound x → m.entries ≡ map.remove x.refs.entries r → x.refs.room ≤ m.room
    → map.get x.refs.entries r ≡ Some found → c ≡ unnamed x.names found.head → IsSound (record x { refs = m; names = c })
sound_forgotten x m r found c h is room there names =
    sound_without x m r (found.head ∷ []) h is room (ref_goes (state_of x) r found there) c names

-- ---- References change

-- One that is there, by the places that come and go.
sound_changed : (x : Store) (r : ℕ) (found y : Reference) (come gone : List Node) (slack added : ℕ) → IsSound x → map.get x.refs.entries r ≡ Some found → y.made < number_limit
    → Alike (come ++ places (state_of x)) (gone ++ places (record (state_of x) { refs = map.insert x.refs.entries r y }))
    → slack + length come ≤ x.slack → x.added + length come ≤ added → added + slack < number_limit
    → IsSound (record x { refs = with_entry x.refs r y; names = renamed x.names come gone; slack = slack; added = added })
sound_changed x r found y come gone slack added h there made alike less more bound =
    let refs : Map Reference = x.refs.entries in
    kept_refs x (with_entry x.refs r y) x.next_ref come gone slack added h alike (fresh_still refs x.next_ref h.numbered.refs r found y there) h.within.refs
    (each_inserted (λ r o. made_through o < number_limit) refs r y made (λ r apart. h.within.made r)) less more bound (let a = h.room.refs in omega (arith, a, less))

pub made_below : (x : Store) (r : ℕ) (found : Reference) → IsSound x → Some found ≡ map.get x.refs.entries r → found.made < number_limit
made_below x r found h there = subst (λ (o : Option Reference). made_through o < number_limit) (sym there) (h.within.made r)

-- It leads to another node.
pub sound_led : (x : Store) (r : ℕ) (found y : Reference) (mid c : Names) → IsSound x → 0 < x.slack → Some found ≡ map.get x.refs.entries r → y.made ≡ found.made → mid ≡ named x.names y.head → c ≡ unnamed mid found.head
    → IsSound (record x { refs = with_entry x.refs r y; names = c; added = x.added + 1; slack = x.slack - 1 })
sound_led x r found y mid c h some there made come gone =
    let b = h.bounded.added in
    let m = made_below x r found h there in
    subst (λ (c : Names). IsSound (record x { refs = with_entry x.refs r y; names = c; added = x.added + 1; slack = x.slack - 1 })) (sym (gone ∙ ap (λ (c : Names). unnamed c found.head) come))
    (sound_changed x r found y (y.head ∷ []) (found.head ∷ []) (x.slack - 1) (x.added + 1) h (sym there) (omega (arith, made, m)) (ref_changes (state_of x) r found y (sym there))
    (omega (arith, some)) (omega arith) (omega (arith, b, some)))

-- It leads where it led.
pub sound_kept : (x : Store) (r : ℕ) (found y : Reference) → IsSound x → Some found ≡ map.get x.refs.entries r → found.head ≡ y.head → y.made < number_limit → IsSound (record x { refs = with_entry x.refs r y })
sound_kept x r found y h there same made =
    sound_changed x r found y [] [] x.slack x.added h (sym there) made (ref_stays (state_of x) r found y (sym there) same) (omega arith) (omega arith) h.bounded.added

-- ---- Tasks, and promises by number

pub sound_task : (x : Store) (m : Table ℕ) (o : ℕ) → IsSound x → 0 < x.slack → x.next_task + 1 < number_limit → m.entries ≡ map.insert x.tasks.entries x.next_task o → x.tasks.room ≤ m.room + 1
    → IsSound (record x { tasks = m; next_task = x.next_task + 1; added = x.added + 1; slack = x.slack - 1 })
sound_task x m o h some fits is room =
    let s : State = state_of x in
    let few : x.slack - 1 ≤ x.slack = omega arith in
    kept_numbers x x.calls m x.unsettled x.next_call (x.next_task + 1) x.next_promise x.names (x.slack - 1) (x.added + 1) h
    (numbers_still x.calls x.next_call x.slack (call_numbers x h) (x.slack - 1) few)
    (numbers_after x.tasks x.next_task x.slack (task_numbers x h) m o (x.slack - 1) (omega (arith, some)) fits is room)
    (numbers_still x.unsettled x.next_promise x.slack (promise_numbers x h) (x.slack - 1) few)
    (same_names x (x.slack - 1) h few)
    (covered_beside s s.exports s.refs m.entries s.unsettled s.embargoes s.next_ref s.next_call (s.next_task + 1) s.next_promise s.down x.names h.covered)
    few (omega arith) (let a = h.bounded.added in omega (arith, a, some))

pub sound_no_task : (x : Store) (m : Table ℕ) (t : ℕ) → IsSound x → m.entries ≡ map.remove x.tasks.entries t → x.tasks.room ≤ m.room → IsSound (record x { tasks = m })
sound_no_task x m t h is room =
    let s : State = state_of x in
    kept_numbers x x.calls m x.unsettled x.next_call x.next_task x.next_promise x.names x.slack x.added h (call_numbers x h)
    (numbers_without x.tasks x.next_task x.slack (task_numbers x h) m t x.slack (omega arith) is room) (promise_numbers x h)
    (same_names x x.slack h (omega arith))
    (covered_beside s s.exports s.refs m.entries s.unsettled s.embargoes s.next_ref s.next_call s.next_task s.next_promise s.down x.names h.covered)
    (omega arith) (omega arith) h.bounded.added

pub sound_numbered : (x : Store) (m : Table ℕ) (p : ℕ) → IsSound x → 0 < x.slack → x.next_promise + 1 < number_limit → m.entries ≡ map.insert x.unsettled.entries x.next_promise p → x.unsettled.room ≤ m.room + 1
    → IsSound (record x { unsettled = m; next_promise = x.next_promise + 1; added = x.added + 1; slack = x.slack - 1 })
sound_numbered x m p h some fits is room =
    let s : State = state_of x in
    let few : x.slack - 1 ≤ x.slack = omega arith in
    kept_numbers x x.calls x.tasks m x.next_call x.next_task (x.next_promise + 1) x.names (x.slack - 1) (x.added + 1) h
    (numbers_still x.calls x.next_call x.slack (call_numbers x h) (x.slack - 1) few)
    (numbers_still x.tasks x.next_task x.slack (task_numbers x h) (x.slack - 1) few)
    (numbers_after x.unsettled x.next_promise x.slack (promise_numbers x h) m p (x.slack - 1) (omega (arith, some)) fits is room)
    (same_names x (x.slack - 1) h few)
    (covered_beside s s.exports s.refs s.tasks m.entries s.embargoes s.next_ref s.next_call s.next_task (s.next_promise + 1) s.down x.names h.covered)
    few (omega arith) (let a = h.bounded.added in omega (arith, a, some))

pub sound_unnumbered : (x : Store) (m : Table ℕ) (n : ℕ) → IsSound x → m.entries ≡ map.remove x.unsettled.entries n → x.unsettled.room ≤ m.room → IsSound (record x { unsettled = m })
sound_unnumbered x m n h is room =
    let s : State = state_of x in
    kept_numbers x x.calls x.tasks m x.next_call x.next_task x.next_promise x.names x.slack x.added h (call_numbers x h) (task_numbers x h)
    (numbers_without x.unsettled x.next_promise x.slack (promise_numbers x h) m n x.slack (omega arith) is room)
    (same_names x x.slack h (omega arith))
    (covered_beside s s.exports s.refs s.tasks m.entries s.embargoes s.next_ref s.next_call s.next_task s.next_promise s.down x.names h.covered)
    (omega arith) (omega arith) h.bounded.added
