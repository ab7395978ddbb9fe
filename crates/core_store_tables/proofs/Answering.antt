-- What holds stays so where answers come, change and go.
use Rattle.std.proofs.Common.{◌≡◌, ◌⊎◌, inl, inr, ℕ, ◌+◌, ◌-◌, ◌≤◌, ◌<◌, Bool, true, false, nat_eq, List, [], ◌∷◌, ◌++◌, length, Option, None, Some, refl, sym, ap, subst, ◌∙◌, arith}
use Rattle.std.specs.FinMap as map
use Rattle.finite_maps.specs.Tally.{Map}
use Rattle.finite_maps.proofs.Gets.{each_inserted, each_removed, insert_same, remove_absent}
use Rattle.finite_maps.proofs.Lens.{len_new, len_same, len_fewer}
use Rattle.finite_maps.proofs.Tested.{equal, apart}
use Rattle.rpc_msg.specs.declared.ids.ExportId.{ExportId}
use Rattle.rpc_machine.specs.declared.node.Node.{Node}
use Rattle.rpc_machine.specs.declared.entries.AnswerEntry.{AnswerEntry}
use Rattle.rpc_machine.specs.State.{State}
use Rattle.rpc_machine.specs.Places.{places, imports_of, named_by_taken, named_by_answer}
use Rattle.rpc_machine.specs.Progress.{export_ids, numbers}
use Rattle.rpc_machine.specs.Limits.{IsWithin, table_limit, number_limit}
use Rattle.rpc_machine.specs.Collecting.{AnswerIsOther}
use Rattle.rpc_machine.specs.Settling.{returned_map}
use Rattle.laws_acts.specs.Alike.{Alike}
use Rattle.laws_acts.proofs.Parts.{how_many_append}
use Rattle.laws_acts.proofs.Tables.{tables}
use Rattle.laws_acts.proofs.Likeness.{changes_by, stays}
use Rattle.vat_tables.specs.Table.{Table, with_entry}
use Rattle.core_refcounts.specs.Names.{Names, HasSpare, named_all, unnamed_all}
use Rattle.core_store.specs.declared.store.Store.{Store}
use Rattle.core_store.specs.Holding.{state_of, IsTold, IsNoted, IsCovered, IsSound}
use Rattle.core_store.proofs.Keeping.{renamed, spare_kept}
use Rattle.core_store_tables.specs.Peer.{outcome_noted, return_answer}
use Rattle.core_store_tables.proofs.Beside.{NotesMore, no_note, outcome_note, outcome_is_noted, spare_noted, covered_noted, told_before, as_now, tables_kept, others_room}
use Rattle.core_store_tables.proofs.Listed.{length_imports}

-- ---- The table

-- No answer is of the outcome that was not of it before.
abbrev IsOfFew : State → Map AnswerEntry → ℕ → Type 0
IsOfFew s m o = (q : ℕ) → AnswerIsOther o (map.get m q) → AnswerIsOther o (map.get s.answers q)

covered_by : (s : State) (m : Map AnswerEntry) (c : Names) → IsCovered s c → ((o : ℕ) → IsNoted c.outcomes o ⊎ IsOfFew s m o) → IsCovered (record s { answers = m }) c
covered_by s m c h few =
    let t : State = record s { answers = m } in
    record {
      promises = h.promises;
      outcomes = λ o told. told_noted o (few o) told;
      imports = h.imports;
      questions = λ q. as_now s t (λ k e. e) c.questions q (map.get s.questions q) (h.questions q);
    }
  where
    told_noted : (o : ℕ) → IsNoted c.outcomes o ⊎ IsOfFew s m o → IsTold (record s { answers = m }) o (map.get s.outcomes o) → IsNoted c.outcomes o
    told_noted o (inl noted) told = noted
    told_noted o (inr same) told = h.outcomes o (told_before s (record s { answers = m }) (λ k e. e) o same (map.get s.outcomes o) told)

within_by : (s : State) (m : Map AnswerEntry) → IsWithin s → map.len m ≤ table_limit → IsWithin (record s { answers = m })
within_by s m h fits = record {
  questions = h.questions;
  answers = fits;
  imports = h.imports;
  exports = h.exports;
  embargoes = h.embargoes;
  held = h.held;
  import_counts = h.import_counts;
  export_counts = h.export_counts;
  refs = h.refs;
  calls = h.calls;
  tasks = h.tasks;
  promises = h.promises;
  made = h.made;
}

pub kept_answers : (x : Store) (m : Table AnswerEntry) (c : Names) (come gone : List Node) (slack added : ℕ) → IsSound x → NotesMore x.names c → HasSpare slack c
    → Alike (come ++ places (state_of x)) (gone ++ places (record (state_of x) { answers = m.entries }))
    → ((o : ℕ) → IsNoted c.outcomes o ⊎ IsOfFew (state_of x) m.entries o) → map.len m.entries ≤ table_limit
    → slack + length come ≤ x.slack → x.added + length come ≤ added → added + slack < number_limit → slack ≤ m.room
    → IsSound (record x { answers = m; names = renamed c come gone; slack = slack; added = added })
kept_answers x m c come gone slack added h notes spare alike few fits less more bound room =
    let s : State = state_of x in
    let others = others_room x slack h (omega (arith, less)) in
    tables_kept x x.questions m x.imports x.exports x.calls c come gone slack added h notes spare alike
    (covered_by s m.entries c (covered_noted s x.names c notes h.covered) few) (within_by s m.entries h.within fits) h.numbered.calls
    less more bound (record { questions = others.questions; answers = room; imports = others.imports; exports = others.exports; calls = others.calls })

-- ---- An answer comes

abbrev opening : ℕ → List ExportId → AnswerEntry
opening o taken = record { outcome = o; taken = taken; returned = None; finished = false }

pub sound_opened : (x : Store) (m : Table AnswerEntry) (q o : ℕ) (taken : List ExportId) (list : List ExportId) (names : Names) (spent : ℕ) → IsSound x → spent ≡ length taken + 1 → spent ≤ x.slack → map.get x.answers.entries q ≡ None
    → m.entries ≡ map.insert x.answers.entries q (opening o taken) → x.answers.room ≤ m.room + 1 → map.len x.answers.entries < table_limit
    → list ≡ taken → names ≡ named_all x.names (imports_of list)
    → IsSound (record x { answers = m; names = names; slack = x.slack - spent; added = x.added + spent })
sound_opened x m q o taken list names spent h each some free is room fits same named =
    let s : State = state_of x in
    let a = h.room.answers in
    let b = h.bounded.added in
    let k = length_imports taken in
    let y : AnswerEntry = opening o taken in
    let len = len_new s.answers q y free in
    subst (λ (t : Map AnswerEntry). IsSound (record x { answers = record { entries = t; room = m.room }; names = names; slack = x.slack - spent; added = x.added + spent })) (sym is)
    (subst (λ (d : Names). IsSound (record x { answers = record { entries = map.insert s.answers q y; room = m.room }; names = d; slack = x.slack - spent; added = x.added + spent })) (sym (named ∙ ap (λ (ids : List ExportId). named_all x.names (imports_of ids)) same))
    (kept_answers x (record { entries = map.insert s.answers q y; room = m.room }) x.names (imports_of taken) [] (x.slack - spent) (x.added + spent) h (no_note x.names)
    (spare_kept (x.slack - spent) x.slack x.names [] [] (omega arith) h.room.notes)
    (tables.answers.comes s q y free)
    (λ e. inr (each_inserted (λ k w. AnswerIsOther e w → AnswerIsOther e (map.get s.answers k)) s.answers q y (λ u. subst (AnswerIsOther e) (sym free) tt) (λ k apart u. u)))
    (omega (arith, len, fits)) (omega (arith, k, some, each)) (omega (arith, k, each)) (omega (arith, b, some)) (omega (arith, a, room, some, each))))

-- ---- An answer changes

changed : (x : Store) (q : ℕ) (old new : AnswerEntry) (gone : List Node) → IsSound x → 0 < x.slack → map.get x.answers.entries q ≡ Some old → new.outcome ≡ old.outcome
    → Alike (places (state_of x)) (gone ++ places (record (state_of x) { answers = map.insert x.answers.entries q new }))
    → IsSound (record x { answers = with_entry x.answers q new; names = renamed x.names [] gone; slack = x.slack - 1 })
changed x q old new gone h some there same alike =
    let s : State = state_of x in
    let a = h.room.answers in
    let b = h.within.answers in
    let d = h.bounded.added in
    let len = len_same s.answers q old new there in
    kept_answers x (with_entry x.answers q new) x.names [] gone (x.slack - 1) x.added h (no_note x.names) (spare_kept (x.slack - 1) x.slack x.names [] [] (omega arith) h.room.notes) alike
    (λ e. inr (each_inserted (λ k w. AnswerIsOther e w → AnswerIsOther e (map.get s.answers k)) s.answers q new
    (λ u. subst (AnswerIsOther e) (sym there) (λ v. u (same ∙ v))) (λ k apart u. u)))
    (omega (arith, len, b)) (omega arith) (omega arith) (omega (arith, d)) (omega (arith, a))

pub sound_finished : (x : Store) (q : ℕ) (old : AnswerEntry) → IsSound x → 0 < x.slack → map.get x.answers.entries q ≡ Some old
    → IsSound (record x { answers = with_entry x.answers q (record old { finished = true }); slack = x.slack - 1 })
sound_finished x q old h some there =
    changed x q old (record old { finished = true }) [] h some there refl (stays tables.answers (state_of x) q old (record old { finished = true }) there (λ test. refl))

pub sound_returned : (x : Store) (q : ℕ) (found old : AnswerEntry) (ids : List ExportId) (names : Names) → IsSound x → 0 < x.slack → Some found ≡ map.get x.answers.entries q → Some old ≡ map.get x.answers.entries q
    → names ≡ unnamed_all x.names (named_by_taken found.taken found.returned)
    → IsSound (record x { answers = with_entry x.answers q (record old { returned = Some ids }); names = names; slack = x.slack - 1 })
sound_returned x q found old ids names h some seen there gone =
    let both : ◌≡◌ {A = Option AnswerEntry} (Some found) (Some old) = seen ∙ sym there in
    let same : found ≡ old = cc in
    let new : AnswerEntry = record old { returned = Some ids } in
    subst (λ (d : Names). IsSound (record x { answers = with_entry x.answers q new; names = d; slack = x.slack - 1 }))
    (sym (gone ∙ ap (λ (a : AnswerEntry). unnamed_all x.names (named_by_taken a.taken a.returned)) same))
    (changed x q old new (named_by_answer q old) h some (sym there) refl
    (changes_by tables.answers (state_of x) q old new [] (named_by_answer q old) (sym there) (λ test.
    let e = how_many_append test (named_by_answer q old) [] in
    omega (arith, e))))

-- ---- Ids

ids_back : (ids : List ExportId) → export_ids (numbers ids) ≡ ids
ids_back [] = refl
ids_back (e ∷ es) = ap (λ (ids : List ExportId). e ∷ ids) (ids_back es)

-- Its Return was sent, and its Finish did not come.
pub state_returned : (s : State) (q : ℕ) (found old : AnswerEntry) (ids : List ExportId) → Some found ≡ map.get s.answers q → Some old ≡ map.get s.answers q → found.finished ≡ false
    → record s { answers = map.insert s.answers q (record old { returned = Some ids }) } ≡ return_answer s q (numbers ids) (map.get s.answers q)
state_returned s q found old ids seen there open_still =
    let both : ◌≡◌ {A = Option AnswerEntry} (Some found) (Some old) = seen ∙ sym there in
    let same : found ≡ old = cc in
    let not_finished : old.finished ≡ false = ap (λ (a : AnswerEntry). a.finished) (sym same) ∙ open_still in
    ap (λ (is : List ExportId). record s { answers = map.insert s.answers q (record old { returned = Some is }) }) (sym (ids_back ids))
    ∙ ap (λ (b : Bool). record s { answers = returned_map s.answers q old b (numbers ids) }) (sym not_finished)
    ∙ ap (return_answer s q (numbers ids)) there

-- An answer that is put back where it stands.
pub same_answer : (t : Table AnswerEntry) (q : ℕ) (a : AnswerEntry) → Some a ≡ map.get t.entries q → with_entry t q a ≡ t
same_answer t q a there = ap (λ (m : Map AnswerEntry). record t { entries = m }) (insert_same t.entries q a (sym there))

-- One whose Finish came goes.
pub state_finished : (s : State) (q : ℕ) (a : AnswerEntry) (ids : List ℕ) → Some a ≡ map.get s.answers q → a.finished ≡ true → record s { answers = map.remove s.answers q } ≡ return_answer s q ids (map.get s.answers q)
state_finished s q a ids there is = ap (λ (b : Bool). record s { answers = returned_map s.answers q a b ids }) (sym is) ∙ ap (return_answer s q ids) there

-- ---- An answer goes

sound_without : (x : Store) (m : Table AnswerEntry) (q : ℕ) (c names : Names) (gone : List Node) → IsSound x → 0 < x.slack → m.entries ≡ map.remove x.answers.entries q → x.answers.room ≤ m.room → NotesMore x.names c
    → Alike (places (state_of x)) (gone ++ places (record (state_of x) { answers = map.remove x.answers.entries q }))
    → ((o : ℕ) → IsNoted c.outcomes o ⊎ IsOfFew (state_of x) (map.remove x.answers.entries q) o)
    → names ≡ renamed c [] gone → IsSound (record x { answers = m; names = names; slack = x.slack - 1 })
sound_without x m q c names gone h some is room notes alike few named =
    let s : State = state_of x in
    let a = h.room.answers in
    let b = h.within.answers in
    let d = h.bounded.added in
    let len = len_fewer s.answers q in
    subst (λ (t : Map AnswerEntry). IsSound (record x { answers = record { entries = t; room = m.room }; names = names; slack = x.slack - 1 })) (sym is)
    (subst (λ (c : Names). IsSound (record x { answers = record { entries = map.remove s.answers q; room = m.room }; names = c; slack = x.slack - 1 })) (sym named)
    (kept_answers x (record { entries = map.remove s.answers q; room = m.room }) c [] gone (x.slack - 1) x.added h notes (spare_noted (x.slack - 1) x.slack x.names c notes (omega (arith, some)) h.room.notes) alike few
    (omega (arith, len, b)) (omega arith) (omega arith) (omega (arith, d)) (omega (arith, a, room))))

-- There is none.
pub sound_absent : (x : Store) (m : Table AnswerEntry) (q : ℕ) → IsSound x → 0 < x.slack → m.entries ≡ map.remove x.answers.entries q → x.answers.room ≤ m.room → map.get x.answers.entries q ≡ None
    → IsSound (record x { answers = m; slack = x.slack - 1 })
sound_absent x m q h some is room none =
    sound_without x m q x.names x.names [] h some is room (no_note x.names)
    (subst (λ (t : Map AnswerEntry). Alike (places (state_of x)) (places (record (state_of x) { answers = t }))) (sym (remove_absent x.answers.entries q none)) (λ test. refl))
    (λ o. inr (subst (λ (t : Map AnswerEntry). IsOfFew (state_of x) t o) (sym (remove_absent x.answers.entries q none)) (λ k u. u))) refl

few_left : (s : State) (q : ℕ) (old : AnswerEntry) (c : Names) → map.get s.answers q ≡ Some old → (o : ℕ) → IsNoted (outcome_noted c old.outcome).outcomes o ⊎ IsOfFew s (map.remove s.answers q) o
few_left s q old c there o = by (nat_eq old.outcome o) refl
  where
    by : (b : Bool) → nat_eq old.outcome o ≡ b → IsNoted (outcome_noted c old.outcome).outcomes o ⊎ IsOfFew s (map.remove s.answers q) o
    by true is = inl (subst (IsNoted (outcome_noted c old.outcome).outcomes) (equal old.outcome o is) (outcome_is_noted c old.outcome))
    by false is =
        inr (each_removed (λ k w. AnswerIsOther o w → AnswerIsOther o (map.get s.answers k)) s.answers q (λ u. subst (AnswerIsOther o) (sym there) (apart old.outcome o is)) (λ k apart u. u))

pub sound_forgotten : (x : Store) (m : Table AnswerEntry) (q : ℕ) (old : AnswerEntry) (c names : Names) → IsSound x → 0 < x.slack → m.entries ≡ map.remove x.answers.entries q → x.answers.room ≤ m.room
    → map.get x.answers.entries q ≡ Some old → c ≡ outcome_noted x.names old.outcome → names ≡ unnamed_all c (named_by_taken old.taken old.returned)
    → IsSound (record x { answers = m; names = names; slack = x.slack - 1 })
sound_forgotten x m q old c names h some is room there noted gone =
    sound_without x m q (outcome_noted x.names old.outcome) names (named_by_answer q old) h some is room (outcome_note x.names old.outcome _)
    (tables.answers.goes (state_of x) q old there) (few_left (state_of x) q old x.names there)
    (gone ∙ ap (λ (d : Names). unnamed_all d (named_by_answer q old)) noted)
