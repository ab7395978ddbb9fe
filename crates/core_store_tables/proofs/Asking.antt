-- What holds stays so where questions come, change and go.
use Rattle.std.proofs.Common.{◌≡◌, ℕ, ◌+◌, ◌-◌, ◌≤◌, ◌<◌, List, [], ◌++◌, length, Option, None, Some, refl, sym, ap, subst, ◌∙◌, arith}
use Rattle.std.specs.FinMap as map
use Rattle.finite_maps.specs.Tally.{Map}
use Rattle.finite_maps.proofs.Gets.{each_inserted, each_removed, get-insert_same, get-insert_other, remove_absent}
use Rattle.finite_maps.proofs.Lens.{len_new, len_same, len_fewer}
use Rattle.rpc_msg.specs.declared.ids.ExportId.{ExportId}
use Rattle.rpc_msg.specs.declared.ids.CallId.{CallId}
use Rattle.rpc_machine.specs.declared.node.Node.{Node}
use Rattle.rpc_machine.specs.declared.calls.OwnCall.{OwnCall}
use Rattle.rpc_machine.specs.declared.entries.Question.{Question}
use Rattle.rpc_machine.specs.declared.entries.Returned.{Returned}
use Rattle.rpc_machine.specs.declared.entries.Role.{Role}
use Rattle.rpc_machine.specs.declared.entries.Role.TheVariants as role
use Rattle.rpc_machine.specs.declared.entries.Finishing.{Finishing}
use Rattle.rpc_machine.specs.declared.entries.Finishing.TheVariants as finishing
use Rattle.rpc_machine.specs.State.{State}
use Rattle.rpc_machine.specs.Places.{places, named_by_returned}
use Rattle.rpc_machine.specs.Limits.{IsWithin, table_limit, number_limit}
use Rattle.rpc_machine.specs.Messages.{waived}
use Rattle.rpc_machine.specs.Sweeping.{IsNotSent}
use Rattle.laws_acts.specs.Alike.{Alike}
use Rattle.laws_acts.proofs.Tables.{tables}
use Rattle.laws_acts.proofs.Questions.{question_asked, question_stays, question_goes}
use Rattle.vat_tables.specs.Table.{Table, with_entry}
use Rattle.core_refcounts.specs.Names.{Counted, Names, HasSpare, named_all, unnamed_all}
use Rattle.core_store.specs.declared.store.Store.{Store}
use Rattle.core_store.specs.Holding.{state_of, IsFresh, IsNotedFor, IsNotedAs, IsCovered, IsSound}
use Rattle.core_store.proofs.Covering.{told_back, as_then}
use Rattle.core_store.proofs.Keeping.{renamed, spare_kept}
use Rattle.core_store_tables.specs.Peer.{relay_noted, question_said}
use Rattle.core_store_tables.proofs.Beside.{NotesMore, no_note, question_note, spare_noted, covered_noted, just_noted, told_before, as_now, tables_kept, others_room}

-- ---- The table

covered_by : (s : State) (m : Map Question) (c : Names) → IsCovered s c → ((q : ℕ) → IsNotedAs s c.questions q (map.get m q)) → IsCovered (record s { questions = m }) c
covered_by s m c h noted =
    let t : State = record s { questions = m } in
    record {
      promises = h.promises;
      outcomes = λ o told. h.outcomes o (told_back s t refl refl o (map.get s.outcomes o) told);
      imports = h.imports;
      questions = λ q. as_then s t refl refl c.questions q (map.get m q) (noted q);
    }

within_by : (s : State) (m : Map Question) (calls : Map OwnCall) → IsWithin s → map.len m ≤ table_limit → IsWithin (record s { questions = m; calls = calls })
within_by s m calls h fits = record {
  questions = fits;
  answers = h.answers;
  imports = h.imports;
  exports = h.exports;
  embargoes = h.embargoes;
  held = h.held;
  import_counts = h.import_counts;
  export_counts = h.export_counts;
  refs = h.refs;
  calls = h.calls;
  tasks = h.tasks;
  promises = h.promises;
  made = h.made;
}

pub kept_questions : (x : Store) (m : Table Question) (c : Names) (come gone : List Node) (slack added : ℕ) → IsSound x → NotesMore x.names c → HasSpare slack c
    → Alike (come ++ places (state_of x)) (gone ++ places (record (state_of x) { questions = m.entries }))
    → ((q : ℕ) → IsNotedAs (state_of x) c.questions q (map.get m.entries q)) → map.len m.entries ≤ table_limit
    → slack + length come ≤ x.slack → x.added + length come ≤ added → added + slack < number_limit → slack ≤ m.room
    → IsSound (record x { questions = m; names = renamed c come gone; slack = slack; added = added })
kept_questions x m c come gone slack added h notes spare alike noted fits less more bound room =
    let s : State = state_of x in
    let others = others_room x slack h (omega (arith, less)) in
    tables_kept x m x.answers x.imports x.exports x.calls c come gone slack added h notes spare alike
    (covered_by s m.entries c (covered_noted s x.names c notes h.covered) noted) (within_by s m.entries s.calls h.within fits) h.numbered.calls
    less more bound (record { questions = room; answers = others.answers; imports = others.imports; exports = others.exports; calls = others.calls })

-- ---- A question comes

abbrev pub asked : Role → List ExportId → Question
asked r given = record { role = r; given = given; returned = None; finish = finishing.Owed }

pub sound_relay : (x : Store) (m : Table Question) (q o : ℕ) (given : List ExportId) → IsSound x → 0 < x.slack → map.get x.questions.entries q ≡ None
    → m.entries ≡ map.insert x.questions.entries q (asked (role.Relay o) given) → x.questions.room ≤ m.room + 1 → map.len x.questions.entries < table_limit
    → IsSound (record x { questions = m; slack = x.slack - 1; added = x.added + 1 })
sound_relay x m q o given h some free is room fits =
    let s : State = state_of x in
    let y : Question = asked (role.Relay o) given in
    let a = h.room.questions in
    let b = h.bounded.added in
    let len = len_new s.questions q y free in
    subst (λ (e : Map Question). IsSound (record x { questions = record { entries = e; room = m.room }; slack = x.slack - 1; added = x.added + 1 })) (sym is)
    (kept_questions x (record { entries = map.insert s.questions q y; room = m.room }) x.names [] [] (x.slack - 1) (x.added + 1) h (no_note x.names)
    (spare_kept (x.slack - 1) x.slack x.names [] [] (omega arith) h.room.notes)
    (question_asked s q (role.Relay o) given finishing.Owed free)
    (each_inserted (λ k e. IsNotedAs s x.names.questions k e) s.questions q y (λ u r. absurd r) (λ k apart. h.covered.questions k))
    (omega (arith, len, fits)) (omega arith) (omega arith) (omega (arith, b, some)) (omega (arith, a, room, some)))

-- One that goes with a call which has no entry yet.
pub sound_direct : (x : Store) (m : Table Question) (calls : Table OwnCall) (q : ℕ) (call : CallId) (own : OwnCall) (given : List ExportId) → IsSound x → 0 < x.slack → map.get x.questions.entries q ≡ None
    → m.entries ≡ map.insert x.questions.entries q (asked (role.Direct call) given) → x.questions.room ≤ m.room + 1 → map.len x.questions.entries < table_limit
    → map.get x.calls.entries call.0 ≡ None → call.0 < x.next_call → calls.entries ≡ map.insert x.calls.entries call.0 own → x.calls.room ≤ calls.room + 1
    → IsSound (record x { questions = m; calls = calls; slack = x.slack - 1; added = x.added + 1 })
sound_direct x m calls q call own given h some free is room fits new below entered space =
    let s : State = state_of x in
    let y : Question = asked (role.Direct call) given in
    let t : State = record s { questions = map.insert s.questions q y; calls = map.insert s.calls call.0 own } in
    let a = h.room.questions in
    let d = h.room.calls in
    let b = h.bounded.added in
    let len = len_new s.questions q y free in
    let others = others_room x (x.slack - 1) h (omega arith) in
    let before : (k : ℕ) → map.get t.calls k ≡ None → map.get s.calls k ≡ None =
    each_inserted (λ k o. o ≡ None → map.get s.calls k ≡ None) s.calls call.0 own (λ u. new) (λ k apart e. e) in
    let entry : map.get t.calls call.0 ≡ Some own = get-insert_same s.calls call.0 own in
    let covered : IsCovered t x.names = record {
      promises = h.covered.promises;
      outcomes = λ o told. h.covered.outcomes o (told_before s t before o (λ k e. e) (map.get s.outcomes o) told);
      imports = h.covered.imports;
      questions = each_inserted (λ k e. IsNotedAs t x.names.questions k e) s.questions q y
          (λ u none. absurd (let e : ◌≡◌ {A = Option OwnCall} (Some own) None = sym entry ∙ none in cc))
          (λ k apart. as_now s t before x.names.questions k (map.get s.questions k) (h.covered.questions k));
    } in
    let fresh : IsFresh t.calls x.next_call = λ k over. get-insert_other s.calls call.0 own k (λ e. absurd (omega (arith, e, over, below))) ∙ h.numbered.calls k over in
    subst (λ (e : Map Question). IsSound (record x { questions = record { entries = e; room = m.room }; calls = calls; slack = x.slack - 1; added = x.added + 1 })) (sym is)
    (subst (λ (e : Map OwnCall). IsSound (record x { questions = record { entries = t.questions; room = m.room }; calls = record { entries = e; room = calls.room }; slack = x.slack - 1; added = x.added + 1 })) (sym entered)
    (tables_kept x (record { entries = t.questions; room = m.room }) x.answers x.imports x.exports (record { entries = t.calls; room = calls.room }) x.names [] [] (x.slack - 1) (x.added + 1) h (no_note x.names)
    (spare_kept (x.slack - 1) x.slack x.names [] [] (omega arith) h.room.notes)
    (question_asked s q (role.Direct call) given finishing.Owed free) covered
    (within_by s t.questions t.calls h.within (omega (arith, len, fits))) fresh
    (omega arith) (omega arith) (omega (arith, b, some))
    (record { questions = omega (arith, a, room, some); answers = others.answers; imports = others.imports; exports = others.exports; calls = omega (arith, d, space, some) })))

-- ---- A question changes

-- It names the same, and nothing is noted.
pub sound_still : (x : Store) (q : ℕ) (old new : Question) → IsSound x → map.get x.questions.entries q ≡ Some old → old.returned ≡ new.returned
    → IsNotedAs (state_of x) x.names.questions q (Some new) → IsSound (record x { questions = with_entry x.questions q new })
sound_still x q old new h there same noted =
    let s : State = state_of x in
    let a = h.room.questions in
    let b = h.within.questions in
    let len = len_same s.questions q old new there in
    kept_questions x (with_entry x.questions q new) x.names [] [] x.slack x.added h (no_note x.names) h.room.notes
    (question_stays s q old new there same)
    (each_inserted (λ k e. IsNotedAs s x.names.questions k e) s.questions q new noted (λ k apart. h.covered.questions k))
    (omega (arith, len, b)) (omega arith) (omega arith) h.bounded.added a

waived_not_sent : (f : Finishing) → IsNotSent (waived f) → IsNotSent f
waived_not_sent finishing.Owed h = tt
waived_not_sent finishing.Sent h = h
waived_not_sent finishing.Waived h = tt

for_other : (s : State) (c : Counted) (q : ℕ) (x y : Question) (r : Role) → x.returned ≡ y.returned → IsNotedFor s c q x r → IsNotedFor s c q y r
for_other s c q x y r same h = subst (λ (o : Option Returned). IsNotedFor s c q (record y { returned = o }) r) same (by r h)
  where
    by : (r : Role) → IsNotedFor s c q x r → IsNotedFor s c q (record y { returned = x.returned }) r
    by (role.Relay o) g = g
    by (role.Direct call) g = g

pub sound_waived : (x : Store) (q : ℕ) (old : Question) (finish : Finishing) → IsSound x → map.get x.questions.entries q ≡ Some old → finish ≡ waived old.finish
    → IsSound (record x { questions = with_entry x.questions q (record old { finish = finish }) })
sound_waived x q old finish h there is =
    let s : State = state_of x in
    let c : Counted = x.names.questions in
    let before : IsNotedAs s c q (Some old) = subst (λ (o : Option Question). IsNotedAs s c q o) there (h.covered.questions q) in
    sound_still x q old (record old { finish = finish }) h there refl
    (λ e. for_other s c q old (record old { finish = finish }) old.role refl (before (waived_not_sent old.finish (subst IsNotSent is e))))

pub sound_sent : (x : Store) (q : ℕ) (old : Question) → IsSound x → map.get x.questions.entries q ≡ Some old → IsSound (record x { questions = with_entry x.questions q (record old { finish = finishing.Sent }) })
sound_sent x q old h there = sound_still x q old (record old { finish = finishing.Sent }) h there refl (λ e. absurd e)

-- ---- Its Return came

pub relay_note : (c : Names) (q : ℕ) (r : Role) → NotesMore c (relay_noted c q r)
relay_note c q (role.Relay o) = question_note c q
relay_note c q (role.Direct call) = no_note c

said_noted : (s : State) (c : Names) (q : ℕ) (old new : Question) (r : Role) → IsNotedFor s c.questions q old r → IsNotedFor s (relay_noted c q r).questions q new r
said_noted s c q old new (role.Relay o) h = λ e. just_noted c.questions q
said_noted s c q old new (role.Direct call) h = h

said_sound : (x : Store) (q : ℕ) (old : Question) (said : Returned) (names : Names) (n : ℕ) → IsSound x → map.get x.questions.entries q ≡ Some old
    → n ≡ length (named_by_returned (Some said)) + 1 → n ≤ x.slack
    → names ≡ unnamed_all (named_all (relay_noted x.names q old.role) (named_by_returned (Some said))) (named_by_returned old.returned)
    → IsSound (record x { questions = with_entry x.questions q (question_said said old); names = names; slack = x.slack - n; added = x.added + n })
said_sound x q old said names n h there spent fits is =
    let s : State = state_of x in
    let new : Question = question_said said old in
    let c : Names = relay_noted x.names q old.role in
    let come : List Node = named_by_returned (Some said) in
    let gone : List Node = named_by_returned old.returned in
    let notes : NotesMore x.names c = relay_note x.names q old.role in
    let before : IsNotedAs s x.names.questions q (Some old) = subst (λ (o : Option Question). IsNotedAs s x.names.questions q o) there (h.covered.questions q) in
    let a = h.room.questions in
    let b = h.within.questions in
    let d = h.bounded.added in
    let len = len_same s.questions q old new there in
    subst (λ (m : Names). IsSound (record x { questions = with_entry x.questions q new; names = m; slack = x.slack - n; added = x.added + n })) (sym is)
    (kept_questions x (with_entry x.questions q new) c come gone (x.slack - n) (x.added + n) h notes
    (spare_noted (x.slack - n) x.slack x.names c notes (omega (arith, spent, fits)) h.room.notes)
    (tables.questions.changes s q old new there)
    (each_inserted (λ k e. IsNotedAs s c.questions k e) s.questions q new (λ e. said_noted s x.names q old new old.role (before e)) (λ k apart. (covered_noted s x.names c notes h.covered).questions k))
    (omega (arith, len, b)) (omega (arith, spent, fits)) (omega (arith, spent)) (omega (arith, d, fits)) (omega (arith, a)))

pub sound_returned : (x : Store) (q : ℕ) (found old : Question) (said : Returned) (c d names : Names) (n : ℕ) → IsSound x → Some found ≡ map.get x.questions.entries q → Some old ≡ map.get x.questions.entries q
    → n ≡ length (named_by_returned (Some said)) + 1 → n ≤ x.slack
    → c ≡ relay_noted x.names q found.role → d ≡ named_all c (named_by_returned (Some said)) → names ≡ unnamed_all d (named_by_returned found.returned)
    → IsSound (record x { questions = with_entry x.questions q (record old { returned = Some said }); names = names; slack = x.slack - n; added = x.added + n })
sound_returned x q found old said c d names n h seen there spent fits noted come gone =
    let both : ◌≡◌ {A = Option Question} (Some found) (Some old) = seen ∙ sym there in
    let same : found ≡ old = cc in
    let e : c ≡ relay_noted x.names q old.role = noted ∙ ap (λ (y : Question). relay_noted x.names q y.role) same in
    said_sound x q old said names n h (sym there) spent fits
    (gone ∙ ap (λ (y : Question). unnamed_all d (named_by_returned y.returned)) same
    ∙ ap (λ (m : Names). unnamed_all m (named_by_returned old.returned)) (come ∙ ap (λ (m : Names). named_all m (named_by_returned (Some said))) e))

-- ---- A question goes

sound_without : (x : Store) (m : Table Question) (q : ℕ) (gone : List Node) → IsSound x → m.entries ≡ map.remove x.questions.entries q → x.questions.room ≤ m.room
    → Alike (places (state_of x)) (gone ++ places (record (state_of x) { questions = map.remove x.questions.entries q }))
    → (names : Names) → names ≡ renamed x.names [] gone → IsSound (record x { questions = m; names = names })
sound_without x m q gone h is room alike names named =
    let s : State = state_of x in
    let a = h.room.questions in
    let b = h.within.questions in
    let len = len_fewer s.questions q in
    subst (λ (e : Map Question). IsSound (record x { questions = record { entries = e; room = m.room }; names = names })) (sym is)
    (subst (λ (c : Names). IsSound (record x { questions = record { entries = map.remove s.questions q; room = m.room }; names = c })) (sym named)
    (kept_questions x (record { entries = map.remove s.questions q; room = m.room }) x.names [] gone x.slack x.added h (no_note x.names) h.room.notes alike
    (each_removed (λ k e. IsNotedAs s x.names.questions k e) s.questions q tt (λ k apart. h.covered.questions k))
    (omega (arith, len, b)) (omega arith) (omega arith) h.bounded.added (omega (arith, a, room))))

-- There is none.
pub sound_absent : (x : Store) (m : Table Question) (q : ℕ) → IsSound x → m.entries ≡ map.remove x.questions.entries q → x.questions.room ≤ m.room → map.get x.questions.entries q ≡ None → IsSound (record x { questions = m })
sound_absent x m q h is room none =
    sound_without x m q [] h is room
    (subst (λ (e : Map Question). Alike (places (state_of x)) (places (record (state_of x) { questions = e }))) (sym (remove_absent x.questions.entries q none)) (λ test. refl)) x.names refl

pub sound_forgotten : (x : Store) (m : Table Question) (q : ℕ) (old : Question) (names : Names) → IsSound x → m.entries ≡ map.remove x.questions.entries q → x.questions.room ≤ m.room
    → map.get x.questions.entries q ≡ Some old → names ≡ unnamed_all x.names (named_by_returned old.returned) → IsSound (record x { questions = m; names = names })
sound_forgotten x m q old names h is room there named = sound_without x m q (named_by_returned old.returned) h is room (question_goes (state_of x) q old there) names named
