-- What holds of a store stays so where a table of its connection, its unfinished calls, its names and notes change.
use Rattle.std.proofs.Common.{◌≡◌, ℕ, ◌+◌, ◌≤◌, ◌<◌, Bool, true, false, cond, nat_eq, List, [], ◌∷◌, ◌++◌, length, Option, None, Some, refl, sym, ap, subst, ◌∙◌, arith}
use Rattle.std.specs.List.{Contains}
use Rattle.std.specs.FinMap as map
use Rattle.std.proofs.lemmas.List.Elements.{Contains-append_left, Contains-push}
use Rattle.finite_maps.specs.Tally.{Map}
use Rattle.rpc_machine.specs.declared.node.Node.{Node}
use Rattle.rpc_machine.specs.declared.node.Node.TheVariants as node
use Rattle.rpc_machine.specs.declared.calls.Caller.{Caller}
use Rattle.rpc_machine.specs.declared.calls.Caller.TheVariants as caller
use Rattle.rpc_machine.specs.declared.calls.Value.{Value}
use Rattle.rpc_machine.specs.declared.calls.KeptOutcome.{KeptOutcome}
use Rattle.rpc_machine.specs.declared.calls.OwnCall.{OwnCall}
use Rattle.rpc_machine.specs.declared.entries.Question.{Question}
use Rattle.rpc_machine.specs.declared.entries.AnswerEntry.{AnswerEntry}
use Rattle.rpc_machine.specs.declared.entries.Import.{Import}
use Rattle.rpc_machine.specs.declared.entries.Export.{Export}
use Rattle.rpc_machine.specs.declared.entries.Role.{Role}
use Rattle.rpc_machine.specs.declared.entries.Role.TheVariants as role
use Rattle.rpc_machine.specs.State.{State}
use Rattle.rpc_machine.specs.Places.{places}
use Rattle.rpc_machine.specs.Limits.{IsWithin, number_limit}
use Rattle.rpc_machine.specs.Collecting.{CallerIsDone, AnswerIsOther}
use Rattle.laws_acts.specs.Alike.{Alike, places_beside}
use Rattle.laws_acts.proofs.Likeness.{alike_beside}
use Rattle.vat_tables.specs.Table.{Table}
use Rattle.core_refcounts.specs.Names.{Counted, Names, Counts, times, times_named, noting, HasRoom, HasSpare, Totals}
use Rattle.core_refcounts.proofs.Rooms.{room_fewer}
use Rattle.core_store.specs.declared.store.Store.{Store}
use Rattle.core_store.specs.Holding.{state_of, all_named, IsFresh, IsTold, IsToldTo, IsNoted, IsNotedFor, IsNotedAs, IsCovered, IsSound}
use Rattle.core_store_tables.specs.Peer.{outcome_noted, import_noted}
use Rattle.core_store.proofs.Covering.{covered_renamed}
use Rattle.core_store.proofs.Keeping.{renamed, counts_kept, times_kept, room_kept, spare_kept}

-- ---- Notes

-- One thing of each kind may be noted besides.
pub record MoreNoted (a b : Counted) : Type 0 where
  pub counts : b.counts ≡ a.counts
  pub noted : (k : ℕ) → Contains a.noted k → Contains b.noted k
  pub room : a.room ≤ b.room
  pub spare : a.spare ≤ b.spare + 1

pub record NotesMore (c d : Names) : Type 0 where
  pub promises : MoreNoted c.promises d.promises
  pub outcomes : MoreNoted c.outcomes d.outcomes
  pub imports : MoreNoted c.imports d.imports
  pub questions : MoreNoted c.questions d.questions
  pub objects : d.objects ≡ c.objects

none_more : (a : Counted) → MoreNoted a a
none_more a = record { counts = refl; noted = λ k h. h; room = omega arith; spare = omega arith }

one_more : (a : Counted) (k : ℕ) → MoreNoted a (noting a k)
one_more a k = record { counts = refl; noted = λ j h. Contains-append_left a.noted (k ∷ []) j h; room = omega arith; spare = omega arith }

pub no_note : (c : Names) → NotesMore c c
no_note c = record { promises = none_more c.promises; outcomes = none_more c.outcomes; imports = none_more c.imports; questions = none_more c.questions; objects = refl }

pub question_note : (c : Names) (q : ℕ) → NotesMore c (record c { questions = noting c.questions q })
question_note c q = record { promises = none_more c.promises; outcomes = none_more c.outcomes; imports = none_more c.imports; questions = one_more c.questions q; objects = refl }

pub outcome_note : (c : Names) (o : ℕ) (b : Bool) → NotesMore c (cond b (record c { outcomes = noting c.outcomes o }) c)
outcome_note c o true = record { promises = none_more c.promises; outcomes = one_more c.outcomes o; imports = none_more c.imports; questions = none_more c.questions; objects = refl }
outcome_note c o false = no_note c

pub import_note : (c : Names) (e : ℕ) (b : Bool) → NotesMore c (cond b (record c { imports = noting c.imports e }) c)
import_note c e true = record { promises = none_more c.promises; outcomes = none_more c.outcomes; imports = one_more c.imports e; questions = none_more c.questions; objects = refl }
import_note c e false = no_note c

counts_noted : (c d : Names) (ns : List Node) → NotesMore c d → Counts c ns → Counts d ns
counts_noted c d ns more h = record {
  promises = λ k. ap (λ (m : Map ℕ). times m k) more.promises.counts ∙ h.promises k;
  outcomes = λ k. ap (λ (m : Map ℕ). times m k) more.outcomes.counts ∙ h.outcomes k;
  imports = λ k. ap (λ (m : Map ℕ). times m k) more.imports.counts ∙ h.imports k;
  questions = λ k. ap (λ (m : Map ℕ). times m k) more.questions.counts ∙ h.questions k;
  objects = λ k. ap (λ (t : Totals). times t.counts k) more.objects ∙ h.objects k;
}

room_noted : (n : ℕ) (c d : Names) → NotesMore c d → HasRoom n c → HasRoom n d
room_noted n c d more h = record {
  promises = let a = more.promises.room in let b = h.promises in omega (arith, a, b);
  outcomes = let a = more.outcomes.room in let b = h.outcomes in omega (arith, a, b);
  imports = let a = more.imports.room in let b = h.imports in omega (arith, a, b);
  questions = let a = more.questions.room in let b = h.questions in omega (arith, a, b);
  objects = let a = ap (λ (t : Totals). t.room) more.objects in let b = h.objects in omega (arith, a, b);
}

pub spare_noted : (m n : ℕ) (c d : Names) → NotesMore c d → m < n → HasSpare n c → HasSpare m d
spare_noted m n c d more less h = record {
  promises = let a = more.promises.spare in let b = h.promises in omega (arith, a, b, less);
  outcomes = let a = more.outcomes.spare in let b = h.outcomes in omega (arith, a, b, less);
  imports = let a = more.imports.spare in let b = h.imports in omega (arith, a, b, less);
  questions = let a = more.questions.spare in let b = h.questions in omega (arith, a, b, less);
}

still : (a b : Counted) (k : ℕ) → MoreNoted a b → IsNoted a k → IsNoted b k
still a b k more h = λ e. more.noted k (h (ap (λ (m : Map ℕ). times m k) (sym more.counts) ∙ e))

for_still : (s : State) (a b : Counted) (q : ℕ) (x : Question) (r : Role) → MoreNoted a b → IsNotedFor s a q x r → IsNotedFor s b q x r
for_still s a b q x (role.Relay o) more h = λ e. more.noted q (h e)
for_still s a b q x (role.Direct call) more h = λ e. still a b q more (h e)

as_still : (s : State) (a b : Counted) (q : ℕ) (o : Option Question) → MoreNoted a b → IsNotedAs s a q o → IsNotedAs s b q o
as_still s a b q None more h = tt
as_still s a b q (Some x) more h = λ e. for_still s a b q x x.role more (h e)

pub covered_noted : (s : State) (c d : Names) → NotesMore c d → IsCovered s c → IsCovered s d
covered_noted s c d more h = record {
  promises = λ p e. still c.promises d.promises p more.promises (h.promises p e);
  outcomes = λ o e. still c.outcomes d.outcomes o more.outcomes (h.outcomes o e);
  imports = λ i e. still c.imports d.imports i more.imports (h.imports i e);
  questions = λ q. as_still s c.questions d.questions q (map.get s.questions q) more.questions (h.questions q);
}

times_noted : (c d : Names) → NotesMore c d → (n : Node) → times_named d n ≡ times_named c n
times_noted c d more (node.Object o) = ap (λ (t : Totals). times t.counts o.0) more.objects
times_noted c d more (node.Promise p) = ap (λ (m : Map ℕ). times m p) more.promises.counts
times_noted c d more (node.Field o path) = ap (λ (m : Map ℕ). times m o) more.outcomes.counts
times_noted c d more (node.Import e) = ap (λ (m : Map ℕ). times m e.0) more.imports.counts
times_noted c d more (node.Pipe q path) = ap (λ (m : Map ℕ). times m q.0) more.questions.counts
times_noted c d more (node.Broken reason) = refl

-- Each node can be named as often as there is slack.
pub fits_noted : (x : Store) (c : Names) (k : ℕ) → IsSound x → NotesMore x.names c → k ≤ x.slack → (n : Node) → times_named c n + k < number_limit
fits_noted x c k h more less n =
    let a = times_noted x.names c more n in
    let b = h.bounded.names n in
    let d = h.bounded.added in
    omega (arith, a, b, d, less)

-- What was noted where nothing names it is noted.
pub outcome_is_noted : (c : Names) (o : ℕ) → IsNoted (outcome_noted c o).outcomes o
outcome_is_noted c o = by (nat_eq (times c.outcomes.counts o) 0) refl
  where
    by : (b : Bool) → nat_eq (times c.outcomes.counts o) 0 ≡ b → IsNoted (cond b (record c { outcomes = noting c.outcomes o }) c).outcomes o
    by true is = λ e. Contains-push c.outcomes.noted o
    by false is = λ e. absurd (let t : nat_eq 0 0 ≡ false = subst (λ n. nat_eq n 0 ≡ false) e is in cc)

pub import_is_noted : (c : Names) (i : ℕ) → IsNoted (import_noted c i).imports i
import_is_noted c i = by (nat_eq (times c.imports.counts i) 0) refl
  where
    by : (b : Bool) → nat_eq (times c.imports.counts i) 0 ≡ b → IsNoted (cond b (record c { imports = noting c.imports i }) c).imports i
    by true is = λ e. Contains-push c.imports.noted i
    by false is = λ e. absurd (let t : nat_eq 0 0 ≡ false = subst (λ n. nat_eq n 0 ≡ false) e is in cc)

-- What was noted just now is noted.
pub just_noted : (a : Counted) (k : ℕ) → Contains (noting a k).noted k
just_noted a k = Contains-push a.noted k

-- ---- Another state

-- Whoever is done then was done before.
module _ (s t : State) (calls : (k : ℕ) → map.get t.calls k ≡ None → map.get s.calls k ≡ None) where
  module _ (o : ℕ) (answers : (q : ℕ) → AnswerIsOther o (map.get t.answers q) → AnswerIsOther o (map.get s.answers q)) where
    done_before : (who : Caller) → CallerIsDone t o who → CallerIsDone s o who
    done_before (caller.Application call) h = calls call.0 h
    done_before (caller.Peer q) h = answers q.0 h

    told_to_before : (x : KeptOutcome) (v : Option Value) → IsToldTo t o x v → IsToldTo s o x v
    told_to_before x None h = h
    told_to_before x (Some v) h = (h.0, done_before x.caller h.1)

    pub told_before : (x : Option KeptOutcome) → IsTold t o x → IsTold s o x
    told_before None h = h
    told_before (Some x) h = told_to_before x x.value h

  for_now : (c : Counted) (q : ℕ) (x : Question) (r : Role) → IsNotedFor s c q x r → IsNotedFor t c q x r
  for_now c q x (role.Relay o) h = h
  for_now c q x (role.Direct call) h = λ e. h (calls call.0 e)

  pub as_now : (c : Counted) (q : ℕ) (x : Option Question) → IsNotedAs s c q x → IsNotedAs t c q x
  as_now c q None h = tt
  as_now c q (Some x) h = λ e. for_now c q x x.role (h e)

-- ---- The store

abbrev pub with_tables : State → Map Question → Map AnswerEntry → Map Import → Map Export → Map OwnCall → State
with_tables s questions answers imports exports calls = record s { questions = questions; answers = answers; imports = imports; exports = exports; calls = calls }

pub record HasTableRooms (n : ℕ) (asked : Table Question) (owed : Table AnswerEntry) (got : Table Import) (out : Table Export) (made : Table OwnCall) : Type 0 where
  pub questions : n ≤ asked.room
  pub answers : n ≤ owed.room
  pub imports : n ≤ got.room
  pub exports : n ≤ out.room
  pub calls : n ≤ made.room

pub tables_kept : (x : Store) (questions : Table Question) (answers : Table AnswerEntry) (imports : Table Import) (exports : Table Export) (calls : Table OwnCall) (c : Names) (come gone : List Node) (slack added : ℕ)
    → IsSound x → NotesMore x.names c → HasSpare slack c
    → Alike (come ++ places (state_of x)) (gone ++ places (with_tables (state_of x) questions.entries answers.entries imports.entries exports.entries calls.entries))
    → IsCovered (with_tables (state_of x) questions.entries answers.entries imports.entries exports.entries calls.entries) c
    → IsWithin (with_tables (state_of x) questions.entries answers.entries imports.entries exports.entries calls.entries)
    → IsFresh calls.entries x.next_call
    → slack + length come ≤ x.slack → x.added + length come ≤ added → added + slack < number_limit
    → HasTableRooms slack questions answers imports exports calls
    → IsSound (record x { questions = questions; answers = answers; imports = imports; exports = exports; calls = calls; names = renamed c come gone; slack = slack; added = added })
tables_kept x questions answers imports exports calls c come gone slack added h notes spare alike covered within fresh less more bound rooms =
    let s : State = state_of x in
    let t : State = with_tables s questions.entries answers.entries imports.entries exports.entries calls.entries in
    let d : Names = renamed c come gone in
    let counted : Counts d (places_beside x.waits.taken t) = counts_kept c x.waits.taken s t come gone (counts_noted x.names c (all_named x) notes h.counted) alike in
    record {
      counted = counted;
      covered = covered_renamed t c come gone covered;
      within = within;
      numbered = record { refs = h.numbered.refs; calls = fresh; tasks = h.numbered.tasks; unsettled = h.numbered.unsettled };
      holds = record { counted = h.holds.counted; within = h.holds.within };
      far = h.far;
      bounded = record {
        names = λ n.
            let a = times_kept (places_beside x.waits.taken s) (places_beside x.waits.taken t) come gone (alike_beside x.waits.taken come gone s t alike) x.names d h.counted counted n in
            let b = h.bounded.names n in
            omega (arith, a, b, more);
        links = let a = h.bounded.links in omega (arith, a, more);
        added = bound;
      };
      room = record {
        questions = rooms.questions;
        answers = rooms.answers;
        imports = rooms.imports;
        exports = rooms.exports;
        refs = let a = h.room.refs in omega (arith, a, less);
        calls = rooms.calls;
        tasks = let a = h.room.tasks in omega (arith, a, less);
        unsettled = let a = h.room.unsettled in omega (arith, a, less);
        waits = let a = h.room.waits in omega (arith, a, less);
        names = room_kept slack c come gone (room_noted (slack + length come) x.names c notes (room_fewer (slack + length come) x.slack x.names less h.room.names));
        notes = spare_kept slack slack c come gone (omega arith) spare;
      };
    }

-- Tables that stay have room.
pub others_room : (x : Store) (slack : ℕ) → IsSound x → slack ≤ x.slack → HasTableRooms slack x.questions x.answers x.imports x.exports x.calls
others_room x slack h less = record {
  questions = let a = h.room.questions in omega (arith, a, less);
  answers = let a = h.room.answers in omega (arith, a, less);
  imports = let a = h.room.imports in omega (arith, a, less);
  exports = let a = h.room.exports in omega (arith, a, less);
  calls = let a = h.room.calls in omega (arith, a, less);
}
