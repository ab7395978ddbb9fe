-- What has no entries is empty.
use Rattle.std.proofs.Common.{◌≡◌, ℕ, Bool, true, false, ◌&&◌, ◌==◌, is_none, Option, None, Some, refl}
use Rattle.std.proofs.lemmas.Bool.{eqb-true}
use Rattle.std.specs.FinMap as map
use Rattle.finite_maps.specs.Tally.{Map}
use Rattle.rpc_msg.specs.declared.ids.Vat.{Vat}
use Rattle.rpc_msg.specs.declared.ids.ObjectId.{ObjectId}
use Rattle.rpc_machine.specs.declared.command.Level.{Level}
use Rattle.rpc_machine.specs.declared.entries.Question.{Question}
use Rattle.rpc_machine.specs.declared.entries.AnswerEntry.{AnswerEntry}
use Rattle.rpc_machine.specs.declared.entries.Import.{Import}
use Rattle.rpc_machine.specs.declared.entries.Export.{Export}
use Rattle.rpc_machine.specs.declared.entries.Reference.{Reference}
use Rattle.rpc_machine.specs.declared.entries.Embargo.{Embargo}
use Rattle.rpc_machine.specs.declared.calls.OwnCall.{OwnCall}
use Rattle.rpc_machine.specs.declared.calls.Promise.{Promise}
use Rattle.rpc_machine.specs.declared.calls.KeptOutcome.{KeptOutcome}
use Rattle.rpc_machine.specs.State.{State, start}
use Rattle.rpc_machine.specs.Queries.{has_no_numbers, has_no_tables, has_nothing_else}
use Rattle.laws_ends.specs.NewCores.{NewIsStart}

first : (a b : Bool) → (a && b) ≡ true → a ≡ true
first true b e = refl
first false b e = e

second : (a b : Bool) → (a && b) ≡ true → b ≡ true
second true b e = e
second false b e = absurd (let f : false ≡ true = e in cc)

none : (o : Option ℕ) → is_none o ≡ true → o ≡ None
none None e = refl
none (Some n) e = absurd (let f : false ≡ true = e in cc)

no_entries : {X : Type 0} (m : Map X) → (map.len m == 0) ≡ true → m ≡ map.empty
no_entries m e = map.empty_of_len m (eqb-true (map.len m) 0 e)

record NoTables (s : State) : Type 0 where
  questions : s.questions ≡ map.empty
  answers : s.answers ≡ map.empty
  imports : s.imports ≡ map.empty
  exports : s.exports ≡ map.empty

record NothingElse (s : State) : Type 0 where
  refs : s.refs ≡ map.empty
  calls : s.calls ≡ map.empty
  tasks : s.tasks ≡ map.empty
  unsettled : s.unsettled ≡ map.empty
  promises : s.promises ≡ map.empty
  outcomes : s.outcomes ≡ map.empty
  embargoes : s.embargoes ≡ map.empty

record NoNumbers (s : State) : Type 0 where
  next_ref : s.next_ref ≡ 0
  next_call : s.next_call ≡ 0
  next_task : s.next_task ≡ 0
  next_promise : s.next_promise ≡ 0

numbers : (s : State) → has_no_numbers s ≡ true → NoNumbers s
numbers s e =
    let a = s.next_ref == 0 in
    let b = s.next_call == 0 in
    let c = s.next_task == 0 in
    let d = s.next_promise == 0 in
    let abc = first (a && b && c) d e in
    let ab = first (a && b) c abc in record {
      next_ref = eqb-true s.next_ref 0 (first a b ab);
      next_call = eqb-true s.next_call 0 (second a b ab);
      next_task = eqb-true s.next_task 0 (second (a && b) c abc);
      next_promise = eqb-true s.next_promise 0 (second (a && b && c) d e);
    }

tables : (s : State) → has_no_tables s ≡ true → NoTables s
tables s e =
    let a = map.len s.questions == 0 in
    let b = map.len s.answers == 0 in
    let c = map.len s.imports == 0 in
    let d = map.len s.exports == 0 in
    let abc = first (a && b && c) d e in
    let ab = first (a && b) c abc in record {
      questions = no_entries s.questions (first a b ab);
      answers = no_entries s.answers (second a b ab);
      imports = no_entries s.imports (second (a && b) c abc);
      exports = no_entries s.exports (second (a && b && c) d e);
    }

others : (s : State) → has_nothing_else s ≡ true → NothingElse s
others s e =
    let a = map.len s.refs == 0 in
    let b = map.len s.calls == 0 in
    let c = map.len s.tasks == 0 in
    let d = map.len s.unsettled == 0 in
    let f = map.len s.promises == 0 in
    let g = map.len s.outcomes == 0 in
    let h = map.len s.embargoes == 0 in
    let to_g = first (a && b && c && d && f && g) h e in
    let to_f = first (a && b && c && d && f) g to_g in
    let to_d = first (a && b && c && d) f to_f in
    let to_c = first (a && b && c) d to_d in
    let to_b = first (a && b) c to_c in record {
      refs = no_entries s.refs (first a b to_b);
      calls = no_entries s.calls (second a b to_b);
      tasks = no_entries s.tasks (second (a && b) c to_c);
      unsettled = no_entries s.unsettled (second (a && b && c) d to_d);
      promises = no_entries s.promises (second (a && b && c && d) f to_f);
      outcomes = no_entries s.outcomes (second (a && b && c && d && f) g to_g);
      embargoes = no_entries s.embargoes (second (a && b && c && d && f && g) h e);
    }

together : (s : State) → NoNumbers s → NoTables s → NothingElse s → s.down ≡ None → s ≡ start s.vat s.level s.bootstrap
together s n t o down =
    fresh
    t.questions t.answers t.imports t.exports o.refs o.calls o.tasks o.unsettled o.promises o.outcomes o.embargoes
    n.next_ref n.next_call n.next_task n.next_promise down
  where
    fresh : {v : Vat} {l : Level} {r : Option ObjectId} {q : Map Question} {a : Map AnswerEntry} {i : Map Import} {x : Map Export} {y : Map Reference} {c : Map OwnCall} {k u : Map ℕ} {p : Map Promise} {z : Map KeptOutcome} {b : Map Embargo} {e f g h : ℕ} {d : Option ℕ}
        → q ≡ map.empty → a ≡ map.empty → i ≡ map.empty → x ≡ map.empty → y ≡ map.empty → c ≡ map.empty → k ≡ map.empty → u ≡ map.empty → p ≡ map.empty → z ≡ map.empty → b ≡ map.empty
        → e ≡ 0 → f ≡ 0 → g ≡ 0 → h ≡ 0 → d ≡ None
        → record {
          vat = v;
          level = l;
          bootstrap = r;
          questions = q;
          answers = a;
          imports = i;
          exports = x;
          refs = y;
          calls = c;
          tasks = k;
          unsettled = u;
          promises = p;
          outcomes = z;
          embargoes = b;
          next_ref = e;
          next_call = f;
          next_task = g;
          next_promise = h;
          down = d;
        } ≡ start v l r
    fresh e1 e2 e3 e4 e5 e6 e7 e8 e9 e10 e11 e12 e13 e14 e15 e16 = rw (e1, e2, e3, e4, e5, e6, e7, e8, e9, e10, e11, e12, e13, e14, e15, e16) refl

pub new_is_start : NewIsStart
new_is_start s e =
    let a = has_no_numbers s in
    let b = has_no_tables s in
    let c = has_nothing_else s in
    let d = is_none s.down in
    let abc = first (a && b && c) d e in
    let ab = first (a && b) c abc in
    together s (numbers s (first a b ab)) (tables s (second a b ab)) (others s (second (a && b) c abc)) (none s.down (second (a && b && c) d e))
