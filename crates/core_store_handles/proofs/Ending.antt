-- What would go but for its names stays noted where calls of the application come and end.
use Rattle.std.proofs.Common.{◌≡◌, ◌⊎◌, ℕ, ◌+◌, ◌-◌, ◌≤◌, ◌<◌, Option, None, Some, List, inl, inr, refl, sym, ap, subst, ◌∙◌, arith}
use Rattle.std.specs.FinMap as map
use Rattle.std.specs.List.{Contains}
use Rattle.finite_maps.specs.Tally.{Map}
use Rattle.finite_maps.proofs.Gets.{at_each, get-insert_same, get-insert_other, get-remove_other, remove_absent}
use Rattle.rpc_msg.specs.declared.ids.CallId.{CallId}
use Rattle.rpc_machine.specs.declared.node.Node.{Node}
use Rattle.rpc_machine.specs.declared.node.Node.TheVariants as node
use Rattle.rpc_machine.specs.declared.calls.Caller.{Caller}
use Rattle.rpc_machine.specs.declared.calls.Caller.TheVariants as caller
use Rattle.rpc_machine.specs.declared.calls.Value.{Value}
use Rattle.rpc_machine.specs.declared.calls.KeptOutcome.{KeptOutcome}
use Rattle.rpc_machine.specs.declared.calls.OwnCall.{OwnCall}
use Rattle.rpc_machine.specs.declared.calls.OwnCall.TheVariants as own
use Rattle.rpc_machine.specs.declared.entries.Question.{Question}
use Rattle.rpc_machine.specs.declared.entries.Role.{Role}
use Rattle.rpc_machine.specs.declared.entries.Role.TheVariants as role
use Rattle.rpc_machine.specs.State.{State}
use Rattle.rpc_machine.specs.Collecting.{CallerIsDone}
use Rattle.vat_tables.specs.Table.{Table}
use Rattle.core_refcounts.specs.Names.{Counted, Names, Counts, times, times_named, HasRoom, HasSpare}
use Rattle.core_refcounts.proofs.Rooms.{room_fewer}
use Rattle.core_store.specs.declared.store.Store.{Store}
use Rattle.core_store.specs.Holding.{state_of, all_named, IsToldTo, IsTold, IsNoted, IsNotedFor, IsNotedAs, IsCovered, IsSound}
use Rattle.rpc_machine.specs.OwnCalls.{IsOutcomeFor, IsQuestionFor, HasItsOwnAlone}
use Rattle.core_store_handles.specs.Ends.{noted_unnamed, noted_for}
use Rattle.core_store_handles.proofs.Beside.{AreNamed, call_numbers, task_numbers, promise_numbers, same_counts, same_room, spare_less, still_noted, noted_here, noted_more, numbers_still, numbers_given, numbers_without, same_names, kept_numbers}

-- ---- A call comes

-- Only those calls are finished that were so before.
module _ (s : State) (calls : Map OwnCall) (back : (k : ℕ) → map.get calls k ≡ None → map.get s.calls k ≡ None) where
  abbrev then : State
  then = record s { calls = calls }

  done_back : (o : ℕ) (who : Caller) → CallerIsDone then o who → CallerIsDone s o who
  done_back o (caller.Application c) h = back c.0 h
  done_back o (caller.Peer q) h = h

  told_to_back : (o : ℕ) (x : KeptOutcome) (v : Option Value) → IsToldTo then o x v → IsToldTo s o x v
  told_to_back o x None h = h
  told_to_back o x (Some v) h = (h.0, done_back o x.caller h.1)

  told_back : (o : ℕ) (x : Option KeptOutcome) → IsTold then o x → IsTold s o x
  told_back o None h = h
  told_back o (Some x) h = told_to_back o x x.value h

  for_then : (c : Counted) (q : ℕ) (x : Question) (r : Role) → IsNotedFor s c q x r → IsNotedFor then c q x r
  for_then c q x (role.Relay o) h = h
  for_then c q x (role.Direct call) h = λ none. h (back call.0 none)

  as_then : (c : Counted) (q : ℕ) (x : Option Question) → IsNotedAs s c q x → IsNotedAs then c q x
  as_then c q None h = tt
  as_then c q (Some x) h = λ unsent. for_then c q x x.role (h unsent)

  covered_then : (c : Names) → IsCovered s c → IsCovered then c
  covered_then c h = record {
    promises = h.promises;
    outcomes = λ o told. h.outcomes o (told_back o (map.get s.outcomes o) told);
    imports = h.imports;
    questions = λ q. as_then c.questions q (map.get s.questions q) (h.questions q);
  }

-- A call that comes is not finished.
not_yet : (calls : Map OwnCall) (n : ℕ) (from : OwnCall) (k : ℕ) → map.get (map.insert calls n from) k ≡ None → map.get calls k ≡ None
not_yet calls n from =
    at_each (λ k. map.get (map.insert calls n from) k ≡ None → map.get calls k ≡ None) n
    (λ none. absurd (let bad : Some from ≡ None = sym (get-insert_same calls n from) ∙ none in cc))
    (λ k apart none. sym (get-insert_other calls n from k apart) ∙ none)

covered_called : (s : State) (n : ℕ) (from : OwnCall) (c : Names) → IsCovered s c → IsCovered (record s { calls = map.insert s.calls n from }) c
covered_called s n from c h = covered_then s (map.insert s.calls n from) (not_yet s.calls n from) c h

pub sound_called : (x : Store) (n : ℕ) (from : OwnCall) (m : Table OwnCall) → IsSound x → 0 < x.slack → n < x.next_call → m.entries ≡ map.insert x.calls.entries n from → x.calls.room ≤ m.room + 1
    → IsSound (record x { calls = m; added = x.added + 1; slack = x.slack - 1 })
sound_called x n from m h some given is room =
    let s : State = state_of x in
    let few : x.slack - 1 ≤ x.slack = omega arith in
    kept_numbers x m x.tasks x.unsettled x.next_call x.next_task x.next_promise x.names (x.slack - 1) (x.added + 1) h
    (numbers_given x.calls x.next_call x.slack (call_numbers x h) m n from (x.slack - 1) (omega (arith, some)) given is room)
    (numbers_still x.tasks x.next_task x.slack (task_numbers x h) (x.slack - 1) few)
    (numbers_still x.unsettled x.next_promise x.slack (promise_numbers x h) (x.slack - 1) few)
    (same_names x (x.slack - 1) h few)
    (subst (λ (e : Map OwnCall). IsCovered (record s { calls = e }) x.names) (sym is) (covered_called s n from x.names h.covered))
    few (omega arith) (let a = h.bounded.added in omega (arith, a, some))

-- ---- A call ends

-- What was not finished before, and is so now, is that call.
now_or_before : (calls : Map OwnCall) (n k : ℕ) → map.get (map.remove calls n) k ≡ None → (map.get calls k ≡ None) ⊎ (k ≡ n)
now_or_before calls n =
    at_each (λ k. map.get (map.remove calls n) k ≡ None → (map.get calls k ≡ None) ⊎ (k ≡ n)) n (λ none. inr refl) (λ k apart none. inl (sym (get-remove_other calls n k apart) ∙ none))

-- That call waited for this, and for nothing else.
module _ (s : State) (n : ℕ) (from : OwnCall) (alone : HasItsOwnAlone s n (Some from)) where
  abbrev after : State
  after = record s { calls = map.remove s.calls n }

  done_now : (o : ℕ) (x : KeptOutcome) → map.get s.outcomes o ≡ Some x → (who : Caller) → x.caller ≡ who → CallerIsDone after o who → CallerIsDone s o who ⊎ (from ≡ own.Kept o)
  done_now o x there (caller.Application c) is done = by (now_or_before s.calls n c.0 done)
    where
      by : (map.get s.calls c.0 ≡ None) ⊎ (c.0 ≡ n) → (map.get s.calls c.0 ≡ None) ⊎ (from ≡ own.Kept o)
      by (inl before) = inl before
      by (inr same) = inr (alone.0 o (subst (IsOutcomeFor n) (sym there) (is ∙ ap (λ (k : ℕ). caller.Application (record { 0 = k })) same)))
  done_now o x there (caller.Peer q) is done = inl done

  told_to_now : (o : ℕ) (x : KeptOutcome) (v : Option Value) → map.get s.outcomes o ≡ Some x → IsToldTo after o x v → IsToldTo s o x v ⊎ (from ≡ own.Kept o)
  told_to_now o x None there h = absurd h
  told_to_now o x (Some v) there h = by (done_now o x there x.caller refl h.1)
    where
      by : CallerIsDone s o x.caller ⊎ (from ≡ own.Kept o) → IsToldTo s o x (Some v) ⊎ (from ≡ own.Kept o)
      by (inl before) = inl (h.0, before)
      by (inr its) = inr its

  told_now : (o : ℕ) (x : Option KeptOutcome) → map.get s.outcomes o ≡ x → IsTold after o x → IsTold s o x ⊎ (from ≡ own.Kept o)
  told_now o None there h = absurd h
  told_now o (Some x) there h = told_to_now o x x.value there h

  asked_now : (q : ℕ) (x : Question) (call : CallId) → map.get s.questions q ≡ Some x → x.role ≡ role.Direct call → map.get after.calls call.0 ≡ None → (map.get s.calls call.0 ≡ None) ⊎ (from ≡ own.Direct (record { 0 = q }))
  asked_now q x call there is done = by (now_or_before s.calls n call.0 done)
    where
      by : (map.get s.calls call.0 ≡ None) ⊎ (call.0 ≡ n) → (map.get s.calls call.0 ≡ None) ⊎ (from ≡ own.Direct (record { 0 = q }))
      by (inl before) = inl before
      by (inr same) = inr (alone.1 q (subst (IsQuestionFor n) (sym there) (is ∙ ap (λ (k : ℕ). role.Direct (record { 0 = k })) same)))

  -- Where that is noted, what was noted stays so.
  module _ (c d : Names) (promises : d.promises ≡ c.promises) (imports : d.imports ≡ c.imports)
      (outcomes : (o : ℕ) → IsNoted c.outcomes o ⊎ (from ≡ own.Kept o) → IsNoted d.outcomes o)
      (questions : (q : ℕ) → IsNoted c.questions q ⊎ (from ≡ own.Direct (record { 0 = q })) → IsNoted d.questions q)
      (still : (q : ℕ) → Contains c.questions.noted q → Contains d.questions.noted q) where
    for_now : (q : ℕ) (x : Question) (r : Role) → map.get s.questions q ≡ Some x → x.role ≡ r → IsNotedFor s c.questions q x r → IsNotedFor after d.questions q x r
    for_now q x (role.Relay o) there is h = λ back. still q (h back)
    for_now q x (role.Direct call) there is h = λ done. by (asked_now q x call there is done)
      where
        by : (map.get s.calls call.0 ≡ None) ⊎ (from ≡ own.Direct (record { 0 = q })) → IsNoted d.questions q
        by (inl before) = questions q (inl (h before))
        by (inr its) = questions q (inr its)

    as_now : (q : ℕ) (x : Option Question) → map.get s.questions q ≡ x → IsNotedAs s c.questions q x → IsNotedAs after d.questions q x
    as_now q None there h = tt
    as_now q (Some x) there h = λ unsent. for_now q x x.role there refl (h unsent)

    covered_now : IsCovered s c → IsCovered after d
    covered_now h = record {
      promises = λ p fixed. subst (λ (e : Counted). IsNoted e p) (sym promises) (h.promises p fixed);
      outcomes = λ o told. by o (told_now o (map.get s.outcomes o) refl told);
      imports = λ e there. subst (λ (k : Counted). IsNoted k e) (sym imports) (h.imports e there);
      questions = λ q. as_now q (map.get s.questions q) refl (h.questions q);
    }
      where
        by : (o : ℕ) → IsTold s o (map.get s.outcomes o) ⊎ (from ≡ own.Kept o) → IsNoted d.outcomes o
        by o (inl before) = outcomes o (inl (h.outcomes o before))
        by o (inr its) = outcomes o (inr its)

-- What a call waited for.
abbrev kept_of : OwnCall → Option ℕ
kept_of (own.Direct q) = None
kept_of (own.Kept o) = Some o

abbrev asked_of : OwnCall → Option ℕ
asked_of (own.Direct q) = Some q.0
asked_of (own.Kept o) = None

covered_ended : (s : State) (n : ℕ) (from : OwnCall) (c : Names) → HasItsOwnAlone s n (Some from) → IsCovered s c → IsCovered (record s { calls = map.remove s.calls n }) (noted_for c from)
covered_ended s n (own.Direct q) c alone h =
    covered_now s n (own.Direct q) alone c (noted_for c (own.Direct q)) refl refl outcomes questions (still_noted c.questions q.0) h
  where
    outcomes : (o : ℕ) → IsNoted c.outcomes o ⊎ (own.Direct q ≡ own.Kept o) → IsNoted c.outcomes o
    outcomes o (inl before) = before
    outcomes o (inr its) = absurd (let bad : None ≡ Some o = ap kept_of its in cc)

    questions : (k : ℕ) → IsNoted c.questions k ⊎ (own.Direct q ≡ own.Direct (record { 0 = k })) → IsNoted (noted_unnamed c.questions q.0) k
    questions k (inl before) = noted_more c.questions q.0 k before
    questions k (inr its) = let e : Some q.0 ≡ Some k = ap asked_of its in let same : q.0 ≡ k = cc in subst (IsNoted (noted_unnamed c.questions q.0)) same (noted_here c.questions q.0)
covered_ended s n (own.Kept key) c alone h =
    covered_now s n (own.Kept key) alone c (noted_for c (own.Kept key)) refl refl outcomes questions (λ q there. there) h
  where
    outcomes : (o : ℕ) → IsNoted c.outcomes o ⊎ (own.Kept key ≡ own.Kept o) → IsNoted (noted_unnamed c.outcomes key) o
    outcomes o (inl before) = noted_more c.outcomes key o before
    outcomes o (inr its) = let e : Some key ≡ Some o = ap kept_of its in let same : key ≡ o = cc in subst (IsNoted (noted_unnamed c.outcomes key)) same (noted_here c.outcomes key)

    questions : (k : ℕ) → IsNoted c.questions k ⊎ (own.Kept key ≡ own.Direct (record { 0 = k })) → IsNoted c.questions k
    questions k (inl before) = before
    questions k (inr its) = absurd (let bad : None ≡ Some k = ap asked_of its in cc)

-- ---- Names

times_noted : (c : Names) (from : OwnCall) (n : Node) → times_named (noted_for c from) n ≡ times_named c n
times_noted c (own.Direct q) (node.Object o) = refl
times_noted c (own.Direct q) (node.Promise p) = refl
times_noted c (own.Direct q) (node.Field o path) = refl
times_noted c (own.Direct q) (node.Import e) = refl
times_noted c (own.Direct q) (node.Pipe k path) = ap (λ (m : Map ℕ). times m k.0) (same_counts c.questions q.0)
times_noted c (own.Direct q) (node.Broken reason) = refl
times_noted c (own.Kept key) (node.Object o) = refl
times_noted c (own.Kept key) (node.Promise p) = refl
times_noted c (own.Kept key) (node.Field o path) = ap (λ (m : Map ℕ). times m o) (same_counts c.outcomes key)
times_noted c (own.Kept key) (node.Import e) = refl
times_noted c (own.Kept key) (node.Pipe k path) = refl
times_noted c (own.Kept key) (node.Broken reason) = refl

counts_noted : (c : Names) (from : OwnCall) (ns : List Node) → Counts c ns → Counts (noted_for c from) ns
counts_noted c (own.Direct q) ns h = record { promises = h.promises; outcomes = h.outcomes; imports = h.imports; questions = λ k. ap (λ (m : Map ℕ). times m k) (same_counts c.questions q.0) ∙ h.questions k; objects = h.objects }
counts_noted c (own.Kept key) ns h = record { promises = h.promises; outcomes = λ k. ap (λ (m : Map ℕ). times m k) (same_counts c.outcomes key) ∙ h.outcomes k; imports = h.imports; questions = h.questions; objects = h.objects }

room_noted : (c : Names) (from : OwnCall) (more : ℕ) → HasRoom more c → HasRoom more (noted_for c from)
room_noted c (own.Direct q) more h = record { promises = h.promises; outcomes = h.outcomes; imports = h.imports; questions = let a = same_room c.questions q.0 in let b = h.questions in omega (arith, a, b); objects = h.objects }
room_noted c (own.Kept key) more h = record { promises = h.promises; outcomes = let a = same_room c.outcomes key in let b = h.outcomes in omega (arith, a, b); imports = h.imports; questions = h.questions; objects = h.objects }

spare_noted : (c : Names) (from : OwnCall) (more less : ℕ) → less + 1 ≤ more → HasSpare more c → HasSpare less (noted_for c from)
spare_noted c (own.Direct q) more less few h = record {
  promises = let a = h.promises in omega (arith, a, few);
  outcomes = let a = h.outcomes in omega (arith, a, few);
  imports = let a = h.imports in omega (arith, a, few);
  questions = let a = spare_less c.questions q.0 in let b = h.questions in omega (arith, a, b, few);
}
spare_noted c (own.Kept key) more less few h = record {
  promises = let a = h.promises in omega (arith, a, few);
  outcomes = let a = spare_less c.outcomes key in let b = h.outcomes in omega (arith, a, b, few);
  imports = let a = h.imports in omega (arith, a, few);
  questions = let a = h.questions in omega (arith, a, few);
}

-- ---- The whole

sound_fewer : (x : Store) (n : ℕ) (m : Table OwnCall) (c : Names) → IsSound x → 0 < x.slack → m.entries ≡ map.remove x.calls.entries n → x.calls.room ≤ m.room
    → AreNamed x c (x.slack - 1) → IsCovered (record (state_of x) { calls = map.remove x.calls.entries n }) c → IsSound (record x { calls = m; names = c; slack = x.slack - 1 })
sound_fewer x n m c h some is room named covered =
    let s : State = state_of x in
    let few : x.slack - 1 ≤ x.slack = omega arith in
    kept_numbers x m x.tasks x.unsettled x.next_call x.next_task x.next_promise c (x.slack - 1) x.added h
    (numbers_without x.calls x.next_call x.slack (call_numbers x h) m n (x.slack - 1) few is room)
    (numbers_still x.tasks x.next_task x.slack (task_numbers x h) (x.slack - 1) few)
    (numbers_still x.unsettled x.next_promise x.slack (promise_numbers x h) (x.slack - 1) few)
    named (subst (λ (e : Map OwnCall). IsCovered (record s { calls = e }) c) (sym is) covered)
    few (omega arith) (let a = h.bounded.added in omega (arith, a, some))

-- There is none.
pub sound_uncalled : (x : Store) (n : ℕ) (m : Table OwnCall) → IsSound x → 0 < x.slack → m.entries ≡ map.remove x.calls.entries n → x.calls.room ≤ m.room → map.get x.calls.entries n ≡ None
    → IsSound (record x { calls = m; slack = x.slack - 1 })
sound_uncalled x n m h some is room none =
    sound_fewer x n m x.names h some is room (same_names x (x.slack - 1) h (omega arith))
    (subst (λ (e : Map OwnCall). IsCovered (record (state_of x) { calls = e }) x.names) (sym (remove_absent x.calls.entries n none)) h.covered)

pub sound_ended : (x : Store) (n : ℕ) (from : OwnCall) (m : Table OwnCall) (c : Names) → IsSound x → 0 < x.slack → m.entries ≡ map.remove x.calls.entries n → x.calls.room ≤ m.room → map.get x.calls.entries n ≡ Some from
    → HasItsOwnAlone (state_of x) n (map.get x.calls.entries n) → c ≡ noted_for x.names from → IsSound (record x { calls = m; names = c; slack = x.slack - 1 })
sound_ended x n from m c h some is room there alone names =
    subst (λ (c : Names). IsSound (record x { calls = m; names = c; slack = x.slack - 1 })) (sym names)
    (sound_fewer x n m (noted_for x.names from) h some is room (record {
      counted = counts_noted x.names from (all_named x) h.counted;
      bounded = λ n. let a = times_noted x.names from n in let b = h.bounded.names n in omega (arith, a, b);
      names = room_noted x.names from (x.slack - 1) (room_fewer (x.slack - 1) x.slack x.names (omega arith) h.room.names);
      notes = spare_noted x.names from x.slack (x.slack - 1) (omega (arith, some)) h.room.notes;
    })
    (covered_ended (state_of x) n from x.names (subst (HasItsOwnAlone (state_of x) n) there alone) h.covered))
