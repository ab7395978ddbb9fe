-- What a step of a given state owes, by tests that compute: that nothing goes at its end, that no limit is passed, that
-- two states are one. `simp maps` computes look-ups, entries and lengths of maps that are given.
use Rattle.std.proofs.Common.{◌≡◌, ℕ, ◌≤◌, ◌<◌, Bool, true, false, cond, not, ◌&&◌, ◌||◌, nat_eq, nat_lt, nat_le, List, [], ◌∷◌, Option, None, Some, is_some, Ok, Err, refl, sym, ap, subst, ◌∙◌, arith}
use Rattle.std.proofs.lemmas.Bool.Decides.{nat_tests}
use Rattle.std.specs.Ordering.{nat_cmp, eq_by_cmp, is_eq}
use Rattle.std.specs.Cmp.{nat_cmp_total, alike_right, eq_by_cmp_equiv}
use Rattle.std.specs.FinMap as map
use Rattle.std.specs.FinMap.Entries as entries
use Rattle.finite_maps.specs.Tally.{Map}
use Rattle.rpc_msg.specs.declared.ids.ObjectId.{ObjectId}
use Rattle.rpc_msg.specs.declared.ids.Vat.{Vat}
use Rattle.rpc_msg.specs.declared.ids.Vat.TheVariants.{A, B}
use Rattle.rpc_msg.specs.declared.message.Message.{Message}
use Rattle.rpc_msg.specs.Payloads.{Contents as Payload}
use Rattle.rpc_machine.specs.declared.node.Node.TheVariants as node
use Rattle.rpc_machine.specs.declared.node.Node.{Node}
use Rattle.rpc_machine.specs.declared.command.Level.{Level}
use Rattle.rpc_machine.specs.declared.command.Command.{Command}
use Rattle.rpc_machine.specs.declared.command.Granted.{Granted}
use Rattle.rpc_machine.specs.declared.command.Effects.{Effects}
use Rattle.rpc_machine.specs.declared.command.Refusal.{Refusal}
use Rattle.rpc_machine.specs.declared.calls.Caller.{Caller}
use Rattle.rpc_machine.specs.declared.calls.Caller.TheVariants as caller
use Rattle.rpc_machine.specs.declared.calls.HeldCall.{HeldCall}
use Rattle.rpc_machine.specs.declared.calls.KeptOutcome.{KeptOutcome}
use Rattle.rpc_machine.specs.declared.calls.OwnCall.{OwnCall}
use Rattle.rpc_machine.specs.declared.calls.Promise.{Promise}
use Rattle.rpc_machine.specs.declared.calls.Promise.TheVariants as promise
use Rattle.rpc_machine.specs.declared.calls.Value.{Value}
use Rattle.rpc_machine.specs.declared.entries.AnswerEntry.{AnswerEntry}
use Rattle.rpc_machine.specs.declared.entries.Embargo.{Embargo}
use Rattle.rpc_machine.specs.declared.entries.Export.{Export}
use Rattle.rpc_machine.specs.declared.entries.Finishing.{Finishing}
use Rattle.rpc_machine.specs.declared.entries.Finishing.TheVariants as finishing
use Rattle.rpc_machine.specs.declared.entries.Import.{Import}
use Rattle.rpc_machine.specs.declared.entries.Question.{Question}
use Rattle.rpc_machine.specs.declared.entries.Reference.{Reference}
use Rattle.rpc_machine.specs.declared.entries.Role.{Role}
use Rattle.rpc_machine.specs.declared.entries.Role.TheVariants as role
use Rattle.rpc_machine.specs.State.{State}
use Rattle.rpc_machine.specs.Lists.{is_empty}
use Rattle.rpc_machine.specs.Nodes.{is_promise, is_field, is_import, is_pipe, next}
use Rattle.rpc_machine.specs.Places.{names}
use Rattle.rpc_machine.specs.Progress.{Progress, begin, quiet, with_state}
use Rattle.rpc_machine.specs.Collecting.{IsTight, Goes, Collects, Tight, Loose, IsLoosePromise, IsLooseOutcome, IsLooseValue, IsLooseImport, AnswerIsOther, CallerIsDone}
use Rattle.rpc_machine.specs.Sweeping.{Sweeps, IsToFinish, IsOver, IsNotSent, Withers, Over, Thing, Asked, FinishesEach, releases, closed, finished_by}
use Rattle.rpc_machine.specs.Settling.{Drains, NoneLeft, TurnsBack}
use Rattle.rpc_machine.specs.Limits.{IsWithin, held, held_limit, table_limit, count_limit, number_limit, import_count, export_count, made_through}
use Rattle.rpc_machine.specs.Descriptors.{IsOther, IsNotExported}
use Rattle.rpc_machine.specs.Down.{falling_by, fallen}
use Rattle.rpc_machine.specs.declared.command.Refusal.TheVariants as refusal
use Rattle.rpc_machine.specs.Refusals.{refused}
use Rattle.rpc_machine.specs.Faults.{fault_of}
use Rattle.rpc_machine.specs.Commands.{Acts}
use Rattle.rpc_machine.specs.Messages.{Takes}
use Rattle.rpc_machine.specs.Steps.{Ends, staying_up, IsDone, IsHandled, Refuses, FaultsBy}
use Rattle.rpc_machine.specs.World.{World, Answered, Handled, Happens, CommandsAt, ReceivesAt, core, inbox, after, put_inbox}
use Rattle.rpc_machine_examples.specs.Given.{did, took, refused_with}
use Rattle.rpc_machine_examples.proofs.GivenMaps.{quiet_end, progress, NothingOver, quiet_ends, tied, entries_empty, entries_of, follow_stop}

-- ---- Given maps compute

abbrev pub other_key : ℕ → ℕ → Bool
other_key k x = not (eq_by_cmp nat_cmp k x)

turned : {A : Type 0} (b : Bool) (x y : A) → cond (not b) x y ≡ cond b y x
turned true x y = refl
turned false x y = refl

pub entries-remove : {X : Type 0} (s : Map X) (k : ℕ) → map.entries (map.remove s k) ≡ entries.where_key nat_cmp (other_key k) (map.entries s)
entries-remove s k =
    entries.same_entries nat_cmp nat_cmp_total map.nat_cmp-IsAntisymmetric (map.entries (map.remove s k)) (entries.where_key nat_cmp (other_key k) (map.entries s))
    (map.entries_sorted (map.remove s k)) (entries.is_sorted-where_key nat_cmp (other_key k) (map.entries s) (map.entries_sorted s))
    (λ q.
    sym (map.get-entries (map.remove s k) q)
    ∙ map.get-remove nat_cmp_total s k q
    ∙ ap (cond (eq_by_cmp nat_cmp q k) None) (map.get-entries s q)
    ∙ ap (λ b. cond b None (entries.find nat_cmp q (map.entries s))) (sym ((eq_by_cmp_equiv nat_cmp_total).symm k q))
    ∙ sym (turned (eq_by_cmp nat_cmp k q) (entries.find nat_cmp q (map.entries s)) None)
    ∙ sym (entries.find-where_key nat_cmp (other_key k) q (λ x t. ap (λ r. not (is_eq r)) (sym (alike_right nat_cmp_total q x k t))) (map.entries s)))

pub entries-insert : {X : Type 0} (s : Map X) (k : ℕ) (v : X) → map.entries (map.insert s k v) ≡ entries.put nat_cmp k v (map.entries s)
entries-insert s k v = map.entries-insert nat_cmp_total s k v

pub ruleset maps = (map.get-entries, map.len-entries, entries-insert, entries-remove, entries_empty)

-- ---- Tests of all entries

pub first_of_both : (a b : Bool) → (a && b) ≡ true → a ≡ true
first_of_both true b h = refl
first_of_both false b h = h

pub second_of_both : (a b : Bool) → (a && b) ≡ true → b ≡ true
second_of_both true b h = h
second_of_both false b h = let e : false ≡ true = h in cc

abbrev pub each : {X : Type 0} → (ℕ → X → Bool) → List (ℕ × X) → Bool
each test [] = true
each test (e ∷ es) = test e.0 e.1 && each test es

abbrev pub passes : {X : Type 0} → (ℕ → X → Bool) → ℕ → Option X → Bool
passes test k None = true
passes test k (Some x) = test k x

each_found : {X : Type 0} (test : ℕ → X → Bool) (es : List (ℕ × X)) (k : ℕ) → each test es ≡ true → passes test k (entries.find nat_cmp k es) ≡ true
each_found test [] k h = refl
each_found {X} test (e ∷ es) k h =
    elim (eq_by_cmp nat_cmp k e.0) as (λ b. eq_by_cmp nat_cmp k e.0 ≡ b → passes test k (cond b (Some e.1) (entries.find nat_cmp k es)) ≡ true) [
      | true ↦ λ t. subst (λ j. test j e.1 ≡ true) (tied k e.0 t) (first_of_both (test e.0 e.1) (each test es) h)
      | false ↦ λ t. each_found test es k (second_of_both (test e.0 e.1) (each test es) h)
    ] refl

-- What each entry passes, what stands under a key passes.
pub each_at : {X : Type 0} (test : ℕ → X → Bool) (s : Map X) (k : ℕ) → each test (map.entries s) ≡ true → passes test k (map.get s k) ≡ true
each_at test s k h = subst (λ o. passes test k o ≡ true) (sym (map.get-entries s k)) (each_found test (map.entries s) k h)

-- ---- Nothing goes

not_zero : (n : ℕ) → not (nat_eq n 0) ≡ true → n ≡ 0 → ⊥
not_zero n h e = let f : false ≡ true = subst (λ k. not (nat_eq k 0) ≡ true) e h in cc

equal_by : (i j : ℕ) → nat_eq i j ≡ true → i ≡ j
equal_by i j h = grind (arith, nat_tests)

abbrev pub keeps_promise : State → ℕ → Promise → Bool
keeps_promise s p (promise.Open calls) = true
keeps_promise s p (promise.Fixed to) = not (nat_eq (names s (is_promise p)) 0)

promise_stays : (s : State) (p : ℕ) (o : Option Promise) → passes (keeps_promise s) p o ≡ true → ¬ (IsLoosePromise s p o)
promise_stays s p None h l = l
promise_stays s p (Some (promise.Open calls)) h l = l
promise_stays s p (Some (promise.Fixed to)) h l = not_zero (names s (is_promise p)) h l

abbrev pub answer_has : ℕ → Option AnswerEntry → Bool
answer_has o None = false
answer_has o (Some a) = nat_eq a.outcome o

abbrev pub has_caller : State → ℕ → Caller → Bool
has_caller s o (caller.Application c) = is_some (map.get s.calls c.0)
has_caller s o (caller.Peer q) = answer_has o (map.get s.answers q.0)

abbrev pub keeps_value : State → ℕ → KeptOutcome → Option Value → Bool
keeps_value s o x None = true
keeps_value s o x (Some v) = not (is_empty x.waiting) || has_caller s o x.caller || not (nat_eq (names s (is_field o)) 0)

abbrev pub keeps_outcome : State → ℕ → KeptOutcome → Bool
keeps_outcome s o x = keeps_value s o x x.value

not_empty : (xs : List HeldCall) → not (is_empty xs) ≡ true → xs ≡ [] → ⊥
not_empty xs h e = let f : false ≡ true = subst (λ ys. not (is_empty ys) ≡ true) e h in cc

is_asked : (o : ℕ) (a : Option AnswerEntry) → answer_has o a ≡ true → AnswerIsOther o a → ⊥
is_asked o None h d = let f : false ≡ true = h in cc
is_asked o (Some a) h d = d (equal_by a.outcome o h)

is_called : (s : State) (o : ℕ) (who : Caller) → has_caller s o who ≡ true → CallerIsDone s o who → ⊥
is_called s o (caller.Application c) h d = let f : false ≡ true = subst (λ x. is_some x ≡ true) d h in cc
is_called s o (caller.Peer q) h d = is_asked o (map.get s.answers q.0) h d

one_of_three : (a b c : Bool) → (a || b || c) ≡ true → (a ≡ true → ⊥) → (b ≡ true → ⊥) → (c ≡ true → ⊥) → ⊥
one_of_three true b c h p q r = p refl
one_of_three false true c h p q r = q refl
one_of_three false false c h p q r = r h

value_stays : (s : State) (o : ℕ) (x : KeptOutcome) (v : Option Value) → keeps_value s o x v ≡ true → ¬ (IsLooseValue s o x v)
value_stays s o x None h l = l
value_stays s o x (Some v) h l =
    one_of_three (not (is_empty x.waiting)) (has_caller s o x.caller) (not (nat_eq (names s (is_field o)) 0)) h
    (λ p. not_empty x.waiting p l.0) (λ p. is_called s o x.caller p l.1) (λ p. not_zero (names s (is_field o)) p l.2)

outcome_stays : (s : State) (o : ℕ) (x : Option KeptOutcome) → passes (keeps_outcome s) o x ≡ true → ¬ (IsLooseOutcome s o x)
outcome_stays s o None h l = l
outcome_stays s o (Some x) h l = value_stays s o x x.value h l

abbrev pub keeps_import : State → ℕ → Import → Bool
keeps_import s e x = not (nat_eq (names s (is_import e)) 0)

import_stays : (s : State) (e : ℕ) (x : Option Import) → passes (keeps_import s) e x ≡ true → ¬ (IsLooseImport s e x)
import_stays s e None h l = l
import_stays s e (Some x) h l = not_zero (names s (is_import e)) h l

-- Nothing is loose.
abbrev pub is_tight : State → Bool
is_tight s = each (keeps_promise s) (map.entries s.promises) && (each (keeps_outcome s) (map.entries s.outcomes) && each (keeps_import s) (map.entries s.imports))

pub tight : (s : State) → is_tight s ≡ true → IsTight s
tight s h =
    let p = each (keeps_promise s) (map.entries s.promises) in
    let o = each (keeps_outcome s) (map.entries s.outcomes) in
    let i = each (keeps_import s) (map.entries s.imports) in
    let rest = second_of_both p (o && i) h in
    record {
      promises = λ k. promise_stays s k (map.get s.promises k) (each_at (keeps_promise s) s.promises k (first_of_both p (o && i) h));
      outcomes = λ k. outcome_stays s k (map.get s.outcomes k) (each_at (keeps_outcome s) s.outcomes k (first_of_both o i rest));
      imports = λ k. import_stays s k (map.get s.imports k) (each_at (keeps_import s) s.imports k (second_of_both o i rest));
    }

-- ---- No question is over

abbrev pub is_unsent : Finishing → Bool
is_unsent finishing.Owed = true
is_unsent finishing.Sent = false
is_unsent finishing.Waived = true

abbrev pub is_over : State → ℕ → Question → Role → Bool
is_over s q x (role.Relay o) = is_some x.returned
is_over s q x (role.Direct c) = not (is_some (map.get s.calls c.0)) && nat_eq (names s (is_pipe q)) 0

abbrev pub goes_on : State → ℕ → Question → Bool
goes_on s q x = not (is_unsent x.finish && is_over s q x x.role)

unsent : (f : Finishing) → IsNotSent f → is_unsent f ≡ true
unsent finishing.Owed h = refl
unsent finishing.Sent h = absurd h
unsent finishing.Waived h = refl

is_zero : (n : ℕ) → n ≡ 0 → nat_eq n 0 ≡ true
is_zero n e = subst (λ k. nat_eq k 0 ≡ true) (sym e) refl

both_hold : (a b : Bool) → a ≡ true → b ≡ true → (a && b) ≡ true
both_hold true b h k = k
both_hold false b h k = h

over : (s : State) (q : ℕ) (x : Question) (r : Role) → IsOver s q x r → is_over s q x r ≡ true
over s q x (role.Relay o) h = h
over s q x (role.Direct c) h =
    both_hold (not (is_some (map.get s.calls c.0))) (nat_eq (names s (is_pipe q)) 0) (subst (λ o. not (is_some o) ≡ true) (sym h.0) refl) (is_zero (names s (is_pipe q)) h.1)

not_both : (b : Bool) → not b ≡ true → b ≡ true → ⊥
not_both true h k = let e : false ≡ true = h in cc
not_both false h k = let e : false ≡ true = k in cc

question_stays : (s : State) (q : ℕ) (x : Option Question) → passes (goes_on s) q x ≡ true → ¬ (IsToFinish s q x)
question_stays s q None h l = l
question_stays s q (Some x) h l =
    not_both (is_unsent x.finish && is_over s q x x.role) h (both_hold (is_unsent x.finish) (is_over s q x x.role) (unsent x.finish l.0) (over s q x x.role l.1))

abbrev pub none_is_over : State → Bool
none_is_over s = each (goes_on s) (map.entries s.questions)

pub nothing_over : (s : State) → none_is_over s ≡ true → NothingOver s
nothing_over s h q = question_stays s q (map.get s.questions q) (each_at (goes_on s) s.questions q h)

-- ---- No capability of an outcome leads to itself

unlike_itself : (k : ℕ) → nat_eq k k ≡ false → ⊥
unlike_itself k h = grind (arith, nat_tests)

pub leads_elsewhere : (s : State) (o : ℕ) (payload : Payload) (i : ℕ) (n : Node) → next s n ≡ n → is_field o n ≡ false → ¬ (TurnsBack s o payload i n)
leads_elsewhere s o payload i n stop other h =
    let e : n ≡ node.Field o h.1 = sym (follow_stop s h.0 n stop) ∙ h.2 in
    unlike_itself o (subst (λ x. is_field o x ≡ false) e other)

-- ---- No export stands for a node

abbrev pub is_unlike : (Node → Bool) → ℕ → Export → Bool
is_unlike test e x = not (test x.node)

other_by : (test : Node → Bool) (n : Node) (e : ℕ) (x : Option Export) → test n ≡ true → passes (is_unlike test) e x ≡ true → IsOther n x
other_by test n e None h k = tt
other_by test n e (Some x) h k = λ q. not_both (test x.node) k (subst (λ y. test y ≡ true) (sym q) h)

-- By a test that the node passes, and no export's.
pub not_exported : (test : Node → Bool) (s : State) (n : Node) → test n ≡ true → each (is_unlike test) (map.entries s.exports) ≡ true → IsNotExported s n
not_exported test s n h k e = other_by test n e (map.get s.exports e) h (each_at (is_unlike test) s.exports e k)

-- ---- Two states are one

pub record Shown : Type 0 where
  pub vat : Vat
  pub level : Level
  pub bootstrap : Option ObjectId
  pub questions : List (ℕ × Question)
  pub answers : List (ℕ × AnswerEntry)
  pub imports : List (ℕ × Import)
  pub exports : List (ℕ × Export)
  pub refs : List (ℕ × Reference)
  pub calls : List (ℕ × OwnCall)
  pub tasks : List (ℕ × ℕ)
  pub unsettled : List (ℕ × ℕ)
  pub promises : List (ℕ × Promise)
  pub outcomes : List (ℕ × KeptOutcome)
  pub embargoes : List (ℕ × Embargo)
  pub next_ref : ℕ
  pub next_call : ℕ
  pub next_task : ℕ
  pub next_promise : ℕ
  pub down : Option ℕ

-- A state by the entries of its maps.
abbrev pub shown : State → Shown
shown s = record {
  vat = s.vat;
  level = s.level;
  bootstrap = s.bootstrap;
  questions = map.entries s.questions;
  answers = map.entries s.answers;
  imports = map.entries s.imports;
  exports = map.entries s.exports;
  refs = map.entries s.refs;
  calls = map.entries s.calls;
  tasks = map.entries s.tasks;
  unsettled = map.entries s.unsettled;
  promises = map.entries s.promises;
  outcomes = map.entries s.outcomes;
  embargoes = map.entries s.embargoes;
  next_ref = s.next_ref;
  next_call = s.next_call;
  next_task = s.next_task;
  next_promise = s.next_promise;
  down = s.down;
}

pub same_state : (s t : State) → shown s ≡ shown t → s ≡ t
same_state s t e = λ i. record {
  vat = (e i).vat;
  level = (e i).level;
  bootstrap = (e i).bootstrap;
  questions = map.same_entries_map s.questions t.questions (ap (λ (x : Shown). x.questions) e) i;
  answers = map.same_entries_map s.answers t.answers (ap (λ (x : Shown). x.answers) e) i;
  imports = map.same_entries_map s.imports t.imports (ap (λ (x : Shown). x.imports) e) i;
  exports = map.same_entries_map s.exports t.exports (ap (λ (x : Shown). x.exports) e) i;
  refs = map.same_entries_map s.refs t.refs (ap (λ (x : Shown). x.refs) e) i;
  calls = map.same_entries_map s.calls t.calls (ap (λ (x : Shown). x.calls) e) i;
  tasks = map.same_entries_map s.tasks t.tasks (ap (λ (x : Shown). x.tasks) e) i;
  unsettled = map.same_entries_map s.unsettled t.unsettled (ap (λ (x : Shown). x.unsettled) e) i;
  promises = map.same_entries_map s.promises t.promises (ap (λ (x : Shown). x.promises) e) i;
  outcomes = map.same_entries_map s.outcomes t.outcomes (ap (λ (x : Shown). x.outcomes) e) i;
  embargoes = map.same_entries_map s.embargoes t.embargoes (ap (λ (x : Shown). x.embargoes) e) i;
  next_ref = (e i).next_ref;
  next_call = (e i).next_call;
  next_task = (e i).next_task;
  next_promise = (e i).next_promise;
  down = (e i).down;
}

-- ---- The end of a step in which nothing goes

abbrev pub is_quiet : State → Bool
is_quiet s = is_tight s && none_is_over s

-- It ends as it stands, or as a state that is the same.
pub ends_quietly : (s new : State) (x : Effects) → is_quiet s ≡ true → shown new ≡ shown s → Ends (progress s x) (staying_up x) new
ends_quietly s new x h e =
    let q = quiet_ends s x (tight s (first_of_both (is_tight s) (none_is_over s) h)) (nothing_over s (second_of_both (is_tight s) (none_is_over s) h)) in
    subst (λ (t : State). Ends (progress s x) (staying_up x) t) (sym (same_state new s e)) q

-- So does one whose outcomes that arose are settled.
pub ends_drained : (acted : Progress) (s new : State) (x : Effects) → Drains (progress s x) acted → is_quiet s ≡ true → shown new ≡ shown s → Ends acted (staying_up x) new
ends_drained acted s new x d h e =
    record {
      drained = progress s x;
      swept = progress s x;
      drains = d;
      sweeps = quiet_end s x (tight s (first_of_both (is_tight s) (none_is_over s) h)) (nothing_over s (second_of_both (is_tight s) (none_is_over s) h));
      effects_are = refl;
      new_is = same_state new s e;
    }

-- ---- The end of a step in which something goes

pub withers_quietly : (d : Progress) → is_quiet d.state ≡ true → Withers d map.empty
withers_quietly d h =
    Over (tight d.state (first_of_both (is_tight d.state) (none_is_over d.state) h)) (nothing_over d.state (second_of_both (is_tight d.state) (none_is_over d.state) h))

pub collects_quietly : (d : Progress) → is_tight d.state ≡ true → Collects d d
collects_quietly d h = Tight (tight d.state h)

none_finishes : (d : Progress) → FinishesEach d (map.entries (map.empty {X = Question} {R = nat_cmp})) d
none_finishes d = subst (λ xs. FinishesEach d xs d) (sym entries_empty) refl

same_progress : (d : Progress) (new : State) (y : Effects) → shown new ≡ shown d.state → releases d ≡ progress d.state y → progress new y ≡ releases d
same_progress d new y h e = ap (λ (t : State). progress t y) (same_state new d.state h) ∙ sym e

-- One thing goes, and then nothing more.
pub ends_losing_one : (s new : State) (x y : Effects) (mid : Progress) → Goes (progress s x) mid → is_quiet mid.state ≡ true → releases mid ≡ progress mid.state y → shown new ≡ shown mid.state → Ends (progress s x) (staying_up y) new
ends_losing_one s new x y mid g h e f =
    record {
      drained = progress s x;
      swept = progress new y;
      drains = NoneLeft refl;
      sweeps = (
        map.empty,
        Thing g (withers_quietly mid h),
        (progress s x, none_finishes (progress s x), (mid, Loose g (collects_quietly mid (first_of_both (is_tight mid.state) (none_is_over mid.state) h)), same_progress mid new y f e)),
      );
      effects_are = refl;
      new_is = refl;
    }

-- One question is finished. What goes thereby is gone when its Finish is made, by its flag.
pub sweeps_finishing_one : (s new : State) (x y : Effects) (q : ℕ) (k : Question) (done : Progress) → map.get s.questions q ≡ Some k → IsToFinish s q (Some k) → is_tight s ≡ true → Withers (with_state (progress s x) (closed s q k)) map.empty → done ≡ finished_by (progress s x) q k k.finish → is_tight done.state ≡ true → releases done ≡ progress done.state y → shown new ≡ shown done.state → Sweeps (progress s x) (progress new y)
sweeps_finishing_one s new x y q k done g f h w made t e n =
    let d = progress s x in (
      map.insert map.empty q k,
      Asked q k g f w,
      (
        done,
        subst (λ xs. FinishesEach d xs done) (sym (entries_of ((q, k) ∷ []))) (d, collects_quietly d h, made),
        (done, collects_quietly done t, same_progress done new y n e),
      ),
    )

pub ends_finishing_one : (s new : State) (x y : Effects) (q : ℕ) (k : Question) (done : Progress) → map.get s.questions q ≡ Some k → IsToFinish s q (Some k) → is_tight s ≡ true → Withers (with_state (progress s x) (closed s q k)) map.empty → done ≡ finished_by (progress s x) q k k.finish → is_tight done.state ≡ true → releases done ≡ progress done.state y → shown new ≡ shown done.state → Ends (progress s x) (staying_up y) new
ends_finishing_one s new x y q k done g f h w made t e n =
    record { drained = progress s x; swept = progress new y; drains = NoneLeft refl; sweeps = sweeps_finishing_one s new x y q k done g f h w made t e n; effects_are = refl; new_is = refl }

-- ---- No limit is passed

pub below : (i j : ℕ) → nat_lt i j ≡ true → i < j
below i j h = grind (arith, nat_tests)

upto : (i j : ℕ) → nat_le i j ≡ true → i ≤ j
upto i j h = grind (arith, nat_tests)

abbrev pub import_fits : ℕ → Import → Bool
import_fits e x = nat_lt x.count count_limit

abbrev pub export_fits : ℕ → Export → Bool
export_fits e x = nat_lt x.count count_limit

abbrev pub reference_fits : ℕ → Reference → Bool
reference_fits r x = nat_lt x.made number_limit

import_below : (e : ℕ) (o : Option Import) → passes import_fits e o ≡ true → import_count o < count_limit
import_below e None h = below 0 count_limit refl
import_below e (Some x) h = below x.count count_limit h

export_below : (e : ℕ) (o : Option Export) → passes export_fits e o ≡ true → export_count o < count_limit
export_below e None h = below 0 count_limit refl
export_below e (Some x) h = below x.count count_limit h

made_below : (r : ℕ) (o : Option Reference) → passes reference_fits r o ≡ true → made_through o < number_limit
made_below r None h = below 0 number_limit refl
made_below r (Some x) h = below x.made number_limit h

abbrev pub tables_fit : State → Bool
tables_fit s =
    nat_le (map.len s.questions) table_limit
    && (nat_le (map.len s.answers) table_limit
    && (nat_le (map.len s.imports) table_limit
    && (nat_le (map.len s.exports) table_limit && (nat_le (map.len s.embargoes) table_limit && nat_le (held s) held_limit))))

abbrev pub counts_fit : State → Bool
counts_fit s =
    each import_fits (map.entries s.imports) && (each export_fits (map.entries s.exports) && each reference_fits (map.entries s.refs))

abbrev pub numbers_fit : State → Bool
numbers_fit s =
    nat_lt s.next_ref number_limit
    && (nat_lt s.next_call number_limit && (nat_lt s.next_task number_limit && nat_lt s.next_promise number_limit))

abbrev pub fits : State → Bool
fits s = tables_fit s && (counts_fit s && numbers_fit s)

six_of : (a b c d e f : Bool) → (a && (b && (c && (d && (e && f))))) ≡ true → (a ≡ true) × (b ≡ true) × (c ≡ true) × (d ≡ true) × (e ≡ true) × (f ≡ true)
six_of a b c d e f h =
    let h1 = second_of_both a (b && (c && (d && (e && f)))) h in
    let h2 = second_of_both b (c && (d && (e && f))) h1 in
    let h3 = second_of_both c (d && (e && f)) h2 in
    let h4 = second_of_both d (e && f) h3 in (
      first_of_both a (b && (c && (d && (e && f)))) h,
      first_of_both b (c && (d && (e && f))) h1,
      first_of_both c (d && (e && f)) h2,
      first_of_both d (e && f) h3,
      first_of_both e f h4,
      second_of_both e f h4,
    )

three_of : (a b c : Bool) → (a && (b && c)) ≡ true → (a ≡ true) × (b ≡ true) × (c ≡ true)
three_of a b c h =
    let h1 = second_of_both a (b && c) h in
    (first_of_both a (b && c) h, first_of_both b c h1, second_of_both b c h1)

four_of : (a b c d : Bool) → (a && (b && (c && d))) ≡ true → (a ≡ true) × (b ≡ true) × (c ≡ true) × (d ≡ true)
four_of a b c d h =
    let h1 = second_of_both a (b && (c && d)) h in
    let h2 = second_of_both b (c && d) h1 in
    (first_of_both a (b && (c && d)) h, first_of_both b (c && d) h1, first_of_both c d h2, second_of_both c d h2)

pub within : (s : State) → fits s ≡ true → IsWithin s
within s h =
    let rest = second_of_both (tables_fit s) (counts_fit s && numbers_fit s) h in
    let t =
    six_of (nat_le (map.len s.questions) table_limit) (nat_le (map.len s.answers) table_limit) (nat_le (map.len s.imports) table_limit)
    (nat_le (map.len s.exports) table_limit) (nat_le (map.len s.embargoes) table_limit) (nat_le (held s) held_limit)
    (first_of_both (tables_fit s) (counts_fit s && numbers_fit s) h) in
    let c =
    three_of (each import_fits (map.entries s.imports)) (each export_fits (map.entries s.exports)) (each reference_fits (map.entries s.refs))
    (first_of_both (counts_fit s) (numbers_fit s) rest) in
    let n =
    four_of (nat_lt s.next_ref number_limit) (nat_lt s.next_call number_limit) (nat_lt s.next_task number_limit) (nat_lt s.next_promise number_limit)
    (second_of_both (counts_fit s) (numbers_fit s) rest) in
    record {
      questions = upto (map.len s.questions) table_limit t.0;
      answers = upto (map.len s.answers) table_limit t.1;
      imports = upto (map.len s.imports) table_limit t.2;
      exports = upto (map.len s.exports) table_limit t.3;
      embargoes = upto (map.len s.embargoes) table_limit t.4;
      held = upto (held s) held_limit t.5;
      import_counts = λ e. import_below e (map.get s.imports e) (each_at import_fits s.imports e c.0);
      export_counts = λ e. export_below e (map.get s.exports e) (each_at export_fits s.exports e c.1);
      refs = below s.next_ref number_limit n.0;
      calls = below s.next_call number_limit n.1;
      tasks = below s.next_task number_limit n.2;
      promises = below s.next_promise number_limit n.3;
      made = λ r. made_below r (map.get s.refs r) (each_at reference_fits s.refs r c.2);
    }

-- ---- Events

pub command_happens : (v : Vat) (w new : World) (c : Command) (g : Granted) (x : Effects) (acted : Progress) (s : State) → (core w v).down ≡ None → refused (core w v) c ≡ None → Acts (begin (core w v)) c g acted → Ends acted x s → fits s ≡ true → new ≡ after w v x s → Happens w (did v c g x) new
command_happens v w new c g x acted s up r a e f n =
    subst (λ o. CommandsAt w v c o (Answered (Ok g) x) true new) (sym up)
    (s, (Ok g, x, s, IsDone g r refl (record { acted = acted; acts = a; ends = e }) (within s f), refl, (refl, refl)), n)

pub message_comes : (v : Vat) (w new : World) (m : Message) (ms : List Message) (x : Effects) (taken : Progress) (s : State) → (core w v).down ≡ None → inbox w v ≡ m ∷ ms → fault_of (core w v) m ≡ None → Takes (begin (core w v)) m taken → Ends taken x s → fits s ≡ true → new ≡ after (put_inbox w v ms) v x s → Happens w (took v x) new
message_comes A w new m ms x taken s up i f t e b n =
    subst (λ is. ReceivesAt w A is w.a.core.down (Handled x) true new) (sym i)
    (subst (λ o. ReceivesAt w A (m ∷ ms) o (Handled x) true new) (sym up)
    (s, (x, s, IsHandled up f (record { taken = taken; takes = t; ends = e }) (within s b), (refl, refl)), n))
message_comes B w new m ms x taken s up i f t e b n =
    subst (λ is. ReceivesAt w B is w.b.core.down (Handled x) true new) (sym i)
    (subst (λ o. ReceivesAt w B (m ∷ ms) o (Handled x) true new) (sym up)
    (s, (x, s, IsHandled up f (record { taken = taken; takes = t; ends = e }) (within s b), (refl, refl)), n))

pub command_refused : (v : Vat) (w new : World) (c : Command) (r : Refusal) → (core w v).down ≡ None → refused (core w v) c ≡ Some r → new ≡ after w v quiet (core w v) → Happens w (refused_with v c r) new
command_refused v w new c r up f n =
    subst (λ o. CommandsAt w v c o (Answered (Err r) quiet) true new) (sym up)
    (core w v, (Err r, quiet, core w v, Refuses r f refl (record { effects_are = refl; new_is = refl }), refl, (refl, refl)), n)

-- The message fails a check: the vat goes down.
pub message_faults : (v : Vat) (w new : World) (m : Message) (ms : List Message) (n : ℕ) → (core w v).down ≡ None → inbox w v ≡ m ∷ ms → fault_of (core w v) m ≡ Some n → new ≡ after (put_inbox w v ms) v (falling_by m n) (fallen (core w v) n) → Happens w (took v (falling_by m n)) new
message_faults A w new m ms n up i f e =
    subst (λ is. ReceivesAt w A is w.a.core.down (Handled (falling_by m n)) true new) (sym i)
    (subst (λ o. ReceivesAt w A (m ∷ ms) o (Handled (falling_by m n)) true new) (sym up)
    (fallen w.a.core n, (falling_by m n, fallen w.a.core n, FaultsBy n up f refl refl, (refl, refl)), e))
message_faults B w new m ms n up i f e =
    subst (λ is. ReceivesAt w B is w.b.core.down (Handled (falling_by m n)) true new) (sym i)
    (subst (λ o. ReceivesAt w B (m ∷ ms) o (Handled (falling_by m n)) true new) (sym up)
    (fallen w.b.core n, (falling_by m n, fallen w.b.core n, FaultsBy n up f refl refl, (refl, refl)), e))

-- A command at a vat that is down.
pub command_when_down : (v : Vat) (w : World) (c : Command) (n : ℕ) → (core w v).down ≡ Some n → refused (core w v) c ≡ Some refusal.Down → Happens w (refused_with v c refusal.Down) w
command_when_down v w c n d f =
    subst (λ o. CommandsAt w v c o (Answered (Err refusal.Down) quiet) true w) (sym d) (Refuses refusal.Down f refl (record { effects_are = refl; new_is = refl }), refl)
