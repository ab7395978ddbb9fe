-- Finite maps that are given by a list of their entries, and the end of a step in which nothing goes.
use Rattle.std.proofs.Common.{◌≡◌, ℕ, zero, suc, ◌+◌, Bool, true, false, cond, List, [], ◌∷◌, ◌++◌, Option, None, Some, length, refl, sym, ap, subst, ◌∙◌, arith}
use Rattle.std.specs.Ordering.{nat_cmp, eq_by_cmp}
use Rattle.std.specs.Cmp.{nat_cmp_total}
use Rattle.std.specs.FinMap as map
use Rattle.std.specs.FinMap.Entries as entries
use Rattle.rpc_machine.specs.declared.node.Node.{Node}
use Rattle.rpc_machine.specs.declared.command.Effects.{Effects}
use Rattle.rpc_machine.specs.declared.entries.Question.{Question}
use Rattle.rpc_machine.specs.declared.entries.AnswerEntry.{AnswerEntry}
use Rattle.rpc_machine.specs.declared.entries.Import.{Import}
use Rattle.rpc_machine.specs.declared.entries.Export.{Export}
use Rattle.rpc_machine.specs.declared.entries.Reference.{Reference}
use Rattle.rpc_machine.specs.declared.calls.Promise.{Promise}
use Rattle.rpc_machine.specs.declared.calls.KeptOutcome.{KeptOutcome}
use Rattle.rpc_machine.specs.declared.entries.Embargo.{Embargo}
use Rattle.rpc_machine.specs.State.{State}
use Rattle.rpc_machine.specs.Nodes.{next, follow, links, all_links, settle}
use Rattle.rpc_machine.specs.Progress.{Progress}
use Rattle.rpc_machine.specs.Collecting.{IsTight, IsLoosePromise, IsLooseOutcome, IsLooseImport, Tight}
use Rattle.rpc_machine.specs.Lists.{from_each, how_many}
use Rattle.rpc_machine.specs.Places.{named_by_reference, named_by_embargo, named_by_promise, named_by_outcome, named_by_question, named_by_import, named_by_export, named_by_answer, names}
pub use Rattle.rpc_machine_examples.specs.Given.{m, null}
use Rattle.rpc_machine.specs.Settling.{NoneLeft}
use Rattle.rpc_machine.specs.Steps.{staying_up, Ends}
use Rattle.rpc_machine.specs.Sweeping.{IsToFinish, Over, FinishesEach, release_each, Sweeps}

abbrev pub look : {X : Type 0} → ℕ → List (ℕ × X) → Option X
look k es = entries.find nat_cmp k es

pub found : {X : Type 0} (es : List (ℕ × X)) (k : ℕ) → map.get (m es) k ≡ look k es
found es k = map.get-from_entries nat_cmp_total es k

abbrev pub AtEach : {X : Type 0} → (ℕ → Option X → Type 0) → List (ℕ × X) → Type 0
AtEach P [] = Unit {0}
AtEach P (e ∷ es) = P e.0 (Some e.1) × AtEach P es

pub tied : (k j : ℕ) → eq_by_cmp nat_cmp k j ≡ true → j ≡ k
tied k j e = grind (arith)

look_each : {X : Type 0} (P : ℕ → Option X → Type 0) (es : List (ℕ × X)) → ((k : ℕ) → P k None) → AtEach P es → (k : ℕ) → P k (look k es)
look_each P [] none each k = none k
look_each {X} P (e ∷ es) none each k =
    elim (eq_by_cmp nat_cmp k e.0) as (λ b. eq_by_cmp nat_cmp k e.0 ≡ b → P k (cond b (Some e.1) (look k es))) [
      | true ↦ λ t. subst (λ j. P j (Some e.1)) (tied k e.0 t) each.0
      | false ↦ λ t. look_each P es none each.1 k
    ] refl

-- What holds of nothing and of each entry holds at each key.
pub at_each : {X : Type 0} (P : ℕ → Option X → Type 0) (es : List (ℕ × X)) → ((k : ℕ) → P k None) → AtEach P es → (k : ℕ) → P k (map.get (m es) k)
at_each P es none each k = subst (P k) (sym (found es k)) (look_each P es none each k)

no_length : {A : Type 0} (es : List A) → length es ≡ 0 → es ≡ []
no_length [] e = refl
no_length (x ∷ es) e = absurd (omega arith)

pub entries_empty : {X : Type 0} → map.entries (map.empty {X = X} {R = nat_cmp}) ≡ []
entries_empty {X} = no_length _ (sym (map.len-entries _) ∙ map.len-empty nat_cmp X)

abbrev pub puts : {X : Type 0} → List (ℕ × X) → List (ℕ × X)
puts [] = []
puts (e ∷ es) = entries.put nat_cmp e.0 e.1 (puts es)

-- The entries in the order of their keys.
pub entries_of : {X : Type 0} (es : List (ℕ × X)) → map.entries (m es) ≡ puts es
entries_of [] = entries_empty
entries_of (e ∷ es) = map.entries-insert nat_cmp_total (m es) e.0 e.1 ∙ ap (entries.put nat_cmp e.0 e.1) (entries_of es)

abbrev pub progress : State → Effects → Progress
progress s x = record { state = s; effects = x; arisen = []; released = map.empty }

abbrev pub NothingOver : State → Type 0
NothingOver s = (q : ℕ) → ¬ (IsToFinish s q (map.get s.questions q))

-- Nothing goes at the end of this step.
pub quiet_end : (s : State) (x : Effects) → IsTight s → NothingOver s → Sweeps (progress s x) (progress s x)
quiet_end s x tight over =
    let d : Progress = progress s x in
    (map.empty, Over {d = d} tight over, (d, subst (λ xs. FinishesEach d xs d) (sym entries_empty) refl, (d, Tight tight, subst (λ xs. d ≡ record (release_each d xs) { released = map.empty }) (sym entries_empty) refl)))

pub follow_stop : (s : State) (k : ℕ) (n : Node) → next s n ≡ n → follow s k n ≡ n
follow_stop s zero n e = refl
follow_stop s (suc k) n e = ap (follow s k) e ∙ follow_stop s k n e

-- A node with no link settles to itself.
pub settles_here : (s : State) (n : Node) → next s n ≡ n → settle s n ≡ n
settles_here s n e = follow_stop s (links s) n e

pub settles_next : (s : State) (n to : Node) (k : ℕ) → links s ≡ suc k → next s n ≡ to → next s to ≡ to → settle s n ≡ to
settles_next s n to k l e f = ap (λ j. follow s j n) l ∙ ap (follow s k) e ∙ follow_stop s k to f

-- Nothing is loose, by the entries.
pub tight_of : (s : State) (ps : List (ℕ × Promise)) (os : List (ℕ × KeptOutcome)) (ims : List (ℕ × Import)) → s.promises ≡ m ps → s.outcomes ≡ m os → s.imports ≡ m ims → AtEach (λ j x. ¬ (IsLoosePromise s j x)) ps → AtEach (λ j x. ¬ (IsLooseOutcome s j x)) os → AtEach (λ j x. ¬ (IsLooseImport s j x)) ims → IsTight s
tight_of s ps os ims p o i a b c = record {
  promises = λ k. subst (λ x. ¬ (IsLoosePromise s k (map.get x k))) (sym p) (at_each (λ j x. ¬ (IsLoosePromise s j x)) ps (λ j h. h) a k);
  outcomes = λ k. subst (λ x. ¬ (IsLooseOutcome s k (map.get x k))) (sym o) (at_each (λ j x. ¬ (IsLooseOutcome s j x)) os (λ j h. h) b k);
  imports = λ k. subst (λ x. ¬ (IsLooseImport s k (map.get x k))) (sym i) (at_each (λ j x. ¬ (IsLooseImport s j x)) ims (λ j h. h) c k);
}

-- How many places name a node, by the entries.
pub names_of : (s : State) (rs : List (ℕ × Reference)) (bs : List (ℕ × Embargo)) (ps : List (ℕ × Promise)) (os : List (ℕ × KeptOutcome)) (qs : List (ℕ × Question)) (ims : List (ℕ × Import)) (es : List (ℕ × Export)) (ans : List (ℕ × AnswerEntry)) → s.refs ≡ m rs → s.embargoes ≡ m bs → s.promises ≡ m ps → s.outcomes ≡ m os → s.questions ≡ m qs → s.imports ≡ m ims → s.exports ≡ m es → s.answers ≡ m ans → (test : Node → Bool) → names s test ≡ how_many test (from_each named_by_reference (puts rs) ++ from_each named_by_embargo (puts bs) ++ from_each named_by_promise (puts ps) ++ from_each named_by_outcome (puts os) ++ from_each named_by_question (puts qs) ++ from_each named_by_import (puts ims) ++ from_each named_by_export (puts es) ++ from_each named_by_answer (puts ans))
names_of s rs bs ps os qs ims es ans e1 e2 e3 e4 e5 e6 e7 e8 test =
    rw (e1, e2, e3, e4, e5, e6, e7, e8, entries_of rs, entries_of bs, entries_of ps, entries_of os, entries_of qs, entries_of ims, entries_of es, entries_of ans) refl

-- So such a step ends as it stands.
pub quiet_ends : (s : State) (x : Effects) → IsTight s → NothingOver s → Ends (progress s x) (staying_up x) s
quiet_ends s x tight over =
    record { drained = progress s x; swept = progress s x; drains = NoneLeft refl; sweeps = quiet_end s x tight over; effects_are = refl; new_is = refl }

-- How many links there are, by the entries.
pub links_of_entries : (s : State) (ps : List (ℕ × Promise)) (os : List (ℕ × KeptOutcome)) → s.promises ≡ m ps → s.outcomes ≡ m os → links s ≡ 1 + (length (puts ps) + all_links (puts os))
links_of_entries s ps os p o = rw (p, o, map.len-entries (m ps), entries_of ps, entries_of os) refl

-- The only entry is removed.
pub gone : {X : Type 0} (k : ℕ) (x : X) → map.remove (m ((k, x) ∷ [])) k ≡ m []
gone k x = map.same_map nat_cmp_total map.nat_cmp-IsAntisymmetric _ _ (λ q. map.get-remove nat_cmp_total (m ((k, x) ∷ [])) k q ∙ ap (cond (eq_by_cmp nat_cmp q k) None) (found ((k, x) ∷ []) q) ∙ twice (eq_by_cmp nat_cmp q k) x ∙ sym (found [] q))
  where
    twice : {X : Type 0} (b : Bool) (x : X) → cond b None (cond b (Some x) None) ≡ None
    twice true x = refl
    twice false x = refl
