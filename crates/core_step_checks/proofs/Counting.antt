-- How often nodes are counted that go out one after the other.
use Rattle.std.proofs.Common.{◌≡◌, ◌≤◌, ℕ, ◌+◌, Bool, true, false, cond, if◌then◌else◌, List, [], ◌∷◌, ◌++◌, Option, None, Some, MatchOption, unwrap_or, refl, sym, ap, subst, ◌∙◌, arith}
use Rattle.std.proofs.lemmas.List.{append-nil}
use Rattle.std.specs.HashMap.{get, Updates, IsEmpty}
use Rattle.std.specs.Map.{lookup}
use Rattle.rpc_machine.specs.declared.node.Node.{Node}
use Rattle.rpc_machine.specs.State.{State}
use Rattle.rpc_machine.specs.Fullness.{count_of}
use Rattle.vat_tables.specs.Exports.{node_eq, is_name_limit, added, Passes}
use Rattle.vat_tables.proofs.NodeKeys.{node_same}
use Rattle.core_step_checks.specs.Sending.{times_among, Leaves}
use Rattle.core_step_checks.specs.Counted.{times_of, Counts}
use Rattle.core_step_checks.specs.declared.times.Times.{Times}
use Rattle.core_step_checks.proofs.Outgoing.{times_more, sent_as, leaves_none, leaves_some}

pub none_counted : (t : Times) → IsEmpty t.by_node → (n : Node) → times_of t n ≡ 0
none_counted t is n = ap (λ (es : List (Node × ℕ)). unwrap_or (lookup (node_eq n) es) 0) is

pub once_more : (t u : Times) (node : Node) (more : ℕ) → Updates node_eq t.by_node u.by_node node (Some more) → more ≡ times_of t node + 1
    → (n : Node) → times_of u n ≡ times_of t n + (if node_eq node n then 1 else 0)
once_more t u node more is more_is n = ap (λ (o : Option ℕ). unwrap_or o 0) (is.0 n) ∙ by (node_eq node n) refl
  where
    by : (b : Bool) → node_eq node n ≡ b → unwrap_or (cond b (Some more) (get node_eq t.by_node n)) 0 ≡ times_of t n + (if b then 1 else 0)
    by true e = more_is ∙ ap (λ (m : Node). times_of t m + 1) (node_same node n e)
    by false e = omega arith

pub counts_same : (t : Times) (before more : List Node) → more ≡ [] → Counts t before → Counts t (before ++ more)
counts_same t before more is h = subst (λ (ms : List Node). Counts t (before ++ ms)) (sym is) (subst (λ (ns : List Node). Counts t ns) (sym (append-nil before)) h)

pub counts_more : (t u : Times) (before more : List Node) (node : Node) → more ≡ node ∷ [] → ((n : Node) → times_of u n ≡ times_of t n + (if node_eq node n then 1 else 0))
    → Counts t before → Counts u (before ++ more)
counts_more t u before more node is counted h = λ n e.
    counted n ∙ ap (λ (k : ℕ). k + (if node_eq node n then 1 else 0)) (h n e)
    ∙ ap (λ (k : ℕ). times_among n before + k) (sym (sent_as n node (node_eq node n) (node ∷ []) refl e refl))
    ∙ sym (times_more n before (node ∷ [])) ∙ ap (λ (ms : List Node). times_among n (before ++ ms)) (sym is)

pub leaves_counted : (s : State) (before more : List Node) (n : Node) (size times : ℕ) (found : Option ℕ) → more ≡ n ∷ [] → size ≤ 4096 → times ≡ times_among n before
    → MatchOption found (is_name_limit size (added (count_of s n) times) ≡ true) (λ next. Passes size (added (count_of s n) times) next) → Leaves s before more size found
leaves_counted s before more n size times None is small seen limit =
    leaves_none s before n size small more is (subst (λ (k : ℕ). is_name_limit size (added (count_of s n) k) ≡ true) seen limit)
leaves_counted s before more n size times (Some next) is small seen limit =
    leaves_some s before n size small more next is (subst (λ (k : ℕ). Passes size (added (count_of s n) k) next) seen limit)
