-- What is left of the counts of exports, where one more is given back.
use Rattle.std.proofs.Common.{◌≡◌, ℕ, ◌+◌, ◌-◌, ◌<◌, Bool, true, false, cond, nat_eq, Option, None, Some, List, length, drop, refl, sym, ap, ◌∙◌, arith}
use Rattle.std.specs.FinMap as map
use lib.ListN.{get_or}
use Rattle.std.proofs.lemmas.List.{at_drop_more}
use Rattle.rpc_msg.specs.declared.ids.ExportId.{ExportId}
use Rattle.rpc_journal.specs.History.{or_rest}
use Rattle.rpc_machine.specs.Progress.{numbers}
use Rattle.finite_maps.specs.Tally.{Map}
use Rattle.finite_maps.proofs.Tested.{equal}
use Rattle.rpc_machine.specs.declared.entries.Export.{Export}
use Rattle.rpc_machine.specs.State.{State}
use Rattle.rpc_machine.specs.Flags.{lower_by}
use Rattle.core_step_checks.specs.Parts.{fault_of_one, flag_in_turn}
use Rattle.rpc_machine.proofs.Lowering.{lower_by_count}
use Rattle.core_step_messages.specs.declared.remainders.Remaining.{Remaining}
use Rattle.core_step_messages.specs.Foreseen.{left_with, kept_of, left_of, Remains}

-- Where nothing was given back all is left.
pub all_remain : (s : State) (x : Remaining) → ((e : ℕ) → kept_of x e ≡ None) → Remains s s.exports x
all_remain s x none e = sym (ap (λ o. left_with (map.get s.exports e) o) (none e))

pub one_less : (s : State) (m : Map Export) (x y : Remaining) (k left : ℕ) → Remains s m x → left ≡ left_of s x k - 1
    → ((e : ℕ) → kept_of y e ≡ cond (nat_eq e k) (Some left) (kept_of x e)) → Remains s (lower_by m k 1) y
one_less s m x y k left h is set e =
    lower_by_count m k 1 e ∙ ap (λ n. n - cond (nat_eq e k) 1 0) (h e) ∙ by (nat_eq e k) refl
    ∙ sym (ap (λ o. left_with (map.get s.exports e) o) (set e))
  where
    by : (b : Bool) → nat_eq e k ≡ b → left_of s x e - cond b 1 0 ≡ left_with (map.get s.exports e) (cond b (Some left) (kept_of x e))
    by true t = ap (λ j. left_of s x j - 1) (equal e k t) ∙ sym is
    by false t = omega arith

-- One more id is given back.
pub given_next : (a : Option ℕ) (m : Map Export) (ids : List ExportId) (i : ℕ) (d : ExportId) → i < length ids
    → None ≡ fault_of_one m (get_or ids i d).0 → a ≡ flag_in_turn m (numbers (drop i ids))
    → a ≡ flag_in_turn (lower_by m (get_or ids i d).0 1) (numbers (drop (i + 1) ids))
given_next a m ids i d within none is =
    is ∙ at_drop_more (λ js. flag_in_turn m (numbers js)) ids i d within
    ∙ ap (λ f. or_rest f (flag_in_turn (lower_by m (get_or ids i d).0 1) (numbers (drop (i + 1) ids)))) (sym none)
