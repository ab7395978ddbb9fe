use Rattle.std.proofs.Common.{◌≡◌, ◌-◌, ◌+◌, ◌≤◌, ℕ, List, length, take, drop, Option, Some, None, cond, nat_lt, sym, ap, ◌∙◌, length-drop, arith}
use Rattle.std.specs.List.{position_or_len}
use Rattle.std.proofs.lemmas.Bool.Decides.{nat_tests}
use Rattle.std.proofs.lemmas.List.{take_all, drop_all}
use Rattle.rpc_dump_lib.specs.Conversations.{is_newline}
use Rattle.rpc_dump_lib.proofs.hexadecimal.split_line.Goals as goal

found : (n len at : ℕ) → cond (nat_lt n len) (Some n) None ≡ Some at → n ≡ at
found n len at e = grind (arith, nat_tests)

missing : (n len : ℕ) → ◌≡◌ {A = Option ℕ} (cond (nat_lt n len) (Some n) None) None → len ≤ n
missing n len e = grind (arith, nat_tests)

at_first : (input : List ℕ) (at : ℕ) → cond (nat_lt (position_or_len is_newline input) (length input)) (Some (position_or_len is_newline input)) None ≡ Some at
    → at ≡ position_or_len is_newline input
at_first input at e = sym (found (position_or_len is_newline input) (length input) at e)

pub returns-in-Some-clause-line : goal.returns-in-Some-clause-line
returns-in-Some-clause-line c =
    ap (λ (n : ℕ). take n c.args.input.now) (at_first c.args.input.now c.in-Some.at (sym c.newline_in.ensures.first ∙ c.in-Some.is))

pub returns-in-Some-clause-left : goal.returns-in-Some-clause-left
returns-in-Some-clause-left c =
    let rest = length-drop (c.in-Some.at + 1) c.args.input.now in
    take_all (length c.args.input.now - (c.in-Some.at + 1)) (drop (c.in-Some.at + 1) c.args.input.now) (omega arith)
    ∙ ap (λ (n : ℕ). drop (n + 1) c.args.input.now) (at_first c.args.input.now c.in-Some.at (sym c.newline_in.ensures.first ∙ c.in-Some.is))

pub returns-in-None-clause-line : goal.returns-in-None-clause-line
returns-in-None-clause-line c =
    let le = missing (position_or_len is_newline c.args.input.now) (length c.args.input.now) (sym c.newline_in.ensures.first ∙ c.in-None.is) in
    sym (take_all (position_or_len is_newline c.args.input.now) c.args.input.now le)

pub returns-in-None-clause-left : goal.returns-in-None-clause-left
returns-in-None-clause-left c =
    let le = missing (position_or_len is_newline c.args.input.now) (length c.args.input.now) (sym c.newline_in.ensures.first ∙ c.in-None.is) in
    sym (drop_all (position_or_len is_newline c.args.input.now + 1) c.args.input.now (omega arith))
