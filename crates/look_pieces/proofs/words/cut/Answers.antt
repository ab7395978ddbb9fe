use Rattle.std.proofs.Common.{◌≡◌, ◌-◌, ◌+◌, ◌≤◌, ◌==◌, ℕ, Bool, List, length, take, drop, Option, Some, None, cond, nat_lt, sym, ap, ◌∙◌, length-drop, arith}
use Rattle.std.specs.List.{position_or_len}
use Rattle.std.proofs.lemmas.Bool.Decides.{nat_tests}
use Rattle.std.proofs.lemmas.List.{take_all, drop_all}
use Rattle.look_pieces.specs.Words.{before, behind}
use Rattle.look_pieces.proofs.words.cut.Goals as goal

found : (n len at : ℕ) → cond (nat_lt n len) (Some n) None ≡ Some at → n ≡ at
found n len at e = grind (arith, nat_tests)

missing : (n len : ℕ) → ◌≡◌ {A = Option ℕ} (cond (nat_lt n len) (Some n) None) None → len ≤ n
missing n len e = grind (arith, nat_tests)

at_first : (p : ℕ → Bool) (text : List ℕ) (at : ℕ) → cond (nat_lt (position_or_len p text) (length text)) (Some (position_or_len p text)) None ≡ Some at
    → at ≡ position_or_len p text
at_first p text at e = sym (found (position_or_len p text) (length text) at e)

pub returns-in-Some-clause-before : goal.returns-in-Some-clause-before
unfolding before
returns-in-Some-clause-before c =
    let is : ℕ → Bool = λ b. b == c.args.mark in
    ap (λ (n : ℕ). take n c.args.text.now) (at_first is c.args.text.now c.in-Some.at (sym c.place_of.ensures.first ∙ c.in-Some.is))

pub returns-in-Some-clause-behind : goal.returns-in-Some-clause-behind
unfolding behind
returns-in-Some-clause-behind c =
    let is : ℕ → Bool = λ b. b == c.args.mark in
    let rest = length-drop (c.in-Some.at + 1) c.args.text.now in
    take_all (length c.args.text.now - (c.in-Some.at + 1)) (drop (c.in-Some.at + 1) c.args.text.now) (omega arith)
    ∙ ap (λ (n : ℕ). drop (n + 1) c.args.text.now) (at_first is c.args.text.now c.in-Some.at (sym c.place_of.ensures.first ∙ c.in-Some.is))

pub returns-in-None-clause-before : goal.returns-in-None-clause-before
unfolding before
returns-in-None-clause-before c =
    let is : ℕ → Bool = λ b. b == c.args.mark in
    let le = missing (position_or_len is c.args.text.now) (length c.args.text.now) (sym c.place_of.ensures.first ∙ c.in-None.is) in
    sym (take_all (position_or_len is c.args.text.now) c.args.text.now le)

pub returns-in-None-clause-behind : goal.returns-in-None-clause-behind
unfolding behind
returns-in-None-clause-behind c =
    let is : ℕ → Bool = λ b. b == c.args.mark in
    let le = missing (position_or_len is c.args.text.now) (length c.args.text.now) (sym c.place_of.ensures.first ∙ c.in-None.is) in
    sym (drop_all (position_or_len is c.args.text.now + 1) c.args.text.now (omega arith))
