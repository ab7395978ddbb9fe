use Rattle.std.proofs.Common.{◌≡◌, ℕ, ◌+◌, Bool, true, ◌&&◌, List, [], ◌∷◌, ◌++◌, take, get_or, sym, ap, ◌∙◌, arith}
use Rattle.std.proofs.lemmas.List.{take_more}
use Rattle.std.specs.List.{list_all}
use Rattle.std.specs.FinMap as map
use Rattle.rpc_msg.specs.declared.ids.ExportId.{ExportId}
use Rattle.rpc_machine.specs.Flags.{is_spared, may_lose}
use Rattle.rpc_machine.specs.Progress.{numbers}
use Rattle.core_store.specs.Holding.{state_of}
use Rattle.core_step_collects.proofs.Giving.{all_more, one_fails, stands_passes}
use Rattle.core_step_collects.proofs.flags.each_spared.Goals as goal

pub loop-at-preserved-then-stands_before : goal.loop-at-preserved-then-stands_before
loop-at-preserved-then-stands_before c =
    let s = state_of c.args.store.now in
    let xs : List ExportId = c.args.ids.now in
    let i = c.loop-at.at in
    let none : ExportId = record { 0 = 0 } in
    let x : ExportId = get_or xs i none in
    let test = is_spared s (numbers xs) in
    let taken : take i xs ++ x ∷ [] ≡ take (i + 1) xs = sym (take_more xs i none c.loop-at-test.true) in
    let stands = c.stands_before.ensures c.if-stands_before.true in
    let passes : test ((get_or xs stands.0 none).0) ≡ true = stands_passes test xs i stands.0 none (omega (arith, c.loop-at-test.true)) stands.1 c.loop-at.invariant in
    ap (λ (ys : List ExportId). list_all test (numbers ys)) (sym taken) ∙ all_more test (take i xs) x ∙ ap (λ (b : Bool). b && test x.0) c.loop-at.invariant
    ∙ ap test (sym stands.2) ∙ passes

pub returns-then-not-may_lose : goal.returns-then-not-may_lose
returns-then-not-may_lose c =
    let s = state_of c.args.store.now in
    let xs : List ExportId = c.args.ids.now in
    let i = c.loop-at.at in
    let none : ExportId = record { 0 = 0 } in
    let x : ExportId = get_or xs i none in
    sym (one_fails (is_spared s (numbers xs)) xs i none c.loop-at-test.true (
    ap (λ (n : ℕ). may_lose s x.0 n (map.get s.imports x.0)) (sym c.times_given.ensures) ∙ sym c.if-not-may_lose.ensures))

pub loop-at-preserved : goal.loop-at-preserved
loop-at-preserved c =
    let s = state_of c.args.store.now in
    let xs : List ExportId = c.args.ids.now in
    let i = c.loop-at.at in
    let none : ExportId = record { 0 = 0 } in
    let x : ExportId = get_or xs i none in
    let test = is_spared s (numbers xs) in
    let taken : take i xs ++ x ∷ [] ≡ take (i + 1) xs = sym (take_more xs i none c.loop-at-test.true) in
    ap (λ (ys : List ExportId). list_all test (numbers ys)) (sym taken) ∙ all_more test (take i xs) x ∙ ap (λ (b : Bool). b && test x.0) c.loop-at.invariant
    ∙ ap (λ (n : ℕ). may_lose s x.0 n (map.get s.imports x.0)) (sym c.times_given.ensures) ∙ sym c.if-not-may_lose.ensures
