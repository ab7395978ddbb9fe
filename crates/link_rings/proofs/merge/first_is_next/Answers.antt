use Rattle.std.proofs.Common.{◌≡◌, ◌≤◌, drop, length, ◌+◌, arith, sym, ◌∙◌}
use Rattle.std.proofs.lemmas.List.{length-drop}
use Rattle.link_rings.specs.Gather.{waits}
use Rattle.laws_merge.proofs.Merging.{takes_first_alone, takes_first_both, drop_at}
use Rattle.link_rings.proofs.merge.first_is_next.Goals as goal

pub returns-then-j-second-clause-answer : goal.returns-then-j-second-clause-answer
returns-then-j-second-clause-answer g c =
    let is : c.args.j ≡ length c.args.second.now = c.if-j-second.true in
    let within : c.args.i ≤ length c.args.first.now = c.requires.in_first in
    let not_over : c.args.i ≡ length c.args.first.now → ⊥ = c.if-i-first.false in
    sym (takes_first_alone (waits g.P.Party.input) c.args.made (drop c.args.i c.args.first.now) (drop c.args.j c.args.second.now)
    (omega (arith, length-drop c.args.i c.args.first.now)) (omega (arith, length-drop c.args.j c.args.second.now)))

pub returns-clause-answer : goal.returns-clause-answer
returns-clause-answer g c =
    let in_first : c.args.i ≤ length c.args.first.now = c.requires.in_first in
    let first_goes_on : c.args.i ≡ length c.args.first.now → ⊥ = c.if-i-first.false in
    let in_second : c.args.j ≤ length c.args.second.now = c.requires.in_second in
    let second_goes_on : c.args.j ≡ length c.args.second.now → ⊥ = c.if-j-second.false in
    c.is_ready.ensures
    ∙ sym (takes_first_both (waits g.P.Party.input) c.args.made c.index-first-i.result (drop c.args.i c.args.first.now) (drop (c.args.i + 1) c.args.first.now) (drop c.args.j c.args.second.now)
    (drop_at c.args.first.now c.args.i c.index-first-i.result (omega arith) c.index-first-i.is)
    (omega (arith, length-drop c.args.j c.args.second.now)))
