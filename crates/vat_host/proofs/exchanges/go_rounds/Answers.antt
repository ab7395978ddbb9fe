use Rattle.std.proofs.Common.{◌∙◌, ◌-◌, arith, sym}
use Rattle.vat_host.proofs.Going.{one_round, all_quiet, none_more}
use Rattle.vat_host.proofs.exchanges.go_rounds.Goals as goal

pub loop-left-preserved : goal.loop-left-preserved
loop-left-preserved c =
    λ x y rest. c.loop-left.invariant x y
    (one_round c.loop-left.left (c.loop-left.left - 1) c.loop-left.a c.loop-left.b c.carry.new.from c.carry.new.to c.carry-in-loop-left.new.to c.carry-in-loop-left.new.from
    (omega (arith, c.loop-left-test.true)) c.carry.ensures c.carry-in-loop-left.ensures x y rest)

pub returns-then-are_quiet : goal.returns-then-are_quiet
returns-then-are_quiet c = c.loop-left.invariant c.loop-left.a c.loop-left.b (all_quiet c.loop-left.left c.loop-left.a c.loop-left.b (sym c.are_quiet.ensures ∙ c.if-are_quiet.true))

pub returns : goal.returns
returns c = c.loop-left.invariant c.loop-left.a c.loop-left.b (none_more c.loop-left.left c.loop-left.a c.loop-left.b (omega (arith, c.loop-left-test.false)))
