use Rattle.std.proofs.Common.{suc, sym, ◌∙◌, arith}
use Rattle.core_step_settles.proofs.Walks.{comes_further, finds_none, keeps_on}
use Rattle.core_step_settles.proofs.ends.Ends.end_of.Goals as goal

pub returns-in_default-clause-end : goal.returns-in_default-clause-end
returns-in_default-clause-end c =
    let before = c.loop-found.invariant in
    finds_none (suc c.args.at) c.args.self.now c.loop-found.self c.args.index c.loop-found.found before.comes before.known (omega (arith, c.loop-found-test.true)) (sym c.shorten.ensures.end ∙ c.in_default.is)

pub returns-in_default-clause-known : goal.returns-in_default-clause-known
returns-in_default-clause-known c = keeps_on (suc c.args.at) c.args.self.now c.loop-found.self c.shorten.new.self c.loop-found.invariant.known c.shorten.ensures.known

pub loop-found-preserved : goal.loop-found-preserved
loop-found-preserved c =
    let before = c.loop-found.invariant in record {
      comes =
          comes_further (suc c.args.at) c.args.self.now c.loop-found.self c.args.index c.loop-found.found before.comes c.in-Some.further before.known (omega (arith, c.loop-found-test.true))
          (sym c.shorten.ensures.end ∙ c.in-Some.is);
      known = keeps_on (suc c.args.at) c.args.self.now c.loop-found.self c.shorten.new.self before.known c.shorten.ensures.known;
      falls = c.shorten.ensures.falls;
    }
