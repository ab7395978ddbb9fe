use Rattle.std.proofs.Common.{◌-◌, ◌∙◌, sym, subst, ap, arith}
use Rattle.rpc_machine.specs.Nodes.{link}
use Rattle.core_waits.specs.Waiting.{Waiting}
use Rattle.core_waits.specs.Links.{Leads}
use Rattle.core_store.specs.declared.store.Store.{Store}
use Rattle.core_store.specs.Holding.{state_of}
use Rattle.core_store.proofs.Walking.{found, leads_rest}
use Rattle.core_store.proofs.walk.shorten_each.Goals as goal

pub shorten-requires-clause-way : goal.shorten-requires-clause-way
shorten-requires-clause-way c =
    subst (λ (x : Store). Leads (link (state_of x)) c.loop-left.left c.loop-left.at c.args.way.now.to) (sym c.loop-left.invariant.same) c.loop-left.invariant.rest

pub loop-left-preserved : goal.loop-left-preserved
loop-left-preserved c =
    let x : Store = c.loop-left.store in
    let start : Store = c.args.store.now in
    let before = c.loop-left.invariant in
    let left = c.loop-left.left in
    let at = c.loop-left.at in
    let hop = c.in-Some.hop in
    let way = found (state_of x) left at c.hop.result hop c.in-Some.is c.hop.ensures in
    let within = way.1 in record {
      same = ap (λ (w : Waiting). record x { waits = w }) c.shorten.ensures ∙ before.same;
      rest =
          leads_rest (link (state_of start)) hop.far (left - hop.far) at hop.to c.args.way.now.to
          (subst (λ (y : Store). Leads (link (state_of y)) hop.far at hop.to) before.same way.2) left (omega (arith, within)) before.rest;
    }
