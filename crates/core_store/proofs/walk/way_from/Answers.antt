use Rattle.std.proofs.Common.{◌-◌, ◌+◌, refl, arith}
use Rattle.rpc_machine.specs.Nodes.{link}
use Rattle.core_store.specs.Holding.{state_of}
use Rattle.core_store.proofs.Walking.{found, leads_further, settles_at}
use Rattle.core_store.proofs.walk.way_from.Goals as goal

pub loop-next-preserved : goal.loop-next-preserved
loop-next-preserved c =
    let s = state_of c.args.store.now in
    let before = c.loop-next.invariant in
    let way = found s (c.args.store.now.links - c.loop-next.far) c.loop-next.at c.loop-next.next c.in-Some.hop c.in-Some.is before.next in
    let within = before.within in
    let short = way.1 in record {
      next = c.hop-next-in-Some.ensures;
      way = leads_further (link s) c.loop-next.far c.in-Some.hop.far c.args.node c.loop-next.at c.in-Some.hop.to before.way way.2 (c.loop-next.far + c.in-Some.hop.far) refl;
      within = omega (arith, within, short);
    }

pub returns-clause-end : goal.returns-clause-end
returns-clause-end c =
    let s = state_of c.args.store.now in
    let before = c.loop-next.invariant in
    let within = before.within in
    let all = c.requires.far in
    settles_at s c.loop-next.far (c.args.store.now.links - c.loop-next.far) c.args.node c.loop-next.at c.loop-next.next before.way (omega (arith, within, all)) c.in_default.is before.next
