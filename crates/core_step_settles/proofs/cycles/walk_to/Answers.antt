use Rattle.std.proofs.Common.{◌≡◌, true, false, None, Option, List, sym, ◌∙◌, rules, arith}
use Rattle.std.proofs.lemmas.Result.{IfOk-weaker}
use Rattle.rpc_msg.specs.Op.{Op}
use Rattle.rpc_machine.specs.Nodes.{link}
use Rattle.core_step_settles.specs.Ends.{WalksTo}
use Rattle.core_store.specs.Holding.{state_of}
use Rattle.core_store.proofs.Walking.{found}
use Rattle.core_step_settles.proofs.Walks.{goes_far, walk_stops, walk_comes}
use Rattle.core_step_settles.proofs.cycles.walk_to.Goals as goal

pub returns-in_default-hop : goal.returns-in_default-hop
returns-in_default-hop c =
    let off : c.loop-there.there ≡ false = search rules in
    IfOk-weaker c.no_further.result (λ (path : Option (List Op)). (path ≡ None) × (link (state_of c.args.store.now) c.loop-there.walked ≡ None)) (λ (path : Option (List Op)). WalksTo (state_of c.args.store.now) c.args.key c.args.node path)
    (λ path h. walk_stops (state_of c.args.store.now) c.args.key c.args.node c.loop-there.walked path c.loop-there.invariant.walked (sym c.loop-there.invariant.there ∙ off) h) c.no_further.ensures

pub overflow_sub-left : goal.overflow_sub-left
overflow_sub-left c = (found (state_of c.args.store.now) c.loop-there.left c.loop-there.walked c.hop.result c.in-Some.hop c.in-Some.is c.hop.ensures).1

pub loop-there-preserved : goal.loop-there-preserved
loop-there-preserved c =
    let way = found (state_of c.args.store.now) c.loop-there.left c.loop-there.walked c.hop.result c.in-Some.hop c.in-Some.is c.hop.ensures in record {
      there = c.is_in-there-in-loop-there.ensures;
      walked =
          goes_far (state_of c.args.store.now) c.args.key c.args.node (sym c.in-None.ensures) c.in-Some.hop.far c.loop-there.walked c.in-Some.hop.to c.loop-there.invariant.walked way.2;
    }

pub loop-there-smaller : goal.loop-there-smaller
loop-there-smaller c =
    let way = found (state_of c.args.store.now) c.loop-there.left c.loop-there.walked c.hop.result c.in-Some.hop c.in-Some.is c.hop.ensures in
    let some = way.0 in let within = way.1 in omega (arith, some, within)

pub returns : goal.returns
returns c =
    let on : c.loop-there.there ≡ true = search rules in
    walk_comes (state_of c.args.store.now) c.args.key c.args.node c.loop-there.walked c.path_in.result c.loop-there.invariant.walked (sym c.loop-there.invariant.there ∙ on) c.path_in.ensures
