use Rattle.std.proofs.Common.{List, [], ◌∷◌, length, length-append, ap, arith}
use Rattle.rpc_machine.specs.declared.node.Node.{Node}
use Rattle.core_store.specs.Holding.{state_of}
use Rattle.core_step_sweeps.proofs.Thoughts.{thought_next, thought_done, work_next}
use Rattle.core_step_sweeps.proofs.over.think.Goals as goal

pub thinking-preserved : goal.thinking-preserved
thinking-preserved c = record {
  thought = c.in_ok-consider.ensures.thought [] (thought_next (state_of c.args.store.now) c.thinking.thought c.next.new.self c.in-Some.node c.in-Some.ensures.items c.in-Some.ensures.same c.thinking.invariant.thought);
  none = λ start.
      let a = ap (λ (ns : List Node). length ns) (c.thinking.invariant.none start) in
      let b = ap (λ (ns : List Node). length ns) c.in-Some.ensures.items in
      let d = length-append c.next.new.self.pending.items (c.in-Some.node ∷ []) in
      absurd (omega (arith, a, b, d));
}

pub thinking-smaller : goal.thinking-smaller
thinking-smaller c =
    let s = state_of c.args.store.now in
    let a = c.in_ok-consider.ensures.less_work (thought_next s c.thinking.thought c.next.new.self c.in-Some.node c.in-Some.ensures.items c.in-Some.ensures.same c.thinking.invariant.thought) in
    let b = work_next s c.thinking.thought c.next.new.self c.in-Some.node c.in-Some.ensures.items c.in-Some.ensures.same in
    omega (arith, a, b)

pub returns-clause-thought : goal.returns-clause-thought
returns-clause-thought c =
    thought_done (state_of c.args.store.now) c.thinking.thought c.next.new.self c.in_default.ensures.none c.in_default.ensures.same c.thinking.invariant.thought
