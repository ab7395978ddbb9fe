use Rattle.std.proofs.Common.{◌≡◌, ℕ, true, List, count_by, take, sym, subst, ◌∙◌}
use Rattle.rpc_machine.specs.declared.node.Node.{Node}
use Rattle.vat_tables.specs.Exports.{node_eq, is_name_limit, added, Passes}
use Rattle.vat_tables.proofs.Foreseeing.{foresee_next, foresee_met}
use Rattle.vat_tables.proofs.exports.Exports.meets_limit.Goals as goal

pub returns-in_default : goal.returns-in_default
returns-in_default c = λ counts tells.
    let xs : List Node = c.args.nodes.now in
    let i = c.loop-at.at in
    let x : Node = c.index-nodes-at.result in
    let before : c.times_among-before.result ≡ count_by (λ n. node_eq n x) (take i xs) = c.times_among-before.ensures in
    let met = subst (λ (b : ℕ). is_name_limit c.loop-at.size (added (counts x) b) ≡ true) before (c.in_default.ensures.limit (counts x) (tells x)) in
    sym (c.loop-at.invariant.ahead counts tells ∙ foresee_met c.loop-at.size counts xs i x c.loop-at-test.true c.index-nodes-at.is met)

pub loop-at-preserved : goal.loop-at-preserved
loop-at-preserved c = record {
  ahead = λ counts tells.
      let xs : List Node = c.args.nodes.now in
      let i = c.loop-at.at in
      let x : Node = c.index-nodes-at.result in
      let before : c.times_among-before.result ≡ count_by (λ n. node_eq n x) (take i xs) = c.times_among-before.ensures in
      let step = subst (λ (b : ℕ). Passes c.loop-at.size (added (counts x) b) c.in-Some.next) before (c.in-Some.ensures.limit (counts x) (tells x)) in
      c.loop-at.invariant.ahead counts tells ∙ foresee_next c.loop-at.size c.in-Some.next counts xs i x c.loop-at-test.true c.index-nodes-at.is step.0 step.1;
  within = c.in-Some.ensures.within;
}
