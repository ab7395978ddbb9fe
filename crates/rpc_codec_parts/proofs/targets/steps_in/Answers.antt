use Rattle.std.proofs.Common.{◌+◌, ◌∙◌, refl, ap, arith}
use Rattle.rpc_msg.specs.Op.TheVariants.{Noop}
use Rattle.capn_trees.specs.Views.{fields_view, structs_of}
use Rattle.rpc_codec_parts.specs.Targets.{step_of}
use Rattle.rpc_codec_parts.proofs.Lists.{made_more, made_all}
use Rattle.rpc_codec_parts.proofs.targets.steps_in.Goals as goal

pub loop-op-preserved : goal.loop-op-preserved
loop-op-preserved c = record {
  same = made_more step_of fields_view c.push_reserved.new.self.items c.loop-op.steps.items c.args.path.now c.loop-op.op-index Noop c.make_fields.result c.push_reserved.ensures.items c.loop-op-test.true (rw (c.make_fields.ensures, c.in_ok-words.ensures.items, c.new.ensures, c.word_of_op.ensures) refl) c.loop-op.invariant.same;
  count = c.push_reserved.ensures.len ∙ ap (λ n. n + 1) c.loop-op.invariant.count;
  room = c.push_reserved.ensures.capacity ∙ c.loop-op.invariant.room;
}

pub push_reserved-requires : goal.push_reserved-requires
push_reserved-requires c =
    let count = c.loop-op.invariant.count in
    let room = c.loop-op.invariant.room in
    let test = c.loop-op-test.true in
    omega (arith, count, room, test)

pub returns : goal.returns
returns c = ap structs_of (made_all step_of fields_view c.loop-op.steps.items c.args.path.now c.loop-op.op-index c.loop-op-test.false c.loop-op.invariant.same)
