use Rattle.std.proofs.Common.{◌+◌, ◌∙◌, ap, arith}
use Rattle.capn_trees.specs.Views.{fields_view, structs_of}
use Rattle.rpc_codec_parts.specs.Descriptors.{row_of}
use Rattle.rpc_codec_parts.proofs.Lists.{made_more, made_all}
use Rattle.rpc_codec_parts.proofs.descriptors.rows_in.Goals as goal

pub loop-descriptor-preserved : goal.loop-descriptor-preserved
loop-descriptor-preserved c = record {
  same = made_more row_of fields_view c.push_reserved.new.self.items c.loop-descriptor.rows.items c.args.descriptors.now c.loop-descriptor.descriptor-index c.descriptor-item.result c.in_ok-row_of.field-0 c.push_reserved.ensures.items c.loop-descriptor-test.true (c.in_ok-row_of.ensures ∙ ap row_of c.descriptor-item.is) c.loop-descriptor.invariant.same;
  count = c.push_reserved.ensures.len ∙ ap (λ n. n + 1) c.loop-descriptor.invariant.count;
  room = c.push_reserved.ensures.capacity ∙ c.loop-descriptor.invariant.room;
}

pub push_reserved-requires : goal.push_reserved-requires
push_reserved-requires c =
    let count = c.loop-descriptor.invariant.count in
    let room = c.loop-descriptor.invariant.room in
    let test = c.loop-descriptor-test.true in
    omega (arith, count, room, test)

pub returns : goal.returns
returns c = ap structs_of (made_all row_of fields_view c.loop-descriptor.rows.items c.args.descriptors.now c.loop-descriptor.descriptor-index c.loop-descriptor-test.false c.loop-descriptor.invariant.same)
