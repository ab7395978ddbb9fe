use Rattle.std.proofs.Common.{ℕ, ◌<◌, ◌≤◌, List, length, Ok, subst, length-drop, arith}
use Rattle.rpc_look_lib.specs.Streams.{Gives}
use Rattle.rpc_look_lib.proofs.Pieces.{all_behind}
use Rattle.rpc_look_lib.proofs.Orders.{cut_given}
use Rattle.rpc_look_lib.proofs.weaving.cut_frames.Goals as goal

pub bytes-preserved : goal.bytes-preserved
bytes-preserved g c =
    let behind = all_behind c.bytes.from c.args.bytes.now in
    let size = length-drop c.bytes.from c.args.bytes.now in
    let before = c.bytes.invariant.within in
    let few = subst (λ (part : List ℕ). (0 < c.in-Ok.field-0.count) × (c.in-Ok.field-0.count ≤ length part)) behind c.in-Ok.ensures.within in
    let less = few.1 in
    let gives = subst (λ (part : List ℕ). Gives c.bytes.stream part (Ok c.in-Ok.field-0) c.give.new.self) behind c.in-Ok.ensures.gives in
    record {
      within = omega arith;
      same = c.bytes.invariant.same;
      cut = cut_given c.args.bytes.now c.bytes.frames.items c.keep_frame.new.frames.items c.bytes.stream c.give.new.self c.bytes.from c.in-Ok.field-0 c.bytes.invariant.cut gives
          c.in_ok-keep_frame-in-Ok.ensures.whole c.in_ok-keep_frame-in-Ok.ensures.kept;
    }
