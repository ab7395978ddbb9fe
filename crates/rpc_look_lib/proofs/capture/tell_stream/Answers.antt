use Rattle.std.proofs.Common.{◌≡◌, ℕ, ◌<◌, ◌≤◌, List, length, drop, Option, Some, IfSome, sym, subst, ◌∙◌, length-drop, arith}
use Rattle.rpc_look_lib.specs.Talking.{stand_of}
use Rattle.rpc_look_lib.specs.Capturing.{PartComes}
use Rattle.rpc_look_lib.proofs.Pieces.{all_behind, midway_more}
use Rattle.rpc_look_lib.proofs.capture.tell_stream.Goals as goal

pub parts-preserved : goal.parts-preserved
parts-preserved g c =
    let behind = all_behind c.parts.from c.args.bytes.now in
    let old = stand_of c.parts.talk in
    let new = stand_of c.tell_part.new.talk in
    let within = subst (λ (o : Option ℕ). IfSome o (λ n. (0 < n) × (n ≤ length (drop c.parts.from c.args.bytes.now)))) c.in-Some.is
    (subst (λ (part : List ℕ). IfSome c.in_ok-taken.field-0 (λ n. (0 < n) × (n ≤ length part))) behind c.in_ok-taken.ensures.within) in
    let few = within.1 in
    let before = c.parts.invariant.within in
    let size = length-drop c.parts.from c.args.bytes.now in
    let comes = subst (λ (o : Option ℕ). PartComes c.args.side c.args.time (drop c.parts.from c.args.bytes.now) c.parts.stream old o c.tell_part.new.stream new) c.in-Some.is
    (subst (λ (part : List ℕ). PartComes c.args.side c.args.time part c.parts.stream old c.in_ok-taken.field-0 c.tell_part.new.stream new) behind c.in_ok-taken.ensures.comes) in
    record {
      within = omega arith;
      midway = midway_more c.args.at c.args.side c.args.time c.args.bytes.now c.args.stream.now (stand_of c.args.talk.now) c.parts.from c.parts.stream old c.parts.invariant.midway
          c.in-Some.taken c.tell_part.new.stream new (sym c.is_done.ensures ∙ c.if-is_done.false) comes;
    }
