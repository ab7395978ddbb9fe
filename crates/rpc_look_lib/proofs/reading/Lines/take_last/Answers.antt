use Rattle.std.proofs.Common.{ℕ, List, subst, ◌∙◌}
use Rattle.rpc_look_lib.specs.Capturing.{scene_of}
use Rattle.rpc_look_lib.specs.Reading.{LineComes}
use Rattle.rpc_look_lib.proofs.reading.Lines.take_last.Goals as goal

pub returns-clause-line : goal.returns-clause-line
returns-clause-line g c =
    subst (λ (line : List ℕ). LineComes c.args.at line (c.args.self.now.log, scene_of c.args.capture.now) (c.take_line-2.new.log, scene_of c.take_line-2.new.capture))
    (c.as_slice.ensures.value ∙ c.in_ok-extend_from_slice.ensures.items) c.in_ok-take_line.ensures
