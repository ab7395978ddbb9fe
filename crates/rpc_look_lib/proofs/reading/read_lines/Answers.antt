use Rattle.std.proofs.Common.{◌≡◌, ℕ, List, [], take, Ok, refl, sym, ap, ◌∙◌, arith}
use Rattle.rpc_look_lib.specs.Capturing.{scene_of}
use Rattle.rpc_look_lib.proofs.Logs.{log_start, begun_more, begun_done, begun_ends, on_ok_both}
use Rattle.rpc_look_lib.proofs.reading.read_lines.Goals as goal

pub returns-then-is_done : goal.returns-then-is_done
returns-then-is_done g c =
    begun_done c.args.at (g.R.Read.remaining c.args.reader.now) (g.R.Read.remaining c.reads.reader) (log_start, scene_of c.args.capture.now) c.reads.lines.begun.items (c.reads.lines.log, scene_of c.reads.capture) c.reads.invariant
    (sym c.is_done.ensures ∙ c.if-is_done.true) refl

pub returns-then-count-eq0 : goal.returns-then-count-eq0
returns-then-count-eq0 g c =
    let none : take c.in_ok-count.count c.read_some.new.room ≡ [] = ap (λ (n : ℕ). take n c.read_some.new.room) c.if-count-eq0.true in
    on_ok_both c.end.result
    (begun_ends c.args.at (g.R.Read.remaining c.args.reader.now) (g.R.Read.remaining c.reads.reader) (log_start, scene_of c.args.capture.now) c.reads.lines.begun.items (c.reads.lines.log, scene_of c.reads.capture) c.reads.invariant
    (take c.in_ok-count.count c.read_some.new.room) (g.R.Read.remaining c.read_some.new.reader) c.end.new.self.log (scene_of c.end.new.capture)
    (sym c.is_done.ensures ∙ c.if-is_done.false) refl none c.in_ok-count.ensures.came (c.in_ok-count.ensures.end (omega arith) (ap Ok c.if-count-eq0.true)))
    c.end.ensures.last c.end.ensures.whole

pub reads-preserved : goal.reads-preserved
reads-preserved g c =
    begun_more c.args.at (g.R.Read.remaining c.args.reader.now) (g.R.Read.remaining c.reads.reader) (log_start, scene_of c.args.capture.now) c.reads.lines.begun.items (c.reads.lines.log, scene_of c.reads.capture) c.reads.invariant
    (take c.in_ok-count.count c.read_some.new.room) c.take_part.new.self.begun.items (g.R.Read.remaining c.read_some.new.reader) (c.take_part.new.self.log, scene_of c.take_part.new.capture)
    (sym c.is_done.ensures ∙ c.if-is_done.false) c.in_ok-count.ensures.came c.in_ok-take_part.ensures
