use Rattle.std.proofs.Common.{◌≡◌, ◌==◌, ℕ, Bool, true, false, List, length, sym, ap, subst, ◌∙◌}
use Rattle.std.proofs.lemmas.Result.{on_ok_weaker}
use Rattle.rpc_look_lib.specs.Capturing.{scene_of}
use Rattle.rpc_look_lib.proofs.Lines.{last_none, last_some}
use Rattle.rpc_look_lib.proofs.reading.Lines.take_begun.Goals as goal

pub returns-then-is_empty : goal.returns-then-is_empty
returns-then-is_empty g c =
    last_none c.args.at c.args.self.now.begun.items (c.args.self.now.log, scene_of c.args.capture.now)
    (ap (λ (t : List ℕ). length t == 0) (sym c.as_slice.ensures.value) ∙ sym c.is_empty.ensures ∙ c.if-is_empty.true)

pub returns : goal.returns
returns g c =
    on_ok_weaker c.take_last.result
    (last_some c.args.at c.args.self.now.begun.items (c.args.self.now.log, scene_of c.args.capture.now) (c.take_last.new.self.log, scene_of c.take_last.new.capture)
    (ap (λ (t : List ℕ). length t == 0) (sym c.as_slice.ensures.value) ∙ sym c.is_empty.ensures ∙ c.if-is_empty.false))
    c.take_last.ensures.line
