use Rattle.std.proofs.Common.{◌≡◌, ℕ, ◌+◌, ◌-◌, ◌<◌, List, [], ◌∷◌, ◌++◌, length, take, drop, Option, refl, sym, ap, subst, ◌∙◌, length-drop, arith}
use Rattle.std.specs.List.{position}
use Rattle.std.proofs.lemmas.List.{drop-drop}
use Rattle.rpc_look_lib.specs.Capturing.{scene_of}
use Rattle.rpc_look_lib.specs.Reading.{is_newline, IsLine, Looking, LineComes, Front}
use Rattle.rpc_look_lib.proofs.Pieces.{all_behind}
use Rattle.rpc_look_lib.proofs.Lines.{newline_at, newline_none, front_more, part_waits}
use Rattle.rpc_look_lib.proofs.reading.Lines.take_part.Goals as goal

pub returns-in-None : goal.returns-in-None
returns-in-None g c =
    let part = c.args.part.now in
    let text = c.args.self.now.begun.items ++ part in
    let behind = all_behind c.lines.from part in
    let line = subst IsLine behind (newline_none (take (length part - c.lines.from) (drop c.lines.from part)) (sym c.newline_in.ensures.first ∙ c.in-None.is)) in
    part_waits c.args.at text (c.args.self.now.log, scene_of c.args.capture.now) c.lines.self.begun.items (drop c.lines.from part) c.extend_from_slice.new.self.items (c.lines.self.log, scene_of c.lines.capture)
    c.lines.invariant.front c.lines.invariant.line line (c.in_ok-extend_from_slice-in-None.ensures.items ∙ ap (λ (t : List ℕ). c.lines.self.begun.items ++ t) behind)

pub lines-preserved : goal.lines-preserved
lines-preserved g c =
    let part = c.args.part.now in
    let text = c.args.self.now.begun.items ++ part in
    let start : Looking = (c.args.self.now.log, scene_of c.args.capture.now) in
    let now : Looking = (c.lines.self.log, scene_of c.lines.capture) in
    let new : Looking = (c.take_last.new.self.log, scene_of c.take_last.new.capture) in
    let from = c.lines.from in
    let count = c.in-Some.count in
    let behind = all_behind from part in
    let size = length-drop from part in
    let few = subst (λ (t : List ℕ). count < length t) behind c.in-Some.ensures.within in
    let before = c.lines.invariant.within in
    let newline = subst (λ (t : List ℕ). IsLine (take count t) × (drop count t ≡ 10 ∷ drop (count + 1) t)) behind
    (newline_at (take (length part - from) (drop from part)) count c.in-Some.ensures.within (sym c.newline_in.ensures.first ∙ c.in-Some.is)) in
    let comes = subst (λ (t : List ℕ). LineComes c.args.at (c.lines.self.begun.items ++ take count t) now new) behind c.in_ok-take_last-in-Some.ensures.line in
    record {
      within = omega arith;
      line = subst IsLine (sym c.in_ok-take_last-in-Some.ensures.none) refl;
      front = subst (λ (t : List ℕ). Front c.args.at text start (t ++ drop (from + (count + 1)) part) new) (sym c.in_ok-take_last-in-Some.ensures.none)
          (front_more c.args.at text start c.lines.self.begun.items (drop from part) now new count (drop (from + (count + 1)) part) c.lines.invariant.front (sym c.is_done.ensures ∙ c.if-is_done.false)
          c.lines.invariant.line newline.0 newline.1 (sym (drop-drop (count + 1) from part)) comes);
    }
