use Rattle.std.proofs.Common.{List, ap, ◌∙◌}
use Rattle.link_logs.specs.Steps.{Held}
use Rattle.link_logs.specs.declared.pieces.Piece.{Piece}
use Rattle.link_logs.specs.Pieces.{pieced}
use Rattle.link_ends.proofs.Merging.{merged}
use Rattle.link_ends.proofs.gathered.Gathered.merged.Goals as goal

pub returns-in-Ok : goal.returns-in-Ok
returns-in-Ok c =
    let of_a = c.journal-of_a.ensures ∙ ap (λ (h : Held). h.journal) c.sides.ensures.0 in
    let of_b = c.journal-of_b.ensures ∙ ap (λ (h : Held). h.journal) c.sides.ensures.1 in
    merged c.args.self.now.both _ _ _ _ _ c.new.ensures.items c.in_ok-read.ensures of_a of_b
    (c.in-Ok.ensures ∙ ap (λ (l : List Piece). pieced l c.journal-of_a.result.now c.journal-of_b.result.now) c.deref.ensures.value)
