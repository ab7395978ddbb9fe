use Rattle.std.proofs.Common.{ℕ, ◌+◌, ap, ◌∙◌}
use Rattle.look_pieces.specs.Pieces.{capped}
use Rattle.look_books.specs.Acts.{number_of}
use Rattle.look_books.specs.Ends.{kept_of}
use Rattle.look_books.specs.After.{put, said_by}
use Rattle.look_books.proofs.end.End.count_message.Goals as goal

pub returns : goal.returns
returns c =
    ap (λ (f : ℕ → ℕ). record (kept_of c.args.self.now) { said = f })
    (c.in_ok-set.ensures ∙ ap (λ (n : ℕ). put (number_of c.args.kind) n (said_by c.args.self.now.kinds)) (c.saturating_add-count.ensures ∙ ap (λ (n : ℕ). capped (n + 1)) c.of.ensures))
