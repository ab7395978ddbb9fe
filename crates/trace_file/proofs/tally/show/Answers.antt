use Rattle.std.proofs.Common.{[], ◌++◌, ap, ◌∙◌}
use Rattle.rpc_msg.specs.declared.ids.Vat.TheVariants.{A, B}
use Rattle.trace_file.specs.Shown.{rows_text}
use Rattle.trace_file.proofs.Tallied.{said_all, said_none}
use Rattle.trace_file.proofs.tally.show.Goals as goal

pub returns-in-Ok-write-2-clause-ok : goal.returns-in-Ok-write-2-clause-ok
returns-in-Ok-write-2-clause-ok c =
    let told = said_all (λ t. t.a.tree) (λ t. t.b.tree) [] c.in-Ok.ensures.ok.0 (record { a = c.new.result; b = c.new-2.result }) c.follow.new.follower c.in-Ok.ensures.ok.2 (said_none A c.new.result.tree c.new.ensures, said_none B c.new-2.result.tree c.new-2.ensures) in (
      c.in-Ok.field-0,
      c.in-Ok.ensures.ok.0,
      c.in-Ok.ensures.ok.1,
      (
        c.follow.new.follower.a.tree,
        c.follow.new.follower.b.tree,
        record { rising = c.write.ensures.rising; each = told.0 },
        record { rising = c.write-2.ensures.rising; each = told.1 },
        c.in-Ok-write-2.ensures.written ∙ ap (λ text. text ++ rows_text B c.follow.new.follower.b.tree.entries) (c.in-Ok-write.ensures.written ∙ ap (λ text. text ++ rows_text A c.follow.new.follower.a.tree.entries) c.new-text.ensures.bytes),
      ),
    )
