use Rattle.std.proofs.Common.{List, [], ◌∷◌, ◌++◌, ap, ◌∙◌}
use Rattle.vat_joined.specs.declared.entry.JoinedEntry.{JoinedEntry}
use Rattle.vat_joined.specs.declared.entry.JoinedEntry.TheVariants as entry
use Rattle.vat_joined.proofs.Acting.{copied}
use Rattle.vat_joined.proofs.acts.tell_noted.Goals as goal

pub returns-in-Ok-clause-told : goal.returns-in-Ok-clause-told
returns-in-Ok-clause-told c =
    copied c.args.connection.now c.next_event.new.self c.args.journal.now.items c.push_reserved.new.self.items c.args.vat c.in-Some.event c.in-Ok.copy c.in-Ok.ensures (
      c.in-Some.ensures,
      c.push_reserved.ensures.items ∙ ap (λ (l : List JoinedEntry). l ++ entry.Told c.args.vat c.in-Some.event ∷ []) c.make_place.ensures.same,
    )
