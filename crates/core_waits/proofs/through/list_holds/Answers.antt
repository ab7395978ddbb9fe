use Rattle.std.proofs.Common.{sym, ap, ◌∙◌, rules}
use Rattle.core_waits.specs.Waiting.{calls_at}
use Rattle.core_waits.specs.Through.{is_by, is_among}
use Rattle.core_waits.proofs.Looking.{searched}
use Rattle.core_waits.proofs.through.list_holds.Goals as goal

pub returns-in-Some : goal.returns-in-Some
returns-in-Some c =
    searched (is_by c.args.vat c.args.reference) _ _ c.any_in.result _ (λ x told. search rules) (λ x told. search rules) c.any_in.ensures
    ∙ ap (λ o. is_among c.args.vat c.args.reference (calls_at c.args.pool.now.lists o)) (sym c.in-Some.is)
