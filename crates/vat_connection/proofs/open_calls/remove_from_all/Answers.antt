use Rattle.std.proofs.Common.{rules, not, ◌==◌}
use Rattle.std.proofs.lemmas.Fn.{filter_same}
use Rattle.vat_connection.proofs.open_calls.remove_from_all.Goals as goal

pub returns : goal.returns
returns c = filter_same _ (λ call. not (call.0 == c.args.id.0)) _ (λ x b f called. search rules) _ _ c.retain.ensures.filtered
