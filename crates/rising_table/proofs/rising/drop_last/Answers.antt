use Rattle.std.proofs.Common.{◌++◌, ap, ◌∙◌}
use Rattle.std.specs.Option.{option_to_list}
use Rattle.rising_table.proofs.rising.drop_last.Goals as goal

pub returns-clause-items : goal.returns-clause-items
returns-clause-items g c = λ d. c.pop.ensures.items ∙ ap (λ last. c.pop.new.self.items ++ option_to_list last) (c.pop.ensures.value d c.requires)
