use Rattle.std.proofs.Common.{◌∙◌}
use Rattle.capn_trees.specs.Views.{held}
use Rattle.vat_payloads.proofs.Carrying.{as_written}
use Rattle.vat_payloads.proofs.payloads.contents.Goals as goal

pub returns-clause-found : goal.returns-clause-found
returns-clause-found c =
    as_written c.in_ok-payload.payload c.from_vec.result c.args.refs.now c.in_ok-words.words.items c.args.numbers.now c.args.text.now (held c.in_ok-pointers.pointers)
    c.in_ok-payload.ensures.tree c.in_ok-words.ensures.items c.in_ok-pointers.ensures.made (c.from_vec.ensures ∙ c.in_ok-given.ensures.items)
