use Rattle.laws_acts.proofs.Parts.{names_are}
use Rattle.laws_acts.proofs.Tables.{tables}
use Rattle.laws_acts.proofs.Nothing.{nothing_named}
use Rattle.laws_acts.proofs.places.places_follow_tables.Goals as goal

pub returns : goal.returns
returns c = record { summed = names_are; follow = tables; nothing = nothing_named }
