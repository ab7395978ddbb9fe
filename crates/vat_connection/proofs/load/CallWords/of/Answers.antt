use Rattle.std.proofs.Common.{sym, ap, ◌∙◌, option_copied}
use Rattle.vat_connection.specs.Load.{words_of}
use Rattle.vat_connection.proofs.load.CallWords.of.Goals as goal

pub returns-in-Some : goal.returns-in-Some
returns-in-Some c = ap words_of (ap option_copied (sym c.in-Some.is) ∙ c.get.ensures)

pub returns-in-None : goal.returns-in-None
returns-in-None c = ap words_of (ap option_copied (sym c.in-None.is) ∙ c.get.ensures)
