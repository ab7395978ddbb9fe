use Rattle.vat_connection.proofs.Bounds.{load_is_bounded}
use Rattle.vat_connection.proofs.laws.load_is_bounded.Goals as goal

pub returns : goal.returns
returns c = load_is_bounded c.contents_are_small.ensures
