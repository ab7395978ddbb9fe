-- Once what arose is settled, nothing is left to settle.
use Rattle.std.proofs.Common.{◌≡◌, []}
use Rattle.rpc_machine.specs.Progress.{Progress}
use Rattle.rpc_machine.specs.Settling.{Drains, NoneLeft, OneMore}

pub none_arises : {new d : Progress} → Drains new d → new.arisen ≡ []
none_arises (NoneLeft h) = h
none_arises (OneMore o v rest is settles more) = none_arises more
