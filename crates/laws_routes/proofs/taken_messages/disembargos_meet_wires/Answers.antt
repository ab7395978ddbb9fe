use Rattle.laws_routes.proofs.DisembargoMet.{meets_wire}
use Rattle.laws_routes.proofs.taken_messages.disembargos_meet_wires.Goals as goal

pub returns : goal.returns
returns c = meets_wire
