use Rattle.rpc_machine.proofs.Settles.{settle_stops, settle_link}
use Rattle.rpc_machine.proofs.laws.settles_where_it_leads.Goals as goal

pub returns : goal.returns
returns c = record { stops = settle_stops; follows = λ s d n m e h. settle_link s d n m e h }
