use Rattle.peer_finishes.proofs.Counting.{each_once}
use Rattle.peer_finishes.proofs.Places.{behind, in_place}
use Rattle.peer_finishes.proofs.Waiting.{first_waits}
use Rattle.peer_finishes.proofs.laws.finishes_go_once.Goals as goal

pub returns : goal.returns
returns c = record { places = in_place; once = each_once; behind = behind; waits = first_waits }
