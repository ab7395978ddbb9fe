use Rattle.vat_connection.specs.Speaking.{GivesBack}
use Rattle.vat_connection.specs.Telling.{IsLonger}
use Rattle.vat_connection.proofs.departures.give_back.Given as goal

abbrev pub invariant-loop-export : goal.invariant-loop-export
invariant-loop-export l = GivesBack l.fn.out l.yielded l.out × IsLonger l.fn.out l.out
