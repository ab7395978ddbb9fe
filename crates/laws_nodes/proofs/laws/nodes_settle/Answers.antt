use Rattle.rpc_machine.proofs.Settles.{settles_here}
use Rattle.laws_nodes.proofs.Stopping.{ends, again, on, followed, same, opens, begins, fixed_stops, fixed_settles}
use Rattle.laws_nodes.proofs.Knowing.{known_stops, known_others, known_fields}
use Rattle.laws_nodes.proofs.Collected.{collected}
use Rattle.laws_nodes.proofs.Acyclic.{each_stops, within}
use Rattle.laws_nodes.proofs.laws.nodes_settle.Goals as goal

pub returns-clause-stops : goal.returns-clause-stops
returns-clause-stops c = each_stops

pub returns-clause-within : goal.returns-clause-within
returns-clause-within c = within

pub returns-clause-settles : goal.returns-clause-settles
returns-clause-settles c = record {
  ends = ends;
  again = again;
  here = settles_here;
  on = on;
  followed = followed;
  same = same;
  opens = opens;
  begins = λ s o x h. begins s o x h;
  fixes = λ s p to f h a. (fixed_stops s p to f h a, fixed_settles s p to f h a);
  knows = λ s mid o who w v fit u h a. known_stops o who w s v fit mid h a;
  known_others = λ s mid o who w v fit u h a. known_others o who w s v fit mid u h a;
  known_fields = λ s mid o who w v fit u h a. known_fields o who w s v fit mid u h a;
  collected = λ d new h a. collected new d h a;
}
