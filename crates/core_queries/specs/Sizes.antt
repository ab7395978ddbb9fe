-- How much there is.
use Rattle.std.specs.FinMap as map
use Rattle.rpc_machine.specs.State.{State}
use Rattle.core_queries.specs.declared.table_sizes.TableSizes.{TableSizes}

-- How many entries each of the four tables has.
abbrev pub sizes_of : State → TableSizes
sizes_of s = record { questions = map.len s.questions; answers = map.len s.answers; exports = map.len s.exports; imports = map.len s.imports }
