use Rattle.laws_runs.proofs.ExportsSay as says
use Rattle.laws_runs.proofs.sessions.export_session_says.Goals as goal

pub returns : goal.returns
returns c = record {
  count_is = says.count_is;
  is_met = says.is_met;
  is_enough = says.is_enough;
  kinds = says.kinds;
  import_kind = says.import_kind;
  resolved_once = says.resolved_once;
  after_resolve = says.after_resolve;
}
