use Rattle.laws_runs.proofs.Rows as rows
use Rattle.laws_runs.proofs.sessions.question_sessions_hold.Goals as goal

pub returns : goal.returns
returns c = record { only = rows.only; each = rows.each; not_odd = rows.not_odd; not_strange = rows.not_strange }
