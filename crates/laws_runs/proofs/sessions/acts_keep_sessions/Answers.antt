use Rattle.laws_runs.proofs.Acted.{acts}
use Rattle.laws_runs.proofs.Heard.{consumes}
use Rattle.laws_runs.proofs.sessions.acts_keep_sessions.Goals as goal

pub returns : goal.returns
returns c = record { acts = λ last d list i. acts last d i list; consumes = λ m d first h i k. consumes m d first i k h }
