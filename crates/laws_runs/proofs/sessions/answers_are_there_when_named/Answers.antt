use Rattle.laws_runs.proofs.Named as of_names
use Rattle.laws_runs.proofs.sessions.answers_are_there_when_named.Goals as goal

pub returns : goal.returns
returns c = record { names = of_names.names; sends = of_names.sends; returns = of_names.returns; heard = λ u m ms h. h; named = λ u ms h. h }
