use Rattle.laws_routes.proofs.WhatGoes.{gone}
use Rattle.laws_routes.proofs.laws.gone_is_no_move.Goals as goal

pub returns : goal.returns
returns c = gone
