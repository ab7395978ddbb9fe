use Rattle.vat_joined.proofs.Promising as promising
use Rattle.vat_joined.proofs.laws.joined_keep_promises.Goals as goal

pub returns : goal.returns
returns c =
    promising.joined_keep_promises c.joined_runs_are_sound.ensures c.worlds_keep_promises.ensures c.worlds_are_sound.ensures c.bootstraps_stay.ensures.worlds
