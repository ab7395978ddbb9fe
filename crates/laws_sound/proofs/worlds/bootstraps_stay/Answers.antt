use Rattle.laws_sound.proofs.Bootstraps.{bootstraps_stay, events_leave}
use Rattle.laws_sound.proofs.worlds.bootstraps_stay.Goals as goal

pub returns-clause-worlds : goal.returns-clause-worlds
returns-clause-worlds c = bootstraps_stay

pub returns-clause-events : goal.returns-clause-events
returns-clause-events c = events_leave
