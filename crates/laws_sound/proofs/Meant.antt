-- All that is promised of what references stand for, from what all means in each scene.
use Rattle.rpc_machine.specs.Claims.{history}
use Rattle.laws_runs.specs.Meanings.{InTimeIsToOne}
use Rattle.laws_meanings.specs.NodeMeanings.{LinksToObjectsAreLeft, LinksToBrokenAreLeft}
use Rattle.laws_meanings.specs.NoneLost.{ObjectsLoseNone}
use Rattle.laws_sound.specs.ScenesMean.{BeginningsFollow, ScenesAreLed, ScenesAreMeant}

pub scenes_meant : ScenesAreLed → BeginningsFollow → LinksToObjectsAreLeft → LinksToBrokenAreLeft → InTimeIsToOne → ObjectsLoseNone → ScenesAreMeant
scenes_meant led begin objects broken one none a b x scene =
    let h = history a b x.journal in
    let both = led a b x scene in
    let in_time = objects a b x scene both.0 in
    record {
      none_lost = λ f g r v o stands idle nothing. none a b x r v o (begin a b) scene f g (one h in_time) stands idle nothing;
      in_time = in_time;
      ends = broken a b x scene both.1;
    }
