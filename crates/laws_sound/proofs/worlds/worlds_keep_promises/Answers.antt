use Rattle.laws_sound.proofs.Promising.{promised}
use Rattle.laws_sound.proofs.worlds.worlds_keep_promises.Goals as goal

pub returns : goal.returns
returns c =
    promised c.meanings_last.ensures.last c.meanings_last.ensures.in_time c.bootstraps_stay.ensures.worlds c.worlds_are_sound.ensures c.calls_keep_their_order.ensures.runs c.calls_are_numbered.ensures c.calls_arrive_in_full.ensures.runs c.quiet_when_down.ensures c.counts_agree_in_runs.ensures c.nothing_is_refused.ensures.runs c.nothing_is_refused.ensures.falls c.idle_is_none_pending.ensures
