use Rattle.laws_in_bytes.proofs.Joining as joining
use Rattle.laws_in_bytes.proofs.laws.joined_runs_are_wired.Goals as goal

pub returns : goal.returns
returns c =
    joining.joined_runs_are_wired (record { adapter = c.stands_aside.ensures; sparing = c.stands_aside-2.ensures; reads = c.frames_read_back.ensures }) c.fitting_names_are_alike.ensures c.wired_runs_are_runs.ensures c.nothing_is_refused.ensures.runs c.runs_send_what_is_understood.ensures c.names_stay.ensures
