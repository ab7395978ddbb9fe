use Rattle.rising_table.proofs.RisingPlaces.{absent_in_gap}
use Rattle.rising_table.proofs.rising.find_behind.Goals as goal

pub returns-in-Err : goal.returns-in-Err
returns-in-Err g c = absent_in_gap _ _ _ c.in-Err.ensures.absent
