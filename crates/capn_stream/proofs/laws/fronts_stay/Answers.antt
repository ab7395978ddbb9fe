use Rattle.std.proofs.Common.{◌≡◌, ℕ, List, ◌++◌, refl}
use Rattle.capn_stream.specs.declared.front.Front.{Front}
use Rattle.capn_stream.specs.declared.front.Front.TheVariants.{Complete, Need, Fault}
use Rattle.capn_stream.specs.Fronts.{front_of}
use Rattle.capn_stream.specs.Laws.{Stays}
use Rattle.capn_stream.proofs.Stable.{complete_stays, fault_stays}
use Rattle.capn_stream.proofs.laws.fronts_stay.Goals as goal

by_front : (bytes more : List ℕ) (front : Front) → front_of bytes ≡ front → Stays front (front_of (bytes ++ more))
by_front bytes more (Complete n) e = complete_stays bytes more n e
by_front bytes more (Need n) e = tt
by_front bytes more (Fault f) e = fault_stays bytes more f e

pub returns : goal.returns
returns c bytes more = by_front bytes more (front_of bytes) refl
