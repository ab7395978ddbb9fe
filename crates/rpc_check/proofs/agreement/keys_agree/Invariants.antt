use Rattle.std.proofs.Common.{◌≡◌, true, map}
use Rattle.std.specs.List.{list_all}
use Rattle.std.specs.Map.Iter.{deref}
use Rattle.rpc_check.specs.Kept.{is_even}
use Rattle.rpc_check.proofs.agreement.keys_agree.Given as goal

abbrev pub invariant-loop-id : goal.invariant-loop-id
invariant-loop-id l = list_all (is_even l.exported l.imported l.handed_on l.released) (map deref l.yielded) ≡ true
