use Rattle.rpc_uses.proofs.NamedObjects.{counts_those_named, all_are_named}
use Rattle.rpc_uses.proofs.laws.objects_are_named_by_number.Goals as goal

pub returns-clause-those : goal.returns-clause-those
returns-clause-those g c = counts_those_named

pub returns-clause-all : goal.returns-clause-all
returns-clause-all g c = all_are_named
