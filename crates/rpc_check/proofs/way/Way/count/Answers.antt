use Rattle.std.proofs.Common.{refl}
use Rattle.rpc_check.proofs.OneWay.{is_still_way}
use Rattle.rpc_check.proofs.way.Way.count.Goals as goal

pub returns-clause-way : goal.returns-clause-way
returns-clause-way c = λ ss way. is_still_way c.args.lists.now c.args.self.now _ ss way refl refl c.in_ok-count.ensures.same
