use Rattle.std.proofs.Common.{ap, ◌∙◌, ◌-◌}
use Rattle.rpc_check.specs.Counts.{CountsById, count_of}
use Rattle.rpc_check.specs.Kept.{amount}
use Rattle.rpc_check.proofs.OneWay.{is_received}
use Rattle.rpc_check.proofs.way.Way.receive.Goals as goal

pub returns-clause-rest : goal.returns-clause-rest
returns-clause-rest c = λ ls ss way.
    is_received ls c.args.self.now _ ss c.in-Some.parcel way c.in-Some.ensures.items
    (λ e. c.take_all.ensures e ∙ ap (λ (xs : CountsById). amount c.args.self.now.handed_on e - count_of e xs) (c.deref-2.ensures.value ∙ c.deref.ensures))
    (c.in_ok-receive.ensures ls)
