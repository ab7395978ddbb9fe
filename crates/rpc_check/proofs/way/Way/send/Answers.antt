use Rattle.std.proofs.Common.{ap, ◌∙◌, ◌+◌}
use Rattle.rpc_check.specs.Counts.{CountsById, count_of}
use Rattle.rpc_check.specs.Kept.{amount}
use Rattle.rpc_check.proofs.OneWay.{is_sent}
use Rattle.rpc_check.proofs.way.Way.send.Goals as goal

pub returns-clause-way : goal.returns-clause-way
returns-clause-way c = λ ss before way said.
    is_sent c.args.receiver.now.lists.items c.args.self.now _ ss (record { message = c.args.message.now; before = before }) c.in_ok-parcel.parcel way (c.in_ok-parcel.ensures before said) c.in_ok-push_back.ensures.items
    (λ e. c.in_ok-add_all.ensures e ∙ ap (λ (xs : CountsById). amount c.args.self.now.handed_on e + count_of e xs) (c.deref-2.ensures.value ∙ c.deref.ensures))
    (c.in_ok-send.ensures c.args.receiver.now.lists.items)
