use Rattle.std.proofs.Common.{◌≡◌}
use Rattle.std.specs.List.{list_any}
use Rattle.std.specs.VecDeque.Iter.{deque_iter_rest}
use Rattle.rpc_machine.specs.Queries.{is_through}
use Rattle.rpc_machine.specs.Pending.{in_messages}
use Rattle.vat_world.proofs.link.Link.has_call.Given as goal

abbrev pub invariant-loop-message : goal.invariant-loop-message
invariant-loop-message l =
    list_any (is_through (record { vat = l.vat; number = l.reference.0 })) (in_messages (deque_iter_rest l.message-iterator))
    ≡ list_any (is_through (record { vat = l.vat; number = l.reference.0 })) (in_messages l.self.0)
