use Rattle.std.proofs.Common.{◌≡◌, ◌+◌, ◌≤◌, ◌++◌, take, vec_len, vec_capacity}
use Rattle.core_outbox.specs.Outgoing.{release_messages}
use Rattle.core_outbox.proofs.lists.push_releases.Given as goal

abbrev pub invariant-loop-id : goal.invariant-loop-id
invariant-loop-id l =
    (l.sends.items ≡ l.fn.sends.items ++ release_messages (take l.id-index l.fn.releases))
    × (vec_len l.sends ≡ vec_len l.fn.sends + l.id-index)
    × (vec_capacity l.fn.sends ≤ vec_capacity l.sends)
