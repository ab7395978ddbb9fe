use Rattle.std.proofs.Common.{◌≡◌, [], length}
use Rattle.vat_host.specs.Hosting.{Hosted}
use Rattle.vat_host.specs.Exchanging.{HearsAll}
use Rattle.vat_host.proofs.exchanges.carry.Given as goal

abbrev pub invariant-loop-message : goal.invariant-loop-message
invariant-loop-message l =
    ((new : Hosted) → HearsAll l.to l.from.messages new → HearsAll l.fn.to l.fn.from.messages new)
    × (record (l.from) { messages = [] } ≡ record (l.fn.from) { messages = [] })

abbrev pub decreases-loop-message : goal.decreases-loop-message
decreases-loop-message l = length l.from.messages
