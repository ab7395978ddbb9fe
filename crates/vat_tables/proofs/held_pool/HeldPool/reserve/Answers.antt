use Rattle.std.proofs.Common.{◌+◌, ◌≤◌, sym, ap, subst, arith, rules}
use Rattle.slab.specs.Slab.{slab_len}
use Rattle.vat_tables.specs.Chains.{IsPool}
use Rattle.vat_tables.proofs.PoolLemmas.{other_room}
use Rattle.vat_tables.proofs.held_pool.HeldPool.reserve.Goals as goal

pub invariant_of-self : goal.invariant_of-self
invariant_of-self g c = subst (λ s. IsPool s c.self.inside.lists) (sym c.reserve.ensures.rest_kept)
    (other_room c.self.inside.calls c.self.inside.lists c.reserve.new.self.capacity c.self.inside.lists.capacity c.self.invariant)

pub invariant_of-self-2 : goal.invariant_of-self-2
invariant_of-self-2 g c =
    subst (λ s. IsPool s c.reserve-2.new.self) (sym c.reserve.ensures.rest_kept)
    (subst (λ s. IsPool (record c.self.inside.calls { capacity = c.reserve.new.self.capacity }) s) (sym c.reserve-2.ensures.rest_kept)
    (other_room c.self.inside.calls c.self.inside.lists c.reserve.new.self.capacity c.reserve-2.new.self.capacity c.self.invariant))

pub invariant_of-self-in_err-reserve-2 : goal.invariant_of-self-in_err-reserve-2
invariant_of-self-in_err-reserve-2 g c =
    subst (λ s. IsPool s c.reserve-2.new.self) (sym c.reserve.ensures.rest_kept)
    (subst (λ s. IsPool (record c.self.inside.calls { capacity = c.reserve.new.self.capacity }) s) (sym c.reserve-2.ensures.rest_kept)
    (other_room c.self.inside.calls c.self.inside.lists c.reserve.new.self.capacity c.reserve-2.new.self.capacity c.self.invariant))

pub returns-in_err-reserve-clause-had_room : goal.returns-in_err-reserve-clause-had_room
returns-in_err-reserve-clause-had_room g c = λ fits. let room = ap (λ p. p.room) c.self.view_is in
    let has : slab_len c.self.inside.calls + c.args.more ≤ c.self.inside.calls.capacity = omega (arith, c.if-more-eq0.false, fits, room) in
    let ok = c.reserve.ensures.succeeds has in search rules

pub returns-in_err-reserve-2-clause-had_room : goal.returns-in_err-reserve-2-clause-had_room
returns-in_err-reserve-2-clause-had_room g c = λ fits. let room = ap (λ p. p.room) c.self.view_is in
    let has : slab_len c.self.inside.lists + c.args.more ≤ c.self.inside.lists.capacity = omega (arith, c.if-more-eq0.false, fits, room) in
    let ok = c.reserve-2.ensures.succeeds has in search rules
