use Rattle.std.proofs.Common.{◌≡◌, true, false, sym, subst}
use Rattle.core_outbox.specs.Outgoing.{Outgoing}
use Rattle.core_step.specs.InProgress.{IsEnding}
use Rattle.core_step_collects.specs.Dropping.{Drops, OnlyReleases}
use Rattle.core_step_collects.proofs.Dropping.{import_drops, has_room, only_released, ending_released}
use Rattle.core_step_collects.proofs.collection.drop_import.Goals as goal

pub unreachable-requires-in_default-release : goal.unreachable-requires-in_default-release
unreachable-requires-in_default-release c =
    let e : false ≡ true = c.in_default-release.ensures.room.1 (has_room c.args.step.now c.next_loose_import.new.store c.take_import.new.store c.next_loose_import.ensures.same c.in-Some.id.0 c.in-Some-take_import.count c.in-Some.ensures.some c.take_import.ensures.state c.requires.ending) in cc

pub returns-clause-drops : goal.returns-clause-drops
returns-clause-drops c =
    let x = c.args.step.now in let s = c.take_import.new.store in
    subst (λ (o : Outgoing). Drops x (record x { store = s; outbox = o })) (sym c.in-Ok.ensures.ok)
    (import_drops x c.next_loose_import.new.store s c.next_loose_import.ensures.same c.in-Some.id.0 c.in-Some-take_import.count c.in-Some.ensures.some c.take_import.ensures.state c.in-Some-take_import.ensures.value)

pub returns-clause-rest : goal.returns-clause-rest
returns-clause-rest c =
    let x = c.args.step.now in let s = c.take_import.new.store in
    subst (λ (o : Outgoing). OnlyReleases x (record x { store = s; outbox = o })) (sym c.in-Ok.ensures.ok)
    (only_released x c.next_loose_import.new.store s c.next_loose_import.ensures.same c.in-Some.id.0 c.in-Some-take_import.count c.in-Some.ensures.some c.take_import.ensures.state c.take_import.ensures.left)

pub returns-clause-ending : goal.returns-clause-ending
returns-clause-ending c =
    let x = c.args.step.now in let s = c.take_import.new.store in
    subst (λ (o : Outgoing). IsEnding (record x { store = s; outbox = o })) (sym c.in-Ok.ensures.ok)
    (ending_released x c.next_loose_import.new.store s c.next_loose_import.ensures.same c.in-Some.id.0 c.in-Some-take_import.count c.in-Some.ensures.some c.take_import.ensures.state c.requires.ending c.take_import.ensures.sound c.take_import.ensures.left)
