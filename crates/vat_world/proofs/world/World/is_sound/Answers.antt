use Rattle.std.proofs.Common.{subst}
use Rattle.rpc_journal.specs.Meaning.{History}
use Rattle.rpc_machine.specs.Claims.{IsSound}
use Rattle.vat_world.proofs.world.World.is_sound.Goals as goal

pub returns : goal.returns
returns c r =
    let w = c.args.self.now in
    subst (λ (h : History). IsSound h r.run.happened w.world) (c.bootstraps_stay.ensures.worlds w.journal w.world r.run) (c.worlds_are_sound.ensures w.journal w.world r.run)
