use Rattle.std.proofs.Common.{[]}
use Rattle.vat_hosts.specs.Hosts.{new_hosts}
use Rattle.vat_hosts.proofs.Worlds.{so_all, so_new}
use Rattle.vat_hosts.proofs.laws.hosts_are_worlds.Goals as goal

pub returns : goal.returns
returns c = λ root_a root_b xs p acts.
    let so = so_all root_a root_b [] xs (new_hosts root_a root_b) p (so_new root_a root_b) acts in
    record {
      happened = so.happened;
      world = so.world;
      ran = so.ran;
      sound = c.every_run_is_sound.ensures root_a root_b so.happened so.world so.ran;
      done = so.done;
      told = λ v. (so.sides v).told;
      cores = λ v. (so.sides v).core;
      on_way = λ v. (so.sides v).way;
    }
