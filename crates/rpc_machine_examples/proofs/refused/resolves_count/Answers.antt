use Rattle.std.proofs.Common.{◌≡◌, ◌+◌, arith}
use Rattle.std.specs.FinMap as map
use Rattle.rpc_machine.specs.Descriptors.{giving}
use Rattle.rpc_machine.specs.Limits.{export_count}
use Rattle.rpc_machine_examples.proofs.ImportCounts.{resolves}
use Rattle.rpc_machine_examples.proofs.refused.resolves_count.Goals as goal

pub returns : goal.returns
returns c =
    let law = c.sends_raise_counts.ensures in
    record {
      received = λ s k d x new l h u e. resolves e s k d x new l h u;
      sent = λ s a g x new h e none.
          let k : export_count (map.get new.exports e) ≡ export_count (map.get s.exports e) + giving e x.sends = law.commands e s a g x new h in
          omega arith;
    }
