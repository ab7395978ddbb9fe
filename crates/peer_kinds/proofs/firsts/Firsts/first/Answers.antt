use Rattle.std.proofs.Common.{◌≡◌, Some, sym, ap, ◌∙◌}
use Rattle.std.specs.Prelude.{Option, unwrap_or}
use Rattle.std.specs.FinMap as map
use Rattle.rpc_machine.specs.declared.entries.SenderKind.{SenderKind}
use Rattle.finite_maps.proofs.Gets.{insert_same}
use Rattle.peer_kinds.proofs.firsts.Firsts.first.Goals as goal

pub returns-in-Some-clause-noted : goal.returns-in-Some-clause-noted
returns-in-Some-clause-noted c =
    let there : map.get c.args.self.now c.args.export.0 ≡ Some c.in-Some.kind = sym c.get.ensures ∙ c.in-Some.is in
    sym (ap (λ (o : Option SenderKind). map.insert c.args.self.now c.args.export.0 (unwrap_or o c.args.own)) there ∙ insert_same c.args.self.now c.args.export.0 c.in-Some.kind there)
