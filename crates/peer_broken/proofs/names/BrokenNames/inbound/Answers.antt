use Rattle.std.proofs.Common.{List, sym, ap, ◌∙◌}
use Rattle.rpc_msg.specs.declared.ids.ExportId.{ExportId}
use Rattle.rpc_codec.specs.Envelopes.{seen_envelope}
use Rattle.peer_broken.specs.Naming.{coming}
use Rattle.peer_broken.proofs.Taking.{none_found}
use Rattle.peer_broken.proofs.names.BrokenNames.inbound.Goals as goal

pub returns-clause-ok : goal.returns-clause-ok
returns-clause-ok g c = λ broken finished tells ends.
    none_found broken finished c.args.self.now (seen_envelope c.args.came) c.descriptors_in.result.now c.some_broken.result
    c.descriptors_in.ensures (c.some_broken.ensures broken tells) c.if-some_broken.false
    ∙ ap (λ (es : List ExportId). coming (seen_envelope c.args.came) (c.args.self.now, es)) (sym c.new.ensures)
