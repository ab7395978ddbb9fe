use Rattle.std.proofs.Common.{ap, ◌∙◌, [], List}
use Rattle.std.specs.Prelude.{Option, unwrap_or}
use Rattle.rpc_msg.specs.declared.ids.ExportId.{ExportId}
use Rattle.finite_maps.proofs.Trees.{seen-get, seen-remove}
use Rattle.peer_broken.proofs.owed.Owed.take.Goals as goal

pub returns-clause-was : goal.returns-clause-was
returns-clause-was c = c.some_items.ensures ∙ ap (λ (o : Option (List ExportId)). unwrap_or o []) (c.remove-was.ensures.value ∙ seen-get c.self.inside.by_id _ c.self.view_is c.args.id.0)

pub returns-clause-gone : goal.returns-clause-gone
returns-clause-gone c = seen-remove c.self.inside.by_id c.remove-was.new.self _ _ c.self.view_is c.remove-was.ensures.updates
