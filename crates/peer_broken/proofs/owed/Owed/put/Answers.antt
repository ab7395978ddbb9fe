use Rattle.std.proofs.Common.{ap, ◌∙◌, [], List}
use Rattle.std.specs.Prelude.{Option, unwrap_or}
use Rattle.rpc_msg.specs.declared.ids.ExportId.{ExportId}
use Rattle.finite_maps.proofs.Trees.{seen-get, seen-insert}
use Rattle.peer_broken.proofs.owed.Owed.put.Goals as goal

pub returns-in-Ok-clause-ok : goal.returns-in-Ok-clause-ok
returns-in-Ok-clause-ok c = seen-insert c.self.inside.by_id c.insert.new.self _ _ _ c.self.view_is c.in-Ok.ensures.updates

pub returns-in-Ok-clause-was : goal.returns-in-Ok-clause-was
returns-in-Ok-clause-was c = c.some_items.ensures ∙ ap (λ (o : Option (List ExportId)). unwrap_or o []) (c.in-Ok.ensures.old ∙ seen-get c.self.inside.by_id _ c.self.view_is c.args.id.0)
