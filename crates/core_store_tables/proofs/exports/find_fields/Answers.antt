use Rattle.std.proofs.Common.{◌<◌, ℕ, [], ◌∷◌, ◌++◌, cond, ap, ◌∙◌}
use Rattle.std.proofs.lemmas.List.Elements.{All-tail}
use Rattle.rpc_machine.specs.declared.entries.Export.{Export}
use Rattle.rpc_machine.specs.Nodes.{is_field}
use Rattle.core_store_tables.proofs.Exporting.{chosen_more}
use Rattle.core_store_tables.proofs.exports.find_fields.Goals as goal

pub loop-id-preserved : goal.loop-id-preserved
loop-id-preserved c = record {
  so_far = chosen_more (is_field c.args.o) c.loop-id.found c.push_if.new.found c.loop-id.id-iterator c.next.new.self c.in-Some.id c.in-Some.export.now _
      c.in-Some.ensures.steps
      (c.in_ok-push_if.ensures ∙ ap (λ b. c.loop-id.found ++ cond b ((c.in-Some.id, c.in-Some.export.now.node) ∷ []) []) c.is_field.ensures) c.loop-id.invariant.so_far;
  ids = All-tail (λ (e : ℕ × Export). e.0 < 4294967296) (c.in-Some.id, c.in-Some.export.now) c.next.new.self (rw c.in-Some.ensures.steps at c.loop-id.invariant.ids);
}
