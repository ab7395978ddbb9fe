use Rattle.std.proofs.Common.{sym, ap, ◌∙◌}
use Rattle.capn_trees.specs.declared.tree.Fields.{Fields}
use Rattle.capn_trees.specs.Views.{fields_view}
use Rattle.rpc_codec_parts.specs.Blocks.{of_fields}
use Rattle.look_names.proofs.Rows.{some_row, row_there, row_past}
use Rattle.look_names.proofs.schema.row_at.Goals as goal

pub returns-then-number-rows : goal.returns-then-number-rows
returns-then-number-rows c =
    row_there c.args.rows.now c.args.number c.index-rows-number.result c.if-number-rows.true
    ∙ ap (λ (f : Fields). some_row (of_fields (fields_view f))) (sym c.index-rows-number.is)
    ∙ ap some_row (sym c.of_fields.ensures)

pub returns-else-number-rows : goal.returns-else-number-rows
returns-else-number-rows c = row_past c.args.rows.now c.args.number c.if-number-rows.false
