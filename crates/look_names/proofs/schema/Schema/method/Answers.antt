use Rattle.std.proofs.Common.{ℕ, Option, refl, sym, ap, ◌∙◌}
use Rattle.capn_trees.specs.Trees.{Structs}
use Rattle.rpc_codec_parts.specs.Blocks.{Block, seen}
use Rattle.look_names.specs.Names.{row_at, rows_by, methods_in, method_in}
use Rattle.look_names.proofs.schema.Schema.method.Goals as goal

pub returns : goal.returns
returns c = λ indexed.
    ap (λ (o : Option Block). method_in (row_at (methods_in o) c.args.method)) (c.in_ok-node.ensures indexed)
    ∙ ap (λ (k : ℕ). method_in (row_at (rows_by 3 (seen c.in_ok-node.node.words.now c.in_ok-node.node.pointers.now)) k)) (sym c.from.ensures)
    ∙ ap (λ (rows : Structs). method_in (row_at rows c.from.result)) (sym c.rows_by.ensures)
    ∙ ap method_in c.in_ok-row.ensures
    ∙ rw (c.text_at.ensures, c.number.ensures, c.number-2.ensures) refl

pub returns-in_err-node : goal.returns-in_err-node
returns-in_err-node c = λ indexed.
    rw c.from_residual.ensures (ap (λ (o : Option Block). method_in (row_at (methods_in o) c.args.method)) (c.in_err-node.ensures indexed))

pub returns-in_err-row : goal.returns-in_err-row
returns-in_err-row c = λ indexed.
    rw c.from_residual-in_err-row.ensures (
    ap (λ (o : Option Block). method_in (row_at (methods_in o) c.args.method)) (c.in_ok-node.ensures indexed)
    ∙ ap (λ (k : ℕ). method_in (row_at (rows_by 3 (seen c.in_ok-node.node.words.now c.in_ok-node.node.pointers.now)) k)) (sym c.from.ensures)
    ∙ ap (λ (rows : Structs). method_in (row_at rows c.from.result)) (sym c.rows_by.ensures)
    ∙ ap method_in c.in_err-row.ensures)
