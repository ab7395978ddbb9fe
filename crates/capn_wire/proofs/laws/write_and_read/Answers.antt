use Rattle.std.proofs.lemmas.Result.{err_from_is_err_and}
use Rattle.capn_trees.specs.Views.{view}
use Rattle.capn_trees.specs.Writable.{refusal}
use Rattle.capn_wire.proofs.Saying.{read_again, tree_again, contents_are, refused_again, not_refused}
use Rattle.capn_wire.proofs.laws.write_and_read.Goals as goal

pub returns-in_err-payload : goal.returns-in_err-payload
returns-in_err-payload c =
    let p = err_from_is_err_and c.from_residual.result c.from_residual.ensures.1 in
    rw (p.1, p.2) (record { refused = refused_again _ _ (refusal (view c.args.tree.now) c.args.caps) c.in_err-payload.field-0.0 c.in_err-payload.ensures.refused; read = tt; tree = tt })

pub returns : goal.returns
returns c =
    let wrote = c.in_ok-payload.ensures in
    let same = contents_are c.in_ok-payload.payload c.bytes.result.now c.caps.result c.bytes.ensures.value c.caps.ensures in
    record {
      refused = not_refused (refusal (view c.args.tree.now) c.args.caps) c.in_ok-payload.payload c.read.result wrote.refused;
      read = read_again c.in_ok-payload.payload _ _ c.read.result same wrote.placed wrote.tree.0 c.read.ensures.found c.read.ensures.first;
      tree = tree_again c.in_ok-payload.payload _ _ c.read.result same wrote.placed wrote.tree.0 c.read.ensures.found (view c.args.tree.now) wrote.tree.1;
    }
