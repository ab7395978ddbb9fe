use Rattle.std.proofs.Common.{List, ℕ, ◌+◌, ◌++◌, drop, subst, inr}
use Rattle.std.proofs.lemmas.Result.{err_from_is_err_and}
use Rattle.rpc_dump_lib.specs.Reading.{held_of, SaidTo}
use Rattle.rpc_dump_lib.proofs.Streaming.{all_behind, kept_on}
use Rattle.rpc_dump_lib.proofs.pieces.dump_piece.Goals as goal

pub returns-in_err-at-clause-said : goal.returns-in_err-at-clause-said
returns-in_err-at-clause-said g c input left base said =
    let p = err_from_is_err_and c.from_residual.result c.from_residual.ensures.1 in
    rw (p.1, p.2) (inr (record {
      rest = held_of c.bytes.frames ++ (drop c.bytes.at c.args.piece.now ++ left);
      number = c.bytes.number;
      said = c.bytes.invariant.said input left base said;
      stops = rw (all_behind c.bytes.at c.args.piece.now) at (c.in_err-at.ensures.fails left);
    }))

pub returns-in_err-number-clause-said : goal.returns-in_err-number-clause-said
returns-in_err-number-clause-said g c input left base said =
    let p = err_from_is_err_and c.from_residual-in_err-number.result c.from_residual-in_err-number.ensures.1 in
    let taken = c.in_ok-at.field-0 in
    let rest = drop (c.bytes.at + taken) c.args.piece.now ++ left in
    let kept = rw (all_behind c.bytes.at c.args.piece.now) at c.in_ok-at.ensures.kept in
    let on = kept_on (held_of c.bytes.frames) (held_of c.take_in.new.frames) c.args.piece.now left c.bytes.at taken kept in
    rw (p.1, p.2) (c.in_err-number.ensures.said input rest base
    (subst (λ (r : List ℕ). SaidTo c.args.form.now input r c.bytes.number base (g.W.Write.contents c.bytes.out)) on (c.bytes.invariant.said input left base said)))
