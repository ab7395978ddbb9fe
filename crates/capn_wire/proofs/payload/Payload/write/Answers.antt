use Rattle.std.proofs.Common.{◌≡◌, ℕ, List, sym, ap, subst, ◌∙◌}
use Rattle.std.proofs.lemmas.Result.{err_from_is_err_and}
use Rattle.capn_trees.specs.Views.{view}
use Rattle.capn_wire.specs.Payloads.{Contents, IsEncoded, tree_of}
use Rattle.capn_trees.specs.Writable.{refusal}
use Rattle.capn_wire.proofs.Saying.{refused_again}
use Rattle.capn_wire.proofs.Written.{says_written}
use Rattle.capn_writing.proofs.Writing.{no_reason}
use Rattle.capn_wire.proofs.payload.Payload.write.Goals as goal

pub sharing-requires : goal.sharing-requires
sharing-requires c =
    let made = c.in_ok-message.ensures in
    (says_written (view c.args.tree.now) c.args.caps c.in_ok-message.message.items made.possible made.fits made.words made.placed).0

pub returns-in_err-message : goal.returns-in_err-message
returns-in_err-message c =
    let p = err_from_is_err_and c.from_residual.result c.from_residual.ensures.1 in
    rw (p.1, p.2) (record { refused = refused_again _ _ (refusal (view c.args.tree.now) c.args.caps) c.in_err-message.field-0.0 c.in_err-message.ensures.refused; placed = tt; tree = tt })

pub returns-in_err-payload : goal.returns-in_err-payload
returns-in_err-payload c =
    let p = err_from_is_err_and c.from_residual-in_err-payload.result c.from_residual-in_err-payload.ensures.1 in
    rw p.1 (record { refused = no_reason (view c.args.tree.now) c.args.caps _ _ c.in_ok-message.ensures.possible p.2; placed = tt; tree = tt })

pub returns-clause-placed : goal.returns-clause-placed
returns-clause-placed c =
    let contents : List ℕ → Contents = λ bytes. record { bytes = bytes; caps = c.args.caps } in
    c.in_ok-payload.ensures ∙ ap contents c.in_ok-message.ensures.placed

pub returns-clause-refused : goal.returns-clause-refused
returns-clause-refused c =
    no_reason (view c.args.tree.now) c.args.caps _ _ c.in_ok-message.ensures.possible tt

pub returns-clause-tree : goal.returns-clause-tree
returns-clause-tree c =
    let made = c.in_ok-message.ensures in
    let says = says_written (view c.args.tree.now) c.args.caps c.in_ok-message.message.items made.possible made.fits made.words made.placed in
    subst (λ (p : Contents). IsEncoded p × (tree_of p ≡ view c.args.tree.now)) (sym c.in_ok-payload.ensures) says
