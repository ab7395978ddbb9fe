use Rattle.core_waits.proofs.Hopping.{hop_promise, hop_field, no_promise, no_field}
use Rattle.core_waits.proofs.waits.Waits.hop.Goals as goal

pub returns-in_err-get-in-Promise : goal.returns-in_err-get-in-Promise
returns-in_err-get-in-Promise c =
    rw (← c.self.view_is) (no_promise c.self.inside.promises.entries c.self.inside.outcomes.entries c.self.inside.embargoes.entries c.self.inside.taken c.self.inside.pool.lists c.self.inside.room c.args.left c.args.node c.in-Promise.key c.from_residual.result c.in-Promise.is c.in_err-get-in-Promise.ensures c.from_residual.ensures)

pub returns-in_err-get-in-Field : goal.returns-in_err-get-in-Field
returns-in_err-get-in-Field c =
    rw (← c.self.view_is) (no_field c.self.inside.promises.entries c.self.inside.outcomes.entries c.self.inside.embargoes.entries c.self.inside.taken c.self.inside.pool.lists c.self.inside.room c.args.left c.args.node c.in-Field.key c.in-Field.path c.from_residual-in_err-get-in-Field.result c.in-Field.is c.in_err-get-in-Field.ensures c.from_residual-in_err-get-in-Field.ensures)

pub returns-in_ok-get-in-Promise : goal.returns-in_ok-get-in-Promise
returns-in_ok-get-in-Promise c =
    rw (← c.self.view_is) (hop_promise c.self.inside.promises.entries c.self.inside.outcomes.entries c.self.inside.embargoes.entries c.self.inside.taken c.self.inside.pool.lists c.self.inside.room c.args.left c.args.node c.in-Promise.key c.in_ok-get-in-Promise.field-0.now c.from_promise.result c.self.invariant.2 c.if-left-eq0.false c.in-Promise.is c.in_ok-get-in-Promise.ensures c.from_promise.ensures)

pub returns-in_ok-get-in-Field : goal.returns-in_ok-get-in-Field
returns-in_ok-get-in-Field c =
    rw (← c.self.view_is) (hop_field c.self.inside.promises.entries c.self.inside.outcomes.entries c.self.inside.embargoes.entries c.self.inside.taken c.self.inside.pool.lists c.self.inside.room c.args.left c.args.node c.in-Field.key c.in-Field.path c.as_slice.result.now c.in_ok-get-in-Field.field-0.now c.from_field.result c.self.invariant.2 c.if-left-eq0.false c.in-Field.is c.as_slice.ensures.value c.in_ok-get-in-Field.ensures c.from_field.ensures)
