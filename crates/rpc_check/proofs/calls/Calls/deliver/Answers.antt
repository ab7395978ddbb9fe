use Rattle.std.proofs.Common.{sym, ◌∙◌}
use Rattle.rpc_msg.specs.declared.ids.Vat.TheVariants.{A, B}
use Rattle.rpc_check.proofs.Called.{order_told, calls_delivered}
use Rattle.rpc_check.proofs.calls.Calls.deliver.Goals as goal

pub returns-in-A-clause-order : goal.returns-in-A-clause-order
returns-in-A-clause-order c = λ h now. c.deliver.ensures.fits ∙ order_told c.args.self.now h c.args.vat c.args.delivery.now A c.in-A.is now

pub returns-in-A-clause-rest : goal.returns-in-A-clause-rest
returns-in-A-clause-rest c = λ kept h now.
    calls_delivered c.args.self.now c.deliver.new.self A c.args.vat c.args.delivery.now h c.in-A.is now (c.deliver.ensures.taken kept) (sym c.deliver.ensures.fits ∙ kept)

pub returns-in-B-clause-order : goal.returns-in-B-clause-order
returns-in-B-clause-order c = λ h now. c.deliver-in-B.ensures.fits ∙ order_told c.args.self.now h c.args.vat c.args.delivery.now B c.in-B.is now

pub returns-in-B-clause-rest : goal.returns-in-B-clause-rest
returns-in-B-clause-rest c = λ kept h now.
    calls_delivered c.args.self.now c.deliver-in-B.new.self B c.args.vat c.args.delivery.now h c.in-B.is now (c.deliver-in-B.ensures.taken kept) (sym c.deliver-in-B.ensures.fits ∙ kept)
