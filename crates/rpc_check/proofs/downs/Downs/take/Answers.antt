use Rattle.rpc_msg.specs.declared.ids.Vat.TheVariants.{A, B}
use Rattle.rpc_check.proofs.Moving.{down_falls}
use Rattle.rpc_check.proofs.downs.Downs.take.Goals as goal

pub returns-in-A : goal.returns-in-A
returns-in-A c = λ h now. down_falls c.args.self.now c.in-Down.vat A c.in-Down.field-1 h c.args.entry.now c.in-A.is c.in-Down.is now

pub returns-in-B : goal.returns-in-B
returns-in-B c = λ h now. down_falls c.args.self.now c.in-Down.vat B c.in-Down.field-1 h c.args.entry.now c.in-B.is c.in-Down.is now
