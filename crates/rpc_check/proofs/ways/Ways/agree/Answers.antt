use Rattle.std.proofs.Common.{◌∙◌}
use Rattle.rpc_msg.specs.declared.ids.Vat.TheVariants.{A, B}
use Rattle.rpc_check.proofs.Moving.{agrees_told, both_agree, one_differs}
use Rattle.rpc_check.proofs.ways.Ways.agree.Goals as goal

pub returns-then-of_a : goal.returns-then-of_a
returns-then-of_a c = λ h now.
    both_agree c.in_ok-of_a.of_a c.in_ok-of_b.of_b _ _
    (agrees_told c.args.self.now h A _ _ _ _ _ c.requires now (c.deref-2.ensures.value ∙ c.deref.ensures) (c.deref-4.ensures.value ∙ c.deref-3.ensures) c.in_ok-of_a.ensures)
    (agrees_told c.args.self.now h B _ _ _ _ _ c.requires now (c.deref-6.ensures.value ∙ c.deref-5.ensures) (c.deref-8.ensures.value ∙ c.deref-7.ensures) c.in_ok-of_b.ensures)
    c.if-of_a.true

pub returns-else-of_a : goal.returns-else-of_a
returns-else-of_a c = λ h now.
    one_differs c.in_ok-of_a.of_a _ _
    (agrees_told c.args.self.now h A _ _ _ _ _ c.requires now (c.deref-2.ensures.value ∙ c.deref.ensures) (c.deref-4.ensures.value ∙ c.deref-3.ensures) c.in_ok-of_a.ensures)
    c.if-of_a.false
