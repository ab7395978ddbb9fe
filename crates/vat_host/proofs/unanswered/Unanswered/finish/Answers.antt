use Rattle.std.proofs.Common.{◌≡◌, ℕ, refl, Bool, true, false, Option, Some, None, Bor, option_copied, is_none, is_some, not, ap, sym, ◌∙◌}
use Rattle.std.specs.FinMap as map
use Rattle.finite_maps.proofs.Trees.{seen-insert}
use Rattle.rpc_msg.specs.declared.ids.TaskId.{TaskId}
use Rattle.vat_host.specs.Unanswered.{Unanswered, finished}
use Rattle.vat_host.proofs.Over.{alike}
use Rattle.vat_host.proofs.unanswered.Unanswered.finish.Goals as goal

noted : (o : Option (Option TaskId)) (q : ℕ) (u : Unanswered) → is_none o ≡ false → record u { over = map.insert u.over q tt } ≡ finished o q u
noted None q u h = absurd (let e : ◌≡◌ {A = Bool} true false = h in cc)
noted (Some t) q u h = refl

is_there : (o : Option (Bor (Option TaskId))) (b : Bool) → is_some o ≡ not b → is_none (option_copied o) ≡ b
is_there None true e = refl
is_there None false e = absurd (let f : ◌≡◌ {A = Bool} false true = e in cc)
is_there (Some x) true e = absurd (let f : ◌≡◌ {A = Bool} true false = e in cc)
is_there (Some x) false e = refl

pub returns-clause-ok : goal.returns-clause-ok
returns-clause-ok c =
    alike _ _ _ _ (ap (λ (u : Unanswered). u.tasks) c.self.view_is)
    (seen-insert c.self.inside.over c.insert.new.self c.args.self.now.over c.args.question.0 tt (ap (λ (u : Unanswered). u.over) c.self.view_is) c.in_ok-insert.ensures.updates)
    ∙ noted (map.get c.args.self.now.tasks c.args.question.0) c.args.question.0 c.args.self.now
    (ap (λ (u : Unanswered). is_none (map.get u.tasks c.args.question.0)) (sym c.self.view_is) ∙ ap (λ (o : Option (Option TaskId)). is_none o) (sym c.get.ensures) ∙ is_there c.get.result c.is_none.result c.is_none.ensures ∙ c.if-is_none.false)
