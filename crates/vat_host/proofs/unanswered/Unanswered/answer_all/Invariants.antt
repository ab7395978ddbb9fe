use Rattle.std.proofs.Common.{◌≡◌, drop}
use Rattle.vat_host.specs.Unanswered.{answered}
use Rattle.vat_host.proofs.unanswered.Unanswered.answer_all.Given as goal

abbrev pub invariant-loop-message : goal.invariant-loop-message
invariant-loop-message l = answered (drop l.message-index l.sends) l.self ≡ answered l.sends l.fn.self
