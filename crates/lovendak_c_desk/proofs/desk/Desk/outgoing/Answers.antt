use Rattle.std.proofs.Common.{ℕ, List, ap}
use Rattle.lovendak_c_desk.proofs.desk.Desk.outgoing.Goals as goal

pub returns : goal.returns
returns c = (c.say.new.self, c.say.ensures, c.take.ensures.many, c.take.ensures.given, ap (λ (w : List ℕ). record c.say.new.self { waiting = w }) c.take.ensures.left)
