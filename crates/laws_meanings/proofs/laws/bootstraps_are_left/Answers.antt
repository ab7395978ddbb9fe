use Rattle.laws_meanings.proofs.Asking.{roots_left}
use Rattle.laws_meanings.proofs.laws.bootstraps_are_left.Goals as goal

pub returns : goal.returns
returns c = roots_left (λ a b x k v m ms e. let f = c.named_answers_are_there.ensures a b x k v m ms e in (f.0, f.1))
