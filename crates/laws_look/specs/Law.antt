-- No honest vat is accused (docs/laws/messages.md, "A look accuses no honest vat").
use Rattle.std.specs.Prelude.{Option}
use Rattle.rpc_msg.specs.declared.ids.ObjectId.{ObjectId}
use Rattle.laws_look.specs.Points.{View, IsSeen}
use Rattle.laws_look.specs.Accused.{empty, NoneAccused}

-- From whatever point on their links a run of two new vats is seen, no message that passed it is accused of anything.
abbrev pub NoneIsAccused : Type 0
NoneIsAccused = (root_a root_b : Option ObjectId) (x : View) → IsSeen root_a root_b x → NoneAccused empty x.log
