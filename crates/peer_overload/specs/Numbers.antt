-- The numbers of the faults (docs/messages.md): that of a question in use is a vat's own.
use Rattle.std.specs.Prelude.{ℕ}
use Rattle.peer_overload.specs.declared.errors.OverloadFault.{OverloadFault}
use Rattle.peer_overload.specs.declared.errors.OverloadFault.TheVariants as fault

abbrev pub number_of : OverloadFault → ℕ
number_of fault.QuestionInUse = 20
number_of fault.TooManyRefused = 68
