-- What is so counts for one, as in the sums of sources and of Disembargos.
use Rattle.std.specs.Prelude.{ℕ, Bool, true, false}

abbrev pub one_if : Bool → ℕ
one_if true = 1
one_if false = 0
