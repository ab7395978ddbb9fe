-- Reading parts of an envelope, in which the first check that fails ends it.
use Rattle.std.specs.Prelude.{◌≡◌, Result, Ok, Err}
use Rattle.rpc_codec_parts.specs.declared.faults.EnvelopeFault.{EnvelopeFault}
use Rattle.rpc_codec_parts.specs.declared.faults.ReadError.{ReadError}
use Rattle.rpc_codec_parts.specs.declared.faults.ReadError.TheVariants as errors

-- What ends it: something that the profile doesn't have, of which nothing is read any further, or a fault.
pub data End : Type 0 where
  unknown : End
  fault : EnvelopeFault → End

abbrev pub Read : Type 0 → Type 0
Read A = Result A End

infixl 10 ◌>>=◌
abbrev pub ◌>>=◌ : {A B : Type 0} → Read A → (A → Read B) → Read B
(Ok x) >>= f = f x
(Err e) >>= f = Err e

-- What a function returned is what reading gives, unless memory was refused.
abbrev pub Fails : {Y : Type 0} → ReadError → Read Y → Type 0
Fails errors.Memory read = Unit {0}
Fails errors.Unknown read = read ≡ Err unknown
Fails (errors.Fault f) read = read ≡ Err (fault f)

abbrev pub Gives : {X Y : Type 0} → (X → Y) → Result X ReadError → Read Y → Type 0
Gives view (Ok x) read = read ≡ Ok (view x)
Gives view (Err e) read = Fails e read
