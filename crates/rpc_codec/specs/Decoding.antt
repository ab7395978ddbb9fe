-- What the bytes of a frame say, or the first check that fails.
use Rattle.std.specs.Prelude.{◌≡◌, ℕ, List, Result, Ok, Err}
use Rattle.capn_trees.specs.Trees.{Tree}
use Rattle.capn_reading.specs.Reading.{Reading, message_of}
use Rattle.rpc_msg.specs.declared.ids.Stamp.{Stamp}
use Rattle.rpc_codec_parts.specs.declared.faults.EnvelopeFault.{EnvelopeFault}
use Rattle.rpc_codec_parts.specs.declared.faults.EnvelopeFault.TheVariants.{Encoding}
use Rattle.rpc_codec_parts.specs.Reading.{Read, unknown, fault}
use Rattle.rpc_codec.specs.declared.errors.DecodeError.{DecodeError}
use Rattle.rpc_codec.specs.declared.errors.DecodeError.TheVariants as errors
use Rattle.rpc_codec.specs.Envelopes.{What, strange, said_at, number_at}

-- what came, or the first check that fails
abbrev pub Came : Type 0 → Type 0
Came A = Result A EnvelopeFault

infixl 10 ◌>>=◌
abbrev pub ◌>>=◌ : {A B : Type 0} → Came A → (A → Came B) → Came B
(Ok x) >>= f = f x
(Err e) >>= f = Err e

-- what is not understood is kept whole
abbrev pub kept : Tree → Read What → Came What
kept t (Ok w) = Ok w
kept t (Err unknown) = Ok (strange (number_at t) t)
kept t (Err (fault f)) = Err f

-- what a frame's tree says, where its Calls get this stamp
unfoldable pub envelope_of : Stamp → Tree → Came What
envelope_of stamp t = kept t (said_at stamp t)

-- the number of the capabilities of a frame, whose own tables say what they are
abbrev pub any_caps : ℕ
any_caps = 4294967295

-- the tree that the encoding reads
abbrev pub encoded : Reading Tree → Came Tree
encoded (Ok x) = Ok x.0
encoded (Err f) = Err (Encoding f)

-- what the bytes of a frame say
unfoldable pub envelope_at : Stamp → List ℕ → Came What
envelope_at stamp bytes = encoded (message_of bytes any_caps) >>= λ t. envelope_of stamp t

-- What a function returned is this, unless memory was refused.
abbrev pub Misses : {Y : Type 0} → DecodeError → Came Y → Type 0
Misses errors.Memory came = Unit {0}
Misses (errors.Fault f) came = came ≡ Err f

abbrev pub Decodes : {X Y : Type 0} → (X → Y) → Result X DecodeError → Came Y → Type 0
Decodes view (Ok x) came = came ≡ Ok (view x)
Decodes view (Err e) came = Misses e came
