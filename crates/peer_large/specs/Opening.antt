-- What a frame says. One that breaks a limit says no more than the question that its front asks or answers, if that is read there.
use Rattle.std.specs.Prelude.{ℕ, ◌==◌, Bool, false, if◌then◌else◌, nat_lt, List, Option, Some, None, Ok, Err}
use Rattle.capn_trees.specs.Trees.{Tree, structs_count}
use Rattle.capn_trees.specs.declared.faults.PayloadFault.TheVariants.{TooLarge}
use Rattle.capn_reading.specs.Reading.{element}
use Rattle.rpc_msg.specs.declared.ids.Stamp.{Stamp}
use Rattle.rpc_codec_parts.specs.declared.faults.EnvelopeFault.{EnvelopeFault}
use Rattle.rpc_codec_parts.specs.declared.faults.EnvelopeFault.TheVariants.{Encoding}
use Rattle.rpc_codec_parts.specs.Blocks.{Block, block_of, block_at, structs_at}
use Rattle.rpc_codec_parts.specs.Reading.{Read, ◌>>=◌}
use Rattle.rpc_codec.specs.Envelopes.{What, profile, tail_call, sent_elsewhere, taken_from_other, strange, seen_envelope}
use Rattle.rpc_codec.specs.Decoding as codec
use Rattle.peer_large.specs.declared.front.Large.{Large}
use Rattle.peer_large.specs.declared.limit.Limit.{Limit}
use Rattle.peer_large.specs.declared.limit.Limit.TheVariants.{Words, Steps}
use Rattle.peer_large.specs.declared.opening.Opened.{Opened}
use Rattle.peer_large.specs.declared.opening.Opened.TheVariants as opened
use Rattle.peer_large.specs.Fronts.{large_in}
use Rattle.peer_large.specs.Limits.{limit_of}

-- what came
pub data Came : Type 0 where
  envelope : What → Came
  -- it breaks that limit
  spared : Large → Limit → Came

abbrev pub seen : Opened → Came
seen (opened.Envelope e) = envelope (seen_envelope e)
seen (opened.Spared l limit) = spared l limit

-- ---- long paths

-- the steps of the path in a target, MessageTarget of rpc.capnp: promisedAnswer @1, transform @1
abbrev pub steps_by : ℕ → Block → Read ℕ
steps_by which target = if which == 1 then (block_at 0 target >>= λ answer. structs_at 0 answer >>= λ steps. Ok (structs_count steps)) else Ok 0

-- the same of a Call in a message: target @1
abbrev pub steps_of : Tree → Read ℕ
steps_of t = do
  b ← block_of t
  call ← block_at 0 b
  target ← block_at 0 call
  steps_by (element target.words 16 2) target

abbrev pub is_above : Read ℕ → Bool
is_above (Ok steps) = nat_lt 16 steps
is_above (Err e) = false

-- It is a Call whose target has a path of more than 16 steps.
unfoldable pub has_long_path : Tree → Bool
has_long_path t = is_above (steps_of t)

abbrev pub is_long : What → Bool
is_long (profile m) = false
is_long (tail_call c) = false
is_long (sent_elsewhere s) = false
is_long (taken_from_other s) = false
is_long (strange n original) = if n == 2 then has_long_path original else false

-- ---- what a frame says

-- what is read in its front, or else what it would be
abbrev pub spared_or : Limit → Option Large → codec.Came Came → codec.Came Came
spared_or limit (Some l) other = Ok (spared l limit)
spared_or limit None other = other

abbrev pub limited_by : Option Limit → Option Large → EnvelopeFault → codec.Came Came
limited_by (Some limit) l f = spared_or limit l (Err f)
limited_by None l f = Err f

abbrev pub opened_by : Option Large → codec.Came What → codec.Came Came
opened_by l (Ok w) = if is_long w then spared_or Steps l (Ok (envelope w)) else Ok (envelope w)
opened_by l (Err f) = limited_by (limit_of f) l f

-- what a frame says that is kept whole
abbrev pub came_at : Stamp → List ℕ → codec.Came Came
came_at stamp frame = opened_by (large_in frame) (codec.envelope_at stamp frame)

-- what one says of which this front is kept
abbrev pub came_in : List ℕ → codec.Came Came
came_in front = spared_or Words (large_in front) (Err (Encoding TooLarge))
