use Rattle.std.proofs.Common.{◌≡◌, take}
use Rattle.capn_reading.specs.Segments.{segment_of}
use Rattle.rpc_codec.proofs.bare.are_words.Given as goal

-- the words so far are the same
abbrev pub invariant-loop-k : goal.invariant-loop-k
invariant-loop-k l = take l.k (segment_of l.message 0) ≡ take l.k l.words
