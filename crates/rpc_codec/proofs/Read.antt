-- What the walk over a message says of its reading.
use Rattle.std.proofs.Common.{◌≡◌, ℕ, Result, Ok, Err, refl, sym, ap}
use Rattle.std.specs.Prelude.{IsOk}
use Rattle.capn_trees.specs.declared.faults.PayloadFault.{PayloadFault}
use Rattle.capn_trees.specs.Trees.{Tree}
use Rattle.capn_reading.specs.Reading.{Reading, visited_of, tree_read}
use Rattle.rpc_codec_parts.specs.declared.faults.EnvelopeFault.TheVariants as fault
use Rattle.rpc_codec.specs.Decoding.{Came, encoded}

abbrev pub good : {A : Type 0} → A → Came A
good x = Ok x

abbrev walked : ℕ → Result ℕ PayloadFault
walked n = Ok n

abbrev stopped : PayloadFault → Result ℕ PayloadFault
stopped f = Err f

pub read_bad : (r : Reading Tree) (f : PayloadFault) → stopped f ≡ visited_of r → encoded r ≡ Err (fault.Encoding f)
read_bad (Ok x) f e = absurd cc
read_bad (Err g) f e = let same : f ≡ g = cc in ap (λ h. Err (fault.Encoding h)) (sym same)

pub read_ok : (r : Reading Tree) (n : ℕ) → walked n ≡ visited_of r → IsOk r
read_ok (Ok x) n e = refl
read_ok (Err g) n e = absurd cc

pub read_tree : (r : Reading Tree) (n : ℕ) → walked n ≡ visited_of r → encoded r ≡ good (tree_read r)
read_tree (Ok x) n e = refl
read_tree (Err g) n e = absurd cc
