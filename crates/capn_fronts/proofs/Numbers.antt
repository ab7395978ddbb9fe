-- What a front says of its numbers, and how much is kept.
use Rattle.std.proofs.Common.{◌≡◌, ℕ, ◌+◌, ◌*◌, ◌<◌, ◌≤◌, arith}
use Rattle.std.proofs.lemmas.Bool.Decides.{nat_tests}
use Rattle.capn_reading.specs.Framing.{table_words}
use Rattle.capn_trees.specs.declared.faults.PayloadFault.{PayloadFault}
use Rattle.capn_trees.specs.declared.faults.PayloadFault.TheVariants.{TooManySegments, TooLarge}
use Rattle.capn_stream.specs.declared.front.Front.TheVariants.{Complete, Need, Fault}
use Rattle.capn_fronts.specs.Parts.{front_at, keeps_at, kept_at}

module _ (len n words k : ℕ) where
  pub complete_counts : front_at len n words ≡ Complete k → 4 ≤ len
  complete_counts e = grind (arith, nat_tests)

  pub complete_few : front_at len n words ≡ Complete k → n ≤ 16
  complete_few e = grind (arith, nat_tests)

  pub complete_table : front_at len n words ≡ Complete k → 8 * table_words n ≤ len
  complete_table e = grind (arith, nat_tests)

  pub complete_is : front_at len n words ≡ Complete k → k ≡ 8 * (table_words n + words)
  complete_is e = grind (arith, nat_tests)

  pub complete_small : front_at len n words ≡ Complete k → words ≤ 8388608
  complete_small e = grind (arith, nat_tests)

  pub complete_there : front_at len n words ≡ Complete k → k ≤ len
  complete_there e = grind (arith, nat_tests)

  pub need_more : front_at len n words ≡ Need k → len < k
  need_more e = grind (arith, nat_tests)

  pub need_first : front_at len n words ≡ Need k → len < 4 → k ≡ 4
  need_first e less = grind (arith, nat_tests)

  pub need_few : front_at len n words ≡ Need k → 4 ≤ len → n ≤ 16
  need_few e counts = grind (arith, nat_tests)

  pub need_table : front_at len n words ≡ Need k → 4 ≤ len → len < 8 * table_words n → k ≡ 8 * table_words n
  need_table e counts less = grind (arith, nat_tests)

  pub need_whole : front_at len n words ≡ Need k → 4 ≤ len → 8 * table_words n ≤ len → k ≡ 8 * (table_words n + words)
  need_whole e counts there = grind (arith, nat_tests)

  pub need_small : front_at len n words ≡ Need k → 4 ≤ len → 8 * table_words n ≤ len → words ≤ 8388608
  need_small e counts there = grind (arith, nat_tests)

module _ (len n words : ℕ) where
  pub keeps_first : len < 4 → keeps_at len n words ≡ 4
  keeps_first less = grind (arith, nat_tests)

  pub keeps_many : 4 ≤ len → 16 < n → keeps_at len n words ≡ 4
  keeps_many counts many = grind (arith, nat_tests)

  pub keeps_table : 4 ≤ len → n ≤ 16 → len < 8 * table_words n → keeps_at len n words ≡ 8 * table_words n
  keeps_table counts few less = grind (arith, nat_tests)

  pub keeps_then : 4 ≤ len → n ≤ 16 → 8 * table_words n ≤ len → keeps_at len n words ≡ kept_at n words
  keeps_then counts few there = grind (arith, nat_tests)

module _ (n words : ℕ) where
  pub kept_all : words ≤ 65536 → kept_at n words ≡ 8 * (table_words n + words)
  kept_all small = grind (arith, nat_tests)

  pub kept_front : 65536 < words → kept_at n words ≡ 8 * (table_words n + 1024)
  kept_front large = grind (arith, nat_tests)

module _ (len n words : ℕ) (f : PayloadFault) where
  pub fault_counts : front_at len n words ≡ Fault f → 4 ≤ len
  fault_counts e = grind (arith, nat_tests)

  pub fault_many : front_at len n words ≡ Fault f → 16 < n → f ≡ TooManySegments
  fault_many e many = grind (arith, nat_tests)

  pub fault_table : front_at len n words ≡ Fault f → n ≤ 16 → 8 * table_words n ≤ len
  fault_table e few = grind (arith, nat_tests)

  pub fault_words : front_at len n words ≡ Fault f → n ≤ 16 → 8388608 < words
  fault_words e few = grind (arith, nat_tests)

  pub fault_large : front_at len n words ≡ Fault f → n ≤ 16 → f ≡ TooLarge
  fault_large e few = grind (arith, nat_tests)

module _ (len n words : ℕ) where
  pub is_many : 4 ≤ len → 16 < n → front_at len n words ≡ Fault TooManySegments
  is_many counts many = grind (arith, nat_tests)

  pub is_large : 4 ≤ len → n ≤ 16 → 8 * table_words n ≤ len → 8388608 < words → front_at len n words ≡ Fault TooLarge
  is_large counts few there large = grind (arith, nat_tests)
