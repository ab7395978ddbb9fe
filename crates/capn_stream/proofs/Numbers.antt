-- What a front says of its numbers, and what they say of it.
use Rattle.std.proofs.Common.{◌≡◌, ℕ, ◌+◌, ◌*◌, ◌<◌, ◌≤◌, arith}
use Rattle.std.proofs.lemmas.Bool.Decides.{nat_tests}
use Rattle.capn_trees.specs.declared.faults.PayloadFault.{PayloadFault}
use Rattle.capn_reading.specs.Framing.{table_words}
use Rattle.capn_stream.specs.declared.front.Front.TheVariants.{Complete, Need, Fault}
use Rattle.capn_stream.specs.Fronts.{front_at}

module _ (len n words k : ℕ) where
  pub complete_counts : front_at len n words ≡ Complete k → 4 ≤ len
  complete_counts e = grind (arith, nat_tests)

  pub complete_few : front_at len n words ≡ Complete k → n ≤ 16
  complete_few e = grind (arith, nat_tests)

  pub complete_table : front_at len n words ≡ Complete k → 8 * table_words n ≤ len
  complete_table e = grind (arith, nat_tests)

  pub complete_small : front_at len n words ≡ Complete k → words ≤ 65536
  complete_small e = grind (arith, nat_tests)

  pub complete_is : front_at len n words ≡ Complete k → k ≡ 8 * (table_words n + words)
  complete_is e = grind (arith, nat_tests)

  pub complete_there : front_at len n words ≡ Complete k → k ≤ len
  complete_there e = grind (arith, nat_tests)

  pub is_complete : 4 ≤ len → n ≤ 16 → words ≤ 65536 → 8 * (table_words n + words) ≤ len → front_at len n words ≡ Complete (8 * (table_words n + words))
  is_complete counts few small there = grind (arith, nat_tests)

  pub need_more : front_at len n words ≡ Need k → len < k
  need_more e = grind (arith, nat_tests)

  pub need_few : front_at len n words ≡ Need k → k ≤ 72 + 8 * 65536
  need_few e = grind (arith, nat_tests)

  pub need_first : front_at len n words ≡ Need k → len < 4 → k ≡ 4
  need_first e less = grind (arith, nat_tests)

  pub need_table : front_at len n words ≡ Need k → 4 ≤ len → len < 8 * table_words n → k ≡ 8 * table_words n
  need_table e counts less = grind (arith, nat_tests)

  pub need_whole : front_at len n words ≡ Need k → 4 ≤ len → 8 * table_words n ≤ len → k ≡ 8 * (table_words n + words)
  need_whole e counts there = grind (arith, nat_tests)

module _ (len n words : ℕ) (f : PayloadFault) where
  pub fault_counts : front_at len n words ≡ Fault f → 4 ≤ len
  fault_counts e = grind (arith, nat_tests)

  pub fault_table : front_at len n words ≡ Fault f → n ≤ 16 → 8 * table_words n ≤ len
  fault_table e few = grind (arith, nat_tests)

  pub fault_many : (other more : ℕ) → front_at len n words ≡ Fault f → 16 < n → 4 ≤ other → front_at other n more ≡ Fault f
  fault_many other more e many counts = grind (arith, nat_tests)

  pub fault_few : (other : ℕ) → front_at len n words ≡ Fault f → n ≤ 16 → len ≤ other → front_at other n words ≡ Fault f
  fault_few other e few longer = grind (arith, nat_tests)
