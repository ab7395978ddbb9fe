-- A map without zeros stays so where a count is set that is none, and where one is taken out.
use Rattle.std.proofs.Common.{◌≡◌, ◌≢◌, ℕ, zero, suc, ◌<◌, Some, arith}
use Rattle.std.specs.FinMap as map
use Rattle.finite_maps.specs.Tally.{Map}
use Rattle.finite_maps.proofs.Gets.{each_inserted, each_removed}
use Rattle.core_refcounts.specs.Names.{HasNoZeros}

pub no_zeros_set : (m : Map ℕ) (k v : ℕ) → 0 < v → HasNoZeros m → HasNoZeros (map.insert m k v)
no_zeros_set m k v some h = each_inserted (λ q o. o ≢ Some 0) m k v (λ e. let z : v ≡ 0 = cc in omega (arith, some, z)) (λ q apart. h q)

pub no_zeros_gone : (m : Map ℕ) (k : ℕ) → HasNoZeros m → HasNoZeros (map.remove m k)
no_zeros_gone m k h = each_removed (λ q o. o ≢ Some 0) m k (λ e. cc) (λ q apart. h q)

-- What has a count was counted.
pub some_count : (m : Map ℕ) (k n : ℕ) → map.get m k ≡ Some n → HasNoZeros m → 0 < n
some_count m k n there h = by n there
  where
    by : (n : ℕ) → map.get m k ≡ Some n → 0 < n
    by zero is = absurd (h k is)
    by (suc j) is = omega arith
