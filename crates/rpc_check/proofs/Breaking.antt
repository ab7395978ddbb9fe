-- Which of the four laws an entry breaks first.
use Rattle.std.specs.Prelude.{◌≡◌, Bool, true, false, cond, not, Option}
use Rattle.std.proofs.Common.{refl}
use Rattle.rpc_check.specs.declared.verdict.Verdict.{Verdict}

pub breaks : (b : Bool) (x y : Option Verdict) → b ≡ true → x ≡ cond b x y
breaks true x y so = refl
breaks false x y so = absurd (let e : false ≡ true = so in cc)

pub keeps : (b : Bool) (x y : Option Verdict) → b ≡ false → y ≡ cond b x y
keeps true x y so = absurd (let e : true ≡ false = so in cc)
keeps false x y so = refl

pub is_broken : (b k : Bool) → k ≡ not b → k ≡ false → b ≡ true
is_broken true k is so = refl
is_broken false k is so = let e : k ≡ true = is in let f : k ≡ false = so in absurd (let g : true ≡ false = cc in cc)

pub is_kept : (b k : Bool) → k ≡ not b → k ≡ true → b ≡ false
is_kept false k is so = refl
is_kept true k is so = let e : k ≡ false = is in let f : k ≡ true = so in absurd (let g : false ≡ true = cc in cc)
