-- Texts in UTF-8, and texts that are not.
use Rattle.std.proofs.Common.{◌≡◌, Bool, true, false, List, ℕ, map, refl}
use Rattle.std.proofs.lemmas.Str.{IsUtf8-from_is_utf8, is_utf8-from_IsUtf8}
use Rattle.std.specs.Str.{IsUtf8, is_utf8}
use Rattle.rpc_codec_parts.specs.Exceptions.{plain_byte, readable}

pub readable_good : (bs : List ℕ) → IsUtf8 bs → readable bs ≡ bs
readable_good bs utf8 = rw (is_utf8-from_IsUtf8 bs utf8) refl

pub readable_bad : (bs : List ℕ) → ¬ (IsUtf8 bs) → readable bs ≡ map plain_byte bs
readable_bad bs bad = go (is_utf8 bs) refl
  where
    go : (b : Bool) → is_utf8 bs ≡ b → readable bs ≡ map plain_byte bs
    go true e = absurd (bad (IsUtf8-from_is_utf8 bs e))
    go false e = rw e refl

pub never : false ≡ true → ⊥
never e = absurd cc
