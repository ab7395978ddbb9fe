-- Where no bytes wait, the connection is asked.
use Rattle.std.proofs.Common.{◌≡◌, ℕ, true, List, [], ◌∷◌, ◌==◌, length, arith}
use Rattle.std.proofs.lemmas.Bool.{eqb-true}
use Rattle.vat_connection.specs.Connecting.{Gives}
use Rattle.lovendak_c_desk.specs.declared.desk.Desk.{Desk}
use Rattle.lovendak_c_desk.specs.Desks.{SaysBehind}

pub says_anew : (waiting : List ℕ) (old new : Desk) → (length waiting == 0) ≡ true → Gives old.connection new.waiting new.connection → new.event ≡ old.event → SaysBehind waiting old new
says_anew [] old new e gives same = (gives, same)
says_anew (b ∷ bytes) old new e gives same = let k : length (b ∷ bytes) ≡ 0 = eqb-true (length (b ∷ bytes)) 0 e in absurd (omega (arith, k))
