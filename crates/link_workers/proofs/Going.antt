-- Going through the lines of a script: what holds of the first ones holds of one more.
use Rattle.std.proofs.Common.{◌≡◌, ◌<◌, ◌+◌, ℕ, suc, Bool, List, [], ◌∷◌, ◌++◌, length, take, None, refl, sym, ap, subst, ◌∙◌, arith}
use lib.ListN.{get_or}
use Rattle.std.proofs.lemmas.List.{take_more}
use Rattle.rpc_msg.specs.declared.ids.Vat.{Vat}
use Rattle.script_language.specs.declared.line.Line.{Line}
use Rattle.script_language.specs.declared.names.Names.{Names}
use Rattle.link_workers.specs.Playing.{Told, is_of, Idles, PlaysLine, Plays, Turns}

pub one_more : (xs : List Line) (i : ℕ) (x : Line) → i < length xs → x ≡ get_or xs i x → take (i + 1) xs ≡ take i xs ++ x ∷ []
one_more xs i x within is = take_more xs i x within ∙ ap (λ y. take i xs ++ y ∷ []) (sym is)

module _ {E : Type 0} (steps : E → Told → E → Type 0) (v : Vat) where
  plays_pushed : (old mid new : E) (names between now : Names) (xs : List Line) (x : Line)
      → Plays steps v old names xs mid between → PlaysLine steps (is_of v x) v mid between x new now → Plays steps v old names (xs ++ x ∷ []) new now
  plays_pushed old mid new names between now [] x played one =
      (new, now, subst (λ (e : E). PlaysLine steps (is_of v x) v e names x new now) played.0 (subst (λ (n : Names). PlaysLine steps (is_of v x) v mid n x new now) played.1 one), (refl, refl))
  plays_pushed old mid new names between now (y ∷ xs) x played one =
      (played.0, played.1, played.2, plays_pushed played.0 mid new played.1 between now xs x played.3 one)

  -- The lines that were played, where the next one was played, or is none of the vat's.
  pub plays_more : (old mid new : E) (names between now : Names) (xs : List Line) (i : ℕ) (x : Line) (own : Bool)
      → i < length xs → x ≡ get_or xs i x → Plays steps v old names (take i xs) mid between → own ≡ is_of v x → PlaysLine steps own v mid between x new now
      → Plays steps v old names (take (i + 1) xs) new now
  plays_more old mid new names between now xs i x own within is played so one =
      subst (λ (ys : List Line). Plays steps v old names ys new now) (sym (one_more xs i x within is))
      (plays_pushed old mid new names between now (take i xs) x played (subst (λ (b : Bool). PlaysLine steps b v mid between x new now) so one))

  -- One turn more found no frame.
  pub idles_more : (old mid new : E) (names between now : Names) (n : ℕ) → Idles steps v old names n mid between → Turns steps v mid between None new now → Idles steps v old names (n + 1) new now
  idles_more old mid new names between now n idles turns =
      let one : n + 1 ≡ suc n = omega arith in
      subst (λ (k : ℕ). Idles steps v old names k new now) (sym one) (mid, between, idles, turns)
