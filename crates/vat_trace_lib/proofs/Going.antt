-- Going through the lines of a script: what holds of the first ones holds of one more.
use Rattle.std.proofs.Common.{◌≡◌, ◌<◌, ◌+◌, ℕ, List, [], ◌∷◌, ◌++◌, Result, Ok, Err, length, take, refl, sym, ap, subst, ◌∙◌}
use lib.ListN.{get_or}
use Rattle.std.proofs.lemmas.List.{take_more}
use Rattle.script_language.specs.declared.line.Line.{Line}
use Rattle.script_language.specs.declared.names.Names.{Names}
use Rattle.script_language.specs.declared.fault.NameFault.{NameFault}
use Rattle.script_language.specs.declared.fault.GiveFault.{GiveFault}
use Rattle.script_language.specs.declared.fault.GiveFault.TheVariants as gives
use Rattle.script_language.specs.Acting.{act_for}
use Rattle.vat_world.specs.World.{Seen}
use Rattle.vat_trace_lib.specs.Playing.{Plays, PlaysLine, StopsAt}
use Rattle.trace_file.proofs.Going.{one_more}

plays_pushed : (w mid new : Seen) (names now bound : Names) (xs : List Line) (x : Line)
    → Plays w names xs mid now → PlaysLine mid now x (Ok tt) new bound → Plays w names (xs ++ x ∷ []) new bound
plays_pushed w mid new names now bound [] x played one =
    (new, bound, subst (λ (v : Seen). PlaysLine v names x (Ok tt) new bound) played.0 (subst (λ (n : Names). PlaysLine mid n x (Ok tt) new bound) played.1 one), (refl, refl))
plays_pushed w mid new names now bound (y ∷ xs) x played one =
    (played.0, played.1, played.2, plays_pushed played.0 mid new played.1 now bound xs x played.3 one)

-- The lines that were played, where the next one was played.
pub plays_more : (w mid new : Seen) (names now bound : Names) (xs : List Line) (i : ℕ) (x : Line)
    → i < length xs → x ≡ get_or xs i x → Plays w names (take i xs) mid now → PlaysLine mid now x (Ok tt) new bound
    → Plays w names (take (i + 1) xs) new bound
plays_more w mid new names now bound xs i x within is played one =
    subst (λ (ys : List Line). Plays w names ys new bound) (sym (one_more xs i x within is)) (plays_pushed w mid new names now bound (take i xs) x played one)

-- The next line names something that is not there.
pub unnamed_next : (w mid new : Seen) (names now bound : Names) (xs : List Line) (i : ℕ) (x : Line) (r : Result Unit GiveFault) (g : GiveFault) (f : NameFault)
    → i < length xs → x ≡ get_or xs i x → Plays w names (take i xs) mid now → r ≡ Err g → g ≡ gives.Name f → PlaysLine mid now x r new bound
    → StopsAt w names xs (i + 1) f new bound
unnamed_next w mid new names now bound xs i x r g f within is played failed why one =
    let so : PlaysLine mid now x (Err (gives.Name f)) new bound = subst (λ (s : Result Unit GiveFault). PlaysLine mid now x s new bound) (failed ∙ ap Err why) one in (
      i,
      x,
      refl,
      one_more xs i x within is,
      subst (λ (n : Names). Plays w names (take i xs) new n) (sym so.2) (subst (λ (v : Seen). Plays w names (take i xs) v now) (sym so.1) played),
      subst (λ (n : Names). act_for n x ≡ Err f) (sym so.2) so.0,
    )
