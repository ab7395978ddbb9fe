-- One more id, at the end of a list.
use Rattle.std.proofs.Common.{◌≡◌, ℕ, ◌+◌, ◌≤◌, ◌<◌, Bool, true, false, ◌&&◌, cond, zero, suc, List, [], ◌∷◌, ◌++◌, length, take, get_or, refl, sym, ap, ◌∙◌, arith}
use Rattle.std.specs.Bool.{◌==◌}
use Rattle.std.specs.List.{list_all}
use Rattle.std.specs.FinMap as map
use Rattle.finite_maps.specs.Tally.{Map}
use Rattle.rpc_msg.specs.declared.ids.ExportId.{ExportId}
use Rattle.rpc_machine.specs.declared.entries.Import.{Import}
use Rattle.rpc_machine.specs.declared.command.Level.{Level}
use Rattle.rpc_machine.specs.declared.command.Level.TheVariants.{One}
use Rattle.rpc_machine.specs.State.{State}
use Rattle.rpc_machine.specs.Flags.{give_one, give_each, is_spared, flag_at, flag_for}
use Rattle.rpc_machine.specs.Lists.{how_many}
use Rattle.rpc_machine.specs.Progress.{numbers}

pub give_more : (m : Map Import) (es : List ExportId) (e : ExportId) → give_each m (numbers (es ++ e ∷ [])) ≡ give_one (give_each m (numbers es)) e.0 (map.get (give_each m (numbers es)) e.0)
give_more m [] e = refl
give_more m (x ∷ es) e = give_more (give_one m x.0 (map.get m x.0)) es e

pub counted : (b : Bool) (n m k : ℕ) → n ≡ m + k → cond b (suc n) n ≡ cond b (suc m) m + k
counted true n m k e = omega (arith, e)
counted false n m k e = e

pub many_more : (test : ℕ → Bool) (es : List ExportId) (e : ExportId) → how_many test (numbers (es ++ e ∷ [])) ≡ how_many test (numbers es) + cond (test e.0) 1 0
many_more test [] e = go (test e.0) where
  go : (b : Bool) → cond b 1 0 ≡ 0 + cond b 1 0
  go true = refl
  go false = refl
many_more test (x ∷ es) e = counted (test x.0) (how_many test (numbers (es ++ e ∷ []))) (how_many test (numbers es)) (cond (test e.0) 1 0) (many_more test es e)

pub at_most_one : (b : Bool) → cond b 1 0 ≤ 1
at_most_one true = omega (arith)
at_most_one false = omega (arith)

pub all_more : (test : ℕ → Bool) (es : List ExportId) (e : ExportId) → list_all test (numbers (es ++ e ∷ [])) ≡ list_all test (numbers es) && test e.0
all_more test [] e = last (test e.0) where
  last : (b : Bool) → (b && true) ≡ b
  last true = refl
  last false = refl
all_more test (x ∷ es) e = also (test x.0) (list_all test (numbers es)) (test e.0) (list_all test (numbers (es ++ e ∷ []))) (all_more test es e) where
  also : (a b c d : Bool) → d ≡ b && c → (a && d) ≡ (a && b) && c
  also true b c d h = h
  also false b c d h = refl

-- One of them fails the test.
pub one_fails : (test : ℕ → Bool) (es : List ExportId) (i : ℕ) (none : ExportId) → i < length es → test ((get_or es i none).0) ≡ false → list_all test (numbers es) ≡ false
one_fails test [] i none lt h = absurd (omega (arith, lt))
one_fails test (x ∷ es) zero none lt h = ap (λ (b : Bool). b && list_all test (numbers es)) h
one_fails test (x ∷ es) (suc i) none lt h = both (test x.0) (list_all test (numbers es)) (one_fails test es i none (omega (arith, lt)) h) where
  both : (a b : Bool) → b ≡ false → (a && b) ≡ false
  both true b g = g
  both false b g = refl

and_left : (a b : Bool) → (a && b) ≡ true → a ≡ true
and_left true b so = refl
and_left false b so = so

and_right : (a b : Bool) → (a && b) ≡ true → b ≡ true
and_right true b so = so
and_right false b so = absurd (let e : false ≡ true = so in cc)

-- An id that stands among those that pass passes.
pub stands_passes : (test : ℕ → Bool) (es : List ExportId) (i k : ℕ) (none : ExportId) → i ≤ length es → k < i → list_all test (numbers (take i es)) ≡ true → test ((get_or es k none).0) ≡ true
stands_passes test [] i k none within lt all = absurd (omega (arith, within, lt))
stands_passes test (x ∷ es) zero k none within lt all = absurd (omega (arith, lt))
stands_passes test (x ∷ es) (suc i) zero none within lt all = and_left (test x.0) (list_all test (numbers (take i es))) all
stands_passes test (x ∷ es) (suc i) (suc k) none within lt all = stands_passes test es i k none (omega (arith, within)) (omega (arith, lt)) (and_right (test x.0) (list_all test (numbers (take i es))) all)

-- The flag of a level 1 vat for some ids.
pub flagged : (s : State) (es : List ExportId) (b : Bool) → s.level ≡ One → (length es == 0) ≡ false → b ≡ list_all (is_spared s (numbers es)) (numbers es) → b ≡ flag_for s (numbers es)
flagged s [] b at some is = absurd (let h : true ≡ false = some in cc)
flagged s (e ∷ es) b at some is = is ∙ ap (λ (v : Level). flag_at v s (numbers (e ∷ es))) (sym at)
