-- The ids that descriptors give, one descriptor after the other.
use Rattle.std.proofs.Common.{◌≡◌, ℕ, ◌+◌, ◌<◌, ◌≤◌, Bool, true, false, not, ◌&&◌, zero, suc, List, [], ◌∷◌, ◌++◌, append_assoc, length, take, get_or, Option, None, Some, refl, sym, ap, ◌∙◌, arith}
use Rattle.std.specs.Prelude.{is_some, option_to_list}
use Rattle.std.specs.List.{list_all}
use Rattle.std.specs.FinMap as map
use Rattle.std.proofs.lemmas.List.Folds.{list_all-append}
use Rattle.finite_maps.specs.Tally.{Map}
use Rattle.rpc_msg.specs.declared.ids.ExportId.{ExportId}
use Rattle.rpc_msg.specs.declared.parts.Descriptor.{Descriptor}
use Rattle.rpc_msg.specs.declared.parts.Descriptor.TheVariants as descriptor
use Rattle.rpc_msg.specs.Messages.{given}
use Rattle.rpc_machine.specs.declared.node.Node.{Node}
use Rattle.rpc_machine.specs.declared.entries.Import.{Import}
use Rattle.rpc_machine.specs.Flags.{give_one, give_each}
use Rattle.rpc_machine.specs.Lists.{how_many, is_empty}
use Rattle.rpc_machine.specs.Progress.{numbers}
use Rattle.rpc_machine.specs.Sweeping.{descriptors_said}
use Rattle.core_step_collects.proofs.Giving.{counted}

abbrev pub got : List (Descriptor × Node) → List ℕ
got cs = given (descriptors_said cs)

abbrev pub got_by : Descriptor → List ℕ
got_by d = given (d ∷ [])

given_first : (d : Descriptor) (ds : List Descriptor) → given (d ∷ ds) ≡ got_by d ++ given ds
given_first descriptor.None ds = refl
given_first (descriptor.SenderHosted e) ds = refl
given_first (descriptor.SenderPromise e) ds = refl
given_first (descriptor.ReceiverHosted e) ds = refl
given_first (descriptor.ReceiverAnswer q path) ds = refl

pub got_more : (cs : List (Descriptor × Node)) (c : Descriptor × Node) → got (cs ++ c ∷ []) ≡ got cs ++ got_by c.0
got_more [] c = refl
got_more (x ∷ cs) c =
    given_first x.0 (descriptors_said (cs ++ c ∷ [])) ∙ ap (λ (es : List ℕ). got_by x.0 ++ es) (got_more cs c) ∙ sym (append_assoc (got_by x.0) (got cs) (got_by c.0))
    ∙ ap (λ (es : List ℕ). es ++ got_by c.0) (sym (given_first x.0 (descriptors_said cs)))

-- ---- Counting

many_append : (test : ℕ → Bool) (xs ys : List ℕ) → how_many test (xs ++ ys) ≡ how_many test xs + how_many test ys
many_append test [] ys = omega (arith)
many_append test (x ∷ xs) ys = counted (test x) (how_many test (xs ++ ys)) (how_many test xs) (how_many test ys) (many_append test xs ys)

pub many_got : (test : ℕ → Bool) (cs : List (Descriptor × Node)) (c : Descriptor × Node) → how_many test (got (cs ++ c ∷ [])) ≡ how_many test (got cs) + how_many test (got_by c.0)
many_got test cs c = ap (how_many test) (got_more cs c) ∙ many_append test (got cs) (got_by c.0)

-- ---- One of them gives an id

empty_append : (xs ys : List ℕ) → is_empty (xs ++ ys) ≡ is_empty xs && is_empty ys
empty_append [] ys = refl
empty_append (x ∷ xs) ys = refl

and_second : (a b : Bool) → b ≡ false → (a && b) ≡ false
and_second true b g = g
and_second false b g = refl

and_first : (a b : Bool) → a ≡ false → (a && b) ≡ false
and_first a b g = ap (λ (x : Bool). x && b) g

pub empty_more : (cs : List (Descriptor × Node)) (c : Descriptor × Node) → is_empty (got cs) ≡ true → is_empty (got_by c.0) ≡ true → is_empty (got (cs ++ c ∷ [])) ≡ true
empty_more cs c a b = ap is_empty (got_more cs c) ∙ empty_append (got cs) (got_by c.0) ∙ ap (λ (x : Bool). x && is_empty (got_by c.0)) a ∙ b

pub gives_one : (cs : List (Descriptor × Node)) (i : ℕ) (none : Descriptor × Node) → i < length cs → is_empty (got_by ((get_or cs i none).0)) ≡ false → is_empty (got cs) ≡ false
gives_one [] i none lt h = absurd (omega (arith, lt))
gives_one (x ∷ cs) zero none lt h = ap is_empty (given_first x.0 (descriptors_said cs)) ∙ empty_append (got_by x.0) (got cs) ∙ and_first (is_empty (got_by x.0)) (is_empty (got cs)) h
gives_one (x ∷ cs) (suc i) none lt h =
    ap is_empty (given_first x.0 (descriptors_said cs)) ∙ empty_append (got_by x.0) (got cs) ∙ and_second (is_empty (got_by x.0)) (is_empty (got cs)) (gives_one cs i none (omega (arith, lt)) h)

pub is_there : (d : Descriptor) (o : Option ExportId) → got_by d ≡ numbers (option_to_list o) → is_empty (got_by d) ≡ not (is_some o)
is_there d None e = ap is_empty e
is_there d (Some x) e = ap is_empty e

-- ---- Each of them passes a test

pub all_got : (test : ℕ → Bool) (cs : List (Descriptor × Node)) (c : Descriptor × Node) → list_all test (got (cs ++ c ∷ [])) ≡ list_all test (got cs) && list_all test (got_by c.0)
all_got test cs c = ap (list_all test) (got_more cs c) ∙ list_all-append test (got cs) (got_by c.0)

first_all : (test : ℕ → Bool) (x : Descriptor × Node) (cs : List (Descriptor × Node)) → list_all test (got (x ∷ cs)) ≡ list_all test (got_by x.0) && list_all test (got cs)
first_all test x cs = ap (list_all test) (given_first x.0 (descriptors_said cs)) ∙ list_all-append test (got_by x.0) (got cs)

pub one_got_fails : (test : ℕ → Bool) (cs : List (Descriptor × Node)) (i : ℕ) (none : Descriptor × Node) → i < length cs → list_all test (got_by ((get_or cs i none).0)) ≡ false → list_all test (got cs) ≡ false
one_got_fails test [] i none lt h = absurd (omega (arith, lt))
one_got_fails test (x ∷ cs) zero none lt h = first_all test x cs ∙ and_first (list_all test (got_by x.0)) (list_all test (got cs)) h
one_got_fails test (x ∷ cs) (suc i) none lt h = first_all test x cs ∙ and_second (list_all test (got_by x.0)) (list_all test (got cs)) (one_got_fails test cs i none (omega (arith, lt)) h)

got_left : (a b : Bool) → (a && b) ≡ true → a ≡ true
got_left true b so = refl
got_left false b so = so

got_right : (a b : Bool) → (a && b) ≡ true → b ≡ true
got_right true b so = so
got_right false b so = absurd (let e : false ≡ true = so in cc)

-- What stands among those that pass passes.
pub stands_passes_got : (test : ℕ → Bool) (cs : List (Descriptor × Node)) (i k : ℕ) (c : Descriptor × Node) → i ≤ length cs → k < i → c ≡ get_or cs k c → list_all test (got (take i cs)) ≡ true → list_all test (got_by c.0) ≡ true
stands_passes_got test [] i k c within lt is all = absurd (omega (arith, within, lt))
stands_passes_got test (x ∷ cs) zero k c within lt is all = absurd (omega (arith, lt))
stands_passes_got test (x ∷ cs) (suc i) zero c within lt is all =
    ap (λ (y : Descriptor × Node). list_all test (got_by y.0)) is ∙ got_left (list_all test (got_by x.0)) (list_all test (got (take i cs))) (sym (first_all test x (take i cs)) ∙ all)
stands_passes_got test (x ∷ cs) (suc i) (suc k) c within lt is all =
    stands_passes_got test cs i k c (omega (arith, within)) (omega (arith, lt)) is (got_right (list_all test (got_by x.0)) (list_all test (got (take i cs))) (sym (first_all test x (take i cs)) ∙ all))

and_true : (b : Bool) → (b && true) ≡ b
and_true true = refl
and_true false = refl

pub spared_id : (test : ℕ → Bool) (d : Descriptor) (e : ExportId) → got_by d ≡ numbers (option_to_list (Some e)) → list_all test (got_by d) ≡ test e.0
spared_id test d e h = ap (list_all test) h ∙ and_true (test e.0)

-- ---- Given back

give_append : (m : Map Import) (xs ys : List ℕ) → give_each m (xs ++ ys) ≡ give_each (give_each m xs) ys
give_append m [] ys = refl
give_append m (x ∷ xs) ys = give_append (give_one m x (map.get m x)) xs ys

pub give_got : (m : Map Import) (cs : List (Descriptor × Node)) (c : Descriptor × Node) → give_each m (got (cs ++ c ∷ [])) ≡ give_each (give_each m (got cs)) (got_by c.0)
give_got m cs c = ap (give_each m) (got_more cs c) ∙ give_append m (got cs) (got_by c.0)
