-- What one more entry adds to a filter of the entries.
use Rattle.std.specs.Prelude.{◌≡◌, ◌+◌, Bool, true, false, cond, Option, None, Some, List, [], ◌∷◌, ◌++◌, length, filter}
use Rattle.std.specs.List.{list_all}
use Rattle.std.proofs.Common.{refl, ◌∙◌, ap}
use Rattle.std.proofs.lemmas.List.{append-nil, length-append}
use Rattle.std.proofs.lemmas.List.Elements.{filter-append}
use Rattle.std.proofs.lemmas.Bool.{and_from}
use Rattle.rpc_journal.specs.declared.entry.JournalEntry.{JournalEntry}
use Rattle.rpc_journal.specs.History.{in_front, all_that}

pub in_front-append : {X : Type 0} (o : Option X) (xs ys : List X) → in_front o (xs ++ ys) ≡ in_front o xs ++ ys
in_front-append None xs ys = refl
in_front-append (Some x) xs ys = refl

pub all_that_more : {X : Type 0} (f : JournalEntry → Option X) (h : List JournalEntry) (e : JournalEntry) → all_that f (h ++ e ∷ []) ≡ all_that f h ++ in_front (f e) []
all_that_more f [] e = refl
all_that_more f (x ∷ h) e = ap (in_front (f x)) (all_that_more f h e) ∙ in_front-append (f x) (all_that f h) (in_front (f e) [])

pub all_that_same : {X : Type 0} (f : JournalEntry → Option X) (h : List JournalEntry) (e : JournalEntry) → f e ≡ None → all_that f (h ++ e ∷ []) ≡ all_that f h
all_that_same f h e none = all_that_more f h e ∙ ap (λ o. all_that f h ++ in_front o []) none ∙ append-nil (all_that f h)

abbrev pub option_all : {X : Type 0} → (X → Bool) → Option X → Bool
option_all p None = true
option_all p (Some x) = p x

front_all : {X : Type 0} (p : X → Bool) (o : Option X) (xs : List X) → option_all p o ≡ true → list_all p xs ≡ true → list_all p (in_front o xs) ≡ true
front_all p None xs one all = all
front_all p (Some x) xs one all = and_from (p x) (list_all p xs) one all

-- What is true of what each entry gives is true of all that they give.
pub all_that_all : {X : Type 0} (p : X → Bool) (f : JournalEntry → Option X) → ((e : JournalEntry) → option_all p (f e) ≡ true) → (h : List JournalEntry) → list_all p (all_that f h) ≡ true
all_that_all p f each [] = refl
all_that_all p f each (x ∷ h) = front_all p (f x) (all_that f h) (each x) (all_that_all p f each h)

one_or_none : (p : JournalEntry → Bool) (e : JournalEntry) (b : Bool) → length (cond b (e ∷ []) []) ≡ cond b 1 0
one_or_none p e true = refl
one_or_none p e false = refl

pub count_more : (p : JournalEntry → Bool) (h : List JournalEntry) (e : JournalEntry) → length (filter p (h ++ e ∷ [])) ≡ length (filter p h) + cond (p e) 1 0
count_more p h e =
    ap length (filter-append p h (e ∷ []))
    ∙ length-append (filter p h) (filter p (e ∷ []))
    ∙ ap (λ n. length (filter p h) + n) (one_or_none p e (p e))
