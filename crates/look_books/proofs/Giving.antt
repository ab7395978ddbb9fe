-- Exports that are given, and given back one by one.
use Rattle.std.proofs.Common.{◌≡◌, ℕ, ◌+◌, ◌<◌, ◌≤◌, Option, option_to_list, List, [], ◌∷◌, ◌++◌, length, get_or, take, drop, cond, nat_eq, sym, ap, subst, ◌∙◌, append_assoc, add_assoc, arith}
use Rattle.std.proofs.lemmas.List.{append-nil, drop_all, get_or_default, take_more}
use Rattle.rpc_msg.specs.declared.ids.ExportId.{ExportId}
use Rattle.rpc_msg.specs.declared.parts.Descriptor.{Descriptor}
use Rattle.look_books.specs.declared.breach.Breach.{Breach}
use Rattle.look_books.specs.declared.breach.GivenBack.{GivenBack}
use Rattle.look_books.specs.Ends.{Kept}
use Rattle.look_books.specs.declared.judge.Found.{Found}
use Rattle.look_books.specs.Checks.{Says, Finds, both, back, breaks, all_given, given_by, times_in, none_left, too_many_of}
use Rattle.look_books.proofs.Finding.{Leaves, drop_more, leaves_more, leaves_none}

-- An item is there whatever stands for none.
pub same_item : (xs : List ExportId) (i : ℕ) (none : ExportId) → i < length xs → get_or xs i none ≡ get_or xs i (get_or xs i none)
same_item xs i none lt = get_or_default xs i none (get_or xs i none) lt

pub given_more : (ds : List Descriptor) (i : ℕ) (x : Descriptor) (now next whole : List ExportId) → i < length ds → x ≡ get_or ds i x
    → now ++ all_given (drop i ds) ≡ whole → next ≡ now ++ option_to_list (given_by x) → next ++ all_given (drop (i + 1) ds) ≡ whole
given_more ds i x now next whole lt is e f =
    ap (λ l. l ++ all_given (drop (i + 1) ds)) f
    ∙ append_assoc now (option_to_list (given_by x)) (all_given (drop (i + 1) ds))
    ∙ sym (ap (λ l. now ++ all_given l) (drop_more ds i x lt is)) ∙ e

pub given_all : (ds : List Descriptor) (i : ℕ) (now whole : List ExportId) → length ds ≤ i → now ++ all_given (drop i ds) ≡ whole → now ≡ whole
given_all ds i now whole le e = sym (append-nil now) ∙ sym (ap (λ l. now ++ all_given l) (drop_all i ds le)) ∙ e

-- ---- given back

times_more : (k : ℕ) (xs : List ExportId) (x : ExportId) → times_in k (xs ++ x ∷ []) ≡ times_in k xs + cond (nat_eq k x.0) 1 0
times_more k [] x = omega arith
times_more k (y ∷ ys) x = ap (λ n. cond (nat_eq k y.0) 1 0 + n) (times_more k ys x) ∙ sym (add_assoc (cond (nat_eq k y.0) 1 0) (times_in k ys) (cond (nat_eq k x.0) 1 0))

pub times_next : (k : ℕ) (xs : List ExportId) (i : ℕ) (none : ExportId) → i < length xs → times_in k (take (i + 1) xs) ≡ times_in k (take i xs) + cond (nat_eq k (get_or xs i none).0) 1 0
times_next k xs i none lt = ap (times_in k) (take_more xs i none lt) ∙ times_more k (take i xs) (get_or xs i none)

pub back_more : (heard : Kept) (b : GivenBack) (xs : List ExportId) (i : ℕ) (x : ExportId) (gone : ℕ) (found : Option Breach) {a m n : Found} {w : Says} → i < length xs → x ≡ get_or xs i x
    → Leaves a m (back (too_many_of heard b (take i xs) (drop i xs))) w
    → gone ≡ times_in x.0 (take i xs) → found ≡ none_left heard b x gone → Finds m n (breaks found)
    → Leaves a n (back (too_many_of heard b (take (i + 1) xs) (drop (i + 1) xs))) w
back_more heard b xs i x gone found {a} {m} {n} {w} lt is left e f y =
    let rest = drop (i + 1) xs in
    let l : Leaves a m (both (breaks (none_left heard b x (times_in x.0 (take i xs)))) (back (too_many_of heard b (take i xs ++ x ∷ []) rest))) w =
    subst (λ (l : List ExportId). Leaves a m (back (too_many_of heard b (take i xs) l)) w) (drop_more xs i x lt is) left in
    let y1 : Finds m n (breaks (none_left heard b x (times_in x.0 (take i xs)))) =
    subst (λ (o : Option Breach). Finds m n (breaks o)) (f ∙ ap (none_left heard b x) e) y in
    let z : Leaves a n (back (too_many_of heard b (take i xs ++ x ∷ []) rest)) w =
    leaves_more {s = breaks (none_left heard b x (times_in x.0 (take i xs)))} {t = back (too_many_of heard b (take i xs ++ x ∷ []) rest)} l y1 in
    subst (λ (l : List ExportId). Leaves a n (back (too_many_of heard b l rest)) w) (sym (take_more xs i x lt ∙ ap (λ y. take i xs ++ y ∷ []) (sym is))) z

pub back_all : (heard : Kept) (b : GivenBack) (before xs : List ExportId) (i : ℕ) {a m : Found} {w : Says} → length xs ≤ i → Leaves a m (back (too_many_of heard b before (drop i xs))) w → Finds a m w
back_all heard b before xs i {a} {m} {w} le x = leaves_none (subst (λ (l : List ExportId). Leaves a m (back (too_many_of heard b before l)) w) (drop_all i xs le) x)
