-- What a list of counts says of an id, part by part.
use Rattle.std.specs.Prelude.{◌≡◌, ℕ, ◌+◌, ◌<◌, cond, nat_eq, List, [], ◌∷◌, ◌++◌, length, take, get_or}
use Rattle.std.proofs.Common.{◌∙◌, ap, arith}
use Rattle.std.proofs.lemmas.List.{take_more}
use Rattle.rpc_msg.specs.declared.ids.ExportId.{ExportId}
use Rattle.rpc_check.specs.Counts.{CountsById, count_of, Sending, of_each}

pub count_of-append : (e : ℕ) (xs ys : CountsById) → count_of e (xs ++ ys) ≡ count_of e xs + count_of e ys
count_of-append e [] ys = omega arith
count_of-append e (x ∷ xs) ys = omega (arith, count_of-append e xs ys)

pub count_of-push : (e : ℕ) (xs : CountsById) (x : ExportId × ℕ) → count_of e (xs ++ x ∷ []) ≡ count_of e xs + cond (nat_eq e x.0.0) x.1 0
count_of-push e xs x = omega (arith, count_of-append e xs (x ∷ []))

pub count_of_more : (e : ℕ) (xs : CountsById) (i : ℕ) (d : ExportId × ℕ) → i < length xs → count_of e (take (i + 1) xs) ≡ count_of e (take i xs) + cond (nat_eq e (get_or xs i d).0.0) (get_or xs i d).1 0
count_of_more e xs i d within = ap (count_of e) (take_more xs i d within) ∙ count_of-push e (take i xs) (get_or xs i d)

pub of_each-push : (e : ℕ) (f : Sending → CountsById) (ss : List Sending) (s : Sending) → count_of e (of_each f (ss ++ s ∷ [])) ≡ count_of e (of_each f ss) + count_of e (f s)
of_each-push e f [] s = omega (arith, count_of-append e (f s) [])
of_each-push e f (x ∷ ss) s = omega (arith, count_of-append e (f x) (of_each f (ss ++ s ∷ [])), count_of-append e (f x) (of_each f ss), of_each-push e f ss s)
