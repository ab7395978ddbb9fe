-- What is found behind what was found before.
use Rattle.std.proofs.Common.{◌≡◌, ℕ, Option, ◌+◌, ◌<◌, ◌≤◌, List, [], ◌∷◌, ◌++◌, length, get_or, drop, refl, sym, ap, subst, ◌∙◌, append_assoc, add-one}
use Rattle.std.proofs.lemmas.List.{append-nil, drop_all}
use Rattle.std.proofs.Math.Seq.{drop-cons}
use Rattle.rpc_msg.specs.declared.parts.Descriptor.{Descriptor}
use Rattle.look_books.specs.declared.breach.Breach.{Breach}
use Rattle.look_books.specs.declared.breach.Use.TheVariants as usage
use Rattle.look_pieces.specs.declared.piece.Side.{Side}
use Rattle.look_pieces.specs.Pieces.{other_side}
use Rattle.look_books.specs.declared.books.Books.{Books}
use Rattle.look_books.specs.declared.end.End.{End}
use Rattle.look_books.specs.Acts.{Does}
use Rattle.look_books.specs.Ends.{Kept, kept_of, end_of}
use Rattle.look_books.specs.declared.judge.Found.{Found}
use Rattle.look_books.specs.Checks.{Says, Finds, IsVerdict, both, nothing, breaks, behind_abort, judged, verdict, named, named_from}

pub finds_both : {a b c : Found} {s t : Says} → Finds a b s → Finds b c t → Finds a c (both s t)
finds_both {a} {b} {c} {s} {t} x y = record {
  breaches = y.breaches ∙ ap (λ l. l ++ t.breaches) x.breaches ∙ append_assoc a.breaches.items s.breaches t.breaches;
  oddities = y.oddities ∙ ap (λ l. l ++ t.oddities) x.oddities ∙ append_assoc a.oddities.items s.oddities t.oddities;
}

pub finds_nothing : (a : Found) → Finds a a nothing
finds_nothing a = record {
  breaches = sym (append-nil a.breaches.items);
  oddities = sym (append-nil a.oddities.items);
}

-- The same, where what is found is the value of a call.
pub finds_both_by : {a b c : Found} {s s1 t t1 : Says} → s ≡ s1 → t ≡ t1 → Finds a b s → Finds b c t → Finds a c (both s1 t1)
finds_both_by {a} {b} {c} {s} {s1} {t} {t1} e f x y =
    finds_both (subst (λ (u : Says). Finds a b u) e x) (subst (λ (u : Says). Finds b c u) f y)

-- What is found so far, and what is left to be found, are the whole.
pub record Leaves (old now : Found) (rest whole : Says) : Type 0 where
  pub breaches : now.breaches.items ++ rest.breaches ≡ old.breaches.items ++ whole.breaches
  pub oddities : now.oddities.items ++ rest.oddities ≡ old.oddities.items ++ whole.oddities

pub leaves_all : (a : Found) (s : Says) → Leaves a a s s
leaves_all a s = record { breaches = refl; oddities = refl }

pub leaves_more : {a b c : Found} {s t w : Says} → Leaves a b (both s t) w → Finds b c s → Leaves a c t w
leaves_more {a} {b} {c} {s} {t} {w} x y = record {
  breaches = ap (λ l. l ++ t.breaches) y.breaches ∙ append_assoc b.breaches.items s.breaches t.breaches ∙ x.breaches;
  oddities = ap (λ l. l ++ t.oddities) y.oddities ∙ append_assoc b.oddities.items s.oddities t.oddities ∙ x.oddities;
}

pub leaves_none : {a b : Found} {w : Says} → Leaves a b nothing w → Finds a b w
leaves_none {a} {b} {w} x = record {
  breaches = sym (append-nil b.breaches.items) ∙ x.breaches;
  oddities = sym (append-nil b.oddities.items) ∙ x.oddities;
}

-- ---- descriptors

pub drop_more : {X : Type 0} (xs : List X) (i : ℕ) (x : X) → i < length xs → x ≡ get_or xs i x → drop i xs ≡ x ∷ drop (i + 1) xs
drop_more {X} xs i x lt is = drop-cons xs i x lt ∙ ap (λ (n : ℕ). get_or xs i x ∷ drop n xs) (sym (add-one i)) ∙ ap (λ (y : X). y ∷ drop (i + 1) xs) (sym is)

pub descriptors_more : (own heard : Kept) (ds : List Descriptor) (i : ℕ) (x : Descriptor) {a b c : Found} {w : Says} → i < length ds → x ≡ get_or ds i x
    → Leaves a b (named_from own heard i (drop i ds)) w → Finds b c (named own heard (usage.Capability i) x) → Leaves a c (named_from own heard (i + 1) (drop (i + 1) ds)) w
descriptors_more own heard ds i x {a} {b} {c} {w} lt is left found =
    let l : Leaves a b (both (named own heard (usage.Capability i) x) (named_from own heard (i + 1) (drop (i + 1) ds))) w =
    subst (λ (l : List Descriptor). Leaves a b (named_from own heard i l) w) (drop_more ds i x lt is) left in
    leaves_more {s = named own heard (usage.Capability i) x} {t = named_from own heard (i + 1) (drop (i + 1) ds)} l found

pub descriptors_all : (own heard : Kept) (ds : List Descriptor) (i : ℕ) {a b : Found} {w : Says} → length ds ≤ i → Leaves a b (named_from own heard i (drop i ds)) w → Finds a b w
descriptors_all own heard ds i {a} {b} {w} le x = leaves_none (subst (λ (l : List Descriptor). Leaves a b (named_from own heard i l) w) (drop_all i ds le) x)

-- ---- the verdict

verdict_of : {own heard : Kept} {d : Does} {a b : Found} → (a.breaches.items ≡ []) × (a.oddities.items ≡ []) → Finds a b (verdict own heard d) → IsVerdict own heard d b
verdict_of {own} {heard} {d} {a} {b} e x = record {
  breaches = x.breaches ∙ ap (λ l. l ++ (verdict own heard d).breaches) e.0;
  oddities = x.oddities ∙ ap (λ l. l ++ (verdict own heard d).oddities) e.1;
}

pub judged_so : (books : Books) (side other : Side) (own heard : End) (d e : Does) (down : Option Breach) {a b c : Found} → own ≡ end_of books side → heard ≡ end_of books other → other ≡ other_side side
    → d ≡ e → down ≡ behind_abort own.down → (a.breaches.items ≡ []) × (a.oddities.items ≡ []) → Finds a b (breaks down) → Finds b c (judged (kept_of own) (kept_of heard) d)
    → IsVerdict (kept_of (end_of books side)) (kept_of (end_of books (other_side side))) e c
judged_so books side other own heard d e down {a} {b} {c} eo eh es ed ea empty x y =
    let v : IsVerdict (kept_of own) (kept_of heard) d c = verdict_of empty (finds_both (subst (λ (o : Option Breach). Finds a b (breaks o)) ea x) y) in
    let v1 : IsVerdict (kept_of own) (kept_of heard) e c = subst (λ (w : Does). IsVerdict (kept_of own) (kept_of heard) w c) ed v in
    let v2 : IsVerdict (kept_of own) (kept_of (end_of books (other_side side))) e c = subst (λ (w : End). IsVerdict (kept_of own) (kept_of w) e c) (eh ∙ ap (end_of books) es) v1 in
    subst (λ (w : End). IsVerdict (kept_of w) (kept_of (end_of books (other_side side))) e c) eo v2
