-- What the books do with the counts of exports.
use Rattle.std.proofs.Common.{◌≡◌, ◌≤◌, ℕ, suc, ◌+◌, ◌-◌, ◌^◌, Bool, true, false, cond, nat_eq, nat_lt, if◌then◌else◌, List, [], ◌∷◌, Option, None, Some, refl, sym, ap, subst, ◌∙◌, arith}
use Rattle.std.proofs.Math.Nat.{min-eq_left}
use Rattle.rpc_msg.specs.declared.ids.ExportId.{ExportId}
use Rattle.rpc_msg.specs.declared.parts.Descriptor.{Descriptor}
use Rattle.rpc_msg.specs.declared.parts.Descriptor.TheVariants as descriptor
use Rattle.rpc_msg.specs.Messages.{given}
use Rattle.rpc_machine.specs.Lists.{how_many}
use Rattle.rpc_machine.specs.Progress.{numbers}
use Rattle.finite_maps.proofs.Tested.{equal, itself}
use Rattle.look_pieces.specs.Pieces.{capped}
use Rattle.look_books.specs.declared.export.Export.{Export}
use Rattle.look_books.specs.declared.export.Given.{Given}
use Rattle.look_books.specs.declared.export.Origin.{Origin}
use Rattle.look_books.specs.Ends.{count_of}
use Rattle.look_books.specs.Checks.{all_given}
use Rattle.look_books.specs.After.{put, Held, given_export, give_export, owe, give_one, give_from, lose, with_export, give_back_by, give_back, give_back_all}
use Rattle.laws_look.proofs.Looks.{put_at}

-- How many of an export are held.
abbrev pub held : ℕ → Held → ℕ
held e h = count_of (h.exports e)

-- No count comes to the cap of the program's numbers.
abbrev pub cap : ℕ
cap = 2 ^ 64 - 1

capped_is : (n : ℕ) → n ≤ cap → capped n ≡ n
capped_is n h = min-eq_left h

-- ---- Lists

pub same_given : (ds : List Descriptor) → numbers (all_given ds) ≡ given ds
same_given [] = refl
same_given (descriptor.None ∷ ds) = same_given ds
same_given (descriptor.SenderHosted x ∷ ds) = ap (λ (l : List ℕ). x.0 ∷ l) (same_given ds)
same_given (descriptor.SenderPromise x ∷ ds) = ap (λ (l : List ℕ). x.0 ∷ l) (same_given ds)
same_given (descriptor.ReceiverHosted x ∷ ds) = same_given ds
same_given (descriptor.ReceiverAnswer q p ∷ ds) = same_given ds

-- ---- What is given

one_more : (p : Bool) (g : Given) (o : Option Export) → count_of o + 1 ≤ cap → count_of (Some (given_export p g o)) ≡ count_of o + 1
one_more p g None h = refl
one_more p g (Some x) h = capped_is (x.count + 1) h

gives : (p : Bool) (x : ExportId) (g : Given) (h : Held) (e : ℕ) → held x.0 h + 1 ≤ cap → held e (give_export p x g h) ≡ held e h + cond (nat_eq e x.0) 1 0
gives p x g h e k = ap count_of (put_at x.0 (Some (given_export p g (h.exports x.0))) h.exports e) ∙ by (nat_eq e x.0) refl
  where
    by : (b : Bool) → nat_eq e x.0 ≡ b → count_of (cond b (Some (given_export p g (h.exports x.0))) (h.exports e)) ≡ held e h + cond b 1 0
    by true f = one_more p g (h.exports x.0) k ∙ ap (λ (i : ℕ). held i h + 1) (sym (equal e x.0 f))
    by false f = omega arith

room : (x : ExportId) (h : Held) → ((i : ℕ) → held i h + how_many (nat_eq i) (x.0 ∷ []) ≤ cap) → held x.0 h + 1 ≤ cap
room x h k = subst (λ (b : Bool). held x.0 h + cond b 1 0 ≤ cap) (itself x.0) (k x.0)

same : (b : Bool) → cond b 1 0 ≡ cond b (suc 0) 0
same true = refl
same false = refl

pub given_one : (d : Descriptor) (g : Given) (h : Held) (e : ℕ) → ((i : ℕ) → held i h + how_many (nat_eq i) (given (d ∷ [])) ≤ cap) → held e (give_one d g h) ≡ held e h + how_many (nat_eq e) (given (d ∷ []))
given_one descriptor.None g h e k = omega arith
given_one (descriptor.SenderHosted x) g h e k = gives false x g h e (room x h k) ∙ ap (λ (n : ℕ). held e h + n) (same (nat_eq e x.0))
given_one (descriptor.SenderPromise x) g h e k = gives true x g (owe true x h) e (room x h k) ∙ ap (λ (n : ℕ). held e h + n) (same (nat_eq e x.0))
given_one (descriptor.ReceiverHosted x) g h e k = omega arith
given_one (descriptor.ReceiverAnswer q p) g h e k = omega arith

-- One of them, and the rest.
parted : (i : ℕ) (d : Descriptor) (ds : List Descriptor) → how_many (nat_eq i) (given (d ∷ ds)) ≡ how_many (nat_eq i) (given (d ∷ [])) + how_many (nat_eq i) (given ds)
parted i descriptor.None ds = omega arith
parted i (descriptor.SenderHosted x) ds = by (nat_eq i x.0)
  where
    by : (b : Bool) → cond b (suc (how_many (nat_eq i) (given ds))) (how_many (nat_eq i) (given ds)) ≡ cond b (suc 0) 0 + how_many (nat_eq i) (given ds)
    by true = omega arith
    by false = omega arith
parted i (descriptor.SenderPromise x) ds = by (nat_eq i x.0)
  where
    by : (b : Bool) → cond b (suc (how_many (nat_eq i) (given ds))) (how_many (nat_eq i) (given ds)) ≡ cond b (suc 0) 0 + how_many (nat_eq i) (given ds)
    by true = omega arith
    by false = omega arith
parted i (descriptor.ReceiverHosted x) ds = omega arith
parted i (descriptor.ReceiverAnswer q p) ds = omega arith

pub given_all : (n : ℕ) (o : Origin) (i : ℕ) (ds : List Descriptor) (h : Held) (e : ℕ) → ((i : ℕ) → held i h + how_many (nat_eq i) (given ds) ≤ cap) → held e (give_from n o i ds h) ≡ held e h + how_many (nat_eq e) (given ds)
given_all n o i [] h e k = omega arith
given_all n o i (d ∷ ds) h e k =
    let g : Given = record { number = n; index = i; origin = o } in
    let one : (j : ℕ) → held j (give_one d g h) ≡ held j h + how_many (nat_eq j) (given (d ∷ [])) = λ j. given_one d g h j (λ m. let p = parted m d ds in let q = k m in omega (arith, p, q)) in
    let rest = given_all n o (i + 1) ds (give_one d g h) e (λ j. let a = one j in let p = parted j d ds in let q = k j in omega (arith, a, p, q)) in
    let a = one e in
    let p = parted e d ds in
    omega (arith, rest, a, p)

-- ---- What is given back

pub back_one : (x : ExportId) (c n : ℕ) (h : Held) (e : ℕ) → c ≤ held x.0 h → held e (give_back x c n h) + cond (nat_eq e x.0) c 0 ≡ held e h
back_one x c n h e k = of (h.exports x.0) refl k
  where
    lowered : (y : Export) (v : Option Export) → count_of v + c ≡ y.count → h.exports x.0 ≡ Some y → count_of (put x.0 v h.exports e) + cond (nat_eq e x.0) c 0 ≡ held e h
    lowered y v g f = ap (λ (w : Option Export). count_of w + cond (nat_eq e x.0) c 0) (put_at x.0 v h.exports e) ∙ by (nat_eq e x.0) refl
      where
        by : (b : Bool) → nat_eq e x.0 ≡ b → count_of (cond b v (h.exports e)) + cond b c 0 ≡ held e h
        by true i = g ∙ ap count_of (sym f) ∙ ap (λ (j : ℕ). held j h) (sym (equal e x.0 i))
        by false i = omega arith

    some : (y : Export) (b : Bool) → nat_lt c y.count ≡ b → c ≤ y.count → h.exports x.0 ≡ Some y → held e (if b then with_export x (Some (record y { count = y.count - c })) h else lose x n h) + cond (nat_eq e x.0) c 0 ≡ held e h
    some y true i le f = lowered y (Some (record y { count = y.count - c })) (omega (arith, le)) f
    some y false i le f = lowered y None (let g : y.count ≤ c = few c y.count i in omega (arith, g, le)) f
      where
        few : (c n : ℕ) → nat_lt c n ≡ false → n ≤ c
        few c n e = grind arith

    none : (b : Bool) → c ≤ 0 → held e h + cond b c 0 ≡ held e h
    none true le = omega (arith, le)
    none false le = omega arith

    of : (o : Option Export) → h.exports x.0 ≡ o → c ≤ count_of o → held e (give_back_by o x c n h) + cond (nat_eq e x.0) c 0 ≡ held e h
    of None f le = none (nat_eq e x.0) le
    of (Some y) f le = some y (nat_lt c y.count) refl le f

pub back_all : (n : ℕ) (xs : List ExportId) (h : Held) (e : ℕ) → ((i : ℕ) → how_many (nat_eq i) (numbers xs) ≤ held i h) → held e (give_back_all n xs h) + how_many (nat_eq e) (numbers xs) ≡ held e h
back_all n [] h e k = omega arith
back_all n (x ∷ xs) h e k =
    let enough : 1 ≤ held x.0 h = (let p = k x.0 in subst (λ (b : Bool). cond b (suc (how_many (nat_eq x.0) (numbers xs))) (how_many (nat_eq x.0) (numbers xs)) ≤ held x.0 h → 1 ≤ held x.0 h) (sym (itself x.0)) (λ q. omega (arith, q)) p) in
    let one = λ (j : ℕ). back_one x 1 n h j enough in
    let rest = back_all n xs (give_back x 1 n h) e (λ j. first (nat_eq j x.0) (how_many (nat_eq j) (numbers xs)) (held j (give_back x 1 n h)) (held j h) (k j) (one j)) in
    last (nat_eq e x.0) (how_many (nat_eq e) (numbers xs)) (held e (give_back_all n xs (give_back x 1 n h))) (held e (give_back x 1 n h)) (held e h) rest (one e)
  where
    first : (b : Bool) (m a c : ℕ) → cond b (suc m) m ≤ c → a + cond b 1 0 ≡ c → m ≤ a
    first true m a c p q = omega (arith, p, q)
    first false m a c p q = omega (arith, p, q)

    last : (b : Bool) (m a c d : ℕ) → a + m ≡ c → c + cond b 1 0 ≡ d → a + cond b (suc m) m ≡ d
    last true m a c d p q = omega (arith, p, q)
    last false m a c d p q = omega (arith, p, q)
