-- The session of an export is kept.
use Rattle.std.proofs.Common.{◌≡◌, ◌⊎◌, inl, inr, ℕ, zero, suc, ◌+◌, ◌<◌, List, [], ◌∷◌, ◌++◌, refl, sym, subst, ◌∙◌, arith}
use Rattle.laws_runs.specs.Exports.{Kind, Hosted, Promised, Stage, IsObject, IsOpen, Owes, HasTold, Exporter, Gone, Has, Said, Nothing, Resolved, Importer, Absent, Holds, Out, Give, Resolve, Back, Mention, Take, Sends, GivesObject, GivesPromise, GivesObjectAgain, GivesPromiseAgain, Tells, Settles, IsSettled, Answers, Mentions, LetsSome, LetsAll, Hears, IsThere, Lowers, Goes, Told, Comes, ComesAgain, IsLate, IsResolved, count, held, gives, Leaves, Seen, Unknown, Known, Over, seen_by, seen, Learns, First, Again, Late, Last, LearnsAll, Fits, Free, Object, Open, Owing, Done, IsEntry, IsHeld, IsRight, Stands}

-- ---- Counts

pub more : (n k : ℕ) (ms : List Back) (rest : ℕ) → Leaves n ms rest → Leaves (n + k) ms (rest + k)
more n k [] rest h = omega arith
more n k (Mention ∷ ms) rest h = (omega (arith, h.0), more n k ms rest h.1)
more n k (Take c ∷ ms) rest h = (h.0 + k, h.1, omega (arith, h.2), more h.0 k ms rest h.3)

pub gives-append : (xs ys : List Out) → gives (xs ++ ys) ≡ gives xs + gives ys
gives-append [] ys = omega arith
gives-append (Give k ∷ xs) ys = let r = gives-append xs ys in omega arith
gives-append (Resolve ∷ xs) ys = gives-append xs ys

leaves_mention : (n : ℕ) (ms : List Back) (rest : ℕ) → 0 < rest → Leaves n ms rest → Leaves n (ms ++ Mention ∷ []) rest
leaves_mention n [] rest p h = (omega arith, h)
leaves_mention n (Mention ∷ ms) rest p h = (h.0, leaves_mention n ms rest p h.1)
leaves_mention n (Take c ∷ ms) rest p h = (h.0, h.1, h.2, leaves_mention h.0 ms rest p h.3)

leaves_take : (n k : ℕ) (ms : List Back) (r s : ℕ) → 0 < k → r ≡ k + s → Leaves n ms r → Leaves n (ms ++ Take k ∷ []) s
leaves_take n k [] r s p e h = (s, p, omega arith, refl)
leaves_take n k (Mention ∷ ms) r s p e h = (h.0, leaves_take n k ms r s p e h.1)
leaves_take n k (Take c ∷ ms) r s p e h = (h.0, h.1, h.2, leaves_take h.0 k ms r s p e h.3)

-- From nothing nothing is left.
pub leaves_none : (n : ℕ) (ms : List Back) (rest : ℕ) → n ≡ 0 → Leaves n ms rest → rest ≡ 0
leaves_none n [] rest e h = omega arith
leaves_none n (Mention ∷ ms) rest e h = absurd (omega (arith, h.0))
leaves_none n (Take c ∷ ms) rest e h = absurd (omega (arith, h.1, h.2))

-- ---- What the importer learns

pub learns-append : (a : Seen) (ms : List Out) (b : Seen) (m : Out) (c : Seen) → LearnsAll a ms b → Learns b m c → LearnsAll a (ms ++ m ∷ []) c
learns-append a [] b m c h k = (c, subst (λ (x : Seen). Learns x m c) (sym h) k, refl)
learns-append a (x ∷ ms) b m c h k = (h.0, h.1, learns-append h.0 ms b m c h.2 k)

-- An importer that let all go learns the same, or nothing.
abbrev pub Less : Seen → List Out → Seen → Type 0
Less a ms last = (l : Seen) × LearnsAll a ms l × ((l ≡ last) ⊎ (l ≡ Unknown))

one_less : (a b : Seen) (m : Out) (ms : List Out) (last : Seen) → Learns a m b → LearnsAll b ms last → Less Unknown ms last → Less Unknown (m ∷ ms) last
one_less a b m ms last (First k) h r = (last, (Known k, First k, h), inl refl)
one_less a b m ms last (Again k) h r = (last, (Known k, First k, h), inl refl)
one_less a b m ms last Late h r = (last, (Unknown, Late, h), inl refl)
one_less a b m ms last Last h r = (r.0, (Unknown, Late, r.1), r.2)

pub forgets : (a : Seen) (ms : List Out) (last : Seen) → LearnsAll a ms last → Less Unknown ms last
forgets a [] last h = (Unknown, refl, inr refl)
forgets a (m ∷ ms) last h = one_less a h.0 m ms last h.1 h.2 (forgets h.0 ms last h.2)

pub fits_less : (l last : Seen) (x : Exporter) → Fits last x → (l ≡ last) ⊎ (l ≡ Unknown) → Fits l x
fits_less l last x f (inl e) = subst (λ (s : Seen). Fits s x) (sym e) f
fits_less l last x f (inr e) = subst (λ (s : Seen). Fits s x) (sym e) (Free x)

-- With no descriptor on the way it learns nothing.
stays : (a : Seen) (m : Out) (b : Seen) (ms : List Out) → a ≡ Unknown → gives (m ∷ ms) ≡ 0 → Learns a m b → b ≡ Unknown
stays a m b ms e g (First k) = absurd (omega (arith, g))
stays a m b ms e g (Again k) = absurd (omega (arith, g))
stays a m b ms e g Late = refl
stays a m b ms e g Last = absurd (let bad : Known Promised ≡ Unknown = e in cc)

fewer : (m : Out) (ms : List Out) → gives (m ∷ ms) ≡ 0 → gives ms ≡ 0
fewer (Give k) ms e = omega (arith, e)
fewer Resolve ms e = e

pub learns_none : (a : Seen) (ms : List Out) (last : Seen) → a ≡ Unknown → gives ms ≡ 0 → LearnsAll a ms last → last ≡ Unknown
learns_none a [] last e g h = sym h ∙ e
learns_none a (m ∷ ms) last e g h = learns_none h.0 ms last (stays a m h.0 ms e g h.1) (fewer m ms g) h.2

pub holds_none : (y : Importer) → IsHeld y → held y ≡ 0 → seen y ≡ Unknown
holds_none Absent i e = refl
holds_none (Holds n k s) i e = absurd (omega (arith, i, e))

-- ---- What the exporter does

sent : (x z : Exporter) (m : Out) (b c : Seen) (out : List Out) (y : Importer) (back : List Back) → IsEntry z → IsHeld y → IsRight y → Leaves (count z) back (held y + gives (out ++ m ∷ [])) → LearnsAll (seen y) out b → Learns b m c → Fits c z → Stands z (out ++ m ∷ []) y back
sent x z m b c out y back e i j l h k f = record { entry = e; import = i; right = j; counts = l; last = c; learns = learns-append (seen y) out b m c h k; fits = f }

given : (n : ℕ) (k : Kind) (out : List Out) (y : Importer) (back : List Back) → Leaves n back (held y + gives out) → Leaves (n + 1) back (held y + gives (out ++ Give k ∷ []))
given n k out y back h =
    let e : held y + gives out + 1 ≡ held y + gives (out ++ Give k ∷ []) = omega (arith, gives-append out (Give k ∷ [])) in
    subst (Leaves (n + 1) back) e (more n 1 back _ h)

told_too : (n : ℕ) (out : List Out) (y : Importer) (back : List Back) → Leaves n back (held y + gives out) → Leaves n back (held y + gives (out ++ Resolve ∷ []))
told_too n out y back h =
    let e : held y + gives out ≡ held y + gives (out ++ Resolve ∷ []) = omega (arith, gives-append out (Resolve ∷ [])) in
    subst (Leaves n back) e h

pub sends : (x z : Exporter) (m : Out) (out : List Out) (y : Importer) (back : List Back) → Stands x out y back → Sends x m z → Stands z (out ++ m ∷ []) y back
sends x z m out y back h GivesObject = by h.last h.learns h.fits
  where
    by : (l : Seen) → LearnsAll (seen y) out l → Fits l Gone → Stands (Has 1 IsObject) (out ++ Give Hosted ∷ []) y back
    by l g (Free w) = sent Gone (Has 1 IsObject) (Give Hosted) Unknown (Known Hosted) out y back (omega arith) h.import h.right (given 0 Hosted out y back h.counts) g (First Hosted) (Object 1)
sends x z m out y back h GivesPromise = by h.last h.learns h.fits
  where
    by : (l : Seen) → LearnsAll (seen y) out l → Fits l Gone → Stands (Has 1 IsOpen) (out ++ Give Promised ∷ []) y back
    by l g (Free w) = sent Gone (Has 1 IsOpen) (Give Promised) Unknown (Known Promised) out y back (omega arith) h.import h.right (given 0 Promised out y back h.counts) g (First Promised) (Open 1)
sends x z m out y back h (GivesObjectAgain n) = by h.last h.learns h.fits
  where
    by : (l : Seen) → LearnsAll (seen y) out l → Fits l (Has n IsObject) → Stands (Has (n + 1) IsObject) (out ++ Give Hosted ∷ []) y back
    by l g (Free w) = sent (Has n IsObject) (Has (n + 1) IsObject) (Give Hosted) Unknown (Known Hosted) out y back (omega arith) h.import h.right (given n Hosted out y back h.counts) g (First Hosted) (Object (n + 1))
    by l g (Object k) = sent (Has n IsObject) (Has (n + 1) IsObject) (Give Hosted) (Known Hosted) (Known Hosted) out y back (omega arith) h.import h.right (given n Hosted out y back h.counts) g (Again Hosted) (Object (n + 1))
sends x z m out y back h (GivesPromiseAgain n) = by h.last h.learns h.fits
  where
    by : (l : Seen) → LearnsAll (seen y) out l → Fits l (Has n IsOpen) → Stands (Has (n + 1) IsOpen) (out ++ Give Promised ∷ []) y back
    by l g (Free w) = sent (Has n IsOpen) (Has (n + 1) IsOpen) (Give Promised) Unknown (Known Promised) out y back (omega arith) h.import h.right (given n Promised out y back h.counts) g (First Promised) (Open (n + 1))
    by l g (Open k) = sent (Has n IsOpen) (Has (n + 1) IsOpen) (Give Promised) (Known Promised) (Known Promised) out y back (omega arith) h.import h.right (given n Promised out y back h.counts) g (Again Promised) (Open (n + 1))
sends x z m out y back h (Tells n) = by h.last h.learns h.fits
  where
    by : (l : Seen) → LearnsAll (seen y) out l → Fits l (Has n Owes) → Stands (Has n HasTold) (out ++ Resolve ∷ []) y back
    by l g (Free w) = sent (Has n Owes) (Has n HasTold) Resolve Unknown Unknown out y back h.entry h.import h.right (told_too n out y back h.counts) g Late (Free (Has n HasTold))
    by l g (Owing k) = sent (Has n Owes) (Has n HasTold) Resolve (Known Promised) Over out y back h.entry h.import h.right (told_too n out y back h.counts) g Last (Done n)

pub settles : (x z : Exporter) (out : List Out) (y : Importer) (back : List Back) → Stands x out y back → Settles x z → Stands z out y back
settles x z out y back h (IsSettled n) = record { entry = h.entry; import = h.import; right = h.right; counts = h.counts; last = h.last; learns = h.learns; fits = by h.last h.fits }
  where
    by : (l : Seen) → Fits l (Has n IsOpen) → Fits l (Has n Owes)
    by l (Free w) = Free (Has n Owes)
    by l (Open k) = Owing n

pub answers : (x : Exporter) (out : List Out) (y z : Importer) (m : Back) (back : List Back) → Stands x out y back → Answers y m z → Stands x out z (back ++ m ∷ [])
answers x out y z m back h (Mentions n k s) = record { entry = h.entry; import = h.import; right = h.right; counts = leaves_mention (count x) back (n + gives out) (omega (arith, h.import)) h.counts; last = h.last; learns = h.learns; fits = h.fits }
answers x out y z m back h (LetsSome n r k s p q) = record { entry = h.entry; import = q; right = by k s h.right; counts = leaves_take (count x) n back (n + r + gives out) (r + gives out) p (omega arith) h.counts; last = h.last; learns = h.learns; fits = h.fits }
  where
    by : (k : Kind) (s : Said) → IsRight (Holds (n + r) k s) → IsRight (Holds r k s)
    by k Nothing i = tt
    by Hosted Resolved i = i
    by Promised Resolved i = tt
answers x out y z m back h (LetsAll n k s p) =
    let f = forgets (seen_by k s) out h.last h.learns in
    record { entry = h.entry; import = tt; right = tt; counts = leaves_take (count x) n back (n + gives out) (0 + gives out) p (omega arith) h.counts; last = f.0; learns = f.1; fits = fits_less f.0 h.last x h.fits f.2 }

-- ---- What is received

pub fits_lower : (l : Seen) (n m : ℕ) (s : Stage) → Fits l (Has n s) → Fits l (Has m s)
fits_lower l n m s (Free w) = Free (Has m s)
fits_lower l n m s (Object k) = Object m
fits_lower l n m s (Open k) = Open m
fits_lower l n m s (Owing k) = Owing m
fits_lower l n m s (Done k) = Done m

abbrev HearsTake : Stage → ℕ → List Out → Importer → List Back → ℕ → Type 0
HearsTake s k out y back n = (z : Exporter) × Hears (Has n s) (Take k) z × Stands z out y back

pub heard : (x : Exporter) (out : List Out) (y : Importer) (m : Back) (back : List Back) → Stands x out y (m ∷ back) → (z : Exporter) × Hears x m z × Stands z out y back
heard Gone out y Mention back h = let c = h.counts in absurd (omega (arith, c.0))
heard (Has n s) out y Mention back h = let c = h.counts in (Has n s, IsThere n s, record { entry = h.entry; import = h.import; right = h.right; counts = c.1; last = h.last; learns = h.learns; fits = h.fits })
heard Gone out y (Take k) back h = let c = h.counts in absurd (omega (arith, c.1, c.2))
heard (Has n s) out y (Take k) back h = let c = h.counts in by c.0 c.1 c.2 c.3
  where
    by : (m : ℕ) → 0 < k → n ≡ k + m → Leaves m back (held y + gives out) → HearsTake s k out y back n
    by zero p e l =
        let none : held y + gives out ≡ 0 = leaves_none 0 back _ refl l in
        let over : h.last ≡ Unknown = learns_none (seen y) out h.last (holds_none y h.import (omega arith)) (omega arith) h.learns in
        subst (HearsTake s k out y back) (let t : k ≡ n = omega arith in t) (Gone, Goes k s p, record { entry = tt; import = h.import; right = h.right; counts = l; last = h.last; learns = h.learns; fits = subst (λ (a : Seen). Fits a Gone) (sym over) (Free Gone) })
    by (suc m) p e l = subst (HearsTake s k out y back) (sym e) (Has (suc m) s, Lowers k (suc m) s p (omega arith), record { entry = omega arith; import = h.import; right = h.right; counts = l; last = h.last; learns = h.learns; fits = fits_lower h.last n (suc m) s h.fits })

pub told : (x : Exporter) (m : Out) (out : List Out) (y : Importer) (back : List Back) → Stands x (m ∷ out) y back → (z : Importer) × Told y m z × Stands x out z back
told x m out Absent back h = let g = h.learns in by m g.0 g.1 g.2 h.counts
  where
    by : (m : Out) (b : Seen) → Learns Unknown m b → LearnsAll b out h.last → Leaves (count x) back (0 + gives (m ∷ out)) → (z : Importer) × Told Absent m z × Stands x out z back
    by m b (First k) r l = (Holds 1 k Nothing, Comes k, record { entry = h.entry; import = omega arith; right = tt; counts = subst (Leaves (count x) back) (let e : 0 + gives (Give k ∷ out) ≡ 1 + gives out = omega arith in e) l; last = h.last; learns = r; fits = h.fits })
    by m b Late r l = (Absent, IsLate, record { entry = h.entry; import = tt; right = tt; counts = l; last = h.last; learns = r; fits = h.fits })
told x m out (Holds n k Nothing) back h = let g = h.learns in by m k g.0 g.1 g.2 h.counts
  where
    by : (m : Out) (k : Kind) (b : Seen) → Learns (Known k) m b → LearnsAll b out h.last → Leaves (count x) back (n + gives (m ∷ out)) → (z : Importer) × Told (Holds n k Nothing) m z × Stands x out z back
    by m k b (Again j) r l = (Holds (n + 1) j Nothing, ComesAgain n j, record { entry = h.entry; import = omega arith; right = tt; counts = subst (Leaves (count x) back) (let e : n + gives (Give j ∷ out) ≡ (n + 1) + gives out = omega arith in e) l; last = h.last; learns = r; fits = h.fits })
    by m k b Last r l = (Holds n Promised Resolved, IsResolved n, record { entry = h.entry; import = h.import; right = tt; counts = l; last = h.last; learns = r; fits = h.fits })
told x m out (Holds n k Resolved) back h = let g = h.learns in by m g.0 g.1
  where
    by : (m : Out) (b : Seen) → Learns Over m b → (z : Importer) × Told (Holds n k Resolved) m z × Stands x out z back
    by m b l = elim l [ ]
