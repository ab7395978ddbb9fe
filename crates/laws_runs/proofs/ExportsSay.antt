-- What follows from how a session stands.
use Rattle.std.proofs.Common.{◌≡◌, ℕ, ◌+◌, ◌<◌, ◌≤◌, List, [], ◌∷◌, ◌++◌, refl, sym, ap, subst, arith}
use Rattle.laws_runs.specs.Exports.{Kind, Hosted, Promised, Exporter, Gone, Has, Nothing, Resolved, Importer, Absent, Holds, Out, Give, Resolve, Back, Mention, Take, count, held, gives, takes, Leaves, Seen, Unknown, Known, Over, seen, Learns, First, Again, Late, Last, LearnsAll, Fits, Free, Object, Open, Owing, Done, Stands, HasKind, ImportHasKind, IsLive, IsUnresolved, HasBeenTold}

leaves_all : (n : ℕ) (ms : List Back) (rest : ℕ) → Leaves n ms rest → n ≡ rest + takes ms
leaves_all n [] rest h = omega arith
leaves_all n (Mention ∷ ms) rest h = leaves_all n ms rest h.1
leaves_all n (Take k ∷ ms) rest h = omega (arith, h.2, leaves_all h.0 ms rest h.3)

pub count_is : (x : Exporter) (out : List Out) (y : Importer) (back : List Back) → Stands x out y back → count x ≡ held y + (gives out + takes back)
count_is x out y back h = let e = leaves_all (count x) back _ h.counts in omega arith

met : (n : ℕ) (ahead behind : List Back) (rest : ℕ) → Leaves n (ahead ++ Mention ∷ behind) rest → takes ahead < n
met n [] behind rest h = h.0
met n (Mention ∷ ms) behind rest h = met n ms behind rest h.1
met n (Take k ∷ ms) behind rest h = omega (arith, h.2, met h.0 ms behind rest h.3)

pub is_met : (x : Exporter) (out : List Out) (y : Importer) (ahead behind : List Back) → Stands x out y (ahead ++ Mention ∷ behind) → takes ahead < count x
is_met x out y ahead behind h = met (count x) ahead behind _ h.counts

enough : (n k : ℕ) (ahead behind : List Back) (rest : ℕ) → Leaves n (ahead ++ Take k ∷ behind) rest → takes ahead + k ≤ n
enough n k [] behind rest h = omega (arith, h.2)
enough n k (Mention ∷ ms) behind rest h = enough n k ms behind rest h.1
enough n k (Take j ∷ ms) behind rest h = omega (arith, h.2, enough h.0 k ms behind rest h.3)

pub is_enough : (x : Exporter) (out : List Out) (y : Importer) (n : ℕ) (ahead behind : List Back) → Stands x out y (ahead ++ Take n ∷ behind) → takes ahead + n ≤ count x
is_enough x out y n ahead behind h = enough (count x) n ahead behind _ h.counts

-- What knows the kind, or that it was resolved, goes on to.
data IsOf : Kind → Seen → Type 0 where
  Same : (k : Kind) → IsOf k (Known k)
  Then : IsOf Promised Over

goes_on : (k : Kind) (a : Seen) (m : Out) (b : Seen) → IsOf k a → Learns a m b → IsOf k b
goes_on k a m b (Same j) (Again i) = Same i
goes_on k a m b (Same j) Last = Then
goes_on k a m b Then l = elim l [ ]

all_on : (k : Kind) (a : Seen) (ms : List Out) (last : Seen) → IsOf k a → LearnsAll a ms last → IsOf k last
all_on k a [] last i h = subst (λ (s : Seen). IsOf k s) h i
all_on k a (m ∷ ms) last i h = all_on k h.0 ms last (goes_on k a m h.0 i h.1) h.2

learnt : (a b : Seen) (k : Kind) → Learns a (Give k) b → IsOf k b
learnt a b k (First j) = Same k
learnt a b k (Again j) = Same k

given : (a : Seen) (k : Kind) (ahead behind : List Out) (last : Seen) → LearnsAll a (ahead ++ Give k ∷ behind) last → IsOf k last
given a k [] behind last h = all_on k h.0 behind last (learnt a h.0 k h.1) h.2
given a k (m ∷ ms) behind last h = given h.0 k ms behind last h.2

fit : (k : Kind) (last : Seen) (x : Exporter) → IsOf k last → Fits last x → HasKind k x
fit k last x (Same j) (Object n) = refl
fit k last x (Same j) (Open n) = refl
fit k last x (Same j) (Owing n) = refl
fit k last x Then (Done n) = refl

pub kinds : (x : Exporter) (y : Importer) (back : List Back) (k : Kind) (ahead behind : List Out) → Stands x (ahead ++ Give k ∷ behind) y back → HasKind k x
kinds x y back k ahead behind h = fit k h.last x (given (seen y) k ahead behind h.last h.learns) h.fits

-- Behind what was resolved nothing comes.
nothing_behind : (ms : List Out) (last : Seen) → LearnsAll Over ms last → (ms ≡ []) × (last ≡ Over)
nothing_behind [] last h = (refl, sym h)
nothing_behind (m ∷ ms) last h = absurd (no m h.0 h.1)
  where
    no : (m : Out) (b : Seen) → Learns Over m b → ⊥
    no m b l = elim l [ ]

done : (last : Seen) (x : Exporter) → last ≡ Over → Fits last x → HasBeenTold x
done last x e (Free w) = absurd (let bad : Unknown ≡ Over = e in cc)
done last x e (Object n) = absurd (let bad : Known Hosted ≡ Over = e in cc)
done last x e (Open n) = absurd (let bad : Known Promised ≡ Over = e in cc)
done last x e (Owing n) = absurd (let bad : Known Promised ≡ Over = e in cc)
done last x e (Done n) = refl

told_promised : (x : Exporter) → HasBeenTold x → HasKind Promised x
told_promised Gone h = h
told_promised (Has n s) h = rw h refl

pub after_resolve : (x : Exporter) (out : List Out) (y : Importer) (back : List Back) (n : ℕ) (k : Kind) → y ≡ Holds n k Resolved → Stands x out y back → HasBeenTold x × (out ≡ [])
after_resolve x out y back n k e h =
    let g = nothing_behind out h.last (subst (λ (s : Seen). LearnsAll s out h.last) (ap seen e) h.learns) in
    (done h.last x g.1 h.fits, g.0)

pub import_kind : (x : Exporter) (out : List Out) (y : Importer) (back : List Back) → Stands x out y back → ImportHasKind y x
import_kind x out Absent back h = tt
import_kind x out (Holds n k Nothing) back h = fit k h.last x (all_on k (Known k) out h.last (Same k) h.learns) h.fits
import_kind x out (Holds n Hosted Resolved) back h = absurd h.right
import_kind x out (Holds n Promised Resolved) back h = let g = after_resolve x out (Holds n Promised Resolved) back n Promised refl h in told_promised x g.0

-- Where a Resolve finds that nothing is known, nothing was there or came before.
abbrev Live : Seen → List Out → Type 0
Live Unknown ahead = 0 < gives ahead
Live (Known k) ahead = Unit {0}
Live Over ahead = Unit {0}

abbrev Ended : List Out → Seen → Type 0
Ended behind last = (behind ≡ []) × (last ≡ Over)

ends_here : (a b : Seen) (behind : List Out) (last : Seen) → Live a [] → Learns a Resolve b → LearnsAll b behind last → Ended behind last
ends_here a b behind last l Late h = absurd (omega (arith, l))
ends_here a b behind last l Last h = nothing_behind behind last h

lives_on : (a : Seen) (m : Out) (b : Seen) (ahead : List Out) → Live a (m ∷ ahead) → Learns a m b → Live b ahead
lives_on a m b ahead l (First k) = tt
lives_on a m b ahead l (Again k) = tt
lives_on a m b ahead l Late = l
lives_on a m b ahead l Last = tt

once : (a : Seen) (ahead behind : List Out) (last : Seen) → Live a ahead → LearnsAll a (ahead ++ Resolve ∷ behind) last → Ended behind last
once a [] behind last l h = ends_here a h.0 behind last l h.1 h.2
once a (m ∷ ms) behind last l h = once h.0 ms behind last (lives_on a m h.0 ms l h.1) h.2

lives : (y : Importer) (ahead : List Out) → IsLive y ahead → Live (seen y) ahead
lives Absent ahead l = omega (arith, l)
lives (Holds n k Nothing) ahead l = tt
lives (Holds n k Resolved) ahead l = tt

unresolved : (x : Exporter) (y : Importer) (back : List Back) (ahead behind : List Out) → Stands x (ahead ++ Resolve ∷ behind) y back → IsUnresolved y
unresolved x Absent back ahead behind h = tt
unresolved x (Holds n k Nothing) back ahead behind h = refl
unresolved x (Holds n k Resolved) back ahead behind h = let g = nothing_behind (ahead ++ Resolve ∷ behind) h.last h.learns in absurd (no ahead g.0)
  where
    no : (ahead : List Out) → ahead ++ Resolve ∷ behind ≡ [] → ⊥
    no [] e = cc
    no (m ∷ ms) e = cc

pub resolved_once : (x : Exporter) (y : Importer) (back : List Back) (ahead behind : List Out) → Stands x (ahead ++ Resolve ∷ behind) y back → IsLive y ahead → HasBeenTold x × IsUnresolved y × (behind ≡ [])
resolved_once x y back ahead behind h l =
    let g = once (seen y) ahead behind h.last (lives y ahead l) h.learns in
    (done h.last x g.1 h.fits, unresolved x y back ahead behind h, g.0)
