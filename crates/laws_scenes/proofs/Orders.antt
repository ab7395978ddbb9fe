-- What is delivered in order by the routes of two vats is so by the journal, of each scene and each run.
use Rattle.std.specs.List.{All, AllByRecursion}
use Rattle.std.proofs.lemmas.List.{map-append}
use Rattle.std.proofs.lemmas.List.Elements.{All-nil, All-cons}
use Rattle.std.proofs.Common.{◌≡◌, ℕ, zero, suc, ◌+◌, Bool, true, false, Option, None, cond, List, [], ◌∷◌, ◌++◌, map, length, refl, sym, ap, subst, ◌∙◌, arith}
use Rattle.rpc_msg.specs.declared.ids.ObjectId.{ObjectId}
use Rattle.rpc_msg.specs.declared.ids.Stamp.{Stamp}
use Rattle.rpc_msg.specs.declared.ids.Vat.TheVariants.{A}
use Rattle.rpc_journal.specs.declared.entry.JournalEntry.{JournalEntry}
use Rattle.rpc_journal.specs.declared.entry.JournalEntry.TheVariants as entry
use Rattle.rpc_journal.specs.History.{DeliveredAt, Ref, caller, deliveries, delivered, delivered_one, if_so, in_front, made, same_ref, stamps}
use Rattle.rpc_machine.specs.declared.command.Level.TheVariants.{One}
use Rattle.rpc_machine.specs.Claims.{AreNumbered, IsBeginning, IsInOrder, IsNumbered}
use Rattle.rpc_machine.specs.Journal.{journal}
use Rattle.rpc_machine.specs.World.{core}
use Rattle.laws_order.specs.Machine.{choose}
use Rattle.laws_order.specs.Machine as routing
use Rattle.laws_order.specs.Order.{AtOne, IsAt, IsBeginningOf, below, indexes}
use Rattle.laws_runs.specs.MadeCalls.{CallsAreNumbered}
use Rattle.laws_runs.specs.Scenes.{Scene, IsScene}
use Rattle.laws_runs.specs.Shown.{EveryRunIsShown, EverySceneShowsARun}
use Rattle.laws_runs.specs.Telling.{telling, tells}
use Rattle.laws_runs.proofs.Reading.{same_ref_is}
use Rattle.laws_runs.proofs.ToldAlike.{same_delivered, same_made}
use Rattle.laws_routes.specs.Points.{AnObject, routes}
use Rattle.laws_routes.specs.Ties.{deliveries_of, delivery_of}
use Rattle.laws_routes.specs.ChainLaws.{DeliveredInOrder}
use Rattle.laws_scenes.specs.Ordered.{AreAtOne, IsOrdered, IsWhere, RunsAreOrdered, ScenesAreOrdered}
use Rattle.laws_scenes.specs.Walked.{ScenesAreBetweenSteps, all_told, seen}
use Rattle.laws_scenes.proofs.Histories.{same_ref_itself}

-- ---- Stamps by their numbers

abbrev pub stamp_at : Ref → ℕ → Stamp
stamp_at r i = record { vat = r.vat; reference = record { 0 = r.number }; index = i }

abbrev from : ℕ → ℕ → List ℕ
from i zero = []
from i (suc n) = i ∷ from (i + 1) n

numbered_is : (r : Ref) (i : ℕ) (ss : List Stamp) → IsNumbered r i ss → ss ≡ map (stamp_at r) (from i (length ss))
numbered_is r i [] h = refl
numbered_is r i (s ∷ ss) h = ap (λ (x : Stamp). x ∷ ss) h.0 ∙ ap (λ (l : List Stamp). stamp_at r i ∷ l) (numbered_is r (i + 1) ss h.1)

from_end : (n i : ℕ) → from i (suc n) ≡ from i n ++ (i + n) ∷ []
from_end zero i = ap (λ (k : ℕ). k ∷ []) (let e : i ≡ i + 0 = omega arith in e)
from_end (suc n) i = ap (λ (l : List ℕ). i ∷ l) (from_end n (i + 1)) ∙ ap (λ (k : ℕ). i ∷ (from (i + 1) n ++ k ∷ [])) (let e : i + 1 + n ≡ i + suc n = omega arith in e)

below_is : (n : ℕ) → below n ≡ from 0 n
below_is zero = refl
below_is (suc n) = ap (λ (l : List ℕ). l ++ n ∷ []) (below_is n) ∙ ap (λ (k : ℕ). from 0 n ++ k ∷ []) (let e : n ≡ 0 + n = omega arith in e) ∙ sym (from_end n 0)

-- ---- Deliveries of one reference

abbrev pub only_of : Ref → List DeliveredAt → List DeliveredAt
only_of r [] = []
only_of r (d ∷ ds) = choose (routes.same_ref (caller d.delivery.stamp) r) (d ∷ only_of r ds) (only_of r ds)

same_or_not : (r q : Ref) (d : DeliveredAt) (ds es : List DeliveredAt) → ds ≡ es → (c : Dec (q ≡ r)) → in_front (if_so (same_ref r q) d) ds ≡ choose c (d ∷ es) es
same_or_not r q d ds es e (yes i) = ap (λ (b : Bool). in_front (if_so b d) ds) (ap (λ (p : Ref). same_ref r p) i ∙ same_ref_itself r.vat r.number) ∙ ap (λ (l : List DeliveredAt). d ∷ l) e
same_or_not r q d ds es e (no n) = by (same_ref r q) refl
  where
    by : (b : Bool) → same_ref r q ≡ b → in_front (if_so (same_ref r q) d) ds ≡ es
    by true f = absurd (n (sym (same_ref_is r q f)))
    by false f = ap (λ (b : Bool). in_front (if_so b d) ds) f ∙ e

pub only_told : (r : Ref) (h : List JournalEntry) → deliveries h r ≡ only_of r (all_told h)
only_told r [] = refl
only_told r (entry.Delivered v d ∷ es) = same_or_not r (caller d.stamp) (record { vat = v; delivery = d }) (deliveries es r) (only_of r (all_told es)) (only_told r es) (routes.same_ref (caller d.stamp) r)
only_told r (e ∷ es) = only_told r es

pub routed : (r : Ref) (ds : List DeliveredAt) → deliveries_of r ds ≡ map delivery_of (only_of r ds)
routed r [] = refl
routed r (d ∷ ds) = by (routed r ds) (routes.same_ref (caller d.delivery.stamp) r)
  where
    by : deliveries_of r ds ≡ map delivery_of (only_of r ds) → (c : Dec (caller d.delivery.stamp ≡ r)) → choose c (delivery_of d ∷ deliveries_of r ds) (deliveries_of r ds) ≡ map delivery_of (choose c (d ∷ only_of r ds) (only_of r ds))
    by k (yes e) = ap (λ (l : List (routing.Delivery routes)). delivery_of d ∷ l) k
    by k (no n) = k

stamps_are : (r : Ref) (ds : List DeliveredAt) → stamps (only_of r ds) ≡ map (stamp_at r) (indexes (map delivery_of (only_of r ds)))
stamps_are r [] = refl
stamps_are r (d ∷ ds) = by (stamps_are r ds) (routes.same_ref (caller d.delivery.stamp) r)
  where
    by : stamps (only_of r ds) ≡ map (stamp_at r) (indexes (map delivery_of (only_of r ds))) → (c : Dec (caller d.delivery.stamp ≡ r)) → stamps (choose c (d ∷ only_of r ds) (only_of r ds)) ≡ map (stamp_at r) (indexes (map delivery_of (choose c (d ∷ only_of r ds) (only_of r ds))))
    by k (yes e) =
        let s = d.delivery.stamp in
        let one : s ≡ stamp_at r s.index = ap (λ (q : Ref). stamp_at q s.index) e in
        ap (λ (x : Stamp). x ∷ stamps (only_of r ds)) one ∙ ap (λ (l : List Stamp). stamp_at r s.index ∷ l) k
    by k (no n) = k

all_there : (d : DeliveredAt) (ds : List DeliveredAt) → AllByRecursion (IsAt (delivery_of d).object) (map delivery_of ds) → All (IsWhere d) ds
all_there d [] h = All-nil _
all_there d (e ∷ ds) h = All-cons (IsWhere d) e ds (let f : AnObject e.vat e.delivery.object.0 ≡ AnObject d.vat d.delivery.object.0 = h.0 in (cc, cc)) (all_there d ds h.1)

at_one : (ds : List DeliveredAt) → AtOne (map delivery_of ds) → AreAtOne ds
at_one [] h = tt
at_one (d ∷ ds) h = all_there d ds h

-- ---- A journal

pub delivered_is : (r : Ref) (h : List JournalEntry) → delivered h r ≡ map (stamp_at r) (indexes (deliveries_of r (all_told h)))
delivered_is r h = ap stamps (only_told r h) ∙ stamps_are r (all_told h) ∙ ap (λ (l : List (routing.Delivery routes)). map (stamp_at r) (indexes l)) (sym (routed r (all_told h)))

pub made_is : (r : Ref) (h : List JournalEntry) (n : ℕ) → n ≡ length (made h r) → IsNumbered r 0 (made h r) → made h r ≡ map (stamp_at r) (below n)
made_is r h n e k = numbered_is r 0 (made h r) k ∙ ap (λ (j : ℕ). map (stamp_at r) (from 0 j)) (sym e) ∙ ap (λ (l : List ℕ). map (stamp_at r) l) (sym (below_is n))

is_beginning : (r : Ref) (xs ys : List ℕ) (ss ts : List Stamp) → IsBeginningOf xs ys → ss ≡ map (stamp_at r) xs → ts ≡ map (stamp_at r) ys → IsBeginning ss ts
is_beginning r xs ys ss ts b e f = (map (stamp_at r) b.0, ap (λ (l : List Stamp). l ++ map (stamp_at r) b.0) e ∙ sym (map-append (stamp_at r) xs b.0) ∙ ap (λ (l : List ℕ). map (stamp_at r) l) b.1 ∙ sym f)

ordered : (h : List JournalEntry) (made_in : Ref → ℕ) → ((r : Ref) → made_in r ≡ length (made h r)) → AreNumbered h
    → ((r : Ref) → IsBeginningOf (indexes (deliveries_of r (all_told h))) (below (made_in r)) × AtOne (deliveries_of r (all_told h))) → IsOrdered h
ordered h made_in counts numbers o = record { in_order = in_order; at_one = one }
  where
    in_order : IsInOrder h
    in_order r = is_beginning r (indexes (deliveries_of r (all_told h))) (below (made_in r)) (delivered h r) (made h r) (o r).0 (delivered_is r h) (made_is r h (made_in r) (counts r) (numbers r))

    one : (r : Ref) → AreAtOne (deliveries h r)
    one r = subst AreAtOne (sym (only_told r h)) (at_one (only_of r (all_told h)) (subst AtOne (routed r (all_told h)) (o r).1))

-- ---- Scenes

pub numbered_in : CallsAreNumbered → EverySceneShowsARun → (root_a root_b : Option ObjectId) (x : Scene) → IsScene root_a root_b x → AreNumbered x.journal
numbered_in numbers shows a b x i r =
    let s = shows a b x i in
    let told : telling x.journal ≡ telling (journal s.0) = (let u = s.3 in sym u.history) in
    subst (IsNumbered r 0) (sym (same_made x.journal (journal s.0) told r)) (numbers s.0 r)

pub scenes : ScenesAreBetweenSteps → DeliveredInOrder → CallsAreNumbered → EverySceneShowsARun → ScenesAreOrdered
scenes between order numbers shows a b x i =
    let k = between a b x i in
    ordered x.journal k.made k.counts (numbered_in numbers shows a b x i) (order A One One a b (seen x.world k.made (all_told x.journal) A) (core x.world A) (k.steps A))

-- ---- Runs

tells_deliveries : (r : Ref) (e : JournalEntry) → tells e ≡ false → delivered_one r e ≡ None
tells_deliveries r (entry.Delivered v d) f = absurd (let bad : true ≡ false = f in cc)
tells_deliveries r e f = refl

told_alone : (r : Ref) (h : List JournalEntry) → deliveries (telling h) r ≡ deliveries h r
told_alone r [] = refl
told_alone r (e ∷ es) = by (tells e) refl (told_alone r es)
  where
    by : (b : Bool) → tells e ≡ b → deliveries (telling es) r ≡ deliveries es r → deliveries (cond b (e ∷ telling es) (telling es)) r ≡ in_front (delivered_one r e) (deliveries es r)
    by true f k = ap (λ (l : List DeliveredAt). in_front (delivered_one r e) l) k
    by false f k = k ∙ ap (λ (o : Option DeliveredAt). in_front o (deliveries es r)) (sym (tells_deliveries r e f))

alike : (h k : List JournalEntry) → telling h ≡ telling k → IsOrdered k → IsOrdered h
alike h k e o = record {
  in_order = λ r. subst (λ (l : List Stamp). IsBeginning l (made h r)) (sym (same_delivered h k e r)) (subst (λ (l : List Stamp). IsBeginning (delivered k r) l) (sym (same_made h k e r)) (o.in_order r));
  at_one = λ r. subst AreAtOne (sym (sym (told_alone r h) ∙ ap (λ (l : List JournalEntry). deliveries l r) e ∙ told_alone r k)) (o.at_one r);
}

pub runs : EveryRunIsShown → ScenesAreOrdered → RunsAreOrdered
runs shown ordered a b xs w k = let s = shown a b xs w k in alike (journal xs) s.0.journal (let u = s.2 in u.history) (ordered a b s.0 s.1)
