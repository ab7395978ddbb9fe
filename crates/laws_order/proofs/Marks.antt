-- How many disembargos and echoes of a reference are under way.
use Rattle.std.proofs.Common.{◌≡◌, ◌+◌, ◌∷◌, ◌++◌, ◌∙◌, [], Bool, List, None, Some, ap, ap₂, arith, false, refl, sym, true, ℕ}
use Rattle.std.specs.List.{AllByRecursion}
use Rattle.laws_order.specs.Machine.{Call, Content, Disembargo, Echo, Message, Names, Net, Reference, changed, choose, same_vat}
use Rattle.laws_order.specs.Order.{IsCall}
use Rattle.laws_order.specs.Invariant.{Item, MarkBy, count, item, mark, marks_of, one}
use Rattle.laws_order.proofs.Choices.{choose_no, choose_yes}
use Rattle.laws_order.proofs.Lists.{none_not_some}
use Rattle.laws_order.specs.Routing.{onto_link}
use Rattle.laws_order.proofs.Queues.{taken}

-- A message of another reference counts 0.
pub one_miss : {W : Names} (r : W.Ref) (m : Message W) → (m.ref ≡ r → ⊥) → one r m ≡ 0
one_miss {W} r m f = choose_no (W.same_ref m.ref r) (mark m.what) 0 f

-- A message of r counts 1 if it is a mark, else 0.
pub one_hit : {W : Names} (r : W.Ref) (m : Message W) → m.ref ≡ r → one r m ≡ mark m.what
one_hit {W} r m f = choose_yes (W.same_ref m.ref r) (mark m.what) 0 f

-- A message that is no mark counts 0.
pub one_call : {W : Names} (r : W.Ref) (m : Message W) → mark m.what ≡ 0 → one r m ≡ 0
one_call {W} r m e = go (W.same_ref m.ref r)
  where
    go : (d : Dec (m.ref ≡ r)) → choose d (mark m.what) 0 ≡ 0
    go (yes a) = e
    go (no a) = refl

-- One message more at the end of a list adds its count.
pub count_append : {W : Names} (r : W.Ref) (ms : List (Message W)) (m : Message W) → count r (ms ++ m ∷ []) ≡ count r ms + one r m
count_append r [] m = omega arith
count_append r (k ∷ ms) m = let ih : count r (ms ++ m ∷ []) ≡ count r ms + one r m = count_append r ms m in omega arith

-- If no message is of r, the count is 0.
pub count_none : {W : Names} (r : W.Ref) (ms : List (Message W)) → AllByRecursion (λ m. m.ref ≡ r → ⊥) ms → count r ms ≡ 0
count_none r [] h = refl
count_none r (m ∷ ms) h = let a : one r m ≡ 0 = one_miss r m h.0 in let b : count r ms ≡ 0 = count_none r ms h.1 in omega arith

-- If the count is 0, no message of r is a mark.
pub count_zero : {W : Names} (r : W.Ref) (ms : List (Message W)) → count r ms ≡ 0 → AllByRecursion (λ m. m.ref ≡ r → mark m.what ≡ 0) ms
count_zero r [] e = tt
count_zero r (m ∷ ms) e =
    let z : one r m + count r ms ≡ 0 = e in
    let u : one r m ≡ 0 = omega arith in
    ((λ h. sym (one_hit r m h) ∙ u), count_zero r ms (omega arith))

-- The count of an item: 1 for a mark.
abbrev weight : Item → ℕ
weight None = 1
weight (Some i) = 0

-- The count of a content is that of its item.
mark_weight : (c : Content) → mark c ≡ weight (item c)
mark_weight (Call i) = refl
mark_weight Disembargo = refl
mark_weight Echo = refl

-- A message that goes on as the same item counts the same.
pub one_onward : {W : Names} (r : W.Ref) (m m' : Message W) → m'.ref ≡ m.ref → item m'.what ≡ item m.what → one r m' ≡ one r m
one_onward {W} r m m' q e =
    ap₂ (λ y z. choose (W.same_ref y r) z 0) q (mark_weight m'.what ∙ (ap weight e ∙ sym (mark_weight m.what)))

-- A message that goes onto a link adds its count.
pub marks_onto : {W : Names} (r : W.Ref) (n : Net W) (m : Message W) (later : List (Message W))
    → marks_of r (onto_link n m) later ≡ marks_of r n later + one r m
marks_onto {W} r n m later = go (W.home m.target)
  where
    go : (v : Bool) → marks_of r (record n { links = changed same_vat n.links v (n.links v ++ m ∷ []) }) later ≡ marks_of r n later + one r m
    go true = let e : count r (n.links true ++ m ∷ []) ≡ count r (n.links true) + one r m = count_append r (n.links true) m in omega arith
    go false = let e : count r (n.links false ++ m ∷ []) ≡ count r (n.links false) + one r m = count_append r (n.links false) m in omega arith

-- A message that is taken from a link, and is to be looked at, still counts.
pub marks_taken : {W : Names} (r : W.Ref) (n : Net W) (v : Bool) (m : Message W) (ms : List (Message W)) → n.links v ≡ m ∷ ms
    → marks_of r (taken n v ms) (m ∷ []) ≡ marks_of r n []
marks_taken {W} r n v m ms e = go v e
  where
    go : (v : Bool) → n.links v ≡ m ∷ ms → marks_of r (taken n v ms) (m ∷ []) ≡ marks_of r n []
    go true e = let u : count r (n.links true) ≡ one r m + count r ms = ap (count r) e in omega arith
    go false e = let u : count r (n.links false) ≡ one r m + count r ms = ap (count r) e in omega arith

-- A reference with no embargo has no mark: so what is said of its marks holds whatever it becomes.
pub mark_none : {W : Names} (n : Net W) (x x' : Reference W) → x.embargo ≡ None → (t : W.Node) (c : Content) → MarkBy n x t c → MarkBy n x' t c
mark_none n x x' e t (Call i) h = tt
mark_none n x x' e t Disembargo h = absurd (none_not_some h.0 (sym e ∙ h.1))
mark_none n x x' e t Echo h = absurd (none_not_some h.0 (sym e ∙ h.1))

-- A content that counts 0 is a call.
pub mark_zero : {W : Names} (n : Net W) (x : Reference W) (t : W.Node) (c : Content) → mark c ≡ 0 → MarkBy n x t c
mark_zero n x t (Call i) e = tt
mark_zero n x t Disembargo e = absurd (omega arith)
mark_zero n x t Echo e = absurd (omega arith)

-- A call is always as a mark should be.
pub mark_call : {W : Names} (n : Net W) (x : Reference W) (t : W.Node) (c : Content) → IsCall c → MarkBy n x t c
mark_call n x t (Call i) e = tt
mark_call n x t Disembargo e = absurd e
mark_call n x t Echo e = absurd e

-- A call counts 0.
pub count_call : {W : Names} (r : W.Ref) (m : Message W) → IsCall m.what → one r m ≡ 0
count_call r m h = one_call r m (go m.what h)
  where
    go : (c : Content) → IsCall c → mark c ≡ 0
    go (Call i) h = refl
    go Disembargo h = absurd h
    go Echo h = absurd h

-- If all are calls, the count is 0.
pub count_calls : {W : Names} (r : W.Ref) (ms : List (Message W)) → AllByRecursion (λ m. IsCall m.what) ms → count r ms ≡ 0
count_calls r [] h = refl
count_calls r (m ∷ ms) h = let a : one r m ≡ 0 = count_call r m h.0 in let b : count r ms ≡ 0 = count_calls r ms h.1 in omega arith
