-- A message is taken from a link; messages of another reference come and go.
use Rattle.std.proofs.Common.{◌≡◌, ◌+◌, ◌∷◌, ◌++◌, ◌∙◌, [], Bool, List, ap, arith, sym, ℕ}
use Rattle.laws_order.specs.Machine.{Call, Message, Names, Net, Reference, same_vat}
use Rattle.laws_order.specs.Invariant.{GoesTo, InPlace, InvariantOf, IsMark, OnWay, at, flow, marks_of, one, owed, pick, tail}
use Rattle.laws_order.proofs.Queues.{all_taken, everywhere_more, everywhere_onto_link, everywhere_taken, first_taken, pick_taken, taken}
use Rattle.laws_order.proofs.Standing.{at_onto_miss, at_rest}
use Rattle.laws_order.specs.Routing.{calls_to, onto_link}
use Rattle.laws_order.proofs.Flow.{flow_same}
use Rattle.laws_order.specs.Order.{indexes}
use Rattle.laws_order.proofs.Marks.{marks_onto, marks_taken, one_miss}
use Rattle.laws_order.proofs.Routing.{own_head_clear_onto, sum_same}
use Rattle.laws_order.proofs.Lists.{right_nil}

-- Nodes and messages are where they belong after a message was taken from a link.
pub in_place_taken : {W : Names} (n : Net W) (v : Bool) (m : Message W) (ms : List (Message W)) → n.links v ≡ m ∷ ms → InPlace n
    → InPlace (taken n v ms)
in_place_taken {W} n v m ms e s = record {
  homes = s.homes;
  waiting = s.waiting;
  links = all_taken same_vat n.links v m ms (GoesTo n) e s.links;
}

-- A message was taken from a link and is to be looked at: in the sum it stands where it stood.
pub taken_keeps : {W : Names} (n : Net W) (r : W.Ref) (x : Reference W) (v : Bool) (m : Message W) (ms : List (Message W)) → InPlace n
    → n.links v ≡ m ∷ ms → InvariantOf n r x [] → InvariantOf (taken n v ms) r x (m ∷ [])
taken_keeps {W} n r x v m ms s e c =
    let a : W.Node = n.stop (tail x) in
    let at_v : W.home (n.stop m.target) ≡ v = first_taken (n.links v) m ms (GoesTo n v) e (s.links v) in
    record {
      sum = λ g. sum_same (indexes x.delivered) x.made x.embargo (flow n (at n r []) g.0 a) (flow n (at (taken n v ms) r (m ∷ [])) g.0 a)
          (flow_same n (at (taken n v ms) r (m ∷ [])) (at n r []) g.0 a g.1 g.2
          (λ j p b. ap (λ z. pick n.stop r p (n.waiting (W.group p)) ++ z) (pick_taken same_vat n.links v m ms n.stop r p (W.home p) e (λ y z. ap W.home (sym z) ∙ at_v))))
          (c.sum g);
      on_the_way = everywhere_taken n v m ms (OnWay n a r x.known) e c.on_the_way;
      own_head_clear = λ g none h.
          right_nil (pick n.stop r (n.stop x.head) (m ∷ [])) (pick n.stop r (n.stop x.head) ((taken n v ms).links (W.home x.head)))
          (sym (pick_taken same_vat n.links v m ms n.stop r (n.stop x.head) (W.home x.head) e (λ y z. sym (s.homes x.head) ∙ (ap W.home (sym z) ∙ at_v))) ∙ c.own_head_clear g none h);
      turned = c.turned;
      marks = everywhere_taken n v m ms (IsMark n r x) e c.marks;
      one_mark = marks_taken r n v m ms e ∙ c.one_mark;
      dead = c.dead;
      delivered = c.delivered;
    }

-- A message of another reference is to be routed.
pub add_other : {W : Names} (n : Net W) (r : W.Ref) (x : Reference W) (m : Message W) (later : List (Message W)) → (m.ref ≡ r → ⊥)
    → InvariantOf n r x later → InvariantOf n r x (m ∷ later)
add_other {W} n r x m later f v =
    let a : W.Node = n.stop (tail x) in
    record {
      sum = λ g. sum_same (indexes x.delivered) x.made x.embargo (flow n (at n r later) g.0 a) (flow n (at n r (m ∷ later)) g.0 a)
          (sym (flow_same n (at n r later) (at n r (m ∷ later)) g.0 a g.1 g.2 (λ j p b. at_rest n r m later p (λ y z. f y)))) (v.sum g);
      on_the_way = everywhere_more n m later (OnWay n a r x.known) (λ h. absurd (f h)) v.on_the_way;
      own_head_clear = v.own_head_clear;
      turned = v.turned;
      marks = everywhere_more n m later (IsMark n r x) (λ h. absurd (f h)) v.marks;
      one_mark = let e : marks_of r n later ≡ owed x.embargo = v.one_mark in let z : one r m ≡ 0 = one_miss r m f in omega arith;
      dead = v.dead;
      delivered = v.delivered;
    }

-- Several calls of another reference are to be routed.
pub add_calls_other : {W : Names} (n : Net W) (r : W.Ref) (x : Reference W) (h : W.Node) (q : W.Ref) (cs : List ℕ) → (q ≡ r → ⊥)
    → InvariantOf n r x [] → InvariantOf n r x (calls_to h q cs)
add_calls_other n r x h q [] f v = v
add_calls_other n r x h q (i ∷ cs) f v = add_other n r x (record { target = h; ref = q; what = Call i }) (calls_to h q cs) f (add_calls_other n r x h q cs f v)

-- A message of another reference goes onto a link.
pub link_other : {W : Names} (n : Net W) (r : W.Ref) (x : Reference W) (m : Message W) (later : List (Message W)) → InPlace n
    → (m.ref ≡ r → ⊥) → InvariantOf n r x later → InvariantOf (onto_link n m) r x later
link_other {W} n r x m later s f v =
    let a : W.Node = n.stop (tail x) in
    record {
      sum = λ g. sum_same (indexes x.delivered) x.made x.embargo (flow n (at n r later) g.0 a) (flow n (at (onto_link n m) r later) g.0 a)
          (sym (flow_same n (at n r later) (at (onto_link n m) r later) g.0 a g.1 g.2 (λ j p b. at_onto_miss n r m later p s (λ y z. f y)))) (v.sum g);
      on_the_way = everywhere_onto_link n m later (OnWay n a r x.known) (λ h. absurd (f h)) v.on_the_way;
      own_head_clear = λ g none h. own_head_clear_onto n r x m s (λ y z. f y) (v.own_head_clear g none h);
      turned = v.turned;
      marks = everywhere_onto_link n m later (IsMark n r x) (λ h. absurd (f h)) v.marks;
      one_mark =
          let e : marks_of r n later ≡ owed x.embargo = v.one_mark in
          let y : marks_of r (onto_link n m) later ≡ marks_of r n later + one r m = marks_onto r n m later in
          let z : one r m ≡ 0 = one_miss r m f in
          omega arith;
      dead = v.dead;
      delivered = v.delivered;
    }
