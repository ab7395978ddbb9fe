-- What is kept of nothing, and behind changes one after the other.
use Rattle.std.proofs.Common.{◌≡◌, ℕ, ◌+◌, ◌<◌, ◌≤◌, cond, Bool, true, false, Option, Some, None, unwrap_or, List, [], ◌∷◌, length, get_or, drop, refl, sym, ap, subst, ◌∙◌}
use Rattle.std.proofs.Math.Path.{fun_ext}
use Rattle.std.proofs.lemmas.List.{drop_all}
use Rattle.std.specs.BTreeMap.{BTreeMap, get, is_at}
use Rattle.rpc_msg.specs.declared.ids.QuestionId.{QuestionId}
use Rattle.look_pieces.specs.declared.piece.Side.{Side}
use Rattle.look_books.specs.declared.act.Asked.{Asked}
use Rattle.look_books.specs.declared.act.Kind.{Kind}
use Rattle.look_books.specs.declared.books.Moment.{Moment}
use Rattle.look_books.specs.declared.export.Origin.TheVariants as origin
use Rattle.look_books.specs.declared.question.Results.{Results}
use Rattle.look_books.specs.declared.question.Results.TheVariants as results
use Rattle.look_books.specs.declared.take.Said.{Said}
use Rattle.look_books.specs.Acts.{Does, kind_of_act}
use Rattle.look_books.specs.Checks.{all_given}
use Rattle.std.specs.Map.{lookup}
use Rattle.std.specs.List.{list_any}
use Rattle.std.specs.BTreeSet as set
use Rattle.std.specs.Ordering.{nat_cmp}
use Rattle.rpc_msg.specs.declared.ids.ExportId.{ExportId}
use Rattle.rpc_msg.specs.declared.parts.Descriptor.{Descriptor}
use Rattle.look_books.specs.declared.export.Origin.{Origin}
use Rattle.look_books.specs.declared.question.Question.{Question}
use Rattle.look_books.specs.Ends.{Kept, question_at}
use Rattle.look_books.specs.After.{put, Held, Are, doing, give_one, give_from, give_back, give_back_all, give_back_if, with_question, closing, is_over, settle, settle_if, taken, unanswered_of, unfinished_of, flagged, asked_of, descriptors_in, returned, answer_to, answer_by, answer, given_in, finished, finish_by, finish, more, fewer, fail_by, fail_if, come_back, returns_of, after_but_answer, answer_if, after}
use Rattle.look_books.proofs.Finding.{drop_more}

-- ---- nothing

pub none_yet : {X : Type 0} (m : BTreeMap ℕ X) → m.entries ≡ [] → ◌≡◌ {A = ℕ → Option X} (λ (q : ℕ). get nat_cmp m q) (λ (q : ℕ). None)
none_yet {X} m e = ap {B = ℕ → Option X} (λ (es : List (ℕ × X)) (q : ℕ). lookup (is_at (nat_cmp q)) es) e

pub none_in : (m : set.BTreeSet ℕ) → m.keys ≡ [] → ◌≡◌ {A = ℕ → Bool} (λ (q : ℕ). set.contains nat_cmp m q) (λ (q : ℕ). false)
none_in m e = ap {B = ℕ → Bool} (λ (ks : List ℕ) (q : ℕ). list_any (is_at (nat_cmp q)) ks) e

-- ---- lists

pub gives_more : (n : ℕ) (o : Origin) (ds : List Descriptor) (i : ℕ) (x : Descriptor) (k l m : Kept) → i < length ds → x ≡ get_or ds i x
    → doing (give_from n o i (drop i ds)) l ≡ k → m ≡ doing (give_one x (record { number = n; index = i; origin = o })) l
    → doing (give_from n o (i + 1) (drop (i + 1) ds)) m ≡ k
gives_more n o ds i x k l m lt is left e =
    ap (doing (give_from n o (i + 1) (drop (i + 1) ds))) e
    ∙ sym (ap (λ (xs : List Descriptor). doing (give_from n o i xs) l) (drop_more ds i x lt is)) ∙ left

pub gives_all : (n : ℕ) (o : Origin) (ds : List Descriptor) (i : ℕ) (k m : Kept) → length ds ≤ i → doing (give_from n o i (drop i ds)) m ≡ k → m ≡ k
gives_all n o ds i k m le left = sym (ap (λ (xs : List Descriptor). doing (give_from n o i xs) m) (drop_all i ds le)) ∙ left

pub back_more : (n : ℕ) (xs : List ExportId) (i : ℕ) (x : ExportId) (k l m : Kept) → i < length xs → x ≡ get_or xs i x
    → doing (give_back_all n (drop i xs)) l ≡ k → m ≡ doing (give_back x 1 n) l → doing (give_back_all n (drop (i + 1) xs)) m ≡ k
back_more n xs i x k l m lt is left e =
    ap (doing (give_back_all n (drop (i + 1) xs))) e
    ∙ sym (ap (λ (ys : List ExportId). doing (give_back_all n ys) l) (drop_more xs i x lt is)) ∙ left

pub back_all : (n : ℕ) (xs : List ExportId) (i : ℕ) (k m : Kept) → length xs ≤ i → doing (give_back_all n (drop i xs)) m ≡ k → m ≡ k
back_all n xs i k m le left = sym (ap (λ (ys : List ExportId). doing (give_back_all n ys) m) (drop_all i xs le)) ∙ left

-- ---- questions

put_put : {X : Type 0} (k : ℕ) (v w : X) (f : ℕ → X) → put k v (put k w f) ≡ put k v f
put_put {X} k v w f = fun_ext (λ q. same (is_at (nat_cmp k) q) v w (f q)) where
  same : (b : Bool) (v w x : X) → cond b v (cond b w x) ≡ cond b v x
  same true v w x = refl
  same false v w x = refl

-- That the question was taken out before is not seen behind it.
settle_taken : (b : Bool) (q : QuestionId) (x : Question) (f : Held → Held) (k : Kept) → settle_if b q x (doing f (with_question q None k)) ≡ settle_if b q x (doing f k)
settle_taken true q x f k = ap (λ (g : ℕ → Option Question). record (doing f k) { questions = g; closed = put q.0 (Some (closing x)) k.closed }) (put_put q.0 None None k.questions)
settle_taken false q x f k = ap (λ (g : ℕ → Option Question). record (doing f k) { questions = g }) (put_put q.0 (Some x) None k.questions)

pub back_so : (n : ℕ) (flag flag1 : Bool) (xs xs1 : List ExportId) (k m : Kept) → flag ≡ flag1 → xs ≡ xs1 → m ≡ doing (give_back_if flag n xs) k → m ≡ doing (give_back_if flag1 n xs1) k
back_so n flag flag1 xs xs1 k m p q e =
    e ∙ ap (λ (b : Bool). doing (give_back_if b n xs) k) p ∙ ap (λ (ys : List ExportId). doing (give_back_if flag1 n ys) k) q

pub settle_so : (q : QuestionId) (x y : Question) (k l m : Kept) → x ≡ y → l ≡ k → m ≡ settle q x l → m ≡ settle q y k
settle_so q x y k l m p r e = e ∙ ap (λ (z : Question). settle q z l) p ∙ ap (settle q y) r

taken_so : (q : QuestionId) (o : Option Question) (x : Question) (k l : Kept) → o ≡ Some x → l ≡ taken q o k → l ≡ with_question q None k
taken_so q o x k l is e = e ∙ ap (λ (p : Option Question). taken q p k) is

-- The question was taken out, and is settled behind what was done to the exports.
settled_so : (q : QuestionId) (o : Option Question) (x y z : Question) (f : Held → Held) (k k1 k2 m : Kept) → o ≡ Some x → k1 ≡ taken q o k → k2 ≡ doing f k1 → y ≡ z → m ≡ settle q y k2 → m ≡ settle q z (doing f k)
settled_so q o x y z f k k1 k2 m is e d p s =
    settle_so q y z (doing f (with_question q None k)) k2 m p (d ∙ ap (doing f) (taken_so q o x k k1 is e)) s ∙ settle_taken (is_over z) q z f k

pub answered_so : (m : Moment) (s : Said) (r : Results) (own own1 heard heard1 a b : Kept) (o : Option Question) (his : Question) (asked : Option Asked) (ds : List Descriptor)
    → o ≡ unanswered_of (question_at heard s.question) → heard1 ≡ taken s.question o heard → o ≡ Some his → asked ≡ asked_of o → ds ≡ descriptors_in r
    → own1 ≡ doing (give_from m.number (origin.Results asked) 0 ds) own → Are (answer_to (Some his) m s r own1 heard1) a b → Are (answer m s r own heard) a b
answered_so m s r own own1 heard heard1 a b o his asked ds there out is by of gave x =
    let asks : asked ≡ Some his.asked = by ∙ ap asked_of is in
    let given : own1 ≡ doing (give_from m.number (origin.Results (Some his.asked)) 0 (descriptors_in r)) own =
    gave ∙ ap (λ (w : Option Asked). doing (give_from m.number (origin.Results w) 0 ds) own) asks ∙ ap (λ (ys : List Descriptor). doing (give_from m.number (origin.Results (Some his.asked)) 0 ys) own) of in
    let z : Question = returned his (record { number = m.number; waived = s.waived; gives = all_given (descriptors_in r); results = r }) in
    let back : Held → Held = give_back_if s.flag m.number his.gives in
    let y : Are (answer_by (Some his) m s r own heard) a b = (
      x.0 ∙ ap (doing (give_back_if (flagged his.finished) m.number (all_given (descriptors_in r)))) given,
      settled_so s.question o his z z back heard heard1 (doing back heard1) b is out refl refl x.1,
    ) in
    subst (λ (p : Option Question). Are (answer_by p m s r own heard) a b) (sym is ∙ there) y

pub failed_so : (m : Moment) (q : QuestionId) (k k1 k2 k3 : Kept) (o : Option Question) (his y : Question) (xs : List ExportId)
    → o ≡ unanswered_of (question_at k q) → k1 ≡ taken q o k → o ≡ Some his → xs ≡ his.gives → k2 ≡ doing (give_back_all m.number xs) k1
    → y ≡ returned his (record { number = m.number; waived = true; gives = []; results = results.None }) → k3 ≡ settle q y k2
    → k3 ≡ fail_by (unanswered_of (question_at k q)) m q k
failed_so m q k k1 k2 k3 o his y xs there out is of gave so x =
    let z : Question = returned his (record { number = m.number; waived = true; gives = []; results = results.None }) in
    let all : k2 ≡ doing (give_back_all m.number his.gives) k1 = gave ∙ ap (λ (ys : List ExportId). doing (give_back_all m.number ys) k1) of in
    let w : k3 ≡ fail_by (Some his) m q k = settled_so q o his y z (give_back_all m.number his.gives) k k1 k2 k3 is out all so x in
    subst (λ (p : Option Question). k3 ≡ fail_by p m q k) (sym is ∙ there) w

pub finished_so : (m : Moment) (q : QuestionId) (flag : Bool) (own own1 own2 heard heard1 : Kept) (o : Option Question) (mine y : Question) (xs : List ExportId)
    → o ≡ unfinished_of (question_at own q) → own1 ≡ taken q o own → o ≡ Some mine → xs ≡ given_in mine.returned → heard1 ≡ doing (give_back_if flag m.number xs) heard
    → y ≡ finished mine (record { number = m.number; flag = flag }) → own2 ≡ settle q y own1 → Are (finish m q flag own heard) own2 heard1
finished_so m q flag own own1 own2 heard heard1 o mine y xs there out is of gave so x =
    let z : Question = finished mine (record { number = m.number; flag = flag }) in
    let w : Are (finish_by (Some mine) m q flag own heard) own2 heard1 = (
      settled_so q o mine y z (λ h. h) own own1 own1 own2 is out refl so x,
      gave ∙ ap (λ (ys : List ExportId). doing (give_back_if flag m.number ys) heard) of,
    ) in
    subst (λ (p : Option Question). Are (finish_by p m q flag own heard) own2 heard1) (sym is ∙ there) w

-- ---- messages

pub came_back_so : (m : Moment) (kind : Kind) (o : Option QuestionId) (q : QuestionId) (ds : List Descriptor) (xs : List ExportId) (k k1 k2 k3 : Kept)
    → k1 ≡ fewer kind k → xs ≡ all_given ds → k2 ≡ doing (give_back_all m.number xs) k1 → o ≡ Some q → k3 ≡ fail_if (Some q) m k2 → k3 ≡ come_back m kind o ds k
came_back_so m kind o q ds xs k k1 k2 k3 less of gave is x =
    let all : k2 ≡ doing (give_back_all m.number (all_given ds)) (fewer kind k) =
    gave ∙ ap (λ (ys : List ExportId). doing (give_back_all m.number ys) k1) of ∙ ap (doing (give_back_all m.number (all_given ds))) less in
    x ∙ ap (fail_if (Some q) m) all ∙ ap (λ (p : Option QuestionId). come_back m kind p ds k) (sym is)

pub counted_so : (m : Moment) (d e : Does) (kind : Kind) (own own1 heard a b : Kept) → d ≡ e → kind ≡ kind_of_act d → own1 ≡ more kind own → Are (after_but_answer m d own1 heard) a b
    → Are (after_but_answer m e (more (kind_of_act e) own) heard) a b
counted_so m d e kind own own1 heard a b is k counts x =
    let y : Are (after_but_answer m d (more (kind_of_act d) own) heard) a b =
    subst (λ (l : Kept). Are (after_but_answer m d l heard) a b) (counts ∙ ap (λ (j : Kind). more j own) k) x in
    subst (λ (c : Does). Are (after_but_answer m c (more (kind_of_act c) own) heard) a b) is y

pub after_so : (m : Moment) (d : Does) (r r1 : Results) (s : Said) (o : Option Said) (own own1 heard heard1 a b : Kept) → o ≡ returns_of d → o ≡ Some s
    → Are (after_but_answer m d (more (kind_of_act d) own) heard) own1 heard1 → r1 ≡ r → Are (answer m s r1 own1 heard1) a b → Are (after m d r own heard) a b
after_so m d r r1 s o own own1 heard heard1 a b of is kept same x =
    let x1 : Are (answer m s r own1 heard1) a b = subst (λ (w : Results). Are (answer m s w own1 heard1) a b) same x in
    let x2 : Are (answer m s r (after_but_answer m d (more (kind_of_act d) own) heard).0 heard1) a b = subst (λ (k : Kept). Are (answer m s r k heard1) a b) kept.0 x1 in
    let x3 : Are (answer_if (Some s) m r (after_but_answer m d (more (kind_of_act d) own) heard)) a b =
    subst (λ (k : Kept). Are (answer m s r (after_but_answer m d (more (kind_of_act d) own) heard).0 k) a b) kept.1 x2 in
    subst (λ (p : Option Said). Are (answer_if p m r (after_but_answer m d (more (kind_of_act d) own) heard)) a b) (sym is ∙ of) x3

pub after_none : (m : Moment) (d : Does) (r : Results) (o : Option Said) (own own1 heard heard1 : Kept) → o ≡ returns_of d → o ≡ None
    → Are (after_but_answer m d (more (kind_of_act d) own) heard) own1 heard1 → Are (after m d r own heard) own1 heard1
after_none m d r o own own1 heard heard1 of is x =
    subst (λ (p : Option Said). Are (answer_if p m r (after_but_answer m d (more (kind_of_act d) own) heard)) own1 heard1) (sym is ∙ of) x
