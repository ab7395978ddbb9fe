-- The messages on their way, and who is down, after another entry.
use Rattle.std.specs.Prelude.{◌≡◌, ℕ, zero, suc, ◌+◌, ◌<◌, ◌≤◌, Bool, true, false, cond, not, ◌&&◌, ◌||◌, None, Some, List, [], ◌∷◌, ◌++◌, length, drop}
use Rattle.std.proofs.Common.{refl, sym, ◌∙◌, ap, subst, arith}
use Rattle.std.proofs.lemmas.List.{length-append, drop-append-le}
use Rattle.std.proofs.lemmas.List.Folds.{list_any-append}
use Rattle.rpc_msg.specs.declared.ids.Vat.{Vat}
use Rattle.rpc_msg.specs.declared.ids.Vat.TheVariants.{A, B}
use Rattle.rpc_msg.specs.declared.message.Message.{Message}
use Rattle.rpc_msg.specs.Vats.{other_vat}
use Rattle.rpc_journal.specs.declared.entry.Counts.{Counts}
use Rattle.rpc_journal.specs.declared.entry.JournalEntry.{JournalEntry}
use Rattle.rpc_journal.specs.declared.entry.JournalEntry.TheVariants as entry
use Rattle.rpc_journal.specs.History.{in_front}
use Rattle.rpc_check.specs.declared.said.Said.{Said}
use Rattle.rpc_check.specs.declared.way.Way.{Way}
use Rattle.rpc_check.specs.declared.ways.Ways.{Ways}
use Rattle.rpc_check.specs.declared.downs.Downs.{Downs}
use Rattle.rpc_check.specs.Breaches.{sent_one, sent, sendings, is_got, got, on_the_way, none_left, gets_nothing, falls, is_down, counted_on_the_way, agrees, miscounts}
use Rattle.rpc_check.specs.Counts.{CountsById, count_of, same_counts, Sending, gives, releases, of_each}
use Rattle.rpc_check.specs.Kept.{amount, Lists, Grows, direct_sum, IsSaid, IsWay, IsWayOf, WaysFor, IsCounted, way_of, rest_of, is_some_left, DownsFor}
use Rattle.rpc_check.proofs.Counting.{count_of-append}
use Rattle.rpc_check.proofs.Growing.{all_that_more, all_that_same, count_more}
use Rattle.rpc_check.proofs.OneWay.{way_grows}
use Rattle.rpc_check.proofs.Releasing.{all_counted}
use Rattle.rpc_check.proofs.Saying.{sendings_more, sendings_same}

abbrev pub with_way : Ways → Vat → Way → Ways
with_way w A n = record { a = n; b = w.b }
with_way w B n = record { a = w.a; b = n }

-- ---- One way

got_same : (h : List JournalEntry) (e : JournalEntry) (v : Vat) → is_got v e ≡ false → got (h ++ e ∷ []) v ≡ got h v
got_same h e v nope = count_more (is_got v) h e ∙ ap (λ b. got h v + cond b 1 0) nope ∙ omega arith

got_one : (h : List JournalEntry) (e : JournalEntry) (v : Vat) → is_got v e ≡ true → got (h ++ e ∷ []) v ≡ suc (got h v)
got_one h e v is = count_more (is_got v) h e ∙ ap (λ b. got h v + cond b 1 0) is ∙ omega arith

pub way_stays : (ls : Lists) (w : Way) (v : Vat) (h : List JournalEntry) (e : JournalEntry) → sent_one v e ≡ None → is_got (other_vat v) e ≡ false → IsWayOf ls w v h → IsWayOf ls w v (h ++ e ∷ [])
way_stays ls w v h e none nope is =
    let s = sendings_same h e v none in
    let g = got_same h e (other_vat v) nope in
    record {
      way = subst (λ (n : ℕ). IsWay ls w (drop n (sendings (h ++ e ∷ []) v))) (sym g) (subst (λ (ss : List Sending). IsWay ls w (drop (got h (other_vat v)) ss)) (sym s) is.way);
      fewer = subst (λ (n : ℕ). n ≤ length (sendings (h ++ e ∷ []) v)) (sym g) (subst (λ (ss : List Sending). got h (other_vat v) ≤ length ss) (sym s) is.fewer);
      said = subst (IsSaid w.said) (sym (all_that_same (sent_one v) h e none)) is.said;
    }

way_sent : (ls : Lists) (w n : Way) (v : Vat) (m : Message) (h : List JournalEntry) (e : JournalEntry) → sent_one v e ≡ Some m → is_got (other_vat v) e ≡ false → IsWayOf ls w v h
    → IsWay ls n (on_the_way h v ++ record { message = m; before = sent h (other_vat v) } ∷ []) → IsSaid n.said (sent h v ++ m ∷ []) → IsWayOf ls n v (h ++ e ∷ [])
way_sent ls w n v m h e one nope is new said =
    let x : Sending = record { message = m; before = sent h (other_vat v) } in
    let s : sendings (h ++ e ∷ []) v ≡ sendings h v ++ x ∷ [] = sendings_more h e v m one in
    let g = got_same h e (other_vat v) nope in
    let k = got h (other_vat v) in
    record {
      way = subst (IsWay ls n) (sym (ap (λ (j : ℕ). drop j (sendings (h ++ e ∷ []) v)) g ∙ ap (drop k) s ∙ drop-append-le k (sendings h v) (x ∷ []) is.fewer)) new;
      fewer = omega (arith, g, ap length s, length-append (sendings h v) (x ∷ []), is.fewer);
      said = subst (IsSaid n.said) (sym (all_that_more (sent_one v) h e ∙ ap (λ o. sent h v ++ in_front o []) one)) said;
    }

rest-drop : (n : ℕ) (xs : List Sending) → rest_of (drop n xs) ≡ drop (suc n) xs
rest-drop zero [] = refl
rest-drop zero (x ∷ xs) = refl
rest-drop (suc n) [] = refl
rest-drop (suc n) (x ∷ xs) = rest-drop n xs

left_below : (n : ℕ) (xs : List Sending) → is_some_left (drop n xs) ≡ true → n < length xs
left_below zero [] left = absurd (let f : false ≡ true = left in cc)
left_below zero (x ∷ xs) left = omega arith
left_below (suc n) [] left = absurd (let f : false ≡ true = left in cc)
left_below (suc n) (x ∷ xs) left = omega (arith, left_below n xs left)

way_got : (ls : Lists) (w n : Way) (v : Vat) (h : List JournalEntry) (e : JournalEntry) → sent_one v e ≡ None → is_got (other_vat v) e ≡ true → IsWayOf ls w v h → is_some_left (on_the_way h v) ≡ true → IsWay ls n (rest_of (on_the_way h v)) → n.said ≡ w.said → IsWayOf ls n v (h ++ e ∷ [])
way_got ls w n v h e none is_one is left new same =
    let s = sendings_same h e v none in
    let g = got_one h e (other_vat v) is_one in
    let k = got h (other_vat v) in
    record {
      way = subst (IsWay ls n) (rest-drop k (sendings h v) ∙ sym (ap (λ (j : ℕ). drop j (sendings (h ++ e ∷ []) v)) g ∙ ap (drop (suc k)) s)) new;
      fewer = omega (arith, g, ap length s, left_below k (sendings h v) left);
      said = subst (λ x. IsSaid x (sent (h ++ e ∷ []) v)) (sym same) (subst (IsSaid w.said) (sym (all_that_same (sent_one v) h e none)) is.said);
    }

pub way_of_grows : (ls ms : Lists) (w : Way) (v : Vat) (h : List JournalEntry) → Grows ls ms → IsWayOf ls w v h → IsWayOf ms w v h
way_of_grows ls ms w v h grows is = record { way = way_grows ls ms w (on_the_way h v) grows is.way; fewer = is.fewer; said = is.said }

-- ---- Both

-- What a way does with a message that is sent while the other vat has said some.
abbrev pub Sends : (w n : Way) → Said → Message → Type 0
Sends w n other m =
    ((ss : List Sending) (before : List Message) → IsWay other.lists.items w ss → IsSaid other before → IsWay other.lists.items n (ss ++ record { message = m; before = before } ∷ []))
    × ((ms : List Message) → IsSaid w.said ms → IsSaid n.said (ms ++ m ∷ []))
    × Grows w.said.lists.items n.said.lists.items

pub ways_sent : (w : Ways) (n : Way) (v : Vat) (m : Message) (h : List JournalEntry) (e : JournalEntry) → e ≡ entry.Sent v m → WaysFor w h → Sends (way_of w v) n (way_of w (other_vat v)).said m → WaysFor (with_way w v n) (h ++ e ∷ [])
ways_sent w n v m h e is now new = subst (λ x. WaysFor (with_way w v n) (h ++ x ∷ [])) (sym is) (sends v new)
  where
    sends : (v : Vat) → Sends (way_of w v) n (way_of w (other_vat v)).said m → WaysFor (with_way w v n) (h ++ entry.Sent v m ∷ [])
    sends A new A = way_sent w.b.said.lists.items w.a n A m h (entry.Sent A m) refl refl (now A) (new.0 _ _ (now A).way (now B).said) (new.1 _ (now A).said)
    sends A new B = way_of_grows w.a.said.lists.items n.said.lists.items w.b B (h ++ entry.Sent A m ∷ []) new.2 (way_stays w.a.said.lists.items w.b B h (entry.Sent A m) refl refl (now B))
    sends B new A = way_of_grows w.b.said.lists.items n.said.lists.items w.a A (h ++ entry.Sent B m ∷ []) new.2 (way_stays w.b.said.lists.items w.a A h (entry.Sent B m) refl refl (now A))
    sends B new B = way_sent w.a.said.lists.items w.b n B m h (entry.Sent B m) refl refl (now B) (new.0 _ _ (now B).way (now A).said) (new.1 _ (now B).said)

left_told : (ss : List Sending) → is_some_left ss ≡ not (none_left ss)
left_told [] = refl
left_told (s ∷ ss) = refl

-- Vat v receives: a message of the other goes.
pub ways_told : (w : Ways) (v : Vat) (h : List JournalEntry) (e : JournalEntry) → e ≡ entry.Got (other_vat v) → WaysFor w h → (b : Bool)
    → ((ls : Lists) (ss : List Sending) → IsWay ls (way_of w v) ss → b ≡ is_some_left ss) → b ≡ not (gets_nothing h e)
ways_told w A h e is now b told = told _ _ (now A).way ∙ left_told (on_the_way h A) ∙ ap (λ x. not (gets_nothing h x)) (sym is)
ways_told w B h e is now b told = told _ _ (now B).way ∙ left_told (on_the_way h B) ∙ ap (λ x. not (gets_nothing h x)) (sym is)

-- What a way does when its oldest message is received.
abbrev pub Gets : (w n : Way) → Type 0
Gets w n =
    ((ls : Lists) (ss : List Sending) → IsWay ls w ss → true ≡ is_some_left ss)
    × ((ls : Lists) (ss : List Sending) → IsWay ls w ss → IsWay ls n (rest_of ss))
    × (n.said ≡ w.said)

pub ways_got : (w : Ways) (n : Way) (v : Vat) (h : List JournalEntry) (e : JournalEntry) → e ≡ entry.Got (other_vat v) → WaysFor w h → Gets (way_of w v) n → WaysFor (with_way w v n) (h ++ e ∷ [])
ways_got w n v h e is now new = subst (λ x. WaysFor (with_way w v n) (h ++ x ∷ [])) (sym is) (gets v new)
  where
    gets : (v : Vat) → Gets (way_of w v) n → WaysFor (with_way w v n) (h ++ entry.Got (other_vat v) ∷ [])
    gets A new A = way_got w.b.said.lists.items w.a n A h (entry.Got B) refl refl (now A) (sym (new.0 _ _ (now A).way)) (new.1 _ _ (now A).way) new.2
    gets A new B = subst (λ (s : Said). IsWayOf s.lists.items w.b B (h ++ entry.Got B ∷ [])) (sym new.2) (way_stays w.a.said.lists.items w.b B h (entry.Got B) refl refl (now B))
    gets B new A = subst (λ (s : Said). IsWayOf s.lists.items w.a A (h ++ entry.Got A ∷ [])) (sym new.2) (way_stays w.b.said.lists.items w.a A h (entry.Got A) refl refl (now A))
    gets B new B = way_got w.a.said.lists.items w.b n B h (entry.Got A) refl refl (now B) (sym (new.0 _ _ (now B).way)) (new.1 _ _ (now B).way) new.2

pub way_begins : (w : Ways) → IsWay w.b.said.lists.items w.a [] → IsSaid w.a.said [] → IsWay w.a.said.lists.items w.b [] → IsSaid w.b.said [] → WaysFor w []
way_begins w a a_said b b_said A = record { way = a; fewer = omega arith; said = a_said }
way_begins w a a_said b b_said B = record { way = b; fewer = omega arith; said = b_said }

-- The lists that were released are counted: of both vats, one after the other.
pub ways_counted : (w n : Ways) (h : List JournalEntry)
    → ((ss : List Sending) → IsWay w.b.said.lists.items w.a ss → IsWay w.b.said.lists.items n.a ss) → n.a.said ≡ w.a.said
    → ((ss : List Sending) → IsWay n.a.said.lists.items w.b ss → IsWay n.a.said.lists.items n.b ss) → n.b.said ≡ w.b.said
    → WaysFor w h → WaysFor n h
ways_counted w n h a same_a b same_b now A = record {
  way = subst (λ (s : Said). IsWay s.lists.items n.a (on_the_way h A)) (sym same_b) (a _ (now A).way);
  fewer = (now A).fewer;
  said = subst (λ (s : Said). IsSaid s (sent h A)) (sym same_a) (now A).said;
}
ways_counted w n h a same_a b same_b now B = record {
  way = b _ (subst (λ (s : Said). IsWay s.lists.items w.b (on_the_way h B)) (sym same_a) (now B).way);
  fewer = (now B).fewer;
  said = subst (λ (s : Said). IsSaid s (sent h B)) (sym same_b) (now B).said;
}

pub record IsStill (e : JournalEntry) : Type 0 where
  pub not_sent : (v : Vat) → sent_one v e ≡ None
  pub not_got : (v : Vat) → is_got v e ≡ false
  pub gets : (h : List JournalEntry) → gets_nothing h e ≡ false

pub is_still : (e : JournalEntry) → ((v : Vat) (m : Message) → e ≡ entry.Sent v m → ⊥) → ((v : Vat) → e ≡ entry.Got v → ⊥) → IsStill e
is_still entry.Head f g = record { not_sent = λ u. refl; not_got = λ u. refl; gets = λ h. refl }
is_still (entry.Born v r o) f g = record { not_sent = λ u. refl; not_got = λ u. refl; gets = λ h. refl }
is_still (entry.Asked v c) f g = record { not_sent = λ u. refl; not_got = λ u. refl; gets = λ h. refl }
is_still (entry.Made v m) f g = record { not_sent = λ u. refl; not_got = λ u. refl; gets = λ h. refl }
is_still (entry.Delivered v d) f g = record { not_sent = λ u. refl; not_got = λ u. refl; gets = λ h. refl }
is_still (entry.Answered v t o rs) f g = record { not_sent = λ u. refl; not_got = λ u. refl; gets = λ h. refl }
is_still (entry.Ended v x) f g = record { not_sent = λ u. refl; not_got = λ u. refl; gets = λ h. refl }
is_still (entry.Resolved v p x) f g = record { not_sent = λ u. refl; not_got = λ u. refl; gets = λ h. refl }
is_still (entry.Rejected v p x) f g = record { not_sent = λ u. refl; not_got = λ u. refl; gets = λ h. refl }
is_still (entry.Dropped v x) f g = record { not_sent = λ u. refl; not_got = λ u. refl; gets = λ h. refl }
is_still (entry.Finished v c) f g = record { not_sent = λ u. refl; not_got = λ u. refl; gets = λ h. refl }
is_still (entry.Advanced v x a) f g = record { not_sent = λ u. refl; not_got = λ u. refl; gets = λ h. refl }
is_still (entry.Refused v n) f g = record { not_sent = λ u. refl; not_got = λ u. refl; gets = λ h. refl }
is_still (entry.Sent v m) f g = absurd (f v m refl)
is_still (entry.Got v) f g = absurd (g v refl)
is_still (entry.Down v n) f g = record { not_sent = λ u. refl; not_got = λ u. refl; gets = λ h. refl }
is_still (entry.Tables a b) f g = record { not_sent = λ u. refl; not_got = λ u. refl; gets = λ h. refl }

pub ways_stay : (w : Ways) (h : List JournalEntry) (e : JournalEntry) → IsStill e → WaysFor w h → WaysFor w (h ++ e ∷ [])
ways_stay w h e still now v = way_stays (way_of w (other_vat v)).said.lists.items (way_of w v) v h e (still.not_sent v) (still.not_got (other_vat v)) (now v)

-- ---- Down

down_more : (h : List JournalEntry) (e : JournalEntry) (v : Vat) (b : Bool) → falls v e ≡ b → is_down (h ++ e ∷ []) v ≡ (is_down h v || (b || false))
down_more h e v b is = list_any-append (falls v) h (e ∷ []) ∙ ap (λ x. is_down h v || (x || false)) is

or_true : (b : Bool) → (b || true) ≡ true
or_true true = refl
or_true false = refl

or_false : (b : Bool) → (b || false) ≡ b
or_false true = refl
or_false false = refl

pub falls_now : (h : List JournalEntry) (e : JournalEntry) (v : Vat) → falls v e ≡ true → true ≡ is_down (h ++ e ∷ []) v
falls_now h e v is = sym (down_more h e v true is ∙ or_true (is_down h v))

pub stays_so : (h : List JournalEntry) (e : JournalEntry) (v : Vat) (b : Bool) → falls v e ≡ false → b ≡ is_down h v → b ≡ is_down (h ++ e ∷ []) v
stays_so h e v b is so = so ∙ sym (down_more h e v false is ∙ or_false (is_down h v))

abbrev pub with_down : Downs → Vat → Downs
with_down d A = record { a = true; b = d.b }
with_down d B = record { a = d.a; b = true }

pub down_falls : (d : Downs) (u v : Vat) (n : ℕ) (h : List JournalEntry) (e : JournalEntry) → u ≡ v → e ≡ entry.Down u n → DownsFor d h → DownsFor (with_down d v) (h ++ e ∷ [])
down_falls d u v n h e same is now = subst (λ x. DownsFor (with_down d v) (h ++ x ∷ [])) (sym (is ∙ ap (λ x. entry.Down x n) same)) (drops v)
  where
    drops : (v : Vat) → DownsFor (with_down d v) (h ++ entry.Down v n ∷ [])
    drops A A = falls_now h (entry.Down A n) A refl
    drops A B = stays_so h (entry.Down A n) B d.b refl (now B)
    drops B A = stays_so h (entry.Down B n) A d.a refl (now A)
    drops B B = falls_now h (entry.Down B n) B refl

-- ---- Counts on the way

pub is_counted : (w : Ways) → w.a.releases.flagged.items ≡ [] → w.b.releases.flagged.items ≡ [] → IsCounted w
is_counted w a b A = a
is_counted w a b B = b

counts_released : (w : Ways) (h : List JournalEntry) (v : Vat) → IsCounted w → WaysFor w h → (e : ℕ) → amount (way_of w v).releases.counted e ≡ count_of e (of_each releases (on_the_way h v))
counts_released w h v counted now e =
    all_counted (way_of w (other_vat v)).said.lists.items (way_of w v).releases (λ x. direct_sum x (way_of w v).parcels.items) (λ x. count_of x (of_each releases (on_the_way h v))) (counted v) (now v).way.given_back e

pub counts_told : (w : Ways) (h : List JournalEntry) (v : Vat) → IsCounted w → WaysFor w h → (e : ℕ) → amount (way_of w v).handed_on e + amount (way_of w (other_vat v)).releases.counted e ≡ count_of e (counted_on_the_way h v)
counts_told w h v counted now e =
    omega (arith, (now v).way.handed e, counts_released w h (other_vat v) counted now e, count_of-append e (of_each gives (on_the_way h v)) (of_each releases (on_the_way h (other_vat v))))

pub agrees_told : (w : Ways) (h : List JournalEntry) (v : Vat) (b : Bool) (xs ys exports imports : CountsById) → IsCounted w → WaysFor w h → xs ≡ exports → ys ≡ imports
    → ((way : CountsById) → ((e : ℕ) → amount (way_of w v).handed_on e + amount (way_of w (other_vat v)).releases.counted e ≡ count_of e way) → b ≡ same_counts xs (ys ++ way))
    → b ≡ agrees h v exports imports
agrees_told w h v b xs ys exports imports counted now x y told =
    told (counted_on_the_way h v) (counts_told w h v counted now)
    ∙ ap (λ (zs : CountsById). same_counts zs (ys ++ counted_on_the_way h v)) x
    ∙ ap (λ (zs : CountsById). same_counts exports (zs ++ counted_on_the_way h v)) y

pub both_agree : (a b x y : Bool) → a ≡ x → b ≡ y → a ≡ true → b ≡ (x && y)
both_agree a b x y first second so = second ∙ ap (λ t. t && y) (sym so ∙ first)

pub one_differs : (a x y : Bool) → a ≡ x → a ≡ false → a ≡ (x && y)
one_differs a x y first off = off ∙ ap (λ t. t && y) (sym off ∙ first)

-- ---- Counts of both vats

excused : (x y z : Bool) → (x || y) ≡ true → false ≡ (not x && not y && z)
excused true y z one = refl
excused false true z one = refl
excused false false z one = absurd (let f : false ≡ true = one in cc)

asked : (x y z : Bool) → (x || y) ≡ false → z ≡ (not x && not y && z)
asked true y z none = absurd (let f : true ≡ false = none in cc)
asked false true z none = absurd (let f : true ≡ false = none in cc)
asked false false z none = refl

both_so : (d : Downs) (h : List JournalEntry) (b : Bool) → DownsFor d h → (d.a || d.b) ≡ b → (is_down h A || is_down h B) ≡ b
both_so d h b now so = ap (λ x. x || is_down h B) (sym (now A)) ∙ ap (λ x. d.a || x) (sym (now B)) ∙ so

pub down_excuses : (d : Downs) (h : List JournalEntry) (a b : Counts) (e : JournalEntry) → e ≡ entry.Tables a b → DownsFor d h → (d.a || d.b) ≡ true → false ≡ miscounts h e
down_excuses d h a b e is now one =
    excused (is_down h A) (is_down h B) (not (agrees h A a.exports b.imports && agrees h B b.exports a.imports)) (both_so d h true now one)
    ∙ ap (miscounts h) (sym is)

pub counts_asked : (d : Downs) (h : List JournalEntry) (a b : Counts) (e : JournalEntry) (fits : Bool) → e ≡ entry.Tables a b → DownsFor d h → (d.a || d.b) ≡ false → fits ≡ (agrees h A a.exports b.imports && agrees h B b.exports a.imports) → not fits ≡ miscounts h e
counts_asked d h a b e fits is now none so =
    ap not so
    ∙ asked (is_down h A) (is_down h B) (not (agrees h A a.exports b.imports && agrees h B b.exports a.imports)) (both_so d h false now none)
    ∙ ap (miscounts h) (sym is)
