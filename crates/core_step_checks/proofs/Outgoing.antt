-- Nodes that go out one after the other: how often each was named before, and what room that leaves.
use Rattle.std.proofs.Common.{◌≡◌, ℕ, suc, ◌+◌, ◌<◌, ◌≤◌, Bool, true, false, ◌&&◌, ◌||◌, cond, nat_le, List, [], ◌∷◌, ◌++◌, append_assoc, take, drop, get_or, if◌then◌else◌, length, Option, None, Some, option_to_list, unwrap_or, refl, sym, ap, subst, ◌∙◌, arith, T}
use Rattle.std.proofs.Math.Nat.{zero-add}
use Rattle.std.proofs.lemmas.List.{take_more, take_all, append-nil}
use Rattle.std.proofs.Math.Seq.{split_at}
use Rattle.std.proofs.lemmas.Bool.Decides.{nat_tests}
use Rattle.std.specs.Ordering.{nat_cmp, eq_by_cmp}
use Rattle.std.specs.FinMap as map
use Rattle.std.specs.FinMap.Entries as entries
use Rattle.finite_maps.proofs.Sorted.{behind, first_entry}
use Rattle.rpc_msg.specs.declared.ids.RefId.{RefId}
use Rattle.rpc_machine.specs.declared.node.Node.{Node}
use Rattle.rpc_machine.specs.declared.entries.Export.{Export}
use Rattle.rpc_machine.specs.State.{State}
use Rattle.rpc_machine.specs.Nodes.{settle, is_same_node}
use Rattle.rpc_machine.specs.Commands.{head_of, heads}
use Rattle.rpc_machine.specs.Fullness.{is_exportable, going_out, count_among, count_of, name_lacks_room, size_then, one_more, counts_then, names_lack_room}
use Rattle.vat_tables.specs.Exports.{HasCount, IsOther, is_name_limit, added, Passes}
use Rattle.core_step_checks.specs.Sending.{sent_out, times_among, counts_behind, Leaves, IsFar, AreFar}
use Rattle.vat_tables.specs.Exports.{node_eq}
use Rattle.vat_tables.proofs.NodeKeys.{node_same, node_itself}
use Rattle.core_step_checks.proofs.Wires.{same_node, is_itself}
use Rattle.vat_tables.proofs.Foreseeing.{added_none}

-- ---- What goes out with references, and with more of them

going_more : (s : State) (ns ms : List Node) → going_out s (ns ++ ms) ≡ going_out s ns ++ going_out s ms
going_more s [] ms = refl
going_more s (n ∷ ns) ms =
    ap (λ (ks : List Node). cond (is_exportable (settle s n)) (settle s n ∷ ks) ks) (going_more s ns ms)
    ∙ by (is_exportable (settle s n))
  where
    by : (b : Bool) → cond b (settle s n ∷ (going_out s ns ++ going_out s ms)) (going_out s ns ++ going_out s ms) ≡ cond b (settle s n ∷ going_out s ns) (going_out s ns) ++ going_out s ms
    by true = refl
    by false = refl

heads_more : (s : State) (xs ys : List RefId) → heads s (xs ++ ys) ≡ heads s xs ++ heads s ys
heads_more s [] ys = refl
heads_more s (x ∷ xs) ys = ap (λ (ns : List Node). head_of (map.get s.refs x.0) ∷ ns) (heads_more s xs ys)

pub sent_more : (s : State) (xs ys : List RefId) → sent_out s (xs ++ ys) ≡ sent_out s xs ++ sent_out s ys
sent_more s xs ys = ap (going_out s) (heads_more s xs ys) ∙ going_more s (heads s xs) (heads s ys)

pub sent_next : (s : State) (xs : List RefId) (i : ℕ) (x d : RefId) → i < length xs → x ≡ get_or xs i d → sent_out s (take (i + 1) xs) ≡ sent_out s (take i xs) ++ sent_out s (x ∷ [])
sent_next s xs i x d lt at =
    ap (sent_out s) (take_more xs i d lt) ∙ ap (λ (y : RefId). sent_out s (take i xs ++ y ∷ [])) (sym at) ∙ sent_more s (take i xs) (x ∷ [])

-- ---- How often, and with what counts

pub times_more : (n : Node) (xs ys : List Node) → times_among n (xs ++ ys) ≡ times_among n xs + times_among n ys
times_more n [] ys = sym (zero-add (times_among n ys))
times_more n (x ∷ xs) ys = ap (λ (k : ℕ). cond (is_same_node n x) (suc k) k) (times_more n xs ys) ∙ by (is_same_node n x)
  where
    by : (b : Bool) → cond b (suc (times_among n xs + times_among n ys)) (times_among n xs + times_among n ys) ≡ cond b (suc (times_among n xs)) (times_among n xs) + times_among n ys
    by true = omega arith
    by false = omega arith

-- A node is the one that is sent, or it is not.
pub sent_as : (n m : Node) (b : Bool) (sent : List Node) → option_to_list (Some m) ≡ sent → is_exportable n ≡ true → b ≡ node_eq m n → times_among n sent ≡ (if b then 1 else 0)
sent_as n m b sent is h told = ap (times_among n) (sym is) ∙ by (is_same_node n m) refl b told
  where
    by : (c : Bool) → is_same_node n m ≡ c → (b : Bool) → b ≡ node_eq m n → cond {A = ℕ} c 1 0 ≡ (if b then 1 else 0)
    by true e true f = refl
    by false e false f = refl
    by true e false f = let g : false ≡ true = f ∙ ap (node_eq m) (same_node n m e) ∙ node_itself m in cc
    by false e true f = let g : true ≡ false = sym (is_itself n h) ∙ ap (is_same_node n) (sym (node_same m n (sym f))) ∙ e in cc

pub times_next : (s : State) (n : Node) (xs : List RefId) (i : ℕ) (x d : RefId) (k more new : ℕ) → i < length xs → x ≡ get_or xs i d → k ≡ times_among n (sent_out s (take i xs))
    → times_among n (sent_out s (x ∷ [])) ≡ more → new ≡ k + more → new ≡ times_among n (sent_out s (take (i + 1) xs))
times_next s n xs i x d k more new lt at before one is =
    let two = ap (times_among n) (sent_next s xs i x d lt at) ∙ times_more n (sent_out s (take i xs)) (sent_out s (x ∷ [])) in
    omega (arith, before, one, is, two)

behind_more : (counts : Node → Option ℕ) (xs ys : List Node) → counts_behind counts (xs ++ ys) ≡ counts_behind (counts_behind counts xs) ys
behind_more counts [] ys = refl
behind_more counts (x ∷ xs) ys = behind_more (counts_then counts x) xs ys

added_more : (o : Option ℕ) (k : ℕ) → added (Some (one_more o)) k ≡ added o (suc k)
added_more None k = let e : 1 + k ≡ suc k = omega arith in ap Some e
added_more (Some c) k = let e : c + 1 + k ≡ c + suc k = omega arith in ap Some e

counts_seen : (counts : Node → Option ℕ) (done : List Node) (n : Node) → counts_behind counts done n ≡ added (counts n) (times_among n done)
counts_seen counts [] n = sym (added_none (counts n))
counts_seen counts (x ∷ xs) n = counts_seen (counts_then counts x) xs n ∙ by (is_same_node n x) refl
  where
    by : (b : Bool) → is_same_node n x ≡ b → added (cond b (Some (one_more (counts x))) (counts n)) (times_among n xs) ≡ added (counts n) (cond b (suc (times_among n xs)) (times_among n xs))
    by true h = added_more (counts x) (times_among n xs) ∙ ap (λ (m : Node). added (counts m) (suc (times_among n xs))) (sym (same_node n x h))
    by false h = refl

-- ---- The count of a node is that of its export

found_among : (n : Node) (c : ℕ) (es : List (ℕ × Export)) → T (entries.is_sorted nat_cmp es) → count_among n es ≡ Some c → (e : ℕ) × (entries.find nat_cmp e es ≡ Some (record { node = n; count = c }))
found_among n c [] h g = cc
found_among n c (y ∷ es) h g = by (found_among n c es) (entries.below_all nat_cmp y.0 es) refl h (is_same_node n y.1.node) refl g
  where
    by : (T (entries.is_sorted nat_cmp es) → count_among n es ≡ Some c → (e : ℕ) × (entries.find nat_cmp e es ≡ Some (record { node = n; count = c })))
        → (b : Bool) → entries.below_all nat_cmp y.0 es ≡ b → T (b && entries.is_sorted nat_cmp es) → (d : Bool) → is_same_node n y.1.node ≡ d → cond d (Some y.1.count) (count_among n es) ≡ Some c
        → (e : ℕ) × (entries.find nat_cmp e (y ∷ es) ≡ Some (record { node = n; count = c }))
    by rest false p h d q g = absurd h
    by rest true p h true q g =
        let k : y.1.count ≡ c = ap (λ o. unwrap_or o 0) g in
        (y.0, first_entry y es ∙ (λ i. Some (record { node = sym (same_node n y.1.node q) i; count = k i })))
    by rest true p h false q g =
        let r = rest h g in
        let u : eq_by_cmp nat_cmp r.0 y.0 ≡ false = behind y.0 es r.0 (record { node = n; count = c }) (subst (λ (c : Bool). T c) (sym p) tt) r.1 in
        (r.0, ap (λ b. cond b (Some y.1) (entries.find nat_cmp r.0 es)) u ∙ r.1)

none_among : (n : Node) (es : List (ℕ × Export)) → is_same_node n n ≡ true → count_among n es ≡ None → (e : ℕ) → IsOther n (entries.find nat_cmp e es)
none_among n [] i h e = tt
none_among n (y ∷ es) i h e = by (λ g. none_among n es i g e) (is_same_node n y.1.node) refl h (eq_by_cmp nat_cmp e y.0)
  where
    by : (count_among n es ≡ None → IsOther n (entries.find nat_cmp e es)) → (d : Bool) → is_same_node n y.1.node ≡ d → cond d (Some y.1.count) (count_among n es) ≡ None → (k : Bool) → IsOther n (cond k (Some y.1) (entries.find nat_cmp e es))
    by rest true q h k = cc
    by rest false q h true = λ same. let b : is_same_node n y.1.node ≡ true = ap (is_same_node n) same ∙ i in cc
    by rest false q h false = rest h

pub has_count : (s : State) (n : Node) → is_exportable n ≡ true → HasCount s.exports n (count_of s n)
has_count s n h = by (count_of s n) refl
  where
    by : (o : Option ℕ) → count_of s n ≡ o → HasCount s.exports n o
    by None g = λ e. subst (IsOther n) (sym (map.get-entries s.exports e)) (none_among n (map.entries s.exports) (is_itself n h) g e)
    by (Some c) g =
        let r = found_among n c (map.entries s.exports) (map.entries_sorted s.exports) g in
        (r.0, map.get-entries s.exports r.0 ∙ r.1)

-- ---- One more is named

limit_is : (size : ℕ) (o : Option ℕ) → size ≤ 4096 → name_lacks_room size o ≡ is_name_limit size o
limit_is size None h = grind (arith, nat_tests)
limit_is size (Some c) h = grind (arith, nat_tests)

size_is : (size : ℕ) (o : Option ℕ) (next : ℕ) → Passes size o next → next ≡ size_then size o
size_is size None next h = h.1
size_is size (Some c) next h = h.1

module _ (s : State) (done : List Node) (n : Node) (size : ℕ) (small : size ≤ 4096) where
  abbrev at : Option ℕ
  at = counts_behind (count_of s) done n

  limit : name_lacks_room size at ≡ is_name_limit size (added (count_of s n) (times_among n done))
  limit = limit_is size at small ∙ ap (is_name_limit size) (counts_seen (count_of s) done n)

  pub leaves_none : (more : List Node) → more ≡ n ∷ [] → is_name_limit size (added (count_of s n) (times_among n done)) ≡ true → Leaves s done more size None
  leaves_none more is met =
      subst (λ (ms : List Node). Leaves s done ms size None) (sym is)
      (λ rest. ap (λ b. b || names_lack_room (size_then size at) (counts_then (counts_behind (count_of s) done) n) rest) (limit ∙ met))

  pub leaves_some : (more : List Node) (next : ℕ) → more ≡ n ∷ [] → Passes size (added (count_of s n) (times_among n done)) next → Leaves s done more size (Some next)
  leaves_some more next is passes =
      subst (λ (ms : List Node). Leaves s done ms size (Some next)) (sym is)
      (λ rest.
      ap (λ b. b || names_lack_room (size_then size at) (counts_then (counts_behind (count_of s) done) n) rest) (limit ∙ passes.0)
      ∙ ap (λ k. names_lack_room k (counts_then (counts_behind (count_of s) done) n) rest) (ap (size_then size) (counts_seen (count_of s) done n) ∙ sym (size_is size (added (count_of s n) (times_among n done)) next passes))
      ∙ ap (λ (f : Node → Option ℕ). names_lack_room next f rest) (sym (behind_more (count_of s) done (n ∷ []))))

pub leaves_same : (s : State) (done more : List Node) (size : ℕ) → more ≡ [] → Leaves s done more size (Some size)
leaves_same s done more size is =
    subst (λ (ms : List Node). Leaves s done ms size (Some size)) (sym is)
    (λ rest. ap (λ (f : Node → Option ℕ). names_lack_room size f rest) (sym (behind_more (count_of s) done [])))

-- ---- All in turn

abbrev pub Foreseen : State → List RefId → ℕ → ℕ → Type 0
Foreseen s xs i size =
    (rest : List Node) → names_lack_room (map.len s.exports) (count_of s) (sent_out s (take i xs) ++ rest) ≡ names_lack_room size (counts_behind (count_of s) (sent_out s (take i xs))) rest

whole : (s : State) (xs : List RefId) (i : ℕ) (x d : RefId) → i < length xs → x ≡ get_or xs i d → sent_out s xs ≡ sent_out s (take i xs) ++ (sent_out s (x ∷ []) ++ sent_out s (drop (suc i) xs))
whole s xs i x d lt at =
    ap (sent_out s) (split_at xs i d lt) ∙ ap (λ (y : RefId). sent_out s (take i xs ++ y ∷ drop (suc i) xs)) (sym at)
    ∙ sent_more s (take i xs) (x ∷ drop (suc i) xs) ∙ ap (λ (ns : List Node). sent_out s (take i xs) ++ ns) (sent_more s (x ∷ []) (drop (suc i) xs))

pub foreseen_next : (s : State) (xs : List RefId) (i size next : ℕ) (x d : RefId) → i < length xs → x ≡ get_or xs i d → Foreseen s xs i size
    → Leaves s (sent_out s (take i xs)) (sent_out s (x ∷ [])) size (Some next) → Foreseen s xs (i + 1) next
foreseen_next s xs i size next x d lt at seen leaves = λ rest.
    let done = sent_out s (take i xs) in
    let one = sent_out s (x ∷ []) in
    subst (λ (ns : List Node). names_lack_room (map.len s.exports) (count_of s) (ns ++ rest) ≡ names_lack_room next (counts_behind (count_of s) ns) rest) (sym (sent_next s xs i x d lt at))
    (ap (names_lack_room (map.len s.exports) (count_of s)) (append_assoc done one rest) ∙ seen (one ++ rest) ∙ leaves rest)

pub foreseen_met : (s : State) (xs : List RefId) (i size : ℕ) (x d : RefId) → i < length xs → x ≡ get_or xs i d → Foreseen s xs i size
    → Leaves s (sent_out s (take i xs)) (sent_out s (x ∷ [])) size None → names_lack_room (map.len s.exports) (count_of s) (sent_out s xs) ≡ true
foreseen_met s xs i size x d lt at seen leaves =
    ap (names_lack_room (map.len s.exports) (count_of s)) (whole s xs i x d lt at)
    ∙ seen (sent_out s (x ∷ []) ++ sent_out s (drop (suc i) xs)) ∙ leaves (sent_out s (drop (suc i) xs))

pub foreseen_all : (s : State) (xs : List RefId) (i size : ℕ) → length xs ≤ i → Foreseen s xs i size → names_lack_room (map.len s.exports) (count_of s) (sent_out s xs) ≡ false
foreseen_all s xs i size past seen =
    let all : take i xs ≡ xs = take_all i xs past in
    ap (names_lack_room (map.len s.exports) (count_of s)) (sym (append-nil (sent_out s xs)) ∙ ap (λ (ys : List RefId). sent_out s ys ++ []) (sym all)) ∙ seen []

-- ---- Where no limit is near

pub far_more : (more : ℕ) (s : State) (xs ys : List Node) → AreFar more s xs → AreFar more s ys → AreFar more s (xs ++ ys)
far_more more s [] ys a b = b
far_more more s (x ∷ xs) ys a b = (a.0, far_more more s xs ys a.1 b)

pub is_far : (more : ℕ) (o : Option ℕ) (next : ℕ) → more ≤ 4096 → Passes 0 (added o more) next → IsFar more o
is_far more None next h passes = tt
is_far more (Some c) next h passes = let a : nat_le 4294967295 (c + more) ≡ false = passes.0 in grind (arith, nat_tests)

pub far_one : (s : State) (n : Node) (more next : ℕ) (sent : List Node) → sent ≡ n ∷ [] → more ≤ 4096 → Passes 0 (added (count_of s n) more) next → AreFar more s sent
far_one s n more next sent is small passes = subst (λ (ms : List Node). AreFar more s ms) (sym is) (is_far more (count_of s n) next small passes, tt)

pub far_next : (more : ℕ) (s : State) (xs : List RefId) (i : ℕ) (x d : RefId) → i < length xs → x ≡ get_or xs i d → AreFar more s (sent_out s (take i xs)) → AreFar more s (sent_out s (x ∷ [])) → AreFar more s (sent_out s (take (i + 1) xs))
far_next more s xs i x d lt at before one =
    subst (λ (ns : List Node). AreFar more s ns) (sym (sent_next s xs i x d lt at)) (far_more more s (sent_out s (take i xs)) (sent_out s (x ∷ [])) before one)

abbrev Far : ℕ → (Node → Option ℕ) → List Node → Type 0
Far more counts [] = Unit {0}
Far more counts (n ∷ ns) = IsFar more (counts n) × Far more counts ns

far_less : (more less : ℕ) (o : Option ℕ) → less ≤ more → IsFar more o → IsFar less o
far_less more less None h f = tt
far_less more less (Some c) h f = omega (arith, h, f)

far_then : (k : ℕ) (counts : Node → Option ℕ) (n : Node) (ns : List Node) → k ≤ 4096 → IsFar (suc k) (counts n) → Far (suc k) counts ns → Far k (counts_then counts n) ns
far_then k counts n [] h one all = tt
far_then k counts n (m ∷ ns) h one all = (by (is_same_node m n), far_then k counts n ns h one all.1)
  where
    more : (o : Option ℕ) → IsFar (suc k) o → one_more o + k < 4294967295
    more None f = omega (arith, h)
    more (Some c) f = omega (arith, f)

    by : (b : Bool) → IsFar k (cond b (Some (one_more (counts n))) (counts m))
    by true = more (counts n) one
    by false = far_less (suc k) k (counts m) (omega arith) all.0

no_limit : (size k : ℕ) (o : Option ℕ) → size + suc k ≤ 4096 → IsFar (suc k) o → (name_lacks_room size o ≡ false) × (size_then size o + k ≤ 4096)
no_limit size k None h f = (grind (arith, nat_tests), omega (arith, h))
no_limit size k (Some c) h f = let a : c + suc k < 4294967295 = f in (grind (arith, nat_tests), omega (arith, h))

far_fits : (size : ℕ) (counts : Node → Option ℕ) (ns : List Node) → size + length ns ≤ 4096 → Far (length ns) counts ns → names_lack_room size counts ns ≡ false
far_fits size counts [] h all = refl
far_fits size counts (n ∷ ns) h all =
    let k = length ns in
    let one = no_limit size k (counts n) h all.0 in
    ap (λ b. b || names_lack_room (size_then size (counts n)) (counts_then counts n) ns) one.0
    ∙ far_fits (size_then size (counts n)) (counts_then counts n) ns one.1 (far_then k counts n ns (omega (arith, h)) all.0 all.1)

far_all : (more less : ℕ) (s : State) (ns : List Node) → less ≤ more → AreFar more s ns → Far less (count_of s) ns
far_all more less s [] h all = tt
far_all more less s (n ∷ ns) h all = (far_less more less (count_of s n) h all.0, far_all more less s ns h all.1)

sent_long : (s : State) (rs : List RefId) → length (sent_out s rs) ≤ length rs
sent_long s [] = omega arith
sent_long s (r ∷ rs) = by (sent_long s rs) (is_exportable (settle s (head_of (map.get s.refs r.0))))
  where
    by : length (sent_out s rs) ≤ length rs → (b : Bool) → length (cond b (settle s (head_of (map.get s.refs r.0)) ∷ sent_out s rs) (sent_out s rs)) ≤ suc (length rs)
    by rest true = omega (arith, rest)
    by rest false = omega (arith, rest)

pub ample : (s : State) (rs : List RefId) → map.len s.exports + length rs ≤ 4096 → AreFar (length rs) s (sent_out s rs) → names_lack_room (map.len s.exports) (count_of s) (sent_out s rs) ≡ false
ample s rs h all =
    let long = sent_long s rs in
    far_fits (map.len s.exports) (count_of s) (sent_out s rs) (omega (arith, h, long)) (far_all (length rs) (length (sent_out s rs)) s (sent_out s rs) long all)
