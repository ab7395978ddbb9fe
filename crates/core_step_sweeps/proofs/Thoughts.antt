-- The thought goes on.
use Rattle.std.proofs.Common.{◌≡◌, ℕ, suc, ◌+◌, ◌≤◌, ◌<◌, ◌==◌, List, [], ◌∷◌, ◌++◌, length, length-append, append_assoc, get_or, drop, reverse, Option, None, Some, option_to_list, refl, sym, ap, subst, ◌∙◌, arith}
use Rattle.std.proofs.lemmas.List.{reverse-append, drop_more, drop_all}
use Rattle.rpc_msg.specs.declared.ids.QuestionId.{QuestionId}
use Rattle.rpc_machine.specs.declared.node.Node.{Node}
use Rattle.rpc_machine.specs.declared.node.Node.TheVariants as node
use Rattle.rpc_machine.specs.State.{State}
use Rattle.rpc_machine.specs.Lists.{how_many}
use Rattle.rpc_machine.specs.Places.{places}
use Rattle.laws_acts.specs.Alike.{Alike}
use Rattle.laws_acts.proofs.Parts.{how_many_append}
use Rattle.core_refcounts.specs.Names.{Names, Counts, times_named, named_all}
use Rattle.core_refcounts.proofs.Listing.{counts_more_all}
use Rattle.core_store.specs.declared.store.Store.{Store}
use Rattle.core_store.specs.Holding.{state_of, all_named}
use Rattle.core_step_sweeps.specs.declared.thought.Thought.{Thought}
use Rattle.core_step_sweeps.specs.Thinking.{IsLoose, IsLooseIf, IsLeft, Covers, IsThought, gone_of, all_gone, left, without, named_by_thing, nodes_of, asked_by, is_of, any, work}
use Rattle.core_step_sweeps.proofs.Looking.{counts_of, same_left, is_loose_to, is_loose_from}
use Rattle.core_step_sweeps.proofs.Covering.{covers_less, gone_firm, thing_leaves, covers_more}
use Rattle.core_step_sweeps.proofs.Leaving.{thing_goes}

-- ---- What went is marked

marked_gone : (last : Option Node) (ns ms : List Node) → ms ≡ ns ++ option_to_list last → reverse ms ≡ all_gone last (reverse ns)
marked_gone None ns ms is = ap (λ (xs : List Node). reverse xs) is ∙ reverse-append ns []
marked_gone (Some n) ns ms is = ap (λ (xs : List Node). reverse xs) is ∙ reverse-append ns (n ∷ [])

unmarked : (last : Option Node) (ns : List Node) → option_to_list last ++ ns ≡ all_gone last ns
unmarked None ns = refl
unmarked (Some n) ns = refl

module _ (s : State) (x y : Thought) (gone : y.gone.items ≡ x.gone.items ++ option_to_list x.last) (last : y.last ≡ None) (marks : y.marks ≡ named_all x.marks (option_to_list x.last))
    (over : y.over.items ≡ x.over.items) (less : y.less ≡ x.less) where
  gone_now : reverse y.gone.items ≡ gone_of x
  gone_now = marked_gone x.last x.gone.items y.gone.items gone

  pub same_gone : gone_of y ≡ gone_of x
  same_gone = ap (λ (o : Option Node). all_gone o (reverse y.gone.items)) last ∙ gone_now

  pub thought_marked : (pending : List Node) → IsThought s x pending → IsThought s y pending
  thought_marked pending h = record {
    went = h.went;
    is_left = subst (λ (g : List Node). IsLeft s (left s g) g h.went (reverse y.over.items)) (sym same_gone)
        (subst (λ (ids : List QuestionId). IsLeft s (left s (gone_of x)) (gone_of x) h.went (reverse ids)) (sym over) h.is_left);
    less = subst (λ (c : Names). Counts c h.went) (sym less) h.less;
    marks = subst (λ (c : Names). Counts c (reverse y.gone.items)) (sym marks)
        (subst (λ (ns : List Node). Counts (named_all x.marks (option_to_list x.last)) ns) (unmarked x.last (reverse x.gone.items) ∙ sym gone_now)
        (counts_more_all x.marks (reverse x.gone.items) (option_to_list x.last) h.marks));
    covers = subst (λ (g : List Node). Covers (left s g) pending) (sym same_gone) h.covers;
  }

-- ---- One node is looked at

module _ (s : State) (x : Thought) (n : Node) (pending : List Node) (last : x.last ≡ None) (h : IsThought s x (n ∷ pending)) where
  all_marked : reverse x.gone.items ≡ gone_of x
  all_marked = sym (ap (λ (o : Option Node). all_gone o (reverse x.gone.items)) last)

  pub times_gone : times_named x.marks n ≡ how_many (is_of n) (gone_of x)
  times_gone = counts_of x.marks (reverse x.gone.items) h.marks n ∙ ap (λ (ns : List Node). how_many (is_of n) ns) all_marked

  -- It is not loose.
  pub thought_firm : ¬ (IsLoose (left s (gone_of x)) n) → IsThought s x pending
  thought_firm firm = record {
    went = h.went;
    is_left = h.is_left;
    less = h.less;
    marks = h.marks;
    covers = covers_less (left s (gone_of x)) n pending firm h.covers;
  }

  pub thought_gone : 0 < times_named x.marks n → IsThought s x pending
  thought_gone some = thought_firm (gone_firm s (left s (gone_of x)) (gone_of x) h.went (reverse x.over.items) h.is_left n (let e = times_gone in omega (arith, some, e)))

-- By what the store says.
module _ (store : Store) (counted : Counts store.names (all_named store)) (none : store.waits.taken ≡ []) (x : Thought) (n : Node) (pending : List Node) (last : x.last ≡ None) (h : IsThought (state_of store) x (n ∷ pending)) (fresh : times_named x.marks n ≡ 0) where
  abbrev s : State
  s = state_of store

  abbrev t : State
  t = left s (gone_of x)

  abbrev asked : List QuestionId
  asked = reverse x.over.items

  none_gone : how_many (is_of n) (gone_of x) ≡ 0
  none_gone = sym (times_gone s x n pending last h) ∙ fresh

  calls : t.calls ≡ s.calls
  calls = ap (λ (y : State). y.calls) h.is_left.beside

  answers : t.answers ≡ s.answers
  answers = ap (λ (y : State). y.answers) h.is_left.beside

  is_now : IsLooseIf s (times_named store.names n == times_named x.less n) n → IsLoose t n
  is_now = is_loose_to store counted none t calls answers h.went h.is_left.alike x.less h.less n (same_left s t (gone_of x) h.went asked h.is_left n none_gone)

  pub thought_held : ¬ (IsLooseIf s (times_named store.names n == times_named x.less n) n) → IsThought s x pending
  thought_held firm =
      thought_firm s x n pending last h (λ loose. firm (is_loose_from store counted none t calls answers h.went h.is_left.alike x.less h.less n (same_left s t (gone_of x) h.went asked h.is_left n none_gone) loose))

  -- It goes.
  module _ (y : Thought) (loose : IsLooseIf s (times_named store.names n == times_named x.less n) n) (gone : y.gone.items ≡ x.gone.items) (now : y.last ≡ Some n) (marks : y.marks ≡ x.marks) (over : y.over.items ≡ x.over.items ++ asked_by n)
      (less : y.less ≡ named_all x.less (named_by_thing s n)) where
    abbrev said : List Node
    said = named_by_thing s n

    goes : IsLeft s (without t n) (n ∷ gone_of x) (said ++ h.went) (asked_by n ++ asked)
    goes = thing_goes s t (gone_of x) h.went asked h.is_left n (is_now loose) none_gone

    gone_then : gone_of y ≡ n ∷ gone_of x
    gone_then =
        ap (λ (o : Option Node). all_gone o (reverse y.gone.items)) now
        ∙ ap (λ (ns : List Node). n ∷ reverse ns) gone
        ∙ ap (λ (o : Option Node). n ∷ all_gone o (reverse x.gone.items)) (sym last)

    turned : (m : Node) → reverse (asked_by m) ≡ asked_by m
    turned (node.Object o) = refl
    turned (node.Promise p) = refl
    turned (node.Field o path) = refl
    turned (node.Import e) = refl
    turned (node.Pipe q path) = refl
    turned (node.Broken reason) = refl

    asked_then : reverse y.over.items ≡ asked_by n ++ asked
    asked_then =
        ap (λ (ids : List QuestionId). reverse ids) over
        ∙ reverse-append x.over.items (asked_by n)
        ∙ ap (λ (ids : List QuestionId). ids ++ asked) (turned n)

    -- What it named went from the places.
    alike_then : Alike (places t) (said ++ places (without t n))
    alike_then = λ test.
        let a = h.is_left.alike test in
        let b = goes.alike test in
        let c = how_many_append test h.went (places t) in
        let d = how_many_append test (said ++ h.went) (places (without t n)) in
        let e = how_many_append test said h.went in
        let f = how_many_append test said (places (without t n)) in
        omega (arith, a, b, c, d, e, f)

    pub thought_goes : (all : List Node) → all ≡ pending ++ said → IsThought s y all
    thought_goes all more = record {
      went = said ++ h.went;
      is_left = subst (λ (g : List Node). IsLeft s (left s g) g (said ++ h.went) (reverse y.over.items)) (sym gone_then)
          (subst (λ (ids : List QuestionId). IsLeft s (without t n) (n ∷ gone_of x) (said ++ h.went) ids) (sym asked_then) goes);
      less = subst (λ (c : Names). Counts c (said ++ h.went)) (sym less) (counts_more_all x.less h.went said h.less);
      marks = subst (λ (c : Names). Counts c (reverse y.gone.items)) (sym marks) (subst (λ (ns : List Node). Counts x.marks (reverse ns)) (sym gone) h.marks);
      covers = subst (λ (g : List Node). Covers (left s g) all) (sym gone_then)
          (subst (λ (ns : List Node). Covers (without t n) ns) (sym more)
          (covers_more t (without t n) n said pending (thing_leaves t said n (is_now loose) alike_then) h.covers));
    }

    all_any : (ns : List Node) → how_many any ns ≡ length ns
    all_any [] = refl
    all_any (m ∷ ns) = ap suc (all_any ns)

    pub work_goes : y.pending.items ≡ pending ++ said → work s y ≤ length pending + how_many any (places t)
    work_goes more =
        let a : how_many any (places (left s (gone_of y))) ≡ how_many any (places (without t n)) = ap (λ (g : List Node). how_many any (places (left s g))) gone_then in
        let b = alike_then any in
        let c = how_many_append any said (places (without t n)) in
        let d = all_any said in
        let e : length y.pending.items ≡ length (pending ++ said) = ap (λ (ns : List Node). length ns) more in
        let f = length-append pending said in
        omega (arith, a, b, c, d, e, f)

-- ---- Of these nodes one after the other is looked at

module _ (s : State) where
  -- What looking at a node does, whatever is pending besides.
  abbrev pub Considers : Thought → Thought → Node → Type 0
  Considers x y n = (rest : List Node) → IsThought s x (n ∷ (rest ++ x.pending.items)) → IsThought s y (rest ++ y.pending.items)

  pub considered_next : (node_of : ℕ → Node) (keys : List ℕ) (i : ℕ) (x y : Thought) → i < length keys → Considers x y (node_of (get_or keys i 0)) → (rest : List Node) → IsThought s x (nodes_of node_of (drop i keys) ++ (rest ++ x.pending.items))
      → IsThought s y (nodes_of node_of (drop (i + 1) keys) ++ (rest ++ y.pending.items))
  considered_next node_of keys i x y within step rest h =
      let n = node_of (get_or keys i 0) in
      let behind = nodes_of node_of (drop (i + 1) keys) in
      let first : IsThought s x (n ∷ (behind ++ (rest ++ x.pending.items))) = subst (λ (ks : List ℕ). IsThought s x (nodes_of node_of ks ++ (rest ++ x.pending.items))) (drop_more keys i 0 within) h in
      let beside : IsThought s x (n ∷ ((behind ++ rest) ++ x.pending.items)) = subst (λ (ns : List Node). IsThought s x (n ∷ ns)) (sym (append_assoc behind rest x.pending.items)) first in
      subst (λ (ns : List Node). IsThought s y ns) (append_assoc behind rest y.pending.items) (step (behind ++ rest) beside)

  pub considered_all : (node_of : ℕ → Node) (keys : List ℕ) (i : ℕ) (y : Thought) → length keys ≤ i → (rest : List Node) → IsThought s y (nodes_of node_of (drop i keys) ++ (rest ++ y.pending.items)) → IsThought s y (rest ++ y.pending.items)
  considered_all node_of keys i y over rest h = subst (λ (ks : List ℕ). IsThought s y (nodes_of node_of ks ++ (rest ++ y.pending.items))) (drop_all i keys over) h

  -- What looking at all of these does.
  abbrev pub ConsidersAll : Thought → Thought → List Node → Type 0
  ConsidersAll x y ns = (rest : List Node) → IsThought s x (ns ++ (rest ++ x.pending.items)) → IsThought s y (rest ++ y.pending.items)

  pub considered_four : (y0 y1 y2 y3 y4 : Thought) (ps os es qs : List Node) → ConsidersAll y0 y1 ps → ConsidersAll y1 y2 os → ConsidersAll y2 y3 es → ConsidersAll y3 y4 qs → IsThought s y0 (ps ++ ((os ++ (es ++ qs)) ++ y0.pending.items)) → IsThought s y4 y4.pending.items
  considered_four y0 y1 y2 y3 y4 ps os es qs a b c d h =
      let one = subst (λ (ns : List Node). IsThought s y1 ns) (append_assoc os (es ++ qs) y1.pending.items) (a (os ++ (es ++ qs)) h) in
      let two = subst (λ (ns : List Node). IsThought s y2 ns) (append_assoc es qs y2.pending.items) (b (es ++ qs) one) in
      d [] (c qs two)

-- ---- The next node

module _ (s : State) (x y : Thought) (n : Node) (next : x.pending.items ≡ y.pending.items ++ n ∷ []) (same : y ≡ record x { pending = y.pending }) where
  pub thought_next : IsThought s x x.pending.items → IsThought s y (n ∷ y.pending.items)
  thought_next h =
      subst (λ (z : Thought). IsThought s z (n ∷ y.pending.items)) (sym same)
      (record {
        went = h.went;
        is_left = h.is_left;
        less = h.less;
        marks = h.marks;
        covers = λ m loose.
            let a = h.covers m loose in
            let b = ap (λ (ns : List Node). how_many (is_of m) ns) next in
            let c = how_many_append (is_of m) y.pending.items (n ∷ []) in
            let d = how_many_append (is_of m) (n ∷ []) y.pending.items in
            omega (arith, a, b, c, d);
      })

  pub work_next : work s x ≡ work s y + 1
  work_next =
      let a = ap (λ (ns : List Node). length ns) next in
      let b = length-append y.pending.items (n ∷ []) in
      let c : how_many any (places (left s (gone_of y))) ≡ how_many any (places (left s (gone_of x))) = ap (λ (z : Thought). how_many any (places (left s (gone_of z)))) same in
      omega (arith, a, b, c)

-- There is none.
pub thought_done : (s : State) (x y : Thought) → x.pending.items ≡ [] → y ≡ record x { pending = y.pending } → IsThought s x x.pending.items → IsThought s y []
thought_done s x y none same h =
    subst (λ (z : Thought). IsThought s z []) (sym same)
    (record {
      went = h.went;
      is_left = h.is_left;
      less = h.less;
      marks = h.marks;
      covers = subst (λ (ns : List Node). Covers (left s (gone_of x)) ns) none h.covers;
    })
