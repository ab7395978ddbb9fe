-- The end of a step: it is still so behind it, where what places name is there.
use Rattle.std.specs.FinMap as map
use Rattle.std.specs.FinMap.Entries as entries
use Rattle.std.specs.Ordering.{nat_cmp}
use Rattle.std.proofs.Common.{◌≡◌, ◌⊎◌, inl, inr, ℕ, nat_eq, true, false, List, [], ◌∷◌, ◌++◌, append_assoc, append-nil, Option, None, Some, IsSome, refl, sym, ap, subst, ◌∙◌, T}
use Rattle.finite_maps.specs.Tally.{Map}
use Rattle.finite_maps.proofs.Sorted.{behind, first_entry, later_entry, sorted_tail}
use Rattle.finite_maps.proofs.Tested.{at_cut, at_put, itself}
use Rattle.rpc_msg.specs.declared.message.Message.{Message}
use Rattle.rpc_msg.specs.declared.message.Message.TheVariants as message
use Rattle.rpc_msg.specs.declared.message.PlainMessage.{PlainMessage}
use Rattle.rpc_msg.specs.declared.message.PlainMessage.TheVariants as plain
use Rattle.rpc_machine.specs.declared.calls.KeptOutcome.{KeptOutcome}
use Rattle.rpc_machine.specs.declared.entries.AnswerEntry.{AnswerEntry}
use Rattle.rpc_machine.specs.declared.entries.Finishing.{Finishing}
use Rattle.rpc_machine.specs.declared.entries.Finishing.TheVariants as finishing
use Rattle.rpc_machine.specs.declared.entries.Question.{Question}
use Rattle.rpc_machine.specs.declared.entries.Returned.{Returned}
use Rattle.rpc_machine.specs.declared.node.Node.{Node}
use Rattle.rpc_machine.specs.declared.node.Node.TheVariants as node
use Rattle.rpc_machine.specs.State.{State}
use Rattle.rpc_machine.specs.Collecting.{Collects}
use Rattle.rpc_machine.specs.Flags.{flag_for, give_if}
use Rattle.rpc_machine.specs.Progress.{Progress, export_id, send, with_state}
use Rattle.rpc_machine.specs.Sweeping.{Asked, FinishesEach, Over, Sweeps, Thing, Withers, closed, closed_map, finished_by, got_of, release_each}
use Rattle.laws_steps.specs.Callers.{HasOutcome, IsAskedFor, IsFor, peer}
use Rattle.laws_steps.specs.NodesThere.{IsWhole, Stands}
use Rattle.laws_steps.proofs.Below.{Below, below_same, below_then, collects_below, collects_questions, goes_questions}
use Rattle.laws_steps.proofs.Swept.{finished_below, given_questions, released}
use Rattle.laws_routes.specs.Named.{EachReturn, ReturnOf}
use Rattle.laws_routes.specs.Premises.{EachOpen, IsUnfinished, OpenOf}
use Rattle.laws_routes.specs.Ties.{Around}
use Rattle.laws_routes.specs.Midway.{IsHeld, IsOutcomeOf, Midway, MidwayAt}
use Rattle.laws_routes.proofs.MidwayBelow.{below_still}
use Rattle.laws_routes.proofs.MidwaySaid.{goes_out}
use Rattle.laws_routes.proofs.ReturnSent.{collected_links}
use Rattle.laws_acts.proofs.Ends.{closed_other}

pub first : {A B C : Type 0} → A ⊎ (B × C) → A ⊎ B
first (inl a) = inl a
first (inr b) = inr b.0

-- ---- What is sent

abbrev IsParting : Message → Type 0
IsParting (message.Plain (plain.Abort exception)) = ⊥
IsParting (message.Plain (plain.Bootstrap q)) = ⊥
IsParting (message.Plain (plain.Call c)) = ⊥
IsParting (message.Plain (plain.Return r)) = ⊥
IsParting (message.Plain (plain.Finish x)) = Unit {0}
IsParting (message.Plain (plain.Resolve r)) = ⊥
IsParting (message.Plain (plain.Release r)) = Unit {0}
IsParting (message.Plain (plain.Disembargo x)) = ⊥
IsParting (message.Plain (plain.Other n)) = ⊥
IsParting (message.Unimplemented m) = ⊥

abbrev AllPart : List Message → Type 0
AllPart [] = Unit {0}
AllPart (m ∷ ms) = IsParting m × AllPart ms

-- Finishes and Releases are sent, and no more.
abbrev Parts : Progress → Progress → Type 0
Parts d new = (ms : List Message) × AllPart ms × (new.effects.sends ≡ d.effects.sends ++ ms)

all_part : (xs ys : List Message) → AllPart xs → AllPart ys → AllPart (xs ++ ys)
all_part [] ys h k = k
all_part (x ∷ xs) ys h k = (h.0, all_part xs ys h.1 k)

parts_none : (d new : Progress) → new.effects.sends ≡ d.effects.sends → Parts d new
parts_none d new e = ([], tt, e ∙ sym (append-nil d.effects.sends))

parts_then : (d mid new : Progress) → Parts d mid → Parts mid new → Parts d new
parts_then d mid new a b =
    let same : mid.effects.sends ≡ d.effects.sends ++ a.0 = a.2 in
    (a.0 ++ b.0, all_part a.0 b.0 a.1 b.1, b.2 ∙ (ap (λ (ms : List Message). ms ++ b.0) same ∙ append_assoc d.effects.sends a.0 b.0))

module _ (s other : State) (back : List Message) where
  one_parts : (out : List Message) (m : Message) → IsParting m → Midway s other out back → Midway s other (out ++ m ∷ []) back
  one_parts out (message.Plain (plain.Abort exception)) i h = absurd i
  one_parts out (message.Plain (plain.Bootstrap q)) i h = absurd i
  one_parts out (message.Plain (plain.Call c)) i h = absurd i
  one_parts out (message.Plain (plain.Return r)) i h = absurd i
  one_parts out (message.Plain (plain.Finish x)) i h = goes_out s other out back (message.Plain (plain.Finish x)) h (λ P. tt) (λ has. (tt, tt, tt)) tt
  one_parts out (message.Plain (plain.Resolve r)) i h = absurd i
  one_parts out (message.Plain (plain.Release r)) i h = goes_out s other out back (message.Plain (plain.Release r)) h (λ P. tt) (λ has. (tt, tt, tt)) tt
  one_parts out (message.Plain (plain.Disembargo x)) i h = absurd i
  one_parts out (message.Plain (plain.Other n)) i h = absurd i
  one_parts out (message.Unimplemented m) i h = absurd i

  parted : (out ms : List Message) → AllPart ms → Midway s other out back → Midway s other (out ++ ms) back
  parted out [] i h = subst (λ (ms : List Message). Midway s other ms back) (sym (append-nil out)) h
  parted out (m ∷ ms) i h = subst (λ (ms : List Message). Midway s other ms back) (append_assoc out (m ∷ []) ms) (parted (out ++ m ∷ []) ms i.1 (one_parts out m i.0 h))

-- ---- The questions that are over

-- Each was there.
withers_from : (d : Progress) (over : Map Question) → Withers d over → (q : ℕ) (x : Question) → map.get over q ≡ Some x → map.get d.state.questions q ≡ Some x
withers_from d over (Over tight none) q x e = absurd (let bad : None ≡ Some x = sym (map.get-empty nat_cmp q) ∙ e in cc)
withers_from d over (Thing {mid = mid} g rest) q x e = ap (λ (m : Map Question). map.get m q) (sym (goes_questions d mid g)) ∙ withers_from mid over rest q x e
withers_from d over (Asked {over = others} k y there due rest) q x e =
    at_put (λ j o. (z : Question) → o ≡ Some z → map.get d.state.questions j ≡ Some z) others k y (λ z f. there ∙ f)
    (λ j n z f. sym (closed_other d.state.questions k y y.returned j n) ∙ withers_from (with_state d (closed d.state k y)) others rest j z f) q x e

abbrev AllFrom : State → List (ℕ × Question) → Type 0
AllFrom s [] = Unit {0}
AllFrom s (x ∷ xs) = (map.get s.questions x.0 ≡ Some x.1) × AllFrom s xs

listed : (s : State) (es : List (ℕ × Question)) → T (entries.is_sorted nat_cmp es) → ((q : ℕ) (y : Question) → entries.find nat_cmp q es ≡ Some y → map.get s.questions q ≡ Some y) → AllFrom s es
listed s [] o f = tt
listed s (x ∷ xs) o f =
    let k = sorted_tail x.0 xs o in
    (f x.0 x.1 (first_entry x xs), listed s xs k.1 (λ q y g. f q y (later_entry x xs q (behind x.0 xs q y k.0 g) ∙ g)))

-- ---- They are finished

finished_parts : (d : Progress) (q : ℕ) (x : Question) (f : Finishing) → Parts d (finished_by d q x f)
finished_parts d q x finishing.Owed = (message.Plain (plain.Finish (record { question = record { 0 = q }; release_result_caps = flag_for d.state (got_of x.returned) })) ∷ [], (tt, tt), refl)
finished_parts d q x finishing.Sent = parts_none d d refl
finished_parts d q x finishing.Waived = parts_none d (with_state d (closed d.state q x)) refl

-- A question that went was there, with its Return.
abbrev Lost : State → ℕ → Type 0
Lost s k = (x : Question) × (map.get s.questions k ≡ Some x) × IsSome x.returned

module _ (s : State) where
  closed_lost : (m : Map Question) (q : ℕ) (x : Question) → map.get s.questions q ≡ Some x → (k : ℕ) → IsSome (map.get m k) → IsSome (map.get (closed_map m q x x.returned) k) ⊎ Lost s k
  closed_lost m q x from = by x.returned refl
    where
      by : (o : Option Returned) → x.returned ≡ o → (k : ℕ) → IsSome (map.get m k) → IsSome (map.get (closed_map m q x o) k) ⊎ Lost s k
      by None e = at_put (λ k o. IsSome (map.get m k) → IsSome o ⊎ Lost s k) m q (record x { finish = finishing.Sent }) (λ i. inl refl) (λ k n i. inl i)
      by (Some said) e = at_cut (λ k o. IsSome (map.get m k) → IsSome o ⊎ Lost s k) m q (λ i. inr (x, from, subst (λ (o : Option Returned). IsSome o) (sym e) refl)) (λ k n i. inl i)

  finished_lost : (d : Progress) (q : ℕ) (x : Question) (f : Finishing) → map.get s.questions q ≡ Some x → (k : ℕ) → IsSome (map.get d.state.questions k) → IsSome (map.get (finished_by d q x f).state.questions k) ⊎ Lost s k
  finished_lost d q x finishing.Owed from k i =
      let ids = got_of x.returned in
      let t = give_if d.state (flag_for d.state ids) ids in
      closed_lost t.questions q x from k (subst (λ (m : Map Question). IsSome (map.get m k)) (sym (given_questions d.state (flag_for d.state ids) ids)) i)
  finished_lost d q x finishing.Sent from k i = inl i
  finished_lost d q x finishing.Waived from k i = closed_lost d.state.questions q x from k i

  -- What is left once these questions are finished.
  abbrev Left : Progress → Progress → Type 0
  Left d new = Below d.state new.state × Parts d new × ((k : ℕ) → IsSome (map.get d.state.questions k) → IsSome (map.get new.state.questions k) ⊎ Lost s k)

  left_then : (d mid new : Progress) → Left d mid → Left mid new → Left d new
  left_then d mid new a b = (below_then d.state mid.state new.state a.0 b.0, parts_then d mid new a.1 b.1, λ k i. by k (a.2 k i))
    where
      by : (k : ℕ) → IsSome (map.get mid.state.questions k) ⊎ Lost s k → IsSome (map.get new.state.questions k) ⊎ Lost s k
      by k (inl i) = b.2 k i
      by k (inr l) = inr l

  collects_left : (new d : Progress) → Collects new d → Left d new
  collects_left new d h = (
    collects_below new d h,
    parts_none d new (let a = collected_links new d h in a.1),
    λ k i. inl (subst (λ (m : Map Question). IsSome (map.get m k)) (sym (collects_questions new d h)) i),
  )

  finishes_left : (xs : List (ℕ × Question)) (d new : Progress) → AllFrom s xs → FinishesEach d xs new → Left d new
  finishes_left [] d new i h = subst (λ (z : Progress). Left d z) (sym h) (below_same d.state, parts_none d d refl, λ k i. inl i)
  finishes_left (x ∷ xs) d new i h =
      let mid = h.0 in
      let y : Question = x.1 in
      let next = finished_by mid x.0 y y.finish in
      let one : Left mid next = (finished_below mid x.0 y y.finish, finished_parts mid x.0 y y.finish, finished_lost mid x.0 y y.finish i.0) in
      left_then d mid new (collects_left mid d h.1) (left_then mid next new one (finishes_left xs next new i.1 h.2))

-- ---- Imports are released

released_parts : (d : Progress) (xs : List (ℕ × ℕ)) → Parts d (release_each d xs)
released_parts d [] = parts_none d d refl
released_parts d (x ∷ xs) =
    let m : PlainMessage = plain.Release (record { export = export_id x.0; count = x.1 }) in
    parts_then d (send d m) (release_each (send d m) xs) (message.Plain m ∷ [], (tt, tt), refl) (released_parts (send d m) xs)

-- ---- What is on its way is of questions that are left

module _ (P Q : ℕ → Type 0) where
  pub opens_left : (ms : List Message) → EachOpen P ms → ((k : ℕ) → P k → Q k ⊎ EachOpen (λ j. nat_eq j k ≡ false) ms) → EachOpen Q ms
  opens_left [] h f = tt
  opens_left (m ∷ ms) h f = (one m h.0 f, opens_left ms h.1 (λ k p. behind k (f k p)))
    where
      behind : (k : ℕ) → Q k ⊎ EachOpen (λ j. nat_eq j k ≡ false) (m ∷ ms) → Q k ⊎ EachOpen (λ j. nat_eq j k ≡ false) ms
      behind k (inl i) = inl i
      behind k (inr g) = inr g.1

      never : (k : ℕ) → nat_eq k k ≡ false → ⊥
      never k e = let bad : true ≡ false = sym (itself k) ∙ e in cc

      asks : (k : ℕ) → Q k ⊎ (nat_eq k k ≡ false) → Q k
      asks k (inl i) = i
      asks k (inr e) = absurd (never k e)

      one : (m : Message) → OpenOf P m → ((k : ℕ) → P k → Q k ⊎ EachOpen (λ j. nat_eq j k ≡ false) (m ∷ ms)) → OpenOf Q m
      one (message.Plain (plain.Abort exception)) i f = tt
      one (message.Plain (plain.Bootstrap q)) i f = asks q.0 (first (f q.0 i))
      one (message.Plain (plain.Call c)) i f = asks c.question.0 (first (f c.question.0 i))
      one (message.Plain (plain.Return r)) i f = tt
      one (message.Plain (plain.Finish x)) i f = tt
      one (message.Plain (plain.Resolve r)) i f = tt
      one (message.Plain (plain.Release r)) i f = tt
      one (message.Plain (plain.Disembargo x)) i f = tt
      one (message.Plain (plain.Other n)) i f = tt
      one (message.Unimplemented m) i f = tt

  pub returns_left : (ms : List Message) → EachReturn P ms → ((k : ℕ) → P k → Q k ⊎ EachReturn (λ j. nat_eq j k ≡ false) ms) → EachReturn Q ms
  returns_left [] h f = tt
  returns_left (message.Unimplemented m ∷ ms) h f = returns_left ms h f
  returns_left (message.Plain m ∷ ms) h f = (one m h.0 f, returns_left ms h.1 (λ k p. behind k (f k p)))
    where
      behind : (k : ℕ) → Q k ⊎ EachReturn (λ j. nat_eq j k ≡ false) (message.Plain m ∷ ms) → Q k ⊎ EachReturn (λ j. nat_eq j k ≡ false) ms
      behind k (inl i) = inl i
      behind k (inr g) = inr g.1

      never : (k : ℕ) → nat_eq k k ≡ false → ⊥
      never k e = let bad : true ≡ false = sym (itself k) ∙ e in cc

      comes : (k : ℕ) → Q k ⊎ (nat_eq k k ≡ false) → Q k
      comes k (inl i) = i
      comes k (inr e) = absurd (never k e)

      one : (m : PlainMessage) → ReturnOf P m → ((k : ℕ) → P k → Q k ⊎ EachReturn (λ j. nat_eq j k ≡ false) (message.Plain m ∷ ms)) → ReturnOf Q m
      one (plain.Abort exception) i f = tt
      one (plain.Bootstrap q) i f = tt
      one (plain.Call c) i f = tt
      one (plain.Return r) i f = comes r.answer.0 (first (f r.answer.0 i))
      one (plain.Finish x) i f = tt
      one (plain.Resolve r) i f = tt
      one (plain.Release r) i f = tt
      one (plain.Disembargo x) i f = tt
      one (plain.Other n) i f = tt

-- ---- The whole

module _ (s t other : State) (out back : List Message) (h : Midway s other out back) (b : Below s t) (whole : IsWhole t) (lost : (k : ℕ) → IsSome (map.get s.questions k) → IsSome (map.get t.questions k) ⊎ Lost s k) where
  unfinished : (c : ℕ) (o : Option Question) → IsAskedFor c o → IsUnfinished o
  unfinished c None i = i
  unfinished c (Some x) i = i.1

  stands : (n : Node) → Stands t n → IsHeld s n → IsHeld t n
  stands (node.Object o) i j = (tt, tt)
  stands (node.Promise p) i j = (i, tt)
  stands (node.Field o path) i j = (i, tt)
  stands (node.Import e) i j = (tt, i)
  stands (node.Pipe q path) i j = (tt, (unfinished i.0 (map.get t.questions q.0) i.1, j.1.1))
  stands (node.Broken reason) i j = (tt, tt)

  answered : (q : ℕ) (a : AnswerEntry) → map.get t.answers q ≡ Some a → IsOutcomeOf q (map.get t.outcomes a.outcome)
  answered q a e = by (map.get t.outcomes a.outcome) (subst (HasOutcome t.outcomes q) e (let c = whole.callers in c.answers q))
    where
      by : (o : Option KeptOutcome) → IsFor (peer q) o → IsOutcomeOf q o
      by None i = i
      by (Some x) i = i

  ended : Midway t other out back
  ended =
      below_still s t other out back h b (λ n i. stands n (whole.there n i)) answered
      (opens_left (λ k. IsSome (map.get s.questions k)) (λ k. IsSome (map.get t.questions k)) out h.opens (λ k i. opened k (lost k i)))
      (returns_left (λ k. IsSome (map.get s.questions k)) (λ k. IsSome (map.get t.questions k)) back h.returns (λ k i. returned k (lost k i)))
    where
      opened : (k : ℕ) → IsSome (map.get t.questions k) ⊎ Lost s k → IsSome (map.get t.questions k) ⊎ EachOpen (λ j. nat_eq j k ≡ false) out
      opened k (inl i) = inl i
      opened k (inr l) = let a = h.answered k l.0 l.1 l.2 in inr a.0

      returned : (k : ℕ) → IsSome (map.get t.questions k) ⊎ Lost s k → IsSome (map.get t.questions k) ⊎ EachReturn (λ j. nat_eq j k ≡ false) back
      returned k (inl i) = inl i
      returned k (inr l) = let a = h.answered k l.0 l.1 l.2 in inr a.1

pub swept : (w : Around) (d new : Progress) → MidwayAt w d → Sweeps d new → IsWhole new.state → MidwayAt w new
swept w d new m h whole =
    let s = d.state in
    let over = h.0 in
    let mid = h.2.0 in
    let tight = h.2.2.0 in
    let last = release_each tight (map.entries tight.released) in
    let t = tight.state in
    let from = listed s (map.entries over) (map.entries_sorted over) (λ q x e. withers_from d over h.1 q x (map.get-entries over q ∙ e)) in
    let left = left_then s d mid tight (finishes_left s (map.entries over) d mid from h.2.1) (collects_left s tight mid h.2.2.1) in
    let same : new.state ≡ t = ap (λ (z : Progress). z.state) h.2.2.2 ∙ released tight (map.entries tight.released) in
    let at_end = ended s t w.other (w.out ++ d.effects.sends) w.back m left.0 (subst IsWhole same whole) left.2 in
    let said = parts_then d tight last left.1 (released_parts tight (map.entries tight.released)) in
    let more = parted t w.other w.back (w.out ++ d.effects.sends) said.0 said.1 at_end in
    let sends : new.effects.sends ≡ d.effects.sends ++ said.0 = ap (λ (z : Progress). z.effects.sends) h.2.2.2 ∙ said.2 in
    let placed : Midway t w.other (w.out ++ new.effects.sends) w.back =
    subst (λ (ms : List Message). Midway t w.other ms w.back) (append_assoc w.out d.effects.sends said.0 ∙ ap (λ (ms : List Message). w.out ++ ms) (sym sends)) more in
    subst (λ (z : State). Midway z w.other (w.out ++ new.effects.sends) w.back) (sym same) placed
