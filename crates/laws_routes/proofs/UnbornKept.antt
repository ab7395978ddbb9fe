-- The outcomes that the messages of a link will make, after a change.
use Rattle.std.specs.FinMap as map
use Rattle.std.proofs.Common.{◌≡◌, ◌⊎◌, inl, inr, ℕ, ◌+◌, ◌<◌, nat_eq, false, List, [], ◌∷◌, ◌++◌, append_assoc, Option, None, Some, IsSome, refl, sym, ap, subst, ◌∙◌, arith}
use Rattle.finite_maps.specs.Tally.{Map}
use Rattle.finite_maps.proofs.Tested.{at_put}
use Rattle.rpc_msg.specs.declared.ids.Vat.{Vat}
use Rattle.rpc_msg.specs.declared.message.PlainMessage.TheVariants as plain
use Rattle.rpc_msg.specs.declared.message.Message.{Message}
use Rattle.rpc_msg.specs.declared.message.Message.TheVariants as message
use Rattle.rpc_journal.specs.History.{in_front}
use Rattle.rpc_machine.specs.declared.calls.KeptOutcome.{KeptOutcome}
use Rattle.rpc_machine.specs.State.{State}
use Rattle.laws_order.specs.Machine.{Kind, Net}
use Rattle.laws_order.specs.Machine as routing
use Rattle.laws_order.specs.Events.{Fate, settled}
use Rattle.laws_order.proofs.Choices.{changed_other}
use Rattle.laws_routes.specs.Points.{Point, AField, Group, OfOutcome, routes}
use Rattle.laws_routes.specs.Ghosts.{Ghost, with_at}
use Rattle.laws_routes.specs.Sides.{Side, Queue, IsOpenOutcome, IsIn, AllDiffer, IsUnborn, Unborn}
use Rattle.laws_routes.specs.Views.{unborn_of, unborn_ids}
use Rattle.laws_routes.specs.Premises.{OpenOf, EachOpen}
use Rattle.laws_routes.proofs.Differing.{outcome_id, with_here, with_other}
use Rattle.laws_routes.proofs.GroupSettles.{keeps_at, kind_outside}
use Rattle.laws_routes.proofs.LinkShapes.{open_map}

-- ---- The list of them

-- One more message that makes none.
ids_quiet : (f : ℕ → ℕ) (ms : List Message) (x : Message) → unborn_of f x ≡ None → unborn_ids f (ms ++ x ∷ []) ≡ unborn_ids f ms
ids_quiet f [] x h = ap (λ (o : Option ℕ). in_front o []) h
ids_quiet f (m ∷ ms) x h = ap (in_front (unborn_of f m)) (ids_quiet f ms x h)

pub unborn_sent : (f : ℕ → ℕ) (out sends : List Message) (x : Message) → unborn_of f x ≡ None → unborn_ids f (out ++ (sends ++ x ∷ [])) ≡ unborn_ids f (out ++ sends)
unborn_sent f out sends x h = ap (unborn_ids f) (sym (append_assoc out sends (x ∷ []))) ∙ ids_quiet f (out ++ sends) x h

front_more : (o : Option ℕ) (xs ys : List ℕ) → in_front o (xs ++ ys) ≡ in_front o xs ++ ys
front_more None xs ys = refl
front_more (Some x) xs ys = refl

-- One more that makes the outcome i.
ids_last : (f : ℕ → ℕ) (ms : List Message) (x : Message) (i : ℕ) → unborn_of f x ≡ Some i → unborn_ids f (ms ++ x ∷ []) ≡ unborn_ids f ms ++ i ∷ []
ids_last f [] x i h = ap (λ (o : Option ℕ). in_front o []) h
ids_last f (m ∷ ms) x i h = ap (in_front (unborn_of f m)) (ids_last f ms x i h) ∙ front_more (unborn_of f m) (unborn_ids f ms) (i ∷ [])

ids_same : (f h : ℕ → ℕ) (ms : List Message) → EachOpen (λ k. h k ≡ f k) ms → unborn_ids h ms ≡ unborn_ids f ms
ids_same f h [] e = refl
ids_same f h (m ∷ ms) e = ap (λ (o : Option ℕ). in_front o (unborn_ids h ms)) (one m e.0) ∙ ap (in_front (unborn_of f m)) (ids_same f h ms e.1)
  where
    one : (m : Message) → OpenOf (λ k. h k ≡ f k) m → unborn_of h m ≡ unborn_of f m
    one (message.Plain (plain.Abort exception)) k = refl
    one (message.Plain (plain.Bootstrap q)) k = ap (λ (z : ℕ). Some z) k
    one (message.Plain (plain.Call c)) k = ap (λ (z : ℕ). Some z) k
    one (message.Plain (plain.Return r)) k = refl
    one (message.Plain (plain.Finish x)) k = refl
    one (message.Plain (plain.Resolve r)) k = refl
    one (message.Plain (plain.Release r)) k = refl
    one (message.Plain (plain.Disembargo x)) k = refl
    one (message.Plain (plain.Other n)) k = refl
    one (message.Unimplemented m) k = refl

in_more : (xs : List ℕ) (y i : ℕ) → IsIn i (xs ++ y ∷ []) → IsIn i xs ⊎ (i ≡ y)
in_more [] y i (inl e) = inr e
in_more [] y i (inr k) = absurd k
in_more (x ∷ xs) y i (inl e) = inl (inl e)
in_more (x ∷ xs) y i (inr k) = by (in_more xs y i k)
  where
    by : IsIn i xs ⊎ (i ≡ y) → IsIn i (x ∷ xs) ⊎ (i ≡ y)
    by (inl a) = inl (inr a)
    by (inr a) = inr a

differ_more : (xs : List ℕ) (y : ℕ) → AllDiffer xs → (IsIn y xs → ⊥) → AllDiffer (xs ++ y ∷ [])
differ_more [] y h out = (λ k. k, tt)
differ_more (x ∷ xs) y h out = (λ k. by (in_more xs y x k), differ_more xs y h.1 (λ k. out (inr k)))
  where
    by : IsIn x xs ⊎ (x ≡ y) → ⊥
    by (inl a) = h.0 a
    by (inr e) = out (inl (sym e))

-- ---- What is so of each

module _ {v : Vat} {os : Map KeptOutcome} {oi : ℕ → ℕ} {stop : Point → Point} {kind : Point → Kind routes} {waiting : Group → Queue} {next : ℕ} {ids : List ℕ} (h : Unborn v os oi stop kind waiting next ids) where
  pub still_below : (i : ℕ) → IsIn i ids → i < next
  still_below i a = let b = h.each i a in b.below

  pub unborn_later : Unborn v os oi stop kind waiting (next + 1) ids
  unborn_later = record {
    each = λ i a. (let b = h.each i a in record { below = (let c = b.below in omega (arith, c)); unused = b.unused; new = b.new; empty = b.empty });
    differ = h.differ;
  }

  -- The next one comes.
  pub unborn_more : IsUnborn v os oi stop kind waiting (next + 1) next → Unborn v os oi stop kind waiting (next + 1) (ids ++ next ∷ [])
  unborn_more new = record {
    each = λ i a. by i (in_more ids next i a);
    differ = differ_more ids next h.differ (λ k. (let b = still_below next k in absurd (omega (arith, b))));
  }
    where
      by : (i : ℕ) → IsIn i ids ⊎ (i ≡ next) → IsUnborn v os oi stop kind waiting (next + 1) i
      by i (inl a) = unborn_later.each i a
      by i (inr e) = subst (λ (z : ℕ). IsUnborn v os oi stop kind waiting (next + 1) z) (sym e) new

  -- Another identity comes to an outcome.
  pub unborn_put : (o i : ℕ) (x : KeptOutcome) → (IsIn i ids → ⊥) → Unborn v (map.insert os o x) (with_at oi o i) stop kind waiting next ids
  unborn_put o i x out = record {
    each = λ j a. (let b = h.each j a in record {
      below = b.below;
      unused = at_put (λ q z. IsSome z → with_at oi o i q ≡ j → ⊥) os o x
          (λ s e. out (subst (λ (z : ℕ). IsIn z ids) (sym e ∙ with_here oi o i) a))
          (λ q n s e. b.unused q s (sym (with_other oi o i q n) ∙ e));
      new = b.new;
      empty = b.empty;
    });
    differ = h.differ;
  }

  -- No outcome comes.
  pub unborn_fewer : (fewer : Map KeptOutcome) → ((q : ℕ) → IsSome (map.get fewer q) → IsSome (map.get os q)) → Unborn v fewer oi stop kind waiting next ids
  unborn_fewer fewer there = record {
    each = λ i a. (let b = h.each i a in record { below = b.below; unused = λ q s e. b.unused q (there q s) e; new = b.new; empty = b.empty });
    differ = h.differ;
  }

  pub unborn_lists : (lists : Group → Queue) → ((i : ℕ) → IsIn i ids → lists (OfOutcome v i) ≡ waiting (OfOutcome v i)) → Unborn v os oi stop kind lists next ids
  unborn_lists lists same = record {
    each = λ i a. (let b = h.each i a in record { below = b.below; unused = b.unused; new = b.new; empty = same i a ∙ b.empty });
    differ = h.differ;
  }

  -- The group of an outcome that is there is none of theirs.
  pub unborn_elsewhere : (o : ℕ) → IsSome (map.get os o) → (i : ℕ) → IsIn i ids → OfOutcome v i ≡ OfOutcome v (oi o) → ⊥
  unborn_elsewhere o there i a e = let b = h.each i a in b.unused o there (sym (outcome_id v v i (oi o) e))

-- A group settles.
pub unborn_settled : {v : Vat} {os : Map KeptOutcome} {oi : ℕ → ℕ} {next : ℕ} {ids : List ℕ} (n : Net routes) (g : Group) (fate : Point → Fate routes) → Unborn v os oi n.stop n.kind n.waiting next ids
    → ((i : ℕ) → IsIn i ids → OfOutcome v i ≡ g → ⊥) → Unborn v os oi (settled n g fate).stop (settled n g fate).kind (settled n g fate).waiting next ids
unborn_settled {v} n g fate h out = record {
  each = λ i a. (let b = h.each i a in record {
    below = b.below;
    unused = b.unused;
    new = λ path. (let k = b.new path in (keeps_at n g fate (AField v i path) (AField v i path) k.0 (out i a), kind_outside n g fate (AField v i path) (n.kind (AField v i path)) (out i a) ∙ k.1));
    empty = changed_other routes.same_group n.waiting g [] (OfOutcome v i) (out i a) ∙ b.empty;
  });
  differ = h.differ;
}

-- The first is received.
pub unborn_first : {v : Vat} {os : Map KeptOutcome} {oi : ℕ → ℕ} {stop : Point → Point} {kind : Point → Kind routes} {waiting : Group → Queue} {next i : ℕ} {ids : List ℕ} → Unborn v os oi stop kind waiting next (i ∷ ids) → IsUnborn v os oi stop kind waiting next i
unborn_first {v} {os} {oi} {stop} {kind} {waiting} {next} {i} h = h.each i (inl refl)

pub unborn_received : {v : Vat} {os : Map KeptOutcome} {oi : ℕ → ℕ} {stop : Point → Point} {kind : Point → Kind routes} {waiting : Group → Queue} {next i : ℕ} {ids : List ℕ} → Unborn v os oi stop kind waiting next (i ∷ ids)
    → (o : ℕ) (x : KeptOutcome) → Unborn v (map.insert os o x) (with_at oi o i) stop kind waiting next ids
unborn_received {v} {os} {oi} {stop} {kind} {waiting} {next} {i} {ids} h o x =
    let rest : Unborn v os oi stop kind waiting next ids = record { each = λ j a. h.each j (inr a); differ = (let d = h.differ in d.1) } in
    unborn_put rest o i x (let d = h.differ in d.0)

-- ---- The identity that comes next will do

pub next_unused : (v : Vat) (s : State) (g : Ghost) (next : ℕ) (m : routing.State routes) → Side v s g next m → m.net.waiting (OfOutcome v next) ≡ []
next_unused v s g next m h = by (let l = h.lists in l.no_other_outcome next)
  where
    there : (q : ℕ) (z : Option KeptOutcome) → map.get s.outcomes q ≡ z → IsOpenOutcome z → IsSome (map.get s.outcomes q)
    there q None e k = absurd k
    there q (Some x) e k = subst (λ (z : Option KeptOutcome). IsSome z) (sym e) refl

    by : (m.net.waiting (OfOutcome v next) ≡ []) ⊎ ((q : ℕ) × IsOpenOutcome (map.get s.outcomes q) × (g.outcome q ≡ next)) → m.net.waiting (OfOutcome v next) ≡ []
    by (inl e) = e
    by (inr k) = let ids = h.ids in let a = ids.of_outcomes k.0 (there k.0 (map.get s.outcomes k.0) refl k.1) in let b = k.2 in absurd (omega (arith, a, b))

next_unborn : (v : Vat) (s : State) (g : Ghost) (next : ℕ) (m : routing.State routes) → Side v s g next m → IsUnborn v s.outcomes g.outcome m.net.stop m.net.kind m.net.waiting (next + 1) next
next_unborn v s g next m h = let ids = h.ids in record {
  below = omega arith;
  unused = λ o i e. (let a = ids.of_outcomes o i in omega (arith, a, e));
  new = λ path. ids.new_outcomes next path (omega arith);
  empty = next_unused v s g next m h;
}

-- The question q is asked, in the next session.
pub unborn_asked : (f : ℕ → ℕ) (q : ℕ) (out sends : List Message) (x : Message) (v : Vat) (s : State) (g : Ghost) (next : ℕ) (m : routing.State routes) → EachOpen (λ k. nat_eq k q ≡ false) (out ++ sends) → unborn_of (with_at f q next) x ≡ Some (with_at f q next q)
    → Side v s g next m → Unborn v s.outcomes g.outcome m.net.stop m.net.kind m.net.waiting next (unborn_ids f (out ++ sends))
    → Unborn v s.outcomes g.outcome m.net.stop m.net.kind m.net.waiting (next + 1) (unborn_ids (with_at f q next) (out ++ (sends ++ x ∷ [])))
unborn_asked f q out sends x v s g next m free opened side h =
    subst (λ (ids : List ℕ). Unborn v s.outcomes g.outcome m.net.stop m.net.kind m.net.waiting (next + 1) ids) (sym is) (unborn_more h (next_unborn v s g next m side))
  where
    same : unborn_ids (with_at f q next) (out ++ sends) ≡ unborn_ids f (out ++ sends)
    same = ids_same f (with_at f q next) (out ++ sends) (open_map (λ k. nat_eq k q ≡ false) (λ k. with_at f q next k ≡ f k) (out ++ sends) (λ k n. with_other f q next k n) free)

    is : unborn_ids (with_at f q next) (out ++ (sends ++ x ∷ [])) ≡ unborn_ids f (out ++ sends) ++ next ∷ []
    is =
        ap (unborn_ids (with_at f q next)) (sym (append_assoc out sends (x ∷ [])))
        ∙ (ids_last (with_at f q next) (out ++ sends) x next (opened ∙ ap (λ (z : ℕ). Some z) (with_here f q next)) ∙ ap (λ (z : List ℕ). z ++ next ∷ []) same)
