-- Lists of places that name alike, put together.
use Rattle.std.proofs.Common.{◌≡◌, ℕ, ◌+◌, Bool, List, [], ◌∷◌, ◌++◌, Some, sym, ◌∙◌, arith}
use Rattle.std.specs.FinMap as map
use Rattle.finite_maps.specs.Tally.{Map}
use Rattle.rpc_machine.specs.declared.node.Node.{Node}
use Rattle.rpc_machine.specs.declared.calls.WaitingCall.{WaitingCall}
use Rattle.rpc_machine.specs.declared.calls.HeldCall.{HeldCall}
use Rattle.rpc_machine.specs.State.{State}
use Rattle.rpc_machine.specs.Lists.{how_many}
use Rattle.rpc_machine.specs.Places.{places, named_by_calls, named_by_held}
use Rattle.laws_acts.specs.Alike.{Alike, places_beside}
use Rattle.laws_acts.specs.Laws.{FollowEntries}
use Rattle.laws_acts.proofs.Parts.{how_many_append}

pub alike_back : (xs ys : List Node) → Alike xs ys → Alike ys xs
alike_back xs ys h = λ test. sym (h test)

pub alike_on : (xs ys zs : List Node) → Alike xs ys → Alike ys zs → Alike xs zs
alike_on xs ys zs g h = λ test. g test ∙ h test

-- The same nodes before both.
pub alike_behind : (ns xs ys : List Node) → Alike xs ys → Alike (ns ++ xs) (ns ++ ys)
alike_behind ns xs ys h = λ test.
    let a = how_many_append test ns xs in
    let b = how_many_append test ns ys in
    let c = h test in
    omega (arith, a, b, c)

-- What stands before both is left out.
pub alike_without : (ns xs ys : List Node) → Alike (ns ++ xs) (ns ++ ys) → Alike xs ys
alike_without ns xs ys h = λ test.
    let a = how_many_append test ns xs in
    let b = how_many_append test ns ys in
    let c = h test in
    omega (arith, a, b, c)

-- What comes and goes in one change and then in another.
pub alike_then : (come gone more less a b c : List Node) → Alike (come ++ a) (gone ++ b) → Alike (more ++ b) (less ++ c) → Alike ((come ++ more) ++ a) ((gone ++ less) ++ c)
alike_then come gone more less a b c g h = λ test.
    let g1 = how_many_append test come a in
    let g2 = how_many_append test gone b in
    let g3 = g test in
    let h1 = how_many_append test more b in
    let h2 = how_many_append test less c in
    let h3 = h test in
    let x1 = how_many_append test come more in
    let x2 = how_many_append test (come ++ more) a in
    let y1 = how_many_append test gone less in
    let y2 = how_many_append test (gone ++ less) c in
    omega (arith, g1, g2, g3, h1, h2, h3, x1, x2, y1, y2)

-- Calls that were taken out stand by while the state changes.
pub alike_beside : (taken : List HeldCall) (come gone : List Node) (s t : State) → Alike (come ++ places s) (gone ++ places t) → Alike (come ++ places_beside taken s) (gone ++ places_beside taken t)
alike_beside taken come gone s t h = λ test.
    let h1 = how_many_append test come (places s) in
    let h2 = how_many_append test gone (places t) in
    let h3 = h test in
    let x1 = how_many_append test (named_by_held taken) (places s) in
    let x2 = how_many_append test come (places_beside taken s) in
    let y1 = how_many_append test (named_by_held taken) (places t) in
    let y2 = how_many_append test gone (places_beside taken t) in
    omega (arith, h1, h2, h3, x1, x2, y1, y2)

-- An entry takes the place of another: what it names more comes, what it names less goes.
module _ {X : Type 0} {f : ℕ → X → List Node} {table : State → Map X} {with_table : State → Map X → State} (t : FollowEntries X f table with_table) where
  pub changes_by : (s : State) (k : ℕ) (x y : X) (come gone : List Node) → map.get (table s) k ≡ Some x → Alike (come ++ f k x) (gone ++ f k y) → Alike (come ++ places s) (gone ++ places (with_table s (map.insert (table s) k y)))
  changes_by s k x y come gone there h = λ test.
      let p = places (with_table s (map.insert (table s) k y)) in
      let e = t.changes s k x y there test in
      let e1 = how_many_append test (f k y) (places s) in
      let e2 = how_many_append test (f k x) p in
      let g = h test in
      let g1 = how_many_append test come (f k x) in
      let g2 = how_many_append test gone (f k y) in
      let x1 = how_many_append test come (places s) in
      let x2 = how_many_append test gone p in
      omega (arith, e, e1, e2, g, g1, g2, x1, x2)

  -- It names the same.
  pub stays : (s : State) (k : ℕ) (x y : X) → map.get (table s) k ≡ Some x → Alike (f k x) (f k y) → Alike (places s) (places (with_table s (map.insert (table s) k y)))
  stays s k x y there h = changes_by s k x y [] [] there h

-- ---- Lists of calls

module _ (test : Node → Bool) where
  pub how_many_calls : (cs ds : List WaitingCall) → how_many test (named_by_calls (cs ++ ds)) ≡ how_many test (named_by_calls cs) + how_many test (named_by_calls ds)
  how_many_calls [] ds = omega arith
  how_many_calls (c ∷ cs) ds =
      let a = how_many_append test c.request.caps (named_by_calls (cs ++ ds)) in
      let b = how_many_append test c.request.caps (named_by_calls cs) in
      let ih = how_many_calls cs ds in
      omega (arith, a, b, ih)

  pub how_many_held : (hs js : List HeldCall) → how_many test (named_by_held (hs ++ js)) ≡ how_many test (named_by_held hs) + how_many test (named_by_held js)
  how_many_held [] js = omega arith
  how_many_held (h ∷ hs) js =
      let a = how_many_append test h.call.request.caps (named_by_held (hs ++ js)) in
      let b = how_many_append test h.call.request.caps (named_by_held hs) in
      let ih = how_many_held hs js in
      omega (arith, a, b, ih)

-- A call more at the end.
pub one_more_call : (cs : List WaitingCall) (c : WaitingCall) → Alike (c.request.caps ++ named_by_calls cs) (named_by_calls (cs ++ c ∷ []))
one_more_call cs c = λ test.
    let a = how_many_calls test cs (c ∷ []) in
    let b = how_many_append test c.request.caps [] in
    let d = how_many_append test c.request.caps (named_by_calls cs) in
    omega (arith, a, b, d)

pub one_more_held : (hs : List HeldCall) (h : HeldCall) → Alike (h.call.request.caps ++ named_by_held hs) (named_by_held (hs ++ h ∷ []))
one_more_held hs h = λ test.
    let a = how_many_held test hs (h ∷ []) in
    let b = how_many_append test h.call.request.caps [] in
    let d = how_many_append test h.call.request.caps (named_by_held hs) in
    omega (arith, a, b, d)
