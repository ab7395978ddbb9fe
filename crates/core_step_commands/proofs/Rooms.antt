-- An outcome that is kept for a call, and a call that is counted, change neither where nodes settle nor what room there is.
use Rattle.std.proofs.Common.{◌≡◌, ◌≢◌, ℕ, ◌+◌, Bool, true, false, ◌||◌, cond, nat_le, List, [], ◌∷◌, length, Option, None, Some, IsSome, refl, sym, ap, subst, ◌∙◌, arith}
use Rattle.std.proofs.lemmas.Bool.Decides.{nat_tests}
use Rattle.std.specs.FinMap as map
use Rattle.finite_maps.specs.Tally.{Map}
use Rattle.finite_maps.proofs.Gets.{at_each, get-insert_same, get-insert_other}
use Rattle.finite_maps.proofs.Tallies.{tally-new}
use Rattle.rpc_msg.specs.declared.ids.EmbargoId.{EmbargoId}
use Rattle.rpc_machine.specs.declared.node.Node.{Node}
use Rattle.rpc_machine.specs.declared.node.Node.TheVariants as node
use Rattle.rpc_machine.specs.declared.calls.Caller.TheVariants as caller
use Rattle.rpc_machine.specs.declared.calls.KeptOutcome.{KeptOutcome}
use Rattle.rpc_machine.specs.declared.calls.OwnCall.TheVariants as own
use Rattle.rpc_machine.specs.declared.entries.Export.{Export}
use Rattle.rpc_machine.specs.declared.entries.Question.{Question}
use Rattle.rpc_machine.specs.declared.entries.Reference.{Reference}
use Rattle.rpc_machine.specs.State.{State}
use Rattle.rpc_machine.specs.Lists.{update}
use Rattle.rpc_machine.specs.Commands.{kept, with_outcome}
use Rattle.rpc_machine.specs.Fullness.{has_no_room, is_spent, exports_lack_room, names_lack_room, count_among, going_out, is_exportable, lacks_room_at, lacks_room_through, call_lacks_room}
use Rattle.rpc_machine.specs.Limits.{held, held_limit, held_for_outcome}
use Rattle.rpc_machine.specs.Nodes.{link, links, settle, value_of, field_link}
use Rattle.rpc_machine.specs.Progress.{Progress}
use Rattle.rpc_machine.proofs.Following.{settles_alike}
use Rattle.core_store.specs.Holding.{state_of}
use Rattle.core_store_handles.specs.Changes.{counted_once}
use Rattle.core_store_waits.proofs.Linked.{links_new}
use Rattle.core_step.specs.declared.step.Step.{Step}
use Rattle.core_step.specs.InProgress.{progress_of, IsReady}
use Rattle.core_step_routes.specs.Fitting.{IsOpenThere}
use Rattle.core_step_commands.specs.Ways.{numbered, GoesThrough, GoesBy, GoesSomewhere}

-- ---- As much room for a call

-- Calls go the same ways in t as in s, and have the same room.
record IsAsRoomy (s t : State) : Type 0 where
  settled : (n : Node) → settle t n ≡ settle s n
  open_still : (room : ℕ) (n : Node) → IsOpenThere room s n → IsOpenThere room t n
  held : held t ≡ held s
  tasks : t.next_task ≡ s.next_task
  refs : t.next_ref ≡ s.next_ref
  questions : t.questions ≡ s.questions
  exports : t.exports ≡ s.exports
  embargoes : t.embargoes ≡ s.embargoes

module _ (s t : State) (h : IsAsRoomy s t) where
  going_same : (ns : List Node) → going_out t ns ≡ going_out s ns
  going_same [] = refl
  going_same (n ∷ ns) =
      ap (λ (k : Node). cond (is_exportable k) (k ∷ going_out t ns) (going_out t ns)) (h.settled n)
      ∙ ap (λ (ks : List Node). cond (is_exportable (settle s n)) (settle s n ∷ ks) ks) (going_same ns)

  over_same : (caps : List Node) → (has_no_room t.questions || exports_lack_room t (going_out t caps)) ≡ (has_no_room s.questions || exports_lack_room s (going_out s caps))
  over_same caps =
      ap (λ (m : Map Question). has_no_room m || exports_lack_room t (going_out t caps)) h.questions
      ∙ ap (λ (m : Map Export). has_no_room s.questions || names_lack_room (map.len m) (λ n. count_among n (map.entries m)) (going_out t caps)) h.exports
      ∙ ap (λ (ns : List Node). has_no_room s.questions || exports_lack_room s ns) (going_same caps)

  room_same : (caps : List Node) (n : Node) → lacks_room_at t caps n ≡ lacks_room_at s caps n
  room_same caps (node.Object x) = ap (λ k. is_spent k 1 || is_spent t.next_ref (length caps)) h.tasks ∙ ap (λ k. is_spent s.next_task 1 || is_spent k (length caps)) h.refs
  room_same caps (node.Promise p) = ap (nat_le held_limit) h.held
  room_same caps (node.Field q path) = ap (nat_le held_limit) h.held
  room_same caps (node.Import e) = over_same caps
  room_same caps (node.Pipe q path) = over_same caps
  room_same caps (node.Broken reason) = refl

  open_there : (room : ℕ) (n : Node) → IsOpenThere room s (settle s n) → IsOpenThere room t (settle t n)
  open_there room n there = subst (IsOpenThere room t) (sym (h.settled n)) (h.open_still room (settle s n) there)

  room_there : (caps : List Node) (n : Node) → lacks_room_at t caps (settle t n) ≡ lacks_room_at s caps (settle s n)
  room_there caps n = ap (lacks_room_at t caps) (h.settled n) ∙ room_same caps (settle s n)

  goes_through : (room : ℕ) (head : Node) (e : Option EmbargoId) → GoesThrough room s head e → GoesThrough room t head e
  goes_through room head None there = open_there room head there
  goes_through room head (Some e) there = subst (λ (m : Map _). IsSome (map.get m e.0)) (sym h.embargoes) there

  room_through : (caps : List Node) (head : Node) (e : Option EmbargoId) → lacks_room_through t caps head e ≡ lacks_room_through s caps head e
  room_through caps head None = room_there caps head
  room_through caps head (Some e) = ap (nat_le held_limit) h.held

-- ---- An outcome is kept for a call

abbrev its : ℕ → KeptOutcome
its c = record { caller = caller.Application (record { 0 = c }); value = None; waiting = [] }

module _ (s : State) (c o : ℕ) (free : map.get s.outcomes o ≡ None) where
  abbrev then : State
  then = record (with_outcome s o (caller.Application (record { 0 = c }))) { calls = map.insert s.calls c (own.Kept o) }

  values_same : (q : ℕ) → value_of (map.get (map.insert s.outcomes o (its c)) q) ≡ value_of (map.get s.outcomes q)
  values_same =
      at_each (λ q. value_of (map.get (map.insert s.outcomes o (its c)) q) ≡ value_of (map.get s.outcomes q)) o
      (ap value_of (get-insert_same s.outcomes o (its c)) ∙ sym (ap value_of free)) (λ q apart. ap value_of (get-insert_other s.outcomes o (its c) q apart))

  link_same : (n : Node) → link then n ≡ link s n
  link_same (node.Object x) = refl
  link_same (node.Promise p) = refl
  link_same (node.Field q path) = ap (field_link path) (values_same q)
  link_same (node.Import e) = refl
  link_same (node.Pipe q path) = refl
  link_same (node.Broken reason) = refl

  links_same : links then ≡ links s
  links_same = let e = links_new s.outcomes o (its c) free in omega (arith, e)

  held_same : held then ≡ held s
  held_same = let e = tally-new held_for_outcome s.outcomes o (its c) free in omega (arith, e)

  open_then : (room : ℕ) (n : Node) → IsOpenThere room s n → IsOpenThere room then n
  open_then room (node.Object x) h = tt
  open_then room (node.Promise p) h = h
  open_then room (node.Field q path) h =
      at_each (λ q. IsSome (map.get s.outcomes q) → IsSome (map.get (map.insert s.outcomes o (its c)) q)) o
      (λ some. subst IsSome (sym (get-insert_same s.outcomes o (its c))) refl) (λ q apart some. subst IsSome (sym (get-insert_other s.outcomes o (its c) q apart)) some) q h
  open_then room (node.Import e) h = tt
  open_then room (node.Pipe q path) h = tt
  open_then room (node.Broken reason) h = h

  roomy_then : IsAsRoomy s then
  roomy_then = record { settled = settles_alike s then link_same links_same; open_still = open_then; held = held_same; tasks = refl; refs = refl; questions = refl; exports = refl; embargoes = refl }

module _ (x mid : Step) (c o : ℕ) (free : map.get (state_of x.store).outcomes o ≡ None) (is : progress_of mid ≡ kept (progress_of x) c o) where
  roomy_kept : IsAsRoomy (state_of x.store) (state_of mid.store)
  roomy_kept = subst (λ (p : Progress). IsAsRoomy (state_of x.store) p.state) (sym is) (roomy_then (state_of x.store) c o free)

  pub open_kept : (room : ℕ) (n : Node) → IsOpenThere room (state_of x.store) (settle (state_of x.store) n) → IsOpenThere room (state_of mid.store) (settle (state_of mid.store) n)
  open_kept = open_there (state_of x.store) (state_of mid.store) roomy_kept

  pub room_kept : (caps : List Node) (n : Node) → lacks_room_at (state_of x.store) caps (settle (state_of x.store) n) ≡ false → lacks_room_at (state_of mid.store) caps (settle (state_of mid.store) n) ≡ false
  room_kept caps n h = room_there (state_of x.store) (state_of mid.store) roomy_kept caps n ∙ h

  -- One more call can wait.
  pub not_full : IsReady mid → mid.store.waits.taken ≡ [] → nat_le held_limit (held (state_of x.store)) ≡ false → mid.store.waits.held ≢ held_limit
  not_full h none room =
      let a = h.sound.holds.counted in
      let b = ap length none in
      let e = roomy_kept.held in
      grind (arith, nat_tests)

-- ---- A call is counted

module _ (s : State) (r : ℕ) where
  abbrev counted : State
  counted = record s { refs = update s.refs r counted_once; next_call = s.next_call + 1 }

  link_counted : (n : Node) → link counted n ≡ link s n
  link_counted (node.Object x) = refl
  link_counted (node.Promise p) = refl
  link_counted (node.Field q path) = refl
  link_counted (node.Import e) = refl
  link_counted (node.Pipe q path) = refl
  link_counted (node.Broken reason) = refl

  open_counted : (room : ℕ) (n : Node) → IsOpenThere room s n → IsOpenThere room counted n
  open_counted room (node.Object x) h = h
  open_counted room (node.Promise p) h = h
  open_counted room (node.Field q path) h = h
  open_counted room (node.Import e) h = h
  open_counted room (node.Pipe q path) h = h
  open_counted room (node.Broken reason) h = h

  roomy_counted : IsAsRoomy s counted
  roomy_counted = record { settled = settles_alike s counted link_counted refl; open_still = open_counted; held = refl; tasks = refl; refs = refl; questions = refl; exports = refl; embargoes = refl }

last_of : (a b c : Bool) → (a || b || c) ≡ false → c ≡ false
last_of true b c h = let e : true ≡ false = h in cc
last_of false true c h = let e : true ≡ false = h in cc
last_of false false c h = h

module _ (x mid : Step) (r : ℕ) (is : progress_of mid ≡ numbered (progress_of x) r) (y : Reference) (there : map.get (state_of x.store).refs r ≡ Some y) where
  roomy_numbered : IsAsRoomy (state_of x.store) (state_of mid.store)
  roomy_numbered = subst (λ (p : Progress). IsAsRoomy (state_of x.store) p.state) (sym is) (roomy_counted (state_of x.store) r)

  pub goes_numbered : (room : ℕ) → GoesSomewhere room (state_of x.store) r → GoesThrough room (state_of mid.store) y.head y.embargo
  goes_numbered room h = goes_through (state_of x.store) (state_of mid.store) roomy_numbered room y.head y.embargo (subst (GoesBy room (state_of x.store)) there h)

  pub room_numbered : (caps : List Node) → call_lacks_room (state_of x.store) caps (map.get (state_of x.store).refs r) ≡ false → lacks_room_through (state_of mid.store) caps y.head y.embargo ≡ false
  room_numbered caps h =
      room_through (state_of x.store) (state_of mid.store) roomy_numbered caps y.head y.embargo
      ∙ last_of (is_spent (state_of x.store).next_call 1) (is_spent y.made 1) (lacks_room_through (state_of x.store) caps y.head y.embargo) (ap (call_lacks_room (state_of x.store) caps) (sym there) ∙ h)
