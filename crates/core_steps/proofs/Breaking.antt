-- A call that goes to a broken node ends at once, and no other makes an outcome arise.
use Rattle.std.proofs.Common.{◌≡◌, ℕ, Bool, true, false, nat_eq, List, [], Option, None, Some, refl, sym, ap, subst, ◌∙◌}
use Rattle.std.specs.FinMap as map
use Rattle.finite_maps.proofs.Gets.{get-insert_same}
use Rattle.finite_maps.proofs.Tested.{equal}
use Rattle.rpc_msg.specs.Op.{Op}
use Rattle.rpc_msg.specs.declared.ids.CallId.{CallId}
use Rattle.rpc_msg.specs.declared.ids.EmbargoId.{EmbargoId}
use Rattle.rpc_machine.specs.declared.node.Node.{Node}
use Rattle.rpc_machine.specs.declared.node.Node.TheVariants as node
use Rattle.rpc_machine.specs.declared.node.Reason.{Reason}
use Rattle.rpc_machine.specs.declared.calls.Caller.TheVariants as caller
use Rattle.rpc_machine.specs.declared.calls.KeptOutcome.{KeptOutcome}
use Rattle.rpc_machine.specs.declared.calls.OwnCall.TheVariants as own
use Rattle.rpc_machine.specs.declared.calls.Promise.{Promise}
use Rattle.rpc_machine.specs.declared.calls.Promise.TheVariants as promise
use Rattle.rpc_machine.specs.declared.calls.Request.{Request}
use Rattle.rpc_machine.specs.declared.calls.Value.TheVariants as value
use Rattle.rpc_machine.specs.declared.calls.WaitingCall.{WaitingCall}
use Rattle.rpc_machine.specs.declared.command.CallCommand.{CallCommand}
use Rattle.rpc_machine.specs.declared.command.Granted.{Granted}
use Rattle.rpc_machine.specs.declared.command.Granted.TheVariants as granted
use Rattle.rpc_machine.specs.declared.entries.Embargo.{Embargo}
use Rattle.rpc_machine.specs.declared.entries.Reference.{Reference}
use Rattle.rpc_machine.specs.State.{State}
use Rattle.rpc_machine.specs.Nodes.{settle, is_field, value_of}
use Rattle.rpc_machine.specs.Places.{places, names}
use Rattle.rpc_machine.specs.Progress.{Progress, begin, with_state, arises}
use Rattle.rpc_machine.specs.Routing.{RoutedTo, WaitsForPromise, WaitsForField, failed, reason_text}
use Rattle.rpc_machine.specs.Commands.{MakesCall, CallsThrough, CallsBy, WaitsForEmbargo, counted, kept, request}
use Rattle.laws_acts.specs.Alike.{Alike}
use Rattle.laws_acts.proofs.Promises.{outcome_comes}
use Rattle.laws_acts.proofs.References.{ref_counted}
use Rattle.laws_steps.specs.NodesThere.{Stands, IsWhole}
use Rattle.laws_steps.proofs.Among.{none_counted}
use Rattle.laws_nodes.specs.Settling.{AllStop, Settling}
use Rattle.core_step_commands.specs.AtOnce.{EndsAtOnce}
use Rattle.core_steps.specs.Calling.{broken_by, broken_through, broken_at, told_of, EndsIf}

-- ---- The number of a call

call_number : Granted → ℕ
call_number granted.Done = 0
call_number (granted.Reference r) = 0
call_number (granted.Call c) = c.0
call_number (granted.Promise p r) = 0
call_number (granted.Advanced a) = 0

number_of : (c : CallId) (next : ℕ) → granted.Call c ≡ granted.Call (record { 0 = next }) → c.0 ≡ next
unfolding call_number
number_of c next same = ap call_number same

-- ---- What a fresh outcome is named by

not_field : (s : State) (o : ℕ) → map.get s.outcomes o ≡ None → (n : Node) → Stands s n → is_field o n ≡ false
not_field s o free (node.Object k) h = refl
not_field s o free (node.Promise p) h = refl
not_field s o free (node.Field k path) h = by (nat_eq k o) refl
  where
    by : (b : Bool) → nat_eq k o ≡ b → nat_eq k o ≡ false
    by false e = e
    by true e = let same = equal k o e in let none : map.get s.outcomes k ≡ None = ap (map.get s.outcomes) same ∙ free in cc
not_field s o free (node.Import e) h = refl
not_field s o free (node.Pipe q path) h = refl
not_field s o free (node.Broken reason) h = refl

unnamed : (s : State) (o : ℕ) → IsWhole s → map.get s.outcomes o ≡ None → names s (is_field o) ≡ 0
unnamed s o whole free = none_counted (is_field o) (places s) (λ n among. not_field s o free n (whole.there n among))

-- ---- Nothing arises

waits_for_promise : (d : Progress) (w : WaitingCall) (p : ℕ) (o : Option Promise) (new : Progress) → WaitsForPromise d w p o new → new.arisen ≡ d.arisen
waits_for_promise d w p None new h = absurd h
waits_for_promise d w p (Some (promise.Fixed to)) new h = absurd h
waits_for_promise d w p (Some (promise.Open calls)) new h = ap (λ (x : Progress). x.arisen) h

waits_for_field : (d : Progress) (w : WaitingCall) (k : ℕ) (path : List Op) (o : Option KeptOutcome) (new : Progress) → WaitsForField d w k path o new → new.arisen ≡ d.arisen
waits_for_field d w k path None new h = absurd h
waits_for_field d w k path (Some x) new h = ap (λ (x : Progress). x.arisen) h

waits_for_embargo : (d : Progress) (w : WaitingCall) (e : ℕ) (o : Option Embargo) (new : Progress) → WaitsForEmbargo d w e o new → new.arisen ≡ d.arisen
waits_for_embargo d w e None new h = absurd h
waits_for_embargo d w e (Some b) new h = ap (λ (x : Progress). x.arisen) h

-- ---- A call of a vat that is reached

module _ (s : State) (whole : IsWhole s) (stops : AllStop s) (settles : Settling) (c : CallCommand) (call : CallId) (x : Reference) (there : map.get s.refs c.reference.0 ≡ Some x) where
  -- It has its number.
  abbrev mid : Progress
  mid = with_state (begin s) (counted s c.reference.0 x)

  abbrev made : Request
  made = request s c x

  abbrev fresh : ℕ → KeptOutcome
  fresh o = record { caller = caller.Application (record { 0 = s.next_call }); value = None; waiting = [] }

  settles_still : (o : ℕ) → map.get s.outcomes o ≡ None → (n : Node) → settle (kept mid s.next_call o).state n ≡ settle s n
  settles_still o free n =
      let same = settles.same s (record s { outcomes = map.insert s.outcomes o (fresh o) }) (settles.begins s o (fresh o) (ap value_of free)) stops in
      same.1 n

  alike : (o : ℕ) → map.get s.outcomes o ≡ None → Alike (places s) (places (kept mid s.next_call o).state)
  alike o free test = ref_counted s c.reference.0 x there test ∙ outcome_comes (counted s c.reference.0 x) o (caller.Application (record { 0 = s.next_call })) free test

  ends : (o : ℕ) (reason : Reason) (new : Progress) → call.0 ≡ s.next_call → map.get s.outcomes o ≡ None → new ≡ arises (kept mid s.next_call o) o (value.Exception (failed (reason_text reason))) → EndsAtOnce new call (failed (reason_text reason))
  ends o reason new number free is = subst (λ (p : Progress). EndsAtOnce p call (failed (reason_text reason))) (sym is) (record {
    key = o;
    from = own.Kept o;
    arisen = refl;
    outcome = get-insert_same s.outcomes o (fresh o) ∙ ap (λ (k : ℕ). Some (record { caller = caller.Application (record { 0 = k }); value = None; waiting = [] })) (sym number);
    unfinished = ap (map.get (map.insert s.calls s.next_call (own.Kept o))) number ∙ get-insert_same s.calls s.next_call (own.Kept o);
    unnamed = sym (alike o free (is_field o)) ∙ unnamed s o whole free;
  })

  routed : (o : ℕ) (n : Node) (new : Progress) → call.0 ≡ s.next_call → map.get s.outcomes o ≡ None → RoutedTo (kept mid s.next_call o) (record { request = made; outcome = o }) n new → EndsIf new call (told_of (broken_by n))
  routed o (node.Object k) new number free h = ap (λ (p : Progress). p.arisen) h
  routed o (node.Promise p) new number free h = waits_for_promise (kept mid s.next_call o) (record { request = made; outcome = o }) p (map.get s.promises p) new h
  routed o (node.Field k path) new number free h = waits_for_field (kept mid s.next_call o) (record { request = made; outcome = o }) k path (map.get (kept mid s.next_call o).state.outcomes k) new h
  routed o (node.Import e) new number free h = ap (λ (p : Progress). p.arisen) h.1.1.3
  routed o (node.Pipe q path) new number free h = ap (λ (p : Progress). p.arisen) h.1.1.3
  routed o (node.Broken reason) new number free h = ends o reason new number free h

  by_node : (n : Node) (new : Progress) → call.0 ≡ s.next_call → settle s x.head ≡ n → CallsBy mid s.next_call made x.head n new → EndsIf new call (told_of (broken_by n))
  by_node (node.Object k) new number is h = routed h.0 (node.Object k) new number h.1 (subst (λ (m : Node). RoutedTo (kept mid s.next_call h.0) (record { request = made; outcome = h.0 }) m new) (settles_still h.0 h.1 x.head ∙ is) h.2)
  by_node (node.Promise p) new number is h = routed h.0 (node.Promise p) new number h.1 (subst (λ (m : Node). RoutedTo (kept mid s.next_call h.0) (record { request = made; outcome = h.0 }) m new) (settles_still h.0 h.1 x.head ∙ is) h.2)
  by_node (node.Field k path) new number is h = routed h.0 (node.Field k path) new number h.1 (subst (λ (m : Node). RoutedTo (kept mid s.next_call h.0) (record { request = made; outcome = h.0 }) m new) (settles_still h.0 h.1 x.head ∙ is) h.2)
  by_node (node.Import e) new number is h = ap (λ (p : Progress). p.arisen) h.1.1.3
  by_node (node.Pipe q path) new number is h = ap (λ (p : Progress). p.arisen) h.1.1.3
  by_node (node.Broken reason) new number is h = routed h.0 (node.Broken reason) new number h.1 (subst (λ (m : Node). RoutedTo (kept mid s.next_call h.0) (record { request = made; outcome = h.0 }) m new) (settles_still h.0 h.1 x.head ∙ is) h.2)

  through : (o : Option EmbargoId) (new : Progress) → call.0 ≡ s.next_call → CallsThrough mid s.next_call made x.head o new → EndsIf new call (told_of (broken_through s x.head o))
  through None new number h = by_node (settle s x.head) new number refl h
  through (Some e) new number h = waits_for_embargo (kept mid s.next_call h.0) (record { request = made; outcome = h.0 }) e.0 (map.get s.embargoes e.0) new h.2

by_ref : (s : State) (c : CallCommand) (call : CallId) (o : Option Reference) (new : Progress) → IsWhole s → AllStop s → Settling → map.get s.refs c.reference.0 ≡ o → MakesCall (begin s) c o (granted.Call call) new → EndsIf new call (told_of (broken_at s o))
by_ref s c call None new whole stops settles is h = absurd h
by_ref s c call (Some x) new whole stops settles is h = through s whole stops settles c call x is x.embargo new (number_of call s.next_call h.0) h.1

-- The outcome of the call arises where it goes to a broken node, and none else.
pub ends_if_broken : (s : State) (c : CallCommand) (call : CallId) (new : Progress) → IsWhole s → AllStop s → Settling → MakesCall (begin s) c (map.get s.refs c.reference.0) (granted.Call call) new
    → EndsIf new call (told_of (broken_at s (map.get s.refs c.reference.0)))
ends_if_broken s c call new whole stops settles h = by_ref s c call (map.get s.refs c.reference.0) new whole stops settles refl h
