-- An outcome settles, and a promise: from the value to the Resolves.
use Rattle.std.specs.FinMap as map
use Rattle.std.proofs.Common.{◌≡◌, ℕ, Option, None, Some, [], refl, ap, ◌∙◌, Bool, true, false}
use Rattle.finite_maps.proofs.Gets.{get-insert_same}
use Rattle.rpc_msg.specs.declared.exception.Exception.{Exception}
use Rattle.rpc_machine.specs.declared.entries.AnswerEntry.{AnswerEntry}
use Rattle.rpc_machine.specs.declared.node.Node.{Node}
use Rattle.rpc_machine.specs.declared.calls.Caller.{Caller}
use Rattle.rpc_machine.specs.declared.calls.Caller.TheVariants as who
use Rattle.rpc_machine.specs.declared.calls.KeptOutcome.{KeptOutcome}
use Rattle.rpc_machine.specs.declared.calls.Promise.{Promise}
use Rattle.rpc_machine.specs.declared.calls.Promise.TheVariants as promise
use Rattle.rpc_machine.specs.declared.calls.Value.{Value}
use Rattle.rpc_machine.specs.Nodes.{is_field, is_promise, value_of}
use Rattle.rpc_machine.specs.Progress.{Progress, with_state}
use Rattle.rpc_machine.specs.Settling.{exports_where, Tells, SettlesOpen, SettlesFrom, SettlesOutcome, FixesFrom, FixesPromise, Drains, NoneLeft, OneMore, Returns, TellsPeer}
use Rattle.laws_order.specs.Machine as routing
use Rattle.laws_order.specs.Invariant.{InvariantWith}
use Rattle.laws_order.specs.Moves.{Done}
use Rattle.laws_order.proofs.Moves.{moves_keep}
use Rattle.laws_routes.specs.Points.{OfOutcome, routes}
use Rattle.laws_routes.specs.Ties.{Around, Ghosts, Tied}
use Rattle.laws_routes.specs.Laws.{Comes, IsFollowed}
use Rattle.laws_routes.specs.OutcomeLaws.{PeerIsTold, ReturnGoesAs, ReturnMayGo, with_known, MaySettleOpen, MaySettleFrom, AllMaySettle, MayFixFrom}
use Rattle.laws_routes.proofs.NewReferences.{moves_on}
use Rattle.laws_routes.proofs.PromiseFixed.{promise_fixed}
use Rattle.laws_routes.proofs.ValueFitted.{value_fits}
use Rattle.laws_routes.proofs.OutcomeKnown.{outcome_known, emptied}
use Rattle.laws_routes.proofs.HeldCalls.{held_routed, still_held}
use Rattle.laws_routes.proofs.ApplicationTold.{application_told, call_alone}
use Rattle.laws_routes.proofs.AnswerKept.{peer_alone}
use Rattle.laws_routes.proofs.ResolvesSent.{resolves_sent}
use Rattle.laws_routes.proofs.ReturnSent.{return_sent}
use Rattle.laws_routes.proofs.AnswerCloses.{return_closes}
use Rattle.laws_routes.specs.Premises.{IsAnswerOf}
use Rattle.laws_routes.specs.SayingLaws.{MaySayBack}

abbrev known_as : KeptOutcome → Value → KeptOutcome
known_as x fit = record { caller = x.caller; value = Some fit; waiting = x.waiting }

-- Whoever is told.
caller_told : (w : Around) (d : Progress) (o : ℕ) (from : Caller) (v : Value) (told : Progress) → value_of (map.get d.state.outcomes o) ≡ Some v → (h : Tells d from v told) → PeerIsTold w d o from v told h → IsFollowed w d told
caller_told w d o (who.Application c) v told is h may = λ g m us t i. application_told w d g m us c.0 v told t h
caller_told w d o (who.Peer q) v told is h may = by (map.get d.state.answers q.0) refl h may.0 may.1
  where
    by_finish : (a : AnswerEntry) (b : Bool) → map.get d.state.answers q.0 ≡ Some a → a.finished ≡ b → a.outcome ≡ o → (h : Returns d q a v told) → ReturnGoesAs w q.0 b → MaySayBack w d q a v told h → IsFollowed w d told
    by_finish a true e f of h close say = return_closes w d q a v told e f close h say
    by_finish a false e f of h close say = return_sent w d q a v told e f (ap (λ (z : ℕ). value_of (map.get d.state.outcomes z)) of ∙ is) h say

    by : (z : Option AnswerEntry) → map.get d.state.answers q.0 ≡ z → (h : TellsPeer d q v z told) → ReturnMayGo w d q v z told h → IsAnswerOf o z → IsFollowed w d told
    by None e h close of = absurd close
    by (Some a) e h close of = by_finish a a.finished e refl of h close.0 close.1

-- The outcome is still there.
caller_alone : (w : Around) (d : Progress) (o : ℕ) (x : KeptOutcome) (from : Caller) (v : Value) (told : Progress) → x.caller ≡ from → map.get d.state.outcomes o ≡ Some x → (h : Tells d from v told) → PeerIsTold w d o from v told h
    → map.get told.state.outcomes o ≡ Some x
caller_alone w d o x (who.Application c) v told of e h may = ap (λ z. map.get z o) (call_alone d c.0 v (map.get d.state.calls c.0) told h) ∙ e
caller_alone w d o x (who.Peer q) v told of e h may = peer_alone o x q of d v (map.get d.state.answers q.0) told e may.1 h

settles_open : (w : Around) (d : Progress) (g : Ghosts) (m : routing.State routes) (o : ℕ) (v : Value) (x : KeptOutcome) (z : Option Value) (new : Progress) → Tied w d g m → InvariantWith m [] → map.get d.state.outcomes o ≡ Some x → x.value ≡ z
    → (h : SettlesOpen d o v x z new) → MaySettleOpen w d o v x z new h → Comes w new m [] []
settles_open w d g m o v x (Some before) new t i e is h may = absurd h
settles_open w d g m o v x None new t i e is h may =
    let fit = h.0 in
    let mid = h.1 in
    let told = h.3.0 in
    let routed = h.3.2.0 in
    let fits = value_fits w d g m o x.caller x.waiting v fit mid t may.opens h.2 in
    let f = fits.0 in
    let here = with_known d mid o x x.waiting fit in
    let ms = m.net.waiting (OfOutcome w.vat (f.own.outcome o)) in
    let there : map.get mid.outcomes o ≡ Some x = ap (λ q. map.get q o) fits.3 ∙ e in
    let knows = outcome_known w (with_state d mid) f m o x fit fits.1 there is may.rest in
    let n = knows.0 in
    let at_known = moves_keep n ms m [] knows.1 i in
    let says = caller_told w here o x.caller fit told (ap value_of (get-insert_same mid.outcomes o (known_as x fit))) h.3.1 may.tells f n ms knows.2 at_known in
    let f' = says.0 in
    let n' = says.1 in
    let steady = says.4 in
    let stays : map.get told.state.outcomes o ≡ Some (known_as x fit) = caller_alone w here o (known_as x fit) x.caller fit told refl (get-insert_same mid.outcomes o (known_as x fit)) h.3.1 may.tells in
    let out = emptied w told f' n' o (known_as x fit) x.caller [] fit says.3 stays refl in
    let at_told = moves_keep n' ms n ms says.2 at_known in
    let to_go = still_held n.net n'.net w.vat (f.own.outcome o) (f'.own.outcome o) x.waiting ms steady.0 (ap (λ q. q o) steady.3) knows.3 in
    let goes = held_routed w (with_known told told.state o x [] fit) f' n' o x.waiting ms routed out at_told to_go h.3.2.1 may.goes in
    let k = goes.1 in
    let last = resolves_sent w routed None (exports_where (is_field o) (map.entries routed.state.exports)) new h.3.2.2 may.resolves goes.0 k [] goes.3 (moves_keep k [] n' ms goes.2 at_told) in
    (last.0, last.1, moves_on last.1 [] k [] m [] last.2 (moves_on k [] n' ms m [] goes.2 (moves_on n' ms n ms m [] says.2 knows.1)), last.3)

settles_from : (w : Around) (d : Progress) (g : Ghosts) (m : routing.State routes) (o : ℕ) (v : Value) (z : Option KeptOutcome) (new : Progress) → Tied w d g m → InvariantWith m [] → map.get d.state.outcomes o ≡ z
    → (h : SettlesFrom d o v z new) → MaySettleFrom w d o v z new h → Comes w new m [] []
settles_from w d g m o v None new t i e h may = absurd h
settles_from w d g m o v (Some x) new t i e h may = settles_open w d g m o v x x.value new t i e refl h may

pub outcome_settles : (w : Around) (d : Progress) (g : Ghosts) (m : routing.State routes) (o : ℕ) (v : Value) (new : Progress) → Tied w d g m → InvariantWith m []
    → (h : SettlesOutcome d o v new) → MaySettleFrom w d o v (map.get d.state.outcomes o) new h → Comes w new m [] []
outcome_settles w d g m o v new t i h may = settles_from w d g m o v (map.get d.state.outcomes o) new t i refl h may

drains : (w : Around) (new d : Progress) (h : Drains new d) (g : Ghosts) (m : routing.State routes) → Tied w d g m → InvariantWith m [] → AllMaySettle w new d h → Comes w new m [] []
drains w new d (NoneLeft e) g m t i may = (g, m, Done, t)
drains w new d (OneMore {mid = mid} o v rest e h more) g m t i may =
    let a = outcome_settles w (record d { arisen = rest }) g m o v mid t i h may.0 in
    let b = drains w new mid more a.0 a.1 a.3 (moves_keep a.1 [] m [] a.2 i) may.1 in
    (b.0, b.1, moves_on b.1 [] a.1 [] m [] b.2 a.2, b.3)

pub outcomes_drain : (w : Around) (d : Progress) (g : Ghosts) (m : routing.State routes) (new : Progress) → Tied w d g m → InvariantWith m [] → (h : Drains new d) → AllMaySettle w new d h → Comes w new m [] []
outcomes_drain w d g m new t i h may = drains w new d h g m t i may

fixes_from : (w : Around) (d : Progress) (g : Ghosts) (m : routing.State routes) (p : ℕ) (to : Node) (reason : Option Exception) (z : Option Promise) (new : Progress) → Tied w d g m → InvariantWith m [] → map.get d.state.promises p ≡ z
    → (h : FixesFrom d p to reason z new) → MayFixFrom w d p to reason z new h → Comes w new m [] []
fixes_from w d g m p to reason None new t i e h may = absurd h
fixes_from w d g m p to reason (Some (promise.Fixed before)) new t i e h may = absurd h
fixes_from w d g m p to reason (Some (promise.Open calls)) new t i e h may =
    let a = promise_fixed w d g m p calls to h.0 t i e may.0 h.1 may.1 in
    let b = resolves_sent w h.0 reason (exports_where (is_promise p) (map.entries h.0.state.exports)) new h.2 may.2 a.0 a.1 [] a.3 (moves_keep a.1 [] m [] a.2 i) in
    (b.0, b.1, moves_on b.1 [] a.1 [] m [] b.2 a.2, b.3)

pub promise_settles : (w : Around) (d : Progress) (g : Ghosts) (m : routing.State routes) (p : ℕ) (to : Node) (reason : Option Exception) (new : Progress) → Tied w d g m → InvariantWith m []
    → (h : FixesPromise d p to reason new) → MayFixFrom w d p to reason (map.get d.state.promises p) new h → Comes w new m [] []
promise_settles w d g m p to reason new t i h may = fixes_from w d g m p to reason (map.get d.state.promises p) new t i refl h may
