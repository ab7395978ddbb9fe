-- No piece of a step makes more outcomes unknown, and one that becomes known is one fewer.
use Rattle.std.proofs.Common.{◌≡◌, inl, inr, ℕ, ◌+◌, ◌≤◌, ◌<◌, Bool, true, false, List, [], ◌∷◌, ◌++◌, Option, None, Some, refl, ap, ◌∙◌, arith}
use Rattle.std.specs.FinMap as map
use Rattle.rpc_msg.specs.declared.parts.Descriptor.{Descriptor}
use Rattle.rpc_msg.specs.declared.exception.Exception.{Exception}
use Rattle.rpc_msg.specs.Payloads.{Contents as Payload}
use Rattle.rpc_msg.specs.declared.parts.Target.{Target}
use Rattle.rpc_msg.specs.declared.ids.QuestionId.{QuestionId}
use Rattle.rpc_machine.specs.declared.node.Node.{Node}
use Rattle.rpc_machine.specs.declared.node.Node.TheVariants as node
use Rattle.rpc_machine.specs.declared.calls.Request.{Request}
use Rattle.rpc_machine.specs.declared.calls.WaitingCall.{WaitingCall}
use Rattle.rpc_machine.specs.declared.calls.HeldCall.{HeldCall}
use Rattle.rpc_machine.specs.declared.entries.Role.{Role}
use Rattle.rpc_machine.specs.declared.calls.Promise.{Promise}
use Rattle.rpc_machine.specs.declared.calls.Promise.TheVariants as promise
use Rattle.rpc_machine.specs.declared.calls.KeptOutcome.{KeptOutcome}
use Rattle.rpc_machine.specs.declared.calls.OwnCall.{OwnCall}
use Rattle.rpc_machine.specs.declared.calls.Value.{Value}
use Rattle.rpc_machine.specs.declared.calls.Value.TheVariants as value
use Rattle.rpc_machine.specs.declared.calls.Caller.{Caller}
use Rattle.rpc_machine.specs.declared.calls.Caller.TheVariants as caller
use Rattle.rpc_machine.specs.declared.entries.AnswerEntry.{AnswerEntry}
use Rattle.rpc_machine.specs.declared.entries.Export.{Export}
use Rattle.rpc_machine.specs.State.{State}
use Rattle.rpc_machine.specs.Nodes.{settle}
use Rattle.rpc_machine.specs.Progress.{Progress, with_state, with_refs, numbers, caps_of}
use Rattle.rpc_machine.specs.Descriptors.{ExportedAs, Described, DescribesAll}
use Rattle.rpc_machine.specs.Routing.{Asks, WaitsForPromise, WaitsForField, RoutedTo, Routes, RoutesHeld}
use Rattle.rpc_machine.specs.Collecting.{Goes, PromiseGoes, OutcomeGoes, ImportGoes, Collects, Tight, Loose}
use Rattle.rpc_machine.specs.Flags.{give_if, give_back, flag_for}
use Rattle.rpc_machine.specs.Settling.{known, PutsIn, Untangles, Fits, TellsCall, SaysBack, Returns, TellsPeer, Tells, ResolvesTo, ResolvesBy, ResolvesEach, SettlesOpen, SettlesFrom, SettlesOutcome}
use Rattle.finite_maps.specs.Tally.{Map}
use Rattle.finite_maps.proofs.Tallies.{tally-same, tally-insert, tally-remove, tally-split}
use Rattle.core_step_settles.specs.Unknown.{unknown, unknown_by}

abbrev pub NoMore : State → State → Type 0
NoMore s t = unknown t.outcomes ≤ unknown s.outcomes

same : (s : State) → NoMore s s
same s = omega arith

then : (s t u : State) → NoMore s t → NoMore t u → NoMore s u
then s t u h k = omega (arith, h, k)

-- ---- In the table

put_same : (m : Map KeptOutcome) (o : ℕ) (x : KeptOutcome) (hs : List HeldCall) → map.get m o ≡ Some x → unknown (map.insert m o (record x { waiting = hs })) ≤ unknown m
put_same m o x hs there = omega (arith, tally-same (λ (y : KeptOutcome). unknown_by y.value) m o x (record x { waiting = hs }) there refl)

put_known : (m : Map KeptOutcome) (o : ℕ) (x : KeptOutcome) (v : Value) → unknown (map.insert m o (record x { value = Some v })) ≤ unknown m
put_known m o x v = omega (arith, tally-insert (λ (y : KeptOutcome). unknown_by y.value) m o (record x { value = Some v }), tally-remove (λ (y : KeptOutcome). unknown_by y.value) m o)

becomes_known : (m : Map KeptOutcome) (o : ℕ) (x : KeptOutcome) (v : Value) → map.get m o ≡ Some x → x.value ≡ None → unknown (map.insert m o (record x { value = Some v })) < unknown m
becomes_known m o x v there none =
    let one : unknown_by x.value ≡ 1 = ap unknown_by none in
    omega (arith, one, tally-insert (λ (y : KeptOutcome). unknown_by y.value) m o (record x { value = Some v }), tally-split (λ (y : KeptOutcome). unknown_by y.value) m o x there)

fewer_gone : (m : Map KeptOutcome) (o : ℕ) → unknown (map.remove m o) ≤ unknown m
fewer_gone m o = omega (arith, tally-remove (λ (y : KeptOutcome). unknown_by y.value) m o)

-- ---- In each piece

exported : (s : State) (n : Node) (e : ℕ) (o : Option Export) (new : State) → ExportedAs s n e o new → NoMore s new
exported s n e None new h = rw h.1 (same s)
exported s n e (Some x) new h = rw h.1 (same s)

described : (s : State) (n : Node) (d : Descriptor) (new : State) → Described s n d new → NoMore s new
described s (node.Object o) d new h = exported s (node.Object o) h.0 (map.get s.exports h.0) new h.2
described s (node.Promise p) d new h = exported s (node.Promise p) h.0 (map.get s.exports h.0) new h.2
described s (node.Field o path) d new h = exported s (node.Field o path) h.0 (map.get s.exports h.0) new h.2
described s (node.Import e) d new h = rw h.1 (same s)
described s (node.Pipe q path) d new h = rw h.1 (same s)
described s (node.Broken reason) d new h = rw h.1 (same s)

describes_all : (s : State) (ns : List Node) (ds : List Descriptor) (new : State) → DescribesAll s ns ds new → NoMore s new
describes_all s [] [] new h = rw h (same s)
describes_all s [] (d ∷ ds) new h = absurd h
describes_all s (n ∷ ns) [] new h = absurd h
describes_all s (n ∷ ns) (d ∷ ds) new h = then s h.0 new (described s (settle s n) d h.0 h.1) (describes_all h.0 ns ds new h.2)

refs_rise : (s : State) (ns : List Node) → NoMore s (with_refs s ns)
refs_rise s [] = same s
refs_rise s (n ∷ ns) = refs_rise (record s { refs = map.insert s.refs s.next_ref (record { head = n; embargo = None; made = 0 }); next_ref = s.next_ref + 1 }) ns

asks : (d : Progress) (q : ℕ) (role : Role) (t : Target) (r : Request) (new : Progress) → Asks d q role t r new → NoMore d.state new.state
asks d q role t r new h = let g = h.1 in rw g.3 (describes_all d.state r.caps g.0 g.1 g.2)

routed_to : (d : Progress) (c : WaitingCall) (n : Node) (new : Progress) → RoutedTo d c n new → NoMore d.state new.state
routed_to d c (node.Object o) new h = rw h (refs_rise d.state c.request.caps)
routed_to d c (node.Promise p) new h = waits (map.get d.state.promises p) h
  where
    waits : (o : Option Promise) → WaitsForPromise d c p o new → NoMore d.state new.state
    waits None h = absurd h
    waits (Some (promise.Fixed to)) h = absurd h
    waits (Some (promise.Open calls)) h = rw h (same d.state)
routed_to d c (node.Field o path) new h = waits (map.get d.state.outcomes o) refl h
  where
    waits : (x : Option KeptOutcome) → map.get d.state.outcomes o ≡ x → WaitsForField d c o path x new → NoMore d.state new.state
    waits None e h = absurd h
    waits (Some x) e h = rw h (put_same d.state.outcomes o x (x.waiting ++ record { path = path; call = c } ∷ []) e)
routed_to d c (node.Import e) new h = asks d h.0 _ _ c.request new h.1
routed_to d c (node.Pipe q path) new h = asks d h.0 _ _ c.request new h.1
routed_to d c (node.Broken reason) new h = rw h (same d.state)

routes : (d : Progress) (c : WaitingCall) (n : Node) (new : Progress) → Routes d c n new → NoMore d.state new.state
routes d c n new h = routed_to d c (settle d.state n) new h

routes_held : (d : Progress) (o : ℕ) (hs : List HeldCall) (new : Progress) → RoutesHeld d o hs new → NoMore d.state new.state
routes_held d o [] new h = rw h (same d.state)
routes_held d o (x ∷ xs) new h = then d.state h.0.state new.state (routes d x.call (node.Field o x.path) h.0 h.1) (routes_held h.0 o xs new h.2)

placed : (s : State) (o : ℕ) (who : Caller) (w : List HeldCall) (payload : Payload) (i : ℕ) (n : Node) (rest out : List Node) (new : State) → PutsIn s o who w payload i n rest out new → new.outcomes ≡ s.outcomes
placed s o who w payload i n rest out new (inl h) = ap (λ (t : State). t.outcomes) h.2
placed s o who w payload i n rest out new (inr h) = let g = h.1 in ap (λ (t : State). t.outcomes) g.3

untangles : (s : State) (o : ℕ) (who : Caller) (w : List HeldCall) (payload : Payload) (i : ℕ) (caps out : List Node) (new : State) → Untangles s o who w payload i caps out new → new.outcomes ≡ s.outcomes
untangles s o who w payload i [] out new h = ap (λ (t : State). t.outcomes) h.1
untangles s o who w payload i (n ∷ ns) out new h = placed h.1 o who w payload i n h.0 out new h.3 ∙ untangles s o who w payload (i + 1) ns h.0 h.1 h.2

pub fits : (s : State) (o : ℕ) (who : Caller) (w : List HeldCall) (v out : Value) (new : State) → Fits s o who w v out new → new.outcomes ≡ s.outcomes
fits s o who w (value.Exception exception) out new h = ap (λ (t : State). t.outcomes) h.1
fits s o who w (value.Results payload caps) out new h = untangles s o who w payload 0 caps h.0 new h.2

goes : (d new : Progress) → Goes d new → NoMore d.state new.state
goes d new (PromiseGoes p h e) = rw e (same d.state)
goes d new (OutcomeGoes o h e) = rw e (fewer_gone d.state.outcomes o)
goes d new (ImportGoes i h e) = rw e (same d.state)

collects : (new d : Progress) → Collects new d → NoMore d.state new.state
collects new d (Tight h) = same new.state
collects new d (Loose {mid = mid} g rest) = then d.state mid.state new.state (goes d mid g) (collects new mid rest)

gives : (s : State) (b : Bool) (ids : List ℕ) → NoMore s (give_if s b ids)
gives s true ids = same s
gives s false ids = same s

says : (s : State) (b : Bool) (v : Value) (said : _) (ds : List Descriptor) (new : State) → SaysBack s b v said ds new → NoMore s new
says s true v said ds new h = rw h.2 (same s)
says s false (value.Exception exception) said ds new h = rw h.2 (same s)
says s false (value.Results payload caps) said ds new h = describes_all s caps ds new h.1

returns : (d : Progress) (q : QuestionId) (a : AnswerEntry) (v : Value) (new : Progress) → Returns d q a v new → NoMore d.state new.state
returns d q a v new h =
    let g = h.4 in
    let one = says d.state a.finished v h.0 h.1 h.2 h.3 in
    let two = collects g.0 (with_state d h.2) g.1 in
    let ids = numbers a.taken in
    let s = g.0.state in
    rw g.2 (then d.state s (give_back s ids) (then d.state h.2 s one two) (gives s (flag_for s ids) ids))

tells : (d : Progress) (who : Caller) (v : Value) (new : Progress) → Tells d who v new → NoMore d.state new.state
tells d (caller.Application c) v new h = call (map.get d.state.calls c.0) h
  where
    call : (o : Option OwnCall) → TellsCall d c.0 v o new → NoMore d.state new.state
    call None h = rw h (same d.state)
    call (Some from) h = rw h (refs_rise d.state (caps_of v))
tells d (caller.Peer q) v new h = peer (map.get d.state.answers q.0) h
  where
    peer : (o : Option AnswerEntry) → TellsPeer d q v o new → NoMore d.state new.state
    peer None h = absurd h
    peer (Some a) h = returns d q a v new h

resolves_to : (d : Progress) (e : ℕ) (n : Node) (new : Progress) → ResolvesTo d e n new → NoMore d.state new.state
resolves_to d e n new h = rw h.3 (described d.state (settle d.state n) h.0 h.1 h.2)

resolved_to : (d : Progress) (e : ℕ) (x : Option Exception) (n : Node) (new : Progress) → ResolvesBy d e x n new → NoMore d.state new.state
resolved_to d e x (node.Object o) new h = resolves_to d e _ new h
resolved_to d e x (node.Promise p) new h = resolves_to d e _ new h
resolved_to d e x (node.Field o path) new h = resolves_to d e _ new h
resolved_to d e x (node.Import i) new h = resolves_to d e _ new h
resolved_to d e x (node.Pipe q path) new h = resolves_to d e _ new h
resolved_to d e x (node.Broken reason) new h = rw h (same d.state)

resolves_each : (d : Progress) (x : Option Exception) (es : List (ℕ × Node)) (new : Progress) → ResolvesEach d x es new → NoMore d.state new.state
resolves_each d x [] new h = rw h (same d.state)
resolves_each d x (e ∷ es) new h = then d.state h.0.state new.state (resolved_to d e.0 x (settle d.state e.1) h.0 h.1) (resolves_each h.0 x es new h.2)

-- An outcome that becomes known is one fewer that is not.
pub settles : (d : Progress) (o : ℕ) (v : Value) (new : Progress) → SettlesOutcome d o v new → unknown new.state.outcomes < unknown d.state.outcomes
settles d o v new h = from (map.get d.state.outcomes o) refl h
  where
    once : (x : KeptOutcome) (b : Option Value) → map.get d.state.outcomes o ≡ Some x → x.value ≡ b → SettlesOpen d o v x b new → unknown new.state.outcomes < unknown d.state.outcomes
    once x (Some before) there was h = absurd h
    once x None there was h =
        let g = h.3 in
        let k = g.2 in
        let fitted : unknown (known h.1 o x.caller x.waiting h.0).outcomes ≡ unknown (map.insert d.state.outcomes o (record x { value = Some h.0 })) =
        ap (λ (m : Map KeptOutcome). unknown (map.insert m o (record x { value = Some h.0 }))) (fits d.state o x.caller x.waiting v h.0 h.1 h.2) in
        let told : NoMore (known h.1 o x.caller x.waiting h.0) g.0.state = tells (with_state d (known h.1 o x.caller x.waiting h.0)) x.caller h.0 g.0 g.1 in
        let put : unknown (known g.0.state o x.caller [] h.0).outcomes ≤ unknown g.0.state.outcomes = put_known g.0.state.outcomes o (record x { waiting = [] }) h.0 in
        let routed : NoMore (known g.0.state o x.caller [] h.0) k.0.state = routes_held (with_state g.0 (known g.0.state o x.caller [] h.0)) o x.waiting k.0 k.1 in
        omega (arith, becomes_known d.state.outcomes o x h.0 there was, fitted, told, put, routed, resolves_each k.0 None _ new k.2)

    from : (e : Option KeptOutcome) → map.get d.state.outcomes o ≡ e → SettlesFrom d o v e new → unknown new.state.outcomes < unknown d.state.outcomes
    from None there h = absurd h
    from (Some x) there h = once x x.value there refl h
