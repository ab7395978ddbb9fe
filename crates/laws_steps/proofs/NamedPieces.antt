-- What places name stays there: in what is described, asked, routed, resolved, told, settled and collected.
use Rattle.std.proofs.Common.{◌≡◌, inl, inr, ℕ, ◌+◌, Bool, true, false, cond, nat_eq, ◌≤◌, List, [], ◌∷◌, ◌++◌, Option, None, Some, refl, sym, ap, subst, ◌∙◌, arith}
use Rattle.std.specs.FinMap as map
use Rattle.laws_acts.specs.rpc_msg.specs.declared.parts.Descriptor.{Descriptor}
use Rattle.laws_acts.specs.rpc_msg.specs.declared.parts.Target.{Target}
use Rattle.laws_acts.specs.rpc_msg.specs.declared.exception.Exception.{Exception}
use Rattle.laws_acts.specs.rpc_msg.specs.declared.message.ReturnBody.{ReturnBody}
use Rattle.laws_acts.specs.rpc_msg.specs.Messages.{given}
use Rattle.laws_acts.specs.rpc_msg.specs.Payloads.{Contents as Payload}
use Rattle.finite_maps.specs.Tally.{Map}
use Rattle.laws_acts.specs.rpc_machine.specs.declared.node.Node.{Node}
use Rattle.laws_acts.specs.rpc_machine.specs.declared.node.Node.TheVariants as node
use Rattle.laws_acts.specs.rpc_machine.specs.declared.calls.Request.{Request}
use Rattle.laws_acts.specs.rpc_machine.specs.declared.calls.WaitingCall.{WaitingCall}
use Rattle.laws_acts.specs.rpc_machine.specs.declared.calls.HeldCall.{HeldCall}
use Rattle.laws_acts.specs.rpc_machine.specs.declared.calls.Promise.{Promise}
use Rattle.laws_acts.specs.rpc_machine.specs.declared.calls.Promise.TheVariants as promise
use Rattle.laws_acts.specs.rpc_machine.specs.declared.calls.Value.{Value}
use Rattle.laws_acts.specs.rpc_machine.specs.declared.calls.Value.TheVariants as value
use Rattle.laws_acts.specs.rpc_machine.specs.declared.calls.KeptOutcome.{KeptOutcome}
use Rattle.laws_acts.specs.rpc_machine.specs.declared.calls.Caller.{Caller}
use Rattle.laws_acts.specs.rpc_machine.specs.declared.calls.Caller.TheVariants as caller
use Rattle.laws_acts.specs.rpc_machine.specs.declared.calls.OwnCall.{OwnCall}
use Rattle.laws_acts.specs.rpc_msg.specs.declared.ids.ExportId.{ExportId}
use Rattle.laws_acts.specs.rpc_machine.specs.declared.entries.Role.TheVariants as role
use Rattle.laws_acts.specs.rpc_machine.specs.declared.entries.Role.{Role}
use Rattle.laws_acts.specs.rpc_machine.specs.declared.entries.AnswerEntry.{AnswerEntry}
use Rattle.laws_acts.specs.rpc_machine.specs.declared.entries.Question.{Question}
use Rattle.laws_acts.specs.rpc_machine.specs.declared.entries.Import.{Import}
use Rattle.laws_acts.specs.rpc_machine.specs.declared.entries.Export.{Export}
use Rattle.laws_acts.specs.rpc_machine.specs.State.{State}
use Rattle.laws_acts.specs.rpc_machine.specs.Lists.{how_many, from_each, of_map}
use Rattle.laws_acts.specs.rpc_machine.specs.Nodes.{settle, is_import}
use Rattle.laws_acts.specs.rpc_machine.specs.Places.{imports_of, named_by_reference, named_by_calls, named_by_held, named_by_promise, named_by_value, named_by_outcome, named_by_question, named_by_export, named_by_answer, named_by_taken, names}
use Rattle.laws_acts.specs.rpc_machine.specs.Progress.{Progress, with_state, with_refs, caps_of, numbers, export_ids}
use Rattle.laws_acts.specs.rpc_machine.specs.Descriptors.{ExportedAs, Described, DescribesAll}
use Rattle.laws_acts.specs.rpc_machine.specs.Routing.{Asks, Relays, WaitsForPromise, WaitsForField, RoutedTo, Routes, RoutesAll, RoutesHeld}
use Rattle.laws_acts.specs.rpc_machine.specs.Collecting.{AnswerIsOther, IsLooseOutcome, IsLooseValue, CallerIsDone, Goes, PromiseGoes, OutcomeGoes, ImportGoes, Collects, Tight, Loose}
use Rattle.laws_acts.specs.rpc_machine.specs.Flags.{give_if, give_back, flag_for}
use Rattle.laws_acts.specs.rpc_machine.specs.Settling.{known, returned_map, PutsIn, Untangles, Fits, TellsCall, SaysBack, Returns, TellsPeer, Tells, ResolvesTo, ResolvesBy, ResolvesEach, exports_where, SendsResolves, SettlesOpen, FixesFrom, FixesPromise}
use Rattle.finite_maps.proofs.Gets.{get-insert_same}
use Rattle.finite_maps.proofs.Tested.{equal, get_other, get_left}
use Rattle.laws_steps.proofs.Among.{by_entry}
use Rattle.laws_steps.specs.Callers.{IsFor, peer, IsOpenFor, AnswersWith, HasOutcome}
use Rattle.laws_steps.proofs.NamedNodes.{Present, Asked, Tied, Here, AllIn, EachIn, all_none, all_cons, all_one, all_append, all_left, all_right, at_put, at_cut, each_put, each_cut, each_at, HereIn, Sound, Fine, Grows, set_refs, set_questions, set_exports, set_answers, more_asked, grows_promise, grows_outcome, set_promise, set_outcome, promise_goes, outcome_goes, import_goes, settle_here}
use Rattle.laws_steps.proofs.HeldQuestions.{question, tied_free, brings_none, brought_put}
use Rattle.laws_steps.proofs.GivenBack.{of_returned, of_taken, still_here, gives}

-- ---- Lists and maps

pub calls_and : (P : Node → Type 0) (cs : List WaitingCall) (c : WaitingCall) → AllIn P (named_by_calls cs) → AllIn P c.request.caps → AllIn P (named_by_calls (cs ++ c ∷ []))
calls_and P [] c h k = all_append P c.request.caps [] k (all_none P)
calls_and P (x ∷ xs) c h k = all_append P x.request.caps (named_by_calls (xs ++ c ∷ [])) (all_left P x.request.caps (named_by_calls xs) h) (calls_and P xs c (all_right P x.request.caps (named_by_calls xs) h) k)

held_and : (P : Node → Type 0) (cs : List HeldCall) (c : HeldCall) → AllIn P (named_by_held cs) → AllIn P c.call.request.caps → AllIn P (named_by_held (cs ++ c ∷ []))
held_and P [] c h k = all_append P c.call.request.caps [] k (all_none P)
held_and P (x ∷ xs) c h k = all_append P x.call.request.caps (named_by_held (xs ++ c ∷ [])) (all_left P x.call.request.caps (named_by_held xs) h) (held_and P xs c (all_right P x.call.request.caps (named_by_held xs) h) k)

pub same_caller : (s : State) (o : ℕ) (x : KeptOutcome) → map.get s.outcomes o ≡ Some x → (who : Caller) → IsFor who (map.get s.outcomes o) → x.caller ≡ who
same_caller s o x e who h = subst (IsFor who) e h

abbrev pub EachHere : (Node → Type 0) → List (ℕ × Node) → Type 0
EachHere P [] = Unit {0}
EachHere P (x ∷ xs) = P x.1 × EachHere P xs

pub where_here : (P : Node → Type 0) (test : Node → Bool) (es : List (ℕ × Export)) → AllIn P (from_each named_by_export es) → EachHere P (exports_where test es)
where_here P test [] h = tt
where_here P test (e ∷ es) h = by (where_here P test es (λ n j. h n (inr j))) (test e.1.node)
  where
    by : EachHere P (exports_where test es) → (b : Bool) → EachHere P (cond b ((e.0, e.1.node) ∷ exports_where test es) (exports_where test es))
    by rest true = (h e.1.node (inl refl), rest)
    by rest false = rest

pub all_of_map : {X : Type 0} (P : Node → Type 0) (f : ℕ → X → List Node) (m : Map X) → EachIn P f m → AllIn P (of_map f m)
all_of_map P f m h n i =
    let r = by_entry f n m i in
    let k = r.0 in
    let x = r.1 in
    let e = r.2 in
    each_at P f m k x h e n r.3

pub by_value : (P : Node → Type 0) (v : Value) → AllIn P (caps_of v) → AllIn P (named_by_value (Some v))
by_value P (value.Results payload caps) h = h
by_value P (value.Exception exception) h = h

-- Of an outcome of the peer that is known, while its answer waits for it.
abbrev pub Standing : ℕ → ℕ → KeptOutcome → AnswerEntry → State → Type 0
Standing o q x a s = (map.get s.outcomes o ≡ Some x) × (map.get s.answers q ≡ Some a)

-- Of an outcome that is settled: it is known, with a value that is there; and its caller was told.
abbrev pub Parts : Asked → ℕ → KeptOutcome → Value → State → State → Type 0
Parts w o x fit s told =
    let t = known s o x.caller x.waiting fit in
    let clear = known told o x.caller [] fit in
    Fine w t × AllIn (HereIn w t) (caps_of fit) × Fine w clear × Present (map.get clear.outcomes o) × AllIn (HereIn w clear) (named_by_held x.waiting)

-- What is left of the outcome once its caller was told.
abbrev pub Told : Asked → ℕ → KeptOutcome → State → Type 0
Told w o x s = Fine w s × (map.get s.outcomes o ≡ Some x)

-- The value is there, and outcomes and answers are the same.
abbrev pub Fitted : Asked → State → Value → State → Type 0
Fitted w s v t = Fine w t × AllIn (HereIn w t) (caps_of v) × (t.outcomes ≡ s.outcomes) × (t.answers ≡ s.answers) × Grows w s t

-- ---- What is kept

-- What is named is there afterwards, and what was there still is.
abbrev pub Out : Asked → (Map Question → Type 0) → State → State → Type 0
Out w T s t = Sound w T t × Grows w s t

pub all_grow : (w : Asked) (s t : State) (ns : List Node) → Grows w s t → AllIn (HereIn w s) ns → AllIn (HereIn w t) ns
all_grow w s t ns g h n i = g n (h n i)

-- Only exports, and what names no node, are new.
abbrev pub Same : State → State → Type 0
Same s t = (t.promises ≡ s.promises) × (t.outcomes ≡ s.outcomes) × (t.answers ≡ s.answers) × (t.imports ≡ s.imports)

pub same_parts : (s : State) → Same s s
same_parts s = (refl, refl, refl, refl)

pub grows_same : (w : Asked) (s t : State) → Same s t → Grows w s t
grows_same w s t e n h = subst (λ (ps : Map Promise). Here w ps t.outcomes t.imports n) (sym e.0) (subst (λ (os : Map KeptOutcome). Here w s.promises os t.imports n) (sym e.1) (subst (λ (is : Map Import). Here w s.promises s.outcomes is n) (sym e.3) h))

module _ {w : Asked} {T : Map Question → Type 0} where
  pub out_same : (s : State) → Sound w T s → Out w T s s
  out_same s h = (h, λ n k. k)

  pub out_then : (s t u : State) → Out w T s t → (Sound w T t → Out w T t u) → Out w T s u
  out_then s t u h f = let k = f h.0 in (k.0, λ n i. k.1 n (h.1 n i))

  -- Numbers, tasks and the keys of promises name nothing.
  pub set_rest : (s : State) (tasks unsettled : Map ℕ) (a b c d : ℕ) → Sound w T s → Sound w T (record s { tasks = tasks; unsettled = unsettled; next_ref = a; next_call = b; next_task = c; next_promise = d })
  set_rest s tasks unsettled a b c d h = record { names = h.names; pending = h.pending; answers = h.answers; calls = h.calls; level = h.level; brought = h.brought; counted = h.counted; asked = h.asked }

  -- ---- Descriptors

  exported : (s : State) (n : Node) (e : ℕ) (o : Option Export) (new : State) → Sound w T s → HereIn w s n → ExportedAs s n e o new → Sound w T new × Same s new
  exported s n e None new i k h = rw h.1 (let m = i.names in (set_exports s _ i (each_put (HereIn w s) named_by_export s.exports e _ (all_one (HereIn w s) n k) m.6), same_parts s))
  exported s n e (Some x) new i k h = rw h.1 (let m = i.names in (set_exports s _ i (each_put (HereIn w s) named_by_export s.exports e _ (all_one (HereIn w s) n k) m.6), same_parts s))

  described : (s : State) (n : Node) (d : Descriptor) (new : State) → Sound w T s → HereIn w s n → Described s n d new → Sound w T new × Same s new
  described s (node.Object o) d new i k h = exported s (node.Object o) h.0 (map.get s.exports h.0) new i k h.2
  described s (node.Promise p) d new i k h = exported s (node.Promise p) h.0 (map.get s.exports h.0) new i k h.2
  described s (node.Field o path) d new i k h = exported s (node.Field o path) h.0 (map.get s.exports h.0) new i k h.2
  described s (node.Import e) d new i k h = rw h.1 (i, same_parts s)
  described s (node.Pipe q path) d new i k h = rw h.1 (i, same_parts s)
  described s (node.Broken reason) d new i k h = rw h.1 (i, same_parts s)

  describes_all : (s : State) (ns : List Node) (ds : List Descriptor) (new : State) → Sound w T s → AllIn (HereIn w s) ns → DescribesAll s ns ds new → Sound w T new × Same s new
  describes_all s [] [] new i k h = rw h (i, same_parts s)
  describes_all s [] (d ∷ ds) new i k h = absurd h
  describes_all s (n ∷ ns) [] new i k h = absurd h
  describes_all s (n ∷ ns) (d ∷ ds) new i k h =
      let a = described s (settle s n) d h.0 i (settle_here s i n (k n (inl refl))) h.1 in
      let e = a.1 in
      let b = describes_all h.0 ns ds new a.0 (all_grow w s h.0 ns (grows_same w s h.0 e) (λ m j. k m (inr j))) h.2 in
      let f = b.1 in
      (b.0, (f.0 ∙ e.0, f.1 ∙ e.1, f.2 ∙ e.2, f.3 ∙ e.3))

  -- ---- References, questions, routing

  pub new_refs : (s : State) (ns : List Node) → Sound w T s → AllIn (HereIn w s) ns → Sound w T (with_refs s ns) × Same s (with_refs s ns)
  new_refs s [] i k = (i, same_parts s)
  new_refs s (n ∷ ns) i k =
      let m = map.insert s.refs s.next_ref (record { head = n; embargo = None; made = 0 }) in
      let t : State = record s { refs = m } in
      let u : State = record t { next_ref = s.next_ref + 1 } in
      let names = i.names in
      let a : Sound w T t = set_refs s m i (each_put (HereIn w s) named_by_reference s.refs s.next_ref _ (all_one (HereIn w s) n (k n (inl refl))) names.0) in
      new_refs u ns (set_rest t s.tasks s.unsettled (s.next_ref + 1) s.next_call s.next_task s.next_promise a) (λ x j. k x (inr j))

pub each_here : (w : Asked) (s t : State) (xs : List (ℕ × Node)) → Grows w s t → EachHere (HereIn w s) xs → EachHere (HereIn w t) xs
each_here w s t [] g h = tt
each_here w s t (x ∷ xs) g h = (g x.1 h.0, each_here w s t xs g h.1)

module _ {w : Asked} where
  -- A question is asked; of the questions U is known then.
  pub asks : {T U : Map Question → Type 0} (d : Progress) (q : ℕ) (role : Role) (to : Target) (r : Request) (new : Progress) → Sound w T d.state → AllIn (HereIn w d.state) r.caps → ((ids : List ExportId) → U (map.insert d.state.questions q (question role ids))) → Asks d q role to r new → Out w U d.state new.state
  asks {T} {U} d q role to r new i k f h =
      let g = h.1 in
      let m = d.state.questions in
      let j : Sound w (λ x. x ≡ m) d.state = more_asked w w (λ x. x ≡ m) d.state i (λ q c e. e) refl in
      let a = describes_all d.state r.caps g.0 g.1 j k g.2 in
      let t = g.1 in
      let names = a.0.names in
      let ids = export_ids (given g.0) in
      let e : t.questions ≡ m = a.0.asked in
      let asked : U (map.insert t.questions q (question role ids)) = subst (λ (x : Map Question). U (map.insert x q (question role ids))) (sym e) (f ids) in
      rw g.3 (set_questions t _ a.0 (each_put (HereIn w t) named_by_question t.questions q _ (all_none (HereIn w t)) names.4) (brought_put t.level t.questions q _ (brings_none t.level (question role ids) refl) a.0.brought) asked, grows_same w d.state t a.1)

  relays : (d : Progress) (c : WaitingCall) (to : Target) (new : Progress) → Fine w d.state → AllIn (HereIn w d.state) c.request.caps → Relays d c to new → Out w (Tied w) d.state new.state
  relays d c to new i k h = asks d h.0 (role.Relay c.outcome) to c.request new i k (λ ids. tied_free w d.state.questions h.0 _ i.asked h.1.0) h.1

  waits_for_promise : (d : Progress) (c : WaitingCall) (p : ℕ) (o : Option Promise) (new : Progress) → map.get d.state.promises p ≡ o → Fine w d.state → AllIn (HereIn w d.state) c.request.caps → WaitsForPromise d c p o new → Out w (Tied w) d.state new.state
  waits_for_promise d c p None new e i k h = absurd h
  waits_for_promise d c p (Some (promise.Fixed to)) new e i k h = absurd h
  waits_for_promise d c p (Some (promise.Open calls)) new e i k h =
      let s = d.state in
      let y = promise.Open (calls ++ c ∷ []) in
      let t : State = record s { promises = map.insert s.promises p y } in
      let g = grows_promise w s p y in
      let names = i.names in
      let old = each_at (HereIn w s) named_by_promise s.promises p (promise.Open calls) names.2 e in
      let here : HereIn w t (node.Promise p) = g (node.Promise p) (old (node.Promise p) (inl refl)) in
      let more : AllIn (HereIn w t) (named_by_calls (calls ++ c ∷ [])) = calls_and (HereIn w t) calls c (λ n j. g n (old n (inr j))) (all_grow w s t c.request.caps g k) in
      rw h (set_promise s p y i (all_cons (HereIn w t) (node.Promise p) (named_by_calls (calls ++ c ∷ [])) here more), g)

  waits_for_field : (d : Progress) (c : WaitingCall) (o : ℕ) (path : _) (x : Option KeptOutcome) (new : Progress) → map.get d.state.outcomes o ≡ x → Fine w d.state → AllIn (HereIn w d.state) c.request.caps → WaitsForField d c o path x new → Out w (Tied w) d.state new.state
  waits_for_field d c o path None new e i k h = absurd h
  waits_for_field d c o path (Some x) new e i k h =
      let s = d.state in
      let more_held : HeldCall = record { path = path; call = c } in
      let y : KeptOutcome = record x { waiting = x.waiting ++ more_held ∷ [] } in
      let t : State = record s { outcomes = map.insert s.outcomes o y } in
      let g = grows_outcome w s o y in
      let names = i.names in
      let old = each_at (HereIn w s) named_by_outcome s.outcomes o x names.3 e in
      let value : AllIn (HereIn w t) (named_by_value x.value) = all_grow w s t (named_by_value x.value) g (all_left (HereIn w s) (named_by_value x.value) (named_by_held x.waiting) old) in
      let held : AllIn (HereIn w t) (named_by_held x.waiting) = all_grow w s t (named_by_held x.waiting) g (all_right (HereIn w s) (named_by_value x.value) (named_by_held x.waiting) old) in
      let more = held_and (HereIn w t) x.waiting more_held held (all_grow w s t c.request.caps g k) in
      rw h (set_outcome s o y i (all_append (HereIn w t) (named_by_value x.value) (named_by_held (x.waiting ++ more_held ∷ [])) value more) (same_caller s o x e) (λ q j. i.pending o q (subst (IsOpenFor q) (sym e) j)), g)

  routed_to : (d : Progress) (c : WaitingCall) (n : Node) (new : Progress) → Fine w d.state → AllIn (HereIn w d.state) c.request.caps → RoutedTo d c n new → Out w (Tied w) d.state new.state
  routed_to d c (node.Object o) new i k h =
      let s = d.state in
      let a = new_refs s c.request.caps i k in
      let t = with_refs s c.request.caps in
      rw h (set_rest t (map.insert s.tasks s.next_task c.outcome) t.unsettled t.next_ref t.next_call (s.next_task + 1) t.next_promise a.0, grows_same w s t a.1)
  routed_to d c (node.Promise p) new i k h = waits_for_promise d c p (map.get d.state.promises p) new refl i k h
  routed_to d c (node.Field o path) new i k h = waits_for_field d c o path (map.get d.state.outcomes o) new refl i k h
  routed_to d c (node.Import e) new i k h = relays d c _ new i k h
  routed_to d c (node.Pipe q path) new i k h = relays d c _ new i k h
  routed_to d c (node.Broken reason) new i k h = rw h (out_same d.state i)

  pub routes : (d : Progress) (c : WaitingCall) (n : Node) (new : Progress) → Fine w d.state → AllIn (HereIn w d.state) c.request.caps → Routes d c n new → Out w (Tied w) d.state new.state
  routes d c n new i k h = routed_to d c (settle d.state n) new i k h

  pub routes_all : (d : Progress) (cs : List WaitingCall) (n : Node) (new : Progress) → Fine w d.state → AllIn (HereIn w d.state) (named_by_calls cs) → RoutesAll d cs n new → Out w (Tied w) d.state new.state
  routes_all d [] n new i k h = rw h (out_same d.state i)
  routes_all d (c ∷ cs) n new i k h =
      let mid = h.0 in
      let a = routes d c n mid i (all_left (HereIn w d.state) c.request.caps (named_by_calls cs) k) h.1 in
      out_then d.state mid.state new.state a (λ j. routes_all mid cs n new j (all_grow w d.state mid.state (named_by_calls cs) a.1 (all_right (HereIn w d.state) c.request.caps (named_by_calls cs) k)) h.2)

  pub routes_held : (d : Progress) (o : ℕ) (hs : List HeldCall) (new : Progress) → Fine w d.state → AllIn (HereIn w d.state) (named_by_held hs) → RoutesHeld d o hs new → Out w (Tied w) d.state new.state
  routes_held d o [] new i k h = rw h (out_same d.state i)
  routes_held d o (x ∷ xs) new i k h =
      let mid = h.0 in
      let a = routes d x.call (node.Field o x.path) mid i (all_left (HereIn w d.state) x.call.request.caps (named_by_held xs) k) h.1 in
      out_then d.state mid.state new.state a (λ j. routes_held mid o xs new j (all_grow w d.state mid.state (named_by_held xs) a.1 (all_right (HereIn w d.state) x.call.request.caps (named_by_held xs) k)) h.2)

  -- ---- Resolves

  resolves_to : (d : Progress) (e : ℕ) (n : Node) (new : Progress) → Fine w d.state → HereIn w d.state n → ResolvesTo d e n new → Out w (Tied w) d.state new.state
  resolves_to d e n new i k h =
      let a = described d.state (settle d.state n) h.0 h.1 i (settle_here d.state i n k) h.2 in
      rw h.3 (a.0, grows_same w d.state h.1 a.1)

  pub resolved_to : (d : Progress) (e : ℕ) (x : Option Exception) (n : Node) (new : Progress) → Fine w d.state → HereIn w d.state n → ResolvesBy d e x n new → Out w (Tied w) d.state new.state
  resolved_to d e x (node.Object o) new i k h = resolves_to d e _ new i k h
  resolved_to d e x (node.Promise p) new i k h = resolves_to d e _ new i k h
  resolved_to d e x (node.Field o path) new i k h = resolves_to d e _ new i k h
  resolved_to d e x (node.Import c) new i k h = resolves_to d e _ new i k h
  resolved_to d e x (node.Pipe q path) new i k h = resolves_to d e _ new i k h
  resolved_to d e x (node.Broken reason) new i k h = rw h (out_same d.state i)

  resolves_each : (d : Progress) (x : Option Exception) (es : List (ℕ × Node)) (new : Progress) → Fine w d.state → EachHere (HereIn w d.state) es → ResolvesEach d x es new → Out w (Tied w) d.state new.state
  resolves_each d x [] new i k h = rw h (out_same d.state i)
  resolves_each d x (e ∷ es) new i k h =
      let mid = h.0 in
      let a = resolved_to d e.0 x (settle d.state e.1) mid i (settle_here d.state i e.1 k.0) h.1 in
      out_then d.state mid.state new.state a (λ j. resolves_each mid x es new j (each_here w d.state mid.state es a.1 k.1) h.2)

  resolves : (d : Progress) (x : Option Exception) (test : Node → Bool) (new : Progress) → Fine w d.state → SendsResolves d x test new → Out w (Tied w) d.state new.state
  resolves d x test new i h =
      let names = i.names in
      resolves_each d x _ new i (where_here (HereIn w d.state) test (map.entries d.state.exports) (all_of_map (HereIn w d.state) named_by_export d.state.exports names.6)) h

  -- A promise is fixed: it stands, and so do the capabilities of its calls.
  pub fix : (s : State) (p : ℕ) (to : Node) (calls : List WaitingCall) → map.get s.promises p ≡ Some (promise.Open calls) → Fine w s → HereIn w s to → (let t : State = record s { promises = map.insert s.promises p (promise.Fixed to) } in Fine w t × HereIn w t (node.Promise p) × AllIn (HereIn w t) (named_by_calls calls) × Grows w s t)
  fix s p to calls e i k =
      let y = promise.Fixed to in
      let t : State = record s { promises = map.insert s.promises p y } in
      let g = grows_promise w s p y in
      let names = i.names in
      let old = each_at (HereIn w s) named_by_promise s.promises p (promise.Open calls) names.2 e in
      (set_promise s p y i (all_one (HereIn w t) to (g to k)), g (node.Promise p) (old (node.Promise p) (inl refl)), λ n a. g n (old n (inr a)), g)

  pub fixed : (d : Progress) (p : ℕ) (to : Node) (x : Option Exception) (new : Progress) → Fine w d.state → HereIn w d.state to → FixesPromise d p to x new → Out w (Tied w) d.state new.state
  fixed d p to x new i k h = from (map.get d.state.promises p) refl h
    where
      from : (o : Option Promise) → map.get d.state.promises p ≡ o → FixesFrom d p to x o new → Out w (Tied w) d.state new.state
      from None e h = absurd h
      from (Some (promise.Fixed before)) e h = absurd h
      from (Some (promise.Open calls)) e h =
          let s = d.state in
          let mid = with_state d (record s { promises = map.insert s.promises p (promise.Fixed to) }) in
          let a = fix s p to calls e i k in
          out_then s mid.state new.state (a.0, a.3) (λ j. out_then mid.state h.0.state new.state (routes_all mid calls (node.Promise p) h.0 j a.2 h.1) (λ l. resolves h.0 x _ new l h.2))

-- ---- Collecting

module _ {w : Asked} {T : Map Question → Type 0} where
  goes : (d new : Progress) → Sound w T d.state → Goes d new → Sound w T new.state
  goes d new i (PromiseGoes p h e) = rw e (promise_goes d.state p i h)
  goes d new i (OutcomeGoes o h e) = rw e (outcome_goes d.state o i h)
  goes d new i (ImportGoes k h e) = rw e (import_goes d.state k i h)

  pub collects : (new d : Progress) → Sound w T d.state → Collects new d → Sound w T new.state
  collects new d i (Tight h) = i
  collects new d i (Loose {mid = mid} g rest) = collects new mid (goes d mid i g) rest

-- ---- A caller is told

module _ (o q : ℕ) (x : KeptOutcome) (a : AnswerEntry) (own : a.outcome ≡ o) (its : x.caller ≡ peer q) where
  not_loose : (s : State) → Standing o q x a s → IsLooseOutcome s o (Some x) → ⊥
  not_loose s e l = by x.value l
    where
      by : (w : Option Value) → IsLooseValue s o x w → ⊥
      by None k = absurd k
      by (Some w) k =
          let other : AnswerIsOther o (Some a) = subst (AnswerIsOther o) e.1 (subst (CallerIsDone s o) its k.1) in
          other own

  stays_through : (d new : Progress) → Standing o q x a d.state → Goes d new → Standing o q x a new.state
  stays_through d new e (PromiseGoes p h f) = rw f e
  stays_through d new e (ImportGoes k h f) = rw f e
  stays_through d new e (OutcomeGoes k h f) = rw f (by (nat_eq o k) refl)
    where
      by : (b : Bool) → nat_eq o k ≡ b → (map.get (map.remove d.state.outcomes k) o ≡ Some x) × (map.get d.state.answers q ≡ Some a)
      by false g = (get_left d.state.outcomes k o g ∙ e.0, e.1)
      by true g =
          let j : IsLooseOutcome d.state o (map.get d.state.outcomes o) = subst (λ (m : ℕ). IsLooseOutcome d.state m (map.get d.state.outcomes m)) (sym (equal o k g)) h in
          absurd (not_loose d.state e (subst (IsLooseOutcome d.state o) e.0 j))

  pub stays_collected : (new d : Progress) → Standing o q x a d.state → Collects new d → Standing o q x a new.state
  stays_collected new d e (Tight h) = e
  stays_collected new d e (Loose {mid = mid} g rest) = stays_collected new mid (stays_through d mid e g) rest

module _ (o q : ℕ) (x : KeptOutcome) (v : Value) (a : AnswerEntry) (own : a.outcome ≡ o) (its : x.caller ≡ peer q) (is_known : x.value ≡ Some v) where
  -- What its Call gave is named no more.
  fewer : (s : State) (f : Bool) (gave : List ℕ) → a.returned ≡ None → Standing o q x a s → (e : ℕ) → how_many (nat_eq e) (numbers a.taken) + names (record s { answers = returned_map s.answers q a f gave }) (is_import e) ≤ names s (is_import e)
  fewer s f gave waits st e =
      let one = of_returned (is_import e) s q a f gave st.1 in
      let two = of_taken e a.taken in
      let three : how_many (is_import e) (named_by_answer q a) ≡ how_many (is_import e) (imports_of a.taken) = ap (λ (o : Option (List ExportId)). how_many (is_import e) (named_by_taken a.taken o)) waits in
      omega (arith, one, two, three)

module _ {w : Asked} where
  -- Of an outcome of the peer that is known, while its answer waits for it.
  module _ (o q : ℕ) (x : KeptOutcome) (v : Value) (a : AnswerEntry) (own : a.outcome ≡ o) (its : x.caller ≡ peer q) (is_known : x.value ≡ Some v) where
    -- No other outcome waits for this answer.
    another : (s : State) → Fine w s → Standing o q x a s → (k p : ℕ) → IsOpenFor p (map.get s.outcomes k) → nat_eq p q ≡ false
    another s h e k p i = by (nat_eq p q) refl
      where
        by : (b : Bool) → nat_eq p q ≡ b → nat_eq p q ≡ false
        by false g = g
        by true g =
            let j : AnswersWith k (Some a) = subst (AnswersWith k) e.1 (subst (λ (m : ℕ). AnswersWith k (map.get s.answers m)) (equal p q g) (h.pending k p i)) in
            let same : k ≡ o = sym j.0 ∙ own in
            let l : IsOpenFor p (Some x) = subst (IsOpenFor p) e.0 (subst (λ (m : ℕ). IsOpenFor p (map.get s.outcomes m)) same i) in
            let bad : Some v ≡ None = sym is_known ∙ l.0 in
            cc

    answers_returned : (s : State) (f : Bool) (ids : List ℕ) → Fine w s → Standing o q x a s → Fine w (record s { answers = returned_map s.answers q a f ids })
    answers_returned s true ids h e =
        let n = h.names in
        set_answers s (map.remove s.answers q) h (each_cut (HereIn w s) named_by_answer s.answers q n.7)
        (λ k p i. subst (AnswersWith k) (sym (get_left s.answers q p (another s h e k p i))) (h.pending k p i))
        (at_cut (λ j b. HasOutcome s.outcomes j b) s.answers q tt h.answers)
    answers_returned s false ids h e =
        let n = h.names in
        let y : AnswerEntry = record a { returned = Some (export_ids ids) } in
        set_answers s (map.insert s.answers q y) h (each_put (HereIn w s) named_by_answer s.answers q y (all_none (HereIn w s)) n.7)
        (λ k p i. subst (AnswersWith k) (sym (get_other s.answers q y p (another s h e k p i))) (h.pending k p i))
        (at_put (λ j b. HasOutcome s.outcomes j b) s.answers q y (subst (HasOutcome s.outcomes q) e.1 (h.answers q)) h.answers)

    given_then : (s : State) (b : Bool) (ids : List ℕ) (f : Bool) (gave : List ℕ) → Fine w (give_if (record s { answers = returned_map s.answers q a f gave }) b ids) → Fine w (record (give_if s b ids) { answers = returned_map (give_if s b ids).answers q a f gave }) × ((give_if s b ids).outcomes ≡ s.outcomes)
    given_then s true ids f gave h = (h, refl)
    given_then s false ids f gave h = (h, refl)

    given_back : (s : State) (f : Bool) (gave : List ℕ) → a.returned ≡ None → Fine w s → Standing o q x a s → Fine w (record (give_back s (numbers a.taken)) { answers = returned_map (give_back s (numbers a.taken)).answers q a f gave }) × ((give_back s (numbers a.taken)).outcomes ≡ s.outcomes)
    given_back s f gave waits h e =
        let ids = numbers a.taken in
        let t : State = record s { answers = returned_map s.answers q a f gave } in
        let b = flag_for s ids in
        given_then s b ids f gave (gives t b ids (answers_returned s f gave h e) (still_here w s t ids h.level (λ l. fewer o q x v a own its is_known s f gave waits e) b refl))

  says : (s : State) (b : Bool) (v : Value) (said : ReturnBody) (ds : List Descriptor) (new : State) → Fine w s → AllIn (HereIn w s) (caps_of v) → SaysBack s b v said ds new → Fine w new × Same s new
  says s true v said ds new i k h = rw h.2 (i, same_parts s)
  says s false (value.Exception exception) said ds new i k h = rw h.2 (i, same_parts s)
  says s false (value.Results payload caps) said ds new i k h = describes_all s caps ds new i k h.1

  returns : (d : Progress) (q : ℕ) (a : AnswerEntry) (o : ℕ) (x : KeptOutcome) (v : Value) (new : Progress) → Fine w d.state → AllIn (HereIn w d.state) (caps_of v) → a.outcome ≡ o → x.caller ≡ peer q → x.value ≡ Some v → map.get d.state.outcomes o ≡ Some x → map.get d.state.answers q ≡ Some a → a.returned ≡ None → Returns d (record { 0 = q }) a v new → Told w o x new.state
  returns d q a o x v new i k own its is_known e f none h =
      let g = h.4 in
      let one = says d.state a.finished v h.0 h.1 h.2 i k h.3 in
      let same = one.1 in
      let mid = with_state d h.2 in
      let stands : Standing o q x a h.2 = (ap (λ (m : Map KeptOutcome). map.get m o) same.1 ∙ e, ap (λ (m : Map AnswerEntry). map.get m q) same.2 ∙ f) in
      let then = g.0 in
      let left : Fine w then.state = collects then mid one.0 g.1 in
      let still = stays_collected o q x a own its then mid stands g.1 in
      let last = given_back o q x v a own its is_known then.state a.finished (given h.1) none left still in
      rw g.2 (last.0, ap (λ (m : Map KeptOutcome). map.get m o) last.1 ∙ still.0)

  pub tells_call : (d : Progress) (c : ℕ) (v : Value) (o : Option OwnCall) (new : Progress) → Fine w d.state → AllIn (HereIn w d.state) (caps_of v) → TellsCall d c v o new → Fine w new.state × Same d.state new.state
  tells_call d c v None new i k h = rw h (i, same_parts d.state)
  tells_call d c v (Some from) new i k h = rw h (new_refs d.state (caps_of v) i k)

  pub tells : (d : Progress) (who : Caller) (o : ℕ) (x : KeptOutcome) (v : Value) (new : Progress) → Fine w d.state → AllIn (HereIn w d.state) (caps_of v) → x.caller ≡ who → x.value ≡ Some v → map.get d.state.outcomes o ≡ Some x → ((q : ℕ) → x.caller ≡ peer q → AnswersWith o (map.get d.state.answers q)) → Tells d who v new → Told w o x new.state
  tells d (caller.Application c) o x v new i k its is_known e waits h =
      let a = tells_call d c.0 v (map.get d.state.calls c.0) new i k h in
      let same = a.1 in
      (a.0, ap (λ (m : Map KeptOutcome). map.get m o) same.1 ∙ e)
  tells d (caller.Peer q) o x v new i k its is_known e waits h = peer_told (map.get d.state.answers q.0) refl (waits q.0 its) h
    where
      peer_told : (a : Option AnswerEntry) → map.get d.state.answers q.0 ≡ a → AnswersWith o a → TellsPeer d q v a new → Told w o x new.state
      peer_told None f l h = absurd h
      peer_told (Some a) f l h = returns d q.0 a o x v new i k l.0 its is_known e f l.1 h

  -- ---- An outcome is settled

  placed : (s : State) (o : ℕ) (who : Caller) (hs : List HeldCall) (payload : Payload) (i : ℕ) (n : Node) (rest out : List Node) (new : State) → Fine w s → HereIn w s n → AllIn (HereIn w s) rest → PutsIn s o who hs payload i n rest out new → Fitted w s (value.Results payload out) new
  placed s o who hs payload i n rest out new j here k (inl h) = rw (h.1, h.2) (j, all_cons (HereIn w s) n rest here k, refl, refl, λ m a. a)
  placed s o who hs payload i n rest out new j here k (inr h) =
      let g = h.1 in
      let p = g.0 in
      let t : State = record s { promises = map.insert s.promises p (promise.Open []) } in
      let grow = grows_promise w s p (promise.Open []) in
      let there : HereIn w t (node.Promise p) = subst (λ (y : Option Promise). Present y) (sym (get-insert_same s.promises p (promise.Open []))) tt in
      let a : Fine w t = set_promise s p (promise.Open []) j (all_one (HereIn w t) (node.Promise p) there) in
      rw (g.2, g.3) (a, all_cons (HereIn w t) (node.Promise p) rest there (all_grow w s t rest grow k), refl, refl, grow)

  untangled : (s : State) (o : ℕ) (who : Caller) (hs : List HeldCall) (payload : Payload) (i : ℕ) (caps out : List Node) (new : State) → Fine w s → AllIn (HereIn w s) caps → Untangles s o who hs payload i caps out new → Fitted w s (value.Results payload out) new
  untangled s o who hs payload i [] out new j k h = rw (h.0, h.1) (j, all_none (HereIn w s), refl, refl, λ m a. a)
  untangled s o who hs payload i (n ∷ ns) out new j k h =
      let mid = h.1 in
      let a = untangled s o who hs payload (i + 1) ns h.0 mid j (λ m q. k m (inr q)) h.2 in
      let more = a.4 in
      let b = placed mid o who hs payload i n h.0 out new a.0 (more n (k n (inl refl))) a.1 h.3 in
      let further = b.4 in
      (b.0, b.1, b.2 ∙ a.2, b.3 ∙ a.3, λ m c. further m (more m c))

  pub fitted : (s : State) (o : ℕ) (who : Caller) (hs : List HeldCall) (v out : Value) (new : State) → Fine w s → AllIn (HereIn w s) (caps_of v) → Fits s o who hs v out new → Fitted w s out new
  fitted s o who hs (value.Exception exception) out new i k h = rw (h.0, h.1) (i, all_none (HereIn w s), refl, refl, λ m a. a)
  fitted s o who hs (value.Results payload caps) out new i k h = rw h.1 (untangled s o who hs payload 0 caps h.0 new i k h.2)

  pub parts : (d : Progress) (o : ℕ) (v fit : Value) (x : KeptOutcome) (s : State) (told : Progress) → map.get d.state.outcomes o ≡ Some x → x.value ≡ None → Fine w d.state → AllIn (HereIn w d.state) (caps_of v) → Fits d.state o x.caller x.waiting v fit s → Tells (with_state d (known s o x.caller x.waiting fit)) x.caller fit told → Parts w o x fit s told.state
  parts d o v fit x s told e f i k fits tell =
      let a = fitted d.state o x.caller x.waiting v fit s i k fits in
      let os = a.2 in
      let there : map.get s.outcomes o ≡ Some x = ap (λ (m : Map KeptOutcome). map.get m o) os ∙ e in
      let y : KeptOutcome = record { caller = x.caller; value = Some fit; waiting = x.waiting } in
      let z : KeptOutcome = record { caller = x.caller; value = Some fit; waiting = [] } in
      let t : State = record s { outcomes = map.insert s.outcomes o y } in
      let names = a.0.names in
      let old = all_right (HereIn w s) (named_by_value x.value) (named_by_held x.waiting) (each_at (HereIn w s) named_by_outcome s.outcomes o x names.3 there) in
      let g = grows_outcome w s o y in
      let caps_here : AllIn (HereIn w t) (caps_of fit) = all_grow w s t (caps_of fit) g a.1 in
      let named = all_append (HereIn w t) (named_by_value (Some fit)) (named_by_held x.waiting) (by_value (HereIn w t) fit caps_here) (all_grow w s t (named_by_held x.waiting) g old) in
      let one : Fine w t = set_outcome s o y a.0 named (same_caller s o x there) (λ q j. absurd (not_open fit j.0)) in
      let waits : (q : ℕ) → x.caller ≡ peer q → AnswersWith o (map.get s.answers q) = λ q j. a.0.pending o q (subst (IsOpenFor q) (sym there) (f, j)) in
      let two = tells (with_state d t) x.caller o y fit told one caps_here refl refl (get-insert_same s.outcomes o y) waits tell in
      let u = told.state in
      let after = two.0.names in
      let names_now = each_at (HereIn w u) named_by_outcome u.outcomes o y after.3 two.1 in
      let clear : State = record u { outcomes = map.insert u.outcomes o z } in
      let gw = grows_outcome w u o z in
      let value_now = all_grow w u clear (named_by_value (Some fit)) gw (all_left (HereIn w u) (named_by_value (Some fit)) (named_by_held x.waiting) names_now) in
      let three : Fine w clear = set_outcome u o z two.0 (all_append (HereIn w clear) (named_by_value (Some fit)) [] value_now (all_none (HereIn w clear))) (same_caller u o y two.1) (λ q j. absurd (not_open fit j.0)) in
      let here : Present (map.get clear.outcomes o) = subst (λ (b : Option KeptOutcome). Present b) (sym (get-insert_same u.outcomes o z)) tt in
      (one, caps_here, three, here, all_grow w u clear (named_by_held x.waiting) gw (all_right (HereIn w u) (named_by_value (Some fit)) (named_by_held x.waiting) names_now))
    where
      not_open : (v : Value) → Some v ≡ None → ⊥
      not_open v j = cc

  pub settled : (d : Progress) (o : ℕ) (v : Value) (x : KeptOutcome) (new : Progress) → map.get d.state.outcomes o ≡ Some x → x.value ≡ None → Fine w d.state → AllIn (HereIn w d.state) (caps_of v) → SettlesOpen d o v x None new → Fine w new.state
  settled d o v x new e f i k h =
      let told = h.3 in
      let rest = told.2 in
      let p = parts d o v h.0 x h.1 told.0 e f i k h.2 told.1 in
      let four = routes_held (with_state told.0 (known told.0.state o x.caller [] h.0)) o x.waiting rest.0 p.2 p.4 rest.1 in
      let five = resolves rest.0 None _ new four.0 rest.2 in
      five.0
