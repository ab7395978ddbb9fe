-- The pieces of a step that come after its first act are lists of acts: calls that are routed, outcomes that are settled,
-- and what no place names.
use Rattle.std.proofs.Common.{◌≡◌, ◌⊎◌, inl, inr, ℕ, Bool, true, false, nat_eq, List, [], ◌∷◌, Option, None, Some, refl, sym, ap, subst, ◌∙◌}
use Rattle.std.specs.FinMap as map
use Rattle.finite_maps.specs.Tally.{Map}
use Rattle.finite_maps.proofs.Gets.{get-insert_same, get-remove_same, get-remove_other}
use Rattle.rpc_machine.specs.rpc_msg.specs.declared.ids.QuestionId.{QuestionId}
use Rattle.rpc_machine.specs.rpc_msg.specs.declared.parts.Target.{Target}
use Rattle.rpc_machine.specs.rpc_msg.specs.declared.parts.Target.TheVariants.{ImportedCap, PromisedAnswer}
use Rattle.rpc_machine.specs.rpc_msg.specs.declared.exception.Exception.{Exception}
use Rattle.rpc_machine.specs.rpc_msg.specs.declared.message.ResolvedTo.TheVariants as resolved
use Rattle.rpc_machine.specs.declared.node.Node.{Node}
use Rattle.rpc_machine.specs.declared.node.Node.TheVariants as node
use Rattle.rpc_machine.specs.declared.calls.WaitingCall.{WaitingCall}
use Rattle.rpc_machine.specs.declared.calls.HeldCall.{HeldCall}
use Rattle.rpc_machine.specs.declared.calls.Promise.{Promise}
use Rattle.rpc_machine.specs.declared.calls.Promise.TheVariants as promise
use Rattle.rpc_machine.specs.declared.calls.KeptOutcome.{KeptOutcome}
use Rattle.rpc_machine.specs.declared.calls.OwnCall.{OwnCall}
use Rattle.rpc_machine.specs.declared.calls.Value.{Value}
use Rattle.rpc_machine.specs.declared.calls.Caller.{Caller}
use Rattle.rpc_machine.specs.declared.calls.Caller.TheVariants as caller
use Rattle.rpc_machine.specs.declared.entries.Role.TheVariants as role
use Rattle.rpc_machine.specs.declared.entries.Question.{Question}
use Rattle.rpc_machine.specs.declared.entries.AnswerEntry.{AnswerEntry}
use Rattle.rpc_machine.specs.declared.entries.Import.{Import}
use Rattle.rpc_machine.specs.State.{State}
use Rattle.rpc_machine.specs.Nodes.{settle}
use Rattle.rpc_machine.specs.Progress.{Progress, with_state, numbers, caps_of}
use Rattle.rpc_machine.specs.Routing.{Relays as GoesOn, WaitsForPromise, WaitsForField, RoutedTo, Routes, RoutesAll, RoutesHeld}
use Rattle.rpc_machine.specs.Collecting.{IsLoosePromise, IsLooseValue, IsLooseOutcome, IsLooseImport, Goes, PromiseGoes as LoosePromise, OutcomeGoes as LooseOutcome, ImportGoes as LooseImport, without_import, release, IsTight, Collects, Tight, Loose}
use Rattle.rpc_machine.specs.Settling.{known, Fits, TellsCall, Returns, TellsPeer, Tells, ResolvesTo, ResolvesBy, ResolvesEach, SettlesOpen, SettlesFrom, SettlesOutcome, resolve_message, exports_where, Drains, NoneLeft, OneMore}
use Rattle.rpc_machine.specs.Advancing.{wire_target}
use Rattle.laws_acts.specs.Moments.{Saying, Clearing, TheOutcome, Settled, Owing, Moment, at_rest, progress, onto, sending, each_to, held_to, is_of, is_collecting, why_of, owing}
use Rattle.laws_acts.specs.GoingOut.{GoesOut}
use Rattle.laws_acts.specs.FirstActs.{asked, asking}
use Rattle.laws_acts.specs.SmallActs.{kept_known, is_broken, IsStill, Act, Delivers, Waits, Holds, Relays, Breaks, NextArisen, Knows, Reports, TellsNobody, MakesReturn, SendsReturn, Clears, Lists, SendsResolve, SendsBroken, PromiseGoes, OutcomeGoes, ImportGoes, Acts, NoMore, Then}
use Rattle.laws_acts.proofs.Alone.{refs_alone, described, go_out, says, back_alone, fits_alone}
use Rattle.laws_acts.proofs.Exact.{delivers, reports, sends_return}
use Rattle.finite_maps.proofs.Tested.{equal, apart}

-- ---- Lists of acts

joined : (mid last d : Moment) → Acts mid d → Acts last mid → Acts last d
joined mid last d NoMore h = h
joined mid last d (Then {mid = m} a rest) h = Then a (joined mid last m rest h)

pub then : (d mid last : Moment) → Acts mid d → Acts last mid → Acts last d
then d mid last h k = joined mid last d h k

pub one : (d new : Moment) → Act d new → Acts new d
one d new a = Then a NoMore

-- ---- Routing

-- One call has been routed.
abbrev pub routed : Moment → List (WaitingCall × Node) → Progress → Moment
routed d rest new = record (onto d new) { yet = rest }

abbrev pub to_route : Moment → WaitingCall → Node → List (WaitingCall × Node) → Moment
to_route d c n rest = record d { yet = (c, n) ∷ rest }

module _ (d : Moment) (c : WaitingCall) (n : Node) (rest : List (WaitingCall × Node)) where
  relays : (t : Target) (new : Progress) → wire_target (settle d.state n) ≡ Some t → GoesOn (progress d) c t new → Acts (routed d rest new) (to_route d c n rest)
  relays t new e h =
      let a = h.1 in
      let g = a.1 in
      let k = go_out d.state c.request.caps g.0 g.1 g.2 in
      let q : ℕ = h.0 in
      let x : Question = asked (role.Relay c.outcome) g.0 in
      rw g.3 (one _ _ (Relays c n rest q t g.0 k.0 refl e a.0 k.1 (ap (λ (u : State). sending (record d { state = record u { questions = map.insert u.questions q x }; yet = rest }) (asking q t c.request g.0)) k.2)))

  routed_to : (at : Node) (new : Progress) → settle d.state n ≡ at → RoutedTo (progress d) c at new → Acts (routed d rest new) (to_route d c n rest)
  routed_to (node.Object o) new e h = rw h (one _ _ (Delivers c n rest o refl e (ap (routed d rest) (delivers (progress d) c o))))
  routed_to (node.Promise p) new e h = waits (map.get d.state.promises p) refl h
    where
      waits : (o : Option Promise) → map.get d.state.promises p ≡ o → WaitsForPromise (progress d) c p o new → Acts (routed d rest new) (to_route d c n rest)
      waits None f h = absurd h
      waits (Some (promise.Fixed to)) f h = absurd h
      waits (Some (promise.Open calls)) f h = rw h (one _ _ (Waits c n rest p calls refl e f refl))
  routed_to (node.Field o path) new e h = waits (map.get d.state.outcomes o) refl h
    where
      waits : (x : Option KeptOutcome) → map.get d.state.outcomes o ≡ x → WaitsForField (progress d) c o path x new → Acts (routed d rest new) (to_route d c n rest)
      waits None f h = absurd h
      waits (Some x) f h = rw h (one _ _ (Holds c n rest o path x refl e f refl))
  routed_to (node.Import i) new e h = relays (ImportedCap i) new (ap wire_target e) h
  routed_to (node.Pipe q path) new e h = relays (PromisedAnswer q path) new (ap wire_target e) h
  routed_to (node.Broken reason) new e h = rw h (one _ _ (Breaks c n rest reason refl e refl))

  pub routes : (new : Progress) → Routes (progress d) c n new → Acts (routed d rest new) (to_route d c n rest)
  routes new h = routed_to (settle d.state n) new refl h

pub routes_all : (d : Moment) (cs : List WaitingCall) (n : Node) (new : Progress) → RoutesAll (progress d) cs n new → Acts (routed d [] new) (record d { yet = each_to n cs })
routes_all d [] n new h = rw h NoMore
routes_all d (c ∷ cs) n new h = then _ (routed d (each_to n cs) h.0) _ (routes d c n (each_to n cs) h.0 h.1) (routes_all (onto d h.0) cs n new h.2)

pub routes_held : (d : Moment) (o : ℕ) (hs : List HeldCall) (new : Progress) → RoutesHeld (progress d) o hs new → Acts (routed d [] new) (record d { yet = held_to o hs })
routes_held d o [] new h = rw h NoMore
routes_held d o (x ∷ xs) new h = then _ (routed d (held_to o xs) h.0) _ (routes d x.call (node.Field o x.path) (held_to o xs) h.0 h.1) (routes_held (onto d h.0) o xs new h.2)

-- ---- What no place names goes

goes : (m : Moment) (d new : Progress) → is_collecting m ≡ true → Goes d new → Act (onto m d) (onto m new)
goes m d new w (LoosePromise p l h) = by (map.get d.state.promises p) refl l
  where
    by : (o : Option Promise) → map.get d.state.promises p ≡ o → IsLoosePromise d.state p o → Act (onto m d) (onto m new)
    by None f l = absurd l
    by (Some (promise.Open calls)) f l = absurd l
    by (Some (promise.Fixed to)) f l = rw h (PromiseGoes p to w f l refl)
goes m d new w (LooseOutcome o l h) = by (map.get d.state.outcomes o) refl l
  where
    at : (x : KeptOutcome) → map.get d.state.outcomes o ≡ Some x → (v : Option Value) → x.value ≡ v → IsLooseValue d.state o x v → Act (onto m d) (onto m new)
    at x f None g l = absurd l
    at x f (Some v) g l = rw h (OutcomeGoes o x v w f g l.0 l.1 l.2 refl)

    by : (x : Option KeptOutcome) → map.get d.state.outcomes o ≡ x → IsLooseOutcome d.state o x → Act (onto m d) (onto m new)
    by None f l = absurd l
    by (Some x) f l = at x f x.value refl l
goes m d new w (LooseImport e l h) = by (map.get d.state.imports e) refl l
  where
    by : (x : Option Import) → map.get d.state.imports e ≡ x → IsLooseImport d.state e x → Act (onto m d) (onto m new)
    by None f l = absurd l
    by (Some x) f l = ImportGoes e x w f l (ap (onto m) h ∙ ap (λ (o : Option Import). record (onto m (without_import d e)) { released = release d.released e o }) f)

pub collects : (m : Moment) (new d : Progress) → is_collecting m ≡ true → Collects new d → Acts (onto m new) (onto m d)
collects m new d w (Tight h) = NoMore
collects m new d w (Loose {mid = mid} g rest) = Then (goes m d mid w g) (collects m new mid w rest)

pub tight_then : (new d : Progress) → Collects new d → IsTight new.state
tight_then new d (Tight h) = h
tight_then new d (Loose {mid = mid} g rest) = tight_then new mid rest

-- It takes no question, answer or call, and settles nothing.
pub record Untouched (d new : Progress) : Type 0 where
  pub questions : new.state.questions ≡ d.state.questions
  pub answers : new.state.answers ≡ d.state.answers
  pub calls : new.state.calls ≡ d.state.calls
  pub arisen : new.arisen ≡ d.arisen

pub goes_by : (d new : Progress) → Goes d new → Untouched d new
goes_by d new (LoosePromise p l h) = rw h (record { questions = refl; answers = refl; calls = refl; arisen = refl })
goes_by d new (LooseOutcome o l h) = rw h (record { questions = refl; answers = refl; calls = refl; arisen = refl })
goes_by d new (LooseImport e l h) = rw h (record { questions = refl; answers = refl; calls = refl; arisen = refl })

pub untouched : (new d : Progress) → Collects new d → Untouched d new
untouched new d (Tight h) = record { questions = refl; answers = refl; calls = refl; arisen = refl }
untouched new d (Loose {mid = mid} g rest) =
    let a = goes_by d mid g in
    let b = untouched new mid rest in
    record { questions = b.questions ∙ a.questions; answers = b.answers ∙ a.answers; calls = b.calls ∙ a.calls; arisen = b.arisen ∙ a.arisen }

none_cut : {X : Type 0} (m : Map X) (k q : ℕ) → map.get m q ≡ None → map.get (map.remove m k) q ≡ None
none_cut m k q h = by (nat_eq q k) refl
  where
    by : (b : Bool) → nat_eq q k ≡ b → map.get (map.remove m k) q ≡ None
    by true e = subst (λ (j : ℕ). map.get (map.remove m k) j ≡ None) (sym (equal q k e)) (get-remove_same m k)
    by false e = get-remove_other m k q (apart q k e) ∙ h

-- An outcome stays as it was, or goes; with calls that wait it stays.
module _ (o : ℕ) (x : KeptOutcome) where
  abbrev pub Still : State → Type 0
  Still s = (map.get s.outcomes o ≡ Some x) ⊎ ((map.get s.outcomes o ≡ None) × (x.waiting ≡ []))

  cut : (s : State) (k : ℕ) → IsLooseOutcome s k (map.get s.outcomes k) → (b : Bool) → nat_eq o k ≡ b → Still s → Still (record s { outcomes = map.remove s.outcomes k })
  cut s k l b e (inr h) = inr (none_cut s.outcomes k o h.0, h.1)
  cut s k l false e (inl h) = inl (get-remove_other s.outcomes k o (apart o k e) ∙ h)
  cut s k l true e (inl h) =
      let f : k ≡ o = sym (equal o k e) in
      inr (subst (λ (j : ℕ). map.get (map.remove s.outcomes j) o ≡ None) (sym f) (get-remove_same s.outcomes o), loose x.value (subst (IsLooseOutcome s o) h (subst (λ (j : ℕ). IsLooseOutcome s j (map.get s.outcomes j)) f l)))
    where
      loose : (v : Option Value) → IsLooseValue s o x v → x.waiting ≡ []
      loose None l = absurd l
      loose (Some v) l = l.0

  still_goes : (d new : Progress) → Goes d new → Still d.state → Still new.state
  still_goes d new (LoosePromise p l h) k = rw h k
  still_goes d new (LooseOutcome j l h) k = rw h (cut d.state j l (nat_eq o j) refl k)
  still_goes d new (LooseImport e l h) k = rw h k

  pub still_then : (new d : Progress) → Collects new d → Still d.state → Still new.state
  still_then new d (Tight h) k = k
  still_then new d (Loose {mid = mid} g rest) k = still_then new mid rest (still_goes d mid g k)

-- ---- An outcome is told

abbrev told_to : Moment → Progress → Moment
told_to m new = record (onto m new) { telling = []; saying = None }

abbrev to_tell : Moment → Caller → Value → Moment
to_tell m who v = record m { telling = (who, v) ∷ []; saying = None }

pub tells_call : (m : Moment) (c : ℕ) (v : Value) (o : Option OwnCall) (new : Progress) → map.get m.state.calls c ≡ o → TellsCall (progress m) c v o new → Acts (told_to m new) (to_tell m (caller.Application (record { 0 = c })) v)
tells_call m c v None new e h = rw h (one _ _ (TellsNobody c v refl e refl))
tells_call m c v (Some from) new e h = rw h (one _ _ (Reports c v from refl e (ap (told_to m) (reports (progress m) c v))))

returns : (m : Moment) (q : QuestionId) (a : AnswerEntry) (v : Value) (new : Progress) → map.get m.state.answers q.0 ≡ Some a → Returns (progress m) q a v new → Acts (told_to m new) (to_tell m (caller.Peer q) v)
returns m q a v new e h =
    let s = m.state in
    let g = h.4 in
    let w = says s a.finished v h.0 h.1 h.2 h.3 in
    let x : Saying = record { answer = q; body = h.0; descriptors = h.1 } in
    let made : Moment = record m { state = record s { exports = w.0 }; telling = []; saying = Some x } in
    let col : Collects g.0 (progress made) = subst (λ (u : State). Collects g.0 (with_state (progress m) u)) w.2 g.1 in
    let after : Moment = onto made g.0 in
    let u = untouched g.0 (progress made) col in
    let f : map.get g.0.state.answers q.0 ≡ Some a = ap (λ (n : Map AnswerEntry). map.get n q.0) u.answers ∙ e in
    Then (MakesReturn q v a h.0 h.1 w.0 refl refl e w.1 refl)
    (then made after (told_to m new) (collects made g.0 (progress made) refl col)
    (one after (told_to m new) (SendsReturn x a refl f (tight_then g.0 (progress made) col)
    (ap (told_to m) (g.2 ∙ sends_return g.0 x a)))))

pub tells : (m : Moment) (who : Caller) (v : Value) (new : Progress) → Tells (progress m) who v new → Acts (told_to m new) (to_tell m who v)
tells m (caller.Application c) v new h = tells_call m c.0 v (map.get m.state.calls c.0) new refl h
tells m (caller.Peer q) v new h = peer (map.get m.state.answers q.0) refl h
  where
    peer : (o : Option AnswerEntry) → map.get m.state.answers q.0 ≡ o → TellsPeer (progress m) q v o new → Acts (told_to m new) (to_tell m (caller.Peer q) v)
    peer None e h = absurd h
    peer (Some a) e h = returns m q a v new e h

-- An outcome is still there when its caller was told.
module _ (o : ℕ) (x : KeptOutcome) (d : Progress) (v : Value) where
  told_call : (c : ℕ) (b : Option OwnCall) (new : Progress) → TellsCall d c v b new → map.get d.state.outcomes o ≡ Some x → Still o x new.state
  told_call c None new h f = rw h (inl f)
  told_call c (Some from) new h f = rw h (inl (ap (λ (s : State). map.get s.outcomes o) (refs_alone d.state (caps_of v)) ∙ f))

  pub still_told : (who : Caller) (new : Progress) → Tells d who v new → map.get d.state.outcomes o ≡ Some x → Still o x new.state
  still_told (caller.Application c) new h f = told_call c.0 (map.get d.state.calls c.0) new h f
  still_told (caller.Peer q) new h f = peer (map.get d.state.answers q.0) h
    where
      peer : (b : Option AnswerEntry) → TellsPeer d q v b new → Still o x new.state
      peer None h = absurd h
      peer (Some a) h =
          let g = h.4 in
          let w = says d.state a.finished v h.0 h.1 h.2 h.3 in
          let mid = with_state d h.2 in
          let k : Still o x h.2 = subst (Still o x) (sym w.2) (inl f) in
          let r : Still o x g.0.state = still_then o x g.0 mid g.1 k in
          rw g.2 (subst (Still o x) (sym (back_alone g.0.state (numbers a.taken))) r)

-- ---- Resolves

resolves_to : (m : Moment) (x : Owing) (rest : List Owing) (n : Node) (new : Progress) → is_broken n ≡ false → settle m.state x.node ≡ n → ResolvesTo (progress m) x.export n new → Acts (record (onto m new) { owed = rest }) (record m { owed = x ∷ rest })
resolves_to m x rest n new b e h =
    let w = described m.state (settle m.state n) h.0 h.1 h.2 in
    rw h.3 (one _ _ (SendsResolve x rest h.0 w.0 refl (ap is_broken e ∙ b) (subst (λ (k : Node). GoesOut m.state.exports (settle m.state k) h.0 w.0) (sym e) w.1) (ap (λ (u : State). sending (record m { state = u; owed = rest }) (resolve_message x.export (resolved.Cap h.0))) w.2)))

resolves : (m : Moment) (x : Owing) (rest : List Owing) (n : Node) (new : Progress) → settle m.state x.node ≡ n → ResolvesBy (progress m) x.export x.why n new → Acts (record (onto m new) { owed = rest }) (record m { owed = x ∷ rest })
resolves m x rest (node.Object o) new e h = resolves_to m x rest (node.Object o) new refl e h
resolves m x rest (node.Promise p) new e h = resolves_to m x rest (node.Promise p) new refl e h
resolves m x rest (node.Field o path) new e h = resolves_to m x rest (node.Field o path) new refl e h
resolves m x rest (node.Import i) new e h = resolves_to m x rest (node.Import i) new refl e h
resolves m x rest (node.Pipe q path) new e h = resolves_to m x rest (node.Pipe q path) new refl e h
resolves m x rest (node.Broken reason) new e h = rw h (one _ _ (SendsBroken x rest reason refl e refl))

pub resolves_each : (m : Moment) (why : Option Exception) (es : List (ℕ × Node)) (new : Progress) → ResolvesEach (progress m) why es new → Acts (record (onto m new) { owed = [] }) (record m { owed = owing why es })
resolves_each m why [] new h = rw h NoMore
resolves_each m why (e ∷ es) new h =
    let x : Owing = record { export = e.0; node = e.1; why = why } in
    then _ (record (onto m h.0) { owed = owing why es }) _ (resolves m x (owing why es) (settle m.state e.1) h.0 refl h.1) (resolves_each (onto m h.0) why es new h.2)

-- What was settled has its calls routed and its Resolves sent.
pub lists : (d : Progress) (x : Settled) (new : Progress) → ResolvesEach d (why_of x) (exports_where (is_of x) (map.entries d.state.exports)) new → Acts (at_rest new) (record (at_rest d) { settled = Some x })
lists d x new h = Then (Lists x refl refl) (resolves_each (at_rest d) (why_of x) (exports_where (is_of x) (map.entries d.state.exports)) new h)

-- ---- An outcome is settled

pub settles : (d : Progress) (o : ℕ) (v : Value) (new : Progress) → SettlesOutcome d o v new → Acts (at_rest new) (record (at_rest d) { coming = (o, v) ∷ [] })
settles d o v new h = from (map.get d.state.outcomes o) refl h
  where
    once : (x : KeptOutcome) → map.get d.state.outcomes o ≡ Some x → (b : Option Value) → x.value ≡ b → SettlesOpen d o v x b new → Acts (at_rest new) (record (at_rest d) { coming = (o, v) ∷ [] })
    once x f (Some before) g h = absurd h
    once x f None g h =
        let told = h.3 in
        let rest = told.2 in
        let fit : Value = h.0 in
        let alone = fits_alone d.state o x.caller x.waiting v fit h.1 h.2 in
        let y : Clearing = record { outcome = o; caller = x.caller; value = fit; waiting = x.waiting } in
        let mid = with_state d (known h.1 o x.caller x.waiting fit) in
        let now : Moment = record (at_rest mid) { telling = (x.caller, fit) ∷ []; clearing = Some y } in
        let clear = with_state told.0 (known told.0.state o x.caller [] fit) in
        let still : IsStill told.0.state y = still_told o (kept_known x.caller fit x.waiting) mid fit x.caller told.0 told.1 (get-insert_same h.1.outcomes o (kept_known x.caller fit x.waiting)) in
        Then (Knows o v fit x h.1.promises refl f g (subst (Fits d.state o x.caller x.waiting v fit) alone h.2) (ap (λ (u : State). record now { state = known u o x.caller x.waiting fit }) alone))
        (then now (record (at_rest told.0) { clearing = Some y }) (at_rest new) (tells (record (at_rest mid) { clearing = Some y }) x.caller fit told.0 told.1)
        (Then (Clears y refl still refl)
        (then _ (record (at_rest rest.0) { settled = Some (TheOutcome o) }) (at_rest new) (routes_held (record (at_rest clear) { settled = Some (TheOutcome o) }) o x.waiting rest.0 rest.1)
        (lists rest.0 (TheOutcome o) new rest.2))))

    from : (x : Option KeptOutcome) → map.get d.state.outcomes o ≡ x → SettlesFrom d o v x new → Acts (at_rest new) (record (at_rest d) { coming = (o, v) ∷ [] })
    from None f h = absurd h
    from (Some x) f h = once x f x.value refl h

pub drained : (new d : Progress) → Drains new d → Acts (at_rest new) (at_rest d) × (new.arisen ≡ [])
drained new d (NoneLeft h) = (NoMore, h)
drained new d (OneMore {mid = mid} o v rest e h more) =
    let left : Progress = record d { arisen = rest } in
    let k = drained new mid more in
    (Then (NextArisen o v rest refl e refl) (then _ (at_rest mid) (at_rest new) (settles left o v mid h) k.0), k.1)
