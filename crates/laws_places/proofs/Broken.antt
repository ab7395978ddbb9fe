-- What exports nothing: calls to broken nodes, outcomes that are exceptions, and the end of a step.
use Rattle.std.proofs.Common.{◌≡◌, inl, inr, ℕ, Bool, true, false, cond, List, [], ◌∷◌, Option, None, Some, refl, sym, ap, subst, ◌∙◌}
use Rattle.std.specs.FinMap as map
use Rattle.finite_maps.proofs.Gets.{get-insert_same}
use Rattle.finite_maps.proofs.Tested.{itself}
use Rattle.rpc_msg.specs.declared.exception.Exception.{Exception}
use Rattle.rpc_msg.specs.declared.ids.QuestionId.{QuestionId}
use Rattle.rpc_msg.specs.declared.message.ReturnBody.{ReturnBody}
use Rattle.rpc_msg.specs.declared.parts.Descriptor.{Descriptor}
use Rattle.rpc_machine.specs.declared.node.Node.{Node}
use Rattle.rpc_machine.specs.declared.node.Node.TheVariants as node
use Rattle.rpc_machine.specs.declared.node.Reason.{Reason}
use Rattle.rpc_machine.specs.declared.node.Reason.TheVariants.{BrokenPromise}
use Rattle.rpc_machine.specs.declared.calls.Caller.{Caller}
use Rattle.rpc_machine.specs.declared.calls.Caller.TheVariants as caller
use Rattle.rpc_machine.specs.declared.calls.HeldCall.{HeldCall}
use Rattle.rpc_machine.specs.declared.calls.KeptOutcome.{KeptOutcome}
use Rattle.rpc_machine.specs.declared.calls.OwnCall.{OwnCall}
use Rattle.rpc_machine.specs.declared.calls.Promise.{Promise}
use Rattle.rpc_machine.specs.declared.calls.Promise.TheVariants as promise
use Rattle.rpc_machine.specs.declared.calls.Value.{Value}
use Rattle.rpc_machine.specs.declared.calls.Value.TheVariants as value
use Rattle.rpc_machine.specs.declared.calls.WaitingCall.{WaitingCall}
use Rattle.rpc_machine.specs.declared.entries.AnswerEntry.{AnswerEntry}
use Rattle.rpc_machine.specs.declared.entries.Export.{Export}
use Rattle.rpc_machine.specs.declared.entries.Finishing.{Finishing}
use Rattle.rpc_machine.specs.declared.entries.Finishing.TheVariants as finishing
use Rattle.rpc_machine.specs.declared.entries.Question.{Question}
use Rattle.rpc_machine.specs.State.{State}
use Rattle.rpc_machine.specs.Lists.{from_each}
use Rattle.rpc_machine.specs.Nodes.{field_link, promise_link, value_of, link, settle, is_field, is_promise}
use Rattle.rpc_machine.specs.Places.{named_by_export}
use Rattle.rpc_machine.specs.Progress.{Progress, with_state, with_refs, numbers, send, export_id}
use Rattle.rpc_machine.specs.Routing.{RoutedTo, Routes, RoutesAll, RoutesHeld}
use Rattle.rpc_machine.specs.Flags.{give_back}
use Rattle.rpc_machine.specs.Settling.{known, TellsCall, SaysBack, Returns, TellsPeer, Tells, ResolvesBy, ResolvesEach, exports_where, SettlesOpen, SettlesFrom, SettlesOutcome, FixesFrom, FixesPromise, Drains, NoneLeft, OneMore}
use Rattle.rpc_machine.specs.Sweeping.{FinishesEach, finished_by, got_of, release_each, Sweeps}
use Rattle.rpc_msg.specs.declared.message.PlainMessage.TheVariants as plain
use Rattle.rpc_machine.proofs.Settles.{settles_here, settle_link}
use Rattle.laws_acts.proofs.Alone.{refs_alone, back_alone}
use Rattle.laws_steps.specs.Settled.{IsAmong}
use Rattle.laws_steps.proofs.Below.{collects_below}
use Rattle.laws_steps.proofs.Exceptions.{AllExceptions, first_arises}
use Rattle.laws_nodes.proofs.Knowing.{is_a_field}
use Rattle.laws_nodes.proofs.Stopping.{is_it}

-- ---- Words

-- So of the node of each of these exports.
abbrev pub Each : (Node → Type 0) → List (ℕ × Node) → Type 0
Each P [] = Unit {0}
Each P (x ∷ xs) = P x.1 × Each P xs

pub listed : (P : Node → Type 0) (test : Node → Bool) (es : List (ℕ × Export)) → ((n : Node) → test n ≡ true → IsAmong n (from_each named_by_export es) → P n) → Each P (exports_where test es)
listed P test [] f = tt
listed P test (e ∷ es) f = by (listed P test es (λ n t i. f n t (inr i))) (test e.1.node) refl
  where
    by : Each P (exports_where test es) → (b : Bool) → test e.1.node ≡ b → Each P (cond b ((e.0, e.1.node) ∷ exports_where test es) (exports_where test es))
    by rest true t = (f e.1.node t (inl refl), rest)
    by rest false t = rest

-- It leads to a broken node.
abbrev pub IsCut : State → Node → Type 0
IsCut s n = (r : Reason) × (link s n ≡ Some (node.Broken r))

cut_settles : (s : State) (n : Node) (r : Reason) → link s n ≡ Some (node.Broken r) → settle s n ≡ node.Broken r
cut_settles s n r e = settle_link s 0 n (node.Broken r) e refl ∙ settles_here s (node.Broken r) refl

pub refs_exports : (s : State) (ns : List Node) → (with_refs s ns).exports ≡ s.exports
refs_exports s ns = ap (λ (u : State). u.exports) (refs_alone s ns)

-- ---- Calls that end

breaks : (d : Progress) (c : WaitingCall) (n : Node) (new : Progress) → IsCut d.state n → Routes d c n new → new.state ≡ d.state
breaks d c n new k h = ap (λ (p : Progress). p.state) (subst (λ (m : Node). RoutedTo d c m new) (cut_settles d.state n k.0 k.1) h)

pub all_break : (d : Progress) (cs : List WaitingCall) (n : Node) (new : Progress) → IsCut d.state n → RoutesAll d cs n new → new.state ≡ d.state
all_break d [] n new k h = ap (λ (p : Progress). p.state) h
all_break d (c ∷ cs) n new k h =
    let one = breaks d c n h.0 k h.1 in
    all_break h.0 cs n new (subst (λ (s : State). IsCut s n) (sym one) k) h.2 ∙ one

held_break : (d : Progress) (o : ℕ) (hs : List HeldCall) (new : Progress) → ((n : Node) → is_field o n ≡ true → IsCut d.state n) → RoutesHeld d o hs new → new.state ≡ d.state
held_break d o [] new k h = ap (λ (p : Progress). p.state) h
held_break d o (x ∷ xs) new k h =
    let one = breaks d x.call (node.Field o x.path) h.0 (k (node.Field o x.path) (itself o)) h.1 in
    held_break h.0 o xs new (subst (λ (s : State). (n : Node) → is_field o n ≡ true → IsCut s n) (sym one) k) h.2 ∙ one

resolves_broken : (d : Progress) (told : Option Exception) (xs : List (ℕ × Node)) (new : Progress) → Each (IsCut d.state) xs → ResolvesEach d told xs new → new.state ≡ d.state
resolves_broken d told [] new k h = ap (λ (p : Progress). p.state) h
resolves_broken d told (x ∷ xs) new k h =
    let c = k.0 in
    let one : h.0.state ≡ d.state = ap (λ (p : Progress). p.state) (subst (λ (m : Node). ResolvesBy d x.0 told m h.0) (cut_settles d.state x.1 c.0 c.1) h.1) in
    resolves_broken h.0 told xs new (subst (λ (s : State). Each (IsCut s) xs) (sym one) k.1) h.2 ∙ one

-- ---- An outcome that is an exception

says_nothing : (s : State) (b : Bool) (e : Exception) (said : ReturnBody) (ds : List Descriptor) (new : State) → SaysBack s b (value.Exception e) said ds new → new ≡ s
says_nothing s true e said ds new h = h.2
says_nothing s false e said ds new h = h.2

pub gives_exports : (s : State) (ids : List ℕ) → (give_back s ids).exports ≡ s.exports
gives_exports s ids = ap (λ (u : State). u.exports) (back_alone s ids)

returns_nothing : (d : Progress) (q : QuestionId) (a : AnswerEntry) (e : Exception) (new : Progress) → Returns d q a (value.Exception e) new → new.state.exports ≡ d.state.exports
returns_nothing d q a e new h =
    let g = h.4 in
    let below = collects_below g.0 (with_state d h.2) g.1 in
    ap (λ (p : Progress). p.state.exports) g.2 ∙ gives_exports g.0.state (numbers a.taken) ∙ below.exports ∙ ap (λ (u : State). u.exports) (says_nothing d.state a.finished e h.0 h.1 h.2 h.3)

tells_nothing : (d : Progress) (who : Caller) (e : Exception) (new : Progress) → Tells d who (value.Exception e) new → new.state.exports ≡ d.state.exports
tells_nothing d (caller.Application c) e new h = call (map.get d.state.calls c.0) h
  where
    call : (o : Option OwnCall) → TellsCall d c.0 (value.Exception e) o new → new.state.exports ≡ d.state.exports
    call None g = ap (λ (p : Progress). p.state.exports) g
    call (Some from) g = ap (λ (p : Progress). p.state.exports) g ∙ refs_exports d.state []
tells_nothing d (caller.Peer q) e new h = peer (map.get d.state.answers q.0) h
  where
    peer : (o : Option AnswerEntry) → TellsPeer d q (value.Exception e) o new → new.state.exports ≡ d.state.exports
    peer None g = absurd g
    peer (Some a) g = returns_nothing d q a e new g

-- Each field of it leads to a broken node.
fields_cut : (s : State) (o : ℕ) (who : Caller) (e : Exception) (n : Node) → is_field o n ≡ true → IsCut (known s o who [] (value.Exception e)) n
fields_cut s o who e n f =
    let k = is_a_field o who [] n f in
    let t : State = known s o who [] (value.Exception e) in
    let got = get-insert_same s.outcomes o (record { caller = who; value = Some (value.Exception e); waiting = [] }) in
    (BrokenPromise, ap (link t) k.1 ∙ ap (λ (x : Option KeptOutcome). field_link k.0 (value_of x)) got)

pub exception_settles : (d : Progress) (o : ℕ) (e : Exception) (new : Progress) → SettlesOutcome d o (value.Exception e) new → new.state.exports ≡ d.state.exports
exception_settles d o e new h = from (map.get d.state.outcomes o) h
  where
    v : Value
    v = value.Exception e

    rest : (x : KeptOutcome) (fit : Value) (mid : State) → fit ≡ v → mid ≡ d.state
        → ((told : Progress) × Tells (with_state d (known mid o x.caller x.waiting fit)) x.caller fit told
        × ((routed : Progress) × RoutesHeld (with_state told (known told.state o x.caller [] fit)) o x.waiting routed
        × ResolvesEach routed None (exports_where (is_field o) (map.entries routed.state.exports)) new))
        → new.state.exports ≡ d.state.exports
    rest x fit mid f m g =
        let told = g.0 in
        let r = g.2 in
        let routed = r.0 in
        let t : State = known told.state o x.caller [] v in
        let one : told.state.exports ≡ mid.exports = tells_nothing (with_state d (known mid o x.caller x.waiting v)) x.caller e told (subst (λ (u : Value). Tells (with_state d (known mid o x.caller x.waiting u)) x.caller u told) f g.1) in
        let two : routed.state ≡ t = held_break (with_state told t) o x.waiting routed (fields_cut told.state o x.caller e) (subst (λ (u : Value). RoutesHeld (with_state told (known told.state o x.caller [] u)) o x.waiting routed) f r.1) in
        let cut : Each (IsCut routed.state) (exports_where (is_field o) (map.entries routed.state.exports)) = subst (λ (s : State). Each (IsCut s) (exports_where (is_field o) (map.entries s.exports))) (sym two) (listed (IsCut t) (is_field o) (map.entries t.exports) (λ n b i. fields_cut told.state o x.caller e n b)) in
        let three : new.state ≡ routed.state = resolves_broken routed None (exports_where (is_field o) (map.entries routed.state.exports)) new cut r.2 in
        ap (λ (s : State). s.exports) three ∙ ap (λ (s : State). s.exports) two ∙ one ∙ ap (λ (s : State). s.exports) m

    once : (x : KeptOutcome) (b : Option Value) → SettlesOpen d o v x b new → new.state.exports ≡ d.state.exports
    once x (Some before) g = absurd g
    once x None g = let k = g.2 in rest x g.0 g.1 k.0 k.1 g.3

    from : (x : Option KeptOutcome) → SettlesFrom d o v x new → new.state.exports ≡ d.state.exports
    from None g = absurd g
    from (Some x) g = once x x.value g

-- All outcomes that arise within a step are.
pub drains_nothing : (new d : Progress) → Drains new d → AllExceptions d.arisen → new.state.exports ≡ d.state.exports
drains_nothing new d (NoneLeft h) k = refl
drains_nothing new d (OneMore {mid = mid} o v rest f h more) k = by (λ j. drains_nothing new mid more j) v refl (subst AllExceptions f k)
  where
    by : (AllExceptions mid.arisen → new.state.exports ≡ mid.state.exports) → (u : Value) → v ≡ u → AllExceptions ((o, v) ∷ rest) → new.state.exports ≡ d.state.exports
    by further (value.Results payload caps) e g = let bad = subst (λ (x : Value). AllExceptions ((o, x) ∷ rest)) e g in absurd bad.0
    by further (value.Exception why) e g =
        let same = subst (λ (x : Value). SettlesOutcome (record d { arisen = rest }) o x mid) e h in
        further (first_arises (record d { arisen = rest }) o (value.Exception why) mid same g.1) ∙ exception_settles (record d { arisen = rest }) o why mid same

-- ---- A promise that is fixed to a broken node

pub broken_fixes : (d : Progress) (p : ℕ) (r : Reason) (told : Option Exception) (new : Progress) → FixesPromise d p (node.Broken r) told new → new.state.exports ≡ d.state.exports
broken_fixes d p r told new h = from (map.get d.state.promises p) h
  where
    t : State
    t = record (d.state) { promises = map.insert d.state.promises p (promise.Fixed (node.Broken r)) }

    cut : (n : Node) → is_promise p n ≡ true → IsCut t n
    cut n f = (r, ap (link t) (is_it p n f) ∙ ap promise_link (get-insert_same d.state.promises p (promise.Fixed (node.Broken r))))

    from : (o : Option Promise) → FixesFrom d p (node.Broken r) told o new → new.state.exports ≡ d.state.exports
    from None g = absurd g
    from (Some (promise.Fixed before)) g = absurd g
    from (Some (promise.Open calls)) g =
        let two : g.0.state ≡ t = all_break (with_state d t) calls (node.Promise p) g.0 (cut (node.Promise p) (itself p)) g.1 in
        let each : Each (IsCut g.0.state) (exports_where (is_promise p) (map.entries g.0.state.exports)) = subst (λ (s : State). Each (IsCut s) (exports_where (is_promise p) (map.entries s.exports))) (sym two) (listed (IsCut t) (is_promise p) (map.entries t.exports) (λ n b i. cut n b)) in
        let three : new.state ≡ g.0.state = resolves_broken g.0 told (exports_where (is_promise p) (map.entries g.0.state.exports)) new each g.2 in
        ap (λ (s : State). s.exports) three ∙ ap (λ (s : State). s.exports) two

-- ---- The end of a step

finished : (d : Progress) (q : ℕ) (x : Question) (f : Finishing) → (finished_by d q x f).state.exports ≡ d.state.exports
finished d q x finishing.Owed = gives_exports d.state (got_of x.returned)
finished d q x finishing.Sent = refl
finished d q x finishing.Waived = refl

finishes_each : (d : Progress) (xs : List (ℕ × Question)) (new : Progress) → FinishesEach d xs new → new.state.exports ≡ d.state.exports
finishes_each d [] new h = ap (λ (p : Progress). p.state.exports) h
finishes_each d (x ∷ xs) new h =
    let below = collects_below h.0 d h.1 in
    finishes_each (finished_by h.0 x.0 x.1 x.1.finish) xs new h.2 ∙ finished h.0 x.0 x.1 x.1.finish ∙ below.exports

releases_each : (d : Progress) (xs : List (ℕ × ℕ)) → (release_each d xs).state.exports ≡ d.state.exports
releases_each d [] = refl
releases_each d (x ∷ xs) = releases_each (send d (plain.Release (record { export = export_id x.0; count = x.1 }))) xs

pub sweeps_nothing : (d new : Progress) → Sweeps d new → new.state.exports ≡ d.state.exports
sweeps_nothing d new h =
    let g = h.2 in
    let k = g.2 in
    let below = collects_below k.0 g.0 k.1 in
    ap (λ (p : Progress). p.state.exports) k.2 ∙ releases_each k.0 (map.entries k.0.released) ∙ below.exports ∙ finishes_each d (map.entries h.0) g.0 g.1
