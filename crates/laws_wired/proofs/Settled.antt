-- Outcomes become known and promises are fixed alike in both.
use Rattle.std.proofs.Common.{◌≡◌, ℕ, Bool, true, false, List, [], ◌∷◌, ◌++◌, map, Option, None, Some, refl, sym, ap, subst, ◌∙◌}
use Rattle.std.specs.FinMap as finite
use Rattle.finite_maps.specs.Tally.{option_changed}
use Rattle.finite_maps.proofs.Values.{get-map_values}
use Rattle.rpc_msg.specs.declared.ids.QuestionId.{QuestionId}
use Rattle.rpc_msg.specs.declared.parts.Descriptor.{Descriptor}
use Rattle.rpc_msg.specs.declared.exception.Exception.{Exception}
use Rattle.rpc_msg.specs.declared.message.ReturnBody.{ReturnBody}
use Rattle.rpc_msg.specs.declared.message.ReturnBody.TheVariants as body
use Rattle.rpc_msg.specs.declared.message.ResolvedTo.TheVariants as resolved
use Rattle.rpc_msg.specs.declared.message.PlainMessage.TheVariants as plain
use Rattle.rpc_msg.specs.declared.message.Message.{Message}
use Rattle.rpc_msg.specs.declared.message.Message.TheVariants as message
use Rattle.rpc_msg.specs.Messages.{given}
use Rattle.rpc_machine.specs.declared.node.Node.{Node}
use Rattle.rpc_machine.specs.declared.node.Node.TheVariants as node
use Rattle.rpc_machine.specs.declared.node.Reason.{Reason}
use Rattle.rpc_machine.specs.declared.calls.Promise.{Promise}
use Rattle.rpc_machine.specs.declared.calls.Value.{Value}
use Rattle.rpc_machine.specs.declared.calls.Caller.{Caller}
use Rattle.rpc_machine.specs.declared.calls.Caller.TheVariants as caller
use Rattle.rpc_machine.specs.declared.calls.OwnCall.{OwnCall}
use Rattle.rpc_machine.specs.declared.calls.KeptOutcome.{KeptOutcome}
use Rattle.rpc_machine.specs.declared.entries.AnswerEntry.{AnswerEntry}
use Rattle.rpc_machine.specs.State.{State}
use Rattle.rpc_machine.specs.Nodes.{is_promise, is_field}
use Rattle.rpc_machine.specs.Progress.{Progress, with_state, send, with_refs, new_refs, export_id, numbers}
use Rattle.rpc_machine.specs.Flags.{flag_for, give_back}
use Rattle.rpc_machine.specs.Routing.{reason_text, failed, RoutesAll, RoutesHeld}
use Rattle.rpc_machine.specs.Settling.{known, report, TellsCall, SaysBack, returned_map, returned, Returns, TellsPeer, Tells, or_failed, resolve_message, ResolvesTo, ResolvesBy, ResolvesEach, exports_where, SendsResolves, SettlesOpen, SettlesFrom, SettlesOutcome, FixesFrom, FixesPromise, Drains, NoneLeft, OneMore}
use Rattle.laws_wired.specs.Contents.{SaysNone, EachLost}
use Rattle.laws_wired.specs.Pairs.{TwoContents, TwoNodes, OneNode, BothBroken, OneException, SaysWhy, ReturnsWhy, ResolvesWhy, node_at, return_saying, TwoValues, Results, Failure, TwoKept, TwoPromises, Open, Fixed, TwoStates, TwoMessages, Same, Returns as Give, TwoEnded, Ends as EndsSo, Fails, waiting_at, held_at, value_at, kept_at, promise_at, state_at, message_at, ended_at, effects_at}
use Rattle.laws_wired.proofs.Settles.{map-append, settle2, settles}
use Rattle.laws_wired.proofs.Going.{TwoProgress, progress_at, Next2, in_state, send2, end2, sends, arisen_at, put_promise, with_refs2, refs_at, same_news}
use Rattle.laws_wired.proofs.Described.{describes, describes_all, says_none}
use Rattle.laws_wired.proofs.Routed.{routes_all, routes_held}
use Rattle.laws_wired.proofs.Untangled.{known2, knows, fits}
use Rattle.laws_wired.proofs.Collected.{collects, same_flag, give2, gives}

-- ---- the caller is told

abbrev outcome2 : TwoProgress → ℕ → TwoValues → TwoEnded
outcome2 d c (Results x caps gone) = record { call = record { 0 = c }; outcome = EndsSo x; refs = new_refs d.state.rest.next_ref (map (node_at false) caps) }
outcome2 d c (Failure e) = record { call = record { 0 = c }; outcome = Fails e; refs = [] }

abbrev caps2 : TwoValues → List TwoNodes
caps2 (Results x caps gone) = caps
caps2 (Failure e) = []

abbrev report2 : TwoProgress → ℕ → TwoValues → TwoProgress
report2 d c w = end2 (in_state d (with_refs2 d.state (caps2 w))) (outcome2 d c w)

reports : (b : Bool) (d : TwoProgress) (c : ℕ) (w : TwoValues) → progress_at b (report2 d c w) ≡ report (progress_at b d) c (value_at b w)
reports b d c (Results x caps gone) =
    let a = refs_at b d.state caps in
    let e = map-append (ended_at b) d.effects.answers (outcome2 d c (Results x caps gone) ∷ []) in
    let f = sym (same_news d.state.rest.next_ref caps b) in
    (λ i. record (progress_at b d) { state = a i; effects = record (effects_at b d.effects) { answers = e i } })
    ∙ (λ i. record (progress_at b d) {
      state = with_refs (state_at b d.state) (map (node_at b) caps);
      effects = record (effects_at b d.effects) { answers = map (ended_at b) d.effects.answers ++ record (ended_at b (outcome2 d c (Results x caps gone))) { refs = f i } ∷ [] };
    })
reports b d c (Failure x) =
    let e = map-append (ended_at b) d.effects.answers (outcome2 d c (Failure x) ∷ []) in
    λ i. record (progress_at b d) { effects = record (effects_at b d.effects) { answers = e i } }

pub tells_call : (d : TwoProgress) (c : ℕ) (w : TwoValues) (o : Option OwnCall) (new : Progress)
    → TellsCall (progress_at false d) c (value_at false w) o new → Next2 new (TellsCall (progress_at true d) c (value_at true w) o)
tells_call d c w None new h = (d, h, refl)
tells_call d c w (Some from) new h = (report2 d c w, h ∙ sym (reports false d c w), reports true d c w)

-- What a Return says.
data TwoBodies : Type 0 where
  Plainly : ReturnBody → TwoBodies
  With : (x : TwoContents) (ds : List Descriptor) → EachLost SaysNone ds x.lost → TwoBodies
  Why : (Bool → Reason) → TwoBodies

abbrev body_at : Bool → TwoBodies → ReturnBody
body_at b (Plainly x) = x
body_at b (With x ds gone) = body.Results (x.at b) ds
body_at b (Why why) = body.Exception (failed (reason_text (why b)))

abbrev return2 : QuestionId → Bool → TwoBodies → TwoMessages
return2 a flag (Plainly x) = Same (return_saying a flag x)
return2 a flag (With x ds gone) = Give a flag x ds gone
return2 a flag (Why why) = ReturnsWhy a flag why

returned_so : (b : Bool) (a : QuestionId) (flag : Bool) (x : TwoBodies) → message_at b (return2 a flag x) ≡ return_saying a flag (body_at b x)
returned_so b a flag (Plainly x) = refl
returned_so b a flag (With x ds gone) = refl
returned_so b a flag (Why why) = refl

abbrev SaysBack2 : TwoStates → Bool → TwoValues → ReturnBody → List Descriptor → State → Type 0
SaysBack2 z b w said ds new =
    (x : TwoBodies) × (y : TwoStates) × (said ≡ body_at false x) × (new ≡ state_at false y) × SaysBack (state_at true z) b (value_at true w) (body_at true x) ds (state_at true y)

says_back : (z : TwoStates) (b : Bool) (w : TwoValues) (said : ReturnBody) (ds : List Descriptor) (new : State)
    → SaysBack (state_at false z) b (value_at false w) said ds new → SaysBack2 z b w said ds new
says_back z true w said ds new h = (Plainly body.Canceled, z, h.0, h.2, (refl, h.1, refl))
says_back z false (Failure (OneException e)) said ds new h = (Plainly (body.Exception e), z, h.0, h.2, (refl, h.1, refl))
says_back z false (Failure (SaysWhy why)) said ds new h = (Why why, z, h.0, h.2, (refl, h.1, refl))
says_back z false (Results x caps gone) said ds new h =
    let k = describes_all z caps ds new h.1 in
    (With x ds (λ i e. says_none (state_at true z) (state_at true k.0) caps ds k.2 i (gone i e)), k.0, h.0, k.1, (refl, k.2))

-- The answer's Return was sent.
abbrev returned2 : TwoStates → ℕ → AnswerEntry → List ℕ → TwoStates
returned2 z q a ids = record z { rest = record (z.rest) { answers = returned_map z.rest.answers q a a.finished ids } }

-- The answers stay as they are where a flag lets imports go.
answers_stay : (b : Bool) (z : TwoStates) (q : ℕ) (a : AnswerEntry) (ids more : List ℕ)
    → state_at b (returned2 (give2 z ids) q a more) ≡ returned (give_back (state_at b z) ids) q a more
answers_stay b z q a ids more = ap (λ (s : State). returned s q a more) (gives z b ids)

gives_return : (d : TwoProgress) (q : QuestionId) (a : AnswerEntry) (w : TwoValues) (new : Progress)
    → Returns (progress_at false d) q a (value_at false w) new → Next2 new (Returns (progress_at true d) q a (value_at true w))
gives_return d q a w new h =
    let k = h.4 in
    let ids = numbers a.taken in
    let says = says_back d.state a.finished w h.0 h.1 h.2 h.3 in
    let x = says.0 in
    let gone = collects k.0 (with_state (progress_at false d) h.2) (in_state d says.1) (ap (with_state (progress_at false d)) says.3) k.1 in
    let g = gone.0 in
    let flag = flag_for (state_at false g.state) ids in
    let after = returned2 (give2 g.state ids) q.0 a (given h.1) in
    let m = return2 q flag x in
    let so : (b : Bool) → progress_at b (send2 (in_state g after) m)
    ≡ send (with_state (progress_at b g) (returned (give_back (state_at b g.state) ids) q.0 a (given h.1))) (plain.Return (record { answer = q; release_param_caps = flag; body = body_at b x })) =
    λ b. sends b (in_state g after) m
    ∙ (λ i. record (progress_at b g) {
      state = answers_stay b g.state q.0 a ids (given h.1) i;
      effects = record (effects_at b g.effects) { sends = map (message_at b) g.effects.sends ++ returned_so b q flag x i ∷ [] };
    }) in (
      send2 (in_state g after) m,
      k.2
          ∙ (λ i. send (with_state (gone.1 i) (returned (give_back (gone.1 i).state ids) q.0 a (given h.1))) (plain.Return (record { answer = q; release_param_caps = flag_for (gone.1 i).state ids; body = says.2 i })))
          ∙ sym (so false),
      (
        body_at true x,
        h.1,
        state_at true says.1,
        says.4,
        (
          progress_at true g,
          gone.2,
          so true
              ∙ ap (λ (f : Bool). send (with_state (progress_at true g) (returned (give_back (state_at true g.state) ids) q.0 a (given h.1))) (plain.Return (record { answer = q; release_param_caps = f; body = body_at true x }))) (sym (same_flag g.state ids)),
        ),
      ),
    )

tells_peer : (d : TwoProgress) (q : QuestionId) (w : TwoValues) (o : Option AnswerEntry) (new : Progress)
    → TellsPeer (progress_at false d) q (value_at false w) o new → Next2 new (TellsPeer (progress_at true d) q (value_at true w) o)
tells_peer d q w None new h = absurd h
tells_peer d q w (Some a) new h = gives_return d q a w new h

tells : (d : TwoProgress) (who : Caller) (w : TwoValues) (new : Progress) → Tells (progress_at false d) who (value_at false w) new → Next2 new (Tells (progress_at true d) who (value_at true w))
tells d (caller.Application c) w new h = tells_call d c.0 w (finite.get d.state.rest.calls c.0) new h
tells d (caller.Peer q) w new h = tells_peer d q w (finite.get d.state.rest.answers q.0) new h

-- ---- Resolves

resolves_to : (d : TwoProgress) (e : ℕ) (m : Node) (new : Progress) → ResolvesTo (progress_at false d) e m new → Next2 new (ResolvesTo (progress_at true d) e m)
resolves_to d e m new h =
    let k = describes d.state (OneNode m) h.0 h.1 h.2 in
    let x = Same (message.Plain (resolve_message e (resolved.Cap h.0))) in (
      send2 (in_state d k.0) x,
      h.3 ∙ ap (λ (s : State). send (with_state (progress_at false d) s) (resolve_message e (resolved.Cap h.0))) k.1 ∙ sym (sends false (in_state d k.0) x),
      (h.0, state_at true k.0, k.2, sends true (in_state d k.0) x),
    )

-- Why a promise is broken is what it was rejected with, if it was.
abbrev why2 : ℕ → Option Exception → (Bool → Reason) → TwoMessages
why2 e None why = ResolvesWhy (export_id e) why
why2 e (Some told) why = Same (message.Plain (resolve_message e (resolved.Exception told)))

why_at : (b : Bool) (e : ℕ) (told : Option Exception) (why : Bool → Reason) → message_at b (why2 e told why) ≡ message.Plain (resolve_message e (resolved.Exception (or_failed told (why b))))
why_at b e None why = refl
why_at b e (Some told) why = refl

breaks : (d : TwoProgress) (e : ℕ) (told : Option Exception) (why : Bool → Reason) (new : Progress)
    → ResolvesBy (progress_at false d) e told (node.Broken (why false)) new → Next2 new (ResolvesBy (progress_at true d) e told (node.Broken (why true)))
breaks d e told why new h =
    let m = why2 e told why in
    let so : (b : Bool) → progress_at b (send2 d m) ≡ send (progress_at b d) (resolve_message e (resolved.Exception (or_failed told (why b)))) =
    λ b. sends b d m
    ∙ ap (λ (x : Message). record (progress_at b d) { effects = record (effects_at b d.effects) { sends = map (message_at b) d.effects.sends ++ x ∷ [] } }) (why_at b e told why) in
    (send2 d m, h ∙ sym (so false), so true)

resolves_by : (d : TwoProgress) (e : ℕ) (told : Option Exception) (m : TwoNodes) (new : Progress)
    → ResolvesBy (progress_at false d) e told (node_at false m) new → Next2 new (ResolvesBy (progress_at true d) e told (node_at true m))
resolves_by d e told (OneNode (node.Object o)) new h = resolves_to d e (node.Object o) new h
resolves_by d e told (OneNode (node.Promise p)) new h = resolves_to d e (node.Promise p) new h
resolves_by d e told (OneNode (node.Field o path)) new h = resolves_to d e (node.Field o path) new h
resolves_by d e told (OneNode (node.Import i)) new h = resolves_to d e (node.Import i) new h
resolves_by d e told (OneNode (node.Pipe q path)) new h = resolves_to d e (node.Pipe q path) new h
resolves_by d e told (OneNode (node.Broken reason)) new h = breaks d e told (λ b. reason) new h
resolves_by d e told (BothBroken why) new h = breaks d e told why new h

resolves_each : (d : TwoProgress) (told : Option Exception) (xs : List (ℕ × Node)) (new : Progress) → ResolvesEach (progress_at false d) told xs new → Next2 new (ResolvesEach (progress_at true d) told xs)
resolves_each d told [] new h = (d, h, refl)
resolves_each d told (x ∷ xs) new h =
    let m = OneNode x.1 in
    let k = resolves_by d x.0 told (settle2 d.state m) h.0 (subst (λ (n : Node). ResolvesBy (progress_at false d) x.0 told n h.0) (sym (settles false d.state m)) h.1) in
    let r = resolves_each k.0 told xs new (subst (λ (z : Progress). ResolvesEach z told xs new) k.1 h.2) in
    (r.0, r.1, (progress_at true k.0, subst (λ (n : Node). ResolvesBy (progress_at true d) x.0 told n (progress_at true k.0)) (settles true d.state m) k.2, r.2))

sends_resolves : (d : TwoProgress) (told : Option Exception) (test : Node → Bool) (new : Progress) → SendsResolves (progress_at false d) told test new → Next2 new (SendsResolves (progress_at true d) told test)
sends_resolves d told test new h = resolves_each d told (exports_where test (finite.entries d.state.rest.exports)) new h

-- ---- the whole

settles_open : (d : TwoProgress) (o : ℕ) (w : TwoValues) (x : TwoKept) (y : Option TwoValues) (new : Progress)
    → SettlesOpen (progress_at false d) o (value_at false w) (kept_at false x) (option_changed (value_at false) y) new
    → Next2 new (SettlesOpen (progress_at true d) o (value_at true w) (kept_at true x) (option_changed (value_at true) y))
settles_open d o w x (Some before) new h = absurd h
settles_open d o w x None new h =
    let t = h.3 in
    let r = t.2 in
    let f = fits d.state o x.caller x.waiting w h.0 h.1 h.2 in
    let fit = f.0 in
    let mid = f.1 in
    let at_f : known h.1 o x.caller (map (held_at false) x.waiting) h.0 ≡ state_at false (known2 mid o x.caller x.waiting fit) =
    (λ i. known (f.3 i) o x.caller (map (held_at false) x.waiting) (f.2 i)) ∙ sym (knows false mid o x.caller x.waiting fit) in
    let told = tells (in_state d (known2 mid o x.caller x.waiting fit)) x.caller fit t.0
    (subst (λ (v : Value). Tells (progress_at false (in_state d (known2 mid o x.caller x.waiting fit))) x.caller v t.0) f.2
    (subst (λ (s : State). Tells (with_state (progress_at false d) s) x.caller h.0 t.0) at_f t.1)) in
    let td = told.0 in
    let kept = known2 td.state o x.caller [] fit in
    let r_f : with_state t.0 (known t.0.state o x.caller [] h.0) ≡ progress_at false (in_state td kept) =
    (λ i. with_state (told.1 i) (known (told.1 i).state o x.caller [] (f.2 i))) ∙ sym (ap (with_state (progress_at false td)) (knows false td.state o x.caller [] fit)) in
    let routed = routes_held (in_state td kept) o x.waiting r.0 (subst (λ (z : Progress). RoutesHeld z o (map (held_at false) x.waiting) r.0) r_f r.1) in
    let last = sends_resolves routed.0 None (is_field o) new (subst (λ (z : Progress). SendsResolves z None (is_field o) new) routed.1 r.2) in (
      last.0,
      last.1,
      (
        value_at true fit,
        state_at true mid,
        f.4,
        (
          progress_at true td,
          subst (λ (s : State). Tells (with_state (progress_at true d) s) x.caller (value_at true fit) (progress_at true td)) (knows true mid o x.caller x.waiting fit) told.2,
          (
            progress_at true routed.0,
            subst (λ (s : State). RoutesHeld (with_state (progress_at true td) s) o (map (held_at true) x.waiting) (progress_at true routed.0)) (knows true td.state o x.caller [] fit) routed.2,
            last.2,
          ),
        ),
      ),
    )

settles_from : (d : TwoProgress) (o : ℕ) (w : TwoValues) (x : Option TwoKept) (new : Progress)
    → SettlesFrom (progress_at false d) o (value_at false w) (option_changed (kept_at false) x) new
    → Next2 new (SettlesFrom (progress_at true d) o (value_at true w) (option_changed (kept_at true) x))
settles_from d o w None new h = absurd h
settles_from d o w (Some x) new h = settles_open d o w x x.value new h

pub settles_outcome : (d : TwoProgress) (o : ℕ) (w : TwoValues) (new : Progress) → SettlesOutcome (progress_at false d) o (value_at false w) new → Next2 new (SettlesOutcome (progress_at true d) o (value_at true w))
settles_outcome d o w new h =
    let k = settles_from d o w (finite.get d.state.outcomes o) new (subst (λ (x : Option KeptOutcome). SettlesFrom (progress_at false d) o (value_at false w) x new) (get-map_values (kept_at false) d.state.outcomes o) h) in
    (k.0, k.1, subst (λ (x : Option KeptOutcome). SettlesFrom (progress_at true d) o (value_at true w) x (progress_at true k.0)) (sym (get-map_values (kept_at true) d.state.outcomes o)) k.2)

abbrev fixed2 : TwoProgress → ℕ → TwoNodes → TwoProgress
fixed2 d p to = in_state d (record (d.state) { promises = finite.insert d.state.promises p (Fixed to) })

fixes_from : (d : TwoProgress) (p : ℕ) (to : TwoNodes) (why : Option Exception) (x : Option TwoPromises) (new : Progress)
    → FixesFrom (progress_at false d) p (node_at false to) why (option_changed (promise_at false) x) new → Next2 new (FixesFrom (progress_at true d) p (node_at true to) why (option_changed (promise_at true) x))
fixes_from d p to why None new h = absurd h
fixes_from d p to why (Some (Fixed before)) new h = absurd h
fixes_from d p to why (Some (Open calls)) new h =
    let k = routes_all (fixed2 d p to) calls (OneNode (node.Promise p)) h.0
    (subst (λ (s : State). RoutesAll (with_state (progress_at false d) s) (map (waiting_at false) calls) (node.Promise p) h.0) (sym (put_promise false d.state p (Fixed to))) h.1) in
    let r = sends_resolves k.0 why (is_promise p) new (subst (λ (z : Progress). SendsResolves z why (is_promise p) new) k.1 h.2) in (
      r.0,
      r.1,
      (
        progress_at true k.0,
        subst (λ (s : State). RoutesAll (with_state (progress_at true d) s) (map (waiting_at true) calls) (node.Promise p) (progress_at true k.0)) (put_promise true d.state p (Fixed to)) k.2,
        r.2,
      ),
    )

pub fixes_promise : (d : TwoProgress) (p : ℕ) (to : TwoNodes) (why : Option Exception) (new : Progress) → FixesPromise (progress_at false d) p (node_at false to) why new → Next2 new (FixesPromise (progress_at true d) p (node_at true to) why)
fixes_promise d p to why new h =
    let k = fixes_from d p to why (finite.get d.state.promises p) new (subst (λ (x : Option Promise). FixesFrom (progress_at false d) p (node_at false to) why x new) (get-map_values (promise_at false) d.state.promises p) h) in
    (k.0, k.1, subst (λ (x : Option Promise). FixesFrom (progress_at true d) p (node_at true to) why x (progress_at true k.0)) (sym (get-map_values (promise_at true) d.state.promises p)) k.2)

-- ---- what arose

none_arisen : (b c : Bool) (xs : List (ℕ × TwoValues)) → map (arisen_at b) xs ≡ [] → map (arisen_at c) xs ≡ []
none_arisen b c [] e = refl
none_arisen b c (x ∷ xs) e = cc

-- The first that arose.
record FirstOf (xs : List (ℕ × TwoValues)) (o : ℕ) (w : Value) (rest : List (ℕ × Value)) : Type 0 where
  value : TwoValues
  others : List (ℕ × TwoValues)
  is : xs ≡ (o, value) ∷ others
  value_is : w ≡ value_at false value
  rest_is : rest ≡ map (arisen_at false) others

first_of : (xs : List (ℕ × TwoValues)) (o : ℕ) (w : Value) (rest : List (ℕ × Value)) → map (arisen_at false) xs ≡ (o, w) ∷ rest → FirstOf xs o w rest
first_of [] o w rest e = cc
first_of (x ∷ xs) o w rest e =
    let a : arisen_at false x ≡ (o, w) = cc in
    let r : map (arisen_at false) xs ≡ rest = cc in
    record { value = x.1; others = xs; is = ap (λ (k : ℕ). (k, x.1) ∷ xs) (ap (λ (y : ℕ × Value). y.0) a); value_is = sym (ap (λ (y : ℕ × Value). y.1) a); rest_is = sym r }

pub drains : (new at : Progress) (d : TwoProgress) → at ≡ progress_at false d → Drains new at → Next2 new (λ x. Drains x (progress_at true d))
drains new at d e (NoneLeft f) = (d, e, NoneLeft (none_arisen false true d.arisen (sym (ap (λ (z : Progress). z.arisen) e) ∙ f)))
drains new at d e (OneMore {mid = mid} o w rest f h more) =
    let x = first_of d.arisen o w rest (sym (ap (λ (z : Progress). z.arisen) e) ∙ f) in
    let d1 : TwoProgress = record d { arisen = x.others } in
    let k = settles_outcome d1 o x.value mid
    (subst (λ (v : Value). SettlesOutcome (progress_at false d1) o v mid) x.value_is
    (subst (λ (z : Progress). SettlesOutcome z o w mid) (λ i. record (e i) { arisen = x.rest_is i }) h)) in
    let r = drains new mid k.0 k.1 more in
    (r.0, r.1, OneMore o (value_at true x.value) (map (arisen_at true) x.others) (ap (map (arisen_at true)) x.is) k.2 r.2)
