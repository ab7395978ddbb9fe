-- The first act of a command is alike in both.
use Rattle.std.proofs.Common.{◌≡◌, ℕ, ◌+◌, Bool, true, false, List, [], ◌∷◌, ◌++◌, map, Option, None, Some, refl, sym, ap, subst, ◌∙◌}
use Rattle.std.specs.FinMap as finite
use Rattle.finite_maps.specs.Tally.{Map, option_changed}
use Rattle.finite_maps.proofs.Values.{get-map_values, map_values-insert}
use Rattle.rpc_msg.specs.Op.{Op}
use Rattle.rpc_msg.specs.declared.ids.RefId.{RefId}
use Rattle.rpc_msg.specs.declared.ids.EmbargoId.{EmbargoId}
use Rattle.rpc_msg.specs.declared.parts.Target.{Target}
use Rattle.rpc_msg.specs.declared.parts.Target.TheVariants.{ImportedCap, PromisedAnswer}
use Rattle.rpc_msg.specs.declared.exception.Exception.{Exception}
use Rattle.rpc_msg.specs.declared.message.PlainMessage.TheVariants as plain
use Rattle.rpc_msg.specs.declared.message.Message.TheVariants as message
use Rattle.rpc_machine.specs.declared.node.Node.{Node}
use Rattle.rpc_machine.specs.declared.node.Node.TheVariants as node
use Rattle.rpc_machine.specs.declared.node.Reason.TheVariants.{NullCapability, BrokenPromise}
use Rattle.rpc_machine.specs.declared.calls.Caller.{Caller}
use Rattle.rpc_machine.specs.declared.calls.Caller.TheVariants as caller
use Rattle.rpc_machine.specs.declared.calls.Promise.{Promise}
use Rattle.rpc_machine.specs.declared.calls.Request.{Request}
use Rattle.rpc_machine.specs.declared.calls.WaitingCall.{WaitingCall}
use Rattle.rpc_machine.specs.declared.calls.Value.TheVariants as value
use Rattle.rpc_machine.specs.declared.calls.OwnCall.{OwnCall}
use Rattle.rpc_machine.specs.declared.calls.OwnCall.TheVariants as own
use Rattle.rpc_machine.specs.declared.command.CallCommand.{CallCommand}
use Rattle.rpc_machine.specs.declared.command.Command.{Command}
use Rattle.rpc_machine.specs.declared.command.Command.TheVariants as command
use Rattle.rpc_machine.specs.declared.command.Granted.{Granted}
use Rattle.rpc_machine.specs.declared.entries.Question.{Question}
use Rattle.rpc_machine.specs.declared.entries.Reference.{Reference}
use Rattle.rpc_machine.specs.declared.entries.Role.TheVariants as role
use Rattle.rpc_machine.specs.declared.entries.Finishing.TheVariants as finishing
use Rattle.rpc_machine.specs.declared.entries.Embargo.{Embargo}
use Rattle.rpc_machine.specs.State.{State}
use Rattle.rpc_machine.specs.Progress.{Progress, with_state, send, with_refs}
use Rattle.rpc_machine.specs.Routing.{Routes}
use Rattle.rpc_machine.specs.Advancing.{Advances}
use Rattle.rpc_machine.specs.Commands.{counted, head_of, heads, NewRef, ClonesRef, with_outcome, AsksBootstrap, request, CallsDirect, kept, CallsHere, CallsBy, WaitsForEmbargo, CallsThrough, MakesCall, field_node, NamesField, MakesPromise, ResolvesPromise, RejectsPromise, AnswersTask, FinishesCall, DropsRef, Acts}
use Rattle.laws_wired.specs.Pairs.{TwoNodes, OneNode, BothBroken, OneException, IsBroken, TwoReferences, node_at, reference_at, TwoRequests, TwoWaiting, TwoValues, Results, Failure, Open, TwoQuestions, TwoEmbargoes, TwoStates, Same, request_at, waiting_at, value_at, promise_at, kept_at, question_at, embargo_at, state_at}
use Rattle.laws_wired.proofs.Contents.{whole_contents, none_is_lost}
use Rattle.laws_wired.proofs.Settles.{map-append, settle2, settles}
use Rattle.laws_wired.proofs.Going.{TwoProgress, progress_at, Next2, in_state, send2, sends, put_outcome, put_embargo, cut_ref, with_refs2, refs_at, free_in}
use Rattle.laws_wired.proofs.Routed.{asks, routes}
use Rattle.laws_wired.proofs.Settled.{fixes_promise, settles_outcome}
use Rattle.laws_wired.proofs.Advanced.{advances}

-- ---- small ones

abbrev head_of2 : Option TwoReferences → TwoNodes
head_of2 None = OneNode (node.Broken NullCapability)
head_of2 (Some x) = x.head

abbrev pub heads2 : TwoStates → List RefId → List TwoNodes
heads2 z [] = []
heads2 z (r ∷ rs) = head_of2 (finite.get z.refs r.0) ∷ heads2 z rs

head_so : (b : Bool) (o : Option TwoReferences) → node_at b (head_of2 o) ≡ head_of (option_changed (reference_at b) o)
head_so b None = refl
head_so b (Some x) = refl

pub heads_at : (b : Bool) (z : TwoStates) (rs : List RefId) → heads (state_at b z) rs ≡ map (node_at b) (heads2 z rs)
heads_at b z [] = refl
heads_at b z (r ∷ rs) =
    let a = ap head_of (get-map_values (reference_at b) z.refs r.0) ∙ sym (head_so b (finite.get z.refs r.0)) in
    let c = heads_at b z rs in
    λ i. a i ∷ c i

abbrev pub with_outcome2 : TwoStates → ℕ → Caller → TwoStates
with_outcome2 z o who = record z { outcomes = finite.insert z.outcomes o (record { caller = who; value = None; waiting = [] }) }

pub opens : (b : Bool) (z : TwoStates) (o : ℕ) (who : Caller) → state_at b (with_outcome2 z o who) ≡ with_outcome (state_at b z) o who
opens b z o who = put_outcome b z o (record { caller = who; value = None; waiting = [] })

abbrev kept2 : TwoProgress → ℕ → ℕ → TwoProgress
kept2 d c o =
    let z = with_outcome2 d.state o (caller.Application (record { 0 = c })) in
    in_state d (record z { rest = record (z.rest) { calls = finite.insert z.rest.calls c (own.Kept o) } })

keeps : (b : Bool) (d : TwoProgress) (c o : ℕ) → progress_at b (kept2 d c o) ≡ kept (progress_at b d) c o
keeps b d c o =
    ap (λ (s : State). with_state (progress_at b d) (record s { calls = finite.insert d.state.rest.calls c (own.Kept o) })) (opens b d.state o (caller.Application (record { 0 = c })))

new_ref : (g : Granted) (d : TwoProgress) (m : TwoNodes) (new : Progress) → NewRef g (progress_at false d) (node_at false m) new → Next2 new (NewRef g (progress_at true d) (node_at true m))
new_ref g d m new h = (
  in_state d (with_refs2 d.state (m ∷ [])),
  h.1 ∙ sym (ap (with_state (progress_at false d)) (refs_at false d.state (m ∷ []))),
  (h.0, ap (with_state (progress_at true d)) (refs_at true d.state (m ∷ []))),
)

clones : (d : TwoProgress) (o : Option TwoReferences) (g : Granted) (new : Progress)
    → ClonesRef (progress_at false d) (option_changed (reference_at false) o) g new → Next2 new (ClonesRef (progress_at true d) (option_changed (reference_at true) o) g)
clones d None g new h = absurd h
clones d (Some x) g new h = new_ref g d x.head new h

drops : (d : TwoProgress) (r : ℕ) (o : Option TwoReferences) (g : Granted) (new : Progress)
    → DropsRef (progress_at false d) r (option_changed (reference_at false) o) g new → Next2 new (DropsRef (progress_at true d) r (option_changed (reference_at true) o) g)
drops d r None g new h = absurd h
drops d r (Some x) g new h = (
  in_state d (record (d.state) { refs = finite.remove d.state.refs r }),
  h.1 ∙ sym (ap (with_state (progress_at false d)) (cut_ref false d.state r)),
  (h.0, ap (with_state (progress_at true d)) (cut_ref true d.state r)),
)

-- By the reference with that number.
at_ref : (r : ℕ) (d : TwoProgress) (new : Progress) (Of : Bool → Option Reference → Progress → Type 0)
    → ((o : Option TwoReferences) → Of false (option_changed (reference_at false) o) new → Next2 new (Of true (option_changed (reference_at true) o)))
    → Of false (finite.get (state_at false d.state).refs r) new → Next2 new (Of true (finite.get (state_at true d.state).refs r))
at_ref r d new Of go h =
    let k = go (finite.get d.state.refs r) (subst (λ (o : Option Reference). Of false o new) (get-map_values (reference_at false) d.state.refs r) h) in
    (k.0, k.1, subst (λ (o : Option Reference). Of true o (progress_at true k.0)) (sym (get-map_values (reference_at true) d.state.refs r)) k.2)

finishes : (d : TwoProgress) (c : ℕ) (o : Option OwnCall) (g : Granted) (new : Progress) → FinishesCall (progress_at false d) c o g new → Next2 new (FinishesCall (progress_at true d) c o g)
finishes d c None g new h = absurd h
finishes d c (Some from) g new h = (in_state d (record (d.state) { rest = record (d.state.rest) { calls = finite.remove d.state.rest.calls c } }), h.1, (h.0, refl))

names_field : (d : TwoProgress) (path : List Op) (o : Option OwnCall) (g : Granted) (new : Progress) → NamesField (progress_at false d) path o g new → Next2 new (NamesField (progress_at true d) path o g)
names_field d path None g new h = absurd h
names_field d path (Some from) g new h = new_ref g d (OneNode (field_node path from)) new h

asks_bootstrap : (d : TwoProgress) (g : Granted) (new : Progress) → AsksBootstrap (progress_at false d) g new → Next2 new (AsksBootstrap (progress_at true d) g)
asks_bootstrap d g new h =
    let z = d.state in
    let q = h.0 in
    let x : TwoQuestions = record { role = role.Direct (record { 0 = z.rest.next_call }); given = []; returned = None; finish = finishing.Owed } in
    let calls = finite.insert z.rest.calls z.rest.next_call (own.Direct (record { 0 = q })) in
    let said = plain.Bootstrap (record { 0 = q }) in
    let after : TwoStates = record z { rest = record (z.rest) { calls = calls; next_call = z.rest.next_call + 1 }; questions = finite.insert z.questions q x } in
    let m = Same (message.Plain said) in
    let so : (b : Bool) → progress_at b (send2 (in_state d after) m)
    ≡ send (with_state (progress_at b d) (record (state_at b z) { questions = finite.insert (state_at b z).questions q (question_at b x); calls = calls; next_call = z.rest.next_call + 1 })) said =
    λ b. sends b (in_state d after) m
    ∙ ap (λ (qs : Map Question). send (with_state (progress_at b d) (record (state_at b z) { questions = qs; calls = calls; next_call = z.rest.next_call + 1 })) said) (map_values-insert (question_at b) z.questions q x) in
    (send2 (in_state d after) m, h.3 ∙ sym (so false), (q, free_in (question_at false) (question_at true) z.questions q h.1, h.2, so true))

makes_promise : (d : TwoProgress) (g : Granted) (new : Progress) → MakesPromise (progress_at false d) g new → Next2 new (MakesPromise (progress_at true d) g)
makes_promise d g new h =
    let z = d.state in
    let p = h.0 in
    let unsettled = finite.insert z.rest.unsettled z.rest.next_promise p in
    let mid : TwoStates = record z { rest = record (z.rest) { unsettled = unsettled; next_promise = z.rest.next_promise + 1 }; promises = finite.insert z.promises p (Open []) } in
    let own = OneNode (node.Promise p) ∷ [] in
    let so : (b : Bool) → progress_at b (in_state d (with_refs2 mid own))
    ≡ with_state (progress_at b d) (with_refs
    (record (state_at b z) { promises = finite.insert (state_at b z).promises p (promise_at b (Open [])); unsettled = unsettled; next_promise = z.rest.next_promise + 1 })
    (node.Promise p ∷ [])) =
    λ b. ap (with_state (progress_at b d)) (refs_at b mid own)
    ∙ ap (λ (ps : Map Promise). with_state (progress_at b d) (with_refs
    (record (state_at b z) { promises = ps; unsettled = unsettled; next_promise = z.rest.next_promise + 1 })
    (node.Promise p ∷ [])))
    (map_values-insert (promise_at b) z.promises p (Open [])) in
    (in_state d (with_refs2 mid own), h.3 ∙ sym (so false), (p, free_in (promise_at false) (promise_at true) z.promises p h.1, h.2, so true))

-- ---- call

direct : (d : TwoProgress) (c : ℕ) (r : TwoRequests) (t : Target) (new : Progress) → CallsDirect (progress_at false d) c (request_at false r) t new → Next2 new (CallsDirect (progress_at true d) c (request_at true r) t)
direct d c r t new h =
    let d1 = in_state d (record (d.state) { rest = record (d.state.rest) { calls = finite.insert d.state.rest.calls c (own.Direct (record { 0 = h.0 })) } }) in
    let k = asks d1 h.0 (role.Direct (record { 0 = c })) t r new h.1 in
    (k.0, k.1, (h.0, k.2))

here : (d : TwoProgress) (c : ℕ) (r : TwoRequests) (m : TwoNodes) (new : Progress)
    → CallsHere (progress_at false d) c (request_at false r) (node_at false m) new → Next2 new (CallsHere (progress_at true d) c (request_at true r) (node_at true m))
here d c r m new h =
    let w : TwoWaiting = record { request = r; outcome = h.0 } in
    let k = routes (kept2 d c h.0) w m new (subst (λ (x : Progress). Routes x (waiting_at false w) (node_at false m) new) (sym (keeps false d c h.0)) h.2) in (
      k.0,
      k.1,
      (h.0, free_in (kept_at false) (kept_at true) d.state.outcomes h.0 h.1, subst (λ (x : Progress). Routes x (waiting_at true w) (node_at true m) (progress_at true k.0)) (keeps true d c h.0) k.2),
    )

by : (d : TwoProgress) (c : ℕ) (r : TwoRequests) (head m : TwoNodes) (new : Progress)
    → CallsBy (progress_at false d) c (request_at false r) (node_at false head) (node_at false m) new
    → Next2 new (CallsBy (progress_at true d) c (request_at true r) (node_at true head) (node_at true m))
by d c r head (OneNode (node.Object o)) new h = here d c r head new h
by d c r head (OneNode (node.Promise p)) new h = here d c r head new h
by d c r head (OneNode (node.Field o path)) new h = here d c r head new h
by d c r head (OneNode (node.Import e)) new h = direct d c r (ImportedCap e) new h
by d c r head (OneNode (node.Pipe q path)) new h = direct d c r (PromisedAnswer q path) new h
by d c r head (OneNode (node.Broken reason)) new h = here d c r head new h
by d c r head (BothBroken why) new h = here d c r head new h

abbrev wait_embargo : TwoProgress → TwoWaiting → ℕ → TwoEmbargoes → TwoProgress
wait_embargo d w e x = in_state d (record (d.state) { embargoes = finite.insert d.state.embargoes e (record x { waiting = x.waiting ++ w ∷ [] }) })

waits_so : (b : Bool) (d : TwoProgress) (w : TwoWaiting) (e : ℕ) (x : TwoEmbargoes)
    → progress_at b (wait_embargo d w e x)
    ≡ with_state (progress_at b d) (record (state_at b d.state) { embargoes = finite.insert (state_at b d.state).embargoes e (record (embargo_at b x) { waiting = map (waiting_at b) x.waiting ++ waiting_at b w ∷ [] }) })
waits_so b d w e x =
    ap (with_state (progress_at b d))
    (put_embargo b d.state e (record x { waiting = x.waiting ++ w ∷ [] })
    ∙ ap (λ (cs : List WaitingCall). record (state_at b d.state) { embargoes = finite.insert (state_at b d.state).embargoes e (record (embargo_at b x) { waiting = cs }) })
    (map-append (waiting_at b) x.waiting (w ∷ [])))

waits_for_embargo : (d : TwoProgress) (w : TwoWaiting) (e : ℕ) (o : Option TwoEmbargoes) (new : Progress)
    → WaitsForEmbargo (progress_at false d) (waiting_at false w) e (option_changed (embargo_at false) o) new → Next2 new (WaitsForEmbargo (progress_at true d) (waiting_at true w) e (option_changed (embargo_at true) o))
waits_for_embargo d w e None new h = absurd h
waits_for_embargo d w e (Some x) new h = (wait_embargo d w e x, h ∙ sym (waits_so false d w e x), waits_so true d w e x)

through : (d : TwoProgress) (c : ℕ) (r : TwoRequests) (head : TwoNodes) (o : Option EmbargoId) (new : Progress)
    → CallsThrough (progress_at false d) c (request_at false r) (node_at false head) o new → Next2 new (CallsThrough (progress_at true d) c (request_at true r) (node_at true head) o)
through d c r head None new h =
    let k = by d c r head (settle2 d.state head) new (subst (λ (m : Node). CallsBy (progress_at false d) c (request_at false r) (node_at false head) m new) (sym (settles false d.state head)) h) in
    (k.0, k.1, subst (λ (m : Node). CallsBy (progress_at true d) c (request_at true r) (node_at true head) m (progress_at true k.0)) (settles true d.state head) k.2)
through d c r head (Some e) new h =
    let w : TwoWaiting = record { request = r; outcome = h.0 } in
    let d1 = kept2 d c h.0 in
    let k = waits_for_embargo d1 w e.0 (finite.get d.state.embargoes e.0) new
    (subst (λ (x : Option Embargo). WaitsForEmbargo (progress_at false d1) (waiting_at false w) e.0 x new) (get-map_values (embargo_at false) d.state.embargoes e.0)
    (subst (λ (x : Progress). WaitsForEmbargo x (waiting_at false w) e.0 (finite.get (state_at false d.state).embargoes e.0) new) (sym (keeps false d c h.0)) h.2)) in (
      k.0,
      k.1,
      (
        h.0,
        free_in (kept_at false) (kept_at true) d.state.outcomes h.0 h.1,
        subst (λ (x : Progress). WaitsForEmbargo x (waiting_at true w) e.0 (finite.get (state_at true d.state).embargoes e.0) (progress_at true k.0)) (keeps true d c h.0)
            (subst (λ (x : Option Embargo). WaitsForEmbargo (progress_at true d1) (waiting_at true w) e.0 x (progress_at true k.0)) (sym (get-map_values (embargo_at true) d.state.embargoes e.0)) k.2),
      ),
    )

-- An own call is the same in both.
abbrev made2 : TwoStates → CallCommand → TwoReferences → TwoRequests
made2 z c x = record {
  stamp = λ b. record { vat = z.vat b; reference = c.reference; index = x.made };
  interface = c.interface;
  method = c.method;
  payload = whole_contents c.payload;
  caps = heads2 z c.refs;
  gone = none_is_lost IsBroken (heads2 z c.refs);
}

made_so : (b : Bool) (z : TwoStates) (c : CallCommand) (x : TwoReferences) → request_at b (made2 z c x) ≡ request (state_at b z) c (reference_at b x)
made_so b z c x = ap (λ (ms : List Node). record (request_at b (made2 z c x)) { caps = ms }) (sym (heads_at b z c.refs))

abbrev counted2 : TwoStates → ℕ → TwoReferences → TwoStates
counted2 z r x = record z { rest = record (z.rest) { next_call = z.rest.next_call + 1 }; refs = finite.insert z.refs r (record x { made = x.made + 1 }) }

counts : (b : Bool) (z : TwoStates) (r : ℕ) (x : TwoReferences) → state_at b (counted2 z r x) ≡ counted (state_at b z) r (reference_at b x)
counts b z r x =
    ap (λ (m : Map Reference). record (state_at b z) { refs = m; next_call = z.rest.next_call + 1 }) (map_values-insert (reference_at b) z.refs r (record x { made = x.made + 1 }))

makes_call : (d : TwoProgress) (c : CallCommand) (o : Option TwoReferences) (g : Granted) (new : Progress)
    → MakesCall (progress_at false d) c (option_changed (reference_at false) o) g new → Next2 new (MakesCall (progress_at true d) c (option_changed (reference_at true) o) g)
makes_call d c None g new h = absurd h
makes_call d c (Some x) g new h =
    let n = d.state.rest.next_call in
    let d1 = in_state d (counted2 d.state c.reference.0 x) in
    let so : (b : Bool) → progress_at b d1 ≡ with_state (progress_at b d) (counted (state_at b d.state) c.reference.0 (reference_at b x)) =
    λ b. ap (with_state (progress_at b d)) (counts b d.state c.reference.0 x) in
    let k = through d1 n (made2 d.state c x) x.head x.embargo new
    (subst (λ (y : Progress). CallsThrough y n (request_at false (made2 d.state c x)) (node_at false x.head) x.embargo new) (sym (so false))
    (subst (λ (r : Request). CallsThrough (with_state (progress_at false d) (counted (state_at false d.state) c.reference.0 (reference_at false x))) n r (node_at false x.head) x.embargo new) (sym (made_so false d.state c x)) h.1)) in (
      k.0,
      k.1,
      (
        h.0,
        subst (λ (r : Request). CallsThrough (with_state (progress_at true d) (counted (state_at true d.state) c.reference.0 (reference_at true x))) n r (node_at true x.head) x.embargo (progress_at true k.0)) (made_so true d.state c x)
            (subst (λ (y : Progress). CallsThrough y n (request_at true (made2 d.state c x)) (node_at true x.head) x.embargo (progress_at true k.0)) (so true) k.2),
      ),
    )

-- ---- what settles

resolves : (d : TwoProgress) (p : ℕ) (o : Option ℕ) (x : Option TwoReferences) (g : Granted) (new : Progress)
    → ResolvesPromise (progress_at false d) p o (option_changed (reference_at false) x) g new → Next2 new (ResolvesPromise (progress_at true d) p o (option_changed (reference_at true) x) g)
resolves d p None x g new h = absurd h
resolves d p (Some key) None g new h = absurd h
resolves d p (Some key) (Some x) g new h =
    let d1 = in_state d (record (d.state) { rest = record (d.state.rest) { unsettled = finite.remove d.state.rest.unsettled p } }) in
    let k = fixes_promise d1 key x.head None new h.1 in
    (k.0, k.1, (h.0, k.2))

rejects : (d : TwoProgress) (p : ℕ) (why : Exception) (o : Option ℕ) (g : Granted) (new : Progress)
    → RejectsPromise (progress_at false d) p why o g new → Next2 new (RejectsPromise (progress_at true d) p why o g)
rejects d p why None g new h = absurd h
rejects d p why (Some key) g new h =
    let d1 = in_state d (record (d.state) { rest = record (d.state.rest) { unsettled = finite.remove d.state.rest.unsettled p } }) in
    let k = fixes_promise d1 key (OneNode (node.Broken BrokenPromise)) (Some why) new h.1 in
    (k.0, k.1, (h.0, k.2))

answers : (d : TwoProgress) (t : ℕ) (w : TwoValues) (o : Option ℕ) (g : Granted) (new : Progress)
    → AnswersTask (progress_at false d) t (value_at false w) o g new → Next2 new (AnswersTask (progress_at true d) t (value_at true w) o g)
answers d t w None g new h = absurd h
answers d t w (Some o) g new h =
    let d1 = in_state d (record (d.state) { rest = record (d.state.rest) { tasks = finite.remove d.state.rest.tasks t } }) in
    let k = settles_outcome d1 o w new h.1 in
    (k.0, k.1, (h.0, k.2))

-- ---- all

pub acts : (d : TwoProgress) (c : Command) (g : Granted) (new : Progress) → Acts (progress_at false d) c g new → Next2 new (Acts (progress_at true d) c g)
acts d (command.Host o) g new h = new_ref g d (OneNode (node.Object o)) new h
acts d (command.CloneRef r) g new h = at_ref r.0 d new (λ b o y. ClonesRef (progress_at b d) o g y) (λ o. clones d o g new) h
acts d (command.DropRef r) g new h = at_ref r.0 d new (λ b o y. DropsRef (progress_at b d) r.0 o g y) (λ o. drops d r.0 o g new) h
acts d command.Bootstrap g new h = asks_bootstrap d g new h
acts d (command.Call c) g new h = at_ref c.reference.0 d new (λ b o y. MakesCall (progress_at b d) c o g y) (λ o. makes_call d c o g new) h
acts d (command.Field c path) g new h = names_field d path (finite.get d.state.rest.calls c.0) g new h
acts d command.Promise g new h = makes_promise d g new h
acts d (command.Resolve p r) g new h =
    let key = finite.get d.state.rest.unsettled p.0 in
    at_ref r.0 d new (λ b o y. ResolvesPromise (progress_at b d) p.0 key o g y) (λ o. resolves d p.0 key o g new) h
acts d (command.Reject p e) g new h = rejects d p.0 e (finite.get d.state.rest.unsettled p.0) g new h
acts d (command.Answer t p refs) g new h =
    let o = finite.get d.state.rest.tasks t.0 in
    let caps = heads2 d.state refs in
    let w = Results (whole_contents p) caps (none_is_lost IsBroken caps) in
    let k = answers d t.0 w o g new (subst (λ (ms : List Node). AnswersTask (progress_at false d) t.0 (value.Results p ms) o g new) (heads_at false d.state refs) h) in
    (k.0, k.1, subst (λ (ms : List Node). AnswersTask (progress_at true d) t.0 (value.Results p ms) o g (progress_at true k.0)) (sym (heads_at true d.state refs)) k.2)
acts d (command.Fail t e) g new h = answers d t.0 (Failure (OneException e)) (finite.get d.state.rest.tasks t.0) g new h
acts d (command.Finish c) g new h = finishes d c.0 (finite.get d.state.rest.calls c.0) g new h
acts d (command.Advance r) g new h = at_ref r.0 d new (λ b o y. Advances (progress_at b d) r.0 o g y) (λ o. advances d r.0 o g new) h
acts d (command.Shut k) g new h = absurd h
