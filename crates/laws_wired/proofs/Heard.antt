-- The first act of a message is alike in both.
use Rattle.std.proofs.Common.{◌≡◌, ℕ, zero, suc, ◌+◌, Bool, true, false, List, [], ◌∷◌, map, Option, None, Some, refl, sym, ap, subst, ◌∙◌}
use Rattle.std.specs.FinMap as finite
use Rattle.std.specs.Prelude.{codes}
use Rattle.finite_maps.specs.Tally.{Map, map_values, option_changed}
use Rattle.finite_maps.proofs.Values.{get-map_values, map_values-insert, map_values-remove}
use Rattle.rpc_msg.specs.Payloads.{root_payload}
use Rattle.rpc_msg.specs.declared.ids.EmbargoId.{EmbargoId}
use Rattle.rpc_msg.specs.declared.ids.ExportId.{ExportId}
use Rattle.rpc_msg.specs.declared.ids.ObjectId.{ObjectId}
use Rattle.rpc_msg.specs.declared.ids.QuestionId.{QuestionId}
use Rattle.rpc_msg.specs.declared.ids.Stamp.{Stamp}
use Rattle.rpc_msg.specs.declared.parts.Descriptor.{Descriptor}
use Rattle.rpc_msg.specs.declared.parts.Descriptor.TheVariants as descriptor
use Rattle.rpc_msg.specs.declared.parts.Target.{Target}
use Rattle.rpc_msg.specs.declared.message.Call.{Call}
use Rattle.rpc_msg.specs.declared.message.Return.{Return}
use Rattle.rpc_msg.specs.declared.message.ReturnBody.{ReturnBody}
use Rattle.rpc_msg.specs.declared.message.ReturnBody.TheVariants as body
use Rattle.rpc_msg.specs.declared.message.ResolvedTo.{ResolvedTo}
use Rattle.rpc_msg.specs.declared.message.ResolvedTo.TheVariants as resolved
use Rattle.rpc_msg.specs.declared.message.DisembargoContext.{DisembargoContext}
use Rattle.rpc_msg.specs.declared.message.DisembargoContext.TheVariants.{SenderLoopback, ReceiverLoopback}
use Rattle.rpc_msg.specs.declared.message.PlainMessage.{PlainMessage}
use Rattle.rpc_msg.specs.declared.message.PlainMessage.TheVariants as plain
use Rattle.rpc_msg.specs.declared.message.Message.TheVariants as message
use Rattle.rpc_msg.specs.Messages.{descriptors_of_body}
use Rattle.rpc_machine.specs.declared.command.Level.{Level}
use Rattle.rpc_machine.specs.declared.command.Level.TheVariants.{Zero, One}
use Rattle.rpc_machine.specs.declared.node.Node.{Node}
use Rattle.rpc_machine.specs.declared.node.Node.TheVariants as node
use Rattle.rpc_machine.specs.declared.node.Reason.{Reason}
use Rattle.rpc_machine.specs.declared.node.Reason.TheVariants.{NullCapability}
use Rattle.rpc_machine.specs.declared.calls.Request.{Request}
use Rattle.rpc_machine.specs.declared.calls.Value.{Value}
use Rattle.rpc_machine.specs.declared.calls.Value.TheVariants as value
use Rattle.rpc_machine.specs.declared.calls.Caller.TheVariants as caller
use Rattle.rpc_machine.specs.declared.entries.Role.{Role}
use Rattle.rpc_machine.specs.declared.entries.Role.TheVariants as role
use Rattle.rpc_machine.specs.declared.entries.Finishing.{Finishing}
use Rattle.rpc_machine.specs.declared.entries.Finishing.TheVariants as finishing
use Rattle.rpc_machine.specs.declared.entries.Returned.{Returned}
use Rattle.rpc_machine.specs.declared.entries.Returned.TheVariants as back
use Rattle.rpc_machine.specs.declared.entries.Resolution.TheVariants as resolution
use Rattle.rpc_machine.specs.declared.entries.Question.{Question}
use Rattle.rpc_machine.specs.declared.entries.AnswerEntry.{AnswerEntry}
use Rattle.rpc_machine.specs.declared.entries.Import.{Import}
use Rattle.rpc_machine.specs.declared.entries.SenderKind.{SenderKind}
use Rattle.rpc_machine.specs.declared.entries.SenderKind.TheVariants as kind
use Rattle.rpc_machine.specs.declared.entries.Embargo.{Embargo}
use Rattle.rpc_machine.specs.State.{State}
use Rattle.rpc_machine.specs.Lists.{updated, update}
use Rattle.rpc_machine.specs.Nodes.{settle}
use Rattle.rpc_machine.specs.Progress.{Progress, with_state, export_ids, numbers}
use Rattle.rpc_machine.specs.Flags.{lower_by, obey}
use Rattle.rpc_machine.specs.Descriptors.{received, import_one, read, read_one, read_at, read_all, read_beside, take_one, take_each, take_at, take_all, taken_of}
use Rattle.rpc_machine.specs.Routing.{Routes, RoutesAll, failed, reason_text}
use Rattle.rpc_machine.specs.Places.{nodes}
use Rattle.rpc_msg.specs.declared.exception.ExceptionKind.TheVariants as exception_kind
use Rattle.rpc_machine.specs.Settling.{SettlesOutcome}
use Rattle.rpc_machine.specs.Faults.{target_node, gave, given_by, is_foreign}
use Rattle.rpc_machine.specs.Advancing.{wire_target}
use Rattle.rpc_machine.specs.Messages.{opened, bootstrap_value, TakesBootstrap, received_request, TakesCall, results_of, value_of_results, ComesFor, kept_returned, ComesBack, TakesReturn, waived, TakesEchoed, finished_map, TakesFinish, set_resolution, resolve_import, take_resolve, Bounces, unembargoed, Lifts, TakesDisembargo, TakesPlain, TakesUnimplemented, TakesUnless, Takes}
use Rattle.laws_wired.specs.Contents.{SaysNone, HoldsAt, EachLost}
use Rattle.laws_wired.specs.Pairs.{TwoContents, OneNode, IsBroken, TwoExceptions, OneException, SaysWhy, IsAbsent, TwoReferences, TwoResolutions, LedTo, Broke, TwoImports, node_at, exception_at, reference_at, resolution_at, import_at, resolve_saying, ReturnsWhy, ResolvesWhy, SendsBack, TwoRequests, TwoWaiting, TwoValues, Results, Failure, TwoReturned, Gave, Failed, TwoQuestions, TwoEmbargoes, TwoStates, TwoMessages, Same, Calls, Returns, request_at, waiting_at, value_at, kept_at, returned_at, question_at, embargo_at, state_at, message_at}
use Rattle.laws_wired.proofs.Contents.{whole_contents, none_is_lost}
use Rattle.laws_wired.proofs.Settles.{same_settled}
use Rattle.laws_wired.proofs.Going.{TwoProgress, progress_at, Next2, in_state, send2, arise2, sends, arises_so, put_question, cut_question, put_import, free_in}
use Rattle.laws_wired.proofs.Routed.{routes, routes_all}
use Rattle.laws_wired.proofs.Settled.{tells_call, settles_outcome}
use Rattle.laws_wired.proofs.Commanded.{with_outcome2, opens}
use Rattle.laws_wired.proofs.Faulted.{same_target}

-- ---- what is read and taken

abbrev received2 : SenderKind → Option TwoImports → TwoImports
received2 k None = record { kind = k; count = 1; resolution = None }
received2 k (Some x) = record x { count = x.count + 1 }

abbrev import_one2 : TwoStates → SenderKind → ℕ → TwoStates
import_one2 z k e = record z { imports = finite.insert z.imports e (received2 k (finite.get z.imports e)) }

abbrev take_one2 : TwoStates → Descriptor → TwoStates
take_one2 z descriptor.None = z
take_one2 z (descriptor.SenderHosted e) = import_one2 z kind.Hosted e.0
take_one2 z (descriptor.SenderPromise e) = import_one2 z kind.Promise e.0
take_one2 z (descriptor.ReceiverHosted e) = z
take_one2 z (descriptor.ReceiverAnswer q path) = z

abbrev take_each2 : TwoStates → List Descriptor → TwoStates
take_each2 z [] = z
take_each2 z (d ∷ ds) = take_each2 (take_one2 z d) ds

abbrev take_at2 : Level → TwoStates → List Descriptor → TwoStates
take_at2 Zero z ds = z
take_at2 One z ds = take_each2 z ds

abbrev take_all2 : TwoStates → List Descriptor → TwoStates
take_all2 z ds = take_at2 z.rest.level z ds

module _ (b : Bool) where
  received_so : (k : SenderKind) (o : Option TwoImports) → import_at b (received2 k o) ≡ received k (option_changed (import_at b) o)
  received_so k None = refl
  received_so k (Some x) = refl

  imports_one : (z : TwoStates) (k : SenderKind) (e : ℕ) → import_one (state_at b z) k e ≡ state_at b (import_one2 z k e)
  imports_one z k e =
      let x = received2 k (finite.get z.imports e) in
      ap (λ (y : Import). record (state_at b z) { imports = finite.insert (state_at b z).imports e y }) (ap (received k) (get-map_values (import_at b) z.imports e) ∙ sym (received_so k (finite.get z.imports e)))
      ∙ sym (put_import b z e x)

  take_one_at : (z : TwoStates) (d : Descriptor) → take_one (state_at b z) d ≡ state_at b (take_one2 z d)
  take_one_at z descriptor.None = refl
  take_one_at z (descriptor.SenderHosted e) = imports_one z kind.Hosted e.0
  take_one_at z (descriptor.SenderPromise e) = imports_one z kind.Promise e.0
  take_one_at z (descriptor.ReceiverHosted e) = refl
  take_one_at z (descriptor.ReceiverAnswer q path) = refl

  take_each_at : (z : TwoStates) (ds : List Descriptor) → take_each (state_at b z) ds ≡ state_at b (take_each2 z ds)
  take_each_at z [] = refl
  take_each_at z (d ∷ ds) = ap (λ (s : State). take_each s ds) (take_one_at z d) ∙ take_each_at (take_one2 z d) ds

  take_level : (l : Level) (z : TwoStates) (ds : List Descriptor) → take_at l (state_at b z) ds ≡ state_at b (take_at2 l z ds)
  take_level Zero z ds = refl
  take_level One z ds = take_each_at z ds

  takes_all : (z : TwoStates) (ds : List Descriptor) → take_all (state_at b z) ds ≡ state_at b (take_all2 z ds)
  takes_all z ds = take_level z.rest.level z ds

  read_one_at : (z : TwoStates) (d : Descriptor) → read_one (state_at b z) d ≡ read_one z.rest d
  read_one_at z descriptor.None = refl
  read_one_at z (descriptor.SenderHosted e) = refl
  read_one_at z (descriptor.SenderPromise e) = refl
  read_one_at z (descriptor.ReceiverHosted e) = refl
  read_one_at z (descriptor.ReceiverAnswer q path) = refl

  read_level : (l : Level) (z : TwoStates) (d : Descriptor) → read_at l (state_at b z) d ≡ read_at l z.rest d
  read_level Zero z d = refl
  read_level One z d = read_one_at z d

  reads : (z : TwoStates) (d : Descriptor) → read (state_at b z) d ≡ read z.rest d
  reads z d = read_level z.rest.level z d

  reads_all : (z : TwoStates) (ds : List Descriptor) → read_all (state_at b z) ds ≡ read_all z.rest ds
  reads_all z [] = refl
  reads_all z (d ∷ ds) =
      let a = reads z d in
      let r = reads_all z ds in
      λ i. a i ∷ r i

  reads_beside : (z : TwoStates) (ds : List Descriptor) → read_beside (state_at b z) ds ≡ read_beside z.rest ds
  reads_beside z [] = refl
  reads_beside z (d ∷ ds) =
      let a = reads z d in
      let r = reads_beside z ds in
      λ i. (d, a i) ∷ r i

-- What is read is the same in both.
ones : (ns : List Node) (b : Bool) → map (node_at b) (map OneNode ns) ≡ ns
ones [] b = refl
ones (n ∷ ns) b = ap (λ (ms : List Node). n ∷ ms) (ones ns b)

none_read : (l : Level) (s : State) (d : Descriptor) → d ≡ descriptor.None → read_at l s d ≡ node.Broken NullCapability
none_read Zero s d e = refl
none_read One s d e = ap (read_one s) e

absent_read : (s : State) (ds : List Descriptor) (i : ℕ) → HoldsAt SaysNone ds i → HoldsAt IsAbsent (read_beside s ds) i
absent_read s [] i h = absurd h
absent_read s (d ∷ ds) zero h = (h, none_read s.level s d h)
absent_read s (d ∷ ds) (suc i) h = absent_read s ds i h

none_broken : (s : State) (ds : List Descriptor) (i : ℕ) → HoldsAt SaysNone ds i → HoldsAt IsBroken (map OneNode (read_all s ds)) i
none_broken s [] i h = absurd h
none_broken s (d ∷ ds) zero h = (NullCapability, none_read s.level s d h)
none_broken s (d ∷ ds) (suc i) h = none_broken s ds i h

absent_broken : (caps : List (Descriptor × Node)) (i : ℕ) → HoldsAt IsAbsent caps i → HoldsAt IsBroken (map OneNode (nodes caps)) i
absent_broken [] i h = absurd h
absent_broken (c ∷ cs) zero h = (NullCapability, h.1)
absent_broken (c ∷ cs) (suc i) h = absent_broken cs i h

-- ---- a flag is obeyed

abbrev obey2 : TwoStates → Bool → List ℕ → TwoStates
obey2 z flag ids = record z { rest = obey z.rest flag ids }

obeys : (b : Bool) (z : TwoStates) (flag : Bool) (ids : List ℕ) → state_at b (obey2 z flag ids) ≡ obey (state_at b z) flag ids
obeys b z false ids = refl
obeys b z true ids = refl

-- ---- Bootstrap and Call

abbrev opened2 : TwoStates → ℕ → ℕ → List ℕ → TwoStates
opened2 z q o taken =
    let y = with_outcome2 z o (caller.Peer (record { 0 = q })) in
    record y { rest = record (y.rest) { answers = finite.insert y.rest.answers q (record { outcome = o; taken = export_ids taken; returned = None; finished = false }) } }

opens_answer : (b : Bool) (z : TwoStates) (q o : ℕ) (taken : List ℕ) → state_at b (opened2 z q o taken) ≡ opened (state_at b z) q o taken
opens_answer b z q o taken =
    ap (λ (s : State). record s { answers = finite.insert z.rest.answers q (record { outcome = o; taken = export_ids taken; returned = None; finished = false }) }) (opens b z o (caller.Peer (record { 0 = q })))

abbrev root2 : Option ObjectId → TwoValues
root2 None = Failure (OneException (failed (codes "no bootstrap")))
root2 (Some o) = Results (whole_contents root_payload) (OneNode (node.Object o) ∷ []) (none_is_lost IsBroken (OneNode (node.Object o) ∷ []))

rooted : (b : Bool) (o : Option ObjectId) → value_at b (root2 o) ≡ bootstrap_value o
rooted b None = refl
rooted b (Some o) = refl

takes_bootstrap : (d : TwoProgress) (q : ℕ) (new : Progress) → TakesBootstrap (progress_at false d) q new → Next2 new (TakesBootstrap (progress_at true d) q)
takes_bootstrap d q new h =
    let o = d.state.rest.bootstrap in
    let d1 = in_state d (opened2 d.state q h.0 []) in
    let k = settles_outcome d1 h.0 (root2 o) new
    (subst (λ (w : Value). SettlesOutcome (progress_at false d1) h.0 w new) (sym (rooted false o))
    (subst (λ (s : State). SettlesOutcome (with_state (progress_at false d) s) h.0 (bootstrap_value o) new) (sym (opens_answer false d.state q h.0 [])) h.2)) in (
      k.0,
      k.1,
      (
        h.0,
        free_in (kept_at false) (kept_at true) d.state.outcomes h.0 h.1,
        subst (λ (s : State). SettlesOutcome (with_state (progress_at true d) s) h.0 (bootstrap_value o) (progress_at true k.0)) (opens_answer true d.state q h.0 [])
            (subst (λ (w : Value). SettlesOutcome (progress_at true d1) h.0 w (progress_at true k.0)) (rooted true o) k.2),
      ),
    )

abbrev call_at : Bool → Call → (Bool → Stamp) → TwoContents → Call
call_at b c stamp x = record c { stamp = stamp b; payload = x.at b }

takes_call : (d : TwoProgress) (c : Call) (stamp : Bool → Stamp) (x : TwoContents) (new : Progress) → EachLost SaysNone c.descriptors x.lost
    → TakesCall (progress_at false d) (call_at false c stamp x) new → Next2 new (TakesCall (progress_at true d) (call_at true c stamp x))
takes_call d c stamp x new gone h =
    let z = d.state in
    let ids = taken_of z.rest c.descriptors in
    let z1 = take_all2 z c.descriptors in
    let d1 = in_state d (opened2 z1 c.question.0 h.0 ids) in
    let caps = read_all z.rest c.descriptors in
    let r : TwoRequests = record { stamp = stamp; interface = c.interface; method = c.method; payload = x; caps = map OneNode caps; gone = λ i e. none_broken z.rest c.descriptors i (gone i e) } in
    let w : TwoWaiting = record { request = r; outcome = h.0 } in
    let target = target_node (state_at false z) c.target in
    let after : Bool → Progress = λ b. with_state (progress_at b d) (opened (take_all (state_at b z) c.descriptors) c.question.0 h.0 ids) in
    let so : (b : Bool) → progress_at b d1 ≡ after b =
    λ b. ap (with_state (progress_at b d)) (opens_answer b z1 c.question.0 h.0 ids ∙ ap (λ (s : State). opened s c.question.0 h.0 ids) (sym (takes_all b z c.descriptors))) in
    let asked : (b : Bool) → request_at b r ≡ received_request (state_at b z) (call_at b c stamp x) =
    λ b. ap (λ (ms : List Node). record (request_at b r) { caps = ms }) (ones caps b ∙ sym (reads_all b z c.descriptors)) in
    let k = routes d1 w (OneNode target) new
    (subst (λ (y : Progress). Routes y (waiting_at false w) target new) (sym (so false))
    (subst (λ (y : Request). Routes (after false) (record { request = y; outcome = h.0 }) target new) (sym (asked false)) h.2)) in (
      k.0,
      k.1,
      (
        h.0,
        free_in (kept_at false) (kept_at true) z.outcomes h.0 h.1,
        subst (λ (m : Node). Routes (after true) (record { request = received_request (state_at true z) (call_at true c stamp x); outcome = h.0 }) m (progress_at true k.0)) (sym (same_target z c.target))
            (subst (λ (y : Request). Routes (after true) (record { request = y; outcome = h.0 }) target (progress_at true k.0)) (asked true)
            (subst (λ (y : Progress). Routes y (waiting_at true w) target (progress_at true k.0)) (so true) k.2)),
      ),
    )

-- ---- Return, and what comes back

comes_for : (d : TwoProgress) (r : Role) (w : TwoValues) (new : Progress) → ComesFor (progress_at false d) r (value_at false w) new → Next2 new (ComesFor (progress_at true d) r (value_at true w))
comes_for d (role.Relay o) w new h = (arise2 d o w, h ∙ sym (arises_so false d o w), arises_so true d o w)
comes_for d (role.Direct c) w new h = tells_call d c.0 w (finite.get d.state.rest.calls c.0) new h

abbrev value2 : TwoReturned → TwoValues
value2 (Gave x caps gone) = Results x (map OneNode (nodes caps)) (λ i e. absent_broken caps i (gone i e))
value2 (Failed e) = Failure e

valued : (b : Bool) (x : TwoReturned) → value_at b (value2 x) ≡ value_of_results (returned_at b x)
valued b (Gave x caps gone) = ap (value.Results (x.at b)) (ones (nodes caps) b)
valued b (Failed e) = refl

abbrev kept_returned2 : TwoProgress → ℕ → TwoQuestions → TwoReturned → TwoProgress
kept_returned2 d q x said = in_state d (record (d.state) { questions = finite.insert d.state.questions q (record x { returned = Some said }) })

keeps_returned : (b : Bool) (d : TwoProgress) (q : ℕ) (x : TwoQuestions) (said : TwoReturned) → progress_at b (kept_returned2 d q x said) ≡ kept_returned (progress_at b d) q (question_at b x) (returned_at b said)
keeps_returned b d q x said = ap (with_state (progress_at b d)) (put_question b d.state q (record x { returned = Some said }))

comes_kept : (d : TwoProgress) (q : ℕ) (x : TwoQuestions) (said : TwoReturned) (new : Progress)
    → ComesFor (kept_returned (progress_at false d) q (question_at false x) (returned_at false said)) x.role (value_of_results (returned_at false said)) new
    → Next2 new (ComesFor (kept_returned (progress_at true d) q (question_at true x) (returned_at true said)) x.role (value_of_results (returned_at true said)))
comes_kept d q x said new h =
    let k = comes_for (kept_returned2 d q x said) x.role (value2 said) new
    (subst (λ (w : Value). ComesFor (progress_at false (kept_returned2 d q x said)) x.role w new) (sym (valued false said))
    (subst (λ (y : Progress). ComesFor y x.role (value_of_results (returned_at false said)) new) (sym (keeps_returned false d q x said)) h)) in (
      k.0,
      k.1,
      subst (λ (w : Value). ComesFor (kept_returned (progress_at true d) q (question_at true x) (returned_at true said)) x.role w (progress_at true k.0)) (valued true said)
          (subst (λ (y : Progress). ComesFor y x.role (value_at true (value2 said)) (progress_at true k.0)) (keeps_returned true d q x said) k.2),
    )

comes_back : (d : TwoProgress) (q : ℕ) (x : TwoQuestions) (said : TwoReturned) (f : Finishing) (new : Progress)
    → ComesBack (progress_at false d) q (question_at false x) (returned_at false said) f new → Next2 new (ComesBack (progress_at true d) q (question_at true x) (returned_at true said) f)
comes_back d q x said finishing.Sent new h =
    let d1 = in_state d (record (d.state) { questions = finite.remove d.state.questions q }) in
    (d1, h ∙ sym (ap (with_state (progress_at false d)) (cut_question false d.state q)), ap (with_state (progress_at true d)) (cut_question true d.state q))
comes_back d q x said finishing.Owed new h = comes_kept d q x said new h
comes_back d q x said finishing.Waived new h = comes_kept d q x said new h

-- What a Return says, as it is kept.
abbrev RetAt : Type 0
RetAt = Bool → Return

takes_return : (d : TwoProgress) (r : RetAt) (said : TwoReturned) (o : Option TwoQuestions) (new : Progress)
    → ((b : Bool) → (r b).answer ≡ (r false).answer) → ((b : Bool) → (r b).release_param_caps ≡ (r false).release_param_caps) → ((b : Bool) → descriptors_of_body (r b).body ≡ descriptors_of_body (r false).body)
    → ((b : Bool) → results_of (state_at b d.state) (r b).body ≡ returned_at b said)
    → TakesReturn (progress_at false d) (r false) (option_changed (question_at false) o) new → Next2 new (TakesReturn (progress_at true d) (r true) (option_changed (question_at true) o))
takes_return d r said None new a f e s h = absurd h
takes_return d r said (Some x) new a f e s h =
    let z = d.state in
    let ids = numbers x.given in
    let ds = descriptors_of_body (r false).body in
    let flag = (r false).release_param_caps in
    let q = (r false).answer.0 in
    let z1 = take_all2 z ds in
    let d1 = in_state d (obey2 z1 flag ids) in
    let so : (b : Bool) → progress_at b d1 ≡ with_state (progress_at b d) (obey (take_all (state_at b z) ds) flag ids) =
    λ b. ap (with_state (progress_at b d)) (obeys b z1 flag ids ∙ ap (λ (t : State). obey t flag ids) (sym (takes_all b z ds))) in
    let k = comes_back d1 q x said x.finish new
    (subst (λ (w : Returned). ComesBack (progress_at false d1) q (question_at false x) w x.finish new) (s false)
    (subst (λ (y : Progress). ComesBack y q (question_at false x) (results_of (state_at false z) (r false).body) x.finish new) (sym (so false)) h)) in
    let last : ComesBack (with_state (progress_at true d) (obey (take_all (state_at true z) ds) flag ids)) q (question_at true x) (results_of (state_at true z) (r true).body) x.finish (progress_at true k.0) =
    subst (λ (w : Returned). ComesBack (with_state (progress_at true d) (obey (take_all (state_at true z) ds) flag ids)) q (question_at true x) w x.finish (progress_at true k.0)) (sym (s true))
    (subst (λ (y : Progress). ComesBack y q (question_at true x) (returned_at true said) x.finish (progress_at true k.0)) (so true) k.2) in (
      k.0,
      k.1,
      subst (λ (y : QuestionId). ComesBack (with_state (progress_at true d) (obey (take_all (state_at true z) (descriptors_of_body (r true).body)) (r true).release_param_caps ids)) y.0 (question_at true x) (results_of (state_at true z) (r true).body) x.finish (progress_at true k.0)) (sym (a true))
          (subst (λ (y : Bool). ComesBack (with_state (progress_at true d) (obey (take_all (state_at true z) (descriptors_of_body (r true).body)) y ids)) q (question_at true x) (results_of (state_at true z) (r true).body) x.finish (progress_at true k.0)) (sym (f true))
          (subst (λ (es : List Descriptor). ComesBack (with_state (progress_at true d) (obey (take_all (state_at true z) es) flag ids)) q (question_at true x) (results_of (state_at true z) (r true).body) x.finish (progress_at true k.0)) (sym (e true)) last)),
    )

return_there : (d : TwoProgress) (r : RetAt) (said : TwoReturned) (new : Progress)
    → ((b : Bool) → (r b).answer ≡ (r false).answer) → ((b : Bool) → (r b).release_param_caps ≡ (r false).release_param_caps) → ((b : Bool) → descriptors_of_body (r b).body ≡ descriptors_of_body (r false).body)
    → ((b : Bool) → results_of (state_at b d.state) (r b).body ≡ returned_at b said)
    → TakesReturn (progress_at false d) (r false) (finite.get (state_at false d.state).questions (r false).answer.0) new
    → Next2 new (TakesReturn (progress_at true d) (r true) (finite.get (state_at true d.state).questions (r true).answer.0))
return_there d r said new a f e s h =
    let k = takes_return d r said (finite.get d.state.questions (r false).answer.0) new a f e s
    (subst (λ (o : Option Question). TakesReturn (progress_at false d) (r false) o new) (get-map_values (question_at false) d.state.questions (r false).answer.0) h) in (
      k.0,
      k.1,
      subst (λ (y : QuestionId). TakesReturn (progress_at true d) (r true) (finite.get (state_at true d.state).questions y.0) (progress_at true k.0)) (sym (a true))
          (subst (λ (o : Option Question). TakesReturn (progress_at true d) (r true) o (progress_at true k.0)) (sym (get-map_values (question_at true) d.state.questions (r false).answer.0)) k.2),
    )

-- Of one that has no contents, and of one that has results.
abbrev Said2 : TwoStates → ReturnBody → Type 0
Said2 z c = (said : TwoReturned) × ((b : Bool) → results_of (state_at b z) c ≡ returned_at b said)

abbrev gave2 : TwoStates → (x : TwoContents) (ds : List Descriptor) → EachLost SaysNone ds x.lost → TwoReturned
gave2 z x ds gone = Gave x (read_beside z.rest ds) (λ i e. absent_read z.rest ds i (gone i e))

said_with : (z : TwoStates) (x : TwoContents) (ds : List Descriptor) (gone : EachLost SaysNone ds x.lost) (b : Bool)
    → results_of (state_at b z) (body.Results (x.at b) ds) ≡ returned_at b (gave2 z x ds gone)
said_with z x ds gone b = ap (back.Results (x.at b)) (reads_beside b z ds)

said_plainly : (z : TwoStates) (c : ReturnBody) → Said2 z c
said_plainly z (body.Results p ds) =
    let gone = none_is_lost SaysNone ds in
    (gave2 z (whole_contents p) ds gone, λ b. said_with z (whole_contents p) ds gone b)
said_plainly z (body.Exception e) = (Failed (OneException e), λ b. refl)
said_plainly z body.Canceled = (Failed (OneException (failed (codes "call canceled"))), λ b. refl)

takes_echoed : (d : TwoProgress) (q : ℕ) (o : Option TwoQuestions) (new : Progress) → TakesEchoed (progress_at false d) q (option_changed (question_at false) o) new → Next2 new (TakesEchoed (progress_at true d) q (option_changed (question_at true) o))
takes_echoed d q None new h = absurd h
takes_echoed d q (Some x) new h =
    let ids = numbers x.given in
    let d1 = in_state d (obey2 d.state true ids) in
    let y : TwoQuestions = record x { finish = waived x.finish } in
    comes_back d1 q y (Failed (OneException (record { kind = exception_kind.Unimplemented; reason = codes "unimplemented" }))) (waived x.finish) new h

echoed_there : (d : TwoProgress) (q : ℕ) (new : Progress) → TakesEchoed (progress_at false d) q (finite.get (state_at false d.state).questions q) new → Next2 new (TakesEchoed (progress_at true d) q (finite.get (state_at true d.state).questions q))
echoed_there d q new h =
    let k = takes_echoed d q (finite.get d.state.questions q) new (subst (λ (o : Option Question). TakesEchoed (progress_at false d) q o new) (get-map_values (question_at false) d.state.questions q) h) in
    (k.0, k.1, subst (λ (o : Option Question). TakesEchoed (progress_at true d) q o (progress_at true k.0)) (sym (get-map_values (question_at true) d.state.questions q)) k.2)

-- ---- Finish, Resolve

takes_finish : (d : TwoProgress) (q : ℕ) (flag : Bool) (o : Option AnswerEntry) (new : Progress) → TakesFinish (progress_at false d) q flag o new → Next2 new (TakesFinish (progress_at true d) q flag o)
takes_finish d q flag None new h = absurd h
takes_finish d q flag (Some a) new h =
    let z1 = obey2 d.state flag (gave a.returned) in
    let d1 = in_state d (record z1 { rest = record (z1.rest) { answers = finished_map d.state.rest.answers q a a.returned } }) in
    let so : (b : Bool) → progress_at b d1 ≡ with_state (progress_at b d) (record (obey (state_at b d.state) flag (gave a.returned)) { answers = finished_map d.state.rest.answers q a a.returned }) =
    λ b. ap (λ (s : State). with_state (progress_at b d) (record s { answers = finished_map d.state.rest.answers q a a.returned })) (obeys b d.state flag (gave a.returned)) in
    (d1, h ∙ sym (so false), so true)

abbrev resolve_import2 : TwoStates → ℕ → TwoResolutions → Option TwoImports → TwoStates
resolve_import2 z e said None = z
resolve_import2 z e said (Some x) = record z { imports = update z.imports e (λ (y : TwoImports). record y { resolution = Some said }) }

updates : (b : Bool) (m : Map TwoImports) (e : ℕ) (said : TwoResolutions) (o : Option TwoImports)
    → map_values (import_at b) (updated m e (λ (y : TwoImports). record y { resolution = Some said }) o) ≡ updated (map_values (import_at b) m) e (set_resolution (resolution_at b said)) (option_changed (import_at b) o)
updates b m e said None = refl
updates b m e said (Some x) = map_values-insert (import_at b) m e (record x { resolution = Some said })

resolves_import : (b : Bool) (z : TwoStates) (e : ℕ) (said : TwoResolutions) (o : Option TwoImports)
    → state_at b (resolve_import2 z e said o) ≡ resolve_import (state_at b z) e (resolution_at b said) (option_changed (import_at b) o)
resolves_import b z e said None = refl
resolves_import b z e said (Some x) =
    ap (λ (m : Map Import). record (state_at b z) { imports = m })
    (updates b z.imports e said (finite.get z.imports e) ∙ sym (ap (updated (map_values (import_at b) z.imports) e (set_resolution (resolution_at b said))) (get-map_values (import_at b) z.imports e)))

-- What a Resolve says.
data TwoTargets : Type 0 where
  LedOn : Descriptor → TwoTargets
  IsOver : TwoExceptions → TwoTargets

abbrev target_at : Bool → TwoTargets → ResolvedTo
target_at b (LedOn d) = resolved.Cap d
target_at b (IsOver e) = resolved.Exception (exception_at b e)

abbrev target2 : ResolvedTo → TwoTargets
target2 (resolved.Cap d) = LedOn d
target2 (resolved.Exception e) = IsOver (OneException e)

target_so : (b : Bool) (to : ResolvedTo) → target_at b (target2 to) ≡ to
target_so b (resolved.Cap d) = refl
target_so b (resolved.Exception e) = refl

abbrev resolve2 : TwoStates → ℕ → TwoTargets → TwoStates
resolve2 z e (LedOn d) = resolve_import2 (take_all2 z (d ∷ [])) e (LedTo d (read z.rest d)) (finite.get z.imports e)
resolve2 z e (IsOver x) = resolve_import2 z e (Broke x) (finite.get z.imports e)

takes_resolve : (b : Bool) (z : TwoStates) (e : ℕ) (to : TwoTargets) → state_at b (resolve2 z e to) ≡ take_resolve (state_at b z) e (target_at b to)
takes_resolve b z e (LedOn d) =
    let z1 = take_all2 z (d ∷ []) in
    resolves_import b z1 e (LedTo d (read z.rest d)) (finite.get z.imports e)
    ∙ (let a = sym (takes_all b z (d ∷ [])) in
    let r = sym (reads b z d) in
    let g = sym (get-map_values (import_at b) z.imports e) in
    λ i. resolve_import (a i) e (resolution.To d (r i)) (g i))
takes_resolve b z e (IsOver x) =
    resolves_import b z e (Broke x) (finite.get z.imports e)
    ∙ ap (resolve_import (state_at b z) e (resolution.Exception (exception_at b x))) (sym (get-map_values (import_at b) z.imports e))

resolve_taken : (d : TwoProgress) (e : ℕ) (to : TwoTargets) (new : Progress)
    → new ≡ with_state (progress_at false d) (take_resolve (state_at false d.state) e (target_at false to))
    → Next2 new (λ y. y ≡ with_state (progress_at true d) (take_resolve (state_at true d.state) e (target_at true to)))
resolve_taken d e to new h = (
  in_state d (resolve2 d.state e to),
  h ∙ sym (ap (with_state (progress_at false d)) (takes_resolve false d.state e to)),
  ap (with_state (progress_at true d)) (takes_resolve true d.state e to),
)

-- ---- Disembargo

bounces : (d : TwoProgress) (x : EmbargoId) (t : Option Target) (new : Progress) → Bounces (progress_at false d) x t new → Next2 new (Bounces (progress_at true d) x t)
bounces d x None new h = absurd h
bounces d x (Some t) new h =
    let m = Same (message.Plain (plain.Disembargo (record { target = t; context = ReceiverLoopback x }))) in
    (send2 d m, h ∙ sym (sends false d m), sends true d m)

lifted : (b : Bool) (m : Map TwoReferences) (r : ℕ) (o : Option TwoReferences)
    → map_values (reference_at b) (updated m r (λ (y : TwoReferences). record y { embargo = None }) o) ≡ updated (map_values (reference_at b) m) r unembargoed (option_changed (reference_at b) o)
lifted b m r None = refl
lifted b m r (Some x) = map_values-insert (reference_at b) m r (record x { embargo = None })

lifts : (d : TwoProgress) (e : ℕ) (o : Option TwoEmbargoes) (new : Progress) → Lifts (progress_at false d) e (option_changed (embargo_at false) o) new → Next2 new (Lifts (progress_at true d) e (option_changed (embargo_at true) o))
lifts d e None new h = absurd h
lifts d e (Some x) new h =
    let r = x.reference.0 in
    let refs = update d.state.refs r (λ (y : TwoReferences). record y { embargo = None }) in
    let d1 = in_state d (record (d.state) { refs = refs; embargoes = finite.remove d.state.embargoes e }) in
    let so : (b : Bool) → progress_at b d1 ≡ with_state (progress_at b d) (record (state_at b d.state) { refs = update (state_at b d.state).refs r unembargoed; embargoes = finite.remove (state_at b d.state).embargoes e }) =
    λ b. let rs = lifted b d.state.refs r (finite.get d.state.refs r) ∙ sym (ap (updated (map_values (reference_at b) d.state.refs) r unembargoed) (get-map_values (reference_at b) d.state.refs r)) in
    let es = map_values-remove (embargo_at b) d.state.embargoes e in
    λ i. with_state (progress_at b d) (record (state_at b d.state) { refs = rs i; embargoes = es i }) in
    let k = routes_all d1 x.waiting (OneNode x.node) new (subst (λ (y : Progress). RoutesAll y (map (waiting_at false) x.waiting) x.node new) (sym (so false)) h) in
    (k.0, k.1, subst (λ (y : Progress). RoutesAll y (map (waiting_at true) x.waiting) x.node (progress_at true k.0)) (so true) k.2)

takes_disembargo : (d : TwoProgress) (t : Target) (c : DisembargoContext) (new : Progress) → TakesDisembargo (progress_at false d) t c new → Next2 new (TakesDisembargo (progress_at true d) t c)
takes_disembargo d t (SenderLoopback x) new h =
    let m = target_node (state_at false d.state) t in
    let k = bounces d x (wire_target (settle (state_at false d.state) m)) new h in
    let at = ap (λ (n : Node). wire_target (settle (state_at true d.state) n)) (same_target d.state t) ∙ same_settled wire_target (λ r s. refl) d.state (OneNode m) in
    (k.0, k.1, subst (λ (o : Option Target). Bounces (progress_at true d) x o (progress_at true k.0)) (sym at) k.2)
takes_disembargo d t (ReceiverLoopback x) new h =
    let k = lifts d x.0 (finite.get d.state.embargoes x.0) new (subst (λ (o : Option Embargo). Lifts (progress_at false d) x.0 o new) (get-map_values (embargo_at false) d.state.embargoes x.0) h) in
    (k.0, k.1, subst (λ (o : Option Embargo). Lifts (progress_at true d) x.0 o (progress_at true k.0)) (sym (get-map_values (embargo_at true) d.state.embargoes x.0)) k.2)

-- ---- all

takes_plain : (d : TwoProgress) (m : PlainMessage) (new : Progress) → TakesPlain (progress_at false d) m new → Next2 new (TakesPlain (progress_at true d) m)
takes_plain d (plain.Abort e) new h = absurd h
takes_plain d (plain.Bootstrap q) new h = takes_bootstrap d q.0 new h
takes_plain d (plain.Call c) new h = takes_call d c (λ b. c.stamp) (whole_contents c.payload) new (none_is_lost SaysNone c.descriptors) h
takes_plain d (plain.Return r) new h =
    let s = said_plainly d.state r.body in
    return_there d (λ b. r) s.0 new (λ b. refl) (λ b. refl) (λ b. refl) s.1 h
takes_plain d (plain.Finish f) new h = takes_finish d f.question.0 f.release_result_caps (finite.get d.state.rest.answers f.question.0) new h
takes_plain d (plain.Resolve r) new h =
    let k = resolve_taken d r.promise.0 (target2 r.to) new (subst (λ (to : ResolvedTo). new ≡ with_state (progress_at false d) (take_resolve (state_at false d.state) r.promise.0 to)) (sym (target_so false r.to)) h) in
    (k.0, k.1, subst (λ (to : ResolvedTo). progress_at true k.0 ≡ with_state (progress_at true d) (take_resolve (state_at true d.state) r.promise.0 to)) (target_so true r.to) k.2)
takes_plain d (plain.Release r) new h = (in_state d (record (d.state) { rest = record (d.state.rest) { exports = lower_by d.state.rest.exports r.export.0 r.count } }), h, refl)
takes_plain d (plain.Disembargo x) new h = takes_disembargo d x.target x.context new h
takes_plain d (plain.Other k) new h =
    let m = Same (message.Unimplemented (plain.Other k)) in
    (send2 d m, h ∙ sym (sends false d m), sends true d m)

takes_unimplemented : (d : TwoProgress) (m : PlainMessage) (new : Progress) → TakesUnimplemented (progress_at false d) m new → Next2 new (TakesUnimplemented (progress_at true d) m)
takes_unimplemented d (plain.Abort e) new h = absurd h
takes_unimplemented d (plain.Bootstrap q) new h = echoed_there d q.0 new h
takes_unimplemented d (plain.Call c) new h = echoed_there d c.question.0 new h
takes_unimplemented d (plain.Return r) new h = absurd h
takes_unimplemented d (plain.Finish f) new h = absurd h
takes_unimplemented d (plain.Resolve r) new h = (in_state d (obey2 d.state true (given_by r.to)), h, refl)
takes_unimplemented d (plain.Release r) new h = (d, h, refl)
takes_unimplemented d (plain.Disembargo x) new h = absurd h
takes_unimplemented d (plain.Other k) new h = absurd h

takes_unless : (f : Bool) (d : TwoProgress) (m : PlainMessage) (new : Progress) → TakesUnless f (progress_at false d) m new → Next2 new (TakesUnless f (progress_at true d) m)
takes_unless true d m new h =
    let x = Same (message.Unimplemented m) in
    (send2 d x, h ∙ sym (sends false d x), sends true d x)
takes_unless false d m new h = takes_plain d m new h

-- No Call is foreign, and no Return.
call_known : (l : Level) (c : Call) → is_foreign l (plain.Call c) ≡ false
call_known Zero c = refl
call_known One c = refl

return_known : (l : Level) (r : Return) → is_foreign l (plain.Return r) ≡ false
return_known Zero r = refl
return_known One r = refl

return_heard : (d : TwoProgress) (r : RetAt) (said : TwoReturned) (new : Progress)
    → ((b : Bool) → (r b).answer ≡ (r false).answer) → ((b : Bool) → (r b).release_param_caps ≡ (r false).release_param_caps) → ((b : Bool) → descriptors_of_body (r b).body ≡ descriptors_of_body (r false).body)
    → ((b : Bool) → results_of (state_at b d.state) (r b).body ≡ returned_at b said)
    → Takes (progress_at false d) (message.Plain (plain.Return (r false))) new → Next2 new (Takes (progress_at true d) (message.Plain (plain.Return (r true))))
return_heard d r said new a f e s h =
    let l = d.state.rest.level in
    let k = return_there d r said new a f e s (subst (λ (y : Bool). TakesUnless y (progress_at false d) (plain.Return (r false)) new) (return_known l (r false)) h) in
    (k.0, k.1, subst (λ (y : Bool). TakesUnless y (progress_at true d) (plain.Return (r true)) (progress_at true k.0)) (sym (return_known l (r true))) k.2)

-- A level 0 vat sends a Resolve back.
resolve_heard : (d : TwoProgress) (e : ExportId) (why : Bool → Reason) (l : Level) (new : Progress)
    → TakesUnless (is_foreign l (resolve_saying e (why false))) (progress_at false d) (resolve_saying e (why false)) new
    → Next2 new (TakesUnless (is_foreign l (resolve_saying e (why true))) (progress_at true d) (resolve_saying e (why true)))
resolve_heard d e why Zero new h = (send2 d (SendsBack e why), h ∙ sym (sends false d (SendsBack e why)), sends true d (SendsBack e why))
resolve_heard d e why One new h = resolve_taken d e.0 (IsOver (SaysWhy why)) new h

pub takes : (d : TwoProgress) (m : TwoMessages) (new : Progress) → Takes (progress_at false d) (message_at false m) new → Next2 new (Takes (progress_at true d) (message_at true m))
takes d (Same (message.Plain m)) new h = takes_unless (is_foreign d.state.rest.level m) d m new h
takes d (Same (message.Unimplemented m)) new h = takes_unimplemented d m new h
takes d (Calls c stamp x gone) new h =
    let l = d.state.rest.level in
    let k = takes_call d c stamp x new gone (subst (λ (f : Bool). TakesUnless f (progress_at false d) (plain.Call (call_at false c stamp x)) new) (call_known l (call_at false c stamp x)) h) in
    (k.0, k.1, subst (λ (f : Bool). TakesUnless f (progress_at true d) (plain.Call (call_at true c stamp x)) (progress_at true k.0)) (sym (call_known l (call_at true c stamp x))) k.2)
takes d (Returns a flag x ds gone) new h =
    return_heard d (λ b. record { answer = a; release_param_caps = flag; body = body.Results (x.at b) ds }) (gave2 d.state x ds gone) new (λ b. refl) (λ b. refl) (λ b. refl) (λ b. said_with d.state x ds gone b) h
takes d (ReturnsWhy a flag why) new h =
    return_heard d (λ b. record { answer = a; release_param_caps = flag; body = body.Exception (failed (reason_text (why b))) }) (Failed (SaysWhy why)) new (λ b. refl) (λ b. refl) (λ b. refl) (λ b. refl) h
takes d (ResolvesWhy e why) new h = resolve_heard d e why d.state.rest.level new h
takes d (SendsBack e why) new h = (in_state d (obey2 d.state true []), h, refl)
