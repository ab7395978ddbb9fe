-- A step is acts of which each says what is there.
use Rattle.rpc_machine.specs.declared.calls.Caller.TheVariants as caller
use Rattle.std.specs.FinMap as map
use Rattle.finite_maps.specs.Tally.{Map}
use Rattle.rpc_msg.specs.declared.ids.EmbargoId.{EmbargoId}
use Rattle.rpc_msg.specs.Op.{Op}
use Rattle.rpc_msg.specs.declared.parts.Descriptor.{Descriptor}
use Rattle.rpc_msg.specs.declared.parts.Descriptor.TheVariants as descriptor
use Rattle.rpc_msg.specs.declared.parts.Target.{Target}
use Rattle.rpc_msg.specs.declared.parts.Target.TheVariants.{ImportedCap, PromisedAnswer}
use Rattle.rpc_msg.specs.declared.exception.Exception.{Exception}
use Rattle.rpc_machine.specs.declared.node.Node.{Node}
use Rattle.rpc_machine.specs.declared.node.Node.TheVariants as node
use Rattle.rpc_machine.specs.declared.calls.Request.{Request}
use Rattle.rpc_machine.specs.declared.calls.OwnCall.{OwnCall}
use Rattle.rpc_machine.specs.declared.calls.Value.{Value}
use Rattle.rpc_machine.specs.declared.calls.Value.TheVariants as value
use Rattle.rpc_machine.specs.declared.command.CallCommand.{CallCommand}
use Rattle.rpc_machine.specs.declared.command.Command.{Command}
use Rattle.rpc_machine.specs.declared.command.Command.TheVariants as command
use Rattle.rpc_machine.specs.declared.command.Granted.{Granted}
use Rattle.rpc_machine.specs.declared.command.Effects.{Effects}
use Rattle.rpc_machine.specs.declared.entries.Role.TheVariants as role
use Rattle.rpc_machine.specs.declared.entries.AnswerEntry.{AnswerEntry}
use Rattle.rpc_machine.specs.declared.entries.Question.{Question}
use Rattle.rpc_machine.specs.declared.entries.Reference.{Reference}
use Rattle.rpc_machine.specs.declared.entries.Embargo.{Embargo}
use Rattle.rpc_machine.specs.State.{State}
use Rattle.rpc_machine.specs.Nodes.{settle}
use Rattle.rpc_machine.specs.Progress.{Progress, begin, with_state, caps_of, numbers}
use Rattle.rpc_machine.specs.Collecting.{Collects, Tight, Loose}
use Rattle.rpc_machine.specs.Settling.{TellsCall, FixesPromise}
use Rattle.rpc_machine.specs.Commands.{CallsDirect, heads, counted, kept, request, field_node, NewRef, ClonesRef, DropsRef, CallsHere, CallsBy, WaitsForEmbargo, CallsThrough, MakesCall, NamesField, ResolvesPromise, RejectsPromise, AnswersTask, FinishesCall, settled_now}
use Rattle.rpc_machine.specs.Commands as commands
use Rattle.rpc_machine.specs.Sweeping.{finished_by, FinishesEach, Sweeps}
use Rattle.rpc_machine.specs.Advancing.{known_of_wire, Known, NothingYet, IsBroken, Leads, wire_target, AdvancesBy, AdvancesTo, AdvancesFrom, Advances}
use Rattle.rpc_machine.specs.Steps as steps
use Rattle.rpc_machine.specs.Steps.{Does, Handles}
use Rattle.rpc_msg.specs.declared.message.DisembargoContext.{DisembargoContext}
use Rattle.rpc_msg.specs.declared.message.DisembargoContext.TheVariants.{SenderLoopback, ReceiverLoopback}
use Rattle.rpc_msg.specs.declared.message.Return.{Return}
use Rattle.rpc_msg.specs.declared.message.PlainMessage.{PlainMessage}
use Rattle.rpc_msg.specs.declared.message.PlainMessage.TheVariants as plain
use Rattle.rpc_msg.specs.declared.message.Message.TheVariants as message
use Rattle.rpc_machine.specs.declared.entries.Role.{Role}
use Rattle.rpc_machine.specs.declared.entries.Finishing.{Finishing}
use Rattle.rpc_machine.specs.declared.entries.Finishing.TheVariants as finishing
use Rattle.rpc_machine.specs.Descriptors.{take_all, taken_of}
use Rattle.rpc_machine.specs.declared.command.Level.TheVariants.{One}
use Rattle.rpc_journal.specs.History.{if_so}
use Rattle.rpc_machine.specs.Faults.{body_fault, flag_fault, gave, target_node, unless_foreign, plain_fault, return_fault, finish_fault, fault_of}
use Rattle.rpc_machine.specs.Messages.{opened, received_request, bootstrap_value, kept_returned, value_of_results, results_of, unembargoed, ComesFor, ComesBack, TakesReturn, TakesFinish, Bounces, Lifts as LiftsOne, TakesDisembargo, TakesPlain, TakesUnless}
use Rattle.rpc_msg.specs.declared.message.Finish.{Finish}
use Rattle.std.specs.FinMap.Entries as entries
use Rattle.std.specs.Ordering.{nat_cmp}
use Rattle.std.proofs.Common.{◌≡◌, inl, inr, ◌⊎◌, ℕ, Bool, is_some, T, List, [], ◌∷◌, Option, None, Some, refl, sym, ap, subst, ◌∙◌}
use Rattle.laws_steps.proofs.Taken.{present}
use Rattle.laws_steps.specs.Callers.{peer, HasOutcome}
use Rattle.rpc_machine.specs.declared.entries.Export.{Export}
use Rattle.rpc_machine.specs.Descriptors.{export_node, answer_node}
use Rattle.rpc_machine.specs.Messages.{TakesBootstrap, TakesCall}
use Rattle.rpc_msg.specs.declared.ids.QuestionId.{QuestionId}
use Rattle.rpc_msg.specs.declared.ids.ObjectId.{ObjectId}
use Rattle.rpc_msg.specs.declared.message.Call.{Call}
use Rattle.rpc_machine.specs.Settling.{TellsCall}
use Rattle.rpc_machine.specs.Lists.{update}
use Rattle.finite_maps.proofs.Sorted.{first_entry, sorted_tail}
use Rattle.laws_steps.proofs.Exceptions.{AllExceptions, act_arises}
use Rattle.laws_steps.proofs.NamedNodes.{Asked, AllIn, all_none, all_one, each_at, HereIn, Fine, settle_here, grows_outcome}
use Rattle.laws_steps.proofs.NamedPieces.{set_rest}
use Rattle.laws_steps.proofs.NamedSteps.{heads_here, kept_here, grown, acts as acted_on}
use Rattle.laws_steps.proofs.NamedMessages.{Begun, lift, opens_call, opens_answer, takes as takes_on}
use Rattle.laws_steps.proofs.Reached.{reached, stands}
use Rattle.laws_steps.proofs.Swept.{Whole}
use Rattle.laws_steps.specs.NodesThere.{IsReached, Stands}
use Rattle.rpc_machine.specs.Places.{named_by_reference, named_by_export}
use Rattle.rpc_machine.specs.Numbers.{question_in_use, unknown_question, unknown_answer}
use Rattle.laws_acts.proofs.Checks.{first as first_check, not_so, none_there}
use Rattle.laws_acts.proofs.Ends.{Rest, withers_from, col_end, after_rest}
use Rattle.laws_acts.proofs.Received.{brought_so, call_checks}
use Rattle.laws_acts.proofs.Walked.{looked_at}
use Rattle.laws_acts.specs.MessageActs.{returning}
use Rattle.laws_acts.specs.Acts.{Makes, Drops, AsksRoot, CallsOut, Keeps, Joins, Promises, Unsettles, Answers, Finishes, Heads, Turns, Fails, Reports, Gone, Ends, Releases, came, ComesTo, Consumes, NoMore}
use Rattle.laws_messages.specs.Mentions.{wire, TargetStands, NamesAtOnce}
use Rattle.laws_messages.specs.Mentions.{NamingActs}
use Rattle.laws_messages.proofs.Naming.{all_stand, Said, then, one, none, first, routes, routes_all, fixed, settles, drained, drained_first}

-- ---- The end of a step

collects : (new d : Progress) → Collects new d → Said d new
collects new d (Tight h) = (NoMore, tt)
collects new d (Loose {mid = mid} g rest) = first d mid new (Gone g) tt (collects new mid rest)

finishes_each : (d : Progress) (xs : List (ℕ × Question)) (new : Progress) → T (entries.is_sorted nat_cmp xs) → Rest d.state xs → FinishesEach d xs new → Said d new
finishes_each d [] new o r h = none d new h
finishes_each d (x ∷ xs) new o r h =
    let mid = h.0 in
    let next = finished_by mid x.0 x.1 x.1.finish in
    let here = col_end d mid h.1 x.0 x.1 (r x.0 x.1 (first_entry x xs)) in
    let tail = sorted_tail x.0 xs o in
    then d mid new (collects mid d h.1) (first mid next new (Ends x.0 x.1 here.0 here.1 refl) tt (finishes_each next xs new tail.1 (after_rest d mid h.1 x xs tail.0 r) h.2))

swept : (d new : Progress) → Sweeps d new → Said d new
swept d new h =
    let g = h.2 in
    let k = g.2 in
    let r : Rest d.state (map.entries h.0) = λ (q : ℕ) (x : Question) f. withers_from d h.0 h.1 q x (map.get-entries h.0 q ∙ f) in
    then d g.0 new (finishes_each d _ g.0 (map.entries_sorted h.0) r g.1) (then g.0 k.0 new (collects k.0 g.0 k.1) (one k.0 new (Releases k.2) tt))

released : (d new : Progress) → Sweeps d new → new.released ≡ map.empty
released d new h = let g = h.2 in let k = g.2 in ap (λ (p : Progress). p.released) k.2

pub ended : {w : Asked} (d acted : Progress) (x : Effects) (new : State) → Said d acted → Begun w acted → steps.Ends acted x new → NamingActs d x new
ended {w} d acted x new a k h =
    let all = then d acted h.swept a (then acted h.drained h.swept (by k.1) (swept h.drained h.swept h.sweeps)) in
    (h.swept, all.0, all.1, h.effects_are, h.new_is, released h.drained h.swept h.sweeps)
  where
    by : AllExceptions acted.arisen ⊎ ((o : ℕ) × (v : Value) × (acted.arisen ≡ (o, v) ∷ []) × AllIn (HereIn w acted.state) (caps_of v)) → Said acted h.drained
    by (inl e) = drained h.drained acted e k.0 h.drains
    by (inr e) = drained_first h.drained acted e.0 e.1 e.2 k.0 e.3 h.drains

-- ---- Commands

new_ref : (a : Granted) (d : Progress) (n : Node) (new : Progress) → NewRef a d n new → Said d new
new_ref a d n new h = one d new (Makes n h.1) tt

clones : (d : Progress) (o : Option Reference) (a : Granted) (new : Progress) → ClonesRef d o a new → Said d new
clones d None a new h = absurd h
clones d (Some x) a new h = new_ref a d x.head new h

drops : (d : Progress) (r : ℕ) (o : Option Reference) (a : Granted) (new : Progress) → map.get d.state.refs r ≡ o → DropsRef d r o a new → Said d new
drops d r None a new e h = absurd h
drops d r (Some x) a new e h = one d new (Drops r x e h.1) tt

field : (d : Progress) (path : List Op) (o : Option OwnCall) (a : Granted) (new : Progress) → NamesField d path o a new → Said d new
field d path None a new h = absurd h
field d path (Some from) a new h = new_ref a d (field_node path from) new h

finishes : (d : Progress) (c : ℕ) (o : Option OwnCall) (a : Granted) (new : Progress) → FinishesCall d c o a new → Said d new
finishes d c None a new h = absurd h
finishes d c (Some from) a new h = one d new (Finishes c h.1) tt

module _ (d : Progress) (r : ℕ) (x : Reference) (there : map.get d.state.refs r ≡ Some x) (free : x.embargo ≡ None) where
  advances_by : (to : Node) (said : Descriptor) (n : Node) (a : Granted) (new : Progress) → TargetStands d.state (wire_target to) → AdvancesBy d r x to said n a new → Said d new
  advances_by to descriptor.None n a new k h = absurd h
  advances_by to (descriptor.SenderHosted e) n a new k h = one d new (Heads r x n there free h.1) tt
  advances_by to (descriptor.SenderPromise e) n a new k h = one d new (Heads r x n there free h.1) tt
  advances_by to (descriptor.ReceiverHosted e) n a new k h = one d new (Turns r x (wire_target to) n a there free h) k
  advances_by to (descriptor.ReceiverAnswer q path) n a new k h = one d new (Turns r x (wire_target to) n a there free h) k

  advances_to : (to : Node) (k : Known) (a : Granted) (new : Progress) → TargetStands d.state (wire_target to) → AdvancesTo d r x to k a new → Said d new
  advances_to to NothingYet a new k h = none d new h.1
  advances_to to (IsBroken reason) a new k h = one d new (Heads r x (node.Broken reason) there free h.1) tt
  advances_to to (Leads said n) a new k (inl h) = let j = h.1 in none d new j.1
  advances_to to (Leads said n) a new k (inr h) = advances_by to said n a new k h.1

module _ {w : Asked} where
  head_here : (d : Progress) (r : ℕ) (x : Reference) → Fine w d.state → map.get d.state.refs r ≡ Some x → HereIn w d.state x.head
  head_here d r x i e = let n = i.names in each_at (HereIn w d.state) named_by_reference d.state.refs r x n.0 e x.head (inl refl)

  module _ (d : Progress) (c : CallCommand) (x : Reference) (there : map.get d.state.refs c.reference.0 ≡ Some x) (i : Fine w d.state) where
    abbrev made : Progress
    made = with_state d (counted d.state c.reference.0 x)

    abbrev asked : Request
    asked = request d.state c x

    abbrev number : ℕ
    number = d.state.next_call

    here : (n : Node) (new : Progress) → HereIn w d.state n → CallsHere made number asked n new → Said d new
    here n new m h =
        let mid = kept made number h.0 in
        first d mid new (Keeps c.reference.0 x number h.0 there h.1 refl) tt
        (routes mid (record { request = asked; outcome = h.0 }) n new (kept_here d c x there i h.0 h.1) (grows_outcome w d.state h.0 (record { caller = caller.Application (record { 0 = number }); value = None; waiting = [] }) n m) (grown d c x there i h.0) h.2)

    out : (t : Target) (new : Progress) → TargetStands d.state (Some t) → CallsDirect made number asked t new → Said d new
    out t new k h = one d new (CallsOut c.reference.0 x number asked t there h) (k, all_stand d.state asked.caps i (heads_here d.state i c.refs))

    by : (head n : Node) (new : Progress) → HereIn w d.state head → HereIn w d.state n → CallsBy made number asked head n new → Said d new
    by head (node.Object o) new m k h = here head new m h
    by head (node.Promise p) new m k h = here head new m h
    by head (node.Field o path) new m k h = here head new m h
    by head (node.Import e) new m k h = out (ImportedCap e) new (stands d.state (node.Import e) i k) h
    by head (node.Pipe p path) new m k h = out (PromisedAnswer p path) new (stands d.state (node.Pipe p path) i k) h
    by head (node.Broken reason) new m k h = here head new m h

    through : (o : Option EmbargoId) (new : Progress) → CallsThrough made number asked x.head o new → Said d new
    through None new h = let m = head_here d c.reference.0 x i there in by x.head (settle made.state x.head) new m (settle_here d.state i x.head m) h
    through (Some e) new h = first d mid new (Keeps c.reference.0 x number h.0 there h.1 refl) tt (joins (map.get d.state.embargoes e.0) refl h.2)
      where
        mid : Progress
        mid = kept made number h.0

        joins : (o : Option Embargo) → map.get d.state.embargoes e.0 ≡ o → WaitsForEmbargo mid (record { request = asked; outcome = h.0 }) e.0 o new → Said mid new
        joins None f k = absurd k
        joins (Some b) f k = one mid new (Joins (record { request = asked; outcome = h.0 }) e.0 b f k) tt

  calls : (d : Progress) (c : CallCommand) (o : Option Reference) (a : Granted) (new : Progress) → map.get d.state.refs c.reference.0 ≡ o → Fine w d.state → MakesCall d c o a new → Said d new
  calls d c None a new e i h = absurd h
  calls d c (Some x) a new e i h = through d c x e i x.embargo new h.1

  fixing : (d : Progress) (p key : ℕ) (to : Node) (e : Option Exception) (new : Progress) → Fine w d.state → HereIn w d.state to → FixesPromise (settled_now d p) key to e new → Said d new
  fixing d p key to e new i k h =
      let s = d.state in
      first d (settled_now d p) new (Unsettles p refl) tt (fixed (settled_now d p) key to e new (set_rest s s.tasks (map.remove s.unsettled p) s.next_ref s.next_call s.next_task s.next_promise i) k h)

  resolves : (d : Progress) (p r : ℕ) (o : Option ℕ) (x : Option Reference) (a : Granted) (new : Progress) → map.get d.state.refs r ≡ x → Fine w d.state → ResolvesPromise d p o x a new → Said d new
  resolves d p r None x a new e i h = absurd h
  resolves d p r (Some key) None a new e i h = absurd h
  resolves d p r (Some key) (Some x) a new e i h = fixing d p key x.head None new i (head_here d r x i e) h.1

  rejects : (d : Progress) (p : ℕ) (e : Exception) (o : Option ℕ) (a : Granted) (new : Progress) → Fine w d.state → RejectsPromise d p e o a new → Said d new
  rejects d p e None a new i h = absurd h
  rejects d p e (Some key) a new i h = fixing d p key _ (Some e) new i tt h.1

  answers : (d : Progress) (n : ℕ) (v : Value) (o : Option ℕ) (a : Granted) (new : Progress) → Fine w d.state → AllIn (HereIn w d.state) (caps_of v) → AnswersTask d n v o a new → Said d new
  answers d n v None a new i k h = absurd h
  answers d n v (Some o) a new i k h =
      let s = d.state in
      let mid = with_state d (record s { tasks = map.remove s.tasks n }) in
      first d mid new (Answers n refl) tt (settles mid o v new (set_rest s (map.remove s.tasks n) s.unsettled s.next_ref s.next_call s.next_task s.next_promise i) k h.1)

  target_stands : (s : State) (n : Node) → Fine w s → HereIn w s n → TargetStands s (wire_target n)
  target_stands s (node.Object o) i h = tt
  target_stands s (node.Promise p) i h = tt
  target_stands s (node.Field o path) i h = tt
  target_stands s (node.Import e) i h = stands s (node.Import e) i h
  target_stands s (node.Pipe q path) i h = stands s (node.Pipe q path) i h
  target_stands s (node.Broken reason) i h = tt

  advances_from : (d : Progress) (r : ℕ) (x : Reference) (o : Option EmbargoId) (a : Granted) (new : Progress) → map.get d.state.refs r ≡ Some x → x.embargo ≡ o → Fine w d.state → AdvancesFrom d r x o a new → Said d new
  advances_from d r x (Some e) a new there f i h = none d new h.1
  advances_from d r x None a new there f i h =
      let to = settle d.state x.head in
      advances_to d r x there f to (known_of_wire d.state to) a new (target_stands d.state to i (settle_here d.state i x.head (head_here d r x i there))) h

  advances : (d : Progress) (r : ℕ) (o : Option Reference) (a : Granted) (new : Progress) → map.get d.state.refs r ≡ o → Fine w d.state → Advances d r o a new → Said d new
  advances d r None a new e i h = absurd h
  advances d r (Some x) a new e i h = advances_from d r x x.embargo a new e refl i h

  acted : (d : Progress) (c : Command) (a : Granted) (new : Progress) → Fine w d.state → commands.Acts d c a new → Said d new
  acted d (command.Host o) a new i h = new_ref a d _ new h
  acted d (command.CloneRef r) a new i h = clones d _ a new h
  acted d (command.DropRef r) a new i h = drops d r.0 _ a new refl h
  acted d command.Bootstrap a new i h = one d new (AsksRoot a h) tt
  acted d (command.Call c) a new i h = calls d c _ a new refl i h
  acted d (command.Field c path) a new i h = field d path _ a new h
  acted d command.Promise a new i h = one d new (Promises h.0 h.1 h.3) tt
  acted d (command.Resolve p r) a new i h = resolves d p.0 r.0 _ _ a new refl i h
  acted d (command.Reject p e) a new i h = rejects d p.0 e _ a new i h
  acted d (command.Answer n payload refs) a new i h = answers d n.0 (value.Results payload (heads d.state refs)) _ a new i (heads_here d.state i refs) h
  acted d (command.Fail n e) a new i h = answers d n.0 (value.Exception e) _ a new i (all_none (HereIn w d.state)) h
  acted d (command.Finish c) a new i h = finishes d c.0 _ a new h
  acted d (command.Advance r) a new i h = advances d r.0 _ a new refl i h
  acted d (command.Shut n) a new i h = absurd h

pub does_whole : (s : State) (c : Command) (a : Granted) (x : Effects) (new : State) → Whole s → Does s c a x new → NamingActs (begin s) x new
does_whole s c a x new i h = ended (begin s) h.acted x new (acted (begin s) c a h.acted i.fine h.acts) (acted_on (begin s) c a h.acted i.fine h.acts, inl (act_arises s c a h.acted h.acts)) h.ends

pub does : (s : State) (c : Command) (a : Granted) (x : Effects) (new : State) → IsReached s → Does s c a x new → NamingActs (begin s) x new
does s c a x new r h = does_whole s c a x new (reached s r) h

-- ---- Received messages

came_questions : (s : State) (r : Return) (x : Question) → (came s r x).questions ≡ s.questions
came_questions s r x = ap (λ (u : State). u.questions) (brought_so s (returning s r) x)

abbrev Took : PlainMessage → Progress → Progress → Type 0
Took m d new = (mid : Progress) × (h : Consumes m d mid) × NamesAtOnce d mid m h × Said mid new

comes_for : (d : Progress) (r : Role) (v : Value) (new : Progress) → ComesFor d r v new → Said d new
comes_for d (role.Relay o) v new h = one d new (Fails o v h) tt
comes_for d (role.Direct c) v new h = by (map.get d.state.calls c.0) refl h
  where
    by : (o : Option OwnCall) → map.get d.state.calls c.0 ≡ o → TellsCall d c.0 v o new → Said d new
    by None e h = none d new h
    by (Some from) e h = one d new (Reports c.0 v from e h) tt

module _ (d : Progress) (r : Return) (x : Question) (there : map.get d.state.questions r.answer.0 ≡ Some x) (unsaid : x.returned ≡ None) where
  comes_back : (f : Finishing) (new : Progress) → x.finish ≡ f → ComesBack (with_state d (came d.state r x)) r.answer.0 x (results_of d.state r.body) f new → Took (plain.Return r) d new
  comes_back finishing.Sent new e h = (new, (x, there, unsaid, subst (λ (f : Finishing). ComesTo d r x f new) (sym e) (h ∙ ap (λ (m : Map Question). with_state d (record (came d.state r x) { questions = map.remove m r.answer.0 })) (came_questions d.state r x))), tt, (NoMore, tt))
  comes_back finishing.Owed new e h = let k = kept_returned (with_state d (came d.state r x)) r.answer.0 x (results_of d.state r.body) in (k, (x, there, unsaid, subst (λ (f : Finishing). ComesTo d r x f k) (sym e) refl), tt, comes_for k x.role (value_of_results (results_of d.state r.body)) new h)
  comes_back finishing.Waived new e h = let k = kept_returned (with_state d (came d.state r x)) r.answer.0 x (results_of d.state r.body) in (k, (x, there, unsaid, subst (λ (f : Finishing). ComesTo d r x f k) (sym e) refl), tt, comes_for k x.role (value_of_results (results_of d.state r.body)) new h)

takes_return : (d : Progress) (r : Return) (o : Option Question) (new : Progress) → map.get d.state.questions r.answer.0 ≡ o → return_fault d.state r.release_param_caps r.body o ≡ None → TakesReturn d r o new → Took (plain.Return r) d new
takes_return d r None new e f h = absurd h
takes_return d r (Some x) new e f h = comes_back d r x e (none_there x.returned unknown_question (first_check (if_so (is_some x.returned) unknown_question) (body_fault d.state r.body ∷ flag_fault d.state r.release_param_caps (numbers x.given) ∷ []) f)) x.finish new refl h

takes_finish : (d : Progress) (m : Finish) (o : Option AnswerEntry) (new : Progress) → map.get d.state.answers m.question.0 ≡ o → finish_fault d.state m.release_result_caps o ≡ None → TakesFinish d m.question.0 m.release_result_caps o new → Took (plain.Finish m) d new
takes_finish d m None new e f h = absurd h
takes_finish d m (Some a) new e f h = (new, (a, e, not_so a.finished unknown_answer (first_check (if_so a.finished unknown_answer) (flag_fault d.state m.release_result_caps (gave a.returned) ∷ []) f), h), tt, (NoMore, tt))

module _ {w : Asked} where
  -- What a target names is here.
  target_here : (s : State) (t : Target) → Fine w s → HereIn w s (target_node s t)
  target_here s (ImportedCap e) i = by (map.get s.exports e.0) refl
    where
      by : (o : Option Export) → map.get s.exports e.0 ≡ o → HereIn w s (export_node o)
      by None f = tt
      by (Some x) f = let n = i.names in each_at (HereIn w s) named_by_export s.exports e.0 x n.6 f x.node (inl refl)
  target_here s (PromisedAnswer q path) i = by (map.get s.answers q.0) refl
    where
      by : (o : Option AnswerEntry) → map.get s.answers q.0 ≡ o → HereIn w s (answer_node path o)
      by None f = tt
      by (Some a) f = present (peer q.0) (map.get s.outcomes a.outcome) (subst (HasOutcome s.outcomes q.0) f (i.answers q.0))

  takes_bootstrap : (d : Progress) (q : QuestionId) (new : Progress) → Fine w d.state → map.get d.state.answers q.0 ≡ None → TakesBootstrap d q.0 new → Took (plain.Bootstrap q) d new
  takes_bootstrap d q new i f h =
      let mid = with_state d (opened d.state q.0 h.0 []) in
      (mid, (h.0, f, h.1, refl), tt, settles mid h.0 (bootstrap_value d.state.bootstrap) new (opens_answer w d.state q.0 h.0 [] i (all_none (HereIn w d.state)) h.1 f) (by d.state.bootstrap) h.2)
    where
      by : (b : Option ObjectId) → AllIn (HereIn w (opened d.state q.0 h.0 [])) (caps_of (bootstrap_value b))
      by None = all_none (HereIn w (opened d.state q.0 h.0 []))
      by (Some o) = all_one (HereIn w (opened d.state q.0 h.0 [])) (node.Object o) tt

  takes_call : (d : Progress) (c : Call) (new : Progress) → Fine w d.state → map.get d.state.answers c.question.0 ≡ None → TakesCall d c new → Took (plain.Call c) d new
  takes_call d c new i f h =
      let t = opened (take_all d.state c.descriptors) c.question.0 h.0 (taken_of d.state c.descriptors) in
      let a = opens_call d.state c h.0 h.1 f i in
      let more = a.2 in
      (with_state d t, (h.0, f, h.1, refl), tt, routes (with_state d t) (record { request = received_request d.state c; outcome = h.0 }) (target_node d.state c.target) new a.0 (more (target_node d.state c.target) (target_here d.state c.target i)) a.1 h.2)

  bounced : (s : State) (n : Node) (u : Target) → Fine w s → HereIn w s n → wire_target n ≡ Some u → Stands s (wire u)
  bounced s n u i m e = subst (λ (o : Option Target). TargetStands s o) e (target_stands s n i m)

  bounces : (d : Progress) (t : Target) (x : EmbargoId) (o : Option Target) (new : Progress) → wire_target (settle d.state (target_node d.state t)) ≡ o → Fine w d.state → Bounces d x o new → Took (plain.Disembargo (record { target = t; context = SenderLoopback x })) d new
  bounces d t x None new e i h = absurd h
  bounces d t x (Some u) new e i h = (new, (u, h), bounced d.state (settle d.state (target_node d.state t)) u i (settle_here d.state i (target_node d.state t) (target_here d.state t i)) e, (NoMore, tt))

  lifts : (d : Progress) (t : Target) (x : EmbargoId) (o : Option Embargo) (new : Progress) → map.get d.state.embargoes x.0 ≡ o → Fine w d.state → LiftsOne d x.0 o new → Took (plain.Disembargo (record { target = t; context = ReceiverLoopback x })) d new
  lifts d t x None new f i h = absurd h
  lifts d t x (Some b) new f i h =
      let v : State = record (d.state) { refs = update d.state.refs b.reference.0 unembargoed; embargoes = map.remove d.state.embargoes x.0 } in
      let a = lift d.state x.0 b f i in
      (with_state d v, (b, f, refl), tt, routes_all (with_state d v) b.waiting b.node new a.0 a.1 a.2 h)

  disembargo : (d : Progress) (t : Target) (c : DisembargoContext) (new : Progress) → Fine w d.state → TakesDisembargo d t c new → Took (plain.Disembargo (record { target = t; context = c })) d new
  disembargo d t (SenderLoopback x) new i h = bounces d t x _ new refl i h
  disembargo d t (ReceiverLoopback x) new i h = lifts d t x _ new refl i h

  taken : (d : Progress) (m : PlainMessage) (new : Progress) → Fine w d.state → plain_fault d.state m ≡ None → TakesPlain d m new → Took m d new
  taken d (plain.Abort x) new i f h = absurd h
  taken d (plain.Bootstrap q) new i f h = takes_bootstrap d q new i (none_there (map.get d.state.answers q.0) question_in_use f) h
  taken d (plain.Call c) new i f h = takes_call d c new i (none_there (map.get d.state.answers c.question.0) question_in_use (first_check (if_so (is_some (map.get d.state.answers c.question.0)) question_in_use) (call_checks d.state c) f)) h
  taken d (plain.Return r) new i f h = takes_return d r _ new refl f h
  taken d (plain.Finish x) new i f h = takes_finish d x _ new refl f h
  taken d (plain.Resolve r) new i f h = (new, h, tt, (NoMore, tt))
  taken d (plain.Release r) new i f h = (new, h, tt, (NoMore, tt))
  taken d (plain.Disembargo x) new i f h = disembargo d x.target x.context new i h
  taken d (plain.Other n) new i f h = (new, h, tt, (NoMore, tt))

pub handles_whole : (s : State) (m : PlainMessage) (x : Effects) (new : State) → Whole s → s.level ≡ One → fault_of s (message.Plain m) ≡ None → Handles s (message.Plain m) x new → (mid : Progress) × (h : Consumes m (begin s) mid) × NamesAtOnce (begin s) mid m h × NamingActs mid x new
handles_whole s m x new i l f h =
    let near = looked_at s.level m l in
    let g : plain_fault s m ≡ None = ap (λ b. unless_foreign b (plain_fault s m)) (sym near) ∙ f in
    let t : TakesPlain (begin s) m h.taken = subst (λ (b : Bool). TakesUnless b (begin s) m h.taken) near h.takes in
    let k = taken (begin s) m h.taken i.fine g t in
    (k.0, k.1, k.2, ended k.0 h.taken x new k.3 (takes_on (begin s) (message.Plain m) h.taken refl i.fine f h.takes) h.ends)

pub handles : (s : State) (m : PlainMessage) (x : Effects) (new : State) → IsReached s → s.level ≡ One → fault_of s (message.Plain m) ≡ None → Handles s (message.Plain m) x new → (mid : Progress) × (h : Consumes m (begin s) mid) × NamesAtOnce (begin s) mid m h × NamingActs mid x new
handles s m x new r l f h = handles_whole s m x new (reached s r) l f h
