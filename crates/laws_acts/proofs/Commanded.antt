-- What a command does first is its first act, and then acts.
use Rattle.std.proofs.Common.{◌≡◌, ◌≢◌, inl, inr, ℕ, true, false, List, [], ◌∷◌, Option, None, Some, refl, ap, ◌∙◌}
use Rattle.std.specs.FinMap as map
use Rattle.rpc_machine.specs.rpc_msg.specs.declared.ids.CallId.{CallId}
use Rattle.rpc_machine.specs.rpc_msg.specs.declared.ids.EmbargoId.{EmbargoId}
use Rattle.rpc_machine.specs.rpc_msg.specs.declared.ids.PromiseId.{PromiseId}
use Rattle.rpc_machine.specs.rpc_msg.specs.declared.ids.RefId.{RefId}
use Rattle.rpc_machine.specs.rpc_msg.specs.declared.ids.TaskId.{TaskId}
use Rattle.rpc_machine.specs.rpc_msg.specs.Op.{Op}
use Rattle.rpc_machine.specs.rpc_msg.specs.Payloads.{Contents as Payload}
use Rattle.rpc_machine.specs.rpc_msg.specs.declared.parts.Descriptor.{Descriptor}
use Rattle.rpc_machine.specs.rpc_msg.specs.declared.parts.Descriptor.TheVariants as descriptor
use Rattle.rpc_machine.specs.rpc_msg.specs.declared.parts.Target.{Target}
use Rattle.rpc_machine.specs.rpc_msg.specs.declared.parts.Target.TheVariants.{ImportedCap, PromisedAnswer}
use Rattle.rpc_machine.specs.rpc_msg.specs.declared.exception.Exception.{Exception}
use Rattle.rpc_machine.specs.rpc_journal.specs.declared.report.Advanced.TheVariants as advanced
use Rattle.rpc_machine.specs.declared.node.Node.{Node}
use Rattle.rpc_machine.specs.declared.node.Node.TheVariants as node
use Rattle.rpc_machine.specs.declared.node.Reason.TheVariants.{BrokenPromise}
use Rattle.rpc_machine.specs.declared.calls.WaitingCall.{WaitingCall}
use Rattle.rpc_machine.specs.declared.calls.Promise.{Promise}
use Rattle.rpc_machine.specs.declared.calls.Promise.TheVariants as promise
use Rattle.rpc_machine.specs.declared.calls.OwnCall.{OwnCall}
use Rattle.rpc_machine.specs.declared.calls.OwnCall.TheVariants as own
use Rattle.rpc_machine.specs.declared.calls.Value.TheVariants as value
use Rattle.rpc_machine.specs.declared.command.CallCommand.{CallCommand}
use Rattle.rpc_machine.specs.declared.command.Command.{Command}
use Rattle.rpc_machine.specs.declared.command.Command.TheVariants as command
use Rattle.rpc_machine.specs.declared.command.Granted.{Granted}
use Rattle.rpc_machine.specs.declared.command.Granted.TheVariants as granted
use Rattle.rpc_machine.specs.declared.entries.Role.TheVariants as role
use Rattle.rpc_machine.specs.declared.entries.Question.{Question}
use Rattle.rpc_machine.specs.declared.entries.Reference.{Reference}
use Rattle.rpc_machine.specs.declared.entries.Embargo.{Embargo}
use Rattle.rpc_machine.specs.State.{State}
use Rattle.rpc_machine.specs.Nodes.{settle, is_wire}
use Rattle.rpc_machine.specs.Progress.{Progress, begin, with_state}
use Rattle.rpc_machine.specs.Settling.{FixesFrom}
use Rattle.rpc_machine.specs.Commands.{request, counted, kept, field_node, settled_now, answered, heads, NewRef, ClonesRef, DropsRef, AsksBootstrap, CallsHere, CallsBy, WaitsForEmbargo, CallsThrough, MakesCall, NamesField, ResolvesPromise, RejectsPromise, AnswersTask, FinishesCall}
use Rattle.rpc_machine.specs.Commands as commands
use Rattle.rpc_machine.specs.Advancing.{Known, NothingYet, IsBroken, Leads, known_of_wire, wire_target, Embargoes, AdvancesBy, AdvancesTo, AdvancesFrom, Advances}
use Rattle.rpc_machine.specs.Steps.{Does}
use Rattle.rpc_machine.specs.declared.command.Effects.{Effects}
use Rattle.laws_acts.specs.Moments.{Moment, at_rest, beginning, sending, each_to, ThePromise}
use Rattle.laws_acts.specs.FirstActs.{asked, asking, keeping, waiting_call, is_sender, is_receiver, Starts}
use Rattle.laws_acts.specs.FirstActs as first
use Rattle.laws_acts.specs.SmallActs.{Acts, NoMore, DoesActs}
use Rattle.laws_acts.proofs.Alone.{go_out, same_out}
use Rattle.laws_acts.proofs.Pieces.{then, routes, routes_all, settles, lists}
use Rattle.laws_acts.proofs.Ends.{ended}

abbrev pub Begun : State → Command → Granted → Progress → Type 0
Begun s c g new = (m : Moment) × Starts (beginning s) c g m × Acts (at_rest new) m

-- It is the first act alone.
alone : {s : State} {c : Command} {g : Granted} {new : Progress} → Starts (beginning s) c g (at_rest new) → Begun s c g new
alone {new} h = (at_rest new, h, NoMore)

-- ---- Calls

module _ (s : State) (k : CallCommand) (x : Reference) (g : Granted) (new : Progress) (there : map.get s.refs k.reference.0 ≡ Some x) (answer : g ≡ first.next_call_of s) where
  abbrev made : Progress
  made = with_state (begin s) (counted s k.reference.0 x)

  here : x.embargo ≡ None → is_wire (settle s x.head) ≡ false → CallsHere made s.next_call (request s k x) x.head new → Begun s (command.Call k) g new
  here free w h =
      let mid = kept made s.next_call h.0 in
      let c : WaitingCall = waiting_call s k x h.0 in
      (record (at_rest mid) { yet = (c, x.head) ∷ [] }, first.CallsHere k x h.0 refl there free w h.1 answer refl, routes (at_rest mid) c x.head [] new h.2)

  out : (t : Target) → x.embargo ≡ None → wire_target (settle s x.head) ≡ Some t → commands.CallsDirect made s.next_call (request s k x) t new → Begun s (command.Call k) g new
  out t free w h =
      let q : ℕ = h.0 in
      let a = h.1 in
      let b = a.1 in
      let u : State = record (counted s k.reference.0 x) { calls = map.insert s.calls s.next_call (own.Direct (record { 0 = q })) } in
      let e = go_out u (heads s k.refs) b.0 b.1 b.2 in
      let entry : Question = asked (role.Direct (record { 0 = s.next_call })) b.0 in
      alone (first.CallsOut k x q t b.0 e.0 refl there free w a.0 (same_out s u.refs u.calls u.next_call s.exports (heads s k.refs) b.0 e.0 e.1) answer
      (ap at_rest b.3 ∙ ap (λ (v : State). sending (record (beginning s) { state = record v { questions = map.insert v.questions q entry } }) (asking q t (request s k x) b.0)) e.2))

  by : (n : Node) → settle s x.head ≡ n → x.embargo ≡ None → CallsBy made s.next_call (request s k x) x.head n new → Begun s (command.Call k) g new
  by (node.Object o) e free h = here free (ap is_wire e) h
  by (node.Promise p) e free h = here free (ap is_wire e) h
  by (node.Field o path) e free h = here free (ap is_wire e) h
  by (node.Import i) e free h = out (ImportedCap i) free (ap wire_target e) h
  by (node.Pipe q path) e free h = out (PromisedAnswer q path) free (ap wire_target e) h
  by (node.Broken reason) e free h = here free (ap is_wire e) h

  through : (o : Option EmbargoId) → x.embargo ≡ o → CallsThrough made s.next_call (request s k x) x.head o new → Begun s (command.Call k) g new
  through None f h = by (settle s x.head) refl f h
  through (Some e) f h = joins (map.get s.embargoes e.0) refl h.2
    where
      joins : (o : Option Embargo) → map.get s.embargoes e.0 ≡ o → WaitsForEmbargo (kept made s.next_call h.0) (waiting_call s k x h.0) e.0 o new → Begun s (command.Call k) g new
      joins None i j = absurd j
      joins (Some b) i j = alone (first.CallsLater k x h.0 e b refl there f i h.1 answer (ap at_rest j))

calls : (s : State) (k : CallCommand) (o : Option Reference) (g : Granted) (new : Progress) → map.get s.refs k.reference.0 ≡ o → MakesCall (begin s) k o g new → Begun s (command.Call k) g new
calls s k None g new e h = absurd h
calls s k (Some x) g new e h = through s k x g new e h.0 x.embargo refl h.1

-- ---- References, fields, tasks

clones : (s : State) (r : RefId) (o : Option Reference) (g : Granted) (new : Progress) → map.get s.refs r.0 ≡ o → ClonesRef (begin s) o g new → Begun s (command.CloneRef r) g new
clones s r None g new e h = absurd h
clones s r (Some x) g new e h = alone (first.Clones r x refl e h.0 (ap at_rest h.1))

drops : (s : State) (r : RefId) (o : Option Reference) (g : Granted) (new : Progress) → map.get s.refs r.0 ≡ o → DropsRef (begin s) r.0 o g new → Begun s (command.DropRef r) g new
drops s r None g new e h = absurd h
drops s r (Some x) g new e h = alone (first.Drops r x refl e h.0 (ap at_rest h.1))

field : (s : State) (k : CallId) (path : List Op) (o : Option OwnCall) (g : Granted) (new : Progress) → map.get s.calls k.0 ≡ o → NamesField (begin s) path o g new → Begun s (command.Field k path) g new
field s k path None g new e h = absurd h
field s k path (Some from) g new e h = alone (first.NamesField k path from refl e h.0 (ap at_rest h.1))

finishes : (s : State) (k : CallId) (o : Option OwnCall) (g : Granted) (new : Progress) → map.get s.calls k.0 ≡ o → FinishesCall (begin s) k.0 o g new → Begun s (command.Finish k) g new
finishes s k None g new e h = absurd h
finishes s k (Some from) g new e h = alone (first.Finishes k from refl e h.0 (ap at_rest h.1))

answers : (s : State) (t : TaskId) (payload : Payload) (refs : List RefId) (o : Option ℕ) (g : Granted) (new : Progress) → map.get s.tasks t.0 ≡ o → AnswersTask (begin s) t.0 (value.Results payload (heads s refs)) o g new → Begun s (command.Answer t payload refs) g new
answers s t payload refs None g new e h = absurd h
answers s t payload refs (Some o) g new e h =
    let v = value.Results payload (heads s refs) in
    (record (at_rest (answered (begin s) t.0)) { coming = (o, v) ∷ [] }, first.Answers t payload refs o refl e h.0 refl, settles (answered (begin s) t.0) o v new h.1)

fails : (s : State) (t : TaskId) (why : Exception) (o : Option ℕ) (g : Granted) (new : Progress) → map.get s.tasks t.0 ≡ o → AnswersTask (begin s) t.0 (value.Exception why) o g new → Begun s (command.Fail t why) g new
fails s t why None g new e h = absurd h
fails s t why (Some o) g new e h =
    let v = value.Exception why in
    (record (at_rest (answered (begin s) t.0)) { coming = (o, v) ∷ [] }, first.Fails t why o refl e h.0 refl, settles (answered (begin s) t.0) o v new h.1)

-- ---- Promises

-- What follows once a promise is fixed.
fixed : (s : State) (p key : ℕ) (to : Node) (why : Option Exception) (new : Progress) (calls : List WaitingCall) → FixesFrom (settled_now (begin s) p) key to why (Some (promise.Open calls)) new
    → Acts (at_rest new) (record (beginning s) {
      state = record s { unsettled = map.remove s.unsettled p; promises = map.insert s.promises key (promise.Fixed to) };
      yet = each_to (node.Promise key) calls;
      settled = Some (ThePromise key why);
    })
fixed s p key to why new calls h =
    let now : State = record s { unsettled = map.remove s.unsettled p; promises = map.insert s.promises key (promise.Fixed to) } in
    then _ (record (at_rest h.0) { settled = Some (ThePromise key why) }) _
    (routes_all (record (beginning s) { state = now; settled = Some (ThePromise key why) }) calls (node.Promise key) h.0 h.1)
    (lists h.0 (ThePromise key why) new h.2)

resolves : (s : State) (p : PromiseId) (r : RefId) (o : Option ℕ) (b : Option Reference) (g : Granted) (new : Progress) → map.get s.unsettled p.0 ≡ o → map.get s.refs r.0 ≡ b → ResolvesPromise (begin s) p.0 o b g new → Begun s (command.Resolve p r) g new
resolves s p r None b g new e f h = absurd h
resolves s p r (Some key) None g new e f h = absurd h
resolves s p r (Some key) (Some x) g new e f h = from (map.get s.promises key) refl h.1
  where
    from : (o : Option Promise) → map.get s.promises key ≡ o → FixesFrom (settled_now (begin s) p.0) key x.head None o new → Begun s (command.Resolve p r) g new
    from None i j = absurd j
    from (Some (promise.Fixed before)) i j = absurd j
    from (Some (promise.Open calls)) i j = (_, first.Fixes p r x key calls refl f e i h.0 refl, fixed s p.0 key x.head None new calls j)

rejects : (s : State) (p : PromiseId) (why : Exception) (o : Option ℕ) (g : Granted) (new : Progress) → map.get s.unsettled p.0 ≡ o → RejectsPromise (begin s) p.0 why o g new → Begun s (command.Reject p why) g new
rejects s p why None g new e h = absurd h
rejects s p why (Some key) g new e h = from (map.get s.promises key) refl h.1
  where
    from : (o : Option Promise) → map.get s.promises key ≡ o → FixesFrom (settled_now (begin s) p.0) key (node.Broken BrokenPromise) (Some why) o new → Begun s (command.Reject p why) g new
    from None i j = absurd j
    from (Some (promise.Fixed before)) i j = absurd j
    from (Some (promise.Open calls)) i j = (_, first.Rejects p why key calls refl e i h.0 refl, fixed s p.0 key (node.Broken BrokenPromise) (Some why) new calls j)

-- ---- Advance

module _ (s : State) (r : RefId) (x : Reference) (g : Granted) (new : Progress) (there : map.get s.refs r.0 ≡ Some x) where
  abbrev wire : Node
  wire = settle s x.head

  turns : (by : Descriptor) (n : Node) (o : Option Target) → wire_target wire ≡ o → x.embargo ≡ None → known_of_wire s wire ≡ Leads by n → is_receiver by ≡ true → settle s n ≢ wire → Embargoes (begin s) r.0 x o n g new → Begun s (command.Advance r) g new
  turns by n None w free k i f h = absurd h
  turns by n (Some t) w free k i f h = let j = h.1 in alone (first.Turns r x by n t j.0 refl there free k i f w j.1 h.0 (ap at_rest j.2))

  advances_by : (by : Descriptor) (n : Node) → x.embargo ≡ None → known_of_wire s wire ≡ Leads by n → settle s n ≢ wire → AdvancesBy (begin s) r.0 x wire by n g new → Begun s (command.Advance r) g new
  advances_by descriptor.None n free k f h = absurd h
  advances_by (descriptor.SenderHosted e) n free k f h = alone (first.Switches r x (descriptor.SenderHosted e) n refl there free k refl f h.0 (ap at_rest h.1))
  advances_by (descriptor.SenderPromise e) n free k f h = alone (first.Switches r x (descriptor.SenderPromise e) n refl there free k refl f h.0 (ap at_rest h.1))
  advances_by (descriptor.ReceiverHosted e) n free k f h = turns (descriptor.ReceiverHosted e) n (wire_target wire) refl free k refl f h
  advances_by (descriptor.ReceiverAnswer q path) n free k f h = turns (descriptor.ReceiverAnswer q path) n (wire_target wire) refl free k refl f h

  stays : g ≡ granted.Advanced advanced.Nothing → new ≡ begin s → Begun s (command.Advance r) g new
  stays a h = alone (first.StaysPut r x refl there a (ap at_rest h))

  advances_to : (k : Known) → known_of_wire s wire ≡ k → x.embargo ≡ None → AdvancesTo (begin s) r.0 x wire k g new → Begun s (command.Advance r) g new
  advances_to NothingYet k free h = stays h.0 h.1
  advances_to (IsBroken reason) k free h = alone (first.Breaks r x reason refl there free k h.0 (ap at_rest h.1))
  advances_to (Leads by n) k free (inl h) = let j = h.1 in stays j.0 j.1
  advances_to (Leads by n) k free (inr h) = advances_by by n free k h.0 h.1

  advances_from : (o : Option EmbargoId) → x.embargo ≡ o → AdvancesFrom (begin s) r.0 x o g new → Begun s (command.Advance r) g new
  advances_from (Some e) f h = stays h.0 h.1
  advances_from None f h = advances_to (known_of_wire s wire) refl f h

advances : (s : State) (r : RefId) (o : Option Reference) (g : Granted) (new : Progress) → map.get s.refs r.0 ≡ o → Advances (begin s) r.0 o g new → Begun s (command.Advance r) g new
advances s r None g new e h = absurd h
advances s r (Some x) g new e h = advances_from s r x g new e x.embargo refl h

-- ---- All

pub begun : (s : State) (c : Command) (g : Granted) (new : Progress) → commands.Acts (begin s) c g new → Begun s c g new
begun s (command.Host o) g new h = alone (first.Hosts o refl h.0 (ap at_rest h.1))
begun s (command.CloneRef r) g new h = clones s r _ g new refl h
begun s (command.DropRef r) g new h = drops s r _ g new refl h
begun s command.Bootstrap g new h = alone (first.AsksRoot h.0 refl h.1 h.2 (ap at_rest h.3))
begun s (command.Call k) g new h = calls s k _ g new refl h
begun s (command.Field k path) g new h = field s k path _ g new refl h
begun s command.Promise g new h = alone (first.Promises h.0 refl h.1 h.2 (ap at_rest h.3))
begun s (command.Resolve p r) g new h = resolves s p r _ _ g new refl refl h
begun s (command.Reject p why) g new h = rejects s p why _ g new refl h
begun s (command.Answer t payload refs) g new h = answers s t payload refs _ g new refl h
begun s (command.Fail t why) g new h = fails s t why _ g new refl h
begun s (command.Finish k) g new h = finishes s k _ g new refl h
begun s (command.Advance r) g new h = advances s r _ g new refl h
begun s (command.Shut n) g new h = absurd h

pub does : (s : State) (c : Command) (g : Granted) (x : Effects) (t : State) → Does s c g x t → DoesActs s c g x t
does s c g x t h =
    let a = begun s c g h.acted h.acts in
    let b = ended h.acted x t h.ends in
    record { started = a.0; last = b.0; starts = a.1; acts = then a.0 (at_rest h.acted) b.0 a.2 b.1; ends = b.2 }
