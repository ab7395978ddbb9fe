-- What each act sends is read as it should: what it names stands then, and stands for the same at the receiver.
use Rattle.std.specs.FinMap as map
use Rattle.std.proofs.Common.{◌≡◌, ℕ, Bool, true, false, List, [], ◌∷◌, ◌++◌, Option, None, Some, IsSome, refl, sym, subst}
use Rattle.finite_maps.specs.Tally.{Map}
use Rattle.finite_maps.proofs.Tested.{itself}
use Rattle.rpc_msg.specs.declared.ids.Vat.{Vat}
use Rattle.rpc_msg.specs.declared.exception.Exception.{Exception}
use Rattle.rpc_msg.specs.declared.parts.Descriptor.{Descriptor}
use Rattle.rpc_msg.specs.declared.parts.Descriptor.TheVariants as descriptor
use Rattle.rpc_msg.specs.declared.parts.Target.{Target}
use Rattle.rpc_msg.specs.declared.parts.Target.TheVariants.{ImportedCap, PromisedAnswer}
use Rattle.rpc_msg.specs.declared.message.PlainMessage.{PlainMessage}
use Rattle.rpc_msg.specs.declared.message.PlainMessage.TheVariants as plain
use Rattle.rpc_msg.specs.declared.message.Message.{Message}
use Rattle.rpc_msg.specs.declared.message.Message.TheVariants as message
use Rattle.rpc_msg.specs.declared.message.ReturnBody.{ReturnBody}
use Rattle.rpc_msg.specs.Messages.{descriptors_of, descriptors_of_body, descriptors_of_resolved, given}
use Rattle.rpc_machine.specs.declared.calls.Caller.{Caller}
use Rattle.rpc_machine.specs.declared.calls.Caller.TheVariants as caller
use Rattle.rpc_machine.specs.declared.calls.OwnCall.TheVariants as own
use Rattle.rpc_machine.specs.declared.calls.Request.{Request}
use Rattle.rpc_machine.specs.declared.calls.Value.{Value}
use Rattle.rpc_machine.specs.declared.calls.Value.TheVariants as value
use Rattle.rpc_machine.specs.declared.command.Granted.{Granted}
use Rattle.rpc_machine.specs.declared.entries.AnswerEntry.{AnswerEntry}
use Rattle.rpc_machine.specs.declared.entries.Finishing.{Finishing}
use Rattle.rpc_machine.specs.declared.entries.Finishing.TheVariants as finishing
use Rattle.rpc_machine.specs.declared.entries.Import.{Import}
use Rattle.rpc_machine.specs.declared.entries.Question.{Question}
use Rattle.rpc_machine.specs.declared.entries.Reference.{Reference}
use Rattle.rpc_machine.specs.declared.entries.Role.{Role}
use Rattle.rpc_machine.specs.declared.entries.Role.TheVariants as role
use Rattle.rpc_machine.specs.declared.node.Node.{Node}
use Rattle.rpc_machine.specs.declared.node.Node.TheVariants as node
use Rattle.rpc_machine.specs.State.{State}
use Rattle.rpc_machine.specs.Advancing.{Embargoes}
use Rattle.rpc_machine.specs.Commands.{counted}
use Rattle.rpc_machine.specs.Nodes.{settle}
use Rattle.rpc_machine.specs.Progress.{Progress, caps_of, with_state}
use Rattle.rpc_machine.specs.Routing.{Asks}
use Rattle.rpc_machine.specs.Settling.{ResolvesBy, ResolvesTo, SaysBack, Tells, TellsPeer, known}
use Rattle.rpc_machine.specs.Sweeping.{IsNotSent}
use Rattle.laws_acts.specs.Acts.{Act, Makes, Drops, AsksRoot, CallsOut, Keeps, Joins, Promises, Unsettles, Answers, Finishes, Heads, Turns, Delivers, Waits, Holds, Relays, Fails, Fixes, Settles, Reports, Resolves, NextArisen, Gone, Ends, Releases}
use Rattle.laws_acts.specs.Sent.{Ids, Noted, asks_sent, end_sent, messages, peer_sent, releases_sent, resolved_to, sent_by, told_sent, turn_sent}
use Rattle.laws_steps.specs.NodesThere.{Stands}
use Rattle.laws_steps.specs.Callers.{IsAskedFor, IsDirectFor}
use Rattle.laws_runs.specs.Questions.{Answerer, Ret, Returns}
use Rattle.laws_runs.specs.Questions as session
use Rattle.laws_runs.specs.Views.{ReturnsAll, answerer_of, if_flag, only, rets}
use Rattle.laws_runs.proofs.Same.{fits}
use Rattle.laws_messages.specs.Mentions.{AllStand, AreNamed, IsNamed, Names, wire}
use Rattle.laws_messages.proofs.Described.{described, describes_all}
use Rattle.laws_routes.specs.Named.{ReturnOf}
use Rattle.laws_routes.specs.Sayings.{Has, has_behind}
use Rattle.laws_meanings.specs.NodeLabels.{Labels}
use Rattle.laws_wires.specs.Wires.{Session, Reader, has_past, past, past_one}
use Rattle.laws_wires.specs.SentWires.{AreOfOne, EachRead, IsReadTarget}
use Rattle.laws_wires.specs.SentLinks.{AllRead}
use Rattle.laws_routes.proofs.ReturnSent.{past_questions}

-- ---- Lists

-- Of the first message that was sent, if it is a Return.
abbrev pub FirstReturn : (ℕ → Type 0) → List Noted → Type 0
FirstReturn P [] = Unit {0}
FirstReturn P (n ∷ ns) = ReturnOf P n.message

-- ---- Answers that are owed

-- The Return of the answer was not sent.
abbrev pub IsOwing : Answerer Ids Ids → Type 0
IsOwing session.NotOpen = ⊥
IsOwing (session.Working x) = Unit {0}
IsOwing (session.Unwanted x) = Unit {0}
IsOwing (session.Answered y) = ⊥
IsOwing session.Strange = ⊥

returns_owed : (v w : Answerer Ids Ids) (r : Ret Ids Ids) → Returns v r w → IsOwing v
returns_owed v w r (session.Answers x y l j) = tt
returns_owed v w r (session.Cancels x y l j) = tt

pub owing_before : (v w : Answerer Ids Ids) (rs : List (Ret Ids Ids)) → ReturnsAll v rs w → IsOwing w → IsOwing v
owing_before v w [] h k = subst IsOwing (sym h) k
owing_before v w (r ∷ rs) h k = returns_owed v h.0 r h.1

module _ (s t : State) where
  first_plain : (m : PlainMessage) (lets : Ids) (ns : List Noted) → ((q : ℕ) → ReturnsAll (answerer_of (map.get s.answers q)) (rets q (record { message = m; lets = lets } ∷ ns)) (answerer_of (map.get t.answers q))) → ReturnOf (λ q. IsOwing (answerer_of (map.get s.answers q))) m
  first_plain (plain.Abort exception) lets ns f = tt
  first_plain (plain.Bootstrap q) lets ns f = tt
  first_plain (plain.Call c) lets ns f = tt
  first_plain (plain.Return r) lets ns f =
      let ret : Ret Ids Ids = session.Return (given (descriptors_of_body r.body)) (if_flag r.release_param_caps lets) in
      let h = subst (λ (b : Bool). ReturnsAll (answerer_of (map.get s.answers r.answer.0)) (only b ret ++ rets r.answer.0 ns) (answerer_of (map.get t.answers r.answer.0))) (itself r.answer.0) (f r.answer.0) in
      returns_owed (answerer_of (map.get s.answers r.answer.0)) h.0 ret h.1
  first_plain (plain.Finish x) lets ns f = tt
  first_plain (plain.Resolve r) lets ns f = tt
  first_plain (plain.Release r) lets ns f = tt
  first_plain (plain.Disembargo x) lets ns f = tt
  first_plain (plain.Other n) lets ns f = tt

  pub first_owed : (sent : List Noted) → ((q : ℕ) → ReturnsAll (answerer_of (map.get s.answers q)) (rets q sent) (answerer_of (map.get t.answers q))) → FirstReturn (λ q. IsOwing (answerer_of (map.get s.answers q))) sent
  first_owed [] f = tt
  first_owed (n ∷ ns) f = first_plain n.message n.lets ns f

return_in : (P Q : ℕ → Type 0) (m : PlainMessage) → ((q : ℕ) → P q → Q q) → ReturnOf P m → ReturnOf Q m
return_in P Q (plain.Abort exception) f h = tt
return_in P Q (plain.Bootstrap q) f h = tt
return_in P Q (plain.Call c) f h = tt
return_in P Q (plain.Return r) f h = f r.answer.0 h
return_in P Q (plain.Finish x) f h = tt
return_in P Q (plain.Resolve r) f h = tt
return_in P Q (plain.Release r) f h = tt
return_in P Q (plain.Disembargo x) f h = tt
return_in P Q (plain.Other n) f h = tt

pub first_in : (P Q : ℕ → Type 0) (sent : List Noted) → ((q : ℕ) → P q → Q q) → FirstReturn P sent → FirstReturn Q sent
first_in P Q [] f h = tt
first_in P Q (n ∷ ns) f h = return_in P Q n.message f h

-- ---- Questions that are named

abbrev pub IfDirect : Role → Type 0 → Type 0
IfDirect (role.Direct c) P = P
IfDirect (role.Relay o) P = Unit {0}

-- A question of the vat's own call, that is not finished, is of what its id stands for.
abbrev pub Agrees : Session → Session → Option Question → Type 0
Agrees a b None = Unit {0}
Agrees a b (Some y) = IsNotSent y.finish → IfDirect y.role (a ≡ b)

direct_agrees : (c : ℕ) (a b : Session) (o : Option Question) → IsAskedFor c o → Agrees a b o → a ≡ b
direct_agrees c a b None h k = absurd h
direct_agrees c a b (Some y) h k = by y.role h.0 (k h.1)
  where
    by : (r : Role) → IsDirectFor c r → IfDirect r (a ≡ b) → a ≡ b
    by (role.Direct i) h k = k
    by (role.Relay o) h k = absurd h

module _ (v : Vat) (m : Labels) (x : Reader) (said : ℕ → Session) where
  pub all_join : (has : Has) (now : ℕ → Session) (ms more : List Message) → AllRead v m x said has now ms → AllRead v m x said (has_past has ms) (past v now ms) more → AllRead v m x said has now (ms ++ more)
  all_join has now [] more k r = r
  all_join has now (message.Plain p ∷ ms) more k r = (k.0, k.1, all_join (has_behind has (descriptors_of (message.Plain p))) (past_one v now (message.Plain p)) ms more k.2 r)
  all_join has now (message.Unimplemented p ∷ ms) more k r = all_join has now ms more k r

  -- What stands is read so.
  pub record Reads (now : ℕ → Session) (s : State) : Type 0 where
    pub imports : (e : ℕ) → IsSome (map.get s.imports e) → x.receiver e ≡ m.import e
    pub asked : (q : ℕ) → Agrees (now q) (m.question q) (map.get s.questions q)

  module _ (now : ℕ → Session) (s : State) (k : Reads now s) where
    pub target_read : (t : Target) → Stands s (wire t) → IsReadTarget m x now t
    target_read (ImportedCap e) h = k.imports e.0 h
    target_read (PromisedAnswer q path) h = direct_agrees h.0 (now q.0) (m.question q.0) (map.get s.questions q.0) h.1 (k.asked q.0)

    each_read : (ds : List Descriptor) → AreNamed s ds → EachRead m x now ds
    each_read [] h = tt
    each_read (descriptor.None ∷ ds) h = (tt, each_read ds h.1)
    each_read (descriptor.SenderHosted e ∷ ds) h = (tt, each_read ds h.1)
    each_read (descriptor.SenderPromise e ∷ ds) h = (tt, each_read ds h.1)
    each_read (descriptor.ReceiverHosted e ∷ ds) h = (k.imports e.0 h.0, each_read ds h.1)
    each_read (descriptor.ReceiverAnswer q path ∷ ds) h = (let a = h.0 in (direct_agrees a.0 (now q.0) (m.question q.0) (map.get s.questions q.0) a.1 (k.asked q.0), each_read ds h.1))

  -- ---- What an act sends

  module _ (has : Has) (now : ℕ → Session) where
    abbrev AllSent : List Noted → Type 0
    AllSent sent = AllRead v m x said has now (messages sent)

    abbrev Aims : ℕ → Type 0
    Aims q = has.question q ≡ true → AreOfOne (said q) (x.question q)

    asks : (from new : Progress) (k : ℕ) (r : Role) (t : Target) (req : Request) → Reads now from.state → Stands from.state (wire t) → AllStand from.state req.caps → (h : Asks from k r t req new) → AllSent (asks_sent from new k r t req h)
    asks from new k r t req i there all h =
        let g = h.1 in
        (each_read now from.state i g.0 (describes_all from.state req.caps g.0 g.1 all g.2), target_read now from.state i t there, tt)

    turns : (d new : Progress) (r : ℕ) (y : Reference) (t : Option Target) (n : Node) (g : Granted) (h : Embargoes d r y t n g new) → AllSent (turn_sent d new r y t n g h)
    turns d new r y None n g h = absurd h
    turns d new r y (Some t) n g h = (tt, tt, tt)

    named_back : (s : State) (b : Bool) (w : Value) (r : ReturnBody) (ds : List Descriptor) (new : State) → AllStand s (caps_of w) → SaysBack s b w r ds new → AreNamed s (descriptors_of_body r)
    named_back s true w r ds new k h = rw h.0 tt
    named_back s false (value.Exception y) r ds new k h = rw h.0 tt
    named_back s false (value.Results payload caps) r ds new k h = rw h.0 (describes_all s caps ds new k h.1)

    tells : (from new : Progress) (who : Caller) (w : Value) → Reads now from.state → AllStand from.state (caps_of w) → (h : Tells from who w new) → FirstReturn Aims (told_sent from new who w h) → AllSent (told_sent from new who w h)
    tells from new (caller.Application c) w i all h o = tt
    tells from new (caller.Peer p) w i all h o = by (map.get from.state.answers p.0) h o
      where
        by : (a : Option AnswerEntry) (g : TellsPeer from p w a new) → FirstReturn Aims (peer_sent from new p w a g) → AllSent (peer_sent from new p w a g)
        by None g o = tt
        by (Some a) g o = (each_read now from.state i (descriptors_of_body g.0) (named_back from.state a.finished w g.0 g.1 g.2 all g.3), o, tt)

    resolves_one : (d new : Progress) (i : ℕ) (n : Node) → Stands d.state (settle d.state n) → (h : ResolvesTo d i n new) → IsNamed d.state h.0
    resolves_one d new i n k h = let a = described d.state (settle d.state n) h.0 h.1 h.2 k in a.0

    resolved_named : (d new : Progress) (i : ℕ) (y : Option Exception) (n : Node) → Stands d.state (settle d.state n) → (h : ResolvesBy d i y n new) → AreNamed d.state (descriptors_of_resolved (resolved_to d new i y n h))
    resolved_named d new i y (node.Object o) k h = (resolves_one d new i (node.Object o) k h, tt)
    resolved_named d new i y (node.Promise p) k h = (resolves_one d new i (node.Promise p) k h, tt)
    resolved_named d new i y (node.Field o path) k h = (resolves_one d new i (node.Field o path) k h, tt)
    resolved_named d new i y (node.Import j) k h = (resolves_one d new i (node.Import j) k h, tt)
    resolved_named d new i y (node.Pipe p path) k h = (resolves_one d new i (node.Pipe p path) k h, tt)
    resolved_named d new i y (node.Broken reason) k h = tt

    ends : (d : Progress) (k : ℕ) (y : Question) (f : Finishing) → AllSent (end_sent d k y f)
    ends d k y finishing.Owed = (tt, tt, tt)
    ends d k y finishing.Sent = tt
    ends d k y finishing.Waived = tt

  releases : (has : Has) (now : ℕ → Session) (es : List (ℕ × ℕ)) → AllSent has now (releases_sent es)
  releases has now [] = tt
  releases has now (e ∷ es) = (tt, tt, releases _ now es)

  module _ (has : Has) (now : ℕ → Session) where
    pub all_sent_read : (d new : Progress) (a : Act d new) → Names a → Reads now d.state → FirstReturn (Aims has now) (sent_by a) → AllSent has now (sent_by a)
    all_sent_read d new (Makes n h) k i o = tt
    all_sent_read d new (Drops r y there h) k i o = tt
    all_sent_read d new (AsksRoot g h) k i o = (tt, tt, tt)
    all_sent_read d new (CallsOut r y c p t there h) k i o =
        asks has now (with_state d (record (counted d.state r y) { calls = map.insert (counted d.state r y).calls c (own.Direct (record { 0 = h.0 })) })) new h.0 (role.Direct (record { 0 = c })) t p (record { imports = i.imports; asked = i.asked }) k.0 k.1 h.1
    all_sent_read d new (Keeps r y c w there free h) k i o = tt
    all_sent_read d new (Joins w e b there h) k i o = tt
    all_sent_read d new (Promises p free h) k i o = tt
    all_sent_read d new (Unsettles p h) k i o = tt
    all_sent_read d new (Answers t h) k i o = tt
    all_sent_read d new (Finishes c h) k i o = tt
    all_sent_read d new (Heads r y n there free h) k i o = tt
    all_sent_read d new (Turns r y t n g there free h) k i o = turns has now d new r y t n g h
    all_sent_read d new (Delivers w b h) k i o = tt
    all_sent_read d new (Waits p calls w there h) k i o = tt
    all_sent_read d new (Holds b y w there h) k i o = tt
    all_sent_read d new (Relays p b t r h) k i o = asks has now d new p (role.Relay b) t r i k.0 k.1 h
    all_sent_read d new (Fails b w h) k i o = tt
    all_sent_read d new (Fixes p calls to there h) k i o = tt
    all_sent_read d new (Settles b y w fit mid told there unknown f t h) k i o =
        let same = fits d.state b y.caller y.waiting w fit mid f in
        let from : Progress = with_state d (known mid b y.caller y.waiting fit) in
        let at : Reads now from.state = record {
          imports = λ e n. i.imports e (subst (λ (z : Map Import). IsSome (map.get z e)) same.ids.imports n);
          asked = λ q. subst (λ (z : Map Question). Agrees (now q) (m.question q) (map.get z q)) (sym same.ids.tables.questions) (i.asked q);
        } in
        tells has now from told y.caller fit at k t o
    all_sent_read d new (Reports c w from there h) k i o = tt
    all_sent_read d new (Resolves e told n h) k i o = (each_read now d.state i (descriptors_of_resolved (resolved_to d new e told (settle d.state n) h)) (resolved_named has now d new e told (settle d.state n) k h), tt, tt)
    all_sent_read d new (NextArisen b w rest f h) k i o = tt
    all_sent_read d new (Gone h) k i o = tt
    all_sent_read d new (Ends p y there due h) k i o = ends has now d p y y.finish
    all_sent_read d new (Releases h) k i o = releases has now (map.entries d.released)
