-- An outcome becomes known, or a promise is fixed (docs/protocol.md, "Settling"; rpc.capnp, Return and Resolve).
use Rattle.std.specs.Prelude.{◌≡◌, ◌⊎◌, ℕ, zero, suc, ◌+◌, Bool, true, false, cond, Option, None, Some, List, [], ◌∷◌, ◌++◌}
use Rattle.std.specs.FinMap as map
use Rattle.rpc_journal.specs.rpc_msg.specs.declared.ids.QuestionId.{QuestionId}
use Rattle.rpc_journal.specs.rpc_msg.specs.Op.{Op}
use Rattle.rpc_journal.specs.rpc_msg.specs.CapAt.TheVariants.{Cap}
use Rattle.rpc_journal.specs.rpc_msg.specs.declared.parts.Descriptor.{Descriptor}
use Rattle.rpc_journal.specs.rpc_msg.specs.declared.exception.Exception.{Exception}
use Rattle.rpc_journal.specs.rpc_msg.specs.Payloads.{Contents as Payload}
use Rattle.rpc_journal.specs.rpc_msg.specs.declared.message.ReturnBody.{ReturnBody}
use Rattle.rpc_journal.specs.rpc_msg.specs.declared.message.ReturnBody.TheVariants as body
use Rattle.rpc_journal.specs.rpc_msg.specs.declared.message.ResolvedTo.{ResolvedTo}
use Rattle.rpc_journal.specs.rpc_msg.specs.declared.message.ResolvedTo.TheVariants as resolved
use Rattle.rpc_journal.specs.rpc_msg.specs.declared.message.PlainMessage.{PlainMessage}
use Rattle.rpc_journal.specs.rpc_msg.specs.declared.message.PlainMessage.TheVariants as plain
use Rattle.rpc_journal.specs.rpc_msg.specs.Messages.{given}
use Rattle.finite_maps.specs.Tally.{Map}
use Rattle.rpc_machine.specs.Payloads.{cap_at}
use Rattle.rpc_machine.specs.declared.node.Node.{Node}
use Rattle.rpc_machine.specs.declared.node.Node.TheVariants as node
use Rattle.rpc_machine.specs.declared.node.Reason.{Reason}
use Rattle.rpc_machine.specs.declared.node.Reason.TheVariants.{NotACapability}
use Rattle.rpc_machine.specs.declared.calls.HeldCall.{HeldCall}
use Rattle.rpc_machine.specs.declared.calls.Promise.{Promise}
use Rattle.rpc_machine.specs.declared.calls.Promise.TheVariants as promise
use Rattle.rpc_machine.specs.declared.calls.Value.{Value}
use Rattle.rpc_machine.specs.declared.calls.Value.TheVariants as value
use Rattle.rpc_machine.specs.declared.calls.Caller.{Caller}
use Rattle.rpc_machine.specs.declared.calls.Caller.TheVariants as caller
use Rattle.rpc_machine.specs.declared.calls.OwnCall.{OwnCall}
use Rattle.rpc_machine.specs.declared.calls.KeptOutcome.{KeptOutcome}
use Rattle.rpc_machine.specs.declared.entries.AnswerEntry.{AnswerEntry}
use Rattle.rpc_machine.specs.declared.entries.Export.{Export}
use Rattle.rpc_machine.specs.State.{State}
use Rattle.rpc_machine.specs.Nodes.{settle, follow, is_promise, is_field}
use Rattle.rpc_machine.specs.Descriptors.{Describes, DescribesAll}
use Rattle.rpc_machine.specs.Progress.{Progress, with_state, send, tell_ended, with_refs, new_refs, outcome_of, caps_of, export_id, export_ids, numbers}
use Rattle.rpc_machine.specs.Routing.{RoutesAll, RoutesHeld, failed, reason_text}
use Rattle.rpc_machine.specs.Collecting.{Collects}
use Rattle.rpc_machine.specs.Flags.{flag_for, give_back}

-- ---- The value of an outcome

-- The outcome is known from now on.
abbrev pub known : State → ℕ → Caller → List HeldCall → Value → State
known s o who waiting v = record s { outcomes = map.insert s.outcomes o (record { caller = who; value = Some v; waiting = waiting }) }

-- A node leads to a field of the outcome o at whose path the capability i stands.
abbrev pub TurnsBack : State → ℕ → Payload → ℕ → Node → Type 0
TurnsBack s o payload i n = (k : ℕ) × (path : List Op) × (follow s k n ≡ node.Field o path) × (cap_at payload path ≡ Cap i)

-- That many capabilities which do not stand yet: what leads to one of them goes no further.
abbrev pub absent : ℕ → List Node
absent zero = []
absent (suc n) = node.Broken NotACapability ∷ absent n

-- The outcome is known, but of its capabilities only those behind the index i stand.
abbrev pub behind : State → ℕ → Caller → List HeldCall → Payload → ℕ → List Node → State
behind s o who waiting payload i rest = known s o who waiting (value.Results payload (absent (suc i) ++ rest))

-- The capability i is put before those behind it. Where it leads to itself by them, an open promise that no command
-- settles takes its place.
abbrev pub PutsIn : State → ℕ → Caller → List HeldCall → Payload → ℕ → Node → List Node → List Node → State → Type 0
PutsIn s o who waiting payload i n rest out new =
    (¬ (TurnsBack (behind s o who waiting payload i rest) o payload i n) × (out ≡ n ∷ rest) × (new ≡ s))
    ⊎ (TurnsBack (behind s o who waiting payload i rest) o payload i n
    × ((p : ℕ) × (map.get s.promises p ≡ None) × (out ≡ node.Promise p ∷ rest) × (new ≡ record s { promises = map.insert s.promises p (promise.Open []) })))

-- The capabilities from i on, the last put in place first. So the first of each circle is replaced, and it alone.
abbrev pub Untangles : State → ℕ → Caller → List HeldCall → Payload → ℕ → List Node → List Node → State → Type 0
Untangles s o who waiting payload i [] out new = (out ≡ []) × (new ≡ s)
Untangles s o who waiting payload i (n ∷ ns) out new =
    (rest : List Node) × (mid : State) × Untangles s o who waiting payload (i + 1) ns rest mid × PutsIn mid o who waiting payload i n rest out new

-- The value that an outcome takes, with the promises that it needs so that no capability leads to itself.
abbrev pub Fits : State → ℕ → Caller → List HeldCall → Value → Value → State → Type 0
Fits s o who waiting (value.Exception exception) v new = (v ≡ value.Exception exception) × (new ≡ s)
Fits s o who waiting (value.Results payload caps) v new =
    (out : List Node) × (v ≡ value.Results payload out) × Untangles s o who waiting payload 0 caps out new

-- ---- The caller is told

-- The application is told, with one new reference for each capability.
abbrev pub report : Progress → ℕ → Value → Progress
report d c v =
    tell_ended (with_state d (with_refs (d.state) (caps_of v)))
    (record { call = record { 0 = c }; outcome = outcome_of v; refs = new_refs d.state.next_ref (caps_of v) })

abbrev pub TellsCall : Progress → ℕ → Value → Option OwnCall → Progress → Type 0
TellsCall d c v None new = new ≡ d
TellsCall d c v (Some from) new = new ≡ report d c v

-- What a Return says, and the descriptors that it carries.
abbrev pub SaysBack : State → Bool → Value → ReturnBody → List Descriptor → State → Type 0
SaysBack s true v said ds new = (said ≡ body.Canceled) × (ds ≡ []) × (new ≡ s)
SaysBack s false (value.Exception exception) said ds new = (said ≡ body.Exception exception) × (ds ≡ []) × (new ≡ s)
SaysBack s false (value.Results payload caps) said ds new = (said ≡ body.Results payload ds) × DescribesAll s caps ds new

-- The answer's Return was sent: the answer closes, if its Finish has come.
abbrev pub returned_map : Map AnswerEntry → ℕ → AnswerEntry → Bool → List ℕ → Map AnswerEntry
returned_map m q a true ids = map.remove m q
returned_map m q a false ids = map.insert m q (record a { returned = Some (export_ids ids) })

abbrev pub returned : State → ℕ → AnswerEntry → List ℕ → State
returned s q a ids = record s { answers = returned_map s.answers q a a.finished ids }

-- A Return is sent. What no place names is gone before its flag is made.
abbrev pub Returns : Progress → QuestionId → AnswerEntry → Value → Progress → Type 0
Returns d q a v new =
    (said : ReturnBody) × (ds : List Descriptor) × (mid : State) × SaysBack d.state a.finished v said ds mid
    × ((then : Progress) × Collects then (with_state d mid)
    × (new ≡ send (with_state then (returned (give_back then.state (numbers a.taken)) q.0 a (given ds)))
    (plain.Return (record { answer = q; release_param_caps = flag_for then.state (numbers a.taken); body = said }))))

abbrev pub TellsPeer : Progress → QuestionId → Value → Option AnswerEntry → Progress → Type 0
TellsPeer d q v None new = ⊥
TellsPeer d q v (Some a) new = Returns d q a v new

abbrev pub Tells : Progress → Caller → Value → Progress → Type 0
Tells d (caller.Application c) v new = TellsCall d c.0 v (map.get d.state.calls c.0) new
Tells d (caller.Peer q) v new = TellsPeer d q v (map.get d.state.answers q.0) new

-- ---- Resolves

abbrev pub or_failed : Option Exception → Reason → Exception
or_failed None reason = failed (reason_text reason)
or_failed (Some exception) reason = exception

abbrev pub resolve_message : ℕ → ResolvedTo → PlainMessage
resolve_message e to = plain.Resolve (record { promise = export_id e; to = to })

abbrev pub ResolvesTo : Progress → ℕ → Node → Progress → Type 0
ResolvesTo d e n new =
    (said : Descriptor) × (mid : State) × Describes d.state n said mid
    × (new ≡ send (with_state d mid) (resolve_message e (resolved.Cap said)))

-- By where the node settles.
abbrev pub ResolvesBy : Progress → ℕ → Option Exception → Node → Progress → Type 0
ResolvesBy d e told (node.Object o) new = ResolvesTo d e (node.Object o) new
ResolvesBy d e told (node.Promise p) new = ResolvesTo d e (node.Promise p) new
ResolvesBy d e told (node.Field o path) new = ResolvesTo d e (node.Field o path) new
ResolvesBy d e told (node.Import i) new = ResolvesTo d e (node.Import i) new
ResolvesBy d e told (node.Pipe q path) new = ResolvesTo d e (node.Pipe q path) new
ResolvesBy d e told (node.Broken reason) new = new ≡ send d (resolve_message e (resolved.Exception (or_failed told reason)))

-- One Resolve for each of these exports, in order.
abbrev pub ResolvesEach : Progress → Option Exception → List (ℕ × Node) → Progress → Type 0
ResolvesEach d told [] new = new ≡ d
ResolvesEach d told (x ∷ xs) new = (mid : Progress) × ResolvesBy d x.0 told (settle d.state x.1) mid × ResolvesEach mid told xs new

-- The exports of such nodes, by rising id.
abbrev pub exports_where : (Node → Bool) → List (ℕ × Export) → List (ℕ × Node)
exports_where test [] = []
exports_where test (e ∷ es) = cond (test e.1.node) ((e.0, e.1.node) ∷ exports_where test es) (exports_where test es)

-- The exports of such nodes get their Resolves.
abbrev pub SendsResolves : Progress → Option Exception → (Node → Bool) → Progress → Type 0
SendsResolves d told test new = ResolvesEach d told (exports_where test (map.entries d.state.exports)) new

-- ---- The whole

-- An outcome becomes known once.
abbrev pub SettlesOpen : Progress → ℕ → Value → KeptOutcome → Option Value → Progress → Type 0
SettlesOpen d o v x (Some before) new = ⊥
SettlesOpen d o v x None new =
    (fit : Value) × (mid : State) × Fits d.state o x.caller x.waiting v fit mid
    × ((told : Progress) × Tells (with_state d (known mid o x.caller x.waiting fit)) x.caller fit told
    × ((routed : Progress) × RoutesHeld (with_state told (known told.state o x.caller [] fit)) o x.waiting routed
    × SendsResolves routed None (is_field o) new))

abbrev pub SettlesFrom : Progress → ℕ → Value → Option KeptOutcome → Progress → Type 0
SettlesFrom d o v None new = ⊥
SettlesFrom d o v (Some x) new = SettlesOpen d o v x x.value new

-- The outcome o becomes known. First its caller is told; then the calls that waited are routed in order; then the
-- exports of its fields get their Resolves.
abbrev pub SettlesOutcome : Progress → ℕ → Value → Progress → Type 0
SettlesOutcome d o v new = SettlesFrom d o v (map.get d.state.outcomes o) new

abbrev pub FixesFrom : Progress → ℕ → Node → Option Exception → Option Promise → Progress → Type 0
FixesFrom d p to told None new = ⊥
FixesFrom d p to told (Some (promise.Fixed before)) new = ⊥
FixesFrom d p to told (Some (promise.Open calls)) new =
    (routed : Progress)
    × RoutesAll (with_state d (record (d.state) { promises = map.insert d.state.promises p (promise.Fixed to) })) calls (node.Promise p) routed
    × SendsResolves routed told (is_promise p) new

-- The promise p is fixed to a node: the calls that waited are routed in order, then its exports get their Resolves.
abbrev pub FixesPromise : Progress → ℕ → Node → Option Exception → Progress → Type 0
FixesPromise d p to told new = FixesFrom d p to told (map.get d.state.promises p) new

-- The outcomes that arose are settled in the order in which they arose, and those that arise thereby behind them.
pub data Drains (new : Progress) : Progress → Type 0 where
  NoneLeft : new.arisen ≡ [] → Drains new new
  OneMore : {d mid : Progress} (o : ℕ) (v : Value) (rest : List (ℕ × Value)) → d.arisen ≡ (o, v) ∷ rest → SettlesOutcome (record d { arisen = rest }) o v mid → Drains new mid → Drains new d
