-- What each step is made of, after the first act of its command or message: a list of small acts. Each is exact: it says
-- what the moment is afterwards, field by field, so what it leaves as it is, is so by computation.
use Rattle.std.specs.Prelude.{◌≡◌, ◌⊎◌, ℕ, ◌+◌, Bool, true, false, Option, None, Some, IsSome, List, [], ◌∷◌, ◌++◌}
use Rattle.std.specs.FinMap as map
use Rattle.rpc_machine.specs.rpc_msg.specs.declared.ids.ObjectId.{ObjectId}
use Rattle.rpc_machine.specs.rpc_msg.specs.declared.ids.QuestionId.{QuestionId}
use Rattle.rpc_machine.specs.rpc_msg.specs.Op.{Op}
use Rattle.rpc_machine.specs.rpc_msg.specs.declared.parts.Descriptor.{Descriptor}
use Rattle.rpc_machine.specs.rpc_msg.specs.declared.parts.Target.{Target}
use Rattle.rpc_machine.specs.rpc_msg.specs.declared.message.Message.{Message}
use Rattle.rpc_machine.specs.rpc_msg.specs.declared.message.Message.TheVariants as message
use Rattle.rpc_machine.specs.rpc_msg.specs.declared.message.ReturnBody.{ReturnBody}
use Rattle.rpc_machine.specs.rpc_msg.specs.declared.message.ResolvedTo.TheVariants as resolved
use Rattle.rpc_machine.specs.rpc_msg.specs.declared.message.PlainMessage.TheVariants as plain
use Rattle.rpc_machine.specs.rpc_msg.specs.Messages.{given}
use Rattle.finite_maps.specs.Tally.{Map}
use Rattle.rpc_machine.specs.rpc_journal.specs.declared.report.Delivery.{Delivery}
use Rattle.rpc_machine.specs.declared.node.Node.{Node}
use Rattle.rpc_machine.specs.declared.node.Node.TheVariants as node
use Rattle.rpc_machine.specs.declared.node.Reason.{Reason}
use Rattle.rpc_machine.specs.declared.calls.WaitingCall.{WaitingCall}
use Rattle.rpc_machine.specs.declared.calls.HeldCall.{HeldCall}
use Rattle.rpc_machine.specs.declared.calls.Promise.{Promise}
use Rattle.rpc_machine.specs.declared.calls.Promise.TheVariants as promise
use Rattle.rpc_machine.specs.declared.calls.Value.{Value}
use Rattle.rpc_machine.specs.declared.calls.Value.TheVariants as value
use Rattle.rpc_machine.specs.declared.calls.Caller.{Caller}
use Rattle.rpc_machine.specs.declared.calls.Caller.TheVariants as caller
use Rattle.rpc_machine.specs.declared.calls.KeptOutcome.{KeptOutcome}
use Rattle.rpc_machine.specs.declared.calls.OwnCall.{OwnCall}
use Rattle.rpc_machine.specs.declared.command.Command.{Command}
use Rattle.rpc_machine.specs.declared.command.Granted.{Granted}
use Rattle.rpc_machine.specs.declared.command.Effects.{Effects}
use Rattle.rpc_machine.specs.declared.entries.Role.{Role}
use Rattle.rpc_machine.specs.declared.entries.Role.TheVariants as role
use Rattle.rpc_machine.specs.declared.entries.Returned.{Returned}
use Rattle.rpc_machine.specs.declared.entries.Finishing.TheVariants as finishing
use Rattle.rpc_machine.specs.declared.entries.Question.{Question}
use Rattle.rpc_machine.specs.declared.entries.AnswerEntry.{AnswerEntry}
use Rattle.rpc_machine.specs.declared.entries.Export.{Export}
use Rattle.rpc_machine.specs.declared.entries.Import.{Import}
use Rattle.rpc_machine.specs.State.{State}
use Rattle.rpc_machine.specs.Nodes.{settle, is_promise, is_field, is_import}
use Rattle.rpc_machine.specs.Places.{names}
use Rattle.rpc_machine.specs.Progress.{with_refs, new_refs, numbers, outcome_of, caps_of, export_id}
use Rattle.rpc_machine.specs.Routing.{failed, reason_text}
use Rattle.rpc_machine.specs.Collecting.{CallerIsDone, IsTight}
use Rattle.rpc_machine.specs.Flags.{give_back, flag_for}
use Rattle.rpc_machine.specs.Settling.{Fits, returned_map, or_failed, resolve_message, exports_where}
use Rattle.rpc_machine.specs.Sweeping.{Withers, closed_map, got_of}
use Rattle.rpc_machine.specs.Advancing.{wire_target}
use Rattle.rpc_machine.specs.Steps.{Does, Handles, staying_up}
use Rattle.rpc_machine.specs.Faults.{fault_of}
use Rattle.laws_acts.specs.Moments.{Saying, Clearing, Settled, TheOutcome, Owing, Moment, at_rest, beginning, progress, in_state, sending, held_to, is_of, is_collecting, why_of, owing}
use Rattle.laws_acts.specs.GoingOut.{GoesOut, GoOut, Says}
use Rattle.laws_acts.specs.FirstActs.{asked, asking, Starts}
use Rattle.laws_acts.specs.MessageActs.{Consumes}

-- ---- Words

abbrev pub delivery : State → WaitingCall → ObjectId → Delivery
delivery s c o = record {
  task = record { 0 = s.next_task };
  object = o;
  stamp = c.request.stamp;
  interface = c.request.interface;
  method = c.request.method;
  payload = c.request.payload;
  refs = new_refs s.next_ref c.request.caps;
}

-- The outcome as it is kept while its caller is told.
abbrev pub kept_known : Caller → Value → List HeldCall → KeptOutcome
kept_known who v waiting = record { caller = who; value = Some v; waiting = waiting }

-- It is still there; or nobody waited for it, and it is gone.
abbrev pub IsStill : State → Clearing → Type 0
IsStill s x = (map.get s.outcomes x.outcome ≡ Some (kept_known x.caller x.value x.waiting)) ⊎ ((map.get s.outcomes x.outcome ≡ None) × (x.waiting ≡ []))

abbrev pub is_broken : Node → Bool
is_broken (node.Object o) = false
is_broken (node.Promise p) = false
is_broken (node.Field o path) = false
is_broken (node.Import e) = false
is_broken (node.Pipe q path) = false
is_broken (node.Broken reason) = true

-- A question that is finished: a relay's has returned, and the call of a direct one is over.
abbrev pub IsDue : State → Role → Option Returned → Type 0
IsDue s (role.Relay o) r = IsSome r
IsDue s (role.Direct c) r = map.get s.calls c.0 ≡ None

abbrev pub release_messages : List (ℕ × ℕ) → List Message
release_messages [] = []
release_messages (x ∷ xs) = message.Plain (plain.Release (record { export = export_id x.0; count = x.1 })) ∷ release_messages xs

-- ---- One act

pub data Act (d new : Moment) : Type 0 where
  -- A call is routed: it is delivered, waits at a promise or for a field, goes on to a wire, or fails.
  Delivers : (c : WaitingCall) (n : Node) (rest : List (WaitingCall × Node)) (o : ObjectId)
      → d.yet ≡ (c, n) ∷ rest
      → settle d.state n ≡ node.Object o
      → new ≡ record d {
        state = record (d.state) {
          refs = (with_refs d.state c.request.caps).refs;
          next_ref = (with_refs d.state c.request.caps).next_ref;
          tasks = map.insert d.state.tasks d.state.next_task c.outcome;
          next_task = d.state.next_task + 1;
        };
        effects = record (d.effects) { deliveries = d.effects.deliveries ++ delivery d.state c o ∷ [] };
        yet = rest;
      }
      → Act d new
  Waits : (c : WaitingCall) (n : Node) (rest : List (WaitingCall × Node)) (p : ℕ) (calls : List WaitingCall)
      → d.yet ≡ (c, n) ∷ rest
      → settle d.state n ≡ node.Promise p
      → map.get d.state.promises p ≡ Some (promise.Open calls)
      → new ≡ record d { state = record (d.state) { promises = map.insert d.state.promises p (promise.Open (calls ++ c ∷ [])) }; yet = rest }
      → Act d new
  Holds : (c : WaitingCall) (n : Node) (rest : List (WaitingCall × Node)) (o : ℕ) (path : List Op) (x : KeptOutcome)
      → d.yet ≡ (c, n) ∷ rest
      → settle d.state n ≡ node.Field o path
      → map.get d.state.outcomes o ≡ Some x
      → new ≡ record d {
        state = record (d.state) { outcomes = map.insert d.state.outcomes o (record x { waiting = x.waiting ++ record { path = path; call = c } ∷ [] }) };
        yet = rest;
      }
      → Act d new
  Relays : (c : WaitingCall) (n : Node) (rest : List (WaitingCall × Node)) (q : ℕ) (t : Target) (ds : List Descriptor) (es : Map Export)
      → d.yet ≡ (c, n) ∷ rest
      → wire_target (settle d.state n) ≡ Some t
      → map.get d.state.questions q ≡ None
      → GoOut d.state d.state.exports c.request.caps ds es
      → new ≡ sending (record d {
        state = record (d.state) { exports = es; questions = map.insert d.state.questions q (asked (role.Relay c.outcome) ds) };
        yet = rest;
      }) (asking q t c.request ds)
      → Act d new
  Breaks : (c : WaitingCall) (n : Node) (rest : List (WaitingCall × Node)) (reason : Reason)
      → d.yet ≡ (c, n) ∷ rest
      → settle d.state n ≡ node.Broken reason
      → new ≡ record d { arisen = d.arisen ++ (c.outcome, value.Exception (failed (reason_text reason))) ∷ []; yet = rest }
      → Act d new
  -- An outcome becomes known, with the value that fits.
  NextArisen : (o : ℕ) (v : Value) (rest : List (ℕ × Value))
      → d ≡ at_rest (progress d)
      → d.arisen ≡ (o, v) ∷ rest
      → new ≡ record d { arisen = rest; coming = (o, v) ∷ [] }
      → Act d new
  Knows : (o : ℕ) (v fit : Value) (x : KeptOutcome) (ps : Map Promise)
      → d ≡ record (at_rest (progress d)) { coming = (o, v) ∷ [] }
      → map.get d.state.outcomes o ≡ Some x
      → x.value ≡ None
      → Fits d.state o x.caller x.waiting v fit (record (d.state) { promises = ps })
      → new ≡ record d {
        state = record (d.state) { promises = ps; outcomes = map.insert d.state.outcomes o (kept_known x.caller fit x.waiting) };
        coming = [];
        telling = (x.caller, fit) ∷ [];
        clearing = Some (record { outcome = o; caller = x.caller; value = fit; waiting = x.waiting });
      }
      → Act d new
  -- Its caller is told: the application, if it still waits; or the peer.
  Reports : (c : ℕ) (v : Value) (from : OwnCall)
      → d.telling ≡ (caller.Application (record { 0 = c }), v) ∷ []
      → map.get d.state.calls c ≡ Some from
      → new ≡ record d {
        state = record (d.state) { refs = (with_refs d.state (caps_of v)).refs; next_ref = (with_refs d.state (caps_of v)).next_ref };
        effects = record (d.effects) {
          answers = d.effects.answers ++ record { call = record { 0 = c }; outcome = outcome_of v; refs = new_refs d.state.next_ref (caps_of v) } ∷ [];
        };
        telling = [];
      }
      → Act d new
  TellsNobody : (c : ℕ) (v : Value)
      → d.telling ≡ (caller.Application (record { 0 = c }), v) ∷ []
      → map.get d.state.calls c ≡ None
      → new ≡ record d { telling = [] }
      → Act d new
  MakesReturn : (q : QuestionId) (v : Value) (a : AnswerEntry) (b : ReturnBody) (ds : List Descriptor) (es : Map Export)
      → d.telling ≡ (caller.Peer q, v) ∷ []
      → d.saying ≡ None
      → map.get d.state.answers q.0 ≡ Some a
      → Says d.state a.finished v b ds es
      → new ≡ record d {
        state = record (d.state) { exports = es };
        telling = [];
        saying = Some (record { answer = q; body = b; descriptors = ds });
      }
      → Act d new
  SendsReturn : (x : Saying) (a : AnswerEntry)
      → d.saying ≡ Some x
      → map.get d.state.answers x.answer.0 ≡ Some a
      → IsTight d.state
      → new ≡ sending (record d {
        state = record (d.state) {
          imports = (give_back d.state (numbers a.taken)).imports;
          answers = returned_map d.state.answers x.answer.0 a a.finished (given x.descriptors);
        };
        saying = None;
      }) (plain.Return (record { answer = x.answer; release_param_caps = flag_for d.state (numbers a.taken); body = x.body }))
      → Act d new
  -- Then the calls that waited for it are to be routed.
  Clears : (x : Clearing)
      → d ≡ record (at_rest (progress d)) { clearing = Some x }
      → IsStill d.state x
      → new ≡ record d {
        state = record (d.state) { outcomes = map.insert d.state.outcomes x.outcome (kept_known x.caller x.value []) };
        clearing = None;
        yet = held_to x.outcome x.waiting;
        settled = Some (TheOutcome x.outcome);
      }
      → Act d new
  -- And then the exports of what was settled get their Resolves.
  Lists : (x : Settled)
      → d ≡ record (at_rest (progress d)) { settled = Some x }
      → new ≡ record d { settled = None; owed = owing (why_of x) (exports_where (is_of x) (map.entries d.state.exports)) }
      → Act d new
  SendsResolve : (x : Owing) (rest : List Owing) (e : Descriptor) (es : Map Export)
      → d.owed ≡ x ∷ rest
      → is_broken (settle d.state x.node) ≡ false
      → GoesOut d.state.exports (settle d.state (settle d.state x.node)) e es
      → new ≡ sending (record d { state = record (d.state) { exports = es }; owed = rest }) (resolve_message x.export (resolved.Cap e))
      → Act d new
  SendsBroken : (x : Owing) (rest : List Owing) (reason : Reason)
      → d.owed ≡ x ∷ rest
      → settle d.state x.node ≡ node.Broken reason
      → new ≡ sending (record d { owed = rest }) (resolve_message x.export (resolved.Exception (or_failed x.why reason)))
      → Act d new
  -- What no place names goes.
  PromiseGoes : (p : ℕ) (to : Node)
      → is_collecting d ≡ true
      → map.get d.state.promises p ≡ Some (promise.Fixed to)
      → names d.state (is_promise p) ≡ 0
      → new ≡ in_state d (record (d.state) { promises = map.remove d.state.promises p })
      → Act d new
  OutcomeGoes : (o : ℕ) (x : KeptOutcome) (v : Value)
      → is_collecting d ≡ true
      → map.get d.state.outcomes o ≡ Some x
      → x.value ≡ Some v
      → x.waiting ≡ []
      → CallerIsDone d.state o x.caller
      → names d.state (is_field o) ≡ 0
      → new ≡ in_state d (record (d.state) { outcomes = map.remove d.state.outcomes o })
      → Act d new
  ImportGoes : (e : ℕ) (x : Import)
      → is_collecting d ≡ true
      → map.get d.state.imports e ≡ Some x
      → names d.state (is_import e) ≡ 0
      → new ≡ record d { state = record (d.state) { imports = map.remove d.state.imports e }; released = map.insert d.released e x.count }
      → Act d new
  -- The end of the step: the questions that are over are finished, and the imports that went are released.
  Sweeps : (over : Map Question)
      → d ≡ at_rest (progress d)
      → d.arisen ≡ []
      → Withers (progress d) over
      → new ≡ record d { over = map.entries over; swept = true }
      → Act d new
  SendsFinish : (q : ℕ) (x : Question) (rest : List (ℕ × Question))
      → d.over ≡ (q, x) ∷ rest
      → map.get d.state.questions q ≡ Some x
      → x.finish ≡ finishing.Owed
      → IsDue d.state x.role x.returned
      → IsTight d.state
      → new ≡ sending (record d {
        state = record (d.state) { imports = (give_back d.state (got_of x.returned)).imports; questions = closed_map d.state.questions q x x.returned };
        over = rest;
      }) (plain.Finish (record { question = record { 0 = q }; release_result_caps = flag_for d.state (got_of x.returned) }))
      → Act d new
  Closes : (q : ℕ) (x : Question) (rest : List (ℕ × Question))
      → d.over ≡ (q, x) ∷ rest
      → map.get d.state.questions q ≡ Some x
      → x.finish ≡ finishing.Waived
      → IsDue d.state x.role x.returned
      → IsTight d.state
      → new ≡ record d { state = record (d.state) { questions = closed_map d.state.questions q x x.returned }; over = rest }
      → Act d new
  Releases : d.swept ≡ true
      → d.over ≡ []
      → IsTight d.state
      → new ≡ record d { effects = record (d.effects) { sends = d.effects.sends ++ release_messages (map.entries d.released) }; released = map.empty }
      → Act d new

-- Acts, one after the other.
pub data Acts (last : Moment) : Moment → Type 0 where
  NoMore : Acts last last
  Then : {d mid : Moment} → Act d mid → Acts last mid → Acts last d

-- ---- Steps

-- Where a step ends: nothing is owed, and nothing is left that would go.
pub record IsEnd (last : Moment) (x : Effects) (t : State) : Type 0 where
  pub state : t ≡ last.state
  pub effects : x ≡ staying_up last.effects
  pub rest : last ≡ record (at_rest (progress last)) { swept = true }
  pub arisen : last.arisen ≡ []
  pub released : last.released ≡ map.empty
  pub tight : IsTight last.state

-- A command is its own act, and then acts.
pub record DoesActs (s : State) (c : Command) (g : Granted) (effects : Effects) (t : State) : Type 0 where
  pub started : Moment
  pub last : Moment
  pub starts : Starts (beginning s) c g started
  pub acts : Acts last started
  pub ends : IsEnd last effects t

-- A received message too.
pub record HandlesActs (s : State) (m : Message) (effects : Effects) (t : State) : Type 0 where
  pub consumed : Moment
  pub last : Moment
  pub consumes : Consumes (beginning s) m consumed
  pub acts : Acts last consumed
  pub ends : IsEnd last effects t

pub record StepsAreSmallActs : Type 0 where
  pub commands : (s : State) (c : Command) (g : Granted) (effects : Effects) (t : State) → Does s c g effects t → DoesActs s c g effects t
  pub messages : (s : State) (m : Message) (effects : Effects) (t : State) → fault_of s m ≡ None → Handles s m effects t → HandlesActs s m effects t
