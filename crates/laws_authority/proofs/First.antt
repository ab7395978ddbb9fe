-- The first act of a command, and of a message, leaves a moment that is covered by what the peer could reach, with what the
-- command gives or the message opens.
use Rattle.std.proofs.Common.{◌≡◌, ◌⊎◌, inl, inr, ℕ, Bool, true, false, ◌&&◌, is_none, List, [], ◌∷◌, Option, None, Some, refl, sym, ap, subst, ◌∙◌}
use Rattle.std.specs.FinMap as map
use Rattle.rpc_msg.specs.Op.{Op}
use Rattle.rpc_msg.specs.Paths.{fields}
use Rattle.rpc_msg.specs.Payloads.{Contents as Payload}
use Rattle.rpc_msg.specs.declared.ids.TaskId.{TaskId}
use Rattle.rpc_msg.specs.declared.ids.PromiseId.{PromiseId}
use Rattle.rpc_machine.specs.declared.command.CallCommand.{CallCommand}
use Rattle.rpc_machine.specs.declared.entries.Reference.{Reference}
use Rattle.rpc_machine.specs.declared.node.Reason.TheVariants.{BrokenPromise}
use Rattle.rpc_msg.specs.declared.ids.ExportId.{ExportId}
use Rattle.rpc_msg.specs.declared.ids.ObjectId.{ObjectId}
use Rattle.rpc_msg.specs.declared.ids.EmbargoId.{EmbargoId}
use Rattle.rpc_msg.specs.declared.ids.RefId.{RefId}
use Rattle.rpc_msg.specs.declared.parts.Descriptor.{Descriptor}
use Rattle.rpc_msg.specs.declared.parts.Descriptor.TheVariants as descriptor
use Rattle.rpc_msg.specs.declared.parts.Target.{Target}
use Rattle.rpc_msg.specs.declared.parts.Target.TheVariants.{ImportedCap, PromisedAnswer}
use Rattle.rpc_msg.specs.declared.message.ReturnBody.{ReturnBody}
use Rattle.rpc_msg.specs.declared.message.ReturnBody.TheVariants as body
use Rattle.rpc_msg.specs.declared.message.Message.{Message}
use Rattle.rpc_machine.specs.declared.node.Node.{Node}
use Rattle.rpc_machine.specs.declared.node.Node.TheVariants as node
use Rattle.rpc_machine.specs.declared.command.Command.{Command}
use Rattle.rpc_machine.specs.declared.command.Command.TheVariants as command
use Rattle.rpc_machine.specs.declared.command.Granted.{Granted}
use Rattle.rpc_machine.specs.declared.command.Level.{Level}
use Rattle.rpc_machine.specs.declared.command.Level.TheVariants.{Zero, One}
use Rattle.rpc_machine.specs.declared.calls.WaitingCall.{WaitingCall}
use Rattle.rpc_machine.specs.declared.calls.HeldCall.{HeldCall}
use Rattle.rpc_machine.specs.declared.calls.Promise.{Promise}
use Rattle.rpc_machine.specs.declared.calls.Promise.TheVariants as promise
use Rattle.rpc_machine.specs.declared.calls.Value.{Value}
use Rattle.rpc_machine.specs.declared.calls.Caller.{Caller}
use Rattle.rpc_machine.specs.declared.calls.Caller.TheVariants as caller
use Rattle.rpc_machine.specs.declared.calls.KeptOutcome.{KeptOutcome}
use Rattle.rpc_machine.specs.declared.entries.AnswerEntry.{AnswerEntry}
use Rattle.rpc_machine.specs.declared.entries.Export.{Export}
use Rattle.rpc_machine.specs.declared.entries.Embargo.{Embargo}
use Rattle.rpc_machine.specs.State.{State}
use Rattle.rpc_machine.specs.Advancing.{wire_target}
use Rattle.rpc_machine.specs.Nodes.{link, settle, field_of, promise_link, field_link, value_of}
use Rattle.rpc_machine.specs.Places.{nodes}
use Rattle.rpc_machine.specs.Progress.{caps_of, numbers}
use Rattle.rpc_machine.specs.Descriptors.{export_node, answer_node, read_one, read_at, read_all, read_beside}
use Rattle.rpc_machine.specs.Faults.{target_node, gave, given_by}
use Rattle.rpc_machine.specs.Commands.{head_of, heads}
use Rattle.rpc_machine.specs.Messages.{bootstrap_value, results_of, value_of_results, finished_map}
use Rattle.laws_acts.specs.Moments.{Moment, beginning}
use Rattle.laws_acts.specs.FirstActs.{Starts, waiting_call, keeping}
use Rattle.laws_acts.specs.FirstActs as first
use Rattle.laws_acts.specs.MessageActs.{Back, Brings, ByReturn, ByEchoedRoot, ByEchoedCall, Consumes}
use Rattle.laws_acts.specs.MessageActs as consume
use Rattle.laws_authority.specs.Reach.{IsIn, IsPeer, IsForPeer, WaitsAt, AtPromise, ForField, UnderEmbargo, Reaches, Exported, Answered, Awaited, CallsAt, Further, MayReach, Now, Carried, Beyond}
use Rattle.laws_authority.specs.Grants.{LeadsTo, Itself, On, LedToBy, takes_at_once, goes_at_once, Gives, Opens}
use Rattle.laws_authority.proofs.Covers.{AllIn, Caps, also, all_also, CallIn, CallsIn, HeldIn, PromiseIn, ValueIn, CallerIn, OpenIn, OutcomeIn, EmbargoIn, ExportIn, AnswerIn, ExportsIn, AnswersIn, PromisesIn, OutcomesIn, EmbargoesIn, TablesIn, Covered}
use Rattle.laws_authority.proofs.Going.{Cover, cover_of, calls-append, all_to, put_promise, put_outcome, put_embargo, cut_embargo, put_answer, cut_answer, go_out, lower_in, obeyed}
use Rattle.laws_authority.proofs.Settled.{still_settles}
use Rattle.laws_authority.proofs.Leaving.{Leaving}

-- ---- A state is covered by what the peer can reach of it

module _ (wide : Bool) (s : State) (K : ℕ → Type 0) (A : Node → Type 0)
    (reached : (n : Node) → Reaches s n → A n)
    (closed : (n m : Node) → A n → link s n ≡ Some m → A m)
    (asked : (o : ℕ) → IsForPeer (map.get s.outcomes o) → K o)
    (placed : (c : WaitingCall) (n : Node) → WaitsAt s c n → K c.outcome → A n)
    (carried : (c : WaitingCall) (n m : Node) → WaitsAt s c n → IsIn m c.request.caps → Caps wide (Cover A []) m) where
  in_cover : (n : Node) → Reaches s n → Cover A [] n
  in_cover n r = cover_of A [] n (reached n r)

  caps_in : (ns : List Node) → ((m : Node) → IsIn m ns → Caps wide (Cover A []) m) → AllIn (Caps wide (Cover A [])) ns
  caps_in [] f = tt
  caps_in (n ∷ ns) f = (f n (inl refl), caps_in ns (λ m i. f m (inr i)))

  waits_in : (c : WaitingCall) (n : Node) → WaitsAt s c n → CallIn wide K (Cover A []) n c
  waits_in c n w = (caps_in c.request.caps (λ m i. carried c n m w i), λ k. cover_of A [] n (placed c n w k))

  calls_in : (n : Node) (cs : List WaitingCall) → ((c : WaitingCall) → IsIn c cs → CallIn wide K (Cover A []) n c) → CallsIn wide K (Cover A []) n cs
  calls_in n [] f = tt
  calls_in n (c ∷ cs) f = (f c (inl refl), calls_in n cs (λ d i. f d (inr i)))

  held_in : (o : ℕ) (xs : List HeldCall) → ((x : HeldCall) → IsIn x xs → CallIn wide K (Cover A []) (node.Field o x.path) x.call) → HeldIn wide K (Cover A []) o xs
  held_in o [] f = tt
  held_in o (x ∷ xs) f = (f x (inl refl), held_in o xs (λ y i. f y (inr i)))

  exports_in : ExportsIn wide K (Cover A []) s.exports
  exports_in e = by (map.get s.exports e) refl
    where
      by : (o : Option Export) → map.get s.exports e ≡ o → ExportIn wide K (Cover A []) o
      by None h = tt
      by (Some x) h = also wide (Cover A []) x.node (in_cover x.node (Exported e x h))

  answers_in : AnswersIn wide K (Cover A []) s.answers
  answers_in q = by (map.get s.answers q) refl
    where
      by : (o : Option AnswerEntry) → map.get s.answers q ≡ o → AnswerIn wide K (Cover A []) o
      by None h = tt
      by (Some a) h = λ path. reached (node.Field a.outcome path) (Answered q a path h)

  promises_in : PromisesIn wide K (Cover A []) s.promises
  promises_in p = by (map.get s.promises p) refl
    where
      led : (to : Node) → map.get s.promises p ≡ Some (promise.Fixed to) → Cover A [] (node.Promise p) → Cover A [] to
      led to h (inl a) = cover_of A [] to (closed (node.Promise p) to a (ap promise_link h))
      led to h (inr a) = absurd a

      by : (o : Option Promise) → map.get s.promises p ≡ o → PromiseIn wide K (Cover A []) p o
      by None h = tt
      by (Some (promise.Open calls)) h = calls_in (node.Promise p) calls (λ c i. waits_in c (node.Promise p) (AtPromise p calls h i))
      by (Some (promise.Fixed to)) h = led to h

  outcomes_in : OutcomesIn wide K (Cover A []) s.outcomes
  outcomes_in o = by (map.get s.outcomes o) refl
    where
      who : (x : KeptOutcome) (w : Caller) → x.caller ≡ w → map.get s.outcomes o ≡ Some x → CallerIn wide K (Cover A []) o w
      who x (caller.Application c) e h = tt
      who x (caller.Peer q) e h = asked o (subst IsForPeer (sym h) (subst IsPeer (sym e) tt))

      unknown : (x : KeptOutcome) (w : Caller) (v : Option Value) → x.caller ≡ w → x.value ≡ v → map.get s.outcomes o ≡ Some x → OpenIn wide K (Cover A []) o w v
      unknown x (caller.Application c) v e f h = tt
      unknown x (caller.Peer q) (Some v) e f h = tt
      unknown x (caller.Peer q) None e f h = λ path. reached (node.Field o path) (Awaited o x path h (subst IsPeer (sym e) tt) f)

      says : (x : KeptOutcome) (v : Option Value) → x.value ≡ v → map.get s.outcomes o ≡ Some x → ValueIn wide K (Cover A []) o v
      says x None f h = tt
      says x (Some v) f h = λ path a. cover_of A [] (field_of v path) (closed (node.Field o path) (field_of v path) a (ap (λ (y : Option KeptOutcome). field_link path (value_of y)) h ∙ ap (field_link path) f))

      by : (y : Option KeptOutcome) → map.get s.outcomes o ≡ y → OutcomeIn wide K (Cover A []) o y
      by None h = tt
      by (Some x) h = (who x x.caller refl h, unknown x x.caller x.value refl refl h, says x x.value refl h, held_in o x.waiting (λ y i. waits_in y.call (node.Field o y.path) (ForField o x y h i refl)))

  embargoes_in : EmbargoesIn wide K (Cover A []) s.embargoes
  embargoes_in e = by (map.get s.embargoes e) refl
    where
      by : (o : Option Embargo) → map.get s.embargoes e ≡ o → EmbargoIn wide K (Cover A []) o
      by None h = tt
      by (Some b) h = calls_in b.node b.waiting (λ c i. waits_in c b.node (UnderEmbargo e b h i))

  -- What an id of an export stands for.
  pub export_there : (e : ℕ) → Cover A [] (export_node (map.get s.exports e))
  export_there e = by (map.get s.exports e) refl
    where
      by : (o : Option Export) → map.get s.exports e ≡ o → Cover A [] (export_node o)
      by None h = tt
      by (Some x) h = in_cover x.node (Exported e x h)

  pub tables_in : TablesIn wide K (Cover A []) s
  tables_in = (exports_in, answers_in, promises_in, outcomes_in, embargoes_in)

-- ---- Commands

-- What the peer may come to reach, if `wide`; or else what it can reach.
abbrev pub Base : Bool → State → Node → Type 0
Base true s n = MayReach s n
Base false s n = Reaches s n

pub base_of : (wide : Bool) (s : State) (n : Node) → Reaches s n → Base wide s n
base_of true s n r = Now n r
base_of false s n r = r

pub base_on : (wide : Bool) (s : State) (n m : Node) → Base wide s n → link s n ≡ Some m → Base wide s m
base_on true s n m r e = Beyond n m r e
base_on false s n m r e = Further n m r e

may_reach : (wide : Bool) (s : State) (n : Node) → Base wide s n → MayReach s n
may_reach true s n r = r
may_reach false s n r = Now n r

pub base_carried : (wide : Bool) (s : State) (F : Node → Type 0) → ((n : Node) → Base wide s n → F n) → (c : WaitingCall) (n m : Node) → WaitsAt s c n → IsIn m c.request.caps → Caps wide F m
base_carried true s F f c n m w h = f m (Carried c n m w h)
base_carried false s F f c n m w h = tt

module _ (wide : Bool) (s : State) (c : Command) where
  -- That, and what the command gives.
  abbrev pub Allowed : Node → Type 0
  Allowed n = Base wide s n ⊎ Gives s c n

  abbrev pub WasAsked : ℕ → Type 0
  WasAsked o = IsForPeer (map.get s.outcomes o)

  led_on : (rs : List RefId) (n m : Node) → LedToBy s rs n → link s n ≡ Some m → LedToBy s rs m
  led_on [] n m h e = absurd h
  led_on (r ∷ rs) n m (inl h) e = inl (On n m h e)
  led_on (r ∷ rs) n m (inr h) e = inr (led_on rs n m h e)

  named : (rs : List RefId) → ((n : Node) → LedToBy s rs n → Cover Allowed [] n) → AllIn (Cover Allowed []) (heads s rs)
  named [] f = tt
  named (r ∷ rs) f = (f (head_of (map.get s.refs r.0)) (inl Itself), named rs (λ n h. f n (inr h)))

gives_on : (wide : Bool) (s : State) (c : Command) (n m : Node) → Gives s c n → link s n ≡ Some m → Gives s c m
gives_on wide s (command.Call k) n m h e = (h.0, led_on wide s (command.Call k) k.refs n m h.1 e)
gives_on wide s (command.Answer t payload refs) n m h e = (h.0, h.1, h.2, h.3, led_on wide s (command.Answer t payload refs) refs n m h.4 e)
gives_on wide s (command.Resolve p r) n m h e = (h.0, h.1, h.2, led_on wide s (command.Resolve p r) (r ∷ []) n m h.3 e)
gives_on wide s (command.Host o) n m h e = absurd h
gives_on wide s (command.CloneRef r) n m h e = absurd h
gives_on wide s (command.DropRef r) n m h e = absurd h
gives_on wide s command.Bootstrap n m h e = absurd h
gives_on wide s (command.Field k path) n m h e = absurd h
gives_on wide s command.Promise n m h e = absurd h
gives_on wide s (command.Reject p why) n m h e = absurd h
gives_on wide s (command.Fail t why) n m h e = absurd h
gives_on wide s (command.Finish k) n m h e = absurd h
gives_on wide s (command.Advance r) n m h e = absurd h
gives_on wide s (command.Shut k) n m h e = absurd h

allowed_on : (wide : Bool) (s : State) (c : Command) (n m : Node) → Allowed wide s c n → link s n ≡ Some m → Allowed wide s c m
allowed_on wide s c n m (inl r) e = inl (base_on wide s n m r e)
allowed_on wide s c n m (inr g) e = inr (gives_on wide s c n m g e)

before : (wide : Bool) (s : State) (c : Command) → TablesIn wide (WasAsked wide s c) (Cover (Allowed wide s c) []) s
before wide s c =
    tables_in wide s (WasAsked wide s c) (Allowed wide s c) (λ n r. inl (base_of wide s n r)) (allowed_on wide s c) (λ o a. a) (λ k n w a. inl (base_of wide s n (CallsAt k n w a)))
    (base_carried wide s (Cover (Allowed wide s c) []) (λ n r. cover_of (Allowed wide s c) [] n (inl r)))

-- ---- What a command names

call_named : (wide : Bool) (s : State) (c : Command) (k : CallCommand) → c ≡ command.Call k → goes_at_once s (map.get s.refs k.reference.0) ≡ false → AllIn (Cover (Allowed wide s c) []) (heads s k.refs)
call_named wide s c k e f = named wide s c k.refs (λ n h. cover_of (Allowed wide s c) [] n (inr (subst (λ (b : Command). Gives s b n) (sym e) (f, h))))

caps_named : (wide : Bool) (s : State) (c : Command) (k : CallCommand) → c ≡ command.Call k → goes_at_once s (map.get s.refs k.reference.0) ≡ false → AllIn (Caps wide (Cover (Allowed wide s c) [])) (heads s k.refs)
caps_named wide s c k e f = all_also wide (Cover (Allowed wide s c) []) (heads s k.refs) (call_named wide s c k e f)

-- A call to a wire does not go at once, nor does one under an embargo.
to_wire : (n : Node) (t : Target) → wire_target n ≡ Some t → takes_at_once n ≡ false
to_wire (node.Object o) t e = absurd (let f : None ≡ Some t = e in cc)
to_wire (node.Promise p) t e = refl
to_wire (node.Field o path) t e = refl
to_wire (node.Import i) t e = refl
to_wire (node.Pipe q path) t e = refl
to_wire (node.Broken reason) t e = absurd (let f : None ≡ Some t = e in cc)

wire_later : (s : State) (r : Option Reference) (x : Reference) (t : Target) → r ≡ Some x → wire_target (settle s x.head) ≡ Some t → goes_at_once s r ≡ false
wire_later s r x t e f = ap (goes_at_once s) e ∙ ap (λ b. is_none x.embargo && b) (to_wire (settle s x.head) t f) ∙ no_and (is_none x.embargo)
  where
    no_and : (b : Bool) → b && false ≡ false
    no_and true = refl
    no_and false = refl

embargo_later : (s : State) (r : Option Reference) (x : Reference) (e : EmbargoId) → r ≡ Some x → x.embargo ≡ Some e → goes_at_once s r ≡ false
embargo_later s r x e f g = ap (goes_at_once s) f ∙ ap (λ (o : Option EmbargoId). is_none o && takes_at_once (settle s x.head)) g

waits_by : (s : State) (r : Option Reference) (x : Reference) (b : Bool) → r ≡ Some x → takes_at_once (settle s x.head) ≡ false → goes_at_once s r ≡ false
waits_by s r x b e f = ap (goes_at_once s) e ∙ ap (λ a. is_none x.embargo && a) f ∙ no_and (is_none x.embargo)
  where
    no_and : (b : Bool) → b && false ≡ false
    no_and true = refl
    no_and false = refl

-- What an answer names is given to the peer, if the peer may reach a field of the outcome.
answer_named : (wide : Bool) (s : State) (c : Command) (t : TaskId) (payload : Payload) (refs : List RefId) (o : ℕ) → c ≡ command.Answer t payload refs → map.get s.tasks t.0 ≡ Some o → (path : List Op) → Allowed wide s c (node.Field o path) → AllIn (Cover (Allowed wide s c) []) (heads s refs)
answer_named wide s c t payload refs o e f path (inl r) =
    named wide s c refs (λ n h. cover_of (Allowed wide s c) [] n (inr (subst (λ (b : Command). Gives s b n) (sym e) (o, path, f, may_reach wide s (node.Field o path) r, h))))
answer_named wide s c t payload refs o e f path (inr g) =
    let k : Gives s (command.Answer t payload refs) (node.Field o path) = subst (λ (b : Command). Gives s b (node.Field o path)) e g in
    named wide s c refs (λ n h. cover_of (Allowed wide s c) [] n (inr (subst (λ (b : Command). Gives s b n) (sym e) (k.0, k.1, k.2, k.3, h))))

-- What a resolve leads the promise to is given to the peer, if the peer may reach the promise.
resolve_named : (wide : Bool) (s : State) (c : Command) (p : PromiseId) (r : RefId) (x : Reference) (key : ℕ) → c ≡ command.Resolve p r → map.get s.refs r.0 ≡ Some x → map.get s.unsettled p.0 ≡ Some key → Cover (Allowed wide s c) [] (node.Promise key) → Cover (Allowed wide s c) [] x.head
resolve_named wide s c p r x key e f j (inr a) = absurd a
resolve_named wide s c p r x key e f j (inl (inl a)) =
    let h : LedToBy s (r ∷ []) x.head = inl (subst (λ (o : Option Reference). LeadsTo s (head_of o) x.head) (sym f) Itself) in
    cover_of (Allowed wide s c) [] x.head (inr (subst (λ (b : Command). Gives s b x.head) (sym e) (key, j, may_reach wide s (node.Promise key) a, h)))
resolve_named wide s c p r x key e f j (inl (inr g)) =
    let k : Gives s (command.Resolve p r) (node.Promise key) = subst (λ (b : Command). Gives s b (node.Promise key)) e g in
    let h : LedToBy s (r ∷ []) x.head = inl (subst (λ (o : Option Reference). LeadsTo s (head_of o) x.head) (sym f) Itself) in
    cover_of (Allowed wide s c) [] x.head (inr (subst (λ (b : Command). Gives s b x.head) (sym e) (k.0, k.1, k.2, h)))

-- ---- The first act of a command

module _ (wide : Bool) (s : State) (c : Command) where
  abbrev At : Moment → Type 0
  At d = Covered wide (WasAsked wide s c) (Cover (Allowed wide s c) []) d

  idle : (o : ℕ) → map.get s.outcomes o ≡ None → (n : Node) → WasAsked wide s c o → Cover (Allowed wide s c) [] n
  idle o e n a = absurd (subst IsForPeer e a)

  -- A call that is routed here: at once, or later.
  here : (k : CallCommand) (x : Reference) (o : ℕ) (new : Moment) (b : Bool) → takes_at_once (settle s x.head) ≡ b → c ≡ command.Call k → map.get s.refs k.reference.0 ≡ Some x → map.get s.outcomes o ≡ None → new ≡ record (beginning s) { state = keeping s k.reference.0 x o; yet = (waiting_call s k x o, x.head) ∷ [] } → At new ⊎ Leaving wide (WasAsked wide s c) (Allowed wide s c) new
  here k x o new false d e f l h =
      let b = before wide s c in
      inl (rw h ((b.0, b.1, b.2, put_outcome wide (WasAsked wide s c) (Cover (Allowed wide s c) []) s.outcomes o _ (tt, tt, tt, tt) b.3, b.4), (tt, ((caps_named wide s c k e (waits_by s _ x true f d), idle o l x.head), tt), tt, tt, tt, tt), tt))
  here k x o new true d e f l h =
      let b = before wide s c in
      inr (rw h (record {
        call = waiting_call s k x o;
        to = x.head;
        rest = refl;
        done = ap takes_at_once (still_settles s k.reference.0 x o l x.head) ∙ d;
        own = λ a. absurd (subst IsForPeer l a);
        covered = ((b.0, b.1, b.2, put_outcome wide (WasAsked wide s c) (Cover (Allowed wide s c) []) s.outcomes o _ (tt, tt, tt, tt) b.3, b.4), (tt, tt, tt, tt, tt, tt), tt);
      }))

  pub started : (g : Granted) (new : Moment) → Starts (beginning s) c g new → At new ⊎ Leaving wide (WasAsked wide s c) (Allowed wide s c) new
  started g new (first.Hosts o e a h) = inl (rw h (before wide s c, (tt, tt, tt, tt, tt, tt), tt))
  started g new (first.Clones r x e f a h) = inl (rw h (before wide s c, (tt, tt, tt, tt, tt, tt), tt))
  started g new (first.Drops r x e f a h) = inl (rw h (before wide s c, (tt, tt, tt, tt, tt, tt), tt))
  started g new (first.AsksRoot q e f a h) = inl (rw h (before wide s c, (tt, tt, tt, tt, tt, tt), tt))
  started g new (first.CallsOut k x q t ds es e f j w l m a h) =
      let b = before wide s c in
      inl (rw h ((go_out wide (WasAsked wide s c) (Cover (Allowed wide s c) []) s b s.exports (heads s k.refs) ds es (caps_named wide s c k e (wire_later s _ x t f w)) b.0 m, b.1, b.2, b.3, b.4), (tt, tt, tt, tt, tt, tt), tt))
  started g new (first.CallsHere k x o e f j w l a h) = here k x o new (takes_at_once (settle s x.head)) refl e f l h
  started g new (first.CallsLater k x o z b e f j l m a h) =
      let t = before wide s c in
      let held : CallsIn wide (WasAsked wide s c) (Cover (Allowed wide s c) []) b.node b.waiting = subst (EmbargoIn wide (WasAsked wide s c) (Cover (Allowed wide s c) [])) l (t.4 z.0) in
      inl (rw h (
        (
          t.0,
          t.1,
          t.2,
          put_outcome wide (WasAsked wide s c) (Cover (Allowed wide s c) []) s.outcomes o _ (tt, tt, tt, tt) t.3,
          put_embargo wide (WasAsked wide s c) (Cover (Allowed wide s c) []) s.embargoes z.0 _ (calls-append wide (WasAsked wide s c) (Cover (Allowed wide s c) []) b.node b.waiting _ held ((caps_named wide s c k e (embargo_later s _ x z f j), idle o m b.node), tt)) t.4,
        ),
        (tt, tt, tt, tt, tt, tt),
        tt,
      ))
  started g new (first.NamesField k path from e f a h) = inl (rw h (before wide s c, (tt, tt, tt, tt, tt, tt), tt))
  started g new (first.Promises p e f a h) =
      let b = before wide s c in
      inl (rw h ((b.0, b.1, put_promise wide (WasAsked wide s c) (Cover (Allowed wide s c) []) s.promises p (promise.Open []) tt b.2, b.3, b.4), (tt, tt, tt, tt, tt, tt), tt))
  started g new (first.Fixes p r x key calls e f j k a h) =
      let b = before wide s c in
      let held : CallsIn wide (WasAsked wide s c) (Cover (Allowed wide s c) []) (node.Promise key) calls = subst (PromiseIn wide (WasAsked wide s c) (Cover (Allowed wide s c) []) key) k (b.2 key) in
      inl (rw h (
        (b.0, b.1, put_promise wide (WasAsked wide s c) (Cover (Allowed wide s c) []) s.promises key (promise.Fixed x.head) (resolve_named wide s c p r x key e f j) b.2, b.3, b.4),
        (tt, all_to wide (WasAsked wide s c) (Cover (Allowed wide s c) []) (node.Promise key) calls held, tt, tt, tt, tt),
        tt,
      ))
  started g new (first.Rejects p why key calls e f j a h) =
      let b = before wide s c in
      let held : CallsIn wide (WasAsked wide s c) (Cover (Allowed wide s c) []) (node.Promise key) calls = subst (PromiseIn wide (WasAsked wide s c) (Cover (Allowed wide s c) []) key) j (b.2 key) in
      inl (rw h (
        (b.0, b.1, put_promise wide (WasAsked wide s c) (Cover (Allowed wide s c) []) s.promises key (promise.Fixed (node.Broken BrokenPromise)) (λ z. tt) b.2, b.3, b.4),
        (tt, all_to wide (WasAsked wide s c) (Cover (Allowed wide s c) []) (node.Promise key) calls held, tt, tt, tt, tt),
        tt,
      ))
  started g new (first.Answers t payload refs o e f a h) = inl (rw h (before wide s c, (tt, tt, tt, (answer_named wide s c t payload refs o e f, tt), tt, tt), tt))
  started g new (first.Fails t why o e f a h) = inl (rw h (before wide s c, (tt, tt, tt, (λ path z. tt, tt), tt, tt), tt))
  started g new (first.Finishes k from e f a h) = inl (rw h (before wide s c, (tt, tt, tt, tt, tt, tt), tt))
  started g new (first.StaysPut r x e f a h) = inl (rw h (before wide s c, (tt, tt, tt, tt, tt, tt), tt))
  started g new (first.Breaks r x reason e f j k a h) = inl (rw h (before wide s c, (tt, tt, tt, tt, tt, tt), tt))
  started g new (first.Switches r x by n e f j k l m a h) = inl (rw h (before wide s c, (tt, tt, tt, tt, tt, tt), tt))
  started g new (first.Turns r x by n t k e f j l m w u v a h) =
      let b = before wide s c in
      inl (rw h ((b.0, b.1, b.2, b.3, put_embargo wide (WasAsked wide s c) (Cover (Allowed wide s c) []) s.embargoes k _ tt b.4), (tt, tt, tt, tt, tt, tt), tt))

-- ---- The first act of a message

-- An outcome that is not there yet may come for the peer.
abbrev pub Asks : State → ℕ → Type 0
Asks s o = IsForPeer (map.get s.outcomes o) ⊎ (map.get s.outcomes o ≡ None)

abbrev pub Extra : State → Message → Node → Type 0
Extra s m (node.Object o) = Opens s m o
Extra s m (node.Promise p) = ⊥
Extra s m (node.Field o path) = map.get s.outcomes o ≡ None
Extra s m (node.Import e) = ⊥
Extra s m (node.Pipe q path) = ⊥
Extra s m (node.Broken reason) = ⊥

caps_in_cover : (wide : Bool) (R : Node → Type 0) (F : Node → Type 0) → ((n : Node) → R n → F n) → (n : Node) → Caps wide R n → Caps wide F n
caps_in_cover true R F f n a = f n a
caps_in_cover false R F f n a = tt

-- R is closed under links. It has all that the peer can reach, and each node at which a call of K waits.
module _ (wide : Bool) (s : State) (m : Message) (K : ℕ → Type 0) (R : Node → Type 0)
    (base : (n : Node) → Reaches s n → R n)
    (onward : (n k : Node) → R n → link s n ≡ Some k → R k)
    (fresh : (o : ℕ) → map.get s.outcomes o ≡ None → K o)
    (asked : (o : ℕ) → IsForPeer (map.get s.outcomes o) → K o)
    (placed : (c : WaitingCall) (n : Node) → WaitsAt s c n → K c.outcome → R n)
    (carried : (c : WaitingCall) (n k : Node) → WaitsAt s c n → IsIn k c.request.caps → Caps wide R k) where
  -- That, and what the message opens.
  abbrev pub Opened : Node → Type 0
  Opened n = R n ⊎ Extra s m n

  abbrev G : Node → Type 0
  G = Cover Opened []

  extra_on : (n k : Node) → Extra s m n → link s n ≡ Some k → Opened k
  extra_on (node.Object o) k h e = absurd (let f : None ≡ Some k = e in cc)
  extra_on (node.Promise p) k h e = absurd h
  extra_on (node.Field o path) k h e = absurd (let f : None ≡ Some k = sym (ap (λ (y : Option KeptOutcome). field_link path (value_of y)) h) ∙ e in cc)
  extra_on (node.Import i) k h e = absurd h
  extra_on (node.Pipe q path) k h e = absurd h
  extra_on (node.Broken reason) k h e = absurd h

  opened_on : (n k : Node) → Opened n → link s n ≡ Some k → Opened k
  opened_on n k (inl r) e = inl (onward n k r e)
  opened_on n k (inr h) e = extra_on n k h e

  at_first : TablesIn wide K G s
  at_first = tables_in wide s K Opened (λ n r. inl (base n r)) opened_on asked (λ c n w a. inl (placed c n w a)) (λ c n k w h. caps_in_cover wide R G (λ i r. cover_of Opened [] i (inl r)) k (carried c n k w h))

  export_at : (e : ℕ) → G (export_node (map.get s.exports e))
  export_at = export_there wide s K Opened (λ n r. inl (base n r)) opened_on asked (λ c n w a. inl (placed c n w a)) (λ c n k w h. caps_in_cover wide R G (λ i r. cover_of Opened [] i (inl r)) k (carried c n k w h))

  abbrev Has : Moment → Type 0
  Has d = Covered wide K G d

  -- What a target and the descriptors of a message stand for.
  answer_in : (path : List Op) (o : Option AnswerEntry) → AnswerIn wide K G o → G (answer_node path o)
  answer_in path None i = tt
  answer_in path (Some a) i = i (fields path)

  target_in : (t : Target) → G (target_node s t)
  target_in (ImportedCap e) = export_at e.0
  target_in (PromisedAnswer q path) = let b = at_first in answer_in path (map.get s.answers q.0) (b.1 q.0)

  one_in : (d : Descriptor) → G (read_one s d)
  one_in descriptor.None = tt
  one_in (descriptor.SenderHosted e) = tt
  one_in (descriptor.SenderPromise e) = tt
  one_in (descriptor.ReceiverHosted e) = export_at e.0
  one_in (descriptor.ReceiverAnswer q path) = let b = at_first in answer_in path (map.get s.answers q.0) (b.1 q.0)

  level_in : (l : Level) (d : Descriptor) → G (read_at l s d)
  level_in Zero d = tt
  level_in One d = one_in d

  all_read : (ds : List Descriptor) → AllIn G (read_all s ds)
  all_read [] = tt
  all_read (d ∷ ds) = (level_in s.level d, all_read ds)

  beside_read : (ds : List Descriptor) → AllIn G (nodes (read_beside s ds))
  beside_read [] = tt
  beside_read (d ∷ ds) = (level_in s.level d, beside_read ds)

  body_read : (b : ReturnBody) → AllIn G (caps_of (value_of_results (results_of s b)))
  body_read (body.Results payload ds) = beside_read ds
  body_read (body.Exception exception) = tt
  body_read body.Canceled = tt

  brought_in : (b : Back) → Brings s m b → AllIn G (caps_of (value_of_results b.said))
  brought_in b (ByReturn r e f) = rw f (body_read r.body)
  brought_in b (ByEchoedRoot q e f) = rw f tt
  brought_in b (ByEchoedCall c e f) = rw f tt

  root_in : (o : Option ObjectId) → ((y : ObjectId) → o ≡ Some y → Opens s m y) → AllIn G (caps_of (bootstrap_value o))
  root_in None f = tt
  root_in (Some y) f = (inr (f y refl), tt)

  finished_in : (q : ℕ) (a : AnswerEntry) (o : Option (List ExportId)) → AnswersIn wide K G s.answers → map.get s.answers q ≡ Some a → AnswersIn wide K G (finished_map s.answers q a o)
  finished_in q a None i e = put_answer wide K G s.answers q _ (subst (AnswerIn wide K G) e (i q)) i
  finished_in q a (Some ids) i e = cut_answer wide K G s.answers q i

  pub consumed : (new : Moment) → Consumes (beginning s) m new → Has new
  consumed new (consume.OpensRoot q o e f j h) =
      let b = at_first in
      let root : (y : ObjectId) → s.bootstrap ≡ Some y → Opens s m y = λ y g. subst (λ (k : Message). Opens s k y) (sym e) g in
      rw h (
        (b.0, put_answer wide K G s.answers q.0 _ (λ path. inr j) b.1, b.2, put_outcome wide K G s.outcomes o _ (fresh o j, λ path. inr j, tt, tt) b.3, b.4),
        (tt, tt, tt, (λ path g. root_in s.bootstrap root, tt), tt, tt),
        tt,
      )
  consumed new (consume.OpensCall c o e f j h) =
      let b = at_first in
      rw h (
        (b.0, put_answer wide K G s.answers c.question.0 _ (λ path. inr j) b.1, b.2, put_outcome wide K G s.outcomes o _ (fresh o j, λ path. inr j, tt, tt) b.3, b.4),
        (tt, ((all_also wide G (read_all s c.descriptors) (all_read c.descriptors), λ k. target_in c.target), tt), tt, tt, tt, tt),
        tt,
      )
  consumed new (consume.Loses b x e f j k h) =
      let t = at_first in
      rw h ((obeyed wide K G s b.flag (numbers x.given) t.0, t.1, t.2, t.3, t.4), (tt, tt, tt, tt, tt, tt), tt)
  consumed new (consume.ComesToCall b x c e f j k l h) =
      let t = at_first in
      rw h ((obeyed wide K G s b.flag (numbers x.given) t.0, t.1, t.2, t.3, t.4), (tt, tt, tt, tt, (tt, tt), tt), tt)
  consumed new (consume.ComesToRelay b x o e f j k l h) =
      let t = at_first in
      rw h ((obeyed wide K G s b.flag (numbers x.given) t.0, t.1, t.2, t.3, t.4), (tt, tt, (λ path g. brought_in b e, tt), tt, tt, tt), tt)
  consumed new (consume.IsFinished y a e f j h) =
      let t = at_first in
      rw h ((obeyed wide K G s y.release_result_caps (gave a.returned) t.0, finished_in y.question.0 a a.returned t.1 f, t.2, t.3, t.4), (tt, tt, tt, tt, tt, tt), tt)
  consumed new (consume.IsResolved r e h) = rw h (at_first, (tt, tt, tt, tt, tt, tt), tt)
  consumed new (consume.IsReleased r e h) =
      let t = at_first in
      rw h ((lower_in wide K G s.exports r.export.0 r.count t.0, t.1, t.2, t.3, t.4), (tt, tt, tt, tt, tt, tt), tt)
  consumed new (consume.SendsBack t to x e f h) = rw h (at_first, (tt, tt, tt, tt, tt, tt), tt)
  consumed new (consume.Lifts t x b e f h) =
      let i = at_first in
      let held : CallsIn wide K G b.node b.waiting = subst (EmbargoIn wide K G) f (i.4 x.0) in
      rw h ((i.0, i.1, i.2, i.3, cut_embargo wide K G s.embargoes x.0 i.4), (tt, all_to wide K G b.node b.waiting held, tt, tt, tt, tt), tt)
  consumed new (consume.SendsForeign p e f h) = rw h (at_first, (tt, tt, tt, tt, tt, tt), tt)
  consumed new (consume.SendsOther k e h) = rw h (at_first, (tt, tt, tt, tt, tt, tt), tt)
  consumed new (consume.TakesBack r e h) =
      let t = at_first in
      rw h ((obeyed wide K G s true (given_by r.to) t.0, t.1, t.2, t.3, t.4), (tt, tt, tt, tt, tt, tt), tt)
  consumed new (consume.Ignores r e h) = rw h (at_first, (tt, tt, tt, tt, tt, tt), tt)
