-- How two calls in one line move on. In a step a call that waits may be routed: then it is taken out of its list, stands
-- among the calls that are still to be routed, and goes on from there. Of the two calls either both wait in one list or are
-- both to be routed to one node, or the first waits where the second is to be routed to, or the first is gone.
use Rattle.std.proofs.Common.{◌≡◌, ◌≢◌, ◌⊎◌, inl, inr, ℕ, ◌+◌, ◌<◌, ◌≤◌, Bool, true, false, ◌||◌, is_some, nat_eq, List, [], ◌∷◌, ◌++◌, Option, None, Some, refl, sym, ap, subst, ◌∙◌, arith}
use Rattle.std.specs.FinMap as map
use Rattle.finite_maps.specs.Tally.{Map, tally}
use Rattle.finite_maps.proofs.Gets.{get-insert_same}
use Rattle.finite_maps.proofs.Tested.{get_other}
use Rattle.rpc_msg.specs.Op.{Op}
use Rattle.rpc_msg.specs.Payloads.{Contents as Payload}
use Rattle.rpc_msg.specs.declared.parts.Target.{Target}
use Rattle.rpc_msg.specs.declared.message.Call.{Call}
use Rattle.rpc_msg.specs.declared.message.PlainMessage.TheVariants as plain
use Rattle.rpc_msg.specs.declared.message.Message.{Message}
use Rattle.rpc_msg.specs.declared.message.Message.TheVariants as message
use Rattle.rpc_machine.specs.rpc_journal.specs.declared.report.Delivery.{Delivery}
use Rattle.rpc_machine.specs.declared.node.Node.{Node}
use Rattle.rpc_machine.specs.declared.node.Node.TheVariants as node
use Rattle.rpc_machine.specs.declared.calls.WaitingCall.{WaitingCall}
use Rattle.rpc_machine.specs.declared.calls.HeldCall.{HeldCall}
use Rattle.rpc_machine.specs.declared.calls.Promise.{Promise}
use Rattle.rpc_machine.specs.declared.calls.Promise.TheVariants as promise
use Rattle.rpc_machine.specs.declared.calls.KeptOutcome.{KeptOutcome}
use Rattle.rpc_machine.specs.declared.calls.Value.{Value}
use Rattle.rpc_machine.specs.declared.calls.Value.TheVariants as value
use Rattle.rpc_machine.specs.declared.calls.Caller.{Caller}
use Rattle.rpc_machine.specs.declared.entries.Role.TheVariants as role
use Rattle.rpc_machine.specs.declared.entries.Question.{Question}
use Rattle.rpc_machine.specs.declared.entries.Embargo.{Embargo}
use Rattle.rpc_machine.specs.Sweeping.{closed_map}
use Rattle.rpc_machine.specs.State.{State}
use Rattle.rpc_machine.specs.Nodes.{promise_link, value_of, settle}
use Rattle.rpc_machine.specs.Settling.{PutsIn, Untangles, Fits}
use Rattle.rpc_machine.specs.Advancing.{wire_target}
use Rattle.laws_acts.specs.Moments.{Clearing, Moment, is_collecting, held_to}
use Rattle.laws_acts.specs.FirstActs.{Starts}
use Rattle.laws_acts.specs.FirstActs as first
use Rattle.laws_acts.specs.SmallActs.{IsStill, kept_known, delivery, release_messages, Act}
use Rattle.laws_acts.specs.SmallActs as act
use Rattle.laws_nodes.specs.Sources.{is_key, at_promise, at_outcome, at_embargo}
use Rattle.laws_nodes.specs.Settling.{SameLinks, AllStop}
use Rattle.laws_nodes.proofs.Stopping.{same, opens, begins}
use Rattle.laws_vat_order.specs.Lines.{Has, Before, HasAt, BeforeAt, OfPromise, OfOutcome, OfEmbargo, times_waiting, delivered, sent_on, Lacks, NotBehind}
use Rattle.laws_vat_order.specs.Lines.{of_question}
use Rattle.laws_vat_order.proofs.Sending.{IsUnanswered, Asked, asked_more, sent_more, sent_none, releases_sent, releases_asked, says_asked, says_new, says_closed}
use Rattle.laws_vat_order.proofs.Counting.{yet_for, all_waiting, no_more}
use Rattle.laws_vat_order.proofs.Lists.{is_one, has_more, has_last, before_more, before_last, behind_is_in, held_more, held_last, held_before_more, held_before_last, held_behind_is_in, YetHas, YetBefore, held_before, yet_behind_is_in, yet_count, promise_count, outcome_count, embargo_count, of_promise, of_outcome, of_embargo, promise_more, promise_here, promise_at, promise_new, promise_cut, outcome_more, outcome_here, outcome_at, outcome_new, outcome_cut, outcome_cleared, lacks_more, none_behind, none_behind_last, behind_more}

-- ---- Where nodes lead, by the two tables that say so

abbrev pub with_tables : State → Map Promise → Map KeptOutcome → State
with_tables s ps os = record s { promises = ps; outcomes = os }

abbrev pub lead : State → Map Promise → Map KeptOutcome → Node → Node
lead s ps os n = settle (with_tables s ps os) n

alike : (s t : State) → SameLinks t (with_tables s t.promises t.outcomes)
alike s t (node.Object o) = refl
alike s t (node.Promise p) = refl
alike s t (node.Field o path) = refl
alike s t (node.Import e) = refl
alike s t (node.Pipe q path) = refl
alike s t (node.Broken reason) = refl

pub leads : (s t : State) → AllStop t → AllStop (with_tables s t.promises t.outcomes) × ((n : Node) → lead s t.promises t.outcomes n ≡ settle t n)
leads s t a = same t (with_tables s t.promises t.outcomes) (alike s t) a

module _ (s : State) (ps : Map Promise) (os : Map KeptOutcome) (a : AllStop (with_tables s ps os)) where
  pub leads_open : (p : ℕ) (calls after : List WaitingCall) → map.get ps p ≡ Some (promise.Open calls) → (n : Node) → lead s (map.insert ps p (promise.Open after)) os n ≡ lead s ps os n
  leads_open p calls after e = (same (with_tables s ps os) (with_tables s (map.insert ps p (promise.Open after)) os) (opens (with_tables s ps os) p after (ap promise_link e)) a).1

  pub leads_held : (o : ℕ) (x y : KeptOutcome) → map.get os o ≡ Some x → y.value ≡ x.value → (n : Node) → lead s ps (map.insert os o y) n ≡ lead s ps os n
  leads_held o x y e f = (same (with_tables s ps os) (with_tables s ps (map.insert os o y)) (begins (with_tables s ps os) o y (ap value_of e ∙ sym f)) a).1

-- ---- Where the two calls are

pub data Line (s : State) (a b : ℕ) (ps : Map Promise) (os : Map KeptOutcome) (es : Map Embargo) (yet : List (WaitingCall × Node)) : Type 0 where
  OnPromise : (p : ℕ) → OfPromise (Before a b) (map.get ps p) → Line s a b ps os es yet
  OnField : (o : ℕ) (path : List Op) → OfOutcome (BeforeAt path a b) (map.get os o) → Line s a b ps os es yet
  OnEmbargo : (e : ℕ) → OfEmbargo (Before a b) (map.get es e) → Line s a b ps os es yet
  OnWay : (n : Node) → YetBefore n a b yet → Line s a b ps os es yet
  AtPromise : (p : ℕ) (n : Node) → OfPromise (Has a) (map.get ps p) → YetHas n b yet → lead s ps os n ≡ node.Promise p → Line s a b ps os es yet
  AtField : (o : ℕ) (path : List Op) (n : Node) → OfOutcome (HasAt path a) (map.get os o) → YetHas n b yet → lead s ps os n ≡ node.Field o path → Line s a b ps os es yet

-- The second is counted.
behind_counts : (s : State) (a b : ℕ) (ps : Map Promise) (os : Map KeptOutcome) (es : Map Embargo) (yet : List (WaitingCall × Node)) → Line s a b ps os es yet → 0 < tally (at_promise b) ps + tally (at_outcome b) os + tally (at_embargo b) es + yet_for b yet
behind_counts s a b ps os es yet (OnPromise p h) = let k = promise_count b ps p (of_promise (Before a b) (Has b) (behind_is_in a b) (map.get ps p) h) in omega arith
behind_counts s a b ps os es yet (OnField o path h) = let k = outcome_count path b os o (of_outcome (BeforeAt path a b) (HasAt path b) (held_behind_is_in path a b) (map.get os o) h) in omega arith
behind_counts s a b ps os es yet (OnEmbargo e h) = let k = embargo_count b es e (of_embargo (Before a b) (Has b) (behind_is_in a b) (map.get es e) h) in omega arith
behind_counts s a b ps os es yet (OnWay n h) = let k = yet_count n b yet (yet_behind_is_in n a b yet h) in omega arith
behind_counts s a b ps os es yet (AtPromise p n h y l) = let k = yet_count n b yet y in omega arith
behind_counts s a b ps os es yet (AtField o path n h y l) = let k = yet_count n b yet y in omega arith

-- The next call to be routed: it is the first of the two; or the second, and the first waits where it goes; or neither.
data Next (s : State) (a b : ℕ) (ps : Map Promise) (os : Map KeptOutcome) (es : Map Embargo) (c : WaitingCall) (n : Node) (rest : List (WaitingCall × Node)) : Type 0 where
  IsFirst : c.outcome ≡ a → YetHas n b rest → Next s a b ps os es c n rest
  ToPromise : (p : ℕ) → c.outcome ≡ b → OfPromise (Has a) (map.get ps p) → lead s ps os n ≡ node.Promise p → Next s a b ps os es c n rest
  ToField : (o : ℕ) (path : List Op) → c.outcome ≡ b → OfOutcome (HasAt path a) (map.get os o) → lead s ps os n ≡ node.Field o path → Next s a b ps os es c n rest
  IsOther : Line s a b ps os es rest → Next s a b ps os es c n rest

coming : (s : State) (a b : ℕ) (ps : Map Promise) (os : Map KeptOutcome) (es : Map Embargo) (c : WaitingCall) (n : Node) (rest : List (WaitingCall × Node)) → Line s a b ps os es ((c, n) ∷ rest) → Next s a b ps os es c n rest
coming s a b ps os es c n rest (OnPromise p h) = IsOther (OnPromise p h)
coming s a b ps os es c n rest (OnField o path h) = IsOther (OnField o path h)
coming s a b ps os es c n rest (OnEmbargo e h) = IsOther (OnEmbargo e h)
coming s a b ps os es c n rest (OnWay m (inl h)) = IsFirst h.0 (subst (λ (k : Node). YetHas k b rest) (sym h.1) h.2)
coming s a b ps os es c n rest (OnWay m (inr h)) = IsOther (OnWay m h)
coming s a b ps os es c n rest (AtPromise p m h (inl y) l) = ToPromise p y.0 h (ap (lead s ps os) y.1 ∙ l)
coming s a b ps os es c n rest (AtPromise p m h (inr y) l) = IsOther (AtPromise p m h y l)
coming s a b ps os es c n rest (AtField o path m h (inl y) l) = ToField o path y.0 h (ap (lead s ps os) y.1 ∙ l)
coming s a b ps os es c n rest (AtField o path m h (inr y) l) = IsOther (AtField o path m h y l)

-- ---- Lists that grow

module _ (s : State) (a b : ℕ) (ps : Map Promise) (os : Map KeptOutcome) (es : Map Embargo) (stop : AllStop (with_tables s ps os)) where
  line_waits : (p : ℕ) (calls : List WaitingCall) (c : WaitingCall) (yet : List (WaitingCall × Node)) → map.get ps p ≡ Some (promise.Open calls) → Line s a b ps os es yet → Line s a b (map.insert ps p (promise.Open (calls ++ c ∷ []))) os es yet
  line_waits p calls c yet e (OnPromise q h) = OnPromise q (promise_more (Before a b) ps p calls (calls ++ c ∷ []) e (before_more a b c calls) q h)
  line_waits p calls c yet e (OnField o path h) = OnField o path h
  line_waits p calls c yet e (OnEmbargo o h) = OnEmbargo o h
  line_waits p calls c yet e (OnWay n h) = OnWay n h
  line_waits p calls c yet e (AtPromise q n h y l) = AtPromise q n (promise_more (Has a) ps p calls (calls ++ c ∷ []) e (has_more a c calls) q h) y (leads_open s ps os stop p calls (calls ++ c ∷ []) e n ∙ l)
  line_waits p calls c yet e (AtField o path n h y l) = AtField o path n h y (leads_open s ps os stop p calls (calls ++ c ∷ []) e n ∙ l)

  line_holds : (o : ℕ) (x : KeptOutcome) (c : HeldCall) (yet : List (WaitingCall × Node)) → map.get os o ≡ Some x → Line s a b ps os es yet → Line s a b ps (map.insert os o (record x { waiting = x.waiting ++ c ∷ [] })) es yet
  line_holds o x c yet e (OnPromise q h) = OnPromise q h
  line_holds o x c yet e (OnField q path h) = OnField q path (outcome_more (BeforeAt path a b) os o x (record x { waiting = x.waiting ++ c ∷ [] }) e (held_before_more path a b c x.waiting) q h)
  line_holds o x c yet e (OnEmbargo q h) = OnEmbargo q h
  line_holds o x c yet e (OnWay n h) = OnWay n h
  line_holds o x c yet e (AtPromise q n h y l) = AtPromise q n h y (leads_held s ps os stop o x (record x { waiting = x.waiting ++ c ∷ [] }) e refl n ∙ l)
  line_holds o x c yet e (AtField q path n h y l) = AtField q path n (outcome_more (HasAt path a) os o x (record x { waiting = x.waiting ++ c ∷ [] }) e (held_more path a c x.waiting) q h) y (leads_held s ps os stop o x (record x { waiting = x.waiting ++ c ∷ [] }) e refl n ∙ l)

-- ---- A value that fits

module _ (f : List WaitingCall → Type 0) (o : ℕ) (who : Caller) (w : List HeldCall) (j : ℕ) where
  open_put : (payload : Payload) (s : State) (i : ℕ) (n : Node) (rest out : List Node) (new : State) → PutsIn s o who w payload i n rest out new → OfPromise f (map.get s.promises j) → OfPromise f (map.get new.promises j)
  open_put payload s i n rest out new (inl h) k = rw h.2 k
  open_put payload s i n rest out new (inr h) k = let g = h.1 in rw g.3 (promise_new f s.promises g.0 (promise.Open []) g.1 j k)

  open_untangled : (payload : Payload) (s : State) (i : ℕ) (ns out : List Node) (new : State) → Untangles s o who w payload i ns out new → OfPromise f (map.get s.promises j) → OfPromise f (map.get new.promises j)
  open_untangled payload s i [] out new h k = rw h.1 k
  open_untangled payload s i (n ∷ ns) out new h k = open_put payload h.1 i n h.0 out new h.3 (open_untangled payload s (i + 1) ns h.0 h.1 h.2 k)

  pub open_fitted : (s : State) (v fit : Value) (new : State) → Fits s o who w v fit new → OfPromise f (map.get s.promises j) → OfPromise f (map.get new.promises j)
  open_fitted s (value.Exception x) fit new h k = rw h.1 k
  open_fitted s (value.Results payload ns) fit new h k = open_untangled payload s 0 ns h.0 new h.2 k

-- ---- No call is to be routed while a caller is told, and in the sweep

abbrev pub Quiet : Moment → Type 0
Quiet d = (d.yet ≡ []) ⊎ ((is_collecting d ≡ false) × (d.telling ≡ []) × (d.clearing ≡ None))

pub busy : (d : Moment) (x : WaitingCall × Node) (rest : List (WaitingCall × Node)) → d.yet ≡ x ∷ rest → Quiet d → (is_collecting d ≡ false) × (d.telling ≡ []) × (d.clearing ≡ None)
busy d x rest e (inl h) = absurd (let g : [] ≡ x ∷ rest = sym h ∙ e in cc)
busy d x rest e (inr h) = h

pub no_yet : (d : Moment) → is_collecting d ≡ true → Quiet d → d.yet ≡ []
no_yet d e (inl h) = h
no_yet d e (inr h) = absurd (let g : true ≡ false = sym e ∙ h.0 in cc)

swept_not : {X : Type 0} (o : Option X) (b : Bool) → (is_some o || b) ≡ false → b ≡ false
swept_not None b e = e
swept_not (Some x) b e = let f : true ≡ false = e in cc

quiet_told : (d : Moment) → Quiet d → Quiet (record d { telling = [] })
quiet_told d (inl h) = inl h
quiet_told d (inr h) = inr (h.0, refl, h.2)

pub quiet : (d new : Moment) → Quiet d → Act d new → Quiet new
quiet d new i (act.Delivers c n rest u e f h) = let k = busy d (c, n) rest e i in rw h (inr k)
quiet d new i (act.Waits c n rest p calls e f j h) = let k = busy d (c, n) rest e i in rw h (inr k)
quiet d new i (act.Holds c n rest u path x e f j h) = let k = busy d (c, n) rest e i in rw h (inr k)
quiet d new i (act.Relays c n rest q t ds es e f j k h) = let z = busy d (c, n) rest e i in rw h (inr z)
quiet d new i (act.Breaks c n rest reason e f h) = let k = busy d (c, n) rest e i in rw h (inr k)
quiet d new i (act.NextArisen u v rest e f h) = rw h i
quiet d new i (act.Knows u v fit x ps e f j k h) = rw h (inl (ap (λ (m : Moment). m.yet) e))
quiet d new i (act.Reports c v from e f h) = rw h (quiet_told d i)
quiet d new i (act.TellsNobody c v e f h) = rw h (quiet_told d i)
quiet d new i (act.MakesReturn q v x b ds es e f j k h) = rw h (inl (by i))
  where
    by : Quiet d → d.yet ≡ []
    by (inl h) = h
    by (inr h) = absurd (let g : [] ≡ (_, v) ∷ [] = sym h.1 ∙ e in cc)
quiet d new i (act.SendsReturn x y e f j h) = rw h (by i)
  where
    by : Quiet d → (d.yet ≡ []) ⊎ ((d.swept ≡ false) × (d.telling ≡ []) × (d.clearing ≡ None))
    by (inl h) = inl h
    by (inr h) = inr (swept_not d.saying d.swept h.0, h.1, h.2)
quiet d new i (act.Clears x e f h) = rw h (inr (ap is_collecting e, ap (λ (m : Moment). m.telling) e, refl))
quiet d new i (act.Lists x e h) = rw h i
quiet d new i (act.SendsResolve x rest k es e w f h) = rw h i
quiet d new i (act.SendsBroken x rest reason e f h) = rw h i
quiet d new i (act.PromiseGoes p to w e f h) = rw h i
quiet d new i (act.OutcomeGoes u x v w e f j k l h) = rw h i
quiet d new i (act.ImportGoes k x w e f h) = rw h i
quiet d new i (act.Sweeps over e f j h) = rw h (inl (ap (λ (m : Moment). m.yet) e))
quiet d new i (act.SendsFinish q x rest e f j k l h) = rw h i
quiet d new i (act.Closes q x rest e f j k l h) = rw h i
quiet d new i (act.Releases w e f h) = rw h i

-- ---- What was delivered

-- The tasks of the deliveries were given numbers.
abbrev pub Below : ℕ → List Delivery → Type 0
Below next [] = Unit {0}
Below next (y ∷ ys) = (y.task.0 < next) × Below next ys

below_more : (next : ℕ) (y : Delivery) (ys : List Delivery) → y.task.0 ≡ next → Below next ys → Below (next + 1) (ys ++ y ∷ [])
below_more next y [] e h = (omega arith, tt)
below_more next y (x ∷ xs) e h = let k = h.0 in (omega arith, below_more next y xs e h.1)

abbrev list : Moment → List (Option ℕ)
list d = delivered d.state.tasks d.effects.deliveries

-- One more task, and its delivery.
list_more : (tasks : Map ℕ) (next o : ℕ) (y : Delivery) (ys : List Delivery) → y.task.0 ≡ next → Below next ys → delivered (map.insert tasks next o) (ys ++ y ∷ []) ≡ delivered tasks ys ++ Some o ∷ []
list_more tasks next o y [] e h = ap (λ (k : ℕ). map.get (map.insert tasks next o) k ∷ []) e ∙ ap (λ (z : Option ℕ). z ∷ []) (get-insert_same tasks next o)
list_more tasks next o y (x ∷ xs) e h =
    let k = h.0 in
    let f : nat_eq x.task.0 next ≡ false = grind (arith) in
    ap (λ (z : Option ℕ). z ∷ delivered (map.insert tasks next o) (xs ++ y ∷ [])) (get_other tasks next o x.task.0 f) ∙ ap (λ (zs : List (Option ℕ)). map.get tasks x.task.0 ∷ zs) (list_more tasks next o y xs e h.1)

abbrev sent : Moment → List (Option ℕ)
sent d = sent_on d.state.questions d.effects.sends

abbrev pub Told : Moment → Type 0
Told d = Below d.state.next_task d.effects.deliveries × Asked d.state.questions d.effects.sends

-- A call is sent on, by a question with a free id.
one_sent : (qs : Map Question) (ms : List Message) (q : ℕ) (x : Question) (c : Call) → map.get qs q ≡ None → c.question.0 ≡ q → x.returned ≡ None → Asked qs ms
    → (sent_on (map.insert qs q x) (ms ++ message.Plain (plain.Call c) ∷ []) ≡ sent_on qs ms ++ of_question (Some x) ∷ []) × Asked (map.insert qs q x) (ms ++ message.Plain (plain.Call c) ∷ [])
one_sent qs ms q x c e f g h =
    let k = says_asked qs (map.insert qs q x) ms (says_new qs q x e) h in
    let i : map.get (map.insert qs q x) c.question.0 ≡ Some x = ap (map.get (map.insert qs q x)) f ∙ get-insert_same qs q x in (
      sent_more (map.insert qs q x) ms (message.Plain (plain.Call c) ∷ []) ∙ ap (λ (zs : List (Option ℕ)). zs ++ of_question (map.get (map.insert qs q x) c.question.0) ∷ []) k.1 ∙ ap (λ (o : Option Question). sent_on qs ms ++ of_question o ∷ []) i,
      asked_more (map.insert qs q x) ms (message.Plain (plain.Call c) ∷ []) k.0 (subst IsUnanswered (sym i) g, tt),
    )

-- A question is finished, and these messages, no Calls, go out.
closed_sent : (qs : Map Question) (ms ns : List Message) (q : ℕ) (x : Question) → map.get qs q ≡ Some x → sent_on (closed_map qs q x x.returned) ns ≡ [] → Asked (closed_map qs q x x.returned) ns → Asked qs ms
    → (sent_on (closed_map qs q x x.returned) (ms ++ ns) ≡ sent_on qs ms) × Asked (closed_map qs q x x.returned) (ms ++ ns)
closed_sent qs ms ns q x e f g h =
    let k = says_asked qs (closed_map qs q x x.returned) ms (says_closed qs q x e) h in
    (sent_none (closed_map qs q x x.returned) ms ns f ∙ k.1, asked_more (closed_map qs q x x.returned) ms ns k.0 g)

-- An act delivers nothing, and sends no call on; or it does so with the next call to be routed.
data Tells (d new : Moment) : Type 0 where
  Nothing : list new ≡ list d → sent new ≡ sent d → Told new → Tells d new
  OneCall : (o : ℕ) → list new ≡ list d ++ Some o ∷ [] → sent new ≡ sent d → ((k : ℕ) → all_waiting k new + is_key k o ≡ all_waiting k d) → Told new → Tells d new
  OneSent : (o : ℕ) → list new ≡ list d → sent new ≡ sent d ++ Some o ∷ [] → ((k : ℕ) → all_waiting k new + is_key k o ≡ all_waiting k d) → Told new → Tells d new

tells : (d new : Moment) → Told d → Act d new → Tells d new
tells d new i (act.Delivers c n rest u e f h) =
    rw h (OneCall c.outcome (list_more d.state.tasks d.state.next_task c.outcome (delivery d.state c u) d.effects.deliveries refl i.0) refl (λ k. let y = ap (yet_for k) e in omega arith) (below_more d.state.next_task (delivery d.state c u) d.effects.deliveries refl i.0, i.1))
tells d new i (act.Waits c n rest p calls e f j h) = rw h (Nothing refl refl i)
tells d new i (act.Holds c n rest u path x e f j h) = rw h (Nothing refl refl i)
tells d new i (act.Relays c n rest q t ds es e f j k h) =
    let w = one_sent d.state.questions d.effects.sends q (first.asked (role.Relay c.outcome) ds) (record { question = record { 0 = q }; target = t; interface = c.request.interface; method = c.request.method; payload = c.request.payload; descriptors = ds; stamp = c.request.stamp }) j refl refl i.1 in
    rw h (OneSent c.outcome refl w.0 (λ k. let y = ap (yet_for k) e in omega arith) (i.0, w.1))
tells d new i (act.Breaks c n rest reason e f h) = rw h (Nothing refl refl i)
tells d new i (act.NextArisen u v rest e f h) = rw h (Nothing refl refl i)
tells d new i (act.Knows u v fit x ps e f j k h) = rw h (Nothing refl refl i)
tells d new i (act.Reports c v from e f h) = rw h (Nothing refl refl i)
tells d new i (act.TellsNobody c v e f h) = rw h (Nothing refl refl i)
tells d new i (act.MakesReturn q v x b ds es e f j k h) = rw h (Nothing refl refl i)
tells d new i (act.SendsReturn x y e f j h) = rw h (Nothing refl (sent_none d.state.questions d.effects.sends (message.Plain (plain.Return _) ∷ []) refl) (i.0, asked_more d.state.questions d.effects.sends (message.Plain (plain.Return _) ∷ []) i.1 (tt, tt)))
tells d new i (act.Clears x e f h) = rw h (Nothing refl refl i)
tells d new i (act.Lists x e h) = rw h (Nothing refl refl i)
tells d new i (act.SendsResolve x rest k es e w f h) = rw h (Nothing refl (sent_none d.state.questions d.effects.sends (message.Plain (plain.Resolve _) ∷ []) refl) (i.0, asked_more d.state.questions d.effects.sends (message.Plain (plain.Resolve _) ∷ []) i.1 (tt, tt)))
tells d new i (act.SendsBroken x rest reason e f h) = rw h (Nothing refl (sent_none d.state.questions d.effects.sends (message.Plain (plain.Resolve _) ∷ []) refl) (i.0, asked_more d.state.questions d.effects.sends (message.Plain (plain.Resolve _) ∷ []) i.1 (tt, tt)))
tells d new i (act.PromiseGoes p to w e f h) = rw h (Nothing refl refl i)
tells d new i (act.OutcomeGoes u x v w e f j k l h) = rw h (Nothing refl refl i)
tells d new i (act.ImportGoes k x w e f h) = rw h (Nothing refl refl i)
tells d new i (act.Sweeps over e f j h) = rw h (Nothing refl refl i)
tells d new i (act.SendsFinish q x rest e f j k l h) = let w = closed_sent d.state.questions d.effects.sends (message.Plain (plain.Finish _) ∷ []) q x f refl (tt, tt) i.1 in rw h (Nothing refl w.0 (i.0, w.1))
tells d new i (act.Closes q x rest e f j k l h) = let w = says_asked d.state.questions (closed_map d.state.questions q x x.returned) d.effects.sends (says_closed d.state.questions q x f) i.1 in rw h (Nothing refl w.1 (i.0, w.0))
tells d new i (act.Releases w e f h) = rw h (Nothing refl (sent_none d.state.questions d.effects.sends (release_messages (map.entries d.released)) (releases_sent d.state.questions (map.entries d.released))) (i.0, asked_more d.state.questions d.effects.sends (release_messages (map.entries d.released)) i.1 (releases_asked d.state.questions (map.entries d.released))))

-- ---- Each act

module _ (s : State) (a b : ℕ) where
  abbrev pub InLine : Moment → Type 0
  InLine d = Line s a b d.state.promises d.state.outcomes d.state.embargoes d.yet

  -- A call that is next is not both there and in the rest.
  pub leaves : (d : Moment) (c : WaitingCall) (n : Node) (rest : List (WaitingCall × Node)) → d.yet ≡ (c, n) ∷ rest → all_waiting a d ≤ 1 → c.outcome ≡ a → times_waiting a d.state + yet_for a rest ≡ 0
  leaves d c n rest e i f = let k = is_one a c.outcome f in let y = ap (yet_for a) e in omega arith

  -- It does not wait: the first of the two is gone, or the line stays.
  goes_on : (d : Moment) (c : WaitingCall) (n : Node) (rest : List (WaitingCall × Node)) → AllStop d.state → d.yet ≡ (c, n) ∷ rest → all_waiting a d ≤ 1
      → ((p : ℕ) → settle d.state n ≢ node.Promise p) → ((o : ℕ) (path : List Op) → settle d.state n ≢ node.Field o path)
      → InLine d → Line s a b d.state.promises d.state.outcomes d.state.embargoes rest ⊎ (times_waiting a d.state + yet_for a rest ≡ 0)
  goes_on d c n rest stop e i f g l = by (coming s a b d.state.promises d.state.outcomes d.state.embargoes c n rest (subst (Line s a b d.state.promises d.state.outcomes d.state.embargoes) e l))
    where
      by : Next s a b d.state.promises d.state.outcomes d.state.embargoes c n rest → Line s a b d.state.promises d.state.outcomes d.state.embargoes rest ⊎ (times_waiting a d.state + yet_for a rest ≡ 0)
      by (IsFirst k y) = inr (leaves d c n rest e i k)
      by (ToPromise p k h y) = absurd (f p (sym ((leads s d.state stop).1 n) ∙ y))
      by (ToField o path k h y) = absurd (g o path (sym ((leads s d.state stop).1 n) ∙ y))
      by (IsOther k) = inl k

  waits : (d : Moment) (c : WaitingCall) (n : Node) (rest : List (WaitingCall × Node)) (p : ℕ) (calls : List WaitingCall) → AllStop d.state → d.yet ≡ (c, n) ∷ rest → settle d.state n ≡ node.Promise p → map.get d.state.promises p ≡ Some (promise.Open calls)
      → InLine d → Line s a b (map.insert d.state.promises p (promise.Open (calls ++ c ∷ []))) d.state.outcomes d.state.embargoes rest
  waits d c n rest p calls stop e f j l = by (coming s a b ps os es c n rest (subst (Line s a b ps os es) e l))
    where
      ps : Map Promise
      ps = d.state.promises

      os : Map KeptOutcome
      os = d.state.outcomes

      es : Map Embargo
      es = d.state.embargoes

      at : AllStop (with_tables s d.state.promises d.state.outcomes) × ((m : Node) → lead s d.state.promises d.state.outcomes m ≡ settle d.state m)
      at = leads s d.state stop

      by : Next s a b d.state.promises d.state.outcomes d.state.embargoes c n rest → Line s a b (map.insert d.state.promises p (promise.Open (calls ++ c ∷ []))) d.state.outcomes d.state.embargoes rest
      by (IsFirst k y) = AtPromise p n (promise_at (Has a) d.state.promises p (calls ++ c ∷ []) (has_last a c calls k)) y (leads_open s d.state.promises d.state.outcomes at.0 p calls (calls ++ c ∷ []) j n ∙ at.1 n ∙ f)
      by (ToPromise q k h y) =
          let g : node.Promise q ≡ node.Promise p = sym y ∙ at.1 n ∙ f in
          OnPromise p (promise_at (Before a b) d.state.promises p (calls ++ c ∷ []) (before_last a b c calls k (promise_here (Has a) d.state.promises p calls j q g h)))
      by (ToField o path k h y) = absurd (let g : node.Field o path ≡ node.Promise p = sym y ∙ at.1 n ∙ f in cc)
      by (IsOther k) = line_waits s a b d.state.promises d.state.outcomes d.state.embargoes at.0 p calls c rest j k

  holds : (d : Moment) (c : WaitingCall) (n : Node) (rest : List (WaitingCall × Node)) (o : ℕ) (path : List Op) (x : KeptOutcome) → AllStop d.state → d.yet ≡ (c, n) ∷ rest → settle d.state n ≡ node.Field o path → map.get d.state.outcomes o ≡ Some x
      → InLine d → Line s a b d.state.promises (map.insert d.state.outcomes o (record x { waiting = x.waiting ++ record { path = path; call = c } ∷ [] })) d.state.embargoes rest
  holds d c n rest o path x stop e f j l = by (coming s a b d.state.promises d.state.outcomes d.state.embargoes c n rest (subst (Line s a b d.state.promises d.state.outcomes d.state.embargoes) e l))
    where
      held : HeldCall
      held = record { path = path; call = c }

      then : KeptOutcome
      then = record x { waiting = x.waiting ++ record { path = path; call = c } ∷ [] }

      at : AllStop (with_tables s d.state.promises d.state.outcomes) × ((m : Node) → lead s d.state.promises d.state.outcomes m ≡ settle d.state m)
      at = leads s d.state stop

      by : Next s a b d.state.promises d.state.outcomes d.state.embargoes c n rest → Line s a b d.state.promises (map.insert d.state.outcomes o (record x { waiting = x.waiting ++ record { path = path; call = c } ∷ [] })) d.state.embargoes rest
      by (IsFirst k y) = AtField o path n (outcome_at (HasAt path a) d.state.outcomes o (record x { waiting = x.waiting ++ record { path = path; call = c } ∷ [] }) (held_last path a (record { path = path; call = c }) x.waiting refl k)) y (leads_held s d.state.promises d.state.outcomes at.0 o x (record x { waiting = x.waiting ++ record { path = path; call = c } ∷ [] }) j refl n ∙ at.1 n ∙ f)
      by (ToPromise q k h y) = absurd (let g : node.Promise q ≡ node.Field o path = sym y ∙ at.1 n ∙ f in cc)
      by (ToField q way k h y) =
          let g : node.Field q way ≡ node.Field o path = sym y ∙ at.1 n ∙ f in
          let i : q ≡ o = cc in
          let u : way ≡ path = cc in
          OnField o path (outcome_at (BeforeAt path a b) d.state.outcomes o (record x { waiting = x.waiting ++ record { path = path; call = c } ∷ [] }) (held_before_last path a b (record { path = path; call = c }) x.waiting refl k (outcome_here (HasAt path a) d.state.outcomes o x j q i (subst (λ (w : List Op). OfOutcome (HasAt w a) (map.get d.state.outcomes q)) u h))))
      by (IsOther k) = line_holds s a b d.state.promises d.state.outcomes d.state.embargoes at.0 o x (record { path = path; call = c }) rest j k

  knows : (d : Moment) (u : ℕ) (v fit : Value) (x : KeptOutcome) (ps : Map Promise) → d.yet ≡ [] → map.get d.state.outcomes u ≡ Some x → Fits d.state u x.caller x.waiting v fit (record (d.state) { promises = ps }) → InLine d → Line s a b ps (map.insert d.state.outcomes u (kept_known x.caller fit x.waiting)) d.state.embargoes d.yet
  knows d u v fit x ps e f k (OnPromise p h) = OnPromise p (open_fitted (Before a b) u x.caller x.waiting p d.state v fit (record (d.state) { promises = ps }) k h)
  knows d u v fit x ps e f k (OnField o path h) = OnField o path (outcome_more (BeforeAt path a b) d.state.outcomes u x (kept_known x.caller fit x.waiting) f (λ i. i) o h)
  knows d u v fit x ps e f k (OnEmbargo q h) = OnEmbargo q h
  knows d u v fit x ps e f k (OnWay n h) = absurd (subst (YetBefore n a b) e h)
  knows d u v fit x ps e f k (AtPromise p n h y l) = absurd (subst (YetHas n b) e y)
  knows d u v fit x ps e f k (AtField o path n h y l) = absurd (subst (YetHas n b) e y)

  clears : (d : Moment) (x : Clearing) → d.yet ≡ [] → IsStill d.state x → InLine d → Line s a b d.state.promises (map.insert d.state.outcomes x.outcome (kept_known x.caller x.value [])) d.state.embargoes (held_to x.outcome x.waiting)
  clears d x e f (OnPromise p h) = OnPromise p h
  clears d x e f (OnField o path h) = by f
    where
      here : OfOutcome (BeforeAt path a b) (map.get (map.insert d.state.outcomes x.outcome (kept_known x.caller x.value [])) o) ⊎ ((o ≡ x.outcome) × BeforeAt path a b x.waiting) → Line s a b d.state.promises (map.insert d.state.outcomes x.outcome (kept_known x.caller x.value [])) d.state.embargoes (held_to x.outcome x.waiting)
      here (inl i) = OnField o path i
      here (inr i) = OnWay (node.Field x.outcome path) (held_before x.outcome path a b x.waiting i.1)

      by : IsStill d.state x → Line s a b d.state.promises (map.insert d.state.outcomes x.outcome (kept_known x.caller x.value [])) d.state.embargoes (held_to x.outcome x.waiting)
      by (inl g) = here (outcome_cleared (BeforeAt path a b) d.state.outcomes x.outcome (kept_known x.caller x.value x.waiting) (kept_known x.caller x.value []) g o h)
      by (inr g) = OnField o path (outcome_new (BeforeAt path a b) d.state.outcomes x.outcome (kept_known x.caller x.value []) g.0 o h)
  clears d x e f (OnEmbargo q h) = OnEmbargo q h
  clears d x e f (OnWay n h) = absurd (subst (YetBefore n a b) e h)
  clears d x e f (AtPromise p n h y l) = absurd (subst (YetHas n b) e y)
  clears d x e f (AtField o path n h y l) = absurd (subst (YetHas n b) e y)

  promise_goes : (d : Moment) (p : ℕ) (to : Node) → d.yet ≡ [] → map.get d.state.promises p ≡ Some (promise.Fixed to) → InLine d → Line s a b (map.remove d.state.promises p) d.state.outcomes d.state.embargoes d.yet
  promise_goes d p to e f (OnPromise q h) = OnPromise q (promise_cut (Before a b) d.state.promises p to f q h)
  promise_goes d p to e f (OnField o path h) = OnField o path h
  promise_goes d p to e f (OnEmbargo q h) = OnEmbargo q h
  promise_goes d p to e f (OnWay n h) = absurd (subst (YetBefore n a b) e h)
  promise_goes d p to e f (AtPromise q n h y l) = absurd (subst (YetHas n b) e y)
  promise_goes d p to e f (AtField o path n h y l) = absurd (subst (YetHas n b) e y)

  outcome_goes : (d : Moment) (u : ℕ) (x : KeptOutcome) → d.yet ≡ [] → map.get d.state.outcomes u ≡ Some x → x.waiting ≡ [] → InLine d → Line s a b d.state.promises (map.remove d.state.outcomes u) d.state.embargoes d.yet
  outcome_goes d u x e f g (OnPromise q h) = OnPromise q h
  outcome_goes d u x e f g (OnField o path h) = OnField o path (outcome_cut (BeforeAt path a b) d.state.outcomes u x f (λ i. subst (BeforeAt path a b) g i) o h)
  outcome_goes d u x e f g (OnEmbargo q h) = OnEmbargo q h
  outcome_goes d u x e f g (OnWay n h) = absurd (subst (YetBefore n a b) e h)
  outcome_goes d u x e f g (AtPromise q n h y l) = absurd (subst (YetHas n b) e y)
  outcome_goes d u x e f g (AtField o path n h y l) = absurd (subst (YetHas n b) e y)

  abbrev Moves : Moment → Type 0
  Moves new = InLine new ⊎ (all_waiting a new ≡ 0)

  wire_is : (n : Node) (t : Target) → wire_target n ≡ Some t → ((p : ℕ) → n ≢ node.Promise p) × ((o : ℕ) (path : List Op) → n ≢ node.Field o path)
  wire_is n t e = (λ p h. absurd (let g : None ≡ Some t = sym (ap wire_target h) ∙ e in cc), λ o path h. absurd (let g : None ≡ Some t = sym (ap wire_target h) ∙ e in cc))

  moves : (d new : Moment) → AllStop d.state → all_waiting a d ≤ 1 → Quiet d → InLine d → Act d new → Moves new
  moves d new stop i q l (act.Delivers c n rest u e f h) = rw h (goes_on d c n rest stop e i (λ p g. absurd (let z : node.Object u ≡ node.Promise p = sym f ∙ g in cc)) (λ o path g. absurd (let z : node.Object u ≡ node.Field o path = sym f ∙ g in cc)) l)
  moves d new stop i q l (act.Waits c n rest p calls e f j h) = rw h (inl (waits d c n rest p calls stop e f j l))
  moves d new stop i q l (act.Holds c n rest u path x e f j h) = rw h (inl (holds d c n rest u path x stop e f j l))
  moves d new stop i q l (act.Relays c n rest k t ds es e f j z h) = let w = wire_is (settle d.state n) t f in rw h (goes_on d c n rest stop e i w.0 w.1 l)
  moves d new stop i q l (act.Breaks c n rest reason e f h) = rw h (goes_on d c n rest stop e i (λ p g. absurd (let z : node.Broken reason ≡ node.Promise p = sym f ∙ g in cc)) (λ o path g. absurd (let z : node.Broken reason ≡ node.Field o path = sym f ∙ g in cc)) l)
  moves d new stop i q l (act.NextArisen u v rest e f h) = rw h (inl l)
  moves d new stop i q l (act.Knows u v fit x ps e f j k h) = rw h (inl (knows d u v fit x ps (ap (λ (m : Moment). m.yet) e) f k l))
  moves d new stop i q l (act.Reports c v from e f h) = rw h (inl l)
  moves d new stop i q l (act.TellsNobody c v e f h) = rw h (inl l)
  moves d new stop i q l (act.MakesReturn k v x y ds es e f j z h) = rw h (inl l)
  moves d new stop i q l (act.SendsReturn x y e f j h) = rw h (inl l)
  moves d new stop i q l (act.Clears x e f h) = rw h (inl (clears d x (ap (λ (m : Moment). m.yet) e) f l))
  moves d new stop i q l (act.Lists x e h) = rw h (inl l)
  moves d new stop i q l (act.SendsResolve x rest k es e w f h) = rw h (inl l)
  moves d new stop i q l (act.SendsBroken x rest reason e f h) = rw h (inl l)
  moves d new stop i q l (act.PromiseGoes p to w e f h) = rw h (inl (promise_goes d p to (no_yet d w q) e l))
  moves d new stop i q l (act.OutcomeGoes u x v w e f j k z h) = rw h (inl (outcome_goes d u x (no_yet d w q) e j l))
  moves d new stop i q l (act.ImportGoes k x w e f h) = rw h (inl l)
  moves d new stop i q l (act.Sweeps over e f j h) = rw h (inl l)
  moves d new stop i q l (act.SendsFinish k x rest e f j z y h) = rw h (inl l)
  moves d new stop i q l (act.Closes k x rest e f j z y h) = rw h (inl l)
  moves d new stop i q l (act.Releases w e f h) = rw h (inl l)

  -- ---- All of it

  abbrev pub Ordered : Moment → Type 0
  Ordered d =
      (InLine d × Lacks b (delivered d.state.tasks d.effects.deliveries) × Lacks b (sent_on d.state.questions d.effects.sends))
      ⊎ ((all_waiting a d ≡ 0) × NotBehind a b (delivered d.state.tasks d.effects.deliveries) × NotBehind a b (sent_on d.state.questions d.effects.sends))

  abbrev pub Fine : Moment → Type 0
  Fine d = (all_waiting a d ≤ 1) × (all_waiting b d ≤ 1) × Quiet d × Told d × Ordered d

  not_it : (k o : ℕ) (d new : Moment) → all_waiting k new + is_key k o ≡ all_waiting k d → all_waiting k d ≤ all_waiting k new → Some o ≢ Some k
  not_it k o d new e l h = absurd (let f : o ≡ k = cc in let g = is_one k o f in omega arith)

  ordered : (d new : Moment) → AllStop d.state → Fine d → Act d new → Told new × Ordered new
  ordered d new stop i x = by i.4 (tells d new i.3 x)
    where
      then : Moves new → Lacks b (list d) → Lacks b (sent d) → Tells d new → Told new × Ordered new
      then (inl l) h k (Nothing e f g) = (g, inl (l, subst (Lacks b) (sym e) h, subst (Lacks b) (sym f) k))
      then (inl l) h k (OneCall o e f j g) =
          let c = behind_counts s a b new.state.promises new.state.outcomes new.state.embargoes new.yet l in
          let z = i.1 in
          (g, inl (l, subst (Lacks b) (sym e) (lacks_more b (Some o) (list d) (not_it b o d new (j b) (omega arith)) h), subst (Lacks b) (sym f) k))
      then (inl l) h k (OneSent o e f j g) =
          let c = behind_counts s a b new.state.promises new.state.outcomes new.state.embargoes new.yet l in
          let z = i.1 in
          (g, inl (l, subst (Lacks b) (sym e) h, subst (Lacks b) (sym f) (lacks_more b (Some o) (sent d) (not_it b o d new (j b) (omega arith)) k)))
      then (inr l) h k (Nothing e f g) = (g, inr (l, subst (NotBehind a b) (sym e) (none_behind a b (list d) h), subst (NotBehind a b) (sym f) (none_behind a b (sent d) k)))
      then (inr l) h k (OneCall o e f j g) = (g, inr (l, subst (NotBehind a b) (sym e) (none_behind_last a b (Some o) (list d) h), subst (NotBehind a b) (sym f) (none_behind a b (sent d) k)))
      then (inr l) h k (OneSent o e f j g) = (g, inr (l, subst (NotBehind a b) (sym e) (none_behind a b (list d) h), subst (NotBehind a b) (sym f) (none_behind_last a b (Some o) (sent d) k)))

      by : Ordered d → Tells d new → Told new × Ordered new
      by (inl h) t = then (moves d new stop i.0 i.2 h.0 x) h.1 h.2 t
      by (inr h) (Nothing e f g) = let m = no_more a d new x in let z = h.0 in (g, inr (omega arith, subst (NotBehind a b) (sym e) h.1, subst (NotBehind a b) (sym f) h.2))
      by (inr h) (OneCall o e f j g) =
          let m = no_more a d new x in
          let z = h.0 in
          (g, inr (omega arith, subst (NotBehind a b) (sym e) (behind_more a b (Some o) (list d) (not_it a o d new (j a) (omega arith)) h.1), subst (NotBehind a b) (sym f) h.2))
      by (inr h) (OneSent o e f j g) =
          let m = no_more a d new x in
          let z = h.0 in
          (g, inr (omega arith, subst (NotBehind a b) (sym e) h.1, subst (NotBehind a b) (sym f) (behind_more a b (Some o) (sent d) (not_it a o d new (j a) (omega arith)) h.2)))

  pub acted : (d new : Moment) → AllStop d.state → Fine d → Act d new → Fine new
  acted d new stop i x =
      let m = no_more a d new x in
      let n = no_more b d new x in
      let y = i.0 in
      let z = i.1 in
      let o = ordered d new stop i x in
      (omega arith, omega arith, quiet d new i.2 x, o.0, o.1)
