-- In each state to which a vat comes every node stops: by the acts of its steps.
use Rattle.std.proofs.Common.{◌≡◌, ◌⊎◌, inl, inr, ℕ, false, List, [], ◌∷◌, ◌++◌, Option, None, Some, refl, sym, ap, subst, ◌∙◌}
use Rattle.std.specs.Ordering.{nat_cmp}
use Rattle.std.specs.FinMap as map
use Rattle.finite_maps.specs.Tally.{Map}
use Rattle.finite_maps.proofs.Gets.{get-insert_same}
use Rattle.rpc_msg.specs.declared.message.Message.{Message}
use Rattle.rpc_machine.specs.declared.command.Command.{Command}
use Rattle.rpc_machine.specs.declared.command.Granted.{Granted}
use Rattle.rpc_machine.specs.declared.command.Effects.{Effects}
use Rattle.rpc_machine.specs.declared.node.Node.{Node}
use Rattle.rpc_machine.specs.declared.node.Node.TheVariants as node
use Rattle.rpc_machine.specs.declared.node.Reason.{Reason}
use Rattle.rpc_machine.specs.declared.node.Reason.TheVariants.{BrokenPromise}
use Rattle.rpc_machine.specs.declared.calls.WaitingCall.{WaitingCall}
use Rattle.rpc_machine.specs.declared.calls.Promise.{Promise}
use Rattle.rpc_machine.specs.declared.calls.Promise.TheVariants as promise
use Rattle.rpc_machine.specs.declared.calls.KeptOutcome.{KeptOutcome}
use Rattle.rpc_machine.specs.State.{State, start}
use Rattle.rpc_machine.specs.Nodes.{promise_link, value_of, field_link, link, settle, is_promise}
use Rattle.rpc_machine.specs.Down.{fallen}
use Rattle.rpc_machine.specs.Settling.{known}
use Rattle.rpc_machine.specs.Refusals.{refused}
use Rattle.laws_steps.specs.NodesThere.{IsReached}
use Rattle.laws_steps.proofs.Kept.{in_each}
use Rattle.laws_acts.specs.Moments.{Clearing, Moment, beginning}
use Rattle.laws_acts.specs.FirstActs.{Starts}
use Rattle.laws_acts.specs.FirstActs as first
use Rattle.laws_acts.specs.MessageActs.{Consumes}
use Rattle.laws_acts.specs.MessageActs as message
use Rattle.laws_acts.specs.SmallActs.{Act, kept_known}
use Rattle.laws_acts.specs.SmallActs as act
use Rattle.laws_acts.proofs.Checks.{no_circle}
use Rattle.laws_acts.proofs.EachStep.{kept, IsLaw, of_each_step}
use Rattle.rpc_machine.proofs.Settles.{settles_here}
use Rattle.laws_nodes.specs.Settling.{AllStop, StopsWithin}
use Rattle.laws_nodes.proofs.Stopping.{fixed_stops}
use Rattle.finite_maps.proofs.Tested.{get_other, at_put}
use Rattle.laws_nodes.proofs.Knowing.{known_stops}
use Rattle.laws_nodes.proofs.Collected.{FewerPromises, FewerValues, fewer, promise_cut, value_cut}

-- ---- Moments

-- The state with an outcome back in its place whose caller is still to be told: until then it might go.
abbrev full : State → Option Clearing → State
full s None = s
full s (Some x) = known s x.outcome x.caller x.waiting x.value

abbrev Fine : Moment → Type 0
Fine d = AllStop d.state × AllStop (full d.state d.clearing)

-- Fewer links, or the same.
values_put : (m n : Map KeptOutcome) (o : ℕ) (x : KeptOutcome) → FewerValues m n → FewerValues (map.insert m o x) (map.insert n o x)
values_put m n o x f =
    at_put (λ j y. (value_of y ≡ value_of (map.get (map.insert m o x) j)) ⊎ (value_of y ≡ None)) n o x
    (inl (sym (ap value_of (get-insert_same m o x))))
    (λ j e. subst (λ (y : Option KeptOutcome). (value_of (map.get n j) ≡ value_of y) ⊎ (value_of (map.get n j) ≡ None)) (sym (get_other m o x j e)) (f j))

fewer_fine : (s t : State) (c : Option Clearing) → FewerPromises s.promises t.promises → FewerValues s.outcomes t.outcomes → AllStop s × AllStop (full s c) → AllStop t × AllStop (full t c)
fewer_fine s t c f g h = (fewer s t f g h.0, by c h.1)
  where
    by : (c : Option Clearing) → AllStop (full s c) → AllStop (full t c)
    by None a = fewer s t f g a
    by (Some x) a = fewer (full s (Some x)) (full t (Some x)) f (values_put s.outcomes t.outcomes x.outcome (record { caller = x.caller; value = Some x.value; waiting = x.waiting }) g) a

-- An open promise, or an outcome, with the links that it had.
open_put : (m : Map Promise) (p : ℕ) (calls : List WaitingCall) → FewerPromises m (map.insert m p (promise.Open calls))
open_put m p calls = at_put (λ j y. (promise_link y ≡ promise_link (map.get m j)) ⊎ (promise_link y ≡ None)) m p (promise.Open calls) (inr refl) (λ j e. inl refl)

value_put : (m : Map KeptOutcome) (o : ℕ) (x : KeptOutcome) → (x.value ≡ value_of (map.get m o)) ⊎ (x.value ≡ None) → FewerValues m (map.insert m o x)
value_put m o x h = at_put (λ j y. (value_of y ≡ value_of (map.get m j)) ⊎ (value_of y ≡ None)) m o x h (λ j e. inl refl)

-- A state with the same promises and one outcome put in.
with_value : (s : State) (o : ℕ) (x : KeptOutcome) → (x.value ≡ value_of (map.get s.outcomes o)) ⊎ (x.value ≡ None) → AllStop s → AllStop (record s { outcomes = map.insert s.outcomes o x })
with_value s o x h a = fewer s (record s { outcomes = map.insert s.outcomes o x }) (λ j. inl refl) (value_put s.outcomes o x h) a

with_open : (s : State) (p : ℕ) (calls : List WaitingCall) → AllStop s → AllStop (record s { promises = map.insert s.promises p (promise.Open calls) })
with_open s p calls a = fewer s (record s { promises = map.insert s.promises p (promise.Open calls) }) (open_put s.promises p calls) (λ j. inl refl) a

-- The calls that waited are in its list no more.
cleared : (m : Map KeptOutcome) (x : Clearing) → FewerValues (map.insert m x.outcome (kept_known x.caller x.value x.waiting)) (map.insert m x.outcome (kept_known x.caller x.value []))
cleared m x =
    let before : KeptOutcome = kept_known x.caller x.value x.waiting in
    at_put (λ j y. (value_of y ≡ value_of (map.get (map.insert m x.outcome before) j)) ⊎ (value_of y ≡ None)) m x.outcome (kept_known x.caller x.value [])
    (inl (sym (ap value_of (get-insert_same m x.outcome before))))
    (λ j e. inl (sym (ap value_of (get_other m x.outcome before j e))))

-- ---- The acts

broken_far : (s : State) (p : ℕ) (r : Reason) → is_promise p (settle s (node.Broken r)) ≡ false
broken_far s p r = ap (is_promise p) (settles_here s (node.Broken r) refl)

started : (s : State) (c : Command) (g : Granted) (new : Moment) → refused s c ≡ None → Starts (beginning s) c g new → AllStop s → Fine new
started s c g new free (first.Hosts o e i h) a = rw h (a, a)
started s c g new free (first.Clones r x e f i h) a = rw h (a, a)
started s c g new free (first.Drops r x e f i h) a = rw h (a, a)
started s c g new free (first.AsksRoot q e f i h) a = rw h (a, a)
started s c g new free (first.CallsOut k x q t ds es e f i w j o l h) a = rw h (a, a)
started s c g new free (first.CallsHere k x o e f i w j l h) a = let b = with_value s o (record { caller = _; value = None; waiting = [] }) (inr refl) a in rw h (b, b)
started s c g new free (first.CallsLater k x o e b f i j l m n h) a = let b = with_value s o (record { caller = _; value = None; waiting = [] }) (inr refl) a in rw h (b, b)
started s c g new free (first.NamesField k path from e f i h) a = rw h (a, a)
started s c g new free (first.Promises p e f i h) a = let b = with_open s p [] a in rw h (b, b)
started s c g new free (first.Fixes p r x key calls e f i j l h) a =
    let far = no_circle s p r x key (subst (λ (k : Command). refused s k ≡ None) e free) f i in
    let b = fixed_stops s key x.head (ap promise_link j) far a in
    rw h (b, b)
started s c g new free (first.Rejects p why key calls e f i l h) a = let b = fixed_stops s key (node.Broken BrokenPromise) (ap promise_link i) (broken_far s key BrokenPromise) a in rw h (b, b)
started s c g new free (first.Answers t payload refs o e f i h) a = rw h (a, a)
started s c g new free (first.Fails t why o e f i h) a = rw h (a, a)
started s c g new free (first.Finishes k from e f i h) a = rw h (a, a)
started s c g new free (first.StaysPut r x e f i h) a = rw h (a, a)
started s c g new free (first.Breaks r x reason e f i j k h) a = rw h (a, a)
started s c g new free (first.Switches r x by n e f i j k l m h) a = rw h (a, a)
started s c g new free (first.Turns r x by n t j e f i k l o w u v h) a = rw h (a, a)

consumed : (s : State) (m : Message) (new : Moment) → Consumes (beginning s) m new → AllStop s → Fine new
consumed s m new (message.OpensRoot q o e f i h) a = let b = with_value s o (record { caller = _; value = None; waiting = [] }) (inr refl) a in rw h (b, b)
consumed s m new (message.OpensCall c o e f i h) a = let b = with_value s o (record { caller = _; value = None; waiting = [] }) (inr refl) a in rw h (b, b)
consumed s m new (message.Loses b x e f i j h) a = rw h (a, a)
consumed s m new (message.ComesToCall b x c e f i j k h) a = rw h (a, a)
consumed s m new (message.ComesToRelay b x o e f i j k h) a = rw h (a, a)
consumed s m new (message.IsFinished x y e f i h) a = rw h (a, a)
consumed s m new (message.IsResolved r e h) a = rw h (a, a)
consumed s m new (message.IsReleased r e h) a = rw h (a, a)
consumed s m new (message.SendsBack t to x e f h) a = rw h (a, a)
consumed s m new (message.Lifts t x b e f h) a = rw h (a, a)
consumed s m new (message.SendsForeign p e f h) a = rw h (a, a)
consumed s m new (message.SendsOther n e h) a = rw h (a, a)
consumed s m new (message.TakesBack r e h) a = rw h (a, a)
consumed s m new (message.Ignores r e h) a = rw h (a, a)

-- What changes neither promises nor outcomes.
plain_fine : (s t : State) (c : Option Clearing) → t.promises ≡ s.promises → t.outcomes ≡ s.outcomes → AllStop s × AllStop (full s c) → AllStop t × AllStop (full t c)
plain_fine s t c e f h = fewer_fine s t c (λ j. inl (ap (λ (m : Map Promise). promise_link (map.get m j)) e)) (λ j. inl (ap (λ (m : Map KeptOutcome). value_of (map.get m j)) f)) h

acted : (d new : Moment) → Fine d → Act d new → Fine new
acted d new a (act.Delivers c n rest o e f h) = rw h (plain_fine d.state _ d.clearing refl refl a)
acted d new a (act.Waits c n rest p calls e f i h) = rw h (fewer_fine d.state _ d.clearing (open_put d.state.promises p (calls ++ c ∷ [])) (λ j. inl refl) a)
acted d new a (act.Holds c n rest o path x e f i h) = rw h (fewer_fine d.state _ d.clearing (λ j. inl refl) (value_put d.state.outcomes o _ (inl (ap value_of (sym i)))) a)
acted d new a (act.Relays c n rest q t ds es e f i j h) = rw h (plain_fine d.state _ d.clearing refl refl a)
acted d new a (act.Breaks c n rest reason e f h) = rw h a
acted d new a (act.NextArisen o v rest e f h) = rw h a
acted d new a (act.Knows o v fit x ps e f i j h) =
    let b = known_stops o x.caller x.waiting d.state v fit (record (d.state) { promises = ps }) j a.0 in
    rw h (b, with_value (known (record (d.state) { promises = ps }) o x.caller x.waiting fit) o (kept_known x.caller fit x.waiting) (inl (sym (ap value_of (get-insert_same d.state.outcomes o (kept_known x.caller fit x.waiting))))) b)
acted d new a (act.Reports c v from e f h) = rw h (plain_fine d.state _ d.clearing refl refl a)
acted d new a (act.TellsNobody c v e f h) = rw h a
acted d new a (act.MakesReturn q v x b ds es e f i j h) = rw h (plain_fine d.state _ d.clearing refl refl a)
acted d new a (act.SendsReturn x y e f i h) = rw h (plain_fine d.state _ d.clearing refl refl a)
acted d new a (act.Clears x e f h) =
    let whole : AllStop (full d.state (Some x)) = subst (λ (c : Option Clearing). AllStop (full d.state c)) (ap (λ (m : Moment). m.clearing) e) a.1 in
    let t : State = record (d.state) { outcomes = map.insert d.state.outcomes x.outcome (kept_known x.caller x.value []) } in
    let b : AllStop t = fewer (full d.state (Some x)) t (λ k. inl refl) (cleared d.state.outcomes x) whole in
    rw h (b, b)
acted d new a (act.Lists x e h) = rw h a
acted d new a (act.SendsResolve x rest k es e w f h) = rw h (plain_fine d.state _ d.clearing refl refl a)
acted d new a (act.SendsBroken x rest reason e f h) = rw h a
acted d new a (act.PromiseGoes p to w e f h) = rw h (fewer_fine d.state _ d.clearing (promise_cut d.state.promises p) (λ j. inl refl) a)
acted d new a (act.OutcomeGoes o x v w e f i j k h) = rw h (fewer_fine d.state _ d.clearing (λ l. inl refl) (value_cut d.state.outcomes o) a)
acted d new a (act.ImportGoes k x w e f h) = rw h (plain_fine d.state _ d.clearing refl refl a)
acted d new a (act.Sweeps over e f i h) = rw h a
acted d new a (act.SendsFinish q x rest e f i j k h) = rw h (plain_fine d.state _ d.clearing refl refl a)
acted d new a (act.Closes q x rest e f i j k h) = rw h (plain_fine d.state _ d.clearing refl refl a)
acted d new a (act.Releases w e f h) = rw h a

-- ---- Reached states

pub empty_stops : (s : State) → s.promises ≡ map.empty → s.outcomes ≡ map.empty → AllStop s
empty_stops s e f n = (0, by n)
  where
    by : (n : Node) → link s n ≡ None
    by (node.Object o) = refl
    by (node.Promise p) = ap (λ (m : Map Promise). promise_link (map.get m p)) e ∙ ap promise_link (map.get-empty nat_cmp p)
    by (node.Field o path) = ap (λ (m : Map KeptOutcome). field_link path (value_of (map.get m o))) f ∙ ap (λ (x : Option KeptOutcome). field_link path (value_of x)) (map.get-empty nat_cmp o)
    by (node.Import k) = refl
    by (node.Pipe q path) = refl
    by (node.Broken r) = refl

abbrev Keeps : State → Effects → State → Type 0
Keeps s x t = AllStop s → AllStop t

law : IsLaw (λ s d. AllStop s → Fine d) Keeps
law = record {
  starts = λ s c g new f h a. started s c g new f h a;
  consumes = λ s m new f h a. consumed s m new h a;
  act = λ s d new k h a. acted d new (k a) h;
  ends = λ s last x t k h a. rw h.state (k a).0;
  stays = λ s a. a;
  falls = λ s n x a. empty_stops (fallen s n) refl refl;
}

pub each_stops : (s : State) → IsReached s → AllStop s
each_stops = in_each (record { starts = λ v l b. empty_stops (start v l b) refl refl; steps = of_each_step law; falls = λ s n. empty_stops (fallen s n) refl refl })

pub within : StopsWithin
within = record {
  commands = λ s c g m last f a h k. (kept Fine (λ d new b i. acted d new b i) last m k (started s c g m f h a)).0;
  messages = λ s m k last a h l. (kept Fine (λ d new b i. acted d new b i) last k l (consumed s m k h a)).0;
}
