-- What goes out, and what is lowered, leaves the exports covered; a value that fits is covered where what it fits was, with
-- the promises that it needs.
use Rattle.std.proofs.Common.{◌≡◌, ◌⊎◌, inl, inr, ℕ, suc, ◌+◌, ◌-◌, Bool, true, false, cond, nat_eq, nat_le, zero, List, [], ◌∷◌, ◌++◌, Option, None, Some, unwrap_or, refl, sym, subst, ◌∙◌, T}
use Rattle.std.specs.Prelude.{slice_get}
use Rattle.std.specs.Ordering.{nat_cmp}
use Rattle.std.specs.FinMap as map
use Rattle.std.specs.FinMap.Entries as entries
use Rattle.finite_maps.specs.Tally.{Map}
use Rattle.finite_maps.proofs.Tested.{apart, at_put, at_cut}
use Rattle.finite_maps.proofs.Sorted.{behind, first_entry, later_entry, sorted_tail}
use Rattle.rpc_msg.specs.Op.{Op}
use Rattle.rpc_msg.specs.CapAt.{CapAt}
use Rattle.rpc_msg.specs.CapAt.TheVariants.{Cap, Null, NotCap}
use Rattle.rpc_msg.specs.Payloads.{Contents as Payload}
use Rattle.rpc_msg.specs.declared.exception.Exception.{Exception}
use Rattle.rpc_msg.specs.declared.parts.Descriptor.{Descriptor}
use Rattle.rpc_msg.specs.declared.message.ReturnBody.{ReturnBody}
use Rattle.rpc_machine.specs.rpc_journal.specs.declared.report.Delivery.{Delivery}
use Rattle.rpc_machine.specs.declared.node.Node.{Node}
use Rattle.rpc_machine.specs.declared.node.Node.TheVariants as node
use Rattle.rpc_machine.specs.declared.node.Reason.TheVariants.{NotACapability}
use Rattle.rpc_machine.specs.declared.calls.WaitingCall.{WaitingCall}
use Rattle.rpc_machine.specs.declared.calls.HeldCall.{HeldCall}
use Rattle.rpc_machine.specs.declared.calls.Promise.{Promise}
use Rattle.rpc_machine.specs.declared.calls.Promise.TheVariants as promise
use Rattle.rpc_machine.specs.declared.calls.Value.{Value}
use Rattle.rpc_machine.specs.declared.calls.Value.TheVariants as value
use Rattle.rpc_machine.specs.declared.calls.Caller.{Caller}
use Rattle.rpc_machine.specs.declared.calls.Caller.TheVariants as caller
use Rattle.rpc_machine.specs.declared.calls.KeptOutcome.{KeptOutcome}
use Rattle.rpc_machine.specs.declared.entries.AnswerEntry.{AnswerEntry}
use Rattle.rpc_machine.specs.declared.entries.Export.{Export}
use Rattle.rpc_machine.specs.declared.entries.Embargo.{Embargo}
use Rattle.rpc_machine.specs.State.{State}
use Rattle.rpc_machine.specs.Payloads.{cap_at}
use Rattle.rpc_machine.specs.Nodes.{settle, node_of_cap, field_of}
use Rattle.rpc_machine.specs.Progress.{caps_of}
use Rattle.rpc_machine.specs.Flags.{lowered, lower_by, lower_each, obey}
use Rattle.rpc_machine.specs.Settling.{exports_where, PutsIn, Untangles, Fits}
use Rattle.laws_acts.specs.Moments.{each_to, held_to, owing}
use Rattle.laws_acts.specs.GoingOut.{GoesOut, Again, AsNew, AsOther, GoOut, Says}
use Rattle.laws_authority.specs.Reach.{IsIn}
use Rattle.laws_authority.proofs.Covers.{AllIn, Caps, CallIn, CallsIn, HeldIn, PromiseIn, ValueIn, CallerIn, OpenIn, OutcomeIn, EmbargoIn, ExportIn, AnswerIn, ExportsIn, AnswersIn, PromisesIn, OutcomesIn, EmbargoesIn, TablesIn, YetIn, ArisenIn, OwedIn, DeliveriesIn, caps_settle}

-- ---- The set: what A says, all wires and broken nodes, and the promises that stand in for capabilities

abbrev pub Cover : (Node → Type 0) → List ℕ → Node → Type 0
Cover A ps (node.Object o) = A (node.Object o)
Cover A ps (node.Promise p) = A (node.Promise p) ⊎ IsIn p ps
Cover A ps (node.Field o path) = A (node.Field o path)
Cover A ps (node.Import e) = Unit {0}
Cover A ps (node.Pipe q path) = Unit {0}
Cover A ps (node.Broken reason) = Unit {0}

pub cover_of : (A : Node → Type 0) (ps : List ℕ) (n : Node) → A n → Cover A ps n
cover_of A ps (node.Object o) a = a
cover_of A ps (node.Promise p) a = inl a
cover_of A ps (node.Field o path) a = a
cover_of A ps (node.Import e) a = tt
cover_of A ps (node.Pipe q path) a = tt
cover_of A ps (node.Broken reason) a = tt

-- ---- Lists and tables

module _ (wide : Bool) (K : ℕ → Type 0) (F : Node → Type 0) where
  pub calls-append : (n : Node) (xs ys : List WaitingCall) → CallsIn wide K F n xs → CallsIn wide K F n ys → CallsIn wide K F n (xs ++ ys)
  calls-append n [] ys a b = b
  calls-append n (x ∷ xs) ys a b = (a.0, calls-append n xs ys a.1 b)

  pub held-append : (o : ℕ) (xs ys : List HeldCall) → HeldIn wide K F o xs → HeldIn wide K F o ys → HeldIn wide K F o (xs ++ ys)
  held-append o [] ys a b = b
  held-append o (x ∷ xs) ys a b = (a.0, held-append o xs ys a.1 b)

  pub arisen-append : (xs ys : List (ℕ × Value)) → ArisenIn wide K F xs → ArisenIn wide K F ys → ArisenIn wide K F (xs ++ ys)
  arisen-append [] ys a b = b
  arisen-append (x ∷ xs) ys a b = (a.0, arisen-append xs ys a.1 b)

  pub all_to : (n : Node) (cs : List WaitingCall) → CallsIn wide K F n cs → YetIn wide K F (each_to n cs)
  all_to n [] a = tt
  all_to n (c ∷ cs) a = (a.0, all_to n cs a.1)

  pub all_held : (o : ℕ) (xs : List HeldCall) → HeldIn wide K F o xs → YetIn wide K F (held_to o xs)
  all_held o [] a = tt
  all_held o (x ∷ xs) a = (a.0, all_held o xs a.1)

  pub put_promise : (m : Map Promise) (k : ℕ) (x : Promise) → PromiseIn wide K F k (Some x) → PromisesIn wide K F m → PromisesIn wide K F (map.insert m k x)
  put_promise m k x h a = at_put (PromiseIn wide K F) m k x h (λ j e. a j)

  pub cut_promise : (m : Map Promise) (k : ℕ) → PromisesIn wide K F m → PromisesIn wide K F (map.remove m k)
  cut_promise m k a = at_cut (PromiseIn wide K F) m k tt (λ j e. a j)

  pub put_outcome : (m : Map KeptOutcome) (k : ℕ) (x : KeptOutcome) → OutcomeIn wide K F k (Some x) → OutcomesIn wide K F m → OutcomesIn wide K F (map.insert m k x)
  put_outcome m k x h a = at_put (OutcomeIn wide K F) m k x h (λ j e. a j)

  pub cut_outcome : (m : Map KeptOutcome) (k : ℕ) → OutcomesIn wide K F m → OutcomesIn wide K F (map.remove m k)
  cut_outcome m k a = at_cut (OutcomeIn wide K F) m k tt (λ j e. a j)

  pub put_embargo : (m : Map Embargo) (k : ℕ) (x : Embargo) → EmbargoIn wide K F (Some x) → EmbargoesIn wide K F m → EmbargoesIn wide K F (map.insert m k x)
  put_embargo m k x h a = at_put (λ j o. EmbargoIn wide K F o) m k x h (λ j e. a j)

  pub cut_embargo : (m : Map Embargo) (k : ℕ) → EmbargoesIn wide K F m → EmbargoesIn wide K F (map.remove m k)
  cut_embargo m k a = at_cut (λ j o. EmbargoIn wide K F o) m k tt (λ j e. a j)

  pub put_answer : (m : Map AnswerEntry) (k : ℕ) (x : AnswerEntry) → AnswerIn wide K F (Some x) → AnswersIn wide K F m → AnswersIn wide K F (map.insert m k x)
  put_answer m k x h a = at_put (λ j o. AnswerIn wide K F o) m k x h (λ j e. a j)

  pub cut_answer : (m : Map AnswerEntry) (k : ℕ) → AnswersIn wide K F m → AnswersIn wide K F (map.remove m k)
  cut_answer m k a = at_cut (λ j o. AnswerIn wide K F o) m k tt (λ j e. a j)

  put_export : (m : Map Export) (k : ℕ) (x : Export) → Caps wide F x.node → ExportsIn wide K F m → ExportsIn wide K F (map.insert m k x)
  put_export m k x h a = at_put (λ j o. ExportIn wide K F o) m k x h (λ j e. a j)

  cut_export : (m : Map Export) (k : ℕ) → ExportsIn wide K F m → ExportsIn wide K F (map.remove m k)
  cut_export m k a = at_cut (λ j o. ExportIn wide K F o) m k tt (λ j e. a j)

  -- ---- What goes out

  pub goes_out : (es : Map Export) (n : Node) (d : Descriptor) (new : Map Export) → Caps wide F n → ExportsIn wide K F es → GoesOut es n d new → ExportsIn wide K F new
  goes_out es n d new f a (Again e x w g there at h) = rw h (put_export es e _ f a)
  goes_out es n d new f a (AsNew e w g there free h) = rw h (put_export es e _ f a)
  goes_out es n d new f a (AsOther w g h) = rw h a

  pub go_out : (s : State) → TablesIn wide K F s → (es : Map Export) (ns : List Node) (ds : List Descriptor) (new : Map Export) → AllIn (Caps wide F) ns → ExportsIn wide K F es → GoOut s es ns ds new → ExportsIn wide K F new
  go_out s t es [] [] new f a h = rw h a
  go_out s t es [] (d ∷ ds) new f a h = absurd h
  go_out s t es (n ∷ ns) [] new f a h = absurd h
  go_out s t es (n ∷ ns) (d ∷ ds) new f a h = go_out s t h.0 ns ds new f.1 (goes_out es (settle s n) d h.0 (caps_settle wide K F s t n f.0) a h.1) h.2

  pub says : (s : State) → TablesIn wide K F s → (b : Bool) (v : Value) (said : ReturnBody) (ds : List Descriptor) (new : Map Export) → AllIn (Caps wide F) (caps_of v) → Says s b v said ds new → ExportsIn wide K F new
  says s t true v said ds new f h = rw h.2 t.0
  says s t false (value.Exception exception) said ds new f h = rw h.2 t.0
  says s t false (value.Results payload caps) said ds new f h = go_out s t s.exports caps ds new f t.0 h.1

  -- ---- What is lowered

  lowered_in : (m : Map Export) (e n : ℕ) (o : Option Export) → ExportIn wide K F o → ExportsIn wide K F m → ExportsIn wide K F (lowered m e n o)
  lowered_in m e n None f a = a
  lowered_in m e n (Some x) f a = by (nat_le x.count n)
    where
      by : (b : Bool) → ExportsIn wide K F (cond b (map.remove m e) (map.insert m e (record x { count = x.count - n })))
      by true = cut_export m e a
      by false = put_export m e _ f a

  pub lower_in : (m : Map Export) (e n : ℕ) → ExportsIn wide K F m → ExportsIn wide K F (lower_by m e n)
  lower_in m e n a = lowered_in m e n (map.get m e) (a e) a

  lower_all : (m : Map Export) (es : List ℕ) → ExportsIn wide K F m → ExportsIn wide K F (lower_each m es)
  lower_all m [] a = a
  lower_all m (e ∷ es) a = lower_all (lower_by m e 1) es (lower_in m e 1 a)

  pub obeyed : (s : State) (b : Bool) (ids : List ℕ) → ExportsIn wide K F s.exports → ExportsIn wide K F (obey s b ids).exports
  obeyed s false ids a = a
  obeyed s true ids a = lower_all s.exports ids a

  -- ---- Exports that are listed

  listed_in : (why : Option Exception) (test : Node → Bool) (es : List (ℕ × Export)) → T (entries.is_sorted nat_cmp es) → ((i : ℕ) (y : Export) → entries.find nat_cmp i es ≡ Some y → Caps wide F y.node) → OwedIn wide K F (owing why (exports_where test es))
  listed_in why test [] o f = tt
  listed_in why test (x ∷ xs) o f = let k = sorted_tail x.0 xs o in by (listed_in why test xs k.1 (λ i y g. f i y (later_entry x xs i (behind x.0 xs i y k.0 g) ∙ g))) (test x.1.node)
    where
      by : OwedIn wide K F (owing why (exports_where test xs)) → (b : Bool) → OwedIn wide K F (owing why (cond b ((x.0, x.1.node) ∷ exports_where test xs) (exports_where test xs)))
      by r true = (f x.0 x.1 (first_entry x xs), r)
      by r false = r

  pub listed : (why : Option Exception) (test : Node → Bool) (m : Map Export) → ExportsIn wide K F m → OwedIn wide K F (owing why (exports_where test (map.entries m)))
  listed why test m a = listed_in why test (map.entries m) (map.entries_sorted m) (λ i y g. subst (ExportIn wide K F) (map.get-entries m i ∙ g) (a i))

-- ---- What a value says of its fields

module _ (A : Node → Type 0) (ps : List ℕ) where
  field_cap : (caps : List Node) → AllIn (Cover A ps) caps → (i : ℕ) → Cover A ps (unwrap_or (slice_get caps i) (node.Broken NotACapability))
  field_cap [] a i = tt
  field_cap (n ∷ ns) a zero = a.0
  field_cap (n ∷ ns) a (suc i) = field_cap ns a.1 i

  of_cap : (caps : List Node) (c : CapAt) → AllIn (Cover A ps) caps → Cover A ps (node_of_cap caps c)
  of_cap caps (Cap i) a = field_cap caps a i
  of_cap caps Null a = tt
  of_cap caps NotCap a = tt

  pub fields_in : (v : Value) (path : List Op) → AllIn (Cover A ps) (caps_of v) → Cover A ps (field_of v path)
  fields_in (value.Results payload caps) path a = of_cap caps (cap_at payload path) a
  fields_in (value.Exception exception) path a = tt

-- ---- One more promise that stands in

caps_by : (wide : Bool) (A : Node → Type 0) (ps qs : List ℕ) → ((n : Node) → Cover A ps n → Cover A qs n) → (n : Node) → Caps wide (Cover A ps) n → Caps wide (Cover A qs) n
caps_by true A ps qs f n a = f n a
caps_by false A ps qs f n a = tt

module _ (wide : Bool) (K : ℕ → Type 0) (A : Node → Type 0) (ps : List ℕ) (p : ℕ) where
  one_more : (n : Node) → Cover A ps n → Cover A (p ∷ ps) n
  one_more (node.Object o) a = a
  one_more (node.Promise k) (inl a) = inl a
  one_more (node.Promise k) (inr a) = inr (inr a)
  one_more (node.Field o path) a = a
  one_more (node.Import e) a = a
  one_more (node.Pipe q path) a = a
  one_more (node.Broken reason) a = a

  fewer : (k : ℕ) → nat_eq k p ≡ false → Cover A (p ∷ ps) (node.Promise k) → Cover A ps (node.Promise k)
  fewer k e (inl a) = inl a
  fewer k e (inr (inl f)) = absurd (apart k p e (sym f))
  fewer k e (inr (inr a)) = inr a

  all_more : (ns : List Node) → AllIn (Cover A ps) ns → AllIn (Cover A (p ∷ ps)) ns
  all_more [] a = tt
  all_more (n ∷ ns) a = (one_more n a.0, all_more ns a.1)

  caps_more : (ns : List Node) → AllIn (Caps wide (Cover A ps)) ns → AllIn (Caps wide (Cover A (p ∷ ps))) ns
  caps_more [] a = tt
  caps_more (n ∷ ns) a = (caps_by wide A ps (p ∷ ps) one_more n a.0, caps_more ns a.1)

  call_more : (n : Node) (c : WaitingCall) → CallIn wide K (Cover A ps) n c → CallIn wide K (Cover A (p ∷ ps)) n c
  call_more n c a = (caps_more c.request.caps a.0, λ k. one_more n (a.1 k))

  calls_more : (n : Node) (cs : List WaitingCall) → CallsIn wide K (Cover A ps) n cs → CallsIn wide K (Cover A (p ∷ ps)) n cs
  calls_more n [] a = tt
  calls_more n (c ∷ cs) a = (call_more n c a.0, calls_more n cs a.1)

  held_more : (o : ℕ) (xs : List HeldCall) → HeldIn wide K (Cover A ps) o xs → HeldIn wide K (Cover A (p ∷ ps)) o xs
  held_more o [] a = tt
  held_more o (x ∷ xs) a = (call_more (node.Field o x.path) x.call a.0, held_more o xs a.1)

  promise_more : (k : ℕ) (o : Option Promise) → nat_eq k p ≡ false → PromiseIn wide K (Cover A ps) k o → PromiseIn wide K (Cover A (p ∷ ps)) k o
  promise_more k None e a = tt
  promise_more k (Some (promise.Open calls)) e a = calls_more (node.Promise k) calls a
  promise_more k (Some (promise.Fixed to)) e a = λ h. one_more to (a (fewer k e h))

  promises_more : (m : Map Promise) → PromisesIn wide K (Cover A ps) m → PromisesIn wide K (Cover A (p ∷ ps)) (map.insert m p (promise.Open []))
  promises_more m a = at_put (PromiseIn wide K (Cover A (p ∷ ps))) m p (promise.Open []) tt (λ k e. promise_more k (map.get m k) e (a k))

-- ---- More promises, however many

-- Of two covers, the second covers what the first does, and the fields of outcomes alike.
pub record Wider (A : Node → Type 0) (ps qs : List ℕ) : Type 0 where
  pub each : (n : Node) → Cover A ps n → Cover A qs n

module _ (wide : Bool) (K : ℕ → Type 0) (A : Node → Type 0) (ps qs : List ℕ) (w : Wider A ps qs) where
  pub all_wider : (ns : List Node) → AllIn (Cover A ps) ns → AllIn (Cover A qs) ns
  all_wider [] a = tt
  all_wider (n ∷ ns) a = (w.each n a.0, all_wider ns a.1)

  caps_wider : (ns : List Node) → AllIn (Caps wide (Cover A ps)) ns → AllIn (Caps wide (Cover A qs)) ns
  caps_wider [] a = tt
  caps_wider (n ∷ ns) a = (caps_by wide A ps qs w.each n a.0, caps_wider ns a.1)

  call_wider : (n : Node) (c : WaitingCall) → CallIn wide K (Cover A ps) n c → CallIn wide K (Cover A qs) n c
  call_wider n c a = (caps_wider c.request.caps a.0, λ k. w.each n (a.1 k))

  calls_wider : (n : Node) (cs : List WaitingCall) → CallsIn wide K (Cover A ps) n cs → CallsIn wide K (Cover A qs) n cs
  calls_wider n [] a = tt
  calls_wider n (c ∷ cs) a = (call_wider n c a.0, calls_wider n cs a.1)

  pub held_wider : (o : ℕ) (xs : List HeldCall) → HeldIn wide K (Cover A ps) o xs → HeldIn wide K (Cover A qs) o xs
  held_wider o [] a = tt
  held_wider o (x ∷ xs) a = (call_wider (node.Field o x.path) x.call a.0, held_wider o xs a.1)

  value_wider : (o : ℕ) (v : Option Value) → ValueIn wide K (Cover A ps) o v → ValueIn wide K (Cover A qs) o v
  value_wider o None a = tt
  value_wider o (Some v) a = λ path f. w.each (field_of v path) (a path f)

  open_wider : (o : ℕ) (x : Caller) (v : Option Value) → OpenIn wide K (Cover A ps) o x v → OpenIn wide K (Cover A qs) o x v
  open_wider o (caller.Application c) v a = tt
  open_wider o (caller.Peer q) None a = a
  open_wider o (caller.Peer q) (Some v) a = tt

  caller_wider : (o : ℕ) (x : Caller) → CallerIn wide K (Cover A ps) o x → CallerIn wide K (Cover A qs) o x
  caller_wider o (caller.Application c) a = tt
  caller_wider o (caller.Peer q) a = a

  outcome_wider : (o : ℕ) (x : Option KeptOutcome) → OutcomeIn wide K (Cover A ps) o x → OutcomeIn wide K (Cover A qs) o x
  outcome_wider o None a = tt
  outcome_wider o (Some x) a = (caller_wider o x.caller a.0, open_wider o x.caller x.value a.1, value_wider o x.value a.2, held_wider o x.waiting a.3)

  embargo_wider : (x : Option Embargo) → EmbargoIn wide K (Cover A ps) x → EmbargoIn wide K (Cover A qs) x
  embargo_wider None a = tt
  embargo_wider (Some b) a = calls_wider b.node b.waiting a

  export_wider : (x : Option Export) → ExportIn wide K (Cover A ps) x → ExportIn wide K (Cover A qs) x
  export_wider None a = tt
  export_wider (Some x) a = caps_by wide A ps qs w.each x.node a

  answer_wider : (x : Option AnswerEntry) → AnswerIn wide K (Cover A ps) x → AnswerIn wide K (Cover A qs) x
  answer_wider None a = tt
  answer_wider (Some x) a = a

  pub outcomes_wider : (m : Map KeptOutcome) → OutcomesIn wide K (Cover A ps) m → OutcomesIn wide K (Cover A qs) m
  outcomes_wider m a = λ o. outcome_wider o (map.get m o) (a o)

  pub embargoes_wider : (m : Map Embargo) → EmbargoesIn wide K (Cover A ps) m → EmbargoesIn wide K (Cover A qs) m
  embargoes_wider m a = λ e. embargo_wider (map.get m e) (a e)

  pub exports_wider : (m : Map Export) → ExportsIn wide K (Cover A ps) m → ExportsIn wide K (Cover A qs) m
  exports_wider m a = λ e. export_wider (map.get m e) (a e)

  pub answers_wider : (m : Map AnswerEntry) → AnswersIn wide K (Cover A ps) m → AnswersIn wide K (Cover A qs) m
  answers_wider m a = λ e. answer_wider (map.get m e) (a e)

  pub arisen_wider : (xs : List (ℕ × Value)) → ArisenIn wide K (Cover A ps) xs → ArisenIn wide K (Cover A qs) xs
  arisen_wider [] a = tt
  arisen_wider (x ∷ xs) a = (λ path f. all_wider (caps_of x.1) (a.0 path f), arisen_wider xs a.1)

  pub deliveries_wider : (m : Map ℕ) (next : ℕ) (ys : List Delivery) → DeliveriesIn wide K (Cover A ps) m next ys → DeliveriesIn wide K (Cover A qs) m next ys
  deliveries_wider m next [] a = tt
  deliveries_wider m next (y ∷ ys) a = (a.0, deliveries_wider m next ys a.1)

-- ---- What a value that fits needs

pub record PutSo (wide : Bool) (K : ℕ → Type 0) (A : Node → Type 0) (o : ℕ) (ps : List ℕ) (out : List Node) (new : Map Promise) : Type 0 where
  pub qs : List ℕ
  pub wider : Wider A ps qs
  pub caps : (path : List Op) → A (node.Field o path) → AllIn (Cover A qs) out
  pub promises : PromisesIn wide K (Cover A qs) new

module _ (wide : Bool) (K : ℕ → Type 0) (A : Node → Type 0) (o : ℕ) (who : Caller) (held : List HeldCall) where
  put_so : (payload : Payload) (ps : List ℕ) (s : State) (i : ℕ) (n : Node) (rest out : List Node) (new : State) → ((path : List Op) → A (node.Field o path) → Cover A ps n) → ((path : List Op) → A (node.Field o path) → AllIn (Cover A ps) rest) → PromisesIn wide K (Cover A ps) s.promises → PutsIn s o who held payload i n rest out new → PutSo wide K A o ps out new.promises
  put_so payload ps s i n rest out new f a t (inl h) =
      record { qs = ps; wider = record { each = λ k b. b }; caps = rw h.1 (λ path c. (f path c, a path c)); promises = rw h.2 t }
  put_so payload ps s i n rest out new f a t (inr h) =
      let g = h.1 in
      let p = g.0 in
      record {
        qs = p ∷ ps;
        wider = record { each = one_more wide K A ps p };
        caps = rw g.2 (λ path c. (inr (inl refl), all_more wide K A ps p rest (a path c)));
        promises = rw g.3 (promises_more wide K A ps p s.promises t);
      }

  untangled : (payload : Payload) (ps : List ℕ) (s : State) (i : ℕ) (ns out : List Node) (new : State) → ((path : List Op) → A (node.Field o path) → AllIn (Cover A ps) ns) → PromisesIn wide K (Cover A ps) s.promises → Untangles s o who held payload i ns out new → PutSo wide K A o ps out new.promises
  untangled payload ps s i [] out new f t h = record { qs = ps; wider = record { each = λ k b. b }; caps = rw h.0 (λ path c. tt); promises = rw h.1 t }
  untangled payload ps s i (n ∷ ns) out new f t h =
      let a = untangled payload ps s (i + 1) ns h.0 h.1 (λ path c. (f path c).1) t h.2 in
      let b = put_so payload a.qs h.1 i n h.0 out new (λ path c. a.wider.each n (f path c).0) a.caps a.promises h.3 in
      record { qs = b.qs; wider = record { each = λ k g. b.wider.each k (a.wider.each k g) }; caps = b.caps; promises = b.promises }

  pub fitted : (ps : List ℕ) (s : State) (v fit : Value) (new : State) → ((path : List Op) → A (node.Field o path) → AllIn (Cover A ps) (caps_of v)) → PromisesIn wide K (Cover A ps) s.promises → Fits s o who held v fit new → PutSo wide K A o ps (caps_of fit) new.promises
  fitted ps s (value.Exception exception) fit new f t h = record { qs = ps; wider = record { each = λ k b. b }; caps = rw h.0 (λ path c. tt); promises = rw h.1 t }
  fitted ps s (value.Results payload caps) fit new f t h =
      let a = untangled payload ps s 0 caps h.0 new f t h.2 in
      record { qs = a.qs; wider = a.wider; caps = rw h.1 a.caps; promises = a.promises }
