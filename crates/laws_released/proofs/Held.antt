-- What the places of a moment name is in a set of objects: lists, tables, what goes out and what comes in.
use Rattle.std.proofs.Common.{◌≡◌, inl, inr, ℕ, zero, suc, ◌+◌, ◌-◌, Bool, true, false, cond, nat_le, List, [], ◌∷◌, ◌++◌, Option, None, Some, unwrap_or, refl, sym, subst}
use Rattle.std.specs.Prelude.{slice_get}
use Rattle.std.specs.FinMap as map
use Rattle.finite_maps.specs.Tally.{Map}
use Rattle.rpc_msg.specs.Op.{Op}
use Rattle.rpc_msg.specs.CapAt.{CapAt}
use Rattle.rpc_msg.specs.CapAt.TheVariants.{Cap, Null, NotCap}
use Rattle.rpc_msg.specs.Payloads.{Contents as Payload}
use Rattle.rpc_msg.specs.declared.ids.ObjectId.{ObjectId}
use Rattle.rpc_msg.specs.declared.parts.Descriptor.{Descriptor}
use Rattle.rpc_msg.specs.declared.message.ReturnBody.{ReturnBody}
use Rattle.rpc_machine.specs.declared.node.Node.{Node}
use Rattle.rpc_machine.specs.declared.node.Node.TheVariants as node
use Rattle.rpc_machine.specs.declared.node.Reason.TheVariants.{NotACapability}
use Rattle.rpc_machine.specs.declared.calls.WaitingCall.{WaitingCall}
use Rattle.rpc_machine.specs.declared.calls.HeldCall.{HeldCall}
use Rattle.rpc_machine.specs.declared.calls.Promise.{Promise}
use Rattle.rpc_machine.specs.declared.calls.Promise.TheVariants as promise
use Rattle.rpc_machine.specs.declared.calls.Value.{Value}
use Rattle.rpc_machine.specs.declared.calls.Value.TheVariants as value
use Rattle.rpc_machine.specs.declared.calls.Caller.{Caller}
use Rattle.rpc_machine.specs.declared.calls.KeptOutcome.{KeptOutcome}
use Rattle.rpc_machine.specs.declared.entries.Export.{Export}
use Rattle.rpc_machine.specs.declared.entries.Import.{Import}
use Rattle.rpc_machine.specs.State.{State}
use Rattle.rpc_machine.specs.Payloads.{cap_at}
use Rattle.rpc_machine.specs.Nodes.{next, settle, node_of_cap, field_of, promise_link, field_link, value_of}
use Rattle.rpc_machine.specs.Places.{named_by_calls, named_by_held, named_by_reference, named_by_embargo, named_by_promise, named_by_value, named_by_outcome, named_by_question, named_by_import, named_by_export}
use Rattle.rpc_machine.specs.Progress.{caps_of, with_refs}
use Rattle.rpc_machine.specs.Flags.{lowered, lower_by, lower_each, obey, give_one, give_each, give_if, give_back, flag_for}
use Rattle.rpc_machine.specs.Settling.{exports_where, PutsIn, Untangles, Fits}
use Rattle.rpc_machine.proofs.Following.{holds_where_it_settles}
use Rattle.laws_acts.specs.Moments.{Owing, each_to, held_to, owing}
use Rattle.laws_acts.specs.GoingOut.{GoesOut, Again, AsNew, AsOther, GoOut, Says}
use Rattle.laws_steps.proofs.NamedNodes.{AllIn, entry, EachIn, all_none, all_one, all_append, all_left, all_right, each_put, each_cut, each_at}
use Rattle.laws_steps.proofs.NamedPieces.{EachHere, where_here, all_of_map}

-- The set must have what a reference names, if that is asked.
abbrev pub Wide : Bool → (Node → Type 0) → Node → Type 0
Wide true F n = F n
Wide false F n = Unit {0}

pub wide_of : (w : Bool) (F : Node → Type 0) (n : Node) → F n → Wide w F n
wide_of true F n f = f
wide_of false F n f = tt

-- Only objects are asked for: an object is one of these.
abbrev pub In : (ObjectId → Type 0) → Node → Type 0
In A (node.Object o) = A o
In A (node.Promise p) = Unit {0}
In A (node.Field o path) = Unit {0}
In A (node.Import e) = Unit {0}
In A (node.Pipe q path) = Unit {0}
In A (node.Broken reason) = Unit {0}

module _ (w : Bool) (A : ObjectId → Type 0) where
  abbrev F : Node → Type 0
  F = In A

  abbrev pub Names : State → Type 0
  Names s =
      EachIn (Wide w (In A)) named_by_reference s.refs
      × EachIn (In A) named_by_embargo s.embargoes
      × EachIn (In A) named_by_promise s.promises
      × EachIn (In A) named_by_outcome s.outcomes
      × EachIn (In A) named_by_question s.questions
      × EachIn (In A) named_by_import s.imports
      × EachIn (In A) named_by_export s.exports

  -- ---- Where nodes lead

  tail_in : (n : Node) (ns : List Node) → AllIn F (n ∷ ns) → AllIn F ns
  tail_in n ns a m i = a m (inr i)

  cap_in : (caps : List Node) → AllIn F caps → (i : ℕ) → F (unwrap_or (slice_get caps i) (node.Broken NotACapability))
  cap_in [] a i = tt
  cap_in (n ∷ ns) a zero = a n (inl refl)
  cap_in (n ∷ ns) a (suc i) = cap_in ns (tail_in n ns a) i

  at_cap : (caps : List Node) (c : CapAt) → AllIn F caps → F (node_of_cap caps c)
  at_cap caps (Cap i) a = cap_in caps a i
  at_cap caps Null a = tt
  at_cap caps NotCap a = tt

  field_in : (v : Value) (path : List Op) → AllIn F (caps_of v) → F (field_of v path)
  field_in (value.Results payload caps) path a = at_cap caps (cap_at payload path) a
  field_in (value.Exception exception) path a = tt

  pub to_value : (v : Value) → AllIn F (named_by_value (Some v)) → AllIn F (caps_of v)
  to_value (value.Results payload caps) a = a
  to_value (value.Exception exception) a = a

  pub of_value : (v : Value) → AllIn F (caps_of v) → AllIn F (named_by_value (Some v))
  of_value (value.Results payload caps) a = a
  of_value (value.Exception exception) a = a

  leads_on : (s : State) → Names s → (n : Node) → F n → F (next s n)
  leads_on s t (node.Object o) f = f
  leads_on s t (node.Promise p) f = by (map.get s.promises p) (t.2 p)
    where
      by : (o : Option Promise) → AllIn F (entry named_by_promise p o) → F (unwrap_or (promise_link o) (node.Promise p))
      by None a = tt
      by (Some (promise.Open calls)) a = tt
      by (Some (promise.Fixed to)) a = a to (inl refl)
  leads_on s t (node.Field o path) f = by (map.get s.outcomes o) (t.3 o)
    where
      value_by : (v : Option Value) → AllIn F (named_by_value v) → F (unwrap_or (field_link path v) (node.Field o path))
      value_by None a = tt
      value_by (Some v) a = field_in v path (to_value v a)

      by : (x : Option KeptOutcome) → AllIn F (entry named_by_outcome o x) → F (unwrap_or (field_link path (value_of x)) (node.Field o path))
      by None a = tt
      by (Some x) a = value_by x.value (all_left F (named_by_value x.value) (named_by_held x.waiting) a)
  leads_on s t (node.Import e) f = tt
  leads_on s t (node.Pipe q path) f = tt
  leads_on s t (node.Broken reason) f = tt

  pub settles_in : (s : State) → Names s → (n : Node) → F n → F (settle s n)
  settles_in s t = holds_where_it_settles F s (leads_on s t)

  -- ---- Calls

  abbrev pub CallIn : WaitingCall × Node → Type 0
  CallIn x = In A x.1 × AllIn (In A) x.0.request.caps

  abbrev pub YetIn : List (WaitingCall × Node) → Type 0
  YetIn [] = Unit {0}
  YetIn (x ∷ xs) = CallIn x × YetIn xs

  abbrev pub ArisenIn : List (ℕ × Value) → Type 0
  ArisenIn [] = Unit {0}
  ArisenIn (x ∷ xs) = AllIn (In A) (caps_of x.1) × ArisenIn xs

  pub arisen-append : (xs ys : List (ℕ × Value)) → ArisenIn xs → ArisenIn ys → ArisenIn (xs ++ ys)
  arisen-append [] ys a b = b
  arisen-append (x ∷ xs) ys a b = (a.0, arisen-append xs ys a.1 b)

  pub all_to : (n : Node) (cs : List WaitingCall) → F n → AllIn F (named_by_calls cs) → YetIn (each_to n cs)
  all_to n [] f a = tt
  all_to n (c ∷ cs) f a = ((f, all_left F c.request.caps (named_by_calls cs) a), all_to n cs f (all_right F c.request.caps (named_by_calls cs) a))

  pub all_held : (o : ℕ) (xs : List HeldCall) → AllIn F (named_by_held xs) → YetIn (held_to o xs)
  all_held o [] a = tt
  all_held o (x ∷ xs) a = ((tt, all_left F x.call.request.caps (named_by_held xs) a), all_held o xs (all_right F x.call.request.caps (named_by_held xs) a))

  pub held_and : (cs : List HeldCall) (c : HeldCall) → AllIn F (named_by_held cs) → AllIn F c.call.request.caps → AllIn F (named_by_held (cs ++ c ∷ []))
  held_and [] c h k = all_append F c.call.request.caps [] k (all_none F)
  held_and (x ∷ xs) c h k = all_append F x.call.request.caps (named_by_held (xs ++ c ∷ [])) (all_left F x.call.request.caps (named_by_held xs) h) (held_and xs c (all_right F x.call.request.caps (named_by_held xs) h) k)

  -- ---- References

  pub refs_more : (ns : List Node) (s : State) → AllIn F ns → EachIn (Wide w F) named_by_reference s.refs → EachIn (Wide w F) named_by_reference (with_refs s ns).refs
  refs_more [] s a h = h
  refs_more (n ∷ ns) s a h =
      refs_more ns (record s { refs = map.insert s.refs s.next_ref (record { head = n; embargo = None; made = 0 }); next_ref = s.next_ref + 1 }) (tail_in n ns a) (each_put (Wide w F) named_by_reference s.refs s.next_ref _ (all_one (Wide w F) n (wide_of w F n (a n (inl refl)))) h)

  -- ---- What goes out

  abbrev Exports : Map Export → Type 0
  Exports m = EachIn F named_by_export m

  pub goes_out : (es : Map Export) (n : Node) (d : Descriptor) (new : Map Export) → F n → Exports es → GoesOut es n d new → Exports new
  goes_out es n d new f a (Again e x own g there at h) = rw h (each_put F named_by_export es e _ (all_one F n f) a)
  goes_out es n d new f a (AsNew e own g there free h) = rw h (each_put F named_by_export es e _ (all_one F n f) a)
  goes_out es n d new f a (AsOther own g h) = rw h a

  pub go_out : (s : State) → Names s → (es : Map Export) (ns : List Node) (ds : List Descriptor) (new : Map Export) → AllIn F ns → Exports es → GoOut s es ns ds new → Exports new
  go_out s t es [] [] new f a h = rw h a
  go_out s t es [] (d ∷ ds) new f a h = absurd h
  go_out s t es (n ∷ ns) [] new f a h = absurd h
  go_out s t es (n ∷ ns) (d ∷ ds) new f a h = go_out s t h.0 ns ds new (tail_in n ns f) (goes_out es (settle s n) d h.0 (settles_in s t n (f n (inl refl))) a h.1) h.2

  pub says : (s : State) → Names s → (b : Bool) (v : Value) (said : ReturnBody) (ds : List Descriptor) (new : Map Export) → AllIn F (caps_of v) → Says s b v said ds new → Exports new
  says s t true v said ds new f h = rw h.2 t.6
  says s t false (value.Exception exception) said ds new f h = rw h.2 t.6
  says s t false (value.Results payload caps) said ds new f h = go_out s t s.exports caps ds new f t.6 h.1

  -- ---- What is lowered, and given back

  lowered_in : (m : Map Export) (e n : ℕ) (o : Option Export) → map.get m e ≡ o → Exports m → Exports (lowered m e n o)
  lowered_in m e n None f h = h
  lowered_in m e n (Some x) f h = by (nat_le x.count n)
    where
      by : (b : Bool) → Exports (cond b (map.remove m e) (map.insert m e (record x { count = x.count - n })))
      by true = each_cut F named_by_export m e h
      by false = each_put F named_by_export m e _ (each_at F named_by_export m e x h f) h

  pub lower_in : (m : Map Export) (e n : ℕ) → Exports m → Exports (lower_by m e n)
  lower_in m e n a = lowered_in m e n (map.get m e) refl a

  lower_all : (m : Map Export) (es : List ℕ) → Exports m → Exports (lower_each m es)
  lower_all m [] a = a
  lower_all m (e ∷ es) a = lower_all (lower_by m e 1) es (lower_in m e 1 a)

  pub obeyed : (s : State) (b : Bool) (ids : List ℕ) → Exports s.exports → Exports (obey s b ids).exports
  obeyed s false ids a = a
  obeyed s true ids a = lower_all s.exports ids a

  abbrev Imports : Map Import → Type 0
  Imports m = EachIn F named_by_import m

  give_in : (m : Map Import) (e : ℕ) (o : Option Import) → map.get m e ≡ o → Imports m → Imports (give_one m e o)
  give_in m e None f h = h
  give_in m e (Some x) f h = by (nat_le x.count 1)
    where
      by : (b : Bool) → Imports (cond b (map.remove m e) (map.insert m e (record x { count = x.count - 1 })))
      by true = each_cut F named_by_import m e h
      by false = each_put F named_by_import m e _ (each_at F named_by_import m e x h f) h

  give_all : (m : Map Import) (es : List ℕ) → Imports m → Imports (give_each m es)
  give_all m [] a = a
  give_all m (e ∷ es) a = give_all (give_one m e (map.get m e)) es (give_in m e (map.get m e) refl a)

  given_if : (s : State) (b : Bool) (ids : List ℕ) → Imports s.imports → Imports (give_if s b ids).imports
  given_if s false ids a = a
  given_if s true ids a = give_all s.imports ids a

  pub given_back : (s : State) (ids : List ℕ) → Imports s.imports → Imports (give_back s ids).imports
  given_back s ids a = given_if s (flag_for s ids) ids a

  -- ---- What a value that fits needs

  abbrev Promises : Map Promise → Type 0
  Promises m = EachIn F named_by_promise m

  module _ (o : ℕ) (who : Caller) (held : List HeldCall) where
    put_so : (payload : Payload) (s : State) (i : ℕ) (n : Node) (rest out : List Node) (new : State) → F n → AllIn F rest → Promises s.promises → PutsIn s o who held payload i n rest out new → AllIn F out × Promises new.promises
    put_so payload s i n rest out new f a t (inl h) = rw (h.1, h.2) (cons n rest f a, t)
      where
        cons : (m : Node) (ms : List Node) → F m → AllIn F ms → AllIn F (m ∷ ms)
        cons m ms g b k (inl e) = subst F (sym e) g
        cons m ms g b k (inr j) = b k j
    put_so payload s i n rest out new f a t (inr h) =
        let g = h.1 in
        rw (g.2, g.3) (cons (node.Promise g.0) rest tt a, each_put F named_by_promise s.promises g.0 (promise.Open []) (all_one F (node.Promise g.0) tt) t)
      where
        cons : (m : Node) (ms : List Node) → F m → AllIn F ms → AllIn F (m ∷ ms)
        cons m ms g b k (inl e) = subst F (sym e) g
        cons m ms g b k (inr j) = b k j

    untangled : (payload : Payload) (s : State) (i : ℕ) (ns out : List Node) (new : State) → AllIn F ns → Promises s.promises → Untangles s o who held payload i ns out new → AllIn F out × Promises new.promises
    untangled payload s i [] out new f t h = rw (h.0, h.1) (all_none F, t)
    untangled payload s i (n ∷ ns) out new f t h =
        let a = untangled payload s (i + 1) ns h.0 h.1 (tail_in n ns f) t h.2 in
        put_so payload h.1 i n h.0 out new (f n (inl refl)) a.0 a.1 h.3

    pub fitted : (s : State) (v fit : Value) (new : State) → AllIn F (caps_of v) → Promises s.promises → Fits s o who held v fit new → AllIn F (caps_of fit) × Promises new.promises
    fitted s (value.Exception exception) fit new f t h = rw (h.0, h.1) (all_none F, t)
    fitted s (value.Results payload caps) fit new f t h =
        let a = untangled payload s 0 caps h.0 new f t h.2 in
        rw h.1 a

  -- ---- Exports whose Resolves are owed

  abbrev pub OwedIn : List Owing → Type 0
  OwedIn [] = Unit {0}
  OwedIn (x ∷ xs) = In A x.node × OwedIn xs

  to_owing : (why : Option _) (xs : List (ℕ × Node)) → EachHere F xs → OwedIn (owing why xs)
  to_owing why [] a = tt
  to_owing why (x ∷ xs) a = (a.0, to_owing why xs a.1)

  pub listed : (why : Option _) (test : Node → Bool) (m : Map Export) → Exports m → OwedIn (owing why (exports_where test (map.entries m)))
  listed why test m a = to_owing why (exports_where test (map.entries m)) (where_here F test (map.entries m) (all_of_map F named_by_export m a))
