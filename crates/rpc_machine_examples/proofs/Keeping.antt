-- What the parts of a step keep: each embargo with its calls, and the ids of the questions that stand.
use Rattle.std.proofs.Common.{◌≡◌, inl, inr, ℕ, suc, ◌+◌, Bool, true, false, cond, nat_eq, List, [], ◌∷◌, ◌++◌, Option, None, Some, refl, sym, ap, subst, ◌∙◌, arith, append_assoc, append-nil}
use Rattle.std.specs.Ordering.{nat_cmp, eq_by_cmp}
use Rattle.std.specs.Cmp.{nat_cmp_total}
use Rattle.std.specs.FinMap as map
use Rattle.rpc_msg.specs.declared.parts.Descriptor.{Descriptor}
use Rattle.rpc_msg.specs.declared.exception.Exception.{Exception}
use Rattle.rpc_msg.specs.Payloads.{Contents as Payload}
use Rattle.rpc_msg.specs.declared.parts.Target.{Target}
use Rattle.rpc_msg.specs.declared.message.Call.{Call}
use Rattle.rpc_msg.specs.declared.message.PlainMessage.TheVariants as plain
use Rattle.rpc_msg.specs.declared.message.Message.{Message}
use Rattle.rpc_msg.specs.declared.message.Message.TheVariants as message
use Rattle.rpc_msg.specs.Messages.{given}
use Rattle.rpc_msg.specs.declared.message.ReturnBody.{ReturnBody}
use Rattle.rpc_msg.specs.declared.ids.QuestionId.{QuestionId}
use Rattle.rpc_machine.specs.declared.node.Node.{Node}
use Rattle.rpc_machine.specs.declared.node.Node.TheVariants as node
use Rattle.rpc_machine.specs.declared.calls.Request.{Request}
use Rattle.rpc_machine.specs.declared.calls.WaitingCall.{WaitingCall}
use Rattle.rpc_machine.specs.declared.calls.HeldCall.{HeldCall}
use Rattle.rpc_machine.specs.declared.entries.Role.{Role}
use Rattle.rpc_machine.specs.declared.calls.Promise.{Promise}
use Rattle.rpc_machine.specs.declared.calls.Promise.TheVariants as promise
use Rattle.rpc_machine.specs.declared.calls.KeptOutcome.{KeptOutcome}
use Rattle.rpc_machine.specs.declared.calls.OwnCall.{OwnCall}
use Rattle.rpc_machine.specs.declared.calls.Value.{Value}
use Rattle.rpc_machine.specs.declared.calls.Value.TheVariants as value
use Rattle.rpc_machine.specs.declared.calls.Caller.{Caller}
use Rattle.rpc_machine.specs.declared.calls.Caller.TheVariants as caller
use Rattle.rpc_machine.specs.declared.entries.AnswerEntry.{AnswerEntry}
use Rattle.rpc_machine.specs.declared.entries.Embargo.{Embargo}
use Rattle.rpc_machine.specs.declared.entries.Export.{Export}
use Rattle.rpc_machine.specs.declared.entries.Question.{Question}
use Rattle.rpc_machine.specs.declared.entries.Finishing.TheVariants as finishing
use Rattle.finite_maps.specs.Tally.{Map}
use Rattle.rpc_machine.specs.State.{State}
use Rattle.rpc_machine.specs.Nodes.{settle}
use Rattle.rpc_machine.specs.Lists.{how_many}
use Rattle.rpc_machine.specs.Progress.{Progress, with_state, with_refs, numbers, caps_of, export_ids}
use Rattle.rpc_machine.specs.Descriptors.{ExportedAs, Described, DescribesAll}
use Rattle.rpc_machine.specs.Routing.{Asks, WaitsForPromise, WaitsForField, RoutedTo, Routes, RoutesAll, RoutesHeld}
use Rattle.rpc_machine.specs.Collecting.{Goes, PromiseGoes, OutcomeGoes, ImportGoes, Collects, Tight, Loose}
use Rattle.rpc_machine.specs.Flags.{give_if, flag_for}
use Rattle.rpc_machine.specs.Settling.{known, PutsIn, Untangles, Fits, TellsCall, SaysBack, Returns, TellsPeer, Tells, ResolvesTo, ResolvesBy, ResolvesEach, SettlesOpen, SettlesFrom, SettlesOutcome, FixesFrom, FixesPromise, Drains, NoneLeft, OneMore}
use Rattle.rpc_machine_examples.specs.HeldEmbargoes.{GoesOn}
use Rattle.rpc_machine_examples.specs.TakenQuestions.{asks}
use Rattle.finite_maps.proofs.Tested.{ties, equal, get_put, get_cut}
use Rattle.rpc_machine.proofs.ExportCounts.{how_many-append}

-- The same part of two states, of the State only what is kept here: the exports change.
abbrev pub Apart : State → State → Type 0
Apart s t = (t.embargoes ≡ s.embargoes) × (t.questions ≡ s.questions)

-- So are the answers.
abbrev pub Alike : State → State → Type 0
Alike s t = Apart s t × (t.answers ≡ s.answers)

exported : (s : State) (n : Node) (e : ℕ) (o : Option Export) (new : State) → ExportedAs s n e o new → Alike s new
exported s n e None new h = rw h.1 ((refl, refl), refl)
exported s n e (Some x) new h = rw h.1 ((refl, refl), refl)

pub described : (s : State) (n : Node) (d : Descriptor) (new : State) → Described s n d new → Alike s new
described s (node.Object o) d new h = exported s (node.Object o) h.0 (map.get s.exports h.0) new h.2
described s (node.Promise p) d new h = exported s (node.Promise p) h.0 (map.get s.exports h.0) new h.2
described s (node.Field o path) d new h = exported s (node.Field o path) h.0 (map.get s.exports h.0) new h.2
described s (node.Import e) d new h = rw h.1 ((refl, refl), refl)
described s (node.Pipe q path) d new h = rw h.1 ((refl, refl), refl)
described s (node.Broken reason) d new h = rw h.1 ((refl, refl), refl)

pub describes_all : (s : State) (ns : List Node) (ds : List Descriptor) (new : State) → DescribesAll s ns ds new → Alike s new
describes_all s [] [] new h = rw h ((refl, refl), refl)
describes_all s [] (d ∷ ds) new h = absurd h
describes_all s (n ∷ ns) [] new h = absurd h
describes_all s (n ∷ ns) (d ∷ ds) new h =
    let a = described s (settle s n) d h.0 h.1 in
    let b = describes_all h.0 ns ds new h.2 in
    ((b.0.0 ∙ a.0.0, b.0.1 ∙ a.0.1), b.1 ∙ a.1)

pub refs_alike : (s : State) (ns : List Node) → Alike s (with_refs s ns)
refs_alike s [] = ((refl, refl), refl)
refs_alike s (n ∷ ns) = refs_alike (record s { refs = map.insert s.refs s.next_ref (record { head = n; embargo = None; made = 0 }); next_ref = s.next_ref + 1 }) ns

placed : (s : State) (o : ℕ) (who : Caller) (w : List HeldCall) (payload : Payload) (i : ℕ) (n : Node) (rest out : List Node) (new : State) → PutsIn s o who w payload i n rest out new → Alike s new
placed s o who w payload i n rest out new (inl h) = rw h.2 ((refl, refl), refl)
placed s o who w payload i n rest out new (inr h) = let g = h.1 in rw g.3 ((refl, refl), refl)

untangles : (s : State) (o : ℕ) (who : Caller) (w : List HeldCall) (payload : Payload) (i : ℕ) (caps out : List Node) (new : State) → Untangles s o who w payload i caps out new → Alike s new
untangles s o who w payload i [] out new h = rw h.1 ((refl, refl), refl)
untangles s o who w payload i (n ∷ ns) out new h =
    let a = untangles s o who w payload (i + 1) ns h.0 h.1 h.2 in
    let b = placed h.1 o who w payload i n h.0 out new h.3 in
    ((b.0.0 ∙ a.0.0, b.0.1 ∙ a.0.1), b.1 ∙ a.1)

pub fits : (s : State) (o : ℕ) (who : Caller) (w : List HeldCall) (v out : Value) (new : State) → Fits s o who w v out new → Alike s new
fits s o who w (value.Exception exception) out new h = rw h.1 ((refl, refl), refl)
fits s o who w (value.Results payload caps) out new h = untangles s o who w payload 0 caps h.0 new h.2

pub gives : (s : State) (b : Bool) (ids : List ℕ) → Alike s (give_if s b ids)
gives s true ids = ((refl, refl), refl)
gives s false ids = ((refl, refl), refl)

pub says : (s : State) (b : Bool) (v : Value) (said : ReturnBody) (ds : List Descriptor) (new : State) → SaysBack s b v said ds new → Alike s new
says s true v said ds new h = rw h.2 ((refl, refl), refl)
says s false (value.Exception exception) said ds new h = rw h.2 ((refl, refl), refl)
says s false (value.Results payload caps) said ds new h = describes_all s caps ds new h.1

abbrev pub IsThere : {X : Type 0} → Option X → Type 0
IsThere None = ⊥
IsThere (Some x) = Unit {0}

pub goes_on_same : (o : Option Embargo) (b : Embargo) → o ≡ Some b → GoesOn o b
goes_on_same o b h = ([], h ∙ ap (λ xs. Some (record b { waiting = xs })) (sym (append-nil b.waiting)))

-- Of the embargo e and the id q.
module _ (e q : ℕ) where
  abbrev pub asked : List Message → ℕ
  asked ms = how_many (asks q) ms

  -- The embargo goes on; the question stands if it stood, and then no other one was sent with its id.
  abbrev pub Keeps : Progress → Progress → Type 0
  Keeps d new =
      ((b : Embargo) → map.get d.state.embargoes e ≡ Some b → GoesOn (map.get new.state.embargoes e) b)
      × (IsThere (map.get d.state.questions q) → IsThere (map.get new.state.questions q))
      × (IsThere (map.get d.state.questions q) → asked new.effects.sends ≡ asked d.effects.sends)

  pub then : (d mid new : Progress) → Keeps d mid → Keeps mid new → Keeps d new
  then d mid new h k = (λ b f. go b (h.0 b f), λ t. k.1 (h.1 t), λ t. k.2 (h.1 t) ∙ h.2 t)
    where
      go : (b : Embargo) → GoesOn (map.get mid.state.embargoes e) b → GoesOn (map.get new.state.embargoes e) b
      go b g =
          let r = k.0 (record b { waiting = b.waiting ++ g.0 }) g.1 in
          (g.0 ++ r.0, r.1 ∙ ap (λ xs. Some (record b { waiting = xs })) (append_assoc b.waiting g.0 r.0))

  -- Nothing of it changes.
  pub quiet : (d new : Progress) → Apart d.state new.state → new.effects.sends ≡ d.effects.sends → Keeps d new
  quiet d new a f = (
    λ b g. goes_on_same _ b (ap (λ m. map.get m e) a.0 ∙ g),
    λ t. subst (λ (m : Map Question). IsThere (map.get m q)) (sym a.1) t,
    λ t. ap asked f,
  )

  pub quiet_by : (d new : Progress) {x : Progress} → new ≡ x → Apart d.state x.state → x.effects.sends ≡ d.effects.sends → Keeps d new
  quiet_by d new {x} h a f = subst (λ (p : Progress). Keeps d p) (sym h) (quiet d x a f)

  pub same : (d : Progress) → Keeps d d
  same d = quiet d d (refl, refl) refl

  sum : (ms : List Message) (m : Message) → asks q m ≡ false → asked (ms ++ m ∷ []) ≡ asked ms
  sum ms m h = how_many-append (asks q) ms (m ∷ []) ∙ rw h (omega arith)

  -- A message is sent that asks nothing.
  pub says_so : (d new : Progress) (m : Message) → Apart d.state new.state → new.effects.sends ≡ d.effects.sends ++ m ∷ [] → asks q m ≡ false → Keeps d new
  says_so d new m a f h = (
    λ b g. goes_on_same _ b (ap (λ k. map.get k e) a.0 ∙ g),
    λ t. subst (λ (k : Map Question). IsThere (map.get k q)) (sym a.1) t,
    λ t. ap asked f ∙ sum d.effects.sends m h,
  )

  pub says_by : (d new : Progress) {x : Progress} (m : Message) → new ≡ x → Apart d.state x.state → x.effects.sends ≡ d.effects.sends ++ m ∷ [] → asks q m ≡ false → Keeps d new
  says_by d new {x} m h a f g = subst (λ (p : Progress). Keeps d p) (sym h) (says_so d x m a f g)

  other : (k : ℕ) (m : Map Question) → map.get m k ≡ None → IsThere (map.get m q) → nat_eq q k ≡ false
  other k m f t = by (nat_eq q k) refl
    where
      by : (b : Bool) → nat_eq q k ≡ b → nat_eq q k ≡ false
      by false g = g
      by true g = absurd (subst (λ (o : Option Question). IsThere o) (ap (map.get m) (equal q k g) ∙ f) t)

  -- A question is asked with a free id.
  pub asks_new : (d new : Progress) (k : ℕ) (x : Question) (m : Message) → map.get d.state.questions k ≡ None → new.state.embargoes ≡ d.state.embargoes → new.state.questions ≡ map.insert d.state.questions k x → new.effects.sends ≡ d.effects.sends ++ m ∷ [] → asks q m ≡ nat_eq q k → Keeps d new
  asks_new d new k x m free a b f h = (
    λ c g. goes_on_same _ c (ap (λ j. map.get j e) a ∙ g),
    λ t. subst (λ (o : Option Question). IsThere o) (sym (ap (λ j. map.get j q) b ∙ get_put d.state.questions k x q ∙ ap (λ c. cond c (Some x) (map.get d.state.questions q)) (other k d.state.questions free t))) t,
    λ t. ap asked f ∙ sum d.effects.sends m (h ∙ other k d.state.questions free t),
  )

  pub asks_by : (d new : Progress) {y : Progress} (k : ℕ) (x : Question) (m : Message) → new ≡ y → map.get d.state.questions k ≡ None → y.state.embargoes ≡ d.state.embargoes → y.state.questions ≡ map.insert d.state.questions k x → y.effects.sends ≡ d.effects.sends ++ m ∷ [] → asks q m ≡ nat_eq q k → Keeps d new
  asks_by d new {y} k x m h free a b f g = subst (λ (p : Progress). Keeps d p) (sym h) (asks_new d y k x m free a b f g)

  pub questions_asked : (d : Progress) (k : ℕ) (role : Role) (t : Target) (r : Request) (new : Progress) → Asks d k role t r new → Keeps d new
  questions_asked d k role t r new h =
      let g = h.1 in
      let a = describes_all d.state r.caps g.0 g.1 g.2 in
      let x : Question = record { role = role; given = export_ids (given g.0); returned = None; finish = finishing.Owed } in
      let c : Call = record { question = record { 0 = k }; target = t; interface = r.interface; method = r.method; payload = r.payload; descriptors = g.0; stamp = r.stamp } in
      asks_by d new k x (message.Plain (plain.Call c)) g.3 h.0 a.0.0 (ap (λ m. map.insert m k x) a.0.1) refl refl

  routed_to : (d : Progress) (c : WaitingCall) (n : Node) (new : Progress) → RoutedTo d c n new → Keeps d new
  routed_to d c (node.Object o) new h = quiet_by d new h (refs_alike d.state c.request.caps).0 refl
  routed_to d c (node.Promise p) new h = waits (map.get d.state.promises p) h
    where
      waits : (o : Option Promise) → WaitsForPromise d c p o new → Keeps d new
      waits None h = absurd h
      waits (Some (promise.Fixed to)) h = absurd h
      waits (Some (promise.Open calls)) h = quiet_by d new h (refl, refl) refl
  routed_to d c (node.Field o path) new h = waits (map.get d.state.outcomes o) h
    where
      waits : (x : Option KeptOutcome) → WaitsForField d c o path x new → Keeps d new
      waits None h = absurd h
      waits (Some x) h = quiet_by d new h (refl, refl) refl
  routed_to d c (node.Import i) new h = questions_asked d h.0 _ _ c.request new h.1
  routed_to d c (node.Pipe k path) new h = questions_asked d h.0 _ _ c.request new h.1
  routed_to d c (node.Broken reason) new h = quiet_by d new h (refl, refl) refl

  pub routes : (d : Progress) (c : WaitingCall) (n : Node) (new : Progress) → Routes d c n new → Keeps d new
  routes d c n new h = routed_to d c (settle d.state n) new h

  pub routes_all : (d : Progress) (cs : List WaitingCall) (n : Node) (new : Progress) → RoutesAll d cs n new → Keeps d new
  routes_all d [] n new h = rw h (same d)
  routes_all d (c ∷ cs) n new h = then d h.0 new (routes d c n h.0 h.1) (routes_all h.0 cs n new h.2)

  routes_held : (d : Progress) (o : ℕ) (hs : List HeldCall) (new : Progress) → RoutesHeld d o hs new → Keeps d new
  routes_held d o [] new h = rw h (same d)
  routes_held d o (x ∷ xs) new h = then d h.0 new (routes d x.call (node.Field o x.path) h.0 h.1) (routes_held h.0 o xs new h.2)

  goes : (d new : Progress) → Goes d new → Keeps d new
  goes d new (PromiseGoes p h f) = quiet_by d new f (refl, refl) refl
  goes d new (OutcomeGoes o h f) = quiet_by d new f (refl, refl) refl
  goes d new (ImportGoes i h f) = quiet_by d new f (refl, refl) refl

  pub collects : (new d : Progress) → Collects new d → Keeps d new
  collects new d (Tight h) = same new
  collects new d (Loose {mid = mid} g rest) = then d mid new (goes d mid g) (collects new mid rest)

  returns : (d : Progress) (k : QuestionId) (a : AnswerEntry) (v : Value) (new : Progress) → Returns d k a v new → Keeps d new
  returns d k a v new h =
      let g = h.4 in
      let s = g.0.state in
      let ids = numbers a.taken in
      let one : Keeps d (with_state d h.2) = quiet d (with_state d h.2) (says d.state a.finished v h.0 h.1 h.2 h.3).0 refl in
      let two : Keeps (with_state d h.2) g.0 = collects g.0 (with_state d h.2) g.1 in
      then d g.0 new (then d (with_state d h.2) g.0 one two) (says_by g.0 new _ g.2 (gives s (flag_for s ids) ids).0 refl refl)

  tells : (d : Progress) (who : Caller) (v : Value) (new : Progress) → Tells d who v new → Keeps d new
  tells d (caller.Application c) v new h = call (map.get d.state.calls c.0) h
    where
      call : (o : Option OwnCall) → TellsCall d c.0 v o new → Keeps d new
      call None h = rw h (same d)
      call (Some from) h = quiet_by d new h (refs_alike d.state (caps_of v)).0 refl
  tells d (caller.Peer k) v new h = peer (map.get d.state.answers k.0) h
    where
      peer : (o : Option AnswerEntry) → TellsPeer d k v o new → Keeps d new
      peer None h = absurd h
      peer (Some a) h = returns d k a v new h

  resolves_to : (d : Progress) (x : ℕ) (n : Node) (new : Progress) → ResolvesTo d x n new → Keeps d new
  resolves_to d x n new h = says_by d new _ h.3 (described d.state (settle d.state n) h.0 h.1 h.2).0 refl refl

  resolved_to : (d : Progress) (x : ℕ) (o : Option Exception) (n : Node) (new : Progress) → ResolvesBy d x o n new → Keeps d new
  resolved_to d x o (node.Object k) new h = resolves_to d x _ new h
  resolved_to d x o (node.Promise p) new h = resolves_to d x _ new h
  resolved_to d x o (node.Field k path) new h = resolves_to d x _ new h
  resolved_to d x o (node.Import i) new h = resolves_to d x _ new h
  resolved_to d x o (node.Pipe k path) new h = resolves_to d x _ new h
  resolved_to d x o (node.Broken reason) new h = says_by d new _ h (refl, refl) refl refl

  pub resolves_each : (d : Progress) (o : Option Exception) (es : List (ℕ × Node)) (new : Progress) → ResolvesEach d o es new → Keeps d new
  resolves_each d o [] new h = rw h (same d)
  resolves_each d o (x ∷ xs) new h = then d h.0 new (resolved_to d x.0 o (settle d.state x.1) h.0 h.1) (resolves_each h.0 o xs new h.2)

  pub settles : (d : Progress) (o : ℕ) (v : Value) (new : Progress) → SettlesOutcome d o v new → Keeps d new
  settles d o v new h = from (map.get d.state.outcomes o) h
    where
      once : (x : KeptOutcome) (b : Option Value) → SettlesOpen d o v x b new → Keeps d new
      once x (Some before) h = absurd h
      once x None h =
          let g = h.3 in
          let k = g.2 in
          let one : Keeps d (with_state d h.1) = quiet d (with_state d h.1) (fits d.state o x.caller x.waiting v h.0 h.1 h.2).0 refl in
          let two : Keeps (with_state d h.1) g.0 = tells (with_state d (known h.1 o x.caller x.waiting h.0)) x.caller h.0 g.0 g.1 in
          let three : Keeps g.0 k.0 = routes_held (with_state g.0 (known g.0.state o x.caller [] h.0)) o x.waiting k.0 k.1 in
          let four : Keeps k.0 new = resolves_each k.0 None _ new k.2 in
          then d (with_state d h.1) new one (then (with_state d h.1) g.0 new two (then g.0 k.0 new three four))

      from : (x : Option KeptOutcome) → SettlesFrom d o v x new → Keeps d new
      from None h = absurd h
      from (Some x) h = once x x.value h

  pub fixes : (d : Progress) (p : ℕ) (to : Node) (x : Option Exception) (new : Progress) → FixesPromise d p to x new → Keeps d new
  fixes d p to x new h = from (map.get d.state.promises p) h
    where
      from : (o : Option Promise) → FixesFrom d p to x o new → Keeps d new
      from None h = absurd h
      from (Some (promise.Fixed before)) h = absurd h
      from (Some (promise.Open calls)) h =
          let fixed : Progress = with_state d (record (d.state) { promises = map.insert d.state.promises p (promise.Fixed to) }) in
          then d fixed new (quiet d fixed (refl, refl) refl) (then fixed h.0 new (routes_all fixed calls (node.Promise p) h.0 h.1) (resolves_each h.0 x _ new h.2))

  pub drains : (new d : Progress) → Drains new d → Keeps d new
  drains new d (NoneLeft h) = same new
  drains new d (OneMore {mid = mid} o v rest f h more) =
      let left : Progress = record d { arisen = rest } in
      then d left new (quiet d left (refl, refl) refl) (then left mid new (settles left o v mid h) (drains new mid more))
