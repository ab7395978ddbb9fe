-- The parts of a step as acts, of which each says what is there.
use Rattle.std.proofs.Common.{◌≡◌, inl, inr, ℕ, List, [], ◌∷◌, Option, None, Some, refl, sym, ap, subst, ◌∙◌}
use Rattle.std.specs.FinMap as map
use Rattle.rpc_msg.specs.declared.parts.Target.TheVariants.{ImportedCap, PromisedAnswer}
use Rattle.rpc_msg.specs.declared.exception.Exception.{Exception}
use Rattle.rpc_machine.specs.declared.node.Node.{Node}
use Rattle.rpc_machine.specs.declared.node.Node.TheVariants as node
use Rattle.rpc_machine.specs.declared.calls.WaitingCall.{WaitingCall}
use Rattle.rpc_machine.specs.declared.calls.HeldCall.{HeldCall}
use Rattle.rpc_machine.specs.declared.calls.Promise.{Promise}
use Rattle.rpc_machine.specs.declared.calls.Promise.TheVariants as promise
use Rattle.rpc_machine.specs.declared.calls.KeptOutcome.{KeptOutcome}
use Rattle.rpc_machine.specs.declared.calls.Value.{Value}
use Rattle.rpc_machine.specs.State.{State}
use Rattle.rpc_machine.specs.Nodes.{settle}
use Rattle.rpc_machine.specs.Progress.{Progress, with_state, caps_of}
use Rattle.rpc_machine.specs.Routing.{WaitsForPromise, WaitsForField, RoutedTo, Routes, RoutesAll, RoutesHeld}
use Rattle.rpc_machine.specs.Settling.{known, ResolvesEach, SendsResolves, SettlesOpen, SettlesFrom, SettlesOutcome, FixesFrom, FixesPromise, Drains, NoneLeft, OneMore}
use Rattle.laws_steps.proofs.Exceptions.{AllExceptions, first_arises}
use Rattle.laws_steps.proofs.NamedNodes.{Present, Asked, AllIn, all_left, all_right, HereIn, Fine, settle_here}
use Rattle.rpc_machine.specs.Places.{named_by_export, named_by_held, named_by_calls}
use Rattle.laws_steps.proofs.NamedPieces.{EachHere, each_here, where_here, all_of_map, all_grow, fix, parts, routes as routed_on, routes_all as all_routed_on, routes_held as held_routed_on, resolved_to as resolved_on}
use Rattle.laws_steps.proofs.NamedSteps.{settles as settled_on}
use Rattle.laws_steps.proofs.NamedMessages.{no_caps, first_value}
use Rattle.laws_steps.proofs.Reached.{stands}
use Rattle.laws_acts.specs.Acts.{Act, Delivers, Waits, Holds, Relays, Fails, Fixes, Settles, Resolves, NextArisen, Acts, NoMore, Then}
use Rattle.laws_messages.specs.Mentions.{AllStand, Names, AllName}

-- ---- What is here stands

module _ {w : Asked} where
  pub all_stand : (s : State) (ns : List Node) → Fine w s → AllIn (HereIn w s) ns → AllStand s ns
  all_stand s [] i h = tt
  all_stand s (n ∷ ns) i h = (stands s (settle s n) i (settle_here s i n (h n (inl refl))), all_stand s ns i (λ m j. h m (inr j)))

-- ---- Lists of acts

abbrev pub Said : Progress → Progress → Type 0
Said d new = (list : Acts new d) × AllName list

pub then : (d mid new : Progress) → Said d mid → Said mid new → Said d new
then d mid new h k = by d h.0 h.1
  where
    by : (d : Progress) (list : Acts mid d) → AllName list → Said d new
    by d NoMore s = k
    by d (Then {mid = m} a rest) s = let r = by m rest s.1 in (Then a r.0, (s.0, r.1))

pub one : (d new : Progress) (a : Act d new) → Names a → Said d new
one d new a h = (Then a NoMore, (h, tt))

pub none : (d new : Progress) → new ≡ d → Said d new
none d new h = rw h (NoMore, tt)

pub first : (d mid new : Progress) (a : Act d mid) → Names a → Said mid new → Said d new
first d mid new a h k = (Then a k.0, (h, k.1))

-- ---- Routing

module _ {w : Asked} where
  routed_to : (d : Progress) (c : WaitingCall) (n : Node) (new : Progress) → Fine w d.state → HereIn w d.state n → AllIn (HereIn w d.state) c.request.caps → RoutedTo d c n new → Said d new
  routed_to d c (node.Object o) new i m k h = one d new (Delivers c o h) tt
  routed_to d c (node.Promise p) new i m k h = waits (map.get d.state.promises p) refl h
    where
      waits : (o : Option Promise) → map.get d.state.promises p ≡ o → WaitsForPromise d c p o new → Said d new
      waits None f h = absurd h
      waits (Some (promise.Fixed to)) f h = absurd h
      waits (Some (promise.Open calls)) f h = one d new (Waits p calls c f h) tt
  routed_to d c (node.Field o path) new i m k h = waits (map.get d.state.outcomes o) refl h
    where
      waits : (x : Option KeptOutcome) → map.get d.state.outcomes o ≡ x → WaitsForField d c o path x new → Said d new
      waits None f h = absurd h
      waits (Some x) f h = one d new (Holds o x (record { path = path; call = c }) f h) tt
  routed_to d c (node.Import e) new i m k h = one d new (Relays h.0 c.outcome (ImportedCap e) c.request h.1) (stands d.state (node.Import e) i m, all_stand d.state c.request.caps i k)
  routed_to d c (node.Pipe q path) new i m k h = one d new (Relays h.0 c.outcome (PromisedAnswer q path) c.request h.1) (stands d.state (node.Pipe q path) i m, all_stand d.state c.request.caps i k)
  routed_to d c (node.Broken reason) new i m k h = one d new (Fails c.outcome _ h) tt

  pub routes : (d : Progress) (c : WaitingCall) (n : Node) (new : Progress) → Fine w d.state → HereIn w d.state n → AllIn (HereIn w d.state) c.request.caps → Routes d c n new → Said d new
  routes d c n new i m k h = routed_to d c (settle d.state n) new i (settle_here d.state i n m) k h

  pub routes_all : (d : Progress) (cs : List WaitingCall) (n : Node) (new : Progress) → Fine w d.state → HereIn w d.state n → AllIn (HereIn w d.state) (named_by_calls cs) → RoutesAll d cs n new → Said d new
  routes_all d [] n new i m k h = none d new h
  routes_all d (c ∷ cs) n new i m k h =
      let mid = h.0 in
      let own = all_left (HereIn w d.state) c.request.caps (named_by_calls cs) k in
      let a = routed_on d c n mid i own h.1 in
      then d mid new (routes d c n mid i m own h.1) (routes_all mid cs n new a.0 (a.1 n m) (all_grow w d.state mid.state (named_by_calls cs) a.1 (all_right (HereIn w d.state) c.request.caps (named_by_calls cs) k)) h.2)

  routes_held : (d : Progress) (o : ℕ) (hs : List HeldCall) (new : Progress) → Fine w d.state → Present (map.get d.state.outcomes o) → AllIn (HereIn w d.state) (named_by_held hs) → RoutesHeld d o hs new → Said d new
  routes_held d o [] new i m k h = none d new h
  routes_held d o (x ∷ xs) new i m k h =
      let mid = h.0 in
      let own = all_left (HereIn w d.state) x.call.request.caps (named_by_held xs) k in
      let a = routed_on d x.call (node.Field o x.path) mid i own h.1 in
      then d mid new (routes d x.call (node.Field o x.path) mid i m own h.1) (routes_held mid o xs new a.0 (a.1 (node.Field o x.path) m) (all_grow w d.state mid.state (named_by_held xs) a.1 (all_right (HereIn w d.state) x.call.request.caps (named_by_held xs) k)) h.2)

  -- ---- Resolves

  resolves_each : (d : Progress) (x : Option Exception) (es : List (ℕ × Node)) (new : Progress) → Fine w d.state → EachHere (HereIn w d.state) es → ResolvesEach d x es new → Said d new
  resolves_each d x [] new i k h = none d new h
  resolves_each d x (e ∷ es) new i k h =
      let mid = h.0 in
      let there = settle_here d.state i e.1 k.0 in
      let a = resolved_on d e.0 x (settle d.state e.1) mid i there h.1 in
      first d mid new (Resolves e.0 x e.1 h.1) (stands d.state (settle d.state (settle d.state e.1)) i (settle_here d.state i (settle d.state e.1) there)) (resolves_each mid x es new a.0 (each_here w d.state mid.state es a.1 k.1) h.2)

  resolves : (d : Progress) (x : Option Exception) (test : Node → _) (new : Progress) → Fine w d.state → SendsResolves d x test new → Said d new
  resolves d x test new i h =
      let names = i.names in
      resolves_each d x _ new i (where_here (HereIn w d.state) test (map.entries d.state.exports) (all_of_map (HereIn w d.state) named_by_export d.state.exports names.6)) h

  pub fixed : (d : Progress) (p : ℕ) (to : Node) (x : Option Exception) (new : Progress) → Fine w d.state → HereIn w d.state to → FixesPromise d p to x new → Said d new
  fixed d p to x new i k h = from (map.get d.state.promises p) refl h
    where
      from : (o : Option Promise) → map.get d.state.promises p ≡ o → FixesFrom d p to x o new → Said d new
      from None e h = absurd h
      from (Some (promise.Fixed before)) e h = absurd h
      from (Some (promise.Open calls)) e h =
          let s = d.state in
          let mid = with_state d (record s { promises = map.insert s.promises p (promise.Fixed to) }) in
          let a = fix s p to calls e i k in
          let after = all_routed_on mid calls (node.Promise p) h.0 a.0 a.2 h.1 in
          first d mid new (Fixes p calls to e refl) tt (then mid h.0 new (routes_all mid calls (node.Promise p) h.0 a.0 a.1 a.2 h.1) (resolves h.0 x _ new after.0 h.2))

  -- ---- Outcomes

  settled : (d : Progress) (o : ℕ) (v : Value) (x : KeptOutcome) (new : Progress) → map.get d.state.outcomes o ≡ Some x → x.value ≡ None → Fine w d.state → AllIn (HereIn w d.state) (caps_of v) → SettlesOpen d o v x None new → Said d new
  settled d o v x new e f i k h =
      let told = h.3 in
      let rest = told.2 in
      let a = parts d o v h.0 x h.1 told.0 e f i k h.2 told.1 in
      let p = with_state told.0 (known told.0.state o x.caller [] h.0) in
      let four = held_routed_on p o x.waiting rest.0 a.2 a.4 rest.1 in
      first d p new (Settles o x v h.0 h.1 told.0 e f h.2 told.1 refl) (all_stand (known h.1 o x.caller x.waiting h.0) (caps_of h.0) a.0 a.1)
      (then p rest.0 new (routes_held p o x.waiting rest.0 a.2 a.3 a.4 rest.1) (resolves rest.0 None _ new four.0 rest.2))

  pub settles : (d : Progress) (o : ℕ) (v : Value) (new : Progress) → Fine w d.state → AllIn (HereIn w d.state) (caps_of v) → SettlesOutcome d o v new → Said d new
  settles d o v new i k h = from (map.get d.state.outcomes o) refl h
    where
      once : (x : KeptOutcome) → map.get d.state.outcomes o ≡ Some x → (b : Option Value) → x.value ≡ b → SettlesOpen d o v x b new → Said d new
      once x e (Some b) f j = absurd j
      once x e None f j = settled d o v x new e f i k j

      from : (x : Option KeptOutcome) → map.get d.state.outcomes o ≡ x → SettlesFrom d o v x new → Said d new
      from None e j = absurd j
      from (Some x) e j = once x e x.value refl j

  -- ---- What arose

  pub drained : (new d : Progress) → AllExceptions d.arisen → Fine w d.state → Drains new d → Said d new
  drained new d a i (NoneLeft h) = (NoMore, tt)
  drained new d a i (OneMore {mid = mid} o v rest e h more) =
      let b = subst (λ (xs : List (ℕ × Value)). AllExceptions xs) e a in
      let left : Progress = record d { arisen = rest } in
      let none_said = no_caps (HereIn w d.state) v b.0 in
      first d left new (NextArisen o v rest e refl) tt (then left mid new (settles left o v mid i none_said h) (drained new mid (first_arises left o v mid h b.1) (settled_on left o v mid i none_said h) more))

  -- The only outcome that arose.
  pub drained_first : (new d : Progress) (o : ℕ) (v : Value) → d.arisen ≡ (o, v) ∷ [] → Fine w d.state → AllIn (HereIn w d.state) (caps_of v) → Drains new d → Said d new
  drained_first new d o v e i k (NoneLeft h) = (NoMore, tt)
  drained_first new d o v e i k (OneMore {mid = mid} p u rest f h more) =
      let g : (o, v) ∷ [] ≡ (p, u) ∷ rest = sym e ∙ f in
      let j : rest ≡ [] = cc in
      let same : v ≡ u = ap (first_value v) g in
      let left : Progress = record d { arisen = rest } in
      let caps = subst (λ (n : Value). AllIn (HereIn w d.state) (caps_of n)) same k in
      let a : AllExceptions mid.arisen = first_arises left p u mid h (subst (λ (xs : List (ℕ × Value)). AllExceptions xs) (sym j) tt) in
      first d left new (NextArisen p u rest f refl) tt (then left mid new (settles left p u mid i caps h) (drained new mid a (settled_on left p u mid i caps h) more))
