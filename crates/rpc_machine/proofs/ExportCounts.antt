-- What a step adds to an export's count, it sends as descriptors.
use Rattle.std.proofs.Common.{◌≡◌, inl, inr, ℕ, suc, ◌+◌, Bool, true, false, cond, nat_eq, List, [], ◌∷◌, ◌++◌, Option, None, Some, refl, sym, ap, ◌∙◌, arith}
use Rattle.std.specs.Ordering.{nat_cmp, eq_by_cmp}
use Rattle.std.specs.Cmp.{nat_cmp_total}
use Rattle.std.specs.FinMap as map
use Rattle.rpc_journal.specs.rpc_msg.specs.declared.parts.Descriptor.{Descriptor}
use Rattle.rpc_journal.specs.rpc_msg.specs.declared.parts.Descriptor.TheVariants as descriptor
use Rattle.rpc_journal.specs.rpc_msg.specs.declared.exception.Exception.{Exception}
use Rattle.rpc_journal.specs.rpc_msg.specs.Payloads.{Contents as Payload}
use Rattle.rpc_journal.specs.rpc_msg.specs.declared.parts.Target.{Target}
use Rattle.rpc_journal.specs.rpc_msg.specs.declared.message.Message.{Message}
use Rattle.rpc_journal.specs.rpc_msg.specs.declared.message.ReturnBody.{ReturnBody}
use Rattle.rpc_journal.specs.rpc_msg.specs.declared.ids.QuestionId.{QuestionId}
use Rattle.rpc_journal.specs.rpc_msg.specs.Messages.{given, descriptors_of, descriptors_of_body}
use Rattle.rpc_machine.specs.declared.node.Node.{Node}
use Rattle.rpc_machine.specs.declared.node.Node.TheVariants as node
use Rattle.rpc_machine.specs.declared.calls.Request.{Request}
use Rattle.rpc_machine.specs.declared.calls.WaitingCall.{WaitingCall}
use Rattle.rpc_machine.specs.declared.calls.HeldCall.{HeldCall}
use Rattle.rpc_machine.specs.declared.entries.Role.{Role}
use Rattle.rpc_machine.specs.declared.calls.Promise.{Promise}
use Rattle.rpc_machine.specs.declared.calls.Promise.TheVariants as promise
use Rattle.rpc_machine.specs.declared.calls.KeptOutcome.{KeptOutcome}
use Rattle.rpc_machine.specs.declared.calls.OwnCall.{OwnCall}
use Rattle.rpc_machine.specs.declared.calls.Value.{Value}
use Rattle.rpc_machine.specs.declared.calls.Value.TheVariants as value
use Rattle.rpc_machine.specs.declared.calls.Caller.{Caller}
use Rattle.rpc_machine.specs.declared.calls.Caller.TheVariants as caller
use Rattle.rpc_machine.specs.declared.entries.AnswerEntry.{AnswerEntry}
use Rattle.rpc_machine.specs.declared.entries.Export.{Export}
use Rattle.rpc_machine.specs.State.{State}
use Rattle.rpc_machine.specs.Nodes.{settle}
use Rattle.rpc_machine.specs.Lists.{how_many}
use Rattle.rpc_machine.specs.Progress.{Progress, with_state, with_refs, numbers, caps_of}
use Rattle.rpc_machine.specs.Descriptors.{ExportedAs, Described, DescribesAll, giving}
use Rattle.rpc_machine.specs.Routing.{Asks, WaitsForPromise, WaitsForField, RoutedTo, Routes, RoutesAll, RoutesHeld}
use Rattle.rpc_machine.specs.Collecting.{Goes, PromiseGoes, OutcomeGoes, ImportGoes, Collects, Tight, Loose}
use Rattle.rpc_machine.specs.Flags.{give_if, flag_for}
use Rattle.rpc_machine.specs.Settling.{PutsIn, Untangles, Fits, TellsCall, SaysBack, Returns, TellsPeer, Tells, ResolvesTo, ResolvesBy, ResolvesEach, SettlesOpen, SettlesFrom, SettlesOutcome, Drains, NoneLeft, OneMore}
use Rattle.rpc_machine.specs.Limits.{export_count}
use Rattle.finite_maps.proofs.Tested.{ties, equal}

-- The count of the export e.
abbrev pub count : ℕ → State → ℕ
count e s = export_count (map.get s.exports e)

-- One entry is new: with n more than before.
set_count : (s : State) (k n : ℕ) (x : Export) → x.count ≡ count k s + n → (e : ℕ) → count e (record s { exports = map.insert s.exports k x }) ≡ count e s + cond (nat_eq e k) n 0
set_count s k n x h e =
    ap export_count (map.get-insert nat_cmp_total s.exports k x e ∙ ap (λ b. cond b (Some x) (map.get s.exports e)) (ties e k))
    ∙ elim (nat_eq e k) as (λ b. nat_eq e k ≡ b → export_count (cond b (Some x) (map.get s.exports e)) ≡ count e s + cond b n 0) [
      | true ↦ λ t. h ∙ ap (λ j. count j s + n) (sym (equal e k t))
      | false ↦ λ t. omega arith
    ] refl

exported : (s : State) (n : Node) (k : ℕ) (o : Option Export) (new : State) → map.get s.exports k ≡ o → ExportedAs s n k o new → (e : ℕ) → count e new ≡ count e s + cond (nat_eq e k) 1 0
exported s n k None new f h e = rw h.1 (set_count s k 1 (record { node = n; count = 1 }) (let g : count k s ≡ 0 = ap export_count f in omega arith) e)
exported s n k (Some x) new f h e = rw h.1 (set_count s k 1 (record { node = n; count = x.count + 1 }) (let g : count k s ≡ x.count = ap export_count f in omega arith) e)

one : (b : Bool) → cond b 1 0 ≡ cond b (suc 0) 0
one b = refl

described : (s : State) (n : Node) (d : Descriptor) (new : State) → Described s n d new → (e : ℕ) → count e new ≡ count e s + how_many (nat_eq e) (given (d ∷ []))
described s (node.Object o) d new h e = rw h.1 (exported s _ h.0 (map.get s.exports h.0) new refl h.2 e)
described s (node.Promise p) d new h e = rw h.1 (exported s _ h.0 (map.get s.exports h.0) new refl h.2 e)
described s (node.Field o path) d new h e = rw h.1 (exported s _ h.0 (map.get s.exports h.0) new refl h.2 e)
described s (node.Import i) d new h e = rw (h.0, h.1) (omega arith)
described s (node.Pipe q path) d new h e = rw (h.0, h.1) (omega arith)
described s (node.Broken reason) d new h e = rw (h.0, h.1) (omega arith)

pub how_many-append : {X : Type 0} (f : X → Bool) (xs ys : List X) → how_many f (xs ++ ys) ≡ how_many f xs + how_many f ys
how_many-append f [] ys = omega arith
how_many-append f (x ∷ xs) ys =
    let r = how_many-append f xs ys in
    elim (f x) as (λ b. cond b (suc (how_many f (xs ++ ys))) (how_many f (xs ++ ys)) ≡ cond b (suc (how_many f xs)) (how_many f xs) + how_many f ys) [ true ↦ omega arith | false ↦ r ]

given-cons : (d : Descriptor) (ds : List Descriptor) → given (d ∷ ds) ≡ given (d ∷ []) ++ given ds
given-cons descriptor.None ds = refl
given-cons (descriptor.SenderHosted x) ds = refl
given-cons (descriptor.SenderPromise x) ds = refl
given-cons (descriptor.ReceiverHosted x) ds = refl
given-cons (descriptor.ReceiverAnswer q path) ds = refl

describes_all : (s : State) (ns : List Node) (ds : List Descriptor) (new : State) → DescribesAll s ns ds new → (e : ℕ) → count e new ≡ count e s + how_many (nat_eq e) (given ds)
describes_all s [] [] new h e = rw h (omega arith)
describes_all s [] (d ∷ ds) new h e = absurd h
describes_all s (n ∷ ns) [] new h e = absurd h
describes_all s (n ∷ ns) (d ∷ ds) new h e =
    let a = described s (settle s n) d h.0 h.1 e in
    let b = describes_all h.0 ns ds new h.2 e in
    let c = ap (how_many (nat_eq e)) (given-cons d ds) ∙ how_many-append (nat_eq e) (given (d ∷ [])) (given ds) in
    rw c (omega arith)

pub giving-append : (e : ℕ) (ms ns : List Message) → giving e (ms ++ ns) ≡ giving e ms + giving e ns
giving-append e [] ns = omega arith
giving-append e (m ∷ ms) ns = let r = giving-append e ms ns in omega arith

-- What was added to the count of e stands in what was sent.
abbrev pub Balanced : ℕ → Progress → Progress → Type 0
Balanced e d new = count e new.state + giving e d.effects.sends ≡ count e d.state + giving e new.effects.sends

pub then : (e : ℕ) (d mid new : Progress) → Balanced e d mid → Balanced e mid new → Balanced e d new
then e d mid new h k =
    let a : count e mid.state + giving e d.effects.sends ≡ count e d.state + giving e mid.effects.sends = h in
    let b : count e new.state + giving e mid.effects.sends ≡ count e mid.state + giving e new.effects.sends = k in
    omega arith

-- One message is sent, with what it adds.
pub sends : (e : ℕ) (s t : State) (ms : List Message) (m : Message) → count e t ≡ count e s + how_many (nat_eq e) (given (descriptors_of m)) → count e t + giving e ms ≡ count e s + giving e (ms ++ m ∷ [])
sends e s t ms m h = let g = giving-append e ms (m ∷ []) in omega arith

pub asks : (e : ℕ) (d : Progress) (q : ℕ) (role : Role) (t : Target) (r : Request) (new : Progress) → Asks d q role t r new → Balanced e d new
asks e d q role t r new h = let g = h.1 in rw g.3 (sends e d.state g.1 d.effects.sends _ (describes_all d.state r.caps g.0 g.1 g.2 e))

pub same : (e : ℕ) (d : Progress) → Balanced e d d
same e d = refl

pub refs_count : (s : State) (ns : List Node) (e : ℕ) → count e (with_refs s ns) ≡ count e s
refs_count s [] e = refl
refs_count s (n ∷ ns) e = refs_count (record s { refs = map.insert s.refs s.next_ref (record { head = n; embargo = None; made = 0 }); next_ref = s.next_ref + 1 }) ns e

routed_to : (e : ℕ) (d : Progress) (c : WaitingCall) (n : Node) (new : Progress) → RoutedTo d c n new → Balanced e d new
routed_to e d c (node.Object o) new h = rw h (ap (λ k. k + giving e d.effects.sends) (refs_count d.state c.request.caps e))
routed_to e d c (node.Promise p) new h = waits (map.get d.state.promises p) h
  where
    waits : (o : Option Promise) → WaitsForPromise d c p o new → Balanced e d new
    waits None h = absurd h
    waits (Some (promise.Fixed to)) h = absurd h
    waits (Some (promise.Open calls)) h = rw h refl
routed_to e d c (node.Field o path) new h = waits (map.get d.state.outcomes o) h
  where
    waits : (x : Option KeptOutcome) → WaitsForField d c o path x new → Balanced e d new
    waits None h = absurd h
    waits (Some x) h = rw h refl
routed_to e d c (node.Import i) new h = asks e d h.0 _ _ c.request new h.1
routed_to e d c (node.Pipe q path) new h = asks e d h.0 _ _ c.request new h.1
routed_to e d c (node.Broken reason) new h = rw h refl

pub routes : (e : ℕ) (d : Progress) (c : WaitingCall) (n : Node) (new : Progress) → Routes d c n new → Balanced e d new
routes e d c n new h = routed_to e d c (settle d.state n) new h

pub routes_all : (e : ℕ) (d : Progress) (cs : List WaitingCall) (n : Node) (new : Progress) → RoutesAll d cs n new → Balanced e d new
routes_all e d [] n new h = rw h refl
routes_all e d (c ∷ cs) n new h = then e d h.0 new (routes e d c n h.0 h.1) (routes_all e h.0 cs n new h.2)

routes_held : (e : ℕ) (d : Progress) (o : ℕ) (hs : List HeldCall) (new : Progress) → RoutesHeld d o hs new → Balanced e d new
routes_held e d o [] new h = rw h refl
routes_held e d o (x ∷ xs) new h = then e d h.0 new (routes e d x.call (node.Field o x.path) h.0 h.1) (routes_held e h.0 o xs new h.2)

placed : (s : State) (o : ℕ) (who : Caller) (w : List HeldCall) (payload : Payload) (i : ℕ) (n : Node) (rest out : List Node) (new : State) → PutsIn s o who w payload i n rest out new → new.exports ≡ s.exports
placed s o who w payload i n rest out new (inl h) = ap (λ t. t.exports) h.2
placed s o who w payload i n rest out new (inr h) = let g = h.1 in ap (λ t. t.exports) g.3

untangles : (e : ℕ) (s : State) (o : ℕ) (who : Caller) (w : List HeldCall) (payload : Payload) (i : ℕ) (caps out : List Node) (new : State) → Untangles s o who w payload i caps out new → new.exports ≡ s.exports
untangles e s o who w payload i [] out new h = ap (λ t. t.exports) h.1
untangles e s o who w payload i (n ∷ ns) out new h =
    placed h.1 o who w payload i n h.0 out new h.3 ∙ untangles e s o who w payload (i + 1) ns h.0 h.1 h.2

fits : (e : ℕ) (s : State) (o : ℕ) (who : Caller) (w : List HeldCall) (v out : Value) (new : State) → Fits s o who w v out new → new.exports ≡ s.exports
fits e s o who w (value.Exception exception) out new h = ap (λ t. t.exports) h.1
fits e s o who w (value.Results payload caps) out new h = untangles e s o who w payload 0 caps h.0 new h.2

goes : (e : ℕ) (d new : Progress) → Goes d new → Balanced e d new
goes e d new (PromiseGoes p h f) = rw f refl
goes e d new (OutcomeGoes o h f) = rw f refl
goes e d new (ImportGoes i h f) = rw f refl

pub collects : (e : ℕ) (new d : Progress) → Collects new d → Balanced e d new
collects e new d (Tight h) = refl
collects e new d (Loose {mid = mid} g rest) = then e d mid new (goes e d mid g) (collects e new mid rest)

pub gives : (e : ℕ) (s : State) (b : Bool) (ids : List ℕ) → count e (give_if s b ids) ≡ count e s
gives e s true ids = refl
gives e s false ids = refl

says : (e : ℕ) (s : State) (b : Bool) (v : Value) (said : ReturnBody) (ds : List Descriptor) (new : State) → SaysBack s b v said ds new → count e new ≡ count e s + how_many (nat_eq e) (given (descriptors_of_body said))
says e s true v said ds new h = rw (h.0, h.2) (omega arith)
says e s false (value.Exception exception) said ds new h = rw (h.0, h.2) (omega arith)
says e s false (value.Results payload caps) said ds new h = rw h.0 (describes_all s caps ds new h.1 e)

later : (e x y z : ℕ) (ms ns : List Message) (m : Message) → y ≡ x + how_many (nat_eq e) (given (descriptors_of m)) → z + giving e ms ≡ y + giving e ns → z + giving e ms ≡ x + giving e (ns ++ m ∷ [])
later e x y z ms ns m h k = let g = giving-append e ns (m ∷ []) in omega arith

returns : (e : ℕ) (d : Progress) (q : QuestionId) (a : AnswerEntry) (v : Value) (new : Progress) → Returns d q a v new → Balanced e d new
returns e d q a v new h =
    let g = h.4 in
    let one = says e d.state a.finished v h.0 h.1 h.2 h.3 in
    let two : count e g.0.state + giving e d.effects.sends ≡ count e h.2 + giving e g.0.effects.sends = collects e g.0 (with_state d h.2) g.1 in
    let ids = numbers a.taken in
    let s = g.0.state in
    let three : count e (give_if s (flag_for s ids) ids) ≡ count e s = gives e s (flag_for s ids) ids in
    rw (g.2, three) (later e (count e d.state) (count e h.2) (count e s) d.effects.sends g.0.effects.sends _ one two)

tells : (e : ℕ) (d : Progress) (who : Caller) (v : Value) (new : Progress) → Tells d who v new → Balanced e d new
tells e d (caller.Application c) v new h = call (map.get d.state.calls c.0) h
  where
    call : (o : Option OwnCall) → TellsCall d c.0 v o new → Balanced e d new
    call None h = rw h refl
    call (Some from) h = rw h (ap (λ k. k + giving e d.effects.sends) (refs_count d.state (caps_of v) e))
tells e d (caller.Peer q) v new h = peer (map.get d.state.answers q.0) h
  where
    peer : (o : Option AnswerEntry) → TellsPeer d q v o new → Balanced e d new
    peer None h = absurd h
    peer (Some a) h = returns e d q a v new h

resolves_to : (e : ℕ) (d : Progress) (x : ℕ) (n : Node) (new : Progress) → ResolvesTo d x n new → Balanced e d new
resolves_to e d x n new h = rw h.3 (sends e d.state h.1 d.effects.sends _ (described d.state (settle d.state n) h.0 h.1 h.2 e))

resolved_to : (e : ℕ) (d : Progress) (x : ℕ) (o : Option Exception) (n : Node) (new : Progress) → ResolvesBy d x o n new → Balanced e d new
resolved_to e d x o (node.Object k) new h = resolves_to e d x _ new h
resolved_to e d x o (node.Promise p) new h = resolves_to e d x _ new h
resolved_to e d x o (node.Field k path) new h = resolves_to e d x _ new h
resolved_to e d x o (node.Import i) new h = resolves_to e d x _ new h
resolved_to e d x o (node.Pipe q path) new h = resolves_to e d x _ new h
resolved_to e d x o (node.Broken reason) new h = rw h (sends e d.state d.state d.effects.sends _ (omega arith))

pub resolves_each : (e : ℕ) (d : Progress) (o : Option Exception) (es : List (ℕ × Node)) (new : Progress) → ResolvesEach d o es new → Balanced e d new
resolves_each e d o [] new h = rw h refl
resolves_each e d o (x ∷ xs) new h = then e d h.0 new (resolved_to e d x.0 o (settle d.state x.1) h.0 h.1) (resolves_each e h.0 o xs new h.2)

-- An outcome that is settled keeps the balance of each export.
pub settles : (e : ℕ) (d : Progress) (o : ℕ) (v : Value) (new : Progress) → SettlesOutcome d o v new → Balanced e d new
settles e d o v new h = from (map.get d.state.outcomes o) h
  where
    once : (x : KeptOutcome) (b : Option Value) → SettlesOpen d o v x b new → Balanced e d new
    once x (Some before) h = absurd h
    once x None h =
        let g = h.3 in
        let k = g.2 in
        let f : count e h.1 ≡ count e d.state = ap (λ m. export_count (map.get m e)) (fits e d.state o x.caller x.waiting v h.0 h.1 h.2) in
        let one : count e g.0.state + giving e d.effects.sends ≡ count e h.1 + giving e g.0.effects.sends = tells e _ x.caller h.0 g.0 g.1 in
        let two : count e k.0.state + giving e g.0.effects.sends ≡ count e g.0.state + giving e k.0.effects.sends = routes_held e _ o x.waiting k.0 k.1 in
        let three : count e new.state + giving e k.0.effects.sends ≡ count e k.0.state + giving e new.effects.sends = resolves_each e k.0 None _ new k.2 in
        omega arith

    from : (x : Option KeptOutcome) → SettlesFrom d o v x new → Balanced e d new
    from None h = absurd h
    from (Some x) h = once x x.value h

pub drains : (e : ℕ) (new d : Progress) → Drains new d → Balanced e d new
drains e new d (NoneLeft h) = refl
drains e new d (OneMore {mid = mid} o v rest f h more) = then e d mid new (settles e (record d { arisen = rest }) o v mid h) (drains e new mid more)
