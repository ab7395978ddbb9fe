-- A call whose path settles at a wire goes to that wire.
use Rattle.std.proofs.Common.{◌≡◌, ℕ, ◌+◌, Bool, true, false, cond, nat_eq, List, [], ◌∷◌, ◌++◌, Option, None, Some, refl, sym, ap, subst, ◌∙◌, arith}
use Rattle.std.specs.declared.cmp.Ordering.{Ordering}
use Rattle.std.specs.declared.cmp.Ordering.TheVariants.{Less, Equal, Greater}
use Rattle.std.specs.Ordering.{nat_cmp, is_eq}
use Rattle.std.specs.Cmp.{nat_cmp_total}
use Rattle.std.specs.FinMap as map
use Rattle.std.specs.FinMap.Entries.{find, put, by_order}
use Rattle.rpc_msg.specs.declared.ids.EmbargoId.{EmbargoId}
use Rattle.rpc_msg.specs.declared.parts.Target.{Target}
use Rattle.rpc_msg.specs.declared.parts.Target.TheVariants.{ImportedCap, PromisedAnswer}
use Rattle.rpc_msg.specs.declared.parts.Descriptor.{Descriptor}
use Rattle.rpc_msg.specs.declared.parts.Descriptor.TheVariants as descriptor
use Rattle.rpc_msg.specs.declared.message.Call.{Call}
use Rattle.rpc_msg.specs.declared.message.PlainMessage.TheVariants as plain
use Rattle.rpc_msg.specs.declared.message.Message.{Message}
use Rattle.rpc_msg.specs.declared.message.Message.TheVariants as message
use Rattle.rpc_machine.specs.declared.node.Node.{Node}
use Rattle.rpc_machine.specs.declared.node.Node.TheVariants as node
use Rattle.rpc_machine.specs.declared.command.Level.{Level}
use Rattle.rpc_machine.specs.declared.command.Level.TheVariants.{Zero, One}
use Rattle.rpc_machine.specs.declared.command.Command.TheVariants as command
use Rattle.rpc_machine.specs.declared.command.CallCommand.{CallCommand}
use Rattle.rpc_machine.specs.declared.command.Granted.{Granted}
use Rattle.rpc_machine.specs.declared.command.Effects.{Effects}
use Rattle.rpc_machine.specs.declared.calls.Request.{Request}
use Rattle.rpc_machine.specs.declared.calls.WaitingCall.{WaitingCall}
use Rattle.rpc_machine.specs.declared.calls.KeptOutcome.{KeptOutcome}
use Rattle.rpc_machine.specs.declared.calls.Caller.TheVariants as caller
use Rattle.rpc_machine.specs.declared.calls.OwnCall.TheVariants as own
use Rattle.rpc_machine.specs.declared.entries.Role.{Role}
use Rattle.rpc_machine.specs.declared.entries.Role.TheVariants as role
use Rattle.rpc_machine.specs.declared.entries.Reference.{Reference}
use Rattle.rpc_machine.specs.State.{State}
use Rattle.rpc_machine.specs.Nodes.{value_of, field_link, link, links_of, all_links, links, settle}
use Rattle.rpc_machine.specs.Progress.{Progress, quiet, begin, with_state}
use Rattle.rpc_machine.specs.Descriptors.{taken_of, take_one, take_each, take_at, take_all}
use Rattle.rpc_machine.specs.Routing.{Asks, Relays, RoutedTo}
use Rattle.rpc_machine.specs.Advancing.{wire_target}
use Rattle.rpc_machine.specs.Commands.{counted, request, CallsDirect, CallsBy, CallsThrough, MakesCall}
use Rattle.rpc_machine.specs.Messages.{opened, received_request, TakesCall, TakesUnless}
use Rattle.rpc_machine.specs.Faults.{target_node, is_foreign}
use Rattle.rpc_machine.specs.Steps.{Ends, Does, Handles}
use Rattle.rpc_machine.proofs.Following.{settles_alike}
use Rattle.rpc_machine_examples.specs.SteadyPaths.{called, GoesOutTo}
use Rattle.rpc_machine_examples.proofs.EndOfStep.{AllLetGo, ends_quietly}
use Rattle.finite_maps.proofs.Tested.{equal, get_put}

-- ---- Links of two states

-- A new outcome that is not known yet links nothing.
front : (k : ℕ) (v : KeptOutcome) (e : ℕ × KeptOutcome) (es : List (ℕ × KeptOutcome)) (o : Ordering) → links_of v.value ≡ 0 → cond (is_eq o) (Some e.1) (find nat_cmp k es) ≡ None
    → all_links (put nat_cmp k v es) ≡ all_links es
    → all_links (by_order o ((k, v) ∷ e ∷ es) ((e.0, v) ∷ es) (e ∷ put nat_cmp k v es)) ≡ links_of e.1.value + all_links es
front k v e es Less z free ih = omega arith
front k v e es Equal z free ih = absurd (let h : ◌≡◌ {A = Option KeptOutcome} (Some e.1) None = free in cc)
front k v e es Greater z free ih = omega arith

behind : (k : ℕ) (e : ℕ × KeptOutcome) (es : List (ℕ × KeptOutcome)) (o : Ordering) → cond (is_eq o) (Some e.1) (find nat_cmp k es) ≡ None → find nat_cmp k es ≡ None
behind k e es Less free = free
behind k e es Equal free = absurd (let h : ◌≡◌ {A = Option KeptOutcome} (Some e.1) None = free in cc)
behind k e es Greater free = free

links_put : (k : ℕ) (v : KeptOutcome) (es : List (ℕ × KeptOutcome)) → links_of v.value ≡ 0 → find nat_cmp k es ≡ None → all_links (put nat_cmp k v es) ≡ all_links es
links_put k v [] z free = omega arith
links_put k v (e ∷ es) z free = front k v e es (nat_cmp k e.0) z free (links_put k v es z (behind k e es (nat_cmp k e.0) free))

one_taken : (s : State) (d : Descriptor) → ((take_one s d).promises ≡ s.promises) × ((take_one s d).outcomes ≡ s.outcomes)
one_taken s descriptor.None = (refl, refl)
one_taken s (descriptor.SenderHosted k) = (refl, refl)
one_taken s (descriptor.SenderPromise k) = (refl, refl)
one_taken s (descriptor.ReceiverHosted k) = (refl, refl)
one_taken s (descriptor.ReceiverAnswer q path) = (refl, refl)

each_taken : (s : State) (ds : List Descriptor) → ((take_each s ds).promises ≡ s.promises) × ((take_each s ds).outcomes ≡ s.outcomes)
each_taken s [] = (refl, refl)
each_taken s (d ∷ ds) =
    let a = one_taken s d in
    let b = each_taken (take_one s d) ds in
    (b.0 ∙ a.0, b.1 ∙ a.1)

all_taken : (l : Level) (s : State) (ds : List Descriptor) → ((take_at l s ds).promises ≡ s.promises) × ((take_at l s ds).outcomes ≡ s.outcomes)
all_taken Zero s ds = (refl, refl)
all_taken One s ds = each_taken s ds

-- Where nodes lead once an answer has opened.
module _ (s t : State) (o : ℕ) (x : KeptOutcome) (p : t.promises ≡ s.promises) (w : t.outcomes ≡ map.insert s.outcomes o x) (free : map.get s.outcomes o ≡ None) (unknown : x.value ≡ None) where
  value_same : (k : ℕ) → value_of (map.get t.outcomes k) ≡ value_of (map.get s.outcomes k)
  value_same k = ap (λ (j : _). value_of (map.get j k)) w ∙ ap value_of (get_put s.outcomes o x k) ∙ by (nat_eq k o) refl
    where
      by : (b : Bool) → nat_eq k o ≡ b → value_of (cond b (Some x) (map.get s.outcomes k)) ≡ value_of (map.get s.outcomes k)
      by true h = unknown ∙ sym (ap (λ j. value_of (map.get s.outcomes j)) (equal k o h) ∙ ap value_of free)
      by false h = refl

  link_same : (n : Node) → link t n ≡ link s n
  link_same (node.Object i) = refl
  link_same (node.Promise i) = ap (λ (j : _). link (record s { promises = j }) (node.Promise i)) p
  link_same (node.Field i path) = ap (field_link path) (value_same i)
  link_same (node.Import e) = refl
  link_same (node.Pipe q path) = refl
  link_same (node.Broken reason) = refl

  links_same : links t ≡ links s
  links_same =
      let a : all_links (map.entries t.outcomes) ≡ all_links (map.entries s.outcomes) =
      ap (λ (j : _). all_links (map.entries j)) w ∙ ap all_links (map.entries-insert nat_cmp_total s.outcomes o x) ∙ links_put o x (map.entries s.outcomes) (ap links_of unknown) (sym (map.get-entries s.outcomes o) ∙ free) in
      let b : map.len t.promises ≡ map.len s.promises = ap (λ (j : _). map.len j) p in
      omega arith

  settles_same : (n : Node) → settle t n ≡ settle s n
  settles_same n = settles_alike s t link_same links_same n

-- ---- The call goes out

pub no_calls : (ms : List Message) → AllLetGo ms → called ms ≡ []
no_calls [] h = refl
no_calls (message.Plain (plain.Finish f) ∷ ms) h = no_calls ms h.1
no_calls (message.Plain (plain.Release r) ∷ ms) h = no_calls ms h.1
no_calls (message.Plain (plain.Abort x) ∷ ms) h = absurd h.0
no_calls (message.Plain (plain.Bootstrap k) ∷ ms) h = absurd h.0
no_calls (message.Plain (plain.Call c) ∷ ms) h = absurd h.0
no_calls (message.Plain (plain.Return r) ∷ ms) h = absurd h.0
no_calls (message.Plain (plain.Resolve r) ∷ ms) h = absurd h.0
no_calls (message.Plain (plain.Disembargo x) ∷ ms) h = absurd h.0
no_calls (message.Plain (plain.Other n) ∷ ms) h = absurd h.0
no_calls (message.Unimplemented m ∷ ms) h = absurd h.0

goes_out : (d : Progress) (q : ℕ) (why : Role) (t : Target) (r : Request) (acted : Progress) (x : Effects) (new : State) → d.effects ≡ quiet → d.arisen ≡ [] → Asks d q why t r acted → Ends acted x new → GoesOutTo t x
goes_out d q why t r acted x new silent none h ends =
    let g = h.1 in
    let c : Call = record { question = record { 0 = q }; target = t; interface = r.interface; method = r.method; payload = r.payload; descriptors = g.0; stamp = r.stamp } in
    let k = ends_quietly acted x new ends (ap (λ (p : Progress). p.arisen) g.3 ∙ none) in
    let rest = k.3 in
    let sends : acted.effects.sends ≡ message.Plain (plain.Call c) ∷ [] = ap (λ (p : Progress). p.effects.sends) g.3 ∙ ap (λ (y : Effects). y.sends ++ message.Plain (plain.Call c) ∷ []) silent in
    record {
      sent = ap called (rest.2 ∙ ap (λ ms. ms ++ rest.0) sends) ∙ ap (λ ts. t ∷ ts) (no_calls rest.0 rest.1);
      not_here = k.1 ∙ ap (λ (p : Progress). p.effects.deliveries) g.3 ∙ ap (λ (y : Effects). y.deliveries) silent;
    }

same_target : (a b : Target) → Some a ≡ Some b → a ≡ b
same_target a b h = cc

no_target : (t : Target) → ◌≡◌ {A = Option Target} None (Some t) → ⊥
no_target t h = cc

-- At a wire a call is relayed.
relays : (d : Progress) (w : WaitingCall) (n : Node) (t : Target) (new : Progress) → wire_target n ≡ Some t → RoutedTo d w n new → Relays d w t new
relays d w (node.Object o) t new e h = absurd (no_target t e)
relays d w (node.Promise p) t new e h = absurd (no_target t e)
relays d w (node.Field o path) t new e h = absurd (no_target t e)
relays d w (node.Import i) t new e h = subst (λ (a : Target). Relays d w a new) (same_target (ImportedCap i) t e) h
relays d w (node.Pipe q path) t new e h = subst (λ (a : Target). Relays d w a new) (same_target (PromisedAnswer q path) t e) h
relays d w (node.Broken reason) t new e h = absurd (no_target t e)

directs : (d : Progress) (c : ℕ) (r : Request) (head n : Node) (t : Target) (new : Progress) → wire_target n ≡ Some t → CallsBy d c r head n new → CallsDirect d c r t new
directs d c r head (node.Object o) t new e h = absurd (no_target t e)
directs d c r head (node.Promise p) t new e h = absurd (no_target t e)
directs d c r head (node.Field o path) t new e h = absurd (no_target t e)
directs d c r head (node.Import i) t new e h = subst (λ (a : Target). CallsDirect d c r a new) (same_target (ImportedCap i) t e) h
directs d c r head (node.Pipe q path) t new e h = subst (λ (a : Target). CallsDirect d c r a new) (same_target (PromisedAnswer q path) t e) h
directs d c r head (node.Broken reason) t new e h = absurd (no_target t e)

understood : (l : Level) (c : Call) → is_foreign l (plain.Call c) ≡ false
understood Zero c = refl
understood One c = refl

pub call_received : (s : State) (c : Call) (x : Effects) (new : State) (t : Target) → Handles s (message.Plain (plain.Call c)) x new → wire_target (settle s (target_node s c.target)) ≡ Some t → GoesOutTo t x
call_received s c x new t h e =
    let a : TakesCall (begin s) c h.taken = subst (λ (b : Bool). TakesUnless b (begin s) (plain.Call c) h.taken) (understood s.level c) h.takes in
    let taken : State = take_all s c.descriptors in
    let same = all_taken s.level s c.descriptors in
    let u : State = opened taken c.question.0 a.0 (taken_of s c.descriptors) in
    let y : KeptOutcome = record { caller = caller.Peer (record { 0 = c.question.0 }); value = None; waiting = [] } in
    let w : WaitingCall = record { request = received_request s c; outcome = a.0 } in
    let f : settle u (target_node s c.target) ≡ settle s (target_node s c.target) = settles_same s u a.0 y same.0 (ap (λ (j : _). map.insert j a.0 y) same.1) a.1 refl (target_node s c.target) in
    let r : Relays (with_state (begin s) u) w t h.taken = relays (with_state (begin s) u) w (settle u (target_node s c.target)) t h.taken (ap wire_target f ∙ e) a.2 in
    goes_out (with_state (begin s) u) r.0 (role.Relay a.0) t (received_request s c) h.taken x new refl refl r.1 h.ends

counted_link : (s : State) (k : ℕ) (y : Reference) (n : Node) → link (counted s k y) n ≡ link s n
counted_link s k y (node.Object o) = refl
counted_link s k y (node.Promise p) = refl
counted_link s k y (node.Field o path) = refl
counted_link s k y (node.Import e) = refl
counted_link s k y (node.Pipe q path) = refl
counted_link s k y (node.Broken reason) = refl

pub call_made : (s : State) (c : CallCommand) (g : Granted) (x : Effects) (new : State) (y : Reference) (t : Target) → Does s (command.Call c) g x new → map.get s.refs c.reference.0 ≡ Some y → y.embargo ≡ None → wire_target (settle s y.head) ≡ Some t → GoesOutTo t x
call_made s c g x new y t h there free e =
    let a : MakesCall (begin s) c (Some y) g h.acted = subst (λ (o : Option Reference). MakesCall (begin s) c o g h.acted) there h.acts in
    let u : State = counted s c.reference.0 y in
    let d : Progress = with_state (begin s) u in
    let b : CallsBy d s.next_call (request s c y) y.head (settle u y.head) h.acted = subst (λ (o : Option EmbargoId). CallsThrough d s.next_call (request s c y) y.head o h.acted) free a.1 in
    let f : settle u y.head ≡ settle s y.head = settles_alike s u (counted_link s c.reference.0 y) refl y.head in
    let r : CallsDirect d s.next_call (request s c y) t h.acted = directs d s.next_call (request s c y) y.head (settle u y.head) t h.acted (ap wire_target f ∙ e) b in
    goes_out (with_state d (record (d.state) { calls = map.insert d.state.calls s.next_call (own.Direct (record { 0 = r.0 })) })) r.0 (role.Direct (record { 0 = s.next_call })) t (request s c y) h.acted x new refl refl r.1 h.ends
