-- A promise is fixed: it is still so in the middle of the step.
use Rattle.std.specs.FinMap as map
use Rattle.std.proofs.Common.{◌≡◌, ℕ, false, List, ◌++◌, Option, None, Some, IsSome, refl, sym, subst, ◌∙◌}
use Rattle.finite_maps.specs.Tally.{Map}
use Rattle.finite_maps.proofs.Gets.{get-insert_same}
use Rattle.finite_maps.proofs.Tested.{at_put}
use Rattle.rpc_msg.specs.declared.exception.Exception.{Exception}
use Rattle.rpc_msg.specs.declared.ids.EmbargoId.{EmbargoId}
use Rattle.rpc_msg.specs.declared.message.Message.{Message}
use Rattle.rpc_machine.specs.declared.calls.Promise.{Promise}
use Rattle.rpc_machine.specs.declared.calls.Promise.TheVariants as promise
use Rattle.rpc_machine.specs.declared.calls.WaitingCall.{WaitingCall}
use Rattle.rpc_machine.specs.declared.node.Node.{Node}
use Rattle.rpc_machine.specs.declared.node.Node.TheVariants as node
use Rattle.rpc_machine.specs.State.{State}
use Rattle.rpc_machine.specs.Nodes.{is_promise, link, promise_link, settle}
use Rattle.rpc_machine.specs.Progress.{Progress}
use Rattle.rpc_machine.specs.Settling.{FixesFrom}
use Rattle.laws_nodes.specs.Settling.{fixed}
use Rattle.laws_nodes.proofs.Stopping.{fixed_stops, same}
use Rattle.laws_steps.specs.Settled.{IsThere}
use Rattle.laws_routes.specs.Laws.{MayFix, fixing}
use Rattle.laws_routes.specs.MakingLaws.{EmbargoIsThere}
use Rattle.laws_routes.specs.OutcomeLaws.{MayFixFrom}
use Rattle.laws_routes.specs.Ties.{Around}
use Rattle.laws_routes.specs.Midway.{CallsAreHeld, IsHeld, Midway, MidwayAt}
use Rattle.laws_routes.proofs.FromMidway.{at_end, links_rest}
use Rattle.laws_routes.proofs.MidwayKept.{calls_still, held_more, held_still}
use Rattle.laws_routes.proofs.MidwayRouted.{all_may_go}
use Rattle.laws_routes.proofs.MidwaySaid.{all_may_send}

module _ (s other : State) (out back : List Message) (h : Midway s other out back) (p : ℕ) (cs : List WaitingCall) (to : Node) (is_open : map.get s.promises p ≡ Some (promise.Open cs)) (i : IsHeld s to) (far : is_promise p (settle s to) ≡ false) where
  abbrev P : Map Promise
  P = map.insert s.promises p (promise.Fixed to)

  abbrev t : State
  t = fixed s p to

  held : (n : Node) → IsHeld s n → IsHeld t n
  held n j = held_more s s.refs P s.outcomes s.calls s.tasks s.next_ref s.next_call s.next_task (at_put (λ k z. IsSome (map.get s.promises k) → IsSome z) s.promises p (promise.Fixed to) (λ j. refl) (λ k n j. j)) (λ o j. j) n j

  leads_held : (m k : Node) → IsThere t m → link t m ≡ Some k → IsHeld t k
  leads_held (node.Object o) k j e = let a : None ≡ Some k = e in cc
  leads_held (node.Promise q) k j e =
      at_put (λ q z. IsSome z → promise_link z ≡ Some k → IsHeld t k) s.promises p (promise.Fixed to) (λ j e. (let a : Some to ≡ Some k = e in let b : to ≡ k = cc in subst (IsHeld t) b (held to i))) (λ q n j e. held k (h.links (node.Promise q) k j e)) q j e
  leads_held (node.Field o path) k j e = held k (h.links (node.Field o path) k j e)
  leads_held (node.Import x) k j e = let a : None ≡ Some k = e in cc
  leads_held (node.Pipe q path) k j e = let a : None ≡ Some k = e in cc
  leads_held (node.Broken reason) k j e = let a : None ≡ Some k = e in cc

  embargo : (r : ℕ) (e : Option EmbargoId) → EmbargoIsThere s r e → EmbargoIsThere t r e
  embargo r None j = tt
  embargo r (Some e) j = j

  is_fixed : Midway t other out back
  is_fixed = record {
    stop = fixed_stops s p to (subst (λ (z : Option Promise). promise_link z ≡ None) (sym is_open) refl) far h.stop;
    links = leads_held;
    heads = λ r x e. held x.head (h.heads r x e);
    embargoes = λ e b j. held b.node (h.embargoes e b j);
    resolved = λ e said k a. held k (h.resolved e said k a);
    returned = λ q path said k a. held k (h.returned q path said k a);
    waits = λ q ds e. calls_still s t held ds (at_put (λ q z. (ds : List WaitingCall) → z ≡ Some (promise.Open ds) → CallsAreHeld s ds) s.promises p (promise.Fixed to) (λ ds e. (let a : promise.Fixed to ≡ promise.Open ds = cc in cc)) (λ q n ds e. h.waits q ds e) q ds e);
    holds = λ o x e. held_still s t held x.waiting (h.holds o x e);
    keeps = λ e b j. calls_still s t held b.waiting (h.keeps e b j);
    paired = λ r x e. embargo r x.embargo (h.paired r x e);
    exports = λ e x f. (let a = h.exports e x f in (a.0, held x.node a.1));
    theirs = h.theirs;
    imported = h.imported;
    answers = h.answers;
    pending = h.pending;
    awaited = h.awaited;
    opens = h.opens;
    returns = h.returns;
    answered = h.answered;
    met = h.met;
    named = h.named;
    sent = h.sent;
    echoed = h.echoed;
  }

pub may_fix : (w : Around) (d : Progress) (p : ℕ) (to : Node) (reason : Option Exception) (z : Option Promise) (new : Progress) → map.get d.state.promises p ≡ z → MidwayAt w d → IsHeld d.state to → is_promise p (settle d.state to) ≡ false
    → (h : FixesFrom d p to reason z new) → MayFixFrom w d p to reason z new h × MidwayAt w new
may_fix w d p to reason None new e m i far h = absurd h
may_fix w d p to reason (Some (promise.Fixed before)) new e m i far h = absurd h
may_fix w d p to reason (Some (promise.Open cs)) new e m i far h =
    let s = d.state in
    let out = w.out ++ d.effects.sends in
    let one : MidwayAt w (fixing d p to) = is_fixed s w.other out w.back m p cs to e i far in
    let there : IsSome (map.get (map.insert s.promises p (promise.Fixed to)) p) = subst (λ (o : Option Promise). IsSome o) (sym (get-insert_same s.promises p (promise.Fixed to))) refl in
    let routed = all_may_go w (fixing d p to) cs (node.Promise p) h.0 one (there, tt) (calls_still s (fixed s p to) (held s w.other out w.back m p cs to e i far) cs (m.waits p cs e)) h.1 in
    let said = all_may_send w h.0 reason (is_promise p) new routed.1 h.2 in
    let may : MayFix s p to = record { no_circle = far; rest = links_rest s w.other out w.back m; there = λ own. i.0; there_too = (let a = at_end s w.other out w.back m to i in let b = a.0 in b.0) } in
    ((may, routed.0, said.0), said.1)

-- ---- The application settles a promise of its own

module _ (s : State) (U : Map ℕ) where
  abbrev u : State
  u = record s { unsettled = U }

  pub as_held : (n : Node) → IsHeld s n → IsHeld u n
  as_held (node.Object o) i = i
  as_held (node.Promise p) i = i
  as_held (node.Field o path) i = i
  as_held (node.Import e) i = i
  as_held (node.Pipe q path) i = i
  as_held (node.Broken reason) i = i

  there : (n : Node) → IsThere u n → IsThere s n
  there (node.Object o) i = i
  there (node.Promise p) i = i
  there (node.Field o path) i = i
  there (node.Import e) i = i
  there (node.Pipe q path) i = i
  there (node.Broken reason) i = i

  pub as_linked : (n : Node) → link u n ≡ link s n
  as_linked (node.Object o) = refl
  as_linked (node.Promise p) = refl
  as_linked (node.Field o path) = refl
  as_linked (node.Import e) = refl
  as_linked (node.Pipe q path) = refl
  as_linked (node.Broken reason) = refl

  as_paired : (r : ℕ) (e : Option EmbargoId) → EmbargoIsThere s r e → EmbargoIsThere u r e
  as_paired r None i = tt
  as_paired r (Some e) i = i

  pub unsettled_still : (other : State) (out back : List Message) → Midway s other out back → Midway u other out back
  unsettled_still other out back h = record {
    stop = (let a = same s u as_linked h.stop in a.0);
    links = λ m k i e. as_held k (h.links m k (there m i) (sym (as_linked m) ∙ e));
    heads = λ r x e. as_held x.head (h.heads r x e);
    embargoes = λ e b i. as_held b.node (h.embargoes e b i);
    resolved = λ e said to a. as_held to (h.resolved e said to a);
    returned = λ q path said to a. as_held to (h.returned q path said to a);
    waits = λ p cs e. calls_still s u as_held cs (h.waits p cs e);
    holds = λ o x e. held_still s u as_held x.waiting (h.holds o x e);
    keeps = λ e b i. calls_still s u as_held b.waiting (h.keeps e b i);
    paired = λ r x e. as_paired r x.embargo (h.paired r x e);
    exports = λ e x f. (let a = h.exports e x f in (a.0, as_held x.node a.1));
    theirs = h.theirs;
    imported = h.imported;
    answers = h.answers;
    pending = h.pending;
    awaited = h.awaited;
    opens = h.opens;
    returns = h.returns;
    answered = h.answered;
    met = h.met;
    named = h.named;
    sent = h.sent;
    echoed = h.echoed;
  }
