-- References and embargoes change: it is still so in the middle of the step.
use Rattle.std.specs.FinMap as map
use Rattle.std.proofs.Common.{◌≡◌, ℕ, zero, suc, List, Option, None, Some, IsSome, refl, sym, subst, ◌∙◌}
use Rattle.finite_maps.specs.Tally.{Map}
use Rattle.rpc_msg.specs.declared.ids.EmbargoId.{EmbargoId}
use Rattle.rpc_msg.specs.declared.message.Message.{Message}
use Rattle.rpc_machine.specs.declared.entries.Embargo.{Embargo}
use Rattle.rpc_machine.specs.declared.entries.Reference.{Reference}
use Rattle.rpc_machine.specs.declared.node.Node.{Node}
use Rattle.rpc_machine.specs.declared.node.Node.TheVariants as node
use Rattle.rpc_machine.specs.State.{State}
use Rattle.rpc_machine.specs.Nodes.{link}
use Rattle.rpc_machine.specs.Laws as machine
use Rattle.laws_steps.specs.Settled.{IsThere}
use Rattle.laws_routes.specs.MakingLaws.{EmbargoIsThere}
use Rattle.laws_routes.specs.Premises.{EachLoop, IsOnlyEmbargo}
use Rattle.laws_routes.specs.Sides.{IsEmbargoOf}
use Rattle.laws_routes.specs.Midway.{CallsAreHeld, IsHeld, Midway}
use Rattle.laws_routes.proofs.MidwayKept.{calls_still, held_still}

-- ---- Embargoes

-- The only embargo of a reference, by what its entry says.
only_of : (s : State) (e r : ℕ) → IsOnlyEmbargo s e r → (k : ℕ) → IsEmbargoOf r (map.get s.embargoes k) → k ≡ e
only_of s e r only k i = by (map.get s.embargoes k) refl i
  where
    by : (o : Option Embargo) → map.get s.embargoes k ≡ o → IsEmbargoOf r o → k ≡ e
    by None f j = absurd j
    by (Some b) f j = only k b f j

-- The same embargoes are of the reference r.
pub pairs_as : (s t : State) (r : ℕ) → ((k : ℕ) → IsEmbargoOf r (map.get s.embargoes k) → IsEmbargoOf r (map.get t.embargoes k)) → ((k : ℕ) → IsEmbargoOf r (map.get t.embargoes k) → IsEmbargoOf r (map.get s.embargoes k)) → (e : Option EmbargoId)
    → EmbargoIsThere s r e → EmbargoIsThere t r e
pairs_as s t r on off None i = tt
pairs_as s t r on off (Some e) i = (on e.0 i.0, λ k b f j. only_of s e.0 r i.1 k (off k (subst (IsEmbargoOf r) (sym f) j)))

-- ---- The whole

-- Neither references, embargoes nor numbers of promises are of account to links.
module _ (s : State) (R : Map Reference) (B : Map Embargo) (U : Map ℕ) (a : ℕ) where
  abbrev t : State
  t = record s { refs = R; embargoes = B; unsettled = U; next_promise = a }

  pub held : (n : Node) → IsHeld s n → IsHeld t n
  held (node.Object o) i = i
  held (node.Promise p) i = i
  held (node.Field o path) i = i
  held (node.Import e) i = i
  held (node.Pipe q path) i = i
  held (node.Broken reason) i = i

  there : (n : Node) → IsThere t n → IsThere s n
  there (node.Object o) i = i
  there (node.Promise p) i = i
  there (node.Field o path) i = i
  there (node.Import e) i = i
  there (node.Pipe q path) i = i
  there (node.Broken reason) i = i

  same_link : (n : Node) → link t n ≡ link s n
  same_link (node.Object o) = refl
  same_link (node.Promise p) = refl
  same_link (node.Field o path) = refl
  same_link (node.Import e) = refl
  same_link (node.Pipe q path) = refl
  same_link (node.Broken reason) = refl

  stops : (d : ℕ) (n : Node) → machine.Stops s d n → machine.Stops t d n
  stops zero n e = same_link n ∙ e
  stops (suc d) n e = (e.0, same_link n ∙ e.1, stops d e.0 e.2)

  pub turned : (other : State) (out back : List Message) → Midway s other out back → ((r : ℕ) (x : Reference) → map.get R r ≡ Some x → IsHeld s x.head) → ((e : ℕ) (b : Embargo) → map.get B e ≡ Some b → IsHeld s b.node)
      → ((e : ℕ) (b : Embargo) → map.get B e ≡ Some b → CallsAreHeld s b.waiting) → ((r : ℕ) (x : Reference) → map.get R r ≡ Some x → EmbargoIsThere t r x.embargo)
      → EachLoop (λ e. IsSome (map.get B e)) (λ e. Unit {0}) out → EachLoop (λ e. Unit {0}) (λ e. IsSome (map.get B e)) back → Midway t other out back
  turned other out back h heads nodes keeps paired sent echoed = record {
    stop = λ m. (let a = h.stop m in (a.0, stops a.0 m a.1));
    links = λ m k i e. held k (h.links m k (there m i) (sym (same_link m) ∙ e));
    heads = λ r x e. held x.head (heads r x e);
    embargoes = λ e b i. held b.node (nodes e b i);
    resolved = λ e said to a. held to (h.resolved e said to a);
    returned = λ q path said to a. held to (h.returned q path said to a);
    waits = λ p cs e. calls_still s t held cs (h.waits p cs e);
    holds = λ o x e. held_still s t held x.waiting (h.holds o x e);
    keeps = λ e b i. calls_still s t held b.waiting (keeps e b i);
    paired = paired;
    exports = λ e x f. (let a = h.exports e x f in (a.0, held x.node a.1));
    theirs = h.theirs;
    imported = h.imported;
    answers = h.answers;
    pending = h.pending;
    awaited = h.awaited;
    opens = h.opens;
    returns = h.returns;
    answered = h.answered;
    met = h.met;
    named = h.named;
    sent = sent;
    echoed = echoed;
  }
