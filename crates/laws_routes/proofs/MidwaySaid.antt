-- Resolves are sent: it is still so in the middle of the step.
use Rattle.std.specs.FinMap as map
use Rattle.std.specs.FinMap.Entries as entries
use Rattle.std.specs.Ordering.{nat_cmp}
use Rattle.std.proofs.Common.{◌≡◌, ℕ, Bool, nat_eq, true, false, cond, List, [], ◌∷◌, ◌++◌, append_assoc, Option, None, Some, IsSome, refl, sym, ap, subst, ◌∙◌, T}
use Rattle.finite_maps.proofs.Sorted.{behind, first_entry, later_entry, sorted_tail}
use Rattle.rpc_msg.specs.declared.exception.Exception.{Exception}
use Rattle.rpc_msg.specs.declared.message.Message.{Message}
use Rattle.rpc_msg.specs.declared.message.Message.TheVariants as message
use Rattle.rpc_msg.specs.declared.message.ResolvedTo.{ResolvedTo}
use Rattle.rpc_msg.specs.declared.message.ResolvedTo.TheVariants as resolved
use Rattle.rpc_machine.specs.declared.entries.Export.{Export}
use Rattle.rpc_machine.specs.declared.node.Node.{Node}
use Rattle.rpc_machine.specs.declared.node.Node.TheVariants as node
use Rattle.rpc_machine.specs.State.{State}
use Rattle.rpc_machine.specs.Nodes.{link, settle}
use Rattle.rpc_machine.specs.Descriptors.{Described}
use Rattle.rpc_machine.specs.Progress.{Progress, send, with_state}
use Rattle.rpc_machine.specs.Settling.{exports_where, or_failed, ResolvesTo, ResolvesBy, ResolvesEach, SendsResolves, resolve_message}
use Rattle.laws_routes.specs.Named.{AllMet}
use Rattle.laws_routes.specs.Premises.{EachLoop, OpenOf}
use Rattle.laws_routes.specs.Sayings.{Has, has_of}
use Rattle.laws_routes.specs.SayingLaws.{AllMaySend, MaySend}
use Rattle.laws_routes.specs.Ties.{Around}
use Rattle.laws_routes.specs.Midway.{IsHeld, Midway, MidwayAt}
use Rattle.laws_routes.proofs.ExportsGrown.{Exports, Grown, described, none_new}
use Rattle.laws_routes.proofs.FromMidway.{at_end, may_send}
use Rattle.laws_routes.proofs.MidwayRouted.{described_still, held_exports, loops_more, met_more, opens_more}
use Rattle.laws_routes.proofs.WhereNodesEnd.{settles_here}

-- One more message goes out.
pub goes_out : (s other : State) (out back : List Message) (m : Message) → Midway s other out back → ((P : ℕ → Type 0) → OpenOf P m) → ((has : Has) → AllMet s.exports other.exports has (m ∷ []))
    → EachLoop (λ e. IsSome (map.get s.embargoes e)) (λ e. Unit {0}) (m ∷ []) → Midway s other (out ++ m ∷ []) back
goes_out s other out back m h asked met loop = record {
  stop = h.stop;
  links = h.links;
  heads = h.heads;
  embargoes = h.embargoes;
  resolved = h.resolved;
  returned = h.returned;
  waits = h.waits;
  holds = h.holds;
  keeps = h.keeps;
  paired = h.paired;
  exports = h.exports;
  theirs = h.theirs;
  imported = h.imported;
  answers = h.answers;
  pending = h.pending;
  awaited = h.awaited;
  opens = opens_more _ out m h.opens (asked (λ q. IsSome (map.get s.questions q)));
  returns = h.returns;
  answered = λ q x e i. (let a = h.answered q x e i in (opens_more _ out m a.0 (asked (λ k. nat_eq k q ≡ false)), a.1));
  met = h.met;
  named = (met_more s.exports other.exports (has_of [] other.imports other.questions) out m h.named.0 met, let a = h.named in a.1);
  sent = loops_more _ _ out m h.sent loop;
  echoed = h.echoed;
}

-- ---- One Resolve

abbrev IsExport : State → ℕ → Node → Type 0
IsExport s e n = (y : Export) × (map.get s.exports e ≡ Some y) × (y.node ≡ n)

export_there : (s : State) (e : ℕ) (n : Node) → IsExport s e n → IsSome (map.get s.exports e)
export_there s e n i = subst (λ (o : Option Export). IsSome o) (sym i.1) refl

-- The exports are as before, or more.
export_still : (s t : State) → Exports s t → (e : ℕ) (n : Node) → IsExport s e n → IsExport t e n
export_still s t g e n i =
    let grows : Grown s.exports g.0 = g.2 in
    let y = grows.still e i.0 i.1 in
    (y.0, ap (λ (z : State). map.get z.exports e) g.1 ∙ y.1, y.2 ∙ i.2)

module _ (w : Around) (d : Progress) (e : ℕ) (reason : Option Exception) (k : Node) (h : MidwayAt w d) (i : IsExport d.state e k) (held : IsHeld d.state k) where
  abbrev out : List Message
  out = w.out ++ d.effects.sends

  -- As it stands among what was sent.
  as_sent : (t : State) (to : ResolvedTo) → Midway t w.other (out ++ message.Plain (resolve_message e to) ∷ []) w.back → MidwayAt w (send (with_state d t) (resolve_message e to))
  as_sent t to m = subst (λ (ms : List Message). Midway t w.other ms w.back) (append_assoc w.out d.effects.sends (message.Plain (resolve_message e to) ∷ [])) m

  by_capability : (n : Node) (new : Progress) → settle d.state k ≡ n → ResolvesTo d e n new → MidwayAt w new × Exports d.state new.state
  by_capability n new is a =
      let c = a.0 in
      let mid = a.1 in
      let stands : IsHeld d.state n × (link d.state n ≡ None) = subst (λ (z : Node). IsHeld d.state z × (link d.state z ≡ None)) is (at_end d.state w.other out w.back h k held) in
      let made : Described d.state n c mid = subst (λ (z : Node). Described d.state z c mid) (settles_here d.state n stands.1) a.2 in
      let grown = described d.state n c mid made in
      let one = described_still d.state w.other out w.back h n c mid stands.0 made in
      let there = export_there mid e k (export_still d.state mid grown e k i) in
      let more = goes_out mid w.other out w.back (message.Plain (resolve_message e (resolved.Cap c))) one.0 (λ P. tt) (λ has. ((one.1, tt), λ j. there, tt)) tt in
      subst (λ (z : Progress). MidwayAt w z × Exports d.state z.state) (sym a.3) (as_sent mid (resolved.Cap c) more, grown)

  resolved_by : (n : Node) (new : Progress) → settle d.state k ≡ n → ResolvesBy d e reason n new → MidwayAt w new × Exports d.state new.state
  resolved_by (node.Object o) new is a = by_capability (node.Object o) new is a
  resolved_by (node.Promise p) new is a = by_capability (node.Promise p) new is a
  resolved_by (node.Field o path) new is a = by_capability (node.Field o path) new is a
  resolved_by (node.Import j) new is a = by_capability (node.Import j) new is a
  resolved_by (node.Pipe q path) new is a = by_capability (node.Pipe q path) new is a
  resolved_by (node.Broken why) new is a =
      let s = d.state in
      let there = export_there s e k i in
      let to : ResolvedTo = resolved.Exception (or_failed reason why) in
      let more = goes_out s w.other out w.back (message.Plain (resolve_message e to)) h (λ P. tt) (λ has. (tt, λ j. there, tt)) tt in
      subst (λ (z : Progress). MidwayAt w z × Exports s z.state) (sym a) (as_sent s to more, none_new s)

-- ---- All

abbrev AllExports : State → List (ℕ × Node) → Type 0
AllExports s [] = Unit {0}
AllExports s (x ∷ xs) = IsExport s x.0 x.1 × AllExports s xs

all_exports_still : (s t : State) → Exports s t → (xs : List (ℕ × Node)) → AllExports s xs → AllExports t xs
all_exports_still s t g [] h = tt
all_exports_still s t g (x ∷ xs) h = (export_still s t g x.0 x.1 h.0, all_exports_still s t g xs h.1)

each : (w : Around) (d : Progress) (reason : Option Exception) (xs : List (ℕ × Node)) (new : Progress) → MidwayAt w d → AllExports d.state xs → (h : ResolvesEach d reason xs new) → AllMaySend w d reason xs new h × MidwayAt w new × Exports d.state new.state
each w d reason [] new m i h =
    let a = subst (λ (z : Progress). MidwayAt w z × Exports d.state z.state) (sym h) (m, none_new d.state) in
    (tt, a.0, a.1)
each w d reason (x ∷ xs) new m i h =
    let y : Export = i.0.0 in
    let is : y.node ≡ x.1 = i.0.2 in
    let own = m.exports x.0 y i.0.1 in
    let held : IsHeld d.state x.1 = subst (IsHeld d.state) is own.1 in
    let one = resolved_by w d x.0 reason x.1 m i.0 held (settle d.state x.1) h.0 refl h.1 in
    let rest = each w h.0 reason xs new one.0 (all_exports_still d.state h.0.state one.1 xs i.1) h.2 in
    ((subst (MaySend w d x.0) is (may_send w d m x.0 y i.0.1), rest.0), rest.1, chained d.state h.0.state new.state one.1 rest.2)
  where
    chained : (s t u : State) → Exports s t → Exports t u → Exports s u
    chained s t u g k =
        let G : Grown s.exports g.0 = g.2 in
        let K : Grown t.exports k.0 = k.2 in (
          k.0,
          k.1 ∙ ap (λ (z : State). record z { exports = k.0 }) g.1,
          record { still = λ e x f. let y = G.still e x f in let z = K.still e y.0 (ap (λ (a : State). map.get a.exports e) g.1 ∙ y.1) in (z.0, z.1, z.2 ∙ y.2) },
        )

listed : (s : State) (test : Node → Bool) (es : List (ℕ × Export)) → T (entries.is_sorted nat_cmp es) → ((e : ℕ) (y : Export) → entries.find nat_cmp e es ≡ Some y → map.get s.exports e ≡ Some y) → AllExports s (exports_where test es)
listed s test [] o f = tt
listed s test (x ∷ xs) o f =
    let k = sorted_tail x.0 xs o in
    by (f x.0 x.1 (first_entry x xs)) (listed s test xs k.1 (λ e y g. f e y (later_entry x xs e (behind x.0 xs e y k.0 g) ∙ g))) (test x.1.node)
  where
    by : map.get s.exports x.0 ≡ Some x.1 → AllExports s (exports_where test xs) → (t : Bool) → AllExports s (cond t ((x.0, x.1.node) ∷ exports_where test xs) (exports_where test xs))
    by at r true = ((x.1, at, refl), r)
    by at r false = r

all_sent : (w : Around) (d : Progress) (reason : Option Exception) (test : Node → Bool) (new : Progress) → MidwayAt w d → (h : SendsResolves d reason test new)
    → AllMaySend w d reason (exports_where test (map.entries d.state.exports)) new h × MidwayAt w new × Exports d.state new.state
all_sent w d reason test new m h =
    let E = d.state.exports in
    each w d reason (exports_where test (map.entries E)) new m (listed d.state test (map.entries E) (map.entries_sorted E) (λ e y f. map.get-entries E e ∙ f)) h

pub all_may_send : (w : Around) (d : Progress) (reason : Option Exception) (test : Node → Bool) (new : Progress) → MidwayAt w d → (h : SendsResolves d reason test new)
    → AllMaySend w d reason (exports_where test (map.entries d.state.exports)) new h × MidwayAt w new
all_may_send w d reason test new m h = let a = all_sent w d reason test new m h in (a.0, a.1)

-- What was held is so behind them.
pub held_behind_resolves : (w : Around) (d : Progress) (reason : Option Exception) (test : Node → Bool) (new : Progress) → MidwayAt w d → SendsResolves d reason test new → (n : Node) → IsHeld d.state n → IsHeld new.state n
held_behind_resolves w d reason test new m h n i =
    let g = (all_sent w d reason test new m h).2 in
    subst (λ (z : State). IsHeld z n) (sym g.1) (held_exports d.state g.0 n i)
