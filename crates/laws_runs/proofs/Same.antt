-- What leaves the tables of questions and answers as they are and opens no outcome; and of that, what leaves imports and
-- exports as they are.
use Rattle.std.proofs.Common.{◌≡◌, ℕ, Bool, true, false, cond, nat_eq, List, [], ◌∷◌, ◌++◌, Option, None, Some, refl, ap, subst, ◌∙◌}
use Rattle.std.specs.FinMap as map
use Rattle.rpc_msg.specs.declared.parts.Descriptor.{Descriptor}
use Rattle.rpc_msg.specs.declared.exception.Exception.{Exception}
use Rattle.rpc_msg.specs.declared.message.ReturnBody.{ReturnBody}
use Rattle.rpc_msg.specs.declared.message.ResolvedTo.{ResolvedTo}
use Rattle.rpc_msg.specs.declared.message.PlainMessage.TheVariants as plain
use Rattle.rpc_msg.specs.declared.message.Message.TheVariants as message
use Rattle.finite_maps.proofs.Tested.{get_put, get_other, get_cut, get_left}
use Rattle.finite_maps.specs.Tally.{Map}
use Rattle.rpc_machine.specs.declared.node.Node.{Node}
use Rattle.rpc_machine.specs.declared.node.Node.TheVariants as node
use Rattle.rpc_machine.specs.declared.calls.HeldCall.{HeldCall}
use Rattle.rpc_machine.specs.declared.calls.Value.{Value}
use Rattle.rpc_machine.specs.declared.calls.Caller.{Caller}
use Rattle.rpc_machine.specs.declared.entries.Export.{Export}
use Rattle.rpc_machine.specs.State.{State}
use Rattle.rpc_machine.specs.Nodes.{settle}
use Rattle.rpc_machine.specs.Progress.{Progress, with_refs, caps_of, export_id}
use Rattle.rpc_machine.specs.Descriptors.{Described, DescribesAll, take_all}
use Rattle.rpc_machine.specs.Collecting.{Goes, PromiseGoes, OutcomeGoes, ImportGoes, Collects, Tight, Loose}
use Rattle.rpc_machine.specs.Flags.{give_back, obey}
use Rattle.rpc_machine.specs.Settling.{known, Fits, TellsCall, SaysBack, ResolvesBy}
use Rattle.rpc_machine.specs.declared.entries.Import.{Import}
use Rattle.rpc_machine.specs.Messages.{take_resolve}
use Rattle.rpc_machine.specs.declared.calls.KeptOutcome.{KeptOutcome}
use Rattle.rpc_machine.specs.declared.calls.OwnCall.{OwnCall}
use Rattle.rpc_machine.specs.declared.calls.Promise.{Promise}
use Rattle.rpc_machine.specs.declared.entries.Reference.{Reference}
use Rattle.laws_steps.specs.Callers.{IsOpenFor}
use Rattle.laws_acts.specs.Sent.{resolved_to}
use Rattle.laws_acts.proofs.Alone as alone

pub record SameTables (s t : State) : Type 0 where
  pub questions : t.questions ≡ s.questions
  pub answers : t.answers ≡ s.answers
  pub level : t.level ≡ s.level
  pub opens : (o q : ℕ) → IsOpenFor q (map.get t.outcomes o) → IsOpenFor q (map.get s.outcomes o)

-- And imports as well.
pub record SameIds (s t : State) : Type 0 where
  pub tables : SameTables s t
  pub imports : t.imports ≡ s.imports

-- And exports.
pub record SameCounts (s t : State) : Type 0 where
  pub ids : SameIds s t
  pub exports : t.exports ≡ s.exports

pub same_tables : (s : State) → SameTables s s
same_tables s = record { questions = refl; answers = refl; level = refl; opens = λ o q h. h }

pub same_ids : (s : State) → SameIds s s
same_ids s = record { tables = same_tables s; imports = refl }

pub same_counts : (s : State) → SameCounts s s
same_counts s = record { ids = same_ids s; exports = refl }

pub then_tables : (s t u : State) → SameTables s t → SameTables t u → SameTables s u
then_tables s t u h k = record { questions = k.questions ∙ h.questions; answers = k.answers ∙ h.answers; level = k.level ∙ h.level; opens = λ o q i. h.opens o q (k.opens o q i) }

pub then_ids : (s t u : State) → SameIds s t → SameIds t u → SameIds s u
then_ids s t u h k = record { tables = then_tables s t u h.tables k.tables; imports = k.imports ∙ h.imports }

pub then_counts : (s t u : State) → SameCounts s t → SameCounts t u → SameCounts s u
then_counts s t u h k = record { ids = then_ids s t u h.ids k.ids; exports = k.exports ∙ h.exports }

-- Only exports change.
only_exports : (s new : State) (m : Map Export) → new ≡ record s { exports = m } → SameIds s new
only_exports s new m h = rw h (record { tables = record { questions = refl; answers = refl; level = refl; opens = λ o q i. i }; imports = refl })

only_imports : (s new : State) (m : Map Import) → new ≡ record s { imports = m } → SameTables s new
only_imports s new m h = rw h (record { questions = refl; answers = refl; level = refl; opens = λ o q i. i })

only_promises : (s new : State) (m : Map Promise) → new ≡ record s { promises = m } → SameCounts s new
only_promises s new m h = rw h (record { ids = record { tables = record { questions = refl; answers = refl; level = refl; opens = λ o q i. i }; imports = refl }; exports = refl })

only_refs : (s new : State) (m : Map Reference) (n : ℕ) → new ≡ record s { refs = m; next_ref = n } → SameCounts s new
only_refs s new m n h = rw h (record { ids = record { tables = record { questions = refl; answers = refl; level = refl; opens = λ o q i. i }; imports = refl }; exports = refl })

-- ---- What is described

pub describes_all : (s : State) (ns : List Node) (ds : List Descriptor) (new : State) → DescribesAll s ns ds new → SameIds s new
describes_all s ns ds new h = let g = alone.go_out s ns ds new h in only_exports s new g.0 g.2

pub says : (s : State) (b : Bool) (v : Value) (said : ReturnBody) (ds : List Descriptor) (new : State) → SaysBack s b v said ds new → SameIds s new
says s b v said ds new h = let g = alone.says s b v said ds new h in only_exports s new g.0 g.2

described : (s : State) (n : Node) (d : Descriptor) (new : State) → Described s n d new → SameIds s new
described s n d new h = let g = alone.described s n d new h in only_exports s new g.0 g.2

pub resolves : (d : Progress) (e : ℕ) (x : Option Exception) (n : Node) (new : Progress) → ResolvesBy d e x n new → SameIds d.state new.state
resolves d e x (node.Object o) new h = rw h.3 (described d.state (settle d.state _) h.0 h.1 h.2)
resolves d e x (node.Promise p) new h = rw h.3 (described d.state (settle d.state _) h.0 h.1 h.2)
resolves d e x (node.Field o path) new h = rw h.3 (described d.state (settle d.state _) h.0 h.1 h.2)
resolves d e x (node.Import k) new h = rw h.3 (described d.state (settle d.state _) h.0 h.1 h.2)
resolves d e x (node.Pipe q path) new h = rw h.3 (described d.state (settle d.state _) h.0 h.1 h.2)
resolves d e x (node.Broken reason) new h = rw h (same_ids d.state)

-- What is sent of a Resolve, and what waits for its Release.
pub resolve_said : (d : Progress) (e : ℕ) (x : Option Exception) (n : Node) (new : Progress) (h : ResolvesBy d e x n new) → (new.effects.sends ≡ d.effects.sends ++ message.Plain (plain.Resolve (record { promise = export_id e; to = resolved_to d new e x n h })) ∷ []) × (new.released ≡ d.released)
resolve_said d e x (node.Object o) new h = (ap (λ (p : Progress). p.effects.sends) h.3, ap (λ (p : Progress). p.released) h.3)
resolve_said d e x (node.Promise p) new h = (ap (λ (p : Progress). p.effects.sends) h.3, ap (λ (p : Progress). p.released) h.3)
resolve_said d e x (node.Field o path) new h = (ap (λ (p : Progress). p.effects.sends) h.3, ap (λ (p : Progress). p.released) h.3)
resolve_said d e x (node.Import k) new h = (ap (λ (p : Progress). p.effects.sends) h.3, ap (λ (p : Progress). p.released) h.3)
resolve_said d e x (node.Pipe q path) new h = (ap (λ (p : Progress). p.effects.sends) h.3, ap (λ (p : Progress). p.released) h.3)
resolve_said d e x (node.Broken reason) new h = (ap (λ (p : Progress). p.effects.sends) h, ap (λ (p : Progress). p.released) h)

-- ---- What becomes known, and who is told

pub fits : (s : State) (o : ℕ) (who : Caller) (w : List HeldCall) (v out : Value) (new : State) → Fits s o who w v out new → SameCounts s new
fits s o who w v out new h = only_promises s new new.promises (alone.fits_alone s o who w v out new h)

-- The outcome o is known now: what waits for others stays.
pub known_opens : (s : State) (o : ℕ) (who : Caller) (w : List HeldCall) (v : Value) (k q : ℕ) → IsOpenFor q (map.get (known s o who w v).outcomes k) → (nat_eq k o ≡ false) × IsOpenFor q (map.get s.outcomes k)
known_opens s o who w v k q h = by (nat_eq k o) refl
  where
    by : (b : Bool) → nat_eq k o ≡ b → (nat_eq k o ≡ false) × IsOpenFor q (map.get s.outcomes k)
    by false e = (e, subst (λ (x : Option KeptOutcome). IsOpenFor q x) (get_other s.outcomes o (record { caller = who; value = Some v; waiting = w }) k e) h)
    by true e =
        let g = subst (λ (x : Option KeptOutcome). IsOpenFor q x) (get_put s.outcomes o (record { caller = who; value = Some v; waiting = w }) k ∙ ap (λ b. cond b (Some (record { caller = who; value = Some v; waiting = w })) (map.get s.outcomes k)) e) h in
        absurd (let bad : Some v ≡ None = g.0 in cc)

pub known_same : (s : State) (o : ℕ) (who : Caller) (w : List HeldCall) (v : Value) → SameCounts s (known s o who w v)
known_same s o who w v = record { ids = record { tables = record { questions = refl; answers = refl; level = refl; opens = λ k q h. let g = known_opens s o who w v k q h in g.1 }; imports = refl }; exports = refl }

pub refs_same : (s : State) (ns : List Node) → SameCounts s (with_refs s ns)
refs_same s ns = only_refs s (with_refs s ns) _ _ (alone.refs_alone s ns)

pub tells_call : (d : Progress) (c : ℕ) (v : Value) (o : Option OwnCall) (new : Progress) → TellsCall d c v o new → SameCounts d.state new.state × (new.released ≡ d.released) × (new.effects.sends ≡ d.effects.sends)
tells_call d c v None new h = rw h (same_counts d.state, refl, refl)
tells_call d c v (Some from) new h = rw h (refs_same d.state (caps_of v), refl, refl)

-- ---- What goes

pub gives : (s : State) (ids : List ℕ) → SameTables s (give_back s ids)
gives s ids = only_imports s (give_back s ids) _ (alone.back_alone s ids)

pub goes : (d new : Progress) → Goes d new → SameTables d.state new.state
goes d new (PromiseGoes p l h) = rw h (record { questions = refl; answers = refl; level = refl; opens = λ o q i. i })
goes d new (OutcomeGoes k l h) = rw h (record { questions = refl; answers = refl; level = refl; opens = λ o q i. fewer o q (nat_eq o k) refl i })
  where
    fewer : (o q : ℕ) (b : Bool) → nat_eq o k ≡ b → IsOpenFor q (map.get (map.remove d.state.outcomes k) o) → IsOpenFor q (map.get d.state.outcomes o)
    fewer o q true e i = absurd (subst (λ (x : Option KeptOutcome). IsOpenFor q x) (get_cut d.state.outcomes k o ∙ ap (λ b. cond b None (map.get d.state.outcomes o)) e) i)
    fewer o q false e i = subst (λ (x : Option KeptOutcome). IsOpenFor q x) (get_left d.state.outcomes k o e) i
goes d new (ImportGoes e l h) = rw h (record { questions = refl; answers = refl; level = refl; opens = λ o q i. i })

pub goes_sends : (d new : Progress) → Goes d new → new.effects ≡ d.effects
goes_sends d new (PromiseGoes p l h) = rw h refl
goes_sends d new (OutcomeGoes o l h) = rw h refl
goes_sends d new (ImportGoes e l h) = rw h refl

pub collects_sends : (new d : Progress) → Collects new d → new.effects ≡ d.effects
collects_sends new d (Tight h) = refl
collects_sends new d (Loose {mid = mid} g rest) = collects_sends new mid rest ∙ goes_sends d mid g

pub collects : (new d : Progress) → Collects new d → SameTables d.state new.state
collects new d (Tight h) = same_tables d.state
collects new d (Loose {mid = mid} g rest) = then_tables d.state mid.state new.state (goes d mid g) (collects new mid rest)

-- ---- What comes

pub takes : (s : State) (ds : List Descriptor) → SameTables s (take_all s ds)
takes s ds = only_imports s (take_all s ds) _ (alone.all_alone s ds)

pub obeys : (s : State) (b : Bool) (ids : List ℕ) → SameIds s (obey s b ids)
obeys s b ids = only_exports s (obey s b ids) _ (alone.obey_alone s b ids)

pub takes_resolve : (s : State) (e : ℕ) (to : ResolvedTo) → SameTables s (take_resolve s e to)
takes_resolve s e to = only_imports s (take_resolve s e to) _ (alone.resolve_alone s e to)
