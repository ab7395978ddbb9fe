-- Descriptors are made alike in both.
use Rattle.std.proofs.Common.{◌≡◌, ℕ, zero, suc, ap, ◌∙◌, map, ◌+◌, true, false, List, [], ◌∷◌, Option, None, Some, refl, sym, subst}
use Rattle.std.specs.FinMap as finite
use Rattle.rpc_msg.specs.declared.parts.Descriptor.{Descriptor}
use Rattle.rpc_msg.specs.declared.parts.Descriptor.TheVariants as descriptor
use Rattle.rpc_machine.specs.declared.node.Node.{Node}
use Rattle.rpc_machine.specs.declared.node.Reason.{Reason}
use Rattle.laws_wired.specs.Contents.{SaysNone, HoldsAt}
use Rattle.rpc_machine.specs.declared.node.Node.TheVariants as node
use Rattle.rpc_machine.specs.declared.entries.Export.{Export}
use Rattle.rpc_machine.specs.State.{State}
use Rattle.rpc_machine.specs.Nodes.{links, settle}
use Rattle.rpc_machine.specs.Descriptors.{ExportedAs, Described, Describes, DescribesAll}
use Rattle.laws_wired.specs.Pairs.{TwoNodes, OneNode, BothBroken, node_at, IsBroken, TwoStates, state_at}
use Rattle.laws_wired.proofs.Settles.{settle2, settles, stays_broken}
use Rattle.laws_wired.proofs.Going.{State2}

abbrev exporting : TwoStates → Node → ℕ → ℕ → TwoStates
exporting z m e count = record z { rest = record (z.rest) { exports = finite.insert z.rest.exports e (record { node = m; count = count }) } }

exported : (z : TwoStates) (m : Node) (e : ℕ) (o : Option Export) (new : State) → ExportedAs (state_at false z) m e o new → State2 new (ExportedAs (state_at true z) m e o)
exported z m e None new h = (exporting z m e 1, h.1, (h.0, refl))
exported z m e (Some x) new h = (exporting z m e (x.count + 1), h.1, (h.0, refl))

described : (z : TwoStates) (m : TwoNodes) (d : Descriptor) (new : State) → Described (state_at false z) (node_at false m) d new → State2 new (Described (state_at true z) (node_at true m) d)
described z (OneNode (node.Object o)) d new h = let k = exported z (node.Object o) h.0 (finite.get z.rest.exports h.0) new h.2 in (k.0, k.1, (h.0, h.1, k.2))
described z (OneNode (node.Promise p)) d new h = let k = exported z (node.Promise p) h.0 (finite.get z.rest.exports h.0) new h.2 in (k.0, k.1, (h.0, h.1, k.2))
described z (OneNode (node.Field o path)) d new h = let k = exported z (node.Field o path) h.0 (finite.get z.rest.exports h.0) new h.2 in (k.0, k.1, (h.0, h.1, k.2))
described z (OneNode (node.Import e)) d new h = (z, h.1, (h.0, refl))
described z (OneNode (node.Pipe q path)) d new h = (z, h.1, (h.0, refl))
described z (OneNode (node.Broken reason)) d new h = (z, h.1, (h.0, refl))
described z (BothBroken why) d new h = (z, h.1, (h.0, refl))

pub describes : (z : TwoStates) (m : TwoNodes) (d : Descriptor) (new : State) → Describes (state_at false z) (node_at false m) d new → State2 new (Describes (state_at true z) (node_at true m) d)
describes z m d new h =
    let k = described z (settle2 z m) d new (subst (λ (x : Node). Described (state_at false z) x d new) (sym (settles false z m)) h) in
    (k.0, k.1, subst (λ (x : Node). Described (state_at true z) x d (state_at true k.0)) (settles true z m) k.2)

pub describes_all : (z : TwoStates) (ms : List TwoNodes) (ds : List Descriptor) (new : State)
    → DescribesAll (state_at false z) (map (node_at false) ms) ds new → State2 new (DescribesAll (state_at true z) (map (node_at true) ms) ds)
describes_all z [] [] new h = (z, h, refl)
describes_all z [] (d ∷ ds) new h = absurd h
describes_all z (m ∷ ms) [] new h = absurd h
describes_all z (m ∷ ms) (d ∷ ds) new h =
    let k = describes z m d h.0 h.1 in
    let r = describes_all k.0 ms ds new (subst (λ (s : State). DescribesAll s (map (node_at false) ms) ds new) k.1 h.2) in
    (r.0, r.1, (state_at true k.0, k.2, r.2))

-- ---- what is broken goes out as none

broken_says : (s : State) (n : Node) (reason : Reason) (d : Descriptor) (new : State) → n ≡ node.Broken reason → Describes s n d new → d ≡ descriptor.None
broken_says s n reason d new e h =
    let at : settle s n ≡ node.Broken reason = ap (settle s) e ∙ stays_broken s (links s) reason in
    (subst (λ (x : Node). Described s x d new) at h).0

pub says_none : (s new : State) (ms : List TwoNodes) (ds : List Descriptor) → DescribesAll s (map (node_at true) ms) ds new → (i : ℕ) → HoldsAt IsBroken ms i → HoldsAt SaysNone ds i
says_none s new [] ds h i b = absurd b
says_none s new (m ∷ ms) [] h i b = absurd h
says_none s new (m ∷ ms) (d ∷ ds) h zero b = broken_says s (node_at true m) b.0 d h.0 b.1 h.1
says_none s new (m ∷ ms) (d ∷ ds) h (suc i) b = says_none h.0 new ms ds h.2 i b
