-- The descriptors of a list of nodes, made from its front.
use Rattle.std.proofs.Common.{◌≡◌, ℕ, List, [], ◌∷◌, ◌++◌, Option, Some, None, refl, sym, ap, subst, ◌∙◌}
use Rattle.std.specs.FinMap as map
use Rattle.rpc_msg.specs.declared.ids.ExportId.{ExportId}
use Rattle.rpc_msg.specs.declared.parts.Descriptor.{Descriptor}
use Rattle.rpc_msg.specs.declared.parts.Descriptor.TheVariants as descriptor
use Rattle.rpc_msg.specs.Messages.{given}
use Rattle.rpc_machine.specs.declared.node.Node.{Node}
use Rattle.rpc_machine.specs.declared.node.Node.TheVariants as node
use Rattle.rpc_machine.specs.declared.entries.Export.{Export}
use Rattle.rpc_machine.specs.State.{State}
use Rattle.rpc_machine.specs.Nodes.{settle}
use Rattle.rpc_machine.specs.Progress.{export_ids}
use Rattle.rpc_machine.specs.Descriptors.{ExportedAs, Described, Describes, DescribesAll}

-- They go on by one at the end.
pub describes_more : (s : State) (ns : List Node) (ds : List Descriptor) (mid : State) (n : Node) (d : Descriptor) (new : State)
    → DescribesAll s ns ds mid → Describes mid n d new → DescribesAll s (ns ++ n ∷ []) (ds ++ d ∷ []) new
describes_more s [] [] mid n d new all one = (new, subst (λ (s : State). Describes s n d new) all one, refl)
describes_more s [] (e ∷ ds) mid n d new all one = absurd all
describes_more s (m ∷ ns) [] mid n d new all one = absurd all
describes_more s (m ∷ ns) (e ∷ ds) mid n d new all one = (all.0, all.1, describes_more all.0 ns ds mid n d new all.2 one)

pub given_more : (ds : List Descriptor) (d : Descriptor) → export_ids (given (ds ++ d ∷ [])) ≡ export_ids (given ds) ++ export_ids (given (d ∷ []))
given_more [] d = refl
given_more (descriptor.None ∷ ds) d = given_more ds d
given_more (descriptor.SenderHosted e ∷ ds) d = ap (λ (ids : List ExportId). e ∷ ids) (given_more ds d)
given_more (descriptor.SenderPromise e ∷ ds) d = ap (λ (ids : List ExportId). e ∷ ids) (given_more ds d)
given_more (descriptor.ReceiverHosted e ∷ ds) d = given_more ds d
given_more (descriptor.ReceiverAnswer q path ∷ ds) d = given_more ds d

-- ---- Descriptors change the exports alone

abbrev with_exports_of : State → State → State
with_exports_of s t = record s { exports = t.exports }

exported_only : (s : State) (n : Node) (e : ℕ) (o : Option Export) (new : State) → ExportedAs s n e o new → new ≡ record s { exports = new.exports }
exported_only s n e None new h = h.1 ∙ ap (with_exports_of s) (sym h.1)
exported_only s n e (Some x) new h = h.1 ∙ ap (with_exports_of s) (sym h.1)

described_only : (s : State) (n : Node) (d : Descriptor) (new : State) → Described s n d new → new ≡ record s { exports = new.exports }
described_only s (node.Object o) d new h = exported_only s (node.Object o) h.0 (map.get s.exports h.0) new h.2
described_only s (node.Promise p) d new h = exported_only s (node.Promise p) h.0 (map.get s.exports h.0) new h.2
described_only s (node.Field o path) d new h = exported_only s (node.Field o path) h.0 (map.get s.exports h.0) new h.2
described_only s (node.Import e) d new h = h.1 ∙ ap (with_exports_of s) (sym h.1)
described_only s (node.Pipe q path) d new h = h.1 ∙ ap (with_exports_of s) (sym h.1)
described_only s (node.Broken reason) d new h = h.1 ∙ ap (with_exports_of s) (sym h.1)

pub all_only : (s : State) (ns : List Node) (ds : List Descriptor) (new : State) → DescribesAll s ns ds new → new ≡ record s { exports = new.exports }
all_only s [] [] new h = h ∙ ap (with_exports_of s) (sym h)
all_only s [] (d ∷ ds) new h = absurd h
all_only s (n ∷ ns) [] new h = absurd h
all_only s (n ∷ ns) (d ∷ ds) new h =
    all_only h.0 ns ds new h.2 ∙ ap (λ (t : State). record t { exports = new.exports }) (described_only s (settle s n) d h.0 h.1)

-- The questions are what they were.
pub questions_kept : (s new : State) (ns : List Node) (ds : List Descriptor) → DescribesAll s ns ds new → new.questions ≡ s.questions
questions_kept s new ns ds h = ap (λ (t : State). t.questions) (all_only s ns ds new h)
