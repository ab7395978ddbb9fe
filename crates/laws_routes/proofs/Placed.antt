-- What is so of all that places name is so of all to which what a state names leads.
use Rattle.std.specs.FinMap as map
use Rattle.std.proofs.Common.{◌≡◌, inl, inr, ℕ, zero, suc, List, [], ◌∷◌, Option, None, Some, refl, subst}
use Rattle.rpc_msg.specs.Op.{Op}
use Rattle.rpc_msg.specs.CapAt.{CapAt}
use Rattle.rpc_msg.specs.CapAt.TheVariants.{Cap, Null, NotCap}
use Rattle.rpc_msg.specs.declared.parts.Descriptor.{Descriptor}
use Rattle.rpc_msg.specs.declared.parts.Descriptor.TheVariants as descriptor
use Rattle.rpc_machine.specs.Payloads.{cap_at}
use Rattle.rpc_machine.specs.declared.calls.KeptOutcome.{KeptOutcome}
use Rattle.rpc_machine.specs.declared.calls.Promise.TheVariants as promise
use Rattle.rpc_machine.specs.declared.calls.Value.{Value}
use Rattle.rpc_machine.specs.declared.calls.Value.TheVariants as value
use Rattle.rpc_machine.specs.declared.calls.WaitingCall.{WaitingCall}
use Rattle.rpc_machine.specs.declared.entries.Embargo.{Embargo}
use Rattle.rpc_machine.specs.declared.entries.Export.{Export}
use Rattle.rpc_machine.specs.declared.entries.Import.{Import}
use Rattle.rpc_machine.specs.declared.entries.Question.{Question}
use Rattle.rpc_machine.specs.declared.entries.Reference.{Reference}
use Rattle.rpc_machine.specs.declared.entries.Resolution.{Resolution}
use Rattle.rpc_machine.specs.declared.entries.Resolution.TheVariants as resolution
use Rattle.rpc_machine.specs.declared.entries.Returned.{Returned}
use Rattle.rpc_machine.specs.declared.entries.Returned.TheVariants as back
use Rattle.rpc_machine.specs.declared.node.Node.{Node}
use Rattle.rpc_machine.specs.declared.node.Node.TheVariants as node
use Rattle.rpc_machine.specs.declared.node.Reason.{Reason}
use Rattle.rpc_machine.specs.State.{State}
use Rattle.rpc_machine.specs.Nodes.{field_of, node_of_cap}
use Rattle.rpc_machine.specs.Advancing.{Leads, known_at, known_by, known_by_resolve, known_by_return, known_cap, resolution_of, returned_of}
use Rattle.rpc_machine.specs.Places.{named_by_calls, named_by_embargo, named_by_export, named_by_held, named_by_import, named_by_outcome, named_by_promise, named_by_question, named_by_reference, named_by_resolution, named_by_returned, named_by_value, nodes, places}
use Rattle.rpc_machine.specs.Progress.{caps_of}
use Rattle.laws_steps.specs.Settled.{IsAmong}
use Rattle.laws_steps.proofs.Among.{among_left, among_right, in_embargoes, in_exports, in_imports, in_outcomes, in_promises, in_questions, in_refs, named}

module _ (P : Node → Type 0) (fine : (r : Reason) → P (node.Broken r)) where
  abbrev EachOf : List Node → Type 0
  EachOf ns = (n : Node) → IsAmong n ns → P n

  cap_other : (caps : List Node) (i : ℕ) → EachOf caps → P (node_of_cap caps (Cap i))
  cap_other [] i h = fine _
  cap_other (n ∷ ns) zero h = h n (inl refl)
  cap_other (n ∷ ns) (suc i) h = cap_other ns i (λ m a. h m (inr a))

  of_cap : (caps : List Node) (c : CapAt) → EachOf caps → P (node_of_cap caps c)
  of_cap caps (Cap i) h = cap_other caps i h
  of_cap caps Null h = fine _
  of_cap caps NotCap h = fine _

  field_other : (v : Value) (path : List Op) → EachOf (caps_of v) → P (field_of v path)
  field_other (value.Results payload caps) path h = of_cap caps (cap_at payload path) h
  field_other (value.Exception exception) path h = fine _

  by_descriptor : (c said : Descriptor) (n to : Node) → P n → known_by c n ≡ Leads said to → P to
  by_descriptor descriptor.None said n to h e = cc
  by_descriptor (descriptor.SenderHosted j) said n to h e = let a : Leads (descriptor.SenderHosted j) n ≡ Leads said to = e in let b : n ≡ to = cc in subst P b h
  by_descriptor (descriptor.SenderPromise j) said n to h e = let a : Leads (descriptor.SenderPromise j) n ≡ Leads said to = e in let b : n ≡ to = cc in subst P b h
  by_descriptor (descriptor.ReceiverHosted j) said n to h e = let a : Leads (descriptor.ReceiverHosted j) n ≡ Leads said to = e in let b : n ≡ to = cc in subst P b h
  by_descriptor (descriptor.ReceiverAnswer q path) said n to h e = let a : Leads (descriptor.ReceiverAnswer q path) n ≡ Leads said to = e in let b : n ≡ to = cc in subst P b h

  by_resolve : (z : Option Resolution) (said : Descriptor) (to : Node) → EachOf (named_by_resolution z) → known_by_resolve z ≡ Leads said to → P to
  by_resolve None said to h e = cc
  by_resolve (Some (resolution.To c n)) said to h e = by_descriptor c said n to (h n (inl refl)) e
  by_resolve (Some (resolution.Exception exception)) said to h e = cc

  by_known : (caps : List (Descriptor × Node)) (i : ℕ) (said : Descriptor) (to : Node) → EachOf (nodes caps) → known_at caps i ≡ Leads said to → P to
  by_known [] i said to h e = cc
  by_known (c ∷ cs) zero said to h e = by_descriptor c.0 said c.1 to (h c.1 (inl refl)) e
  by_known (c ∷ cs) (suc i) said to h e = by_known cs i said to (λ m a. h m (inr a)) e

  by_known_cap : (caps : List (Descriptor × Node)) (c : CapAt) (said : Descriptor) (to : Node) → EachOf (nodes caps) → known_cap caps c ≡ Leads said to → P to
  by_known_cap caps (Cap i) said to h e = by_known caps i said to h e
  by_known_cap caps Null said to h e = cc
  by_known_cap caps NotCap said to h e = cc

  by_return : (z : Option Returned) (path : List Op) (said : Descriptor) (to : Node) → EachOf (named_by_returned z) → known_by_return path z ≡ Leads said to → P to
  by_return None path said to h e = cc
  by_return (Some (back.Results payload caps)) path said to h e = by_known_cap caps (cap_at payload path) said to h e
  by_return (Some (back.Exception exception)) path said to h e = cc

  of_value : (z : Option Value) (v : Value) → z ≡ Some v → EachOf (named_by_value z) → EachOf (caps_of v)
  of_value None v e h = cc
  of_value (Some (value.Results payload caps)) v e h = let a : value.Results payload caps ≡ v = cc in subst (λ (v : Value). EachOf (caps_of v)) a h
  of_value (Some (value.Exception exception)) v e h = let a : value.Exception exception ≡ v = cc in subst (λ (v : Value). EachOf (caps_of v)) a h

  module _ (s : State) (placed : EachOf (places s)) where
    pub heads : (r : ℕ) (x : Reference) → map.get s.refs r ≡ Some x → P x.head
    heads r x e = placed x.head (in_refs s x.head (named named_by_reference r x x.head s.refs e (inl refl)))

    pub embargoes : (e : ℕ) (b : Embargo) → map.get s.embargoes e ≡ Some b → P b.node
    embargoes e b i = placed b.node (in_embargoes s b.node (named named_by_embargo e b b.node s.embargoes i (inl refl)))

    pub keeps : (e : ℕ) (b : Embargo) → map.get s.embargoes e ≡ Some b → EachOf (named_by_calls b.waiting)
    keeps e b i n a = placed n (in_embargoes s n (named named_by_embargo e b n s.embargoes i (inr a)))

    pub waits : (p : ℕ) (cs : List WaitingCall) → map.get s.promises p ≡ Some (promise.Open cs) → EachOf (named_by_calls cs)
    waits p cs i n a = placed n (in_promises s n (named named_by_promise p (promise.Open cs) n s.promises i (inr a)))

    pub fixed_to : (p : ℕ) (to : Node) → map.get s.promises p ≡ Some (promise.Fixed to) → P to
    fixed_to p to i = placed to (in_promises s to (named named_by_promise p (promise.Fixed to) to s.promises i (inl refl)))

    pub holds : (o : ℕ) (x : KeptOutcome) → map.get s.outcomes o ≡ Some x → EachOf (named_by_held x.waiting)
    holds o x i n a = placed n (in_outcomes s n (named named_by_outcome o x n s.outcomes i (among_right n (named_by_value x.value) (named_by_held x.waiting) a)))

    pub fields : (o : ℕ) (x : KeptOutcome) (v : Value) (path : List Op) → map.get s.outcomes o ≡ Some x → x.value ≡ Some v → P (field_of v path)
    fields o x v path i e = field_other v path (of_value x.value v e (λ n a. placed n (in_outcomes s n (named named_by_outcome o x n s.outcomes i (among_left n (named_by_value x.value) (named_by_held x.waiting) a)))))

    pub exports : (e : ℕ) (x : Export) → map.get s.exports e ≡ Some x → P x.node
    exports e x i = placed x.node (in_exports s x.node (named named_by_export e x x.node s.exports i (inl refl)))

    pub resolved : (e : ℕ) (said : Descriptor) (to : Node) → known_by_resolve (resolution_of (map.get s.imports e)) ≡ Leads said to → P to
    resolved e said to a = by (map.get s.imports e) refl a
      where
        by : (o : Option Import) → map.get s.imports e ≡ o → known_by_resolve (resolution_of o) ≡ Leads said to → P to
        by None f k = cc
        by (Some x) f k = by_resolve x.resolution said to (λ n i. placed n (in_imports s n (named named_by_import e x n s.imports f i))) k

    pub returned : (q : ℕ) (path : List Op) (said : Descriptor) (to : Node) → known_by_return path (returned_of (map.get s.questions q)) ≡ Leads said to → P to
    returned q path said to a = by (map.get s.questions q) refl a
      where
        by : (o : Option Question) → map.get s.questions q ≡ o → known_by_return path (returned_of o) ≡ Leads said to → P to
        by None f k = cc
        by (Some x) f k = by_return x.returned path said to (λ n i. placed n (in_questions s n (named named_by_question q x n s.questions f i))) k
