-- References advance the same with other numbers.
use Rattle.std.proofs.Common.{◌≡◌, inl, inr, ℕ, zero, suc, List, [], ◌∷◌, map, Option, None, Some, refl, sym, ap, subst, ◌∙◌}
use Rattle.finite_maps.proofs.Values.{get-map_values, map_values-insert}
use Rattle.std.specs.FinMap as finite
use Rattle.finite_maps.specs.Tally.{option_changed}
use Rattle.rpc_msg.specs.Op.{Op}
use Rattle.rpc_msg.specs.declared.ids.ObjectId.{ObjectId}
use Rattle.rpc_msg.specs.declared.ids.EmbargoId.{EmbargoId}
use Rattle.rpc_msg.specs.declared.parts.Descriptor.{Descriptor}
use Rattle.rpc_msg.specs.declared.parts.Descriptor.TheVariants as descriptor
use Rattle.rpc_msg.specs.declared.parts.Target.{Target}
use Rattle.rpc_msg.specs.declared.message.DisembargoContext.TheVariants.{SenderLoopback}
use Rattle.rpc_msg.specs.declared.message.PlainMessage.TheVariants as plain
use Rattle.rpc_machine.specs.declared.node.Node.{Node}
use Rattle.rpc_machine.specs.declared.node.Node.TheVariants as node
use Rattle.rpc_machine.specs.declared.entries.Returned.{Returned}
use Rattle.rpc_machine.specs.declared.entries.Returned.TheVariants as back
use Rattle.rpc_machine.specs.declared.entries.Question.{Question}
use Rattle.rpc_machine.specs.declared.entries.Resolution.{Resolution}
use Rattle.rpc_machine.specs.declared.entries.Resolution.TheVariants as resolution
use Rattle.rpc_machine.specs.declared.entries.Import.{Import}
use Rattle.rpc_machine.specs.declared.entries.Reference.{Reference}
use Rattle.rpc_machine.specs.declared.command.Granted.{Granted}
use Rattle.rpc_machine.specs.State.{State}
use Rattle.laws_numbers_hidden.specs.Renamed.{node_by, embargo_by, beside_by, returned_by, question_by, reference_by, resolution_by, import_by, state_by}
use Rattle.laws_numbers_hidden.specs.Steps.{KeepsApart}
use Rattle.rpc_msg.specs.CapAt.{CapAt}
use Rattle.rpc_msg.specs.CapAt.TheVariants.{Cap, Null, NotCap}
use Rattle.rpc_machine.specs.Nodes.{settle}
use Rattle.rpc_machine.specs.Payloads.{cap_at}
use Rattle.rpc_machine.specs.Progress.{Progress, with_state, send}
use Rattle.rpc_machine.specs.Advancing.{Known, NothingYet, IsBroken, Leads, known_by, known_by_resolve, resolution_of, known_at, known_cap, known_by_return, returned_of, known_of_wire, wire_target, headed, Switches, Embargoes, AdvancesBy, Stays, AdvancesTo, AdvancesFrom, Advances}
use Rattle.laws_numbers_hidden.proofs.Settles.{free_in, settles, blind}
use Rattle.laws_numbers_hidden.proofs.Going.{progress_by, put_ref}
use Rattle.laws_numbers_hidden.proofs.Described.{apart}

module _ (f : ObjectId → ObjectId) where
  -- What is known of a wire, with other numbers.
  abbrev pub learned_by : Known → Known
  learned_by NothingYet = NothingYet
  learned_by (IsBroken reason) = IsBroken reason
  learned_by (Leads said n) = Leads said (node_by f n)

  abbrev K : Known → Known
  K = learned_by

  by_known : (d : Descriptor) (n : Node) → K (known_by d n) ≡ known_by d (node_by f n)
  by_known descriptor.None n = refl
  by_known (descriptor.SenderHosted e) n = refl
  by_known (descriptor.SenderPromise e) n = refl
  by_known (descriptor.ReceiverHosted e) n = refl
  by_known (descriptor.ReceiverAnswer q path) n = refl

  by_resolve : (o : Option Resolution) → K (known_by_resolve o) ≡ known_by_resolve (option_changed (resolution_by f) o)
  by_resolve None = refl
  by_resolve (Some (resolution.To d n)) = by_known d n
  by_resolve (Some (resolution.Exception e)) = refl

  by_import : (o : Option Import) → K (known_by_resolve (resolution_of o)) ≡ known_by_resolve (resolution_of (option_changed (import_by f) o))
  by_import None = refl
  by_import (Some x) = by_resolve x.resolution

  at_known : (cs : List (Descriptor × Node)) (i : ℕ) → K (known_at cs i) ≡ known_at (map (beside_by f) cs) i
  at_known [] i = refl
  at_known (c ∷ cs) zero = by_known c.0 c.1
  at_known (c ∷ cs) (suc i) = at_known cs i

  cap_known : (cs : List (Descriptor × Node)) (x : CapAt) → K (known_cap cs x) ≡ known_cap (map (beside_by f) cs) x
  cap_known cs (Cap i) = at_known cs i
  cap_known cs Null = refl
  cap_known cs NotCap = refl

  by_return : (path : List Op) (o : Option Returned) → K (known_by_return path o) ≡ known_by_return path (option_changed (returned_by f) o)
  by_return path None = refl
  by_return path (Some (back.Results payload caps)) = cap_known caps (cap_at payload path)
  by_return path (Some (back.Exception e)) = refl

  by_question : (path : List Op) (o : Option Question) → K (known_by_return path (returned_of o)) ≡ known_by_return path (returned_of (option_changed (question_by f) o))
  by_question path None = refl
  by_question path (Some x) = by_return path x.returned

  pub known_so : (s : State) (n : Node) → learned_by (known_of_wire s n) ≡ known_of_wire (state_by f s) (node_by f n)
  known_so s (node.Object o) = refl
  known_so s (node.Promise p) = refl
  known_so s (node.Field o path) = refl
  known_so s (node.Import e) = by_import (finite.get s.imports e.0) ∙ sym (ap (λ (o : Option Import). known_by_resolve (resolution_of o)) (get-map_values (import_by f) s.imports e.0))
  known_so s (node.Pipe q path) = by_question path (finite.get s.questions q.0) ∙ sym (ap (λ (o : Option Question). known_by_return path (returned_of o)) (get-map_values (question_by f) s.questions q.0))
  known_so s (node.Broken reason) = refl

module _ (f : ObjectId → ObjectId) (one : KeepsApart f) where
  abbrev N : Node → Node
  N = node_by f

  abbrev S : State → State
  S = state_by f

  abbrev P : Progress → Progress
  P = progress_by f

  abbrev R : Reference → Reference
  R = reference_by f

  headed_so : (d : Progress) (r : ℕ) (x : Reference) (n : Node) → P (headed d r x n) ≡ headed (P d) r (R x) (N n)
  headed_so d r x n = ap (with_state (P d)) (put_ref f d.state r (record x { head = n }))

  switches : (d : Progress) (r : ℕ) (x : Reference) (n : Node) (g : Granted) (new : Progress) → Switches d r x n g new → Switches (P d) r (R x) (N n) g (P new)
  switches d r x n g new h = (h.0, ap P h.1 ∙ headed_so d r x n)

  stays : (d : Progress) (g : Granted) (new : Progress) → Stays d g new → Stays (P d) g (P new)
  stays d g new h = (h.0, ap P h.1)

  embargoes : (d : Progress) (r : ℕ) (x : Reference) (t : Option Target) (n : Node) (g : Granted) (new : Progress) → Embargoes d r x t n g new → Embargoes (P d) r (R x) t (N n) g (P new)
  embargoes d r x None n g new h = absurd h
  embargoes d r x (Some t) n g new h =
      let k = h.1 in
      let e = k.0 in
      let said = plain.Disembargo (record { target = t; context = SenderLoopback (record { 0 = e }) }) in
      let a = map_values-insert R d.state.refs r (record { head = n; embargo = Some (record { 0 = e }); made = x.made }) in
      let b = map_values-insert (embargo_by f) d.state.embargoes e (record { reference = record { 0 = r }; node = n; waiting = [] }) in (
        h.0,
        (e, free_in (embargo_by f) d.state.embargoes e k.1, ap P k.2 ∙ (λ i. send (with_state (P d) (record (S d.state) { refs = a i; embargoes = b i })) said)),
      )

  targets : (w : Node) → wire_target (N w) ≡ wire_target w
  targets w = blind f wire_target (λ o x. refl) w

  advances_by : (d : Progress) (r : ℕ) (x : Reference) (w : Node) (a : Descriptor) (n : Node) (g : Granted) (new : Progress) → AdvancesBy d r x w a n g new → AdvancesBy (P d) r (R x) (N w) a (N n) g (P new)
  advances_by d r x w descriptor.None n g new h = absurd h
  advances_by d r x w (descriptor.SenderHosted e) n g new h = switches d r x n g new h
  advances_by d r x w (descriptor.SenderPromise e) n g new h = switches d r x n g new h
  advances_by d r x w (descriptor.ReceiverHosted e) n g new h = subst (λ (t : Option Target). Embargoes (P d) r (R x) t (N n) g (P new)) (sym (targets w)) (embargoes d r x (wire_target w) n g new h)
  advances_by d r x w (descriptor.ReceiverAnswer q path) n g new h = subst (λ (t : Option Target). Embargoes (P d) r (R x) t (N n) g (P new)) (sym (targets w)) (embargoes d r x (wire_target w) n g new h)

  advances_to : (d : Progress) (r : ℕ) (x : Reference) (w : Node) (k : Known) (g : Granted) (new : Progress) → AdvancesTo d r x w k g new → AdvancesTo (P d) r (R x) (N w) (learned_by f k) g (P new)
  advances_to d r x w NothingYet g new h = stays d g new h
  advances_to d r x w (IsBroken reason) g new h = (h.0, ap P h.1 ∙ headed_so d r x (node.Broken reason))
  advances_to d r x w (Leads said n) g new (inl h) = inl (sym (settles f d.state n) ∙ ap N h.0, stays d g new h.1)
  advances_to d r x w (Leads said n) g new (inr h) =
      inr ((λ e. h.0 (apart f one (settle d.state n) w (settles f d.state n ∙ e))), advances_by d r x w said n g new h.1)

  advances_from : (d : Progress) (r : ℕ) (x : Reference) (o : Option EmbargoId) (g : Granted) (new : Progress) → AdvancesFrom d r x o g new → AdvancesFrom (P d) r (R x) o g (P new)
  advances_from d r x (Some e) g new h = stays d g new h
  advances_from d r x None g new h =
      let w = settle d.state x.head in
      subst (λ (n : Node). AdvancesTo (P d) r (R x) n (known_of_wire (S d.state) n) g (P new)) (settles f d.state x.head)
      (subst (λ (k : Known). AdvancesTo (P d) r (R x) (N w) k g (P new)) (known_so f d.state w) (advances_to d r x w (known_of_wire d.state w) g new h))

  pub advances : (d : Progress) (r : ℕ) (o : Option Reference) (g : Granted) (new : Progress) → Advances d r o g new → Advances (progress_by f d) r (option_changed (reference_by f) o) g (progress_by f new)
  advances d r None g new h = absurd h
  advances d r (Some x) g new h = advances_from d r x x.embargo g new h
