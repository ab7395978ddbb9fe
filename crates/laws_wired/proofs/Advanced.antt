-- References advance alike in both.
use Rattle.std.proofs.Common.{◌≡◌, inl, inr, ℕ, zero, suc, Bool, true, false, cond, List, [], ◌∷◌, Option, None, Some, refl, sym, ap, subst, ◌∙◌}
use Rattle.std.specs.FinMap as finite
use Rattle.finite_maps.specs.Tally.{option_changed}
use Rattle.finite_maps.proofs.Values.{get-map_values, map_values-insert}
use Rattle.rpc_msg.specs.Op.{Op}
use Rattle.rpc_msg.specs.CapAt.{CapAt}
use Rattle.rpc_msg.specs.declared.ids.EmbargoId.{EmbargoId}
use Rattle.rpc_msg.specs.declared.parts.Descriptor.{Descriptor}
use Rattle.rpc_msg.specs.declared.parts.Descriptor.TheVariants as descriptor
use Rattle.rpc_msg.specs.declared.parts.Target.{Target}
use Rattle.rpc_msg.specs.declared.message.DisembargoContext.TheVariants.{SenderLoopback}
use Rattle.rpc_msg.specs.declared.message.PlainMessage.TheVariants as plain
use Rattle.rpc_msg.specs.declared.message.Message.TheVariants as message
use Rattle.rpc_machine.specs.declared.node.Node.{Node}
use Rattle.rpc_machine.specs.declared.node.Node.TheVariants as node
use Rattle.rpc_machine.specs.declared.node.Reason.{Reason}
use Rattle.rpc_machine.specs.declared.node.Reason.TheVariants.{NullCapability, BrokenPromise}
use Rattle.rpc_machine.specs.declared.command.Granted.{Granted}
use Rattle.rpc_journal.specs.declared.report.Advanced.TheVariants as advanced
use Rattle.rpc_machine.specs.declared.entries.Question.{Question}
use Rattle.rpc_machine.specs.declared.entries.Import.{Import}
use Rattle.rpc_machine.specs.Nodes.{settle}
use Rattle.rpc_machine.specs.Progress.{Progress, with_state, send}
use Rattle.rpc_machine.specs.Advancing.{Known, NothingYet, IsBroken, Leads, known_by, known_at, known_cap, known_by_resolve, resolution_of, known_by_return, returned_of, known_of_wire, wire_target, AnswersSo, headed, Switches, Embargoes, AdvancesBy, Stays, AdvancesTo, AdvancesFrom, Advances}
use Rattle.laws_wired.specs.Contents.{HoldsAt, EachLost}
use Rattle.laws_wired.specs.Pairs.{TwoNodes, OneNode, BothBroken, IsAbsent, node_at, TwoReferences, TwoResolutions, LedTo, Broke, TwoImports, reference_at, resolution_at, import_at, TwoReturned, Gave, Failed, TwoQuestions, TwoEmbargoes, TwoStates, Same, returned_at, question_at, embargo_at, state_at}
use Rattle.laws_wired.proofs.Contents.{CapsAlike, Kept, Lost, Nulls, Others, Past, caps_alike}
use Rattle.laws_wired.proofs.Settles.{settle2, settles, is_one}
use Rattle.laws_wired.proofs.Going.{TwoProgress, progress_at, Next2, in_state, send2, sends, put_ref, free_in}

-- ---- what is known of a wire

-- What is known in both: the same; or that it is broken, for a reason that may differ.
pub data TwoKnown : Type 0 where
  OneKnown : Known → TwoKnown
  BrokenBy : (Bool → Reason) → TwoKnown

abbrev pub known_at2 : Bool → TwoKnown → Known
known_at2 b (OneKnown k) = k
known_at2 b (BrokenBy why) = IsBroken (why b)

none_known : (caps : List (Descriptor × Node)) (i : ℕ) → HoldsAt IsAbsent caps i → known_at caps i ≡ IsBroken NullCapability
none_known [] i h = absurd h
none_known (c ∷ cs) zero h = ap (λ (d : Descriptor). known_by d c.1) h.0
none_known (c ∷ cs) (suc i) h = none_known cs i h

module _ (lost : ℕ → Bool) (caps : List (Descriptor × Node)) (gone : EachLost IsAbsent caps lost) where
  abbrev pub known_found : {x y : CapAt} → CapsAlike lost x y → TwoKnown
  known_found (Kept i e) = OneKnown (known_at caps i)
  known_found (Lost i e) = OneKnown (IsBroken NullCapability)
  known_found Nulls = OneKnown (IsBroken NullCapability)
  known_found Others = OneKnown (IsBroken BrokenPromise)
  known_found Past = BrokenBy (λ b. cond b BrokenPromise NullCapability)

  known_over : {x y : CapAt} (k : CapsAlike lost x y) → known_at2 false (known_found k) ≡ known_cap caps x
  known_over (Kept i e) = refl
  known_over (Lost i e) = refl
  known_over Nulls = refl
  known_over Others = refl
  known_over Past = refl

  known_within : {x y : CapAt} (k : CapsAlike lost x y) → known_at2 true (known_found k) ≡ known_cap caps y
  known_within (Kept i e) = refl
  known_within (Lost i e) = sym (none_known caps i (gone i e))
  known_within Nulls = refl
  known_within Others = refl
  known_within Past = refl

abbrev pub known_by_return2 : List Op → Option TwoReturned → TwoKnown
known_by_return2 path None = OneKnown NothingYet
known_by_return2 path (Some (Gave x caps gone)) = known_found x.lost caps gone (caps_alike x path)
known_by_return2 path (Some (Failed e)) = OneKnown (IsBroken BrokenPromise)

abbrev pub returned_of2 : Option TwoQuestions → Option TwoReturned
returned_of2 None = None
returned_of2 (Some x) = x.returned

abbrev pub known_by_resolve2 : Option TwoImports → Known
known_by_resolve2 None = NothingYet
known_by_resolve2 (Some x) = known_by_resolve (option_changed (resolution_at false) x.resolution)

returned_known : (b : Bool) (path : List Op) (o : Option TwoReturned) → known_at2 b (known_by_return2 path o) ≡ known_by_return path (option_changed (returned_at b) o)
returned_known b path None = refl
returned_known true path (Some (Gave x caps gone)) = known_within x.lost caps gone (caps_alike x path)
returned_known false path (Some (Gave x caps gone)) = known_over x.lost caps gone (caps_alike x path)
returned_known b path (Some (Failed e)) = refl

question_known : (b : Bool) (path : List Op) (o : Option TwoQuestions) → known_at2 b (known_by_return2 path (returned_of2 o)) ≡ known_by_return path (returned_of (option_changed (question_at b) o))
question_known b path None = refl
question_known b path (Some x) = returned_known b path x.returned

resolve_known : (b : Bool) (o : Option TwoResolutions) → known_by_resolve (option_changed (resolution_at false) o) ≡ known_by_resolve (option_changed (resolution_at b) o)
resolve_known b None = refl
resolve_known b (Some (LedTo d n)) = refl
resolve_known b (Some (Broke e)) = refl

import_known : (b : Bool) (o : Option TwoImports) → known_by_resolve2 o ≡ known_by_resolve (resolution_of (option_changed (import_at b) o))
import_known b None = refl
import_known b (Some x) = resolve_known b x.resolution

abbrev pub known_of_wire2 : TwoStates → TwoNodes → TwoKnown
known_of_wire2 z (OneNode (node.Object o)) = OneKnown NothingYet
known_of_wire2 z (OneNode (node.Promise p)) = OneKnown NothingYet
known_of_wire2 z (OneNode (node.Field o path)) = OneKnown NothingYet
known_of_wire2 z (OneNode (node.Import e)) = OneKnown (known_by_resolve2 (finite.get z.imports e.0))
known_of_wire2 z (OneNode (node.Pipe q path)) = known_by_return2 path (returned_of2 (finite.get z.questions q.0))
known_of_wire2 z (OneNode (node.Broken reason)) = OneKnown NothingYet
known_of_wire2 z (BothBroken why) = OneKnown NothingYet

pub known_so : (b : Bool) (z : TwoStates) (m : TwoNodes) → known_at2 b (known_of_wire2 z m) ≡ known_of_wire (state_at b z) (node_at b m)
known_so b z (OneNode (node.Object o)) = refl
known_so b z (OneNode (node.Promise p)) = refl
known_so b z (OneNode (node.Field o path)) = refl
known_so b z (OneNode (node.Import e)) =
    import_known b (finite.get z.imports e.0) ∙ sym (ap (λ (o : Option Import). known_by_resolve (resolution_of o)) (get-map_values (import_at b) z.imports e.0))
known_so b z (OneNode (node.Pipe q path)) =
    question_known b path (finite.get z.questions q.0) ∙ sym (ap (λ (o : Option Question). known_by_return path (returned_of o)) (get-map_values (question_at b) z.questions q.0))
known_so b z (OneNode (node.Broken reason)) = refl
known_so b z (BothBroken why) = refl

-- ---- the head moves

abbrev headed2 : TwoProgress → ℕ → TwoReferences → TwoNodes → TwoProgress
headed2 d r x m = in_state d (record (d.state) { refs = finite.insert d.state.refs r (record x { head = m }) })

headed_so : (b : Bool) (d : TwoProgress) (r : ℕ) (x : TwoReferences) (m : TwoNodes) → progress_at b (headed2 d r x m) ≡ headed (progress_at b d) r (reference_at b x) (node_at b m)
headed_so b d r x m = ap (with_state (progress_at b d)) (put_ref b d.state r (record x { head = m }))

switches : (d : TwoProgress) (r : ℕ) (x : TwoReferences) (m : Node) (g : Granted) (new : Progress)
    → Switches (progress_at false d) r (reference_at false x) m g new → Next2 new (Switches (progress_at true d) r (reference_at true x) m g)
switches d r x m g new h = (headed2 d r x (OneNode m), h.1 ∙ sym (headed_so false d r x (OneNode m)), (h.0, headed_so true d r x (OneNode m)))

stays : (d : TwoProgress) (g : Granted) (new : Progress) → Stays (progress_at false d) g new → Next2 new (Stays (progress_at true d) g)
stays d g new h = (d, h.1, (h.0, refl))

embargoes : (d : TwoProgress) (r : ℕ) (x : TwoReferences) (t : Option Target) (m : Node) (g : Granted) (new : Progress)
    → Embargoes (progress_at false d) r (reference_at false x) t m g new → Next2 new (Embargoes (progress_at true d) r (reference_at true x) t m g)
embargoes d r x None m g new h = absurd h
embargoes d r x (Some t) m g new h =
    let k = h.1 in
    let e = k.0 in
    let y : TwoEmbargoes = record { reference = record { 0 = r }; node = m; waiting = [] } in
    let under : TwoReferences = record { head = OneNode m; embargo = Some (record { 0 = e }); made = x.made } in
    let said = plain.Disembargo (record { target = t; context = SenderLoopback (record { 0 = e }) }) in
    let after : TwoStates = record (d.state) { refs = finite.insert d.state.refs r under; embargoes = finite.insert d.state.embargoes e y } in
    let so : (b : Bool) → progress_at b (send2 (in_state d after) (Same (message.Plain said)))
    ≡ send (with_state (progress_at b d) (record (state_at b d.state) { refs = finite.insert (state_at b d.state).refs r (reference_at b under); embargoes = finite.insert (state_at b d.state).embargoes e (embargo_at b y) })) said =
    λ b. let rs = map_values-insert (reference_at b) d.state.refs r under in
    let es = map_values-insert (embargo_at b) d.state.embargoes e y in
    sends b (in_state d after) (Same (message.Plain said))
    ∙ (λ i. send (with_state (progress_at b d) (record (state_at b d.state) { refs = rs i; embargoes = es i })) said) in
    (send2 (in_state d after) (Same (message.Plain said)), k.2 ∙ sym (so false), (h.0, (e, free_in (embargo_at false) (embargo_at true) d.state.embargoes e k.1, so true)))

advances_by : (d : TwoProgress) (r : ℕ) (x : TwoReferences) (w : Node) (a : Descriptor) (m : Node) (g : Granted) (new : Progress)
    → AdvancesBy (progress_at false d) r (reference_at false x) w a m g new → Next2 new (AdvancesBy (progress_at true d) r (reference_at true x) w a m g)
advances_by d r x w descriptor.None m g new h = absurd h
advances_by d r x w (descriptor.SenderHosted e) m g new h = switches d r x m g new h
advances_by d r x w (descriptor.SenderPromise e) m g new h = switches d r x m g new h
advances_by d r x w (descriptor.ReceiverHosted e) m g new h = embargoes d r x (wire_target w) m g new h
advances_by d r x w (descriptor.ReceiverAnswer q path) m g new h = embargoes d r x (wire_target w) m g new h

breaks : (d : TwoProgress) (r : ℕ) (x : TwoReferences) (m : TwoNodes) (g : Granted) (new : Progress)
    → AnswersSo g advanced.Broke × (new ≡ headed (progress_at false d) r (reference_at false x) (node_at false m))
    → Next2 new (λ y. AnswersSo g advanced.Broke × (y ≡ headed (progress_at true d) r (reference_at true x) (node_at true m)))
breaks d r x m g new h = (headed2 d r x m, h.1 ∙ sym (headed_so false d r x m), (h.0, headed_so true d r x m))

-- At a wire.
module _ (w : Node) (solid : (reason : Reason) → ¬ (node.Broken reason ≡ w)) where
  leads_as : (b c : Bool) (z : TwoStates) (m : Node) → settle (state_at b z) m ≡ w → settle (state_at c z) m ≡ w
  leads_as b c z m e = sym (settles c z (OneNode m)) ∙ is_one (settle2 z (OneNode m)) w solid b c (settles b z (OneNode m) ∙ e)

  advances_to : (d : TwoProgress) (r : ℕ) (x : TwoReferences) (k : TwoKnown) (g : Granted) (new : Progress)
      → AdvancesTo (progress_at false d) r (reference_at false x) w (known_at2 false k) g new → Next2 new (AdvancesTo (progress_at true d) r (reference_at true x) w (known_at2 true k) g)
  advances_to d r x (OneKnown NothingYet) g new h = stays d g new h
  advances_to d r x (OneKnown (IsBroken reason)) g new h = breaks d r x (OneNode (node.Broken reason)) g new h
  advances_to d r x (BrokenBy why) g new h = breaks d r x (BothBroken why) g new h
  advances_to d r x (OneKnown (Leads said m)) g new (inl h) =
      let k = stays d g new h.1 in
      (k.0, k.1, inl (leads_as false true d.state m h.0, k.2))
  advances_to d r x (OneKnown (Leads said m)) g new (inr h) =
      let k = advances_by d r x w said m g new h.1 in
      (k.0, k.1, inr ((λ e. h.0 (leads_as true false d.state m e)), k.2))

advances_at : (d : TwoProgress) (r : ℕ) (x : TwoReferences) (w : TwoNodes) (g : Granted) (new : Progress)
    → AdvancesTo (progress_at false d) r (reference_at false x) (node_at false w) (known_at2 false (known_of_wire2 d.state w)) g new
    → Next2 new (AdvancesTo (progress_at true d) r (reference_at true x) (node_at true w) (known_at2 true (known_of_wire2 d.state w)) g)
advances_at d r x (OneNode (node.Object o)) g new h = stays d g new h
advances_at d r x (OneNode (node.Promise p)) g new h = stays d g new h
advances_at d r x (OneNode (node.Field o path)) g new h = stays d g new h
advances_at d r x (OneNode (node.Import e)) g new h = advances_to (node.Import e) (λ r e. cc) d r x (known_of_wire2 d.state (OneNode (node.Import e))) g new h
advances_at d r x (OneNode (node.Pipe q path)) g new h = advances_to (node.Pipe q path) (λ r e. cc) d r x (known_of_wire2 d.state (OneNode (node.Pipe q path))) g new h
advances_at d r x (OneNode (node.Broken reason)) g new h = stays d g new h
advances_at d r x (BothBroken why) g new h = stays d g new h

advances_from : (d : TwoProgress) (r : ℕ) (x : TwoReferences) (o : Option EmbargoId) (g : Granted) (new : Progress)
    → AdvancesFrom (progress_at false d) r (reference_at false x) o g new → Next2 new (AdvancesFrom (progress_at true d) r (reference_at true x) o g)
advances_from d r x (Some e) g new h = stays d g new h
advances_from d r x None g new h =
    let w = settle2 d.state x.head in
    let k = advances_at d r x w g new
    (subst (λ (y : Known). AdvancesTo (progress_at false d) r (reference_at false x) (node_at false w) y g new) (sym (known_so false d.state w))
    (subst (λ (m : Node). AdvancesTo (progress_at false d) r (reference_at false x) m (known_of_wire (state_at false d.state) m) g new) (sym (settles false d.state x.head)) h)) in (
      k.0,
      k.1,
      subst (λ (m : Node). AdvancesTo (progress_at true d) r (reference_at true x) m (known_of_wire (state_at true d.state) m) g (progress_at true k.0)) (settles true d.state x.head)
          (subst (λ (y : Known). AdvancesTo (progress_at true d) r (reference_at true x) (node_at true w) y g (progress_at true k.0)) (known_so true d.state w) k.2),
    )

pub advances : (d : TwoProgress) (r : ℕ) (o : Option TwoReferences) (g : Granted) (new : Progress)
    → Advances (progress_at false d) r (option_changed (reference_at false) o) g new → Next2 new (Advances (progress_at true d) r (option_changed (reference_at true) o) g)
advances d r None g new h = absurd h
advances d r (Some x) g new h = advances_from d r x x.embargo g new h
