-- A reference whose wire was resolved to something of its own vat turns back under an embargo.
use Rattle.std.proofs.Common.{◌≡◌, ◌⊎◌, inl, inr, ℕ, true, cond, nat_eq, [], ◌∷◌, ◌++◌, Option, None, Some, refl, ap, subst, ◌∙◌, arith}
use Rattle.std.specs.FinMap as map
use Rattle.finite_maps.specs.Tally.{Map}
use Rattle.rpc_msg.specs.declared.ids.RefId.{RefId}
use Rattle.rpc_msg.specs.declared.ids.EmbargoId.{EmbargoId}
use Rattle.rpc_msg.specs.declared.parts.Target.{Target}
use Rattle.rpc_msg.specs.declared.parts.Descriptor.{Descriptor}
use Rattle.rpc_msg.specs.declared.parts.Descriptor.TheVariants as descriptor
use Rattle.rpc_msg.specs.declared.message.Disembargo.{Disembargo}
use Rattle.rpc_msg.specs.declared.message.DisembargoContext.TheVariants.{SenderLoopback}
use Rattle.rpc_journal.specs.declared.report.Advanced.TheVariants as advanced
use Rattle.rpc_machine.specs.declared.node.Node.{Node}
use Rattle.rpc_machine.specs.declared.command.Command.TheVariants as command
use Rattle.rpc_machine.specs.declared.command.Granted.{Granted}
use Rattle.rpc_machine.specs.declared.command.Granted.TheVariants as granted
use Rattle.rpc_machine.specs.declared.command.Effects.{Effects}
use Rattle.rpc_machine.specs.declared.entries.Reference.{Reference}
use Rattle.rpc_machine.specs.State.{State}
use Rattle.rpc_machine.specs.Nodes.{settle}
use Rattle.rpc_machine.specs.Progress.{Progress, begin}
use Rattle.rpc_machine.specs.Advancing.{Known, Leads, known_of_wire, wire_target, Embargoes, AdvancesBy, AdvancesTo, AdvancesFrom, Advances}
use Rattle.rpc_machine.specs.Steps.{Ends, Does}
use Rattle.rpc_machine_examples.specs.HeldEmbargoes.{IsReceiverKind, disembargos, TurnsBack}
use Rattle.rpc_machine_examples.proofs.EndOfStep.{no_disembargos, ends_quietly}
use Rattle.finite_maps.proofs.Tested.{itself, get_put}

pub get_put_same : {X : Type 0} (m : Map X) (k : ℕ) (x : X) → map.get (map.insert m k x) k ≡ Some x
get_put_same m k x = get_put m k x k ∙ ap (λ b. cond b (Some x) (map.get m k)) (itself k)

turned : (s : State) (r : RefId) (y : Reference) (t : Option Target) (n : Node) (g : Granted) (acted : Progress) (x : Effects) (new : State) → wire_target (settle s y.head) ≡ t → Embargoes (begin s) r.0 y t n g acted → Ends acted x new → (g ≡ granted.Advanced advanced.Embargoed) × TurnsBack s r y n x new
turned s r y None n g acted x new w h ends = absurd h
turned s r y (Some target) n g acted x new w h ends =
    let k = h.1 in
    let q = ends_quietly acted x new ends (ap (λ (p : Progress). p.arisen) k.2) in
    let rest = q.0 in
    let more = q.3 in
    let said : Disembargo = record { target = target; context = SenderLoopback (record { 0 = k.0 }) } in (
      h.0,
      record {
        embargo = k.0;
        sent = said;
        was_free = k.1;
        stands = ap (λ j. map.get j k.0) (rest.0 ∙ ap (λ (p : Progress). p.state.embargoes) k.2) ∙ get_put_same s.embargoes k.0 (record { reference = r; node = n; waiting = [] });
        waits = ap (λ j. map.get j r.0) (rest.1 ∙ ap (λ (p : Progress). p.state.refs) k.2) ∙ get_put_same s.refs r.0 (record { head = n; embargo = Some (record { 0 = k.0 }); made = y.made });
        only_one = ap disembargos (more.2 ∙ ap (λ (p : Progress). p.effects.sends ++ more.0) k.2) ∙ ap (λ xs. said ∷ xs) (no_disembargos more.0 more.1);
        to_the_wire = w;
        carries = refl;
      },
    )

abbrev Outcome : State → RefId → Granted → Effects → State → Reference → Node → Type 0
Outcome s r g x new y n =
    ((g ≡ granted.Advanced advanced.Nothing) × (settle s n ≡ settle s y.head)) ⊎ ((g ≡ granted.Advanced advanced.Embargoed) × TurnsBack s r y n x new)

by_kind : (s : State) (r : RefId) (y : Reference) (said : Descriptor) (n : Node) (g : Granted) (acted : Progress) (x : Effects) (new : State) → IsReceiverKind said → AdvancesBy (begin s) r.0 y (settle s y.head) said n g acted → Ends acted x new → Outcome s r g x new y n
by_kind s r y descriptor.None n g acted x new k h ends = absurd k
by_kind s r y (descriptor.SenderHosted e) n g acted x new k h ends = absurd k
by_kind s r y (descriptor.SenderPromise e) n g acted x new k h ends = absurd k
by_kind s r y (descriptor.ReceiverHosted e) n g acted x new k h ends = inr (turned s r y (wire_target (settle s y.head)) n g acted x new refl h ends)
by_kind s r y (descriptor.ReceiverAnswer q path) n g acted x new k h ends = inr (turned s r y (wire_target (settle s y.head)) n g acted x new refl h ends)

pub turns : (s : State) (r : RefId) (g : Granted) (x : Effects) (new : State) (y : Reference) (said : Descriptor) (n : Node) → Does s (command.Advance r) g x new → map.get s.refs r.0 ≡ Some y → y.embargo ≡ None → known_of_wire s (settle s y.head) ≡ Leads said n → IsReceiverKind said → Outcome s r g x new y n
turns s r g x new y said n h there free known kind =
    let a : AdvancesFrom (begin s) r.0 y y.embargo g h.acted = subst (λ o. Advances (begin s) r.0 o g h.acted) there h.acts in
    let b : AdvancesTo (begin s) r.0 y (settle s y.head) (known_of_wire s (settle s y.head)) g h.acted = subst (λ (o : Option EmbargoId). AdvancesFrom (begin s) r.0 y o g h.acted) free a in
    let c : AdvancesTo (begin s) r.0 y (settle s y.head) (Leads said n) g h.acted = subst (λ (o : Known). AdvancesTo (begin s) r.0 y (settle s y.head) o g h.acted) known b in
    by c
  where
    by : AdvancesTo (begin s) r.0 y (settle s y.head) (Leads said n) g h.acted → Outcome s r g x new y n
    by (inl k) = let stays = k.1 in inl (stays.0, k.0)
    by (inr k) = by_kind s r y said n g h.acted x new kind k.1 h.ends
