-- What a whole step of a message sends.
use Rattle.std.specs.FinMap as map
use Rattle.std.proofs.Common.{◌≡◌, inl, ℕ, Option, None, Some, refl, sym, subst, ap, ◌∙◌}
use Rattle.finite_maps.specs.Tally.{Map}
use Rattle.rpc_msg.specs.declared.ids.Vat.{Vat}
use Rattle.rpc_msg.specs.declared.message.Message.{Message}
use Rattle.rpc_journal.specs.Sources.{Asking}
use Rattle.rpc_journal.specs.Meaning.{History}
use Rattle.rpc_machine.specs.declared.node.Node.{Node}
use Rattle.rpc_machine.specs.declared.node.Node.TheVariants as node
use Rattle.rpc_machine.specs.declared.calls.Caller.{Caller}
use Rattle.rpc_machine.specs.declared.calls.Caller.TheVariants as caller
use Rattle.rpc_machine.specs.declared.calls.KeptOutcome.{KeptOutcome}
use Rattle.rpc_machine.specs.declared.calls.Promise.{Promise}
use Rattle.rpc_machine.specs.declared.calls.Value.{Value}
use Rattle.rpc_machine.specs.declared.entries.Export.{Export}
use Rattle.rpc_machine.specs.Places.{named_by_export}
use Rattle.rpc_machine.specs.State.{State}
use Rattle.laws_acts.specs.Moments.{Moment, beginning}
use Rattle.laws_acts.specs.MessageActs.{Consumes}
use Rattle.laws_acts.specs.MessageActs as taken
use Rattle.laws_acts.specs.SmallActs.{StepsAreSmallActs}
use Rattle.laws_acts.proofs.EachStep.{at_end}
use Rattle.laws_steps.specs.NodesThere.{Stands}
use Rattle.laws_steps.proofs.Among.{named, in_exports}
use Rattle.laws_meanings.specs.MessageMeanings.{ConsumingMeans, ImportsKept, OutcomesKept}
use Rattle.laws_meanings.specs.NodeMeanings.{Meant}
use Rattle.laws_meanings.specs.NodeLabels.{Labels, Places, AreLed, EndsAreLed, field_label, label}
use Rattle.laws_meanings.proofs.CommandsMean.{up}
use Rattle.laws_wires.specs.Wires.{Session, session_of, sessions_at}
use Rattle.laws_wires.specs.Sent.{IsKept, IsAwaited, CallerSo, AllSaySo, StepsSaySo}
use Rattle.laws_wires.specs.FirstSent.{MessagesSaySo}
use Rattle.laws_wires.specs.StepsSent.{PeersAreServed, MessagesSend}
use Rattle.laws_wires.proofs.WholeSent.{is_kept, some_of}

module _ (h : History) (v : Vat) (l : Labels) (s : State) (served : PeersAreServed s) where
  awaited : (o : ℕ) (y : KeptOutcome) → map.get s.outcomes o ≡ Some y → (c : Caller) → y.caller ≡ c → (x : Option Value) → y.value ≡ x → IsAwaited h v l (sessions_at l s.answers) o c x
  awaited o y at (caller.Application c) e x f = tt
  awaited o y at (caller.Peer q) e None f = let a = served o y q at f e in ap (session_of l.outcome) a.1 ∙ ap l.outcome a.2
  awaited o y at (caller.Peer q) e (Some x) f = tt

  pub callers_so : (o : ℕ) (x : Option KeptOutcome) → map.get s.outcomes o ≡ x → CallerSo h v l (sessions_at l s.answers) o x
  callers_so o None e = tt
  callers_so o (Some y) e = awaited o y e y.caller refl y.value refl

promises_same : (s : State) (m : Message) (d : Moment) → Consumes (beginning s) m d → d.state.promises ≡ s.promises
promises_same s m d (taken.OpensRoot q o e a b u) = ap (λ (b : Moment). b.state.promises) u
promises_same s m d (taken.OpensCall c o e a b u) = ap (λ (b : Moment). b.state.promises) u
promises_same s m d (taken.Loses b x e g a c u) = ap (λ (b : Moment). b.state.promises) u
promises_same s m d (taken.ComesToCall b x c e g a r n u) = ap (λ (b : Moment). b.state.promises) u
promises_same s m d (taken.ComesToRelay b x o e g a r n u) = ap (λ (b : Moment). b.state.promises) u
promises_same s m d (taken.IsFinished y a e g c u) = ap (λ (b : Moment). b.state.promises) u
promises_same s m d (taken.IsResolved r e u) = ap (λ (b : Moment). b.state.promises) u
promises_same s m d (taken.IsReleased r e u) = ap (λ (b : Moment). b.state.promises) u
promises_same s m d (taken.SendsBack t to x e g u) = ap (λ (b : Moment). b.state.promises) u
promises_same s m d (taken.Lifts t x b e g u) = ap (λ (b : Moment). b.state.promises) u
promises_same s m d (taken.SendsForeign p e g u) = ap (λ (b : Moment). b.state.promises) u
promises_same s m d (taken.SendsOther n e u) = ap (λ (b : Moment). b.state.promises) u
promises_same s m d (taken.TakesBack r e u) = ap (λ (b : Moment). b.state.promises) u
promises_same s m d (taken.Ignores r e u) = ap (λ (b : Moment). b.state.promises) u

label_kept : (h : History) (l : Labels) (s : State) (is : ℕ → Option Meant) (os : ℕ → Option (Vat × Asking)) → ImportsKept l s is → OutcomesKept l s os → (n : Node) → Stands s n
    → label h s.vat (record l { import = is; outcome = os }) n ≡ label h s.vat l n
label_kept h l s is os i k (node.Object o) a = refl
label_kept h l s is os i k (node.Promise p) a = refl
label_kept h l s is os i k (node.Field o path) a = let x = some_of (map.get s.outcomes o) a in ap (λ (z : Session). field_label h z path) (k o x.0 x.1)
label_kept h l s is os i k (node.Import e) a = let x = some_of (map.get s.imports e.0) a in i e.0 x.0 x.1
label_kept h l s is os i k (node.Pipe q path) a = refl
label_kept h l s is os i k (node.Broken reason) a = refl

module _ (acts : StepsAreSmallActs) (consuming : ConsumingMeans) (messages : MessagesSaySo) (steps : StepsSaySo) where
  pub messages_send : MessagesSend
  messages_send h l s is y x t i heard whole one ends w silent served free k =
      let a = acts.messages s y x t free k in
      let d = a.consumed in
      let c = consuming h l s is y d i heard whole one ends w a.consumes in
      let b : Labels = record l { import = is; outcome = c.0 } in
      let said = sessions_at b d.state.answers in
      let f = messages h s.vat b said s y d a.consumes silent (λ o. callers_so h s.vat b d.state (served d a.consumes) o (map.get d.state.outcomes o) refl) in
      let r = steps h s.vat b said d a.last a.acts c.3 f in
      let m : Labels = record b { promise = r.0 } in
      let means = r.3 in
      let sent = r.4 in
      let same : t.exports ≡ (a.last).state.exports = ap (λ (z : State). z.exports) (a.ends).state in
      let end = at_end (λ u z. Places h s.vat m z u × AreLed h s.vat z.deliveries × EndsAreLed h s.vat z.answers × AllSaySo h s.vat m u.exports u.promises said z.sends) a.last x t a.ends
      (up h s.vat m (a.last).effects (a.last).state means.0, means.5, means.7, sent.0)
      in (
        d,
        a.consumes,
        (
          m,
          c.2,
          record {
            imports = λ e. refl;
            outcomes = λ o z e. c.1 o z e;
            questions = λ q. refl;
            exports = λ e n at z now is_it.
                let stands = whole.there n.node (in_exports s n.node (named named_by_export e n n.node s.exports at (inl refl))) in
                let held : IsKept d.state.promises z.node = subst (λ (P : Map Promise). IsKept P z.node) (sym (promises_same s y d a.consumes)) (subst (IsKept s.promises) (sym is_it) (is_kept s n.node stands)) in
                let u = r.2 e z now in
                let g = u.3 held in
                (u.0, ap (λ (E : Map Export). map.get E e) same ∙ u.1, u.2 ∙ is_it, subst (λ (j : Node). label h s.vat m j ≡ label h s.vat b j) is_it g.1 ∙ label_kept h l s is c.0 i c.1 n.node stands);
          },
          end.0,
          end.1,
          end.2,
          end.3,
        ),
      )
