-- What a whole step of a command sends.
use Rattle.std.specs.FinMap as map
use Rattle.std.proofs.Common.{◌≡◌, ◌⊎◌, inl, inr, ℕ, false, true, Option, None, Some, IsSome, refl, sym, subst, ap, ◌∙◌}
use Rattle.finite_maps.specs.Tally.{Map}
use Rattle.rpc_journal.specs.Meaning.{History}
use Rattle.rpc_machine.specs.declared.node.Node.{Node}
use Rattle.rpc_machine.specs.declared.node.Node.TheVariants as node
use Rattle.rpc_machine.specs.declared.calls.Caller.{Caller}
use Rattle.rpc_machine.specs.declared.calls.Caller.TheVariants as caller
use Rattle.rpc_machine.specs.declared.calls.KeptOutcome.{KeptOutcome}
use Rattle.rpc_machine.specs.declared.calls.Value.{Value}
use Rattle.rpc_machine.specs.declared.command.Command.{Command}
use Rattle.rpc_machine.specs.declared.command.Granted.{Granted}
use Rattle.rpc_machine.specs.declared.entries.Export.{Export}
use Rattle.rpc_machine.specs.declared.entries.Question.{Question}
use Rattle.rpc_machine.specs.Places.{named_by_export}
use Rattle.rpc_machine.specs.Progress.{quiet}
use Rattle.rpc_machine.specs.State.{State}
use Rattle.laws_acts.specs.Moments.{Moment, beginning}
use Rattle.laws_acts.specs.FirstActs.{Starts}
use Rattle.laws_acts.specs.SmallActs.{StepsAreSmallActs}
use Rattle.laws_acts.proofs.EachStep.{at_end}
use Rattle.laws_steps.specs.Callers.{IsAskedFor}
use Rattle.laws_steps.specs.NodesThere.{IsWhole, Stands}
use Rattle.laws_steps.proofs.Among.{named, in_exports}
use Rattle.laws_nodes.specs.Embargoes.{ArePaired}
use Rattle.laws_nodes.specs.Questions.{QuestionsEnd}
use Rattle.laws_nodes.specs.Sources.{HasOneSource}
use Rattle.laws_meanings.specs.CommandMeanings.{OpensNothing, IsWritten, IsWrittenOpen, LabelsKept, FirstActsMean, FirstOpeningsMean}
use Rattle.laws_meanings.specs.NodeLabels.{Labels, Places, AreLed, EndsAreLed, MomentMeans, field_label, label}
use Rattle.laws_meanings.proofs.CommandsMean.{up}
use Rattle.laws_wires.specs.Wires.{Session}
use Rattle.laws_wires.specs.Sent.{IsKept, IsAwaited, CallerSo, AllSaySo, StepsSaySo}
use Rattle.laws_wires.specs.FirstSent.{CommandsSaySo}
use Rattle.laws_wires.specs.StepsSent.{CommandsSend}
use Rattle.laws_wires.proofs.StillSo.{kept_all}

pub some_of : {X : Type 0} (o : Option X) → IsSome o → (x : X) × (o ≡ Some x)
some_of None i = absurd (let bad : false ≡ true = i in cc)
some_of (Some x) i = (x, refl)

asked_of : (c : ℕ) (o : Option Question) → IsAskedFor c o → (x : Question) × (o ≡ Some x)
asked_of c None i = absurd i
asked_of c (Some x) i = (x, refl)

module _ (h : History) (l m : Labels) (s : State) (k : LabelsKept l m s) where
  label_kept : (n : Node) → Stands s n → label h s.vat m n ≡ label h s.vat l n
  label_kept (node.Object o) i = refl
  label_kept (node.Promise p) i = let x = some_of (map.get s.promises p) i in k.promises p x.0 x.1
  label_kept (node.Field o path) i = let x = some_of (map.get s.outcomes o) i in ap (λ (z : Session). field_label h z path) (k.outcomes o x.0 x.1)
  label_kept (node.Import e) i = k.imports e.0
  label_kept (node.Pipe q path) i = let x = asked_of i.0 (map.get s.questions q.0) i.1 in ap (λ (z : Session). field_label h z path) (k.questions q.0 x.0 x.1)
  label_kept (node.Broken reason) i = refl

  awaited : (said : ℕ → Session) (o : ℕ) (c : Caller) (x : Option Value) → m.outcome o ≡ l.outcome o → IsAwaited h s.vat l said o c x → IsAwaited h s.vat m said o c x
  awaited said o (caller.Application c) x e i = tt
  awaited said o (caller.Peer q) None e i = i ∙ sym e
  awaited said o (caller.Peer q) (Some x) e i = tt

  callers_kept : (said : ℕ → Session) (o : ℕ) (x : Option KeptOutcome) → map.get s.outcomes o ≡ x → CallerSo h s.vat l said o x → CallerSo h s.vat m said o x
  callers_kept said o None e i = tt
  callers_kept said o (Some x) e i = awaited said o x.caller x.value (k.outcomes o x e) i

pub is_kept : (s : State) (n : Node) → Stands s n → IsKept s.promises n
is_kept s (node.Object o) i = tt
is_kept s (node.Promise p) i = some_of (map.get s.promises p) i
is_kept s (node.Field o path) i = tt
is_kept s (node.Import e) i = tt
is_kept s (node.Pipe q path) i = tt
is_kept s (node.Broken reason) i = tt

pub all_same : (l : Labels) (s : State) → LabelsKept l l s
all_same l s = record { promises = λ p y e. refl; imports = λ e. refl; outcomes = λ o y e. refl; questions = λ q y e. refl }

module _ (acts : StepsAreSmallActs) (plain : FirstActsMean) (openings : FirstOpeningsMean) (commands : CommandsSaySo) (steps : StepsSaySo) where
  begun : (h : History) (l : Labels) (s : State) (c : Command) (g : Granted) (d : Moment) → (OpensNothing c × IsWritten h s.vat s c) ⊎ IsWrittenOpen h s.vat s c → IsWhole s → HasOneSource s → QuestionsEnd s → ArePaired s → Places h s.vat l quiet s
      → Starts (beginning s) c g d → (m : Labels) × LabelsKept l m s × MomentMeans h s.vat m d
  begun h l s c g d (inl w) whole one ends paired i a = (l, all_same l s, plain h s.vat l s c g d w.0 w.1 ends i a)
  begun h l s c g d (inr w) whole one ends paired i a = openings h l s c g d w whole one ends paired i a

  pub commands_send : CommandsSend
  commands_send h l said s c g x t w whole one ends paired i callers k =
      let a = acts.commands s c g x t k in
      let b = begun h l s c g a.started w whole one ends paired i a.starts in
      let kept = b.1 in
      let f = commands h (b.0) said s c g a.started w a.starts b.2 (λ o. callers_kept h l b.0 s kept said o (map.get s.outcomes o) refl (callers o)) in
      let r = steps h s.vat (b.0) said a.started a.last a.acts b.2 f.2 in
      let m : Labels = record (b.0) { promise = r.0 } in
      let means = r.3 in
      let sent = r.4 in
      let same : t.exports ≡ (a.last).state.exports = ap (λ (z : State). z.exports) (a.ends).state in
      let end = at_end (λ u y. Places h s.vat m y u × AreLed h s.vat y.deliveries × EndsAreLed h s.vat y.answers × AllSaySo h s.vat m u.exports u.promises said y.sends) a.last x t a.ends
      (up h s.vat m (a.last).effects (a.last).state means.0, means.5, means.7, sent.0)
      in (
        m,
        record {
          imports = λ e. kept.imports e;
          outcomes = λ o y e. kept.outcomes o y e;
          questions = λ q y e. kept.questions q y e;
          exports = λ e y at.
              let stands = whole.there y.node (in_exports s y.node (named named_by_export e y y.node s.exports at (inl refl))) in
              let z = f.0 e y at in
              let held = subst (IsKept (a.started).state.promises) (sym z.2) (kept_all s.promises (a.started).state.promises f.1 y.node (is_kept s y.node stands)) in
              let u = r.2 e z.0 z.1 in
              let v = u.3 held in
              (u.0, ap (λ (E : Map Export). map.get E e) same ∙ u.1, u.2 ∙ z.2, subst (λ (n : Node). label h s.vat m n ≡ label h s.vat (b.0) n) z.2 v.1 ∙ label_kept h l b.0 s kept y.node stands);
        },
        end.0,
        end.1,
        end.2,
        end.3,
      )
