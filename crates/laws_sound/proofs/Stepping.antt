-- A step in a scene: its first act, then one act after the other, then with what its effects write.
use Rattle.std.proofs.Common.{◌≡◌, ◌⊎◌, inl, inr, ℕ, false, true, Option, None, Some, IsSome, [], ◌∷◌, ◌++◌, refl, sym, ap, ◌∙◌, subst}
use Rattle.std.specs.FinMap as map
use Rattle.rpc_msg.specs.declared.ids.Vat.{Vat}
use Rattle.rpc_msg.specs.Vats.{other_vat}
use Rattle.rpc_journal.specs.declared.entry.JournalEntry.TheVariants as entry
use Rattle.rpc_journal.specs.Meaning.{History}
use Rattle.rpc_machine.specs.declared.calls.KeptOutcome.{KeptOutcome}
use Rattle.rpc_machine.specs.declared.calls.Promise.{Promise}
use Rattle.rpc_machine.specs.declared.command.Command.{Command}
use Rattle.rpc_machine.specs.declared.command.Effects.{Effects}
use Rattle.rpc_machine.specs.declared.command.Granted.{Granted}
use Rattle.rpc_machine.specs.declared.entries.Import.{Import}
use Rattle.rpc_machine.specs.declared.entries.Question.{Question}
use Rattle.rpc_machine.specs.declared.node.Node.{Node}
use Rattle.rpc_machine.specs.declared.node.Node.TheVariants as node
use Rattle.rpc_machine.specs.State.{State}
use Rattle.rpc_machine.specs.Claims.{history}
use Rattle.rpc_machine.specs.Journal.{granted_entries}
use Rattle.rpc_machine.specs.Places.{named_by_export}
use Rattle.rpc_machine.specs.Progress.{quiet}
use Rattle.rpc_machine.specs.World.{core}
use Rattle.laws_acts.specs.Moments.{Moment, beginning}
use Rattle.laws_acts.specs.FirstActs.{Starts}
use Rattle.laws_acts.specs.SmallActs.{Acts, IsEnd}
use Rattle.laws_acts.proofs.Commanded.{does}
use Rattle.laws_acts.proofs.EachStep.{at_end}
use Rattle.laws_acts.proofs.Received.{handles}
use Rattle.laws_steps.specs.Callers.{IsAskedFor}
use Rattle.laws_steps.specs.NodesThere.{IsWhole, Stands}
use Rattle.laws_steps.proofs.Among.{named, in_exports}
use Rattle.laws_meanings.specs.CommandMeanings.{OpensNothing, IsWritten, IsWrittenOpen, FirstActsMean, FirstOpeningsMean, LabelsKept}
use Rattle.laws_meanings.specs.FitCores.{CoresAreFit, IsFit}
use Rattle.laws_meanings.specs.LastingMeanings.{EffectsAreWritten, MomentsLast, PlacesLast}
use Rattle.laws_meanings.specs.MessageMeanings.{AnswersOf, ConsumingMeans, IsHeard, with_imports}
use Rattle.laws_meanings.specs.NodeMeanings.{Meant}
use Rattle.laws_meanings.specs.NodeLabels.{Labels, MomentMeans, Places, field_label, label}
use Rattle.laws_meanings.specs.WrittenCommands.{CommandsAreWritten, Opens}
use Rattle.laws_meanings.proofs.CommandsMean.{up}
use Rattle.laws_wires.specs.Sent.{AllSaySo, IsKept, SentMean, StepsSaySo}
use Rattle.laws_wires.specs.SceneSessions.{AnswersStay}
use Rattle.laws_wires.proofs.AnswersLeft.{acts_leave_answers}
use Rattle.laws_wires.specs.SceneOut.{ActsAskSo, AreAskedSo, CommandsAskSo, MessagesAskSo}
use Rattle.laws_wires.specs.Wires.{Session, past_one, sessions_at}
use Rattle.laws_sound.specs.OldestHeard.{OldestAreHeard, exports_mean}
use Rattle.laws_sound.specs.StepsInScenes.{AreKept, CommandsStep, FirstActsSend, HasStepped, MessagesStep}
use Rattle.laws_sound.proofs.PromisesStay.{Stay, started, consumed}
use Rattle.laws_wires.proofs.WholeSent.{all_same}
use Rattle.laws_meanings.proofs.StepsMean.{opens_or_not}

-- ---- What is named keeps its label

module _ (h : History) (v : Vat) (l m : Labels) (s : State) (k : AreKept l m s) where
  at_promise : (p : ℕ) (o : Option Promise) → map.get s.promises p ≡ o → IsSome o → m.promise p ≡ l.promise p
  at_promise p None e i = absurd (let bad : false ≡ true = i in cc)
  at_promise p (Some y) e i = k.promises p y e

  at_outcome : (o : ℕ) (y : Option KeptOutcome) → map.get s.outcomes o ≡ y → IsSome y → m.outcome o ≡ l.outcome o
  at_outcome o None e i = absurd (let bad : false ≡ true = i in cc)
  at_outcome o (Some y) e i = k.outcomes o y e

  at_import : (n : ℕ) (o : Option Import) → map.get s.imports n ≡ o → IsSome o → m.import n ≡ l.import n
  at_import n None e i = absurd (let bad : false ≡ true = i in cc)
  at_import n (Some y) e i = k.imports n y e

  at_question : (q c : ℕ) (o : Option Question) → map.get s.questions q ≡ o → IsAskedFor c o → m.question q ≡ l.question q
  at_question q c None e i = absurd i
  at_question q c (Some y) e i = k.questions q y e

  label_kept : (n : Node) → Stands s n → label h v m n ≡ label h v l n
  label_kept (node.Object o) i = refl
  label_kept (node.Promise p) i = at_promise p (map.get s.promises p) refl i
  label_kept (node.Field o path) i = ap (λ z. field_label h z path) (at_outcome o (map.get s.outcomes o) refl i)
  label_kept (node.Import e) i = at_import e.0 (map.get s.imports e.0) refl i
  label_kept (node.Pipe q path) i = ap (λ z. field_label h z path) (at_question q.0 i.0 (map.get s.questions q.0) refl i.1)
  label_kept (node.Broken reason) i = refl

some_promise : (o : Option Promise) → IsSome o → (y : Promise) × (o ≡ Some y)
some_promise None i = absurd (let bad : false ≡ true = i in cc)
some_promise (Some y) i = (y, refl)

is_kept : (s : State) (d : Moment) → Stay s d → (n : Node) → Stands s n → IsKept d.state.promises n
is_kept s d stay (node.Object o) i = tt
is_kept s d stay (node.Promise p) i = let y = some_promise (map.get s.promises p) i in stay p y.0 y.1
is_kept s d stay (node.Field o path) i = tt
is_kept s d stay (node.Import e) i = tt
is_kept s d stay (node.Pipe q path) i = tt
is_kept s d stay (node.Broken reason) i = tt

-- ---- Behind the first act

-- What a whole step leads to, by the history h that has its own entry.
abbrev Led : (h : History) (v : Vat) (l : Labels) (s first : State) (said : ℕ → Session) (told : Effects) (t : State) (n : Labels) → Type 0
Led h v l s first said told t n = (ps : ℕ → Option Meant) × Places h v (record n { promise = ps }) told t × HasStepped h v l s first said told t (record n { promise = ps })

stepped : StepsSaySo → ActsAskSo → (h : History) (v : Vat) (l n : Labels) (s : State) (d last : Moment) (said : ℕ → Session) (told : Effects) (t : State)
    → AreKept l n s → IsWhole s → Stay s d → Acts last d → IsEnd last told t → MomentMeans h v n d → SentMean h v n said d → AreAskedSo v n s d.effects.sends d.state → Led h v l s d.state said told t n
stepped say ask h v l n s d last said told t kept whole stay acts ends i g asked =
    let z = say h v n said d last acts i g in
    let m : Labels = record n { promise = z.0 } in
    let a = ask h v n s d last acts i asked in
    let e = at_end (λ u y. Places h v m y u × AllSaySo h v m u.exports u.promises said y.sends × AreAskedSo v m s y.sends u) last told t ends (up h v m last.effects last.state z.3.0, z.4.0, a) in (
      z.0,
      e.0,
      record {
        imports = kept.imports;
        outcomes = kept.outcomes;
        questions = kept.questions;
        answers = subst (λ (u : State). AnswersStay d.state u) (sym ends.state) (acts_leave_answers last d acts);
        exports = λ k x y at was same.
            let stands = whole.there x.node (in_exports s x.node (named named_by_export k x x.node s.exports at (inl refl))) in
            let r = z.2 k y was in
            let y_kept : IsKept d.state.promises y.node = subst (IsKept d.state.promises) (sym same) (is_kept s d stay x.node stands) in (
              r.0,
              subst (λ (u : State). map.get u.exports k ≡ Some r.0) (sym ends.state) r.1,
              r.2 ∙ same,
              subst (λ (u : Node). label h v m u ≡ label h v n u) same (r.3 y_kept).1 ∙ label_kept h v l n s kept x.node stands,
            );
        sent = e.1;
        asked = e.2;
      },
    )

-- ---- A command

of_labels : (l m : Labels) (s : State) → LabelsKept l m s → AreKept l m s
of_labels l m s k = record { promises = k.promises; imports = λ e y f. k.imports e; outcomes = k.outcomes; questions = k.questions }

module _ (plain : FirstActsMean) (opens : FirstOpeningsMean) where
  begun : (h : History) (v : Vat) (l : Labels) (s : State) (c : Command) (g : Granted) (d : Moment) → IsFit v s → OpensNothing c ⊎ Opens c → IsWritten h v s c → (Opens c → IsWrittenOpen h v s c) → Places h v l quiet s → Starts (beginning s) c g d
      → (m : Labels) × LabelsKept l m s × MomentMeans h v m d
  begun h v l s c g d fit (inl o) w f i k = (l, all_same l s, plain h v l s c g d o w fit.questions i k)
  begun h v l s c g d fit (inr o) w f i k =
      subst (λ (u : Vat). (m : Labels) × LabelsKept l m s × MomentMeans h u m d) fit.vat
      (opens h l s c g d (subst (λ (u : Vat). IsWrittenOpen h u s c) (sym fit.vat) (f o)) fit.whole fit.one_source fit.questions fit.paired (subst (λ (u : Vat). Places h u l quiet s) (sym fit.vat) i) k)

opens_as_written : (h : History) (v : Vat) (s : State) (c : Command) → OpensNothing c ⊎ Opens c → (Opens c → IsWrittenOpen h v s c) → OpensNothing c ⊎ IsWrittenOpen h v s c
opens_as_written h v s c (inl o) f = inl o
opens_as_written h v s c (inr o) f = inr (f o)

pub commands_step : StepsSaySo → ActsAskSo → CommandsAskSo → FirstActsMean → FirstOpeningsMean → CoresAreFit → CommandsAreWritten → PlacesLast → EffectsAreWritten → FirstActsSend → CommandsStep
commands_step say ask first plain openings fits written places effects sends a b x new l v c g told t scene after i over r k journal =
    let s = core x.world v in
    let own = granted_entries x.journal v c g in
    let h = history a b (x.journal ++ own) in
    let fit = fits a b x scene v in
    let w = written a b x v c g told t scene over r k in
    let acts = does s c g told t k in
    let z = begun plain openings h v (l v) s c g acts.started fit (opens_or_not c) w.0 w.1 (places (history a b x.journal) own v (l v) quiet s (i.places v)) acts.starts in
    let kept = of_labels (l v) z.0 s z.1 in
    let g0 = (sends a b).0 x l v c g told t z.0 acts.started scene i over r k acts.starts kept z.1.imports z.2 in
    let asked = first h v z.0 s c g acts.started (opens_as_written h v s c (opens_or_not c) w.1) acts.starts z.2 in
    let e = stepped say ask h v (l v) z.0 s acts.started acts.last (sessions_at (l v) s.answers) told t kept fit.whole (started s c g acts.started acts.starts) acts.acts acts.ends z.2 g0 asked in
    let m : Labels = record (z.0) { promise = e.0 } in
    (acts.started, acts.starts, (m, z.1.imports, effects a b new (x.journal ++ own) v m told t after journal e.1, e.2))

-- ---- A message

pub messages_step : StepsSaySo → ActsAskSo → MessagesAskSo → OldestAreHeard → ConsumingMeans → CoresAreFit → MomentsLast → EffectsAreWritten → FirstActsSend → MessagesStep
messages_step say ask first heard consumes fits lasts effects sends a b x new l v y ms told t scene after i inbox free k journal =
    let s = core x.world v in
    let before = history a b x.journal in
    let own = entry.Got v ∷ [] in
    let h = history a b (x.journal ++ own) in
    let is = exports_mean before x.world l (other_vat v) in
    let fit = fits a b x scene v in
    let said = past_one (other_vat v) (sessions_at (l v) s.answers) y in
    let acts = handles s y told t free k in
    let u = heard a b x l v y ms scene inbox free i in
    let z = consumes before (l v) s is y acts.consumed u.0 (subst (λ (w : Vat). IsHeard before w (with_imports (l v) is) s y) (sym fit.vat) u.1) fit.whole fit.one_source fit.questions (subst (λ (w : Vat). Places before w (l v) quiet s) (sym fit.vat) (i.places v)) acts.consumes in
    let n : Labels = record (l v) { import = is; outcome = z.0 } in
    let answers = subst (λ (w : Vat). AnswersOf z.0 (other_vat w) acts.consumed.state y) fit.vat z.2 in
    let moment : MomentMeans h v n acts.consumed = lasts before own v n acts.consumed (subst (λ (w : Vat). MomentMeans before w n acts.consumed) fit.vat z.3) in
    let kept : AreKept (l v) n s = (record { promises = λ p q e. refl; imports = u.0; outcomes = z.1; questions = λ p q e. refl }) in
    let g0 = (sends a b).1 x l v y ms z.0 acts.consumed scene i inbox free acts.consumes z.1 answers moment in
    let asked = first v n s y acts.consumed acts.consumes in
    let e = stepped say ask h v (l v) n s acts.consumed acts.last said told t kept fit.whole (consumed s y acts.consumed acts.consumes) acts.acts acts.ends moment g0 asked in
    let m : Labels = record n { promise = e.0 } in
    (acts.consumed, acts.consumes, (m, (λ p. refl), answers, effects a b new (x.journal ++ own) v m told t after journal e.1, e.2))
