-- A received message may be taken, and it is still so in the middle of the step.
use Rattle.std.specs.FinMap as map
use Rattle.std.proofs.Common.{◌≡◌, List, [], ◌∷◌, ◌++◌, append_assoc, None, refl, sym, subst}
use Rattle.rpc_msg.specs.declared.message.Message.{Message}
use Rattle.rpc_msg.specs.declared.message.Message.TheVariants as message
use Rattle.rpc_msg.specs.declared.message.PlainMessage.{PlainMessage}
use Rattle.rpc_msg.specs.declared.message.PlainMessage.TheVariants as plain
use Rattle.rpc_machine.specs.declared.command.Level.TheVariants.{One}
use Rattle.rpc_machine.specs.Faults.{plain_fault, resolve_fault}
use Rattle.rpc_machine.specs.Messages.{TakesPlain}
use Rattle.rpc_machine.specs.Progress.{Progress}
use Rattle.laws_steps.proofs.NamedMessages.{free_answer}
use Rattle.laws_routes.specs.Laws.{with_back}
use Rattle.laws_routes.specs.StepLaws.{MayTakePlain}
use Rattle.laws_routes.specs.Ties.{Around}
use Rattle.laws_routes.specs.Midway.{Midway, MidwayAt}
use Rattle.laws_routes.specs.Received.{IsMet}
use Rattle.laws_routes.proofs.CallsReceived.{call, first_none, resolve, rest_none}
use Rattle.laws_routes.proofs.MessagesTaken.{bootstrap, disembargo, finish, release}
use Rattle.laws_routes.proofs.MidwaySaid.{goes_out}
use Rattle.laws_routes.proofs.MidwayTaken.{off}
use Rattle.laws_routes.proofs.ReturnsReceived.{returns}

module _ (w : Around) (d : Progress) (rest : List Message) (new : Progress) (level : (d.state).level ≡ One) where
  abbrev Before : PlainMessage → Type 0
  Before x = MidwayAt (with_back w (message.Plain x ∷ rest)) d

  each : (x : PlainMessage) → Before x → plain_fault d.state x ≡ None → IsMet d.state w.other (w.out ++ d.effects.sends) rest x → (a : TakesPlain d x new) → MayTakePlain (with_back w rest) d x new a × MidwayAt (with_back w rest) new
  each (plain.Abort exception) h fine m a = absurd a
  each (plain.Bootstrap q) h fine m a = bootstrap w d q rest new (off d.state w.other (w.out ++ d.effects.sends) (plain.Bootstrap q) rest refl h level) level (free_answer (map.get d.state.answers q.0) _ fine) m a
  each (plain.Call c) h fine m a = call w d c rest new h level fine m a
  each (plain.Return r) h fine m a = let b = returns w d r rest new h level (map.get d.state.questions r.answer.0) refl m fine a in (b.0, b.1)
  each (plain.Finish x) h fine m a = finish w d x rest new h level (map.get d.state.answers x.question.0) refl m a
  each (plain.Resolve r) h fine m a = resolve w d r.promise.0 r.to r rest new refl h level (first_none (resolve_fault d.state r.to) None (rest_none _ _ (rest_none _ _ fine))) a
  each (plain.Release x) h fine m a = (m, release w d x rest new h level m a)
  each (plain.Disembargo x) h fine m a = disembargo w d x.target x.context rest new (off d.state w.other (w.out ++ d.effects.sends) (plain.Disembargo x) rest refl h level) fine m a
  each (plain.Other n) h fine m a =
      let s = d.state in
      let out = w.out ++ d.effects.sends in
      let x = message.Unimplemented (plain.Other n) in (
        tt,
        subst (MidwayAt (with_back w rest)) (sym a)
            (subst (λ (ms : List Message). Midway s w.other ms rest) (append_assoc w.out d.effects.sends (x ∷ [])) (goes_out s w.other out rest x (off s w.other out (plain.Other n) rest refl h level) (λ P. tt) (λ has. tt) tt)),
      )

pub messages_may : (w : Around) (d : Progress) (x : PlainMessage) (rest : List Message) (new : Progress) → MidwayAt (with_back w (message.Plain x ∷ rest)) d → d.state.level ≡ One → plain_fault d.state x ≡ None → IsMet d.state w.other (w.out ++ d.effects.sends) rest x
    → (a : TakesPlain d x new) → MayTakePlain (with_back w rest) d x new a × MidwayAt (with_back w rest) new
messages_may w d x rest new h level fine m a = each w d rest new level x h fine m a
