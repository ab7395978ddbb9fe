-- What a message that is no fault finds: the question of a Call has no answer, and that of a Finish has one that is not finished.
use Rattle.std.proofs.Common.{◌≡◌, true, false, None, Some, sym, subst}
use Rattle.std.specs.FinMap as map
use Rattle.rpc_msg.specs.declared.message.Message.{Message}
use Rattle.rpc_msg.specs.declared.message.Message.TheVariants as msg
use Rattle.rpc_msg.specs.declared.message.PlainMessage.TheVariants as plain
use Rattle.rpc_machine.specs.declared.entries.AnswerEntry.{AnswerEntry}
use Rattle.rpc_machine.specs.State.{State}
use Rattle.laws_acts.specs.Moments.{Moment, beginning}
use Rattle.laws_acts.specs.MessageActs.{Back, Brings, ByReturn, ByEchoedRoot, ByEchoedCall, Consumes}
use Rattle.laws_acts.specs.MessageActs as message
use Rattle.rpc_machine.specs.declared.command.Level.{Level}
use Rattle.rpc_machine.specs.declared.command.Level.TheVariants.{Zero, One}
use Rattle.rpc_machine.specs.Faults.{is_foreign}
use Rattle.rpc_msg.specs.declared.message.PlainMessage.{PlainMessage}

-- Of a Call and of a Finish; of others nothing is said.
abbrev FindsPlainly : State → PlainMessage → Type 0
FindsPlainly s (plain.Call c) = map.get s.answers c.question.0 ≡ None
FindsPlainly s (plain.Finish f) = (a : AnswerEntry) × (map.get s.answers f.question.0 ≡ Some a) × (a.finished ≡ false)
FindsPlainly s m = Unit {0}

abbrev pub Finds : State → Message → Type 0
Finds s (msg.Plain m) = FindsPlainly s m
Finds s (msg.Unimplemented m) = Unit {0}

-- What is foreign at level 0 is neither.
foreign : (s : State) (p : PlainMessage) (l : Level) → is_foreign l p ≡ true → FindsPlainly s p
foreign s (plain.Bootstrap q) l e = tt
foreign s (plain.Call c) Zero e = absurd (let bad : false ≡ true = e in cc)
foreign s (plain.Call c) One e = absurd (let bad : false ≡ true = e in cc)
foreign s (plain.Return r) l e = tt
foreign s (plain.Finish f) Zero e = absurd (let bad : false ≡ true = e in cc)
foreign s (plain.Finish f) One e = absurd (let bad : false ≡ true = e in cc)
foreign s (plain.Resolve r) l e = tt
foreign s (plain.Release r) l e = tt
foreign s (plain.Disembargo d) l e = tt
foreign s (plain.Abort x) l e = tt
foreign s (plain.Other k) l e = tt

module _ (s : State) (m : Message) where
  brings : (b : Back) → Brings s m b → Finds s m
  brings b (ByReturn r e f) = subst (Finds s) (sym e) tt
  brings b (ByEchoedRoot q e f) = subst (Finds s) (sym e) tt
  brings b (ByEchoedCall c e f) = subst (Finds s) (sym e) tt

  pub found : (new : Moment) → Consumes (beginning s) m new → Finds s m
  found new (message.OpensRoot p o e f j u) = subst (Finds s) (sym e) tt
  found new (message.OpensCall c o e f j u) = subst (Finds s) (sym e) f
  found new (message.IsFinished x z e f j u) = subst (Finds s) (sym e) (z, f, j)
  found new (message.Loses b x e f j k u) = brings b e
  found new (message.ComesToCall b x c e f j k l u) = brings b e
  found new (message.ComesToRelay b x o e f j k l u) = brings b e
  found new (message.IsResolved r e u) = subst (Finds s) (sym e) tt
  found new (message.IsReleased r e u) = subst (Finds s) (sym e) tt
  found new (message.SendsBack t to x e f u) = subst (Finds s) (sym e) tt
  found new (message.Lifts t x b e f u) = subst (Finds s) (sym e) tt
  found new (message.SendsForeign p e f u) = subst (Finds s) (sym e) (foreign s p s.level f)
  found new (message.SendsOther n e u) = subst (Finds s) (sym e) tt
  found new (message.TakesBack r e u) = subst (Finds s) (sym e) tt
  found new (message.Ignores r e u) = subst (Finds s) (sym e) tt
