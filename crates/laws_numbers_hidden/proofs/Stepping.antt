-- Each step is a step with other numbers.
use Rattle.std.proofs.Common.{◌≡◌, ℕ, Option, None, Some, Result, refl, ap, ◌∙◌}
use Rattle.finite_maps.proofs.Values.{map_values-empty}
use Rattle.rpc_msg.specs.declared.ids.ObjectId.{ObjectId}
use Rattle.rpc_msg.specs.declared.message.PlainMessage.TheVariants as plain
use Rattle.rpc_msg.specs.declared.message.Message.{Message}
use Rattle.rpc_msg.specs.declared.message.Message.TheVariants as message
use Rattle.rpc_machine.specs.declared.command.Command.{Command}
use Rattle.rpc_machine.specs.declared.command.Command.TheVariants as command
use Rattle.rpc_machine.specs.declared.command.Granted.{Granted}
use Rattle.rpc_machine.specs.declared.command.Refusal.{Refusal}
use Rattle.rpc_machine.specs.declared.command.Effects.{Effects}
use Rattle.rpc_machine.specs.State.{State}
use Rattle.laws_numbers_hidden.specs.Renamed.{kept_by, promise_by, embargo_by, question_by, reference_by, import_by, export_by, state_by, effects_by, command_by}
use Rattle.laws_numbers_hidden.specs.Steps.{KeepsApart}
use Rattle.rpc_machine.specs.Numbers.{want_of_room}
use Rattle.rpc_machine.specs.Progress.{begin}
use Rattle.rpc_machine.specs.Down.{fallen, falling_by, Falls, IsUnchanged, ShutsFrom}
use Rattle.rpc_machine.specs.Steps.{Obeys, Refuses, LacksMemory, GoesDown, Shuts, IsDone, MayFall, MayLackMemory, Receives, WasDown, FaultsBy, LacksRoom, IsHandled}
use Rattle.laws_numbers_hidden.specs.Steps.{StepsHideNumbers}
use Rattle.laws_numbers_hidden.proofs.Going.{progress_by}
use Rattle.laws_numbers_hidden.proofs.Swept.{ends}
use Rattle.laws_numbers_hidden.proofs.Commanded.{acts}
use Rattle.laws_numbers_hidden.proofs.Heard.{takes}
use Rattle.laws_numbers_hidden.proofs.Faulted.{same_fault}
use Rattle.laws_numbers_hidden.proofs.Refused.{same_refused, within}

module _ (f : ObjectId → ObjectId) (one : KeepsApart f) where
  abbrev S : State → State
  S = state_by f

  abbrev X : Effects → Effects
  X = effects_by f

  falls_so : (s : State) (k : ℕ) → S (fallen s k) ≡ fallen (S s) k
  falls_so s k =
      let q = map_values-empty (question_by f) in
      let m = map_values-empty (import_by f) in
      let e = map_values-empty (export_by f) in
      let r = map_values-empty (reference_by f) in
      let p = map_values-empty (promise_by f) in
      let o = map_values-empty (kept_by f) in
      let b = map_values-empty (embargo_by f) in
      λ i. record (fallen (S s) k) { questions = q i; imports = m i; exports = e i; refs = r i; promises = p i; outcomes = o i; embargoes = b i }

  falls : (s : State) (k : ℕ) (x : Effects) (t : State) → Falls s k x t → Falls (S s) k (X x) (S t)
  falls s k x t h = record { effects_are = ap X h.effects_are; new_is = ap S h.new_is ∙ falls_so s k }

  unchanged : (s : State) (x : Effects) (t : State) → IsUnchanged s x t → IsUnchanged (S s) (X x) (S t)
  unchanged s x t h = record { effects_are = ap X h.effects_are; new_is = ap S h.new_is }

  shuts : (s : State) (k : ℕ) (o : Option ℕ) (x : Effects) (t : State) → ShutsFrom s k o x t → ShutsFrom (S s) k o (X x) (S t)
  shuts s k None x t h = falls s k x t h
  shuts s k (Some before) x t h = unchanged s x t h

  falls_by : (m : Message) (k : ℕ) → X (falling_by m k) ≡ falling_by m k
  falls_by (message.Plain (plain.Abort e)) k = refl
  falls_by m k = refl

  may_fall : (c : Command) → MayFall c → MayFall (command_by f c)
  may_fall (command.Host o) h = h
  may_fall (command.CloneRef r) h = h
  may_fall (command.DropRef r) h = h
  may_fall command.Bootstrap h = h
  may_fall (command.Call c) h = h
  may_fall (command.Field c path) h = h
  may_fall command.Promise h = h
  may_fall (command.Resolve p r) h = h
  may_fall (command.Reject p e) h = h
  may_fall (command.Answer t p refs) h = h
  may_fall (command.Fail t e) h = h
  may_fall (command.Finish c) h = h
  may_fall (command.Advance r) h = h
  may_fall (command.Shut k) h = h

  may_lack : (c : Command) → MayLackMemory c → MayLackMemory (command_by f c)
  may_lack (command.Host o) h = h
  may_lack (command.CloneRef r) h = h
  may_lack (command.DropRef r) h = h
  may_lack command.Bootstrap h = h
  may_lack (command.Call c) h = h
  may_lack (command.Field c path) h = h
  may_lack command.Promise h = h
  may_lack (command.Resolve p r) h = h
  may_lack (command.Reject p e) h = h
  may_lack (command.Answer t p refs) h = h
  may_lack (command.Fail t e) h = h
  may_lack (command.Finish c) h = h
  may_lack (command.Advance r) h = h
  may_lack (command.Shut k) h = h

  obeys : (s : State) (c : Command) (a : Result Granted Refusal) (x : Effects) (t : State) → Obeys s c a x t → Obeys (S s) (command_by f c) a (X x) (S t)
  obeys s c a x t (Refuses r e k u) = Refuses r (same_refused f one s c ∙ e) k (unchanged s x t u)
  obeys s c a x t (LacksMemory e m k u) = LacksMemory (same_refused f one s c ∙ e) (may_lack c m) k (unchanged s x t u)
  obeys s c a x t (GoesDown e m k u) = GoesDown (same_refused f one s c ∙ e) (may_fall c m) k (falls s want_of_room x t u)
  obeys s c a x t (Shuts n e k u) = Shuts n (ap (command_by f) e) k (shuts s n s.down x t u)
  obeys s c a x t (IsDone given e k d w) =
      IsDone given (same_refused f one s c ∙ e) k (record { acted = progress_by f d.acted; acts = acts f one (begin s) c given d.acted d.acts; ends = ends f one d.acted x t d.ends }) (within f one t w)

  receives : (s : State) (m : Message) (x : Effects) (t : State) → Receives s m x t → Receives (S s) m (X x) (S t)
  receives s m x t (WasDown d u) = WasDown d (unchanged s x t u)
  receives s m x t (FaultsBy n d e a u) = FaultsBy n d (same_fault f s m ∙ e) (ap X a ∙ falls_by m n) (ap S u ∙ falls_so s n)
  receives s m x t (LacksRoom d l u) = LacksRoom d l (falls s want_of_room x t u)
  receives s m x t (IsHandled d e h w) =
      IsHandled d (same_fault f s m ∙ e) (record { taken = progress_by f h.taken; takes = takes f one (begin s) m h.taken h.takes; ends = ends f one h.taken x t h.ends }) (within f one t w)

pub steps_hide : StepsHideNumbers
steps_hide = record {
  commands = λ f one s c a x t h. obeys f one s c a x t h;
  messages = λ f one s m x t h. receives f one s m x t h;
}
