-- What is proved of what ends, and of what is let go: nothing of it is a move of the machine of routes.
use Rattle.std.specs.Prelude.{◌≡◌, ◌⊎◌, ℕ, Bool, nat_eq, true, false, Option, None, Some, IsSome, List, [], ◌∷◌, ◌++◌}
use Rattle.std.specs.FinMap as map
use Rattle.rpc_msg.specs.declared.ids.QuestionId.{QuestionId}
use Rattle.rpc_msg.specs.declared.parts.Target.{Target}
use Rattle.rpc_msg.specs.declared.parts.Target.TheVariants.{ImportedCap, PromisedAnswer}
use Rattle.rpc_msg.specs.declared.message.Finish.{Finish}
use Rattle.rpc_msg.specs.declared.message.Release.{Release}
use Rattle.rpc_msg.specs.declared.message.PlainMessage.{PlainMessage}
use Rattle.rpc_msg.specs.declared.message.PlainMessage.TheVariants as plain
use Rattle.rpc_msg.specs.declared.message.Message.{Message}
use Rattle.rpc_msg.specs.declared.message.Message.TheVariants as message
use Rattle.rpc_msg.specs.declared.ids.ExportId.{ExportId}
use Rattle.rpc_machine.specs.declared.calls.Value.{Value}
use Rattle.rpc_machine.specs.declared.entries.AnswerEntry.{AnswerEntry}
use Rattle.rpc_machine.specs.declared.entries.Question.{Question}
use Rattle.rpc_machine.specs.State.{State}
use Rattle.rpc_machine.specs.Progress.{Progress, with_state}
use Rattle.rpc_machine.specs.Flags.{obey, lower_by}
use Rattle.rpc_machine.specs.Messages.{TakesFinish}
use Rattle.rpc_machine.specs.Settling.{Returns}
use Rattle.rpc_machine.specs.Sweeping.{IsNotSent, Sweeps}
use Rattle.laws_order.specs.Machine as routing
use Rattle.laws_routes.specs.Points.{routes}
use Rattle.laws_routes.specs.Ties.{Around, Ghosts, Tied}
use Rattle.laws_routes.specs.Premises.{TargetsAreMet}
use Rattle.laws_routes.specs.Named.{AllNamed}
use Rattle.laws_routes.specs.SayingLaws.{MaySayBack}
use Rattle.rpc_msg.specs.declared.parts.Descriptor.{Descriptor}
use Rattle.rpc_msg.specs.declared.parts.Descriptor.TheVariants as descriptor
use Rattle.rpc_msg.specs.Messages.{descriptors_of}
use Rattle.laws_routes.specs.Laws.{IsFollowed, with_back}

-- The end of a step: what no place names goes, questions are finished, and imports are released.
abbrev pub SweepsAreNoMove : Type 0
SweepsAreNoMove = (w : Around) (d : Progress) (g : Ghosts) (m : routing.State routes) (new : Progress) → Tied w d g m → Sweeps d new → Tied w new g m

-- ---- Exports are lowered

-- The counts of exports may fall to these: each that the other vat has an import of is still there, each at which a
-- message on the way is aimed, and each that a descriptor on the way names.
pub record MayLower (s other : State) (out back : List Message) : Type 0 where
  pub imported : (e : ℕ) → IsSome (map.get other.imports e) → IsSome (map.get s.exports e)
  pub met : TargetsAreMet s back
  pub named : AllNamed s.exports other.exports out
  pub named_back : AllNamed other.exports s.exports back

-- A flag is obeyed.
abbrev pub FlagIsNoMove : Type 0
FlagIsNoMove =
    (w : Around) (d : Progress) (g : Ghosts) (m : routing.State routes) (flag : Bool) (ids : List ℕ) → Tied w d g m → MayLower (obey d.state flag ids) w.other (w.out ++ d.effects.sends) w.back → Tied w (with_state d (obey d.state flag ids)) g m

abbrev pub lowering : State → ℕ → ℕ → State
lowering s e n = record s { exports = lower_by s.exports e n }

-- A Release is taken.
abbrev pub ReleaseIsNoMove : Type 0
ReleaseIsNoMove =
    (w : Around) (d : Progress) (g : Ghosts) (m : routing.State routes) (x : Release) (rest : List Message) → Tied (with_back w (message.Plain (plain.Release x) ∷ rest)) d g m
    → MayLower (lowering d.state x.export.0 x.count) w.other (w.out ++ d.effects.sends) rest → Tied (with_back w rest) (with_state d (lowering d.state x.export.0 x.count)) g m

-- ---- An answer closes

abbrev pub opens_plain : ℕ → PlainMessage → Bool
opens_plain q (plain.Abort exception) = false
opens_plain q (plain.Bootstrap k) = nat_eq k.0 q
opens_plain q (plain.Call c) = nat_eq c.question.0 q
opens_plain q (plain.Return r) = false
opens_plain q (plain.Finish x) = false
opens_plain q (plain.Resolve r) = false
opens_plain q (plain.Release r) = false
opens_plain q (plain.Disembargo x) = false
opens_plain q (plain.Other n) = false

-- The message asks the question q.
abbrev pub opens : ℕ → Message → Bool
opens q (message.Plain m) = opens_plain q m
opens q (message.Unimplemented m) = false

abbrev pub IsOffAnswer : ℕ → Target → Type 0
IsOffAnswer q (ImportedCap e) = Unit {0}
IsOffAnswer q (PromisedAnswer k path) = nat_eq k.0 q ≡ false

abbrev pub AimsElsewherePlain : ℕ → PlainMessage → Type 0
AimsElsewherePlain q (plain.Abort exception) = Unit {0}
AimsElsewherePlain q (plain.Bootstrap k) = Unit {0}
AimsElsewherePlain q (plain.Call c) = IsOffAnswer q c.target
AimsElsewherePlain q (plain.Return r) = Unit {0}
AimsElsewherePlain q (plain.Finish x) = Unit {0}
AimsElsewherePlain q (plain.Resolve r) = Unit {0}
AimsElsewherePlain q (plain.Release r) = Unit {0}
AimsElsewherePlain q (plain.Disembargo x) = IsOffAnswer q x.target
AimsElsewherePlain q (plain.Other n) = Unit {0}

abbrev pub AimsElsewhere : ℕ → Message → Type 0
AimsElsewhere q (message.Plain m) = AimsElsewherePlain q m
AimsElsewhere q (message.Unimplemented m) = Unit {0}

abbrev pub Unless : Bool → Type 0 → Type 0
Unless true P = Unit {0}
Unless false P = P

-- No message is aimed at the answer q, up to where q is asked again.
abbrev pub NoneAims : ℕ → List Message → Type 0
NoneAims q [] = Unit {0}
NoneAims q (m ∷ ms) = AimsElsewhere q m × Unless (opens q m) (NoneAims q ms)

abbrev pub IsOffDescriptor : ℕ → Descriptor → Type 0
IsOffDescriptor q descriptor.None = Unit {0}
IsOffDescriptor q (descriptor.SenderHosted e) = Unit {0}
IsOffDescriptor q (descriptor.SenderPromise e) = Unit {0}
IsOffDescriptor q (descriptor.ReceiverHosted e) = Unit {0}
IsOffDescriptor q (descriptor.ReceiverAnswer k path) = nat_eq k.0 q ≡ false

abbrev pub EachOff : ℕ → List Descriptor → Type 0
EachOff q [] = Unit {0}
EachOff q (d ∷ ds) = IsOffDescriptor q d × EachOff q ds

-- No descriptor names the answer q, up to where q is asked again.
abbrev pub NoneNames : ℕ → List Message → Type 0
NoneNames q [] = Unit {0}
NoneNames q (message.Plain m ∷ ms) = EachOff q (descriptors_of (message.Plain m)) × Unless (opens q (message.Plain m)) (NoneNames q ms)
NoneNames q (message.Unimplemented m ∷ ms) = NoneNames q ms

abbrev pub IsAsked : ℕ → List Message → Type 0
IsAsked q [] = ⊥
IsAsked q (m ∷ ms) = (opens q m ≡ true) ⊎ IsAsked q ms

abbrev pub IsFinished : Option Question → Type 0
IsFinished None = Unit {0}
IsFinished (Some x) = IsNotSent x.finish → ⊥

-- The answer q may close: nothing on the way is aimed at it or names it, and its question was finished, or is asked again by
-- a message on the way.
pub record MayClose (other : State) (back : List Message) (q : ℕ) : Type 0 where
  pub aims : NoneAims q back
  pub names : NoneNames q back
  pub over : IsAsked q back ⊎ IsFinished (map.get other.questions q)

-- A Return is sent that closes its answer.
abbrev pub ClosingReturnIsSent : Type 0
ClosingReturnIsSent =
    (w : Around) (d : Progress) (q : QuestionId) (a : AnswerEntry) (v : Value) (new : Progress) → map.get d.state.answers q.0 ≡ Some a → a.finished ≡ true → MayClose w.other w.back q.0
    → (h : Returns d q a v new) → MaySayBack w d q a v new h → IsFollowed w d new

abbrev pub MayCloseIf : State → List Message → ℕ → Option (List ExportId) → Type 0
MayCloseIf other back q None = Unit {0}
MayCloseIf other back q (Some ids) = MayClose other back q

-- A Finish is taken.
abbrev pub FinishIsNoMove : Type 0
FinishIsNoMove =
    (w : Around) (d : Progress) (g : Ghosts) (m : routing.State routes) (x : Finish) (a : AnswerEntry) (rest : List Message) (new : Progress) → Tied (with_back w (message.Plain (plain.Finish x) ∷ rest)) d g m
    → map.get d.state.answers x.question.0 ≡ Some a → MayLower new.state w.other (w.out ++ d.effects.sends) rest → MayCloseIf w.other rest x.question.0 a.returned
    → TakesFinish d x.question.0 x.release_result_caps (Some a) new → Tied (with_back w rest) new g m
