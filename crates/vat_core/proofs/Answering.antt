-- What commands answer that are refused, and what a shut does.
use Rattle.std.proofs.Common.{◌≡◌, ℕ, Bool, true, false, not, ◌&&◌, is_some, Option, Some, Result, Ok, Err, [], ◌∷◌, ◌++◌, refl, sym, ap, subst, ◌∙◌}
use Rattle.rpc_journal.specs.History.{if_so}
use Rattle.rpc_machine.specs.declared.command.Command.{Command}
use Rattle.rpc_machine.specs.declared.command.Command.TheVariants as command
use Rattle.rpc_machine.specs.declared.command.Granted.{Granted}
use Rattle.rpc_machine.specs.declared.command.Granted.TheVariants as granted
use Rattle.rpc_machine.specs.declared.command.Refusal.{Refusal}
use Rattle.rpc_machine.specs.declared.command.Refusal.TheVariants as refusal
use Rattle.rpc_machine.specs.declared.command.Effects.{Effects}
use Rattle.rpc_machine.specs.State.{State}
use Rattle.core_store.specs.Holding.{state_of}
use Rattle.core_steps.specs.declared.machine.Machine.{Machine}
use Rattle.rpc_machine.specs.Progress.{quiet}
use Rattle.rpc_machine.specs.Lists.{earliest}
use Rattle.rpc_machine.specs.Refusals.{refused, refusals, without_room, is_shut}
use Rattle.rpc_machine.specs.Down.{ShutsFrom}
use Rattle.vat_core.specs.declared.commands.Answer.{Answer}
use Rattle.vat_core.specs.declared.commands.Answer.TheVariants.{Done}
use Rattle.vat_core.specs.Answers.{AnswersTo}
use Rattle.rpc_machine.specs.Steps.{Obeys, Refuses, Shuts}

pub refuses : (s : State) (c : Command) (r : Refusal) → refused s c ≡ Some r → Obeys s c (Err r) quiet s
refuses s c r why = Refuses r why refl (record { effects_are = refl; new_is = refl })

pub shuts : (s t : State) (n : ℕ) (effects : Effects) → ShutsFrom s n s.down effects t → Obeys s (command.Shut n) (Ok granted.Done) effects t
shuts s t n effects h = Shuts n refl refl h

-- The same of a state that is known by another name.
pub refuses_at : (s t : State) (c : Command) (r : Refusal) → s ≡ t → refused s c ≡ Some r → Obeys t c (Err r) quiet t
refuses_at s t c r same why = refuses t c r (ap (λ (x : State). refused x c) (sym same) ∙ why)

pub obeys_at : (s t new : State) (c : Command) (answer : Result Granted Refusal) (effects : Effects) → s ≡ t → Obeys s c answer effects new → Obeys t c answer effects new
obeys_at s t new c answer effects same obeys = subst (λ (x : State). Obeys x c answer effects new) same obeys

-- The same once ways were made short.
pub refuses_walked : (m n : Machine) (t : State) (c : Command) (r : Refusal) → n ≡ m → state_of m.step.store ≡ t → refused (state_of n.step.store) c ≡ Some r → Obeys t c (Err r) quiet (state_of n.step.store)
refuses_walked m n t c r short same why =
    let is = ap (λ (x : Machine). state_of x.step.store) short ∙ same in
    subst (λ (x : State). Obeys x c (Err r) quiet (state_of n.step.store)) is (refuses (state_of n.step.store) c r why)

-- A vat that is down refuses all but a shut.
pub down_refuses : (s : State) (c : Command) (n : ℕ) → is_shut c ≡ false → s.down ≡ Some n → refused s c ≡ Some refusal.Down
down_refuses s c n other down =
    ap (λ (o : Option ℕ). earliest (if_so (is_some o && not (is_shut c)) refusal.Down ∷ refusals s c ++ without_room s c ∷ [])) down
    ∙ ap (λ (b : Bool). earliest (if_so (true && not b) refusal.Down ∷ refusals s c ++ without_room s c ∷ [])) other

-- ---- Commands of any kind

pub answers_done : (s t : State) (c : Command) (g : Granted) (effects : Effects) → Obeys s c (Ok g) effects t → AnswersTo s c (Done g effects) t
answers_done s t c g effects obeys = record { obeys = obeys; handed_back = tt; unchanged = tt }

pub answers_quietly : (s t : State) (c : Command) (g : Granted) (effects : Effects) → effects ≡ quiet → Obeys s c (Ok g) quiet t → AnswersTo s c (Done g effects) t
answers_quietly s t c g effects none obeys = answers_done s t c g effects (subst (λ (e : Effects). Obeys s c (Ok g) e t) (sym none) obeys)

pub answers_known : (s t : State) (c d : Command) (a : Answer) → c ≡ d → AnswersTo s d a t → AnswersTo s c a t
answers_known s t c d a is answers = subst (λ (x : Command). AnswersTo s x a t) (sym is) answers
