-- What is told of calls.
use Rattle.std.proofs.Common.{◌≡◌, List, [], ◌∷◌, ◌++◌, flat_map, map, Option, refl, ap, ◌∙◌}
use Rattle.std.proofs.lemmas.Grind.{flat_map-append}
use Rattle.rpc_msg.specs.declared.message.Message.{Message}
use Rattle.rpc_journal.specs.declared.report.Delivery.{Delivery}
use Rattle.rpc_journal.specs.declared.report.Ended.{Ended}
use Rattle.rpc_machine.specs.declared.command.Effects.{Effects}
use Rattle.rpc_machine.specs.Progress.{quiet}
use Rattle.rpc_machine.specs.State.{State}
use Rattle.vat_host.specs.declared.event.Event.{Event}
use Rattle.vat_host.specs.declared.event.Event.TheVariants as event
use Rattle.vat_host.specs.Queues.{listed, told}
use Rattle.vat_host.specs.Watching.{known_by}
use Rattle.vat_hosts.specs.Calls.{calls_told, of_calls}
use Rattle.vat_hosts.proofs.Known.{AreKnown, Each, known_are}

served_are : (ds : List Delivery) (more : List Event) → flat_map of_calls (map event.Served ds ++ more) ≡ map event.Served ds ++ flat_map of_calls more
served_are [] more = refl
served_are (d ∷ ds) more = ap (λ (l : List Event). event.Served d ∷ l) (served_are ds more)

ended_are : (xs : List Ended) (more : List Event) → flat_map of_calls more ≡ [] → flat_map of_calls (map event.Ended xs ++ more) ≡ map event.Ended xs
ended_are [] more none = none
ended_are (x ∷ xs) more none = ap (λ (l : List Event). event.Ended x ∷ l) (ended_are xs more none)

calls_are : (e : Effects) (known : Option Event) → flat_map of_calls (listed known) ≡ [] → flat_map of_calls (told e known) ≡ calls_told e
calls_are e known none =
    served_are e.deliveries (map event.Ended e.answers ++ listed known) ∙ ap (λ (l : List Event). map event.Served e.deliveries ++ l) (ended_are e.answers (listed known) none)

-- The calls among events, once a step was taken that made no call known.
pub more_calls : (es : List Event) (e : Effects) (known : Option Event) → flat_map of_calls (listed known) ≡ [] → flat_map of_calls (es ++ told e known) ≡ flat_map of_calls es ++ calls_told e
more_calls es e known none = flat_map-append of_calls es (told e known) ∙ ap (λ (l : List Event). flat_map of_calls es ++ l) (calls_are e known none)

pub quiet_tells : (e : Effects) → e ≡ quiet → calls_told e ≡ []
quiet_tells e is = ap calls_told is

-- ---- what a message makes known is no call

no_calls : AreKnown (λ e. of_calls e ≡ [])
no_calls = record { resolved = λ p. refl; lifted = λ r. refl }

none_of_calls : (es : List Event) → Each (λ e. of_calls e ≡ []) es → flat_map of_calls es ≡ []
none_of_calls [] each = refl
none_of_calls (e ∷ es) (none, each) = ap (λ (l : List Event). l ++ flat_map of_calls es) none ∙ none_of_calls es each

pub known_no_call : (m : Message) (s t : State) → flat_map of_calls (listed (known_by m s t)) ≡ []
known_no_call m s t = none_of_calls (listed (known_by m s t)) (known_are (λ e. of_calls e ≡ []) no_calls m s t)
