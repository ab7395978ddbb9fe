-- Commands: what they give fits into frames, the exports that they may want have a place, and a call's reference takes the shorter path
-- before.
use Rattle.std.specs.Prelude.{◌≡◌, true, false, IsOk, List, Option, Some, None, Result, Ok, Err, ◌⊎◌}
use Rattle.rpc_msg.specs.Payloads.{Contents}
use Rattle.rpc_msg.specs.declared.exception.Exception.{Exception}
use Rattle.rpc_msg.specs.declared.ids.CallId.{CallId}
use Rattle.rpc_msg.specs.declared.ids.RefId.{RefId}
use Rattle.rpc_journal.specs.declared.report.Advanced.{Advanced}
use Rattle.rpc_machine.specs.declared.command.CallCommand.{CallCommand}
use Rattle.rpc_machine.specs.declared.command.Command.TheVariants as command
use Rattle.rpc_machine.specs.declared.command.Command.{Command}
use Rattle.rpc_machine.specs.declared.command.Granted.TheVariants as granted
use Rattle.rpc_machine.specs.declared.command.Granted.{Granted}
use Rattle.rpc_machine.specs.declared.command.Refusal.{Refusal}
use Rattle.rpc_msg.specs.declared.message.Message.{Message}
use Rattle.rpc_machine.specs.declared.command.Refusal.TheVariants as refusal
use Rattle.laws_places.specs.Wanted.{lacks_places}
use Rattle.vat_host.specs.Hosting.{Hosted, Does, Refuses}
use Rattle.rpc_codec.specs.Frames.{message_frame}
use Rattle.rpc_codec_fits.specs.Carrying.{Carries, fits}

-- What a command gives fits into the frame of each message that carries it.
abbrev pub Fits : Command → Type 0
Fits c = (m : Message) → Carries c m → IsOk (message_frame m)

-- What a command gives is too large for that by its words, and nothing is changed.
abbrev pub IsTooLarge : Hosted → Command → Refusal → Hosted → Type 0
IsTooLarge old c r new = (r ≡ refusal.Full) × (fits c ≡ false) × (new ≡ old)

-- What it gives fits, and the exports that it may want by itself have a place.
abbrev pub FindsRoom : Hosted → Command → Type 0
FindsRoom old c = Fits c × (lacks_places old.core c ≡ false)

-- What it gives is too large, or those exports have no place, and nothing is changed.
abbrev pub FindsNoRoom : Hosted → Command → Refusal → Hosted → Type 0
FindsNoRoom old c r new = (r ≡ refusal.Full) × ((fits c ≡ false) ⊎ (lacks_places old.core c ≡ true)) × (new ≡ old)

abbrev pub call_of : Command → Option CallCommand
call_of (command.Call c) = Some c
call_of c = None

-- the results that a command gives to a task
abbrev pub results_of : Command → Option (Contents × List RefId)
results_of (command.Answer task payload refs) = Some (payload, refs)
results_of c = None

-- the exception that a command gives to a task or a promise
abbrev pub exception_of : Command → Option Exception
exception_of (command.Fail task exception) = Some exception
exception_of (command.Reject promise exception) = Some exception
exception_of c = None

-- What comes of a command: it is done and gives something, or it is refused.
abbrev pub Obeys : Hosted → Command → Result Granted Refusal → Hosted → Type 0
Obeys old c (Ok granted) new = Does old c granted new
Obeys old c (Err r) new = Refuses old c r new

-- What comes of a command whose contents may be too large, or whose exports may have no place: where it is done, it found room.
abbrev pub ObeysToFit : Hosted → Command → Result Granted Refusal → Hosted → Type 0
ObeysToFit old c (Ok granted) new = Does old c granted new × FindsRoom old c
ObeysToFit old c (Err r) new = Refuses old c r new ⊎ FindsNoRoom old c r new

-- What a command answers, told by what the call of its name answers: what that gives, or why it is refused.
abbrev pub answered : {A E : Type 0} → Result A E → (A → Granted) → (E → Refusal) → Result Granted Refusal
answered (Ok x) gives why = Ok (gives x)
answered (Err e) gives why = Err (why e)

-- A call is made, once its reference took the shorter path, if it could.
abbrev pub Calls : Hosted → CallCommand → Result CallId Refusal → Hosted → Type 0
Calls old c result new =
    (mid : Hosted) × (became : Result Advanced Refusal)
    × Obeys old (command.Advance c.reference) (answered became granted.Advanced (λ r. r)) mid × Obeys mid (command.Call c) (answered result granted.Call (λ r. r)) new
