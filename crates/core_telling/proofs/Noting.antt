-- What a command was noted to write is what it writes.
use Rattle.std.proofs.Common.{◌≡◌, ℕ, ◌≤◌, true, false, nat_lt, Option, None, Some, Result, Ok, Err, IfOk, List, [], ◌∷◌, length, refl, ap, ◌∙◌, arith}
use Rattle.std.proofs.lemmas.Bool.Decides.{nat_tests}
use Rattle.std.specs.FinMap as map
use Rattle.rpc_msg.specs.Memory.{Memory}
use Rattle.rpc_msg.specs.declared.ids.Vat.{Vat}
use Rattle.rpc_msg.specs.declared.ids.CallId.{CallId}
use Rattle.rpc_msg.specs.Op.{Op}
use Rattle.rpc_journal.specs.declared.entry.JournalEntry.{JournalEntry}
use Rattle.rpc_journal.specs.declared.entry.JournalEntry.TheVariants as entry
use Rattle.rpc_journal.specs.History.{if_so}
use Rattle.rpc_machine.specs.declared.command.CallCommand.{CallCommand}
use Rattle.rpc_machine.specs.declared.command.Command.{Command}
use Rattle.rpc_machine.specs.declared.command.Command.TheVariants as command
use Rattle.rpc_machine.specs.declared.command.Granted.{Granted}
use Rattle.rpc_machine.specs.declared.command.Granted.TheVariants as granted
use Rattle.rpc_machine.specs.declared.command.Refusal.TheVariants as refusal
use Rattle.rpc_machine.specs.declared.command.Effects.{Effects}
use Rattle.rpc_machine.specs.declared.entries.Reference.{Reference}
use Rattle.rpc_machine.specs.State.{State}
use Rattle.rpc_machine.specs.Progress.{begin}
use Rattle.rpc_machine.specs.Commands.{MakesCall}
use Rattle.rpc_machine.specs.Refusals.{refused, while_down, unknown_call, without_room}
use Rattle.rpc_machine.specs.Steps.{Obeys, Refuses, LacksMemory, GoesDown, Shuts, IsDone}
use Rattle.rpc_machine.specs.Journal.{index_in, granted_entries, made_entries as made_written}
use Rattle.laws_acts.proofs.Checks.{first, rest, not_so}
use Rattle.laws_runs.specs.MadeCalls.{NumbersItsCalls}
use Rattle.vat_core.specs.Counting.{made_of as count_of}
use Rattle.core_telling.specs.declared.notes.Note.{Note}
use Rattle.core_telling.specs.Notes.{or_zero, index_of, made_of, made_entries, note_entries, granted_by, IsShort}
use Rattle.core_telling.specs.Told.{noted_entries, HadNote}

-- ---- The index of a call

call_there : (s : State) (c : CallCommand) (g : Granted) (x : Effects) (t : State) → Obeys s (command.Call c) (Ok g) x t → (y : Reference) × (map.get s.refs c.reference.0 ≡ Some y)
call_there s c g x t (Refuses r f e u) = absurd (let h : Ok g ≡ Err r = e in cc)
call_there s c g x t (LacksMemory f m e u) = absurd (let h : Ok g ≡ Err refusal.Memory = e in cc)
call_there s c g x t (GoesDown f m e u) = absurd m
call_there s c g x t (Shuts n e a u) = absurd (let h : command.Call c ≡ command.Shut n = e in cc)
call_there s c g x t (IsDone given f e h w) = by (map.get s.refs c.reference.0) refl h.acts
  where
    by : (o : Option Reference) → map.get s.refs c.reference.0 ≡ o → MakesCall (begin s) c o given h.acted → (y : Reference) × (map.get s.refs c.reference.0 ≡ Some y)
    by None e k = absurd k
    by (Some y) e k = (y, e)

index_so : (v : Vat) (h : List JournalEntry) (s : State) (c : CallCommand) (g : Granted) (x : Effects) (t : State) → NumbersItsCalls v s h → Obeys s (command.Call c) (Ok g) x t → index_of s (command.Call c) ≡ index_in h v c.reference
index_so v h s c g x t counts o =
    let k = call_there s c g x t o in
    ap (λ (y : Option Reference). or_zero (count_of y)) k.1 ∙ counts.counts c.reference.0 k.0 k.1

made_so : (i : ℕ) (h : List JournalEntry) (v : Vat) (c : CallCommand) (g : Granted) → i ≡ index_in h v c.reference → made_entries v (made_of i c) g ≡ made_written h v c g
made_so i h v c (granted.Call id) e = ap (λ (n : ℕ). entry.Made v (record (made_of n c) { call = id }) ∷ []) e
made_so i h v c granted.Done e = refl
made_so i h v c (granted.Reference r) e = refl
made_so i h v c (granted.Promise p r) e = refl
made_so i h v c (granted.Advanced a) e = refl

written : (v : Vat) (h : List JournalEntry) (s : State) (c : Command) (g : Granted) (x : Effects) (t : State) → NumbersItsCalls v s h → Obeys s c (Ok g) x t → granted_by (index_of s c) v c g ≡ granted_entries h v c g
written v h s (command.Call c) g x t counts o = made_so (index_of s (command.Call c)) h v c g (index_so v h s c g x t counts o)
written v h s (command.Host o) g x t counts k = refl
written v h s (command.CloneRef r) g x t counts k = refl
written v h s (command.DropRef r) g x t counts k = refl
written v h s command.Bootstrap g x t counts k = refl
written v h s (command.Field c path) g x t counts k = refl
written v h s command.Promise g x t counts k = refl
written v h s (command.Resolve p r) g x t counts k = refl
written v h s (command.Reject p e) g x t counts k = refl
written v h s (command.Answer i p rs) g x t counts k = refl
written v h s (command.Fail i e) g x t counts k = refl
written v h s (command.Finish c) g x t counts k = refl
written v h s (command.Advance r) g x t counts k = refl
written v h s (command.Shut n) g x t counts k = refl

-- ---- A path

allowed_short : (s : State) (c : CallId) (path : List Op) → refused s (command.Field c path) ≡ None → length path ≤ 16
allowed_short s c path f =
    let last = without_room s (command.Field c path) ∷ [] in
    let long = if_so (nat_lt 16 (length path)) refusal.LongPath in
    let k = rest (unknown_call s c.0) (long ∷ last) (rest (while_down s (command.Field c path)) (unknown_call s c.0 ∷ long ∷ last) f) in
    not_longer 16 (length path) (not_so (nat_lt 16 (length path)) refusal.LongPath (first long last k))
  where
    not_longer : (m n : ℕ) → nat_lt m n ≡ false → n ≤ m
    not_longer m n e = grind (arith, nat_tests, e)

field_short : (s : State) (c : CallId) (path : List Op) (g : Granted) (x : Effects) (t : State) → Obeys s (command.Field c path) (Ok g) x t → length path ≤ 16
field_short s c path g x t (Refuses r f e u) = absurd (let h : Ok g ≡ Err r = e in cc)
field_short s c path g x t (LacksMemory f m e u) = absurd (let h : Ok g ≡ Err refusal.Memory = e in cc)
field_short s c path g x t (GoesDown f m e u) = absurd m
field_short s c path g x t (Shuts n e a u) = absurd (let h : command.Field c path ≡ command.Shut n = e in cc)
field_short s c path g x t (IsDone given f e h w) = allowed_short s c path f

short : (s : State) (c : Command) (g : Granted) (x : Effects) (t : State) → Obeys s c (Ok g) x t → IsShort c
short s (command.Field c path) g x t o = field_short s c path g x t o
short s (command.Call c) g x t k = tt
short s (command.Host o) g x t k = tt
short s (command.CloneRef r) g x t k = tt
short s (command.DropRef r) g x t k = tt
short s command.Bootstrap g x t k = tt
short s command.Promise g x t k = tt
short s (command.Resolve p r) g x t k = tt
short s (command.Reject p e) g x t k = tt
short s (command.Answer i p rs) g x t k = tt
short s (command.Fail i e) g x t k = tt
short s (command.Finish c) g x t k = tt
short s (command.Advance r) g x t k = tt
short s (command.Shut n) g x t k = tt

-- ---- The own entry

abbrev pub IsNoteOf : ℕ → Command → Result Note Memory → Type 0
IsNoteOf i c note = IfOk note (λ n. (v : Vat) → IsShort c → (answer : Granted) → note_entries v n answer ≡ granted_by i v c answer)

pub is_note : (i : ℕ) (c : Command) (note : Result Note Memory) (m : Note) → IfOk note (λ n. n ≡ m) → ((v : Vat) (answer : Granted) → note_entries v m answer ≡ granted_by i v c answer) → IsNoteOf i c note
is_note i c (Ok n) m e h = λ v short answer. ap (λ (x : Note). note_entries v x answer) e ∙ h v answer
is_note i c (Err x) m e h = tt

-- Where there was room, what the note gives is the command's own.
pub own_so : (v : Vat) (h : List JournalEntry) (s : State) (c : Command) (g : Granted) (x : Effects) (t : State) (i : ℕ) (note : Result Note Memory)
    → NumbersItsCalls v s h → Obeys s c (Ok g) x t → i ≡ index_of s c → IsNoteOf i c note → HadNote true note → noted_entries v note g ≡ granted_entries h v c g
own_so v h s c g x t i (Ok n) counts k e noted had =
    noted v (short s c g x t k) g ∙ ap (λ (j : ℕ). granted_by j v c g) e ∙ written v h s c g x t counts k
own_so v h s c g x t i (Err m) counts k e noted had = absurd had
