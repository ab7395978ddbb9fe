-- In every journal the calls made through a reference are numbered from 0.
use Rattle.std.proofs.Common.{◌≡◌, ℕ, ◌+◌, Bool, true, false, cond, Result, Ok, Err, List, [], ◌∷◌, ◌++◌, length, append-nil, refl, sym, ap, ◌∙◌, subst, arith}
use Rattle.rpc_msg.specs.declared.ids.Vat.{Vat}
use Rattle.rpc_msg.specs.declared.ids.CallId.{CallId}
use Rattle.rpc_msg.specs.declared.ids.Stamp.{Stamp}
use Rattle.rpc_journal.specs.declared.entry.JournalEntry.{JournalEntry}
use Rattle.rpc_journal.specs.History.{Ref, same_ref, in_front, if_so, made}
use Rattle.rpc_machine.specs.declared.command.CallCommand.{CallCommand}
use Rattle.rpc_machine.specs.declared.command.Command.{Command}
use Rattle.rpc_machine.specs.declared.command.Command.TheVariants as command
use Rattle.rpc_machine.specs.declared.command.Granted.{Granted}
use Rattle.rpc_machine.specs.declared.command.Granted.TheVariants as granted
use Rattle.rpc_machine.specs.declared.command.Refusal.{Refusal}
use Rattle.rpc_machine.specs.declared.event.Event.{Event}
use Rattle.rpc_machine.specs.declared.event.Event.TheVariants as event
use Rattle.rpc_machine.specs.World.{StepAnswer, Answered, Handled, Empty, Happening}
use Rattle.rpc_machine.specs.Journal.{effect_entries, index_in, made_entries, granted_entries, own_entries, command_entries, event_entries, journal_from, journal}
use Rattle.rpc_machine.specs.Claims.{IsNumbered, AreNumbered}
use Rattle.laws_runs.proofs.Reading.{made-append, same_ref_is}
use Rattle.laws_runs.proofs.MakesNone.{MakesNone, none_behind, effects_make_none, refused_none, granted_none, deliver_none}

-- ---- The next number

abbrev of : Ref → ℕ → Stamp
of r i = record { vat = r.vat; reference = record { 0 = r.number }; index = i }

one_more : (r : Ref) (i : ℕ) (ss : List Stamp) (s : Stamp) → IsNumbered r i ss → s ≡ of r (i + length ss) → IsNumbered r i (ss ++ s ∷ [])
one_more r i [] s h e = (e ∙ ap (λ (n : ℕ). of r n) (omega arith), tt)
one_more r i (x ∷ xs) s h e = (h.0, one_more r (i + 1) xs s h.1 (e ∙ ap (λ (n : ℕ). of r n) (omega arith)))

-- These entries keep the numbers.
abbrev Keeps : List JournalEntry → List JournalEntry → Type 0
Keeps h es = (r : Ref) → IsNumbered r 0 (made h r) → IsNumbered r 0 (made (h ++ es) r)

none_keep : (h es : List JournalEntry) → MakesNone es → Keeps h es
none_keep h es k r n = subst (λ (l : List Stamp). IsNumbered r 0 l) (sym (none_behind h es k r)) n

then_none : (h es more : List JournalEntry) → Keeps h es → MakesNone more → Keeps h (es ++ more)
then_none h es more k m r n =
    let e : made (h ++ (es ++ more)) r ≡ made (h ++ es) r = made-append h (es ++ more) r ∙ ap (λ (l : List Stamp). made h r ++ l) (none_behind es more m r) ∙ sym (made-append h es r) in
    subst (λ (l : List Stamp). IsNumbered r 0 l) (sym e) (k r n)

call_keeps : (h : List JournalEntry) (v : Vat) (c : CallCommand) (id : CallId) → Keeps h (made_entries h v c (granted.Call id))
call_keeps h v c id r n = by (same_ref r (record { vat = v; number = c.reference.0 })) refl
  where
    s : Stamp
    s = record { vat = v; reference = c.reference; index = index_in h v c.reference }

    by : (b : Bool) → same_ref r (record { vat = v; number = c.reference.0 }) ≡ b → IsNumbered r 0 (made (h ++ made_entries h v c (granted.Call id)) r)
    by true e =
        let f = same_ref_is r (record { vat = v; number = c.reference.0 }) e in
        let m : made (made_entries h v c (granted.Call id)) r ≡ s ∷ [] = ap (λ (b : Bool). in_front (if_so b s) []) e in
        let i : s ≡ of r (0 + length (made h r)) = subst (λ (q : Ref). s ≡ of q (0 + length (made h q))) (sym f) (ap (λ (k : ℕ). of (record { vat = v; number = c.reference.0 }) k) (omega arith)) in
        subst (λ (l : List Stamp). IsNumbered r 0 l) (sym (made-append h (made_entries h v c (granted.Call id)) r ∙ ap (λ (l : List Stamp). made h r ++ l) m)) (one_more r 0 (made h r) s n i)
    by false e =
        let m : made (made_entries h v c (granted.Call id)) r ≡ [] = ap (λ (b : Bool). in_front (if_so b s) []) e in
        subst (λ (l : List Stamp). IsNumbered r 0 l) (sym (made-append h (made_entries h v c (granted.Call id)) r ∙ ap (λ (l : List Stamp). made h r ++ l) m ∙ append-nil (made h r))) n

made_keeps : (h : List JournalEntry) (v : Vat) (c : CallCommand) (g : Granted) → Keeps h (made_entries h v c g)
made_keeps h v c (granted.Call id) = call_keeps h v c id
made_keeps h v c g = none_keep h [] (λ r. refl)

-- ---- What an event writes

granted_keeps : (h : List JournalEntry) (v : Vat) (c : Command) (g : Granted) → Keeps h (granted_entries h v c g)
granted_keeps h v (command.Call c) g = made_keeps h v c g
granted_keeps h v c g = none_keep h _ (granted_none h v c g tt)

own_keeps : (h : List JournalEntry) (v : Vat) (c : Command) (a : Result Granted Refusal) → Keeps h (own_entries h v c a)
own_keeps h v c (Ok g) = granted_keeps h v c g
own_keeps h v c (Err x) = none_keep h _ (refused_none v x)

if_room : (room : Bool) (h es : List JournalEntry) → Keeps h es → Keeps h (cond room es [])
if_room true h es k = k
if_room false h es k = none_keep h [] (λ r. refl)

command_keeps : (h : List JournalEntry) (v : Vat) (c : Command) (room : Bool) (a : StepAnswer) → Keeps h (command_entries h v c room a)
command_keeps h v c room (Answered a told) = then_none h (cond room (own_entries h v c a) []) (effect_entries v told) (if_room room h (own_entries h v c a) (own_keeps h v c a)) (effects_make_none v told)
command_keeps h v c room (Handled told) = none_keep h [] (λ r. refl)
command_keeps h v c room Empty = none_keep h [] (λ r. refl)

event_keeps : (h : List JournalEntry) (e : Event) (room : Bool) (a : StepAnswer) → Keeps h (event_entries h e room a)
event_keeps h (event.Command v c) room a = command_keeps h v c room a
event_keeps h (event.Deliver v) room a = none_keep h _ (deliver_none v a)

all_keep : (h : List JournalEntry) (xs : List Happening) → AreNumbered h → AreNumbered (journal_from h xs)
all_keep h [] n = n
all_keep h (x ∷ xs) n = all_keep (h ++ event_entries h x.event x.had_room x.answer) xs (λ r. event_keeps h x.event x.had_room x.answer r (n r))

pub numbered : (xs : List Happening) → AreNumbered (journal xs)
numbered xs = all_keep [] xs (λ r. tt)
