-- How a step is told, from how its parts are.
use Rattle.std.proofs.Common.{◌≡◌, ℕ, Bool, true, false, cond, Option, None, Some, Result, Ok, Err, List, [], ◌∷◌, ◌++◌, map, take, length, append-nil, append_assoc, refl, sym, ap, subst, ◌∙◌}
use Rattle.rpc_msg.specs.Memory.{Memory}
use Rattle.rpc_msg.specs.declared.ids.Vat.{Vat}
use Rattle.rpc_msg.specs.declared.message.Message.{Message}
use Rattle.rpc_journal.specs.declared.entry.JournalEntry.{JournalEntry}
use Rattle.rpc_journal.specs.declared.entry.JournalEntry.TheVariants as entry
use Rattle.rpc_journal.specs.declared.report.Delivery.{Delivery}
use Rattle.rpc_journal.specs.declared.report.Ended.{Ended}
use Rattle.rpc_machine.specs.declared.command.Effects.{Effects}
use Rattle.rpc_machine.specs.declared.command.Granted.{Granted}
use Rattle.rpc_machine.specs.declared.command.Refusal.{Refusal}
use Rattle.rpc_machine.specs.Numbers.{want_of_room}
use Rattle.rpc_machine.specs.Progress.{quiet}
use Rattle.rpc_machine.specs.State.{State}
use Rattle.rpc_machine.specs.Down.{ShutsFrom, Falls}
use Rattle.rpc_machine.specs.World.{overflow_effects, overflown, given_up}
use Rattle.rpc_machine.specs.Journal.{effect_entries, refused_entries, went_down}
use Rattle.core_telling.specs.declared.notes.Note.{Note}
use Rattle.core_telling.specs.Notes.{note_entries}
use Rattle.core_telling.specs.Told.{without_sends, Extends, HadNote}
use Rattle.vat_world.specs.Stages.{Stage, stepped, Logs, Overflows, TellsDone, TellsRefused}

-- ---- What is behind

taken_back : (before more : List JournalEntry) (n : ℕ) → n ≡ length before → take n (before ++ more) ≡ before
taken_back before more n e = ap (λ (k : ℕ). take k (before ++ more)) e ∙ front before more
  where
    front : (xs ys : List JournalEntry) → take (length xs) (xs ++ ys) ≡ xs
    front [] ys = refl
    front (x ∷ xs) ys = ap (λ (l : List JournalEntry). x ∷ l) (front xs ys)

-- ---- No room

pub overflow_down : (v : Vat) (g : Stage) (journal kept before more : List JournalEntry) (start n : ℕ) (effects given : Effects) (new : Stage)
    → g.acting.core.down ≡ Some n → kept ≡ take start journal → new ≡ stepped v (record g { journal = kept }) g.acting.core effects [] → given ≡ without_sends effects
    → journal ≡ before ++ more → start ≡ length before → Overflows v (record g { journal = before }) effects given new
overflow_down v g journal kept before more start n effects given new down k e f j l = record {
  told = effects;
  s = g.acting.core;
  tells = subst (λ (x : Option ℕ). (effects ≡ overflow_effects effects x) × (g.acting.core ≡ overflown g.acting.core x)) (sym down) (refl, refl);
  new_is = e ∙ ap (λ (xs : List JournalEntry). stepped v (record g { journal = xs }) g.acting.core effects []) (k ∙ ap (λ (xs : List JournalEntry). take start xs) j ∙ taken_back before more start l);
  given_is = f;
}

pub overflow_up : (v : Vat) (g : Stage) (journal kept before more : List JournalEntry) (start : ℕ) (effects given : Effects) (new : Stage) (fallen : Effects) (t : State)
    → g.acting.core.down ≡ None → ShutsFrom g.acting.core want_of_room g.acting.core.down fallen t → kept ≡ take start journal → new ≡ stepped v (record g { journal = kept }) t fallen [] → given ≡ without_sends fallen
    → journal ≡ before ++ more → start ≡ length before → Overflows v (record g { journal = before }) effects given new
overflow_up v g journal kept before more start effects given new fallen t down shuts k e f j l =
    let h : Falls g.acting.core want_of_room fallen t = subst (λ (x : Option ℕ). ShutsFrom g.acting.core want_of_room x fallen t) down shuts in record {
      told = fallen;
      s = t;
      tells = subst (λ (x : Option ℕ). (fallen ≡ overflow_effects effects x) × (t ≡ overflown g.acting.core x)) (sym down) (h.effects_are, h.new_is);
      new_is = e ∙ ap (λ (xs : List JournalEntry). stepped v (record g { journal = xs }) t fallen []) (k ∙ ap (λ (xs : List JournalEntry). take start xs) j ∙ taken_back before more start l);
      given_is = f;
    }

-- ---- A whole step

pub logs_fall : (v : Vat) (g : Stage) (effects given : Effects) (new : Stage) (before own : List JournalEntry)
    → new ≡ stepped v g g.acting.core effects [] → given ≡ without_sends effects → g.journal ≡ before ++ own → Logs v (record g { journal = before }) effects own true given new
logs_fall v g effects given new before own e f j = record {
  told = effects;
  s = g.acting.core;
  tells = (refl, refl);
  new_is = e ∙ ap (λ (xs : List JournalEntry). stepped v (record g { journal = xs }) g.acting.core effects []) j
      ∙ ap (λ (xs : List JournalEntry). record (stepped v (record g { journal = before }) g.acting.core effects own) { journal = xs }) (append_assoc before own (effect_entries v effects));
  given_is = f;
}

pub whole : (v : Vat) (g : Stage) (effects : Effects) (ms : List Message) (h : List JournalEntry) → ms ≡ g.peer.inbox ++ effects.sends → h ≡ g.journal ++ effect_entries v effects → record g { peer = record (g.peer) { inbox = ms }; journal = h } ≡ stepped v g g.acting.core effects []
whole v g effects ms h e f = rw (e, f) refl

-- After a try that found no room.
pub logs_after : (v : Vat) (g : Stage) (effects tried given : Effects) (new : Stage) (ms : List Message) (h before own : List JournalEntry)
    → ms ≡ g.peer.inbox → Extends g.journal h → tried ≡ effects
    → ((b more : List JournalEntry) → h ≡ b ++ more → length before ≡ length b → Overflows v (record g { peer = record (g.peer) { inbox = ms }; journal = b }) tried given new)
    → g.journal ≡ before ++ own → Logs v (record g { journal = before }) effects own false given new
logs_after v g effects tried given new ms h before own e x k o j =
    let h : Overflows v (record g { peer = record (g.peer) { inbox = ms }; journal = before }) tried given new = o before (own ++ x.0) (x.1 ∙ ap (λ (l : List JournalEntry). l ++ x.0) j ∙ append_assoc before own x.0) refl in
    let i : Overflows v (record g { journal = before }) tried given new = subst (λ (xs : List Message). Overflows v (record g { peer = record (g.peer) { inbox = xs }; journal = before }) tried given new) e h in
    let l : Overflows v (record g { journal = before }) effects given new = subst (λ (y : Effects). Overflows v (record g { journal = before }) y given new) k i in
    record { told = l.told; s = l.s; tells = l.tells; new_is = l.new_is; given_is = l.given_is }

-- ---- A step that was done

pub told_done : (v : Vat) (g : Stage) (journal : List JournalEntry) (note : Result Note Memory) (n : Note) (granted left : Granted) (effects given : Effects) (room : Bool) (start : ℕ) (new : Stage)
    → note ≡ Ok n → start ≡ length g.journal → journal ≡ g.journal ++ note_entries v n granted
    → ((b own : List JournalEntry) → journal ≡ b ++ own → start ≡ length b → Logs v (record g { journal = b }) effects own room given new)
    → Ok left ≡ cond room (Ok granted) (given_up (Ok granted)) → TellsDone v g note granted effects left given new
told_done v g journal note n granted left effects given room start new e s j l f =
    subst (λ (x : Result Note Memory). TellsDone v g x granted effects left given new) (sym e)
    (record { room = room; had_note = had room; logs = l g.journal (note_entries v n granted) j s; left_is = f })
  where
    had : (b : Bool) → HadNote b (Ok n)
    had true = tt
    had false = tt

pub told_less : (v : Vat) (g : Stage) (note : Result Note Memory) (m : Memory) (granted left : Granted) (effects given : Effects) (start : ℕ) (new : Stage)
    → note ≡ Err m → start ≡ length g.journal
    → ((b more : List JournalEntry) → g.journal ≡ b ++ more → start ≡ length b → Overflows v (record g { journal = b }) effects given new)
    → Ok left ≡ given_up (Ok granted) → TellsDone v g note granted effects left given new
told_less v g note m granted left effects given start new e s o f =
    let l = o g.journal [] (sym (append-nil g.journal)) s in
    subst (λ (x : Result Note Memory). TellsDone v g x granted effects left given new) (sym e)
    (record { room = false; had_note = tt; logs = record { told = l.told; s = l.s; tells = l.tells; new_is = l.new_is; given_is = l.given_is }; left_is = f })

-- ---- A step that was refused

pub told_refused : (v : Vat) (g : Stage) (journal : List JournalEntry) (r : Refusal) (effects given : Effects) (room : Bool) (start : ℕ) (new : Stage)
    → effects ≡ quiet → start ≡ length g.journal → journal ≡ g.journal ++ refused_entries v r
    → ((b own : List JournalEntry) → journal ≡ b ++ own → start ≡ length b → Logs v (record g { journal = b }) effects own room given new) → TellsRefused v g r new
told_refused v g journal r effects given room start new e s j l = record {
  room = room;
  given = given;
  logs = subst (λ (x : Effects). Logs v g x (refused_entries v r) room given new) e (l g.journal (refused_entries v r) j s);
}
