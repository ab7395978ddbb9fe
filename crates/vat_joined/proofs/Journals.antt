-- The journal of a run has no counts among its entries.
use Rattle.std.proofs.Common.{◌≡◌, List, [], ◌∷◌, ◌++◌, refl, sym, ap, ◌∙◌}
use Rattle.rpc_journal.specs.declared.entry.JournalEntry.{JournalEntry}
use Rattle.rpc_machine.specs.World.{Happening}
use Rattle.rpc_machine.specs.Journal.{event_entries, journal, journal_from}
use Rattle.laws_sound.specs.Promised.{events_of}
use Rattle.laws_verdicts.proofs.Reached.{told_more}

journal_more : (h : List JournalEntry) (xs : List Happening) (x : Happening) → journal_from h (xs ++ x ∷ []) ≡ journal_from h xs ++ event_entries (journal_from h xs) x.event x.had_room x.answer
journal_more h [] x = refl
journal_more h (y ∷ ys) x = journal_more (h ++ event_entries h y.event y.had_room y.answer) ys x

-- Behind a journal that has none.
none_behind : (done : List Happening) (h : List JournalEntry) (xs : List Happening) → h ≡ journal done → events_of h ≡ h → events_of (journal_from h xs) ≡ journal_from h xs
none_behind done h [] e none = none
none_behind done h (x ∷ xs) e none =
    let es = event_entries h x.event x.had_room x.answer in
    let now : h ++ es ≡ journal (done ++ x ∷ []) = front e ∙ sym (journal_more [] done x) in
    none_behind (done ++ x ∷ []) (h ++ es) xs now (told_more h es done x (none ∙ e) refl ∙ sym now)
  where
    front : h ≡ journal done → h ++ event_entries h x.event x.had_room x.answer ≡ journal done ++ event_entries (journal done) x.event x.had_room x.answer
    front f = ap (λ (l : List JournalEntry). l ++ event_entries l x.event x.had_room x.answer) f

pub none_counts : (xs : List Happening) → events_of (journal xs) ≡ journal xs
none_counts xs = none_behind [] [] xs refl refl
