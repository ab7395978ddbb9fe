-- In a run of two vats of level 1 all that was sent is understood.
use Rattle.std.proofs.Common.{◌≡◌, ℕ, Bool, true, false, Option, None, Some, Result, List, [], ◌∷◌, ◌++◌, refl, sym, subst, ◌∙◌}
use Rattle.std.proofs.lemmas.List.Elements.{All-nil, All-append, All-head, All-tail}
use Rattle.rpc_msg.specs.declared.ids.Vat.{Vat}
use Rattle.rpc_msg.specs.declared.ids.Vat.TheVariants.{A, B}
use Rattle.rpc_msg.specs.declared.ids.ObjectId.{ObjectId}
use Rattle.rpc_msg.specs.declared.message.Message.{Message}
use Rattle.rpc_journal.specs.declared.entry.JournalEntry.{JournalEntry}
use Rattle.rpc_journal.specs.declared.entry.JournalEntry.TheVariants as entry
use Rattle.rpc_machine.specs.declared.command.Command.{Command}
use Rattle.rpc_machine.specs.declared.command.Granted.{Granted}
use Rattle.rpc_machine.specs.declared.command.Refusal.{Refusal}
use Rattle.rpc_machine.specs.declared.command.Effects.{Effects}
use Rattle.rpc_machine.specs.declared.command.Level.TheVariants.{One}
use Rattle.rpc_machine.specs.declared.event.Event.{Event}
use Rattle.rpc_machine.specs.declared.event.Event.TheVariants as event
use Rattle.rpc_machine.specs.Laws.{OfEachStep}
use Rattle.rpc_machine.specs.State.{State}
use Rattle.rpc_machine.specs.World.{World, StepAnswer, Answered, Handled, Empty, Happening, core, inbox, put_inbox, after, overflow_effects, overflown, Tells, CommandTold, MessageTold, CommandsAt, ReceivesAt, HappensBy, Run, new_world}
use Rattle.rpc_machine.specs.Journal.{effect_entries, own_entries, command_entries, deliver_entries, event_entries, journal_from}
use Rattle.laws_ends.specs.Names.{KeepsNames}
use Rattle.laws_understood.specs.Understood.{IsUnderstood, AllUnderstood, StepsSendUnderstood, EveryRunIsUnderstood}
use Rattle.laws_understood.proofs.Steps.{aborts}
use Rattle.laws_understood.proofs.Written.{AllFine, none, both, got, effects, own}

-- Both vats are of level 1, and what is on its way is understood.
record Fine (w : World) : Type 0 where
  level : (v : Vat) → (core w v).level ≡ One
  on_way : (v : Vat) → AllUnderstood (inbox w v)

module _ (send : StepsSendUnderstood) (names : OfEachStep KeepsNames) where
  -- ---- A step, as it is told

  over : (x : Effects) (o : Option ℕ) → AllUnderstood x.sends → AllUnderstood (overflow_effects x o).sends
  over x None h = aborts _
  over x (Some n) h = h

  over_level : (s : State) (o : Option ℕ) → (overflown s o).level ≡ s.level
  over_level s None = refl
  over_level s (Some n) = refl

  -- What a step told of a vat of level 1 is understood, and the vat is of level 1 after it.
  abbrev IsTold : Effects → State → Type 0
  IsTold told t = AllUnderstood told.sends × (t.level ≡ One)

  told_so : (x : Effects) (s : State) (room : Bool) (told : Effects) (t : State) → AllUnderstood x.sends → s.level ≡ One → Tells x s room told t → IsTold told t
  told_so x s true told t h l k = rw (k.0, k.1) (h, l)
  told_so x s false told t h l k = rw (k.0, k.1) (over x s.down h, over_level s s.down ∙ l)

  commanded : (s : State) (c : Command) (a : Result Granted Refusal) (told : Effects) (room : Bool) (t : State) → s.level ≡ One → CommandTold s c a told room t → IsTold told t
  commanded s c a told room t l k = told_so k.1 k.2 room told t (send.commands s c k.0 k.1 k.2 k.3) ((names.commands s c k.0 k.1 k.2 k.3).level ∙ l) k.5

  received : (s : State) (m : Message) (told : Effects) (room : Bool) (t : State) → s.level ≡ One → IsUnderstood m → MessageTold s m told room t → IsTold told t
  received s m told room t l i k = told_so k.0 k.1 room told t (send.messages s m k.0 k.1 l i k.2) ((names.messages s m k.0 k.1 k.2).level ∙ l) k.3

  -- ---- An event

  landed : (w : World) (v : Vat) (told : Effects) (t : State) → Fine w → IsTold told t → Fine (after w v told t)
  landed w A told t f h = record { level = levels; on_way = ways }
    where
      levels : (v : Vat) → (core (after w A told t) v).level ≡ One
      levels A = h.1
      levels B = f.level B

      ways : (v : Vat) → AllUnderstood (inbox (after w A told t) v)
      ways A = f.on_way A
      ways B = All-append IsUnderstood w.b.inbox told.sends (f.on_way B) h.0
  landed w B told t f h = record { level = levels; on_way = ways }
    where
      levels : (v : Vat) → (core (after w B told t) v).level ≡ One
      levels A = f.level A
      levels B = h.1

      ways : (v : Vat) → AllUnderstood (inbox (after w B told t) v)
      ways A = All-append IsUnderstood w.a.inbox told.sends (f.on_way A) h.0
      ways B = f.on_way B

  -- Without the oldest message.
  left : (w : World) (v : Vat) (m : Message) (ms : List Message) → inbox w v ≡ m ∷ ms → Fine w → Fine (put_inbox w v ms)
  left w A m ms e f = record { level = levels; on_way = ways }
    where
      levels : (v : Vat) → (core (put_inbox w A ms) v).level ≡ One
      levels A = f.level A
      levels B = f.level B

      ways : (v : Vat) → AllUnderstood (inbox (put_inbox w A ms) v)
      ways A = All-tail IsUnderstood m ms (subst AllUnderstood e (f.on_way A))
      ways B = f.on_way B
  left w B m ms e f = record { level = levels; on_way = ways }
    where
      levels : (v : Vat) → (core (put_inbox w B ms) v).level ≡ One
      levels A = f.level A
      levels B = f.level B

      ways : (v : Vat) → AllUnderstood (inbox (put_inbox w B ms) v)
      ways A = f.on_way A
      ways B = All-tail IsUnderstood m ms (subst AllUnderstood e (f.on_way B))

  same_core : (w : World) (v : Vat) (ms : List Message) → core (put_inbox w v ms) v ≡ core w v
  same_core w A ms = refl
  same_core w B ms = refl

  -- What an event writes, and the world that it leaves.
  abbrev IsFine : World → List JournalEntry → Type 0
  IsFine new es = Fine new × AllFine es

  stays : (w new : World) → new ≡ w → Fine w → IsFine new []
  stays w new e f = (subst Fine (sym e) f, none)

  written : (w : World) (v : Vat) (before : List JournalEntry) (c : Command) (a : Result Granted Refusal) (told : Effects) (room : Bool) → AllUnderstood told.sends → AllFine (command_entries before v c room (Answered a told))
  written w v before c a told true h = both (own_entries before v c a) (effect_entries v told) (own v before c a) (effects v told h)
  written w v before c a told false h = effects v told h

  by_command : (w : World) (v : Vat) (before : List JournalEntry) (c : Command) (o : Option ℕ) (answer : StepAnswer) (room : Bool) (new : World) → Fine w → CommandsAt w v c o answer room new → IsFine new (command_entries before v c room answer)
  by_command w v before c None (Answered a told) room new f h =
      let k = commanded (core w v) c a told room h.0 (f.level v) h.1 in
      (subst Fine (sym h.2) (landed w v told h.0 f k), written w v before c a told room k.0)
  by_command w v before c (Some n) (Answered a told) room new f h =
      (subst Fine (sym h.1) f, written w v before c a told room (send.commands (core w v) c a told (core w v) h.0))
  by_command w v before c None (Handled told) room new f h = absurd h
  by_command w v before c None Empty room new f h = absurd h
  by_command w v before c (Some n) (Handled told) room new f h = absurd h
  by_command w v before c (Some n) Empty room new f h = absurd h

  by_message : (w : World) (v : Vat) (ms : List Message) (o : Option ℕ) (answer : StepAnswer) (room : Bool) (new : World) → inbox w v ≡ ms → Fine w → ReceivesAt w v ms o answer room new → IsFine new (deliver_entries v answer)
  by_message w v [] o answer room new e f h = rw h.0 (stays w new h.1 f)
  by_message w v (m ∷ ms) (Some n) answer room new e f h = rw h.0 (stays w new h.1 f)
  by_message w v (m ∷ ms) None (Handled told) room new e f h =
      let g = left w v m ms e f in
      let i = All-head IsUnderstood m ms (subst AllUnderstood e (f.on_way v)) in
      let k = received (core (put_inbox w v ms) v) m told room h.0 (g.level v) i h.1 in
      (subst Fine (sym h.2) (landed (put_inbox w v ms) v told h.0 g k), both (entry.Got v ∷ []) (effect_entries v told) (got v) (effects v told k.0))
  by_message w v (m ∷ ms) None (Answered a told) room new e f h = absurd h
  by_message w v (m ∷ ms) None Empty room new e f h = absurd h

  by_event : (w : World) (before : List JournalEntry) (e : Event) (answer : StepAnswer) (room : Bool) (new : World) → Fine w → HappensBy w e answer room new → IsFine new (event_entries before e room answer)
  by_event w before (event.Command v c) answer room new f h = by_command w v before c (core w v).down answer room new f h
  by_event w before (event.Deliver v) answer room new f h = by_message w v (inbox w v) (core w v).down answer room new refl f h

  -- ---- Runs

  all_along : (w : World) (before : List JournalEntry) (xs : List Happening) (last : World) → Fine w → AllFine before → Run w xs last → IsFine last (journal_from before xs)
  all_along w before [] last f b h = (subst Fine (sym h) f, b)
  all_along w before (x ∷ xs) last f b h =
      let k = by_event w before x.event x.answer x.had_room h.0 f h.1 in
      all_along h.0 (before ++ event_entries before x.event x.had_room x.answer) xs last k.0 (both before (event_entries before x.event x.had_room x.answer) b k.1) h.2

  begins : (root_a root_b : Option ObjectId) → Fine (new_world root_a root_b)
  begins root_a root_b = record { level = levels; on_way = ways }
    where
      levels : (v : Vat) → (core (new_world root_a root_b) v).level ≡ One
      levels A = refl
      levels B = refl

      ways : (v : Vat) → AllUnderstood (inbox (new_world root_a root_b) v)
      ways A = All-nil IsUnderstood
      ways B = All-nil IsUnderstood

  pub in_runs : EveryRunIsUnderstood
  in_runs root_a root_b xs w h = let k = all_along (new_world root_a root_b) [] xs w (begins root_a root_b) none h in record { sent = k.1; on_way = k.0.on_way }
