-- A step of an end, from its core's step and what was told of it.
use Rattle.std.proofs.Common.{◌≡◌, ℕ, ◌+◌, ◌-◌, ◌<◌, Bool, true, false, Option, None, Some, IfSome, unwrap_or, Result, Ok, Err, List, [], ◌∷◌, ◌++◌, length, length-append, append-nil, append_assoc, refl, sym, ap, subst, ◌∙◌, arith}
use Rattle.std.specs.declared.snapshot.Snapshot.{Snapshot}
use Rattle.rpc_msg.specs.declared.ids.Vat.{Vat}
use Rattle.rpc_msg.specs.declared.message.Message.{Message}
use Rattle.rpc_journal.specs.declared.entry.JournalEntry.{JournalEntry}
use Rattle.rpc_journal.specs.declared.entry.JournalEntry.TheVariants as entry
use Rattle.rpc_machine.specs.declared.command.Command.{Command}
use Rattle.rpc_machine.specs.declared.command.Command.TheVariants as command
use Rattle.rpc_machine.specs.declared.command.Granted.{Granted}
use Rattle.rpc_machine.specs.declared.command.Granted.TheVariants as granted
use Rattle.rpc_machine.specs.declared.command.Refusal.{Refusal}
use Rattle.rpc_machine.specs.declared.command.Effects.{Effects}
use Rattle.rpc_machine.specs.Numbers.{want_of_room}
use Rattle.rpc_machine.specs.State.{State}
use Rattle.rpc_machine.specs.Down.{ShutsFrom, Falls}
use Rattle.rpc_machine.specs.Steps as step
use Rattle.rpc_machine.specs.World.{CommandTold, MessageTold, overflow_effects, overflown}
use Rattle.rpc_machine.specs.Journal.{effect_entries, own_entries}
use Rattle.laws_merge.specs.Machine as weave
use Rattle.laws_merge.specs.Machine.{Input, Receive}
use Rattle.laws_ends.specs.Overflows.{OverflowIsShut}
use Rattle.laws_runs.specs.MadeCalls.{NumbersItsCalls}
use Rattle.laws_runs.specs.Sides.{TakesStep}
use Rattle.link_rings.specs.Waiting.{Held as Queue, frames_from}
use Rattle.link_rings.specs.Parties as ring
use Rattle.link_rings.specs.Parties.{IsDown}
use Rattle.link_logs.specs.declared.note.Told.{Told}
use Rattle.link_logs.specs.declared.note.Told.TheVariants as told
use Rattle.link_logs.specs.declared.note.Note.{Note}
use Rattle.link_logs.specs.Notes.{input_by, sends_by, noted}
use Rattle.link_logs.specs.Steps.{Held, StepsSo, input_of, sends_of, entries_behind}
use Rattle.link_sides.specs.Rooms.{Queues}
use Rattle.core_telling.specs.declared.notes.Note as own
use Rattle.core_telling.specs.Notes.{back_in, index_of, note_entries, IsWholeInNote}
use Rattle.core_telling.specs.Told.{IsFall}
use Rattle.core_telling.proofs.Noting.{own_so}
use Rattle.rpc_machine.specs.Progress.{quiet}
use Rattle.core_telling.specs.Answer.{Answer}
use Rattle.core_telling.specs.Answer.TheVariants.{Done, Refused}
use Rattle.core_telling.specs.Answers.{AnswersTo, answer_in, effects_in}
use Rattle.link_sides.specs.Sides.{down_by, IsOwn, IsSpare, HasBack}

-- ---- What every step has

counted : (old w new : List JournalEntry) (n : ℕ) → new ≡ old ++ w → n ≡ length new - length old → n ≡ length w
counted old w new n e f = let g = ap length e ∙ length-append old w in let h : length new - length old ≡ length w = omega (arith, g) in f ∙ h

steps_so : (old new : Held) (n : Note) (t : Told) (w : List JournalEntry)
    → n.told ≡ t → TakesStep old.core (input_by t) (noted t) (sends_by t) new.core
    → new.journal ≡ old.journal ++ w → n.entries ≡ length new.journal - length old.journal
    → ((h : List JournalEntry) → NumbersItsCalls old.core.vat old.core h → w ≡ entries_behind h old.core.vat t) → StepsSo old n new
steps_so old new n t w e k j l f = record {
  takes = subst (λ (x : Told). TakesStep old.core (input_by x) (noted x) (sends_by x) new.core) (sym e) k;
  wrote = w;
  journal = j;
  counted = counted old.journal w new.journal n.entries j l;
  wrote_is = λ h c. f h c ∙ ap (λ (x : Told). entries_behind h old.core.vat x) (sym e);
}

ring_steps : (old new : Held) (before after : Queue Message) (n : Note) (t : Told) → n.told ≡ t → StepsSo old n new → Queues before (sends_by t) after → (new.core.down ≡ None → 0 < after.room) → ring.Steps down_by sends_of StepsSo old before n new after
ring_steps old new before after n t e s q room =
    let p : Queues before (sends_of n) after = subst (λ (x : Told). Queues before (sends_by x) after) (sym e) q in
    record { is_step = s; frames = p.frames; made = p.made; heard = p.heard; room = room }

-- ---- How a step is told

pub heard_whole : (s t : State) (m : Message) (x : Effects) → step.Receives s m x t → MessageTold s m x true t
heard_whole s t m x r = (x, t, r, (refl, refl))

pub heard_less : (s mid t : State) (m : Message) (x fallen : Effects) → step.Receives s m x mid → mid.down ≡ None → ShutsFrom mid want_of_room mid.down fallen t → MessageTold s m fallen false t
heard_less s mid t m x fallen r up h =
    let f : Falls mid want_of_room fallen t = subst (λ (o : Option ℕ). ShutsFrom mid want_of_room o fallen t) up h in
    (x, mid, r, subst (λ (o : Option ℕ). (fallen ≡ overflow_effects x o) × (t ≡ overflown mid o)) (sym up) (f.effects_are, f.new_is))

-- ---- Messages

pub receives_so : (old new : Held) (before after : Queue Message) (m : Message) (room r : Bool) (n : Note) (heard : Snapshot Message) (e : Snapshot Effects)
    → n.told ≡ told.Received heard e r → heard.value ≡ m → old.core.down ≡ None → MessageTold old.core m e.value r new.core
    → new.journal ≡ (old.journal ++ entry.Got old.core.vat ∷ []) ++ effect_entries old.core.vat e.value → n.entries ≡ length new.journal - length old.journal
    → Queues before e.value.sends after → (new.core.down ≡ None → 0 < after.room) → (room ≡ false → IsDown new.core.down)
    → ring.Receives down_by input_of sends_of StepsSo old before m room n new after
receives_so old new before after m room r n heard e is h up k j l q free overflow =
    let t = told.Received heard e r in
    let taken : MessageTold old.core heard.value e.value r new.core = subst (λ (x : Message). MessageTold old.core x e.value r new.core) (sym h) k in
    let s = steps_so old new n t (entry.Got old.core.vat ∷ effect_entries old.core.vat e.value) is (up, (taken, refl))
    (j ∙ append_assoc old.journal (entry.Got old.core.vat ∷ []) (effect_entries old.core.vat e.value)) l (λ _ _. refl) in record {
      steps = ring_steps old new before after n t is s q free;
      is_of = ap input_by is ∙ ap (λ (x : Message). Receive x) h;
      overflow = overflow;
    }

-- ---- Commands

pub obeys_so : (old new : Held) (before after : Queue Message) (c : Command) (room : Bool) (n : Note) (asked : Snapshot Command) (said : Snapshot (Result Granted Refusal)) (e : Snapshot Effects) (own : List JournalEntry)
    → n.told ≡ told.Obeyed asked said e true → asked.value ≡ c → old.core.down ≡ None → step.Obeys old.core c said.value e.value new.core
    → new.journal ≡ (old.journal ++ own) ++ effect_entries old.core.vat e.value → n.entries ≡ length new.journal - length old.journal
    → ((h : List JournalEntry) → NumbersItsCalls old.core.vat old.core h → own ≡ own_entries h old.core.vat c said.value)
    → Queues before e.value.sends after → (new.core.down ≡ None → 0 < after.room) → (room ≡ false → IsDown new.core.down)
    → ring.Obeys down_by input_of sends_of StepsSo old before c room n new after
obeys_so old new before after c room n asked said e own is h up k j l o q free overflow =
    let t = told.Obeyed asked said e true in
    let taken : step.Obeys old.core asked.value said.value e.value new.core = subst (λ (x : Command). step.Obeys old.core x said.value e.value new.core) (sym h) k in
    let s = steps_so old new n t (own ++ effect_entries old.core.vat e.value) is (up, ((said.value, e.value, new.core, taken, refl, (refl, refl)), refl))
    (j ∙ append_assoc old.journal own (effect_entries old.core.vat e.value)) l
    (λ g counts. ap (λ (x : List JournalEntry). x ++ effect_entries old.core.vat e.value) (o g counts ∙ ap (λ (x : Command). own_entries g old.core.vat x said.value) (sym h))) in record {
      steps = ring_steps old new before after n t is s q free;
      is_of = subst (λ (x : Input Command Message). ring.IsOf c x) (sym (ap input_by is)) h;
      shut = λ f. absurd (let g : weave.Command asked.value ≡ weave.Shut = sym (ap input_by is) ∙ f in cc);
      overflow = overflow;
    }

-- ---- Shuts

shut_steps : (old new : Held) (before after : Queue Message) (number : ℕ) (n : Note) (e : Snapshot Effects)
    → n.told ≡ told.Shut e → old.core.down ≡ None → CommandTold old.core (command.Shut number) (Ok granted.Done) e.value true new.core → e.value.down ≡ Some number
    → new.journal ≡ old.journal ++ effect_entries old.core.vat e.value → n.entries ≡ length new.journal - length old.journal
    → Queues before e.value.sends after → (new.core.down ≡ None → 0 < after.room) → ring.Steps down_by sends_of StepsSo old before n new after
shut_steps old new before after number n e is up k d j l q free =
    let t = told.Shut e in
    let taken : CommandTold old.core (command.Shut (unwrap_or e.value.down 0)) (Ok granted.Done) e.value true new.core = subst (λ (o : Option ℕ). CommandTold old.core (command.Shut (unwrap_or o 0)) (Ok granted.Done) e.value true new.core) (sym d) k in
    let s = steps_so old new n t (effect_entries old.core.vat e.value) is (up, (taken, refl)) j l (λ _ _. refl) in
    ring_steps old new before after n t is s q free

pub shuts_so : (old new : Held) (before after : Queue Message) (number : ℕ) (n : Note) (e : Snapshot Effects)
    → n.told ≡ told.Shut e → old.core.down ≡ None → ShutsFrom old.core number old.core.down e.value new.core
    → new.journal ≡ old.journal ++ effect_entries old.core.vat e.value → n.entries ≡ length new.journal - length old.journal
    → Queues before e.value.sends after → ring.Shuts down_by input_of sends_of StepsSo old before number n new after
shuts_so old new before after number n e is up k j l q =
    let f : Falls old.core number e.value new.core = subst (λ (o : Option ℕ). ShutsFrom old.core number o e.value new.core) up k in
    let down : new.core.down ≡ Some number = ap (λ (s : State). s.down) f.new_is in record {
      steps =
          shut_steps old new before after number n e is up (Ok granted.Done, e.value, new.core, step.Shuts number refl refl k, refl, (refl, refl)) (ap (λ (x : Effects). x.down) f.effects_are) j l q
          (λ g. absurd (let x : Some number ≡ None = sym down ∙ g in cc));
      is_of = ap input_by is;
      down_by = down;
    }

-- A shut in the place of a command.
pub shut_for : (old new : Held) (before after : Queue Message) (c : Command) (room : Bool) (number : ℕ) (n : Note)
    → ring.Shuts down_by input_of sends_of StepsSo old before number n new after → ring.Obeys down_by input_of sends_of StepsSo old before c room n new after
shut_for old new before after c room number n s =
    let down : IsDown new.core.down = subst IsDown (sym s.down_by) tt in record {
      steps = s.steps;
      is_of = subst (λ (x : Input Command Message). ring.IsOf c x) (sym s.is_of) tt;
      shut = λ _. down;
      overflow = λ _. down;
    }

-- A command was done, and there is no room for what it says: a shut in its place.
pub overflows_so : OverflowIsShut → (old new : Held) (mid : State) (before after : Queue Message) (c : Command) (room : Bool) (n : Note) (answer : Result Granted Refusal) (x : Effects) (e : Snapshot Effects)
    → n.told ≡ told.Shut e → old.core.down ≡ None → step.Obeys old.core c answer x mid → mid.down ≡ None → ShutsFrom mid want_of_room mid.down e.value new.core
    → new.journal ≡ old.journal ++ effect_entries old.core.vat e.value → n.entries ≡ length new.journal - length old.journal
    → Queues before e.value.sends after → ring.Obeys down_by input_of sends_of StepsSo old before c room n new after
overflows_so law old new mid before after c room n answer x e is up k still f j l q =
    let g : Falls mid want_of_room e.value new.core = subst (λ (o : Option ℕ). ShutsFrom mid want_of_room o e.value new.core) still f in
    let down : new.core.down ≡ Some want_of_room = ap (λ (s : State). s.down) g.new_is in
    let fell : IsDown new.core.down = subst IsDown (sym down) tt in record {
      steps =
          shut_steps old new before after want_of_room n e is up (law old.core mid new.core c answer x e.value want_of_room up k g) (ap (λ (y : Effects). y.down) g.effects_are) j l q
          (λ h. absurd (let y : Some want_of_room ≡ None = sym down ∙ h in cc));
      is_of = subst (λ (i : Input Command Message). ring.IsOf c i) (sym (ap input_by is)) tt;
      shut = λ _. fell;
      overflow = λ _. fell;
    }

-- ---- A command that is handed back

pub has_back : (o : Option Command) (note : own.Note) (c : Command) → IsSpare o c → (IsWholeInNote c → back_in note ≡ Some c) → HasBack o note c
has_back None note c s k = k s
has_back (Some d) note c s k = s

-- ---- From what a body leaves

-- What is so of each step that was told: its effects x are those that were noted as e, its messages wait behind the others,
-- and its entries were counted.
pub record Facts (old : Held) (vat : Vat) (j : List JournalEntry) (a b : ℕ) (n : Note) (e : Snapshot Effects) (x : Effects) (before after : Queue Message) : Type 0 where
  pub value : e.value ≡ x
  pub vat_is : vat ≡ old.core.vat
  pub entries : n.entries ≡ a - b
  pub len : a ≡ length j
  pub start : b ≡ length old.journal
  pub queued : Queues before x.sends after

module _ (old : Held) (vat : Vat) (j : List JournalEntry) (a b : ℕ) (n : Note) (e : Snapshot Effects) (x : Effects) (before after : Queue Message) (f : Facts old vat j a b n e x before after) where
  entries_so : n.entries ≡ length j - length old.journal
  entries_so = f.entries ∙ ap (λ (m : ℕ). m - b) f.len ∙ ap (λ (m : ℕ). length j - m) f.start

  queued_so : Queues before e.value.sends after
  queued_so = subst (λ (y : Effects). Queues before y.sends after) (sym f.value) f.queued

  journal_so : (own : List JournalEntry) → j ≡ own ++ effect_entries vat x → j ≡ own ++ effect_entries old.core.vat e.value
  journal_so own k = k ∙ ap (λ (u : Vat). own ++ effect_entries u x) f.vat_is ∙ ap (λ (y : Effects). own ++ effect_entries old.core.vat y) (sym f.value)

  fell : (core : State) (number : ℕ) → core.down ≡ Some number → core.down ≡ None → 0 < after.room
  fell core number d g = absurd (let y : Some number ≡ None = sym d ∙ g in cc)

  is_down : (core : State) (number : ℕ) → core.down ≡ Some number → IsDown core.down
  is_down core number d = subst IsDown (sym d) tt

  pub shut_at : (mid core : State) (number : ℕ) → n.told ≡ told.Shut e → old.core.down ≡ None → ShutsFrom old.core number old.core.down x mid → core ≡ mid
      → j ≡ old.journal ++ effect_entries vat x → ring.Shuts down_by input_of sends_of StepsSo old before number n (record { core = core; journal = j }) after
  shut_at mid core number is up k c l =
      shuts_so old (record { core = core; journal = j }) before after number n e is up
      (subst (λ (s : State). ShutsFrom old.core number old.core.down e.value s) (sym c) (subst (λ (y : Effects). ShutsFrom old.core number old.core.down y mid) (sym f.value) k))
      (journal_so old.journal l) entries_so queued_so

  pub shut_command_at : (mid core : State) (number : ℕ) (room : Bool) (asked : Snapshot Command) (said : Snapshot (Result Granted Refusal)) → n.told ≡ told.Obeyed asked said e true → asked.value ≡ command.Shut number → said.value ≡ Ok granted.Done
      → old.core.down ≡ None → ShutsFrom old.core number old.core.down x mid → core ≡ mid
      → j ≡ old.journal ++ effect_entries vat x → ring.Obeys down_by input_of sends_of StepsSo old before (command.Shut number) room n (record { core = core; journal = j }) after
  shut_command_at mid core number room asked said is h g up k c l =
      let s : ShutsFrom old.core number old.core.down e.value core = subst (λ (z : State). ShutsFrom old.core number old.core.down e.value z) (sym c) (subst (λ (y : Effects). ShutsFrom old.core number old.core.down y mid) (sym f.value) k) in
      let fallen : Falls old.core number e.value core = subst (λ (o : Option ℕ). ShutsFrom old.core number o e.value core) up s in
      let down : core.down ≡ Some number = ap (λ (z : State). z.down) fallen.new_is in
      obeys_so old (record { core = core; journal = j }) before after (command.Shut number) room n asked said e [] is h up (step.Shuts number refl g s)
      (journal_so old.journal l ∙ ap (λ (z : List JournalEntry). z ++ effect_entries old.core.vat e.value) (sym (append-nil old.journal))) entries_so
      (λ p q. ap (λ (r : Result Granted Refusal). own_entries p old.core.vat (command.Shut number) r) (sym g))
      queued_so (fell core number down) (λ _. is_down core number down)

  received_at : (core : State) (m : Message) (room r : Bool) (heard : Snapshot Message) → n.told ≡ told.Received heard e r → heard.value ≡ m → old.core.down ≡ None → MessageTold old.core m x r core
      → j ≡ (old.journal ++ entry.Got vat ∷ []) ++ effect_entries vat x → (core.down ≡ None → 0 < after.room) → (room ≡ false → IsDown core.down)
      → ring.Receives down_by input_of sends_of StepsSo old before m room n (record { core = core; journal = j }) after
  received_at core m room r heard is h up k l free overflow =
      receives_so old (record { core = core; journal = j }) before after m room r n heard e is h up
      (subst (λ (y : Effects). MessageTold old.core m y r core) (sym f.value) k)
      (journal_so (old.journal ++ entry.Got vat ∷ []) l ∙ ap (λ (u : Vat). (old.journal ++ entry.Got u ∷ []) ++ effect_entries old.core.vat e.value) f.vat_is)
      entries_so queued_so free overflow

  pub received_falling : (mid core : State) (m : Message) (room : Bool) (number : ℕ) (heard : Snapshot Message) → n.told ≡ told.Received heard e true → heard.value ≡ m → old.core.down ≡ None
      → step.Receives old.core m x mid → core ≡ mid → mid.down ≡ Some number → j ≡ (old.journal ++ entry.Got vat ∷ []) ++ effect_entries vat x
      → ring.Receives down_by input_of sends_of StepsSo old before m room n (record { core = core; journal = j }) after
  received_falling mid core m room number heard is h up k c d l =
      let down : core.down ≡ Some number = ap (λ (s : State). s.down) c ∙ d in
      received_at core m room true heard is h up (subst (λ (s : State). MessageTold old.core m x true s) (sym c) (heard_whole old.core mid m x k)) l (fell core number down) (λ _. is_down core number down)

  pub received_whole : (mid core : State) (m : Message) (room : Bool) (heard : Snapshot Message) → n.told ≡ told.Received heard e true → heard.value ≡ m → old.core.down ≡ None
      → step.Receives old.core m x mid → core ≡ mid → room ≡ true → 0 < after.room → j ≡ (old.journal ++ entry.Got vat ∷ []) ++ effect_entries vat x
      → ring.Receives down_by input_of sends_of StepsSo old before m room n (record { core = core; journal = j }) after
  received_whole mid core m room heard is h up k c had free l =
      received_at core m room true heard is h up (subst (λ (s : State). MessageTold old.core m x true s) (sym c) (heard_whole old.core mid m x k)) l (λ _. free)
      (λ g. absurd (let y : true ≡ false = sym had ∙ g in cc))

  pub received_less : (first mid last core : State) (m : Message) (room : Bool) (y : Effects) (heard : Snapshot Message) → n.told ≡ told.Received heard e false → heard.value ≡ m → old.core.down ≡ None
      → step.Receives old.core m y first → first.down ≡ None → mid ≡ first → ShutsFrom mid want_of_room mid.down x last → core ≡ last → j ≡ (old.journal ++ entry.Got vat ∷ []) ++ effect_entries vat x
      → ring.Receives down_by input_of sends_of StepsSo old before m room n (record { core = core; journal = j }) after
  received_less first mid last core m room y heard is h up taken up_still same s c l =
      let k : step.Receives old.core m y mid = subst (λ (z : State). step.Receives old.core m y z) (sym same) taken in
      let still : mid.down ≡ None = ap (λ (z : State). z.down) same ∙ up_still in
      let g : Falls mid want_of_room x last = subst (λ (o : Option ℕ). ShutsFrom mid want_of_room o x last) still s in
      let down : core.down ≡ Some want_of_room = ap (λ (z : State). z.down) (c ∙ g.new_is) in
      received_at core m room false heard is h up (subst (λ (z : State). MessageTold old.core m x false z) (sym c) (heard_less old.core mid last m y x k still s)) l (fell core want_of_room down) (λ _. is_down core want_of_room down)

  pub obeyed_at : (mid core : State) (c : Command) (room : Bool) (asked : Snapshot Command) (said : Snapshot (Result Granted Refusal)) (answer : Result Granted Refusal) (own : Vat → List JournalEntry)
      → n.told ≡ told.Obeyed asked said e true → asked.value ≡ c → said.value ≡ answer → old.core.down ≡ None → step.Obeys old.core c answer x mid → core ≡ mid
      → j ≡ (old.journal ++ own vat) ++ effect_entries vat x
      → ((h : List JournalEntry) → NumbersItsCalls old.core.vat old.core h → own old.core.vat ≡ own_entries h old.core.vat c answer)
      → (core.down ≡ None → 0 < after.room) → room ≡ true
      → ring.Obeys down_by input_of sends_of StepsSo old before c room n (record { core = core; journal = j }) after
  obeyed_at mid core c room asked said answer own is h g up k same l o free had =
      obeys_so old (record { core = core; journal = j }) before after c room n asked said e (own old.core.vat) is h up
      (subst (λ (s : State). step.Obeys old.core c said.value e.value s) (sym same) (subst (λ (y : Effects). step.Obeys old.core c said.value y mid) (sym f.value) (subst (λ (r : Result Granted Refusal). step.Obeys old.core c r x mid) (sym g) k)))
      (journal_so (old.journal ++ own vat) l ∙ ap (λ (u : Vat). (old.journal ++ own u) ++ effect_entries old.core.vat e.value) f.vat_is) entries_so
      (λ p q. o p q ∙ ap (λ (r : Result Granted Refusal). own_entries p old.core.vat c r) (sym g))
      queued_so free (λ i. absurd (let y : true ≡ false = sym had ∙ i in cc))

  pub overflowed_at : OverflowIsShut → (first mid last core : State) (c : Command) (room : Bool) (answer : Result Granted Refusal) (y : Effects) → n.told ≡ told.Shut e → old.core.down ≡ None
      → step.Obeys old.core c answer y first → first.down ≡ None → mid ≡ first → ShutsFrom mid want_of_room mid.down x last → core ≡ last → j ≡ old.journal ++ effect_entries vat x
      → ring.Obeys down_by input_of sends_of StepsSo old before c room n (record { core = core; journal = j }) after
  overflowed_at law first mid last core c room answer y is up taken up_still at s same l =
      let k : step.Obeys old.core c answer y mid = subst (λ (z : State). step.Obeys old.core c answer y z) (sym at) taken in
      let still : mid.down ≡ None = ap (λ (z : State). z.down) at ∙ up_still in
      overflows_so law old (record { core = core; journal = j }) mid before after c room n answer y e is up k still
      (subst (λ (z : State). ShutsFrom mid want_of_room mid.down e.value z) (sym same) (subst (λ (w : Effects). ShutsFrom mid want_of_room mid.down w last) (sym f.value) s))
      (journal_so old.journal l) entries_so queued_so

-- The frames that wait are the same after room was made.
pub queues_from : (old mid new : Queue Message) (ms : List Message) → mid.frames ≡ old.frames → mid.made ≡ old.made → mid.heard ≡ old.heard → Queues mid ms new → Queues old ms new
queues_from old mid new ms a b c q = record {
  frames = q.frames ∙ ap (λ l. l ++ frames_from mid.made mid.heard ms) a ∙ ap (λ k. old.frames ++ frames_from k mid.heard ms) b ∙ ap (λ k. old.frames ++ frames_from old.made k ms) c;
  made = q.made ∙ ap (λ k. k + length ms) b;
  heard = q.heard ∙ c;
}

-- What a note writes is the command's own.
pub own_written : (s t : State) (c : Command) (g : Granted) (x : Effects) (note : own.Note) → IsOwn s c note → step.Obeys s c (Ok g) x t
    → (h : List JournalEntry) → NumbersItsCalls s.vat s h → note_entries s.vat note g ≡ own_entries h s.vat c (Ok g)
own_written s t c g x note noted k h counts = own_so s.vat h s c g x t (index_of s c) (Ok note) counts k refl noted tt

pub answered_done : (s t : State) (c : Command) (a : Answer) (g : Granted) (x : Effects) → a ≡ Done g x → AnswersTo s c a t → step.Obeys s c (Ok g) x t
answered_done s t c a g x e h = subst (λ (b : Answer). step.Obeys s c (answer_in b) (effects_in b) t) e h.obeys

pub answered_refused : (s t : State) (c : Command) (a : Answer) (r : Refusal) (back : Command) → a ≡ Refused r back → AnswersTo s c a t → step.Obeys t c (Err r) quiet t
answered_refused s t c a r back e h =
    let k : AnswersTo s c (Refused r back) t = subst (λ (b : Answer). AnswersTo s c b t) e h in
    subst (λ (z : State). step.Obeys z c (Err r) quiet t) (sym k.unchanged) k.obeys

pub is_fall : (o : Option ℕ) (number : ℕ) (x : Effects) → o ≡ Some number → IfSome o (IsFall x) → IsFall x number
is_fall o number x e h = subst (λ (p : Option ℕ). IfSome p (IsFall x)) e h

pub never : {P : Type 0} (o p : Option ℕ) (number : ℕ) → p ≡ o → o ≡ Some number → p ≡ None → P
never o p number same d g = absurd (let y : Some number ≡ None = sym (same ∙ d) ∙ g in cc)

pub obeys_at : (s b t : State) (c d : Command) (a : Result Granted Refusal) (x : Effects) → b ≡ s → d ≡ c → step.Obeys s c a x t → step.Obeys b d a x t
obeys_at s b t c d a x e f k = subst (λ (z : State). step.Obeys z d a x t) (sym e) (subst (λ (z : Command). step.Obeys s z a x t) (sym f) k)

-- The journal and the frames that wait are those of before.
pub moved : (core : State) (j k : List JournalEntry) (w v : Queue Message) (c : Command) (room : Bool) (n : Note) (new : Held) (after : Queue Message)
    → j ≡ k → w.frames ≡ v.frames → w.made ≡ v.made → w.heard ≡ v.heard
    → ring.Obeys down_by input_of sends_of StepsSo (record { core = core; journal = j }) w c room n new after
    → ring.Obeys down_by input_of sends_of StepsSo (record { core = core; journal = k }) v c room n new after
moved core j k w v c room n new after e f m h o =
    let s : ring.Obeys down_by input_of sends_of StepsSo (record { core = core; journal = k }) w c room n new after = subst (λ (l : List JournalEntry). ring.Obeys down_by input_of sends_of StepsSo (record { core = core; journal = l }) w c room n new after) e o in record {
      steps = record {
        is_step = s.steps.is_step;
        frames = s.steps.frames ∙ ap (λ x. x ++ frames_from w.made w.heard (sends_of n)) f ∙ ap (λ (x : ℕ). v.frames ++ frames_from x w.heard (sends_of n)) m ∙ ap (λ (x : ℕ). v.frames ++ frames_from v.made x (sends_of n)) h;
        made = s.steps.made ∙ ap (λ (x : ℕ). x + length (sends_of n)) m;
        heard = s.steps.heard ∙ h;
        room = s.steps.room;
      };
      is_of = s.is_of;
      shut = s.shut;
      overflow = s.overflow;
    }
