-- The step of one vat, from its core's step and how that was told.
use Rattle.std.proofs.Common.{◌≡◌, inl, inr, ℕ, Bool, true, false, cond, Option, None, Some, is_some, ◌||◌, ◌&&◌, IfSome, Result, Ok, Err, List, [], ◌∷◌, ◌++◌, length, append-nil, append_assoc, refl, sym, ap, subst, ◌∙◌}
use Rattle.rpc_msg.specs.Memory.{Memory}
use Rattle.rpc_msg.specs.declared.ids.Vat.{Vat}
use Rattle.rpc_msg.specs.declared.message.PlainMessage.TheVariants as plain
use Rattle.rpc_msg.specs.declared.message.Message.{Message}
use Rattle.rpc_msg.specs.declared.message.Message.TheVariants as message
use Rattle.rpc_journal.specs.declared.entry.JournalEntry.{JournalEntry}
use Rattle.rpc_journal.specs.declared.entry.JournalEntry.TheVariants as entry
use Rattle.rpc_machine.specs.declared.command.Command.{Command}
use Rattle.rpc_machine.specs.declared.command.Granted.{Granted}
use Rattle.rpc_machine.specs.declared.command.Refusal.{Refusal}
use Rattle.rpc_machine.specs.declared.command.Effects.{Effects}
use Rattle.rpc_machine.specs.State.{State}
use Rattle.rpc_machine.specs.Progress.{quiet}
use Rattle.rpc_machine.specs.Down.{falling_by, IsUnchanged, Falls, ShutsFrom}
use Rattle.rpc_machine.specs.Steps.{Obeys, Refuses, LacksMemory, GoesDown, Shuts, IsDone, Receives, WasDown, FaultsBy, LacksRoom, IsHandled}
use Rattle.rpc_machine.specs.Refusals.{is_shut}
use Rattle.rpc_machine.specs.World.{given_up}
use Rattle.rpc_machine.specs.Journal.{own_entries, effect_entries}
use Rattle.rpc_machine.proofs.StaysDown.{command_down}
use Rattle.laws_steps.proofs.UsedOnce.{command_leaves_up, message_leaves_up}
use Rattle.laws_runs.specs.MadeCalls.{NumbersItsCalls}
use Rattle.core_telling.specs.Answer.{Answer}
use Rattle.core_telling.specs.Answer.TheVariants.{Done, Refused}
use Rattle.core_telling.specs.Answers.{AnswersTo, answer_in, effects_in}
use Rattle.core_telling.specs.declared.notes.Note.{Note}
use Rattle.core_telling.specs.Notes.{index_of}
use Rattle.core_telling.specs.Told.{without_sends, given_of, noted_entries, IsFall, HadNote}
use Rattle.core_telling.proofs.Noting.{IsNoteOf, own_so}
use Rattle.core_telling.proofs.Falling.{obeys_fall}
use Rattle.vat_world.specs.declared.answer.StepAnswer.{StepAnswer}
use Rattle.vat_world.specs.Stages.{Stage, stepped, takes_down, Logs, TellsDone, TellsRefused, ObeysUp, ObeysUpSo, ObeysDown, ObeysBy, ObeysSo, HandlesUp}

-- ---- A step that takes a vat down says no more than an Abort

pub done_falls : (s : State) (c : Command) (a : Answer) (g : Granted) (x : Effects) (t : State) → s.down ≡ None → a ≡ Done g x → AnswersTo s c a t → IfSome t.down (IsFall x)
done_falls s c a g x t up e h = obeys_fall s c (Ok g) x t up (subst (λ (b : Answer). Obeys s c (answer_in b) (effects_in b) t) e h.obeys)

-- ---- Messages

either : {X : Type 0} (b : Bool) (x : X) → cond b x x ≡ x
either true x = refl
either false x = refl

-- With an entry that was written before.
behind : (v : Vat) (g : Stage) (s : State) (told : Effects) (xs own : List JournalEntry) → stepped v (record g { journal = g.journal ++ xs }) s told own ≡ stepped v g s told (xs ++ own)
behind v g s told xs own = ap (λ (l : List JournalEntry). record (stepped v g s told []) { journal = l }) (append_assoc g.journal xs (own ++ effect_entries v told) ∙ ap (λ (l : List JournalEntry). g.journal ++ l) (sym (append_assoc xs own (effect_entries v told))))

pub handles_by : (v : Vat) (g : Stage) (m : Message) (x : Effects) (t : State) (journal : List JournalEntry) (start : ℕ) (room : Bool) (given : Effects) (new : Stage)
    → Receives g.acting.core m x t → journal ≡ g.journal ++ entry.Got v ∷ [] → start ≡ length journal
    → ((b own : List JournalEntry) → journal ≡ b ++ own → start ≡ length b → Logs v (record g { acting = record (g.acting) { core = t }; journal = b }) x own room given new) → HandlesUp v g m given new
handles_by v g m x t journal start room given new r j n logs =
    let l = logs (g.journal ++ entry.Got v ∷ []) [] (j ∙ sym (append-nil (g.journal ++ entry.Got v ∷ []))) (n ∙ ap (λ (xs : List JournalEntry). length xs) j) in record {
      told = l.told;
      room = room;
      s = l.s;
      told_so = (x, t, r, l.tells);
      new_is = l.new_is ∙ ap (λ (own : List JournalEntry). stepped v (record g { journal = g.journal ++ entry.Got v ∷ [] }) l.s l.told own) (either room []) ∙ behind v g l.s l.told (entry.Got v ∷ []) [];
      given_is = l.given_is;
    }

-- ---- Commands

pub refused_by : (v : Vat) (g : Stage) (c : Command) (a : Answer) (r : Refusal) (back : Command) (t : State) (new : Stage)
    → a ≡ Refused r back → AnswersTo g.acting.core c a t → TellsRefused v (record g { acting = record (g.acting) { core = t } }) r new → ObeysUp v g c (Refused r back) new
refused_by v g c a r back t new e h tells =
    let k = subst (λ (b : Answer). AnswersTo g.acting.core c b t) e h in
    let l = tells.logs in record {
      answer = Err r;
      told = l.told;
      room = tells.room;
      s = l.s;
      told_so = (Err r, quiet, t, k.obeys, sym (either tells.room (Err r)), l.tells);
      new_is = l.new_is;
      given_is = ap (λ (b : Command). Refused r b) k.handed_back;
    }

done_writes : (v : Vat) (g : Stage) (c : Command) (granted : Granted) (x : Effects) (t : State) (i : ℕ) (note : Result Note Memory) (room : Bool)
    → NumbersItsCalls v g.acting.core g.journal → Obeys g.acting.core c (Ok granted) x t → i ≡ index_of g.acting.core c → IsNoteOf i c note → HadNote room note
    → cond room (noted_entries v note granted) [] ≡ cond room (own_entries g.journal v c (cond room (Ok granted) (given_up (Ok granted)))) []
done_writes v g c granted x t i note true counts k e noted had = own_so v g.journal g.acting.core c granted x t i note counts k e noted had
done_writes v g c granted x t i note false counts k e noted had = refl

pub done_by : (v : Vat) (g : Stage) (c : Command) (a : Answer) (granted left : Granted) (x : Effects) (t : State) (i : ℕ) (note : Result Note Memory) (given : Effects) (new : Stage)
    → NumbersItsCalls v g.acting.core g.journal → a ≡ Done granted x → AnswersTo g.acting.core c a t → i ≡ index_of g.acting.core c → IsNoteOf i c note
    → TellsDone v (record g { acting = record (g.acting) { core = t } }) note granted x left given new → ObeysUp v g c (Done left given) new
done_by v g c a granted left x t i note given new counts e h is_index noted tells =
    let k = subst (λ (b : Answer). Obeys g.acting.core c (answer_in b) (effects_in b) t) e h.obeys in
    let l = tells.logs in
    let room = tells.room in record {
      answer = cond room (Ok granted) (given_up (Ok granted));
      told = l.told;
      room = room;
      s = l.s;
      told_so = (Ok granted, x, t, k, refl, l.tells);
      new_is = l.new_is ∙ ap (λ (xs : List JournalEntry). stepped v g l.s l.told xs) (done_writes v g c granted x t i note room counts k is_index noted tells.had_note);
      given_is = ap (λ (y : Effects). Done left y) l.given_is ∙ ap (λ (b : Result Granted Refusal). given_of c b l.told) tells.left_is;
    }

-- The same from the core's call of a command's name.
pub refused_as : (v : Vat) (g : Stage) (c : Command) (r : Refusal) (back : Command) (t : State) (new : Stage)
    → Obeys g.acting.core c (Err r) quiet t → back ≡ c → t ≡ g.acting.core → TellsRefused v (record g { acting = record (g.acting) { core = t } }) r new → ObeysUp v g c (Refused r back) new
refused_as v g c r back t new o e same tells = refused_by v g c (Refused r back) r back t new refl (record { obeys = o; handed_back = e; unchanged = same }) tells

pub done_as : (v : Vat) (g : Stage) (c : Command) (granted left : Granted) (x : Effects) (t : State) (i : ℕ) (note : Result Note Memory) (given : Effects) (new : Stage)
    → NumbersItsCalls v g.acting.core g.journal → Obeys g.acting.core c (Ok granted) x t → i ≡ index_of g.acting.core c → IsNoteOf i c note
    → TellsDone v (record g { acting = record (g.acting) { core = t } }) note granted x left given new → ObeysUp v g c (Done left given) new
done_as v g c granted left x t i note given new counts o is_index noted tells =
    done_by v g c (Done granted x) granted left x t i note given new counts refl (record { obeys = o; handed_back = tt; unchanged = tt }) is_index noted tells

-- At a vat that is down.
down_by : (g : Stage) (c : Command) (a : Answer) (t : State) → is_some g.acting.core.down ≡ true → AnswersTo g.acting.core c a t → ObeysDown g c a (record g { acting = record (g.acting) { core = t } })
down_by g c (Done granted x) t d h =
    let k = command_down g.acting.core c (Ok granted) x t d h.obeys in record {
      answer = Ok granted;
      told = x;
      obeys = subst (λ (u : State). Obeys g.acting.core c (Ok granted) x u) k.new_is h.obeys;
      new_is = ap (λ (u : State). record g { acting = record (g.acting) { core = u } }) k.new_is;
      given_is = ap (λ (y : Effects). Done granted y) (k.effects_are ∙ sym (ap without_sends k.effects_are));
    }
down_by g c (Refused r back) t d h =
    let k = command_down g.acting.core c (Err r) quiet t d h.obeys in record {
      answer = Err r;
      told = quiet;
      obeys = subst (λ (u : State). Obeys g.acting.core c (Err r) quiet u) k.new_is h.obeys;
      new_is = ap (λ (u : State). record g { acting = record (g.acting) { core = u } }) k.new_is;
      given_is = ap (λ (b : Command). Refused r b) h.handed_back;
    }

abbrev Remains : Vat → Stage → Command → Answer → State → Option ℕ → Type 0
Remains v g c a t o = ObeysBy o v g c a (record g { acting = record (g.acting) { core = t } })

some_down : (v : Vat) (g : Stage) (c : Command) (a : Answer) (t : State) (o : Option ℕ) → is_some o ≡ true → ObeysDown g c a (record g { acting = record (g.acting) { core = t } }) → Remains v g c a t o
some_down v g c a t None e h = absurd (let f : false ≡ true = e in cc)
some_down v g c a t (Some n) e h = h

pub when_down : (v : Vat) (g : Stage) (c : Command) (a : Answer) (t : State) → is_some g.acting.core.down ≡ true → AnswersTo g.acting.core c a t → Remains v g c a t g.acting.core.down
when_down v g c a t d h = some_down v g c a t g.acting.core.down d (down_by g c a t d h)

-- ---- A command of a kind

pub up_so : (o : Option ℕ) (v : Vat) (g : Stage) (c d : Command) (given : StepAnswer) (new : Stage) → is_some o ≡ false → c ≡ d → ObeysUpSo v g d given new → ObeysSo o v g c given new
up_so None v g c d given new up e h = subst (λ (x : Command). ObeysSo None v g x given new) (sym e) h
up_so (Some n) v g c d given new up e h = absurd (let f : true ≡ false = up in cc)

-- It takes no vat down by a shut, if it is none.
pub no_shut : (o p : Option ℕ) (c d : Command) (old new : Bool) → is_some o ≡ false → c ≡ d → is_shut d ≡ false → new ≡ old → new ≡ (old || takes_down o c p)
no_shut None p c d old new up e f g =
    subst (λ (x : Command). new ≡ (old || takes_down None x p)) (sym e) (g ∙ or_false old ∙ ap (λ (b : Bool). old || (b && is_some p)) (sym f))
  where
    or_false : (b : Bool) → b ≡ (b || false)
    or_false true = refl
    or_false false = refl
no_shut (Some n) p c d old new up e f g = absurd (let h : true ≡ false = up in cc)
