-- What the world's code keeps, through an event at either vat.
use Rattle.std.proofs.Common.{◌≡◌, ℕ, ◌≤◌, ◌||◌, Option, None, Some, List, [], ◌∷◌, ◌++◌, sym, ap, subst, ◌∙◌, arith}
use Rattle.rpc_msg.specs.declared.ids.Vat.{Vat}
use Rattle.rpc_msg.specs.declared.ids.Vat.TheVariants.{A, B}
use Rattle.rpc_journal.specs.declared.entry.JournalEntry.{JournalEntry}
use Rattle.rpc_machine.specs.declared.command.Command.{Command}
use Rattle.rpc_journal.specs.declared.entry.JournalEntry.TheVariants as entry
use Rattle.rpc_journal.specs.declared.entry.Counts.{Counts}
use Rattle.rpc_machine.specs.Queries.{counts_of}
use Rattle.rpc_machine.specs.declared.event.Event.TheVariants as event
use Rattle.laws_runs.specs.MadeCalls.{NumbersItsCalls, RunsCount}
use Rattle.vat_world.specs.declared.side.Side as kept
use Rattle.vat_world.specs.declared.answer.StepAnswer.{StepAnswer as Given}
use Rattle.vat_world.specs.Stages.{takes_down, ObeysSo, DeliversBy}
use Rattle.vat_world.specs.Rooms.{stage_of, seen_of, owed, HasRoom}
use Rattle.vat_world.specs.World.{Steps, IsReached}
use Rattle.vat_world.proofs.Reaching.{counts_so, reached_noted}
use Rattle.vat_world.proofs.Happened.{command_steps, deliver_steps}

abbrev Entries : Type 0
Entries = List JournalEntry × ℕ

pub turned : (a b : kept.Side) (j : Entries) → HasRoom a b j → HasRoom b a j
turned a b j h = record { acting = h.other; other = h.acting; entries = let e = h.entries in omega (arith, e) }

pub counts_a : (v : Vat) (a b : kept.Side) (j : Entries) → v ≡ A → RunsCount → IsReached (seen_of a b j) → a.core.down ≡ None → NumbersItsCalls v a.core j.0
counts_a A a b j e law r up = counts_so (seen_of a b j) A law r up
counts_a B a b j e law r up = absurd (let f : B ≡ A = e in cc)

pub counts_b : (v : Vat) (a b : kept.Side) (j : Entries) → v ≡ B → RunsCount → IsReached (seen_of a b j) → b.core.down ≡ None → NumbersItsCalls v b.core j.0
counts_b A a b j e law r up = absurd (let f : A ≡ B = e in cc)
counts_b B a b j e law r up = counts_so (seen_of a b j) B law r up

pub command_a : (v : Vat) (a b a' b' : kept.Side) (j j' : Entries) (c : Command) (answer : Given) → v ≡ A → ObeysSo a.core.down v (stage_of a b j) c answer (stage_of a' b' j') → a'.was_shut ≡ (a.was_shut || takes_down a.core.down c a'.core.down) → b'.was_shut ≡ b.was_shut → Steps (seen_of a b j) (event.Command v c) answer (seen_of a' b' j')
command_a A a b a' b' j j' c answer e h s t = subst (λ (x : Given). Steps (seen_of a b j) (event.Command A c) x (seen_of a' b' j')) (sym h.1) (command_steps A (seen_of a b j) (seen_of a' b' j') c h.0 h.2 (s, t))
command_a B a b a' b' j j' c answer e h s t = absurd (let f : B ≡ A = e in cc)

pub command_b : (v : Vat) (a b a' b' : kept.Side) (j j' : Entries) (c : Command) (answer : Given) → v ≡ B → ObeysSo b.core.down v (stage_of b a j) c answer (stage_of b' a' j') → b'.was_shut ≡ (b.was_shut || takes_down b.core.down c b'.core.down) → a'.was_shut ≡ a.was_shut → Steps (seen_of a b j) (event.Command v c) answer (seen_of a' b' j')
command_b A a b a' b' j j' c answer e h s t = absurd (let f : A ≡ B = e in cc)
command_b B a b a' b' j j' c answer e h s t = subst (λ (x : Given). Steps (seen_of a b j) (event.Command B c) x (seen_of a' b' j')) (sym h.1) (command_steps B (seen_of a b j) (seen_of a' b' j') c h.0 h.2 (s, t))

pub deliver_a : (v : Vat) (a b a' b' : kept.Side) (j j' : Entries) (answer : Given) → v ≡ A → DeliversBy a.inbox.0 a.core.down v (stage_of a b j) answer (stage_of a' b' j') → a'.was_shut ≡ a.was_shut → b'.was_shut ≡ b.was_shut → Steps (seen_of a b j) (event.Deliver v) answer (seen_of a' b' j')
deliver_a A a b a' b' j j' answer e h s t = deliver_steps A (seen_of a b j) (seen_of a' b' j') answer h (s, t)
deliver_a B a b a' b' j j' answer e h s t = absurd (let f : B ≡ A = e in cc)

pub deliver_b : (v : Vat) (a b a' b' : kept.Side) (j j' : Entries) (answer : Given) → v ≡ B → DeliversBy b.inbox.0 b.core.down v (stage_of b a j) answer (stage_of b' a' j') → b'.was_shut ≡ b.was_shut → a'.was_shut ≡ a.was_shut → Steps (seen_of a b j) (event.Deliver v) answer (seen_of a' b' j')
deliver_b A a b a' b' j j' answer e h s t = absurd (let f : A ≡ B = e in cc)
deliver_b B a b a' b' j j' answer e h s t = deliver_steps B (seen_of a b j) (seen_of a' b' j') answer h (s, t)

pub owed_three : (o : Option ℕ) → owed o ≤ 3
owed_three None = omega arith
owed_three (Some n) = omega arith

-- The counts of both vats are put behind.
pub noted : (a b : kept.Side) (j k : Entries) (x y : Counts) → HasRoom a b j → IsReached (seen_of a b j) → x ≡ counts_of a.core → y ≡ counts_of b.core → k.0 ≡ j.0 ++ entry.Tables x y ∷ [] → 6 ≤ k.1 → HasRoom a b k × IsReached (seen_of a b k)
noted a b j k x y h r e f g room = (
  record {
    acting = h.acting;
    other = h.other;
    entries = let p = owed_three a.core.down in let q = owed_three b.core.down in omega (arith, p, q, room);
  },
  subst (λ (l : List JournalEntry). IsReached (record (seen_of a b j) { journal = l }))
      (sym (g ∙ ap (λ (z : Counts). j.0 ++ entry.Tables z y ∷ []) e ∙ ap (λ (z : Counts). j.0 ++ entry.Tables (counts_of a.core) z ∷ []) f))
      (reached_noted (seen_of a b j) r),
)
