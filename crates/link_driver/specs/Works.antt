-- An end as its worker uses it (docs/threads.md).
use Rattle.std.specs.Prelude.{◌≡◌, ℕ, None, Some, Ok, Err, List, [], ◌++◌, refl}
use Rattle.std.proofs.Common.{append-nil, append_assoc, sym, ap, ◌∙◌}
use Rattle.rpc_machine.specs.declared.command.Command.{Command}
use Rattle.link_rings.specs.declared.entry.Entry.{Entry}
use Rattle.link_rings.specs.declared.turn.Turn.TheVariants.{Idle, Handled, Down}
use Rattle.link_rings.specs.Ends.{IsSameEnd, Flushes}
use Rattle.link_sides.specs.Answer.TheVariants as answer
use Rattle.link_logs.specs.declared.note.Note.{Note}
use Rattle.link_workers.specs.Playing.{Told, Commanded, Turned, Flushed}
use Rattle.link_ends.specs.Ends.{VatEnded, Takes, TurnsSo}

-- The same end, later: its log begins with what it was, so nothing of it is lost.
pub record IsLater (old new : VatEnded) : Type 0 where
  pub same : IsSameEnd old new
  pub more : List (Entry Note)
  pub log : new.log ≡ old.log ++ more

-- Each end is the same, later, with nothing added.
pub later_self : (x : VatEnded) → IsLater x x
later_self x =
    record {
      same = (((refl, refl, refl, refl), refl), ((refl, refl, refl, refl), refl), refl);
      more = [];
      log = sym (append-nil x.log);
    }

same_through : (x y z : VatEnded) → IsSameEnd x y → IsSameEnd y z → IsSameEnd x z
same_through x y z f t = (
  ((t.0.0.0 ∙ f.0.0.0, t.0.0.1 ∙ f.0.0.1, t.0.0.2 ∙ f.0.0.2, t.0.0.3 ∙ f.0.0.3), t.0.1 ∙ f.0.1),
  ((t.1.0.0 ∙ f.1.0.0, t.1.0.1 ∙ f.1.0.1, t.1.0.2 ∙ f.1.0.2, t.1.0.3 ∙ f.1.0.3), t.1.1 ∙ f.1.1),
  t.2 ∙ f.2,
)

-- What is later than a later end is later.
pub later_through : (x y z : VatEnded) → IsLater x y → IsLater y z → IsLater x z
later_through x y z first then =
    record {
      same = same_through x y z first.same then.same;
      more = first.more ++ then.more;
      log = then.log ∙ ap (λ es. es ++ then.more) first.log ∙ append_assoc x.log first.more then.more;
    }

-- What the end was asked, and what it answered.
abbrev pub StepsBy : VatEnded → Told → VatEnded → Type 0
StepsBy old (Commanded c (Ok done)) new = Takes old c (answer.Done done.0 done.1) new
StepsBy old (Commanded c (Err why)) new = (back : Command) × Takes old c (answer.Refused why back) new
StepsBy old (Turned (Ok None)) new = TurnsSo old Idle new
StepsBy old (Turned (Ok (Some effects))) new = TurnsSo old (Handled effects) new
StepsBy old (Turned (Err n)) new = TurnsSo old (Down n) new
StepsBy old Flushed new = (count : ℕ) × Flushes old count new
