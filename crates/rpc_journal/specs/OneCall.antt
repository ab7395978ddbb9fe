-- The journal of one bootstrapped call, and what its history says (docs/history.md, "One call").
use Rattle.std.specs.Prelude.{◌≡◌, Some, None, List, [], ◌∷◌}
use Rattle.rpc_msg.specs.declared.ids.Vat.TheVariants.{A, B}
use Rattle.rpc_msg.specs.declared.ids.Stamp.{Stamp}
use Rattle.rpc_msg.specs.Payloads.{null_payload, root_payload}
use Rattle.rpc_journal.specs.declared.report.Outcome.TheVariants as outcome
use Rattle.rpc_journal.specs.declared.entry.Origin.TheVariants as origin
use Rattle.rpc_journal.specs.declared.entry.JournalEntry.{JournalEntry}
use Rattle.rpc_journal.specs.declared.entry.JournalEntry.TheVariants as entry
use Rattle.rpc_journal.specs.History.{Ref, made, delivered}
use Rattle.rpc_journal.specs.Meaning.{History, StandsFor, ObjectAt}

abbrev pub first_stamp : Stamp
first_stamp = record { vat = A; reference = record { 0 = 0 }; index = 0 }

-- Vat A asks for vat B's bootstrap object, which is object 0, and makes a call at it before the answer has come.
abbrev pub one_call : List JournalEntry
one_call =
    entry.Asked A (record { 0 = 0 })
    ∷ entry.Born A (record { 0 = 0 }) (origin.Field (record { 0 = 0 }) [])
    ∷ entry.Made A (record { reference = record { 0 = 0 }; index = 0; call = record { 0 = 1 }; interface = 7; method = 1; payload = null_payload; refs = [] })
    ∷ entry.Delivered B (record { task = record { 0 = 0 }; object = record { 0 = 0 }; stamp = first_stamp; interface = 7; method = 1; payload = null_payload; refs = [] })
    ∷ entry.Ended A (record { call = record { 0 = 0 }; outcome = outcome.Results root_payload; refs = record { 0 = 1 } ∷ [] })
    ∷ entry.Answered B (record { 0 = 0 }) (outcome.Results null_payload) []
    ∷ entry.Ended A (record { call = record { 0 = 1 }; outcome = outcome.Results null_payload; refs = [] })
    ∷ []

abbrev pub one_history : History
one_history = record { journal = one_call; root_a = None; root_b = Some 0 }

-- The reference that the call was made through, and the one that the Bootstrap's answer brought.
abbrev pub asked_for : Ref
asked_for = record { vat = A; number = 0 }

abbrev pub brought : Ref
brought = record { vat = A; number = 1 }

-- The call was made and delivered, and both references stand for the object.
pub record OneCallIsRead : Type 0 where
  pub made_once : made one_call asked_for ≡ first_stamp ∷ []
  pub delivered_once : delivered one_call asked_for ≡ first_stamp ∷ []
  pub reached : StandsFor one_history asked_for (ObjectAt B 0)
  pub brought_too : StandsFor one_history brought (ObjectAt B 0)
