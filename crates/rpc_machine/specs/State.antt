-- What the core of a vat holds (docs/protocol.md, "What a vat holds"; rpc.capnp, the four tables of a connection).
use Rattle.std.specs.Prelude.{ℕ, Option, None, refl}
use Rattle.std.specs.FinMap.{empty, code}
use Rattle.std.specs.Coded.{Coded, code_by, coded×, coded_ℕ, coded_option}
use Rattle.finite_maps.specs.Tally.{Map}
use Rattle.rpc_journal.specs.rpc_msg.specs.contracts.ids.Vat as vat_row
use Rattle.rpc_journal.specs.rpc_msg.specs.contracts.ids.ObjectId as object_id_row
use Rattle.rpc_machine.specs.contracts.command.Level as level_row
use Rattle.rpc_machine.specs.contracts.entries.Question as question_row
use Rattle.rpc_machine.specs.contracts.entries.AnswerEntry as answer_row
use Rattle.rpc_machine.specs.contracts.entries.Import as import_row
use Rattle.rpc_machine.specs.contracts.entries.Export as export_row
use Rattle.rpc_machine.specs.contracts.entries.Reference as reference_row
use Rattle.rpc_machine.specs.contracts.calls.OwnCall as own_call_row
use Rattle.rpc_machine.specs.contracts.calls.Promise as promise_row
use Rattle.rpc_machine.specs.contracts.calls.KeptOutcome as outcome_row
use Rattle.rpc_machine.specs.contracts.entries.Embargo as embargo_row
use Rattle.rpc_journal.specs.rpc_msg.specs.declared.ids.Vat.{Vat}
use Rattle.rpc_journal.specs.rpc_msg.specs.declared.ids.ObjectId.{ObjectId}
use Rattle.rpc_machine.specs.declared.command.Level.{Level}
use Rattle.rpc_machine.specs.declared.entries.Question.{Question}
use Rattle.rpc_machine.specs.declared.entries.AnswerEntry.{AnswerEntry}
use Rattle.rpc_machine.specs.declared.entries.Import.{Import}
use Rattle.rpc_machine.specs.declared.entries.Export.{Export}
use Rattle.rpc_machine.specs.declared.entries.Reference.{Reference}
use Rattle.rpc_machine.specs.declared.calls.Promise.{Promise}
use Rattle.rpc_machine.specs.declared.calls.KeptOutcome.{KeptOutcome}
use Rattle.rpc_machine.specs.declared.entries.Embargo.{Embargo}
use Rattle.rpc_machine.specs.declared.calls.OwnCall.{OwnCall}

pub record State : Type 0 where
  -- which vat it is, its level and its bootstrap object
  pub vat : Vat
  pub level : Level
  pub bootstrap : Option ObjectId
  -- the four tables: what it asked, and what the peer asked, by question ids; what the peer gave it, and what it gave
  -- the peer, by export ids
  pub questions : Map Question
  pub answers : Map AnswerEntry
  pub imports : Map Import
  pub exports : Map Export
  -- by number, the application's references, its unfinished calls, its unanswered tasks (each with the key of its
  -- outcome) and its unsettled promises (each with its key)
  pub refs : Map Reference
  pub calls : Map OwnCall
  pub tasks : Map ℕ
  pub unsettled : Map ℕ
  -- own promises and kept outcomes, by keys, and embargoes, by their ids
  pub promises : Map Promise
  pub outcomes : Map KeptOutcome
  pub embargoes : Map Embargo
  -- the next numbers
  pub next_ref : ℕ
  pub next_call : ℕ
  pub next_task : ℕ
  pub next_promise : ℕ
  -- the fault that took the vat down
  pub down : Option ℕ

-- A new vat.
abbrev pub start : Vat → Level → Option ObjectId → State
start vat level bootstrap = record {
  vat = vat;
  level = level;
  bootstrap = bootstrap;
  questions = empty;
  answers = empty;
  imports = empty;
  exports = empty;
  refs = empty;
  calls = empty;
  tasks = empty;
  unsettled = empty;
  promises = empty;
  outcomes = empty;
  embargoes = empty;
  next_ref = 0;
  next_call = 0;
  next_task = 0;
  next_promise = 0;
  down = None;
}

abbrev pub map_code : {X : Type 0} → Coded X → Coded (Map X)
map_code x = code coded_ℕ x

-- A state is stored as the tuple of its fields.
abbrev pub state_code : Coded State
state_code =
    code_by
    ((((Vat × Level) × (Option ObjectId × Option ℕ)) × ((ℕ × ℕ) × (ℕ × ℕ)))
    × ((((Map Question × Map AnswerEntry) × (Map Import × Map Export)) × ((Map Reference × Map OwnCall) × (Map ℕ × Map ℕ))) × ((Map Promise × Map KeptOutcome) × Map Embargo)))
    (coded×
    (coded× (coded× (coded× vat_row.the_row.coded level_row.the_row.coded) (coded× (coded_option object_id_row.the_row.coded) (coded_option coded_ℕ))) (coded× (coded× coded_ℕ coded_ℕ) (coded× coded_ℕ coded_ℕ)))
    (coded×
    (coded×
    (coded× (coded× (map_code question_row.the_row.coded) (map_code answer_row.the_row.coded)) (coded× (map_code import_row.the_row.coded) (map_code export_row.the_row.coded)))
    (coded× (coded× (map_code reference_row.the_row.coded) (map_code own_call_row.the_row.coded)) (coded× (map_code coded_ℕ) (map_code coded_ℕ))))
    (coded× (coded× (map_code promise_row.the_row.coded) (map_code outcome_row.the_row.coded)) (map_code embargo_row.the_row.coded))))
    (λ s. (
      (((s.vat, s.level), (s.bootstrap, s.down)), ((s.next_ref, s.next_call), (s.next_task, s.next_promise))),
      ((((s.questions, s.answers), (s.imports, s.exports)), ((s.refs, s.calls), (s.tasks, s.unsettled))), ((s.promises, s.outcomes), s.embargoes)),
    ))
    (λ p. record {
      vat = p.0.0.0.0;
      level = p.0.0.0.1;
      bootstrap = p.0.0.1.0;
      down = p.0.0.1.1;
      next_ref = p.0.1.0.0;
      next_call = p.0.1.0.1;
      next_task = p.0.1.1.0;
      next_promise = p.0.1.1.1;
      questions = p.1.0.0.0.0;
      answers = p.1.0.0.0.1;
      imports = p.1.0.0.1.0;
      exports = p.1.0.0.1.1;
      refs = p.1.0.1.0.0;
      calls = p.1.0.1.0.1;
      tasks = p.1.0.1.1.0;
      unsettled = p.1.0.1.1.1;
      promises = p.1.1.0.0;
      outcomes = p.1.1.0.1;
      embargoes = p.1.1.1;
    })
    (λ s. refl)
