use Rattle.std.proofs.Common.{◌≡◌, length}
use Rattle.core_store.specs.Holding.{IsSound}
use Rattle.core_store.specs.Noted.{noted_of}
use Rattle.core_step_sweeps.proofs.notes.rest_questions.Given as goal

abbrev pub invariant-loop-id : goal.invariant-loop-id
invariant-loop-id l = record {
  same : l.store ≡ record (l.fn.store) { names = l.store.names };
  sound : IsSound l.store;
  noted : noted_of l.store.names ≡ record (noted_of l.fn.store.names) { questions = l.store.names.questions.noted };
}

abbrev pub decreases-loop-id : goal.decreases-loop-id
decreases-loop-id l = length l.store.names.questions.noted
