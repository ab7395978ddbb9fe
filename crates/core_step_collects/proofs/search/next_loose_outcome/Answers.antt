use Rattle.std.proofs.Common.{ap, ◌∙◌}
use Rattle.core_refcounts.specs.Names.{Names}
use Rattle.core_store.specs.declared.store.Store.{Store}
use Rattle.core_store.specs.Noted.{Notes, noted_of}
use Rattle.core_step_collects.proofs.Searching.{outcome_passed, outcome_again}
use Rattle.core_step_collects.proofs.search.next_loose_outcome.Goals as goal

pub returns-then-is_loose_outcome-clause-sound : goal.returns-then-is_loose_outcome-clause-sound
returns-then-is_loose_outcome-clause-sound c =
    let none = ap (λ (x : Store). x.waits.taken) c.loop-key.invariant.same ∙ c.requires.none_taken in
    outcome_again c.loop-key.store none c.loop-key.invariant.sound c.take_outcome.new.self c.note_outcome.new.self c.in-Some.key c.in-Some.ensures c.in-Ok.ensures.ok

pub loop-key-preserved : goal.loop-key-preserved
loop-key-preserved c =
    let none = ap (λ (x : Store). x.waits.taken) c.loop-key.invariant.same ∙ c.requires.none_taken in record {
      same = ap (λ (x : Store). record x { names = c.take_outcome.new.self }) c.loop-key.invariant.same;
      sound = outcome_passed c.loop-key.store none c.loop-key.invariant.sound c.take_outcome.new.self c.in-Some.key c.in-Some.ensures c.if-is_loose_outcome.ensures;
      noted = ap (λ (n : Names). record (noted_of n) { outcomes = c.take_outcome.new.self.outcomes.noted }) c.in-Some.ensures.2 ∙ ap (λ (n : Notes). record n { outcomes = c.take_outcome.new.self.outcomes.noted }) c.loop-key.invariant.noted;
    }
