use Rattle.std.proofs.Common.{ap, ◌∙◌}
use Rattle.core_refcounts.specs.Names.{Names}
use Rattle.core_store.specs.declared.store.Store.{Store}
use Rattle.core_store.specs.Noted.{Notes, noted_of}
use Rattle.core_step_collects.proofs.Searching.{promise_passed, promise_again}
use Rattle.core_step_collects.proofs.search.next_loose_promise.Goals as goal

pub returns-then-is_loose_promise-clause-sound : goal.returns-then-is_loose_promise-clause-sound
returns-then-is_loose_promise-clause-sound c =
    let none = ap (λ (x : Store). x.waits.taken) c.loop-key.invariant.same ∙ c.requires.none_taken in
    promise_again c.loop-key.store none c.loop-key.invariant.sound c.take_promise.new.self c.note_promise.new.self c.in-Some.key c.in-Some.ensures c.in-Ok.ensures.ok

pub loop-key-preserved : goal.loop-key-preserved
loop-key-preserved c =
    let none = ap (λ (x : Store). x.waits.taken) c.loop-key.invariant.same ∙ c.requires.none_taken in record {
      same = ap (λ (x : Store). record x { names = c.take_promise.new.self }) c.loop-key.invariant.same;
      sound = promise_passed c.loop-key.store none c.loop-key.invariant.sound c.take_promise.new.self c.in-Some.key c.in-Some.ensures c.if-is_loose_promise.ensures;
      noted = ap (λ (n : Names). record (noted_of n) { promises = c.take_promise.new.self.promises.noted }) c.in-Some.ensures.2 ∙ ap (λ (n : Notes). record n { promises = c.take_promise.new.self.promises.noted }) c.loop-key.invariant.noted;
    }
