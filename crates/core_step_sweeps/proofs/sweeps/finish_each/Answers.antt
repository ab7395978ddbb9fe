use Rattle.std.proofs.Common.{◌≡◌, ◌+◌, List, ◌∷◌, drop, get_or, refl, sym, subst, ◌∙◌}
use Rattle.std.specs.FinMap as map
use Rattle.std.proofs.lemmas.List.{drop_more}
use Rattle.rpc_msg.specs.declared.ids.QuestionId.{QuestionId}
use Rattle.rpc_machine.specs.Sweeping.{FinishesEach}
use Rattle.core_store.specs.Holding.{state_of}
use Rattle.core_step_sweeps.specs.Ending.{finishing_of, AreLeft}
use Rattle.core_step_sweeps.specs.Over.{standing}
use Rattle.core_step_sweeps.proofs.Turning.{turn, comes_last, one_then, left_more}
use Rattle.core_step_sweeps.proofs.sweeps.finish_each.Goals as goal

pub finish_next-requires-clause-last : goal.finish_next-requires-clause-last
finish_next-requires-clause-last c =
    let s = state_of c.args.step.now.store in
    let ids : List QuestionId = c.args.over.now in
    let i = c.loop-q.q-index in
    let none : QuestionId = record { 0 = 0 } in
    let q : QuestionId = get_or ids i none in
    let left : AreLeft s c.loop-q.step (q ∷ drop (i + 1) ids) = subst (λ (qs : List QuestionId). AreLeft s c.loop-q.step qs) (drop_more ids i none c.loop-q-test.true) c.loop-q.invariant.left in
    comes_last s c.loop-q.step q (drop (i + 1) ids) left

pub loop-q-preserved : goal.loop-q-preserved
loop-q-preserved c =
    let s = state_of c.args.step.now.store in
    let ids : List QuestionId = c.args.over.now in
    let i = c.loop-q.q-index in
    let none : QuestionId = record { 0 = 0 } in
    let q : QuestionId = get_or ids i none in
    let qs : List QuestionId = drop (i + 1) ids in
    let x = c.loop-q.step in
    let y = c.finish_next.new.step in
    let before = c.loop-q.invariant in
    let done = c.finish_next.ensures in
    let now : drop i ids ≡ q ∷ qs = drop_more ids i none c.loop-q-test.true in
    let left : AreLeft s x (q ∷ qs) = subst (λ (l : List QuestionId). AreLeft s x l) now before.left in record {
      rest = λ new each. before.rest new (
          subst (λ (l : List QuestionId). FinishesEach (finishing_of x) (standing s l) new) (sym now)
          (turn s x y q qs new (map.get s.questions q.0) refl (one_then s x q qs left y done.one done.room) each));
      left = left_more s x q qs left y done.one done.room done.others done.below;
      arisen = done.arisen ∙ before.arisen;
      taken = done.taken;
      ending = done.ending;
    }
