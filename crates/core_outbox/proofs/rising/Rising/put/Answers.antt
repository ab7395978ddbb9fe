use Rattle.std.proofs.Common.{sym, ap, subst, ◌∙◌, arith}
use Rattle.std.specs.FinMap as map
use Rattle.core_outbox.specs.Rising.{IsAt, IsGapFor}
use Rattle.core_outbox.proofs.Search.{put_over, put_in_gap, put_is, put_keeps, entries_seen, len_put}
use Rattle.core_outbox.proofs.rising.Rising.put.Goals as goal

pub index_mut-requires : goal.index_mut-requires
index_mut-requires g c =
    let at = subst (λ es. IsAt es c.args.id c.in-Ok.at) (entries_seen _ _ _ c.self.invariant c.self.view_is) c.in-Ok.ensures.found in
    let in_range = at.in_range in
    omega (arith, in_range, c.self.inside.entries.ok.0)

pub invariant_of-self : goal.invariant_of-self
invariant_of-self g c =
    let at = subst (λ es. IsAt es c.args.id c.in-Ok.at) (entries_seen _ _ _ c.self.invariant c.self.view_is) c.in-Ok.ensures.found in
    put_keeps c.self.inside.entries.items _ c.args.id c.args.entry c.self.invariant (sym (put_over _ _ c.args.entry _ c.self.invariant at))

pub returns-in-Ok-clause-put : goal.returns-in-Ok-clause-put
returns-in-Ok-clause-put g c =
    let at = subst (λ es. IsAt es c.args.id c.in-Ok.at) (entries_seen _ _ _ c.self.invariant c.self.view_is) c.in-Ok.ensures.found in
    put_is c.self.inside.entries.items _ c.args.id c.args.entry c.self.invariant (sym (put_over _ _ c.args.entry _ c.self.invariant at)) ∙ ap (λ p. map.insert p.0 c.args.id c.args.entry) c.self.view_is

pub insert-requires : goal.insert-requires
insert-requires g c =
    let gap = subst (λ es. IsGapFor es c.args.id c.in-Err.at) (entries_seen _ _ _ c.self.invariant c.self.view_is) c.in-Err.ensures.absent in
    let in_range = gap.in_range in
    omega (arith, in_range, c.self.inside.entries.ok.0)

pub invariant_of-self-in-Ok-insert : goal.invariant_of-self-in-Ok-insert
invariant_of-self-in-Ok-insert g c =
    let gap = subst (λ es. IsGapFor es c.args.id c.in-Err.at) (entries_seen _ _ _ c.self.invariant c.self.view_is) c.in-Err.ensures.absent in
    put_keeps c.self.inside.entries.items _ c.args.id c.args.entry c.self.invariant (c.in-Ok-insert.ensures.items ∙ sym (put_in_gap _ _ c.args.entry _ gap))

pub returns-in-Ok-insert-clause-put : goal.returns-in-Ok-insert-clause-put
returns-in-Ok-insert-clause-put g c =
    let gap = subst (λ es. IsGapFor es c.args.id c.in-Err.at) (entries_seen _ _ _ c.self.invariant c.self.view_is) c.in-Err.ensures.absent in
    put_is c.self.inside.entries.items _ c.args.id c.args.entry c.self.invariant (c.in-Ok-insert.ensures.items ∙ sym (put_in_gap _ _ c.args.entry _ gap)) ∙ ap (λ p. map.insert p.0 c.args.id c.args.entry) c.self.view_is

pub returns-in-Ok-clause-len : goal.returns-in-Ok-clause-len
returns-in-Ok-clause-len g c = len_put c.args.self.now.0 _ c.args.id c.args.entry (returns-in-Ok-clause-put g c)

pub returns-in-Ok-insert-clause-len : goal.returns-in-Ok-insert-clause-len
returns-in-Ok-insert-clause-len g c = len_put c.args.self.now.0 _ c.args.id c.args.entry (returns-in-Ok-insert-clause-put g c)
