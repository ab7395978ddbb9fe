use Rattle.std.proofs.Common.{sym, ap, subst, ◌∙◌}
use Rattle.core_store.specs.declared.store.Store.{Store}
use Rattle.core_step.specs.InProgress.{IsReady}
use Rattle.core_step_commands.proofs.advances.shorten_ways.Goals as goal

pub shorten_beyond-requires : goal.shorten_beyond-requires
shorten_beyond-requires c = subst (λ (x : Store). IsReady (record (c.args.step.now) { store = x })) (sym c.shorten-wire.ensures.same) c.requires

pub returns : goal.returns
returns c = c.shorten_beyond.ensures ∙ ap (λ (x : Store). record (c.args.step.now) { store = x }) c.shorten-wire.ensures.same
