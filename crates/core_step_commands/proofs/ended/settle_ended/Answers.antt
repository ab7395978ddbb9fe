use Rattle.std.proofs.Common.{ap, ◌∙◌}
use Rattle.rpc_machine.specs.Progress.{Progress, caps_of}
use Rattle.rpc_machine.specs.declared.calls.Value.{Value}
use Rattle.core_refcounts.specs.Names.{named_all}
use Rattle.core_store.specs.Noted.{noted_of}
use Rattle.core_store.specs.declared.store.Store.{Store}
use Rattle.core_store.specs.Holding.{state_of}
use Rattle.core_store_waits.specs.Noting.{noted_unnamed}
use Rattle.core_step.specs.InProgress.{progress_of}
use Rattle.core_step_commands.proofs.Once.{same_key, same_value, knew, said_so, has_ended, drains, noted_key}
use Rattle.core_step_commands.proofs.ended.settle_ended.Goals as goal

pub returns-clause-ended : goal.returns-clause-ended
returns-clause-ended c =
    let d = progress_of c.args.step.now in
    let then = progress_of c.next_arisen.new.step in
    let k = c.in-Some.key in
    let v = c.in-Some.value in
    let is = c.in-Some.ensures.some in
    let t = state_of c.know.new.store in
    let new = progress_of c.tell_ended.new.step in
    let call = c.args.call in
    let told = c.args.told in
    let h = c.requires.ends in
    has_ended d call told h new
    (said_so d call told h then k v is t c.new.result new (knew d call told h then k v is t c.in-Ok.ensures.ok) c.new.ensures c.tell_ended.ensures.said)

pub returns-clause-drains : goal.returns-clause-drains
returns-clause-drains c =
    let ended = returns-clause-ended c in
    drains (progress_of c.args.step.now) c.args.call c.args.told ended.ends (progress_of c.tell_ended.new.step) ended.is

pub returns-clause-settled : goal.returns-clause-settled
returns-clause-settled c = ap (λ (p : Progress). p.arisen) (returns-clause-ended c).is

pub returns-clause-noted : goal.returns-clause-noted
returns-clause-noted c =
    let x = c.args.step.now in
    let d = progress_of x in
    let then = progress_of c.next_arisen.new.step in
    let k = c.in-Some.key in
    let v = c.in-Some.value in
    let is = c.in-Some.ensures.some in
    let call = c.args.call in
    let told = c.args.told in
    let h = c.requires.ends in
    noted_key x call told h c.requires.ready.sound c.requires.none_taken k (noted_of c.tell_ended.new.step.store.names) (same_key d call told h then k v is)
    (ap (λ (s : Store). noted_of s.names) c.tell_ended.ensures.store ∙ c.in-Ok.ensures.noted
    ∙ ap (λ (w : Value). noted_of (noted_unnamed (named_all c.next_arisen.new.step.store.names (caps_of w)) k)) (same_value d call told h then k v is)
    ∙ ap (λ (s : Store). noted_of (noted_unnamed s.names k)) c.in-Some.ensures.store)
