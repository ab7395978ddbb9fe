use Rattle.std.proofs.Common.{ℕ, ◌+◌, ◌≤◌, Some, length, ap, arith}
use Rattle.rpc_machine.specs.Places.{named_by_returned}
use Rattle.core_refcounts.specs.Names.{Names, times_named}
use Rattle.core_store_tables.specs.Peer.{relay_noted}
use Rattle.core_store_tables.proofs.Beside.{fits_noted}
use Rattle.core_store_tables.proofs.Asking.{relay_note, sound_returned}
use Rattle.core_store_tables.proofs.questions.set_returned.Goals as goal

pub name_returned-requires-clause-fits : goal.name_returned-requires-clause-fits
name_returned-requires-clause-fits c n =
    let k : ℕ = length (named_by_returned (Some c.args.said)) in
    let less : k ≤ c.args.store.now.slack = let a = c.requires.slack in omega (arith, a) in
    let d : Names = relay_noted c.args.store.now.names c.args.q.0 c.in-Some.question.now.role in
    let a = ap (λ (m : Names). times_named m n) c.note_relay.ensures in
    let b = fits_noted c.args.store.now d k c.requires.sound (relay_note c.args.store.now.names c.args.q.0 c.in-Some.question.now.role) less n in
    omega (arith, a, b)

pub returns-clause-sound : goal.returns-clause-sound
returns-clause-sound c =
    sound_returned c.args.store.now c.args.q.0 c.in-Some.question.now c.in-Some-get_mut.question.now c.args.said
    c.note_relay.new.names c.name_returned.new.names c.unname_returned.new.names (c.count_returned-spent.result + 1) c.requires.sound c.in-Some.ensures c.in-Some-get_mut.ensures.value
    (ap (λ k. k + 1) c.count_returned-spent.ensures) (let a = c.requires.slack in let b = c.count_returned-spent.ensures in omega (arith, a, b))
    c.note_relay.ensures c.name_returned.ensures c.unname_returned.ensures
