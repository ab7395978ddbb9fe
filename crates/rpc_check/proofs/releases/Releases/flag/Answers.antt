use Rattle.std.proofs.Common.{◌<◌, length, ap, sym, ◌∙◌, subst, arith}
use Rattle.std.proofs.lemmas.Option.{slice_get_within}
use Rattle.rpc_check.specs.Kept.{sent_sum, got_sum, AllIn}
use Rattle.rpc_check.proofs.Releasing.{sent_push, got_push, in_push, sent_set, got_set, in_set}
use Rattle.rpc_check.proofs.releases.Releases.flag.Goals as goal

pub returns-in_default-clause-sent : goal.returns-in_default-clause-sent
returns-in_default-clause-sent c = λ ls e.
    ap (sent_sum ls e) c.in_ok-push.ensures.items ∙ sent_push ls e c.args.self.now.flagged.items (record { list = c.args.list; sent = c.args.sent; got = c.args.got })

pub returns-in_default-clause-got : goal.returns-in_default-clause-got
returns-in_default-clause-got c = λ ls e.
    ap (got_sum ls e) c.in_ok-push.ensures.items ∙ got_push ls e c.args.self.now.flagged.items (record { list = c.args.list; sent = c.args.sent; got = c.args.got })

pub returns-in_default-clause-in_all : goal.returns-in_default-clause-in_all
returns-in_default-clause-in_all c = λ ls is all.
    subst (AllIn ls) (sym c.in_ok-push.ensures.items) (in_push ls c.args.self.now.flagged.items (record { list = c.args.list; sent = c.args.sent; got = c.args.got }) is all)

pub unreachable-requires : goal.unreachable-requires
unreachable-requires c =
    let within : c.in-Some.place < length c.args.self.now.flagged.items = slice_get_within c.args.self.now.flagged.items c.in-Some.place c.in-Some.before c.in-Some.ensures.0 in
    grind (arith, within, c.in_default-get_mut.ensures.item.0)

pub returns-clause-sent : goal.returns-clause-sent
returns-clause-sent c = λ ls e.
    sent_set ls e c.args.self.now.flagged.items c.in-Some.place c.args.sent c.in-Some.before (record { list = c.args.list; sent = c.in-Some-checked_add.sent; got = c.in-Some-checked_add-2.got })
    c.in-Some.ensures.0 (sym c.in-Some.ensures.1) c.in-Some-checked_add.ensures.1

pub returns-clause-got : goal.returns-clause-got
returns-clause-got c = λ ls e.
    got_set ls e c.args.self.now.flagged.items c.in-Some.place c.args.got c.in-Some.before (record { list = c.args.list; sent = c.in-Some-checked_add.sent; got = c.in-Some-checked_add-2.got })
    c.in-Some.ensures.0 (sym c.in-Some.ensures.1) c.in-Some-checked_add-2.ensures.1

pub returns-clause-in_all : goal.returns-clause-in_all
returns-clause-in_all c = λ ls is all.
    in_set ls c.args.self.now.flagged.items c.in-Some.place (record { list = c.args.list; sent = c.in-Some-checked_add.sent; got = c.in-Some-checked_add-2.got }) is all
