use Rattle.link_ends.proofs.Merging.{sound, good, headed}
use Rattle.link_ends.proofs.gathered.Gathered.promises.Goals as goal

pub returns-clause-told : goal.returns-clause-told
returns-clause-told c = c.orders_keep_promises.ensures c.args.self.now.both c.args.self.now.begun_a c.args.self.now.begun_b c.log_b.ensures.explained

pub returns-clause-counts : goal.returns-clause-counts
returns-clause-counts c = (c.orders_keep_promises.ensures c.args.self.now.both c.args.self.now.begun_a c.args.self.now.begun_b c.log_b.ensures.explained).promised.counts

pub returns-clause-unrefused : goal.returns-clause-unrefused
returns-clause-unrefused c = (c.orders_keep_promises.ensures c.args.self.now.both c.args.self.now.begun_a c.args.self.now.begun_b c.log_b.ensures.explained).promised.unrefused

pub returns-clause-sound : goal.returns-clause-sound
returns-clause-sound c =
    sound c.worlds_are_sound.ensures c.bootstraps_stay.ensures.worlds c.args.self.now.both
    (c.orders_keep_promises.ensures c.args.self.now.both c.args.self.now.begun_a c.args.self.now.begun_b c.log_b.ensures.explained)

pub returns-clause-good : goal.returns-clause-good
returns-clause-good c =
    good c.journals_tell_runs.ensures.runs c.every_verdict_is_good.ensures.alone c.args.self.now.both
    (c.orders_keep_promises.ensures c.args.self.now.both c.args.self.now.begun_a c.args.self.now.begun_b c.log_b.ensures.explained)

pub returns-clause-headed : goal.returns-clause-headed
returns-clause-headed c =
    headed c.journals_tell_runs.ensures.runs c.every_verdict_is_good.ensures.headed c.args.self.now.both
    (c.orders_keep_promises.ensures c.args.self.now.both c.args.self.now.begun_a c.args.self.now.begun_b c.log_b.ensures.explained)
