use Rattle.trace_json.proofs.entries.entry_of_kind.Goals as goal

pub returns-in-made-clause-ok : goal.returns-in-made-clause-ok
returns-in-made-clause-ok c = c.made_of.ensures.ok c.args.version

pub returns-in-delivered-clause-ok : goal.returns-in-delivered-clause-ok
returns-in-delivered-clause-ok c = c.delivered_of.ensures.ok c.args.version

pub returns-in-answered-clause-ok : goal.returns-in-answered-clause-ok
returns-in-answered-clause-ok c = c.answered_of.ensures.ok c.args.version

pub returns-in-ended-clause-ok : goal.returns-in-ended-clause-ok
returns-in-ended-clause-ok c = c.ended_of.ensures.ok c.args.version
