use Rattle.std.proofs.Common.{sym, ap, ◌∙◌, option_copied}
use Rattle.rpc_machine.specs.declared.node.Node.TheVariants as nodes
use Rattle.core_store.specs.Holding.{state_of}
use Rattle.core_store.proofs.Walking.{settles_there, settles_next}
use Rattle.core_store.proofs.walk.follow_promise.Goals as goal

pub returns-in_default : goal.returns-in_default
returns-in_default c =
    settles_there (state_of c.args.store.now) (nodes.Promise c.args.key) (sym c.promise_to.ensures ∙ ap option_copied c.in_default.is)

pub returns-then-has_no_link : goal.returns-then-has_no_link
returns-then-has_no_link c =
    settles_next (state_of c.args.store.now) (nodes.Promise c.args.key) c.in-Some.found.now (sym c.promise_to.ensures ∙ ap option_copied c.in-Some.is) (c.has_no_link.ensures c.if-has_no_link.true (state_of c.args.store.now))
