use Rattle.std.proofs.Common.{ap}
use Rattle.rpc_machine.specs.Nodes.{link}
use Rattle.core_store.specs.Holding.{state_of}
use Rattle.core_store.proofs.Walking.{settles_there}
use Rattle.core_store.proofs.walk.shorten.Goals as goal

pub returns-in-Object-clause-end : goal.returns-in-Object-clause-end
returns-in-Object-clause-end c =
    settles_there (state_of c.args.store.now) c.args.node (ap (link (state_of c.args.store.now)) c.in-Object.is)

pub returns-in-Import-clause-end : goal.returns-in-Import-clause-end
returns-in-Import-clause-end c =
    settles_there (state_of c.args.store.now) c.args.node (ap (link (state_of c.args.store.now)) c.in-Import.is)

pub returns-in-Pipe-clause-end : goal.returns-in-Pipe-clause-end
returns-in-Pipe-clause-end c =
    settles_there (state_of c.args.store.now) c.args.node (ap (link (state_of c.args.store.now)) c.in-Pipe.is)

pub returns-in-Broken-clause-end : goal.returns-in-Broken-clause-end
returns-in-Broken-clause-end c =
    settles_there (state_of c.args.store.now) c.args.node (ap (link (state_of c.args.store.now)) c.in-Broken.is)
