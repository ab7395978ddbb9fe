use Rattle.std.proofs.Common.{ap}
use Rattle.rpc_machine.specs.Nodes.{link}
use Rattle.core_store.specs.Holding.{state_of}
use Rattle.core_store.proofs.Walking.{settles_there}
use Rattle.core_store.proofs.walk.settle.Goals as goal

pub returns-in-Object : goal.returns-in-Object
returns-in-Object c =
    settles_there (state_of c.args.store.now) c.args.node (ap (link (state_of c.args.store.now)) c.in-Object.is)

pub returns-in-Import : goal.returns-in-Import
returns-in-Import c =
    settles_there (state_of c.args.store.now) c.args.node (ap (link (state_of c.args.store.now)) c.in-Import.is)

pub returns-in-Pipe : goal.returns-in-Pipe
returns-in-Pipe c =
    settles_there (state_of c.args.store.now) c.args.node (ap (link (state_of c.args.store.now)) c.in-Pipe.is)

pub returns-in-Broken : goal.returns-in-Broken
returns-in-Broken c =
    settles_there (state_of c.args.store.now) c.args.node (ap (link (state_of c.args.store.now)) c.in-Broken.is)
