-- How references change.
use Rattle.std.specs.Prelude.{◌+◌, Some}
use Rattle.rpc_msg.specs.declared.ids.EmbargoId.{EmbargoId}
use Rattle.rpc_machine.specs.declared.node.Node.{Node}
use Rattle.rpc_machine.specs.declared.entries.Reference.{Reference}

-- It leads there.
abbrev pub headed_to : Node → Reference → Reference
headed_to n x = record x { head = n }

-- It leads there, and its calls wait under that embargo.
abbrev pub turned_under : Node → EmbargoId → Reference → Reference
turned_under n e x = record { head = n; embargo = Some e; made = x.made }

-- One more call was made through it.
abbrev pub counted_once : Reference → Reference
counted_once x = record x { made = x.made + 1 }
