use Rattle.std.proofs.Common.{sym, ap, ◌∙◌}
use Rattle.capn_reading.specs.Reading.{message_of}
use Rattle.rpc_codec.specs.Decoding.{any_caps}
use Rattle.rpc_codec.proofs.Read.{read_bad, read_ok, read_tree, good}
use Rattle.rpc_codec.proofs.decoding.tree_in.Goals as goal

pub returns-in-Err : goal.returns-in-Err
returns-in-Err c = read_bad (message_of c.args.bytes.now any_caps) c.in-Err.fault c.in-Err.ensures

pub tree_of_read-requires : goal.tree_of_read-requires
tree_of_read-requires c = read_ok (message_of c.args.bytes.now any_caps) _ c.in-Ok.ensures

pub returns-in_ok-tree-in-Ok : goal.returns-in_ok-tree-in-Ok
returns-in_ok-tree-in-Ok c = read_tree (message_of c.args.bytes.now any_caps) _ c.in-Ok.ensures ∙ ap good (sym c.in_ok-tree-in-Ok.ensures)
