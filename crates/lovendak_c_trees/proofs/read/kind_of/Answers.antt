use Rattle.lovendak_c_trees.proofs.Looked.{capability_stands, list_stands, null_stands, struct_stands}
use Rattle.lovendak_c_trees.proofs.read.kind_of.Goals as goal

pub returns-in-Null : goal.returns-in-Null
returns-in-Null c = λ t h. null_stands t (c.in-Null.ensures t h)

pub returns-in-Struct : goal.returns-in-Struct
returns-in-Struct c = λ t h. struct_stands t (c.in-Struct.ensures t h)

pub returns-in-List : goal.returns-in-List
returns-in-List c = λ t h. list_stands t c.unwrap_or-count.result c.len.result (c.in-List.ensures t h) c.unwrap_or-count.ensures (c.len.ensures t h)

pub returns-in-Capability : goal.returns-in-Capability
returns-in-Capability c = λ t h. capability_stands t c.in-Capability.index (c.in-Capability.ensures t h)
