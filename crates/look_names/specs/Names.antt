-- The nodes of a `CodeGeneratorRequest` by their ids, and the names of interfaces and methods: schema.capnp.
-- `element words bits k` is the field that stands at k times its own size.
use Rattle.std.specs.Prelude.{◌≡◌, ℕ, zero, suc, ◌==◌, if◌then◌else◌, List, drop, Option, Some, None, Err, ⊤}
use Rattle.std.specs.BTreeMap.{get}
use Rattle.std.specs.Ordering.{nat_cmp}
use Rattle.std.specs.Str.{is_utf8}
use Rattle.capn_trees.specs.Views.{view}
use Rattle.capn_trees.specs.Trees.{Tree, Structs, no_structs, struct_of}
use Rattle.capn_reading.specs.Following.{most_counted}
use Rattle.capn_reading.specs.Reading.{Reading, message_up_to, tree_read, element}
use Rattle.rpc_codec_parts.specs.Blocks.{Block}
use Rattle.look_names.specs.declared.error.SchemaError.{SchemaError}
use Rattle.look_names.specs.declared.error.SchemaError.TheVariants as fault
use Rattle.look_names.specs.declared.schema.Schema.{Schema}
use Rattle.look_names.specs.Parts.{part_of, rows_at, text_at}

-- what the bytes of a request say
abbrev pub request_in : List ℕ → Reading Tree
request_in bytes = message_up_to most_counted bytes 0

-- row k of a list of structs
abbrev pub row_at : Structs → ℕ → Option Block
row_at no_structs k = None
row_at (struct_of words ts ss) zero = Some (record { words = words; pointers = ts })
row_at (struct_of words ts ss) (suc k) = row_at ss k

-- CodeGeneratorRequest: nodes @0
abbrev pub nodes_of : Tree → Structs
nodes_of request = rows_at (part_of request) 0

-- the id of the first of these rows
abbrev pub id_in : Structs → ℕ
id_in no_structs = 0
id_in (struct_of words ts ss) = element words 64 0

-- what is kept of an id, once a place was kept of one
abbrev pub noted : ℕ → ℕ → Option ℕ → ℕ → Option ℕ
noted id place before other = if id == other then Some place else before

-- where the first row with that id stands, counted from k on; Node: id @0
abbrev pub place_from : Structs → ℕ → ℕ → Option ℕ
place_from no_structs id k = None
place_from (struct_of words ts ss) id k = if element words 64 0 == id then Some k else place_from ss id (suc k)

abbrev pub row_in : Structs → Option ℕ → Option Block
row_in ss None = None
row_in ss (Some k) = row_at ss k

-- What is kept of each id is the place where it stands first.
abbrev pub IsIndexed : Schema → Type 0
IsIndexed s = (id : ℕ) → get nat_cmp s.places id ≡ place_from (nodes_of (view s.request)) id 0

-- the first node of a request with that id
abbrev pub node_of : Tree → ℕ → Option Block
node_of request id = row_in (nodes_of request) (place_from (nodes_of request) id 0)

-- Why bytes are no schema.
abbrev pub WhyNot : List ℕ → SchemaError → Type 0
WhyNot bytes fault.Memory = ⊤
WhyNot bytes (fault.Encoding f) = request_in bytes ≡ Err f
WhyNot bytes fault.NoNodes = nodes_of (tree_read (request_in bytes)) ≡ no_structs

-- what is behind a prefix of so many bytes, or the whole text if that is no text
abbrev pub behind : List ℕ → ℕ → List ℕ
behind text prefix = if is_utf8 (drop prefix text) then drop prefix text else text

-- Node: displayName @1 behind its displayNamePrefixLength @2
abbrev pub name_of : Block → List ℕ
name_of node = behind (text_at node 0) (element node.words 32 2)

-- Node: the rows of one that is of a kind, by the number in its union: struct.fields @7 of 1, enum.enumerants @14 of 2,
-- interface.methods @15 of 3
abbrev pub rows_by : ℕ → Block → Structs
rows_by kind node = if element node.words 16 6 == kind then rows_at node 3 else no_structs

abbrev pub name_in : Option Block → Option (List ℕ)
name_in None = None
name_in (Some node) = Some (name_of node)

abbrev pub methods_in : Option Block → Structs
methods_in None = no_structs
methods_in (Some node) = rows_by 3 node

-- A method: name @0, paramStructType @2, resultStructType @3.
pub record Called : Type 0 where
  pub name : List ℕ
  pub params : ℕ
  pub results : ℕ

abbrev pub called : Block → Called
called row = record { name = text_at row 0; params = element row.words 64 1; results = element row.words 64 2 }

abbrev pub method_in : Option Block → Option Called
method_in None = None
method_in (Some row) = Some (called row)

-- method k of the interface with that id
abbrev pub method_of : Tree → ℕ → ℕ → Option Called
method_of request interface k = method_in (row_at (methods_in (node_of request interface)) k)
