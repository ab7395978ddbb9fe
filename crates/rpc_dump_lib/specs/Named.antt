-- The line of what a frame says, with the names of a schema: docs/messages.md.
use Rattle.std.specs.Prelude.{ℕ, Option, None, Some, List, codes, option_copied}
use Rattle.serde_json.specs.Data.{Data, null, boolean, number, string, array, object, Members, no_members, put}
use Rattle.serde_json.specs.Written.{compact_text}
use Rattle.capn_trees.specs.Views.{view as tree_view}
use Rattle.capn_trees.specs.Trees.{Tree}
use Rattle.rpc_msg.specs.declared.message.Call.{Call}
use Rattle.rpc_msg.specs.declared.message.PlainMessage.{PlainMessage}
use Rattle.rpc_msg.specs.declared.message.PlainMessage.TheVariants as plain
use Rattle.rpc_msg.specs.declared.message.Message.{Message}
use Rattle.rpc_msg.specs.declared.message.Message.TheVariants as message
use Rattle.rpc_codec.specs.Envelopes.{What, profile, tail_call, sent_elsewhere, taken_from_other, strange}
use Rattle.look_names.specs.declared.schema.Schema.{Schema}
use Rattle.look_names.specs.Names.{IsIndexed, Called, node_of, name_in, method_of}
use Rattle.rpc_dump_lib.specs.declared.form.Form.{Form}
use Rattle.rpc_dump_lib.specs.Lines.{what_as}

-- The names of a schema are those of its request.
abbrev pub IsNamedBy : Option Schema → Type 0
IsNamedBy None = Unit {0}
IsNamedBy (Some s) = IsIndexed s

abbrev pub IsNamed : Form → Type 0
IsNamed form = IsNamedBy (option_copied form.schema)

-- ---- the Call that a frame says

abbrev pub call_of_plain : PlainMessage → Option Call
call_of_plain (plain.Abort e) = None
call_of_plain (plain.Bootstrap q) = None
call_of_plain (plain.Call c) = Some c
call_of_plain (plain.Return r) = None
call_of_plain (plain.Finish f) = None
call_of_plain (plain.Resolve r) = None
call_of_plain (plain.Release r) = None
call_of_plain (plain.Disembargo d) = None
call_of_plain (plain.Other n) = None

abbrev pub call_of : Message → Option Call
call_of (message.Plain m) = call_of_plain m
call_of (message.Unimplemented m) = None

abbrev pub call_in : What → Option Call
call_in (profile m) = call_of m
call_in (tail_call c) = Some c
call_in (sent_elsewhere s) = None
call_in (taken_from_other t) = None
call_in (strange n t) = None

-- ---- its names, beside it

abbrev pub members_in : Data → Members
members_in null = no_members
members_in (boolean b) = no_members
members_in (number x) = no_members
members_in (string s) = no_members
members_in (array ds) = no_members
members_in (object ms) = ms

abbrev pub with_method_name : Option Called → Members → Members
with_method_name None ms = ms
with_method_name (Some m) ms = put (codes "method") (string m.name) ms

-- the name of its method, if the request has it
abbrev pub with_method : Tree → Call → Members → Members
with_method request c ms = with_method_name (method_of request c.interface c.method) ms

abbrev pub with_interface : Option (List ℕ) → Tree → Call → Members → Members
with_interface None request c ms = ms
with_interface (Some name) request c ms = with_method request c (put (codes "interface") (string name) ms)

-- the names of its interface and its method, as far as the request has them
abbrev pub with_names : Tree → Call → Members → Members
with_names request c ms = with_interface (name_in (node_of request c.interface)) request c ms

abbrev pub named_as : Tree → Call → Data → Data
named_as request c d = object (with_names request c (members_in d))

abbrev pub named_call : Tree → Option Call → Data → Data
named_call request None d = d
named_call request (Some c) d = named_as request c d

abbrev pub named_by : Option Schema → What → Data → Data
named_by None w d = d
named_by (Some s) w d = named_call (tree_view s.request) (call_in w) d

-- ---- the line

-- the line's value of what came
abbrev pub line_data : Form → What → Data
line_data form w = named_by (option_copied form.schema) w (what_as form.trees w)

-- the line without its newline
abbrev pub line_text : Form → What → List ℕ
line_text form w = compact_text (line_data form w)
