-- No line's value has a float.
use Rattle.std.proofs.Common.{◌≡◌, ℕ, ◌==◌, if◌then◌else◌, List, [], ◌∷◌, map, Option, None, Some, Bool, true, false, Ordering, Less, Equal, Greater, refl}
use Rattle.std.specs.Prelude.{codes, option_copied}
use Rattle.std.specs.Ordering.{nat_cmp, match_ordering}
use Rattle.std.specs.Cmp.Lexicographic.{slice_cmp}
use Rattle.serde_json.specs.Data.{Data, boolean, string, object, Members, no_members, member, put}
use Rattle.serde_json.specs.View.{items_of}
use Rattle.serde_json.specs.Written.{has_float, items_have_float, members_have_float}
use Rattle.capn_trees.specs.Views.{view as tree_view}
use Rattle.capn_trees.specs.Trees as tree
use Rattle.capn_trees.specs.Trees.{Tree, Trees, Elements, Structs}
use Rattle.rpc_msg.specs.Payloads.{Contents as Payload, tree_of}
use Rattle.rpc_msg.specs.declared.message.Call.{Call}
use Rattle.rpc_msg.specs.Op.{Op}
use Rattle.rpc_msg.specs.Op.TheVariants.{Noop, Field}
use Rattle.rpc_msg.specs.declared.parts.Descriptor.{Descriptor}
use Rattle.rpc_msg.specs.declared.parts.Descriptor.TheVariants as descriptor
use Rattle.rpc_msg.specs.declared.parts.Target.{Target}
use Rattle.rpc_msg.specs.declared.parts.Target.TheVariants.{ImportedCap, PromisedAnswer}
use Rattle.rpc_msg.specs.declared.message.ReturnBody.{ReturnBody}
use Rattle.rpc_msg.specs.declared.message.ReturnBody.TheVariants as body
use Rattle.rpc_msg.specs.declared.message.ResolvedTo.{ResolvedTo}
use Rattle.rpc_msg.specs.declared.message.ResolvedTo.TheVariants as to
use Rattle.rpc_msg.specs.declared.message.DisembargoContext.{DisembargoContext}
use Rattle.rpc_msg.specs.declared.message.DisembargoContext.TheVariants.{SenderLoopback, ReceiverLoopback}
use Rattle.rpc_msg.specs.declared.message.PlainMessage.{PlainMessage}
use Rattle.rpc_msg.specs.declared.message.PlainMessage.TheVariants as plain
use Rattle.rpc_msg.specs.declared.message.Message.{Message}
use Rattle.rpc_msg.specs.declared.message.Message.TheVariants as message
use Rattle.trace_write.specs.Parts.{nat, list, only, op_data, descriptor_data, target_data}
use Rattle.trace_write.specs.Messages.{resolved_data, context_data}
use Rattle.rpc_codec.specs.Envelopes.{What, profile, tail_call, sent_elsewhere, taken_from_other, strange}
use Rattle.rpc_dump_lib.specs.Trees.{text_in, text_or, packed_data, tree_data, trees_data, elements_data, structs_data}
use Rattle.look_names.specs.declared.schema.Schema.{Schema}
use Rattle.look_names.specs.Names.{Called, node_of, name_in, method_of}
use Rattle.rpc_dump_lib.specs.declared.form.Form.{Form}
use Rattle.rpc_dump_lib.specs.Named.{with_method_name, with_interface, with_names, named_by, line_data}
use Rattle.rpc_dump_lib.specs.Lines.{payload_as, call_as, body_as, known_as, message_as, what_as}

no_float : {A : Type 0} (f : A → Data) → ((x : A) → has_float (f x) ≡ false) → (xs : List A) → items_have_float (items_of (map f xs)) ≡ false
no_float f h [] = refl
no_float f h (x ∷ xs) = rw (h x, no_float f h xs) refl

in_op : (o : Op) → has_float (op_data o) ≡ false
in_op Noop = refl
in_op (Field n) = refl

in_path : (path : List Op) → items_have_float (items_of (map op_data path)) ≡ false
in_path = no_float op_data in_op

in_descriptor : (d : Descriptor) → has_float (descriptor_data d) ≡ false
in_descriptor descriptor.None = refl
in_descriptor (descriptor.SenderHosted id) = refl
in_descriptor (descriptor.SenderPromise id) = refl
in_descriptor (descriptor.ReceiverHosted id) = refl
in_descriptor (descriptor.ReceiverAnswer q path) = rw (in_path path) refl

in_descriptors : (ds : List Descriptor) → items_have_float (items_of (map descriptor_data ds)) ≡ false
in_descriptors = no_float descriptor_data in_descriptor

in_target : (t : Target) → has_float (target_data t) ≡ false
in_target (ImportedCap id) = refl
in_target (PromisedAnswer q path) = rw (in_path path) refl

in_numbers : (ns : List ℕ) → items_have_float (items_of (map nat ns)) ≡ false
in_numbers = no_float nat (λ n. refl)

in_bits : (bs : List ℕ) → items_have_float (items_of (map (λ b. boolean (b == 1)) bs)) ≡ false
in_bits = no_float (λ b. boolean (b == 1)) (λ b. refl)

in_text_or : (bytes : List ℕ) (text : Option (List ℕ)) → has_float (text_or bytes text) ≡ false
in_text_or bytes (Some text) = refl
in_text_or bytes None = rw (in_numbers bytes) refl

one_of : (b : Bool) (d e : Data) → has_float d ≡ false → has_float e ≡ false → has_float (if b then d else e) ≡ false
one_of true d e h k = h
one_of false d e h k = k

in_packed : (bits : ℕ) (ns : List ℕ) → has_float (packed_data bits ns) ≡ false
in_packed bits ns =
    let twos : has_float (only (codes "twos") (list nat ns)) ≡ false = rw (in_numbers ns) refl in
    let fours : has_float (only (codes "fours") (list nat ns)) ≡ false = rw (in_numbers ns) refl in
    let eights : has_float (only (codes "eights") (list nat ns)) ≡ false = rw (in_numbers ns) refl in
    let flags : has_float (only (codes "bits") (list (λ b. boolean (b == 1)) ns)) ≡ false = rw (in_bits ns) refl in
    one_of (bits == 0) _ _ refl
    (one_of (bits == 1) _ _ flags
    (one_of (bits == 8) _ _ (in_text_or ns (text_in ns))
    (one_of (bits == 16) _ _ twos
    (one_of (bits == 32) _ _ fours eights))))

mutual
  in_tree : (t : Tree) → has_float (tree_data t) ≡ false
  in_tree tree.null = refl
  in_tree (tree.struct words ts) = rw (in_trees ts, in_numbers words) refl
  in_tree (tree.list elements) = in_elements elements
  in_tree (tree.capability index) = refl

  in_trees : (ts : Trees) → items_have_float (trees_data ts) ≡ false
  in_trees tree.no_trees = refl
  in_trees (tree.tree t ts) = rw (in_tree t, in_trees ts) refl

  in_elements : (es : Elements) → has_float (elements_data es) ≡ false
  in_elements (tree.packed bits ns) = in_packed bits ns
  in_elements (tree.pointers ts) = rw (in_trees ts) refl
  in_elements (tree.structs d p ss) = rw (in_structs ss) refl

  in_structs : (ss : Structs) → items_have_float (structs_data ss) ≡ false
  in_structs tree.no_structs = refl
  in_structs (tree.struct_of words ts ss) = rw (in_trees ts, in_numbers words, in_structs ss) refl

in_payload : (trees : Bool) (p : Payload) → has_float (payload_as trees p) ≡ false
in_payload false p = refl
in_payload true p = rw (in_tree (tree_of p)) refl

in_call : (trees : Bool) (c : Call) → has_float (call_as trees c) ≡ false
in_call trees c = rw (in_descriptors c.descriptors, in_payload trees c.payload, in_target c.target) refl

in_body : (trees : Bool) (b : ReturnBody) → has_float (body_as trees b) ≡ false
in_body trees (body.Results p ds) = rw (in_descriptors ds, in_payload trees p) refl
in_body trees (body.Exception e) = refl
in_body trees body.Canceled = refl

in_resolved : (t : ResolvedTo) → has_float (resolved_data t) ≡ false
in_resolved (to.Cap d) = rw (in_descriptor d) refl
in_resolved (to.Exception e) = refl

in_context : (c : DisembargoContext) → has_float (context_data c) ≡ false
in_context (SenderLoopback id) = refl
in_context (ReceiverLoopback id) = refl

in_known : (trees : Bool) (m : PlainMessage) → has_float (known_as trees m) ≡ false
in_known trees (plain.Abort e) = refl
in_known trees (plain.Bootstrap q) = refl
in_known trees (plain.Call c) = rw (in_call trees c) refl
in_known trees (plain.Return r) = rw (in_body trees r.body) refl
in_known trees (plain.Finish f) = refl
in_known trees (plain.Resolve r) = rw (in_resolved r.to) refl
in_known trees (plain.Release r) = refl
in_known trees (plain.Disembargo d) = rw (in_context d.context, in_target d.target) refl
in_known trees (plain.Other n) = refl

in_message : (trees : Bool) (m : Message) → has_float (message_as trees m) ≡ false
in_message trees (message.Plain m) = in_known trees m
in_message trees (message.Unimplemented m) = rw (in_known trees m) refl

in_what : (trees : Bool) (w : What) → has_float (what_as trees w) ≡ false
in_what trees (profile m) = in_message trees m
in_what trees (tail_call c) = rw (in_call trees c) refl
in_what trees (sent_elsewhere s) = refl
in_what trees (taken_from_other t) = refl
in_what trees (strange number t) = refl

-- ---- with the names of a schema

abbrev AllWhole : Members → Type 0
AllWhole no_members = Unit {0}
AllWhole (member k d ms) = (has_float d ≡ false) × AllWhole ms

placed : (o : Ordering) (k : List ℕ) (d : Data) (l : List ℕ) (e : Data) (ms : Members) → has_float d ≡ false → has_float e ≡ false → AllWhole ms → AllWhole (put k d ms)
    → AllWhole (match_ordering o (member k d (member l e ms)) (member l d ms) (member l e (put k d ms)))
placed Less k d l e ms one other rest more = (one, (other, rest))
placed Equal k d l e ms one other rest more = (one, rest)
placed Greater k d l e ms one other rest more = (other, more)

in_put : (k : List ℕ) (d : Data) (ms : Members) → has_float d ≡ false → AllWhole ms → AllWhole (put k d ms)
in_put k d no_members one all = (one, tt)
in_put k d (member l e ms) one all = placed (slice_cmp nat_cmp k l) k d l e ms one all.0 all.1 (in_put k d ms one all.1)

in_members : (ms : Members) → AllWhole ms → members_have_float ms ≡ false
in_members no_members all = refl
in_members (member k d ms) all = rw (all.0, in_members ms all.1) refl

in_method : (o : Option Called) (ms : Members) → AllWhole ms → AllWhole (with_method_name o ms)
in_method None ms all = all
in_method (Some m) ms all = in_put (codes "method") (string m.name) ms refl all

in_interface : (o : Option (List ℕ)) (request : Tree) (c : Call) (ms : Members) → AllWhole ms → AllWhole (with_interface o request c ms)
in_interface None request c ms all = all
in_interface (Some name) request c ms all = in_method (method_of request c.interface c.method) (put (codes "interface") (string name) ms) (in_put (codes "interface") (string name) ms refl all)

in_names : (request : Tree) (c : Call) (ms : Members) → AllWhole ms → has_float (object (with_names request c ms)) ≡ false
in_names request c ms all = in_members (with_names request c ms) (in_interface (name_in (node_of request c.interface)) request c ms all)

in_plain : (s : Schema) (trees : Bool) (m : PlainMessage) → has_float (named_by (Some s) (profile (message.Plain m)) (known_as trees m)) ≡ false
in_plain s trees (plain.Abort e) = refl
in_plain s trees (plain.Bootstrap q) = refl
in_plain s trees (plain.Call c) = in_names (tree_view s.request) c (member (codes "call") (call_as trees c) no_members) (in_call trees c, tt)
in_plain s trees (plain.Return r) = in_known trees (plain.Return r)
in_plain s trees (plain.Finish f) = refl
in_plain s trees (plain.Resolve r) = in_known trees (plain.Resolve r)
in_plain s trees (plain.Release r) = refl
in_plain s trees (plain.Disembargo d) = in_known trees (plain.Disembargo d)
in_plain s trees (plain.Other n) = refl

in_named : (o : Option Schema) (trees : Bool) (w : What) → has_float (named_by o w (what_as trees w)) ≡ false
in_named None trees w = in_what trees w
in_named (Some s) trees (profile (message.Plain m)) = in_plain s trees m
in_named (Some s) trees (profile (message.Unimplemented m)) = in_what trees (profile (message.Unimplemented m))
in_named (Some s) trees (tail_call c) = in_names (tree_view s.request) c (member (codes "tailCall") (call_as trees c) no_members) (in_call trees c, tt)
in_named (Some s) trees (sent_elsewhere r) = refl
in_named (Some s) trees (taken_from_other t) = refl
in_named (Some s) trees (strange n t) = refl

pub in_line : (form : Form) (w : What) → has_float (line_data form w) ≡ false
in_line form w = in_named (option_copied form.schema) form.trees w
