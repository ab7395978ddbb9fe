-- Pointers to capabilities that are not there (rpc.capnp, CapDescriptor.none), as null.
use Rattle.std.specs.Prelude.{◌≡◌, ℕ, Bool, true, false, if◌then◌else◌, List, slice_get}
use Rattle.std.specs.Option.{option_map_or}
use Rattle.std.specs.List.{list_any}
use Rattle.capn_trees.specs.Trees.{Tree, null, struct, list, capability, Trees, no_trees, tree, Elements, packed, pointers, structs, Structs, no_structs, struct_of}
use Rattle.capn_writing.specs.Placing.{written}
use Rattle.rpc_msg.specs.Payloads.{Contents, tree_of}
use Rattle.rpc_msg.specs.declared.parts.Descriptor.{Descriptor}
use Rattle.rpc_msg.specs.declared.parts.Descriptor.TheVariants as descriptor
use Rattle.rpc_msg.specs.declared.message.Call.{Call}
use Rattle.rpc_msg.specs.declared.message.Return.{Return}
use Rattle.rpc_msg.specs.declared.message.ReturnBody.{ReturnBody}
use Rattle.rpc_msg.specs.declared.message.ReturnBody.TheVariants as body
use Rattle.rpc_msg.specs.declared.message.PlainMessage.{PlainMessage}
use Rattle.rpc_msg.specs.declared.message.PlainMessage.TheVariants as plain
use Rattle.rpc_msg.specs.declared.message.Message.{Message}
use Rattle.rpc_msg.specs.declared.message.Message.TheVariants as message

abbrev pub is_absent : Descriptor → Bool
is_absent descriptor.None = true
is_absent (descriptor.SenderHosted e) = false
is_absent (descriptor.SenderPromise e) = false
is_absent (descriptor.ReceiverHosted e) = false
is_absent (descriptor.ReceiverAnswer q path) = false

-- the capability of that index is not there
abbrev pub lacks : List Descriptor → ℕ → Bool
lacks ds i = option_map_or is_absent (slice_get ds i) false

-- A tree with null in place of each pointer to a capability that is not there.
abbrev mutual
  pub nulled : List Descriptor → Tree → Tree
  nulled ds null = null
  nulled ds (struct words ts) = struct words (nulled_each ds ts)
  nulled ds (list elements) = list (nulled_elements ds elements)
  nulled ds (capability i) = if lacks ds i then null else capability i

  pub nulled_each : List Descriptor → Trees → Trees
  nulled_each ds no_trees = no_trees
  nulled_each ds (tree t ts) = tree (nulled ds t) (nulled_each ds ts)

  pub nulled_elements : List Descriptor → Elements → Elements
  nulled_elements ds (packed bits ns) = packed bits ns
  nulled_elements ds (pointers ts) = pointers (nulled_each ds ts)
  nulled_elements ds (structs data_words pointer_words ss) = structs data_words pointer_words (nulled_structs ds ss)

  pub nulled_structs : List Descriptor → Structs → Structs
  nulled_structs ds no_structs = no_structs
  nulled_structs ds (struct_of words ts ss) = struct_of words (nulled_each ds ts) (nulled_structs ds ss)

-- A payload with these descriptors, as it goes to the peer: laid out anew where one of them is none.
abbrev pub nulled_payload : List Descriptor → Contents → Contents
nulled_payload ds p = if list_any is_absent ds then record { bytes = written (nulled ds (tree_of p)); caps = p.caps } else p

abbrev pub nulled_call : Call → Call
nulled_call c = record c { payload = nulled_payload c.descriptors c.payload }

abbrev pub nulled_body : ReturnBody → ReturnBody
nulled_body (body.Results p ds) = body.Results (nulled_payload ds p) ds
nulled_body (body.Exception e) = body.Exception e
nulled_body body.Canceled = body.Canceled

abbrev pub nulled_return : Return → Return
nulled_return r = record r { body = nulled_body r.body }

-- ---- what that says

-- The payload says the same tree, with null in the place of capabilities that are not there.
abbrev pub IsPayloadLaidOut : List Descriptor → Contents → Type 0
IsPayloadLaidOut ds p = tree_of (nulled_payload ds p) ≡ nulled ds (tree_of p)

abbrev pub IsBodyLaidOut : ReturnBody → Type 0
IsBodyLaidOut (body.Results p ds) = IsPayloadLaidOut ds p
IsBodyLaidOut (body.Exception e) = Unit {0}
IsBodyLaidOut body.Canceled = Unit {0}

abbrev pub IsPlainLaidOut : PlainMessage → Type 0
IsPlainLaidOut (plain.Abort e) = Unit {0}
IsPlainLaidOut (plain.Bootstrap q) = Unit {0}
IsPlainLaidOut (plain.Call c) = IsPayloadLaidOut c.descriptors c.payload
IsPlainLaidOut (plain.Return r) = IsBodyLaidOut r.body
IsPlainLaidOut (plain.Finish f) = Unit {0}
IsPlainLaidOut (plain.Resolve r) = Unit {0}
IsPlainLaidOut (plain.Release r) = Unit {0}
IsPlainLaidOut (plain.Disembargo d) = Unit {0}
IsPlainLaidOut (plain.Other n) = Unit {0}

-- What is laid out anew of a message says what it said, with null in the place of capabilities that are not there.
abbrev pub IsLaidOut : Message → Type 0
IsLaidOut (message.Plain m) = IsPlainLaidOut m
IsLaidOut (message.Unimplemented m) = Unit {0}
