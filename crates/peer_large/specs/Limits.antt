-- The limits that a Call or a Return may break by itself, and what is told then.
use Rattle.std.specs.Prelude.{ℕ, List, codes, Option, Some, None}
use Rattle.capn_trees.specs.declared.faults.PayloadFault.{PayloadFault}
use Rattle.capn_trees.specs.declared.faults.PayloadFault.TheVariants as payload
use Rattle.rpc_msg.specs.declared.exception.Exception.{Exception}
use Rattle.rpc_msg.specs.declared.exception.ExceptionKind.TheVariants.{Failed}
use Rattle.rpc_codec_parts.specs.declared.faults.EnvelopeFault.{EnvelopeFault}
use Rattle.rpc_codec_parts.specs.declared.faults.EnvelopeFault.TheVariants as fault
use Rattle.peer_large.specs.declared.limit.Limit.{Limit}
use Rattle.peer_large.specs.declared.limit.Limit.TheVariants.{Words, Depth, Visited, Descriptors, Steps}

abbrev pub payload_limit : PayloadFault → Option Limit
payload_limit payload.TooLarge = Some Words
payload_limit payload.Depth = Some Depth
payload_limit payload.Traversal = Some Visited
payload_limit f = None

-- the limit that a fault is of, if it is of one
abbrev pub limit_of : EnvelopeFault → Option Limit
limit_of (fault.Encoding f) = payload_limit f
limit_of fault.TooManyDescriptors = Some Descriptors
limit_of f = None

abbrev pub reason_of : Limit → List ℕ
reason_of Words = codes "the message has more than 65536 words"
reason_of Depth = codes "the message nests more than 64 levels deep"
reason_of Visited = codes "more than 65536 words of the message are visited"
reason_of Descriptors = codes "the message has more than 4096 capabilities"
reason_of Steps = codes "the target has a path of more than 16 steps"

abbrev pub exception_of : Limit → Exception
exception_of l = record { kind = Failed; reason = reason_of l }
