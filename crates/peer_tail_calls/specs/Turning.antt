-- The outcome of a tail call, as it stands in the Return that takes it (rpc.capnp, Return.takeFromOtherQuestion).
use Rattle.std.specs.Prelude.{ℕ, ◌+◌, List, [], ◌∷◌, Option, Some, None, codes}
use Rattle.capn_trees.specs.Trees.{Tree}
use Rattle.rpc_msg.specs.Op.{Op}
use Rattle.rpc_msg.specs.Payloads.{Contents, tree_of}
use Rattle.rpc_msg.specs.declared.ids.QuestionId.{QuestionId}
use Rattle.rpc_msg.specs.declared.parts.Descriptor.{Descriptor}
use Rattle.rpc_msg.specs.declared.parts.Descriptor.TheVariants as descriptor
use Rattle.rpc_msg.specs.declared.exception.ExceptionKind.TheVariants.{Failed}
use Rattle.rpc_msg.specs.declared.message.ReturnBody.{ReturnBody}
use Rattle.rpc_msg.specs.declared.message.ReturnBody.TheVariants as body
use Rattle.peer_tail_calls.specs.Paths.{path_to}

-- A capability of the results of an answer of the vat, as the vat is told of it: the field of the answer to which a path leads.
-- Where none does, what the vat hosts is its own, and what the peer hosts can't be named: the vat gave it a descriptor that the
-- peer has not seen, so another would count once more.
abbrev pub turned_one : QuestionId → Option (List Op) → Descriptor → Option Descriptor
turned_one a (Some path) d = Some (descriptor.ReceiverAnswer a path)
turned_one a None descriptor.None = Some descriptor.None
turned_one a None (descriptor.SenderHosted e) = Some (descriptor.ReceiverHosted e)
turned_one a None (descriptor.SenderPromise e) = Some (descriptor.ReceiverHosted e)
turned_one a None (descriptor.ReceiverHosted e) = None
turned_one a None (descriptor.ReceiverAnswer q path) = None

abbrev pub put_first : Option Descriptor → Option (List Descriptor) → Option (List Descriptor)
put_first None ds = None
put_first (Some d) None = None
put_first (Some d) (Some ds) = Some (d ∷ ds)

-- those from capability k on
abbrev pub turned_all : QuestionId → Tree → ℕ → List Descriptor → Option (List Descriptor)
turned_all a t k [] = Some []
turned_all a t k (d ∷ ds) = put_first (turned_one a (path_to t k) d) (turned_all a t (k + 1) ds)

-- in place of results with a capability that can't be named
abbrev pub not_named : ReturnBody
not_named = body.Exception (record { kind = Failed; reason = codes "a capability in a list of a tail call" })

abbrev pub with_turned : Contents → Option (List Descriptor) → ReturnBody
with_turned p (Some ds) = body.Results p ds
with_turned p None = not_named

abbrev pub turned_results : QuestionId → Contents → List Descriptor → ReturnBody
turned_results a p ds = with_turned p (turned_all a (tree_of p) 0 ds)

-- the outcome of this answer of the vat, for the question that takes it
abbrev pub turned : QuestionId → ReturnBody → ReturnBody
turned a (body.Results p ds) = turned_results a p ds
turned a (body.Exception e) = body.Exception e
turned a body.Canceled = body.Canceled
