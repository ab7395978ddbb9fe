-- In which kinds a vat hears the names of exports (docs/messages.md, "Peers of other make").
--
-- A peer of another make names a promise by `senderPromise`, and each further time by `senderHosted` (rpc.capnp, CapDescriptor,
-- lets `senderHosted` be "an existing entry"). An import has one kind at the vat: the one in which it was named first.
use Rattle.std.specs.Prelude.{◌≡◌, ◌==◌, Bool, true, false, cond, if◌then◌else◌, unwrap_or, map, List, [], ◌∷◌, Option, Some, None}
use Rattle.rpc_msg.specs.declared.ids.ExportId.{ExportId}
use Rattle.rpc_msg.specs.declared.parts.Descriptor.{Descriptor}
use Rattle.rpc_msg.specs.declared.parts.Descriptor.TheVariants as descriptor
use Rattle.rpc_msg.specs.declared.message.Resolve.{Resolve}
use Rattle.rpc_msg.specs.declared.message.ResolvedTo.{ResolvedTo}
use Rattle.rpc_msg.specs.declared.message.ResolvedTo.TheVariants as resolved
use Rattle.rpc_msg.specs.declared.message.PlainMessage.TheVariants as plain
use Rattle.rpc_msg.specs.declared.message.Message.TheVariants as message
use Rattle.rpc_codec.specs.Envelopes.{What, profile, seen_envelope}
use Rattle.rpc_codec.specs.Carried.{descriptors_in}
use Rattle.rpc_machine.specs.declared.entries.SenderKind.{SenderKind}
use Rattle.rpc_machine.specs.declared.entries.SenderKind.TheVariants as kind
use Rattle.peer_descriptors.specs.Replacing.{what_with}
use Rattle.peer_kinds.specs.declared.standing.Standing.{Standing}
use Rattle.peer_kinds.specs.declared.standing.Standing.TheVariants as standing
use Rattle.peer_kinds.specs.declared.outcome.Kinds as outcome
use Rattle.peer_kinds.specs.declared.outcome.Kinds.TheVariants as outcomes

-- How the exports of the peer stand that the vat has as imports.
abbrev pub Standings : Type 0
Standings = ExportId → Option Standing

-- What a function answers of each export is this.
abbrev pub Tells : (ExportId → Option Standing → Type 0) → Standings → Type 0
Tells answers stands = (e : ExportId) (r : Option Standing) → answers e r → r ≡ stands e

-- ---- the kind of a name

abbrev pub in_kind : SenderKind → ExportId → Descriptor
in_kind kind.Hosted e = descriptor.SenderHosted e
in_kind kind.Promise e = descriptor.SenderPromise e

-- The kind in which an export is named first among these.
abbrev pub first_kind : ExportId → List Descriptor → Option SenderKind
first_kind e [] = None
first_kind e (descriptor.None ∷ ds) = first_kind e ds
first_kind e (descriptor.SenderHosted x ∷ ds) = if x.0 == e.0 then Some kind.Hosted else first_kind e ds
first_kind e (descriptor.SenderPromise x ∷ ds) = if x.0 == e.0 then Some kind.Promise else first_kind e ds
first_kind e (descriptor.ReceiverHosted x ∷ ds) = first_kind e ds
first_kind e (descriptor.ReceiverAnswer q path ∷ ds) = first_kind e ds

-- The kind in which a name is heard, that of an import while it is not resolved. Where there is no import it is the first in the
-- message; and behind a Resolve it is its own.
abbrev pub kind_heard : Option Standing → Option SenderKind → SenderKind → SenderKind
kind_heard (Some standing.Hosted) first own = kind.Hosted
kind_heard (Some standing.Promise) first own = kind.Promise
kind_heard (Some standing.Resolved) first own = own
kind_heard None first own = unwrap_or first own

-- A descriptor of a message with these descriptors, as it is heard.
abbrev pub heard_descriptor : Standings → List Descriptor → Descriptor → Descriptor
heard_descriptor stands ds descriptor.None = descriptor.None
heard_descriptor stands ds (descriptor.SenderHosted e) = in_kind (kind_heard (stands e) (first_kind e ds) kind.Hosted) e
heard_descriptor stands ds (descriptor.SenderPromise e) = in_kind (kind_heard (stands e) (first_kind e ds) kind.Promise) e
heard_descriptor stands ds (descriptor.ReceiverHosted e) = descriptor.ReceiverHosted e
heard_descriptor stands ds (descriptor.ReceiverAnswer q path) = descriptor.ReceiverAnswer q path

abbrev pub heard_descriptors : Standings → List Descriptor → List Descriptor
heard_descriptors stands ds = map (heard_descriptor stands ds) ds

-- The message with each name in the kind of the first one.
abbrev pub in_first_kinds : Standings → What → What
in_first_kinds stands w = what_with w (heard_descriptors stands (descriptors_in w))

-- ---- what comes

pub data Outcome : Type 0 where
  -- the vat hears it
  heard : What → Outcome
  -- the vat does not hear it, and one of that export, if there is any, is given back
  set_aside : Option ExportId → Outcome

abbrev pub is_hosted : Option Standing → Bool
is_hosted None = false
is_hosted (Some standing.Hosted) = true
is_hosted (Some standing.Promise) = false
is_hosted (Some standing.Resolved) = false

-- The export of which a descriptor gives one.
abbrev pub given_by : Descriptor → Option ExportId
given_by descriptor.None = None
given_by (descriptor.SenderHosted e) = Some e
given_by (descriptor.SenderPromise e) = Some e
given_by (descriptor.ReceiverHosted e) = None
given_by (descriptor.ReceiverAnswer q path) = None

abbrev pub given_to : ResolvedTo → Option ExportId
given_to (resolved.Cap d) = given_by d
given_to (resolved.Exception e) = None

abbrev pub hears : Standings → What → Outcome
hears stands w = heard (in_first_kinds stands w)

-- The Resolve that an envelope is.
abbrev pub resolve_in : What → Option Resolve
resolve_in (profile (message.Plain (plain.Resolve r))) = Some r
resolve_in w = None

-- A Resolve of what was named as an object resolves nothing.
abbrev pub comes_by : Standings → What → Option Resolve → Outcome
comes_by stands w None = hears stands w
comes_by stands w (Some r) = cond (is_hosted (stands r.promise)) (set_aside (given_to r.to)) (hears stands w)

-- An envelope comes to a vat at which imports stand so.
abbrev pub comes : Standings → What → Outcome
comes stands w = comes_by stands w (resolve_in w)

-- ---- what the function answers

abbrev pub seen_kinds : outcome.Kinds → Outcome
seen_kinds (outcomes.Heard e) = heard (seen_envelope e)
seen_kinds (outcomes.SetAside given) = set_aside given
