-- What becomes of the names of broken promises (docs/messages.md, "Peers of other make").
--
-- A peer of another make names a promise again by a descriptor `senderPromise` after the Resolve which said that it is broken
-- (rpc.capnp, CapDescriptor.senderPromise has it otherwise). Each such descriptor adds one to the export's count.
use Rattle.std.specs.Prelude.{◌≡◌, Bool, true, false, if◌then◌else◌, unwrap_or, map, List, [], ◌∷◌, Option, Some, None, refl}
use Rattle.std.specs.FinMap as finite
use Rattle.std.specs.List.{filter_map}
use Rattle.std.specs.Coded.{Coded, code_by, coded×}
use Rattle.finite_maps.specs.Tally.{Map}
use Rattle.rpc_msg.specs.declared.ids.ExportId.{ExportId}
use Rattle.rpc_msg.specs.declared.ids.QuestionId.{QuestionId}
use Rattle.rpc_msg.specs.declared.parts.Descriptor.{Descriptor}
use Rattle.rpc_msg.specs.declared.parts.Descriptor.TheVariants as descriptor
use Rattle.rpc_msg.specs.declared.message.PlainMessage.{PlainMessage}
use Rattle.rpc_msg.specs.declared.message.PlainMessage.TheVariants as plain
use Rattle.rpc_msg.specs.declared.message.Message.{Message}
use Rattle.rpc_msg.specs.declared.message.Message.TheVariants as message
use Rattle.rpc_codec.specs.Envelopes.{What, profile, tail_call, sent_elsewhere, taken_from_other, strange, seen_envelope}
use Rattle.rpc_codec.specs.Carried.{descriptors_in}
use Rattle.peer_descriptors.specs.Replacing.{what_with}
use Rattle.peer_broken.specs.contracts.owed.Owed as owed_row
use Rattle.peer_broken.specs.declared.due.Due.{Due}
use Rattle.peer_broken.specs.declared.due.Due.TheVariants.{AtOnce, ByReturn, ByFinish}
use Rattle.peer_broken.specs.declared.named.Named.{Named}

-- The names that are owed to the peer: those of a call of the peer by its question, until the vat's Return goes, and those of an
-- outcome by the vat's question, until its Finish goes.
pub record Naming : Type 0 where
  pub by_answer : Map (List ExportId)
  pub by_question : Map (List ExportId)

abbrev pub naming_code : Coded Naming
naming_code =
    code_by (Map (List ExportId) × Map (List ExportId))
    (coded× owed_row.the_row.coded owed_row.the_row.coded)
    (λ s. (s.by_answer, s.by_question))
    (λ p. record { by_answer = p.0; by_question = p.1 })
    (λ _. refl)

abbrev pub nothing_owed : Naming
nothing_owed = record { by_answer = finite.empty; by_question = finite.empty }

-- What a function answers at each id is what this test says.
abbrev pub Tells : {X : Type 0} → (X → Bool → Type 0) → (X → Bool) → Type 0
Tells {X} answers test = (x : X) (r : Bool) → answers x r → r ≡ test x

-- ---- the names in a message

-- The broken promise that a descriptor names.
abbrev pub broken_name : (ExportId → Bool) → Descriptor → Option ExportId
broken_name broken descriptor.None = None
broken_name broken (descriptor.SenderHosted e) = None
broken_name broken (descriptor.SenderPromise e) = if broken e then Some e else None
broken_name broken (descriptor.ReceiverHosted e) = None
broken_name broken (descriptor.ReceiverAnswer q path) = None

-- The vat hears of no capability in the place of one that is named so.
abbrev pub heard_by : Option ExportId → Descriptor → Descriptor
heard_by None d = d
heard_by (Some e) d = descriptor.None

abbrev pub heard_descriptor : (ExportId → Bool) → Descriptor → Descriptor
heard_descriptor broken d = heard_by (broken_name broken d) d

-- The broken promises that a message names, each as often as it does.
abbrev pub names_of : (ExportId → Bool) → What → List ExportId
names_of broken w = filter_map (broken_name broken) (descriptors_in w)

abbrev pub has_some : List ExportId → Bool
has_some [] = false
has_some (e ∷ es) = true

-- ---- what the vat hears

-- What the vat hears of a message.
abbrev pub heard : (ExportId → Bool) → What → What
heard broken w = what_with w (map (heard_descriptor broken) (descriptors_in w))

-- ---- what gives the names back

-- The names of a call: the Return of the vat for it. Those of results: the Finish of the vat. Those of a Resolve: a Release.
abbrev pub due_of_plain : PlainMessage → Due
due_of_plain (plain.Call c) = ByReturn c.question
due_of_plain (plain.Return r) = ByFinish r.answer
due_of_plain m = AtOnce

abbrev pub due_of_message : Message → Due
due_of_message (message.Plain m) = due_of_plain m
due_of_message (message.Unimplemented m) = AtOnce

abbrev pub due_by : What → Due
due_by (profile m) = due_of_message m
due_by (tail_call c) = ByReturn c.question
due_by (sent_elsewhere s) = AtOnce
due_by (taken_from_other s) = AtOnce
due_by (strange n original) = AtOnce

-- A Finish that was sent before the Return came gives back nothing of it.
abbrev pub unless_finished : (QuestionId → Bool) → Due → Due
unless_finished finished AtOnce = AtOnce
unless_finished finished (ByReturn a) = ByReturn a
unless_finished finished (ByFinish q) = if finished q then AtOnce else ByFinish q

-- What is owed under an id.
abbrev pub owed_under : Map (List ExportId) → QuestionId → List ExportId
owed_under m q = unwrap_or (finite.get m q.0) []

-- Names are owed from now on: the state then, and what is given back at once. Of an id that is in use the vat goes down; what
-- was owed under it is given back.
abbrev pub owing : Naming → Due → List ExportId → Naming × List ExportId
owing s due [] = (s, [])
owing s AtOnce (e ∷ es) = (s, e ∷ es)
owing s (ByReturn a) (e ∷ es) = (record s { by_answer = finite.insert s.by_answer a.0 (e ∷ es) }, owed_under s.by_answer a)
owing s (ByFinish q) (e ∷ es) = (record s { by_question = finite.insert s.by_question q.0 (e ∷ es) }, owed_under s.by_question q)

-- ---- the steps

-- What a message comes to: the state after it, what the vat hears, and what is given back at once, by Releases of one.
pub record Coming : Type 0 where
  pub state : Naming
  pub came : What
  pub given_back : List ExportId

abbrev pub coming : What → Naming × List ExportId → Coming
coming w owed = record { state = owed.0; came = w; given_back = owed.1 }

-- A message comes. These exports are broken promises, and of these questions the Finish was sent.
abbrev pub comes : (ExportId → Bool) → (QuestionId → Bool) → Naming → What → Coming
comes broken finished s w = coming (heard broken w) (owing s (unless_finished finished (due_by w)) (names_of broken w))

-- What a Return or a Finish of the vat comes to: the state after it, and what is given back by its flag, or by Releases of one
-- beside it.
pub record Going : Type 0 where
  pub state : Naming
  pub by_flag : List ExportId
  pub by_release : List ExportId

abbrev pub flagged : Bool → List ExportId → List ExportId
flagged flag es = if flag then es else []

abbrev pub released : Bool → List ExportId → List ExportId
released flag es = if flag then [] else es

abbrev pub going : Naming → Bool → List ExportId → Going
going s flag es = record { state = s; by_flag = flagged flag es; by_release = released flag es }

-- The vat's Return for an answer goes, with that releaseParamCaps.
abbrev pub returns : Naming → QuestionId → Bool → Going
returns s a flag = going (record s { by_answer = finite.remove s.by_answer a.0 }) flag (owed_under s.by_answer a)

-- The vat's Finish of a question goes, with that releaseResultCaps.
abbrev pub finishes : Naming → QuestionId → Bool → Going
finishes s q flag = going (record s { by_question = finite.remove s.by_question q.0 }) flag (owed_under s.by_question q)

-- ---- what the functions answer

abbrev pub seen_named : Naming → Named → Coming
seen_named new n = record { state = new; came = seen_envelope n.came; given_back = n.given_back }
