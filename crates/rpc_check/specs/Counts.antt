-- Counts of exports by id, and what a message on its way adds to them (docs/trace.md, "The verdict").
use Rattle.std.specs.Prelude.{ℕ, ◌+◌, Bool, false, cond, nat_eq, Option, None, Some, List, [], ◌∷◌, ◌++◌}
use Rattle.std.specs.List.{list_all}
use Rattle.rpc_msg.specs.declared.ids.ExportId.{ExportId}
use Rattle.rpc_msg.specs.declared.message.PlainMessage.TheVariants as plain
use Rattle.rpc_msg.specs.declared.message.Message.{Message}
use Rattle.rpc_msg.specs.declared.message.Message.TheVariants as message
use Rattle.rpc_msg.specs.Messages.{descriptors_of, given}
use Rattle.rpc_journal.specs.History.{if_so, or_rest}

-- Counts by id. An id that stands there more than once has the sum, one that is missing has 0.
abbrev pub CountsById : Type 0
CountsById = List (ExportId × ℕ)

abbrev pub count_of : ℕ → CountsById → ℕ
count_of e [] = 0
count_of e (x ∷ xs) = cond (nat_eq e x.0.0) x.1 0 + count_of e xs

-- The same count for each id that one of them names, so for every id.
abbrev pub same_counts : CountsById → CountsById → Bool
same_counts xs ys = list_all (λ x. nat_eq (count_of x.0.0 xs) (count_of x.0.0 ys)) (xs ++ ys)

abbrev pub one_each : List ℕ → CountsById
one_each [] = []
one_each (e ∷ es) = (record { 0 = e }, 1) ∷ one_each es

-- The exports of its sender that a message hands on: one for each senderHosted and senderPromise.
abbrev pub handed_on : Message → CountsById
handed_on m = one_each (given (descriptors_of m))

-- A Call or a Bootstrap with that question id.
abbrev pub is_question : ℕ → Message → Bool
is_question q (message.Plain (plain.Bootstrap id)) = nat_eq q id.0
is_question q (message.Plain (plain.Call call)) = nat_eq q call.question.0
is_question q m = false

-- A Return to the question of that id.
abbrev pub is_answer : ℕ → Message → Bool
is_answer q (message.Plain (plain.Return said)) = nat_eq q said.answer.0
is_answer q m = false

abbrev pub last_that : (Message → Bool) → List Message → Option Message
last_that p [] = None
last_that p (m ∷ ms) = or_rest (last_that p ms) (if_so (p m) m)

abbrev pub handed_on_by : Option Message → CountsById
handed_on_by None = []
handed_on_by (Some m) = handed_on m

-- A message, and those that its receiver had sent when it was sent.
pub record Sending : Type 0 where
  pub message : Message
  pub before : List Message

-- The exports of its receiver that a message releases, when its receiver had sent those before. A true flag releases
-- what the last Call with that question's id, or the last Return to it, handed on.
abbrev pub released_after : List Message → Message → CountsById
released_after before (message.Plain (plain.Release r)) = (r.export, r.count) ∷ []
released_after before (message.Plain (plain.Return r)) = cond r.release_param_caps (handed_on_by (last_that (is_question r.answer.0) before)) []
released_after before (message.Plain (plain.Finish f)) = cond f.release_result_caps (handed_on_by (last_that (is_answer f.question.0) before)) []
released_after before m = []

abbrev pub gives : Sending → CountsById
gives s = handed_on s.message

abbrev pub releases : Sending → CountsById
releases s = released_after s.before s.message

-- The counts of each message, one after the other.
abbrev pub of_each : (Sending → CountsById) → List Sending → CountsById
of_each f [] = []
of_each f (s ∷ ss) = f s ++ of_each f ss
