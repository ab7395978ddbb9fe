-- What the books keep of an end, by ids (docs/looking.md).
use Rattle.std.specs.Prelude.{ℕ, Bool, true, false, Option, Some, None}
use Rattle.std.specs.BTreeMap.{get}
use Rattle.std.specs.BTreeSet.{contains}
use Rattle.std.specs.Ordering.{nat_cmp}
use Rattle.std.specs.Option.{unwrap_or}
use Rattle.rpc_msg.specs.declared.ids.QuestionId.{QuestionId}
use Rattle.rpc_msg.specs.declared.ids.ExportId.{ExportId}
use Rattle.rpc_msg.specs.declared.ids.EmbargoId.{EmbargoId}
use Rattle.look_books.specs.declared.act.Kind.{Kind}
use Rattle.look_pieces.specs.declared.piece.Side.{Side}
use Rattle.look_pieces.specs.declared.piece.Side.TheVariants as side
use Rattle.look_books.specs.declared.books.Books.{Books}
use Rattle.look_books.specs.declared.end.End.{End}
use Rattle.look_books.specs.declared.end.Kinds.{Kinds}
use Rattle.look_books.specs.declared.export.Export.{Export}
use Rattle.look_books.specs.declared.question.Question.{Question}
use Rattle.look_books.specs.declared.question.Returned.{Returned}
use Rattle.look_books.specs.declared.question.Finished.{Finished}
use Rattle.look_books.specs.declared.question.Closed.{Closed}
use Rattle.look_books.specs.Acts.{number_of}

-- What is kept of an end, by ids: its open questions, the last question of each id that is not open, its exports that the other end
-- holds, the message in which each other one was given back whole, its promises whose Resolve may come, those that some Resolve led
-- to a capability, the message that began each embargo that is under way, its Abort, and how many messages it said by their numbers
-- in the union, less those that came back.
pub record Kept : Type 0 where
  pub questions : ℕ → Option Question
  pub closed : ℕ → Option Closed
  pub exports : ℕ → Option Export
  pub gone : ℕ → Option ℕ
  pub owed : ℕ → Bool
  pub led : ℕ → Bool
  pub embargoes : ℕ → Option ℕ
  pub down : Option ℕ
  pub said : ℕ → ℕ

-- how many messages the program counts, by their number in the union
abbrev pub counted_in : Kinds → ℕ → ℕ
counted_in ks n = unwrap_or (get nat_cmp ks.by_number n) 0

-- what the program keeps of an end
abbrev pub kept_of : End → Kept
kept_of e = record {
  questions = λ q. get nat_cmp e.questions q;
  closed = λ q. get nat_cmp e.closed q;
  exports = λ x. get nat_cmp e.exports x;
  gone = λ x. get nat_cmp e.gone x;
  owed = λ x. contains nat_cmp e.owed x;
  led = λ x. contains nat_cmp e.led x;
  embargoes = λ i. get nat_cmp e.embargoes i;
  down = e.down;
  said = λ n. counted_in e.kinds n;
}

-- the end in the books of the program
abbrev pub end_of : Books → Side → End
end_of b side.Client = b.client
end_of b side.Server = b.server

-- its open question of that id
abbrev pub question_at : Kept → QuestionId → Option Question
question_at k q = k.questions q.0

-- the last question of that id that is not open
abbrev pub closed_at : Kept → QuestionId → Option Closed
closed_at k q = k.closed q.0

-- its export that the other end holds
abbrev pub export_at : Kept → ExportId → Option Export
export_at k x = k.exports x.0

abbrev pub count_of : Option Export → ℕ
count_of None = 0
count_of (Some x) = x.count

-- how many of an export the other end holds: given, less given back
abbrev pub count_at : Kept → ExportId → ℕ
count_at k x = count_of (export_at k x)

-- the message in which it was given back whole
abbrev pub gone_at : Kept → ExportId → Option ℕ
gone_at k x = k.gone x.0

-- whether a Resolve of that promise may come
abbrev pub is_owed : Kept → ExportId → Bool
is_owed k x = k.owed x.0

-- whether some Resolve led that promise to a capability
abbrev pub is_led : Kept → ExportId → Bool
is_led k x = k.led x.0

-- the message that began an embargo that is under way
abbrev pub embargo_at : Kept → EmbargoId → Option ℕ
embargo_at k i = k.embargoes i.0

-- how many messages of a kind were said, less those that came back
abbrev pub said_of : Kept → Kind → ℕ
said_of k kind = k.said (number_of kind)

-- ---- a question

-- Its id may be used again: both returned and finished, but for what is waived.
abbrev pub free_by : Option Returned → Option Finished → Bool → Bool
free_by None None waived = false
free_by None (Some f) waived = waived
free_by (Some r) None waived = r.waived
free_by (Some r) (Some f) waived = true

abbrev pub is_free : Question → Bool
is_free q = free_by q.returned q.finished q.waived
