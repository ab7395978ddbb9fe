-- What an event says in numbers, and the bytes and references that come with it.
use Rattle.std.specs.Prelude.{ℕ, List, [], length, map}
use Rattle.rpc_msg.specs.declared.ids.RefId.{RefId}
use Rattle.rpc_msg.specs.declared.exception.ExceptionKind.{ExceptionKind}
use Rattle.rpc_msg.specs.declared.exception.ExceptionKind.TheVariants as kind
use Rattle.rpc_journal.specs.declared.report.Outcome.{Outcome}
use Rattle.rpc_journal.specs.declared.report.Outcome.TheVariants as outcome
use Rattle.vat_host.specs.declared.event.Event.{Event}
use Rattle.vat_host.specs.declared.event.Event.TheVariants as event
use Rattle.vat_host.specs.declared.event.PeerPlace.{PeerPlace}
use Rattle.vat_host.specs.declared.event.PeerPlace.TheVariants as place
use Rattle.lovendak_c_desk.specs.Leading.{answer_kind, import_kind}
use Rattle.lovendak_c_desk.specs.declared.notice.Notice.{Notice}

-- as `Exception.Type` of rpc.capnp counts them
abbrev pub number_of_kind : ExceptionKind → ℕ
number_of_kind kind.Failed = 0
number_of_kind kind.Overloaded = 1
number_of_kind kind.Disconnected = 2
number_of_kind kind.Unimplemented = 3

-- the bytes of the payload, or of the exception's reason
abbrev pub bytes_of_outcome : Outcome → List ℕ
bytes_of_outcome (outcome.Results payload) = payload.bytes
bytes_of_outcome (outcome.Exception exception) = exception.reason

abbrev pub bytes_of : Event → List ℕ
bytes_of (event.Served call) = call.payload.bytes
bytes_of (event.Ended call) = bytes_of_outcome call.outcome
bytes_of (event.Resolved place) = []
bytes_of (event.Lifted reference) = []
bytes_of (event.Cancelled task) = []
bytes_of (event.Released object) = []
bytes_of (event.Down number reason) = reason

abbrev pub refs_of : Event → List RefId
refs_of (event.Served call) = call.refs
refs_of (event.Ended call) = call.refs
refs_of (event.Resolved place) = []
refs_of (event.Lifted reference) = []
refs_of (event.Cancelled task) = []
refs_of (event.Released object) = []
refs_of (event.Down number reason) = []

abbrev pub numbers : List RefId → List ℕ
numbers = map (λ r. r.0)

-- 1 of an exception
abbrev pub is_exception : Outcome → ℕ
is_exception (outcome.Results payload) = 0
is_exception (outcome.Exception exception) = 1

abbrev pub exception_number : Outcome → ℕ
exception_number (outcome.Results payload) = 0
exception_number (outcome.Exception exception) = number_of_kind exception.kind

-- Nothing is said.
abbrev pub silent : Notice
silent = record {
  kind = 0;
  method = 0;
  is_exception = 0;
  exception = 0;
  place = 0;
  number = 0;
  object = 0;
  interface_id = 0;
  payload_len = 0;
  refs_len = 0;
}

-- the kind of a place of the peer, as of where a reference leads
abbrev pub number_of_place : PeerPlace → ℕ
number_of_place (place.Import e) = import_kind
number_of_place (place.Question q) = answer_kind

abbrev pub id_of_place : PeerPlace → ℕ
id_of_place (place.Import e) = e.0
id_of_place (place.Question q) = q.0

-- What an event says. What its kind doesn't have is 0.
abbrev pub notice_of : Event → Notice
notice_of (event.Served call) = record silent {
  kind = 1;
  method = call.method;
  number = call.task.0;
  object = call.object.0;
  interface_id = call.interface;
  payload_len = length call.payload.bytes;
  refs_len = length call.refs;
}
notice_of (event.Ended call) = record silent {
  kind = 2;
  is_exception = is_exception call.outcome;
  exception = exception_number call.outcome;
  number = call.call.0;
  payload_len = length (bytes_of_outcome call.outcome);
  refs_len = length call.refs;
}
notice_of (event.Resolved p) = record silent { kind = 6; place = number_of_place p; number = id_of_place p }
notice_of (event.Lifted r) = record silent { kind = 7; number = r.0 }
notice_of (event.Cancelled t) = record silent { kind = 5; number = t.0 }
notice_of (event.Released o) = record silent { kind = 4; object = o.0 }
notice_of (event.Down number reason) = record silent { kind = 3; number = number; payload_len = length reason }
