-- Where a reference leads, in numbers.
use Rattle.std.specs.Prelude.{ℕ, Bool, true, false, Result, Ok, Err}
use Rattle.rpc_machine.specs.declared.command.Refusal.{Refusal}
use Rattle.rpc_machine.specs.declared.node.Reason.{Reason}
use Rattle.rpc_machine.specs.declared.node.Reason.TheVariants as reason
use Rattle.core_queries.specs.declared.places.Place.{Place}
use Rattle.core_queries.specs.declared.places.Place.TheVariants as place
use Rattle.lovendak_c_desk.specs.declared.lead.Lead.{Lead}
use Rattle.lovendak_c_desk.specs.declared.not_done.NotDone.{NotDone}
use Rattle.lovendak_c_desk.specs.declared.not_done.NotDone.TheVariants as not_done

abbrev pub import_kind : ℕ
import_kind = 4

abbrev pub answer_kind : ℕ
answer_kind = 5

-- 1 for yes
abbrev pub flag : Bool → ℕ
flag false = 0
flag true = 1

abbrev pub number_of_reason : Reason → ℕ
number_of_reason reason.NullCapability = 1
number_of_reason reason.NotACapability = 2
number_of_reason reason.BrokenPromise = 3

-- A place of that kind and number. What a kind doesn't have is 0.
abbrev pub at_place : ℕ → ℕ → ℕ → Lead
at_place kind waits number = record { kind = kind; is_embargoed = waits; is_promise = 0; reason = 0; number = number }

-- Where a reference leads; and 1 where its calls wait under an embargo before.
abbrev pub lead_of : Place → ℕ → Lead
lead_of (place.Own o) waits = at_place 1 waits o.0
lead_of place.OwnPromise waits = at_place 2 waits 0
lead_of place.OwnCall waits = at_place 3 waits 0
lead_of (place.Import e promise) waits = record (at_place import_kind waits e.0) { is_promise = flag promise }
lead_of (place.Answer q path) waits = at_place answer_kind waits q.0
lead_of (place.Broken why) waits = record (at_place 6 waits 0) { reason = number_of_reason why }

abbrev pub lead_or : Result (Place × Bool) Refusal → Result Lead NotDone
lead_or (Ok x) = Ok (lead_of x.0 (flag x.1))
lead_or (Err r) = Err (not_done.Refused r)
