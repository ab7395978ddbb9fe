-- The verdict of a trace: the first entry that breaks one of four laws, each of them said of the entries before it
-- (docs/trace.md, "The verdict").
use Rattle.std.specs.Prelude.{ℕ, suc, Bool, true, false, cond, not, ◌&&◌, nat_eq, Option, None, Some, List, [], ◌∷◌, ◌++◌, length, drop, filter}
use Rattle.std.specs.List.{list_all, list_any}
use Rattle.rpc_msg.specs.declared.ids.Vat.{Vat}
use Rattle.rpc_msg.specs.declared.ids.Vat.TheVariants.{A, B}
use Rattle.rpc_msg.specs.declared.ids.Stamp.{Stamp}
use Rattle.rpc_msg.specs.declared.message.Message.{Message}
use Rattle.rpc_msg.specs.Vats.{other_vat}
use Rattle.rpc_journal.specs.declared.entry.JournalEntry.{JournalEntry}
use Rattle.rpc_journal.specs.declared.entry.JournalEntry.TheVariants as entry
use Rattle.rpc_journal.specs.History.{Ref, DeliveredAt, same_vat, same_stamp, caller, if_so, in_front, all_that, or_rest, made, deliveries, delivered}
use Rattle.rpc_check.specs.declared.verdict.Verdict.{Verdict}
use Rattle.rpc_check.specs.declared.verdict.Verdict.TheVariants.{Good, Order, Unmatched, AfterDown, Count}
use Rattle.rpc_check.specs.Counts.{CountsById, same_counts, Sending, gives, releases, of_each}

-- ---- Order

abbrev pub is_beginning : List Stamp → List Stamp → Bool
is_beginning [] ms = true
is_beginning (s ∷ ss) [] = false
is_beginning (s ∷ ss) (m ∷ ms) = same_stamp s m && is_beginning ss ms

abbrev pub same_place : DeliveredAt → DeliveredAt → Bool
same_place d x = same_vat d.vat x.vat && nat_eq d.delivery.object.0 x.delivery.object.0

-- All at the vat and object of the first.
abbrev pub at_one_place : List DeliveredAt → Bool
at_one_place [] = true
at_one_place (d ∷ ds) = list_all (same_place d) ds

-- The calls delivered through a reference are a beginning of those made, all at one place.
abbrev pub in_order : List JournalEntry → Ref → Bool
in_order h r = is_beginning (delivered h r) (made h r) && at_one_place (deliveries h r)

abbrev pub breaks_order : List JournalEntry → JournalEntry → Bool
breaks_order before (entry.Delivered v d) = not (in_order (before ++ entry.Delivered v d ∷ []) (caller d.stamp))
breaks_order before e = false

-- ---- Messages on their way

abbrev pub sent_one : Vat → JournalEntry → Option Message
sent_one v (entry.Sent w m) = if_so (same_vat v w) m
sent_one v e = None

-- The messages that a vat sent, in order.
abbrev pub sent : List JournalEntry → Vat → List Message
sent h v = all_that (sent_one v) h

abbrev pub sending : List Message → Option Message → Option Sending
sending before None = None
sending before (Some m) = Some (record { message = m; before = before })

-- What an entry sends, and what the other vat had sent before.
abbrev pub sending_one : Vat → List JournalEntry → JournalEntry → Option Sending
sending_one v before e = sending (sent before (other_vat v)) (sent_one v e)

abbrev pub sendings_after : List JournalEntry → List JournalEntry → Vat → List Sending
sendings_after before [] v = []
sendings_after before (e ∷ es) v = in_front (sending_one v before e) (sendings_after (before ++ e ∷ []) es v)

abbrev pub sendings : List JournalEntry → Vat → List Sending
sendings h v = sendings_after [] h v

abbrev pub is_got : Vat → JournalEntry → Bool
is_got v (entry.Got w) = same_vat v w
is_got v e = false

-- How many messages a vat received.
abbrev pub got : List JournalEntry → Vat → ℕ
got h v = length (filter (is_got v) h)

-- The messages that a vat sent and the other did not receive, the oldest first.
abbrev pub on_the_way : List JournalEntry → Vat → List Sending
on_the_way h v = drop (got h (other_vat v)) (sendings h v)

abbrev pub none_left : List Sending → Bool
none_left [] = true
none_left (s ∷ ss) = false

abbrev pub gets_nothing : List JournalEntry → JournalEntry → Bool
gets_nothing before (entry.Got v) = none_left (on_the_way before (other_vat v))
gets_nothing before e = false

-- ---- After going down

abbrev pub falls : Vat → JournalEntry → Bool
falls v (entry.Down w fault) = same_vat v w
falls v e = false

abbrev pub is_down : List JournalEntry → Vat → Bool
is_down h v = list_any (falls v) h

-- What a vat that is down does no more.
abbrev pub acts_after_down : List JournalEntry → JournalEntry → Bool
acts_after_down before (entry.Sent v m) = is_down before v
acts_after_down before (entry.Delivered v d) = is_down before v
acts_after_down before (entry.Answered v task outcome refs) = is_down before v
acts_after_down before (entry.Ended v ended) = is_down before v
acts_after_down before e = false

-- ---- Counts

-- The exports of a vat that messages on their way name: its own messages hand them on, the other's release them.
abbrev pub counted_on_the_way : List JournalEntry → Vat → CountsById
counted_on_the_way h v = of_each gives (on_the_way h v) ++ of_each releases (on_the_way h (other_vat v))

abbrev pub agrees : List JournalEntry → Vat → CountsById → CountsById → Bool
agrees h v exports imports = same_counts exports (imports ++ counted_on_the_way h v)

abbrev pub miscounts : List JournalEntry → JournalEntry → Bool
miscounts before (entry.Tables a b) =
    not (is_down before A) && not (is_down before B)
    && not (agrees before A a.exports b.imports && agrees before B b.exports a.imports)
miscounts before e = false

-- ---- The verdict

-- What the entry breaks, the first of the four, with its number.
abbrev pub breach : List JournalEntry → JournalEntry → Option Verdict
breach before e =
    cond (breaks_order before e) (Some (Order (suc (length before))))
    (cond (gets_nothing before e) (Some (Unmatched (suc (length before))))
    (cond (acts_after_down before e) (Some (AfterDown (suc (length before))))
    (cond (miscounts before e) (Some (Count (suc (length before)))) None)))

-- The first breach among entries that come after those.
abbrev pub first_breach : List JournalEntry → List JournalEntry → Option Verdict
first_breach before [] = None
first_breach before (e ∷ es) = or_rest (breach before e) (first_breach (before ++ e ∷ []) es)

abbrev pub is_delivered : JournalEntry → Bool
is_delivered (entry.Delivered v d) = true
is_delivered e = false

abbrev pub or_good : Option Verdict → ℕ → Verdict
or_good None n = Good n
or_good (Some verdict) n = verdict

abbrev pub verdict_of : List JournalEntry → Verdict
verdict_of h = or_good (first_breach [] h) (length (filter is_delivered h))
