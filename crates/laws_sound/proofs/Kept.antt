-- What is promised of the entries of events is so of a journal that has counts among them.
use Rattle.std.proofs.Common.{◌≡◌, ℕ, Bool, cond, ◌||◌, Option, None, List, [], ◌∷◌, ◌++◌, refl, sym, ap, subst, ◌∙◌}
use Rattle.rpc_msg.specs.declared.ids.Vat.{Vat}
use Rattle.rpc_msg.specs.declared.ids.Stamp.{Stamp}
use Rattle.rpc_journal.specs.declared.entry.Counts.{Counts}
use Rattle.rpc_journal.specs.declared.entry.JournalEntry.{JournalEntry}
use Rattle.rpc_journal.specs.declared.entry.JournalEntry.TheVariants as entry
use Rattle.rpc_journal.specs.History.{Ref, same_vat, in_front, all_that, made_stamp, made, delivered_one, deliveries, stamps, delivered}
use Rattle.rpc_machine.specs.Claims.{AreNumbered, IsBeginning, IsInOrder, IsNumbered, IsQuietWhenDown, deliveries_at, is_down_of, went_down_in}
use Rattle.rpc_machine.specs.World.{World}
use Rattle.laws_runs.proofs.Reading.{all_that-append}
use Rattle.laws_scenes.specs.InFull.{ArriveInFull}
use Rattle.laws_scenes.specs.Ordered.{AreAtOne}
use Rattle.laws_sound.specs.Promised.{but_tables, events_of, AreEachAtOne}

-- ---- What is read

all_kept : {X : Type 0} (f : JournalEntry → Option X) → ((a b : Counts) → f (entry.Tables a b) ≡ None) → (h : List JournalEntry) → all_that f (events_of h) ≡ all_that f h
all_kept f n [] = refl
all_kept f n (entry.Tables a b ∷ es) = all_kept f n es ∙ ap (λ (o : Option _). in_front o (all_that f es)) (sym (n a b))
all_kept f n (e ∷ es) = ap (λ (l : List _). in_front (f e) l) (all_kept f n es)

pub made_kept : (h : List JournalEntry) (r : Ref) → made (events_of h) r ≡ made h r
made_kept h r = all_kept (made_stamp r) (λ a b. refl) h

pub deliveries_kept : (h : List JournalEntry) (r : Ref) → deliveries (events_of h) r ≡ deliveries h r
deliveries_kept h r = all_kept (delivered_one r) (λ a b. refl) h

delivered_kept : (h : List JournalEntry) (r : Ref) → delivered (events_of h) r ≡ delivered h r
delivered_kept h r = ap stamps (deliveries_kept h r)

at_kept : (v : Vat) (h : List JournalEntry) → deliveries_at v (events_of h) ≡ deliveries_at v h
at_kept v [] = refl
at_kept v (entry.Delivered u d ∷ es) = ap (λ (l : List JournalEntry). cond (same_vat v u) (entry.Delivered u d ∷ l) l) (at_kept v es)
at_kept v (e ∷ es) = at_kept v es

pub went_kept : (v : Vat) (h : List JournalEntry) → went_down_in v (events_of h) ≡ went_down_in v h
went_kept v [] = refl
went_kept v (entry.Tables a b ∷ es) = went_kept v es
went_kept v (e ∷ es) = ap (λ (b : Bool). is_down_of v e || b) (went_kept v es)

-- An entry of an event is where it was, between those of events.
pub split : (v : Vat) (n : ℕ) (h before behind : List JournalEntry) → h ≡ before ++ entry.Down v n ∷ behind → events_of h ≡ events_of before ++ entry.Down v n ∷ events_of behind
split v n h before behind e = ap events_of e ∙ all_that-append but_tables before (entry.Down v n ∷ behind)

-- ---- The promises

module _ (h : List JournalEntry) where
  pub in_order : IsInOrder (events_of h) → IsInOrder h
  in_order k r = subst (λ (l : List Stamp). IsBeginning l (made h r)) (delivered_kept h r) (subst (λ (l : List Stamp). IsBeginning (delivered (events_of h) r) l) (made_kept h r) (k r))

  pub numbered : AreNumbered (events_of h) → AreNumbered h
  numbered k r = subst (IsNumbered r 0) (made_kept h r) (k r)

  pub at_one : AreEachAtOne (events_of h) → AreEachAtOne h
  at_one k r = subst AreAtOne (deliveries_kept h r) (k r)

  pub in_full : (w : World) → ArriveInFull (events_of h) w → ArriveInFull h w
  in_full w k r s ss e idle = sym (delivered_kept h r) ∙ k r s ss (delivered_kept h r ∙ e) idle ∙ made_kept h r

  pub quiet : IsQuietWhenDown (events_of h) → IsQuietWhenDown h
  quiet k v n before behind e = sym (at_kept v behind) ∙ k v n (events_of before) (events_of behind) (split v n h before behind e)
