-- Each delivery is to what its reference stands for, if it is so in the history up to it.
use Rattle.std.proofs.Common.{◌≡◌, Bool, true, false, List, [], ◌∷◌, ◌++◌, append_assoc, append-nil, refl, sym, ◌∙◌, subst}
use Rattle.std.specs.List.{All}
use Rattle.std.proofs.lemmas.List.Elements.{All-nil, All-cons, All-append, All-same}
use Rattle.rpc_msg.specs.declared.ids.Vat.{Vat}
use Rattle.rpc_journal.specs.declared.report.Delivery.{Delivery}
use Rattle.rpc_journal.specs.declared.entry.JournalEntry.{JournalEntry}
use Rattle.rpc_journal.specs.declared.entry.JournalEntry.TheVariants as entry
use Rattle.rpc_journal.specs.History.{Ref, DeliveredAt, same_ref, caller, in_front, if_so, delivered_one, deliveries}
use Rattle.rpc_journal.specs.Meaning.{History, ObjectAt, StandsFor}
use Rattle.rpc_machine.specs.Claims.{IsTo, IsToOne, IsInTime, IfDelivers}
use Rattle.laws_runs.proofs.Reading.{all_that-append, same_ref_is}
use Rattle.laws_runs.proofs.Lasting.{lasts}

-- ---- One entry more

module _ (h : History) (es : List JournalEntry) (t : IsToOne (record h { journal = es })) where
  before : (e : JournalEntry) (r : Ref) → (ds : List DeliveredAt) → All (IsTo (record h { journal = es }) r) ds → All (IsTo (record h { journal = es ++ e ∷ [] }) r) ds
  before e r ds a i d l = lasts (record h { journal = es }) (e ∷ []) t r _ (a i d l)

  new : (v : Vat) (d : Delivery) (r : Ref) → StandsFor (record h { journal = es }) (caller d.stamp) (ObjectAt v d.object.0) → (b : Bool) → same_ref r (caller d.stamp) ≡ b
      → All (IsTo (record h { journal = es ++ entry.Delivered v d ∷ [] }) r) (in_front (if_so b (record { vat = v; delivery = d })) [])
  new v d r s true e =
      let f = same_ref_is r (caller d.stamp) e in
      let P = IsTo (record h { journal = es ++ entry.Delivered v d ∷ [] }) r in
      All-cons P _ [] (lasts (record h { journal = es }) (entry.Delivered v d ∷ []) t r _ (subst (λ (q : Ref). StandsFor (record h { journal = es }) q (ObjectAt v d.object.0)) (sym f) s)) (All-nil P)
  new v d r s false e = All-nil _

  this : (e : JournalEntry) → IfDelivers (record h { journal = es }) e → (r : Ref) → All (IsTo (record h { journal = es ++ e ∷ [] }) r) (deliveries (e ∷ []) r)
  this (entry.Delivered v d) i r = new v d r i.to_object (same_ref r (caller d.stamp)) refl
  this e i r = All-nil _

  pub one_more : (e : JournalEntry) → IfDelivers (record h { journal = es }) e → IsToOne (record h { journal = es ++ e ∷ [] })
  one_more e i r =
      let P = IsTo (record h { journal = es ++ e ∷ [] }) r in
      All-same P (deliveries (es ++ e ∷ []) r) (deliveries es r ++ deliveries (e ∷ []) r) (all_that-append (delivered_one r) es (e ∷ []))
      (All-append P (deliveries es r) (deliveries (e ∷ []) r) (before e r (deliveries es r) (t r)) (this e i r))

to_the_end : (h : History) (es more : List JournalEntry) → h.journal ≡ es ++ more → IsInTime h → IsToOne (record h { journal = es }) → IsToOne h
to_the_end h es [] e i t = subst (λ (l : List JournalEntry). IsToOne (record h { journal = l })) (sym (e ∙ append-nil es)) t
to_the_end h es (x ∷ xs) e i t = to_the_end h (es ++ x ∷ []) xs (e ∙ sym (append_assoc es (x ∷ []) xs)) i (one_more h es t x (i es xs x e))

pub in_time : (h : History) → IsInTime h → IsToOne h
in_time h i = to_the_end h [] h.journal refl i (λ r. All-nil _)
