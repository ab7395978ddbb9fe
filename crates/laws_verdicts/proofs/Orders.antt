-- Each delivery is the next one of its reference, at the place of the first.
use Rattle.std.proofs.Common.{◌≡◌, Bool, true, false, ◌&&◌, not, nat_eq, List, [], ◌∷◌, ◌++◌, append-nil, append_assoc, Option, refl, sym, ap, subst, ◌∙◌, eq-eqb}
use Rattle.std.specs.Prelude.{All}
use Rattle.std.specs.List.{list_all}
use Rattle.std.proofs.lemmas.List.Elements.{All-head, All-tail}
use Rattle.rpc_msg.specs.declared.ids.Vat.{Vat}
use Rattle.rpc_msg.specs.declared.ids.ObjectId.{ObjectId}
use Rattle.rpc_msg.specs.declared.ids.Stamp.{Stamp}
use Rattle.rpc_journal.specs.declared.entry.JournalEntry.{JournalEntry}
use Rattle.rpc_journal.specs.declared.entry.JournalEntry.TheVariants as entry
use Rattle.rpc_journal.specs.History.{Ref, DeliveredAt, same_vat, same_stamp, caller, made, made_stamp, delivered_one, deliveries, delivered, stamps}
use Rattle.rpc_machine.specs.declared.command.Effects.{Effects}
use Rattle.rpc_machine.specs.Claims.{IsBeginning, IsInOrder}
use Rattle.rpc_machine.specs.World.{World, tables_entry, was_shut}
use Rattle.rpc_machine.specs.Journal.{Journaled, effect_entries, event_entries}
use Rattle.laws_runs.proofs.Reading.{all_that-append, itself}
use Rattle.laws_scenes.specs.Ordered.{AreAtOne, IsWhere}
use Rattle.laws_sound.specs.Promised.{AreEachAtOne, WorldsKeepPromises}
use Rattle.rpc_check.specs.Breaches.{is_beginning, same_place, at_one_place, in_order, breaks_order}
use Rattle.laws_verdicts.specs.Recorded.{GoesOn, Happened, CountsNoted, IsRecorded, nothing_yet}
use Rattle.laws_verdicts.specs.Good.{EachIsInOrder}
use Rattle.laws_verdicts.proofs.Walking.{Never, Each, each_so, never_where, never-append, none_breaks, keeps_on}
use Rattle.laws_verdicts.proofs.Events.{IsOwn, Writes, Nothing, Obeys, Takes, event_writes, effects_each}
use Rattle.laws_verdicts.proofs.Reached.{Tells, tells_on, tells_first}

-- ---- What is promised, as the check asks for it

same_itself : (s : Stamp) → same_stamp s s ≡ true
same_itself s = ap (λ (b : Bool). b && nat_eq s.reference.0 s.reference.0 && nat_eq s.index s.index) (itself s.vat) ∙ ap (λ (b : Bool). b && nat_eq s.index s.index) (eq-eqb s.reference.0 s.reference.0 refl) ∙ eq-eqb s.index s.index refl

begins : (xs ys : List Stamp) → is_beginning xs (xs ++ ys) ≡ true
begins [] ys = refl
begins (x ∷ xs) ys = ap (λ (b : Bool). b && is_beginning xs (xs ++ ys)) (same_itself x) ∙ begins xs ys

begins_so : (xs ys ms : List Stamp) → IsBeginning (xs ++ ys) ms → is_beginning xs ms ≡ true
begins_so xs ys ms k = ap (is_beginning xs) (sym k.1 ∙ append_assoc xs ys k.0) ∙ begins xs (ys ++ k.0)

same_where : (d x : DeliveredAt) → IsWhere d x → same_place d x ≡ true
same_where d x h =
    ap (λ (b : Bool). b && nat_eq d.delivery.object.0 x.delivery.object.0) (ap (same_vat d.vat) h.0 ∙ itself d.vat)
    ∙ eq-eqb d.delivery.object.0 x.delivery.object.0 (sym h.1)

all_where : (d : DeliveredAt) (ds more : List DeliveredAt) → All (IsWhere d) (ds ++ more) → list_all (same_place d) ds ≡ true
all_where d [] more h = refl
all_where d (x ∷ ds) more h =
    ap (λ (b : Bool). b && list_all (same_place d) ds) (same_where d x (All-head (IsWhere d) x (ds ++ more) h))
    ∙ all_where d ds more (All-tail (IsWhere d) x (ds ++ more) h)

at_one : (ds more : List DeliveredAt) → AreAtOne (ds ++ more) → at_one_place ds ≡ true
at_one [] more h = refl
at_one (d ∷ ds) more h = all_where d ds more h

-- ---- Behind its call nothing is made in one event

abbrev MakesNone : JournalEntry → Type 0
MakesNone (entry.Made v m) = ⊥
MakesNone e = Unit {0}

made_none : (es : List JournalEntry) (r : Ref) → Each MakesNone es → made es r ≡ []
made_none [] r h = refl
made_none (e ∷ es) r h = one e h.0 (made_none es r h.1)
  where
    one : (e : JournalEntry) → MakesNone e → made es r ≡ [] → made (e ∷ es) r ≡ []
    one (entry.Made v m) i k = absurd i
    one e i k = k

stamps-append : (xs ys : List DeliveredAt) → stamps (xs ++ ys) ≡ stamps xs ++ stamps ys
stamps-append [] ys = refl
stamps-append (x ∷ xs) ys = ap (λ (l : List Stamp). x.delivery.stamp ∷ l) (stamps-append xs ys)

record Ordered (h : List JournalEntry) : Type 0 where
  order : IsInOrder h
  one : AreEachAtOne h

module _ (h es : List JournalEntry) (none : Each MakesNone es) (o : Ordered (h ++ es)) where
  all_made : (r : Ref) → made (h ++ es) r ≡ made h r
  all_made r = all_that-append (made_stamp r) h es ∙ ap (λ (l : List Stamp). made h r ++ l) (made_none es r none) ∙ append-nil (made h r)

  all_delivered : (r : Ref) → deliveries (h ++ es) r ≡ deliveries h r ++ deliveries es r
  all_delivered r = all_that-append (delivered_one r) h es

  begun : (r : Ref) → is_beginning (delivered h r) (made h r) ≡ true
  begun r =
      begins_so (delivered h r) (delivered es r) (made h r)
      (subst (λ (l : List Stamp). IsBeginning l (made h r)) (ap stamps (all_delivered r) ∙ stamps-append (deliveries h r) (deliveries es r))
      (subst (λ (l : List Stamp). IsBeginning (delivered (h ++ es) r) l) (all_made r) (o.order r)))

  placed : (r : Ref) → at_one_place (deliveries h r) ≡ true
  placed r = at_one (deliveries h r) (deliveries es r) (subst AreAtOne (all_delivered r) (o.one r))

  both_so : (r : Ref) → in_order h r ≡ true
  both_so r = ap (λ (b : Bool). b && at_one_place (deliveries h r)) (begun r) ∙ placed r

orders : (h es : List JournalEntry) → Each MakesNone es → Ordered (h ++ es) → Never breaks_order h es
orders h [] n o = tt
orders h (e ∷ es) n o = (one e (λ r. both_so (h ++ e ∷ []) es n.1 p r), orders (h ++ e ∷ []) es n.1 p)
  where
    p : Ordered ((h ++ e ∷ []) ++ es)
    p = subst Ordered (sym (append_assoc h (e ∷ []) es)) o

    one : (e : JournalEntry) → ((r : Ref) → in_order (h ++ e ∷ []) r ≡ true) → breaks_order h e ≡ false
    one (entry.Delivered v d) k = ap not (k (caller d.stamp))
    one e k = refl

-- ---- Events

abbrev DeliversNone : JournalEntry → Type 0
DeliversNone (entry.Delivered v d) = ⊥
DeliversNone e = Unit {0}

no_delivery : (h : List JournalEntry) (e : JournalEntry) → DeliversNone e → breaks_order h e ≡ false
no_delivery h (entry.Delivered v d) i = absurd i
no_delivery h e i = refl

own_delivers : (u : Vat) (e : JournalEntry) → IsOwn u e → DeliversNone e
own_delivers u (entry.Delivered v d) i = i
own_delivers u e i = tt

effects_make : (u : Vat) (x : Effects) → Each MakesNone (effect_entries u x)
effects_make u x = effects_each MakesNone u x (λ m. tt) (λ d. tt) (λ y. tt) (λ n. tt)

orders_on : (h es : List JournalEntry) (w new : World) (u : Vat) → Ordered (h ++ es) → Writes w new u es → Never breaks_order h es
orders_on h es w new u r (Nothing e n) = subst (λ (l : List JournalEntry). Never breaks_order h l) (sym e) tt
orders_on h es w new u r (Obeys own c a told room s up o k e n) =
    subst (λ (l : List JournalEntry). Never breaks_order h l) (sym e)
    (never-append breaks_order h own (effect_entries u told) (never_where breaks_order DeliversNone no_delivery h own (each_so (IsOwn u) DeliversNone (own_delivers u) own o))
    (orders (h ++ own) (effect_entries u told) (effects_make u told) (subst Ordered (ap (λ (l : List JournalEntry). h ++ l) e ∙ sym (append_assoc h own (effect_entries u told))) r)))
orders_on h es w new u r (Takes m ms told room s up i k e n) =
    subst (λ (l : List JournalEntry). Never breaks_order h l) (sym e)
    (orders h (entry.Got u ∷ effect_entries u told) (tt, effects_make u told) (subst (λ (l : List JournalEntry). Ordered (h ++ l)) e r))

-- ---- Journals

record Delivering (j : Journaled) : Type 0 where
  tells : Tells j
  order : Never breaks_order [] j.journal

module _ (law : WorldsKeepPromises) where
  ordered : (j : Journaled) → Tells j → Ordered j.journal
  ordered j t =
      let p = law j.journal (λ v. was_shut v t.happened) j.world t (λ v. refl) in
      record { order = p.in_order; one = p.at_one }

  orders_so : (old new : Journaled) → Delivering old → GoesOn old new → Delivering new
  orders_so old new k (Happened x h e) =
      let es = event_entries old.journal x.event x.had_room x.answer in
      let t = tells_on old new k.tells (Happened x h e) in
      let r = event_writes old.world old.journal x.event x.answer x.had_room new.world h in record {
        tells = t;
        order = subst (λ (l : List JournalEntry). Never breaks_order [] l) (sym e) (never-append breaks_order [] old.journal es k.order (orders_on old.journal es old.world new.world r.0 (subst Ordered e (ordered new t)) r.1));
      }
  orders_so old new k (CountsNoted e) = record {
    tells = tells_on old new k.tells (CountsNoted e);
    order = subst (λ (j : Journaled). Never breaks_order [] j.journal) (sym e) (never-append breaks_order [] old.journal (tables_entry old.world ∷ []) k.order (refl, tt));
  }

  pub never_disordered : (a b : Option ObjectId) (w : Journaled) → IsRecorded a b w → Never breaks_order [] w.journal
  never_disordered a b w k = (keeps_on Delivering orders_so w (nothing_yet a b) k (record { tells = tells_first a b; order = tt })).order

  pub each_in_order : EachIsInOrder
  each_in_order a b w k = none_breaks breaks_order w.journal (never_disordered a b w k)
