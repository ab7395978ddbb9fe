-- All that is promised of runs, of a journal that has counts among its entries.
use Rattle.std.proofs.Common.{◌≡◌, ℕ, cond, Option, List, [], ◌∷◌, ◌++◌, refl, sym, ap, subst, ◌∙◌}
use Rattle.rpc_msg.specs.declared.ids.Vat.{Vat}
use Rattle.rpc_msg.specs.declared.ids.ObjectId.{ObjectId}
use Rattle.rpc_msg.specs.Vats.{other_vat}
use Rattle.rpc_journal.specs.declared.entry.JournalEntry.{JournalEntry}
use Rattle.rpc_journal.specs.declared.entry.JournalEntry.TheVariants as entry
use Rattle.rpc_journal.specs.Meaning.{ObjectAt}
use Rattle.rpc_machine.specs.Claims.{Falls, FallsAreKnown, FallsFor, ByShut, ForRoom, ForHeld, ByPeer, IfFalls, IsInFull, IsInTime, IsSound, EveryRunIsSound, history}
use Rattle.rpc_machine.specs.World.{Happening, World, shut_number}
use Rattle.laws_runs.specs.Meanings.{InTimeIsToOne, MeaningsAreOne}
use Rattle.laws_runs.specs.Telling.{tells, telling}
use Rattle.laws_runs.proofs.Lifting.{lift_delivers, lift_ends}
use Rattle.laws_runs.proofs.ToldAlike.{same_delivered, same_made, same_meaning}
use Rattle.laws_sound.specs.Promised.{events_of, WorldsAreSound}
use Rattle.laws_sound.proofs.Kept as kept

telling_kept : (h : List JournalEntry) → telling (events_of h) ≡ telling h
telling_kept [] = refl
telling_kept (entry.Tables a b ∷ es) = telling_kept es
telling_kept (e ∷ es) = ap (λ (l : List JournalEntry). cond (tells e) (e ∷ l) l) (telling_kept es)

for : (o : Option ℕ) (before : List JournalEntry) (v : Vat) (n : ℕ) → FallsFor o (events_of before) v n → FallsFor o before v n
for o before v n (ByShut f) = ByShut f
for o before v n (ForRoom f g) = ForRoom f g
for o before v n (ForHeld f g) = ForHeld f g
for o before v n (ByPeer f g k) = ByPeer f g (sym (kept.went_kept (other_vat v) before) ∙ k)

module _ (a b : Option ObjectId) (xs : List Happening) (h : List JournalEntry) where
  falls_upto : FallsAreKnown xs (history a b (events_of h)) → (before behind : List JournalEntry) (e : JournalEntry) → h ≡ before ++ e ∷ behind → IfFalls xs (history a b before) e
  falls_upto known before behind (entry.Down v n) e =
      let f : Falls xs (history a b (events_of before)) v n = known.falls (events_of before) (events_of behind) (entry.Down v n) (kept.split v n h before behind e) in
      record { once = sym (kept.went_kept v before) ∙ f.once; why = for (shut_number v xs) before v n f.why }
  falls_upto known before behind x e = tt

  full : (w : World) → IsInFull (history a b (events_of h)) w → IsInFull (history a b h) w
  full w f r v o m u p =
      let t = telling_kept h in
      sym (same_delivered (events_of h) h t r) ∙ f r v o (same_meaning (history a b (events_of h)) (history a b h) t (refl, refl) r (ObjectAt v o) m) u p ∙ same_made (events_of h) h t r

  all : InTimeIsToOne → MeaningsAreOne → (w : World) → IsSound (history a b (events_of h)) xs w → IsSound (history a b h) xs w
  all to_one means_one w s =
      let t = sym (telling_kept h) in
      let time : IsInTime (history a b h) = lift_delivers (history a b h) (history a b (events_of h)) t (refl, refl) s.in_time in
      let one = to_one (history a b h) time in
      record {
        in_order = kept.in_order h s.in_order;
        numbered = kept.numbered h s.numbered;
        to_one = one;
        in_full = full w s.in_full;
        quiet = kept.quiet h s.quiet;
        counts = s.counts;
        means_one = means_one (history a b h) one;
        idle = s.idle;
        in_time = time;
        ends = lift_ends (history a b h) (history a b (events_of h)) t (refl, refl) s.ends;
        falls = record { falls = falls_upto s.falls; shuts = λ v e. sym (kept.went_kept v h) ∙ s.falls.shuts v e };
      }

pub worlds_sound : InTimeIsToOne → MeaningsAreOne → EveryRunIsSound → WorldsAreSound
worlds_sound to_one means_one sound h w run =
    let a = run.root_a in
    let b = run.root_b in
    let xs = run.happened in
    all a b xs h to_one means_one w (subst (λ (l : List JournalEntry). IsSound (history a b l) xs w) (sym run.told) (sound a b xs w run.ran))
