-- All that is promised of a run, by a sound scene that shows it; and what a scene is, by a sound run that it shows.
use Rattle.std.proofs.Common.{◌≡◌, false, List, [], Option, refl, sym, subst, ◌∙◌}
use Rattle.rpc_msg.specs.declared.ids.Vat.TheVariants.{A, B}
use Rattle.rpc_msg.specs.declared.ids.ObjectId.{ObjectId}
use Rattle.rpc_msg.specs.declared.ids.Stamp.{Stamp}
use Rattle.rpc_journal.specs.declared.entry.JournalEntry.{JournalEntry}
use Rattle.rpc_journal.specs.History.{made, delivered}
use Rattle.rpc_journal.specs.Meaning.{ObjectAt}
use Rattle.rpc_machine.specs.World.{World, Happening, Run, new_world, shut_number}
use Rattle.rpc_machine.specs.Journal.{journal}
use Rattle.rpc_machine.specs.Claims.{IsInOrder, IsBeginning, IsInFull, CountsAgree, BothUp, IsInTime, IsSound, history}
use Rattle.laws_runs.proofs.QuietRuns.{every_run_is_quiet}
use Rattle.rpc_machine.proofs.Idle.{idle_is_none_pending}
use Rattle.laws_runs.specs.Telling.{telling}
use Rattle.laws_runs.specs.Scenes.{Scene, Shows}
use Rattle.laws_runs.proofs.Lasting.{means_one}
use Rattle.laws_runs.proofs.InTime.{in_time}
use Rattle.laws_runs.proofs.Numbered.{numbered}
use Rattle.laws_runs.proofs.ToldAlike.{same_made, same_delivered, same_meaning}
use Rattle.laws_runs.proofs.AtVats.{not_over, up_too}
use Rattle.laws_runs.proofs.Showing.{both_up}
use Rattle.laws_runs.proofs.Running.{scenes_show_runs}
use Rattle.laws_runs.specs.SoundScenes.{OldestAreTaken, SceneIsSound, SoundByScenes, ScenesBySound}
use Rattle.laws_runs.proofs.Lifting.{lift_delivers, lift_ends}
use Rattle.laws_runs.proofs.FallEntries.{Fine, upto_falls}
use Rattle.laws_runs.proofs.WhoIsDown.{SaysDown, shut_so}
use Rattle.laws_runs.proofs.FallsInRuns.{whole_run}

in_order : (h k : List JournalEntry) → telling h ≡ telling k → IsInOrder k → IsInOrder h
in_order h k e i r = subst (λ (l : List Stamp). IsBeginning l (made h r)) (sym (same_delivered h k e r)) (subst (λ (l : List Stamp). IsBeginning (delivered k r) l) (sym (same_made h k e r)) (i r))

-- In full by what the one history says, then by what the other says.
in_full : (a b : Option ObjectId) (h k : List JournalEntry) (w : World) → telling h ≡ telling k → IsInFull (history a b k) w → IsInFull (history a b h) w
in_full a b h k w e f r v o m u p =
    same_delivered h k e r ∙ f r v o (same_meaning (history a b k) (history a b h) (sym e) (refl, refl) r (ObjectAt v o) m) u p ∙ sym (same_made h k e r)

-- ---- A run that a sound scene shows

module _ (a b : Option ObjectId) (xs : List Happening) (w : World) (ran : Run (new_world a b) xs w) (x : Scene) (s : SceneIsSound (history a b x.journal) x) (shows : Shows x (journal xs) w) (fine : Fine (λ v. shut_number v xs) [] (journal xs)) (says : SaysDown w (journal xs)) where
  time : IsInTime (history a b (journal xs))
  time = lift_delivers (history a b (journal xs)) (history a b x.journal) shows.history (refl, refl) s.in_time

  a_up : BothUp w → x.over_a ≡ false
  a_up u = not_over A x (journal xs) w shows u.0

  b_up : BothUp w → x.over_b ≡ false
  b_up u = not_over B x (journal xs) w shows u.1

  full : IsInFull (history a b (journal xs)) w
  full r v o m u p =
      let e = both_up x (journal xs) w shows u in
      in_full a b (journal xs) x.journal w shows.history (subst (IsInFull (history a b x.journal)) (sym e) (s.in_full (a_up u) (b_up u))) r v o m u p

  agree : CountsAgree w
  agree u = let e = both_up x (journal xs) w shows u in subst CountsAgree (sym e) (s.counts (a_up u) (b_up u)) u

  sound : IsSound (history a b (journal xs)) xs w
  sound = record {
    in_order = in_order (journal xs) x.journal shows.history s.in_order;
    numbered = numbered xs;
    to_one = in_time (history a b (journal xs)) time;
    in_full = full;
    quiet = every_run_is_quiet a b xs w ran;
    counts = agree;
    means_one = means_one (history a b (journal xs)) (in_time (history a b (journal xs)) time);
    idle = idle_is_none_pending w;
    in_time = time;
    ends = lift_ends (history a b (journal xs)) (history a b x.journal) shows.history (refl, refl) s.ends;
    falls = record {
      falls = upto_falls xs (history a b (journal xs)) fine;
      shuts = λ v e. says v ∙ shut_so (new_world a b) xs w v ran e;
    };
  }

pub sound_by_scenes : SoundByScenes
sound_by_scenes every a b xs w k =
    let r = whole_run a b (λ x i. (every a b x i).oldest) xs w k in
    let e = r.1 in
    sound a b xs w k r.4.0 (every a b r.4.0 r.4.1)
    (subst (λ (h : List JournalEntry). Shows r.4.0 h w) (sym e) r.4.2)
    (subst (λ (h : List JournalEntry). Fine (λ v. shut_number v xs) [] h) (sym e) r.2)
    (subst (λ (h : List JournalEntry). SaysDown w h) (sym e) r.3)

-- ---- A scene that shows a sound run

module _ (a b : Option ObjectId) (xs : List Happening) (w : World) (s : IsSound (history a b (journal xs)) xs w) (x : Scene) (shows : Shows x (journal xs) w) where
  told : telling x.journal ≡ telling (journal xs)
  told = sym shows.history

  up : x.over_a ≡ false → x.over_b ≡ false → BothUp w
  up i j = (up_too A x (journal xs) w shows i, up_too B x (journal xs) w shows j)

  shown : OldestAreTaken x → SceneIsSound (history a b x.journal) x
  shown o = record {
    in_order = in_order x.journal (journal xs) told s.in_order;
    in_full = λ i j. subst (IsInFull (history a b x.journal)) (both_up x (journal xs) w shows (up i j)) (in_full a b x.journal (journal xs) w told s.in_full);
    counts = λ i j. subst CountsAgree (both_up x (journal xs) w shows (up i j)) s.counts;
    in_time = lift_delivers (history a b x.journal) (history a b (journal xs)) told (refl, refl) s.in_time;
    ends = lift_ends (history a b x.journal) (history a b (journal xs)) told (refl, refl) s.ends;
    oldest = o;
  }

pub scenes_by_sound : ScenesBySound
scenes_by_sound every a b x i o =
    let r = scenes_show_runs a b x i in
    shown a b r.0 r.1 (every a b r.0 r.1 r.2) x r.3 o
