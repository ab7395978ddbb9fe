-- What is promised of every run is so of each world to which one leads.
use Rattle.std.proofs.Common.{◌≡◌, ℕ, Bool, true, false, Option, None, Some, is_some, List, [], ◌∷◌, ◌++◌, refl, sym, ap, subst, ◌∙◌, append_assoc}
use Rattle.rpc_msg.specs.declared.ids.Vat.{Vat}
use Rattle.rpc_msg.specs.declared.ids.Vat.TheVariants.{A, B}
use Rattle.rpc_msg.specs.declared.ids.ObjectId.{ObjectId}
use Rattle.rpc_msg.specs.Vats.{other_vat}
use Rattle.rpc_journal.specs.declared.entry.JournalEntry.{JournalEntry}
use Rattle.rpc_journal.specs.declared.entry.JournalEntry.TheVariants as entry
use Rattle.rpc_machine.specs.Laws.{IdleIsRight}
use Rattle.rpc_machine.specs.Claims.{AreNumbered, IsInOrder, IsQuietWhenDown, Falls, FallsAreKnown, FallsFor, ByShut, ForRoom, ForHeld, ByPeer, IsInTime, IsReached, IsSound, history, went_down_in}
use Rattle.rpc_journal.specs.History.{Ref}
use Rattle.rpc_journal.specs.Meaning.{History, Meaning, StandsFor}
use Rattle.rpc_machine.specs.World.{Happening, World, Run, new_world, shut_number, was_shut}
use Rattle.rpc_machine.specs.Journal.{event_entries, journal_from}
use Rattle.laws_runs.proofs.WhoIsDown.{SaysDown, says_more}
use Rattle.laws_runs.specs.MadeCalls.{CallsAreNumbered}
use Rattle.laws_runs.specs.Meanings.{InTimeIsToOne, MeaningsLast}
use Rattle.laws_runs.specs.Quiet.{EveryRunIsQuiet}
use Rattle.laws_runs.specs.SceneSessions.{CountsOfRuns}
use Rattle.laws_scenes.specs.InFull.{ArriveInFull, RunsArriveInFull}
use Rattle.laws_scenes.specs.Ordered.{RunsAreOrdered}
use Rattle.laws_scenes.specs.Refused.{AllFallsAreKnown, RunsRefuseNothing}
use Rattle.laws_sound.specs.Promised.{AreEachAtOne, events_of, GoesDown, GoesDownFor, ItsShut, WantOfRoom, TheLimit, TheOther, BootstrapsStay, DownsAreKnown, DownsAreTold, MeansForGood, WorldsAreSound, WorldsKeepPromises, history_of}
use Rattle.laws_sound.proofs.Kept as kept
use Rattle.laws_runs.proofs.FallsInRuns.{says_at_start}

-- ---- Why vats went down

no_shut : (shut : Bool) (o : Option ℕ) → shut ≡ is_some o → o ≡ None → shut ≡ false
no_shut shut o e f = e ∙ ap is_some f

by_shut : (shut : Bool) (o : Option ℕ) (n : ℕ) → shut ≡ is_some o → o ≡ Some n → shut ≡ true
by_shut shut o n e f = e ∙ ap is_some f

for : (shut : Bool) (o : Option ℕ) (before : List JournalEntry) (v : Vat) (n : ℕ) → shut ≡ is_some o → FallsFor o (events_of before) v n → GoesDownFor shut before v n
for shut o before v n e (ByShut f) = ItsShut (by_shut shut o n e f)
for shut o before v n e (ForRoom f g) = WantOfRoom (no_shut shut o e f) g
for shut o before v n e (ForHeld f g) = TheLimit (no_shut shut o e f) g
for shut o before v n e (ByPeer f g k) = TheOther (no_shut shut o e f) g (sym (kept.went_kept (other_vat v) before) ∙ k)

downs : (h : List JournalEntry) (shut : Vat → Bool) (a b : _) (xs : List Happening) → FallsAreKnown xs (history a b (events_of h)) → ((v : Vat) → shut v ≡ was_shut v xs) → DownsAreKnown shut h
downs h shut a b xs known which = record { each = each; shuts = λ v e. sym (kept.went_kept v h) ∙ known.shuts v (sym (which v) ∙ e) }
  where
    each : (v : Vat) (n : ℕ) (before behind : List JournalEntry) → h ≡ before ++ entry.Down v n ∷ behind → GoesDown (shut v) before v n
    each v n before behind e =
        let f : Falls xs (history a b (events_of before)) v n = known.falls (events_of before) (events_of behind) (entry.Down v n) (kept.split v n h before behind e) in
        record { once = sym (kept.went_kept v before) ∙ f.once; why = for (shut v) (shut_number v xs) before v n (which v) f.why }

-- ---- What references stand for, for good

-- What holds of each entry by those before it, holds of the entries up to any moment.
begun : (h : History) (before behind : List JournalEntry) → h.journal ≡ before ++ behind → IsInTime h → IsInTime (record h { journal = before })
begun h before behind e k first rest x f = k first (rest ++ behind) x (e ∙ ap (λ (l : List JournalEntry). l ++ behind) f ∙ append_assoc first (x ∷ rest) behind)

for_good : MeaningsLast → InTimeIsToOne → (h : History) → IsInTime h → MeansForGood h
for_good last one h k before behind e r x stands =
    let up : History = record h { journal = before } in
    subst (λ (l : List JournalEntry). StandsFor (record h { journal = l }) r x) (sym e) (last up behind (one up (begun h before behind e k)) r x stands)

-- ---- Who is down

says_run : (h : List JournalEntry) (w : World) (xs : List Happening) (new : World) → SaysDown w h → Run w xs new → SaysDown new (journal_from h xs)
says_run h w [] new d k = subst (λ (z : World). SaysDown z h) (sym k) d
says_run h w (x ∷ xs) new d k = says_run (h ++ event_entries h x.event x.had_room x.answer) k.0 xs new (says_more w k.0 x.event h x.answer x.had_room d k.1) k.2

told : (h : List JournalEntry) (w : World) (run : IsReached (record { world = w; journal = events_of h })) → DownsAreTold h w
told h w run v =
    sym (kept.went_kept v h) ∙ ap (went_down_in v) run.told
    ∙ says_run [] (new_world run.root_a run.root_b) run.happened w (says_at_start run.root_a run.root_b) run.ran v

-- ---- All of it

pub promised : MeaningsLast → InTimeIsToOne → BootstrapsStay → WorldsAreSound → RunsAreOrdered → CallsAreNumbered → RunsArriveInFull → EveryRunIsQuiet → CountsOfRuns → RunsRefuseNothing → AllFallsAreKnown → IdleIsRight → WorldsKeepPromises
promised last one stay sound ordered numbers full quiet counts refuses falls idle h shut w run which =
    let a = run.root_a in
    let b = run.root_b in
    let xs = run.happened in
    let i = run.told in
    let all = subst (λ (f : History). IsSound f xs w) (stay h w run) (sound h w run) in
    record {
      in_order = kept.in_order h (subst (λ (l : List JournalEntry). IsInOrder l) (sym i) (ordered a b xs w run.ran).in_order);
      numbered = kept.numbered h (subst (λ (l : List JournalEntry). AreNumbered l) (sym i) (numbers xs));
      at_one = kept.at_one h (subst (λ (l : List JournalEntry). AreEachAtOne l) (sym i) (ordered a b xs w run.ran).at_one);
      in_full = λ up. kept.in_full h w (subst (λ (l : List JournalEntry). ArriveInFull l w) (sym i) (full a b xs w run.ran up));
      means_one = all.means_one;
      lasting = for_good last one (history_of h w) all.in_time;
      to_one = all.to_one;
      none_lost = all.in_full;
      as_made = all.in_time;
      ends = all.ends;
      quiet = kept.quiet h (subst (λ (l : List JournalEntry). IsQuietWhenDown l) (sym i) (quiet a b xs w run.ran));
      counts = counts a b xs w run.ran;
      unrefused = refuses a b xs w run.ran;
      downs = downs h shut a b xs (subst (λ (l : List JournalEntry). FallsAreKnown xs (history a b l)) (sym i) (falls a b xs w run.ran)) which;
      told = told h w run;
      idle = idle w;
    }
