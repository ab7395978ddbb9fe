-- A run of two new vats leads to a world, and goes on by each event; so all is so that is promised, and the verdict is good.
use Rattle.std.proofs.Common.{◌≡◌, ℕ, Bool, false, ◌||◌, Option, None, Some, is_some, List, [], ◌∷◌, ◌++◌, length, refl, sym, ap, subst, ◌∙◌}
use Rattle.rpc_msg.specs.declared.ids.Vat.{Vat}
use Rattle.rpc_msg.specs.declared.ids.Vat.TheVariants.{A, B}
use Rattle.rpc_msg.specs.declared.ids.ObjectId.{ObjectId}
use Rattle.rpc_journal.specs.declared.entry.JournalEntry.{JournalEntry}
use Rattle.rpc_journal.specs.declared.entry.JournalEntry.TheVariants as entry
use Rattle.rpc_journal.specs.History.{Ref, made, or_rest}
use Rattle.rpc_machine.specs.declared.event.Event.{Event}
use Rattle.rpc_machine.specs.World.{core, Happening, shut_with, shut_number, was_shut, tables_entry}
use Rattle.rpc_machine.specs.Pending.{pending}
use Rattle.rpc_machine.specs.Journal.{event_entries, journal}
use Rattle.laws_runs.specs.MadeCalls.{NumbersItsCalls, RunsCount}
use Rattle.vat_world.specs.declared.answer.StepAnswer.{StepAnswer as Given}
use Rattle.vat_world.specs.World.{Seen, AllCame, shut, new_seen, Steps, Runs, IsReached, KeepsBootstraps, KeepsPromises}
use Rattle.laws_sound.specs.Promised.{EventsLeaveBootstraps, WorldsKeepPromises, events_of}
use Rattle.laws_sound.proofs.Kept.{made_kept}
use Rattle.laws_verdicts.specs.Recorded.{Happened, CountsNoted, NoMore}
use Rattle.laws_verdicts.specs.Good.{EveryHeadedVerdictIsGood, EveryVerdictIsGood, IsGood}
use Rattle.laws_verdicts.proofs.Runs.{go_on}
use Rattle.laws_verdicts.proofs.Reached.{run_more, told_more, told_noted}

shut_more : (v : Vat) (xs : List Happening) (x : Happening) → was_shut v (xs ++ x ∷ []) ≡ (was_shut v xs || is_some (shut_with v x.event x.answer))
shut_more v [] x = by (shut_with v x.event x.answer)
  where
    by : (o : Option ℕ) → is_some (or_rest o None) ≡ (false || is_some o)
    by None = refl
    by (Some n) = refl
shut_more v (y ∷ ys) x = by (shut_with v y.event y.answer) (shut_number v (ys ++ x ∷ [])) (shut_number v ys) (shut_more v ys x)
  where
    by : (o more rest : Option ℕ) → is_some more ≡ (is_some rest || is_some (shut_with v x.event x.answer)) → is_some (or_rest o more) ≡ (is_some (or_rest o rest) || is_some (shut_with v x.event x.answer))
    by None more rest e = e
    by (Some n) more rest e = refl

pub reached_new : (root_a root_b : Option ObjectId) → IsReached (new_seen root_a root_b)
reached_new root_a root_b = record { run = record { root_a = root_a; root_b = root_b; happened = []; ran = refl; told = refl }; recorded = NoMore; shuts = none }
  where
    none : (v : Vat) → shut (new_seen root_a root_b) v ≡ false
    none A = refl
    none B = refl

pub reached_more : (w : Seen) (e : Event) (result : Given) (new : Seen) → IsReached w → Steps w e result new → IsReached new
reached_more w e result new r h =
    let x : Happening = record { event = e; answer = h.answer; had_room = h.had_room } in
    let k = r.run in record {
      run = record {
        root_a = k.root_a;
        root_b = k.root_b;
        happened = k.happened ++ x ∷ [];
        ran = run_more _ k.happened w.world x new.world k.ran h.happens;
        told = ap events_of h.journal_is ∙ told_more w.journal (event_entries w.journal e h.had_room h.answer) k.happened x k.told refl;
      };
      recorded = go_on k.root_a k.root_b (record { world = w.world; journal = w.journal }) (record { world = new.world; journal = new.journal }) r.recorded (Happened x h.happens h.journal_is);
      shuts = λ v. h.shut_is v ∙ ap (λ (b : Bool). b || is_some (shut_with v e h.answer)) (r.shuts v) ∙ sym (shut_more v k.happened x);
    }

-- So what is promised of such worlds is so of it.
pub promised : (w : Seen) → WorldsKeepPromises → IsReached w → KeepsPromises w
promised w law r = law w.journal (shut w) w.world r.run r.shuts

-- And its verdict is good, also with a head in front.
pub good : (w : Seen) → EveryVerdictIsGood → IsReached w → IsGood w.journal
good w law r = law r.run.root_a r.run.root_b (record { world = w.world; journal = w.journal }) r.recorded

pub headed : (w : Seen) → EveryHeadedVerdictIsGood → IsReached w → IsGood (entry.Head ∷ w.journal)
headed w law r = law r.run.root_a r.run.root_b (record { world = w.world; journal = w.journal }) r.recorded

-- ---- Bootstrap objects

pub keeps : EventsLeaveBootstraps → (w : Seen) (e : Event) (result : Given) (new : Seen) → Steps w e result new → KeepsBootstraps w new
keeps law w e result new h v = law w.world (record { event = e; answer = h.answer; had_room = h.had_room }) new.world h.happens v

pub run_keeps : EventsLeaveBootstraps → (w : Seen) (es : List Event) (new : Seen) → Runs w es new → KeepsBootstraps w new
run_keeps law w [] new h v = ap (λ (z : Seen). (core z.world v).bootstrap) h
run_keeps law w (e ∷ es) new h v = run_keeps law h.0 es new h.3 v ∙ keeps law w e h.1 h.0 h.2 v

-- ---- Idle references

pub all_came : (w : Seen) (r : Ref) → KeepsPromises w → (pending w.world r ≡ []) → AllCame w r
all_came w r k none up v o stands = k.none_lost r v o stands up none

-- ---- Counts

shut_same : (w : Seen) (h : List JournalEntry) (v : Vat) → shut (record w { journal = h }) v ≡ shut w v
shut_same w h A = refl
shut_same w h B = refl

pub reached_noted : (w : Seen) → IsReached w → IsReached (record w { journal = w.journal ++ tables_entry w.world ∷ [] })
reached_noted w r = record {
  run = record {
    root_a = r.run.root_a;
    root_b = r.run.root_b;
    happened = r.run.happened;
    ran = r.run.ran;
    told = told_noted w.journal w.world ∙ r.run.told;
  };
  recorded =
      go_on r.run.root_a r.run.root_b (record { world = w.world; journal = w.journal }) (record { world = w.world; journal = w.journal ++ tables_entry w.world ∷ [] })
      r.recorded (CountsNoted refl);
  shuts = λ v. shut_same w (w.journal ++ tables_entry w.world ∷ []) v ∙ r.shuts v;
}

-- ---- The calls made through a reference

-- Each reference of a vat that is up counts the calls that the journal says were made through it.
pub counts_so : (w : Seen) (v : Vat) → RunsCount → IsReached w → (core w.world v).down ≡ None → NumbersItsCalls v (core w.world v) w.journal
counts_so w v law r up =
    let k : NumbersItsCalls v (core w.world v) (journal r.run.happened) = law r.run.root_a r.run.root_b r.run.happened w.world r.run.ran v up in
    let same : (q : Ref) → length (made (journal r.run.happened) q) ≡ length (made w.journal q) = λ q. ap (λ (l : List JournalEntry). length (made l q)) (sym r.run.told) ∙ ap length (made_kept w.journal q) in record {
      counts = λ q y e. k.counts q y e ∙ same (record { vat = v; number = q });
      stamps = λ c y e. k.stamps c y e ∙ ap (λ (i : ℕ). record { vat = v; reference = c.reference; index = i }) (same (record { vat = v; number = c.reference.0 }));
    }

-- ---- Events in order

pub runs_more : (w : Seen) (es : List Event) (mid : Seen) (e : Event) (result : Given) (new : Seen) → Runs w es mid → Steps mid e result new → Runs w (es ++ e ∷ []) new
runs_more w [] mid e result new ran h = (new, result, subst (λ (z : Seen). Steps z e result new) ran h, refl)
runs_more w (x ∷ es) mid e result new ran h = (ran.0, ran.1, ran.2, runs_more ran.0 es mid e result new ran.3 h)
