-- The counts that are noted while both vats are up agree with what the journal shows as sent and not received.
use Rattle.std.proofs.Common.{◌≡◌, ℕ, Bool, true, false, ◌&&◌, not, List, [], ◌∷◌, ◌++◌, append-nil, Option, None, Some, is_some, refl, sym, ap, subst, ◌∙◌, arith}
use Rattle.std.specs.Prelude.{map as list_map}
use Rattle.std.specs.FinMap as map
use Rattle.std.specs.Ordering.{nat_cmp}
use Rattle.rpc_msg.specs.declared.ids.Vat.{Vat}
use Rattle.rpc_msg.specs.declared.ids.Vat.TheVariants.{A, B}
use Rattle.rpc_msg.specs.declared.ids.ObjectId.{ObjectId}
use Rattle.rpc_msg.specs.declared.message.Message.{Message}
use Rattle.rpc_msg.specs.declared.message.Message.TheVariants as message
use Rattle.rpc_msg.specs.Vats.{other_vat}
use Rattle.rpc_journal.specs.declared.entry.JournalEntry.{JournalEntry}
use Rattle.rpc_journal.specs.declared.entry.JournalEntry.TheVariants as entry
use Rattle.rpc_machine.specs.declared.command.Command.{Command}
use Rattle.rpc_machine.specs.declared.command.Granted.{Granted}
use Rattle.rpc_machine.specs.declared.command.Effects.{Effects}
use Rattle.rpc_machine.specs.declared.command.Level.TheVariants.{One}
use Rattle.rpc_machine.specs.declared.entries.Question.{Question}
use Rattle.rpc_machine.specs.declared.entries.AnswerEntry.{AnswerEntry}
use Rattle.rpc_machine.specs.State.{State, start}
use Rattle.rpc_machine.specs.Progress.{begin, with_state}
use Rattle.rpc_machine.specs.Faults.{fault_of}
use Rattle.rpc_machine.specs.Steps.{Does, Handles}
use Rattle.rpc_machine.specs.Laws.{SendsRaiseCounts}
use Rattle.rpc_machine.specs.Queries.{counts_of}
use Rattle.rpc_machine.specs.Claims.{BothUp}
use Rattle.rpc_machine.specs.World.{World, core, inbox, put_inbox, after, tables_entry}
use Rattle.rpc_machine.specs.Journal.{Journaled, effect_entries, event_entries}
use Rattle.laws_acts.specs.Acts.{StepsAreActs}
use Rattle.laws_acts.specs.Sent.{Noted, messages, all_sent, sent_at_once}
use Rattle.laws_runs.specs.Agreed.{Agree}
use Rattle.laws_runs.specs.Views.{IsReady, Moves, asker_of, answerer_of}
use Rattle.laws_runs.proofs.Kept.{messages-append}
use Rattle.laws_runs.proofs.Outcomes.{IsFall, not_down, CommandKind, WasRefused, WasDone, GaveUp, WasShut, HadNoRoom, command_kind, MessageKind, WasHandled, Fell, message_kind}
use Rattle.laws_runs.proofs.QuietRuns.{acted}
use Rattle.laws_runs.proofs.Acted as acts
use Rattle.laws_runs.proofs.Heard.{consumes}
use Rattle.laws_runs.proofs.Agreeing as agreeing
use Rattle.rpc_check.specs.Counts.{count_of, Sending, gives, releases, of_each}
use Rattle.rpc_check.specs.Breaches.{sent, is_down, on_the_way, counted_on_the_way, agrees, miscounts}
use Rattle.rpc_check.proofs.Counting.{count_of-append}
use Rattle.rpc_check.proofs.Evens.{same_from_everywhere}
use Rattle.laws_verdicts.specs.Recorded.{GoesOn, Happened, CountsNoted, IsRecorded, nothing_yet}
use Rattle.laws_verdicts.specs.Good.{NotedCountsAgree}
use Rattle.laws_verdicts.proofs.Walking.{Never, Each, each-append, each_so, never_where, never-append, none_breaks, keeps_on}
use Rattle.laws_verdicts.proofs.Events.{IsOwn, AreOwn, Writes, Nothing, Obeys, Takes, event_writes, effects_each}
use Rattle.laws_verdicts.proofs.Saying.{Says, behind, mute_says, obeys_mine, obeys_theirs, takes_mine, takes_theirs}
use Rattle.laws_verdicts.proofs.Links.{Fits, fits_on, fits_first, on_way, back, core_there, taken_here, taken_there, taken_core}
use Rattle.laws_verdicts.proofs.LastSaid.{AskedBy, AnsweredBy}
use Rattle.laws_verdicts.proofs.Matched.{Whole, turned, moved, received, gives_so, releases_so}
use Rattle.laws_verdicts.proofs.Tabled.{exports_said, imports_said}

-- ---- Two vats in a world

pub record At (h : List JournalEntry) (w : World) (u : Vat) : Type 0 where
  pub to_s : List Noted
  pub to_t : List Noted
  pub is_s : inbox w u ≡ messages to_s
  pub is_t : inbox w (other_vat u) ≡ messages to_t
  pub whole : Whole h u (core w u) to_s (core w (other_vat u)) to_t

turned_at : (h : List JournalEntry) (w : World) (u : Vat) → At h w u → At h w (other_vat u)
turned_at h w u k = record {
  to_s = k.to_t;
  to_t = k.to_s;
  is_s = k.is_t;
  is_t = subst (λ (v : Vat). inbox w v ≡ messages k.to_s) (sym (back u)) k.is_s;
  whole = subst (λ (v : Vat). Whole h (other_vat u) (core w (other_vat u)) k.to_t (core w v) k.to_s) (sym (back u)) (turned h u (core w u) (core w (other_vat u)) k.to_s k.to_t k.whole);
}

pub at_each : (h : List JournalEntry) (w : World) (v : Vat) → At h w A → At h w v
at_each h w A k = k
at_each h w B k = turned_at h w A k

at_first : (h : List JournalEntry) (w : World) (v : Vat) → At h w v → At h w A
at_first h w A k = k
at_first h w B k = turned_at h w B k

landed : (h : List JournalEntry) (w : World) (u : Vat) (told : Effects) (s : State) (to_s to_t : List Noted) → inbox w u ≡ messages to_s → inbox w (other_vat u) ++ told.sends ≡ messages to_t → Whole h u s to_s (core w (other_vat u)) to_t → At h (after w u told s) u
landed h w A told s to_s to_t f g k = record { to_s = to_s; to_t = to_t; is_s = f; is_t = g; whole = k }
landed h w B told s to_s to_t f g k = record { to_s = to_s; to_t = to_t; is_s = f; is_t = g; whole = k }

out_too : (to_t sent : List Noted) (ms told : List Message) → ms ≡ messages to_t → told ≡ messages sent → ms ++ told ≡ messages (to_t ++ sent)
out_too to_t sent ms told f g = ap (λ (l : List Message). l ++ told) f ∙ ap (λ (l : List Message). messages to_t ++ l) g ∙ sym (messages-append to_t sent)

-- ---- Nothing is done

no_moves : (s : State) → IsReady s → Moves s [] s
no_moves s r = record { useful = tt; ready = r; asks = λ q. refl; returns = λ q. refl }

still : (h es : List JournalEntry) (u : Vat) (s t : State) (to_s to_t : List Noted) (d e : Bool) → Says h es u [] 0 d → Says h es (other_vat u) [] 0 e → Whole h u s to_s t to_t → Whole (h ++ es) u s to_s t to_t
still h es u s t to_s to_t d e mine theirs k =
    subst (λ (l : List Noted). Whole (h ++ es) u s to_s t l) (append-nil to_t)
    (moved h es u 0 d e [] [] refl mine theirs s s t to_s to_t refl k (no_moves s k.agree.stand.ready_s) (subst (λ (l : List Noted). Agree s to_s t l) (sym (append-nil to_t)) k.agree))

-- ---- What is done

module _ (law : StepsAreActs) (rise : SendsRaiseCounts) where
  done : (h es : List JournalEntry) (w : World) (u : Vat) (c : Command) (g : Granted) (told : Effects) (s : State) (d e : Bool) → At h w u → Does (core w u) c g told s
      → Says h es u (list_map (behind (sent h (other_vat u))) told.sends) 0 d → Says h es (other_vat u) [] 0 e → At (h ++ es) (after w u told s) u
  done h es w u c g told s d e k does mine theirs =
      let a = law.commands (core w u) c g told s does in
      let t = core w (other_vat u) in
      let r = agreeing.commanded rise (core w u) t s k.to_s k.to_t c g told k.whole.agree does a in
      let did = acts.acts a.0 (begin (core w u)) k.whole.agree.stand.ready_s a.1 in
      let sends = all_sent a.1 in
      landed (h ++ es) w u told s k.to_s (k.to_t ++ sends) k.is_s (out_too k.to_t sends (inbox w (other_vat u)) told.sends k.is_t r.0)
      (moved h es u 0 d e sends told.sends r.0 mine theirs (core w u) s t k.to_s k.to_t refl k.whole (subst (λ (y : State). Moves (core w u) sends y) (sym a.3) did.moves) r.1)

  took : (h es : List JournalEntry) (w : World) (u : Vat) (n : Noted) (rest : List Noted) (ms : List Message) (told : Effects) (s : State) (d e : Bool) (to_t : List Noted)
      → ms ≡ messages rest → inbox w (other_vat u) ≡ messages to_t → Whole h u (core w u) (n ∷ rest) (core w (other_vat u)) to_t
      → fault_of (core w u) (message.Plain n.message) ≡ None → Handles (core w u) (message.Plain n.message) told s
      → Says h es u (list_map (behind (sent h (other_vat u))) told.sends) 1 d → Says h es (other_vat u) [] 0 e → At (h ++ es) (after (put_inbox w u ms) u told s) u
  took h es w u n rest ms told s d e to_t is_s is_t k free does mine theirs =
      let from = core w u in
      let t = core w (other_vat u) in
      let a = law.messages from n.message told s k.agree.stand.ready_s.level free does in
      let first = a.0 in
      let list = a.2 in
      let now = sent_at_once (begin from) first n.message a.1 in
      let sends = now ++ all_sent list.1 in
      let r = agreeing.handled rise from t s n rest to_t told k.agree free does first a.1 list in
      let y = consumes n.message (begin from) first k.agree.stand.ready_s k.agree.stand.useful_s.0 a.1 in
      let did = acts.then (with_state (begin from) y.mid) first list.0 now (all_sent list.1) y.did (acts.acts list.0 first y.did.moves.ready list.1) in
      landed (h ++ es) (put_inbox w u ms) u told s rest (to_t ++ sends) (taken_here w u ms ∙ is_s)
      (ap (λ (l : List Message). l ++ told.sends) (taken_there w u ms) ∙ out_too to_t sends (inbox w (other_vat u)) told.sends is_t r.0)
      (subst (λ (y : State). Whole (h ++ es) u s rest y (to_t ++ sends)) (sym (taken_core w u ms (other_vat u)))
      (received h es u 1 d e sends told.sends r.0 mine theirs from y.mid s t n rest to_t refl k y.gets (subst (λ (z : State). Moves y.mid sends z) (sym list.3) did.moves) r.1))

  -- The oldest is the first of the notes.
  took_oldest : (h es : List JournalEntry) (w : World) (u : Vat) (m : Message) (ms : List Message) (told : Effects) (s : State) (d e : Bool) → At h w u → inbox w u ≡ m ∷ ms → fault_of (core w u) m ≡ None → Handles (core w u) m told s
      → Says h es u (list_map (behind (sent h (other_vat u))) told.sends) 1 d → Says h es (other_vat u) [] 0 e → At (h ++ es) (after (put_inbox w u ms) u told s) u
  took_oldest h es w u m ms told s d e k i free does mine theirs = by k.to_s (sym i ∙ k.is_s) k.whole
    where
      by : (to_s : List Noted) → m ∷ ms ≡ messages to_s → Whole h u (core w u) to_s (core w (other_vat u)) k.to_t → At (h ++ es) (after (put_inbox w u ms) u told s) u
      by [] q x = absurd (let bad : m ∷ ms ≡ [] = q in cc)
      by (n ∷ rest) q x =
          let first : m ≡ message.Plain n.message = cc in
          let left : ms ≡ messages rest = cc in
          took h es w u n rest ms told s d e k.to_t left k.is_t x (subst (λ (y : Message). fault_of (core w u) y ≡ None) first free) (subst (λ (y : Message). Handles (core w u) y told s) first does) mine theirs

  -- ---- An event that leaves both vats up

  fell : (w : World) (u : Vat) (told : Effects) (s : State) (new : World) → new ≡ after w u told s → (core new u).down ≡ None → IsFall told s → ⊥
  fell w u told s new e up f = not_down s.down (ap (λ (y : State). y.down) (sym (acted w u told s)) ∙ ap (λ (y : World). (core y u).down) (sym e) ∙ up) f.down

  obeys_at : (h own : List JournalEntry) (w new : World) (u : Vat) (c : Command) (a : _) (told : Effects) (room : Bool) (s : State) → At h w u → AreOwn u own → CommandKind (core w u) c a told room s → new ≡ after w u told s → (core new u).down ≡ None → At (h ++ (own ++ effect_entries u told)) (after w u told s) u
  obeys_at h own w new u c a told room s k o (WasRefused r i j l) e up =
      let none : told.sends ≡ [] = ap (λ (y : Effects). y.sends) j in
      let mine = obeys_mine u h own told o in
      let es = own ++ effect_entries u told in
      landed (h ++ es) w u told s k.to_s k.to_t k.is_s (ap (λ (l : List Message). inbox w (other_vat u) ++ l) none ∙ append-nil (inbox w (other_vat u)) ∙ k.is_t)
      (subst (λ (y : State). Whole (h ++ es) u y k.to_s (core w (other_vat u)) k.to_t) (sym l)
      (still h es u (core w u) (core w (other_vat u)) k.to_s k.to_t (is_some told.down) false (subst (λ (ms : List Message). Says h es u (list_map (behind (sent h (other_vat u))) ms) 0 (is_some told.down)) none mine) (obeys_theirs u h own told o) k.whole))
  obeys_at h own w new u c a told room s k o (WasDone g f i j does l n) e up = done h (own ++ effect_entries u told) w u c g told s (is_some told.down) false k does (obeys_mine u h own told o) (obeys_theirs u h own told o)
  obeys_at h own w new u c a told room s k o (GaveUp f i j l n) e up = absurd (fell w u told s new e up n)
  obeys_at h own w new u c a told room s k o (WasShut n i j f) e up = absurd (fell w u told s new e up f)
  obeys_at h own w new u c a told room s k o (HadNoRoom i f) e up = absurd (fell w u told s new e up f)

  takes_at : (h : List JournalEntry) (w new : World) (u : Vat) (m : Message) (ms : List Message) (told : Effects) (s : State) → At h w u → inbox w u ≡ m ∷ ms → MessageKind (core w u) m told s → new ≡ after (put_inbox w u ms) u told s → (core new u).down ≡ None → At (h ++ (entry.Got u ∷ effect_entries u told)) (after (put_inbox w u ms) u told s) u
  takes_at h w new u m ms told s k i (WasHandled f does l n) e up = took_oldest h (entry.Got u ∷ effect_entries u told) w u m ms told s (is_some told.down) false k i f does (takes_mine u h told) (takes_theirs u h told)
  takes_at h w new u m ms told s k i (Fell f) e up = absurd (fell (put_inbox w u ms) u told s new e up f)

  both : (w : World) (u : Vat) → (core w u).down ≡ None → (core w (other_vat u)).down ≡ None → BothUp w
  both w A f g = (f, g)
  both w B f g = (g, f)

  up_at : (w : World) (v : Vat) → BothUp w → (core w v).down ≡ None
  up_at w A b = b.0
  up_at w B b = b.1

  writes_at : (h es : List JournalEntry) (w new : World) (u : Vat) → Writes w new u es → BothUp new → (BothUp w → At h w A) → At (h ++ es) new A
  writes_at h es w new u (Nothing e n) up k =
      subst (λ (y : World). At (h ++ es) y A) (sym n)
      (subst (λ (l : List JournalEntry). At l w A) (sym (ap (λ (l : List JournalEntry). h ++ l) e ∙ append-nil h)) (k (subst BothUp n up)))
  writes_at h es w new u (Obeys own c a told room s here o told_so e n) up k =
      let there : (core w (other_vat u)).down ≡ None = ap (λ (y : State). y.down) (sym (core_there w u told s)) ∙ ap (λ (y : World). (core y (other_vat u)).down) (sym n) ∙ up_at new (other_vat u) up in
      let now = at_each h w u (k (both w u here there)) in
      at_first (h ++ es) new u
      (subst (λ (y : World). At (h ++ es) y u) (sym n)
      (subst (λ (l : List JournalEntry). At (h ++ l) (after w u told s) u) (sym e) (obeys_at h own w new u c a told room s now o (command_kind (core w u) c a told room s here told_so) n (up_at new u up))))
  writes_at h es w new u (Takes m ms told room s here i told_so e n) up k =
      let mid = put_inbox w u ms in
      let there : (core w (other_vat u)).down ≡ None = ap (λ (y : State). y.down) (sym (core_there mid u told s ∙ taken_core w u ms (other_vat u))) ∙ ap (λ (y : World). (core y (other_vat u)).down) (sym n) ∙ up_at new (other_vat u) up in
      let now = at_each h w u (k (both w u here there)) in
      at_first (h ++ es) new u
      (subst (λ (y : World). At (h ++ es) y u) (sym n)
      (subst (λ (l : List JournalEntry). At (h ++ l) (after mid u told s) u) (sym e) (takes_at h w new u m ms told s now i (message_kind (core w u) m told room s here told_so) n (up_at new u up))))

-- ---- A noting

noted_at : (h : List JournalEntry) (w : World) → At h w A → At (h ++ tables_entry w ∷ []) w A
noted_at h w k = record {
  to_s = k.to_s;
  to_t = k.to_t;
  is_s = k.is_s;
  is_t = k.is_t;
  whole = still h (tables_entry w ∷ []) A w.a.core w.b.core k.to_s k.to_t false false (mute_says h (tables_entry w ∷ []) A (tt, tt)) (mute_says h (tables_entry w ∷ []) B (tt, tt)) k.whole;
}

agree_at : (h : List JournalEntry) (w : World) (v : Vat) → At h w v → agrees h v (counts_of (core w v)).exports (counts_of (core w (other_vat v))).imports ≡ true
agree_at h w v k = same_from_everywhere (counts_of s).exports ((counts_of t).imports ++ counted_on_the_way h v) each
  where
    s : State
    s = core w v

    t : State
    t = core w (other_vat v)

    each : (e : ℕ) → count_of e (counts_of (core w v)).exports ≡ count_of e ((counts_of (core w (other_vat v))).imports ++ counted_on_the_way h v)
    each e =
        let a = exports_said e (core w v) in
        let b = imports_said e (core w (other_vat v)) in
        let c = count_of-append e (counts_of (core w (other_vat v))).imports (counted_on_the_way h v) in
        let d = count_of-append e (of_each gives (on_the_way h v)) (of_each releases (on_the_way h (other_vat v))) in
        let f : count_of e (of_each gives (on_the_way h v)) ≡ _ = ap (λ (l : List Sending). count_of e (of_each gives l)) (on_way h v k.whole.way_t k.whole.link_t) ∙ gives_so e k.whole.way_t k.to_t k.whole.match_t in
        let g : count_of e (of_each releases (on_the_way h (other_vat v))) ≡ _ = ap (λ (l : List Sending). count_of e (of_each releases l)) (on_way h (other_vat v) k.whole.way_s k.whole.link_s) ∙ releases_so e k.whole.way_s k.to_s k.whole.match_s in
        let i = k.whole.agree.of_s e in
        omega (arith, a, b, c, d, f, g, i)

none_down : (o : Option ℕ) → is_some o ≡ false → o ≡ None
none_down None e = refl
none_down (Some n) e = cc

counts_noted : (h : List JournalEntry) (w : World) → Fits h w → (BothUp w → At h w A) → miscounts h (tables_entry w) ≡ false
counts_noted h w f k = by (is_down h A) (is_down h B) refl refl
  where
    by : (x y : Bool) → is_down h A ≡ x → is_down h B ≡ y → (not x && not y && not (agrees h A (counts_of w.a.core).exports (counts_of w.b.core).imports && agrees h B (counts_of w.b.core).exports (counts_of w.a.core).imports)) ≡ false
    by true y p q = refl
    by false true p q = refl
    by false false p q =
        let at = k (none_down w.a.core.down (sym (f.downs A) ∙ p), none_down w.b.core.down (sym (f.downs B) ∙ q)) in
        ap (λ (x : Bool). not (x && agrees h B (counts_of w.b.core).exports (counts_of w.a.core).imports)) (agree_at h w A at) ∙ ap not (agree_at h w B (at_each h w B at))

-- ---- Journals

abbrev IsNoNote : JournalEntry → Type 0
IsNoNote (entry.Tables a b) = ⊥
IsNoNote e = Unit {0}

no_note : (h : List JournalEntry) (e : JournalEntry) → IsNoNote e → miscounts h e ≡ false
no_note h (entry.Tables a b) i = absurd i
no_note h e i = refl

own_no_note : (u : Vat) (e : JournalEntry) → IsOwn u e → IsNoNote e
own_no_note u (entry.Tables a b) i = i
own_no_note u e i = tt

effects_no_note : (u : Vat) (x : Effects) → Each IsNoNote (effect_entries u x)
effects_no_note u x = effects_each IsNoNote u x (λ m. tt) (λ d. tt) (λ y. tt) (λ n. tt)

no_notes : (w new : World) (u : Vat) (es : List JournalEntry) → Writes w new u es → Each IsNoNote es
no_notes w new u es (Nothing e n) = subst (Each IsNoNote) (sym e) tt
no_notes w new u es (Obeys own c a told room s up o k e n) = subst (Each IsNoNote) (sym e) (each-append IsNoNote own (effect_entries u told) (each_so (IsOwn u) IsNoNote (own_no_note u) own o) (effects_no_note u told))
no_notes w new u es (Takes m ms told room s up i k e n) = subst (Each IsNoNote) (sym e) (tt, effects_no_note u told)

record Counted (j : Journaled) : Type 0 where
  fits : Fits j.journal j.world
  at : BothUp j.world → At j.journal j.world A
  counts : Never miscounts [] j.journal

module _ (law : StepsAreActs) (rise : SendsRaiseCounts) where
  counted_on : (old new : Journaled) → Counted old → GoesOn old new → Counted new
  counted_on old new c (Happened x h e) =
      let es = event_entries old.journal x.event x.had_room x.answer in
      let r = event_writes old.world old.journal x.event x.answer x.had_room new.world h in record {
        fits = fits_on old new c.fits (Happened x h e);
        at = λ up. subst (λ (l : List JournalEntry). At l new.world A) (sym e) (writes_at law rise old.journal es old.world new.world r.0 r.1 up c.at);
        counts = subst (λ (l : List JournalEntry). Never miscounts [] l) (sym e) (never-append miscounts [] old.journal es c.counts (never_where miscounts IsNoNote no_note old.journal es (no_notes old.world new.world r.0 es r.1)));
      }
  counted_on old new c (CountsNoted e) = subst Counted (sym e) (record {
    fits = subst (λ (j : Journaled). Fits j.journal j.world) e (fits_on old new c.fits (CountsNoted e));
    at = λ up. noted_at old.journal old.world (c.at up);
    counts = never-append miscounts [] old.journal (tables_entry old.world ∷ []) c.counts (counts_noted old.journal old.world c.fits c.at, tt);
  })

  first_whole : (a b : Option ObjectId) → Whole [] A (start A One a) [] (start B One b) []
  first_whole a b = record {
    agree = agreeing.starts a b;
    asked_s = λ q. not_asked A a q;
    asked_t = λ q. not_asked B b q;
    answered_s = λ q. not_open A a q;
    answered_t = λ q. not_open B b q;
    way_s = [];
    link_s = record { gone = []; all = refl; count = refl };
    match_s = tt;
    way_t = [];
    link_t = record { gone = []; all = refl; count = refl };
    match_t = tt;
  }
    where
      not_asked : (v : Vat) (o : Option ObjectId) (q : ℕ) → AskedBy (asker_of (map.get (start v One o).questions q)) []
      not_asked v o q = subst (λ (x : Option Question). AskedBy (asker_of x) []) (sym (map.get-empty nat_cmp q)) tt

      not_open : (v : Vat) (o : Option ObjectId) (q : ℕ) → AnsweredBy (answerer_of (map.get (start v One o).answers q)) []
      not_open v o q = subst (λ (x : Option AnswerEntry). AnsweredBy (answerer_of x) []) (sym (map.get-empty nat_cmp q)) tt

  counted_first : (a b : Option ObjectId) → Counted (nothing_yet a b)
  counted_first a b = record { fits = fits_first a b; at = λ up. record { to_s = []; to_t = []; is_s = refl; is_t = refl; whole = first_whole a b }; counts = tt }

  pub never_miscounted : (a b : Option ObjectId) (w : Journaled) → IsRecorded a b w → Never miscounts [] w.journal
  never_miscounted a b w k = (keeps_on Counted counted_on w (nothing_yet a b) k (counted_first a b)).counts

  pub noted_counts : NotedCountsAgree
  noted_counts a b w k = none_breaks miscounts w.journal (never_miscounted a b w k)
