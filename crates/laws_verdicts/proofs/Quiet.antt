-- What is received was sent; and a vat that is down does nothing.
use Rattle.std.proofs.Common.{◌≡◌, ℕ, Bool, false, ◌||◌, List, [], ◌∷◌, ◌++◌, append_assoc, Option, None, Some, is_some, refl, sym, ap, subst, ◌∙◌}
use Rattle.std.specs.Prelude.{map}
use Rattle.rpc_msg.specs.declared.ids.Vat.{Vat}
use Rattle.rpc_msg.specs.declared.ids.ObjectId.{ObjectId}
use Rattle.rpc_msg.specs.declared.message.Message.{Message}
use Rattle.rpc_msg.specs.Vats.{other_vat}
use Rattle.rpc_journal.specs.declared.entry.JournalEntry.{JournalEntry}
use Rattle.rpc_journal.specs.declared.entry.JournalEntry.TheVariants as entry
use Rattle.rpc_machine.specs.declared.command.Effects.{Effects}
use Rattle.rpc_machine.specs.World.{World, inbox, tables_entry}
use Rattle.rpc_machine.specs.Journal.{Journaled, went_down, effect_entries, event_entries}
use Rattle.rpc_check.specs.Counts.{Sending}
use Rattle.rpc_check.specs.Breaches.{none_left, gets_nothing, acts_after_down, is_down, falls}
use Rattle.laws_verdicts.specs.Recorded.{GoesOn, Happened, CountsNoted, IsRecorded, nothing_yet}
use Rattle.laws_verdicts.specs.Good.{EachGotWasSent, NoneActsAfterDown}
use Rattle.laws_verdicts.proofs.Walking.{Never, Each, each-append, each_so, never_where, never-append, none_breaks, keeps_on}
use Rattle.laws_verdicts.proofs.Events.{IsOwn, Writes, Nothing, Obeys, Takes, event_writes, acts_of, acts_each, effects_each}
use Rattle.laws_verdicts.proofs.Saying.{down-append}
use Rattle.laws_verdicts.proofs.Links.{Fits, to_u, on_way, message_of, fits_on, fits_first}

-- ---- What is received

abbrev IsNoGot : JournalEntry → Type 0
IsNoGot (entry.Got v) = ⊥
IsNoGot e = Unit {0}

no_got : (h : List JournalEntry) (e : JournalEntry) → IsNoGot e → gets_nothing h e ≡ false
no_got h (entry.Got v) i = absurd i
no_got h e i = refl

own_no_got : (u : Vat) (e : JournalEntry) → IsOwn u e → IsNoGot e
own_no_got u (entry.Got v) i = i
own_no_got u e i = tt

effects_no_got : (u : Vat) (x : Effects) → Each IsNoGot (effect_entries u x)
effects_no_got u x = effects_each IsNoGot u x (λ m. tt) (λ d. tt) (λ y. tt) (λ n. tt)

one_left : (ss : List Sending) (m : Message) (ms : List Message) → map message_of ss ≡ m ∷ ms → none_left ss ≡ false
one_left [] m ms e = absurd (let bad : [] ≡ m ∷ ms = e in cc)
one_left (s ∷ ss) m ms e = refl

got_one : (h : List JournalEntry) (w : World) (u : Vat) (m : Message) (ms : List Message) → Fits h w → inbox w u ≡ m ∷ ms → gets_nothing h (entry.Got u) ≡ false
got_one h w u m ms f i =
    let l = to_u h w u f in
    ap none_left (on_way h (other_vat u) l.way l.is_link) ∙ one_left l.way m ms (l.are ∙ i)

pub gets_on : (h es : List JournalEntry) (w new : World) (u : Vat) → Fits h w → Writes w new u es → Never gets_nothing h es
gets_on h es w new u f (Nothing e n) = subst (λ (l : List JournalEntry). Never gets_nothing h l) (sym e) tt
gets_on h es w new u f (Obeys own c a told room s up o k e n) =
    subst (λ (l : List JournalEntry). Never gets_nothing h l) (sym e)
    (never_where gets_nothing IsNoGot no_got h (own ++ effect_entries u told) (each-append IsNoGot own (effect_entries u told) (each_so (IsOwn u) IsNoGot (own_no_got u) own o) (effects_no_got u told)))
gets_on h es w new u f (Takes m ms told room s up i k e n) =
    subst (λ (l : List JournalEntry). Never gets_nothing h l) (sym e)
    (got_one h w u m ms f i, never_where gets_nothing IsNoGot no_got (h ++ entry.Got u ∷ []) (effect_entries u told) (effects_no_got u told))

-- ---- A vat that is down

-- What a vat that is up writes, before it goes down.
abbrev Works : Vat → JournalEntry → Type 0
Works u (entry.Sent v m) = v ≡ u
Works u (entry.Delivered v d) = v ≡ u
Works u (entry.Answered v t o refs) = v ≡ u
Works u (entry.Ended v x) = v ≡ u
Works u (entry.Down v n) = ⊥
Works u e = Unit {0}

module _ (h : List JournalEntry) (u : Vat) (up : is_down h u ≡ false) where
  works_up : (e : JournalEntry) → Works u e → acts_after_down h e ≡ false
  works_up (entry.Sent v m) i = ap (is_down h) i ∙ up
  works_up (entry.Delivered v d) i = ap (is_down h) i ∙ up
  works_up (entry.Answered v t o refs) i = ap (is_down h) i ∙ up
  works_up (entry.Ended v x) i = ap (is_down h) i ∙ up
  works_up (entry.Down v n) i = absurd i
  works_up e i = refl

  falls_not : (e : JournalEntry) → Works u e → falls u e ≡ false
  falls_not (entry.Down v n) i = absurd i
  falls_not e i = refl

  up_on : (e : JournalEntry) → Works u e → is_down (h ++ e ∷ []) u ≡ false
  up_on e i = down-append h (e ∷ []) u ∙ ap (λ (b : Bool). b || is_down (e ∷ []) u) up ∙ ap (λ (b : Bool). b || false) (falls_not e i)

works_all : (h : List JournalEntry) (u : Vat) (es : List JournalEntry) → is_down h u ≡ false → Each (Works u) es → Never acts_after_down h es
works_all h u [] up k = tt
works_all h u (e ∷ es) up k = (works_up h u up e k.0, works_all (h ++ e ∷ []) u es (up_on h u up e k.0) k.1)

down_acts : (h : List JournalEntry) (u : Vat) (o : Option ℕ) → Never acts_after_down h (went_down u o)
down_acts h u None = tt
down_acts h u (Some n) = (refl, tt)

own_works : (u : Vat) (e : JournalEntry) → IsOwn u e → Works u e
own_works u (entry.Sent v m) i = absurd i
own_works u (entry.Delivered v d) i = absurd i
own_works u (entry.Answered v t o refs) i = i
own_works u (entry.Ended v x) i = absurd i
own_works u (entry.Down v n) i = i
own_works u e i = tt

-- Entries of its own, then those of effects.
all_acts : (h : List JournalEntry) (u : Vat) (own : List JournalEntry) (x : Effects) → is_down h u ≡ false → Each (Works u) own → Never acts_after_down h (own ++ effect_entries u x)
all_acts h u own x up o =
    subst (λ (l : List JournalEntry). Never acts_after_down h l) (append_assoc own (acts_of u x) (went_down u x.down))
    (never-append acts_after_down h (own ++ acts_of u x) (went_down u x.down)
    (works_all h u (own ++ acts_of u x) up (each-append (Works u) own (acts_of u x) o (acts_each (Works u) u x (λ m. refl) (λ d. refl) (λ y. refl))))
    (down_acts (h ++ (own ++ acts_of u x)) u x.down))

pub acts_on : (h es : List JournalEntry) (w new : World) (u : Vat) → Fits h w → Writes w new u es → Never acts_after_down h es
acts_on h es w new u f (Nothing e n) = subst (λ (l : List JournalEntry). Never acts_after_down h l) (sym e) tt
acts_on h es w new u f (Obeys own c a told room s up o k e n) =
    subst (λ (l : List JournalEntry). Never acts_after_down h l) (sym e) (all_acts h u own told (f.downs u ∙ ap is_some up) (each_so (IsOwn u) (Works u) (own_works u) own o))
acts_on h es w new u f (Takes m ms told room s up i k e n) =
    subst (λ (l : List JournalEntry). Never acts_after_down h l) (sym e) (all_acts h u (entry.Got u ∷ []) told (f.downs u ∙ ap is_some up) (tt, tt))

-- ---- Journals

pub record Quiet (j : Journaled) : Type 0 where
  pub fits : Fits j.journal j.world
  pub gets : Never gets_nothing [] j.journal
  pub acts : Never acts_after_down [] j.journal

quiet_on : (old new : Journaled) → Quiet old → GoesOn old new → Quiet new
quiet_on old new q (Happened x k e) =
    let es = event_entries old.journal x.event x.had_room x.answer in
    let r = event_writes old.world old.journal x.event x.answer x.had_room new.world k in record {
      fits = fits_on old new q.fits (Happened x k e);
      gets = subst (λ (l : List JournalEntry). Never gets_nothing [] l) (sym e) (never-append gets_nothing [] old.journal es q.gets (gets_on old.journal es old.world new.world r.0 q.fits r.1));
      acts = subst (λ (l : List JournalEntry). Never acts_after_down [] l) (sym e) (never-append acts_after_down [] old.journal es q.acts (acts_on old.journal es old.world new.world r.0 q.fits r.1));
    }
quiet_on old new q (CountsNoted e) =
    let es = tables_entry old.world ∷ [] in record {
      fits = fits_on old new q.fits (CountsNoted e);
      gets = subst (λ (j : Journaled). Never gets_nothing [] j.journal) (sym e) (never-append gets_nothing [] old.journal es q.gets (refl, tt));
      acts = subst (λ (j : Journaled). Never acts_after_down [] j.journal) (sym e) (never-append acts_after_down [] old.journal es q.acts (refl, tt));
    }

pub all_quiet : (a b : Option ObjectId) (w : Journaled) → IsRecorded a b w → Quiet w
all_quiet a b w k = keeps_on Quiet quiet_on w (nothing_yet a b) k (record { fits = fits_first a b; gets = tt; acts = tt })

pub each_got_was_sent : EachGotWasSent
each_got_was_sent a b w k = none_breaks gets_nothing w.journal (all_quiet a b w k).gets

pub none_acts : NoneActsAfterDown
none_acts a b w k = none_breaks acts_after_down w.journal (all_quiet a b w k).acts
