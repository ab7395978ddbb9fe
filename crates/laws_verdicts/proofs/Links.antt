-- What is on its way between the vats is what the journal shows as sent and not received; and a vat is down exactly where the journal
-- says so.
use Rattle.std.proofs.Common.{◌≡◌, ◌⊎◌, inl, inr, ℕ, ◌+◌, Bool, false, ◌||◌, List, [], ◌∷◌, ◌++◌, append-nil, append_assoc, Option, None, length, is_some, refl, sym, ap, subst, ◌∙◌, arith}
use Rattle.std.specs.Prelude.{map, drop}
use Rattle.std.proofs.lemmas.List.{length-append, map-append}
use Rattle.std.proofs.Math.Bool.{or-false}
use Rattle.std.proofs.Math.Seq.{drop-append_seam}
use Rattle.rpc_msg.specs.declared.ids.Vat.{Vat}
use Rattle.rpc_msg.specs.declared.ids.Vat.TheVariants.{A, B}
use Rattle.rpc_msg.specs.declared.ids.ObjectId.{ObjectId}
use Rattle.rpc_msg.specs.declared.message.Message.{Message}
use Rattle.rpc_msg.specs.Vats.{other_vat}
use Rattle.rpc_journal.specs.declared.entry.JournalEntry.{JournalEntry}
use Rattle.rpc_journal.specs.declared.entry.JournalEntry.TheVariants as entry
use Rattle.rpc_machine.specs.declared.command.Effects.{Effects}
use Rattle.rpc_machine.specs.State.{State}
use Rattle.rpc_machine.specs.World.{World, core, inbox, put_inbox, after, tables_entry}
use Rattle.rpc_machine.specs.Journal.{Journaled, effect_entries, event_entries}
use Rattle.laws_runs.proofs.QuietRuns.{TellsDown, commanded_tells, message_tells, acted}
use Rattle.rpc_check.specs.Counts.{Sending}
use Rattle.rpc_check.specs.Breaches.{sent, sendings, got, is_down, on_the_way}
use Rattle.laws_verdicts.specs.Recorded.{GoesOn, Happened, CountsNoted, nothing_yet}
use Rattle.laws_verdicts.proofs.Events.{AreOwn, Writes, Nothing, Obeys, Takes, event_writes}
use Rattle.laws_verdicts.proofs.Saying.{Says, after-append, behind, down-append, got-append, mute_says, obeys_mine, obeys_theirs, takes_mine, takes_theirs}

-- ---- One link

-- Of what the vat sent, the other received all before these.
pub record IsLink (h : List JournalEntry) (v : Vat) (way : List Sending) : Type 0 where
  pub gone : List Sending
  pub all : sendings h v ≡ gone ++ way
  pub count : got h (other_vat v) ≡ length gone

module _ (h es : List JournalEntry) (v : Vat) (ss ts : List Sending) (n m : ℕ) (d e : Bool) (mine : Says h es v ss n d) (theirs : Says h es (other_vat v) ts m e) where
  more : sendings (h ++ es) v ≡ sendings h v ++ ss
  more = after-append [] h es v ∙ ap (λ (l : List Sending). sendings h v ++ l) mine.sendings

  received : got (h ++ es) (other_vat v) ≡ got h (other_vat v) + m
  received = got-append h es (other_vat v) ∙ ap (λ (i : ℕ). got h (other_vat v) + i) theirs.got

  -- The other received nothing more.
  pub link_on : (way : List Sending) → m ≡ 0 → IsLink h v way → IsLink (h ++ es) v (way ++ ss)
  link_on way z l = record {
    gone = l.gone;
    all = more ∙ ap (λ (x : List Sending). x ++ ss) l.all ∙ append_assoc l.gone way ss;
    count = let a = received in let b = l.count in omega (arith, a, b, z);
  }

  -- It received one.
  pub link_taken : (s : Sending) (way : List Sending) → m ≡ 1 → IsLink h v (s ∷ way) → IsLink (h ++ es) v (way ++ ss)
  link_taken s way z l = record {
    gone = l.gone ++ s ∷ [];
    all = more ∙ ap (λ (x : List Sending). x ++ ss) (l.all ∙ sym (append_assoc l.gone (s ∷ []) way)) ∙ append_assoc (l.gone ++ s ∷ []) way ss;
    count = let a = received in let b = l.count in let c = length-append l.gone (s ∷ []) in omega (arith, a, b, c, z);
  }

-- So these are on their way.
pub on_way : (h : List JournalEntry) (v : Vat) (way : List Sending) → IsLink h v way → on_the_way h v ≡ way
on_way h v way l = ap (λ (n : ℕ). drop n (sendings h v)) l.count ∙ ap (λ (ss : List Sending). drop (length l.gone) ss) l.all ∙ drop-append_seam l.gone way

-- ---- Both links, and who is down

abbrev pub message_of : Sending → Message
message_of s = s.message

pub record Link (h : List JournalEntry) (v : Vat) (ms : List Message) : Type 0 where
  pub way : List Sending
  pub is_link : IsLink h v way
  pub are : map message_of way ≡ ms

pub record Fits (h : List JournalEntry) (w : World) : Type 0 where
  pub links : (v : Vat) → Link h v (inbox w (other_vat v))
  pub downs : (v : Vat) → is_down h v ≡ is_some (core w v).down

pub either : (u v : Vat) → (v ≡ u) ⊎ (v ≡ other_vat u)
either A A = inl refl
either A B = inr refl
either B A = inr refl
either B B = inl refl

pub back : (u : Vat) → other_vat (other_vat u) ≡ u
back A = refl
back B = refl

pub messages_behind : (before ms : List Message) → map message_of (map (behind before) ms) ≡ ms
messages_behind before [] = refl
messages_behind before (m ∷ ms) = ap (λ (l : List Message). m ∷ l) (messages_behind before ms)

-- Where the world's parts are after a step of u.
pub sent_to : (w : World) (u : Vat) (x : Effects) (s : State) → inbox (after w u x s) (other_vat u) ≡ inbox w (other_vat u) ++ x.sends
sent_to w A x s = refl
sent_to w B x s = refl

pub sent_to_itself : (w : World) (u : Vat) (x : Effects) (s : State) → inbox (after w u x s) u ≡ inbox w u
sent_to_itself w A x s = refl
sent_to_itself w B x s = refl

pub core_there : (w : World) (u : Vat) (x : Effects) (s : State) → core (after w u x s) (other_vat u) ≡ core w (other_vat u)
core_there w A x s = refl
core_there w B x s = refl

pub taken_here : (w : World) (u : Vat) (ms : List Message) → inbox (put_inbox w u ms) u ≡ ms
taken_here w A ms = refl
taken_here w B ms = refl

pub taken_there : (w : World) (u : Vat) (ms : List Message) → inbox (put_inbox w u ms) (other_vat u) ≡ inbox w (other_vat u)
taken_there w A ms = refl
taken_there w B ms = refl

pub taken_core : (w : World) (u : Vat) (ms : List Message) (v : Vat) → core (put_inbox w u ms) v ≡ core w v
taken_core w A ms A = refl
taken_core w A ms B = refl
taken_core w B ms A = refl
taken_core w B ms B = refl

-- The link from u, behind which comes what it sent.
goes_out : (h es : List JournalEntry) (u : Vat) (ms : List Message) (x : List Message) (n : ℕ) (d e : Bool) → Says h es u (map (behind (sent h (other_vat u))) x) n d → Says h es (other_vat u) [] 0 e → Link h u ms → Link (h ++ es) u (ms ++ x)
goes_out h es u ms x n d e mine theirs l = record {
  way = l.way ++ map (behind (sent h (other_vat u))) x;
  is_link = link_on h es u (map (behind (sent h (other_vat u))) x) [] n 0 d e mine theirs l.way refl l.is_link;
  are = map-append message_of l.way (map (behind (sent h (other_vat u))) x) ∙ ap (λ (k : List Message). k ++ map message_of (map (behind (sent h (other_vat u))) x)) l.are ∙ ap (λ (k : List Message). ms ++ k) (messages_behind (sent h (other_vat u)) x);
}

-- The link to u, of which nothing was taken, or the oldest.
abbrev back_so : (h es : List JournalEntry) (u : Vat) (ss : List Sending) (n : ℕ) (d : Bool) → Says h es u ss n d → Says h es (other_vat (other_vat u)) ss n d
back_so h es u ss n d k = subst (λ (v : Vat). Says h es v ss n d) (sym (back u)) k

stays : (h es : List JournalEntry) (u : Vat) (ms : List Message) (ss : List Sending) (d e : Bool) → Says h es u ss 0 d → Says h es (other_vat u) [] 0 e → Link h (other_vat u) ms → Link (h ++ es) (other_vat u) ms
stays h es u ms ss d e mine theirs l = record {
  way = l.way ++ [];
  is_link = link_on h es (other_vat u) [] ss 0 0 e d theirs (back_so h es u ss 0 d mine) l.way refl l.is_link;
  are = ap (map message_of) (append-nil l.way) ∙ l.are;
}

is_taken : (h es : List JournalEntry) (u : Vat) (m : Message) (ms : List Message) (ss : List Sending) (d e : Bool) → Says h es u ss 1 d → Says h es (other_vat u) [] 0 e → Link h (other_vat u) (m ∷ ms) → Link (h ++ es) (other_vat u) ms
is_taken h es u m ms ss d e mine theirs l = by l.way l.is_link l.are
  where
    by : (way : List Sending) → IsLink h (other_vat u) way → map message_of way ≡ m ∷ ms → Link (h ++ es) (other_vat u) ms
    by [] k q = absurd (let bad : [] ≡ m ∷ ms = q in cc)
    by (s ∷ way) k q = record {
      way = way ++ [];
      is_link = link_taken h es (other_vat u) [] ss 0 1 e d theirs (back_so h es u ss 1 d mine) s way refl k;
      are = ap (map message_of) (append-nil way) ∙ (let r : map message_of way ≡ ms = cc in r);
    }

pub to_u : (h : List JournalEntry) (w : World) (u : Vat) → Fits h w → Link h (other_vat u) (inbox w u)
to_u h w u f = subst (λ (y : Vat). Link h (other_vat u) (inbox w y)) (back u) (f.links (other_vat u))

-- ---- An event

of_both : (h : List JournalEntry) (w : World) (u : Vat) → Link h u (inbox w (other_vat u)) → Link h (other_vat u) (inbox w u) → ((v : Vat) → is_down h v ≡ is_some (core w v).down) → Fits h w
of_both h w u mine theirs downs = record { links = λ v. by v (either u v); downs = downs }
  where
    by : (v : Vat) → ((v ≡ u) ⊎ (v ≡ other_vat u)) → Link h v (inbox w (other_vat v))
    by v (inl e) = subst (λ (y : Vat). Link h y (inbox w (other_vat y))) (sym e) mine
    by v (inr e) = subst (λ (y : Vat). Link h y (inbox w (other_vat y))) (sym e) (subst (λ (y : Vat). Link h (other_vat u) (inbox w y)) (sym (back u)) theirs)

downs_on : (h es : List JournalEntry) (w new : World) (u : Vat) (told : Effects) (ss ts : List Sending) (n m : ℕ)
    → Fits h w → (core w u).down ≡ None → Says h es u ss n (is_some told.down) → Says h es (other_vat u) ts m false
    → is_some told.down ≡ is_some (core new u).down → core new (other_vat u) ≡ core w (other_vat u) → (v : Vat) → is_down (h ++ es) v ≡ is_some (core new v).down
downs_on h es w new u told ss ts n m f up mine theirs t o v = by v (either u v)
  where
    here : is_down (h ++ es) u ≡ is_some (core new u).down
    here = down-append h es u ∙ ap (λ (b : Bool). b || is_down es u) (f.downs u ∙ ap is_some up) ∙ mine.down ∙ t

    there : is_down (h ++ es) (other_vat u) ≡ is_some (core new (other_vat u)).down
    there = down-append h es (other_vat u) ∙ ap (λ (b : Bool). is_down h (other_vat u) || b) theirs.down ∙ or-false (is_down h (other_vat u)) ∙ f.downs (other_vat u) ∙ ap (λ (s : State). is_some s.down) (sym o)

    by : (v : Vat) → ((v ≡ u) ⊎ (v ≡ other_vat u)) → is_down (h ++ es) v ≡ is_some (core new v).down
    by v (inl e) = subst (λ (y : Vat). is_down (h ++ es) y ≡ is_some (core new y).down) (sym e) here
    by v (inr e) = subst (λ (y : Vat). is_down (h ++ es) y ≡ is_some (core new y).down) (sym e) there

obeyed : (h own : List JournalEntry) (w : World) (u : Vat) (told : Effects) (s : State) → Fits h w → (core w u).down ≡ None → AreOwn u own → TellsDown told s → Fits (h ++ (own ++ effect_entries u told)) (after w u told s)
obeyed h own w u told s f up o t =
    let es = own ++ effect_entries u told in
    let mine = obeys_mine u h own told o in
    let theirs = obeys_theirs u h own told o in
    of_both (h ++ es) (after w u told s) u
    (subst (λ (l : List Message). Link (h ++ es) u l) (sym (sent_to w u told s)) (goes_out h es u (inbox w (other_vat u)) told.sends 0 (is_some told.down) false mine theirs (f.links u)))
    (subst (λ (l : List Message). Link (h ++ es) (other_vat u) l) (sym (sent_to_itself w u told s)) (stays h es u (inbox w u) _ (is_some told.down) false mine theirs (to_u h w u f)))
    (downs_on h es w (after w u told s) u told _ [] 0 0 f up mine theirs (t ∙ ap (λ (y : State). is_some y.down) (sym (acted w u told s))) (core_there w u told s))

took : (h : List JournalEntry) (w : World) (u : Vat) (m : Message) (ms : List Message) (told : Effects) (s : State) → Fits h w → (core w u).down ≡ None → inbox w u ≡ m ∷ ms → TellsDown told s → Fits (h ++ (entry.Got u ∷ effect_entries u told)) (after (put_inbox w u ms) u told s)
took h w u m ms told s f up i t =
    let es = entry.Got u ∷ effect_entries u told in
    let mid = put_inbox w u ms in
    let mine = takes_mine u h told in
    let theirs = takes_theirs u h told in
    of_both (h ++ es) (after mid u told s) u
    (subst (λ (l : List Message). Link (h ++ es) u l) (sym (sent_to mid u told s ∙ ap (λ (l : List Message). l ++ told.sends) (taken_there w u ms))) (goes_out h es u (inbox w (other_vat u)) told.sends 1 (is_some told.down) false mine theirs (f.links u)))
    (subst (λ (l : List Message). Link (h ++ es) (other_vat u) l) (sym (sent_to_itself mid u told s ∙ taken_here w u ms)) (is_taken h es u m ms _ (is_some told.down) false mine theirs (subst (λ (l : List Message). Link h (other_vat u) l) i (to_u h w u f))))
    (downs_on h es w (after mid u told s) u told _ [] 1 0 f up mine theirs (t ∙ ap (λ (y : State). is_some y.down) (sym (acted mid u told s))) (core_there mid u told s ∙ taken_core w u ms (other_vat u)))

pub writes_fit : (h es : List JournalEntry) (w new : World) (u : Vat) → Fits h w → Writes w new u es → Fits (h ++ es) new
writes_fit h es w new u f (Nothing e n) = subst (λ (x : World). Fits (h ++ es) x) (sym n) (subst (λ (l : List JournalEntry). Fits l w) (sym (ap (λ (l : List JournalEntry). h ++ l) e ∙ append-nil h)) f)
writes_fit h es w new u f (Obeys own c a told room s up o k e n) = subst (λ (x : World). Fits (h ++ es) x) (sym n) (subst (λ (l : List JournalEntry). Fits (h ++ l) (after w u told s)) (sym e) (obeyed h own w u told s f up o (commanded_tells (core w u) c a told room s up k)))
writes_fit h es w new u f (Takes m ms told room s up i k e n) = subst (λ (x : World). Fits (h ++ es) x) (sym n) (subst (λ (l : List JournalEntry). Fits (h ++ l) (after (put_inbox w u ms) u told s)) (sym e) (took h w u m ms told s f up i (message_tells (core w u) m told room s up k)))

-- A noting of counts.
pub noted_fit : (h : List JournalEntry) (w : World) → Fits h w → Fits (h ++ tables_entry w ∷ []) w
noted_fit h w f = of_both (h ++ es) w A (stays h es B (inbox w B) [] false false (one B) (one A) (f.links A)) (stays h es A (inbox w A) [] false false (one A) (one B) (f.links B)) (λ v. down-append h es v ∙ or-false (is_down h v) ∙ f.downs v)
  where
    es : List JournalEntry
    es = tables_entry w ∷ []

    one : (v : Vat) → Says h es v [] 0 false
    one v = mute_says h es v (tt, tt)

pub fits_on : (old new : Journaled) → Fits old.journal old.world → GoesOn old new → Fits new.journal new.world
fits_on old new f (Happened x k e) =
    let r = event_writes old.world old.journal x.event x.answer x.had_room new.world k in
    subst (λ (l : List JournalEntry). Fits l new.world) (sym e) (writes_fit old.journal (event_entries old.journal x.event x.had_room x.answer) old.world new.world r.0 f r.1)
fits_on old new f (CountsNoted e) = subst (λ (j : Journaled). Fits j.journal j.world) (sym e) (noted_fit old.journal old.world f)

pub fits_first : (a b : Option ObjectId) → Fits [] (nothing_yet a b).world
fits_first a b = record { links = λ v. one v; downs = λ v. down v }
  where
    one : (v : Vat) → Link [] v (inbox (nothing_yet a b).world (other_vat v))
    one A = record { way = []; is_link = record { gone = []; all = refl; count = refl }; are = refl }
    one B = record { way = []; is_link = record { gone = []; all = refl; count = refl }; are = refl }

    down : (v : Vat) → is_down [] v ≡ is_some (core (nothing_yet a b).world v).down
    down A = refl
    down B = refl
