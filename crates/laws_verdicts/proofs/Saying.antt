-- What the check reads of entries, with more of them behind.
use Rattle.std.proofs.Common.{◌≡◌, ℕ, ◌+◌, Bool, false, ◌||◌, List, [], ◌∷◌, ◌++◌, append-nil, append_assoc, Option, None, Some, length, filter, is_some, refl, sym, ap, ◌∙◌, arith}
use Rattle.std.specs.Prelude.{map}
use Rattle.std.proofs.lemmas.List.{length-append}
use Rattle.std.proofs.lemmas.List.Elements.{filter-append}
use Rattle.std.proofs.lemmas.List.Folds.{list_any-append}
use Rattle.rpc_msg.specs.declared.ids.Vat.{Vat}
use Rattle.rpc_msg.specs.declared.ids.Vat.TheVariants.{A, B}
use Rattle.rpc_msg.specs.declared.message.Message.{Message}
use Rattle.rpc_msg.specs.Vats.{other_vat}
use Rattle.rpc_journal.specs.declared.entry.JournalEntry.{JournalEntry}
use Rattle.rpc_journal.specs.declared.entry.JournalEntry.TheVariants as entry
use Rattle.rpc_journal.specs.History.{in_front}
use Rattle.rpc_machine.specs.declared.command.Effects.{Effects}
use Rattle.rpc_machine.specs.Journal.{went_down, effect_entries}
use Rattle.laws_runs.proofs.Reading.{all_that-append}
use Rattle.rpc_check.specs.Counts.{Sending}
use Rattle.rpc_check.specs.Breaches.{sent_one, sent, sending_one, sendings_after, is_got, got, falls, is_down}
use Rattle.rpc_check.proofs.Growing.{in_front-append}
use Rattle.laws_verdicts.proofs.Walking.{Each, each_map, each_so}
use Rattle.laws_verdicts.proofs.Events.{IsOwn, AreOwn}

-- ---- More entries

pub sent-append : (h es : List JournalEntry) (v : Vat) → sent (h ++ es) v ≡ sent h v ++ sent es v
sent-append h es v = all_that-append (sent_one v) h es

pub got-append : (h es : List JournalEntry) (v : Vat) → got (h ++ es) v ≡ got h v + got es v
got-append h es v = ap length (filter-append (is_got v) h es) ∙ length-append (filter (is_got v) h) (filter (is_got v) es)

pub down-append : (h es : List JournalEntry) (v : Vat) → is_down (h ++ es) v ≡ (is_down h v || is_down es v)
down-append h es v = list_any-append (falls v) h es

pub after-append : (b xs ys : List JournalEntry) (v : Vat) → sendings_after b (xs ++ ys) v ≡ sendings_after b xs v ++ sendings_after (b ++ xs) ys v
after-append b [] ys v = ap (λ (l : List JournalEntry). sendings_after l ys v) (sym (append-nil b))
after-append b (x ∷ xs) ys v =
    ap (in_front (sending_one v b x)) (after-append (b ++ x ∷ []) xs ys v)
    ∙ in_front-append (sending_one v b x) (sendings_after (b ++ x ∷ []) xs v) (sendings_after ((b ++ x ∷ []) ++ xs) ys v)
    ∙ ap (λ (l : List JournalEntry). sendings_after b (x ∷ xs) v ++ sendings_after l ys v) (append_assoc b (x ∷ []) xs)

-- ---- Entries that say nothing of messages, nor of going down

abbrev pub IsMute : JournalEntry → Type 0
IsMute (entry.Sent v m) = ⊥
IsMute (entry.Got v) = ⊥
IsMute (entry.Down v n) = ⊥
IsMute e = Unit {0}

abbrev pub AreMute : List JournalEntry → Type 0
AreMute es = Each IsMute es

-- What the check reads of a list of entries behind those: what a vat sent, with what the other had sent; how many it received; and
-- whether it went down.
pub record Says (b es : List JournalEntry) (v : Vat) (ss : List Sending) (n : ℕ) (d : Bool) : Type 0 where
  pub sendings : sendings_after b es v ≡ ss
  pub got : got es v ≡ n
  pub down : is_down es v ≡ d

pub both : (b xs ys : List JournalEntry) (v : Vat) (ss ts : List Sending) (m n : ℕ) (d e : Bool) → Says b xs v ss m d → Says (b ++ xs) ys v ts n e → Says b (xs ++ ys) v (ss ++ ts) (m + n) (d || e)
both b xs ys v ss ts m n d e h k = record {
  sendings = after-append b xs ys v ∙ ap (λ (l : List Sending). l ++ sendings_after (b ++ xs) ys v) h.sendings ∙ ap (λ (l : List Sending). ss ++ l) k.sendings;
  got = got-append xs ys v ∙ ap (λ (i : ℕ). i + got ys v) h.got ∙ ap (λ (i : ℕ). m + i) k.got;
  down = down-append xs ys v ∙ ap (λ (c : Bool). c || is_down ys v) h.down ∙ ap (λ (c : Bool). d || c) k.down;
}

pub mute_says : (b es : List JournalEntry) (v : Vat) → AreMute es → Says b es v [] 0 false
mute_says b [] v m = record { sendings = refl; got = refl; down = refl }
mute_says b (e ∷ es) v m = one e m.0 (mute_says (b ++ e ∷ []) es v m.1)
  where
    one : (e : JournalEntry) → IsMute e → Says (b ++ e ∷ []) es v [] 0 false → Says b (e ∷ es) v [] 0 false
    one (entry.Sent u x) i r = absurd i
    one (entry.Got u) i r = absurd i
    one (entry.Down u n) i r = absurd i
    one e i r = record { sendings = r.sendings; got = r.got; down = r.down }

own_one : (u : Vat) (e : JournalEntry) → IsOwn u e → IsMute e
own_one u (entry.Sent v m) i = i
own_one u (entry.Got v) i = i
own_one u (entry.Down v n) i = i
own_one u e i = tt

pub own_mute : (u : Vat) (es : List JournalEntry) → AreOwn u es → AreMute es
own_mute u es h = each_so (IsOwn u) IsMute (own_one u) es h

pub mute_behind : (b xs ys : List JournalEntry) (v : Vat) (ss : List Sending) (n : ℕ) → Says b xs v ss n false → AreMute ys → Says b (xs ++ ys) v ss n false
mute_behind b xs ys v ss n h m = let k = both b xs ys v ss [] n 0 false false h (mute_says (b ++ xs) ys v m) in record {
  sendings = k.sendings ∙ append-nil ss;
  got = let a = k.got in omega (arith, a);
  down = k.down;
}

mute_sent : (es : List JournalEntry) (v : Vat) → AreMute es → sent es v ≡ []
mute_sent [] v m = refl
mute_sent (e ∷ es) v m = one e m.0 (mute_sent es v m.1)
  where
    one : (e : JournalEntry) → IsMute e → sent es v ≡ [] → sent (e ∷ es) v ≡ []
    one (entry.Sent u x) i r = absurd i
    one e i r = r

pub sent_still : (h es : List JournalEntry) (v : Vat) → AreMute es → sent (h ++ es) v ≡ sent h v
sent_still h es v m = sent-append h es v ∙ ap (λ (l : List Message). sent h v ++ l) (mute_sent es v m) ∙ append-nil (sent h v)

-- ---- Effects

abbrev pub behind : List Message → Message → Sending
behind before m = record { message = m; before = before }

sends_mine : (u : Vat) (b : List JournalEntry) (ms before : List Message) → sent b (other_vat u) ≡ before → Says b (map (entry.Sent u) ms) u (map (behind before) ms) 0 false
sends_mine u b [] before e = record { sendings = refl; got = refl; down = refl }
sends_mine A b (m ∷ ms) before e =
    let c = b ++ entry.Sent A m ∷ [] in
    let r = sends_mine A c ms before (sent-append b (entry.Sent A m ∷ []) B ∙ append-nil (sent b B) ∙ e) in record {
      sendings = ap (λ (l : List Message). behind l m ∷ sendings_after c (map (entry.Sent A) ms) A) e ∙ ap (λ (l : List Sending). behind before m ∷ l) r.sendings;
      got = r.got;
      down = r.down;
    }
sends_mine B b (m ∷ ms) before e =
    let c = b ++ entry.Sent B m ∷ [] in
    let r = sends_mine B c ms before (sent-append b (entry.Sent B m ∷ []) A ∙ append-nil (sent b A) ∙ e) in record {
      sendings = ap (λ (l : List Message). behind l m ∷ sendings_after c (map (entry.Sent B) ms) B) e ∙ ap (λ (l : List Sending). behind before m ∷ l) r.sendings;
      got = r.got;
      down = r.down;
    }

sends_theirs : (u : Vat) (b : List JournalEntry) (ms : List Message) → Says b (map (entry.Sent u) ms) (other_vat u) [] 0 false
sends_theirs u b [] = record { sendings = refl; got = refl; down = refl }
sends_theirs A b (m ∷ ms) = let r = sends_theirs A (b ++ entry.Sent A m ∷ []) ms in record { sendings = r.sendings; got = r.got; down = r.down }
sends_theirs B b (m ∷ ms) = let r = sends_theirs B (b ++ entry.Sent B m ∷ []) ms in record { sendings = r.sendings; got = r.got; down = r.down }

down_mine : (u : Vat) (b : List JournalEntry) (o : Option ℕ) → Says b (went_down u o) u [] 0 (is_some o)
down_mine u b None = record { sendings = refl; got = refl; down = refl }
down_mine A b (Some n) = record { sendings = refl; got = refl; down = refl }
down_mine B b (Some n) = record { sendings = refl; got = refl; down = refl }

down_theirs : (u : Vat) (b : List JournalEntry) (o : Option ℕ) → Says b (went_down u o) (other_vat u) [] 0 false
down_theirs u b None = record { sendings = refl; got = refl; down = refl }
down_theirs A b (Some n) = record { sendings = refl; got = refl; down = refl }
down_theirs B b (Some n) = record { sendings = refl; got = refl; down = refl }

-- Behind what was sent, all but that the vat went down.
then_acts : (u v : Vat) (b : List JournalEntry) (x : Effects) (ss : List Sending) → Says b (map (entry.Sent u) x.sends) v ss 0 false → Says b (map (entry.Sent u) x.sends ++ map (entry.Delivered u) x.deliveries ++ map (entry.Ended u) x.answers) v ss 0 false
then_acts u v b x ss h =
    mute_behind b (map (entry.Sent u) x.sends ++ map (entry.Delivered u) x.deliveries) (map (entry.Ended u) x.answers) v ss 0
    (mute_behind b (map (entry.Sent u) x.sends) (map (entry.Delivered u) x.deliveries) v ss 0 h (each_map IsMute (entry.Delivered u) x.deliveries (λ d. tt)))
    (each_map IsMute (entry.Ended u) x.answers (λ d. tt))

pub effects_mine : (u : Vat) (b : List JournalEntry) (x : Effects) (before : List Message) → sent b (other_vat u) ≡ before → Says b (effect_entries u x) u (map (behind before) x.sends) 0 (is_some x.down)
effects_mine u b x before e =
    let acts = map (entry.Sent u) x.sends ++ map (entry.Delivered u) x.deliveries ++ map (entry.Ended u) x.answers in
    let ss = map (behind before) x.sends in
    let k = both b acts (went_down u x.down) u ss [] 0 0 false (is_some x.down) (then_acts u u b x ss (sends_mine u b x.sends before e)) (down_mine u (b ++ acts) x.down) in
    record { sendings = k.sendings ∙ append-nil ss; got = k.got; down = k.down }

pub effects_theirs : (u : Vat) (b : List JournalEntry) (x : Effects) → Says b (effect_entries u x) (other_vat u) [] 0 false
effects_theirs u b x =
    let acts = map (entry.Sent u) x.sends ++ map (entry.Delivered u) x.deliveries ++ map (entry.Ended u) x.answers in
    both b acts (went_down u x.down) (other_vat u) [] [] 0 0 false false (then_acts u (other_vat u) b x [] (sends_theirs u b x.sends)) (down_theirs u (b ++ acts) x.down)

-- ---- A whole event

pub obeys_mine : (u : Vat) (b own : List JournalEntry) (x : Effects) → AreOwn u own → Says b (own ++ effect_entries u x) u (map (behind (sent b (other_vat u))) x.sends) 0 (is_some x.down)
obeys_mine u b own x o =
    let m = own_mute u own o in
    both b own (effect_entries u x) u [] (map (behind (sent b (other_vat u))) x.sends) 0 0 false (is_some x.down) (mute_says b own u m)
    (effects_mine u (b ++ own) x (sent b (other_vat u)) (sent_still b own (other_vat u) m))

pub obeys_theirs : (u : Vat) (b own : List JournalEntry) (x : Effects) → AreOwn u own → Says b (own ++ effect_entries u x) (other_vat u) [] 0 false
obeys_theirs u b own x o =
    both b own (effect_entries u x) (other_vat u) [] [] 0 0 false false (mute_says b own (other_vat u) (own_mute u own o)) (effects_theirs u (b ++ own) x)

got_mine : (u : Vat) (b : List JournalEntry) → Says b (entry.Got u ∷ []) u [] 1 false
got_mine A b = record { sendings = refl; got = refl; down = refl }
got_mine B b = record { sendings = refl; got = refl; down = refl }

got_theirs : (u : Vat) (b : List JournalEntry) → Says b (entry.Got u ∷ []) (other_vat u) [] 0 false
got_theirs A b = record { sendings = refl; got = refl; down = refl }
got_theirs B b = record { sendings = refl; got = refl; down = refl }

pub takes_mine : (u : Vat) (b : List JournalEntry) (x : Effects) → Says b (entry.Got u ∷ effect_entries u x) u (map (behind (sent b (other_vat u))) x.sends) 1 (is_some x.down)
takes_mine u b x =
    both b (entry.Got u ∷ []) (effect_entries u x) u [] (map (behind (sent b (other_vat u))) x.sends) 1 0 false (is_some x.down) (got_mine u b)
    (effects_mine u (b ++ entry.Got u ∷ []) x (sent b (other_vat u)) (sent-append b (entry.Got u ∷ []) (other_vat u) ∙ append-nil (sent b (other_vat u))))

pub takes_theirs : (u : Vat) (b : List JournalEntry) (x : Effects) → Says b (entry.Got u ∷ effect_entries u x) (other_vat u) [] 0 false
takes_theirs u b x = both b (entry.Got u ∷ []) (effect_entries u x) (other_vat u) [] [] 0 0 false false (got_theirs u b) (effects_theirs u (b ++ entry.Got u ∷ []) x)
