-- Lists of entries in which a vat delivers nothing once it is down, and that the effects of a step write such a list.
use Rattle.std.proofs.Common.{◌≡◌, ℕ, Bool, true, false, cond, ◌&&◌, ◌||◌, List, [], ◌∷◌, ◌++◌, Option, None, Some, is_some, Result, Ok, Err, refl, sym, ap, subst, ◌∙◌}
use Rattle.std.specs.Prelude.{map}
use Rattle.rpc_msg.specs.declared.ids.Vat.{Vat}
use Rattle.rpc_msg.specs.declared.message.Message.{Message}
use Rattle.rpc_journal.specs.declared.report.Delivery.{Delivery}
use Rattle.rpc_journal.specs.declared.report.Ended.{Ended}
use Rattle.rpc_journal.specs.declared.entry.JournalEntry.{JournalEntry}
use Rattle.rpc_journal.specs.declared.entry.JournalEntry.TheVariants as entry
use Rattle.rpc_journal.specs.History.{same_vat}
use Rattle.rpc_machine.specs.declared.command.Effects.{Effects}
use Rattle.rpc_msg.specs.declared.ids.RefId.{RefId}
use Rattle.rpc_journal.specs.declared.entry.Origin.{Origin}
use Rattle.rpc_machine.specs.declared.command.CallCommand.{CallCommand}
use Rattle.rpc_machine.specs.declared.command.Command.{Command}
use Rattle.rpc_machine.specs.declared.command.Command.TheVariants as command
use Rattle.rpc_machine.specs.declared.command.Granted.{Granted}
use Rattle.rpc_machine.specs.declared.command.Granted.TheVariants as granted
use Rattle.rpc_machine.specs.declared.command.Refusal.{Refusal}
use Rattle.rpc_machine.specs.declared.command.Refusal.TheVariants as refusal
use Rattle.rpc_machine.specs.Journal.{went_down, effect_entries, refused_entries, born, born_promise, asked_entries, made_entries, advanced_entries, granted_entries, own_entries}
use Rattle.rpc_machine.specs.Claims.{deliveries_at, IsQuietWhenDown}
use Rattle.laws_runs.proofs.Reading.{itself}

-- Whether the vat v is down after these entries, if b says whether it was before.
abbrev pub next : Vat → Bool → JournalEntry → Bool
next v b (entry.Down u n) = b || same_vat v u
next v b e = b

abbrev pub after : Vat → Bool → List JournalEntry → Bool
after v b [] = b
after v b (e ∷ es) = after v (next v b e) es

-- This entry is no delivery of a vat that is down.
abbrev pub Fits : Vat → Bool → JournalEntry → Type 0
Fits v b (entry.Delivered u d) = (b && same_vat v u) ≡ false
Fits v b e = Unit {0}

abbrev pub Quiet : Vat → Bool → List JournalEntry → Type 0
Quiet v b [] = Unit {0}
Quiet v b (e ∷ es) = Fits v b e × Quiet v (next v b e) es

pub after-append : (v : Vat) (b : Bool) (xs ys : List JournalEntry) → after v b (xs ++ ys) ≡ after v (after v b xs) ys
after-append v b [] ys = refl
after-append v b (x ∷ xs) ys = after-append v (next v b x) xs ys

pub quiet-append : (v : Vat) (b : Bool) (xs ys : List JournalEntry) → Quiet v b xs → Quiet v (after v b xs) ys → Quiet v b (xs ++ ys)
quiet-append v b [] ys h k = k
quiet-append v b (x ∷ xs) ys h k = (h.0, quiet-append v (next v b x) xs ys h.1 k)

-- ---- What effects write

pub sent_after : (v u : Vat) (b : Bool) (ms : List Message) → after v b (map (entry.Sent u) ms) ≡ b
sent_after v u b [] = refl
sent_after v u b (m ∷ ms) = sent_after v u b ms

sent_quiet : (v u : Vat) (b : Bool) (ms : List Message) → Quiet v b (map (entry.Sent u) ms)
sent_quiet v u b [] = tt
sent_quiet v u b (m ∷ ms) = (tt, sent_quiet v u b ms)

pub delivered_after : (v u : Vat) (b : Bool) (ds : List Delivery) → after v b (map (entry.Delivered u) ds) ≡ b
delivered_after v u b [] = refl
delivered_after v u b (d ∷ ds) = delivered_after v u b ds

-- The vat is up, or these are deliveries of the other.
delivered_quiet : (v u : Vat) (b : Bool) (ds : List Delivery) → (b && same_vat v u) ≡ false → Quiet v b (map (entry.Delivered u) ds)
delivered_quiet v u b [] h = tt
delivered_quiet v u b (d ∷ ds) h = (h, delivered_quiet v u b ds h)

pub ended_after : (v u : Vat) (b : Bool) (xs : List Ended) → after v b (map (entry.Ended u) xs) ≡ b
ended_after v u b [] = refl
ended_after v u b (x ∷ xs) = ended_after v u b xs

ended_quiet : (v u : Vat) (b : Bool) (xs : List Ended) → Quiet v b (map (entry.Ended u) xs)
ended_quiet v u b [] = tt
ended_quiet v u b (x ∷ xs) = (tt, ended_quiet v u b xs)

down_quiet : (v u : Vat) (b : Bool) (o : Option ℕ) → Quiet v b (went_down u o)
down_quiet v u b None = tt
down_quiet v u b (Some n) = (tt, tt)

down_after : (v u : Vat) (b : Bool) (o : Option ℕ) → after v b (went_down u o) ≡ b || (is_some o && same_vat v u)
down_after v u true None = refl
down_after v u false None = refl
down_after v u true (Some n) = refl
down_after v u false (Some n) = refl

-- The entries of a list that changes nothing, with those behind it.
both : (v : Vat) (b : Bool) (xs ys : List JournalEntry) → Quiet v b xs → after v b xs ≡ b → Quiet v b ys → Quiet v b (xs ++ ys)
both v b xs ys h e k = quiet-append v b xs ys h (subst (λ c. Quiet v c ys) (sym e) k)

both_after : (v : Vat) (b c : Bool) (xs ys : List JournalEntry) → after v b xs ≡ b → after v b ys ≡ c → after v b (xs ++ ys) ≡ c
both_after v b c xs ys e f = after-append v b xs ys ∙ ap (λ a. after v a ys) e ∙ f

pub effects_quiet : (v u : Vat) (b : Bool) (x : Effects) → (b && same_vat v u) ≡ false → Quiet v b (effect_entries u x)
effects_quiet v u b x h =
    let ms = map (entry.Sent u) x.sends in
    let ds = map (entry.Delivered u) x.deliveries in
    let es = map (entry.Ended u) x.answers in
    let one : Quiet v b (ms ++ ds) = both v b ms ds (sent_quiet v u b x.sends) (sent_after v u b x.sends) (delivered_quiet v u b x.deliveries h) in
    let one_after : after v b (ms ++ ds) ≡ b = both_after v b b ms ds (sent_after v u b x.sends) (delivered_after v u b x.deliveries) in
    let two : Quiet v b (ms ++ ds ++ es) = both v b (ms ++ ds) es one one_after (ended_quiet v u b x.answers) in
    let two_after : after v b (ms ++ ds ++ es) ≡ b = both_after v b b (ms ++ ds) es one_after (ended_after v u b x.answers) in
    both v b (ms ++ ds ++ es) (went_down u x.down) two two_after (down_quiet v u b x.down)

pub effects_after : (v u : Vat) (b : Bool) (x : Effects) → after v b (effect_entries u x) ≡ b || (is_some x.down && same_vat v u)
effects_after v u b x =
    let ms = map (entry.Sent u) x.sends in
    let ds = map (entry.Delivered u) x.deliveries in
    let es = map (entry.Ended u) x.answers in
    let one : after v b (ms ++ ds) ≡ b = both_after v b b ms ds (sent_after v u b x.sends) (delivered_after v u b x.deliveries) in
    let two : after v b (ms ++ ds ++ es) ≡ b = both_after v b b (ms ++ ds) es one (ended_after v u b x.answers) in
    both_after v b _ (ms ++ ds ++ es) (went_down u x.down) two (down_after v u b x.down)

-- ---- What a command writes of itself

-- The list is quiet, and says of no vat that it went down.
abbrev pub Steady : Vat → Bool → List JournalEntry → Type 0
Steady v b es = Quiet v b es × (after v b es ≡ b)

module _ (v u : Vat) (b : Bool) where
  refused_steady : (r : Refusal) → Steady v b (refused_entries u r)
  refused_steady refusal.Down = (tt, refl)
  refused_steady r = ((tt, tt), refl)

  born_steady : (o : Origin) (g : Granted) → Steady v b (born u o g)
  born_steady o (granted.Reference r) = ((tt, tt), refl)
  born_steady o g = (tt, refl)

  promise_steady : (g : Granted) → Steady v b (born_promise u g)
  promise_steady (granted.Promise p r) = ((tt, tt), refl)
  promise_steady g = (tt, refl)

  asked_steady : (g : Granted) → Steady v b (asked_entries u g)
  asked_steady (granted.Call c) = ((tt, tt), refl)
  asked_steady g = (tt, refl)

  made_steady : (h : List JournalEntry) (c : CallCommand) (g : Granted) → Steady v b (made_entries h u c g)
  made_steady h c (granted.Call id) = ((tt, tt), refl)
  made_steady h c g = (tt, refl)

  advanced_steady : (r : RefId) (g : Granted) → Steady v b (advanced_entries u r g)
  advanced_steady r (granted.Advanced a) = ((tt, tt), refl)
  advanced_steady r g = (tt, refl)

  granted_steady : (h : List JournalEntry) (c : Command) (g : Granted) → Steady v b (granted_entries h u c g)
  granted_steady h (command.Host o) g = born_steady _ g
  granted_steady h (command.CloneRef r) g = born_steady _ g
  granted_steady h command.Bootstrap g = asked_steady g
  granted_steady h (command.Call c) g = made_steady h c g
  granted_steady h (command.Field c path) g = born_steady _ g
  granted_steady h command.Promise g = promise_steady g
  granted_steady h (command.Advance r) g = advanced_steady r g
  granted_steady h (command.Shut n) g = (tt, refl)
  granted_steady h c g = ((tt, tt), refl)

  pub own_steady : (h : List JournalEntry) (c : Command) (a : Result Granted Refusal) → Steady v b (own_entries h u c a)
  own_steady h c (Ok g) = granted_steady h c g
  own_steady h c (Err r) = refused_steady r

  pub if_room_steady : (room : Bool) (es : List JournalEntry) → Steady v b es → Steady v b (cond room es [])
  if_room_steady true es h = h
  if_room_steady false es h = (tt, refl)

-- ---- What is quiet has no delivery behind a down

pub quiet_rest : (v : Vat) (b : Bool) (xs ys : List JournalEntry) → Quiet v b (xs ++ ys) → Quiet v (after v b xs) ys
quiet_rest v b [] ys h = h
quiet_rest v b (x ∷ xs) ys h = quiet_rest v (next v b x) xs ys h.1

not_delivered : (v u : Vat) (d : Delivery) (es : List JournalEntry) → same_vat v u ≡ false → deliveries_at v es ≡ [] → deliveries_at v (entry.Delivered u d ∷ es) ≡ []
not_delivered v u d es e h = ap (λ b. cond b (entry.Delivered u d ∷ deliveries_at v es) (deliveries_at v es)) e ∙ h

pub none_delivered : (v : Vat) (es : List JournalEntry) → Quiet v true es → deliveries_at v es ≡ []
none_delivered v [] h = refl
none_delivered v (entry.Delivered u d ∷ es) h = not_delivered v u d es h.0 (none_delivered v es h.1)
none_delivered v (e ∷ es) h = none_delivered v es h.1

or_same : (b : Bool) (v : Vat) → (b || same_vat v v) ≡ true
or_same true v = refl
or_same false v = itself v

pub quiet_when_down : (h : List JournalEntry) → ((v : Vat) → Quiet v false h) → IsQuietWhenDown h
quiet_when_down h q v n before behind e =
    let one = quiet_rest v false before (entry.Down v n ∷ behind) (subst (Quiet v false) e (q v)) in
    none_delivered v behind (subst (λ b. Quiet v b behind) (or_same (after v false before) v) one.1)
