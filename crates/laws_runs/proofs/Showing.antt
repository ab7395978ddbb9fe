-- Each run is shown by steps that are neither refused nor fall.
use Rattle.std.proofs.Common.{◌≡◌, ◌⊎◌, inl, inr, ℕ, Bool, true, false, cond, List, [], ◌∷◌, ◌++◌, append-nil, Option, None, Some, is_some, Result, Ok, Err, refl, sym, ap, subst, ◌∙◌}
use Rattle.rpc_msg.specs.declared.ids.Vat.{Vat}
use Rattle.rpc_msg.specs.declared.ids.Vat.TheVariants.{A, B}
use Rattle.rpc_msg.specs.declared.ids.ObjectId.{ObjectId}
use Rattle.rpc_msg.specs.declared.message.Message.{Message}
use Rattle.rpc_msg.specs.Vats.{other_vat}
use Rattle.rpc_journal.specs.declared.entry.JournalEntry.{JournalEntry}
use Rattle.rpc_machine.specs.declared.command.Command.{Command}
use Rattle.rpc_machine.specs.declared.command.Granted.{Granted}
use Rattle.rpc_machine.specs.declared.command.Granted.TheVariants as granted
use Rattle.rpc_machine.specs.declared.command.Refusal.{Refusal}
use Rattle.rpc_machine.specs.declared.command.Effects.{Effects}
use Rattle.rpc_machine.specs.declared.event.Event.{Event}
use Rattle.rpc_machine.specs.declared.event.Event.TheVariants as event
use Rattle.rpc_machine.specs.State.{State}
use Rattle.rpc_machine.specs.Progress.{quiet}
use Rattle.rpc_machine.specs.Refusals.{refused}
use Rattle.rpc_machine.specs.Limits.{IsWithin}
use Rattle.rpc_machine.specs.Faults.{fault_of}
use Rattle.rpc_machine.specs.Steps.{Does, Handles}
use Rattle.rpc_machine.specs.World.{World, Side, core, inbox, put_inbox, after, new_world, StepAnswer, Answered, Handled, Empty, Happening, MessageTold, CommandsUp, CommandsDown, CommandsAt, ReceivesUp, ReceivesAt, HappensBy, Run}
use Rattle.rpc_machine.specs.Journal.{effect_entries, own_entries, granted_entries, command_entries, deliver_entries, event_entries, journal_from, journal}
use Rattle.rpc_machine.specs.Claims.{BothUp}
use Rattle.laws_runs.proofs.QuietRuns.{taken, writes_nothing}
use Rattle.laws_runs.specs.Telling.{telling}
use Rattle.laws_runs.specs.Scenes.{Scene, is_over, begins, goes_on, stopped, Steps, Commanded, Received, GivesUp, Stops, LeadsTo, NoMore, Then, IsLast, AtVat, Shows}
use Rattle.laws_runs.proofs.Outcomes.{IsFall, CommandKind, WasRefused, WasDone, GaveUp, WasShut, HadNoRoom, command_kind, MessageKind, WasHandled, Fell, message_kind}
use Rattle.laws_runs.proofs.Silent.{Silent, telling-append, silent_behind, both_silent, silent_effects, silent_refusal}
use Rattle.laws_runs.proofs.ToldAlike.{written_so}
use Rattle.laws_runs.proofs.AtVats.{takes_oldest, not_over, mine, theirs, done_shows, fell_shows, still_shows}

-- By one step or none the scene comes to show the new world.
abbrev pub Goes : Scene → List JournalEntry → World → Type 0
Goes x h new = (y : Scene) × ((y ≡ x) ⊎ Steps x y) × Shows y h new

-- What is on its way to a vat is where it is.
pub put_same : (w : World) (u : Vat) → put_inbox w u (inbox w u) ≡ w
put_same w A = refl
put_same w B = refl

-- ---- Commands

module _ (x : Scene) (h : List JournalEntry) (w : World) (u : Vat) (c : Command) (shows : Shows x h w) (up : (core w u).down ≡ None) where
  over : is_over x u ≡ false
  over = not_over u x h w shows up

  same_core : core w u ≡ core x.world u
  same_core = (mine u x h w shows over).1

  -- What it wrote, in the scene's words.
  same_words : (own own2 more more2 : List JournalEntry) → telling own ≡ telling own2 → telling more ≡ telling more2 → telling (h ++ (own ++ more)) ≡ telling (x.journal ++ (own2 ++ more2))
  same_words own own2 more more2 e f =
      telling-append h (own ++ more) ∙ ap (λ (l : List JournalEntry). l ++ telling (own ++ more)) shows.history
      ∙ ap (λ (l : List JournalEntry). telling x.journal ++ l) (telling-append own more ∙ ap (λ (l : List JournalEntry). l ++ telling more) e ∙ ap (λ (l : List JournalEntry). telling own2 ++ l) f ∙ sym (telling-append own2 more2))
      ∙ sym (telling-append x.journal (own2 ++ more2))

  is_refused : (a : Result Granted Refusal) (told : Effects) (room : Bool) (t : State) (r : Refusal) → a ≡ Err r → told ≡ quiet → t ≡ core w u → Goes x (h ++ command_entries h u c room (Answered a told)) (after w u told t)
  is_refused a told room t r e f g =
      (x, inl refl, rw (f, g) (still_shows u x w h (h ++ command_entries h u c room (Answered a quiet)) (silent_behind h (command_entries h u c room (Answered a quiet)) (both_silent (cond room (own_entries h u c a) []) [] (by room) refl)) shows))
    where
      by : (b : Bool) → Silent (cond b (own_entries h u c a) [])
      by true = rw e (silent_refusal u r)
      by false = refl

  pub done_so : (told : Effects) (t : State) (g : Granted) → t.down ≡ None → Shows (goes_on x (after x.world u told t) (command_entries x.journal u c true (Answered (Ok g) told))) (h ++ command_entries h u c true (Answered (Ok g) told)) (after w u told t)
  done_so told t g e =
      let es = command_entries x.journal u c true (Answered (Ok g) told) in
      subst (λ (v : World). Shows (goes_on x (after x.world u told t) es) (h ++ command_entries h u c true (Answered (Ok g) told)) (after v u told t)) (put_same w u)
      (subst (λ (v : World). Shows (goes_on x (after v u told t) es) (h ++ command_entries h u c true (Answered (Ok g) told)) (after (put_inbox w u (inbox w u)) u told t)) (put_same x.world u)
      (done_shows u x w (h ++ command_entries h u c true (Answered (Ok g) told)) es (inbox w u) (inbox x.world u) told t over e
      (same_words (granted_entries h u c g) (granted_entries x.journal u c g) (effect_entries u told) (effect_entries u told) (ap telling (written_so h x.journal shows.history u c g)) refl)
      (mine u x h w shows over) (theirs u x h w shows over)))

  is_done : (told : Effects) (t : State) (g : Granted) → refused (core w u) c ≡ None → Does (core w u) c g told t → IsWithin t → t.down ≡ None → Goes x (h ++ command_entries h u c true (Answered (Ok g) told)) (after w u told t)
  is_done told t g f d i e = (
    goes_on x (after x.world u told t) (command_entries x.journal u c true (Answered (Ok g) told)),
    inr (Commanded u c g told t over (subst (λ (s : State). s.down ≡ None) same_core up) (subst (λ (s : State). refused s c ≡ None) same_core f) (subst (λ (s : State). Does s c g told t) same_core d) i refl),
    done_so told t g e,
  )

  -- It fell, and its own words were these, in the scene those.
  pub fell_so : (told : Effects) (t : State) (own es : List JournalEntry) → IsFall told t → telling own ≡ telling es → Shows (stopped x u es) (h ++ (own ++ effect_entries u told)) (after w u told t)
  fell_so told t own es f e =
      subst (λ (v : World). Shows (stopped x u es) (h ++ (own ++ effect_entries u told)) (after v u told t)) (put_same w u)
      (fell_shows u x w (h ++ (own ++ effect_entries u told)) es (inbox w u) told t f
      (same_words own es (effect_entries u told) [] e (silent_effects u told f.deliveries f.answers) ∙ ap telling (ap (λ (l : List JournalEntry). x.journal ++ l) (append-nil es)))
      (theirs u x h w shows over))

  is_over_now : (told : Effects) (t : State) (own es : List JournalEntry) → IsFall told t → telling own ≡ telling es → Steps x (stopped x u es) → Goes x (h ++ (own ++ effect_entries u told)) (after w u told t)
  is_over_now told t own es f e s = (stopped x u es, inr s, fell_so told t own es f e)

  -- What it came to.
  goes : (a : Result Granted Refusal) (told : Effects) (room : Bool) (t : State) → CommandKind (core w u) c a told room t → Goes x (h ++ command_entries h u c room (Answered a told)) (after w u told t)
  goes a told room t (WasRefused r e f g) = is_refused a told room t r e f g
  goes a told room t (WasDone g f e r d i n) =
      subst (λ (b : Bool). Goes x (h ++ command_entries h u c b (Answered a told)) (after w u told t)) (sym r)
      (subst (λ (b : Result Granted Refusal). Goes x (h ++ command_entries h u c true (Answered b told)) (after w u told t)) (sym e) (is_done told t g f d i n))
  goes a told room t (GaveUp f m e r k) =
      subst (λ (b : Bool). Goes x (h ++ command_entries h u c b (Answered a told)) (after w u told t)) (sym r)
      (subst (λ (b : Result Granted Refusal). Goes x (h ++ command_entries h u c true (Answered b told)) (after w u told t)) (sym e)
      (is_over_now told t (granted_entries h u c granted.Done) (granted_entries x.journal u c granted.Done) k (ap telling (written_so h x.journal shows.history u c granted.Done))
      (GivesUp u c over (subst (λ (s : State). refused s c ≡ None) same_core f) m refl)))
  goes a told room t (WasShut n e f k) = is_over_now told t (cond room (own_entries h u c a) []) [] k (by room) (Stops u over refl)
    where
      by : (b : Bool) → Silent (cond b (own_entries h u c a) [])
      by true = rw (f, e) refl
      by false = refl
  goes a told room t (HadNoRoom r k) = is_over_now told t (cond room (own_entries h u c a) []) [] k (ap (λ (b : Bool). telling (cond b (own_entries h u c a) [])) r) (Stops u over refl)

stays : (x : Scene) (h es : List JournalEntry) (w new : World) → Shows x h w → es ≡ [] → new ≡ w → Goes x (h ++ es) new
stays x h es w new s e f = (x, inl refl, subst (λ (v : World). Shows x (h ++ es) v) (sym f) (subst (λ (l : List JournalEntry). Shows x l w) (sym (ap (λ (l : List JournalEntry). h ++ l) e ∙ append-nil h)) s))

command_up : (x : Scene) (h : List JournalEntry) (w : World) (u : Vat) (c : Command) (answer : StepAnswer) (room : Bool) (new : World) → Shows x h w → (core w u).down ≡ None → CommandsUp w u c answer room new → Goes x (h ++ command_entries h u c room answer) new
command_up x h w u c (Answered a told) room new s up k =
    subst (λ (v : World). Goes x (h ++ command_entries h u c room (Answered a told)) v) (sym k.2) (goes x h w u c s up a told room k.0 (command_kind (core w u) c a told room k.0 up k.1))
command_up x h w u c (Handled told) room new s up k = absurd k
command_up x h w u c Empty room new s up k = absurd k

command_down : (x : Scene) (h : List JournalEntry) (w : World) (u : Vat) (c : Command) (answer : StepAnswer) (room : Bool) (new : World) → Shows x h w → is_some (core w u).down ≡ true → CommandsDown w u c answer new → Goes x (h ++ command_entries h u c room answer) new
command_down x h w u c (Answered a told) room new s d k = stays x h (command_entries h u c room (Answered a told)) w new s (writes_nothing h u (core w u) c a told room d k.0) k.1
command_down x h w u c (Handled told) room new s d k = absurd k
command_down x h w u c Empty room new s d k = absurd k

command_at : (x : Scene) (h : List JournalEntry) (w : World) (u : Vat) (c : Command) (o : Option ℕ) (answer : StepAnswer) (room : Bool) (new : World) → Shows x h w → (core w u).down ≡ o → CommandsAt w u c o answer room new → Goes x (h ++ command_entries h u c room answer) new
command_at x h w u c None answer room new s e k = command_up x h w u c answer room new s e k
command_at x h w u c (Some n) answer room new s e k = command_down x h w u c answer room new s (ap is_some e) k

-- ---- Received messages

pub got_words : (u : Vat) (x : Scene) (h : List JournalEntry) (w : World) → Shows x h w → (told : Effects) → telling (h ++ deliver_entries u (Handled told)) ≡ telling (x.journal ++ deliver_entries u (Handled told))
got_words u x h w shows told =
    telling-append h (deliver_entries u (Handled told)) ∙ ap (λ (l : List JournalEntry). l ++ telling (deliver_entries u (Handled told))) shows.history ∙ sym (telling-append x.journal (deliver_entries u (Handled told)))

module _ (x : Scene) (h : List JournalEntry) (w : World) (u : Vat) (m : Message) (ms : List Message) (shows : Shows x h w) (up : (core w u).down ≡ None) (oldest : inbox w u ≡ m ∷ ms) where
  is_up : is_over x u ≡ false
  is_up = not_over u x h w shows up

  this_core : core w u ≡ core x.world u
  this_core = (mine u x h w shows is_up).1

  received : (told : Effects) (t : State) → MessageKind (core w u) m told t → Goes x (h ++ deliver_entries u (Handled told)) (after (put_inbox w u ms) u told t)
  received told t (WasHandled f d i n) =
      let k = takes_oldest (is_over x (other_vat u)) (core w u) (core x.world u) m ms (inbox x.world u) f (subst (λ (l : List Message). AtVat false (is_over x (other_vat u)) (core w u) l (core x.world u) (inbox x.world u)) oldest (mine u x h w shows is_up)) in (
        goes_on x (after (put_inbox x.world u k.0) u told t) (deliver_entries u (Handled told)),
        inr (Received u m k.0 told t is_up (subst (λ (s : State). s.down ≡ None) this_core up) k.1 (subst (λ (s : State). fault_of s m ≡ None) this_core f) (subst (λ (s : State). Handles s m told t) this_core d) i refl),
        done_shows u x w (h ++ deliver_entries u (Handled told)) (deliver_entries u (Handled told)) ms k.0 told t is_up n (got_words u x h w shows told) k.2 (theirs u x h w shows is_up),
      )
  received told t (Fell f) = (
    stopped x u [],
    inr (Stops u is_up refl),
    fell_shows u x w (h ++ deliver_entries u (Handled told)) [] ms told t f
        (silent_behind h (deliver_entries u (Handled told)) (silent_effects u told f.deliveries f.answers) ∙ shows.history ∙ ap telling (sym (append-nil x.journal)))
        (theirs u x h w shows is_up),
  )

receive_up : (x : Scene) (h : List JournalEntry) (w : World) (u : Vat) (m : Message) (ms : List Message) (answer : StepAnswer) (room : Bool) (new : World) → Shows x h w → (core w u).down ≡ None → inbox w u ≡ m ∷ ms → ReceivesUp (put_inbox w u ms) u m answer room new → Goes x (h ++ deliver_entries u answer) new
receive_up x h w u m ms (Answered a told) room new s up i k = absurd k
receive_up x h w u m ms (Handled told) room new s up i k =
    let e = taken w u ms u in
    let k1 : MessageTold (core w u) m told room k.0 = subst (λ (t : State). MessageTold t m told room k.0) e k.1 in
    subst (λ (v : World). Goes x (h ++ deliver_entries u (Handled told)) v) (sym k.2) (received x h w u m ms s up i told k.0 (message_kind (core w u) m told room k.0 up k1))
receive_up x h w u m ms Empty room new s up i k = absurd k

of_empty : (x : Scene) (h : List JournalEntry) (w : World) (u : Vat) (answer : StepAnswer) (new : World) → Shows x h w → answer ≡ Empty → new ≡ w → Goes x (h ++ deliver_entries u answer) new
of_empty x h w u answer new s e f = stays x h (deliver_entries u answer) w new s (ap (deliver_entries u) e) f

receive_at : (x : Scene) (h : List JournalEntry) (w : World) (u : Vat) (ms : List Message) (o : Option ℕ) (answer : StepAnswer) (room : Bool) (new : World) → Shows x h w → inbox w u ≡ ms → (core w u).down ≡ o → ReceivesAt w u ms o answer room new → Goes x (h ++ deliver_entries u answer) new
receive_at x h w u [] o answer room new s i e k = of_empty x h w u answer new s k.0 k.1
receive_at x h w u (m ∷ ms) (Some n) answer room new s i e k = of_empty x h w u answer new s k.0 k.1
receive_at x h w u (m ∷ ms) None answer room new s i e k = receive_up x h w u m ms answer room new s e i k

-- ---- Runs

pub event_goes : (x : Scene) (h : List JournalEntry) (w : World) (e : Event) (answer : StepAnswer) (room : Bool) (new : World) → Shows x h w → HappensBy w e answer room new → Goes x (h ++ event_entries h e room answer) new
event_goes x h w (event.Command u c) answer room new s k = command_at x h w u c (core w u).down answer room new s refl k
event_goes x h w (event.Deliver u) answer room new s k = receive_at x h w u (inbox w u) (core w u).down answer room new s refl refl k

abbrev Comes : Scene → List JournalEntry → World → Type 0
Comes x h new = (y : Scene) × LeadsTo y x × Shows y h new

first : (x : Scene) (h : List JournalEntry) (new : World) (mid : Scene) → ((mid ≡ x) ⊎ Steps x mid) → Comes mid h new → Comes x h new
first x h new mid (inl e) k = subst (λ (y : Scene). Comes y h new) e k
first x h new mid (inr s) k = (k.0, Then s k.1, k.2)

runs : (x : Scene) (h : List JournalEntry) (w : World) (xs : List Happening) (new : World) → Shows x h w → Run w xs new → Comes x (journal_from h xs) new
runs x h w [] new s k = (x, NoMore, subst (λ (v : World). Shows x h v) (sym k) s)
runs x h w (e ∷ es) new s k =
    let g = event_goes x h w e.event e.answer e.had_room k.0 s k.1 in
    first x (journal_from h (e ∷ es)) new g.0 g.1 (runs g.0 (h ++ event_entries h e.event e.had_room e.answer) k.0 es new g.2 k.2)

pub starts : (a b : Option ObjectId) → Shows (begins a b) [] (new_world a b)
starts a b = record { history = refl; at_a = (refl, refl, ([], refl, refl)); at_b = (refl, refl, ([], refl, refl)) }

pub every_run : (a b : Option ObjectId) (xs : List Happening) (w : World) → Run (new_world a b) xs w → Comes (begins a b) (journal xs) w
every_run a b xs w k = runs (begins a b) [] (new_world a b) xs w (starts a b) k

same_side : (p q : Side) → p.core ≡ q.core → p.inbox ≡ q.inbox → p ≡ q
same_side p q e f = subst (λ (s : State). p ≡ record { core = s; inbox = q.inbox }) e (subst (λ (l : List Message). p ≡ record { core = p.core; inbox = l }) f refl)

same_world : (v w : World) → v.a ≡ w.a → v.b ≡ w.b → v ≡ w
same_world v w e f = subst (λ (p : Side). v ≡ record { a = p; b = w.b }) e (subst (λ (p : Side). v ≡ record { a = v.a; b = p }) f refl)

pub both_up : (x : Scene) (h : List JournalEntry) (w : World) → Shows x h w → BothUp w → w ≡ x.world
both_up x h w s b =
    let i = not_over A x h w s b.0 in
    let j = not_over B x h w s b.1 in
    let m = mine A x h w s i in
    let n = mine B x h w s j in
    let p : m.2.0 ≡ [] = subst (λ (o : Bool). IsLast o m.2.0) j m.2.1 in
    let q : n.2.0 ≡ [] = subst (λ (o : Bool). IsLast o n.2.0) i n.2.1 in
    let e : w.a.inbox ≡ x.world.a.inbox = m.2.2 ∙ ap (λ (l : List Message). x.world.a.inbox ++ l) p ∙ append-nil x.world.a.inbox in
    let f : w.b.inbox ≡ x.world.b.inbox = n.2.2 ∙ ap (λ (l : List Message). x.world.b.inbox ++ l) q ∙ append-nil x.world.b.inbox in
    same_world w x.world (same_side w.a x.world.a m.1 e) (same_side w.b x.world.b n.1 f)
