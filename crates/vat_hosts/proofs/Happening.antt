-- What happens in the world if a vat obeys a command or hears a message.
use Rattle.std.proofs.Common.{◌≡◌, ℕ, true, List, [], ◌∷◌, ◌++◌, append-nil, Option, None, Some, Ok, is_some, refl, sym, ap, subst, ◌∙◌}
use Rattle.rpc_msg.specs.Vats.{other_vat}
use Rattle.rpc_msg.specs.declared.ids.Vat.{Vat}
use Rattle.rpc_msg.specs.declared.ids.Vat.TheVariants.{A, B}
use Rattle.rpc_msg.specs.declared.message.Message.{Message}
use Rattle.rpc_machine.specs.declared.command.Command.{Command}
use Rattle.rpc_machine.specs.declared.command.Granted.{Granted}
use Rattle.rpc_machine.specs.declared.command.Effects.{Effects}
use Rattle.rpc_machine.specs.declared.event.Event.TheVariants as event
use Rattle.rpc_machine.specs.Down.{IsUnchanged}
use Rattle.rpc_machine.specs.State.{State}
use Rattle.rpc_machine.specs.Steps.{Obeys, Receives}
use Rattle.rpc_machine.specs.World.{World, Happening, Answered, Handled, CommandsAt, ReceivesAt, Happens, Run, after, core, inbox, put_inbox}
use Rattle.rpc_machine.proofs.StaysDown.{command_down}

-- A run goes on by one more.
pub run_more : (w : World) (xs : List Happening) (mid : World) (x : Happening) (new : World) → Run w xs mid → Happens mid x new → Run w (xs ++ x ∷ []) new
run_more w [] mid x new same happens = (new, subst (λ (u : World). Happens u x new) same happens, refl)
run_more w (y ∷ ys) mid x new (next, first, more) happens = (next, first, run_more next ys mid x new more happens)

-- What a step of the vat leaves: its core, what is left on its way to it, and what it sent behind what was on the other's.
pub record Leaves (w : World) (v : Vat) (e : Effects) (t : State) (left : List Message) (new : World) : Type 0 where
  pub core_is : core new v ≡ t
  pub other_core : core new (other_vat v) ≡ core w (other_vat v)
  pub left_is : inbox new v ≡ left
  pub sent : inbox new (other_vat v) ≡ inbox w (other_vat v) ++ e.sends

abbrev pub commanded : Vat → Command → Granted → Effects → Happening
commanded v c g e = record { event = event.Command v c; answer = Answered (Ok g) e; had_room = true }

abbrev pub delivered : Vat → Effects → Happening
delivered v e = record { event = event.Deliver v; answer = Handled e; had_room = true }

after_leaves : (v : Vat) (w : World) (e : Effects) (t : State) → Leaves w v e t (inbox w v) (after w v e t)
after_leaves A w e t = record { core_is = refl; other_core = refl; left_is = refl; sent = refl }
after_leaves B w e t = record { core_is = refl; other_core = refl; left_is = refl; sent = refl }

deliver_leaves : (v : Vat) (w : World) (e : Effects) (t : State) (ms : List Message) → Leaves w v e t ms (after (put_inbox w v ms) v e t)
deliver_leaves A w e t ms = record { core_is = refl; other_core = refl; left_is = refl; sent = refl }
deliver_leaves B w e t ms = record { core_is = refl; other_core = refl; left_is = refl; sent = refl }

same_leaves : (w : World) (v : Vat) (e : Effects) (t : State) → IsUnchanged (core w v) e t → Leaves w v e t (inbox w v) w
same_leaves w v e t same = record {
  core_is = sym same.new_is;
  other_core = refl;
  left_is = refl;
  sent = sym (append-nil (inbox w (other_vat v))) ∙ ap (λ (x : Effects). inbox w (other_vat v) ++ x.sends) (sym same.effects_are);
}

obeys_by : (w : World) (v : Vat) (c : Command) (g : Granted) (e : Effects) (t : State) (d : Option ℕ) → (core w v).down ≡ d → Obeys (core w v) c (Ok g) e t
    → (new : World) × CommandsAt w v c d (Answered (Ok g) e) true new × Leaves w v e t (inbox w v) new
obeys_by w v c g e t None is obeys = (after w v e t, (t, (Ok g, e, t, obeys, refl, (refl, refl)), refl), after_leaves v w e t)
obeys_by w v c g e t (Some n) is obeys =
    let same = command_down (core w v) c (Ok g) e t (ap is_some is) obeys in
    (w, (subst (λ (s : State). Obeys (core w v) c (Ok g) e s) same.new_is obeys, refl), same_leaves w v e t same)

-- A command is done.
pub obeys_so : (w : World) (v : Vat) (c : Command) (g : Granted) (e : Effects) (t : State) → Obeys (core w v) c (Ok g) e t
    → (new : World) × Happens w (commanded v c g e) new × Leaves w v e t (inbox w v) new
obeys_so w v c g e t obeys = obeys_by w v c g e t (core w v).down refl obeys

core_left : (v : Vat) (w : World) (ms : List Message) → core (put_inbox w v ms) v ≡ core w v
core_left A w ms = refl
core_left B w ms = refl

hears_by : (w : World) (v : Vat) (m : Message) (ms : List Message) (e : Effects) (t : State) (i : List Message) (d : Option ℕ) → i ≡ m ∷ ms → d ≡ None → Receives (core w v) m e t
    → ReceivesAt w v i d (Handled e) true (after (put_inbox w v ms) v e t)
hears_by w v m ms e t i d is up receives =
    subst (λ (i : List Message). ReceivesAt w v i d (Handled e) true (after (put_inbox w v ms) v e t)) (sym is)
    (subst (λ (d : Option ℕ). ReceivesAt w v (m ∷ ms) d (Handled e) true (after (put_inbox w v ms) v e t)) (sym up)
    (t, (e, t, subst (λ (s : State). Receives s m e t) (sym (core_left v w ms)) receives, (refl, refl)), refl))

-- A vat that is up hears the oldest message on its way to it.
pub hears_so : (w : World) (v : Vat) (m : Message) (ms : List Message) (e : Effects) (t : State) → inbox w v ≡ m ∷ ms → (core w v).down ≡ None → Receives (core w v) m e t
    → (new : World) × Happens w (delivered v e) new × Leaves w v e t ms new
hears_so w v m ms e t is up receives = (after (put_inbox w v ms) v e t, hears_by w v m ms e t (inbox w v) (core w v).down is up receives, deliver_leaves v w e t ms)
