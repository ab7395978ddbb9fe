-- Which vats are down through a run: as the journal says, and those that a shut took down.
use Rattle.std.proofs.Common.{◌≡◌, ℕ, Bool, true, false, ◌&&◌, ◌||◌, List, [], ◌∷◌, ◌++◌, Option, None, Some, is_some, Result, refl, sym, ap, ◌∙◌}
use Rattle.rpc_msg.specs.declared.ids.Vat.{Vat}
use Rattle.rpc_journal.specs.declared.entry.JournalEntry.{JournalEntry}
use Rattle.rpc_journal.specs.History.{same_vat, or_rest, if_so}
use Rattle.rpc_machine.specs.declared.command.Command.TheVariants as command
use Rattle.rpc_machine.specs.declared.command.Granted.{Granted}
use Rattle.rpc_machine.specs.declared.command.Refusal.{Refusal}
use Rattle.rpc_machine.specs.declared.command.Effects.{Effects}
use Rattle.rpc_machine.specs.declared.event.Event.{Event}
use Rattle.rpc_machine.specs.declared.event.Event.TheVariants as event
use Rattle.rpc_machine.specs.World.{World, core, StepAnswer, Answered, Happening, CommandsAt, HappensBy, Run, shut_with, shut_number}
use Rattle.rpc_machine.specs.Journal.{event_entries}
use Rattle.rpc_machine.specs.Claims.{went_down_in}
use Rattle.laws_runs.proofs.QuietRuns.{is_down, acted, commanded_tells, event_fine}
use Rattle.rpc_machine.proofs.StaysDown.{command_down}
use Rattle.laws_runs.proofs.QuietEntries as quiet
use Rattle.laws_runs.proofs.Reading.{same_is}
use Rattle.laws_runs.proofs.FallEntries.{after_is, went-append}

-- The journal says which vats are down.
abbrev pub SaysDown : World → List JournalEntry → Type 0
SaysDown w h = (v : Vat) → went_down_in v h ≡ is_down (core w v)

pub says_more : (w new : World) (e : Event) (h : List JournalEntry) (answer : StepAnswer) (room : Bool) → SaysDown w h → HappensBy w e answer room new → SaysDown new (h ++ event_entries h e room answer)
says_more w new e h answer room d k v =
    let es = event_entries h e room answer in
    went-append v h es ∙ ap (λ (b : Bool). b || went_down_in v es) (d v) ∙ sym (after_is v (is_down (core w v)) es) ∙ (event_fine w e h answer room new k v).1

stays_down : (w new : World) (e : Event) (answer : StepAnswer) (room : Bool) (v : Vat) → HappensBy w e answer room new → is_down (core w v) ≡ true → is_down (core new v) ≡ true
stays_down w new e answer room v k d =
    let f = (event_fine w e [] answer room new k v).1 in
    let es = event_entries [] e room answer in
    sym f ∙ ap (λ (b : Bool). quiet.after v b es) d ∙ after_is v true es

-- An event that tells that a shut took the vat down left it down.
shut_down : (w new : World) (v u : Vat) (n : ℕ) (a : Result Granted Refusal) (told : Effects) (room : Bool) (o : Option ℕ) → (core w u).down ≡ o → v ≡ u → is_some told.down ≡ true → CommandsAt w u (command.Shut n) o (Answered a told) room new → is_down (core new v) ≡ true
shut_down w new v u n a told room None e i t k =
    ap (λ (y : Vat). is_down (core new y)) i ∙ ap (λ (z : World). is_down (core z u)) k.2 ∙ ap is_down (acted w u told k.0) ∙ sym (commanded_tells (core w u) (command.Shut n) a told room k.0 e k.1) ∙ t
shut_down w new v u n a told room (Some m) e i t k = ap (λ (y : Vat). is_down (core new y)) i ∙ ap (λ (z : World). is_down (core z u)) k.1 ∙ ap is_some e

pub some_shut : (w new : World) (e : Event) (answer : StepAnswer) (room : Bool) (v : Vat) (n : ℕ) → HappensBy w e answer room new → shut_with v e answer ≡ Some n → is_down (core new v) ≡ true
some_shut w new (event.Command u (command.Shut m)) (Answered a told) room v n k e = by (same_vat v u) (is_some told.down) refl refl e
  where
    by : (b c : Bool) → same_vat v u ≡ b → is_some told.down ≡ c → if_so (b && c) m ≡ Some n → is_down (core new v) ≡ true
    by true true f g i = shut_down w new v u m a told room (core w u).down refl (same_is v u f) g k
    by true false f g i = cc
    by false c f g i = cc
some_shut w new e answer room v n k i = cc

down_no_shut : (w new : World) (e : Event) (answer : StepAnswer) (room : Bool) (v : Vat) → HappensBy w e answer room new → is_down (core w v) ≡ true → shut_with v e answer ≡ None
down_no_shut w new (event.Command u (command.Shut m)) (Answered a told) room v k d = by (same_vat v u) (is_some told.down) refl refl
  where
    quiet_told : (o : Option ℕ) → (core w u).down ≡ o → is_down (core w u) ≡ true → CommandsAt w u (command.Shut m) o (Answered a told) room new → is_some told.down ≡ false
    quiet_told None e i k = absurd (let f : ◌≡◌ {A = Bool} false true = sym (ap is_some e) ∙ i in cc)
    quiet_told (Some n) e i k = ap (λ (y : Effects). is_some y.down) (command_down (core w u) (command.Shut m) a told (core w u) i k.0).effects_are

    by : (b c : Bool) → same_vat v u ≡ b → is_some told.down ≡ c → if_so (same_vat v u && is_some told.down) m ≡ None
    by true true f g = absurd (let h : true ≡ false = sym g ∙ quiet_told (core w u).down refl (ap (λ (y : Vat). is_down (core w y)) (sym (same_is v u f)) ∙ d) k in cc)
    by true false f g = ap (λ (b : Bool). if_so (b && is_some told.down) m) f ∙ ap (λ (b : Bool). if_so (true && b) m) g
    by false c f g = ap (λ (b : Bool). if_so (b && is_some told.down) m) f
down_no_shut w new e answer room v k d = refl

pub no_shut_after : (w : World) (xs : List Happening) (new : World) (v : Vat) → Run w xs new → is_down (core w v) ≡ true → shut_number v xs ≡ None
no_shut_after w [] new v k d = refl
no_shut_after w (x ∷ xs) new v k d =
    ap (λ (o : Option ℕ). or_rest o (shut_number v xs)) (down_no_shut w k.0 x.event x.answer x.had_room v k.1 d)
    ∙ no_shut_after k.0 xs new v k.2 (stays_down w k.0 x.event x.answer x.had_room v k.1 d)

-- A shut that took a vat down left it down.
pub shut_so : (w : World) (xs : List Happening) (new : World) (v : Vat) → Run w xs new → is_some (shut_number v xs) ≡ true → is_down (core new v) ≡ true
shut_so w [] new v k e = cc
shut_so w (x ∷ xs) new v k e = by (shut_with v x.event x.answer) refl e (shut_so k.0 xs new v k.2)
  where
    later : (w : World) (xs : List Happening) → Run w xs new → is_down (core w v) ≡ true → is_down (core new v) ≡ true
    later w [] k d = ap (λ (z : World). is_down (core z v)) k ∙ d
    later w (x ∷ xs) k d = later k.0 xs k.2 (stays_down w k.0 x.event x.answer x.had_room v k.1 d)

    by : (o : Option ℕ) → shut_with v x.event x.answer ≡ o → is_some (or_rest o (shut_number v xs)) ≡ true → (is_some (shut_number v xs) ≡ true → is_down (core new v) ≡ true) → is_down (core new v) ≡ true
    by None f i ih = ih i
    by (Some n) f i ih = later k.0 xs k.2 (some_shut w k.0 x.event x.answer x.had_room v n k.1 f)
