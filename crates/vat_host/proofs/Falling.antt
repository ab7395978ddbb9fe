-- Going down where nothing else has a place.
use Rattle.std.proofs.Common.{◌≡◌, ℕ, Bool, true, false, Option, None, Some, is_some, IsSome, refl, ap, sym, subst}
use Rattle.rpc_msg.specs.declared.message.Message.{Message}
use Rattle.rpc_msg.specs.declared.message.Message.TheVariants as message
use Rattle.rpc_msg.specs.declared.message.PlainMessage.TheVariants as plain
use Rattle.rpc_machine.specs.declared.command.Effects.{Effects}
use Rattle.rpc_machine.specs.Down.{ShutsFrom}
use Rattle.rpc_machine.specs.Numbers.{peer_abort, want_of_room}
use Rattle.rpc_machine.specs.State.{State}
use Rattle.rpc_machine.specs.Faults.{fault_of}
use Rattle.rpc_machine.specs.declared.command.Level.{Level}
use Rattle.rpc_machine.specs.declared.command.Level.TheVariants as level
use Rattle.rpc_machine.specs.Steps.{Receives, MayLackRoom, WasDown, FaultsBy, LacksRoom, IsHandled}
use Rattle.vat_host.specs.Hosting.{is_abort}

may_lack : (m : Message) → is_abort m ≡ false → MayLackRoom m
may_lack (message.Plain (plain.Abort x)) a = absurd (let k : ◌≡◌ {A = Bool} true false = a in cc)
may_lack (message.Plain (plain.Bootstrap x)) a = tt
may_lack (message.Plain (plain.Call x)) a = tt
may_lack (message.Plain (plain.Return x)) a = tt
may_lack (message.Plain (plain.Finish x)) a = tt
may_lack (message.Plain (plain.Resolve x)) a = tt
may_lack (message.Plain (plain.Release x)) a = tt
may_lack (message.Plain (plain.Disembargo x)) a = tt
may_lack (message.Plain (plain.Other x)) a = tt
may_lack (message.Unimplemented x) a = tt

received_by : (s : State) (m : Message) (e : Effects) (new : State) (d : Option ℕ) → s.down ≡ d → is_abort m ≡ false → ShutsFrom s want_of_room d e new → Receives s m e new
received_by s m e new None u a h = LacksRoom u (may_lack m a) h
received_by s m e new (Some n) u a h = WasDown (ap is_some u) h

-- Going down for want of room is what a message may do that is no Abort.
pub received : (s : State) (m : Message) (e : Effects) (new : State) → is_abort m ≡ false → ShutsFrom s want_of_room s.down e new → Receives s m e new
received s m e new a h = received_by s m e new s.down refl a h

-- An Abort takes a vat down.
pub aborted : (m : Message) (s : State) (e : Effects) (t : State) → is_abort m ≡ true → Receives s m e t → IsSome t.down
aborted m s e t a (WasDown d u) = subst (λ (x : State). IsSome x.down) (sym u.new_is) d
aborted m s e t a (FaultsBy n up f said is) = subst (λ (x : State). IsSome x.down) (sym is) refl
aborted m s e t a (LacksRoom up may falls) = subst (λ (x : State). IsSome x.down) (sym falls.new_is) refl
aborted m s e t a (IsHandled up none handles within) = absurd (faults m s a none)
  where
    faults : (m : Message) (s : State) → is_abort m ≡ true → fault_of s m ≡ None → ⊥
    faults (message.Plain (plain.Abort x)) s a none = by s.level none
      where
        by : (l : Level) → fault_of (record s { level = l }) (message.Plain (plain.Abort x)) ≡ None → ⊥
        by level.Zero n = absurd (let k : ◌≡◌ {A = Option ℕ} (Some peer_abort) None = n in cc)
        by level.One n = absurd (let k : ◌≡◌ {A = Option ℕ} (Some peer_abort) None = n in cc)
    faults (message.Plain (plain.Bootstrap x)) s a none = absurd (let k : ◌≡◌ {A = Bool} false true = a in cc)
    faults (message.Plain (plain.Call x)) s a none = absurd (let k : ◌≡◌ {A = Bool} false true = a in cc)
    faults (message.Plain (plain.Return x)) s a none = absurd (let k : ◌≡◌ {A = Bool} false true = a in cc)
    faults (message.Plain (plain.Finish x)) s a none = absurd (let k : ◌≡◌ {A = Bool} false true = a in cc)
    faults (message.Plain (plain.Resolve x)) s a none = absurd (let k : ◌≡◌ {A = Bool} false true = a in cc)
    faults (message.Plain (plain.Release x)) s a none = absurd (let k : ◌≡◌ {A = Bool} false true = a in cc)
    faults (message.Plain (plain.Disembargo x)) s a none = absurd (let k : ◌≡◌ {A = Bool} false true = a in cc)
    faults (message.Plain (plain.Other x)) s a none = absurd (let k : ◌≡◌ {A = Bool} false true = a in cc)
    faults (message.Unimplemented x) s a none = absurd (let k : ◌≡◌ {A = Bool} false true = a in cc)

down_by : (s : State) (n : ℕ) (d : Option ℕ) (e : Effects) (t : State) → s.down ≡ d → ShutsFrom s n d e t → IsSome t.down
down_by s n None e t is h = subst (λ (x : State). IsSome x.down) (sym h.new_is) refl
down_by s n (Some k) e t is h = subst (λ (x : State). IsSome x.down) (sym h.new_is) (subst (λ (o : Option ℕ). IsSome o) (sym is) refl)

-- A shut leaves a vat that is down.
pub down_shut : (s : State) (n : ℕ) (e : Effects) (t : State) → ShutsFrom s n s.down e t → IsSome t.down
down_shut s n e t h = down_by s n s.down e t refl h
