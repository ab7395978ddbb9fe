-- A host whose vat is down: it stays so, and no act leaves it more to tell than that.
use Rattle.std.proofs.Common.{◌≡◌, ℕ, true, false, cond, List, [], ◌∷◌, ◌++◌, Option, None, Some, is_some, IsSome, Ok, Err, inl, inr, refl, sym, ap, subst, ◌∙◌}
use Rattle.rpc_msg.specs.declared.ids.CallId.{CallId}
use Rattle.rpc_msg.specs.declared.message.Message.{Message}
use Rattle.rpc_machine.specs.declared.command.Command.{Command}
use Rattle.rpc_machine.specs.declared.command.Effects.{Effects}
use Rattle.rpc_machine.specs.declared.command.Granted.TheVariants as granted
use Rattle.rpc_machine.specs.Progress.{begin, quiet}
use Rattle.rpc_machine.specs.Refusals.{refusals, is_shut, without_room}
use Rattle.rpc_machine.specs.State.{State}
use Rattle.rpc_machine.specs.Steps.{Obeys, Receives as CoreReceives}
use Rattle.rpc_machine.specs.Steps.Obeys.{Refuses, LacksMemory, GoesDown, Shuts, IsDone}
use Rattle.rpc_machine.proofs.StaysDown.{acts_no_shut, command_down, not_open, receive_down}
use Rattle.vat_host.specs.declared.event.Event.{Event}
use Rattle.vat_host.specs.declared.event.Event.TheVariants as event
use Rattle.vat_host.specs.Hosting.{Hosted, Tells as HostTells}
use Rattle.vat_host.specs.Queues.{told}
use Rattle.vat_host.specs.Watching.{became, known_by, watched_by}
use Rattle.vat_hosts.specs.OneHost.{Act as HostAct, Acts as HostActs, ActsAll as HostActsAll}
use Rattle.vat_hosts.specs.OneHost.Act.{Commands as HostCommands, Takes as HostTakes, Receives as HostReceives, Asks as HostAsks}

pub none_is_some : (d : Option ℕ) → d ≡ None → IsSome d → ⊥
none_is_some d none some = absurd (let e : false ≡ true = subst (λ (o : Option ℕ). IsSome o) none some in cc)

-- What is told changes no vat.
pub tells_same : (h k : Hosted) (e : Option Event) → HostTells h e k → k.core ≡ h.core
tells_same h k (Some e) (inl is) = sym (ap (λ (j : Hosted). j.core) is)
tells_same h k (Some (event.Released o)) (inr (inl (none, up, released, is))) = ap (λ (j : Hosted). j.core) is
tells_same h k (Some (event.Cancelled t)) (inr (inl (none, up, (q, cancelled, is)))) = ap (λ (j : Hosted). j.core) is
tells_same h k (Some (event.Served y)) (inr (inl tells)) = absurd tells
tells_same h k (Some (event.Ended x)) (inr (inl tells)) = absurd tells
tells_same h k (Some (event.Resolved p)) (inr (inl tells)) = absurd tells
tells_same h k (Some (event.Lifted r)) (inr (inl tells)) = absurd tells
tells_same h k (Some (event.Down n reason)) (inr (inl tells)) = absurd tells
tells_same h k (Some (event.Down n reason)) (inr (inr (none, still, down, why, is))) = ap (λ (j : Hosted). j.core) is
tells_same h k (Some (event.Served y)) (inr (inr tells)) = absurd tells
tells_same h k (Some (event.Ended x)) (inr (inr tells)) = absurd tells
tells_same h k (Some (event.Resolved p)) (inr (inr tells)) = absurd tells
tells_same h k (Some (event.Lifted r)) (inr (inr tells)) = absurd tells
tells_same h k (Some (event.Cancelled t)) (inr (inr tells)) = absurd tells
tells_same h k (Some (event.Released o)) (inr (inr tells)) = absurd tells
tells_same h k None (none, why, is) = ap (λ (j : Hosted). j.core) is

stays_down : (h k : Hosted) (x : HostAct) → HostActs h x k → IsSome h.core.down → k.core ≡ h.core
stays_down h k (HostCommands c (Ok g)) (e, obeys, is) down = (command_down h.core c (Ok g) e k.core down obeys).new_is
stays_down h k (HostCommands c (Err r)) (why, is) down = ap (λ (j : Hosted). j.core) is
stays_down h k (HostTakes ms) (left, taken, is) down = ap (λ (j : Hosted). j.core) is
stays_down h k (HostReceives m) (mid, (reason, noted, mid_is), (e, receives, is)) down =
    (receive_down h.core m e k.core down (subst (λ (j : Hosted). CoreReceives j.core m e k.core) mid_is receives)).new_is
stays_down h k (HostAsks e) tells down = tells_same h k e tells

pub is_down_behind : (h k : Hosted) (xs : List HostAct) → HostActsAll h xs k → IsSome h.core.down → IsSome k.core.down
is_down_behind h k [] same down = subst (λ (j : Hosted). IsSome j.core.down) (sym same) down
is_down_behind h k (x ∷ xs) (mid, first, more) down =
    is_down_behind mid k xs more (subst (λ (s : State). IsSome s.down) (sym (stays_down h mid x first down)) down)

-- It makes no call.
pub no_call_down : (s : State) (c : Command) (id : CallId) (e : Effects) (t : State) → is_some s.down ≡ true → Obeys s c (Ok (granted.Call id)) e t → ⊥
no_call_down s c id e t down (Refuses r f g u) = absurd (let is : Ok (granted.Call id) ≡ Err r = g in cc)
no_call_down s c id e t down (LacksMemory f m g u) = absurd (let is : Ok (granted.Call id) ≡ Err _ = g in cc)
no_call_down s c id e t down (GoesDown f m g u) = absurd (let is : Ok (granted.Call id) ≡ Ok granted.Done = g in cc)
no_call_down s c id e t down (Shuts n f g h) = absurd (let is : Ok (granted.Call id) ≡ Ok granted.Done = g in cc)
no_call_down s c id e t down (IsDone g f a h w) = not_open (is_some s.down) (is_shut c) (refusals s c ++ without_room s c ∷ []) down (acts_no_shut (begin s) c g h.acted h.acts) f

-- ---- nothing is left to tell but that

abbrev Told : Hosted → Type 0
Told h = h.down_notice.told ≡ true

-- The host has nothing to tell of its steps, and if it was told that the vat is down, it still was.
abbrev IsSilent : Hosted → Hosted → Type 0
IsSilent h k = (k.events ≡ []) × (Told h → Told k)

same_notice : (h k : Hosted) → k.events ≡ [] → k.down_notice.told ≡ h.down_notice.told → IsSilent h k
same_notice h k none same = (none, λ told. same ∙ told)

-- A message makes nothing known to the application of a vat that is down.
known_none : (m : Message) (s t : State) → IsSome t.down → known_by m s t ≡ None
known_none m s t down = by t.down refl down
  where
    by : (d : Option ℕ) → t.down ≡ d → IsSome d → known_by m s t ≡ None
    by None e down = absurd (none_is_some None refl down)
    by (Some n) e down = subst (λ (d : Option ℕ). cond (is_some d) None (became (watched_by m s) t) ≡ None) (sym e) refl

silent_act : (h k : Hosted) (x : HostAct) → HostActs h x k → IsSome h.core.down → h.events ≡ [] → IsSilent h k
silent_act h k (HostCommands c (Ok g)) (e, obeys, is) down none =
    let quiet = (command_down h.core c (Ok g) e k.core down obeys).effects_are in
    same_notice h k (ap (λ (j : Hosted). j.events) is ∙ ap (λ (x : Effects). h.events ++ told x None) quiet ∙ ap (λ (l : List Event). l ++ []) none) (ap (λ (j : Hosted). j.down_notice.told) is)
silent_act h k (HostCommands c (Err r)) (why, is) down none = same_notice h k (ap (λ (j : Hosted). j.events) is ∙ none) (ap (λ (j : Hosted). j.down_notice.told) is)
silent_act h k (HostTakes ms) (left, taken, is) down none = same_notice h k (ap (λ (j : Hosted). j.events) is ∙ none) (ap (λ (j : Hosted). j.down_notice.told) is)
silent_act h k (HostReceives m) (mid, (reason, noted, mid_is), (e, receives, is)) down none =
    let unchanged = receive_down h.core m e k.core down (subst (λ (j : Hosted). CoreReceives j.core m e k.core) mid_is receives) in
    let still_down : IsSome k.core.down = subst (λ (s : State). IsSome s.down) (sym unchanged.new_is) down in
    same_notice h k
    (ap (λ (j : Hosted). j.events) is
    ∙ ap (λ (x : Effects). mid.events ++ told x (known_by m mid.core k.core)) unchanged.effects_are
    ∙ ap (λ (o : Option Event). mid.events ++ told quiet o) (known_none m mid.core k.core still_down)
    ∙ ap (λ (j : Hosted). j.events ++ []) mid_is
    ∙ ap (λ (l : List Event). l ++ []) none)
    (ap (λ (j : Hosted). j.down_notice.told) is ∙ ap (λ (j : Hosted). j.down_notice.told) mid_is)
silent_act h k (HostAsks e) tells down none = asks h k e tells down none
  where
    asks : (h k : Hosted) (e : Option Event) → HostTells h e k → IsSome h.core.down → h.events ≡ [] → IsSilent h k
    asks h k (Some e) (inl is) down none = absurd (let both : e ∷ k.events ≡ [] = sym (ap (λ (j : Hosted). j.events) is) ∙ none in cc)
    asks h k (Some (event.Released o)) (inr (inl (left, up, released, is))) down none = absurd (none_is_some h.core.down up down)
    asks h k (Some (event.Cancelled t)) (inr (inl (left, up, (q, cancelled, is)))) down none = absurd (none_is_some h.core.down up down)
    asks h k (Some (event.Served y)) (inr (inl tells)) down none = absurd tells
    asks h k (Some (event.Ended x)) (inr (inl tells)) down none = absurd tells
    asks h k (Some (event.Resolved p)) (inr (inl tells)) down none = absurd tells
    asks h k (Some (event.Lifted r)) (inr (inl tells)) down none = absurd tells
    asks h k (Some (event.Down n reason)) (inr (inl tells)) down none = absurd tells
    asks h k (Some (event.Down n reason)) (inr (inr (left, still, is_down, why, is))) down none = (ap (λ (j : Hosted). j.events) is ∙ none, λ told. ap (λ (j : Hosted). j.down_notice.told) is)
    asks h k (Some (event.Served y)) (inr (inr tells)) down none = absurd tells
    asks h k (Some (event.Ended x)) (inr (inr tells)) down none = absurd tells
    asks h k (Some (event.Resolved p)) (inr (inr tells)) down none = absurd tells
    asks h k (Some (event.Lifted r)) (inr (inr tells)) down none = absurd tells
    asks h k (Some (event.Cancelled t)) (inr (inr tells)) down none = absurd tells
    asks h k (Some (event.Released o)) (inr (inr tells)) down none = absurd tells
    asks h k None (left, why, is) down none = same_notice h k (ap (λ (j : Hosted). j.events) is ∙ none) (ap (λ (j : Hosted). j.down_notice.told) is)

pub silent_behind : (h k : Hosted) (xs : List HostAct) → HostActsAll h xs k → IsSome h.core.down → h.events ≡ [] → IsSilent h k
silent_behind h k [] same down none = same_notice h k (ap (λ (j : Hosted). j.events) same ∙ none) (ap (λ (j : Hosted). j.down_notice.told) same)
silent_behind h k (x ∷ xs) (mid, first, more) down none =
    let one = silent_act h mid x first down none in
    let rest = silent_behind mid k xs more (is_down_behind h mid (x ∷ []) (mid, first, refl) down) one.0 in
    (rest.0, λ told. rest.1 (one.1 told))
