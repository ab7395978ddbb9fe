-- What a host told as released is not served until it is hosted.
use Rattle.std.proofs.Common.{◌≡◌, ◌≢◌, ℕ, Bool, true, false, nat_lt, List, [], ◌∷◌, ◌++◌, map, Option, None, Some, Result, Ok, Err, inl, inr, refl, sym, ap, subst, ◌∙◌, arith}
use Rattle.rpc_msg.specs.declared.ids.ObjectId.{ObjectId}
use Rattle.rpc_msg.specs.declared.message.Message.{Message}
use Rattle.rpc_journal.specs.declared.report.Delivery.{Delivery}
use Rattle.rpc_journal.specs.declared.report.Ended.{Ended}
use Rattle.rpc_machine.specs.declared.command.Command.{Command}
use Rattle.rpc_machine.specs.declared.command.Effects.{Effects}
use Rattle.rpc_machine.specs.declared.command.Granted.{Granted}
use Rattle.rpc_machine.specs.declared.command.Refusal.{Refusal}
use Rattle.rpc_machine.specs.Down.{fallen}
use Rattle.rpc_machine.specs.Places.{names}
use Rattle.rpc_machine.specs.State.{State, start}
use Rattle.rpc_machine.specs.Steps.{Obeys, Receives as CoreReceives}
use Rattle.laws_authority.specs.Reach.{IsIn}
use Rattle.laws_released.specs.Names.{Hosts, is_object}
use Rattle.laws_released.specs.Released.{ComesUnhosted, ReleasedStays}
use Rattle.laws_released.specs.Released as way
use Rattle.vat_host.specs.declared.event.Event.{Event}
use Rattle.vat_host.specs.declared.event.Event.TheVariants as event
use Rattle.vat_host.specs.Hosting.{Hosted, Tells, idle}
use Rattle.vat_host.specs.Queues.{listed, told}
use Rattle.vat_host.specs.Watching.{known_by}
use Rattle.vat_hosts.specs.OneHost.{Act, Acts, ActsAll}
use Rattle.vat_hosts.specs.OneHost.Act.{Commands, Takes, Receives, Asks}
use Rattle.vat_hosts.specs.Released.{IsHostedIn, ReleasedAreNotServed}
use Rattle.vat_hosts.proofs.Known.{AreKnown, Each, known_are}

-- ---- what waits to be told

each_append : (P : Event → Type 0) (es fs : List Event) → Each P es → Each P fs → Each P (es ++ fs)
each_append P [] fs first then = then
each_append P (e ∷ es) fs (one, first) then = (one, each_append P es fs first then)

-- What a step left to tell is such, if each call to serve is.
pub record IsOfSteps (P : Event → Type 0) : Type 0 where
  pub ended : (x : Ended) → P (event.Ended x)
  pub known : AreKnown P

module _ (P : Event → Type 0) (all : IsOfSteps P) where
  served_are : (ds : List Delivery) (more : List Event) → ((y : Delivery) → IsIn y ds → P (event.Served y)) → Each P more → Each P (map event.Served ds ++ more)
  served_are [] more each then = then
  served_are (d ∷ ds) more each then = (each d (inl refl), served_are ds more (λ y i. each y (inr i)) then)

  ended_are : (xs : List Ended) (more : List Event) → Each P more → Each P (map event.Ended xs ++ more)
  ended_are [] more then = then
  ended_are (x ∷ xs) more then = (all.ended x, ended_are xs more then)

  told_are : (x : Effects) (known : Option Event) → ((y : Delivery) → IsIn y x.deliveries → P (event.Served y)) → Each P (listed known) → Each P (told x known)
  told_are x known each then = served_are x.deliveries (map event.Ended x.answers ++ listed known) each (ended_are x.answers (listed known) then)

  -- What is told when a host is asked leaves the others.
  left_by : (h k : Hosted) (e : Option Event) → Tells h e k → Each P h.events → Each P k.events
  left_by h k (Some e) (inl is) each = (subst (λ (l : List Event). Each P l) (ap (λ (j : Hosted). j.events) is) each).1
  left_by h k (Some (event.Released o)) (inr (inl (none, up, released, is))) each = subst (λ (l : List Event). Each P l) (sym (ap (λ (j : Hosted). j.events) is)) each
  left_by h k (Some (event.Cancelled t)) (inr (inl (none, up, (q, cancelled, is)))) each = subst (λ (l : List Event). Each P l) (sym (ap (λ (j : Hosted). j.events) is)) each
  left_by h k (Some (event.Served y)) (inr (inl tells)) each = absurd tells
  left_by h k (Some (event.Ended x)) (inr (inl tells)) each = absurd tells
  left_by h k (Some (event.Resolved p)) (inr (inl tells)) each = absurd tells
  left_by h k (Some (event.Lifted r)) (inr (inl tells)) each = absurd tells
  left_by h k (Some (event.Down n reason)) (inr (inl tells)) each = absurd tells
  left_by h k (Some (event.Down n reason)) (inr (inr (none, still, down, why, is))) each = subst (λ (l : List Event). Each P l) (sym (ap (λ (j : Hosted). j.events) is)) each
  left_by h k (Some (event.Served y)) (inr (inr tells)) each = absurd tells
  left_by h k (Some (event.Ended x)) (inr (inr tells)) each = absurd tells
  left_by h k (Some (event.Resolved p)) (inr (inr tells)) each = absurd tells
  left_by h k (Some (event.Lifted r)) (inr (inr tells)) each = absurd tells
  left_by h k (Some (event.Cancelled t)) (inr (inr tells)) each = absurd tells
  left_by h k (Some (event.Released o)) (inr (inr tells)) each = absurd tells
  left_by h k None (none, why, is) each = subst (λ (l : List Event). Each P l) (sym (ap (λ (j : Hosted). j.events) is)) each

  -- No act leaves an event of another kind, if no delivery of its step does.
  stays_each : (h k : Hosted) (x : Act) → Acts h x k
      → ((c : Command) (g : Granted) (e : Effects) → Obeys h.core c (Ok g) e k.core → x ≡ Commands c (Ok g) → (y : Delivery) → IsIn y e.deliveries → P (event.Served y))
      → ((m : Message) (e : Effects) → CoreReceives h.core m e k.core → (y : Delivery) → IsIn y e.deliveries → P (event.Served y))
      → Each P h.events → Each P k.events
  stays_each h k (Commands c (Ok g)) (e, obeys, is) served heard each =
      subst (λ (l : List Event). Each P l) (sym (ap (λ (j : Hosted). j.events) is)) (each_append P h.events (told e None) each (told_are e None (served c g e obeys refl) tt))
  stays_each h k (Commands c (Err r)) (why, is) served heard each = subst (λ (l : List Event). Each P l) (sym (ap (λ (j : Hosted). j.events) is)) each
  stays_each h k (Takes ms) (left, taken, is) served heard each = subst (λ (l : List Event). Each P l) (sym (ap (λ (j : Hosted). j.events) is)) each
  stays_each h k (Receives m) (mid, (reason, noted, mid_is), (e, receives, is)) served heard each =
      let same : mid.events ≡ h.events = ap (λ (j : Hosted). j.events) mid_is in
      subst (λ (l : List Event). Each P l) (sym (ap (λ (j : Hosted). j.events) is))
      (each_append P mid.events (told e (known_by m mid.core k.core)) (subst (λ (l : List Event). Each P l) (sym same) each)
      (told_are e (known_by m mid.core k.core) (heard m e (subst (λ (j : Hosted). CoreReceives j.core m e k.core) mid_is receives)) (known_are P all.known m mid.core k.core)))
  stays_each h k (Asks e) tells served heard each = left_by h k e tells each

-- ---- what waits is left by steps

-- It is told of a step: neither that a task is cancelled, nor that an object is released, nor that the vat is down.
abbrev pub IsOfStep : Event → Type 0
IsOfStep (event.Cancelled t) = ⊥
IsOfStep (event.Released o) = ⊥
IsOfStep (event.Down n reason) = ⊥
IsOfStep e = Unit {0}

of_step : IsOfSteps IsOfStep
of_step = record { ended = λ x. tt; known = record { resolved = λ p. tt; lifted = λ r. tt } }

pub each_of_step : (h k : Hosted) (xs : List Act) → Each IsOfStep h.events → ActsAll h xs k → Each IsOfStep k.events
each_of_step h k [] each same = subst (λ (j : Hosted). Each IsOfStep j.events) (sym same) each
each_of_step h k (x ∷ xs) each (mid, first, more) = each_of_step mid k xs (stays_each IsOfStep of_step h mid x first (λ c g e o is y i. tt) (λ m e r y i. tt) each) more

-- ---- after it was told

-- No call to the object.
abbrev NotTo : ObjectId → Event → Type 0
NotTo o (event.Served y) = y.object ≢ o
NotTo o e = Unit {0}

not_to : (o : ObjectId) → IsOfSteps (NotTo o)
not_to o = record { ended = λ x. tt; known = record { resolved = λ p. tt; lifted = λ r. tt } }

-- A way goes on by one step.
then_command : (o : ObjectId) (t u : State) (c : Command) (a : Result Granted Refusal) (x : Effects) → Obeys t c a x u → (Hosts c a o → ⊥) → (s : State) → ComesUnhosted o t s → ComesUnhosted o u s
then_command o t u c a x obeys not _ way.Stays = way.Commanded c a x obeys not way.Stays
then_command o t u c a x obeys not _ (way.Commanded {mid = mid} d b y first none more) = way.Commanded d b y first none (then_command o t u c a x obeys not mid more)
then_command o t u c a x obeys not _ (way.Received {mid = mid} m y first more) = way.Received m y first (then_command o t u c a x obeys not mid more)
then_command o t u c a x obeys not _ (way.Fell {s = s} n more) = way.Fell n (then_command o t u c a x obeys not (fallen s n) more)

then_message : (o : ObjectId) (t u : State) (m : Message) (x : Effects) → CoreReceives t m x u → (s : State) → ComesUnhosted o t s → ComesUnhosted o u s
then_message o t u m x receives _ way.Stays = way.Received m x receives way.Stays
then_message o t u m x receives _ (way.Commanded {mid = mid} d b y first none more) = way.Commanded d b y first none (then_message o t u m x receives mid more)
then_message o t u m x receives _ (way.Received {mid = mid} n y first more) = way.Received n y first (then_message o t u m x receives mid more)
then_message o t u m x receives _ (way.Fell {s = s} n more) = way.Fell n (then_message o t u m x receives (fallen s n) more)

module _ (stays : ReleasedStays) (o : ObjectId) (s : State) (other : s.bootstrap ≢ Some o) (unnamed : names s (is_object o) ≡ 0) where
  -- The object is not hosted on the way, and no call to it waits to be told.
  pub record Quiet (h : Hosted) : Type 0 where
    pub comes : ComesUnhosted o h.core s
    pub waits : Each (NotTo o) h.events

  comes_on : (h k : Hosted) (x : Act) → Acts h x k → (IsHostedIn o (x ∷ []) → ⊥) → ComesUnhosted o h.core s → ComesUnhosted o k.core s
  comes_on h k (Commands c (Ok g)) (e, obeys, is) not comes = then_command o h.core k.core c (Ok g) e obeys (λ hosts. not (inl hosts)) s comes
  comes_on h k (Commands c (Err r)) (why, is) not comes = subst (λ (j : Hosted). ComesUnhosted o j.core s) (sym is) comes
  comes_on h k (Takes ms) (left, taken, is) not comes = subst (λ (t : State). ComesUnhosted o t s) (sym (ap (λ (j : Hosted). j.core) is)) comes
  comes_on h k (Receives m) (mid, (reason, noted, mid_is), (e, receives, is)) not comes =
      then_message o h.core k.core m e (subst (λ (j : Hosted). CoreReceives j.core m e k.core) mid_is receives) s comes
  comes_on h k (Asks e) tells not comes = subst (λ (t : State). ComesUnhosted o t s) (same_core h k e tells) comes
    where
      same_core : (h k : Hosted) (e : Option Event) → Tells h e k → h.core ≡ k.core
      same_core h k (Some e) (inl is) = ap (λ (j : Hosted). j.core) is
      same_core h k (Some (event.Released o)) (inr (inl (none, up, released, is))) = sym (ap (λ (j : Hosted). j.core) is)
      same_core h k (Some (event.Cancelled t)) (inr (inl (none, up, (q, cancelled, is)))) = sym (ap (λ (j : Hosted). j.core) is)
      same_core h k (Some (event.Served y)) (inr (inl tells)) = absurd tells
      same_core h k (Some (event.Ended x)) (inr (inl tells)) = absurd tells
      same_core h k (Some (event.Resolved p)) (inr (inl tells)) = absurd tells
      same_core h k (Some (event.Lifted r)) (inr (inl tells)) = absurd tells
      same_core h k (Some (event.Down n reason)) (inr (inl tells)) = absurd tells
      same_core h k (Some (event.Down n reason)) (inr (inr (none, still, down, why, is))) = sym (ap (λ (j : Hosted). j.core) is)
      same_core h k (Some (event.Served y)) (inr (inr tells)) = absurd tells
      same_core h k (Some (event.Ended x)) (inr (inr tells)) = absurd tells
      same_core h k (Some (event.Resolved p)) (inr (inr tells)) = absurd tells
      same_core h k (Some (event.Lifted r)) (inr (inr tells)) = absurd tells
      same_core h k (Some (event.Cancelled t)) (inr (inr tells)) = absurd tells
      same_core h k (Some (event.Released q)) (inr (inr tells)) = absurd tells
      same_core h k None (none, why, is) = sym (ap (λ (j : Hosted). j.core) is)

  quiet_on : (h k : Hosted) (x : Act) → Quiet h → Acts h x k → (IsHostedIn o (x ∷ []) → ⊥) → Quiet k
  quiet_on h k x quiet acts not = record {
    comes = comes_on h k x acts not quiet.comes;
    waits =
        stays_each (NotTo o) (not_to o) h k x acts
        (λ c g e obeys is y i. stays.commands o h.core s quiet.comes other unnamed c (Ok g) e k.core obeys y i)
        (λ m e receives y i. stays.messages o h.core s quiet.comes other unnamed m e k.core receives y i)
        quiet.waits;
  }

  first_not : (x : Act) (xs : List Act) → (IsHostedIn o (x ∷ xs) → ⊥) → IsHostedIn o (x ∷ []) → ⊥
  first_not (Commands c a) xs not (inl hosts) = not (inl hosts)
  first_not (Commands c a) xs not (inr none) = none
  first_not (Takes ms) xs not none = none
  first_not (Receives m) xs not none = none
  first_not (Asks e) xs not none = none

  rest_not : (x : Act) (xs : List Act) → (IsHostedIn o (x ∷ xs) → ⊥) → IsHostedIn o xs → ⊥
  rest_not (Commands c a) xs not hosted = not (inr hosted)
  rest_not (Takes ms) xs not hosted = not hosted
  rest_not (Receives m) xs not hosted = not hosted
  rest_not (Asks e) xs not hosted = not hosted

  quiet_all : (h k : Hosted) (xs : List Act) → Quiet h → ActsAll h xs k → (IsHostedIn o xs → ⊥) → Quiet k
  quiet_all h k [] quiet same not = subst (λ (j : Hosted). Quiet j) (sym same) quiet
  quiet_all h k (x ∷ xs) quiet (mid, first, more) not = quiet_all mid k xs (quiet_on h mid x quiet first (first_not x xs not)) more (rest_not x xs not)

  -- The call that is served next is to another.
  pub served_next : (h k : Hosted) (y : Delivery) → Quiet h → Tells h (Some (event.Served y)) k → y.object ≢ o
  served_next h k y quiet (inl is) = (subst (λ (l : List Event). Each (NotTo o) l) (ap (λ (j : Hosted). j.events) is) quiet.waits).0
  served_next h k y quiet (inr (inl tells)) = absurd tells
  served_next h k y quiet (inr (inr tells)) = absurd tells

zero_if_none : (n : ℕ) → nat_lt 0 n ≡ false → n ≡ 0
zero_if_none n none = grind (arith)

pub not_served : ReleasedStays → ReleasedAreNotServed
not_served stays vat level root xs old before o released (inl is) ys mid acts not y new tells =
    absurd (subst (λ (l : List Event). Each IsOfStep l) (ap (λ (j : Hosted). j.events) is) (each_of_step (idle (start vat level root)) old xs tt before)).0
not_served stays vat level root xs old before o released (inr (inr down)) ys mid acts not y new tells = absurd down
not_served stays vat level root xs old before o released (inr (inl (none, up, is_released, is))) ys mid acts not y new tells =
    let zero = zero_if_none (names old.core (is_object o)) is_released.unnamed in
    let quiet : Quiet stays o old.core is_released.other zero released = record {
      comes = subst (λ (t : State). ComesUnhosted o t old.core) (sym (ap (λ (j : Hosted). j.core) is)) way.Stays;
      waits = subst (λ (l : List Event). Each (NotTo o) l) (sym (ap (λ (j : Hosted). j.events) is ∙ none)) tt;
    } in
    served_next stays o old.core is_released.other zero mid new y (quiet_all stays o old.core is_released.other zero released mid ys quiet acts not) tells
