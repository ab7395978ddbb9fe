-- One of two hosts, as it is in the world, and what is on its way to it.
use Rattle.std.proofs.Common.{◌≡◌, ℕ, List, [], ◌∷◌, ◌++◌, append-nil, append_assoc, flat_map, Option, None, Some, IsSome, refl, sym, ap, subst, ◌∙◌}
use Rattle.std.proofs.lemmas.Grind.{flat_map-append}
use Rattle.rpc_msg.specs.declared.message.Message.{Message}
use Rattle.rpc_machine.specs.State.{State}
use Rattle.vat_host.specs.declared.event.Event.{Event}
use Rattle.vat_hosts.specs.Worlds.{IsOnWay}

-- ---- lists

pub flat_behind : {X Y : Type 0} (f : X → List Y) (xs : List X) (x : X) → flat_map f (xs ++ x ∷ []) ≡ flat_map f xs ++ f x
flat_behind f xs x = flat_map-append f xs (x ∷ []) ∙ ap (λ l. flat_map f xs ++ l) (append-nil (f x))

pub none_behind : {X Y : Type 0} (f : X → List Y) (xs : List X) (x : X) → f x ≡ [] → flat_map f (xs ++ x ∷ []) ≡ flat_map f xs
none_behind f xs x none = flat_behind f xs x ∙ ap (λ l. flat_map f xs ++ l) none ∙ append-nil (flat_map f xs)

-- ---- what is on its way

way_on : (d e : Option ℕ) (inbox ms : List Message) → (IsSome d → e ≡ d) → IsOnWay d inbox ms → IsOnWay e inbox ms
way_on None None inbox ms stays way = way
way_on None (Some n) inbox ms stays way = ([], way)
way_on (Some n) e inbox ms stays way = subst (λ (d : Option ℕ). IsOnWay d inbox ms) (sym (stays refl)) way

way_more : (d : Option ℕ) (inbox ms more : List Message) → IsOnWay d inbox ms → IsOnWay d (inbox ++ more) (ms ++ more)
way_more None inbox ms more way = ap (λ (l : List Message). l ++ more) way
way_more (Some n) inbox ms more (dropped, way) = (dropped, ap (λ (l : List Message). l ++ more) way ∙ append_assoc dropped ms more)

way_dropped : (d : Option ℕ) (inbox : List Message) (m : Message) (ms : List Message) → IsSome d → IsOnWay d inbox (m ∷ ms) → IsOnWay d inbox ms
way_dropped None inbox m ms down way = absurd cc
way_dropped (Some n) inbox m ms down (dropped, way) = (dropped ++ m ∷ [], way ∙ sym (append_assoc dropped (m ∷ []) ms))

pub way_up : (d : Option ℕ) (inbox ms : List Message) → d ≡ None → IsOnWay d inbox ms → inbox ≡ ms
way_up d inbox ms up way = subst (λ (d : Option ℕ). IsOnWay d inbox ms) up way

-- ---- one side

-- A host with this core, which was told `before` of calls and has these events of calls to tell, and for which these messages are in hand, where the
-- other has those to say; and, of its vat in a run, what the run tells, the state and the inbox.
pub record IsTied (before events : List Event) (c : State) (hand said : List Message) (tells : List Event) (s : State) (inbox : List Message) : Type 0 where
  pub told : before ++ events ≡ tells
  pub core : s ≡ c
  pub way : IsOnWay c.down inbox (hand ++ said)

module _ {before events : List Event} {c : State} {hand said : List Message} {tells : List Event} {s : State} {inbox : List Message} (tie : IsTied before events c hand said tells s inbox) where
  -- the same of equal lists and states
  pub tied_as : (b t : List Event) (r : State) (i : List Message) → b ≡ before → t ≡ tells → r ≡ s → i ≡ inbox → IsTied b events c hand said t r i
  tied_as b t r i eb et es ei = record {
    told = ap (λ (l : List Event). l ++ events) eb ∙ tie.told ∙ sym et;
    core = es ∙ tie.core;
    way = subst (λ (l : List Message). IsOnWay c.down l (hand ++ said)) (sym ei) tie.way;
  }

  -- the same of an equal host
  pub tied_for : (es : List Event) (d : State) (said_now : List Message) → es ≡ events → d ≡ c → said_now ≡ said → IsTied before es d hand said_now tells s inbox
  tied_for es d said_now ee ed em = record {
    told = ap (λ (l : List Event). before ++ l) ee ∙ tie.told;
    core = tie.core ∙ sym ed;
    way = subst (λ (l : List Message). IsOnWay d.down inbox (hand ++ l)) (sym em) (subst (λ (x : State). IsOnWay x.down inbox (hand ++ said)) (sym ed) tie.way);
  }

  -- It takes a step. One that is down stays as it is.
  pub step_tied : (more : List Event) (t : State) → (IsSome c.down → t ≡ c) → IsTied before (events ++ more) t hand said (tells ++ more) t inbox
  step_tied more t stays = record {
    told = sym (append_assoc before events more) ∙ ap (λ (l : List Event). l ++ more) tie.told;
    core = refl;
    way = way_on c.down t.down inbox (hand ++ said) (λ down. ap (λ (x : State). x.down) (stays down)) tie.way;
  }

  -- The other has more to say.
  pub say_tied : (more : List Message) → IsTied before events c hand (said ++ more) tells s (inbox ++ more)
  say_tied more = record {
    told = tie.told;
    core = tie.core;
    way = subst (λ (l : List Message). IsOnWay c.down (inbox ++ more) l) (append_assoc hand said more) (way_more c.down inbox (hand ++ said) more tie.way);
  }

-- What was in hand for it is on its way no more: it is heard.
pub hear_tied : (before events : List Event) (c : State) (m : Message) (hand said : List Message) (tells : List Event) (s : State) (inbox : List Message)
    → IsTied before events c (m ∷ hand) said tells s inbox → c.down ≡ None → (inbox ≡ m ∷ (hand ++ said)) × IsTied before events c hand said tells s (hand ++ said)
hear_tied before events c m hand said tells s inbox tie up = (
  way_up c.down inbox (m ∷ (hand ++ said)) up tie.way,
  record { told = tie.told; core = tie.core; way = subst (λ (d : Option ℕ). IsOnWay d (hand ++ said) (hand ++ said)) (sym up) refl },
)

-- It is dropped by a vat that is down.
pub drop_tied : (before events : List Event) (c : State) (m : Message) (hand said : List Message) (tells : List Event) (s : State) (inbox : List Message)
    → IsTied before events c (m ∷ hand) said tells s inbox → IsSome c.down → IsTied before events c hand said tells s inbox
drop_tied before events c m hand said tells s inbox tie down =
    record { told = tie.told; core = tie.core; way = way_dropped c.down inbox m (hand ++ said) down tie.way }

-- The oldest that the other has to say is taken.
pub take_tied : (before events : List Event) (c : State) (m : Message) (hand said : List Message) (tells : List Event) (s : State) (inbox : List Message)
    → IsTied before events c hand (m ∷ said) tells s inbox → IsTied before events c (hand ++ m ∷ []) said tells s inbox
take_tied before events c m hand said tells s inbox tie =
    record { told = tie.told; core = tie.core; way = subst (λ (l : List Message). IsOnWay c.down inbox l) (sym (append_assoc hand (m ∷ []) said)) tie.way }

-- What its oldest event says of calls is told.
pub tell_tied : (before out events : List Event) (c : State) (hand said : List Message) (tells : List Event) (s : State) (inbox : List Message)
    → IsTied before (out ++ events) c hand said tells s inbox → IsTied (before ++ out) events c hand said tells s inbox
tell_tied before out events c hand said tells s inbox tie = record { told = append_assoc before out events ∙ tie.told; core = tie.core; way = tie.way }
