-- Two hosts are two vats in one world: act by act.
use Rattle.std.proofs.Common.{◌≡◌, ℕ, List, [], ◌∷◌, ◌++◌, append-nil, append_assoc, flat_map, Option, None, Some, IsSome, Ok, Err, inl, inr, refl, sym, ap, subst, ◌∙◌}
use Rattle.rpc_msg.specs.Vats.{other_vat}
use Rattle.rpc_msg.specs.declared.ids.ObjectId.{ObjectId}
use Rattle.rpc_msg.specs.declared.ids.Vat.{Vat}
use Rattle.rpc_msg.specs.declared.ids.Vat.TheVariants.{A, B}
use Rattle.rpc_msg.specs.declared.message.Message.{Message}
use Rattle.rpc_machine.specs.declared.command.Command.{Command}
use Rattle.rpc_machine.specs.declared.command.Granted.{Granted}
use Rattle.rpc_machine.specs.declared.command.Refusal.{Refusal}
use Rattle.rpc_machine.specs.declared.command.Effects.{Effects}
use Rattle.rpc_machine.specs.Progress.{quiet}
use Rattle.rpc_machine.specs.State.{State}
use Rattle.rpc_machine.specs.Steps.{Obeys, Receives}
use Rattle.rpc_machine.specs.World.{World, Happening, Run, core, inbox, new_world, Happens}
use Rattle.rpc_machine.proofs.StaysDown.{command_down, receive_down}
use Rattle.vat_host.specs.declared.event.Event.{Event}
use Rattle.vat_host.specs.declared.event.Event.TheVariants as event
use Rattle.vat_host.specs.Hosting.{Hosted, Does, Refuses, Tells, TellsDown, TellsOldest, TellsFreed}
use Rattle.vat_host.specs.Watching.{known_by}
use Rattle.vat_hosts.specs.Calls.{calls_told, of_calls}
use Rattle.vat_hosts.specs.Hosts.{Act, Acts, ActsAll, Done, HandsTo, Hosts, done_by, host, in_hand, new_hosts, put_host, put_in_hand, told_by, without}
use Rattle.vat_hosts.specs.Hosts.Act.{Commands, Takes, Hands, Asks}
use Rattle.vat_hosts.specs.Worlds.{done_in, told_in}
use Rattle.vat_hosts.proofs.Calls.{known_no_call, more_calls, quiet_tells}
use Rattle.vat_hosts.proofs.Happening.{Leaves, commanded, delivered, hears_so, obeys_so, run_more}
use Rattle.vat_hosts.proofs.Sides.{IsTied, drop_tied, flat_behind, hear_tied, none_behind, say_tied, step_tied, take_tied, tell_tied, tied_as, tied_for}

both : (u : Vat) (P : Vat → Type 0) → P u → P (other_vat u) → (v : Vat) → P v
both A P here there A = here
both A P here there B = there
both B P here there A = there
both B P here there B = here

abbrev pub IsSide : List Act → List Happening → Hosts → World → Vat → Type 0
IsSide xs hs p w v =
    IsTied (flat_map (told_by v) xs) (flat_map of_calls (host p v).events) (host p v).core (in_hand p v) (host p (other_vat v)).messages (flat_map (told_in v) hs) (core w v) (inbox w v)

module _ (root_a root_b : Option ObjectId) where
  -- A run that is what was done with the hosts, so far.
  pub record So (xs : List Act) (p : Hosts) : Type 0 where
    pub happened : List Happening
    pub world : World
    pub ran : Run (new_world root_a root_b) happened world
    pub done : flat_map done_in happened ≡ flat_map done_by xs
    pub sides : (v : Vat) → IsSide xs happened p world v

  pub so_new : So [] (new_hosts root_a root_b)
  so_new = record {
    happened = [];
    world = new_world root_a root_b;
    ran = refl;
    done = refl;
    sides = both A (IsSide [] [] (new_hosts root_a root_b) (new_world root_a root_b)) (record { told = refl; core = refl; way = refl }) (record { told = refl; core = refl; way = refl });
  }

  -- ---- a step of a vat

  module _ (xs : List Act) (x : Act) (hs : List Happening) (y : Happening) (w new : World) (e : Effects) (t : State) where
    module _ (v : Vat) (silent : (u : Vat) → told_by u x ≡ []) (tells : told_in v y ≡ calls_told e) (others : told_in (other_vat v) y ≡ []) where
      -- of the vat itself, and of the other
      here : (events : List Event) (c : State) (hand said left : List Message) → Leaves w v e t left new → (IsSome c.down → t ≡ c)
          → IsTied (flat_map (told_by v) xs) events c hand said (flat_map (told_in v) hs) (core w v) left
          → IsTied (flat_map (told_by v) (xs ++ x ∷ [])) (events ++ calls_told e) t hand said (flat_map (told_in v) (hs ++ y ∷ [])) (core new v) (inbox new v)
      here events c hand said left leaves stays tie =
          tied_as (step_tied tie (calls_told e) t stays) (flat_map (told_by v) (xs ++ x ∷ [])) (flat_map (told_in v) (hs ++ y ∷ [])) (core new v) (inbox new v)
          (none_behind (told_by v) xs x (silent v))
          (flat_behind (told_in v) hs y ∙ ap (λ (l : List Event). flat_map (told_in v) hs ++ l) tells)
          leaves.core_is
          leaves.left_is

      there : (events : List Event) (c : State) (hand said left : List Message) → Leaves w v e t left new
          → IsTied (flat_map (told_by (other_vat v)) xs) events c hand said (flat_map (told_in (other_vat v)) hs) (core w (other_vat v)) (inbox w (other_vat v))
          → IsTied (flat_map (told_by (other_vat v)) (xs ++ x ∷ [])) events c hand (said ++ e.sends) (flat_map (told_in (other_vat v)) (hs ++ y ∷ [])) (core new (other_vat v)) (inbox new (other_vat v))
      there events c hand said left leaves tie =
          tied_as (say_tied tie e.sends) (flat_map (told_by (other_vat v)) (xs ++ x ∷ [])) (flat_map (told_in (other_vat v)) (hs ++ y ∷ [])) (core new (other_vat v)) (inbox new (other_vat v))
          (none_behind (told_by (other_vat v)) xs x (silent (other_vat v)))
          (none_behind (told_in (other_vat v)) hs y others)
          leaves.other_core
          leaves.sent

  -- What is done is an event of the world.
  one_more : (xs : List Act) (x : Act) (p q : Hosts) (so : So xs p) (y : Happening) (new : World) → Happens so.world y new → done_in y ≡ done_by x
      → ((v : Vat) → IsSide (xs ++ x ∷ []) (so.happened ++ y ∷ []) q new v) → So (xs ++ x ∷ []) q
  one_more xs x p q so y new happens done sides = record {
    happened = so.happened ++ y ∷ [];
    world = new;
    ran = run_more (new_world root_a root_b) so.happened so.world y new so.ran happens;
    done = flat_behind done_in so.happened y ∙ ap (λ (l : List Done). l ++ done_in y) so.done ∙ ap (λ (l : List Done). flat_map done_by xs ++ l) done ∙ sym (flat_behind done_by xs x);
    sides = sides;
  }

  -- What is done is none.
  same_world : (xs : List Act) (x : Act) (p q : Hosts) (so : So xs p) → done_by x ≡ [] → ((v : Vat) → IsSide (xs ++ x ∷ []) so.happened q so.world v) → So (xs ++ x ∷ []) q
  same_world xs x p q so none sides = record {
    happened = so.happened;
    world = so.world;
    ran = so.ran;
    done = so.done ∙ sym (none_behind done_by xs x none);
    sides = sides;
  }

  -- Of a side that is as it was nothing was told.
  silent_side : (xs : List Act) (x : Act) (hs : List Happening) (p : Hosts) (w : World) (v : Vat) → told_by v x ≡ [] → IsSide xs hs p w v → IsSide (xs ++ x ∷ []) hs p w v
  silent_side xs x hs p w v none tie =
      tied_as tie (flat_map (told_by v) (xs ++ x ∷ [])) (flat_map (told_in v) hs) (core w v) (inbox w v) (none_behind (told_by v) xs x none) refl refl refl

  -- ---- commands

  stays_down : (s t : State) (c : Command) (g : Granted) (e : Effects) → Obeys s c (Ok g) e t → IsSome s.down → t ≡ s
  stays_down s t c g e obeys down = (command_down s c (Ok g) e t down obeys).new_is

  does : (v : Vat) (xs : List Act) (p : Hosts) (c : Command) (g : Granted) (h : Hosted) → So xs p → Does (host p v) c g h → So (xs ++ Commands v c (Ok g) ∷ []) (put_host p v h)
  does A xs p c g h so (e, obeys, is) =
      let tie = so.sides A in
      let hap = obeys_so so.world A c g e h.core (subst (λ (s : State). Obeys s c (Ok g) e h.core) (sym tie.core) obeys) in
      one_more xs (Commands A c (Ok g)) p (put_host p A h) so (commanded A c g e) hap.0 hap.1 refl
      (both A (IsSide (xs ++ Commands A c (Ok g) ∷ []) (so.happened ++ commanded A c g e ∷ []) (put_host p A h) hap.0)
      (tied_for
      (here xs (Commands A c (Ok g)) so.happened (commanded A c g e) so.world hap.0 e h.core A (λ u. refl) refl refl (flat_map of_calls p.a.host.events) p.a.host.core p.a.in_hand p.b.host.messages (inbox so.world A) hap.2
      (stays_down p.a.host.core h.core c g e obeys) tie)
      (flat_map of_calls h.events) h.core p.b.host.messages (ap (λ (h : Hosted). flat_map of_calls h.events) is ∙ more_calls p.a.host.events e None refl) refl refl)
      (tied_for
      (there xs (Commands A c (Ok g)) so.happened (commanded A c g e) so.world hap.0 e h.core A (λ u. refl) refl refl (flat_map of_calls p.b.host.events) p.b.host.core p.b.in_hand p.a.host.messages (inbox so.world A) hap.2 (so.sides B))
      (flat_map of_calls p.b.host.events) p.b.host.core h.messages refl refl (ap (λ (h : Hosted). h.messages) is)))
  does B xs p c g h so (e, obeys, is) =
      let tie = so.sides B in
      let hap = obeys_so so.world B c g e h.core (subst (λ (s : State). Obeys s c (Ok g) e h.core) (sym tie.core) obeys) in
      one_more xs (Commands B c (Ok g)) p (put_host p B h) so (commanded B c g e) hap.0 hap.1 refl
      (both B (IsSide (xs ++ Commands B c (Ok g) ∷ []) (so.happened ++ commanded B c g e ∷ []) (put_host p B h) hap.0)
      (tied_for
      (here xs (Commands B c (Ok g)) so.happened (commanded B c g e) so.world hap.0 e h.core B (λ u. refl) refl refl (flat_map of_calls p.b.host.events) p.b.host.core p.b.in_hand p.a.host.messages (inbox so.world B) hap.2
      (stays_down p.b.host.core h.core c g e obeys) tie)
      (flat_map of_calls h.events) h.core p.a.host.messages (ap (λ (h : Hosted). flat_map of_calls h.events) is ∙ more_calls p.b.host.events e None refl) refl refl)
      (tied_for
      (there xs (Commands B c (Ok g)) so.happened (commanded B c g e) so.world hap.0 e h.core B (λ u. refl) refl refl (flat_map of_calls p.a.host.events) p.a.host.core p.a.in_hand p.b.host.messages (inbox so.world B) hap.2 (so.sides A))
      (flat_map of_calls p.a.host.events) p.a.host.core h.messages refl refl (ap (λ (h : Hosted). h.messages) is)))

  put_same : (v : Vat) (p : Hosts) → put_host p v (host p v) ≡ p
  put_same A p = refl
  put_same B p = refl

  refuses : (v : Vat) (xs : List Act) (p : Hosts) (c : Command) (r : Refusal) (h : Hosted) → So xs p → Refuses (host p v) c r h → So (xs ++ Commands v c (Err r) ∷ []) (put_host p v h)
  refuses v xs p c r h so (why, same) =
      subst (λ (q : Hosts). So (xs ++ Commands v c (Err r) ∷ []) q) (sym (ap (λ (h : Hosted). put_host p v h) same ∙ put_same v p))
      (same_world xs (Commands v c (Err r)) p p so refl (λ u. silent_side xs (Commands v c (Err r)) so.happened p so.world u refl (so.sides u)))

  -- ---- messages

  takes : (v : Vat) (xs : List Act) (p : Hosts) (m : Message) (ms : List Message) → So xs p → (host p v).messages ≡ m ∷ ms
      → So (xs ++ Takes v ∷ []) (put_in_hand (put_host p v (without (host p v) ms)) (other_vat v) (in_hand p (other_vat v) ++ m ∷ []))
  takes A xs p m ms so is =
      let q = put_in_hand (put_host p A (without (host p A) ms)) B (in_hand p B ++ m ∷ []) in
      let tie = silent_side xs (Takes A) so.happened p so.world B refl (so.sides B) in
      same_world xs (Takes A) p q so refl
      (both A (IsSide (xs ++ Takes A ∷ []) so.happened q so.world) (silent_side xs (Takes A) so.happened p so.world A refl (so.sides A))
      (take_tied (flat_map (told_by B) (xs ++ Takes A ∷ [])) (flat_map of_calls p.b.host.events) p.b.host.core m p.b.in_hand ms (flat_map (told_in B) so.happened) (core so.world B) (inbox so.world B)
      (tied_for tie (flat_map of_calls p.b.host.events) p.b.host.core (m ∷ ms) refl refl (sym is))))
  takes B xs p m ms so is =
      let q = put_in_hand (put_host p B (without (host p B) ms)) A (in_hand p A ++ m ∷ []) in
      let tie = silent_side xs (Takes B) so.happened p so.world A refl (so.sides A) in
      same_world xs (Takes B) p q so refl
      (both B (IsSide (xs ++ Takes B ∷ []) so.happened q so.world) (silent_side xs (Takes B) so.happened p so.world B refl (so.sides B))
      (take_tied (flat_map (told_by A) (xs ++ Takes B ∷ [])) (flat_map of_calls p.a.host.events) p.a.host.core m p.a.in_hand ms (flat_map (told_in A) so.happened) (core so.world A) (inbox so.world A)
      (tied_for tie (flat_map of_calls p.a.host.events) p.a.host.core (m ∷ ms) refl refl (sym is))))

  quiet_sends : (e : Effects) → e ≡ quiet → e.sends ≡ []
  quiet_sends e is = ap (λ (x : Effects). x.sends) is

  hands_a : (xs : List Act) (p : Hosts) (m : Message) (ms : List Message) (h : Hosted) → So xs p → in_hand p A ≡ m ∷ ms → (e : Effects) → Receives p.a.host.core m e h.core
      → flat_map of_calls h.events ≡ flat_map of_calls p.a.host.events ++ calls_told e → h.messages ≡ p.a.host.messages ++ e.sends → (d : Option ℕ) → p.a.host.core.down ≡ d → So (xs ++ Hands A ∷ []) (put_host (put_in_hand p A ms) A h)
  hands_a xs p m ms h so is e receives events said None up =
      let tie = subst (λ (l : List Message). IsTied (flat_map (told_by A) xs) (flat_map of_calls p.a.host.events) p.a.host.core l p.b.host.messages (flat_map (told_in A) so.happened) (core so.world A) (inbox so.world A)) is (so.sides A) in
      let heard = hear_tied (flat_map (told_by A) xs) (flat_map of_calls p.a.host.events) p.a.host.core m ms p.b.host.messages (flat_map (told_in A) so.happened) (core so.world A) (inbox so.world A) tie up in
      let hap = hears_so so.world A m (ms ++ p.b.host.messages) e h.core heard.0 (ap (λ (s : State). s.down) tie.core ∙ up) (subst (λ (s : State). Receives s m e h.core) (sym tie.core) receives) in
      one_more xs (Hands A) p (put_host (put_in_hand p A ms) A h) so (delivered A e) hap.0 hap.1 refl
      (both A (IsSide (xs ++ Hands A ∷ []) (so.happened ++ delivered A e ∷ []) (put_host (put_in_hand p A ms) A h) hap.0)
      (tied_for
      (here xs (Hands A) so.happened (delivered A e) so.world hap.0 e h.core A (λ u. refl) refl refl (flat_map of_calls p.a.host.events) p.a.host.core ms p.b.host.messages (ms ++ p.b.host.messages) hap.2 (is_up p.a.host.core.down up) heard.1)
      (flat_map of_calls h.events) h.core p.b.host.messages events refl refl)
      (tied_for
      (there xs (Hands A) so.happened (delivered A e) so.world hap.0 e h.core A (λ u. refl) refl refl (flat_map of_calls p.b.host.events) p.b.host.core p.b.in_hand p.a.host.messages (ms ++ p.b.host.messages) hap.2 (so.sides B))
      (flat_map of_calls p.b.host.events) p.b.host.core h.messages refl refl said))
    where
      is_up : {Z : Type 0} (d : Option ℕ) → d ≡ None → IsSome d → Z
      is_up None up down = absurd cc
      is_up (Some n) up down = absurd cc
  hands_a xs p m ms h so is e receives events said (Some n) down =
      let tie = subst (λ (l : List Message). IsTied (flat_map (told_by A) xs) (flat_map of_calls p.a.host.events) p.a.host.core l p.b.host.messages (flat_map (told_in A) so.happened) (core so.world A) (inbox so.world A)) is (so.sides A) in
      let is_down : IsSome p.a.host.core.down = subst (λ (d : Option ℕ). IsSome d) (sym down) refl in
      let same = receive_down p.a.host.core m e h.core is_down receives in
      let q = put_host (put_in_hand p A ms) A h in
      let dropped = drop_tied (flat_map (told_by A) xs) (flat_map of_calls p.a.host.events) p.a.host.core m ms p.b.host.messages (flat_map (told_in A) so.happened) (core so.world A) (inbox so.world A) tie is_down in
      let as_was = tied_for dropped (flat_map of_calls h.events) h.core p.b.host.messages (events ∙ ap (λ (l : List Event). flat_map of_calls p.a.host.events ++ l) (quiet_tells e same.effects_are) ∙ append-nil (flat_map of_calls p.a.host.events)) same.new_is refl in
      same_world xs (Hands A) p q so refl
      (both A (IsSide (xs ++ Hands A ∷ []) so.happened q so.world)
      (tied_as as_was (flat_map (told_by A) (xs ++ Hands A ∷ [])) (flat_map (told_in A) so.happened) (core so.world A) (inbox so.world A) (none_behind (told_by A) xs (Hands A) refl) refl refl refl)
      (tied_for (silent_side xs (Hands A) so.happened p so.world B refl (so.sides B)) (flat_map of_calls p.b.host.events) p.b.host.core h.messages refl refl
      (said ∙ ap (λ (l : List Message). p.a.host.messages ++ l) (quiet_sends e same.effects_are) ∙ append-nil p.a.host.messages)))

  hands_b : (xs : List Act) (p : Hosts) (m : Message) (ms : List Message) (h : Hosted) → So xs p → in_hand p B ≡ m ∷ ms → (e : Effects) → Receives p.b.host.core m e h.core
      → flat_map of_calls h.events ≡ flat_map of_calls p.b.host.events ++ calls_told e → h.messages ≡ p.b.host.messages ++ e.sends → (d : Option ℕ) → p.b.host.core.down ≡ d → So (xs ++ Hands B ∷ []) (put_host (put_in_hand p B ms) B h)
  hands_b xs p m ms h so is e receives events said None up =
      let tie = subst (λ (l : List Message). IsTied (flat_map (told_by B) xs) (flat_map of_calls p.b.host.events) p.b.host.core l p.a.host.messages (flat_map (told_in B) so.happened) (core so.world B) (inbox so.world B)) is (so.sides B) in
      let heard = hear_tied (flat_map (told_by B) xs) (flat_map of_calls p.b.host.events) p.b.host.core m ms p.a.host.messages (flat_map (told_in B) so.happened) (core so.world B) (inbox so.world B) tie up in
      let hap = hears_so so.world B m (ms ++ p.a.host.messages) e h.core heard.0 (ap (λ (s : State). s.down) tie.core ∙ up) (subst (λ (s : State). Receives s m e h.core) (sym tie.core) receives) in
      one_more xs (Hands B) p (put_host (put_in_hand p B ms) B h) so (delivered B e) hap.0 hap.1 refl
      (both B (IsSide (xs ++ Hands B ∷ []) (so.happened ++ delivered B e ∷ []) (put_host (put_in_hand p B ms) B h) hap.0)
      (tied_for
      (here xs (Hands B) so.happened (delivered B e) so.world hap.0 e h.core B (λ u. refl) refl refl (flat_map of_calls p.b.host.events) p.b.host.core ms p.a.host.messages (ms ++ p.a.host.messages) hap.2 (is_up p.b.host.core.down up) heard.1)
      (flat_map of_calls h.events) h.core p.a.host.messages events refl refl)
      (tied_for
      (there xs (Hands B) so.happened (delivered B e) so.world hap.0 e h.core B (λ u. refl) refl refl (flat_map of_calls p.a.host.events) p.a.host.core p.a.in_hand p.b.host.messages (ms ++ p.a.host.messages) hap.2 (so.sides A))
      (flat_map of_calls p.a.host.events) p.a.host.core h.messages refl refl said))
    where
      is_up : {Z : Type 0} (d : Option ℕ) → d ≡ None → IsSome d → Z
      is_up None up down = absurd cc
      is_up (Some n) up down = absurd cc
  hands_b xs p m ms h so is e receives events said (Some n) down =
      let tie = subst (λ (l : List Message). IsTied (flat_map (told_by B) xs) (flat_map of_calls p.b.host.events) p.b.host.core l p.a.host.messages (flat_map (told_in B) so.happened) (core so.world B) (inbox so.world B)) is (so.sides B) in
      let is_down : IsSome p.b.host.core.down = subst (λ (d : Option ℕ). IsSome d) (sym down) refl in
      let same = receive_down p.b.host.core m e h.core is_down receives in
      let q = put_host (put_in_hand p B ms) B h in
      let dropped = drop_tied (flat_map (told_by B) xs) (flat_map of_calls p.b.host.events) p.b.host.core m ms p.a.host.messages (flat_map (told_in B) so.happened) (core so.world B) (inbox so.world B) tie is_down in
      let as_was = tied_for dropped (flat_map of_calls h.events) h.core p.a.host.messages (events ∙ ap (λ (l : List Event). flat_map of_calls p.b.host.events ++ l) (quiet_tells e same.effects_are) ∙ append-nil (flat_map of_calls p.b.host.events)) same.new_is refl in
      same_world xs (Hands B) p q so refl
      (both B (IsSide (xs ++ Hands B ∷ []) so.happened q so.world)
      (tied_as as_was (flat_map (told_by B) (xs ++ Hands B ∷ [])) (flat_map (told_in B) so.happened) (core so.world B) (inbox so.world B) (none_behind (told_by B) xs (Hands B) refl) refl refl refl)
      (tied_for (silent_side xs (Hands B) so.happened p so.world A refl (so.sides A)) (flat_map of_calls p.a.host.events) p.a.host.core h.messages refl refl
      (said ∙ ap (λ (l : List Message). p.b.host.messages ++ l) (quiet_sends e same.effects_are) ∙ append-nil p.b.host.messages)))

  hands : (v : Vat) (xs : List Act) (p q : Hosts) → So xs p → HandsTo p v q → So (xs ++ Hands v ∷ []) q
  hands A xs p q so (m, ms, is, (h, (mid, (reason, noted, mid_is), (e, receives, h_is)), q_is)) =
      subst (λ (q : Hosts). So (xs ++ Hands A ∷ []) q) (sym q_is)
      (hands_a xs p m ms h so is e (subst (λ (k : Hosted). Receives k.core m e h.core) mid_is receives)
      (ap (λ (k : Hosted). flat_map of_calls k.events) h_is ∙ more_calls mid.events e (known_by m mid.core h.core) (known_no_call m mid.core h.core) ∙ ap (λ (k : Hosted). flat_map of_calls k.events ++ calls_told e) mid_is)
      (ap (λ (k : Hosted). k.messages) h_is ∙ ap (λ (k : Hosted). k.messages ++ e.sends) mid_is) p.a.host.core.down refl)
  hands B xs p q so (m, ms, is, (h, (mid, (reason, noted, mid_is), (e, receives, h_is)), q_is)) =
      subst (λ (q : Hosts). So (xs ++ Hands B ∷ []) q) (sym q_is)
      (hands_b xs p m ms h so is e (subst (λ (k : Hosted). Receives k.core m e h.core) mid_is receives)
      (ap (λ (k : Hosted). flat_map of_calls k.events) h_is ∙ more_calls mid.events e (known_by m mid.core h.core) (known_no_call m mid.core h.core) ∙ ap (λ (k : Hosted). flat_map of_calls k.events ++ calls_told e) mid_is)
      (ap (λ (k : Hosted). k.messages) h_is ∙ ap (λ (k : Hosted). k.messages ++ e.sends) mid_is) p.b.host.core.down refl)

  -- ---- what is told

  -- Nothing has changed but what is to be told: these are the calls in it.
  abbrev AsWas : Hosted → List Event → Hosted → Type 0
  AsWas old calls h = (h.core ≡ old.core) × (h.messages ≡ old.messages) × (flat_map of_calls h.events ≡ calls)

  -- The side of whose events these are left, where that was told.
  told_side : (xs : List Act) (x : Act) (hs : List Happening) (before calls : List Event) (h old : Hosted) (hand said : List Message) (v : Vat) (w : World) → flat_map (told_by v) (xs ++ x ∷ []) ≡ before
      → AsWas old calls h → IsTied before calls old.core hand said (flat_map (told_in v) hs) (core w v) (inbox w v)
      → IsTied (flat_map (told_by v) (xs ++ x ∷ [])) (flat_map of_calls h.events) h.core hand said (flat_map (told_in v) hs) (core w v) (inbox w v)
  told_side xs x hs before calls h old hand said v w is (core_is, messages, calls_are) tie =
      tied_as (tied_for tie (flat_map of_calls h.events) h.core said calls_are core_is refl) (flat_map (told_by v) (xs ++ x ∷ [])) (flat_map (told_in v) hs) (core w v) (inbox w v) is refl refl refl

  asks_a : (xs : List Act) (p : Hosts) (x : Act) (h : Hosted) (so : So xs p) (before events : List Event) → done_by x ≡ [] → told_by B x ≡ [] → flat_map (told_by A) (xs ++ x ∷ []) ≡ before → AsWas p.a.host events h
      → IsTied before events p.a.host.core p.a.in_hand p.b.host.messages (flat_map (told_in A) so.happened) (core so.world A) (inbox so.world A) → So (xs ++ x ∷ []) (put_host p A h)
  asks_a xs p x h so before events none silent is was tie =
      same_world xs x p (put_host p A h) so none
      (both A (IsSide (xs ++ x ∷ []) so.happened (put_host p A h) so.world) (told_side xs x so.happened before events h p.a.host p.a.in_hand p.b.host.messages A so.world is was tie)
      (tied_for (silent_side xs x so.happened p so.world B silent (so.sides B)) (flat_map of_calls p.b.host.events) p.b.host.core h.messages refl refl was.1))

  asks_b : (xs : List Act) (p : Hosts) (x : Act) (h : Hosted) (so : So xs p) (before events : List Event) → done_by x ≡ [] → told_by A x ≡ [] → flat_map (told_by B) (xs ++ x ∷ []) ≡ before → AsWas p.b.host events h
      → IsTied before events p.b.host.core p.b.in_hand p.a.host.messages (flat_map (told_in B) so.happened) (core so.world B) (inbox so.world B) → So (xs ++ x ∷ []) (put_host p B h)
  asks_b xs p x h so before events none silent is was tie =
      same_world xs x p (put_host p B h) so none
      (both B (IsSide (xs ++ x ∷ []) so.happened (put_host p B h) so.world) (told_side xs x so.happened before events h p.b.host p.b.in_hand p.a.host.messages B so.world is was tie)
      (tied_for (silent_side xs x so.happened p so.world A silent (so.sides A)) (flat_map of_calls p.a.host.events) p.a.host.core h.messages refl refl was.1))

  with_calls : (v : Vat) (xs : List Act) (p : Hosts) (so : So xs p) (calls : List Event) → flat_map of_calls (host p v).events ≡ calls
      → IsTied (flat_map (told_by v) xs) calls (host p v).core (in_hand p v) (host p (other_vat v)).messages (flat_map (told_in v) so.happened) (core so.world v) (inbox so.world v)
  with_calls v xs p so calls is = tied_for (so.sides v) calls (host p v).core (host p (other_vat v)).messages (sym is) refl refl

  asks_oldest : (v : Vat) (xs : List Act) (p : Hosts) (e : Event) (h : Hosted) → So xs p → TellsOldest (host p v) e h → So (xs ++ Asks v (Some e) ∷ []) (put_host p v h)
  asks_oldest A xs p e h so is =
      asks_a xs p (Asks A (Some e)) h so (flat_map (told_by A) xs ++ of_calls e) (flat_map of_calls h.events) refl refl (flat_behind (told_by A) xs (Asks A (Some e)))
      (sym (ap (λ (k : Hosted). k.core) is), sym (ap (λ (k : Hosted). k.messages) is), refl)
      (tell_tied (flat_map (told_by A) xs) (of_calls e) (flat_map of_calls h.events) p.a.host.core p.a.in_hand p.b.host.messages (flat_map (told_in A) so.happened) (core so.world A) (inbox so.world A)
      (with_calls A xs p so (of_calls e ++ flat_map of_calls h.events) (ap (λ (k : Hosted). flat_map of_calls k.events) is)))
  asks_oldest B xs p e h so is =
      asks_b xs p (Asks B (Some e)) h so (flat_map (told_by B) xs ++ of_calls e) (flat_map of_calls h.events) refl refl (flat_behind (told_by B) xs (Asks B (Some e)))
      (sym (ap (λ (k : Hosted). k.core) is), sym (ap (λ (k : Hosted). k.messages) is), refl)
      (tell_tied (flat_map (told_by B) xs) (of_calls e) (flat_map of_calls h.events) p.b.host.core p.b.in_hand p.a.host.messages (flat_map (told_in B) so.happened) (core so.world B) (inbox so.world B)
      (with_calls B xs p so (of_calls e ++ flat_map of_calls h.events) (ap (λ (k : Hosted). flat_map of_calls k.events) is)))

  -- Nothing was told of calls.
  asks_silently : (v : Vat) (xs : List Act) (p : Hosts) (event : Option Event) (h : Hosted) → So xs p → told_by A (Asks v event) ≡ [] → told_by B (Asks v event) ≡ [] → AsWas (host p v) (flat_map of_calls (host p v).events) h
      → So (xs ++ Asks v event ∷ []) (put_host p v h)
  asks_silently A xs p event h so none silent was =
      asks_a xs p (Asks A event) h so (flat_map (told_by A) xs) (flat_map of_calls p.a.host.events) refl silent (none_behind (told_by A) xs (Asks A event) none) was (so.sides A)
  asks_silently B xs p event h so silent none was =
      asks_b xs p (Asks B event) h so (flat_map (told_by B) xs) (flat_map of_calls p.b.host.events) refl silent (none_behind (told_by B) xs (Asks B event) none) was (so.sides B)

  no_call_told : (v u : Vat) (e : Event) → of_calls e ≡ [] → told_by v (Asks u (Some e)) ≡ []
  no_call_told A A e none = none
  no_call_told A B e none = refl
  no_call_told B A e none = refl
  no_call_told B B e none = none

  -- Such an event changes neither the state nor what waits.
  asks_beside : (v : Vat) (xs : List Act) (p : Hosts) (e : Event) (h : Hosted) → So xs p → of_calls e ≡ [] → h.core ≡ (host p v).core → h.messages ≡ (host p v).messages → h.events ≡ (host p v).events
      → So (xs ++ Asks v (Some e) ∷ []) (put_host p v h)
  asks_beside v xs p e h so none core_is messages events = asks_silently v xs p (Some e) h so (no_call_told A v e none) (no_call_told B v e none) (core_is, messages, ap (λ (l : List Event). flat_map of_calls l) events)

  asks_down : (v : Vat) (xs : List Act) (p : Hosts) (e : Event) (h : Hosted) → So xs p → TellsDown (host p v) e h → So (xs ++ Asks v (Some e) ∷ []) (put_host p v h)
  asks_down v xs p (event.Down n reason) h so (none, still, down, why, is) =
      asks_beside v xs p (event.Down n reason) h so refl (ap (λ (k : Hosted). k.core) is) (ap (λ (k : Hosted). k.messages) is) (ap (λ (k : Hosted). k.events) is)
  asks_down v xs p (event.Served d) h so tells = absurd tells
  asks_down v xs p (event.Ended x) h so tells = absurd tells
  asks_down v xs p (event.Resolved place) h so tells = absurd tells
  asks_down v xs p (event.Lifted r) h so tells = absurd tells
  asks_down v xs p (event.Cancelled t) h so tells = absurd tells
  asks_down v xs p (event.Released o) h so tells = absurd tells

  asks_freed : (v : Vat) (xs : List Act) (p : Hosts) (e : Event) (h : Hosted) → So xs p → TellsFreed (host p v) e h → So (xs ++ Asks v (Some e) ∷ []) (put_host p v h)
  asks_freed v xs p (event.Released o) h so (none, up, released, is) =
      asks_beside v xs p (event.Released o) h so refl (ap (λ (k : Hosted). k.core) is) (ap (λ (k : Hosted). k.messages) is) (ap (λ (k : Hosted). k.events) is)
  asks_freed v xs p (event.Cancelled t) h so (none, up, (q, cancelled, is)) =
      asks_beside v xs p (event.Cancelled t) h so refl (ap (λ (k : Hosted). k.core) is) (ap (λ (k : Hosted). k.messages) is) (ap (λ (k : Hosted). k.events) is)
  asks_freed v xs p (event.Served d) h so tells = absurd tells
  asks_freed v xs p (event.Ended x) h so tells = absurd tells
  asks_freed v xs p (event.Resolved place) h so tells = absurd tells
  asks_freed v xs p (event.Lifted r) h so tells = absurd tells
  asks_freed v xs p (event.Down n reason) h so tells = absurd tells

  asks : (v : Vat) (xs : List Act) (p : Hosts) (event : Option Event) (h : Hosted) → So xs p → Tells (host p v) event h → So (xs ++ Asks v event ∷ []) (put_host p v h)
  asks v xs p (Some e) h so (inl tells) = asks_oldest v xs p e h so tells
  asks v xs p (Some e) h so (inr (inl tells)) = asks_freed v xs p e h so tells
  asks v xs p (Some e) h so (inr (inr tells)) = asks_down v xs p e h so tells
  asks v xs p None h so (none, why, is) = asks_silently v xs p None h so refl refl (ap (λ (k : Hosted). k.core) is, ap (λ (k : Hosted). k.messages) is, ap (λ (k : Hosted). flat_map of_calls k.events) is)

  -- ---- all

  one : (xs : List Act) (p : Hosts) (x : Act) (q : Hosts) → So xs p → Acts p x q → So (xs ++ x ∷ []) q
  one xs p (Commands v c (Ok g)) q so (h, done, is) = subst (λ (q : Hosts). So (xs ++ Commands v c (Ok g) ∷ []) q) (sym is) (does v xs p c g h so done)
  one xs p (Commands v c (Err r)) q so (h, refused, is) = subst (λ (q : Hosts). So (xs ++ Commands v c (Err r) ∷ []) q) (sym is) (refuses v xs p c r h so refused)
  one xs p (Takes v) q so (m, ms, is, q_is) = subst (λ (q : Hosts). So (xs ++ Takes v ∷ []) q) (sym q_is) (takes v xs p m ms so is)
  one xs p (Hands v) q so handed = hands v xs p q so handed
  one xs p (Asks v event) q so (h, tells, is) = subst (λ (q : Hosts). So (xs ++ Asks v event ∷ []) q) (sym is) (asks v xs p event h so tells)

  pub so_all : (before xs : List Act) (p q : Hosts) → So before p → ActsAll p xs q → So (before ++ xs) q
  so_all before [] p q so same = subst (λ (l : List Act). So l q) (sym (append-nil before)) (subst (λ (p : Hosts). So before p) (sym same) so)
  so_all before (x ∷ xs) p q so (mid, first, more) =
      subst (λ (l : List Act). So l q) (append_assoc before (x ∷ []) xs) (so_all (before ++ x ∷ []) xs mid q (one before p x mid so first) more)
