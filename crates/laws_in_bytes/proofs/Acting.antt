-- One act at one of two connections that are joined.
use Rattle.std.proofs.Common.{◌≡◌, ◌⊎◌, inl, inr, ℕ, true, false, List, [], ◌∷◌, ◌++◌, append-nil, flat_map, Bool, Option, None, Some, IsSome, Result, Ok, Err, is_some, refl, sym, ap, subst, ◌∙◌, arith}
use Rattle.std.specs.Prelude.{length, not, ◌==◌, ◌&&◌}
use Rattle.std.proofs.lemmas.Bool.Decides.{nat_tests}
use Rattle.rpc_msg.specs.Vats.{other_vat}
use Rattle.rpc_msg.specs.declared.ids.ObjectId.{ObjectId}
use Rattle.rpc_msg.specs.declared.ids.Vat.{Vat}
use Rattle.rpc_msg.specs.declared.message.Message.{Message}
use Rattle.rpc_machine.specs.declared.command.Command.{Command}
use Rattle.rpc_machine.specs.declared.command.Granted.{Granted}
use Rattle.rpc_machine.specs.declared.command.Refusal.{Refusal}
use Rattle.rpc_machine.specs.declared.command.Effects.{Effects}
use Rattle.rpc_machine.specs.Laws.{OfEachStep}
use Rattle.rpc_machine.specs.State.{State}
use Rattle.rpc_machine.specs.Steps.{Obeys}
use Rattle.rpc_machine.specs.World.{Happening}
use Rattle.rpc_machine.proofs.StaysDown.{command_down}
use Rattle.rpc_outgoing.specs.Outflows.{Outflow}
use Rattle.peer_finishes.specs.declared.held.Finishes.{Finishes}
use Rattle.peer_finishes.specs.declared.held.Finishes.TheVariants.{AtOnce}
use Rattle.laws_ends.specs.Names.{KeepsNames}
use Rattle.laws_peers.specs.Alike.{FittingNamesAreAlike}
use Rattle.laws_scenes.specs.Refused.{RunsRefuseNothing}
use Rattle.laws_understood.specs.Understood.{EveryRunIsUnderstood}
use Rattle.laws_wired.specs.Wires.{WiredRun, WiredRunsAreRuns}
use Rattle.vat_host.specs.declared.event.Event.{Event}
use Rattle.vat_host.specs.declared.event.Event.TheVariants as event
use Rattle.vat_host.specs.Hosting.{Hosted, Does, has_only_down}
use Rattle.vat_hosts.specs.Calls.{calls_told, of_calls}
use Rattle.vat_hosts.specs.Worlds.{told_in}
use Rattle.vat_hosts.proofs.Calls.{more_calls}
use Rattle.vat_connection.specs.declared.load.Limits.{Limits}
use Rattle.vat_connection.specs.Speaking.{Speaking, finishing, given}
use Rattle.vat_connection.specs.Hearing.{Inflow}
use Rattle.vat_connection.specs.Connecting.{Connected, Asks as AsksCommand, AsksToFit, CutsOff, TellsDown, TellsFreed, TellsNext, TellsOldest, answered_by, down}
use Rattle.vat_connections.specs.OneConnection.{Act, Acts, told_by as told_by_act}
use Rattle.vat_connections.specs.OneConnection.Act.{Commands, Receives, Ends, Shuts, Gives, Asks, SetsLimits, SetsFinishes}
use Rattle.vat_hosts.specs.OneHost.Act.{Commands as HostCommands}
use Rattle.vat_connections.proofs.Downs.{is_down_behind, silent_behind}
use Rattle.vat_connections.proofs.Working.{Works, ends_stream as works_ends, falls as works_falls, follows as works_follows, works_on}
use Rattle.laws_in_bytes.specs.Wired.{TellsCutOff, but_shut, done_by_act, done_of}
use Rattle.laws_in_bytes.proofs.Viewing.{Reached, View, commanded, commands, commands_down, stepped_view, world_of}
use Rattle.laws_in_bytes.proofs.Tied.{AllAborts, IsPlainly, Link, Tied, falls, not_down, some_down, step_ties, told_elsewhere, told_here}
use Rattle.laws_in_bytes.proofs.Aside.{StandAside}
use Rattle.laws_in_bytes.proofs.Within.{HasSmallIds, command_keeps}
use Rattle.laws_in_bytes.proofs.Flowing.{Flows, Unheard, Waits, coming, ends_stream, follows, works}

-- ---- what is told

-- What the application is told stands in front of what it is still to be told. Of a vat that is down with nothing to tell, nothing of
-- calls is told.
pub record TellsInTurn (old new : Hosted) (told run : List Event) : Type 0 where
  pub in_turn : flat_map of_calls old.events ++ run ≡ told ++ flat_map of_calls new.events
  pub silent : IsSome old.core.down → old.events ≡ [] → (told ≡ []) × (new.events ≡ [])

-- An own call is told as cut off, of a vat that is down with nothing else to tell.
pub record CutsOne (old new : Hosted) (told run : List Event) : Type 0 where
  pub event : Event
  pub cut_off : TellsCutOff event
  pub is : told ≡ event ∷ []
  pub none : flat_map of_calls old.events ++ run ≡ []
  pub left : new.events ≡ []
  pub over : IsSome new.core.down

pub record Acted (letters : Vat → Vat) (root_a root_b : Option ObjectId) (v : Vat) (w : View) (x : Act) (old new : Connected) (peer : Speaking) (r to_them : List ℕ) : Type 0 where
  pub gone : Unheard
  pub waits : Waits new.inflow gone
  pub happened : List Happening
  pub view : View
  pub ran : WiredRun (world_of v w) happened (world_of v view)
  pub done : flat_map done_of happened ≡ done_by_act v x
  pub elsewhere : flat_map (told_in (other_vat v)) happened ≡ []
  pub tells : TellsInTurn old.speaker.host new.speaker.host (told_by_act x) (flat_map (told_in v) happened) ⊎ CutsOne old.speaker.host new.speaker.host (told_by_act x) (flat_map (told_in v) happened)
  pub stays : IsSome old.speaker.host.core.down → IsSome new.speaker.host.core.down
  pub holds : Tied new.speaker peer (coming gone r) to_them view

module _ (h k : Hosted) (worked : Works h k) where
  still_down : IsSome h.core.down → IsSome k.core.down
  still_down d = is_down_behind h k worked.acts worked.lead d

  still_silent : IsSome h.core.down → h.events ≡ [] → k.events ≡ []
  still_silent d none = (silent_behind h k worked.acts worked.lead d none).0

-- ---- the same vat, of which nothing changed that is between the two

pub record IsSame (me other : Speaking) : Type 0 where
  pub core : other.host.core ≡ me.host.core
  pub messages : other.host.messages ≡ me.host.messages
  pub out : other.out ≡ me.out
  pub adapter : IsPlainly me → IsPlainly other

same_tied : (me other peer : Speaking) (to_me to_them : List ℕ) (w : View) → IsSame me other → Tied me peer to_me to_them w → Tied other peer to_me to_them w
same_tied me other peer to_me to_them w s t = record {
  mine = t.mine ∙ sym s.core;
  theirs = t.theirs;
  own = record { echoes = ap (λ (o : Outflow). o.echoes) s.out ∙ t.own.echoes; plainly = s.adapter t.own.plainly; level = ap (λ (x : State). x.level) s.core ∙ t.own.level; small = subst HasSmallIds (sym s.core) t.own.small };
  own_theirs = t.own_theirs;
  link = λ up. t.link (sym (ap (λ (x : State). x.down) s.core) ∙ up);
  link_theirs = λ p. subst (λ (o : Outflow). Link w.to_them other.host.messages other.host.core.down (to_them ++ o.bytes)) (sym s.out)
      (subst (λ (c : State). Link w.to_them other.host.messages c.down (to_them ++ me.out.bytes)) (sym s.core)
      (subst (λ (ms : List Message). Link w.to_them ms me.host.core.down (to_them ++ me.out.bytes)) (sym s.messages) (t.link_theirs p)));
}

plainly_as : (me other : Speaking) → other.adapter ≡ me.adapter → other.host.core ≡ me.host.core → other.host.messages ≡ me.host.messages → IsPlainly me → IsPlainly other
plainly_as me other a c m (inl f) = inl (a ∙ f)
plainly_as me other a c m (inr (d, all)) = inr (subst (λ (s : State). IsSome s.down) (sym c) d, subst AllAborts (sym m) all)

with_new_host : (me other : Speaking) (h : Hosted) → other ≡ record me { host = h } → h.core ≡ me.host.core → h.messages ≡ me.host.messages → IsSame me other
with_new_host me other h is c m =
    let core_is = ap (λ (x : Speaking). x.host.core) is ∙ c in
    let messages_are = ap (λ (x : Speaking). x.host.messages) is ∙ m in
    record {
      core = core_is;
      messages = messages_are;
      out = ap (λ (x : Speaking). x.out) is;
      adapter = plainly_as me other (ap (λ (x : Speaking). x.adapter) is) core_is messages_are;
    }

both_so : (a b c : Bool) → (a && b && c) ≡ true → (a ≡ true) × (b ≡ true)
both_so true true c e = (refl, refl)
both_so true false c e = absurd (let k : false ≡ true = e in cc)
both_so false b c e = absurd (let k : false ≡ true = e in cc)

none_there : (es : List Event) → (length es == 0) ≡ true → es ≡ []
none_there [] e = refl
none_there (x ∷ es) e = absurd (grind (arith, nat_tests, e))

only_down : (h : Hosted) → has_only_down h ≡ true → (h.events ≡ []) × IsSome h.core.down
only_down h e = let k = both_so (length h.events == 0) (is_some h.core.down) (not h.down_notice.told) e in (none_there h.events k.0, k.1)

module _ (letters : Vat → Vat) (root_a root_b : Option ObjectId) (v : Vat) (w : View) (peer : Speaking) (r to_them : List ℕ) where
  -- ---- commands

  module _ (old new : Connected) (gone : Unheard) (waits : Waits old.inflow gone) (t : Tied old.speaker peer (coming gone r) to_them w) where
    module _ (names : OfEachStep KeepsNames) (c : Command) (g : Granted) (done : Does old.speaker.host c g new.speaker.host) (same : new.inflow ≡ old.inflow) (speaker_is : new.speaker ≡ record (old.speaker) { host = new.speaker.host }) where
      abbrev effects : Effects
      effects = done.0

      calls : flat_map of_calls new.speaker.host.events ≡ flat_map of_calls old.speaker.host.events ++ calls_told effects
      calls = ap (λ (h : Hosted). flat_map of_calls h.events) done.2 ∙ more_calls old.speaker.host.events effects None refl

      messages : new.speaker.host.messages ≡ old.speaker.host.messages ++ effects.sends
      messages = ap (λ (h : Hosted). h.messages) done.2

      told_so : flat_map (told_in v) (commanded v c (Ok g) effects ∷ []) ≡ calls_told effects
      told_so = append-nil (told_in v (commanded v c (Ok g) effects)) ∙ told_here v (calls_told effects)

      acted : (view : View) → WiredRun (world_of v w) (commanded v c (Ok g) effects ∷ []) (world_of v view) → Tied new.speaker peer (coming gone r) to_them view
          → Acted letters root_a root_b v w (Commands c (Ok g)) old new peer r to_them
      acted view ran holds = record {
        gone = gone;
        waits = subst (λ (i : Inflow). Waits i gone) (sym same) waits;
        happened = commanded v c (Ok g) effects ∷ [];
        view = view;
        ran = ran;
        done = append-nil (done_of (commanded v c (Ok g) effects)) ∙ append-nil (but_shut (record { vat = v; command = c; granted = g }));
        elsewhere = append-nil (told_in (other_vat v) (commanded v c (Ok g) effects)) ∙ told_elsewhere v (calls_told effects);
        tells = inl (record {
          in_turn = ap (λ (es : List Event). flat_map of_calls old.speaker.host.events ++ es) told_so ∙ sym calls;
          silent = λ d none. (refl, (silent_behind old.speaker.host new.speaker.host (HostCommands c (Ok g) ∷ []) (new.speaker.host, done, refl) d none).0);
        });
        stays = λ d. is_down_behind old.speaker.host new.speaker.host (HostCommands c (Ok g) ∷ []) (new.speaker.host, done, refl) d;
        holds = holds;
      }

      does_by : (o : Option ℕ) → old.speaker.host.core.down ≡ o → Acted letters root_a root_b v w (Commands c (Ok g)) old new peer r to_them
      does_by None up =
          let s = new.speaker.host.core in
          acted (stepped_view w effects s)
          (world_of v (stepped_view w effects s), commands v w c (Ok g) effects s (ap (λ (x : State). x.down) t.mine ∙ up) (subst (λ (x : State). Obeys x c (Ok g) effects s) (sym t.mine) done.1), refl)
          (step_ties old.speaker peer new.speaker (coming gone r) to_them (coming gone r) w effects w.to_me t up messages (ap (λ (x : Speaking). x.out) speaker_is) (plainly_then t.own.plainly)
          ((names.commands old.speaker.host.core c (Ok g) effects s done.1).level ∙ t.own.level) (command_keeps old.speaker.host.core c (Ok g) effects s done.1 t.own.small) (λ u. t.link up))
        where
          plainly_then : IsPlainly old.speaker → IsPlainly new.speaker
          plainly_then (inl f) = inl (ap (λ (x : Speaking). x.adapter) speaker_is ∙ f)
          plainly_then (inr a) = absurd (not_down old.speaker.host.core.down up a.0)
      does_by (Some k) down =
          let u = command_down old.speaker.host.core c (Ok g) effects new.speaker.host.core (some_down old.speaker.host.core.down k down) done.1 in
          acted w (
            world_of v w,
            commands_down v w c (Ok g) effects k (ap (λ (x : State). x.down) t.mine ∙ down)
                (subst (λ (x : State). Obeys x c (Ok g) effects x) (sym t.mine) (subst (λ (x : State). Obeys old.speaker.host.core c (Ok g) effects x) u.new_is done.1)),
            refl,
          )
          (same_tied old.speaker new.speaker peer (coming gone r) to_them w
          (with_new_host old.speaker new.speaker new.speaker.host speaker_is u.new_is (messages ∙ ap (λ (e : Effects). old.speaker.host.messages ++ e.sends) u.effects_are ∙ append-nil old.speaker.host.messages)) t)

    -- Nothing happened to its vat, and this is told.
    beside : (x : Act) → done_by_act v x ≡ [] → IsSame old.speaker new.speaker → new.inflow ≡ old.inflow
        → TellsInTurn old.speaker.host new.speaker.host (told_by_act x) [] → Acted letters root_a root_b v w x old new peer r to_them
    beside x none s same tells = record {
      gone = gone;
      waits = subst (λ (i : Inflow). Waits i gone) (sym same) waits;
      happened = [];
      view = w;
      ran = refl;
      done = sym none;
      elsewhere = refl;
      tells = inl tells;
      stays = λ d. subst (λ (c : State). IsSome c.down) (sym s.core) d;
      holds = same_tied old.speaker new.speaker peer (coming gone r) to_them w s t;
    }

    same_host : (told : List Event) → told ≡ [] → new.speaker.host ≡ old.speaker.host → TellsInTurn old.speaker.host new.speaker.host told []
    same_host told none is = record {
      in_turn = append-nil (flat_map of_calls old.speaker.host.events) ∙ (λ i. none_first i ++ flat_map of_calls (sym is i).events);
      silent = λ d silent. (none, ap (λ (h : Hosted). h.events) is ∙ silent);
    }
      where
        none_first : [] ≡ told
        none_first = sym none

    refuses : (c : Command) (e : Refusal) → new.speaker.host ≡ old.speaker.host → new ≡ answered_by old c (Err e) new.speaker.host → Acted letters root_a root_b v w (Commands c (Err e)) old new peer r to_them
    refuses c e is new_is =
        beside (Commands c (Err e)) refl
        (with_new_host old.speaker new.speaker new.speaker.host (ap (λ (x : Connected). x.speaker) new_is) (ap (λ (h : Hosted). h.core) is) (ap (λ (h : Hosted). h.messages) is))
        (ap (λ (x : Connected). x.inflow) new_is) (same_host [] refl is)

    commands_by : (names : OfEachStep KeepsNames) (c : Command) (answer : Result Granted Refusal) → AsksCommand old c answer new ⊎ AsksToFit old c answer new → Acted letters root_a root_b v w (Commands c answer) old new peer r to_them
    commands_by names c (Ok g) (inl (done, is)) = does_by names c g done (ap (λ (x : Connected). x.inflow) is) (ap (λ (x : Connected). x.speaker) is) old.speaker.host.core.down refl
    commands_by names c (Ok g) (inr ((done, fits), is)) = does_by names c g done (ap (λ (x : Connected). x.inflow) is) (ap (λ (x : Connected). x.speaker) is) old.speaker.host.core.down refl
    commands_by names c (Err e) (inl ((why, same), is)) = refuses c e same is
    commands_by names c (Err e) (inr (inl (why, same), is)) = refuses c e same is
    commands_by names c (Err e) (inr (inr (full, large, same), is)) = refuses c e same is

  -- ---- what a connection does by itself

  -- Nothing is told, and this happens.
  by_itself : (x : Act) (old new : Connected) (to_me : List ℕ) → done_by_act v x ≡ [] → told_by_act x ≡ [] → Works old.speaker.host new.speaker.host → Tied old.speaker peer to_me to_them w
      → Flows letters root_a root_b v peer r to_them old.speaker new.speaker to_me new.inflow → Reached letters root_a root_b (world_of v w) → Acted letters root_a root_b v w x old new peer r to_them
  by_itself x old new to_me none silent worked t f reached =
      let k = f.goes w reached t in
      record {
        gone = f.gone;
        waits = f.waits;
        happened = k.happened;
        view = k.view;
        ran = k.ran;
        done = k.undone ∙ sym none;
        elsewhere = k.elsewhere;
        tells = inl (record {
          in_turn = sym k.calls ∙ ap (λ (es : List Event). es ++ flat_map of_calls new.speaker.host.events) (sym silent);
          silent = λ d empty. (silent, still_silent old.speaker.host new.speaker.host worked d empty);
        });
        stays = still_down old.speaker.host new.speaker.host worked;
        holds = k.holds;
      }

  -- ---- what is told

  -- Something is told once the vat went on.
  module _ (old mid new : Connected) (gone : Unheard) (t : Tied old.speaker peer (coming gone r) to_them w) (worked : Works old.speaker.host mid.speaker.host)
      (f : Flows letters root_a root_b v peer r to_them old.speaker mid.speaker (coming gone r) mid.inflow) (reached : Reached letters root_a root_b (world_of v w)) where
    tells_with : (x : Act) → done_by_act v x ≡ [] → IsSame mid.speaker new.speaker → new.inflow ≡ mid.inflow
        → ((run : List Event) → flat_map of_calls mid.speaker.host.events ≡ flat_map of_calls old.speaker.host.events ++ run
        → TellsInTurn old.speaker.host new.speaker.host (told_by_act x) run ⊎ CutsOne old.speaker.host new.speaker.host (told_by_act x) run)
        → Acted letters root_a root_b v w x old new peer r to_them
    tells_with x none s same tells =
        let k = f.goes w reached t in
        record {
          gone = f.gone;
          waits = subst (λ (i : Inflow). Waits i f.gone) (sym same) f.waits;
          happened = k.happened;
          view = k.view;
          ran = k.ran;
          done = k.undone ∙ sym none;
          elsewhere = k.elsewhere;
          tells = tells (flat_map (told_in v) k.happened) k.calls;
          stays = λ d. subst (λ (c : State). IsSome c.down) (sym s.core) (still_down old.speaker.host mid.speaker.host worked d);
          holds = same_tied mid.speaker new.speaker peer (coming f.gone r) to_them k.view s k.holds;
        }

    mid_down : IsSome old.speaker.host.core.down → IsSome mid.speaker.host.core.down
    mid_down = still_down old.speaker.host mid.speaker.host worked

    mid_silent : IsSome old.speaker.host.core.down → old.speaker.host.events ≡ [] → mid.speaker.host.events ≡ []
    mid_silent = still_silent old.speaker.host mid.speaker.host worked

    not_empty : (e : Event) (es : List Event) → e ∷ es ≡ [] → ⊥
    not_empty e es is = cc

    oldest : (e : Event) → TellsOldest mid e new → Acted letters root_a root_b v w (Asks (Some e)) old new peer r to_them
    oldest e (is, new_is) =
        tells_with (Asks (Some e)) refl
        (with_new_host mid.speaker new.speaker new.speaker.host (ap (λ (c : Connected). c.speaker) new_is) (sym (ap (λ (h : Hosted). h.core) is)) (sym (ap (λ (h : Hosted). h.messages) is)))
        (ap (λ (c : Connected). c.inflow) new_is)
        (λ run calls. inl (record {
          in_turn = sym calls ∙ ap (λ (h : Hosted). flat_map of_calls h.events) is;
          silent = λ d none. absurd (not_empty e new.speaker.host.events (sym (ap (λ (h : Hosted). h.events) is) ∙ mid_silent d none));
        }))

    -- Nothing is told of calls, and nothing else changes of what is between the two.
    beside_calls : (event : Option Event) → told_by_act (Asks event) ≡ [] → IsSame mid.speaker new.speaker → new.inflow ≡ mid.inflow → new.speaker.host.events ≡ mid.speaker.host.events
        → Acted letters root_a root_b v w (Asks event) old new peer r to_them
    beside_calls event none s same events =
        tells_with (Asks event) refl s same
        (λ run calls. inl (record {
          in_turn = sym calls ∙ ap (λ (es : List Event). flat_map of_calls es) (sym events) ∙ ap (λ (es : List Event). es ++ flat_map of_calls new.speaker.host.events) (sym none);
          silent = λ d empty. (none, events ∙ mid_silent d empty);
        }))

    freed : (e : Event) → TellsFreed mid e new → Acted letters root_a root_b v w (Asks (Some e)) old new peer r to_them
    freed (event.Released o) ((none, up, released, is), new_is) =
        beside_calls (Some (event.Released o)) refl
        (with_new_host mid.speaker new.speaker new.speaker.host (ap (λ (c : Connected). c.speaker) new_is) (ap (λ (h : Hosted). h.core) is) (ap (λ (h : Hosted). h.messages) is))
        (ap (λ (c : Connected). c.inflow) new_is) (ap (λ (h : Hosted). h.events) is)
    freed (event.Cancelled task) ((none, up, (q, cancelled, is)), new_is) =
        beside_calls (Some (event.Cancelled task)) refl
        (with_new_host mid.speaker new.speaker new.speaker.host (ap (λ (c : Connected). c.speaker) new_is) (ap (λ (h : Hosted). h.core) is) (ap (λ (h : Hosted). h.messages) is))
        (ap (λ (c : Connected). c.inflow) new_is) (ap (λ (h : Hosted). h.events) is)
    freed (event.Served d) (tells, new_is) = absurd tells
    freed (event.Ended x) (tells, new_is) = absurd tells
    freed (event.Resolved place) (tells, new_is) = absurd tells
    freed (event.Lifted reference) (tells, new_is) = absurd tells
    freed (event.Down n reason) (tells, new_is) = absurd tells

    told_down : (e : Event) → TellsDown mid e new → Acted letters root_a root_b v w (Asks (Some e)) old new peer r to_them
    told_down (event.Down n reason) ((none, still, is_down, why, is), calls, new_is) =
        beside_calls (Some (event.Down n reason)) refl
        (with_new_host mid.speaker new.speaker new.speaker.host (ap (λ (c : Connected). c.speaker) new_is) (ap (λ (h : Hosted). h.core) is) (ap (λ (h : Hosted). h.messages) is))
        (ap (λ (c : Connected). c.inflow) new_is) (ap (λ (h : Hosted). h.events) is)
    told_down (event.Served d) (tells, calls, new_is) = absurd tells
    told_down (event.Ended x) (tells, calls, new_is) = absurd tells
    told_down (event.Resolved place) (tells, calls, new_is) = absurd tells
    told_down (event.Lifted reference) (tells, calls, new_is) = absurd tells
    told_down (event.Cancelled task) (tells, calls, new_is) = absurd tells
    told_down (event.Released o) (tells, calls, new_is) = absurd tells

    cut_off : (e : Event) → CutsOff mid e new → Acted letters root_a root_b v w (Asks (Some e)) old new peer r to_them
    cut_off (event.Ended x) (only, cut, is) =
        let speaker_is : new.speaker ≡ mid.speaker = sym (ap (λ (c : Connected). c.speaker) is) in
        let had = only_down mid.speaker.host only in
        tells_with (Asks (Some (event.Ended x))) refl
        (with_new_host mid.speaker new.speaker mid.speaker.host speaker_is refl refl)
        (sym (ap (λ (c : Connected). c.inflow) is))
        (λ run calls. inr (record {
          event = event.Ended x;
          cut_off = cut;
          is = refl;
          none = sym calls ∙ ap (λ (es : List Event). flat_map of_calls es) had.0;
          left = ap (λ (s : Speaking). s.host.events) speaker_is ∙ had.0;
          over = subst (λ (s : Speaking). IsSome s.host.core.down) (sym speaker_is) had.1;
        }))
    cut_off (event.Served d) cuts = absurd cuts
    cut_off (event.Resolved place) cuts = absurd cuts
    cut_off (event.Lifted reference) cuts = absurd cuts
    cut_off (event.Cancelled task) cuts = absurd cuts
    cut_off (event.Released o) cuts = absurd cuts
    cut_off (event.Down n reason) cuts = absurd cuts

    tells_next : (event : Option Event) → TellsNext mid event new → Acted letters root_a root_b v w (Asks event) old new peer r to_them
    tells_next (Some e) (inl tells) = oldest e tells
    tells_next (Some e) (inr (inl tells)) = freed e tells
    tells_next (Some e) (inr (inr (inl cuts))) = cut_off e cuts
    tells_next (Some e) (inr (inr (inr tells))) = told_down e tells
    tells_next None (nothing, is) =
        let speaker_is : new.speaker ≡ record (mid.speaker) { heard = new.speaker.heard } = ap (λ (c : Connected). c.speaker) is ∙ ap (λ (c : Connected). record (mid.speaker) { heard = c.speaker.heard }) (sym is) in
        beside_calls None refl
        (record {
          core = ap (λ (s : Speaking). s.host.core) speaker_is;
          messages = ap (λ (s : Speaking). s.host.messages) speaker_is;
          out = ap (λ (s : Speaking). s.out) speaker_is;
          adapter = plainly_as mid.speaker new.speaker (ap (λ (s : Speaking). s.adapter) speaker_is) (ap (λ (s : Speaking). s.host.core) speaker_is) (ap (λ (s : Speaking). s.host.messages) speaker_is);
        })
        (ap (λ (c : Connected). c.inflow) is) (ap (λ (s : Speaking). s.host.events) speaker_is)

-- ---- bytes are handed out

given_tied : (said peer : Speaking) (to_me to_them : List ℕ) (w : View) → Tied said peer to_me to_them w → Tied (given said) peer to_me (to_them ++ said.out.bytes) w
given_tied said peer to_me to_them w t = record {
  mine = t.mine;
  theirs = t.theirs;
  own = record { echoes = t.own.echoes; plainly = t.own.plainly; level = t.own.level; small = t.own.small };
  own_theirs = t.own_theirs;
  link = t.link;
  link_theirs = λ u. subst (λ (x : List ℕ). Link w.to_them said.host.messages said.host.core.down x) (sym (append-nil (to_them ++ said.out.bytes))) (t.link_theirs u);
}

gives : (letters : Vat → Vat) (root_a root_b : Option ObjectId) (v : Vat) (w : View) (peer : Speaking) (r to_them bytes : List ℕ) (old mid new : Connected) → bytes ≡ mid.speaker.out.bytes → new ≡ record mid { speaker = given mid.speaker }
    → Acted letters root_a root_b v w (Gives bytes) old mid peer r to_them → Acted letters root_a root_b v w (Gives bytes) old new peer r (to_them ++ bytes)
gives letters root_a root_b v w peer r to_them bytes old mid new bytes_are is k =
    subst (λ (c : Connected). Acted letters root_a root_b v w (Gives bytes) old c peer r (to_them ++ bytes)) (sym is)
    (record {
      gone = k.gone;
      waits = k.waits;
      happened = k.happened;
      view = k.view;
      ran = k.ran;
      done = k.done;
      elsewhere = k.elsewhere;
      tells = k.tells;
      stays = k.stays;
      holds = subst (λ (x : List ℕ). Tied (given mid.speaker) peer (coming k.gone r) (to_them ++ x) k.view) (sym bytes_are) (given_tied mid.speaker peer (coming k.gone r) to_them k.view k.holds);
    })

-- ---- all acts

finishing_same : (s : Speaking) (f : Finishes) → f ≡ AtOnce → IsSame s (finishing s f)
finishing_same s f is = record { core = refl; messages = refl; out = refl; adapter = by }
  where
    by : IsPlainly s → IsPlainly (finishing s f)
    by (inl e) = inl (λ i. record (e i) { peering = record ((e i).peering) { finishes = record ((e i).peering.finishes) { finishes = is i } } })
    by (inr a) = inr a

module _ (aside : StandAside) (alike : FittingNamesAreAlike) (runs : WiredRunsAreRuns) (refuse : RunsRefuseNothing) (understood : EveryRunIsUnderstood) (names : OfEachStep KeepsNames) (letters : Vat → Vat) (root_a root_b : Option ObjectId) (v : Vat) (w : View) (reached : Reached letters root_a root_b (world_of v w)) (peer : Speaking) where
  module _ (r to_them : List ℕ) (old new : Connected) (gone : Unheard) (waits : Waits old.inflow gone) where
    -- Bytes come: the oldest of those on their way.
    pub receives : (bytes : List ℕ) → Acts old (Receives bytes) new → Tied old.speaker peer (coming gone (bytes ++ r)) to_them w
        → Acted letters root_a root_b v w (Receives bytes) old new peer r to_them
    receives bytes (followed, is) t =
        by_itself letters root_a root_b v w peer r to_them (Receives bytes) old new (coming gone (bytes ++ r)) refl refl
        (works_follows (down old) old.inflow.over old.limits old.speaker new.speaker old.inflow new.inflow bytes followed) t
        (follows letters root_a root_b v peer r to_them aside alike runs refuse understood names (down old) old.inflow.over old.limits old.speaker new.speaker old.inflow new.inflow bytes gone refl refl waits followed)
        reached

    -- Bytes are handed out, behind those on their way to the other.
    pub gives_out : (bytes : List ℕ) → Acts old (Gives bytes) new → Tied old.speaker peer (coming gone r) to_them w
        → Acted letters root_a root_b v w (Gives bytes) old new peer r (to_them ++ bytes)
    gives_out bytes (mid, worked, bytes_are, is) t =
        gives letters root_a root_b v w peer r to_them bytes old mid new bytes_are is
        (by_itself letters root_a root_b v w peer r to_them (Gives bytes) old mid (coming gone r) refl refl (works_on old mid worked) t
        (works letters root_a root_b v peer r to_them aside alike runs refuse understood names old mid gone waits worked) reached)

    pub commands_it : (c : Command) (answer : Result Granted Refusal) → Acts old (Commands c answer) new → Tied old.speaker peer (coming gone r) to_them w → Acted letters root_a root_b v w (Commands c answer) old new peer r to_them
    commands_it c answer h t = commands_by letters root_a root_b v w peer r to_them old new gone waits t names c answer h

    pub ends_it : Acts old Ends new → Tied old.speaker peer (coming gone r) to_them w → Acted letters root_a root_b v w Ends old new peer r to_them
    ends_it h t =
        by_itself letters root_a root_b v w peer r to_them Ends old new (coming gone r) refl refl (works_ends (down old) old.inflow.over old new h) t
        (ends_stream letters root_a root_b v peer r to_them (down old) old.inflow.over old new gone waits h) reached

    pub shuts_it : (n : ℕ) → Acts old (Shuts n) new → Tied old.speaker peer (coming gone r) to_them w → Acted letters root_a root_b v w (Shuts n) old new peer r to_them
    shuts_it n (fell, is) t =
        by_itself letters root_a root_b v w peer r to_them (Shuts n) old new (coming gone r) refl refl (works_falls old.speaker new.speaker n fell) t
        (record {
          gone = gone;
          waits = subst (λ (c : Connected). Waits c.inflow gone) (sym is) waits;
          goes = λ u reached t. falls v old.speaker peer new.speaker n (coming gone r) to_them (coming gone r) u t fell;
        })
        reached

    pub asks_it : (event : Option Event) → Acts old (Asks event) new → Tied old.speaker peer (coming gone r) to_them w → Acted letters root_a root_b v w (Asks event) old new peer r to_them
    asks_it event (mid, worked, tells) t =
        tells_next letters root_a root_b v w peer r to_them old mid new gone t (works_on old mid worked)
        (works letters root_a root_b v peer r to_them aside alike runs refuse understood names old mid gone waits worked) reached event tells

    pub limits_it : (limits : Limits) → Acts old (SetsLimits limits) new → Tied old.speaker peer (coming gone r) to_them w → Acted letters root_a root_b v w (SetsLimits limits) old new peer r to_them
    limits_it limits is t =
        beside letters root_a root_b v w peer r to_them old new gone waits t (SetsLimits limits) refl
        (with_new_host old.speaker new.speaker old.speaker.host (ap (λ (c : Connected). c.speaker) is) refl refl) (ap (λ (c : Connected). c.inflow) is)
        (same_host letters root_a root_b v w peer r to_them old new gone waits t [] refl (ap (λ (c : Connected). c.speaker.host) is))

    pub finishes_it : (f : Finishes) → Acts old (SetsFinishes f) new → f ≡ AtOnce → Tied old.speaker peer (coming gone r) to_them w → Acted letters root_a root_b v w (SetsFinishes f) old new peer r to_them
    finishes_it f is at_once t =
        beside letters root_a root_b v w peer r to_them old new gone waits t (SetsFinishes f) refl
        (subst (λ (s : Speaking). IsSame old.speaker s) (sym (ap (λ (c : Connected). c.speaker) is)) (finishing_same old.speaker f at_once)) (ap (λ (c : Connected). c.inflow) is)
        (same_host letters root_a root_b v w peer r to_them old new gone waits t [] refl (ap (λ (c : Connected). c.speaker.host) is))
