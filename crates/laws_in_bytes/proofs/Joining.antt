-- What two connections do that are joined by streams, they do over wires: act by act.
use Rattle.std.proofs.Common.{◌≡◌, ◌⊎◌, inl, inr, ℕ, List, [], ◌∷◌, ◌++◌, append-nil, append_assoc, flat_map, Option, IsSome, refl, sym, ap, subst, ◌∙◌}
use Rattle.std.proofs.lemmas.Grind.{flat_map-append}
use Rattle.std.specs.List.{concat}
use Rattle.rpc_msg.specs.Vats.{other_vat}
use Rattle.rpc_msg.specs.declared.ids.ObjectId.{ObjectId}
use Rattle.rpc_msg.specs.declared.ids.Vat.{Vat}
use Rattle.rpc_msg.specs.declared.ids.Vat.TheVariants.{A, B}
use Rattle.rpc_machine.specs.declared.command.Level.TheVariants.{One}
use Rattle.rpc_machine.specs.Laws.{OfEachStep}
use Rattle.rpc_machine.specs.World.{Happening, core}
use Rattle.laws_ends.specs.Names.{KeepsNames}
use Rattle.laws_peers.specs.Alike.{FittingNamesAreAlike}
use Rattle.laws_scenes.specs.Refused.{RunsRefuseNothing}
use Rattle.laws_understood.specs.Understood.{EveryRunIsUnderstood}
use Rattle.laws_wired.specs.Wires.{WiredRun, WiredRunsAreRuns, named_world}
use Rattle.vat_host.specs.declared.event.Event.{Event}
use Rattle.vat_host.specs.Hosting.{Hosted}
use Rattle.vat_hosts.specs.Calls.{of_calls}
use Rattle.vat_hosts.specs.Worlds.{told_in}
use Rattle.vat_connection.specs.Speaking.{Speaking}
use Rattle.vat_connection.specs.Connecting.{Connected}
use Rattle.vat_connections.specs.OneConnection.{Act, told_by as told_by_act}
use Rattle.vat_connections.specs.OneConnection.Act.{Commands, Receives, Ends, Shuts, Gives, Asks, SetsLimits, SetsFinishes}
use Rattle.laws_in_bytes.specs.Joined.{Does, Doing, FinishAtOnce, FinishesAtOnce, Joined, JoinedRun, end, new_joined}
use Rattle.laws_in_bytes.specs.Wired.{JoinedRunsAreWired, AreCutOff, TellsCutOff, done_by, done_of, told_by}
use Rattle.laws_in_bytes.proofs.Viewing.{Reached, View, runs_on, world_of}
use Rattle.laws_in_bytes.proofs.Tied.{Clean, Tied, told_elsewhere, told_here}
use Rattle.laws_in_bytes.proofs.Aside.{StandAside}
use Rattle.laws_in_bytes.proofs.Within.{start_small}
use Rattle.laws_in_bytes.proofs.Flowing.{Unheard, Waits, coming, no_bytes, none_waits}
use Rattle.laws_in_bytes.proofs.Acting.{Acted, CutsOne, TellsInTurn, asks_it, commands_it, ends_it, finishes_it, gives_out, limits_it, receives, shuts_it}

-- ---- seen from the other side

abbrev swap : View → View
swap w = record { mine = w.theirs; theirs = w.mine; to_me = w.to_them; to_them = w.to_me }

swapped : (me peer : Speaking) (to_me to_them : List ℕ) (w : View) → Tied me peer to_me to_them w → Tied peer me to_them to_me (swap w)
swapped me peer to_me to_them w t = record { mine = t.theirs; theirs = t.mine; own = t.own_theirs; own_theirs = t.own; link = t.link_theirs; link_theirs = t.link }

-- ---- what an application is told, so far

-- What was told of calls, and this host's events, are what a run tells, and own calls that are cut off. Behind the first of those
-- nothing is left to tell.
record Telling (told : List Event) (h : Hosted) (run : List Event) : Type 0 where
  cut : List Event
  cut_off : AreCutOff cut
  is : told ++ flat_map of_calls h.events ≡ run ++ cut
  over : (cut ≡ []) ⊎ (IsSome h.core.down × (h.events ≡ []))

-- the same of another vat, at which nothing happened and of which nothing was told
telling_as : (told told_now : List Event) (h k : Hosted) (run run_now : List Event) → told_now ≡ told → k ≡ h → run_now ≡ run → Telling told h run → Telling told_now k run_now
telling_as told told_now h k run run_now a b c t =
    subst (λ (x : List Event). Telling x k run_now) (sym a) (subst (λ (x : Hosted). Telling told x run_now) (sym b) (subst (λ (x : List Event). Telling told h x) (sym c) t))

one_more_cut : (es : List Event) (e : Event) → AreCutOff es → TellsCutOff e → AreCutOff (es ++ e ∷ [])
one_more_cut [] e cut c = (c, tt)
one_more_cut (x ∷ es) e cut c = (cut.0, one_more_cut es e cut.1 c)

module _ (told : List Event) (h k : Hosted) (run : List Event) where
  none_left : (more : List Event) → h.events ≡ [] → flat_map of_calls h.events ++ more ≡ [] → more ≡ []
  none_left more none e = ap (λ (es : List Event). flat_map of_calls es ++ more) (sym none) ∙ e

  tells_on : (more run_more : List Event) → (IsSome h.core.down → IsSome k.core.down) → TellsInTurn h k more run_more → Telling told h run → Telling (told ++ more) k (run ++ run_more)
  tells_on more run_more stays t s = by s.over
    where
      by : (s.cut ≡ []) ⊎ (IsSome h.core.down × (h.events ≡ [])) → Telling (told ++ more) k (run ++ run_more)
      by (inl none) = record {
        cut = [];
        cut_off = tt;
        is = append_assoc told more (flat_map of_calls k.events)
            ∙ ap (λ (es : List Event). told ++ es) (sym t.in_turn)
            ∙ sym (append_assoc told (flat_map of_calls h.events) run_more)
            ∙ ap (λ (es : List Event). es ++ run_more) (s.is ∙ ap (λ (es : List Event). run ++ es) none ∙ append-nil run)
            ∙ sym (append-nil (run ++ run_more));
        over = inl refl;
      }
      by (inr (down, empty)) =
          let silent = t.silent down empty in
          let no_more : run_more ≡ [] = none_left run_more empty (t.in_turn ∙ (λ i. silent.0 i ++ flat_map of_calls (silent.1 i))) in
          record {
            cut = s.cut;
            cut_off = s.cut_off;
            is = (λ i. (told ++ silent.0 i) ++ flat_map of_calls (silent.1 i))
                ∙ ap (λ (es : List Event). es ++ []) (append-nil told)
                ∙ ap (λ (es : List Event). told ++ flat_map of_calls es) (sym empty)
                ∙ s.is
                ∙ ap (λ (es : List Event). es ++ s.cut) (sym (append-nil run) ∙ ap (λ (es : List Event). run ++ es) (sym no_more));
            over = inr (stays down, silent.1);
          }

  cuts_on : (more run_more : List Event) → CutsOne h k more run_more → Telling told h run → Telling (told ++ more) k (run ++ run_more)
  cuts_on more run_more c s = record {
    cut = s.cut ++ c.event ∷ [];
    cut_off = one_more_cut s.cut c.event s.cut_off c.cut_off;
    is = (λ i. (told ++ c.is i) ++ flat_map of_calls (c.left i))
        ∙ append-nil (told ++ c.event ∷ [])
        ∙ ap (λ (es : List Event). es ++ c.event ∷ []) (by s.over)
        ∙ append_assoc (run ++ run_more) s.cut (c.event ∷ []);
    over = inr (c.over, c.left);
  }
    where
      by : (s.cut ≡ []) ⊎ (IsSome h.core.down × (h.events ≡ [])) → told ≡ (run ++ run_more) ++ s.cut
      by (inl none) =
          sym (append-nil told)
          ∙ ap (λ (es : List Event). told ++ es) (sym c.none)
          ∙ sym (append_assoc told (flat_map of_calls h.events) run_more)
          ∙ ap (λ (es : List Event). es ++ run_more) (s.is ∙ ap (λ (es : List Event). run ++ es) none ∙ append-nil run)
          ∙ sym (append-nil (run ++ run_more))
          ∙ ap (λ (es : List Event). (run ++ run_more) ++ es) (sym none)
      by (inr (down, empty)) =
          sym (append-nil told)
          ∙ ap (λ (es : List Event). told ++ flat_map of_calls es) (sym empty)
          ∙ s.is
          ∙ ap (λ (es : List Event). es ++ s.cut) (sym (append-nil run) ∙ ap (λ (es : List Event). run ++ es) (sym (none_left run_more empty c.none)))

-- ---- both, so far

flat_behind : {X Y : Type 0} (f : X → List Y) (xs : List X) (x : X) → flat_map f (xs ++ x ∷ []) ≡ flat_map f xs ++ f x
flat_behind f xs x = flat_map-append f xs (x ∷ []) ∙ ap (λ l. flat_map f xs ++ l) (append-nil (f x))

record So (letters : Vat → Vat) (root_a root_b : Option ObjectId) (xs : List Doing) (j : Joined) : Type 0 where
  happened : List Happening
  view : View
  ran : WiredRun (named_world letters root_a root_b) happened (world_of A view)
  done : flat_map done_of happened ≡ flat_map done_by xs
  told : (v : Vat) → Telling (flat_map (told_by v) xs) (end j v).speaker.host (flat_map (told_in v) happened)
  gone_a : Unheard
  gone_b : Unheard
  waits_a : Waits j.a.inflow gone_a
  waits_b : Waits j.b.inflow gone_b
  holds : Tied j.a.speaker j.b.speaker (coming gone_a j.to_a) (coming gone_b j.to_b) view

module _ (letters : Vat → Vat) (root_a root_b : Option ObjectId) (xs : List Doing) (j : Joined) (so : So letters root_a root_b xs j) where
  -- ---- one act more, at a vat

  module _ (v : Vat) (act : Act) (new : Connected) (happened : List Happening) where
    abbrev doing : Doing
    doing = record { vat = v; act = act }

    done_more : flat_map done_of happened ≡ done_by doing → flat_map done_of (so.happened ++ happened) ≡ flat_map done_by (xs ++ doing ∷ [])
    done_more is = flat_map-append done_of so.happened happened ∙ (λ i. so.done i ++ is i) ∙ sym (flat_behind done_by xs doing)

    here : (IsSome (end j v).speaker.host.core.down → IsSome new.speaker.host.core.down)
        → TellsInTurn (end j v).speaker.host new.speaker.host (told_by_act act) (flat_map (told_in v) happened) ⊎ CutsOne (end j v).speaker.host new.speaker.host (told_by_act act) (flat_map (told_in v) happened)
        → Telling (flat_map (told_by v) (xs ++ doing ∷ [])) new.speaker.host (flat_map (told_in v) (so.happened ++ happened))
    here stays tells =
        telling_as (flat_map (told_by v) xs ++ told_by_act act) (flat_map (told_by v) (xs ++ doing ∷ [])) new.speaker.host new.speaker.host (flat_map (told_in v) so.happened ++ flat_map (told_in v) happened) (flat_map (told_in v) (so.happened ++ happened))
        (flat_behind (told_by v) xs doing ∙ ap (λ (es : List Event). flat_map (told_by v) xs ++ es) (told_here v (told_by_act act))) refl (flat_map-append (told_in v) so.happened happened) (by tells)
      where
        by : TellsInTurn (end j v).speaker.host new.speaker.host (told_by_act act) (flat_map (told_in v) happened) ⊎ CutsOne (end j v).speaker.host new.speaker.host (told_by_act act) (flat_map (told_in v) happened)
            → Telling (flat_map (told_by v) xs ++ told_by_act act) new.speaker.host (flat_map (told_in v) so.happened ++ flat_map (told_in v) happened)
        by (inl t) = tells_on (flat_map (told_by v) xs) (end j v).speaker.host new.speaker.host (flat_map (told_in v) so.happened) (told_by_act act) (flat_map (told_in v) happened) stays t (so.told v)
        by (inr c) = cuts_on (flat_map (told_by v) xs) (end j v).speaker.host new.speaker.host (flat_map (told_in v) so.happened) (told_by_act act) (flat_map (told_in v) happened) c (so.told v)

    there : flat_map (told_in (other_vat v)) happened ≡ [] → (h : Hosted) → h ≡ (end j (other_vat v)).speaker.host → Telling (flat_map (told_by (other_vat v)) (xs ++ doing ∷ [])) h (flat_map (told_in (other_vat v)) (so.happened ++ happened))
    there none h is =
        telling_as (flat_map (told_by (other_vat v)) xs) (flat_map (told_by (other_vat v)) (xs ++ doing ∷ [])) (end j (other_vat v)).speaker.host h (flat_map (told_in (other_vat v)) so.happened) (flat_map (told_in (other_vat v)) (so.happened ++ happened))
        (flat_behind (told_by (other_vat v)) xs doing ∙ ap (λ (es : List Event). flat_map (told_by (other_vat v)) xs ++ es) (told_elsewhere v (told_by_act act)) ∙ append-nil (flat_map (told_by (other_vat v)) xs))
        is
        (flat_map-append (told_in (other_vat v)) so.happened happened ∙ ap (λ (es : List Event). flat_map (told_in (other_vat v)) so.happened ++ es) none ∙ append-nil (flat_map (told_in (other_vat v)) so.happened))
        (so.told (other_vat v))

  both : (P : Vat → Type 0) → P A → P B → (v : Vat) → P v
  both P a b A = a
  both P a b B = b

  of_a : (act : Act) (new : Joined) (r : List ℕ) → new.to_a ≡ r → new.b ≡ j.b → Acted letters root_a root_b A so.view act j.a new.a j.b.speaker r (coming so.gone_b new.to_b)
      → So letters root_a root_b (xs ++ record { vat = A; act = act } ∷ []) new
  of_a act new r stream other k = record {
    happened = so.happened ++ k.happened;
    view = k.view;
    ran = runs_on so.happened k.happened (named_world letters root_a root_b) (world_of A so.view) (world_of A k.view) so.ran k.ran;
    done = done_more A act new.a k.happened k.done;
    told = both (λ v. Telling (flat_map (told_by v) (xs ++ record { vat = A; act = act } ∷ [])) (end new v).speaker.host (flat_map (told_in v) (so.happened ++ k.happened)))
        (here A act new.a k.happened k.stays k.tells) (there A act new.a k.happened k.elsewhere new.b.speaker.host (ap (λ (c : Connected). c.speaker.host) other));
    gone_a = k.gone;
    gone_b = so.gone_b;
    waits_a = k.waits;
    waits_b = subst (λ (c : Connected). Waits c.inflow so.gone_b) (sym other) so.waits_b;
    holds = subst (λ (c : Connected). Tied new.a.speaker c.speaker (coming k.gone new.to_a) (coming so.gone_b new.to_b) k.view) (sym other)
        (subst (λ (x : List ℕ). Tied new.a.speaker j.b.speaker (coming k.gone x) (coming so.gone_b new.to_b) k.view) (sym stream) k.holds);
  }

  of_b : (act : Act) (new : Joined) (r : List ℕ) → new.to_b ≡ r → new.a ≡ j.a → Acted letters root_a root_b B (swap so.view) act j.b new.b j.a.speaker r (coming so.gone_a new.to_a)
      → So letters root_a root_b (xs ++ record { vat = B; act = act } ∷ []) new
  of_b act new r stream other k = record {
    happened = so.happened ++ k.happened;
    view = swap k.view;
    ran = runs_on so.happened k.happened (named_world letters root_a root_b) (world_of A so.view) (world_of B k.view) so.ran k.ran;
    done = done_more B act new.b k.happened k.done;
    told = both (λ v. Telling (flat_map (told_by v) (xs ++ record { vat = B; act = act } ∷ [])) (end new v).speaker.host (flat_map (told_in v) (so.happened ++ k.happened)))
        (there B act new.b k.happened k.elsewhere new.a.speaker.host (ap (λ (c : Connected). c.speaker.host) other)) (here B act new.b k.happened k.stays k.tells);
    gone_a = so.gone_a;
    gone_b = k.gone;
    waits_a = subst (λ (c : Connected). Waits c.inflow so.gone_a) (sym other) so.waits_a;
    waits_b = k.waits;
    holds = subst (λ (c : Connected). Tied c.speaker new.b.speaker (coming so.gone_a new.to_a) (coming k.gone new.to_b) (swap k.view)) (sym other)
        (subst (λ (x : List ℕ). Tied j.a.speaker new.b.speaker (coming so.gone_a new.to_a) (coming k.gone x) (swap k.view)) (sym stream)
        (swapped new.b.speaker j.a.speaker (coming k.gone r) (coming so.gone_a new.to_a) k.view k.holds));
  }

-- ---- all acts

abbrev start : (Vat → Vat) → Option ObjectId → Option ObjectId → View
start letters root_a root_b = record { mine = (new_joined letters root_a root_b).a.speaker.host.core; theirs = (new_joined letters root_a root_b).b.speaker.host.core; to_me = []; to_them = [] }

module _ (aside : StandAside) (alike : FittingNamesAreAlike) (runs : WiredRunsAreRuns) (refuse : RunsRefuseNothing) (understood : EveryRunIsUnderstood) (names : OfEachStep KeepsNames) (letters : Vat → Vat) (root_a root_b : Option ObjectId) where
  module _ (xs : List Doing) (j new : Joined) (so : So letters root_a root_b xs j) where
    reached_a : Reached letters root_a root_b (world_of A so.view)
    reached_a = (so.happened, so.ran)

    reached_b : Reached letters root_a root_b (world_of B (swap so.view))
    reached_b = (so.happened, so.ran)

    held_b : Tied j.b.speaker j.a.speaker (coming so.gone_b j.to_b) (coming so.gone_a j.to_a) (swap so.view)
    held_b = swapped j.a.speaker j.b.speaker (coming so.gone_a j.to_a) (coming so.gone_b j.to_b) so.view so.holds

    -- more bytes on the way to a vat
    behind : (gone : Unheard) (s bytes : List ℕ) → coming gone s ++ bytes ≡ coming gone (s ++ bytes)
    behind gone s bytes = append_assoc (concat gone.frames) (gone.rest ++ s) bytes ∙ ap (λ (x : List ℕ). concat gone.frames ++ x) (append_assoc gone.rest s bytes)

    -- An act of which no byte goes or comes.
    plain_a : (act : Act) (c : Connected) → new ≡ record j { a = c } → Acted letters root_a root_b A so.view act j.a c j.b.speaker j.to_a (coming so.gone_b j.to_b)
        → So letters root_a root_b (xs ++ record { vat = A; act = act } ∷ []) new
    plain_a act c is k = subst (λ (n : Joined). So letters root_a root_b (xs ++ record { vat = A; act = act } ∷ []) n) (sym is) (of_a letters root_a root_b xs j so act (record j { a = c }) j.to_a refl refl k)

    plain_b : (act : Act) (c : Connected) → new ≡ record j { b = c } → Acted letters root_a root_b B (swap so.view) act j.b c j.a.speaker j.to_b (coming so.gone_a j.to_a)
        → So letters root_a root_b (xs ++ record { vat = B; act = act } ∷ []) new
    plain_b act c is k = subst (λ (n : Joined). So letters root_a root_b (xs ++ record { vat = B; act = act } ∷ []) n) (sym is) (of_b letters root_a root_b xs j so act (record j { b = c }) j.to_b refl refl k)

    at_a : (act : Act) → Does j (record { vat = A; act = act }) new → FinishesAtOnce act → So letters root_a root_b (xs ++ record { vat = A; act = act } ∷ []) new
    at_a (Receives bytes) does at_once =
        let c = does.left in
        let m = does.moves in
        subst (λ (n : Joined). So letters root_a root_b (xs ++ record { vat = A; act = Receives bytes } ∷ []) n) (sym m.2)
        (of_a letters root_a root_b xs j so (Receives bytes) (record j { a = c; to_a = m.0 }) m.0 refl refl
        (receives aside alike runs refuse understood names letters root_a root_b A so.view reached_a j.b.speaker m.0 (coming so.gone_b j.to_b) j.a c so.gone_a so.waits_a bytes does.acts
        (subst (λ (s : List ℕ). Tied j.a.speaker j.b.speaker (coming so.gone_a s) (coming so.gone_b j.to_b) so.view) m.1 so.holds)))
    at_a (Gives bytes) does at_once =
        let c = does.left in
        subst (λ (n : Joined). So letters root_a root_b (xs ++ record { vat = A; act = Gives bytes } ∷ []) n) (sym does.moves)
        (of_a letters root_a root_b xs j so (Gives bytes) (record j { a = c; to_b = j.to_b ++ bytes }) j.to_a refl refl
        (subst (λ (s : List ℕ). Acted letters root_a root_b A so.view (Gives bytes) j.a c j.b.speaker j.to_a s) (behind so.gone_b j.to_b bytes)
        (gives_out aside alike runs refuse understood names letters root_a root_b A so.view reached_a j.b.speaker j.to_a (coming so.gone_b j.to_b) j.a c so.gone_a so.waits_a bytes does.acts so.holds)))
    at_a (Commands command answer) does at_once =
        plain_a (Commands command answer) does.left does.moves
        (commands_it aside alike runs refuse understood names letters root_a root_b A so.view reached_a j.b.speaker j.to_a (coming so.gone_b j.to_b) j.a does.left so.gone_a so.waits_a command answer does.acts so.holds)
    at_a Ends does at_once =
        plain_a Ends does.left does.moves
        (ends_it aside alike runs refuse understood names letters root_a root_b A so.view reached_a j.b.speaker j.to_a (coming so.gone_b j.to_b) j.a does.left so.gone_a so.waits_a does.acts so.holds)
    at_a (Shuts n) does at_once =
        plain_a (Shuts n) does.left does.moves
        (shuts_it aside alike runs refuse understood names letters root_a root_b A so.view reached_a j.b.speaker j.to_a (coming so.gone_b j.to_b) j.a does.left so.gone_a so.waits_a n does.acts so.holds)
    at_a (Asks event) does at_once =
        plain_a (Asks event) does.left does.moves
        (asks_it aside alike runs refuse understood names letters root_a root_b A so.view reached_a j.b.speaker j.to_a (coming so.gone_b j.to_b) j.a does.left so.gone_a so.waits_a event does.acts so.holds)
    at_a (SetsLimits limits) does at_once =
        plain_a (SetsLimits limits) does.left does.moves
        (limits_it aside alike runs refuse understood names letters root_a root_b A so.view reached_a j.b.speaker j.to_a (coming so.gone_b j.to_b) j.a does.left so.gone_a so.waits_a limits does.acts so.holds)
    at_a (SetsFinishes finishes) does at_once =
        plain_a (SetsFinishes finishes) does.left does.moves
        (finishes_it aside alike runs refuse understood names letters root_a root_b A so.view reached_a j.b.speaker j.to_a (coming so.gone_b j.to_b) j.a does.left so.gone_a so.waits_a finishes does.acts at_once so.holds)

    at_b : (act : Act) → Does j (record { vat = B; act = act }) new → FinishesAtOnce act → So letters root_a root_b (xs ++ record { vat = B; act = act } ∷ []) new
    at_b (Receives bytes) does at_once =
        let c = does.left in
        let m = does.moves in
        subst (λ (n : Joined). So letters root_a root_b (xs ++ record { vat = B; act = Receives bytes } ∷ []) n) (sym m.2)
        (of_b letters root_a root_b xs j so (Receives bytes) (record j { b = c; to_b = m.0 }) m.0 refl refl
        (receives aside alike runs refuse understood names letters root_a root_b B (swap so.view) reached_b j.a.speaker m.0 (coming so.gone_a j.to_a) j.b c so.gone_b so.waits_b bytes does.acts
        (subst (λ (s : List ℕ). Tied j.b.speaker j.a.speaker (coming so.gone_b s) (coming so.gone_a j.to_a) (swap so.view)) m.1 held_b)))
    at_b (Gives bytes) does at_once =
        let c = does.left in
        subst (λ (n : Joined). So letters root_a root_b (xs ++ record { vat = B; act = Gives bytes } ∷ []) n) (sym does.moves)
        (of_b letters root_a root_b xs j so (Gives bytes) (record j { b = c; to_a = j.to_a ++ bytes }) j.to_b refl refl
        (subst (λ (s : List ℕ). Acted letters root_a root_b B (swap so.view) (Gives bytes) j.b c j.a.speaker j.to_b s) (behind so.gone_a j.to_a bytes)
        (gives_out aside alike runs refuse understood names letters root_a root_b B (swap so.view) reached_b j.a.speaker j.to_b (coming so.gone_a j.to_a) j.b c so.gone_b so.waits_b bytes does.acts held_b)))
    at_b (Commands command answer) does at_once =
        plain_b (Commands command answer) does.left does.moves
        (commands_it aside alike runs refuse understood names letters root_a root_b B (swap so.view) reached_b j.a.speaker j.to_b (coming so.gone_a j.to_a) j.b does.left so.gone_b so.waits_b command answer does.acts held_b)
    at_b Ends does at_once =
        plain_b Ends does.left does.moves
        (ends_it aside alike runs refuse understood names letters root_a root_b B (swap so.view) reached_b j.a.speaker j.to_b (coming so.gone_a j.to_a) j.b does.left so.gone_b so.waits_b does.acts held_b)
    at_b (Shuts n) does at_once =
        plain_b (Shuts n) does.left does.moves
        (shuts_it aside alike runs refuse understood names letters root_a root_b B (swap so.view) reached_b j.a.speaker j.to_b (coming so.gone_a j.to_a) j.b does.left so.gone_b so.waits_b n does.acts held_b)
    at_b (Asks event) does at_once =
        plain_b (Asks event) does.left does.moves
        (asks_it aside alike runs refuse understood names letters root_a root_b B (swap so.view) reached_b j.a.speaker j.to_b (coming so.gone_a j.to_a) j.b does.left so.gone_b so.waits_b event does.acts held_b)
    at_b (SetsLimits limits) does at_once =
        plain_b (SetsLimits limits) does.left does.moves
        (limits_it aside alike runs refuse understood names letters root_a root_b B (swap so.view) reached_b j.a.speaker j.to_b (coming so.gone_a j.to_a) j.b does.left so.gone_b so.waits_b limits does.acts held_b)
    at_b (SetsFinishes finishes) does at_once =
        plain_b (SetsFinishes finishes) does.left does.moves
        (finishes_it aside alike runs refuse understood names letters root_a root_b B (swap so.view) reached_b j.a.speaker j.to_b (coming so.gone_a j.to_a) j.b does.left so.gone_b so.waits_b finishes does.acts at_once held_b)

    one : (v : Vat) (act : Act) → Does j (record { vat = v; act = act }) new → FinishesAtOnce act → So letters root_a root_b (xs ++ record { vat = v; act = act } ∷ []) new
    one A act does at_once = at_a act does at_once
    one B act does at_once = at_b act does at_once

  so_all : (before xs : List Doing) (j new : Joined) → So letters root_a root_b before j → JoinedRun j xs new → FinishAtOnce xs → So letters root_a root_b (before ++ xs) new
  so_all before [] j new so same at_once = subst (λ (l : List Doing). So letters root_a root_b l new) (sym (append-nil before)) (subst (λ (n : Joined). So letters root_a root_b before n) (sym same) so)
  so_all before (x ∷ xs) j new so (mid, does, more) at_once =
      subst (λ (l : List Doing). So letters root_a root_b l new) (append_assoc before (x ∷ []) xs)
      (so_all (before ++ x ∷ []) xs mid new (one before j mid so x.vat x.act does at_once.0) more at_once.1)

  so_new : So letters root_a root_b [] (new_joined letters root_a root_b)
  so_new = record {
    happened = [];
    view = start letters root_a root_b;
    ran = refl;
    done = refl;
    told = both_new;
    gone_a = no_bytes;
    gone_b = no_bytes;
    waits_a = none_waits;
    waits_b = none_waits;
    holds = record {
      mine = refl;
      theirs = refl;
      own = record { echoes = refl; plainly = inl refl; level = refl; small = start_small (letters A) One root_a };
      own_theirs = record { echoes = refl; plainly = inl refl; level = refl; small = start_small (letters B) One root_b };
      link = λ up. Clean [] [] tt refl refl;
      link_theirs = λ up. Clean [] [] tt refl refl;
    };
  }
    where
      both_new : (v : Vat) → Telling [] (end (new_joined letters root_a root_b) v).speaker.host []
      both_new A = record { cut = []; cut_off = tt; is = refl; over = inl refl }
      both_new B = record { cut = []; cut_off = tt; is = refl; over = inl refl }

pub joined_runs_are_wired : StandAside → FittingNamesAreAlike → WiredRunsAreRuns → RunsRefuseNothing → EveryRunIsUnderstood → OfEachStep KeepsNames → JoinedRunsAreWired
joined_runs_are_wired aside alike runs refuse understood names letters root_a root_b xs j ran at_once =
    let so = so_all aside alike runs refuse understood names letters root_a root_b [] xs (new_joined letters root_a root_b) j (so_new aside alike runs refuse understood names letters root_a root_b) ran at_once in
    record {
      happened = so.happened;
      world = world_of A so.view;
      ran = so.ran;
      done = so.done;
      told = λ v. let t = so.told v in record { cut = t.cut; cut_off = t.cut_off; is = t.is };
      cores = by so;
    }
  where
    by : (so : So letters root_a root_b xs j) (v : Vat) → core (world_of A so.view) v ≡ (end j v).speaker.host.core
    by so A = so.holds.mine
    by so B = so.holds.theirs
