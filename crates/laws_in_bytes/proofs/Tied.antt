-- Two connections joined by streams, and the view of two vats over wires to which they are tied.
use Rattle.std.proofs.Common.{◌≡◌, ◌⊎◌, inl, inr, ℕ, true, false, List, [], ◌∷◌, ◌++◌, append-nil, append_assoc, flat_map, Option, None, Some, IsSome, refl, sym, ap, subst, ◌∙◌}
use Rattle.std.specs.Prelude.{cond}
use Rattle.std.specs.List.{concat}
use Rattle.std.proofs.lemmas.Grind.{flat_map-append}
use Rattle.rpc_msg.specs.Vats.{other_vat}
use Rattle.rpc_msg.specs.declared.ids.ObjectId.{ObjectId}
use Rattle.rpc_msg.specs.declared.ids.Vat.{Vat}
use Rattle.rpc_msg.specs.declared.ids.Vat.TheVariants.{A, B}
use Rattle.rpc_msg.specs.declared.message.Message.{Message}
use Rattle.rpc_journal.specs.History.{same_vat}
use Rattle.rpc_machine.specs.declared.command.Effects.{Effects}
use Rattle.rpc_machine.specs.declared.command.Level.TheVariants.{One}
use Rattle.rpc_machine.specs.State.{State}
use Rattle.rpc_machine.specs.Progress.{quiet}
use Rattle.rpc_machine.specs.Down.{fallen, ShutsFrom}
use Rattle.rpc_machine.specs.World.{Happening}
use Rattle.peer_large.specs.Sparing.{fresh}
use Rattle.rpc_outgoing.specs.Outflows.{Outflow}
use Rattle.laws_wired.specs.Wires.{WiredRun}
use Rattle.vat_host.specs.declared.event.Event.{Event}
use Rattle.vat_host.specs.Hosting.{Hosted, is_abort, stepped}
use Rattle.vat_hosts.specs.Calls.{calls_told, of_calls}
use Rattle.vat_hosts.specs.Hosts.{Done}
use Rattle.vat_hosts.specs.Worlds.{told_in}
use Rattle.vat_hosts.proofs.Calls.{more_calls}
use Rattle.vat_connection.specs.Speaking.{Speaking, Falls}
use Rattle.laws_read_back.specs.ReadBack.{ReadsBack}
use Rattle.laws_in_bytes.specs.Wired.{done_of}
use Rattle.laws_in_bytes.proofs.Within.{HasSmallIds, shut_keeps}
use Rattle.laws_in_bytes.proofs.Viewing.{Reached, View, reached_on, world_of, shut_with, stepped_view, shuts, runs_on}

pub not_down : (o : Option ℕ) → o ≡ None → IsSome o → ⊥
not_down None e h = absurd (let k : false ≡ true = h in cc)
not_down (Some x) e h = absurd cc

pub some_down : (o : Option ℕ) (k : ℕ) → o ≡ Some k → IsSome o
some_down o k e = subst IsSome (sym e) (let j : IsSome (Some k) = refl in j)

-- ---- what is on its way

abbrev pub AreFrames : List Message → List (List ℕ) → Type 0
AreFrames [] [] = Unit {0}
AreFrames [] (f ∷ fs) = ⊥
AreFrames (m ∷ ms) [] = ⊥
AreFrames (m ∷ ms) (f ∷ fs) = ReadsBack m f × AreFrames ms fs

pub frames_append : (ms : List Message) (fs : List (List ℕ)) (m : Message) (f : List ℕ) → AreFrames ms fs → ReadsBack m f → AreFrames (ms ++ m ∷ []) (fs ++ f ∷ [])
frames_append [] [] m f h r = (r, tt)
frames_append [] (g ∷ gs) m f h r = absurd h
frames_append (n ∷ ns) [] m f h r = absurd h
frames_append (n ∷ ns) (g ∷ gs) m f h r = (h.0, frames_append ns gs m f h.1 r)

abbrev pub AllAborts : List Message → Type 0
AllAborts [] = Unit {0}
AllAborts (m ∷ ms) = (is_abort m ≡ true) × AllAborts ms

-- Of the messages on the way to a vat, those that were said are in frames, and the rest are still to be said. Or the other vat went
-- down as it said them: the rest is lost, and what comes behind are Aborts.
pub data Link (inbox unsaid : List Message) (down : Option ℕ) (bytes : List ℕ) : Type 0 where
  Clean : (told : List Message) (fs : List (List ℕ)) → AreFrames told fs → inbox ≡ told ++ unsaid → bytes ≡ concat fs → Link inbox unsaid down bytes
  Lost : (told lost aborts : List Message) (fs gs : List (List ℕ)) → AreFrames told fs → AreFrames aborts gs → AllAborts aborts → inbox ≡ told ++ lost → bytes ≡ concat fs ++ concat gs → unsaid ≡ [] → IsSome down → Link inbox unsaid down bytes

-- The adapter stands aside, or nothing but Aborts is still to be said.
abbrev pub IsPlainly : Speaking → Type 0
IsPlainly s = (s.adapter ≡ fresh) ⊎ (IsSome s.host.core.down × AllAborts s.host.messages)

-- Nothing is kept to go back; and its answers and imports have ids that the other may have.
pub record Own (s : Speaking) : Type 0 where
  pub echoes : s.out.echoes ≡ []
  pub plainly : IsPlainly s
  pub level : s.host.core.level ≡ One
  pub small : HasSmallIds s.host.core

pub record Tied (me peer : Speaking) (to_me to_them : List ℕ) (w : View) : Type 0 where
  pub mine : w.mine ≡ me.host.core
  pub theirs : w.theirs ≡ peer.host.core
  pub own : Own me
  pub own_theirs : Own peer
  pub link : me.host.core.down ≡ None → Link w.to_me peer.host.messages peer.host.core.down (to_me ++ peer.out.bytes)
  pub link_theirs : peer.host.core.down ≡ None → Link w.to_them me.host.messages me.host.core.down (to_them ++ me.out.bytes)

-- What is on the way to a vat that is down does not matter.
pub retie : (me peer : Speaking) (to_me to_them later : List ℕ) (w : View) → IsSome me.host.core.down → Tied me peer to_me to_them w → Tied me peer later to_them w
retie me peer to_me to_them later w d t = record {
  mine = t.mine;
  theirs = t.theirs;
  own = t.own;
  own_theirs = t.own_theirs;
  link = λ up. absurd (not_down me.host.core.down up d);
  link_theirs = t.link_theirs;
}

-- ---- what happens at one vat

pub told_here : (v : Vat) (es : List Event) → cond (same_vat v v) es [] ≡ es
told_here A es = refl
told_here B es = refl

pub told_elsewhere : (v : Vat) (es : List Event) → cond (same_vat (other_vat v) v) es [] ≡ []
told_elsewhere A es = refl
told_elsewhere B es = refl

-- What happens at the vat is no command but a shut. What is told of it stands behind what was to be told before.
pub record Happens2 (v : Vat) (w : View) (old new : Hosted) (P : View → Type 0) : Type 0 where
  pub happened : List Happening
  pub view : View
  pub ran : WiredRun (world_of v w) happened (world_of v view)
  pub undone : flat_map done_of happened ≡ []
  pub elsewhere : flat_map (told_in (other_vat v)) happened ≡ []
  pub calls : flat_map of_calls new.events ≡ flat_map of_calls old.events ++ flat_map (told_in v) happened
  pub holds : P view

pub nothing2 : (v : Vat) (w : View) (old new : Hosted) (P : View → Type 0) → new.events ≡ old.events → P w → Happens2 v w old new P
nothing2 v w old new P e p =
    record { happened = []; view = w; ran = refl; undone = refl; elsewhere = refl; calls = ap (λ (es : List Event). flat_map of_calls es) e ∙ sym (append-nil (flat_map of_calls old.events)); holds = p }

both_none : {X Y : Type 0} (f : X → List Y) (xs ys : List X) → flat_map f xs ≡ [] → flat_map f ys ≡ [] → flat_map f (xs ++ ys) ≡ []
both_none f xs ys a b = flat_map-append f xs ys ∙ (λ i. a i ++ b i)

module _ (letters : Vat → Vat) (root_a root_b : Option ObjectId) where
  pub then2 : (v : Vat) (w : View) (old mid new : Hosted) (P Q : View → Type 0) → Reached letters root_a root_b (world_of v w) → Happens2 v w old mid P
      → ((u : View) → Reached letters root_a root_b (world_of v u) → P u → Happens2 v u mid new Q) → Happens2 v w old new Q
  then2 v w old mid new P Q r h f =
      let k = f h.view (reached_on letters root_a root_b (world_of v w) (world_of v h.view) h.happened r h.ran) h.holds in
      record {
        happened = h.happened ++ k.happened;
        view = k.view;
        ran = runs_on h.happened k.happened (world_of v w) (world_of v h.view) (world_of v k.view) h.ran k.ran;
        undone = both_none done_of h.happened k.happened h.undone k.undone;
        elsewhere = both_none (told_in (other_vat v)) h.happened k.happened h.elsewhere k.elsewhere;
        calls = k.calls ∙ ap (λ (es : List Event). es ++ flat_map (told_in v) k.happened) h.calls
            ∙ append_assoc (flat_map of_calls old.events) (flat_map (told_in v) h.happened) (flat_map (told_in v) k.happened)
            ∙ ap (λ (es : List Event). flat_map of_calls old.events ++ es) (sym (flat_map-append (told_in v) h.happened k.happened));
        holds = k.holds;
      }

-- ---- a step of a vat that is up

-- What a step left to say and to tell of calls.
pub record Steps (old new : Hosted) (effects : Effects) : Type 0 where
  pub messages : new.messages ≡ old.messages ++ effects.sends
  pub calls : flat_map of_calls new.events ≡ flat_map of_calls old.events ++ calls_told effects

pub stepped_so : (old new : Hosted) (effects : Effects) → new ≡ stepped old effects new.core → Steps old new effects
stepped_so old new effects is = record {
  messages = ap (λ (h : Hosted). h.messages) is;
  calls = ap (λ (h : Hosted). flat_map of_calls h.events) is ∙ more_calls old.events effects None refl;
}

-- One event at the vat.
pub one2 : (v : Vat) (w view : View) (old new : Hosted) (x : Happening) (effects : Effects) (P : View → Type 0) → WiredRun (world_of v w) (x ∷ []) (world_of v view) → done_of x ≡ []
    → told_in v x ≡ calls_told effects → told_in (other_vat v) x ≡ [] → flat_map of_calls new.events ≡ flat_map of_calls old.events ++ calls_told effects → P view → Happens2 v w old new P
one2 v w view old new x effects P ran undone here there calls p = record {
  happened = x ∷ [];
  view = view;
  ran = ran;
  undone = ap (λ (ds : List Done). ds ++ []) undone;
  elsewhere = ap (λ (es : List Event). es ++ []) there;
  calls = calls ∙ ap (λ (es : List Event). flat_map of_calls old.events ++ es) (sym here ∙ sym (append-nil (told_in v x)));
  holds = p;
}

-- What it says stands behind what it has to say.
link_more : (inbox unsaid sends : List Message) (down later : Option ℕ) (bytes : List ℕ) → down ≡ None → Link inbox unsaid down bytes → Link (inbox ++ sends) (unsaid ++ sends) later bytes
link_more inbox unsaid sends down later bytes up (Clean told fs f e b) = Clean told fs f (ap (λ (ms : List Message). ms ++ sends) e ∙ append_assoc told unsaid sends) b
link_more inbox unsaid sends down later bytes up (Lost told lost aborts fs gs f g a e b n d) = absurd (not_down down up d)

pub step_ties : (me peer new : Speaking) (to_me to_them later : List ℕ) (w : View) (effects : Effects) (ms : List Message)
    → Tied me peer to_me to_them w → me.host.core.down ≡ None → new.host.messages ≡ me.host.messages ++ effects.sends → new.out ≡ me.out → IsPlainly new → new.host.core.level ≡ One → HasSmallIds new.host.core
    → (new.host.core.down ≡ None → Link ms peer.host.messages peer.host.core.down (later ++ peer.out.bytes))
    → Tied new peer later to_them (record (stepped_view w effects new.host.core) { to_me = ms })
step_ties me peer new to_me to_them later w effects ms t up said o a one small l = record {
  mine = refl;
  theirs = t.theirs;
  own = record { echoes = ap (λ (x : Outflow). x.echoes) o ∙ t.own.echoes; plainly = a; level = one; small = small };
  own_theirs = t.own_theirs;
  link = l;
  link_theirs = λ p. subst (λ (x : Outflow). Link (w.to_them ++ effects.sends) new.host.messages new.host.core.down (to_them ++ x.bytes)) (sym o)
      (subst (λ (x : List Message). Link (w.to_them ++ effects.sends) x new.host.core.down (to_them ++ me.out.bytes)) (sym said)
      (link_more w.to_them me.host.messages effects.sends me.host.core.down new.host.core.down (to_them ++ me.out.bytes) up (t.link_theirs p)));
}

-- ---- it is shut

pub fallen_down : (s t : State) (n : ℕ) → t ≡ fallen s n → IsSome t.down
fallen_down s t n e = subst (λ (x : State). IsSome x.down) (sym e) (let k : IsSome (Some n) = refl in k)

pub still_host : (h : Hosted) → stepped h quiet h.core ≡ h
still_host h =
    let a = append-nil h.messages in
    let b = append-nil h.events in
    λ i. record h { messages = a i; events = b i }

-- Its host goes down with that number, whatever else changes of the vat.
pub record IsShut (old new : Hosted) (n : ℕ) (o : Option ℕ) : Type 0 where
  pub effects : Effects
  pub from : ShutsFrom old.core n o effects new.core
  pub is : new ≡ stepped old effects new.core

pub down_same : (old new : Hosted) (n k : ℕ) → IsShut old new n (Some k) → new ≡ old
down_same old new n k h = h.is ∙ (λ i. stepped old (h.from.effects_are i) (h.from.new_is i)) ∙ still_host old

pub falls_down : (me new : Speaking) (n : ℕ) → Falls me n new → IsSome new.host.core.down
falls_down me new n h = by me.host.core.down refl h.0.1
  where
    by : (o : Option ℕ) → me.host.core.down ≡ o → ShutsFrom me.host.core n o h.0.0 new.host.core → IsSome new.host.core.down
    by None d s = fallen_down me.host.core new.host.core n s.new_is
    by (Some k) d s = some_down new.host.core.down k (ap (λ (x : State). x.down) s.new_is ∙ d)

-- One event that is a shut.
pub shut2 : (v : Vat) (w : View) (old new : Hosted) (n : ℕ) (effects : Effects) (s : State) (P : View → Type 0) → w.mine ≡ old.core → old.core.down ≡ None → ShutsFrom old.core n old.core.down effects s
    → flat_map of_calls new.events ≡ flat_map of_calls old.events ++ calls_told effects → P (stepped_view w effects s) → Happens2 v w old new P
shut2 v w old new n effects s P mine up from calls p =
    one2 v w (stepped_view w effects s) old new (shut_with v n effects) effects P
    (world_of v (stepped_view w effects s), shuts v w n effects s (ap (λ (x : State). x.down) mine ∙ up) (subst (λ (x : State). ShutsFrom x n x.down effects s) (sym mine) from), refl)
    refl (told_here v (calls_told effects)) (told_elsewhere v (calls_told effects)) calls p

pub falls : (v : Vat) (me peer new : Speaking) (n : ℕ) (to_me to_them later : List ℕ) (w : View) → Tied me peer to_me to_them w → Falls me n new → Happens2 v w me.host new.host (Tied new peer later to_them)
falls v me peer new n to_me to_them later w t h = by me.host.core.down refl (record { effects = h.0.0; from = h.0.1; is = h.0.2 })
  where
    by : (o : Option ℕ) → me.host.core.down ≡ o → IsShut me.host new.host n o → Happens2 v w me.host new.host (Tied new peer later to_them)
    by (Some k) d s =
        let same : new ≡ me = h.1 ∙ ap (λ (x : Hosted). record me { host = x }) (down_same me.host new.host n k s) in
        nothing2 v w me.host new.host (Tied new peer later to_them) (ap (λ (x : Speaking). x.host.events) same)
        (subst (λ (x : Speaking). Tied x peer later to_them w) (sym same) (retie me peer to_me to_them later w (some_down me.host.core.down k d) t))
    by None d s =
        let gone = fallen_down me.host.core new.host.core n s.from.new_is in
        let steps = stepped_so me.host new.host s.effects s.is in
        shut2 v w me.host new.host n s.effects new.host.core (Tied new peer later to_them) t.mine d (subst (λ (o : Option ℕ). ShutsFrom me.host.core n o s.effects new.host.core) (sym d) s.from) steps.calls
        (step_ties me peer new to_me to_them later w s.effects w.to_me t d steps.messages (ap (λ (x : Speaking). x.out) h.1) (plainly_then t.own.plainly)
        (ap (λ (x : State). x.level) s.from.new_is ∙ t.own.level) (shut_keeps me.host.core n None s.effects new.host.core s.from t.own.small) (λ up. absurd (not_down new.host.core.down up gone)))
      where
        plainly_then : IsPlainly me → IsPlainly new
        plainly_then (inl f) = inl (ap (λ (x : Speaking). x.adapter) h.1 ∙ f)
        plainly_then (inr a) = absurd (not_down me.host.core.down d a.0)
