-- What one of the two does, both do.
use Rattle.std.proofs.Common.{◌≡◌, ℕ, false, List, [], ◌++◌, append-nil, Option, Some, ◌⊎◌, inl, inr, refl, sym, ap, subst, ◌∙◌}
use Rattle.std.specs.Prelude.{take, Result, Ok, Err, IfOk, OnErr}
use Rattle.rpc_msg.specs.Vats.{other_vat}
use Rattle.rpc_msg.specs.declared.ids.Vat.{Vat}
use Rattle.rpc_msg.specs.declared.ids.Vat.TheVariants.{A, B}
use Rattle.rpc_machine.specs.declared.command.Command.{Command}
use Rattle.rpc_machine.specs.declared.command.Refusal.TheVariants as refusal
use Rattle.rpc_machine.specs.Refusals.{is_shut}
use Rattle.vat_host.specs.declared.event.Event.{Event}
use Rattle.vat_connection.specs.Connecting.{Connected}
use Rattle.vat_connections.specs.OneConnection.{Act, Acts}
use Rattle.vat_connections.specs.OneConnection.Act.{Commands, Receives, Ends, Shuts, Gives, Asks, SetsLimits, SetsFinishes}
use Rattle.laws_in_bytes.specs.Joined.{Joined, Moves, end, stream, put_end, put_stream}
use Rattle.vat_joined.specs.declared.entry.JoinedEntry.{JoinedEntry}
use Rattle.vat_joined.specs.Recorded.{DoesNoted, IsReached, Recorded, entries_by_act, on_way}
use Rattle.vat_joined.specs.Doing.{HandsOut, TakesIn, IsToldAndNoted, DoesAsk, DoesCome, DoesGive}
use Rattle.vat_joined.proofs.Lists.{parted}
use Rattle.vat_joined.proofs.Reaching.{goes_on}

-- A command that is no shut may be refused for want of memory, and nothing is changed.
pub refused_for_memory : (c : Connected) (command : Command) → is_shut command ≡ false → Acts c (Commands command (Err refusal.Memory)) c
refused_for_memory c command e = inr (inl (inr (refl, e), refl), refl)

-- ---- no byte moves

abbrev pub IsStill : Act → Type 0
IsStill (Receives bytes) = ⊥
IsStill (Gives bytes) = ⊥
IsStill x = Unit {0}

still : (j : Joined) (v : Vat) (x : Act) (c : Connected) → IsStill x → Moves j v x c (put_end j v c)
still j v (Commands c answer) d s = refl
still j v (Receives bytes) d s = absurd s
still j v Ends d s = refl
still j v (Shuts n) d s = refl
still j v (Gives bytes) d s = absurd s
still j v (Asks event) d s = refl
still j v (SetsLimits limits) d s = refl
still j v (SetsFinishes finishes) d s = refl

abbrev pub with_end : Recorded → Vat → Connected → List JoinedEntry → Recorded
with_end w v c h = record { joined = put_end w.joined v c; journal = h }

-- An act that moves no byte.
pub acts_still : (w : Recorded) (v : Vat) (x : Act) (c : Connected) (h : List JoinedEntry) → IsStill x → Acts (end w.joined v) x c → h ≡ w.journal ++ entries_by_act v x
    → DoesNoted w (record { vat = v; act = x }) (with_end w v c h)
acts_still w v x c h s acts e = record { does = record { left = c; acts = acts; moves = still w.joined v x c s }; noted = e }

-- and one that has no entry
pub acts_unnoted : (w : Recorded) (v : Vat) (x : Act) (c : Connected) → IsStill x → entries_by_act v x ≡ [] → Acts (end w.joined v) x c
    → DoesNoted w (record { vat = v; act = x }) (with_end w v c w.journal)
acts_unnoted w v x c s none acts = acts_still w v x c w.journal s acts (sym (ap (λ (l : List JoinedEntry). w.journal ++ l) none ∙ append-nil w.journal))

pub tells : (w : Recorded) (v : Vat) (event : Option Event) (c : Connected) (h : List JoinedEntry) → IsToldAndNoted (end w.joined v) w.journal v event c h → DoesAsk w v event (with_end w v c h)
tells w v event c h k = acts_still w v (Asks event) c h tt k.0 k.1

-- ---- bytes move

abbrev pub with_way : Recorded → Vat → Connected → Vat → List ℕ → Recorded
with_way w v c to bytes = record w { joined = put_stream (put_end w.joined v c) to bytes }

pub gives : (w : Recorded) (v : Vat) (c : Connected) (count : ℕ) (later : List ℕ) → HandsOut (end w.joined v) (stream w.joined (other_vat v)) count c later
    → DoesGive w v count (with_way w v c (other_vat v) later)
gives w v c count later k = (
  k.0,
  record {
    does = record { left = c; acts = k.1; moves = ap (λ (bytes : List ℕ). put_stream (put_end w.joined v c) (other_vat v) bytes) k.2 };
    noted = sym (append-nil w.journal);
  },
  k.3,
)

pub comes : (w : Recorded) (v : Vat) (most : ℕ) (c : Connected) (count : ℕ) (later : List ℕ) → TakesIn (end w.joined v) (stream w.joined v) most count c later
    → DoesCome w v most count (with_way w v c v later)
comes w v most c count later k = (
  record {
    does = record { left = c; acts = k.0; moves = (later, parted most (stream w.joined v) ∙ ap (λ (rest : List ℕ). take most (stream w.joined v) ++ rest) (sym k.1), refl) };
    noted = sym (append-nil w.journal);
  },
  k.2,
)

-- ---- as the code has it

-- The fields of two joined connections, as they are seen.
abbrev pub seen : Connected → Connected → List ℕ × List ℕ → List ℕ × List ℕ → List JoinedEntry → Recorded
seen a b to_a to_b h = record { joined = record { a = a; b = b; to_a = on_way to_a; to_b = on_way to_b }; journal = h }

-- For a vat that is known to be A, or B.
pub named : (v u : Vat) → v ≡ u → (w new : Recorded) (x : Act) → DoesNoted w (record { vat = u; act = x }) new → DoesNoted w (record { vat = v; act = x }) new
named v u e w new x d = subst (λ (k : Vat). DoesNoted w (record { vat = k; act = x }) new) (sym e) d

pub noted_at : (v u : Vat) → v ≡ u → (w : Recorded) (x : Act) (c : Connected) (h : List JoinedEntry) → IsStill x → Acts (end w.joined u) x c → h ≡ w.journal ++ entries_by_act v x
    → DoesNoted w (record { vat = v; act = x }) (with_end w u c h)
noted_at v u e w x c h s acts n =
    named v u e w (with_end w u c h) x (acts_still w u x c h s acts (subst (λ (k : Vat). h ≡ w.journal ++ entries_by_act k x) e n))

pub unnoted_at : (v u : Vat) → v ≡ u → (w : Recorded) (x : Act) (c : Connected) → IsStill x → entries_by_act u x ≡ [] → Acts (end w.joined u) x c
    → DoesNoted w (record { vat = v; act = x }) (with_end w u c w.journal)
unnoted_at v u e w x c s none acts = named v u e w (with_end w u c w.journal) x (acts_unnoted w u x c s none acts)

pub told_at : (v u : Vat) → v ≡ u → (w : Recorded) (event : Option Event) (c : Connected) (h : List JoinedEntry) → IsToldAndNoted (end w.joined u) w.journal v event c h
    → DoesAsk w v event (with_end w u c h)
told_at v u e w event c h k = noted_at v u e w (Asks event) c h tt k.0 k.1

pub given_at : (v u : Vat) → v ≡ u → (w : Recorded) (c : Connected) (count : ℕ) (later : List ℕ) → HandsOut (end w.joined u) (stream w.joined (other_vat u)) count c later
    → DoesGive w v count (with_way w u c (other_vat u) later)
given_at v u e w c count later k = subst (λ (z : Vat). DoesGive w z count (with_way w u c (other_vat u) later)) (sym e) (gives w u c count later k)

pub come_at : (v u : Vat) → v ≡ u → (w : Recorded) (most : ℕ) (c : Connected) (count : ℕ) (later : List ℕ) → TakesIn (end w.joined u) (stream w.joined u) most count c later
    → DoesCome w v most count (with_way w u c u later)
come_at v u e w most c count later k = subst (λ (z : Vat). DoesCome w z most count (with_way w u c u later)) (sym e) (comes w u most c count later k)

-- ---- of what is done or refused

pub if_ok : {X E : Type 0} {P Q : X → Type 0} (r : Result X E) → ((x : X) → P x → Q x) → IfOk r P → IfOk r Q
if_ok (Ok x) f p = f x p
if_ok (Err e) f p = p

same_way : (w : Recorded) (v : Vat) (c : Connected) (to : Vat) (bytes : List ℕ) → c ≡ end w.joined v → bytes ≡ stream w.joined to → with_way w v c to bytes ≡ w
same_way w A c A bytes e f = λ i. record w { joined = record (w.joined) { a = e i; to_a = f i } }
same_way w A c B bytes e f = λ i. record w { joined = record (w.joined) { a = e i; to_b = f i } }
same_way w B c A bytes e f = λ i. record w { joined = record (w.joined) { b = e i; to_a = f i } }
same_way w B c B bytes e f = λ i. record w { joined = record (w.joined) { b = e i; to_b = f i } }

pub reached_given : {E : Type 0} (w : Recorded) (u : Vat) (c : Connected) (later : List ℕ) (r : Result ℕ E) → IsReached w
    → IfOk r (λ count. HandsOut (end w.joined u) (stream w.joined (other_vat u)) count c later)
    → OnErr r ((c ≡ end w.joined u) × (later ≡ stream w.joined (other_vat u))) → IsReached (with_way w u c (other_vat u) later)
reached_given w u c later (Ok count) i k e = let d = gives w u c count later k in goes_on _ (tt, tt) i d.1
reached_given w u c later (Err m) i k e = subst IsReached (sym (same_way w u c (other_vat u) later e.0 e.1)) i

pub reached_come : {E : Type 0} (w : Recorded) (u : Vat) (most : ℕ) (c : Connected) (later : List ℕ) (r : Result ℕ E) → IsReached w
    → IfOk r (λ count. TakesIn (end w.joined u) (stream w.joined u) most count c later)
    → OnErr r ((c ≡ end w.joined u) × (later ≡ stream w.joined u)) → IsReached (with_way w u c u later)
reached_come w u most c later (Ok count) i k e = goes_on _ (tt, tt) i (comes w u most c count later k).0
reached_come w u most c later (Err m) i k e = subst IsReached (sym (same_way w u c u later e.0 e.1)) i

same_end : (w : Recorded) (v : Vat) (c : Connected) (h : List JoinedEntry) → c ≡ end w.joined v → h ≡ w.journal → with_end w v c h ≡ w
same_end w A c h e f = λ i. record { joined = record (w.joined) { a = e i }; journal = f i }
same_end w B c h e f = λ i. record { joined = record (w.joined) { b = e i }; journal = f i }

-- What was told of an event is told of its copy.
pub copied : (old new : Connected) (journal later : List JoinedEntry) (v : Vat) (event copy : Event) → copy ≡ event → IsToldAndNoted old journal v (Some event) new later
    → IsToldAndNoted old journal v (Some copy) new later
copied old new journal later v event copy e k = subst (λ (x : Event). IsToldAndNoted old journal v (Some x) new later) (sym e) k

-- Nothing was told, and nothing is done; or it was told, and there was no memory for its copy.
abbrev pub IsUntold : Connected → List JoinedEntry → Vat → Connected → List JoinedEntry → Type 0
IsUntold old journal v new later = ((new ≡ old) × (later ≡ journal)) ⊎ ((event : Event) × IsToldAndNoted old journal v (Some event) new later)

untold_in : (v u : Vat) → v ≡ u → (w : Recorded) (c : Connected) (h : List JoinedEntry) → IsUntold (end w.joined u) w.journal v c h
    → (with_end w u c h ≡ w) ⊎ ((event : Event) × DoesAsk w v (Some event) (with_end w u c h))
untold_in v u e w c h (inl k) = inl (same_end w u c h k.0 k.1)
untold_in v u e w c h (inr k) = inr (k.0, told_at v u e w (Some k.0) c h k.1)

pub untold_at : {E : Type 0} (v u : Vat) → v ≡ u → (w : Recorded) (c : Connected) (h : List JoinedEntry) (r : Result (Option Event) E) → OnErr r (IsUntold (end w.joined u) w.journal v c h)
    → OnErr r ((with_end w u c h ≡ w) ⊎ ((event : Event) × DoesAsk w v (Some event) (with_end w u c h)))
untold_at v u e w c h (Ok event) k = k
untold_at v u e w c h (Err m) k = untold_in v u e w c h k

pub reached_told : {E : Type 0} (v u : Vat) → v ≡ u → (w : Recorded) (c : Connected) (h : List JoinedEntry) (r : Result (Option Event) E) → IsReached w
    → IfOk r (λ event. IsToldAndNoted (end w.joined u) w.journal v event c h)
    → OnErr r (IsUntold (end w.joined u) w.journal v c h) → IsReached (with_end w u c h)
reached_told v u e w c h (Ok event) i k n = goes_on _ (tt, tt) i (told_at v u e w event c h k)
reached_told v u e w c h (Err m) i k n = by (untold_in v u e w c h n)
  where
    by : (with_end w u c h ≡ w) ⊎ ((event : Event) × DoesAsk w v (Some event) (with_end w u c h)) → IsReached (with_end w u c h)
    by (inl same) = subst IsReached (sym same) i
    by (inr told) = goes_on _ (tt, tt) i told.1
