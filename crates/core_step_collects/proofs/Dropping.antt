-- A thing that no place names goes.
use Rattle.std.proofs.Common.{◌≡◌, Bool, true, false, ℕ, ◌+◌, ◌<◌, Option, None, Some, refl, sym, ap, subst, ◌∙◌, arith}
use Rattle.std.specs.Prelude.{MatchBool}
use Rattle.std.specs.FinMap as map
use Rattle.finite_maps.specs.Tally.{Map}
use Rattle.finite_maps.proofs.Lens.{len_gone}
use Rattle.rpc_machine.specs.declared.calls.Promise.{Promise}
use Rattle.rpc_machine.specs.declared.calls.Promise.TheVariants as promise
use Rattle.rpc_machine.specs.declared.calls.KeptOutcome.{KeptOutcome}
use Rattle.rpc_machine.specs.declared.calls.Value.{Value}
use Rattle.rpc_machine.specs.declared.entries.Import.{Import}
use Rattle.rpc_machine.specs.State.{State}
use Rattle.rpc_machine.specs.Nodes.{is_promise, is_field}
use Rattle.rpc_machine.specs.Places.{names}
use Rattle.rpc_machine.specs.Progress.{Progress, with_state}
use Rattle.rpc_machine.specs.Collecting.{IsLoosePromise, IsLooseOutcome, IsLooseValue, IsLooseImport, IsTight, Collects, Tight, Goes, PromiseGoes, OutcomeGoes, ImportGoes, release}
use Rattle.core_outbox.specs.Outgoing.{Outgoing, with_release}
use Rattle.core_store.specs.declared.store.Store.{Store}
use Rattle.core_store.specs.Holding.{state_of, IsSound, IsThere}
use Rattle.core_store_tables.specs.Peer.{whole_count}
use Rattle.core_step.specs.declared.step.Step.{Step}
use Rattle.core_step.specs.InProgress.{progress_of, IsReady, IsEnding}
use Rattle.core_step_collects.specs.Dropping.{things, Drops, Rests, OnlyReleases}

-- ---- What is loose is there

loose_promise : (s : State) (p : ℕ) (o : Option Promise) → IsLoosePromise s p o → IsThere o
loose_promise s p None h = absurd h
loose_promise s p (Some x) h = tt

loose_outcome : (s : State) (k : ℕ) (o : Option KeptOutcome) → IsLooseOutcome s k o → IsThere o
loose_outcome s k None h = absurd h
loose_outcome s k (Some x) h = tt

loose_import : (s : State) (e : ℕ) (o : Option Import) → IsLooseImport s e o → IsThere o
loose_import s e None h = absurd h
loose_import s e (Some x) h = tt

-- Nor does any place name it.
pub unnamed_promise : (s : State) (p : ℕ) (o : Option Promise) → IsLoosePromise s p o → names s (is_promise p) ≡ 0
unnamed_promise s p None h = absurd h
unnamed_promise s p (Some (promise.Open calls)) h = absurd h
unnamed_promise s p (Some (promise.Fixed to)) h = h

pub unnamed_outcome : (s : State) (k : ℕ) (o : Option KeptOutcome) → IsLooseOutcome s k o → names s (is_field k) ≡ 0
unnamed_outcome s k None h = absurd h
unnamed_outcome s k (Some x) h = by x.value h
  where
    by : (v : Option Value) → IsLooseValue s k x v → names s (is_field k) ≡ 0
    by None h = absurd h
    by (Some v) h = h.2

to_release : (m : Map ℕ) (e n : ℕ) (o : Option Import) → Some n ≡ whole_count o → map.insert m e n ≡ release m e o
to_release m e n None h = absurd (let g : ◌≡◌ {A = Option ℕ} (Some n) None = h in cc)
to_release m e n (Some x) h = let g : ◌≡◌ {A = Option ℕ} (Some n) (Some x.count) = h in ap (λ (k : ℕ). map.insert m e k) (let f : n ≡ x.count = cc in f)

-- ---- One fewer

one_fewer : {X : Type 0} (m : Map X) (k : ℕ) (o : Option X) → map.get m k ≡ o → IsThere o → map.len (map.remove m k) + 1 ≡ map.len m
one_fewer m k None e h = absurd h
one_fewer m k (Some x) e h = len_gone m k x e

fewer : {X : Type 0} (m : Map X) (k : ℕ) → IsThere (map.get m k) → map.len (map.remove m k) + 1 ≡ map.len m
fewer m k h = one_fewer m k (map.get m k) refl h

-- ---- The steps

-- Other names, and then another store.
module _ (x : Step) (t s : Store) (same : t ≡ record (x.store) { names = t.names }) where
  abbrev before : State
  before = state_of x.store

  abbrev after : Step
  after = record x { store = s }

  mid : state_of t ≡ before
  mid = ap state_of same

  slack : t.slack ≡ x.store.slack
  slack = ap (λ (y : Store). y.slack) same

  pub promise_drops : (p : ℕ) → IsLoosePromise before p (map.get before.promises p) → state_of s ≡ record (state_of t) { promises = map.remove (state_of t).promises p } → Drops x after
  promise_drops p loose gone =
      let now : state_of s ≡ record before { promises = map.remove before.promises p } = gone ∙ ap (λ (y : State). record y { promises = map.remove y.promises p }) mid in
      let one = fewer before.promises p (loose_promise before p (map.get before.promises p) loose) in
      let all : things (state_of s) ≡ things (record before { promises = map.remove before.promises p }) = ap things now in record {
        goes = PromiseGoes p loose (ap (λ (y : State). with_state (progress_of x) y) now);
        fewer = omega (arith, one, all);
      }

  pub outcome_drops : (k : ℕ) → IsLooseOutcome before k (map.get before.outcomes k) → state_of s ≡ record (state_of t) { outcomes = map.remove (state_of t).outcomes k } → Drops x after
  outcome_drops k loose gone =
      let now : state_of s ≡ record before { outcomes = map.remove before.outcomes k } = gone ∙ ap (λ (y : State). record y { outcomes = map.remove y.outcomes k }) mid in
      let one = fewer before.outcomes k (loose_outcome before k (map.get before.outcomes k) loose) in
      let all : things (state_of s) ≡ things (record before { outcomes = map.remove before.outcomes k }) = ap things now in record {
        goes = OutcomeGoes k loose (ap (λ (y : State). with_state (progress_of x) y) now);
        fewer = omega (arith, one, all);
      }

  -- Imports stay.
  pub ending_beside : IsEnding x → IsSound s → s.slack ≡ t.slack → (state_of s).imports ≡ (state_of t).imports → IsEnding after
  ending_beside h sound left taken =
      let a = slack in
      let n : map.len s.imports.entries ≡ map.len x.store.imports.entries = ap map.len (taken ∙ ap (λ (y : State). y.imports) mid) in record {
        sound = sound;
        outbox = let r = h.outbox in omega (arith, a, left, r);
        arisen = let r = h.arisen in omega (arith, a, left, r);
        releases = let r = h.releases in omega (arith, a, left, n, r);
        can_abort = h.can_abort;
      }

  -- Questions stay.
  pub only_beside : s.slack ≡ t.slack → (state_of s).questions ≡ (state_of t).questions → OnlyReleases x after
  only_beside left asked = record { outbox = refl; arisen = refl; questions = asked ∙ ap (λ (y : State). y.questions) mid; left = left ∙ slack }

  -- An import goes, and is to be released.
  module _ (e n : ℕ) (loose : IsLooseImport before e (map.get before.imports e)) (gone : state_of s ≡ record (state_of t) { imports = map.remove (state_of t).imports e }) where
    abbrev released : Step
    released = record x { store = s; outbox = with_release x.outbox e n }

    now : state_of s ≡ record before { imports = map.remove before.imports e }
    now = gone ∙ ap (λ (y : State). record y { imports = map.remove y.imports e }) mid

    one : map.len (map.remove before.imports e) + 1 ≡ map.len before.imports
    one = fewer before.imports e (loose_import before e (map.get before.imports e) loose)

    pub import_drops : Some n ≡ whole_count (map.get (state_of t).imports e) → Drops x released
    import_drops count =
        let whole : Some n ≡ whole_count (map.get before.imports e) = count ∙ ap (λ (y : State). whole_count (map.get y.imports e)) mid in
        let all : things (state_of s) ≡ things (record before { imports = map.remove before.imports e }) = ap things now in
        let a = one in record {
          goes = ImportGoes e loose (
              ap (λ (y : State). record (progress_of x) { state = y; released = map.insert x.outbox.releases e n }) now
              ∙ ap (λ (m : Map ℕ). record (progress_of x) { state = record before { imports = map.remove before.imports e }; released = m }) (to_release x.outbox.releases e n (map.get before.imports e) whole));
          fewer = omega (arith, a, all);
        }

    pub has_room : IsEnding x → 0 < x.outbox.release_room
    has_room h = let a = one in let b = h.releases in omega (arith, a, b)

    pub only_released : s.slack ≡ t.slack → OnlyReleases x released
    only_released left = record { outbox = refl; arisen = refl; questions = ap (λ (y : State). y.questions) now; left = left ∙ slack }

    pub ending_released : IsEnding x → IsSound s → s.slack ≡ t.slack → IsEnding released
    ending_released h sound left =
        let a = slack in
        let taken : map.len s.imports.entries ≡ map.len (map.remove before.imports e) = ap (λ (y : State). map.len y.imports) now in
        let b = one in record {
          sound = sound;
          outbox = let r = h.outbox in omega (arith, a, left, r);
          arisen = let r = h.arisen in omega (arith, a, left, r);
          releases = let r = h.releases in omega (arith, a, left, taken, b, r);
          can_abort = h.can_abort;
        }

-- ---- One after the other

pub drops_after : (old mid new : Step) → progress_of mid ≡ progress_of old → Drops mid new → Drops old new
drops_after old mid new same h = record {
  goes = subst (λ (d : Progress). Goes d (progress_of new)) same h.goes;
  fewer = let a = ap (λ (d : Progress). things d.state) same in let b = h.fewer in omega (arith, a, b);
}

abbrev NoPromise : State → Type 0
NoPromise s = (p : ℕ) → ¬ (IsLoosePromise s p (map.get s.promises p))

abbrev NoOutcome : State → Type 0
NoOutcome s = (k : ℕ) → ¬ (IsLooseOutcome s k (map.get s.outcomes k))

abbrev NoImport : State → Type 0
NoImport s = (e : ℕ) → ¬ (IsLooseImport s e (map.get s.imports e))

pub all_tight : (old first second new : Step) → Rests old first (NoPromise (state_of old.store)) → Rests first second (NoOutcome (state_of first.store)) → Rests second new (NoImport (state_of second.store)) → Rests old new (IsTight (state_of old.store))
all_tight old first second new a b c = record {
  same = c.same ∙ b.same ∙ a.same;
  rest = record {
    promises = a.rest;
    outcomes = subst (λ (d : Progress). NoOutcome d.state) a.same b.rest;
    imports = subst (λ (d : Progress). NoImport d.state) (b.same ∙ a.same) c.rest;
  };
}

pub last_drops : (b : Bool) (old first second new : Step) → Rests old first (NoPromise (state_of old.store)) → Rests first second (NoOutcome (state_of first.store))
    → MatchBool b (Drops second new) (Rests second new (NoImport (state_of second.store))) → MatchBool b (Drops old new) (Rests old new (IsTight (state_of old.store)))
last_drops true old first second new a b c = drops_after old second new (b.same ∙ a.same) c
last_drops false old first second new a b c = all_tight old first second new a b c

-- Nothing is left that would go.
pub rests_tight : (old new : Step) → Rests old new (IsTight (state_of old.store)) → Collects (progress_of new) (progress_of old)
rests_tight old new h = subst (λ (d : Progress). Collects d (progress_of old)) (sym h.same) (Tight h.rest)

-- ---- The rest of the step

pub only_after : (old between new : Step) → OnlyReleases old between → OnlyReleases between new → OnlyReleases old new
only_after old between new a b = record {
  outbox = b.outbox ∙ ap (λ (o : Outgoing). record o { releases = new.outbox.releases; release_room = new.outbox.release_room }) a.outbox;
  arisen = b.arisen ∙ a.arisen;
  questions = b.questions ∙ a.questions;
  left = b.left ∙ a.left;
}

-- A step that is ready is so after it.
pub ready_ended : (old new : Step) → IsReady old → OnlyReleases old new → IsEnding new → IsReady new
ready_ended old new r o e =
    let q = ap map.len o.questions in
    let left = o.left in
    let room = ap (λ (x : Outgoing). x.finish_room) o.outbox in record {
      sound = e.sound;
      outbox = e.outbox;
      arisen = e.arisen;
      finishes = let f = r.finishes in omega (arith, q, left, room, f);
      releases = e.releases;
      unfinished = ap (λ (x : Outgoing). x.finishes) o.outbox ∙ r.unfinished;
      can_abort = e.can_abort;
    }

pub ending_ready : (x : Step) → IsReady x → IsEnding x
ending_ready x r = record { sound = r.sound; outbox = r.outbox; arisen = r.arisen; releases = r.releases; can_abort = r.can_abort }
