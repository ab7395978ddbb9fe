-- What goes when no place names it (docs/protocol.md, "Places").
use Rattle.std.specs.Prelude.{◌≡◌, ◌≢◌, ℕ, Option, None, Some, []}
use Rattle.std.specs.FinMap as map
use Rattle.rpc_machine.specs.declared.calls.Promise.{Promise}
use Rattle.rpc_machine.specs.declared.calls.Promise.TheVariants as promise
use Rattle.rpc_machine.specs.declared.calls.Value.{Value}
use Rattle.rpc_machine.specs.declared.calls.KeptOutcome.{KeptOutcome}
use Rattle.rpc_machine.specs.declared.calls.Caller.{Caller}
use Rattle.rpc_machine.specs.declared.calls.Caller.TheVariants as caller
use Rattle.rpc_machine.specs.declared.entries.AnswerEntry.{AnswerEntry}
use Rattle.rpc_machine.specs.declared.entries.Import.{Import}
use Rattle.finite_maps.specs.Tally.{Map}
use Rattle.rpc_machine.specs.State.{State}
use Rattle.rpc_machine.specs.Nodes.{is_promise, is_field, is_import}
use Rattle.rpc_machine.specs.Places.{names}
use Rattle.rpc_machine.specs.Progress.{Progress, with_state}

-- A settled promise that no place names.
abbrev pub IsLoosePromise : State → ℕ → Option Promise → Type 0
IsLoosePromise s p None = ⊥
IsLoosePromise s p (Some (promise.Open calls)) = ⊥
IsLoosePromise s p (Some (promise.Fixed to)) = names s (is_promise p) ≡ 0

abbrev pub AnswerIsOther : ℕ → Option AnswerEntry → Type 0
AnswerIsOther o None = Unit {0}
AnswerIsOther o (Some a) = a.outcome ≢ o

-- Nobody is still to be told of the outcome, or may still ask for it by its own number: the call is finished, or
-- the answer closed.
abbrev pub CallerIsDone : State → ℕ → Caller → Type 0
CallerIsDone s o (caller.Application c) = map.get s.calls c.0 ≡ None
CallerIsDone s o (caller.Peer q) = AnswerIsOther o (map.get s.answers q.0)

abbrev pub IsLooseValue : State → ℕ → KeptOutcome → Option Value → Type 0
IsLooseValue s o x None = ⊥
IsLooseValue s o x (Some v) = (x.waiting ≡ []) × CallerIsDone s o x.caller × (names s (is_field o) ≡ 0)

-- A known outcome whose caller is done and of which no place names a field.
abbrev pub IsLooseOutcome : State → ℕ → Option KeptOutcome → Type 0
IsLooseOutcome s o None = ⊥
IsLooseOutcome s o (Some x) = IsLooseValue s o x x.value

-- An import that no place names.
abbrev pub IsLooseImport : State → ℕ → Option Import → Type 0
IsLooseImport s e None = ⊥
IsLooseImport s e (Some x) = names s (is_import e) ≡ 0

abbrev pub without_promise : Progress → ℕ → Progress
without_promise d p = with_state d (record (d.state) { promises = map.remove d.state.promises p })

abbrev pub without_outcome : Progress → ℕ → Progress
without_outcome d o = with_state d (record (d.state) { outcomes = map.remove d.state.outcomes o })

abbrev pub release : Map ℕ → ℕ → Option Import → Map ℕ
release m e None = m
release m e (Some x) = map.insert m e x.count

-- The import goes; its whole count is to be released.
abbrev pub without_import : Progress → ℕ → Progress
without_import d e = record d {
  state = record (d.state) { imports = map.remove d.state.imports e };
  released = release d.released e (map.get d.state.imports e);
}

-- One thing goes.
pub data Goes (d new : Progress) : Type 0 where
  PromiseGoes : (p : ℕ) → IsLoosePromise d.state p (map.get d.state.promises p) → new ≡ without_promise d p → Goes d new
  OutcomeGoes : (o : ℕ) → IsLooseOutcome d.state o (map.get d.state.outcomes o) → new ≡ without_outcome d o → Goes d new
  ImportGoes : (e : ℕ) → IsLooseImport d.state e (map.get d.state.imports e) → new ≡ without_import d e → Goes d new

-- Nothing is left that would go.
pub record IsTight (s : State) : Type 0 where
  pub promises : (p : ℕ) → ¬ (IsLoosePromise s p (map.get s.promises p))
  pub outcomes : (o : ℕ) → ¬ (IsLooseOutcome s o (map.get s.outcomes o))
  pub imports : (e : ℕ) → ¬ (IsLooseImport s e (map.get s.imports e))

-- One thing goes after the other, until nothing is left that would.
pub data Collects (new : Progress) : Progress → Type 0 where
  Tight : IsTight new.state → Collects new new
  Loose : {d mid : Progress} → Goes d mid → Collects new mid → Collects new d
