-- While a Return is made, the outcome that it tells of stays.
use Rattle.std.specs.FinMap as map
use Rattle.std.proofs.Common.{◌≡◌, ℕ, Bool, nat_eq, true, false, List, Option, None, Some, refl, sym, ap, subst, ◌∙◌}
use Rattle.finite_maps.proofs.Tested.{equal, get_left}
use Rattle.rpc_msg.specs.declared.ids.QuestionId.{QuestionId}
use Rattle.rpc_msg.specs.declared.parts.Descriptor.{Descriptor}
use Rattle.rpc_msg.specs.declared.message.ReturnBody.{ReturnBody}
use Rattle.rpc_machine.specs.declared.calls.Caller.TheVariants as who
use Rattle.rpc_machine.specs.declared.calls.KeptOutcome.{KeptOutcome}
use Rattle.rpc_machine.specs.declared.calls.Value.{Value}
use Rattle.rpc_machine.specs.declared.calls.Value.TheVariants as value
use Rattle.rpc_machine.specs.declared.entries.AnswerEntry.{AnswerEntry}
use Rattle.rpc_machine.specs.State.{State}
use Rattle.rpc_machine.specs.Progress.{Progress, with_state, numbers}
use Rattle.rpc_machine.specs.Flags.{flag_for, give_if}
use Rattle.rpc_machine.specs.Collecting.{AnswerIsOther, CallerIsDone, IsLooseOutcome, IsLooseValue, Goes, PromiseGoes, OutcomeGoes, ImportGoes, Collects, Tight, Loose}
use Rattle.rpc_machine.specs.Settling.{SaysBack, Returns, TellsPeer}
use Rattle.laws_routes.specs.Premises.{IsAnswerOf}
use Rattle.laws_routes.proofs.ExportsGrown.{described_all}

module _ (o : ℕ) (x : KeptOutcome) (q : QuestionId) (of : x.caller ≡ who.Peer q) where
  not_loose : (s : State) → IsAnswerOf o (map.get s.answers q.0) → IsLooseOutcome s o (Some x) → ⊥
  not_loose s a h = by_value x.value h
    where
      both : (z : Option AnswerEntry) → IsAnswerOf o z → AnswerIsOther o z → ⊥
      both None a b = absurd a
      both (Some y) a b = b a

      by_value : (z : Option Value) → IsLooseValue s o x z → ⊥
      by_value None h = absurd h
      by_value (Some v) h = both (map.get s.answers q.0) a (subst (CallerIsDone s o) of h.1)

  goes_by : (d new : Progress) → map.get d.state.outcomes o ≡ Some x → IsAnswerOf o (map.get d.state.answers q.0) → Goes d new → (map.get new.state.outcomes o ≡ Some x) × (new.state.answers ≡ d.state.answers)
  goes_by d new e a (PromiseGoes p h f) = rw f (e, refl)
  goes_by d new e a (OutcomeGoes j h f) = rw f (by (nat_eq o j) refl, refl)
    where
      by : (b : Bool) → nat_eq o j ≡ b → map.get (map.remove d.state.outcomes j) o ≡ Some x
      by true k = absurd (not_loose d.state a (subst (IsLooseOutcome d.state o) e (subst (λ (i : ℕ). IsLooseOutcome d.state i (map.get d.state.outcomes i)) (sym (equal o j k)) h)))
      by false k = get_left d.state.outcomes j o k ∙ e
  goes_by d new e a (ImportGoes i h f) = rw f (e, refl)

  collects_by : (new d : Progress) → Collects new d → map.get d.state.outcomes o ≡ Some x → IsAnswerOf o (map.get d.state.answers q.0) → map.get new.state.outcomes o ≡ Some x
  collects_by new d (Tight t) e a = e
  collects_by new d (Loose {mid = k} g more) e a =
      let b = goes_by d k e a g in
      collects_by new k more b.0 (subst (λ z. IsAnswerOf o (map.get z q.0)) (sym b.1) a)

  says_alone : (s : State) (b : Bool) (v : Value) (said : ReturnBody) (ds : List Descriptor) (new : State) → SaysBack s b v said ds new → (new.outcomes ≡ s.outcomes) × (new.answers ≡ s.answers)
  says_alone s true v said ds new h = rw h.2 (refl, refl)
  says_alone s false (value.Exception exception) said ds new h = rw h.2 (refl, refl)
  says_alone s false (value.Results payload caps) said ds new h = let a = described_all s caps ds new h.1 in rw a.1 (refl, refl)

  given_alone : (s : State) (b : Bool) (ids : List ℕ) → (give_if s b ids).outcomes ≡ s.outcomes
  given_alone s true ids = refl
  given_alone s false ids = refl

  returns_by : (d : Progress) (a : AnswerEntry) (v : Value) (new : Progress) → map.get d.state.outcomes o ≡ Some x → IsAnswerOf o (map.get d.state.answers q.0) → Returns d q a v new → map.get new.state.outcomes o ≡ Some x
  returns_by d a v new e is h =
      let mid = h.2 in
      let then = h.4.0 in
      let same = says_alone d.state a.finished v h.0 h.1 mid h.3 in
      let left = collects_by then (with_state d mid) h.4.1 (ap (λ z. map.get z o) same.0 ∙ e) (subst (λ z. IsAnswerOf o (map.get z q.0)) (sym same.1) is) in
      ap (λ z. map.get z o) (ap (λ (z : Progress). z.state.outcomes) h.4.2 ∙ given_alone then.state (flag_for then.state (numbers a.taken)) (numbers a.taken)) ∙ left

  pub peer_alone : (d : Progress) (v : Value) (z : Option AnswerEntry) (new : Progress) → map.get d.state.outcomes o ≡ Some x → IsAnswerOf o (map.get d.state.answers q.0) → TellsPeer d q v z new → map.get new.state.outcomes o ≡ Some x
  peer_alone d v None new e is h = absurd h
  peer_alone d v (Some a) new e is h = returns_by d a v new e is h
