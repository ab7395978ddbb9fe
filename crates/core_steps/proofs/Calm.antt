-- Steps in which no outcome arises.
use Rattle.std.proofs.Common.{◌≡◌, ℕ, ◌<◌, [], ◌∷◌, Option, None, Some, sym, ap, subst, ◌∙◌}
use Rattle.std.proofs.Math.Nat.{lt_of_not-le}
use Rattle.std.specs.FinMap as map
use Rattle.finite_maps.specs.Tally.{Map}
use Rattle.finite_maps.proofs.Gets.{put_back}
use Rattle.rpc_machine.specs.declared.node.Node.{Node}
use Rattle.rpc_machine.specs.declared.command.Granted.{Granted}
use Rattle.rpc_machine.specs.declared.command.Granted.TheVariants as granted
use Rattle.rpc_machine.specs.declared.calls.OwnCall.{OwnCall}
use Rattle.rpc_machine.specs.declared.entries.Reference.{Reference}
use Rattle.rpc_machine.specs.State.{State}
use Rattle.rpc_machine.specs.Progress.{Progress, begin, with_state, with_refs}
use Rattle.rpc_machine.specs.Commands.{NewRef, DropsRef, FinishesCall}
use Rattle.rpc_machine.specs.Limits.{IsWithin, number_limit, made_through}
use Rattle.core_outbox.specs.Outgoing.{Outgoing}
use Rattle.core_step.specs.Queue.{Queue}
use Rattle.core_store.specs.Holding.{IsSound, IsFresh}
use Rattle.core_step.specs.declared.step.Step.{Step}
use Rattle.core_step.specs.InProgress.{progress_of, IsReady, IsIdle}

-- What is there has a number that was given out.
pub given_out : {X : Type 0} (m : Map X) (next k : ℕ) (x : X) → IsFresh m next → map.get m k ≡ Some x → k < next
given_out m next k x fresh there = lt_of_not-le (λ le. let bad : None ≡ Some x = sym (fresh k le) ∙ there in cc)

-- A reference that was dropped.
pub dropped : (s : State) (r : ℕ) (o : Option Reference) (g : Granted) (d new : Progress) → d ≡ begin s → DropsRef d r o g new → new ≡ begin (record s { refs = map.remove s.refs r })
dropped s r None g d new began acts = absurd acts
dropped s r (Some x) g d new began acts = acts.1 ∙ ap (λ (p : Progress). with_state p (record (p.state) { refs = map.remove p.state.refs r })) began

pub finished : (s : State) (c : ℕ) (o : Option OwnCall) (g : Granted) (d new : Progress) → d ≡ begin s → FinishesCall d c o g new → new ≡ begin (record s { calls = map.remove s.calls c })
finished s c None g d new began acts = absurd acts
finished s c (Some x) g d new began acts = acts.1 ∙ ap (λ (p : Progress). with_state p (record (p.state) { calls = map.remove p.state.calls c })) began

-- A reference makes its calls within the limit.
pub few_made : (s : State) (r : ℕ) (x : Reference) → IsWithin s → map.get s.refs r ≡ Some x → x.made < number_limit
few_made s r x within there = subst (λ (o : Option Reference). made_through o < number_limit) there (within.made r)

-- A step in which nothing was said is idle with another sound store.
pub idle_with : (x y : Step) (s : State) → IsReady x → progress_of x ≡ begin s → IsSound y.store → y.outbox ≡ x.outbox → y.arisen ≡ x.arisen → IsIdle y
idle_with x y s ready calm sound outbox arisen = record {
  sound = sound;
  said = ap (λ (o : Outgoing). o.said) outbox ∙ ap (λ (p : Progress). p.effects) calm;
  arisen = ap (λ (q : Queue). q.0) arisen ∙ ap (λ (p : Progress). p.arisen) calm;
  finishes = ap (λ (o : Outgoing). o.finishes) outbox ∙ ready.unfinished;
  releases = ap (λ (o : Outgoing). o.releases) outbox ∙ ap (λ (p : Progress). p.released) calm;
  can_abort = ap (λ (o : Outgoing). o.can_abort) outbox ∙ ready.can_abort;
}

-- What was taken out is put back.
pub ref_back : (s t u : State) (r : ℕ) (x : Reference) → map.get s.refs r ≡ Some x → t ≡ record s { refs = map.remove s.refs r } → u ≡ record t { refs = map.insert t.refs r x } → u ≡ s
ref_back s t u r x there gone back =
    back ∙ ap (λ (y : State). record y { refs = map.insert y.refs r x }) gone ∙ ap (λ (m : Map Reference). record s { refs = m }) (put_back s.refs r x there)

pub call_back : (s t u : State) (c : ℕ) (x : OwnCall) → map.get s.calls c ≡ Some x → t ≡ record s { calls = map.remove s.calls c } → u ≡ record t { calls = map.insert t.calls c x } → u ≡ s
call_back s t u c x there gone back =
    back ∙ ap (λ (y : State). record y { calls = map.insert y.calls c x }) gone ∙ ap (λ (m : Map OwnCall). record s { calls = m }) (put_back s.calls c x there)

-- There is one reference more.
pub new_ref : (s : State) (n : Node) (g : Granted) (d new : Progress) → d ≡ begin s → NewRef g d n new → (g ≡ granted.Reference (record { 0 = s.next_ref })) × (new ≡ begin (with_refs s (n ∷ [])))
new_ref s n g d new began acts = (
  acts.0 ∙ ap (λ (p : Progress). granted.Reference (record { 0 = p.state.next_ref })) began,
  acts.1 ∙ ap (λ (p : Progress). with_state p (with_refs p.state (n ∷ []))) began,
)
