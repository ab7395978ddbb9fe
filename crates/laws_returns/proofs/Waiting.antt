-- What is open waits for an outcome with one source.
use Rattle.std.proofs.Common.{◌≡◌, ℕ, Option, None, Some, refl, sym, ap, ◌∙◌}
use Rattle.std.specs.FinMap as map
use Rattle.rpc_machine.specs.declared.calls.KeptOutcome.{KeptOutcome}
use Rattle.rpc_machine.specs.declared.entries.AnswerEntry.{AnswerEntry}
use Rattle.rpc_machine.specs.State.{State}
use Rattle.laws_steps.specs.NodesThere.{IsReached}
use Rattle.laws_nodes.specs.Sources.{EachHasOneSource, sources, unknown, waits_for}
use Rattle.laws_messages.specs.Returned.{AnswersReturnOnceKnown, IsInStep, IsToldOnceKnown}
use Rattle.laws_returns.specs.Steps.{is_open, unreturned, HasSource, WaitsBy, OpenOnesWait}

not_yet : (r : Option (_)) → unreturned r ≡ 1 → r ≡ None
not_yet None e = refl
not_yet (Some ids) e = absurd cc

has_source : (s : State) (q : ℕ) (a : AnswerEntry) (x : Option KeptOutcome) → a.returned ≡ None → waits_for x ≡ sources a.outcome s → IsToldOnceKnown q a x → HasSource s a.outcome x
has_source s q a None e one h = absurd h
has_source s q a (Some x) e one h = let v = h.1.0 e in (v, sym one ∙ ap unknown v)

module _ (known : AnswersReturnOnceKnown) (source : EachHasOneSource) where
  waits_by : (s : State) (q : ℕ) (o : Option AnswerEntry) → IsReached s → is_open o ≡ 1 → IsInStep s q o → WaitsBy s o
  waits_by s q None r e h = absurd cc
  waits_by s q (Some a) r e h = has_source s q a (map.get s.outcomes a.outcome) (not_yet a.returned e) ((source s r).each a.outcome) h

  pub open_ones_wait : OpenOnesWait
  open_ones_wait s r q e = waits_by s q (map.get s.answers q) r e (known s r q)
