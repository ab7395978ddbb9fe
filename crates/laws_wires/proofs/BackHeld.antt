-- What is on its way back to a vat names imports and questions that it was to have, behind a step.
use Rattle.std.specs.FinMap as map
use Rattle.std.proofs.Common.{◌≡◌, ℕ, Option, None, Some, refl, sym, subst, ap, ◌∙◌, arith}
use Rattle.finite_maps.proofs.Tallies.{tally-within}
use Rattle.finite_maps.proofs.Tested.{itself}
use Rattle.rpc_machine.specs.declared.calls.KeptOutcome.{KeptOutcome}
use Rattle.rpc_machine.specs.declared.entries.Question.{Question}
use Rattle.rpc_machine.specs.declared.entries.Role.{Role}
use Rattle.rpc_machine.specs.declared.entries.Role.TheVariants as role
use Rattle.rpc_machine.specs.State.{State}
use Rattle.laws_nodes.specs.Ones.{one_if}
use Rattle.laws_nodes.specs.Questions.{IsOpen, IsRelayOpen, QuestionsEnd}
use Rattle.laws_nodes.specs.Sources.{HasOneSource, at_question, relay_for, sources, waits_for}
use Rattle.laws_meanings.specs.NodeLabels.{asked_label}
use Rattle.laws_wires.specs.SceneWires.{CommandsBringNone, CommandsLeaveReturns, MessagesBringTheirs, MessagesLeaveReturns, ReturnsAreMet}
use Rattle.laws_wires.specs.BackHeld.{CommandsHoldBack, MessagesHoldBack, RolesAreKept}

-- ---- What questions are of

-- A relay is a source of its outcome, so that is there.
relayed : (s : State) → HasOneSource s → QuestionsEnd s → (q o : ℕ) (x : Question) → map.get s.questions q ≡ Some x → x.role ≡ role.Relay o → (y : KeptOutcome) × (map.get s.outcomes o ≡ Some y)
relayed s one ends q o x there is = by (map.get s.outcomes o) refl
  where
    unsaid : x.returned ≡ None
    unsaid = subst (λ (r : Role). IsRelayOpen r x.returned) is (subst IsOpen there (ends.relays q))

    counted : at_question o x ≡ 1
    counted = ap (λ (r : Role). relay_for o r x.returned) is ∙ (ap (relay_for o (role.Relay o)) unsaid ∙ ap one_if (itself o))

    by : (z : Option KeptOutcome) → map.get s.outcomes o ≡ z → (y : KeptOutcome) × (z ≡ Some y)
    by None e =
        let among = tally-within (at_question o) s.questions q x there in
        let none : sources o s ≡ 0 = sym (one.each o) ∙ ap waits_for e in
        absurd (omega (arith, counted))
    by (Some y) e = (y, refl)

pub roles_are_kept : RolesAreKept
roles_are_kept l m s one ends outcomes questions q x there = by x.role refl
  where
    by : (r : Role) → x.role ≡ r → asked_label m q r ≡ asked_label l q r
    by (role.Direct c) is = questions q x there
    by (role.Relay o) is = let y = relayed s one ends q o x there is in outcomes o y.0 y.1

-- ---- The way back

pub commands_hold_back : CommandsLeaveReturns → ReturnsAreMet → CommandsBringNone → CommandsHoldBack
commands_hold_back leave met none w out back now c g effects mid roles does =
    let k = met w.l w.m w.s w.t back roles (leave w.s w.z w.t out back c g effects mid does) in
    record { imports = none w.s w.t c g effects does; questions = k.0; asked = k.1 }

pub messages_hold_back : MessagesLeaveReturns → ReturnsAreMet → MessagesBringTheirs → MessagesHoldBack
messages_hold_back leave met theirs w out rest now x effects mid level is roles fault handles =
    let k = met w.l w.m w.s w.t rest roles (leave w.s w.z w.t out rest x effects mid level is fault handles) in
    record { imports = theirs w.s w.t x effects level fault handles; questions = k.0; asked = k.1 }
