-- What the way back names of questions and imports is as it was to be, behind a step.
use Rattle.std.specs.FinMap as map
use Rattle.std.proofs.Common.{◌≡◌, ℕ, true, refl, sym, ap, ◌∙◌}
use Rattle.rpc_machine.specs.declared.entries.Finishing.{Finishing}
use Rattle.rpc_machine.specs.declared.entries.Finishing.TheVariants as finishing
use Rattle.rpc_machine.specs.declared.entries.Question.{Question}
use Rattle.rpc_machine.specs.State.{State}
use Rattle.rpc_machine.specs.Sweeping.{IsNotSent}
use Rattle.laws_routes.specs.Sayings.{is_waiting, not_sent}
use Rattle.laws_routes.proofs.SayingsCarried.{return_map}
use Rattle.laws_meanings.specs.NodeLabels.{Labels, asked_label}
use Rattle.laws_wires.specs.Wires.{asked_at}
use Rattle.laws_wires.specs.SceneWires.{IsLeft, ReturnsAreMet, RolesKeepLabels}

is_not_sent : (f : Finishing) → not_sent f ≡ true → IsNotSent f
is_not_sent finishing.Owed e = tt
is_not_sent finishing.Sent e = cc
is_not_sent finishing.Waived e = tt

so_not_sent : (f : Finishing) → IsNotSent f → not_sent f ≡ true
so_not_sent finishing.Owed i = refl
so_not_sent finishing.Sent i = absurd i
so_not_sent finishing.Waived i = refl

module _ (l m : Labels) (s t : State) (kept : RolesKeepLabels l m s) where
  waited : (q : ℕ) → IsLeft s t q → is_waiting (map.get t.questions q) ≡ true → is_waiting (map.get s.questions q) ≡ true
  waited q h i =
      let x : Question = h.0 in
      let y : Question = h.1 in
      let at : not_sent y.finish ≡ true = ap is_waiting (sym h.3) ∙ i in
      ap is_waiting h.2 ∙ so_not_sent x.finish (h.5 (is_not_sent y.finish at))

  of_same : (q : ℕ) → IsLeft s t q → is_waiting (map.get s.questions q) ≡ true → asked_at m q (map.get t.questions q) ≡ asked_at l q (map.get s.questions q)
  of_same q h i =
      let x : Question = h.0 in
      let at : not_sent x.finish ≡ true = ap is_waiting (sym h.2) ∙ i in
      ap (asked_at m q) h.3 ∙ (ap (asked_label m q) h.4 ∙ (kept q x h.2 ∙ sym (ap (asked_at l q) h.2)))

pub returns_are_met : ReturnsAreMet
returns_are_met l m s t back kept h = (
  return_map (IsLeft s t) (λ q. is_waiting (map.get t.questions q) ≡ true → is_waiting (map.get s.questions q) ≡ true) back (waited l m s t kept) h,
  return_map (IsLeft s t) (λ q. is_waiting (map.get s.questions q) ≡ true → asked_at m q (map.get t.questions q) ≡ asked_at l q (map.get s.questions q)) back (of_same l m s t kept) h,
)
