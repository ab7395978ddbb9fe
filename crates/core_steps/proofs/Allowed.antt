-- What is known of a call that is not refused.
use Rattle.std.proofs.Common.{◌≡◌, ℕ, ◌+◌, ◌<◌, Bool, true, false, not, ◌&&◌, ◌||◌, nat_le, is_some, IsSome, List, [], ◌∷◌, Option, None, Some, refl, arith}
use Rattle.std.proofs.lemmas.Bool.Decides.{nat_tests}
use Rattle.std.specs.FinMap as map
use Rattle.std.specs.List.{list_all}
use Rattle.rpc_machine.specs.declared.command.CallCommand.{CallCommand}
use Rattle.rpc_machine.specs.declared.command.Command.TheVariants as command
use Rattle.rpc_machine.specs.declared.command.Refusal.{Refusal}
use Rattle.rpc_machine.specs.declared.command.Refusal.TheVariants as refusal
use Rattle.rpc_machine.specs.declared.entries.Reference.{Reference}
use Rattle.rpc_machine.specs.declared.node.Node.{Node}
use Rattle.rpc_machine.specs.State.{State}
use Rattle.rpc_machine.specs.Lists.{earliest, is_empty}
use Rattle.rpc_machine.specs.Limits.{number_limit, made_through}
use Rattle.rpc_machine.specs.Fullness.{is_spent, lacks_room, lacks_room_through, call_lacks_room}
use Rattle.rpc_machine.specs.Commands.{heads}
use Rattle.rpc_machine.specs.Refusals.{while_down, wrong_level, unknown_ref, is_known_ref, wrong_caps, without_room, refused}
use Rattle.laws_acts.proofs.Checks.{first, rest, not_so}

module _ (s : State) (c : CallCommand) (allowed : refused s (command.Call c) ≡ None) where
  abbrev last : List (Option Refusal)
  last = without_room s (command.Call c) ∷ []

  abbrev three : List (Option Refusal)
  three = wrong_caps c.payload c.refs ∷ last

  abbrev two : List (Option Refusal)
  two = unknown_ref s (c.reference ∷ c.refs) ∷ three

  abbrev one : List (Option Refusal)
  one = wrong_level s (not (is_empty c.refs)) ∷ two

  past_level : earliest two ≡ None
  past_level = rest (wrong_level s (not (is_empty c.refs))) two (rest (while_down s (command.Call c)) one allowed)

  -- There is room for it.
  pub has_room : call_lacks_room s (heads s c.refs) (map.get s.refs c.reference.0) ≡ false
  has_room = not_so (lacks_room s (command.Call c)) refusal.Full (first (without_room s (command.Call c)) [] (rest (wrong_caps c.payload c.refs) last (rest (unknown_ref s (c.reference ∷ c.refs)) three past_level)))

  known_ref : (o : Option Reference) (b : Bool) → not (is_some o && b) ≡ false → IsSome o
  known_ref None b h = let bad : true ≡ false = h in cc
  known_ref (Some x) b h = refl

  -- Its reference is there.
  pub has_ref : IsSome (map.get s.refs c.reference.0)
  has_ref = known_ref (map.get s.refs c.reference.0) (list_all (is_known_ref s) c.refs) (not_so (not (list_all (is_known_ref s) (c.reference ∷ c.refs))) refusal.UnknownRef (first (unknown_ref s (c.reference ∷ c.refs)) three past_level))

none_spent : (a b c : Bool) → (a || b || c) ≡ false → (a ≡ false) × (b ≡ false)
none_spent false false c h = (refl, refl)
none_spent true b c h = let bad : true ≡ false = h in cc
none_spent false true c h = let bad : true ≡ false = h in cc

below : (n : ℕ) → is_spent n 1 ≡ false → n + 1 < number_limit
below n h = let a : nat_le number_limit (n + 1) ≡ false = h in grind (arith, nat_tests)

few : (s : State) (caps : List Node) (o : Option Reference) → IsSome o → call_lacks_room s caps o ≡ false → (s.next_call + 1 < number_limit) × (made_through o + 1 < number_limit)
few s caps None there h = cc
few s caps (Some x) there h =
    let none = none_spent (is_spent s.next_call 1) (is_spent x.made 1) (lacks_room_through s caps x.head x.embargo) h in
    (below s.next_call none.0, below x.made none.1)

-- Its numbers are within their limits.
pub few_numbers : (s : State) (c : CallCommand) → refused s (command.Call c) ≡ None → (s.next_call + 1 < number_limit) × (made_through (map.get s.refs c.reference.0) + 1 < number_limit)
few_numbers s c allowed = few s (heads s c.refs) (map.get s.refs c.reference.0) (has_ref s c allowed) (has_room s c allowed)
