-- A call's refusals in two parts.
use Rattle.std.proofs.Common.{◌≡◌, ℕ, suc, Bool, true, false, not, ◌||◌, Option, None, Some, List, [], ◌∷◌, length, refl, ap, ◌∙◌}
use Rattle.std.specs.FinMap as map
use Rattle.rpc_msg.specs.declared.ids.RefId.{RefId}
use Rattle.rpc_msg.specs.declared.ids.EmbargoId.{EmbargoId}
use Rattle.rpc_journal.specs.History.{or_rest, if_so}
use Rattle.rpc_machine.specs.declared.command.CallCommand.{CallCommand}
use Rattle.rpc_machine.specs.declared.command.Command.TheVariants as command
use Rattle.rpc_machine.specs.declared.command.Refusal.{Refusal}
use Rattle.rpc_machine.specs.declared.command.Refusal.TheVariants as refusal
use Rattle.rpc_machine.specs.declared.node.Node.{Node}
use Rattle.rpc_machine.specs.declared.node.Node.TheVariants as node
use Rattle.rpc_machine.specs.declared.entries.Reference.{Reference}
use Rattle.rpc_machine.specs.State.{State}
use Rattle.rpc_machine.specs.Lists.{is_empty}
use Rattle.rpc_machine.specs.Nodes.{settle}
use Rattle.rpc_machine.specs.Commands.{heads}
use Rattle.rpc_machine.specs.Refusals.{refused, while_down, wrong_level, unknown_ref, wrong_caps}
use Rattle.rpc_machine.specs.Fullness.{is_spent, lacks_room_at, lacks_room_through, call_lacks_room}
use Rattle.core_step_checks.specs.Rooms.{lacks_at, lacks_through, call_lacks, refused_but_exports, exports_lack_at, exports_lack_through, exports_lack, exports_lack_for}

pub heads_length : (s : State) (rs : List RefId) → length (heads s rs) ≡ length rs
heads_length s [] = refl
heads_length s (r ∷ rs) = ap (λ (k : ℕ). suc k) (heads_length s rs)

alone : (a : Bool) → a ≡ (a || false)
alone true = refl
alone false = refl

at_node : (s : State) (caps : List Node) (k : ℕ) → length caps ≡ k → (n : Node) → lacks_room_at s caps n ≡ (lacks_at s k n || exports_lack_at s caps n)
at_node s caps k h (node.Object o) = ap (λ j. is_spent s.next_task 1 || is_spent s.next_ref j) h ∙ alone (is_spent s.next_task 1 || is_spent s.next_ref k)
at_node s caps k h (node.Promise p) = alone (lacks_at s k (node.Promise p))
at_node s caps k h (node.Field o path) = alone (lacks_at s k (node.Field o path))
at_node s caps k h (node.Import e) = refl
at_node s caps k h (node.Pipe q path) = refl
at_node s caps k h (node.Broken reason) = refl

through : (s : State) (caps : List Node) (k : ℕ) → length caps ≡ k → (head : Node) (e : Option EmbargoId) → lacks_room_through s caps head e ≡ (lacks_through s k head e || exports_lack_through s caps head e)
through s caps k h head None = at_node s caps k h (settle s head)
through s caps k h head (Some e) = alone (lacks_through s k head (Some e))

behind_two : (a b c d : Bool) → (a || b || (c || d)) ≡ (a || b || c || d)
behind_two true b c d = refl
behind_two false true c d = refl
behind_two false false c d = refl

by_reference : (s : State) (caps : List Node) (k : ℕ) → length caps ≡ k → (x : Option Reference) → call_lacks_room s caps x ≡ (call_lacks s k x || exports_lack s caps x)
by_reference s caps k h None = refl
by_reference s caps k h (Some x) =
    ap (λ b. is_spent s.next_call 1 || is_spent x.made 1 || b) (through s caps k h x.head x.embargo)
    ∙ behind_two (is_spent s.next_call 1) (is_spent x.made 1) (lacks_through s k x.head x.embargo) (exports_lack_through s caps x.head x.embargo)

-- The last check in two.
split : (a b : Bool) → or_rest (if_so (a || b) refusal.Full) None ≡ or_rest (or_rest (if_so a refusal.Full) None) (if_so b refusal.Full)
split true b = refl
split false true = refl
split false false = refl

last : (d l u w : Option Refusal) (a b : Bool) →
    or_rest d (or_rest l (or_rest u (or_rest w (or_rest (if_so (a || b) refusal.Full) None))))
    ≡ or_rest (or_rest d (or_rest l (or_rest u (or_rest w (or_rest (if_so a refusal.Full) None))))) (if_so b refusal.Full)
last (Some x) l u w a b = refl
last None (Some x) u w a b = refl
last None None (Some x) w a b = refl
last None None None (Some x) a b = refl
last None None None None a b = split a b

pub calls_are_refused : (s : State) (c : CallCommand) → refused s (command.Call c) ≡ or_rest (refused_but_exports s c) (if_so (exports_lack_for s c) refusal.Full)
calls_are_refused s c =
    ap (λ b. or_rest (while_down s (command.Call c)) (or_rest l (or_rest u (or_rest w (or_rest (if_so b refusal.Full) None)))))
    (by_reference s (heads s c.refs) (length c.refs) (heads_length s c.refs) (map.get s.refs c.reference.0))
    ∙ last (while_down s (command.Call c)) l u w (call_lacks s (length c.refs) (map.get s.refs c.reference.0)) (exports_lack_for s c)
  where
    l : Option Refusal
    l = wrong_level s (not (is_empty c.refs))

    u : Option Refusal
    u = unknown_ref s (c.reference ∷ c.refs)

    w : Option Refusal
    w = wrong_caps c.payload c.refs
