-- What goes out of a vat with references, whose nodes are named one after the other.
use Rattle.std.specs.Prelude.{◌≡◌, ℕ, ◌+◌, ◌<◌, suc, true, cond, Option, None, Some, List, [], ◌∷◌, ◌++◌}
use Rattle.rpc_msg.specs.declared.ids.RefId.{RefId}
use Rattle.rpc_machine.specs.declared.node.Node.{Node}
use Rattle.rpc_machine.specs.State.{State}
use Rattle.rpc_machine.specs.Nodes.{is_same_node}
use Rattle.rpc_machine.specs.Commands.{heads}
use Rattle.rpc_machine.specs.Fullness.{going_out, count_of, counts_then, names_lack_room}

-- The nodes of which an export is made, or has one more on its count.
abbrev pub sent_out : State → List RefId → List Node
sent_out s rs = going_out s (heads s rs)

-- How often a node stands among these.
abbrev pub times_among : Node → List Node → ℕ
times_among n [] = 0
times_among n (m ∷ ms) = cond (is_same_node n m) (suc (times_among n ms)) (times_among n ms)

-- The counts once these were named.
abbrev pub counts_behind : (Node → Option ℕ) → List Node → Node → Option ℕ
counts_behind counts [] = counts
counts_behind counts (n ∷ ns) = counts_behind (counts_then counts n) ns

-- Behind those that were named, with so many exports then: naming these passes a limit, or leaves so many.
abbrev pub Leaves : State → List Node → List Node → ℕ → Option ℕ → Type 0
Leaves s done more size None = (rest : List Node) → names_lack_room size (counts_behind (count_of s) done) (more ++ rest) ≡ true
Leaves s done more size (Some next) =
    (rest : List Node) →
    names_lack_room size (counts_behind (count_of s) done) (more ++ rest)
    ≡ names_lack_room next (counts_behind (count_of s) (done ++ more)) rest

-- So many more on the count of its export pass no limit.
abbrev pub IsFar : ℕ → Option ℕ → Type 0
IsFar more None = Unit {0}
IsFar more (Some count) = count + more < 4294967295

abbrev pub AreFar : ℕ → State → List Node → Type 0
AreFar more s [] = Unit {0}
AreFar more s (n ∷ ns) = IsFar more (count_of s n) × AreFar more s ns
