-- Where walks from the capabilities of an outcome come to, by those behind them. As in Circles, what is said is said whoever
-- is to be told of the outcome, and whatever waits for it.
use Rattle.std.specs.Prelude.{◌≡◌, ◌≤◌, ◌<◌, ℕ, Bool, false, cond, nat_eq, Option, None, Some, List, get_or, ◌++◌}
use Rattle.rpc_msg.specs.Op.{Op}
use Rattle.rpc_msg.specs.CapAt.TheVariants.{Cap}
use Rattle.rpc_msg.specs.Payloads.{Contents as Payload}
use Rattle.rpc_machine.specs.Payloads.{cap_at}
use Rattle.rpc_machine.specs.declared.node.Node.{Node}
use Rattle.rpc_machine.specs.declared.node.Node.TheVariants as node
use Rattle.rpc_machine.specs.declared.calls.Caller.{Caller}
use Rattle.rpc_machine.specs.declared.calls.HeldCall.{HeldCall}
use Rattle.rpc_machine.specs.declared.calls.Value.{Value}
use Rattle.rpc_machine.specs.declared.calls.Value.TheVariants as value
use Rattle.rpc_machine.specs.State.{State}
use Rattle.rpc_machine.specs.Settling.{known, TurnsBack, absent}
use Rattle.core_step_settles.specs.Circles.{cap_of}

-- ---- What a walk comes to

-- The outcome is known, but of its capabilities only those from the index i on stand.
abbrev pub standing : State → ℕ → Caller → List HeldCall → Payload → ℕ → List Node → State
standing s o who waiting payload i rest = known s o who waiting (value.Results payload (absent i ++ rest))

-- The walk from n comes to a field of the capability j, or to none of a capability before i.
abbrev pub LeadsIn : State → ℕ → Payload → ℕ → Node → Option ℕ → Type 0
LeadsIn t o payload i n None = (j : ℕ) → j < i → ¬ (TurnsBack t o payload j n)
LeadsIn t o payload i n (Some j) = TurnsBack t o payload j n

abbrev pub Leads : State → ℕ → Payload → ℕ → List Node → Node → Option ℕ → Type 0
Leads s o payload i rest n end = (who : Caller) (waiting : List HeldCall) → LeadsIn (standing s o who waiting payload i rest) o payload i n end

abbrev pub IsBefore : ℕ → Option ℕ → Type 0
IsBefore i None = Unit {0}
IsBefore i (Some j) = j < i

-- The walk from n ends at a field of a capability that doesn't stand yet, or at none of these.
abbrev pub EndsAt : State → ℕ → Payload → ℕ → List Node → Node → Option ℕ → Type 0
EndsAt s o payload i rest n end = IsBefore i end × Leads s o payload i rest n end

abbrev pub is_at : ℕ → Option ℕ → Bool
is_at i None = false
is_at i (Some j) = nat_eq j i

-- ---- What is kept of it

abbrev pub end_at : List (Option ℕ) → ℕ → Option ℕ
end_at ends j = get_or ends j None

-- The walk from a capability comes to one before it.
abbrev pub Falls : List (Option ℕ) → Type 0
Falls ends = (j : ℕ) → IsBefore j (end_at ends j)

-- What is kept is so of each capability that stands.
abbrev pub KnowsEnds : State → ℕ → Payload → ℕ → List Node → List (Option ℕ) → Type 0
KnowsEnds s o payload i rest ends = (j : ℕ) → i ≤ j → Leads s o payload i rest (cap_of (absent i ++ rest) j) (end_at ends j)

abbrev pub IsKept : ℕ → Option ℕ → List (Option ℕ) → List (Option ℕ) → Type 0
IsKept i end ends new = (j : ℕ) → end_at new j ≡ cond (nat_eq j i) end (end_at ends j)

-- Whatever outcome it is whose ends are kept, they still are.
abbrev pub KeepsEnds : ℕ → List (Option ℕ) → List (Option ℕ) → Type 0
KeepsEnds i ends new = (s : State) (o : ℕ) (payload : Payload) (rest : List Node) → KnowsEnds s o payload i rest ends → KnowsEnds s o payload i rest new

-- By what is kept, the walk from a field of the capability j comes to one of k.
abbrev pub ComesTo : ℕ → List (Option ℕ) → ℕ → ℕ → Type 0
ComesTo i ends j k =
    (s : State) (o : ℕ) (payload : Payload) (rest : List Node) (path : List Op) → KnowsEnds s o payload i rest ends → cap_at payload path ≡ Cap j
    → Leads s o payload i rest (node.Field o path) (Some k)

-- By what is kept, the walk from a field of the capability j ends there.
abbrev pub FindsEnd : ℕ → List (Option ℕ) → ℕ → Option ℕ → Type 0
FindsEnd i ends j end =
    (s : State) (o : ℕ) (payload : Payload) (rest : List Node) (path : List Op) → KnowsEnds s o payload i rest ends → cap_at payload path ≡ Cap j
    → EndsAt s o payload i rest (node.Field o path) end

-- ---- A walk by links elsewhere

-- The walk from n came to m, and comes to the outcome's capabilities from there as it does from n.
abbrev pub Walked : State → ℕ → Node → Node → Type 0
Walked s o n m =
    (who : Caller) (waiting : List HeldCall) (v : Value) (payload : Payload) (j : ℕ) →
    (TurnsBack (known s o who waiting v) o payload j m → TurnsBack (known s o who waiting v) o payload j n)
    × (TurnsBack (known s o who waiting v) o payload j n → TurnsBack (known s o who waiting v) o payload j m)

-- It came to a field of the outcome at that path, or comes to none.
abbrev pub WalksTo : State → ℕ → Node → Option (List Op) → Type 0
WalksTo s o n None =
    (who : Caller) (waiting : List HeldCall) (v : Value) (payload : Payload) (j : ℕ) → ¬ (TurnsBack (known s o who waiting v) o payload j n)
WalksTo s o n (Some path) = Walked s o n (node.Field o path)

-- The path of a field of that outcome.
abbrev pub path_in : ℕ → Node → Option (List Op)
path_in o (node.Object x) = None
path_in o (node.Promise p) = None
path_in o (node.Field k path) = cond (nat_eq k o) (Some path) None
path_in o (node.Import e) = None
path_in o (node.Pipe q path) = None
path_in o (node.Broken reason) = None

abbrev pub is_in : ℕ → Node → Bool
is_in o (node.Object x) = false
is_in o (node.Promise p) = false
is_in o (node.Field k path) = nat_eq k o
is_in o (node.Import e) = false
is_in o (node.Pipe q path) = false
is_in o (node.Broken reason) = false
