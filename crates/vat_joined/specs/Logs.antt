-- Two processes, each with a connection and a log of what it did with it. Nothing joins them but that no byte comes before it was given.
use Rattle.std.specs.Prelude.{◌≡◌, ℕ, List, [], ◌∷◌, ◌++◌, flat_map, cond, Option}
use Rattle.rpc_msg.specs.Vats.{other_vat}
use Rattle.rpc_msg.specs.declared.ids.ObjectId.{ObjectId}
use Rattle.rpc_msg.specs.declared.ids.Vat.{Vat}
use Rattle.rpc_msg.specs.declared.ids.Vat.TheVariants.{A, B}
use Rattle.rpc_machine.specs.declared.command.Level.TheVariants.{One}
use Rattle.rpc_journal.specs.History.{same_vat}
use Rattle.vat_connection.specs.Connecting.{Connected, fresh}
use Rattle.vat_connections.specs.OneConnection.{Act, ActsAll}
use Rattle.vat_connections.specs.OneConnection.Act.{Gives, Receives}
use Rattle.laws_in_bytes.specs.Joined.{Doing, FinishAtOnce}
use Rattle.vat_joined.specs.Recorded.{Recorded, entries_by}
use Rattle.vat_joined.specs.Promised.{KeepsPromises}

-- ---- an order of two logs

-- the acts of one vat among these, in order
abbrev pub acts_at : Vat → List Doing → List Act
acts_at v xs = flat_map (λ x. cond (same_vat v x.vat) (x.act ∷ []) []) xs

-- All acts of both logs in one order, in which each log keeps its own.
pub record IsOrderOf (a b : List Act) (xs : List Doing) : Type 0 where
  pub of_a : acts_at A xs ≡ a
  pub of_b : acts_at B xs ≡ b

-- ---- the bytes

abbrev pub came_by : Act → List ℕ
came_by (Receives bytes) = bytes
came_by x = []

abbrev pub given_by : Act → List ℕ
given_by (Gives bytes) = bytes
given_by x = []

-- all bytes that came to a vat, and all that it gave
abbrev pub came : Vat → List Doing → List ℕ
came v xs = flat_map came_by (acts_at v xs)

abbrev pub given : Vat → List Doing → List ℕ
given v xs = flat_map given_by (acts_at v xs)

-- At each moment of the order, what has come to a vat is a beginning of what the other has given. So no byte comes before it was given, and
-- none is lost, made up, or out of its place.
abbrev pub NoneComesBefore : List Doing → Type 0
NoneComesBefore xs = (v : Vat) (before behind : List Doing) → xs ≡ before ++ behind → (rest : List ℕ) × (given (other_vat v) before ≡ came v before ++ rest)

-- ---- the law

-- What two connections with these letters did by their logs, in such an order: they are where their logs lead, and Finishes go at once.
pub record AreTwoLogs (letters : Vat → Vat) (root_a root_b : Option ObjectId) (xs : List Doing) (a b : Connected) : Type 0 where
  pub log_a : List Act
  pub log_b : List Act
  pub ran_a : ActsAll (fresh (letters A) One root_a) log_a a
  pub ran_b : ActsAll (fresh (letters B) One root_b) log_b b
  pub order : IsOrderOf log_a log_b xs
  pub none_before : NoneComesBefore xs
  pub at_once : FinishAtOnce xs

-- Then all is promised of what they did and told, as of two connections in one process, whatever is still on its way, and whatever the
-- two letters are: each process may call its vat A.
abbrev pub LogsKeepPromises : Type 0
LogsKeepPromises =
    (letters : Vat → Vat) (root_a root_b : Option ObjectId) (xs : List Doing) (a b : Connected) → AreTwoLogs letters root_a root_b xs a b
    → (to_a to_b : List ℕ) × KeepsPromises (record { joined = record { a = a; b = b; to_a = to_a; to_b = to_b }; journal = flat_map entries_by xs })
