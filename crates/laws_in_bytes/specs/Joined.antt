-- Two connections joined by two streams of bytes, which are cut into pieces in any way.
use Rattle.std.specs.Prelude.{◌≡◌, ℕ, List, [], ◌∷◌, ◌++◌, Option}
use Rattle.rpc_msg.specs.Vats.{other_vat}
use Rattle.rpc_msg.specs.declared.ids.ObjectId.{ObjectId}
use Rattle.rpc_msg.specs.declared.ids.Vat.{Vat}
use Rattle.rpc_msg.specs.declared.ids.Vat.TheVariants.{A, B}
use Rattle.rpc_machine.specs.declared.command.Level.TheVariants.{One}
use Rattle.peer_finishes.specs.declared.held.Finishes.TheVariants.{AtOnce}
use Rattle.vat_connection.specs.Connecting.{Connected, fresh}
use Rattle.vat_connections.specs.OneConnection.{Act, Acts}
use Rattle.vat_connections.specs.OneConnection.Act.{Commands, Receives, Ends, Shuts, Gives, Asks, SetsLimits, SetsFinishes}

-- Two connections, and the bytes that are on their way to each, the oldest first.
pub record Joined : Type 0 where
  pub a : Connected
  pub b : Connected
  pub to_a : List ℕ
  pub to_b : List ℕ

-- Two new ones of level 1 with these letters and bootstrap objects, and no byte on its way. Letters are for stamps, and no stamp goes
-- over a stream: any will do, and both may have the same.
abbrev pub new_joined : (Vat → Vat) → Option ObjectId → Option ObjectId → Joined
new_joined letters root_a root_b = record { a = fresh (letters A) One root_a; b = fresh (letters B) One root_b; to_a = []; to_b = [] }

abbrev pub end : Joined → Vat → Connected
end j A = j.a
end j B = j.b

abbrev pub stream : Joined → Vat → List ℕ
stream j A = j.to_a
stream j B = j.to_b

abbrev pub put_end : Joined → Vat → Connected → Joined
put_end j A c = record j { a = c }
put_end j B c = record j { b = c }

abbrev pub put_stream : Joined → Vat → List ℕ → Joined
put_stream j A bytes = record j { to_a = bytes }
put_stream j B bytes = record j { to_b = bytes }

-- ---- what is done

-- An act at one of them.
pub record Doing : Type 0 where
  pub vat : Vat
  pub act : Act

-- The bytes that come to a vat are a beginning of those on their way to it. Those that it gives go behind those on their way to the other.
abbrev pub Moves : Joined → Vat → Act → Connected → Joined → Type 0
Moves j v (Receives bytes) c new = (rest : List ℕ) × (stream j v ≡ bytes ++ rest) × (new ≡ put_stream (put_end j v c) v rest)
Moves j v (Gives bytes) c new = new ≡ put_stream (put_end j v c) (other_vat v) (stream j (other_vat v) ++ bytes)
Moves j v (Commands command answer) c new = new ≡ put_end j v c
Moves j v Ends c new = new ≡ put_end j v c
Moves j v (Shuts n) c new = new ≡ put_end j v c
Moves j v (Asks event) c new = new ≡ put_end j v c
Moves j v (SetsLimits limits) c new = new ≡ put_end j v c
Moves j v (SetsFinishes finishes) c new = new ≡ put_end j v c

pub record Does (j : Joined) (x : Doing) (new : Joined) : Type 0 where
  pub left : Connected
  pub acts : Acts (end j x.vat) x.act left
  pub moves : Moves j x.vat x.act left new

-- What is done, in order.
abbrev pub JoinedRun : Joined → List Doing → Joined → Type 0
JoinedRun j [] new = new ≡ j
JoinedRun j (x ∷ xs) new = (mid : Joined) × Does j x mid × JoinedRun mid xs new

-- ---- how Finishes go

-- The act lets Finishes go at once, if it says when they go.
abbrev pub FinishesAtOnce : Act → Type 0
FinishesAtOnce (Commands command answer) = Unit {0}
FinishesAtOnce (Receives bytes) = Unit {0}
FinishesAtOnce Ends = Unit {0}
FinishesAtOnce (Shuts n) = Unit {0}
FinishesAtOnce (Gives bytes) = Unit {0}
FinishesAtOnce (Asks event) = Unit {0}
FinishesAtOnce (SetsLimits limits) = Unit {0}
FinishesAtOnce (SetsFinishes finishes) = finishes ≡ AtOnce

-- So do all these acts. Finishes go at once from the beginning.
abbrev pub FinishAtOnce : List Doing → Type 0
FinishAtOnce [] = Unit {0}
FinishAtOnce (x ∷ xs) = FinishesAtOnce x.act × FinishAtOnce xs
