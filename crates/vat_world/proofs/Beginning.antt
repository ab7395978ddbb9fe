-- Two new vats are a world to which a run leads, with room to go down.
use Rattle.std.proofs.Common.{◌≡◌, ℕ, Bool, false, Option, None, Some, List, [], sym, ap, subst, ◌∙◌, arith}
use Rattle.std.proofs.Common.{Result, Ok, Err}
use Rattle.std.specs.Result.{IfOk, IsErrAnd}
use Rattle.rpc_msg.specs.declared.ids.Vat.TheVariants.{A, B}
use Rattle.rpc_msg.specs.declared.ids.ObjectId.{ObjectId}
use Rattle.rpc_journal.specs.declared.entry.JournalEntry.{JournalEntry}
use Rattle.rpc_machine.specs.declared.command.Level.TheVariants.{One}
use Rattle.rpc_machine.specs.State.{start}
use Rattle.rpc_machine.specs.World.{Side}
use Rattle.vat_world.specs.declared.side.Side as kept
use Rattle.vat_world.specs.Rooms.{side_of, seen_of, CanAbort, CanFallBy, HasRoom}
use Rattle.vat_world.specs.World.{Seen, new_seen, IsReached}
use Rattle.vat_world.proofs.Reaching.{reached_new}
use Rattle.vat_world.proofs.Standing.{owed_three}

abbrev Entries : Type 0
Entries = List JournalEntry × ℕ

abbrev new_a : Option ObjectId → Side
new_a root = record { core = start A One root; inbox = [] }

abbrev new_b : Option ObjectId → Side
new_b root = record { core = start B One root; inbox = [] }

abbrev seen_by : Side → Side → List JournalEntry → Bool → Bool → Seen
seen_by x y l p q = record { world = record { a = x; b = y }; journal = l; shut_a = p; shut_b = q }

pub seen_new : (a b : kept.Side) (j : Entries) (root_a root_b : Option ObjectId) → side_of a ≡ new_a root_a → side_of b ≡ new_b root_b → j.0 ≡ [] → a.was_shut ≡ false → b.was_shut ≡ false → seen_of a b j ≡ new_seen root_a root_b
seen_new a b j root_a root_b ea eb ej sa sb =
    ap (λ (x : Side). seen_by x (side_of b) j.0 a.was_shut b.was_shut) ea
    ∙ ap (λ (y : Side). seen_by (new_a root_a) y j.0 a.was_shut b.was_shut) eb
    ∙ ap (λ (l : List JournalEntry). seen_by (new_a root_a) (new_b root_b) l a.was_shut b.was_shut) ej
    ∙ ap (λ (p : Bool). seen_by (new_a root_a) (new_b root_b) [] p b.was_shut) sa
    ∙ ap (λ (q : Bool). seen_by (new_a root_a) (new_b root_b) [] false q) sb

can_fall : (o : Option ℕ) (s peer : kept.Side) → CanAbort s peer → CanFallBy o s peer
can_fall None s peer h = h
can_fall (Some n) s peer h = tt

pub begun : (a b : kept.Side) (j : Entries) (root_a root_b : Option ObjectId) → seen_of a b j ≡ new_seen root_a root_b → CanAbort a a → CanAbort b b → j.1 ≡ 6 → HasRoom a b j × IsReached (seen_of a b j)
begun a b j root_a root_b e ha hb room = (
  record {
    acting = can_fall a.core.down a b (hb.0, ha.1);
    other = can_fall b.core.down b a (ha.0, hb.1);
    entries = let p = owed_three a.core.down in let q = owed_three b.core.down in omega (arith, p, q, room);
  },
  subst (λ (w : Seen). IsReached w) (sym e) (reached_new root_a root_b),
)

-- Where the room was refused there is none.
pub none_made : {T E : Type 0} (Q : E → Type 0) (r : Result T E) (P : T → Type 0) → IsErrAnd r Q → IfOk r P
none_made Q (Ok x) P h = absurd h
none_made Q (Err e) P h = tt
