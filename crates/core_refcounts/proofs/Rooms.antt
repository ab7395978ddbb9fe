-- What room is left once nodes are named, and how often a node is named then.
use Rattle.std.proofs.Common.{◌≡◌, ℕ, ◌+◌, ◌≤◌, ◌<◌, ◌^◌, max, List, [], ◌∷◌, length, Option, None, Some, refl, sym, ap, arith}
use Rattle.std.specs.FinMap as map
use Rattle.finite_maps.specs.Tally.{Map}
use Rattle.rpc_machine.specs.declared.node.Node.{Node}
use Rattle.rpc_machine.specs.declared.node.Node.TheVariants as node
use Rattle.finite_maps.proofs.Gets.{each_inserted}
use Rattle.core_refcounts.specs.Names.{Counted, Totals, count_of, times, raised_by, room_by, roomier, with_room, Names, named, named_all, times_named, HasRoom, all_roomier}

-- ---- Room

room_less : (n room : ℕ) (o : Option ℕ) → n + 1 ≤ room → n ≤ room_by room o
room_less n room None h = omega (arith, h)
room_less n room (Some k) h = omega (arith, h)

pub room_named : (n : ℕ) (c : Names) (m : Node) → HasRoom (n + 1) c → HasRoom n (named c m)
room_named n c (node.Object o) h = record { promises = omega (arith, h.promises); outcomes = omega (arith, h.outcomes); imports = omega (arith, h.imports); questions = omega (arith, h.questions); objects = room_less n c.objects.room (map.get c.objects.counts o.0) h.objects }
room_named n c (node.Promise p) h = record { promises = room_less n c.promises.room (map.get c.promises.counts p) h.promises; outcomes = omega (arith, h.outcomes); imports = omega (arith, h.imports); questions = omega (arith, h.questions); objects = omega (arith, h.objects) }
room_named n c (node.Field o path) h = record { promises = omega (arith, h.promises); outcomes = room_less n c.outcomes.room (map.get c.outcomes.counts o) h.outcomes; imports = omega (arith, h.imports); questions = omega (arith, h.questions); objects = omega (arith, h.objects) }
room_named n c (node.Import e) h = record { promises = omega (arith, h.promises); outcomes = omega (arith, h.outcomes); imports = room_less n c.imports.room (map.get c.imports.counts e.0) h.imports; questions = omega (arith, h.questions); objects = omega (arith, h.objects) }
room_named n c (node.Pipe q path) h = record { promises = omega (arith, h.promises); outcomes = omega (arith, h.outcomes); imports = omega (arith, h.imports); questions = room_less n c.questions.room (map.get c.questions.counts q.0) h.questions; objects = omega (arith, h.objects) }
room_named n c (node.Broken reason) h = record { promises = omega (arith, h.promises); outcomes = omega (arith, h.outcomes); imports = omega (arith, h.imports); questions = omega (arith, h.questions); objects = omega (arith, h.objects) }

pub room_fewer : (m n : ℕ) (c : Names) → m ≤ n → HasRoom n c → HasRoom m c
room_fewer m n c few h = record { promises = omega (arith, few, h.promises); outcomes = omega (arith, few, h.outcomes); imports = omega (arith, few, h.imports); questions = omega (arith, few, h.questions); objects = omega (arith, few, h.objects) }

pub room_made : (n : ℕ) (c : Names) → HasRoom n (all_roomier n c)
room_made n c = record { promises = omega arith; outcomes = omega arith; imports = omega arith; questions = omega arith; objects = omega arith }

-- Where there is room, none is made.
roomier_same : (n : ℕ) (c : Counted) → n ≤ c.room → roomier n c ≡ c
roomier_same n c h = let e : max n c.room ≡ c.room = omega (arith, h) in ap (λ (room : ℕ). record c { room = room }) e

totals_same : (n : ℕ) (c : Totals) → n ≤ c.room → with_room (max n c.room) c ≡ c
totals_same n c h = let e : max n c.room ≡ c.room = omega (arith, h) in ap (λ (room : ℕ). with_room room c) e

pub all_roomier_same : (n : ℕ) (c : Names) → HasRoom n c → all_roomier n c ≡ c
all_roomier_same n c h = λ i. record {
  promises = roomier_same n c.promises h.promises i;
  outcomes = roomier_same n c.outcomes h.outcomes i;
  imports = roomier_same n c.imports h.imports i;
  questions = roomier_same n c.questions h.questions i;
  objects = totals_same n c.objects h.objects i;
}

-- ---- Times

times_raised_by : (m : Map ℕ) (k j : ℕ) (o : Option ℕ) → map.get m k ≡ o → count_of (map.get (raised_by m k o) j) ≤ times m j + 1
times_raised_by m k j None is = each_inserted (λ j o. count_of o ≤ times m j + 1) m k 1 (omega arith) (λ j apart. omega arith) j
times_raised_by m k j (Some n) is =
    each_inserted (λ j o. count_of o ≤ times m j + 1) m k (n + 1) (let e : n ≡ times m k = ap count_of (sym is) in omega (arith, e)) (λ j apart. omega arith) j

times_raised : (m : Map ℕ) (k j : ℕ) → times (raised_by m k (map.get m k)) j ≤ times m j + 1
times_raised m k j = times_raised_by m k j (map.get m k) refl

more : (a : ℕ) → a ≤ a + 1
more a = omega arith

-- By one more node, a node is named once more at most.
times_more : (c : Names) (m n : Node) → times_named (named c m) n ≤ times_named c n + 1
times_more c (node.Object i) (node.Object o) = times_raised c.objects.counts i.0 o.0
times_more c (node.Object i) (node.Promise k) = more (times c.promises.counts k)
times_more c (node.Object i) (node.Field k path) = more (times c.outcomes.counts k)
times_more c (node.Object i) (node.Import e) = more (times c.imports.counts e.0)
times_more c (node.Object i) (node.Pipe q path) = more (times c.questions.counts q.0)
times_more c (node.Object i) (node.Broken reason) = more 0
times_more c (node.Broken reason) n = more (times_named c n)
times_more c (node.Promise p) (node.Promise k) = times_raised c.promises.counts p k
times_more c (node.Promise p) (node.Object o) = more (times c.objects.counts o.0)
times_more c (node.Promise p) (node.Field k path) = more (times c.outcomes.counts k)
times_more c (node.Promise p) (node.Import e) = more (times c.imports.counts e.0)
times_more c (node.Promise p) (node.Pipe q path) = more (times c.questions.counts q.0)
times_more c (node.Promise p) (node.Broken reason) = more 0
times_more c (node.Field f way) (node.Promise k) = more (times c.promises.counts k)
times_more c (node.Field f way) (node.Object o) = more (times c.objects.counts o.0)
times_more c (node.Field f way) (node.Field k path) = times_raised c.outcomes.counts f k
times_more c (node.Field f way) (node.Import e) = more (times c.imports.counts e.0)
times_more c (node.Field f way) (node.Pipe q path) = more (times c.questions.counts q.0)
times_more c (node.Field f way) (node.Broken reason) = more 0
times_more c (node.Import i) (node.Promise k) = more (times c.promises.counts k)
times_more c (node.Import i) (node.Object o) = more (times c.objects.counts o.0)
times_more c (node.Import i) (node.Field k path) = more (times c.outcomes.counts k)
times_more c (node.Import i) (node.Import e) = times_raised c.imports.counts i.0 e.0
times_more c (node.Import i) (node.Pipe q path) = more (times c.questions.counts q.0)
times_more c (node.Import i) (node.Broken reason) = more 0
times_more c (node.Pipe i way) (node.Promise k) = more (times c.promises.counts k)
times_more c (node.Pipe i way) (node.Object o) = more (times c.objects.counts o.0)
times_more c (node.Pipe i way) (node.Field k path) = more (times c.outcomes.counts k)
times_more c (node.Pipe i way) (node.Import e) = more (times c.imports.counts e.0)
times_more c (node.Pipe i way) (node.Pipe q path) = times_raised c.questions.counts i.0 q.0
times_more c (node.Pipe i way) (node.Broken reason) = more 0

pub times_all : (c : Names) (ms : List Node) (n : Node) → times_named (named_all c ms) n ≤ times_named c n + length ms
times_all c [] n = omega arith
times_all c (m ∷ ms) n = let a = times_all (named c m) ms n in let b = times_more c m n in omega (arith, a, b)

pub times_roomier : (k : ℕ) (c : Names) (n : Node) → times_named (all_roomier k c) n ≡ times_named c n
times_roomier k c (node.Object o) = refl
times_roomier k c (node.Promise p) = refl
times_roomier k c (node.Field o path) = refl
times_roomier k c (node.Import e) = refl
times_roomier k c (node.Pipe q path) = refl
times_roomier k c (node.Broken reason) = refl

-- A node that can be named so many times more can be named behind fewer others.
pub times_fit : (c : Names) (ms : List Node) (n : Node) (i len : ℕ) → length ms ≤ i → i < len → times_named c n + len < 2 ^ 64 → times_named (named_all (all_roomier len c) ms) n + 1 < 2 ^ 64
times_fit c ms n i len few more fits =
    let a = times_all (all_roomier len c) ms n in let b = times_roomier len c n in
    omega (arith, a, b, few, more, fits)
