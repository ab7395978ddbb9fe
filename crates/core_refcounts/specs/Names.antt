-- How many places name each thing, and which things are noted: those that were named last by a place that went, and those
-- that were noted besides. Of objects none is noted, since they stay with the application.
use Rattle.std.specs.Prelude.{◌≡◌, ◌≢◌, ℕ, ◌+◌, ◌-◌, ◌<◌, ◌≤◌, ◌^◌, max, cond, nat_le, Option, None, Some, List, [], ◌∷◌, ◌++◌, length, All, refl}
use Rattle.std.specs.Coded.{Coded, code_by, coded×, coded_ℕ, coded_list}
use Rattle.std.specs.FinMap as map
use Rattle.finite_maps.specs.Tally.{Map}
use Rattle.rpc_msg.specs.declared.ids.ExportId.{ExportId}
use Rattle.rpc_msg.specs.declared.ids.QuestionId.{QuestionId}
use Rattle.rpc_machine.specs.declared.node.Node.{Node}
use Rattle.rpc_machine.specs.declared.node.Node.TheVariants as node
use Rattle.rpc_machine.specs.Lists.{how_many}
use Rattle.rpc_machine.specs.Nodes.{is_promise, is_field, is_import, is_pipe}
use Rattle.rpc_uses.specs.Objects.{is_the_object}

-- ---- Counts by key

-- The counts, without zeros; the keys that are noted; how many more can be noted beside those that have a count, and how
-- many new keys can be counted, with no more memory.
pub record Counted : Type 0 where
  pub counts : Map ℕ
  pub noted : List ℕ
  pub spare : ℕ
  pub room : ℕ

abbrev pub counted_code : Coded Counted
counted_code =
    code_by
    ((Map ℕ × List ℕ) × (ℕ × ℕ))
    (coded× (coded× (map.code coded_ℕ coded_ℕ) (coded_list coded_ℕ)) (coded× coded_ℕ coded_ℕ))
    (λ c. ((c.counts, c.noted), (c.spare, c.room)))
    (λ p. record { counts = p.0.0; noted = p.0.1; spare = p.1.0; room = p.1.1 })
    (λ c. refl)

abbrev pub count_of : Option ℕ → ℕ
count_of None = 0
count_of (Some n) = n

abbrev pub times : Map ℕ → ℕ → ℕ
times m k = count_of (map.get m k)

abbrev pub raised_by : Map ℕ → ℕ → Option ℕ → Map ℕ
raised_by m k None = map.insert m k 1
raised_by m k (Some n) = map.insert m k (n + 1)

-- A new key takes room, if there is any.
abbrev pub room_by : ℕ → Option ℕ → ℕ
room_by room None = room - 1
room_by room (Some n) = room

abbrev pub lowered_by : Map ℕ → ℕ → Option ℕ → Map ℕ
lowered_by m k None = m
lowered_by m k (Some n) = cond (nat_le n 1) (map.remove m k) (map.insert m k (n - 1))

-- A key is noted where its last count goes.
abbrev pub noted_by : ℕ → Option ℕ → List ℕ
noted_by k None = []
noted_by k (Some n) = cond (nat_le n 1) (k ∷ []) []

abbrev pub raised : Counted → ℕ → Counted
raised c k = record c { counts = raised_by c.counts k (map.get c.counts k); room = room_by c.room (map.get c.counts k) }

abbrev pub lowered : Counted → ℕ → Counted
lowered c k = record c { counts = lowered_by c.counts k (map.get c.counts k); noted = c.noted ++ noted_by k (map.get c.counts k) }

-- The key is noted, whatever its count.
abbrev pub noting : Counted → ℕ → Counted
noting c k = record c { noted = c.noted ++ k ∷ []; spare = c.spare - 1 }

-- Room for so many new keys at least.
abbrev pub roomier : ℕ → Counted → Counted
roomier n c = record c { room = max n c.room }

-- The counts and what is noted stay; the rooms may differ.
abbrev pub with_rooms : Counted → Counted → Counted
with_rooms old new = record old { spare = new.spare; room = new.room }

-- A key that is noted is taken out, and its place is spare.
abbrev pub TakesNoted : Counted → Option ℕ → Counted → Type 0
TakesNoted old None new = (old.noted ≡ []) × (new ≡ old)
TakesNoted old (Some k) new = (old.noted ≡ new.noted ++ k ∷ []) × (new ≡ record old { noted = new.noted; spare = old.spare + 1 })

-- Each key that is noted is an id.
abbrev pub HasIds : List ℕ → Type 0
HasIds noted = All (λ k. k < 4294967296) noted

-- ---- Counts by key of which none is noted

-- The counts, without zeros; and how many new keys can be counted with no more memory.
pub record Totals : Type 0 where
  pub counts : Map ℕ
  pub room : ℕ

abbrev pub totals_code : Coded Totals
totals_code = code_by (Map ℕ × ℕ) (coded× (map.code coded_ℕ coded_ℕ) coded_ℕ) (λ c. (c.counts, c.room)) (λ p. record { counts = p.0; room = p.1 }) (λ c. refl)

abbrev pub no_totals : Totals
no_totals = record { counts = map.empty; room = 0 }

abbrev pub totals_raised : Totals → ℕ → Totals
totals_raised c k = record { counts = raised_by c.counts k (map.get c.counts k); room = room_by c.room (map.get c.counts k) }

abbrev pub totals_lowered : Totals → ℕ → Totals
totals_lowered c k = record { counts = lowered_by c.counts k (map.get c.counts k); room = c.room }

abbrev pub with_room : ℕ → Totals → Totals
with_room n c = record { counts = c.counts; room = n }

-- What has a count was counted at least once.
abbrev pub HasNoZeros : Map ℕ → Type 0
HasNoZeros m = (k : ℕ) → map.get m k ≢ Some 0

-- ---- Names of nodes

pub record Names : Type 0 where
  pub promises : Counted
  pub outcomes : Counted
  pub imports : Counted
  pub questions : Counted
  pub objects : Totals

abbrev pub names_code : Coded Names
names_code =
    code_by
    (((Counted × Counted) × (Counted × Counted)) × Totals)
    (coded× (coded× (coded× counted_code counted_code) (coded× counted_code counted_code)) totals_code)
    (λ c. (((c.promises, c.outcomes), (c.imports, c.questions)), c.objects))
    (λ p. record { promises = p.0.0.0; outcomes = p.0.0.1; imports = p.0.1.0; questions = p.0.1.1; objects = p.1 })
    (λ c. refl)

abbrev pub nothing_counted : Counted
nothing_counted = record { counts = map.empty; noted = []; spare = 0; room = 0 }

abbrev pub no_names : Names
no_names = record { promises = nothing_counted; outcomes = nothing_counted; imports = nothing_counted; questions = nothing_counted; objects = no_totals }

-- One more place names the node.
abbrev pub named : Names → Node → Names
named c (node.Object o) = record c { objects = totals_raised c.objects o.0 }
named c (node.Promise p) = record c { promises = raised c.promises p }
named c (node.Field o path) = record c { outcomes = raised c.outcomes o }
named c (node.Import e) = record c { imports = raised c.imports e.0 }
named c (node.Pipe q path) = record c { questions = raised c.questions q.0 }
named c (node.Broken reason) = c

-- One place less names it.
abbrev pub unnamed : Names → Node → Names
unnamed c (node.Object o) = record c { objects = totals_lowered c.objects o.0 }
unnamed c (node.Promise p) = record c { promises = lowered c.promises p }
unnamed c (node.Field o path) = record c { outcomes = lowered c.outcomes o }
unnamed c (node.Import e) = record c { imports = lowered c.imports e.0 }
unnamed c (node.Pipe q path) = record c { questions = lowered c.questions q.0 }
unnamed c (node.Broken reason) = c

-- One more place names each of the nodes, and one less.
abbrev pub named_all : Names → List Node → Names
named_all c [] = c
named_all c (n ∷ ns) = named_all (named c n) ns

abbrev pub unnamed_all : Names → List Node → Names
unnamed_all c [] = c
unnamed_all c (n ∷ ns) = unnamed_all (unnamed c n) ns

-- How many places name the object, promise, import, fields of the outcome or Pipes of the question; no broken node is counted.
abbrev pub times_named : Names → Node → ℕ
times_named c (node.Object o) = times c.objects.counts o.0
times_named c (node.Promise p) = times c.promises.counts p
times_named c (node.Field o path) = times c.outcomes.counts o
times_named c (node.Import e) = times c.imports.counts e.0
times_named c (node.Pipe q path) = times c.questions.counts q.0
times_named c (node.Broken reason) = 0

-- Each of the nodes can be named so many times more as there are nodes.
abbrev pub CanCount : Names → List Node → Type 0
CanCount c ns = All (λ n. times_named c n + length ns < 2 ^ 64) ns

-- So many new things of each kind can be counted with no more memory.
pub record HasRoom (n : ℕ) (c : Names) : Type 0 where
  pub promises : n ≤ c.promises.room
  pub outcomes : n ≤ c.outcomes.room
  pub imports : n ≤ c.imports.room
  pub questions : n ≤ c.questions.room
  pub objects : n ≤ c.objects.room

-- So many things of each kind can be noted, beside those that a place names, with no more memory.
pub record HasSpare (n : ℕ) (c : Names) : Type 0 where
  pub promises : n ≤ c.promises.spare
  pub outcomes : n ≤ c.outcomes.spare
  pub imports : n ≤ c.imports.spare
  pub questions : n ≤ c.questions.spare

abbrev pub all_roomier : ℕ → Names → Names
all_roomier n c = record { promises = roomier n c.promises; outcomes = roomier n c.outcomes; imports = roomier n c.imports; questions = roomier n c.questions; objects = with_room (max n c.objects.room) c.objects }

abbrev pub all_with_rooms : Names → Names → Names
all_with_rooms old new = record {
  promises = with_rooms old.promises new.promises;
  outcomes = with_rooms old.outcomes new.outcomes;
  imports = with_rooms old.imports new.imports;
  questions = with_rooms old.questions new.questions;
  objects = with_room new.objects.room old.objects;
}

abbrev pub export_key : Option ExportId → Option ℕ
export_key None = None
export_key (Some id) = Some id.0

abbrev pub question_key : Option QuestionId → Option ℕ
question_key None = None
question_key (Some id) = Some id.0

-- A key that is noted is taken out of one of the counts, and the rest stays.
abbrev pub Takes : Counted → Option ℕ → Counted → Type 0 → Type 0
Takes old None new rest = (old.noted ≡ []) × (new ≡ old) × rest
Takes old (Some k) new rest = (old.noted ≡ new.noted ++ k ∷ []) × (new ≡ record old { noted = new.noted; spare = old.spare + 1 }) × rest

-- These are the nodes that are counted.
pub record Counts (c : Names) (ns : List Node) : Type 0 where
  pub promises : (k : ℕ) → times c.promises.counts k ≡ how_many (is_promise k) ns
  pub outcomes : (k : ℕ) → times c.outcomes.counts k ≡ how_many (is_field k) ns
  pub imports : (k : ℕ) → times c.imports.counts k ≡ how_many (is_import k) ns
  pub questions : (k : ℕ) → times c.questions.counts k ≡ how_many (is_pipe k) ns
  pub objects : (k : ℕ) → times c.objects.counts k ≡ how_many (is_the_object k) ns
