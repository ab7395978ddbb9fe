-- A step that is only thought, to find which questions are over: what is left of a vat once some things went.
use Rattle.std.specs.Prelude.{◌≡◌, ℕ, zero, suc, ◌+◌, ◌≤◌, ◌<◌, Bool, true, false, nat_eq, Option, None, Some, IsSome, List, [], ◌∷◌, ◌++◌, length, reverse}
use Rattle.std.specs.FinMap as map
use Rattle.finite_maps.specs.Tally.{Map}
use Rattle.rpc_msg.specs.declared.ids.QuestionId.{QuestionId}
use Rattle.rpc_machine.specs.declared.node.Node.{Node}
use Rattle.rpc_machine.specs.declared.node.Node.TheVariants as node
use Rattle.rpc_machine.specs.declared.entries.Question.{Question}
use Rattle.rpc_machine.specs.declared.entries.Import.{Import}
use Rattle.rpc_machine.specs.declared.entries.Role.{Role}
use Rattle.rpc_machine.specs.declared.entries.Role.TheVariants as role
use Rattle.rpc_machine.specs.State.{State}
use Rattle.rpc_machine.specs.Lists.{how_many}
use Rattle.rpc_machine.specs.Nodes.{is_promise, is_field, is_import, is_pipe, promise_link, value_of}
use Rattle.rpc_machine.specs.Places.{places, named_by_value, named_by_returned, named_by_resolution}
use Rattle.rpc_machine.specs.Progress.{Progress}
use Rattle.rpc_machine.specs.Collecting.{IsLoosePromise, IsLooseOutcome, IsLooseImport}
use Rattle.rpc_machine.specs.Sweeping.{IsNotSent, IsToFinish, closed, Withers}
use Rattle.rpc_uses.specs.Objects.{is_the_object}
use Rattle.laws_acts.specs.Alike.{Alike}
use Rattle.core_refcounts.specs.Names.{Counts, no_names}
use Rattle.core_store.specs.Holding.{IsFixed, IsTold, IsThere}
use Rattle.core_step_sweeps.specs.declared.thought.Thought.{Thought}

-- ---- Things

abbrev pub never : Node → Bool
never n = false

-- Whether the second node is of the same object, promise, outcome, import or question as the first.
abbrev pub is_of : Node → Node → Bool
is_of (node.Object o) = is_the_object o.0
is_of (node.Promise p) = is_promise p
is_of (node.Field o path) = is_field o
is_of (node.Import e) = is_import e.0
is_of (node.Pipe q path) = is_pipe q.0
is_of (node.Broken reason) = never

-- What the node is of would go, or is a question to be finished.
abbrev pub IsLoose : State → Node → Type 0
IsLoose s (node.Object o) = ⊥
IsLoose s (node.Promise p) = IsLoosePromise s p (map.get s.promises p)
IsLoose s (node.Field o path) = IsLooseOutcome s o (map.get s.outcomes o)
IsLoose s (node.Import e) = IsLooseImport s e.0 (map.get s.imports e.0)
IsLoose s (node.Pipe q path) = IsToFinish s q.0 (map.get s.questions q.0)
IsLoose s (node.Broken reason) = ⊥

abbrev pub without_question : State → ℕ → Option Question → State
without_question s q None = s
without_question s q (Some x) = closed s q x

-- What the node is of goes; a question is closed.
abbrev pub without : State → Node → State
without s (node.Object o) = s
without s (node.Promise p) = record s { promises = map.remove s.promises p }
without s (node.Field o path) = record s { outcomes = map.remove s.outcomes o }
without s (node.Import e) = record s { imports = map.remove s.imports e.0 }
without s (node.Pipe q path) = without_question s q.0 (map.get s.questions q.0)
without s (node.Broken reason) = s

-- What these nodes are of went, the last first.
abbrev pub left : State → List Node → State
left s [] = s
left s (n ∷ ns) = without (left s ns) n

abbrev pub linked : Option Node → List Node
linked None = []
linked (Some n) = n ∷ []

abbrev pub said_by : Option Import → List Node
said_by None = []
said_by (Some x) = named_by_resolution x.resolution

abbrev pub returned_by : Option Question → List Node
returned_by None = []
returned_by (Some x) = named_by_returned x.returned

-- What is named by what the node is of, once that is loose.
abbrev pub named_by_thing : State → Node → List Node
named_by_thing s (node.Object o) = []
named_by_thing s (node.Promise p) = linked (promise_link (map.get s.promises p))
named_by_thing s (node.Field o path) = named_by_value (value_of (map.get s.outcomes o))
named_by_thing s (node.Import e) = said_by (map.get s.imports e.0)
named_by_thing s (node.Pipe q path) = returned_by (map.get s.questions q.0)
named_by_thing s (node.Broken reason) = []

-- The question of a pipe.
abbrev pub asked_by : Node → List QuestionId
asked_by (node.Object o) = []
asked_by (node.Promise p) = []
asked_by (node.Field o path) = []
asked_by (node.Import e) = []
asked_by (node.Pipe q path) = q ∷ []
asked_by (node.Broken reason) = []

-- ---- What is left

abbrev pub is_id : ℕ → QuestionId → Bool
is_id k q = nat_eq q.0 k

-- An entry that did not go is as it was; one that went is not there.
abbrev pub IsKept : {X : Type 0} → ℕ → Option X → Option X → Type 0
IsKept {X} zero old new = ◌≡◌ {A = Option X} new old
IsKept {X} (suc n) old new = ◌≡◌ {A = Option X} new None

abbrev pub IsFinished : Option Question → Type 0
IsFinished None = Unit {0}
IsFinished (Some x) = ¬ (IsNotSent x.finish)

-- A question that was closed may still wait for its Return.
abbrev pub IsKeptOpen : ℕ → Option Question → Option Question → Type 0
IsKeptOpen zero old new = ◌≡◌ {A = Option Question} new old
IsKeptOpen (suc n) old new = IsFinished new

abbrev pub picked : ℕ → Option Question → Option Question → Option Question
picked zero first rest = rest
picked (suc n) first rest = first

-- The questions that are over from here on: these, as they stand, and those that are over once these are closed.
pub record WithersBy (s : State) (ids : List QuestionId) (d : Progress) (rest : Map Question) : Type 0 where
  pub over : Map Question
  pub withers : Withers d over
  pub are : (k : ℕ) → map.get over k ≡ picked (how_many (is_id k) ids) (map.get s.questions k) (map.get rest k)

-- What is left of the state s is t, once what these nodes are of went, and these questions were closed.
pub record IsLeft (s t : State) (gone went : List Node) (asked : List QuestionId) : Type 0 where
  pub beside : t ≡ record s { promises = t.promises; outcomes = t.outcomes; imports = t.imports; questions = t.questions }
  pub promises : (k : ℕ) → IsKept (how_many (is_promise k) gone) (map.get s.promises k) (map.get t.promises k)
  pub outcomes : (k : ℕ) → IsKept (how_many (is_field k) gone) (map.get s.outcomes k) (map.get t.outcomes k)
  pub imports : (k : ℕ) → IsKept (how_many (is_import k) gone) (map.get s.imports k) (map.get t.imports k)
  pub questions : (k : ℕ) → IsKeptOpen (how_many (is_pipe k) gone) (map.get s.questions k) (map.get t.questions k)
  -- what went named these
  pub alike : Alike (places s) (went ++ places t)
  -- each of these questions once
  pub ids : (k : ℕ) → how_many (is_id k) asked ≡ how_many (is_pipe k) gone
  pub once : (k : ℕ) → how_many (is_pipe k) gone ≤ 1
  pub withers : (d : Progress) (rest : Map Question) → d.state ≡ s → ((e : Progress) → e.state ≡ t → Withers e rest) → WithersBy s asked d rest

-- What is loose is among these.
abbrev pub Covers : State → List Node → Type 0
Covers t pending = (n : Node) → IsLoose t n → 0 < how_many (is_of n) pending

-- At most the node's thing is loose, and it names nothing.
pub record GoesAlone (s : State) (n : Node) : Type 0 where
  pub covers : Covers s (n ∷ [])
  pub silent : named_by_thing s n ≡ []

-- ---- The thought

abbrev pub all_gone : Option Node → List Node → List Node
all_gone None ns = ns
all_gone (Some n) ns = n ∷ ns

-- What went in the thought, the last first.
abbrev pub gone_of : Thought → List Node
gone_of x = all_gone x.last (reverse x.gone.items)

-- The thought is about that state, and what is loose in what is left is among these.
pub record IsThought (s : State) (x : Thought) (pending : List Node) : Type 0 where
  pub went : List Node
  pub is_left : IsLeft s (left s (gone_of x)) (gone_of x) went (reverse x.over.items)
  pub less : Counts x.less went
  pub marks : Counts x.marks (reverse x.gone.items)
  pub covers : Covers (left s (gone_of x)) pending

abbrev pub any : Node → Bool
any n = true

-- How much is left to be thought of.
abbrev pub work : State → Thought → ℕ
work s x = length x.pending.items + how_many any (places (left s (gone_of x)))

-- ---- What a body tests

-- A question that is to be finished, if it may be unnamed only where b says so.
abbrev pub IsOverIf : State → Bool → Question → Role → Type 0
IsOverIf s b x (role.Relay o) = IsSome x.returned
IsOverIf s b x (role.Direct c) = (map.get s.calls c.0 ≡ None) × (b ≡ true)

abbrev pub IsToFinishIf : State → Bool → Option Question → Type 0
IsToFinishIf s b None = ⊥
IsToFinishIf s b (Some x) = IsNotSent x.finish × IsOverIf s b x x.role

-- What the node is of is loose, where b says whether no place names it.
abbrev pub IsLooseIf : State → Bool → Node → Type 0
IsLooseIf s b (node.Object o) = ⊥
IsLooseIf s b (node.Promise p) = IsFixed (map.get s.promises p) × (b ≡ true)
IsLooseIf s b (node.Field o path) = IsTold s o (map.get s.outcomes o) × (b ≡ true)
IsLooseIf s b (node.Import e) = IsThere (map.get s.imports e.0) × (b ≡ true)
IsLooseIf s b (node.Pipe q path) = IsToFinishIf s b (map.get s.questions q.0)
IsLooseIf s b (node.Broken reason) = ⊥

-- ---- What is noted

abbrev pub promise_node : ℕ → Node
promise_node k = node.Promise k

abbrev pub field_node : ℕ → Node
field_node k = node.Field k []

abbrev pub import_node : ℕ → Node
import_node k = node.Import (record { 0 = k })

abbrev pub pipe_node : ℕ → Node
pipe_node k = node.Pipe (record { 0 = k }) []

-- The nodes of these keys.
abbrev pub nodes_of : (ℕ → Node) → List ℕ → List Node
nodes_of node_of [] = []
nodes_of node_of (k ∷ ks) = node_of k ∷ nodes_of node_of ks

abbrev pub IsQuiet : State → Type 0
IsQuiet s = (n : Node) → ¬ (IsLoose s n)

-- Nothing went, and nothing is pending.
pub record IsStill (x : Thought) : Type 0 where
  pub last : x.last ≡ None
  pub less : x.less ≡ no_names
  pub pending : x.pending.items ≡ []
