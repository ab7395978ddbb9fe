-- The nodes that the entries of a vat name: what each is of is there. With that, whose outcome an answer has, and whose
-- question or outcome a call. What each change of one table leaves of it.
use Rattle.std.proofs.Common.{◌≡◌, ◌⊎◌, inl, inr, ℕ, ◌<◌, ◌≤◌, zero, suc, Bool, true, false, cond, nat_eq, List, [], ◌∷◌, ◌++◌, Option, None, Some, unwrap_or, refl, sym, subst, ◌∙◌}
use Rattle.std.specs.FinMap as map
use Rattle.laws_acts.specs.rpc_msg.specs.CapAt.{CapAt}
use Rattle.laws_acts.specs.rpc_msg.specs.CapAt.TheVariants.{Cap, Null, NotCap}
use Rattle.finite_maps.specs.Tally.{Map}
use Rattle.laws_acts.specs.rpc_machine.specs.Payloads.{cap_at}
use Rattle.laws_acts.specs.rpc_machine.specs.declared.node.Node.{Node}
use Rattle.laws_acts.specs.rpc_machine.specs.declared.node.Node.TheVariants as node
use Rattle.laws_acts.specs.rpc_machine.specs.declared.node.Reason.{Reason}
use Rattle.laws_acts.specs.rpc_machine.specs.declared.command.Level.{Level}
use Rattle.laws_acts.specs.rpc_machine.specs.declared.command.Level.TheVariants.{Zero, One}
use Rattle.laws_acts.specs.rpc_machine.specs.declared.entries.Role.{Role}
use Rattle.laws_acts.specs.rpc_machine.specs.declared.entries.Role.TheVariants as role
use Rattle.laws_acts.specs.rpc_machine.specs.declared.entries.Finishing.{Finishing}
use Rattle.laws_acts.specs.rpc_machine.specs.declared.entries.Finishing.TheVariants as finishing
use Rattle.laws_acts.specs.rpc_machine.specs.declared.calls.Promise.{Promise}
use Rattle.laws_acts.specs.rpc_machine.specs.declared.calls.Promise.TheVariants as promise
use Rattle.laws_acts.specs.rpc_machine.specs.declared.calls.Value.{Value}
use Rattle.laws_acts.specs.rpc_machine.specs.declared.calls.Value.TheVariants as value
use Rattle.laws_acts.specs.rpc_machine.specs.declared.calls.KeptOutcome.{KeptOutcome}
use Rattle.laws_acts.specs.rpc_machine.specs.declared.calls.Caller.{Caller}
use Rattle.laws_acts.specs.rpc_machine.specs.declared.calls.Caller.TheVariants as caller
use Rattle.laws_acts.specs.rpc_machine.specs.declared.calls.OwnCall.{OwnCall}
use Rattle.laws_acts.specs.rpc_machine.specs.declared.calls.OwnCall.TheVariants as own
use Rattle.laws_acts.specs.rpc_machine.specs.declared.entries.AnswerEntry.{AnswerEntry}
use Rattle.laws_acts.specs.rpc_machine.specs.declared.entries.Reference.{Reference}
use Rattle.laws_acts.specs.rpc_machine.specs.declared.entries.Embargo.{Embargo}
use Rattle.laws_acts.specs.rpc_machine.specs.declared.entries.Question.{Question}
use Rattle.laws_acts.specs.rpc_machine.specs.declared.entries.Import.{Import}
use Rattle.laws_acts.specs.rpc_machine.specs.declared.entries.Export.{Export}
use Rattle.laws_acts.specs.rpc_machine.specs.State.{State}
use Rattle.laws_acts.specs.rpc_machine.specs.Lists.{how_many, of_map}
use Rattle.laws_acts.specs.rpc_machine.specs.Nodes.{node_of_cap, promise_link, value_of, field_link, next, settle, is_promise, is_field, is_import}
use Rattle.laws_acts.specs.rpc_machine.specs.Places.{named_by_reference, named_by_embargo, named_by_promise, named_by_value, named_by_held, named_by_outcome, named_by_returned, named_by_question, named_by_import, named_by_export, named_by_answer, places, names}
use Rattle.laws_acts.specs.rpc_machine.specs.Collecting.{AnswerIsOther, IsLoosePromise, IsLooseOutcome, IsLooseValue, IsLooseImport, CallerIsDone}
use Rattle.laws_acts.specs.rpc_machine.specs.Sweeping.{got_of}
use Rattle.laws_acts.specs.rpc_machine.proofs.Following.{holds_where_it_settles}
use Rattle.laws_steps.specs.Settled.{IsAmong}
use Rattle.laws_steps.specs.Callers.{IsFor, peer, HasOutcome, IsOpenFor, AnswersWith}
use Rattle.finite_maps.proofs.Tested as tested
use Rattle.finite_maps.proofs.Tested.{equal, get_put, get_cut, get_left}
use Rattle.laws_steps.proofs.Among.{among_left, among_right, among_split, none_among, named, in_refs, in_embargoes, in_promises, in_outcomes, in_questions, in_imports, in_exports, in_answers}

abbrev pub Present : {X : Type 0} → Option X → Type 0
Present None = ⊥
Present (Some x) = Unit {0}

-- The call of the application that each question was asked for and still holds. It is a value of its own because in the
-- middle of a step a question may be closed before what named it goes.
abbrev pub Asked : Type 0
Asked = ℕ → Option ℕ

abbrev pub asker_by : Finishing → Role → Option ℕ
asker_by finishing.Owed (role.Direct c) = Some c.0
asker_by finishing.Owed (role.Relay o) = None
asker_by finishing.Sent (role.Direct c) = None
asker_by finishing.Sent (role.Relay o) = None
asker_by finishing.Waived (role.Direct c) = Some c.0
asker_by finishing.Waived (role.Relay o) = None

abbrev pub asker : Option Question → Option ℕ
asker None = None
asker (Some x) = asker_by x.finish x.role

abbrev pub Tied : Asked → Map Question → Type 0
Tied w m = (q c : ℕ) → w q ≡ Some c → asker (map.get m q) ≡ Some c

abbrev pub askers : Map Question → Asked
askers m q = asker (map.get m q)

-- What the node is of is there.
abbrev pub Here : Asked → Map Promise → Map KeptOutcome → Map Import → Node → Type 0
Here w ps os is (node.Object o) = Unit {0}
Here w ps os is (node.Promise p) = Present (map.get ps p)
Here w ps os is (node.Field o path) = Present (map.get os o)
Here w ps os is (node.Import e) = Present (map.get is e.0)
Here w ps os is (node.Pipe q path) = Present (w q.0)
Here w ps os is (node.Broken reason) = Unit {0}

abbrev pub AllIn : (Node → Type 0) → List Node → Type 0
AllIn P ns = (n : Node) → IsAmong n ns → P n

-- What an entry names; without one, nothing.
abbrev pub entry : {X : Type 0} → (ℕ → X → List Node) → ℕ → Option X → List Node
entry f k None = []
entry f k (Some x) = f k x

-- Of all nodes that the entries of a map name.
abbrev pub EachIn : {X : Type 0} → (Node → Type 0) → (ℕ → X → List Node) → Map X → Type 0
EachIn P f m = (k : ℕ) → AllIn P (entry f k (map.get m k))

-- ---- Lists

pub all_none : (P : Node → Type 0) → AllIn P []
all_none P n h = absurd h

pub all_cons : (P : Node → Type 0) (x : Node) (xs : List Node) → P x → AllIn P xs → AllIn P (x ∷ xs)
all_cons P x xs h k n (inl e) = subst P (sym e) h
all_cons P x xs h k n (inr i) = k n i

pub all_one : (P : Node → Type 0) (x : Node) → P x → AllIn P (x ∷ [])
all_one P x h = all_cons P x [] h (all_none P)

pub all_append : (P : Node → Type 0) (xs ys : List Node) → AllIn P xs → AllIn P ys → AllIn P (xs ++ ys)
all_append P xs ys h k n i = by (among_split n xs ys i)
  where
    by : IsAmong n xs ⊎ IsAmong n ys → P n
    by (inl j) = h n j
    by (inr j) = k n j

pub all_left : (P : Node → Type 0) (xs ys : List Node) → AllIn P (xs ++ ys) → AllIn P xs
all_left P xs ys h n i = h n (among_left n xs ys i)

pub all_right : (P : Node → Type 0) (xs ys : List Node) → AllIn P (xs ++ ys) → AllIn P ys
all_right P xs ys h n i = h n (among_right n xs ys i)

-- ---- Maps

-- What holds of an entry, after one more is put.
pub at_put : {X : Type 0} (P : ℕ → Option X → Type 0) (m : Map X) (k : ℕ) (y : X) → P k (Some y) → ((q : ℕ) → P q (map.get m q)) → (q : ℕ) → P q (map.get (map.insert m k y) q)
at_put P m k y a h = tested.at_put P m k y a (λ q e. h q)

pub at_cut : {X : Type 0} (P : ℕ → Option X → Type 0) (m : Map X) (k : ℕ) → P k None → ((q : ℕ) → P q (map.get m q)) → (q : ℕ) → P q (map.get (map.remove m k) q)
at_cut P m k a h = tested.at_cut P m k a (λ q e. h q)

pub each_put : {X : Type 0} (P : Node → Type 0) (f : ℕ → X → List Node) (m : Map X) (k : ℕ) (y : X) → AllIn P (f k y) → EachIn P f m → EachIn P f (map.insert m k y)
each_put P f m k y a h = at_put (λ q o. AllIn P (entry f q o)) m k y a h

pub each_cut : {X : Type 0} (P : Node → Type 0) (f : ℕ → X → List Node) (m : Map X) (k : ℕ) → EachIn P f m → EachIn P f (map.remove m k)
each_cut P f m k h = at_cut (λ q o. AllIn P (entry f q o)) m k (all_none P) h

pub each_at : {X : Type 0} (P : Node → Type 0) (f : ℕ → X → List Node) (m : Map X) (k : ℕ) (x : X) → EachIn P f m → map.get m k ≡ Some x → AllIn P (f k x)
each_at {X} P f m k x h e = subst (λ (o : Option X). AllIn P (entry f k o)) e (h k)

pub each_sub : {X : Type 0} (P Q : Node → Type 0) (f : ℕ → X → List Node) (m : Map X) → ((n : Node) → P n → Q n) → EachIn P f m → EachIn Q f m
each_sub P Q f m g h k n i = g n (h k n i)

-- An entry of a map names only what the map does.
among_map : {X : Type 0} (f : ℕ → X → List Node) (m : Map X) (k : ℕ) (n : Node) → IsAmong n (entry f k (map.get m k)) → IsAmong n (of_map f m)
among_map {X} f m k n h = by (map.get m k) refl h
  where
    by : (o : Option X) → map.get m k ≡ o → IsAmong n (entry f k o) → IsAmong n (of_map f m)
    by None e i = absurd i
    by (Some x) e i = named f k x n m e i

-- ---- Whose an outcome is

abbrev pub HasKept : Asked → Map KeptOutcome → ℕ → Option OwnCall → Type 0
HasKept w os c None = Unit {0}
HasKept w os c (Some (own.Direct q)) = w q.0 ≡ Some c
HasKept w os c (Some (own.Kept o)) = IsFor (caller.Application (record { 0 = c })) (map.get os o)

-- An open outcome that the peer is to be told of has its answer, which was not returned; an answer has its outcome; and
-- a call of the application has its question, or the outcome that is kept.
abbrev pub Open : Map KeptOutcome → Map AnswerEntry → Type 0
Open os ans = (o q : ℕ) → IsOpenFor q (map.get os o) → AnswersWith o (map.get ans q)

abbrev pub Answered : Map AnswerEntry → Map KeptOutcome → Type 0
Answered ans os = (q : ℕ) → HasOutcome os q (map.get ans q)

abbrev pub Kept : Asked → Map OwnCall → Map KeptOutcome → Type 0
Kept w cs os = (c : ℕ) → HasKept w os c (map.get cs c)

-- A level 0 vat has no imports.
abbrev pub NoneAtZero : Level → Map Import → Type 0
NoneAtZero l m = l ≡ Zero → (e : ℕ) → map.get m e ≡ None

-- What a returned question names has each import as often as its Return's descriptors have that id.
abbrev pub Brought : Level → Option Question → Type 0
Brought Zero o = Unit {0}
Brought One None = Unit {0}
Brought One (Some x) = (e : ℕ) → how_many (nat_eq e) (got_of x.returned) ≤ how_many (is_import e) (named_by_returned x.returned)

-- It was received at least once.
abbrev pub Counted : Option Import → Type 0
Counted None = Unit {0}
Counted (Some x) = 0 < x.count

pub positive_put : (m : Map Import) (e : ℕ) (y : Import) → Counted (Some y) → ((k : ℕ) → Counted (map.get m k)) → (k : ℕ) → Counted (map.get (map.insert m e y) k)
positive_put m e y a h = at_put (λ k o. Counted o) m e y a h

-- ---- The state

abbrev pub HereIn : Asked → State → Node → Type 0
HereIn w s n = Here w s.promises s.outcomes s.imports n

abbrev pub Names : (Node → Type 0) → State → Type 0
Names P s =
    EachIn P named_by_reference s.refs
    × EachIn P named_by_embargo s.embargoes
    × EachIn P named_by_promise s.promises
    × EachIn P named_by_outcome s.outcomes
    × EachIn P named_by_question s.questions
    × EachIn P named_by_import s.imports
    × EachIn P named_by_export s.exports
    × EachIn P named_by_answer s.answers

pub renamed : (P Q : Node → Type 0) (s : State) → ((n : Node) → P n → Q n) → Names P s → Names Q s
renamed P Q s g h = (
  each_sub P Q named_by_reference s.refs g h.0,
  each_sub P Q named_by_embargo s.embargoes g h.1,
  each_sub P Q named_by_promise s.promises g h.2,
  each_sub P Q named_by_outcome s.outcomes g h.3,
  each_sub P Q named_by_question s.questions g h.4,
  each_sub P Q named_by_import s.imports g h.5,
  each_sub P Q named_by_export s.exports g h.6,
  each_sub P Q named_by_answer s.answers g h.7,
)

-- The same of what places name.
pub renamed_places : (P Q : Node → Type 0) (s : State) → ((n : Node) → IsAmong n (places s) → P n → Q n) → Names P s → Names Q s
renamed_places P Q s g h = (
  λ k n i. g n (in_refs s n (among_map named_by_reference s.refs k n i)) (h.0 k n i),
  λ k n i. g n (in_embargoes s n (among_map named_by_embargo s.embargoes k n i)) (h.1 k n i),
  λ k n i. g n (in_promises s n (among_map named_by_promise s.promises k n i)) (h.2 k n i),
  λ k n i. g n (in_outcomes s n (among_map named_by_outcome s.outcomes k n i)) (h.3 k n i),
  λ k n i. g n (in_questions s n (among_map named_by_question s.questions k n i)) (h.4 k n i),
  λ k n i. g n (in_imports s n (among_map named_by_import s.imports k n i)) (h.5 k n i),
  λ k n i. g n (in_exports s n (among_map named_by_export s.exports k n i)) (h.6 k n i),
  λ k n i. g n (in_answers s n (among_map named_by_answer s.answers k n i)) (h.7 k n i),
)

-- The same, but for what no place names.
unnamed : (P Q : Node → Type 0) (s : State) (test : Node → Bool) → names s test ≡ 0 → ((n : Node) → test n ≡ false → P n → Q n) → Names P s → Names Q s
unnamed P Q s test z g h = renamed_places P Q s (λ n i. g n (none_among test (places s) z n i)) h

-- Of questions T is known.
pub record Sound (w : Asked) (T : Map Question → Type 0) (s : State) : Type 0 where
  pub names : Names (HereIn w s) s
  pub pending : Open s.outcomes s.answers
  pub answers : Answered s.answers s.outcomes
  pub calls : Kept w s.calls s.outcomes
  pub level : NoneAtZero s.level s.imports
  pub brought : (q : ℕ) → Brought s.level (map.get s.questions q)
  pub counted : (e : ℕ) → Counted (map.get s.imports e)
  pub asked : T s.questions

-- The questions that are said to be held are.
abbrev pub Fine : Asked → State → Type 0
Fine w s = Sound w (Tied w) s

-- Nothing that was there is gone.
abbrev pub Grows : Asked → State → State → Type 0
Grows w s t = (n : Node) → HereIn w s n → HereIn w t n

-- ---- One table changes

module _ {w : Asked} {T : Map Question → Type 0} (s : State) where
  pub set_refs : (m : Map Reference) → Sound w T s → EachIn (HereIn w s) named_by_reference m → Sound w T (record s { refs = m })
  set_refs m h a = let n = h.names in record { names = (a, n.1, n.2, n.3, n.4, n.5, n.6, n.7); pending = h.pending; answers = h.answers; calls = h.calls; level = h.level; brought = h.brought; counted = h.counted; asked = h.asked }

  pub set_embargoes : (m : Map Embargo) → Sound w T s → EachIn (HereIn w s) named_by_embargo m → Sound w T (record s { embargoes = m })
  set_embargoes m h a = let n = h.names in record { names = (n.0, a, n.2, n.3, n.4, n.5, n.6, n.7); pending = h.pending; answers = h.answers; calls = h.calls; level = h.level; brought = h.brought; counted = h.counted; asked = h.asked }

  pub set_questions : {U : Map Question → Type 0} (m : Map Question) → Sound w T s → EachIn (HereIn w s) named_by_question m → ((q : ℕ) → Brought s.level (map.get m q)) → U m → Sound w U (record s { questions = m })
  set_questions m h a b c = let n = h.names in record { names = (n.0, n.1, n.2, n.3, a, n.5, n.6, n.7); pending = h.pending; answers = h.answers; calls = h.calls; level = h.level; brought = b; counted = h.counted; asked = c }

  pub set_imports : (m : Map Import) → Sound w T s → Grows w s (record s { imports = m }) → EachIn (HereIn w (record s { imports = m })) named_by_import m → NoneAtZero s.level m → ((e : ℕ) → Counted (map.get m e)) → Sound w T (record s { imports = m })
  set_imports m h g a b c =
      let n = renamed (HereIn w s) (HereIn w (record s { imports = m })) s g h.names in
      record { names = (n.0, n.1, n.2, n.3, n.4, a, n.6, n.7); pending = h.pending; answers = h.answers; calls = h.calls; level = b; brought = h.brought; counted = c; asked = h.asked }

  pub set_exports : (m : Map Export) → Sound w T s → EachIn (HereIn w s) named_by_export m → Sound w T (record s { exports = m })
  set_exports m h a = let n = h.names in record { names = (n.0, n.1, n.2, n.3, n.4, n.5, a, n.7); pending = h.pending; answers = h.answers; calls = h.calls; level = h.level; brought = h.brought; counted = h.counted; asked = h.asked }

  pub set_answers : (m : Map AnswerEntry) → Sound w T s → EachIn (HereIn w s) named_by_answer m → Open s.outcomes m → Answered m s.outcomes → Sound w T (record s { answers = m })
  set_answers m h c a b = let n = h.names in record { names = (n.0, n.1, n.2, n.3, n.4, n.5, n.6, c); pending = a; answers = b; calls = h.calls; level = h.level; brought = h.brought; counted = h.counted; asked = h.asked }

  pub set_calls : (m : Map OwnCall) → Sound w T s → Kept w m s.outcomes → Sound w T (record s { calls = m })
  set_calls m h a = record { names = h.names; pending = h.pending; answers = h.answers; calls = a; level = h.level; brought = h.brought; counted = h.counted; asked = h.asked }

-- More questions are known to be held.
has_asked : (w v : Asked) (os : Map KeptOutcome) (c : ℕ) (o : Option OwnCall) → ((q k : ℕ) → w q ≡ Some k → v q ≡ Some k) → HasKept w os c o → HasKept v os c o
has_asked w v os c None g h = tt
has_asked w v os c (Some (own.Direct q)) g h = g q.0 c h
has_asked w v os c (Some (own.Kept o)) g h = h

present_more : (o p : Option ℕ) → ((k : ℕ) → o ≡ Some k → p ≡ Some k) → Present o → Present p
present_more None p g h = absurd h
present_more (Some k) p g h = subst (λ (x : Option ℕ). Present x) (sym (g k refl)) tt

more_here : (w v : Asked) (s : State) → ((q k : ℕ) → w q ≡ Some k → v q ≡ Some k) → (n : Node) → HereIn w s n → HereIn v s n
more_here w v s g (node.Object o) h = tt
more_here w v s g (node.Promise p) h = h
more_here w v s g (node.Field o path) h = h
more_here w v s g (node.Import e) h = h
more_here w v s g (node.Pipe q path) h = present_more (w q.0) (v q.0) (g q.0) h
more_here w v s g (node.Broken reason) h = tt

pub more_asked : {T : Map Question → Type 0} (w v : Asked) (U : Map Question → Type 0) (s : State) → Sound w T s → ((q k : ℕ) → w q ≡ Some k → v q ≡ Some k) → U s.questions → Sound v U s
more_asked w v U s h g u = record {
  names = renamed (HereIn w s) (HereIn v s) s (more_here w v s g) h.names;
  pending = h.pending;
  answers = h.answers;
  calls = λ c. has_asked w v s.outcomes c (map.get s.calls c) g (h.calls c);
  level = h.level;
  brought = h.brought;
  counted = h.counted;
  asked = u;
}

-- The questions that are held are so by what they are.
abbrev pub Good : State → Type 0
Good s = Fine (askers s.questions) s

pub good : {w : Asked} (s : State) → Fine w s → Good s
good {w} s h = more_asked w (askers s.questions) (Tied (askers s.questions)) s h h.asked (λ q c e. e)

-- ---- A promise or an outcome changes

pub present_put : {X : Type 0} (m : Map X) (k : ℕ) (y : X) (q : ℕ) → Present (map.get m q) → Present (map.get (map.insert m k y) q)
present_put {X} m k y q h = subst (λ (o : Option X). Present o) (sym (get_put m k y q)) (by (nat_eq q k))
  where
    by : (b : Bool) → Present (cond b (Some y) (map.get m q))
    by true = tt
    by false = h

module _ (w : Asked) (s : State) where
  pub grows_promise : (p : ℕ) (y : Promise) → Grows w s (record s { promises = map.insert s.promises p y })
  grows_promise p y (node.Object o) h = tt
  grows_promise p y (node.Promise q) h = present_put s.promises p y q h
  grows_promise p y (node.Field o path) h = h
  grows_promise p y (node.Import e) h = h
  grows_promise p y (node.Pipe q path) h = h
  grows_promise p y (node.Broken reason) h = tt

  pub grows_outcome : (o : ℕ) (y : KeptOutcome) → Grows w s (record s { outcomes = map.insert s.outcomes o y })
  grows_outcome o y (node.Object x) h = tt
  grows_outcome o y (node.Promise p) h = h
  grows_outcome o y (node.Field x path) h = present_put s.outcomes o y x h
  grows_outcome o y (node.Import e) h = h
  grows_outcome o y (node.Pipe q path) h = h
  grows_outcome o y (node.Broken reason) h = tt

  pub grows_import : (e : ℕ) (y : Import) → Grows w s (record s { imports = map.insert s.imports e y })
  grows_import e y (node.Object o) h = tt
  grows_import e y (node.Promise p) h = h
  grows_import e y (node.Field o path) h = h
  grows_import e y (node.Import k) h = present_put s.imports e y k.0 h
  grows_import e y (node.Pipe q path) h = h
  grows_import e y (node.Broken reason) h = tt

module _ {w : Asked} {T : Map Question → Type 0} (s : State) where
  pub set_promise : (p : ℕ) (y : Promise) → Sound w T s → AllIn (HereIn w (record s { promises = map.insert s.promises p y })) (named_by_promise p y) → Sound w T (record s { promises = map.insert s.promises p y })
  set_promise p y h a =
      let P = HereIn w (record s { promises = map.insert s.promises p y }) in
      let n = renamed (HereIn w s) P s (grows_promise w s p y) h.names in
      record { names = (n.0, n.1, each_put P named_by_promise s.promises p y a n.2, n.3, n.4, n.5, n.6, n.7); pending = h.pending; answers = h.answers; calls = h.calls; level = h.level; brought = h.brought; counted = h.counted; asked = h.asked }

pub has_outcome : (os ts : Map KeptOutcome) (q : ℕ) (a : Option AnswerEntry) → ((who : Caller) (k : ℕ) → IsFor who (map.get os k) → IsFor who (map.get ts k)) → HasOutcome os q a → HasOutcome ts q a
has_outcome os ts q None f h = tt
has_outcome os ts q (Some a) f h = f (peer q) a.outcome h

pub has_kept : (w : Asked) (os ts : Map KeptOutcome) (c : ℕ) (a : Option OwnCall) → ((who : Caller) (k : ℕ) → IsFor who (map.get os k) → IsFor who (map.get ts k)) → HasKept w os c a → HasKept w ts c a
has_kept w os ts c None f h = tt
has_kept w os ts c (Some (own.Direct q)) f h = h
has_kept w os ts c (Some (own.Kept o)) f h = f _ o h

-- It is an outcome of the same caller, if there was one; and open for the peer only if that answer waits for it.
pub set_outcome : {w : Asked} {T : Map Question → Type 0} (s : State) (o : ℕ) (y : KeptOutcome) → Sound w T s → AllIn (HereIn w (record s { outcomes = map.insert s.outcomes o y })) (named_by_outcome o y) → ((who : Caller) → IsFor who (map.get s.outcomes o) → y.caller ≡ who) → ((q : ℕ) → IsOpenFor q (Some y) → AnswersWith o (map.get s.answers q)) → Sound w T (record s { outcomes = map.insert s.outcomes o y })
set_outcome {w} s o y h a b c =
    let P = HereIn w (record s { outcomes = map.insert s.outcomes o y }) in
    let n = renamed (HereIn w s) P s (grows_outcome w s o y) h.names in
    record {
      names = (n.0, n.1, n.2, each_put P named_by_outcome s.outcomes o y a n.3, n.4, n.5, n.6, n.7);
      pending = λ k q. at_put (λ j x. IsOpenFor q x → AnswersWith j (map.get s.answers q)) s.outcomes o y (c q) (λ j. h.pending j q) k;
      answers = λ q. has_outcome s.outcomes (map.insert s.outcomes o y) q (map.get s.answers q) still (h.answers q);
      calls = λ k. has_kept w s.outcomes (map.insert s.outcomes o y) k (map.get s.calls k) still (h.calls k);
      level = h.level;
      brought = h.brought;
      counted = h.counted;
      asked = h.asked;
    }
  where
    still : (who : Caller) (k : ℕ) → IsFor who (map.get s.outcomes k) → IsFor who (map.get (map.insert s.outcomes o y) k)
    still who k = at_put (λ j x. IsFor who (map.get s.outcomes j) → IsFor who x) s.outcomes o y (b who) (λ j i. i) k

-- ---- Something goes

module _ (w : Asked) (s : State) where
  keeps_promises : (p : ℕ) (n : Node) → is_promise p n ≡ false → HereIn w s n → Here w (map.remove s.promises p) s.outcomes s.imports n
  keeps_promises p (node.Object o) e h = tt
  keeps_promises p (node.Promise q) e h = subst (λ (o : Option Promise). Present o) (sym (get_left s.promises p q e)) h
  keeps_promises p (node.Field o path) e h = h
  keeps_promises p (node.Import k) e h = h
  keeps_promises p (node.Pipe q path) e h = h
  keeps_promises p (node.Broken reason) e h = tt

  keeps_outcomes : (o : ℕ) (n : Node) → is_field o n ≡ false → HereIn w s n → Here w s.promises (map.remove s.outcomes o) s.imports n
  keeps_outcomes o (node.Object x) e h = tt
  keeps_outcomes o (node.Promise p) e h = h
  keeps_outcomes o (node.Field q path) e h = subst (λ (x : Option KeptOutcome). Present x) (sym (get_left s.outcomes o q e)) h
  keeps_outcomes o (node.Import k) e h = h
  keeps_outcomes o (node.Pipe q path) e h = h
  keeps_outcomes o (node.Broken reason) e h = tt

  keeps_imports : (e : ℕ) (n : Node) → is_import e n ≡ false → HereIn w s n → Here w s.promises s.outcomes (map.remove s.imports e) n
  keeps_imports e (node.Object o) f h = tt
  keeps_imports e (node.Promise p) f h = h
  keeps_imports e (node.Field o path) f h = h
  keeps_imports e (node.Import k) f h = subst (λ (x : Option Import). Present x) (sym (get_left s.imports e k.0 f)) h
  keeps_imports e (node.Pipe q path) f h = h
  keeps_imports e (node.Broken reason) f h = tt

pub promise_goes : {w : Asked} {T : Map Question → Type 0} (s : State) (p : ℕ) → Sound w T s → IsLoosePromise s p (map.get s.promises p) → Sound w T (record s { promises = map.remove s.promises p })
promise_goes {w} {T} s p h l = by (map.get s.promises p) l
  where
    by : (o : Option Promise) → IsLoosePromise s p o → Sound w T (record s { promises = map.remove s.promises p })
    by None i = absurd i
    by (Some (promise.Open calls)) i = absurd i
    by (Some (promise.Fixed to)) z =
        let P = Here w (map.remove s.promises p) s.outcomes s.imports in
        let n = unnamed (HereIn w s) P s (is_promise p) z (keeps_promises w s p) h.names in
        record { names = (n.0, n.1, each_cut P named_by_promise s.promises p n.2, n.3, n.4, n.5, n.6, n.7); pending = h.pending; answers = h.answers; calls = h.calls; level = h.level; brought = h.brought; counted = h.counted; asked = h.asked }

pub import_goes : {w : Asked} {T : Map Question → Type 0} (s : State) (e : ℕ) → Sound w T s → IsLooseImport s e (map.get s.imports e) → Sound w T (record s { imports = map.remove s.imports e })
import_goes {w} {T} s e h l = by (map.get s.imports e) l
  where
    by : (o : Option Import) → IsLooseImport s e o → Sound w T (record s { imports = map.remove s.imports e })
    by None i = absurd i
    by (Some x) z =
        let P = Here w s.promises s.outcomes (map.remove s.imports e) in
        let n = unnamed (HereIn w s) P s (is_import e) z (keeps_imports w s e) h.names in
        record { names = (n.0, n.1, n.2, n.3, n.4, each_cut P named_by_import s.imports e n.5, n.6, n.7); pending = h.pending; answers = h.answers; calls = h.calls; level = λ f. at_cut (λ k o. o ≡ None) s.imports e refl (h.level f); brought = h.brought; counted = at_cut (λ k o. Counted o) s.imports e tt h.counted; asked = h.asked }

-- Nobody's outcome goes that has an answer or a call.
module _ {w : Asked} {T : Map Question → Type 0} (s : State) (o : ℕ) (h : Sound w T s) (x : KeptOutcome) (e : map.get s.outcomes o ≡ Some x) (done : CallerIsDone s o x.caller) where
  -- An answer has another one.
  answer_has : (q : ℕ) (a : Option AnswerEntry) → map.get s.answers q ≡ a → HasOutcome s.outcomes q a → HasOutcome (map.remove s.outcomes o) q a
  answer_has q None f i = tt
  answer_has q (Some a) f i = at (nat_eq a.outcome o) refl
    where
      at : (b : Bool) → nat_eq a.outcome o ≡ b → IsFor (peer q) (map.get (map.remove s.outcomes o) a.outcome)
      at false g = subst (IsFor (peer q)) (sym (get_left s.outcomes o a.outcome g)) i
      at true g =
          let j : a.outcome ≡ o = equal a.outcome o g in
          let k : x.caller ≡ peer q = subst (IsFor (peer q)) e (subst (λ (m : ℕ). IsFor (peer q) (map.get s.outcomes m)) j i) in
          let other : AnswerIsOther o (Some a) = subst (AnswerIsOther o) f (subst (CallerIsDone s o) k done) in
          absurd (other j)

  call_has : (c : ℕ) (a : Option OwnCall) → map.get s.calls c ≡ a → HasKept w s.outcomes c a → HasKept w (map.remove s.outcomes o) c a
  call_has c None f i = tt
  call_has c (Some (own.Direct q)) f i = i
  call_has c (Some (own.Kept y)) f i = at (nat_eq y o) refl
    where
      at : (b : Bool) → nat_eq y o ≡ b → IsFor (caller.Application (record { 0 = c })) (map.get (map.remove s.outcomes o) y)
      at false g = subst (IsFor _) (sym (get_left s.outcomes o y g)) i
      at true g =
          let j : y ≡ o = equal y o g in
          let k : x.caller ≡ caller.Application (record { 0 = c }) = subst (IsFor _) e (subst (λ (m : ℕ). IsFor (caller.Application (record { 0 = c })) (map.get s.outcomes m)) j i) in
          let none : map.get s.calls c ≡ None = subst (CallerIsDone s o) k done in
          let bad : Some (own.Kept y) ≡ None = sym f ∙ none in
          cc

  gone : names s (is_field o) ≡ 0 → Sound w T (record s { outcomes = map.remove s.outcomes o })
  gone z =
      let P = Here w s.promises (map.remove s.outcomes o) s.imports in
      let n = unnamed (HereIn w s) P s (is_field o) z (keeps_outcomes w s o) h.names in
      record {
        names = (n.0, n.1, n.2, each_cut P named_by_outcome s.outcomes o n.3, n.4, n.5, n.6, n.7);
        pending = λ k q. at_cut (λ j y. IsOpenFor q y → AnswersWith j (map.get s.answers q)) s.outcomes o (λ i. absurd i) (λ j. h.pending j q) k;
        answers = λ q. answer_has q (map.get s.answers q) refl (h.answers q);
        calls = λ c. call_has c (map.get s.calls c) refl (h.calls c);
        level = h.level;
        brought = h.brought;
        counted = h.counted;
        asked = h.asked;
      }

pub outcome_goes : {w : Asked} {T : Map Question → Type 0} (s : State) (o : ℕ) → Sound w T s → IsLooseOutcome s o (map.get s.outcomes o) → Sound w T (record s { outcomes = map.remove s.outcomes o })
outcome_goes {w} {T} s o h l = by (map.get s.outcomes o) refl l
  where
    known : (x : KeptOutcome) → map.get s.outcomes o ≡ Some x → (v : Option Value) → IsLooseValue s o x v → Sound w T (record s { outcomes = map.remove s.outcomes o })
    known x e None i = absurd i
    known x e (Some v) i = gone s o h x e i.1 i.2

    by : (y : Option KeptOutcome) → map.get s.outcomes o ≡ y → IsLooseOutcome s o y → Sound w T (record s { outcomes = map.remove s.outcomes o })
    by None e i = absurd i
    by (Some x) e i = known x e x.value i

-- ---- Where a node leads is there

cap_here : (P : Node → Type 0) (cs : List Node) (a : CapAt) → ((reason : Reason) → P (node.Broken reason)) → AllIn P cs → P (node_of_cap cs a)
cap_here P cs Null b h = b _
cap_here P cs NotCap b h = b _
cap_here P cs (Cap i) b h = at cs i h
  where
    at : (cs : List Node) (i : ℕ) → AllIn P cs → P (node_of_cap cs (Cap i))
    at [] i h = b _
    at (c ∷ cs) zero h = h c (inl refl)
    at (c ∷ cs) (suc i) h = at cs i (λ n j. h n (inr j))

module _ {w : Asked} {T : Map Question → Type 0} (s : State) (h : Sound w T s) where
  next_here : (n : Node) → HereIn w s n → HereIn w s (next s n)
  next_here (node.Object o) k = tt
  next_here (node.Promise p) k = by (map.get s.promises p) refl
    where
      by : (o : Option Promise) → map.get s.promises p ≡ o → HereIn w s (unwrap_or (promise_link o) (node.Promise p))
      by None e = k
      by (Some (promise.Open calls)) e = k
      by (Some (promise.Fixed to)) e = let n = h.names in each_at (HereIn w s) named_by_promise s.promises p (promise.Fixed to) n.2 e to (inl refl)
  next_here (node.Field o path) k = by (map.get s.outcomes o) refl
    where
      known : (x : KeptOutcome) → map.get s.outcomes o ≡ Some x → (v : Option Value) → x.value ≡ v → HereIn w s (unwrap_or (field_link path v) (node.Field o path))
      known x e None f = k
      known x e (Some (value.Exception exception)) f = tt
      known x e (Some (value.Results payload caps)) f =
          let n = h.names in
          let a = all_left (HereIn w s) (named_by_value x.value) (named_by_held x.waiting) (each_at (HereIn w s) named_by_outcome s.outcomes o x n.3 e) in
          cap_here (HereIn w s) caps (cap_at payload path) (λ reason. tt) (subst (λ (v : Option Value). AllIn (HereIn w s) (named_by_value v)) f a)

      by : (x : Option KeptOutcome) → map.get s.outcomes o ≡ x → HereIn w s (unwrap_or (field_link path (value_of x)) (node.Field o path))
      by None e = k
      by (Some x) e = known x e x.value refl
  next_here (node.Import e) k = k
  next_here (node.Pipe q path) k = k
  next_here (node.Broken reason) k = tt

  pub settle_here : (n : Node) → HereIn w s n → HereIn w s (settle s n)
  settle_here = holds_where_it_settles (HereIn w s) s next_here
