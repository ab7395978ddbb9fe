-- In each state to which a vat comes the nodes that places name are there, and each import is named.
use Rattle.std.proofs.Common.{◌≡◌, ℕ, zero, suc, ◌<◌, inl, inr, Bool, true, false, cond, IsSome, List, [], ◌∷◌, Option, None, Some, Result, refl, sym, subst, arith}
use Rattle.std.specs.Ordering.{nat_cmp}
use Rattle.std.specs.FinMap as map
use Rattle.laws_acts.specs.rpc_msg.specs.declared.ids.Vat.{Vat}
use Rattle.laws_acts.specs.rpc_msg.specs.declared.ids.ObjectId.{ObjectId}
use Rattle.laws_acts.specs.rpc_msg.specs.declared.message.Message.{Message}
use Rattle.laws_acts.specs.rpc_machine.specs.declared.command.Level.{Level}
use Rattle.laws_acts.specs.rpc_machine.specs.declared.calls.OwnCall.{OwnCall}
use Rattle.laws_acts.specs.rpc_machine.specs.declared.calls.OwnCall.TheVariants as own
use Rattle.laws_acts.specs.rpc_machine.specs.declared.entries.Role.{Role}
use Rattle.laws_acts.specs.rpc_machine.specs.declared.entries.Role.TheVariants as role
use Rattle.laws_acts.specs.rpc_machine.specs.declared.entries.Finishing.{Finishing}
use Rattle.laws_acts.specs.rpc_machine.specs.declared.entries.Finishing.TheVariants as finishing
use Rattle.laws_acts.specs.rpc_machine.specs.declared.entries.Question.{Question}
use Rattle.laws_acts.specs.rpc_machine.specs.declared.entries.Import.{Import}
use Rattle.finite_maps.specs.Tally.{Map}
use Rattle.laws_acts.specs.rpc_machine.specs.declared.node.Node.{Node}
use Rattle.laws_acts.specs.rpc_machine.specs.declared.node.Node.TheVariants as node
use Rattle.laws_acts.specs.rpc_machine.specs.declared.command.Command.{Command}
use Rattle.laws_acts.specs.rpc_machine.specs.declared.command.Granted.{Granted}
use Rattle.laws_acts.specs.rpc_machine.specs.declared.command.Refusal.{Refusal}
use Rattle.laws_acts.specs.rpc_machine.specs.declared.command.Effects.{Effects}
use Rattle.laws_acts.specs.rpc_machine.specs.State.{State, start}
use Rattle.laws_acts.specs.rpc_machine.specs.Places.{named_by_reference, named_by_embargo, named_by_promise, named_by_outcome, named_by_question, named_by_import, named_by_export, named_by_answer, places, names}
use Rattle.laws_acts.specs.rpc_machine.specs.Nodes.{is_import}
use Rattle.laws_acts.specs.rpc_machine.specs.Collecting.{IsLoosePromise, IsLooseOutcome, IsLooseImport, IsTight}
use Rattle.laws_acts.specs.rpc_machine.specs.Sweeping.{IsNotSent}
use Rattle.laws_acts.specs.rpc_machine.specs.Lists.{how_many, of_map}
use Rattle.laws_acts.specs.rpc_machine.specs.Down.{IsUnchanged, ShutsFrom, fallen}
use Rattle.laws_acts.specs.rpc_machine.specs.Steps.{Obeys, Refuses, LacksMemory, GoesDown, Shuts, IsDone, Receives, WasDown, FaultsBy, LacksRoom, IsHandled}
use Rattle.laws_steps.specs.Settled.{IsThere, IsAmong, AreThere}
use Rattle.laws_steps.specs.NodesThere.{ComesTo, Stays, Commanded, Received, Fell, IsReached, Stands, IsWhole, NodesAreThere}
use Rattle.laws_steps.proofs.Among.{by_entry, where_named}
use Rattle.finite_maps.proofs.Tested.{equal}
use Rattle.laws_steps.specs.Callers.{IsDirectFor, IsAskedFor, HasSource, HasOutcome, IsOpenFor, AnswersWith}
use Rattle.laws_steps.proofs.NamedNodes.{Present, Asked, asker, asker_by, askers, AllIn, entry, EachIn, each_at, all_none, HasKept, Brought, Counted, HereIn, Fine}
use Rattle.laws_steps.proofs.HeldQuestions.{brings_nothing}
use Rattle.laws_steps.proofs.Swept.{Whole}
use Rattle.laws_steps.proofs.NamedMessages.{does, handles}

-- ---- A new vat

pub no_entry : {X : Type 0} (P : Option X → Type 0) (k : ℕ) → P None → (let m : Map X = map.empty in P (map.get m k))
no_entry P k h = rw (map.get-empty nat_cmp k) h

-- Of a vat whose tables are empty, whatever it is.
pub empty_whole : (v : Vat) (l : Level) (b : Option ObjectId) (down : Option ℕ) → Whole (record (start v l b) { down = down })
empty_whole v l b down =
    let s : State = record (start v l b) { down = down } in
    let w = askers s.questions in
    let P = HereIn w s in
    let fine : Fine w s = record {
      names = (
        λ k. no_entry (λ o. AllIn P (entry named_by_reference k o)) k (all_none P),
        λ k. no_entry (λ o. AllIn P (entry named_by_embargo k o)) k (all_none P),
        λ k. no_entry (λ o. AllIn P (entry named_by_promise k o)) k (all_none P),
        λ k. no_entry (λ o. AllIn P (entry named_by_outcome k o)) k (all_none P),
        λ k. no_entry (λ o. AllIn P (entry named_by_question k o)) k (all_none P),
        λ k. no_entry (λ o. AllIn P (entry named_by_import k o)) k (all_none P),
        λ k. no_entry (λ o. AllIn P (entry named_by_export k o)) k (all_none P),
        λ k. no_entry (λ o. AllIn P (entry named_by_answer k o)) k (all_none P),
      );
      pending = λ o q. no_entry (λ x. IsOpenFor q x → AnswersWith o (map.get s.answers q)) o (λ h. absurd h);
      answers = λ q. no_entry (HasOutcome s.outcomes q) q tt;
      calls = λ c. no_entry (HasKept w s.outcomes c) c tt;
      level = λ z e. map.get-empty nat_cmp e;
      brought = λ q. no_entry (Brought l) q (brings_nothing l);
      counted = λ e. no_entry Counted e tt;
      asked = λ q c e. e;
    } in
    let tight : IsTight s = record {
      promises = λ p. no_entry (λ o. IsLoosePromise s p o → ⊥) p (λ h. h);
      outcomes = λ p. no_entry (λ o. IsLooseOutcome s p o → ⊥) p (λ h. h);
      imports = λ p. no_entry (λ o. IsLooseImport s p o → ⊥) p (λ h. h);
    } in
    record { fine = fine; tight = tight }

-- One that fell keeps nothing.
fallen_whole : (s : State) (n : ℕ) → Whole (fallen s n)
fallen_whole s n = empty_whole s.vat s.level s.bootstrap (Some n)

-- ---- Steps

unchanged : (s : State) (x : Effects) (t : State) → Whole s → IsUnchanged s x t → Whole t
unchanged s x t i h = rw h.new_is i

fell : (s : State) (n : ℕ) (t : State) → t ≡ fallen s n → Whole t
fell s n t e = rw e (fallen_whole s n)

shut : (s : State) (n : ℕ) (o : Option ℕ) (x : Effects) (t : State) → Whole s → ShutsFrom s n o x t → Whole t
shut s n None x t i h = fell s n t h.new_is
shut s n (Some k) x t i h = unchanged s x t i h

obeys_whole : (s : State) (c : Command) (a : Result Granted Refusal) (x : Effects) (t : State) → Whole s → Obeys s c a x t → Whole t
obeys_whole s c a x t i (Refuses r f g u) = unchanged s x t i u
obeys_whole s c a x t i (LacksMemory f g k u) = unchanged s x t i u
obeys_whole s c a x t i (GoesDown f g k u) = fell s 33 t u.new_is
obeys_whole s c a x t i (Shuts n f g h) = shut s n s.down x t i h
obeys_whole s c a x t i (IsDone given f g h w) = does s c given x t i h

receives_whole : (s : State) (m : Message) (x : Effects) (t : State) → Whole s → Receives s m x t → Whole t
receives_whole s m x t i (WasDown d u) = unchanged s x t i u
receives_whole s m x t i (FaultsBy n d f g h) = fell s n t h
receives_whole s m x t i (LacksRoom d f u) = fell s 33 t u.new_is
receives_whole s m x t i (IsHandled d f h w) = handles s m x t i f h

comes_whole : (t s : State) → Whole s → ComesTo t s → Whole t
comes_whole t s i Stays = i
comes_whole t s i (Commanded {mid = mid} c a x h more) = comes_whole t mid (obeys_whole s c a x mid i h) more
comes_whole t s i (Received {mid = mid} m x h more) = comes_whole t mid (receives_whole s m x mid i h) more
comes_whole t s i (Fell n more) = comes_whole t (fallen s n) (fallen_whole s n) more

-- ---- The places

is_some_of : {X : Type 0} (o : Option X) → Present o → IsSome o
is_some_of None h = absurd h
is_some_of (Some x) h = refl

held_for : (c : ℕ) (o : Option Question) → asker o ≡ Some c → IsAskedFor c o
held_for c None h = cc
held_for c (Some x) h = by x.role x.finish h
  where
    by : (r : Role) (f : Finishing) → asker_by f r ≡ Some c → IsDirectFor c r × IsNotSent f
    by (role.Direct k) finishing.Owed h = (let e : k.0 ≡ c = cc in e, tt)
    by (role.Direct k) finishing.Waived h = (let e : k.0 ≡ c = cc in e, tt)
    by (role.Direct k) finishing.Sent h = absurd (let bad : None ≡ Some c = h in cc)
    by (role.Relay o) finishing.Owed h = absurd (let bad : None ≡ Some c = h in cc)
    by (role.Relay o) finishing.Waived h = absurd (let bad : None ≡ Some c = h in cc)
    by (role.Relay o) finishing.Sent h = absurd (let bad : None ≡ Some c = h in cc)

-- What is here stands.
pub stands : {w : Asked} (s : State) (n : Node) → Fine w s → HereIn w s n → Stands s n
stands s (node.Object o) i h = tt
stands s (node.Promise p) i h = is_some_of (map.get s.promises p) h
stands s (node.Field o path) i h = is_some_of (map.get s.outcomes o) h
stands s (node.Import e) i h = is_some_of (map.get s.imports e.0) h
stands {w} s (node.Pipe q path) i h = by (w q.0) refl h
  where
    by : (o : Option ℕ) → w q.0 ≡ o → Present o → (c : ℕ) × IsAskedFor c (map.get s.questions q.0)
    by None e k = absurd k
    by (Some c) e k = (c, held_for c (map.get s.questions q.0) (i.asked q.0 c e))
stands s (node.Broken reason) i h = tt

of_part : {X : Type 0} (s : State) (f : ℕ → X → _) (m : Map X) (n : Node) → Whole s → EachIn (HereIn (askers s.questions) s) f m → IsAmong n (of_map f m) → Stands s n
of_part s f m n whole h i =
    let r = by_entry f n m i in
    let k = r.0 in
    let x = r.1 in
    let e = r.2 in
    stands s n whole.fine (each_at (HereIn (askers s.questions) s) f m k x h e n r.3)

all_stand : (s : State) → Whole s → (n : Node) → IsAmong n (places s) → Stands s n
all_stand s h n i =
    let a = h.fine.names in
    where_named s n
    (of_part s named_by_reference s.refs n h a.0)
    (of_part s named_by_embargo s.embargoes n h a.1)
    (of_part s named_by_promise s.promises n h a.2)
    (of_part s named_by_outcome s.outcomes n h a.3)
    (of_part s named_by_question s.questions n h a.4)
    (of_part s named_by_import s.imports n h a.5)
    (of_part s named_by_export s.exports n h a.6)
    (of_part s named_by_answer s.answers n h a.7)
    i

-- A node that is counted is among them.
counted_among : (test : Node → Bool) (ns : List Node) → 0 < how_many test ns → (n : Node) × IsAmong n ns × (test n ≡ true)
counted_among test [] h = absurd (omega (arith, h))
counted_among test (m ∷ ms) h = by (counted_among test ms) (test m) refl h
  where
    by : (0 < how_many test ms → (n : Node) × IsAmong n ms × (test n ≡ true)) → (b : Bool) → test m ≡ b → 0 < cond b (suc (how_many test ms)) (how_many test ms) → (n : Node) × IsAmong n (m ∷ ms) × (test n ≡ true)
    by rest true e g = (m, inl refl, e)
    by rest false e g = let r = rest g in (r.0, inr r.1, r.2)

module _ (s : State) (h : Whole s) (e : ℕ) where
  named_stands : (n : Node) → is_import e n ≡ true → Stands s n → IsSome (map.get s.imports e)
  named_stands (node.Import i) f k = subst (λ (j : ℕ). IsSome (map.get s.imports j)) (equal i.0 e f) k
  named_stands (node.Object o) f k = cc
  named_stands (node.Promise p) f k = cc
  named_stands (node.Field o path) f k = cc
  named_stands (node.Pipe q path) f k = cc
  named_stands (node.Broken reason) f k = cc

  import_there : 0 < names s (is_import e) → IsSome (map.get s.imports e)
  import_there g = let r = counted_among (is_import e) (places s) g in named_stands r.0 r.2 (all_stand s h r.0 r.1)

  import_named : IsSome (map.get s.imports e) → 0 < names s (is_import e)
  import_named g = by (names s (is_import e)) refl
    where
      loose : (o : Option Import) → map.get s.imports e ≡ o → IsSome o → names s (is_import e) ≡ 0 → ⊥
      loose None f k z = cc
      loose (Some x) f k z = h.tight.imports e (subst (IsLooseImport s e) (sym f) z)

      by : (n : ℕ) → names s (is_import e) ≡ n → 0 < n
      by zero z = absurd (loose (map.get s.imports e) refl g z)
      by (suc n) z = omega arith

has_source : (s : State) (c : ℕ) (o : Option OwnCall) → HasKept (askers s.questions) s.outcomes c o → HasSource s c o
has_source s c None h = tt
has_source s c (Some (own.Direct q)) h = held_for c (map.get s.questions q.0) h
has_source s c (Some (own.Kept o)) h = h

is_whole : (s : State) → Whole s → IsWhole s
is_whole s h = record {
  there = all_stand s h;
  imports = λ e. (import_named s h e, import_there s h e);
  counts = λ e x f. subst Counted f (h.fine.counted e);
  callers = record { calls = λ c. has_source s c (map.get s.calls c) (h.fine.calls c); answers = h.fine.answers; outcomes = h.fine.pending };
}

pub are_there : NodesAreThere
are_there s h = is_whole s (comes_whole s (start h.0 h.1 h.2) (empty_whole h.0 h.1 h.2 None) h.3)

-- So the promise or the outcome is.
pub own_there : (s : State) (n : Node) → Stands s n → IsThere s n
own_there s (node.Object o) h = tt
own_there s (node.Promise p) h = h
own_there s (node.Field o path) h = h
own_there s (node.Import e) h = tt
own_there s (node.Pipe q path) h = tt
own_there s (node.Broken reason) h = tt

all_there : (s : State) → IsReached s → AreThere s
all_there s h n i = let k = are_there s h in own_there s n (k.there n i)

-- ---- One step more

more : (t s u : State) → ComesTo t s → ComesTo u t → ComesTo u s
more t s u Stays h = h
more t s u (Commanded {mid = mid} c a x o rest) h = Commanded c a x o (more t mid u rest h)
more t s u (Received {mid = mid} m x o rest) h = Received m x o (more t mid u rest h)
more t s u (Fell n rest) h = Fell n (more t (fallen s n) u rest h)

pub go_on : (s t : State) → IsReached s → ComesTo t s → IsReached t
go_on s t h k = (h.0, h.1, h.2, more s (start h.0 h.1 h.2) t h.3 k)

pub after_command : (s : State) (c : Command) (a : Result Granted Refusal) (x : Effects) (t : State) → IsReached s → Obeys s c a x t → AreThere t
after_command s c a x t h o = all_there t (go_on s t h (Commanded c a x o Stays))

pub after_message : (s : State) (m : Message) (x : Effects) (t : State) → IsReached s → Receives s m x t → AreThere t
after_message s m x t h o = all_there t (go_on s t h (Received m x o Stays))

pub reached : (s : State) → IsReached s → Whole s
reached s h = comes_whole s (start h.0 h.1 h.2) (empty_whole h.0 h.1 h.2 None) h.3
