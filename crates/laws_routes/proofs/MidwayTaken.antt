-- A message comes off the link, and its descriptors are taken: it is still so in the middle of the step.
use Rattle.std.specs.FinMap as map
use Rattle.std.proofs.Common.{◌≡◌, ◌⊎◌, inl, inr, ℕ, zero, suc, Bool, true, false, ◌||◌, nat_eq, List, [], ◌∷◌, Option, None, Some, IsSome, refl, sym, ap, subst, ◌∙◌}
use Rattle.finite_maps.specs.Tally.{Map}
use Rattle.finite_maps.proofs.Gets.{get-insert_same}
use Rattle.finite_maps.proofs.Tested.{at_put, equal}
use Rattle.rpc_msg.specs.declared.ids.EmbargoId.{EmbargoId}
use Rattle.rpc_msg.specs.declared.message.Message.{Message}
use Rattle.rpc_msg.specs.declared.message.Message.TheVariants as message
use Rattle.rpc_msg.specs.declared.message.PlainMessage.{PlainMessage}
use Rattle.rpc_msg.specs.declared.message.PlainMessage.TheVariants as plain
use Rattle.rpc_msg.specs.declared.parts.Descriptor.{Descriptor}
use Rattle.rpc_msg.specs.declared.parts.Descriptor.TheVariants as descriptor
use Rattle.rpc_machine.specs.declared.entries.SenderKind.{SenderKind}
use Rattle.rpc_machine.specs.declared.entries.SenderKind.TheVariants as kind
use Rattle.rpc_msg.specs.Messages.{descriptors_of, given}
use Rattle.rpc_machine.specs.declared.calls.KeptOutcome.{KeptOutcome}
use Rattle.rpc_machine.specs.declared.command.Level.{Level}
use Rattle.rpc_machine.specs.declared.command.Level.TheVariants.{One, Zero}
use Rattle.rpc_machine.specs.declared.entries.AnswerEntry.{AnswerEntry}
use Rattle.rpc_machine.specs.declared.entries.Export.{Export}
use Rattle.rpc_machine.specs.declared.entries.Import.{Import}
use Rattle.rpc_machine.specs.declared.entries.Question.{Question}
use Rattle.rpc_machine.specs.declared.node.Node.{Node}
use Rattle.rpc_machine.specs.declared.node.Node.TheVariants as node
use Rattle.rpc_machine.specs.State.{State}
use Rattle.rpc_machine.specs.Nodes.{field_link, is_wire, link, value_of}
use Rattle.rpc_machine.specs.Advancing.{Leads, known_by_resolve, resolution_of}
use Rattle.rpc_machine.specs.Descriptors.{answer_node, export_node, import_one, read, read_all, read_at, read_one, received, take_all, take_at, take_each}
use Rattle.rpc_machine.specs.Laws as machine
use Rattle.laws_steps.specs.Callers.{AnswersWith, IsOpenFor}
use Rattle.laws_steps.specs.Settled.{IsThere}
use Rattle.laws_routes.specs.MakingLaws.{EmbargoIsThere}
use Rattle.laws_routes.specs.Named.{AllMet, AllNamed, EachMet, EachReturn, ResolveMet}
use Rattle.laws_routes.specs.Premises.{EachLoop, EachMayTake, EachOpen, EachTargetCap, OpenOf}
use Rattle.laws_routes.specs.QuietLaws.{IsAsked, IsFinished, MayClose, MayLower, NoneAims, NoneNames, Unless, opens}
use Rattle.laws_routes.specs.Sayings.{Has, has_behind, has_of, is_among}
use Rattle.laws_routes.specs.Midway.{AllAreHeld, HeldCallsAreHeld, IsAwaited, IsHeld, IsOutcomeOf, Midway}
use Rattle.laws_acts.proofs.Alone.{all_alone}
use Rattle.laws_routes.proofs.ExportsLowered.{Lowered}
use Rattle.laws_routes.proofs.FromMidway.{may_take}
use Rattle.laws_routes.proofs.MidwayGone.{met_fewer}
use Rattle.laws_routes.proofs.MidwayKept.{calls_still, held_still}
use Rattle.laws_routes.proofs.SayingsTaken.{all_taken}

-- ---- Imports, exports, answers and outcomes change, none of which was known, and messages come off the link

module _ (s : State) (I : Map Import) (E : Map Export) (A : Map AnswerEntry) (O : Map KeptOutcome) (kept : (e : ℕ) → IsSome (map.get s.imports e) → IsSome (map.get I e)) (more : (o : ℕ) → IsSome (map.get s.outcomes o) → IsSome (map.get O o))
    (values : (o : ℕ) → value_of (map.get O o) ≡ value_of (map.get s.outcomes o)) where
  abbrev t : State
  t = record s { imports = I; exports = E; answers = A; outcomes = O }

  pub held_too : (n : Node) → IsHeld s n → IsHeld t n
  held_too (node.Object k) i = i
  held_too (node.Promise p) i = i
  held_too (node.Field o path) i = (more o i.0, i.1)
  held_too (node.Import e) i = (i.0, kept e.0 i.1)
  held_too (node.Pipe q path) i = i
  held_too (node.Broken reason) i = i

  same_link : (n : Node) → link t n ≡ link s n
  same_link (node.Object k) = refl
  same_link (node.Promise p) = refl
  same_link (node.Field o path) = ap (field_link path) (values o)
  same_link (node.Import e) = refl
  same_link (node.Pipe q path) = refl
  same_link (node.Broken reason) = refl

  stops : (d : ℕ) (n : Node) → machine.Stops s d n → machine.Stops t d n
  stops zero n e = same_link n ∙ e
  stops (suc d) n e = (e.0, same_link n ∙ e.1, stops d e.0 e.2)

  -- A field that comes leads nowhere.
  before : (n : Node) → IsThere t n → IsThere s n ⊎ (link s n ≡ None)
  before (node.Object k) i = inl i
  before (node.Promise p) i = inl i
  before (node.Field o path) i = by (map.get s.outcomes o)
    where
      by : (z : Option KeptOutcome) → IsSome z ⊎ (field_link path (value_of z) ≡ None)
      by None = inr refl
      by (Some x) = inl refl
  before (node.Import e) i = inl i
  before (node.Pipe q path) i = inl i
  before (node.Broken reason) i = inl i

  embargo : (r : ℕ) (e : Option EmbargoId) → EmbargoIsThere s r e → EmbargoIsThere t r e
  embargo r None i = tt
  embargo r (Some e) i = i

  pub peers : (other : State) (out back later : List Message) → Midway s other out back → ((e : ℕ) (said : Descriptor) (to : Node) → known_by_resolve (resolution_of (map.get I e)) ≡ Leads said to → IsHeld s to)
      → ((o : ℕ) (x : KeptOutcome) → map.get O o ≡ Some x → HeldCallsAreHeld s x.waiting) → ((e : ℕ) (x : Export) → map.get E e ≡ Some x → (is_wire x.node ≡ false) × IsHeld s x.node)
      → ((e : ℕ) → IsSome (map.get I e) → IsSome (map.get other.exports e)) → ((q : ℕ) (a : AnswerEntry) → map.get A q ≡ Some a → IsOutcomeOf q (map.get O a.outcome))
      → ((o q : ℕ) → IsOpenFor q (map.get O o) → AnswersWith o (map.get A q)) → ((q : ℕ) (a : AnswerEntry) → map.get A q ≡ Some a → a.returned ≡ None → IsAwaited other later q a.finished)
      → EachReturn (λ q. IsSome (map.get s.questions q)) later → ((q : ℕ) (x : Question) → map.get s.questions q ≡ Some x → IsSome x.returned → EachOpen (λ k. nat_eq k q ≡ false) out × EachReturn (λ k. nat_eq k q ≡ false) later)
      → EachTargetCap (λ e. IsSome (map.get E e)) later
      → AllMet E other.exports (has_of [] other.imports other.questions) out × AllMet other.exports E (has_of [] I s.questions) later → EachLoop (λ e. Unit {0}) (λ e. IsSome (map.get s.embargoes e)) later
      → Midway t other out later
  peers other out back later h resolved holds own imported answers pending awaited returns answered met named echoed = record {
    stop = λ m. (let a = h.stop m in (a.0, stops a.0 m a.1));
    links = λ m k i e. goes m k (sym (same_link m) ∙ e) (before m i);
    heads = λ r x e. held_too x.head (h.heads r x e);
    embargoes = λ e b i. held_too b.node (h.embargoes e b i);
    resolved = λ e said to a. held_too to (resolved e said to a);
    returned = λ q path said to a. held_too to (h.returned q path said to a);
    waits = λ p cs e. calls_still s t held_too cs (h.waits p cs e);
    holds = λ o x e. held_still s t held_too x.waiting (holds o x e);
    keeps = λ e b i. calls_still s t held_too b.waiting (h.keeps e b i);
    paired = λ r x e. embargo r x.embargo (h.paired r x e);
    exports = λ e x f. (let a = own e x f in (a.0, held_too x.node a.1));
    theirs = h.theirs;
    imported = imported;
    answers = answers;
    pending = pending;
    awaited = awaited;
    opens = h.opens;
    returns = returns;
    answered = answered;
    met = met;
    named = named;
    sent = h.sent;
    echoed = echoed;
  }
    where
      goes : (m k : Node) → link s m ≡ Some k → IsThere s m ⊎ (link s m ≡ None) → IsHeld t k
      goes m k e (inl i) = held_too k (h.links m k i e)
      goes m k e (inr f) = let a : Some k ≡ None = sym e ∙ f in cc

-- ---- Behind the message that comes

loops_behind : (P Q : ℕ → Type 0) (x : PlainMessage) (ms : List Message) → EachLoop P Q (message.Plain x ∷ ms) → EachLoop P Q ms
loops_behind P Q (plain.Abort exception) ms h = h
loops_behind P Q (plain.Bootstrap q) ms h = h
loops_behind P Q (plain.Call c) ms h = h
loops_behind P Q (plain.Return r) ms h = h
loops_behind P Q (plain.Finish f) ms h = h
loops_behind P Q (plain.Resolve r) ms h = h
loops_behind P Q (plain.Release r) ms h = h
loops_behind P Q (plain.Disembargo d) ms h = h.1
loops_behind P Q (plain.Other n) ms h = h

not_asked : (q : ℕ) (x : PlainMessage) → OpenOf (λ k. nat_eq k q ≡ false) (message.Plain x) → opens q (message.Plain x) ≡ false
not_asked q (plain.Abort exception) h = refl
not_asked q (plain.Bootstrap k) h = h
not_asked q (plain.Call c) h = h
not_asked q (plain.Return r) h = refl
not_asked q (plain.Finish f) h = refl
not_asked q (plain.Resolve r) h = refl
not_asked q (plain.Release r) h = refl
not_asked q (plain.Disembargo d) h = refl
not_asked q (plain.Other n) h = refl

closes_behind : (other : State) (x : PlainMessage) (ms : List Message) (q : ℕ) → opens q (message.Plain x) ≡ false → MayClose other (message.Plain x ∷ ms) q → MayClose other ms q
closes_behind other x ms q e h = record {
  aims = (let a = h.aims in subst (λ b. Unless b (NoneAims q ms)) e a.1);
  names = (let a = h.names in subst (λ b. Unless b (NoneNames q ms)) e a.1);
  over = by h.over;
}
  where
    by : IsAsked q (message.Plain x ∷ ms) ⊎ IsFinished (map.get other.questions q) → IsAsked q ms ⊎ IsFinished (map.get other.questions q)
    by (inl (inl i)) = let a : false ≡ true = sym e ∙ i in cc
    by (inl (inr i)) = inl i
    by (inr f) = inr f

awaited_behind : (other : State) (x : PlainMessage) (ms : List Message) (q : ℕ) (finished : Bool) → IsAwaited other (message.Plain x ∷ ms) q finished → IsAwaited other ms q finished
awaited_behind other x ms q finished h = (h.0.1, λ e. closes_behind other x ms q (not_asked q x h.0.0) (h.1 e))

-- ---- Imports that come

one_kept : (s : State) (k : SenderKind) (i e : ℕ) → IsSome (map.get s.imports e) → IsSome (map.get (import_one s k i).imports e)
one_kept s k i = at_put (λ j o. IsSome (map.get s.imports j) → IsSome o) s.imports i (received k (map.get s.imports i)) (λ h. refl) (λ j n h. h)

kept_each : (ds : List Descriptor) (s : State) (e : ℕ) → IsSome (map.get s.imports e) → IsSome (map.get (take_each s ds).imports e)
kept_each [] s e h = h
kept_each (descriptor.None ∷ ds) s e h = kept_each ds s e h
kept_each (descriptor.SenderHosted i ∷ ds) s e h = kept_each ds (import_one s kind.Hosted i.0) e (one_kept s kind.Hosted i.0 e h)
kept_each (descriptor.SenderPromise i ∷ ds) s e h = kept_each ds (import_one s kind.Promise i.0) e (one_kept s kind.Promise i.0 e h)
kept_each (descriptor.ReceiverHosted i ∷ ds) s e h = kept_each ds s e h
kept_each (descriptor.ReceiverAnswer q path ∷ ds) s e h = kept_each ds s e h

one_same : (s : State) (k : SenderKind) (i e : ℕ) → resolution_of (map.get (import_one s k i).imports e) ≡ resolution_of (map.get s.imports e)
one_same s k i = at_put (λ j o. resolution_of o ≡ resolution_of (map.get s.imports j)) s.imports i (received k (map.get s.imports i)) (by (map.get s.imports i)) (λ j n. refl)
  where
    by : (o : Option Import) → resolution_of (Some (received k o)) ≡ resolution_of o
    by None = refl
    by (Some x) = refl

pub same_each : (ds : List Descriptor) (s : State) (e : ℕ) → resolution_of (map.get (take_each s ds).imports e) ≡ resolution_of (map.get s.imports e)
same_each [] s e = refl
same_each (descriptor.None ∷ ds) s e = same_each ds s e
same_each (descriptor.SenderHosted i ∷ ds) s e = same_each ds (import_one s kind.Hosted i.0) e ∙ one_same s kind.Hosted i.0 e
same_each (descriptor.SenderPromise i ∷ ds) s e = same_each ds (import_one s kind.Promise i.0) e ∙ one_same s kind.Promise i.0 e
same_each (descriptor.ReceiverHosted i ∷ ds) s e = same_each ds s e
same_each (descriptor.ReceiverAnswer q path ∷ ds) s e = same_each ds s e

-- Each import that a descriptor gives is there.
abbrev pub GivenIn : Map Import → Descriptor → Type 0
GivenIn I descriptor.None = Unit {0}
GivenIn I (descriptor.SenderHosted e) = IsSome (map.get I e.0)
GivenIn I (descriptor.SenderPromise e) = IsSome (map.get I e.0)
GivenIn I (descriptor.ReceiverHosted e) = Unit {0}
GivenIn I (descriptor.ReceiverAnswer q path) = Unit {0}

abbrev pub AllGivenIn : Map Import → List Descriptor → Type 0
AllGivenIn I [] = Unit {0}
AllGivenIn I (d ∷ ds) = GivenIn I d × AllGivenIn I ds

given_now : (s : State) (k : SenderKind) (i : ℕ) → IsSome (map.get (import_one s k i).imports i)
given_now s k i = subst (λ (o : Option Import). IsSome o) (sym (get-insert_same s.imports i (received k (map.get s.imports i)))) refl

given_each : (ds : List Descriptor) (s : State) → AllGivenIn (take_each s ds).imports ds
given_each [] s = tt
given_each (descriptor.None ∷ ds) s = (tt, given_each ds s)
given_each (descriptor.SenderHosted i ∷ ds) s = (kept_each ds (import_one s kind.Hosted i.0) i.0 (given_now s kind.Hosted i.0), given_each ds (import_one s kind.Hosted i.0))
given_each (descriptor.SenderPromise i ∷ ds) s = (kept_each ds (import_one s kind.Promise i.0) i.0 (given_now s kind.Promise i.0), given_each ds (import_one s kind.Promise i.0))
given_each (descriptor.ReceiverHosted i ∷ ds) s = (tt, given_each ds s)
given_each (descriptor.ReceiverAnswer q path ∷ ds) s = (tt, given_each ds s)

module _ (E F : Map Export) where
  abbrev AreExported : State → Type 0
  AreExported s = (e : ℕ) → IsSome (map.get s.imports e) → IsSome (map.get E e)

  one_exported : (s : State) (k : SenderKind) (i : ℕ) → IsSome (map.get E i) → AreExported s → AreExported (import_one s k i)
  one_exported s k i there h = at_put (λ j o. IsSome o → IsSome (map.get E j)) s.imports i (received k (map.get s.imports i)) (λ a. there) (λ j n a. h j a)

  exported_each : (ds : List Descriptor) (s : State) → EachMet E F ds → AreExported s → AreExported (take_each s ds)
  exported_each [] s m h = h
  exported_each (descriptor.None ∷ ds) s m h = exported_each ds s m.1 h
  exported_each (descriptor.SenderHosted i ∷ ds) s m h = exported_each ds (import_one s kind.Hosted i.0) m.1 (one_exported s kind.Hosted i.0 m.0 h)
  exported_each (descriptor.SenderPromise i ∷ ds) s m h = exported_each ds (import_one s kind.Promise i.0) m.1 (one_exported s kind.Promise i.0 m.0 h)
  exported_each (descriptor.ReceiverHosted i ∷ ds) s m h = exported_each ds s m.1 h
  exported_each (descriptor.ReceiverAnswer q path ∷ ds) s m h = exported_each ds s m.1 h

-- ---- The message is taken

at_one : (s : State) (ds : List Descriptor) → s.level ≡ One → (P : State → Type 0) → P (take_each s ds) → P (take_all s ds)
at_one s ds level P h = subst (λ (l : Level). P (take_at l s ds)) (sym level) h

pub all_given : (s : State) (ds : List Descriptor) → s.level ≡ One → AllGivenIn (take_all s ds).imports ds
all_given s ds level = at_one s ds level (λ (z : State). AllGivenIn z.imports ds) (given_each ds s)

pub taken : (s other : State) (out : List Message) (x : PlainMessage) (rest : List Message) → Midway s other out (message.Plain x ∷ rest) → s.level ≡ One → Midway (take_all s (descriptors_of (message.Plain x))) other out rest
taken s other out x rest h level = subst (λ (z : State). Midway z other out rest) (sym (all_alone s ds)) still
  where
    ds : List Descriptor
    ds = descriptors_of (message.Plain x)

    I : Map Import
    I = (take_all s ds).imports

    same : (e : ℕ) → resolution_of (map.get I e) ≡ resolution_of (map.get s.imports e)
    same = at_one s ds level (λ (z : State). (e : ℕ) → resolution_of (map.get z.imports e) ≡ resolution_of (map.get s.imports e)) (same_each ds s)

    still : Midway (record s { imports = I }) other out rest
    still =
        peers s I s.exports s.answers s.outcomes (at_one s ds level (λ (z : State). (e : ℕ) → IsSome (map.get s.imports e) → IsSome (map.get z.imports e)) (kept_each ds s)) (λ o i. i) (λ o. refl) other out (message.Plain x ∷ rest) rest h
        (λ e said to a. h.resolved e said to (ap known_by_resolve (sym (same e)) ∙ a)) h.holds h.exports
        (let a = h.named in at_one s ds level (λ (z : State). (e : ℕ) → IsSome (map.get z.imports e) → IsSome (map.get other.exports e)) (exported_each other.exports s.exports ds s a.1.0 h.imported)) h.answers h.pending
        (λ q a f g. awaited_behind other x rest q a.finished (h.awaited q a f g)) (let a = h.returns in a.1) (λ q y e i. (let a = h.answered q y e i in (a.0, a.1.1))) (let a = h.met in a.1)
        (let a = h.named in (a.0, met_fewer other.exports s.exports (has_behind (has_of [] s.imports s.questions) ds) (has_of [] I s.questions) rest (all_taken s.level s ds) a.1.2))
        (loops_behind _ _ x rest h.echoed)

nothing_taken : (l : Level) (s : State) → take_at l s [] ≡ s
nothing_taken Zero s = refl
nothing_taken One s = refl

-- One without descriptors.
pub off : (s other : State) (out : List Message) (x : PlainMessage) (rest : List Message) → descriptors_of (message.Plain x) ≡ [] → Midway s other out (message.Plain x ∷ rest) → s.level ≡ One → Midway s other out rest
off s other out x rest none h level =
    subst (λ (z : State). Midway z other out rest) (nothing_taken s.level s) (subst (λ (ds : List Descriptor). Midway (take_all s ds) other out rest) none (taken s other out x rest h level))

-- Its descriptors may be taken.
pub each_may_take : (s other : State) (out back : List Message) → Midway s other out back → (F : Map Export) (ds : List Descriptor) → EachMet other.exports F ds → EachMayTake s other (given ds)
each_may_take s other out back h F [] m = tt
each_may_take s other out back h F (descriptor.None ∷ ds) m = each_may_take s other out back h F ds m.1
each_may_take s other out back h F (descriptor.SenderHosted e ∷ ds) m = (may_take s other out back h e.0 m.0, each_may_take s other out back h F ds m.1)
each_may_take s other out back h F (descriptor.SenderPromise e ∷ ds) m = (may_take s other out back h e.0 m.0, each_may_take s other out back h F ds m.1)
each_may_take s other out back h F (descriptor.ReceiverHosted e ∷ ds) m = each_may_take s other out back h F ds m.1
each_may_take s other out back h F (descriptor.ReceiverAnswer q path ∷ ds) m = each_may_take s other out back h F ds m.1

-- ---- What was read is held

outcome_there : (q : ℕ) (o : Option KeptOutcome) → IsOutcomeOf q o → IsSome o
outcome_there q None i = absurd i
outcome_there q (Some x) i = refl

module _ (s other : State) (out back : List Message) (h : Midway s other out back) where
  pub export_held : (e : ℕ) → IsHeld s (export_node (map.get s.exports e))
  export_held e = by (map.get s.exports e) refl
    where
      by : (o : Option Export) → map.get s.exports e ≡ o → IsHeld s (export_node o)
      by None f = (tt, tt)
      by (Some x) f = (let a = h.exports e x f in a.1)

  pub answer_held : (path : _) (q : ℕ) → IsHeld s (answer_node path (map.get s.answers q))
  answer_held path q = by (map.get s.answers q) refl
    where
      by : (o : Option AnswerEntry) → map.get s.answers q ≡ o → IsHeld s (answer_node path o)
      by None f = (tt, tt)
      by (Some a) f = (outcome_there q (map.get s.outcomes a.outcome) (h.answers q a f), tt)

  one_read : (c : Descriptor) → GivenIn s.imports c → IsHeld s (read_one s c)
  one_read descriptor.None g = (tt, tt)
  one_read (descriptor.SenderHosted e) g = (tt, g)
  one_read (descriptor.SenderPromise e) g = (tt, g)
  one_read (descriptor.ReceiverHosted e) g = export_held e.0
  one_read (descriptor.ReceiverAnswer q path) g = answer_held path q.0

  at_level : (l : Level) (c : Descriptor) → GivenIn s.imports c → IsHeld s (read_at l s c)
  at_level Zero c g = (tt, tt)
  at_level One c g = one_read c g

  pub read_held : (c : Descriptor) → GivenIn s.imports c → IsHeld s (read s c)
  read_held c g = at_level s.level c g

  pub all_read : (ds : List Descriptor) → AllGivenIn s.imports ds → AllAreHeld s (read_all s ds)
  all_read [] g = tt
  all_read (c ∷ ds) g = (read_held c g.0, all_read ds g.1)

-- ---- Exports fall

given_or : (E : Map Export) (e j : ℕ) (a b : Bool) → IsSome (map.get E j) → ((a || b) ≡ true → IsSome (map.get E e)) → ((nat_eq e j || a) || b) ≡ true → IsSome (map.get E e)
given_or E e j a b there f i = by (nat_eq e j) refl i
  where
    by : (c : Bool) → nat_eq e j ≡ c → ((c || a) || b) ≡ true → IsSome (map.get E e)
    by true k i = subst (λ (j : ℕ). IsSome (map.get E j)) (sym (equal e j k)) there
    by false k i = f i

among_met : (E F : Map Export) (ds : List Descriptor) (e : ℕ) (b : Bool) → EachMet E F ds → (b ≡ true → IsSome (map.get E e)) → (is_among e (given ds) || b) ≡ true → IsSome (map.get E e)
among_met E F [] e b m f i = f i
among_met E F (descriptor.None ∷ ds) e b m f i = among_met E F ds e b m.1 f i
among_met E F (descriptor.SenderHosted j ∷ ds) e b m f i = given_or E e j.0 (is_among e (given ds)) b m.0 (among_met E F ds e b m.1 f) i
among_met E F (descriptor.SenderPromise j ∷ ds) e b m f i = given_or E e j.0 (is_among e (given ds)) b m.0 (among_met E F ds e b m.1 f) i
among_met E F (descriptor.ReceiverHosted j ∷ ds) e b m f i = among_met E F ds e b m.1 f i
among_met E F (descriptor.ReceiverAnswer q path ∷ ds) e b m f i = among_met E F ds e b m.1 f i

module _ (E F : Map Export) where
  resolve_met : (has : Has) (x : PlainMessage) → ((e : ℕ) → has.import e ≡ true → IsSome (map.get E e)) → ResolveMet E has x
  resolve_met has (plain.Abort exception) f = tt
  resolve_met has (plain.Bootstrap q) f = tt
  resolve_met has (plain.Call c) f = tt
  resolve_met has (plain.Return r) f = tt
  resolve_met has (plain.Finish x) f = tt
  resolve_met has (plain.Resolve r) f = f r.promise.0
  resolve_met has (plain.Release r) f = tt
  resolve_met has (plain.Disembargo d) f = tt
  resolve_met has (plain.Other n) f = tt

  -- What descriptors name is there, and what the receiver has.
  met_named : (has : Has) (ms : List Message) → ((e : ℕ) → has.import e ≡ true → IsSome (map.get E e)) → AllNamed E F ms → AllMet E F has ms
  met_named has [] f n = tt
  met_named has (message.Plain x ∷ ms) f n =
      let ds = descriptors_of (message.Plain x) in
      (n.0, resolve_met has x f, met_named (has_behind has ds) ms (λ e. among_met E F ds e (has.import e) n.0 (f e)) n.1)
  met_named has (message.Unimplemented x ∷ ms) f n = met_named has ms f n

pub lowered_still : (s other : State) (out back : List Message) (E : Map Export) → Midway s other out back → Lowered s.exports E → MayLower (record s { exports = E }) other out back → Midway (record s { exports = E }) other out back
lowered_still s other out back E h lower may =
    peers s s.imports E s.answers s.outcomes (λ e i. i) (λ o i. i) (λ o. refl) other out back back h h.resolved h.holds
    (λ e y f. (let z = lower e y f in let a = h.exports e z.0 z.1 in subst (λ (n : Node). (is_wire n ≡ false) × IsHeld s n) z.2 a)) h.imported h.answers h.pending h.awaited h.returns h.answered may.met
    (met_named E other.exports (has_of [] other.imports other.questions) out may.imported may.named, met_named other.exports E (has_of [] s.imports s.questions) back h.imported may.named_back) h.echoed
