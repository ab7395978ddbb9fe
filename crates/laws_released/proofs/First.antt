-- The first act of a command, and of a message, names objects of the set alone, if the set has what places named before.
use Rattle.std.proofs.Common.{◌≡◌, inl, inr, ℕ, zero, suc, Bool, true, List, [], ◌∷◌, Option, None, Some, refl, sym, subst}
use Rattle.std.specs.FinMap as map
use Rattle.finite_maps.specs.Tally.{Map}
use Rattle.rpc_msg.specs.Op.{Op}
use Rattle.rpc_msg.specs.CapAt.{CapAt}
use Rattle.rpc_msg.specs.CapAt.TheVariants.{Cap, Null, NotCap}
use Rattle.rpc_msg.specs.declared.ids.ObjectId.{ObjectId}
use Rattle.rpc_msg.specs.declared.ids.RefId.{RefId}
use Rattle.rpc_msg.specs.declared.parts.Descriptor.{Descriptor}
use Rattle.rpc_msg.specs.declared.parts.Descriptor.TheVariants as descriptor
use Rattle.rpc_msg.specs.declared.parts.Target.{Target}
use Rattle.rpc_msg.specs.declared.parts.Target.TheVariants.{ImportedCap, PromisedAnswer}
use Rattle.rpc_machine.specs.declared.entries.SenderKind.{SenderKind}
use Rattle.rpc_machine.specs.declared.entries.SenderKind.TheVariants as kind
use Rattle.rpc_msg.specs.declared.message.ReturnBody.{ReturnBody}
use Rattle.rpc_msg.specs.declared.message.ReturnBody.TheVariants as body
use Rattle.rpc_msg.specs.declared.message.ResolvedTo.{ResolvedTo}
use Rattle.rpc_msg.specs.declared.message.ResolvedTo.TheVariants as resolved
use Rattle.rpc_msg.specs.declared.message.Message.{Message}
use Rattle.rpc_machine.specs.declared.node.Node.{Node}
use Rattle.rpc_machine.specs.declared.node.Node.TheVariants as node
use Rattle.rpc_machine.specs.declared.node.Reason.TheVariants.{BrokenPromise}
use Rattle.rpc_machine.specs.declared.command.Command.{Command}
use Rattle.rpc_machine.specs.declared.command.Command.TheVariants as command
use Rattle.rpc_machine.specs.declared.command.Granted.{Granted}
use Rattle.rpc_machine.specs.declared.command.Level.{Level}
use Rattle.rpc_machine.specs.declared.command.Level.TheVariants.{Zero, One}
use Rattle.rpc_machine.specs.declared.calls.OwnCall.{OwnCall}
use Rattle.rpc_machine.specs.declared.calls.OwnCall.TheVariants as own
use Rattle.rpc_machine.specs.declared.calls.Promise.TheVariants as promise
use Rattle.rpc_machine.specs.declared.entries.AnswerEntry.{AnswerEntry}
use Rattle.rpc_machine.specs.declared.entries.Question.{Question}
use Rattle.rpc_machine.specs.declared.entries.Returned.{Returned}
use Rattle.rpc_machine.specs.declared.entries.Returned.TheVariants as back
use Rattle.rpc_machine.specs.declared.entries.Resolution.{Resolution}
use Rattle.rpc_machine.specs.declared.entries.Resolution.TheVariants as resolution
use Rattle.rpc_machine.specs.declared.entries.Import.{Import}
use Rattle.rpc_machine.specs.declared.entries.Export.{Export}
use Rattle.rpc_machine.specs.declared.entries.Reference.{Reference}
use Rattle.rpc_machine.specs.State.{State}
use Rattle.rpc_machine.specs.Advancing.{Leads, known_by, known_by_resolve, resolution_of, known_at, known_cap, known_by_return, returned_of, known_of_wire}
use Rattle.rpc_machine.specs.Nodes.{settle}
use Rattle.rpc_machine.specs.Payloads.{cap_at}
use Rattle.rpc_machine.specs.Places.{nodes, named_by_reference, named_by_embargo, named_by_promise, named_by_outcome, named_by_returned, named_by_question, named_by_resolution, named_by_import, named_by_export}
use Rattle.rpc_machine.specs.Progress.{caps_of, numbers}
use Rattle.rpc_machine.specs.Lists.{updated}
use Rattle.rpc_machine.specs.Descriptors.{export_node, answer_node, read_one, read_at, read_all, read_beside, received, take_one, take_each, take_at, take_all}
use Rattle.rpc_machine.specs.Faults.{target_node, gave, given_by}
use Rattle.rpc_machine.specs.Commands.{head_of, heads, field_node}
use Rattle.rpc_machine.specs.Messages.{bootstrap_value, results_of, value_of_results, set_resolution, resolve_import, take_resolve, unembargoed}
use Rattle.laws_acts.specs.Moments.{Moment, beginning}
use Rattle.laws_acts.specs.FirstActs.{Starts, waiting_call}
use Rattle.laws_acts.specs.FirstActs as first
use Rattle.laws_acts.specs.MessageActs.{Back, Brings, ByReturn, ByEchoedRoot, ByEchoedCall, Consumes}
use Rattle.laws_acts.specs.MessageActs as consume
use Rattle.laws_authority.specs.Grants.{Opens}
use Rattle.laws_steps.proofs.NamedNodes.{AllIn, entry, EachIn, all_none, all_one, each_put, each_cut, each_at}
use Rattle.laws_steps.proofs.NamedPieces.{calls_and}
use Rattle.laws_released.proofs.Held.{Wide, wide_of, In, Names, all_to, go_out, lower_in, obeyed}
use Rattle.laws_released.proofs.Acted.{Holds}

all_cons : (A : ObjectId → Type 0) (n : Node) (ns : List Node) → In A n → AllIn (In A) ns → AllIn (In A) (n ∷ ns)
all_cons A n ns f a m (inl e) = subst (In A) (sym e) f
all_cons A n ns f a m (inr i) = a m i

-- The set has all that places name: with the references, so also without them.
module _ (w : Bool) (A : ObjectId → Type 0) (s : State) (full : Names true A s) where
  abbrev F : Node → Type 0
  F = In A

  abbrev H : Moment → Type 0
  H d = Holds w A s.bootstrap d

  weak_refs : EachIn (Wide w F) named_by_reference s.refs
  weak_refs k n i = wide_of w F n (full.0 k n i)

  pub here : Names w A s
  here = (weak_refs, full.1, full.2, full.3, full.4, full.5, full.6)

  pub at_first : H (beginning s)
  at_first = record { root = refl; names = here; yet = tt; arisen = tt; coming = tt; telling = tt; clearing = tt; owed = tt; deliveries = tt }

  -- ---- References

  head : (r : ℕ) (x : Reference) → map.get s.refs r ≡ Some x → F x.head
  head r x e = each_at F named_by_reference s.refs r x full.0 e x.head (inl refl)

  head_in : (r : ℕ) → F (head_of (map.get s.refs r))
  head_in r = by (map.get s.refs r) refl
    where
      by : (o : Option Reference) → map.get s.refs r ≡ o → F (head_of o)
      by None e = tt
      by (Some x) e = head r x e

  heads_in : (rs : List RefId) → AllIn F (heads s rs)
  heads_in [] = all_none F
  heads_in (r ∷ rs) = all_cons A (head_of (map.get s.refs r.0)) (heads s rs) (head_in r.0) (heads_in rs)

  put_ref : (r : ℕ) (x : Reference) → F x.head → EachIn (Wide w F) named_by_reference (map.insert s.refs r x)
  put_ref r x f = each_put (Wide w F) named_by_reference s.refs r x (all_one (Wide w F) x.head (wide_of w F x.head f)) weak_refs

  -- ---- What is known of a wire

  known_one : (c : Descriptor) (m : Node) (by : Descriptor) (n : Node) → F m → known_by c m ≡ Leads by n → F n
  known_one descriptor.None m by n f e = absurd cc
  known_one (descriptor.SenderHosted i) m by n f e = let g : m ≡ n = cc in subst F g f
  known_one (descriptor.SenderPromise i) m by n f e = let g : m ≡ n = cc in subst F g f
  known_one (descriptor.ReceiverHosted i) m by n f e = let g : m ≡ n = cc in subst F g f
  known_one (descriptor.ReceiverAnswer q path) m by n f e = let g : m ≡ n = cc in subst F g f

  known_in : (cs : List (Descriptor × Node)) (i : ℕ) (by : Descriptor) (n : Node) → AllIn F (nodes cs) → known_at cs i ≡ Leads by n → F n
  known_in [] i by n a e = absurd cc
  known_in (c ∷ cs) zero by n a e = known_one c.0 c.1 by n (a c.1 (inl refl)) e
  known_in (c ∷ cs) (suc i) by n a e = known_in cs i by n (λ m j. a m (inr j)) e

  known_at_cap : (cs : List (Descriptor × Node)) (c : CapAt) (by : Descriptor) (n : Node) → AllIn F (nodes cs) → known_cap cs c ≡ Leads by n → F n
  known_at_cap cs (Cap i) by n a e = known_in cs i by n a e
  known_at_cap cs Null by n a e = absurd cc
  known_at_cap cs NotCap by n a e = absurd cc

  by_return : (path : List Op) (r : Option Returned) (by : Descriptor) (n : Node) → AllIn F (named_by_returned r) → known_by_return path r ≡ Leads by n → F n
  by_return path None by n a e = absurd cc
  by_return path (Some (back.Results payload caps)) by n a e = known_at_cap caps (cap_at payload path) by n a e
  by_return path (Some (back.Exception exception)) by n a e = absurd cc

  by_resolve : (r : Option Resolution) (by : Descriptor) (n : Node) → AllIn F (named_by_resolution r) → known_by_resolve r ≡ Leads by n → F n
  by_resolve None by n a e = absurd cc
  by_resolve (Some (resolution.To c m)) by n a e = known_one c m by n (a m (inl refl)) e
  by_resolve (Some (resolution.Exception exception)) by n a e = absurd cc

  of_question : (q : ℕ) (o : Option Question) → AllIn F (entry named_by_question q o) → AllIn F (named_by_returned (returned_of o))
  of_question q None a = all_none F
  of_question q (Some x) a = a

  of_import : (e : ℕ) (o : Option Import) → AllIn F (entry named_by_import e o) → AllIn F (named_by_resolution (resolution_of o))
  of_import e None a = all_none F
  of_import e (Some x) a = a

  leads : (m : Node) (by : Descriptor) (n : Node) → known_of_wire s m ≡ Leads by n → F n
  leads (node.Object o) by n e = absurd cc
  leads (node.Promise p) by n e = absurd cc
  leads (node.Field o path) by n e = absurd cc
  leads (node.Import i) by n e = by_resolve (resolution_of (map.get s.imports i.0)) by n (of_import i.0 (map.get s.imports i.0) (full.5 i.0)) e
  leads (node.Pipe q path) by n e = by_return path (returned_of (map.get s.questions q.0)) by n (of_question q.0 (map.get s.questions q.0) (full.4 q.0)) e
  leads (node.Broken reason) by n e = absurd cc

  field_of_call : (path : List Op) (from : OwnCall) → F (field_node path from)
  field_of_call path (own.Direct q) = tt
  field_of_call path (own.Kept o) = tt

  -- ---- The first act of a command

  module _ (c : Command) (hosted : (o : ObjectId) → c ≡ command.Host o → Wide w F (node.Object o)) where
    pub started : (g : Granted) (new : Moment) → Starts (beginning s) c g new → H new
    started g new (first.Hosts o e a h) =
        rw h (record { root = refl; names = (each_put (Wide w F) named_by_reference s.refs s.next_ref _ (all_one (Wide w F) (node.Object o) (hosted o e)) weak_refs, full.1, full.2, full.3, full.4, full.5, full.6); yet = tt; arisen = tt; coming = tt; telling = tt; clearing = tt; owed = tt; deliveries = tt })
    started g new (first.Clones r x e f a h) =
        rw h (record { root = refl; names = (put_ref s.next_ref _ (head r.0 x f), full.1, full.2, full.3, full.4, full.5, full.6); yet = tt; arisen = tt; coming = tt; telling = tt; clearing = tt; owed = tt; deliveries = tt })
    started g new (first.Drops r x e f a h) =
        rw h (record { root = refl; names = (each_cut (Wide w F) named_by_reference s.refs r.0 weak_refs, full.1, full.2, full.3, full.4, full.5, full.6); yet = tt; arisen = tt; coming = tt; telling = tt; clearing = tt; owed = tt; deliveries = tt })
    started g new (first.AsksRoot q e f a h) =
        rw h (record { root = refl; names = (weak_refs, full.1, full.2, full.3, each_put F named_by_question s.questions q _ (all_none F) full.4, full.5, full.6); yet = tt; arisen = tt; coming = tt; telling = tt; clearing = tt; owed = tt; deliveries = tt })
    started g new (first.CallsOut k x q t ds es e f j l z m a h) =
        rw h (record {
          root = refl;
          names = (
            put_ref k.reference.0 _ (head k.reference.0 x f),
            full.1,
            full.2,
            full.3,
            each_put F named_by_question s.questions q _ (all_none F) full.4,
            full.5,
            go_out w A s here s.exports (heads s k.refs) ds es (heads_in k.refs) full.6 m,
          );
          yet = tt;
          arisen = tt;
          coming = tt;
          telling = tt;
          clearing = tt;
          owed = tt;
          deliveries = tt;
        })
    started g new (first.CallsHere k x o e f j l m a h) =
        rw h (record { root = refl; names = (put_ref k.reference.0 _ (head k.reference.0 x f), full.1, full.2, each_put F named_by_outcome s.outcomes o _ (all_none F) full.3, full.4, full.5, full.6); yet = ((head k.reference.0 x f, heads_in k.refs), tt); arisen = tt; coming = tt; telling = tt; clearing = tt; owed = tt; deliveries = tt })
    started g new (first.CallsLater k x o z b e f j l m a h) =
        let before = each_at F named_by_embargo s.embargoes z.0 b full.1 l in
        let held = calls_and F b.waiting (waiting_call s k x o) (λ n y. before n (inr y)) (heads_in k.refs) in
        rw h (record {
          root = refl;
          names = (
            put_ref k.reference.0 _ (head k.reference.0 x f),
            each_put F named_by_embargo s.embargoes z.0 _ (all_cons A b.node _ (before b.node (inl refl)) held) full.1,
            full.2,
            each_put F named_by_outcome s.outcomes o _ (all_none F) full.3,
            full.4,
            full.5,
            full.6,
          );
          yet = tt;
          arisen = tt;
          coming = tt;
          telling = tt;
          clearing = tt;
          owed = tt;
          deliveries = tt;
        })
    started g new (first.NamesField k path from e f a h) =
        rw h (record { root = refl; names = (put_ref s.next_ref _ (field_of_call path from), full.1, full.2, full.3, full.4, full.5, full.6); yet = tt; arisen = tt; coming = tt; telling = tt; clearing = tt; owed = tt; deliveries = tt })
    started g new (first.Promises p e f a h) =
        rw h (record { root = refl; names = (put_ref s.next_ref _ tt, full.1, each_put F named_by_promise s.promises p (promise.Open []) (all_one F (node.Promise p) tt) full.2, full.3, full.4, full.5, full.6); yet = tt; arisen = tt; coming = tt; telling = tt; clearing = tt; owed = tt; deliveries = tt })
    started g new (first.Fixes p r x key calls e f j k a h) =
        let before = each_at F named_by_promise s.promises key (promise.Open calls) full.2 k in
        rw h (record { root = refl; names = (weak_refs, full.1, each_put F named_by_promise s.promises key (promise.Fixed x.head) (all_one F x.head (head r.0 x f)) full.2, full.3, full.4, full.5, full.6); yet = all_to w A (node.Promise key) calls tt (λ n y. before n (inr y)); arisen = tt; coming = tt; telling = tt; clearing = tt; owed = tt; deliveries = tt })
    started g new (first.Rejects p why key calls e f j a h) =
        let before = each_at F named_by_promise s.promises key (promise.Open calls) full.2 j in
        rw h (record { root = refl; names = (weak_refs, full.1, each_put F named_by_promise s.promises key _ (all_one F (node.Broken BrokenPromise) tt) full.2, full.3, full.4, full.5, full.6); yet = all_to w A (node.Promise key) calls tt (λ n y. before n (inr y)); arisen = tt; coming = tt; telling = tt; clearing = tt; owed = tt; deliveries = tt })
    started g new (first.Answers t payload refs o e f a h) = rw h (record { root = refl; names = here; yet = tt; arisen = tt; coming = (heads_in refs, tt); telling = tt; clearing = tt; owed = tt; deliveries = tt })
    started g new (first.Fails t why o e f a h) = rw h (record { root = refl; names = here; yet = tt; arisen = tt; coming = (all_none F, tt); telling = tt; clearing = tt; owed = tt; deliveries = tt })
    started g new (first.Finishes k from e f a h) = rw h (record { root = refl; names = here; yet = tt; arisen = tt; coming = tt; telling = tt; clearing = tt; owed = tt; deliveries = tt })
    started g new (first.StaysPut r x e f a h) = rw h at_first
    started g new (first.Breaks r x reason e f j k a h) =
        rw h (record { root = refl; names = (put_ref r.0 _ tt, full.1, full.2, full.3, full.4, full.5, full.6); yet = tt; arisen = tt; coming = tt; telling = tt; clearing = tt; owed = tt; deliveries = tt })
    started g new (first.Switches r x by n e f j k l m a h) =
        rw h (record { root = refl; names = (put_ref r.0 _ (leads (settle s x.head) by n k), full.1, full.2, full.3, full.4, full.5, full.6); yet = tt; arisen = tt; coming = tt; telling = tt; clearing = tt; owed = tt; deliveries = tt })
    started g new (first.Turns r x by n t z e f j k l m u v a h) =
        let at = leads (settle s x.head) by n k in
        rw h (record { root = refl; names = (put_ref r.0 _ at, each_put F named_by_embargo s.embargoes z _ (all_one F n at) full.1, full.2, full.3, full.4, full.5, full.6); yet = tt; arisen = tt; coming = tt; telling = tt; clearing = tt; owed = tt; deliveries = tt })

  -- ---- What a message says

  export_in : (e : ℕ) → F (export_node (map.get s.exports e))
  export_in e = by (map.get s.exports e) (full.6 e)
    where
      by : (o : Option Export) → AllIn F (entry named_by_export e o) → F (export_node o)
      by None a = tt
      by (Some x) a = a x.node (inl refl)

  answer_in : (path : List Op) (o : Option AnswerEntry) → F (answer_node path o)
  answer_in path None = tt
  answer_in path (Some a) = tt

  target_in : (t : Target) → F (target_node s t)
  target_in (ImportedCap e) = export_in e.0
  target_in (PromisedAnswer q path) = answer_in path (map.get s.answers q.0)

  one_in : (d : Descriptor) → F (read_one s d)
  one_in descriptor.None = tt
  one_in (descriptor.SenderHosted e) = tt
  one_in (descriptor.SenderPromise e) = tt
  one_in (descriptor.ReceiverHosted e) = export_in e.0
  one_in (descriptor.ReceiverAnswer q path) = answer_in path (map.get s.answers q.0)

  level_in : (l : Level) (d : Descriptor) → F (read_at l s d)
  level_in Zero d = tt
  level_in One d = one_in d

  all_read : (ds : List Descriptor) → AllIn F (read_all s ds)
  all_read [] = all_none F
  all_read (d ∷ ds) = all_cons A _ (read_all s ds) (level_in s.level d) (all_read ds)

  beside_read : (ds : List Descriptor) → AllIn F (nodes (read_beside s ds))
  beside_read [] = all_none F
  beside_read (d ∷ ds) = all_cons A _ (nodes (read_beside s ds)) (level_in s.level d) (beside_read ds)

  body_read : (y : ReturnBody) → AllIn F (named_by_returned (Some (results_of s y)))
  body_read (body.Results payload ds) = beside_read ds
  body_read (body.Exception exception) = all_none F
  body_read body.Canceled = all_none F

  brought_in : (m : Message) (y : Back) → Brings s m y → AllIn F (named_by_returned (Some y.said))
  brought_in m y (ByReturn r e f) = rw f (body_read r.body)
  brought_in m y (ByEchoedRoot q e f) = rw f (all_none F)
  brought_in m y (ByEchoedCall q e f) = rw f (all_none F)

  to_caps : (r : Returned) → AllIn F (named_by_returned (Some r)) → AllIn F (caps_of (value_of_results r))
  to_caps (back.Results payload caps) a = a
  to_caps (back.Exception exception) a = a

  abbrev Imports : Map Import → Type 0
  Imports m = EachIn F named_by_import m

  receives : (k : SenderKind) (m : Map Import) (e : ℕ) → Imports m → Imports (map.insert m e (received k (map.get m e)))
  receives k m e a = each_put F named_by_import m e _ (by (map.get m e) (a e)) a
    where
      by : (o : Option Import) → AllIn F (entry named_by_import e o) → AllIn F (named_by_import e (received k o))
      by None h = all_none F
      by (Some x) h = h

  takes_one : (t : State) (d : Descriptor) → Imports t.imports → Imports (take_one t d).imports
  takes_one t descriptor.None a = a
  takes_one t (descriptor.SenderHosted e) a = receives kind.Hosted t.imports e.0 a
  takes_one t (descriptor.SenderPromise e) a = receives kind.Promise t.imports e.0 a
  takes_one t (descriptor.ReceiverHosted e) a = a
  takes_one t (descriptor.ReceiverAnswer q path) a = a

  takes_each : (t : State) (ds : List Descriptor) → Imports t.imports → Imports (take_each t ds).imports
  takes_each t [] a = a
  takes_each t (d ∷ ds) a = takes_each (take_one t d) ds (takes_one t d a)

  takes_at : (l : Level) (ds : List Descriptor) → Imports (take_at l s ds).imports
  takes_at Zero ds = full.5
  takes_at One ds = takes_each s ds full.5

  taken : (ds : List Descriptor) → Imports (take_all s ds).imports
  taken ds = takes_at s.level ds

  set_in : (m : Map Import) (e : ℕ) (said : Resolution) (o : Option Import) → AllIn F (named_by_resolution (Some said)) → Imports m → Imports (updated m e (set_resolution said) o)
  set_in m e said None f a = a
  set_in m e said (Some x) f a = each_put F named_by_import m e _ f a

  resolves : (t : State) (e : ℕ) (said : Resolution) (o : Option Import) → AllIn F (named_by_resolution (Some said)) → Imports t.imports → Imports (resolve_import t e said o).imports
  resolves t e said None f a = a
  resolves t e said (Some x) f a = set_in t.imports e said (map.get t.imports e) f a

  resolved_in : (e : ℕ) (to : ResolvedTo) → Imports (take_resolve s e to).imports
  resolved_in e (resolved.Cap d) = resolves (take_all s (d ∷ [])) e _ (map.get s.imports e) (all_one F _ (level_in s.level d)) (taken (d ∷ []))
  resolved_in e (resolved.Exception exception) = resolves s e _ (map.get s.imports e) (all_none F) full.5

  lifted : (r : ℕ) (o : Option Reference) → map.get s.refs r ≡ o → EachIn (Wide w F) named_by_reference (updated s.refs r unembargoed o)
  lifted r None e = weak_refs
  lifted r (Some x) e = put_ref r _ (head r x e)

  -- ---- The first act of a message

  module _ (m : Message) (opened : (o : ObjectId) → Opens s m o → A o) where
    root_in : (o : Option ObjectId) → ((y : ObjectId) → o ≡ Some y → A y) → AllIn F (caps_of (bootstrap_value o))
    root_in None f = all_none F
    root_in (Some y) f = all_one F (node.Object y) (f y refl)

    pub consumed : (new : Moment) → Consumes (beginning s) m new → H new
    consumed new (consume.OpensRoot q o e f j h) =
        rw h (record { root = refl; names = (weak_refs, full.1, full.2, each_put F named_by_outcome s.outcomes o _ (all_none F) full.3, full.4, full.5, full.6); yet = tt; arisen = tt; coming = (root_in s.bootstrap (λ y g. opened y (subst (λ (k : Message). Opens s k y) (sym e) g)), tt); telling = tt; clearing = tt; owed = tt; deliveries = tt })
    consumed new (consume.OpensCall c o e f j h) =
        rw h (record { root = refl; names = (weak_refs, full.1, full.2, each_put F named_by_outcome s.outcomes o _ (all_none F) full.3, full.4, taken c.descriptors, full.6); yet = ((target_in c.target, all_read c.descriptors), tt); arisen = tt; coming = tt; telling = tt; clearing = tt; owed = tt; deliveries = tt })
    consumed new (consume.Loses b x e f j k h) =
        rw h (record { root = refl; names = (weak_refs, full.1, full.2, full.3, each_cut F named_by_question s.questions b.question full.4, taken b.descriptors, obeyed w A s b.flag (numbers x.given) full.6); yet = tt; arisen = tt; coming = tt; telling = tt; clearing = tt; owed = tt; deliveries = tt })
    consumed new (consume.ComesToCall b x c e f j k l h) =
        let said = brought_in m b e in
        rw h (record { root = refl; names = (weak_refs, full.1, full.2, full.3, each_put F named_by_question s.questions b.question _ said full.4, taken b.descriptors, obeyed w A s b.flag (numbers x.given) full.6); yet = tt; arisen = tt; coming = tt; telling = (to_caps b.said said, tt); clearing = tt; owed = tt; deliveries = tt })
    consumed new (consume.ComesToRelay b x o e f j k l h) =
        let said = brought_in m b e in
        rw h (record { root = refl; names = (weak_refs, full.1, full.2, full.3, each_put F named_by_question s.questions b.question _ said full.4, taken b.descriptors, obeyed w A s b.flag (numbers x.given) full.6); yet = tt; arisen = (to_caps b.said said, tt); coming = tt; telling = tt; clearing = tt; owed = tt; deliveries = tt })
    consumed new (consume.IsFinished y a e f j h) =
        rw h (record { root = refl; names = (weak_refs, full.1, full.2, full.3, full.4, full.5, obeyed w A s y.release_result_caps (gave a.returned) full.6); yet = tt; arisen = tt; coming = tt; telling = tt; clearing = tt; owed = tt; deliveries = tt })
    consumed new (consume.IsResolved r e h) =
        rw h (record { root = refl; names = (weak_refs, full.1, full.2, full.3, full.4, resolved_in r.promise.0 r.to, full.6); yet = tt; arisen = tt; coming = tt; telling = tt; clearing = tt; owed = tt; deliveries = tt })
    consumed new (consume.IsReleased r e h) =
        rw h (record { root = refl; names = (weak_refs, full.1, full.2, full.3, full.4, full.5, lower_in w A s.exports r.export.0 r.count full.6); yet = tt; arisen = tt; coming = tt; telling = tt; clearing = tt; owed = tt; deliveries = tt })
    consumed new (consume.SendsBack t to x e f h) = rw h (record { root = refl; names = here; yet = tt; arisen = tt; coming = tt; telling = tt; clearing = tt; owed = tt; deliveries = tt })
    consumed new (consume.Lifts t x b e f h) =
        let before = each_at F named_by_embargo s.embargoes x.0 b full.1 f in
        rw h (record { root = refl; names = (lifted b.reference.0 (map.get s.refs b.reference.0) refl, each_cut F named_by_embargo s.embargoes x.0 full.1, full.2, full.3, full.4, full.5, full.6); yet = all_to w A b.node b.waiting (before b.node (inl refl)) (λ n y. before n (inr y)); arisen = tt; coming = tt; telling = tt; clearing = tt; owed = tt; deliveries = tt })
    consumed new (consume.SendsForeign p e f h) = rw h (record { root = refl; names = here; yet = tt; arisen = tt; coming = tt; telling = tt; clearing = tt; owed = tt; deliveries = tt })
    consumed new (consume.SendsOther k e h) = rw h (record { root = refl; names = here; yet = tt; arisen = tt; coming = tt; telling = tt; clearing = tt; owed = tt; deliveries = tt })
    consumed new (consume.TakesBack r e h) =
        rw h (record { root = refl; names = (weak_refs, full.1, full.2, full.3, full.4, full.5, obeyed w A s true (given_by r.to) full.6); yet = tt; arisen = tt; coming = tt; telling = tt; clearing = tt; owed = tt; deliveries = tt })
    consumed new (consume.Ignores r e h) = rw h at_first
