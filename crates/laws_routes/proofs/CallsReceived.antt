-- A Call is received, and a Resolve: it may be taken, and it is still so in the middle of the step.
use Rattle.std.specs.FinMap as map
use Rattle.std.proofs.Common.{◌≡◌, ℕ, not, is_some, nat_eq, false, List, [], ◌∷◌, ◌++◌, Option, None, Some, IsSome, refl, sym, ap, ap₂, subst}
use Rattle.finite_maps.specs.Tally.{Map}
use Rattle.finite_maps.proofs.Tested.{at_put}
use Rattle.rpc_msg.specs.declared.message.Call.{Call as Call_message}
use Rattle.rpc_msg.specs.declared.message.Message.{Message}
use Rattle.rpc_msg.specs.declared.message.Message.TheVariants as message
use Rattle.rpc_msg.specs.declared.message.PlainMessage.TheVariants as plain
use Rattle.rpc_msg.specs.declared.message.Resolve.{Resolve}
use Rattle.rpc_msg.specs.declared.message.ResolvedTo.{ResolvedTo}
use Rattle.rpc_msg.specs.declared.message.ResolvedTo.TheVariants as resolved
use Rattle.rpc_msg.specs.declared.parts.Descriptor.{Descriptor}
use Rattle.rpc_msg.specs.declared.parts.Descriptor.TheVariants as descriptor
use Rattle.rpc_msg.specs.declared.parts.Target.{Target}
use Rattle.rpc_msg.specs.declared.parts.Target.TheVariants.{ImportedCap, PromisedAnswer}
use Rattle.rpc_msg.specs.Messages.{descriptors_of_resolved, given}
use Rattle.rpc_journal.specs.History.{if_so, or_rest}
use Rattle.rpc_machine.specs.declared.command.Level.{Level}
use Rattle.rpc_machine.specs.declared.command.Level.TheVariants.{One}
use Rattle.rpc_machine.specs.declared.entries.Import.{Import}
use Rattle.rpc_machine.specs.declared.entries.Resolution.{Resolution}
use Rattle.rpc_machine.specs.declared.entries.Resolution.TheVariants as resolution
use Rattle.rpc_machine.specs.declared.node.Node.{Node}
use Rattle.rpc_machine.specs.State.{State}
use Rattle.rpc_machine.specs.Advancing.{IsBroken, Leads, known_by, known_by_resolve, resolution_of}
use Rattle.rpc_machine.specs.Descriptors.{read, read_all, take_all, taken_of}
use Rattle.rpc_machine.specs.Faults.{descriptor_fault, descriptors_fault, each_fault, faults_at, plain_fault, resolve_fault, target_node}
use Rattle.rpc_machine.specs.Lists.{updated}
use Rattle.rpc_machine.specs.Messages.{TakesCall, opened, received_request, resolve_import, set_resolution, take_resolve}
use Rattle.rpc_machine.specs.Nodes.{settle}
use Rattle.rpc_machine.specs.Progress.{Progress, with_state}
use Rattle.rpc_machine.specs.Routing.{Routes}
use Rattle.laws_steps.proofs.NamedMessages.{free_answer}
use Rattle.laws_routes.specs.Laws.{with_back}
use Rattle.laws_routes.specs.Named.{EachMet}
use Rattle.laws_routes.specs.Premises.{EachMayTake, EachOpen, ExportsAreOwn, MayGoTo, MayKeep}
use Rattle.laws_routes.specs.Sayings.{has_of}
use Rattle.laws_routes.specs.SayingLaws.{EachReadable, IsReadableIn}
use Rattle.laws_routes.specs.TakingLaws.{MayTakeCall}
use Rattle.laws_routes.specs.Ties.{Around}
use Rattle.laws_routes.specs.Midway.{AllAreHeld, IsHeld, Midway, MidwayAt}
use Rattle.laws_acts.proofs.Alone.{all_alone}
use Rattle.laws_routes.proofs.FromMidway.{may_go, may_keep}
use Rattle.laws_routes.proofs.MessagesTaken.{opened_still, target_answered, target_held}
use Rattle.laws_routes.proofs.MidwayGone.{met_fewer}
use Rattle.laws_routes.proofs.MidwayKept.{all_still}
use Rattle.laws_routes.proofs.MidwayRouted.{as_routed}
use Rattle.laws_routes.proofs.MidwayTaken.{AllGivenIn, all_given, all_read, each_may_take, off, peers, read_held, taken}
use Rattle.laws_routes.proofs.ReturnTaken.{read_still}

-- ---- What is no fault

pub first_none : {X : Type 0} (a b : Option X) → or_rest a b ≡ None → a ≡ None
first_none None b e = refl
first_none (Some x) b e = cc

pub rest_none : {X : Type 0} (a b : Option X) → or_rest a b ≡ None → b ≡ None
rest_none None b e = e
rest_none (Some x) b e = cc

pub some_there : {X : Type 0} (o : Option X) (n : ℕ) → if_so (not (is_some o)) n ≡ None → IsSome o
some_there None n e = cc
some_there (Some x) n e = refl

-- What the descriptors name is there to be read.
module _ (s : State) (I : Map Import) where
  each_readable : (before ds : List Descriptor) → each_fault s before ds ≡ None → AllGivenIn I ds → EachReadable (record s { imports = I }) ds
  each_readable before [] e g = tt
  each_readable before (descriptor.None ∷ ds) e g = (tt, each_readable (descriptor.None ∷ before) ds e g.1)
  each_readable before (descriptor.SenderHosted i ∷ ds) e g = let d = descriptor.SenderHosted i in (g.0, each_readable (d ∷ before) ds (rest_none (descriptor_fault s before d) (each_fault s (d ∷ before) ds) e) g.1)
  each_readable before (descriptor.SenderPromise i ∷ ds) e g = let d = descriptor.SenderPromise i in (g.0, each_readable (d ∷ before) ds (rest_none (descriptor_fault s before d) (each_fault s (d ∷ before) ds) e) g.1)
  each_readable before (descriptor.ReceiverHosted i ∷ ds) e g = let d = descriptor.ReceiverHosted i in (tt, each_readable (d ∷ before) ds (rest_none (descriptor_fault s before d) (each_fault s (d ∷ before) ds) e) g.1)
  each_readable before (descriptor.ReceiverAnswer q path ∷ ds) e g =
      let d = descriptor.ReceiverAnswer q path in
      (some_there (map.get s.answers q.0) _ (first_none (descriptor_fault s before d) (each_fault s (d ∷ before) ds) e), each_readable (d ∷ before) ds (rest_none (descriptor_fault s before d) (each_fault s (d ∷ before) ds) e) g.1)

pub all_readable : (s : State) (ds : List Descriptor) → s.level ≡ One → descriptors_fault s ds ≡ None → EachReadable (take_all s ds) ds
all_readable s ds level e =
    subst (λ (z : State). EachReadable z ds) (sym (all_alone s ds))
    (each_readable s (take_all s ds).imports [] ds (subst (λ (l : Level). faults_at l s ds ≡ None) level e) (all_given s ds level))

-- ---- A Call

reads_still : (s : State) (I : Map Import) (ds : List Descriptor) → read_all (record s { imports = I }) ds ≡ read_all s ds
reads_still s I [] = refl
reads_still s I (d ∷ ds) = ap₂ (λ n ns. n ∷ ns) (read_still s I s.level d) (reads_still s I ds)

target_as : (s : State) (I : Map Import) (t : Target) → target_node (record s { imports = I }) t ≡ target_node s t
target_as s I (ImportedCap e) = refl
target_as s I (PromisedAnswer q path) = refl

module _ (w : Around) (d : Progress) (c : Call_message) (rest : List Message) (new : Progress) (o : ℕ) (none : map.get (d.state).answers c.question.0 ≡ None) (free : map.get (d.state).outcomes o ≡ None) (once : EachOpen (λ k. nat_eq k c.question.0 ≡ false) rest) where
  abbrev out : List Message
  out = w.out ++ d.effects.sends

  abbrev now : State → State
  now z = opened z c.question.0 o (taken_of d.state c.descriptors)

  abbrev GoesOn : State → Type 0
  GoesOn z =
      Routes (with_state d (now z)) (record { request = received_request d.state c; outcome = o }) (target_node d.state c.target) new
      → MayKeep z o × MayGoTo (now z) w.other out rest (target_node d.state c.target) × MidwayAt (with_back w rest) new

  goes_on : (I : Map Import) → Midway (record (d.state) { imports = I }) w.other out rest → AllGivenIn I c.descriptors → GoesOn (record (d.state) { imports = I })
  goes_on I h g a =
      let s = d.state in
      let u : State = record s { imports = I } in
      let one = opened_still u w.other out rest c.question.0 o (taken_of s c.descriptors) h none free once in
      let held : IsHeld (now u) (target_node s c.target) = one.1 (target_node s c.target) (subst (IsHeld u) (target_as s I c.target) (target_held u w.other out rest h c.target)) in
      let caps : AllAreHeld (now u) (read_all s c.descriptors) = subst (AllAreHeld (now u)) (reads_still s I c.descriptors) (all_still u (now u) one.1 (read_all u c.descriptors) (all_read u w.other out rest h c.descriptors g)) in
      (may_keep u w.other out rest h o free, may_go (now u) w.other out rest one.0 (target_node s c.target) held, as_routed (with_back w rest) (with_state d (now u)) (record { request = received_request s c; outcome = o }) (settle (now u) (target_node s c.target)) new one.0 caps a)

pub call : (w : Around) (d : Progress) (c : Call_message) (rest : List Message) (new : Progress) → MidwayAt (with_back w (message.Plain (plain.Call c) ∷ rest)) d → d.state.level ≡ One → plain_fault d.state (plain.Call c) ≡ None
    → EachOpen (λ k. nat_eq k c.question.0 ≡ false) rest → (a : TakesCall d c new) → MayTakeCall (with_back w rest) d c a.0 × MidwayAt (with_back w rest) new
call w d c rest new h level fine once a =
    let s = d.state in
    let ds = c.descriptors in
    let out = w.out ++ d.effects.sends in
    let back = message.Plain (plain.Call c) ∷ rest in
    let none : map.get s.answers c.question.0 ≡ None = free_answer (map.get s.answers c.question.0) _ (first_none _ _ fine) in
    let k = taken s w.other out (plain.Call c) rest h level in
    let goes = subst (GoesOn w d c rest new a.0 none a.1 once) (sym (all_alone s ds)) (goes_on w d c rest new a.0 none a.1 once (take_all s ds).imports (subst (λ (z : State). Midway z w.other out rest) (all_alone s ds) k) (all_given s ds level)) a.2 in
    let named = h.named in (
      record {
        own = λ e x f. (let b = h.exports e x f in b.0);
        takes = each_may_take s w.other out back h s.exports ds named.1.0;
        keeps = goes.0;
        answered = target_answered s c.target _ (rest_none _ _ fine);
        goes = goes.1;
      },
      goes.2,
    )

-- ---- A Resolve

leads_to : (c : Descriptor) (n : Node) (said : Descriptor) (to : Node) → known_by c n ≡ Leads said to → n ≡ to
leads_to descriptor.None n said to e = let a : IsBroken _ ≡ Leads said to = e in cc
leads_to (descriptor.SenderHosted i) n said to e = let a : Leads (descriptor.SenderHosted i) n ≡ Leads said to = e in cc
leads_to (descriptor.SenderPromise i) n said to e = let a : Leads (descriptor.SenderPromise i) n ≡ Leads said to = e in cc
leads_to (descriptor.ReceiverHosted i) n said to e = let a : Leads (descriptor.ReceiverHosted i) n ≡ Leads said to = e in cc
leads_to (descriptor.ReceiverAnswer q path) n said to e = let a : Leads (descriptor.ReceiverAnswer q path) n ≡ Leads said to = e in cc

pub known_held_by : (s : State) (c : Descriptor) (n : Node) → IsHeld s n → (said : Descriptor) (to : Node) → known_by c n ≡ Leads said to → IsHeld s to
known_held_by s c n i said to e = subst (IsHeld s) (leads_to c n said to e) i

module _ (s other : State) (out rest : List Message) (h : Midway s other out rest) (e : ℕ) (said : Resolution) (held : (c : Descriptor) (to : Node) → known_by_resolve (Some said) ≡ Leads c to → IsHeld s to) where
  put : (o : Option Import) → map.get s.imports e ≡ o → Midway (record s { imports = updated s.imports e (set_resolution said) o }) other out rest
  put None f = h
  put (Some y) f =
      let I = map.insert s.imports e (set_resolution said y) in
      let was : (k : ℕ) → IsSome (map.get I k) → IsSome (map.get s.imports k) = at_put (λ k z. IsSome z → IsSome (map.get s.imports k)) s.imports e (set_resolution said y) (λ i. subst (λ (o : Option Import). IsSome o) (sym f) refl) (λ k n i. i) in
      let named = h.named in
      peers s I s.exports s.answers s.outcomes (at_put (λ k z. IsSome (map.get s.imports k) → IsSome z) s.imports e (set_resolution said y) (λ i. refl) (λ k n i. i)) (λ o i. i) (λ o. refl) other out rest rest h
      (at_put (λ k z. (c : Descriptor) (to : Node) → known_by_resolve (resolution_of z) ≡ Leads c to → IsHeld s to) s.imports e (set_resolution said y) held (λ k n c to a. h.resolved k c to a)) h.holds h.exports (λ k i. h.imported k (was k i)) h.answers h.pending h.awaited
      h.returns h.answered h.met (named.0, met_fewer other.exports s.exports (has_of [] s.imports s.questions) (has_of [] I s.questions) rest was named.1) h.echoed

  resolved_still : (before : Option Import) → Midway (resolve_import s e said before) other out rest
  resolved_still None = h
  resolved_still (Some x) = put (map.get s.imports e) refl

pub resolve : (w : Around) (d : Progress) (e : ℕ) (to : ResolvedTo) (r : Resolve) (rest : List Message) (new : Progress) → r.to ≡ to → MidwayAt (with_back w (message.Plain (plain.Resolve r) ∷ rest)) d → d.state.level ≡ One
    → resolve_fault d.state to ≡ None → new ≡ with_state d (take_resolve d.state e to)
    → (ExportsAreOwn d.state × EachMayTake d.state w.other (given (descriptors_of_resolved to)) × (d.state.level ≡ One → IsReadableIn (take_all d.state (descriptors_of_resolved to)) to)) × MidwayAt (with_back w rest) new
resolve w d e (resolved.Cap c) r rest new q h level fine a =
    let s = d.state in
    let ds = c ∷ [] in
    let out = w.out ++ d.effects.sends in
    let u = take_all s ds in
    let k : Midway u w.other out rest = subst (λ (x : ResolvedTo). Midway (take_all s (descriptors_of_resolved x)) w.other out rest) q (taken s w.other out (plain.Resolve r) rest h level) in
    let there = all_given s ds level in
    let named = h.named in
    let met = subst (λ (x : ResolvedTo). EachMet w.other.exports s.exports (descriptors_of_resolved x)) q named.1.0 in
    let held : IsHeld u (read s c) = subst (λ (z : State). IsHeld z (read s c)) (sym (all_alone s ds)) (subst (IsHeld (record s { imports = u.imports })) (read_still s u.imports s.level c)
    (read_held (record s { imports = u.imports }) w.other out rest (subst (λ (z : State). Midway z w.other out rest) (all_alone s ds) k) c there.0)) in (
      (
        λ e x f. (let b = h.exports e x f in b.0),
        each_may_take s w.other out (message.Plain (plain.Resolve r) ∷ rest) h s.exports ds met,
        λ l. (let b = all_readable s ds level fine in b.0),
      ),
      subst (MidwayAt (with_back w rest)) (sym a) (resolved_still u w.other out rest k e (resolution.To c (read s c)) (known_held_by u c (read s c) held) (map.get s.imports e)),
    )
resolve w d e (resolved.Exception exception) r rest new q h level fine a =
    let s = d.state in
    let out = w.out ++ d.effects.sends in
    let k = off s w.other out (plain.Resolve r) rest (ap descriptors_of_resolved q) h level in (
      (λ e x f. (let b = h.exports e x f in b.0), tt, λ l. tt),
      subst (MidwayAt (with_back w rest)) (sym a) (resolved_still s w.other out rest k e (resolution.Exception exception) (λ c to f. (let b : IsBroken _ ≡ Leads c to = f in cc)) (map.get s.imports e)),
    )
