-- A command that settles nothing does its first act: it is still so in the middle of the step.
use Rattle.std.specs.FinMap as map
use Rattle.std.proofs.Common.{◌≡◌, inl, inr, ℕ, ◌+◌, nat_eq, false, List, [], ◌∷◌, ◌++◌, append_assoc, Option, None, Some, IsSome, refl, sym, ap, subst, ◌∙◌}
use Rattle.finite_maps.specs.Tally.{Map}
use Rattle.finite_maps.proofs.Gets.{get-insert_same}
use Rattle.finite_maps.proofs.Tested.{apart, at_cut, at_put, sides}
use Rattle.rpc_msg.specs.Op.{Op}
use Rattle.rpc_msg.specs.Op.TheVariants.{Noop, Field}
use Rattle.rpc_msg.specs.declared.ids.EmbargoId.{EmbargoId}
use Rattle.rpc_msg.specs.declared.ids.RefId.{RefId}
use Rattle.rpc_msg.specs.declared.message.DisembargoContext.TheVariants.{SenderLoopback}
use Rattle.rpc_msg.specs.declared.message.Message.{Message}
use Rattle.rpc_msg.specs.declared.message.Message.TheVariants as message
use Rattle.rpc_msg.specs.declared.message.PlainMessage.TheVariants as plain
use Rattle.rpc_msg.specs.declared.parts.Descriptor.{Descriptor}
use Rattle.rpc_msg.specs.declared.parts.Descriptor.TheVariants as descriptor
use Rattle.rpc_msg.specs.declared.parts.Target.{Target}
use Rattle.rpc_msg.specs.declared.parts.Target.TheVariants.{ImportedCap, PromisedAnswer}
use Rattle.rpc_msg.specs.Paths.{fields}
use Rattle.rpc_machine.specs.declared.calls.Caller.TheVariants as caller_of
use Rattle.rpc_machine.specs.declared.calls.KeptOutcome.{KeptOutcome}
use Rattle.rpc_machine.specs.declared.calls.OwnCall.{OwnCall}
use Rattle.rpc_machine.specs.declared.calls.OwnCall.TheVariants as own_call
use Rattle.rpc_machine.specs.declared.calls.Promise.{Promise}
use Rattle.rpc_machine.specs.declared.calls.Promise.TheVariants as promise
use Rattle.rpc_machine.specs.declared.calls.Request.{Request}
use Rattle.rpc_machine.specs.declared.calls.WaitingCall.{WaitingCall}
use Rattle.rpc_machine.specs.declared.command.CallCommand.{CallCommand}
use Rattle.rpc_machine.specs.declared.command.Command.{Command}
use Rattle.rpc_machine.specs.declared.command.Command.TheVariants as command
use Rattle.rpc_machine.specs.declared.command.Granted.{Granted}
use Rattle.rpc_machine.specs.declared.entries.Embargo.{Embargo}
use Rattle.rpc_machine.specs.declared.entries.Finishing.TheVariants as finishing
use Rattle.rpc_machine.specs.declared.entries.Question.{Question}
use Rattle.rpc_machine.specs.declared.entries.Reference.{Reference}
use Rattle.rpc_machine.specs.declared.entries.Role.TheVariants as role
use Rattle.rpc_machine.specs.declared.node.Node.{Node}
use Rattle.rpc_machine.specs.declared.node.Node.TheVariants as node
use Rattle.rpc_machine.specs.State.{State}
use Rattle.rpc_machine.specs.Nodes.{promise_link, settle}
use Rattle.rpc_machine.specs.Advancing.{Advances, AdvancesBy, AdvancesFrom, AdvancesTo, Embargoes, IsBroken, Known, Leads, NothingYet, headed, known_by_return, known_of_wire, returned_of, wire_target}
use Rattle.rpc_machine.specs.Commands.{Acts, AsksBootstrap, CallsBy, CallsDirect, CallsHere, CallsThrough, ClonesRef, DropsRef, FinishesCall, MakesCall, MakesPromise, NamesField, WaitsForEmbargo, counted, head_of, heads, kept, request}
use Rattle.rpc_machine.specs.Progress.{Progress, with_refs, with_state}
use Rattle.laws_steps.specs.Callers.{HasSource, IsAskedFor, IsFor}
use Rattle.laws_routes.specs.MakingLaws.{EmbargoIsThere}
use Rattle.laws_routes.specs.Named.{EachReturn}
use Rattle.laws_routes.specs.Premises.{EachOpen, IsUnfinished}
use Rattle.laws_routes.specs.Sayings.{has_of}
use Rattle.laws_order.specs.Machine as routing
use Rattle.laws_routes.specs.Points.{routes}
use Rattle.laws_routes.specs.Ghosts.{ref_at}
use Rattle.laws_routes.specs.Sides.{HasEmbargo, IsEmbargo, IsEmbargoOf, IsRef}
use Rattle.laws_routes.specs.Ties.{Around, Ghosts, Tied}
use Rattle.laws_routes.specs.Midway.{AllAreHeld, CallsAreHeld, IsHeld, Midway, MidwayAt, Settles}
use Rattle.laws_routes.specs.FirstActs.{CallsHaveSources, EmbargoesAreNamed}
use Rattle.laws_routes.proofs.LinkShapes.{loops_map, open_map}
use Rattle.laws_routes.proofs.MidwayKept.{all_still, counted_still, held_more, kept_still, moved}
use Rattle.laws_routes.proofs.MidwayRouted.{as_routed, asked, asks_still, unreturned, calls_more, loops_more, met_alike, met_more, opens_more, refs_still}
use Rattle.laws_routes.proofs.MidwaySaid.{goes_out}
use Rattle.laws_routes.proofs.MidwayTurned.{pairs_as, turned}
use Rattle.laws_routes.proofs.SayingsCarried.{return_map}

-- ---- Heads and new references

pub heads_held : (s other : State) (out back : List Message) → Midway s other out back → (refs : List RefId) → AllAreHeld s (heads s refs)
heads_held s other out back h [] = tt
heads_held s other out back h (r ∷ refs) = (by (map.get s.refs r.0) refl, heads_held s other out back h refs)
  where
    by : (o : Option Reference) → map.get s.refs r.0 ≡ o → IsHeld s (head_of o)
    by None e = (tt, tt)
    by (Some x) e = h.heads r.0 x e

new_ref : (w : Around) (d : Progress) (n : Node) (new : Progress) → MidwayAt w d → IsHeld d.state n → new ≡ with_state d (with_refs d.state (n ∷ [])) → MidwayAt w new
new_ref w d n new h i e = subst (MidwayAt w) (sym e) (refs_still (n ∷ []) d.state w.other (w.out ++ d.effects.sends) w.back h (i, tt))

pub fields_again : (path : List Op) → fields (fields path) ≡ fields path
fields_again [] = refl
fields_again (Noop ∷ path) = fields_again path
fields_again (Field i ∷ path) = ap (λ ops. Field i ∷ ops) (fields_again path)

-- ---- A call is made

module _ (w : Around) (c : WaitingCall) where
  waits_for_embargo : (d : Progress) (e : ℕ) (o : Option Embargo) (new : Progress) → map.get d.state.embargoes e ≡ o → MidwayAt w d → AllAreHeld d.state c.request.caps → WaitsForEmbargo d c e o new → MidwayAt w new
  waits_for_embargo d e None new at h i a = absurd a
  waits_for_embargo d e (Some b) new at h i a =
      let s = d.state in
      let out = w.out ++ d.effects.sends in
      let y : Embargo = record b { waiting = b.waiting ++ c ∷ [] } in
      let B = map.insert s.embargoes e y in
      let on : (r k : ℕ) → IsEmbargoOf r (map.get s.embargoes k) → IsEmbargoOf r (map.get B k) =
      λ r. at_put (λ k z. IsEmbargoOf r (map.get s.embargoes k) → IsEmbargoOf r z) s.embargoes e y (λ j. subst (IsEmbargoOf r) at j) (λ k n j. j) in
      let off : (r k : ℕ) → IsEmbargoOf r (map.get B k) → IsEmbargoOf r (map.get s.embargoes k) =
      λ r. at_put (λ k z. IsEmbargoOf r z → IsEmbargoOf r (map.get s.embargoes k)) s.embargoes e y (λ j. subst (IsEmbargoOf r) (sym at) j) (λ k n j. j) in
      let more : (k : ℕ) → IsSome (map.get s.embargoes k) → IsSome (map.get B k) = at_put (λ k z. IsSome (map.get s.embargoes k) → IsSome z) s.embargoes e y (λ j. refl) (λ k n j. j) in
      subst (MidwayAt w) (sym a)
      (turned s s.refs B s.unsettled s.next_promise w.other out w.back h h.heads
      (at_put (λ k z. (u : Embargo) → z ≡ Some u → IsHeld s u.node) s.embargoes e y (λ u f. (let g : y ≡ u = cc in subst (λ (u : Embargo). IsHeld s u.node) g (h.embargoes e b at))) (λ k n u f. h.embargoes k u f))
      (at_put (λ k z. (u : Embargo) → z ≡ Some u → CallsAreHeld s u.waiting) s.embargoes e y (λ u f. (let g : y ≡ u = cc in subst (λ (u : Embargo). CallsAreHeld s u.waiting) g (calls_more s b.waiting c (h.keeps e b at) i))) (λ k n u f. h.keeps k u f))
      (λ r x f. pairs_as s (record s { embargoes = B }) r (on r) (off r) x.embargo (h.paired r x f))
      (loops_map _ _ _ _ out more (λ k j. j) h.sent) (loops_map _ _ _ _ w.back (λ k j. j) more h.echoed))

-- The outcome of the call is kept.
module _ (w : Around) (d : Progress) (c : ℕ) (r : Request) (h : MidwayAt w d) (i : AllAreHeld d.state r.caps) where
  kept_at : (o : ℕ) → map.get d.state.outcomes o ≡ None → MidwayAt w (kept d c o) × AllAreHeld (kept d c o).state r.caps
  kept_at o free =
      let s = d.state in
      let y : KeptOutcome = record { caller = caller_of.Application (record { 0 = c }); value = None; waiting = [] } in
      let held : (n : Node) → IsHeld s n → IsHeld (kept d c o).state n =
      held_more s s.refs s.promises (map.insert s.outcomes o y) (map.insert s.calls c (own_call.Kept o)) s.tasks s.next_ref s.next_call s.next_task (λ p j. j) (at_put (λ k z. IsSome (map.get s.outcomes k) → IsSome z) s.outcomes o y (λ j. refl) (λ k n j. j)) in
      (kept_still s w.other (w.out ++ d.effects.sends) w.back h c o free, all_still s (kept d c o).state held r.caps i)

  calls_here : (n : Node) (new : Progress) → CallsHere d c r n new → MidwayAt w new
  calls_here n new a =
      let k = kept_at a.0 a.1 in
      as_routed w (kept d c a.0) (record { request = r; outcome = a.0 }) (settle (kept d c a.0).state n) new k.0 k.1 a.2

  calls_direct : (target : Target) (new : Progress) → CallsDirect d c r target new → MidwayAt w new
  calls_direct target new a =
      let s = d.state in
      let C = map.insert s.calls c (own_call.Direct (record { 0 = a.0 })) in
      let u : State = record s { calls = C } in
      let held : (n : Node) → IsHeld s n → IsHeld u n = held_more s s.refs s.promises s.outcomes C s.tasks s.next_ref s.next_call s.next_task (λ p j. j) (λ o j. j) in
      let one : MidwayAt w (with_state d u) =
      moved s w.other (w.out ++ d.effects.sends) w.back h s.refs s.promises s.outcomes C s.tasks s.next_ref s.next_call s.next_task h.heads h.paired (λ p j. j) (λ p. refl) (λ o j. j) (λ o. refl) h.waits h.holds (λ o q j. j) (λ o q j. j) in
      asks_still w (with_state d u) a.0 (role.Direct (record { 0 = c })) target r new one (all_still s u held r.caps i) a.1

  calls_by : (head n : Node) (new : Progress) → CallsBy d c r head n new → MidwayAt w new
  calls_by head (node.Object o) new a = calls_here head new a
  calls_by head (node.Promise p) new a = calls_here head new a
  calls_by head (node.Field o path) new a = calls_here head new a
  calls_by head (node.Import e) new a = calls_direct (ImportedCap e) new a
  calls_by head (node.Pipe q path) new a = calls_direct (PromisedAnswer q path) new a
  calls_by head (node.Broken reason) new a = calls_here head new a

  calls_through : (head : Node) (o : Option EmbargoId) (new : Progress) → CallsThrough d c r head o new → MidwayAt w new
  calls_through head None new a = calls_by head (settle d.state head) new a
  calls_through head (Some e) new a =
      let k = kept_at a.0 a.1 in
      waits_for_embargo w (record { request = r; outcome = a.0 }) (kept d c a.0) e.0 (map.get d.state.embargoes e.0) new refl k.0 k.1 a.2

-- ---- A reference advances

-- What is known of a wire leads to what is held.
known_held : (s other : State) (out back : List Message) → Midway s other out back → (k : Node) (said : Descriptor) (to : Node) → known_of_wire s k ≡ Leads said to → IsHeld s to
known_held s other out back h (node.Object o) said to e = let a : NothingYet ≡ Leads said to = e in cc
known_held s other out back h (node.Promise p) said to e = let a : NothingYet ≡ Leads said to = e in cc
known_held s other out back h (node.Field o path) said to e = let a : NothingYet ≡ Leads said to = e in cc
known_held s other out back h (node.Import x) said to e = h.resolved x.0 said to e
known_held s other out back h (node.Pipe q path) said to e = h.returned q.0 path said to e
known_held s other out back h (node.Broken reason) said to e = let a : NothingYet ≡ Leads said to = e in cc

module _ (w : Around) (d : Progress) (r : ℕ) (x : Reference) (h : MidwayAt w d) (named : EmbargoesAreNamed d.state) (at : map.get d.state.refs r ≡ Some x) (none : x.embargo ≡ None) where
  abbrev s : State
  s = d.state

  abbrev out : List Message
  out = w.out ++ d.effects.sends

  goes_to : (n : Node) (new : Progress) → IsHeld s n → new ≡ headed d r x n → MidwayAt w new
  goes_to n new i a =
      let y : Reference = record x { head = n } in
      subst (MidwayAt w) (sym a)
      (turned s (map.insert s.refs r y) s.embargoes s.unsettled s.next_promise w.other out w.back h
      (at_put (λ k o. (z : Reference) → o ≡ Some z → IsHeld s z.head) s.refs r y (λ z e. (let g : y ≡ z = cc in subst (λ (z : Reference). IsHeld s z.head) g i)) (λ k n z e. h.heads k z e)) h.embargoes h.keeps
      (at_put (λ k o. (z : Reference) → o ≡ Some z → EmbargoIsThere s k z.embargo) s.refs r y (λ z e. (let g : y ≡ z = cc in subst (λ (z : Reference). EmbargoIsThere s r z.embargo) g (h.paired r x at))) (λ k n z e. h.paired k z e))
      h.sent h.echoed)

  module _ (e : ℕ) (n : Node) (free : map.get s.embargoes e ≡ None) (i : IsHeld s n) where
    abbrev y : Reference
    y = record { head = n; embargo = Some (record { 0 = e }); made = x.made }

    abbrev b : Embargo
    b = record { reference = record { 0 = r }; node = n; waiting = [] }

    abbrev B : Map Embargo
    B = map.insert s.embargoes e b

    abbrev u : State
    u = record s { refs = map.insert s.refs r y; embargoes = B }

    more : (k : ℕ) → IsSome (map.get s.embargoes k) → IsSome (map.get B k)
    more = at_put (λ k z. IsSome (map.get s.embargoes k) → IsSome z) s.embargoes e b (λ j. refl) (λ k n j. j)

    only : (k : ℕ) (z : Embargo) → map.get B k ≡ Some z → z.reference.0 ≡ r → k ≡ e
    only = at_put (λ k o. (z : Embargo) → o ≡ Some z → z.reference.0 ≡ r → k ≡ e) s.embargoes e b (λ z f j. refl) (λ k l z f j. absurd (named r x at none k (subst (IsEmbargoOf r) (sym f) j)))

    here : EmbargoIsThere u r (Some (record { 0 = e }))
    here = (subst (IsEmbargoOf r) (sym (get-insert_same s.embargoes e b)) refl, only)

    others : (k : ℕ) → nat_eq k r ≡ false → (z : Reference) → map.get s.refs k ≡ Some z → EmbargoIsThere u k z.embargo
    others k l z f = pairs_as s u k
        (at_put (λ j o. IsEmbargoOf k (map.get s.embargoes j) → IsEmbargoOf k o) s.embargoes e b (λ j. absurd (subst (IsEmbargoOf k) free j)) (λ j m a. a))
        (at_put (λ j o. IsEmbargoOf k o → IsEmbargoOf k (map.get s.embargoes j)) s.embargoes e b (λ j. absurd (apart k r l (sym j))) (λ j m a. a))
        z.embargo (h.paired k z f)

    turns : Midway u w.other out w.back
    turns =
        turned s (map.insert s.refs r y) B s.unsettled s.next_promise w.other out w.back h
        (at_put (λ k o. (z : Reference) → o ≡ Some z → IsHeld s z.head) s.refs r y (λ z e. (let g : y ≡ z = cc in subst (λ (z : Reference). IsHeld s z.head) g i)) (λ k n z e. h.heads k z e))
        (at_put (λ k z. (v : Embargo) → z ≡ Some v → IsHeld s v.node) s.embargoes e b (λ v f. (let g : b ≡ v = cc in subst (λ (v : Embargo). IsHeld s v.node) g i)) (λ k n v f. h.embargoes k v f))
        (at_put (λ k z. (v : Embargo) → z ≡ Some v → CallsAreHeld s v.waiting) s.embargoes e b (λ v f. (let g : b ≡ v = cc in subst (λ (v : Embargo). CallsAreHeld s v.waiting) g tt)) (λ k n v f. h.keeps k v f))
        (at_put (λ k o. (z : Reference) → o ≡ Some z → EmbargoIsThere u k z.embargo) s.refs r y (λ z e. (let g : y ≡ z = cc in subst (λ (z : Reference). EmbargoIsThere u r z.embargo) g here)) others)
        (loops_map _ _ _ _ out more (λ k j. j) h.sent) (loops_map _ _ _ _ w.back (λ k j. j) more h.echoed)

    said : (t : Target) → Midway u w.other (w.out ++ (d.effects.sends ++ message.Plain (plain.Disembargo (record { target = t; context = SenderLoopback (record { 0 = e }) })) ∷ [])) w.back
    said t =
        let m = message.Plain (plain.Disembargo (record { target = t; context = SenderLoopback (record { 0 = e }) })) in
        subst (λ (ms : List Message). Midway u w.other ms w.back) (append_assoc w.out d.effects.sends (m ∷ []))
        (goes_out u w.other out w.back m turns (λ P. tt) (λ has. (tt, tt, tt)) (subst (λ (o : Option Embargo). IsSome o) (sym (get-insert_same s.embargoes e b)) refl, tt))

  turns_to : (t : Option Target) (n : Node) (granted : Granted) (new : Progress) → IsHeld s n → Embargoes d r x t n granted new → MidwayAt w new
  turns_to None n granted new i a = absurd a
  turns_to (Some t) n granted new i a = subst (MidwayAt w) (sym a.1.2) (said a.1.0 n a.1.1 i t)

  by_said : (k : Node) (said : Descriptor) (n : Node) (granted : Granted) (new : Progress) → IsHeld s n → AdvancesBy d r x k said n granted new → MidwayAt w new
  by_said k descriptor.None n granted new i a = absurd a
  by_said k (descriptor.SenderHosted e) n granted new i a = goes_to n new i a.1
  by_said k (descriptor.SenderPromise e) n granted new i a = goes_to n new i a.1
  by_said k (descriptor.ReceiverHosted e) n granted new i a = turns_to (wire_target k) n granted new i a
  by_said k (descriptor.ReceiverAnswer q path) n granted new i a = turns_to (wire_target k) n granted new i a

  advances_to : (k : Node) (known : Known) (granted : Granted) (new : Progress) → known_of_wire s k ≡ known → AdvancesTo d r x k known granted new → MidwayAt w new
  advances_to k NothingYet granted new e a = subst (MidwayAt w) (sym a.1) h
  advances_to k (IsBroken reason) granted new e a = goes_to (node.Broken reason) new (tt, tt) a.1
  advances_to k (Leads said n) granted new e (inl a) = subst (MidwayAt w) (sym a.1.1) h
  advances_to k (Leads said n) granted new e (inr a) = by_said k said n granted new (known_held s w.other out w.back h k said n e) a.1

advances_from : (w : Around) (d : Progress) (r : ℕ) (x : Reference) (o : Option EmbargoId) (granted : Granted) (new : Progress) → MidwayAt w d → EmbargoesAreNamed d.state → map.get d.state.refs r ≡ Some x → x.embargo ≡ o → AdvancesFrom d r x o granted new → MidwayAt w new
advances_from w d r x (Some e) granted new h named at is a = subst (MidwayAt w) (sym a.1) h
advances_from w d r x None granted new h named at is a = advances_to w d r x h named at is (settle d.state x.head) (known_of_wire d.state (settle d.state x.head)) granted new refl a

-- ---- All

module _ (w : Around) (d : Progress) (granted : Granted) (new : Progress) (h : MidwayAt w d) where
  abbrev old : State
  old = d.state

  abbrev going : List Message
  going = w.out ++ d.effects.sends

  clones : (r : ℕ) (o : Option Reference) → map.get old.refs r ≡ o → ClonesRef d o granted new → MidwayAt w new
  clones r None e a = absurd a
  clones r (Some x) e a = new_ref w d x.head new h (h.heads r x e) a.1

  drops : (r : ℕ) (o : Option Reference) → DropsRef d r o granted new → MidwayAt w new
  drops r None a = absurd a
  drops r (Some x) a =
      subst (MidwayAt w) (sym a.1)
      (turned old (map.remove old.refs r) old.embargoes old.unsettled old.next_promise w.other going w.back h
      (at_cut (λ k o. (z : Reference) → o ≡ Some z → IsHeld old z.head) old.refs r (λ z e. cc) (λ k n z e. h.heads k z e)) h.embargoes h.keeps
      (at_cut (λ k o. (z : Reference) → o ≡ Some z → EmbargoIsThere old k z.embargo) old.refs r (λ z e. cc) (λ k n z e. h.paired k z e)) h.sent h.echoed)

  asks : AsksBootstrap d granted new → MidwayAt w new
  asks a =
      let q = a.0 in
      let x : Question = record { role = role.Direct (record { 0 = old.next_call }); given = []; returned = None; finish = finishing.Owed } in
      let Q = map.insert old.questions q x in
      let m = message.Plain (plain.Bootstrap (record { 0 = q })) in
      let is : (j : ℕ) → IsSome (map.get old.questions j) → IsSome (map.get Q j) = at_put (λ j o. IsSome (map.get old.questions j) → IsSome o) old.questions q x (λ i. refl) (λ j n i. i) in
      let here : IsSome (map.get Q q) = subst (λ (o : Option Question). IsSome o) (sym (get-insert_same old.questions q x)) refl in
      let one : Midway (record old { questions = Q }) w.other (going ++ m ∷ []) w.back =
      asked old old.exports Q (at_put (λ j o. IsUnfinished (map.get old.questions j) → IsUnfinished o) old.questions q x (λ i. tt) (λ j n i. i)) w.other going (going ++ m ∷ []) w.back h h.exports
      (λ j path. at_put (λ j o. (said : Descriptor) (to : Node) → known_by_return path (returned_of o) ≡ Leads said to → IsHeld old to) old.questions q x (λ said to e. (let b : NothingYet ≡ Leads said to = e in cc)) (λ j n said to e. h.returned j path said to e) j)
      (opens_more _ going m (open_map _ _ going is h.opens) here) (return_map _ _ w.back is h.returns)
      (λ j. at_put (λ j o. (y : Question) → o ≡ Some y → IsSome y.returned → EachOpen (λ k. nat_eq k j ≡ false) (going ++ m ∷ []) × EachReturn (λ k. nat_eq k j ≡ false) w.back) old.questions q x (λ y e i. absurd (unreturned x y refl (let b : x ≡ y = cc in b) i))
      (λ j n y e i. (let b = h.answered j y e i in (opens_more _ going m b.0 (sides q j ∙ n), b.1))) j) (λ e i. i)
      (met_more old.exports w.other.exports (has_of [] w.other.imports w.other.questions) going m h.named.0 (λ has. (tt, tt, tt)), met_alike w.other.exports old.exports (has_of [] old.imports old.questions) (has_of [] old.imports Q) w.back refl h.named.1)
      (loops_more _ _ going m h.sent tt) in
      let u : State = record old { questions = Q } in
      let two : Midway (record u { calls = map.insert old.calls old.next_call (own_call.Direct (record { 0 = q })); next_call = old.next_call + 1 }) w.other (going ++ m ∷ []) w.back =
      moved u w.other (going ++ m ∷ []) w.back one u.refs u.promises u.outcomes (map.insert old.calls old.next_call (own_call.Direct (record { 0 = q }))) u.tasks u.next_ref (old.next_call + 1) u.next_task one.heads one.paired (λ p j. j) (λ p. refl) (λ o j. j) (λ o. refl) one.waits one.holds (λ o q j. j) (λ o q j. j) in
      subst (MidwayAt w) (sym a.3)
      (subst (λ (ms : List Message). Midway (record u { calls = map.insert old.calls old.next_call (own_call.Direct (record { 0 = q })); next_call = old.next_call + 1 }) w.other ms w.back) (append_assoc w.out d.effects.sends (m ∷ [])) two)

  makes : (c : CallCommand) (o : Option Reference) → map.get old.refs c.reference.0 ≡ o → MakesCall d c o granted new → MidwayAt w new
  makes c None e a = absurd a
  makes c (Some x) e a =
      let r = c.reference.0 in
      let u = counted old r x in
      let one = counted_still old w.other going w.back h r x e in
      let held : (n : Node) → IsHeld old n → IsHeld u n = held_more old (map.insert old.refs r (record x { made = x.made + 1 })) old.promises old.outcomes old.calls old.tasks old.next_ref (old.next_call + 1) old.next_task (λ p j. j) (λ o j. j) in
      calls_through w (with_state d u) old.next_call (request old c x) one (all_still old u held (heads old c.refs) (heads_held old w.other going w.back h c.refs)) x.head x.embargo new a.1

  names_field : (c : ℕ) (path : List Op) (o : Option OwnCall) → HasSource old c o → NamesField d path o granted new → MidwayAt w new
  names_field c path None i a = absurd a
  names_field c path (Some (own_call.Direct q)) i a = new_ref w d (node.Pipe q (fields path)) new h (tt, (unfinished (map.get old.questions q.0) i, fields_again path)) a.1
    where
      unfinished : (z : Option Question) → IsAskedFor c z → IsUnfinished z
      unfinished None j = absurd j
      unfinished (Some x) j = j.1
  names_field c path (Some (own_call.Kept o)) i a = new_ref w d (node.Field o (fields path)) new h (kept_there (map.get old.outcomes o) i, tt) a.1
    where
      kept_there : (z : Option KeptOutcome) → IsFor (caller_of.Application (record { 0 = c })) z → IsSome z
      kept_there None j = absurd j
      kept_there (Some x) j = refl

  promises : MakesPromise d granted new → MidwayAt w new
  promises a =
      let p = a.0 in
      let x : Promise = promise.Open [] in
      let P = map.insert old.promises p x in
      let u : State = record old { promises = P } in
      let one : Midway u w.other going w.back =
      moved old w.other going w.back h old.refs P old.outcomes old.calls old.tasks old.next_ref old.next_call old.next_task h.heads h.paired
      (at_put (λ k z. IsSome (map.get old.promises k) → IsSome z) old.promises p x (λ i. refl) (λ k n i. i))
      (at_put (λ k z. promise_link z ≡ promise_link (map.get old.promises k)) old.promises p x (sym (ap promise_link a.1)) (λ k n. refl)) (λ o i. i) (λ o. refl)
      (at_put (λ k z. (ds : List WaitingCall) → z ≡ Some (promise.Open ds) → CallsAreHeld old ds) old.promises p x (λ ds f. (let g : promise.Open [] ≡ promise.Open ds = cc in let b : [] ≡ ds = cc in subst (CallsAreHeld old) b tt)) (λ k n ds f. h.waits k ds f)) h.holds (λ o q i. i) (λ o q i. i) in
      let U = map.insert old.unsettled old.next_promise p in
      let two : Midway (record u { unsettled = U; next_promise = old.next_promise + 1 }) w.other going w.back = turned u u.refs u.embargoes U (old.next_promise + 1) w.other going w.back one one.heads one.embargoes one.keeps one.paired one.sent one.echoed in
      let there : IsSome (map.get P p) = subst (λ (o : Option Promise). IsSome o) (sym (get-insert_same old.promises p x)) refl in
      new_ref w (with_state d (record u { unsettled = U; next_promise = old.next_promise + 1 })) (node.Promise p) new two (there, tt) a.3

  finishes : (c : ℕ) (o : Option OwnCall) → FinishesCall d c o granted new → MidwayAt w new
  finishes c None a = absurd a
  finishes c (Some x) a =
      subst (MidwayAt w) (sym a.1)
      (moved old w.other going w.back h old.refs old.promises old.outcomes (map.remove old.calls c) old.tasks old.next_ref old.next_call old.next_task h.heads h.paired (λ p j. j) (λ p. refl) (λ o j. j) (λ o. refl) h.waits h.holds (λ o q j. j) (λ o q j. j))

  advances : (r : ℕ) (o : Option Reference) → map.get old.refs r ≡ o → EmbargoesAreNamed old → Advances d r o granted new → MidwayAt w new
  advances r None e named a = absurd a
  advances r (Some x) e named a = advances_from w d r x x.embargo granted new h named e refl a

  acts : (c : Command) → EmbargoesAreNamed old → CallsHaveSources old → (Settles c → ⊥) → Acts d c granted new → MidwayAt w new
  acts (command.Host o) named has quiet a = new_ref w d (node.Object o) new h (tt, tt) a.1
  acts (command.CloneRef r) named has quiet a = clones r.0 (map.get old.refs r.0) refl a
  acts (command.DropRef r) named has quiet a = drops r.0 (map.get old.refs r.0) a
  acts command.Bootstrap named has quiet a = asks a
  acts (command.Call c) named has quiet a = makes c (map.get old.refs c.reference.0) refl a
  acts (command.Field c path) named has quiet a = names_field c.0 path (map.get old.calls c.0) (has c.0) a
  acts command.Promise named has quiet a = promises a
  acts (command.Resolve p r) named has quiet a = absurd (quiet tt)
  acts (command.Reject p exception) named has quiet a = absurd (quiet tt)
  acts (command.Answer t payload refs) named has quiet a = absurd (quiet tt)
  acts (command.Fail t exception) named has quiet a = absurd (quiet tt)
  acts (command.Finish c) named has quiet a = finishes c.0 (map.get old.calls c.0) a
  acts (command.Advance r) named has quiet a = advances r.0 (map.get old.refs r.0) refl named a
  acts (command.Shut n) named has quiet a = absurd a

pub others_kept : (w : Around) (d : Progress) (c : Command) (granted : Granted) (new : Progress) → MidwayAt w d → EmbargoesAreNamed d.state → CallsHaveSources d.state → (Settles c → ⊥) → Acts d c granted new → MidwayAt w new
others_kept w d c granted new h named has quiet a = acts w d granted new h c named has quiet a

-- ---- Embargoes of vats that are tied

pub embargoes_named : (w : Around) (d : Progress) (g : Ghosts) (m : routing.State routes) → Tied w d g m → EmbargoesAreNamed d.state
embargoes_named w d g m t r x at none e i = by (map.get d.state.embargoes e) refl i
  where
    by : (o : Option Embargo) → map.get (d.state).embargoes e ≡ o → IsEmbargoOf r o → ⊥
    by None f j = j
    by (Some b) f j =
        let own = t.own in
        let has : IsEmbargo w.vat g.own b (m.refs (ref_at w.vat b.reference.0)) = subst (HasEmbargo w.vat g.own m) f (own.embargoes e) in
        let is : (m.refs (ref_at w.vat r)).embargo ≡ Some has.0 = subst (λ (k : ℕ). (m.refs (ref_at w.vat k)).embargo ≡ Some has.0) j has.1 in
        let ref = subst (λ o. IsRef w.vat g.own (d.state).next_ref r o (m.refs (ref_at w.vat r))) at (own.refs r) in
        let none_there : (m.refs (ref_at w.vat r)).embargo ≡ None = ref.4 none in
        let a : Some has.0 ≡ None = sym is ∙ none_there in
        cc
