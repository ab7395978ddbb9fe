-- A Return is received: it may be taken, and it is still so in the middle of the step.
use Rattle.std.specs.FinMap as map
use Rattle.std.proofs.Common.{◌≡◌, ℕ, zero, suc, Bool, nat_eq, true, false, List, [], ◌∷◌, ◌++◌, Option, None, Some, IsSome, refl, sym, ap, subst, ◌∙◌}
use Rattle.finite_maps.specs.Tally.{Map}
use Rattle.finite_maps.proofs.Tested.{at_cut, at_put, itself}
use Rattle.rpc_msg.specs.CapAt.{CapAt}
use Rattle.rpc_msg.specs.CapAt.TheVariants.{Cap, Null, NotCap}
use Rattle.rpc_msg.specs.Op.{Op}
use Rattle.rpc_msg.specs.declared.message.Message.{Message}
use Rattle.rpc_msg.specs.declared.message.Message.TheVariants as message
use Rattle.rpc_msg.specs.declared.message.PlainMessage.{PlainMessage}
use Rattle.rpc_msg.specs.declared.message.PlainMessage.TheVariants as plain
use Rattle.rpc_msg.specs.declared.message.Return.{Return}
use Rattle.rpc_msg.specs.declared.message.ReturnBody.{ReturnBody}
use Rattle.rpc_msg.specs.declared.message.ReturnBody.TheVariants as body
use Rattle.rpc_msg.specs.declared.parts.Descriptor.{Descriptor}
use Rattle.rpc_msg.specs.Messages.{descriptors_of_body}
use Rattle.rpc_machine.specs.declared.calls.OwnCall.{OwnCall}
use Rattle.rpc_machine.specs.declared.calls.Value.{Value}
use Rattle.rpc_machine.specs.declared.command.Level.TheVariants.{One}
use Rattle.rpc_machine.specs.declared.entries.Export.{Export}
use Rattle.rpc_machine.specs.declared.entries.Finishing.{Finishing}
use Rattle.rpc_machine.specs.declared.entries.Finishing.TheVariants as finishing
use Rattle.rpc_machine.specs.declared.entries.Question.{Question}
use Rattle.rpc_machine.specs.declared.entries.Returned.{Returned}
use Rattle.rpc_machine.specs.declared.entries.Returned.TheVariants as returned_as
use Rattle.rpc_machine.specs.declared.entries.Role.{Role}
use Rattle.rpc_machine.specs.declared.entries.Role.TheVariants as role
use Rattle.rpc_machine.specs.declared.node.Node.{Node}
use Rattle.rpc_machine.specs.State.{State}
use Rattle.rpc_machine.specs.Advancing.{IsBroken, Leads, NothingYet, known_at, known_by_return, known_cap, returned_of}
use Rattle.rpc_machine.specs.Descriptors.{read_beside, take_all}
use Rattle.rpc_machine.specs.Faults.{body_fault, descriptors_fault, return_fault}
use Rattle.rpc_machine.specs.Flags.{lower_each, obey}
use Rattle.rpc_machine.specs.Messages.{ComesBack, ComesFor, TakesReturn, kept_returned, results_of, value_of_results}
use Rattle.rpc_machine.specs.Payloads.{cap_at}
use Rattle.rpc_machine.specs.Places.{nodes}
use Rattle.rpc_machine.specs.Progress.{Progress, caps_of, numbers, with_refs, with_state}
use Rattle.rpc_machine.specs.Settling.{TellsCall}
use Rattle.rpc_machine.specs.Sweeping.{IsNotSent}
use Rattle.laws_routes.specs.Laws.{with_back}
use Rattle.laws_routes.specs.Named.{EachReturn, ReturnOf}
use Rattle.laws_routes.specs.Premises.{EachOpen, IsUnfinished, OpenOf}
use Rattle.laws_routes.specs.Sayings.{has_of}
use Rattle.laws_routes.specs.SayingLaws.{EachReadable}
use Rattle.laws_routes.specs.StepLaws.{MayReturn}
use Rattle.laws_routes.specs.Ties.{Around}
use Rattle.laws_routes.specs.Midway.{AllAreHeld, ArisenAreHeld, IsHeld, Midway, MidwayAt}
use Rattle.laws_routes.specs.Received.{IfQuestion}
use Rattle.laws_acts.proofs.Alone.{all_alone}
use Rattle.laws_routes.proofs.CallsReceived.{all_readable, first_none, known_held_by, rest_none}
use Rattle.laws_routes.proofs.MessagesTaken.{obeyed_still}
use Rattle.laws_routes.proofs.MidwayRouted.{all_held, asked, held_exports, met_alike, refs_still}
use Rattle.laws_routes.proofs.MidwayTaken.{AllGivenIn, all_given, each_may_take, read_held, taken}
use Rattle.laws_routes.proofs.ReturnTaken.{obeyed_questions, results_still}

-- ---- What is so of all but one question

both_open : (P R S : ℕ → Type 0) (ms : List Message) → ((k : ℕ) → P k → R k → S k) → EachOpen P ms → EachOpen R ms → EachOpen S ms
both_open P R S [] f h i = tt
both_open P R S (m ∷ ms) f h i = (by m h.0 i.0, both_open P R S ms f h.1 i.1)
  where
    by_plain : (x : PlainMessage) → OpenOf P (message.Plain x) → OpenOf R (message.Plain x) → OpenOf S (message.Plain x)
    by_plain (plain.Abort exception) a b = tt
    by_plain (plain.Bootstrap q) a b = f q.0 a b
    by_plain (plain.Call c) a b = f c.question.0 a b
    by_plain (plain.Return r) a b = tt
    by_plain (plain.Finish x) a b = tt
    by_plain (plain.Resolve r) a b = tt
    by_plain (plain.Release r) a b = tt
    by_plain (plain.Disembargo x) a b = tt
    by_plain (plain.Other n) a b = tt

    by : (m : Message) → OpenOf P m → OpenOf R m → OpenOf S m
    by (message.Plain x) a b = by_plain x a b
    by (message.Unimplemented x) a b = tt

both_return : (P R S : ℕ → Type 0) (ms : List Message) → ((k : ℕ) → P k → R k → S k) → EachReturn P ms → EachReturn R ms → EachReturn S ms
both_return P R S [] f h i = tt
both_return P R S (message.Plain x ∷ ms) f h i = (by x h.0 i.0, both_return P R S ms f h.1 i.1)
  where
    by : (x : PlainMessage) → ReturnOf P x → ReturnOf R x → ReturnOf S x
    by (plain.Abort exception) a b = tt
    by (plain.Bootstrap q) a b = tt
    by (plain.Call c) a b = tt
    by (plain.Return r) a b = f r.answer.0 a b
    by (plain.Finish x) a b = tt
    by (plain.Resolve r) a b = tt
    by (plain.Release r) a b = tt
    by (plain.Disembargo x) a b = tt
    by (plain.Other n) a b = tt
both_return P R S (message.Unimplemented x ∷ ms) f h i = both_return P R S ms f h i

-- ---- What was said is held

abbrev pub SaidIsHeld : State → Returned → Type 0
SaidIsHeld s (returned_as.Results payload caps) = AllAreHeld s (nodes caps)
SaidIsHeld s (returned_as.Exception exception) = Unit {0}

value_held : (s : State) (said : Returned) → SaidIsHeld s said → AllAreHeld s (caps_of (value_of_results said))
value_held s (returned_as.Results payload caps) h = h
value_held s (returned_as.Exception exception) h = tt

module _ (s : State) where
  index_held : (caps : List (Descriptor × Node)) (i : ℕ) → AllAreHeld s (nodes caps) → (said : Descriptor) (to : Node) → known_at caps i ≡ Leads said to → IsHeld s to
  index_held [] i h said to e = let a : IsBroken _ ≡ Leads said to = e in cc
  index_held (c ∷ cs) zero h said to e = known_held_by s c.0 c.1 h.0 said to e
  index_held (c ∷ cs) (suc i) h said to e = index_held cs i h.1 said to e

  cap_held : (caps : List (Descriptor × Node)) (c : CapAt) → AllAreHeld s (nodes caps) → (said : Descriptor) (to : Node) → known_cap caps c ≡ Leads said to → IsHeld s to
  cap_held caps (Cap i) h said to e = index_held caps i h said to e
  cap_held caps Null h said to e = let a : IsBroken _ ≡ Leads said to = e in cc
  cap_held caps NotCap h said to e = let a : IsBroken _ ≡ Leads said to = e in cc

  leads_held : (path : List Op) (r : Returned) → SaidIsHeld s r → (said : Descriptor) (to : Node) → known_by_return path (Some r) ≡ Leads said to → IsHeld s to
  leads_held path (returned_as.Results payload caps) h said to e = cap_held caps (cap_at payload path) h said to e
  leads_held path (returned_as.Exception exception) h said to e = let a : IsBroken _ ≡ Leads said to = e in cc

module _ (s other : State) (out back : List Message) (h : Midway s other out back) where
  beside_held : (ds : List Descriptor) → AllGivenIn s.imports ds → AllAreHeld s (nodes (read_beside s ds))
  beside_held [] g = tt
  beside_held (c ∷ ds) g = (read_held s other out back h c g.0, beside_held ds g.1)

  results_held : (x : ReturnBody) → AllGivenIn s.imports (descriptors_of_body x) → SaidIsHeld s (results_of s x)
  results_held (body.Results payload ds) g = beside_held ds g
  results_held (body.Exception exception) g = tt
  results_held body.Canceled g = tt

exports_held : (s : State) (E : Map Export) (ns : List Node) → AllAreHeld s ns → AllAreHeld (record s { exports = E }) ns
exports_held s E [] h = tt
exports_held s E (n ∷ ns) h = (held_exports s E n h.0, exports_held s E ns h.1)

obeyed_held : (s : State) (flag : Bool) (ids : List ℕ) (said : Returned) → SaidIsHeld s said → SaidIsHeld (obey s flag ids) said
obeyed_held s true ids (returned_as.Results payload caps) h = exports_held s (lower_each s.exports ids) (nodes caps) h
obeyed_held s true ids (returned_as.Exception exception) h = tt
obeyed_held s false ids said h = h

-- ---- It comes back

module _ (w : Around) (d : Progress) (q : ℕ) (x : Question) (said : Returned) (h : MidwayAt w d) (at : map.get (d.state).questions q ≡ Some x) (held_said : SaidIsHeld d.state said) (not_open : EachOpen (λ k. nat_eq k q ≡ false) (w.out ++ d.effects.sends)) (once : EachReturn (λ k. nat_eq k q ≡ false) w.back) where
  abbrev s : State
  s = d.state

  abbrev out : List Message
  out = w.out ++ d.effects.sends

  -- Questions change.
  asking : (Q : Map Question) → ((j : ℕ) → IsUnfinished (map.get s.questions j) → IsUnfinished (map.get Q j)) → ((j : ℕ) (path : List Op) (c : Descriptor) (to : Node) → known_by_return path (returned_of (map.get Q j)) ≡ Leads c to → IsHeld s to)
      → ((j : ℕ) → IsSome (map.get s.questions j) → nat_eq j q ≡ false → IsSome (map.get Q j)) → ((j : ℕ) (y : Question) → map.get Q j ≡ Some y → IsSome y.returned → EachOpen (λ k. nat_eq k j ≡ false) out × EachReturn (λ k. nat_eq k j ≡ false) w.back)
      → MidwayAt w (with_state d (record s { questions = Q }))
  asking Q more leads left answered =
      let named = h.named in
      asked s s.exports Q more w.other out out w.back h h.exports leads (both_open _ _ _ out left h.opens not_open) (both_return _ _ _ w.back left h.returns once) answered (λ e i. i)
      (named.0, met_alike w.other.exports s.exports (has_of [] s.imports s.questions) (has_of [] s.imports Q) w.back refl named.1) h.sent

  closed : x.finish ≡ finishing.Sent → MidwayAt w (with_state d (record s { questions = map.remove s.questions q }))
  closed f =
      asking (map.remove s.questions q)
      (at_cut (λ j o. IsUnfinished (map.get s.questions j) → IsUnfinished o) s.questions q (λ i. (let a : IsNotSent x.finish = subst IsUnfinished at i in subst IsNotSent f a)) (λ j n i. i))
      (λ j path. at_cut (λ j o. (c : Descriptor) (to : Node) → known_by_return path (returned_of o) ≡ Leads c to → IsHeld s to) s.questions q (λ c to e. (let b : NothingYet ≡ Leads c to = e in cc)) (λ j n c to e. h.returned j path c to e) j)
      (at_cut (λ j o. IsSome (map.get s.questions j) → nat_eq j q ≡ false → IsSome o) s.questions q (λ i e. (let b : true ≡ false = sym (itself q) ∙ e in cc)) (λ j n i e. i))
      (at_cut (λ j o. (y : Question) → o ≡ Some y → IsSome y.returned → EachOpen (λ k. nat_eq k j ≡ false) out × EachReturn (λ k. nat_eq k j ≡ false) w.back) s.questions q (λ y e i. cc) (λ j n y e i. h.answered j y e i))

  kept : MidwayAt w (kept_returned d q x said)
  kept =
      let y : Question = record x { returned = Some said } in
      asking (map.insert s.questions q y)
      (at_put (λ j o. IsUnfinished (map.get s.questions j) → IsUnfinished o) s.questions q y (λ i. subst IsUnfinished at i) (λ j n i. i))
      (λ j path. at_put (λ j o. (c : Descriptor) (to : Node) → known_by_return path (returned_of o) ≡ Leads c to → IsHeld s to) s.questions q y (leads_held s path said held_said) (λ j n c to e. h.returned j path c to e) j)
      (at_put (λ j o. IsSome (map.get s.questions j) → nat_eq j q ≡ false → IsSome o) s.questions q y (λ i e. refl) (λ j n i e. i))
      (at_put (λ j o. (y : Question) → o ≡ Some y → IsSome y.returned → EachOpen (λ k. nat_eq k j ≡ false) out × EachReturn (λ k. nat_eq k j ≡ false) w.back) s.questions q y (λ y e i. (not_open, once)) (λ j n y e i. h.answered j y e i))

  -- Questions are of no account to what is named.
  still_held : (Q : Map Question) → ((j : ℕ) → IsUnfinished (map.get s.questions j) → IsUnfinished (map.get Q j)) → (ns : List Node) → AllAreHeld s ns → AllAreHeld (record s { questions = Q }) ns
  still_held Q more ns i = all_held s s.exports Q more ns i

  value_kept : AllAreHeld (kept_returned d q x said).state (caps_of (value_of_results said))
  value_kept =
      let y : Question = record x { returned = Some said } in
      still_held (map.insert s.questions q y) (at_put (λ j o. IsUnfinished (map.get s.questions j) → IsUnfinished o) s.questions q y (λ i. subst IsUnfinished at i) (λ j n i. i)) (caps_of (value_of_results said)) (value_held s said held_said)

  -- What it brings for a relay arises, and its capabilities are held.
  abbrev Comes : Progress → Type 0
  Comes new = MidwayAt w new × (d.arisen ≡ [] → ArisenAreHeld new.state new.arisen)

  nothing_arisen : (u : State) → d.arisen ≡ [] → ArisenAreHeld u d.arisen
  nothing_arisen u e = subst (ArisenAreHeld u) (sym e) tt

  told : (c : ℕ) (v : Value) (o : Option OwnCall) (new : Progress) → AllAreHeld (kept_returned d q x said).state (caps_of v) → TellsCall (kept_returned d q x said) c v o new → Comes new
  told c v None new i a = subst Comes (sym a) (kept, nothing_arisen (kept_returned d q x said).state)
  told c v (Some y) new i a =
      let u = (kept_returned d q x said).state in
      subst Comes (sym a) (refs_still (caps_of v) u w.other out w.back kept i, nothing_arisen (with_refs u (caps_of v)))

  comes_for : (r : Role) (new : Progress) → ComesFor (kept_returned d q x said) r (value_of_results said) new → Comes new
  comes_for (role.Relay o) new a =
      let u = (kept_returned d q x said).state in
      let v = value_of_results said in
      subst Comes (sym a) (kept, λ e. subst (λ (xs : List (ℕ × Value)). ArisenAreHeld u (xs ++ (o, v) ∷ [])) (sym e) (value_kept, tt))
  comes_for (role.Direct c) new a = told c.0 (value_of_results said) (map.get s.calls c.0) new value_kept a

  comes_back : (f : Finishing) (new : Progress) → x.finish ≡ f → ComesBack d q x said f new → Comes new
  comes_back finishing.Sent new e a = subst Comes (sym a) (closed e, nothing_arisen (record s { questions = map.remove s.questions q }))
  comes_back finishing.Owed new e a = comes_for x.role new a
  comes_back finishing.Waived new e a = comes_for x.role new a

-- ---- The whole

body_readable : (s : State) (x : ReturnBody) → s.level ≡ One → body_fault s x ≡ None → EachReadable (take_all s (descriptors_of_body x)) (descriptors_of_body x)
body_readable s (body.Results payload ds) level f = all_readable s ds level (first_none (descriptors_fault s ds) None (rest_none _ _ f))
body_readable s (body.Exception exception) level f = tt
body_readable s body.Canceled level f = tt

module _ (w : Around) (d : Progress) (r : Return) (rest : List Message) (new : Progress) (h : MidwayAt (with_back w (message.Plain (plain.Return r) ∷ rest)) d) (level : (d.state).level ≡ One) where
  pub returns : (o : Option Question) → map.get d.state.questions r.answer.0 ≡ o → IfQuestion d.state w.other (w.out ++ d.effects.sends) rest r o → return_fault d.state r.release_param_caps r.body o ≡ None → TakesReturn d r o new
      → MayReturn (with_back w rest) d r o × MidwayAt (with_back w rest) new × (d.arisen ≡ [] → ArisenAreHeld new.state new.arisen)
  returns None at m fine a = absurd a
  returns (Some x) at m fine a =
      let s = d.state in
      let out = w.out ++ d.effects.sends in
      let ds = descriptors_of_body r.body in
      let flag = r.release_param_caps in
      let ids = numbers x.given in
      let u = take_all s ds in
      let I = u.imports in
      let k : Midway u w.other out rest = taken s w.other out (plain.Return r) rest h level in
      let alone : u ≡ record s { imports = I } = all_alone s ds in
      let held_here : SaidIsHeld (record s { imports = I }) (results_of (record s { imports = I }) r.body) = results_held (record s { imports = I }) w.other out rest (subst (λ (z : State). Midway z w.other out rest) alone k) r.body (all_given s ds level) in
      let held_there : SaidIsHeld u (results_of s r.body) = subst (λ (z : State). SaidIsHeld z (results_of s r.body)) (sym alone) (subst (SaidIsHeld (record s { imports = I })) (results_still s I r.body) held_here) in
      let v = obey u flag ids in
      let one : Midway v w.other out rest = obeyed_still u w.other out rest flag ids k m.lowers in
      let there : map.get v.questions r.answer.0 ≡ Some x = ap (λ (Q : Map Question). map.get Q r.answer.0) (obeyed_questions u flag ids ∙ ap (λ (z : State). z.questions) alone) ∙ at in
      let named = h.named in
      let comes = comes_back (with_back w rest) (with_state d v) r.answer.0 x (results_of s r.body) one there (obeyed_held u flag ids (results_of s r.body) held_there) m.not_open m.once x.finish new refl a in (
        record {
          own = λ e y f. (let b = h.exports e y f in b.0);
          takes = each_may_take s w.other out (message.Plain (plain.Return r) ∷ rest) h s.exports ds named.1.0;
          lowers = m.lowers;
          readable = λ l. body_readable s r.body level (first_none (body_fault s r.body) _ (rest_none _ _ fine));
          whole = m.whole;
        },
        comes.0,
        comes.1,
      )
