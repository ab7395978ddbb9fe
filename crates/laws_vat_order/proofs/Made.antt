-- Calls that the application makes: where they land, and behind which they stand; and many steps.
use Rattle.std.proofs.Common.{◌≡◌, ◌⊎◌, inl, inr, ℕ, ◌+◌, ◌≤◌, ◌<◌, [], ◌∷◌, ◌++◌, Option, None, Some, IsSome, Ok, Err, refl, sym, ap, subst, ◌∙◌, arith}
use Rattle.std.specs.FinMap as map
use Rattle.finite_maps.specs.Tally.{Map}
use Rattle.finite_maps.proofs.Gets.{get-insert_same}
use Rattle.rpc_msg.specs.declared.ids.CallId.{CallId}
use Rattle.rpc_msg.specs.declared.ids.EmbargoId.{EmbargoId}
use Rattle.rpc_msg.specs.declared.ids.QuestionId.{QuestionId}
use Rattle.rpc_msg.specs.declared.parts.Target.{Target}
use Rattle.rpc_machine.specs.declared.node.Node.{Node}
use Rattle.rpc_machine.specs.declared.command.CallCommand.{CallCommand}
use Rattle.rpc_machine.specs.declared.command.Command.TheVariants as command
use Rattle.rpc_machine.specs.declared.command.Granted.{Granted}
use Rattle.rpc_machine.specs.declared.command.Granted.TheVariants as granted
use Rattle.rpc_machine.specs.declared.command.Effects.{Effects}
use Rattle.rpc_machine.specs.declared.calls.OwnCall.{OwnCall}
use Rattle.rpc_machine.specs.declared.calls.OwnCall.TheVariants as own
use Rattle.rpc_machine.specs.declared.calls.Caller.TheVariants as caller
use Rattle.rpc_machine.specs.declared.entries.Reference.{Reference}
use Rattle.rpc_machine.specs.declared.entries.Embargo.{Embargo}
use Rattle.rpc_machine.specs.State.{State}
use Rattle.rpc_machine.specs.Nodes.{value_of, settle}
use Rattle.rpc_machine.specs.Laws.{OfEachStep}
use Rattle.rpc_machine.specs.Advancing.{wire_target}
use Rattle.rpc_machine.specs.Refusals.{refused}
use Rattle.rpc_machine.specs.Steps.{Does, Obeys, Refuses, LacksMemory, GoesDown, Shuts, IsDone}
use Rattle.laws_acts.specs.Moments.{Moment, beginning}
use Rattle.laws_acts.specs.FirstActs.{Starts, keeping, waiting_call}
use Rattle.laws_acts.specs.FirstActs as first
use Rattle.laws_acts.specs.SmallActs.{Acts, DoesActs}
use Rattle.laws_acts.proofs.Commanded.{does}
use Rattle.laws_steps.specs.Settled.{AreThere, LeadsOn}
use Rattle.laws_steps.specs.NodesThere.{IsReached, Stays, Commanded}
use Rattle.laws_steps.proofs.Reached.{go_on, after_command}
use Rattle.laws_nodes.specs.Settling.{AllStop}
use Rattle.laws_nodes.proofs.Stopping.{same, begins}
use Rattle.laws_nodes.proofs.Acyclic.{each_stops, within}
use Rattle.laws_vat_order.specs.Lines.{Has, Before, HasAt, OfEmbargo, IsAt, ForPromise, ForFieldAt, IsAhead, times_waiting, delivered, sent_on, Lacks}
use Rattle.laws_vat_order.specs.Order.{DoesNotPass}
use Rattle.laws_vat_order.specs.Arriving.{Waits}
use Rattle.laws_vat_order.specs.Making.{InLineAt, InLineOf, IsInLine, Makes, Holds, HoldsHere, HoldsFurther, MadeLands, MadeJoins, NoneGoesOut, CallsKeepOrder}
use Rattle.laws_vat_order.proofs.Counting as counting
use Rattle.laws_vat_order.proofs.Lists.{has_last, before_last, outcome_new}
use Rattle.laws_vat_order.proofs.Moving.{Line, OnEmbargo, AtPromise, AtField, lead, Quiet, Told}
use Rattle.laws_vat_order.proofs.Steps as steps
use Rattle.laws_vat_order.proofs.Steps.{once, gone}
use Rattle.laws_vat_order.proofs.Tracking.{Tracked, Moved, InYet, Itself}
use Rattle.laws_vat_order.proofs.Following as following
use Rattle.laws_vat_order.proofs.Following.{ended}
use Rattle.laws_vat_order.proofs.Arriving.{reached_by, passes_none, still_ahead, waits_first, ahead_on}
use Rattle.laws_vat_order.proofs.Making.{in_line, head_there, is_old, no_target, stays_in_line}
use Rattle.laws_vat_order.proofs.Staying.{SameRef, RefStays, ref_kept, same_kept, tracked_kept, fine_kept}

-- ---- The first act

-- The call goes out at once, or has an outcome that is kept here: it is to be routed, or waits under the embargo.
data CallFirst (s : State) (k : CallCommand) (new : Moment) : Type 0 where
  Out : (x : Reference) (t : Target) (q : QuestionId) → map.get s.refs k.reference.0 ≡ Some x → x.embargo ≡ None → wire_target (settle s x.head) ≡ Some t → new.state.calls ≡ map.insert s.calls s.next_call (own.Direct q) → CallFirst s k new
  Here : (x : Reference) (u : ℕ) → map.get s.refs k.reference.0 ≡ Some x → x.embargo ≡ None → map.get s.outcomes u ≡ None → new ≡ record (beginning s) { state = keeping s k.reference.0 x u; yet = (waiting_call s k x u, x.head) ∷ [] } → CallFirst s k new
  Later : (x : Reference) (u : ℕ) (e : EmbargoId) (b : Embargo) → map.get s.refs k.reference.0 ≡ Some x → x.embargo ≡ Some e → map.get s.embargoes e.0 ≡ Some b → map.get s.outcomes u ≡ None
      → new ≡ record (beginning s) { state = record (keeping s k.reference.0 x u) { embargoes = map.insert s.embargoes e.0 (record b { waiting = b.waiting ++ waiting_call s k x u ∷ [] }) } } → CallFirst s k new

its_call : (k y : CallCommand) → command.Call k ≡ command.Call y → y ≡ k
its_call k y e = cc

first_call : (s : State) (k : CallCommand) (g : Granted) (new : Moment) → Starts (beginning s) (command.Call k) g new → CallFirst s k new × (g ≡ granted.Call (record { 0 = s.next_call }))
first_call s k g new (first.Hosts u e f h) = absurd (let z : command.Call k ≡ command.Host u = e in cc)
first_call s k g new (first.Clones r x e f i h) = absurd (let z : command.Call k ≡ command.CloneRef r = e in cc)
first_call s k g new (first.Drops r x e f i h) = absurd (let z : command.Call k ≡ command.DropRef r = e in cc)
first_call s k g new (first.AsksRoot q e f i h) = absurd (let z : command.Call k ≡ command.Bootstrap = e in cc)
first_call s k g new (first.CallsOut y x q t ds es e f j w l m n h) =
    (subst (λ (z : CallCommand). CallFirst s z new) (its_call k y e) (Out x t (record { 0 = q }) f j w (ap (λ (m : Moment). m.state.calls) h)), n)
first_call s k g new (first.CallsHere y x u e f j w l m h) = (subst (λ (z : CallCommand). CallFirst s z new) (its_call k y e) (Here x u f j l h), m)
first_call s k g new (first.CallsLater y x u z b e f j l m n h) = (subst (λ (z : CallCommand). CallFirst s z new) (its_call k y e) (Later x u z b f j l m h), n)
first_call s k g new (first.NamesField y path from e f i h) = absurd (let z : command.Call k ≡ command.Field y path = e in cc)
first_call s k g new (first.Promises p e f i h) = absurd (let z : command.Call k ≡ command.Promise = e in cc)
first_call s k g new (first.Fixes p r x key calls e f i j l h) = absurd (let z : command.Call k ≡ command.Resolve p r = e in cc)
first_call s k g new (first.Rejects p why key calls e f i j h) = absurd (let z : command.Call k ≡ command.Reject p why = e in cc)
first_call s k g new (first.Answers t payload refs u e f i h) = absurd (let z : command.Call k ≡ command.Answer t payload refs = e in cc)
first_call s k g new (first.Fails t why u e f i h) = absurd (let z : command.Call k ≡ command.Fail t why = e in cc)
first_call s k g new (first.Finishes y from e f i h) = absurd (let z : command.Call k ≡ command.Finish y = e in cc)
first_call s k g new (first.StaysPut r x e f i h) = absurd (let z : command.Call k ≡ command.Advance r = e in cc)
first_call s k g new (first.Breaks r x reason e f i j l h) = absurd (let z : command.Call k ≡ command.Advance r = e in cc)
first_call s k g new (first.Switches r x by n e f i j l m o h) = absurd (let z : command.Call k ≡ command.Advance r = e in cc)
first_call s k g new (first.Turns r x by n t z e f i j l m w u v h) = absurd (let z : command.Call k ≡ command.Advance r = e in cc)

-- A call that is granted was done.
record Granting (s : State) (k : CallCommand) (number : CallId) (x : Effects) (t : State) : Type 0 where
  pub given : Granted
  pub does : Does s (command.Call k) given x t
  pub free : refused s (command.Call k) ≡ None
  pub is : given ≡ granted.Call number

granting : (s : State) (k : CallCommand) (number : CallId) (x : Effects) (t : State) → Obeys s (command.Call k) (Ok (granted.Call number)) x t → Granting s k number x t
granting s k number x t (Refuses y f g u) = absurd (let z : Ok (granted.Call number) ≡ Err y = g in cc)
granting s k number x t (LacksMemory f g y u) = absurd (let z : Ok (granted.Call number) ≡ Err _ = y in cc)
granting s k number x t (GoesDown f g y u) = absurd g
granting s k number x t (Shuts n f g h) = absurd (let z : command.Call k ≡ command.Shut n = f in cc)
granting s k number x t (IsDone given f g h w) = record { given = given; does = h; free = f; is = (let z : Ok (granted.Call number) ≡ Ok given = g in let y : given ≡ granted.Call number = cc in y) }

-- What a call is, by what the application has of it.
is_kept : (s : State) (number : CallId) (g : Granted) (cs : Map OwnCall) (from other : OwnCall) → g ≡ granted.Call number → g ≡ granted.Call (record { 0 = s.next_call }) → cs ≡ map.insert s.calls s.next_call from → map.get cs number.0 ≡ Some other → from ≡ other
is_kept s number g cs from other e f h i =
    let z : granted.Call number ≡ granted.Call (record { 0 = s.next_call }) = sym e ∙ f in
    let y : number ≡ record { 0 = s.next_call } = cc in
    let w : Some from ≡ Some other = sym (get-insert_same s.calls s.next_call from) ∙ ap (λ (m : Map OwnCall). map.get m s.next_call) (sym h) ∙ ap (λ (j : CallId). map.get cs j.0) (sym y) ∙ i in
    let v : from ≡ other = cc in
    v

module _ (s : State) (reached : IsReached s) (k : CallCommand) (number : CallId) (x : Effects) (t : State) (o : Obeys s (command.Call k) (Ok (granted.Call number)) x t) (free : refused s (command.Call k) ≡ None) (g : Granted) (is : g ≡ granted.Call number) (d : DoesActs s (command.Call k) g x t) where
  all : AreThere t
  all = after_command s (command.Call k) (Ok (granted.Call number)) x t reached o

  stop : AllStop t
  stop = each_stops t (go_on s t reached (Commanded (command.Call k) (Ok (granted.Call number)) x o Stays))

  stops : (m : Moment) → Acts m d.started → AllStop m.state
  stops m f = within.commands s (command.Call k) g d.started m free (each_stops s reached) d.starts f

  -- The application's entry of the call.
  entry : (from other : OwnCall) → d.started.state.calls ≡ map.insert s.calls s.next_call from → map.get t.calls number.0 ≡ Some other → from ≡ other
  entry from other e i =
      is_kept s number g d.last.state.calls from other is (first_call s k g d.started d.starts).1 ((same_kept d.last d.started d.acts).1 ∙ e) (subst (λ (u : State). map.get u.calls number.0 ≡ Some other) d.ends.state i)

  one : (u : ℕ) → counting.all_waiting u d.started ≤ 1
  one u = counting.started u s (command.Call k) g d.started d.starts (once s reached u)

  counted : (y : Reference) (e : Option EmbargoId) → map.get s.refs k.reference.0 ≡ Some y → y.embargo ≡ e → SameRef y.head e (map.get (map.insert s.refs k.reference.0 (record y { made = y.made + 1 })) k.reference.0)
  counted y e f j = subst (SameRef y.head e) (sym (get-insert_same s.refs k.reference.0 (record y { made = y.made + 1 }))) (refl, j)

  lands : (a : ℕ) → map.get t.calls number.0 ≡ Some (own.Kept a) → IsSome (map.get t.refs k.reference.0) → CallFirst s k d.started → IsInLine t k.reference.0 a ⊎ (times_waiting a t ≡ 0)
  lands a i there (Out y w q f j l h) = absurd (let z : own.Direct q ≡ own.Kept a = entry (own.Direct q) (own.Kept a) h i in cc)
  lands a i there (Here y u f j l h) =
      let z : own.Kept u ≡ own.Kept a = entry (own.Kept u) (own.Kept a) (ap (λ (m : Moment). m.state.calls) h) i in
      let e : u ≡ a = cc in
      subst (λ (b : ℕ). IsInLine t k.reference.0 b ⊎ (times_waiting b t ≡ 0)) e (at (ends_at (head_there t k.reference.0 y.head None all there same_ref)))
    where
      tracks : Tracked s u y.head d.started
      tracks =
          subst (λ (m : Moment). counting.all_waiting u m ≤ 1 → Tracked s u y.head m) (sym h)
          (λ l. (l, inr (refl, refl, refl), tt, inl (Moved y.head tt tt (InYet (inl (refl, refl))) Itself))) (one u)

      same_ref : SameRef y.head None (map.get t.refs k.reference.0)
      same_ref =
          subst (λ (v : State). SameRef y.head None (map.get v.refs k.reference.0)) (sym d.ends.state)
          (ref_kept d.last d.started d.acts k.reference.0 y.head None (subst (λ (m : Moment). RefStays k.reference.0 y.head None m) (sym h) (counted y None f j, is_old s k.reference.0 y reached f))).0

      ends_at : following.EndsAt u y.head t
      ends_at =
          subst (following.EndsAt u y.head) (sym d.ends.state)
          (ended s u y.head d.last t (subst AllStop d.ends.state stop) (subst AreThere d.ends.state all) (tracked_kept d.last d.started d.acts stops s u y.head tracks) (ap (λ (m : Moment). m.yet) d.ends.rest) (ap (λ (m : Moment). m.clearing) d.ends.rest))

      at : IsAt t u (settle t y.head) ⊎ (times_waiting u t ≡ 0) → IsInLine t k.reference.0 u ⊎ (times_waiting u t ≡ 0)
      at (inl w) = inl (in_line t k.reference.0 u y.head None there same_ref w)
      at (inr w) = inr w
  lands a i there (Later y u e b f j l m h) =
      let z : own.Kept u ≡ own.Kept a = entry (own.Kept u) (own.Kept a) (ap (λ (n : Moment). n.state.calls) h) i in
      let w : u ≡ a = cc in
      subst (λ (c : ℕ). IsInLine t k.reference.0 c ⊎ (times_waiting c t ≡ 0)) w (inl (in_line t k.reference.0 u y.head (Some e) there same_ref waits))
    where
      same_ref : SameRef y.head (Some e) (map.get t.refs k.reference.0)
      same_ref =
          subst (λ (v : State). SameRef y.head (Some e) (map.get v.refs k.reference.0)) (sym d.ends.state)
          (ref_kept d.last d.started d.acts k.reference.0 y.head (Some e) (subst (λ (m : Moment). RefStays k.reference.0 y.head (Some e) m) (sym h) (counted y (Some e) f j, is_old s k.reference.0 y reached f))).0

      waits : OfEmbargo (Has u) (map.get t.embargoes e.0)
      waits =
          subst (λ (v : State). OfEmbargo (Has u) (map.get v.embargoes e.0)) (sym d.ends.state)
          (subst (λ (v : Map Embargo). OfEmbargo (Has u) (map.get v e.0)) (sym ((same_kept d.last d.started d.acts).0 ∙ ap (λ (n : Moment). n.state.embargoes) h))
          (subst (OfEmbargo (Has u)) (sym (get-insert_same s.embargoes e.0 (record b { waiting = b.waiting ++ waiting_call s k y u ∷ [] }))) (has_last u (waiting_call s k y u) b.waiting refl)))

  -- Its reference's line is where a call waits.
  line_of : (a : ℕ) (y : Reference) (e : Option EmbargoId) → map.get s.refs k.reference.0 ≡ Some y → y.embargo ≡ e → IsInLine s k.reference.0 a → InLineAt s a y.head e
  line_of a y e f j l = subst (InLineAt s a y.head) j (subst (InLineOf s a) f l)

  begins_fine : (a u : ℕ) → Quiet d.started → Told d.started → Line s a u d.started.state.promises d.started.state.outcomes d.started.state.embargoes d.started.yet → Lacks u (delivered d.started.state.tasks d.started.effects.deliveries) × Lacks u (sent_on d.started.state.questions d.started.effects.sends) → DoesNotPass a u x t
  begins_fine a u q b l n = steps.ended s a u d.last x t (fine_kept d.last d.started d.acts stops s a u (one a, one u, q, b, inl (l, n.0, n.1))) d.ends

  joins : (b : ℕ) → map.get t.calls number.0 ≡ Some (own.Kept b) → (a : ℕ) → IsInLine s k.reference.0 a → CallFirst s k d.started → DoesNotPass a b x t
  joins b i a line (Out y w q f j l h) = absurd (let z : own.Direct q ≡ own.Kept b = entry (own.Direct q) (own.Kept b) h i in cc)
  joins b i a line (Here y u f j l h) =
      let z : own.Kept u ≡ own.Kept b = entry (own.Kept u) (own.Kept b) (ap (λ (m : Moment). m.state.calls) h) i in
      let e : u ≡ b = cc in
      subst (λ (c : ℕ). DoesNotPass a c x t) e
      (begins_fine a u (subst Quiet (sym h) (inr (refl, refl, refl))) (subst Told (sym h) (tt, tt))
      (subst (λ (m : Moment). Line s a u m.state.promises m.state.outcomes m.state.embargoes m.yet) (sym h) (line_at (settle s y.head) refl (line_of a y None f j line)))
      (subst (λ (m : Moment). Lacks u (delivered m.state.tasks m.effects.deliveries) × Lacks u (sent_on m.state.questions m.effects.sends)) (sym h) (tt, tt)))
    where
      leads_then : lead s s.promises (map.insert s.outcomes u (record { caller = caller.Application (record { 0 = s.next_call }); value = None; waiting = [] })) y.head ≡ settle s y.head
      leads_then = (same s (record s { outcomes = map.insert s.outcomes u (record { caller = caller.Application (record { 0 = s.next_call }); value = None; waiting = [] }) }) (begins s u (record { caller = caller.Application (record { 0 = s.next_call }); value = None; waiting = [] }) (ap value_of l)) (each_stops s reached)).1 y.head

      line_at : (m : Node) → settle s y.head ≡ m → IsAt s a m → Line s a u s.promises (map.insert s.outcomes u (record { caller = caller.Application (record { 0 = s.next_call }); value = None; waiting = [] })) s.embargoes ((waiting_call s k y u, y.head) ∷ [])
      line_at _ e (ForPromise p w) = AtPromise p y.head w (inl (refl, refl)) (leads_then ∙ e)
      line_at _ e (ForFieldAt v path w) = AtField v path y.head (outcome_new (HasAt path a) s.outcomes u (record { caller = caller.Application (record { 0 = s.next_call }); value = None; waiting = [] }) l v w) (inl (refl, refl)) (leads_then ∙ e)
  joins c i a line (Later y u e b f j l m h) =
      let z : own.Kept u ≡ own.Kept c = entry (own.Kept u) (own.Kept c) (ap (λ (n : Moment). n.state.calls) h) i in
      let w : u ≡ c = cc in
      let has : Has a b.waiting = subst (OfEmbargo (Has a)) l (line_of a y (Some e) f j line) in
      subst (λ (v : ℕ). DoesNotPass a v x t) w
      (begins_fine a u (subst Quiet (sym h) (inl refl)) (subst Told (sym h) (tt, tt))
      (subst (λ (n : Moment). Line s a u n.state.promises n.state.outcomes n.state.embargoes n.yet) (sym h)
      (OnEmbargo e.0 (subst (OfEmbargo (Before a u)) (sym (get-insert_same s.embargoes e.0 (record b { waiting = b.waiting ++ waiting_call s k y u ∷ [] }))) (before_last a u (waiting_call s k y u) b.waiting refl has))))
      (subst (λ (n : Moment). Lacks u (delivered n.state.tasks n.effects.deliveries) × Lacks u (sent_on n.state.questions n.effects.sends)) (sym h) (tt, tt)))

  out : (q : QuestionId) → map.get t.calls number.0 ≡ Some (own.Direct q) → (a : ℕ) → IsInLine s k.reference.0 a → CallFirst s k d.started → ⊥
  out q i a line (Out y w p f j l h) = no_target s a (settle s y.head) w (line_of a y None f j line) l
  out q i a line (Here y u f j l h) = absurd (let z : own.Kept u ≡ own.Direct q = entry (own.Kept u) (own.Direct q) (ap (λ (m : Moment). m.state.calls) h) i in cc)
  out q i a line (Later y u e b f j l m h) = absurd (let z : own.Kept u ≡ own.Direct q = entry (own.Kept u) (own.Direct q) (ap (λ (n : Moment). n.state.calls) h) i in cc)

-- ---- The laws

pub made_lands : MadeLands
made_lands s r a x t reached m there =
    let g = granting s m.call m.number x t m.done in
    let d = does s (command.Call m.call) g.given x t g.does in
    let f = (first_call s m.call g.given d.started d.starts).0 in
    subst (λ (q : ℕ). IsInLine t q a ⊎ (times_waiting a t ≡ 0)) m.through
    (lands s reached m.call m.number x t m.done g.free g.given g.is d a m.kept (subst (λ (q : ℕ). IsSome (map.get t.refs q)) (sym m.through) there) f)

pub made_joins : MadeJoins
made_joins s r b x t reached m a line =
    let g = granting s m.call m.number x t m.done in
    let d = does s (command.Call m.call) g.given x t g.does in
    let f = (first_call s m.call g.given d.started d.starts).0 in
    joins s reached m.call m.number x t m.done g.free g.given g.is d b m.kept a (subst (λ (q : ℕ). IsInLine s q a) (sym m.through) line) f

pub none_goes_out : NoneGoesOut
none_goes_out s r x t reached m a line =
    let g = granting s m.call m.number x t m.done in
    let d = does s (command.Call m.call) g.given x t g.does in
    let f = (first_call s m.call g.given d.started d.starts).0 in
    out s reached m.call m.number x t m.done g.free g.given g.is d m.question m.asked a (subst (λ (q : ℕ). IsInLine s q a) (sym m.through) line) f

-- ---- Many steps

module _ (laws : OfEachStep LeadsOn) (r a : ℕ) where
  first_holds : (last s : State) → Holds r a last s → (0 < times_waiting a s) × IsSome (map.get s.refs r)
  first_holds last s (HoldsHere w e) = (w, e)
  first_holds last s (HoldsFurther x w e i more) = (w, e)

  still_in : (t : State) → 0 < times_waiting a t → IsInLine t r a ⊎ (times_waiting a t ≡ 0) → IsInLine t r a
  still_in t w (inl h) = h
  still_in t w (inr h) = absurd (omega arith)

  holds_on : (last s : State) → Holds r a last s → IsReached s → IsInLine s r a → IsInLine last r a × IsReached last
  holds_on last s (HoldsHere w e) q h = (h, q)
  holds_on last s (HoldsFurther {mid = mid} x w e i more) q h =
      let f = first_holds last mid more in
      holds_on last mid more (reached_by s mid x q i) (still_in mid f.0 (stays_in_line laws s r a x mid q i f.1 h))

  at_second : (x : Effects) (s t u : State) → IsReached s → Makes s r a x t → Holds r a u t → IsInLine u r a × IsReached u
  at_second x s t u q m more =
      let f = first_holds u t more in
      holds_on u t more (go_on s t q (Commanded (command.Call m.call) (Ok (granted.Call m.number)) x m.done Stays)) (still_in t f.0 (made_lands s r a x t q m f.1))

  second : (b : ℕ) (x y : Effects) (s t u v : State) → IsReached s → Makes s r a x t → Holds r a u t → Makes u r b y v → DoesNotPass a b y v
  second b x y s t u v q m more n = let k = at_second x s t u q m more in made_joins u r b y v k.1 n a k.0

  behind : (b : ℕ) (x y : Effects) (s t u v w : State) → IsReached s → Makes s r a x t → Holds r a u t → Makes u r b y v → Waits a w v → IsAhead w a b × IsReached w
  behind b x y s t u v w q m more n l =
      let k = at_second x s t u q m more in
      ahead_on a b w v l (go_on u v k.1 (Commanded (command.Call n.call) (Ok (granted.Call n.number)) y n.done Stays)) (still_ahead a b y v (waits_first a w v l) (second b x y s t u v q m more n))

pub in_order : OfEachStep LeadsOn → CallsKeepOrder
in_order laws = record {
  behind = λ r a b x y s t u v w q m more n l. (behind laws r a b x y s t u v w q m more n l).0;
  leaves = λ r a b x y z s t u v w end q m more n l i. (let k = behind laws r a b x y s t u v w q m more n l in passes_none w end z a b k.1 i k.0);
  made = λ r a b x y s t u v q m more n. second laws r a b x y s t u v q m more n;
  out = λ r a x y s t u v q m more n. (let k = at_second laws r a x s t u q m more in none_goes_out u r y v k.1 n a k.0);
}
