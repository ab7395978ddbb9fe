-- A new outcome.
use mathlib.Core.Path.{fun_ext}
use Rattle.std.specs.FinMap as map
use Rattle.std.proofs.Common.{◌≡◌, ◌⊎◌, inl, inr, ℕ, ◌+◌, ◌≤◌, ◌<◌, Bool, nat_eq, true, false, List, [], ◌∷◌, Option, None, Some, IsSome, refl, sym, ap, subst, ◌∙◌, arith, ◌++◌}
use Rattle.rpc_msg.specs.Op.{Op}
use Rattle.finite_maps.proofs.Tested.{at_put, equal}
use Rattle.rpc_msg.specs.declared.ids.Vat.{Vat}
use Rattle.rpc_msg.specs.declared.parts.Target.{Target}
use Rattle.rpc_msg.specs.declared.parts.Target.TheVariants.{ImportedCap, PromisedAnswer}
use Rattle.rpc_msg.specs.declared.message.PlainMessage.TheVariants as plain
use Rattle.rpc_msg.specs.declared.message.Message as rpc
use Rattle.rpc_msg.specs.declared.message.Message.TheVariants as message
use Rattle.rpc_msg.specs.Vats.{other_vat}
use Rattle.rpc_machine.specs.declared.node.Node.{Node}
use Rattle.rpc_machine.specs.declared.node.Node.TheVariants as node
use Rattle.rpc_machine.specs.declared.calls.Caller.{Caller}
use Rattle.rpc_machine.specs.declared.calls.KeptOutcome.{KeptOutcome}
use Rattle.rpc_machine.specs.declared.entries.AnswerEntry.{AnswerEntry}
use Rattle.rpc_machine.specs.declared.entries.Reference.{Reference}
use Rattle.rpc_machine.specs.declared.entries.Embargo.{Embargo}
use Rattle.rpc_machine.specs.declared.entries.Export.{Export}
use Rattle.rpc_machine.specs.declared.entries.Import.{Import}
use Rattle.rpc_machine.specs.State.{State}
use Rattle.rpc_machine.specs.Nodes.{link, is_field, field_link, value_of}
use Rattle.rpc_machine.specs.Progress.{Progress, with_state}
use Rattle.rpc_machine.specs.Commands.{with_outcome}
use Rattle.rpc_machine.specs.Descriptors.{export_node}
use Rattle.laws_order.specs.Machine.{Kind}
use Rattle.laws_order.specs.Machine as routing
use Rattle.laws_routes.specs.Points.{Point, AField, OfOutcome, routes}
use Rattle.laws_routes.specs.Ghosts.{Ghost, point, far, ref_at, keeping}
use Rattle.laws_routes.specs.Sides.{Side, Stops, IsLinked, HasHead, IsRef, HasEmbargo, OutcomeHolds, IsOpenOutcome, IsStop, Lists, Ids}
use Rattle.laws_routes.specs.Views.{reader, IsExportAs, IsImportOf, IsSession, session_of, sessions_at, past, shapes}
use Rattle.laws_routes.specs.Ties.{Around, Ghosts, Tied}
use Rattle.laws_routes.specs.Premises.{Unnamed, MayKeep, OfCap, TargetCap, EachTargetCap}
use Rattle.laws_routes.proofs.Differing.{with_here, with_other}
use Rattle.laws_routes.proofs.LinkShapes.{shapes_exports}
use Rattle.laws_routes.proofs.CallSent.{linked_side}
use Rattle.laws_routes.proofs.NewPoints.{keeping_point}
use Rattle.laws_routes.proofs.UnbornKept.{next_unused, unborn_later, unborn_put, still_below}
use Rattle.laws_routes.specs.Sayings.{AllSaid, bare, has_of}
use Rattle.laws_routes.proofs.KnownKept.{known_as_kept}
use Rattle.laws_routes.proofs.LinkShapes.{all_opens}
use Rattle.laws_routes.proofs.SayingsCarried.{each_return, said_as_given}

pub all_caps : (P : ℕ → Type 0) (ms : List rpc.Message) → ((e : ℕ) → P e) → EachTargetCap P ms
all_caps P [] f = tt
all_caps P (m ∷ ms) f = (one m, all_caps P ms f)
  where
    cap : (t : Target) → OfCap P t
    cap (ImportedCap e) = f e.0
    cap (PromisedAnswer q path) = tt

    one : (m : rpc.Message) → TargetCap P m
    one (message.Plain (plain.Abort exception)) = tt
    one (message.Plain (plain.Bootstrap q)) = tt
    one (message.Plain (plain.Call c)) = cap c.target
    one (message.Plain (plain.Return r)) = tt
    one (message.Plain (plain.Finish x)) = tt
    one (message.Plain (plain.Resolve r)) = tt
    one (message.Plain (plain.Release r)) = tt
    one (message.Plain (plain.Disembargo x)) = cap x.target
    one (message.Plain (plain.Other n)) = tt
    one (message.Unimplemented m) = tt

keeping_far : (v : Vat) (g : Ghost) (o i : ℕ) (n : Node) → far v (keeping g o i) n ≡ far v g n
keeping_far v g o i (node.Object x) = refl
keeping_far v g o i (node.Promise p) = refl
keeping_far v g o i (node.Field k path) = refl
keeping_far v g o i (node.Import e) = refl
keeping_far v g o i (node.Pipe q path) = refl
keeping_far v g o i (node.Broken reason) = refl

keeping_head : (v : Vat) (g : Ghost) (o i : ℕ) (n : Node) (dead : Bool) (head : Point) → is_field o n ≡ false → HasHead v g n dead head → HasHead v (keeping g o i) n dead head
keeping_head v g o i (node.Object x) dead head h k = k
keeping_head v g o i (node.Promise p) dead head h k = k
keeping_head v g o i (node.Field j path) dead head h k = (k.0, k.1 ∙ sym (keeping_point v g o i (node.Field j path) h))
keeping_head v g o i (node.Import e) dead head h k = k
keeping_head v g o i (node.Pipe q path) dead head h k = k
keeping_head v g o i (node.Broken reason) dead head h k = k

-- The outcome gets an identity of which nothing came yet.
module _ (v : Vat) (s : State) (g : Ghost) (next up : ℕ) (m : routing.State routes) (o i : ℕ) (who : Caller) (h : Side v s g next m) (free : map.get s.outcomes o ≡ None) (may : Unnamed s (is_field o))
    (unused : (q : ℕ) → IsSome (map.get s.outcomes q) → g.outcome q ≡ i → ⊥) (new : (path : List Op) → IsStop m.net.stop m.net.kind (AField v i path) routing.Open) (empty : m.net.waiting (OfOutcome v i) ≡ []) (below : i < up) (rises : next ≤ up) where
  abbrev f : Ghost
  f = keeping g o i

  abbrev entry : KeptOutcome
  entry = record { caller = who; value = None; waiting = [] }

  linked : (k : Node) → is_field o k ≡ false → (z : Option Node) → ((j : Node) → z ≡ Some j → is_field o j ≡ false) → IsLinked v g m.net k z → IsLinked v f m.net k z
  linked k w None un a = rw (keeping_point v g o i k w) a
  linked k w (Some j) un a = rw (keeping_point v g o i k w) (rw (keeping_point v g o i j (un j refl)) (rw (keeping_far v g o i j) a))

  kept_stops : Stops v (with_outcome s o who) f m.net
  kept_stops (node.Object x) w j = h.stops (node.Object x) w j
  kept_stops (node.Promise p) w j = linked (node.Promise p) refl (link s (node.Promise p)) (λ k e. may.links (node.Promise p) k j e) (h.stops (node.Promise p) w j)
  kept_stops (node.Field q path) w j =
      at_put (λ q z. IsSome z → IsLinked v f m.net (node.Field q path) (field_link path (value_of z))) s.outcomes o entry
      (λ a. rw (with_here g.outcome o i) (new path))
      (λ q n a. linked (node.Field q path) n (link s (node.Field q path)) (λ k e. may.links (node.Field q path) k a e) (h.stops (node.Field q path) refl a)) q j
  kept_stops (node.Import e) w j = cc
  kept_stops (node.Pipe q path) w j = cc
  kept_stops (node.Broken reason) w j = h.stops (node.Broken reason) w j

  ref : (r : ℕ) (z : Option Reference) → map.get s.refs r ≡ z → IsRef v g s.next_ref r z (m.refs (ref_at v r)) → IsRef v f s.next_ref r z (m.refs (ref_at v r))
  ref r None e a = a
  ref r (Some x) e a = (a.0, a.1, a.2, keeping_head v g o i x.head _ _ (may.heads r x e) a.3, a.4)

  embargo : (e : ℕ) (z : Option Embargo) → map.get s.embargoes e ≡ z → HasEmbargo v g m z → HasEmbargo v f m z
  embargo e None k a = tt
  embargo e (Some b) k a = (a.0, a.1, a.2, a.3, a.4, a.5 ∙ sym (keeping_point v g o i b.node (may.embargoes e b k)))

  kept_lists : Lists v s.promises (map.insert s.outcomes o entry) f.promise f.outcome m.net.stop m.net.waiting
  kept_lists = let l = h.lists in record {
    at_promises = l.at_promises;
    at_outcomes = at_put (λ q z. OutcomeHolds m.net.stop v (f.outcome q) (m.net.waiting (OfOutcome v (f.outcome q))) z) s.outcomes o entry
        (rw (with_here g.outcome o i) (rw empty tt))
        (λ q n. rw (with_other g.outcome o i q n) (l.at_outcomes q));
    no_other_promise = l.no_other_promise;
    no_other_outcome = λ j. other j (l.no_other_outcome j);
  }
    where
      open_still : (q : ℕ) → IsOpenOutcome (map.get s.outcomes q) → (b : Bool) → nat_eq q o ≡ b → b ≡ false
      open_still q k false e = refl
      open_still q k true e = absurd (subst IsOpenOutcome (ap (map.get s.outcomes) (equal q o e) ∙ free) k)

      other : (j : ℕ) → (m.net.waiting (OfOutcome v j) ≡ []) ⊎ ((q : ℕ) × IsOpenOutcome (map.get s.outcomes q) × (g.outcome q ≡ j)) → (m.net.waiting (OfOutcome v j) ≡ []) ⊎ ((q : ℕ) × IsOpenOutcome (map.get (map.insert s.outcomes o entry) q) × (f.outcome q ≡ j))
      other j (inl e) = inl e
      other j (inr e) =
          let n = open_still e.0 e.1 (nat_eq e.0 o) refl in
          inr (e.0, at_put (λ q z. IsOpenOutcome (map.get s.outcomes q) → IsOpenOutcome z) s.outcomes o entry (λ k. refl) (λ q k z. z) e.0 e.1, with_other g.outcome o i e.0 n ∙ e.2)

  kept_ids : Ids v s.promises (map.insert s.outcomes o entry) f.promise f.outcome m.net.stop m.net.kind up
  kept_ids = let ids = h.ids in record {
    of_promises = λ p j. (let a = ids.of_promises p j in omega (arith, rises));
    of_outcomes = at_put (λ q z. IsSome z → f.outcome q < up) s.outcomes o entry (λ j. rw (with_here g.outcome o i) below) (λ q n j. rw (with_other g.outcome o i q n) (let a = ids.of_outcomes q j in omega (arith, rises)));
    promises_differ = ids.promises_differ;
    outcomes_differ = λ q r. at_put (λ q z. IsSome z → IsSome (map.get (map.insert s.outcomes o entry) r) → f.outcome q ≡ f.outcome r → q ≡ r) s.outcomes o entry
        (λ j. at_put (λ r z. IsSome z → f.outcome o ≡ f.outcome r → o ≡ r) s.outcomes o entry (λ k e. refl) (λ r n k e. absurd (unused r k (sym (with_other g.outcome o i r n) ∙ (sym e ∙ with_here g.outcome o i)))) r)
        (λ q n j. at_put (λ r z. IsSome z → f.outcome q ≡ f.outcome r → q ≡ r) s.outcomes o entry (λ k e. absurd (unused q j (sym (with_other g.outcome o i q n) ∙ (e ∙ with_here g.outcome o i))))
        (λ r a k e. ids.outcomes_differ q r j k (sym (with_other g.outcome o i q n) ∙ (e ∙ with_other g.outcome o i r a))) r) q;
    new_promises = λ j l. ids.new_promises j (omega (arith, rises, l));
    new_outcomes = λ j path l. ids.new_outcomes j path (omega (arith, rises, l));
  }

  pub kept_side : Side v (with_outcome s o who) f up m
  kept_side = record {
    stops = kept_stops;
    refs = λ r. ref r (map.get s.refs r) refl (h.refs r);
    embargoes = λ e. embargo e (map.get s.embargoes e) refl (h.embargoes e);
    no_other_embargoes = h.no_other_embargoes;
    lists = kept_lists;
    ids = kept_ids;
  }

-- A call's outcome is kept here.
pub keeps : (w : Around) (d : Progress) (g : Ghosts) (m : routing.State routes) (o : ℕ) (who : Caller) → Tied w d g m → map.get d.state.outcomes o ≡ None → MayKeep d.state o
    → Tied w (with_state d (with_outcome d.state o who)) (record { own = keeping g.own o g.next; theirs = g.theirs; next = g.next + 1 }) m
keeps w d g m o who t free may =
    let v = w.vat in
    let s = d.state in
    let side = t.own in
    let ids = side.ids in
    let view = t.view in
    let back = t.back in
    let f = keeping g.own o g.next in
    record {
      own = kept_side v s g.own g.next (g.next + 1) m o g.next who t.own free may.unnamed (λ q i e. (let a = ids.of_outcomes q i in omega (arith, e))) (λ path. ids.new_outcomes g.next path (omega arith)) (next_unused v s g.own g.next m t.own) (omega arith) (omega arith);
      theirs = linked_side (other_vat v) w.other g.theirs g.next m m.net.links t.theirs;
      view = record { imports = view.imports; sessions = view.sessions; link = view.link };
      back = record {
        imports = λ e. import_same e (map.get (w.other).imports e) (back.imports e);
        sessions = subst (λ (z : ℕ → ℕ). (q : ℕ) → IsSession (g.theirs.session q) (past g.theirs z w.back q) (map.get (w.other).questions q)) (sym same) back.sessions;
        link = ap (λ z. shapes (other_vat v) v g.theirs (reader w.other (with_outcome s o who) f) z w.back) same
            ∙ (shapes_exports (other_vat v) v g.theirs (reader w.other s g.own) s.exports f (sessions_at g.own.outcome s.answers) w.back (all_caps _ w.back (λ e. point_same (map.get s.exports e) (may.exports e))) ∙ back.link);
      };
      told = t.told;
      unborn = unborn_later t.unborn;
      unborn_back = unborn_later (unborn_put t.unborn_back o g.next _ (λ k. (let a = still_below t.unborn_back g.next k in absurd (omega (arith, a)))));
      known = λ l. known_as_kept v s g.own (bare m.net) o g.next may.unsaid (t.known l);
      known_there = t.known_there;
      goes = said_as_given (bare m.net) v s.exports g.own f (other_vat v) (w.other).exports g.theirs g.theirs (has_of [] (w.other).imports (w.other).questions) (sessions_at g.theirs.outcome (w.other).answers) (w.out ++ d.effects.sends)
          (λ e. point_same (map.get s.exports e) (may.exports e)) (λ e. refl) (all_opens _ (w.out ++ d.effects.sends) (λ k. refl)) (each_return _ (w.out ++ d.effects.sends) (λ k. refl)) t.goes;
      comes = subst (λ (z : ℕ → ℕ). AllSaid (bare m.net) (other_vat v) (w.other).exports g.theirs v s.exports f (has_of [] s.imports s.questions) z w.back) (sym same)
          (said_as_given (bare m.net) (other_vat v) (w.other).exports g.theirs g.theirs v s.exports g.own f (has_of [] s.imports s.questions) (sessions_at g.own.outcome s.answers) w.back
          (λ e. refl) (λ e. point_same (map.get s.exports e) (may.exports e)) (all_opens _ w.back (λ k. refl)) (each_return _ w.back (λ k. refl)) t.comes);
    }
  where
    f : Ghost
    f = keeping g.own o g.next

    import_same : (e : ℕ) (z : Option Import) → IsImportOf w.vat g.own (g.theirs.import e) (map.get d.state.exports e) z → IsImportOf w.vat f (g.theirs.import e) (map.get d.state.exports e) z
    import_same e None k = tt
    import_same e (Some x) k = by (map.get d.state.exports e) (may.exports e) k
      where
        by : (y : Option Export) → ((x : Export) → y ≡ Some x → is_field o x.node ≡ false) → IsExportAs w.vat g.own (g.theirs.import e) y → IsExportAs w.vat f (g.theirs.import e) y
        by None own a = absurd a
        by (Some y) own a = a ∙ sym (keeping_point w.vat g.own o g.next y.node (own y refl))

    point_same : (y : Option Export) → ((x : Export) → y ≡ Some x → is_field o x.node ≡ false) → point w.vat f (export_node y) ≡ point w.vat g.own (export_node y)
    point_same None own = refl
    point_same (Some y) own = keeping_point w.vat g.own o g.next y.node (own y refl)

    same : sessions_at f.outcome d.state.answers ≡ sessions_at g.own.outcome d.state.answers
    same = fun_ext (λ q. by (map.get d.state.answers q) (may.answers q))
      where
        by : (z : Option AnswerEntry) → ((a : AnswerEntry) → z ≡ Some a → nat_eq a.outcome o ≡ false) → session_of f.outcome z ≡ session_of g.own.outcome z
        by None k = refl
        by (Some a) k = with_other g.own.outcome o g.next a.outcome (k a refl)
