-- A Call is received.
use mathlib.Core.Path.{fun_ext}
use Rattle.std.specs.FinMap as map
use Rattle.std.proofs.Common.{◌≡◌, ℕ, ◌≤◌, Bool, nat_eq, true, false, cond, List, [], ◌∷◌, Option, None, Some, refl, sym, ap, subst, ◌∙◌, arith, ◌++◌}
use Rattle.finite_maps.proofs.Tested.{get_put}
use Rattle.rpc_msg.specs.declared.ids.Vat.{Vat}
use Rattle.rpc_msg.specs.declared.message.Call as calls
use Rattle.rpc_msg.specs.declared.message.PlainMessage.TheVariants as plain
use Rattle.rpc_msg.specs.declared.message.Message as rpc
use Rattle.rpc_msg.specs.declared.message.Message.TheVariants as message
use Rattle.rpc_msg.specs.Vats.{other_vat}
use Rattle.rpc_journal.specs.History.{caller}
use Rattle.rpc_machine.specs.declared.calls.Caller.TheVariants as caller_of
use Rattle.rpc_machine.specs.declared.entries.AnswerEntry.{AnswerEntry}
use Rattle.rpc_machine.specs.declared.entries.Export.{Export}
use Rattle.rpc_machine.specs.declared.entries.Import.{Import}
use Rattle.rpc_machine.specs.State.{State}
use Rattle.rpc_machine.specs.Nodes.{is_field}
use Rattle.rpc_machine.specs.Progress.{Progress, with_state, export_ids}
use Rattle.rpc_machine.specs.Messages.{opened}
use Rattle.rpc_machine.specs.Descriptors.{export_node}
use Rattle.laws_order.specs.Machine.{Message, Content, Call, changed, same_vat}
use Rattle.laws_order.specs.Machine as routing
use Rattle.laws_order.specs.Moves.{Moves, Done, Next, Comes, with_link}
use Rattle.laws_order.proofs.Choices.{changed_here, changed_other}
use Rattle.laws_routes.specs.Points.{Point, end, routes}
use Rattle.laws_routes.specs.Ghosts.{Ghost, point, with_at, keeping}
use Rattle.laws_routes.specs.Views.{Shape, IsImportOf, IsSession, past, reader, session_of, sessions_at, shapes, shapes_of, target_of, target_point}
use Rattle.laws_routes.specs.Ties.{Around, Ghosts, Tied}
use Rattle.laws_routes.specs.Premises.{MayKeep}
use Rattle.laws_routes.specs.Laws.{with_back}
use Rattle.laws_routes.proofs.DisembargoBack.{oldest, relinked}
use Rattle.laws_routes.proofs.Differing.{ends_differ, with_here, with_other}
use Rattle.laws_routes.proofs.NewPoints.{keeping_point}
use Rattle.laws_routes.proofs.OutcomeKept.{all_caps, kept_side}
use Rattle.laws_routes.proofs.LinkShapes.{shapes_exports}
use Rattle.laws_routes.proofs.UnbornKept.{unborn_first, unborn_received}
use Rattle.laws_routes.specs.Sayings.{AllSaid, bare, has_behind, has_of, is_among}
use Rattle.laws_routes.specs.KnownLaws.{SamePoints}
use Rattle.laws_routes.proofs.KnownKept.{known_as_kept}
use Rattle.laws_routes.proofs.LinkShapes.{all_opens}
use Rattle.laws_routes.proofs.SayingsCarried.{each_return, or_right, said_as_given, said_of_fewer}
use Rattle.rpc_msg.specs.Messages.{given}
use Rattle.std.specs.Prelude.{is_some}

some_target : (y : Message routes) (p : Point) (i : ℕ) → y.what ≡ Call i → target_of y.target y.what ≡ Some p → y.target ≡ p
some_target y p i e h =
    let a : Some y.target ≡ Some p = subst (λ z. target_of y.target z ≡ Some p) e h in
    cc

module _ (v : Vat) (g : Ghost) (o i : ℕ) where
  pub import_still : (x : Point) (y : Option Export) (z : Option Import) → ((e : Export) → y ≡ Some e → is_field o e.node ≡ false) → IsImportOf v g x y z → IsImportOf v (keeping g o i) x y z
  import_still x y None own h = tt
  import_still x None (Some j) own h = absurd h
  import_still x (Some e) (Some j) own h = h ∙ sym (keeping_point v g o i e.node (own e refl))

  pub point_still : (y : Option Export) → ((e : Export) → y ≡ Some e → is_field o e.node ≡ false) → point v (keeping g o i) (export_node y) ≡ point v g (export_node y)
  point_still None own = refl
  point_still (Some e) own = keeping_point v g o i e.node (own e refl)

-- The new answer is that session.
pub sessions_now : (g : Ghost) (s : State) (q o i : ℕ) (entry : AnswerEntry) → entry.outcome ≡ o → ((k : ℕ) (a : AnswerEntry) → map.get s.answers k ≡ Some a → nat_eq a.outcome o ≡ false)
    → sessions_at (keeping g o i).outcome (map.insert s.answers q entry) ≡ with_at (sessions_at g.outcome s.answers) q i
sessions_now g s q o i entry e own = fun_ext (λ k. ap (session_of (with_at g.outcome o i)) (get_put s.answers q entry k) ∙ by k (nat_eq k q))
  where
    old : (z : Option AnswerEntry) → ((a : AnswerEntry) → z ≡ Some a → nat_eq a.outcome o ≡ false) → session_of (with_at g.outcome o i) z ≡ session_of g.outcome z
    old None f = refl
    old (Some a) f = with_other g.outcome o i a.outcome (f a refl)

    by : (k : ℕ) (b : Bool) → session_of (with_at g.outcome o i) (cond b (Some entry) (map.get s.answers k)) ≡ cond b i (session_of g.outcome (map.get s.answers k))
    by k true = ap (with_at g.outcome o i) e ∙ with_here g.outcome o i
    by k false = old (map.get s.answers k) (own k)

pub comes : (w : Around) (d : Progress) (g : Ghosts) (m : routing.State routes) (c : calls.Call) (o : ℕ) (taken : List ℕ) (rest : List rpc.Message) → Tied (with_back w (message.Plain (plain.Call c) ∷ rest)) d g m
    → map.get d.state.outcomes o ≡ None → MayKeep d.state o
    → (n : routing.State routes) × (y : Message routes)
    × ((y.target ≡ target_point w.vat (d.state).exports g.own (sessions_at g.own.outcome (d.state).answers) c.target) × (y.ref ≡ caller c.stamp) × (y.what ≡ Call c.stamp.index))
    × Moves n (y ∷ []) m []
    × Tied (with_back w rest) (with_state d (opened d.state c.question.0 o taken)) (record { own = keeping g.own o (g.theirs.session c.question.0); theirs = g.theirs; next = g.next }) n
    × ((n.net.stop ≡ m.net.stop) × (n.net.kind ≡ m.net.kind))
comes w d g m c o taken rest t free may =
    let born = unborn_first t.unborn_back in
    let back = t.back in
    let view = t.view in
    let oldest_is = oldest (m.net.links (end v)) first (shapes u v g.theirs (reader w.other s g.own) (with_at now q i) rest) back.link in
    let y = oldest_is.0 in
    let ys = oldest_is.1 in
    let what : y.what ≡ Call c.stamp.index = ap (λ (z : Shape). z.what) oldest_is.3 in
    let ref : y.ref ≡ caller c.stamp = ap (λ (z : Shape). z.ref) oldest_is.3 in
    let to : y.target ≡ goes = some_target y goes c.stamp.index what (ap (λ (z : Shape). z.target) oldest_is.3) in
    let n : routing.State routes = with_link m (end v) ys in
    let side = kept_side v s g.own g.next g.next m o i (caller_of.Peer (record { 0 = q })) t.own free may.unnamed born.unused born.new born.empty born.below (same_number g.next) in (
      n,
      y,
      (to, ref, what),
      Next (Comes (end v) y ys c.stamp.index oldest_is.2 what refl refl refl) Done,
      record {
        own = record { stops = side.stops; refs = side.refs; embargoes = side.embargoes; no_other_embargoes = side.no_other_embargoes; lists = side.lists; ids = side.ids };
        theirs = relinked u w.other g.theirs g.next m n.net.links t.theirs;
        view = record {
          imports = view.imports;
          sessions = view.sessions;
          link = view.link ∙ ap shapes_of (sym (changed_other same_vat m.net.links (end v) ys (end u) (ends_differ v)));
        };
        back = record {
          imports = λ e. import_still v g.own o i (g.theirs.import e) (map.get s.exports e) (map.get (w.other).imports e) (may.exports e) (back.imports e);
          sessions = subst (λ (z : ℕ → ℕ). (k : ℕ) → IsSession (g.theirs.session k) (past g.theirs z rest k) (map.get (w.other).questions k)) (sym changes) back.sessions;
          link =
              ap (λ z. shapes u v g.theirs (reader w.other (opened s q o taken) (keeping g.own o i)) z rest) changes
              ∙ (shapes_exports u v g.theirs (reader w.other s g.own) s.exports (keeping g.own o i) (with_at now q i) rest (all_caps _ rest (λ e. point_still v g.own o i (map.get s.exports e) (may.exports e)))
              ∙ (oldest_is.4 ∙ ap shapes_of (sym (changed_here same_vat m.net.links (end v) ys))));
        };
        told = t.told;
        unborn = t.unborn;
        unborn_back = unborn_received t.unborn_back o _;
        known = λ l. known_as_kept v s g.own (bare m.net) o i may.unsaid (t.known l);
        known_there = t.known_there;
        goes = said_as_given (bare m.net) v s.exports g.own (keeping g.own o i) u (w.other).exports g.theirs g.theirs (has_of [] (w.other).imports (w.other).questions) (sessions_at g.theirs.outcome (w.other).answers) (w.out ++ d.effects.sends)
            same_points (λ e. refl) (all_opens _ (w.out ++ d.effects.sends) (λ k. refl)) (each_return _ (w.out ++ d.effects.sends) (λ k. refl)) t.goes;
        comes = subst (λ (z : ℕ → ℕ). AllSaid (bare m.net) u (w.other).exports g.theirs v s.exports (keeping g.own o i) (has_of [] s.imports s.questions) z rest) (sym changes)
            (said_as_given (bare m.net) u (w.other).exports g.theirs g.theirs v s.exports g.own (keeping g.own o i) (has_of [] s.imports s.questions) (with_at now q i) rest (λ e. refl) same_points (all_opens _ rest (λ k. refl)) (each_return _ rest (λ k. refl)) fewer);
      },
      (refl, refl),
    )
  where
    v : Vat
    v = w.vat

    u : Vat
    u = other_vat w.vat

    s : State
    s = d.state

    q : ℕ
    q = c.question.0

    i : ℕ
    i = g.theirs.session c.question.0

    now : ℕ → ℕ
    now = sessions_at g.own.outcome (d.state).answers

    goes : Point
    goes = target_point w.vat (d.state).exports g.own now c.target

    first : Shape
    first = record { target = Some goes; ref = caller c.stamp; what = Call c.stamp.index }

    same_points : SamePoints v g.own (keeping g.own o i) s.exports
    same_points e = point_still v g.own o i (map.get s.exports e) (may.exports e)

    fewer : AllSaid (bare m.net) u (w.other).exports g.theirs v s.exports g.own (has_of [] s.imports s.questions) (with_at now q i) rest
    fewer = said_of_fewer (bare m.net) u (w.other).exports g.theirs v s.exports g.own (has_behind (has_of [] s.imports s.questions) c.descriptors) (has_of [] s.imports s.questions) (with_at now q i) rest
        (λ e h. or_right (is_among e (given c.descriptors)) (is_some (map.get s.imports e)) h) (each_return _ rest (λ k h. h)) t.comes.1

    same_number : (k : ℕ) → k ≤ k
    same_number k = omega arith

    changes : sessions_at (keeping g.own o i).outcome (opened s q o taken).answers ≡ with_at now q i
    changes = sessions_now g.own s q o i (record { outcome = o; taken = export_ids taken; returned = None; finished = false }) refl may.answers
