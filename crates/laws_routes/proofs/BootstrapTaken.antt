-- A Bootstrap is received, and answered.
use Rattle.std.specs.FinMap as map
use Rattle.std.proofs.Common.{◌≡◌, ℕ, ◌≤◌, false, List, [], ◌∷◌, None, refl, sym, ap, subst, ◌∙◌, arith, ◌++◌}
use Rattle.rpc_msg.specs.declared.ids.Vat.{Vat}
use Rattle.rpc_msg.specs.declared.ids.QuestionId.{QuestionId}
use Rattle.rpc_msg.specs.declared.message.PlainMessage.TheVariants as plain
use Rattle.rpc_msg.specs.declared.message.Message as rpc
use Rattle.rpc_msg.specs.declared.message.Message.TheVariants as message
use Rattle.rpc_msg.specs.Vats.{other_vat}
use Rattle.rpc_machine.specs.declared.calls.Caller.TheVariants as caller_of
use Rattle.rpc_machine.specs.State.{State}
use Rattle.rpc_machine.specs.Progress.{Progress, with_state}
use Rattle.rpc_machine.specs.Messages.{TakesBootstrap, bootstrap_value, opened}
use Rattle.laws_order.specs.Machine as routing
use Rattle.laws_order.specs.Invariant.{InvariantWith}
use Rattle.laws_routes.specs.Points.{routes}
use Rattle.laws_routes.specs.Ghosts.{with_at, keeping}
use Rattle.laws_routes.specs.Views.{IsSession, past, reader, sessions_at, shapes}
use Rattle.laws_routes.specs.Ties.{Around, Ghosts, Tied}
use Rattle.laws_routes.specs.Premises.{MayKeep}
use Rattle.laws_routes.specs.Laws.{Comes, with_back}
use Rattle.laws_routes.specs.TakingLaws.{MayTakeBootstrap}
use Rattle.laws_routes.proofs.CallTaken.{import_still, point_still, sessions_now}
use Rattle.laws_routes.proofs.OutcomeKept.{all_caps, kept_side}
use Rattle.laws_routes.proofs.LinkShapes.{shapes_exports}
use Rattle.laws_routes.proofs.OutcomeSettled.{outcome_settles}
use Rattle.laws_routes.proofs.UnbornKept.{unborn_first, unborn_received}
use Rattle.laws_routes.specs.Sayings.{AllSaid, bare, has_of}
use Rattle.laws_routes.specs.KnownLaws.{SamePoints}
use Rattle.laws_routes.proofs.KnownKept.{known_as_kept}
use Rattle.laws_routes.proofs.LinkShapes.{all_opens}
use Rattle.laws_routes.proofs.SayingsCarried.{each_return, said_as_given}

pub bootstrap_comes : (w : Around) (d : Progress) (g : Ghosts) (m : routing.State routes) (id : QuestionId) (o : ℕ) (rest : List rpc.Message) → Tied (with_back w (message.Plain (plain.Bootstrap id) ∷ rest)) d g m
    → map.get d.state.outcomes o ≡ None → MayKeep d.state o
    → Tied (with_back w rest) (with_state d (opened d.state id.0 o [])) (record { own = keeping g.own o (g.theirs.session id.0); theirs = g.theirs; next = g.next }) m
bootstrap_comes w d g m id o rest t free may =
    let born = unborn_first t.unborn_back in
    let back = t.back in
    let view = t.view in
    let side = kept_side v s g.own g.next g.next m o i (caller_of.Peer (record { 0 = q })) t.own free may.unnamed born.unused born.new born.empty born.below (same_number g.next) in
    record {
      own = record { stops = side.stops; refs = side.refs; embargoes = side.embargoes; no_other_embargoes = side.no_other_embargoes; lists = side.lists; ids = side.ids };
      theirs = t.theirs;
      view = record { imports = view.imports; sessions = view.sessions; link = view.link };
      back = record {
        imports = λ e. import_still v g.own o i (g.theirs.import e) (map.get s.exports e) (map.get (w.other).imports e) (may.exports e) (back.imports e);
        sessions = subst (λ (z : ℕ → ℕ). (k : ℕ) → IsSession (g.theirs.session k) (past g.theirs z rest k) (map.get (w.other).questions k)) (sym changes) back.sessions;
        link =
            ap (λ z. shapes u v g.theirs (reader w.other (opened s q o []) (keeping g.own o i)) z rest) changes
            ∙ (shapes_exports u v g.theirs (reader w.other s g.own) s.exports (keeping g.own o i) (with_at now q i) rest (all_caps _ rest (λ e. point_still v g.own o i (map.get s.exports e) (may.exports e)))
            ∙ back.link);
      };
      told = t.told;
      unborn = t.unborn;
      unborn_back = unborn_received t.unborn_back o _;
      known = λ l. known_as_kept v s g.own (bare m.net) o i may.unsaid (t.known l);
      known_there = t.known_there;
      goes = said_as_given (bare m.net) v s.exports g.own (keeping g.own o i) u (w.other).exports g.theirs g.theirs (has_of [] (w.other).imports (w.other).questions) (sessions_at g.theirs.outcome (w.other).answers) (w.out ++ d.effects.sends)
          same_points (λ e. refl) (all_opens _ (w.out ++ d.effects.sends) (λ k. refl)) (each_return _ (w.out ++ d.effects.sends) (λ k. refl)) t.goes;
      comes = subst (λ (z : ℕ → ℕ). AllSaid (bare m.net) u (w.other).exports g.theirs v s.exports (keeping g.own o i) (has_of [] s.imports s.questions) z rest) (sym changes)
          (said_as_given (bare m.net) u (w.other).exports g.theirs g.theirs v s.exports g.own (keeping g.own o i) (has_of [] s.imports s.questions) (with_at now q i) rest (λ e. refl) same_points (all_opens _ rest (λ k. refl)) (each_return _ rest (λ k. refl)) t.comes.1);
    }
  where
    v : Vat
    v = w.vat

    u : Vat
    u = other_vat w.vat

    s : State
    s = d.state

    q : ℕ
    q = id.0

    i : ℕ
    i = g.theirs.session id.0

    now : ℕ → ℕ
    now = sessions_at g.own.outcome (d.state).answers

    same_points : SamePoints v g.own (keeping g.own o i) s.exports
    same_points e = point_still v g.own o i (map.get s.exports e) (may.exports e)

    same_number : (k : ℕ) → k ≤ k
    same_number k = omega arith

    changes : sessions_at (keeping g.own o i).outcome (opened s q o []).answers ≡ with_at now q i
    changes = sessions_now g.own s q o i (record { outcome = o; taken = []; returned = None; finished = false }) refl may.answers

pub bootstrap_taken : (w : Around) (d : Progress) (g : Ghosts) (m : routing.State routes) (q : QuestionId) (rest : List rpc.Message) (new : Progress) → Tied (with_back w (message.Plain (plain.Bootstrap q) ∷ rest)) d g m → InvariantWith m []
    → (h : TakesBootstrap d q.0 new) → MayTakeBootstrap (with_back w rest) d q new h → Comes (with_back w rest) new m [] []
bootstrap_taken w d g m q rest new t i h may =
    let o : ℕ = h.0 in
    let opens = bootstrap_comes w d g m q o rest t h.1 may.keeps in
    outcome_settles (with_back w rest) (with_state d (opened d.state q.0 o [])) (record { own = keeping g.own o (g.theirs.session q.0); theirs = g.theirs; next = g.next }) m o (bootstrap_value d.state.bootstrap) new opens i h.2 may.settles
