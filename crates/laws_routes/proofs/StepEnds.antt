-- The end of a step: what no place names goes, questions are finished, and imports are released.
use Rattle.std.specs.FinMap as map
use Rattle.std.proofs.Common.{ℕ, List, [], ◌∷◌, ◌++◌, Option, None, Some, sym, subst, ◌≡◌, true, refl, inl, inr}
use Rattle.finite_maps.specs.Tally.{Map}
use Rattle.finite_maps.proofs.Tested.{at_cut, at_put}
use Rattle.rpc_msg.specs.declared.message.PlainMessage.TheVariants as plain
use Rattle.rpc_msg.specs.declared.message.Message.TheVariants as message
use Rattle.rpc_machine.specs.declared.entries.Finishing.{Finishing}
use Rattle.rpc_machine.specs.declared.entries.Finishing.TheVariants as finishing
use Rattle.rpc_machine.specs.declared.entries.Question.{Question}
use Rattle.rpc_machine.specs.declared.entries.Returned.{Returned}
use Rattle.rpc_machine.specs.Progress.{Progress, with_state, send, export_id}
use Rattle.rpc_machine.specs.Flags.{flag_for, give_back}
use Rattle.rpc_machine.specs.Sweeping.{Sweeps, FinishesEach, closed, closed_map, finished_by, got_of, release_each}
use Rattle.laws_order.specs.Machine as routing
use Rattle.laws_routes.specs.Points.{routes}
use Rattle.laws_routes.specs.Views.{IsSession, past, sessions_at}
use Rattle.laws_routes.specs.Ties.{Around, Ghosts, Tied}
use Rattle.laws_routes.proofs.ReturnSent.{collected, given_tied}
use Rattle.laws_routes.proofs.SilentMessages.{silent_goes}
use Rattle.laws_routes.specs.Sayings.{KnownAt, bare, has_of, is_waiting, not_sent}
use Rattle.laws_routes.proofs.KnownKept.{Less, close, less}
use Rattle.laws_routes.proofs.SayingsCarried.{each_return, said_of_fewer}
use Rattle.rpc_machine.specs.Advancing.{returned_of}
use Rattle.rpc_msg.specs.Vats.{other_vat}

-- Other questions, each of the same session where its Finish was not sent.
pub questions_tied : (w : Around) (d : Progress) (g : Ghosts) (m : routing.State routes) → Tied w d g m → (Q : Map Question)
    → ((q : ℕ) → IsSession (g.own.session q) (past g.own (sessions_at g.theirs.outcome (w.other).answers) (w.out ++ d.effects.sends) q) (map.get Q q))
    → ((q : ℕ) → is_waiting (map.get Q q) ≡ true → is_waiting (map.get d.state.questions q) ≡ true) → KnownAt w.vat (record (d.state) { questions = Q }) g.own m.net → Tied w (with_state d (record (d.state) { questions = Q })) g m
questions_tied w d g m t Q h waits known =
    let side = t.own in
    let view = t.view in
    let back = t.back in
    record {
      own = record { stops = side.stops; refs = side.refs; embargoes = side.embargoes; no_other_embargoes = side.no_other_embargoes; lists = side.lists; ids = side.ids };
      theirs = t.theirs;
      view = record { imports = view.imports; sessions = h; link = view.link };
      back = record { imports = back.imports; sessions = back.sessions; link = back.link };
      told = t.told;
      unborn = t.unborn;
      unborn_back = t.unborn_back;
      known = known;
      known_there = t.known_there;
      goes = t.goes;
      comes = said_of_fewer (bare m.net) (other_vat w.vat) (w.other).exports g.theirs w.vat (d.state).exports g.own (has_of [] (d.state).imports (d.state).questions) (has_of [] (d.state).imports Q) (sessions_at g.own.outcome (d.state).answers) w.back
          (λ e i. i) (each_return _ w.back waits) t.comes;
    }

-- A question goes.
pub question_gone : (w : Around) (d : Progress) (g : Ghosts) (m : routing.State routes) → Tied w d g m → (q : ℕ) → Tied w (with_state d (record (d.state) { questions = map.remove d.state.questions q })) g m
question_gone w d g m t q =
    let view = t.view in
    let Q = (d.state).questions in
    questions_tied w d g m t (map.remove Q q)
    (at_cut (λ k o. IsSession (g.own.session k) (past g.own (sessions_at g.theirs.outcome (w.other).answers) (w.out ++ d.effects.sends) k) o) Q q tt (λ k n. view.sessions k))
    (at_cut (λ k o. is_waiting o ≡ true → is_waiting (map.get Q k) ≡ true) Q q (λ i. cc) (λ k n i. i))
    (λ l. less w.vat g.own (bare m.net) d.state (record (d.state) { questions = map.remove Q q }) (λ k. inr refl) (at_cut (λ k o. Less (returned_of (map.get Q k)) (returned_of o)) Q q (inl refl) (λ k n. inr refl)) (t.known l))

-- It changes: if its Finish is not sent behind, it was not before.
pub question_put : (w : Around) (d : Progress) (g : Ghosts) (m : routing.State routes) → Tied w d g m → (q : ℕ) (x : Question)
    → IsSession (g.own.session q) (past g.own (sessions_at g.theirs.outcome (w.other).answers) (w.out ++ d.effects.sends) q) (Some x) → (not_sent x.finish ≡ true → is_waiting (map.get d.state.questions q) ≡ true)
    → KnownAt w.vat (record (d.state) { questions = map.insert d.state.questions q x }) g.own m.net → Tied w (with_state d (record (d.state) { questions = map.insert d.state.questions q x })) g m
question_put w d g m t q x h waits known =
    let view = t.view in
    let Q = (d.state).questions in
    questions_tied w d g m t (map.insert Q q x)
    (at_put (λ k o. IsSession (g.own.session k) (past g.own (sessions_at g.theirs.outcome (w.other).answers) (w.out ++ d.effects.sends) k) o) Q q x h (λ k n. view.sessions k))
    (at_put (λ k o. is_waiting o ≡ true → is_waiting (map.get Q k) ≡ true) Q q x waits (λ k n i. i)) known

closed_tied : (w : Around) (d : Progress) (g : Ghosts) (m : routing.State routes) → Tied w d g m → (q : ℕ) (x : Question) → Tied w (with_state d (closed d.state q x)) g m
closed_tied w d g m t q x = by x.returned (λ l. close w.vat g.own (bare m.net) d.state q x (t.known l))
  where
    by : (o : Option Returned) → KnownAt w.vat (record (d.state) { questions = closed_map d.state.questions q x o }) g.own m.net → Tied w (with_state d (record (d.state) { questions = closed_map d.state.questions q x o })) g m
    by None k = question_put w d g m t q (record x { finish = finishing.Sent }) (λ h. absurd h) (λ i. cc) k
    by (Some said) k = question_gone w d g m t q

finished_tied : (w : Around) (d : Progress) (g : Ghosts) (m : routing.State routes) → Tied w d g m → (q : ℕ) (x : Question) (f : Finishing) → Tied w (finished_by d q x f) g m
finished_tied w d g m t q x finishing.Owed =
    let flag = flag_for d.state (got_of x.returned) in
    let left = give_back d.state (got_of x.returned) in
    silent_goes w (with_state d (closed left q x)) g m (message.Plain (plain.Finish (record { question = record { 0 = q }; release_result_caps = flag })))
    (closed_tied w (with_state d left) g m (given_tied w d g m t flag (got_of x.returned)) q x) tt tt
finished_tied w d g m t q x finishing.Sent = t
finished_tied w d g m t q x finishing.Waived = closed_tied w d g m t q x

each_finished : (w : Around) (d : Progress) (g : Ghosts) (m : routing.State routes) (xs : List (ℕ × Question)) (new : Progress) → Tied w d g m → FinishesEach d xs new → Tied w new g m
each_finished w d g m [] new t h = rw h t
each_finished w d g m (x ∷ xs) new t h =
    let y : Question = x.1 in
    each_finished w (finished_by h.0 x.0 y y.finish) g m xs new (finished_tied w h.0 g m (collected w g m h.0 d h.1 t) x.0 y y.finish) h.2

each_released : (w : Around) (d : Progress) (g : Ghosts) (m : routing.State routes) (xs : List (ℕ × ℕ)) → Tied w d g m → Tied w (release_each d xs) g m
each_released w d g m [] t = t
each_released w d g m (x ∷ xs) t =
    let said = plain.Release (record { export = export_id x.0; count = x.1 }) in
    each_released w (send d said) g m xs (silent_goes w d g m (message.Plain said) t tt tt)

pub swept : (w : Around) (d : Progress) (g : Ghosts) (m : routing.State routes) (new : Progress) → Tied w d g m → Sweeps d new → Tied w new g m
swept w d g m new t h =
    let mid : Progress = h.2.0 in
    let tight : Progress = h.2.2.0 in
    let at_mid = each_finished w d g m (map.entries h.0) mid t h.2.1 in
    let at_tight = collected w g m tight mid h.2.2.1 at_mid in
    subst (λ (z : Progress). Tied w z g m) (sym h.2.2.2) (each_released w tight g m (map.entries tight.released) at_tight)
