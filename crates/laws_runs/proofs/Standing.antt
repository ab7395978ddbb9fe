-- The sessions of two vats stand whatever either does.
use Rattle.std.proofs.Common.{◌≡◌, List, [], ◌∷◌, ◌++◌, Option, None, refl, sym, ap, subst, ◌∙◌, append_assoc}
use Rattle.std.proofs.lemmas.List.{append-nil}
use Rattle.std.specs.FinMap as map
use Rattle.std.specs.Ordering.{nat_cmp}
use Rattle.rpc_msg.specs.declared.ids.Vat.{Vat}
use Rattle.rpc_msg.specs.declared.ids.Vat.TheVariants.{A, B}
use Rattle.rpc_msg.specs.declared.ids.ObjectId.{ObjectId}
use Rattle.rpc_msg.specs.declared.message.Message.TheVariants as message
use Rattle.finite_maps.specs.Tally.{Map}
use Rattle.rpc_machine.specs.declared.calls.KeptOutcome.{KeptOutcome}
use Rattle.rpc_machine.specs.declared.command.Command.{Command}
use Rattle.rpc_machine.specs.declared.command.Granted.{Granted}
use Rattle.rpc_machine.specs.declared.command.Effects.{Effects}
use Rattle.rpc_machine.specs.declared.command.Level.TheVariants.{One}
use Rattle.rpc_machine.specs.declared.entries.Question.{Question}
use Rattle.rpc_machine.specs.declared.entries.AnswerEntry.{AnswerEntry}
use Rattle.rpc_machine.specs.State.{State, start}
use Rattle.rpc_machine.specs.Progress.{begin, with_state}
use Rattle.rpc_machine.specs.Refusals.{refused}
use Rattle.rpc_machine.specs.Faults.{fault_of}
use Rattle.rpc_machine.specs.Steps.{Does, Handles}
use Rattle.laws_steps.specs.Callers.{IsOpenFor}
use Rattle.laws_acts.specs.Acts.{StepsAreActs}
use Rattle.laws_acts.specs.Sent.{Ids, Noted, all_sent, sent_at_once}
use Rattle.laws_runs.specs.Questions as session
use Rattle.laws_runs.specs.Questions.{Asker, Answerer, Out, Ret, Row, Idle, hear_one, tell_one}
use Rattle.laws_runs.specs.Views.{asker_of, answerer_of, out_of, ret_of, outs, rets, SendsAll, ReturnsAll, tell, hear, IsUsual, IsReady, Moves, Gets}
use Rattle.laws_runs.specs.Between.{StillHolds, IsKept}
use Rattle.laws_runs.specs.Worlds.{AreRows, Stand}
use Rattle.laws_runs.proofs.Rows as rows
use Rattle.laws_runs.proofs.Acted.{outs-append, rets-append, useful-append, then, acts}
use Rattle.laws_runs.proofs.Heard.{consumes}

-- ---- One session

sends_all : (v w : Asker Ids Ids) (ms out : List (Out Ids Ids)) (u : Answerer Ids Ids) (back : List (Ret Ids Ids)) → Row v out u back → SendsAll v ms w → Row w (out ++ ms) u back
sends_all v w [] out u back r h = subst (λ (o : List (Out Ids Ids)). Row w o u back) (sym (append-nil out)) (subst (λ (y : Asker Ids Ids). Row y out u back) h r)
sends_all v w (m ∷ ms) out u back r h = subst (λ (o : List (Out Ids Ids)). Row w o u back) (append_assoc out (m ∷ []) ms) (sends_all h.0 w ms (out ++ m ∷ []) u back (rows.sends v h.0 m out u back r h.1) h.2)

returns_all : (v : Asker Ids Ids) (out : List (Out Ids Ids)) (u w : Answerer Ids Ids) (ms back : List (Ret Ids Ids)) → Row v out u back → ReturnsAll u ms w → Row v out w (back ++ ms)
returns_all v out u w [] back r h = subst (λ (o : List (Ret Ids Ids)). Row v out w o) (sym (append-nil back)) (subst (λ (y : Answerer Ids Ids). Row v out y back) h r)
returns_all v out u w (m ∷ ms) back r h = subst (λ (o : List (Ret Ids Ids)). Row v out w o) (append_assoc back (m ∷ []) ms) (returns_all v out h.0 w ms (back ++ m ∷ []) (rows.returns v out u h.0 m back r h.1) h.2)

tell_all : (v : Asker Ids Ids) (out : List (Out Ids Ids)) (u : Answerer Ids Ids) (ms back : List (Ret Ids Ids)) → Row v out u (ms ++ back) → Row (tell v ms) out u back
tell_all v out u [] back r = r
tell_all v out u (m ∷ ms) back r = tell_all (tell_one v m) out u ms back (rows.told v out u m (ms ++ back) r)

hear_all : (v : Asker Ids Ids) (ms out : List (Out Ids Ids)) (u : Answerer Ids Ids) (back : List (Ret Ids Ids)) → Row v (ms ++ out) u back → Row v out (hear u ms) back
hear_all v [] out u back r = r
hear_all v (m ∷ ms) out u back r = hear_all v ms out (hear_one u m) back (rows.heard v m (ms ++ out) u back r)

-- ---- All sessions of two vats: s moves, t does not

moves_out : (s new t : State) (to_s to_t sent : List Noted) → AreRows s to_s t to_t → Moves s sent new → AreRows new to_s t (to_t ++ sent)
moves_out s new t to_s to_t sent r m q =
    subst (λ (o : List (Out Ids Ids)). Row (asker_of (map.get new.questions q)) o (answerer_of (map.get t.answers q)) (rets q to_s)) (sym (outs-append q to_t sent))
    (sends_all (asker_of (map.get s.questions q)) (asker_of (map.get new.questions q)) (outs q sent) (outs q to_t) (answerer_of (map.get t.answers q)) (rets q to_s) (r q) (m.asks q))

moves_back : (s new t : State) (to_s to_t sent : List Noted) → AreRows t to_t s to_s → Moves s sent new → AreRows t (to_t ++ sent) new to_s
moves_back s new t to_s to_t sent r m q =
    subst (λ (o : List (Ret Ids Ids)). Row (asker_of (map.get t.questions q)) (outs q to_s) (answerer_of (map.get new.answers q)) o) (sym (rets-append q to_t sent))
    (returns_all (asker_of (map.get t.questions q)) (outs q to_s) (answerer_of (map.get s.answers q)) (answerer_of (map.get new.answers q)) (rets q sent) (rets q to_t) (r q) (m.returns q))

pub gets_back : (s new t : State) (n : Noted) (to_s to_t : List Noted) → AreRows s (n ∷ to_s) t to_t → Gets s n.message new → AreRows new to_s t to_t
gets_back s new t n to_s to_t r g q =
    subst (λ (y : Asker Ids Ids). Row y (outs q to_t) (answerer_of (map.get t.answers q)) (rets q to_s)) (sym (g.tells q n.lets))
    (tell_all (asker_of (map.get s.questions q)) (outs q to_t) (answerer_of (map.get t.answers q)) (ret_of q n.message n.lets) (rets q to_s) (r q))

pub gets_out : (s new t : State) (n : Noted) (to_s to_t : List Noted) → AreRows t to_t s (n ∷ to_s) → Gets s n.message new → AreRows t to_t new to_s
gets_out s new t n to_s to_t r g q =
    subst (λ (y : Answerer Ids Ids). Row (asker_of (map.get t.questions q)) (outs q to_s) y (rets q to_t)) (sym (g.hears q n.lets))
    (hear_all (asker_of (map.get t.questions q)) (out_of q n.message n.lets) (outs q to_s) (answerer_of (map.get s.answers q)) (rets q to_t) (r q))

-- ---- Two vats

pub turned : (s t : State) (to_s to_t : List Noted) → Stand s to_s t to_t → Stand t to_t s to_s
turned s t to_s to_t k = record { useful_s = k.useful_t; useful_t = k.useful_s; ready_s = k.ready_t; ready_t = k.ready_s; of_s = k.of_t; of_t = k.of_s }

-- The vat s does something by itself.
pub moved : (s t new : State) (to_s to_t sent : List Noted) → Stand s to_s t to_t → Moves s sent new → Stand new to_s t (to_t ++ sent)
moved s t new to_s to_t sent k m = record {
  useful_s = k.useful_s;
  useful_t = useful-append to_t sent k.useful_t m.useful;
  ready_s = m.ready;
  ready_t = k.ready_t;
  of_s = moves_out s new t to_s to_t sent k.of_s m;
  of_t = moves_back s new t to_s to_t sent k.of_t m;
}

-- It does so once it took a message.
pub received : (s t mid new : State) (n : Noted) (to_s to_t sent : List Noted) → Stand s (n ∷ to_s) t to_t → Gets s n.message mid → Moves mid sent new → Stand new to_s t (to_t ++ sent)
received s t mid new n to_s to_t sent k g m = record {
  useful_s = k.useful_s.1;
  useful_t = useful-append to_t sent k.useful_t m.useful;
  ready_s = m.ready;
  ready_t = k.ready_t;
  of_s = moves_out mid new t to_s to_t sent (gets_back s mid t n to_s to_t k.of_s g) m;
  of_t = moves_back mid new t to_s to_t sent (gets_out s mid t n to_s to_t k.of_t g) m;
}

no_rows : (v u : Vat) (a b : Option ObjectId) → AreRows (start v One a) [] (start u One b) []
no_rows v u a b q =
    subst (λ (x : Option Question). Row (asker_of x) [] (answerer_of (let m : Map AnswerEntry = map.empty in map.get m q)) []) (sym (map.get-empty nat_cmp q))
    (subst (λ (x : Option AnswerEntry). Row session.NotAsked [] (answerer_of x) []) (sym (map.get-empty nat_cmp q)) Idle)

ready : (v : Vat) (b : Option ObjectId) → IsReady (start v One b)
ready v b = record {
  level = refl;
  usual = λ q. subst (λ (o : Option Question). IsUsual o) (sym (map.get-empty nat_cmp q)) tt;
  opens = λ o q h. absurd (subst (λ (x : Option KeptOutcome). IsOpenFor q x) (map.get-empty nat_cmp o) h);
}

pub starts : (a b : Option ObjectId) → Stand (start A One a) [] (start B One b) []
starts a b = record { useful_s = tt; useful_t = tt; ready_s = ready A a; ready_t = ready B b; of_s = no_rows A B a b; of_t = no_rows B A b a }

-- ---- Steps

module _ (law : StepsAreActs) where
  commands : (s t new : State) (to_s to_t : List Noted) (c : Command) (g : Granted) (x : Effects) → Stand s to_s t to_t → refused s c ≡ None → Does s c g x new → StillHolds Stand new to_s t to_t x
  commands s t new to_s to_t c g x k f h =
      let a = law.commands s c g x new h in
      let d = acts a.0 (begin s) k.ready_s a.1 in
      (all_sent a.1, ap (λ (y : Effects). y.sends) a.2 ∙ d.said, subst (λ (u : State). Stand u to_s t (to_t ++ all_sent a.1)) (sym a.3) (moved s t (let y = a.0 in y.state) to_s to_t (all_sent a.1) k d.moves))

  receives : (s t new : State) (n : Noted) (to_s to_t : List Noted) (x : Effects) → Stand s (n ∷ to_s) t to_t → fault_of s (message.Plain n.message) ≡ None → Handles s (message.Plain n.message) x new → StillHolds Stand new to_s t to_t x
  receives s t new n to_s to_t x k f h =
      let a = law.messages s n.message x new k.ready_s.level f h in
      let y = consumes n.message (begin s) a.0 k.ready_s k.useful_s.0 a.1 in
      let r = a.2 in
      let now = sent_at_once (begin s) a.0 n.message a.1 in
      let d = then (with_state (begin s) y.mid) a.0 r.0 now (all_sent r.1) y.did (acts r.0 a.0 y.did.moves.ready r.1) in
      (now ++ all_sent r.1, ap (λ (y : Effects). y.sends) r.2 ∙ d.said, subst (λ (u : State). Stand u to_s t (to_t ++ (now ++ all_sent r.1))) (sym r.3) (received s t y.mid (let p = r.0 in p.state) n to_s to_t (now ++ all_sent r.1) k y.gets d.moves))

  pub are_kept : IsKept Stand
  are_kept = record { turned = turned; starts = starts; commands = commands; receives = receives }
