-- An answer closes: its Finish has come, and its Return was sent.
use Rattle.std.specs.FinMap as map
use Rattle.std.proofs.Common.{◌≡◌, ◌⊎◌, inl, inr, ℕ, Bool, nat_eq, true, false, List, [], ◌∷◌, ◌++◌, Option, None, Some, refl, sym, ap, ap₂, subst, ◌∙◌}
use Rattle.finite_maps.specs.Tally.{Map}
use Rattle.finite_maps.proofs.Tested.{equal, get_left}
use Rattle.rpc_msg.specs.declared.ids.Vat.{Vat}
use Rattle.rpc_msg.specs.declared.ids.ExportId.{ExportId}
use Rattle.rpc_msg.specs.declared.ids.QuestionId.{QuestionId}
use Rattle.rpc_msg.specs.declared.parts.Descriptor.{Descriptor}
use Rattle.rpc_msg.specs.declared.parts.Target.{Target}
use Rattle.rpc_msg.specs.declared.parts.Target.TheVariants.{ImportedCap, PromisedAnswer}
use Rattle.rpc_msg.specs.declared.message.DisembargoContext.{DisembargoContext}
use Rattle.rpc_msg.specs.declared.message.DisembargoContext.TheVariants.{SenderLoopback, ReceiverLoopback}
use Rattle.rpc_msg.specs.declared.message.Finish.{Finish}
use Rattle.rpc_msg.specs.declared.message.PlainMessage.TheVariants as plain
use Rattle.rpc_msg.specs.declared.message.Message.{Message}
use Rattle.rpc_msg.specs.declared.message.Message.TheVariants as message
use Rattle.rpc_msg.specs.Messages.{given}
use Rattle.rpc_msg.specs.Paths.{fields}
use Rattle.rpc_msg.specs.Vats.{other_vat}
use Rattle.rpc_journal.specs.History.{caller, in_front}
use Rattle.rpc_machine.specs.declared.calls.Value.{Value}
use Rattle.rpc_machine.specs.declared.entries.AnswerEntry.{AnswerEntry}
use Rattle.rpc_machine.specs.declared.entries.Question.{Question}
use Rattle.rpc_machine.specs.State.{State}
use Rattle.rpc_machine.specs.Progress.{Progress, with_state, numbers}
use Rattle.rpc_machine.specs.Faults.{gave}
use Rattle.rpc_machine.specs.Flags.{flag_for, give_if, obey}
use Rattle.rpc_machine.specs.Messages.{TakesFinish, finished_map}
use Rattle.rpc_machine.specs.Settling.{Returns, returned, returned_map}
use Rattle.laws_order.specs.Machine.{Call, Disembargo}
use Rattle.laws_order.specs.Machine as routing
use Rattle.laws_order.specs.Moves.{Done}
use Rattle.laws_routes.specs.Points.{AField, routes}
use Rattle.laws_routes.specs.Ghosts.{Ghost}
use Rattle.laws_routes.specs.Views.{Reader, IsSession, disembargo_shape, embargo_ref, past, past_one, reader, session_of, sessions_at, shape, shapes, target_point}
use Rattle.laws_routes.specs.Ties.{Around, Ghosts, Tied}
use Rattle.laws_routes.specs.Laws.{IsFollowed, with_back}
use Rattle.laws_routes.specs.QuietLaws.{AimsElsewhere, IsAsked, IsFinished, IsOffAnswer, MayClose, MayCloseIf, MayLower, NoneAims, Unless, opens}
use Rattle.laws_routes.proofs.AlikeSessions.{AlikeBut, past_alike, past_opened}
use Rattle.laws_routes.proofs.ExportsGrown.{Exports, grown_tied}
use Rattle.laws_routes.proofs.ExportsLowered.{obeyed}
use Rattle.laws_routes.proofs.ReturnSent.{answers_tied, collected, given_tied, says_exports, sessions_same}
use Rattle.laws_routes.proofs.SilentMessages.{silent_comes, silent_goes}
use Rattle.laws_routes.specs.Sayings.{SaidIfThere, SaidOfAnswer, bare, descriptor_point, has_of}
use Rattle.laws_routes.specs.SayingLaws.{MaySayBack}
use Rattle.laws_routes.specs.MessageLaws.{SaysSo}
use Rattle.laws_routes.specs.KnownLaws.{has_past}
use Rattle.laws_routes.proofs.SayingsCarried.{said_as_closed}
use Rattle.rpc_msg.specs.declared.message.ReturnBody.{ReturnBody}
use Rattle.rpc_msg.specs.declared.message.ReturnBody.TheVariants as body
use Rattle.rpc_machine.specs.Settling.{SaysBack}

-- ---- A link, read by other sessions of the question q at which nothing is aimed

target_alike : (q : ℕ) (v : Vat) (r : Reader) (now then : ℕ → ℕ) (t : Target) → AlikeBut q now then → IsOffAnswer q t → target_point v r.exports r.ghost then t ≡ target_point v r.exports r.ghost now t
target_alike q v r now then (ImportedCap e) h a = refl
target_alike q v r now then (PromisedAnswer k path) h a = ap (λ z. AField v z (fields path)) (h k.0 a)

shape_alike : (q : ℕ) (u v : Vat) (r : Reader) (now then : ℕ → ℕ) (m : Message) → AlikeBut q now then → AimsElsewhere q m → shape u v r then m ≡ shape u v r now m
shape_alike q u v r now then (message.Plain (plain.Abort exception)) h a = refl
shape_alike q u v r now then (message.Plain (plain.Bootstrap k)) h a = refl
shape_alike q u v r now then (message.Plain (plain.Call c)) h a = ap (λ z. Some (record { target = Some z; ref = caller c.stamp; what = Call c.stamp.index })) (target_alike q v r now then c.target h a)
shape_alike q u v r now then (message.Plain (plain.Return y)) h a = refl
shape_alike q u v r now then (message.Plain (plain.Finish y)) h a = refl
shape_alike q u v r now then (message.Plain (plain.Resolve y)) h a = refl
shape_alike q u v r now then (message.Plain (plain.Release y)) h a = refl
shape_alike q u v r now then (message.Plain (plain.Disembargo y)) h a = by y.context
  where
    by : (c : DisembargoContext) → Some (disembargo_shape u v r then y.target c) ≡ Some (disembargo_shape u v r now y.target c)
    by (SenderLoopback e) = ap (λ z. Some (record { target = Some z; ref = embargo_ref u (map.get r.sent e.0); what = Disembargo })) (target_alike q v r now then y.target h a)
    by (ReceiverLoopback e) = refl
shape_alike q u v r now then (message.Plain (plain.Other n)) h a = refl
shape_alike q u v r now then (message.Unimplemented m) h a = refl

shapes_alike : (q : ℕ) (u v : Vat) (g : Ghost) (r : Reader) (now then : ℕ → ℕ) (ms : List Message) → AlikeBut q now then → NoneAims q ms → shapes u v g r then ms ≡ shapes u v g r now ms
shapes_alike q u v g r now then [] h a = refl
shapes_alike q u v g r now then (m ∷ ms) h a =
    ap₂ in_front (shape_alike q u v r now then m h a.0)
    (behind (opens q m) refl a.1 (λ e. ap (λ z. shapes u v g r z ms) (past_opened q g now then m h e)) (λ k. shapes_alike q u v g r (past_one g now m) (past_one g then m) ms (past_alike q g now then m h) k))
  where
    behind : {A B : Type 0} (b : Bool) → opens q m ≡ b → Unless b A → (opens q m ≡ true → B) → (A → B) → B
    behind true e k f f' = f e
    behind false e k f f' = f' k

pasts_alike : (q : ℕ) (g : Ghost) (now then : ℕ → ℕ) (ms : List Message) → AlikeBut q now then → AlikeBut q (past g now ms) (past g then ms)
pasts_alike q g now then [] h = h
pasts_alike q g now then (m ∷ ms) h = pasts_alike q g (past_one g now m) (past_one g then m) ms (past_alike q g now then m h)

pasts_asked : (q : ℕ) (g : Ghost) (now then : ℕ → ℕ) (ms : List Message) → AlikeBut q now then → IsAsked q ms → past g then ms ≡ past g now ms
pasts_asked q g now then [] h a = absurd a
pasts_asked q g now then (m ∷ ms) h (inl e) = ap (λ z. past g z ms) (past_opened q g now then m h e)
pasts_asked q g now then (m ∷ ms) h (inr a) = pasts_asked q g (past_one g now m) (past_one g then m) ms (past_alike q g now then m h) a

-- ---- The answer goes

session_left : (outcome : ℕ → ℕ) (A : Map AnswerEntry) (q : ℕ) → AlikeBut q (sessions_at outcome A) (sessions_at outcome (map.remove A q))
session_left outcome A q = λ k n. ap (session_of outcome) (get_left A q k n)

pub answer_gone : (w : Around) (d : Progress) (g : Ghosts) (m : routing.State routes) (q : ℕ) → Tied w d g m → MayClose w.other w.back q → Tied w (with_state d (record (d.state) { answers = map.remove d.state.answers q })) g m
answer_gone w d g m q t may =
    let side = t.own in
    let view = t.view in
    let back = t.back in
    record {
      own = record { stops = side.stops; refs = side.refs; embargoes = side.embargoes; no_other_embargoes = side.no_other_embargoes; lists = side.lists; ids = side.ids };
      theirs = t.theirs;
      view = record { imports = view.imports; sessions = view.sessions; link = view.link };
      back = record {
        imports = back.imports;
        sessions = λ k. session may.over k (nat_eq k q) refl (back.sessions k);
        link = shapes_alike q (other_vat w.vat) w.vat g.theirs (reader w.other d.state g.own) now then w.back alike may.aims ∙ back.link;
      };
      told = t.told;
      unborn = t.unborn;
      unborn_back = t.unborn_back;
      known = t.known;
      known_there = t.known_there;
      goes = t.goes;
      comes = said_as_closed (bare m.net) (other_vat w.vat) (w.other).exports g.theirs w.vat (d.state).exports g.own (has_of [] (d.state).imports (d.state).questions) q now then w.back alike may.names t.comes;
    }
  where
    now : ℕ → ℕ
    now = sessions_at g.own.outcome (d.state).answers

    then : ℕ → ℕ
    then = sessions_at g.own.outcome (map.remove (d.state).answers q)

    alike : AlikeBut q now then
    alike = session_left g.own.outcome (d.state).answers q

    over : (o : Option Question) (i j : ℕ) → IsFinished o → IsSession i j o
    over None i j h = tt
    over (Some x) i j h = λ k. absurd (h k)

    session : IsAsked q w.back ⊎ IsFinished (map.get (w.other).questions q) → (k : ℕ) (b : Bool) → nat_eq k q ≡ b → IsSession (g.theirs.session k) (past g.theirs now w.back k) (map.get (w.other).questions k)
        → IsSession (g.theirs.session k) (past g.theirs then w.back k) (map.get (w.other).questions k)
    session (inl a) k b e h = subst (λ (z : ℕ → ℕ). IsSession (g.theirs.session k) (z k) (map.get (w.other).questions k)) (sym (pasts_asked q g.theirs now then w.back alike a)) h
    session (inr a) k false e h = subst (λ (z : ℕ). IsSession (g.theirs.session k) z (map.get (w.other).questions k)) (sym (pasts_alike q g.theirs now then w.back alike k e)) h
    session (inr a) k true e h = over (map.get (w.other).questions k) (g.theirs.session k) (past g.theirs then w.back k) (subst (λ (z : ℕ). IsFinished (map.get (w.other).questions z)) (sym (equal k q e)) a)

-- ---- A Return that closes its answer

pub return_closes : (w : Around) (d : Progress) (q : QuestionId) (a : AnswerEntry) (v : Value) (new : Progress) → map.get d.state.answers q.0 ≡ Some a → a.finished ≡ true → MayClose w.other w.back q.0
    → (h : Returns d q a v new) → MaySayBack w d q a v new h → IsFollowed w d new
return_closes w d q a v new e finished may h ask = λ g m us t i. (g, m, Done, tied g m t, (refl, refl, refl, refl))
  where
    ds : List Descriptor
    ds = h.1

    mid : State
    mid = h.2

    then : Progress
    then = h.4.0

    ids : List ℕ
    ids = numbers a.taken

    flag : Bool
    flag = flag_for then.state ids

    left : State
    left = give_if then.state flag ids

    exports : Exports d.state mid
    exports = says_exports d.state a.finished v h.0 ds mid h.3

    -- It says nothing.
    is_canceled : (b : Bool) (v : Value) (ds : List Descriptor) → b ≡ true → SaysBack d.state b v h.0 ds mid → h.0 ≡ body.Canceled
    is_canceled true v ds e k = k.0
    is_canceled false v ds e k = cc

    nothing : (b : Bool) (P : ReturnBody → Type 0) → P body.Canceled → SaidIfThere b (P h.0)
    nothing true P k = subst P (sym (is_canceled a.finished v ds finished h.3)) k
    nothing false P k = tt

    canceled : (g : Ghosts) (m : routing.State routes) → SaysSo w (with_state then (returned left q.0 a (given ds))) g m (message.Plain (plain.Return (record { answer = q; release_param_caps = flag; body = h.0 })))
    canceled g m =
        let out = w.out ++ then.effects.sends in
        nothing ((has_past (has_of [] (w.other).imports (w.other).questions) out).question q.0) (λ (said : ReturnBody). SaidOfAnswer (bare m.net) w.vat (g.theirs.session q.0) (descriptor_point w.vat left.exports g.own (other_vat w.vat) (w.other).exports g.theirs (past g.own (sessions_at g.theirs.outcome (w.other).answers) out)) said) tt

    tied : (g : Ghosts) (m : routing.State routes) → Tied w d g m → Tied w new g m
    tied g m t =
        let at_mid = grown_tied w d g m mid t ask.met ask.links exports in
        let at_then = collected w g m then (with_state d mid) h.4.1 at_mid.0 in
        let at_left : Tied w (with_state then left) g m = given_tied w then g m at_then flag ids in
        let at_open = answer_gone w (with_state then left) g m q.0 at_left may in
        let at_end = subst (λ (z : Bool). Tied w (with_state then (record left { answers = returned_map left.answers q.0 a z (given ds) })) g m) (sym finished) at_open in
        subst (λ (z : Progress). Tied w z g m) (sym h.4.2)
        (silent_goes w (with_state then (returned left q.0 a (given ds))) g m (message.Plain (plain.Return (record { answer = q; release_param_caps = flag; body = h.0 }))) at_end tt (canceled g m))

-- ---- A Finish

pub obeyed_answers : (s : State) (b : Bool) (es : List ℕ) → (obey s b es).answers ≡ s.answers
obeyed_answers s true es = refl
obeyed_answers s false es = refl

pub finish_taken : (w : Around) (d : Progress) (g : Ghosts) (m : routing.State routes) (x : Finish) (a : AnswerEntry) (rest : List Message) (new : Progress) → Tied (with_back w (message.Plain (plain.Finish x) ∷ rest)) d g m
    → map.get d.state.answers x.question.0 ≡ Some a → MayLower new.state w.other (w.out ++ d.effects.sends) rest → MayCloseIf w.other rest x.question.0 a.returned
    → TakesFinish d x.question.0 x.release_result_caps (Some a) new → Tied (with_back w rest) new g m
finish_taken w d g m x a rest new t e may close h =
    let w' = with_back w rest in
    let q = x.question.0 in
    let ids = gave a.returned in
    let left = obey d.state x.release_result_caps ids in
    let lower = subst (λ (z : Progress). MayLower z.state w.other (w.out ++ d.effects.sends) rest) h may in
    let at_left = obeyed w' d g m x.release_result_caps ids (silent_comes w d g m (message.Plain (plain.Finish x)) rest t tt) (record { imported = lower.imported; met = lower.met; named = lower.named; named_back = lower.named_back }) in
    subst (λ (z : Progress). Tied w' z g m) (sym h) (subst (λ z. Tied w' (with_state d (record left { answers = finished_map z q a a.returned })) g m) (obeyed_answers d.state x.release_result_caps ids) (by at_left a.returned close))
  where
    left_state : State
    left_state = obey d.state x.release_result_caps (gave a.returned)

    there : map.get left_state.answers x.question.0 ≡ Some a
    there = ap (λ z. map.get z x.question.0) (obeyed_answers d.state x.release_result_caps (gave a.returned)) ∙ e

    by : Tied (with_back w rest) (with_state d left_state) g m → (o : Option (List ExportId)) → MayCloseIf w.other rest x.question.0 o
        → Tied (with_back w rest) (with_state d (record left_state { answers = finished_map left_state.answers x.question.0 a o })) g m
    by k None c = answers_tied (with_back w rest) (with_state d left_state) g m k (map.insert left_state.answers x.question.0 (record a { finished = true }))
        (sessions_same g.own.outcome left_state.answers x.question.0 a (record a { finished = true }) there refl)
    by k (Some ids) c = answer_gone (with_back w rest) (with_state d left_state) g m x.question.0 k c
