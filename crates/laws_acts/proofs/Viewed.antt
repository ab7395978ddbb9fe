-- The acts of `Acts` are a view of the small ones: of the moments in which no caller is being told of an outcome.
use Rattle.std.proofs.Common.{◌≡◌, ◌≢◌, ◌⊎◌, inl, inr, ℕ, true, false, List, [], ◌∷◌, Option, None, Some, refl, sym, ap, subst, ◌∙◌}
use Rattle.std.specs.FinMap as map
use Rattle.finite_maps.specs.Tally.{Map}
use Rattle.rpc_machine.specs.rpc_msg.specs.declared.exception.Exception.{Exception}
use Rattle.rpc_machine.specs.rpc_msg.specs.declared.message.ResolvedTo.TheVariants as resolved
use Rattle.rpc_machine.specs.declared.node.Node.{Node}
use Rattle.rpc_machine.specs.declared.node.Node.TheVariants as node
use Rattle.rpc_machine.specs.declared.calls.WaitingCall.{WaitingCall}
use Rattle.rpc_machine.specs.declared.calls.Value.{Value}
use Rattle.rpc_machine.specs.declared.calls.Caller.{Caller}
use Rattle.rpc_machine.specs.declared.calls.Caller.TheVariants as caller
use Rattle.rpc_machine.specs.declared.calls.OwnCall.{OwnCall}
use Rattle.rpc_machine.specs.declared.calls.KeptOutcome.{KeptOutcome}
use Rattle.rpc_machine.specs.declared.command.Effects.{Effects}
use Rattle.rpc_machine.specs.declared.entries.Question.{Question}
use Rattle.rpc_machine.specs.declared.entries.AnswerEntry.{AnswerEntry}
use Rattle.rpc_machine.specs.declared.entries.Export.{Export}
use Rattle.rpc_machine.specs.declared.entries.Import.{Import}
use Rattle.rpc_machine.specs.State.{State}
use Rattle.rpc_machine.specs.Nodes.{settle}
use Rattle.rpc_machine.specs.Progress.{Progress, with_state}
use Rattle.rpc_machine.specs.Collecting.{IsLoosePromise, IsLooseValue, IsLooseOutcome, IsLooseImport, Goes, PromiseGoes, OutcomeGoes, ImportGoes, release, IsTight, Collects, Tight, Loose}
use Rattle.rpc_machine.specs.Settling.{known, Fits, TellsCall, SaysBack, Returns, TellsPeer, or_failed, resolve_message, Tells, ResolvesTo, ResolvesBy}
use Rattle.rpc_machine.specs.Sweeping.{IsNotSent, finished_by}
use Rattle.laws_acts.specs.Moments.{Saying, Clearing, TheOutcome, Owing, Moment, at_rest, progress, onto, sending, held_to, is_collecting}
use Rattle.laws_acts.specs.SmallActs.{delivery, kept_known, is_broken, IsEnd}
use Rattle.laws_acts.specs.SmallActs as small
use Rattle.laws_acts.specs.GoingOut.{Says as SaysSo}
use Rattle.laws_acts.specs.Acts.{Act, Acts, NoMore, Then, IsActs}
use Rattle.laws_acts.specs.Acts as act
use Rattle.laws_acts.proofs.Alone.{describes, describes_all, says_back}
use Rattle.laws_acts.proofs.Exact as exact
use Rattle.laws_acts.proofs.Exact.{reported, sent_return}
use Rattle.laws_acts.proofs.Ends.{released}

-- ---- Lists of acts

pub behind : {d first new : Progress} → Acts d first → Act d new → Acts new first
behind NoMore a = Then a NoMore
behind (Then b rest) a = Then b (behind rest a)

-- ---- Moments

-- Nobody of the peer's is to be told.
abbrev pub AreOurs : List (Caller × Value) → Type 0
AreOurs [] = Unit {0}
AreOurs ((caller.Application c, v) ∷ xs) = AreOurs xs
AreOurs ((caller.Peer q, v) ∷ xs) = ⊥

-- No outcome is on its way to its caller; and the acts so far.
pub record IsEven (first : Progress) (d : Moment) : Type 0 where
  pub clearing : d.clearing ≡ None
  pub saying : d.saying ≡ None
  pub telling : AreOurs d.telling
  pub acts : Acts (progress d) first

-- An outcome that became known at c, the acts up to there, and the value that it took. Its caller is still to be told.
pub record Becoming (c : Progress) (first : Progress) : Type 0 where
  pub outcome : ℕ
  pub entry : KeptOutcome
  pub value : Value
  pub fit : Value
  pub fitted : State
  pub there : map.get c.state.outcomes outcome ≡ Some entry
  pub unknown : entry.value ≡ None
  pub fits : Fits c.state outcome entry.caller entry.waiting value fit fitted
  pub acts : Acts c first

abbrev known_now : {first : Progress} (c : Progress) → Becoming c first → Progress
known_now c b = with_state c (known b.fitted b.outcome b.entry.caller b.entry.waiting b.fit)

abbrev clears : {c first : Progress} → Becoming c first → Clearing
clears b = record { outcome = b.outcome; caller = b.entry.caller; value = b.fit; waiting = b.entry.waiting }

abbrev to_tell : {first : Progress} (c : Progress) → Becoming c first → Moment
to_tell c b = record (at_rest (known_now c b)) { telling = (b.entry.caller, b.fit) ∷ []; clearing = Some (clears b) }

abbrev to_send : {c first : Progress} → Becoming c first → Progress → Saying → Moment
to_send b p x = record (at_rest p) { saying = Some x; clearing = Some (clears b) }

abbrev to_clear : {c first : Progress} → Becoming c first → Progress → Moment
to_clear b p = record (at_rest p) { clearing = Some (clears b) }

-- The acts so far, by how far a caller is told.
pub data View (first : Progress) : Moment → Type 0 where
  Even : {d : Moment} → IsEven first d → View first d
  Known : (c : Progress) (b : Becoming c first) → View first (to_tell c b)
  Says : (c : Progress) (b : Becoming c first) (p : Progress) (x : Saying) (a : AnswerEntry) (mid : State)
      → b.entry.caller ≡ caller.Peer x.answer
      → map.get (known_now c b).state.answers x.answer.0 ≡ Some a
      → map.get p.state.answers x.answer.0 ≡ Some a
      → SaysBack (known_now c b).state a.finished b.fit x.body x.descriptors mid
      → ((new : Progress) → Collects new p → Collects new (with_state (known_now c b) mid))
      → View first (to_send b p x)
  Told : (c : Progress) (b : Becoming c first) (p : Progress) → Tells (known_now c b) b.entry.caller b.fit p → View first (to_clear b p)

-- What shows that no outcome is on its way.
abbrev Shows : Moment → Type 0
Shows d = (d.yet ≢ []) ⊎ ((d.owed ≢ []) ⊎ ((d.over ≢ []) ⊎ ((d.swept ≡ true) ⊎ (d.clearing ≡ None))))

not_shown : (d : Moment) (x : Clearing) → d.yet ≡ [] → d.owed ≡ [] → d.over ≡ [] → d.swept ≡ false → d.clearing ≡ Some x → Shows d → ⊥
not_shown d x a b c e f (inl h) = h a
not_shown d x a b c e f (inr (inl h)) = h b
not_shown d x a b c e f (inr (inr (inl h))) = h c
not_shown d x a b c e f (inr (inr (inr (inl h)))) = let bad : true ≡ false = sym h ∙ e in cc
not_shown d x a b c e f (inr (inr (inr (inr h)))) = let bad : None ≡ Some x = sym h ∙ f in cc

is_even : {first : Progress} (d : Moment) → View first d → Shows d → IsEven first d
is_even d (Even h) s = h
is_even d (Known c b) s = absurd (not_shown d (clears b) refl refl refl refl refl s)
is_even d (Says c b p x a mid e f g h i) s = absurd (not_shown d (clears b) refl refl refl refl refl s)
is_even d (Told c b p h) s = absurd (not_shown d (clears b) refl refl refl refl refl s)

not_empty : {X : Type 0} {xs ys : List X} {x : X} → xs ≡ x ∷ ys → xs ≢ []
not_empty {ys} {x} e f = let bad : x ∷ ys ≡ [] = sym e ∙ f in cc

nothing_there : {A X : Type 0} {x : X} {xs : List X} → [] ≡ x ∷ xs → A
nothing_there {x} {xs} e = absurd (not_empty {ys = xs} {x = x} refl (sym e))

to_route : (d : Moment) {x : WaitingCall × Node} {xs : List (WaitingCall × Node)} → d.yet ≡ x ∷ xs → Shows d
to_route d e = inl (not_empty e)

to_resolve : (d : Moment) {x : Owing} {xs : List Owing} → d.owed ≡ x ∷ xs → Shows d
to_resolve d e = inr (inl (not_empty e))

to_finish : (d : Moment) {x : ℕ × Question} {xs : List (ℕ × Question)} → d.over ≡ x ∷ xs → Shows d
to_finish d e = inr (inr (inl (not_empty e)))

when_swept : (d : Moment) → d.swept ≡ true → Shows d
when_swept d e = inr (inr (inr (inl e)))

not_clearing : (d : Moment) → d.clearing ≡ None → Shows d
not_clearing d e = inr (inr (inr (inr e)))

-- One act more, or none: where it tells nobody.
more : {first : Progress} {d : Moment} (new : Moment) → IsEven first d → new.clearing ≡ d.clearing → new.saying ≡ d.saying → new.telling ≡ d.telling → Act (progress d) (progress new) → View first new
more new h c s t a = Even (record { clearing = c ∙ h.clearing; saying = s ∙ h.saying; telling = subst AreOurs (sym t) h.telling; acts = behind h.acts a })

same : {first : Progress} {d : Moment} (new : Moment) → IsEven first d → new.clearing ≡ d.clearing → new.saying ≡ d.saying → new.telling ≡ d.telling → progress new ≡ progress d → View first new
same {first} new h c s t e = Even (record { clearing = c ∙ h.clearing; saying = s ∙ h.saying; telling = subst AreOurs (sym t) h.telling; acts = subst (λ (p : Progress). Acts p first) (sym e) h.acts })

-- ---- Who is told

same_first : {X : Type 0} {x y : X} {xs ys : List X} → x ∷ xs ≡ y ∷ ys → x ≡ y
same_first e = cc

told_ours : (d : Progress) (who : Caller) (fit v : Value) (c : ℕ) (o : Option OwnCall) (p : Progress) → ◌≡◌ {A = List (Caller × Value)} ((who, fit) ∷ []) ((caller.Application (record { 0 = c }), v) ∷ []) → map.get d.state.calls c ≡ o → TellsCall d c v o p → Tells d who fit p
told_ours d who fit v c o p e f h =
    let both = same_first e in
    let a : who ≡ caller.Application (record { 0 = c }) = ap (λ (x : Caller × Value). x.0) both in
    let b : fit ≡ v = ap (λ (x : Caller × Value). x.1) both in
    subst (λ (w : Caller). Tells d w fit p) (sym a) (subst (λ (u : Value). TellsCall d c u (map.get d.state.calls c) p) (sym b) (subst (λ (x : Option OwnCall). TellsCall d c v x p) (sym f) h))

-- ---- The acts that need not begin where nothing is owed to a caller

module _ {first : Progress} where
  gone : (d : Moment) (p : Progress) → View first d → is_collecting d ≡ true → Goes (progress d) p → p.state.answers ≡ d.state.answers → View first (onto d p)
  gone d p (Even h) w g e = more (onto d p) h refl refl refl (act.Gone g)
  gone d p (Known c b) w g e = absurd (let bad : false ≡ true = w in cc)
  gone d p (Says c b q x a mid who there here said then_on) w g e =
      Says c b p x a mid who there (ap (λ (m : Map AnswerEntry). map.get m x.answer.0) e ∙ here) said (λ new j. then_on new (Loose g j))
  gone d p (Told c b q t) w g e = absurd (let bad : false ≡ true = w in cc)

  reports : (d : Moment) (c : ℕ) (v : Value) (from : OwnCall) → View first d → d.telling ≡ (caller.Application (record { 0 = c }), v) ∷ [] → map.get d.state.calls c ≡ Some from → View first (record (onto d (reported (progress d) c v)) { telling = [] })
  reports d c v from (Even h) e f =
      Even (record { clearing = h.clearing; saying = h.saying; telling = tt; acts = behind h.acts (act.Reports c v from f (sym (exact.reports (progress d) c v))) })
  reports d c v from (Known p b) e f =
      Told p b (reported (progress d) c v) (told_ours (known_now p b) b.entry.caller b.fit v c (Some from) (reported (progress d) c v) e f (sym (exact.reports (progress d) c v)))
  reports d c v from (Says p b q x a mid who there here said then_on) e f = nothing_there e
  reports d c v from (Told p b q t) e f = nothing_there e

  tells_nobody : (d : Moment) (c : ℕ) (v : Value) → View first d → d.telling ≡ (caller.Application (record { 0 = c }), v) ∷ [] → map.get d.state.calls c ≡ None → View first (record d { telling = [] })
  tells_nobody d c v (Even h) e f = Even (record { clearing = h.clearing; saying = h.saying; telling = tt; acts = h.acts })
  tells_nobody d c v (Known p b) e f = Told p b (progress d) (told_ours (known_now p b) b.entry.caller b.fit v c None (progress d) e f refl)
  tells_nobody d c v (Says p b q x a mid who there here said then_on) e f = nothing_there e
  tells_nobody d c v (Told p b q t) e f = nothing_there e

  makes_return : (d : Moment) (x : Saying) (v : Value) (a : AnswerEntry) (es : Map Export) → View first d → d.telling ≡ (caller.Peer x.answer, v) ∷ [] → map.get d.state.answers x.answer.0 ≡ Some a → SaysSo d.state a.finished v x.body x.descriptors es
      → View first (record d { state = record (d.state) { exports = es }; telling = []; saying = Some x })
  makes_return d x v a es (Even h) e f g = absurd (subst AreOurs e h.telling)
  makes_return d x v a es (Known p b) e f g =
      let both : ◌≡◌ {A = Caller × Value} (b.entry.caller, b.fit) (caller.Peer x.answer, v) = same_first e in
      let who : b.entry.caller ≡ caller.Peer x.answer = ap (λ (y : Caller × Value). y.0) both in
      let fit : v ≡ b.fit = ap (λ (y : Caller × Value). y.1) (sym both) in
      let t = (known_now p b).state in
      Says p b (record (progress d) { state = record t { exports = es } }) x a (record t { exports = es }) who f f (says_back t a.finished b.fit x.body x.descriptors es (subst (λ (u : Value). SaysSo t a.finished u x.body x.descriptors es) fit g)) (λ new j. j)
  makes_return d x v a es (Says p b q y c mid who there here said then_on) e f g = nothing_there e
  makes_return d x v a es (Told p b q t) e f g = nothing_there e

  sends_return : (d : Moment) (x : Saying) (a : AnswerEntry) → View first d → d.saying ≡ Some x → map.get d.state.answers x.answer.0 ≡ Some a → IsTight d.state → View first (record (onto d (sent_return (progress d) x a)) { saying = None })
  sends_return d x a (Even h) e f t = absurd (let bad : None ≡ Some x = sym h.saying ∙ e in cc)
  sends_return d x a (Known p b) e f t = absurd (let bad : None ≡ Some x = e in cc)
  sends_return d x a (Says p b q y c mid who there here said then_on) e f t =
      let z : y ≡ x = cc in
      let w : Some c ≡ Some a = sym here ∙ ap (λ (u : Saying). map.get q.state.answers u.answer.0) z ∙ f in
      let v : c ≡ a = cc in
      let after : Progress = sent_return q y c in
      let sent : Returns (known_now p b) y.answer c b.fit after = (y.body, y.descriptors, mid, said, (q, then_on q (Tight t), sym (exact.sends_return q y c))) in
      let to_peer : TellsPeer (known_now p b) y.answer b.fit (map.get (known_now p b).state.answers y.answer.0) after = subst (λ (o : Option AnswerEntry). TellsPeer (known_now p b) y.answer b.fit o after) (sym there) sent in
      subst (λ (u : Saying). View first (to_clear b (sent_return q u a))) z (subst (λ (u : AnswerEntry). View first (to_clear b (sent_return q y u))) v (Told p b after (subst (λ (u : Caller). Tells (known_now p b) u b.fit after) (sym who) to_peer)))
  sends_return d x a (Told p b q t) e f u = absurd (let bad : None ≡ Some x = e in cc)

  clears_now : (d : Moment) (y : Clearing) → View first d → d ≡ record (at_rest (progress d)) { clearing = Some y } → View first (record d {
    state = record (d.state) { outcomes = map.insert d.state.outcomes y.outcome (kept_known y.caller y.value []) };
    clearing = None;
    yet = held_to y.outcome y.waiting;
    settled = Some (TheOutcome y.outcome);
  })
  clears_now d y (Even h) e = absurd (let bad : None ≡ Some y = sym h.clearing ∙ ap (λ (m : Moment). m.clearing) e in cc)
  clears_now d y (Known p b) e = absurd (not_empty refl (ap (λ (m : Moment). m.telling) e))
  clears_now d y (Says p b q x a mid who there here said then_on) e = absurd (let bad : Some x ≡ None = ap (λ (m : Moment). m.saying) e in cc)
  clears_now d y (Told p b q t) e =
      let f : Some (clears b) ≡ Some y = ap (λ (m : Moment). m.clearing) e in
      let z : clears b ≡ y = cc in
      subst (λ (u : Clearing). View first (record (to_clear b q) {
        state = record (q.state) { outcomes = map.insert q.state.outcomes u.outcome (kept_known u.caller u.value []) };
        clearing = None;
        yet = held_to u.outcome u.waiting;
        settled = Some (TheOutcome u.outcome);
      }))
      z (Even (record { clearing = refl; saying = refl; telling = tt; acts = behind b.acts (act.Settles b.outcome b.entry b.value b.fit b.fitted q b.there b.unknown b.fits t refl) }))

-- ---- The acts

resolves_by : (p : Progress) (e : ℕ) (why : Option Exception) (n : Node) (new : Progress) → is_broken n ≡ false → ResolvesTo p e n new → ResolvesBy p e why n new
resolves_by p e why (node.Object o) new b h = h
resolves_by p e why (node.Promise k) new b h = h
resolves_by p e why (node.Field o path) new b h = h
resolves_by p e why (node.Import i) new b h = h
resolves_by p e why (node.Pipe q path) new b h = h
resolves_by p e why (node.Broken reason) new b h = absurd (let bad : true ≡ false = b in cc)

step : {first : Progress} (d new : Moment) → View first d → small.Act d new → View first new
step d new v (small.Delivers c n rest o e f h) = rw h (more _ (is_even d v (to_route d e)) refl refl refl (act.Delivers c o (sym (exact.delivers (progress d) c o))))
step d new v (small.Waits c n rest p calls e f g h) = rw h (more _ (is_even d v (to_route d e)) refl refl refl (act.Waits p calls c g refl))
step d new v (small.Holds c n rest o path x e f g h) = rw h (more _ (is_even d v (to_route d e)) refl refl refl (act.Holds o x (record { path = path; call = c }) g refl))
step d new v (small.Relays c n rest q t ds es e f g j h) =
    let s = d.state in
    rw h (more _ (is_even d v (to_route d e)) refl refl refl (act.Relays q c.outcome t c.request (g, (ds, record s { exports = es }, describes_all s s (λ k. refl) s.exports c.request.caps ds es j, refl))))
step d new v (small.Breaks c n rest reason e f h) = rw h (more _ (is_even d v (to_route d e)) refl refl refl (act.Fails c.outcome _ refl))
step d new v (small.NextArisen o u rest e f h) = rw h (more _ (is_even d v (not_clearing d (ap (λ (m : Moment). m.clearing) e))) refl refl refl (act.NextArisen o u rest f refl))
step {first} d new v (small.Knows o u fit x ps e f g j h) =
    let a = is_even d v (not_clearing d (ap (λ (m : Moment). m.clearing) e)) in
    let b : Becoming (progress d) first = record { outcome = o; entry = x; value = u; fit = fit; fitted = record (d.state) { promises = ps }; there = f; unknown = g; fits = j; acts = a.acts } in
    rw h (subst (λ (m : Moment). View first (record m { state = (known_now (progress d) b).state; coming = []; telling = (x.caller, fit) ∷ []; clearing = Some (clears b) })) (sym e) (Known (progress d) b))
step d new v (small.Reports c u from e f h) = rw h (reports d c u from v e f)
step d new v (small.TellsNobody c u e f h) = rw h (tells_nobody d c u v e f)
step d new v (small.MakesReturn q u a b ds es e f g j h) = rw h (makes_return d (record { answer = q; body = b; descriptors = ds }) u a es v e g j)
step d new v (small.SendsReturn x a e f t h) = rw h (sends_return d x a v e f t)
step d new v (small.Clears x e f h) = rw h (clears_now d x v e)
step d new v (small.Lists x e h) = rw h (same _ (is_even d v (not_clearing d (ap (λ (m : Moment). m.clearing) e))) refl refl refl refl)
step d new v (small.SendsResolve x rest k es e w f h) =
    let s = d.state in
    rw h (more _ (is_even d v (to_resolve d e)) refl refl refl (act.Resolves x.export x.why x.node (resolves_by (progress d) x.export x.why (settle s x.node) _ w (k, record s { exports = es }, describes s s.exports (settle s (settle s x.node)) k es f, refl))))
step d new v (small.SendsBroken x rest reason e f h) =
    rw h (more _ (is_even d v (to_resolve d e)) refl refl refl (act.Resolves x.export x.why x.node (subst (λ (n : Node). ResolvesBy (progress d) x.export x.why n (progress (sending (record d { owed = rest }) (resolve_message x.export (resolved.Exception (or_failed x.why reason)))))) (sym f) refl)))
step d new v (small.PromiseGoes p to w e f h) = rw h (gone d (with_state (progress d) (record (d.state) { promises = map.remove d.state.promises p })) v w (PromiseGoes p (subst (IsLoosePromise d.state p) (sym e) f) refl) refl)
step d new v (small.OutcomeGoes o x u w e f i j k h) =
    rw h (gone d (with_state (progress d) (record (d.state) { outcomes = map.remove d.state.outcomes o })) v w (OutcomeGoes o (subst (IsLooseOutcome d.state o) (sym e) (subst (IsLooseValue d.state o x) (sym f) (i, j, k))) refl) refl)
step d new v (small.ImportGoes e x w i f h) =
    let p : Map ℕ → Progress = λ m. record (progress d) { state = record (d.state) { imports = map.remove d.state.imports e }; released = m } in
    rw h (gone d (p (map.insert d.released e x.count)) v w (ImportGoes e (subst (IsLooseImport d.state e) (sym i) f) (ap (λ (o : Option Import). p (release d.released e o)) (sym i))) refl)
step d new v (small.Sweeps over e f g h) = rw h (same _ (is_even d v (not_clearing d (ap (λ (m : Moment). m.clearing) e))) refl refl refl refl)
step d new v (small.SendsFinish q x rest e f g j t h) =
    rw h (more _ (is_even d v (to_finish d e)) refl refl refl (act.Ends q x f (subst IsNotSent (sym g) tt) (sym (ap (finished_by (progress d) q x) g ∙ exact.sends_finish (progress d) q x))))
step d new v (small.Closes q x rest e f g j t h) =
    rw h (more _ (is_even d v (to_finish d e)) refl refl refl (act.Ends q x f (subst IsNotSent (sym g) tt) (ap (finished_by (progress d) q x) (sym g))))
step d new v (small.Releases w e t h) =
    rw h (more _ (is_even d v (when_swept d w)) refl refl refl (act.Releases (ap (λ (p : Progress). record p { released = map.empty }) (sym (released (progress d) (map.entries d.released))))))

-- All of them; and where a step ends the view is whole.
pub viewed : {first : Progress} (last d : Moment) → small.Acts last d → View first d → View first last
viewed last d small.NoMore v = v
viewed last d (small.Then {mid = mid} a rest) v = viewed last mid rest (step d mid v a)

pub at_last : {first : Progress} (last : Moment) (x : Effects) (t : State) → IsEnd last x t → View first last → IsActs first x t
at_last last x t h v =
    let a = is_even last v (when_swept last (ap (λ (m : Moment). m.swept) h.rest)) in
    (progress last, a.acts, h.effects, h.state, h.released)
