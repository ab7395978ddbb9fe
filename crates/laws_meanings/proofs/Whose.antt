-- Each act keeps of which call each outcome is, and that what becomes known of it is what is said of that call.
use Rattle.std.proofs.Common.{◌≡◌, ◌⊎◌, inl, inr, ℕ, Bool, true, false, nat_eq, Option, None, Some, List, [], ◌∷◌, ◌++◌, length, refl, sym, ap, subst, ◌∙◌}
use Rattle.std.specs.FinMap as map
use Rattle.finite_maps.specs.Tally.{Map}
use Rattle.finite_maps.proofs.Tested.{at_put, at_cut, itself}
use Rattle.rpc_msg.specs.declared.ids.Stamp.{Stamp}
use Rattle.rpc_msg.specs.declared.message.Message.{Message}
use Rattle.rpc_msg.specs.declared.message.Message.TheVariants as message
use Rattle.rpc_msg.specs.declared.message.PlainMessage.{PlainMessage}
use Rattle.rpc_msg.specs.declared.message.PlainMessage.TheVariants as plain
use Rattle.rpc_msg.specs.declared.message.ReturnBody.{ReturnBody}
use Rattle.rpc_msg.specs.declared.parts.Descriptor.{Descriptor}
use Rattle.rpc_journal.specs.declared.report.Delivery.{Delivery}
use Rattle.rpc_journal.specs.declared.report.Ended.{Ended}
use Rattle.rpc_journal.specs.declared.report.Outcome.{Outcome}
use Rattle.rpc_journal.specs.declared.report.Outcome.TheVariants as outcome
use Rattle.rpc_journal.specs.History.{or_rest, if_so}
use Rattle.rpc_journal.specs.Sources.{Asking, OfCall}
use Rattle.rpc_machine.specs.declared.node.Node.{Node}
use Rattle.rpc_machine.specs.declared.node.Reason.{Reason}
use Rattle.rpc_machine.specs.declared.calls.WaitingCall.{WaitingCall}
use Rattle.rpc_machine.specs.declared.calls.HeldCall.{HeldCall}
use Rattle.rpc_machine.specs.declared.calls.Promise.TheVariants as promise
use Rattle.rpc_machine.specs.declared.calls.KeptOutcome.{KeptOutcome}
use Rattle.rpc_machine.specs.declared.calls.Caller.{Caller}
use Rattle.rpc_machine.specs.declared.calls.Caller.TheVariants as caller
use Rattle.rpc_machine.specs.declared.calls.Value.{Value}
use Rattle.rpc_machine.specs.declared.calls.Value.TheVariants as value
use Rattle.rpc_machine.specs.declared.entries.AnswerEntry.{AnswerEntry}
use Rattle.rpc_machine.specs.declared.entries.Export.{Export}
use Rattle.rpc_machine.specs.declared.entries.Question.{Question}
use Rattle.rpc_machine.specs.declared.entries.Embargo.{Embargo}
use Rattle.rpc_machine.specs.declared.entries.Role.TheVariants as role
use Rattle.rpc_machine.specs.declared.calls.Promise.{Promise}
use Rattle.rpc_machine.specs.State.{State}
use Rattle.rpc_machine.specs.Progress.{outcome_of, caps_of}
use Rattle.rpc_machine.specs.Routing.{failed, reason_text}
use Rattle.rpc_machine.specs.Messages.{results_of, value_of_results}
use Rattle.rpc_machine.specs.Settling.{Fits, returned_map}
use Rattle.rpc_machine.specs.Sweeping.{closed_map}
use Rattle.laws_acts.specs.GoingOut.{Says}
use Rattle.laws_acts.specs.Moments.{Moment, Saying, held_to}
use Rattle.laws_acts.specs.FirstActs.{asked, asking}
use Rattle.laws_acts.specs.SmallActs.{Act, IsStill, kept_known, delivery, release_messages, Acts, NoMore, Then}
use Rattle.laws_acts.specs.SmallActs as act
use Rattle.laws_messages.proofs.Filled.{beside_length, out_length}
use Rattle.laws_meanings.specs.Identities.{asked_in, asked_last, IfNone, IsOf, Is, CallIs, CallsAre, HeldAre, PromiseIs, KeptIs, EmbargoIs, TaskIs, QuestionIs}
use Rattle.laws_meanings.specs.NodeLabels.{IsIn}
use Rattle.laws_meanings.proofs.Identified.{Soft, soft_held, soft_promise, soft_kept, soft_embargo, soft_task, soft_question, softly, known_soft, gone_soft, calls-append, held-append, Promises, fits_promises, closes, last-append}
use Rattle.laws_meanings.proofs.Labelled.{in-before}
use Rattle.laws_meanings.proofs.Made.{new_refs_length}
use Rattle.laws_meanings.proofs.Rooting as rooting

-- ---- Deliveries

at_last : (k : ℕ) (s : Stamp) (xs : List Delivery) (x : Delivery) → x.task.0 ≡ k → x.stamp ≡ s → IsIn k s (xs ++ x ∷ [])
at_last k s [] x e f = inl (e, f)
at_last k s (y ∷ ys) x e f = inr (at_last k s ys x e f)

-- ---- What is said

module _ (C : Caller → Option Asking) (L : ℕ → Option Asking) (T : ℕ → Stamp → Type 0) (W : Asking → Outcome → ℕ → Type 0) (U : ℕ → Type 0) (E : Stamp → Type 0) (broken : (s : Stamp) (why : Reason) → E s → W (OfCall s) (outcome.Exception (failed (reason_text why))) 0) where
  -- A value is one for what was asked so.
  abbrev pub IsFor : Asking → Value → Type 0
  IsFor a v = W a (outcome_of v) (length (caps_of v))

  fits : (a : Asking) (s : State) (o : ℕ) (who : Caller) (w : List HeldCall) (v fit : Value) (new : State) → Fits s o who w v fit new → IsFor a v → IsFor a fit
  fits a s o who w (value.Exception exception) fit new h i = subst (IsFor a) (sym h.0) i
  fits a s o who w (value.Results payload caps) fit new h i =
      subst (IsFor a) (sym h.1) (subst (λ (n : ℕ). W a (outcome.Results payload) n) (sym (rooting.untangled s o who w payload 0 caps h.0 new h.2)) i)

  -- A body says it, whoever reads it.
  abbrev pub BodyIs : Asking → ReturnBody → Type 0
  BodyIs a y = (s : State) → IsFor a (value_of_results (results_of s y))

  says : (a : Asking) (s : State) (v : Value) (y : ReturnBody) (ds : List Descriptor) (es : Map Export) → Says s false v y ds es → IsFor a v → BodyIs a y
  says a s (value.Exception exception) y ds es h i = subst (BodyIs a) (sym h.0) (λ t. i)
  says a s (value.Results payload caps) y ds es h i =
      subst (BodyIs a) (sym h.0) (λ t. subst (λ (n : ℕ). W a (outcome.Results payload) n) (out_length s s.exports caps ds es h.1 ∙ sym (beside_length t ds)) i)

  -- A Return says it, or its question is no longer wanted.
  abbrev pub SaysIt : ℕ → ReturnBody → Type 0
  SaysIt q y = U q ⊎ ((a : Asking) × (C (caller.Peer (record { 0 = q })) ≡ Some a) × BodyIs a y)

  abbrev pub PlainSays : PlainMessage → Type 0
  PlainSays (plain.Abort x) = Unit {0}
  PlainSays (plain.Bootstrap p) = Unit {0}
  PlainSays (plain.Call c) = Unit {0}
  PlainSays (plain.Return x) = SaysIt x.answer.0 x.body
  PlainSays (plain.Finish f) = Unit {0}
  PlainSays (plain.Resolve x) = Unit {0}
  PlainSays (plain.Release x) = Unit {0}
  PlainSays (plain.Disembargo x) = Unit {0}
  PlainSays (plain.Other n) = Unit {0}

  abbrev pub MessageSays : Message → Type 0
  MessageSays (message.Plain m) = PlainSays m
  MessageSays (message.Unimplemented m) = Unit {0}

  abbrev pub AllSay : List Message → Type 0
  AllSay [] = Unit {0}
  AllSay (m ∷ ms) = MessageSays m × AllSay ms

  say-append : (ms ns : List Message) → AllSay ms → AllSay ns → AllSay (ms ++ ns)
  say-append [] ns h k = k
  say-append (m ∷ ms) ns h k = (h.0, say-append ms ns h.1 k)

  releases_say : (xs : List (ℕ × ℕ)) → AllSay (release_messages xs)
  releases_say [] = tt
  releases_say (x ∷ xs) = (tt, releases_say xs)

  abbrev pub EndIs : Ended → Type 0
  EndIs x = (a : Asking) × (C (caller.Application x.call) ≡ Some a) × W a x.outcome (length x.refs)

  abbrev pub EndsAre : List Ended → Type 0
  EndsAre [] = Unit {0}
  EndsAre (x ∷ xs) = EndIs x × EndsAre xs

  ends-append : (xs ys : List Ended) → EndsAre xs → EndsAre ys → EndsAre (xs ++ ys)
  ends-append [] ys i j = j
  ends-append (x ∷ xs) ys i j = (i.0, ends-append xs ys i.1 j)

  -- ---- A moment

  abbrev pub now : ℕ → List Message → Option Asking
  now q ms = or_rest (asked_last q ms) (L q)

  abbrev pub Given : List Delivery → ℕ → Stamp → Type 0
  Given ds k s = T k s ⊎ IsIn k s ds

  abbrev pub Tasks : Map KeptOutcome → List Delivery → Map ℕ → Type 0
  Tasks os ds m = (k : ℕ) → TaskIs C os (Given ds) k (map.get m k)

  abbrev pub Questions : Map KeptOutcome → List Message → Map Question → Type 0
  Questions os ms m = (q : ℕ) → QuestionIs C os (now q ms) (map.get m q)

  abbrev pub Kepts : Map KeptOutcome → Map KeptOutcome → Type 0
  Kepts os m = (o : ℕ) → KeptIs C os (map.get m o)

  abbrev pub Embargoes : Map KeptOutcome → Map Embargo → Type 0
  Embargoes os m = (e : ℕ) → EmbargoIs C os (map.get m e)

  abbrev pub Places : State → List Delivery → List Message → Type 0
  Places s ds ms = Tasks s.outcomes ds s.tasks × Questions s.outcomes ms s.questions × Promises C s.outcomes s.promises × Kepts s.outcomes s.outcomes × Embargoes s.outcomes s.embargoes

  abbrev pub Yet : Map KeptOutcome → List (WaitingCall × Node) → Type 0
  Yet os [] = Unit {0}
  Yet os (x ∷ xs) = CallIs C os x.0 × Yet os xs

  -- What comes of an outcome is for what it was asked.
  abbrev Coming : Map KeptOutcome → List (ℕ × Value) → Type 0
  Coming os [] = Unit {0}
  Coming os (x ∷ xs) = ((a : Asking) × Is C os x.0 a × IsFor a x.1) × Coming os xs

  abbrev Telling : List (Caller × Value) → Type 0
  Telling [] = Unit {0}
  Telling (x ∷ xs) = ((a : Asking) × (C x.0 ≡ Some a) × IsFor a x.1) × Telling xs

  abbrev SayingIs : Option Saying → Type 0
  SayingIs None = Unit {0}
  SayingIs (Some x) = SaysIt x.answer.0 x.body

  abbrev pub AnswerIs : ℕ → Option AnswerEntry → Type 0
  AnswerIs q None = Unit {0}
  AnswerIs q (Some a) = a.finished ≡ true → U q

  abbrev pub Answers : Map AnswerEntry → Type 0
  Answers m = (q : ℕ) → AnswerIs q (map.get m q)

  -- Places; calls to be routed; values that arose and come; who is told; answers; the Return that is made; what is sent; ends.
  abbrev pub Fine : Moment → Type 0
  Fine d =
      Places d.state d.effects.deliveries d.effects.sends × Yet d.state.outcomes d.yet × Coming d.state.outcomes d.arisen × Coming d.state.outcomes d.coming
      × Telling d.telling × Answers d.state.answers × SayingIs d.saying × AllSay d.effects.sends × EndsAre d.effects.answers

  soft_yet : (os ns : Map KeptOutcome) → Soft C os C ns → (xs : List (WaitingCall × Node)) → Yet os xs → Yet ns xs
  soft_yet os ns f [] i = tt
  soft_yet os ns f (x ∷ xs) i = (f x.0.outcome (OfCall x.0.request.stamp) i.0, soft_yet os ns f xs i.1)

  soft_coming : (os ns : Map KeptOutcome) → Soft C os C ns → (xs : List (ℕ × Value)) → Coming os xs → Coming ns xs
  soft_coming os ns f [] i = tt
  soft_coming os ns f (x ∷ xs) i = let y = i.0 in ((y.0, f x.0 y.0 y.1, y.2), soft_coming os ns f xs i.1)

  coming-append : (os : Map KeptOutcome) (xs ys : List (ℕ × Value)) → Coming os xs → Coming os ys → Coming os (xs ++ ys)
  coming-append os [] ys i j = j
  coming-append os (x ∷ xs) ys i j = (i.0, coming-append os xs ys i.1 j)

  soft_tasks : (os ns : Map KeptOutcome) → Soft C os C ns → (ds : List Delivery) (m : Map ℕ) → Tasks os ds m → Tasks ns ds m
  soft_tasks os ns f ds m i k = soft_task C os C ns f (Given ds) (Given ds) (λ j s g. g) k (map.get m k) (i k)

  soft_questions : (os ns : Map KeptOutcome) → Soft C os C ns → (ms : List Message) (m : Map Question) → Questions os ms m → Questions ns ms m
  soft_questions os ns f ms m i q = soft_question C os C ns f (λ c a e. e) (now q ms) (now q ms) (λ a e. e) (map.get m q) (i q)

  soft_promises : (os ns : Map KeptOutcome) → Soft C os C ns → (m : Map Promise) → Promises C os m → Promises C ns m
  soft_promises os ns f m i p = soft_promise C os C ns f (map.get m p) (i p)

  soft_kepts : (os ns : Map KeptOutcome) → Soft C os C ns → (m : Map KeptOutcome) → Kepts os m → Kepts ns m
  soft_kepts os ns f m i o = soft_kept C os C ns f (map.get m o) (i o)

  soft_embargoes : (os ns : Map KeptOutcome) → Soft C os C ns → (m : Map Embargo) → Embargoes os m → Embargoes ns m
  soft_embargoes os ns f m i e = soft_embargo C os C ns f (map.get m e) (i e)

  -- What asks nothing is sent.
  abbrev AskNothing : List Message → Type 0
  AskNothing ns = (q : ℕ) → asked_last q ns ≡ None

  quietly : (os : Map KeptOutcome) (ms ns : List Message) (m : Map Question) → AskNothing ns → Questions os ms m → Questions os (ms ++ ns) m
  quietly os ms ns m n i q = subst (λ (o : Option Asking). QuestionIs C os (or_rest o (L q)) (map.get m q)) (sym (last-append q ms ns ∙ ap (λ (o : Option Asking). or_rest o (asked_last q ms)) (n q))) (i q)

  releases_ask : (xs : List (ℕ × ℕ)) → AskNothing (release_messages xs)
  releases_ask [] q = refl
  releases_ask (x ∷ xs) q = ap (λ (o : Option Asking). or_rest o None) (releases_ask xs q)

  -- A question is asked.
  this : (q : ℕ) (a : Asking) (ms : List Message) (m : Message) → asked_in q m ≡ if_so (nat_eq q q) a → now q (ms ++ m ∷ []) ≡ Some a
  this q a ms m e = ap (λ (o : Option Asking). or_rest o (L q)) (last-append q ms (m ∷ []) ∙ ap (λ (o : Option Asking). or_rest (or_rest None o) (asked_last q ms)) (e ∙ by (nat_eq q q) (itself q)))
    where
      by : (b : Bool) → b ≡ true → if_so b a ≡ Some a
      by b f = rw f refl

  pub asks : (os : Map KeptOutcome) (ms : List Message) (m : Map Question) (q : ℕ) (x : Question) (a : Asking) (y : Message) → ((k : ℕ) → asked_in k y ≡ if_so (nat_eq k q) a) → (now q (ms ++ y ∷ []) ≡ Some a → QuestionIs C os (now q (ms ++ y ∷ [])) (Some x))
      → Questions os ms m → Questions os (ms ++ y ∷ []) (map.insert m q x)
  asks os ms m q x a y e f i = at_put (λ k o. QuestionIs C os (now k (ms ++ y ∷ [])) o) m q x (f (this q a ms y (e q))) (λ k n. others k n)
    where
      others : (k : ℕ) → nat_eq k q ≡ false → QuestionIs C os (now k (ms ++ y ∷ [])) (map.get m k)
      others k n = subst (λ (o : Option Asking). QuestionIs C os (or_rest o (L k)) (map.get m k)) (sym (last-append k ms (y ∷ []) ∙ ap (λ (o : Option Asking). or_rest (or_rest None o) (asked_last k ms)) (e k ∙ ap (λ (b : Bool). if_so b a) n))) (i k)

  answers_still : (m : Map AnswerEntry) (q : ℕ) (a : AnswerEntry) (ids : List ℕ) → map.get m q ≡ Some a → Answers m → Answers (returned_map m q a a.finished ids)
  answers_still m q a ids e i = by a.finished refl
    where
      by : (b : Bool) → a.finished ≡ b → Answers (returned_map m q a b ids)
      by true f = at_cut AnswerIs m q tt (λ k n. i k)
      by false f = at_put AnswerIs m q _ (λ g. absurd (let bad : true ≡ false = sym g ∙ f in cc)) (λ k n. i k)

  yet_held : (os : Map KeptOutcome) (o : ℕ) (xs : List HeldCall) → HeldAre C os xs → Yet os (held_to o xs)
  yet_held os o [] i = tt
  yet_held os o (x ∷ xs) i = (i.0, yet_held os o xs i.1)

  -- ---- Acts

  -- Other messages are sent, from other places.
  sent : (d : Moment) (ns : List Message) → AskNothing ns → AllSay ns → Fine d → Questions d.state.outcomes (d.effects.sends ++ ns) d.state.questions × AllSay (d.effects.sends ++ ns)
  sent d ns n s i = (quietly d.state.outcomes d.effects.sends ns d.state.questions n i.0.1, say-append d.effects.sends ns i.7 s)

  -- A call that breaks is over.
  abbrev pub BreaksSo : Moment → Moment → Type 0
  BreaksSo d new = (c : WaitingCall) (n : Node) (rest : List (WaitingCall × Node)) (x : List (ℕ × Value)) → d.yet ≡ (c, n) ∷ rest → new ≡ record d { arisen = x; yet = rest } → E c.request.stamp

  abbrev pub AllBreak : {last d : Moment} → Acts last d → Type 0
  AllBreak NoMore = Unit {0}
  AllBreak (Then {d = d} {mid = mid} a rest) = BreaksSo d mid × AllBreak rest

  acted : (d new : Moment) → BreaksSo d new → Fine d → Act d new → Fine new
  acted d new br i (act.Delivers c n rest u e f k) =
      let s = d.state in
      let y : CallIs C s.outcomes c × Yet s.outcomes rest = subst (Yet s.outcomes) e i.1 in
      let ds = d.effects.deliveries in
      let x = delivery d.state c u in
      let before : Tasks s.outcomes (ds ++ x ∷ []) s.tasks = λ j. soft_task C s.outcomes C s.outcomes (λ o a z. z) (Given ds) (Given (ds ++ x ∷ [])) (λ l t g. more l t g) j (map.get s.tasks j) (i.0.0 j) in
      rw k ((at_put (λ j o. TaskIs C s.outcomes (Given (ds ++ x ∷ [])) j o) s.tasks s.next_task c.outcome (c.request.stamp, inr (at_last s.next_task c.request.stamp ds x refl refl), y.0) (λ j l. before j), i.0.1, i.0.2, i.0.3, i.0.4), y.1, i.2, i.3, i.4, i.5, i.6, i.7, i.8)
    where
      more : (l : ℕ) (t : Stamp) → Given d.effects.deliveries l t → Given (d.effects.deliveries ++ delivery d.state c u ∷ []) l t
      more l t (inl g) = inl g
      more l t (inr g) = inr (in-before l t d.effects.deliveries (delivery d.state c u ∷ []) g)
  acted d new br i (act.Waits c n rest p calls e f j k) =
      let s = d.state in
      let y : CallIs C s.outcomes c × Yet s.outcomes rest = subst (Yet s.outcomes) e i.1 in
      let was : CallsAre C s.outcomes calls = subst (PromiseIs C s.outcomes) j (i.0.2 p) in
      rw k ((i.0.0, i.0.1, at_put (λ l o. PromiseIs C s.outcomes o) s.promises p (promise.Open (calls ++ c ∷ [])) (calls-append C s.outcomes calls (c ∷ []) was (y.0, tt)) (λ l m. i.0.2 l), i.0.3, i.0.4), y.1, i.2, i.3, i.4, i.5, i.6, i.7, i.8)
  acted d new br i (act.Holds c n rest u path x e f j k) =
      let s = d.state in
      let os = s.outcomes in
      let y : CallIs C os c × Yet os rest = subst (Yet os) e i.1 in
      let z : HeldCall = record { path = path; call = c } in
      let w : KeptOutcome = record x { waiting = x.waiting ++ z ∷ [] } in
      let ns = map.insert os u w in
      let g : Soft C os C ns = softly C os u x w j refl refl in
      let was : HeldAre C os x.waiting = subst (KeptIs C os) j (i.0.3 u) in
      let held : HeldAre C ns (x.waiting ++ z ∷ []) = held-append C ns x.waiting (z ∷ []) (soft_held C os C ns g x.waiting was) (g c.outcome (OfCall c.request.stamp) y.0, tt) in
      rw k (
        (soft_tasks os ns g d.effects.deliveries s.tasks i.0.0, soft_questions os ns g d.effects.sends s.questions i.0.1, soft_promises os ns g s.promises i.0.2, at_put (λ l o. KeptIs C ns o) os u w held (λ l m. soft_kepts os ns g os i.0.3 l), soft_embargoes os ns g s.embargoes i.0.4),
        soft_yet os ns g rest y.1,
        soft_coming os ns g d.arisen i.2,
        soft_coming os ns g d.coming i.3,
        i.4,
        i.5,
        i.6,
        i.7,
        i.8,
      )
  acted d new br i (act.Relays c n rest p t ds es e f j k u) =
      let s = d.state in
      let os = s.outcomes in
      let y : CallIs C os c × Yet os rest = subst (Yet os) e i.1 in
      let m : Message = message.Plain (asking p t c.request ds) in
      let qs = asks os d.effects.sends s.questions p (asked (role.Relay c.outcome) ds) (OfCall c.request.stamp) m (λ l. refl) (λ g. (c.request.stamp, g, y.0)) i.0.1 in
      rw u ((i.0.0, qs, i.0.2, i.0.3, i.0.4), y.1, i.2, i.3, i.4, i.5, i.6, say-append d.effects.sends (m ∷ []) i.7 (tt, tt), i.8)
  acted d new br i (act.Breaks c n rest reason e f u) =
      let os = d.state.outcomes in
      let y : CallIs C os c × Yet os rest = subst (Yet os) e i.1 in
      rw u (i.0, y.1, coming-append os d.arisen _ i.2 ((OfCall c.request.stamp, y.0, broken c.request.stamp reason (br c n rest _ e u)), tt), i.3, i.4, i.5, i.6, i.7, i.8)
  acted d new br i (act.NextArisen o w rest e f u) =
      let y : Coming d.state.outcomes ((o, w) ∷ rest) = subst (Coming d.state.outcomes) f i.2 in
      rw u (i.0, i.1, y.1, (y.0, tt), i.4, i.5, i.6, i.7, i.8)
  acted d new br i (act.Knows o w fit x ps e f j k u) =
      let s = d.state in
      let os = s.outcomes in
      let y : Coming os ((o, w) ∷ []) = subst (λ (m : Moment). Coming m.state.outcomes m.coming) e i.3 in
      let a = y.0.0 in
      let ns = map.insert os o (kept_known x.caller fit x.waiting) in
      let g : Soft C os C ns = known_soft C os o (kept_known x.caller fit x.waiting) fit refl in
      let of_it : IsOf C a (Some x) = subst (IsOf C a) f y.0.1 in
      let who : C x.caller ≡ Some a = subst (λ (z : Option Value). IfNone z (C x.caller ≡ Some a)) j of_it in
      let fine : IsFor a fit = fits a s o x.caller x.waiting w fit (record s { promises = ps }) k y.0.2 in
      let was : HeldAre C os x.waiting = subst (KeptIs C os) f (i.0.3 o) in
      let promises : Promises C os ps = fits_promises C os o x.caller x.waiting s w fit (record s { promises = ps }) k i.0.2 in
      rw u (
        (soft_tasks os ns g d.effects.deliveries s.tasks i.0.0, soft_questions os ns g d.effects.sends s.questions i.0.1, soft_promises os ns g ps promises, at_put (λ l z. KeptIs C ns z) os o (kept_known x.caller fit x.waiting) (soft_held C os C ns g x.waiting was) (λ l m. soft_kepts os ns g os i.0.3 l), soft_embargoes os ns g s.embargoes i.0.4),
        soft_yet os ns g d.yet i.1,
        soft_coming os ns g d.arisen i.2,
        tt,
        ((a, who, fine), tt),
        i.5,
        i.6,
        i.7,
        i.8,
      )
  acted d new br i (act.Reports c w from e f u) =
      let y : Telling ((caller.Application (record { 0 = c }), w) ∷ []) = subst Telling e i.4 in
      let z = y.0 in
      rw u (i.0, i.1, i.2, i.3, tt, i.5, i.6, i.7, ends-append d.effects.answers _ i.8 ((z.0, z.1, subst (λ (n : ℕ). W z.0 (outcome_of w) n) (sym (new_refs_length d.state.next_ref (caps_of w))) z.2), tt))
  acted d new br i (act.TellsNobody c w e f u) = rw u (i.0, i.1, i.2, i.3, tt, i.5, i.6, i.7, i.8)
  acted d new br i (act.MakesReturn p w x y ds es e f j k u) =
      let t : Telling ((caller.Peer p, w) ∷ []) = subst Telling e i.4 in
      let fin : x.finished ≡ true → U p.0 = subst (AnswerIs p.0) j (i.5 p.0) in
      rw u (i.0, i.1, i.2, i.3, tt, i.5, by x.finished refl fin t.0 k, i.7, i.8)
    where
      by : (b : Bool) → x.finished ≡ b → (x.finished ≡ true → U p.0) → ((a : Asking) × (C (caller.Peer p) ≡ Some a) × IsFor a w) → Says d.state b w y ds es → SaysIt p.0 y
      by true g fin z h = inl (fin g)
      by false g fin z h = inr (z.0, z.1, says z.0 d.state w y ds es h z.2)
  acted d new br i (act.SendsReturn x y e f j u) =
      let s = d.state in
      let said : SaysIt x.answer.0 x.body = subst SayingIs e i.6 in
      let z = sent d _ (λ q. refl) (said, tt) i in
      rw u ((i.0.0, z.0, i.0.2, i.0.3, i.0.4), i.1, i.2, i.3, i.4, answers_still s.answers x.answer.0 y _ f i.5, tt, z.1, i.8)
  acted d new br i (act.Clears x e f u) = by f
    where
      by : IsStill d.state x → Fine new
      by g =
          let s = d.state in
          let os = s.outcomes in
          let w : KeptOutcome = kept_known x.caller x.value [] in
          let ns = map.insert os x.outcome w in
          let h : Soft C os C ns = known_soft C os x.outcome w x.value refl in
          rw u (
            (soft_tasks os ns h d.effects.deliveries s.tasks i.0.0, soft_questions os ns h d.effects.sends s.questions i.0.1, soft_promises os ns h s.promises i.0.2, at_put (λ l o. KeptIs C ns o) os x.outcome w tt (λ l m. soft_kepts os ns h os i.0.3 l), soft_embargoes os ns h s.embargoes i.0.4),
            yet_held ns x.outcome x.waiting (soft_held C os C ns h x.waiting (waiting g)),
            soft_coming os ns h d.arisen i.2,
            soft_coming os ns h d.coming i.3,
            i.4,
            i.5,
            i.6,
            i.7,
            i.8,
          )
        where
          waiting : IsStill d.state x → HeldAre C d.state.outcomes x.waiting
          waiting (inl l) = subst (KeptIs C d.state.outcomes) l (i.0.3 x.outcome)
          waiting (inr l) = subst (HeldAre C d.state.outcomes) (sym l.1) tt
  acted d new br i (act.Lists x e u) = rw u i
  acted d new br i (act.SendsResolve x rest k es e w f u) =
      let z = sent d _ (λ q. refl) (tt, tt) i in
      rw u ((i.0.0, z.0, i.0.2, i.0.3, i.0.4), i.1, i.2, i.3, i.4, i.5, i.6, z.1, i.8)
  acted d new br i (act.SendsBroken x rest reason e f u) =
      let z = sent d _ (λ q. refl) (tt, tt) i in
      rw u ((i.0.0, z.0, i.0.2, i.0.3, i.0.4), i.1, i.2, i.3, i.4, i.5, i.6, z.1, i.8)
  acted d new br i (act.PromiseGoes p to w e f u) =
      rw u ((i.0.0, i.0.1, at_cut (λ l o. PromiseIs C d.state.outcomes o) d.state.promises p tt (λ l m. i.0.2 l), i.0.3, i.0.4), i.1, i.2, i.3, i.4, i.5, i.6, i.7, i.8)
  acted d new br i (act.OutcomeGoes o x w z e f j k l u) =
      let s = d.state in
      let os = s.outcomes in
      let ns = map.remove os o in
      let g : Soft C os C ns = gone_soft C os o in
      rw u (
        (soft_tasks os ns g d.effects.deliveries s.tasks i.0.0, soft_questions os ns g d.effects.sends s.questions i.0.1, soft_promises os ns g s.promises i.0.2, at_cut (λ l y. KeptIs C ns y) os o tt (λ l m. soft_kepts os ns g os i.0.3 l), soft_embargoes os ns g s.embargoes i.0.4),
        soft_yet os ns g d.yet i.1,
        soft_coming os ns g d.arisen i.2,
        soft_coming os ns g d.coming i.3,
        i.4,
        i.5,
        i.6,
        i.7,
        i.8,
      )
  acted d new br i (act.ImportGoes k x w e f u) = rw u i
  acted d new br i (act.Sweeps over e f j u) = rw u i
  acted d new br i (act.SendsFinish q x rest e f j k l u) =
      let s = d.state in
      let n = closed_map s.questions q x x.returned in
      let c = closes C s.outcomes (λ k. now k d.effects.sends) s.questions q x x.returned refl f i.0.1 in
      rw u ((i.0.0, quietly s.outcomes d.effects.sends _ n (λ p. refl) c, i.0.2, i.0.3, i.0.4), i.1, i.2, i.3, i.4, i.5, i.6, say-append d.effects.sends _ i.7 (tt, tt), i.8)
  acted d new br i (act.Closes q x rest e f j k l u) =
      let s = d.state in
      let c = closes C s.outcomes (λ k. now k d.effects.sends) s.questions q x x.returned refl f i.0.1 in
      rw u ((i.0.0, c, i.0.2, i.0.3, i.0.4), i.1, i.2, i.3, i.4, i.5, i.6, i.7, i.8)
  acted d new br i (act.Releases w e f u) =
      let z = sent d _ (releases_ask (map.entries d.released)) (releases_say (map.entries d.released)) i in
      rw u ((i.0.0, z.0, i.0.2, i.0.3, i.0.4), i.1, i.2, i.3, i.4, i.5, i.6, z.1, i.8)

  pub all_acted : (last d : Moment) (list : Acts last d) → AllBreak list → Fine d → Fine last
  all_acted last d NoMore f i = i
  all_acted last d (Then {mid = mid} a rest) f i = all_acted last mid rest f.1 (acted d mid f.0 i a)

-- Where nothing is asked of it.
pub any_break : (C : Caller → Option Asking) (L : ℕ → Option Asking) (T : ℕ → Stamp → Type 0) (W : Asking → Outcome → ℕ → Type 0) (U : ℕ → Type 0) (broken : (s : Stamp) (why : Reason) → Unit {0} → W (OfCall s) (outcome.Exception (failed (reason_text why))) 0) (last d : Moment) (list : Acts last d) → AllBreak C L T W U (λ s. Unit {0}) broken list
any_break C L T W U broken last d NoMore = tt
any_break C L T W U broken last d (Then {mid = mid} a rest) = (λ c n r x e f. tt, any_break C L T W U broken last mid rest)
