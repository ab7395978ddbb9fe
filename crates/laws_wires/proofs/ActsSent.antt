-- Each small act sends what means what it should.
use Rattle.std.specs.FinMap as map
use Rattle.std.proofs.Common.{◌≡◌, ◌⊎◌, inl, inr, ℕ, Bool, true, false, List, [], ◌∷◌, ◌++◌, Option, None, Some, is_some, ◌||◌, refl, sym, subst, ap, ◌∙◌}
use Rattle.finite_maps.specs.Tally.{Map}
use Rattle.finite_maps.proofs.Tested.{at_put, at_cut}
use Rattle.rpc_msg.specs.declared.ids.Vat.{Vat}
use Rattle.rpc_msg.specs.declared.parts.Descriptor.{Descriptor}
use Rattle.rpc_msg.specs.declared.parts.Target.{Target}
use Rattle.rpc_msg.specs.declared.parts.Target.TheVariants.{ImportedCap, PromisedAnswer}
use Rattle.rpc_msg.specs.declared.message.ReturnBody.{ReturnBody}
use Rattle.rpc_msg.specs.declared.message.ReturnBody.TheVariants as body
use Rattle.rpc_msg.specs.declared.message.ResolvedTo.TheVariants as resolved
use Rattle.rpc_msg.specs.declared.message.PlainMessage.{PlainMessage}
use Rattle.rpc_msg.specs.declared.message.PlainMessage.TheVariants as plain
use Rattle.rpc_msg.specs.declared.message.Message.TheVariants as message
use Rattle.rpc_msg.specs.Messages.{descriptors_of_body}
use Rattle.rpc_journal.specs.History as history
use Rattle.rpc_journal.specs.Sources.{Asking}
use Rattle.rpc_journal.specs.Meaning.{History}
use Rattle.rpc_machine.specs.Payloads.{cap_at}
use Rattle.rpc_machine.specs.declared.node.Node.{Node}
use Rattle.rpc_machine.specs.declared.node.Node.TheVariants as node
use Rattle.rpc_machine.specs.declared.node.Reason.{Reason}
use Rattle.rpc_machine.specs.declared.calls.Caller.{Caller}
use Rattle.rpc_machine.specs.declared.calls.Caller.TheVariants as caller
use Rattle.rpc_machine.specs.declared.calls.KeptOutcome.{KeptOutcome}
use Rattle.rpc_machine.specs.declared.calls.Promise.{Promise}
use Rattle.rpc_machine.specs.declared.calls.Promise.TheVariants as promise
use Rattle.rpc_machine.specs.declared.calls.Value.{Value}
use Rattle.rpc_machine.specs.declared.calls.Value.TheVariants as value
use Rattle.rpc_machine.specs.declared.calls.WaitingCall.{WaitingCall}
use Rattle.rpc_machine.specs.declared.entries.Export.{Export}
use Rattle.rpc_machine.specs.State.{State}
use Rattle.rpc_machine.specs.Advancing.{wire_target}
use Rattle.rpc_machine.specs.Descriptors.{export_node}
use Rattle.rpc_machine.specs.Nodes.{settle}
use Rattle.rpc_machine.specs.Settling.{exports_where, or_failed, resolve_message}
use Rattle.laws_acts.specs.GoingOut.{GoesOut, GoOut, Says}
use Rattle.laws_acts.specs.FirstActs.{asking}
use Rattle.laws_acts.specs.Moments.{Moment, Saying, Owing, TheOutcome, why_of, is_of, owing}
use Rattle.laws_acts.specs.SmallActs.{Act, Acts, NoMore, Then, kept_known, release_messages}
use Rattle.laws_acts.specs.SmallActs as act
use Rattle.laws_routes.proofs.ExportsGrown.{Grown, none_grown}
use Rattle.laws_meanings.specs.MessageMeanings.{EachActMeans}
use Rattle.laws_meanings.specs.NodeMeanings.{Meant, OfRef, There, field_meant}
use Rattle.laws_meanings.specs.NodeLabels.{Labels, LeadsTo, Means, CallAt, ValueMeans, ValueIs, CallerIs, PromiseMeans, OutcomeMeans, ComingMeans, RoutedMean, ClearingMeans, MomentMeans, label}
use Rattle.laws_meanings.proofs.Labelled.{settles}
use Rattle.laws_meanings.proofs.Fitting.{Fitted, fitted}
use Rattle.laws_wires.specs.Wires.{Session, ReturnMeans}
use Rattle.laws_wires.specs.SentWires.{own_label, own_target}
use Rattle.laws_wires.specs.Sent.{AreOurs, IsKept, SaysSo, AllSaySo, SayingSo, IsToldSo, AllToldSo, IsAwaited, CallerSo, IsOwed, AllOwed, IsSettledSo, SentMean, AreWeaker, ExportsStay, ActsSaySo, StepsSaySo}
use Rattle.laws_wires.proofs.SentSo.{AllGone, Gone, all_go, caps_to, goes_so}
use Rattle.laws_wires.proofs.StillSo.{Onto, all-append, all_released, all_still, awaited_known, callers_still, kept_all, kept_put, kept_unnamed, listed, onto_same, owed_still, saying_still, says_still, settled_none, settled_not, settled_still, stays, told_still}

-- ---- What is newly sent

module _ (h : History) (v : Vat) (l : Labels) (said : ℕ → Session) (s : State) (promises : (p : ℕ) → PromiseMeans h v l p (map.get s.promises p)) (outcomes : (o : ℕ) → OutcomeMeans h v l o (map.get s.outcomes o)) where
  pub aimed : (F : Map Export) (x : Meant) (n : Node) (t : Target) → wire_target n ≡ Some t → Means h v l x n → LeadsTo h x (own_target h v l F t)
  aimed F x (node.Object o) t e k = let bad : ◌≡◌ {A = Option Target} None (Some t) = e in cc
  aimed F x (node.Promise p) t e k = let bad : ◌≡◌ {A = Option Target} None (Some t) = e in cc
  aimed F x (node.Field o path) t e k = let bad : ◌≡◌ {A = Option Target} None (Some t) = e in cc
  aimed F x (node.Import i) t e k = let is : ImportedCap i ≡ t = cc in subst (λ (z : Target). LeadsTo h x (own_target h v l F z)) is k
  aimed F x (node.Pipe q path) t e k = let is : PromisedAnswer q path ≡ t = cc in subst (λ (z : Target). LeadsTo h x (own_target h v l F z)) is k
  aimed F x (node.Broken reason) t e k = let bad : ◌≡◌ {A = Option Target} None (Some t) = e in cc

  -- A call that goes on.
  pub call_so : (c : WaitingCall) (n : Node) (q : ℕ) (t : Target) (ds : List Descriptor) (F : Map Export) → wire_target (settle s n) ≡ Some t → GoOut s s.exports c.request.caps ds F → CallAt h v l n c
      → SaysSo h v l F s.promises said (asking q t c.request ds)
  call_so c n q t ds F e g k =
      let a : AllGone h v l s promises outcomes s.exports c.request.caps ds F = all_go h v l s promises outcomes s.exports c.request.caps ds F g in
      let x = OfRef (history.caller c.request.stamp) in (
        (
          aimed F x (settle s n) t e (settles h v l s promises outcomes x n k.2),
          λ i d f. (let z = a.each i d f in let y = k.1 i z.0 z.1 in (y.0, y.1, z.2 y.0 y.2)),
        ),
        a.ours,
        tt,
      )

  abbrev BodySo : Vat × Asking → ReturnBody → Map Export → Type 0
  BodySo a b F = ReturnMeans h (own_label h v l F) a b × AreOurs F (descriptors_of_body b) × Grown s.exports F

  -- What a Return says.
  pub body_so : (fin : Bool) (a : Vat × Asking) (w : Value) (b : ReturnBody) (ds : List Descriptor) (F : Map Export) → Says s fin w b ds F → ValueMeans h v l a w → BodySo a b F
  body_so true a w b ds F g k = subst (λ (z : ReturnBody). BodySo a z F) (sym g.0) (subst (BodySo a body.Canceled) (sym g.2) (tt, tt, none_grown s.exports))
  body_so false a (value.Exception why) b ds F g k = subst (λ (z : ReturnBody). BodySo a z F) (sym g.0) (subst (BodySo a (body.Exception why)) (sym g.2) ((k.0, k.2), tt, none_grown s.exports))
  body_so false a (value.Results payload caps) b ds F g k =
      let z : AllGone h v l s promises outcomes s.exports caps ds F = all_go h v l s promises outcomes s.exports caps ds F g.1 in
      subst (λ (y : ReturnBody). BodySo a y F) (sym g.0) (
        (
          λ path. caps_to h v l s promises outcomes caps ds s.exports F z (cap_at payload path) (field_meant h a.0 a.1 path) (k.0 path),
          λ i d f. (let y = z.each i d f in let it = k.1 i y.0 y.1 in (it.0, it.1, y.2 it.0 it.2)),
          k.2,
        ),
        z.ours,
        z.grown,
      )

  -- A Resolve: the export leads to where its node settles.
  leads_on : (x : Owing) (n : Node) (y : Meant) → n ≡ x.node → label h v l n ≡ Some y → Means h v l y (settle s x.node)
  leads_on x n y is e =
      settles h v l s promises outcomes y x.node (subst (Means h v l y) is (subst (LeadsTo h y) (sym e) There))

  pub resolve_so : (x : Owing) (d : Descriptor) (F : Map Export) → IsOwed h v l s.exports s.promises x → GoesOut s.exports (settle s (settle s x.node)) d F
      → SaysSo h v l F s.promises said (resolve_message x.export (resolved.Cap d)) × Grown s.exports F
  resolve_so x d F k g =
      let y = k.0 in
      let to = k.4 in
      let z : Gone h v l s.exports (settle s (settle s x.node)) d F = goes_so h v l s.exports (settle s (settle s x.node)) d F g in
      let more : Grown s.exports F = z.grown in
      let now = more.still x.export y k.1 in (
        (
          (
            to.0,
            ap (label h v l) (ap export_node now.1 ∙ now.2) ∙ to.1,
            subst (LeadsTo h to.0) (sym z.label) (settles h v l s promises outcomes to.0 (settle s x.node) (leads_on x y.node to.0 k.2 to.1)),
          ),
          (z.ours, tt),
          (now.0, now.1, subst (IsKept s.promises) (sym now.2) k.3),
        ),
        more,
      )

  pub broken_so : (x : Owing) (reason : Reason) (why : _) → IsOwed h v l s.exports s.promises x → settle s x.node ≡ node.Broken reason → SaysSo h v l s.exports s.promises said (resolve_message x.export (resolved.Exception why))
  broken_so x reason why k e =
      let y = k.0 in
      let to = k.4 in (
        (
          to.0,
          ap (label h v l) (ap export_node k.1) ∙ to.1,
          subst (Means h v l to.0) e (leads_on x y.node to.0 k.2 to.1),
        ),
        tt,
        (y, k.1, k.3),
      )

-- ---- Acts

module _ (h : History) (v : Vat) (l : Labels) (said : ℕ → Session) (ps : ℕ → Option Meant) where
  abbrev m : Labels
  m = record l { promise = ps }

  abbrev To : Moment → Moment → Type 0
  To d new = ExportsStay h v l d.state ps new.state × SentMean h v m said new

  -- Nothing is sent, and exports and promises are as they were; the peer is told nothing new.
  pub record Rests (d new : Moment) : Type 0 where
    pub exports : new.state.exports ≡ d.state.exports
    pub promises : (e : ℕ) (x : Export) → map.get d.state.exports e ≡ Some x → IsKept d.state.promises x.node → IsKept new.state.promises x.node
    pub sends : new.effects.sends ≡ d.effects.sends
    pub saying : new.saying ≡ d.saying
    pub telling : (new.telling ≡ d.telling) ⊎ (new.telling ≡ [])
    pub owed : new.owed ≡ d.owed

  rests : (d new : Moment) → Rests d new → AreWeaker l d.state.promises ps → SentMean h v l said d → ((o : ℕ) → CallerSo h v m said o (map.get new.state.outcomes o)) → IsSettledSo h v m new new.settled → To d new
  rests d new r a i callers settled =
      let E = d.state.exports in
      let F = new.state.exports in
      let P = d.state.promises in
      let Q = new.state.promises in
      let w : Onto h v l said ps E F P Q = record { weak = a; grown = subst (Grown E) (sym r.exports) (none_grown E); kept = r.promises } in (
        stays h v l said ps E F P Q w,
        (
          subst (AllSaySo h v m F Q said) (sym r.sends) (all_still h v l said ps E F P Q w d.effects.sends i.0),
          subst (SayingSo h v m F Q said) (sym r.saying) (saying_still h v l said ps E F P Q w d.saying i.1),
          told w r.telling,
          callers,
          settled,
          subst (AllOwed h v m F Q) (sym r.owed) (owed_still h v l said ps E F P Q w d.owed i.5),
        ),
      )
    where
      told : Onto h v l said ps d.state.exports new.state.exports d.state.promises new.state.promises → ((new.telling ≡ d.telling) ⊎ (new.telling ≡ [])) → AllToldSo h v m said new.telling
      told w (inl e) = subst (AllToldSo h v m said) (sym e) (told_still h v l said ps d.state.exports new.state.exports d.state.promises new.state.promises w d.telling i.2)
      told w (inr e) = subst (AllToldSo h v m said) (sym e) tt

  callers_same : (d new : Moment) → new.state.outcomes ≡ d.state.outcomes → SentMean h v l said d → (o : ℕ) → CallerSo h v m said o (map.get new.state.outcomes o)
  callers_same d new e i o = subst (λ (z : Map KeptOutcome). CallerSo h v m said o (map.get z o)) (sym e) (callers_still h v l said ps o (map.get d.state.outcomes o) (i.3 o))

  held_same : (d new : Moment) → new.state.promises ≡ d.state.promises → (p : ℕ) (y : Promise) → map.get d.state.promises p ≡ Some y → IsKept new.state.promises (node.Promise p)
  held_same d new e p y f = (y, ap (λ (z : Map Promise). map.get z p) e ∙ f)

  -- All is as it was.
  pub record Idles (d new : Moment) : Type 0 where
    pub exports : new.state.exports ≡ d.state.exports
    pub promises : new.state.promises ≡ d.state.promises
    pub outcomes : new.state.outcomes ≡ d.state.outcomes
    pub sends : new.effects.sends ≡ d.effects.sends
    pub saying : new.saying ≡ d.saying
    pub telling : (new.telling ≡ d.telling) ⊎ (new.telling ≡ [])
    pub settled : new.settled ≡ d.settled
    pub swept : new.swept ≡ d.swept
    pub owed : new.owed ≡ d.owed

  none_told : (d new : Moment) → ((new.telling ≡ d.telling) ⊎ (new.telling ≡ [])) → d.telling ≡ [] → new.telling ≡ []
  none_told d new (inl e) f = e ∙ f
  none_told d new (inr e) f = e

  idles : (d new : Moment) → Idles d new → AreWeaker l d.state.promises ps → SentMean h v l said d → To d new
  idles d new r a i =
      rests d new
      (record {
        exports = r.exports;
        promises = λ e x f. kept_all d.state.promises new.state.promises (held_same d new r.promises) x.node;
        sends = r.sends;
        saying = r.saying;
        telling = r.telling;
        owed = r.owed;
      }) a i (callers_same d new r.outcomes i)
      (settled_still h v l said ps d new (record { settled = r.settled; saying = r.saying; telling = none_told d new r.telling; swept = r.swept }) a (held_same d new r.promises) i.4)

  -- One message is sent; exports may come.
  pub record SendsOne (d new : Moment) (x : PlainMessage) : Type 0 where
    pub promises : new.state.promises ≡ d.state.promises
    pub outcomes : new.state.outcomes ≡ d.state.outcomes
    pub sends : new.effects.sends ≡ d.effects.sends ++ message.Plain x ∷ []
    pub telling : new.telling ≡ d.telling
    pub settled : new.settled ≡ d.settled
    pub swept : new.swept ≡ d.swept

  sends_one : (d new : Moment) (x : PlainMessage) → SendsOne d new x → Grown d.state.exports new.state.exports → AreWeaker l d.state.promises ps → SentMean h v l said d → SaysSo h v l new.state.exports d.state.promises said x
      → (Onto h v l said ps d.state.exports new.state.exports d.state.promises new.state.promises → SayingSo h v m new.state.exports new.state.promises said new.saying)
      → (Onto h v l said ps d.state.exports new.state.exports d.state.promises new.state.promises → AllOwed h v m new.state.exports new.state.promises new.owed) → IsSettledSo h v m new new.settled → To d new
  sends_one d new x r g a i k saying owed settled =
      let E = d.state.exports in
      let F = new.state.exports in
      let P = d.state.promises in
      let Q = new.state.promises in
      let w : Onto h v l said ps E F P Q = record { weak = a; grown = g; kept = λ e y f. kept_all P Q (held_same d new r.promises) y.node } in
      let u : Onto h v l said ps F F P Q = record { weak = a; grown = none_grown F; kept = λ e y f. kept_all P Q (held_same d new r.promises) y.node } in (
        stays h v l said ps E F P Q w,
        (
          subst (AllSaySo h v m F Q said) (sym r.sends) (all-append h v l said ps F Q d.effects.sends (message.Plain x ∷ []) (all_still h v l said ps E F P Q w d.effects.sends i.0) (says_still h v l said ps F F P Q u x k, tt)),
          saying w,
          subst (AllToldSo h v m said) (sym r.telling) (told_still h v l said ps E F P Q w d.telling i.2),
          callers_same d new r.outcomes i,
          settled,
          owed w,
        ),
      )

  acted : (d new : Moment) → MomentMeans h v l d → MomentMeans h v m new → AreWeaker l d.state.promises ps → SentMean h v l said d → Act d new → To d new
  acted d new i j a g (act.Delivers c n rest o e f k) = idles d new (rw k (record { exports = refl; promises = refl; outcomes = refl; sends = refl; saying = refl; telling = inl refl; settled = refl; swept = refl; owed = refl })) a g
  acted d new i j a g (act.Waits c n rest p calls e f z k) =
      let P = d.state.promises in
      let Q = map.insert P p (promise.Open (calls ++ c ∷ [])) in
      let is : new.state.promises ≡ Q = ap (λ (b : Moment). b.state.promises) k in
      let held : (q : ℕ) (y : Promise) → map.get P q ≡ Some y → IsKept new.state.promises (node.Promise q) = (λ q y b. subst (λ (R : Map Promise). IsKept R (node.Promise q)) (sym is) (kept_put P p (promise.Open (calls ++ c ∷ [])) q y b)) in
      rests d new (record {
        exports = ap (λ (b : Moment). b.state.exports) k;
        promises = λ b x y. kept_all P new.state.promises held x.node;
        sends = ap (λ (b : Moment). b.effects.sends) k;
        saying = ap (λ (b : Moment). b.saying) k;
        telling = inl (ap (λ (b : Moment). b.telling) k);
        owed = ap (λ (b : Moment). b.owed) k;
      }) a g (callers_same d new (ap (λ (b : Moment). b.state.outcomes) k) g) (settled_still h v l said ps d new (rw k (record { settled = refl; saying = refl; telling = λ b. b; swept = refl })) a held g.4)
  acted d new i j a g (act.Holds c n rest o path x e f z k) =
      let w : KeptOutcome = record x { waiting = x.waiting ++ record { path = path; call = c } ∷ [] } in
      let was : CallerSo h v l said o (Some x) = subst (CallerSo h v l said o) z (g.3 o) in
      let here = callers_still h v l said ps o (Some w) was in
      let held = held_same d new (ap (λ (b : Moment). b.state.promises) k) in
      rests d new (record {
        exports = ap (λ (b : Moment). b.state.exports) k;
        promises = λ b x y. kept_all d.state.promises new.state.promises held x.node;
        sends = ap (λ (b : Moment). b.effects.sends) k;
        saying = ap (λ (b : Moment). b.saying) k;
        telling = inl (ap (λ (b : Moment). b.telling) k);
        owed = ap (λ (b : Moment). b.owed) k;
      }) a g (rw k (at_put (λ b r. CallerSo h v m said b r) d.state.outcomes o w here (λ b y. callers_still h v l said ps b (map.get d.state.outcomes b) (g.3 b))))
      (settled_still h v l said ps d new (rw k (record { settled = refl; saying = refl; telling = λ b. b; swept = refl })) a held g.4)
  acted d new i j a g (act.Relays c n rest q t ds es e f z w k) =
      let s = d.state in
      let y : CallAt h v l n c × RoutedMean h v l rest = subst (RoutedMean h v l) e i.1 in
      let it : SaysSo h v l es s.promises said (asking q t c.request ds) = call_so h v l said s i.0.1 i.0.3 c n q t ds es f w y.0 in
      let out : AllGone h v l s i.0.1 i.0.3 s.exports c.request.caps ds es = all_go h v l s i.0.1 i.0.3 s.exports c.request.caps ds es w in
      let F : new.state.exports ≡ es = ap (λ (b : Moment). b.state.exports) k in
      sends_one d new (asking q t c.request ds) (rw k (record { promises = refl; outcomes = refl; sends = refl; telling = refl; settled = refl; swept = refl })) (subst (Grown s.exports) (sym F) out.grown) a g
      (subst (λ (G : Map Export). SaysSo h v l G s.promises said (asking q t c.request ds)) (sym F) it)
      (λ b. subst (SayingSo h v m new.state.exports new.state.promises said) (sym (ap (λ (u : Moment). u.saying) k)) (saying_still h v l said ps s.exports new.state.exports s.promises new.state.promises b d.saying g.1))
      (λ b. subst (AllOwed h v m new.state.exports new.state.promises) (sym (ap (λ (u : Moment). u.owed) k)) (owed_still h v l said ps s.exports new.state.exports s.promises new.state.promises b d.owed g.5))
      (settled_still h v l said ps d new (rw k (record { settled = refl; saying = refl; telling = λ b. b; swept = refl })) a (held_same d new (ap (λ (u : Moment). u.state.promises) k)) g.4)
  acted d new i j a g (act.Breaks c n rest reason e f k) = idles d new (rw k (record { exports = refl; promises = refl; outcomes = refl; sends = refl; saying = refl; telling = inl refl; settled = refl; swept = refl; owed = refl })) a g
  acted d new i j a g (act.NextArisen o w rest e f k) = idles d new (rw k (record { exports = refl; promises = refl; outcomes = refl; sends = refl; saying = refl; telling = inl refl; settled = refl; swept = refl; owed = refl })) a g
  acted d new i j a g (act.Knows o x fit y qs e f z w k) =
      let s = d.state in
      let coming : ComingMeans h v l ((o, x) ∷ []) = subst (λ (b : Moment). ComingMeans h v l b.coming) e i.3 in
      let of = coming.0 in
      let fits : Fitted h v l s.promises qs of.0 fit = fitted h v l of.0 s o y.caller y.waiting x fit (record s { promises = qs }) w of.2 in
      let same = fits.untangled in
      let was : CallerSo h v l said o (Some y) = subst (CallerSo h v l said o) f (g.3 o) in
      let clears : ClearingMeans h v m (Some (record { outcome = o; caller = y.caller; value = fit; waiting = y.waiting })) = subst (λ (b : Moment). ClearingMeans h v m b.clearing) k j.6 in
      let it = clears.1 in
      let E = s.exports in
      let P = s.promises in
      let to : Onto h v l said ps E E P qs = record { weak = a; grown = none_grown E; kept = λ b c n. kept_all P qs (λ p r u. (let t = same.same p r u in (r, t.1))) c.node } in (
        rw k (stays h v l said ps E E P qs to),
        (
          rw k (all_still h v l said ps E E P qs to d.effects.sends g.0),
          rw k (saying_still h v l said ps E E P qs to d.saying g.1),
          rw k (told y.caller (subst (IsAwaited h v l said o y.caller) z was) it, tt),
          rw k (at_put (λ b r. CallerSo h v m said b r) s.outcomes o (kept_known y.caller fit y.waiting) (awaited_known h v l said ps o y.caller fit) (λ b r. callers_still h v l said ps b (map.get s.outcomes b) (g.3 b))),
          settled_none h v l said ps new (ap (λ (b : Moment). b.settled) k ∙ ap (λ (b : Moment). b.settled) e),
          rw k (owed_still h v l said ps E E P qs to d.owed g.5),
        ),
      )
    where
      told : (c : Caller) → IsAwaited h v l said o c None → ValueIs h v m o (Some fit) → IsToldSo h v m said c fit
      told (caller.Application b) n it = tt
      told (caller.Peer q) n it = (it.0, n ∙ it.1, it.2)
  acted d new i j a g (act.Reports c w from e f k) = idles d new (rw k (record { exports = refl; promises = refl; outcomes = refl; sends = refl; saying = refl; telling = inr refl; settled = refl; swept = refl; owed = refl })) a g
  acted d new i j a g (act.TellsNobody c w e f k) = idles d new (rw k (record { exports = refl; promises = refl; outcomes = refl; sends = refl; saying = refl; telling = inr refl; settled = refl; swept = refl; owed = refl })) a g
  acted d new i j a g (act.MakesReturn q w y b ds es e f z says k) =
      let s = d.state in
      let E = s.exports in
      let P = s.promises in
      let of : AllToldSo h v l said ((caller.Peer q, w) ∷ []) = subst (AllToldSo h v l said) e g.2 in
      let it = of.0 in
      let out = body_so h v l said s i.0.1 i.0.3 y.finished it.0 w b ds es says it.2 in
      let to : Onto h v l said ps E es P P = record { weak = a; grown = out.2; kept = λ n c u k. k } in (
        rw k (stays h v l said ps E es P P to),
        (
          rw k (all_still h v l said ps E es P P to d.effects.sends g.0),
          rw k (says_still h v l said ps es es P P (onto_same h v l said ps es P a) (plain.Return (record { answer = q; release_param_caps = false; body = b })) ((it.0, it.1, out.0), out.1, tt)),
          rw k tt,
          rw k (λ o. callers_still h v l said ps o (map.get s.outcomes o) (g.3 o)),
          settled_not h v l said ps d new (ap (λ (u : Moment). u.settled) k) (λ r t u. (let bad : ◌≡◌ {A = List (Caller × Value)} [] ((caller.Peer q, w) ∷ []) = sym t ∙ e in cc)) g.4,
          rw k (owed_still h v l said ps E es P P to d.owed g.5),
        ),
      )
  acted d new i j a g (act.SendsReturn x y e f z k) =
      let s = d.state in
      let was : SayingSo h v l s.exports s.promises said (Some x) = subst (SayingSo h v l s.exports s.promises said) e g.1 in
      let to = onto_same h v l said ps s.exports s.promises a in
      let now = saying_still h v l said ps s.exports s.exports s.promises s.promises to (Some x) was in (
        rw k (stays h v l said ps s.exports s.exports s.promises s.promises to),
        (
          rw k (all-append h v l said ps s.exports s.promises d.effects.sends _ (all_still h v l said ps s.exports s.exports s.promises s.promises to d.effects.sends g.0) (now, tt)),
          rw k tt,
          rw k (told_still h v l said ps s.exports s.exports s.promises s.promises to d.telling g.2),
          rw k (λ o. callers_still h v l said ps o (map.get s.outcomes o) (g.3 o)),
          settled_not h v l said ps d new (ap (λ (u : Moment). u.settled) k) (λ r t u. (let bad : ◌≡◌ {A = Option Saying} None (Some x) = sym r ∙ e in cc)) g.4,
          rw k (owed_still h v l said ps s.exports s.exports s.promises s.promises to d.owed g.5),
        ),
      )
  acted d new i j a g (act.Clears x e f k) =
      let s = d.state in
      let is : CallerIs h v l x.outcome x.caller × ValueIs h v l x.outcome (Some x.value) = subst (λ (b : Moment). ClearingMeans h v l b.clearing) e i.6 in
      let it = is.1 in
      let to = onto_same h v l said ps s.exports s.promises a in
      let now : IsSettledSo h v m new (Some (TheOutcome x.outcome)) = (
        ap (λ (b : Moment). b.saying) k ∙ ap (λ (b : Moment). b.saying) e,
        ap (λ (b : Moment). b.telling) k ∙ ap (λ (b : Moment). b.telling) e,
        ap (λ (b : Moment). b.swept) k ∙ ap (λ (b : Moment). b.swept) e,
        (it.0, it.1),
      ) in (
        rw k (stays h v l said ps s.exports s.exports s.promises s.promises to),
        (
          rw k (all_still h v l said ps s.exports s.exports s.promises s.promises to d.effects.sends g.0),
          rw k (saying_still h v l said ps s.exports s.exports s.promises s.promises to d.saying g.1),
          rw k (told_still h v l said ps s.exports s.exports s.promises s.promises to d.telling g.2),
          rw k (at_put (λ b r. CallerSo h v m said b r) s.outcomes x.outcome (kept_known x.caller x.value []) (awaited_known h v l said ps x.outcome x.caller x.value) (λ b r. callers_still h v l said ps b (map.get s.outcomes b) (g.3 b))),
          subst (IsSettledSo h v m new) (sym (ap (λ (b : Moment). b.settled) k)) now,
          rw k (owed_still h v l said ps s.exports s.exports s.promises s.promises to d.owed g.5),
        ),
      )
  acted d new i j a g (act.Lists x e k) =
      let s = d.state in
      let to = onto_same h v l said ps s.exports s.promises a in
      let was : IsSettledSo h v l d (Some x) = subst (IsSettledSo h v l d) (ap (λ (b : Moment). b.settled) e) g.4 in
      let all = listed h v l s.exports s.promises x (why_of x) was.3 (map.entries s.exports) (map.entries_sorted s.exports) (λ b y f. map.get-entries s.exports b ∙ f) in (
        rw k (stays h v l said ps s.exports s.exports s.promises s.promises to),
        (
          rw k (all_still h v l said ps s.exports s.exports s.promises s.promises to d.effects.sends g.0),
          rw k (saying_still h v l said ps s.exports s.exports s.promises s.promises to d.saying g.1),
          rw k (told_still h v l said ps s.exports s.exports s.promises s.promises to d.telling g.2),
          rw k (λ o. callers_still h v l said ps o (map.get s.outcomes o) (g.3 o)),
          settled_none h v l said ps new (ap (λ (b : Moment). b.settled) k),
          rw k (owed_still h v l said ps s.exports s.exports s.promises s.promises to (owing (why_of x) (exports_where (is_of x) (map.entries s.exports))) all),
        ),
      )
  acted d new i j a g (act.SendsResolve x rest b es e f w k) =
      let s = d.state in
      let ow : AllOwed h v l s.exports s.promises (x ∷ rest) = subst (AllOwed h v l s.exports s.promises) e g.5 in
      let it = resolve_so h v l said s i.0.1 i.0.3 x b es ow.0 w in
      let F : new.state.exports ≡ es = ap (λ (u : Moment). u.state.exports) k in
      sends_one d new (resolve_message x.export (resolved.Cap b)) (rw k (record { promises = refl; outcomes = refl; sends = refl; telling = refl; settled = refl; swept = refl })) (subst (Grown s.exports) (sym F) it.1) a g
      (subst (λ (G : Map Export). SaysSo h v l G s.promises said (resolve_message x.export (resolved.Cap b))) (sym F) it.0)
      (λ b. subst (SayingSo h v m new.state.exports new.state.promises said) (sym (ap (λ (u : Moment). u.saying) k)) (saying_still h v l said ps s.exports new.state.exports s.promises new.state.promises b d.saying g.1))
      (λ b. subst (AllOwed h v m new.state.exports new.state.promises) (sym (ap (λ (u : Moment). u.owed) k)) (owed_still h v l said ps s.exports new.state.exports s.promises new.state.promises b rest ow.1))
      (settled_still h v l said ps d new (rw k (record { settled = refl; saying = refl; telling = λ b. b; swept = refl })) a (held_same d new (ap (λ (u : Moment). u.state.promises) k)) g.4)
  acted d new i j a g (act.SendsBroken x rest reason e f k) =
      let s = d.state in
      let ow : AllOwed h v l s.exports s.promises (x ∷ rest) = subst (AllOwed h v l s.exports s.promises) e g.5 in
      let it = broken_so h v l said s i.0.1 i.0.3 x reason (or_failed x.why reason) ow.0 f in
      let F : new.state.exports ≡ s.exports = ap (λ (u : Moment). u.state.exports) k in
      sends_one d new (resolve_message x.export (resolved.Exception (or_failed x.why reason))) (rw k (record { promises = refl; outcomes = refl; sends = refl; telling = refl; settled = refl; swept = refl })) (subst (Grown s.exports) (sym F) (none_grown s.exports)) a g
      (subst (λ (G : Map Export). SaysSo h v l G s.promises said (resolve_message x.export (resolved.Exception (or_failed x.why reason)))) (sym F) it)
      (λ b. subst (SayingSo h v m new.state.exports new.state.promises said) (sym (ap (λ (u : Moment). u.saying) k)) (saying_still h v l said ps s.exports new.state.exports s.promises new.state.promises b d.saying g.1))
      (λ b. subst (AllOwed h v m new.state.exports new.state.promises) (sym (ap (λ (u : Moment). u.owed) k)) (owed_still h v l said ps s.exports new.state.exports s.promises new.state.promises b rest ow.1))
      (settled_still h v l said ps d new (rw k (record { settled = refl; saying = refl; telling = λ b. b; swept = refl })) a (held_same d new (ap (λ (u : Moment). u.state.promises) k)) g.4)
  acted d new i j a g (act.PromiseGoes p to b e f k) =
      let P = d.state.promises in
      let is : new.state.promises ≡ map.remove P p = ap (λ (u : Moment). u.state.promises) k in
      rests d new (record {
        exports = ap (λ (b : Moment). b.state.exports) k;
        promises = λ n x y z. subst (λ (R : Map Promise). IsKept R x.node) (sym is) (kept_unnamed d.state p f n x y z);
        sends = ap (λ (b : Moment). b.effects.sends) k;
        saying = ap (λ (b : Moment). b.saying) k;
        telling = inl (ap (λ (b : Moment). b.telling) k);
        owed = ap (λ (b : Moment). b.owed) k;
      }) a g (callers_same d new (ap (λ (b : Moment). b.state.outcomes) k) g)
      (settled_not h v l said ps d new (ap (λ (u : Moment). u.settled) k) (λ r t u. (let bad : false ≡ true = sym (ap (λ (z : Option Saying). is_some z || d.swept) r ∙ u) ∙ b in cc)) g.4)
  acted d new i j a g (act.OutcomeGoes o x w b e f z c n k) =
      let held = held_same d new (ap (λ (b : Moment). b.state.promises) k) in
      rests d new (record {
        exports = ap (λ (b : Moment). b.state.exports) k;
        promises = λ b x y. kept_all d.state.promises new.state.promises held x.node;
        sends = ap (λ (b : Moment). b.effects.sends) k;
        saying = ap (λ (b : Moment). b.saying) k;
        telling = inl (ap (λ (b : Moment). b.telling) k);
        owed = ap (λ (b : Moment). b.owed) k;
      }) a g (rw k (at_cut (λ b r. CallerSo h v m said b r) d.state.outcomes o tt (λ b y. callers_still h v l said ps b (map.get d.state.outcomes b) (g.3 b))))
      (settled_still h v l said ps d new (rw k (record { settled = refl; saying = refl; telling = λ b. b; swept = refl })) a held g.4)
  acted d new i j a g (act.ImportGoes b x w e f k) = idles d new (rw k (record { exports = refl; promises = refl; outcomes = refl; sends = refl; saying = refl; telling = inl refl; settled = refl; swept = refl; owed = refl })) a g
  acted d new i j a g (act.Sweeps over e f w k) =
      let held = held_same d new (ap (λ (b : Moment). b.state.promises) k) in
      rests d new (record {
        exports = ap (λ (b : Moment). b.state.exports) k;
        promises = λ b x y. kept_all d.state.promises new.state.promises held x.node;
        sends = ap (λ (b : Moment). b.effects.sends) k;
        saying = ap (λ (b : Moment). b.saying) k;
        telling = inl (ap (λ (b : Moment). b.telling) k);
        owed = ap (λ (b : Moment). b.owed) k;
      }) a g (callers_same d new (ap (λ (b : Moment). b.state.outcomes) k) g) (settled_none h v l said ps new (ap (λ (b : Moment). b.settled) k ∙ ap (λ (b : Moment). b.settled) e))
  acted d new i j a g (act.SendsFinish q x rest e f z w b k) =
      let s = d.state in
      let to = onto_same h v l said ps s.exports s.promises a in (
        rw k (stays h v l said ps s.exports s.exports s.promises s.promises to),
        (
          rw k (all-append h v l said ps s.exports s.promises d.effects.sends _ (all_still h v l said ps s.exports s.exports s.promises s.promises to d.effects.sends g.0) ((tt, tt, tt), tt)),
          rw k (saying_still h v l said ps s.exports s.exports s.promises s.promises to d.saying g.1),
          rw k (told_still h v l said ps s.exports s.exports s.promises s.promises to d.telling g.2),
          rw k (λ o. callers_still h v l said ps o (map.get s.outcomes o) (g.3 o)),
          settled_still h v l said ps d new (rw k (record { settled = refl; saying = refl; telling = λ b. b; swept = refl })) a (held_same d new (ap (λ (u : Moment). u.state.promises) k)) g.4,
          rw k (owed_still h v l said ps s.exports s.exports s.promises s.promises to d.owed g.5),
        ),
      )
  acted d new i j a g (act.Closes q x rest e f z w b k) = idles d new (rw k (record { exports = refl; promises = refl; outcomes = refl; sends = refl; saying = refl; telling = inl refl; settled = refl; swept = refl; owed = refl })) a g
  acted d new i j a g (act.Releases e f z k) =
      let s = d.state in
      let to = onto_same h v l said ps s.exports s.promises a in (
        rw k (stays h v l said ps s.exports s.exports s.promises s.promises to),
        (
          rw k (all-append h v l said ps s.exports s.promises d.effects.sends (release_messages (map.entries d.released)) (all_still h v l said ps s.exports s.exports s.promises s.promises to d.effects.sends g.0) (all_released h v l said ps s.exports s.promises (map.entries d.released))),
          rw k (saying_still h v l said ps s.exports s.exports s.promises s.promises to d.saying g.1),
          rw k (told_still h v l said ps s.exports s.exports s.promises s.promises to d.telling g.2),
          rw k (λ o. callers_still h v l said ps o (map.get s.outcomes o) (g.3 o)),
          settled_still h v l said ps d new (rw k (record { settled = refl; saying = refl; telling = λ b. b; swept = refl })) a (held_same d new (ap (λ (u : Moment). u.state.promises) k)) g.4,
          rw k (owed_still h v l said ps s.exports s.exports s.promises s.promises to d.owed g.5),
        ),
      )

pub acts_say_so : ActsSaySo
acts_say_so h v l said ps d new x i j a g = acted h v l said ps d new i j a g x

-- ---- Acts, one after the other

abbrev Ends : History → Vat → Labels → (ℕ → Session) → Moment → Moment → Type 0
Ends h v l said d last =
    (ps : ℕ → Option Meant) × ((p : ℕ) → (ps p ≡ l.promise p) ⊎ (ps p ≡ None)) × ExportsStay h v l d.state ps last.state
    × MomentMeans h v (record l { promise = ps }) last × SentMean h v (record l { promise = ps }) said last

weaker_on : (a b c : Option Meant) → ((c ≡ b) ⊎ (c ≡ None)) → ((b ≡ a) ⊎ (b ≡ None)) → (c ≡ a) ⊎ (c ≡ None)
weaker_on a b c (inr e) f = inr e
weaker_on a b c (inl e) (inl f) = inl (e ∙ f)
weaker_on a b c (inl e) (inr f) = inr (e ∙ f)

stay_on : (h : History) (v : Vat) (l : Labels) (s t u : State) (ps qs : ℕ → Option Meant) → ExportsStay h v l s ps t → ExportsStay h v (record l { promise = ps }) t qs u → ExportsStay h v l s qs u
stay_on h v l s t u ps qs f g e x at =
    let y = f e x at in
    let z = g e y.0 y.1 in (
      z.0,
      z.1,
      z.2 ∙ y.2,
      λ k. (let a = y.3 k in
          let b = z.3 (subst (IsKept t.promises) (sym y.2) a.0) in
          (subst (IsKept u.promises) y.2 b.0, subst (λ (n : Node). label h v (record l { promise = qs }) n ≡ label h v (record l { promise = ps }) n) y.2 b.1 ∙ a.1)),
    )

module _ (each : EachActMeans) (h : History) (v : Vat) (said : ℕ → Session) (last : Moment) where
  all_say : (l : Labels) (d : Moment) → Acts last d → MomentMeans h v l d → SentMean h v l said d → Ends h v l said d last
  all_say l d NoMore i g = (l.promise, λ p. inl refl, λ e x f. (x, f, refl, λ k. (k, refl)), i, g)
  all_say l d (Then {mid = mid} a rest) i g =
      let z = each h v l d mid a i in
      let one = acted h v l said z.0 d mid i z.3 (record { same = z.1; weaker = z.2 }) g a in
      let r = all_say (record l { promise = z.0 }) mid rest z.3 one.1 in
      (r.0, λ p. weaker_on (l.promise p) (z.0 p) (r.0 p) (r.1 p) (z.2 p), stay_on h v l d.state mid.state last.state z.0 r.0 one.0 r.2, r.3, r.4)

pub steps_say_so : EachActMeans → StepsSaySo
steps_say_so each h v l said d last acts i g = all_say each h v said last l d acts i g
