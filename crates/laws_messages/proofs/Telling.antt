-- Each act of a step gives exports that do not lead on, and each export that comes to lead on is told so: once.
use Rattle.std.proofs.Common.{◌≡◌, inl, inr, ℕ, Bool, true, false, ◌||◌, nat_eq, IsSome, List, [], ◌∷◌, ◌++◌, Option, None, Some, refl, sym, ap, subst, ◌∙◌, append_assoc, append-nil}
use Rattle.std.specs.FinMap as map
use Rattle.finite_maps.specs.Tally.{Map}
use Rattle.rpc_msg.specs.declared.parts.Descriptor.{Descriptor}
use Rattle.rpc_msg.specs.declared.message.ReturnBody.{ReturnBody}
use Rattle.rpc_msg.specs.declared.message.ResolvedTo.TheVariants as resolved
use Rattle.rpc_msg.specs.declared.message.PlainMessage.TheVariants as plain
use Rattle.rpc_msg.specs.declared.message.Message.TheVariants as wire
use Rattle.rpc_msg.specs.Messages.{descriptors_of_body}
use Rattle.rpc_machine.specs.declared.node.Node.{Node}
use Rattle.rpc_machine.specs.declared.calls.Promise.{Promise}
use Rattle.rpc_machine.specs.declared.calls.Promise.TheVariants as promise
use Rattle.rpc_machine.specs.declared.calls.Value.{Value}
use Rattle.rpc_machine.specs.declared.calls.Value.TheVariants as value
use Rattle.rpc_machine.specs.declared.calls.KeptOutcome.{KeptOutcome}
use Rattle.rpc_machine.specs.declared.calls.Caller.{Caller}
use Rattle.rpc_machine.specs.declared.calls.HeldCall.{HeldCall}
use Rattle.rpc_machine.specs.declared.entries.Export.{Export}
use Rattle.rpc_machine.specs.State.{State}
use Rattle.rpc_machine.specs.Nodes.{promise_link, value_of, field_link, link, settle, is_promise, is_field}
use Rattle.rpc_machine.specs.Places.{places, names, named_by_export}
use Rattle.rpc_machine.specs.Settling.{Fits, known, resolve_message, or_failed, exports_where}
use Rattle.rpc_machine.specs.Flags.{flag_for}
use Rattle.rpc_machine.specs.Progress.{numbers}
use Rattle.rpc_machine.specs.Sweeping.{got_of}
use Rattle.laws_steps.proofs.Among.{named, none_among, in_exports}
use Rattle.laws_acts.specs.Moments.{Saying, Clearing, Settled, TheOutcome, Owing, Moment, is_of, why_of, owing}
use Rattle.laws_acts.specs.GoingOut.{Says}
use Rattle.laws_acts.specs.FirstActs.{Starts}
use Rattle.laws_acts.specs.FirstActs as first
use Rattle.laws_acts.specs.SmallActs.{Act, IsStill, kept_known, release_messages}
use Rattle.laws_acts.specs.SmallActs as act
use Rattle.laws_nodes.specs.Settling.{AllStop, SameLinks, fixed}
use Rattle.laws_nodes.proofs.Stopping.{ends, opens, begins, is_it, others, leads}
use Rattle.laws_nodes.proofs.Knowing.{is_a_field, field_link_is, other_link, fits_links}
use Rattle.laws_nodes.proofs.Collected.{promise_gone, outcome_gone}
use Rattle.laws_runs.specs.Exports as export
use Rattle.laws_runs.specs.Exports.{Exporter, Out, Seen}
use Rattle.laws_runs.specs.Views.{only}
use Rattle.laws_messages.specs.Views.{gives_in}
use Rattle.laws_messages.specs.ExportViews.{exporter_by, outs_in}
use Rattle.laws_messages.proofs.Fitting.{Follows, EntryFollows, followed, same_links, Learned, goes_out, go_out}
use Rattle.laws_messages.proofs.Owing.{in_owed, of_settled, owes_by, owes, none_owed, AreListed, listed, listed_where, still_listed, one_told, said_in, outs, unsaid, one_more_sent, quiet_sent, Phase, routing, telling, resolving, saying, collecting, settled_leads}

-- ---- Links

-- A promise that is fixed leads on.
pub fixed_leads : (s : State) (p : ℕ) (to n : Node) → is_promise p n ≡ true → IsSome (link (fixed s p to) n)
fixed_leads s p to n h = subst (λ (m : Node). IsSome (link (fixed s p to) m)) (sym (is_it p n h)) (subst (λ (o : Option Node). IsSome o) (sym (leads s p to)) refl)

module _ (s : State) (p : ℕ) (to : Node) (g : Node → Bool) (start : promise_link (map.get s.promises p) ≡ None) (same : (n : Node) → g n ≡ is_promise p n) where
  fixes_node : (f : Node → Bool) → ((n : Node) → f n ≡ false) → (n : Node) → Follows s (fixed s p to) f g n
  fixes_node f none n = by (is_promise p n) refl
    where
      by : (b : Bool) → is_promise p n ≡ b → Follows s (fixed s p to) f g n
      by false c = inl (others s p to n c, same n ∙ c ∙ sym (none n))
      by true c = inr (ap (link s) (is_it p n c) ∙ start, fixed_leads s p to n c, same n ∙ c)

  pub fixes : (f : Node → Bool) → ((n : Node) → f n ≡ false) → (o : Option Export) → EntryFollows s (fixed s p to) f g o
  fixes f none None = tt
  fixes f none (Some x) = fixes_node f none x.node

-- A field of an outcome leads on where that is known, and else not.
field_leads : (s : State) (o : ℕ) (who : Caller) (w : List HeldCall) (v : Value) (n : Node) → is_field o n ≡ true → IsSome (link (known s o who w v) n)
field_leads s o who w v n c =
    let k = is_a_field o who w n c in
    subst (λ (m : Node). IsSome (link (known s o who w v) m)) (sym k.1) (subst (λ (y : Option Node). IsSome y) (sym (field_link_is o who w s v k.0)) refl)

field_stops : (s : State) (x : Clearing) (n : Node) → value_of (map.get s.outcomes x.outcome) ≡ None → is_field x.outcome n ≡ true → link s n ≡ None
field_stops s x n h c = let k = is_a_field x.outcome x.caller x.waiting n c in ap (link s) k.1 ∙ ap (field_link k.0) h

module _ (s : State) (x : Clearing) (v : Value) (ps : Map Promise) (unknown : value_of (map.get s.outcomes x.outcome) ≡ None) (h : Fits s x.outcome x.caller x.waiting v x.value (record s { promises = ps })) where
  abbrev known_now : State
  known_now = known (record s { promises = ps }) x.outcome x.caller x.waiting x.value

  knows_node : (f g : Node → Bool) → ((n : Node) → f n ≡ false) → ((n : Node) → g n ≡ is_field x.outcome n) → (n : Node) → Follows s known_now f g n
  knows_node f g none same n = by (is_field x.outcome n) refl
    where
      by : (b : Bool) → is_field x.outcome n ≡ b → Follows s known_now f g n
      by false c = inl (other_link x.outcome x.caller x.waiting (record s { promises = ps }) x.value n c ∙ fits_links x.outcome x.caller x.waiting s v x.value (record s { promises = ps }) h n, same n ∙ c ∙ sym (none n))
      by true c = inr (field_stops s x n unknown c, field_leads (record s { promises = ps }) x.outcome x.caller x.waiting x.value n c, same n ∙ c)

  knows : (f g : Node → Bool) → ((n : Node) → f n ≡ false) → ((n : Node) → g n ≡ is_field x.outcome n) → (e : Option Export) → EntryFollows s known_now f g e
  knows f g none same None = tt
  knows f g none same (Some y) = knows_node f g none same y.node

-- It is put in place without the calls that waited, where it may have gone: then its fields lead on again.
module _ (s : State) (x : Clearing) (f g : Node → Bool) (still : IsStill s x) (same : (n : Node) → g n ≡ f n) (owed : (n : Node) → is_field x.outcome n ≡ true → g n ≡ true) where
  clears_node : IsStill s x → (n : Node) → Follows s (known s x.outcome x.caller [] x.value) f g n
  clears_node (inl h) n = inl (begins s x.outcome (kept_known x.caller x.value []) (ap value_of h) n, same n)
  clears_node (inr h) n = by (is_field x.outcome n) refl
    where
      by : (b : Bool) → is_field x.outcome n ≡ b → Follows s (known s x.outcome x.caller [] x.value) f g n
      by false c = inl (other_link x.outcome x.caller [] s x.value n c, same n)
      by true c = inr (field_stops s x n (ap value_of h.0) c, field_leads s x.outcome x.caller [] x.value n c, owed n c)

  clears : (e : Option Export) → EntryFollows s (known s x.outcome x.caller [] x.value) f g e
  clears None = tt
  clears (Some y) = clears_node still y.node

-- What no place names goes: no export is of it.
not_named : (s : State) (test : Node → Bool) (e : ℕ) (x : Export) → names s test ≡ 0 → map.get s.exports e ≡ Some x → test x.node ≡ false
not_named s test e x z h = none_among test (places s) z x.node (in_exports s x.node (named named_by_export e x x.node s.exports h (inl refl)))

goes_from : (s t : State) (test : Node → Bool) (f : Node → Bool) (e : ℕ) → names s test ≡ 0 → ((n : Node) → test n ≡ false → link t n ≡ link s n) → (o : Option Export) → map.get s.exports e ≡ o → EntryFollows s t f f o
goes_from s t test f e z k None h = tt
goes_from s t test f e z k (Some x) h = inl (k x.node (not_named s test e x z h), refl)

-- What is listed now was settled.
lists_from : (s : State) (m : Map Export) (x : Settled) (f g : Node → Bool) (e : ℕ) → ((n : Node) → f n ≡ is_of x n) → ((y : Export) → map.get m e ≡ Some y → g y.node ≡ is_of x y.node) → (o : Option Export) → map.get m e ≡ o → EntryFollows s s f g o
lists_from s m x f g e h k None c = tt
lists_from s m x f g e h k (Some y) c = inl (refl, k y c ∙ sym (h y.node))

-- What of these is owed.
or_nothing : (b : Bool) → (b || false) ≡ b
or_nothing true = refl
or_nothing false = refl

owed_clearing : (e : ℕ) (x : Option Settled) (c : Clearing) (xs : List Owing) → x ≡ None → xs ≡ [] → (n : Node) → owes_by x (Some c) (in_owed e xs) n ≡ is_field c.outcome n
owed_clearing e x c xs f g n = rw (f, g) (or_nothing (is_field c.outcome n))

pub owed_settled : (e : ℕ) (y : Settled) (c : Option Clearing) (xs : List Owing) → c ≡ None → xs ≡ [] → (n : Node) → owes_by (Some y) c (in_owed e xs) n ≡ is_of y n
owed_settled e y c xs f g n = rw (f, g) (or_nothing (is_of y n))

-- ---- Acts

says_same : (s : State) (b : Bool) (v : Value) (said : ReturnBody) (ds : List Descriptor) (es : Map Export) → Says s b v said ds es → descriptors_of_body said ≡ ds
says_same s true v said ds es h = rw (h.0, h.1) refl
says_same s false (value.Exception x) said ds es h = rw (h.0, h.1) refl
says_same s false (value.Results payload caps) said ds es h = rw h.0 refl

module _ (e : ℕ) (a : Seen) (z : ℕ) where
  abbrev pub Stands : Moment → Type 0
  Stands d = Learned a z (outs e d) (exporter_by d.state (owes e d) (map.get d.state.exports e))

  abbrev pub Fine : Moment → Type 0
  Fine d = Phase d × Stands d

  abbrev pub In : State → (Node → Bool) → List Out → Map Export → Type 0
  In s f ms es = Learned a z ms (exporter_by s f (map.get es e))

  -- The same descriptors, and where nodes lead changes.
  pub now : (s t : State) (f g : Node → Bool) (o : Option Export) (ms : List Out) → EntryFollows s t f g o → Learned a z ms (exporter_by s f o) → Learned a z ms (exporter_by t g o)
  now s t f g None ms c h = h
  now s t f g (Some x) ms c h = (h.0, h.1, followed s t f g (Some x) h.0 c h.2, h.3)

  pub links_same : (s t : State) (f : Node → Bool) (o : Option Export) (ms : List Out) → SameLinks s t → Learned a z ms (exporter_by s f o) → Learned a z ms (exporter_by t f o)
  links_same s t f o ms c h = now s t f f o ms (same_links s t f o c) h

  says_out : (s : State) (f : Node → Bool) → AllStop s → (b : Bool) (v : Value) (said : ReturnBody) (ds : List Descriptor) (es : Map Export) (ms : List Out) → Says s b v said ds es → In s f ms s.exports → In s f (ms ++ gives_in e ds) es
  says_out s f w true v said ds es ms h k = rw (h.1, h.2) (subst (λ (xs : List Out). In s f xs s.exports) (sym (append-nil ms)) k)
  says_out s f w false (value.Exception x) said ds es ms h k = rw (h.1, h.2) (subst (λ (xs : List Out). In s f xs s.exports) (sym (append-nil ms)) k)
  says_out s f w false (value.Results payload caps) said ds es ms h k = go_out s f e a z w s.exports caps ds es ms h.1 k

  from_outs : (d : Moment) (ms : List Out) → outs e d ≡ ms → Stands d → In d.state (owes e d) ms d.state.exports
  from_outs d ms h k = subst (λ (xs : List Out). In d.state (owes e d) xs d.state.exports) h k

  all_quiet : (xs : List (ℕ × ℕ)) → outs_in e (release_messages xs) ≡ []
  all_quiet [] = refl
  all_quiet (x ∷ xs) = all_quiet xs

  still_leads : (d : Moment) (t : State) → SameLinks d.state t → ((n : Node) → of_settled d.settled n ≡ true → IsSome (link d.state n)) → (n : Node) → of_settled d.settled n ≡ true → IsSome (link t n)
  still_leads d t l h n b = subst (λ (o : Option Node). IsSome o) (sym (l n)) (h n b)

  -- What is owed where nothing is being cleared or was settled.
  as_plain : (s : State) (es : Map Export) (ms : List Out) (x : Option Settled) (c : Option Clearing) (xs ys : List Owing) → x ≡ None → c ≡ None → xs ≡ ys → In s (owes_by x c (in_owed e xs)) ms es → In s (owes_by None None (in_owed e ys)) ms es
  as_plain s es ms x c xs ys f g h k =
      subst (λ (l : List Owing). In s (owes_by None None (in_owed e l)) ms es) h
      (subst (λ (o : Option Clearing). In s (owes_by None o (in_owed e xs)) ms es) g
      (subst (λ (o : Option Settled). In s (owes_by o c (in_owed e xs)) ms es) f k))

  as_was : (s : State) (es : Map Export) (ms : List Out) (x : Option Settled) (c : Option Clearing) (xs : List Owing) → x ≡ None → c ≡ None → In s (owes_by None None (in_owed e xs)) ms es → In s (owes_by x c (in_owed e xs)) ms es
  as_was s es ms x c xs f g k =
      subst (λ (o : Option Settled). In s (owes_by o c (in_owed e xs)) ms es) (sym f)
      (subst (λ (o : Option Clearing). In s (owes_by None o (in_owed e xs)) ms es) (sym g) k)

  pub acted : (d new : Moment) → AllStop d.state → Fine d → Act d new → Fine new
  acted d new w i (act.Delivers c n rest o f g h) = rw h (inl (routing d i.0 f), i.1)
  acted d new w i (act.Waits c n rest p calls f g j h) =
      let r = routing d i.0 f in
      let t : State = record (d.state) { promises = map.insert d.state.promises p (promise.Open (calls ++ c ∷ [])) } in
      let l : SameLinks d.state t = opens d.state p (calls ++ c ∷ []) (ap promise_link j) in
      rw h (inl (r.0, r.1, r.2, r.3, still_leads d t l r.4), links_same d.state t (owes e d) (map.get d.state.exports e) (outs e d) l i.1)
  acted d new w i (act.Holds c n rest o path x f g j h) =
      let r = routing d i.0 f in
      let y : KeptOutcome = record x { waiting = x.waiting ++ record { path = path; call = c } ∷ [] } in
      let t : State = record (d.state) { outcomes = map.insert d.state.outcomes o y } in
      let l : SameLinks d.state t = begins d.state o y (ap value_of j) in
      rw h (inl (r.0, r.1, r.2, r.3, still_leads d t l r.4), links_same d.state t (owes e d) (map.get d.state.exports e) (outs e d) l i.1)
  acted d new w i (act.Breaks c n rest reason f g h) = rw h (inl (routing d i.0 f), i.1)
  acted d new w i (act.Relays c n rest q t ds es f g j k h) =
      let r = routing d i.0 f in
      let m = first.asking q t c.request ds in
      let before : outs e d ≡ outs_in e d.effects.sends = unsaid e d.effects.sends d.saying r.0 in
      let after : outs_in e (d.effects.sends ++ wire.Plain m ∷ []) ++ said_in e d.saying ≡ outs_in e d.effects.sends ++ gives_in e ds = unsaid e (d.effects.sends ++ wire.Plain m ∷ []) d.saying r.0 ∙ one_more_sent e d.effects.sends m in
      let out = go_out d.state (owes e d) e a z w d.state.exports c.request.caps ds es (outs_in e d.effects.sends) k (from_outs d (outs_in e d.effects.sends) before i.1) in
      rw h (inl r, subst (λ (xs : List Out). In d.state (owes e d) xs es) (sym after) out)
  acted d new w i (act.NextArisen o v rest f g h) = rw h (inr (inr (ap (λ (m : Moment). m.yet) f, ap (λ (m : Moment). m.owed) f, ap (λ (m : Moment). m.settled) f)), i.1)
  acted d new w i (act.Knows o v fit x ps f g j k h) =
      let y = ap (λ (m : Moment). m.yet) f in
      let l = ap (λ (m : Moment). m.owed) f in
      let q = ap (λ (m : Moment). m.settled) f in
      let c : Clearing = record { outcome = o; caller = x.caller; value = fit; waiting = x.waiting } in
      let t : State = record (d.state) { promises = ps; outcomes = map.insert d.state.outcomes o (kept_known x.caller fit x.waiting) } in
      let none = none_owed e d.settled d.clearing d.owed q (ap (λ (m : Moment). m.clearing) f) l in
      let some = owed_clearing e d.settled c d.owed q l in
      rw h (inr (inr (y, l, q)), now d.state t (owes e d) (owes_by d.settled (Some c) (in_owed e d.owed)) (map.get d.state.exports e) (outs e d) (knows d.state c v ps (ap value_of g ∙ j) k (owes e d) (owes_by d.settled (Some c) (in_owed e d.owed)) none some (map.get d.state.exports e)) i.1)
  acted d new w i (act.Reports c v from f g h) = rw h (inr (inr (telling d i.0 f)), i.1)
  acted d new w i (act.TellsNobody c v f g h) = rw h (inr (inr (telling d i.0 f)), i.1)
  acted d new w i (act.MakesReturn q v x b ds es f g j k h) =
      let out = says_out d.state (owes e d) w x.finished v b ds es (outs_in e d.effects.sends) k (from_outs d (outs_in e d.effects.sends) (unsaid e d.effects.sends d.saying g) i.1) in
      rw h (inr (inr (telling d i.0 f)), subst (λ (xs : List Descriptor). In d.state (owes e d) (outs_in e d.effects.sends ++ gives_in e xs) es) (sym (says_same d.state x.finished v b ds es k)) out)
  acted d new w i (act.SendsReturn x y f g j h) =
      let m = plain.Return (record { answer = x.answer; release_param_caps = flag_for d.state (numbers y.taken); body = x.body }) in
      let ms = outs_in e d.effects.sends in
      let before : outs e d ≡ ms ++ gives_in e (descriptors_of_body x.body) = ap (λ (o : Option Saying). ms ++ said_in e o) f in
      let after : outs_in e (d.effects.sends ++ wire.Plain m ∷ []) ++ [] ≡ ms ++ gives_in e (descriptors_of_body x.body) = append-nil (outs_in e (d.effects.sends ++ wire.Plain m ∷ [])) ∙ one_more_sent e d.effects.sends m in
      rw h (inr (inr (saying d x i.0 f)), from_outs d (outs_in e (d.effects.sends ++ wire.Plain m ∷ []) ++ []) (before ∙ sym after) i.1)
  acted d new w i (act.Clears x f j h) =
      let l = ap (λ (m : Moment). m.owed) f in
      let was : (n : Node) → owes e d n ≡ is_field x.outcome n = λ n. ap (λ (c : Option Clearing). owes_by d.settled c (in_owed e d.owed) n) (ap (λ (m : Moment). m.clearing) f) ∙ owed_clearing e d.settled x d.owed (ap (λ (m : Moment). m.settled) f) l n in
      let next = owes_by (Some (TheOutcome x.outcome)) None (in_owed e d.owed) in
      let is : (n : Node) → next n ≡ is_field x.outcome n = owed_settled e (TheOutcome x.outcome) None d.owed refl l in
      rw h (
        inl (ap (λ (m : Moment). m.saying) f, ap (λ (m : Moment). m.swept) f, ap (λ (m : Moment). m.telling) f, l, field_leads d.state x.outcome x.caller [] x.value),
        now d.state (known d.state x.outcome x.caller [] x.value) (owes e d) next (map.get d.state.exports e) (outs e d) (clears d.state x (owes e d) next j (λ n. is n ∙ sym (was n)) (λ n b. is n ∙ b) (map.get d.state.exports e)) i.1,
      )
  acted d new w i (act.Lists x f h) =
      let c = ap (λ (m : Moment). m.clearing) f in
      let es = d.state.exports in
      let led = settled_leads d x i.0 (ap (λ (m : Moment). m.settled) f) in
      let xs = owing (why_of x) (exports_where (is_of x) (map.entries es)) in
      let was : (n : Node) → owes e d n ≡ is_of x n = λ n. ap (λ (o : Option Settled). owes_by o d.clearing (in_owed e d.owed) n) (ap (λ (m : Moment). m.settled) f) ∙ owed_settled e x d.clearing d.owed c (ap (λ (m : Moment). m.owed) f) n in
      let is : (y : Export) → map.get es e ≡ Some y → owes_by None d.clearing (in_owed e xs) y.node ≡ is_of x y.node = λ y g. ap (λ (o : Option Clearing). owes_by None o (in_owed e xs) y.node) c ∙ listed_where d.state es (is_of x) (why_of x) led e y g in
      rw h (
        inr (inl (ap (λ (m : Moment). m.saying) f, ap (λ (m : Moment). m.swept) f, ap (λ (m : Moment). m.telling) f, ap (λ (m : Moment). m.yet) f, refl, c, listed d.state es (is_of x) (why_of x) led (map.entries es) (map.entries_sorted es) (λ j y g. map.get-entries es j ∙ g))),
        now d.state d.state (owes e d) (owes_by None d.clearing (in_owed e xs)) (map.get es e) (outs e d) (lists_from d.state es x (owes e d) (owes_by None d.clearing (in_owed e xs)) e was is (map.get es e) refl) i.1,
      )
  acted d new w i (act.SendsResolve x rest k es f j g h) =
      let r = resolving d i.0 f in
      let l = subst (λ (xs : List Owing). AreListed d.state d.state.exports xs) f r.6 in
      let n = settle d.state (settle d.state x.node) in
      let m = resolve_message x.export (resolved.Cap k) in
      let ms = outs_in e d.effects.sends in
      let had = as_plain d.state d.state.exports ms d.settled d.clearing d.owed (x ∷ rest) r.4 r.5 f (from_outs d ms (unsaid e d.effects.sends d.saying r.0) i.1) in
      let say = one_told e a z d.state d.state.exports x rest ms l.0 l.1 had in
      let gave = goes_out d.state (owes_by None None (in_owed e rest)) e a z d.state.exports n k es (ms ++ only (nat_eq e x.export) export.Resolve) (ends d.state w (settle d.state x.node)) g say in
      let after : outs_in e (d.effects.sends ++ wire.Plain m ∷ []) ++ said_in e d.saying ≡ (ms ++ only (nat_eq e x.export) export.Resolve) ++ gives_in e (k ∷ []) =
      unsaid e (d.effects.sends ++ wire.Plain m ∷ []) d.saying r.0 ∙ one_more_sent e d.effects.sends m ∙ sym (append_assoc ms (only (nat_eq e x.export) export.Resolve) (gives_in e (k ∷ []))) in
      rw h (
        inr (inl (r.0, r.1, r.2, r.3, r.4, r.5, still_listed d.state d.state.exports es n k rest g l.2)),
        subst (λ (xs : List Out). In d.state (owes_by d.settled d.clearing (in_owed e rest)) xs es) (sym after) (as_was d.state es ((ms ++ only (nat_eq e x.export) export.Resolve) ++ gives_in e (k ∷ [])) d.settled d.clearing rest r.4 r.5 gave),
      )
  acted d new w i (act.SendsBroken x rest reason f j h) =
      let r = resolving d i.0 f in
      let l = subst (λ (xs : List Owing). AreListed d.state d.state.exports xs) f r.6 in
      let m = resolve_message x.export (resolved.Exception (or_failed x.why reason)) in
      let ms = outs_in e d.effects.sends in
      let told = ms ++ only (nat_eq e x.export) export.Resolve in
      let had = as_plain d.state d.state.exports ms d.settled d.clearing d.owed (x ∷ rest) r.4 r.5 f (from_outs d ms (unsaid e d.effects.sends d.saying r.0) i.1) in
      let say = one_told e a z d.state d.state.exports x rest ms l.0 l.1 had in
      let after : outs_in e (d.effects.sends ++ wire.Plain m ∷ []) ++ said_in e d.saying ≡ told =
      unsaid e (d.effects.sends ++ wire.Plain m ∷ []) d.saying r.0 ∙ one_more_sent e d.effects.sends m ∙ ap (λ (ys : List Out). ms ++ ys) (append-nil (only (nat_eq e x.export) export.Resolve)) in
      rw h (
        inr (inl (r.0, r.1, r.2, r.3, r.4, r.5, l.2)),
        subst (λ (xs : List Out). In d.state (owes_by d.settled d.clearing (in_owed e rest)) xs d.state.exports) (sym after) (as_was d.state d.state.exports told d.settled d.clearing rest r.4 r.5 say),
      )
  acted d new w i (act.PromiseGoes p to c f g h) =
      let o = map.get d.state.exports e in
      let t : State = record (d.state) { promises = map.remove d.state.promises p } in
      rw h (inr (inr (collecting d i.0 c)), now d.state t (owes e d) (owes e d) o (outs e d) (goes_from d.state t (is_promise p) (owes e d) e g (promise_gone d.state p) o refl) i.1)
  acted d new w i (act.OutcomeGoes k x v c f g j l m h) =
      let o = map.get d.state.exports e in
      let t : State = record (d.state) { outcomes = map.remove d.state.outcomes k } in
      rw h (inr (inr (collecting d i.0 c)), now d.state t (owes e d) (owes e d) o (outs e d) (goes_from d.state t (is_field k) (owes e d) e m (outcome_gone d.state k) o refl) i.1)
  acted d new w i (act.ImportGoes k x c f g h) = rw h (inr (inr (collecting d i.0 c)), i.1)
  acted d new w i (act.Sweeps over f g j h) = rw h (inr (inr (ap (λ (m : Moment). m.yet) f, ap (λ (m : Moment). m.owed) f, ap (λ (m : Moment). m.settled) f)), i.1)
  acted d new w i (act.SendsFinish q x rest f g j k l h) =
      let m = plain.Finish (record { question = record { 0 = q }; release_result_caps = flag_for d.state (got_of x.returned) }) in
      rw h (i.0, from_outs d (outs_in e (d.effects.sends ++ wire.Plain m ∷ []) ++ said_in e d.saying) (sym (quiet_sent e d.effects.sends (wire.Plain m ∷ []) d.saying refl)) i.1)
  acted d new w i (act.Closes q x rest f g j k l h) = rw h (i.0, i.1)
  acted d new w i (act.Releases c f g h) =
      let ms = release_messages (map.entries d.released) in
      rw h (i.0, from_outs d (outs_in e (d.effects.sends ++ ms) ++ said_in e d.saying) (sym (quiet_sent e d.effects.sends ms d.saying (all_quiet (map.entries d.released)))) i.1)
