-- Of which exports a Resolve is owed at a moment of a step, and what stands while it is.
use Rattle.std.proofs.Common.{◌≡◌, ◌⊎◌, inl, inr, ℕ, ◌+◌, Bool, true, false, cond, ◌||◌, nat_eq, IsSome, List, [], ◌∷◌, ◌++◌, Option, None, Some, refl, sym, ap, subst, ◌∙◌, append_assoc, append-nil, arith, T}
use Rattle.std.specs.Ordering.{nat_cmp, eq_by_cmp}
use Rattle.std.specs.FinMap as map
use Rattle.std.specs.FinMap.Entries as entries
use Rattle.finite_maps.specs.Tally.{Map}
use Rattle.finite_maps.proofs.Tested.{ties, equal, itself, get_put}
use Rattle.finite_maps.proofs.Sorted.{behind, first_entry, later_entry, sorted_tail}
use Rattle.rpc_msg.specs.declared.parts.Descriptor.{Descriptor}
use Rattle.rpc_msg.specs.declared.exception.Exception.{Exception}
use Rattle.rpc_msg.specs.declared.message.PlainMessage.{PlainMessage}
use Rattle.rpc_msg.specs.declared.message.Message.{Message}
use Rattle.rpc_msg.specs.declared.message.Message.TheVariants as message
use Rattle.rpc_msg.specs.Messages.{descriptors_of_plain, descriptors_of_body}
use Rattle.rpc_machine.specs.declared.node.Node.{Node}
use Rattle.rpc_machine.specs.declared.node.Node.TheVariants as node
use Rattle.rpc_machine.specs.declared.entries.Export.{Export}
use Rattle.rpc_machine.specs.State.{State}
use Rattle.rpc_machine.specs.Nodes.{link, is_object, is_field}
use Rattle.rpc_machine.specs.Settling.{exports_where}
use Rattle.laws_acts.specs.Moments.{Saying, Clearing, Settled, Owing, Moment, is_of, owing, is_collecting}
use Rattle.laws_acts.specs.GoingOut.{GoesOut, Again, AsNew, AsOther}
use Rattle.laws_runs.specs.Exports as export
use Rattle.laws_runs.specs.Exports.{Exporter, Out, Seen, Learns, LearnsAll, Fits, gives, count}
use Rattle.laws_runs.specs.Views.{only}
use Rattle.laws_runs.proofs.ExportsHold.{gives-append, learns-append}
use Rattle.laws_messages.specs.Views.{gives_in, resolves_in}
use Rattle.laws_messages.specs.ExportViews.{stage_by, exporter_by, outs_in}
use Rattle.laws_messages.proofs.Fitting.{Learned}

-- ---- What is owed

abbrev pub in_owed : ℕ → List Owing → Bool
in_owed e [] = false
in_owed e (x ∷ xs) = nat_eq e x.export || in_owed e xs

abbrev pub of_settled : Option Settled → Node → Bool
of_settled None n = false
of_settled (Some x) n = is_of x n

abbrev pub of_clearing : Option Clearing → Node → Bool
of_clearing None n = false
of_clearing (Some x) n = is_field x.outcome n

-- Of the export with that id, by its node.
abbrev pub owes_by : Option Settled → Option Clearing → Bool → Node → Bool
owes_by x c b n = of_settled x n || (of_clearing c n || b)

abbrev pub owes : ℕ → Moment → Node → Bool
owes e d n = owes_by d.settled d.clearing (in_owed e d.owed) n

pub none_owed : (e : ℕ) (x : Option Settled) (c : Option Clearing) (xs : List Owing) → x ≡ None → c ≡ None → xs ≡ [] → (n : Node) → owes_by x c (in_owed e xs) n ≡ false
none_owed e x c xs f g h n = rw (f, g, h) refl

-- ---- Exports that are listed

-- The export is there, and its node leads on.
abbrev pub LeadsOn : State → Map Export → ℕ → Type 0
LeadsOn s es i = (y : Export) × (map.get es i ≡ Some y) × IsSome (link s y.node)

abbrev pub AreListed : State → Map Export → List Owing → Type 0
AreListed s es [] = Unit {0}
AreListed s es (x ∷ xs) = LeadsOn s es x.export × (in_owed x.export xs ≡ false) × AreListed s es xs

not_behind : {X : Type 0} (e : ℕ) (xs : List (ℕ × X)) → T (entries.below_all nat_cmp e xs) → entries.find nat_cmp e xs ≡ None
not_behind {X} e xs b = by (entries.find nat_cmp e xs) refl
  where
    by : (o : Option X) → entries.find nat_cmp e xs ≡ o → o ≡ None
    by None g = refl
    by (Some y) g = absurd (let bad : true ≡ false = sym (ties e e ∙ itself e) ∙ behind e xs e y b g in cc)

abbrev found : (Node → Bool) → Option Export → Bool
found test None = false
found test (Some y) = test y.node

module _ (s : State) (m : Map Export) (test : Node → Bool) (why : Option Exception) (led : (n : Node) → test n ≡ true → IsSome (link s n)) where
  listed_if : (e : ℕ) (es : List (ℕ × Export)) → T (entries.is_sorted nat_cmp es) → in_owed e (owing why (exports_where test es)) ≡ found test (entries.find nat_cmp e es)
  listed_if e [] o = refl
  listed_if e (x ∷ xs) o = let k = sorted_tail x.0 xs o in by k.0 (listed_if e xs k.1) (test x.1.node) refl (eq_by_cmp nat_cmp e x.0) refl
    where
      by : T (entries.below_all nat_cmp x.0 xs) → in_owed e (owing why (exports_where test xs)) ≡ found test (entries.find nat_cmp e xs) → (t : Bool) → test x.1.node ≡ t → (c : Bool) → eq_by_cmp nat_cmp e x.0 ≡ c
          → in_owed e (owing why (cond t ((x.0, x.1.node) ∷ exports_where test xs) (exports_where test xs))) ≡ found test (cond c (Some x.1) (entries.find nat_cmp e xs))
      by b r true f true g = ap (λ (w : Bool). w || in_owed e (owing why (exports_where test xs))) (sym (ties e x.0) ∙ g) ∙ sym f
      by b r true f false g = ap (λ (w : Bool). w || in_owed e (owing why (exports_where test xs))) (sym (ties e x.0) ∙ g) ∙ r
      by b r false f true g = r ∙ ap (found test) (subst (λ (i : ℕ). entries.find nat_cmp i xs ≡ None) (sym (equal e x.0 (sym (ties e x.0) ∙ g))) (not_behind x.0 xs b)) ∙ sym f
      by b r false f false g = r

  pub listed : (es : List (ℕ × Export)) → T (entries.is_sorted nat_cmp es) → ((i : ℕ) (y : Export) → entries.find nat_cmp i es ≡ Some y → map.get m i ≡ Some y) → AreListed s m (owing why (exports_where test es))
  listed [] o f = tt
  listed (x ∷ xs) o f =
      let k = sorted_tail x.0 xs o in
      by k.0 k.1 (listed xs k.1 (λ i y g. f i y (later_entry x xs i (behind x.0 xs i y k.0 g) ∙ g))) (test x.1.node) refl
    where
      by : T (entries.below_all nat_cmp x.0 xs) → T (entries.is_sorted nat_cmp xs) → AreListed s m (owing why (exports_where test xs)) → (t : Bool) → test x.1.node ≡ t → AreListed s m (owing why (cond t ((x.0, x.1.node) ∷ exports_where test xs) (exports_where test xs)))
      by b o r true g = ((x.1, f x.0 x.1 (first_entry x xs), led x.1.node g), listed_if x.0 xs o ∙ ap (found test) (not_behind x.0 xs b), r)
      by b o r false g = r

  -- Just those exports are listed.
  pub listed_where : (e : ℕ) (y : Export) → map.get m e ≡ Some y → in_owed e (owing why (exports_where test (map.entries m))) ≡ test y.node
  listed_where e y f = listed_if e (map.entries m) (map.entries_sorted m) ∙ ap (found test) (sym (map.get-entries m e) ∙ f)

-- One more goes out: each keeps its node.
leads_still : (s : State) (es new : Map Export) (n : Node) (d : Descriptor) (i : ℕ) → GoesOut es n d new → LeadsOn s es i → LeadsOn s new i
leads_still s es new n d i (AsOther w g h) k = rw h k
leads_still s es new n d i (Again j x w g there f h) k = let y = k.0 in let at = k.1 in let on = k.2 in rw h (by y at on (nat_eq i j) refl)
  where
    z : Export
    z = record { node = n; count = x.count + 1 }

    by : (y : Export) → map.get es i ≡ Some y → IsSome (link s y.node) → (b : Bool) → nat_eq i j ≡ b → LeadsOn s (map.insert es j z) i
    by y at on false c = (y, get_put es j z i ∙ ap (λ b. cond b (Some z) (map.get es i)) c ∙ at, on)
    by y at on true c =
        let both : Some y ≡ Some x = sym at ∙ ap (map.get es) (equal i j c) ∙ there in
        let same : y ≡ x = cc in
        (z, get_put es j z i ∙ ap (λ b. cond b (Some z) (map.get es i)) c, subst (λ (m : Node). IsSome (link s m)) (ap (λ (u : Export). u.node) same ∙ f) on)
leads_still s es new n d i (AsNew j w g free others h) k = let y = k.0 in let at = k.1 in let on = k.2 in rw h (by y at on (nat_eq i j) refl)
  where
    z : Export
    z = record { node = n; count = 1 }

    by : (y : Export) → map.get es i ≡ Some y → IsSome (link s y.node) → (b : Bool) → nat_eq i j ≡ b → LeadsOn s (map.insert es j z) i
    by y at on false c = (y, get_put es j z i ∙ ap (λ b. cond b (Some z) (map.get es i)) c ∙ at, on)
    by y at on true c = absurd (let bad : Some y ≡ None = sym at ∙ ap (map.get es) (equal i j c) ∙ free in cc)

pub still_listed : (s : State) (es new : Map Export) (n : Node) (d : Descriptor) (xs : List Owing) → GoesOut es n d new → AreListed s es xs → AreListed s new xs
still_listed s es new n d [] g h = tt
still_listed s es new n d (x ∷ xs) g h = (leads_still s es new n d x.export g h.0, h.1, still_listed s es new n d xs g h.2)

-- ---- A Resolve is sent

tells_it : (n : ℕ) (b : Seen) (to : Option Node) → IsSome to → Fits b (export.Has n (stage_by false true to)) → (c : Seen) × Learns b export.Resolve c × Fits c (export.Has n (stage_by false false to))
tells_it n b None i h = absurd (let bad : false ≡ true = i in cc)
tells_it n b (Some to) i (export.Free x) = (export.Unknown, export.Late, export.Free (export.Has n export.HasTold))
tells_it n b (Some to) i (export.Owing k) = (export.Over, export.Last, export.Done n)

no_object : (s : State) (n : Node) → IsSome (link s n) → is_object n ≡ false
no_object s (node.Object o) h = absurd (let bad : false ≡ true = h in cc)
no_object s (node.Promise p) h = refl
no_object s (node.Field o path) h = refl
no_object s (node.Import e) h = refl
no_object s (node.Pipe q path) h = refl
no_object s (node.Broken reason) h = refl

module _ (e : ℕ) (a : Seen) (z : ℕ) where
  -- It is owed no longer.
  pub one_told : (s : State) (es : Map Export) (x : Owing) (rest : List Owing) (ms : List Out) → LeadsOn s es x.export → in_owed x.export rest ≡ false → Learned a z ms (exporter_by s (owes_by None None (in_owed e (x ∷ rest))) (map.get es e))
      → Learned a z (ms ++ only (nat_eq e x.export) export.Resolve) (exporter_by s (owes_by None None (in_owed e rest)) (map.get es e))
  one_told s es x rest ms l f h = by (nat_eq e x.export) refl h
    where
      by : (b : Bool) → nat_eq e x.export ≡ b → Learned a z ms (exporter_by s (owes_by None None (b || in_owed e rest)) (map.get es e)) → Learned a z (ms ++ only b export.Resolve) (exporter_by s (owes_by None None (in_owed e rest)) (map.get es e))
      by false c k = subst (λ (xs : List Out). Learned a z xs (exporter_by s (owes_by None None (in_owed e rest)) (map.get es e))) (sym (append-nil ms)) k
      by true c k =
          let y : Export = l.0 in
          let j : e ≡ x.export = equal e x.export c in
          let at : map.get es e ≡ Some y = ap (map.get es) j ∙ l.1 in
          let done : in_owed e rest ≡ false = ap (λ (i : ℕ). in_owed i rest) j ∙ f in
          let plain = no_object s y.node l.2 in
          let b : Seen = k.0 in
          let had = subst (λ (o : Bool). Fits b (export.Has y.count (stage_by o true (link s y.node)))) plain (subst (λ (o : Option Export). Fits b (exporter_by s (owes_by None None true) o)) at k.2) in
          let t = tells_it y.count b (link s y.node) l.2 had in
          let q = gives-append ms (export.Resolve ∷ []) in
          let r = subst (λ (o : Option Export). count (exporter_by s (owes_by None None true) o) ≡ z + gives ms) at k.3 in
          subst (λ (w : Bool). Learned a z (ms ++ export.Resolve ∷ []) (exporter_by s (owes_by None None w) (map.get es e))) (sym done)
          (subst (λ (o : Option Export). Learned a z (ms ++ export.Resolve ∷ []) (exporter_by s (owes_by None None false) o)) (sym at)
          (t.0, learns-append a ms b export.Resolve t.0 k.1 t.1, subst (λ (o : Bool). Fits t.0 (export.Has y.count (stage_by o false (link s y.node)))) (sym plain) t.2, omega (arith, q, r)))

-- ---- What is sent

pub outs_in-append : (e : ℕ) (xs ys : List Message) → outs_in e (xs ++ ys) ≡ outs_in e xs ++ outs_in e ys
outs_in-append e [] ys = refl
outs_in-append e (message.Plain m ∷ xs) ys =
    let a = resolves_in e m in
    let b = gives_in e (descriptors_of_plain m) in
    ap (λ (l : List Out). a ++ (b ++ l)) (outs_in-append e xs ys) ∙ sym (append_assoc a (b ++ outs_in e xs) (outs_in e ys) ∙ ap (λ (l : List Out). a ++ l) (append_assoc b (outs_in e xs) (outs_in e ys)))
outs_in-append e (message.Unimplemented m ∷ xs) ys = outs_in-append e xs ys

-- A Return that is being made is as good as sent.
abbrev pub said_in : ℕ → Option Saying → List Out
said_in e None = []
said_in e (Some x) = gives_in e (descriptors_of_body x.body)

abbrev pub outs : ℕ → Moment → List Out
outs e d = outs_in e d.effects.sends ++ said_in e d.saying

pub unsaid : (e : ℕ) (ms : List Message) (o : Option Saying) → o ≡ None → outs_in e ms ++ said_in e o ≡ outs_in e ms
unsaid e ms o h = ap (λ (x : Option Saying). outs_in e ms ++ said_in e x) h ∙ append-nil (outs_in e ms)

pub one_more_sent : (e : ℕ) (ms : List Message) (m : PlainMessage) → outs_in e (ms ++ message.Plain m ∷ []) ≡ outs_in e ms ++ (resolves_in e m ++ gives_in e (descriptors_of_plain m))
one_more_sent e ms m = outs_in-append e ms (message.Plain m ∷ []) ∙ ap (λ (l : List Out). outs_in e ms ++ (resolves_in e m ++ l)) (append-nil (gives_in e (descriptors_of_plain m)))

pub quiet_sent : (e : ℕ) (ms xs : List Message) (o : Option Saying) → outs_in e xs ≡ [] → outs_in e (ms ++ xs) ++ said_in e o ≡ outs_in e ms ++ said_in e o
quiet_sent e ms xs o h = ap (λ (l : List Out). l ++ said_in e o) (outs_in-append e ms xs ∙ ap (λ (l : List Out). outs_in e ms ++ l) h ∙ append-nil (outs_in e ms))

-- ---- How far the step is

-- Calls are routed, with what was settled; Resolves are sent; or neither.
abbrev pub Routes : Moment → Type 0
Routes d = (d.saying ≡ None) × (d.swept ≡ false) × (d.telling ≡ []) × (d.owed ≡ []) × ((n : Node) → of_settled d.settled n ≡ true → IsSome (link d.state n))

abbrev pub Resolves : Moment → Type 0
Resolves d = (d.saying ≡ None) × (d.swept ≡ false) × (d.telling ≡ []) × (d.yet ≡ []) × (d.settled ≡ None) × (d.clearing ≡ None) × AreListed d.state d.state.exports d.owed

abbrev pub Rests : Moment → Type 0
Rests d = (d.yet ≡ []) × (d.owed ≡ []) × (d.settled ≡ None)

abbrev pub Phase : Moment → Type 0
Phase d = Routes d ⊎ (Resolves d ⊎ Rests d)

filled : {X : Type 0} {x : X} {xs ys : List X} {A : Type 0} → ys ≡ x ∷ xs → ys ≡ [] → A
filled {x = x} {xs = xs} e f = absurd (let bad : x ∷ xs ≡ [] = sym e ∙ f in cc)

pub routing : (d : Moment) {x : _} {xs : List _} → Phase d → d.yet ≡ x ∷ xs → Routes d
routing d (inl h) e = h
routing d (inr (inl h)) e = filled e h.3
routing d (inr (inr h)) e = filled e h.0

pub telling : (d : Moment) {x : _} {xs : List _} → Phase d → d.telling ≡ x ∷ xs → Rests d
telling d (inl h) e = filled e h.2
telling d (inr (inl h)) e = filled e h.2
telling d (inr (inr h)) e = h

pub resolving : (d : Moment) {x : Owing} {xs : List Owing} → Phase d → d.owed ≡ x ∷ xs → Resolves d
resolving d (inl h) e = filled e h.3
resolving d (inr (inl h)) e = h
resolving d (inr (inr h)) e = filled e h.1

pub saying : (d : Moment) (x : Saying) → Phase d → d.saying ≡ Some x → Rests d
saying d x (inl h) e = absurd (let bad : Some x ≡ None = sym e ∙ h.0 in cc)
saying d x (inr (inl h)) e = absurd (let bad : Some x ≡ None = sym e ∙ h.0 in cc)
saying d x (inr (inr h)) e = h

not_collecting : (d : Moment) → d.saying ≡ None → d.swept ≡ false → is_collecting d ≡ false
not_collecting d f g = rw (f, g) refl

pub collecting : (d : Moment) → Phase d → is_collecting d ≡ true → Rests d
collecting d (inl h) e = absurd (let bad : true ≡ false = sym e ∙ not_collecting d h.0 h.1 in cc)
collecting d (inr (inl h)) e = absurd (let bad : true ≡ false = sym e ∙ not_collecting d h.0 h.1 in cc)
collecting d (inr (inr h)) e = h

-- What was settled leads on.
pub settled_leads : (d : Moment) (x : Settled) → Phase d → d.settled ≡ Some x → (n : Node) → is_of x n ≡ true → IsSome (link d.state n)
settled_leads d x (inl h) e = λ n f. h.4 n (ap (λ (o : Option Settled). of_settled o n) e ∙ f)
settled_leads d x (inr (inl h)) e = absurd (let bad : Some x ≡ None = sym e ∙ h.4 in cc)
settled_leads d x (inr (inr h)) e = absurd (let bad : Some x ≡ None = sym e ∙ h.2 in cc)
