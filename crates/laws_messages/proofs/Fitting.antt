-- What is known of an export, and its exporter, once descriptors go out or its node settles.
use Rattle.std.proofs.Common.{◌≡◌, ◌⊎◌, inl, inr, ℕ, ◌+◌, Bool, true, false, cond, nat_eq, IsSome, List, [], ◌∷◌, ◌++◌, Option, None, Some, refl, sym, ap, subst, ◌∙◌, append_assoc, append-nil, arith}
use Rattle.std.specs.FinMap as map
use Rattle.finite_maps.specs.Tally.{Map}
use Rattle.finite_maps.proofs.Tested.{equal, get_put}
use Rattle.rpc_msg.specs.declared.parts.Descriptor.{Descriptor}
use Rattle.rpc_msg.specs.declared.parts.Descriptor.TheVariants as descriptor
use Rattle.rpc_machine.specs.declared.node.Node.{Node}
use Rattle.rpc_machine.specs.declared.node.Node.TheVariants as node
use Rattle.rpc_machine.specs.declared.entries.Export.{Export}
use Rattle.rpc_machine.specs.State.{State}
use Rattle.rpc_machine.specs.Nodes.{link, settle, is_object}
use Rattle.rpc_machine.specs.Limits.{export_count}
use Rattle.laws_acts.specs.GoingOut.{is_own, said, GoesOut, Again, AsNew, AsOther, GoOut}
use Rattle.laws_nodes.specs.Settling.{AllStop, SameLinks}
use Rattle.laws_nodes.proofs.Stopping.{ends}
use Rattle.laws_runs.specs.Exports as export
use Rattle.laws_runs.specs.Exports.{Kind, Stage, Exporter, Out, Seen, Learns, LearnsAll, Fits, gives, count}
use Rattle.laws_runs.specs.Views.{only}
use Rattle.laws_runs.proofs.ExportsHold.{gives-append, learns-append}
use Rattle.laws_messages.specs.Views.{gives_in}
use Rattle.laws_messages.specs.Kinds.{kind_given, IsOf, one_more}
use Rattle.laws_messages.specs.ExportViews.{stage_by, exporter_by}

-- ---- An entry whose node stays, or settles

-- The node has the link that it had, and as much is owed of it; or it leads on now, and a Resolve of it is owed.
abbrev pub Follows : State → State → (Node → Bool) → (Node → Bool) → Node → Type 0
Follows s t f g n = ((link t n ≡ link s n) × (g n ≡ f n)) ⊎ ((link s n ≡ None) × IsSome (link t n) × (g n ≡ true))

abbrev pub EntryFollows : State → State → (Node → Bool) → (Node → Bool) → Option Export → Type 0
EntryFollows s t f g None = Unit {0}
EntryFollows s t f g (Some x) = Follows s t f g x.node

owes_now : (n : ℕ) (b : Seen) → Fits b (export.Has n export.IsOpen) → Fits b (export.Has n export.Owes)
owes_now n b (export.Free x) = export.Free (export.Has n export.Owes)
owes_now n b (export.Open k) = export.Owing n

settled : (n : ℕ) (b : Seen) (object w v : Bool) (to : Option Node) → IsSome to → v ≡ true → Fits b (export.Has n (stage_by object w None)) → Fits b (export.Has n (stage_by object v to))
settled n b true w v to i e h = h
settled n b false w v None i e h = absurd (let bad : false ≡ true = i in cc)
settled n b false w v (Some to) i e h = subst (λ (u : Bool). Fits b (export.Has n (stage_by false u (Some to)))) (sym e) (owes_now n b h)

pub followed : (s t : State) (f g : Node → Bool) (o : Option Export) (b : Seen) → EntryFollows s t f g o → Fits b (exporter_by s f o) → Fits b (exporter_by t g o)
followed s t f g None b c h = h
followed s t f g (Some x) b (inl c) h =
    subst (λ (w : Bool). Fits b (export.Has x.count (stage_by (is_object x.node) w (link t x.node)))) (sym c.1)
    (subst (λ (l : Option Node). Fits b (export.Has x.count (stage_by (is_object x.node) (f x.node) l))) (sym c.0) h)
followed s t f g (Some x) b (inr c) h =
    settled x.count b (is_object x.node) (f x.node) (g x.node) (link t x.node) c.1 c.2 (subst (λ (l : Option Node). Fits b (export.Has x.count (stage_by (is_object x.node) (f x.node) l))) c.0 h)

pub same_links : (s t : State) (f : Node → Bool) (o : Option Export) → SameLinks s t → EntryFollows s t f f o
same_links s t f None h = tt
same_links s t f (Some x) h = inl (h x.node, refl)

-- The counts are those of the entries.
pub count_of : (s : State) (f : Node → Bool) (o : Option Export) → count (exporter_by s f o) ≡ export_count o
count_of s f None = refl
count_of s f (Some x) = refl

-- ---- A node is given

gives_object : (n : ℕ) (b : Seen) → Fits b (export.Has n export.IsObject) → (c : Seen) × Learns b (export.Give export.Hosted) c × Fits c (export.Has (n + 1) export.IsObject)
gives_object n b (export.Free x) = (export.Known export.Hosted, export.First export.Hosted, export.Object (n + 1))
gives_object n b (export.Object k) = (export.Known export.Hosted, export.Again export.Hosted, export.Object (n + 1))

gives_open : (n : ℕ) (b : Seen) → Fits b (export.Has n export.IsOpen) → (c : Seen) × Learns b (export.Give export.Promised) c × Fits c (export.Has (n + 1) export.IsOpen)
gives_open n b (export.Free x) = (export.Known export.Promised, export.First export.Promised, export.Open (n + 1))
gives_open n b (export.Open k) = (export.Known export.Promised, export.Again export.Promised, export.Open (n + 1))

gives_new : (k : Kind) (t : Stage) (b : Seen) → Fits (export.Known k) (export.Has 1 t) → Fits b export.Gone → (c : Seen) × Learns b (export.Give k) c × Fits c (export.Has 1 t)
gives_new k t b h (export.Free x) = (export.Known k, export.First k, h)

-- One that doesn't lead on.
abbrev Given : State → (Node → Bool) → Kind → Node → Seen → Option Export → Type 0
Given s f k n b o = (c : Seen) × Learns b (export.Give k) c × Fits c (exporter_by s f (Some (one_more n o)))

module _ (s : State) (f : Node → Bool) (b : Seen) where
  of_open : (n : Node) (o : Option Export) → is_object n ≡ false → link s n ≡ None → IsOf n o → Fits b (exporter_by s f o) → Given s f export.Promised n b o
  of_open n None j e i h =
      subst (λ (l : Option Node). (c : Seen) × Learns b (export.Give export.Promised) c × Fits c (export.Has 1 (stage_by (is_object n) (f n) l))) (sym e)
      (subst (λ (w : Bool). (c : Seen) × Learns b (export.Give export.Promised) c × Fits c (export.Has 1 (stage_by w (f n) None))) (sym j) (gives_new export.Promised export.IsOpen b (export.Open 1) h))
  of_open n (Some x) j e i h =
      let as_open : Fits b (export.Has x.count export.IsOpen) =
      subst (λ (w : Bool). Fits b (export.Has x.count (stage_by w (f n) None))) j
      (subst (λ (l : Option Node). Fits b (export.Has x.count (stage_by (is_object n) (f n) l))) e
      (subst (λ (m : Node). Fits b (export.Has x.count (stage_by (is_object m) (f m) (link s m)))) i h)) in
      subst (λ (l : Option Node). (c : Seen) × Learns b (export.Give export.Promised) c × Fits c (export.Has (x.count + 1) (stage_by (is_object n) (f n) l))) (sym e)
      (subst (λ (w : Bool). (c : Seen) × Learns b (export.Give export.Promised) c × Fits c (export.Has (x.count + 1) (stage_by w (f n) None))) (sym j) (gives_open x.count b as_open))

  of_object : (n : Node) (o : Option Export) → is_object n ≡ true → IsOf n o → Fits b (exporter_by s f o) → Given s f export.Hosted n b o
  of_object n None j i h = subst (λ (w : Bool). (c : Seen) × Learns b (export.Give export.Hosted) c × Fits c (export.Has 1 (stage_by w (f n) (link s n)))) (sym j) (gives_new export.Hosted export.IsObject b (export.Object 1) h)
  of_object n (Some x) j i h =
      let as_object : Fits b (export.Has x.count export.IsObject) =
      subst (λ (w : Bool). Fits b (export.Has x.count (stage_by w (f n) (link s n)))) j
      (subst (λ (m : Node). Fits b (export.Has x.count (stage_by (is_object m) (f m) (link s m)))) i h) in
      subst (λ (w : Bool). (c : Seen) × Learns b (export.Give export.Hosted) c × Fits c (export.Has (x.count + 1) (stage_by w (f n) (link s n)))) (sym j) (gives_object x.count b as_object)

  given : (n : Node) (k : Kind) (o : Option Export) → kind_given n ≡ Some k → link s n ≡ None → IsOf n o → Fits b (exporter_by s f o) → Given s f k n b o
  given (node.Object x) k o g e i h = let same : export.Hosted ≡ k = cc in subst (λ (j : Kind). Given s f j (node.Object x) b o) same (of_object (node.Object x) o refl i h)
  given (node.Promise p) k o g e i h = let same : export.Promised ≡ k = cc in subst (λ (j : Kind). Given s f j (node.Promise p) b o) same (of_open (node.Promise p) o refl e i h)
  given (node.Field x path) k o g e i h = let same : export.Promised ≡ k = cc in subst (λ (j : Kind). Given s f j (node.Field x path) b o) same (of_open (node.Field x path) o refl e i h)
  given (node.Import x) k o g e i h = absurd (let bad : None ≡ Some k = g in cc)
  given (node.Pipe q path) k o g e i h = absurd (let bad : None ≡ Some k = g in cc)
  given (node.Broken reason) k o g e i h = absurd (let bad : None ≡ Some k = g in cc)

-- ---- Descriptors go out

-- What is known from `a` on once these messages have come, and how often it was given.
abbrev pub Learned : Seen → ℕ → List Out → Exporter → Type 0
Learned a n ms x = (b : Seen) × LearnsAll a ms b × Fits b x × (count x ≡ n + gives ms)

pub gives_first : (e : ℕ) (d : Descriptor) (ds : List Descriptor) → gives_in e (d ∷ ds) ≡ gives_in e (d ∷ []) ++ gives_in e ds
gives_first e descriptor.None ds = refl
gives_first e (descriptor.SenderHosted i) ds = ap (λ (l : List Out). l ++ gives_in e ds) (sym (append-nil (only (nat_eq e i.0) (export.Give export.Hosted))))
gives_first e (descriptor.SenderPromise i) ds = ap (λ (l : List Out). l ++ gives_in e ds) (sym (append-nil (only (nat_eq e i.0) (export.Give export.Promised))))
gives_first e (descriptor.ReceiverHosted i) ds = refl
gives_first e (descriptor.ReceiverAnswer q path) ds = refl

one_out_count : (n : Node) (s : State) (f : Node → Bool) (o : Option Export) → count (exporter_by s f (Some (one_more n o))) ≡ count (exporter_by s f o) + 1
one_out_count n s f None = refl
one_out_count n s f (Some x) = refl

module _ (s : State) (f : Node → Bool) (e : ℕ) (a : Seen) (z : ℕ) where
  abbrev At : List Out → Map Export → Type 0
  At ms es = Learned a z ms (exporter_by s f (map.get es e))

  gone_out : (es : Map Export) (n : Node) (i : ℕ) (k : Kind) (ms : List Out) → kind_given n ≡ Some k → link s n ≡ None → IsOf n (map.get es i) → At ms es → At (ms ++ (only (nat_eq e i) (export.Give k) ++ [])) (map.insert es i (one_more n (map.get es i)))
  gone_out es n i k ms g l j h = subst (λ (o : Option Export). Learned a z (ms ++ (only (nat_eq e i) (export.Give k) ++ [])) (exporter_by s f o)) (sym (get_put es i (one_more n (map.get es i)) e)) (by (nat_eq e i) refl)
    where
      by : (w : Bool) → nat_eq e i ≡ w → Learned a z (ms ++ (only w (export.Give k) ++ [])) (exporter_by s f (cond w (Some (one_more n (map.get es i))) (map.get es e)))
      by false c = subst (λ (l : List Out). Learned a z l (exporter_by s f (map.get es e))) (sym (append-nil ms)) h
      by true c =
          let here : map.get es i ≡ map.get es e = ap (map.get es) (sym (equal e i c)) in
          let o = map.get es e in
          let y = given s f h.0 n k o g l (subst (IsOf n) here j) h.2 in
          let m = one_out_count n s f o in
          let q = gives-append ms (export.Give k ∷ []) in
          let r = h.3 in
          subst (λ (p : Option Export). Learned a z (ms ++ export.Give k ∷ []) (exporter_by s f (Some (one_more n p)))) (sym here)
          (y.0, learns-append a ms h.0 (export.Give k) y.0 h.1 y.1, y.2, omega (arith, m, q, r))

  kind_out : (es : Map Export) (n : Node) (i : ℕ) (ms : List Out) → is_own n ≡ true → link s n ≡ None → IsOf n (map.get es i) → At ms es → At (ms ++ gives_in e (said n i ∷ [])) (map.insert es i (one_more n (map.get es i)))
  kind_out es (node.Object o) i ms w l j h = gone_out es (node.Object o) i export.Hosted ms refl l j h
  kind_out es (node.Promise p) i ms w l j h = gone_out es (node.Promise p) i export.Promised ms refl l j h
  kind_out es (node.Field o path) i ms w l j h = gone_out es (node.Field o path) i export.Promised ms refl l j h
  kind_out es (node.Import k) i ms w l j h = absurd (let bad : false ≡ true = w in cc)
  kind_out es (node.Pipe q path) i ms w l j h = absurd (let bad : false ≡ true = w in cc)
  kind_out es (node.Broken reason) i ms w l j h = absurd (let bad : false ≡ true = w in cc)

  other_out : (n : Node) → is_own n ≡ false → gives_in e (said n 0 ∷ []) ≡ []
  other_out (node.Object o) w = absurd (let bad : true ≡ false = w in cc)
  other_out (node.Promise p) w = absurd (let bad : true ≡ false = w in cc)
  other_out (node.Field o path) w = absurd (let bad : true ≡ false = w in cc)
  other_out (node.Import k) w = refl
  other_out (node.Pipe q path) w = refl
  other_out (node.Broken reason) w = refl

  -- One descriptor, of a node that doesn't lead on.
  pub goes_out : (es : Map Export) (n : Node) (d : Descriptor) (new : Map Export) (ms : List Out) → link s n ≡ None → GoesOut es n d new → At ms es → At (ms ++ gives_in e (d ∷ [])) new
  goes_out es n d new ms l (Again i x w g there j h) k =
      let of_it : IsOf n (map.get es i) = subst (IsOf n) (sym there) j in
      let m = kind_out es n i ms w l of_it k in
      let same : new ≡ map.insert es i (one_more n (map.get es i)) = h ∙ ap (λ (o : Option Export). map.insert es i (one_more n o)) (sym there) in
      rw (g, same) m
  goes_out es n d new ms l (AsNew i w g there others h) k =
      let of_it : IsOf n (map.get es i) = subst (IsOf n) (sym there) tt in
      let m = kind_out es n i ms w l of_it k in
      let same : new ≡ map.insert es i (one_more n (map.get es i)) = h ∙ ap (λ (o : Option Export). map.insert es i (one_more n o)) (sym there) in
      rw (g, same) m
  goes_out es n d new ms l (AsOther w g h) k = rw (g, h) (subst (λ (xs : List Out). At xs es) (sym (ap (λ (ys : List Out). ms ++ ys) (other_out n w) ∙ append-nil ms)) k)

  -- One after the other, each of where a node settles.
  pub go_out : AllStop s → (es : Map Export) (ns : List Node) (ds : List Descriptor) (new : Map Export) (ms : List Out) → GoOut s es ns ds new → At ms es → At (ms ++ gives_in e ds) new
  go_out w es [] [] new ms h k = rw h (subst (λ (xs : List Out). At xs es) (sym (append-nil ms)) k)
  go_out w es [] (d ∷ ds) new ms h k = absurd h
  go_out w es (n ∷ ns) [] new ms h k = absurd h
  go_out w es (n ∷ ns) (d ∷ ds) new ms h k =
      subst (λ (xs : List Out). At xs new) (append_assoc ms (gives_in e (d ∷ [])) (gives_in e ds) ∙ ap (λ (ys : List Out). ms ++ ys) (sym (gives_first e d ds)))
      (go_out w h.0 ns ds new (ms ++ gives_in e (d ∷ [])) h.2 (goes_out es (settle s n) d h.0 ms (ends s w n) h.1 k))
