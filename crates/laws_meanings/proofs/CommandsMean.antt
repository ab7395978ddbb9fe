-- The first act of a command that opens nothing keeps what nodes mean; so does its step.
use Rattle.std.proofs.Common.{◌≡◌, inl, inr, ℕ, zero, suc, Bool, true, false, nat_eq, cond, Option, None, Some, unwrap_or, List, [], ◌∷◌, refl, sym, ap, ◌∙◌, subst, arith}
use Rattle.std.specs.FinMap as map
use Rattle.std.specs.List.{slice_get}
use Rattle.finite_maps.proofs.Tested.{at_put, at_cut, get_put, equal}
use Rattle.rpc_msg.specs.declared.ids.Vat.{Vat}
use Rattle.rpc_msg.specs.declared.ids.RefId.{RefId}
use Rattle.rpc_msg.specs.declared.ids.Stamp.{Stamp}
use Rattle.rpc_msg.specs.Paths.{fields}
use Rattle.rpc_msg.specs.Op.{Op}
use Rattle.rpc_msg.specs.Op.TheVariants as op
use Rattle.rpc_msg.specs.CapAt.{CapAt}
use Rattle.rpc_msg.specs.CapAt.TheVariants.{Cap, Null, NotCap}
use Rattle.rpc_msg.specs.Payloads.{Contents as Payload, tree_of}
use Rattle.rpc_msg.specs.Walking.{found_at}
use Rattle.rpc_journal.specs.declared.report.Outcome.TheVariants as outcome
use Rattle.rpc_journal.specs.History.{refs_at, answer_of}
use Rattle.rpc_journal.specs.Sources.{Asking, OfBootstrap, OfCall, asking, OwnObject, CloneOf, FieldOf, FixedTo, WasRejected}
use Rattle.rpc_journal.specs.Meaning.{History, Broken, bootstrap_meaning, root_field}
use Rattle.rpc_machine.specs.Payloads.{cap_at}
use Rattle.rpc_machine.specs.declared.node.Node.{Node}
use Rattle.rpc_machine.specs.declared.node.Node.TheVariants as node
use Rattle.rpc_machine.specs.declared.node.Reason.TheVariants.{NotACapability, BrokenPromise}
use Rattle.rpc_machine.specs.declared.calls.OwnCall.{OwnCall}
use Rattle.rpc_machine.specs.declared.calls.OwnCall.TheVariants as own
use Rattle.rpc_machine.specs.declared.calls.Promise.TheVariants as promise
use Rattle.rpc_machine.specs.declared.calls.Value.TheVariants as value
use Rattle.rpc_machine.specs.declared.calls.WaitingCall.{WaitingCall}
use Rattle.rpc_machine.specs.declared.command.Command.{Command}
use Rattle.rpc_machine.specs.declared.command.Command.TheVariants as command
use Rattle.rpc_machine.specs.declared.command.Granted.{Granted}
use Rattle.rpc_machine.specs.declared.command.Effects.{Effects}
use Rattle.rpc_machine.specs.declared.entries.Embargo.{Embargo}
use Rattle.rpc_machine.specs.declared.entries.Import.{Import}
use Rattle.rpc_machine.specs.declared.entries.Question.{Question}
use Rattle.rpc_machine.specs.declared.entries.Reference.{Reference}
use Rattle.rpc_machine.specs.declared.entries.Resolution.{Resolution}
use Rattle.rpc_machine.specs.declared.entries.Returned.{Returned}
use Rattle.rpc_machine.specs.declared.entries.Role.{Role}
use Rattle.rpc_machine.specs.declared.entries.Role.TheVariants as role
use Rattle.rpc_machine.specs.State.{State}
use Rattle.rpc_machine.specs.Nodes.{settle, node_of_cap}
use Rattle.rpc_machine.specs.Commands.{head_of, heads, field_node}
use Rattle.rpc_machine.specs.Progress.{quiet}
use Rattle.rpc_machine.specs.Advancing.{Known, known_of_wire, known_by_resolve, resolution_of, known_by_return, returned_of}
use Rattle.rpc_machine.specs.Advancing as known
use Rattle.rpc_machine.specs.Steps.{staying_up}
use Rattle.laws_acts.specs.Moments.{Moment, beginning, each_to}
use Rattle.laws_acts.specs.FirstActs.{Starts}
use Rattle.laws_acts.specs.FirstActs as first
use Rattle.laws_acts.proofs.EachStep.{at_end}
use Rattle.laws_acts.proofs.Commanded.{does}
use Rattle.laws_nodes.specs.Questions.{QuestionsEnd, IsRelayOpen, IsOpen}
use Rattle.laws_meanings.specs.NodeMeanings.{Meant, Itself, OfRef, OfPromise, OfField, field_meant, IsRefAt, ByCap, Leads, There, Then}
use Rattle.laws_meanings.specs.NodeLabels.{Labels, field_label, LeadsTo, label, Means, MeansKnown, CallsAt, ValueMeans, RefMeans, PromiseMeans, IsUnsettled, EmbargoMeans, TaskMeans, OwnCallMeans, BackMeans, QuestionMeans, ResolvedMeans, ImportMeans, Places, RoutedMean, AreLed, EndsAreLed, MomentMeans}
use Rattle.laws_meanings.specs.CommandMeanings.{OpensNothing, AnswersWith, IsWritten, CommandsKeepMeanings, FirstActsMean}
use Rattle.laws_meanings.proofs.Links.{walk_fields}
use Rattle.laws_meanings.proofs.Labelled.{further, further_to, settles, new_ref}
use Rattle.laws_meanings.proofs.ActsMean.{acts_mean}

-- Noops are left out once.
fields_again : (path : List Op) → fields (fields path) ≡ fields path
fields_again [] = refl
fields_again (op.Noop ∷ ops) = fields_again ops
fields_again (op.Field n ∷ ops) = ap (λ (p : List Op). op.Field n ∷ p) (fields_again ops)

meant_again : (h : History) (v : Vat) (a : Asking) (path : List Op) → field_meant h v a path ≡ field_meant h v a (fields path)
meant_again h v OfBootstrap path = ap (λ (p : List Op). Itself (root_field (bootstrap_meaning h v) p)) (sym (fields_again path))
meant_again h v (OfCall s) path = ap (λ (p : List Op). OfField s p) (sym (fields_again path))

-- ---- What is known of a wire

module _ (h : History) (v : Vat) (l : Labels) where
  known_further : (w x : Meant) (k : Known) → MeansKnown h v l w k → Leads h w x → MeansKnown h v l x k
  known_further w x known.NothingYet i f = tt
  known_further w x (known.IsBroken reason) i f = further h (Itself Broken) w x i f
  known_further w x (known.Leads by n) i f = further_to h w x (label h v l n) i f

  by_resolved : (x : Meant) (o : Option Meant) (r : Option Resolution) → ResolvedMeans h v l o r → LeadsTo h x o → MeansKnown h v l x (known_by_resolve r)
  by_resolved x None r i m = subst (λ (z : Option Resolution). MeansKnown h v l x (known_by_resolve z)) (sym i) tt
  by_resolved x (Some y) r i m = known_further y x (known_by_resolve r) i m

  by_import : (x : Meant) (e : ℕ) (o : Option Import) → ImportMeans h v l e o → LeadsTo h x (l.import e) → MeansKnown h v l x (known_by_resolve (resolution_of o))
  by_import x e None i m = tt
  by_import x e (Some y) i m = by_resolved x (l.import e) y.resolution i m

  by_role : (x : Meant) (q : ℕ) (path : List Op) (r : Role) (o : Option Returned) → IsRelayOpen r o → BackMeans h v l q r o → Means h v l x (node.Pipe (record { 0 = q }) path) → MeansKnown h v l x (known_by_return path o)
  by_role x q path (role.Direct c) o w i m =
      known_further (field_meant h v i.0 path) x (known_by_return path o) (i.3 path) (subst (λ (z : Option (Vat × Asking)). LeadsTo h x (label h v (record l { question = λ k. z }) (node.Pipe (record { 0 = q }) path))) i.2 m)
  by_role x q path (role.Relay o) r w i m = subst (λ (z : Option Returned). MeansKnown h v l x (known_by_return path z)) (sym w) tt

  by_question : (x : Meant) (q : ℕ) (path : List Op) (o : Option Question) → IsOpen o → QuestionMeans h v l q o → Means h v l x (node.Pipe (record { 0 = q }) path) → MeansKnown h v l x (known_by_return path (returned_of o))
  by_question x q path None w i m = tt
  by_question x q path (Some y) w i m = by_role x q path y.role y.returned w i m

  module _ (s : State) (ends : QuestionsEnd s) (w : Places h v l quiet s) where
    of_wire : (x : Meant) (n : Node) → Means h v l x n → MeansKnown h v l x (known_of_wire s n)
    of_wire x (node.Object o) m = tt
    of_wire x (node.Promise p) m = tt
    of_wire x (node.Field o path) m = tt
    of_wire x (node.Import e) m = by_import x e.0 (map.get s.imports e.0) (w.8 e.0) m
    of_wire x (node.Pipe q path) m = by_question x q.0 path (map.get s.questions q.0) (ends.relays q.0) (w.7 q.0) m
    of_wire x (node.Broken reason) m = tt

    abbrev this : ℕ → Meant
    this r = OfRef (record { vat = v; number = r })

    pub head_means : (r : ℕ) (x : Reference) → map.get s.refs r ≡ Some x → Means h v l (this r) x.head
    head_means r x e = by (subst (RefMeans h v l quiet r) e (w.0 r))
      where
        by : RefMeans h v l quiet r (Some x) → Means h v l (this r) x.head
        by (y, inl a, m) = subst (λ (z : Meant). Means h v l z x.head) a m
        by (y, inr (inl a), m) = absurd a
        by (y, inr (inr a), m) = absurd a

    known_at : (r : ℕ) (x : Reference) (k : Known) → map.get s.refs r ≡ Some x → known_of_wire s (settle s x.head) ≡ k → MeansKnown h v l (this r) k
    known_at r x k e f = subst (MeansKnown h v l (this r)) f (of_wire (this r) (settle s x.head) (settles h v l s w.1 w.3 (this r) x.head (head_means r x e)))

    -- One reference with another head.
    pub headed : (r : ℕ) (x : Reference) → Means h v l (this r) x.head → (k : ℕ) → RefMeans h v l quiet k (map.get (map.insert s.refs r x) k)
    headed r x m = at_put (λ k o. RefMeans h v l quiet k o) s.refs r x (this r, inl refl, m) (λ k e. w.0 k)

    pub routed : (n : Node) (cs : List WaitingCall) → CallsAt h v l n cs → RoutedMean h v l (each_to n cs)
    routed n [] i = tt
    routed n (c ∷ cs) i = (i.0, routed n cs i.1)

    -- A promise is fixed; the others that are not settled have other keys.
    module _ (p key : ℕ) (calls : List WaitingCall) (to : Node) (e : map.get s.unsettled p ≡ Some key) where
      labelled : IsUnsettled h v l (map.get s.promises) p (Some key)
      labelled = subst (IsUnsettled h v l (map.get s.promises) p) e (w.2 p)

      others : (k : ℕ) (o : Option ℕ) → nat_eq k p ≡ false → IsUnsettled h v l (map.get s.promises) k o → IsUnsettled h v l (map.get (map.insert s.promises key (promise.Fixed to))) k o
      others k None n i = tt
      others k (Some q) n i = (i.0, i.1, by (nat_eq q key) refl)
        where
          same : q ≡ key → k ≡ p
          same f = let g : Some (OfPromise v k) ≡ Some (OfPromise v p) = sym i.0 ∙ ap l.promise f ∙ labelled.0 in cc

          by : (b : Bool) → nat_eq q key ≡ b → map.get (map.insert s.promises key (promise.Fixed to)) q ≡ Some (promise.Open i.1)
          by true f = let g = same (equal q key f) in absurd (grind arith)
          by false f = get_put s.promises key (promise.Fixed to) q ∙ ap (λ (b : Bool). cond b (Some (promise.Fixed to)) (map.get s.promises q)) f ∙ i.2

      unsettled : (k : ℕ) → IsUnsettled h v l (map.get (map.insert s.promises key (promise.Fixed to))) k (map.get (map.remove s.unsettled p) k)
      unsettled = at_cut (λ k o. IsUnsettled h v l (map.get (map.insert s.promises key (promise.Fixed to))) k o) s.unsettled p tt (λ k n. others k (map.get s.unsettled k) n (w.2 k))

      promises : Means h v l (OfPromise v p) to → (k : ℕ) → PromiseMeans h v l k (map.get (map.insert s.promises key (promise.Fixed to)) k)
      promises m = at_put (λ k o. PromiseMeans h v l k o) s.promises key (promise.Fixed to) (OfPromise v p, labelled.0, m) (λ k n. w.1 k)

      waited : map.get s.promises key ≡ Some (promise.Open calls) → RoutedMean h v l (each_to (node.Promise key) calls)
      waited f = routed (node.Promise key) calls (subst (PromiseMeans h v l key) f (w.1 key))

    -- ---- Answers

    pub head_at : (refs : List RefId) (i : ℕ) (n : Node) → ((j : ℕ) (r : RefId) → slice_get refs j ≡ Some r → (x : Reference) × (map.get s.refs r.0 ≡ Some x)) → slice_get (heads s refs) i ≡ Some n → (y : Meant) × IsRefAt h (refs_at v refs) i y × Means h v l y n
    head_at [] i n f e = let bad : ◌≡◌ {A = Option Node} None (Some n) = e in cc
    head_at (r ∷ rs) zero n f e =
        let x = f 0 r refl in
        let g : x.0.head ≡ n = (let a : Some (head_of (map.get s.refs r.0)) ≡ Some n = e in let b : head_of (map.get s.refs r.0) ≡ x.0.head = ap head_of x.1 in cc) in
        (this r.0, (record { vat = v; number = r.0 }, refl, refl), subst (Means h v l (this r.0)) g (head_means r.0 x.0 x.1))
    head_at (r ∷ rs) (suc i) n f e = head_at rs i n (λ j. f (suc j)) e

    there_at : (refs : List RefId) (i : ℕ) (r : RefId) → slice_get refs i ≡ Some r → (n : Node) × (slice_get (heads s refs) i ≡ Some n)
    there_at [] i r e = let bad : ◌≡◌ {A = Option RefId} None (Some r) = e in cc
    there_at (q ∷ qs) zero r e = (head_of (map.get s.refs q.0), refl)
    there_at (q ∷ qs) (suc i) r e = there_at qs i r e

    module _ (z : Stamp) (payload : Payload) (refs : List RefId) (a : AnswersWith s payload refs) (e : answer_of h.journal z ≡ Some (record { outcome = outcome.Results payload; refs = refs_at v refs })) where
      at_cap : (path : List Op) (c : CapAt) → cap_at payload path ≡ c → Means h v l (OfField z (fields path)) (node_of_cap (heads s refs) c)
      at_cap path (Cap i) f =
          let r = a.named path i f in
          let n = there_at refs i r.0 r.1 in
          let y = head_at refs i n.0 a.there n.1 in
          subst (λ (o : Option Node). Means h v l (OfField z (fields path)) (unwrap_or o (node.Broken NotACapability))) (sym n.1) (further_to h y.0 (OfField z (fields path)) (label h v l n.0) y.2 (Then (record { outcome = outcome.Results payload; refs = refs_at v refs }, e, subst (λ (c : CapAt). ByCap h (refs_at v refs) c y.0) (sym (ap found_at (walk_fields (tree_of payload) path) ∙ f)) y.1) There))
      at_cap path Null f = Then (record { outcome = outcome.Results payload; refs = refs_at v refs }, e, subst (λ (c : CapAt). ByCap h (refs_at v refs) c (Itself Broken)) (sym (ap found_at (walk_fields (tree_of payload) path) ∙ f)) refl) There
      at_cap path NotCap f = Then (record { outcome = outcome.Results payload; refs = refs_at v refs }, e, subst (λ (c : CapAt). ByCap h (refs_at v refs) c (Itself Broken)) (sym (ap found_at (walk_fields (tree_of payload) path) ∙ f)) refl) There

      answer_means : (u : Vat) → ValueMeans h v l (u, OfCall z) (value.Results payload (heads s refs))
      answer_means u = (
        λ path. at_cap path (cap_at payload path) refl,
        λ i n f. let y = head_at refs i n a.there f in (y.0, (record { outcome = outcome.Results payload; refs = refs_at v refs }, e, y.1), y.2),
        inl (_, e),
      )

    -- ---- The first act

    pub started : (c : Command) (g : Granted) (d : Moment) → OpensNothing c → IsWritten h v s c → Starts (beginning s) c g d → MomentMeans h v l d
    started c g d n i (first.Hosts o e a u) =
        let z = subst (IsWritten h v s) e i in
        rw u ((headed s.next_ref (new_ref (node.Object o)) (Then (OwnObject o.0, z, refl) There), w.1, w.2, w.3, w.4, w.5, w.6, w.7, w.8), tt, tt, tt, tt, tt, tt, tt)
    started c g d n i (first.Clones r x e f a u) =
        let z = subst (IsWritten h v s) e i in
        rw u ((headed s.next_ref (new_ref x.head) (further_to h (this r.0) (this s.next_ref) (label h v l x.head) (head_means r.0 x f) (Then (CloneOf r.0, z, refl) There)), w.1, w.2, w.3, w.4, w.5, w.6, w.7, w.8), tt, tt, tt, tt, tt, tt, tt)
    started c g d n i (first.Drops r x e f a u) =
        rw u ((at_cut (λ k o. RefMeans h v l quiet k o) s.refs r.0 tt (λ k m. w.0 k), w.1, w.2, w.3, w.4, w.5, w.6, w.7, w.8), tt, tt, tt, tt, tt, tt, tt)
    started c g d n i (first.AsksRoot q e f a u) = absurd (subst OpensNothing e n)
    started c g d n i (first.CallsOut k x q t ds es e f j m b o a u) = absurd (subst OpensNothing e n)
    started c g d n i (first.CallsHere k x o e f j m b a u) = absurd (subst OpensNothing e n)
    started c g d n i (first.CallsLater k x o q b e f j m y a u) = absurd (subst OpensNothing e n)
    started c g d n i (first.Promises p e f a u) = absurd (subst OpensNothing e n)
    started c g d n i (first.NamesField k path from e f a u) =
        let z = subst (IsWritten h v s) e i in
        rw u ((headed s.next_ref (new_ref (field_node path from)) (by from z (subst (OwnCallMeans h v l k.0) f (w.6 k.0))), w.1, w.2, w.3, w.4, w.5, w.6, w.7, w.8), tt, tt, tt, tt, tt, tt, tt)
      where
        at : (b : Asking) → asking h.journal v k.0 ≡ Some b → IsWritten h v s (command.Field k path) → Leads h (field_meant h v b (fields path)) (this s.next_ref)
        at b e z = Then (FieldOf k.0 path, z, (b, e, sym (meant_again h v b path))) There

        by : (y : OwnCall) → IsWritten h v s (command.Field k path) → OwnCallMeans h v l k.0 (Some y) → Means h v l (this s.next_ref) (field_node path y)
        by (own.Direct q) z j = subst (λ (o : Option (Vat × Asking)). LeadsTo h (this s.next_ref) (field_label h o (fields path))) (sym j.2) (at j.0 j.1 z)
        by (own.Kept o) z j = subst (λ (o : Option (Vat × Asking)). LeadsTo h (this s.next_ref) (field_label h o (fields path))) (sym j.2) (at j.0 j.1 z)
    started c g d n i (first.Fixes p r x key calls e f j k a u) =
        let z = subst (IsWritten h v s) e i in
        let m = further_to h (this r.0) (OfPromise v p.0) (label h v l x.head) (head_means r.0 x f) (Then (FixedTo (record { vat = v; number = r.0 }), z, refl) There) in
        rw u ((w.0, promises p.0 key calls x.head j m, unsettled p.0 key calls x.head j, w.3, w.4, w.5, w.6, w.7, w.8), waited p.0 key calls x.head j k, tt, tt, tt, tt, tt, tt)
    started c g d n i (first.Rejects p why key calls e j k a u) =
        let z = subst (IsWritten h v s) e i in
        let to = node.Broken BrokenPromise in
        rw u ((w.0, promises p.0 key calls to j (Then (WasRejected, z, refl) There), unsettled p.0 key calls to j, w.3, w.4, w.5, w.6, w.7, w.8), waited p.0 key calls to j k, tt, tt, tt, tt, tt, tt)
    started c g d n i (first.Answers t payload refs o e f a u) =
        let z = subst (IsWritten h v s) e i in
        rw u ((w.0, w.1, w.2, w.3, w.4, at_cut (λ k o. TaskMeans h v l quiet k o) s.tasks t.0 tt (λ k m. w.5 k), w.6, w.7, w.8), tt, tt, (by z (subst (TaskMeans h v l quiet t.0) f (w.5 t.0)), tt), tt, tt, tt, tt)
      where
        by : IsWritten h v s (command.Answer t payload refs) → TaskMeans h v l quiet t.0 (Some o) → (b : Vat × Asking) × (l.outcome o ≡ Some b) × ValueMeans h v l b (value.Results payload (heads s refs))
        by z (y, inl k, m) = ((m.0, OfCall y), m.1, answer_means y payload refs z.0 (z.1 y k) m.0)
        by z (y, inr k, m) = absurd k
    started c g d n i (first.Fails t why o e f a u) =
        let z = subst (IsWritten h v s) e i in
        rw u ((w.0, w.1, w.2, w.3, w.4, at_cut (λ k o. TaskMeans h v l quiet k o) s.tasks t.0 tt (λ k m. w.5 k), w.6, w.7, w.8), tt, tt, (by z (subst (TaskMeans h v l quiet t.0) f (w.5 t.0)), tt), tt, tt, tt, tt)
      where
        by : IsWritten h v s (command.Fail t why) → TaskMeans h v l quiet t.0 (Some o) → (b : Vat × Asking) × (l.outcome o ≡ Some b) × ValueMeans h v l b (value.Exception why)
        by z (y, inl k, m) = ((m.0, OfCall y), m.1, (λ path. Then (_, z y k, refl) There, (λ j q e. let bad : ◌≡◌ {A = Option Node} None (Some q) = e in cc), inl (_, z y k)))
        by z (y, inr k, m) = absurd k
    started c g d n i (first.Finishes k from e f a u) =
        rw u ((w.0, w.1, w.2, w.3, w.4, w.5, at_cut (λ k o. OwnCallMeans h v l k o) s.calls k.0 tt (λ k m. w.6 k), w.7, w.8), tt, tt, tt, tt, tt, tt, tt)
    started c g d n i (first.StaysPut r x e f a u) = rw u (w, tt, tt, tt, tt, tt, tt, tt)
    started c g d n i (first.Breaks r x reason e f j k a u) =
        rw u ((headed r.0 (record x { head = node.Broken reason }) (known_at r.0 x _ f k), w.1, w.2, w.3, w.4, w.5, w.6, w.7, w.8), tt, tt, tt, tt, tt, tt, tt)
    started c g d n i (first.Switches r x by m e f j k b o a u) =
        rw u ((headed r.0 (record x { head = m }) (known_at r.0 x _ f k), w.1, w.2, w.3, w.4, w.5, w.6, w.7, w.8), tt, tt, tt, tt, tt, tt, tt)
    started c g d n i (first.Turns r x by m t z e f j k b o p q a u) =
        let y = known_at r.0 x _ f k in
        let it : Embargo = record { reference = record { 0 = r.0 }; node = m; waiting = [] } in
        rw u ((headed r.0 (record { head = m; embargo = Some (record { 0 = z }); made = x.made }) y, w.1, w.2, w.3, at_put (λ k o. EmbargoMeans h v l o) s.embargoes z it (tt, y) (λ k g. w.4 k), w.5, w.6, w.7, w.8), tt, tt, tt, tt, tt, tt, tt)

-- ---- The step

-- Nothing of it reads whether the vat goes down.
module _ (h : History) (v : Vat) (l : Labels) (e : Effects) where
  up_ref : (k : ℕ) (o : Option Reference) → RefMeans h v l e k o → RefMeans h v l (staying_up e) k o
  up_ref k None i = tt
  up_ref k (Some y) i = i

  up_task : (t : ℕ) (o : Option ℕ) → TaskMeans h v l e t o → TaskMeans h v l (staying_up e) t o
  up_task t None i = tt
  up_task t (Some o) i = i

  pub up : (s : State) → Places h v l e s → Places h v l (staying_up e) s
  up s i = (λ k. up_ref k (map.get s.refs k) (i.0 k), i.1, i.2, i.3, i.4, λ t. up_task t (map.get s.tasks t) (i.5 t), i.6, i.7, i.8)

pub commands_mean : CommandsKeepMeanings
commands_mean h v l s c g x t n i ends w k =
    let a = does s c g x t k in
    let z = acts_mean h v l a.started a.last a.acts (started h v l s ends w c g a.started n i a.starts) in
    let m : Labels = record l { promise = z.0 } in
    let q = z.1 in
    let e = at_end (λ u y. Places h v m y u × AreLed h v y.deliveries × EndsAreLed h v y.answers) a.last x t a.ends (up h v m a.last.effects a.last.state q.0, q.5, q.7) in
    (z.0, e.0, e.1, e.2)

pub first_acts_mean : FirstActsMean
first_acts_mean h v l s c g d n i ends w a = started h v l s ends w c g d n i a
