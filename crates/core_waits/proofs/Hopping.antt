-- Short cuts stay right while links come, and where an entry goes to which none leads.
use Rattle.std.proofs.Common.{◌≡◌, ◌≢◌, ◌⊎◌, inl, inr, ℕ, zero, suc, ◌<◌, List, [], Option, None, Some, refl, sym, ap, subst, ◌∙◌, arith}
use Rattle.std.specs.FinMap as map
use Rattle.std.specs.Ordering.{nat_cmp}
use Rattle.finite_maps.specs.Tally.{Map, map_values}
use Rattle.finite_maps.proofs.Gets.{each_inserted, each_removed, insert_same}
use Rattle.rpc_msg.specs.Op.{Op}
use Rattle.rpc_msg.specs.CapAt.{CapAt}
use Rattle.rpc_msg.specs.CapAt.TheVariants.{Cap, Null, NotCap}
use Rattle.rpc_machine.specs.Payloads.{cap_at}
use Rattle.rpc_machine.specs.declared.node.Node.{Node}
use Rattle.rpc_machine.specs.declared.node.Node.TheVariants as node
use Rattle.rpc_machine.specs.declared.calls.Promise.{Promise}
use Rattle.rpc_machine.specs.declared.calls.KeptOutcome.{KeptOutcome}
use Rattle.rpc_machine.specs.declared.calls.Value.{Value}
use Rattle.rpc_machine.specs.declared.calls.Value.TheVariants as value
use Rattle.rpc_machine.specs.Nodes.{field_link, node_of_cap, value_of}
use Rattle.vat_tables.specs.declared.held_pool.ListKey.{ListKey}
use Rattle.core_waits.specs.declared.hops.Hop.{Hop}
use Rattle.core_waits.specs.declared.entries.PromiseEntry.{PromiseEntry}
use Rattle.core_waits.specs.declared.entries.OutcomeEntry.{OutcomeEntry}
use Rattle.core_waits.specs.declared.entries.EmbargoEntry.{EmbargoEntry}
use Rattle.core_waits.specs.Waiting.{Lists, waiting_of, seen_by, promise_list, promise_with, outcome_list, outcome_with}
use Rattle.core_waits.specs.Links.{link_of, Leads, IsHop, hop_in, IsKeptAt, IsHopFrom, IsPlaceOf, to_of, value_in, link_at, cap_hop, value_hop, promise_hop, field_hop, hop_at, AreSound, HopsHold}
use Rattle.core_waits.proofs.Seeing.{seen_here}
use Rattle.core_waits.proofs.Seen.{link_seen, value_seen, seen_set_promise, seen_set_outcome}

none_here : {A : Type 0} (x : A) → ¬ (◌≡◌ {A = Option A} None (Some x))
none_here x e = cc

-- ---- Links that stay

module _ (link more : Node → Option Node) (stays : (n m : Node) → link n ≡ Some m → more n ≡ Some m) where
  pub leads_on : (k : ℕ) (n z : Node) → Leads link k n z → Leads more k n z
  leads_on zero n z l = l
  leads_on (suc k) n z l = (l.0, stays n l.0 l.1, leads_on k l.0 z l.2)

  pub sound_on : (hop new : Node → Option Hop) → ((n : Node) (h : Hop) → new n ≡ Some h → hop n ≡ Some h) → AreSound link hop → AreSound more new
  sound_on hop new kept s n h e = let a = s n h (kept n h e) in (a.0, leads_on h.far n h.to a.1)

-- Some nodes lose their link, and none leads to these.
module _ (link less : Node → Option Node) (Gone : Node → Type 0) (stays : (n m : Node) → ¬ (Gone n) → link n ≡ Some m → less n ≡ Some m) (apart : (n m : Node) → link n ≡ Some m → ¬ (Gone m)) where
  leads_beside : (k : ℕ) (n z : Node) → ¬ (Gone n) → Leads link k n z → Leads less k n z
  leads_beside zero n z far l = l
  leads_beside (suc k) n z far l = (l.0, stays n l.0 far l.1, leads_beside k l.0 z (apart n l.0 l.1) l.2)

  pub sound_beside : (hop new : Node → Option Hop) → ((n : Node) (h : Hop) → new n ≡ Some h → (hop n ≡ Some h) × (¬ (Gone n))) → AreSound link hop → AreSound less new
  sound_beside hop new kept s n h e = let g = kept n h e in let a = s n h g.0 in (a.0, leads_beside h.far n h.to g.1 a.1)

-- One more short cut, which is right.
sound_with : (link more : Node → Option Node) (hop new : Node → Option Hop) → ((n m : Node) → link n ≡ Some m → more n ≡ Some m)
    → ((n : Node) (h : Hop) → new n ≡ Some h → (hop n ≡ Some h) ⊎ ((0 < h.far) × Leads link h.far n h.to)) → AreSound link hop → AreSound more new
sound_with link more hop new stays kept s n h e = by (kept n h e)
  where
    by : (hop n ≡ Some h) ⊎ ((0 < h.far) × Leads link h.far n h.to) → (0 < h.far) × Leads more h.far n h.to
    by (inl f) = let a = s n h f in (a.0, leads_on link more stays h.far n h.to a.1)
    by (inr a) = (a.0, leads_on link more stays h.far n h.to a.1)

-- ---- An entry is put

field_more : (path : List Op) (m : Node) (o p : Option Value) → ((v : Value) → o ≡ Some v → p ≡ Some v) → field_link path o ≡ Some m → field_link path p ≡ Some m
field_more path m None p h e = absurd (none_here m e)
field_more path m (Some v) p h e = ap (field_link path) (h v refl) ∙ e

module _ (ps : Map PromiseEntry) (os : Map OutcomeEntry) where
  module _ (k : ℕ) (e : PromiseEntry) (stays : (m : Node) → to_of (map.get ps k) ≡ Some m → e.to ≡ Some m) where
    promise_stays : (n m : Node) → link_at ps os n ≡ Some m → link_at (map.insert ps k e) os n ≡ Some m
    promise_stays (node.Object o) m l = l
    promise_stays (node.Promise p) m l =
        each_inserted (λ q x. to_of (map.get ps q) ≡ Some m → to_of x ≡ Some m) ps k e (stays m) (λ q far l. l) p l
    promise_stays (node.Field o path) m l = l
    promise_stays (node.Import i) m l = l
    promise_stays (node.Pipe q path) m l = l
    promise_stays (node.Broken reason) m l = l

  module _ (k : ℕ) (e : PromiseEntry) (stays : (m : Node) → to_of (map.get ps k) ≡ Some m → e.to ≡ Some m) (kept : (h : Hop) → hop_in e.hops 0 ≡ Some h → promise_hop (map.get ps k) ≡ Some h) where
    promise_kept : (n : Node) (h : Hop) → hop_at (map.insert ps k e) os n ≡ Some h → hop_at ps os n ≡ Some h
    promise_kept (node.Object o) h l = l
    promise_kept (node.Promise p) h l =
        each_inserted (λ q x. promise_hop x ≡ Some h → promise_hop (map.get ps q) ≡ Some h) ps k e (kept h) (λ q far l. l) p l
    promise_kept (node.Field o path) h l = l
    promise_kept (node.Import i) h l = l
    promise_kept (node.Pipe q path) h l = l
    promise_kept (node.Broken reason) h l = l

    hold_set_promise : HopsHold ps os → HopsHold (map.insert ps k e) os
    hold_set_promise s = sound_on (link_at ps os) (link_at (map.insert ps k e) os) (promise_stays k e stays) (hop_at ps os) (hop_at (map.insert ps k e) os) promise_kept s

  module _ (k : ℕ) (e : OutcomeEntry) (stays : (v : Value) → value_in (map.get os k) ≡ Some v → e.value ≡ Some v) where
    outcome_stays : (n m : Node) → link_at ps os n ≡ Some m → link_at ps (map.insert os k e) n ≡ Some m
    outcome_stays (node.Object o) m l = l
    outcome_stays (node.Promise p) m l = l
    outcome_stays (node.Field o path) m l =
        each_inserted (λ q x. field_link path (value_in (map.get os q)) ≡ Some m → field_link path (value_in x) ≡ Some m) os k e
        (field_more path m (value_in (map.get os k)) e.value stays) (λ q far l. l) o l
    outcome_stays (node.Import i) m l = l
    outcome_stays (node.Pipe q path) m l = l
    outcome_stays (node.Broken reason) m l = l

  module _ (k : ℕ) (e : OutcomeEntry) (stays : (v : Value) → value_in (map.get os k) ≡ Some v → e.value ≡ Some v) (kept : (path : List Op) (h : Hop) → value_hop e.hops path e.value ≡ Some h → field_hop path (map.get os k) ≡ Some h) where
    outcome_kept : (n : Node) (h : Hop) → hop_at ps (map.insert os k e) n ≡ Some h → hop_at ps os n ≡ Some h
    outcome_kept (node.Object o) h l = l
    outcome_kept (node.Promise p) h l = l
    outcome_kept (node.Field o path) h l =
        each_inserted (λ q x. field_hop path x ≡ Some h → field_hop path (map.get os q) ≡ Some h) os k e (kept path h) (λ q far l. l) o l
    outcome_kept (node.Import i) h l = l
    outcome_kept (node.Pipe q path) h l = l
    outcome_kept (node.Broken reason) h l = l

    hold_set_outcome : HopsHold ps os → HopsHold ps (map.insert os k e)
    hold_set_outcome s = sound_on (link_at ps os) (link_at ps (map.insert os k e)) (outcome_stays k e stays) (hop_at ps os) (hop_at ps (map.insert os k e)) outcome_kept s

  -- With the same links and short cuts.
  pub holds_promise : (k : ℕ) (old e : PromiseEntry) → Some old ≡ map.get ps k → e.to ≡ old.to → e.hops ≡ old.hops → HopsHold ps os → HopsHold (map.insert ps k e) os
  holds_promise k old e there to hops =
      hold_set_promise k e (λ m l. to ∙ ap to_of there ∙ l) (λ h l. ap promise_hop (sym there) ∙ ap (λ (hs : List (Option Hop)). hop_in hs 0) (sym hops) ∙ l)

  pub holds_outcome : (k : ℕ) (old e : OutcomeEntry) → Some old ≡ map.get os k → e.value ≡ old.value → e.hops ≡ old.hops → HopsHold ps os → HopsHold ps (map.insert os k e)
  holds_outcome k old e there same hops =
      hold_set_outcome k e (λ v l. same ∙ ap value_in there ∙ l)
      (λ path h l. ap (field_hop path) (sym there) ∙ ap (λ (o : Option Value). value_hop old.hops path o) (sym same) ∙ ap (λ (hs : List (Option Hop)). value_hop hs path e.value) (sym hops) ∙ l)

  -- Without a link before, and with no short cut yet.
  none_in : (i : ℕ) → hop_in [] i ≡ None
  none_in i = refl

  none_at : (path : List Op) (o : Option Value) → value_hop [] path o ≡ None
  none_at path None = refl
  none_at path (Some (value.Results payload caps)) = by (cap_at payload path)
    where
      by : (c : CapAt) → cap_hop [] c ≡ None
      by (Cap i) = none_in i
      by Null = refl
      by NotCap = refl
  none_at path (Some (value.Exception exception)) = refl

  pub holds_new_promise : (k : ℕ) (e : PromiseEntry) → to_of (map.get ps k) ≡ None → e.hops ≡ [] → HopsHold ps os → HopsHold (map.insert ps k e) os
  holds_new_promise k e free none =
      hold_set_promise k e (λ m l. absurd (none_here m (sym free ∙ l)))
      (λ h l. absurd (none_here h (sym (ap (λ (hs : List (Option Hop)). hop_in hs 0) none ∙ none_in 0) ∙ l)))

  pub holds_new_outcome : (k : ℕ) (e : OutcomeEntry) → value_in (map.get os k) ≡ None → e.hops ≡ [] → HopsHold ps os → HopsHold ps (map.insert os k e)
  holds_new_outcome k e free none =
      hold_set_outcome k e (λ v l. absurd (none_here v (sym free ∙ l)))
      (λ path h l. absurd (none_here h (sym (ap (λ (hs : List (Option Hop)). value_hop hs path e.value) none ∙ none_at path e.value) ∙ l)))

  pub holds_opened_promise : (more : Map PromiseEntry) (k : ℕ) (e : PromiseEntry) → more ≡ map.insert ps k e → to_of (map.get ps k) ≡ None → e.hops ≡ [] → HopsHold ps os → HopsHold more os
  holds_opened_promise more k e is free none h = subst (λ (m : Map PromiseEntry). HopsHold m os) (sym is) (holds_new_promise k e free none h)

  pub holds_opened_outcome : (more : Map OutcomeEntry) (k : ℕ) (e : OutcomeEntry) → more ≡ map.insert os k e → value_in (map.get os k) ≡ None → e.hops ≡ [] → HopsHold ps os → HopsHold ps more
  holds_opened_outcome more k e is free none h = subst (λ (m : Map OutcomeEntry). HopsHold ps m) (sym is) (holds_new_outcome k e free none h)

  -- ---- An entry goes to which no link leads

  module _ (k : ℕ) (apart : (n : Node) → link_at ps os n ≢ Some (node.Promise k)) where
    promise_left : (n m : Node) → ¬ (n ≡ node.Promise k) → link_at ps os n ≡ Some m → link_at (map.remove ps k) os n ≡ Some m
    promise_left (node.Object o) m far l = l
    promise_left (node.Promise p) m far l =
        each_removed (λ q x. ¬ (node.Promise q ≡ node.Promise k) → to_of (map.get ps q) ≡ Some m → to_of x ≡ Some m) ps k (λ far l. absurd (far refl)) (λ q other far l. l) p far l
    promise_left (node.Field o path) m far l = l
    promise_left (node.Import i) m far l = l
    promise_left (node.Pipe q path) m far l = l
    promise_left (node.Broken reason) m far l = l

    number : (q : ℕ) → node.Promise q ≡ node.Promise k → q ≡ k
    number q e = cc

    promise_rest : (n : Node) (h : Hop) → hop_at (map.remove ps k) os n ≡ Some h → (hop_at ps os n ≡ Some h) × (¬ (n ≡ node.Promise k))
    promise_rest (node.Object o) h l = absurd (none_here h l)
    promise_rest (node.Promise p) h l =
        each_removed (λ q x. promise_hop x ≡ Some h → (promise_hop (map.get ps q) ≡ Some h) × (¬ (node.Promise q ≡ node.Promise k))) ps k (λ l. absurd (none_here h l)) (λ q other l. (l, λ e. other (number q e))) p l
    promise_rest (node.Field o path) h l = (l, λ e. cc)
    promise_rest (node.Import i) h l = absurd (none_here h l)
    promise_rest (node.Pipe q path) h l = absurd (none_here h l)
    promise_rest (node.Broken reason) h l = absurd (none_here h l)

    pub holds_gone_promise : HopsHold ps os → HopsHold (map.remove ps k) os
    holds_gone_promise s =
        sound_beside (link_at ps os) (link_at (map.remove ps k) os) (λ n. n ≡ node.Promise k) promise_left
        (λ n m l e. apart n (l ∙ ap Some e)) (hop_at ps os) (hop_at (map.remove ps k) os) promise_rest s

  module _ (k : ℕ) (apart : (n : Node) (path : List Op) → link_at ps os n ≢ Some (node.Field k path)) where
    abbrev IsIn : Node → Type 0
    IsIn n = (path : List Op) × (n ≡ node.Field k path)

    outcome_left : (n m : Node) → ¬ (IsIn n) → link_at ps os n ≡ Some m → link_at ps (map.remove os k) n ≡ Some m
    outcome_left (node.Object o) m far l = l
    outcome_left (node.Promise p) m far l = l
    outcome_left (node.Field o path) m far l =
        each_removed (λ q x. ¬ (IsIn (node.Field q path)) → field_link path (value_in (map.get os q)) ≡ Some m → field_link path (value_in x) ≡ Some m) os k
        (λ far l. absurd (far (path, refl))) (λ q other far l. l) o far l
    outcome_left (node.Import i) m far l = l
    outcome_left (node.Pipe q path) m far l = l
    outcome_left (node.Broken reason) m far l = l

    key : (q : ℕ) (path way : List Op) → node.Field q path ≡ node.Field k way → q ≡ k
    key q path way e = cc

    outcome_rest : (n : Node) (h : Hop) → hop_at ps (map.remove os k) n ≡ Some h → (hop_at ps os n ≡ Some h) × (¬ (IsIn n))
    outcome_rest (node.Object o) h l = absurd (none_here h l)
    outcome_rest (node.Promise p) h l = (l, λ e. let f = e.1 in cc)
    outcome_rest (node.Field o path) h l =
        each_removed (λ q x. field_hop path x ≡ Some h → (field_hop path (map.get os q) ≡ Some h) × (¬ (IsIn (node.Field q path)))) os k
        (λ l. absurd (none_here h l)) (λ q other l. (l, λ e. other (key q path e.0 e.1))) o l
    outcome_rest (node.Import i) h l = absurd (none_here h l)
    outcome_rest (node.Pipe q path) h l = absurd (none_here h l)
    outcome_rest (node.Broken reason) h l = absurd (none_here h l)

    pub holds_gone_outcome : HopsHold ps os → HopsHold ps (map.remove os k)
    holds_gone_outcome s =
        sound_beside (link_at ps os) (link_at ps (map.remove os k)) IsIn outcome_left
        (λ n m l e. apart n e.0 (l ∙ ap Some e.1)) (hop_at ps os) (hop_at ps (map.remove os k)) outcome_rest s

-- Nothing is kept where no entry is.
pub holds_none : (ps : Map PromiseEntry) (os : Map OutcomeEntry) → ps ≡ map.empty → os ≡ map.empty → HopsHold ps os
holds_none ps os p o n h e = absurd (none_here h (sym (none n) ∙ e))
  where
    none : (n : Node) → hop_at ps os n ≡ None
    none (node.Object x) = refl
    none (node.Promise k) = ap promise_hop (ap (λ (m : Map PromiseEntry). map.get m k) p ∙ map.get-empty nat_cmp k)
    none (node.Field k path) = ap (field_hop path) (ap (λ (m : Map OutcomeEntry). map.get m k) o ∙ map.get-empty nat_cmp k)
    none (node.Import x) = refl
    none (node.Pipe q path) = refl
    none (node.Broken reason) = refl

pub holds_over : (ps more : Map PromiseEntry) (os others : Map OutcomeEntry) → more ≡ ps → others ≡ os → HopsHold ps os → HopsHold more others
holds_over ps more os others p o h = subst (λ (m : Map PromiseEntry). HopsHold m others) (sym p) (subst (λ (m : Map OutcomeEntry). HopsHold ps m) (sym o) h)

-- A known outcome.
pub not_known : (lists : Lists) (os : Map OutcomeEntry) (k : ℕ) (e : OutcomeEntry) (v : Value) → Some e ≡ map.get os k → e.value ≡ Some v → ¬ (value_of (map.get (map_values (seen_by outcome_list outcome_with lists) os) k) ≡ None)
not_known lists os k e v there known none = none_here v (sym none ∙ value_seen lists os k ∙ ap value_in (sym there) ∙ known)

above : (n : ℕ) → ¬ (n ≡ 0) → 0 < n
above zero h = absurd (h refl)
above (suc n) h = omega arith

-- ---- As contracts see links

module _ (ps : Map PromiseEntry) (os : Map OutcomeEntry) (es : Map EmbargoEntry) (taken : Option ListKey) (lists : Lists) (room : ℕ) where
  pub seen_link : (n : Node) → link_of (waiting_of ps os es taken lists room) n ≡ link_at ps os n
  seen_link (node.Object o) = refl
  seen_link (node.Promise p) = link_seen lists ps p
  seen_link (node.Field o path) = ap (field_link path) (value_seen lists os o)
  seen_link (node.Import i) = refl
  seen_link (node.Pipe q path) = refl
  seen_link (node.Broken reason) = refl

  seen_leads : (k : ℕ) (n z : Node) → Leads (link_at ps os) k n z → Leads (link_of (waiting_of ps os es taken lists room)) k n z
  seen_leads = leads_on (link_at ps os) (link_of (waiting_of ps os es taken lists room)) (λ n m l. seen_link n ∙ l)

  pub leads_seen : (k : ℕ) (n z : Node) → Leads (link_of (waiting_of ps os es taken lists room)) k n z → Leads (link_at ps os) k n z
  leads_seen = leads_on (link_of (waiting_of ps os es taken lists room)) (link_at ps os) (λ n m l. sym (seen_link n) ∙ l)

  pub apart_promise : (k : ℕ) → ((n : Node) → link_of (waiting_of ps os es taken lists room) n ≢ Some (node.Promise k)) → (n : Node) → link_at ps os n ≢ Some (node.Promise k)
  apart_promise k h n e = h n (seen_link n ∙ e)

  pub apart_outcome : (k : ℕ) → ((n : Node) (path : List Op) → link_of (waiting_of ps os es taken lists room) n ≢ Some (node.Field k path)) → (n : Node) (path : List Op) → link_at ps os n ≢ Some (node.Field k path)
  apart_outcome k h n path e = h n path (seen_link n ∙ e)

  -- A way that is found by the short cut or by the link alone.
  pub is_hop : (left : ℕ) (n : Node) (o : Option Hop) → HopsHold ps os → 0 < left → IsHopFrom (link_at ps os n) (hop_at ps os n) left o → IsHop (link_of (waiting_of ps os es taken lists room)) left n o
  is_hop left n None s some h = λ below. seen_link n ∙ h
  is_hop left n (Some x) s some (inl h) = let a = s n x h.0 in (a.0, h.1, seen_leads x.far n x.to a.1)
  is_hop left n (Some x) s some (inr h) =
      let far = h.1 in
      (omega (arith, far), omega (arith, far, some), subst (λ (k : ℕ). Leads (link_of (waiting_of ps os es taken lists room)) k n x.to) (sym far) (x.to, seen_link n ∙ h.0, refl))

  pub hop_promise : (left : ℕ) (n : Node) (k : ℕ) (e : PromiseEntry) (o : Option Hop) → HopsHold ps os → ¬ (left ≡ 0) → n ≡ node.Promise k → Some e ≡ map.get ps k → IsHopFrom e.to (hop_in e.hops 0) left o
      → IsHop (link_of (waiting_of ps os es taken lists room)) left n o
  hop_promise left n k e o s some is there h =
      is_hop left n o s (above left some)
      (subst (λ (m : Node). IsHopFrom (link_at ps os m) (hop_at ps os m) left o) (sym is)
      (subst (λ (x : Option PromiseEntry). IsHopFrom (to_of x) (promise_hop x) left o) there h))

  pub hop_field : (left : ℕ) (n : Node) (k : ℕ) (path ops : List Op) (e : OutcomeEntry) (o : Option Hop) → HopsHold ps os → ¬ (left ≡ 0) → n ≡ node.Field k path → ops ≡ path → Some e ≡ map.get os k
      → IsHopFrom (field_link ops e.value) (value_hop e.hops ops e.value) left o → IsHop (link_of (waiting_of ps os es taken lists room)) left n o
  hop_field left n k path ops e o s some is same there h =
      is_hop left n o s (above left some)
      (subst (λ (m : Node). IsHopFrom (link_at ps os m) (hop_at ps os m) left o) (sym is)
      (subst (λ (x : Option OutcomeEntry). IsHopFrom (field_link path (value_in x)) (field_hop path x) left o) there
      (subst (λ (p : List Op). IsHopFrom (field_link p e.value) (value_hop e.hops p e.value) left o) same h)))

  pub no_promise : (left : ℕ) (n : Node) (k : ℕ) (o : Option Hop) → n ≡ node.Promise k → None ≡ map.get ps k → o ≡ None → IsHop (link_of (waiting_of ps os es taken lists room)) left n o
  no_promise left n k o is gone none =
      subst (λ (x : Option Hop). IsHop (link_of (waiting_of ps os es taken lists room)) left n x) (sym none)
      (λ below. seen_link n ∙ ap (link_at ps os) is ∙ ap to_of (sym gone))

  pub no_field : (left : ℕ) (n : Node) (k : ℕ) (path : List Op) (o : Option Hop) → n ≡ node.Field k path → None ≡ map.get os k → o ≡ None → IsHop (link_of (waiting_of ps os es taken lists room)) left n o
  no_field left n k path o is gone none =
      subst (λ (x : Option Hop). IsHop (link_of (waiting_of ps os es taken lists room)) left n x) (sym none)
      (λ below. seen_link n ∙ ap (link_at ps os) is ∙ ap (λ (x : Option OutcomeEntry). field_link path (value_in x)) (sym gone))

-- ---- A short cut is kept

module _ (ps : Map PromiseEntry) (os : Map OutcomeEntry) where
  same_place : (n m : Node) (k : ℕ) (z : Node) → link_at ps os n ≡ link_at ps os m → 0 < k → Leads (link_at ps os) k n z → Leads (link_at ps os) k m z
  same_place n m zero z same some l = absurd (omega (arith, some))
  same_place n m (suc k) z same some l = (l.0, sym same ∙ l.1, l.2)

  module _ (k : ℕ) (old e : PromiseEntry) (x : Hop) (there : Some old ≡ map.get ps k) (to : e.to ≡ old.to) (kept : IsKeptAt 0 x old.hops e.hops) (some : 0 < x.far) (way : Leads (link_at ps os) x.far (node.Promise k) x.to) where
    more_promise : (n : Node) (h : Hop) → hop_at (map.insert ps k e) os n ≡ Some h → (hop_at ps os n ≡ Some h) ⊎ ((0 < h.far) × Leads (link_at ps os) h.far n h.to)
    more_promise (node.Object o) h l = inl l
    more_promise (node.Promise p) h l =
        each_inserted (λ q y. promise_hop y ≡ Some h → (promise_hop (map.get ps q) ≡ Some h) ⊎ ((0 < h.far) × Leads (link_at ps os) h.far (node.Promise q) h.to)) ps k e
        (λ l. here (kept 0 h l)) (λ q far l. inl l) p l
      where
        here : (hop_in old.hops 0 ≡ Some h) ⊎ ((◌≡◌ {A = ℕ} 0 0) × (x ≡ h)) → (promise_hop (map.get ps k) ≡ Some h) ⊎ ((0 < h.far) × Leads (link_at ps os) h.far (node.Promise k) h.to)
        here (inl a) = inl (ap promise_hop (sym there) ∙ a)
        here (inr a) = inr (subst (λ (y : Hop). (0 < y.far) × Leads (link_at ps os) y.far (node.Promise k) y.to) a.1 (some, way))
    more_promise (node.Field o path) h l = inl l
    more_promise (node.Import i) h l = inl l
    more_promise (node.Pipe q path) h l = inl l
    more_promise (node.Broken reason) h l = inl l

    pub holds_more_promise : HopsHold ps os → HopsHold (map.insert ps k e) os
    holds_more_promise s =
        sound_with (link_at ps os) (link_at (map.insert ps k e) os) (hop_at ps os) (hop_at (map.insert ps k e) os)
        (promise_stays ps os k e (λ m l. to ∙ ap to_of there ∙ l)) more_promise s

  -- Of a capability that stands at a path, at whichever path.
  kept_value : (hops new : List (Option Hop)) (i : ℕ) (x : Hop) (path way : List Op) (v : Option Value) → IsKeptAt i x hops new → IsPlaceOf i path v
      → (h : Hop) → value_hop new way v ≡ Some h → (value_hop hops way v ≡ Some h) ⊎ ((field_link path v ≡ field_link way v) × (x ≡ h))
  kept_value hops new i x path way None kept place h l = absurd place
  kept_value hops new i x path way (Some (value.Results payload caps)) kept place h l = by (cap_at payload way) refl l
    where
      at : (j : ℕ) → cap_at payload way ≡ Cap j → (hop_in hops j ≡ Some h) ⊎ ((j ≡ i) × (x ≡ h))
          → (cap_hop hops (cap_at payload way) ≡ Some h) ⊎ ((◌≡◌ {A = Option Node} (Some (node_of_cap caps (cap_at payload path))) (Some (node_of_cap caps (cap_at payload way)))) × (x ≡ h))
      at j is (inl a) = inl (ap (cap_hop hops) is ∙ a)
      at j is (inr a) = inr (ap (λ (c : CapAt). Some (node_of_cap caps c)) (place ∙ ap Cap (sym a.0) ∙ sym is), a.1)

      by : (c : CapAt) → cap_at payload way ≡ c → cap_hop new c ≡ Some h
          → (cap_hop hops (cap_at payload way) ≡ Some h) ⊎ ((◌≡◌ {A = Option Node} (Some (node_of_cap caps (cap_at payload path))) (Some (node_of_cap caps (cap_at payload way)))) × (x ≡ h))
      by (Cap j) is l = at j is (kept j h l)
      by Null is l = absurd (none_here h l)
      by NotCap is l = absurd (none_here h l)
  kept_value hops new i x path way (Some (value.Exception exception)) kept place h l = absurd place

  module _ (k i : ℕ) (path : List Op) (old e : OutcomeEntry) (x : Hop) (there : Some old ≡ map.get os k) (same : e.value ≡ old.value) (kept : IsKeptAt i x old.hops e.hops) (place : IsPlaceOf i path old.value) (some : 0 < x.far) (far : Leads (link_at ps os) x.far (node.Field k path) x.to) where
    more_outcome : (n : Node) (h : Hop) → hop_at ps (map.insert os k e) n ≡ Some h → (hop_at ps os n ≡ Some h) ⊎ ((0 < h.far) × Leads (link_at ps os) h.far n h.to)
    more_outcome (node.Object o) h l = inl l
    more_outcome (node.Promise p) h l = inl l
    more_outcome (node.Field o way) h l =
        each_inserted (λ q y. field_hop way y ≡ Some h → (field_hop way (map.get os q) ≡ Some h) ⊎ ((0 < h.far) × Leads (link_at ps os) h.far (node.Field q way) h.to)) os k e
        (λ l. here (kept_value old.hops e.hops i x path way old.value kept place h (ap (value_hop e.hops way) (sym same) ∙ l))) (λ q far l. inl l) o l
      where
        there_in : (p : List Op) → link_at ps os (node.Field k p) ≡ field_link p old.value
        there_in p = ap (λ (y : Option OutcomeEntry). field_link p (value_in y)) (sym there)

        here : (value_hop old.hops way old.value ≡ Some h) ⊎ ((field_link path old.value ≡ field_link way old.value) × (x ≡ h)) → (field_hop way (map.get os k) ≡ Some h) ⊎ ((0 < h.far) × Leads (link_at ps os) h.far (node.Field k way) h.to)
        here (inl a) = inl (ap (field_hop way) (sym there) ∙ a)
        here (inr a) =
            inr (subst (λ (y : Hop). (0 < y.far) × Leads (link_at ps os) y.far (node.Field k way) y.to) a.1
            (some, same_place (node.Field k path) (node.Field k way) x.far x.to (there_in path ∙ a.0 ∙ sym (there_in way)) some far))
    more_outcome (node.Import n) h l = inl l
    more_outcome (node.Pipe q way) h l = inl l
    more_outcome (node.Broken reason) h l = inl l

    pub holds_more_outcome : HopsHold ps os → HopsHold ps (map.insert os k e)
    holds_more_outcome s =
        sound_with (link_at ps os) (link_at ps (map.insert os k e)) (hop_at ps os) (hop_at ps (map.insert os k e))
        (outcome_stays ps os k e (λ v l. same ∙ ap value_in there ∙ l)) more_outcome s

-- Nothing is seen of it.
module _ (ps : Map PromiseEntry) (os : Map OutcomeEntry) (es : Map EmbargoEntry) (taken : Option ListKey) (lists : Lists) (room : ℕ) where
  pub unseen_promise : (k : ℕ) (old : PromiseEntry) (hops : List (Option Hop)) → Some old ≡ map.get ps k → waiting_of (map.insert ps k (record old { hops = hops })) os es taken lists room ≡ waiting_of ps os es taken lists room
  unseen_promise k old hops there =
      seen_set_promise ps os es taken lists room taken k (record old { hops = hops })
      ∙ ap (λ (m : Map Promise). record (waiting_of ps os es taken lists room) { promises = m }) (insert_same _ k _ (seen_here promise_list promise_with lists ps k old (sym there)))

  pub unseen_outcome : (k : ℕ) (old : OutcomeEntry) (hops : List (Option Hop)) → Some old ≡ map.get os k → waiting_of ps (map.insert os k (record old { hops = hops })) es taken lists room ≡ waiting_of ps os es taken lists room
  unseen_outcome k old hops there =
      seen_set_outcome ps os es taken lists room taken k (record old { hops = hops })
      ∙ ap (λ (m : Map KeptOutcome). record (waiting_of ps os es taken lists room) { outcomes = m }) (insert_same _ k _ (seen_here outcome_list outcome_with lists os k old (sym there)))
