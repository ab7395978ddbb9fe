-- A command that opens a call, a Bootstrap or a promise keeps what nodes mean: the key that it opens has a new label.
use Rattle.std.proofs.Common.{◌≡◌, ℕ, ◌+◌, Bool, true, false, nat_eq, cond, Option, None, Some, List, [], ◌∷◌, ◌++◌, refl, sym, ap, ◌∙◌, ◌≤◌, IsSome, subst, arith}
use Rattle.std.specs.FinMap as map
use Rattle.finite_maps.proofs.Tested.{at_put, get_put, equal}
use Rattle.rpc_msg.specs.declared.ids.Vat.{Vat}
use Rattle.rpc_msg.specs.declared.ids.RefId.{RefId}
use Rattle.rpc_journal.specs.History.{refs_at}
use Rattle.rpc_journal.specs.Sources.{Asking, OfBootstrap, OfCall}
use Rattle.rpc_journal.specs.Meaning.{History}
use Rattle.rpc_machine.specs.declared.node.Node.{Node}
use Rattle.rpc_machine.specs.declared.node.Node.TheVariants as node
use Rattle.rpc_machine.specs.declared.calls.OwnCall.{OwnCall}
use Rattle.rpc_machine.specs.declared.calls.OwnCall.TheVariants as own
use Rattle.rpc_machine.specs.declared.calls.Promise.TheVariants as promise
use Rattle.rpc_machine.specs.declared.calls.WaitingCall.{WaitingCall}
use Rattle.rpc_machine.specs.declared.command.Command.{Command}
use Rattle.rpc_machine.specs.declared.command.Command.TheVariants as command
use Rattle.rpc_machine.specs.declared.command.Granted.{Granted}
use Rattle.rpc_machine.specs.declared.entries.Question.{Question}
use Rattle.rpc_machine.specs.declared.entries.Reference.{Reference}
use Rattle.rpc_machine.specs.declared.entries.Role.TheVariants as role
use Rattle.rpc_machine.specs.State.{State}
use Rattle.rpc_machine.specs.Commands.{heads}
use Rattle.rpc_machine.specs.Progress.{quiet}
use Rattle.laws_acts.specs.Moments.{Moment, beginning}
use Rattle.laws_acts.specs.FirstActs.{Starts}
use Rattle.laws_acts.specs.FirstActs as first
use Rattle.laws_acts.proofs.EachStep.{at_end}
use Rattle.laws_acts.proofs.Commanded.{does}
use Rattle.laws_nodes.specs.Questions.{QuestionsEnd}
use Rattle.laws_meanings.specs.NodeMeanings.{Meant, OfRef, OfPromise, IsRefAt, There, Then}
use Rattle.laws_meanings.specs.NodeLabels.{Labels, field_label, LeadsTo, label, Means, RefMeans, PromiseMeans, IsUnsettled, EmbargoMeans, OwnCallMeans, QuestionMeans, Places, AreLed, EndsAreLed, MomentMeans}
use Rattle.laws_meanings.proofs.Labelled.{new_ref}
use Rattle.laws_meanings.proofs.ActsMean.{acts_mean}
use Rattle.finite_maps.specs.Tally.{Map}
use Rattle.rpc_machine.specs.declared.calls.Promise.{Promise}
use Rattle.finite_maps.proofs.Tested.{itself}
use Rattle.rpc_journal.specs.Sources.{OwnPromise}
use Rattle.rpc_machine.specs.declared.calls.Caller.TheVariants as caller
use Rattle.rpc_machine.specs.declared.calls.KeptOutcome.{KeptOutcome}
use Rattle.rpc_machine.specs.declared.command.CallCommand.{CallCommand}
use Rattle.rpc_machine.specs.Commands.{request}
use Rattle.laws_steps.specs.NodesThere.{Stands, IsWhole}
use Rattle.laws_steps.specs.Callers.{HasSource, IsFor, IsAskedFor}
use Rattle.laws_nodes.specs.Sources.{HasOneSource, sources, waits_for}
use Rattle.laws_nodes.specs.Embargoes as pairs
use Rattle.laws_nodes.specs.Embargoes.{ArePaired}
use Rattle.laws_meanings.specs.NodeLabels.{CapsMean, CallAt, OutcomeMeans}
use Rattle.laws_meanings.specs.CommandMeanings.{IsWrittenOpen, OpeningsKeepMeanings, LabelsKept, FirstOpeningsMean}
use Rattle.laws_meanings.proofs.Labelled.{still_unsettled, calls-append}
use Rattle.laws_meanings.proofs.CommandsMean.{head_means, head_at, headed, up}
use Rattle.laws_meanings.proofs.Relabelled.{Relabels, relabelled}

-- What is there has another key than what is not.
other : {X Y : Type 0} (m : Map X) (k key : ℕ) (y : X) (a b : Y) → map.get m key ≡ None → map.get m k ≡ Some y → cond (nat_eq k key) a b ≡ b
other m k key y a b f e = by (nat_eq k key) refl
  where
    by : (c : Bool) → nat_eq k key ≡ c → cond c a b ≡ b
    by true g = absurd (let z = sym f ∙ subst (λ (j : ℕ). map.get m j ≡ Some y) (equal k key g) e in let bad : None ≡ Some y = z in cc)
    by false g = refl

pub this_one : {Y : Type 0} (k : ℕ) (a b : Y) → cond (nat_eq k k) a b ≡ a
this_one k a b = ap (λ (c : Bool). cond c a b) (itself k)

module _ (h : History) (l : Labels) (s : State) (whole : IsWhole s) (one : HasOneSource s) (ends : QuestionsEnd s) (w : Places h s.vat l quiet s) where
  abbrev v : Vat
  v = s.vat

  module _ (key : ℕ) (x : Meant) (free : map.get s.promises key ≡ None) where
    abbrev ps : ℕ → Option Meant
    ps p = cond (nat_eq p key) (Some x) (l.promise p)

    promise_relabels : Relabels h v l s ps l.import l.outcome l.question
    promise_relabels = record {
      named = λ n a. by n (whole.there n a);
      promises = λ p y e. other s.promises p key y (Some x) (l.promise p) free e;
      outcomes = λ o y e. refl;
      questions = λ q y e. refl;
      imports = λ e y f. refl;
      awaited = λ o e. refl;
      calls = λ c y e i. at c y i;
    }
      where
        some : (p : ℕ) (o : Option Promise) → map.get s.promises p ≡ o → IsSome o → ps p ≡ l.promise p
        some p None e i = absurd (let bad : false ≡ true = i in cc)
        some p (Some y) e i = other s.promises p key y (Some x) (l.promise p) free e

        by : (n : Node) → Stands s n → label h v (record l { promise = ps }) n ≡ label h v l n
        by (node.Object o) i = refl
        by (node.Promise p) i = some p (map.get s.promises p) refl i
        by (node.Field o path) i = refl
        by (node.Import e) i = refl
        by (node.Pipe q path) i = refl
        by (node.Broken reason) i = refl

        at : (c : ℕ) (y : OwnCall) → OwnCallMeans h v l c (Some y) → OwnCallMeans h v (record l { promise = ps }) c (Some y)
        at c (own.Direct q) i = i
        at c (own.Kept o) i = i

    with_promise : Places h v (record l { promise = ps }) quiet s
    with_promise = relabelled h v l s ps l.import l.outcome l.question promise_relabels ends w

  module _ (key : ℕ) (x : Vat × Asking) (free : map.get s.questions key ≡ None) where
    abbrev qs : ℕ → Option (Vat × Asking)
    qs q = cond (nat_eq q key) (Some x) (l.question q)

    there : (c q : ℕ) (o : Option Question) → map.get s.questions q ≡ o → IsAskedFor c o → qs q ≡ l.question q
    there c q None e i = absurd i
    there c q (Some y) e i = other s.questions q key y (Some x) (l.question q) free e

    question_relabels : Relabels h v l s l.promise l.import l.outcome qs
    question_relabels = record {
      named = λ n a. by n (whole.there n a);
      promises = λ p y e. refl;
      outcomes = λ o y e. refl;
      questions = λ q y e. other s.questions q key y (Some x) (l.question q) free e;
      imports = λ e y f. refl;
      awaited = λ o e. refl;
      calls = λ c y e i. at c y (subst (HasSource s c) e (whole.callers.calls c)) i;
    }
      where
        by : (n : Node) → Stands s n → label h v (record l { question = qs }) n ≡ label h v l n
        by (node.Object o) i = refl
        by (node.Promise p) i = refl
        by (node.Field o path) i = refl
        by (node.Import e) i = refl
        by (node.Pipe q path) i = ap (λ (z : Option (Vat × Asking)). field_label h z path) (there i.0 q.0 (map.get s.questions q.0) refl i.1)
        by (node.Broken reason) i = refl

        at : (c : ℕ) (y : OwnCall) → HasSource s c (Some y) → OwnCallMeans h v l c (Some y) → OwnCallMeans h v (record l { question = qs }) c (Some y)
        at c (own.Direct q) f i = (i.0, i.1, there c q.0 (map.get s.questions q.0) refl f ∙ i.2)
        at c (own.Kept o) f i = i

    with_question : Places h v (record l { question = qs }) quiet s
    with_question = relabelled h v l s l.promise l.import l.outcome qs question_relabels ends w

  module _ (key : ℕ) (x : Vat × Asking) (free : map.get s.outcomes key ≡ None) where
    abbrev pub os : ℕ → Option (Vat × Asking)
    os o = cond (nat_eq o key) (Some x) (l.outcome o)

    pub outcome_relabels : Relabels h v l s l.promise l.import os l.question
    outcome_relabels = record {
      named = λ n a. by n (whole.there n a);
      promises = λ p y e. refl;
      outcomes = λ o y e. other s.outcomes o key y (Some x) (l.outcome o) free e;
      questions = λ q y e. refl;
      imports = λ e y f. refl;
      awaited = λ o e. waited o (nat_eq o key) refl e;
      calls = λ c y e i. at c y (subst (HasSource s c) e (whole.callers.calls c)) i;
    }
      where
        some : (o : ℕ) (y : Option KeptOutcome) → map.get s.outcomes o ≡ y → IsSome y → os o ≡ l.outcome o
        some o None e i = absurd (let bad : false ≡ true = i in cc)
        some o (Some y) e i = other s.outcomes o key y (Some x) (l.outcome o) free e

        waited : (o : ℕ) (c : Bool) → nat_eq o key ≡ c → 1 ≤ sources o s → cond c (Some x) (l.outcome o) ≡ l.outcome o
        waited o true g e = absurd (let z = one.each key in let y = ap waits_for free in let k = subst (λ (j : ℕ). 1 ≤ sources j s) (equal o key g) e in omega arith)
        waited o false g e = refl

        by : (n : Node) → Stands s n → label h v (record l { outcome = os }) n ≡ label h v l n
        by (node.Object o) i = refl
        by (node.Promise p) i = refl
        by (node.Field o path) i = ap (λ (z : Option (Vat × Asking)). field_label h z path) (some o (map.get s.outcomes o) refl i)
        by (node.Import e) i = refl
        by (node.Pipe q path) i = refl
        by (node.Broken reason) i = refl

        kept : (c o : ℕ) (y : Option KeptOutcome) → map.get s.outcomes o ≡ y → IsFor (caller.Application (record { 0 = c })) y → os o ≡ l.outcome o
        kept c o None e i = absurd i
        kept c o (Some y) e i = other s.outcomes o key y (Some x) (l.outcome o) free e

        at : (c : ℕ) (y : OwnCall) → HasSource s c (Some y) → OwnCallMeans h v l c (Some y) → OwnCallMeans h v (record l { outcome = os }) c (Some y)
        at c (own.Direct q) f i = i
        at c (own.Kept o) f i = (i.0, i.1, kept c o (map.get s.outcomes o) refl f ∙ i.2)

    pub with_outcome : Places h v (record l { outcome = os }) quiet s
    with_outcome = relabelled h v l s l.promise l.import os l.question outcome_relabels ends w

kept_by : (h : History) (l : Labels) (s : State) (m : Labels) → Relabels h s.vat l s m.promise l.import m.outcome m.question → LabelsKept l (record m { import = l.import }) s
kept_by h l s m r = record { promises = r.promises; imports = λ e. refl; outcomes = r.outcomes; questions = r.questions }

-- ---- The first act

module _ (h : History) (l : Labels) (s : State) (whole : IsWhole s) (one : HasOneSource s) (ends : QuestionsEnd s) (paired_all : ArePaired s) (w : Places h s.vat l quiet s) where
  abbrev Begun : Moment → Type 0
  Begun d = (m : Labels) × LabelsKept l m s × MomentMeans h s.vat m d

  abbrev own_ref : ℕ → Meant
  own_ref r = OfRef (record { vat = s.vat; number = r })

  -- The reference counts the call.
  counted : (m : Labels) (i : Places h s.vat m quiet s) (k : CallCommand) (x : Reference) → map.get s.refs k.reference.0 ≡ Some x → (j : ℕ) → RefMeans h s.vat m quiet j (map.get (map.insert s.refs k.reference.0 (record x { made = x.made + 1 })) j)
  counted m i k x e = headed h s.vat m s ends i k.reference.0 (record x { made = x.made + 1 }) (head_means h s.vat m s ends i k.reference.0 x e)

  caps : (m : Labels) (i : Places h s.vat m quiet s) (k : CallCommand) (x : Reference) → IsWrittenOpen h s.vat s (command.Call k) → map.get s.refs k.reference.0 ≡ Some x → CapsMean h s.vat m (request s k x).stamp (heads s k.refs)
  caps m i k x z e j n f =
      let y = head_at h s.vat m s ends i k.refs j n z.0 f in
      let a = (z.1 x e).1 in
      (y.0, (a.0, a.1, subst (λ (rs : List RefId). IsRefAt h (refs_at s.vat rs) j y.0) (sym a.2) y.1), y.2)

  pub opened : (c : Command) (g : Granted) (d : Moment) → IsWrittenOpen h s.vat s c → Starts (beginning s) c g d → Begun d
  opened c g d i (first.Promises p e f a u) =
      let z = subst (IsWrittenOpen h s.vat s) e i in
      let x = OfPromise s.vat s.next_promise in
      let m : Labels = record l { promise = ps h l s whole one ends w p x f } in
      let b = with_promise h l s whole one ends w p x f in
      let is : m.promise p ≡ Some x = this_one p (Some x) (l.promise p) in
      let now = map.insert s.promises p (promise.Open []) in
      let at : map.get now p ≡ Some (promise.Open []) = get_put s.promises p (promise.Open []) p ∙ this_one p (Some (promise.Open [])) (map.get s.promises p) in
      let opens = at_put (λ (q : ℕ) (r : Option Promise). (cs : List WaitingCall) → map.get s.promises q ≡ Some (promise.Open cs) → (ds : List WaitingCall) × (r ≡ Some (promise.Open ds))) s.promises p (promise.Open []) (λ cs y. ([], refl)) (λ q y cs r. (cs, r)) in
      let means = subst (LeadsTo h (own_ref s.next_ref)) (sym is) (Then (OwnPromise s.next_promise, z, refl) There) in (
        m,
        kept_by h l s m (promise_relabels h l s whole one ends w p x f),
        rw u (
          (
            headed h s.vat m s ends b s.next_ref (new_ref (node.Promise p)) means,
            at_put (λ q r. PromiseMeans h s.vat m q r) s.promises p (promise.Open []) tt (λ q y. b.1 q),
            at_put (λ q r. IsUnsettled h s.vat m (map.get now) q r) s.unsettled s.next_promise p (is, [], at) (λ q y. still_unsettled h s.vat m s.promises now opens q (map.get s.unsettled q) (b.2 q)),
            b.3,
            b.4,
            b.5,
            b.6,
            b.7,
            b.8,
          ),
          tt,
          tt,
          tt,
          tt,
          tt,
          tt,
          tt,
        ),
      )
  opened c g d i (first.AsksRoot q e f a u) =
      let z = subst (IsWrittenOpen h s.vat s) e i in
      let x : Vat × Asking = (s.vat, OfBootstrap) in
      let m : Labels = record l { question = qs h l s whole one ends w q x f } in
      let b = with_question h l s whole one ends w q x f in
      let is : m.question q ≡ Some x = this_one q (Some x) (l.question q) in (
        m,
        kept_by h l s m (question_relabels h l s whole one ends w q x f),
        rw u (
          (
            b.0,
            b.1,
            b.2,
            b.3,
            b.4,
            b.5,
            at_put (λ k o. OwnCallMeans h s.vat m k o) s.calls s.next_call (own.Direct (record { 0 = q })) (OfBootstrap, z, is) (λ k y. b.6 k),
            at_put (λ k o. QuestionMeans h s.vat m k o) s.questions q (first.asked (role.Direct (record { 0 = s.next_call })) []) (OfBootstrap, z, is, λ path. tt) (λ k y. b.7 k),
            b.8,
          ),
          tt,
          tt,
          tt,
          tt,
          tt,
          tt,
          tt,
        ),
      )
  opened c g d i (first.CallsOut k y q t ds es e f j n o r a u) =
      let z = subst (IsWrittenOpen h s.vat s) e i in
      let stamp = (request s k y).stamp in
      let x : Vat × Asking = (s.vat, OfCall stamp) in
      let m : Labels = record l { question = qs h l s whole one ends w q x o } in
      let b = with_question h l s whole one ends w q x o in
      let is : m.question q ≡ Some x = this_one q (Some x) (l.question q) in (
        m,
        kept_by h l s m (question_relabels h l s whole one ends w q x o),
        rw u (
          (
            counted m b k y f,
            b.1,
            b.2,
            b.3,
            b.4,
            b.5,
            at_put (λ k o. OwnCallMeans h s.vat m k o) s.calls s.next_call (own.Direct (record { 0 = q })) (OfCall stamp, (z.1 y f).0, is) (λ k y. b.6 k),
            at_put (λ k o. QuestionMeans h s.vat m k o) s.questions q (first.asked (role.Direct (record { 0 = s.next_call })) ds) (OfCall stamp, (z.1 y f).0, is, λ path. tt) (λ k y. b.7 k),
            b.8,
          ),
          tt,
          tt,
          tt,
          tt,
          tt,
          tt,
          tt,
        ),
      )
  opened c g d i (first.CallsHere k y o e f j n r a u) =
      let z = subst (IsWrittenOpen h s.vat s) e i in
      let stamp = (request s k y).stamp in
      let x : Vat × Asking = (s.vat, OfCall stamp) in
      let m : Labels = record l { outcome = os h l s whole one ends w o x r } in
      let b = with_outcome h l s whole one ends w o x r in
      let is : m.outcome o ≡ Some x = this_one o (Some x) (l.outcome o) in
      let it : KeptOutcome = record { caller = caller.Application (record { 0 = s.next_call }); value = None; waiting = [] } in (
        m,
        kept_by h l s m (outcome_relabels h l s whole one ends w o x r),
        rw u (
          (
            counted m b k y f,
            b.1,
            b.2,
            at_put (λ k o. OutcomeMeans h s.vat m k o) s.outcomes o it ((OfCall stamp, (z.1 y f).0, is), tt, tt) (λ k y. b.3 k),
            b.4,
            b.5,
            at_put (λ k o. OwnCallMeans h s.vat m k o) s.calls s.next_call (own.Kept o) (OfCall stamp, (z.1 y f).0, is) (λ k y. b.6 k),
            b.7,
            b.8,
          ),
          (((s.vat, is), caps m b k y z f, head_means h s.vat m s ends b k.reference.0 y f), tt),
          tt,
          tt,
          tt,
          tt,
          tt,
          tt,
        ),
      )
  opened c g d i (first.CallsLater k y o q p e f j n r a u) =
      let z = subst (IsWrittenOpen h s.vat s) e i in
      let stamp = (request s k y).stamp in
      let x : Vat × Asking = (s.vat, OfCall stamp) in
      let m : Labels = record l { outcome = os h l s whole one ends w o x r } in
      let b = with_outcome h l s whole one ends w o x r in
      let is : m.outcome o ≡ Some x = this_one o (Some x) (l.outcome o) in
      let it : KeptOutcome = record { caller = caller.Application (record { 0 = s.next_call }); value = None; waiting = [] } in
      let was : EmbargoMeans h s.vat m (Some p) = subst (EmbargoMeans h s.vat m) n (b.4 q.0) in
      let paired : p.reference.0 ≡ k.reference.0 = subst (pairs.IsOf k.reference.0) n (subst (λ (z : Option _). pairs.HasIts s.embargoes k.reference.0 z) j (subst (λ (z : Option Reference). pairs.HasIts s.embargoes k.reference.0 (pairs.embargo_of z)) f (paired_all.theirs k.reference.0))) in
      let this = first.waiting_call s k y o in
      let call : CallAt h s.vat m p.node this = ((s.vat, is), caps m b k y z f, subst (λ (r : ℕ). Means h s.vat m (own_ref r) p.node) paired was.1) in (
        m,
        kept_by h l s m (outcome_relabels h l s whole one ends w o x r),
        rw u (
          (
            counted m b k y f,
            b.1,
            b.2,
            at_put (λ k o. OutcomeMeans h s.vat m k o) s.outcomes o it ((OfCall stamp, (z.1 y f).0, is), tt, tt) (λ k y. b.3 k),
            at_put (λ k o. EmbargoMeans h s.vat m o) s.embargoes q.0 (record p { waiting = p.waiting ++ this ∷ [] }) (calls-append h s.vat m p.node p.waiting (this ∷ []) was.0 (call, tt), was.1) (λ k y. b.4 k),
            b.5,
            at_put (λ k o. OwnCallMeans h s.vat m k o) s.calls s.next_call (own.Kept o) (OfCall stamp, (z.1 y f).0, is) (λ k y. b.6 k),
            b.7,
            b.8,
          ),
          tt,
          tt,
          tt,
          tt,
          tt,
          tt,
          tt,
        ),
      )
  opened c g d i (first.Hosts o e a u) = absurd (subst (IsWrittenOpen h s.vat s) e i)
  opened c g d i (first.Clones y x e f a u) = absurd (subst (IsWrittenOpen h s.vat s) e i)
  opened c g d i (first.NamesField y path from e f a u) = absurd (subst (IsWrittenOpen h s.vat s) e i)
  opened c g d i (first.Drops y x e f a u) = absurd (subst (IsWrittenOpen h s.vat s) e i)
  opened c g d i (first.Fixes p y x key calls e f j n a u) = absurd (subst (IsWrittenOpen h s.vat s) e i)
  opened c g d i (first.Rejects p why key calls e f j a u) = absurd (subst (IsWrittenOpen h s.vat s) e i)
  opened c g d i (first.Answers t payload refs o e f a u) = absurd (subst (IsWrittenOpen h s.vat s) e i)
  opened c g d i (first.Fails t why o e f a u) = absurd (subst (IsWrittenOpen h s.vat s) e i)
  opened c g d i (first.Finishes y from e f a u) = absurd (subst (IsWrittenOpen h s.vat s) e i)
  opened c g d i (first.StaysPut y x e f a u) = absurd (subst (IsWrittenOpen h s.vat s) e i)
  opened c g d i (first.Breaks y x reason e f j n a u) = absurd (subst (IsWrittenOpen h s.vat s) e i)
  opened c g d i (first.Switches y x by n e f j k b o a u) = absurd (subst (IsWrittenOpen h s.vat s) e i)
  opened c g d i (first.Turns y x by n t z e f j k b o p q a u) = absurd (subst (IsWrittenOpen h s.vat s) e i)

pub openings_mean : OpeningsKeepMeanings
openings_mean h l s c g x t i whole one ends paired w k =
    let a = does s c g x t k in
    let b = opened h l s whole one ends paired w c g a.started i a.starts in
    let z = acts_mean h s.vat b.0 a.started a.last a.acts b.2 in
    let m : Labels = record (b.0) { promise = z.0 } in
    let q = z.1 in
    let e = at_end (λ u y. Places h s.vat m y u × AreLed h s.vat y.deliveries × EndsAreLed h s.vat y.answers) a.last x t a.ends (up h s.vat m a.last.effects a.last.state q.0, q.5, q.7) in
    (m, e.0, e.1, e.2)

pub first_openings_mean : FirstOpeningsMean
first_openings_mean h l s c g d i whole one ends paired w a = opened h l s whole one ends paired w c g d i a
