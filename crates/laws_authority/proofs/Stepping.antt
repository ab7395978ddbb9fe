-- Each step: what is covered at its end is what the peer can reach.
use Rattle.std.proofs.Common.{◌≡◌, ◌≢◌, ◌⊎◌, inl, inr, ℕ, Bool, true, false, List, [], ◌∷◌, Option, None, Some, IsSome, refl, subst}
use Rattle.std.specs.FinMap as map
use Rattle.finite_maps.specs.Tally.{Map}
use Rattle.rpc_msg.specs.declared.ids.ObjectId.{ObjectId}
use Rattle.rpc_msg.specs.declared.message.Message.{Message}
use Rattle.rpc_machine.specs.rpc_journal.specs.declared.report.Delivery.{Delivery}
use Rattle.rpc_machine.specs.declared.node.Node.{Node}
use Rattle.rpc_machine.specs.declared.node.Node.TheVariants as node
use Rattle.rpc_machine.specs.declared.command.Command.{Command}
use Rattle.rpc_machine.specs.declared.command.Granted.{Granted}
use Rattle.rpc_machine.specs.declared.command.Effects.{Effects}
use Rattle.rpc_machine.specs.State.{State}
use Rattle.rpc_machine.specs.Faults.{fault_of}
use Rattle.rpc_machine.specs.Steps.{Does, Handles}
use Rattle.laws_acts.specs.Moments.{Moment, beginning}
use Rattle.laws_acts.specs.FirstActs.{Starts}
use Rattle.laws_acts.specs.MessageActs.{Consumes}
use Rattle.rpc_machine.specs.Nodes.{link}
use Rattle.rpc_machine.specs.declared.calls.WaitingCall.{WaitingCall}
use Rattle.laws_acts.proofs.EachStep.{at_end}
use Rattle.laws_acts.proofs.Commanded.{does}
use Rattle.laws_acts.proofs.Received.{handles}
use Rattle.laws_authority.specs.Reach.{IsIn, IsForPeer, WaitsAt, Reaches, CallsAt, Further, MayReach}
use Rattle.laws_authority.specs.Grants.{Itself, On, Opens}
use Rattle.laws_authority.specs.Authority.{IsOfPeer, IsWaitedFor, GivesNoMore, TakesNothing}
use Rattle.laws_authority.proofs.Covers.{Covered, DeliveryIn, DeliveriesIn, may_in, asked_in}
use Rattle.laws_authority.proofs.Going.{Cover}
use Rattle.laws_authority.proofs.First.{Allowed, WasAsked, started, Base, base_of, base_on, base_carried, Asks, Extra, consumed}
use Rattle.laws_authority.proofs.Acting.{Holds, all_acted}
use Rattle.laws_authority.proofs.Roots.{opens_quietly}
use Rattle.laws_authority.proofs.Leaving.{Leaving, Still, at_last}

module _ (wide : Bool) (K : ℕ → Type 0) (A : Node → Type 0) where
  one_delivered : (ps : List ℕ) (m : Map ℕ) (next : ℕ) (ys : List Delivery) (y : Delivery) → DeliveriesIn wide K (Cover A ps) m next ys → IsIn y ys → DeliveryIn wide K (Cover A ps) m next y
  one_delivered ps m next [] y a h = absurd h
  one_delivered ps m next (z ∷ zs) y a (inl e) = subst (DeliveryIn wide K (Cover A ps) m next) e a.0
  one_delivered ps m next (z ∷ zs) y a (inr h) = one_delivered ps m next zs y a.1 h

  delivered : (last : Moment) → Holds wide K A last → (y : Delivery) → IsIn y last.effects.deliveries → IsOfPeer last.state y → A (node.Object y.object)
  delivered last k y h p =
      let d = one_delivered k.ps last.state.tasks last.state.next_task last.effects.deliveries y k.covered.2 h in
      d.1 p.0 p.1 (asked_in wide K (Cover A k.ps) last.state k.covered.0 p.0 p.2)

tasked : (wide : Bool) (K : ℕ → Type 0) (A : Node → Type 0) (last : Moment) → Holds wide K A last → (y : Delivery) → IsIn y last.effects.deliveries → IsSome (map.get last.state.tasks y.task.0)
tasked wide K A last k y h = let d = one_delivered wide K A k.ps last.state.tasks last.state.next_task last.effects.deliveries y k.covered.2 h in d.2

objects : (K : ℕ → Type 0) (A : Node → Type 0) (last : Moment) → Holds true K A last → (o : ObjectId) → MayReach last.state (node.Object o) → A (node.Object o)
objects K A last k o r = may_in K (Cover A k.ps) last.state k.covered.0 (node.Object o) r

begun : (wide : Bool) (s : State) (c : Command) (g : Granted) (new : Moment) → Starts (beginning s) c g new → Still wide (WasAsked wide s c) (Allowed wide s c) new
begun wide s c g new h = by (started wide s c g new h)
  where
    by : Covered wide (WasAsked wide s c) (Cover (Allowed wide s c) []) new ⊎ Leaving wide (WasAsked wide s c) (Allowed wide s c) new → Still wide (WasAsked wide s c) (Allowed wide s c) new
    by (inl i) = inl (record { ps = []; covered = i })
    by (inr i) = inr i

pub commands : (s : State) (c : Command) (g : Granted) (x : Effects) (t : State) → Does s c g x t → GivesNoMore s c x t
commands s c g x t h =
    let k = does s c g x t h in
    let last : (wide : Bool) → Holds wide (WasAsked wide s c) (Allowed wide s c) k.last = λ wide. at_last wide (WasAsked wide s c) (Allowed wide s c) k.last k.started x t k.acts (begun wide s c g k.started k.starts) k.ends in
    at_end (λ (b : State) (y : Effects). GivesNoMore s c y b) k.last x t k.ends (record {
      objects = objects (WasAsked true s c) (Allowed true s c) k.last (last true);
      deliveries = delivered false (WasAsked false s c) (Allowed false s c) k.last (last false);
      tasks = tasked false (WasAsked false s c) (Allowed false s c) k.last (last false);
    })

-- A call that waits has its outcome.
abbrev pub WaitingHaveOutcomes : State → Type 0
WaitingHaveOutcomes s = (c : WaitingCall) (n : Node) → WaitsAt s c n → map.get s.outcomes c.outcome ≢ None

-- What each use asks of a message's first act.
module _ (s : State) (m : Message) (whole : WaitingHaveOutcomes s) where
  was_asked : (c : WaitingCall) (n : Node) → WaitsAt s c n → Asks s c.outcome → IsForPeer (map.get s.outcomes c.outcome)
  was_asked c n w (inl a) = a
  was_asked c n w (inr e) = absurd (whole c n w e)

  taken : (wide : Bool) (new : Moment) → Consumes (beginning s) m new → Holds wide (Asks s) (λ n. Base wide s n ⊎ Extra s m n) new
  taken wide new h = record {
    ps = [];
    covered = consumed wide s m (Asks s) (Base wide s) (base_of wide s) (base_on wide s) (λ o e. inr e) (λ o a. inl a) (λ c n w a. base_of wide s n (CallsAt c n w (was_asked c n w a))) (base_carried wide s (Base wide s) (λ n r. r)) new h;
  }

  abbrev Anywhere : Node → Type 0
  Anywhere n = Reaches s n ⊎ IsWaitedFor s n

  anywhere_on : (n k : Node) → Anywhere n → link s n ≡ Some k → Anywhere k
  anywhere_on n k (inl r) e = inl (Further n k r e)
  anywhere_on n k (inr h) e = inr (h.0, h.1, h.2, On n k h.3 e)

  all_taken : (new : Moment) → Consumes (beginning s) m new → Holds false (λ o. Unit {0}) (λ n. Anywhere n ⊎ Extra s m n) new
  all_taken new h = record {
    ps = [];
    covered = consumed false s m (λ o. Unit {0}) Anywhere (λ n r. inl r) anywhere_on (λ o e. tt) (λ o a. tt) (λ c n w a. inr (c, n, w, Itself)) (λ c n k w i. tt) new h;
  }

delivered_somewhere : (A : Node → Type 0) (last : Moment) → Holds false (λ o. Unit {0}) A last → (y : Delivery) → IsIn y last.effects.deliveries → A (node.Object y.object)
delivered_somewhere A last k y h = by (map.get last.state.tasks y.task.0) refl d.2
  where
    d : DeliveryIn false (λ o. Unit {0}) (Cover A k.ps) last.state.tasks last.state.next_task y
    d = one_delivered false (λ o. Unit {0}) A k.ps last.state.tasks last.state.next_task last.effects.deliveries y k.covered.2 h

    by : (o : Option ℕ) → map.get last.state.tasks y.task.0 ≡ o → IsSome o → A (node.Object y.object)
    by None e i = absurd (let f : false ≡ true = i in cc)
    by (Some o) e i = d.1 o e tt

-- The same where what a message opens is not yet told apart.
record Loosely (s : State) (m : Message) (x : Effects) (t : State) : Type 0 where
  objects : (o : ObjectId) → MayReach t (node.Object o) → MayReach s (node.Object o) ⊎ Opens s m o
  deliveries : (y : Delivery) → IsIn y x.deliveries → IsOfPeer t y → Reaches s (node.Object y.object) ⊎ Opens s m y.object
  tasks : (y : Delivery) → IsIn y x.deliveries → IsSome (map.get t.tasks y.task.0)
  others : (y : Delivery) → IsIn y x.deliveries → (Reaches s (node.Object y.object) ⊎ IsWaitedFor s (node.Object y.object)) ⊎ Opens s m y.object

pub messages : (s : State) (m : Message) (x : Effects) (t : State) → WaitingHaveOutcomes s → fault_of s m ≡ None → Handles s m x t → TakesNothing s m x t
messages s m x t whole free h =
    let k = handles s m x t free h in
    let last : (wide : Bool) → Holds wide (Asks s) (λ n. Base wide s n ⊎ Extra s m n) k.last = λ wide. all_acted wide (Asks s) (λ n. Base wide s n ⊎ Extra s m n) k.last k.consumed k.acts (taken s m whole wide k.consumed k.consumes) in
    let all = all_acted false (λ o. Unit {0}) (λ n. Anywhere s m whole n ⊎ Extra s m n) k.last k.consumed k.acts (all_taken s m whole k.consumed k.consumes) in
    let read = at_end (λ (b : State) (y : Effects). Loosely s m y b) k.last x t k.ends (record {
      objects = objects (Asks s) (λ n. Base true s n ⊎ Extra s m n) k.last (last true);
      deliveries = delivered false (Asks s) (λ n. Base false s n ⊎ Extra s m n) k.last (last false);
      tasks = tasked false (Asks s) (λ n. Base false s n ⊎ Extra s m n) k.last (last false);
      others = delivered_somewhere (λ n. Anywhere s m whole n ⊎ Extra s m n) k.last all;
    }) in
    record {
      objects = read.objects;
      deliveries = λ y i p. mine y i (read.deliveries y i p);
      tasks = read.tasks;
      others = λ y i. placed y i (read.others y i);
    }
  where
    never : (y : Delivery) → IsIn y x.deliveries → Opens s m y.object → ⊥
    never y i a = let e = opens_quietly s m y.object x t a free h in subst (λ (ys : List Delivery). IsIn y ys) e i

    mine : (y : Delivery) → IsIn y x.deliveries → Reaches s (node.Object y.object) ⊎ Opens s m y.object → Reaches s (node.Object y.object)
    mine y i (inl r) = r
    mine y i (inr a) = absurd (never y i a)

    placed : (y : Delivery) → IsIn y x.deliveries → (Reaches s (node.Object y.object) ⊎ IsWaitedFor s (node.Object y.object)) ⊎ Opens s m y.object → Reaches s (node.Object y.object) ⊎ IsWaitedFor s (node.Object y.object)
    placed y i (inl r) = r
    placed y i (inr a) = absurd (never y i a)
