-- What the laws of pieces take as known of a state follows from what is so in the middle of a step.
use Rattle.std.specs.FinMap as map
use Rattle.std.proofs.Common.{◌≡◌, ℕ, zero, suc, Bool, nat_eq, true, false, List, ◌++◌, Option, None, Some, IsSome, refl, sym, subst}
use Rattle.finite_maps.proofs.Tested.{equal}
use Rattle.rpc_msg.specs.declared.message.Message.{Message}
use Rattle.rpc_machine.specs.declared.command.Level.TheVariants.{One}
use Rattle.rpc_machine.specs.declared.calls.KeptOutcome.{KeptOutcome}
use Rattle.rpc_machine.specs.declared.calls.Promise.{Promise}
use Rattle.rpc_machine.specs.declared.entries.Embargo.{Embargo}
use Rattle.rpc_machine.specs.declared.entries.Export.{Export}
use Rattle.rpc_machine.specs.declared.entries.Import.{Import}
use Rattle.rpc_machine.specs.declared.entries.Question.{Question}
use Rattle.rpc_machine.specs.declared.entries.Reference.{Reference}
use Rattle.rpc_machine.specs.declared.node.Node.{Node}
use Rattle.rpc_machine.specs.declared.node.Node.TheVariants as node
use Rattle.rpc_machine.specs.State.{State}
use Rattle.rpc_machine.specs.Nodes.{link, settle, is_field, is_import, is_pipe, is_promise, is_wire}
use Rattle.rpc_machine.specs.Progress.{Progress}
use Rattle.rpc_machine.specs.Laws as machine
use Rattle.laws_routes.specs.Named.{NoneLeads}
use Rattle.laws_routes.specs.Premises.{EachMayOpen, IsLastLoop, IsUnfinished, LinksRest, MayAsk, MayGoTo, MayKeep, MayRoute, MayTake, Unnamed}
use Rattle.laws_routes.specs.SayingLaws.{MayAdvance, MaySay, MaySend}
use Rattle.laws_routes.specs.Ties.{Around}
use Rattle.laws_routes.specs.Midway.{IsHeld, IsOutcomeOf, Midway}
use Rattle.laws_routes.proofs.CallsRouted.{law}
use Rattle.laws_routes.proofs.LinkShapes.{loops_map, open_map}
use Rattle.laws_routes.proofs.SayingsCarried.{return_map}
use Rattle.laws_routes.proofs.WhatGoes.{none_there}
use Rattle.laws_routes.proofs.WhereNodesEnd.{settles_here}

-- What is there has not a free key.
differ : (P : ℕ → Type 0) (k q : ℕ) → P k → (P q → ⊥) → nat_eq k q ≡ false
differ P k q a out = by (nat_eq k q) refl
  where
    by : (b : Bool) → nat_eq k q ≡ b → nat_eq k q ≡ false
    by true e = absurd (out (subst P (equal k q e) a))
    by false e = e

module _ (s other : State) (out back : List Message) (h : Midway s other out back) where
  pipe_other : (q : ℕ) → map.get s.questions q ≡ None → (n : Node) → IsHeld s n → is_pipe q n ≡ false
  pipe_other q free (node.Object o) i = refl
  pipe_other q free (node.Promise p) i = refl
  pipe_other q free (node.Field o path) i = refl
  pipe_other q free (node.Import e) i = refl
  pipe_other q free (node.Pipe k path) i = differ (λ j. IsUnfinished (map.get s.questions j)) k.0 q i.1.0 (λ u. subst IsUnfinished free u)
  pipe_other q free (node.Broken reason) i = refl

  field_other : (o : ℕ) → map.get s.outcomes o ≡ None → (n : Node) → IsHeld s n → is_field o n ≡ false
  field_other o free (node.Object k) i = refl
  field_other o free (node.Promise p) i = refl
  field_other o free (node.Field k path) i = differ (λ j. IsSome (map.get s.outcomes j)) k o i.0 (λ u. none_there KeptOutcome (subst (λ (z : Option KeptOutcome). IsSome z) free u))
  field_other o free (node.Import e) i = refl
  field_other o free (node.Pipe k path) i = refl
  field_other o free (node.Broken reason) i = refl

  promise_other : (p : ℕ) → map.get s.promises p ≡ None → (n : Node) → IsHeld s n → is_promise p n ≡ false
  promise_other p free (node.Object o) i = refl
  promise_other p free (node.Promise k) i = differ (λ j. IsSome (map.get s.promises j)) k p i.0 (λ u. none_there Promise (subst (λ (z : Option Promise). IsSome z) free u))
  promise_other p free (node.Field o path) i = refl
  promise_other p free (node.Import e) i = refl
  promise_other p free (node.Pipe k path) i = refl
  promise_other p free (node.Broken reason) i = refl

  import_other : (e : ℕ) → map.get s.imports e ≡ None → (n : Node) → IsHeld s n → is_import e n ≡ false
  import_other e free (node.Object o) i = refl
  import_other e free (node.Promise p) i = refl
  import_other e free (node.Field o path) i = refl
  import_other e free (node.Import k) i = differ (λ j. IsSome (map.get s.imports j)) k.0 e i.1 (λ u. none_there Import (subst (λ (z : Option Import). IsSome z) free u))
  import_other e free (node.Pipe k path) i = refl
  import_other e free (node.Broken reason) i = refl

  unnamed : (test : Node → Bool) → ((n : Node) → IsHeld s n → test n ≡ false) → Unnamed s test
  unnamed test f = record { links = λ m k i e. f k (h.links m k i e); heads = λ r x e. f x.head (h.heads r x e); embargoes = λ e b i. f b.node (h.embargoes e b i) }

  unsaid : (test : Node → Bool) → ((n : Node) → IsHeld s n → test n ≡ false) → NoneLeads s test
  unsaid test f = (λ e said to a. f to (h.resolved e said to a), λ q path said to a. f to (h.returned q path said to a))

  free_question : (q : ℕ) → map.get s.questions q ≡ None → (k : ℕ) → IsSome (map.get s.questions k) → nat_eq k q ≡ false
  free_question q free k i = differ (λ j. IsSome (map.get s.questions j)) k q i (λ u. none_there Question (subst (λ (z : Option Question). IsSome z) free u))

  pub may_ask : (q : ℕ) → map.get s.questions q ≡ None → MayAsk s out back q
  may_ask q free = record {
    unnamed = unnamed (is_pipe q) (pipe_other q free);
    unsaid = unsaid (is_pipe q) (pipe_other q free);
    not_open = open_map _ _ out (free_question q free) h.opens;
    not_returned = return_map _ _ back (free_question q free) h.returns;
    met = h.met;
    own = λ e x f. (let a = h.exports e x f in a.0);
  }

  pub may_keep : (o : ℕ) → map.get s.outcomes o ≡ None → MayKeep s o
  may_keep o free = record {
    unnamed = unnamed (is_field o) (field_other o free);
    unsaid = unsaid (is_field o) (field_other o free);
    exports = λ e x f. (let a = h.exports e x f in field_other o free x.node a.1);
    answers = λ q a f. differ (λ j. IsOutcomeOf q (map.get s.outcomes j)) a.outcome o (h.answers q a f) (λ u. subst (IsOutcomeOf q) free u);
  }

  pub may_open : EachMayOpen s
  may_open p free = record {
    unnamed = unnamed (is_promise p) (promise_other p free);
    unsaid = unsaid (is_promise p) (promise_other p free);
    exports = λ e x f. (let a = h.exports e x f in promise_other p free x.node a.1);
  }

  pub may_take : (e : ℕ) → IsSome (map.get other.exports e) → MayTake s other e
  may_take e there = record {
    there = there;
    unnamed = λ free. unnamed (is_import e) (import_other e free);
    unsaid = λ free. unsaid (is_import e) (import_other e free);
  }

  pub links_rest : LinksRest s
  links_rest = record { lead = λ m k i e. (let a = h.links m k i e in a.0); stop = λ m i. h.stop m }

  -- Where a node settles is held too, and leads no further.
  settles : (d : ℕ) (n : Node) → machine.Stops s d n → IsHeld s n → IsHeld s (settle s n) × (link s (settle s n) ≡ None)
  settles zero n e i = subst (λ (k : Node). IsHeld s k × (link s k ≡ None)) (sym (settles_here s n e)) (i, e)
  settles (suc d) n e i = subst (λ (k : Node). IsHeld s k × (link s k ≡ None)) (sym (law.follows s d n e.0 e.1 e.2)) (settles d e.0 e.2 (h.links n e.0 i.0 e.1))

  pub at_end : (n : Node) → IsHeld s n → IsHeld s (settle s n) × (link s (settle s n) ≡ None)
  at_end n i = let a = h.stop n in settles a.0 n a.1 i

  pub may_go : (n : Node) → IsHeld s n → MayGoTo s other out back n
  may_go n i =
      let a = at_end n i in
      let may : MayRoute s other out back (settle s n) = record { stops = a.1; wire = a.0.1; theirs = h.theirs; links = h.named; asks = may_ask } in
      record { rest = links_rest; there = i.0; may = may }

  pub says : (w : Around) → w.other ≡ other → (n : Node) → IsHeld s n → MaySay w s (settle s n)
  says w same n i = let a = at_end n i in record { stops = a.1; there = a.0.0; wire = a.0.1; theirs = subst (λ (t : State). (e : ℕ) (x : Export) → map.get t.exports e ≡ Some x → is_wire x.node ≡ false) (sym same) h.theirs }

  pub last_loop : (e : ℕ) → map.get s.embargoes e ≡ None → IsLastLoop e out back
  last_loop e free = record { sent = loops_map _ _ _ _ out other_loop (λ k i. i) h.sent; echoed = loops_map _ _ _ _ back (λ k i. i) other_loop h.echoed }
    where
      other_loop : (k : ℕ) → IsSome (map.get s.embargoes k) → nat_eq k e ≡ false
      other_loop k i = differ (λ j. IsSome (map.get s.embargoes j)) k e i (λ u. none_there Embargo (subst (λ (z : Option Embargo). IsSome z) free u))

pub may_say : (w : Around) (s : State) (out : List Message) → Midway s w.other out w.back → (n : Node) → IsHeld s n → MaySay w s (settle s n)
may_say w s out h n i = says s w.other out w.back h w refl n i

pub may_send : (w : Around) (d : Progress) → Midway d.state w.other (w.out ++ d.effects.sends) w.back → (e : ℕ) (x : Export) → map.get d.state.exports e ≡ Some x → MaySend w d e x.node
may_send w d h e x f =
    let a = h.exports e x f in
    record {
      met = h.met;
      links = h.named;
      rest = links_rest d.state w.other (w.out ++ d.effects.sends) w.back h;
      own = a.0;
      there = a.1.0;
      of = (x, f, refl);
      says = may_say w d.state (w.out ++ d.effects.sends) h x.node a.1;
    }

pub may_advance : (w : Around) (d : Progress) → Midway d.state w.other (w.out ++ d.effects.sends) w.back → d.state.level ≡ One → (r : ℕ) (x : Reference) → map.get d.state.refs r ≡ Some x → MayAdvance w d x
may_advance w d h level r x f =
    let i = h.heads r x f in
    let a = at_end d.state w.other (w.out ++ d.effects.sends) w.back h x.head i in
    record {
      level = level;
      rest = links_rest d.state w.other (w.out ++ d.effects.sends) w.back h;
      there = λ own. i.0;
      wire = a.0.1;
      theirs = h.theirs;
      loop = last_loop d.state w.other (w.out ++ d.effects.sends) w.back h;
    }
