-- A call through a reference of a vat that is reached finds where it goes.
use Rattle.std.proofs.Common.{◌≡◌, ◌≤◌, ℕ, Option, None, Some, IsSome, inl, refl, subst}
use Rattle.std.specs.FinMap as map
use Rattle.rpc_machine.specs.declared.node.Node.{Node}
use Rattle.rpc_machine.specs.declared.node.Node.TheVariants as node
use Rattle.rpc_machine.specs.declared.calls.Promise.{Promise}
use Rattle.rpc_machine.specs.declared.calls.Promise.TheVariants as promise
use Rattle.rpc_machine.specs.declared.entries.Reference.{Reference}
use Rattle.rpc_machine.specs.declared.entries.Embargo.{Embargo}
use Rattle.rpc_msg.specs.declared.ids.EmbargoId.{EmbargoId}
use Rattle.rpc_machine.specs.State.{State}
use Rattle.rpc_machine.specs.Nodes.{promise_link, link, settle}
use Rattle.rpc_machine.specs.Places.{named_by_reference}
use Rattle.core_waits.specs.Changes.{IsOpen}
use Rattle.laws_steps.specs.Settled.{IsThere, AreThere}
use Rattle.laws_steps.specs.NodesThere.{IsWhole}
use Rattle.laws_steps.proofs.Among.{named, in_refs}
use Rattle.laws_steps.proofs.LeadsOn.{there_where_it_settles}
use Rattle.laws_nodes.specs.Settling.{AllStop, Settling}
use Rattle.laws_nodes.specs.Embargoes.{ArePaired, HasIts, IsOf, embargo_of}
use Rattle.core_step_commands.specs.Fitting.{IsOpenThere}
use Rattle.core_step_commands.specs.Prepared.{reason_limit}
use Rattle.core_steps.specs.Calling.{broken_by, broken_through, broken_at}
use Rattle.core_step_commands.specs.Ways.{GoesThrough, GoesBy, GoesSomewhere}
use Rattle.laws_steps.proofs.Reached.{own_there}

open_promise : (o : Option Promise) → IsSome o → promise_link o ≡ None → IsOpen o
open_promise None there h = cc
open_promise (Some (promise.Open calls)) there h = tt
open_promise (Some (promise.Fixed to)) there h = let bad : Some to ≡ None = h in cc

open_there : (room : ℕ) (s : State) (n : Node) → IsThere s n → link s n ≡ None → (IsSome (broken_by n) → reason_limit ≤ room) → IsOpenThere room s n
open_there room s (node.Object o) h none fits = tt
open_there room s (node.Promise p) h none fits = open_promise (map.get s.promises p) h none
open_there room s (node.Field o path) h none fits = h
open_there room s (node.Import e) h none fits = tt
open_there room s (node.Pipe q path) h none fits = tt
open_there room s (node.Broken reason) h none fits = fits refl

embargo_there : (r : ℕ) (b : Option Embargo) → IsOf r b → IsSome b
embargo_there r None h = absurd h
embargo_there r (Some b) h = refl

module _ (s : State) (whole : IsWhole s) (stops : AllStop s) (settles : Settling) (paired : ArePaired s) (room : ℕ) where
  all_there : AreThere s
  all_there n among = own_there s n (whole.there n among)

  head_there : (r : ℕ) (x : Reference) → map.get s.refs r ≡ Some x → (IsSome (broken_by (settle s x.head)) → reason_limit ≤ room) → IsOpenThere room s (settle s x.head)
  head_there r x is fits =
      let there = all_there x.head (in_refs s x.head (named named_by_reference r x x.head s.refs is (inl refl))) in
      open_there room s (settle s x.head) (there_where_it_settles s all_there x.head there) (settles.ends s stops x.head) fits

  through : (r : ℕ) (x : Reference) → map.get s.refs r ≡ Some x → (o : Option EmbargoId) → x.embargo ≡ o → (IsSome (broken_through s x.head o) → reason_limit ≤ room) → GoesThrough room s x.head o
  through r x is None e fits = head_there r x is fits
  through r x is (Some k) e fits =
      embargo_there r (map.get s.embargoes k.0)
      (subst (λ (o : Option EmbargoId). HasIts s.embargoes r o) e (subst (λ (o : Option Reference). HasIts s.embargoes r (embargo_of o)) is (paired.theirs r)))

  by : (r : ℕ) (o : Option Reference) → map.get s.refs r ≡ o → IsSome o → (IsSome (broken_at s o) → reason_limit ≤ room) → GoesBy room s o
  by r None is there fits = cc
  by r (Some x) is there fits = through r x is x.embargo refl fits

  pub goes_somewhere : (r : ℕ) → IsSome (map.get s.refs r) → (IsSome (broken_at s (map.get s.refs r)) → reason_limit ≤ room) → GoesSomewhere room s r
  goes_somewhere r there fits = by r (map.get s.refs r) refl there fits
