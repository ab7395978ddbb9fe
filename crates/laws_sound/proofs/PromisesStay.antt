-- The first act of a step lets no promise go.
use Rattle.std.proofs.Common.{◌≡◌, ℕ, Option, Some, [], refl}
use Rattle.std.specs.FinMap as map
use Rattle.finite_maps.proofs.Tested.{at_put}
use Rattle.rpc_msg.specs.declared.message.Message.{Message}
use Rattle.rpc_machine.specs.declared.calls.Promise.{Promise}
use Rattle.rpc_machine.specs.declared.calls.Promise.TheVariants as promise
use Rattle.rpc_machine.specs.declared.command.Command.{Command}
use Rattle.rpc_machine.specs.declared.command.Granted.{Granted}
use Rattle.rpc_machine.specs.declared.node.Node.TheVariants as node
use Rattle.rpc_machine.specs.declared.node.Reason.TheVariants.{BrokenPromise}
use Rattle.rpc_machine.specs.State.{State}
use Rattle.laws_acts.specs.Moments.{Moment, beginning}
use Rattle.laws_acts.specs.FirstActs.{Starts}
use Rattle.laws_acts.specs.FirstActs as first
use Rattle.laws_acts.specs.MessageActs.{Consumes}
use Rattle.laws_acts.specs.MessageActs as heard

module _ (s : State) where
  abbrev pub Stay : Moment → Type 0
  Stay d = (p : ℕ) (y : Promise) → map.get s.promises p ≡ Some y → (z : Promise) × (map.get d.state.promises p ≡ Some z)

  same : (p : ℕ) (y : Promise) → map.get s.promises p ≡ Some y → (z : Promise) × (map.get s.promises p ≡ Some z)
  same p y e = (y, e)

  put : (k : ℕ) (x : Promise) (p : ℕ) (y : Promise) → map.get s.promises p ≡ Some y → (z : Promise) × (map.get (map.insert s.promises k x) p ≡ Some z)
  put k x p = at_put (λ (j : ℕ) (o : Option Promise). (y : Promise) → map.get s.promises j ≡ Some y → (z : Promise) × (o ≡ Some z)) s.promises k x (λ y e. (x, refl)) (λ j g y e. (y, e)) p

  pub started : (c : Command) (g : Granted) (new : Moment) → Starts (beginning s) c g new → Stay new
  started c g new (first.AsksRoot p e f a u) = rw u same
  started c g new (first.CallsOut y x p t ds es e f j l m o a u) = rw u same
  started c g new (first.CallsHere y x o e f j l m a u) = rw u same
  started c g new (first.CallsLater y x o z w e f j l m a u) = rw u same
  started c g new (first.Hosts o e a u) = rw u same
  started c g new (first.Clones y x e f a u) = rw u same
  started c g new (first.NamesField y path from e f a u) = rw u same
  started c g new (first.Promises p e f a u) = rw u (put p (promise.Open []))
  started c g new (first.Drops y x e f a u) = rw u same
  started c g new (first.Fixes p y x key calls e f j l a u) = rw u (put key (promise.Fixed x.head))
  started c g new (first.Rejects p why key calls e f j a u) = rw u (put key (promise.Fixed (node.Broken BrokenPromise)))
  started c g new (first.Answers t payload refs o e f a u) = rw u same
  started c g new (first.Fails t why o e f a u) = rw u same
  started c g new (first.Finishes y from e f a u) = rw u same
  started c g new (first.StaysPut y x e f a u) = rw u same
  started c g new (first.Breaks y x reason e f j l a u) = rw u same
  started c g new (first.Switches y x by n0 e f j l m o a u) = rw u same
  started c g new (first.Turns y x by n0 t z e f j l m o w p a u) = rw u same

  pub consumed : (m : Message) (new : Moment) → Consumes (beginning s) m new → Stay new
  consumed m new (heard.OpensRoot p o e f j u) = rw u same
  consumed m new (heard.OpensCall c o e f j u) = rw u same
  consumed m new (heard.Loses y x e f j k u) = rw u same
  consumed m new (heard.ComesToCall y x c e f j k l u) = rw u same
  consumed m new (heard.ComesToRelay y x o e f j k l u) = rw u same
  consumed m new (heard.IsFinished x z e f j u) = rw u same
  consumed m new (heard.IsResolved x e u) = rw u same
  consumed m new (heard.IsReleased x e u) = rw u same
  consumed m new (heard.SendsBack t to x e f u) = rw u same
  consumed m new (heard.Lifts t x y e f u) = rw u same
  consumed m new (heard.SendsForeign p e f u) = rw u same
  consumed m new (heard.SendsOther k e u) = rw u same
  consumed m new (heard.TakesBack x e u) = rw u same
  consumed m new (heard.Ignores x e u) = rw u same
