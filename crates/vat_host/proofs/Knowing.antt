-- What a host knows of its objects after each step.
use Rattle.std.proofs.Common.{◌≡◌, ◌≢◌, ◌⊎◌, ◌<◌, inl, inr, ℕ, Bool, nat_lt, arith, true, false, Option, None, Some, IsSome, Ok, refl, sym, ap, subst, ◌∙◌}
use Rattle.std.specs.FinMap as map
use Rattle.finite_maps.proofs.Gets.{at_each, get-insert_same, get-insert_other, get-remove_other}
use Rattle.rpc_msg.specs.declared.ids.ObjectId.{ObjectId}
use Rattle.rpc_msg.specs.declared.ids.Vat.{Vat}
use Rattle.rpc_msg.specs.declared.message.Message.{Message}
use Rattle.rpc_machine.specs.declared.command.Command.{Command}
use Rattle.rpc_machine.specs.declared.command.Command.TheVariants as command
use Rattle.rpc_machine.specs.declared.command.Effects.{Effects}
use Rattle.rpc_machine.specs.declared.command.Granted.{Granted}
use Rattle.rpc_machine.specs.declared.command.Level.{Level}
use Rattle.rpc_machine.specs.State.{State, start}
use Rattle.rpc_machine.specs.Steps.{Obeys, Receives}
use Rattle.rpc_machine.specs.Places.{names}
use Rattle.rpc_uses.specs.Objects.{names_object}
use Rattle.laws_released.specs.Names.{Hosts, IsNamed, is_object}
use Rattle.laws_released.specs.Known.{KnowsAll}
use Rattle.laws_released.proofs.Known.{stays_known}
use Rattle.vat_host.specs.Hosting.{hosted_by}
use Rattle.vat_host.specs.Objects.{Objects, no_objects, with_object}

hosts_none : (c : Command) (o : ObjectId) → hosted_by c ≡ None → c ≡ command.Host o → ⊥
hosts_none c o none is = absurd (let e : ◌≡◌ {A = Option ObjectId} (Some o) None = sym (ap hosted_by is) ∙ none in cc)

-- A command that hosts nothing.
pub by_command : (s : State) (c : Command) (g : Granted) (x : Effects) (t : State) (known : Objects) → hosted_by c ≡ None → Obeys s c (Ok g) x t → KnowsAll s known → KnowsAll t known
by_command s c g x t known none h all o named = by (stays_known.commands s c (Ok g) x t h known all o named)
  where
    by : IsSome (map.get known o.0) ⊎ Hosts c (Ok g) o → IsSome (map.get known o.0)
    by (inl there) = there
    by (inr is) = absurd (hosts_none c o none is)

-- One is hosted.
pub by_host : (s : State) (p : ObjectId) (g : Granted) (x : Effects) (t : State) (known : Objects) → Obeys s (command.Host p) (Ok g) x t → KnowsAll s known → KnowsAll t (map.insert known p.0 tt)
by_host s p g x t known h all o named = by (stays_known.commands s (command.Host p) (Ok g) x t h known all o named)
  where
    here : IsSome (map.get (map.insert known p.0 tt) p.0)
    here = subst (λ (k : Option (Unit {0})). IsSome k) (sym (get-insert_same known p.0 tt)) refl

    by : IsSome (map.get known o.0) ⊎ Hosts (command.Host p) (Ok g) o → IsSome (map.get (map.insert known p.0 tt) o.0)
    by (inl there) =
        at_each (λ q. IsSome (map.get known q) → IsSome (map.get (map.insert known p.0 tt) q)) p.0
        (λ _. here)
        (λ q apart there. subst (λ (k : Option (Unit {0})). IsSome k) (sym (get-insert_other known p.0 tt q apart)) there)
        o.0 there
    by (inr is) =
        let e : ◌≡◌ {A = Option ObjectId} (Some p) (Some o) = ap hosted_by is in
        let same : p ≡ o = cc in
        subst (λ (k : ObjectId). IsSome (map.get (map.insert known p.0 tt) k.0)) same here

-- A message comes.
pub by_message : (s : State) (m : Message) (x : Effects) (t : State) (known : Objects) → Receives s m x t → KnowsAll s known → KnowsAll t known
by_message s m x t known h all = stays_known.messages s m x t h known all

-- One that is released is known no more.
pub by_release : (s : State) (p : ObjectId) (known : Objects) → KnowsAll s known → names_object s p ≡ false → s.bootstrap ≢ Some p → KnowsAll s (map.remove known p.0)
by_release s p known all unnamed other o h = subst (λ (k : Option (Unit {0})). IsSome k) (sym (get-remove_other known p.0 o.0 (apart h))) (all o h)
  where
    unnamed_alone : (n : ℕ) → 0 < n → nat_lt 0 n ≡ false → ⊥
    unnamed_alone n above e = absurd (let f : nat_lt 0 n ≡ true = grind (arith, above) in let g : ◌≡◌ {A = Bool} false true = sym e ∙ f in cc)

    same : o.0 ≡ p.0 → o ≡ p
    same e = ap (λ (k : ℕ). let x : ObjectId = record { 0 = k } in x) e

    apart : IsNamed s o ⊎ (s.bootstrap ≡ Some o) → o.0 ≢ p.0
    apart (inl named) e = unnamed_alone (names s (is_object p)) (subst (λ (x : ObjectId). 0 < names s (is_object x)) (same e) named) unnamed
    apart (inr root) e = other (subst (λ (x : ObjectId). s.bootstrap ≡ Some x) (same e) root)

-- The bootstrap object of a new vat is known.
first_there : (root : Option ObjectId) (o : ObjectId) → root ≡ Some o → IsSome (map.get (with_object root no_objects) o.0)
first_there None o e = absurd (let f : ◌≡◌ {A = Option ObjectId} None (Some o) = e in cc)
first_there (Some p) o e =
    let same : p ≡ o = cc in
    subst (λ (k : ObjectId). IsSome (map.get (map.insert no_objects p.0 tt) k.0)) same
    (subst (λ (k : Option (Unit {0})). IsSome k) (sym (get-insert_same no_objects p.0 tt)) refl)

pub at_first : (v : Vat) (l : Level) (root : Option ObjectId) → KnowsAll (start v l root) (with_object root no_objects)
at_first v l root = stays_known.new v l root (with_object root no_objects) (first_there root)
