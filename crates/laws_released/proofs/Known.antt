-- Objects that are known stay known, and their number tells when places name all of them.
use Rattle.std.proofs.Common.{◌≡◌, ◌≢◌, ◌⊎◌, inl, inr, ℕ, ◌+◌, true, false, cond, Option, None, Some, IsSome, IsTrue, Result, refl, sym, ap, subst, ◌∙◌, arith}
use Rattle.std.specs.FinMap as map
use Rattle.finite_maps.proofs.Gets.{get-remove_other}
use Rattle.finite_maps.proofs.Lens.{len_gone}
use Rattle.rpc_msg.specs.declared.ids.ObjectId.{ObjectId}
use Rattle.rpc_msg.specs.declared.ids.Vat.{Vat}
use Rattle.rpc_msg.specs.declared.message.Message.{Message}
use Rattle.rpc_msg.specs.declared.message.Message.TheVariants as message
use Rattle.rpc_msg.specs.declared.message.PlainMessage.TheVariants as plain
use Rattle.rpc_machine.specs.declared.command.Command.{Command}
use Rattle.rpc_machine.specs.declared.command.Effects.{Effects}
use Rattle.rpc_machine.specs.declared.command.Granted.{Granted}
use Rattle.rpc_machine.specs.declared.command.Level.{Level}
use Rattle.rpc_machine.specs.declared.command.Refusal.{Refusal}
use Rattle.rpc_machine.specs.State.{State, start}
use Rattle.rpc_machine.specs.Steps.{Obeys, Receives}
use Rattle.rpc_uses.specs.Objects.{named_objects, names_object}
use Rattle.rpc_uses.proofs.NamedObjects.{all_are_named}
use Rattle.laws_authority.specs.Grants.{Opens}
use Rattle.laws_released.specs.Names.{IsNamed, Hosts}
use Rattle.laws_released.specs.Known.{Objects, KnowsAll, StaysKnown, CountTells, unnamed_root}
use Rattle.laws_released.proofs.Steps.{of_command, of_message, none_named}

-- ---- Steps

by_command : (s : State) (c : Command) (answer : Result Granted Refusal) (x : Effects) (t : State) → Obeys s c answer x t → (known : Objects) → KnowsAll s known → (o : ObjectId) → IsNamed t o ⊎ (t.bootstrap ≡ Some o) → IsSome (map.get known o.0) ⊎ Hosts c answer o
by_command s c answer x t h known all o (inl named) = by ((of_command s c answer x t h).names o named)
  where
    by : IsNamed s o ⊎ Hosts c answer o → IsSome (map.get known o.0) ⊎ Hosts c answer o
    by (inl before) = inl (all o (inl before))
    by (inr hosted) = inr hosted
by_command s c answer x t h known all o (inr root) = inl (all o (inr (sym (of_command s c answer x t h).root ∙ root)))

opened : (s : State) (m : Message) (o : ObjectId) → Opens s m o → s.bootstrap ≡ Some o
opened s (message.Plain (plain.Bootstrap q)) o e = e
opened s (message.Plain (plain.Abort exception)) o e = absurd e
opened s (message.Plain (plain.Call c)) o e = absurd e
opened s (message.Plain (plain.Return r)) o e = absurd e
opened s (message.Plain (plain.Finish k)) o e = absurd e
opened s (message.Plain (plain.Resolve r)) o e = absurd e
opened s (message.Plain (plain.Release r)) o e = absurd e
opened s (message.Plain (plain.Disembargo d)) o e = absurd e
opened s (message.Plain (plain.Other k)) o e = absurd e
opened s (message.Unimplemented p) o e = absurd e

by_message : (s : State) (m : Message) (x : Effects) (t : State) → Receives s m x t → (known : Objects) → KnowsAll s known → KnowsAll t known
by_message s m x t h known all o (inl named) = by ((of_message s m x t h).names o named)
  where
    by : IsNamed s o ⊎ Opens s m o → IsSome (map.get known o.0)
    by (inl before) = all o (inl before)
    by (inr opens) = all o (inr (opened s m o opens))
by_message s m x t h known all o (inr root) = all o (inr (sym (of_message s m x t h).root ∙ root))

at_first : (v : Vat) (l : Level) (root : Option ObjectId) (known : Objects) → ((o : ObjectId) → root ≡ Some o → IsSome (map.get known o.0)) → KnowsAll (start v l root) known
at_first v l root known there o (inl named) = absurd (none_named v l root None o named)
at_first v l root known there o (inr e) = there o e

pub stays_known : StaysKnown
stays_known = record { commands = by_command; messages = by_message; new = at_first }

-- ---- How many there are

is_named : (s : State) (o : ObjectId) → IsTrue (names_object s o) → IsNamed s o
is_named s o h = let e : names_object s o ≡ true = h in grind (arith, e)

module _ (s : State) (known : Objects) (all : KnowsAll s known) where
  -- Nothing is known but what places name.
  as_many : map.len known ≡ named_objects s → (o : ObjectId) → IsSome (map.get known o.0) → IsTrue (names_object s o)
  as_many size = all_are_named s known (λ o n. all o (inl (is_named s o n))) size

  -- The bootstrap object is known beside what places name.
  module _ (root : ObjectId) (is : s.bootstrap ≡ Some root) (free : names_object s root ≡ false) where
    abbrev others : Objects
    others = map.remove known root.0

    apart : (o : ObjectId) → IsTrue (names_object s o) → o.0 ≢ root.0
    apart o n e = let f : names_object s o ≡ names_object s root = ap (λ (k : ℕ). names_object s (record { 0 = k })) e in absurd (let g : true ≡ false = sym n ∙ f ∙ free in cc)

    named_there : (o : ObjectId) → IsTrue (names_object s o) → IsSome (map.get others o.0)
    named_there o n = subst (λ (x : Option (Unit {0})). IsSome x) (sym (get-remove_other known root.0 o.0 (apart o n))) (all o (inl (is_named s o n)))

    size_of : (x : Option (Unit {0})) → map.get known root.0 ≡ x → IsSome x → map.len known ≡ named_objects s + 1 → map.len others ≡ named_objects s
    size_of None e h size = absurd (let f : false ≡ true = h in cc)
    size_of (Some u) e h size = let a = len_gone known root.0 u e in omega (arith, a, size)

    one_more : map.len known ≡ named_objects s + 1 → (o : ObjectId) → IsSome (map.get known o.0) → s.bootstrap ≢ Some o → IsTrue (names_object s o)
    one_more size o there other =
        all_are_named s others named_there (size_of (map.get known root.0) refl (all root (inr is)) size) o
        (subst (λ (x : Option (Unit {0})). IsSome x) (sym (get-remove_other known root.0 o.0 (λ e. other (is ∙ ap (λ (k : ℕ). let y : ObjectId = record { 0 = k } in Some y) (sym e))))) there)

  by_root : (root : Option ObjectId) → s.bootstrap ≡ root → map.len known ≡ named_objects s + unnamed_root s root → (o : ObjectId) → IsSome (map.get known o.0) → s.bootstrap ≢ Some o → IsTrue (names_object s o)
  by_root None is size o there other = as_many (omega (arith, size)) o there
  by_root (Some root) is size o there other = by (names_object s root) refl size
    where
      by : (b : _) → names_object s root ≡ b → map.len known ≡ named_objects s + cond b 0 1 → IsTrue (names_object s o)
      by true e size = as_many (omega (arith, size)) o there
      by false e size = one_more root is e size o there other

pub count_tells : CountTells
count_tells s known all size o there other = by_root s known all s.bootstrap refl size o there other
