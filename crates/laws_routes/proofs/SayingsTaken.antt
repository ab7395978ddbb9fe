-- What is said on the way, as its receiver takes descriptors.
use Rattle.std.specs.FinMap as map
use Rattle.std.specs.Prelude.{◌||◌, is_some}
use Rattle.std.proofs.Common.{◌≡◌, ℕ, Bool, nat_eq, true, false, List, [], ◌∷◌, refl, sym, subst, arith}
use Rattle.finite_maps.specs.Tally.{Map}
use Rattle.finite_maps.proofs.Tested.{at_put}
use Rattle.rpc_msg.specs.declared.ids.Vat.{Vat}
use Rattle.rpc_msg.specs.declared.parts.Descriptor.{Descriptor}
use Rattle.rpc_msg.specs.declared.parts.Descriptor.TheVariants as descriptor
use Rattle.rpc_msg.specs.declared.message.Message.{Message}
use Rattle.rpc_msg.specs.Messages.{given}
use Rattle.rpc_machine.specs.declared.command.Level.{Level}
use Rattle.rpc_machine.specs.declared.command.Level.TheVariants.{Zero, One}
use Rattle.rpc_machine.specs.declared.entries.Export.{Export}
use Rattle.rpc_machine.specs.declared.entries.SenderKind.{SenderKind}
use Rattle.rpc_machine.specs.declared.entries.SenderKind.TheVariants as kind
use Rattle.rpc_machine.specs.State.{State}
use Rattle.rpc_machine.specs.Descriptors.{import_one, received, take_all, take_at, take_each}
use Rattle.laws_order.specs.Machine.{Net}
use Rattle.laws_routes.specs.Points.{routes}
use Rattle.laws_routes.specs.Ghosts.{Ghost}
use Rattle.laws_routes.specs.Sayings.{AllSaid, has_behind, has_of, is_among}
use Rattle.laws_routes.proofs.SayingsCarried.{each_return, said_of_fewer}

one_taken : (s : State) (k : SenderKind) (i : ℕ) (es : List ℕ) (e : ℕ) → (is_among e es || is_some (map.get (import_one s k i).imports e)) ≡ true → (is_among e (i ∷ es) || is_some (map.get s.imports e)) ≡ true
one_taken s k i es = at_put (λ j o. (is_among j es || is_some o) ≡ true → ((nat_eq j i || is_among j es) || is_some (map.get s.imports j)) ≡ true) s.imports i (received k (map.get s.imports i))
    (λ h. (let e : nat_eq i i ≡ true = grind (arith) in subst (λ (b : Bool). ((b || is_among i es) || is_some (map.get s.imports i)) ≡ true) (sym e) refl))
    (λ j n h. subst (λ (b : Bool). ((b || is_among j es) || is_some (map.get s.imports j)) ≡ true) (sym n) h)

each_taken : (s : State) (ds : List Descriptor) (e : ℕ) → is_some (map.get (take_each s ds).imports e) ≡ true → (is_among e (given ds) || is_some (map.get s.imports e)) ≡ true
each_taken s [] e h = h
each_taken s (descriptor.None ∷ ds) e h = each_taken s ds e h
each_taken s (descriptor.SenderHosted i ∷ ds) e h = one_taken s kind.Hosted i.0 (given ds) e (each_taken (import_one s kind.Hosted i.0) ds e h)
each_taken s (descriptor.SenderPromise i ∷ ds) e h = one_taken s kind.Promise i.0 (given ds) e (each_taken (import_one s kind.Promise i.0) ds e h)
each_taken s (descriptor.ReceiverHosted i ∷ ds) e h = each_taken s ds e h
each_taken s (descriptor.ReceiverAnswer q path ∷ ds) e h = each_taken s ds e h

-- A level 0 vat keeps no more imports than it has.
pub all_taken : (l : Level) (s : State) (ds : List Descriptor) (e : ℕ) → is_some (map.get (take_at l s ds).imports e) ≡ true → (is_among e (given ds) || is_some (map.get s.imports e)) ≡ true
all_taken Zero s ds e h = had (is_among e (given ds)) h
  where
    had : (b : Bool) → is_some (map.get s.imports e) ≡ true → (b || is_some (map.get s.imports e)) ≡ true
    had true h = refl
    had false h = h
all_taken One s ds e h = each_taken s ds e h

pub said_as_taken : (n : Net routes) (v : Vat) (E : Map Export) (g : Ghost) (u : Vat) (F : Map Export) (f : Ghost) (s : State) (ds : List Descriptor) (now : ℕ → ℕ) (ms : List Message) → AllSaid n v E g u F f (has_behind (has_of [] s.imports s.questions) ds) now ms
    → AllSaid n v E g u F f (has_of [] (take_all s ds).imports s.questions) now ms
said_as_taken n v E g u F f s ds now ms h = said_of_fewer n v E g u F f (has_behind (has_of [] s.imports s.questions) ds) (has_of [] (take_all s ds).imports s.questions) now ms (all_taken s.level s ds) (each_return _ ms (λ q e. e)) h
