-- What changes of imports and exports let come and go among the places of a vat.
use Rattle.std.proofs.Common.{◌≡◌, ℕ, ◌+◌, ◌-◌, nat_le, cond, Bool, true, false, List, [], ◌∷◌, ◌++◌, Option, None, Some, refl, sym, ap, subst}
use Rattle.std.specs.FinMap as map
use Rattle.rpc_machine.specs.rpc_msg.specs.declared.parts.Descriptor.{Descriptor}
use Rattle.rpc_machine.specs.rpc_msg.specs.declared.parts.Descriptor.TheVariants as descriptor
use Rattle.rpc_machine.specs.declared.node.Node.{Node}
use Rattle.rpc_machine.specs.declared.command.Level.{Level}
use Rattle.rpc_machine.specs.declared.command.Level.TheVariants.{Zero, One}
use Rattle.rpc_machine.specs.declared.entries.Import.{Import}
use Rattle.rpc_machine.specs.declared.entries.Export.{Export}
use Rattle.rpc_machine.specs.declared.entries.Resolution.{Resolution}
use Rattle.rpc_machine.specs.declared.entries.SenderKind.{SenderKind}
use Rattle.rpc_machine.specs.declared.entries.SenderKind.TheVariants as kind
use Rattle.rpc_machine.specs.State.{State}
use Rattle.rpc_machine.specs.Lists.{how_many, updated}
use Rattle.rpc_machine.specs.Places.{places, named_by_resolution, named_by_import}
use Rattle.rpc_machine.specs.Progress.{Progress}
use Rattle.rpc_machine.specs.Descriptors.{Exported, ExportedAs, import_one, received, take_one, take_each, take_at, take_all}
use Rattle.rpc_machine.specs.Messages.{resolve_import, set_resolution}
use Rattle.rpc_machine.specs.Flags.{give_one, lowered, lower_by}
use Rattle.rpc_machine.specs.Collecting.{without_import}
use Rattle.laws_acts.specs.Alike.{Alike, come_by_naming, gone_by_lowering, gone_by_giving}
use Rattle.laws_acts.proofs.Tables.{tables}
use Rattle.laws_acts.proofs.Likeness.{alike_on, stays}

-- ---- Imports

receives : (s : State) (k : SenderKind) (e : ℕ) (o : Option Import) → map.get s.imports e ≡ o → Alike (places s) (places (record s { imports = map.insert s.imports e (received k o) }))
receives s k e None is = tables.imports.comes s e (received k None) is
receives s k e (Some x) is = stays tables.imports s e x (received k (Some x)) is (λ test. refl)

-- One more of it was received.
pub import_received : (s : State) (k : SenderKind) (e : ℕ) → Alike (places s) (places (import_one s k e))
import_received s k e = receives s k e (map.get s.imports e) refl

takes_one : (s : State) (d : Descriptor) → Alike (places s) (places (take_one s d))
takes_one s descriptor.None = λ test. refl
takes_one s (descriptor.SenderHosted e) = import_received s kind.Hosted e.0
takes_one s (descriptor.SenderPromise e) = import_received s kind.Promise e.0
takes_one s (descriptor.ReceiverHosted e) = λ test. refl
takes_one s (descriptor.ReceiverAnswer q path) = λ test. refl

takes_each : (s : State) (ds : List Descriptor) → Alike (places s) (places (take_each s ds))
takes_each s [] = λ test. refl
takes_each s (d ∷ ds) = alike_on (places s) (places (take_one s d)) (places (take_each (take_one s d) ds)) (takes_one s d) (takes_each (take_one s d) ds)

takes_at : (level : Level) (s : State) (ds : List Descriptor) → Alike (places s) (places (take_at level s ds))
takes_at Zero s ds = λ test. refl
takes_at One s ds = takes_each s ds

pub imports_taken : (s : State) (ds : List Descriptor) → Alike (places s) (places (take_all s ds))
imports_taken s ds = takes_at s.level s ds

gives_at : (s : State) (e : ℕ) (x : Import) (b : Bool) → map.get s.imports e ≡ Some x
    → Alike (places s) (cond b (named_by_import e x) [] ++ places (record s { imports = cond b (map.remove s.imports e) (map.insert s.imports e (record x { count = x.count - 1 })) }))
gives_at s e x true there = tables.imports.goes s e x there
gives_at s e x false there = stays tables.imports s e x (record x { count = x.count - 1 }) there (λ test. refl)

gives : (s : State) (e : ℕ) (o : Option Import) → map.get s.imports e ≡ o → Alike (places s) (gone_by_giving e o ++ places (record s { imports = give_one s.imports e o }))
gives s e None is = λ test. refl
gives s e (Some x) is = gives_at s e x (nat_le x.count 1) is

-- One of its count is given back.
pub import_given : (s : State) (e : ℕ) → Alike (places s) (gone_by_giving e (map.get s.imports e) ++ places (record s { imports = give_one s.imports e (map.get s.imports e) }))
import_given s e = gives s e (map.get s.imports e) refl

-- It is resolved.
pub import_resolved : (s : State) (e : ℕ) (said : Resolution) (x y : Import) → map.get s.imports e ≡ Some x → Alike (named_by_resolution (Some said) ++ places s) (named_by_resolution x.resolution ++ places (resolve_import s e said (Some y)))
import_resolved s e said x y there =
    subst (λ (o : Option Import). Alike (named_by_resolution (Some said) ++ places s) (named_by_resolution x.resolution ++ places (record s { imports = updated s.imports e (set_resolution said) o }))) (sym there)
    (tables.imports.changes s e x (set_resolution said x) there)

-- It goes, with its whole count.
pub import_goes : (d : Progress) (e : ℕ) (x : Import) → map.get d.state.imports e ≡ Some x → Alike (places d.state) (named_by_import e x ++ places (without_import d e).state)
import_goes d e x there = tables.imports.goes d.state e x there

-- ---- Exports

names_by : (s : State) (n : Node) (e : ℕ) (o : Option Export) (new : State) → map.get s.exports e ≡ o → ExportedAs s n e o new → Alike (come_by_naming n o ++ places s) (places new)
names_by s n e None new is h =
    subst (λ (t : State). Alike (n ∷ places s) (places t)) (sym h.1) (tables.exports.comes s e (record { node = n; count = 1 }) is)
names_by s n e (Some x) new is h =
    subst (λ (t : State). Alike (places s) (places t)) (sym h.1) (stays tables.exports s e x (record { node = n; count = x.count + 1 }) is (λ test. ap (λ n. how_many test (n ∷ [])) h.0))

-- A node goes out as an export.
pub export_named : (s : State) (n : Node) (e : ℕ) (new : State) → Exported s n e new → Alike (come_by_naming n (map.get s.exports e) ++ places s) (places new)
export_named s n e new h = names_by s n e (map.get s.exports e) new refl h

pub export_goes : (s : State) (e : ℕ) (x : Export) → map.get s.exports e ≡ Some x → Alike (places s) (x.node ∷ places (record s { exports = map.remove s.exports e }))
export_goes s e x there = tables.exports.goes s e x there

lowers_at : (s : State) (e n : ℕ) (x : Export) (b : Bool) → map.get s.exports e ≡ Some x
    → Alike (places s) (cond b (x.node ∷ []) [] ++ places (record s { exports = cond b (map.remove s.exports e) (map.insert s.exports e (record x { count = x.count - n })) }))
lowers_at s e n x true there = export_goes s e x there
lowers_at s e n x false there = stays tables.exports s e x (record x { count = x.count - n }) there (λ test. refl)

lowers : (s : State) (e n : ℕ) (o : Option Export) → map.get s.exports e ≡ o → Alike (places s) (gone_by_lowering n o ++ places (record s { exports = lowered s.exports e n o }))
lowers s e n None is = λ test. refl
lowers s e n (Some x) is = lowers_at s e n x (nat_le x.count n) is

-- Its count falls by n.
pub export_lowered : (s : State) (e n : ℕ) → Alike (places s) (gone_by_lowering n (map.get s.exports e) ++ places (record s { exports = lower_by s.exports e n }))
export_lowered s e n = lowers s e n (map.get s.exports e) refl
