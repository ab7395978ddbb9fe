-- What a store counts is what its state names.
use Rattle.std.proofs.Common.{◌≡◌, ◌≢◌, ℕ, zero, suc, ◌<◌, false, true, List, [], Option, None, Some, IsSome, refl, subst, arith}
use Rattle.std.specs.FinMap as map
use Rattle.finite_maps.specs.Tally.{Map}
use Rattle.rpc_uses.proofs.Sizes.{AreKeysOf, no_more_keys}
use Rattle.rpc_machine.specs.declared.calls.HeldCall.{HeldCall}
use Rattle.rpc_machine.specs.Nodes.{is_field, is_import, is_pipe}
use Rattle.rpc_machine.specs.Places.{places, names}
use Rattle.rpc_uses.specs.Objects.{is_the_object, objects_among, named_objects}
use Rattle.rpc_uses.proofs.NamedObjects.{is_in, is_of}
use Rattle.laws_acts.specs.Alike.{places_beside}
use Rattle.core_refcounts.specs.Names.{Counts, HasNoZeros, count_of, times}
use Rattle.core_store.specs.declared.store.Store.{Store}
use Rattle.core_store.specs.Holding.{state_of, IsSound}

counts_now : (x : Store) → x.waits.taken ≡ [] → IsSound x → Counts x.names (places (state_of x))
counts_now x none h = subst (λ (hs : List HeldCall). Counts x.names (places_beside hs (state_of x))) none h.counted

pub object_counted : (x : Store) (k : ℕ) → x.waits.taken ≡ [] → IsSound x → times x.names.objects.counts k ≡ names (state_of x) (is_the_object k)
object_counted x k none h = (counts_now x none h).objects k

pub outcome_counted : (x : Store) (k : ℕ) → x.waits.taken ≡ [] → IsSound x → times x.names.outcomes.counts k ≡ names (state_of x) (is_field k)
outcome_counted x k none h = (counts_now x none h).outcomes k

pub import_counted : (x : Store) (k : ℕ) → x.waits.taken ≡ [] → IsSound x → times x.names.imports.counts k ≡ names (state_of x) (is_import k)
import_counted x k none h = (counts_now x none h).imports k

pub question_counted : (x : Store) (k : ℕ) → x.waits.taken ≡ [] → IsSound x → times x.names.questions.counts k ≡ names (state_of x) (is_pipe k)
question_counted x k none h = (counts_now x none h).questions k

some_counted : (o : Option ℕ) → o ≢ Some 0 → IsSome o → 0 < count_of o
some_counted None h e = absurd (let f : false ≡ true = e in cc)
some_counted (Some zero) h e = absurd (h refl)
some_counted (Some (suc n)) h e = omega arith

counted_some : (o : Option ℕ) → 0 < count_of o → IsSome o
counted_some None h = absurd (omega (arith, h))
counted_some (Some n) h = refl

-- Each object that has a count is named, and each that is named has one. So there are as many.
pub objects_counted : (x : Store) → HasNoZeros x.names.objects.counts → x.waits.taken ≡ [] → IsSound x → map.len x.names.objects.counts ≡ named_objects (state_of x)
objects_counted x no_zeros none h =
    let m : Map ℕ = x.names.objects.counts in
    let n : Map (Unit {0}) = objects_among (places (state_of x)) in
    let into : AreKeysOf m n = λ k there. is_in k (places (state_of x)) (let e = object_counted x k none h in let f = some_counted (map.get m k) (no_zeros k) there in omega (arith, e, f)) in
    let back : AreKeysOf n m = λ k there. counted_some (map.get m k) (let e = object_counted x k none h in let f = is_of k (places (state_of x)) there in omega (arith, e, f)) in
    let a = no_more_keys (map.len m) m n refl into in
    let b = no_more_keys (map.len n) n m refl back in
    omega (arith, a, b)
