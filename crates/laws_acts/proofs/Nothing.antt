-- A vat that is new, or down, names nothing.
use Rattle.std.proofs.Common.{◌≡◌, ℕ, Bool, List, [], ◌∷◌, Option, refl, sym, ◌∙◌, length, arith}
use Rattle.std.specs.Ordering.{nat_cmp}
use Rattle.std.specs.FinMap as map
use Rattle.rpc_machine.specs.declared.node.Node.{Node}
use Rattle.rpc_machine.specs.rpc_msg.specs.declared.ids.Vat.{Vat}
use Rattle.rpc_machine.specs.rpc_msg.specs.declared.ids.ObjectId.{ObjectId}
use Rattle.rpc_machine.specs.declared.command.Level.{Level}
use Rattle.rpc_machine.specs.State.{start}
use Rattle.rpc_machine.specs.Lists.{how_many, from_each}
use Rattle.rpc_machine.specs.Places.{named_by_reference, named_by_embargo, named_by_promise, named_by_outcome, named_by_question, named_by_import, named_by_export, named_by_answer, places}
use Rattle.laws_acts.specs.Alike.{Alike, part}
use Rattle.laws_acts.specs.Laws.{NothingNamed}
use Rattle.laws_acts.proofs.Parts.{names_are}

no_entries : {X : Type 0} (test : Node → Bool) (f : ℕ → X → List Node) (es : List (ℕ × X)) → length es ≡ 0 → how_many test (from_each f es) ≡ 0
no_entries test f [] none = refl
no_entries test f (e ∷ es) none = absurd (omega (arith, none))

part_empty : {X : Type 0} (test : Node → Bool) (f : ℕ → X → List Node) → part test f map.empty ≡ 0
part_empty {X} test f = no_entries test f (map.entries map.empty) (sym (map.len-entries (map.empty {X = X} {R = nat_cmp})) ∙ map.len-empty nat_cmp X)

at_start : (vat : Vat) (level : Level) (bootstrap : Option ObjectId) → Alike (places (start vat level bootstrap)) []
at_start vat level bootstrap = λ test.
    let all = names_are test (start vat level bootstrap) in
    let a = part_empty test named_by_reference in
    let b = part_empty test named_by_embargo in
    let c = part_empty test named_by_promise in
    let d = part_empty test named_by_outcome in
    let e = part_empty test named_by_question in
    let f = part_empty test named_by_import in
    let g = part_empty test named_by_export in
    let h = part_empty test named_by_answer in
    omega (arith, all, a, b, c, d, e, f, g, h)

pub nothing_named : NothingNamed
nothing_named = record { new = at_start; down = λ s n. at_start s.vat s.level s.bootstrap }
