use Rattle.std.proofs.Common.{◌≡◌, ◌⊎◌, ◌+◌, ◌-◌, ◌≤◌, ℕ, List, length, Ok, ap, sym, subst, ◌∙◌, nat_cmp, arith}
use Rattle.std.specs.Ordering.{ord_min}
use Rattle.capn_stream.specs.declared.front.Front.TheVariants.{Need}
use Rattle.capn_fronts.specs.Parts.{IsHeld, Part, count_of, front_of, keeps_of}
use Rattle.capn_fronts.specs.Readers.{Pushed}
use Rattle.capn_fronts.proofs.Held.{few_dropped, few_kept, nothing_held, table_there}
use Rattle.capn_fronts.proofs.Grown.{adds, grown_held, held_more, pushed_ok}
use Rattle.capn_fronts.proofs.reader.FrontReader.push.Goals as goal

pub extent_of-extent-requires-clause-few : goal.extent_of-extent-requires-clause-few
extent_of-extent-requires-clause-few c = few_dropped (record { kept = c.self.inside.kept.items; dropped = c.self.inside.dropped }) c.self.invariant

pub extent_of-extent-requires-clause-table : goal.extent_of-extent-requires-clause-table
extent_of-extent-requires-clause-table c =
    subst (λ (b : List ℕ). (c.self.inside.dropped ≡ 0) ⊎ (72 ≤ length b)) (sym c.deref.ensures.value) (table_there (record { kept = c.self.inside.kept.items; dropped = c.self.inside.dropped }) c.self.invariant)

pub overflow_add-len : goal.overflow_add-len
overflow_add-len c =
    let p : Part = record { kept = c.self.inside.kept.items; dropped = c.self.inside.dropped } in
    let kept = few_kept p c.self.invariant in
    let gone = few_dropped p c.self.invariant in
    omega arith

pub overflow_sub-len : goal.overflow_sub-len
overflow_sub-len c =
    let p : Part = record { kept = c.self.inside.kept.items; dropped = c.self.inside.dropped } in
    let need : front_of p ≡ Need c.in-Need.len = ap (λ (b : List ℕ). front_of (record { kept = b; dropped = c.self.inside.dropped })) (sym c.deref.ensures.value) ∙ sym c.extent_of-extent.ensures.front ∙ c.in-Need.is in
    let more = held_more p c.in-Need.len need in
    omega arith

pub add-requires-clause-few : goal.add-requires-clause-few
add-requires-clause-few c = few_dropped (record { kept = c.self.inside.kept.items; dropped = c.self.inside.dropped }) c.self.invariant

pub extent_of-requires-clause-few : goal.extent_of-requires-clause-few
extent_of-requires-clause-few c =
    let p : Part = record { kept = c.self.inside.kept.items; dropped = c.self.inside.dropped } in
    let need : front_of p ≡ Need c.in-Need.len = ap (λ (b : List ℕ). front_of (record { kept = b; dropped = c.self.inside.dropped })) (sym c.deref.ensures.value) ∙ sym c.extent_of-extent.ensures.front ∙ c.in-Need.is in
    let keeps : c.extent_of-extent.result.keeps ≡ keeps_of p = c.extent_of-extent.ensures.keeps ∙ ap (λ (b : List ℕ). keeps_of (record { kept = b; dropped = c.self.inside.dropped })) c.deref.ensures.value in
    let size : c.len.result ≡ length c.self.inside.kept.items = omega arith in
    let wanted : c.min-taken.result ≡ ord_min nat_cmp (c.in-Need.len - count_of p) (length c.args.piece.now) =
    subst (λ (n : ℕ). c.min-taken.result ≡ ord_min nat_cmp (c.in-Need.len - (n + c.self.inside.dropped)) (length c.args.piece.now)) size c.min-taken.ensures in
    (adds p c.args.piece.now c.in-Need.len c.extent_of-extent.result.keeps c.min-taken.result (record { kept = c.add.new.kept.items; dropped = c.in_ok-self-inside.field-0 }) c.self.invariant need keeps wanted
    c.in_ok-self-inside.ensures.ok).grown.small

pub extent_of-requires-clause-table : goal.extent_of-requires-clause-table
extent_of-requires-clause-table c =
    let p : Part = record { kept = c.self.inside.kept.items; dropped = c.self.inside.dropped } in
    let need : front_of p ≡ Need c.in-Need.len = ap (λ (b : List ℕ). front_of (record { kept = b; dropped = c.self.inside.dropped })) (sym c.deref.ensures.value) ∙ sym c.extent_of-extent.ensures.front ∙ c.in-Need.is in
    let keeps : c.extent_of-extent.result.keeps ≡ keeps_of p = c.extent_of-extent.ensures.keeps ∙ ap (λ (b : List ℕ). keeps_of (record { kept = b; dropped = c.self.inside.dropped })) c.deref.ensures.value in
    let size : c.len.result ≡ length c.self.inside.kept.items = omega arith in
    let wanted : c.min-taken.result ≡ ord_min nat_cmp (c.in-Need.len - count_of p) (length c.args.piece.now) =
    subst (λ (n : ℕ). c.min-taken.result ≡ ord_min nat_cmp (c.in-Need.len - (n + c.self.inside.dropped)) (length c.args.piece.now)) size c.min-taken.ensures in
    subst (λ (b : List ℕ). (c.in_ok-self-inside.field-0 ≡ 0) ⊎ (72 ≤ length b)) (sym c.deref-2.ensures.value)
    (adds p c.args.piece.now c.in-Need.len c.extent_of-extent.result.keeps c.min-taken.result (record { kept = c.add.new.kept.items; dropped = c.in_ok-self-inside.field-0 }) c.self.invariant need keeps wanted
    c.in_ok-self-inside.ensures.ok).grown.table

pub invariant_of-self-in-Fault : goal.invariant_of-self-in-Fault
invariant_of-self-in-Fault c = subst (λ (b : List ℕ). IsHeld (record { kept = b; dropped = 0 })) (sym c.new.ensures.items) nothing_held

pub invariant_of-self-in_default-front : goal.invariant_of-self-in_default-front
invariant_of-self-in_default-front c =
    let p : Part = record { kept = c.self.inside.kept.items; dropped = c.self.inside.dropped } in
    let new : Part = record { kept = c.add.new.kept.items; dropped = c.in_ok-self-inside.field-0 } in
    let need : front_of p ≡ Need c.in-Need.len = ap (λ (b : List ℕ). front_of (record { kept = b; dropped = c.self.inside.dropped })) (sym c.deref.ensures.value) ∙ sym c.extent_of-extent.ensures.front ∙ c.in-Need.is in
    let keeps : c.extent_of-extent.result.keeps ≡ keeps_of p = c.extent_of-extent.ensures.keeps ∙ ap (λ (b : List ℕ). keeps_of (record { kept = b; dropped = c.self.inside.dropped })) c.deref.ensures.value in
    let size : c.len.result ≡ length c.self.inside.kept.items = omega arith in
    let wanted : c.min-taken.result ≡ ord_min nat_cmp (c.in-Need.len - count_of p) (length c.args.piece.now) =
    subst (λ (n : ℕ). c.min-taken.result ≡ ord_min nat_cmp (c.in-Need.len - (n + c.self.inside.dropped)) (length c.args.piece.now)) size c.min-taken.ensures in
    let adding = adds p c.args.piece.now c.in-Need.len c.extent_of-extent.result.keeps c.min-taken.result new c.self.invariant need keeps wanted c.in_ok-self-inside.ensures.ok in
    grown_held new adding.grown (λ g e. c.in_default-front.not-Fault g (c.extent_of.ensures.front ∙ ap (λ (b : List ℕ). front_of (record { kept = b; dropped = c.in_ok-self-inside.field-0 })) c.deref-2.ensures.value ∙ e))

pub returns : goal.returns
returns c =
    let p : Part = record { kept = c.self.inside.kept.items; dropped = c.self.inside.dropped } in
    let new : Part = record { kept = c.add.new.kept.items; dropped = c.in_ok-self-inside.field-0 } in
    let need : front_of p ≡ Need c.in-Need.len = ap (λ (b : List ℕ). front_of (record { kept = b; dropped = c.self.inside.dropped })) (sym c.deref.ensures.value) ∙ sym c.extent_of-extent.ensures.front ∙ c.in-Need.is in
    let keeps : c.extent_of-extent.result.keeps ≡ keeps_of p = c.extent_of-extent.ensures.keeps ∙ ap (λ (b : List ℕ). keeps_of (record { kept = b; dropped = c.self.inside.dropped })) c.deref.ensures.value in
    let size : c.len.result ≡ length c.self.inside.kept.items = omega arith in
    let wanted : c.min-taken.result ≡ ord_min nat_cmp (c.in-Need.len - count_of p) (length c.args.piece.now) =
    subst (λ (n : ℕ). c.min-taken.result ≡ ord_min nat_cmp (c.in-Need.len - (n + c.self.inside.dropped)) (length c.args.piece.now)) size c.min-taken.ensures in
    let adding = adds p c.args.piece.now c.in-Need.len c.extent_of-extent.result.keeps c.min-taken.result new c.self.invariant need keeps wanted c.in_ok-self-inside.ensures.ok in
    record {
      pushed = subst (λ (q : Part). Pushed q c.args.piece.now (Ok c.min-taken.result) new) c.self.view_is (pushed_ok p c.args.piece.now c.in-Need.len c.min-taken.result new need adding
          (λ g e. c.in_default-front.not-Fault g (c.extent_of.ensures.front ∙ ap (λ (b : List ℕ). front_of (record { kept = b; dropped = c.in_ok-self-inside.field-0 })) c.deref-2.ensures.value ∙ e)));
      within = adding.within;
      some = λ short some. adding.some some;
    }
