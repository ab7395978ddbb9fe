use Rattle.std.proofs.Common.{◌≡◌, ◌<◌, ◌≤◌, ◌-◌, ◌+◌, ℕ, length, take, drop, length-append, nat_cmp, refl, sym, ap, ◌∙◌, arith}
use Rattle.std.specs.Ordering.{ord_min}
use Rattle.std.proofs.lemmas.List.{length-take}
use Rattle.std.proofs.lemmas.Bool.Decides.{nat_tests}
use Rattle.capn_stream.specs.declared.front.Front.TheVariants.{Complete, Need, Fault}
use Rattle.capn_stream.specs.Fronts.{front_of}
use Rattle.capn_stream.proofs.Stable.{need_more, complete_there}
use Rattle.capn_stream.proofs.Filling.{filled_complete, filled_need, filled_fault, exact_after, more_taken}
use Rattle.capn_stream.proofs.reader.fill_up.Goals as goal

min_first : (a b m : ℕ) → m ≡ ord_min nat_cmp a b → m ≤ a
min_first a b m e = grind (arith, nat_tests)

min_second : (a b m : ℕ) → m ≡ ord_min nat_cmp a b → m ≤ b
min_second a b m e = grind (arith, nat_tests)

min_none : (a b taken len m : ℕ) → m ≡ ord_min nat_cmp a b → m ≡ 0 → 0 < a → b ≡ len - taken → taken ≤ len → taken ≡ len
min_none a b taken len m e none some left within = grind (arith, nat_tests)

pub returns-in-Complete-clause-filled : goal.returns-in-Complete-clause-filled
returns-in-Complete-clause-filled c =
    let front : front_of c.loop-fault.bytes.items ≡ Complete c.in-Complete.field-0 = ap front_of (sym c.deref.ensures.value) ∙ sym c.next_frame.ensures ∙ c.in-Complete.is in
    filled_complete c.args.bytes.now.items c.args.piece.now c.loop-fault.bytes.items c.loop-fault.taken c.loop-fault.invariant.so_far c.in-Complete.field-0 c.loop-fault.invariant.within front (c.loop-fault.invariant.exact c.in-Complete.field-0 front)

pub returns-in-Fault-clause-filled : goal.returns-in-Fault-clause-filled
returns-in-Fault-clause-filled c =
    let front : front_of c.loop-fault.bytes.items ≡ Fault c.in-Fault.fault = ap front_of (sym c.deref.ensures.value) ∙ sym c.next_frame.ensures ∙ c.in-Fault.is in
    filled_fault c.args.bytes.now.items c.args.piece.now c.loop-fault.bytes.items c.loop-fault.taken c.loop-fault.invariant.so_far c.in-Fault.fault c.loop-fault.bytes.items front

pub overflow_sub-wanted : goal.overflow_sub-wanted
overflow_sub-wanted c =
    let front : front_of c.loop-fault.bytes.items ≡ Need c.in-Need.len = ap front_of (sym c.deref.ensures.value) ∙ sym c.next_frame.ensures ∙ c.in-Need.is in
    let more = need_more c.loop-fault.bytes.items c.in-Need.len front in
    omega arith

pub returns-then-more-eq0-clause-filled : goal.returns-then-more-eq0-clause-filled
returns-then-more-eq0-clause-filled c =
    let front : front_of c.loop-fault.bytes.items ≡ Need c.in-Need.len = ap front_of (sym c.deref.ensures.value) ∙ sym c.next_frame.ensures ∙ c.in-Need.is in
    let more = need_more c.loop-fault.bytes.items c.in-Need.len front in
    let size : c.len.result ≡ length c.loop-fault.bytes.items = omega arith in
    let left : c.loop-fault.taken ≡ length c.args.piece.now = min_none (c.in-Need.len - c.len.result) (length c.args.piece.now - c.loop-fault.taken) c.loop-fault.taken (length c.args.piece.now) _ c.min-more.ensures c.if-more-eq0.true (omega arith) refl c.loop-fault.invariant.within in
    filled_need c.args.bytes.now.items c.args.piece.now c.loop-fault.bytes.items c.loop-fault.taken c.loop-fault.invariant.so_far c.in-Need.len left front

pub loop-fault-preserved : goal.loop-fault-preserved
loop-fault-preserved c =
    let front : front_of c.loop-fault.bytes.items ≡ Need c.in-Need.len = ap front_of (sym c.deref.ensures.value) ∙ sym c.next_frame.ensures ∙ c.in-Need.is in
    let least : c.min-more.result ≤ c.in-Need.len - c.len.result = min_first (c.in-Need.len - c.len.result) (length c.args.piece.now - c.loop-fault.taken) _ c.min-more.ensures in
    let rest : c.min-more.result ≤ length c.args.piece.now - c.loop-fault.taken = min_second (c.in-Need.len - c.len.result) (length c.args.piece.now - c.loop-fault.taken) _ c.min-more.ensures in
    let more = need_more c.loop-fault.bytes.items c.in-Need.len front in
    let size : c.len.result ≡ length c.loop-fault.bytes.items = omega arith in
    let within = c.loop-fault.invariant.within in
    let cut : c.loop-fault.taken + c.min-more.result - c.loop-fault.taken ≡ c.min-more.result = omega arith in
    let grown = c.in-Ok.ensures.ok in
    let part = take (c.loop-fault.taken + c.min-more.result - c.loop-fault.taken) (drop c.loop-fault.taken c.args.piece.now) in
    let fits : length c.grow.new.bytes.items ≤ c.in-Need.len = let joined = ap length grown ∙ length-append c.loop-fault.bytes.items part in let some = length-take (c.loop-fault.taken + c.min-more.result - c.loop-fault.taken) (drop c.loop-fault.taken c.args.piece.now) in omega arith in
    record {
      so_far = more_taken c.args.bytes.now.items c.args.piece.now c.loop-fault.bytes.items c.grow.new.bytes.items c.loop-fault.taken c.min-more.result _ c.loop-fault.invariant.so_far cut grown;
      within = omega arith;
      exact = λ n whole. exact_after c.loop-fault.bytes.items part c.grow.new.bytes.items c.in-Need.len front grown fits n whole (complete_there c.grow.new.bytes.items n whole);
    }
