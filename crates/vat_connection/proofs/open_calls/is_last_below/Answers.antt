use Rattle.std.proofs.Common.{◌≡◌, ℕ, ◌<◌, ◌-◌, slice_index_or, deque_len, subst, arith}
use Rattle.std.proofs.lemmas.Bool.Decides.{nat_tests}
use Rattle.rpc_msg.specs.declared.ids.CallId.{CallId}
use Rattle.vat_connection.proofs.Rising.{rises_more}
use Rattle.vat_connection.proofs.open_calls.is_last_below.Goals as goal

pub returns-in-Some : goal.returns-in-Some
returns-in-Some c = λ h below.
    rises_more c.args.calls.now.items c.args.id h (λ i d is.
    let place : deque_len c.args.calls.now - 1 ≡ i = omega (arith, is, c.args.calls.now.ok.0) in
    let last : c.in-Some.last.now ≡ slice_index_or c.args.calls.now.items i d = subst (λ (k : ℕ). c.in-Some.last.now ≡ slice_index_or c.args.calls.now.items k d) place (c.in-Some.ensures.item.3.1 d) in
    let lower : c.in-Some.last.now.0 < c.args.id.0 = grind (arith, nat_tests, below) in
    subst (λ (x : CallId). x.0 < c.args.id.0) last lower)
