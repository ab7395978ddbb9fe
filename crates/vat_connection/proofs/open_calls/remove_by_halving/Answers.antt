use Rattle.std.proofs.Common.{rules, ◌≡◌, ◌<◌, ℕ, length, remove, Option, OnSome, Result, nat_cmp, ◌∙◌, sym, subst, arith}
use Rattle.std.specs.List.Sorted.{IsBinarySearchResult}
use Rattle.std.proofs.lemmas.List.Sorted.{answers_always}
use Rattle.rpc_msg.specs.declared.ids.CallId.{CallId}
use Rattle.vat_connection.proofs.Rising.{found, not_found}
use Rattle.vat_connection.proofs.open_calls.remove_by_halving.Goals as goal

pub returns-in_default : goal.returns-in_default
returns-in_default c =
    let by_number = c.binary_search_by_key.ensures.position (λ call. call.0) (answers_always _ _ _ (λ f a r g called. search rules)) in
    let here = subst (λ (r : Result ℕ ℕ). IsBinarySearchResult (λ (k : CallId). nat_cmp k.0 c.args.id.0) c.args.calls.now.items r) c.in_default.is by_number in
    sym (not_found c.args.id c.args.calls.now.items c.in_default.field-0 c.requires here)

pub returns : goal.returns
returns c =
    let by_number = c.binary_search_by_key.ensures.position (λ call. call.0) (answers_always _ _ _ (λ f a r g called. search rules)) in
    let here = subst (λ (r : Result ℕ ℕ). IsBinarySearchResult (λ (k : CallId). nat_cmp k.0 c.args.id.0) c.args.calls.now.items r) c.in-Ok.is by_number in
    let within : c.in-Ok.at < length c.args.calls.now.items = omega (arith, c.in-Ok.ensures.bound, c.args.calls.now.ok.0) in
    let taken : c.remove.new.self.items ≡ remove c.args.calls.now.items c.in-Ok.at =
    subst (λ (o : Option CallId). OnSome o (c.remove.new.self.items ≡ remove c.args.calls.now.items c.in-Ok.at)) (c.remove.ensures.succeeds c.args.id c.in-Ok.ensures.bound) c.remove.ensures.items in
    taken ∙ sym (found c.args.id c.args.calls.now.items c.in-Ok.at c.requires within here)
