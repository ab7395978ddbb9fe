use Rattle.std.proofs.Common.{◌≡◌, map, rules, sym, ap, ◌∙◌}
use Rattle.std.specs.List.{list_all}
use Rattle.std.specs.Map.Iter.{deref}
use Rattle.std.proofs.lemmas.Map.Iter.{iter_end}
use Rattle.rpc_check.specs.Kept.{is_even}
use Rattle.rpc_check.proofs.Evens.{member_passes, has_id}
use Rattle.rpc_check.proofs.agreement.keys_agree.Goals as goal

pub returns-clause-yes : goal.returns-clause-yes
returns-clause-yes c = λ sure e more.
    let test = is_even c.args.exported.now c.args.imported.now c.args.handed_on.now c.args.released.now in
    let whole : map deref c.loop-id.yielded ≡ c.keys-id-items.result = search (rules, iter_end) in
    member_passes test c.keys-id-items.result e (ap (list_all test) (sym whole) ∙ c.loop-id.invariant) (has_id _ _ (c.keys-id-items.ensures.has e) more)
