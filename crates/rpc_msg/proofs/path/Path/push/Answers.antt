use Rattle.std.proofs.Common.{arith, length, take, ap, ◌≡◌}
use Rattle.std.proofs.lemmas.List.{length-take-le}
use Rattle.rpc_msg.proofs.Padding.{padded_push}
use Rattle.rpc_msg.proofs.path.Path.push.Goals as goal

pub invariant_of-self : goal.invariant_of-self
invariant_of-self c =
    let h = c.self.invariant in
    let e : length (take c.self.inside.len c.self.inside.places) ≡ length c.args.self.now = ap length c.self.view_is in
    let n : length (take c.self.inside.len c.self.inside.places) ≡ c.self.inside.len = length-take-le _ _ (omega (arith, h.short, h.whole)) in
    padded_push _ _ _ h (omega (arith, c.requires, n, e))
