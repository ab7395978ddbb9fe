use Rattle.std.proofs.Common.{◌≡◌, ℕ, ◌+◌, Option, Some, ap, subst, sym, ◌∙◌}
use Rattle.rpc_check.specs.declared.releases.Released.{Released}
use Rattle.rpc_check.specs.declared.releases.Released.TheVariants as released
use Rattle.rpc_check.specs.Counts.{count_of}
use Rattle.rpc_check.specs.Kept.{released_in, direct, IsReleased}
use Rattle.rpc_check.proofs.Releasing.{got_list}
use Rattle.rpc_check.proofs.releases.Releases.receive.Goals as goal

pub returns-in_ok-flag-in-List : goal.returns-in_ok-flag-in-List
returns-in_ok-flag-in-List c = λ ls named much counts are is.
    let list : c.args.released ≡ released.List (Some c.in-Some.list) = c.in-List.is ∙ ap (λ (x : Option ℕ). released.List x) c.in-Some.is in
    got_list ls c.args.self.now c.flag.new.self named much counts c.in-Some.list (ap (released_in ls) (sym list) ∙ are) c.in_ok-flag-in-List.ensures.counted
    (c.in_ok-flag-in-List.ensures.sent ls) (c.in_ok-flag-in-List.ensures.got ls) (c.in_ok-flag-in-List.ensures.in_all ls)
    (subst (λ (x : Released). IsReleased ls c.args.self.now (λ e. direct e x + named e) (λ e. count_of e counts + much e)) list is)
