use Rattle.std.proofs.Common.{◌≡◌, true, false, Bor, List, All, Any, MatchBool, sym, subst}
use Rattle.std.proofs.lemmas.List.Elements.{All-nil}
use Rattle.vat_tables.proofs.PoolLemmas.{calls_there, no_calls_there}
use Rattle.vat_tables.proofs.held_pool.HeldPool.any_in.Goals as goal

pub returns-in-Some : goal.returns-in-Some
returns-in-Some g c =
    rw (← c.self.view_is)
    (subst (λ (xs : List g.row.T.Denot). MatchBool c.any_from.result
    (Any (λ call. (x : Bor g.row.T.Denot) × (x.now ≡ call) × g.F.Fn.post c.args.f (x, tt {0}) true) xs)
    (All (λ call. (x : Bor g.row.T.Denot) × (x.now ≡ call) × g.F.Fn.post c.args.f (x, tt {0}) false) xs))
    (sym (calls_there c.self.inside.calls c.self.inside.lists c.args.key.0 c.in-Some.ends.now (sym c.in-Some.ensures)))
    c.any_from.ensures)

pub returns : goal.returns
returns g c =
    rw (← c.self.view_is)
    (subst (λ (xs : List g.row.T.Denot). All (λ call. (x : Bor g.row.T.Denot) × (x.now ≡ call) × g.F.Fn.post c.args.f (x, tt {0}) false) xs)
    (sym (no_calls_there c.self.inside.calls c.self.inside.lists c.args.key.0 (sym c.in-None.ensures)))
    (All-nil (λ call. (x : Bor g.row.T.Denot) × (x.now ≡ call) × g.F.Fn.post c.args.f (x, tt {0}) false)))
