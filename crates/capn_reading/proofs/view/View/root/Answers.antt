use Rattle.std.proofs.Common.{◌≡◌, sym, subst, ◌∙◌}
use Rattle.capn_reading.specs.declared.referent.Referent.{Referent}
use Rattle.capn_reading.specs.Reading.{root_of, tree_read}
use Rattle.capn_reading.proofs.Rooted.{first_is, tree_read_is}
use Rattle.capn_trees.specs.Limits.{most_visited}
use Rattle.capn_reading.specs.Looking.{Viewed, Spot, At, StandsFor}
use Rattle.capn_reading.proofs.UpTo.{up_to_there, up_to_stands}
use Rattle.capn_reading.proofs.view.View.root.Goals as goal

pub follow-requires : goal.follow-requires
unfolding root_of
follow-requires c = up_to_there most_visited c.self.inside.message c.self.inside.caps 64 c.self.invariant

pub unreachable-requires : goal.unreachable-requires
unfolding root_of
unreachable-requires c =
    let m = c.self.inside.message in
    let caps = c.self.inside.caps in
    let read = tree_read_is (root_of m caps) c.self.invariant in
    let root = up_to_stands most_visited m caps 64 (tree_read (root_of m caps)) read.0 read.1 in
    c.in_default.not-Ok (root.0, root.1) (c.follow.ensures ∙ root.2)

pub of-requires : goal.of-requires
unfolding root_of
of-requires c =
    let m = c.self.inside.message in
    let caps = c.self.inside.caps in
    let read = tree_read_is (root_of m caps) c.self.invariant in
    let root = up_to_stands most_visited m caps 64 (tree_read (root_of m caps)) read.0 read.1 in
    let same : c.in-Ok.referent ≡ root.0 = first_is c.in-Ok.referent root.0 c.in-Ok.field-0-1 root.1 (sym c.in-Ok.is ∙ c.follow.ensures ∙ root.2) in
    (tree_read (root_of m caps), subst (λ (r : Referent). StandsFor m caps r (tree_read (root_of m caps))) (sym same) root.3)

pub returns : goal.returns
unfolding root_of
returns c =
    let m = c.self.inside.message in
    let caps = c.self.inside.caps in
    let read = tree_read_is (root_of m caps) c.self.invariant in
    let root = up_to_stands most_visited m caps 64 (tree_read (root_of m caps)) read.0 read.1 in
    let same : c.in-Ok.referent ≡ root.0 = first_is c.in-Ok.referent root.0 c.in-Ok.field-0-1 root.1 (sym c.in-Ok.is ∙ c.follow.ensures ∙ root.2) in
    subst (λ (v : Viewed). At c.of.result (tree_read (root_of v.message v.caps))) c.self.view_is
    (subst (λ (q : Spot). At q (tree_read (root_of m caps))) (sym c.of.ensures) (subst (λ (r : Referent). StandsFor m caps r (tree_read (root_of m caps))) (sym same) root.3))
