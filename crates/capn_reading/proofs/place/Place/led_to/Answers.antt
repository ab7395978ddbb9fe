use Rattle.std.proofs.Common.{◌≡◌, ◌<◌, length, sym, ap, subst, ◌∙◌}
use Rattle.capn_reading.specs.declared.referent.Referent.{Referent}
use Rattle.capn_reading.specs.Segments.{segment_of}
use Rattle.capn_reading.specs.Following.{followed}
use Rattle.capn_reading.specs.Looking.{Spot, At, StandsFor}
use Rattle.capn_reading.proofs.Rooted.{first_is}
use Rattle.capn_reading.proofs.place.Place.led_to.Goals as goal

pub follow-requires : goal.follow-requires
follow-requires c = subst (λ (q : Spot). c.args.index < length (segment_of q.message c.args.segment)) (sym c.self.view_is) c.requires.there

pub unreachable-requires : goal.unreachable-requires
unreachable-requires c =
    let p = c.args.self.now in
    let leads = c.requires.leads.1 in
    let same : c.follow.result ≡ followed p.message p.caps c.args.segment c.args.index 0 = c.follow.ensures ∙ ap (λ (q : Spot). followed q.message q.caps c.args.segment c.args.index 0) c.self.view_is in
    c.in_default.not-Ok (leads.next, leads.visited) (same ∙ leads.is_followed)

pub of-requires : goal.of-requires
of-requires c =
    let p = c.args.self.now in
    let u = c.requires.leads.0 in
    let leads = c.requires.leads.1 in
    let same : c.follow.result ≡ followed p.message p.caps c.args.segment c.args.index 0 = c.follow.ensures ∙ ap (λ (q : Spot). followed q.message q.caps c.args.segment c.args.index 0) c.self.view_is in
    let next : c.in-Ok.next ≡ leads.next = first_is c.in-Ok.next leads.next c.in-Ok.field-0-1 leads.visited (sym c.in-Ok.is ∙ same ∙ leads.is_followed) in
    (u, subst (λ (q : Spot). StandsFor q.message q.caps c.in-Ok.next u) (sym c.self.view_is) (subst (λ (r : Referent). StandsFor p.message p.caps r u) (sym next) leads.stands))

pub returns : goal.returns
returns c = λ u leads.
    let p = c.args.self.now in
    let same : c.follow.result ≡ followed p.message p.caps c.args.segment c.args.index 0 = c.follow.ensures ∙ ap (λ (q : Spot). followed q.message q.caps c.args.segment c.args.index 0) c.self.view_is in
    let next : c.in-Ok.next ≡ leads.next = first_is c.in-Ok.next leads.next c.in-Ok.field-0-1 leads.visited (sym c.in-Ok.is ∙ same ∙ leads.is_followed) in
    let here = subst (λ (q : Spot). StandsFor q.message q.caps c.in-Ok.next u) (sym c.self.view_is) (subst (λ (r : Referent). StandsFor p.message p.caps r u) (sym next) leads.stands) in
    subst (λ (q : Spot). At q u) (sym c.of.ensures) here
