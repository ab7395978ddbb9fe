use Rattle.std.proofs.Common.{◌≡◌, ap, subst, ◌∙◌}
use Rattle.capn_reading.specs.declared.referent.Referent.{Referent}
use Rattle.capn_reading.specs.Layouts.{laid}
use Rattle.capn_reading.specs.Looking.{Spot, At, StandsFor}
use Rattle.capn_reading.proofs.Places.{content_read}
use Rattle.capn_reading.proofs.place.Place.layout.Goals as goal

pub unreachable-requires : goal.unreachable-requires
unreachable-requires c =
    let p = c.args.self.now in
    let stands : At p c.self.invariant.0 = subst (λ (q : Spot). At q c.self.invariant.0) c.self.view_is c.self.invariant.1 in
    let r = content_read p.message p.caps c.args.content c.self.invariant.0 (subst (λ (r : Referent). StandsFor p.message p.caps r c.self.invariant.0) c.requires stands) in
    let same : c.lay_out.result ≡ laid p.message c.args.content = c.lay_out.ensures.laid ∙ ap (λ (q : Spot). laid q.message c.args.content) c.self.view_is in
    c.in_default.not-Ok r.place (same ∙ r.is_laid)
