use Rattle.std.proofs.Common.{◌≡◌, sym, ap, subst, ◌∙◌}
use Rattle.capn_reading.specs.declared.referent.Referent.{Referent}
use Rattle.capn_reading.specs.declared.referent.Referent.TheVariants as referent
use Rattle.capn_reading.specs.Looking.{Spot, StandsFor, kind_of}
use Rattle.capn_reading.proofs.Places.{is_null, is_capability}
use Rattle.capn_reading.proofs.Shown.{struct_kind, list_there}
use Rattle.capn_reading.proofs.place.Place.kind.Goals as goal

pub returns-in-Null : goal.returns-in-Null
returns-in-Null c = λ t stands.
    let p = c.args.self.now in
    let here : p.referent ≡ referent.Null = sym (ap (λ (q : Spot). q.referent) c.self.view_is) ∙ c.in-Null.is in
    sym (ap kind_of (is_null p.message p.caps t (subst (λ (r : Referent). StandsFor p.message p.caps r t) here stands)))

pub returns-in-Capability : goal.returns-in-Capability
returns-in-Capability c = λ t stands.
    let p = c.args.self.now in
    let here : p.referent ≡ referent.Capability c.in-Capability.index = sym (ap (λ (q : Spot). q.referent) c.self.view_is) ∙ c.in-Capability.is in
    sym (ap kind_of (is_capability p.message p.caps c.in-Capability.index t (subst (λ (r : Referent). StandsFor p.message p.caps r t) here stands)))

pub returns-in-Struct : goal.returns-in-Struct
returns-in-Struct c = λ t stands.
    let p = c.args.self.now in
    let here : p.referent ≡ referent.Content c.in-Content.content = sym (ap (λ (q : Spot). q.referent) c.self.view_is) ∙ c.in-Content.is in
    struct_kind p.message p.caps c.in-Content.content t _ _ _ (subst (λ (r : Referent). StandsFor p.message p.caps r t) here stands) (rw c.in-Struct.is at c.layout.ensures.laid)

pub returns-in_default : goal.returns-in_default
returns-in_default c = λ t stands.
    let p = c.args.self.now in
    let here : p.referent ≡ referent.Content c.in-Content.content = sym (ap (λ (q : Spot). q.referent) c.self.view_is) ∙ c.in-Content.is in
    sym (list_there p.message p.caps c.in-Content.content t c.layout.result (subst (λ (r : Referent). StandsFor p.message p.caps r t) here stands) c.layout.ensures.laid c.in_default.not-Struct).0
