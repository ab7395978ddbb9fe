use Rattle.std.proofs.Common.{◌≡◌, sym, ap, subst, ◌∙◌}
use Rattle.capn_reading.specs.declared.referent.Referent.{Referent}
use Rattle.capn_reading.specs.declared.referent.Referent.TheVariants as referent
use Rattle.capn_reading.specs.Looking.{Spot, StandsFor, length_of}
use Rattle.capn_reading.proofs.Places.{is_null, is_capability}
use Rattle.capn_reading.proofs.Shown.{struct_length, packed_length, pointers_length, structs_length}
use Rattle.capn_reading.proofs.place.Place.len.Goals as goal

pub returns-in-Null : goal.returns-in-Null
returns-in-Null c = λ t stands.
    let p = c.args.self.now in
    let here : p.referent ≡ referent.Null = sym (ap (λ (q : Spot). q.referent) c.self.view_is) ∙ c.in-Null.is in
    sym (ap length_of (is_null p.message p.caps t (subst (λ (r : Referent). StandsFor p.message p.caps r t) here stands)))

pub returns-in-Capability : goal.returns-in-Capability
returns-in-Capability c = λ t stands.
    let p = c.args.self.now in
    let here : p.referent ≡ referent.Capability c.in-Capability.field-0 = sym (ap (λ (q : Spot). q.referent) c.self.view_is) ∙ c.in-Capability.is in
    sym (ap length_of (is_capability p.message p.caps c.in-Capability.field-0 t (subst (λ (r : Referent). StandsFor p.message p.caps r t) here stands)))

pub returns-in-Struct : goal.returns-in-Struct
returns-in-Struct c = λ t stands.
    let p = c.args.self.now in
    let here : p.referent ≡ referent.Content c.in-Content.content = sym (ap (λ (q : Spot). q.referent) c.self.view_is) ∙ c.in-Content.is in
    struct_length p.message p.caps c.in-Content.content t _ _ _ (subst (λ (r : Referent). StandsFor p.message p.caps r t) here stands) (rw c.in-Struct.is at c.layout.ensures.laid)

pub returns-in-Packed : goal.returns-in-Packed
returns-in-Packed c = λ t stands.
    let p = c.args.self.now in
    let here : p.referent ≡ referent.Content c.in-Content.content = sym (ap (λ (q : Spot). q.referent) c.self.view_is) ∙ c.in-Content.is in
    packed_length p.message p.caps c.in-Content.content t _ _ c.in-Packed.count (subst (λ (r : Referent). StandsFor p.message p.caps r t) here stands) (rw c.in-Packed.is at c.layout.ensures.laid)

pub returns-in-Pointers : goal.returns-in-Pointers
returns-in-Pointers c = λ t stands.
    let p = c.args.self.now in
    let here : p.referent ≡ referent.Content c.in-Content.content = sym (ap (λ (q : Spot). q.referent) c.self.view_is) ∙ c.in-Content.is in
    pointers_length p.message p.caps c.in-Content.content t _ c.in-Pointers.count (subst (λ (r : Referent). StandsFor p.message p.caps r t) here stands) (rw c.in-Pointers.is at c.layout.ensures.laid)

pub returns-in-Structs : goal.returns-in-Structs
returns-in-Structs c = λ t stands.
    let p = c.args.self.now in
    let here : p.referent ≡ referent.Content c.in-Content.content = sym (ap (λ (q : Spot). q.referent) c.self.view_is) ∙ c.in-Content.is in
    structs_length p.message p.caps c.in-Content.content t _ c.in-Structs.count _ _ _ (subst (λ (r : Referent). StandsFor p.message p.caps r t) here stands) (rw c.in-Structs.is at c.layout.ensures.laid)
