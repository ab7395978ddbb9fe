use Rattle.std.proofs.Common.{◌≡◌, ℕ, List, Option, Some, drop, refl, sym, ap, subst, ◌∙◌}
use Rattle.capn_trees.specs.Widths.{bits_of}
use Rattle.capn_reading.specs.declared.referent.Referent.{Referent}
use Rattle.capn_reading.specs.declared.referent.Referent.TheVariants as referent
use Rattle.capn_reading.specs.Segments.{segment_of}
use Rattle.capn_reading.specs.Reading.{elements}
use Rattle.capn_reading.proofs.Bytes.{no_elements}
use Rattle.capn_reading.specs.Looking.{Spot, StandsFor, bytes_of}
use Rattle.capn_reading.proofs.Places.{is_null, is_capability}
use Rattle.capn_reading.proofs.Shown.{none_otherwise, packed_there, other_bytes, these_bytes}
use Rattle.capn_reading.proofs.place.Place.bytes.Goals as goal

abbrev some : List ℕ → Option (List ℕ)
some xs = Some xs

pub returns-in-Null : goal.returns-in-Null
returns-in-Null c = λ t stands.
    let p = c.args.self.now in
    let here : p.referent ≡ referent.Null = sym (ap (λ (q : Spot). q.referent) c.self.view_is) ∙ c.in-Null.is in
    ap some (c.bytes.ensures ∙ no_elements _ _ refl) ∙ sym (ap bytes_of (is_null p.message p.caps t (subst (λ (r : Referent). StandsFor p.message p.caps r t) here stands)))

pub returns-in-Capability : goal.returns-in-Capability
returns-in-Capability c = λ t stands.
    let p = c.args.self.now in
    let here : p.referent ≡ referent.Capability c.in-Capability.field-0 = sym (ap (λ (q : Spot). q.referent) c.self.view_is) ∙ c.in-Capability.is in
    sym (ap bytes_of (is_capability p.message p.caps c.in-Capability.field-0 t (subst (λ (r : Referent). StandsFor p.message p.caps r t) here stands)))

pub returns-in_default : goal.returns-in_default
returns-in_default c = λ t stands.
    let p = c.args.self.now in
    let here : p.referent ≡ referent.Content c.in-Content.content = sym (ap (λ (q : Spot). q.referent) c.self.view_is) ∙ c.in-Content.is in
    let stood = subst (λ (r : Referent). StandsFor p.message p.caps r t) here stands in
    (none_otherwise p.message p.caps c.in-Content.content t c.layout.result stood c.layout.ensures.laid c.in_default.not-Packed).1

pub returns-then-bits-ne8 : goal.returns-then-bits-ne8
returns-then-bits-ne8 c = λ t stands.
    let p = c.args.self.now in
    let here : p.referent ≡ referent.Content c.in-Content.content = sym (ap (λ (q : Spot). q.referent) c.self.view_is) ∙ c.in-Content.is in
    let stood = subst (λ (r : Referent). StandsFor p.message p.caps r t) here stands in
    let ws = drop c.in-Packed.start (segment_of p.message c.in-Content.content.segment) in
    let is = packed_there p.message p.caps c.in-Content.content t c.in-Packed.start c.in-Packed.width c.in-Packed.count stood (rw c.in-Packed.is at c.layout.ensures.laid) in
    other_bytes (elements ws (bits_of c.in-Packed.width) 0 c.in-Packed.count) (bits_of c.in-Packed.width) (λ same. c.if-bits-ne8.true (c.bits.ensures.bits ∙ same)) ∙ sym (ap bytes_of is)

pub returns : goal.returns
returns c = λ t stands.
    let p = c.args.self.now in
    let here : p.referent ≡ referent.Content c.in-Content.content = sym (ap (λ (q : Spot). q.referent) c.self.view_is) ∙ c.in-Content.is in
    let stood = subst (λ (r : Referent). StandsFor p.message p.caps r t) here stands in
    let ws = drop c.in-Packed.start (segment_of p.message c.in-Content.content.segment) in
    let is = packed_there p.message p.caps c.in-Content.content t c.in-Packed.start c.in-Packed.width c.in-Packed.count stood (rw c.in-Packed.is at c.layout.ensures.laid) in
    let same : bits_of c.in-Packed.width ≡ 8 = sym c.bits.ensures.bits ∙ c.if-bits-ne8.false in
    let read = c.bytes-2.ensures ∙ ap (λ (q : Spot). elements (drop c.in-Packed.start (segment_of q.message c.in-Content.content.segment)) 8 0 c.in-Packed.count) c.self.view_is ∙ ap (λ (b : ℕ). elements ws b 0 c.in-Packed.count) (sym same) in
    ap some read ∙ these_bytes (elements ws (bits_of c.in-Packed.width) 0 c.in-Packed.count) (bits_of c.in-Packed.width) same ∙ sym (ap bytes_of is)
