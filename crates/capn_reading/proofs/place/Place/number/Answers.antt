use Rattle.std.proofs.Common.{◌≡◌, ◌*◌, ◌/◌, ◌<◌, ◌≤◌, [], length, take, drop, sym, ap, subst, ◌∙◌, arith}
use Rattle.capn_reading.specs.declared.referent.Referent.{Referent}
use Rattle.capn_reading.specs.declared.referent.Referent.TheVariants as referent
use Rattle.capn_reading.specs.Segments.{segment_of}
use Rattle.capn_reading.specs.Reading.{element}
use Rattle.capn_reading.specs.Looking.{Spot, StandsFor, data_of}
use Rattle.capn_reading.proofs.Places.{is_null, is_capability}
use Rattle.capn_reading.proofs.Shown.{struct_words, list_there, element_within, element_past, element_none}
use Rattle.capn_reading.proofs.place.Place.number.Goals as goal

pub returns-in-Null : goal.returns-in-Null
returns-in-Null g c = λ t stands.
    let p = c.args.self.now in
    let here : p.referent ≡ referent.Null = sym (ap (λ (q : Spot). q.referent) c.self.view_is) ∙ c.in-Null.is in
    ([], ap data_of (is_null p.message p.caps t (subst (λ (r : Referent). StandsFor p.message p.caps r t) here stands)), c.of_number.ensures ∙ sym (element_none g.E.Element.BITS c.args.at))

pub returns-in-Capability : goal.returns-in-Capability
returns-in-Capability g c = λ t stands.
    let p = c.args.self.now in
    let here : p.referent ≡ referent.Capability c.in-Capability.field-0 = sym (ap (λ (q : Spot). q.referent) c.self.view_is) ∙ c.in-Capability.is in
    ap data_of (is_capability p.message p.caps c.in-Capability.field-0 t (subst (λ (r : Referent). StandsFor p.message p.caps r t) here stands))

pub returns-in_default : goal.returns-in_default
returns-in_default g c = λ t stands.
    let p = c.args.self.now in
    let here : p.referent ≡ referent.Content c.in-Content.content = sym (ap (λ (q : Spot). q.referent) c.self.view_is) ∙ c.in-Content.is in
    (list_there p.message p.caps c.in-Content.content t c.layout.result (subst (λ (r : Referent). StandsFor p.message p.caps r t) here stands) c.layout.ensures.laid c.in_default.not-Struct).1

pub returns-then-from : goal.returns-then-from
returns-then-from g c = λ t stands.
    let p = c.args.self.now in
    let here : p.referent ≡ referent.Content c.in-Content.content = sym (ap (λ (q : Spot). q.referent) c.self.view_is) ∙ c.in-Content.is in
    let ws = drop c.in-Struct.start (segment_of p.message c.in-Content.content.segment) in
    let words = struct_words p.message p.caps c.in-Content.content t c.in-Struct.start c.in-Struct.data_words c.in-Struct.pointer_words (subst (λ (r : Referent). StandsFor p.message p.caps r t) here stands) (rw c.in-Struct.is at c.layout.ensures.laid) in
    let past : c.in-Struct.data_words ≤ c.args.at * g.E.Element.BITS / 64 = rw (c.from.ensures, c.from-2.ensures, c.from-3.ensures, c.BITS.ensures) at c.if-from.true in
    (take c.in-Struct.data_words ws, words, c.of_number-then-from.ensures ∙ sym (element_past ws c.in-Struct.data_words g.E.Element.BITS c.args.at past))

pub returns : goal.returns
returns g c = λ t stands.
    let p = c.args.self.now in
    let here : p.referent ≡ referent.Content c.in-Content.content = sym (ap (λ (q : Spot). q.referent) c.self.view_is) ∙ c.in-Content.is in
    let ws = drop c.in-Struct.start (segment_of p.message c.in-Content.content.segment) in
    let words = struct_words p.message p.caps c.in-Content.content t c.in-Struct.start c.in-Struct.data_words c.in-Struct.pointer_words (subst (λ (r : Referent). StandsFor p.message p.caps r t) here stands) (rw c.in-Struct.is at c.layout.ensures.laid) in
    let within : c.args.at * g.E.Element.BITS / 64 < c.in-Struct.data_words = rw (c.from.ensures, c.from-2.ensures, c.from-3.ensures, c.BITS.ensures) at c.if-from.false in
    let read : c.element_at-number.result ≡ element ws g.E.Element.BITS c.args.at = (rw c.BITS-2.ensures at c.element_at-number.ensures.same) ∙ ap (λ (q : Spot). element (drop c.in-Struct.start (segment_of q.message c.in-Content.content.segment)) g.E.Element.BITS c.args.at) c.self.view_is in
    (take c.in-Struct.data_words ws, words, c.of_number-2.ensures ∙ read ∙ element_within ws c.in-Struct.data_words g.E.Element.BITS c.args.at within)

pub layout-requires : goal.layout-requires
layout-requires g c =
    sym (ap (λ (q : Spot). q.referent) c.self.view_is) ∙ c.in-Content.is

pub element_at-number-requires-clause-bits : goal.element_at-number-requires-clause-bits
element_at-number-requires-clause-bits g c =
    let is = c.BITS-2.ensures in
    let bits = c.requires.bits in
    omega (arith, is, bits)

pub element_at-number-requires-clause-inside : goal.element_at-number-requires-clause-inside
element_at-number-requires-clause-inside g c =
    let size = ap (λ (q : Spot). length (segment_of q.message c.in-Content.content.segment)) c.self.view_is in
    let within : c.args.at * g.E.Element.BITS / 64 < c.in-Struct.data_words = rw (c.from.ensures, c.from-2.ensures, c.from-3.ensures, c.BITS.ensures) at c.if-from.false in
    let all = (rw c.in-Struct.is at c.layout.ensures.within).inside in
    rw c.BITS-2.ensures (omega (arith, all, size, within))

pub element_at-number-requires-clause-small : goal.element_at-number-requires-clause-small
element_at-number-requires-clause-small g c =
    let within : c.args.at * g.E.Element.BITS / 64 < c.in-Struct.data_words = rw (c.from.ensures, c.from-2.ensures, c.from-3.ensures, c.BITS.ensures) at c.if-from.false in
    let all = (rw c.in-Struct.is at c.layout.ensures.within).small in
    rw c.BITS-2.ensures (omega (arith, all, within))

pub of_number-requires-2 : goal.of_number-requires-2
of_number-requires-2 g c =
    rw c.BITS-2.ensures at c.element_at-number.ensures.fits
