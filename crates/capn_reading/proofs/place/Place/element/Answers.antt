use Rattle.std.proofs.Common.{◌≡◌, ℕ, ◌+◌, ◌*◌, ◌/◌, length, drop, sym, ap, subst, ◌∙◌, arith}
use Rattle.capn_trees.specs.Trees.{Tree}
use Rattle.capn_trees.specs.Widths.{bits_of}
use Rattle.capn_reading.specs.declared.referent.Referent.{Referent}
use Rattle.capn_reading.specs.declared.referent.Referent.TheVariants as referent
use Rattle.capn_reading.specs.declared.referent.Content.{Content}
use Rattle.capn_reading.specs.Segments.{segment_of}
use Rattle.capn_reading.specs.Reading.{element}
use Rattle.capn_reading.specs.Looking.{Spot, StandsFor, element_of}
use Rattle.capn_reading.proofs.Shown.{so, none_in_content, none_otherwise, packed_there, other_size, past_end, within}
use Rattle.capn_reading.proofs.Building.{element_inside}
use Rattle.capn_reading.proofs.place.Place.element.Goals as goal

pub returns-in_default : goal.returns-in_default
returns-in_default g c = λ t stands.
    let p = c.args.self.now in
    none_in_content p.message p.caps p.referent t g.E.Element.BITS c.args.number stands (λ (x : Content) is. c.in_default.not-Content x (ap (λ (q : Spot). q.referent) c.self.view_is ∙ is))

pub returns-in_default-layout : goal.returns-in_default-layout
returns-in_default-layout g c = λ t stands.
    let p = c.args.self.now in
    let here : p.referent ≡ referent.Content c.in-Content.content = sym (ap (λ (q : Spot). q.referent) c.self.view_is) ∙ c.in-Content.is in
    let stood = subst (λ (r : Referent). StandsFor p.message p.caps r t) here stands in
    (none_otherwise p.message p.caps c.in-Content.content t c.layout.result stood c.layout.ensures.laid c.in_default-layout.not-Packed).0 g.E.Element.BITS c.args.number

pub returns-then-bits-BITS : goal.returns-then-bits-BITS
returns-then-bits-BITS g c = λ t stands.
    let p = c.args.self.now in
    let here : p.referent ≡ referent.Content c.in-Content.content = sym (ap (λ (q : Spot). q.referent) c.self.view_is) ∙ c.in-Content.is in
    let stood = subst (λ (r : Referent). StandsFor p.message p.caps r t) here stands in
    let ws = drop c.in-Packed.start (segment_of p.message c.in-Content.content.segment) in
    let is = packed_there p.message p.caps c.in-Content.content t c.in-Packed.start c.in-Packed.width c.in-Packed.count stood (rw c.in-Packed.is at c.layout.ensures.laid) in
    other_size ws (bits_of c.in-Packed.width) c.in-Packed.count g.E.Element.BITS c.args.number (λ same. c.if-bits-BITS.true (c.bits.ensures.bits ∙ same ∙ sym c.BITS.ensures))
    ∙ sym (ap (λ (u : Tree). element_of g.E.Element.BITS u c.args.number) is)

pub returns-then-count-number : goal.returns-then-count-number
returns-then-count-number g c = λ t stands.
    let p = c.args.self.now in
    let here : p.referent ≡ referent.Content c.in-Content.content = sym (ap (λ (q : Spot). q.referent) c.self.view_is) ∙ c.in-Content.is in
    let stood = subst (λ (r : Referent). StandsFor p.message p.caps r t) here stands in
    let ws = drop c.in-Packed.start (segment_of p.message c.in-Content.content.segment) in
    let is = packed_there p.message p.caps c.in-Content.content t c.in-Packed.start c.in-Packed.width c.in-Packed.count stood (rw c.in-Packed.is at c.layout.ensures.laid) in
    past_end ws (bits_of c.in-Packed.width) c.in-Packed.count g.E.Element.BITS c.args.number c.if-count-number.true
    ∙ sym (ap (λ (u : Tree). element_of g.E.Element.BITS u c.args.number) is)

pub returns : goal.returns
returns g c = λ t stands.
    let p = c.args.self.now in
    let here : p.referent ≡ referent.Content c.in-Content.content = sym (ap (λ (q : Spot). q.referent) c.self.view_is) ∙ c.in-Content.is in
    let stood = subst (λ (r : Referent). StandsFor p.message p.caps r t) here stands in
    let ws = drop c.in-Packed.start (segment_of p.message c.in-Content.content.segment) in
    let is = packed_there p.message p.caps c.in-Content.content t c.in-Packed.start c.in-Packed.width c.in-Packed.count stood (rw c.in-Packed.is at c.layout.ensures.laid) in
    let same : bits_of c.in-Packed.width ≡ g.E.Element.BITS = sym c.bits.ensures.bits ∙ c.if-bits-BITS.false ∙ c.BITS.ensures in
    let read : g.E.Element.said c.of_number.result ≡ element ws g.E.Element.BITS c.args.number =
    c.of_number.ensures ∙ (rw c.BITS-2.ensures at c.element_at-said.ensures.same) ∙ ap (λ (q : Spot). element (drop c.in-Packed.start (segment_of q.message c.in-Content.content.segment)) g.E.Element.BITS c.args.number) c.self.view_is in
    ap so read ∙ within ws (bits_of c.in-Packed.width) c.in-Packed.count g.E.Element.BITS c.args.number same c.if-count-number.false
    ∙ sym (ap (λ (u : Tree). element_of g.E.Element.BITS u c.args.number) is)

pub layout-requires : goal.layout-requires
layout-requires g c =
    sym (ap (λ (q : Spot). q.referent) c.self.view_is) ∙ c.in-Content.is

pub element_at-said-requires-clause-bits : goal.element_at-said-requires-clause-bits
element_at-said-requires-clause-bits g c =
    let is = c.BITS-2.ensures in
    let bits = c.requires.bits in
    omega (arith, is, bits)

pub element_at-said-requires-clause-inside : goal.element_at-said-requires-clause-inside
element_at-said-requires-clause-inside g c =
    let size = ap (λ (q : Spot). length (segment_of q.message c.in-Content.content.segment)) c.self.view_is in
    let same : bits_of c.in-Packed.width ≡ g.E.Element.BITS = sym c.bits.ensures.bits ∙ c.if-bits-BITS.false ∙ c.BITS.ensures in
    let room = ap (λ (b : ℕ). (c.in-Packed.count * b + 63) / 64) same in
    let before = element_inside g.E.Element.BITS c.args.number c.in-Packed.count c.requires.some c.if-count-number.false in
    let all = (rw c.in-Packed.is at c.layout.ensures.within).inside in
    rw c.BITS-2.ensures (omega (arith, all, size, room, before))

pub element_at-said-requires-clause-small : goal.element_at-said-requires-clause-small
element_at-said-requires-clause-small g c =
    let same : bits_of c.in-Packed.width ≡ g.E.Element.BITS = sym c.bits.ensures.bits ∙ c.if-bits-BITS.false ∙ c.BITS.ensures in
    let room = ap (λ (b : ℕ). (c.in-Packed.count * b + 63) / 64) same in
    let before = element_inside g.E.Element.BITS c.args.number c.in-Packed.count c.requires.some c.if-count-number.false in
    let all = (rw c.in-Packed.is at c.layout.ensures.within).small in
    rw c.BITS-2.ensures (omega (arith, all, room, before))

pub of_number-requires : goal.of_number-requires
of_number-requires g c =
    rw c.BITS-2.ensures at c.element_at-said.ensures.fits
