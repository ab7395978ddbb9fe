use Rattle.std.proofs.Common.{◌≡◌, rules, sym, ap, subst, ◌∙◌, rules}
use Rattle.capn_reading.specs.declared.referent.Referent.{Referent}
use Rattle.capn_reading.specs.declared.referent.Referent.TheVariants as referent
use Rattle.capn_trees.specs.Trees.{Tree}
use Rattle.capn_reading.specs.Looking.{Spot, At, StandsFor, field}
use Rattle.capn_reading.proofs.Places.{null_field, is_capability, not_struct, struct_past, struct_field}
use Rattle.capn_reading.proofs.place.Place.field.Goals as goal

pub returns-in-Null : goal.returns-in-Null
returns-in-Null c = λ t stands.
    let p = c.args.self.now in
    let here : p.referent ≡ referent.Null = sym (ap (λ (q : Spot). q.referent) c.self.view_is) ∙ c.in-Null.is in
    let n = null_field p.message p.caps t c.args.number (subst (λ (r : Referent). StandsFor p.message p.caps r t) here stands) in
    (n.0, n.1, subst (λ (q : Spot). At q n.0) (sym c.null.ensures) n.2)

pub returns-in-Capability : goal.returns-in-Capability
returns-in-Capability c = λ t stands.
    let p = c.args.self.now in
    let here : p.referent ≡ referent.Capability c.in-Capability.field-0 = sym (ap (λ (q : Spot). q.referent) c.self.view_is) ∙ c.in-Capability.is in
    ap (λ (u : Tree). field u c.args.number) (is_capability p.message p.caps c.in-Capability.field-0 t (subst (λ (r : Referent). StandsFor p.message p.caps r t) here stands))

pub returns-in_default : goal.returns-in_default
returns-in_default c = λ t stands.
    let p = c.args.self.now in
    let here : p.referent ≡ referent.Content c.in-Content.content = sym (ap (λ (q : Spot). q.referent) c.self.view_is) ∙ c.in-Content.is in
    not_struct p.message p.caps c.in-Content.content t c.layout.result c.args.number (subst (λ (r : Referent). StandsFor p.message p.caps r t) here stands) c.layout.ensures.laid c.in_default.not-Struct

pub returns-then-pointer_words-number : goal.returns-then-pointer_words-number
returns-then-pointer_words-number c = λ t stands.
    let p = c.args.self.now in
    let here : p.referent ≡ referent.Content c.in-Content.content = sym (ap (λ (q : Spot). q.referent) c.self.view_is) ∙ c.in-Content.is in
    let n = struct_past p.message p.caps c.in-Content.content t c.in-Struct.start c.in-Struct.data_words c.in-Struct.pointer_words c.args.number
    (subst (λ (r : Referent). StandsFor p.message p.caps r t) here stands) (rw c.in-Struct.is at c.layout.ensures.laid) c.if-pointer_words-number.true in
    (n.0, n.1, subst (λ (q : Spot). At q n.0) (sym c.null-then-pointer_words-number.ensures) n.2)

pub led_to-requires : goal.led_to-requires
led_to-requires c =
    let p = c.args.self.now in
    let t = c.self.invariant.0 in
    let stands : At p t = subst (λ (q : Spot). At q t) c.self.view_is c.self.invariant.1 in
    let here : p.referent ≡ referent.Content c.in-Content.content = sym (ap (λ (q : Spot). q.referent) c.self.view_is) ∙ c.in-Content.is in
    let f = struct_field p.message p.caps c.in-Content.content t c.in-Struct.start c.in-Struct.data_words c.in-Struct.pointer_words c.args.number
    (subst (λ (r : Referent). StandsFor p.message p.caps r t) here stands) (rw c.in-Struct.is at c.layout.ensures.laid) c.if-pointer_words-number.false in
    record { there = search rules; leads = rw (c.from.ensures, c.from-2.ensures) (f.0, f.2) }

pub returns : goal.returns
returns c = λ t stands.
    let p = c.args.self.now in
    let here : p.referent ≡ referent.Content c.in-Content.content = sym (ap (λ (q : Spot). q.referent) c.self.view_is) ∙ c.in-Content.is in
    let f = struct_field p.message p.caps c.in-Content.content t c.in-Struct.start c.in-Struct.data_words c.in-Struct.pointer_words c.args.number
    (subst (λ (r : Referent). StandsFor p.message p.caps r t) here stands) (rw c.in-Struct.is at c.layout.ensures.laid) c.if-pointer_words-number.false in
    (f.0, f.1, c.led_to.ensures f.0 (rw (c.from.ensures, c.from-2.ensures) f.2))
