use Rattle.std.proofs.Common.{◌≡◌, ◌+◌, ◌*◌, sym, ap, subst, ◌∙◌}
use Rattle.capn_trees.specs.Trees.{Tree}
use Rattle.capn_reading.specs.declared.referent.Referent.{Referent}
use Rattle.capn_reading.specs.declared.referent.Referent.TheVariants as referent
use Rattle.capn_reading.specs.Looking.{Spot, At, StandsFor, item_of}
use Rattle.capn_reading.proofs.Places.{is_null, is_capability, null_stands}
use Rattle.capn_reading.proofs.Shown.{packed_there}
use Rattle.capn_reading.proofs.Held.{struct_content, struct_item, struct_item_past, pointer_item, pointer_item_past, struct_no_item}
use Rattle.capn_trees.specs.Trees as tree
use Rattle.capn_reading.proofs.place.Place.item.Goals as goal

pub returns-in-Null : goal.returns-in-Null
returns-in-Null c = λ t stands.
    let p = c.args.self.now in
    let here : p.referent ≡ referent.Null = sym (ap (λ (q : Spot). q.referent) c.self.view_is) ∙ c.in-Null.is in
    let none = is_null p.message p.caps t (subst (λ (r : Referent). StandsFor p.message p.caps r t) here stands) in
    (tree.null, ap (λ (u : Tree). item_of u c.args.number) none, subst (λ (q : Spot). At q tree.null) (sym c.null.ensures) (null_stands p.message p.caps))

pub returns-in-Capability : goal.returns-in-Capability
returns-in-Capability c = λ t stands.
    let p = c.args.self.now in
    let here : p.referent ≡ referent.Capability c.in-Capability.field-0 = sym (ap (λ (q : Spot). q.referent) c.self.view_is) ∙ c.in-Capability.is in
    ap (λ (u : Tree). item_of u c.args.number) (is_capability p.message p.caps c.in-Capability.field-0 t (subst (λ (r : Referent). StandsFor p.message p.caps r t) here stands))

pub returns-in-Struct : goal.returns-in-Struct
returns-in-Struct c = λ t stands.
    let p = c.args.self.now in
    let here : p.referent ≡ referent.Content c.in-Content.content = sym (ap (λ (q : Spot). q.referent) c.self.view_is) ∙ c.in-Content.is in
    let stood = subst (λ (r : Referent). StandsFor p.message p.caps r t) here stands in
    struct_no_item p.message p.caps c.in-Content.content t _ _ _ c.args.number stood (rw c.in-Struct.is at c.layout.ensures.laid)

pub returns-in-Packed : goal.returns-in-Packed
returns-in-Packed c = λ t stands.
    let p = c.args.self.now in
    let here : p.referent ≡ referent.Content c.in-Content.content = sym (ap (λ (q : Spot). q.referent) c.self.view_is) ∙ c.in-Content.is in
    let stood = subst (λ (r : Referent). StandsFor p.message p.caps r t) here stands in
    ap (λ (u : Tree). item_of u c.args.number) (packed_there p.message p.caps c.in-Content.content t _ _ _ stood (rw c.in-Packed.is at c.layout.ensures.laid))

pub returns-then-count-number : goal.returns-then-count-number
returns-then-count-number c = λ t stands.
    let p = c.args.self.now in
    let here : p.referent ≡ referent.Content c.in-Content.content = sym (ap (λ (q : Spot). q.referent) c.self.view_is) ∙ c.in-Content.is in
    let stood = subst (λ (r : Referent). StandsFor p.message p.caps r t) here stands in
    let n = pointer_item_past p.message p.caps c.in-Content.content t _ c.in-Pointers.count c.args.number stood (rw c.in-Pointers.is at c.layout.ensures.laid) c.if-count-number.true in
    (n.0, n.1, subst (λ (q : Spot). At q n.0) (sym c.null-then-count-number.ensures) n.2)

pub led_to-requires-clause-leads : goal.led_to-requires-clause-leads
led_to-requires-clause-leads c =
    let p = c.args.self.now in
    let t = c.self.invariant.0 in
    let stands : At p t = subst (λ (q : Spot). At q t) c.self.view_is c.self.invariant.1 in
    let here : p.referent ≡ referent.Content c.in-Content.content = sym (ap (λ (q : Spot). q.referent) c.self.view_is) ∙ c.in-Content.is in
    let stood = subst (λ (r : Referent). StandsFor p.message p.caps r t) here stands in
    let f = pointer_item p.message p.caps c.in-Content.content t _ c.in-Pointers.count c.args.number stood (rw c.in-Pointers.is at c.layout.ensures.laid) c.if-count-number.false in
    (f.0, f.2)

pub returns-else-count-number : goal.returns-else-count-number
returns-else-count-number c = λ t stands.
    let p = c.args.self.now in
    let here : p.referent ≡ referent.Content c.in-Content.content = sym (ap (λ (q : Spot). q.referent) c.self.view_is) ∙ c.in-Content.is in
    let stood = subst (λ (r : Referent). StandsFor p.message p.caps r t) here stands in
    let f = pointer_item p.message p.caps c.in-Content.content t _ c.in-Pointers.count c.args.number stood (rw c.in-Pointers.is at c.layout.ensures.laid) c.if-count-number.false in
    (f.0, f.1, c.led_to.ensures f.0 f.2)

pub returns-then-count-number-2 : goal.returns-then-count-number-2
returns-then-count-number-2 c = λ t stands.
    let p = c.args.self.now in
    let here : p.referent ≡ referent.Content c.in-Content.content = sym (ap (λ (q : Spot). q.referent) c.self.view_is) ∙ c.in-Content.is in
    let stood = subst (λ (r : Referent). StandsFor p.message p.caps r t) here stands in
    let n = struct_item_past p.message p.caps c.in-Content.content t _ c.in-Structs.count _ _ _ c.args.number stood (rw c.in-Structs.is at c.layout.ensures.laid) c.if-count-number-2.true in
    (n.0, n.1, subst (λ (q : Spot). At q n.0) (sym c.null-then-count-number-2.ensures) n.2)

pub of-requires : goal.of-requires
of-requires c =
    let p = c.args.self.now in
    let t = c.self.invariant.0 in
    let stands : At p t = subst (λ (q : Spot). At q t) c.self.view_is c.self.invariant.1 in
    let here : p.referent ≡ referent.Content c.in-Content.content = sym (ap (λ (q : Spot). q.referent) c.self.view_is) ∙ c.in-Content.is in
    let stood = subst (λ (r : Referent). StandsFor p.message p.caps r t) here stands in
    let f = struct_item p.message p.caps c.in-Content.content t c.in-Structs.start c.in-Structs.count c.in-Structs.data_words c.in-Structs.pointer_words c.in-Structs.words c.args.number stood (rw c.in-Structs.is at c.layout.ensures.laid) (rw c.in-Structs.is at c.layout.ensures.within).inside c.if-count-number-2.false in
    rw (c.from-in-Structs-2.ensures, c.from-in-Structs-3.ensures, c.from.ensures, c.from-in-Structs.ensures)
    (f.0, subst (λ (q : Spot). StandsFor q.message q.caps (referent.Content (struct_content c.in-Content.content.segment (c.in-Structs.start + c.args.number * (c.in-Structs.data_words + c.in-Structs.pointer_words)) c.in-Structs.data_words c.in-Structs.pointer_words)) f.0) (sym c.self.view_is) f.2)

pub returns-else-count-number-2 : goal.returns-else-count-number-2
returns-else-count-number-2 c = λ t stands.
    let p = c.args.self.now in
    let here : p.referent ≡ referent.Content c.in-Content.content = sym (ap (λ (q : Spot). q.referent) c.self.view_is) ∙ c.in-Content.is in
    let stood = subst (λ (r : Referent). StandsFor p.message p.caps r t) here stands in
    let f = struct_item p.message p.caps c.in-Content.content t c.in-Structs.start c.in-Structs.count c.in-Structs.data_words c.in-Structs.pointer_words c.in-Structs.words c.args.number stood (rw c.in-Structs.is at c.layout.ensures.laid) (rw c.in-Structs.is at c.layout.ensures.within).inside c.if-count-number-2.false in
    let made = rw (c.from-in-Structs-2.ensures, c.from-in-Structs-3.ensures, c.from.ensures, c.from-in-Structs.ensures) at c.of.ensures in
    (f.0, f.1, subst (λ (q : Spot). At q f.0) (sym made) (subst (λ (q : Spot). StandsFor q.message q.caps (referent.Content (struct_content c.in-Content.content.segment (c.in-Structs.start + c.args.number * (c.in-Structs.data_words + c.in-Structs.pointer_words)) c.in-Structs.data_words c.in-Structs.pointer_words)) f.0) (sym c.self.view_is) f.2))
