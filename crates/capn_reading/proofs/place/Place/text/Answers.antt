use Rattle.std.proofs.Common.{◌≡◌, refl, sym, ap, subst, ◌∙◌, inl}
use Rattle.capn_reading.specs.declared.referent.Referent.{Referent}
use Rattle.capn_reading.specs.declared.referent.Referent.TheVariants as referent
use Rattle.capn_reading.specs.Looking.{Spot, StandsFor}
use Rattle.capn_reading.proofs.Places.{is_null}
use Rattle.capn_reading.proofs.Shown.{not_null, no_text, text_there}
use Rattle.capn_reading.proofs.place.Place.text.Goals as goal

pub returns-in-Null : goal.returns-in-Null
returns-in-Null c = λ t stands.
    let p = c.args.self.now in
    let here : p.referent ≡ referent.Null = sym (ap (λ (q : Spot). q.referent) c.self.view_is) ∙ c.in-Null.is in
    inl (is_null p.message p.caps t (subst (λ (r : Referent). StandsFor p.message p.caps r t) here stands), refl)

pub returns-in_default-bytes : goal.returns-in_default-bytes
returns-in_default-bytes c = λ t stands s k. no_text t (c.in_default-bytes.ensures t stands) s k

pub returns : goal.returns
returns c = λ t stands.
    let p = c.args.self.now in
    text_there t c.in-Some.bytes.now c.text_in.result (c.in-Some.ensures t stands) (not_null p.message p.caps p.referent t stands (λ none. c.in_default.not-Null (ap (λ (q : Spot). q.referent) c.self.view_is ∙ none))) c.text_in.ensures
