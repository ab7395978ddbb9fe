-- The entries that say that a vat went down: each is the vat's first, and says why.
use Rattle.std.proofs.Common.{◌≡◌, ◌⊎◌, inl, inr, ℕ, Bool, true, false, ◌||◌, List, [], ◌∷◌, ◌++◌, map, append_assoc, append-nil, Option, refl, sym, ap, subst, ◌∙◌}
use Rattle.rpc_msg.specs.declared.ids.Vat.{Vat}
use Rattle.rpc_journal.specs.declared.entry.JournalEntry.{JournalEntry}
use Rattle.rpc_journal.specs.declared.entry.JournalEntry.TheVariants as entry
use Rattle.rpc_journal.specs.History.{same_vat}
use Rattle.rpc_journal.specs.Meaning.{History}
use Rattle.rpc_machine.specs.declared.command.Effects.{Effects}
use Rattle.rpc_machine.specs.World.{Happening, shut_number}
use Rattle.rpc_machine.specs.Claims.{went_down_in, FallsFor, Upto, IfFalls}
use Rattle.laws_runs.proofs.QuietEntries as quiet
use Rattle.laws_runs.proofs.QuietEntries.{after-append, sent_after, delivered_after, ended_after}
use Rattle.laws_runs.proofs.Reading.{itself}

or_assoc : (a b c : Bool) → ((a || b) || c) ≡ (a || (b || c))
or_assoc true b c = refl
or_assoc false b c = refl

pub after_is : (v : Vat) (b : Bool) (es : List JournalEntry) → quiet.after v b es ≡ (b || went_down_in v es)
after_is v true [] = refl
after_is v false [] = refl
after_is v b (entry.Down u n ∷ es) = after_is v (b || same_vat v u) es ∙ or_assoc b (same_vat v u) (went_down_in v es)
after_is v b (e ∷ es) = after_is v b es

pub went-append : (v : Vat) (xs ys : List JournalEntry) → went_down_in v (xs ++ ys) ≡ (went_down_in v xs || went_down_in v ys)
went-append v xs ys = sym (after_is v false (xs ++ ys)) ∙ after-append v false xs ys ∙ ap (λ (b : Bool). quiet.after v b ys) (after_is v false xs) ∙ after_is v (went_down_in v xs) ys

-- Each such entry is the vat's first, and says why, where that is the number of the vat's shut.
abbrev pub FallHere : (Vat → Option ℕ) → List JournalEntry → JournalEntry → Type 0
FallHere shut pre (entry.Down v n) = (went_down_in v pre ≡ false) × FallsFor (shut v) pre v n
FallHere shut pre e = Unit {0}

abbrev pub Fine : (Vat → Option ℕ) → List JournalEntry → List JournalEntry → Type 0
Fine shut pre [] = Unit {0}
Fine shut pre (e ∷ es) = FallHere shut pre e × Fine shut (pre ++ e ∷ []) es

pub fine-append : (shut : Vat → Option ℕ) (pre xs ys : List JournalEntry) → Fine shut pre xs → Fine shut (pre ++ xs) ys → Fine shut pre (xs ++ ys)
fine-append shut pre [] ys f g = subst (λ (l : List JournalEntry). Fine shut l ys) (append-nil pre) g
fine-append shut pre (x ∷ xs) ys f g = (f.0, fine-append shut (pre ++ x ∷ []) xs ys f.1 (subst (λ (l : List JournalEntry). Fine shut l ys) (sym (append_assoc pre (x ∷ []) xs)) g))

not_silent : (u : Vat) (es : List JournalEntry) → quiet.after u (false || same_vat u u) es ≡ false → ⊥
not_silent u es k = let f : true ≡ false = sym (ap (λ (b : Bool). quiet.after u (false || b) es) (itself u) ∙ after_is u true es) ∙ k in cc

-- Entries of which none says that a vat went down.
abbrev pub NoneDown : List JournalEntry → Type 0
NoneDown es = (v : Vat) → quiet.after v false es ≡ false

pub fine_silent : (shut : Vat → Option ℕ) (pre es : List JournalEntry) → NoneDown es → Fine shut pre es
fine_silent shut pre [] k = tt
fine_silent shut pre (entry.Down u n ∷ es) k = absurd (not_silent u es (k u))
fine_silent shut pre (e ∷ es) k = (tt, fine_silent shut (pre ++ e ∷ []) es k)

pub none_both : (xs ys : List JournalEntry) → NoneDown xs → NoneDown ys → NoneDown (xs ++ ys)
none_both xs ys f g v = after-append v false xs ys ∙ ap (λ (b : Bool). quiet.after v b ys) (f v) ∙ g v

-- The effects of u, but for the last entry.
pub said_before : (u : Vat) (x : Effects) → NoneDown (map (entry.Sent u) x.sends ++ map (entry.Delivered u) x.deliveries ++ map (entry.Ended u) x.answers)
said_before u x = none_both (map (entry.Sent u) x.sends ++ map (entry.Delivered u) x.deliveries) (map (entry.Ended u) x.answers) (none_both (map (entry.Sent u) x.sends) (map (entry.Delivered u) x.deliveries) (λ v. sent_after v u false x.sends) (λ v. delivered_after v u false x.deliveries)) (λ v. ended_after v u false x.answers)

-- ---- Another number where the vat is down already

abbrev pub Agree : List JournalEntry → Vat → Option ℕ → Option ℕ → Type 0
Agree pre v a b = (a ≡ b) ⊎ (went_down_in v pre ≡ true)

or_true : (a b : Bool) → a ≡ true → (a || b) ≡ true
or_true true b e = refl
or_true false b e = cc

still_more : (v : Vat) (e : JournalEntry) (pre : List JournalEntry) (a b : Option ℕ) → Agree pre v a b → Agree (pre ++ e ∷ []) v a b
still_more v e pre a b (inl f) = inl f
still_more v e pre a b (inr f) = inr (went-append v pre (e ∷ []) ∙ or_true (went_down_in v pre) _ f)

other_fall : (shut more : Vat → Option ℕ) (u : Vat) (n : ℕ) (pre : List JournalEntry) → went_down_in u pre ≡ false → Agree pre u (shut u) (more u) → FallsFor (shut u) pre u n → FallsFor (more u) pre u n
other_fall shut more u n pre w (inl e) f = subst (λ (o : Option ℕ). FallsFor o pre u n) e f
other_fall shut more u n pre w (inr e) f = absurd (let g : true ≡ false = sym e ∙ w in cc)

pub other_shut : (shut more : Vat → Option ℕ) (pre es : List JournalEntry) → ((v : Vat) → Agree pre v (shut v) (more v)) → Fine shut pre es → Fine more pre es
other_shut shut more pre [] k f = tt
other_shut shut more pre (entry.Down u n ∷ es) k f =
    ((f.0.0, other_fall shut more u n pre f.0.0 (k u) f.0.1), other_shut shut more (pre ++ entry.Down u n ∷ []) es (λ v. still_more v (entry.Down u n) pre (shut v) (more v) (k v)) f.1)
other_shut shut more pre (e ∷ es) k f = (tt, other_shut shut more (pre ++ e ∷ []) es (λ v. still_more v e pre (shut v) (more v) (k v)) f.1)

-- ---- At an entry

fine_at : (shut : Vat → Option ℕ) (pre before behind : List JournalEntry) (e : JournalEntry) → Fine shut pre (before ++ e ∷ behind) → FallHere shut (pre ++ before) e
fine_at shut pre [] behind e f = subst (λ (l : List JournalEntry). FallHere shut l e) (sym (append-nil pre)) f.0
fine_at shut pre (x ∷ xs) behind e f = subst (λ (l : List JournalEntry). FallHere shut l e) (append_assoc pre (x ∷ []) xs) (fine_at shut (pre ++ x ∷ []) xs behind e f.1)

falls_here : (xs : List Happening) (h : History) (e : JournalEntry) → FallHere (λ v. shut_number v xs) h.journal e → IfFalls xs h e
falls_here xs h (entry.Down v n) d = record { once = d.0; why = d.1 }
falls_here xs h e d = tt

pub upto_falls : (xs : List Happening) (h : History) → Fine (λ v. shut_number v xs) [] h.journal → Upto (IfFalls xs) h
upto_falls xs h f before behind e i =
    falls_here xs (record h { journal = before }) e
    (fine_at (λ v. shut_number v xs) [] before behind e (subst (λ (l : List JournalEntry). Fine (λ v. shut_number v xs) [] l) i f))
