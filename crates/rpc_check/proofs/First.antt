-- The first breach, and what a checker has taken, after another entry.
use Rattle.std.specs.Prelude.{◌≡◌, ◌⊎◌, suc, ◌+◌, cond, Option, None, Some, List, [], ◌∷◌, ◌++◌, length, filter}
use Rattle.std.proofs.Common.{refl, sym, ◌∙◌, ap, arith, append_assoc, inl, inr}
use Rattle.std.proofs.lemmas.List.{append-nil, length-append}
use Rattle.rpc_journal.specs.declared.entry.JournalEntry.{JournalEntry}
use Rattle.rpc_journal.specs.History.{or_rest}
use Rattle.rpc_check.specs.declared.verdict.Verdict.{Verdict}
use Rattle.rpc_check.specs.declared.verdict.Verdict.TheVariants.{Good}
use Rattle.rpc_check.specs.declared.checker.Checker.{Checker}
use Rattle.rpc_check.specs.Breaches.{breach, first_breach, is_delivered, or_good, verdict_of}
use Rattle.rpc_check.specs.Laws.{AllKeep, OneBreaks}
use Rattle.rpc_check.specs.Kept.{IsPending, HasTaken}
use Rattle.rpc_check.proofs.Growing.{count_more}

or_none : (o : Option Verdict) → or_rest o None ≡ o
or_none None = refl
or_none (Some v) = refl

or_assoc : (o p q : Option Verdict) → or_rest o (or_rest p q) ≡ or_rest (or_rest o p) q
or_assoc None p q = refl
or_assoc (Some v) p q = refl

breach_more : (b h : List JournalEntry) (e : JournalEntry) → first_breach b (h ++ e ∷ []) ≡ or_rest (first_breach b h) (breach (b ++ h) e)
breach_more b [] e = or_none (breach b e) ∙ ap (λ (x : List JournalEntry). breach x e) (sym (append-nil b))
breach_more b (x ∷ h) e =
    ap (or_rest (breach b x)) (breach_more (b ++ x ∷ []) h e)
    ∙ or_assoc (breach b x) (first_breach (b ++ x ∷ []) h) (breach ((b ++ x ∷ []) ++ h) e)
    ∙ ap (λ (y : List JournalEntry). or_rest (first_breach b (x ∷ h)) (breach y e)) (append_assoc b (x ∷ []) h)

some_none : {X : Type 0} (v : Verdict) → ◌≡◌ {A = Option Verdict} (Some v) None → X
some_none v e = absurd (cc)

module _ (c n : Checker) (h : List JournalEntry) (e : JournalEntry) (was : HasTaken c h)
    (counted : n.number ≡ c.number + 1) (delivered : n.delivered ≡ c.delivered + cond (is_delivered e) 1 0) where
  new_number : n.number ≡ length (h ++ e ∷ [])
  new_number = omega (arith, counted, was.number, length-append h (e ∷ []))

  new_delivered : n.delivered ≡ length (filter is_delivered (h ++ e ∷ []))
  new_delivered = omega (arith, delivered, was.delivered, count_more is_delivered h e)

  pub taken_broken : (v : Verdict) → c.broken ≡ Some v → n.broken ≡ Some v → HasTaken n (h ++ e ∷ [])
  taken_broken v is same =
      let first : first_breach [] (h ++ e ∷ []) ≡ Some v = breach_more [] h e ∙ ap (λ o. or_rest o (breach h e)) (sym was.broken ∙ is) in
      record {
        number = new_number;
        delivered = new_delivered;
        broken = same ∙ sym first;
        pending = λ none. some_none v (sym first ∙ none);
      }

  pub taken_whole : c.broken ≡ None → ((g : List JournalEntry) → IsPending c.pending g → n.number ≡ suc (length g) → n.broken ≡ breach g e)
      → (n.broken ≡ None → (g : List JournalEntry) → IsPending c.pending g → IsPending n.pending (g ++ e ∷ [])) → HasTaken n (h ++ e ∷ [])
  taken_whole is found rest =
      let whole : first_breach [] h ≡ None = sym was.broken ∙ is in
      let first : first_breach [] (h ++ e ∷ []) ≡ breach h e = breach_more [] h e ∙ ap (λ o. or_rest o (breach h e)) whole in
      let told : n.broken ≡ breach h e = found h (was.pending whole) (omega (arith, counted, was.number)) in
      record {
        number = new_number;
        delivered = new_delivered;
        broken = told ∙ sym first;
        pending = λ none. rest (told ∙ sym first ∙ none) h (was.pending whole);
      }

-- ---- The first of all

list_split : {X : Type 0} {x y : X} {xs ys : List X} → x ∷ xs ≡ y ∷ ys → (x ≡ y) × (xs ≡ ys)
list_split e = (cc, cc)

nothing_there : (before after : List JournalEntry) (e : JournalEntry) {X : Type 0} → ◌≡◌ {A = List JournalEntry} [] (before ++ e ∷ after) → X
nothing_there [] after e is = absurd (cc)
nothing_there (x ∷ before) after e is = absurd (cc)

or_parts : (o p : Option Verdict) → or_rest o p ≡ None → (o ≡ None) × (p ≡ None)
or_parts None p is = (refl, is)
or_parts (Some v) p is = some_none v is

keep_from : (b h : List JournalEntry) → first_breach b h ≡ None → (before after : List JournalEntry) (e : JournalEntry) → h ≡ before ++ e ∷ after → breach (b ++ before) e ≡ None
keep_from b [] none before after e is = nothing_there before after e is
keep_from b (x ∷ h) none [] after e is =
    let parts = or_parts (breach b x) (first_breach (b ++ x ∷ []) h) none in
    ap (λ (y : List JournalEntry). breach y e) (append-nil b) ∙ ap (breach b) (sym (list_split is).0) ∙ parts.0
keep_from b (x ∷ h) none (y ∷ before) after e is =
    let parts = or_parts (breach b x) (first_breach (b ++ x ∷ []) h) none in
    let same = list_split is in
    ap (λ (z : JournalEntry). breach (b ++ z ∷ before) e) (sym same.0)
    ∙ ap (λ (z : List JournalEntry). breach z e) (sym (append_assoc b (x ∷ []) before))
    ∙ keep_from (b ++ x ∷ []) h parts.1 before after e same.1

abbrev Found : List JournalEntry → List JournalEntry → Verdict → Type 0
Found b h v = (before : List JournalEntry) × (e : JournalEntry) × (after : List JournalEntry) × (h ≡ before ++ e ∷ after) × (first_breach b before ≡ None) × (breach (b ++ before) e ≡ Some v)

found_at : (b h : List JournalEntry) (x : JournalEntry) (v : Verdict) (o : Option Verdict) → breach b x ≡ o → or_rest o (first_breach (b ++ x ∷ []) h) ≡ Some v
    → (first_breach (b ++ x ∷ []) h ≡ Some v → Found (b ++ x ∷ []) h v) → Found b (x ∷ h) v
found_at b h x v (Some w) is told behind = ([], x, h, refl, refl, ap (λ (z : List JournalEntry). breach z x) (append-nil b) ∙ is ∙ told)
found_at b h x v None is told behind =
    let f = behind told in (
      x ∷ f.0,
      f.1,
      f.2,
      ap (λ (z : List JournalEntry). x ∷ z) f.3,
      ap (λ o. or_rest o (first_breach (b ++ x ∷ []) f.0)) is ∙ f.4,
      ap (λ (z : List JournalEntry). breach z f.1) (sym (append_assoc b (x ∷ []) f.0)) ∙ f.5,
    )

found_from : (b h : List JournalEntry) (v : Verdict) → first_breach b h ≡ Some v → Found b h v
found_from b [] v is = some_none v (sym is)
found_from b (x ∷ h) v is = found_at b h x v (breach b x) refl is (found_from (b ++ x ∷ []) h v)

first_or_none : (h : List JournalEntry) (o : Option Verdict) → first_breach [] h ≡ o → (AllKeep h × (verdict_of h ≡ Good (length (filter is_delivered h)))) ⊎ OneBreaks h
first_or_none h None is = inl (keep_from [] h is, ap (λ o. or_good o (length (filter is_delivered h))) is)
first_or_none h (Some v) is =
    let f = found_from [] h v is in
    inr (f.0, f.1, f.2, f.3, keep_from [] f.0 f.4, f.5 ∙ ap (λ o. Some (or_good o (length (filter is_delivered h)))) (sym is))

pub verdict_first : (h : List JournalEntry) → (AllKeep h × (verdict_of h ≡ Good (length (filter is_delivered h)))) ⊎ OneBreaks h
verdict_first h = first_or_none h (first_breach [] h) refl
