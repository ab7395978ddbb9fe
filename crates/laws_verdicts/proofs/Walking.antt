-- Entries that break no law, one after the other; and what is kept by each event and by each noting.
use Rattle.std.proofs.Common.{◌≡◌, Bool, false, List, [], ◌∷◌, ◌++◌, append-nil, append_assoc, refl, sym, subst}
use Rattle.std.specs.Prelude.{map}
use Rattle.rpc_journal.specs.declared.entry.JournalEntry.{JournalEntry}
use Rattle.rpc_machine.specs.Journal.{Journaled}
use Rattle.laws_verdicts.specs.Recorded.{GoesOn, LeadsTo, NoMore, Then}
use Rattle.laws_verdicts.specs.Good.{NoneBreaks}

abbrev pub Test : Type 0
Test = List JournalEntry → JournalEntry → Bool

-- None of these entries, which come behind those, breaks the law.
abbrev pub Never : Test → List JournalEntry → List JournalEntry → Type 0
Never b h [] = Unit {0}
Never b h (e ∷ es) = (b h e ≡ false) × Never b (h ++ e ∷ []) es

-- Each of the entries is so.
abbrev pub Each : (JournalEntry → Type 0) → List JournalEntry → Type 0
Each P [] = Unit {0}
Each P (e ∷ es) = P e × Each P es

pub each-append : (P : JournalEntry → Type 0) (xs ys : List JournalEntry) → Each P xs → Each P ys → Each P (xs ++ ys)
each-append P [] ys f g = g
each-append P (x ∷ xs) ys f g = (f.0, each-append P xs ys f.1 g)

pub each_map : {X : Type 0} (P : JournalEntry → Type 0) (f : X → JournalEntry) (xs : List X) → ((x : X) → P (f x)) → Each P (map f xs)
each_map P f [] h = tt
each_map P f (x ∷ xs) h = (h x, each_map P f xs h)

pub each_so : (P Q : JournalEntry → Type 0) → ((e : JournalEntry) → P e → Q e) → (es : List JournalEntry) → Each P es → Each Q es
each_so P Q f [] h = tt
each_so P Q f (e ∷ es) h = (f e h.0, each_so P Q f es h.1)

-- Entries that break the law nowhere.
pub never_where : (b : Test) (P : JournalEntry → Type 0) → ((h : List JournalEntry) (e : JournalEntry) → P e → b h e ≡ false) → (h es : List JournalEntry) → Each P es → Never b h es
never_where b P f h [] k = tt
never_where b P f h (e ∷ es) k = (f h e k.0, never_where b P f (h ++ e ∷ []) es k.1)

pub never-append : (b : Test) (h xs ys : List JournalEntry) → Never b h xs → Never b (h ++ xs) ys → Never b h (xs ++ ys)
never-append b h [] ys f g = subst (λ (l : List JournalEntry). Never b l ys) (append-nil h) g
never-append b h (x ∷ xs) ys f g = (f.0, never-append b (h ++ x ∷ []) xs ys f.1 (subst (λ (l : List JournalEntry). Never b l ys) (sym (append_assoc h (x ∷ []) xs)) g))

none_at : (b : Test) (start h before behind : List JournalEntry) (e : JournalEntry) → Never b start h → h ≡ before ++ e ∷ behind → b (start ++ before) e ≡ false
none_at b start h [] behind e n q =
    let m : Never b start (e ∷ behind) = subst (λ (l : List JournalEntry). Never b start l) q n in
    subst (λ (l : List JournalEntry). b l e ≡ false) (sym (append-nil start)) m.0
none_at b start h (x ∷ xs) behind e n q =
    let m : Never b start (x ∷ xs ++ e ∷ behind) = subst (λ (l : List JournalEntry). Never b start l) q n in
    subst (λ (l : List JournalEntry). b l e ≡ false) (append_assoc start (x ∷ []) xs) (none_at b (start ++ x ∷ []) (xs ++ e ∷ behind) xs behind e m.1 refl)

pub none_breaks : (b : Test) (h : List JournalEntry) → Never b [] h → NoneBreaks b h
none_breaks b h n before behind e q = none_at b [] h before behind e n q

pub keeps_on : (P : Journaled → Type 0) → ((old new : Journaled) → P old → GoesOn old new → P new) → (last old : Journaled) → LeadsTo last old → P old → P last
keeps_on P step last old NoMore p = p
keeps_on P step last old (Then {mid = mid} g rest) p = keeps_on P step last mid rest (step old mid p g)
