-- Going through a list: what holds of its first items holds of one more.
use Rattle.std.proofs.Common.{◌≡◌, ◌<◌, ◌+◌, ℕ, zero, suc, Some, List, [], ◌∷◌, ◌++◌, length, arith, map, take, refl, sym, ap, subst, ◌∙◌, append_assoc, append-nil}
use lib.ListN.{get_or}
use Rattle.std.specs.List.{take-map, slice_get}
use Rattle.serde_json.specs.Read.{read}
use Rattle.std.proofs.lemmas.List.{take_more}
use Rattle.rpc_journal.specs.declared.entry.JournalEntry.{JournalEntry}
use Rattle.rpc_journal.specs.declared.entry.JournalEntry.TheVariants as entry
use Rattle.trace_write.specs.declared.version.TraceVersion.{TraceVersion}
use Rattle.trace_write.specs.declared.version.TraceVersion.TheVariants.{Two}
use Rattle.trace_write.specs.Values.{head_data}
use Rattle.trace_json.specs.declared.fault.TraceFault.{TraceFault}
use Rattle.trace_json.specs.declared.fault.TraceFault.TheVariants as fault
use Rattle.trace_file.specs.Faults.{IsLaterFault, IsFaultAt}
use Rattle.trace_file.specs.Traces.{trace_text, line_text, IsEntryLine, AreEntryLines, AreLines, Follows}

pub map_pushed : {X Y : Type 0} (f : X → Y) (xs : List X) (x : X) → map f (xs ++ x ∷ []) ≡ map f xs ++ f x ∷ []
map_pushed f [] x = refl
map_pushed f (y ∷ xs) x = ap (λ ys. f y ∷ ys) (map_pushed f xs x)

pub one_more : {X : Type 0} (xs : List X) (i : ℕ) (x : X) → i < length xs → x ≡ get_or xs i x → take (i + 1) xs ≡ take i xs ++ x ∷ []
one_more xs i x within is = take_more xs i x within ∙ ap (λ y. take i xs ++ y ∷ []) (sym is)

text_pushed : (version : TraceVersion) (es : List JournalEntry) (e : JournalEntry) → trace_text version (es ++ e ∷ []) ≡ trace_text version es ++ line_text version e
text_pushed version [] e = append-nil (line_text version e)
text_pushed version (x ∷ es) e = ap (λ t. line_text version x ++ t) (text_pushed version es e) ∙ sym (append_assoc (line_text version x) (trace_text version es) (line_text version e))

-- The text of the entries, where the next one was written.
pub text_more : (version : TraceVersion) (es : List JournalEntry) (i : ℕ) (e : JournalEntry) (start mid new : List ℕ)
    → i < length es → e ≡ get_or es i e → mid ≡ start ++ trace_text version (take i es) → new ≡ mid ++ line_text version e
    → new ≡ start ++ trace_text version (take (i + 1) es)
text_more version es i e start mid new within is written pushed =
    pushed ∙ ap (λ t. t ++ line_text version e) written ∙ append_assoc start (trace_text version (take i es)) (line_text version e)
    ∙ ap (λ t. start ++ t) (sym (text_pushed version (take i es) e)) ∙ ap (λ xs. start ++ trace_text version xs) (sym (one_more es i e within is))

-- ---- Lines that are read

lines_pushed : (version : TraceVersion) (lines : List (List ℕ)) (es : List JournalEntry) (line : List ℕ) (e : JournalEntry)
    → AreEntryLines version lines es → IsEntryLine version line e → AreEntryLines version (lines ++ line ∷ []) (es ++ e ∷ [])
lines_pushed version [] [] line e said one = (one, tt)
lines_pushed version [] (f ∷ es) line e said one = absurd said
lines_pushed version (l ∷ lines) [] line e said one = absurd said
lines_pushed version (l ∷ lines) (f ∷ es) line e said one = (said.0, lines_pushed version lines es line e said.1 one)

follows_pushed : {S : Type 0} (takes : S → JournalEntry → S → Type 0) (s mid new : S) (es : List JournalEntry) (e : JournalEntry)
    → Follows takes s es mid → takes mid e new → Follows takes s (es ++ e ∷ []) new
follows_pushed takes s mid new [] e so_far one = (new, subst (λ x. takes x e new) so_far one, refl)
follows_pushed takes s mid new (f ∷ es) e so_far one = (so_far.0, so_far.1, follows_pushed takes so_far.0 mid new es e so_far.2 one)

-- What was read of the first lines, and how far the follower came.
abbrev pub HasRead : {S : Type 0} → (S → JournalEntry → S → Type 0) → TraceVersion → List (List ℕ) → S → S → Type 0
HasRead takes version lines s t = (es : List JournalEntry) × AreEntryLines version lines es × Follows takes s es t

pub read_none : {S : Type 0} (takes : S → JournalEntry → S → Type 0) (version : TraceVersion) (s : S) → HasRead takes version [] s s
read_none takes version s = ([], tt, refl)

item_more : {X : Type 0} (f : X → List ℕ) (xs : List X) (i : ℕ) (d : X) → i < length xs → take (i + 1) (map f xs) ≡ take i (map f xs) ++ f (get_or xs i d) ∷ []
item_more f xs i d within =
    take-map f (i + 1) xs ∙ ap (map f) (take_more xs i d within) ∙ map_pushed f (take i xs) (get_or xs i d)
    ∙ ap (λ ts. ts ++ f (get_or xs i d) ∷ []) (sym (take-map f i xs))

pub read_more : {S X : Type 0} (takes : S → JournalEntry → S → Type 0) (version : TraceVersion) (f : X → List ℕ) (xs : List X) (i : ℕ) (d : X) (e : JournalEntry) (s mid new : S)
    → i < length xs → HasRead takes version (take i (map f xs)) s mid → IsEntryLine version (f (get_or xs i d)) e → takes mid e new
    → HasRead takes version (take (i + 1) (map f xs)) s new
read_more takes version f xs i d e s mid new within so_far one took = (
  so_far.0 ++ e ∷ [],
  subst (λ ls. AreEntryLines version ls (so_far.0 ++ e ∷ [])) (sym (item_more f xs i d within)) (lines_pushed version (take i (map f xs)) so_far.0 (f (get_or xs i d)) e so_far.1 one),
  follows_pushed takes s mid new so_far.0 e so_far.2 took,
)

item_there : {X : Type 0} (f : X → List ℕ) (xs : List X) (i : ℕ) (d : X) → i < length xs → slice_get (map f xs) i ≡ Some (f (get_or xs i d))
item_there f [] i d within = absurd (omega (arith, within))
item_there f (x ∷ xs) zero d within = refl
item_there f (x ∷ xs) (suc i) d within = item_there f xs i d (omega (arith, within))

-- The next line is at fault.
pub fault_next : {S X : Type 0} (takes : S → JournalEntry → S → Type 0) (version : TraceVersion) (f : X → List ℕ) (xs : List X) (i : ℕ) (d : X) (s mid : S) (r : TraceFault)
    → i < length xs → HasRead takes version (take i (map f xs)) s mid → ¬ (r ≡ fault.Memory) → IsLaterFault version r (read (f (get_or xs i d)))
    → IsFaultAt version (map f xs) (i + 2) r
fault_next takes version f xs i d s mid r within so_far named wrong = record {
  index = i;
  counted = refl;
  before = so_far.0;
  said = so_far.1;
  line = f (get_or xs i d);
  there = item_there f xs i d within;
  named = named;
  wrong = wrong;
}

-- The text of the entries that were taken one after another.
pub written_all : {S : Type 0} (text : S → List ℕ) (s t : S) (es : List JournalEntry) → Follows (λ old e new. text new ≡ text old ++ line_text Two e) s es t
    → text t ≡ text s ++ trace_text Two es
written_all text s t [] took = ap text took ∙ sym (append-nil (text s))
written_all text s t (e ∷ es) took =
    written_all text took.0 t es took.2 ∙ ap (λ x. x ++ trace_text Two es) took.1 ∙ append_assoc (text s) (line_text Two e) (trace_text Two es)

-- The lines of a trace whose first line is a head.
pub lines_read : {X : Type 0} (f : X → List ℕ) (xs rest : List X) (x : X) (version : TraceVersion) (es : List JournalEntry)
    → xs ≡ x ∷ rest → read (f x) ≡ Some (head_data version) → AreEntryLines version (map f rest) es → AreLines (map f xs) version (entry.Head ∷ es)
lines_read f xs rest x version es split head said =
    subst (λ ys. AreLines (map f ys) version (entry.Head ∷ es)) (sym split) (head, refl, said)

-- What each entry keeps holds of all of them.
pub holds_all : {S : Type 0} (P : List JournalEntry → S → Type 0) (before es : List JournalEntry) (s t : S)
    → Follows (λ old e new. (h : List JournalEntry) → P h old → P (h ++ e ∷ []) new) s es t → P before s → P (before ++ es) t
holds_all P before [] s t took holds = subst (λ xs. P xs t) (sym (append-nil before)) (subst (λ x. P before x) (sym took) holds)
holds_all P before (e ∷ es) s t took holds =
    subst (λ xs. P xs t) (append_assoc before (e ∷ []) es) (holds_all P (before ++ e ∷ []) es took.0 t took.2 (took.1 before holds))
