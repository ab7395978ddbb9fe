-- What is promised of two logs (docs/threads.md).
use Rattle.std.specs.Prelude.{◌≡◌, ℕ, List, [], ◌∷◌, ◌++◌, length, map, Option, ◌⊎◌}
use Rattle.laws_merge.specs.Machine.{Side, World, Event, AtA, AtB, Run, moves_a, moves_b}
use Rattle.laws_merge.specs.Logs.{Frame, Entry, input_of, counted, number_of, move_of, messages, got, received, made_by, Numbered, Lawful, LawfulLate, AckWithin, Acked, IsBeginningOf, Fit}
use Rattle.laws_merge.specs.Merge.{merge, firsts, seconds, view_by}
use Rattle.laws_merge.specs.declared.merge.OneOf.{OneOf}
use Rattle.laws_merge.specs.declared.merge.OneOf.TheVariants.{First, Second}

abbrev pub waits_for : {I O : Type 0} {S : Side I O} → Entry S → Option ℕ
waits_for e = number_of e.cause

abbrev pub makes : {I O : Type 0} {S : Side I O} → Entry S → ℕ
makes e = length e.made

abbrev pub event_of : {X Y : Type 0} {A : Side Y X} {B : Side X Y} → OneOf (Entry A) (Entry B) → Event A B
event_of (First e) = AtA (move_of e)
event_of (Second e) = AtB (move_of e)

-- The merge of two logs from their beginnings.
abbrev pub merged : {X Y : Type 0} {A : Side Y X} {B : Side X Y} → List (Entry A) → List (Entry B) → List (OneOf (Entry A) (Entry B))
merged xs ys = merge waits_for makes 0 xs ys

-- A run of the pair machine whose steps at A are A's log and whose steps at B are B's, entry by entry.
pub record Interleaving {X Y : Type 0} (A : Side Y X) (B : Side X Y) (start : World A B) (xs : List (Entry A)) (ys : List (Entry B)) (events : List (Event A B)) (end : World A B) : Type 0 where
  pub at_a : moves_a A B events ≡ map move_of xs
  pub at_b : moves_b A B events ≡ map move_of ys
  pub run : Run A B start events end

-- The merge of two logs has each entry of both, in order, and is an interleaving that begins with nothing on its
-- way. It ends where the logs do, and what is then on its way is what was made and not received.
pub record MergeInterleaves {X Y : Type 0} (A : Side Y X) (B : Side X Y) (a : A.State) (b : B.State) (xs : List (Entry A)) (ys : List (Entry B)) (last_a : A.State) (last_b : B.State) (rest_a : List (Frame Y)) (rest_b : List (Frame X)) : Type 0 where
  pub of_a : firsts (merged xs ys) ≡ xs
  pub of_b : seconds (merged xs ys) ≡ ys
  pub explained : Interleaving A B (record { a = a; b = b; to_a = []; to_b = [] }) xs ys (map event_of (merged xs ys)) (record { a = last_a; b = last_b; to_a = messages rest_a; to_b = messages rest_b })

-- Two lawful logs that fit.
abbrev pub LogsInterleave : {X Y : Type 0} → Side Y X → Side X Y → Type 0
LogsInterleave A B =
    (a : A.State) (b : B.State) (xs : List (Entry A)) (ys : List (Entry B)) (last_a : A.State) (last_b : B.State)
    → Lawful A a 0 0 xs last_a → Lawful B b 0 0 ys last_b → (fit : Fit xs ys)
    → MergeInterleaves A B a b xs ys last_a last_b fit.to_a.0 fit.to_b.0

-- The same of two lawful logs that are cut, at whatever entries, so that the beginnings fit.
abbrev pub CutLogsInterleave : {X Y : Type 0} → Side Y X → Side X Y → Type 0
CutLogsInterleave A B =
    (a : A.State) (b : B.State) (xs more_xs : List (Entry A)) (ys more_ys : List (Entry B)) (last_a : A.State) (last_b : B.State)
    → Lawful A a 0 0 (xs ++ more_xs) last_a → Lawful B b 0 0 (ys ++ more_ys) last_b → (fit : Fit xs ys)
    → (mid_a : A.State) × (mid_b : B.State)
    × MergeInterleaves A B a b xs ys mid_a mid_b fit.to_a.0 fit.to_b.0

-- It is enough that either of the two looks at the acks.
abbrev pub AcksOfOneSideSuffice : {X Y : Type 0} → Side Y X → Side X Y → Type 0
AcksOfOneSideSuffice A B =
    (a : A.State) (b : B.State) (xs : List (Entry A)) (ys : List (Entry B)) (last_a : A.State) (last_b : B.State)
    → Lawful A a 0 0 xs last_a → Lawful B b 0 0 ys last_b
    → (to_a : IsBeginningOf (received xs) (made_by ys)) (to_b : IsBeginningOf (received ys) (made_by xs)) → Acked 0 xs ⊎ Acked 0 ys
    → MergeInterleaves A B a b xs ys last_a last_b to_a.0 to_b.0

-- Acks that are higher than the rule says break no order, as long as they pass the check of who receives them.
abbrev pub LateAcksInterleave : {X Y : Type 0} → Side Y X → Side X Y → Type 0
LateAcksInterleave A B =
    (a : A.State) (b : B.State) (xs : List (Entry A)) (ys : List (Entry B)) (last_a : A.State) (last_b : B.State)
    → LawfulLate A a 0 0 xs last_a → LawfulLate B b 0 0 ys last_b → (fit : Fit xs ys)
    → MergeInterleaves A B a b xs ys last_a last_b fit.to_a.0 fit.to_b.0

-- A lawful log goes on by an entry that is a step from where the log leads, with the numbers that come next.
abbrev pub LogGrows : {I O : Type 0} → Side I O → Type 0
LogGrows S =
    (xs : List (Entry S)) (e : Entry S) (old mid new : S.State)
    → Lawful S old 0 0 xs mid → S.Step mid (input_of e.cause) e.note (messages e.made) new
    → Numbered (length (made_by xs)) (counted (length (received xs)) e.cause) e.made
    → Lawful S old 0 0 (xs ++ e ∷ []) new

-- A log goes on to have looked at its acks where the frame that came acknowledges no more than the log made.
abbrev pub AckedGrows : {I O : Type 0} → Side I O → Type 0
AckedGrows S = (xs : List (Entry S)) (e : Entry S) → Acked 0 xs → AckWithin (length (made_by xs)) e.cause → Acked 0 (xs ++ e ∷ [])

-- What a log received and made, with one entry more.
abbrev pub FramesGrow : {I O : Type 0} → Side I O → Type 0
FramesGrow S =
    (xs : List (Entry S)) (e : Entry S)
    → (received (xs ++ e ∷ []) ≡ received xs ++ got e.cause) × (made_by (xs ++ e ∷ []) ≡ made_by xs ++ e.made)

-- Where f and g say what the entries of two kinds stand for: the merge of what they stand for is what their merge
-- stands for.
abbrev pub MergeOfViews : {X Y : Type 0} → Type 0 → Type 0 → Side Y X → Side X Y → Type 0
MergeOfViews P Q A B =
    (f : P → Entry A) (g : Q → Entry B) (xs : List P) (ys : List Q)
    → map (view_by f g) (merge (λ p. waits_for (f p)) (λ q. makes (g q)) 0 xs ys) ≡ merged (map f xs) (map g ys)
