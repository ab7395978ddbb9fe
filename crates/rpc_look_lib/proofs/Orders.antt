-- Frames of two ends, which come in a possible order.
use Rattle.std.proofs.Common.{◌≡◌, ℕ, ◌+◌, not, Bool, true, false, List, [], ◌∷◌, ◌++◌, drop, Option, Some, None, Ok, is_some, IfSome, option_to_list, refl, sym, ap, subst, ◌∙◌, append_assoc, append-nil, inl, inr}
use Rattle.std.specs.List.{AllByRecursion, concat}
use Rattle.std.proofs.lemmas.List.{drop-drop}
use Rattle.capn_stream.specs.Fronts.{front_of, IsFrame}
use Rattle.look_pieces.specs.declared.piece.Side.{Side}
use Rattle.look_pieces.specs.declared.piece.Side.TheVariants as side
use Rattle.look_pieces.specs.Pieces.{other_side}
use Rattle.rpc_look_lib.specs.declared.watch.Told.{Told}
use Rattle.rpc_look_lib.specs.declared.stream.Given.{Given}
use Rattle.rpc_look_lib.specs.declared.weaving.Next.{Next}
use Rattle.rpc_look_lib.specs.Watching.{breaks}
use Rattle.rpc_look_lib.specs.Talking.{Stand, is_done, moment_of, ComesAs}
use Rattle.rpc_look_lib.specs.Streams.{Waits, IsBegun, GivesBy, Gives}
use Rattle.rpc_look_lib.specs.Weaving.{IsNextAt, may_come, HasNone, IsPicked, IsChosen, Rest, rest_of, without_next, Weaves}
use Rattle.rpc_look_lib.proofs.Frames.{no_truth}
use Rattle.rpc_look_lib.proofs.Pieces.{all_more, concat_more}

-- ---- frames

-- The first bytes of an end were cut into frames, behind which some wait.
pub record Cut (bytes : List ℕ) (frames : List (List ℕ)) (waits left : List ℕ) : Type 0 where
  pub whole : AllByRecursion IsFrame frames
  pub joined : bytes ≡ concat frames ++ (waits ++ left)

pub cut_more : (bytes : List ℕ) (frames : List (List ℕ)) (waits left : List ℕ) (count : ℕ) (frame : Option (List ℕ)) (next more : List ℕ) → Cut bytes frames waits left → IfSome frame IsFrame
    → GivesBy waits left count frame next → drop count left ≡ more → Cut bytes (frames ++ option_to_list frame) next more
cut_more bytes frames waits left count None next more c is g rest =
    subst (λ (fs : List (List ℕ)). Cut bytes fs next more) (sym (append-nil frames))
    (record { whole = c.whole; joined = c.joined ∙ ap (λ (t : List ℕ). concat frames ++ t) (g ∙ ap (λ (t : List ℕ). next ++ t) rest) })
cut_more bytes frames waits left count (Some frame) next more c is g rest = record {
  whole = all_more IsFrame frames frame c.whole is;
  joined = c.joined ∙ ap (λ (t : List ℕ). concat frames ++ t) (g.1 ∙ ap (λ (t : List ℕ). frame ++ t) rest) ∙ sym (append_assoc (concat frames) frame more)
      ∙ ap (λ (t : List ℕ). t ++ more) (sym (concat_more frames frame)) ∙ ap (λ (t : List ℕ). concat (frames ++ frame ∷ []) ++ (t ++ more)) (sym g.0);
}

-- The first bytes of an end were cut into frames, and what waits is kept by a stream.
abbrev pub CutTo : List ℕ → List (List ℕ) → Waits → ℕ → Type 0
CutTo bytes frames stream from = (waits : List ℕ) × (stream ≡ Some waits) × IsBegun (front_of waits) × Cut bytes frames waits (drop from bytes)

pub cut_given : (bytes : List ℕ) (frames more : List (List ℕ)) (stream next : Waits) (from : ℕ) (given : Given) → CutTo bytes frames stream from → Gives stream (drop from bytes) (Ok given) next → IfSome given.frame IsFrame
    → more ≡ frames ++ option_to_list given.frame → CutTo bytes more next (from + given.count)
cut_given bytes frames more stream next from given c gives is same =
    let g = subst (λ (w : Waits). Gives w (drop from bytes) (Ok given) next) c.1 gives in (
      g.0,
      g.1,
      g.2,
      subst (λ (fs : List (List ℕ)). Cut bytes fs g.0 (drop (from + given.count) bytes)) (sym same)
          (cut_more bytes frames c.0 (drop from bytes) given.count given.frame g.0 (drop (from + given.count) bytes) c.3 is g.3 (drop-drop given.count from bytes)),
    )

-- ---- the next message

not_false : (b : Bool) → not b ≡ true → b ≡ true → ⊥
not_false true n b = no_truth n
not_false false n b = no_truth b

is_true : (b : Bool) → not b ≡ false → b ≡ true
is_true true n = refl
is_true false n = absurd (no_truth (sym n))

-- the other end's, which may be said
pub chosen_second : (x : Stand) (s : Side) (mine theirs : List (List ℕ)) (n : Option Next) → IsNextAt x (other_side s) theirs n → may_come n ≡ true → IsChosen x s mine theirs n
chosen_second x s mine theirs None at may = absurd (no_truth may)
chosen_second x s mine [] (Some n) at may = absurd at
chosen_second x s mine (f ∷ fs) (Some n) at may = inr (at.0, (at.1, λ b. absurd (not_false (breaks n.told) may b)))

has_none : (x : Stand) (s : Side) (theirs : List (List ℕ)) (n : Option Next) → IsNextAt x s theirs n → may_come n ≡ false → HasNone x s theirs
has_none x s [] n at may = tt
has_none x s (f ∷ fs) None at may = absurd at
has_none x s (f ∷ fs) (Some n) at may = (n.told, at.1.1, at.1.2, is_true (breaks n.told) may)

-- the first, where none may be said
pub chosen_rest : (x : Stand) (s : Side) (mine theirs : List (List ℕ)) (m n : Option Next) → IsNextAt x s mine m → is_some m ≡ true → IsNextAt x (other_side s) theirs n → may_come n ≡ false
    → IsChosen x s mine theirs m
chosen_rest x s mine theirs None n at some next may = absurd (no_truth some)
chosen_rest x s [] theirs (Some m) n at some next may = absurd at
chosen_rest x s (f ∷ fs) theirs (Some m) n at some next may = inl (at.0, (at.1, λ b. has_none x (other_side s) theirs n next may))

-- ---- all messages

other_twice : (s : Side) → other_side (other_side s) ≡ s
other_twice side.Client = refl
other_twice side.Server = refl

picked_other : (x : Stand) (s t : Side) (r : Rest) (size : ℕ) (told : Told) → t ≡ other_side s → IsPicked x (other_side s) (rest_of r (other_side s)) (rest_of r s) size told
    → IsPicked x t (rest_of r t) (rest_of r (other_side t)) size told
picked_other x s t r size told e p =
    subst (λ (o : Side). IsPicked x o (rest_of r o) (rest_of r (other_side o)) size told) (sym e)
    (subst (λ (o : Side). IsPicked x (other_side s) (rest_of r (other_side s)) (rest_of r o) size told) (sym (other_twice s)) p)

-- the message that was chosen, by its own end
pub picked : (x : Stand) (s : Side) (r : Rest) (n : Next) → IsChosen x s (rest_of r s) (rest_of r (other_side s)) (Some n) → IsPicked x n.side (rest_of r n.side) (rest_of r (other_side n.side)) n.size n.told
picked x s r n (inl p) = subst (λ (o : Side). IsPicked x o (rest_of r o) (rest_of r (other_side o)) n.size n.told) (sym p.0) p.1
picked x s r n (inr p) = picked_other x s n.side r n.size n.told p.0 p.1

pub weaves_more : (at : Option ℕ) (x : Stand) (left : Rest) (order : List Side) (y z : Stand) (rest : Rest) (s : Side) (size : ℕ) (told : Told) → Weaves at x left order y rest → is_done at y ≡ false
    → IsPicked y s (rest_of rest s) (rest_of rest (other_side s)) size told → ComesAs y s (moment_of y None size) told z → Weaves at x left (order ++ s ∷ []) z (without_next s rest)
weaves_more at x left [] y z rest s size told w going p c = (
  subst (λ (u : Stand). is_done at u ≡ false) w.0 going,
  size,
  told,
  subst (λ (u : Stand). IsPicked u s (rest_of left s) (rest_of left (other_side s)) size told) w.0 (subst (λ (r : Rest). IsPicked y s (rest_of r s) (rest_of r (other_side s)) size told) w.1 p),
  z,
  subst (λ (u : Stand). ComesAs u s (moment_of u None size) told z) w.0 c,
  (refl, ap (without_next s) w.1),
)
weaves_more at x left (o ∷ order) y z rest s size told w going p c = (w.0, w.1, w.2, w.3, w.4, w.5, weaves_more at w.4 (without_next o left) order y z rest s size told w.6 going p c)

-- one message more came, the one that was chosen
pub weave_more : (at : Option ℕ) (x : Stand) (left : Rest) (y z : Stand) (rest more : Rest) (s o : Side) (mine theirs : List (List ℕ)) (m : Option Next) (n : Next)
    → (order : List Side) × Weaves at x left order y rest → is_done at y ≡ false → mine ≡ rest_of rest s → o ≡ other_side s → theirs ≡ rest_of rest o → IsChosen y s mine theirs m → m ≡ Some n
    → ComesAs y n.side (moment_of y None n.size) n.told z → more ≡ without_next n.side rest → (order : List Side) × Weaves at x left order z more
weave_more at x left y z rest more s o mine theirs m n w going own other ends chosen is comes behind =
    let at_own = subst (λ (fs : List (List ℕ)). IsChosen y s fs theirs m) own chosen in
    let at_both = subst (λ (fs : List (List ℕ)). IsChosen y s (rest_of rest s) fs m) (ends ∙ ap (rest_of rest) other) at_own in
    let at_one = subst (λ (k : Option Next). IsChosen y s (rest_of rest s) (rest_of rest (other_side s)) k) is at_both in (
      w.0 ++ n.side ∷ [],
      subst (λ (r : Rest). Weaves at x left (w.0 ++ n.side ∷ []) z r) (sym behind) (weaves_more at x left w.0 y z rest n.side n.size n.told w.1 going (picked y s rest n at_one) comes),
    )
