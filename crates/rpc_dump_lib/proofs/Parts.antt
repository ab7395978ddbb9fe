-- One part more of an input is said.
use Rattle.std.proofs.Common.{◌≡◌, ℕ, ◌+◌, ◌-◌, ◌^◌, ◌<◌, min, List, [], ◌∷◌, ◌++◌, length, Option, Some, None, refl, sym, ap, subst, ◌∙◌, append_assoc, append-nil, length-append, arith}
use Rattle.std.specs.List.{AllByRecursion, concat, before_first, after_first}
use Rattle.std.specs.Io.KnownBytes.{Appends}
use Rattle.std.proofs.KnownBytes.{Appends-nil, Appends-trans}
use Rattle.capn_stream.specs.Fronts.{IsFrame}
use Rattle.capn_stream.specs.Streams.{IsSplit}
use Rattle.rpc_dump_lib.specs.Conversations.{is_newline, IsLines, joined, lines_of, number_behind, Said}

joined_more : (a b c : Option (List ℕ)) → joined a (joined b c) ≡ joined (joined a b) c
joined_more None b c = refl
joined_more (Some x) None c = refl
joined_more (Some x) (Some y) None = refl
joined_more (Some x) (Some y) (Some z) = ap Some (sym (append_assoc x y z))

joined_none : (a : Option (List ℕ)) → joined a (Some []) ≡ joined (Some []) a
joined_none None = refl
joined_none (Some x) = ap Some (append-nil x)

lines_more : (line : List ℕ → Option (List ℕ)) (parts : List (List ℕ)) (part : List ℕ) → lines_of line (parts ++ part ∷ []) ≡ joined (lines_of line parts) (line part)
lines_more line [] part = joined_none (line part)
lines_more line (p ∷ ps) part = ap (joined (line p)) (lines_more line ps part) ∙ joined_more (line p) (lines_of line ps) (line part)

told_more : (line : List ℕ → Option (List ℕ)) (parts : List (List ℕ)) (part text more : List ℕ) → lines_of line parts ≡ Some text → line part ≡ Some more
    → lines_of line (parts ++ part ∷ []) ≡ Some (text ++ more)
told_more line parts part text more told one = lines_more line parts part ∙ ap (λ (o : Option (List ℕ)). joined o (line part)) told ∙ ap (joined (Some text)) one

counted_more : (parts : List (List ℕ)) (part : List ℕ) (number next : ℕ) → number ≡ number_behind parts → next ≡ min (number + 1) (2 ^ 64 - 1) → next ≡ number_behind (parts ++ part ∷ [])
counted_more parts part number next e is = let size : length (parts ++ part ∷ []) ≡ length parts + 1 = length-append parts (part ∷ []) in omega arith

module _ {IsCut : List (List ℕ) → List ℕ → Type 0} {line : List ℕ → Option (List ℕ)} where
  pub said_none : (rest : List ℕ) (old : Option (List ℕ)) → IsCut [] rest → Said IsCut line rest 1 old old
  said_none rest old cut = record { parts = []; text = []; cut = cut; told = refl; counted = refl; written = Appends-nil old }

  pub said_more : (part rest left more : List ℕ) (number next : ℕ) (old mid new : Option (List ℕ))
      → ((parts : List (List ℕ)) → IsCut parts rest → IsCut (parts ++ part ∷ []) left) → line part ≡ Some more → Appends mid new more → next ≡ min (number + 1) (2 ^ 64 - 1)
      → Said IsCut line rest number old mid → Said IsCut line left next old new
  said_more part rest left more number next old mid new cuts one wrote is s = record {
    parts = s.parts ++ part ∷ [];
    text = s.text ++ more;
    cut = cuts s.parts s.cut;
    told = told_more line s.parts part s.text more s.told one;
    counted = counted_more s.parts part number next s.counted is;
    written = Appends-trans old mid new s.text more s.written wrote;
  }

concat_more : (parts : List (List ℕ)) (part : List ℕ) → concat (parts ++ part ∷ []) ≡ concat parts ++ part
concat_more [] part = append-nil part
concat_more (p ∷ ps) part = ap (λ (t : List ℕ). p ++ t) (concat_more ps part) ∙ sym (append_assoc p (concat ps) part)

whole_more : (parts : List (List ℕ)) (part : List ℕ) → AllByRecursion IsFrame parts → IsFrame part → AllByRecursion IsFrame (parts ++ part ∷ [])
whole_more [] part all one = (one, tt)
whole_more (p ∷ ps) part all one = (all.0, whole_more ps part all.1 one)

-- a frame that stands in front of the rest
pub frame_cut : (input frame left : List ℕ) (parts : List (List ℕ)) → IsFrame frame → IsSplit input parts (frame ++ left) → IsSplit input (parts ++ frame ∷ []) left
frame_cut input frame left parts one s = record {
  whole = whole_more parts frame s.whole one;
  joined = s.joined ∙ sym (append_assoc (concat parts) frame left) ∙ ap (λ (t : List ℕ). t ++ left) (sym (concat_more parts frame));
}

-- the line that stands in front of the rest
pub line_cut : (input rest : List ℕ) (parts : List (List ℕ)) → 0 < length rest → IsLines input parts rest
    → IsLines input (parts ++ before_first is_newline rest ∷ []) (after_first is_newline rest)
line_cut input rest [] some same =
    subst (λ (bytes : List ℕ). IsLines bytes (before_first is_newline rest ∷ []) (after_first is_newline rest)) same (some, refl, refl)
line_cut input rest (p ∷ ps) some cut = (cut.0, cut.1, line_cut (after_first is_newline input) rest ps some cut.2)
