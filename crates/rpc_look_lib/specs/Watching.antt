-- What a frame of a conversation is, and what is to be said of it by the frames before it (docs/looking.md).
use Rattle.std.specs.Prelude.{◌≡◌, ℕ, Bool, true, false, List, [], ◌∷◌, Result, Ok, Err}
use Rattle.capn_trees.specs.Trees.{null}
use Rattle.rpc_msg.specs.declared.ids.Stamp.{Stamp}
use Rattle.rpc_msg.specs.declared.ids.Vat.TheVariants.{A}
use Rattle.rpc_codec.specs.declared.headings.Heading.{Heading}
use Rattle.rpc_codec.specs.declared.headings.Heading.TheVariants as heading
use Rattle.rpc_codec_parts.specs.declared.faults.EnvelopeFault.{EnvelopeFault}
use Rattle.rpc_codec_parts.specs.declared.faults.EnvelopeFault.TheVariants as fault
use Rattle.rpc_codec.specs.Envelopes.{What, strange, seen_envelope}
use Rattle.rpc_codec.specs.Decoding.{Came, envelope_at}
use Rattle.rpc_codec.specs.Headings.{heading_at}
use Rattle.look_pieces.specs.declared.piece.Side.{Side}
use Rattle.look_pieces.specs.Pieces.{other_side}
use Rattle.look_books.specs.declared.books.Books.{Books}
use Rattle.look_books.specs.declared.books.Moment.{Moment}
use Rattle.look_books.specs.declared.breach.Breach.{Breach}
use Rattle.look_books.specs.Acts.{does}
use Rattle.look_books.specs.Ends.{Kept, kept_of, end_of}
use Rattle.look_books.specs.Checks.{IsVerdict}
use Rattle.look_books.specs.After.{Ends, after, results_in}
use Rattle.rpc_look_lib.specs.declared.watch.Judged.{Judged}
use Rattle.rpc_look_lib.specs.declared.watch.Told.{Told}
use Rattle.rpc_look_lib.specs.declared.watch.Told.TheVariants as told

-- No bytes have a stamp, and no line says this one.
abbrev pub no_stamp : Stamp
no_stamp = record { vat = A; reference = record { 0 = 0 }; index = 0 }

-- what a frame says, or why it is no message
abbrev pub what_in : List ℕ → Came What
what_in frame = envelope_at no_stamp frame

-- A Return of no known kind answers its question all the same: it is kept without its content.
abbrev pub known_by : EnvelopeFault → Came What
known_by (fault.Encoding f) = Err (fault.Encoding f)
known_by fault.WrongKind = Err fault.WrongKind
known_by fault.BadText = Err fault.BadText
known_by fault.TooManyDescriptors = Err fault.TooManyDescriptors
known_by fault.NestedUnimplemented = Err fault.NestedUnimplemented
known_by fault.BadContent = Err fault.BadContent
known_by fault.UnknownReturn = Ok (strange 3 null)

abbrev pub known : Came What → Came What
known (Ok w) = Ok w
known (Err f) = known_by f

abbrev pub heading_or : {E : Type 0} → Result Heading E → Heading
heading_or (Ok h) = h
heading_or (Err f) = heading.Other

-- what it says of questions
abbrev pub heading_in : List ℕ → Heading
heading_in frame = heading_or (heading_at frame)

-- what is kept of each end
abbrev pub kept_by : Books → Side → Kept
kept_by b s = kept_of (end_of b s)

-- What is to be said of a message of an end was found, by what was kept before it.
abbrev pub IsJudged : (Side → Kept) → Side → Told → Type 0
IsJudged kept s (told.Message j) = IsVerdict (kept s) (kept (other_side s)) (does j.envelope j.heading) j.found
IsJudged kept s (told.None f) = Unit {0}

-- It is what the frame says.
abbrev pub IsSaid : List ℕ → Told → Type 0
IsSaid frame (told.Message j) = (known (what_in frame) ≡ Ok (seen_envelope j.envelope)) × (j.heading ≡ heading_in frame)
IsSaid frame (told.None f) = known (what_in frame) ≡ Err f

-- What is kept behind it: of the end that says it, and of the other.
abbrev pub behind : (Side → Kept) → Side → Moment → Told → Ends
behind kept s m (told.Message j) = after m (does j.envelope j.heading) (results_in j.envelope) (kept s) (kept (other_side s))
behind kept s m (told.None f) = (kept s, kept (other_side s))

abbrev pub is_some_breach : List Breach → Bool
is_some_breach [] = false
is_some_breach (b ∷ bs) = true

-- Whether it breaks the protocol: if something was found that does, or if it is no message.
abbrev pub breaks : Told → Bool
breaks (told.Message j) = is_some_breach j.found.breaches.items
breaks (told.None f) = true
