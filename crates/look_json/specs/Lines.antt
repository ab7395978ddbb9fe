-- The objects that lines are (docs/looking.md). Their members stand in the order of their keys.
use Rattle.std.specs.Prelude.{◌≡◌, ℕ, ◌++◌, Bool, true, false, Option, Some, None, List, [], ◌∷◌, codes}
use Rattle.serde_json.specs.Data.{Data, null, boolean, number, string, array, object, Items, no_items, item, Members, no_members, member, put}
use Rattle.serde_json.specs.View.{items_of}
use Rattle.serde_json.specs.Written.{IsInOrder, has_float, compact_text}
use Rattle.rpc_msg.specs.declared.parts.Descriptor.{Descriptor}
use Rattle.rpc_codec_parts.specs.declared.faults.EnvelopeFault.{EnvelopeFault}
use Rattle.rpc_codec_parts.specs.Numbers.{number_of}
use Rattle.rpc_codec.specs.Envelopes.{seen_envelope}
use Rattle.rpc_codec.specs.declared.envelope.Envelope.{Envelope}
use Rattle.rpc_codec.specs.declared.headings.Heading.{Heading}
use Rattle.trace_write.specs.Parts.{nat, list}
use Rattle.rpc_dump_lib.specs.declared.form.Form.{Form}
use Rattle.rpc_dump_lib.specs.Named.{members_in, line_data}
use Rattle.look_books.specs.declared.books.Moment.{Moment}
use Rattle.look_books.specs.declared.breach.Breach.{Breach}
use Rattle.look_books.specs.declared.breach.Breach.TheVariants as breach
use Rattle.look_books.specs.declared.oddity.Oddity.{Oddity}
use Rattle.look_books.specs.declared.judge.Found.{Found}
use Rattle.look_books.specs.Ends.{Kept}
use Rattle.look_json.specs.Links.{about, target_of, descriptors_of, of_descriptor}

-- ---- values and their text

-- the number of a message, if there is one
abbrev pub link_data : Option ℕ → Data
link_data None = null
link_data (Some n) = nat n

abbrev pub IsTextOf : List ℕ → Data → Type 0
IsTextOf text d = IsInOrder text d × (has_float d ≡ false → text ≡ compact_text d)

-- A value is put behind what an output held, as a line.
abbrev pub Writes : Data → List ℕ → List ℕ → Type 0
Writes d old new = (text : List ℕ) × IsTextOf text d × (new ≡ old ++ (text ++ 10 ∷ []))

-- ---- what is to be said of a message

-- the checks are numbered as in docs/looking.md
abbrev pub check_of : Breach → ℕ
check_of (breach.BehindAbort n) = 13
check_of (breach.InUse q asked returned) = 1
check_of (breach.NotHeld usage x back) = 2
check_of (breach.NotAsked usage q lost) = 3
check_of (breach.TooMany by count x there) = 5
check_of (breach.AnswersNone q over) = 4
check_of (breach.AnswersAgain q n) = 4
check_of (breach.NoTailCall n) = 10
check_of (breach.TakesNone q) = 11
check_of (breach.FinishesNone q over) = 6
check_of (breach.FinishesAgain q n) = 6
check_of (breach.ResolvesNone x why) = 7
check_of (breach.EmbargoInUse i n) = 8
check_of breach.LeadsElsewhere = 8
check_of (breach.NoEmbargo i) = 9
check_of (breach.NeverSent k) = 12

-- the check that finds no message in a frame
abbrev pub no_message : ℕ
no_message = 14

abbrev pub broken_data : ℕ → List ℕ → Data
broken_data check words = object (
    member (codes "check") (nat check) (
    member (codes "words") (string words) no_members))

-- what breaks the protocol where no message is, in words
abbrev pub no_message_data : List ℕ → Data
no_message_data words = array (item (broken_data no_message words) no_items)

-- A breach is said, in some words.
abbrev pub IsBroken : Breach → Data → Type 0
IsBroken b d = (words : List ℕ) × (d ≡ broken_data (check_of b) words)

-- An oddity is said, in some words.
abbrev pub IsOdd : Oddity → Data → Type 0
IsOdd o d = (words : List ℕ) × (d ≡ string words)

-- one of these for each of those, in order
abbrev pub Each : {A : Type 0} → (A → Data → Type 0) → List A → List Data → Type 0
Each Is [] [] = Unit {0}
Each Is [] (d ∷ ds) = ⊥
Each Is (x ∷ xs) [] = ⊥
Each Is (x ∷ xs) (d ∷ ds) = Is x d × Each Is xs ds

abbrev pub AreSaid : {A : Type 0} → (A → Data → Type 0) → List A → Data → Type 0
AreSaid Is xs d = (ds : List Data) × Each Is xs ds × (d ≡ array (items_of ds))

-- ---- a message

-- for each descriptor the message that it is of
abbrev pub given_data : Kept → Kept → ℕ → List Descriptor → Data
given_data own heard n ds = list (λ d. link_data (of_descriptor own heard n d)) ds

-- number, time, size and sender of a frame, the sender by its name
abbrev pub with_front : Moment → List ℕ → Members → Members
with_front m name ms = put (codes "from") (string name) (put (codes "frame") (nat m.size) (put (codes "time") (link_data m.time) (put (codes "n") (nat m.number) ms)))

-- the earlier messages that it belongs to
abbrev pub with_links : Kept → Kept → ℕ → Envelope → Heading → Members → Members
with_links own heard n e h ms =
    put (codes "given") (given_data own heard n (descriptors_of e)) (
    put (codes "targetOf") (link_data (target_of own heard e)) (
    put (codes "of") (link_data (about own heard e h)) ms))

-- what is to be said of it
abbrev pub IsFound : Found → Members → Members → Type 0
IsFound found old new =
    (broken odd : Data) × AreSaid IsBroken found.breaches.items broken × AreSaid IsOdd found.oddities.items odd
    × (new ≡ put (codes "odd") odd (put (codes "breaks") broken old))

-- The line of a message of an end: beside what `rpc_dump` says of it.
abbrev pub IsMessage : Moment → Kept → Kept → Envelope → Heading → Found → Form → Data → Type 0
IsMessage m own heard e h found form d =
    (name : List ℕ) × (ms : Members) × IsFound found (with_links own heard m.number e h (with_front m name (members_in (line_data form (seen_envelope e))))) ms × (d ≡ object ms)

-- The line of a frame that is no message, with the number of its fault and these words.
abbrev pub none_data : Moment → EnvelopeFault → List ℕ → List ℕ → Data
none_data m f name words = object (
    put (codes "odd") (array no_items) (
    put (codes "breaks") (no_message_data words) (
    with_front m name (member (codes "fault") (nat (number_of f)) no_members))))

-- ---- what else is said

-- An end stops inside a message, of which so many bytes came.
abbrev pub rest_data : List ℕ → ℕ → Data
rest_data name count = object (
    member (codes "from") (string name) (
    member (codes "rest") (nat count) no_members))

-- Nothing more of an end is read.
abbrev pub cut_data : List ℕ → ℕ → List ℕ → Data
cut_data name n words = object (
    member (codes "breaks") (no_message_data words) (
    member (codes "cut") (nat n) (
    member (codes "from") (string name) no_members)))

-- No order of two files makes sense.
abbrev pub stuck_data : Data
stuck_data = object (member (codes "stuck") (boolean true) no_members)
