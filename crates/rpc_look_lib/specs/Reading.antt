-- A log, line by line (docs/looking.md).
use Rattle.std.specs.Prelude.{◌≡◌, ℕ, ◌-◌, ◌==◌, ◌||◌, if◌then◌else◌, Bool, true, false, Option, Some, None, List, [], ◌∷◌, ◌++◌, length, take, slice_index, Result, Ok, Err}
use Rattle.std.specs.List.{AllByRecursion}
use Rattle.program_files.specs.Texts.{IsInput}
use Rattle.look_pieces.specs.Pieces.{State, Told, told, end_of}
use Rattle.rpc_look_lib.specs.Talking.{is_done}
use Rattle.rpc_look_lib.specs.Capturing.{Scene, IsBare, PieceComes}

-- ---- lines

-- a line without the return before its newline
abbrev pub ends_in_return : List ℕ → Bool
ends_in_return line = if length line == 0 then false else slice_index line (length line - 1) == 13

abbrev pub bare_line : List ℕ → List ℕ
bare_line line = if ends_in_return line then take (length line - 1) line else line

abbrev pub is_newline : ℕ → Bool
is_newline c = c == 10

abbrev pub has_newline : List ℕ → Bool
has_newline [] = false
has_newline (c ∷ cs) = is_newline c || has_newline cs

abbrev pub IsLine : List ℕ → Type 0
IsLine line = has_newline line ≡ false

-- lines, each with its newline
abbrev pub joined : List (List ℕ) → List ℕ
joined [] = []
joined (line ∷ lines) = line ++ 10 ∷ joined lines

-- ---- what comes

-- where the reader of the log stands, and what was said
abbrev pub Looking : Type 0
Looking = State × Scene

-- Nothing came.
pub record IsStart (x : Looking) : Type 0 where
  pub log : x.0 ≡ (record { begun = None; client = 0; server = 0; day = None; lines = 0 }, [])
  pub scene : IsBare x.1

-- A line ends no piece, or its piece comes. Of lines that are no log nothing comes.
abbrev pub LineBy : Option ℕ → Told → Scene → Looking → Type 0
LineBy at (Ok (None, log)) old new = (new.0 ≡ log) × (new.1 ≡ old)
LineBy at (Ok (Some (head, (time, bytes)), log)) old new = (new.0 ≡ log) × PieceComes at head.side (Some time) bytes old new.1
LineBy at (Err f) old new = ⊥

-- A line comes.
abbrev pub LineComes : Option ℕ → List ℕ → Looking → Looking → Type 0
LineComes at line old new = LineBy at (told old.0 (bare_line line)) old.1 new

-- Lines come one after the other, up to the last message that is asked for.
abbrev pub LinesCome : Option ℕ → Looking → List (List ℕ) → Looking → Type 0
LinesCome at old [] new = new ≡ old
LinesCome at old (line ∷ lines) new = (is_done at old.1.stand ≡ false) × (mid : Looking) × LineComes at line old mid × LinesCome at mid lines new

-- The last line, where the text does not end in a newline.
abbrev pub LastComes : Option ℕ → List ℕ → Looking → Looking → Type 0
LastComes at [] old new = new ≡ old
LastComes at (c ∷ cs) old new = LineComes at (c ∷ cs) old new

-- ---- a part of the log

-- Lines of a text come, behind which that is left.
pub record Front (at : Option ℕ) (text : List ℕ) (old : Looking) (left : List ℕ) (new : Looking) : Type 0 where
  pub lines : List (List ℕ)
  pub parted : text ≡ joined lines ++ left
  pub whole : AllByRecursion IsLine lines
  pub come : LinesCome at old lines new

-- All lines of a part came, and the beginning of a line waits; or the last message came that is asked for.
abbrev pub IsAll : Bool → List ℕ → List ℕ → Type 0
IsAll true left begun = Unit {0}
IsAll false left begun = (left ≡ begun) × IsLine begun

abbrev pub PartComes : Option ℕ → List ℕ → List ℕ → Looking → List ℕ → Looking → Type 0
PartComes at begun part old waits new = (left : List ℕ) × Front at (begun ++ part) old left new × IsAll (is_done at new.1.stand) left waits

-- ---- the whole log

-- All of a log came, and it may end there; or the last message came that is asked for.
abbrev pub EndsBy : Option ℕ → Bool → List ℕ → Looking → Scene → Type 0
EndsBy at true left x new = new ≡ x.1
EndsBy at false left x new = IsLine left × (log : State) × LastComes at left x (log, new) × (end_of log ≡ Ok tt)

-- A log is looked at.
pub record LooksAt (at : Option ℕ) (text : List ℕ) (start new : Scene) : Type 0 where
  pub begin : Looking
  pub log : begin.0 ≡ (record { begun = None; client = 0; server = 0; day = None; lines = 0 }, [])
  pub scene : begin.1 ≡ start
  pub left : List ℕ
  pub mid : Looking
  pub front : Front at text begin left mid
  pub ends : EndsBy at (is_done at mid.1.stand) left mid new

-- What a reader gives is looked at.
abbrev pub Reads : Option ℕ → Option (List ℕ) → Scene → Scene → Type 0
Reads at known start new = (text : List ℕ) × IsInput known text × LooksAt at text start new

-- Whether something breaks the protocol in the log that a reader gives.
abbrev pub Looks : Option ℕ → Option (List ℕ) → Bool → Type 0
Looks at known broken = (start new : Scene) × IsBare start × Reads at known start new × (broken ≡ new.stand.broken)
