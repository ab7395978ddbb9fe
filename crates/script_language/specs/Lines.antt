-- What the lines of a script say, or the first thing that is wrong with them (docs/script.md, "Lines").
use Rattle.std.specs.Prelude.{ℕ, ◌≡◌, ◌-◌, ◌==◌, Bool, true, false, ◌&&◌, ◌||◌, if◌then◌else◌, List, [], ◌∷◌, length, Option, Some, None, Result, Ok, Err, codes, slice_get}
use Rattle.std.specs.List.{slice_split}
use Rattle.rpc_msg.specs.declared.ids.Vat.{Vat}
use Rattle.script_language.specs.declared.line.Line.{Line}
use Rattle.script_language.specs.declared.line.Line.TheVariants as line
use Rattle.script_language.specs.declared.line.LineCommand.{LineCommand}
use Rattle.script_language.specs.declared.line.LineCommand.TheVariants as said
use Rattle.script_language.specs.declared.line.Program.{Program}
use Rattle.script_language.specs.declared.line.Program.TheVariants as program
use Rattle.script_language.specs.declared.fault.LineFault.{LineFault}
use Rattle.script_language.specs.declared.fault.LineFault.TheVariants as fault
use Rattle.script_language.specs.declared.fault.ReadFault.{ReadFault}
use Rattle.script_language.specs.declared.fault.ReadFault.TheVariants as read
use Rattle.script_language.specs.Words.{and_then, of_three, of_five, is_text, vat_of, name_of, number_of, path_of, caps_of}

-- A name alone.
abbrev pub one_name : List (List ℕ) → Result (List ℕ) LineFault
one_name (name ∷ []) = name_of name
one_name words = Err fault.Count

-- Two names.
abbrev pub two_names : List (List ℕ) → Result (List ℕ × List ℕ) LineFault
two_names (first ∷ second ∷ []) = and_then (name_of first) (λ f. and_then (name_of second) (λ s. Ok (f, s)))
two_names words = Err fault.Count

-- NAME OBJECT
abbrev pub host_of : List (List ℕ) → Result LineCommand LineFault
host_of (name ∷ object ∷ []) = and_then (name_of name) (λ n. and_then (number_of 64 object) (λ o. Ok (said.Host n (record { 0 = o }))))
host_of words = Err fault.Count

-- CALL
abbrev pub bootstrap_of : List (List ℕ) → Result LineCommand LineFault
bootstrap_of words = and_then (one_name words) (λ c. Ok (said.Bootstrap c))

abbrev pub field_line : List ℕ → List ℕ → List ℕ → Result LineCommand LineFault
field_line name call path =
    of_three (λ n c p. said.Field (record { name = n; call = c; path = p })) (name_of name) (name_of call) (path_of path)

-- NAME CALL PATH
abbrev pub field_of : List (List ℕ) → Result LineCommand LineFault
field_of (name ∷ call ∷ path ∷ []) = field_line name call path
field_of words = Err fault.Count

abbrev pub call_line : List ℕ → List ℕ → List ℕ → List ℕ → List ℕ → Result LineCommand LineFault
call_line call name interface method caps =
    of_five (λ c n i m cs. said.Call (record { call = c; reference = n; interface = i; method = m; caps = cs }))
    (name_of call) (name_of name) (number_of 64 interface) (number_of 16 method) (caps_of caps)

-- CALL NAME INTERFACE METHOD CAPS
abbrev pub call_of : List (List ℕ) → Result LineCommand LineFault
call_of (call ∷ name ∷ interface ∷ method ∷ caps ∷ []) = call_line call name interface method caps
call_of words = Err fault.Count

-- TASK CAPS
abbrev pub answer_of : List (List ℕ) → Result LineCommand LineFault
answer_of (task ∷ caps ∷ []) = and_then (number_of 64 task) (λ t. and_then (caps_of caps) (λ cs. Ok (said.Answer (record { 0 = t }) cs)))
answer_of words = Err fault.Count

-- TASK
abbrev pub fail_of : List (List ℕ) → Result LineCommand LineFault
fail_of (task ∷ []) = and_then (number_of 64 task) (λ t. Ok (said.Fail (record { 0 = t })))
fail_of words = Err fault.Count

-- PROMISE NAME
abbrev pub promise_of : List (List ℕ) → Result LineCommand LineFault
promise_of words = and_then (two_names words) (λ ns. Ok (said.Promise ns.0 ns.1))

-- PROMISE NAME
abbrev pub resolve_of : List (List ℕ) → Result LineCommand LineFault
resolve_of words = and_then (two_names words) (λ ns. Ok (said.Resolve ns.0 ns.1))

-- PROMISE
abbrev pub reject_of : List (List ℕ) → Result LineCommand LineFault
reject_of words = and_then (one_name words) (λ p. Ok (said.Reject p))

-- NAME NAME: the new one, and the one that it is a clone of
abbrev pub clone_of : List (List ℕ) → Result LineCommand LineFault
clone_of words = and_then (two_names words) (λ ns. Ok (said.CloneRef ns.0 ns.1))

-- NAME
abbrev pub drop_of : List (List ℕ) → Result LineCommand LineFault
drop_of words = and_then (one_name words) (λ n. Ok (said.DropRef n))

-- CALL
abbrev pub finish_of : List (List ℕ) → Result LineCommand LineFault
finish_of words = and_then (one_name words) (λ c. Ok (said.Finish c))

-- NAME
abbrev pub advance_of : List (List ℕ) → Result LineCommand LineFault
advance_of words = and_then (one_name words) (λ n. Ok (said.Advance n))

-- The commands that end something, or change what a reference leads to.
abbrev pub ending_of : List ℕ → List (List ℕ) → Result LineCommand LineFault
ending_of word rest =
    if is_text (codes "fail") word then fail_of rest
    else (if is_text (codes "resolve") word then resolve_of rest
    else (if is_text (codes "reject") word then reject_of rest
    else (if is_text (codes "drop") word then drop_of rest
    else (if is_text (codes "finish") word then finish_of rest
    else (if is_text (codes "advance") word then advance_of rest
    else Err fault.Word)))))

-- The commands whose words are names and numbers.
abbrev pub plain_of : List ℕ → List (List ℕ) → Result LineCommand LineFault
plain_of word rest =
    if is_text (codes "host") word then host_of rest
    else (if is_text (codes "bootstrap") word then bootstrap_of rest
    else (if is_text (codes "promise") word then promise_of rest
    else (if is_text (codes "clone") word then clone_of rest
    else ending_of word rest)))

-- The word that says what is asked, and what follows it.
abbrev pub command_of : List ℕ → List (List ℕ) → Result LineCommand LineFault
command_of word rest =
    if is_text (codes "field") word then field_of rest
    else (if is_text (codes "call") word then call_of rest
    else (if is_text (codes "answer") word then answer_of rest
    else plain_of word rest))

abbrev pub take_line : Vat → List ℕ → List ℕ → List ℕ → Result Line LineFault
take_line v name task index =
    of_three (λ n t i. line.Take v (record { name = n; task = record { 0 = t }; index = i })) (name_of name) (number_of 64 task) (number_of 32 index)

-- NAME TASK I
abbrev pub take_of : Vat → List (List ℕ) → Result Line LineFault
take_of v (name ∷ task ∷ index ∷ []) = take_line v name task index
take_of v words = Err fault.Count

abbrev pub got_line : Vat → List ℕ → List ℕ → List ℕ → Result Line LineFault
got_line v name call index =
    of_three (λ n c i. line.Got v (record { name = n; call = c; index = i })) (name_of name) (name_of call) (number_of 32 index)

-- NAME CALL I
abbrev pub got_of : Vat → List (List ℕ) → Result Line LineFault
got_of v (name ∷ call ∷ index ∷ []) = got_line v name call index
got_of v words = Err fault.Count

-- Nothing follows.
abbrev pub alone : Line → List (List ℕ) → Result Line LineFault
alone l [] = Ok l
alone l (word ∷ words) = Err fault.Count

-- What a vat does: the word that says it, and what follows.
abbrev pub act_of : Vat → List ℕ → List (List ℕ) → Result Line LineFault
act_of v word rest =
    if is_text (codes "take") word then take_of v rest
    else (if is_text (codes "got") word then got_of v rest
    else (if is_text (codes "turn") word then alone (line.Turn v) rest
    else and_then (command_of word rest) (λ c. Ok (line.Command v c))))

-- `deliver`, and what follows it.
abbrev pub deliver_of : List (List ℕ) → Result Line LineFault
deliver_of (v ∷ []) = and_then (vat_of v) (λ v. Ok (line.Deliver v))
deliver_of words = Err fault.Count

-- A vat, and what follows it.
abbrev pub vat_line : Vat → List (List ℕ) → Result Line LineFault
vat_line v [] = Err fault.Count
vat_line v (word ∷ rest) = act_of v word rest

abbrev pub line_of_words : List (List ℕ) → Result Line LineFault
line_of_words [] = Err fault.Count
line_of_words (first ∷ rest) =
    if is_text (codes "deliver") first then deliver_of rest
    else (if is_text (codes "tables") first then alone line.Tables rest
    else and_then (vat_of first) (λ v. vat_line v rest))

-- `deliver` and `tables` are lines of `run` alone, `turn` is one of `pair` alone.
abbrev pub line_for : Program → Line → Result Line LineFault
line_for program.Run (line.Turn v) = Err fault.OtherProgram
line_for program.Pair (line.Deliver v) = Err fault.OtherProgram
line_for program.Pair line.Tables = Err fault.OtherProgram
line_for p l = Ok l

-- What stands behind a word: a space, or the newline that ends the line.
abbrev pub is_gap : ℕ → Bool
is_gap c = c == 32 || c == 10

abbrev pub is_comment : List ℕ → Bool
is_comment [] = false
is_comment (c ∷ cs) = c == 35

-- A line that says nothing: it is empty, or a comment, which begins with `#`.
abbrev pub is_skipped : List ℕ → Bool
is_skipped [] = true
is_skipped (c ∷ cs) = c == 35

-- Its last byte is a carriage return.
abbrev pub is_return : Option ℕ → Bool
is_return None = false
is_return (Some c) = c == 13

-- It begins with the byte order mark.
abbrev pub is_marked : List ℕ → Bool
is_marked (a ∷ b ∷ c ∷ rest) = a == 239 && (b == 187 && c == 191)
is_marked bytes = false

-- What the words of a line say together, where it is a line of that program.
abbrev pub words_for : Program → List (List ℕ) → Result Line LineFault
words_for p words = and_then (line_of_words words) (line_for p)

-- A line's bytes, without the newline that ends it. Its words are parted by single spaces.
abbrev pub line_of : Program → List ℕ → Result Line LineFault
line_of p text =
    if is_skipped text then Ok line.Skip
    else (if is_marked text then Err fault.ByteOrderMark
    else (if is_return (slice_get text (length text - 1)) then Err fault.CarriageReturn
    else words_for p (slice_split (λ c. c == 32) text)))

-- What a reader answers of a text that says this, or is at fault so: the same, unless memory runs out.
abbrev pub Reads : {X : Type 0} → Result X LineFault → Result X ReadFault → Type 0
Reads said (Ok x) = said ≡ Ok x
Reads said (Err (read.Line e)) = said ≡ Err e
Reads said (Err read.Memory) = Unit {0}
