-- What a frame says of questions, whether or not the rest of it is understood: `Message` of rpc.capnp.
use Rattle.std.specs.Prelude.{ℕ, ◌==◌, ◌||◌, Bool, false, if◌then◌else◌, List, Option, Some, None, Result, Ok, Err}
use Rattle.capn_trees.specs.declared.faults.PayloadFault.{PayloadFault}
use Rattle.capn_trees.specs.Trees.{Tree}
use Rattle.capn_reading.specs.Reading.{Reading, element, message_of}
use Rattle.capn_reading.specs.Looking.{field, data_of}
use Rattle.rpc_codec.specs.Decoding.{any_caps}
use Rattle.rpc_codec.specs.declared.headings.Heading.{Heading}
use Rattle.rpc_codec.specs.declared.headings.Heading.TheVariants as heading

-- a Call: questionId @0, onlyPromisePipeline @10 in bit 130
abbrev pub asked_by_call : List ℕ → Heading
asked_by_call words = heading.Asks (record { 0 = element words 32 0 }) (element words 1 130 == 1)

-- questionId @0
abbrev pub asked : List ℕ → Heading
asked words = heading.Asks (record { 0 = element words 32 0 }) false

-- a Return: answerId @0, noFinishNeeded @8 in bit 33
abbrev pub answered : List ℕ → Heading
answered words = heading.Answers (record { 0 = element words 32 0 }) (element words 1 33 == 1)

-- the data of a message, by the union's number
abbrev pub heading_from : ℕ → Option (List ℕ) → Heading
heading_from which None = heading.Other
heading_from which (Some words) =
    if which == 2 then asked_by_call words  -- call @2
    else if which == 3 then answered words  -- return @3
    else if which == 8 || which == 10 || which == 11 || which == 12 then asked words  -- bootstrap @8, provide @10, accept @11, join @12
    else heading.Other

abbrev pub heading_by : ℕ → Tree → Heading
heading_by which t = heading_from which (data_of t)

-- the union's number, and the message that its pointer leads to
abbrev pub heading_within : Option (List ℕ) → Option Tree → Heading
heading_within None message = heading.Other
heading_within (Some words) None = heading.Other
heading_within (Some words) (Some message) = heading_by (element words 16 0) message

abbrev pub heading_of : Tree → Heading
heading_of t = heading_within (data_of t) (field t 0)

abbrev pub heading_read : Reading Tree → Result Heading PayloadFault
heading_read (Ok x) = Ok (heading_of x.0)
heading_read (Err f) = Err f

-- what the bytes of a frame say of questions
unfoldable pub heading_at : List ℕ → Result Heading PayloadFault
heading_at bytes = heading_read (message_of bytes any_caps)
