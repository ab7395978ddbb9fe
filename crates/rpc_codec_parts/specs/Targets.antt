-- `MessageTarget` and `PromisedAnswer` of rpc.capnp: what is read of them, and the trees that are written.
-- `element words bits k` is field @n that stands at k times its own size.
use Rattle.std.specs.Prelude.{ℕ, ◌+◌, ◌*◌, ◌^◌, ◌==◌, if◌then◌else◌, nat_lt, List, [], ◌∷◌, map, Ok, Err}
use Rattle.capn_trees.specs.Trees.{Tree, null, struct, list, Trees, no_trees, structs, Structs, no_structs, struct_of, structs_count}
use Rattle.capn_trees.specs.Views.{structs_of}
use Rattle.capn_reading.specs.Reading.{element}
use Rattle.rpc_msg.specs.Op.{Op}
use Rattle.rpc_msg.specs.Op.TheVariants.{Noop, Field}
use Rattle.rpc_msg.specs.declared.ids.QuestionId.{QuestionId}
use Rattle.rpc_msg.specs.declared.parts.Target.{Target}
use Rattle.rpc_msg.specs.declared.parts.Target.TheVariants.{ImportedCap, PromisedAnswer}
use Rattle.rpc_codec_parts.specs.Blocks.{Block, of_fields, block_at, structs_at, one}
use Rattle.rpc_codec_parts.specs.Reading.{Read, ◌>>=◌, unknown}

-- ---- PromisedAnswer.Op: the union's number, and getPointerField @1

abbrev pub op_by : ℕ → ℕ → Read Op
op_by which pointer_field =
    if which == 0 then Ok Noop  -- noop @0
    else if which == 1 then Ok (Field pointer_field)  -- getPointerField @1
    else Err unknown

abbrev pub op_at : Block → Read Op
op_at b = op_by (element b.words 16 0) (element b.words 16 1)

abbrev pub ops_at : Structs → Read (List Op)
ops_at no_structs = Ok []
ops_at (struct_of words ts ss) = do
  op ← op_at (of_fields (words, ts))
  ops ← ops_at ss
  Ok (op ∷ ops)

-- a path of at most 16 steps: longer ones are not of the profile
abbrev pub path_of : Structs → Read (List Op)
path_of ss = if nat_lt 16 (structs_count ss) then Err unknown else ops_at ss

-- PromisedAnswer.transform @1
unfoldable pub path_at : Block → Read (List Op)
path_at b = structs_at 0 b >>= path_of

-- PromisedAnswer: questionId @0, transform @1
unfoldable pub answer_at : ℕ → Block → Read (QuestionId × List Op)
answer_at n b = do
  answer ← block_at n b
  path ← path_at answer
  Ok (record { 0 = element answer.words 32 0 }, path)

-- ---- MessageTarget, by the union's number

abbrev pub target_by : ℕ → Block → Read Target
target_by which b =
    if which == 0 then Ok (ImportedCap (record { 0 = element b.words 32 0 }))  -- importedCap @0
    else if which == 1 then (answer_at 0 b >>= λ a. Ok (PromisedAnswer a.0 a.1))  -- promisedAnswer @1
    else Err unknown

unfoldable pub target_at : ℕ → Block → Read Target
target_at n b = block_at n b >>= λ t. target_by (element t.words 16 2) t

-- ---- written

abbrev pub op_word : Op → ℕ
op_word Noop = 0
op_word (Field n) = 1 + 2 ^ 16 * n

abbrev pub step_of : Op → List ℕ × Trees
step_of op = (op_word op ∷ [], no_trees)

abbrev pub steps_of : List Op → Structs
steps_of ops = structs_of (map step_of ops)

-- an empty path is null
abbrev pub path_tree : List Op → Tree
path_tree [] = null
path_tree (op ∷ ops) = list (structs 1 0 (steps_of (op ∷ ops)))

abbrev pub answer_tree : QuestionId → List Op → Tree
answer_tree question path = struct (question.0 ∷ []) (one (path_tree path))

abbrev pub target_tree : Target → Tree
target_tree (ImportedCap id) = struct (id.0 ∷ []) (one null)
target_tree (PromisedAnswer question path) = struct ((2 ^ 32) ∷ []) (one (answer_tree question path))
