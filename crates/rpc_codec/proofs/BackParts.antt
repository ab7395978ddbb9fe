-- The parts of messages are read from the trees that are made of them.
use Rattle.std.proofs.Common.{◌≡◌, ℕ, suc, ◌+◌, ◌*◌, ◌-◌, ◌^◌, ◌<◌, ◌≤◌, false, eqb, ltb, List, [], ◌∷◌, ◌++◌, length, take, get_or, Option, None, Ok, refl, sym, ap, ◌∙◌, arith, lit<}
use Rattle.std.specs.List.{AllByRecursion}
use Rattle.std.specs.Str.{IsUtf8}
use Rattle.std.proofs.lemmas.Bool.{le-ltb, ne_eqb}
use Rattle.std.proofs.lemmas.Str.{is_utf8-from_IsUtf8}
use Rattle.std.proofs.lemmas.List.{length_push}
use Rattle.std.proofs.Math.Seq.{take-append_seam, get_or-append_seam}
use Rattle.capn_trees.specs.declared.faults.WriteFault.{WriteFault}
use Rattle.capn_trees.specs.Trees.{Tree, Trees, Structs, structs_count, tree, pointer_at}
use Rattle.capn_trees.specs.Writable.{refusal}
use Rattle.capn_writing.specs.Placing.{written}
use Rattle.capn_reading.specs.Reading.{element}
use Rattle.rpc_msg.specs.Payloads.{Contents, tree_of}
use Rattle.rpc_msg.specs.Op.{Op}
use Rattle.rpc_msg.specs.Op.TheVariants.{Noop, Field}
use Rattle.rpc_msg.specs.declared.ids.QuestionId.{QuestionId}
use Rattle.rpc_msg.specs.declared.parts.Descriptor.{Descriptor}
use Rattle.rpc_msg.specs.declared.parts.Descriptor.TheVariants as descriptor
use Rattle.rpc_msg.specs.declared.parts.Target.{Target}
use Rattle.rpc_msg.specs.declared.parts.Target.TheVariants.{ImportedCap, PromisedAnswer}
use Rattle.rpc_msg.specs.declared.exception.ExceptionKind.{ExceptionKind}
use Rattle.rpc_msg.specs.declared.exception.ExceptionKind.TheVariants as kind
use Rattle.rpc_msg.specs.declared.exception.Exception.{Exception}
use Rattle.rpc_codec_parts.specs.Blocks.{Block, block_of, structs_of as structs_of_tree, one}
use Rattle.rpc_codec_parts.specs.Reading.{Read, ◌>>=◌}
use Rattle.rpc_codec_parts.specs.Targets.{op_by, ops_at, path_of, path_at, answer_at, target_at, steps_of, op_word, path_tree, answer_tree, target_tree}
use Rattle.rpc_codec_parts.specs.Descriptors.{descriptor_at, descriptors_of, few_of, rows_at, descriptor_word, descriptor_pointer, rows_of, table_tree}
use Rattle.rpc_codec_parts.specs.Exceptions.{ended, text_in, kind_of, exception_at, kind_number, exception_tree}
use Rattle.rpc_codec_parts.specs.Payloads.{alone, content_of, payload_at, payload_tree}
use Rattle.rpc_codec_parts.specs.Fitting.{rewritten, FitsOp, FitsPath, FitsTarget, FitsDescriptor, FitsPayload}
use Rattle.rpc_codec.proofs.Numbers.{high_32, low_16, alone_32, alone_none, step_16, step_kind, kind_16}

abbrev read : {A : Type 0} → A → Read A
read x = Ok x

-- a struct with these data words and pointers
abbrev pub block : List ℕ → Trees → Block
block ws ts = record { words = ws; pointers = ts }

-- ---- paths

pub op_back : (op : Op) → FitsOp op → op_by (element (op_word op ∷ []) 16 0) (element (op_word op ∷ []) 16 1) ≡ Ok op
op_back Noop fits = refl
op_back (Field n) fits = rw (step_kind [] n) (ap (λ k. read (Field k)) (step_16 [] n fits))

pub ops_back : (ops : List Op) → AllByRecursion FitsOp ops → ops_at (steps_of ops) ≡ Ok ops
ops_back [] fits = refl
ops_back (op ∷ ops) fits =
    ap (λ r. r >>= λ x. ops_at (steps_of ops) >>= λ xs. Ok (x ∷ xs)) (op_back op fits.0)
    ∙ ap (λ r. r >>= λ xs. Ok (op ∷ xs)) (ops_back ops fits.1)

steps_counted : (ops : List Op) → structs_count (steps_of ops) ≡ length ops
steps_counted [] = refl
steps_counted (op ∷ ops) = ap (λ n. suc n) (steps_counted ops)

pub steps_back : (ops : List Op) → FitsPath ops → path_of (steps_of ops) ≡ Ok ops
steps_back ops fits =
    let short : ltb 16 (structs_count (steps_of ops)) ≡ false = le-ltb 16 _ (rw (steps_counted ops) fits.1) in
    rw short (ops_back ops fits.0)

pub path_back : (ws : List ℕ) (ops : List Op) → FitsPath ops → path_at (block ws (one (path_tree ops))) ≡ Ok ops
unfolding path_at
path_back ws [] fits = refl
path_back ws (op ∷ ops) fits = steps_back (op ∷ ops) fits

pub answer_back : (ws : List ℕ) (question : QuestionId) (path : List Op) → question.0 < 2 ^ 32 → FitsPath path → answer_at 0 (block ws (one (answer_tree question path))) ≡ Ok (question, path)
unfolding answer_at
answer_back ws question path small fits =
    ap (λ r. r >>= λ p. Ok (record { 0 = element (question.0 ∷ []) 32 0 }, p)) (path_back (question.0 ∷ []) path fits)
    ∙ ap (λ n. read (record { 0 = n }, path)) (alone_32 [] question.0 small)

-- ---- targets and descriptors

pub target_back : (ws : List ℕ) (t : Target) (more : Trees) → FitsTarget t → target_at 0 (block ws (tree (target_tree t) more)) ≡ Ok t
unfolding target_at
target_back ws (ImportedCap id) more fits =
    rw (alone_none [] id.0 fits) (ap (λ n. read (ImportedCap (record { 0 = n }))) (alone_32 [] id.0 fits))
target_back ws (PromisedAnswer question path) more fits =
    ap (λ r. r >>= λ a. Ok (PromisedAnswer a.0 a.1)) (answer_back ((2 ^ 32) ∷ []) question path fits.0 fits.1)

pub descriptor_back : (d : Descriptor) → FitsDescriptor d → descriptor_at (block (descriptor_word d ∷ []) (one (descriptor_pointer d))) ≡ Ok d
descriptor_back descriptor.None fits = refl
descriptor_back (descriptor.SenderHosted id) fits =
    rw (low_16 [] 1 id.0 (lit< tt)) (ap (λ n. read (descriptor.SenderHosted (record { 0 = n }))) (high_32 [] 1 id.0 (lit< tt) fits))
descriptor_back (descriptor.SenderPromise id) fits =
    rw (low_16 [] 2 id.0 (lit< tt)) (ap (λ n. read (descriptor.SenderPromise (record { 0 = n }))) (high_32 [] 2 id.0 (lit< tt) fits))
descriptor_back (descriptor.ReceiverHosted id) fits =
    rw (low_16 [] 3 id.0 (lit< tt)) (ap (λ n. read (descriptor.ReceiverHosted (record { 0 = n }))) (high_32 [] 3 id.0 (lit< tt) fits))
descriptor_back (descriptor.ReceiverAnswer question path) fits =
    ap (λ r. r >>= λ a. Ok (descriptor.ReceiverAnswer a.0 a.1)) (answer_back (4 ∷ []) question path fits.0 fits.1)

pub descriptors_back : (ds : List Descriptor) → AllByRecursion FitsDescriptor ds → descriptors_of (rows_of ds) ≡ Ok ds
descriptors_back [] fits = refl
descriptors_back (d ∷ ds) fits =
    ap (λ r. r >>= λ x. descriptors_of (rows_of ds) >>= λ xs. Ok (x ∷ xs)) (descriptor_back d fits.0)
    ∙ ap (λ r. r >>= λ xs. Ok (d ∷ xs)) (descriptors_back ds fits.1)

-- ---- exceptions

text_found : (bytes text : List ℕ) → (eqb (length bytes) 0 ≡ false) → get_or bytes (length bytes - 1) 0 ≡ 0 → text ≡ take (length bytes - 1) bytes → IsUtf8 text → text_in bytes ≡ Ok text
text_found bytes text some last is utf8 =
    let found : ended 0 text ≡ Ok text = rw (is_utf8-from_IsUtf8 text utf8) refl in
    rw (some, last, ← is) found

text_back : (s : List ℕ) → IsUtf8 s → text_in (s ++ 0 ∷ []) ≡ Ok s
text_back s utf8 =
    let long : length (s ++ 0 ∷ []) ≡ length s + 1 = length_push s 0 in
    let less : length (s ++ 0 ∷ []) - 1 ≡ length s = omega (arith, long) in
    let some : eqb (length (s ++ 0 ∷ [])) 0 ≡ false = ne_eqb _ 0 (λ e. omega (arith, long, e)) in
    text_found (s ++ 0 ∷ []) s some
    (ap (λ n. get_or (s ++ 0 ∷ []) n 0) less ∙ get_or-append_seam s 0 [] 0)
    (sym (ap (λ n. take n (s ++ 0 ∷ [])) less ∙ take-append_seam s (0 ∷ [])))
    utf8

few_kinds : (k : ExceptionKind) → kind_number k < 4
few_kinds kind.Failed = lit< tt
few_kinds kind.Overloaded = lit< tt
few_kinds kind.Disconnected = lit< tt
few_kinds kind.Unimplemented = lit< tt

kind_again : (k : ExceptionKind) → kind_of (kind_number k) ≡ k
kind_again kind.Failed = refl
kind_again kind.Overloaded = refl
kind_again kind.Disconnected = refl
kind_again kind.Unimplemented = refl

kind_back : (k : ExceptionKind) → kind_of (element ((2 ^ 32 * kind_number k) ∷ []) 16 2) ≡ k
kind_back k = ap kind_of (kind_16 [] (kind_number k) (few_kinds k)) ∙ kind_again k

pub exception_back : (ws : List ℕ) (e : Exception) (more : Trees) → IsUtf8 e.reason → exception_at 0 (block ws (tree (exception_tree e) more)) ≡ Ok e
unfolding exception_at
exception_back ws e more utf8 =
    ap (λ r. r >>= λ s. Ok (record { kind = kind_of (element ((2 ^ 32 * kind_number e.kind) ∷ []) 16 2); reason = s })) (text_back e.reason utf8)
    ∙ ap (λ k. read (record { kind = k; reason = e.reason })) (kind_back e.kind)

-- ---- payloads

alone_back : (o : Option WriteFault) (t : Tree) (caps : ℕ) → o ≡ None → alone o t caps ≡ Ok (record { bytes = written t; caps = caps })
alone_back o t caps none = ap (λ x. alone x t caps) none

table_back : (ds : List Descriptor) → structs_of_tree (table_tree ds) ≡ Ok (rows_of ds)
table_back [] = refl
table_back (d ∷ ds) = refl

rows_counted : (ds : List Descriptor) → structs_count (rows_of ds) ≡ length ds
rows_counted [] = refl
rows_counted (d ∷ ds) = ap (λ n. suc n) (rows_counted ds)

few_back : (ds : List Descriptor) → length ds ≤ 4096 → few_of (rows_of ds) ≡ Ok (rows_of ds)
few_back ds few =
    let short : ltb 4096 (structs_count (rows_of ds)) ≡ false = le-ltb 4096 _ (rw (rows_counted ds) few) in
    rw short refl

rest_of : Tree → Structs → Read (Contents × List Descriptor)
rest_of t ss = descriptors_of ss >>= λ xs. content_of t (structs_count ss) >>= λ c. Ok (c, xs)

pub payload_back : (n : ℕ) (b : Block) (p : Contents) (ds : List Descriptor) → pointer_at b.pointers n ≡ payload_tree p ds → FitsPayload p ds → payload_at n b ≡ Ok (rewritten p, ds)
unfolding payload_at rows_at rest_of
payload_back n b p ds there fits =
    ap (λ t. block_of t >>= λ payload. rows_at 1 payload >>= λ ss. rest_of (pointer_at payload.pointers 0) ss) there
    ∙ ap (λ r. (r >>= few_of) >>= λ ss. rest_of (tree_of p) ss) (table_back ds)
    ∙ ap (λ r. r >>= λ ss. rest_of (tree_of p) ss) (few_back ds fits.few)
    ∙ ap (λ r. r >>= λ xs. content_of (tree_of p) (structs_count (rows_of ds)) >>= λ c. Ok (c, xs)) (descriptors_back ds fits.descriptors)
    ∙ ap (λ k. content_of (tree_of p) k >>= λ c. Ok (c, ds)) (rows_counted ds ∙ sym fits.caps)
    ∙ ap (λ r. r >>= λ c. Ok (c, ds)) (alone_back (refusal (tree_of p) p.caps) (tree_of p) p.caps fits.content)
