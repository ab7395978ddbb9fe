-- How deep the trees of parts nest.
use Rattle.std.proofs.Common.{◌≡◌, ℕ, Result, Ok, Err, IsOk, sym, ◌+◌, ◌-◌, ◌*◌, ◌^◌, ◌<◌, ◌≤◌, Bool, true, false, eqb, ◌&&◌, ◌||◌, List, [], ◌∷◌, ◌++◌, refl, ap, ◌∙◌, arith}
use Rattle.std.proofs.lemmas.Bool.{ne_eqb, or_parts}
use Rattle.capn_trees.specs.Trees.{Tree, Trees, null, struct, no_trees, tree}
use Rattle.capn_trees.specs.Writable.{Part, parts, parts_of_all, parts_of_structs, is_too_deep, is_deeper, are_deeper, some_part}
use Rattle.rpc_msg.specs.Op.{Op}
use Rattle.rpc_msg.specs.declared.ids.QuestionId.{QuestionId}
use Rattle.rpc_msg.specs.declared.parts.Descriptor.{Descriptor}
use Rattle.rpc_msg.specs.declared.parts.Descriptor.TheVariants as descriptor
use Rattle.rpc_msg.specs.declared.parts.Target.{Target}
use Rattle.rpc_msg.specs.declared.parts.Target.TheVariants.{ImportedCap, PromisedAnswer}
use Rattle.rpc_msg.specs.declared.exception.Exception.{Exception}
use Rattle.rpc_msg.specs.Payloads.{Contents, IsPayload, tree_of}
use Rattle.rpc_codec_parts.specs.Blocks.{one, two, three}
use Rattle.rpc_codec_parts.specs.Targets.{steps_of, path_tree, answer_tree, target_tree}
use Rattle.rpc_codec_parts.specs.Descriptors.{descriptor_word, descriptor_pointer, descriptor_tree, rows_of, table_tree}
use Rattle.rpc_codec_parts.specs.Exceptions.{kind_number, text_tree, exception_tree}
use Rattle.rpc_codec_parts.specs.Payloads.{payload_tree}
use Rattle.rpc_codec_parts.specs.Fitting.{IsWithin, AreWithin}
use Rattle.capn_reading.specs.Following.{counted_before}
use Rattle.capn_reading.specs.Reading.{message_of, root_of, tree_read}
use Rattle.capn_reading.proofs.Depths.{reading_shallow}
use Rattle.capn_reading.proofs.Rooted.{tree_read_is, framed_read, not_unframed}
use Rattle.capn_reading.proofs.UpTo.{up_to_is}
use Rattle.capn_reading.specs.Framing.{framing}
use Rattle.capn_trees.specs.declared.faults.PayloadFault.{PayloadFault}

none_append : (ps qs : List Part) → some_part is_too_deep ps ≡ false → some_part is_too_deep qs ≡ false → some_part is_too_deep (ps ++ qs) ≡ false
none_append [] qs a b = b
none_append (p ∷ ps) qs a b =
    let h = or_parts (is_too_deep p) (some_part is_too_deep ps) a in
    rw (h.0, none_append ps qs h.1 b) refl

over : (k : ℕ) (b : Bool) → 0 < k → b ≡ false → ((true && eqb k 0) || b) ≡ false
over k b some e =
    let more : eqb k 0 ≡ false = ne_eqb k 0 (λ none. omega arith) in
    rw (more, e) refl

pub none_within : (k : ℕ) → AreWithin k no_trees
none_within k n le = refl

pub trees_within : (k : ℕ) (t : Tree) (ts : Trees) → IsWithin k t → AreWithin k ts → AreWithin k (tree t ts)
trees_within k t ts first rest n le = none_append (parts t n) (parts_of_all ts n) (first n le) (rest n le)

pub struct_within : (k : ℕ) (ws : List ℕ) (ts : Trees) → AreWithin k ts → IsWithin (k + 1) (struct ws ts)
struct_within k ws ts h n le = over n (are_deeper ts (n - 1)) (omega arith) (h (n - 1) (omega arith))

pub one_within : (k : ℕ) (ws : List ℕ) (t : Tree) → IsWithin k t → IsWithin (k + 1) (struct ws (one t))
one_within k ws t h = struct_within k ws (one t) (trees_within k t no_trees h (none_within k))

pub two_within : (k : ℕ) (ws : List ℕ) (t u : Tree) → IsWithin k t → IsWithin k u → IsWithin (k + 1) (struct ws (two t u))
two_within k ws t u h i = struct_within k ws (two t u) (trees_within k t (one u) h (trees_within k u no_trees i (none_within k)))

pub three_within : (k : ℕ) (ws : List ℕ) (t u v : Tree) → IsWithin k t → IsWithin k u → IsWithin k v → IsWithin (k + 1) (struct ws (three t u v))
three_within k ws t u v h i j = struct_within k ws (three t u v) (trees_within k t (two u v) h (trees_within k u (one v) i (trees_within k v no_trees j (none_within k))))

pub deeper : (k j : ℕ) (t : Tree) → k ≤ j → IsWithin k t → IsWithin j t
deeper k j t le h n more = h n (omega arith)

-- ---- parts

steps_flat : (ops : List Op) (n : ℕ) → some_part is_too_deep (parts_of_structs (steps_of ops) n) ≡ false
steps_flat [] n = refl
steps_flat (op ∷ ops) n = steps_flat ops n

pub path_within : (ops : List Op) → IsWithin 1 (path_tree ops)
path_within [] n le = refl
path_within (op ∷ ops) n le = over n (some_part is_too_deep (parts_of_structs (steps_of (op ∷ ops)) (n - 1))) (omega arith) (steps_flat (op ∷ ops) (n - 1))

pub answer_within : (question : QuestionId) (path : List Op) → IsWithin 2 (answer_tree question path)
answer_within question path = one_within 1 (question.0 ∷ []) (path_tree path) (path_within path)

pub target_within : (t : Target) → IsWithin 3 (target_tree t)
target_within (ImportedCap id) = deeper 1 3 (struct (id.0 ∷ []) (one null)) (omega arith) (one_within 0 (id.0 ∷ []) null (λ n le. refl))
target_within (PromisedAnswer question path) = one_within 2 ((2 ^ 32) ∷ []) (answer_tree question path) (answer_within question path)

pub pointer_within : (d : Descriptor) → IsWithin 2 (descriptor_pointer d)
pointer_within descriptor.None n le = refl
pointer_within (descriptor.SenderHosted id) n le = refl
pointer_within (descriptor.SenderPromise id) n le = refl
pointer_within (descriptor.ReceiverHosted id) n le = refl
pointer_within (descriptor.ReceiverAnswer question path) n le = answer_within question path n le

pub descriptor_within : (d : Descriptor) → IsWithin 3 (descriptor_tree d)
descriptor_within d = one_within 2 (descriptor_word d ∷ []) (descriptor_pointer d) (pointer_within d)

rows_within : (ds : List Descriptor) (n : ℕ) → 2 ≤ n → some_part is_too_deep (parts_of_structs (rows_of ds) n) ≡ false
rows_within [] n le = refl
rows_within (d ∷ ds) n le =
    none_append (parts_of_all (one (descriptor_pointer d)) n) (parts_of_structs (rows_of ds) n)
    (trees_within 2 (descriptor_pointer d) no_trees (pointer_within d) (none_within 2) n le)
    (rows_within ds n le)

pub table_within : (ds : List Descriptor) → IsWithin 3 (table_tree ds)
table_within [] n le = refl
table_within (d ∷ ds) n le = over n (some_part is_too_deep (parts_of_structs (rows_of (d ∷ ds)) (n - 1))) (omega arith) (rows_within (d ∷ ds) (n - 1) (omega arith))

pub text_within : (s : List ℕ) → IsWithin 1 (text_tree s)
text_within s n le = over n false (omega arith) refl

pub exception_within : (e : Exception) → IsWithin 2 (exception_tree e)
exception_within e = two_within 1 ((2 ^ 32 * kind_number e.kind) ∷ []) (text_tree e.reason) null (text_within e.reason) (λ n le. refl)

-- ---- payloads: what is read nests at most 64 deep

content_framed : (p : Contents) (f : Result (List (List ℕ)) PayloadFault) → framing p.bytes ≡ f → IsOk (message_of p.bytes p.caps) → IsWithin 64 (tree_of p)
unfolding root_of
content_framed p (Err e) is ok = absurd (not_unframed p.bytes p.caps e ok (sym is))
content_framed p (Ok m) is ok = λ n le.
    let found = framed_read p.bytes p.caps m ok (sym is) in
    let read = tree_read_is (root_of m p.caps) found.0 in
    let shallow = reading_shallow m p.caps 64 n le 0 0 (counted_before 65536) (tree_read (root_of m p.caps)) read.0 (sym (up_to_is 65536 m p.caps 64 found.0) ∙ read.1) in
    ap (λ (t : Tree). is_deeper t n) (sym found.1) ∙ shallow

pub content_within : (p : Contents) → IsPayload p → IsWithin 64 (tree_of p)
content_within p h = content_framed p (framing p.bytes) refl h.encoded

pub payload_within : (p : Contents) (ds : List Descriptor) → IsPayload p → IsWithin 65 (payload_tree p ds)
payload_within p ds h = two_within 64 [] (tree_of p) (table_tree ds) (content_within p h) (deeper 3 64 (table_tree ds) (omega arith) (table_within ds))
