-- The words that the frames of messages take, and that nothing in them is a reason to refuse.
use Rattle.std.proofs.Common.{◌≡◌, ℕ, suc, ◌+◌, ◌-◌, ◌*◌, ◌^◌, ◌<◌, ◌≤◌, Bool, true, false, eqb, ltb, not, ◌&&◌, ◌||◌, List, [], ◌∷◌, ◌++◌, length, None, refl, sym, ap, subst, inl, inr, arith}
use Rattle.std.specs.Prelude.{IsOk, ◌⊎◌}
use Rattle.std.specs.List.{AllByRecursion}
use Rattle.std.proofs.lemmas.List.{length-append}
use Rattle.std.proofs.lemmas.Bool.{ne_eqb, le-ltb, lt-ltb, ltb-true}
use Rattle.capn_trees.specs.Trees as tree
use Rattle.capn_trees.specs.Trees.{Tree, Trees, trees_count, structs_count, null}
use Rattle.capn_trees.specs.Widths.{packed_size}
use Rattle.capn_trees.specs.Writable.{Part, parts, parts_of_all, parts_of_structs, are_even, is_beyond, words_visited, all_words, refusal}
use Rattle.capn_trees.proofs.Found.{none_refused}
use Rattle.capn_trees.proofs.Parts.{IsGood, AreGood, words_append}
use Rattle.capn_reading.proofs.Fine.{few_none}
use Rattle.rpc_msg.specs.Op.{Op}
use Rattle.rpc_msg.specs.Payloads.{Contents, tree_of}
use Rattle.rpc_msg.specs.declared.ids.QuestionId.{QuestionId}
use Rattle.rpc_msg.specs.declared.exception.Exception.{Exception}
use Rattle.rpc_msg.specs.declared.parts.Descriptor.{Descriptor}
use Rattle.rpc_msg.specs.declared.parts.Descriptor.TheVariants as descriptor
use Rattle.rpc_msg.specs.declared.parts.Target.{Target}
use Rattle.rpc_msg.specs.declared.parts.Target.TheVariants.{ImportedCap, PromisedAnswer}
use Rattle.rpc_msg.specs.declared.message.Return.{Return}
use Rattle.rpc_msg.specs.declared.message.ReturnBody.{ReturnBody}
use Rattle.rpc_msg.specs.declared.message.ResolvedTo.{ResolvedTo}
use Rattle.rpc_msg.specs.declared.message.PlainMessage.TheVariants as plain
use Rattle.rpc_msg.specs.declared.message.Message.{Message}
use Rattle.rpc_msg.specs.declared.message.Message.TheVariants as message
use Rattle.rpc_codec_parts.specs.Blocks.{one, two, three}
use Rattle.rpc_codec_parts.specs.Fitting.{FitsPath, FitsTarget, FitsDescriptor}
use Rattle.rpc_codec_parts.specs.Targets.{steps_of, path_tree, answer_tree, target_tree}
use Rattle.rpc_codec_parts.specs.Descriptors.{descriptor_pointer, rows_of, table_tree}
use Rattle.rpc_codec_parts.specs.Exceptions.{kind_number, text_tree, exception_tree}
use Rattle.rpc_codec_parts.specs.Payloads.{payload_tree}
use Rattle.rpc_codec.specs.Decoding.{any_caps}
use Rattle.rpc_codec.specs.Questions.{call_tree, flag_bit}
use Rattle.rpc_codec.specs.Returns.{body_number, body_tree, return_tree}
use Rattle.rpc_codec.specs.Exports.{resolved_number, resolved_tree, resolve_tree}
use Rattle.rpc_codec.specs.Frames.{envelope, frame_of, message_frame}
use Rattle.rpc_codec_fits.specs.Carrying.{HasTable, Calls, Returns, Throws, Breaks, IsAlone, HasRoom, table_room, reason_room}

-- Parts that are no reason to refuse, and a visit of which counts at most so many words.
record Takes (ps : List Part) (n : ℕ) : Type 0 where
  good : AreGood any_caps ps
  few : all_words words_visited ps ≤ n

both_good : (caps : ℕ) (ps qs : List Part) → AreGood caps ps → AreGood caps qs → AreGood caps (ps ++ qs)
both_good caps [] qs a b = b
both_good caps (p ∷ ps) qs a b = (a.0, both_good caps ps qs a.1 b)

takes_none : (n : ℕ) → Takes [] n
takes_none n = record { good = tt; few = omega arith }

takes_both : (ps qs : List Part) (a b : ℕ) → Takes ps a → Takes qs b → Takes (ps ++ qs) (a + b)
takes_both ps qs a b h k =
    let sum = words_append words_visited ps qs in
    let first = h.few in
    let rest = k.few in
    record { good = both_good any_caps ps qs h.good k.good; few = omega (arith, sum, first, rest) }

takes_more : (ps : List Part) (a b : ℕ) → a ≤ b → Takes ps a → Takes ps b
takes_more ps a b le h = let few = h.few in record { good = h.good; few = omega (arith, few) }

has_level : (k : ℕ) → 0 < k → (true && eqb k 0) ≡ false
has_level k some = ne_eqb k 0 (λ none. omega arith)

neither : (a b : Bool) → a ≡ false → b ≡ false → (a || b) ≡ false
neither a b h i = rw (h, i) refl

-- a content, and what it holds
takes_part : (p : Part) (ps : List Part) (a b : ℕ) → IsGood any_caps p → words_visited p.what ≤ a → Takes ps b → Takes (p ∷ ps) (a + b)
takes_part p ps a b good le h = let few = h.few in record { good = (good, h.good); few = omega (arith, few) }

struct_takes : (k : ℕ) (ws : List ℕ) (ts : Trees) (n : ℕ) → 0 < k → length ws ≤ 65535 → trees_count ts ≤ 65535 → Takes (parts_of_all ts (k - 1)) n → Takes (parts (tree.struct ws ts) k) (length ws + trees_count ts + n)
struct_takes k ws ts n some short few h =
    takes_part (record { levels = k; what = tree.struct ws ts }) (parts_of_all ts (k - 1)) (length ws + trees_count ts) n
    ((refl, has_level k some), (refl, neither (ltb 65535 (length ws)) (ltb 65535 (trees_count ts)) (le-ltb _ _ short) (le-ltb _ _ few))) (omega arith) h

all_none : (k : ℕ) → Takes (parts_of_all tree.no_trees k) 0
all_none k = takes_none 0

all_more : (k : ℕ) (t : Tree) (ts : Trees) (a b : ℕ) → Takes (parts t k) a → Takes (parts_of_all ts k) b → Takes (parts_of_all (tree.tree t ts) k) (a + b)
all_more k t ts a b h i = takes_both (parts t k) (parts_of_all ts k) a b h i

null_takes : (k : ℕ) → Takes (parts null k) 0
null_takes k = takes_none 0

one_takes : (k : ℕ) (ws : List ℕ) (t : Tree) (n : ℕ) → 0 < k → length ws ≤ 65535 → Takes (parts t (k - 1)) n → Takes (parts (tree.struct ws (one t)) k) (length ws + 1 + n)
one_takes k ws t n some short h =
    takes_more _ (length ws + 1 + (n + 0)) (length ws + 1 + n) (omega arith) (struct_takes k ws (one t) (n + 0) some short (omega arith) (all_more (k - 1) t tree.no_trees n 0 h (all_none (k - 1))))

two_takes : (k : ℕ) (ws : List ℕ) (t u : Tree) (a b : ℕ) → 0 < k → length ws ≤ 65535 → Takes (parts t (k - 1)) a → Takes (parts u (k - 1)) b → Takes (parts (tree.struct ws (two t u)) k) (length ws + 2 + (a + b))
two_takes k ws t u a b some short h i =
    takes_more _ (length ws + 2 + (a + (b + 0))) (length ws + 2 + (a + b)) (omega arith)
    (struct_takes k ws (two t u) (a + (b + 0)) some short (omega arith) (all_more (k - 1) t (one u) a (b + 0) h (all_more (k - 1) u tree.no_trees b 0 i (all_none (k - 1)))))

three_takes : (k : ℕ) (ws : List ℕ) (t u v : Tree) (a b c : ℕ) → 0 < k → length ws ≤ 65535 → Takes (parts t (k - 1)) a → Takes (parts u (k - 1)) b → Takes (parts v (k - 1)) c
    → Takes (parts (tree.struct ws (three t u v)) k) (length ws + 3 + (a + (b + c)))
three_takes k ws t u v a b c some short h i j =
    takes_more _ (length ws + 3 + (a + (b + (c + 0)))) (length ws + 3 + (a + (b + c))) (omega arith)
    (struct_takes k ws (three t u v) (a + (b + (c + 0))) some short (omega arith)
    (all_more (k - 1) t (two u v) a (b + (c + 0)) h (all_more (k - 1) u (one v) b (c + 0) i (all_more (k - 1) v tree.no_trees c 0 j (all_none (k - 1))))))

-- ---- paths and targets

steps_even : (ops : List Op) → are_even 1 0 (steps_of ops) ≡ true
steps_even [] = refl
steps_even (op ∷ ops) = steps_even ops

steps_flat : (ops : List Op) (k : ℕ) → parts_of_structs (steps_of ops) k ≡ []
steps_flat [] k = refl
steps_flat (op ∷ ops) k = steps_flat ops k

steps_counted : (ops : List Op) → structs_count (steps_of ops) ≡ length ops
steps_counted [] = refl
steps_counted (op ∷ ops) = ap suc (steps_counted ops)

path_takes : (k : ℕ) (path : List Op) → 0 < k → FitsPath path → Takes (parts (path_tree path) k) 17
path_takes k [] some fits = takes_none 17
path_takes k (op ∷ ops) some fits =
    let count = steps_counted (op ∷ ops) in
    let few = fits.1 in
    takes_part (record { levels = k; what = path_tree (op ∷ ops) }) (parts_of_structs (steps_of (op ∷ ops)) (k - 1)) 17 0
    ((ap not (steps_even (op ∷ ops)), has_level k some), (refl, refl)) (omega (arith, count, few))
    (subst (λ ps. Takes ps 0) (sym (steps_flat (op ∷ ops) (k - 1))) (takes_none 0))

answer_takes : (k : ℕ) (q : QuestionId) (path : List Op) → 1 < k → FitsPath path → Takes (parts (answer_tree q path) k) 19
answer_takes k q path some fits = one_takes k (q.0 ∷ []) (path_tree path) 17 (omega arith) (omega arith) (path_takes (k - 1) path (omega arith) fits)

target_takes : (k : ℕ) (t : Target) → 2 < k → FitsTarget t → Takes (parts (target_tree t) k) 21
target_takes k (ImportedCap id) some fits = takes_more _ 2 21 (omega arith) (one_takes k (id.0 ∷ []) null 0 (omega arith) (omega arith) (null_takes (k - 1)))
target_takes k (PromisedAnswer q path) some fits = one_takes k ((2 ^ 32) ∷ []) (answer_tree q path) 19 (omega arith) (omega arith) (answer_takes (k - 1) q path (omega arith) fits.1)

-- ---- descriptors and tables

pointer_takes : (k : ℕ) (d : Descriptor) → 1 < k → FitsDescriptor d → Takes (parts (descriptor_pointer d) k) 19
pointer_takes k descriptor.None some fits = takes_none 19
pointer_takes k (descriptor.SenderHosted id) some fits = takes_none 19
pointer_takes k (descriptor.SenderPromise id) some fits = takes_none 19
pointer_takes k (descriptor.ReceiverHosted id) some fits = takes_none 19
pointer_takes k (descriptor.ReceiverAnswer q path) some fits = answer_takes k q path some fits.1

rows_even : (ds : List Descriptor) → are_even 1 1 (rows_of ds) ≡ true
rows_even [] = refl
rows_even (d ∷ ds) = rows_even ds

rows_counted : (ds : List Descriptor) → structs_count (rows_of ds) ≡ length ds
rows_counted [] = refl
rows_counted (d ∷ ds) = ap suc (rows_counted ds)

rows_take : (k : ℕ) (ds : List Descriptor) → 1 < k → AllByRecursion FitsDescriptor ds → Takes (parts_of_structs (rows_of ds) k) (19 * length ds)
rows_take k [] some fits = takes_none 0
rows_take k (d ∷ ds) some fits =
    takes_more _ (19 + 0 + 19 * length ds) (19 * length (d ∷ ds)) (omega arith)
    (takes_both (parts_of_all (one (descriptor_pointer d)) k) (parts_of_structs (rows_of ds) k) (19 + 0) (19 * length ds)
    (all_more k (descriptor_pointer d) tree.no_trees 19 0 (pointer_takes k d some fits.0) (all_none k)) (rows_take k ds some fits.1))

some_rows : (d : Descriptor) (ds : List Descriptor) → table_room (length (d ∷ ds)) ≡ 1 + 21 * length (d ∷ ds)
some_rows d ds =
    let none : eqb (length (d ∷ ds)) 0 ≡ false = ne_eqb _ _ (λ e. omega arith) in
    rw none refl

table_takes : (k : ℕ) (ds : List Descriptor) → 2 < k → AllByRecursion FitsDescriptor ds → Takes (parts (table_tree ds) k) (table_room (length ds))
table_takes k [] some fits = takes_none 0
table_takes k (d ∷ ds) some fits =
    let count = rows_counted (d ∷ ds) in
    let rows = some_rows d ds in
    takes_more _ (1 + 2 * length (d ∷ ds) + 19 * length (d ∷ ds)) (table_room (length (d ∷ ds))) (omega (arith, rows))
    (takes_part (record { levels = k; what = table_tree (d ∷ ds) }) (parts_of_structs (rows_of (d ∷ ds)) (k - 1)) (1 + 2 * length (d ∷ ds)) (19 * length (d ∷ ds))
    ((ap not (rows_even (d ∷ ds)), has_level k (omega arith)), (refl, refl)) (omega (arith, count)) (rows_take (k - 1) (d ∷ ds) (omega arith) fits))

-- ---- contents

there_too : (caps more : ℕ) (t : Tree) → caps ≤ more → is_beyond caps t ≡ false → is_beyond more t ≡ false
there_too caps more null le h = refl
there_too caps more (tree.struct ws ts) le h = refl
there_too caps more (tree.list es) le h = refl
there_too caps more (tree.capability i) le h =
    let inside : ltb i caps ≡ true = not_not (ltb i caps) h in
    let less = ltb-true i caps inside in
    ap not (lt-ltb i more (omega (arith, less)))
  where
    not_not : (b : Bool) → not b ≡ false → b ≡ true
    not_not true e = refl
    not_not false e = absurd cc

good_too : (caps more : ℕ) (ps : List Part) → caps ≤ more → AreGood caps ps → AreGood more ps
good_too caps more [] le h = tt
good_too caps more (p ∷ ps) le h = ((h.0.0, (there_too caps more p.what le h.0.1.0, h.0.1.1)), good_too caps more ps le h.1)

content_takes : (p : Contents) (beside : ℕ) (r : HasRoom p beside) → Takes (parts (tree_of p) 61) r.words
content_takes p beside r =
    let room = r.room in
    let none = r.fits.fits 61 (omega arith) (omega (arith, room)) in
    record { good = good_too p.caps any_caps (parts (tree_of p) 61) r.caps (none_refused p.caps (parts (tree_of p) 61) none).0; few = r.fits.words 61 (omega arith) }

payload_takes : (p : Contents) (ds : List Descriptor) (beside : ℕ) (r : HasRoom p beside) → HasTable p ds → Takes (parts (payload_tree p ds) 62) (2 + (r.words + table_room p.caps))
payload_takes p ds beside r table =
    subst (λ rows. Takes (parts (payload_tree p ds) 62) (2 + (r.words + table_room rows))) (sym table.0)
    (two_takes 62 [] (tree_of p) (table_tree ds) r.words (table_room (length ds)) (omega arith) (omega arith) (content_takes p beside r) (table_takes 61 ds (omega arith) table.1))

-- ---- frames

framed : (which : ℕ) (t : Tree) (n : ℕ) → Takes (parts t 63) n → 2 + n ≤ 65535 → refusal (envelope which t) any_caps ≡ None
framed which t n h le =
    let all = one_takes 64 (which ∷ []) t n (omega arith) (omega arith) h in
    let few = all.few in
    few_none any_caps (parts (envelope which t) 64) all.good (omega (arith, few))

is_framed : (t : Tree) → refusal t any_caps ≡ None → IsOk (frame_of t)
is_framed t none = rw none refl

pub alone : (p : Contents) (beside : ℕ) → HasRoom p beside → IsAlone p
alone p beside r = let room = r.room in r.fits.fits 64 (omega arith) (omega (arith, room))

pub calls_fit : (p : Contents) → HasRoom p 31 → (m : Message) → Calls p m → IsOk (message_frame m)
calls_fit p r m carries =
    let c = carries.0 in
    let room = r.room in
    let table : HasTable c.payload c.descriptors = subst (λ q. HasTable q c.descriptors) (sym carries.2) carries.3 in
    let inner : HasRoom c.payload 31 = subst (λ q. HasRoom q 31) (sym carries.2) r in
    let payload = subst (λ q. Takes (parts (payload_tree q c.descriptors) 62) (2 + (r.words + table_room p.caps))) (sym carries.2) (payload_takes p c.descriptors 31 r carries.3) in
    let whole = three_takes 63 ((c.question.0 + 2 ^ 32 * c.method) ∷ c.interface ∷ 0 ∷ []) (target_tree c.target) (payload_tree c.payload c.descriptors) null 21 (2 + (r.words + table_room p.caps)) 0
    (omega arith) (omega arith) (target_takes 62 c.target (omega arith) carries.4) payload (null_takes 62) in
    subst (λ x. IsOk (message_frame x)) (sym carries.1) (is_framed (envelope 2 (call_tree c)) (framed 2 (call_tree c) _ whole (omega (arith, room))))

body_framed : (r : Return) (n : ℕ) → Takes (parts (body_tree r.body) 62) n → 5 + n ≤ 65535 → IsOk (message_frame (message.Plain (plain.Return r)))
body_framed r n h le =
    is_framed (envelope 3 (return_tree r)) (framed 3 (return_tree r) (3 + n)
    (one_takes 63 ((r.answer.0 + flag_bit r.release_param_caps + 2 ^ 48 * body_number r.body) ∷ 0 ∷ []) (body_tree r.body) n (omega arith) (omega arith) h) (omega arith))

pub returns_fit : (p : Contents) → HasRoom p 7 → (m : Message) → Returns p m → IsOk (message_frame m)
returns_fit p r m carries =
    let said = carries.0 in
    let room = r.room in
    let inner = subst (λ (b : ReturnBody). Takes (parts (body_tree b) 62) (2 + (r.words + table_room p.caps))) (sym carries.3) (payload_takes p carries.1 7 r carries.4) in
    subst (λ x. IsOk (message_frame x)) (sym carries.2) (body_framed said (2 + (r.words + table_room p.caps)) inner (omega (arith, room)))

exception_takes : (e : Exception) → Takes (parts (exception_tree e) 62) (3 + packed_size 8 (length e.reason + 1))
exception_takes e =
    let long = length-append e.reason (0 ∷ []) in
    let text = takes_part (record { levels = 61; what = text_tree e.reason }) [] (packed_size 8 (length e.reason + 1)) 0 ((refl, refl), (refl, refl)) (omega (arith, long)) (takes_none 0) in
    takes_more _ (1 + 2 + (packed_size 8 (length e.reason + 1) + 0 + 0)) (3 + packed_size 8 (length e.reason + 1)) (omega arith)
    (two_takes 62 ((2 ^ 32 * kind_number e.kind) ∷ []) (text_tree e.reason) null (packed_size 8 (length e.reason + 1) + 0) 0 (omega arith) (omega arith) text (null_takes 61))

pub throws_fit : (e : Exception) → reason_room e ≤ 65535 → (m : Message) → Throws e m → IsOk (message_frame m)
throws_fit e room m carries =
    let said = carries.0 in
    let inner = subst (λ (b : ReturnBody). Takes (parts (body_tree b) 62) (3 + packed_size 8 (length e.reason + 1))) (sym carries.2) (exception_takes e) in
    subst (λ x. IsOk (message_frame x)) (sym carries.1) (body_framed said (3 + packed_size 8 (length e.reason + 1)) inner (omega arith))

pub breaks_fit : (e : Exception) → reason_room e ≤ 65535 → (m : Message) → Breaks e m → IsOk (message_frame m)
breaks_fit e room m carries =
    let r = carries.0 in
    let n = 3 + packed_size 8 (length e.reason + 1) in
    let inner = subst (λ (t : ResolvedTo). Takes (parts (resolved_tree t) 62) n) (sym carries.2) (exception_takes e) in
    subst (λ x. IsOk (message_frame x)) (sym carries.1)
    (is_framed (envelope 5 (resolve_tree r)) (framed 5 (resolve_tree r) (2 + n)
    (one_takes 63 ((r.promise.0 + 2 ^ 32 * resolved_number r.to) ∷ []) (resolved_tree r.to) n (omega arith) (omega arith) inner) (omega arith)))

pub rejects_fit : (e : Exception) → reason_room e ≤ 65535 → (m : Message) → (Breaks e m ⊎ Throws e m) → IsOk (message_frame m)
rejects_fit e room m carries =
    elim carries [
      | inl breaks ↦ breaks_fit e room m breaks
      | inr throws ↦ throws_fit e room m throws
    ]
