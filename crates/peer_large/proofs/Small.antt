-- The contents that a frame brings are no larger than a message may be.
use Rattle.std.proofs.Common.{◌≡◌, ℕ, suc, ◌+◌, ◌*◌, ◌/◌, ◌≤◌, ◌==◌, if◌then◌else◌, Bool, true, false, List, ◌++◌, length, Option, Some, None, Result, Ok, Err, refl, arith}
use Rattle.std.specs.Prelude.{IfOk}
use Rattle.std.specs.List.{flat_map}
use Rattle.std.proofs.lemmas.List.{length-append}
use Rattle.byteorder.specs.Endian.{little_bytes}
use Rattle.byteorder.specs.Numbers.{length-bytes_low_first}
use Rattle.capn_trees.specs.declared.faults.WriteFault.{WriteFault}
use Rattle.capn_trees.specs.Trees.{Tree, pointer_at, structs_count}
use Rattle.capn_trees.specs.Writable.{all_words, parts, refusal, words_taken}
use Rattle.capn_trees.proofs.Found.{none_refused}
use Rattle.capn_reading.specs.Reading.{element, message_of}
use Rattle.capn_reading.proofs.Framed.{length-written}
use Rattle.capn_writing.specs.Placing.{one_segment, placed, segment_for, written}
use Rattle.capn_writing.proofs.Sized.{taken_by}
use Rattle.capn_writing.proofs.Writing.{good_sizes}
use Rattle.rpc_msg.specs.Payloads.{Contents}
use Rattle.rpc_msg.specs.declared.ids.Stamp.{Stamp}
use Rattle.rpc_msg.specs.declared.parts.Descriptor.{Descriptor}
use Rattle.rpc_msg.specs.declared.message.Call.{Call}
use Rattle.rpc_msg.specs.declared.message.Return.{Return}
use Rattle.rpc_msg.specs.declared.message.ReturnBody.{ReturnBody}
use Rattle.rpc_codec_parts.specs.declared.faults.EnvelopeFault.{EnvelopeFault}
use Rattle.rpc_codec_parts.specs.Blocks.{Block, block_of, block_at}
use Rattle.rpc_codec_parts.specs.Descriptors.{descriptors_of, rows_at}
use Rattle.rpc_codec_parts.specs.Exceptions.{exception_at}
use Rattle.rpc_codec_parts.specs.Payloads.{alone, content_of, payload_at}
use Rattle.rpc_codec_parts.specs.Reading.{Read, ◌>>=◌, unknown, fault}
use Rattle.rpc_codec_parts.specs.Targets.{target_at}
use Rattle.rpc_codec.specs.Decoding as codec
use Rattle.rpc_codec.specs.Decoding.{any_caps, encoded, envelope_at, envelope_of, kept}
use Rattle.rpc_codec.specs.Envelopes.{What, back_at, known_by, said_at, said_by, what_of}
use Rattle.rpc_codec.specs.Exports.{disembargo_at, release_at, resolve_at}
use Rattle.rpc_codec.specs.Questions.{bootstrap_at, call_at, call_by, call_of, finish_at}
use Rattle.rpc_codec.specs.Returns.{body_by, return_at, return_by, return_of, understood}
use Rattle.peer_large.specs.declared.front.Large.{Large}
use Rattle.peer_large.specs.declared.limit.Limit.{Limit}
use Rattle.peer_large.specs.declared.limit.Limit.TheVariants.{Steps}
use Rattle.peer_large.specs.Contents.{body_words, content_words, most_content_words, what_words, words_of}
use Rattle.peer_large.specs.Fronts.{large_in}
use Rattle.peer_large.specs.Laws.{ContentsAreSmall}
use Rattle.peer_large.specs.Limits.{limit_of}
use Rattle.peer_large.specs.Opening.{Came, envelope, is_long, limited_by, opened_by, spared_or}

-- ---- what holds of each result

-- of what is read after something else
after : {A B : Type 0} (P : B → Type 0) (x : Read A) (f : A → Read B) → ((a : A) → IfOk (f a) P) → IfOk (x >>= f) P
after P (Ok a) f h = h a
after P (Err e) f h = tt

-- and after something of which something holds
from : {A B : Type 0} (Q : A → Type 0) (P : B → Type 0) (x : Read A) (f : A → Read B) → IfOk x Q → ((a : A) → Q a → IfOk (f a) P) → IfOk (x >>= f) P
from Q P (Ok a) f q h = h a q
from Q P (Err e) f q h = tt

either : {A E : Type 0} (P : A → Type 0) (b : Bool) (x y : Result A E) → IfOk x P → IfOk y P → IfOk (if b then x else y) P
either P true x y h k = h
either P false x y h k = k

nothing : 0 ≤ most_content_words
nothing = omega arith

-- ---- contents

long_by : (n a d b c k : ℕ) → n ≡ a + d → d ≡ b + c → a ≡ 4 → b ≡ 4 → c ≡ 8 * k → n ≡ 8 + 8 * k
long_by n a d b c k whole rest first sized said = omega (arith, whole, rest, first, sized, said)

segment_long : (ws : List ℕ) → length (one_segment ws) ≡ 8 + 8 * length ws
segment_long ws =
    long_by (length (one_segment ws)) (length (little_bytes 4 0)) (length (little_bytes 4 (length ws) ++ flat_map (little_bytes 8) ws)) (length (little_bytes 4 (length ws))) (length (flat_map (little_bytes 8) ws)) (length ws)
    (length-append (little_bytes 4 0) (little_bytes 4 (length ws) ++ flat_map (little_bytes 8) ws)) (length-append (little_bytes 4 (length ws)) (flat_map (little_bytes 8) ws))
    (length-bytes_low_first 0 4 0) (length-bytes_low_first 0 4 (length ws)) (length-written 8 ws)

few_by : (n k w : ℕ) → n ≡ 8 + 8 * suc k → k ≡ w → 1 + w ≤ 65536 → n / 8 ≤ most_content_words
few_by n k w long taken few = omega (arith, long, taken, few)

few_words : (t : Tree) (caps : ℕ) → refusal t caps ≡ None → length (written t) / 8 ≤ most_content_words
few_words t caps none =
    let found = none_refused caps (parts t 64) none in
    few_by (length (written t)) (length (placed t 0 1).1) (all_words words_taken (parts t 64)) (segment_long (segment_for t)) (taken_by t 64 0 1 (good_sizes caps (parts t 64) found.0 found.2)) found.1

abbrev IsFew : Contents → Type 0
IsFew p = words_of p ≤ most_content_words

content_few : (t : Tree) (caps : ℕ) → IfOk (content_of t caps) IsFew
content_few t caps = by (refusal t caps) refl
  where
    by : (o : Option WriteFault) → refusal t caps ≡ o → IfOk (alone o t caps) IsFew
    by None none = few_words t caps none
    by (Some f) none = tt

abbrev BringsFew : Contents × List Descriptor → Type 0
BringsFew x = IsFew x.0

payload_few : (n : ℕ) (b : Block) → IfOk (payload_at n b) BringsFew
unfolding payload_at
payload_few n b =
    after BringsFew (block_at n b) _ (λ payload.
    after BringsFew (rows_at 1 payload) _ (λ rows.
    after BringsFew (descriptors_of rows) _ (λ ds.
    from IsFew BringsFew (content_of (pointer_at payload.pointers 0) (structs_count rows)) _ (content_few (pointer_at payload.pointers 0) (structs_count rows)) (λ p few. few))))

-- ---- Calls and Returns

abbrev FewBy : {K : Type 0} → (K → What) → K → Type 0
FewBy what k = what_words (what k) ≤ most_content_words

abbrev CallFew : Call → Type 0
CallFew c = IsFew c.payload

call_few : (stamp : Stamp) (b : Block) → IfOk (call_of stamp b) CallFew
unfolding call_of
call_few stamp b = after CallFew (target_at 0 b) _ (λ target. from BringsFew CallFew (payload_at 1 b) _ (payload_few 1 b) (λ p few. few))

call_by_few : (which : ℕ) (stamp : Stamp) (b : Block) → IfOk (call_by which stamp b) (FewBy what_of)
call_by_few which stamp b =
    either (FewBy what_of) (which == 0) _ _ (from CallFew (FewBy what_of) (call_of stamp b) _ (call_few stamp b) (λ c few. few))
    (either (FewBy what_of) (which == 1) _ _ (from CallFew (FewBy what_of) (call_of stamp b) _ (call_few stamp b) (λ c few. few)) tt)

call_at_few : (stamp : Stamp) (b : Block) → IfOk (call_at stamp b) (FewBy what_of)
unfolding call_at
call_at_few stamp b = after (FewBy what_of) (block_at 0 b) _ (λ m. call_by_few (element m.words 16 3) stamp m)

abbrev BodyFew : ReturnBody → Type 0
BodyFew b = body_words b ≤ most_content_words

body_few : (which : ℕ) (b : Block) → IfOk (body_by which b) BodyFew
body_few which b =
    either BodyFew (which == 0) _ _ (from BringsFew BodyFew (payload_at 0 b) _ (payload_few 0 b) (λ p few. few))
    (either BodyFew (which == 1) _ _ (after BodyFew (exception_at 0 b) _ (λ e. nothing))
    (either BodyFew (which == 2) _ _ nothing tt))

understood_few : (r : Read ReturnBody) → IfOk r BodyFew → IfOk (understood r) BodyFew
understood_few (Ok b) h = h
understood_few (Err unknown) h = tt
understood_few (Err (fault f)) h = tt

abbrev ReturnFew : Return → Type 0
ReturnFew r = BodyFew r.body

return_few : (b : Block) → IfOk (return_of b) ReturnFew
unfolding return_of
return_few b = from BodyFew ReturnFew (understood (body_by (element b.words 16 3) b)) _ (understood_few _ (body_few (element b.words 16 3) b)) (λ said few. few)

return_by_few : (which : ℕ) (b : Block) → IfOk (return_by which b) (FewBy what_of)
return_by_few which b =
    either (FewBy what_of) (which == 3) _ _ nothing
    (either (FewBy what_of) (which == 4) _ _ nothing (from ReturnFew (FewBy what_of) (return_of b) _ (return_few b) (λ r few. few)))

return_at_few : (b : Block) → IfOk (return_at b) (FewBy what_of)
unfolding return_at
return_at_few b = after (FewBy what_of) (block_at 0 b) _ (λ m. return_by_few (element m.words 16 3) m)

-- ---- a message

known_few : (which : ℕ) (stamp : Stamp) (b : Block) → IfOk (known_by which stamp b) (FewBy what_of)
known_few which stamp b =
    either (FewBy what_of) (which == 1) _ _ (after (FewBy what_of) (exception_at 0 b) _ (λ x. nothing))
    (either (FewBy what_of) (which == 2) _ _ (call_at_few stamp b)
    (either (FewBy what_of) (which == 3) _ _ (return_at_few b)
    (either (FewBy what_of) (which == 4) _ _ (after (FewBy what_of) (finish_at b) _ (λ x. nothing))
    (either (FewBy what_of) (which == 5) _ _ (after (FewBy what_of) (resolve_at b) _ (λ x. nothing))
    (either (FewBy what_of) (which == 6) _ _ (after (FewBy what_of) (release_at b) _ (λ x. nothing))
    (either (FewBy what_of) (which == 8) _ _ (after (FewBy what_of) (bootstrap_at b) _ (λ x. nothing))
    (either (FewBy what_of) (which == 13) _ _ (after (FewBy what_of) (disembargo_at b) _ (λ x. nothing)) tt)))))))

abbrev WhatFew : What → Type 0
WhatFew w = what_words w ≤ most_content_words

said_by_few : (which : ℕ) (stamp : Stamp) (b : Block) → IfOk (said_by which stamp b) WhatFew
said_by_few which stamp b =
    either WhatFew (which == 0) _ _ (after WhatFew (block_at 0 b) _ (λ back. after WhatFew (back_at stamp back) _ (λ m. nothing)))
    (from (FewBy what_of) WhatFew (known_by which stamp b) _ (known_few which stamp b) (λ k few. few))

said_few : (stamp : Stamp) (t : Tree) → IfOk (said_at stamp t) WhatFew
unfolding said_at
said_few stamp t = after WhatFew (block_of t) _ (λ b. said_by_few (element b.words 16 0) stamp b)

kept_few : (t : Tree) (r : Read What) → IfOk r WhatFew → IfOk (kept t r) WhatFew
kept_few t (Ok w) h = h
kept_few t (Err unknown) h = nothing
kept_few t (Err (fault f)) h = tt

-- ---- a frame

envelope_few : (stamp : Stamp) (frame : List ℕ) → IfOk (envelope_at stamp frame) WhatFew
unfolding envelope_at envelope_of
envelope_few stamp frame = by (encoded (message_of frame any_caps))
  where
    by : (c : codec.Came Tree) → IfOk (codec.◌>>=◌ c (λ t. envelope_of stamp t)) WhatFew
    by (Ok t) = kept_few t (said_at stamp t) (said_few stamp t)
    by (Err f) = tt

abbrev CameFew : Came → Type 0
CameFew c = content_words c ≤ most_content_words

spared_few : (limit : Limit) (l : Option Large) (other : codec.Came Came) → IfOk other CameFew → IfOk (spared_or limit l other) CameFew
spared_few limit (Some l) other h = nothing
spared_few limit None other h = h

limited_few : (o : Option Limit) (l : Option Large) (f : EnvelopeFault) → IfOk (limited_by o l f) CameFew
limited_few (Some limit) l f = spared_few limit l (Err f) tt
limited_few None l f = tt

opened_few : (l : Option Large) (r : codec.Came What) → IfOk r WhatFew → IfOk (opened_by l r) CameFew
opened_few l (Ok w) h = either CameFew (is_long w) _ _ (spared_few Steps l (Ok (envelope w)) h) h
opened_few l (Err f) h = limited_few (limit_of f) l f

pub contents_are_small : ContentsAreSmall
contents_are_small stamp frame = opened_few (large_in frame) (envelope_at stamp frame) (envelope_few stamp frame)
