-- Messages are read from the trees that are made of them.
use Rattle.std.proofs.Common.{◌≡◌, ℕ, ◌+◌, ◌*◌, ◌^◌, ◌<◌, Bool, false, List, [], ◌∷◌, Ok, refl, sym, ap, ◌∙◌, arith, lit<}
use Rattle.std.specs.Prelude.{◌==◌}
use Rattle.capn_trees.specs.Trees.{Tree, Trees, null, struct, no_trees}
use Rattle.capn_reading.specs.Reading.{element}
use Rattle.rpc_msg.specs.declared.ids.QuestionId.{QuestionId}
use Rattle.rpc_msg.specs.declared.ids.Stamp.{Stamp}
use Rattle.rpc_msg.specs.declared.message.Call.{Call}
use Rattle.rpc_msg.specs.declared.message.ReturnBody.{ReturnBody}
use Rattle.rpc_msg.specs.declared.message.ReturnBody.TheVariants as body
use Rattle.rpc_msg.specs.declared.message.Return.{Return}
use Rattle.rpc_msg.specs.declared.message.Finish.{Finish}
use Rattle.rpc_msg.specs.declared.message.ResolvedTo.{ResolvedTo}
use Rattle.rpc_msg.specs.declared.message.ResolvedTo.TheVariants as to
use Rattle.rpc_msg.specs.declared.message.Resolve.{Resolve}
use Rattle.rpc_msg.specs.declared.message.Release.{Release}
use Rattle.rpc_msg.specs.declared.message.DisembargoContext.{DisembargoContext}
use Rattle.rpc_msg.specs.declared.message.DisembargoContext.TheVariants.{SenderLoopback, ReceiverLoopback}
use Rattle.rpc_msg.specs.declared.message.Disembargo.{Disembargo}
use Rattle.rpc_msg.specs.declared.message.PlainMessage.{PlainMessage}
use Rattle.rpc_msg.specs.declared.message.PlainMessage.TheVariants as plain
use Rattle.rpc_msg.specs.declared.message.Message.TheVariants as message
use Rattle.rpc_codec_parts.specs.Blocks.{Block, one, three}
use Rattle.rpc_codec_parts.specs.Reading.{Read, ◌>>=◌}
use Rattle.rpc_codec_parts.specs.Targets.{target_at, target_tree}
use Rattle.rpc_codec_parts.specs.Exceptions.{exception_tree}
use Rattle.rpc_codec_parts.specs.Payloads.{payload_at, payload_tree}
use Rattle.rpc_codec_parts.specs.Fitting.{FitsTarget}
use Rattle.rpc_codec.specs.declared.envelope.Known.TheVariants as known
use Rattle.rpc_codec.specs.Questions.{bootstrap_at, call_of, call_by, call_at, finish_at, bootstrap_tree, call_tree, flag_bit, finish_tree}
use Rattle.rpc_codec.specs.Returns.{body_by, understood, return_of, return_by, return_at, body_number, body_tree, return_tree}
use Rattle.rpc_codec.specs.Exports.{resolved_by, resolve_at, release_at, context_by, disembargo_at, resolved_number, resolved_tree, resolve_tree, release_tree, context_word, disembargo_tree}
use Rattle.rpc_codec.specs.Envelopes.{profile, what_of, known_by, came_back, back_by, back_at, said_by, said_at}
use Rattle.rpc_codec.specs.Decoding.{kept, envelope_of}
use Rattle.rpc_codec.specs.Frames.{Written, envelope, plain_tree}
use Rattle.rpc_codec.specs.Laws.{stamped_call, stamped_body, stamped_plain, FitsCall, FitsBody, FitsResolved, FitsContext, FitsPlain}
use Rattle.rpc_codec.proofs.BackParts.{block, target_back, descriptor_back, exception_back, payload_back}
use Rattle.rpc_codec.proofs.Numbers.{low_32, high_32, high_16, highest_16, alone_32, alone_none, alone_64, more_16, more_32, flag_back, flagged_32, flagged_16}

abbrev read : {A : Type 0} → A → Read A
read x = Ok x

pub bootstrap_back : (ws : List ℕ) (q : QuestionId) → q.0 < 2 ^ 32 → bootstrap_at (block ws (one (struct (q.0 ∷ []) (one null)))) ≡ Ok q
unfolding bootstrap_at
bootstrap_back ws q small = ap (λ n. read (record { 0 = n })) (alone_32 [] q.0 small)

finish_made : ℕ → Bool → Read Finish
finish_made q b = Ok (record { question = record { 0 = q }; release_result_caps = b })

pub finish_back : (ws : List ℕ) (f : Finish) → f.question.0 < 2 ^ 32 → finish_at (block ws (one (finish_tree f))) ≡ Ok f
unfolding finish_at finish_made
finish_back ws f small =
    let word : f.question.0 + flag_bit f.release_result_caps ≡ f.question.0 + flag_bit f.release_result_caps + 2 ^ 48 * 0 = omega arith in
    ap (λ w. finish_made (element (w ∷ []) 32 0) (element (w ∷ []) 1 32 == 0)) word
    ∙ ap (λ q. finish_made q (element ((f.question.0 + flag_bit f.release_result_caps + 2 ^ 48 * 0) ∷ []) 1 32 == 0)) (flagged_32 [] f.question.0 0 f.release_result_caps small)
    ∙ ap (finish_made f.question.0) (flag_back [] f.question.0 0 f.release_result_caps small)

release_made : ℕ → ℕ → Read Release
release_made e n = Ok (record { export = record { 0 = e }; count = n })

pub release_back : (ws : List ℕ) (r : Release) → r.export.0 < 2 ^ 32 → r.count < 2 ^ 32 → release_at (block ws (one (release_tree r))) ≡ Ok r
unfolding release_at release_made
release_back ws r small few =
    ap (λ e. release_made e (element ((r.export.0 + 2 ^ 32 * r.count) ∷ []) 32 1)) (low_32 [] r.export.0 r.count small)
    ∙ ap (release_made r.export.0) (high_32 [] r.export.0 r.count small few)

-- ---- Calls

call_made : ℕ → ℕ → ℕ → Call → Read Call
call_made q i m c = Ok (record c { question = record { 0 = q }; interface = i; method = m })

call_of_back : (stamp : Stamp) (c : Call) → FitsCall c
    → call_of stamp (block ((c.question.0 + 2 ^ 32 * c.method) ∷ c.interface ∷ 0 ∷ []) (three (target_tree c.target) (payload_tree c.payload c.descriptors) null)) ≡ Ok (stamped_call stamp c)
unfolding call_of call_made
call_of_back stamp c fits =
    let w : ℕ = c.question.0 + 2 ^ 32 * c.method in
    let words : List ℕ = w ∷ c.interface ∷ 0 ∷ [] in
    let inner : Block = block words (three (target_tree c.target) (payload_tree c.payload c.descriptors) null) in
    ap (λ r. r >>= λ t. payload_at 1 inner >>= λ p. call_made (element words 32 0) (element words 64 1) (element words 16 2) (record c { target = t; payload = p.0; descriptors = p.1; stamp = stamp }))
    (target_back words c.target _ fits.target)
    ∙ ap (λ r. r >>= λ p. call_made (element words 32 0) (element words 64 1) (element words 16 2) (record c { payload = p.0; descriptors = p.1; stamp = stamp }))
    (payload_back 1 inner c.payload c.descriptors refl fits.payload)
    ∙ ap (λ q. call_made q (element words 64 1) (element words 16 2) (stamped_call stamp c)) (low_32 (c.interface ∷ 0 ∷ []) c.question.0 c.method fits.question)
    ∙ ap (λ i. call_made c.question.0 i (element words 16 2) (stamped_call stamp c)) (alone_64 w (0 ∷ []) c.interface fits.interface)
    ∙ ap (λ m. call_made c.question.0 c.interface m (stamped_call stamp c)) (high_16 (c.interface ∷ 0 ∷ []) c.question.0 c.method fits.question fits.method)

pub call_back : (ws : List ℕ) (stamp : Stamp) (c : Call) → FitsCall c → call_at stamp (block ws (one (call_tree c))) ≡ Ok (known.Plain (plain.Call (stamped_call stamp c)))
unfolding call_at
call_back ws stamp c fits =
    let words : List ℕ = (c.question.0 + 2 ^ 32 * c.method) ∷ c.interface ∷ 0 ∷ [] in
    let inner : Block = block words (three (target_tree c.target) (payload_tree c.payload c.descriptors) null) in
    ap (λ k. call_by k stamp inner) (highest_16 (c.interface ∷ 0 ∷ []) c.question.0 c.method fits.question fits.method)
    ∙ ap (λ r. r >>= λ x. Ok (known.Plain (plain.Call x))) (call_of_back stamp c fits)

-- ---- Returns

body_back : (ws : List ℕ) (b : ReturnBody) → FitsBody b → body_by (body_number b) (block ws (one (body_tree b))) ≡ Ok (stamped_body b)
body_back ws (body.Results p ds) fits = ap (λ r. r >>= λ x. Ok (body.Results x.0 x.1)) (payload_back 0 (block ws (one (payload_tree p ds))) p ds refl fits)
body_back ws (body.Exception e) fits = ap (λ r. r >>= λ x. Ok (body.Exception x)) (exception_back ws e no_trees fits)
body_back ws body.Canceled fits = refl

few_bodies : (b : ReturnBody) → body_number b < 2 ^ 16
few_bodies (body.Results p ds) = lit< tt
few_bodies (body.Exception e) = lit< tt
few_bodies body.Canceled = lit< tt

return_made : ℕ → Bool → ReturnBody → Read Return
return_made a b said = Ok (record { answer = record { 0 = a }; release_param_caps = b; body = said })

-- a Return of the profile, with this number
return_kept : (b : ReturnBody) (inner : Block) → return_by (body_number b) inner ≡ (return_of inner >>= λ r. Ok (known.Plain (plain.Return r)))
return_kept (body.Results p ds) inner = refl
return_kept (body.Exception e) inner = refl
return_kept body.Canceled inner = refl

return_of_back : (r : Return) → r.answer.0 < 2 ^ 32 → FitsBody r.body
    → return_of (block ((r.answer.0 + flag_bit r.release_param_caps + 2 ^ 48 * body_number r.body) ∷ 0 ∷ []) (one (body_tree r.body))) ≡ Ok (record r { body = stamped_body r.body })
unfolding return_of return_made
return_of_back r small fits =
    let words : List ℕ = (r.answer.0 + flag_bit r.release_param_caps + 2 ^ 48 * body_number r.body) ∷ 0 ∷ [] in
    let inner : Block = block words (one (body_tree r.body)) in
    ap (λ k. understood (body_by k inner) >>= λ b. return_made (element words 32 0) (element words 1 32 == 0) b) (flagged_16 (0 ∷ []) r.answer.0 (body_number r.body) r.release_param_caps small (few_bodies r.body))
    ∙ ap (λ x. understood x >>= λ b. return_made (element words 32 0) (element words 1 32 == 0) b) (body_back words r.body fits)
    ∙ ap (λ a. return_made a (element words 1 32 == 0) (stamped_body r.body)) (flagged_32 (0 ∷ []) r.answer.0 (body_number r.body) r.release_param_caps small)
    ∙ ap (λ b. return_made r.answer.0 b (stamped_body r.body)) (flag_back (0 ∷ []) r.answer.0 (body_number r.body) r.release_param_caps small)

pub return_back : (ws : List ℕ) (r : Return) → r.answer.0 < 2 ^ 32 → FitsBody r.body → return_at (block ws (one (return_tree r))) ≡ Ok (known.Plain (plain.Return (record r { body = stamped_body r.body })))
unfolding return_at
return_back ws r small fits =
    let words : List ℕ = (r.answer.0 + flag_bit r.release_param_caps + 2 ^ 48 * body_number r.body) ∷ 0 ∷ [] in
    let inner : Block = block words (one (body_tree r.body)) in
    ap (λ k. return_by k inner) (flagged_16 (0 ∷ []) r.answer.0 (body_number r.body) r.release_param_caps small (few_bodies r.body))
    ∙ return_kept r.body inner
    ∙ ap (λ x. x >>= λ y. Ok (known.Plain (plain.Return y))) (return_of_back r small fits)

-- ---- Resolves and Disembargoes

resolved_back : (ws : List ℕ) (t : ResolvedTo) → FitsResolved t → resolved_by (resolved_number t) (block ws (one (resolved_tree t))) ≡ Ok t
resolved_back ws (to.Cap d) fits = ap (λ r. r >>= λ x. Ok (to.Cap x)) (descriptor_back d fits)
resolved_back ws (to.Exception e) fits = ap (λ r. r >>= λ x. Ok (to.Exception x)) (exception_back ws e no_trees fits)

few_resolved : (t : ResolvedTo) → resolved_number t < 2 ^ 16
few_resolved (to.Cap d) = lit< tt
few_resolved (to.Exception e) = lit< tt

resolve_made : ℕ → ResolvedTo → Read Resolve
resolve_made p t = Ok (record { promise = record { 0 = p }; to = t })

pub resolve_back : (ws : List ℕ) (r : Resolve) → r.promise.0 < 2 ^ 32 → FitsResolved r.to → resolve_at (block ws (one (resolve_tree r))) ≡ Ok r
unfolding resolve_at resolve_made
resolve_back ws r small fits =
    let words : List ℕ = (r.promise.0 + 2 ^ 32 * resolved_number r.to) ∷ [] in
    ap (λ k. resolved_by k (block words (one (resolved_tree r.to))) >>= λ t. resolve_made (element words 32 0) t) (high_16 [] r.promise.0 (resolved_number r.to) small (few_resolved r.to))
    ∙ ap (λ x. x >>= λ t. resolve_made (element words 32 0) t) (resolved_back words r.to fits)
    ∙ ap (λ p. resolve_made p r.to) (low_32 [] r.promise.0 (resolved_number r.to) small)

context_back : (c : DisembargoContext) (ts : Trees) → FitsContext c → context_by (element (context_word c ∷ []) 16 2) (block (context_word c ∷ []) ts) ≡ Ok c
context_back (SenderLoopback id) ts fits = rw (alone_none [] id.0 fits) (ap (λ n. read (SenderLoopback (record { 0 = n }))) (alone_32 [] id.0 fits))
context_back (ReceiverLoopback id) ts fits = rw (more_16 [] id.0 fits) (ap (λ n. read (ReceiverLoopback (record { 0 = n }))) (more_32 [] id.0 fits))

pub disembargo_back : (ws : List ℕ) (d : Disembargo) → FitsContext d.context → FitsTarget d.target → disembargo_at (block ws (one (disembargo_tree d))) ≡ Ok d
unfolding disembargo_at
disembargo_back ws d context fits =
    let words : List ℕ = context_word d.context ∷ [] in
    let inner : Block = block words (one (target_tree d.target)) in
    ap (λ r. r >>= λ c. target_at 0 inner >>= λ t. Ok (record { target = t; context = c })) (context_back d.context (one (target_tree d.target)) context)
    ∙ ap (λ r. r >>= λ t. Ok (record { target = t; context = d.context })) (target_back words d.target no_trees fits)

-- ---- messages

abbrev pub number_of : PlainMessage → ℕ
number_of (plain.Abort e) = 1
number_of (plain.Bootstrap q) = 8
number_of (plain.Call c) = 2
number_of (plain.Return r) = 3
number_of (plain.Finish f) = 4
number_of (plain.Resolve r) = 5
number_of (plain.Release r) = 6
number_of (plain.Disembargo d) = 13
number_of (plain.Other n) = 7

abbrev pub inner_of : PlainMessage → Tree
inner_of (plain.Abort e) = exception_tree e
inner_of (plain.Bootstrap q) = bootstrap_tree q
inner_of (plain.Call c) = call_tree c
inner_of (plain.Return r) = return_tree r
inner_of (plain.Finish f) = finish_tree f
inner_of (plain.Resolve r) = resolve_tree r
inner_of (plain.Release r) = release_tree r
inner_of (plain.Disembargo d) = disembargo_tree d
inner_of (plain.Other n) = null

abbrev pub good : Tree → Written Tree
good t = Ok t

pub tree_in_ok : (t u : Tree) → good t ≡ good u → t ≡ u
tree_in_ok t u e = cc

-- the tree of a message that is one
pub tree_is : (m : PlainMessage) (t : Tree) → plain_tree m ≡ Ok t → t ≡ envelope (number_of m) (inner_of m)
tree_is (plain.Abort e) t is = sym (tree_in_ok _ t is)
tree_is (plain.Bootstrap q) t is = sym (tree_in_ok _ t is)
tree_is (plain.Call c) t is = sym (tree_in_ok _ t is)
tree_is (plain.Return r) t is = sym (tree_in_ok _ t is)
tree_is (plain.Finish f) t is = sym (tree_in_ok _ t is)
tree_is (plain.Resolve r) t is = sym (tree_in_ok _ t is)
tree_is (plain.Release r) t is = sym (tree_in_ok _ t is)
tree_is (plain.Disembargo d) t is = sym (tree_in_ok _ t is)
tree_is (plain.Other n) t is = absurd cc

number_is : (m : PlainMessage) → element (number_of m ∷ []) 16 0 ≡ number_of m
number_is (plain.Abort e) = refl
number_is (plain.Bootstrap q) = refl
number_is (plain.Call c) = refl
number_is (plain.Return r) = refl
number_is (plain.Finish f) = refl
number_is (plain.Resolve r) = refl
number_is (plain.Release r) = refl
number_is (plain.Disembargo d) = refl
number_is (plain.Other n) = refl

not_zero : (m : PlainMessage) → (number_of m == 0) ≡ false
not_zero (plain.Abort e) = refl
not_zero (plain.Bootstrap q) = refl
not_zero (plain.Call c) = refl
not_zero (plain.Return r) = refl
not_zero (plain.Finish f) = refl
not_zero (plain.Resolve r) = refl
not_zero (plain.Release r) = refl
not_zero (plain.Disembargo d) = refl
not_zero (plain.Other n) = refl

known_back : (stamp : Stamp) (m : PlainMessage) (t : Tree) → FitsPlain m → plain_tree m ≡ Ok t
    → known_by (number_of m) stamp (block (number_of m ∷ []) (one (inner_of m))) ≡ Ok (known.Plain (stamped_plain stamp m))
known_back stamp (plain.Abort e) t fits is = ap (λ r. r >>= λ x. Ok (known.Plain (plain.Abort x))) (exception_back (1 ∷ []) e no_trees fits)
known_back stamp (plain.Bootstrap q) t fits is = ap (λ r. r >>= λ x. Ok (known.Plain (plain.Bootstrap x))) (bootstrap_back (8 ∷ []) q fits)
known_back stamp (plain.Call c) t fits is = call_back (2 ∷ []) stamp c fits
known_back stamp (plain.Return r) t fits is = return_back (3 ∷ []) r fits.0 fits.1
known_back stamp (plain.Finish f) t fits is = ap (λ r. r >>= λ x. Ok (known.Plain (plain.Finish x))) (finish_back (4 ∷ []) f fits)
known_back stamp (plain.Resolve r) t fits is = ap (λ s. s >>= λ x. Ok (known.Plain (plain.Resolve x))) (resolve_back (5 ∷ []) r fits.0 fits.1)
known_back stamp (plain.Release r) t fits is = ap (λ s. s >>= λ x. Ok (known.Plain (plain.Release x))) (release_back (6 ∷ []) r fits.0 fits.1)
known_back stamp (plain.Disembargo d) t fits is = ap (λ r. r >>= λ x. Ok (known.Plain (plain.Disembargo x))) (disembargo_back (13 ∷ []) d fits.0 fits.1)
known_back stamp (plain.Other n) t fits is = absurd cc

pub plain_back : (stamp : Stamp) (m : PlainMessage) (t : Tree) → FitsPlain m → plain_tree m ≡ Ok t
    → envelope_of stamp (envelope (number_of m) (inner_of m)) ≡ Ok (profile (message.Plain (stamped_plain stamp m)))
unfolding envelope_of said_at
plain_back stamp m t fits is =
    let b : Block = block (number_of m ∷ []) (one (inner_of m)) in
    ap (λ k. kept (envelope (number_of m) (inner_of m)) (said_by k stamp b)) (number_is m)
    ∙ rw (not_zero m) (ap (λ r. kept (envelope (number_of m) (inner_of m)) (r >>= λ k. Ok (what_of k))) (known_back stamp m t fits is))

came_plain : (stamp : Stamp) (m : PlainMessage) (t : Tree) → FitsPlain m → plain_tree m ≡ Ok t → back_at stamp (block (number_of m ∷ []) (one (inner_of m))) ≡ Ok (stamped_plain stamp m)
came_plain stamp m t fits is =
    let b : Block = block (number_of m ∷ []) (one (inner_of m)) in
    ap (λ k. back_by k stamp b) (number_is m)
    ∙ rw (not_zero m) (ap (came_back (number_of m)) (known_back stamp m t fits is))

pub echo_back : (stamp : Stamp) (m : PlainMessage) (t : Tree) → FitsPlain m → plain_tree m ≡ Ok t
    → envelope_of stamp (envelope 0 (envelope (number_of m) (inner_of m))) ≡ Ok (profile (message.Unimplemented (stamped_plain stamp m)))
unfolding envelope_of said_at
echo_back stamp m t fits is =
    ap (λ r. kept (envelope 0 (envelope (number_of m) (inner_of m))) (r >>= λ x. Ok (profile (message.Unimplemented x)))) (came_plain stamp m t fits is)
