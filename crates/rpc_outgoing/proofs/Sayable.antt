-- A sound message that has a frame is one that goes out.
use Rattle.std.proofs.Common.{◌≡◌, ◌+◌, ◌*◌, ◌^◌, ◌≤◌, Bool, true, false, eqb, leb, List, [], ◌∷◌, length, Option, Some, None, Ok, Err, IsOk, refl, sym, subst, ◌∙◌, arith}
use Rattle.std.proofs.lemmas.Bool.{and_parts, eqb-true, leb-true, ltb-true}
use Rattle.std.specs.List.{AllByRecursion, list_all}
use Rattle.capn_trees.specs.declared.faults.PayloadFault.TheVariants.{OutOfBounds}
use Rattle.capn_trees.specs.declared.faults.WriteFault.{WriteFault}
use Rattle.capn_trees.specs.Trees.{Tree, null, no_trees}
use Rattle.capn_trees.specs.Writable.{parts, refusal}
use Rattle.capn_trees.proofs.Found.{none_refused}
use Rattle.capn_reading.specs.Segments.{segment_of}
use Rattle.capn_reading.specs.Following.{counted_before}
use Rattle.capn_reading.specs.Framing.{framing}
use Rattle.capn_reading.specs.Reading.{Reading, reading, root_of, message_of, tree_read}
use Rattle.capn_reading.proofs.Counted.{AreFine, reading_fine}
use Rattle.capn_reading.proofs.Fine.{fine_good, few_none}
use Rattle.capn_reading.proofs.Framed.{framing_takes}
use Rattle.capn_reading.proofs.Rooted.{bind_ok, passed}
use Rattle.capn_wire.proofs.Within.{segments_fit}
use Rattle.rpc_msg.specs.Messages.{descriptors_of}
use Rattle.rpc_msg.specs.Payloads.{Contents, IsEncoded, IsPayload, tree_of}
use Rattle.rpc_msg.specs.declared.parts.Descriptor.{Descriptor}
use Rattle.rpc_msg.specs.declared.parts.Descriptor.TheVariants as descriptor
use Rattle.rpc_msg.specs.declared.message.Call.{Call}
use Rattle.rpc_msg.specs.declared.message.Return.{Return}
use Rattle.rpc_msg.specs.declared.message.ReturnBody.{ReturnBody}
use Rattle.rpc_msg.specs.declared.message.ReturnBody.TheVariants as body
use Rattle.rpc_msg.specs.declared.message.PlainMessage.{PlainMessage}
use Rattle.rpc_msg.specs.declared.message.PlainMessage.TheVariants as plain
use Rattle.rpc_msg.specs.declared.message.Message.{Message}
use Rattle.rpc_msg.specs.declared.message.Message.TheVariants as message
use Rattle.rpc_codec_parts.specs.Blocks.{one}
use Rattle.rpc_codec_parts.specs.Descriptors.{table_tree}
use Rattle.rpc_codec_parts.specs.Fitting.{FitsPayload}
use Rattle.rpc_codec_parts.specs.Payloads.{payload_tree}
use Rattle.rpc_codec_parts.specs.Targets.{target_tree}
use Rattle.rpc_codec.specs.Decoding.{any_caps}
use Rattle.rpc_codec.specs.Frames.{Written, ◌>>=◌, envelope, plain_tree, message_tree, frame_by, frame_of, message_frame}
use Rattle.rpc_codec.specs.Laws.{Fits, FitsBody, FitsPlain}
use Rattle.rpc_codec.specs.Questions.{call_tree, flag_bit}
use Rattle.rpc_codec.specs.Returns.{return_tree}
use Rattle.rpc_outgoing.specs.Outflows.{AsksWithin, IsNamedWithin, IsSayable, asks_within, describes_contents, is_alone, is_described, is_described_body, is_described_plain, is_named_within, is_sound, names_within}
use Rattle.rpc_outgoing.specs.Widths.{BodyHas, Has, PayloadHas, PlainHas}
use Rattle.rpc_outgoing.proofs.Visited.{visits, visits_of, visits_is, in_first, in_second, in_envelope}

-- ---- contents

-- What is read has no part that can't be written.
read_fine : (p : Contents) → IsPayload p → (r : Reading Tree) → message_of p.bytes p.caps ≡ r → IsOk r → AreFine p.caps (parts (tree_read r) 64)
unfolding message_of root_of
read_fine p h (Ok x) is ok =
    let a = bind_ok (framing p.bytes) (λ m. root_of m p.caps) x is in
    let b = passed (eqb (length (segment_of a.0 0)) 0) OutOfBounds (reading a.0 p.caps 64 0 0 (counted_before 65536)) x a.2 in
    let framed = framing_takes p.bytes a.0 h.bytes a.1 in
    (reading_fine a.0 p.caps (segments_fit a.0 framed.words) 64 0 0 (counted_before 65536) x.0 x.1 b.1).fine
read_fine p h (Err f) is ok = absurd cc

-- So it can be written by itself where a visit of it counts few enough words.
content_fits : (p : Contents) → IsPayload p → visits (tree_of p) ≤ 65535 → refusal (tree_of p) p.caps ≡ None
content_fits p h le =
    let few = visits_is (tree_of p) 65535 le in
    few_none p.caps (parts (tree_of p) 64) (fine_good p.caps (parts (tree_of p) 64) (read_fine p h (message_of p.bytes p.caps) refl h.encoded) few) few

payload_fits : (p : Contents) (ds : List Descriptor) → is_described p ds ≡ true → PayloadHas p ds → visits (tree_of p) ≤ 65535 → FitsPayload p ds
payload_fits p ds is has le =
    let said = and_parts (eqb p.caps (length ds)) (leb (length ds) 4096) is in
    record {
      caps = eqb-true p.caps (length ds) said.0;
      few = leb-true (length ds) 4096 said.1;
      content = content_fits p has.payload le;
      descriptors = has.descriptors;
    }

-- A visit of the contents of a message counts few enough words.
abbrev SmallBody : ReturnBody → Type 0
SmallBody (body.Results p ds) = visits (tree_of p) ≤ 65535
SmallBody (body.Exception e) = Unit {0}
SmallBody body.Canceled = Unit {0}

abbrev Small : PlainMessage → Type 0
Small (plain.Abort e) = Unit {0}
Small (plain.Bootstrap q) = Unit {0}
Small (plain.Call c) = visits (tree_of c.payload) ≤ 65535
Small (plain.Return r) = SmallBody r.body
Small (plain.Finish f) = Unit {0}
Small (plain.Resolve r) = Unit {0}
Small (plain.Release r) = Unit {0}
Small (plain.Disembargo d) = Unit {0}
Small (plain.Other n) = Unit {0}

small_payload : (p : Contents) (ds : List Descriptor) → visits (tree_of p) ≤ visits (payload_tree p ds)
small_payload p ds = let a = in_first [] (tree_of p) (one (table_tree ds)) in omega (arith, a)

small_call : (c : Call) → visits (envelope 2 (call_tree c)) ≤ 65536 → visits (tree_of c.payload) ≤ 65535
small_call c le =
    let a = small_payload c.payload c.descriptors in
    let b = in_second ((c.question.0 + 2 ^ 32 * c.method) ∷ c.interface ∷ 0 ∷ []) (target_tree c.target) (payload_tree c.payload c.descriptors) (one null) in
    let d = in_envelope 2 (call_tree c) in
    omega (arith, a, b, d, le)

small_return : (r : Return) (b : ReturnBody) → visits (envelope 3 (return_tree (record r { body = b }))) ≤ 65536 → SmallBody b
small_return r (body.Results p ds) le =
    let a = small_payload p ds in
    let b = in_first ((r.answer.0 + flag_bit r.release_param_caps + 2 ^ 48 * 0) ∷ 0 ∷ []) (payload_tree p ds) no_trees in
    let d = in_envelope 3 (return_tree (record r { body = body.Results p ds })) in
    omega (arith, a, b, d, le)
small_return r (body.Exception e) le = tt
small_return r body.Canceled le = tt

abbrev made : Tree → Written Tree
made t = Ok t

made_same : (t u : Tree) → made t ≡ made u → t ≡ u
made_same t u e = cc

small : (m : PlainMessage) (t : Tree) → plain_tree m ≡ Ok t → visits t ≤ 65536 → Small m
small (plain.Abort e) t is le = tt
small (plain.Bootstrap q) t is le = tt
small (plain.Call c) t is le = small_call c (subst (λ u. visits u ≤ 65536) (sym (made_same (envelope 2 (call_tree c)) t is)) le)
small (plain.Return r) t is le = small_return r r.body (subst (λ u. visits u ≤ 65536) (sym (made_same (envelope 3 (return_tree r)) t is)) le)
small (plain.Finish f) t is le = tt
small (plain.Resolve r) t is le = tt
small (plain.Release r) t is le = tt
small (plain.Disembargo d) t is le = tt
small (plain.Other n) t is le = tt

-- so does one that is sent back
small_back : (m : PlainMessage) (t : Tree) (r : Written Tree) → plain_tree m ≡ r → (r >>= λ u. Ok (envelope 0 u)) ≡ Ok t → visits t ≤ 65536 → Small m
small_back m t (Ok u) is e le =
    let a = in_envelope 0 u in
    let b : visits (envelope 0 u) ≤ 65536 = subst (λ x. visits x ≤ 65536) (sym (made_same (envelope 0 u) t e)) le in
    small m u is (omega (arith, a, b))
small_back m t (Err f) is e le = absurd cc

-- ---- a message

body_fits : (b : ReturnBody) → is_described_body b ≡ true → BodyHas b → SmallBody b → FitsBody b
body_fits (body.Results p ds) is has le = payload_fits p ds is has le
body_fits (body.Exception e) is has le = has
body_fits body.Canceled is has le = tt

plain_fits : (m : PlainMessage) → is_described_plain m ≡ true → PlainHas m → Small m → FitsPlain m
plain_fits (plain.Abort e) is has le = has
plain_fits (plain.Bootstrap q) is has le = has
plain_fits (plain.Call c) is has le = record {
  question = has.question;
  interface = has.interface;
  method = has.method;
  target = has.target;
  payload = payload_fits c.payload c.descriptors is has.payload le;
}
plain_fits (plain.Return r) is has le = (has.0, body_fits r.body is has.1 le)
plain_fits (plain.Finish f) is has le = has
plain_fits (plain.Resolve r) is has le = has
plain_fits (plain.Release r) is has le = has
plain_fits (plain.Disembargo d) is has le = has
plain_fits (plain.Other n) is has le = tt

fits_by : (m : Message) (t : Tree) → message_tree m ≡ Ok t → visits t ≤ 65536 → describes_contents m ≡ true → Has m → Fits m
fits_by (message.Plain m) t is le described has = plain_fits m described has (small m t is le)
fits_by (message.Unimplemented m) t is le described has = plain_fits m described has (small_back m t (plain_tree m) refl is le)

-- A message that has a frame has a tree that is not refused.
abbrev framed : Contents → Written Contents
framed p = Ok p

framed_same : (p q : Contents) → framed p ≡ framed q → p ≡ q
framed_same p q e = cc

not_refused : (o : Option WriteFault) (t : Tree) (p : Contents) → frame_by o t ≡ Ok p → o ≡ None
not_refused None t p is = refl
not_refused (Some f) t p is = absurd cc

frame_fits : (m : Message) (p : Contents) (r : Written Tree) → message_tree m ≡ r → (r >>= frame_of) ≡ Ok p → describes_contents m ≡ true → Has m → Fits m
frame_fits m p (Ok t) is e described has =
    fits_by m t is (visits_of t 65536 (none_refused any_caps (parts t 64) (not_refused (refusal t any_caps) t p e)).2) described has
frame_fits m p (Err f) is e described has = absurd cc

-- ---- what it asks and names

asks : (m : Message) → asks_within m ≡ true → AsksWithin m
asks (message.Plain (plain.Abort e)) is = tt
asks (message.Plain (plain.Bootstrap q)) is = ltb-true q.0 4096 is
asks (message.Plain (plain.Call c)) is = ltb-true c.question.0 4096 is
asks (message.Plain (plain.Return r)) is = tt
asks (message.Plain (plain.Finish f)) is = tt
asks (message.Plain (plain.Resolve r)) is = tt
asks (message.Plain (plain.Release r)) is = tt
asks (message.Plain (plain.Disembargo d)) is = tt
asks (message.Plain (plain.Other n)) is = tt
asks (message.Unimplemented m) is = tt

named : (d : Descriptor) → is_named_within d ≡ true → IsNamedWithin d
named descriptor.None is = tt
named (descriptor.SenderHosted e) is = ltb-true e.0 4096 is
named (descriptor.SenderPromise e) is = ltb-true e.0 4096 is
named (descriptor.ReceiverHosted e) is = tt
named (descriptor.ReceiverAnswer q path) is = tt

all_named : (ds : List Descriptor) → list_all is_named_within ds ≡ true → AllByRecursion IsNamedWithin ds
all_named [] is = tt
all_named (d ∷ ds) is = let h = and_parts (is_named_within d) (list_all is_named_within ds) is in (named d h.0, all_named ds h.1)

-- ---- all

pub sayable : (m : Message) (p : Contents) → Has m → is_sound m ≡ true → message_frame m ≡ Ok p → IsEncoded p × (message_tree m ≡ Ok (tree_of p)) → IsSayable m
sayable m p has sound is says =
    let a = and_parts (asks_within m) _ sound in
    let b = and_parts (names_within m) (describes_contents m) a.1 in
    record {
      fits = frame_fits m p (message_tree m) refl is b.1 has;
      asks = asks m a.0;
      names = all_named (descriptors_of m) b.0;
      says = λ frame e. subst (λ (q : Contents). IsEncoded q × (message_tree m ≡ Ok (tree_of q))) (framed_same p frame (sym is ∙ e)) says;
    }

-- What sends back a number alone has no frame of its own.
pub alone_sayable : (m : Message) → is_alone m ≡ true → IsSayable m
alone_sayable (message.Plain m) is = absurd (let e : ◌≡◌ {A = Bool} false true = is in cc)
alone_sayable (message.Unimplemented (plain.Abort x)) is = absurd (let e : ◌≡◌ {A = Bool} false true = is in cc)
alone_sayable (message.Unimplemented (plain.Bootstrap x)) is = absurd (let e : ◌≡◌ {A = Bool} false true = is in cc)
alone_sayable (message.Unimplemented (plain.Call x)) is = absurd (let e : ◌≡◌ {A = Bool} false true = is in cc)
alone_sayable (message.Unimplemented (plain.Return x)) is = absurd (let e : ◌≡◌ {A = Bool} false true = is in cc)
alone_sayable (message.Unimplemented (plain.Finish x)) is = absurd (let e : ◌≡◌ {A = Bool} false true = is in cc)
alone_sayable (message.Unimplemented (plain.Resolve x)) is = absurd (let e : ◌≡◌ {A = Bool} false true = is in cc)
alone_sayable (message.Unimplemented (plain.Release x)) is = absurd (let e : ◌≡◌ {A = Bool} false true = is in cc)
alone_sayable (message.Unimplemented (plain.Disembargo x)) is = absurd (let e : ◌≡◌ {A = Bool} false true = is in cc)
alone_sayable (message.Unimplemented (plain.Other n)) is = record {
  fits = tt;
  asks = tt;
  names = tt;
  says = λ frame e. absurd cc;
}
