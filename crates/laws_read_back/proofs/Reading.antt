-- The frame of what the peer is told of a message reads back as that message is heard.
use Rattle.std.proofs.Common.{◌≡◌, ℕ, zero, suc, Bool, true, false, if◌then◌else◌, List, [], ◌∷◌, Ok, Err, Result, Option, Some, None, refl, sym, ap, subst, ◌∙◌, arith}
use Rattle.std.specs.List.{AllByRecursion, list_any}
use Rattle.capn_trees.specs.Trees.{Tree, null, struct, list, capability, Trees, no_trees, tree, Elements, packed, pointers, structs, Structs, no_structs, struct_of}
use Rattle.capn_trees.specs.declared.faults.PayloadFault.{PayloadFault}
use Rattle.capn_trees.specs.declared.faults.WriteFault.{WriteFault}
use Rattle.capn_trees.specs.Writable.{refusal}
use Rattle.capn_writing.specs.Placing.{written}
use Rattle.capn_reading.specs.Framing.{framing}
use Rattle.capn_reading.proofs.Rooted.{not_unframed}
use Rattle.capn_stream.specs.Fronts.{IsFrame}
use Rattle.capn_stream.proofs.Framed.{framed_whole}
use Rattle.rpc_msg.specs.Messages.{descriptors_of_body, descriptors_of_plain}
use Rattle.rpc_msg.specs.Payloads.{Contents, IsEncoded, tree_of}
use Rattle.rpc_msg.specs.declared.ids.Stamp.{Stamp}
use Rattle.rpc_msg.specs.declared.parts.Descriptor.{Descriptor}
use Rattle.rpc_msg.specs.declared.parts.Descriptor.TheVariants as descriptor
use Rattle.rpc_msg.specs.declared.message.ReturnBody.{ReturnBody}
use Rattle.rpc_msg.specs.declared.message.ReturnBody.TheVariants as body
use Rattle.rpc_msg.specs.declared.message.PlainMessage.{PlainMessage}
use Rattle.rpc_msg.specs.declared.message.PlainMessage.TheVariants as plain
use Rattle.rpc_msg.specs.declared.message.Message.TheVariants as message
use Rattle.rpc_codec_parts.specs.Fitting.{FitsPayload, rewritten}
use Rattle.rpc_codec.specs.Decoding.{any_caps}
use Rattle.rpc_codec.specs.Frames.{Written, ◌>>=◌, envelope, frame_by, frame_of, message_tree, plain_tree}
use Rattle.rpc_codec.specs.Laws.{FitsBody, FitsPlain, stamped, stamped_plain}
use Rattle.rpc_codec.specs.Questions.{call_tree}
use Rattle.rpc_codec.specs.Returns.{body_tree, return_tree}
use Rattle.rpc_codec.proofs.Decoded.{decoded, framed_caps}
use Rattle.peer_tail_calls.specs.Nulling.{IsBodyLaidOut, IsPayloadLaidOut, IsPlainLaidOut, is_absent, lacks, nulled, nulled_body, nulled_call, nulled_each, nulled_elements, nulled_payload, nulled_return, nulled_structs}
use Rattle.rpc_outgoing.specs.Outflows.{AsksWithin, IsNamedWithin}
use Rattle.peer_tail_calls.specs.Laws.{told_plain}
use Rattle.laws_wired.specs.Contents.{without, without_each, without_elements, without_structs, IsHeardOf, HoldsAt, SaysNone}
use Rattle.laws_wired.specs.Wires.{IsHeard, AsSaid, OfCall, OfResults}
use Rattle.laws_read_back.specs.ReadBack.{FramesReadBack}
use Rattle.laws_read_back.proofs.Anew.{reads_anew}
use Rattle.laws_read_back.proofs.Widths.{HasWidths}
use Rattle.laws_read_back.proofs.Written.{written_widths}

-- ---- contents are laid out anew

-- They say what they said, with null for each capability that is not there.
abbrev PayloadAgain : List Descriptor → Contents → Type 0
PayloadAgain ds p = tree_of (rewritten (nulled_payload ds p)) ≡ nulled ds (tree_of p)

abbrev BodyAgain : ReturnBody → Type 0
BodyAgain (body.Results p ds) = PayloadAgain ds p
BodyAgain (body.Exception e) = Unit {0}
BodyAgain body.Canceled = Unit {0}

abbrev SaysAgain : PlainMessage → Type 0
SaysAgain (plain.Abort e) = Unit {0}
SaysAgain (plain.Bootstrap q) = Unit {0}
SaysAgain (plain.Call c) = PayloadAgain c.descriptors c.payload
SaysAgain (plain.Return r) = BodyAgain r.body
SaysAgain (plain.Finish f) = Unit {0}
SaysAgain (plain.Resolve r) = Unit {0}
SaysAgain (plain.Release r) = Unit {0}
SaysAgain (plain.Disembargo d) = Unit {0}
SaysAgain (plain.Other n) = Unit {0}

again : (ds : List Descriptor) (p : Contents) → FitsPayload (nulled_payload ds p) ds → HasWidths (tree_of (nulled_payload ds p)) → IsPayloadLaidOut ds p → PayloadAgain ds p
again ds p fits widths laid =
    let few = fits.few in
    let caps = fits.caps in
    reads_anew (tree_of (nulled_payload ds p)) (nulled_payload ds p).caps (omega (arith, few, caps)) fits.content widths ∙ laid

abbrev made : Tree → Written Tree
made t = Ok t

tree_in : (t u : Tree) → made t ≡ made u → t ≡ u
tree_in t u e = cc

body_again : (b : ReturnBody) → FitsBody (nulled_body b) → HasWidths (body_tree (nulled_body b)) → IsBodyLaidOut b → BodyAgain b
body_again (body.Results p ds) fits widths laid = again ds p fits widths.1.0 laid
body_again (body.Exception e) fits widths laid = tt
body_again body.Canceled fits widths laid = tt

-- The tree of a message has its widths, and holds those of its contents.
says_again : (m : PlainMessage) (t : Tree) → FitsPlain (told_plain m) → plain_tree (told_plain m) ≡ Ok t → HasWidths t → IsPlainLaidOut m → SaysAgain m
says_again (plain.Abort e) t fits is widths laid = tt
says_again (plain.Bootstrap q) t fits is widths laid = tt
says_again (plain.Call c) t fits is widths laid =
    let w = subst HasWidths (sym (tree_in (envelope 2 (call_tree (nulled_call c))) t is)) widths in
    again c.descriptors c.payload fits.payload w.1.0.1.1.0.1.0 laid
says_again (plain.Return r) t fits is widths laid =
    let w = subst HasWidths (sym (tree_in (envelope 3 (return_tree (nulled_return r))) t is)) widths in
    body_again r.body fits.1 w.1.0.1.0 laid
says_again (plain.Finish f) t fits is widths laid = tt
says_again (plain.Resolve r) t fits is widths laid = tt
says_again (plain.Release r) t fits is widths laid = tt
says_again (plain.Disembargo d) t fits is widths laid = tt
says_again (plain.Other n) t fits is widths laid = tt

-- ---- null in the place of what is not there

mutual
  nulls : (ds : List Descriptor) (t : Tree) → nulled ds t ≡ without (lacks ds) t
  nulls ds null = refl
  nulls ds (struct words ts) = ap (struct words) (nulls_each ds ts)
  nulls ds (list elements) = ap list (nulls_elements ds elements)
  nulls ds (capability i) = refl

  nulls_each : (ds : List Descriptor) (ts : Trees) → nulled_each ds ts ≡ without_each (lacks ds) ts
  nulls_each ds no_trees = refl
  nulls_each ds (tree t ts) =
      let a = nulls ds t in
      let b = nulls_each ds ts in
      λ i. tree (a i) (b i)

  nulls_elements : (ds : List Descriptor) (es : Elements) → nulled_elements ds es ≡ without_elements (lacks ds) es
  nulls_elements ds (packed bits ns) = refl
  nulls_elements ds (pointers ts) = ap pointers (nulls_each ds ts)
  nulls_elements ds (structs d p ss) = ap (structs d p) (nulls_structs ds ss)

  nulls_structs : (ds : List Descriptor) (ss : Structs) → nulled_structs ds ss ≡ without_structs (lacks ds) ss
  nulls_structs ds no_structs = refl
  nulls_structs ds (struct_of words ts ss) =
      let a = nulls_each ds ts in
      let b = nulls_structs ds ss in
      λ i. struct_of words (a i) (b i)

absent_is_none : (d : Descriptor) → is_absent d ≡ true → SaysNone d
absent_is_none descriptor.None is = refl
absent_is_none (descriptor.SenderHosted e) is = cc
absent_is_none (descriptor.SenderPromise e) is = cc
absent_is_none (descriptor.ReceiverHosted e) is = cc
absent_is_none (descriptor.ReceiverAnswer q path) is = cc

lacked_is_none : (ds : List Descriptor) (i : ℕ) → lacks ds i ≡ true → HoldsAt SaysNone ds i
lacked_is_none [] i is = absurd (let e : false ≡ true = is in cc)
lacked_is_none (d ∷ ds) zero is = absent_is_none d is
lacked_is_none (d ∷ ds) (suc i) is = lacked_is_none ds i is

caps_by : (b : Bool) (p q : Contents) → p.caps ≡ q.caps → (if b then p else q).caps ≡ q.caps
caps_by true p q e = e
caps_by false p q e = refl

caps_stay : (ds : List Descriptor) (p : Contents) → (nulled_payload ds p).caps ≡ p.caps
caps_stay ds p = caps_by (list_any is_absent ds) _ p refl

heard_contents : (ds : List Descriptor) (p : Contents) → PayloadAgain ds p → IsHeardOf ds p (rewritten (nulled_payload ds p))
heard_contents ds p again = record {
  lost = lacks ds;
  none = lacked_is_none ds;
  like = record { caps = caps_stay ds p; tree = again ∙ nulls ds (tree_of p) };
}

-- ---- what is heard

heard : (stamp : Stamp) (m : PlainMessage) → SaysAgain m → IsHeard (message.Plain m) (message.Plain (stamped_plain stamp (told_plain m)))
heard stamp (plain.Abort e) again = AsSaid refl
heard stamp (plain.Bootstrap q) again = AsSaid refl
heard stamp (plain.Call c) again = OfCall c stamp (rewritten (nulled_payload c.descriptors c.payload)) (heard_contents c.descriptors c.payload again) refl refl
heard stamp (plain.Return r) again = by r.body again
  where
    by : (b : ReturnBody) → BodyAgain b → IsHeard (message.Plain (plain.Return (record r { body = b }))) (message.Plain (stamped_plain stamp (told_plain (plain.Return (record r { body = b })))))
    by (body.Results p ds) says = OfResults r.answer r.release_param_caps ds p (rewritten (nulled_payload ds p)) (heard_contents ds p says) refl refl
    by (body.Exception e) says = AsSaid refl
    by body.Canceled says = AsSaid refl
heard stamp (plain.Finish f) again = AsSaid refl
heard stamp (plain.Resolve r) again = AsSaid refl
heard stamp (plain.Release r) again = AsSaid refl
heard stamp (plain.Disembargo d) again = AsSaid refl
heard stamp (plain.Other k) again = AsSaid refl

-- ---- its frame

whole_by : (p : Contents) (r : Result (List (List ℕ)) PayloadFault) → framing p.bytes ≡ r → IsEncoded p → IsFrame p.bytes
whole_by p (Ok m) is encoded = framed_whole p.bytes m is
whole_by p (Err f) is encoded = absurd (not_unframed p.bytes p.caps f encoded (sym is))

abbrev framed : Contents → Written Contents
framed p = Ok p

caps_in : (p q : Contents) → framed p ≡ framed q → p ≡ q
caps_in p q e = cc

-- it is the frame of some tree
frame_is : (o : Option WriteFault) (t : Tree) (p : Contents) → frame_by o t ≡ Ok p → p.bytes ≡ written t
frame_is None t p e = ap (λ (q : Contents). q.bytes) (sym (caps_in (record { bytes = written t; caps = any_caps }) p e))
frame_is (Some f) t p e = absurd cc

written_of : (r : Written Tree) (p : Contents) → (r >>= frame_of) ≡ Ok p → (t : Tree) × (p.bytes ≡ written t)
written_of (Ok t) p e = (t, frame_is (refusal t any_caps) t p e)
written_of (Err f) p e = absurd cc

-- ---- what it asks and names

-- What is told of it asks and names the same.
asks_same : (m : PlainMessage) → AsksWithin (message.Plain (told_plain m)) → AsksWithin (message.Plain m)
asks_same (plain.Abort e) h = h
asks_same (plain.Bootstrap q) h = h
asks_same (plain.Call c) h = h
asks_same (plain.Return r) h = h
asks_same (plain.Finish f) h = h
asks_same (plain.Resolve r) h = h
asks_same (plain.Release r) h = h
asks_same (plain.Disembargo d) h = h
asks_same (plain.Other n) h = h

body_names : (b : ReturnBody) → descriptors_of_body (nulled_body b) ≡ descriptors_of_body b
body_names (body.Results p ds) = refl
body_names (body.Exception e) = refl
body_names body.Canceled = refl

told_names : (m : PlainMessage) → descriptors_of_plain (told_plain m) ≡ descriptors_of_plain m
told_names (plain.Abort e) = refl
told_names (plain.Bootstrap q) = refl
told_names (plain.Call c) = refl
told_names (plain.Return r) = body_names r.body
told_names (plain.Finish f) = refl
told_names (plain.Resolve r) = refl
told_names (plain.Release r) = refl
told_names (plain.Disembargo d) = refl
told_names (plain.Other n) = refl

-- ---- all

pub frames_read_back : FramesReadBack
frames_read_back m frame is sayable laid =
    let said = sayable.says frame is in
    let made_of = written_of (message_tree (message.Plain (told_plain m))) frame is in
    let widths = written_widths frame made_of.0 made_of.1 said.0 in
    record {
      whole = whole_by frame (framing frame.bytes) refl said.0;
      says = λ stamp. (
        stamped stamp (message.Plain (told_plain m)),
        heard stamp m (says_again m (tree_of frame) sayable.fits said.1 widths laid),
        decoded stamp (message.Plain (told_plain m)) frame (framed_caps (message.Plain (told_plain m)) frame is) said.0 said.1 sayable.fits,
      );
      asks = asks_same m sayable.asks;
      names = subst (λ (ds : List Descriptor). AllByRecursion IsNamedWithin ds) (told_names m) sayable.names;
    }
