-- What the frames of messages without contents say.
use Rattle.std.proofs.Common.{◌≡◌, ℕ, ◌^◌, ◌<◌, ◌≤◌, List, [], ◌∷◌, length, None, Result, Ok, refl, sym, ap, subst, ◌∙◌, arith}
use Rattle.capn_trees.specs.declared.faults.PayloadFault.{PayloadFault}
use Rattle.capn_trees.specs.Trees.{Tree}
use Rattle.capn_trees.specs.Widths.{AreOf}
use Rattle.capn_trees.specs.Writable.{refusal}
use Rattle.capn_writing.specs.Placing.{segment_for, one_segment, written}
use Rattle.capn_writing.specs.Fitting as fitting
use Rattle.capn_writing.proofs.Writing.{can_write, short_segment}
use Rattle.capn_reading.specs.Following as following
use Rattle.capn_reading.specs.Framing.{framing}
use Rattle.capn_reading.specs.Reading.{root_of, message_of}
use Rattle.capn_reading.proofs.Framed.{framed_again}
use Rattle.capn_wire.proofs.Written.{written_says, says_written}
use Rattle.capn_wire.proofs.Constant.{null_says}
use Rattle.rpc_msg.specs.Payloads.{Contents, IsEncoded, tree_of, null_payload}
use Rattle.rpc_msg.specs.declared.ids.Stamp.{Stamp}
use Rattle.rpc_msg.specs.declared.message.Finish.{Finish}
use Rattle.rpc_msg.specs.declared.message.PlainMessage.TheVariants as plain
use Rattle.rpc_msg.specs.declared.message.Message.{Message}
use Rattle.rpc_msg.specs.declared.message.Message.TheVariants as message
use Rattle.rpc_codec_parts.specs.Fitting.{FitsPayload}
use Rattle.rpc_codec.specs.declared.bare.BareCall.{BareCall}
use Rattle.rpc_codec.specs.declared.bare.BareReturn.{BareReturn}
use Rattle.rpc_codec.specs.Bares.{bare_call, bare_return, bare_finish, called, returned, IsFrame, IsFrameOf, SaysMessage}
use Rattle.rpc_codec.specs.Decoding.{any_caps, encoded, envelope_of, envelope_at}
use Rattle.rpc_codec.specs.Decoding as decoding
use Rattle.rpc_codec.specs.Envelopes.{profile}
use Rattle.rpc_codec.specs.Frames as frames
use Rattle.rpc_codec.specs.Frames.{Written, message_tree, frame_by, frame_of}
use Rattle.rpc_codec.specs.Laws.{Fits, stamped}
use Rattle.rpc_codec.proofs.Decoded.{decoded}

-- a tree that can be written as it is
record IsWritten (t : Tree) : Type 0 where
  can : refusal t any_caps ≡ None
  fits : fitting.Fits t
  words : AreOf 64 (segment_for t)

-- the frame whose bytes are these
frame_for : Tree → Contents
frame_for t = record { bytes = written t; caps = any_caps }

same_frame : (stamp : Stamp) (a b : List ℕ) → framing a ≡ framing b → envelope_at stamp a ≡ envelope_at stamp b
unfolding envelope_at message_of
same_frame stamp a b same =
    ap (λ (f : Result (List (List ℕ)) PayloadFault). decoding.◌>>=◌ (encoded (following.◌>>=◌ f (λ m. root_of m any_caps))) (λ t. envelope_of stamp t)) same

framing_for : (t : Tree) → IsWritten t → framing (written t) ≡ Ok (segment_for t ∷ [])
framing_for t is =
    let can = can_write t any_caps is.can in
    let says = written_says t any_caps is.fits can.0 can.1 can.2 is.words in
    framed_again (written t) (segment_for t ∷ []) says.framed

-- a message in one segment that has the words of its tree
known_frame : (stamp : Stamp) (m : Message) (t : Tree) (bytes : List ℕ) (ws : List (List ℕ)) → message_tree m ≡ Ok t → IsWritten t → Ok ws ≡ framing bytes → ws ≡ segment_for t ∷ [] → Fits m
    → envelope_at stamp bytes ≡ Ok (profile (stamped stamp m))
known_frame stamp m t bytes ws is_tree is framed same fits =
    let says = says_written t any_caps (written t) is.can is.fits is.words refl in
    let one : framing bytes ≡ framing (written t) = sym framed ∙ ap (λ (x : List (List ℕ)). let made : Result (List (List ℕ)) PayloadFault = Ok x in made) same ∙ sym (framing_for t is) in
    same_frame stamp bytes (written t) one
    ∙ decoded stamp m (record { bytes = written t; caps = any_caps }) refl says.0 (is_tree ∙ ap (λ (x : Tree). let made : Result Tree _ = Ok x in made) (sym says.1)) fits

pub finish_said : (stamp : Stamp) (f : Finish) (bytes : List ℕ) (ws : List (List ℕ)) → Ok ws ≡ framing bytes → IsFrame ws (bare_finish f) → f.question.0 < 2 ^ 32
    → envelope_at stamp bytes ≡ Ok (profile (message.Plain (plain.Finish f)))
finish_said stamp f bytes ws framed frame small =
    known_frame stamp (message.Plain (plain.Finish f)) (bare_finish f) bytes ws refl (record { can = refl; fits = (tt, tt); words = frame.1 }) framed frame.0 small

null_fits : FitsPayload null_payload []
null_fits = record { caps = refl; few = omega arith; content = ap (λ t. refusal t 0) null_says.1; descriptors = tt }

pub return_said : (stamp : Stamp) (r : BareReturn) (bytes : List ℕ) (ws : List (List ℕ)) → Ok ws ≡ framing bytes → IsFrame ws (bare_return r) → r.answer.0 < 2 ^ 32
    → envelope_at stamp bytes ≡ Ok (profile (message.Plain (plain.Return (returned r))))
return_said stamp r bytes ws framed frame small =
    let none = null_says.1 in
    known_frame stamp (message.Plain (plain.Return (returned r))) (bare_return r) bytes ws (rw none refl) (record { can = refl; fits = ((((tt, (tt, tt)), tt), tt)); words = frame.1 }) framed frame.0 (small, null_fits)
    ∙ rw none refl

pub call_said : (stamp : Stamp) (c : BareCall) (bytes : List ℕ) (ws : List (List ℕ)) → Ok ws ≡ framing bytes → IsFrame ws (bare_call c) → (c.question.0 < 2 ^ 32) × (c.target.0 < 2 ^ 32) × (c.interface < 2 ^ 64) × (c.method < 2 ^ 16)
    → envelope_at stamp bytes ≡ Ok (profile (message.Plain (plain.Call (called stamp c))))
call_said stamp c bytes ws framed frame small =
    let none = null_says.1 in
    known_frame stamp (message.Plain (plain.Call (called stamp c))) (bare_call c) bytes ws (rw none refl) (record { can = refl; fits = ((((tt, tt), ((tt, (tt, tt)), (tt, tt))), tt)); words = frame.1 }) framed frame.0
    (record { question = small.0; interface = small.2; method = small.3; target = small.1; payload = null_fits })
    ∙ rw none refl

-- ---- written

pub call_can : (c : BareCall) → refusal (bare_call c) any_caps ≡ None
call_can c = refl

pub call_fits : (c : BareCall) → fitting.Fits (bare_call c)
call_fits c = (((tt, tt), ((tt, (tt, tt)), (tt, tt))), tt)

pub call_tree_is : (stamp : Stamp) (c : BareCall) → message_tree (message.Plain (plain.Call (called stamp c))) ≡ Ok (bare_call c)
call_tree_is stamp c = let none = null_says.1 in rw none refl

pub return_can : (r : BareReturn) → refusal (bare_return r) any_caps ≡ None
return_can r = refl

pub return_fits : (r : BareReturn) → fitting.Fits (bare_return r)
return_fits r = (((tt, (tt, tt)), tt), tt)

pub return_tree_is : (r : BareReturn) → message_tree (message.Plain (plain.Return (returned r))) ≡ Ok (bare_return r)
return_tree_is r = let none = null_says.1 in rw none refl

pub finish_can : (f : Finish) → refusal (bare_finish f) any_caps ≡ None
finish_can f = refl

pub finish_fits : (f : Finish) → fitting.Fits (bare_finish f)
finish_fits f = (tt, tt)

-- words that are those of a tree that can be written
module _ (t : Tree) (ws : List ℕ) (same : ws ≡ segment_for t) (can : refusal t any_caps ≡ None) (fits : fitting.Fits t) (words : AreOf 64 ws) where
  abbrev words_frame : Contents
  words_frame = record { bytes = one_segment ws; caps = any_caps }

  pub words_say : IsEncoded words_frame × (tree_of words_frame ≡ t)
  words_say = says_written t any_caps (one_segment ws) can fits (subst (AreOf 64) same words) (ap one_segment same)

  pub words_few : length ws ≤ 65536
  words_few = let le = short_segment t any_caps ws (can_write t any_caps can) same in le

  pub words_made : (p : Contents) → p ≡ words_frame → IsFrameOf t p
  words_made p made = (
    made ∙ ap (λ (bs : List ℕ). let c : Contents = record { bytes = bs; caps = any_caps } in c) (ap one_segment same),
    subst (λ (q : Contents). IsEncoded q × (tree_of q ≡ t)) (sym made) words_say,
  )

abbrev wrote : {A : Type 0} → A → Written A
wrote x = Ok x

pub frame_says : (m : Message) (t : Tree) (p : Contents) → message_tree m ≡ Ok t → refusal t any_caps ≡ None → IsFrameOf t p → SaysMessage m p
frame_says m t p is_tree can frame =
    (ap (λ r. frames.◌>>=◌ r frame_of) is_tree ∙ ap (λ o. frame_by o t) can ∙ ap wrote (sym frame.0), (frame.1.0, is_tree ∙ ap wrote (sym frame.1.1)))
