-- What is encoded is decoded.
use Rattle.std.proofs.Common.{◌≡◌, Option, Some, None, Result, Ok, Err, refl, sym, ap, ◌∙◌}
use Rattle.std.specs.Prelude.{IsOk, MatchResult}
use Rattle.capn_trees.specs.declared.faults.WriteFault.{WriteFault}
use Rattle.capn_trees.specs.Trees.{Tree}
use Rattle.capn_trees.specs.Writable.{refusal}
use Rattle.capn_writing.specs.Placing.{written}
use Rattle.capn_reading.specs.Reading.{Reading, message_of, tree_read}
use Rattle.rpc_msg.specs.Payloads.{Contents, IsEncoded, tree_of}
use Rattle.rpc_msg.specs.declared.ids.Stamp.{Stamp}
use Rattle.rpc_msg.specs.declared.message.Message.{Message}
use Rattle.rpc_msg.specs.declared.message.Message.TheVariants as message
use Rattle.rpc_codec_parts.specs.declared.faults.EnvelopeFault.{EnvelopeFault}
use Rattle.rpc_codec.specs.declared.envelope.Envelope.{Envelope}
use Rattle.rpc_codec.specs.declared.errors.DecodeError.{DecodeError}
use Rattle.rpc_codec.specs.declared.errors.DecodeError.TheVariants as errors
use Rattle.rpc_codec.specs.Envelopes.{What, profile, seen_envelope}
use Rattle.rpc_codec.specs.Decoding as decoding
use Rattle.rpc_codec.specs.Decoding.{Came, any_caps, encoded, envelope_of, envelope_at, Decodes}
use Rattle.rpc_codec.specs.Frames.{Written, ◌>>=◌, envelope, plain_tree, message_tree, frame_by, frame_of, message_frame}
use Rattle.rpc_codec.specs.Laws.{Fits, stamped, stamped_plain, FitsPlain, ReadBack}
use Rattle.rpc_msg.specs.declared.message.PlainMessage.{PlainMessage}
use Rattle.rpc_codec.proofs.Read.{good}
use Rattle.rpc_codec.proofs.Back.{tree_in_ok, tree_is, plain_back, echo_back}

wrapped_back : (stamp : Stamp) (m : PlainMessage) (t : Tree) (r : Written Tree) → FitsPlain m → plain_tree m ≡ r → (r >>= λ u. Ok (envelope 0 u)) ≡ Ok t
    → envelope_of stamp t ≡ Ok (profile (message.Unimplemented (stamped_plain stamp m)))
wrapped_back stamp m t (Ok u) fits e is =
    ap (envelope_of stamp) (sym (tree_in_ok (envelope 0 u) t is) ∙ ap (envelope 0) (tree_is m u e))
    ∙ echo_back stamp m u fits e
wrapped_back stamp m t (Err f) fits e is = absurd cc

pub read_back : ReadBack
read_back stamp (message.Plain m) t fits is = ap (envelope_of stamp) (tree_is m t is) ∙ plain_back stamp m t fits is
read_back stamp (message.Unimplemented m) t fits is = wrapped_back stamp m t (plain_tree m) fits refl is

encoded_ok : (r : Reading Tree) → IsOk r → encoded r ≡ good (tree_read r)
encoded_ok (Ok x) ok = refl
encoded_ok (Err f) ok = absurd cc

abbrev came_by : Stamp → Came Tree → Came What
came_by stamp (Ok t) = envelope_of stamp t
came_by stamp (Err f) = Err f

came_same : (stamp : Stamp) (r : Came Tree) → (decoding.◌>>=◌ r (λ t. envelope_of stamp t)) ≡ came_by stamp r
came_same stamp (Ok t) = refl
came_same stamp (Err f) = refl

pub decoded : (stamp : Stamp) (m : Message) (p : Contents) → p.caps ≡ any_caps → IsEncoded p → message_tree m ≡ Ok (tree_of p) → Fits m → envelope_at stamp p.bytes ≡ Ok (profile (stamped stamp m))
unfolding envelope_at
decoded stamp m p caps ok is_tree fits =
    came_same stamp (encoded (message_of p.bytes any_caps))
    ∙ ap (λ k. came_by stamp (encoded (message_of p.bytes k))) (sym caps)
    ∙ ap (came_by stamp) (encoded_ok (message_of p.bytes p.caps) ok)
    ∙ read_back stamp m (tree_of p) fits is_tree

abbrev bad : EnvelopeFault → Came What
bad f = Err f

not_both : (f : EnvelopeFault) (x : What) → bad f ≡ good x → ⊥
not_both f x e = absurd cc

what_in_ok : (a b : What) → good a ≡ good b → a ≡ b
what_in_ok a b e = cc

pub gives_that : (r : Result Envelope DecodeError) (said : Came What) (x : What) → Decodes seen_envelope r said → said ≡ good x → MatchResult r (λ e. seen_envelope e ≡ x) (λ e. e ≡ errors.Memory)
gives_that (Ok e) said x gives is = let same : good (seen_envelope e) ≡ good x = sym gives ∙ is in what_in_ok (seen_envelope e) x same
gives_that (Err errors.Memory) said x gives is = refl
gives_that (Err (errors.Fault f)) said x gives is = absurd (not_both f x (sym gives ∙ is))

-- a frame that was written goes with any capabilities
abbrev pub framed : Contents → Written Contents
framed p = Ok p

caps_in_ok : (p q : Contents) → framed p ≡ framed q → p ≡ q
caps_in_ok p q e = cc

frame_caps : (o : Option WriteFault) (t : Tree) (p : Contents) → frame_by o t ≡ Ok p → p.caps ≡ any_caps
frame_caps None t p is = ap (λ (q : Contents). q.caps) (sym (caps_in_ok (record { bytes = written t; caps = any_caps }) p is))
frame_caps (Some f) t p is = absurd cc

tree_caps : (r : Written Tree) (p : Contents) → (r >>= frame_of) ≡ Ok p → p.caps ≡ any_caps
tree_caps (Ok t) p is = frame_caps (refusal t any_caps) t p is
tree_caps (Err f) p is = absurd cc

pub framed_caps : (m : Message) (p : Contents) → message_frame m ≡ Ok p → p.caps ≡ any_caps
framed_caps m p is = tree_caps (message_tree m) p is
