-- Payloads, their bytes and base64.
use Rattle.std.proofs.Common.{◌≡◌, ℕ, ◌<◌, zero, suc, List, [], ◌∷◌, Ok, replicate, refl, sym, ap, ◌∙◌, arith}
use Rattle.base64.specs.Engines.{standard}
use Rattle.base64.specs.GeneralPurpose.{encode_of, decode_of, IsBytes}
use Rattle.base64.proofs.EngineFacts.{decode_of-encode_of}
use Rattle.capn_reading.specs.Segments.{little_numbers, segments_in}
use Rattle.capn_reading.specs.Framing.{framing, segment_count, sizes}
use Rattle.capn_reading.specs.Following.{leads}
use Rattle.capn_reading.specs.Reading.{message_of, root_of, reading, deep}
use Rattle.rpc_msg.specs.Payloads.{Contents as Payload, IsEncoded, null_payload}
use Rattle.trace_write.specs.Parts.{in_base64}
use Rattle.trace_write.specs.Fits.{FitsPayload}

bytes_nil : IsBytes []
bytes_nil i = omega arith

bytes_cons : (b : ℕ) (bs : List ℕ) → b < 256 → IsBytes bs → IsBytes (b ∷ bs)
bytes_cons b bs h t zero = h
bytes_cons b bs h t (suc i) = t i

zeros : (n : ℕ) → IsBytes (replicate n 0)
zeros zero = bytes_nil
zeros (suc n) = bytes_cons 0 (replicate n 0) (omega arith) (zeros n)

null_bytes : IsBytes null_payload.bytes
null_bytes =
    bytes_cons 0 (0 ∷ 0 ∷ 0 ∷ 1 ∷ replicate 11 0) (omega arith)
    (bytes_cons 0 (0 ∷ 0 ∷ 1 ∷ replicate 11 0) (omega arith)
    (bytes_cons 0 (0 ∷ 1 ∷ replicate 11 0) (omega arith)
    (bytes_cons 0 (1 ∷ replicate 11 0) (omega arith)
    (bytes_cons 1 (replicate 11 0) (omega arith) (zeros 11)))))

null_encoded : IsEncoded null_payload
unfolding message_of root_of reading deep framing segment_count sizes leads little_numbers segments_in
null_encoded = refl

pub null_fits : FitsPayload null_payload
null_fits = record { encoded = null_encoded; bytes = null_bytes; caps = omega arith }

-- A payload is its bytes and the number of its capabilities.
pub same_parts : (p q : Payload) → p.bytes ≡ q.bytes → p.caps ≡ q.caps → p ≡ q
same_parts p q b c =
    let of : List ℕ → ℕ → Payload = λ bytes caps. record { bytes = bytes; caps = caps } in
    ap (λ (bytes : List ℕ). of bytes p.caps) b ∙ ap (λ (caps : ℕ). of q.bytes caps) c

pub same_bytes : (b c : List ℕ) → IsBytes b → IsBytes c → encode_of standard b ≡ encode_of standard c → b ≡ c
same_bytes b c hb hc e =
    let r : Ok b ≡ Ok c = sym (decode_of-encode_of standard b refl hb) ∙ ap (decode_of standard) e ∙ decode_of-encode_of standard c refl hc in cc

pub same_base64 : (p q : Payload) → FitsPayload p → FitsPayload q → in_base64 p ≡ in_base64 q → p ≡ q
same_base64 p q hp hq e = same_parts p q (same_bytes p.bytes q.bytes hp.bytes hq.bytes (ap (λ r. r.0) e)) (ap (λ r. r.1) e)
