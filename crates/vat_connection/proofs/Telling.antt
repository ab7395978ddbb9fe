-- The peer is told all of something, or nothing of it.
use Rattle.std.proofs.Common.{◌≡◌, ℕ, List, [], ◌∷◌, ◌++◌, length, take, append-nil, append_assoc, Ok, Err, refl, sym, ap, subst, ◌∙◌}
use Rattle.std.proofs.lemmas.List.{take_at}
use Rattle.rpc_msg.specs.Payloads.{Contents}
use Rattle.rpc_msg.specs.declared.ids.ExportId.{ExportId}
use Rattle.rpc_codec.specs.Frames.{Written, message_frame}
use Rattle.rpc_outgoing.specs.Outflows.{Outflow, Put, PutBy, framed}
use Rattle.peer_adapter.specs.Peering.{release_of}
use Rattle.vat_connection.specs.Speaking.{GivesBack}
use Rattle.vat_connection.specs.Telling.{IsLonger}

framed_longer : (old new : Outflow) (w : Written Contents) → PutBy old (framed old.echoes w) new → IsLonger old new
framed_longer old new (Ok frame) put = (frame.bytes, put)
framed_longer old new (Err f) put = absurd put

-- Where a Release is put, bytes are.
pub put_longer : (old new : Outflow) (e : ExportId) → Put old (release_of e) new → IsLonger old new
put_longer old new e put = framed_longer old new (message_frame (release_of e)) put.1

pub same_longer : (out : Outflow) → IsLonger out out
same_longer out = ([], ap (λ (bytes : List ℕ). record out { bytes = bytes }) (sym (append-nil out.bytes)))

pub longer_more : (old mid new : Outflow) → IsLonger old mid → IsLonger mid new → IsLonger old new
longer_more old mid new (more, first) (rest, second) =
    (more ++ rest, second ∙ ap (λ (o : Outflow). record o { bytes = o.bytes ++ rest }) first ∙ ap (λ (bytes : List ℕ). record old { bytes = bytes }) (append_assoc old.bytes more rest))

-- One more is given back.
pub gives_back_more : (old mid new : Outflow) (es : List ExportId) (e : ExportId) → GivesBack old es mid → Put mid (release_of e) new → GivesBack old (es ++ e ∷ []) new
gives_back_more old mid new [] e same put = (new, subst (λ (o : Outflow). Put o (release_of e) new) same put, refl)
gives_back_more old mid new (x ∷ es) e (first, one, more) put = (first, one, gives_back_more first mid new es e more put)

-- Bytes that were put are taken back.
pub cut_back : (old new : Outflow) → IsLonger old new → (len : ℕ) → len ≡ length old.bytes → record new { bytes = take len new.bytes } ≡ old
cut_back old new (more, is) len here =
    ap (λ (o : Outflow). record o { bytes = take len o.bytes }) is ∙ ap (λ (bytes : List ℕ). record old { bytes = bytes }) (take_at old.bytes more len (sym here))
