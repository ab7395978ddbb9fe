-- Messages behind the frames that wait.
use Rattle.std.proofs.Common.{◌≡◌, ℕ, suc, ◌+◌, List, [], ◌∷◌, ◌++◌, length, length-append, append-nil, append_assoc, refl, sym, ap, subst, ◌∙◌, arith}
use Rattle.rpc_msg.specs.declared.message.Message.{Message}
use Rattle.link_rings.specs.Waiting.{Held as Queue, frame, frames_from}
use Rattle.link_sides.specs.Rooms.{Queues}

frames_more : {M : Type 0} (k r : ℕ) (ms : List M) (m : M) → frames_from k r (ms ++ m ∷ []) ≡ frames_from k r ms ++ frame (k + length ms) r m ∷ []
frames_more k r [] m = ap (λ n. frame n r m ∷ []) (let e : k ≡ k + 0 = omega arith in e)
frames_more k r (x ∷ ms) m = ap (λ l. frame k r x ∷ l) (frames_more (suc k) r ms m ∙ ap (λ n. frames_from (suc k) r ms ++ frame n r m ∷ []) (let e : suc k + length ms ≡ k + suc (length ms) = omega arith in e))

pub queues_none : (old new : Queue Message) (ms : List Message) → ms ≡ [] → new ≡ old → Queues old ms new
queues_none old new ms e f = rw (e, f) (record { frames = sym (append-nil old.frames); made = let n : old.made ≡ old.made + 0 = omega arith in n; heard = refl })

pub queues_more : (old mid new : Queue Message) (ms : List Message) (m : Message) → Queues old ms mid
    → new.frames ≡ mid.frames ++ frame mid.made mid.heard m ∷ [] → new.made ≡ mid.made + 1 → new.heard ≡ mid.heard → Queues old (ms ++ m ∷ []) new
queues_more old mid new ms m q f g h = record {
  frames =
      f ∙ ap (λ l. l ++ frame mid.made mid.heard m ∷ []) q.frames
      ∙ append_assoc old.frames (frames_from old.made old.heard ms) (frame mid.made mid.heard m ∷ [])
      ∙ ap (λ l. old.frames ++ l) (ap (λ n. frames_from old.made old.heard ms ++ frame n mid.heard m ∷ []) q.made ∙ ap (λ n. frames_from old.made old.heard ms ++ frame (old.made + length ms) n m ∷ []) q.heard ∙ sym (frames_more old.made old.heard ms m));
  made = let a = q.made in let b = length-append ms (m ∷ []) in g ∙ omega (arith, a, b);
  heard = h ∙ q.heard;
}

pub queues_one : (old new : Queue Message) (ms : List Message) (m : Message) → ms ≡ m ∷ []
    → new.frames ≡ old.frames ++ frame old.made old.heard m ∷ [] → new.made ≡ old.made + 1 → new.heard ≡ old.heard → Queues old ms new
queues_one old new ms m e f g h = subst (λ (l : List Message). Queues old l new) (sym e) (record { frames = f; made = g; heard = h })

pub room_more : (ms : List Message) (m : Message) (first mid last : ℕ) → first ≡ mid + length ms → mid ≡ last + 1 → first ≡ last + length (ms ++ m ∷ [])
room_more ms m first mid last e f = let g = length-append ms (m ∷ []) in omega (arith, e, f, g)
