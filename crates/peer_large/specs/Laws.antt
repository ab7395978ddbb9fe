-- Without frames that break a limit nothing changes; what a frame that does comes to is what its call is told, and no more.
use Rattle.std.specs.Prelude.{◌≡◌, ◌≤◌, ℕ, List, [], IfOk}
use Rattle.std.specs.FinMap as finite
use Rattle.rpc_msg.specs.declared.ids.QuestionId.{QuestionId}
use Rattle.rpc_msg.specs.declared.ids.Stamp.{Stamp}
use Rattle.rpc_msg.specs.declared.message.Message.{Message}
use Rattle.rpc_codec.specs.Envelopes.{What}
use Rattle.peer_adapter.specs.Peering.{Peering, Tables}
use Rattle.peer_adapter.specs.Peering as peer
use Rattle.peer_large.specs.declared.front.Large.TheVariants as large
use Rattle.peer_large.specs.declared.limit.Limit.{Limit}
use Rattle.peer_large.specs.Contents.{content_words, most_content_words}
use Rattle.peer_large.specs.Opening.{came_at, envelope, spared}
use Rattle.peer_large.specs.Sparing.{Sparing, comes, failed, goes, passed_by, passes, told_alone}

pub record StandsAside : Type 0 where
  -- what breaks no limit is heard as the adapter says
  pub comes : (t : Tables) (s : Sparing) (w : What) → comes t s (envelope w) ≡ passed_by s (peer.comes t s.peering w)
  -- without such a Return each message goes as the adapter says
  pub goes : (p : Peering) (m : Message) → goes (record { peering = p; returned = finite.empty }) m ≡ passes (record { peering = p; returned = finite.empty }) m

-- A Call that breaks a limit is told so under its own question, once, and the vat hears nothing.
abbrev pub CallsFail : Type 0
CallsFail = (t : Tables) (s : Sparing) (q : QuestionId) (l : Limit)
    → IfOk (comes t s (spared (large.Call q) l)) (λ c. (c.besides ≡ told_alone (failed q l)) × (c.heard ≡ []))

-- The contents that a frame brings are no larger than a message may be.
abbrev pub ContentsAreSmall : Type 0
ContentsAreSmall = (stamp : Stamp) (frame : List ℕ) → IfOk (came_at stamp frame) (λ c. content_words c ≤ most_content_words)
