-- In each scene a vat has the bootstrap object with which it began.
use Rattle.std.proofs.Common.{◌≡◌, Option, refl, sym, ap}
use Rattle.rpc_msg.specs.declared.ids.Vat.{Vat}
use Rattle.rpc_msg.specs.declared.ids.Vat.TheVariants.{A, B}
use Rattle.rpc_msg.specs.declared.ids.ObjectId.{ObjectId}
use Rattle.rpc_journal.specs.Meaning.{root}
use Rattle.rpc_machine.specs.Claims.{history, object_number}
use Rattle.rpc_machine.specs.World.{core}
use Rattle.laws_runs.specs.Scenes as scenes
use Rattle.laws_runs.specs.Scenes.{Scene}
use Rattle.laws_meanings.proofs.Hosting.{commands, messages}
use Rattle.laws_meanings.proofs.Walked.{in_each}
use Rattle.laws_sound.specs.OldestHeard.{RootsAreHosted}

module _ (a b : Option ObjectId) where
  abbrev Both : Scene → Type 0
  Both x = (x.world.a.core.bootstrap ≡ a) × (x.world.b.core.bootstrap ≡ b)

  stepped : (x mid : Scene) → scenes.Steps x mid → Both x → Both mid
  stepped x mid (scenes.Commanded A c g told s o up r d w e) k = rw e (commands a (core x.world A) c g told s k.0 d, k.1)
  stepped x mid (scenes.Commanded B c g told s o up r d w e) k = rw e (k.0, commands b (core x.world B) c g told s k.1 d)
  stepped x mid (scenes.Received A m ms told s o up j f d w e) k = rw e (messages a (core x.world A) m told s f k.0 d, k.1)
  stepped x mid (scenes.Received B m ms told s o up j f d w e) k = rw e (k.0, messages b (core x.world B) m told s f k.1 d)
  stepped x mid (scenes.GivesUp A c o r f e) k = rw e k
  stepped x mid (scenes.GivesUp B c o r f e) k = rw e k
  stepped x mid (scenes.Stops A o e) k = rw e k
  stepped x mid (scenes.Stops B o e) k = rw e k

pub roots_hosted : RootsAreHosted
roots_hosted a b x v i = by v (in_each a b (Both a b) (λ y mid j t p. stepped a b y mid t p) (refl, refl) x i)
  where
    by : (v : Vat) → Both a b x → root (history a b x.journal) v ≡ object_number (core x.world v).bootstrap
    by A k = ap object_number (sym k.0)
    by B k = ap object_number (sym k.1)
