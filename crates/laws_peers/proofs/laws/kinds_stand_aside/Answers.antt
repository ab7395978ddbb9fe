use Rattle.std.proofs.Common.{◌≡◌, sym, subst}
use Rattle.rpc_msg.specs.Messages.{descriptors_of_plain}
use Rattle.rpc_msg.specs.declared.message.Message.{Message}
use Rattle.rpc_msg.specs.declared.message.Message.TheVariants as message
use Rattle.rpc_msg.specs.declared.message.PlainMessage.{PlainMessage}
use Rattle.std.specs.Prelude.{[]}
use Rattle.rpc_codec.specs.Envelopes.{profile}
use Rattle.rpc_machine.specs.State.{State}
use Rattle.rpc_machine.specs.World.{core}
use Rattle.laws_messages.specs.Oldest.{IsFirstResolve, NoneClashes}
use Rattle.peer_kinds.specs.Kinds.{comes, heard}
use Rattle.peer_kinds.specs.Laws.{StandsAside}
use Rattle.peer_kinds.specs.Standings.{standings_in}
use Rattle.laws_peers.proofs.Alike.{alike}
use Rattle.laws_peers.proofs.laws.kinds_stand_aside.Goals as goal

as_it_came : StandsAside → (s : State) (m : Message) → (p : PlainMessage) × (m ≡ message.Plain p) × IsFirstResolve s p × NoneClashes s [] (descriptors_of_plain p)
    → comes (standings_in s) (profile m) ≡ heard (profile m)
as_it_came aside s m (p, is, first, none) = subst (λ (m : Message). comes (standings_in s) (profile m) ≡ heard (profile m)) (sym is) (aside (standings_in s) (profile (message.Plain p)) (alike s p first none))

pub returns : goal.returns
returns c = record {
  steady = λ a b w h v m ms is. as_it_came c.stands_aside.ensures (core w v) m (let k = c.exports_resolve_once.ensures in k.steady a b w h v m ms is);
  scenes = λ a b x h v m ms is. as_it_came c.stands_aside.ensures (core x.world v) m (let k = c.exports_resolve_once.ensures in k.scenes a b x h v m ms is);
}
