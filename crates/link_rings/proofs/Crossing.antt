-- An end may go to another thread, where its side, its notes and its messages may.
use denote.RattleType.{RattleType}
use denote.Param.Send.{IsSend, sendable, view_send}
use denote.Param.SendFields.{declared_send}
use denote.Struct.Declared.{row}
use Rattle.std.proofs.Crossing.{crosses, frees, send}
use Rattle.std.specs.contracts.impls.GlobalAllocator.TheImpl.{ghosts}
use Rattle.std.specs.contracts.alloc.Global as Heap
use Rattle.rtrb.specs.contracts.AnyItems as AnyItems
use Rattle.rtrb.specs.contracts.AnyItemsProtocol.TheImpl as any_items
use Rattle.rtrb.proofs.producer.Producer.TheSendSync as Producer
use Rattle.rtrb.proofs.consumer.Consumer.TheSendSync as Consumer
use Rattle.link_rings.specs.declared.party.Party as Party
use Rattle.link_rings.specs.contracts.frame.Frame as Frame
use Rattle.link_rings.specs.contracts.end.End as End
use Rattle.link_rings.specs.contracts.end.End.TheInside as Inside
use Rattle.link_rings.proofs.frame.Frame.TheSendSync as Frames
use Rattle.link_rings.proofs.logged_side.LoggedSide.TheSendSync as LoggedSide

module _ (P N M S C A E : RattleType) (g : Party.Ghosts P.Denot N.Denot M.Denot S.Denot C.Denot A.Denot E.Denot) (p : IsSend P) (n : IsSend N) (m : IsSend M) where
  inside_send : IsSend (row (Inside.the_type P N M S C A E g))
  inside_send =
      let F = Frame.the_row M in
      let f = Frames.the_send M m in
      declared_send (Inside.the_type P N M S C A E g) (
        LoggedSide.the_send P N M p n m,
        (
          search (sendable, crosses) depth 20,
          (
            Producer.the_send F Heap.the_row AnyItems.the_row ghosts (any_items.ghosts F) f send frees,
            (Consumer.the_send F Heap.the_row AnyItems.the_row ghosts (any_items.ghosts F) f send frees, tt),
          ),
        ),
      )

  pub end_send : IsSend (End.the_row P N M S C A E g)
  end_send = view_send _ _ _ _ _ inside_send
