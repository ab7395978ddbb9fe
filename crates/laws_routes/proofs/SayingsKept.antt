-- What was said of wires is still so behind a change of the machine of routes.
use Rattle.std.specs.FinMap as map
use Rattle.std.proofs.Common.{ℕ, zero, suc, Bool, true, false, Option, None, Some, List, [], ◌∷◌, ◌≡◌}
use Rattle.rpc_msg.specs.CapAt.{CapAt}
use Rattle.rpc_msg.specs.CapAt.TheVariants.{Cap, Null, NotCap}
use Rattle.finite_maps.specs.Tally.{Map}
use Rattle.rpc_msg.specs.declared.ids.Vat.{Vat}
use Rattle.rpc_msg.specs.declared.parts.Descriptor.{Descriptor}
use Rattle.rpc_msg.specs.declared.message.ResolvedTo.{ResolvedTo}
use Rattle.rpc_msg.specs.declared.message.ResolvedTo.TheVariants as resolved
use Rattle.rpc_msg.specs.declared.message.ReturnBody.{ReturnBody}
use Rattle.rpc_msg.specs.declared.message.ReturnBody.TheVariants as body
use Rattle.rpc_msg.specs.declared.message.PlainMessage.{PlainMessage}
use Rattle.rpc_msg.specs.declared.message.PlainMessage.TheVariants as plain
use Rattle.rpc_msg.specs.declared.message.Message.{Message}
use Rattle.rpc_msg.specs.declared.message.Message.TheVariants as message
use Rattle.rpc_msg.specs.Messages.{descriptors_of}
use Rattle.rpc_machine.specs.Payloads.{cap_at}
use Rattle.rpc_machine.specs.declared.entries.Export.{Export}
use Rattle.rpc_machine.specs.State.{State}
use Rattle.rpc_machine.specs.Advancing.{Known, NothingYet, IsBroken, Leads, known_by_resolve, known_by_return, known_of_wire, resolution_of, returned_of}
use Rattle.rpc_msg.specs.Vats.{other_vat}
use Rattle.rpc_msg.specs.declared.parts.Descriptor.TheVariants as descriptor
use Rattle.laws_order.specs.Machine.{Net}
use Rattle.laws_order.specs.Events.{Fate, settled}
use Rattle.laws_routes.specs.Points.{Point, AField, Group, routes}
use Rattle.laws_routes.specs.Ghosts.{Ghost, point}
use Rattle.laws_routes.specs.Views.{past_one}
use Rattle.laws_routes.specs.Sayings.{Has, IsKnown, IsSaid, KnownIsSo, SaidOfExport, SaidIfThere, SaidAt, SaidOfCap, SaidOfAnswer, SaidBy, AllSaid, bare, descriptor_point, has_behind}
use Rattle.laws_routes.proofs.GroupSettles.{said_after, known_after, breaks_after}
use Rattle.rpc_machine.specs.declared.node.Node.{Node}
use Rattle.rpc_machine.specs.declared.node.Node.TheVariants as node
use Rattle.rpc_machine.specs.Nodes.{is_wire}

bare_said : (n : Net routes) (w : Point) (d : Descriptor) (to : Point) → IsSaid n w d to → IsSaid (bare n) w d to
bare_said n w descriptor.None to h = h
bare_said n w (descriptor.SenderHosted e) to h = h
bare_said n w (descriptor.SenderPromise e) to h = h
bare_said n w (descriptor.ReceiverHosted e) to h = h
bare_said n w (descriptor.ReceiverAnswer q path) to h = h

bare_known : (n : Net routes) (v : Vat) (g : Ghost) (w : Point) (k : Known) → IsKnown v g n w k → IsKnown v g (bare n) w k
bare_known n v g w NothingYet h = tt
bare_known n v g w (IsBroken reason) h = h
bare_known n v g w (Leads said to) h = bare_said n w said (point v g to) h

said_of_bare : (n : Net routes) (w : Point) (d : Descriptor) (to : Point) → IsSaid (bare n) w d to → IsSaid n w d to
said_of_bare n w descriptor.None to h = h
said_of_bare n w (descriptor.SenderHosted e) to h = h
said_of_bare n w (descriptor.SenderPromise e) to h = h
said_of_bare n w (descriptor.ReceiverHosted e) to h = h
said_of_bare n w (descriptor.ReceiverAnswer q path) to h = h

known_of_bare : (n : Net routes) (v : Vat) (g : Ghost) (w : Point) (k : Known) → IsKnown v g (bare n) w k → IsKnown v g n w k
known_of_bare n v g w NothingYet h = tt
known_of_bare n v g w (IsBroken reason) h = h
known_of_bare n v g w (Leads said to) h = said_of_bare n w said (point v g to) h

-- So of each node that is a wire.
pub wire_known : (v : Vat) (s : State) (g : Ghost) (n : Net routes) (k : Node) → KnownIsSo v s g (bare n) → is_wire k ≡ true → IsKnown v g n (point v g k) (known_of_wire s k)
wire_known v s g n (node.Object o) h w = cc
wire_known v s g n (node.Promise p) h w = cc
wire_known v s g n (node.Field o path) h w = cc
wire_known v s g n (node.Import e) h w = known_of_bare n v g (g.import e.0) (known_of_wire s (node.Import e)) (h.0 e.0)
wire_known v s g n (node.Pipe q path) h w = known_of_bare n v g (point v g (node.Pipe q path)) (known_of_wire s (node.Pipe q path)) (h.1 q.0 path)
wire_known v s g n (node.Broken reason) h w = cc

module _ (n : Net routes) (group : Group) (fate : Point → Fate routes) where
  abbrev after : Net routes
  after = bare (settled n group fate)

  export_said : (v : Vat) (g : Ghost) (x : Option Export) (read : Descriptor → Point) (to : ResolvedTo) → SaidOfExport n v g x read to → SaidOfExport after v g x read to
  export_said v g None read to h = tt
  export_said v g (Some x) read (resolved.Cap d) h = bare_said (settled n group fate) (point v g x.node) d (read d) (said_after n group fate (point v g x.node) d (read d) h)
  export_said v g (Some x) read (resolved.Exception exception) h = breaks_after n group fate (point v g x.node) h

  if_so : {P Q : Type 0} (b : Bool) → (P → Q) → SaidIfThere b P → SaidIfThere b Q
  if_so true f h = f h
  if_so false f h = tt

  resolve_said : (b : Bool) (v : Vat) (g : Ghost) (x : Option Export) (read : Descriptor → Point) (to : ResolvedTo) → SaidIfThere b (SaidOfExport n v g x read to) → SaidIfThere b (SaidOfExport after v g x read to)
  resolve_said true v g x read to h = export_said v g x read to h
  resolve_said false v g x read to h = tt

  at_said : (w : Point) (read : Descriptor → Point) (ds : List Descriptor) (i : ℕ) → SaidAt n w read ds i → SaidAt after w read ds i
  at_said w read [] i h = breaks_after n group fate w h
  at_said w read (d ∷ ds) zero h = bare_said (settled n group fate) w d (read d) (said_after n group fate w d (read d) h)
  at_said w read (d ∷ ds) (suc i) h = at_said w read ds i h

  cap_said : (w : Point) (read : Descriptor → Point) (ds : List Descriptor) (c : CapAt) → SaidOfCap n w read ds c → SaidOfCap after w read ds c
  cap_said w read ds (Cap i) h = at_said w read ds i h
  cap_said w read ds Null h = breaks_after n group fate w h
  cap_said w read ds NotCap h = breaks_after n group fate w h

  answer_said : (v : Vat) (i : ℕ) (read : Descriptor → Point) (x : ReturnBody) → SaidOfAnswer n v i read x → SaidOfAnswer after v i read x
  answer_said v i read (body.Results payload ds) h = λ path. cap_said (AField v i path) read ds (cap_at payload path) (h path)
  answer_said v i read (body.Exception exception) h = λ path. breaks_after n group fate (AField v i path) (h path)
  answer_said v i read body.Canceled h = tt

  module _ (v : Vat) (E : Map Export) (g : Ghost) (u : Vat) (F : Map Export) (f : Ghost) where
    one_said : (has : Has) (now : ℕ → ℕ) (m : PlainMessage) → SaidBy n v E g u F f has now m → SaidBy after v E g u F f has now m
    one_said has now (plain.Abort exception) h = tt
    one_said has now (plain.Bootstrap q) h = tt
    one_said has now (plain.Call c) h = tt
    one_said has now (plain.Return r) h = if_so (has.question r.answer.0) (answer_said v (f.session r.answer.0) (descriptor_point v E g u F f now) r.body) h
    one_said has now (plain.Finish x) h = tt
    one_said has now (plain.Resolve r) h = resolve_said (has.import r.promise.0) v g (map.get E r.promise.0) (descriptor_point v E g u F f now) r.to h
    one_said has now (plain.Release r) h = tt
    one_said has now (plain.Disembargo x) h = tt
    one_said has now (plain.Other k) h = tt

    pub all_said : (has : Has) (now : ℕ → ℕ) (ms : List Message) → AllSaid n v E g u F f has now ms → AllSaid after v E g u F f has now ms
    all_said has now [] h = tt
    all_said has now (message.Plain m ∷ ms) h = (one_said has now m h.0, all_said (has_behind has (descriptors_of (message.Plain m))) (past_one g now (message.Plain m)) ms h.1)
    all_said has now (message.Unimplemented m ∷ ms) h = (h.0, all_said has now ms h.1)

  pub known_stays : (v : Vat) (s : State) (g : Ghost) → KnownIsSo v s g n → KnownIsSo v s g after
  known_stays v s g h = (
    λ e. (let k = known_by_resolve (resolution_of (map.get s.imports e)) in bare_known (settled n group fate) v g (g.import e) k (known_after n group fate v g (g.import e) k (h.0 e))),
    λ q path. (let k = known_by_return path (returned_of (map.get s.questions q)) in bare_known (settled n group fate) v g (AField (other_vat v) (g.session q) path) k (known_after n group fate v g (AField (other_vat v) (g.session q) path) k (h.1 q path))),
  )

pub kept_known : (n : Net routes) (group : Group) (fate : Point → Fate routes) (v : Vat) (s : State) (g : Ghost) → KnownIsSo v s g (bare n) → KnownIsSo v s g (bare (settled n group fate))
kept_known n group fate v s g h = known_stays (bare n) group fate v s g h

pub kept_said : (n : Net routes) (group : Group) (fate : Point → Fate routes) (v : Vat) (E : Map Export) (g : Ghost) (u : Vat) (F : Map Export) (f : Ghost) (has : Has) (now : ℕ → ℕ) (ms : List Message) → AllSaid (bare n) v E g u F f has now ms
    → AllSaid (bare (settled n group fate)) v E g u F f has now ms
kept_said n group fate v E g u F f has now ms h = all_said (bare n) group fate v E g u F f has now ms h
