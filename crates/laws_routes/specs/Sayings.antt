-- Resolutions are true: what a vat was told of a wire, and what is said of one in a message on its way, is so in the
-- machine of routes.
use Rattle.std.specs.Prelude.{◌≡◌, ℕ, zero, suc, Bool, true, false, ◌||◌, nat_eq, Option, None, Some, is_some, List, [], ◌∷◌}
use Rattle.std.specs.FinMap as map
use Rattle.rpc_msg.specs.Op.{Op}
use Rattle.rpc_msg.specs.CapAt.{CapAt}
use Rattle.rpc_msg.specs.CapAt.TheVariants.{Cap, Null, NotCap}
use Rattle.finite_maps.specs.Tally.{Map}
use Rattle.rpc_msg.specs.declared.ids.Vat.{Vat}
use Rattle.rpc_msg.specs.declared.parts.Descriptor.{Descriptor}
use Rattle.rpc_msg.specs.declared.parts.Descriptor.TheVariants as descriptor
use Rattle.rpc_msg.specs.declared.message.ResolvedTo.{ResolvedTo}
use Rattle.rpc_msg.specs.declared.message.ResolvedTo.TheVariants as resolved
use Rattle.rpc_msg.specs.declared.message.ReturnBody.{ReturnBody}
use Rattle.rpc_msg.specs.declared.message.ReturnBody.TheVariants as body
use Rattle.rpc_msg.specs.declared.message.PlainMessage.{PlainMessage}
use Rattle.rpc_msg.specs.declared.message.PlainMessage.TheVariants as plain
use Rattle.rpc_msg.specs.declared.message.Message.{Message}
use Rattle.rpc_msg.specs.declared.message.Message.TheVariants as message
use Rattle.rpc_msg.specs.Messages.{given, descriptors_of}
use Rattle.rpc_msg.specs.Paths.{fields}
use Rattle.rpc_msg.specs.Vats.{other_vat}
use Rattle.rpc_machine.specs.Payloads.{cap_at}
use Rattle.rpc_machine.specs.declared.entries.Export.{Export}
use Rattle.rpc_machine.specs.declared.entries.Finishing.{Finishing}
use Rattle.rpc_machine.specs.declared.entries.Finishing.TheVariants as finishing
use Rattle.rpc_machine.specs.declared.entries.Import.{Import}
use Rattle.rpc_machine.specs.declared.entries.Question.{Question}
use Rattle.rpc_machine.specs.declared.command.Level.TheVariants.{One}
use Rattle.rpc_machine.specs.State.{State}
use Rattle.rpc_machine.specs.Descriptors.{export_node}
use Rattle.rpc_machine.specs.Advancing.{Known, NothingYet, IsBroken, Leads, known_by_resolve, known_by_return, resolution_of, returned_of}
use Rattle.laws_order.specs.Machine.{Net}
use Rattle.laws_order.specs.Machine as routing
use Rattle.laws_routes.specs.Points.{Point, AField, vat_of, routes}
use Rattle.laws_routes.specs.Ghosts.{Ghost, point}
use Rattle.laws_routes.specs.Views.{past_one, sessions_at}

-- Of the point w of a wire it is said that it leads to that point, by such a descriptor. It says *stop*, and not where a
-- node settles: two promises may settle to one wire and stop at different points, and no head may change from one to the
-- other. What a sender kind names is at the vat of w.
abbrev pub IsSaid : Net routes → Point → Descriptor → Point → Type 0
IsSaid n w descriptor.None to = n.kind (n.stop w) ≡ routing.Broken
IsSaid n w (descriptor.SenderHosted e) to = (n.stop to ≡ n.stop w) × (vat_of to ≡ vat_of w)
IsSaid n w (descriptor.SenderPromise e) to = (n.stop to ≡ n.stop w) × (vat_of to ≡ vat_of w)
IsSaid n w (descriptor.ReceiverHosted e) to = n.kind (n.stop w) ≡ routing.Exit to
IsSaid n w (descriptor.ReceiverAnswer q path) to = n.kind (n.stop w) ≡ routing.Exit to

-- What is known of a wire is so.
abbrev pub IsKnown : Vat → Ghost → Net routes → Point → Known → Type 0
IsKnown v g n w NothingYet = Unit {0}
IsKnown v g n w (IsBroken reason) = n.kind (n.stop w) ≡ routing.Broken
IsKnown v g n w (Leads said to) = IsSaid n w said (point v g to)

-- Of what is kept with an import, and with a returned question.
abbrev pub KnownIsSo : Vat → State → Ghost → Net routes → Type 0
KnownIsSo v s g n =
    ((e : ℕ) → IsKnown v g n (g.import e) (known_by_resolve (resolution_of (map.get s.imports e))))
    × ((q : ℕ) (path : List Op) → IsKnown v g n (AField (other_vat v) (g.session q) path) (known_by_return path (returned_of (map.get s.questions q))))

-- Stops alone: what is said of wires reads no more of the machine of routes.
abbrev pub bare : Net routes → Net routes
bare n = record { stop = n.stop; kind = n.kind; waiting = λ g. []; links = λ b. [] }

-- A level 0 vat reads each descriptor as none, and refuses to advance.
abbrev pub KnownAt : Vat → State → Ghost → Net routes → Type 0
KnownAt v s g n = s.level ≡ One → KnownIsSo v s g (bare n)

-- ---- On the way from v to u, as u will read it

-- What a descriptor in a message from v stands for: its own exports by their nodes, those of u likewise, and the answers of
-- u by the sessions so far.
abbrev pub descriptor_point : (v : Vat) → Map Export → Ghost → (u : Vat) → Map Export → Ghost → (ℕ → ℕ) → Descriptor → Point
descriptor_point v E g u F f now descriptor.None = point v g (export_node None)
descriptor_point v E g u F f now (descriptor.SenderHosted e) = point v g (export_node (map.get E e.0))
descriptor_point v E g u F f now (descriptor.SenderPromise e) = point v g (export_node (map.get E e.0))
descriptor_point v E g u F f now (descriptor.ReceiverHosted e) = point u f (export_node (map.get F e.0))
descriptor_point v E g u F f now (descriptor.ReceiverAnswer q path) = AField u (now q.0) (fields path)

abbrev pub SaidOfExport : Net routes → Vat → Ghost → Option Export → (Descriptor → Point) → ResolvedTo → Type 0
SaidOfExport n v g None read to = Unit {0}
SaidOfExport n v g (Some x) read (resolved.Cap d) = IsSaid n (point v g x.node) d (read d)
SaidOfExport n v g (Some x) read (resolved.Exception exception) = n.kind (n.stop (point v g x.node)) ≡ routing.Broken

-- A Resolve says it of an import that the receiver has when the Resolve comes. Of another nothing is said: the sender may
-- have given the id to another node since. A Return says it of a question whose Finish was not sent.
abbrev pub SaidIfThere : Bool → Type 0 → Type 0
SaidIfThere true said = said
SaidIfThere false said = Unit {0}

abbrev pub SaidAt : Net routes → Point → (Descriptor → Point) → List Descriptor → ℕ → Type 0
SaidAt n w read [] i = n.kind (n.stop w) ≡ routing.Broken
SaidAt n w read (d ∷ ds) zero = IsSaid n w d (read d)
SaidAt n w read (d ∷ ds) (suc i) = SaidAt n w read ds i

abbrev pub SaidOfCap : Net routes → Point → (Descriptor → Point) → List Descriptor → CapAt → Type 0
SaidOfCap n w read ds (Cap i) = SaidAt n w read ds i
SaidOfCap n w read ds Null = n.kind (n.stop w) ≡ routing.Broken
SaidOfCap n w read ds NotCap = n.kind (n.stop w) ≡ routing.Broken

-- A Return says it at each path. A canceled one says nothing: nobody asks for it any more.
abbrev pub SaidOfAnswer : Net routes → Vat → ℕ → (Descriptor → Point) → ReturnBody → Type 0
SaidOfAnswer n v i read (body.Results payload ds) = (path : List Op) → SaidOfCap n (AField v i path) read ds (cap_at payload path)
SaidOfAnswer n v i read (body.Exception exception) = (path : List Op) → n.kind (n.stop (AField v i path)) ≡ routing.Broken
SaidOfAnswer n v i read body.Canceled = Unit {0}

-- Of which export ids of the sender the receiver has an import, and which of its questions are not finished.
pub record Has : Type 0 where
  pub import : ℕ → Bool
  pub question : ℕ → Bool

abbrev pub not_sent : Finishing → Bool
not_sent finishing.Owed = true
not_sent finishing.Sent = false
not_sent finishing.Waived = true

abbrev pub is_waiting : Option Question → Bool
is_waiting None = false
is_waiting (Some x) = not_sent x.finish

abbrev pub is_among : ℕ → List ℕ → Bool
is_among e [] = false
is_among e (i ∷ is) = nat_eq e i || is_among e is

-- While it takes descriptors, those ids count that are still coming.
abbrev pub has_of : List ℕ → Map Import → Map Question → Has
has_of coming imports questions = record { import = λ e. is_among e coming || is_some (map.get imports e); question = λ q. is_waiting (map.get questions q) }

-- What it has behind a message that it takes.
abbrev pub has_behind : Has → List Descriptor → Has
has_behind has ds = record { import = λ e. is_among e (given ds) || has.import e; question = has.question }

abbrev pub SaidBy : Net routes → (v : Vat) → Map Export → Ghost → (u : Vat) → Map Export → Ghost → Has → (ℕ → ℕ) → PlainMessage → Type 0
SaidBy n v E g u F f has now (plain.Resolve r) = SaidIfThere (has.import r.promise.0) (SaidOfExport n v g (map.get E r.promise.0) (descriptor_point v E g u F f now) r.to)
SaidBy n v E g u F f has now (plain.Return r) = SaidIfThere (has.question r.answer.0) (SaidOfAnswer n v (f.session r.answer.0) (descriptor_point v E g u F f now) r.body)
SaidBy n v E g u F f has now m = Unit {0}

-- All but a Call, a Bootstrap and a Disembargo. Of these none comes back Unimplemented.
abbrev pub IsSilentPlain : PlainMessage → Type 0
IsSilentPlain (plain.Abort exception) = Unit {0}
IsSilentPlain (plain.Bootstrap q) = ⊥
IsSilentPlain (plain.Call c) = ⊥
IsSilentPlain (plain.Return r) = Unit {0}
IsSilentPlain (plain.Finish x) = Unit {0}
IsSilentPlain (plain.Resolve r) = Unit {0}
IsSilentPlain (plain.Release r) = Unit {0}
IsSilentPlain (plain.Disembargo x) = ⊥
IsSilentPlain (plain.Other n) = Unit {0}

-- All that is on the way from v to u.
abbrev pub AllSaid : Net routes → (v : Vat) → Map Export → Ghost → (u : Vat) → Map Export → Ghost → Has → (ℕ → ℕ) → List Message → Type 0
AllSaid n v E g u F f has now [] = Unit {0}
AllSaid n v E g u F f has now (message.Plain m ∷ ms) =
    SaidBy n v E g u F f has now m × AllSaid n v E g u F f (has_behind has (descriptors_of (message.Plain m))) (past_one g now (message.Plain m)) ms
AllSaid n v E g u F f has now (message.Unimplemented m ∷ ms) = IsSilentPlain m × AllSaid n v E g u F f has now ms

-- Of the vats v and u as they are, with ms on the way from v to u, which is taking descriptors of those ids.
abbrev pub SaidOn : Net routes → (v : Vat) → State → Ghost → (u : Vat) → State → Ghost → List ℕ → List Message → Type 0
SaidOn n v s g u t f coming ms = AllSaid (bare n) v s.exports g u t.exports f (has_of coming t.imports t.questions) (sessions_at f.outcome t.answers) ms
