-- What is proved of what vats say of wires: it stays so, a reference may rely on it, and what is received becomes known.
use Rattle.std.specs.Prelude.{◌≡◌, ℕ, Bool, nat_eq, true, false, Option, None, Some, List, [], ◌++◌, IsSome, ◌∷◌}
use Rattle.std.specs.FinMap as map
use Rattle.rpc_msg.specs.declared.ids.Vat.{Vat}
use Rattle.rpc_msg.specs.declared.message.Message.{Message}
use Rattle.rpc_msg.specs.declared.message.ResolvedTo.{ResolvedTo}
use Rattle.rpc_msg.specs.declared.message.ResolvedTo.TheVariants as resolved
use Rattle.rpc_msg.specs.declared.parts.Descriptor.{Descriptor}
use Rattle.rpc_msg.specs.declared.parts.Descriptor.TheVariants as descriptor
use Rattle.rpc_msg.specs.Vats.{other_vat}
use Rattle.rpc_msg.specs.declared.message.ReturnBody.{ReturnBody}
use Rattle.rpc_msg.specs.declared.message.ReturnBody.TheVariants as body
use Rattle.rpc_msg.specs.Messages.{descriptors_of_body}
use Rattle.rpc_msg.specs.Payloads.{Contents as Payload}
use Rattle.rpc_msg.specs.declared.exception.Exception.{Exception}
use Rattle.rpc_machine.specs.declared.calls.Value.TheVariants as value
use Rattle.rpc_machine.specs.declared.command.Level.TheVariants.{One}
use Rattle.rpc_machine.specs.declared.entries.Import.{Import}
use Rattle.rpc_machine.specs.declared.entries.Resolution.{Resolution}
use Rattle.rpc_machine.specs.declared.entries.Resolution.TheVariants as resolution
use Rattle.rpc_machine.specs.Descriptors.{Described, DescribesAll, read}
use Rattle.rpc_machine.specs.declared.entries.Question.{Question}
use Rattle.rpc_machine.specs.Messages.{kept_returned, resolve_import, results_of}
use Rattle.rpc_machine.specs.declared.command.Granted.{Granted}
use Rattle.rpc_machine.specs.declared.entries.Reference.{Reference}
use Rattle.rpc_machine.specs.State.{State}
use Rattle.rpc_machine.specs.Nodes.{link, settle, is_wire, value_of}
use Rattle.rpc_machine.specs.Progress.{Progress}
use Rattle.rpc_machine.specs.Advancing.{Advances}
use Rattle.rpc_machine.specs.declared.node.Node.{Node}
use Rattle.laws_steps.specs.Settled.{IsThere}
use Rattle.laws_order.specs.Machine.{Net}
use Rattle.laws_order.specs.Machine as routing
use Rattle.laws_order.specs.Events.{Fate, settled}
use Rattle.laws_routes.specs.Views.{past, sessions_at}
use Rattle.laws_routes.specs.Points.{Point, Group, vat_of, routes}
use Rattle.laws_routes.specs.Ghosts.{Ghost}
use Rattle.laws_routes.specs.Named.{LinksMet}
use Rattle.rpc_msg.specs.declared.ids.QuestionId.{QuestionId}
use Rattle.finite_maps.specs.Tally.{Map}
use Rattle.rpc_machine.specs.declared.calls.Value.{Value}
use Rattle.rpc_machine.specs.declared.entries.AnswerEntry.{AnswerEntry}
use Rattle.rpc_machine.specs.declared.entries.Export.{Export}
use Rattle.rpc_machine.specs.Settling.{ResolvesEach, Returns, SaysBack}
use Rattle.laws_routes.specs.Premises.{EachOpen, ExportsAreOwn, IsLastLoop, IsWireThere, LinksRest, TargetsAreMet}
use Rattle.laws_routes.specs.Sides.{EndsAs}
use Rattle.laws_routes.specs.Ties.{Around, Ghosts, Tied}
use Rattle.laws_routes.specs.Sayings.{AllSaid, Has, IsSaid, KnownIsSo, SaidOfAnswer, SaidOfExport, bare, descriptor_point}
use Rattle.laws_routes.specs.Laws.{Comes}

-- What is known stays so as a group settles, whatever becomes of it.
abbrev pub KnownStays : Type 0
KnownStays = (n : Net routes) (group : Group) (fate : Point → Fate routes) (v : Vat) (s : State) (g : Ghost) → KnownIsSo v s g (bare n) → KnownIsSo v s g (bare (settled n group fate))

-- So does what is said on the way.
abbrev pub SayingsStay : Type 0
SayingsStay =
    (n : Net routes) (group : Group) (fate : Point → Fate routes) (v : Vat) (E : Map Export) (g : Ghost) (u : Vat) (F : Map Export) (f : Ghost) (has : Has) (now : ℕ → ℕ) (ms : List Message) → AllSaid (bare n) v E g u F f has now ms
    → AllSaid (bare (settled n group fate)) v E g u F f has now ms

-- What a reference needs to take a shorter path.
pub record MayAdvance (w : Around) (d : Progress) (x : Reference) : Type 0 where
  -- else the command is refused
  pub level : d.state.level ≡ One
  pub rest : LinksRest d.state
  pub there : is_wire x.head ≡ false → IsThere d.state x.head
  pub wire : IsWireThere d.state (settle d.state x.head)
  pub theirs : ExportsAreOwn w.other
  -- a new embargo may have any free id
  pub loop : (e : ℕ) → map.get d.state.embargoes e ≡ None → IsLastLoop e (w.out ++ d.effects.sends) w.back

abbrev pub MayAdvanceFrom : Around → Progress → Option Reference → Type 0
MayAdvanceFrom w d None = ⊥
MayAdvanceFrom w d (Some x) = MayAdvance w d x

-- A reference advances, by what is known: it stays, it switches, it turns back, or it breaks.
abbrev pub AdvanceIsFollowed : Type 0
AdvanceIsFollowed =
    (w : Around) (d : Progress) (g : Ghosts) (m : routing.State routes) (r : ℕ) (granted : Granted) (new : Progress) → Tied w d g m → MayAdvanceFrom w d (map.get d.state.refs r)
    → Advances d r (map.get d.state.refs r) granted new → Comes w new m [] []

-- ---- What is sent

-- A descriptor may be made of the node k, where settling stops.
pub record MaySay (w : Around) (s : State) (k : Node) : Type 0 where
  pub stops : link s k ≡ None
  pub there : IsThere s k
  pub wire : IsWireThere s k
  pub theirs : ExportsAreOwn w.other

-- How the other vat will read a descriptor that goes onto the link behind these messages.
abbrev pub will_read : Around → State → List Message → Ghosts → Descriptor → Point
will_read w s out g c = descriptor_point w.vat s.exports g.own (other_vat w.vat) w.other.exports g.theirs (past g.own (sessions_at g.theirs.outcome w.other.answers) out) c

-- The descriptor of where a point's node settles says of that point what is so.
abbrev pub DescriptorSaysSo : Type 0
DescriptorSaysSo =
    (w : Around) (d : Progress) (g : Ghosts) (m : routing.State routes) (x : Point) (k : Node) (said : Descriptor) (new : State) → Tied w d g m → vat_of x ≡ w.vat → EndsAs w.vat g.own m.net x k
    → MaySay w d.state k → Described d.state k said new → IsSaid (bare m.net) x said (will_read w new (w.out ++ d.effects.sends) g said)

-- Descriptors may be made of these nodes, one after the other.
abbrev pub AllMaySay : (w : Around) (s : State) (ns : List Node) (ds : List Descriptor) (new : State) → DescribesAll s ns ds new → Type 0
AllMaySay w s [] [] new h = LinksRest s
AllMaySay w s [] (d ∷ ds) new h = Unit {0}
AllMaySay w s (n ∷ ns) [] new h = Unit {0}
AllMaySay w s (n ∷ ns) (d ∷ ds) new h = LinksRest s × MaySay w s (settle s n) × AllMaySay w h.0 ns ds new h.2

-- The results of a known outcome, with the descriptors of its capabilities, say of each of its fields what is so.
abbrev pub ResultsSaySo : Type 0
ResultsSaySo =
    (w : Around) (d : Progress) (g : Ghosts) (m : routing.State routes) (o : ℕ) (payload : Payload) (caps : List Node) (ds : List Descriptor) (new : State) → Tied w d g m → TargetsAreMet d.state w.back → LinksMet d.state w.other (w.out ++ d.effects.sends) w.back
    → value_of (map.get d.state.outcomes o) ≡ Some (value.Results payload caps) → (h : DescribesAll d.state caps ds new) → AllMaySay w d.state caps ds new h
    → SaidOfAnswer (bare m.net) w.vat (g.own.outcome o) (will_read w new (w.out ++ d.effects.sends) g) (body.Results payload ds)

-- So does its exception: each of its fields is broken.
abbrev pub ExceptionSaysSo : Type 0
ExceptionSaysSo =
    (w : Around) (d : Progress) (g : Ghosts) (m : routing.State routes) (o : ℕ) (exception : Exception) (read : Descriptor → Point) → Tied w d g m
    → value_of (map.get d.state.outcomes o) ≡ Some (value.Exception exception) → LinksRest d.state → SaidOfAnswer (bare m.net) w.vat (g.own.outcome o) read (body.Exception exception)

-- What a Return says may be said: where its answer closes, it says nothing.
abbrev pub MaySayAs : (w : Around) (s : State) (closes : Bool) (v : Value) (said : ReturnBody) (ds : List Descriptor) (new : State) → SaysBack s closes v said ds new → Type 0
MaySayAs w s true v said ds new h = Unit {0}
MaySayAs w s false (value.Exception exception) said ds new h = LinksRest s
MaySayAs w s false (value.Results payload caps) said ds new h = AllMaySay w s caps ds new h.1

-- A Return may be sent for the answer a, which is that to the question q.
pub record MaySayBack (w : Around) (d : Progress) (q : QuestionId) (a : AnswerEntry) (v : Value) (new : Progress) (h : Returns d q a v new) : Type 0 where
  pub met : TargetsAreMet d.state w.back
  pub links : LinksMet d.state w.other (w.out ++ d.effects.sends) w.back
  -- the question is not asked again before
  pub not_open : EachOpen (λ k. nat_eq k q.0 ≡ false) w.back
  pub says : MaySayAs w d.state a.finished v h.0 h.1 h.2 h.3

-- A Resolve of the export e, which is of the node k, may be sent.
pub record MaySend (w : Around) (d : Progress) (e : ℕ) (k : Node) : Type 0 where
  pub met : TargetsAreMet d.state w.back
  pub links : LinksMet d.state w.other (w.out ++ d.effects.sends) w.back
  pub rest : LinksRest d.state
  pub own : is_wire k ≡ false
  pub there : IsThere d.state k
  pub of : (x : Export) × (map.get d.state.exports e ≡ Some x) × (x.node ≡ k)
  pub says : MaySay w d.state (settle d.state k)

-- So may these, one after the other.
abbrev pub AllMaySend : Around → (d : Progress) (reason : Option Exception) (xs : List (ℕ × Node)) (new : Progress) → ResolvesEach d reason xs new → Type 0
AllMaySend w d reason [] new h = Unit {0}
AllMaySend w d reason (x ∷ xs) new h = MaySend w d x.0 x.1 × AllMaySend w h.0 reason xs new h.2

-- ---- What is received

-- What a descriptor names is there to be read.
abbrev pub IsReadable : State → Descriptor → Type 0
IsReadable s descriptor.None = Unit {0}
IsReadable s (descriptor.SenderHosted e) = IsSome (map.get s.imports e.0)
IsReadable s (descriptor.SenderPromise e) = IsSome (map.get s.imports e.0)
IsReadable s (descriptor.ReceiverHosted e) = Unit {0}
IsReadable s (descriptor.ReceiverAnswer q path) = IsSome (map.get s.answers q.0)

abbrev pub IsReadableIn : State → ResolvedTo → Type 0
IsReadableIn s (resolved.Cap d) = IsReadable s d
IsReadableIn s (resolved.Exception exception) = Unit {0}

abbrev pub resolution_by : State → ResolvedTo → Resolution
resolution_by s (resolved.Cap d) = resolution.To d (read s d)
resolution_by s (resolved.Exception exception) = resolution.Exception exception

-- How the vat reads the descriptors of a message that it takes.
abbrev pub reads : Around → State → Ghosts → Descriptor → Point
reads w s g d = descriptor_point (other_vat w.vat) w.other.exports g.theirs w.vat s.exports g.own (sessions_at g.own.outcome s.answers) d

-- What a Resolve said is kept with its import, if that was there, and is known from then on. (Its descriptor was taken before.)
abbrev pub ResolveBecomesKnown : Type 0
ResolveBecomesKnown =
    (w : Around) (d : Progress) (g : Ghosts) (m : routing.State routes) (e : ℕ) (to : ResolvedTo) (before : Option Import) → Tied w d g m → d.state.level ≡ One → IsReadableIn d.state to
    → SaidOfExport (bare m.net) (other_vat w.vat) g.theirs (map.get w.other.exports e) (reads w d.state g) to
    → KnownIsSo w.vat (resolve_import d.state e (resolution_by d.state to) before) g.own (bare m.net)

abbrev pub EachReadable : State → List Descriptor → Type 0
EachReadable s [] = Unit {0}
EachReadable s (d ∷ ds) = IsReadable s d × EachReadable s ds

-- A canceled Return comes only where the Finish was sent, and nothing is kept of it.
abbrev pub IsNotCanceled : ReturnBody → Type 0
IsNotCanceled (body.Results payload ds) = Unit {0}
IsNotCanceled (body.Exception exception) = Unit {0}
IsNotCanceled body.Canceled = ⊥

-- What a Return said is kept with its question, and is known of each path from then on. (Its descriptors were taken before.)
abbrev pub ReturnBecomesKnown : Type 0
ReturnBecomesKnown =
    (w : Around) (d : Progress) (g : Ghosts) (m : routing.State routes) (q : ℕ) (x : Question) (said : ReturnBody) → Tied w d g m → d.state.level ≡ One
    → EachReadable d.state (descriptors_of_body said) → IsNotCanceled said → SaidOfAnswer (bare m.net) (other_vat w.vat) (g.own.session q) (reads w d.state g) said
    → KnownIsSo w.vat (kept_returned d q x (results_of d.state said)).state g.own (bare m.net)
