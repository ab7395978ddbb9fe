-- What is proved of what is said to the other vat: messages that are nothing in the machine of routes, the descriptors in
-- them, and Resolves.
use Rattle.std.specs.Prelude.{◌≡◌, ℕ, false, Some, Option, List, [], ◌∷◌, ◌++◌}
use Rattle.std.specs.FinMap as map
use Rattle.rpc_msg.specs.declared.parts.Descriptor.{Descriptor}
use Rattle.rpc_msg.specs.declared.exception.Exception.{Exception}
use Rattle.rpc_msg.specs.declared.message.Message.{Message}
use Rattle.rpc_msg.specs.declared.message.Message.TheVariants as message
use Rattle.rpc_msg.specs.Messages.{given}
use Rattle.rpc_msg.specs.declared.ids.QuestionId.{QuestionId}
use Rattle.rpc_machine.specs.declared.node.Node.{Node}
use Rattle.rpc_machine.specs.declared.calls.Value.{Value}
use Rattle.rpc_machine.specs.declared.entries.AnswerEntry.{AnswerEntry}
use Rattle.rpc_machine.specs.State.{State}
use Rattle.rpc_machine.specs.Progress.{Progress, with_state}
use Rattle.rpc_machine.specs.Descriptors.{DescribesAll, take_all}
use Rattle.rpc_machine.specs.Settling.{ResolvesEach, Returns}
use Rattle.laws_order.specs.Machine as routing
use Rattle.laws_routes.specs.Points.{routes}
use Rattle.laws_routes.specs.Ties.{Around, Ghosts, Tied, TiedBy}
use Rattle.laws_routes.specs.Premises.{EachMayTake, ExportsAreOwn, TargetsAreMet}
use Rattle.laws_routes.specs.Named.{LinksMet}
use Rattle.laws_routes.specs.Sayings.{IsSilentPlain, SaidBy, bare, has_of}
use Rattle.laws_routes.specs.KnownLaws.{has_past}
use Rattle.laws_routes.specs.Views.{past, sessions_at}
use Rattle.rpc_msg.specs.Vats.{other_vat}
use Rattle.rpc_machine.specs.Nodes.{value_of}
use Rattle.laws_routes.specs.SayingLaws.{AllMaySend, MaySayBack}
use Rattle.laws_routes.specs.Laws.{IsFollowed, with_back}

-- A message that is nothing in the machine of routes.
abbrev pub IsSilent : Message → Type 0
IsSilent (message.Plain m) = IsSilentPlain m
IsSilent (message.Unimplemented m) = IsSilentPlain m

abbrev pub sending : Progress → Message → Progress
sending d x = record d { effects = record (d.effects) { sends = d.effects.sends ++ x ∷ [] } }

-- What a message says is so: a Resolve, or a Return.
abbrev pub SaysSo : Around → Progress → Ghosts → routing.State routes → Message → Type 0
SaysSo w d g m (message.Plain x) =
    SaidBy (bare m.net) w.vat d.state.exports g.own (other_vat w.vat) w.other.exports g.theirs (has_past (has_of [] w.other.imports w.other.questions) (w.out ++ d.effects.sends)) (past g.own (sessions_at g.theirs.outcome w.other.answers) (w.out ++ d.effects.sends)) x
SaysSo w d g m (message.Unimplemented x) = Unit {0}

-- Such a message is sent, and the machine of routes does not move.
abbrev pub SilentGoes : Type 0
SilentGoes = (w : Around) (d : Progress) (g : Ghosts) (m : routing.State routes) (x : Message) → Tied w d g m → IsSilent x → SaysSo w d g m x → Tied w (sending d x) g m

-- Such a message is taken from the link.
abbrev pub SilentComes : Type 0
SilentComes = (w : Around) (d : Progress) (g : Ghosts) (m : routing.State routes) (x : Message) (rest : List Message) → Tied (with_back w (x ∷ rest)) d g m → IsSilent x → Tied (with_back w rest) d g m

-- Descriptors are made of these nodes. What is aimed at an export still finds it, and finds what it stood for.
abbrev pub DescriptorsAreMade : Type 0
DescriptorsAreMade =
    (w : Around) (d : Progress) (g : Ghosts) (m : routing.State routes) (ns : List Node) (ds : List Descriptor) (new : State) → Tied w d g m → TargetsAreMet d.state w.back → LinksMet d.state w.other (w.out ++ d.effects.sends) w.back → DescribesAll d.state ns ds new
    → Tied w (with_state d new) g m × TargetsAreMet new w.back × LinksMet new w.other (w.out ++ d.effects.sends) w.back

-- Resolves of these exports are sent, one after the other.
abbrev pub ResolvesAreSent : Type 0
ResolvesAreSent = (w : Around) (d : Progress) (reason : Option Exception) (xs : List (ℕ × Node)) (new : Progress) → (h : ResolvesEach d reason xs new) → AllMaySend w d reason xs new h → IsFollowed w d new

-- The same in all but what imports stand for.
abbrev pub SameButImports : Ghosts → Ghosts → Type 0
SameButImports g f = (f.own.promise ≡ g.own.promise) × (f.own.outcome ≡ g.own.outcome) × (f.own.session ≡ g.own.session) × (f.theirs ≡ g.theirs) × (f.next ≡ g.next)

-- Descriptors are taken that are coming: each import that is new stands for what the other vat exports under its id.
abbrev pub DescriptorsAreTaken : Type 0
DescriptorsAreTaken =
    (w : Around) (d : Progress) (g : Ghosts) (m : routing.State routes) (ds : List Descriptor) → TiedBy w (given ds) d.state d.effects.sends d.effects.deliveries g m → ExportsAreOwn d.state → EachMayTake d.state w.other (given ds)
    → (f : Ghosts) × Tied w (with_state d (take_all d.state ds)) f m × SameButImports g f

-- A Return is sent for an answer whose Finish has not come, with all that this lets go.
abbrev pub ReturnIsSent : Type 0
ReturnIsSent =
    (w : Around) (d : Progress) (q : QuestionId) (a : AnswerEntry) (v : Value) (new : Progress) → map.get d.state.answers q.0 ≡ Some a → a.finished ≡ false → value_of (map.get d.state.outcomes a.outcome) ≡ Some v
    → (h : Returns d q a v new) → MaySayBack w d q a v new h → IsFollowed w d new
