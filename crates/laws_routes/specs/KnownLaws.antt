-- What is proved of what is known of wires: it stays so as entries go, and as ids, keys and identities are given; and of what
-- is said of them on the way.
use Rattle.std.specs.Prelude.{◌≡◌, ℕ, nat_eq, true, false, None, Some, List, [], ◌∷◌, ◌++◌}
use Rattle.std.specs.FinMap as map
use Rattle.finite_maps.specs.Tally.{Map}
use Rattle.rpc_msg.specs.declared.ids.Vat.{Vat}
use Rattle.rpc_msg.specs.declared.parts.Descriptor.{Descriptor}
use Rattle.rpc_msg.specs.declared.message.PlainMessage.{PlainMessage}
use Rattle.rpc_msg.specs.declared.message.Message.{Message}
use Rattle.rpc_msg.specs.declared.message.Message.TheVariants as message
use Rattle.rpc_msg.specs.Messages.{descriptors_of}
use Rattle.rpc_machine.specs.declared.entries.Export.{Export}
use Rattle.rpc_machine.specs.declared.entries.Question.{Question}
use Rattle.rpc_machine.specs.declared.entries.SenderKind.{SenderKind}
use Rattle.rpc_machine.specs.State.{State}
use Rattle.rpc_machine.specs.Nodes.{is_field, is_import, is_pipe, is_promise}
use Rattle.rpc_machine.specs.Progress.{Progress}
use Rattle.rpc_machine.specs.Descriptors.{export_node, import_one, take_all}
use Rattle.rpc_machine.specs.Sweeping.{Sweeps}
use Rattle.laws_order.specs.Machine.{Net}
use Rattle.laws_routes.specs.Points.{Point, routes}
use Rattle.laws_routes.specs.Ghosts.{Ghost, point, asked, holding, importing, keeping}
use Rattle.laws_routes.specs.Premises.{EachOpen}
use Rattle.laws_routes.specs.QuietLaws.{NoneNames}
use Rattle.laws_routes.specs.Views.{past}
use Rattle.laws_routes.specs.Sayings.{AllSaid, Has, KnownIsSo, SaidBy, has_behind, has_of}
use Rattle.laws_routes.specs.Named.{AllMet, AllNamed, EachReturn, NoneLeads}

-- At the end of a step.
abbrev pub KnownAtEnds : Type 0
KnownAtEnds = (v : Vat) (g : Ghost) (n : Net routes) (d new : Progress) → Sweeps d new → KnownIsSo v d.state g n → KnownIsSo v new.state g n

-- As a question with the free id q is asked.
abbrev pub KnownAsAsked : Type 0
KnownAsAsked =
    (v : Vat) (s : State) (g : Ghost) (n : Net routes) (q i : ℕ) (exports : Map Export) (x : Question) → map.get s.questions q ≡ None → x.returned ≡ None → NoneLeads s (is_pipe q) → KnownIsSo v s g n
    → KnownIsSo v (record s { exports = exports; questions = map.insert s.questions q x }) (asked g q i) n

-- As an outcome gets an identity, or a promise does.
abbrev pub KnownAsKept : Type 0
KnownAsKept = (v : Vat) (s : State) (g : Ghost) (n : Net routes) (o i : ℕ) → NoneLeads s (is_field o) → KnownIsSo v s g n → KnownIsSo v s (keeping g o i) n

abbrev pub KnownAsHeld : Type 0
KnownAsHeld = (v : Vat) (s : State) (g : Ghost) (n : Net routes) (p i : ℕ) → NoneLeads s (is_promise p) → KnownIsSo v s g n → KnownIsSo v s (holding g p i) n

-- As a new import comes.
abbrev pub KnownAsImported : Type 0
KnownAsImported =
    (v : Vat) (s : State) (g : Ghost) (n : Net routes) (kind : SenderKind) (e : ℕ) (x : Point) → map.get s.imports e ≡ None → NoneLeads s (is_import e) → KnownIsSo v s g n → KnownIsSo v (import_one s kind e) (importing g e x) n

-- ---- What is on its way

-- Which imports the receiver has behind these messages.
abbrev pub has_past : Has → List Message → Has
has_past has [] = has
has_past has (message.Plain m ∷ ms) = has_past (has_behind has (descriptors_of (message.Plain m))) ms
has_past has (message.Unimplemented m ∷ ms) = has_past has ms

-- A message that is sent is behind all the others.
abbrev pub SaidIsSent : Type 0
SaidIsSent =
    (n : Net routes) (v : Vat) (E : Map Export) (g : Ghost) (u : Vat) (F : Map Export) (f : Ghost) (has : Has) (now : ℕ → ℕ) (ms : List Message) (m : PlainMessage) → AllSaid n v E g u F f has now ms
    → SaidBy n v E g u F f (has_past has ms) (past g now ms) m → AllSaid n v E g u F f has now (ms ++ message.Plain m ∷ [])

-- Where the receiver lets imports and questions go, what is on its way stays so.
abbrev pub SaidOfFewer : Type 0
SaidOfFewer =
    (n : Net routes) (v : Vat) (E : Map Export) (g : Ghost) (u : Vat) (F : Map Export) (f : Ghost) (has left : Has) (now : ℕ → ℕ) (ms : List Message) → ((e : ℕ) → left.import e ≡ true → has.import e ≡ true) → EachReturn (λ q. left.question q ≡ true → has.question q ≡ true) ms
    → AllSaid n v E g u F f has now ms → AllSaid n v E g u F f left now ms

-- Where it takes descriptors, it has behind them what it was to have.
abbrev pub SaidAsTaken : Type 0
SaidAsTaken =
    (n : Net routes) (v : Vat) (E : Map Export) (g : Ghost) (u : Vat) (F : Map Export) (f : Ghost) (s : State) (ds : List Descriptor) (now : ℕ → ℕ) (ms : List Message) → AllSaid n v E g u F f (has_behind (has_of [] s.imports s.questions) ds) now ms
    → AllSaid n v E g u F f (has_of [] (take_all s ds).imports s.questions) now ms

-- Each export that was there is there, and of the same node.
abbrev pub StillThere : Map Export → Map Export → Type 0
StillThere E F = (e : ℕ) (x : Export) → map.get E e ≡ Some x → (y : Export) × (map.get F e ≡ Some y) × (y.node ≡ x.node)

-- As exports are added, of either vat, what is on its way stays so.
abbrev pub SaidAsExported : Type 0
SaidAsExported =
    (n : Net routes) (v : Vat) (E E' : Map Export) (g : Ghost) (u : Vat) (F F' : Map Export) (f : Ghost) (has : Has) (now : ℕ → ℕ) (ms : List Message) → StillThere E E' → StillThere F F' → AllMet E F has ms
    → AllSaid n v E g u F f has now ms → AllSaid n v E' g u F' f has now ms

-- Each export stands for what it stood for.
abbrev pub SamePoints : Vat → Ghost → Ghost → Map Export → Type 0
SamePoints v g f E = (e : ℕ) → point v f (export_node (map.get E e)) ≡ point v g (export_node (map.get E e))

-- As ids and identities are given, of either vat, what is on its way stays so, if no export changes by that, and no session of
-- a question that is asked or answered on the way.
abbrev pub SaidAsGiven : Type 0
SaidAsGiven =
    (n : Net routes) (v : Vat) (E : Map Export) (g g' : Ghost) (u : Vat) (F : Map Export) (f f' : Ghost) (has : Has) (now : ℕ → ℕ) (ms : List Message) → SamePoints v g g' E → SamePoints u f f' F
    → EachOpen (λ k. g'.session k ≡ g.session k) ms → EachReturn (λ k. f'.session k ≡ f.session k) ms → AllSaid n v E g u F f has now ms → AllSaid n v E g' u F f' has now ms

-- As exports go, of either vat, what is on its way stays so, if none goes that a descriptor names there.
abbrev pub SaidAsLowered : Type 0
SaidAsLowered =
    (n : Net routes) (v : Vat) (E E' : Map Export) (g : Ghost) (u : Vat) (F F' : Map Export) (f : Ghost) (has : Has) (now : ℕ → ℕ) (ms : List Message) → StillThere E' E → StillThere F' F → AllNamed E' F' ms
    → AllSaid n v E g u F f has now ms → AllSaid n v E' g u F' f has now ms

-- As the answer q closes, what is on its way stays so.
abbrev pub SaidAsClosed : Type 0
SaidAsClosed =
    (n : Net routes) (v : Vat) (E : Map Export) (g : Ghost) (u : Vat) (F : Map Export) (f : Ghost) (has : Has) (q : ℕ) (now then : ℕ → ℕ) (ms : List Message) → ((k : ℕ) → nat_eq k q ≡ false → then k ≡ now k) → NoneNames q ms
    → AllSaid n v E g u F f has now ms → AllSaid n v E g u F f has then ms
