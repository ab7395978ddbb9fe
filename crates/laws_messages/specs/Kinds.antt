-- The kinds in which exports are given, and the node that each keeps.
use Rattle.std.specs.Prelude.{◌≡◌, ℕ, ◌+◌, Option, None, Some, List, [], ◌∷◌}
use Rattle.std.specs.FinMap as map
use Rattle.rpc_msg.specs.declared.message.PlainMessage.{PlainMessage}
use Rattle.rpc_machine.specs.declared.node.Node.{Node}
use Rattle.rpc_machine.specs.declared.node.Node.TheVariants as node
use Rattle.rpc_machine.specs.declared.entries.Export.{Export}
use Rattle.rpc_machine.specs.Progress.{Progress}
use Rattle.laws_acts.specs.Acts.{Acts, Consumes}
use Rattle.laws_acts.specs.Sent.{all_sent, sent_at_once}
use Rattle.laws_runs.specs.Exports as export
use Rattle.laws_runs.specs.Exports.{Kind, Out}
use Rattle.laws_messages.specs.Views.{outs_for}

-- Only an object, an own promise and a field are given as exports.
abbrev pub kind_given : Node → Option Kind
kind_given (node.Object o) = Some export.Hosted
kind_given (node.Promise p) = Some export.Promised
kind_given (node.Field o path) = Some export.Promised
kind_given (node.Import e) = None
kind_given (node.Pipe q path) = None
kind_given (node.Broken reason) = None

abbrev pub IsOf : Node → Option Export → Type 0
IsOf n None = Unit {0}
IsOf n (Some x) = x.node ≡ n

abbrev pub one_more : Node → Option Export → Export
one_more n None = record { node = n; count = 1 }
one_more n (Some x) = record { node = n; count = x.count + 1 }

-- Each descriptor is of its node's kind, and adds one to the entry of that node.
abbrev pub Grows : Option Export → List Out → Option Export → Type 0
Grows x [] last = x ≡ last
Grows x (export.Give k ∷ ms) last = (n : Node) × (kind_given n ≡ Some k) × IsOf n x × Grows (Some (one_more n x)) ms last
Grows x (export.Resolve ∷ ms) last = Grows x ms last

-- Of a message: the entry stays, with a lower count, or goes.
abbrev pub Stays : Option Export → Option Export → Type 0
Stays None y = y ≡ None
Stays (Some x) None = Unit {0}
Stays (Some x) (Some y) = y.node ≡ x.node

pub record ExportsKeepNodes : Type 0 where
  pub acts : (last d : Progress) (list : Acts last d) (e : ℕ) → Grows (map.get d.state.exports e) (outs_for e (all_sent list)) (map.get last.state.exports e)
  pub consumes : (d first : Progress) (m : PlainMessage) (h : Consumes m d first) (e : ℕ) → Stays (map.get d.state.exports e) (map.get first.state.exports e) × (outs_for e (sent_at_once d first m h) ≡ [])
