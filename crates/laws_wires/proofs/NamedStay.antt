-- What is named on the way is as it was, behind a step.
use Rattle.std.specs.FinMap as map
use Rattle.std.proofs.Common.{◌≡◌, ℕ, Bool, true, false, List, [], ◌∷◌, Some, IsSome, refl, sym, subst, ◌∙◌}
use Rattle.finite_maps.specs.Tally.{Map}
use Rattle.rpc_msg.specs.declared.message.Finish.{Finish}
use Rattle.rpc_msg.specs.declared.message.Message.{Message}
use Rattle.rpc_msg.specs.declared.message.Message.TheVariants as message
use Rattle.rpc_msg.specs.declared.message.PlainMessage.{PlainMessage}
use Rattle.rpc_msg.specs.declared.message.PlainMessage.TheVariants as plain
use Rattle.rpc_msg.specs.declared.message.Release.{Release}
use Rattle.rpc_msg.specs.declared.message.Return.{Return}
use Rattle.rpc_msg.specs.declared.parts.Descriptor.{Descriptor}
use Rattle.rpc_msg.specs.Messages.{descriptors_of, descriptors_of_body}
use Rattle.rpc_journal.specs.Meaning.{History}
use Rattle.rpc_machine.specs.declared.command.Command.{Command}
use Rattle.rpc_machine.specs.declared.command.Granted.{Granted}
use Rattle.rpc_machine.specs.declared.command.Level.{Level}
use Rattle.rpc_machine.specs.declared.command.Level.TheVariants.{One, Zero}
use Rattle.rpc_machine.specs.declared.entries.AnswerEntry.{AnswerEntry}
use Rattle.rpc_machine.specs.declared.entries.Export.{Export}
use Rattle.rpc_machine.specs.declared.entries.Import.{Import}
use Rattle.rpc_machine.specs.declared.entries.Question.{Question}
use Rattle.rpc_machine.specs.declared.node.Node.{Node}
use Rattle.rpc_machine.specs.State.{State}
use Rattle.rpc_machine.specs.Descriptors.{take_all, take_at}
use Rattle.rpc_machine.specs.Faults.{gave}
use Rattle.rpc_machine.specs.Flags.{lower_by, lower_each, obey}
use Rattle.rpc_machine.specs.Nodes.{settle}
use Rattle.rpc_machine.specs.Progress.{numbers}
use Rattle.laws_acts.specs.FirstActs.{Starts}
use Rattle.laws_acts.specs.FirstActs as first
use Rattle.laws_acts.specs.GoingOut.{GoOut}
use Rattle.laws_acts.specs.MessageActs.{Back, Brings, ByEchoedCall, ByEchoedRoot, ByReturn, Consumes}
use Rattle.laws_acts.specs.MessageActs as taken
use Rattle.laws_acts.specs.Moments.{Moment, beginning}
use Rattle.laws_acts.proofs.Alone.{all_alone}
use Rattle.laws_routes.specs.KnownLaws.{StillThere}
use Rattle.laws_routes.specs.Midway.{Midway}
use Rattle.laws_routes.specs.QuietLaws.{MayLower, lowering}
use Rattle.laws_routes.specs.Received.{IfAnswer, IfQuestion, IsMet}
use Rattle.laws_routes.proofs.ExportsGrown.{Grown, none_grown}
use Rattle.laws_routes.proofs.ExportsLowered.{Lowered, by_lowered, each_lowered}
use Rattle.laws_routes.proofs.MidwayTaken as midway
use Rattle.laws_routes.proofs.MidwayTaken.{lowered_still}
use Rattle.laws_routes.proofs.SayingsCarried.{all_there}
use Rattle.laws_messages.proofs.Oldest.{same_plain}
use Rattle.laws_meanings.specs.NodeLabels.{Labels, label}
use Rattle.laws_wires.specs.SceneWires.{CommandsKeepNamed, MessagesKeepNamed}
use Rattle.laws_wires.proofs.SentSo.{goes_so, grown_on}
use Rattle.laws_acts.proofs.Walked.{not_plain}

-- ---- The first act of a command adds exports

module _ (h : History) (l : Labels) (s : State) where
  gone_out : (E : Map Export) (ns : List Node) (ds : List Descriptor) (F : Map Export) → GoOut s E ns ds F → Grown E F
  gone_out E [] [] F g = subst (Grown E) (sym g) (none_grown E)
  gone_out E [] (d ∷ ds) F g = absurd g
  gone_out E (n ∷ ns) [] F g = absurd g
  gone_out E (n ∷ ns) (d ∷ ds) F g = let one = goes_so h s.vat l E (settle s n) d g.0 g.1 in grown_on E g.0 F one.grown (gone_out g.0 ns ds F g.2)

  started : (c : Command) (g : Granted) (d : Moment) → Starts (beginning s) c g d → StillThere s.exports d.state.exports
  started c g d (first.Hosts o e a u) = rw u (all_there s.exports)
  started c g d (first.Clones r x e f a u) = rw u (all_there s.exports)
  started c g d (first.Drops r x e f a u) = rw u (all_there s.exports)
  started c g d (first.AsksRoot q e f a u) = rw u (all_there s.exports)
  started c g d (first.CallsOut k x q t ds es e f j n o r a u) = let out = gone_out s.exports _ ds es r in rw u (λ i y f. out.still i y f)
  started c g d (first.CallsHere k x o e f j n r a u) = rw u (all_there s.exports)
  started c g d (first.CallsLater k x o q b e f j n r a u) = rw u (all_there s.exports)
  started c g d (first.NamesField k path from e f a u) = rw u (all_there s.exports)
  started c g d (first.Promises p e f a u) = rw u (all_there s.exports)
  started c g d (first.Fixes p r x key calls e f j n a u) = rw u (all_there s.exports)
  started c g d (first.Rejects p why key calls e f j a u) = rw u (all_there s.exports)
  started c g d (first.Answers t payload refs o e f a u) = rw u (all_there s.exports)
  started c g d (first.Fails t why o e f a u) = rw u (all_there s.exports)
  started c g d (first.Finishes k from e f a u) = rw u (all_there s.exports)
  started c g d (first.StaysPut r x e f a u) = rw u (all_there s.exports)
  started c g d (first.Breaks r x reason e f i j a u) = rw u (all_there s.exports)
  started c g d (first.Switches r x by n e f i j k m a u) = rw u (all_there s.exports)
  started c g d (first.Turns r x by n t q e f i j k m o b a u) = rw u (all_there s.exports)

-- ---- The exports that a message leaves

nothing : (l : Level) (t : State) → t ≡ record t { imports = (take_at l t []).imports }
nothing Zero t = refl
nothing One t = refl

none_taken : (t : State) → t ≡ record t { imports = (take_all t []).imports }
none_taken t = nothing t.level t

record Leaves (s other : State) (I : Map Import) (out rest : List Message) (E : Map Export) : Type 0 where
  was : Lowered s.exports E
  midway : Midway (record s { imports = I; exports = E }) other out rest
  imported : (e : ℕ) → IsSome (map.get other.imports e) → IsSome (map.get E e)

module _ (s other : State) (out rest : List Message) (level : s.level ≡ One) (exported : (e : ℕ) → IsSome (map.get other.imports e) → IsSome (map.get s.exports e)) where
  abbrev imports_of : PlainMessage → Map Import
  imports_of x = (take_all s (descriptors_of (message.Plain x))).imports

  abbrev LeavesOf : PlainMessage → Map Export → Type 0
  LeavesOf x E = Leaves s other (imports_of x) out rest E

  module _ (x : PlainMessage) (mid : Midway s other out (message.Plain x ∷ rest)) where
    base : Midway (record s { imports = imports_of x }) other out rest
    base = subst (λ (z : State). Midway z other out rest) (all_alone s (descriptors_of (message.Plain x))) (midway.taken s other out x rest mid level)

    all_left : LeavesOf x s.exports
    all_left = record { was = all_there s.exports; midway = base; imported = exported }

    fewer : (E : Map Export) → Lowered s.exports E → MayLower (record s { imports = imports_of x; exports = E }) other out rest → LeavesOf x E
    fewer E low may = record { was = low; midway = lowered_still (record s { imports = imports_of x }) other out rest E base low may; imported = may.imported }

    obeyed : (flag : Bool) (ids : List ℕ) → MayLower (obey (record s { imports = imports_of x }) flag ids) other out rest → LeavesOf x (obey s flag ids).exports
    obeyed true ids may = fewer (lower_each s.exports ids) (each_lowered s.exports ids) may
    obeyed false ids may = all_left

    same : (E : Map Export) → E ≡ s.exports → LeavesOf x E
    same E e = subst (LeavesOf x) (sym e) all_left

  -- Of a message that is as it was to be.
  abbrev LeavesIf : Map Export → PlainMessage → Type 0
  LeavesIf E x = Midway s other out (message.Plain x ∷ rest) → IsMet s other out rest x → LeavesOf x E

  by_return : (r : Return) (y : Question) → map.get s.questions r.answer.0 ≡ Some y → LeavesIf (obey s r.release_param_caps (numbers y.given)).exports (plain.Return r)
  by_return r y there mid met =
      let at = subst (IfQuestion s other out rest r) there met in
      let may = subst (λ (t : State). MayLower (obey t r.release_param_caps (numbers y.given)) other out rest) (all_alone s (descriptors_of_body r.body)) at.lowers in
      obeyed (plain.Return r) mid r.release_param_caps (numbers y.given) may

  by_finish : (f : Finish) (a : AnswerEntry) → map.get s.answers f.question.0 ≡ Some a → LeavesIf (obey s f.release_result_caps (gave a.returned)).exports (plain.Finish f)
  by_finish f a there mid met =
      let at = subst (IfAnswer s other out rest f) there met in
      let may = subst (λ (t : State). MayLower (obey t f.release_result_caps (gave a.returned)) other out rest) (none_taken s) at.lowers in
      obeyed (plain.Finish f) mid f.release_result_caps (gave a.returned) may

  by_release : (r : Release) → LeavesIf (lower_by s.exports r.export.0 r.count) (plain.Release r)
  by_release r mid met =
      let may = subst (λ (t : State). MayLower (lowering t r.export.0 r.count) other out rest) (none_taken s) met in
      fewer (plain.Release r) mid (lower_by s.exports r.export.0 r.count) (by_lowered s.exports r.export.0 r.count) may

  brings : (x : PlainMessage) (b : Back) (y : Question) → Brings s (message.Plain x) b → map.get s.questions b.question ≡ Some y → LeavesIf (obey s b.flag (numbers y.given)).exports x
  brings x b y (ByReturn r e f) there =
      same_plain (LeavesIf (obey s b.flag (numbers y.given)).exports) x (plain.Return r) e
      (subst (λ (k : Back). LeavesIf (obey s k.flag (numbers y.given)).exports (plain.Return r)) (sym f) (by_return r y (subst (λ (k : Back). map.get s.questions k.question ≡ Some y) f there)))
  brings x b y (ByEchoedRoot q e f) there = not_plain x (plain.Bootstrap q) e
  brings x b y (ByEchoedCall c e f) there = not_plain x (plain.Call c) e

  leaves : (x : PlainMessage) (d : Moment) → Consumes (beginning s) (message.Plain x) d → LeavesIf d.state.exports x
  leaves x d (taken.OpensRoot q o e f i u) = λ mid met. same x mid d.state.exports (rw u refl)
  leaves x d (taken.OpensCall c o e f i u) = λ mid met. same x mid d.state.exports (rw u refl)
  leaves x d (taken.Loses b y e f i j u) = rw u (brings x b y e f)
  leaves x d (taken.ComesToCall b y c e f i j k u) = rw u (brings x b y e f)
  leaves x d (taken.ComesToRelay b y o e f i j k u) = rw u (brings x b y e f)
  leaves x d (taken.IsFinished k a e f i u) = rw u (same_plain (LeavesIf (obey s k.release_result_caps (gave a.returned)).exports) x (plain.Finish k) e (by_finish k a f))
  leaves x d (taken.IsResolved r e u) = λ mid met. same x mid d.state.exports (rw u refl)
  leaves x d (taken.IsReleased r e u) = rw u (same_plain (LeavesIf (lower_by s.exports r.export.0 r.count)) x (plain.Release r) e (by_release r))
  leaves x d (taken.SendsBack t to k e f u) = λ mid met. same x mid d.state.exports (rw u refl)
  leaves x d (taken.Lifts t k b e f u) = λ mid met. same x mid d.state.exports (rw u refl)
  leaves x d (taken.SendsForeign p e f u) = λ mid met. same x mid d.state.exports (rw u refl)
  leaves x d (taken.SendsOther n e u) = λ mid met. same x mid d.state.exports (rw u refl)
  leaves x d (taken.TakesBack r e u) = not_plain x (plain.Resolve r) e
  leaves x d (taken.Ignores r e u) = not_plain x (plain.Release r) e

-- ---- The laws

pub commands_keep_named : CommandsKeepNamed
commands_keep_named h w out back now c g d mid theirs starts kept =
    let met = mid.named in
    let still = started h w.l w.s c g d starts in
    record {
      was = all_there w.s.exports;
      is = λ e x i. (let y = still e x i in let z = kept e x y.0 i y.1 y.2 in (z.0, z.1, z.2));
      means = λ e x i. (let y = still e x i in let z = kept e x y.0 i y.1 y.2 in z.3);
      named = met.0;
      aimed = theirs.met;
      named_back = met.1;
      aimed_back = mid.met;
      imported = theirs.imported;
    }

pub messages_keep_named : MessagesKeepNamed
messages_keep_named h w out rest now x d mid theirs level met consumes kept =
    let left = leaves w.s w.z out rest level theirs.imported x d consumes mid met in
    let between = left.midway in
    let named = between.named in
    record {
      was = left.was;
      is = λ e y i. (let x = left.was e y i in let z = kept e x.0 y x.1 i (sym x.2) in (z.0, z.1, z.2 ∙ x.2));
      means = λ e y i. (let x = left.was e y i in let z = kept e x.0 y x.1 i (sym x.2) in subst (λ (n : Node). label h w.v w.m n ≡ label h w.v w.l n) x.2 z.3);
      named = named.0;
      aimed = theirs.met;
      named_back = named.1;
      aimed_back = between.met;
      imported = left.imported;
    }
