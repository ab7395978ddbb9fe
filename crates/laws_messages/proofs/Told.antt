-- Each step tells each export that settles, once.
use Rattle.std.proofs.Common.{◌≡◌, inl, inr, ℕ, ◌+◌, true, false, List, [], ◌++◌, Option, None, Some, refl, sym, ap, subst, ◌∙◌, append-nil, arith}
use Rattle.std.specs.FinMap as map
use Rattle.finite_maps.specs.Tally.{Map}
use Rattle.rpc_msg.specs.declared.message.Message.{Message}
use Rattle.rpc_machine.specs.declared.command.Command.{Command}
use Rattle.rpc_machine.specs.declared.command.Granted.{Granted}
use Rattle.rpc_machine.specs.declared.command.Effects.{Effects}
use Rattle.rpc_machine.specs.declared.node.Node.{Node}
use Rattle.rpc_machine.specs.declared.node.Node.TheVariants as node
use Rattle.rpc_machine.specs.declared.node.Reason.TheVariants.{BrokenPromise}
use Rattle.rpc_machine.specs.declared.calls.Promise.TheVariants as promise
use Rattle.rpc_machine.specs.declared.calls.Caller.TheVariants as caller
use Rattle.rpc_machine.specs.declared.calls.KeptOutcome.{KeptOutcome}
use Rattle.rpc_machine.specs.declared.entries.Export.{Export}
use Rattle.rpc_machine.specs.State.{State}
use Rattle.rpc_machine.specs.Nodes.{promise_link, value_of}
use Rattle.rpc_machine.specs.Limits.{export_count}
use Rattle.rpc_machine.specs.Progress.{numbers}
use Rattle.rpc_machine.specs.Commands.{heads}
use Rattle.rpc_machine.specs.Faults.{gave, fault_of}
use Rattle.rpc_machine.specs.Faults.{given_by}
use Rattle.rpc_machine.specs.Refusals.{refused}
use Rattle.rpc_machine.specs.Steps.{Does, Handles}
use Rattle.laws_acts.specs.Moments.{ThePromise, Moment, beginning}
use Rattle.laws_acts.specs.FirstActs.{Starts}
use Rattle.laws_acts.specs.FirstActs as first
use Rattle.laws_acts.specs.MessageActs.{Consumes}
use Rattle.laws_acts.specs.MessageActs as message
use Rattle.laws_acts.specs.SmallActs.{Acts, NoMore, IsEnd}
use Rattle.laws_acts.proofs.Commanded.{does}
use Rattle.laws_acts.proofs.Received.{handles}
use Rattle.laws_acts.proofs.Pieces.{then, one}
use Rattle.laws_acts.proofs.EachStep.{kept}
use Rattle.laws_nodes.specs.Settling.{AllStop}
use Rattle.laws_nodes.proofs.Stopping.{opens, begins}
use Rattle.laws_nodes.proofs.Acyclic.{within}
use Rattle.laws_runs.specs.Exports as export
use Rattle.laws_runs.specs.Exports.{Out, Seen, LearnsAll, Fits, gives, count}
use Rattle.laws_messages.specs.Views.{gives_in}
use Rattle.laws_messages.specs.Kinds.{Stays}
use Rattle.laws_messages.proofs.Grown.{stays_same, lowers, obeys}
use Rattle.laws_messages.specs.ExportViews.{exporter_of, nothing_owed, outs_in}
use Rattle.laws_messages.specs.Steps.{StillFits, Tells, SettledExportsAreTold}
use Rattle.laws_messages.proofs.Fitting.{EntryFollows, Learned, go_out, count_of}
use Rattle.laws_messages.proofs.Owing.{owes_by, in_owed, owes, none_owed, outs, unsaid}
use Rattle.laws_messages.proofs.Counting.{told_once}
use Rattle.laws_messages.proofs.Telling.{fixed_leads, fixes, owed_settled, In, Fine, links_same, now, acted}

module _ (e : ℕ) (a : Seen) (z : ℕ) where
  -- As it stands where the step begins, with the exports that a message left.
  abbrev Start : State → Map Export → Type 0
  Start s es = In e a z s nothing_owed [] es

  started : (s : State) (c : Command) (g : Granted) (new : Moment) → AllStop s → Starts (beginning s) c g new → Start s s.exports → Fine e a z new
  started s c g new w (first.Hosts o f i h) k = rw h (inr (inr (refl, refl, refl)), k)
  started s c g new w (first.Clones r x f i j h) k = rw h (inr (inr (refl, refl, refl)), k)
  started s c g new w (first.Drops r x f i j h) k = rw h (inr (inr (refl, refl, refl)), k)
  started s c g new w (first.AsksRoot q f i j h) k = rw h (inr (inr (refl, refl, refl)), k)
  started s c g new w (first.CallsOut y x q t ds es f i j l m n o h) k =
      let out = go_out s nothing_owed e a z w s.exports (heads s y.refs) ds es [] n k in
      rw h (inr (inr (refl, refl, refl)), subst (λ (xs : List Out). In e a z s nothing_owed xs es) (sym (append-nil (gives_in e ds ++ []) ∙ append-nil (gives_in e ds))) out)
  started s c g new w (first.CallsHere y x o f i j l m n h) k =
      let b : KeptOutcome = record { caller = caller.Application (record { 0 = s.next_call }); value = None; waiting = [] } in
      rw h (inl (refl, refl, refl, refl, λ n b. absurd (let bad : false ≡ true = b in cc)), links_same e a z s (record s { outcomes = map.insert s.outcomes o b }) nothing_owed (map.get s.exports e) [] (begins s o b (ap value_of m)) k)
  started s c g new w (first.CallsLater y x o d b f i j l m n h) k =
      let u : KeptOutcome = record { caller = caller.Application (record { 0 = s.next_call }); value = None; waiting = [] } in
      rw h (inr (inr (refl, refl, refl)), links_same e a z s (record s { outcomes = map.insert s.outcomes o u }) nothing_owed (map.get s.exports e) [] (begins s o u (ap value_of m)) k)
  started s c g new w (first.NamesField y path from f i j h) k = rw h (inr (inr (refl, refl, refl)), k)
  started s c g new w (first.Promises p f i j h) k = rw h (inr (inr (refl, refl, refl)), links_same e a z s (record s { promises = map.insert s.promises p (promise.Open []) }) nothing_owed (map.get s.exports e) [] (opens s p [] (ap promise_link i)) k)
  started s c g new w (first.Fixes p r x key calls f i j l m h) k =
      let next = owes_by (Some (ThePromise key None)) None (in_owed e []) in
      rw h (
        inl (refl, refl, refl, refl, fixed_leads s key x.head),
        now e a z s (record s { promises = map.insert s.promises key (promise.Fixed x.head) }) nothing_owed next (map.get s.exports e) [] (fixes s key x.head next (ap promise_link l) (owed_settled e (ThePromise key None) None [] refl refl) nothing_owed (λ n. refl) (map.get s.exports e)) k,
      )
  started s c g new w (first.Rejects p why key calls f i j l h) k =
      let next = owes_by (Some (ThePromise key (Some why))) None (in_owed e []) in
      rw h (
        inl (refl, refl, refl, refl, fixed_leads s key (node.Broken BrokenPromise)),
        now e a z s (record s { promises = map.insert s.promises key (promise.Fixed (node.Broken BrokenPromise)) }) nothing_owed next (map.get s.exports e) [] (fixes s key (node.Broken BrokenPromise) next (ap promise_link j) (owed_settled e (ThePromise key (Some why)) None [] refl refl) nothing_owed (λ n. refl) (map.get s.exports e)) k,
      )
  started s c g new w (first.Answers t payload refs o f i j h) k = rw h (inr (inr (refl, refl, refl)), k)
  started s c g new w (first.Fails t why o f i j h) k = rw h (inr (inr (refl, refl, refl)), k)
  started s c g new w (first.Finishes y from f i j h) k = rw h (inr (inr (refl, refl, refl)), k)
  started s c g new w (first.StaysPut r x f i j h) k = rw h (inr (inr (refl, refl, refl)), k)
  started s c g new w (first.Breaks r x reason f i j l m h) k = rw h (inr (inr (refl, refl, refl)), k)
  started s c g new w (first.Switches r x by n f i j l m o q h) k = rw h (inr (inr (refl, refl, refl)), k)
  started s c g new w (first.Turns r x by n t d f i j l m o q u v h) k = rw h (inr (inr (refl, refl, refl)), k)

  abbrev From : State → Moment → Type 0
  From s d = Start s d.state.exports

  opened_one : (s t : State) (o : ℕ) (y : KeptOutcome) → map.get s.outcomes o ≡ None → y.value ≡ None → t ≡ record s { outcomes = map.insert s.outcomes o y } → (es : Map Export) → Start s es → In e a z t nothing_owed [] es
  opened_one s t o y free none h es k = rw h (links_same e a z s (record s { outcomes = map.insert s.outcomes o y }) nothing_owed (map.get es e) [] (begins s o y (ap value_of free ∙ sym none)) k)

  consumed : (s : State) (m : Message) (new : Moment) → Consumes (beginning s) m new → From s new → Fine e a z new
  consumed s m new (message.OpensRoot q o f i j h) k =
      let y : KeptOutcome = record { caller = caller.Peer q; value = None; waiting = [] } in
      let b = subst (From s) h k in
      rw h (inr (inr (refl, refl, refl)), opened_one s (record s { outcomes = map.insert s.outcomes o y }) o y j refl refl s.exports b)
  consumed s m new (message.OpensCall c o f i j h) k =
      let y : KeptOutcome = record { caller = caller.Peer c.question; value = None; waiting = [] } in
      let b = subst (From s) h k in
      rw h (inl (refl, refl, refl, refl, λ n b. absurd (let bad : false ≡ true = b in cc)), opened_one s (record s { outcomes = map.insert s.outcomes o y }) o y j refl refl s.exports b)
  consumed s m new (message.Loses b x f i j l h) k = let d = subst (From s) h k in rw h (inr (inr (refl, refl, refl)), d)
  consumed s m new (message.ComesToCall b x c f i j l o h) k = let d = subst (From s) h k in rw h (inr (inr (refl, refl, refl)), d)
  consumed s m new (message.ComesToRelay b x o f i j l n h) k = let d = subst (From s) h k in rw h (inr (inr (refl, refl, refl)), d)
  consumed s m new (message.IsFinished x y f i j h) k = let d = subst (From s) h k in rw h (inr (inr (refl, refl, refl)), d)
  consumed s m new (message.IsResolved r f h) k = let d = subst (From s) h k in rw h (inr (inr (refl, refl, refl)), d)
  consumed s m new (message.IsReleased r f h) k = let d = subst (From s) h k in rw h (inr (inr (refl, refl, refl)), d)
  consumed s m new (message.SendsBack t to x f i h) k = let d = subst (From s) h k in rw h (inr (inr (refl, refl, refl)), d)
  consumed s m new (message.Lifts t x b f i h) k = let d = subst (From s) h k in rw h (inl (refl, refl, refl, refl, λ n b. absurd (let bad : false ≡ true = b in cc)), d)
  consumed s m new (message.SendsForeign p f i h) k = let d = subst (From s) h k in rw h (inr (inr (refl, refl, refl)), d)
  consumed s m new (message.SendsOther n f h) k = let d = subst (From s) h k in rw h (inr (inr (refl, refl, refl)), d)
  consumed s m new (message.TakesBack r f h) k = let d = subst (From s) h k in rw h (inr (inr (refl, refl, refl)), d)
  consumed s m new (message.Ignores r f h) k = let d = subst (From s) h k in rw h (inr (inr (refl, refl, refl)), d)

  -- All acts, where each node stops at each moment.
  walked : (from last : Moment) → ((d : Moment) → Acts d from → AllStop d.state) → Acts last from → Fine e a z from → Fine e a z last
  walked from last w acts h =
      let k = kept (λ d. Acts d from × Fine e a z d) (λ d new i j. (then from d new i.0 (one d new j), acted e a z d new (w d i.0) i.1 j)) last from acts (NoMore, h) in
      k.1

  -- Nothing is owed any more.
  at_last : (last : Moment) (x : Effects) (t : State) → IsEnd last x t → Fine e a z last → Learned a z (outs_in e x.sends) (exporter_of t (map.get t.exports e))
  at_last last x t h i =
      let none = none_owed e last.settled last.clearing last.owed (ap (λ (m : Moment). m.settled) h.rest) (ap (λ (m : Moment). m.clearing) h.rest) (ap (λ (m : Moment). m.owed) h.rest) in
      let k = now e a z last.state last.state (owes e last) nothing_owed (map.get last.state.exports e) (outs e last) (plainly (map.get last.state.exports e) none) i.1 in
      rw (h.state, h.effects) (subst (λ (xs : List Out). Learned a z xs (exporter_of last.state (map.get last.state.exports e))) (unsaid e last.effects.sends last.saying (ap (λ (m : Moment). m.saying) h.rest)) k)
    where
      plainly : (o : Option Export) → ((n : Node) → owes e last n ≡ false) → EntryFollows last.state last.state (owes e last) nothing_owed o
      plainly None none = tt
      plainly (Some y) none = inl (refl, sym (none y.node))

-- ---- Messages leave exports

left : (s : State) (m : Message) (new : Moment) (e : ℕ) → Consumes (beginning s) m new → Stays (map.get s.exports e) (map.get new.state.exports e)
left s m new e (message.OpensRoot q o f i j h) = rw h (stays_same (map.get s.exports e))
left s m new e (message.OpensCall c o f i j h) = rw h (stays_same (map.get s.exports e))
left s m new e (message.Loses b x f i j l h) = rw h (obeys s b.flag (numbers x.given) e)
left s m new e (message.ComesToCall b x c f i j l o h) = rw h (obeys s b.flag (numbers x.given) e)
left s m new e (message.ComesToRelay b x o f i j l n h) = rw h (obeys s b.flag (numbers x.given) e)
left s m new e (message.IsFinished x y f i j h) = rw h (obeys s x.release_result_caps (gave y.returned) e)
left s m new e (message.IsResolved r f h) = rw h (stays_same (map.get s.exports e))
left s m new e (message.IsReleased r f h) = rw h (lowers s.exports r.export.0 r.count e)
left s m new e (message.SendsBack t to x f i h) = rw h (stays_same (map.get s.exports e))
left s m new e (message.Lifts t x b f i h) = rw h (stays_same (map.get s.exports e))
left s m new e (message.SendsForeign p f i h) = rw h (stays_same (map.get s.exports e))
left s m new e (message.SendsOther n f h) = rw h (stays_same (map.get s.exports e))
left s m new e (message.TakesBack r f h) = rw h (obeys s true (given_by r.to) e)
left s m new e (message.Ignores r f h) = rw h (stays_same (map.get s.exports e))

-- ---- Steps

tells : (s : State) (es : Map Export) (x : Effects) (t : State) → ((e : ℕ) → Stays (map.get s.exports e) (map.get es e)) → AllStop t → ((e : ℕ) (a : Seen) (z : ℕ) → In e a z s nothing_owed [] es → Learned a z (outs_in e x.sends) (exporter_of t (map.get t.exports e))) → Tells s es x t
tells s es x t stays stops f = record { stays = stays; counts = counts; fits = fits; once = λ e. told_once (exporter_of s (map.get es e)) (outs_in e x.sends) (exporter_of t (map.get t.exports e)) (fits e); stops = stops }
  where
    counts : (e : ℕ) → export_count (map.get t.exports e) ≡ export_count (map.get es e) + gives (outs_in e x.sends)
    counts e =
        let z = export_count (map.get es e) in
        let had = count_of s nothing_owed (map.get es e) in
        let k = f e export.Unknown z (export.Unknown, refl, export.Free (exporter_of s (map.get es e)), omega (arith, had)) in
        sym (count_of t nothing_owed (map.get t.exports e)) ∙ k.3

    fits : (e : ℕ) → StillFits (exporter_of s (map.get es e)) (outs_in e x.sends) (exporter_of t (map.get t.exports e))
    fits e a h =
        let z = count (exporter_of s (map.get es e)) in
        let k = f e a z (a, refl, h, omega arith) in
        (k.0, k.1, k.2)

commands : (s : State) (c : Command) (g : Granted) (x : Effects) (t : State) → AllStop s → refused s c ≡ None → Does s c g x t → Tells s s.exports x t
commands s c g x t w free h =
    let k = does s c g x t h in
    let law = within in
    let stops : (d : Moment) → Acts d k.started → AllStop d.state = λ d j. law.commands s c g k.started d free w k.starts j in
    let ends = k.ends in
    tells s s.exports x t (λ e. stays_same (map.get s.exports e)) (subst (λ (u : State). AllStop u) (sym ends.state) (stops k.last k.acts))
    (λ e a z i. at_last e a z k.last x t ends (walked e a z k.started k.last stops k.acts (started e a z s c g k.started w k.starts i)))

messages : (s : State) (m : Message) (x : Effects) (t : State) → AllStop s → fault_of s m ≡ None → Handles s m x t → (es : Map Export) × Tells s es x t
messages s m x t w free h =
    let k = handles s m x t free h in
    let law = within in
    let from = k.consumed in
    let stops : (d : Moment) → Acts d from → AllStop d.state = λ d j. law.messages s m from d w k.consumes j in
    let ends = k.ends in (
      from.state.exports,
      tells s from.state.exports x t (λ e. left s m from e k.consumes) (subst (λ (u : State). AllStop u) (sym ends.state) (stops k.last k.acts))
          (λ e a z i. at_last e a z k.last x t ends (walked e a z from k.last stops k.acts (consumed e a z s m from k.consumes i))),
    )

pub told : SettledExportsAreTold
told = record { commands = commands; messages = messages }
