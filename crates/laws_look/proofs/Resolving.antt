-- A Resolve is sent only of an export that is there; and what an importer learns of it.
use Rattle.std.proofs.Common.{◌≡◌, inl, inr, ℕ, ◌+◌, Bool, true, false, cond, nat_eq, IsSome, List, [], ◌∷◌, ◌++◌, append_assoc, Option, None, Some, refl, sym, ap, subst, ◌∙◌, append-nil, arith}
use Rattle.std.specs.FinMap as map
use Rattle.finite_maps.specs.Tally.{Map}
use Rattle.rpc_msg.specs.declared.message.Message.{Message}
use Rattle.rpc_machine.specs.declared.command.Command.{Command}
use Rattle.rpc_machine.specs.declared.command.Granted.{Granted}
use Rattle.rpc_machine.specs.declared.command.Effects.{Effects}
use Rattle.rpc_machine.specs.declared.node.Node.{Node}
use Rattle.rpc_machine.specs.declared.node.Node.TheVariants as node
use Rattle.rpc_machine.specs.declared.node.Reason.TheVariants.{BrokenPromise}
use Rattle.rpc_machine.specs.declared.calls.Promise.TheVariants as promise
use Rattle.rpc_machine.specs.declared.calls.Caller.TheVariants as caller
use Rattle.rpc_machine.specs.declared.calls.KeptOutcome.{KeptOutcome}
use Rattle.rpc_machine.specs.declared.entries.Export.{Export}
use Rattle.rpc_machine.specs.State.{State}
use Rattle.rpc_machine.specs.Nodes.{promise_link, value_of}
use Rattle.rpc_machine.specs.Progress.{numbers}
use Rattle.rpc_machine.specs.Commands.{heads}
use Rattle.rpc_machine.specs.Faults.{gave, fault_of}
use Rattle.rpc_machine.specs.Faults.{given_by}
use Rattle.rpc_machine.specs.Refusals.{refused}
use Rattle.rpc_machine.specs.Steps.{Does, Handles}
use Rattle.laws_acts.specs.Moments.{ThePromise, Moment, beginning}
use Rattle.laws_acts.specs.FirstActs.{Starts}
use Rattle.laws_acts.specs.FirstActs as first
use Rattle.laws_acts.specs.MessageActs.{Consumes}
use Rattle.laws_acts.specs.MessageActs as message
use Rattle.laws_acts.specs.SmallActs.{Acts, NoMore, IsEnd}
use Rattle.laws_acts.proofs.Commanded.{does}
use Rattle.laws_acts.proofs.Received.{handles}
use Rattle.laws_acts.proofs.Pieces.{then, one}
use Rattle.laws_acts.proofs.EachStep.{kept}
use Rattle.laws_nodes.specs.Settling.{AllStop}
use Rattle.laws_nodes.proofs.Stopping.{opens, begins}
use Rattle.laws_nodes.proofs.Acyclic.{within}
use Rattle.laws_runs.specs.Exports as export
use Rattle.laws_runs.specs.Exports.{Out, Seen, LearnsAll, Fits, gives, count}
use Rattle.laws_messages.specs.Views.{gives_in}
use Rattle.laws_messages.specs.Kinds.{Stays}
use Rattle.laws_messages.proofs.Grown.{stays_same, lowers, obeys}
use Rattle.laws_messages.specs.ExportViews.{exporter_of, nothing_owed, outs_in}
use Rattle.laws_messages.specs.Steps.{StillFits}
use Rattle.laws_messages.proofs.Fitting.{EntryFollows, Learned, go_out}
use Rattle.laws_messages.proofs.Owing.{owes_by, in_owed, owes, none_owed, outs, unsaid}
use Rattle.laws_messages.proofs.Telling.{fixed_leads, fixes, owed_settled, In, Fine, links_same, now, acted}
use Rattle.rpc_msg.specs.declared.parts.Descriptor.{Descriptor}
use Rattle.rpc_msg.specs.declared.message.ReturnBody.{ReturnBody}
use Rattle.rpc_msg.specs.declared.message.ResolvedTo.TheVariants as resolved
use Rattle.rpc_msg.specs.declared.message.PlainMessage.TheVariants as plain
use Rattle.rpc_msg.specs.declared.message.Message.TheVariants as wire
use Rattle.rpc_msg.specs.Messages.{descriptors_of_body}
use Rattle.rpc_machine.specs.declared.calls.Value.{Value}
use Rattle.rpc_machine.specs.declared.calls.Value.TheVariants as value
use Rattle.rpc_machine.specs.Nodes.{settle}
use Rattle.rpc_machine.specs.Settling.{resolve_message, or_failed}
use Rattle.rpc_machine.specs.Flags.{flag_for}
use Rattle.rpc_machine.specs.Sweeping.{got_of}
use Rattle.laws_acts.specs.Moments.{Saying, Owing}
use Rattle.laws_acts.specs.GoingOut.{is_own, said, GoesOut, Again, AsNew, AsOther, GoOut, Says}
use Rattle.laws_acts.specs.SmallActs.{Act, release_messages}
use Rattle.laws_acts.specs.SmallActs as act
use Rattle.finite_maps.proofs.Tested.{equal, get_put}
use Rattle.laws_runs.specs.Exports.{Kind}
use Rattle.laws_runs.specs.Views.{only}
use Rattle.laws_messages.proofs.Fitting.{gives_first}
use Rattle.laws_messages.proofs.Owing.{said_in, one_more_sent, quiet_sent, Phase, routing, resolving, AreListed, LeadsOn}

-- ---- It is there

-- Each Resolve comes behind a descriptor, or the export was there.
abbrev pub Backed : Bool → List Out → Type 0
Backed b [] = Unit {0}
Backed b (export.Give k ∷ ms) = Backed true ms
Backed b (export.Resolve ∷ ms) = (b ≡ true) × Backed b ms

-- whether it was there, or was given
abbrev pub later : Bool → List Out → Bool
later b [] = b
later b (export.Give k ∷ ms) = later true ms
later b (export.Resolve ∷ ms) = later b ms

later-append : (b : Bool) (xs ys : List Out) → later b (xs ++ ys) ≡ later (later b xs) ys
later-append b [] ys = refl
later-append b (export.Give k ∷ xs) ys = later-append true xs ys
later-append b (export.Resolve ∷ xs) ys = later-append b xs ys

backed_then : (b : Bool) (xs ys : List Out) → Backed b xs → Backed (later b xs) ys → Backed b (xs ++ ys)
backed_then b [] ys h g = g
backed_then b (export.Give k ∷ xs) ys h g = backed_then true xs ys h g
backed_then b (export.Resolve ∷ xs) ys h g = (h.0, backed_then b xs ys h.1 g)

module _ (e : ℕ) (b : Bool) where
  abbrev pub Is : List Out → Map Export → Type 0
  Is ms es = Backed b ms × (IsSome (map.get es e) → later b ms ≡ true)

  as_sent : (ms ns : List Out) (es : Map Export) → ms ≡ ns → Is ns es → Is ms es
  as_sent ms ns es f k = subst (λ (l : List Out). Is l es) (sym f) k

  gone : (es : Map Export) (i : ℕ) (x : Export) (k : Kind) (ms : List Out) → Is ms es → Is (ms ++ (only (nat_eq e i) (export.Give k) ++ [])) (map.insert es i x)
  gone es i x k ms h = subst (λ (o : Option Export). Backed b (ms ++ (only (nat_eq e i) (export.Give k) ++ [])) × (IsSome o → later b (ms ++ (only (nat_eq e i) (export.Give k) ++ [])) ≡ true)) (sym (get_put es i x e)) (by (nat_eq e i))
    where
      by : (w : Bool) → Backed b (ms ++ (only w (export.Give k) ++ [])) × (IsSome (cond w (Some x) (map.get es e)) → later b (ms ++ (only w (export.Give k) ++ [])) ≡ true)
      by false = as_sent (ms ++ []) ms es (append-nil ms) h
      by true = (backed_then b ms (export.Give k ∷ []) h.0 tt, λ i. later-append b ms (export.Give k ∷ []))

  kind_out : (es : Map Export) (n : Node) (i : ℕ) (x : Export) (ms : List Out) → is_own n ≡ true → Is ms es → Is (ms ++ gives_in e (said n i ∷ [])) (map.insert es i x)
  kind_out es (node.Object o) i x ms w h = gone es i x export.Hosted ms h
  kind_out es (node.Promise p) i x ms w h = gone es i x export.Promised ms h
  kind_out es (node.Field o path) i x ms w h = gone es i x export.Promised ms h
  kind_out es (node.Import k) i x ms w h = absurd (let bad : false ≡ true = w in cc)
  kind_out es (node.Pipe q path) i x ms w h = absurd (let bad : false ≡ true = w in cc)
  kind_out es (node.Broken reason) i x ms w h = absurd (let bad : false ≡ true = w in cc)

  other_out : (n : Node) → is_own n ≡ false → gives_in e (said n 0 ∷ []) ≡ []
  other_out (node.Object o) w = absurd (let bad : true ≡ false = w in cc)
  other_out (node.Promise p) w = absurd (let bad : true ≡ false = w in cc)
  other_out (node.Field o path) w = absurd (let bad : true ≡ false = w in cc)
  other_out (node.Import k) w = refl
  other_out (node.Pipe q path) w = refl
  other_out (node.Broken reason) w = refl

  one_out : (es : Map Export) (n : Node) (d : Descriptor) (new : Map Export) (ms : List Out) → GoesOut es n d new → Is ms es → Is (ms ++ gives_in e (d ∷ [])) new
  one_out es n d new ms (Again i x w g there j h) k = rw (g, h) (kind_out es n i (record { node = n; count = x.count + 1 }) ms w k)
  one_out es n d new ms (AsNew i w g there others h) k = rw (g, h) (kind_out es n i (record { node = n; count = 1 }) ms w k)
  one_out es n d new ms (AsOther w g h) k = rw (g, h) (as_sent (ms ++ gives_in e (said n 0 ∷ [])) ms es (ap (λ (ys : List Out). ms ++ ys) (other_out n w) ∙ append-nil ms) k)

  all_out : (s : State) (es : Map Export) (ns : List Node) (ds : List Descriptor) (new : Map Export) (ms : List Out) → GoOut s es ns ds new → Is ms es → Is (ms ++ gives_in e ds) new
  all_out s es [] [] new ms h k = rw h (as_sent (ms ++ []) ms es (append-nil ms) k)
  all_out s es [] (d ∷ ds) new ms h k = absurd h
  all_out s es (n ∷ ns) [] new ms h k = absurd h
  all_out s es (n ∷ ns) (d ∷ ds) new ms h k =
      as_sent (ms ++ gives_in e (d ∷ ds)) ((ms ++ gives_in e (d ∷ [])) ++ gives_in e ds) new (ap (λ (ys : List Out). ms ++ ys) (gives_first e d ds) ∙ sym (append_assoc ms (gives_in e (d ∷ [])) (gives_in e ds)))
      (all_out s h.0 ns ds new (ms ++ gives_in e (d ∷ [])) h.2 (one_out es (settle s n) d h.0 ms h.1 k))

  says_out : (s : State) (w : Bool) (v : Value) (said : ReturnBody) (ds : List Descriptor) (es : Map Export) (ms : List Out) → Says s w v said ds es → Is ms s.exports → Is (ms ++ gives_in e ds) es
  says_out s true v said ds es ms h k = rw (h.1, h.2) (as_sent (ms ++ []) ms s.exports (append-nil ms) k)
  says_out s false (value.Exception x) said ds es ms h k = rw (h.1, h.2) (as_sent (ms ++ []) ms s.exports (append-nil ms) k)
  says_out s false (value.Results payload caps) said ds es ms h k = all_out s s.exports caps ds es ms h.1 k

  -- a Resolve of one that is there
  resolve_out : (s : State) (es : Map Export) (i : ℕ) (ms : List Out) → LeadsOn s es i → Is ms es → Is (ms ++ only (nat_eq e i) export.Resolve) es
  resolve_out s es i ms l k = by (nat_eq e i) refl
    where
      by : (w : Bool) → nat_eq e i ≡ w → Is (ms ++ only w export.Resolve) es
      by false c = as_sent (ms ++ []) ms es (append-nil ms) k
      by true c =
          let y = l.0 in
          let at : map.get es e ≡ Some y = ap (map.get es) (equal e i c) ∙ l.1 in
          let there : later b ms ≡ true = k.1 (subst (λ (o : Option Export). IsSome o) (sym at) refl) in
          (backed_then b ms (export.Resolve ∷ []) k.0 (there, tt), λ h. later-append b ms (export.Resolve ∷ []) ∙ there)

  abbrev pub There : Moment → Type 0
  There d = Is (outs e d) d.state.exports

  all_quiet : (xs : List (ℕ × ℕ)) → outs_in e (release_messages xs) ≡ []
  all_quiet [] = refl
  all_quiet (x ∷ xs) = all_quiet xs

  says_same : (s : State) (w : Bool) (v : Value) (said : ReturnBody) (ds : List Descriptor) (es : Map Export) → Says s w v said ds es → descriptors_of_body said ≡ ds
  says_same s true v said ds es h = rw (h.0, h.1) refl
  says_same s false (value.Exception x) said ds es h = rw (h.0, h.1) refl
  says_same s false (value.Results payload caps) said ds es h = rw h.0 refl

  -- what was sent, where nothing is being said
  plainly : (d : Moment) → d.saying ≡ None → There d → Is (outs_in e d.effects.sends) d.state.exports
  plainly d f i = as_sent (outs_in e d.effects.sends) (outs e d) d.state.exports (sym (unsaid e d.effects.sends d.saying f)) i

  acted_there : (d new : Moment) → Phase d → There d → Act d new → There new
  acted_there d new p i (act.Delivers c n rest o f g h) = rw h i
  acted_there d new p i (act.Waits c n rest q calls f g j h) = rw h i
  acted_there d new p i (act.Holds c n rest o path x f g j h) = rw h i
  acted_there d new p i (act.Breaks c n rest reason f g h) = rw h i
  acted_there d new p i (act.Relays c n rest q t ds es f g j k h) =
      let r = routing d p f in
      let m = first.asking q t c.request ds in
      let ms = outs_in e d.effects.sends in
      let after : outs_in e (d.effects.sends ++ wire.Plain m ∷ []) ++ said_in e d.saying ≡ ms ++ gives_in e ds = unsaid e (d.effects.sends ++ wire.Plain m ∷ []) d.saying r.0 ∙ one_more_sent e d.effects.sends m in
      rw h (as_sent (outs_in e (d.effects.sends ++ wire.Plain m ∷ []) ++ said_in e d.saying) (ms ++ gives_in e ds) es after (all_out d.state d.state.exports c.request.caps ds es ms k (plainly d r.0 i)))
  acted_there d new p i (act.NextArisen o v rest f g h) = rw h i
  acted_there d new p i (act.Knows o v fit x ps f g j k h) = rw h i
  acted_there d new p i (act.Reports c v from f g h) = rw h i
  acted_there d new p i (act.TellsNobody c v f g h) = rw h i
  acted_there d new p i (act.MakesReturn q v x b1 ds es f g j k h) =
      let ms = outs_in e d.effects.sends in
      rw h (as_sent (ms ++ gives_in e (descriptors_of_body b1)) (ms ++ gives_in e ds) es (ap (λ (l : List Descriptor). ms ++ gives_in e l) (says_same d.state x.finished v b1 ds es k)) (says_out d.state x.finished v b1 ds es ms k (plainly d g i)))
  acted_there d new p i (act.SendsReturn x y f g j h) =
      let m = plain.Return (record { answer = x.answer; release_param_caps = flag_for d.state (numbers y.taken); body = x.body }) in
      let ms = outs_in e d.effects.sends in
      let before : outs e d ≡ ms ++ gives_in e (descriptors_of_body x.body) = ap (λ (o : Option Saying). ms ++ said_in e o) f in
      let after : outs_in e (d.effects.sends ++ wire.Plain m ∷ []) ++ [] ≡ ms ++ gives_in e (descriptors_of_body x.body) = append-nil (outs_in e (d.effects.sends ++ wire.Plain m ∷ [])) ∙ one_more_sent e d.effects.sends m in
      rw h (as_sent (outs_in e (d.effects.sends ++ wire.Plain m ∷ []) ++ []) (outs e d) d.state.exports (after ∙ sym before) i)
  acted_there d new p i (act.Clears x f j h) = rw h i
  acted_there d new p i (act.Lists x f h) = rw h i
  acted_there d new p i (act.SendsResolve x rest k es f j g h) =
      let r = resolving d p f in
      let l = subst (λ (xs : List Owing). AreListed d.state d.state.exports xs) f r.6 in
      let n = settle d.state (settle d.state x.node) in
      let m = resolve_message x.export (resolved.Cap k) in
      let ms = outs_in e d.effects.sends in
      let told = ms ++ only (nat_eq e x.export) export.Resolve in
      let say = resolve_out d.state d.state.exports x.export ms l.0 (plainly d r.0 i) in
      let after : outs_in e (d.effects.sends ++ wire.Plain m ∷ []) ++ said_in e d.saying ≡ told ++ gives_in e (k ∷ []) =
      unsaid e (d.effects.sends ++ wire.Plain m ∷ []) d.saying r.0 ∙ one_more_sent e d.effects.sends m ∙ sym (append_assoc ms (only (nat_eq e x.export) export.Resolve) (gives_in e (k ∷ []))) in
      rw h (as_sent (outs_in e (d.effects.sends ++ wire.Plain m ∷ []) ++ said_in e d.saying) (told ++ gives_in e (k ∷ [])) es after (one_out d.state.exports n k es told g say))
  acted_there d new p i (act.SendsBroken x rest reason f j h) =
      let r = resolving d p f in
      let l = subst (λ (xs : List Owing). AreListed d.state d.state.exports xs) f r.6 in
      let m = resolve_message x.export (resolved.Exception (or_failed x.why reason)) in
      let ms = outs_in e d.effects.sends in
      let told = ms ++ only (nat_eq e x.export) export.Resolve in
      let say = resolve_out d.state d.state.exports x.export ms l.0 (plainly d r.0 i) in
      let after : outs_in e (d.effects.sends ++ wire.Plain m ∷ []) ++ said_in e d.saying ≡ told =
      unsaid e (d.effects.sends ++ wire.Plain m ∷ []) d.saying r.0 ∙ one_more_sent e d.effects.sends m ∙ ap (λ (ys : List Out). ms ++ ys) (append-nil (only (nat_eq e x.export) export.Resolve)) in
      rw h (as_sent (outs_in e (d.effects.sends ++ wire.Plain m ∷ []) ++ said_in e d.saying) told d.state.exports after say)
  acted_there d new p i (act.PromiseGoes q to c f g h) = rw h i
  acted_there d new p i (act.OutcomeGoes k x v c f g j l m h) = rw h i
  acted_there d new p i (act.ImportGoes k x c f g h) = rw h i
  acted_there d new p i (act.Sweeps over f g j h) = rw h i
  acted_there d new p i (act.SendsFinish q x rest f g j k l h) =
      let m = plain.Finish (record { question = record { 0 = q }; release_result_caps = flag_for d.state (got_of x.returned) }) in
      rw h (as_sent (outs_in e (d.effects.sends ++ wire.Plain m ∷ []) ++ said_in e d.saying) (outs e d) d.state.exports (quiet_sent e d.effects.sends (wire.Plain m ∷ []) d.saying refl) i)
  acted_there d new p i (act.Closes q x rest f g j k l h) = rw h i
  acted_there d new p i (act.Releases c f g h) =
      let ms = release_messages (map.entries d.released) in
      rw h (as_sent (outs_in e (d.effects.sends ++ ms) ++ said_in e d.saying) (outs e d) d.state.exports (quiet_sent e d.effects.sends ms d.saying (all_quiet (map.entries d.released))) i)

  -- what a command does first
  starts_there : (s : State) (c : Command) (g : Granted) (new : Moment) → Starts (beginning s) c g new → Is [] s.exports → There new
  starts_there s c g new (first.CallsOut y x q t ds es f i j l m n o h) k =
      rw h (as_sent ((gives_in e ds ++ []) ++ []) (gives_in e ds) es (append-nil (gives_in e ds ++ []) ∙ append-nil (gives_in e ds)) (all_out s s.exports (heads s y.refs) ds es [] n k))
  starts_there s c g new (first.Hosts o f i h) k = rw h k
  starts_there s c g new (first.Clones r x f i j h) k = rw h k
  starts_there s c g new (first.Drops r x f i j h) k = rw h k
  starts_there s c g new (first.AsksRoot q f i j h) k = rw h k
  starts_there s c g new (first.CallsHere y x o f i j l m n h) k = rw h k
  starts_there s c g new (first.CallsLater y x o d b1 f i j l m n h) k = rw h k
  starts_there s c g new (first.NamesField y path from f i j h) k = rw h k
  starts_there s c g new (first.Promises p f i j h) k = rw h k
  starts_there s c g new (first.Fixes p r x key calls f i j l m h) k = rw h k
  starts_there s c g new (first.Rejects p why key calls f i j l h) k = rw h k
  starts_there s c g new (first.Answers t payload refs o f i j h) k = rw h k
  starts_there s c g new (first.Fails t why o f i j h) k = rw h k
  starts_there s c g new (first.Finishes y from f i j h) k = rw h k
  starts_there s c g new (first.StaysPut r x f i j h) k = rw h k
  starts_there s c g new (first.Breaks r x reason f i j l m h) k = rw h k
  starts_there s c g new (first.Switches r x by n f i j l m o q h) k = rw h k
  starts_there s c g new (first.Turns r x by n t d f i j l m o q u v h) k = rw h k

  -- a message sends no descriptor at once
  abbrev Sent : State → Moment → Type 0
  Sent s new = outs e new ≡ []

  takes_there : (s : State) (m : Message) (new : Moment) → Consumes (beginning s) m new → Sent s new
  takes_there s m new (message.OpensRoot q o f i j h) = rw h refl
  takes_there s m new (message.OpensCall c o f i j h) = rw h refl
  takes_there s m new (message.Loses b1 x f i j l h) = rw h refl
  takes_there s m new (message.ComesToCall b1 x c f i j l o h) = rw h refl
  takes_there s m new (message.ComesToRelay b1 x o f i j l n h) = rw h refl
  takes_there s m new (message.IsFinished x y f i j h) = rw h refl
  takes_there s m new (message.IsResolved r f h) = rw h refl
  takes_there s m new (message.IsReleased r f h) = rw h refl
  takes_there s m new (message.SendsBack t to x f i h) = rw h refl
  takes_there s m new (message.Lifts t x b1 f i h) = rw h refl
  takes_there s m new (message.SendsForeign p f i h) = rw h refl
  takes_there s m new (message.SendsOther n f h) = rw h refl
  takes_there s m new (message.TakesBack r f h) = rw h refl
  takes_there s m new (message.Ignores r f h) = rw h refl

-- ---- What an importer learns, as the law of laws_messages has it
module _ (e : ℕ) (a : Seen) (z : ℕ) where
  -- As it stands where the step begins, with the exports that a message left.
  abbrev Start : State → Map Export → Type 0
  Start s es = In e a z s nothing_owed [] es

  started : (s : State) (c : Command) (g : Granted) (new : Moment) → AllStop s → Starts (beginning s) c g new → Start s s.exports → Fine e a z new
  started s c g new w (first.Hosts o f i h) k = rw h (inr (inr (refl, refl, refl)), k)
  started s c g new w (first.Clones r x f i j h) k = rw h (inr (inr (refl, refl, refl)), k)
  started s c g new w (first.Drops r x f i j h) k = rw h (inr (inr (refl, refl, refl)), k)
  started s c g new w (first.AsksRoot q f i j h) k = rw h (inr (inr (refl, refl, refl)), k)
  started s c g new w (first.CallsOut y x q t ds es f i j l m n o h) k =
      let out = go_out s nothing_owed e a z w s.exports (heads s y.refs) ds es [] n k in
      rw h (inr (inr (refl, refl, refl)), subst (λ (xs : List Out). In e a z s nothing_owed xs es) (sym (append-nil (gives_in e ds ++ []) ∙ append-nil (gives_in e ds))) out)
  started s c g new w (first.CallsHere y x o f i j l m n h) k =
      let b : KeptOutcome = record { caller = caller.Application (record { 0 = s.next_call }); value = None; waiting = [] } in
      rw h (inl (refl, refl, refl, refl, λ n b. absurd (let bad : false ≡ true = b in cc)), links_same e a z s (record s { outcomes = map.insert s.outcomes o b }) nothing_owed (map.get s.exports e) [] (begins s o b (ap value_of m)) k)
  started s c g new w (first.CallsLater y x o d b f i j l m n h) k =
      let u : KeptOutcome = record { caller = caller.Application (record { 0 = s.next_call }); value = None; waiting = [] } in
      rw h (inr (inr (refl, refl, refl)), links_same e a z s (record s { outcomes = map.insert s.outcomes o u }) nothing_owed (map.get s.exports e) [] (begins s o u (ap value_of m)) k)
  started s c g new w (first.NamesField y path from f i j h) k = rw h (inr (inr (refl, refl, refl)), k)
  started s c g new w (first.Promises p f i j h) k = rw h (inr (inr (refl, refl, refl)), links_same e a z s (record s { promises = map.insert s.promises p (promise.Open []) }) nothing_owed (map.get s.exports e) [] (opens s p [] (ap promise_link i)) k)
  started s c g new w (first.Fixes p r x key calls f i j l m h) k =
      let next = owes_by (Some (ThePromise key None)) None (in_owed e []) in
      rw h (
        inl (refl, refl, refl, refl, fixed_leads s key x.head),
        now e a z s (record s { promises = map.insert s.promises key (promise.Fixed x.head) }) nothing_owed next (map.get s.exports e) [] (fixes s key x.head next (ap promise_link l) (owed_settled e (ThePromise key None) None [] refl refl) nothing_owed (λ n. refl) (map.get s.exports e)) k,
      )
  started s c g new w (first.Rejects p why key calls f i j l h) k =
      let next = owes_by (Some (ThePromise key (Some why))) None (in_owed e []) in
      rw h (
        inl (refl, refl, refl, refl, fixed_leads s key (node.Broken BrokenPromise)),
        now e a z s (record s { promises = map.insert s.promises key (promise.Fixed (node.Broken BrokenPromise)) }) nothing_owed next (map.get s.exports e) [] (fixes s key (node.Broken BrokenPromise) next (ap promise_link j) (owed_settled e (ThePromise key (Some why)) None [] refl refl) nothing_owed (λ n. refl) (map.get s.exports e)) k,
      )
  started s c g new w (first.Answers t payload refs o f i j h) k = rw h (inr (inr (refl, refl, refl)), k)
  started s c g new w (first.Fails t why o f i j h) k = rw h (inr (inr (refl, refl, refl)), k)
  started s c g new w (first.Finishes y from f i j h) k = rw h (inr (inr (refl, refl, refl)), k)
  started s c g new w (first.StaysPut r x f i j h) k = rw h (inr (inr (refl, refl, refl)), k)
  started s c g new w (first.Breaks r x reason f i j l m h) k = rw h (inr (inr (refl, refl, refl)), k)
  started s c g new w (first.Switches r x by n f i j l m o q h) k = rw h (inr (inr (refl, refl, refl)), k)
  started s c g new w (first.Turns r x by n t d f i j l m o q u v h) k = rw h (inr (inr (refl, refl, refl)), k)

  abbrev From : State → Moment → Type 0
  From s d = Start s d.state.exports

  opened_one : (s t : State) (o : ℕ) (y : KeptOutcome) → map.get s.outcomes o ≡ None → y.value ≡ None → t ≡ record s { outcomes = map.insert s.outcomes o y } → (es : Map Export) → Start s es → In e a z t nothing_owed [] es
  opened_one s t o y free none h es k = rw h (links_same e a z s (record s { outcomes = map.insert s.outcomes o y }) nothing_owed (map.get es e) [] (begins s o y (ap value_of free ∙ sym none)) k)

  consumed : (s : State) (m : Message) (new : Moment) → Consumes (beginning s) m new → From s new → Fine e a z new
  consumed s m new (message.OpensRoot q o f i j h) k =
      let y : KeptOutcome = record { caller = caller.Peer q; value = None; waiting = [] } in
      let b = subst (From s) h k in
      rw h (inr (inr (refl, refl, refl)), opened_one s (record s { outcomes = map.insert s.outcomes o y }) o y j refl refl s.exports b)
  consumed s m new (message.OpensCall c o f i j h) k =
      let y : KeptOutcome = record { caller = caller.Peer c.question; value = None; waiting = [] } in
      let b = subst (From s) h k in
      rw h (inl (refl, refl, refl, refl, λ n b. absurd (let bad : false ≡ true = b in cc)), opened_one s (record s { outcomes = map.insert s.outcomes o y }) o y j refl refl s.exports b)
  consumed s m new (message.Loses b x f i j l h) k = let d = subst (From s) h k in rw h (inr (inr (refl, refl, refl)), d)
  consumed s m new (message.ComesToCall b x c f i j l o h) k = let d = subst (From s) h k in rw h (inr (inr (refl, refl, refl)), d)
  consumed s m new (message.ComesToRelay b x o f i j l n h) k = let d = subst (From s) h k in rw h (inr (inr (refl, refl, refl)), d)
  consumed s m new (message.IsFinished x y f i j h) k = let d = subst (From s) h k in rw h (inr (inr (refl, refl, refl)), d)
  consumed s m new (message.IsResolved r f h) k = let d = subst (From s) h k in rw h (inr (inr (refl, refl, refl)), d)
  consumed s m new (message.IsReleased r f h) k = let d = subst (From s) h k in rw h (inr (inr (refl, refl, refl)), d)
  consumed s m new (message.SendsBack t to x f i h) k = let d = subst (From s) h k in rw h (inr (inr (refl, refl, refl)), d)
  consumed s m new (message.Lifts t x b f i h) k = let d = subst (From s) h k in rw h (inl (refl, refl, refl, refl, λ n b. absurd (let bad : false ≡ true = b in cc)), d)
  consumed s m new (message.SendsForeign p f i h) k = let d = subst (From s) h k in rw h (inr (inr (refl, refl, refl)), d)
  consumed s m new (message.SendsOther n f h) k = let d = subst (From s) h k in rw h (inr (inr (refl, refl, refl)), d)
  consumed s m new (message.TakesBack r f h) k = let d = subst (From s) h k in rw h (inr (inr (refl, refl, refl)), d)
  consumed s m new (message.Ignores r f h) k = let d = subst (From s) h k in rw h (inr (inr (refl, refl, refl)), d)

  -- All acts, where each node stops at each moment.
  walked : (b : Bool) (from last : Moment) → ((d : Moment) → Acts d from → AllStop d.state) → Acts last from → Fine e a z from → There e b from → Fine e a z last × There e b last
  walked b from last w acts h g =
      let k = kept (λ d. Acts d from × (Fine e a z d × There e b d)) (λ d new i j. let f = i.1 in let p = f.0 in (then from d new i.0 (one d new j), (acted e a z d new (w d i.0) p j, acted_there e b d new p.0 f.1 j))) last from acts (NoMore, (h, g)) in
      k.1

  -- Nothing is owed any more.
  at_last : (last : Moment) (x : Effects) (t : State) → IsEnd last x t → Fine e a z last → Learned a z (outs_in e x.sends) (exporter_of t (map.get t.exports e))
  at_last last x t h i =
      let none = none_owed e last.settled last.clearing last.owed (ap (λ (m : Moment). m.settled) h.rest) (ap (λ (m : Moment). m.clearing) h.rest) (ap (λ (m : Moment). m.owed) h.rest) in
      let k = now e a z last.state last.state (owes e last) nothing_owed (map.get last.state.exports e) (outs e last) (plainly (map.get last.state.exports e) none) i.1 in
      rw (h.state, h.effects) (subst (λ (xs : List Out). Learned a z xs (exporter_of last.state (map.get last.state.exports e))) (unsaid e last.effects.sends last.saying (ap (λ (m : Moment). m.saying) h.rest)) k)
    where
      plainly : (o : Option Export) → ((n : Node) → owes e last n ≡ false) → EntryFollows last.state last.state (owes e last) nothing_owed o
      plainly None none = tt
      plainly (Some y) none = inl (refl, sym (none y.node))

left : (s : State) (m : Message) (new : Moment) (e : ℕ) → Consumes (beginning s) m new → Stays (map.get s.exports e) (map.get new.state.exports e)
left s m new e (message.OpensRoot q o f i j h) = rw h (stays_same (map.get s.exports e))
left s m new e (message.OpensCall c o f i j h) = rw h (stays_same (map.get s.exports e))
left s m new e (message.Loses b x f i j l h) = rw h (obeys s b.flag (numbers x.given) e)
left s m new e (message.ComesToCall b x c f i j l o h) = rw h (obeys s b.flag (numbers x.given) e)
left s m new e (message.ComesToRelay b x o f i j l n h) = rw h (obeys s b.flag (numbers x.given) e)
left s m new e (message.IsFinished x y f i j h) = rw h (obeys s x.release_result_caps (gave y.returned) e)
left s m new e (message.IsResolved r f h) = rw h (stays_same (map.get s.exports e))
left s m new e (message.IsReleased r f h) = rw h (lowers s.exports r.export.0 r.count e)
left s m new e (message.SendsBack t to x f i h) = rw h (stays_same (map.get s.exports e))
left s m new e (message.Lifts t x b f i h) = rw h (stays_same (map.get s.exports e))
left s m new e (message.SendsForeign p f i h) = rw h (stays_same (map.get s.exports e))
left s m new e (message.SendsOther n f h) = rw h (stays_same (map.get s.exports e))
left s m new e (message.TakesBack r f h) = rw h (obeys s true (given_by r.to) e)
left s m new e (message.Ignores r f h) = rw h (stays_same (map.get s.exports e))

-- ---- Steps

-- What is sent of an export that this left: an importer learns it, and it was there.
pub record Sends (s : State) (es : Map Export) (x : Effects) (t : State) : Type 0 where
  pub stays : (e : ℕ) → Stays (map.get s.exports e) (map.get es e)
  pub fits : (e : ℕ) → StillFits (exporter_of s (map.get es e)) (outs_in e x.sends) (exporter_of t (map.get t.exports e))
  pub backed : (e : ℕ) (b : Bool) → (IsSome (map.get es e) → b ≡ true) → Is e b (outs_in e x.sends) t.exports
  pub stops : AllStop t

there_at_last : (e : ℕ) (b : Bool) (last : Moment) (x : Effects) (t : State) → IsEnd last x t → There e b last → Is e b (outs_in e x.sends) t.exports
there_at_last e b last x t h i = rw (h.state, h.effects) (plainly e b last (ap (λ (m : Moment). m.saying) h.rest) i)

module _ (s : State) (es : Map Export) (from last : Moment) (x : Effects) (t : State) (stops : (d : Moment) → Acts d from → AllStop d.state) (list : Acts last from) (ends : IsEnd last x t)
    (begun : (e : ℕ) (a : Seen) (z : ℕ) → In e a z s nothing_owed [] es → Fine e a z from) (there : (e : ℕ) (b : Bool) → (IsSome (map.get es e) → b ≡ true) → There e b from) where
  all_so : (e : ℕ) (a : Seen) (b : Bool) → Fits a (exporter_of s (map.get es e)) → (IsSome (map.get es e) → b ≡ true) → ((c : Seen) × LearnsAll a (outs_in e x.sends) c × Fits c (exporter_of t (map.get t.exports e))) × Is e b (outs_in e x.sends) t.exports
  all_so e a b f g =
      let z = count (exporter_of s (map.get es e)) in
      let w = walked e a z b from last stops list (begun e a z (a, refl, f, omega arith)) (there e b g) in
      let k = at_last e a z last x t ends w.0 in
      ((k.0, k.1, k.2), there_at_last e b last x t ends w.1)

  sends : ((e : ℕ) → Stays (map.get s.exports e) (map.get es e)) → Sends s es x t
  sends stays = record {
    stays = stays;
    fits = λ e a f. (all_so e a true f (λ i. refl)).0;
    backed = λ e b g. (all_so e export.Unknown b (export.Free (exporter_of s (map.get es e))) g).1;
    stops = subst (λ (u : State). AllStop u) (sym ends.state) (stops last list);
  }

pub commands : (s : State) (c : Command) (g : Granted) (x : Effects) (t : State) → AllStop s → refused s c ≡ None → Does s c g x t → Sends s s.exports x t
commands s c g x t w free h =
    let k = does s c g x t h in
    let law = within in
    sends s s.exports k.started k.last x t (λ d j. law.commands s c g k.started d free w k.starts j) k.acts k.ends
    (λ e a z i. started e a z s c g k.started w k.starts i) (λ e b f. starts_there e b s c g k.started k.starts (tt, f)) (λ e. stays_same (map.get s.exports e))

pub messages : (s : State) (m : Message) (x : Effects) (t : State) → AllStop s → fault_of s m ≡ None → Handles s m x t → (es : Map Export) × Sends s es x t
messages s m x t w free h =
    let k = handles s m x t free h in
    let law = within in
    let from = k.consumed in
    let es = from.state.exports in (
      es,
      sends s es from k.last x t (λ d j. law.messages s m from d w k.consumes j) k.acts k.ends
          (λ e a z i. consumed e a z s m from k.consumes i) (λ e b f. as_sent e b (outs e from) [] es (takes_there e b s m from k.consumes) (tt, f)) (λ e. left s m from e k.consumes),
    )
