-- Descriptors that are taken and read: what they stand for is there afterwards.
use Rattle.std.proofs.Common.{◌≡◌, inl, ℕ, suc, ◌≤◌, Bool, true, false, cond, nat_eq, List, [], ◌∷◌, Option, None, Some, refl, sym, ap, subst, ◌∙◌, arith}
use Rattle.std.specs.FinMap as map
use Rattle.laws_acts.specs.rpc_msg.specs.Payloads.{Contents as Payload}
use Rattle.laws_acts.specs.rpc_msg.specs.declared.parts.Descriptor.{Descriptor}
use Rattle.laws_acts.specs.rpc_msg.specs.declared.parts.Descriptor.TheVariants as descriptor
use Rattle.laws_acts.specs.rpc_msg.specs.Messages.{given}
use Rattle.finite_maps.specs.Tally.{Map}
use Rattle.laws_acts.specs.rpc_machine.specs.declared.node.Node.{Node}
use Rattle.laws_acts.specs.rpc_machine.specs.declared.node.Node.TheVariants as node
use Rattle.laws_acts.specs.rpc_machine.specs.declared.node.Reason.{Reason}
use Rattle.laws_acts.specs.rpc_machine.specs.declared.command.Level.{Level}
use Rattle.laws_acts.specs.rpc_machine.specs.declared.command.Level.TheVariants.{Zero, One}
use Rattle.laws_acts.specs.rpc_machine.specs.declared.calls.KeptOutcome.{KeptOutcome}
use Rattle.laws_acts.specs.rpc_machine.specs.declared.calls.Caller.{Caller}
use Rattle.laws_acts.specs.rpc_machine.specs.declared.entries.SenderKind.{SenderKind}
use Rattle.laws_acts.specs.rpc_machine.specs.declared.entries.SenderKind.TheVariants as kind
use Rattle.laws_acts.specs.rpc_machine.specs.declared.entries.Returned.TheVariants as back
use Rattle.laws_acts.specs.rpc_machine.specs.declared.entries.Question.{Question}
use Rattle.laws_acts.specs.rpc_machine.specs.declared.entries.AnswerEntry.{AnswerEntry}
use Rattle.laws_acts.specs.rpc_machine.specs.declared.entries.Import.{Import}
use Rattle.laws_acts.specs.rpc_machine.specs.declared.entries.Export.{Export}
use Rattle.laws_acts.specs.rpc_machine.specs.State.{State}
use Rattle.laws_acts.specs.rpc_machine.specs.Lists.{how_many}
use Rattle.laws_acts.specs.rpc_machine.specs.Nodes.{is_import}
use Rattle.laws_acts.specs.rpc_machine.specs.Places.{imports_of, named_by_import, named_by_export, nodes}
use Rattle.laws_acts.specs.rpc_machine.specs.Progress.{export_ids}
use Rattle.laws_acts.specs.rpc_machine.specs.Descriptors.{export_node, answer_node, read_one, read, read_all, read_beside, received, import_one, take_one, take_each, take_at, take_all, taken_of}
use Rattle.laws_acts.specs.rpc_machine.specs.Sweeping.{descriptors_said}
use Rattle.finite_maps.proofs.Gets.{get-insert_same}
use Rattle.finite_maps.proofs.Tested.{sides}
use Rattle.laws_steps.specs.Callers.{IsFor, peer, HasOutcome}
use Rattle.laws_steps.proofs.NamedNodes.{Present, Asked, AllIn, all_none, all_cons, each_put, each_at, Brought, Counted, positive_put, HereIn, Sound, Grows, set_imports, grows_import}

-- ---- What is taken

-- Only imports are new.
abbrev pub Took : State → State → Type 0
Took s t = (t.outcomes ≡ s.outcomes) × (t.answers ≡ s.answers) × (t.questions ≡ s.questions) × (t.level ≡ s.level)

took_nothing : (s : State) → Took s s
took_nothing s = (refl, refl, refl, refl)

took_one : (s : State) (d : Descriptor) → Took s (take_one s d)
took_one s descriptor.None = took_nothing s
took_one s (descriptor.SenderHosted e) = took_nothing s
took_one s (descriptor.SenderPromise e) = took_nothing s
took_one s (descriptor.ReceiverHosted e) = took_nothing s
took_one s (descriptor.ReceiverAnswer q path) = took_nothing s

took_each : (s : State) (ds : List Descriptor) → Took s (take_each s ds)
took_each s [] = took_nothing s
took_each s (d ∷ ds) =
    let e = took_one s d in
    let f = took_each (take_one s d) ds in
    (f.0 ∙ e.0, f.1 ∙ e.1, f.2 ∙ e.2, f.3 ∙ e.3)

took_at : (l : Level) (s : State) (ds : List Descriptor) → Took s (take_at l s ds)
took_at Zero s ds = took_nothing s
took_at One s ds = took_each s ds

pub took : (s : State) (ds : List Descriptor) → Took s (take_all s ds)
took s ds = took_at s.level s ds

grows_one : (w : Asked) (s : State) (d : Descriptor) → Grows w s (take_one s d)
grows_one w s descriptor.None n h = h
grows_one w s (descriptor.SenderHosted e) n h = grows_import w s e.0 _ n h
grows_one w s (descriptor.SenderPromise e) n h = grows_import w s e.0 _ n h
grows_one w s (descriptor.ReceiverHosted e) n h = h
grows_one w s (descriptor.ReceiverAnswer q path) n h = h

grows_each : (w : Asked) (s : State) (ds : List Descriptor) → Grows w s (take_each s ds)
grows_each w s [] n h = h
grows_each w s (d ∷ ds) n h = grows_each w (take_one s d) ds n (grows_one w s d n h)

grows_at : (l : Level) (w : Asked) (s : State) (ds : List Descriptor) → Grows w s (take_at l s ds)
grows_at Zero w s ds n h = h
grows_at One w s ds n h = grows_each w s ds n h

pub taken_grows : (w : Asked) (s : State) (ds : List Descriptor) → Grows w s (take_all s ds)
taken_grows w s ds = grows_at s.level w s ds

module _ {w : Asked} {T : Map Question → Type 0} where
  import_taken : (s : State) (k : SenderKind) (e : ℕ) → s.level ≡ One → Sound w T s → Sound w T (import_one s k e)
  import_taken s k e l h =
      let x = received k (map.get s.imports e) in
      let t : State = record s { imports = map.insert s.imports e x } in
      set_imports s (map.insert s.imports e x) h (grows_import w s e x)
      (each_put (HereIn w t) named_by_import s.imports e x (by (map.get s.imports e) refl) (λ j n i. grows_import w s e x n (let a = h.names in a.5 j n i)))
      (λ z. absurd (let bad : One ≡ Zero = sym l ∙ z in cc))
      (positive_put s.imports e x (more (map.get s.imports e)) h.counted)
    where
      more : (o : Option Import) → Counted (Some (received k o))
      more None = omega arith
      more (Some x) = omega arith

      by : (o : Option Import) → map.get s.imports e ≡ o → AllIn (HereIn w (import_one s k e)) (named_by_import e (received k o))
      by None f = all_none (HereIn w (import_one s k e))
      by (Some x) f = λ n i. grows_import w s e (received k (map.get s.imports e)) n (let a = h.names in each_at (HereIn w s) named_by_import s.imports e x a.5 f n i)

  one_taken : (s : State) (d : Descriptor) → s.level ≡ One → Sound w T s → Sound w T (take_one s d)
  one_taken s descriptor.None l h = h
  one_taken s (descriptor.SenderHosted e) l h = import_taken s kind.Hosted e.0 l h
  one_taken s (descriptor.SenderPromise e) l h = import_taken s kind.Promise e.0 l h
  one_taken s (descriptor.ReceiverHosted e) l h = h
  one_taken s (descriptor.ReceiverAnswer q path) l h = h

  each_taken : (s : State) (ds : List Descriptor) → s.level ≡ One → Sound w T s → Sound w T (take_each s ds)
  each_taken s [] l h = h
  each_taken s (d ∷ ds) l h = let e = took_one s d in each_taken (take_one s d) ds (e.3 ∙ l) (one_taken s d l h)

  taken_at_level : (l : Level) (s : State) (ds : List Descriptor) → s.level ≡ l → Sound w T s → Sound w T (take_at l s ds)
  taken_at_level Zero s ds e h = h
  taken_at_level One s ds e h = each_taken s ds e h

  pub taken : (s : State) (ds : List Descriptor) → Sound w T s → Sound w T (take_all s ds)
  taken s ds h = taken_at_level s.level s ds refl h

-- The ids that are taken are imports then.
sender_here : (s : State) (k : SenderKind) (e : ℕ) → Present (map.get (import_one s k e).imports e)
sender_here s k e = subst (λ (o : Option Import). Present o) (sym (get-insert_same s.imports e (received k (map.get s.imports e)))) tt

given_here : (w : Asked) (s : State) (ds : List Descriptor) → AllIn (HereIn w (take_each s ds)) (imports_of (export_ids (given ds)))
given_here w s [] = all_none (HereIn w s)
given_here w s (descriptor.None ∷ ds) = given_here w s ds
given_here w s (descriptor.SenderHosted e ∷ ds) =
    let t = import_one s kind.Hosted e.0 in
    let n = node.Import (record { 0 = e.0 }) in
    all_cons (HereIn w (take_each t ds)) n (imports_of (export_ids (given ds))) (grows_each w t ds n (sender_here s kind.Hosted e.0)) (given_here w t ds)
given_here w s (descriptor.SenderPromise e ∷ ds) =
    let t = import_one s kind.Promise e.0 in
    let n = node.Import (record { 0 = e.0 }) in
    all_cons (HereIn w (take_each t ds)) n (imports_of (export_ids (given ds))) (grows_each w t ds n (sender_here s kind.Promise e.0)) (given_here w t ds)
given_here w s (descriptor.ReceiverHosted e ∷ ds) = given_here w s ds
given_here w s (descriptor.ReceiverAnswer q path ∷ ds) = given_here w s ds

-- By the level: what holds of a state at each level holds of it.
taken_here_at : (w : Asked) (l : Level) (s : State) (ds : List Descriptor) → AllIn (HereIn w (take_all (record s { level = l }) ds)) (imports_of (export_ids (taken_of (record s { level = l }) ds)))
taken_here_at w Zero s ds = all_none (HereIn w (record s { level = Zero }))
taken_here_at w One s ds = given_here w (record s { level = One }) ds

pub taken_here : (w : Asked) (s : State) (ds : List Descriptor) → AllIn (HereIn w (take_all s ds)) (imports_of (export_ids (taken_of s ds)))
taken_here w s ds = taken_here_at w s.level s ds

-- ---- What is read

pub present : (who : Caller) (x : Option KeptOutcome) → IsFor who x → Present x
present who None h = h
present who (Some x) h = tt

zero_read : (P : Node → Type 0) (s : State) (ds : List Descriptor) → ((reason : Reason) → P (node.Broken reason)) → AllIn P (read_all (record s { level = Zero }) ds)
zero_read P s [] h = all_none P
zero_read P s (d ∷ ds) h = all_cons P _ (read_all (record s { level = Zero }) ds) (h _) (zero_read P s ds h)

module _ {w : Asked} {T : Map Question → Type 0} where
  one_read : (s t : State) (d : Descriptor) → Sound w T s → Grows w s t → HereIn w (take_one t d) (read_one s d)
  one_read s t descriptor.None h g = tt
  one_read s t (descriptor.SenderHosted e) h g = sender_here t kind.Hosted e.0
  one_read s t (descriptor.SenderPromise e) h g = sender_here t kind.Promise e.0
  one_read s t (descriptor.ReceiverHosted e) h g = g (export_node (map.get s.exports e.0)) (by (map.get s.exports e.0) refl)
    where
      by : (o : Option Export) → map.get s.exports e.0 ≡ o → HereIn w s (export_node o)
      by None f = tt
      by (Some x) f = let n = h.names in each_at (HereIn w s) named_by_export s.exports e.0 x n.6 f x.node (inl refl)
  one_read s t (descriptor.ReceiverAnswer q path) h g = g (answer_node path (map.get s.answers q.0)) (by (map.get s.answers q.0) (h.answers q.0))
    where
      by : (o : Option AnswerEntry) → HasOutcome s.outcomes q.0 o → HereIn w s (answer_node path o)
      by None f = tt
      by (Some a) f = present (peer q.0) (map.get s.outcomes a.outcome) f

  each_read : (s t : State) (ds : List Descriptor) → Sound w T (record s { level = One }) → Grows w s t → AllIn (HereIn w (take_each t ds)) (read_all (record s { level = One }) ds)
  each_read s t [] h g = all_none (HereIn w t)
  each_read s t (d ∷ ds) h g =
      let one : State = record s { level = One } in
      let u = take_one t d in
      all_cons (HereIn w (take_each u ds)) (read_one one d) (read_all one ds) (grows_each w u ds (read_one one d) (one_read one t d h g)) (each_read s u ds h (λ n i. grows_one w t d n (g n i)))

  read_at_level : (l : Level) (s : State) (ds : List Descriptor) → Sound w T (record s { level = l }) → AllIn (HereIn w (take_all (record s { level = l }) ds)) (read_all (record s { level = l }) ds)
  read_at_level Zero s ds h = zero_read (HereIn w s) s ds (λ reason. tt)
  read_at_level One s ds h = each_read s (record s { level = One }) ds h (λ n i. i)

  pub all_read : (s : State) (ds : List Descriptor) → Sound w T s → AllIn (HereIn w (take_all s ds)) (read_all s ds)
  all_read s ds h = read_at_level s.level s ds h

nodes_beside : (s : State) (ds : List Descriptor) → nodes (read_beside s ds) ≡ read_all s ds
nodes_beside s [] = refl
nodes_beside s (d ∷ ds) = ap (λ (ns : List Node). read s d ∷ ns) (nodes_beside s ds)

pub beside_read : {w : Asked} {T : Map Question → Type 0} (s : State) (ds : List Descriptor) → Sound w T s → AllIn (HereIn w (take_all s ds)) (nodes (read_beside s ds))
beside_read {w} s ds h = subst (λ (ns : List Node). AllIn (HereIn w (take_all s ds)) ns) (sym (nodes_beside s ds)) (all_read s ds h)

-- ---- What a Return brings

-- Each sender descriptor is read as its import.
module _ (s : State) (e : ℕ) where
  abbrev one : State
  one = record s { level = One }

  more : (n : Node) (a : ℕ) (ns : List Node) → a ≤ how_many (is_import e) ns → a ≤ how_many (is_import e) (n ∷ ns)
  more n a ns h = by (is_import e n)
    where
      by : (b : Bool) → a ≤ cond b (suc (how_many (is_import e) ns)) (how_many (is_import e) ns)
      by true = omega (arith, h)
      by false = h

  same : (i a : ℕ) (ns : List Node) → a ≤ how_many (is_import e) ns → cond (nat_eq e i) (suc a) a ≤ how_many (is_import e) (node.Import (record { 0 = i }) ∷ ns)
  same i a ns h = subst (λ (b : Bool). cond (nat_eq e i) (suc a) a ≤ cond b (suc (how_many (is_import e) ns)) (how_many (is_import e) ns)) (sides e i) (by (nat_eq e i))
    where
      by : (b : Bool) → cond b (suc a) a ≤ cond b (suc (how_many (is_import e) ns)) (how_many (is_import e) ns)
      by true = omega (arith, h)
      by false = h

  abbrev said : List Descriptor → ℕ
  said ds = how_many (nat_eq e) (given (descriptors_said (read_beside one ds)))

  as_often : (ds : List Descriptor) → said ds ≤ how_many (is_import e) (nodes (read_beside one ds))
  as_often [] = omega arith
  as_often (descriptor.None ∷ ds) = more (read one descriptor.None) (said ds) (nodes (read_beside one ds)) (as_often ds)
  as_often (descriptor.SenderHosted i ∷ ds) = same i.0 (said ds) (nodes (read_beside one ds)) (as_often ds)
  as_often (descriptor.SenderPromise i ∷ ds) = same i.0 (said ds) (nodes (read_beside one ds)) (as_often ds)
  as_often (descriptor.ReceiverHosted i ∷ ds) = more (read one (descriptor.ReceiverHosted i)) (said ds) (nodes (read_beside one ds)) (as_often ds)
  as_often (descriptor.ReceiverAnswer q path ∷ ds) = more (read one (descriptor.ReceiverAnswer q path)) (said ds) (nodes (read_beside one ds)) (as_often ds)

brought_at : (l : Level) (s : State) (x : Question) (payload : Payload) (ds : List Descriptor) → Brought l (Some (record x { returned = Some (back.Results payload (read_beside (record s { level = l }) ds)) }))
brought_at Zero s x payload ds = tt
brought_at One s x payload ds = λ e. as_often s e ds

pub brought_results : (s : State) (x : Question) (payload : Payload) (ds : List Descriptor) → Brought s.level (Some (record x { returned = Some (back.Results payload (read_beside s ds)) }))
brought_results s x payload ds = brought_at s.level s x payload ds
