-- What the words of the machine change of a state: one table, and nothing else.
use Rattle.std.proofs.Common.{◌≡◌, inl, inr, ℕ, ◌+◌, Bool, true, false, List, [], ◌∷◌, Option, None, Some, refl, sym, ap, subst, ◌∙◌}
use Rattle.std.specs.FinMap as map
use Rattle.rpc_machine.specs.rpc_msg.specs.declared.parts.Descriptor.{Descriptor}
use Rattle.rpc_machine.specs.rpc_msg.specs.declared.parts.Descriptor.TheVariants as descriptor
use Rattle.rpc_machine.specs.rpc_msg.specs.declared.message.ReturnBody.{ReturnBody}
use Rattle.rpc_machine.specs.rpc_msg.specs.declared.message.ResolvedTo.{ResolvedTo}
use Rattle.rpc_machine.specs.rpc_msg.specs.declared.message.ResolvedTo.TheVariants as resolved
use Rattle.rpc_machine.specs.rpc_msg.specs.Payloads.{Contents as Payload}
use Rattle.finite_maps.specs.Tally.{Map}
use Rattle.rpc_machine.specs.declared.node.Node.{Node}
use Rattle.rpc_machine.specs.declared.node.Node.TheVariants as node
use Rattle.rpc_machine.specs.declared.calls.HeldCall.{HeldCall}
use Rattle.rpc_machine.specs.declared.calls.Promise.{Promise}
use Rattle.rpc_machine.specs.declared.calls.Promise.TheVariants as promise
use Rattle.rpc_machine.specs.declared.calls.Value.{Value}
use Rattle.rpc_machine.specs.declared.calls.Value.TheVariants as value
use Rattle.rpc_machine.specs.declared.calls.Caller.{Caller}
use Rattle.rpc_machine.specs.declared.command.Level.{Level}
use Rattle.rpc_machine.specs.declared.command.Level.TheVariants.{Zero, One}
use Rattle.rpc_machine.specs.declared.entries.Export.{Export}
use Rattle.rpc_machine.specs.declared.entries.Import.{Import}
use Rattle.rpc_machine.specs.declared.entries.Reference.{Reference}
use Rattle.rpc_machine.specs.declared.calls.OwnCall.{OwnCall}
use Rattle.rpc_machine.specs.declared.entries.Resolution.{Resolution}
use Rattle.rpc_machine.specs.State.{State}
use Rattle.rpc_machine.specs.Nodes.{settle}
use Rattle.rpc_machine.specs.Progress.{with_refs}
use Rattle.rpc_machine.specs.Descriptors.{ExportedAs, Exported, Described, DescribesAll, take_one, take_each, take_at, take_all}
use Rattle.rpc_machine.specs.Flags.{give_if, give_back, flag_for, obey}
use Rattle.rpc_machine.specs.Settling.{PutsIn, Untangles, Fits, SaysBack}
use Rattle.rpc_machine.specs.Messages.{resolve_import, take_resolve}
use Rattle.laws_acts.specs.GoingOut.{is_own, said, GoesOut, Again, AsNew, AsOther, GoOut, Says}

pub refs_alone : (s : State) (ns : List Node) → with_refs s ns ≡ record s { refs = (with_refs s ns).refs; next_ref = (with_refs s ns).next_ref }
refs_alone s [] = refl
refs_alone s (n ∷ ns) = refs_alone (record s { refs = map.insert s.refs s.next_ref (record { head = n; embargo = None; made = 0 }); next_ref = s.next_ref + 1 }) ns

-- ---- Exports

exported : (s : State) (n : Node) (e : ℕ) (o : Option Export) (new : State) → is_own n ≡ true → map.get s.exports e ≡ o → ExportedAs s n e o new → (m : Map Export) × GoesOut s.exports n (said n e) m × (new ≡ record s { exports = m })
exported s n e None new own f h = (_, AsNew e own refl f h.0 refl, h.1)
exported s n e (Some x) new own f h = (_, Again e x own refl f h.0 refl, h.1)

said_so : (s : State) (n : Node) (d e : Descriptor) (new : State) → d ≡ e → (m : Map Export) × GoesOut s.exports n e m × (new ≡ record s { exports = m }) → (m : Map Export) × GoesOut s.exports n d m × (new ≡ record s { exports = m })
said_so s n d e new f h = (h.0, subst (λ (x : Descriptor). GoesOut s.exports n x h.0) (sym f) h.1, h.2)

pub described : (s : State) (n : Node) (d : Descriptor) (new : State) → Described s n d new → (m : Map Export) × GoesOut s.exports n d m × (new ≡ record s { exports = m })
described s (node.Object o) d new h = said_so s _ d _ new h.1 (exported s (node.Object o) h.0 (map.get s.exports h.0) new refl refl h.2)
described s (node.Promise p) d new h = said_so s _ d _ new h.1 (exported s (node.Promise p) h.0 (map.get s.exports h.0) new refl refl h.2)
described s (node.Field o path) d new h = said_so s _ d _ new h.1 (exported s (node.Field o path) h.0 (map.get s.exports h.0) new refl refl h.2)
described s (node.Import e) d new h = (s.exports, AsOther refl h.0 refl, h.1)
described s (node.Pipe q path) d new h = (s.exports, AsOther refl h.0 refl, h.1)
described s (node.Broken reason) d new h = (s.exports, AsOther refl h.0 refl, h.1)

-- Where nodes settle does not depend on the exports.
settle_so : (s : State) (k es : Map Export) (ns : List Node) (ds : List Descriptor) (m : Map Export) → GoOut (record s { exports = k }) es ns ds m → GoOut s es ns ds m
settle_so s k es [] [] m h = h
settle_so s k es [] (d ∷ ds) m h = absurd h
settle_so s k es (n ∷ ns) [] m h = absurd h
settle_so s k es (n ∷ ns) (d ∷ ds) m h = (h.0, h.1, settle_so s k h.0 ns ds m h.2)

-- Nor do references, calls and questions.
pub same_out : (s : State) (rs : Map Reference) (cs : Map OwnCall) (n : ℕ) (es : Map Export) (ns : List Node) (ds : List Descriptor) (m : Map Export) → GoOut (record s { refs = rs; calls = cs; next_call = n }) es ns ds m → GoOut s es ns ds m
same_out s rs cs n es [] [] m h = h
same_out s rs cs n es [] (d ∷ ds) m h = absurd h
same_out s rs cs n es (k ∷ ns) [] m h = absurd h
same_out s rs cs n es (k ∷ ns) (d ∷ ds) m h = (h.0, h.1, same_out s rs cs n h.0 ns ds m h.2)

pub go_out : (s : State) (ns : List Node) (ds : List Descriptor) (new : State) → DescribesAll s ns ds new → (m : Map Export) × GoOut s s.exports ns ds m × (new ≡ record s { exports = m })
go_out s [] [] new h = (s.exports, refl, h)
go_out s [] (d ∷ ds) new h = absurd h
go_out s (n ∷ ns) [] new h = absurd h
go_out s (n ∷ ns) (d ∷ ds) new h =
    let a = described s (settle s n) d h.0 h.1 in
    let t : State = record s { exports = a.0 } in
    let b = go_out t ns ds new (subst (λ (u : State). DescribesAll u ns ds new) a.2 h.2) in
    (b.0, (a.0, a.1, settle_so s a.0 a.0 ns ds b.0 b.1), b.2)

pub says : (s : State) (b : Bool) (v : Value) (said : ReturnBody) (ds : List Descriptor) (new : State) → SaysBack s b v said ds new → (m : Map Export) × Says s b v said ds m × (new ≡ record s { exports = m })
says s true v said ds new h = (s.exports, (h.0, h.1, refl), h.2)
says s false (value.Exception x) said ds new h = (s.exports, (h.0, h.1, refl), h.2)
says s false (value.Results payload caps) said ds new h = let a = go_out s caps ds new h.1 in (a.0, (h.0, a.1), a.2)

pub obey_alone : (s : State) (b : Bool) (ids : List ℕ) → obey s b ids ≡ record s { exports = (obey s b ids).exports }
obey_alone s false ids = refl
obey_alone s true ids = refl

-- ---- Imports

give_alone : (s : State) (b : Bool) (ids : List ℕ) → give_if s b ids ≡ record s { imports = (give_if s b ids).imports }
give_alone s false ids = refl
give_alone s true ids = refl

pub back_alone : (s : State) (ids : List ℕ) → give_back s ids ≡ record s { imports = (give_back s ids).imports }
back_alone s ids = give_alone s (flag_for s ids) ids

pub one_alone : (s : State) (d : Descriptor) → take_one s d ≡ record s { imports = (take_one s d).imports }
one_alone s descriptor.None = refl
one_alone s (descriptor.SenderHosted e) = refl
one_alone s (descriptor.SenderPromise e) = refl
one_alone s (descriptor.ReceiverHosted e) = refl
one_alone s (descriptor.ReceiverAnswer q path) = refl

pub each_alone : (s : State) (ds : List Descriptor) → take_each s ds ≡ record s { imports = (take_each s ds).imports }
each_alone s [] = refl
each_alone s (d ∷ ds) =
    let t : State = take_one s d in
    each_alone t ds ∙ ap (λ (u : State). record u { imports = (take_each t ds).imports }) (one_alone s d)

take_alone : (s : State) (l : Level) (ds : List Descriptor) → take_at l s ds ≡ record s { imports = (take_at l s ds).imports }
take_alone s Zero ds = refl
take_alone s One ds = each_alone s ds

pub all_alone : (s : State) (ds : List Descriptor) → take_all s ds ≡ record s { imports = (take_all s ds).imports }
all_alone s ds = take_alone s s.level ds

resolution_alone : (s t : State) (e : ℕ) (k : Resolution) (o : Option Import) → t ≡ record s { imports = t.imports } → resolve_import t e k o ≡ record s { imports = (resolve_import t e k o).imports }
resolution_alone s t e k None h = h
resolution_alone s t e k (Some x) h = ap (λ (u : State). record u { imports = (resolve_import t e k (Some x)).imports }) h

pub resolve_alone : (s : State) (e : ℕ) (to : ResolvedTo) → take_resolve s e to ≡ record s { imports = (take_resolve s e to).imports }
resolve_alone s e (resolved.Exception x) = resolution_alone s s e _ (map.get s.imports e) refl
resolve_alone s e (resolved.Cap d) = resolution_alone s (take_all s (d ∷ [])) e _ (map.get s.imports e) (all_alone s (d ∷ []))

-- ---- Promises

puts_alone : (s mid : State) (o : ℕ) (who : Caller) (w : List HeldCall) (p : Payload) (k : ℕ) (n : Node) (rest out : List Node) (new : State) → mid ≡ record s { promises = mid.promises } → PutsIn mid o who w p k n rest out new → new ≡ record s { promises = new.promises }
puts_alone s mid o who w p k n rest out new f (inl h) = rw h.2 f
puts_alone s mid o who w p k n rest out new f (inr h) = let g = h.1 in let m : Map Promise = map.insert mid.promises g.0 (promise.Open []) in rw g.3 (ap (λ (u : State). record u { promises = m }) f)

untangles_alone : (s : State) (o : ℕ) (who : Caller) (w : List HeldCall) (p : Payload) (k : ℕ) (ns out : List Node) (new : State) → Untangles s o who w p k ns out new → new ≡ record s { promises = new.promises }
untangles_alone s o who w p k [] out new h = rw h.1 refl
untangles_alone s o who w p k (n ∷ ns) out new h = puts_alone s h.1 o who w p k n h.0 out new (untangles_alone s o who w p (k + 1) ns h.0 h.1 h.2) h.3

pub fits_alone : (s : State) (o : ℕ) (who : Caller) (w : List HeldCall) (v fit : Value) (new : State) → Fits s o who w v fit new → new ≡ record s { promises = new.promises }
fits_alone s o who w (value.Exception x) fit new h = rw h.1 refl
fits_alone s o who w (value.Results p ns) fit new h = untangles_alone s o who w p 0 ns h.0 new h.2

-- ---- What acts say of exports, in the machine's words

module _ (t : State) where
  abbrev with_exports : Map Export → State
  with_exports es = record t { exports = es }

  own_out : (es : Map Export) (n : Node) (d : Descriptor) (m : Map Export) → is_own n ≡ true → GoesOut es n d m → (e : ℕ) × (d ≡ said n e) × Exported (with_exports es) n e (with_exports m)
  own_out es n d m own (Again e x k f there same h) = (e, f, subst (λ (o : Option Export). ExportedAs (with_exports es) n e o (with_exports m)) (sym there) (same, ap with_exports h))
  own_out es n d m own (AsNew e k f free none h) = (e, f, subst (λ (o : Option Export). ExportedAs (with_exports es) n e o (with_exports m)) (sym free) (none, ap with_exports h))
  own_out es n d m own (AsOther k f h) = absurd (let bad : true ≡ false = sym own ∙ k in cc)

  other_out : (es : Map Export) (n : Node) (d : Descriptor) (m : Map Export) → is_own n ≡ false → GoesOut es n d m → (d ≡ said n 0) × (with_exports m ≡ with_exports es)
  other_out es n d m other (Again e x k f there same h) = absurd (let bad : true ≡ false = sym k ∙ other in cc)
  other_out es n d m other (AsNew e k f free none h) = absurd (let bad : true ≡ false = sym k ∙ other in cc)
  other_out es n d m other (AsOther k f h) = (f, ap with_exports h)

  pub describes : (es : Map Export) (n : Node) (d : Descriptor) (m : Map Export) → GoesOut es n d m → Described (with_exports es) n d (with_exports m)
  describes es (node.Object o) d m h = own_out es (node.Object o) d m refl h
  describes es (node.Promise p) d m h = own_out es (node.Promise p) d m refl h
  describes es (node.Field o path) d m h = own_out es (node.Field o path) d m refl h
  describes es (node.Import e) d m h = other_out es (node.Import e) d m refl h
  describes es (node.Pipe q path) d m h = other_out es (node.Pipe q path) d m refl h
  describes es (node.Broken reason) d m h = other_out es (node.Broken reason) d m refl h

  -- The nodes may be those of another state, if they settle alike there.
  pub describes_all : (s : State) → ((n : Node) → settle s n ≡ settle t n) → (es : Map Export) (ns : List Node) (ds : List Descriptor) (m : Map Export) → GoOut s es ns ds m → DescribesAll (with_exports es) ns ds (with_exports m)
  describes_all s f es [] [] m h = ap with_exports h
  describes_all s f es [] (d ∷ ds) m h = absurd h
  describes_all s f es (n ∷ ns) [] m h = absurd h
  describes_all s f es (n ∷ ns) (d ∷ ds) m h = (with_exports h.0, subst (λ (k : Node). Described (with_exports es) k d (with_exports h.0)) (f n) (describes es (settle s n) d h.0 h.1), describes_all s f h.0 ns ds m h.2)

  pub says_back : (b : Bool) (v : Value) (said : ReturnBody) (ds : List Descriptor) (m : Map Export) → Says t b v said ds m → SaysBack t b v said ds (with_exports m)
  says_back true v said ds m h = (h.0, h.1, ap with_exports h.2)
  says_back false (value.Exception x) said ds m h = (h.0, h.1, ap with_exports h.2)
  says_back false (value.Results payload caps) said ds m h = (h.0, describes_all t (λ n. refl) t.exports caps ds m h.1)
