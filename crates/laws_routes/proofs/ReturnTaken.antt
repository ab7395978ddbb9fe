-- A Return is taken, or a question comes back as not understood.
use Rattle.std.specs.FinMap as map
use Rattle.std.proofs.Common.{◌≡◌, ℕ, Bool, true, false, List, [], ◌∷◌, ◌++◌, Option, None, Some, IsSome, refl, sym, ap, subst, ◌∙◌, ap₂}
use Rattle.rpc_msg.specs.declared.message.Return.{Return}
use Rattle.rpc_msg.specs.declared.message.Resolve.{Resolve}
use Rattle.rpc_msg.specs.declared.message.ResolvedTo.{ResolvedTo}
use Rattle.rpc_msg.specs.declared.message.ResolvedTo.TheVariants as resolved
use Rattle.rpc_msg.specs.declared.message.PlainMessage.{PlainMessage}
use Rattle.rpc_msg.specs.declared.message.PlainMessage.TheVariants as plain
use Rattle.rpc_msg.specs.declared.message.Message as rpc
use Rattle.rpc_msg.specs.declared.message.Message.TheVariants as message
use Rattle.rpc_msg.specs.Messages.{given, descriptors_of_body, descriptors_of_resolved}
use Rattle.rpc_machine.specs.declared.entries.Finishing.{Finishing}
use Rattle.rpc_machine.specs.declared.entries.Finishing.TheVariants as finishing
use Rattle.rpc_machine.specs.declared.entries.Import.{Import}
use Rattle.rpc_machine.specs.declared.entries.Question.{Question}
use Rattle.rpc_machine.specs.declared.entries.Resolution.{Resolution}
use Rattle.rpc_machine.specs.declared.entries.Resolution.TheVariants as resolution
use Rattle.rpc_machine.specs.declared.entries.Returned.{Returned}
use Rattle.rpc_machine.specs.declared.entries.Role.{Role}
use Rattle.rpc_machine.specs.declared.entries.Role.TheVariants as role
use Rattle.rpc_machine.specs.State.{State}
use Rattle.rpc_machine.specs.Progress.{Progress, with_state, numbers}
use Rattle.rpc_machine.specs.Descriptors.{export_node, read, read_at, read_beside, take_all}
use Rattle.rpc_machine.specs.Flags.{obey}
use Rattle.rpc_machine.specs.Lists.{updated}
use Rattle.rpc_machine.specs.Sweeping.{IsNotSent}
use Rattle.rpc_machine.specs.Messages.{ComesBack, ComesFor, TakesReturn, kept_returned, resolve_import, results_of, set_resolution, take_resolve, value_of_results}
use Rattle.laws_order.specs.Machine as routing
use Rattle.laws_order.specs.Moves.{Done}
use Rattle.laws_routes.specs.Points.{routes}
use Rattle.laws_routes.specs.Views.{IsSession, past, sessions_at}
use Rattle.laws_routes.specs.Ties.{Around, Ghosts, Tied}
use Rattle.laws_routes.specs.Premises.{EachMayTake, ExportsAreOwn, OpenOf}
use Rattle.laws_routes.specs.Laws.{Comes, with_back}
use Rattle.laws_routes.specs.MessageLaws.{SameButImports}
use Rattle.laws_routes.specs.SayingLaws.{EachReadable, IsReadable, IsReadableIn, reads, resolution_by}
use Rattle.laws_routes.specs.QuietLaws.{MayLower}
use Rattle.laws_routes.specs.TakingLaws.{MayTakeReturn}
use Rattle.laws_routes.proofs.ApplicationTold.{application_told}
use Rattle.laws_acts.proofs.Alone.{all_alone}
use Rattle.laws_routes.proofs.ExportsLowered.{obeyed}
use Rattle.laws_routes.proofs.ImportsTaken.{descriptors_taken}
use Rattle.laws_routes.proofs.ReturnSent.{Fewer, fewer_tied}
use Rattle.laws_routes.proofs.SilentMessages.{silent_comes, silent_taken}
use Rattle.laws_routes.proofs.StepEnds.{question_gone, question_put}
use Rattle.finite_maps.proofs.Tested.{at_put}
use Rattle.std.specs.Prelude.{is_some}
use Rattle.finite_maps.specs.Tally.{Map}
use Rattle.rpc_msg.specs.declared.ids.Vat.{Vat}
use Rattle.rpc_msg.specs.declared.parts.Descriptor.{Descriptor}
use Rattle.rpc_msg.specs.declared.parts.Descriptor.TheVariants as descriptor
use Rattle.rpc_msg.specs.declared.message.ReturnBody.{ReturnBody}
use Rattle.rpc_msg.specs.declared.message.ReturnBody.TheVariants as body
use Rattle.rpc_msg.specs.Vats.{other_vat}
use Rattle.rpc_machine.specs.declared.command.Level.{Level}
use Rattle.rpc_machine.specs.declared.command.Level.TheVariants.{Zero, One}
use Rattle.rpc_machine.specs.declared.entries.Export.{Export}
use Rattle.rpc_machine.specs.declared.entries.Returned.TheVariants as returned_as
use Rattle.rpc_machine.specs.declared.node.Node.{Node}
use Rattle.laws_routes.specs.Ghosts.{Ghost, point}
use Rattle.laws_routes.specs.KnownLaws.{SamePoints}
use Rattle.laws_routes.specs.Sayings.{AllSaid, Has, KnownAt, KnownIsSo, SaidBy, SaidIfThere, SaidOfAnswer, SaidOfExport, bare, has_of, is_waiting, not_sent}
use Rattle.laws_routes.proofs.BecomesKnown.{resolve_known, return_known}
use Rattle.laws_routes.proofs.NewPoints.{own_alike}
use Rattle.laws_routes.proofs.SayingsCarried.{each_return, said_as_given}

-- What a question's session is by now.
abbrev behind : Around → Progress → Ghosts → ℕ → ℕ
behind w d g = past g.own (sessions_at g.theirs.outcome (w.other).answers) (w.out ++ d.effects.sends)

comes_for : (w : Around) (d : Progress) (g : Ghosts) (m : routing.State routes) (x : Role) (said : Returned) (new : Progress) → Tied w d g m → ComesFor d x (value_of_results said) new → Comes w new m [] []
comes_for w d g m (role.Relay o) said new t h = (g, m, Done, rw h t)
comes_for w d g m (role.Direct c) said new t h = let a = application_told w d g m [] c.0 (value_of_results said) new t h in (a.0, a.1, a.2, a.3)

-- A Return, once its descriptors are taken and its flag is obeyed.
comes_back : (w : Around) (d : Progress) (g : Ghosts) (m : routing.State routes) (q : ℕ) (x : Question) (said : Returned) (f : Finishing) (new : Progress) → Tied w d g m → map.get d.state.questions q ≡ Some x → x.finish ≡ f
    → (IsNotSent f → KnownAt w.vat (kept_returned d q x said).state g.own m.net) → ComesBack d q x said f new → Comes w new m [] []
comes_back w d g m q x said f new t e is known h = by f is known h
  where
    y : Question
    y = record x { returned = Some said }

    session : IsSession (g.own.session q) (behind w d g q) (Some y)
    session = let view = t.view in subst (IsSession (g.own.session q) (behind w d g q)) e (view.sessions q)

    kept : KnownAt w.vat (kept_returned d q x said).state g.own m.net → Tied w (kept_returned d q x said) g m
    kept known = question_put w d g m t q y session (λ i. subst (λ (o : Option Question). is_waiting o ≡ true) (sym e) i) known

    by : (f : Finishing) → x.finish ≡ f → (IsNotSent f → KnownAt w.vat (kept_returned d q x said).state g.own m.net) → ComesBack d q x said f new → Comes w new m [] []
    by finishing.Sent is known h = (g, m, Done, rw h (question_gone w d g m t q))
    by finishing.Owed is known h = comes_for w (kept_returned d q x said) g m x.role said new (kept (known tt)) h
    by finishing.Waived is known h = comes_for w (kept_returned d q x said) g m x.role said new (kept (known tt)) h

pub obeyed_questions : (s : State) (b : Bool) (es : List ℕ) → (obey s b es).questions ≡ s.questions
obeyed_questions s true es = refl
obeyed_questions s false es = refl

obeyed_known : (v : Vat) (g : Ghost) (m : routing.State routes) (d : Progress) (s : State) (b : Bool) (es : List ℕ) (q : ℕ) (x : Question) (said : Returned) → KnownAt v (kept_returned (with_state d s) q x said).state g m.net
    → KnownAt v (kept_returned (with_state d (obey s b es)) q x said).state g m.net
obeyed_known v g m d s true es q x said h = h
obeyed_known v g m d s false es q x said h = h

-- ---- What was said, once the descriptors are taken

module _ (s : State) (I : Map Import) where
  pub read_still : (l : Level) (c : Descriptor) → read_at l (record s { imports = I }) c ≡ read_at l s c
  read_still Zero c = refl
  read_still One descriptor.None = refl
  read_still One (descriptor.SenderHosted e) = refl
  read_still One (descriptor.SenderPromise e) = refl
  read_still One (descriptor.ReceiverHosted e) = refl
  read_still One (descriptor.ReceiverAnswer q path) = refl

  beside_still : (ds : List Descriptor) → read_beside (record s { imports = I }) ds ≡ read_beside s ds
  beside_still [] = refl
  beside_still (c ∷ ds) = ap₂ (λ n cs. (c, n) ∷ cs) (read_still s.level c) (beside_still ds)

  pub results_still : (x : ReturnBody) → results_of (record s { imports = I }) x ≡ results_of s x
  results_still (body.Results payload ds) = ap (λ cs. returned_as.Results payload cs) (beside_still ds)
  results_still (body.Exception exception) = refl
  results_still body.Canceled = refl

module _ (w : Around) (d : Progress) (g f : Ghosts) (m : routing.State routes) (same : SameButImports g f) (own : ExportsAreOwn d.state) (has : Has) where
  abbrev s : State
  s = d.state

  abbrev u : Vat
  u = other_vat w.vat

  own_points : SamePoints w.vat g.own f.own s.exports
  own_points e = by (map.get s.exports e) refl
    where
      by : (o : Option Export) → map.get s.exports e ≡ o → point w.vat f.own (export_node o) ≡ point w.vat g.own (export_node o)
      by None k = refl
      by (Some x) k = own_alike w.vat g.own f.own x.node same.0 same.1 (own e x k)

  abbrev Says : Ghosts → (ℕ → ℕ) → PlainMessage → Type 0
  Says h now x = SaidBy (bare m.net) u (w.other).exports h.theirs w.vat s.exports h.own has now x

  -- New imports are of no account to it.
  said_then : (x : PlainMessage) → OpenOf (λ k. f.theirs.session k ≡ g.theirs.session k) (message.Plain x) → Says g (sessions_at g.own.outcome s.answers) x → Says f (sessions_at f.own.outcome s.answers) x
  said_then x opens h =
      let a : AllSaid (bare m.net) u (w.other).exports f.theirs w.vat s.exports f.own has (sessions_at g.own.outcome s.answers) (message.Plain x ∷ []) =
      said_as_given (bare m.net) u (w.other).exports g.theirs f.theirs w.vat s.exports g.own f.own has (sessions_at g.own.outcome s.answers) (message.Plain x ∷ []) (λ e. ap (λ z. point u z (export_node (map.get (w.other).exports e))) same.3) own_points
      (opens, tt) (each_return _ (message.Plain x ∷ []) (λ k. ap (λ (z : ℕ → ℕ). z k) same.2)) (h, tt) in
      subst (λ (z : ℕ → ℕ). Says f (sessions_at z s.answers) x) (sym same.1) a.0

-- ---- A Return

pub return_taken : (w : Around) (d : Progress) (g : Ghosts) (m : routing.State routes) (r : Return) (x : Question) (rest : List rpc.Message) (new : Progress) → Tied (with_back w (message.Plain (plain.Return r) ∷ rest)) d g m
    → map.get d.state.questions r.answer.0 ≡ Some x → MayTakeReturn (with_back w rest) d r x → TakesReturn d r (Some x) new → Comes (with_back w rest) new m [] []
return_taken w d g m r x rest new t e may h =
    let a = descriptors_taken w' d g m ds (silent_taken w d g m (message.Plain (plain.Return r)) rest t tt) may.own may.takes in
    from (take_all d.state ds) (all_alone d.state ds) a.0 a.1 a.2 may.lowers may.readable h
  where
    w' : Around
    w' = with_back w rest

    ds : List Descriptor
    ds = descriptors_of_body r.body

    ids : List ℕ
    ids = numbers x.given

    q : ℕ
    q = r.answer.0

    flag : Bool
    flag = r.release_param_caps

    taken : (I : Map Import) (f : Ghosts) → Tied w' (with_state d (record (d.state) { imports = I })) f m → SameButImports g f → MayLower (obey (record (d.state) { imports = I }) flag ids) w.other (w.out ++ d.effects.sends) rest
        → (d.state.level ≡ One → EachReadable (record (d.state) { imports = I }) ds) → ComesBack (with_state d (obey (record (d.state) { imports = I }) flag ids)) q x (results_of d.state r.body) x.finish new → Comes w' new m [] []
    taken I f t' same lower readable k =
        let y : State = record (d.state) { imports = I } in
        let at_left : Tied w' (with_state d (obey y flag ids)) f m = obeyed w' (with_state d y) f m flag ids t' lower in
        comes_back w' (with_state d (obey y flag ids)) f m q x (results_of d.state r.body) x.finish new at_left (ap (λ z. map.get z q) (obeyed_questions y flag ids) ∙ e) refl
        (λ unsent. obeyed_known w.vat f.own m d y flag ids q x (results_of d.state r.body) (known unsent)) k
      where
        said : SaidIfThere (is_waiting (map.get d.state.questions q)) (SaidOfAnswer (bare m.net) (other_vat w.vat) (f.own.session q) (reads w' (record (d.state) { imports = I }) f) r.body)
        said = said_then w' d g f m same may.own (has_of [] (d.state).imports (d.state).questions) (plain.Return r) tt t.comes.0

        waits : (z : Finishing) → IsNotSent z → not_sent z ≡ true
        waits finishing.Owed i = refl
        waits finishing.Sent i = absurd i
        waits finishing.Waived i = refl

        known : IsNotSent x.finish → KnownAt w.vat (kept_returned (with_state d (record (d.state) { imports = I })) q x (results_of d.state r.body)).state f.own m.net
        known unsent = λ l.
            let so : SaidOfAnswer (bare m.net) (other_vat w.vat) (f.own.session q) (reads w' (record (d.state) { imports = I }) f) r.body =
            subst (λ (b : Bool). SaidIfThere b (SaidOfAnswer (bare m.net) (other_vat w.vat) (f.own.session q) (reads w' (record (d.state) { imports = I }) f) r.body)) (ap is_waiting e ∙ waits x.finish unsent) said in
            subst (λ (z : Returned). KnownIsSo w.vat (kept_returned (with_state d (record (d.state) { imports = I })) q x z).state f.own (bare m.net)) (results_still d.state I r.body)
            (return_known w' (with_state d (record (d.state) { imports = I })) f m q x r.body t' l (readable l) (may.whole unsent) so)

    from : (z : State) → z ≡ record (d.state) { imports = z.imports } → (f : Ghosts) → Tied w' (with_state d z) f m → SameButImports g f → MayLower (obey z flag ids) w.other (w.out ++ d.effects.sends) rest
        → (d.state.level ≡ One → EachReadable z ds) → ComesBack (with_state d (obey z flag ids)) q x (results_of d.state r.body) x.finish new → Comes w' new m [] []
    from z alone f t' same lower readable k =
        taken z.imports f (subst (λ (y : State). Tied w' (with_state d y) f m) alone t') same (subst (λ (y : State). MayLower (obey y flag ids) w.other (w.out ++ d.effects.sends) rest) alone lower)
        (λ l. subst (λ (y : State). EachReadable y ds) alone (readable l)) (subst (λ (y : State). ComesBack (with_state d (obey y flag ids)) q x (results_of d.state r.body) x.finish new) alone k)

-- ---- A Resolve

resolved_fewer : (m : _) (e : ℕ) (x : Import) (said : Resolution) → map.get m e ≡ Some x → Fewer m (map.insert m e (set_resolution said x))
resolved_fewer m e x said f = at_put (λ j o. IsSome o → IsSome (map.get m j)) m e (set_resolution said x) (λ i. subst (λ (o : Option Import). IsSome o) (sym f) refl) (λ j n i. i)

resolved_tied : (w : Around) (d : Progress) (g : Ghosts) (m : routing.State routes) (e : ℕ) (said : Resolution) (before : Option Import) → Tied w d g m → KnownAt w.vat (resolve_import d.state e said before) g.own m.net
    → Tied w (with_state d (resolve_import d.state e said before)) g m
resolved_tied w d g m e said None t known = t
resolved_tied w d g m e said (Some x) t known = by (map.get d.state.imports e) refl known
  where
    by : (o : Option Import) → map.get d.state.imports e ≡ o → KnownAt w.vat (record (d.state) { imports = updated d.state.imports e (set_resolution said) o }) g.own m.net
        → Tied w (with_state d (record (d.state) { imports = updated d.state.imports e (set_resolution said) o })) g m
    by None f k = t
    by (Some y) f k = fewer_tied w d g m t (map.insert d.state.imports e (set_resolution said y)) (resolved_fewer d.state.imports e y said f) k

-- It is known, if there was such an import.
resolve_kept : (w : Around) (d : Progress) (g : Ghosts) (m : routing.State routes) (e : ℕ) (to : ResolvedTo) (before : Option Import) → Tied w d g m → (d.state.level ≡ One → IsReadableIn d.state to)
    → SaidIfThere (is_some before) (SaidOfExport (bare m.net) (other_vat w.vat) g.theirs (map.get w.other.exports e) (reads w d.state g) to) → KnownAt w.vat (resolve_import d.state e (resolution_by d.state to) before) g.own m.net
resolve_kept w d g m e to None t readable said = t.known
resolve_kept w d g m e to (Some z) t readable said = λ l. resolve_known w d g m e to (Some z) t l (readable l) said

pub resolve_taken : (w : Around) (d : Progress) (g : Ghosts) (m : routing.State routes) (r : Resolve) (rest : List rpc.Message) → Tied (with_back w (message.Plain (plain.Resolve r) ∷ rest)) d g m
    → ExportsAreOwn d.state → EachMayTake d.state w.other (given (descriptors_of_resolved r.to))
    → (d.state.level ≡ One → IsReadableIn (take_all d.state (descriptors_of_resolved r.to)) r.to) → (f : Ghosts) × Tied (with_back w rest) (with_state d (take_resolve d.state r.promise.0 r.to)) f m × SameButImports g f
resolve_taken w d g m r rest t own may readable = by r.to t may readable
  where
    w' : Around
    w' = with_back w rest

    e : ℕ
    e = r.promise.0

    before : Option Import
    before = map.get d.state.imports e

    by : (to : ResolvedTo) → Tied (with_back w (message.Plain (plain.Resolve (record { promise = r.promise; to = to })) ∷ rest)) d g m → EachMayTake d.state w.other (given (descriptors_of_resolved to))
        → (d.state.level ≡ One → IsReadableIn (take_all d.state (descriptors_of_resolved to)) to) → (f : Ghosts) × Tied w' (with_state d (take_resolve d.state e to)) f m × SameButImports g f
    by (resolved.Cap c) t k l =
        let a = descriptors_taken w' d g m (c ∷ []) (silent_taken w d g m (message.Plain (plain.Resolve (record { promise = r.promise; to = resolved.Cap c }))) rest t tt) own k in
        from (take_all d.state (c ∷ [])) (all_alone d.state (c ∷ [])) a.0 a.1 a.2 l
      where
        taken : (I : Map Import) (f : Ghosts) → Tied w' (with_state d (record (d.state) { imports = I })) f m → SameButImports g f → (d.state.level ≡ One → IsReadable (record (d.state) { imports = I }) c)
            → Tied w' (with_state d (resolve_import (record (d.state) { imports = I }) e (resolution.To c (read d.state c)) before)) f m
        taken I f t' same readable =
            let y : State = record (d.state) { imports = I } in
            let said = said_then w' d g f m same own (has_of [] (d.state).imports (d.state).questions) (plain.Resolve (record { promise = r.promise; to = resolved.Cap c })) tt t.comes.0 in
            let known : KnownAt w.vat (resolve_import y e (resolution.To c (read y c)) before) f.own m.net = resolve_kept w' (with_state d y) f m e (resolved.Cap c) before t' readable said in
            resolved_tied w' (with_state d y) f m e (resolution.To c (read d.state c)) before t'
            (subst (λ (n : Node). KnownAt w.vat (resolve_import y e (resolution.To c n) before) f.own m.net) (read_still d.state I d.state.level c) known)

        from : (z : State) → z ≡ record (d.state) { imports = z.imports } → (f : Ghosts) → Tied w' (with_state d z) f m → SameButImports g f → (d.state.level ≡ One → IsReadable z c)
            → (f : Ghosts) × Tied w' (with_state d (resolve_import z e (resolution.To c (read d.state c)) before)) f m × SameButImports g f
        from z alone f t' same readable = (
          f,
          subst (λ (y : State). Tied w' (with_state d (resolve_import y e (resolution.To c (read d.state c)) before)) f m) (sym alone)
              (taken z.imports f (subst (λ (y : State). Tied w' (with_state d y) f m) alone t') same (λ l. subst (λ (y : State). IsReadable y c) alone (readable l))),
          same,
        )
    by (resolved.Exception exception) t k l =
        let t' : Tied w' d g m = silent_comes w d g m (message.Plain (plain.Resolve (record { promise = r.promise; to = resolved.Exception exception }))) rest t tt in
        (g, resolved_tied w' d g m e (resolution.Exception exception) before t' (resolve_kept w' d g m e (resolved.Exception exception) before t' (λ z. tt) t.comes.0), (refl, refl, refl, refl, refl))
