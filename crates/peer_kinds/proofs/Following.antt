-- The kinds of the first names, as they are noted.
use Rattle.std.proofs.Common.{◌≡◌, ◌≢◌, ℕ, ◌+◌, ◌<◌, true, false, List, [], ◌∷◌, ◌++◌, length, map, take, drop, get_or, Some, None, Result, Ok, Err, refl, sym, ap, subst, ◌∙◌, eq-eqb}
use Rattle.std.proofs.lemmas.List.{drop_more, map_push, take_more, take-append-drop}
use Rattle.std.specs.Prelude.{Option, Bool, ◌==◌, if◌then◌else◌, unwrap_or, IfOk, OnOk}
use Rattle.rpc_msg.specs.Memory.{Memory}
use Rattle.std.specs.FinMap as finite
use Rattle.std.proofs.lemmas.Bool.{ne_eqb}
use Rattle.finite_maps.specs.Tally.{Map}
use Rattle.finite_maps.proofs.Gets.{at_each, get-insert_other, get-insert_same}
use Rattle.rpc_msg.specs.declared.ids.ExportId.{ExportId}
use Rattle.rpc_msg.specs.declared.parts.Descriptor.{Descriptor}
use Rattle.rpc_msg.specs.declared.parts.Descriptor.TheVariants as descriptor
use Rattle.rpc_machine.specs.declared.entries.SenderKind.{SenderKind}
use Rattle.rpc_machine.specs.declared.entries.SenderKind.TheVariants as kind
use Rattle.peer_kinds.specs.declared.standing.Standing.{Standing}
use Rattle.peer_kinds.specs.declared.standing.Standing.TheVariants as standing
use Rattle.peer_kinds.specs.Kinds.{Standings, first_kind, heard_descriptor, in_kind, kind_heard}
use Rattle.peer_kinds.specs.Noted.{Follows}

abbrev or_else : Option SenderKind → Option SenderKind → Option SenderKind
or_else None o = o
or_else (Some k) o = Some k

if_or : (b : Bool) (k : SenderKind) (o p : Option SenderKind) → (if b then Some k else or_else o p) ≡ or_else (if b then Some k else o) p
if_or true k o p = refl
if_or false k o p = refl

module _ (e : ExportId) where
  joined : (xs ys : List Descriptor) → first_kind e (xs ++ ys) ≡ or_else (first_kind e xs) (first_kind e ys)
  joined [] ys = refl
  joined (descriptor.None ∷ xs) ys = joined xs ys
  joined (descriptor.SenderHosted x ∷ xs) ys = ap (λ o. if x.0 == e.0 then Some kind.Hosted else o) (joined xs ys) ∙ if_or (x.0 == e.0) kind.Hosted (first_kind e xs) (first_kind e ys)
  joined (descriptor.SenderPromise x ∷ xs) ys = ap (λ o. if x.0 == e.0 then Some kind.Promise else o) (joined xs ys) ∙ if_or (x.0 == e.0) kind.Promise (first_kind e xs) (first_kind e ys)
  joined (descriptor.ReceiverHosted x ∷ xs) ys = joined xs ys
  joined (descriptor.ReceiverAnswer q path ∷ xs) ys = joined xs ys

  pub by_name : (k : SenderKind) (x : ExportId) (ys : List Descriptor) → first_kind e (in_kind k x ∷ ys) ≡ (if x.0 == e.0 then Some k else first_kind e ys)
  by_name kind.Hosted x ys = refl
  by_name kind.Promise x ys = refl

  pub own_name : (k : SenderKind) (ys : List Descriptor) → first_kind e (in_kind k e ∷ ys) ≡ Some k
  own_name k ys = by_name k e ys ∙ ap (λ b. if b then Some k else first_kind e ys) (eq-eqb e.0 e.0 refl)

  or_own : (o : Option SenderKind) (k : SenderKind) → or_else o (Some k) ≡ Some (unwrap_or o k)
  or_own None k = refl
  or_own (Some j) k = refl

  -- Behind these an export that is named is named first so.
  pub first_so_far : (before after : List Descriptor) (k : SenderKind) → first_kind e (before ++ in_kind k e ∷ after) ≡ Some (unwrap_or (first_kind e before) k)
  first_so_far before after k = joined before (in_kind k e ∷ after) ∙ ap (or_else (first_kind e before)) (own_name k after) ∙ or_own (first_kind e before) k

  or_none : (o : Option SenderKind) → or_else o None ≡ o
  or_none None = refl
  or_none (Some k) = refl

  -- The name of another one changes nothing.
  other_name : (before : List Descriptor) (x : ExportId) (k : SenderKind) → e.0 ≢ x.0 → first_kind e (before ++ in_kind k x ∷ []) ≡ first_kind e before
  other_name before x k apart =
      joined before (in_kind k x ∷ [])
      ∙ ap (or_else (first_kind e before)) (by_name k x [] ∙ ap (λ b. if b then Some k else None) (ne_eqb x.0 e.0 (λ same. apart (sym same))))
      ∙ or_none (first_kind e before)

  -- No name changes nothing.
  pub no_name : (before : List Descriptor) (d : Descriptor) → first_kind e (d ∷ []) ≡ None → first_kind e (before ++ d ∷ []) ≡ first_kind e before
  no_name before d none = joined before (d ∷ []) ∙ ap (or_else (first_kind e before)) none ∙ or_none (first_kind e before)

pub heard_name : (stands : Standings) (ds : List Descriptor) (k : SenderKind) (e : ExportId) → heard_descriptor stands ds (in_kind k e) ≡ in_kind (kind_heard (stands e) (first_kind e ds) k) e
heard_name stands ds kind.Hosted e = refl
heard_name stands ds kind.Promise e = refl

module _ (stands : Standings) (noted : Map SenderKind) (before : List Descriptor) (k : SenderKind) (e : ExportId) (follows : Follows stands noted before) where
  follows_at : (x : ExportId) (q : ℕ) → q ≢ e.0 → x.0 ≡ q → stands x ≡ None → finite.get noted x.0 ≡ first_kind x (before ++ in_kind k e ∷ [])
  follows_at x q apart is none = follows x none ∙ sym (other_name x before e k (λ same. apart (sym is ∙ same)))

  -- An export that the vat has is not noted.
  pub there_follows : (there : Standing) → stands e ≡ Some there → Follows stands noted (before ++ in_kind k e ∷ [])
  there_follows there is = λ x none.
      at_each (λ q. x.0 ≡ q → finite.get noted x.0 ≡ first_kind x (before ++ in_kind k e ∷ [])) e.0
      (λ same. absurd (let s : x ≡ e = ap (λ n. record { 0 = n }) same in let t : None ≡ Some there = sym none ∙ ap stands s ∙ is in cc))
      (λ q apart same. follows_at x q apart same none) x.0 refl

  -- One that it does not have is noted as it was named first.
  pub new_follows : (more : Map SenderKind) → stands e ≡ None → more ≡ finite.insert noted e.0 (unwrap_or (finite.get noted e.0) k) → Follows stands more (before ++ in_kind k e ∷ [])
  new_follows more is is_more = λ x none.
      at_each (λ q. x.0 ≡ q → finite.get more x.0 ≡ first_kind x (before ++ in_kind k e ∷ [])) e.0
      (λ same.
      let s : x ≡ e = ap (λ n. record { 0 = n }) same in
      subst (λ (y : ExportId). finite.get more y.0 ≡ first_kind y (before ++ in_kind k e ∷ [])) (sym s)
      (ap (λ (m : Map SenderKind). finite.get m e.0) is_more
      ∙ get-insert_same noted e.0 (unwrap_or (finite.get noted e.0) k)
      ∙ ap (λ (o : Option SenderKind). Some (unwrap_or o k)) (follows e is)
      ∙ sym (first_so_far e before [] k)))
      (λ q apart same.
      ap (λ (m : Map SenderKind). finite.get m x.0) is_more
      ∙ get-insert_other noted e.0 (unwrap_or (finite.get noted e.0) k) x.0 (λ one. apart (sym same ∙ one))
      ∙ follows_at x q apart same none) x.0 refl

-- How a name is heard, by what the vat has.
module _ (stands : Standings) (noted : Map SenderKind) (before after : List Descriptor) (k : SenderKind) (e : ExportId) (follows : Follows stands noted before) where
  abbrev Heard : Descriptor → Map SenderKind → Type 0
  Heard d new = (d ≡ heard_descriptor stands (before ++ in_kind k e ∷ after) (in_kind k e)) × Follows stands new (before ++ in_kind k e ∷ [])

  pub there_heard : (there : Standing) (j : SenderKind) (d : Descriptor) → Some there ≡ stands e → j ≡ kind_heard (Some there) None k → d ≡ in_kind j e → Heard d noted
  there_heard there j d is is_j is_d = (
    is_d
        ∙ ap (λ (j : SenderKind). in_kind j e) (is_j ∙ by_there there ∙ ap (λ (o : Option Standing). kind_heard o (first_kind e (before ++ in_kind k e ∷ after)) k) is)
        ∙ sym (heard_name stands (before ++ in_kind k e ∷ after) k e),
    there_follows stands noted before k e follows there (sym is),
  )
    where
      by_there : (there : Standing) → kind_heard (Some there) None k ≡ kind_heard (Some there) (first_kind e (before ++ in_kind k e ∷ after)) k
      by_there standing.Hosted = refl
      by_there standing.Promise = refl
      by_there standing.Resolved = refl

  pub new_heard : (d : Descriptor) (new : Map SenderKind) → None ≡ stands e → d ≡ in_kind (unwrap_or (finite.get noted e.0) k) e → new ≡ finite.insert noted e.0 (unwrap_or (finite.get noted e.0) k) → Heard d new
  new_heard d new is is_d is_new = (
    is_d
        ∙ ap (λ (o : Option SenderKind). in_kind (unwrap_or o k) e) (follows e (sym is))
        ∙ ap (λ (o : Option SenderKind). in_kind (unwrap_or o k) e) (sym (first_so_far e before after k))
        ∙ ap (λ (o : Option Standing). in_kind (kind_heard o (first_kind e (before ++ in_kind k e ∷ after)) k) e) is
        ∙ sym (heard_name stands (before ++ in_kind k e ∷ after) k e),
    new_follows stands noted before k e follows new (sym is) is_new,
  )

  pub ok_heard : (r : Result Descriptor Memory) (new : Map SenderKind) → None ≡ stands e → IfOk r (λ (d : Descriptor). d ≡ in_kind (unwrap_or (finite.get noted e.0) k) e)
      → OnOk r (new ≡ finite.insert noted e.0 (unwrap_or (finite.get noted e.0) k)) → IfOk r (λ (d : Descriptor). Heard d new)
  ok_heard (Ok d) new is is_d is_new = new_heard d new is is_d is_new
  ok_heard (Err m) new is is_d is_new = tt

-- A descriptor that names no export.
module _ (stands : Standings) (noted : Map SenderKind) (before after : List Descriptor) (follows : Follows stands noted before) where
  none_follows : (d : Descriptor) → ((e : ExportId) → first_kind e (d ∷ []) ≡ None) → Follows stands noted (before ++ d ∷ [])
  none_follows d none = λ e is. follows e is ∙ sym (no_name e before d (none e))

  pub others_heard : (d : Descriptor) → ((x : ExportId) → d ≡ descriptor.SenderHosted x → ⊥) → ((x : ExportId) → d ≡ descriptor.SenderPromise x → ⊥)
      → (d ≡ heard_descriptor stands (before ++ d ∷ after) d) × Follows stands noted (before ++ d ∷ [])
  others_heard descriptor.None hosted promise = (refl, none_follows descriptor.None (λ e. refl))
  others_heard (descriptor.SenderHosted x) hosted promise = absurd (hosted x refl)
  others_heard (descriptor.SenderPromise x) hosted promise = absurd (promise x refl)
  others_heard (descriptor.ReceiverHosted x) hosted promise = (refl, none_follows (descriptor.ReceiverHosted x) (λ e. refl))
  others_heard (descriptor.ReceiverAnswer q path) hosted promise = (refl, none_follows (descriptor.ReceiverAnswer q path) (λ e. refl))

-- One descriptor more of a list is heard.
module _ (stands : Standings) (ds : List Descriptor) (i : ℕ) (d : Descriptor) (lt : i < length ds) (is_d : d ≡ get_or ds i d) where
  whole : take i ds ++ d ∷ drop (i + 1) ds ≡ ds
  whole =
      ap (λ (x : Descriptor). take i ds ++ x ∷ drop (i + 1) ds) is_d
      ∙ ap (λ (xs : List Descriptor). take i ds ++ xs) (sym (drop_more ds i d lt))
      ∙ take-append-drop i ds

  so_far : take (i + 1) ds ≡ take i ds ++ d ∷ []
  so_far = take_more ds i d lt ∙ ap (λ (x : Descriptor). take i ds ++ x ∷ []) (sym is_d)

  pub kinds_more : (done more : List Descriptor) (h : Descriptor) → more ≡ done ++ h ∷ [] → done ≡ map (heard_descriptor stands ds) (take i ds) → h ≡ heard_descriptor stands (take i ds ++ d ∷ drop (i + 1) ds) d
      → more ≡ map (heard_descriptor stands ds) (take (i + 1) ds)
  kinds_more done more h is_more is_done is_h =
      is_more
      ∙ ap (λ (xs : List Descriptor). xs ++ h ∷ []) is_done
      ∙ ap (λ (x : Descriptor). map (heard_descriptor stands ds) (take i ds) ++ x ∷ []) (is_h ∙ ap (λ (xs : List Descriptor). heard_descriptor stands xs d) whole)
      ∙ sym (ap (map (heard_descriptor stands ds)) so_far ∙ map_push (heard_descriptor stands ds) (take i ds) d)

  pub follows_more : (m : Map SenderKind) → Follows stands m (take i ds ++ d ∷ []) → Follows stands m (take (i + 1) ds)
  follows_more m is = subst (λ (xs : List Descriptor). Follows stands m xs) (sym so_far) is
