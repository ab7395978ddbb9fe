-- What holds where nothing is held.
use Rattle.std.proofs.Common.{◌≡◌, ℕ, List, [], ◌∷◌, Option, length, refl, sym, ap, subst, ◌∙◌, arith}
use Rattle.std.specs.Ordering.{nat_cmp}
use Rattle.std.specs.FinMap as map
use Rattle.finite_maps.specs.Tally.{Map}
use Rattle.finite_maps.proofs.Tallies.{tally-empty}
use Rattle.rpc_msg.specs.declared.ids.Vat.{Vat}
use Rattle.rpc_msg.specs.declared.ids.ObjectId.{ObjectId}
use Rattle.rpc_machine.specs.declared.command.Level.{Level}
use Rattle.rpc_machine.specs.declared.node.Node.{Node}
use Rattle.rpc_machine.specs.declared.node.Node.TheVariants as node
use Rattle.rpc_machine.specs.declared.calls.HeldCall.{HeldCall}
use Rattle.rpc_machine.specs.declared.calls.Promise.{Promise}
use Rattle.rpc_machine.specs.declared.calls.KeptOutcome.{KeptOutcome}
use Rattle.rpc_machine.specs.declared.entries.Question.{Question}
use Rattle.rpc_machine.specs.declared.entries.AnswerEntry.{AnswerEntry}
use Rattle.rpc_machine.specs.declared.entries.Import.{Import}
use Rattle.rpc_machine.specs.declared.entries.Export.{Export}
use Rattle.rpc_machine.specs.declared.entries.Embargo.{Embargo}
use Rattle.rpc_machine.specs.declared.entries.Reference.{Reference}
use Rattle.rpc_machine.specs.State.{State, start}
use Rattle.rpc_machine.specs.Nodes.{all_links, links, is_promise, is_field, is_import, is_pipe}
use Rattle.rpc_machine.specs.Limits.{IsWithin, held, held_for_promise, held_for_outcome, held_under, import_count, export_count, made_through}
use Rattle.rpc_uses.specs.Objects.{is_the_object}
use Rattle.laws_acts.specs.Alike.{places_beside}
use Rattle.laws_acts.proofs.Nothing.{nothing_named}
use Rattle.core_refcounts.specs.Names.{Names, Counts, no_names, count_of, times_named}
use Rattle.core_store.specs.declared.store.Store.{Store}
use Rattle.core_store.specs.Holding.{state_of, IsFixed, IsTold, IsThere, IsNotedAs, IsCovered, IsNumbered, HasRooms, IsSound}

no_links : (es : List (ℕ × KeptOutcome)) → length es ≡ 0 → all_links es ≡ 0
no_links [] none = refl
no_links (e ∷ es) none = absurd (omega (arith, none))

no_entries : (X : Type 0) → length (map.entries (map.empty {X = X} {R = nat_cmp})) ≡ 0
no_entries X = sym (map.len-entries (map.empty {X = X} {R = nat_cmp})) ∙ map.len-empty nat_cmp X

none_counted : (k : ℕ) → count_of (let m : Map ℕ = map.empty in map.get m k) ≡ 0
none_counted k = ap count_of (map.get-empty nat_cmp k)

module _ (vat : Vat) (level : Level) (bootstrap : Option ObjectId) where
  abbrev new : State
  new = start vat level bootstrap

  links_new : links new ≡ 1
  links_new =
      let a = map.len-empty nat_cmp Promise in
      let b = no_links (map.entries map.empty) (no_entries KeptOutcome) in
      omega (arith, a, b)

  held_new : held new ≡ 0
  held_new =
      let a = tally-empty held_for_promise in
      let b = tally-empty held_for_outcome in
      let c = tally-empty held_under in
      omega (arith, a, b, c)

  within_new : IsWithin new
  within_new = record {
    questions = let a = map.len-empty nat_cmp Question in omega (arith, a);
    answers = let a = map.len-empty nat_cmp AnswerEntry in omega (arith, a);
    imports = let a = map.len-empty nat_cmp Import in omega (arith, a);
    exports = let a = map.len-empty nat_cmp Export in omega (arith, a);
    embargoes = let a = map.len-empty nat_cmp Embargo in omega (arith, a);
    held = let a = held_new in omega (arith, a);
    import_counts = λ e. let a : import_count (let m : Map Import = map.empty in map.get m e) ≡ 0 = ap import_count (map.get-empty nat_cmp e) in omega (arith, a);
    export_counts = λ e. let a : export_count (let m : Map Export = map.empty in map.get m e) ≡ 0 = ap export_count (map.get-empty nat_cmp e) in omega (arith, a);
    refs = omega arith;
    calls = omega arith;
    tasks = omega arith;
    promises = omega arith;
    made = λ r. let a : made_through (let m : Map Reference = map.empty in map.get m r) ≡ 0 = ap made_through (map.get-empty nat_cmp r) in omega (arith, a);
  }

  covered_new : IsCovered new no_names
  covered_new = record {
    promises = λ p h. absurd (subst IsFixed (map.get-empty nat_cmp p) h);
    outcomes = λ o h. absurd (subst (IsTold new o) (map.get-empty nat_cmp o) h);
    imports = λ e h. absurd (subst (λ (o : Option Import). IsThere o) (map.get-empty nat_cmp e) h);
    questions = λ q. subst (IsNotedAs new no_names.questions q) (sym (map.get-empty nat_cmp q)) tt;
  }

  counted_new : Counts no_names (places_beside [] new)
  counted_new =
      let none = nothing_named.new vat level bootstrap in
      record {
        promises = λ k. none_counted k ∙ sym (none (is_promise k));
        outcomes = λ k. none_counted k ∙ sym (none (is_field k));
        imports = λ k. none_counted k ∙ sym (none (is_import k));
        questions = λ k. none_counted k ∙ sym (none (is_pipe k));
        objects = λ k. none_counted k ∙ sym (none (is_the_object k));
      }

  numbered_new : IsNumbered new
  numbered_new = record { refs = λ k _. map.get-empty nat_cmp k; calls = λ k _. map.get-empty nat_cmp k; tasks = λ k _. map.get-empty nat_cmp k; unsettled = λ k _. map.get-empty nat_cmp k }

none_named : (n : Node) → times_named no_names n ≡ 0
none_named (node.Object o) = none_counted o.0
none_named (node.Promise p) = none_counted p
none_named (node.Field o path) = none_counted o
none_named (node.Import e) = none_counted e.0
none_named (node.Pipe q path) = none_counted q.0
none_named (node.Broken reason) = refl

pub no_room : (x : Store) → x.slack ≡ 0 → HasRooms x.slack x
no_room x none = record {
  questions = omega (arith, none);
  answers = omega (arith, none);
  imports = omega (arith, none);
  exports = omega (arith, none);
  refs = omega (arith, none);
  calls = omega (arith, none);
  tasks = omega (arith, none);
  unsettled = omega (arith, none);
  waits = omega (arith, none);
  names = record { promises = omega (arith, none); outcomes = omega (arith, none); imports = omega (arith, none); questions = omega (arith, none); objects = omega (arith, none) };
  notes = record { promises = omega (arith, none); outcomes = omega (arith, none); imports = omega (arith, none); questions = omega (arith, none) };
}

-- A store that holds nothing is sound.
pub sound_new : (x : Store) (vat : Vat) (level : Level) (bootstrap : Option ObjectId) → state_of x ≡ start vat level bootstrap → x.waits.taken ≡ [] → x.waits.held ≡ 0 → x.names ≡ no_names
    → x.slack ≡ 0 → x.added ≡ 1 → x.links ≡ 1 → IsSound x
sound_new x vat level bootstrap is taken waiting names slack added far = record {
  counted = subst (λ (c : Names). Counts c (places_beside x.waits.taken (state_of x))) (sym names)
      (subst (λ (hs : List HeldCall). Counts no_names (places_beside hs (state_of x))) (sym taken)
      (subst (λ (s : State). Counts no_names (places_beside [] s)) (sym is) (counted_new vat level bootstrap)));
  covered = subst (λ (c : Names). IsCovered (state_of x) c) (sym names) (subst (λ (s : State). IsCovered s no_names) (sym is) (covered_new vat level bootstrap));
  within = subst (λ (s : State). IsWithin s) (sym is) (within_new vat level bootstrap);
  numbered = subst (λ (s : State). IsNumbered s) (sym is) (numbered_new vat level bootstrap);
  holds = record {
    counted =
        let a : held (state_of x) ≡ 0 = ap held is ∙ held_new vat level bootstrap in
        let b : length x.waits.taken ≡ 0 = ap length taken in
        omega (arith, a, b, waiting);
    within = omega (arith, waiting);
  };
  far = far ∙ sym (ap links is ∙ links_new vat level bootstrap);
  bounded = record {
    names = λ n. let a : times_named x.names n ≡ 0 = ap (λ (c : Names). times_named c n) names ∙ none_named n in omega (arith, a);
    links = omega (arith, far, added);
    added = omega (arith, slack, added);
  };
  room = no_room x slack;
}
