-- A command is refused the same with other numbers; and limits are kept.
use Rattle.std.proofs.Common.{◌≡◌, ℕ, ◌||◌, ◌&&◌, not, Bool, true, false, cond, List, [], ◌∷◌, ◌++◌, map, Option, None, Some, is_some, refl, sym, ap, subst, ◌∙◌}
use Rattle.finite_maps.proofs.Values.{entries-map_values, get-map_values, len-map_values}
use Rattle.std.specs.FinMap as finite
use Rattle.finite_maps.specs.Tally.{Map, map_values, option_changed, changed_each}
use Rattle.rpc_msg.specs.declared.ids.ObjectId.{ObjectId}
use Rattle.rpc_msg.specs.declared.ids.RefId.{RefId}
use Rattle.rpc_msg.specs.declared.ids.EmbargoId.{EmbargoId}
use Rattle.rpc_msg.specs.declared.parts.Descriptor.{Descriptor}
use Rattle.rpc_msg.specs.declared.parts.Descriptor.TheVariants as descriptor
use Rattle.rpc_machine.specs.declared.node.Node.{Node}
use Rattle.rpc_machine.specs.declared.node.Node.TheVariants as node
use Rattle.rpc_machine.specs.declared.entries.Import.{Import}
use Rattle.rpc_machine.specs.declared.entries.Export.{Export}
use Rattle.rpc_machine.specs.declared.entries.Reference.{Reference}
use Rattle.rpc_machine.specs.declared.command.Command.{Command}
use Rattle.rpc_machine.specs.declared.command.Command.TheVariants as command
use Rattle.rpc_machine.specs.declared.command.Refusal.{Refusal}
use Rattle.rpc_machine.specs.State.{State}
use Rattle.laws_numbers_hidden.specs.Renamed.{node_by, embargo_by, question_by, reference_by, import_by, export_by, state_by, command_by}
use Rattle.laws_numbers_hidden.specs.Steps.{KeepsApart}
use Rattle.std.specs.Prelude.{nat_eq, nat_le, ◌≤◌, ◌<◌}
use Rattle.std.specs.List.{list_all}
use Rattle.finite_maps.proofs.Tested.{equal, itself}
use Rattle.rpc_journal.specs.History.{if_so}
use Rattle.rpc_machine.specs.declared.command.Refusal.TheVariants as refusal
use Rattle.rpc_machine.specs.Lists.{earliest, is_empty}
use Rattle.rpc_machine.specs.Nodes.{settle, is_promise, is_same_node}
use Rattle.rpc_machine.specs.Limits.{table_limit, held_limit, count_limit, number_limit, held, import_count, export_count, made_through, IsWithin}
use Rattle.rpc_machine.specs.Advancing.{Known, NothingYet, IsBroken, Leads, known_of_wire}
use Rattle.rpc_machine.specs.Commands.{heads}
use Rattle.rpc_machine.specs.Fullness.{has_no_room, is_spent, is_exportable, going_out, count_among, count_of, name_lacks_room, size_then, one_more, counts_then, names_lack_room, exports_lack_room, lacks_room_at, lacks_room_through, call_lacks_room, switch_lacks_room, advance_by, advance_through, advance_lacks_room, lacks_room}
use Rattle.rpc_machine.specs.Refusals.{is_known_ref, unknown_ref, unknown_task, unknown_promise, wrong_level, wrong_caps, leads_to, refusals, is_shut, refused}
use Rattle.laws_numbers_hidden.proofs.Settles.{length-map, asked, settles, same_settled}
use Rattle.laws_numbers_hidden.proofs.Advanced.{learned_by, known_so}
use Rattle.laws_numbers_hidden.proofs.Commanded.{heads_so}
use Rattle.laws_numbers_hidden.proofs.Faulted.{some_same, same_held}

module _ (f : ObjectId → ObjectId) (one : KeepsApart f) where
  abbrev N : Node → Node
  N = node_by f

  same_number : (o x : ObjectId) → nat_eq (f o).0 (f x).0 ≡ nat_eq o.0 x.0
  same_number o x = by (nat_eq o.0 x.0) (nat_eq (f o).0 (f x).0) refl refl
    where
      by : (b c : Bool) → nat_eq o.0 x.0 ≡ b → nat_eq (f o).0 (f x).0 ≡ c → nat_eq (f o).0 (f x).0 ≡ nat_eq o.0 x.0
      by true true d e = e ∙ sym d
      by false false d e = e ∙ sym d
      by true false d e =
          let k : o ≡ x = ap (λ (n : ℕ). record { 0 = n }) (equal o.0 x.0 d) in
          let t : nat_eq (f o).0 (f x).0 ≡ true = ap (λ (y : ObjectId). nat_eq (f o).0 (f y).0) (sym k) ∙ itself (f o).0 in
          t ∙ sym d
      by false true d e =
          let k : f o ≡ f x = ap (λ (n : ℕ). record { 0 = n }) (equal (f o).0 (f x).0 e) in
          let t : nat_eq o.0 x.0 ≡ true = ap (λ (y : ObjectId). nat_eq o.0 y.0) (sym (one o x k)) ∙ itself o.0 in
          e ∙ sym t

  same_nodes : (m n : Node) → is_same_node (N m) (N n) ≡ is_same_node m n
  same_nodes (node.Object o) (node.Object x) = same_number o x
  same_nodes (node.Object o) (node.Promise y) = refl
  same_nodes (node.Object o) (node.Field x y) = refl
  same_nodes (node.Object o) (node.Import x) = refl
  same_nodes (node.Object o) (node.Pipe x y) = refl
  same_nodes (node.Object o) (node.Broken x) = refl
  same_nodes (node.Promise p) (node.Object x) = refl
  same_nodes (node.Promise p) (node.Promise y) = refl
  same_nodes (node.Promise p) (node.Field x y) = refl
  same_nodes (node.Promise p) (node.Import x) = refl
  same_nodes (node.Promise p) (node.Pipe x y) = refl
  same_nodes (node.Promise p) (node.Broken x) = refl
  same_nodes (node.Field o path) (node.Object x) = refl
  same_nodes (node.Field o path) (node.Promise y) = refl
  same_nodes (node.Field o path) (node.Field x y) = refl
  same_nodes (node.Field o path) (node.Import x) = refl
  same_nodes (node.Field o path) (node.Pipe x y) = refl
  same_nodes (node.Field o path) (node.Broken x) = refl
  same_nodes (node.Import e) (node.Object x) = refl
  same_nodes (node.Import e) (node.Promise y) = refl
  same_nodes (node.Import e) (node.Field x y) = refl
  same_nodes (node.Import e) (node.Import x) = refl
  same_nodes (node.Import e) (node.Pipe x y) = refl
  same_nodes (node.Import e) (node.Broken x) = refl
  same_nodes (node.Pipe q path) (node.Object x) = refl
  same_nodes (node.Pipe q path) (node.Promise y) = refl
  same_nodes (node.Pipe q path) (node.Field x y) = refl
  same_nodes (node.Pipe q path) (node.Import x) = refl
  same_nodes (node.Pipe q path) (node.Pipe x y) = refl
  same_nodes (node.Pipe q path) (node.Broken x) = refl
  same_nodes (node.Broken reason) (node.Object x) = refl
  same_nodes (node.Broken reason) (node.Promise y) = refl
  same_nodes (node.Broken reason) (node.Field x y) = refl
  same_nodes (node.Broken reason) (node.Import x) = refl
  same_nodes (node.Broken reason) (node.Pipe x y) = refl
  same_nodes (node.Broken reason) (node.Broken x) = refl

  count_so : (n : Node) (es : List (ℕ × Export)) → count_among (N n) (changed_each (export_by f) es) ≡ count_among n es
  count_so n [] = refl
  count_so n (e ∷ es) =
      let a = same_nodes n e.1.node in
      let b = count_so n es in
      λ i. cond (a i) (Some e.1.count) (b i)

  lacks : (size : ℕ) (before after : Node → Option ℕ) → ((n : Node) → after (N n) ≡ before n) → (ns : List Node) → names_lack_room size after (map N ns) ≡ names_lack_room size before ns
  lacks size before after h [] = refl
  lacks size before after h (n ∷ ns) =
      let e = h n in
      (λ i. name_lacks_room size (e i) || names_lack_room (size_then size (e i)) (counts_then after (N n)) (map N ns))
      ∙ ap (λ (b : Bool). name_lacks_room size (before n) || b) (lacks (size_then size (before n)) (counts_then before n) (counts_then after (N n)) on ns)
    where
      on : (m : Node) → counts_then after (N n) (N m) ≡ counts_then before n m
      on m =
          let a = same_nodes m n in
          let b = h n in
          let c = h m in
          λ i. cond (a i) (Some (one_more (b i))) (c i)

  module _ (s : State) where
    abbrev S : State
    S = state_by f s

    room_in : {X : Type 0} (g : X → X) (m : Map X) → has_no_room (map_values g m) ≡ has_no_room m
    room_in g m = ap (nat_le table_limit) (len-map_values g m)

    exports_room : (ns : List Node) → exports_lack_room S (map N ns) ≡ exports_lack_room s ns
    exports_room ns =
        ap (λ (k : ℕ). names_lack_room k (count_of S) (map N ns)) (len-map_values (export_by f) s.exports)
        ∙ lacks (finite.len s.exports) (count_of s) (count_of S) (λ n. ap (count_among (N n)) (entries-map_values (export_by f) s.exports) ∙ count_so n (finite.entries s.exports)) ns

    one_out : (b : Bool) (n : Node) (ns : List Node) → map N (cond b (n ∷ ns) ns) ≡ cond b (N n ∷ map N ns) (map N ns)
    one_out true n ns = refl
    one_out false n ns = refl

    goes_out : (ns : List Node) → map N (going_out s ns) ≡ going_out S (map N ns)
    goes_out [] = refl
    goes_out (n ∷ ns) =
        let a = sym (same_settled f is_exportable (λ o x. refl) s n) in
        let b = settles f s n in
        let c = goes_out ns in
        one_out (is_exportable (settle s n)) (settle s n) (going_out s ns) ∙ (λ i. cond (a i) (b i ∷ c i) (c i))

    wire_room : (caps : List Node) → (has_no_room S.questions || exports_lack_room S (going_out S (map N caps))) ≡ (has_no_room s.questions || exports_lack_room s (going_out s caps))
    wire_room caps =
        let a = room_in (question_by f) s.questions in
        let b = sym (ap (exports_lack_room S) (goes_out caps)) ∙ exports_room (going_out s caps) in
        λ i. a i || b i

    held_room : nat_le held_limit (held S) ≡ nat_le held_limit (held s)
    held_room = ap (nat_le held_limit) (same_held f s)

    room_at : (caps : List Node) (n : Node) → lacks_room_at S (map N caps) (N n) ≡ lacks_room_at s caps n
    room_at caps (node.Object o) = ap (λ (k : ℕ). is_spent s.next_task 1 || is_spent s.next_ref k) (length-map N caps)
    room_at caps (node.Promise p) = held_room
    room_at caps (node.Field o path) = held_room
    room_at caps (node.Import e) = wire_room caps
    room_at caps (node.Pipe q path) = wire_room caps
    room_at caps (node.Broken reason) = refl

    room_through : (caps : List Node) (head : Node) (o : Option EmbargoId) → lacks_room_through S (map N caps) (N head) o ≡ lacks_room_through s caps head o
    room_through caps head None = sym (ap (lacks_room_at S (map N caps)) (settles f s head)) ∙ room_at caps (settle s head)
    room_through caps head (Some e) = held_room

    call_room : (caps : List Node) (o : Option Reference) → call_lacks_room S (map N caps) (option_changed (reference_by f) o) ≡ call_lacks_room s caps o
    call_room caps None = refl
    call_room caps (Some x) = ap (λ (b : Bool). is_spent s.next_call 1 || is_spent x.made 1 || b) (room_through caps x.head x.embargo)

    switch_same : (d : Descriptor) → switch_lacks_room S d ≡ switch_lacks_room s d
    switch_same descriptor.None = refl
    switch_same (descriptor.SenderHosted e) = refl
    switch_same (descriptor.SenderPromise e) = refl
    switch_same (descriptor.ReceiverHosted e) = room_in (embargo_by f) s.embargoes
    switch_same (descriptor.ReceiverAnswer q path) = room_in (embargo_by f) s.embargoes

    advance_room_by : (w : Node) (k : Known) → advance_by S (N w) (learned_by f k) ≡ advance_by s w k
    advance_room_by w NothingYet = refl
    advance_room_by w (IsBroken reason) = refl
    advance_room_by w (Leads said n) =
        let a = sym (ap (λ (x : Node). is_same_node x (N w)) (settles f s n)) ∙ same_nodes (settle s n) w in
        let b = switch_same said in
        λ i. not (a i) && b i

    advance_room_through : (head : Node) (o : Option EmbargoId) → advance_through S (N head) o ≡ advance_through s head o
    advance_room_through head (Some e) = refl
    advance_room_through head None =
        let w = settle s head in
        sym (ap (λ (n : Node). advance_by S n (known_of_wire S n)) (settles f s head))
        ∙ sym (ap (advance_by S (N w)) (known_so f s w))
        ∙ advance_room_by w (known_of_wire s w)

    advance_room : (o : Option Reference) → advance_lacks_room S (option_changed (reference_by f) o) ≡ advance_lacks_room s o
    advance_room None = refl
    advance_room (Some x) = advance_room_through x.head x.embargo

    room : (c : Command) → lacks_room S (command_by f c) ≡ lacks_room s c
    room (command.Host o) = refl
    room (command.CloneRef r) = refl
    room (command.DropRef r) = refl
    room command.Bootstrap = ap (λ (b : Bool). b || is_spent s.next_call 1) (room_in (question_by f) s.questions)
    room (command.Call c) =
        let r = c.reference.0 in
        sym (ap (λ (ns : List Node). call_lacks_room S ns (finite.get S.refs r)) (heads_so f s c.refs))
        ∙ ap (call_lacks_room S (map N (heads s c.refs))) (get-map_values (reference_by f) s.refs r)
        ∙ call_room (heads s c.refs) (finite.get s.refs r)
    room (command.Field c path) = refl
    room command.Promise = refl
    room (command.Resolve p r) = refl
    room (command.Reject p e) = refl
    room (command.Answer t p refs) = refl
    room (command.Fail t e) = refl
    room (command.Finish c) = refl
    room (command.Advance r) = ap (advance_lacks_room S) (get-map_values (reference_by f) s.refs r.0) ∙ advance_room (finite.get s.refs r.0)
    room (command.Shut k) = refl

    leads : (p : Option ℕ) (o : Option Reference) → leads_to S p (option_changed (reference_by f) o) ≡ leads_to s p o
    leads None o = refl
    leads (Some p) None = refl
    leads (Some p) (Some x) = same_settled f (is_promise p) (λ o y. refl) s x.head

    knows_ref : (r : RefId) → is_known_ref S r ≡ is_known_ref s r
    knows_ref r = asked is_some (reference_by f) (some_same (reference_by f)) s.refs r.0

    knows_all : (rs : List RefId) → list_all (is_known_ref S) rs ≡ list_all (is_known_ref s) rs
    knows_all [] = refl
    knows_all (r ∷ rs) =
        let a = knows_ref r in
        let b = knows_all rs in
        λ i. a i && b i

    unknown_same : (rs : List RefId) → unknown_ref S rs ≡ unknown_ref s rs
    unknown_same rs = ap (λ (b : Bool). if_so (not b) refusal.UnknownRef) (knows_all rs)

    refusals_same : (c : Command) → refusals S (command_by f c) ≡ refusals s c
    refusals_same (command.Host o) = refl
    refusals_same (command.CloneRef r) = ap (λ (x : Option Refusal). x ∷ []) (unknown_same (r ∷ []))
    refusals_same (command.DropRef r) = ap (λ (x : Option Refusal). x ∷ []) (unknown_same (r ∷ []))
    refusals_same command.Bootstrap = refl
    refusals_same (command.Call c) =
        ap (λ (x : Option Refusal). wrong_level s (not (is_empty c.refs)) ∷ x ∷ wrong_caps c.payload c.refs ∷ []) (unknown_same (c.reference ∷ c.refs))
    refusals_same (command.Field c path) = refl
    refusals_same command.Promise = refl
    refusals_same (command.Resolve p r) =
        let a = unknown_same (r ∷ []) in
        let b = ap (leads_to S (finite.get s.unsettled p.0)) (get-map_values (reference_by f) s.refs r.0) ∙ leads (finite.get s.unsettled p.0) (finite.get s.refs r.0) in
        λ i. wrong_level s true ∷ a i ∷ unknown_promise s p.0 ∷ if_so (b i) refusal.Cycle ∷ []
    refusals_same (command.Reject p e) = refl
    refusals_same (command.Answer t p refs) = ap (λ (x : Option Refusal). wrong_level s (not (is_empty refs)) ∷ x ∷ unknown_task s t.0 ∷ wrong_caps p refs ∷ []) (unknown_same refs)
    refusals_same (command.Fail t e) = refl
    refusals_same (command.Finish c) = refl
    refusals_same (command.Advance r) = ap (λ (x : Option Refusal). wrong_level s true ∷ x ∷ []) (unknown_same (r ∷ []))
    refusals_same (command.Shut k) = refl

    shut_same : (c : Command) → is_shut (command_by f c) ≡ is_shut c
    shut_same (command.Host o) = refl
    shut_same (command.CloneRef r) = refl
    shut_same (command.DropRef r) = refl
    shut_same command.Bootstrap = refl
    shut_same (command.Call c) = refl
    shut_same (command.Field c path) = refl
    shut_same command.Promise = refl
    shut_same (command.Resolve p r) = refl
    shut_same (command.Reject p e) = refl
    shut_same (command.Answer t p refs) = refl
    shut_same (command.Fail t e) = refl
    shut_same (command.Finish c) = refl
    shut_same (command.Advance r) = refl
    shut_same (command.Shut k) = refl

    pub same_refused : (c : Command) → refused (state_by f s) (command_by f c) ≡ refused s c
    same_refused c =
        let a = shut_same c in
        let b = refusals_same c in
        let r = room c in
        λ i. earliest (if_so (is_some s.down && not (a i)) refusal.Down ∷ b i ++ if_so (r i) refusal.Full ∷ [])

    import_counted : (o : Option Import) → import_count (option_changed (import_by f) o) ≡ import_count o
    import_counted None = refl
    import_counted (Some x) = refl

    export_counted : (o : Option Export) → export_count (option_changed (export_by f) o) ≡ export_count o
    export_counted None = refl
    export_counted (Some x) = refl

    made_so : (o : Option Reference) → made_through (option_changed (reference_by f) o) ≡ made_through o
    made_so None = refl
    made_so (Some x) = refl

    pub within : IsWithin s → IsWithin (state_by f s)
    within h = record {
      questions = subst (λ (k : ℕ). k ≤ table_limit) (sym (len-map_values (question_by f) s.questions)) h.questions;
      answers = h.answers;
      imports = subst (λ (k : ℕ). k ≤ table_limit) (sym (len-map_values (import_by f) s.imports)) h.imports;
      exports = subst (λ (k : ℕ). k ≤ table_limit) (sym (len-map_values (export_by f) s.exports)) h.exports;
      embargoes = subst (λ (k : ℕ). k ≤ table_limit) (sym (len-map_values (embargo_by f) s.embargoes)) h.embargoes;
      held = subst (λ (k : ℕ). k ≤ held_limit) (sym (same_held f s)) h.held;
      import_counts = λ e. subst (λ (k : ℕ). k < count_limit) (sym (asked import_count (import_by f) import_counted s.imports e)) (h.import_counts e);
      export_counts = λ e. subst (λ (k : ℕ). k < count_limit) (sym (asked export_count (export_by f) export_counted s.exports e)) (h.export_counts e);
      refs = h.refs;
      calls = h.calls;
      tasks = h.tasks;
      promises = h.promises;
      made = λ r. subst (λ (k : ℕ). k < number_limit) (sym (asked made_through (reference_by f) made_so s.refs r)) (h.made r);
    }
