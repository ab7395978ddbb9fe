-- A command is refused alike in both; and limits are kept alike.
use Rattle.std.proofs.Common.{◌≡◌, ℕ, ◌≤◌, ◌<◌, Bool, true, false, not, ◌&&◌, ◌||◌, nat_le, cond, List, [], ◌∷◌, ◌++◌, map, length, Option, None, Some, is_some, refl, sym, ap, subst, ◌∙◌}
use Rattle.std.specs.FinMap as finite
use Rattle.finite_maps.specs.Tally.{Map, map_values, option_changed}
use Rattle.finite_maps.proofs.Values.{get-map_values}
use Rattle.std.specs.List.{list_all}
use Rattle.rpc_msg.specs.declared.ids.RefId.{RefId}
use Rattle.rpc_msg.specs.declared.ids.EmbargoId.{EmbargoId}
use Rattle.rpc_msg.specs.declared.parts.Descriptor.{Descriptor}
use Rattle.rpc_msg.specs.declared.parts.Descriptor.TheVariants as descriptor
use Rattle.rpc_journal.specs.History.{if_so}
use Rattle.rpc_machine.specs.declared.node.Node.{Node}
use Rattle.rpc_machine.specs.declared.node.Node.TheVariants as node
use Rattle.rpc_machine.specs.declared.calls.OwnCall.{OwnCall}
use Rattle.rpc_machine.specs.declared.command.Command.{Command}
use Rattle.rpc_machine.specs.declared.command.Command.TheVariants as command
use Rattle.rpc_machine.specs.declared.command.Refusal.{Refusal}
use Rattle.rpc_machine.specs.declared.command.Refusal.TheVariants as refusal
use Rattle.rpc_machine.specs.declared.entries.Reference.{Reference}
use Rattle.rpc_machine.specs.Lists.{earliest, is_empty}
use Rattle.rpc_machine.specs.Nodes.{settle, is_promise, is_same_node}
use Rattle.rpc_machine.specs.Limits.{table_limit, held_limit, count_limit, number_limit, held, import_count, made_through, IsWithin}
use Rattle.rpc_machine.specs.Advancing.{NothingYet, IsBroken, Leads, known_of_wire}
use Rattle.rpc_machine.specs.Fullness.{has_no_room, is_spent, is_exportable, going_out, exports_lack_room, lacks_room_at, lacks_room_through, call_lacks_room, switch_lacks_room, advance_by, advance_through, advance_lacks_room, field_lacks_room, lacks_room}
use Rattle.rpc_machine.specs.Refusals.{is_known_ref, unknown_ref, unknown_task, unknown_promise, wrong_level, wrong_caps, leads_to, refusals, is_shut, refused}
use Rattle.laws_wired.specs.Pairs.{TwoNodes, OneNode, BothBroken, TwoReferences, TwoImports, node_at, reference_at, import_at, TwoStates, question_at, embargo_at, state_at}
use Rattle.laws_wired.proofs.Settles.{asked, same_len, length-map, settle2, settles, same_settled}
use Rattle.laws_wired.proofs.Advanced.{TwoKnown, OneKnown, BrokenBy, known_at2, known_of_wire2, known_so}
use Rattle.laws_wired.proofs.Commanded.{heads2, heads_at}
use Rattle.laws_wired.proofs.Faulted.{some_same, same_held}

same_room : {X Y : Type 0} (f h : X → Y) (m : Map X) → has_no_room (map_values f m) ≡ has_no_room (map_values h m)
same_room f h m = ap (nat_le table_limit) (same_len f h m)

module _ (z : TwoStates) where
  switch_same : (d : Descriptor) → switch_lacks_room (state_at true z) d ≡ switch_lacks_room (state_at false z) d
  switch_same descriptor.None = refl
  switch_same (descriptor.SenderHosted e) = refl
  switch_same (descriptor.SenderPromise e) = refl
  switch_same (descriptor.ReceiverHosted e) = same_room (embargo_at true) (embargo_at false) z.embargoes
  switch_same (descriptor.ReceiverAnswer q path) = same_room (embargo_at true) (embargo_at false) z.embargoes

  field_same : (o : Option OwnCall) → field_lacks_room (state_at true z) o ≡ field_lacks_room (state_at false z) o
  field_same None = refl
  field_same (Some from) = refl

  goes_out : (ms : List TwoNodes) → going_out (state_at true z) (map (node_at true) ms) ≡ going_out (state_at false z) (map (node_at false) ms)
  goes_out [] = refl
  goes_out (m ∷ ms) =
      let rest = going_out (state_at false z) (map (node_at false) ms) in
      let a = same_settled (λ n. cond (is_exportable n) (n ∷ rest) rest) (λ r s. refl) z m in
      let n = settle (state_at true z) (node_at true m) in
      ap (λ (ns : List Node). cond (is_exportable n) (n ∷ ns) ns) (goes_out ms) ∙ a

  wire_room : (caps : List TwoNodes)
      → (has_no_room (state_at true z).questions || exports_lack_room (state_at true z) (going_out (state_at true z) (map (node_at true) caps)))
      ≡ (has_no_room (state_at false z).questions || exports_lack_room (state_at false z) (going_out (state_at false z) (map (node_at false) caps)))
  wire_room caps =
      let a = same_room (question_at true) (question_at false) z.questions in
      let b = goes_out caps in
      λ i. a i || exports_lack_room (state_at false z) (b i)

  held_room : nat_le held_limit (held (state_at true z)) ≡ nat_le held_limit (held (state_at false z))
  held_room = ap (nat_le held_limit) (same_held z)

  refs_room : (caps : List TwoNodes) → is_spent z.rest.next_ref (length (map (node_at true) caps)) ≡ is_spent z.rest.next_ref (length (map (node_at false) caps))
  refs_room caps = ap (is_spent z.rest.next_ref) (length-map (node_at true) caps ∙ sym (length-map (node_at false) caps))

  room_at : (caps : List TwoNodes) (m : TwoNodes) → lacks_room_at (state_at true z) (map (node_at true) caps) (node_at true m) ≡ lacks_room_at (state_at false z) (map (node_at false) caps) (node_at false m)
  room_at caps (OneNode (node.Object o)) = ap (λ (b : Bool). is_spent z.rest.next_task 1 || b) (refs_room caps)
  room_at caps (OneNode (node.Promise p)) = held_room
  room_at caps (OneNode (node.Field o path)) = held_room
  room_at caps (OneNode (node.Import e)) = wire_room caps
  room_at caps (OneNode (node.Pipe q path)) = wire_room caps
  room_at caps (OneNode (node.Broken reason)) = refl
  room_at caps (BothBroken why) = refl

  room_through : (caps : List TwoNodes) (head : TwoNodes) (o : Option EmbargoId)
      → lacks_room_through (state_at true z) (map (node_at true) caps) (node_at true head) o ≡ lacks_room_through (state_at false z) (map (node_at false) caps) (node_at false head) o
  room_through caps head None =
      sym (ap (lacks_room_at (state_at true z) (map (node_at true) caps)) (settles true z head))
      ∙ room_at caps (settle2 z head)
      ∙ ap (lacks_room_at (state_at false z) (map (node_at false) caps)) (settles false z head)
  room_through caps head (Some e) = held_room

  call_room : (caps : List TwoNodes) (o : Option TwoReferences)
      → call_lacks_room (state_at true z) (map (node_at true) caps) (option_changed (reference_at true) o) ≡ call_lacks_room (state_at false z) (map (node_at false) caps) (option_changed (reference_at false) o)
  call_room caps None = refl
  call_room caps (Some x) = ap (λ (b : Bool). is_spent z.rest.next_call 1 || is_spent x.made 1 || b) (room_through caps x.head x.embargo)

  same_nodes : (m n : TwoNodes) → is_same_node (node_at true m) (node_at true n) ≡ is_same_node (node_at false m) (node_at false n)
  same_nodes (OneNode m) (OneNode n) = refl
  same_nodes (BothBroken why) n = refl
  same_nodes (OneNode (node.Object o)) (BothBroken why) = refl
  same_nodes (OneNode (node.Promise p)) (BothBroken why) = refl
  same_nodes (OneNode (node.Field o path)) (BothBroken why) = refl
  same_nodes (OneNode (node.Import e)) (BothBroken why) = refl
  same_nodes (OneNode (node.Pipe q path)) (BothBroken why) = refl
  same_nodes (OneNode (node.Broken reason)) (BothBroken why) = refl

  leads_back : (w : TwoNodes) (m : Node) → is_same_node (settle (state_at true z) m) (node_at true w) ≡ is_same_node (settle (state_at false z) m) (node_at false w)
  leads_back w m =
      let n = OneNode m in
      sym (ap (λ (x : Node). is_same_node x (node_at true w)) (settles true z n))
      ∙ same_nodes (settle2 z n) w
      ∙ ap (λ (x : Node). is_same_node x (node_at false w)) (settles false z n)

  advance_room_by : (w : TwoNodes) (k : TwoKnown) → advance_by (state_at true z) (node_at true w) (known_at2 true k) ≡ advance_by (state_at false z) (node_at false w) (known_at2 false k)
  advance_room_by w (OneKnown NothingYet) = refl
  advance_room_by w (OneKnown (IsBroken reason)) = refl
  advance_room_by w (BrokenBy why) = refl
  advance_room_by w (OneKnown (Leads said m)) =
      let a = leads_back w m in
      let b = switch_same said in
      λ i. not (a i) && b i

  advance_room_through : (head : TwoNodes) (o : Option EmbargoId) → advance_through (state_at true z) (node_at true head) o ≡ advance_through (state_at false z) (node_at false head) o
  advance_room_through head (Some e) = refl
  advance_room_through head None = sym (at true) ∙ advance_room_by w (known_of_wire2 z w) ∙ at false
    where
      w : TwoNodes
      w = settle2 z head

      at : (b : Bool) → advance_by (state_at b z) (node_at b w) (known_at2 b (known_of_wire2 z w)) ≡ advance_by (state_at b z) (settle (state_at b z) (node_at b head)) (known_of_wire (state_at b z) (settle (state_at b z) (node_at b head)))
      at b =
          ap (advance_by (state_at b z) (node_at b w)) (known_so b z w)
          ∙ ap (λ (m : Node). advance_by (state_at b z) m (known_of_wire (state_at b z) m)) (settles b z head)

  advance_room : (o : Option TwoReferences) → advance_lacks_room (state_at true z) (option_changed (reference_at true) o) ≡ advance_lacks_room (state_at false z) (option_changed (reference_at false) o)
  advance_room None = refl
  advance_room (Some x) = advance_room_through x.head x.embargo

  -- By the reference with that number.
  at_ref : {A : Type 0} (Of : Bool → Option Reference → A) (r : ℕ)
      → ((o : Option TwoReferences) → Of true (option_changed (reference_at true) o) ≡ Of false (option_changed (reference_at false) o))
      → Of true (finite.get (state_at true z).refs r) ≡ Of false (finite.get (state_at false z).refs r)
  at_ref Of r same = ap (Of true) (get-map_values (reference_at true) z.refs r) ∙ same (finite.get z.refs r) ∙ sym (ap (Of false) (get-map_values (reference_at false) z.refs r))

  room : (c : Command) → lacks_room (state_at true z) c ≡ lacks_room (state_at false z) c
  room (command.Host o) = refl
  room (command.CloneRef r) = refl
  room (command.DropRef r) = refl
  room command.Bootstrap = ap (λ (b : Bool). b || is_spent z.rest.next_call 1) (same_room (question_at true) (question_at false) z.questions)
  room (command.Call c) =
      let r = c.reference.0 in
      ap (λ (ms : List Node). call_lacks_room (state_at true z) ms (finite.get (state_at true z).refs r)) (heads_at true z c.refs)
      ∙ at_ref (λ b o. call_lacks_room (state_at b z) (map (node_at b) (heads2 z c.refs)) o) r (call_room (heads2 z c.refs))
      ∙ sym (ap (λ (ms : List Node). call_lacks_room (state_at false z) ms (finite.get (state_at false z).refs r)) (heads_at false z c.refs))
  room (command.Field c path) = field_same (finite.get z.rest.calls c.0)
  room command.Promise = refl
  room (command.Resolve p r) = refl
  room (command.Reject p e) = refl
  room (command.Answer t p refs) = refl
  room (command.Fail t e) = refl
  room (command.Finish c) = refl
  room (command.Advance r) = at_ref (λ b o. advance_lacks_room (state_at b z) o) r.0 advance_room
  room (command.Shut k) = refl

  leads : (p : Option ℕ) (o : Option TwoReferences) → leads_to (state_at true z) p (option_changed (reference_at true) o) ≡ leads_to (state_at false z) p (option_changed (reference_at false) o)
  leads None o = refl
  leads (Some p) None = refl
  leads (Some p) (Some x) = same_settled (is_promise p) (λ r s. refl) z x.head

  knows_ref : (r : RefId) → is_known_ref (state_at true z) r ≡ is_known_ref (state_at false z) r
  knows_ref r = asked is_some (reference_at true) (reference_at false) (some_same (reference_at true) (reference_at false)) z.refs r.0

  knows_all : (rs : List RefId) → list_all (is_known_ref (state_at true z)) rs ≡ list_all (is_known_ref (state_at false z)) rs
  knows_all [] = refl
  knows_all (r ∷ rs) =
      let a = knows_ref r in
      let b = knows_all rs in
      λ i. a i && b i

  unknown_same : (rs : List RefId) → unknown_ref (state_at true z) rs ≡ unknown_ref (state_at false z) rs
  unknown_same rs = ap (λ (b : Bool). if_so (not b) refusal.UnknownRef) (knows_all rs)

  refusals_same : (c : Command) → refusals (state_at true z) c ≡ refusals (state_at false z) c
  refusals_same (command.Host o) = refl
  refusals_same (command.CloneRef r) = ap (λ (x : Option Refusal). x ∷ []) (unknown_same (r ∷ []))
  refusals_same (command.DropRef r) = ap (λ (x : Option Refusal). x ∷ []) (unknown_same (r ∷ []))
  refusals_same command.Bootstrap = refl
  refusals_same (command.Call c) =
      ap (λ (x : Option Refusal). wrong_level z.rest (not (is_empty c.refs)) ∷ x ∷ wrong_caps c.payload c.refs ∷ []) (unknown_same (c.reference ∷ c.refs))
  refusals_same (command.Field c path) = refl
  refusals_same command.Promise = refl
  refusals_same (command.Resolve p r) =
      let a = unknown_same (r ∷ []) in
      let b = at_ref (λ b o. leads_to (state_at b z) (finite.get z.rest.unsettled p.0) o) r.0 (leads (finite.get z.rest.unsettled p.0)) in
      λ i. wrong_level z.rest true ∷ a i ∷ unknown_promise z.rest p.0 ∷ if_so (b i) refusal.Cycle ∷ []
  refusals_same (command.Reject p e) = refl
  refusals_same (command.Answer t p refs) =
      ap (λ (x : Option Refusal). wrong_level z.rest (not (is_empty refs)) ∷ x ∷ unknown_task z.rest t.0 ∷ wrong_caps p refs ∷ []) (unknown_same refs)
  refusals_same (command.Fail t e) = refl
  refusals_same (command.Finish c) = refl
  refusals_same (command.Advance r) = ap (λ (x : Option Refusal). wrong_level z.rest true ∷ x ∷ []) (unknown_same (r ∷ []))
  refusals_same (command.Shut k) = refl

  pub same_refused : (c : Command) → refused (state_at true z) c ≡ refused (state_at false z) c
  same_refused c =
      let b = refusals_same c in
      let r = room c in
      λ i. earliest (if_so (is_some z.rest.down && not (is_shut c)) refusal.Down ∷ b i ++ if_so (r i) refusal.Full ∷ [])

  import_counted : (o : Option TwoImports) → import_count (option_changed (import_at false) o) ≡ import_count (option_changed (import_at true) o)
  import_counted None = refl
  import_counted (Some x) = refl

  made_so : (o : Option TwoReferences) → made_through (option_changed (reference_at false) o) ≡ made_through (option_changed (reference_at true) o)
  made_so None = refl
  made_so (Some x) = refl

  pub within : IsWithin (state_at false z) → IsWithin (state_at true z)
  within h = record {
    questions = subst (λ (k : ℕ). k ≤ table_limit) (sym (same_len (question_at true) (question_at false) z.questions)) h.questions;
    answers = h.answers;
    imports = subst (λ (k : ℕ). k ≤ table_limit) (sym (same_len (import_at true) (import_at false) z.imports)) h.imports;
    exports = h.exports;
    embargoes = subst (λ (k : ℕ). k ≤ table_limit) (sym (same_len (embargo_at true) (embargo_at false) z.embargoes)) h.embargoes;
    held = subst (λ (k : ℕ). k ≤ held_limit) (sym (same_held z)) h.held;
    import_counts = λ e. subst (λ (k : ℕ). k < count_limit) (asked import_count (import_at false) (import_at true) import_counted z.imports e) (h.import_counts e);
    export_counts = h.export_counts;
    refs = h.refs;
    calls = h.calls;
    tasks = h.tasks;
    promises = h.promises;
    made = λ r. subst (λ (k : ℕ). k < number_limit) (asked made_through (reference_at false) (reference_at true) made_so z.refs r) (h.made r);
  }
