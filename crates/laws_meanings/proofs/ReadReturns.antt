-- A Return that is read as it should on its way is heard so by its receiver; and any message.
use Rattle.std.proofs.Common.{◌≡◌, ℕ, zero, suc, Bool, Option, None, Some, List, [], ◌∷◌, refl, sym, ◌∙◌, subst}
use Rattle.std.specs.FinMap as map
use Rattle.std.specs.List.{slice_get}
use Rattle.rpc_msg.specs.CapAt.{CapAt}
use Rattle.rpc_msg.specs.CapAt.TheVariants.{Cap, Null, NotCap}
use Rattle.rpc_msg.specs.declared.ids.Vat.{Vat}
use Rattle.rpc_msg.specs.declared.message.Message.TheVariants as message
use Rattle.rpc_msg.specs.declared.message.PlainMessage.{PlainMessage}
use Rattle.rpc_msg.specs.declared.message.PlainMessage.TheVariants as plain
use Rattle.rpc_msg.specs.declared.message.ReturnBody.{ReturnBody}
use Rattle.rpc_msg.specs.declared.message.ReturnBody.TheVariants as body
use Rattle.rpc_msg.specs.declared.parts.Descriptor.{Descriptor}
use Rattle.rpc_journal.specs.Sources.{Asking}
use Rattle.rpc_journal.specs.Meaning.{History}
use Rattle.rpc_machine.specs.Payloads.{cap_at}
use Rattle.rpc_machine.specs.declared.command.Level.{Level}
use Rattle.rpc_machine.specs.declared.command.Level.TheVariants.{One}
use Rattle.rpc_machine.specs.declared.node.Node.{Node}
use Rattle.rpc_machine.specs.declared.entries.Finishing.{Finishing}
use Rattle.rpc_machine.specs.declared.entries.Finishing.TheVariants as finishing
use Rattle.rpc_machine.specs.declared.entries.Question.{Question}
use Rattle.rpc_machine.specs.declared.entries.Role.{Role}
use Rattle.rpc_machine.specs.declared.entries.Role.TheVariants as role
use Rattle.rpc_machine.specs.State.{State}
use Rattle.rpc_machine.specs.Descriptors.{read, read_beside}
use Rattle.rpc_machine.specs.Faults.{body_fault, descriptors_fault, fault_of, flag_fault, is_foreign, plain_fault, return_fault, unless_foreign}
use Rattle.rpc_machine.specs.Messages.{results_of, value_of_results}
use Rattle.rpc_machine.specs.Nodes.{node_of_cap}
use Rattle.rpc_machine.specs.Places.{nodes}
use Rattle.rpc_machine.specs.Progress.{numbers}
use Rattle.rpc_machine.specs.Sweeping.{IsNotSent}
use Rattle.laws_acts.proofs.Checks.{first, rest}
use Rattle.laws_steps.specs.NodesThere.{IsWhole}
use Rattle.laws_meanings.specs.NodeMeanings.{Meant, field_meant}
use Rattle.laws_meanings.specs.NodeLabels.{Labels, LeadsTo, Means, ValueMeans, asked_label, label}
use Rattle.laws_meanings.specs.MessageMeanings.{IfAwaited, ImportsKept, IsHeard, ReturnHeard, wire_label, with_imports}
use Rattle.laws_meanings.specs.ReadMessages.{IsRead, MessagesAreHeard, PlainRead, ReturnRead, ReturnsAreHeard, cap_read, place_read}
use Rattle.laws_meanings.proofs.ReadLabels.{calls_heard, descriptors_read, resolves_heard}
use Rattle.laws_meanings.proofs.RootHeard.{roots_heard}

module _ (h : History) (l : Labels) (s : State) (is : ℕ → Option Meant) (kept : ImportsKept l s is) (whole : IsWhole s) (level : s.level ≡ One) where
  abbrev m : Labels
  m = with_imports l is

  abbrev by : Descriptor → Option Meant
  by = wire_label h s.vat l s is

  place_same : (ds : List Descriptor) → ((i : ℕ) (d : Descriptor) → slice_get ds i ≡ Some d → label h s.vat m (read s d) ≡ by d) → (i : ℕ) → label h s.vat m (node_of_cap (nodes (read_beside s ds)) (Cap i)) ≡ place_read by ds i
  place_same [] reads i = refl
  place_same (d ∷ ds) reads zero = reads 0 d refl
  place_same (d ∷ ds) reads (suc i) = place_same ds (λ j c e. reads (suc j) c e) i

  cap_same : (ds : List Descriptor) → ((i : ℕ) (d : Descriptor) → slice_get ds i ≡ Some d → label h s.vat m (read s d) ≡ by d) → (c : CapAt) → label h s.vat m (node_of_cap (nodes (read_beside s ds)) c) ≡ cap_read by ds c
  cap_same ds reads (Cap i) = place_same ds reads i
  cap_same ds reads Null = refl
  cap_same ds reads NotCap = refl

  at_place : (ds : List Descriptor) (i : ℕ) (n : Node) → slice_get (nodes (read_beside s ds)) i ≡ Some n → (d : Descriptor) × (slice_get ds i ≡ Some d) × (read s d ≡ n)
  at_place [] i n e = let bad : ◌≡◌ {A = Option Node} None (Some n) = e in cc
  at_place (d ∷ ds) zero n e = (d, refl, (let f : Some (read s d) ≡ Some n = e in cc))
  at_place (d ∷ ds) (suc i) n e = at_place ds i n e

  value_means : (x : ReturnBody) (a : Vat × Asking) → body_fault s x ≡ None → ReturnRead h by a x → ValueMeans h s.vat m a (value_of_results (results_of s x))
  value_means (body.Results payload ds) a f i =
      let free = first (descriptors_fault s ds) [] (rest _ (descriptors_fault s ds ∷ []) f) in
      let same = descriptors_read h l s is ds kept whole level free in (
        λ path. subst (LeadsTo h (field_meant h a.0 a.1 path)) (sym (cap_same ds same (cap_at payload path))) (i.0 path),
        λ j n e.
            let r = at_place ds j n e in
            let y = i.1 j r.0 r.1 in
            (y.0, y.1, subst (Means h s.vat m y.0) r.2 (subst (LeadsTo h y.0) (sym (same j r.0 r.1)) y.2)),
        i.2,
      )
  value_means (body.Exception exception) a f i = (i.0, λ j n e. let bad : ◌≡◌ {A = Option Node} None (Some n) = e in cc, i.1)
  value_means body.Canceled a f i = absurd i

  role_same : (q : ℕ) (x : Role) → asked_label m q x ≡ asked_label l q x
  role_same q (role.Direct c) = refl
  role_same q (role.Relay o) = refl

  awaited : (P : Type 0) (f : Finishing) → (IsNotSent f → P) → IfAwaited f P
  awaited P finishing.Owed g = g tt
  awaited P finishing.Sent g = tt
  awaited P finishing.Waived g = g tt

  return_heard : (q : ℕ) (flag : Bool) (x : ReturnBody) (o : Option Question) → return_fault s flag x o ≡ None
      → ((y : Question) → o ≡ Some y → IsNotSent y.finish → (a : Vat × Asking) × (asked_label l q y.role ≡ Some a) × ReturnRead h by a x)
      → ReturnHeard h s.vat m s q (value_of_results (results_of s x)) o
  return_heard q flag x None f i = tt
  return_heard q flag x (Some y) f i =
      let free = first (body_fault s x) (flag_fault s flag (numbers y.given) ∷ []) (rest _ (body_fault s x ∷ flag_fault s flag (numbers y.given) ∷ []) f) in
      awaited ((a : Vat × Asking) × (asked_label m q y.role ≡ Some a) × ValueMeans h s.vat m a (value_of_results (results_of s x))) y.finish
      (λ n. let z = i y refl n in (z.0, role_same q y.role ∙ z.1, value_means x z.0 free z.2))

  plain_heard : (x : PlainMessage) → fault_of s (message.Plain x) ≡ None → PlainRead h l s is x → IsHeard h s.vat m s (message.Plain x)
  plain_heard (plain.Abort exception) f i = tt
  plain_heard (plain.Bootstrap q) f i = roots_heard h s.vat m s i q
  plain_heard (plain.Call c) f i = calls_heard h l s is c kept whole level f i.0 i.1
  plain_heard (plain.Return r) f i =
      let free = subst (λ (n : Level). unless_foreign (is_foreign n (plain.Return r)) (plain_fault s (plain.Return r)) ≡ None) level f in
      return_heard r.answer.0 r.release_param_caps r.body (map.get s.questions r.answer.0) free i
  plain_heard (plain.Finish x) f i = tt
  plain_heard (plain.Resolve r) f i = resolves_heard h l s is r kept whole level f i
  plain_heard (plain.Release r) f i = tt
  plain_heard (plain.Disembargo x) f i = tt
  plain_heard (plain.Other n) f i = tt

  echo_heard : (x : PlainMessage) → IsRead h l s is (message.Unimplemented x) → IsHeard h s.vat m s (message.Unimplemented x)
  echo_heard (plain.Abort exception) i = tt
  echo_heard (plain.Bootstrap q) i = absurd i
  echo_heard (plain.Call c) i = absurd i
  echo_heard (plain.Return r) i = tt
  echo_heard (plain.Finish x) i = tt
  echo_heard (plain.Resolve r) i = tt
  echo_heard (plain.Release r) i = tt
  echo_heard (plain.Disembargo x) i = tt
  echo_heard (plain.Other n) i = tt

pub returns_heard : ReturnsAreHeard
returns_heard h l s is r kept whole level f i = plain_heard h l s is kept whole level (plain.Return r) f i

pub messages_heard : MessagesAreHeard
messages_heard h l s is (message.Plain x) kept whole level f i = plain_heard h l s is kept whole level x f i
messages_heard h l s is (message.Unimplemented x) kept whole level f i = echo_heard h l s is kept whole level x i
