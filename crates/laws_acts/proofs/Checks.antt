-- What is known where no check fails.
use Rattle.std.proofs.Common.{◌≡◌, ℕ, Bool, true, false, is_some, List, [], ◌∷◌, Option, None, Some, refl, subst}
use Rattle.std.specs.FinMap as map
use Rattle.rpc_machine.specs.rpc_msg.specs.declared.ids.PromiseId.{PromiseId}
use Rattle.rpc_machine.specs.rpc_msg.specs.declared.ids.RefId.{RefId}
use Rattle.rpc_machine.specs.rpc_journal.specs.History.{if_so}
use Rattle.rpc_machine.specs.declared.command.Command.TheVariants as command
use Rattle.rpc_machine.specs.declared.command.Refusal.TheVariants as refusal
use Rattle.rpc_machine.specs.declared.entries.Reference.{Reference}
use Rattle.rpc_machine.specs.State.{State}
use Rattle.rpc_machine.specs.Nodes.{settle, is_promise}
use Rattle.rpc_machine.specs.Lists.{earliest}
use Rattle.rpc_machine.specs.Refusals.{while_down, wrong_level, unknown_ref, unknown_promise, is_cycle, leads_to, without_room, refused}

-- Where no check of a list says anything, none of them does.

pub first : {X : Type 0} (c : Option X) (cs : List (Option X)) → earliest (c ∷ cs) ≡ None → c ≡ None
first None cs h = refl
first (Some x) cs h = let f : Some x ≡ None = h in cc

pub rest : {X : Type 0} (c : Option X) (cs : List (Option X)) → earliest (c ∷ cs) ≡ None → earliest cs ≡ None
rest None cs h = h
rest (Some x) cs h = let f : Some x ≡ None = h in cc

pub not_so : {X : Type 0} (b : Bool) (x : X) → if_so b x ≡ None → b ≡ false
not_so true x h = let f : Some x ≡ None = h in cc
not_so false x h = refl

pub none_there : {X Y : Type 0} (o : Option X) (y : Y) → if_so (is_some o) y ≡ None → o ≡ None
none_there None y h = refl
none_there (Some x) y h = let f : Some y ≡ None = h in cc

not_cyclic : (s : State) (p : PromiseId) (r : RefId) → refused s (command.Resolve p r) ≡ None → is_cycle s p.0 r.0 ≡ false
not_cyclic s p r h =
    let last = without_room s (command.Resolve p r) ∷ [] in
    let four = if_so (is_cycle s p.0 r.0) refusal.Cycle ∷ last in
    let three = unknown_promise s p.0 ∷ four in
    let two = unknown_ref s (r ∷ []) ∷ three in
    let one = wrong_level s true ∷ two in
    let found = rest (unknown_promise s p.0) four (rest (unknown_ref s (r ∷ [])) three (rest (wrong_level s true) two (rest (while_down s (command.Resolve p r)) one h))) in
    not_so (is_cycle s p.0 r.0) refusal.Cycle (first (if_so (is_cycle s p.0 r.0) refusal.Cycle) last found)

-- A resolve that is not refused fixes a promise to what does not lead to it.
pub no_circle : (s : State) (p : PromiseId) (r : RefId) (x : Reference) (key : ℕ) → refused s (command.Resolve p r) ≡ None → map.get s.refs r.0 ≡ Some x → map.get s.unsettled p.0 ≡ Some key → is_promise key (settle s x.head) ≡ false
no_circle s p r x key h f e =
    subst (λ (o : Option ℕ). leads_to s o (Some x) ≡ false) e (subst (λ (b : Option Reference). leads_to s (map.get s.unsettled p.0) b ≡ false) f (not_cyclic s p r h))
