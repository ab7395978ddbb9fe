-- A call is made through a reference that is there.
use Rattle.std.proofs.Common.{◌≡◌, ℕ, ◌+◌, length, Option, None, Some, sym, ap, subst, ◌∙◌, arith}
use Rattle.std.specs.FinMap as map
use Rattle.rpc_msg.specs.declared.ids.CallId.{CallId}
use Rattle.rpc_machine.specs.declared.calls.Request.{Request}
use Rattle.rpc_machine.specs.declared.command.CallCommand.{CallCommand}
use Rattle.rpc_machine.specs.declared.command.Granted.TheVariants as granted
use Rattle.rpc_machine.specs.declared.entries.Reference.{Reference}
use Rattle.rpc_machine.specs.Lists.{updated}
use Rattle.rpc_machine.specs.State.{State}
use Rattle.rpc_machine.specs.Progress.{Progress, with_state}
use Rattle.rpc_machine.specs.Commands.{request, counted, CallsThrough, MakesCall}
use Rattle.core_store_handles.specs.Changes.{counted_once}
use Rattle.core_step.specs.declared.step.Step.{Step}
use Rattle.core_step.specs.InProgress.{progress_of, IsReady}
use Rattle.core_step_commands.specs.Ways.{numbered}
use Rattle.core_step_checks.proofs.CallParts.{heads_length}

pub caps_long : (s : State) (c : CallCommand) (x : Reference) (r : Request) → r ≡ request s c x → length r.caps ≡ length c.refs
caps_long s c x r is = ap (λ (q : Request). length q.caps) is ∙ heads_length s c.refs

module _ (x mid : Step) (k : ℕ) (is : progress_of mid ≡ numbered (progress_of x) k) where
  pub more_calls : mid.store.next_call ≡ x.store.next_call + 1
  more_calls = ap (λ (p : Progress). p.state.next_call) is

  pub is_new : (c : CallId) → IsReady x → c ≡ record { 0 = x.store.next_call } → map.get mid.store.calls.entries c.0 ≡ None
  is_new c h given =
      ap (λ (p : Progress). map.get p.state.calls c.0) is
      ∙ ap (λ (i : CallId). map.get x.store.calls.entries i.0) given
      ∙ h.sound.numbered.calls x.store.next_call (let n = x.store.next_call in omega (arith))

pub makes : (d p : Progress) (c : CallCommand) (x : Reference) (r : Request) (i : CallId) (new : Progress) → map.get d.state.refs c.reference.0 ≡ Some x → p ≡ numbered d c.reference.0
    → r ≡ request d.state c x → i ≡ record { 0 = d.state.next_call } → CallsThrough p i.0 r x.head x.embargo new → MakesCall d c (map.get d.state.refs c.reference.0) (granted.Call i) new
makes d p c x r i new there is asked given h =
    let at : Progress = with_state d (counted d.state c.reference.0 x) in
    let counts : p ≡ at = is ∙ ap (λ (o : Option Reference). with_state d (record (d.state) { refs = updated d.state.refs c.reference.0 counted_once o; next_call = d.state.next_call + 1 })) there in
    let one = subst (λ (q : Progress). CallsThrough q i.0 r x.head x.embargo new) counts h in
    let two = subst (λ (q : Request). CallsThrough at i.0 q x.head x.embargo new) asked one in
    let three = subst (λ (j : CallId). CallsThrough at j.0 (request d.state c x) x.head x.embargo new) given two in
    subst (λ (o : Option Reference). MakesCall d c o (granted.Call i) new) (sym there) (ap granted.Call given, three)
