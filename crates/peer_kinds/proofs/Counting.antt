-- What is heard gives what it gave.
use Rattle.std.proofs.Common.{◌≡◌, true, false, List, [], ◌∷◌, map, refl, sym, ap, ◌∙◌}
use Rattle.std.specs.Prelude.{Bool, ◌==◌, cond, option_to_list}
use Rattle.std.specs.List.{count_by}
use Rattle.std.proofs.lemmas.List.Sums.{sum_by-cons}
use Rattle.rpc_msg.specs.Messages.{given}
use Rattle.rpc_msg.specs.declared.ids.ExportId.{ExportId}
use Rattle.rpc_msg.specs.declared.parts.Descriptor.{Descriptor}
use Rattle.rpc_msg.specs.declared.parts.Descriptor.TheVariants as descriptor
use Rattle.rpc_msg.specs.declared.message.Resolve.{Resolve}
use Rattle.rpc_msg.specs.declared.message.ResolvedTo.{ResolvedTo}
use Rattle.rpc_msg.specs.declared.message.ResolvedTo.TheVariants as resolved
use Rattle.rpc_msg.specs.declared.message.PlainMessage.{PlainMessage}
use Rattle.rpc_msg.specs.declared.message.PlainMessage.TheVariants as plain
use Rattle.rpc_msg.specs.declared.message.Message.TheVariants as message
use Rattle.rpc_codec.specs.Envelopes.{What, profile, tail_call, sent_elsewhere, taken_from_other, strange}
use Rattle.rpc_codec.specs.Carried.{descriptors_in, gives, times}
use Rattle.rpc_machine.specs.declared.entries.SenderKind.{SenderKind}
use Rattle.rpc_machine.specs.declared.entries.SenderKind.TheVariants as kind
use Rattle.peer_descriptors.proofs.Replaced.{what_changed}
use Rattle.peer_kinds.specs.Kinds.{Standings, comes, first_kind, given_by, given_to, heard_descriptor, hears, in_kind, is_hosted, kind_heard, set_aside}
use Rattle.peer_kinds.specs.Laws.{counted}

kind_gives : (k : SenderKind) (e : ExportId) (ds : List Descriptor) → given (in_kind k e ∷ ds) ≡ e.0 ∷ given ds
kind_gives kind.Hosted e ds = refl
kind_gives kind.Promise e ds = refl

module _ (stands : Standings) where
  each_gives : (all ds : List Descriptor) → given (map (heard_descriptor stands all) ds) ≡ given ds
  each_gives all [] = refl
  each_gives all (descriptor.None ∷ ds) = each_gives all ds
  each_gives all (descriptor.SenderHosted e ∷ ds) =
      kind_gives (kind_heard (stands e) (first_kind e all) kind.Hosted) e (map (heard_descriptor stands all) ds) ∙ ap (λ ns. e.0 ∷ ns) (each_gives all ds)
  each_gives all (descriptor.SenderPromise e ∷ ds) =
      kind_gives (kind_heard (stands e) (first_kind e all) kind.Promise) e (map (heard_descriptor stands all) ds) ∙ ap (λ ns. e.0 ∷ ns) (each_gives all ds)
  each_gives all (descriptor.ReceiverHosted e ∷ ds) = each_gives all ds
  each_gives all (descriptor.ReceiverAnswer q path ∷ ds) = each_gives all ds

  module _ (e : ExportId) where
    heard_gives : (w : What) → gives e w ≡ counted e (hears stands w)
    heard_gives w =
        sym (ap (λ (ds : List Descriptor). times e (given ds)) (what_changed (heard_descriptor stands (descriptors_in w)) w)
        ∙ ap (λ ns. times e ns) (each_gives (descriptors_in w) (descriptors_in w)))

    one_given : (x : ExportId) → times e (x.0 ∷ []) ≡ count_by (λ (y : ExportId). y.0 == e.0) (x ∷ [])
    one_given x = sum_by-cons (λ n. cond (n == e.0) 1 0) x.0 [] ∙ sym (sum_by-cons (λ (y : ExportId). cond (y.0 == e.0) 1 0) x [])

    aside_gives : (d : Descriptor) → times e (given (d ∷ [])) ≡ count_by (λ (y : ExportId). y.0 == e.0) (option_to_list (given_by d))
    aside_gives descriptor.None = refl
    aside_gives (descriptor.SenderHosted x) = one_given x
    aside_gives (descriptor.SenderPromise x) = one_given x
    aside_gives (descriptor.ReceiverHosted x) = refl
    aside_gives (descriptor.ReceiverAnswer q path) = refl

    to_gives : (p : ExportId) (to : ResolvedTo) → gives e (profile (message.Plain (plain.Resolve (record { promise = p; to = to })))) ≡ counted e (set_aside (given_to to))
    to_gives p (resolved.Cap d) = aside_gives d
    to_gives p (resolved.Exception x) = refl

    resolve_gives : (r : Resolve) (b : Bool) → gives e (profile (message.Plain (plain.Resolve r))) ≡ counted e (cond b (set_aside (given_to r.to)) (hears stands (profile (message.Plain (plain.Resolve r)))))
    resolve_gives r true = to_gives r.promise r.to
    resolve_gives r false = heard_gives (profile (message.Plain (plain.Resolve r)))

    plain_gives : (m : PlainMessage) → gives e (profile (message.Plain m)) ≡ counted e (comes stands (profile (message.Plain m)))
    plain_gives (plain.Resolve r) = resolve_gives r (is_hosted (stands r.promise))
    plain_gives (plain.Abort x) = heard_gives (profile (message.Plain (plain.Abort x)))
    plain_gives (plain.Bootstrap q) = heard_gives (profile (message.Plain (plain.Bootstrap q)))
    plain_gives (plain.Call c) = heard_gives (profile (message.Plain (plain.Call c)))
    plain_gives (plain.Return r) = heard_gives (profile (message.Plain (plain.Return r)))
    plain_gives (plain.Finish f) = heard_gives (profile (message.Plain (plain.Finish f)))
    plain_gives (plain.Release r) = heard_gives (profile (message.Plain (plain.Release r)))
    plain_gives (plain.Disembargo d) = heard_gives (profile (message.Plain (plain.Disembargo d)))
    plain_gives (plain.Other n) = heard_gives (profile (message.Plain (plain.Other n)))

    pub counts : (w : What) → gives e w ≡ counted e (comes stands w)
    counts (profile (message.Plain m)) = plain_gives m
    counts (profile (message.Unimplemented m)) = heard_gives (profile (message.Unimplemented m))
    counts (tail_call c) = heard_gives (tail_call c)
    counts (sent_elsewhere x) = heard_gives (sent_elsewhere x)
    counts (taken_from_other x) = heard_gives (taken_from_other x)
    counts (strange n original) = heard_gives (strange n original)
