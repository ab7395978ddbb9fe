-- What names each export in one kind is heard as it came.
use Rattle.std.proofs.Common.{◌≡◌, List, ap, ◌∙◌}
use Rattle.std.specs.Prelude.{cond}
use Rattle.rpc_msg.specs.declared.parts.Descriptor.{Descriptor}
use Rattle.rpc_msg.specs.declared.message.PlainMessage.{PlainMessage}
use Rattle.rpc_msg.specs.declared.message.PlainMessage.TheVariants as plain
use Rattle.rpc_msg.specs.declared.message.Message.TheVariants as message
use Rattle.rpc_codec.specs.Envelopes.{What, profile, tail_call, sent_elsewhere, taken_from_other, strange}
use Rattle.rpc_codec.specs.Carried.{descriptors_in}
use Rattle.peer_descriptors.specs.Replacing.{what_with}
use Rattle.peer_descriptors.proofs.Replaced.{what_same}
use Rattle.peer_kinds.specs.Kinds.{Standings, comes, given_to, heard, heard_descriptors, hears, set_aside}
use Rattle.peer_kinds.specs.Laws.{NamesAlike}

module _ (stands : Standings) where
  names_alike : (w : What) → heard_descriptors stands (descriptors_in w) ≡ descriptors_in w → hears stands w ≡ heard w
  names_alike w same = ap (λ (ds : List Descriptor). heard (what_with w ds)) same ∙ ap heard (what_same w)

  plain_alike : (m : PlainMessage) → NamesAlike stands (profile (message.Plain m)) → comes stands (profile (message.Plain m)) ≡ heard (profile (message.Plain m))
  plain_alike (plain.Resolve r) alike =
      ap (λ b. cond b (set_aside (given_to r.to)) (hears stands (profile (message.Plain (plain.Resolve r))))) alike.resolves
      ∙ names_alike (profile (message.Plain (plain.Resolve r))) alike.names
  plain_alike (plain.Abort x) alike = names_alike (profile (message.Plain (plain.Abort x))) alike.names
  plain_alike (plain.Bootstrap q) alike = names_alike (profile (message.Plain (plain.Bootstrap q))) alike.names
  plain_alike (plain.Call c) alike = names_alike (profile (message.Plain (plain.Call c))) alike.names
  plain_alike (plain.Return r) alike = names_alike (profile (message.Plain (plain.Return r))) alike.names
  plain_alike (plain.Finish f) alike = names_alike (profile (message.Plain (plain.Finish f))) alike.names
  plain_alike (plain.Release r) alike = names_alike (profile (message.Plain (plain.Release r))) alike.names
  plain_alike (plain.Disembargo d) alike = names_alike (profile (message.Plain (plain.Disembargo d))) alike.names
  plain_alike (plain.Other n) alike = names_alike (profile (message.Plain (plain.Other n))) alike.names

  pub all_alike : (w : What) → NamesAlike stands w → comes stands w ≡ heard w
  all_alike (profile (message.Plain m)) alike = plain_alike m alike
  all_alike (profile (message.Unimplemented m)) alike = names_alike (profile (message.Unimplemented m)) alike.names
  all_alike (tail_call c) alike = names_alike (tail_call c) alike.names
  all_alike (sent_elsewhere x) alike = names_alike (sent_elsewhere x) alike.names
  all_alike (taken_from_other x) alike = names_alike (taken_from_other x) alike.names
  all_alike (strange n original) alike = names_alike (strange n original) alike.names
