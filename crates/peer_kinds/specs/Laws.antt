-- What is heard names each export in one kind, and an envelope that does so is heard as it came. Each count is heard or given back.
use Rattle.std.specs.Prelude.{◌≡◌, ℕ, ◌==◌, false, option_to_list}
use Rattle.std.specs.List.{count_by}
use Rattle.rpc_msg.specs.declared.ids.ExportId.{ExportId}
use Rattle.rpc_msg.specs.declared.message.PlainMessage.TheVariants as plain
use Rattle.rpc_msg.specs.declared.message.Message.TheVariants as message
use Rattle.rpc_codec.specs.Envelopes.{What, profile}
use Rattle.rpc_codec.specs.Carried.{descriptors_in, gives}
use Rattle.peer_kinds.specs.Kinds.{Outcome, Standings, comes, heard, heard_descriptors, is_hosted, set_aside}

-- It is no Resolve of what was named as an object.
abbrev pub ResolvesPromises : Standings → What → Type 0
ResolvesPromises stands (profile (message.Plain (plain.Resolve r))) = is_hosted (stands r.promise) ≡ false
ResolvesPromises stands w = Unit {0}

-- Each of its names is of the kind of the first one, and it resolves no object.
pub record NamesAlike (stands : Standings) (w : What) : Type 0 where
  pub names : heard_descriptors stands (descriptors_in w) ≡ descriptors_in w
  pub resolves : ResolvesPromises stands w

abbrev pub StandsAside : Type 0
StandsAside = (stands : Standings) (w : What) → NamesAlike stands w → comes stands w ≡ heard w

abbrev pub IfHeard : Outcome → (What → Type 0) → Type 0
IfHeard (heard w) P = P w
IfHeard (set_aside given) P = Unit {0}

-- What is heard names each export in one kind, and resolves no object.
abbrev pub HearsAlike : Type 0
HearsAlike = (stands : Standings) (w : What) → IfHeard (comes stands w) (NamesAlike stands)

-- ---- counts

-- What the vat hears that it gave of an export, and what is given back of it.
abbrev pub counted : ExportId → Outcome → ℕ
counted e (heard w) = gives e w
counted e (set_aside given) = count_by (λ x. x.0 == e.0) (option_to_list given)

abbrev pub CountsOnce : Type 0
CountsOnce = (stands : Standings) (w : What) (e : ExportId) → gives e w ≡ counted e (comes stands w)
