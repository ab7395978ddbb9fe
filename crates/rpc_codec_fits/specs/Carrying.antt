-- The messages that carry to the peer what a command gives, and the room that they have for it.
use Rattle.std.specs.Prelude.{◌≡◌, ℕ, ◌⊎◌, ◌+◌, ◌*◌, ◌≤◌, ◌==◌, nat_lt, not, Bool, true, false, if◌then◌else◌, List, length, Option, Some, None, ⊤}
use Rattle.std.specs.List.{AllByRecursion}
use Rattle.capn_trees.specs.Widths.{packed_size}
use Rattle.capn_trees.specs.Writable.{refusal}
use Rattle.rpc_msg.specs.Payloads.{Contents, tree_of, FitsWithin, words_in}
use Rattle.rpc_msg.specs.declared.exception.Exception.{Exception}
use Rattle.rpc_msg.specs.declared.parts.Descriptor.{Descriptor}
use Rattle.rpc_msg.specs.declared.message.Call.{Call}
use Rattle.rpc_msg.specs.declared.message.Return.{Return}
use Rattle.rpc_msg.specs.declared.message.ReturnBody.TheVariants as body
use Rattle.rpc_msg.specs.declared.message.Resolve.{Resolve}
use Rattle.rpc_msg.specs.declared.message.ResolvedTo.TheVariants as to
use Rattle.rpc_msg.specs.declared.message.PlainMessage.TheVariants as plain
use Rattle.rpc_msg.specs.declared.message.Message.{Message}
use Rattle.rpc_msg.specs.declared.message.Message.TheVariants as message
use Rattle.rpc_codec_parts.specs.Fitting.{FitsTarget, FitsDescriptor}
use Rattle.rpc_codec.specs.Decoding.{any_caps}
use Rattle.rpc_machine.specs.declared.command.Command.{Command}
use Rattle.rpc_machine.specs.declared.command.Command.TheVariants as command

-- a descriptor of the profile for each capability of a content
abbrev pub HasTable : Contents → List Descriptor → Type 0
HasTable p ds = (p.caps ≡ length ds) × AllByRecursion FitsDescriptor ds

-- the Calls that carry a content, to any target of the profile
abbrev pub Calls : Contents → Message → Type 0
Calls p m = (c : Call) × (m ≡ message.Plain (plain.Call c)) × (c.payload ≡ p) × HasTable p c.descriptors × FitsTarget c.target

-- the Returns that carry a content, or an exception
abbrev pub Returns : Contents → Message → Type 0
Returns p m = (r : Return) × (ds : List Descriptor) × (m ≡ message.Plain (plain.Return r)) × (r.body ≡ body.Results p ds) × HasTable p ds

abbrev pub Throws : Exception → Message → Type 0
Throws e m = (r : Return) × (m ≡ message.Plain (plain.Return r)) × (r.body ≡ body.Exception e)

-- the Resolves that carry an exception
abbrev pub Breaks : Exception → Message → Type 0
Breaks e m = (r : Resolve) × (m ≡ message.Plain (plain.Resolve r)) × (r.to ≡ to.Exception e)

-- The messages that carry what a command gives. What a promise was rejected with is told in a Resolve, and in the Returns of the
-- calls to it.
abbrev pub Carries : Command → Message → Type 0
Carries (command.Call c) m = Calls c.payload m
Carries (command.Answer task p refs) m = Returns p m
Carries (command.Fail task e) m = Throws e m
Carries (command.Reject promise e) m = Breaks e m ⊎ Throws e m
Carries (command.Host object) m = ⊥
Carries (command.CloneRef r) m = ⊥
Carries (command.DropRef r) m = ⊥
Carries command.Bootstrap m = ⊥
Carries (command.Field call path) m = ⊥
Carries command.Promise m = ⊥
Carries (command.Resolve promise r) m = ⊥
Carries (command.Finish call) m = ⊥
Carries (command.Advance r) m = ⊥
Carries (command.Shut number) m = ⊥

-- The content can be laid out by itself, as it is when it is read.
abbrev pub IsAlone : Contents → Type 0
IsAlone p = refusal (tree_of p) p.caps ≡ None

abbrev pub StandsAlone : Command → Type 0
StandsAlone (command.Call c) = IsAlone c.payload
StandsAlone (command.Answer task p refs) = IsAlone p
StandsAlone (command.Fail task e) = ⊤
StandsAlone (command.Reject promise e) = ⊤
StandsAlone (command.Host object) = ⊤
StandsAlone (command.CloneRef r) = ⊤
StandsAlone (command.DropRef r) = ⊤
StandsAlone command.Bootstrap = ⊤
StandsAlone (command.Field call path) = ⊤
StandsAlone command.Promise = ⊤
StandsAlone (command.Resolve promise r) = ⊤
StandsAlone (command.Finish call) = ⊤
StandsAlone (command.Advance r) = ⊤
StandsAlone (command.Shut number) = ⊤

-- ---- room

-- the words of the largest table with so many rows: a tag, and 21 of each row
abbrev pub table_room : ℕ → ℕ
table_room rows = if rows == 0 then 0 else 1 + 21 * rows

-- Whether a content that takes so many words fits beside so many others and the largest table of its capabilities.
abbrev pub fits_beside : ℕ → Contents → Option ℕ → Bool
fits_beside beside p None = false
fits_beside beside p (Some words) = not (nat_lt 65535 (words + beside + table_room p.caps))

-- Whether what a command gives fits, by its words: beside the 31 others of a Call to the longest path, or the 7 of a Return. A reason
-- fits if it leaves a Return its 8 words.
abbrev pub fits : Command → Bool
fits (command.Call c) = fits_beside 31 c.payload (words_in c.payload 61)
fits (command.Answer task p refs) = fits_beside 7 p (words_in p 61)
fits (command.Fail task e) = nat_lt (length e.reason) 524216
fits (command.Reject promise e) = nat_lt (length e.reason) 524216
fits c = true

-- A content that nests at most 61 levels deep has room beside so many words and the largest table of its capabilities.
pub record HasRoom (p : Contents) (beside : ℕ) : Type 0 where
  pub words : ℕ
  pub fits : FitsWithin p 61 words
  pub room : words + beside + table_room p.caps ≤ 65535
  pub caps : p.caps ≤ any_caps

-- the words of a Return with this exception, besides the root pointer
abbrev pub reason_room : Exception → ℕ
reason_room e = 8 + packed_size 8 (length e.reason + 1)
