-- What is in a frame, for the function that opens it: it is given, or the number with which a vat goes down.
use Rattle.std.specs.Prelude.{◌≡◌, ◌⊎◌, ℕ, Result, Ok, Err}
use Rattle.rpc_codec_parts.specs.Numbers.{number_of}
use Rattle.rpc_codec.specs.Decoding as codec
use Rattle.peer_large.specs.declared.opening.Opened.{Opened}
use Rattle.peer_large.specs.Opening.{Came, seen}
use Rattle.peer_large.specs.Sparing.{Sparing, Coming, comes, seen_inbound}
use Rattle.peer_adapter.specs.declared.errors.PeerFault.{PeerFault}
use Rattle.peer_adapter.specs.declared.told.Inbound.{Inbound}
use Rattle.peer_adapter.specs.Numbers.{number_of as number_of_peer}
use Rattle.vat_connection.specs.Speaking.{Speaking, HearsComing, Lacks, tables_of, want_of_room}

abbrev pub IsFault : codec.Came Came → ℕ → Type 0
IsFault (Ok w) n = ⊥
IsFault (Err f) n = n ≡ number_of f

-- what a frame says, or its fault; or memory is wanting
abbrev pub Opens : codec.Came Came → Result Opened ℕ → Type 0
Opens came (Ok e) = came ≡ Ok (seen e)
Opens came (Err n) = IsFault came n ⊎ (n ≡ want_of_room)

abbrev pub IsRefused : Result Coming PeerFault → ℕ → Type 0
IsRefused (Ok c) n = ⊥
IsRefused (Err f) n = n ≡ number_of_peer f

-- what it comes to, or the adapter's fault; or memory is wanting
abbrev pub Turned : Result Coming PeerFault → Result Inbound ℕ → Sparing → Type 0
Turned coming (Ok i) new = coming ≡ Ok (seen_inbound new i)
Turned coming (Err n) new = IsRefused coming n ⊎ (n ≡ want_of_room)

-- What a frame says is heard of which so many words are held; or memory is wanting, and the vat goes down.
abbrev pub HearsOpened : Speaking → ℕ → Opened → Speaking → Type 0
HearsOpened old words came new = HearsComing old words (comes (tables_of old.host.core) old.adapter (seen came)) new ⊎ Lacks old new

-- The same of what the adapter said, once it took its step.
abbrev pub HearsInbound : Speaking → ℕ → Inbound → Speaking → Type 0
HearsInbound old words i new = HearsComing old words (Ok (seen_inbound old.adapter i)) new ⊎ Lacks old new
