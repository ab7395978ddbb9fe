-- Payloads made of numbers, a text and capabilities, and looked into.
use Rattle.std.specs.Prelude.{◌≡◌, ◌≤◌, ◌^◌, ◌⊎◌, ℕ, List, Option, Some, None, Result, Ok, Err}
use Rattle.std.specs.Str.{IsUtf8}
use Rattle.rpc_msg.specs.Op.{Op}
use Rattle.rpc_msg.specs.Payloads.{Contents, IsEncoded, tree_of}
use Rattle.rpc_msg.specs.Walking.{capability_at}
use Rattle.rpc_msg.specs.CapAt.{CapAt}
use Rattle.rpc_msg.specs.CapAt.TheVariants.{Cap, Null, NotCap}
use Rattle.capn_reading.specs.Looking.{IsTextOf, data_of, field}
use Rattle.capn_reading.specs.Reading.{element}
use Rattle.capn_trees.specs.Trees.{Tree}
use Rattle.capn_writing.specs.Placing.{written}
use Rattle.vat_payloads.specs.Contents.{IsTooMuch, saying}
use Rattle.rpc_machine.specs.declared.command.Refusal.TheVariants as refusals
use Rattle.lovendak_c_desk.specs.declared.not_done.NotDone.{NotDone}
use Rattle.lovendak_c_desk.specs.declared.not_done.NotDone.TheVariants as not_done
use Rattle.lovendak_c_desk.specs.Copies.{CopiesOut}
use Rattle.lovendak_c_desk.specs.Given.{IsNoPayload, lacks_memory}

-- ---- made

-- The text is none of characters.
abbrev pub IsNotUtf8 : Option (List ℕ) → Type 0
IsNotUtf8 None = ⊥
IsNotUtf8 (Some text) = ¬ (IsUtf8 text)

-- Why that is not written.
abbrev pub IsNotWritten : List ℕ → Option (List ℕ) → ℕ → NotDone → Type 0
IsNotWritten numbers text caps not_done.Malformed = IsNotUtf8 text
IsNotWritten numbers text caps (not_done.Refused r) = (r ≡ refusals.Memory) ⊎ ((r ≡ refusals.Full) × IsTooMuch numbers text caps)
IsNotWritten numbers text caps e = ⊥

-- The payload's bytes are copied out where there is room for them, or there is a reason why it is not written.
abbrev pub Makes : {A : Type 0} → List ℕ → Option (List ℕ) → ℕ → List ℕ → ℕ → Result A NotDone → List ℕ → ℕ → Type 0
Makes numbers text caps room before answer out len =
    CopiesOut (written (saying numbers text caps)) room answer out len
    ⊎ ((e : NotDone) × (answer ≡ Err e) × IsNotWritten numbers text caps e × (out ≡ room) × (len ≡ before))

-- ---- looked into

-- No payload is read of it: memory is wanting, or it is none.
abbrev pub IsUnread : Contents → NotDone → Type 0
IsUnread p e = (e ≡ lacks_memory) ⊎ IsNoPayload p e

-- There is no such number.
abbrev pub IsNoNumber : Contents → ℕ → NotDone → Type 0
IsNoNumber p i not_done.Nothing = IsEncoded p × (data_of (tree_of p) ≡ None)
IsNoNumber p i not_done.NoSuchNumber = 2 ^ 32 ≤ i
IsNoNumber p i e = ⊥

-- The data word of that index of the root.
abbrev pub NumberAt : Contents → ℕ → Result ℕ NotDone → Type 0
NumberAt p i (Ok n) = IsEncoded p × ((words : List ℕ) × (data_of (tree_of p) ≡ Some words) × (n ≡ element words 64 i))
NumberAt p i (Err e) = IsUnread p e ⊎ IsNoNumber p i e

abbrev pub IsTextAt : Option Tree → List ℕ → Type 0
IsTextAt None text = ⊥
IsTextAt (Some t) text = IsTextOf t text

-- No text is there: no payload is read, or something else stands there.
abbrev pub IsNoText : Contents → ℕ → NotDone → Type 0
IsNoText p pointer e = IsUnread p e ⊎ ((e ≡ not_done.Nothing) × IsEncoded p × ((text : List ℕ) → ¬ (IsTextAt (field (tree_of p) pointer) text)))

-- The text at that pointer of the root is copied out where there is room for it; or there is none.
abbrev pub TextAt : {A : Type 0} → Contents → ℕ → List ℕ → ℕ → Result A NotDone → List ℕ → ℕ → Type 0
TextAt p pointer room before answer out len =
    (IsEncoded p × ((text : List ℕ) × IsTextAt (field (tree_of p) pointer) text × CopiesOut text room answer out len))
    ⊎ ((e : NotDone) × (answer ≡ Err e) × IsNoText p pointer e × (out ≡ room) × (len ≡ before))

abbrev pub IsNoCapability : CapAt → Type 0
IsNoCapability (Cap i) = ⊥
IsNoCapability Null = Unit {0}
IsNoCapability NotCap = Unit {0}

-- The index of the capability at that path.
abbrev pub ReferenceAt : Contents → List Op → Result ℕ NotDone → Type 0
ReferenceAt p path (Ok i) = IsEncoded p × (capability_at (tree_of p) path ≡ Cap i)
ReferenceAt p path (Err e) = IsUnread p e ⊎ ((e ≡ not_done.Nothing) × IsEncoded p × IsNoCapability (capability_at (tree_of p) path))
