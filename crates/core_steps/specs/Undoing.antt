-- What `advance` does to a reference, so that it can be put back.
use Rattle.std.specs.Prelude.{◌≡◌, ◌⊎◌, ℕ, Option, None, Some, List, []}
use Rattle.std.specs.FinMap as map
use Rattle.rpc_msg.specs.declared.ids.EmbargoId.{EmbargoId}
use Rattle.rpc_machine.specs.declared.calls.HeldCall.{HeldCall}
use Rattle.rpc_machine.specs.declared.entries.Reference.{Reference}
use Rattle.rpc_machine.specs.declared.entries.Embargo.{Embargo}
use Rattle.rpc_machine.specs.State.{State}

-- The reference leads elsewhere.
abbrev pub IsLed : State → ℕ → State → Type 0
IsLed s r new = (y : Reference) × (y.embargo ≡ None) × (new ≡ record s { refs = map.insert s.refs r y })

-- It leads elsewhere under a new embargo, for which no call waits.
abbrev pub IsLedUnder : State → ℕ → State → Type 0
IsLedUnder s r new =
    (y : Reference) × (e : ℕ) × (b : Embargo) × (y.embargo ≡ Some (record { 0 = e })) × (map.get s.embargoes e ≡ None) × (b.waiting ≡ [])
    × (new ≡ record s { refs = map.insert s.refs r y; embargoes = map.insert s.embargoes e b })

-- A reference without an embargo stayed, or was led elsewhere.
abbrev pub WasLed : State → ℕ → State → Type 0
WasLed s r new = (new ≡ s) ⊎ (IsLed s r new ⊎ IsLedUnder s r new)

-- Nothing changed, and no call was taken out.
abbrev pub IsAsBefore : State → State → List HeldCall → Type 0
IsAsBefore s new taken = (new ≡ s) × (taken ≡ [])

-- The embargo is lifted, where no call waits for that.
abbrev pub LiftsAt : State → ℕ → Option Embargo → State → List HeldCall → Type 0
LiftsAt s e None new taken = IsAsBefore s new taken
LiftsAt s e (Some b) new taken = b.waiting ≡ [] → IsAsBefore (record s { embargoes = map.remove s.embargoes e }) new taken

abbrev pub LiftsFor : State → Option EmbargoId → State → List HeldCall → Type 0
LiftsFor s None new taken = IsAsBefore s new taken
LiftsFor s (Some e) new taken = LiftsAt s e.0 (map.get s.embargoes e.0) new taken

-- That of a reference that was taken out, if it has one.
abbrev pub LiftsOf : State → Option Reference → State → List HeldCall → Type 0
LiftsOf s None new taken = IsAsBefore s new taken
LiftsOf s (Some y) new taken = LiftsFor s y.embargo new taken

-- A reference under an embargo stayed, and one without may have been led elsewhere.
abbrev pub WasAdvancedFrom : State → ℕ → Option EmbargoId → State → Type 0
WasAdvancedFrom s r (Some e) new = new ≡ s
WasAdvancedFrom s r None new = WasLed s r new

-- It was advanced.
abbrev pub WasAdvanced : State → ℕ → Option Reference → State → Type 0
WasAdvanced s r None new = ⊥
WasAdvanced s r (Some x) new = (map.get s.refs r ≡ Some x) × WasAdvancedFrom s r x.embargo new
