-- Payloads are read, and looked into by paths.
use Rattle.std.specs.Prelude.{◌≡◌, ◌⊎◌, ℕ, nat_lt, true, false, if◌then◌else◌, List, [], ◌∷◌, Option, Some, None, Result, Ok, Err, MatchOption}
use Rattle.std.specs.List.{slice_get}
use Rattle.std.specs.Option.{option_and_then, unwrap_or}
use Rattle.capn_trees.specs.Trees.{Tree, null, struct, list, capability}
use Rattle.capn_reading.specs.Reading.{element}
use Rattle.capn_reading.specs.Looking.{IsTextOf, bytes_of, data_of, element_of, field, item_of, length_of}
use Rattle.capn_wire.specs.Payloads.{Contents, IsEncoded, tree_of}
use Rattle.lovendak_c_trees.specs.Contents.{Content, payload}
use Rattle.lovendak_c_trees.specs.Contents as content
use Rattle.lovendak_c_trees.specs.Copies.{CopiesOut}
use Rattle.lovendak_c_trees.specs.Numbers.{is_width}
use Rattle.lovendak_c_trees.specs.Tables.{Adds}
use Rattle.lovendak_c_trees.specs.declared.fault.TreeFault.{TreeFault}
use Rattle.lovendak_c_trees.specs.declared.fault.TreeFault.TheVariants.{Malformed, Nothing, NoSuchNumber}
use Rattle.lovendak_c_trees.specs.declared.read.Standing.{Standing}

-- A payload stands under the next number; or the bytes are none, or it can't be added.
abbrev pub Reads : Contents → Result ℕ TreeFault → List Content → List Content → Type 0
Reads p (Ok n) old new = IsEncoded p × Adds (payload p) (Ok n) old new
Reads p (Err e) old new = ((e ≡ Malformed) × (¬ (IsEncoded p)) × (new ≡ old)) ⊎ Adds (payload p) (Err e) old new

abbrev pub as_payload : Content → Option Contents
as_payload (payload p) = Some p
as_payload (content.struct f) = None
as_payload (content.pointers ts) = None
as_payload (content.structs data_words pointer_words fs) = None
as_payload content.moved = None

abbrev pub payload_at : List Content → ℕ → Option Contents
payload_at contents at = option_and_then as_payload (slice_get contents at)

-- ---- paths

abbrev pub or_else : {A : Type 0} → Option A → Option A → Option A
or_else (Some x) o = Some x
or_else None o = o

-- an element of a list of pointers or structs, or what a pointer of a struct leads to: null past the end and behind null
abbrev pub next : Tree → ℕ → Option Tree
next t n = or_else (item_of t n) (if nat_lt 65535 n then None else field t n)

abbrev pub walk : Tree → List ℕ → Option Tree
walk t [] = Some t
walk t (n ∷ ns) = option_and_then (λ u. walk u ns) (next t n)

-- what stands at a path of a payload, if there is one
abbrev pub standing_at : Option Contents → List ℕ → Option Tree
standing_at p path = option_and_then (λ q. walk (tree_of q) path) p

-- ---- what is told

abbrev pub standing : Tree → Standing
standing null = record { kind = 0; number = 0 }
standing (struct data_words ts) = record { kind = 1; number = 0 }
standing (list elements) = record { kind = 2; number = unwrap_or (length_of (list elements)) 0 }
standing (capability index) = record { kind = 3; number = index }

-- the number of so many bits in the data of a struct, or in a list
abbrev pub in_words : ℕ → ℕ → Option (List ℕ) → Option ℕ → Option ℕ
in_words bits index (Some words) in_list = Some (element words bits index)
in_words bits index None in_list = in_list

abbrev pub number_in : ℕ → Tree → ℕ → Option ℕ
number_in bits t index = in_words bits index (data_of t) (element_of bits t index)

-- That number; or there is no such width, or no such number.
abbrev pub NumberIn : Tree → ℕ → ℕ → Result ℕ TreeFault → Type 0
NumberIn t bits index (Ok n) = (is_width bits ≡ true) × (number_in bits t index ≡ Some n)
NumberIn t bits index (Err e) = ((e ≡ NoSuchNumber) × (is_width bits ≡ false)) ⊎ ((e ≡ Nothing) × (number_in bits t index ≡ None))

-- Something is told of what stands at a path; or nothing stands there.
abbrev pub Told : {A : Type 0} → Option Tree → Result A TreeFault → (Tree → Type 0) → Type 0
Told None (Ok x) Tells = ⊥
Told None (Err e) Tells = e ≡ Nothing
Told (Some t) answer Tells = Tells t

abbrev pub KindAt : Option Contents → List ℕ → Result Standing TreeFault → Type 0
KindAt p path answer = Told (standing_at p path) answer (λ t. answer ≡ Ok (standing t))

abbrev pub NumberAt : Option Contents → List ℕ → ℕ → ℕ → Result ℕ TreeFault → Type 0
NumberAt p path bits index answer = Told (standing_at p path) answer (λ t. NumberIn t bits index answer)

abbrev pub CapabilityIn : Tree → Result ℕ TreeFault → Type 0
CapabilityIn (capability index) answer = answer ≡ Ok index
CapabilityIn null answer = answer ≡ Err Nothing
CapabilityIn (struct data_words ts) answer = answer ≡ Err Nothing
CapabilityIn (list elements) answer = answer ≡ Err Nothing

abbrev pub CapabilityAt : Option Contents → List ℕ → Result ℕ TreeFault → Type 0
CapabilityAt p path answer = Told (standing_at p path) answer (λ t. CapabilityIn t answer)

-- ---- what is handed out

-- Nothing of the kind stands there, and nothing is handed out.
abbrev pub HandsNothing : List ℕ → ℕ → Result (Unit {0}) TreeFault → List ℕ → ℕ → Type 0
HandsNothing room before answer out len = (answer ≡ Err Nothing) × (out ≡ room) × (len ≡ before)

-- The text is copied out where there is room for it.
abbrev pub TextIn : Tree → List ℕ → ℕ → Result (Unit {0}) TreeFault → List ℕ → ℕ → Type 0
TextIn t room before answer out len =
    ((text : List ℕ) × IsTextOf t text × CopiesOut text room answer out len)
    ⊎ (((text : List ℕ) → ¬ (IsTextOf t text)) × HandsNothing room before answer out len)

abbrev pub TextAt : Option Contents → List ℕ → List ℕ → ℕ → Result (Unit {0}) TreeFault → List ℕ → ℕ → Type 0
TextAt p path room before answer out len = MatchOption (standing_at p path) (HandsNothing room before answer out len) (λ t. TextIn t room before answer out len)

-- The bytes are copied out where there is room for them.
abbrev pub DataAt : Option Contents → List ℕ → List ℕ → ℕ → Result (Unit {0}) TreeFault → List ℕ → ℕ → Type 0
DataAt p path room before answer out len =
    MatchOption (option_and_then bytes_of (standing_at p path)) (HandsNothing room before answer out len) (λ bytes. CopiesOut bytes room answer out len)
