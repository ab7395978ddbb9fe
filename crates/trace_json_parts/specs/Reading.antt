-- Reading JSON values in order, a fault ending it.
use Rattle.std.specs.Prelude.{◌≡◌, ℕ, List, [], ◌∷◌, Bool, true, false, Result, Ok, Err, nat_lt, if◌then◌else◌}
use Rattle.std.specs.Str.{bytes_eq}
use Rattle.serde_json.specs.Data.{Data, null, boolean, number, string, array, object, Num, unsigned, negative, float, Items, no_items, item, Members, no_members, member}
use Rattle.trace_json_parts.specs.declared.fault.Fault.{Fault}
use Rattle.trace_json_parts.specs.declared.fault.Fault.TheVariants as fault
use Rattle.trace_write.specs.declared.version.TraceVersion.{TraceVersion}
use Rattle.trace_write.specs.declared.version.TraceVersion.TheVariants.{One, Two}

abbrev pub Read : Type 0 → Type 0
Read A = Result A Fault

infixl 10 ◌>>=◌
abbrev pub ◌>>=◌ : {A B : Type 0} → Read A → (A → Read B) → Read B
(Ok x) >>= f = f x
(Err e) >>= f = Err e

-- What a function returned is what reading gives, unless memory was refused.
abbrev pub Fails : {Y : Type 0} → Fault → Read Y → Type 0
Fails fault.Memory read = Unit {0}
Fails fault.WrongShape read = read ≡ Err fault.WrongShape

abbrev pub Gives : {X Y : Type 0} → (X → Y) → Read X → Read Y → Type 0
Gives view (Ok x) read = read ≡ Ok (view x)
Gives view (Err e) read = Fails e read

-- ---- a value

abbrev pub members_at : Data → Read Members
members_at (object ms) = Ok ms
members_at null = Err fault.WrongShape
members_at (boolean b) = Err fault.WrongShape
members_at (number n) = Err fault.WrongShape
members_at (string s) = Err fault.WrongShape
members_at (array ds) = Err fault.WrongShape

abbrev pub num_below : ℕ → Num → Read ℕ
num_below bound (unsigned n) = if nat_lt n bound then Ok n else Err fault.WrongShape
num_below bound (negative z) = Err fault.WrongShape
num_below bound (float x) = Err fault.WrongShape

abbrev pub nat_at : ℕ → Data → Read ℕ
nat_at bound (number n) = num_below bound n
nat_at bound null = Err fault.WrongShape
nat_at bound (boolean b) = Err fault.WrongShape
nat_at bound (string s) = Err fault.WrongShape
nat_at bound (array ds) = Err fault.WrongShape
nat_at bound (object ms) = Err fault.WrongShape

-- a number of 64 bits: JSON's integers have no more
abbrev pub u64_num : Num → Read ℕ
u64_num (unsigned n) = Ok n
u64_num (negative z) = Err fault.WrongShape
u64_num (float x) = Err fault.WrongShape

abbrev pub u64_at : Data → Read ℕ
u64_at (number n) = u64_num n
u64_at null = Err fault.WrongShape
u64_at (boolean b) = Err fault.WrongShape
u64_at (string s) = Err fault.WrongShape
u64_at (array ds) = Err fault.WrongShape
u64_at (object ms) = Err fault.WrongShape

abbrev pub text_at : Data → Read (List ℕ)
text_at (string s) = Ok s
text_at null = Err fault.WrongShape
text_at (boolean b) = Err fault.WrongShape
text_at (number n) = Err fault.WrongShape
text_at (array ds) = Err fault.WrongShape
text_at (object ms) = Err fault.WrongShape

-- true only in version 2
abbrev pub flag_in : TraceVersion → Bool → Read Bool
flag_in version false = Ok false
flag_in One true = Err fault.WrongShape
flag_in Two true = Ok true

abbrev pub flag_at : TraceVersion → Data → Read Bool
flag_at version (boolean b) = flag_in version b
flag_at version null = Err fault.WrongShape
flag_at version (number n) = Err fault.WrongShape
flag_at version (string s) = Err fault.WrongShape
flag_at version (array ds) = Err fault.WrongShape
flag_at version (object ms) = Err fault.WrongShape

-- ---- the members of an object, in order

abbrev pub next_at : List ℕ → Members → Read (Data × Members)
next_at key no_members = Err fault.WrongShape
next_at key (member k d ms) = if bytes_eq k key then Ok (d, ms) else Err fault.WrongShape

abbrev pub end_at : Members → Read Unit
end_at no_members = Ok tt
end_at (member k d ms) = Err fault.WrongShape

-- a member, read by f
unfoldable pub field_at : {A : Type 0} → (Data → Read A) → List ℕ → Members → Read (A × Members)
field_at f key ms = do
  m ← next_at key ms
  x ← f m.0
  Ok (x, m.1)

-- the last member's value
unfoldable pub last_value_at : List ℕ → Members → Read Data
last_value_at key ms = do
  m ← next_at key ms
  end ← end_at m.1
  Ok m.0

-- the last member, read by f
unfoldable pub last_at : {A : Type 0} → (Data → Read A) → List ℕ → Members → Read A
last_at f key ms = last_value_at key ms >>= f

-- two members, read by f and g
unfoldable pub two_at : {A B : Type 0} → (Data → Read A) → (Data → Read B) → List ℕ → List ℕ → Members → Read (A × B × Members)
two_at f g first second ms = do
  x ← field_at f first ms
  y ← field_at g second x.1
  Ok (x.0, y.0, y.1)

-- the last two members, read by f and g
unfoldable pub last_two_at : {A B : Type 0} → (Data → Read A) → (Data → Read B) → List ℕ → List ℕ → Members → Read (A × B)
last_two_at f g first second ms = do
  x ← field_at f first ms
  y ← last_at g second x.1
  Ok (x.0, y)

-- an object of two members, read by f and g
unfoldable pub both_at : {A B : Type 0} → (Data → Read A) → (Data → Read B) → List ℕ → List ℕ → Data → Read (A × B)
both_at f g first second d = members_at d >>= last_two_at f g first second

-- a member that is the text `word`
unfoldable pub word_at : List ℕ → List ℕ → Members → Read Members
word_at word key ms = do
  s ← field_at text_at key ms
  if bytes_eq s.0 word then Ok s.1 else Err fault.WrongShape

-- the only member
abbrev pub alone : Members → Read (List ℕ × Data)
alone no_members = Err fault.WrongShape
alone (member k d ms) = end_at ms >>= λ end. Ok (k, d)

unfoldable pub only_at : Data → Read (List ℕ × Data)
only_at d = members_at d >>= alone

-- ---- lists

abbrev pub items_at : {A : Type 0} → (Data → Read A) → Items → Read (List A)
items_at f no_items = Ok []
items_at f (item d ds) = do
  x ← f d
  xs ← items_at f ds
  Ok (x ∷ xs)

abbrev pub list_at : {A : Type 0} → (Data → Read A) → Data → Read (List A)
list_at f (array ds) = items_at f ds
list_at f null = Err fault.WrongShape
list_at f (boolean b) = Err fault.WrongShape
list_at f (number n) = Err fault.WrongShape
list_at f (string s) = Err fault.WrongShape
list_at f (object ms) = Err fault.WrongShape
