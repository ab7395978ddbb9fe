-- The numbers of words while they are placed: plain arithmetic, out of sight of what the code knows besides.
use Rattle.std.proofs.Common.{◌≡◌, ℕ, suc, ◌+◌, ◌-◌, ◌*◌, ◌<◌, ◌≤◌, ap, subst, ◌∙◌, arith}
use Rattle.capn_writing.specs.Laying.{HasRoom}

pub sum_same : {a b d p : ℕ} → a ≡ d → b ≡ p → a + b ≡ d + p
sum_same ea eb = omega arith

pub le_then : {a b c : ℕ} → a ≤ b → b ≤ c → a ≤ c
le_then x y = omega arith

-- the first of what there is room for
pub room_first : (rest : ℕ) {all first words room : ℕ} → all ≡ first + rest → HasRoom all words room → HasRoom first words room
room_first rest e h = record { few = omega arith; spare = omega arith }

-- what is behind it, once it is placed
pub room_rest : (first : ℕ) {all rest words room after left : ℕ} → all ≡ first + rest → after ≡ words + first → room ≤ left → HasRoom all words room → HasRoom rest after left
room_rest first e size more h = record { few = omega arith; spare = omega arith }

-- the pointers from number i on have their places in the words
pub slot_inside : {slot n i words : ℕ} → slot + (n - i) ≤ words → i < n → slot < words
slot_inside inside test = omega arith

pub slot_next : (at i : ℕ) {slot : ℕ} → slot ≡ at + i → slot + 1 ≡ at + (i + 1)
slot_next at i e = omega arith

pub inside_next : (slot first : ℕ) {n i words after : ℕ} → after ≡ words + first → slot + (n - i) ≤ words → i < n → slot + 1 + (n - (i + 1)) ≤ after
inside_next slot first size inside test = omega arith

-- the structs from number i on have their places in the words, the first before the others
pub struct_inside : (slot k : ℕ) {n i words : ℕ} → i < n → slot + (n - i) * k ≤ words → slot + (k + (n - (i + 1)) * k) ≤ words
struct_inside slot k {n} {i} {words} test inside =
    let one : n - i ≡ suc (n - (i + 1)) = omega arith in
    let more : suc (n - (i + 1)) * k ≡ k + (n - (i + 1)) * k = omega arith in
    subst (λ (m : ℕ). slot + m ≤ words) (ap (λ (m : ℕ). m * k) one ∙ more) inside

pub struct_fits : (slot rest : ℕ) {a b d p words : ℕ} → a ≡ d → b ≡ p → slot + ((d + p) + rest) ≤ words → slot + a + b ≤ words
struct_fits slot rest ed ep inside = omega arith

pub section_fits : (slot rest : ℕ) {l a b d p words : ℕ} → l ≡ a + b → a ≡ d → b ≡ p → slot + ((d + p) + rest) ≤ words → slot + l ≤ words
section_fits slot rest e ed ep inside = omega arith

pub struct_next : (slot k rest first : ℕ) {words after next : ℕ} → next ≡ slot + k → after ≡ words + first → slot + (k + rest) ≤ words → next + rest ≤ after
struct_next slot k rest first e size inside = omega arith

-- zeros behind the words, for a struct
pub struct_long : (words : ℕ) {zeroed added len slice ds ts count : ℕ} → zeroed ≡ words + added → added ≡ len + slice → len ≡ ds → slice ≡ ts → count ≡ ts → zeroed ≡ words + (ds + count)
struct_long words z a l s n = omega arith

pub struct_there : {next words d slice ds ts count zeroed : ℕ} → next ≡ words → d ≡ ds → slice ≡ ts → count ≡ ts → zeroed ≡ words + (ds + count) → next + d + slice ≤ zeroed
struct_there x d s n z = omega arith

-- a tag and zeros behind the words, for structs
pub list_long : (words : ℕ) {zeroed tagged added count size : ℕ} → zeroed ≡ tagged + added → added ≡ count → tagged ≡ words + 1 → count ≡ size → zeroed ≡ words + (size + 1)
list_long words z a t c = omega arith

pub list_there : (size : ℕ) {next words zeroed : ℕ} → next ≡ words → zeroed ≡ words + (size + 1) → next + 1 + size ≤ zeroed
list_there size x z = omega arith

-- zeros behind the words, for pointers
pub pointers_there : (count : ℕ) {next words zeroed : ℕ} → next ≡ words → zeroed ≡ words + count → next + count ≤ zeroed
pointers_there count x z = omega arith

-- room for a list's tag, and for its structs behind it
pub tag_spare : (size rest : ℕ) {words room : ℕ} → HasRoom (size + 1 + rest) words room → words < room
tag_spare size rest h = omega arith

pub list_spare : (rest : ℕ) {words tagged count size room left : ℕ} → tagged ≡ words + 1 → count ≡ size → left ≡ room → HasRoom (size + 1 + rest) words room → tagged + count ≤ left
list_spare rest t c e h = omega arith

-- room for zeros, before what is behind them
pub zeros_spare : (rest : ℕ) {all count zeros words room : ℕ} → all ≡ count + rest → zeros ≡ count → HasRoom all words room → words + zeros ≤ room
zeros_spare rest e z h = omega arith

pub shorter_then : {n k most : ℕ} → n ≤ most → k ≡ n → k ≤ most
shorter_then le e = omega arith
