-- The points of the routes of two vats, and their names for the machine of routes. No point is used twice: a promise and
-- an outcome have identities here, while a vat uses their keys again.
use Rattle.std.specs.Prelude.{◌≡◌, ℕ, zero, suc, Bool, true, false, List, [], ◌∷◌, refl}
use Rattle.std.proofs.Common.{ap, ap₂}
use Rattle.rpc_msg.specs.Op.{Op}
use Rattle.rpc_msg.specs.Op.TheVariants as op
use Rattle.rpc_msg.specs.declared.ids.Vat.{Vat}
use Rattle.rpc_msg.specs.declared.ids.Vat.TheVariants.{A, B}
use Rattle.rpc_journal.specs.History.{Ref}
use Rattle.laws_order.specs.Machine.{Names}
use Rattle.laws_order.specs.Decisions.{same_by_code}

pub data Point : Type 0 where
  AnObject : (vat : Vat) (number : ℕ) → Point
  APromise : (vat : Vat) (id : ℕ) → Point
  AField : (vat : Vat) (id : ℕ) (path : List Op) → Point
  -- where a call ends
  Nowhere : (vat : Vat) → Point

-- The open points that settle together.
pub data Group : Type 0 where
  Apart : Group
  OfPromise : (vat : Vat) (id : ℕ) → Group
  OfOutcome : (vat : Vat) (id : ℕ) → Group

-- A vat, as the machine of routes names it.
abbrev pub end : Vat → Bool
end A = true
end B = false

abbrev pub vat_of : Point → Vat
vat_of (AnObject v n) = v
vat_of (APromise v i) = v
vat_of (AField v i path) = v
vat_of (Nowhere v) = v

abbrev pub group_of : Point → Group
group_of (AnObject v n) = Apart
group_of (APromise v i) = OfPromise v i
group_of (AField v i path) = OfOutcome v i
group_of (Nowhere v) = Apart

-- ---- Whether two are the same

abbrev vat_code : Vat → ℕ
vat_code A = 0
vat_code B = 1

abbrev read_vat : ℕ → Vat
read_vat zero = A
read_vat (suc n) = B

abbrev vat_back : (v : Vat) → read_vat (vat_code v) ≡ v
vat_back A = refl
vat_back B = refl

abbrev op_code : Op → ℕ
op_code op.Noop = 0
op_code (op.Field i) = suc i

abbrev read_op : ℕ → Op
read_op zero = op.Noop
read_op (suc i) = op.Field i

abbrev op_back : (x : Op) → read_op (op_code x) ≡ x
op_back op.Noop = refl
op_back (op.Field i) = refl

abbrev path_code : List Op → List ℕ
path_code [] = []
path_code (x ∷ xs) = op_code x ∷ path_code xs

abbrev read_path : List ℕ → List Op
read_path [] = []
read_path (x ∷ xs) = read_op x ∷ read_path xs

abbrev path_back : (xs : List Op) → read_path (path_code xs) ≡ xs
path_back [] = refl
path_back (x ∷ xs) = ap₂ (λ y ys. y ∷ ys) (op_back x) (path_back xs)

abbrev point_code : Point → List ℕ
point_code (AnObject v n) = 0 ∷ vat_code v ∷ n ∷ []
point_code (APromise v i) = 1 ∷ vat_code v ∷ i ∷ []
point_code (AField v i path) = 2 ∷ vat_code v ∷ i ∷ path_code path
point_code (Nowhere v) = 3 ∷ vat_code v ∷ 0 ∷ []

abbrev read_sort : ℕ → Vat → ℕ → List ℕ → Point
read_sort zero v i path = AnObject v i
read_sort (suc zero) v i path = APromise v i
read_sort (suc (suc zero)) v i path = AField v i (read_path path)
read_sort (suc (suc (suc k))) v i path = Nowhere v

abbrev read_point : List ℕ → Point
read_point [] = Nowhere A
read_point (k ∷ []) = Nowhere A
read_point (k ∷ v ∷ []) = Nowhere A
read_point (k ∷ v ∷ i ∷ path) = read_sort k (read_vat v) i path

abbrev point_back : (x : Point) → read_point (point_code x) ≡ x
point_back (AnObject v n) = ap (λ u. AnObject u n) (vat_back v)
point_back (APromise v i) = ap (λ u. APromise u i) (vat_back v)
point_back (AField v i path) = ap₂ (λ u p. AField u i p) (vat_back v) (path_back path)
point_back (Nowhere v) = ap Nowhere (vat_back v)

abbrev group_code : Group → List ℕ
group_code Apart = []
group_code (OfPromise v i) = 0 ∷ vat_code v ∷ i ∷ []
group_code (OfOutcome v i) = 1 ∷ vat_code v ∷ i ∷ []

abbrev read_group_of : ℕ → Vat → ℕ → Group
read_group_of zero v i = OfPromise v i
read_group_of (suc k) v i = OfOutcome v i

abbrev read_group : List ℕ → Group
read_group [] = Apart
read_group (k ∷ []) = Apart
read_group (k ∷ v ∷ []) = Apart
read_group (k ∷ v ∷ i ∷ rest) = read_group_of k (read_vat v) i

abbrev group_back : (x : Group) → read_group (group_code x) ≡ x
group_back Apart = refl
group_back (OfPromise v i) = ap (λ u. OfPromise u i) (vat_back v)
group_back (OfOutcome v i) = ap (λ u. OfOutcome u i) (vat_back v)

abbrev ref_code : Ref → List ℕ
ref_code r = vat_code r.vat ∷ r.number ∷ []

abbrev read_ref : List ℕ → Ref
read_ref [] = record { vat = A; number = 0 }
read_ref (v ∷ []) = record { vat = A; number = 0 }
read_ref (v ∷ n ∷ rest) = record { vat = read_vat v; number = n }

abbrev ref_back : (r : Ref) → read_ref (ref_code r) ≡ r
ref_back r = ap (λ u. record { vat = u; number = r.number }) (vat_back r.vat)

-- The machine of routes over these.
abbrev pub routes : Names
routes = record {
  Node = Point;
  Group = Group;
  Ref = Ref;
  same_node = same_by_code point_code read_point point_back;
  same_group = same_by_code group_code read_group group_back;
  same_ref = same_by_code ref_code read_ref ref_back;
  home = λ x. end (vat_of x);
  group = group_of;
  vat = λ r. end r.vat;
}
