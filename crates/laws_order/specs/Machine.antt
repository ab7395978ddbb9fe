-- The machine of routes: two vats, the nodes at which calls can arrive, the references through which
-- calls are made, and the messages between the vats. Nothing is collected, and no name is used twice.
--
-- What stands for what in rpc.capnp:
--   a node        what a MessageTarget names at its receiver: an exported capability, or a place in an answer
--   an open stop  a promise that is not resolved, or a place in an answer that has not returned
--   an exit       a promise or answer that was resolved to a capability of the other vat
--   Call          the message Call
--   Disembargo    the message Disembargo with the context senderLoopback
--   Echo          the message Disembargo with the context receiverLoopback
use Rattle.std.specs.Prelude.{◌≡◌, ℕ, Bool, true, false, List, [], Option, None, T, refl}
use Rattle.std.proofs.Common.{subst, sym}

-- The names that a machine is about, and what is fixed about them. A vat is a Bool.
pub record Names : Type 1 where
  pub Node : Type 0
  pub Group : Type 0
  pub Ref : Type 0
  pub same_node : (x y : Node) → Dec (x ≡ y)
  pub same_group : (x y : Group) → Dec (x ≡ y)
  pub same_ref : (x y : Ref) → Dec (x ≡ y)
  -- the vat where a node is
  pub home : Node → Bool
  -- the group of a node: the open stops of a group settle together and share one list of waiting calls,
  -- as the fields of one answer do
  pub group : Node → Group
  -- the vat that holds a reference
  pub vat : Ref → Bool

-- What a stop does with a call that comes to it: deliver it, keep it waiting, send it on to a node, or end it.
-- Between two vats an exit leads to a node of the other one. Only the event Shorten needs that, and asks for it.
pub data Kind (W : Names) : Type 0 where
  Object : Kind W
  Open : Kind W
  Exit : (to : W.Node) → Kind W
  Broken : Kind W

-- What a message is. A call is known by its number among the calls of its reference.
pub data Content : Type 0 where
  Call : (index : ℕ) → Content
  Disembargo : Content
  Echo : Content

-- A message, with the node of its receiver to which it goes. The echo on the wire has an embargo's id alone:
-- its target, where the disembargo's exit led, is kept here for the proof.
pub record Message (W : Names) : Type 0 where
  pub target : W.Node
  pub ref : W.Ref
  pub what : Content

-- What the two vats do at present: the last node of its own vat to which each node leads, what that stop does,
-- the calls that wait in each group, and the link to each vat. The oldest is first.
pub record Net (W : Names) : Type 0 where
  pub stop : W.Node → W.Node
  pub kind : W.Node → Kind W
  pub waiting : W.Group → List (Message W)
  pub links : Bool → List (Message W)

-- An embargo: the head before the turn back, which is the target of its disembargo, and the calls that it keeps.
pub record Embargo (W : Names) : Type 0 where
  pub old_head : W.Node
  pub calls : List ℕ

-- That a call was delivered, and at which object.
pub record Delivery (W : Names) : Type 0 where
  pub index : ℕ
  pub object : W.Node

-- A reference: whether it was made yet, the node to which its calls go, whether it was found broken, how many
-- calls were made through it, its embargo, and its deliveries. The last are a record for the claims: no step reads them.
pub record Reference (W : Names) : Type 0 where
  pub known : Bool
  pub head : W.Node
  pub dead : Bool
  pub made : ℕ
  pub embargo : Option (Embargo W)
  pub delivered : List (Delivery W)

pub record State (W : Names) : Type 0 where
  pub net : Net W
  pub refs : W.Ref → Reference W

-- The first value if it was decided so, else the second.
abbrev pub choose : {P : Type 0} {B : Type 0} → Dec P → B → B → B
choose (yes _) a b = a
choose (no _) a b = b

-- The function f, but b at k.
abbrev pub changed : {K : Type 0} {B : Type 0} → ((x y : K) → Dec (x ≡ y)) → (K → B) → K → B → K → B
changed same f k b j = choose (same j k) b (f j)

abbrev pub true_not_false : true ≡ false → ⊥
true_not_false e = subst (λ b. T b) e tt

abbrev pub same_vat : (x y : Bool) → Dec (x ≡ y)
same_vat true true = yes refl
same_vat true false = no true_not_false
same_vat false true = no (λ e. true_not_false (sym e))
same_vat false false = yes refl

-- The reference r becomes x.
abbrev pub put_ref : {W : Names} → State W → W.Ref → Reference W → State W
put_ref {W} s r x = record s { refs = changed W.same_ref s.refs r x }

-- A reference through which no call was made.
abbrev pub new_reference : {W : Names} → Bool → W.Node → Reference W
new_reference known head = record { known = known; head = head; dead = false; made = 0; embargo = None; delivered = [] }

-- Where a machine begins: each node is its own stop, nothing is under way, and no reference was made. What a
-- stop does at the start is free, and so is the head that a reference has before it is made.
abbrev pub start : {W : Names} → (W.Node → Kind W) → (W.Ref → W.Node) → State W
start kind heads = record {
  net = record { stop = λ n. n; kind = kind; waiting = λ g. []; links = λ v. [] };
  refs = λ r. new_reference false (heads r);
}
