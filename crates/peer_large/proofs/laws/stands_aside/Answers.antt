use Rattle.std.proofs.Common.{◌≡◌, Bool, Option, is_some, refl, ap, nat_cmp}
use Rattle.std.specs.FinMap as finite
use Rattle.std.specs.FinMap.{get-empty}
use Rattle.rpc_msg.specs.declared.message.Message.{Message}
use Rattle.rpc_msg.specs.declared.message.Message.TheVariants as message
use Rattle.rpc_msg.specs.declared.message.PlainMessage.{PlainMessage}
use Rattle.rpc_msg.specs.declared.message.PlainMessage.TheVariants as plain
use Rattle.peer_adapter.specs.Peering.{Peering}
use Rattle.peer_large.specs.declared.limit.Limit.{Limit}
use Rattle.peer_large.specs.Sparing.{Sparing, finishes, goes, goes_plain, passes}
use Rattle.peer_large.proofs.laws.stands_aside.Goals as goal

abbrev none : Peering → Sparing
none p = record { peering = p; returned = finite.empty }

plainly : (p : Peering) (m : PlainMessage) → goes_plain (none p) m ≡ passes (none p) (message.Plain m)
plainly p (plain.Abort x) = refl
plainly p (plain.Bootstrap q) = refl
plainly p (plain.Call c) = refl
plainly p (plain.Return r) = refl
plainly p (plain.Finish f) = ap (λ (b : Bool). finishes (none p) f b) (ap (λ (o : Option Limit). is_some o) (get-empty nat_cmp f.question.0))
plainly p (plain.Resolve r) = refl
plainly p (plain.Release r) = refl
plainly p (plain.Disembargo d) = refl
plainly p (plain.Other n) = refl

all : (p : Peering) (m : Message) → goes (none p) m ≡ passes (none p) m
all p (message.Plain m) = plainly p m
all p (message.Unimplemented m) = refl

pub returns : goal.returns
returns c = record { comes = λ t s w. refl; goes = all }
