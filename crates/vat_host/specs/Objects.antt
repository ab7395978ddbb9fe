-- The objects that an application hosts, as a host keeps them.
use Rattle.std.specs.Prelude.{ℕ, Option, None, Some, refl}
use Rattle.std.specs.Coded.{Coded, code_by, coded_ℕ}
use Rattle.std.specs.FinMap as map
use Rattle.rpc_msg.specs.declared.ids.ObjectId.{ObjectId}
use Rattle.laws_released.specs.Known.{Objects as Known}

-- Objects, by their numbers.
abbrev pub Objects : Type 0
Objects = Known

abbrev pub no_objects : Objects
no_objects = map.empty

abbrev pub objects_code : Coded Objects
objects_code = map.code coded_ℕ (code_by ℕ coded_ℕ (λ _. 0) (λ _. tt) (λ _. refl))

-- one more, if it is one
abbrev pub with_object : Option ObjectId → Objects → Objects
with_object None m = m
with_object (Some o) m = map.insert m o.0 tt
