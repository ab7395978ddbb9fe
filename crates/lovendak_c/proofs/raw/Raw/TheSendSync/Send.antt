-- What a `Raw` owns says the same to every thread.
use mir.Raw.{raw}
use base.Shift.{Keyless}
use denote.Builtin.{RawPtr}
use denote.Memory.{lone}
use denote.Param.Send.{IsSend, owning_send, struct_send, sendable}
use denote.RawPtr.{Ptr}
use denote.Struct.Owning.{shape, fields, to}
use denote.Struct.Struct.{exits_of}
use Rattle.std.proofs.Crossing.{frees}
use Rattle.std.specs.declared.option.Option.{Option}
use Rattle.std.specs.declared.option.Option.TheVariants.{None, Some}
use Rattle.std_alloc.proofs.SendSync.{quiet, lies}
use Rattle.lovendak_c_desk.specs.contracts.desk.Desk as desk
use Rattle.lovendak_c_desk.proofs.desk.Desk.TheSendSync as desk_sent
use Rattle.lovendak_c.specs.Held.{held}
use Rattle.lovendak_c.specs.contracts.raw.Raw.{the_row, the_type}

ps : IsSend RawPtr
ps = search sendable

held_keyless : (p : Ptr) (c : Option desk.the_row.Denot) → Keyless (held p c)
held_keyless p None = tt
held_keyless p (Some x) = (lies desk.the_row desk_sent.the_send p x, frees.frees (record { memory = record { seal = tt } }) (raw (lone desk.the_row.mir)) p)

pub send : IsSend the_row
send = owning_send the_type (ps, tt) (λ d. held_keyless d.at d.desk) (λ k. quiet (to the_type) (exits_of k (fields the_type)) ((struct_send (shape the_type) (ps, tt)).leaving k))
