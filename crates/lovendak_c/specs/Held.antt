-- What a handle owns.
use base.Fml.{Fml, ftrue}
use denote.RawPtr.{Ptr}
use mir.Syntax.{Ty}
use Rattle.std.specs.Box.Ownership.{box_owns}
use Rattle.std.specs.Prelude.{Bool, true, false}
use Rattle.std.specs.declared.option.Option.{Option}
use Rattle.std.specs.declared.option.Option.TheVariants.{None, Some}
use Rattle.std_heap.specs.contracts.GlobalAllocator.TheImpl.{ghosts}
use Rattle.lovendak_c_desk.specs.contracts.desk.Desk.{the_row}

-- the right to free a block of the heap, whichever handle of the heap is named
abbrev pub token : Ty → Ptr → Fml
token = ghosts.dealloc_token (record { memory = record { seal = tt } })

-- nothing, or the boxed desk at p
abbrev pub held : Ptr → Option the_row.Denot → Fml
held p None = ftrue
held p (Some x) = box_owns token the_row p x

-- whether there is a desk
abbrev pub is_there : Option the_row.Denot → Bool
is_there None = false
is_there (Some x) = true
