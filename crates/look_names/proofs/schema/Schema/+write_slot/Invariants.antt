use Rattle.look_names.proofs.schema.Schema.+write_slot.Given as goal

abbrev pub decreases-write_slot : goal.decreases-write_slot
decreases-write_slot l = l.levels
