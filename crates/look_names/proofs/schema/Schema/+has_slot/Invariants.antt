use Rattle.look_names.proofs.schema.Schema.+has_slot.Given as goal

abbrev pub decreases-has_slot : goal.decreases-has_slot
decreases-has_slot l = l.levels
