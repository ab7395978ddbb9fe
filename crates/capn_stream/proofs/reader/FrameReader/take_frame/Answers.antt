use Rattle.std.proofs.Common.{◌≡◌, ℕ, List, [], Option, Some, None, Vec, Global, ap, sym, subst, ◌∙◌}
use Rattle.capn_trees.specs.declared.faults.PayloadFault.{PayloadFault}
use Rattle.capn_stream.specs.Fronts.{IsHeld, front_of}
use Rattle.capn_stream.specs.Readers.{IsWaiting, reader_of}
use Rattle.capn_stream.proofs.Stable.{held_none}
use Rattle.capn_stream.proofs.reader.FrameReader.take_frame.Goals as goal

pub invariant_of-self : goal.invariant_of-self
invariant_of-self c = subst IsHeld (sym (ap (λ (v : Vec ℕ Global). v.items) c.replace-bytes.ensures.after ∙ c.new.ensures.items)) held_none

emptied : (held : List ℕ) (fault : Option PayloadFault) → held ≡ [] → IsWaiting (reader_of held fault)
unfolding front_of
emptied held None none = subst (λ (bytes : List ℕ). IsWaiting (reader_of bytes None)) (sym none) tt
emptied held (Some fault) none = tt

pub returns-in-Complete-clause-waits : goal.returns-in-Complete-clause-waits
returns-in-Complete-clause-waits c = emptied c.replace-bytes.new.dest.items c.self.inside.fault (ap (λ (v : Vec ℕ Global). v.items) c.replace-bytes.ensures.after ∙ c.new.ensures.items)
