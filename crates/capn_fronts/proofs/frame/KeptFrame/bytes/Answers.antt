use Rattle.std.proofs.Common.{◌≡◌, ◌≤◌, ◌+◌, ◌*◌, length, subst}
use Rattle.capn_stream.specs.Fronts.{IsFrame}
use Rattle.capn_fronts.specs.Parts.{Part}
use Rattle.capn_fronts.proofs.Held.{few_kept, whole_frame, whole_held}
use Rattle.capn_fronts.proofs.frame.KeptFrame.bytes.Goals as goal

pub returns-clause-whole : goal.returns-clause-whole
returns-clause-whole c =
    subst (λ (p : Part). p.dropped ≡ 0 → IsFrame p.kept) c.self.view_is (whole_frame (record { kept = c.self.inside.kept.items; dropped = c.self.inside.dropped }) c.self.invariant)

pub returns-clause-most : goal.returns-clause-most
returns-clause-most c =
    subst (λ (p : Part). length p.kept ≤ 72 + 8 * 65536) c.self.view_is
    (few_kept (record { kept = c.self.inside.kept.items; dropped = c.self.inside.dropped }) (whole_held (record { kept = c.self.inside.kept.items; dropped = c.self.inside.dropped }) c.self.invariant))
