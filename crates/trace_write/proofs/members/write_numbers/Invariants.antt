use Rattle.std.proofs.Common.{◌≡◌, drop, map}
use Rattle.serde_json.specs.Data.{no_members}
use Rattle.serde_json.specs.View.{members_view}
use Rattle.trace_write.specs.Members.{with_all}
use Rattle.trace_write.specs.Parts.{nat}
use Rattle.trace_write.proofs.members.write_numbers.Given as goal

abbrev pub invariant-loop-key : goal.invariant-loop-key
invariant-loop-key l = with_all (map (λ m. (m.0.now, nat m.1)) (drop l.key-index l.numbers)) (members_view l.members.entries) ≡ with_all (map (λ m. (m.0.now, nat m.1)) l.numbers) no_members
