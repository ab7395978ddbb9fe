use Rattle.std.proofs.Common.{◌∷◌}
use Rattle.rpc_journal.specs.declared.entry.JournalEntry.TheVariants as entry
use Rattle.trace_file.proofs.Going.{lines_read}
use Rattle.trace_file.proofs.follower.follow_lines.Goals as goal

pub returns-in-Ok-follow_entries-clause-ok : goal.returns-in-Ok-follow_entries-clause-ok
returns-in-Ok-follow_entries-clause-ok g c = (
  entry.Head ∷ c.in-Ok-follow_entries.ensures.ok.0,
  lines_read (λ line. line.now) c.args.lines.now c.in-Some.rest.now c.in-Some.first.now c.in-Ok.version _ c.in-Some.ensures.cases.0 c.in-Ok.ensures.ok c.in-Ok-follow_entries.ensures.ok.1,
  (c.take.new.self, c.in-Ok-take.ensures, c.in-Ok-follow_entries.ensures.ok.2),
)
