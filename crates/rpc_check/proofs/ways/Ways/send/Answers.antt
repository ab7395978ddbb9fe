use Rattle.std.proofs.Common.{ap}
use Rattle.rpc_msg.specs.declared.ids.Vat.TheVariants.{A, B}
use Rattle.rpc_journal.specs.declared.entry.JournalEntry.TheVariants as entry
use Rattle.rpc_check.proofs.Moving.{ways_sent}
use Rattle.rpc_check.proofs.ways.Ways.send.Goals as goal

pub returns-in_ok-send-in-A : goal.returns-in_ok-send-in-A
returns-in_ok-send-in-A c = λ h now.
    ways_sent c.args.self.now c.send.new.self A c.args.message.now h _ (ap (λ v. entry.Sent v c.args.message.now) c.in-A.is) now
    (c.in_ok-send-in-A.ensures.way, c.in_ok-send-in-A.ensures.said, c.in_ok-send-in-A.ensures.grows)

pub returns-in_ok-send-in-B : goal.returns-in_ok-send-in-B
returns-in_ok-send-in-B c = λ h now.
    ways_sent c.args.self.now c.send-in-B.new.self B c.args.message.now h _ (ap (λ v. entry.Sent v c.args.message.now) c.in-B.is) now
    (c.in_ok-send-in-B.ensures.way, c.in_ok-send-in-B.ensures.said, c.in_ok-send-in-B.ensures.grows)
