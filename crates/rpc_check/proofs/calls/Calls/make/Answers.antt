use Rattle.std.proofs.Common.{ap}
use Rattle.rpc_msg.specs.declared.ids.Vat.TheVariants.{A, B}
use Rattle.rpc_journal.specs.declared.entry.JournalEntry.TheVariants as entry
use Rattle.rpc_check.proofs.Called.{calls_made}
use Rattle.rpc_check.proofs.calls.Calls.make.Goals as goal

pub returns-in_ok-make-in-A : goal.returns-in_ok-make-in-A
returns-in_ok-make-in-A c = λ h now.
    calls_made c.args.self.now c.make.new.self A c.args.made.now h _ (ap (λ v. entry.Made v c.args.made.now) c.in-A.is) now c.in_ok-make-in-A.ensures

pub returns-in_ok-make-in-B : goal.returns-in_ok-make-in-B
returns-in_ok-make-in-B c = λ h now.
    calls_made c.args.self.now c.make-in-B.new.self B c.args.made.now h _ (ap (λ v. entry.Made v c.args.made.now) c.in-B.is) now c.in_ok-make-in-B.ensures
