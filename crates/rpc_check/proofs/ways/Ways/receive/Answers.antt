use Rattle.std.proofs.Common.{ap, sym, ◌∙◌}
use Rattle.rpc_msg.specs.declared.ids.Vat.TheVariants.{A, B}
use Rattle.rpc_journal.specs.declared.entry.JournalEntry.TheVariants as entry
use Rattle.rpc_check.proofs.Moving.{ways_told, ways_got}
use Rattle.rpc_check.proofs.ways.Ways.receive.Goals as goal

pub returns-in_ok-kept-in-A-clause-matched : goal.returns-in_ok-kept-in-A-clause-matched
returns-in_ok-kept-in-A-clause-matched c = λ h now. ways_told c.args.self.now B h _ (ap (λ v. entry.Got v) c.in-A.is) now _ c.in_ok-kept-in-A.ensures.left

pub returns-in_ok-kept-in-A-clause-rest : goal.returns-in_ok-kept-in-A-clause-rest
returns-in_ok-kept-in-A-clause-rest c = λ kept h now.
    ways_got c.args.self.now c.receive.new.self B h _ (ap (λ v. entry.Got v) c.in-A.is) now
    (λ ls ss way. sym kept ∙ c.in_ok-kept-in-A.ensures.left ls ss way, c.in_ok-kept-in-A.ensures.rest, c.receive.ensures.said)

pub returns-in_ok-kept-in-B-clause-matched : goal.returns-in_ok-kept-in-B-clause-matched
returns-in_ok-kept-in-B-clause-matched c = λ h now. ways_told c.args.self.now A h _ (ap (λ v. entry.Got v) c.in-B.is) now _ c.in_ok-kept-in-B.ensures.left

pub returns-in_ok-kept-in-B-clause-rest : goal.returns-in_ok-kept-in-B-clause-rest
returns-in_ok-kept-in-B-clause-rest c = λ kept h now.
    ways_got c.args.self.now c.receive-in-B.new.self A h _ (ap (λ v. entry.Got v) c.in-B.is) now
    (λ ls ss way. sym kept ∙ c.in_ok-kept-in-B.ensures.left ls ss way, c.in_ok-kept-in-B.ensures.rest, c.receive-in-B.ensures.said)
