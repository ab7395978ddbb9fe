use Rattle.peer_kinds.proofs.Following.{others_heard}
use Rattle.peer_kinds.proofs.firsts.Firsts.hear.Goals as goal

pub returns-in_default : goal.returns-in_default
returns-in_default g c = λ stands before after tells follows.
    others_heard stands c.args.self.now before after follows c.args.descriptor c.in_default.not-SenderHosted c.in_default.not-SenderPromise
