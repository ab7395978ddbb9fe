use Rattle.rpc_check.proofs.Evens.{says_same}
use Rattle.rpc_check.proofs.agreement.agree.Goals as goal

pub returns : goal.returns
returns c = λ way coming.
    says_same c.all_agree.result c.in_ok-exported.exported c.in_ok-imported.imported c.args.handed_on.now c.args.released.now c.args.exports.now c.args.imports.now way
    c.in_ok-exported.ensures c.in_ok-imported.ensures coming c.all_agree.ensures.yes c.all_agree.ensures.no
