use Rattle.vat_hosts.proofs.Served.{served_rightly}
use Rattle.vat_hosts.proofs.laws.hosts_serve_what_is_given.Goals as goal

pub returns : goal.returns
returns c = served_rightly c.authority_is_given.ensures c.authority_is_kept.ensures.kept c.authority_is_kept.ensures.each c.all_at_most_once.ensures
