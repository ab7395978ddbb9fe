use Rattle.std.proofs.Common.{sym, ap, subst}
use Rattle.rpc_msg.specs.declared.ids.Vat.TheVariants.{A, B}
use Rattle.link_logs.specs.Steps.{Held}
use Rattle.link_logs.specs.Promises.{Pair, IsBegun}
use Rattle.link_ends.proofs.gathered.gather.Goals as goal

pub invariant_of-result : goal.invariant_of-result
invariant_of-result c = record {
  begun_a = subst (λ (h : Held). IsBegun A h) (sym (ap (λ (p : Pair). p.start_a) c.of.ensures)) c.requires.1;
  begun_b = subst (λ (h : Held). IsBegun B h) (sym (ap (λ (p : Pair). p.start_b) c.of.ensures)) c.requires.2;
}
