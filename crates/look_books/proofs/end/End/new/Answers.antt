use Rattle.std.proofs.Common.{None}
use Rattle.std.proofs.Math.Path.{fun_ext}
use Rattle.look_books.proofs.Keeping.{none_yet, none_in}
use Rattle.look_books.proofs.end.End.new.Goals as goal

pub returns : goal.returns
returns c = λ i. record {
  questions = none_yet c.new.result c.new.ensures.empty i;
  closed = none_yet c.new-2.result c.new-2.ensures.empty i;
  exports = none_yet c.new-3.result c.new-3.ensures.empty i;
  gone = none_yet c.new-4.result c.new-4.ensures.empty i;
  owed = none_in c.new-5.result c.new-5.ensures.empty i;
  led = none_in c.new-6.result c.new-6.ensures.empty i;
  embargoes = none_yet c.new-7.result c.new-7.ensures.empty i;
  down = None;
  said = fun_ext c.new-8.ensures i;
}
