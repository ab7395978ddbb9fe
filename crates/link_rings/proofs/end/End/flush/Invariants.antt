use Rattle.std.proofs.Common.{◌≡◌, ◌+◌, ◌≤◌, ◌++◌, length}
use Rattle.rtrb.specs.Ring.{sent, received, known_free}
use Rattle.link_rings.specs.Ends.{IsSameEnd}
use Rattle.link_rings.proofs.end.End.flush.Given as goal

abbrev pub invariant-loop : goal.invariant-loop
invariant-loop g l = record {
  end : IsSameEnd l.fn.self l.self;
  side : l.self.side ≡ l.fn.self.side;
  log : l.self.log ≡ l.fn.self.log;
  popped : received l.self.consumer ≡ received l.fn.self.consumer;
  in_order : sent l.self.producer ++ l.self.waiting.frames ≡ sent l.fn.self.producer ++ l.fn.self.waiting.frames;
  before_is : l.before ≡ length l.fn.self.waiting.frames;
  fewer : length l.self.waiting.frames ≤ length l.fn.self.waiting.frames;
  free : known_free l.fn.self.producer + length l.self.waiting.frames ≤ length l.fn.self.waiting.frames + known_free l.self.producer;
}

abbrev pub decreases-loop : goal.decreases-loop
decreases-loop g l = length l.self.waiting.frames
