use Rattle.std.proofs.Common.{arith}
use Rattle.capn_reading.proofs.message.Message.parse_within.Goals as goal

pub overflow_cast-count : goal.overflow_cast-count
overflow_cast-count c = omega arith

pub overflow_add-count : goal.overflow_add-count
overflow_add-count c = omega arith

pub overflow_add-count-2 : goal.overflow_add-count-2
overflow_add-count-2 c = omega arith

pub overflow_mul-count : goal.overflow_mul-count
overflow_mul-count c = omega arith

pub spans_of-end-requires-clause-few : goal.spans_of-end-requires-clause-few
spans_of-end-requires-clause-few c = omega arith

pub spans_of-end-requires-clause-table : goal.spans_of-end-requires-clause-table
spans_of-end-requires-clause-table c = omega arith

pub overflow_add-count-3 : goal.overflow_add-count-3
overflow_add-count-3 c = omega arith

pub overflow_sub-end : goal.overflow_sub-end
overflow_sub-end c = let end = c.spans_of-end.ensures.end in omega (arith, end)

pub overflow_mul-end : goal.overflow_mul-end
overflow_mul-end c = let small = c.spans_of-end.ensures.small in omega (arith, small)

pub overflow_mul-end-2 : goal.overflow_mul-end-2
overflow_mul-end-2 c = let small = c.spans_of-end.ensures.small in omega (arith, small)

pub has_zero_padding-requires-clause-few : goal.has_zero_padding-requires-clause-few
has_zero_padding-requires-clause-few c = omega arith

pub has_zero_padding-requires-clause-table : goal.has_zero_padding-requires-clause-table
has_zero_padding-requires-clause-table c = omega arith
