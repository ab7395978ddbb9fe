use Rattle.std.proofs.Common.{arith}
use Rattle.rpc_codec_parts.proofs.Within.{content_within, table_within}
use Rattle.rpc_codec_parts.proofs.payloads.tree_of_payload.Goals as goal

pub with_two-requires-clause-first : goal.with_two-requires-clause-first
with_two-requires-clause-first c n le = rw c.in_ok-content.ensures (content_within c.args.payload.now c.bytes.ensures.payload n (omega arith))

pub with_two-requires-clause-second : goal.with_two-requires-clause-second
with_two-requires-clause-second c n le = rw c.in_ok-table.ensures (rw c.as_slice.ensures (table_within _ n (omega arith)))

pub returns-clause-depth : goal.returns-clause-depth
returns-clause-depth c =
    c.with_two.ensures.depth 64
    (λ n le. rw c.in_ok-content.ensures (content_within c.args.payload.now c.bytes.ensures.payload n le))
    (λ n le. rw c.in_ok-table.ensures (rw c.as_slice.ensures (table_within _ n (omega arith))))
