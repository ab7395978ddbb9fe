use Rattle.std.proofs.Common.{List, sym, ap, ◌∙◌}
use Rattle.std.specs.List.{list_any}
use Rattle.rpc_msg.specs.declared.ids.Stamp.{Stamp}
use Rattle.rpc_machine.specs.Queries.{stamps_under}
use Rattle.core_waits.specs.Waiting.{calls_at, seen_by, embargo_list, embargo_with}
use Rattle.core_waits.specs.Through.{is_by}
use Rattle.core_waits.proofs.Looking.{some_in, some_here, none_here, some_in_map, without_paths}
use Rattle.core_waits.proofs.through.embargoes_hold.Goals as goal

pub loop-key-init : goal.loop-key-init
loop-key-init c = ap (some_in (is_by c.args.vat c.args.reference) stamps_under (seen_by embargo_list embargo_with c.args.pool.now.lists)) (c.into_iter-key-iterator.ensures.into_iter_gives ∙ c.iter-key-items.ensures.entries)

pub returns-then-list_holds : goal.returns-then-list_holds
returns-then-list_holds c =
    sym (some_here (is_by c.args.vat c.args.reference) stamps_under (seen_by embargo_list embargo_with c.args.pool.now.lists) c.loop-key._key-iterator c.next.new.self c.in-Some._key c.in-Some.entry.now c.in-Some.ensures.steps (ap (λ (ss : List Stamp). list_any (is_by c.args.vat c.args.reference) ss) (without_paths (calls_at c.args.pool.now.lists c.in-Some.entry.now.list)) ∙ sym c.if-list_holds.ensures)) ∙ c.loop-key.invariant
    ∙ some_in_map (is_by c.args.vat c.args.reference) stamps_under (seen_by embargo_list embargo_with c.args.pool.now.lists) c.args.embargoes.now.entries

pub loop-key-preserved : goal.loop-key-preserved
loop-key-preserved c =
    none_here (is_by c.args.vat c.args.reference) stamps_under (seen_by embargo_list embargo_with c.args.pool.now.lists) c.loop-key._key-iterator c.next.new.self c.in-Some._key c.in-Some.entry.now c.in-Some.ensures.steps (ap (λ (ss : List Stamp). list_any (is_by c.args.vat c.args.reference) ss) (without_paths (calls_at c.args.pool.now.lists c.in-Some.entry.now.list)) ∙ sym c.if-list_holds.ensures)
    ∙ c.loop-key.invariant

pub returns : goal.returns
returns c =
    sym (ap (some_in (is_by c.args.vat c.args.reference) stamps_under (seen_by embargo_list embargo_with c.args.pool.now.lists)) c.in-None.ensures.steps.0) ∙ c.loop-key.invariant ∙ some_in_map (is_by c.args.vat c.args.reference) stamps_under (seen_by embargo_list embargo_with c.args.pool.now.lists) c.args.embargoes.now.entries
