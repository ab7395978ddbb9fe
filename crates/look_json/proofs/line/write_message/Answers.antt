use Rattle.std.proofs.Common.{List, subst, ap, ◌∙◌}
use Rattle.std.proofs.lemmas.Result.{on_ok_weaker}
use Rattle.serde_json.specs.Data.{Members}
use Rattle.serde_json.specs.View.{view, members_view}
use Rattle.serde_json.specs.declared.value.Value.TheVariants.{Object}
use Rattle.serde_json.proofs.Views.{view-Object}
use Rattle.look_pieces.specs.Pieces.{other_side}
use Rattle.look_books.specs.Ends.{kept_of, end_of}
use Rattle.rpc_dump_lib.specs.Named.{members_in}
use Rattle.look_json.specs.Lines.{with_front, with_links, IsFound}
use Rattle.look_json.proofs.line.write_message.Goals as goal

pub returns : goal.returns
returns c = λ named.
    let place = c.args.place.now in
    let own = kept_of (end_of place.books.now place.side) in
    let heard = kept_of (end_of place.books.now (other_side place.side)) in
    let base = c.members_of-members.ensures ∙ ap members_in (c.in_ok-write_line.ensures named) in
    let front = c.in_ok-put_front.ensures.1 ∙ ap (λ (ms : Members). with_front place.moment c.in_ok-put_front.ensures.0 ms) base in
    let links = c.in_ok-put_links.ensures ∙ ap (λ (ms : Members). with_links own heard place.moment.number c.args.envelope.now c.args.heading ms) front in
    let found = subst (λ (ms : Members). IsFound c.args.found.now ms (members_view c.put_found.new.members.entries)) links c.in_ok-put_found.ensures in
    on_ok_weaker c.write_line-2.result
    (λ written. (
      view (Object c.put_found.new.members),
      (c.in_ok-put_front.ensures.0, members_view c.put_found.new.members.entries, found, view-Object c.put_found.new.members),
      written,
    ))
    c.write_line-2.ensures
