use Rattle.std.proofs.Common.{OnOk, sym, subst}
use Rattle.look_pieces.specs.declared.piece.Side.{Side}
use Rattle.look_pieces.specs.Pieces.{other_side}
use Rattle.look_books.specs.declared.books.Books.{Books}
use Rattle.look_books.specs.Acts.{does}
use Rattle.look_books.specs.Ends.{kept_of, end_of}
use Rattle.look_books.specs.After.{Are, after, results_in}
use Rattle.look_books.proofs.books.Books.take.Goals as goal

pub returns-in-Client : goal.returns-in-Client
returns-in-Client c =
    let old = c.args.self.now in
    let new : Books = record { alloc = old.alloc; client = c.take_said.new.own; server = c.take_said.new.heard } in
    subst (λ (s : Side). OnOk c.take_said.result (Are (after c.args.moment (does c.args.envelope c.args.heading) (results_in c.args.envelope) (kept_of (end_of old s)) (kept_of (end_of old (other_side s)))) (kept_of (end_of new s)) (kept_of (end_of new (other_side s)))))
    (sym c.in-Client.is) c.take_said.ensures

pub returns-in-Server : goal.returns-in-Server
returns-in-Server c =
    let old = c.args.self.now in
    let new : Books = record { alloc = old.alloc; client = c.take_said-in-Server.new.heard; server = c.take_said-in-Server.new.own } in
    subst (λ (s : Side). OnOk c.take_said-in-Server.result (Are (after c.args.moment (does c.args.envelope c.args.heading) (results_in c.args.envelope) (kept_of (end_of old s)) (kept_of (end_of old (other_side s)))) (kept_of (end_of new s)) (kept_of (end_of new (other_side s)))))
    (sym c.in-Server.is) c.take_said-in-Server.ensures
