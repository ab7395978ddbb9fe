use Rattle.std.proofs.Common.{List, subst, ap, ◌∙◌}
use Rattle.std.proofs.lemmas.Result.{on_ok_weaker}
use Rattle.std.specs.Prelude.{codes}
use Rattle.serde_json.specs.Data.{Members, put}
use Rattle.serde_json.specs.View.{view}
use Rattle.look_books.specs.declared.breach.Breach.{Breach}
use Rattle.look_books.specs.declared.oddity.Oddity.{Oddity}
use Rattle.look_json.specs.Lines.{IsBroken, IsOdd, AreSaid}
use Rattle.look_json.proofs.line.put_found.Goals as goal

pub returns : goal.returns
returns c =
    on_ok_weaker c.put-2.result
    (λ new. (
      view c.in_ok-broken.broken,
      view c.in_ok-odd.odd,
      subst (λ (bs : List Breach). AreSaid IsBroken bs (view c.in_ok-broken.broken)) c.as_slice-breaches.ensures.value c.in_ok-broken.ensures,
      subst (λ (os : List Oddity). AreSaid IsOdd os (view c.in_ok-odd.odd)) c.as_slice.ensures.value c.in_ok-odd.ensures,
      new ∙ ap (λ (ms : Members). put (codes "odd") (view c.in_ok-odd.odd) ms) c.in_ok-put.ensures.ok,
    ))
    c.put-2.ensures.ok
