use Rattle.std.proofs.Common.{◌≡◌, ◌≤◌, true, [], length, refl, ap, arith}
use Rattle.std.specs.Str.{is_utf8}
use Rattle.std.proofs.lemmas.List.{drop_all}
use Rattle.std.proofs.lemmas.Str.{is_utf8-from_IsUtf8}
use Rattle.look_names.proofs.schema.behind.Goals as goal

no_bytes : is_utf8 [] ≡ true
no_bytes = is_utf8-from_IsUtf8 [] ([], (refl, refl))

pub returns-then-bytes-prefix : goal.returns-then-bytes-prefix
returns-then-bytes-prefix c =
    let same = ap length c.as_bytes-bytes.ensures.value in
    let short : length c.args.text.now ≤ c.args.prefix = omega (arith, same, c.if-bytes-prefix.true) in
    rw (drop_all c.args.prefix c.args.text.now short, no_bytes) refl
