use Rattle.std.proofs.Common.{◌++◌, string_bytes, ap, ◌∙◌}
use Rattle.trace_write.specs.declared.version.TraceVersion.TheVariants.{Two}
use Rattle.trace_file.specs.Traces.{trace_text}
use Rattle.trace_file.proofs.Going.{written_all}
use Rattle.trace_file.proofs.version_two.upgrade.Goals as goal

pub returns-in-Ok-clause-ok : goal.returns-in-Ok-clause-ok
returns-in-Ok-clause-ok c = (
  c.in-Ok.field-0,
  c.in-Ok.ensures.ok.0,
  c.in-Ok.ensures.ok.1,
  written_all (λ w. string_bytes w.text) _ _ _ c.in-Ok.ensures.ok.2 ∙ ap (λ t. t ++ trace_text Two c.in-Ok.ensures.ok.0) c.new.ensures.bytes,
)
