use Rattle.std.proofs.Common.{List, ap, map, ◌∙◌}
use Rattle.lovendak_c_trees.specs.declared.content.Content as program
use Rattle.lovendak_c_trees.specs.declared.content.Draft.{Draft}
use Rattle.lovendak_c_trees.specs.Contents.{fields, in_list, shown, tree_of}
use Rattle.lovendak_c_trees.proofs.Copied.{list_copied}
use Rattle.lovendak_c_trees.proofs.written.copy_content.Goals as goal

pub returns-in_ok-items-in-Structs : goal.returns-in_ok-items-in-Structs
returns-in_ok-items-in-Structs c =
    ap (λ (x : program.Content). tree_of (shown x)) c.in-Structs.is
    ∙ list_copied c.in-Structs.data_words c.in-Structs.pointer_words c.in_ok-items-in-Structs.items c.in-Structs.items.items
    (c.in_ok-items-in-Structs.ensures ∙ ap (λ (ds : List Draft). map (λ d. in_list (fields d)) ds) c.as_slice-in-Structs.ensures.value)
