use Rattle.std.proofs.Common.{rules, map, sym, ◌∙◌, ap}
use Rattle.std.proofs.lemmas.List.{take-map}
use Rattle.std.specs.String.{string_bytes}
use Rattle.pod_folder.specs.declared.looking.TheConstants.{MAX_FILES}
use Rattle.pod_folder.proofs.looking.Looking.begin.Goals as goal

pub returns-clause-names : goal.returns-clause-names
returns-clause-names c = (
  c.sort.new.self.items,
  c.sort.ensures.permutation,
  c.in_ok-files.ensures ∙ ap (map string_bytes) c.truncate.ensures.items
      ∙ sym (take-map string_bytes MAX_FILES c.sort.new.self.items),
  search rules,
)
