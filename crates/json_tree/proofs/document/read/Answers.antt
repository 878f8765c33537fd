-- A text that was refused, memory aside, has no tree.
use Rattle.std.proofs.Common.{◌∙◌, ap, sym, true≢false}
use Rattle.json_tree.specs.Reading.{document, or_else}
use Rattle.json_tree.specs.declared.faults.TextFault.TheVariants.{NotJson}
use Rattle.json_tree.proofs.Utf8.{untold}
use Rattle.json_tree.proofs.document.read.Goals as goal

pub returns-in-Err-2 : goal.returns-in-Err-2
unfolding document
returns-in-Err-2 c = λ _. ap (or_else NotJson)
    (untold c.args.bytes.now (c.in-Err.ensures.err (λ memory.
    true≢false (sym (c.is_memory.ensures.1 memory) ∙ c.if-is_memory.false))))
