-- The faults of a book, their names and their numbers: this project's own. docs/SEMANTICS.md, "The agent: the
-- history of a node".
use Rattle.std.specs.Prelude.{ℕ, List, codes}
use Rattle.node_lock.specs.declared.faults.BookFault.{BookFault}
use Rattle.node_lock.specs.declared.faults.BookFault.TheVariants.{Memory, HistoryFull}

abbrev pub fault_number : BookFault → ℕ
fault_number Memory = 6
fault_number HistoryFull = 7

-- as programs print it
abbrev pub fault_text : BookFault → List ℕ
fault_text Memory = codes "Memory"
fault_text HistoryFull = codes "HistoryFull"
