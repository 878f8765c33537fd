-- Reports on accepting connections, this project's own: docs/SEMANTICS.md, "The socket at a path".
use Rattle.std.specs.Prelude.{ℕ, List, ◌++◌, codes, Option, Some, None}
use Rattle.node_io.specs.declared.causes.Cause.{Cause}
use Rattle.node_io.specs.Causes.{cause_text}
use Rattle.runtime_server.specs.declared.accepting.Report.{Report}
use Rattle.runtime_server.specs.declared.accepting.Report.TheVariants.{Fails, Works}

-- the report of a new fault, or that the fault is over
abbrev pub report_for : Option Cause → Report
report_for (Some cause) = Fails cause
report_for None = Works

abbrev pub report_text : Report → List ℕ
report_text (Fails cause) = codes "cannot accept connections: " ++ cause_text cause
report_text Works = codes "accepts connections again"
