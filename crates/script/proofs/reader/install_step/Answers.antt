use Rattle.std.proofs.Common.{◌≡◌, codes, List, map, Result, Some, Ok, refl, subst, sym}
use Rattle.std.specs.Prelude.{IfOk}
use Rattle.serde_json.specs.View.{view}
use Rattle.bpf_code.specs.declared.insn.Insn.{Insn}
use Rattle.json_tree.specs.Tree.{each}
use Rattle.json_tree.proofs.Fields.{as_fault_ok}
use Rattle.script.specs.declared.faults.ScriptFault.{ScriptFault}
use Rattle.script.specs.declared.install.Row.{Row}
use Rattle.script.specs.Faults.{fault_at}
use Rattle.script.specs.Script.{SpellsFilter, row}
use Rattle.script.specs.Reading.{install_step_of}
use Rattle.script.specs.Reading.StepText.{Installs}
use Rattle.script.proofs.reader.install_step.Goals as goal

pub returns : goal.returns
unfolding install_step_of
returns c =
    let read = c.in_ok-items.ensures in
    let is : c.filter.result ≡ Ok c.in_ok-filter.filter =
    as_fault_ok (fault_at (codes "install")) c.filter.result c.in_ok-filter.filter
    (sym c.in_ok-filter.ensures) in
    let found = subst (λ (r : Result (List Insn) ScriptFault).
    IfOk r (λ filter. (numbers : List Row) → each row (map view c.in_ok-items.items.now) ≡ Some numbers
    → SpellsFilter numbers filter))
    is c.filter.ensures.found in (
      Installs read.0 c.in_ok-beside.beside.on_error,
      rw (← c.in_ok-beside.ensures, read.2) refl,
      (c.in_ok-filter.filter, found read.0 read.1, refl),
    )
