-- The links of a run before any link are a run.
use Rattle.std.proofs.Common.{List, [], ◌∷◌, ◌++◌, Option, subst}
use Rattle.bpf_code.specs.declared.insn.Insn.{Insn}
use Rattle.runtime_laws.specs.Laws.{LinkLaws, RunLaws}
use Rattle.runtime_laws.specs.Runs.{IsRun, Link}
use Rattle.runtime_history.specs.declared.event.Event.{Event}
use Rattle.runtime_history.specs.History.{AreLawful, IsRunOf}
use Rattle.runtime_history.proofs.Lacking.{lacks_in}

run_before : (baseline : Option (List Insn)) (later : List Link) (l : Link) (before : List Link)
    → IsRun baseline (later ++ l ∷ before) → IsRun baseline (l ∷ before)
run_before baseline [] l before run = run
run_before baseline (x ∷ xs) l before run = run_before baseline xs l before run.2

pub lawful : (baseline : Option (List Insn)) (events : List Event) → IsRunOf baseline events
    → ((b : Option (List Insn)) (ls : List Link) → IsRun b ls → RunLaws b ls)
    → ((b : Option (List Insn)) (l : Link) (before : List Link) → IsRun b (l ∷ before) → LinkLaws l before)
    → AreLawful baseline events
lawful baseline events run all each = record {
  links = run.0;
  run = run.1;
  tell = run.2;
  all = all baseline run.0 run.1;
  each = λ later l before is. each baseline l before
      (run_before baseline later l before (subst (IsRun baseline) is run.1));
  lacks = λ l at call files is. lacks_in baseline run.0 l call files run.1 at is;
}
