-- What is printed where a program ends before its work is done, this project's own: docs/SEMANTICS.md,
-- "Programs". The name of a file, or a word, has its control characters escaped. Nothing is said of a refused
-- command line: its text is clap's.
use Rattle.std.specs.Prelude.{ℕ, List, ◌++◌, codes, Option, Some, None}
use Rattle.node_io.specs.Causes.{cause_text}
use Rattle.node_io.specs.FaultText.{caused_text}
use Rattle.seccheck_output.specs.Compared.{difference_text, reason_of}
use Rattle.fault_notes.specs.Paths.{shown_path}
use Rattle.seccheck_stops.specs.BadWords.{word_fault_text}
use Rattle.seccheck_stops.specs.CallFaults.{call_fault}
use Rattle.seccheck_stops.specs.Refused.{refused_text}
use Rattle.seccheck_stops.specs.declared.stop.Stop.{Stop}
use Rattle.seccheck_stops.specs.declared.stop.Stop.TheVariants.{Refused, Differ, Undecided, CommandLine}
use Rattle.seccheck_stops.specs.declared.stop.Stop.TheVariants.{BadCall, BadNumber, BadWord, File, SameFile}
use Rattle.seccheck_stops.specs.declared.stop.Stop.TheVariants.{Unwritten}
use Rattle.seccheck_stops.specs.declared.stop.Stop.TheVariants.{Memory}

abbrev pub stop_text : Stop → Option (List ℕ)
stop_text (Refused file) = Some (codes "refused " ++ refused_text file.refused ++ codes "\n")
stop_text (Differ difference) = Some (difference_text difference ++ codes "\n")
stop_text (Undecided doubt) = Some (codes "undecided: " ++ reason_of doubt ++ codes "\n")
stop_text (CommandLine error) = None
stop_text (BadNumber word) = Some (codes "seccheck: " ++ shown_path word.now ++ codes ": BadNumber\n")
stop_text (BadCall known word) = Some (codes "seccheck: " ++ shown_path word.now ++ codes ": "
    ++ call_fault known word.now ++ codes "\n")
stop_text (BadWord word fault) = Some (codes "seccheck: " ++ shown_path word.now ++ codes ": "
    ++ word_fault_text fault ++ codes "\n")
stop_text (File path caused) = Some (codes "seccheck: " ++ shown_path path.now ++ codes ": "
    ++ caused_text caused ++ codes "\n")
stop_text (SameFile path) = Some (codes "seccheck: " ++ shown_path path.now
    ++ codes ": Failed (the profile itself)\n")
stop_text (Unwritten cause) = Some (codes "seccheck: standard output: Failed (" ++ cause_text cause
    ++ codes ")\n")
stop_text Memory = Some (codes "seccheck: Memory\n")
