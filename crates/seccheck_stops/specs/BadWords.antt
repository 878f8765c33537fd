-- The names of the faults of words of a command line, with what would be right: this project's own,
-- docs/SEMANTICS.md, "Programs".
use Rattle.std.specs.Prelude.{ℕ, List, codes}
use Rattle.seccheck_stops.specs.declared.bad_words.WordFault.{WordFault}
use Rattle.seccheck_stops.specs.declared.bad_words.WordFault.TheVariants.{BadCap, BadArch, BadKernel}
use Rattle.seccheck_stops.specs.declared.bad_words.WordFault.TheVariants.{BadAction, BadCalls, BadKind}
use Rattle.seccheck_stops.specs.declared.bad_words.WordFault.TheVariants.{NoArch, ReadTwice}

abbrev pub word_fault_text : WordFault → List ℕ
word_fault_text BadCap = codes "BadCap (give a capability of Linux, as CAP_SYS_ADMIN)"
word_fault_text BadArch = codes "BadArch (give a name, as amd64, or an AUDIT_ARCH number)"
word_fault_text NoArch = codes "BadNumber (give a name, as amd64, or an AUDIT_ARCH number)"
word_fault_text BadKernel = codes "BadKernel (give two numbers, as 6.12)"
word_fault_text BadAction = codes "BadAction (give an action, as 'ERRNO 38')"
word_fault_text BadKind = codes "BadKind (give a kind as lint prints it)"
word_fault_text BadCalls = codes "BadCalls (give a version of Linux, 5.8 or 6.12)"
word_fault_text ReadTwice = codes "ReadTwice (standard input can be read once)"
