-- Where the program ends without a word, why a word of a call ends it, and which words name standard input: this
-- project's own, docs/SEMANTICS.md, "Programs".
use Rattle.std.specs.Prelude.{ℕ, Bool, true, false, List, codes, count_by, if◌then◌else◌, nat_lt}
use Rattle.std.specs.Borrow.{Bor}
use Rattle.std.specs.Str.{bytes_eq}
use Rattle.sys_table.specs.declared.calls.CallTable.{CallTable}
use Rattle.node_io.specs.declared.causes.Cause.TheVariants.{Gone}
use Rattle.seccheck_stops.specs.declared.stop.Stop.{Stop}
use Rattle.seccheck_stops.specs.declared.bad_words.WordFault.TheVariants.{BadCalls, NoArch}
use Rattle.seccheck_stops.specs.declared.stop.Stop.TheVariants.{BadCall, BadNumber, BadWord, Unwritten}
use Rattle.seccheck_words.specs.declared.call_words.BadCallWord.{BadCallWord}
use Rattle.seccheck_words.specs.declared.call_words.BadCallWord.TheVariants as of

-- nobody reads standard output any more
abbrev pub is_silent : Stop → Bool
is_silent (Unwritten Gone) = true
is_silent stop = false

abbrev pub call_stop : CallTable → BadCallWord → Stop
call_stop known (of.Call word) = BadCall known word
call_stop known (of.Arch word) = BadWord word NoArch
call_stop known (of.Number word) = BadNumber word

abbrev pub calls_stop : Bor (List ℕ) → Stop
calls_stop word = BadWord word BadCalls

abbrev pub is_dash : List ℕ → Bool
is_dash word = bytes_eq word (codes "-")

-- whether more than one file is standard input: one of the words may be standard output
abbrev pub reads_twice : Bool → List (List ℕ) → Bool
reads_twice is_written words = nat_lt (if is_written then 2 else 1) (count_by is_dash words)
