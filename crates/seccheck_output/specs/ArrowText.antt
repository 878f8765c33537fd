-- The text after an instruction, this project's own. Only private functions cite this: `specs/Texts.antt` has
-- the same in one.
use Rattle.std.specs.Prelude.{ℕ, ◌+◌, List, [], ◌++◌, codes}
use Rattle.std.specs.Fmt.{decimal}
use Rattle.bpf_code.specs.declared.insn.Insn.{Insn}
use Rattle.bpf_code.specs.declared.flow.Flow.{Flow}
use Rattle.bpf_code.specs.declared.flow.Flow.TheVariants.{Returns, Jumps, Branches, Continues}
use Rattle.seccheck_output.specs.declared.show.Arrow.{Arrow}
use Rattle.seccheck_output.specs.declared.show.Arrow.TheVariants.{To, Either, Nothing}

abbrev pub arrow_text : Arrow → List ℕ
arrow_text (To place) = codes " -> " ++ decimal place
arrow_text (Either holds fails) = codes " -> " ++ decimal holds ++ codes ", " ++ decimal fails
arrow_text Nothing = []

abbrev pub arrow_of : Flow → ℕ → Insn → Arrow
arrow_of Jumps place insn = To (place + 1 + insn.k)
arrow_of Branches place insn = Either (place + 1 + insn.jt) (place + 1 + insn.jf)
arrow_of Returns place insn = Nothing
arrow_of Continues place insn = Nothing
