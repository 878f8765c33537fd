-- An instruction as it is shown, from its parts. Only private functions cite this: `specs/Texts.antt` has the
-- same in one.
use Rattle.std.specs.Prelude.{ℕ, List, ◌++◌, codes}
use Rattle.std.specs.Fmt.{decimal}
use Rattle.bpf_code.specs.Text.{text_of}
use Rattle.seccheck_output.specs.declared.show.Shown.{Shown}
use Rattle.seccheck_output.specs.ArrowText.{arrow_text}
use Rattle.seccheck_output.specs.Texts.{comment_text}

abbrev pub shown_text : Shown → List ℕ
shown_text shown =
    decimal shown.place ++ codes ": " ++ text_of shown.insn ++ arrow_text shown.arrow
    ++ comment_text shown.comment.calls shown.comment.is_number_test shown.comment.nr
