-- Objects of JSON from their parts. Only private functions cite this: `specs/ListObjects.antt` has the same
-- in one.
use Rattle.std.specs.Prelude.{ℕ, List, [], ◌++◌, codes}
use Rattle.std.specs.Fmt.{decimal}
use Rattle.bpf_code.specs.Text.{text_of}
use Rattle.seccheck_output.specs.declared.show.Arrow.{Arrow}
use Rattle.seccheck_output.specs.declared.show.Arrow.TheVariants.{To, Either, Nothing}
use Rattle.seccheck_output.specs.declared.show.Shown.{Shown}
use Rattle.seccheck_output.specs.ListObjects.{comment_member}

abbrev pub arrow_part : Arrow → List ℕ
arrow_part (To place) = codes ",\"to\":[" ++ (decimal place ++ codes "]")
arrow_part (Either holds fails) = codes ",\"to\":[" ++ (decimal holds ++ (codes "," ++ (decimal fails
    ++ codes "]")))
arrow_part Nothing = []

abbrev pub shown_object : Shown → List ℕ
shown_object shown =
    codes "{\"place\":" ++ (decimal shown.place ++ (codes ",\"instruction\":\"" ++ (text_of shown.insn
    ++ (codes "\"" ++ (arrow_part shown.arrow
    ++ (comment_member shown.comment.calls shown.comment.is_number_test shown.comment.nr ++ codes "}"))))))
