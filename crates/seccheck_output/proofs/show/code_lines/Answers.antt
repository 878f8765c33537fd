use Rattle.std.proofs.Common.{refl, ap, ◌∙◌, ◌++◌, codes, string_bytes}
use Rattle.seccheck_output.specs.Texts.{line_text}
use Rattle.seccheck_output.proofs.Lines.{one_more_line}
use Rattle.seccheck_output.proofs.show.code_lines.Goals as goal

pub loop-place-preserved : goal.loop-place-preserved
loop-place-preserved c =
    let line = c.in_ok-writeln.ensures.bytes
    ∙ ap (λ text. string_bytes c.loop-place.text ++ (text ++ codes "\n")) c.shown_at-line.ensures.text in
    one_more_line (line_text c.args.calls c.args.number_tests.now) c.args.code.now _ c.loop-place.place _
    (string_bytes c.loop-place.text) _ refl c.loop-place-test.true c.loop-place.invariant line
