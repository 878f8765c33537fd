use Rattle.std.proofs.Common.{◌≡◌, ◌<◌, ◌∙◌, ◌++◌, Some, ap, sym, subst, arith, codes, get_or, length}
use Rattle.std.proofs.Common.{slice_get, string_bytes}
use Rattle.std.specs.Prelude.{IfSome}
use Rattle.std.proofs.lemmas.Option.{slice_get-get_or}
use Rattle.profile_pick.specs.Choice.{choice_of, choice_seen}
use Rattle.seccheck_output.specs.PickText.{container_text, profile_text}
use Rattle.seccheck_output.proofs.Lines.{one_more_line}
use Rattle.seccheck_output.proofs.picked.picked_lines.Goals as goal

pub loop-place-preserved : goal.loop-place-preserved
loop-place-preserved c =
    let all = c.args.pod.now.containers.all in
    let items = c.as_slice-container-items.result.now in
    let container = c.container-item.result in
    let place = c.loop-place.place in
    let same : items ≡ all = c.as_slice-container-items.ensures.value in
    let inside : place < length all = omega (arith, c.loop-place-test.true, ap length same) in
    let stands : get_or all place container ≡ container = ap (λ xs. get_or xs place container) (sym same)
    ∙ sym c.container-item.is in
    let found : slice_get all place ≡ Some container = slice_get-get_or all place container inside
    ∙ ap Some stands in
    let chosen : choice_seen c.pick.result
    ≡ choice_of c.args.pod.now.profile container c.args.seccomp_default =
    subst (λ o. IfSome o (λ k. choice_seen c.pick.result
    ≡ choice_of c.args.pod.now.profile k c.args.seccomp_default)) found c.pick.ensures in
    let line = c.in_ok-writeln.ensures.bytes
    ∙ ap (λ text. string_bytes c.loop-place.text ++ (text ++ codes "\n"))
    (c.named-line.ensures ∙ ap (λ choice. container.name ++ (codes " " ++ profile_text choice)) chosen
    ∙ ap (container_text c.args.pod.now.profile c.args.seccomp_default place) c.container-item.is) in
    one_more_line (container_text c.args.pod.now.profile c.args.seccomp_default) all items place container
    (string_bytes c.loop-place.text) _ same c.loop-place-test.true c.loop-place.invariant line
