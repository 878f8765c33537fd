use Rattle.std.proofs.Common.{◌≡◌, string_bytes, take}
use Rattle.seccheck_output.specs.PickText.{container_text}
use Rattle.seccheck_output.specs.Texts.{lines_text}
use Rattle.seccheck_output.proofs.picked.picked_lines.Given as goal

abbrev pub invariant-loop-place : goal.invariant-loop-place
invariant-loop-place l = string_bytes l.text ≡ lines_text (container_text l.pod.profile l.seccomp_default) 0
    (take l.place l.pod.containers.all)
