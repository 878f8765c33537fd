use Rattle.std.proofs.Common.{◌++◌, ◌∙◌, ap, sym, arith, string_bytes, is_some}
use Rattle.std.proofs.lemmas.List.{take_all}
use Rattle.std.specs.List.{flat_map}
use Rattle.agent_parts.specs.Table.{pod_lines, slot_lines}
use Rattle.agent_parts.proofs.Lines.{no_more, one_more_pod}
use Rattle.agent_parts.proofs.tables.told_table.Goals as goal
use Rattle.agent_parts.proofs.tables.told_table.Goals.{in-Some+in_ok-add_pod, in_default}

pub loop-place-preserved : goal.loop-place-preserved
loop-place-preserved c = elim c.match-pod.branch [
  | in-Some+in_ok-add_pod w ↦
      let view = w.in-Some.view in
      let told = w.in-Some.ensures in (
        ap string_bytes w.text-is ∙ w.in_ok-add_pod.ensures
            ∙ ap (λ text. text ++ pod_lines c.args.form c.args.reasons.now c.args.counts.now view.pod.now view.tracks.now
            view.phase) c.loop-place.invariant.0
            ∙ sym (one_more_pod c.args.form c.args.reasons.now c.args.counts.now c.args.node.now.slots c.loop-place.place
            view.pod.now view.tracks.now view.phase told.pod told.tracks told.phase),
        λ _. c.pod.ensures.few,
      )
  | in_default w ↦ (
    ap string_bytes w.text-is ∙ c.loop-place.invariant.0
        ∙ ap (flat_map (slot_lines c.args.form c.args.reasons.now c.args.counts.now))
        (sym (no_more c.args.node.now.slots c.loop-place.place (sym c.pod.ensures.there
        ∙ ap is_some w.in_default.is))),
    λ _. c.pod.ensures.few,
  )
]

pub returns : goal.returns
returns c =
    c.loop-place.invariant.0
    ∙ ap (flat_map (slot_lines c.args.form c.args.reasons.now c.args.counts.now))
    (take_all c.loop-place.place c.args.node.now.slots
    (omega (
      arith,
      c.loop-place-test.false,
      c.loop-place.invariant.1 (omega (arith, c.loop-place-test.false)),
    )))
