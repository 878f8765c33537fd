use Rattle.std.proofs.Common.{◌≡◌, ◌++◌, ◌∙◌, ap, sym, arith, append_assoc, length, string_bytes, take}
use Rattle.std.proofs.lemmas.List.{length_push, take_all}
use Rattle.std.proofs.lemmas.Slice.Zip.{length-zip, zip_turn, zip_end}
use Rattle.std.specs.Iterator.Adapters.{zip_first, zip_second}
use Rattle.std.specs.List.{flat_map, zip}
use Rattle.std.specs.Slice.Iter.{iter_rest}
use Rattle.agent_parts.specs.Table.{container_line, pod_line}
use Rattle.agent_parts.proofs.Lines.{one_more_row}
use Rattle.agent_parts.proofs.tables.add_pod.Goals as goal

pub loop-container-preserved : goal.loop-container-preserved
loop-container-preserved c =
    let all = c.args.pod.now.containers.all in
    let tracks = c.args.tracks.now in
    let items = c.into_iter-container-iterator.result in
    let first : iter_rest (zip_first items) ≡ all = cc in
    let second : iter_rest (zip_second items) ≡ tracks = cc in
    let turn = zip_turn all tracks c.loop-container.yielded items c.loop-container.container-iterator
    c.next.new.self c.next.result first second c.loop-container.yielded_by (
      c.in-Some.container,
      c.in-Some.track,
    ) c.in-Some.is c.next.ensures.steps in
    let line = container_line c.args.form c.args.reasons.now c.args.counts.now c.args.pod.now.uid c.args.pod.now.policy in
    let one = line (c.in-Some.container.now, c.in-Some.track.now) in
    let so_far = flat_map line (take (length c.loop-container.yielded) (zip all tracks)) in
    let start = string_bytes c.add_phase.new.text in
    c.in_ok-add_container.ensures ∙ ap (λ text. text ++ one) c.loop-container.invariant
    ∙ append_assoc start so_far one
    ∙ ap (λ rest. start ++ rest) (sym (one_more_row line all tracks
    (length c.loop-container.yielded) c.in-Some.container.now c.in-Some.track.now turn.0 turn.1
    (turn.2 c.in-Some.container.now) (turn.3 c.in-Some.track.now)))
    ∙ ap (λ n. start ++ flat_map line (take n (zip all tracks)))
    (sym (length_push c.loop-container.yielded (c.in-Some.container, c.in-Some.track)))

pub returns : goal.returns
returns c =
    let all = c.args.pod.now.containers.all in
    let tracks = c.args.tracks.now in
    let items = c.into_iter-container-iterator.result in
    let first : iter_rest (zip_first items) ≡ all = cc in
    let second : iter_rest (zip_second items) ≡ tracks = cc in
    let end = zip_end all tracks c.loop-container.yielded items c.loop-container.container-iterator
    c.next.new.self c.next.result first second c.loop-container.yielded_by c.in-None.is
    c.next.ensures.steps in
    let line = container_line c.args.form c.args.reasons.now c.args.counts.now c.args.pod.now.uid c.args.pod.now.policy in
    let whole = take_all (length c.loop-container.yielded) (zip all tracks)
    (omega (arith, end, length-zip all tracks)) in
    let rows = flat_map line (zip all tracks) in
    let old = string_bytes c.args.text.now in
    let first = pod_line c.args.form c.args.pod.now c.args.phase in
    c.loop-container.invariant ∙ ap (λ pairs. string_bytes c.add_phase.new.text ++ flat_map line pairs) whole
    ∙ ap (λ text. text ++ rows) c.in_ok-add_phase.ensures ∙ append_assoc old first rows
