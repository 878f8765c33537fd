-- What was not written is the rest of the frame.
use Rattle.std.proofs.Common.{sym, ap, ◌∙◌, take, drop, take-append-drop}
use Rattle.cri_frames.specs.Frames.{frame_of}
use Rattle.runner.proofs.answering.send.Goals as goal

pub returns-clause-cut : goal.returns-clause-cut
returns-clause-cut g c =
    let frame = c.in_ok-frame.frame.items in
    let is = c.in_ok-frame.ensures ∙ ap (frame_of c.args.version) (c.as_slice.ensures.value
    ∙ c.in_ok-text.ensures.text) in
    record {
      written = take c.in-Err.field-0 frame;
      unwritten = drop c.in-Err.field-0 frame;
      whole = sym is ∙ sym (take-append-drop c.in-Err.field-0 frame);
      sent = rw c.as_slice-2.ensures.value at c.in-Err.ensures.some;
    }
