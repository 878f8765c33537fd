-- What was written, and the calls from this one on, are all together.
use Rattle.std.proofs.Common.{◌≡◌, ◌++◌, drop, string_bytes}
use Rattle.profile_unit.specs.UnitText.{others_text}
use Rattle.profile_unit.proofs.lines.add_others.Given as goal

abbrev pub invariant-loop-call : goal.invariant-loop-call
invariant-loop-call l = string_bytes l.text ++ others_text l.known l.rest (drop l.call-index l.calls)
    ≡ string_bytes l.initial.text ++ others_text l.known l.rest l.calls
