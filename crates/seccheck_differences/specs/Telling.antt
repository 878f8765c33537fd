-- What is printed of the calls on which two filters differ: docs/SEMANTICS.md, "Programs".
use Rattle.std.specs.Prelude.{◌≡◌, ◌<◌, ℕ, List, None, IsSomeAnd, length, slice_index_or}
use Rattle.bpf_code.specs.declared.insn.Insn.{Insn}
use Rattle.call_data.specs.declared.sys_call.SysCall.{SysCall}
use Rattle.oci_profile.specs.declared.decision.Decision.{Decision}
use Rattle.oci_profile.specs.declared.profile.Profile.{Profile}
use Rattle.oci_profile.specs.Decision.{value_of}
use Rattle.explain.specs.declared.explanation.Decider.{Decider}
use Rattle.explain.specs.Explained.{Decides}
use Rattle.filter_differences.specs.declared.finding.Finding.{Finding}
use Rattle.filter_differences.specs.declared.finding.Found.{Found}
use Rattle.filter_differences.specs.declared.finding.Found.TheVariants as found
use Rattle.filter_differences.specs.declared.part.Part.{Part}
use Rattle.seccheck_differences.specs.declared.line.Line.{Line}
use Rattle.seccheck_differences.specs.declared.line.Line.TheVariants as line
use Rattle.seccheck_differences.specs.declared.line.SideAnswer.{SideAnswer}
use Rattle.seccheck_differences.specs.declared.sides.Side.{Side}
use Rattle.seccheck_differences.specs.declared.sides.Side.TheVariants as side

-- the filter's instructions
abbrev pub code_of : Side → List Insn
code_of (side.Filter code) = code
code_of (side.Profile compiled) = compiled.filter

-- this decides the call, and with this value
pub record IsDecidedBy (profile : Profile) (call : SysCall) (value : ℕ) (decider : Decider) : Type 0 where
  pub decision : Decision
  pub decides : Decides profile call decider decision
  pub value_is : value_of decision ≡ value

-- what decides the call is added if the side is a profile
abbrev pub IsAnswerOf : Side → SysCall → SideAnswer → Type 0
IsAnswerOf (side.Filter code) call answer = answer.decider ≡ None
IsAnswerOf (side.Profile compiled) call answer =
    IsSomeAnd answer.decider (IsDecidedBy compiled.profile call answer.value)

-- the line has the part, the call and both values, or the doubt
abbrev pub IsLineFor : Side → Side → Part → Found → Line → Type 0
IsLineFor first second part (found.Differs call one other) (line.Differs shown at given here) =
    (shown ≡ part) × (at ≡ call) × (given.value ≡ one) × (here.value ≡ other)
    × IsAnswerOf first call given × IsAnswerOf second call here
IsLineFor first second part (found.Undecided why) (line.Undecided shown reason) = (shown ≡ part) × (reason ≡ why)
IsLineFor first second part (found.Differs call one other) (line.Undecided shown reason) = ⊥
IsLineFor first second part (found.Undecided why) (line.Differs shown at given here) = ⊥

abbrev pub IsLineOf : Side → Side → Finding → Line → Type 0
IsLineOf first second finding line = IsLineFor first second finding.part finding.found line

-- a line for each finding, in order
pub record AreLinesOf (first second : Side) (findings : List Finding) (lines : List Line) : Type 0 where
  pub as_many : length lines ≡ length findings
  pub each : (k : ℕ) (finding : Finding) (line : Line) → k < length findings
      → IsLineOf first second (slice_index_or findings k finding) (slice_index_or lines k line)
