-- The parts of all calls on which two filters were not found to be the same, this project's own:
-- docs/SEMANTICS.md, "Comparing filters".
use Rattle.std.specs.Prelude.{◌<◌, ℕ, List, length, slice_index_or}
use Rattle.bpf_code.specs.declared.insn.Insn.{Insn}
use Rattle.call_data.specs.declared.sys_call.SysCall.{SysCall}
use Rattle.bpf_compare.specs.Agree.{Disagree, IsOf}
use Rattle.filter_differences.specs.declared.finding.Finding.{Finding}
use Rattle.filter_differences.specs.declared.finding.Found.{Found}
use Rattle.filter_differences.specs.declared.finding.Found.TheVariants.{Differs, Undecided}
use Rattle.filter_differences.specs.declared.part.Part.{Part}
use Rattle.filter_differences.specs.Parts.{IsPart, calls_of, first_of, last_of}
use Rattle.sys_table.specs.declared.calls.CallTable.{CallTable}

-- the call is not in the finding's part
abbrev pub Misses : CallTable → SysCall → Finding → Type 0
Misses known call finding = IsOf (calls_of known finding.part) call → ⊥

-- what was found is so: a difference is one
abbrev pub IsFoundOf : List Insn → List Insn → Found → Type 0
IsFoundOf first second (Differs call one other) = Disagree first second call one other
IsFoundOf first second (Undecided why) = Unit {0}

abbrev pub IsTrue : List Insn → List Insn → Finding → Type 0
IsTrue first second finding = IsFoundOf first second finding.found

-- it was found on a call of the part
abbrev pub IsFoundOn : CallTable → Part → Found → Type 0
IsFoundOn known part (Differs call one other) = IsOf (calls_of known part) call
IsFoundOn known part (Undecided why) = Unit {0}

abbrev pub IsOfPart : CallTable → Finding → Type 0
IsOfPart known finding = IsPart known finding.part × IsFoundOn known finding.part finding.found

-- the finding's part comes before this place
abbrev pub IsBelow : ℕ → Finding → Type 0
IsBelow place finding = last_of finding.part < place

-- the parts are in order: each ends before the next begins
abbrev pub Ascend : List Finding → Type 0
Ascend findings = (i j : ℕ) (d : Finding) → i < j → j < length findings
    → last_of (slice_index_or findings i d).part < first_of (slice_index_or findings j d).part
