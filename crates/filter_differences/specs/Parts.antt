-- The parts into which all calls fall where filters are compared number by number, this project's own:
-- docs/SEMANTICS.md, "Comparing filters".
use Rattle.std.specs.Prelude.{◌≡◌, ◌<◌, ◌≤◌, ℕ, List, Some}
use Rattle.bpf_compare.specs.declared.scope.Scope.{Scope}
use Rattle.bpf_compare.specs.declared.scope.Scope.TheVariants as scope
use Rattle.filter_differences.specs.declared.part.Part.{Part}
use Rattle.filter_differences.specs.declared.part.Part.TheVariants.{Numbers, Later, X32, OtherArchitectures}
use Rattle.sys_table.specs.SysTable.{limit_of, name_in}
use Rattle.sys_table.specs.declared.calls.CallTable.{CallTable}

-- a part's calls, if these calls are known: 0x40000000 is the bit of x32, asm/unistd.h
abbrev pub calls_of : CallTable → Part → Scope
calls_of known (Numbers low high) = scope.Numbers low high
calls_of known Later = scope.Numbers (limit_of known) 0x3fffffff
calls_of known X32 = scope.Numbers 0x40000000 0xffffffff
calls_of known OtherArchitectures = scope.OtherArchitectures

-- numbers of the known calls that are compared together: a number that has a name is alone
pub record IsRun (known : CallTable) (low high : ℕ) : Type 0 where
  pub rises : low ≤ high
  pub inside : high < limit_of known
  pub alone : (number : ℕ) (name : List ℕ) → low ≤ number → number ≤ high → name_in known number ≡ Some name
      → low ≡ high

abbrev pub IsPart : CallTable → Part → Type 0
IsPart known (Numbers low high) = IsRun known low high
IsPart known Later = Unit {0}
IsPart known X32 = Unit {0}
IsPart known OtherArchitectures = Unit {0}

-- the order of the parts: by numbers, and the others after these
abbrev pub first_of : Part → ℕ
first_of (Numbers low high) = low
first_of Later = 0x3fffffff
first_of X32 = 0x40000000
first_of OtherArchitectures = 0x40000001

abbrev pub last_of : Part → ℕ
last_of (Numbers low high) = high
last_of Later = 0x3fffffff
last_of X32 = 0x40000000
last_of OtherArchitectures = 0x40000001
