-- This project's own: how much code rules take one after another. Only private functions cite this.
use Rattle.std.specs.Prelude.{◌≡◌, ℕ, ◌+◌, ◌%◌, ◌≤◌, ◌<◌, ◌==◌, ◌&&◌, Bool, false, not, nat_le, nat_lt}
use Rattle.std.specs.Prelude.{if◌then◌else◌, List, [], ◌∷◌, All}
use Rattle.bpf_code.specs.declared.limits.TheConstants.{DATA_LEN}
use Rattle.compile.specs.declared.clause.Literal.{Literal}
use Rattle.compile.specs.declared.clause.Literal.TheVariants.{Known, Asked}
use Rattle.compile.specs.declared.clause.Clause.{Clause}
use Rattle.compile.specs.declared.clause.Rule.{Rule}
use Rattle.call_data.specs.declared.sys_call.SysCall.{SysCall}
use Rattle.call_data.specs.CallData.{IsCall}
use Rattle.compile.specs.Residuals.{clauses_hold}
use Rattle.compile.specs.declared.atom.TheConstants.{WHOLE}

-- the instructions of a test after anything, and the steps through it
abbrev pub size_of_literal : Literal → ℕ
size_of_literal (Known holds) = 0
size_of_literal (Asked atom wanted) = if atom.view.mask == WHOLE then 2 else 3

abbrev pub size_of_clause : Clause → ℕ
size_of_clause clause = size_of_literal clause.one + size_of_literal clause.other

abbrev pub size_of_clauses : List Clause → ℕ
size_of_clauses [] = 0
size_of_clauses (clause ∷ clauses) = size_of_clause clause + size_of_clauses clauses

abbrev pub size_of_rules : List Rule → ℕ
size_of_rules [] = 0
size_of_rules (rule ∷ rules) = size_of_clauses rule.clauses.items + size_of_rules rules

-- it asks about a word of the data
abbrev pub IsWithinLiteral : Literal → Type 0
IsWithinLiteral (Known holds) = 0 ≤ 0
IsWithinLiteral (Asked atom wanted) = (atom.view.offset < DATA_LEN) × (atom.view.offset % 4 ≡ 0)

abbrev pub IsWithin : Clause → Type 0
IsWithin clause = IsWithinLiteral clause.one × IsWithinLiteral clause.other

-- it is not known to fail
abbrev pub IsPossible : Clause → Type 0
IsPossible clause = clause.one ≡ Known false → clause.other ≡ Known false → ⊥

-- a rule near to the code after it, whatever it returns
pub record IsFit (rule : Rule) : Type 0 where
  pub possible : All IsPossible rule.clauses.items
  pub within : All IsWithin rule.clauses.items
  pub short : size_of_clauses rule.clauses.items ≤ 36

-- the tests of a literal, at most this many
pub record IsSmall (n : ℕ) (literal : Literal) : Type 0 where
  pub within : IsWithinLiteral literal
  pub short : size_of_literal literal ≤ n

pub record IsSmallClause (n : ℕ) (clause : Clause) : Type 0 where
  pub within : IsWithin clause
  pub short : size_of_clause clause ≤ n

-- clauses were added that require this of a call, in at most this many tests
pub record Says (old new : List Clause) (holds : SysCall → Bool) (n : ℕ) : Type 0 where
  pub same : (call : SysCall) → IsCall call → clauses_hold new call ≡ (clauses_hold old call && holds call)
  pub longer : size_of_clauses new ≤ size_of_clauses old + n
  pub within : All IsWithin old → All IsWithin new

-- how an argument is compared: that it is large, with or without the number itself, or that it is not
abbrev pub is_large : Bool → ℕ → ℕ → Bool
is_large includes value arg = if includes then nat_le value arg else nat_lt value arg

abbrev pub ordered : Bool → Bool → ℕ → ℕ → Bool
ordered includes large value arg = if large then is_large includes value arg
    else not (is_large includes value arg)
