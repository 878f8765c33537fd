-- This project's own: what is left to decide on a number, as entries of clauses over words of a call's data.
-- Only private functions cite this.
use Rattle.std.specs.Prelude.{ℕ, ◌==◌, nat_le, bit_and, not, ◌||◌, Bool, if◌then◌else◌, List, [], ◌∷◌}
use Rattle.std.specs.List.{list_all}
use Rattle.call_data.specs.declared.sys_call.SysCall.{SysCall}
use Rattle.compile.specs.Backward.{data_word}
use Rattle.compile.specs.declared.atom.Ask.{Ask}
use Rattle.compile.specs.declared.atom.Ask.TheVariants.{Equal, AtLeast}
use Rattle.compile.specs.declared.atom.Atom.{Atom}
use Rattle.compile.specs.declared.atom.TheConstants.{WHOLE}
use Rattle.compile.specs.declared.atom.View.{View}
use Rattle.compile.specs.declared.clause.Literal.{Literal}
use Rattle.compile.specs.declared.clause.Literal.TheVariants.{Known, Asked}
use Rattle.compile.specs.declared.clause.Clause.{Clause}
use Rattle.compile.specs.declared.clause.Rule.{Rule}

-- a word under a mask
abbrev pub seen : ℕ → ℕ → ℕ
seen mask word = if mask == WHOLE then word else bit_and word mask

-- the word of a call under the mask of a view
abbrev pub shown : View → SysCall → ℕ
shown view call = seen view.mask (data_word call view.offset)

-- the answer to a question about a number
abbrev pub asks : Ask → ℕ → Bool
asks (Equal k) number = number == k
asks (AtLeast k) number = nat_le k number

abbrev pub atom_holds : Atom → SysCall → Bool
atom_holds atom call = asks atom.ask (shown atom.view call)

abbrev pub literal_holds : Literal → SysCall → Bool
literal_holds (Known holds) call = holds
literal_holds (Asked atom wanted) call = if wanted then atom_holds atom call else not (atom_holds atom call)

abbrev pub clause_holds : Clause → SysCall → Bool
clause_holds clause call = literal_holds clause.one call || literal_holds clause.other call

abbrev pub clauses_hold : List Clause → SysCall → Bool
clauses_hold clauses call = list_all (λ clause. clause_holds clause call) clauses

-- the value of the first rule whose clauses all hold, else this value
abbrev pub first_value : List Rule → ℕ → SysCall → ℕ
first_value [] other call = other
first_value (rule ∷ rules) other call =
    if clauses_hold rule.clauses.items call then rule.value else first_value rules other call
