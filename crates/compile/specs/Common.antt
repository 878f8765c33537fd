-- Re-exports the names that contracts of this crate cite. Declares nothing.
pub use Rattle.bpf_code.specs.declared.insn.Insn.{Insn}
pub use Rattle.bpf_code.specs.declared.limits.TheConstants.{DATA_LEN, MAX_INSNS}
pub use Rattle.bpf_machine.specs.Runs.{Runs}
pub use Rattle.bpf_verify.specs.Sound.{IsSound}
pub use Rattle.call_data.specs.CallData.{IsCall}
pub use Rattle.call_data.specs.declared.sys_call.SysCall.{SysCall}
pub use Rattle.oci_profile.specs.Decision.{value_of}
pub use Rattle.oci_profile.specs.Entries.{AreEntries}
pub use Rattle.oci_profile.specs.Meaning.{all_hold, all_of, chosen, decision_of, entry_weight, holds_on}
pub use Rattle.oci_profile.specs.Meaning.{meaning, names, weight}
pub use Rattle.oci_profile.specs.declared.decision.Decision.{Decision}
pub use Rattle.sys_table.specs.declared.table.TheConstants.{TABLE_LIMIT}
pub use Rattle.compile.specs.Backward.{Builds, Gives, GivesAlways, IsBackward, IsRecent, PointsInside, Puts}
pub use Rattle.compile.specs.Backward.{data_word}
pub use Rattle.compile.specs.Bounds.{AreBare, AreEqualities, HasDigits, IsBare, IsEquality, conditions_at}
pub use Rattle.compile.specs.Bounds.{named, named_below}
pub use Rattle.compile.specs.Points.{Fits, IsRising, IsSearched, value_for}
pub use Rattle.compile.specs.Ranges.{AreRanges, IsAlike, IsBetween}
pub use Rattle.compile.specs.Residuals.{asks, atom_holds, clause_holds, clauses_hold, first_value}
pub use Rattle.compile.specs.Residuals.{literal_holds, seen, shown}
pub use Rattle.compile.specs.Rooms.{IsFit, IsPossible, IsSmall, IsSmallClause, IsWithin, IsWithinLiteral}
pub use Rattle.compile.specs.Rooms.{Says, is_large, ordered, size_of_clause, size_of_clauses, size_of_literal}
pub use Rattle.compile.specs.Rooms.{size_of_rules}
pub use Rattle.compile.specs.Sizes.{AreAsked, IsAsLong, IsEnough, NoneDecides, Suffices, added_below}
pub use Rattle.compile.specs.Sizes.{added_of, settles, steps_at, tree_size}
pub use Rattle.compile.specs.Tests.{holds_of, operation_of}
pub use Rattle.compile.specs.Ways.{Covers, GivesWith, IsProbe, WayGives, taken, told}
pub use Rattle.compile.specs.declared.atom.TheConstants.{NOWHERE, WHOLE}
pub use Rattle.compile.specs.declared.atom.View.{View}
pub use Rattle.compile.specs.declared.clause.Literal.{Literal}
pub use Rattle.compile.specs.declared.code.TheConstants.{REACH, RECENT}
pub use Rattle.compile.specs.declared.fault.CompileFault.{CompileFault}
